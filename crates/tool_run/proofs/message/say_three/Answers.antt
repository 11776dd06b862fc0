use Rattle.std.proofs.Common.{◌++◌, Ok, Err, arith}
use Rattle.tool_run.proofs.MessageLemmas.{says_before, says_then}
use Rattle.tool_run.proofs.message.say_three.Goals as goal

pub returns-in_err-say : goal.returns-in_err-say
returns-in_err-say g c =
    let a = c.args.a.now in
    let b = c.args.b.now in
    let cut = says_before (a ++ b) c.args.c.now _ _ _ (says_before a b _ _ _ (c.in_err-say.ensures {u = tt})) in
    grind (arith, cut)

pub returns-in_err-say-2 : goal.returns-in_err-say-2
returns-in_err-say-2 g c =
    let a = c.args.a.now in
    let b = c.args.b.now in
    let two = says_then a b (Err c.in_err-say-2.field-0.0) _ _ _ (c.in_ok-say.ensures {u = tt}) (c.in_err-say-2.ensures {u = tt}) in
    let cut = says_before (a ++ b) c.args.c.now _ _ _ two in
    grind (arith, cut)

pub returns-in_err-say-3 : goal.returns-in_err-say-3
returns-in_err-say-3 g c =
    let a = c.args.a.now in
    let b = c.args.b.now in
    let two = says_then a b (Ok tt) _ _ _ (c.in_ok-say.ensures {u = tt}) (c.in_ok-say-2.ensures {u = tt}) in
    let cut = says_then (a ++ b) c.args.c.now (Err c.in_err-say-3.field-0.0) _ _ _ two (c.in_err-say-3.ensures {u = tt}) in
    grind (arith, cut)

pub returns : goal.returns
returns g c =
    let a = c.args.a.now in
    let b = c.args.b.now in
    let two = says_then a b (Ok tt) _ _ _ (c.in_ok-say.ensures {u = tt}) (c.in_ok-say-2.ensures {u = tt}) in
    says_then (a ++ b) c.args.c.now (Ok tt) _ _ _ two (c.in_ok-say-3.ensures {u = tt})
