use Rattle.std.proofs.Common.{◌++◌, Ok, Err, ℕ, List, arith}
use Rattle.std.specs.Prelude.{codes, decimal}
use Rattle.tool_run.proofs.MessageLemmas.{says_before, says_then}
use Rattle.tool_run.proofs.layer_message.record_said.Goals as goal

pub returns-in_err-say_three : goal.returns-in_err-say_three
returns-in_err-say_three g c =
    let first : List ℕ = c.args.name.now ++ codes ": record " ++ decimal c.args.number in
    let third : List ℕ = c.args.a.now ++ c.args.b.now ++ c.args.c.now in
    let one = rw (c.as_bytes.ensures.value, c.as_bytes-number.ensures.value, c.format.ensures.text) at (c.in_err-say_three.ensures {u = tt}) in
    let cut = says_before (first ++ codes ": " ++ third) (codes "\n") _ _ _ (says_before (first ++ codes ": ") third _ _ _ (says_before first (codes ": ") _ _ _ one)) in
    grind (arith, cut)

pub returns-in_err-say : goal.returns-in_err-say
returns-in_err-say g c =
    let first : List ℕ = c.args.name.now ++ codes ": record " ++ decimal c.args.number in
    let third : List ℕ = c.args.a.now ++ c.args.b.now ++ c.args.c.now in
    let one = rw (c.as_bytes.ensures.value, c.as_bytes-number.ensures.value, c.format.ensures.text) at (c.in_ok-say_three.ensures {u = tt}) in
    let two = says_then first (codes ": ") (Err c.in_err-say.field-0.0) _ _ _ one (c.in_err-say.ensures {u = tt}) in
    let cut = says_before (first ++ codes ": " ++ third) (codes "\n") _ _ _ (says_before (first ++ codes ": ") third _ _ _ two) in
    grind (arith, cut)

pub returns-in_err-say_three-2 : goal.returns-in_err-say_three-2
returns-in_err-say_three-2 g c =
    let first : List ℕ = c.args.name.now ++ codes ": record " ++ decimal c.args.number in
    let third : List ℕ = c.args.a.now ++ c.args.b.now ++ c.args.c.now in
    let one = rw (c.as_bytes.ensures.value, c.as_bytes-number.ensures.value, c.format.ensures.text) at (c.in_ok-say_three.ensures {u = tt}) in
    let two = says_then first (codes ": ") (Ok tt) _ _ _ one (c.in_ok-say.ensures {u = tt}) in
    let three = says_then (first ++ codes ": ") third (Err c.in_err-say_three-2.field-0.0) _ _ _ two (c.in_err-say_three-2.ensures {u = tt}) in
    let cut = says_before (first ++ codes ": " ++ third) (codes "\n") _ _ _ three in
    grind (arith, cut)

pub returns-in_err-say-2 : goal.returns-in_err-say-2
returns-in_err-say-2 g c =
    let first : List ℕ = c.args.name.now ++ codes ": record " ++ decimal c.args.number in
    let third : List ℕ = c.args.a.now ++ c.args.b.now ++ c.args.c.now in
    let one = rw (c.as_bytes.ensures.value, c.as_bytes-number.ensures.value, c.format.ensures.text) at (c.in_ok-say_three.ensures {u = tt}) in
    let two = says_then first (codes ": ") (Ok tt) _ _ _ one (c.in_ok-say.ensures {u = tt}) in
    let three = says_then (first ++ codes ": ") third (Ok tt) _ _ _ two (c.in_ok-say_three-2.ensures {u = tt}) in
    let cut = says_then (first ++ codes ": " ++ third) (codes "\n") (Err c.in_err-say-2.field-0.0) _ _ _ three (c.in_err-say-2.ensures {u = tt}) in
    grind (arith, cut)

pub returns : goal.returns
returns g c =
    let first : List ℕ = c.args.name.now ++ codes ": record " ++ decimal c.args.number in
    let third : List ℕ = c.args.a.now ++ c.args.b.now ++ c.args.c.now in
    let one = rw (c.as_bytes.ensures.value, c.as_bytes-number.ensures.value, c.format.ensures.text) at (c.in_ok-say_three.ensures {u = tt}) in
    let two = says_then first (codes ": ") (Ok tt) _ _ _ one (c.in_ok-say.ensures {u = tt}) in
    let three = says_then (first ++ codes ": ") third (Ok tt) _ _ _ two (c.in_ok-say_three-2.ensures {u = tt}) in
    says_then (first ++ codes ": " ++ third) (codes "\n") (Ok tt) _ _ _ three (c.in_ok-say-2.ensures {u = tt})
