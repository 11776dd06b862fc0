use Rattle.std.proofs.Common.{◌++◌, Ok, Err, ℕ, List, arith}
use Rattle.std.specs.Prelude.{codes, decimal}
use Rattle.tool_outcome.specs.Message.{word_text}
use Rattle.tool_run.proofs.MessageLemmas.{says_before, says_then}
use Rattle.tool_run.proofs.message.word_said.Goals as goal

pub returns-in_err-say_three : goal.returns-in_err-say_three
returns-in_err-say_three g c =
    let first : List ℕ = codes "gdal_tools: " ++ word_text c.args.kind ++ codes " at word " in
    let place : List ℕ = decimal c.args.place in
    let one = rw (c.as_bytes.ensures.value, c.word_text.ensures) at (c.in_err-say_three.ensures {u = tt}) in
    let cut = says_before (first ++ place) (codes "\n") _ _ _ (says_before first place _ _ _ one) in
    grind (arith, cut)

pub returns-in_err-say : goal.returns-in_err-say
returns-in_err-say g c =
    let first : List ℕ = codes "gdal_tools: " ++ word_text c.args.kind ++ codes " at word " in
    let place : List ℕ = decimal c.args.place in
    let one = rw (c.as_bytes.ensures.value, c.word_text.ensures) at (c.in_ok-say_three.ensures {u = tt}) in
    let two = rw (c.as_bytes-place.ensures.value, c.format.ensures.text) at (c.in_err-say.ensures {u = tt}) in
    let cut = says_before (first ++ place) (codes "\n") _ _ _ (says_then first place (Err c.in_err-say.field-0.0) _ _ _ one two) in
    grind (arith, cut)

pub returns-in_err-say-2 : goal.returns-in_err-say-2
returns-in_err-say-2 g c =
    let first : List ℕ = codes "gdal_tools: " ++ word_text c.args.kind ++ codes " at word " in
    let place : List ℕ = decimal c.args.place in
    let one = rw (c.as_bytes.ensures.value, c.word_text.ensures) at (c.in_ok-say_three.ensures {u = tt}) in
    let two = rw (c.as_bytes-place.ensures.value, c.format.ensures.text) at (c.in_ok-say.ensures {u = tt}) in
    let both = says_then first place (Ok tt) _ _ _ one two in
    let cut = says_then (first ++ place) (codes "\n") (Err c.in_err-say-2.field-0.0) _ _ _ both (c.in_err-say-2.ensures {u = tt}) in
    grind (arith, cut)

pub returns : goal.returns
returns g c =
    let first : List ℕ = codes "gdal_tools: " ++ word_text c.args.kind ++ codes " at word " in
    let place : List ℕ = decimal c.args.place in
    let one = rw (c.as_bytes.ensures.value, c.word_text.ensures) at (c.in_ok-say_three.ensures {u = tt}) in
    let two = rw (c.as_bytes-place.ensures.value, c.format.ensures.text) at (c.in_ok-say.ensures {u = tt}) in
    let both = says_then first place (Ok tt) _ _ _ one two in
    says_then (first ++ place) (codes "\n") (Ok tt) _ _ _ both (c.in_ok-say-2.ensures {u = tt})
