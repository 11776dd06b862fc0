use Rattle.std.proofs.Common.{◌++◌, Ok, Err, ℕ, List, arith}
use Rattle.std.specs.Prelude.{codes, decimal}
use Rattle.tool_run.specs.Inner.Steps.{grid_number, grid_words}
use Rattle.tool_run.proofs.MessageLemmas.{offence_parts, says_before, says_same, says_then}
use Rattle.tool_run.proofs.message.offence_said.Goals as goal

pub returns-in_err-say_three-2 : goal.returns-in_err-say_three-2
returns-in_err-say_three-2 g c =
    let first : List ℕ = c.args.name.now ++ codes ": line " ++ decimal c.args.line in
    let second : List ℕ = codes ": " ++ grid_words c.args.kind ++ grid_number c.args.kind in
    let one = rw (c.as_bytes.ensures.value, c.as_bytes-line.ensures.value, c.format.ensures.text) at (c.in_ok-say_three.ensures {u = tt}) in
    let two = rw (c.as_bytes-words.ensures.value, c.words_of.ensures, c.as_bytes-number.ensures.value, c.number_of.ensures) at (c.in_err-say_three-2.ensures {u = tt}) in
    let cut = says_before (first ++ second) (codes "\n") _ _ _ (says_then first second (Err c.in_err-say_three-2.field-0.0) _ _ _ one two) in
    let line = says_same _ _ _ _ _ (offence_parts c.args.name.now c.args.line c.args.kind) cut in
    grind (arith, line)

pub returns-in_err-say : goal.returns-in_err-say
returns-in_err-say g c =
    let first : List ℕ = c.args.name.now ++ codes ": line " ++ decimal c.args.line in
    let second : List ℕ = codes ": " ++ grid_words c.args.kind ++ grid_number c.args.kind in
    let one = rw (c.as_bytes.ensures.value, c.as_bytes-line.ensures.value, c.format.ensures.text) at (c.in_ok-say_three.ensures {u = tt}) in
    let two = rw (c.as_bytes-words.ensures.value, c.words_of.ensures, c.as_bytes-number.ensures.value, c.number_of.ensures) at (c.in_ok-say_three-2.ensures {u = tt}) in
    let both = says_then first second (Ok tt) _ _ _ one two in
    let cut = says_then (first ++ second) (codes "\n") (Err c.in_err-say.field-0.0) _ _ _ both (c.in_err-say.ensures {u = tt}) in
    let line = says_same _ _ _ _ _ (offence_parts c.args.name.now c.args.line c.args.kind) cut in
    grind (arith, line)

pub returns : goal.returns
returns g c =
    let first : List ℕ = c.args.name.now ++ codes ": line " ++ decimal c.args.line in
    let second : List ℕ = codes ": " ++ grid_words c.args.kind ++ grid_number c.args.kind in
    let one = rw (c.as_bytes.ensures.value, c.as_bytes-line.ensures.value, c.format.ensures.text) at (c.in_ok-say_three.ensures {u = tt}) in
    let two = rw (c.as_bytes-words.ensures.value, c.words_of.ensures, c.as_bytes-number.ensures.value, c.number_of.ensures) at (c.in_ok-say_three-2.ensures {u = tt}) in
    let both = says_then first second (Ok tt) _ _ _ one two in
    let all = says_then (first ++ second) (codes "\n") (Ok tt) _ _ _ both (c.in_ok-say.ensures {u = tt}) in
    says_same _ _ _ _ _ (offence_parts c.args.name.now c.args.line c.args.kind) all
