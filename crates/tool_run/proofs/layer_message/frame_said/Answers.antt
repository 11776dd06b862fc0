use Rattle.std.proofs.Common.{◌++◌, Ok, Err, ℕ, List, arith}
use Rattle.std.specs.Prelude.{codes}
use Rattle.tool_run.specs.Inner.Strokes.{frame_number, frame_words}
use Rattle.tool_run.proofs.MessageLemmas.{frame_line_parts, says_before, says_same, says_then}
use Rattle.tool_run.proofs.layer_message.frame_said.Goals as goal

pub returns-in_err-say_three : goal.returns-in_err-say_three
returns-in_err-say_three g c =
    let first : List ℕ = codes "frame: " ++ frame_words c.args.fault ++ frame_number c.args.fault in
    let one = rw (c.as_bytes-words.ensures.value, c.words_of.ensures, c.as_bytes-number.ensures.value, c.number_of.ensures) at (c.in_err-say_three.ensures {u = tt}) in
    let line = says_same _ _ _ _ _ (frame_line_parts c.args.fault) (says_before first (codes "\n") _ _ _ one) in
    grind (arith, line)

pub returns-in_err-say : goal.returns-in_err-say
returns-in_err-say g c =
    let first : List ℕ = codes "frame: " ++ frame_words c.args.fault ++ frame_number c.args.fault in
    let one = rw (c.as_bytes-words.ensures.value, c.words_of.ensures, c.as_bytes-number.ensures.value, c.number_of.ensures) at (c.in_ok-say_three.ensures {u = tt}) in
    let cut = says_then first (codes "\n") (Err c.in_err-say.field-0.0) _ _ _ one (c.in_err-say.ensures {u = tt}) in
    let line = says_same _ _ _ _ _ (frame_line_parts c.args.fault) cut in
    grind (arith, line)

pub returns : goal.returns
returns g c =
    let first : List ℕ = codes "frame: " ++ frame_words c.args.fault ++ frame_number c.args.fault in
    let one = rw (c.as_bytes-words.ensures.value, c.words_of.ensures, c.as_bytes-number.ensures.value, c.number_of.ensures) at (c.in_ok-say_three.ensures {u = tt}) in
    says_same _ _ _ _ _ (frame_line_parts c.args.fault) (says_then first (codes "\n") (Ok tt) _ _ _ one (c.in_ok-say.ensures {u = tt}))
