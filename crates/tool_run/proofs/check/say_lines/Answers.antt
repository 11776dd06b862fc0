use Rattle.std.proofs.Common.{◌++◌, Ok, Err, ℕ, List, arith}
use Rattle.std.specs.Prelude.{codes}
use Rattle.tool_outcome.specs.Check.{counted_line}
use Rattle.tool_run.proofs.MessageLemmas.{says_before, says_then}
use Rattle.tool_run.proofs.check.say_lines.Goals as goal

pub returns-in_err-say_counted : goal.returns-in_err-say_counted
returns-in_err-say_counted g c =
    let cells : List ℕ = counted_line (codes "cells ") c.args.cells in
    let polygons : List ℕ = counted_line (codes "polygons ") c.args.polygons in
    let bytes : List ℕ = counted_line (codes "layer ") c.args.bytes in
    let cut = says_before (cells ++ polygons ++ bytes) (codes "same\n") _ _ _ (says_before (cells ++ polygons) bytes _ _ _ (says_before cells polygons _ _ _ (c.in_err-say_counted.ensures {u = tt}))) in
    grind (arith, cut)

pub returns-in_err-say_counted-2 : goal.returns-in_err-say_counted-2
returns-in_err-say_counted-2 g c =
    let cells : List ℕ = counted_line (codes "cells ") c.args.cells in
    let polygons : List ℕ = counted_line (codes "polygons ") c.args.polygons in
    let bytes : List ℕ = counted_line (codes "layer ") c.args.bytes in
    let two = says_then cells polygons (Err c.in_err-say_counted-2.field-0.0) _ _ _ (c.in_ok-say_counted.ensures {u = tt}) (c.in_err-say_counted-2.ensures {u = tt}) in
    let cut = says_before (cells ++ polygons ++ bytes) (codes "same\n") _ _ _ (says_before (cells ++ polygons) bytes _ _ _ two) in
    grind (arith, cut)

pub returns-in_err-say_counted-3 : goal.returns-in_err-say_counted-3
returns-in_err-say_counted-3 g c =
    let cells : List ℕ = counted_line (codes "cells ") c.args.cells in
    let polygons : List ℕ = counted_line (codes "polygons ") c.args.polygons in
    let bytes : List ℕ = counted_line (codes "layer ") c.args.bytes in
    let two = says_then cells polygons (Ok tt) _ _ _ (c.in_ok-say_counted.ensures {u = tt}) (c.in_ok-say_counted-2.ensures {u = tt}) in
    let three = says_then (cells ++ polygons) bytes (Err c.in_err-say_counted-3.field-0.0) _ _ _ two (c.in_err-say_counted-3.ensures {u = tt}) in
    let cut = says_before (cells ++ polygons ++ bytes) (codes "same\n") _ _ _ three in
    grind (arith, cut)

pub returns : goal.returns
returns g c =
    let cells : List ℕ = counted_line (codes "cells ") c.args.cells in
    let polygons : List ℕ = counted_line (codes "polygons ") c.args.polygons in
    let bytes : List ℕ = counted_line (codes "layer ") c.args.bytes in
    let two = says_then cells polygons (Ok tt) _ _ _ (c.in_ok-say_counted.ensures {u = tt}) (c.in_ok-say_counted-2.ensures {u = tt}) in
    let three = says_then (cells ++ polygons) bytes (Ok tt) _ _ _ two (c.in_ok-say_counted-3.ensures {u = tt}) in
    says_then (cells ++ polygons ++ bytes) (codes "same\n") c.say.result _ _ _ three c.say.ensures
