use Rattle.std.proofs.Common.{◌≡◌, ◌∙◌, ◌+◌, ◌<◌, ◌∷◌, ◌++◌, [], ℕ, suc, map, pos, ap, arith}
use Rattle.std.specs.Prelude.{◌/◌, ◌%◌}
use Rattle.std.specs.List.{range_with_len}
use Rattle.std.proofs.lemmas.Grind.{common_steps}
use Rattle.std.proofs.lemmas.Int.{ints}
use Rattle.std.proofs.lemmas.List.FromFn.{map-range_with_len_more}
use Rattle.std.proofs.lemmas.Nat.{mod_below}
use Rattle.tool_outcome.specs.Check.{drawn_value, next_number, number_in_turn}
use Rattle.tool_run.proofs.check.draw_cells.Goals as goal

pub cells-preserved : goal.cells-preserved
cells-preserved c =
    let job = c.args.job.now in
    let n : ℕ = c.cells.counter in
    let on : suc n ≡ n + 1 = omega arith in
    let number : c.next_number-number.result ≡ number_in_turn job.seed (suc n) = c.next_number-number.ensures.value ∙ ap next_number c.cells.invariant.number in
    let value : pos (c.next_number-number.result / 65536 % job.values) ≡ drawn_value job n = ap (λ (x : ℕ). pos (x / 65536 % job.values)) number in
    let small : c.next_number-number.result / 65536 % job.values < 256 = omega (arith, mod_below (c.next_number-number.result / 65536) job.values (omega (arith, c.requires.fits.values_from_one)), c.requires.fits.values_most) in
    let more : map (drawn_value job) (range_with_len 0 (n + 1)) ≡ map (drawn_value job) (range_with_len 0 n) ++ drawn_value job n ∷ [] = map-range_with_len_more (drawn_value job) 0 n n (omega arith) in
    record {
      cells = grind (arith, ints, common_steps, c.cells.invariant.cells, more, value, small);
      number = number ∙ ap (number_in_turn job.seed) on;
    }
