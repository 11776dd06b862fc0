use Rattle.std.proofs.Common.{◌≡◌, unsigned_abs, to_z, of_z, w64, arith}
use Rattle.std.proofs.lemmas.Int.{ints}
use Rattle.burn_scanline.proofs.ColumnLemmas.{least_some, positive_is}
use Rattle.burn_scanline.proofs.crossing.least_steps.Goals as goal

pub returns-then-short-from : goal.returns-then-short-from
returns-then-short-from c =
    let reach = positive_is c.args.reach (grind (arith, ints, c.if-reach-le0.false)) in
    let size = positive_is c.args.size c.requires in
    let r : unsigned_abs (to_z w64 (of_z w64 c.args.reach)) ≡ reach.0 = omega (arith, ints, reach.1) in
    let s : unsigned_abs (to_z w64 (of_z w64 c.args.size)) ≡ size.0 = omega (arith, ints, size.1) in
    least_some c.args.reach c.args.size reach.0 size.0 c.args.count _ reach.1 size.1 size.2 reach.2 (cc (r, s)) (omega (arith, c.if-short-from.true, c.from.ensures))
