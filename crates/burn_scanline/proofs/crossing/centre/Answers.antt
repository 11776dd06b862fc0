use Rattle.std.proofs.Common.{◌≤◌, ◌*◌, ◌^◌, ℤ, unsigned_abs, subst, sym}
use Rattle.burn_scanline.proofs.ColumnLemmas.{centre_within}
use Rattle.burn_scanline.proofs.crossing.centre.Goals as goal

pub returns-clause-x : goal.returns-clause-x
returns-clause-x c = subst (λ (z : ℤ × ℤ). unsigned_abs z.0 ≤ 8 * 10 ^ 17) (sym c.centre2.ensures) (centre_within c.args.frame.now c.args.row c.args.col c.requires.frame c.requires.row c.requires.col).0

pub returns-clause-y : goal.returns-clause-y
returns-clause-y c = subst (λ (z : ℤ × ℤ). unsigned_abs z.1 ≤ 8 * 10 ^ 17) (sym c.centre2.ensures) (centre_within c.args.frame.now c.args.row c.args.col c.requires.frame c.requires.row c.requires.col).1
