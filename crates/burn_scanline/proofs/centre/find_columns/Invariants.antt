use Rattle.std.proofs.Common.{◌≡◌, ℕ, ◌<◌, take}
use Rattle.std.specs.Prelude.{count_by, nat_le}
use Rattle.burn_scanline.specs.Inner.Scan.{AreColumnsBelow, passes}
use Rattle.burn_scanline.proofs.centre.find_columns.Given as goal

-- the columns of the edges before this one are found
abbrev pub invariant-loop-i : goal.invariant-loop-i
invariant-loop-i l = record {
  counts : (col : ℕ) → col < l.frame.ncols → count_by (λ x. nat_le x col) l.columns.items ≡ count_by (passes l.frame l.row col) (take l.i l.active);
  within : AreColumnsBelow l.frame.ncols l.columns.items;
}
