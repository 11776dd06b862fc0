use Rattle.std.proofs.Common.{◌≡◌, ◌+◌, ◌-◌, ◌++◌, ℕ, ℤ, List, to_z, of_z, w64, sym, ap, ◌∙◌, subst, arith}
use Rattle.std.proofs.lemmas.Int.{to_z-of_z}
use Rattle.contour_segments.specs.Segments.{segments_in}
use Rattle.contour_segments.specs.Inner.Blocks.{segments_to}
use Rattle.contour_segments.specs.declared.segment.Segment.{Segment}
use Rattle.contour_segments.proofs.PlaceLemmas.{stands}
use Rattle.contour_segments.proofs.ScanLemmas.{segments_more}
use Rattle.contour_segments.proofs.lattice.Lattice.put.Goals as goal

pub put_cell-requires-clause-row : goal.put_cell-requires-clause-row
put_cell-requires-clause-row c =
    let here = stands (c.args.self.now.cells.now.nrows - 1) (c.args.self.now.cells.now.ncols - 1) c.cells.counter c.cells.place (c.cells.invariant.at c.cells-test.true) in
    omega (arith, here.row)

pub put_cell-requires-clause-col : goal.put_cell-requires-clause-col
put_cell-requires-clause-col c =
    let here = stands (c.args.self.now.cells.now.nrows - 1) (c.args.self.now.cells.now.ncols - 1) c.cells.counter c.cells.place (c.cells.invariant.at c.cells-test.true) in
    omega (arith, here.col)

pub after-place-requires-clause-row : goal.after-place-requires-clause-row
after-place-requires-clause-row c =
    let here = stands (c.args.self.now.cells.now.nrows - 1) (c.args.self.now.cells.now.ncols - 1) c.cells.counter c.cells.place (c.cells.invariant.at c.cells-test.true) in
    omega (arith, here.row)

pub after-place-requires-clause-col : goal.after-place-requires-clause-col
after-place-requires-clause-col c =
    let here = stands (c.args.self.now.cells.now.nrows - 1) (c.args.self.now.cells.now.ncols - 1) c.cells.counter c.cells.place (c.cells.invariant.at c.cells-test.true) in
    omega (arith, here.col)

pub cells-preserved : goal.cells-preserved
cells-preserved c =
    let cells = c.args.self.now.cells.now in
    let valid = c.args.self.now.valid.now in
    let here = c.cells.invariant.at c.cells-test.true in
    let level : to_z w64 (of_z w64 c.args.level) ≡ c.args.level = to_z-of_z w64 c.args.level c.ranges.level in
    let put : c.put_cell.new.out.items ≡ c.cells.out.items ++ segments_in cells valid c.args.level c.cells.place = subst (λ (z : ℤ). c.put_cell.new.out.items ≡ c.cells.out.items ++ segments_in cells valid z c.cells.place) level c.in_ok-put_cell.ensures in
    let before : c.cells.out.items ≡ segments_to cells valid c.args.level c.cells.counter = subst (λ (z : ℤ). c.cells.out.items ≡ segments_to cells valid z c.cells.counter) level c.cells.invariant.items in
    record {
      at = λ more. c.after-place.ensures c.cells.counter here (omega (arith, more, c.requires.within));
      items = subst (λ (z : ℤ). c.put_cell.new.out.items ≡ segments_to cells valid z (c.cells.counter + 1)) (sym level) (put ∙ ap (λ (xs : List Segment). xs ++ segments_in cells valid c.args.level c.cells.place) before ∙ sym (segments_more cells valid c.args.level c.cells.counter c.cells.place here));
    }

pub returns : goal.returns
returns c =
    let end : c.cells.counter ≡ c.args.to = omega (arith, c.cells-test.false, c.cells.auto.counter-end, c.requires.some) in
    let level : to_z w64 (of_z w64 c.args.level) ≡ c.args.level = to_z-of_z w64 c.args.level c.ranges.level in
    subst (λ (z : ℤ). c.cells.out.items ≡ segments_to c.args.self.now.cells.now c.args.self.now.valid.now z c.args.to) level (subst (λ (n : ℕ). c.cells.out.items ≡ segments_to c.args.self.now.cells.now c.args.self.now.valid.now (to_z w64 (of_z w64 c.args.level)) n) end c.cells.invariant.items)
