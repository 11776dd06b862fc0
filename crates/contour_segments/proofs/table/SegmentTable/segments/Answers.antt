use Rattle.std.proofs.Common.{◌≡◌, ◌+◌, ◌*◌, ◌≤◌, ℤ, length, to_z, of_z, w64, sym, ap, ◌∙◌, subst, arith}
use Rattle.std.proofs.lemmas.Int.{ints}
use Rattle.std.proofs.lemmas.Option.{slice_get_read}
use Rattle.cell_base.specs.Raster.{Raster}
use Rattle.contour_segments.specs.Elevation.{Elevation}
use Rattle.contour_segments.specs.Segments.{lattice_of}
use Rattle.contour_segments.specs.Inner.Blocks.{segments_to}
use Rattle.contour_segments.proofs.BlockLemmas.{group_covers}
use Rattle.contour_segments.proofs.ScanLemmas.{segments_alike, segments_past}
use Rattle.contour_segments.proofs.table.SegmentTable.segments.Goals as goal

pub loop-group-init : goal.loop-group-init
loop-group-init c = c.new-out.ensures.items

pub put_group-requires-clause-covers : goal.put_group-requires-clause-covers
put_group-requires-clause-covers c =
    let inside = c.self.inside in
    let at = slice_get_read inside.groups.items c.len-group-end.result c.loop-group.group c.index.result.now (omega (arith, c.len-group-end.ensures)) c.loop-group-test.true c.index.ensures in
    group_covers inside.lattice.cells.now inside.lattice.valid.now inside.blocks.items inside.groups.items c.loop-group.group c.index.result.now c.self.invariant.in_blocks c.self.invariant.in_groups at

pub put_group-requires-clause-before : goal.put_group-requires-clause-before
put_group-requires-clause-before c =
    let inside = c.self.inside in
    let level : c.args.level ≡ to_z w64 (of_z w64 c.units.result) = omega (arith, ints, c.units.ensures) in
    let cells : c.args.self.now.cells ≡ inside.lattice.cells.now = ap (λ (e : Elevation). e.cells) (sym c.self.view_is) in
    let valid : c.args.self.now.valid ≡ inside.lattice.valid.now = ap (λ (e : Elevation). e.valid) (sym c.self.view_is) in
    c.loop-group.invariant ∙ segments_alike c.args.self.now.cells inside.lattice.cells.now c.args.self.now.valid inside.lattice.valid.now c.args.level (to_z w64 (of_z w64 c.units.result)) (c.loop-group.group * 4096) cells valid level

pub loop-group-preserved : goal.loop-group-preserved
loop-group-preserved c =
    let inside = c.self.inside in
    let level : c.args.level ≡ to_z w64 (of_z w64 c.units.result) = omega (arith, ints, c.units.ensures) in
    let cells : c.args.self.now.cells ≡ inside.lattice.cells.now = ap (λ (e : Elevation). e.cells) (sym c.self.view_is) in
    let valid : c.args.self.now.valid ≡ inside.lattice.valid.now = ap (λ (e : Elevation). e.valid) (sym c.self.view_is) in
    let put : c.put_group.new.out.items ≡ segments_to inside.lattice.cells.now inside.lattice.valid.now (to_z w64 (of_z w64 c.units.result)) ((c.loop-group.group + 1) * 4096) = c.in_ok-put_group.ensures in
    put ∙ sym (segments_alike c.args.self.now.cells inside.lattice.cells.now c.args.self.now.valid inside.lattice.valid.now c.args.level (to_z w64 (of_z w64 c.units.result)) ((c.loop-group.group + 1) * 4096) cells valid level)

pub returns : goal.returns
returns c =
    let inside = c.self.inside in
    let cells : c.args.self.now.cells ≡ inside.lattice.cells.now = ap (λ (e : Elevation). e.cells) (sym c.self.view_is) in
    let all : length (lattice_of c.args.self.now.cells) ≤ length inside.blocks.items * 64 = subst (λ (r : Raster ℤ). length (lattice_of r) ≤ length inside.blocks.items * 64) (sym cells) c.self.invariant.in_blocks.all in
    c.of.ensures ∙ c.loop-group.invariant ∙ segments_past c.args.self.now.cells c.args.self.now.valid c.args.level (c.loop-group.group * 4096) (omega (arith, all, c.self.invariant.in_groups.all, c.loop-group-test.false, c.len-group-end.ensures))
