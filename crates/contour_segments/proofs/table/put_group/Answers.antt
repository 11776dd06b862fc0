use Rattle.std.proofs.Common.{◌≡◌, ◌+◌, ◌*◌, ◌<◌, ℕ, ℤ, length, get_or, pos, to_z, of_z, w64, sym, ap, ◌∙◌, subst, arith}
use Rattle.std.specs.Prelude.{IsTrue}
use Rattle.std.proofs.lemmas.Int.{to_z-of_z}
use Rattle.contour_segments.specs.Inner.Blocks.{Covers, Meets, segments_to}
use Rattle.std.proofs.lemmas.Option.{slice_get-get_or}
use Rattle.contour_segments.specs.declared.span.Span.{Span}
use Rattle.contour_segments.proofs.BlockLemmas.{rest_same}
use Rattle.contour_segments.proofs.ScanLemmas.{segments_skip}
use Rattle.contour_segments.proofs.table.put_group.Goals as goal

pub returns-then-not-meets : goal.returns-then-not-meets
returns-then-not-meets c =
    let cells = c.args.lattice.now.cells.now in
    let valid = c.args.lattice.now.valid.now in
    let level : to_z w64 (of_z w64 c.args.level) ≡ c.args.level = to_z-of_z w64 c.args.level c.ranges.level in
    let end : (c.args.group + 1) * 4096 ≡ c.args.group * 4096 + 4096 = omega arith in
    let none : ¬ Meets c.args.ends c.args.level = λ meets.
    let held : IsTrue c.meets.result = c.meets.ensures.1 (subst (λ (z : ℤ). Meets c.args.ends z) (sym level) meets) in
    grind (arith, held, c.if-not-meets.true) in
    let covers = subst (λ (n : ℕ). Covers cells valid c.args.ends (c.args.group * 4096) n) end c.requires.covers in
    c.requires.before ∙ sym (segments_skip cells valid c.args.level c.args.ends (c.args.group * 4096) 4096 covers none) ∙ ap (segments_to cells valid c.args.level) (sym end)

pub loop-block-init : goal.loop-block-init
loop-block-init c =
    let cells = c.args.lattice.now.cells.now in
    let valid = c.args.lattice.now.valid.now in
    let level : to_z w64 (of_z w64 c.args.level) ≡ c.args.level = to_z-of_z w64 c.args.level c.ranges.level in
    let first : c.args.group * 4096 ≡ c.args.group * 64 * 64 = omega arith in
    subst (λ (z : ℤ). c.args.out.now.items ≡ segments_to cells valid z (c.args.group * 64 * 64)) (sym level) (c.requires.before ∙ ap (segments_to cells valid c.args.level) first)

pub put_block-requires-clause-some : goal.put_block-requires-clause-some
put_block-requires-clause-some c = c.requires.blocks.some c.loop-block.block (omega (arith, c.loop-block-test.true, c.min-block-end.ensures))

pub put_block-requires-clause-covers : goal.put_block-requires-clause-covers
put_block-requires-clause-covers c =
    let none : Span = record { low = pos 0; high = pos 0 } in
    let within : c.loop-block.block < length c.args.blocks.now = omega (arith, c.loop-block-test.true, c.min-block-end.ensures) in
    c.requires.blocks.each c.loop-block.block (get_or c.args.blocks.now c.loop-block.block none) (slice_get-get_or c.args.blocks.now c.loop-block.block none within)

pub put_block-requires-clause-before : goal.put_block-requires-clause-before
put_block-requires-clause-before c = c.loop-block.invariant

pub loop-block-preserved : goal.loop-block-preserved
loop-block-preserved c = c.in_ok-put_block.ensures

pub returns : goal.returns
returns c =
    let cells = c.args.lattice.now.cells.now in
    let valid = c.args.lattice.now.valid.now in
    let level : to_z w64 (of_z w64 c.args.level) ≡ c.args.level = to_z-of_z w64 c.args.level c.ranges.level in
    let put : c.loop-block.out.items ≡ segments_to cells valid c.args.level (c.loop-block.block * 64) = subst (λ (z : ℤ). c.loop-block.out.items ≡ segments_to cells valid z (c.loop-block.block * 64)) level c.loop-block.invariant in
    put ∙ rest_same cells valid c.args.level (length c.args.blocks.now) c.args.group c.loop-block.block c.requires.blocks.all (omega (arith, c.loop-block-test.false, c.min-block-end.ensures), omega (arith, c.loop-block.auto.block-end, c.min-block-end.ensures, c.requires.some))
