use Rattle.std.proofs.Common.{◌≡◌, ◌+◌, ◌*◌, ℕ, ℤ, List, to_z, of_z, w64, sym, ap, ◌∙◌, subst, arith}
use Rattle.std.specs.Prelude.{IsTrue, OnOk}
use Rattle.contour_segments.specs.declared.segment.Segment.{Segment}
use Rattle.std.proofs.lemmas.Int.{to_z-of_z}
use Rattle.contour_segments.specs.Inner.Blocks.{Covers, Meets, segments_to}
use Rattle.contour_segments.proofs.BlockLemmas.{lattice_small, to_end}
use Rattle.contour_segments.proofs.ScanLemmas.{segments_skip}
use Rattle.contour_segments.proofs.table.put_block.Goals as goal

pub returns-then-not-meets : goal.returns-then-not-meets
returns-then-not-meets c =
    let cells = c.args.lattice.now.cells.now in
    let valid = c.args.lattice.now.valid.now in
    let level : to_z w64 (of_z w64 c.args.level) ≡ c.args.level = to_z-of_z w64 c.args.level c.ranges.level in
    let end : (c.args.block + 1) * 64 ≡ c.args.block * 64 + 64 = omega arith in
    let none : ¬ Meets c.args.ends c.args.level = λ meets.
    let held : IsTrue c.meets.result = c.meets.ensures.1 (subst (λ (z : ℤ). Meets c.args.ends z) (sym level) meets) in
    grind (arith, held, c.if-not-meets.true) in
    let covers = subst (λ (n : ℕ). Covers cells valid c.args.ends (c.args.block * 64) n) end c.requires.covers in
    c.requires.before ∙ sym (segments_skip cells valid c.args.level c.args.ends (c.args.block * 64) 64 covers none) ∙ ap (segments_to cells valid c.args.level) (sym end)

pub overflow_mul-from : goal.overflow_mul-from
overflow_mul-from c = omega (arith, c.requires.some, lattice_small c.args.lattice.now.cells.now c.args.lattice.now.valid.now c.requires.aligned)

pub returns : goal.returns
returns c =
    let cells = c.args.lattice.now.cells.now in
    let valid = c.args.lattice.now.valid.now in
    let level : to_z w64 (of_z w64 c.args.level) ≡ c.args.level = to_z-of_z w64 c.args.level c.ranges.level in
    let put : OnOk c.put.result (c.put.new.out.items ≡ segments_to cells valid c.args.level c.min-to.result) = subst (λ (z : ℤ). OnOk c.put.result (c.put.new.out.items ≡ segments_to cells valid z c.min-to.result)) level c.put.ensures in
    let end : c.args.block * 64 + 64 ≡ (c.args.block + 1) * 64 = omega arith in
    let whole : segments_to cells valid c.args.level c.min-to.result ≡ segments_to cells valid c.args.level ((c.args.block + 1) * 64) = to_end cells valid c.args.level c.count.result (c.args.block * 64 + 64) c.min-to.result c.count.ensures.value c.min-to.ensures ∙ ap (segments_to cells valid c.args.level) end in
    subst (λ (ys : List Segment). OnOk c.put.result (c.put.new.out.items ≡ ys)) whole put
