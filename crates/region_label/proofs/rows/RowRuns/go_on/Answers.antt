use Rattle.std.proofs.Common.{◌≡◌, ◌∙◌, ℕ, Some, ap, refl, sym, arith}
use Rattle.std.specs.Prelude.{slice_get, slice_index}
use Rattle.std.proofs.lemmas.Option.{get_or_from_slice_get, slice_get-get_or}
use Rattle.region_label.specs.declared.blocks.Block.{Block}
use Rattle.region_label.proofs.BlockLemmas.{known_block, put_on}
use Rattle.region_label.proofs.rows.RowRuns.go_on.Goals as goal

pub returns : goal.returns
returns c =
    let blocks = c.args.blocks.now in
    let known = known_block c.args.self.now blocks c.args.above c.args.run c.requires.placed c.requires.before in
    let number : slice_get blocks.of.items c.args.above ≡ Some c.index-b.result.now = slice_get-get_or blocks.of.items c.args.above c.index-b.result.now (omega (arith, c.requires.placed.sized, c.requires.before)) ∙ ap (λ (n : ℕ). Some n) (sym c.index-b.ensures) in
    let in_block : c.index-b.result.now ≡ slice_index blocks.of.items c.args.above = sym (get_or_from_slice_get blocks.of.items c.args.above c.index-b.result.now 0 number) in
    let at_block : slice_get blocks.ends.items c.index-b.result.now ≡ Some c.index-block.result.now = slice_get-get_or blocks.ends.items c.index-b.result.now c.index-block.result.now (omega (arith, known, in_block)) ∙ ap (λ (block : Block). Some block) (sym c.index-block.ensures) in
    put_on c.args.self.now blocks _ _ c.args.above c.args.run c.index-b.result.now _ c.index-block.result.now c.requires.ordered c.requires.apart c.requires.placed c.requires.before c.requires.run c.requires.on in_block at_block c.in_ok-push.ensures.items refl refl refl
