use Rattle.std.proofs.Common.{◌≡◌, ℕ, Option, Some, refl, ap, sym, ◌∙◌, arith}
use Rattle.std.specs.Prelude.{slice_get}
use Rattle.std.proofs.lemmas.Option.{slice_get-get_or}
use Rattle.region_label.proofs.BesideLemmas.{beside_back, few_blocks}
use Rattle.region_label.proofs.ContactLemmas.{free_read, numbered_read}
use Rattle.region_label.proofs.FilledLemmas.{filled_more, filled_skip}
use Rattle.region_label.proofs.lists.RunLists.fill_block.Goals as goal

pub returns-then-is_some : goal.returns-then-is_some
returns-then-is_some g c =
    let components = c.args.self.now.components.items in
    let read : slice_get components c.args.block ≡ Some c.index.result.now = slice_get-get_or components c.args.block c.index.result.now (omega (arith, few_blocks c.args.rows.now c.args.block c.requires.blocks c.requires.block, c.requires.filled.sized.components)) ∙ ap (λ (o : Option ℕ). Some o) (sym c.index.ensures) in
    filled_skip _ _ c.args.self.now c.args.block c.requires.filled (numbered_read components c.args.block c.index.result.now read (sym c.is_some.ensures ∙ c.if-is_some.true))

pub fill_from-requires-clause-free : goal.fill_from-requires-clause-free
fill_from-requires-clause-free g c =
    let components = c.args.self.now.components.items in
    let read : slice_get components c.args.block ≡ Some c.index.result.now = slice_get-get_or components c.args.block c.index.result.now (omega (arith, few_blocks c.args.rows.now c.args.block c.requires.blocks c.requires.block, c.requires.filled.sized.components)) ∙ ap (λ (o : Option ℕ). Some o) (sym c.index.ensures) in
    free_read components c.args.block c.index.result.now read (sym c.is_some.ensures ∙ c.if-is_some.false)

pub returns : goal.returns
returns g c = filled_more _ _ c.args.self.now _ c.fill_from.new.self _ c.args.block (beside_back _ c.args.rows.now) c.requires.filled (few_blocks c.args.rows.now c.args.block c.requires.blocks c.requires.block) refl refl refl c.fill_from.ensures refl refl refl refl
