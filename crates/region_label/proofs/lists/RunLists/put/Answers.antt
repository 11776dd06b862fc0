use Rattle.std.proofs.Common.{◌≡◌, ◌<◌, Option, ℕ, Some, length, ap, sym, refl, ◌∙◌, arith}
use Rattle.std.specs.Prelude.{slice_get}
use Rattle.std.proofs.lemmas.Option.{same_Some, slice_get-get_or}
use Rattle.region_label.proofs.BesideLemmas.{block_read, low_block, run_kept}
use Rattle.region_label.proofs.SpreadLemmas.{put_is}
use Rattle.region_label.proofs.lists.RunLists.put.Goals as goal

pub block_of-requires : goal.block_of-requires
block_of-requires c = λ some. run_kept c.args.rows.now c.args.at c.requires.blocks c.requires.at some

pub index-component-requires : goal.index-component-requires
index-component-requires c =
    let rows = c.args.rows.now in
    let is = block_read rows c.args.at c.block_of.result c.requires.at c.block_of.ensures.alone c.block_of.ensures.kept in
    omega (arith, low_block rows c.args.at c.block_of.result c.requires.blocks c.requires.at is, c.requires.sized.components, c.args.self.now.components.ok.0)

pub returns-in_default : goal.returns-in_default
returns-in_default c = λ k next is at_next.
    let rows = c.args.rows.now in
    let old = c.args.self.now in
    let component = c.index-component.result.now in
    let block = block_read rows c.args.at c.block_of.result c.requires.at c.block_of.ensures.alone c.block_of.ensures.kept in
    let within = low_block rows c.args.at c.block_of.result c.requires.blocks c.requires.at block in
    let read : slice_get old.components.items c.block_of.result ≡ Some component = slice_get-get_or old.components.items c.block_of.result component (omega (arith, within, c.requires.sized.components)) ∙ ap (λ (o : Option ℕ). Some o) (sym c.index-component.ensures) in
    let is_k : component ≡ Some k = same_Some component (Some k) (sym read ∙ ap (slice_get old.components.items) (sym block) ∙ is) in
    absurd (c.in_default.not-Some k is_k)

pub index-next-requires : goal.index-next-requires
index-next-requires c =
    let rows = c.args.rows.now in
    let old = c.args.self.now in
    let component = c.index-component.result.now in
    let block = block_read rows c.args.at c.block_of.result c.requires.at c.block_of.ensures.alone c.block_of.ensures.kept in
    let within = low_block rows c.args.at c.block_of.result c.requires.blocks c.requires.at block in
    let read : slice_get old.components.items c.block_of.result ≡ Some component = slice_get-get_or old.components.items c.block_of.result component (omega (arith, within, c.requires.sized.components)) ∙ ap (λ (o : Option ℕ). Some o) (sym c.index-component.ensures) in
    let had = c.requires.numbered in
    let is : component ≡ Some had.0 = same_Some component (Some had.0) (sym read ∙ ap (slice_get old.components.items) (sym block) ∙ had.1) in
    let same : c.in-Some.k ≡ had.0 = same_Some c.in-Some.k had.0 (sym c.in-Some.is ∙ is) in
    omega (arith, same, c.requires.known had.0 had.1, old.firsts.ok.0)

pub index_mut-requires-3 : goal.index_mut-requires-3
index_mut-requires-3 c =
    let rows = c.args.rows.now in
    let old = c.args.self.now in
    let component = c.index-component.result.now in
    let block = block_read rows c.args.at c.block_of.result c.requires.at c.block_of.ensures.alone c.block_of.ensures.kept in
    let within = low_block rows c.args.at c.block_of.result c.requires.blocks c.requires.at block in
    let read : slice_get old.components.items c.block_of.result ≡ Some component = slice_get-get_or old.components.items c.block_of.result component (omega (arith, within, c.requires.sized.components)) ∙ ap (λ (o : Option ℕ). Some o) (sym c.index-component.ensures) in
    let had = c.requires.numbered in
    let is : component ≡ Some had.0 = same_Some component (Some had.0) (sym read ∙ ap (slice_get old.components.items) (sym block) ∙ had.1) in
    let same : c.in-Some.k ≡ had.0 = same_Some c.in-Some.k had.0 (sym c.in-Some.is ∙ is) in
    omega (arith, same, c.requires.known had.0 had.1, old.firsts.ok.0)

pub returns : goal.returns
returns c = λ k next is at_next.
    let rows = c.args.rows.now in
    let old = c.args.self.now in
    let component = c.index-component.result.now in
    let block = block_read rows c.args.at c.block_of.result c.requires.at c.block_of.ensures.alone c.block_of.ensures.kept in
    let within = low_block rows c.args.at c.block_of.result c.requires.blocks c.requires.at block in
    let read : slice_get old.components.items c.block_of.result ≡ Some component = slice_get-get_or old.components.items c.block_of.result component (omega (arith, within, c.requires.sized.components)) ∙ ap (λ (o : Option ℕ). Some o) (sym c.index-component.ensures) in
    let is_k : component ≡ Some k = same_Some component (Some k) (sym read ∙ ap (slice_get old.components.items) (sym block) ∙ is) in
    let same : c.in-Some.k ≡ k = same_Some c.in-Some.k k (sym c.in-Some.is ∙ is_k) in
    let in_firsts : c.in-Some.k < length old.firsts.items = omega (arith, same, c.requires.known k is) in
    let first : slice_get old.firsts.items c.in-Some.k ≡ Some c.index-next.result.now = slice_get-get_or old.firsts.items c.in-Some.k c.index-next.result.now in_firsts ∙ ap (λ (n : ℕ). Some n) (sym c.index-next.ensures) in
    put_is c.args.end c.args.at k next c.in-Some.k c.index-next.result.now c.link_to.result component old _ c.in-Some.is is_k first at_next c.link_to.ensures.alone c.link_to.ensures.more (omega (arith, c.requires.at, c.requires.sized.components)) (omega (arith, c.requires.at, c.requires.sized.links)) refl refl refl refl
