use Rattle.std.proofs.Common.{◌≡◌, ◌∙◌, ◌<◌, ◌++◌, ◌∷◌, [], ℕ, List, Some, length, ap, sym, arith, append_assoc}
use Rattle.std.specs.Prelude.{slice_get, slice_index}
use Rattle.std.proofs.lemmas.Grind.{common_steps}
use Rattle.std.proofs.lemmas.List.{get_or_default, append-nil}
use Rattle.std.proofs.lemmas.Option.{slice_get-get_or, slice_get-map}
use Rattle.region_parts.specs.Inner.Lists.{chain_from}
use Rattle.region_parts.proofs.ChainLemmas.{ended, goes, whole_chain}
use Rattle.region_parts.proofs.parts.Parts.list.Goals as goal

pub parts-init : goal.parts-init
parts-init c =
    let lists = c.self.inside.lists in
    let within : c.args.k < length lists.firsts.items = grind (arith, common_steps, c.requires, c.self.view_is) in
    let chain = c.self.invariant c.args.k 0 within in
    let first : c.index-at.result.now ≡ slice_index lists.firsts.items c.args.k = c.index-at.ensures ∙ get_or_default lists.firsts.items c.args.k _ 0 within in
    record {
      rest = chain.0;
      chain = rw first chain.1;
      whole = ap (λ (xs : List ℕ). xs ++ chain.0) c.clear.ensures.items ∙ sym (whole_chain lists.links.items (slice_index lists.firsts.items c.args.k) chain.0 chain.1);
    }

pub parts-smaller : goal.parts-smaller
parts-smaller c =
    let links = c.self.inside.lists.links.items in
    let within : c.parts.at < length links = grind (arith, common_steps, c.parts-test.true, c.len.ensures) in
    let step = goes links c.parts.at c.parts.invariant.rest c.parts.invariant.chain within in
    let next : c.index-at-in-parts.result.now ≡ slice_index links c.parts.at = c.index-at-in-parts.ensures ∙ get_or_default links c.parts.at _ 0 within in
    omega (arith, next, step.up, step.within, within)

pub parts-preserved : goal.parts-preserved
parts-preserved c =
    let links = c.self.inside.lists.links.items in
    let within : c.parts.at < length links = grind (arith, common_steps, c.parts-test.true, c.len.ensures) in
    let step = goes links c.parts.at c.parts.invariant.rest c.parts.invariant.chain within in
    let next : c.index-at-in-parts.result.now ≡ slice_index links c.parts.at = c.index-at-in-parts.ensures ∙ get_or_default links c.parts.at _ 0 within in
    let pushed = (c.in_ok-push.ensures {u = tt}).items in
    record {
      rest = step.tail;
      chain = rw next step.chain;
      whole = ap (λ (xs : List ℕ). xs ++ step.tail) pushed ∙ append_assoc c.parts.out.items (c.parts.at ∷ []) step.tail ∙ ap (λ (xs : List ℕ). c.parts.out.items ++ xs) (sym step.is) ∙ c.parts.invariant.whole;
    }

pub returns : goal.returns
returns c =
    let lists = c.self.inside.lists in
    let within : c.args.k < length lists.firsts.items = grind (arith, common_steps, c.requires, c.self.view_is) in
    let none = ended lists.links.items c.parts.at c.parts.invariant.rest c.parts.invariant.chain (grind (arith, common_steps, c.parts-test.false, c.len.ensures)) in
    let whole : chain_from lists.links.items (length lists.links.items) (slice_index lists.firsts.items c.args.k) ≡ c.parts.out.items =
    sym c.parts.invariant.whole ∙ ap (λ (xs : List ℕ). c.parts.out.items ++ xs) none ∙ append-nil c.parts.out.items in
    ap (λ (all : List (List ℕ)). slice_get all c.args.k) (sym c.self.view_is)
    ∙ slice_get-map (chain_from lists.links.items (length lists.links.items)) lists.firsts.items c.args.k
    ∙ ap (λ o. Rattle.std.specs.Prelude.option_map (chain_from lists.links.items (length lists.links.items)) o) (slice_get-get_or lists.firsts.items c.args.k 0 within)
    ∙ ap Some whole
