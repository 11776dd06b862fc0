use Rattle.std.proofs.Common.{◌≡◌, ◌∙◌, ◌+◌, ◌<◌, ℕ, length, map, ap, get_or, arith}
use Rattle.std.specs.Prelude.{slice_index}
use Rattle.std.specs.List.{range_with_len}
use Rattle.std.proofs.lemmas.List.{get_or_default}
use Rattle.region_parts.specs.Parts.{part_numbers}
use Rattle.region_parts.specs.Inner.Lists.{chain_from, numbers_from}
use Rattle.region_parts.proofs.ChainLemmas.{all_numbers, lists_by, whole_chain}
use Rattle.region_parts.proofs.parts.Parts.of.Goals as goal

pub invariant_of-result : goal.invariant_of-result
invariant_of-result c =
    let linked = c.in_ok-lists.ensures in
    λ k d within.
    (numbers_from c.args.regions.now c.args.others.now k 0, rw (get_or_default c.in_ok-lists.lists.firsts.items k d 0 within) (linked.each k (omega (arith, within, linked.count))))

pub returns : goal.returns
returns c =
    let lists = c.in_ok-lists.lists in
    let linked = c.in_ok-lists.ensures in
    let regions = c.args.regions.now in
    let others = c.args.others.now in
    let each : (k : ℕ) → k < length lists.firsts.items → chain_from lists.links.items (length lists.links.items) (get_or lists.firsts.items k 0) ≡ part_numbers regions others (0 + k) =
    λ k within.
    let number : k ≡ 0 + k = omega arith in
    whole_chain lists.links.items (slice_index lists.firsts.items k) (numbers_from regions others k 0) (linked.each k (omega (arith, within, linked.count)))
    ∙ all_numbers regions others k ∙ ap (part_numbers regions others) number in
    lists_by (part_numbers regions others) (chain_from lists.links.items (length lists.links.items)) lists.firsts.items 0 0 each
    ∙ ap (λ n. map (part_numbers regions others) (range_with_len 0 n)) linked.count
