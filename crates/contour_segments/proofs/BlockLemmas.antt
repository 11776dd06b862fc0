-- The values round blocks of lattice cells, and round groups of blocks.
use Rattle.std.proofs.Common.{◌≡◌, ℕ, ℤ, ◌+◌, ◌-◌, ◌*◌, ◌/◌, ◌<◌, ◌≤◌, ◌⊎◌, inl, inr, Bool, List, [], ◌∷◌, ◌++◌, Some, length, get_or, min, take, drop, sym, ap, ◌∙◌, subst, arith}
use Rattle.std.specs.Prelude.{slice_get}
use Rattle.std.proofs.lemmas.Bool.{cases_lt}
use Rattle.std.proofs.lemmas.Int.{ints}
use Rattle.std.proofs.lemmas.List.{get_or-append-add, get_or_append_left, length-append}
use Rattle.std.proofs.lemmas.Grind.{common_steps}
use Rattle.std.proofs.lemmas.Option.{gets, get_or_from_slice_get, slice_get-get_or, slice_get_within}
use Rattle.std.proofs.Math.Nat.{div-lt_iff_lt-mul}
use Rattle.cell_base.specs.Raster.{AreAligned, Raster, most_cells}
use Rattle.cell_base.proofs.PlaceLemmas.{element_at}
use Rattle.contour_segments.specs.Segments.{lattice_of}
use Rattle.contour_segments.specs.Inner.Blocks.{AreGroups, AreSpans, Covers, IsWider, segments_to}
use Rattle.contour_segments.specs.declared.span.Span.{Span}
use Rattle.contour_segments.proofs.PlaceLemmas.{fewer, places_long}
use Rattle.contour_segments.proofs.ScanLemmas.{covers_wider, segments_same}

pub wider_trans : (a b c : Span) → IsWider a b → IsWider b c → IsWider a c
wider_trans a b c one two = record { low = omega (arith, ints, one.low, two.low); high = omega (arith, ints, one.high, two.high) }

-- what stands in a list with one more at its end
pub pushed_at : {A : Type 0} (xs : List A) (y x : A) (i : ℕ) → slice_get (xs ++ y ∷ []) i ≡ Some x → (slice_get xs i ≡ Some x) ⊎ ((i ≡ length xs) × (y ≡ x))
pushed_at xs y x i at =
    let within : i < length xs + 1 = omega (arith, slice_get_within (xs ++ y ∷ []) i x at, length-append xs (y ∷ [])) in
    let value : get_or (xs ++ y ∷ []) i x ≡ x = get_or_from_slice_get (xs ++ y ∷ []) i x x at in
    elim (cases_lt i (length xs)) [
      | inl before ↦ inl (slice_get-get_or xs i x before ∙ ap Some (sym (get_or_append_left xs (y ∷ []) x i before) ∙ value))
      | inr not_before ↦
          let end : i ≡ length xs + 0 = omega (arith, within, not_before) in
          inr (omega (arith, end), sym (get_or-append-add xs (y ∷ []) 0 x) ∙ ap (λ (k : ℕ). get_or (xs ++ y ∷ []) k x) (sym end) ∙ value)
    ]

-- one span more within
pub within_more : (spans : List Span) (n : ℕ) (old one new : Span) → ((i : ℕ) (span : Span) → i < n → slice_get spans i ≡ Some span → IsWider span old) → slice_get spans n ≡ Some one → IsWider old new → IsWider one new → (i : ℕ) (span : Span) → i < n + 1 → slice_get spans i ≡ Some span → IsWider span new
within_more spans n old one new before at wide_old wide_one i span less at_i = elim (cases_lt i n) [
  | inl earlier ↦ wider_trans span old new (before i span earlier at_i) wide_old
  | inr not_earlier ↦
      let same : n ≡ i = omega (arith, less, not_earlier) in
      let both : Some one ≡ Some span = sym at ∙ ap (λ (k : ℕ). slice_get spans k) same ∙ at_i in
      let spans_same : one ≡ span = cc in
      subst (λ (s : Span). IsWider s new) spans_same wide_one
]

-- a group covers the lattice cells of its blocks
pub group_covers : (cells : Raster ℤ) (valid : Raster Bool) (blocks groups : List Span) (g : ℕ) (group : Span) → AreSpans cells valid blocks → AreGroups blocks groups → slice_get groups g ≡ Some group → Covers cells valid group (g * 4096) ((g + 1) * 4096)
group_covers cells valid blocks groups g group are_blocks are_groups at i place low high at_i =
    let block_size : 0 < 64 = omega arith in
    let within = slice_get_within (lattice_of cells) i place at_i in
    let b = i / 64 in
    let few : b < length blocks = (div-lt_iff_lt-mul {k = 64} {x = i} {y = length blocks} block_size).1 (omega (arith, within, are_blocks.all)) in
    let at_block = element_at blocks b few in
    let block = at_block.0 in
    covers_wider cells valid block group place (are_groups.each g b group block at at_block.1 (omega (arith, low)) (omega (arith, high))) (are_blocks.each b block at_block.1 i place (omega arith) (omega arith) at_i)

-- the segments up to the end of a block, the last of which may be shorter
pub to_end : (cells : Raster ℤ) (valid : Raster Bool) (level : ℤ) (count end to : ℕ) → count ≡ length (lattice_of cells) → to ≡ min count end → segments_to cells valid level to ≡ segments_to cells valid level end
to_end cells valid level count end to is least = elim (cases_lt count end) [
  | inl shorter ↦ segments_same cells valid level to end (omega (arith, is, least, shorter)) (omega (arith, is, shorter))
  | inr longer ↦
      let same : to ≡ end = omega (arith, least, longer) in
      ap (segments_to cells valid level) same
]

-- a block whose end lies past the last lattice cell covers up to that end
pub covers_end : (cells : Raster ℤ) (valid : Raster Bool) (span : Span) (from count end : ℕ) → count ≡ length (lattice_of cells) → Covers cells valid span from (min count end) → Covers cells valid span from end
covers_end cells valid span from count end is covers i place low high at = covers i place low (omega (arith, slice_get_within (lattice_of cells) i place at, is, high)) at

-- what stands in a part of a list
pub part_at : {A : Type 0} (xs : List A) (from n i : ℕ) (x : A) → from ≤ i → i < from + n → slice_get xs i ≡ Some x → slice_get (take n (drop from xs)) (i - from) ≡ Some x
part_at xs from n i x low high at =
    let within = slice_get_within xs i x at in
    let whole : from + (i - from) ≡ i = omega (arith, low) in
    grind (arith, common_steps, gets, whole, at, within)

-- the lattice cells are few
pub lattice_small : (cells : Raster ℤ) (valid : Raster Bool) → AreAligned cells valid → length (lattice_of cells) ≤ most_cells
lattice_small cells valid is = omega (arith, places_long (cells.nrows - 1) (cells.ncols - 1), fewer cells.ncols cells.nrows (cells.nrows - 1) (cells.ncols - 1) (omega arith) (omega arith), is.first.small)

-- a group ends with its last block, or with the last of all
pub rest_same : (cells : Raster ℤ) (valid : Raster Bool) (level : ℤ) (blocks group block : ℕ) → length (lattice_of cells) ≤ blocks * 64 → (min blocks (group * 64 + 64) ≤ block) × (block ≤ group * 64 + 64) → segments_to cells valid level (block * 64) ≡ segments_to cells valid level ((group + 1) * 4096)
rest_same cells valid level blocks group block all end = elim (cases_lt block blocks) [
  | inl within ↦
      let last : block * 64 ≡ (group + 1) * 4096 = omega (arith, end.0, end.1, within) in
      ap (segments_to cells valid level) last
  | inr past ↦ segments_same cells valid level (block * 64) ((group + 1) * 4096) (omega (arith, past, all)) (omega (arith, past, all, end.1))
]
