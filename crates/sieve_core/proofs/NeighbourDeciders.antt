-- Deciders of neighbours.
use Rattle.std.proofs.Common.{◌≡◌, ℕ, inl, inr, Bool, true, not, Option, Some, None, sym, ap, ◌∙◌}
use Rattle.std.specs.Prelude.{◌==◌, ◌&&◌, ◌||◌, nat_le}
use Rattle.std.proofs.lemmas.Bool.{leb-true, eqb-true, eq-eqb, and_parts, or_cases}
use Rattle.cell_base.specs.Raster.{Place, IsRaster, value_at}
use Rattle.cell_base.proofs.PlaceLemmas.{inside_from_value}
use Rattle.cell_base.proofs.StepDeciders.{is_step, is_step_sound, is_step_complete}
use Rattle.region_label.proofs.RegionDeciders.{is_in_region, is_in_region_sound, is_in_region_complete}
use Rattle.cell_base.proofs.ListDeciders.{box_by, implied, implies, in_box, not_true}
use Rattle.region_label.specs.Labelling.{RegionTable}
use Rattle.sieve_core.specs.Sieve.{IsNextTo, IsLargest, size_of}

-- whether each cell one step from a cell of the component passes a test of its number

abbrev near_all : Bool → RegionTable → ℕ → (Option (Option ℕ) → Bool) → Bool
near_all connectivity regions k test =
    in_box regions.numbers.nrows regions.numbers.ncols (λ p. implies (is_in_region regions k p) (in_box regions.numbers.nrows regions.numbers.ncols (λ q. implies (is_step connectivity p q) (test (value_at regions.numbers q)))))

near_sound : (connectivity : Bool) (regions : RegionTable) (k j : ℕ) (test : Option (Option ℕ) → Bool) → IsRaster regions.numbers → near_all connectivity regions k test ≡ true → IsNextTo connectivity regions k j → test (Some (Some j)) ≡ true
near_sound connectivity regions k j test shape all near =
    let nrows = regions.numbers.nrows in
    let ncols = regions.numbers.ncols in
    let in_p = inside_from_value regions.numbers near.1 (Some k) shape near.3 in
    let in_q = inside_from_value regions.numbers near.2 (Some j) shape near.4 in
    let row = implied (is_in_region regions k near.1) (in_box nrows ncols (λ q. implies (is_step connectivity near.1 q) (test (value_at regions.numbers q)))) (box_by nrows ncols (λ p. implies (is_in_region regions k p) (in_box nrows ncols (λ q. implies (is_step connectivity p q) (test (value_at regions.numbers q))))) near.1 all in_p.0 in_p.1) (is_in_region_complete regions k near.1 near.3) in
    let at = implied (is_step connectivity near.1 near.2) (test (value_at regions.numbers near.2)) (box_by nrows ncols (λ q. implies (is_step connectivity near.1 q) (test (value_at regions.numbers q))) near.2 row in_q.0 in_q.1) (is_step_complete connectivity near.1 near.2 near.5) in
    ap test (sym near.4) ∙ at

-- the number is the component's own, or that of one that isn't larger, and of those as large no lower

abbrev allows : RegionTable → ℕ → ℕ → Option (Option ℕ) → Bool
allows regions k m None = true
allows regions k m (Some None) = true
allows regions k m (Some (Some j)) = (k == j) || (nat_le (size_of regions j) (size_of regions m) && implies (size_of regions j == size_of regions m) (nat_le m j))

abbrev pub is_largest : Bool → RegionTable → ℕ → ℕ → Place → Place → Bool
is_largest connectivity regions k m p q =
    (not (k == m) && ((is_in_region regions k p && is_in_region regions m q) && is_step connectivity p q)) && near_all connectivity regions k (allows regions k m)

allowed : (connectivity : Bool) (regions : RegionTable) (k m j : ℕ) → IsRaster regions.numbers → near_all connectivity regions k (allows regions k m) ≡ true → IsNextTo connectivity regions k j → (nat_le (size_of regions j) (size_of regions m) && implies (size_of regions j == size_of regions m) (nat_le m j)) ≡ true
allowed connectivity regions k m j shape all near =
    elim (or_cases (k == j) (nat_le (size_of regions j) (size_of regions m) && implies (size_of regions j == size_of regions m) (nat_le m j)) (near_sound connectivity regions k j (allows regions k m) shape all near)) [
      | inl same ↦ absurd (near.0 (eqb-true k j same))
      | inr fits ↦ fits
    ]

pub is_largest_sound : (connectivity : Bool) (regions : RegionTable) (k m : ℕ) (p q : Place) → IsRaster regions.numbers → is_largest connectivity regions k m p q ≡ true → IsLargest connectivity regions k m
is_largest_sound connectivity regions k m p q shape is =
    let one = and_parts (not (k == m) && ((is_in_region regions k p && is_in_region regions m q) && is_step connectivity p q)) (near_all connectivity regions k (allows regions k m)) is in
    let two = and_parts (not (k == m)) ((is_in_region regions k p && is_in_region regions m q) && is_step connectivity p q) one.0 in
    let three = and_parts (is_in_region regions k p && is_in_region regions m q) (is_step connectivity p q) two.1 in
    let four = and_parts (is_in_region regions k p) (is_in_region regions m q) three.0 in
    record {
      next_to = ((λ same. not_true (k == m) two.0 (eq-eqb k m same)), p, q, is_in_region_sound regions k p four.0, is_in_region_sound regions m q four.1, is_step_sound connectivity p q three.1);
      largest = λ j near.
          let fits = and_parts (nat_le (size_of regions j) (size_of regions m)) (implies (size_of regions j == size_of regions m) (nat_le m j)) (allowed connectivity regions k m j shape one.1 near) in
          leb-true (size_of regions j) (size_of regions m) fits.0;
      lowest = λ j near same.
          let fits = and_parts (nat_le (size_of regions j) (size_of regions m)) (implies (size_of regions j == size_of regions m) (nat_le m j)) (allowed connectivity regions k m j shape one.1 near) in
          leb-true m j (implied (size_of regions j == size_of regions m) (nat_le m j) fits.1 (eq-eqb (size_of regions j) (size_of regions m) same));
    }

-- no other component is near

abbrev is_own : ℕ → Option (Option ℕ) → Bool
is_own k None = true
is_own k (Some None) = true
is_own k (Some (Some j)) = k == j

abbrev pub is_alone : Bool → RegionTable → ℕ → Bool
is_alone connectivity regions k = near_all connectivity regions k (is_own k)

pub is_alone_sound : (connectivity : Bool) (regions : RegionTable) (k : ℕ) → IsRaster regions.numbers → is_alone connectivity regions k ≡ true → (j : ℕ) → ¬ IsNextTo connectivity regions k j
is_alone_sound connectivity regions k shape is j near = near.0 (eqb-true k j (near_sound connectivity regions k j (is_own k) shape is near))
