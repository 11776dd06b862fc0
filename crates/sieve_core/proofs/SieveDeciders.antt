-- A decider of sieved grids.
use Rattle.std.proofs.Common.{◌≡◌, ℕ, ◌⊎◌, inl, inr, Bool, true, false, List, Option, Some, None, refl, sym, ap, ◌∙◌, subst, arith}
use Rattle.std.specs.Prelude.{◌==◌, slice_get}
use Rattle.std.proofs.lemmas.Bool.{eqb-true, cases_lt, false≢true}
use Rattle.cell_base.specs.Raster.{Place, Raster, IsInside, IsRaster, value_at}
use Rattle.cell_base.proofs.PlaceLemmas.{inside_from_value}
use Rattle.cell_base.proofs.ListDeciders.{box_by, in_box}
use Rattle.region_label.specs.Labelling.{RegionTable, IsInRegion}
use Rattle.sieve_core.specs.Sieve.{TakesFrom, HasRegionValue, TakesValues}
use Rattle.sieve_core.proofs.SieveLemmas.{takes_once}

abbrev same_value : Option ℕ → Option ℕ → Bool
same_value None None = true
same_value None (Some n) = false
same_value (Some m) None = false
same_value (Some m) (Some n) = m == n

same_sound : (o p : Option ℕ) → same_value o p ≡ true → o ≡ p
same_sound None None is = refl
same_sound None (Some n) is = absurd (false≢true is)
same_sound (Some m) None is = absurd (false≢true is)
same_sound (Some m) (Some n) is = ap (λ (k : ℕ). Some k) (eqb-true m n is)

-- the new value is that of the first cell
abbrev from_first : Raster ℕ → Option ℕ → Option Place → Bool
from_first old new None = false
from_first old new (Some first) = same_value new (value_at old first)

-- the new value is that of the component to take from, or the old one
abbrev from_target : Raster ℕ → RegionTable → Option ℕ → Option ℕ → Option (Option ℕ) → Bool
from_target old regions was now None = false
from_target old regions was now (Some None) = same_value now was
from_target old regions was now (Some (Some m)) = from_first old now (slice_get regions.firsts m)

abbrev from_number : Raster ℕ → RegionTable → List (Option ℕ) → Option ℕ → Option ℕ → Option (Option ℕ) → Bool
from_number old regions targets was now None = false
from_number old regions targets was now (Some None) = same_value now was
from_number old regions targets was now (Some (Some k)) = from_target old regions was now (slice_get targets k)

-- each cell has the value that its component takes, by a list that names for each component the one that it takes from
abbrev pub has_values : RegionTable → List (Option ℕ) → Raster ℕ → Raster ℕ → Bool
has_values regions targets old new =
    in_box regions.numbers.nrows regions.numbers.ncols (λ p. from_number old regions targets (value_at old p) (value_at new p) (value_at regions.numbers p))

-- the list is right
pub record AreTargets (connectivity : Bool) (regions : RegionTable) (st : ℕ) (targets : List (Option ℕ)) : Type 0 where
  pub taken : (k m : ℕ) → slice_get targets k ≡ Some (Some m) → TakesFrom connectivity regions st k m
  pub none : (k : ℕ) → slice_get targets k ≡ Some None → (m : ℕ) → ¬ TakesFrom connectivity regions st k m

first_sound : (old : Raster ℕ) (regions : RegionTable) (m : ℕ) (new : Option ℕ) (o : Option Place) → slice_get regions.firsts m ≡ o → from_first old new o ≡ true → HasRegionValue old regions m new
first_sound old regions m new None at is = absurd (false≢true is)
first_sound old regions m new (Some first) at is = (first, at, sym (same_sound new (value_at old first) is))

target_taken : (connectivity : Bool) (regions : RegionTable) (st : ℕ) (targets : List (Option ℕ)) (old : Raster ℕ) (was now : Option ℕ) (k m : ℕ) (t : Option (Option ℕ)) → AreTargets connectivity regions st targets → TakesFrom connectivity regions st k m → slice_get targets k ≡ t → from_target old regions was now t ≡ true → HasRegionValue old regions m now
target_taken connectivity regions st targets old was now k m None right takes at is = absurd (false≢true is)
target_taken connectivity regions st targets old was now k m (Some None) right takes at is = absurd (right.none k at m takes)
target_taken connectivity regions st targets old was now k m (Some (Some n)) right takes at is =
    let same : n ≡ m = takes_once connectivity regions st k n m (right.taken k n at) takes in
    subst (λ (j : ℕ). HasRegionValue old regions j now) same (first_sound old regions n now (slice_get regions.firsts n) refl is)

target_stays : (connectivity : Bool) (regions : RegionTable) (st : ℕ) (targets : List (Option ℕ)) (old : Raster ℕ) (was now : Option ℕ) (k : ℕ) (t : Option (Option ℕ)) → AreTargets connectivity regions st targets → ((m : ℕ) → ¬ TakesFrom connectivity regions st k m) → slice_get targets k ≡ t → from_target old regions was now t ≡ true → now ≡ was
target_stays connectivity regions st targets old was now k None right takes_none at is = absurd (false≢true is)
target_stays connectivity regions st targets old was now k (Some None) right takes_none at is = same_sound now was is
target_stays connectivity regions st targets old was now k (Some (Some n)) right takes_none at is = absurd (takes_none n (right.taken k n at))

number_stays : (regions : RegionTable) (targets : List (Option ℕ)) (old : Raster ℕ) (was now : Option ℕ) (p : Place) (o : Option (Option ℕ)) → ((k : ℕ) → ¬ (o ≡ Some (Some k))) → from_number old regions targets was now o ≡ true → now ≡ was
number_stays regions targets old was now p None none is = absurd (false≢true is)
number_stays regions targets old was now p (Some None) none is = same_sound now was is
number_stays regions targets old was now p (Some (Some k)) none is = absurd (none k refl)

none_of : (o : Option ℕ) → ((v : ℕ) → ¬ (o ≡ Some v)) → o ≡ None
none_of None none = refl
none_of (Some v) none = absurd (none v refl)

inside_or_not : {T : Type 0} (grid : Raster T) (p : Place) → IsInside grid p ⊎ ¬ IsInside grid p
inside_or_not grid p = elim (cases_lt p.0 grid.nrows) [
  | inl in_row ↦ elim (cases_lt p.1 grid.ncols) [ inl in_col ↦ inl (in_row, in_col) | inr past ↦ inr (λ inside. omega (arith, inside.1, past)) ]
  | inr past ↦ inr (λ inside. omega (arith, inside.0, past))
]

-- outside there is no value
outside_none : (grid : Raster ℕ) (p : Place) → IsRaster grid → ¬ IsInside grid p → value_at grid p ≡ None
outside_none grid p shape out = none_of (value_at grid p) (λ v is. out (inside_from_value grid p v shape is))

pub takes_values_by : (connectivity : Bool) (regions : RegionTable) (st : ℕ) (targets : List (Option ℕ)) (old new : Raster ℕ) → IsRaster regions.numbers → IsRaster old → IsRaster new → regions.numbers.ncols ≡ old.ncols → regions.numbers.nrows ≡ old.nrows → new.ncols ≡ old.ncols → new.nrows ≡ old.nrows → AreTargets connectivity regions st targets → has_values regions targets old new ≡ true → TakesValues connectivity regions st old new
takes_values_by connectivity regions st targets old new shape old_shape new_shape cols rows new_cols new_rows right is =
    let test : Place → Bool = λ p. from_number old regions targets (value_at old p) (value_at new p) (value_at regions.numbers p) in
    let at : (p : Place) → IsInside regions.numbers p → test p ≡ true = λ p inside. box_by regions.numbers.nrows regions.numbers.ncols test p is inside.0 inside.1 in
    let target : (p : Place) (k : ℕ) → IsInRegion regions k p → from_target old regions (value_at old p) (value_at new p) (slice_get targets k) ≡ true =
    λ p k in_k. ap (from_number old regions targets (value_at old p) (value_at new p)) (sym in_k) ∙ at p (inside_from_value regions.numbers p (Some k) shape in_k) in
    record {
      aligned = record { first = old_shape; second = new_shape; ncols = new_cols; nrows = new_rows };
      taken = λ p k m in_k takes. target_taken connectivity regions st targets old (value_at old p) (value_at new p) k m (slice_get targets k) right takes refl (target p k in_k);
      stays = λ p k in_k none. target_stays connectivity regions st targets old (value_at old p) (value_at new p) k (slice_get targets k) right none refl (target p k in_k);
      not_valid = λ p none. elim (inside_or_not regions.numbers p) [
        | inl inside ↦ number_stays regions targets old (value_at old p) (value_at new p) p (value_at regions.numbers p) none (at p inside)
        | inr out ↦ outside_none new p new_shape (λ inside. out (omega (arith, inside.0, rows, new_rows), omega (arith, inside.1, cols, new_cols))) ∙ sym (outside_none old p old_shape (λ inside. out (omega (arith, inside.0, rows), omega (arith, inside.1, cols))))
      ];
    }
