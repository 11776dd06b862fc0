-- At a threshold of at most 1 the sieved grid is the grid.
use Rattle.std.proofs.Common.{◌≡◌, ℕ, ◌<◌, ◌≤◌, Bool, [], Option, Some, None, length, refl, sym, ◌∙◌, arith}
use Rattle.std.specs.Prelude.{slice_get, slice_index}
use Rattle.std.proofs.lemmas.Option.{none-some, same_Some, slice_get-get_or}
use Rattle.cell_base.specs.Raster.{Place, Raster, value_at}
use Rattle.cell_base.proofs.PlaceLemmas.{same_raster}
use Rattle.region_label.specs.Labelling.{RegionTable, IsLabelling}
use Rattle.region_label.proofs.ComponentLemmas.{component_end, component_itself}
use Rattle.region_label.proofs.LabellingLemmas.{first_of}
use Rattle.sieve_core.specs.Sieve.{IsSieved, TakesFrom, TakesValues, size_of}

-- no component is smaller than one cell
size_some : {T : Type 0} (connectivity : Bool) (cells : Raster T) (valid : Raster Bool) (regions : RegionTable) → IsLabelling connectivity cells valid regions → (k : ℕ) (a : Place) → k < length regions.firsts → slice_get regions.firsts k ≡ Some a → 1 ≤ size_of regions k
size_some connectivity cells valid regions labelled k a within at =
    let at_size : slice_get regions.sizes k ≡ Some (slice_index regions.sizes k) = slice_get-get_or regions.sizes k 0 (omega (arith, within, labelled.sized)) in
    let count = labelled.size k a (slice_index regions.sizes k) at at_size in
    let member = (count.1.all a).1 (component_itself connectivity cells valid a (labelled.first k a at).marked) in
    omega (arith, member.1, count.2)

-- so each takes its own value
takes_own : {T : Type 0} (connectivity : Bool) (cells : Raster T) (valid : Raster Bool) (regions : RegionTable) → IsLabelling connectivity cells valid regions → (st k : ℕ) (a : Place) → st ≤ 1 → k < length regions.firsts → slice_get regions.firsts k ≡ Some a → TakesFrom connectivity regions st k k
takes_own connectivity cells valid regions labelled st k a low within at =
    ([], refl, omega (arith, within), omega (arith, low, size_some connectivity cells valid regions labelled k a within at))

keeps_value : {T : Type 0} (connectivity : Bool) (cells sieved : Raster T) (valid : Raster Bool) (regions : RegionTable) (st : ℕ) → st ≤ 1 → IsLabelling connectivity cells valid regions → TakesValues connectivity regions st cells sieved → (p : Place) (o : Option (Option ℕ)) → value_at regions.numbers p ≡ o → value_at sieved p ≡ value_at cells p
keeps_value connectivity cells sieved valid regions st low labelled takes p None at = takes.not_valid p (λ k in_k. none-some (Some k) (sym at ∙ in_k))
keeps_value connectivity cells sieved valid regions st low labelled takes p (Some None) at = takes.not_valid p (λ k in_k. none-some k (same_Some None (Some k) (sym at ∙ in_k)))
keeps_value connectivity cells sieved valid regions st low labelled takes p (Some (Some k)) at =
    let first = first_of connectivity cells valid regions labelled k p at in
    let own = takes_own connectivity cells valid regions labelled st k first.0 low (labelled.known k p at) first.1 in
    let taken = takes.taken p k k at own in
    sym taken.2 ∙ sym (component_end connectivity cells valid taken.0 p ((labelled.region k taken.0 p taken.1).0 at)).1

pub keeps_all : {T : Type 0} (connectivity : Bool) (cells sieved : Raster T) (valid : Raster Bool) (st : ℕ) → st ≤ 1 → IsSieved connectivity cells valid st sieved → sieved ≡ cells
keeps_all connectivity cells sieved valid st low is =
    same_raster cells sieved is.2.aligned (λ p. keeps_value connectivity cells sieved valid is.0 st low is.1 is.2 p (value_at is.0.numbers p) refl)
