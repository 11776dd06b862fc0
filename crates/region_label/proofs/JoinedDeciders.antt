-- A decider of the cells of a component, where the values can be told apart.
use Rattle.std.proofs.Common.{◌≡◌, ◌⊎◌, inl, inr, Bool, true, false, List, [], ◌∷◌, Option, Some, None, refl, ap, sym, ◌∙◌, subst}
use Rattle.std.specs.Prelude.{◌&&◌, ◌||◌, Contains, unwrap_or}
use Rattle.std.specs.Bool.{Decides}
use Rattle.std.specs.Option.{option_eq}
use Rattle.std.proofs.lemmas.Bool.{false≢true}
use Rattle.std.proofs.lemmas.Bool.Decides.{Decides-and, Decides-or}
use Rattle.std.proofs.lemmas.Option.{none-some, same_Some}
use Rattle.cell_base.specs.Raster.{Place, Raster, value_at}
use Rattle.cell_base.specs.Steps.{IsStep}
use Rattle.cell_base.specs.Valid.{IsMarked}
use Rattle.cell_base.specs.Walk.{IsWalk, StepsInto}
use Rattle.cell_base.proofs.PlaceDeciders.{same_place, same_place_complete, same_place_sound}
use Rattle.cell_base.proofs.StepDeciders.{is_step, is_step_complete, is_step_sound}
use Rattle.region_label.specs.Component.{HasValue, InComponent}
use Rattle.region_label.proofs.ComponentLemmas.{component_trans}
use Rattle.region_label.proofs.ReachLemmas.{reaches, reaches_one, reaches_sound, reaches_through}

true_is : (o : Option Bool) → Decides (unwrap_or o false) (o ≡ Some true)
true_is None = (λ is. absurd (false≢true is), λ is. absurd (none-some true is))
true_is (Some b) = (λ is. ap (λ (c : Bool). Some c) is, λ is. same_Some b true is)

pub Decides-option_eq : {T : Type 0} (same : T → T → Bool) → ((a b : T) → Decides (same a b) (a ≡ b)) → (v w : Option T) → Decides (option_eq same v w) (v ≡ w)
Decides-option_eq same decides None None = (λ is. refl, λ is. refl)
Decides-option_eq same decides None (Some b) = (λ is. absurd (false≢true is), λ is. absurd (none-some b is))
Decides-option_eq same decides (Some a) None = (λ is. absurd (false≢true is), λ is. absurd (none-some a (sym is)))
Decides-option_eq {T} same decides (Some a) (Some b) = (λ is. ap (λ (c : T). Some c) ((decides a b).0 is), λ is. (decides a b).1 (same_Some a b is))

abbrev is_marked : Raster Bool → Place → Bool
is_marked valid p = unwrap_or (value_at valid p) false

-- two valid cells of one value that are one cell or one step apart
abbrev IsNear : {T : Type 0} → Bool → Raster T → Raster Bool → Place → Place → Type 0
IsNear connectivity cells valid a b = (IsMarked valid a × IsMarked valid b) × ((value_at cells a ≡ value_at cells b) × ((a ≡ b) ⊎ IsStep connectivity a b))

abbrev is_near : {T : Type 0} → (T → T → Bool) → Bool → Raster T → Raster Bool → Place → Place → Bool
is_near same connectivity cells valid a b = (is_marked valid a && is_marked valid b) && (option_eq same (value_at cells a) (value_at cells b) && (same_place a b || is_step connectivity a b))

near_is : {T : Type 0} (same : T → T → Bool) → ((a b : T) → Decides (same a b) (a ≡ b)) → (connectivity : Bool) (cells : Raster T) (valid : Raster Bool) (a b : Place) → Decides (is_near same connectivity cells valid a b) (IsNear connectivity cells valid a b)
near_is same decides connectivity cells valid a b =
    let marked = Decides-and (is_marked valid a) (is_marked valid b) (true_is (value_at valid a)) (true_is (value_at valid b)) in
    let step = Decides-or (same_place a b) (is_step connectivity a b) (same_place_sound a b, same_place_complete a b) (is_step_sound connectivity a b, is_step_complete connectivity a b) in
    Decides-and (is_marked valid a && is_marked valid b) (option_eq same (value_at cells a) (value_at cells b) && (same_place a b || is_step connectivity a b)) marked (Decides-and (option_eq same (value_at cells a) (value_at cells b)) (same_place a b || is_step connectivity a b) (Decides-option_eq same decides (value_at cells a) (value_at cells b)) step)

near_joined : {T : Type 0} (connectivity : Bool) (cells : Raster T) (valid : Raster Bool) (a b : Place) → IsNear connectivity cells valid a b → InComponent connectivity cells valid a b
near_joined connectivity cells valid a b (marked, (value, inl same)) = ((marked.0, refl), [], same)
near_joined connectivity cells valid a b (marked, (value, inr step)) = ((marked.0, refl), b ∷ [], ((step, (marked.1, sym value)), refl))

-- a walk through valid cells of a value is found by a decider that knows them all
walk_reaches : {T : Type 0} (connectivity : Bool) (cells : Raster T) (valid : Raster Bool) (near : Place → Place → Bool) (places : List Place) → ((a b : Place) → IsNear connectivity cells valid a b → near a b ≡ true) → ((p : Place) → IsMarked valid p → Contains places p) → (v : Option T) (a b : Place) (walk : List Place) → HasValue cells valid v a → IsWalk (StepsInto connectivity (HasValue cells valid v)) a walk b → reaches near places a b ≡ true
walk_reaches connectivity cells valid near places is all v a b [] start walked =
    subst (λ (p : Place). reaches near places a p ≡ true) walked (reaches_one near places a a (is a a ((start.0, start.0), (refl, inl refl))))
walk_reaches connectivity cells valid near places is all v a b (c ∷ cs) start walked =
    let next = walked.0.1 in
    reaches_through near places c a b (all c next.0) (reaches_one near places a c (is a c ((start.0, next.0), (start.1 ∙ sym next.1, inr walked.0.0)))) (walk_reaches connectivity cells valid near places is all v c b cs next walked.1)

pub joined_decided : {T : Type 0} (same : T → T → Bool) → ((a b : T) → Decides (same a b) (a ≡ b)) → (connectivity : Bool) (cells : Raster T) (valid : Raster Bool) (places : List Place) → ((p : Place) → IsMarked valid p → Contains places p) → (joined : Place → Place → Bool) × ((a b : Place) → Decides (joined a b) (InComponent connectivity cells valid a b))
joined_decided same decides connectivity cells valid places all =
    let near : Place → Place → Bool = is_near same connectivity cells valid in
    let near_at = near_is same decides connectivity cells valid in (
      reaches near places,
      λ a b. (
        λ is. reaches_sound (InComponent connectivity cells valid) near (component_trans connectivity cells valid) (λ p q one. near_joined connectivity cells valid p q ((near_at p q).0 one)) places a b is,
        λ joined. walk_reaches connectivity cells valid near places (λ p q one. (near_at p q).1 one) all (value_at cells a) a b joined.1 joined.0 joined.2,
      ),
    )
