-- Runs that touch.
use Rattle.std.proofs.Common.{◌≡◌, ℕ, ◌+◌, ◌<◌, ◌≤◌, inl, inr, ℤ, Bool, true, false, List, Option, Some, None, length, get_or, refl, ap, sym, ◌∙◌, subst, arith}
use Rattle.std.specs.Prelude.{is_some, slice_get}
use Rattle.std.proofs.lemmas.Bool.{false≢true}
use Rattle.std.proofs.lemmas.Option.{same_Some, slice_get-get_or}
use Rattle.cell_base.specs.Steps.{step_reach}
use Rattle.region_label.specs.Run.{Run}
use Rattle.region_label.specs.Inner.Lists.{IsContact, IsFree, IsNumbered, Touches}

no_run : Run
no_run = record { row = 0; from = 0; to = 0 }

-- two runs of equal units that touch are in contact
pub contact_of : (connectivity : Bool) (runs : List Run) (units : List ℤ) (i j : ℕ) (u v : ℤ) → i < length runs → j < length runs → slice_get units i ≡ Some u → slice_get units j ≡ Some v → v ≡ u → ((a b : Run) → slice_get runs i ≡ Some a → slice_get runs j ≡ Some b → Touches connectivity a b) → IsContact connectivity runs units i j
contact_of connectivity runs units i j u v in_i in_j at_u at_v same touches =
    let at_i = slice_get-get_or runs i no_run in_i in
    let at_j = slice_get-get_or runs j no_run in_j in
    record {
      first = get_or runs i no_run;
      second = get_or runs j no_run;
      value = u;
      at_first = at_i;
      at_second = at_j;
      first_value = at_u;
      second_value = at_v ∙ ap (λ (w : ℤ). Some w) same;
      touch = touches (get_or runs i no_run) (get_or runs j no_run) at_i at_j;
    }

none_of : (o : Option ℕ) → is_some o ≡ false → o ≡ None
none_of None is = refl
none_of (Some k) is = absurd (false≢true (sym is))

-- a run that was read as none is free
pub free_read : (components : List (Option ℕ)) (i : ℕ) (o : Option ℕ) → slice_get components i ≡ Some o → is_some o ≡ false → IsFree components i
free_read components i o at none = at ∙ ap (λ (x : Option ℕ). Some x) (none_of o none)

some_of : (o : Option ℕ) → is_some o ≡ true → (k : ℕ) × (o ≡ Some k)
some_of None is = absurd (false≢true is)
some_of (Some k) is = (k, refl)

pub numbered_read : (components : List (Option ℕ)) (i : ℕ) (o : Option ℕ) → slice_get components i ≡ Some o → is_some o ≡ true → IsNumbered components i
numbered_read components i o at some =
    let found = some_of o some in
    (found.0, at ∙ ap (λ (x : Option ℕ). Some x) found.1)

-- a contact leads back
pub contact_back : (connectivity : Bool) (runs : List Run) (units : List ℤ) (i j : ℕ) → IsContact connectivity runs units i j → IsContact connectivity runs units j i
contact_back connectivity runs units i j contact = record {
  first = contact.second;
  second = contact.first;
  value = contact.value;
  at_first = contact.at_second;
  at_second = contact.at_first;
  first_value = contact.second_value;
  second_value = contact.first_value;
  touch = (elim contact.touch.0 [ inl up ↦ inr up | inr down ↦ inl down ], contact.touch.2, contact.touch.1);
}

pub corner_small : (connectivity : Bool) → step_reach connectivity ≤ 1
corner_small true = omega arith
corner_small false = omega arith

pub contact_runs : (connectivity : Bool) (runs : List Run) (units : List ℤ) (i j : ℕ) (a b : Run) → slice_get runs i ≡ Some a → slice_get runs j ≡ Some b → IsContact connectivity runs units i j → Touches connectivity a b
contact_runs connectivity runs units i j a b at_a at_b contact =
    let first : contact.first ≡ a = same_Some contact.first a (sym contact.at_first ∙ at_a) in
    let second : contact.second ≡ b = same_Some contact.second b (sym contact.at_second ∙ at_b) in
    subst (λ (r : Run). Touches connectivity r b) first (subst (λ (r : Run). Touches connectivity contact.first r) second contact.touch)

-- a run that begins too late doesn't touch
pub far_after : (connectivity : Bool) (runs : List Run) (units : List ℤ) (i j : ℕ) (a b : Run) → slice_get runs i ≡ Some a → slice_get runs j ≡ Some b → a.to + step_reach connectivity ≤ b.from → ¬ IsContact connectivity runs units i j
far_after connectivity runs units i j a b at_a at_b late contact =
    let touch = contact_runs connectivity runs units i j a b at_a at_b contact in
    omega (arith, touch.2)
