-- A simple closed walk doesn't run back.
use Rattle.std.proofs.Common.{◌≡◌, ◌≢◌, ℕ, zero, suc, ◌≤◌, ◌<◌, ◌⊎◌, inl, inr, List, [], ◌∷◌, length, get_or, refl, sym, ap, ◌∙◌, arith}
use Rattle.std.specs.Prelude.{AllPairs, Contains}
use Rattle.std.proofs.lemmas.Bool.{cases_order, cases_lt}
use Rattle.cell_base.proofs.ListDeciders.{contains_cases}
use Rattle.edge_trace.specs.Edge.{Corner, Edge, turned}
use Rattle.ring_faces.proofs.RingLemmas.{Leads}
use Rattle.ring_faces.proofs.SimpleLemmas.{starts_of}
use Rattle.ring_faces.proofs.MemberLemmas.{none_in}

leads_next : (a b : Corner) (es : List Edge) → Leads a es b → (k : ℕ) (d : Edge) → suc k < length es → (get_or es (suc k) d).0 ≡ (get_or es k d).1
leads_next a b [] leads k d within = absurd (omega arith)
leads_next a b (x ∷ []) leads k d within = absurd (omega arith)
leads_next a b (x ∷ y ∷ ys) leads zero d within = leads.2.0
leads_next a b (x ∷ y ∷ ys) leads (suc k) d within = leads_next x.1 b (y ∷ ys) leads.2 k d (omega arith)

leads_last : (a b : Corner) (es : List Edge) → Leads a es b → (k : ℕ) (d : Edge) → suc k ≡ length es → (get_or es k d).1 ≡ b
leads_last a b [] leads k d last = absurd (omega arith)
leads_last a b (x ∷ []) leads zero d last = leads.2
leads_last a b (x ∷ []) leads (suc k) d last = absurd (omega arith)
leads_last a b (x ∷ y ∷ ys) leads zero d last = absurd (omega arith)
leads_last a b (x ∷ y ∷ ys) leads (suc k) d last = leads_last x.1 b (y ∷ ys) leads.2 k d (omega arith)

leads_first : (a b : Corner) (es : List Edge) → Leads a es b → (d : Edge) → 0 < length es → (get_or es 0 d).0 ≡ a
leads_first a b [] leads d some = absurd (omega arith)
leads_first a b (x ∷ xs) leads d some = leads.0

-- where a member stands
stands : {A : Type 0} (xs : List A) (x : A) → Contains xs x → (k : ℕ) × (k < length xs) × ((d : A) → get_or xs k d ≡ x)
stands [] x member = absurd (none_in x member)
stands (y ∷ ys) x member = elim (contains_cases y ys x member) [
  | inl here ↦ (0, omega arith, λ d. here)
  | inr there ↦
      let found = stands ys x there in
      (suc found.0, omega (arith, found.1), λ d. found.2 d)
]

start_at : (es : List Edge) (k : ℕ) (d : Edge) (p : Corner) → k < length es → get_or (starts_of es) k p ≡ (get_or es k d).0
start_at [] k d p within = absurd (omega arith)
start_at (x ∷ xs) zero d p within = refl
start_at (x ∷ xs) (suc k) d p within = start_at xs k d p (omega arith)

starts_length : (es : List Edge) → length (starts_of es) ≡ length es
starts_length [] = refl
starts_length (x ∷ xs) = ap suc (starts_length xs)

same_index : (es : List Edge) → AllPairs (λ a b. a ≢ b) (starts_of es) → (i j : ℕ) (d : Edge) → i < length es → j < length es
    → (get_or es i d).0 ≡ (get_or es j d).0 → i ≡ j
same_index es apart i j d in_i in_j same = elim (cases_order i j) [
  | inl is ↦ is
  | inr (inl less) ↦ absurd (apart i j d.0 less (omega (arith, starts_length es)) (start_at es i d d.0 in_i ∙ same ∙ sym (start_at es j d d.0 in_j)))
  | inr (inr more) ↦ absurd (apart j i d.0 more (omega (arith, starts_length es)) (start_at es j d d.0 in_j ∙ sym same ∙ sym (start_at es i d d.0 in_i)))
]

-- the index after another, round the end
abbrev After : ℕ → ℕ → ℕ → Type 0
After n i j = (j ≡ suc i) ⊎ ((suc i ≡ n) × (j ≡ 0))

after_by : (a : Corner) (es : List Edge) → Leads a es a → AllPairs (λ a b. a ≢ b) (starts_of es) → (i j : ℕ) (d : Edge) → i < length es
    → j < length es → (get_or es j d).0 ≡ (get_or es i d).1 → After (length es) i j
after_by a es closed apart i j d in_i in_j same = elim (cases_lt (suc i) (length es)) [
  | inl within ↦ inl (same_index es apart j (suc i) d in_j within (same ∙ sym (leads_next a a es closed i d within)))
  | inr past ↦
      let last : suc i ≡ length es = omega arith in
      inr (last, same_index es apart j 0 d in_j (omega arith) (same ∙ leads_last a a es closed i d last ∙ sym (leads_first a a es closed d (omega arith))))
]

not_both : (n i j : ℕ) → 3 ≤ n → After n i j → After n j i → ⊥
not_both n i j long (inl one) (inl two) = omega arith
not_both n i j long (inl one) (inr two) = omega arith
not_both n i j long (inr one) (inl two) = omega arith
not_both n i j long (inr one) (inr two) = omega arith

pub not_back : (a : Corner) (es : List Edge) → Leads a es a → AllPairs (λ a b. a ≢ b) (starts_of es) → 3 ≤ length es → (e : Edge) → Contains es e
    → ¬ Contains es (turned e)
not_back a es closed apart long e has has_turned =
    let at = stands es e has in
    let back = stands es (turned e) has_turned in
    not_both (length es) at.0 back.0 long
    (after_by a es closed apart at.0 back.0 e at.1 back.1 (ap (λ (f : Edge). f.0) (back.2 e) ∙ sym (ap (λ (f : Edge). f.1) (at.2 e))))
    (after_by a es closed apart back.0 at.0 e back.1 at.1 (ap (λ (f : Edge). f.0) (at.2 e) ∙ sym (ap (λ (f : Edge). f.1) (back.2 e))))
