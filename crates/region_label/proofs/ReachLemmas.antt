-- A decider of what is joined by steps, by walks through more and more nodes.
use Rattle.std.proofs.Common.{◌≡◌, inl, inr, Bool, true, List, [], ◌∷◌, sym, subst, arith}
use Rattle.std.specs.Prelude.{◌&&◌, ◌||◌, Contains}
use Rattle.std.proofs.lemmas.Bool.{and_from, and_parts, or_cases, or_left, or_right}
use Rattle.cell_base.proofs.ListDeciders.{contains_cases}

-- from one node to another with only nodes of the list between them
pub reaches : {A : Type 0} → (A → A → Bool) → List A → A → A → Bool
reaches step [] a b = step a b
reaches step (c ∷ cs) a b = reaches step cs a b || (reaches step cs a c && reaches step cs c b)

pub reaches_sound : {A : Type 0} (joined : A → A → Type 0) (step : A → A → Bool) → ((a b c : A) → joined a b → joined b c → joined a c) → ((a b : A) → step a b ≡ true → joined a b) → (cs : List A) (a b : A) → reaches step cs a b ≡ true → joined a b
unfolding reaches
reaches_sound joined step trans one [] a b is = one a b is
reaches_sound joined step trans one (c ∷ cs) a b is = elim (or_cases (reaches step cs a b) (reaches step cs a c && reaches step cs c b) is) [
  | inl past ↦ reaches_sound joined step trans one cs a b past
  | inr through ↦
      let parts = and_parts (reaches step cs a c) (reaches step cs c b) through in
      trans a c b (reaches_sound joined step trans one cs a c parts.0) (reaches_sound joined step trans one cs c b parts.1)
]

reaches_past : {A : Type 0} (step : A → A → Bool) (c : A) (cs : List A) (a b : A) → reaches step cs a b ≡ true → reaches step (c ∷ cs) a b ≡ true
unfolding reaches
reaches_past step c cs a b is = or_left (reaches step cs a b) (reaches step cs a c && reaches step cs c b) is

reaches_over : {A : Type 0} (step : A → A → Bool) (c : A) (cs : List A) (a b : A) → reaches step cs a c ≡ true → reaches step cs c b ≡ true → reaches step (c ∷ cs) a b ≡ true
unfolding reaches
reaches_over step c cs a b to from = or_right (reaches step cs a b) (reaches step cs a c && reaches step cs c b) (and_from (reaches step cs a c) (reaches step cs c b) to from)

-- a walk to a node, or from it, need not go through it
ends_at : {A : Type 0} (step : A → A → Bool) (c : A) (cs : List A) (a : A) → reaches step (c ∷ cs) a c ≡ true → reaches step cs a c ≡ true
unfolding reaches
ends_at step c cs a is = elim (or_cases (reaches step cs a c) (reaches step cs a c && reaches step cs c c) is) [
  | inl past ↦ past
  | inr through ↦ (and_parts (reaches step cs a c) (reaches step cs c c) through).0
]

starts_at : {A : Type 0} (step : A → A → Bool) (c : A) (cs : List A) (b : A) → reaches step (c ∷ cs) c b ≡ true → reaches step cs c b ≡ true
unfolding reaches
starts_at step c cs b is = elim (or_cases (reaches step cs c b) (reaches step cs c c && reaches step cs c b) is) [
  | inl past ↦ past
  | inr through ↦ (and_parts (reaches step cs c c) (reaches step cs c b) through).1
]

pub reaches_one : {A : Type 0} (step : A → A → Bool) (cs : List A) (a b : A) → step a b ≡ true → reaches step cs a b ≡ true
unfolding reaches
reaches_one step [] a b is = is
reaches_one step (c ∷ cs) a b is = reaches_past step c cs a b (reaches_one step cs a b is)

-- walks that meet at a node of the list are one walk
pub reaches_through : {A : Type 0} (step : A → A → Bool) (cs : List A) (d a b : A) → Contains cs d → reaches step cs a d ≡ true → reaches step cs d b ≡ true → reaches step cs a b ≡ true
unfolding reaches
reaches_through step [] d a b member to from = absurd (omega (arith, member.1))
reaches_through step (c ∷ cs) d a b member to from = elim (contains_cases c cs d member) [
  | inl here ↦ reaches_over step c cs a b (ends_at step c cs a (subst (λ e. reaches step (c ∷ cs) a e ≡ true) (sym here) to)) (starts_at step c cs b (subst (λ e. reaches step (c ∷ cs) e b ≡ true) (sym here) from))
  | inr there ↦ elim (or_cases (reaches step cs a d) (reaches step cs a c && reaches step cs c d) to) [
    | inl to_past ↦ elim (or_cases (reaches step cs d b) (reaches step cs d c && reaches step cs c b) from) [
      | inl from_past ↦ reaches_past step c cs a b (reaches_through step cs d a b there to_past from_past)
      | inr from_over ↦
          let second = and_parts (reaches step cs d c) (reaches step cs c b) from_over in
          reaches_over step c cs a b (reaches_through step cs d a c there to_past second.0) second.1
    ]
    | inr to_over ↦
        let first = and_parts (reaches step cs a c) (reaches step cs c d) to_over in
        elim (or_cases (reaches step cs d b) (reaches step cs d c && reaches step cs c b) from) [
          | inl from_past ↦ reaches_over step c cs a b first.0 (reaches_through step cs d c b there first.1 from_past)
          | inr from_over ↦ reaches_over step c cs a b first.0 (and_parts (reaches step cs d c) (reaches step cs c b) from_over).1
        ]
  ]
]
