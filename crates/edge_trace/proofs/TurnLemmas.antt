-- Which of the four cells round a corner follow one another. Places are counted clockwise from the upper left.
use Rattle.std.proofs.Common.{◌≡◌, ◌≢◌, ℕ, zero, suc, ◌<◌, ◌⊎◌, inl, inr, Bool, true, false, refl, sym, ◌∙◌, ap, subst, arith}
use Rattle.std.proofs.lemmas.Bool.{false≢true}

abbrev pub onward : ℕ → ℕ
onward zero = 1
onward (suc zero) = 2
onward (suc (suc zero)) = 3
onward (suc (suc (suc n))) = 0

abbrev pub across : ℕ → ℕ
across zero = 2
across (suc zero) = 3
across (suc (suc zero)) = 0
across (suc (suc (suc n))) = 1

abbrev pub back : ℕ → ℕ
back zero = 3
back (suc zero) = 0
back (suc (suc zero)) = 1
back (suc (suc (suc n))) = 2

-- an edge round the cell at this place ends at the corner, or begins there: the cell is in the set, and the one beyond isn't

abbrev pub IsIn : (ℕ → Bool) → ℕ → Type 0
IsIn b j = (b j ≡ true) × (b (back j) ≡ false)

abbrev pub IsOut : (ℕ → Bool) → ℕ → Type 0
IsOut b j = (b j ≡ true) × (b (onward j) ≡ false)

-- the cell across if it is in the set, else the next cell, else the same
abbrev pub Leads : (ℕ → Bool) → ℕ → ℕ → Type 0
Leads b j m = ((m ≡ across j) × (b (across j) ≡ true)) ⊎ (((m ≡ onward j) × (b (across j) ≡ false) × (b (onward j) ≡ true)) ⊎ ((m ≡ j) × (b (across j) ≡ false) × (b (onward j) ≡ false)))

-- the way back
abbrev IsSource : (ℕ → Bool) → ℕ → ℕ → Type 0
IsSource b m i = ((i ≡ across m) × (b (across m) ≡ true)) ⊎ (((i ≡ back m) × (b (across m) ≡ false) × (b (back m) ≡ true)) ⊎ ((i ≡ m) × (b (across m) ≡ false) × (b (back m) ≡ false)))

source : (b : ℕ → Bool) (i m : ℕ) → i < 4 → IsIn b i → Leads b i m → IsSource b m i
source b zero m few is (inl right) = subst (λ (n : ℕ). IsSource b n 0) (sym right.0) (inl (refl, is.0))
source b zero m few is (inr (inl straight)) = subst (λ (n : ℕ). IsSource b n 0) (sym straight.0) (inr (inl (refl, is.1, is.0)))
source b zero m few is (inr (inr left)) = subst (λ (n : ℕ). IsSource b n 0) (sym left.0) (inr (inr (refl, left.1, is.1)))
source b (suc zero) m few is (inl right) = subst (λ (n : ℕ). IsSource b n 1) (sym right.0) (inl (refl, is.0))
source b (suc zero) m few is (inr (inl straight)) = subst (λ (n : ℕ). IsSource b n 1) (sym straight.0) (inr (inl (refl, is.1, is.0)))
source b (suc zero) m few is (inr (inr left)) = subst (λ (n : ℕ). IsSource b n 1) (sym left.0) (inr (inr (refl, left.1, is.1)))
source b (suc (suc zero)) m few is (inl right) = subst (λ (n : ℕ). IsSource b n 2) (sym right.0) (inl (refl, is.0))
source b (suc (suc zero)) m few is (inr (inl straight)) = subst (λ (n : ℕ). IsSource b n 2) (sym straight.0) (inr (inl (refl, is.1, is.0)))
source b (suc (suc zero)) m few is (inr (inr left)) = subst (λ (n : ℕ). IsSource b n 2) (sym left.0) (inr (inr (refl, left.1, is.1)))
source b (suc (suc (suc zero))) m few is (inl right) = subst (λ (n : ℕ). IsSource b n 3) (sym right.0) (inl (refl, is.0))
source b (suc (suc (suc zero))) m few is (inr (inl straight)) = subst (λ (n : ℕ). IsSource b n 3) (sym straight.0) (inr (inl (refl, is.1, is.0)))
source b (suc (suc (suc zero))) m few is (inr (inr left)) = subst (λ (n : ℕ). IsSource b n 3) (sym left.0) (inr (inr (refl, left.1, is.1)))
source b (suc (suc (suc (suc i)))) m few is leads = absurd (omega (arith, few))

not_both : {A : Type 0} (a : Bool) → a ≡ true → a ≡ false → A
not_both a is isnt = absurd (false≢true (sym isnt ∙ is))

same_source : (b : ℕ → Bool) (m i j : ℕ) → IsSource b m i → IsSource b m j → i ≡ j
same_source b m i j (inl x) (inl y) = x.0 ∙ sym y.0
same_source b m i j (inl x) (inr (inl y)) = not_both (b (across m)) x.1 y.1
same_source b m i j (inl x) (inr (inr y)) = not_both (b (across m)) x.1 y.1
same_source b m i j (inr (inl x)) (inl y) = not_both (b (across m)) y.1 x.1
same_source b m i j (inr (inl x)) (inr (inl y)) = x.0 ∙ sym y.0
same_source b m i j (inr (inl x)) (inr (inr y)) = not_both (b (back m)) x.2 y.2
same_source b m i j (inr (inr x)) (inl y) = not_both (b (across m)) y.1 x.1
same_source b m i j (inr (inr x)) (inr (inl y)) = not_both (b (back m)) y.2 x.2
same_source b m i j (inr (inr x)) (inr (inr y)) = x.0 ∙ sym y.0

-- no two edges lead to the same
pub leads_apart : (b : ℕ → Bool) (i j m : ℕ) → i < 4 → j < 4 → IsIn b i → IsIn b j → Leads b i m → Leads b j m → i ≡ j
leads_apart b i j m few_i few_j in_i in_j to_i to_j = same_source b m i j (source b i m few_i in_i to_i) (source b j m few_j in_j to_j)

-- an edge that begins at the corner is round the same cell, the next or the one across
out_cases : (b : ℕ → Bool) (j m : ℕ) → j < 4 → m < 4 → IsIn b j → IsOut b m → (m ≡ j) ⊎ ((m ≡ onward j) ⊎ (b (across j) ≡ true))
out_cases b zero zero few_j few_m is out = inl refl
out_cases b zero (suc zero) few_j few_m is out = inr (inl refl)
out_cases b zero (suc (suc zero)) few_j few_m is out = inr (inr out.0)
out_cases b zero (suc (suc (suc zero))) few_j few_m is out = not_both (b 3) out.0 is.1
out_cases b (suc zero) zero few_j few_m is out = not_both (b 0) out.0 is.1
out_cases b (suc zero) (suc zero) few_j few_m is out = inl refl
out_cases b (suc zero) (suc (suc zero)) few_j few_m is out = inr (inl refl)
out_cases b (suc zero) (suc (suc (suc zero))) few_j few_m is out = inr (inr out.0)
out_cases b (suc (suc zero)) zero few_j few_m is out = inr (inr out.0)
out_cases b (suc (suc zero)) (suc zero) few_j few_m is out = not_both (b 1) out.0 is.1
out_cases b (suc (suc zero)) (suc (suc zero)) few_j few_m is out = inl refl
out_cases b (suc (suc zero)) (suc (suc (suc zero))) few_j few_m is out = inr (inl refl)
out_cases b (suc (suc (suc zero))) zero few_j few_m is out = inr (inl refl)
out_cases b (suc (suc (suc zero))) (suc zero) few_j few_m is out = inr (inr out.0)
out_cases b (suc (suc (suc zero))) (suc (suc zero)) few_j few_m is out = not_both (b 2) out.0 is.1
out_cases b (suc (suc (suc zero))) (suc (suc (suc zero))) few_j few_m is out = inl refl
out_cases b j (suc (suc (suc (suc m)))) few_j few_m is out = absurd (omega (arith, few_m))
out_cases b (suc (suc (suc (suc j)))) m few_j few_m is out = absurd (omega (arith, few_j))

-- where another edge begins at the corner, the edge leads to the cell across
pub leads_across : (b : ℕ → Bool) (j m n : ℕ) → j < 4 → n < 4 → IsIn b j → Leads b j m → IsOut b n → n ≢ m → m ≡ across j
leads_across b j m n few_j few_n is (inl right) out other = right.0
leads_across b j m n few_j few_n is (inr (inl straight)) out other = elim (out_cases b j n few_j few_n is out) [
  | inl same ↦ not_both (b (onward j)) straight.2 (ap (λ (i : ℕ). b (onward i)) (sym same) ∙ out.1)
  | inr (inl next) ↦ absurd (other (next ∙ sym straight.0))
  | inr (inr there) ↦ not_both (b (across j)) there straight.1
]
leads_across b j m n few_j few_n is (inr (inr left)) out other = elim (out_cases b j n few_j few_n is out) [
  | inl same ↦ absurd (other (same ∙ sym left.0))
  | inr (inl next) ↦ not_both (b (onward j)) (ap b (sym next) ∙ out.0) left.2
  | inr (inr there) ↦ not_both (b (across j)) there left.1
]
