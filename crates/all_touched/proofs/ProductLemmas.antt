-- Products of whole numbers.
use Rattle.std.proofs.Common.{◌≡◌, ℕ, ℤ, zero, suc, ◌+◌, ◌*◌, ◌<◌, ◌<ℤ◌, ◌≤ℤ◌, refl, sym, ap, ◌∙◌, pos, negsuc, ◌+ℤ◌, ◌-ℤ◌, ◌*ℤ◌, arith}
use Rattle.std.specs.Prelude.{neg_ℤ}
use Rattle.std.proofs.lemmas.Int.{ints}
use Rattle.std.proofs.Math.IntN.{*ℤ-negsuc, *ℤ-zero, *ℤ_comm}
use Rattle.burn_scanline.proofs.ColumnLemmas.{distributes, product_some, times_sum}

pub plus_times : (a b c : ℤ) → (a +ℤ b) *ℤ c ≡ a *ℤ c +ℤ b *ℤ c
plus_times a b (pos d) = distributes a b d
plus_times a b (negsuc d) =
    *ℤ-negsuc (a +ℤ b) d ∙ ap neg_ℤ (distributes a b (suc d))
    ∙ omega (arith, ints, *ℤ-negsuc a d, *ℤ-negsuc b d)

pub minus_times : (a b c : ℤ) → (a -ℤ b) *ℤ c ≡ a *ℤ c -ℤ b *ℤ c
minus_times a b c =
    let back : (a -ℤ b) +ℤ b ≡ a = omega (arith, ints) in
    let whole : a *ℤ c ≡ (a -ℤ b) *ℤ c +ℤ b *ℤ c = ap (λ (z : ℤ). z *ℤ c) (sym back) ∙ plus_times (a -ℤ b) b c in
    omega (arith, ints, whole)

pub times_minus : (a b c : ℤ) → c *ℤ (a -ℤ b) ≡ c *ℤ a -ℤ c *ℤ b
times_minus a b c = *ℤ_comm c (a -ℤ b) ∙ minus_times a b c ∙ ap (λ (z : ℤ). z -ℤ b *ℤ c) (*ℤ_comm a c) ∙ ap (λ (z : ℤ). c *ℤ a -ℤ z) (*ℤ_comm b c)

pub times_plus : (a b c : ℤ) → c *ℤ (a +ℤ b) ≡ c *ℤ a +ℤ c *ℤ b
times_plus a b c = *ℤ_comm c (a +ℤ b) ∙ plus_times a b c ∙ ap (λ (z : ℤ). z +ℤ b *ℤ c) (*ℤ_comm a c) ∙ ap (λ (z : ℤ). c *ℤ a +ℤ z) (*ℤ_comm b c)

pub neg_times : (a c : ℤ) → (pos 0 -ℤ a) *ℤ c ≡ pos 0 -ℤ a *ℤ c
neg_times a c = minus_times (pos 0) a c ∙ ap (λ (z : ℤ). z -ℤ a *ℤ c) (*ℤ_comm (pos 0) c ∙ *ℤ-zero c)

-- so many times so many
pub grouped : (a : ℤ) (d e : ℕ) → (a *ℤ pos d) *ℤ pos e ≡ a *ℤ pos (d * e)
grouped a d zero = *ℤ-zero (a *ℤ pos d) ∙ sym (ap (λ (n : ℕ). a *ℤ pos n) none ∙ *ℤ-zero a)
  where
    none : d * 0 ≡ 0
    none = omega arith
grouped a d (suc e) =
    let one : suc e ≡ e + 1 = omega arith in
    let more : d * suc e ≡ d * e + d = omega arith in
    ap (λ (n : ℕ). (a *ℤ pos d) *ℤ pos n) one ∙ times_sum (a *ℤ pos d) e 1
    ∙ ap (λ (z : ℤ). z +ℤ (a *ℤ pos d) *ℤ pos 1) (grouped a d e)
    ∙ ap (λ (z : ℤ). a *ℤ pos (d * e) +ℤ z) (once (a *ℤ pos d))
    ∙ sym (ap (λ (n : ℕ). a *ℤ pos n) more ∙ times_sum a (d * e) d)
  where
    once : (z : ℤ) → z *ℤ pos 1 ≡ z
    once z = omega (arith, ints)

-- the sign of a product with a positive number
pub product_below : (a b : ℤ) → pos 0 <ℤ a → b <ℤ pos 0 → (a *ℤ b) <ℤ pos 0
product_below a b some below =
    let turned = product_some a (pos 0 -ℤ b) some (omega (arith, ints, below)) in
    let is : a *ℤ (pos 0 -ℤ b) ≡ pos 0 -ℤ a *ℤ b = times_minus (pos 0) b a ∙ ap (λ (z : ℤ). z -ℤ a *ℤ b) (*ℤ-zero a) in
    omega (arith, ints, turned, is)
