-- Levels at one distance.
use Rattle.std.proofs.Common.{◌≡◌, ℕ, ℤ, zero, suc, ◌+◌, ◌-◌, ◌*◌, ◌/◌, ◌%◌, ◌<◌, ◌≤◌, ◌+ℤ◌, ◌-ℤ◌, ◌*ℤ◌, ◌^◌, ◌<ℤ◌, ◌≤ℤ◌, ◌↔◌, ◌⊎◌, inl, inr, pos, negsuc, neg_ℤ, refl, sym, ap, ◌∙◌, subst, arith}
use Rattle.std.proofs.lemmas.Bool.{cases_eq, cases_lt}
use Rattle.std.proofs.lemmas.Int.{ints}
use Rattle.std.proofs.Math.IntN.{*ℤ_comm, *ℤ-zero, suc_ℤ-*ℤ}
use Rattle.std.proofs.Math.Nat.{le-div_iff_mul-le, mul-div_left, mul-le-mul_left}
use Rattle.contour_segments.specs.Levels.{IsSpaced}
use Rattle.contour_segments.specs.Inner.Series.{CountsUpTo, IsAt, IsGap, IsSeries, level_at}
use Rattle.contour_segments.specs.declared.series.Series.{Series}

-- the gap above a value that the offset isn't above, and above one that it is

pub gap_on : (interval : ℕ) (offset low : ℤ) (past : ℕ) → 0 < interval → offset +ℤ pos past ≡ low → IsGap interval offset low (interval - past % interval)
gap_on interval offset low past some is = record {
  some = omega arith;
  least = omega arith;
  times = pos (past / interval + 1);
  is =
      let whole : (past / interval + 1) * interval ≡ past + (interval - past % interval) = omega arith in
      omega (arith, ints, is, whole);
}

neg_times : (q n : ℕ) → neg_ℤ (pos q) *ℤ pos n ≡ neg_ℤ (pos (q * n))
neg_times zero n = omega (arith, ints)
neg_times (suc q) n = refl

pub gap_off : (interval : ℕ) (offset low : ℤ) (short : ℕ) → 0 < interval → 0 < short → low +ℤ pos short ≡ offset → IsGap interval offset low ((short - 1) % interval + 1)
gap_off interval offset low short some more is = record {
  some = omega arith;
  least = omega arith;
  times = neg_ℤ (pos ((short - 1) / interval));
  is =
      let back = neg_times ((short - 1) / interval) interval in
      let whole : (short - 1) / interval * interval + (short - 1) % interval ≡ short - 1 = omega arith in
      omega (arith, ints, is, whole, back, more);
}

times_more : (x : ℤ) (n : ℕ) → x *ℤ pos (suc n) ≡ x *ℤ pos n +ℤ x
times_more x n = *ℤ_comm x (pos (suc n)) ∙ suc_ℤ-*ℤ (pos n) x ∙ ap (λ y. y +ℤ x) (*ℤ_comm (pos n) x)

times_sum : (a b : ℤ) (n : ℕ) → (a +ℤ b) *ℤ pos n ≡ a *ℤ pos n +ℤ b *ℤ pos n
times_sum a b zero = *ℤ-zero (a +ℤ b) ∙ sym (omega (arith, ints, *ℤ-zero a, *ℤ-zero b))
times_sum a b (suc n) =
    let rest = times_sum a b n in
    omega (arith, ints, rest, times_more (a +ℤ b) n, times_more a n, times_more b n)

-- the levels of a series are those at the interval

pub at_is_spaced : (interval : ℕ) (offset low high level : ℤ) (gap : ℕ) (series : Series) → IsGap interval offset low gap → series.first ≡ low +ℤ pos gap → series.step ≡ interval → CountsUpTo series.first series.step high series.count → IsAt series level → IsSpaced (pos interval) offset (low, high) level
at_is_spaced interval offset low high level gap series is first step counts at = record {
  times = is.times +ℤ pos at.0;
  is =
      let sum = times_sum is.times (pos at.0) interval in
      let product : at.0 * series.step ≡ at.0 * interval = ap (λ n. at.0 * n) step in
      omega (arith, ints, sum, is.is, first, at.2, product);
  above = omega (arith, ints, is.some, first, at.2);
  within = subst (λ z. z ≤ℤ high) (sym at.2) ((counts at.0).0 at.1);
}

pub spaced_is_at : (interval : ℕ) (offset low high level : ℤ) (gap : ℕ) (series : Series) → IsGap interval offset low gap → series.first ≡ low +ℤ pos gap → series.step ≡ interval → CountsUpTo series.first series.step high series.count → IsSpaced (pos interval) offset (low, high) level → IsAt series level
spaced_is_at interval offset low high level gap series is first step counts spaced = found (spaced.times -ℤ is.times) refl
  where
    found : (more : ℤ) → more ≡ spaced.times -ℤ is.times → IsAt series level
    found (pos k) at =
        let sum = times_sum is.times (pos k) interval in
        let whole : is.times +ℤ pos k ≡ spaced.times = omega (arith, ints, at) in
        let products : spaced.times *ℤ pos interval ≡ (is.times +ℤ pos k) *ℤ pos interval = ap (λ z. z *ℤ pos interval) (sym whole) in
        let product : k * series.step ≡ k * interval = ap (λ n. k * n) step in
        let level_is : level ≡ level_at series k = omega (arith, ints, sum, products, is.is, spaced.is, first, product) in
        (k, (counts k).1 (subst (λ z. z ≤ℤ high) level_is spaced.within), level_is)
    found (negsuc j) at =
        let sum = times_sum is.times (negsuc j) interval in
        let whole : is.times +ℤ negsuc j ≡ spaced.times = omega (arith, ints, at) in
        let products : spaced.times *ℤ pos interval ≡ (is.times +ℤ negsuc j) *ℤ pos interval = ap (λ z. z *ℤ pos interval) (sym whole) in
        let back : negsuc j *ℤ pos interval ≡ neg_ℤ (pos (suc j * interval)) = refl in
        let least : suc j * interval ≡ j * interval + interval = omega arith in
        absurd (omega (arith, ints, sum, products, back, least, is.is, is.least, spaced.is, spaced.above))

pub spaced_both : (interval offset low high : ℤ) (gap : ℕ) (series : Series) → pos series.step ≡ interval → IsGap series.step offset low gap → series.first ≡ low +ℤ pos gap → CountsUpTo series.first series.step high series.count → (level : ℤ) → IsAt series level ↔ IsSpaced interval offset (low, high) level
spaced_both interval offset low high gap series step is first counts level = subst (λ i. IsAt series level ↔ IsSpaced i offset (low, high) level) step (at_is_spaced series.step offset low high level gap series is first refl counts, spaced_is_at series.step offset low high level gap series is first refl counts)

pub counts_none : (first : ℤ) (step : ℕ) (high : ℤ) → high <ℤ first → CountsUpTo first step high 0
counts_none first step high above k = (λ less. absurd (omega (arith, less)), λ within. absurd (omega (arith, ints, above, within)))

pub counts_some : (first : ℤ) (step : ℕ) (high : ℤ) (past : ℕ) → 0 < step → first +ℤ pos past ≡ high → CountsUpTo first step high (past / step + 1)
counts_some first step high past some is k =
    let both = le-div_iff_mul-le {k = step} {x = k} {y = past} some in (
      λ less.
          let small : k * step ≤ past = both.0 (omega (arith, less)) in
          omega (arith, ints, small, is),
      λ within.
          let small : k * step ≤ past = omega (arith, ints, within, is) in
          let few = both.1 small in
          omega (arith, few),
    )

-- whether a level is one of a series, by its distance from the first

pub divides_at : (series : Series) (level : ℤ) (past : ℕ) → 0 < series.step → series.first +ℤ pos past ≡ level → past % series.step ≡ 0 → past / series.step < series.count → IsAt series level
divides_at series level past some is none few =
    let whole : past / series.step * series.step ≡ past = omega (arith, none) in
    (past / series.step, few, sym is ∙ ap (λ n. series.first +ℤ pos n) (sym whole))

pub at_divides : (series : Series) (level : ℤ) (past : ℕ) → 0 < series.step → series.first +ℤ pos past ≡ level → IsAt series level → (past % series.step ≡ 0) × (past / series.step < series.count)
at_divides series level past some is at =
    let past_is : past ≡ at.0 * series.step = omega (arith, ints, is, at.2) in
    let whole : past / series.step ≡ at.0 = ap (λ n. n / series.step) past_is ∙ mul-div_left at.0 {n = series.step} some in
    let product : series.step * (past / series.step) ≡ series.step * at.0 = ap (λ n. series.step * n) whole in (
      omega (arith, past_is, product, some),
      subst (λ n. n < series.count) (sym whole) at.1,
    )

pub at_from_first : (series : Series) (level : ℤ) → IsAt series level → series.first ≤ℤ level
at_from_first series level at = omega (arith, ints, at.2)

-- two numbers of a series have two levels
pub level_at_rises : (series : Series) (j k : ℕ) → 0 < series.step → j < k → level_at series j <ℤ level_at series k
level_at_rises series j k some less =
    let rest = k - j in
    let whole : k * series.step ≡ j * series.step + (k - j) * series.step = more j k less in
    let least : 0 < (k - j) * series.step = positive (k - j) series.step (omega (arith, less)) some in
    omega (arith, ints, whole, least)
  where
    positive : (a b : ℕ) → 0 < a → 0 < b → 0 < a * b
    positive a b one two = grind arith

    more : (a b : ℕ) → a < b → b * series.step ≡ a * series.step + (b - a) * series.step
    more a b under = let is : b ≡ a + (b - a) = omega (arith, under) in ap (λ n. n * series.step) is ∙ omega arith

-- a level is one of a series, or it isn't
pub at_or_not : (series : Series) (level : ℤ) → 0 < series.step → IsAt series level ⊎ (¬ IsAt series level)
at_or_not series level some = from (level -ℤ series.first) refl
  where
    from : (past : ℤ) → past ≡ level -ℤ series.first → IsAt series level ⊎ (¬ IsAt series level)
    from (negsuc n) is = inr (λ at. omega (arith, ints, is, at.2))
    from (pos past) is =
        let sum : series.first +ℤ pos past ≡ level = omega (arith, ints, is) in
        elim (cases_eq (past % series.step) 0) [
          | inr other ↦ inr (λ at. other (at_divides series level past some sum at).0)
          | inl none ↦ elim (cases_lt (past / series.step) series.count) [
            | inl few ↦ inl (divides_at series level past some sum none few)
            | inr many ↦ inr (λ at.
                let few = (at_divides series level past some sum at).1 in
                omega (arith, few, many))
          ]
        ]

-- there are not too many
pub count_small : (series : Series) → IsSeries series → series.count ≤ 2 * 10 ^ 18 + 1
count_small series is = few series.count refl
  where
    few : (n : ℕ) → series.count ≡ n → n ≤ 2 * 10 ^ 18 + 1
    few zero same = omega arith
    few (suc n) same =
        let last = is.last n (omega (arith, same)) in
        let wide : n * 1 ≤ n * series.step = mul-le-mul_left n is.some in
        omega (arith, ints, last, wide, is.low)
