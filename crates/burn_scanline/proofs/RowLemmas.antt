-- The runs of a row, by pairs of columns.
use Rattle.std.proofs.Common.{◌≡◌, ℕ, zero, suc, ◌+◌, ◌%◌, ◌<◌, ◌≤◌, inl, inr, Bool, true, false, List, [], length, take, add-one, refl, ap, sym, ◌∙◌, arith}
use Rattle.std.specs.Prelude.{◌&&◌, ◌||◌, ◌==◌, nat_le, nat_lt, count_by, slice_index, if◌then◌else◌}
use Rattle.std.proofs.lemmas.Bool.{cases_Bool, cases_lt, le-leb, lt-leb, le-ltb, lt-ltb}
use Rattle.std.proofs.lemmas.Bool.Decides.{nat_tests}
use Rattle.std.proofs.lemmas.Grind.{common_steps}
use Rattle.std.proofs.lemmas.List.Sums.{count_by_more_no, count_by_more_yes}
use Rattle.cell_base.specs.Raster.{Place}
use Rattle.burn_scanline.specs.Runs.{Run, AddsCells, EndBefore, has_cell, is_in_runs}
use Rattle.burn_scanline.specs.Inner.Scan.{AreColumnsBelow, FillsRow, FillsTo, IsSorted, end_of, is_filled, is_odd}
use Rattle.burn_scanline.proofs.RunLemmas.{ends_further, or_none}

abbrev below : ℕ → ℕ → Bool
below c x = nat_le x c

count_yes : (columns : List ℕ) (c i : ℕ) → i < length columns → slice_index columns i ≤ c → count_by (below c) (take (i + 1) columns) ≡ count_by (below c) (take i columns) + 1
count_yes columns c i within is = count_by_more_yes (below c) columns i 0 within (le-leb (slice_index columns i) c is)

count_no : (columns : List ℕ) (c i : ℕ) → i < length columns → c < slice_index columns i → count_by (below c) (take (i + 1) columns) ≡ count_by (below c) (take i columns)
count_no columns c i within is = count_by_more_no (below c) columns i 0 within (lt-leb (slice_index columns i) c is)

-- all columns up to one that is at or left of a cell are so
count_front : (columns : List ℕ) (c i : ℕ) → i ≤ length columns → ((j : ℕ) → j < i → slice_index columns j ≤ c) → count_by (below c) (take i columns) ≡ i
count_front columns c zero within all = refl
count_front columns c (suc i) within all =
    let one = count_yes columns c i (omega (arith, within)) (all i (omega arith)) in
    let rest = count_front columns c i (omega (arith, within)) (λ j less. all j (omega (arith, less))) in
    ap (λ (k : ℕ). count_by (below c) (take k columns)) (sym (add-one i)) ∙ one ∙ omega (arith, rest)

two_more : (columns : List ℕ) (at : ℕ) → take (at + 2) columns ≡ take ((at + 1) + 1) columns
two_more columns at = ap (λ (k : ℕ). take k columns) (omega arith)

no_more : (columns : List ℕ) (at : ℕ) → length columns ≤ at + 1 → take (at + 2) columns ≡ take (at + 1) columns
no_more columns at end = grind (arith, common_steps)

end_inner : (ncols : ℕ) (columns : List ℕ) (at : ℕ) → at + 1 < length columns → end_of ncols columns at ≡ slice_index columns (at + 1)
end_inner ncols columns at more = ap (λ (b : Bool). if b then slice_index columns (at + 1) else ncols) (lt-ltb (at + 1) (length columns) more)

end_outer : (ncols : ℕ) (columns : List ℕ) (at : ℕ) → length columns ≤ at + 1 → end_of ncols columns at ≡ ncols
end_outer ncols columns at end = ap (λ (b : Bool). if b then slice_index columns (at + 1) else ncols) (le-ltb (at + 1) (length columns) end)

-- a cell left of the pair, in it, or right of it
left_of : (n m x y c : ℕ) → n ≡ m → c < x → is_odd n ≡ (is_odd m || (nat_le x c && nat_lt c y))
left_of n m x y c same left = grind (arith, nat_tests)

in_pair : (n m at x y c : ℕ) → n ≡ at + 1 → m ≡ at → at % 2 ≡ 0 → x ≤ c → c < y → is_odd n ≡ (is_odd m || (nat_le x c && nat_lt c y))
in_pair n m at x y c is_n is_m even from to = grind (arith, nat_tests)

right_of : (n m at x y c : ℕ) → n ≡ at + 2 → m ≡ at → at % 2 ≡ 0 → y ≤ c → is_odd n ≡ (is_odd m || (nat_le x c && nat_lt c y))
right_of n m at x y c is_n is_m even past = grind (arith, nat_tests)

pair_step : (columns : List ℕ) (ncols at c : ℕ) → IsSorted columns → at < length columns → at % 2 ≡ 0 → c < ncols → is_odd (count_by (below c) (take (at + 2) columns)) ≡ (is_odd (count_by (below c) (take at columns)) || (nat_le (slice_index columns at) c && nat_lt c (end_of ncols columns at)))
pair_step columns ncols at c sorted within even in_cols =
    let x : ℕ = slice_index columns at in
    let count : ℕ → ℕ = λ k. count_by (below c) (take k columns) in
    elim (cases_lt c x) [
      | inl left ↦
          let one : count (at + 1) ≡ count at = count_no columns c at within left in
          elim (cases_lt (at + 1) (length columns)) [
            | inl more ↦
                let next : x ≤ slice_index columns (at + 1) = sorted at (at + 1) (omega arith) more in
                let two : count ((at + 1) + 1) ≡ count (at + 1) = count_no columns c (at + 1) more (omega (arith, next, left)) in
                left_of (count (at + 2)) (count at) x (end_of ncols columns at) c (ap (count_by (below c)) (two_more columns at) ∙ two ∙ one) left
            | inr end ↦ left_of (count (at + 2)) (count at) x (end_of ncols columns at) c (ap (count_by (below c)) (no_more columns at end) ∙ one) left
          ]
      | inr from ↦
          let front : count at ≡ at = count_front columns c at (omega (arith, within)) (λ j less. omega (arith, from, sorted j at (omega (arith, less)) within)) in
          let one : count (at + 1) ≡ count at + 1 = count_yes columns c at within from in
          elim (cases_lt (at + 1) (length columns)) [
            | inl more ↦ elim (cases_lt c (slice_index columns (at + 1))) [
              | inl to ↦
                  let two : count ((at + 1) + 1) ≡ count (at + 1) = count_no columns c (at + 1) more to in
                  in_pair (count (at + 2)) (count at) at x (end_of ncols columns at) c (ap (count_by (below c)) (two_more columns at) ∙ two ∙ omega (arith, one, front)) front even from (omega (arith, to, end_inner ncols columns at more))
              | inr past ↦
                  let two : count ((at + 1) + 1) ≡ count (at + 1) + 1 = count_yes columns c (at + 1) more past in
                  right_of (count (at + 2)) (count at) at x (end_of ncols columns at) c (ap (count_by (below c)) (two_more columns at) ∙ two ∙ omega (arith, one, front)) front even (omega (arith, past, end_inner ncols columns at more))
            ]
            | inr end ↦ in_pair (count (at + 2)) (count at) at x (end_of ncols columns at) c (ap (count_by (below c)) (no_more columns at end) ∙ omega (arith, one, front)) front even from (omega (arith, in_cols, end_outer ncols columns at end))
          ]
    ]

end_within : (columns : List ℕ) (ncols at : ℕ) → AreColumnsBelow ncols columns → end_of ncols columns at ≤ ncols
end_within columns ncols at within = elim (cases_lt (at + 1) (length columns)) [
  | inl more ↦ omega (arith, end_inner ncols columns at more, within (at + 1) more)
  | inr end ↦ omega (arith, end_outer ncols columns at end)
]

pub end_further : (columns : List ℕ) (ncols at : ℕ) → IsSorted columns → AreColumnsBelow ncols columns → at < length columns → slice_index columns at ≤ end_of ncols columns at
end_further columns ncols at sorted within here = elim (cases_lt (at + 1) (length columns)) [
  | inl more ↦ omega (arith, end_inner ncols columns at more, sorted at (at + 1) (omega arith) more)
  | inr end ↦ omega (arith, end_outer ncols columns at end, within at here)
]

-- one place, by its row and its column
row_cases : (row p0 : ℕ) (a b c d : Bool) → (nat_lt row row ≡ false → (a && b) ≡ ((a && c) || d)) → ((row == p0) && (a && b)) ≡ (((row == p0) && (a && c)) || ((row == p0) && d))
row_cases row p0 a b c d same = elim (cases_Bool (row == p0)) [
  | inl here ↦ ap (λ (x : Bool). x && (a && b)) here ∙ same (le-ltb row row (omega arith)) ∙ sym (ap (λ (x : Bool). (x && (a && c)) || (x && d)) here)
  | inr elsewhere ↦ ap (λ (x : Bool). x && (a && b)) elsewhere ∙ sym (ap (λ (x : Bool). (x && (a && c)) || (x && d)) elsewhere)
]

inside : (a b c d : Bool) → a ≡ true → b ≡ (c || d) → (a && b) ≡ ((a && c) || d)
inside a b c d is same = ap (λ (x : Bool). x && b) is ∙ same ∙ sym (ap (λ (x : Bool). (x && c) || d) is)

and_false : (x : Bool) → (x && false) ≡ false
and_false true = refl
and_false false = refl

outside : (a b c x y : Bool) → a ≡ false → y ≡ false → (a && b) ≡ ((a && c) || (x && y))
outside a b c x y is none = ap (λ (z : Bool). z && b) is ∙ sym (ap (λ (z : Bool). (z && c) || (x && y)) is ∙ ap (λ (z : Bool). x && z) none ∙ and_false x)

and_none : (x y : Bool) → (x && (y && false)) ≡ false
and_none true true = refl
and_none true false = refl
and_none false y = refl

filled_step : (row ncols at : ℕ) (columns : List ℕ) (p : Place) → IsSorted columns → AreColumnsBelow ncols columns → at < length columns → at % 2 ≡ 0 → is_filled row ncols (take (at + 2) columns) p ≡ (is_filled row ncols (take at columns) p || has_cell p (record { row = row; from = slice_index columns at; to = end_of ncols columns at }))
filled_step row ncols at columns p sorted within here even =
    row_cases row p.0 (nat_lt p.1 ncols) (is_odd (count_by (below p.1) (take (at + 2) columns))) (is_odd (count_by (below p.1) (take at columns))) (nat_le (slice_index columns at) p.1 && nat_lt p.1 (end_of ncols columns at)) (λ unused. elim (cases_lt p.1 ncols) [
      | inl in_cols ↦ inside (nat_lt p.1 ncols) _ _ _ (lt-ltb p.1 ncols in_cols) (pair_step columns ncols at p.1 sorted here even in_cols)
      | inr past ↦
          let out : nat_lt p.1 ncols ≡ false = le-ltb p.1 ncols past in
          let not_in : nat_lt p.1 (end_of ncols columns at) ≡ false = le-ltb p.1 (end_of ncols columns at) (omega (arith, past, end_within columns ncols at within)) in
          outside (nat_lt p.1 ncols) _ _ (nat_le (slice_index columns at) p.1) (nat_lt p.1 (end_of ncols columns at)) out not_in
    ])

two_on : (at : ℕ) → at % 2 ≡ 0 → (at + 2) % 2 ≡ 0
two_on at even = omega (arith, even)

no_columns : (row ncols : ℕ) (p : Place) → is_filled row ncols [] p ≡ false
no_columns row ncols p = and_none (row == p.0) (nat_lt p.1 ncols)

or_joined : (a b c : Bool) → ((a || b) || c) ≡ (a || (b || c))
or_joined true b c = refl
or_joined false b c = refl

next_row : (row col : ℕ) (runs : List Run) → EndBefore (row, col) runs → EndBefore (row + 1, 0) runs
next_row row col runs ends = λ i run at. elim (ends i run at) [
  | inl above ↦ inl (omega (arith, above))
  | inr level ↦ inl (omega (arith, level.0))
]

pub fills_none : (row ncols : ℕ) (columns : List ℕ) (runs : List Run) → EndBefore (row, 0) runs → FillsTo row ncols columns 0 runs runs
fills_none row ncols columns runs ends = record {
  even = refl;
  cells = λ p. sym (ap (λ (b : Bool). is_in_runs runs p || b) (no_columns row ncols p) ∙ or_none (is_in_runs runs p));
  ends = λ some. ends_further 0 (slice_index columns 0) row runs (omega arith) ends;
  below = next_row row 0 runs ends;
  within = λ nrows in_rows old. old;
}

pub fills_more : (row ncols at : ℕ) (columns : List ℕ) (old mid new : List Run) → IsSorted columns → AreColumnsBelow ncols columns → at < length columns → FillsTo row ncols columns at old mid → AddsCells (record { row = row; from = slice_index columns at; to = end_of ncols columns at }) mid new → FillsTo row ncols columns (at + 2) old new
fills_more row ncols at columns old mid new sorted within here fills adds =
    let whole : slice_index columns at ≤ end_of ncols columns at = end_further columns ncols at sorted within here in
    let run : Run = record { row = row; from = slice_index columns at; to = end_of ncols columns at } in
    record {
      even = two_on at fills.even;
      cells = λ p. adds.cells p ∙ ap (λ (b : Bool). b || has_cell p run) (fills.cells p) ∙ or_joined (is_in_runs old p) (is_filled row ncols (take at columns) p) (has_cell p run) ∙ ap (λ (b : Bool). is_in_runs old p || b) (sym (filled_step row ncols at columns p sorted within here fills.even));
      ends = λ more. ends_further (end_of ncols columns at) (slice_index columns (at + 2)) row new (omega (arith, end_inner ncols columns at (omega (arith, more)), sorted (at + 1) (at + 2) (omega arith) more)) (adds.ends whole);
      below = next_row row (end_of ncols columns at) new (adds.ends whole);
      within = λ nrows in_rows was. adds.within nrows ncols (fills.within nrows in_rows was) in_rows (end_within columns ncols at within);
    }

pub fills_row : (row ncols at : ℕ) (columns : List ℕ) (old new : List Run) → length columns ≤ at → FillsTo row ncols columns at old new → FillsRow row ncols columns old new
fills_row row ncols at columns old new end fills =
    let whole : take at columns ≡ columns = grind (arith, common_steps) in
    record {
      cells = λ p. fills.cells p ∙ ap (λ (xs : List ℕ). is_in_runs old p || is_filled row ncols xs p) whole;
      ends = fills.below;
      within = fills.within;
    }
