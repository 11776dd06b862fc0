-- Runs are put into blocks.
use Rattle.std.proofs.Common.{◌≡◌, ◌≢◌, ℕ, ◌+◌, ◌<◌, ◌≤◌, ◌⊎◌, inl, inr, ℤ, Bool, true, List, [], ◌∷◌, ◌++◌, Some, length, length-append, length-set, get_or-set_same, get_or-set_other, set, refl, ap, sym, ◌∙◌, subst, arith}
use Rattle.std.specs.List.{range_with_len}
use Rattle.std.specs.Prelude.{slice_get, slice_index}
use Rattle.std.proofs.lemmas.Bool.{cases_eq, cases_lt}
use Rattle.std.proofs.Math.Seq.{map-set, map-set_same}
use Rattle.std.proofs.lemmas.Grind.{common_steps}
use Rattle.std.proofs.lemmas.List.FromFn.{get_or-range_with_len, length-range_with_len}
use Rattle.std.proofs.lemmas.List.{length-map, map-append}
use Rattle.std.proofs.lemmas.Option.{get_or_from_slice_get, same_Some, slice_get_within}
use Rattle.cell_base.specs.Raster.{Raster}
use Rattle.cell_base.specs.Walk.{IsWalk}
use Rattle.cell_base.proofs.WalkLemmas.{walk-append}
use Rattle.region_label.specs.Component.{HasValue}
use Rattle.region_label.specs.Run.{Run}
use Rattle.region_label.specs.Inner.Blocks.{AreApart, AreBlocksOf, ArePlaced, GoesOn, HasPlaced, first_runs, firsts_in, kept_or_own, last_runs, lasts_in, numbers_in}
use Rattle.region_label.specs.Inner.Lists.{IsContact, Touches}
use Rattle.region_label.specs.Inner.Rows.{AreFound, AreInRows, noted_units}
use Rattle.region_label.specs.Inner.Table.{AreInOrder, KeepsRows}
use Rattle.region_label.specs.declared.blocks.Block.{Block}
use Rattle.region_label.specs.declared.blocks.Blocks.{Blocks}
use Rattle.region_label.specs.declared.rows.RowRuns.{RowRuns}
use Rattle.region_label.proofs.UnitsLemmas.{TellsApart}

no_run : Run
no_run = record { row = 0; from = 0; to = 0 }

-- a list with one more

pub index_old : (xs : List ℕ) (x i : ℕ) → i < length xs → slice_index (xs ++ x ∷ []) i ≡ slice_index xs i
index_old xs x i within = grind (arith, common_steps)

pub index_last : (xs : List ℕ) (x i : ℕ) → i ≡ length xs → slice_index (xs ++ x ∷ []) i ≡ x
index_last xs x i is = grind (arith, common_steps)

index_same : (xs : List ℕ) (i x : ℕ) → i < length xs → slice_index (set xs i x) i ≡ x
index_same xs i x within = get_or-set_same xs i x 0 within

index_other : (xs : List ℕ) (i j x : ℕ) → j ≢ i → slice_index (set xs i x) j ≡ slice_index xs j
index_other xs i j x other = get_or-set_other xs i j x 0 other

-- runs of equal units that are found lie apart
pub found_apart : {T : Type 0} (units_of : T → ℤ) (cells : Raster T) (valid : Raster Bool) (runs : List Run) (units : List ℤ) (place : ℕ × ℕ) → TellsApart units_of → AreFound units_of cells valid runs units place → AreApart runs units
found_apart {T} units_of cells valid runs units place apart found i j a b u at_a at_b at_i at_j row meets =
    let first = found.each i a at_a in
    let second = found.each j b at_b in
    let same : first.0 ≡ second.0 = apart first.0 second.0 (same_Some (units_of first.0) (units_of second.0) (sym first.1 ∙ at_i ∙ sym at_j ∙ second.1)) in
    let begins = second.2.cells (b.row, b.from) (refl, omega arith, second.2.some) in
    let there : HasValue cells valid (Some first.0) (a.row, a.to) = subst (λ (r : ℕ). HasValue cells valid (Some first.0) (r, a.to)) (sym row) (subst (λ (c : ℕ). HasValue cells valid (Some first.0) (b.row, c)) (sym meets) (subst (λ (v : T). HasValue cells valid (Some v) (b.row, b.from)) (sym same) begins)) in
    first.2.right there

-- runs of a row that have the same units, and reach each other's ends, are one
pub one_run : (ncols nrows : ℕ) (runs : List Run) (units : List ℤ) (starts : List ℕ) (i j : ℕ) (a b : Run) (u : ℤ) → AreInRows ncols nrows runs units starts → AreApart runs units → slice_get runs i ≡ Some a → slice_get runs j ≡ Some b → slice_get units i ≡ Some u → slice_get units j ≡ Some u → a.row ≡ b.row → a.from ≤ b.to → b.from ≤ a.to → i ≡ j
one_run ncols nrows runs units starts i j a b u ordered apart at_a at_b at_i at_j row first second = elim (cases_lt i j) [
  | inl less ↦ elim (ordered.order i j a b less at_a at_b) [
    | inl above ↦ absurd (omega (arith, above, row))
    | inr before ↦ absurd (apart i j a b u at_a at_b at_i at_j row (omega (arith, before.1, second)))
  ]
  | inr past ↦ elim (cases_lt j i) [
    | inl less ↦ elim (ordered.order j i b a less at_b at_a) [
      | inl above ↦ absurd (omega (arith, above, row))
      | inr before ↦ absurd (apart j i b a u at_b at_a at_j at_i (sym row) (omega (arith, before.1, first)))
    ]
    | inr too ↦ omega (arith, past, too)
  ]
]

-- the run that goes on from another touches it
pub on_contact : (connectivity : Bool) (ncols nrows : ℕ) (runs : List Run) (units : List ℤ) (starts : List ℕ) (i j : ℕ) → AreInRows ncols nrows runs units starts → GoesOn runs units i j → IsContact connectivity runs units i j
on_contact connectivity ncols nrows runs units starts i j ordered on = record {
  first = on.first;
  second = on.second;
  value = on.value;
  at_first = on.at_first;
  at_second = on.at_second;
  first_value = on.first_value;
  second_value = on.second_value;
  touch = (
    inr on.row,
    omega (arith, on.to, (ordered.inside i on.first on.at_first).1),
    omega (arith, on.from, (ordered.inside i on.first on.at_first).1),
  );
}

-- only one run goes on from another
one_below : (ncols nrows : ℕ) (runs : List Run) (units : List ℤ) (starts : List ℕ) (h i j : ℕ) → AreInRows ncols nrows runs units starts → AreApart runs units → GoesOn runs units h i → GoesOn runs units h j → i ≡ j
one_below ncols nrows runs units starts h i j ordered apart first second =
    let same : first.first ≡ second.first = same_Some first.first second.first (sym first.at_first ∙ second.at_first) in
    let value : first.value ≡ second.value = same_Some first.value second.value (sym first.first_value ∙ second.first_value) in
    let from : first.second.from ≡ second.second.from = first.from ∙ ap (λ (r : Run). r.from) same ∙ sym second.from in
    let to : first.second.to ≡ second.second.to = first.to ∙ ap (λ (r : Run). r.to) same ∙ sym second.to in
    let row : first.second.row ≡ second.second.row = first.row ∙ ap (λ (r : Run). r.row + 1) same ∙ sym second.row in
    let some = (ordered.inside i first.second first.at_second).1 in
    one_run ncols nrows runs units starts i j first.second second.second second.value ordered apart first.at_second second.at_second (first.second_value ∙ ap (λ (v : ℤ). Some v) value) second.second_value row (omega (arith, from, to, some)) (omega (arith, from, to, some))

pub placed_none : (runs : List Run) (units : List ℤ) (of firsts lasts : List ℕ) → length of ≡ 0 → length firsts ≡ 0 → length lasts ≡ 0 → ArePlaced runs units of firsts lasts 0
placed_none runs units of firsts lasts sized none none_last = record {
  sized = sized;
  paired = omega (arith, none, none_last);
  few = omega (arith, none);
  known = λ i less. absurd (omega (arith, less));
  low = λ i less. absurd (omega (arith, less));
  first = λ b less. absurd (omega (arith, less, none));
  last = λ b less. absurd (omega (arith, less, none));
  rise = λ b c less within. absurd (omega (arith, within, none));
  least = λ i less. absurd (omega (arith, less));
  joined = λ connectivity i less. absurd (omega (arith, less));
  from = λ i less. absurd (omega (arith, less));
  on = λ i less. absurd (omega (arith, less));
}

-- one run more, in the block of the run that it goes on from
pub placed_on : (ncols nrows : ℕ) (runs : List Run) (units : List ℤ) (starts of firsts lasts : List ℕ) (h at : ℕ) → AreInRows ncols nrows runs units starts → AreApart runs units → ArePlaced runs units of firsts lasts at → h < at → at < length runs → GoesOn runs units h at → ArePlaced runs units (of ++ slice_index of h ∷ []) firsts (set lasts (slice_index of h) at) (at + 1)
placed_on ncols nrows runs units starts of firsts lasts h at ordered apart placed before within goes =
    let b = slice_index of h in
    let new_of = of ++ b ∷ [] in
    let new_lasts = set lasts b at in
    let known : b < length firsts = placed.known h before in
    let in_lasts : b < length lasts = omega (arith, known, placed.paired) in
    let old : (i : ℕ) → i < at → slice_index new_of i ≡ slice_index of i = λ i less. index_old of b i (omega (arith, less, placed.sized)) in
    let new : slice_index new_of at ≡ b = index_last of b at (sym placed.sized) in
    let last : slice_index new_lasts b ≡ at = index_same lasts b at in_lasts in
    record {
      sized = omega (arith, placed.sized, length-append of (b ∷ []));
      paired = length-set lasts b at ∙ placed.paired;
      few = omega (arith, placed.few);
      known = λ i less. elim (cases_lt i at) [
        | inl early ↦ omega (arith, old i early, placed.known i early)
        | inr late ↦
            let is : i ≡ at = omega (arith, less, late) in
            rw is (omega (arith, new, known))
      ];
      low = λ i less. elim (cases_lt i at) [
        | inl early ↦ omega (arith, old i early, placed.low i early)
        | inr late ↦
            let is : i ≡ at = omega (arith, less, late) in
            rw is (omega (arith, new, placed.low h before, before))
      ];
      first = λ c in_firsts.
          let had = placed.first c in_firsts in
          (omega (arith, had.0), old (slice_index firsts c) had.0 ∙ had.1);
      last = λ c in_firsts. elim (cases_eq c b) [
        | inl same ↦ rw same (omega (arith, last), ap (slice_index new_of) last ∙ new)
        | inr other ↦
            let had = placed.last c in_firsts in
            let is : slice_index new_lasts c ≡ slice_index lasts c = index_other lasts b c at other in
            (omega (arith, is, had.0), ap (slice_index new_of) is ∙ old (slice_index lasts c) had.0 ∙ had.1)
      ];
      rise = placed.rise;
      least = λ i less. elim (cases_lt i at) [
        | inl early ↦ subst (λ (c : ℕ). slice_index firsts c ≤ i) (sym (old i early)) (placed.least i early)
        | inr late ↦
            let is : i ≡ at = omega (arith, less, late) in
            rw is (subst (λ (c : ℕ). slice_index firsts c ≤ at) (sym new) (omega (arith, placed.least h before, before)))
      ];
      joined = λ connectivity i less. elim (cases_lt i at) [
        | inl early ↦
            let had = placed.joined connectivity i early in
            (had.0, subst (λ (c : ℕ). IsWalk (IsContact connectivity runs units) (slice_index firsts c) had.0 i) (sym (old i early)) had.1)
        | inr late ↦
            let is : at ≡ i = omega (arith, less, late) in
            let had = placed.joined connectivity h before in
            let walk = walk-append (IsContact connectivity runs units) (slice_index firsts b) h at had.0 (at ∷ []) had.1 (on_contact connectivity ncols nrows runs units starts h at ordered goes, refl) in
            let there : IsWalk (IsContact connectivity runs units) (slice_index firsts (slice_index new_of at)) (had.0 ++ at ∷ []) at = subst (λ (c : ℕ). IsWalk (IsContact connectivity runs units) (slice_index firsts c) (had.0 ++ at ∷ []) at) (sym new) walk in
            (had.0 ++ at ∷ [], subst (λ (m : ℕ). IsWalk (IsContact connectivity runs units) (slice_index firsts (slice_index new_of m)) (had.0 ++ at ∷ []) m) is there)
      ];
      from = λ i less. elim (cases_lt i at) [
        | inl early ↦ elim (placed.from i early) [
          | inl first ↦ inl (first ∙ ap (slice_index firsts) (sym (old i early)))
          | inr more ↦ inr (more.0, omega (arith, more.1), old more.0 more.1 ∙ more.2 ∙ sym (old i early), more.3)
        ]
        | inr late ↦
            let is : at ≡ i = omega (arith, less, late) in
            subst (λ (m : ℕ). (m ≡ slice_index firsts (slice_index new_of m)) ⊎ ((g : ℕ) × (g < at + 1) × (slice_index new_of g ≡ slice_index new_of m) × GoesOn runs units g m)) is (inr (h, omega (arith, before), old h before ∙ sym new, goes))
      ];
      on = λ i less. elim (cases_lt i at) [
        | inl early ↦ elim (placed.on i early) [
          | inr more ↦ inr (more.0, omega (arith, more.1), old more.0 more.1 ∙ more.2 ∙ sym (old i early), more.3)
          | inl is_last ↦ elim (cases_eq (slice_index of i) b) [
            | inr other ↦ inl (is_last ∙ sym (index_other lasts b (slice_index of i) at other) ∙ ap (slice_index new_lasts) (sym (old i early)))
            | inl same ↦
                let is : i ≡ slice_index lasts b = is_last ∙ ap (slice_index lasts) same in
                elim (placed.on h before) [
                  | inl too ↦
                      let here : h ≡ i = too ∙ sym is in
                      inr (at, omega arith, new ∙ sym same ∙ sym (old i early), subst (λ (g : ℕ). GoesOn runs units g at) here goes)
                  | inr more ↦ absurd (omega (arith, more.1, one_below ncols nrows runs units starts h more.0 at ordered apart more.3 goes))
                ]
          ]
        ]
        | inr late ↦
            let is : at ≡ i = omega (arith, less, late) in
            inl (sym is ∙ sym last ∙ ap (slice_index new_lasts) (sym new ∙ ap (slice_index new_of) is))
      ];
    }

-- one run more, in a block of its own
pub placed_first : (runs : List Run) (units : List ℤ) (of firsts lasts : List ℕ) (at : ℕ) → ArePlaced runs units of firsts lasts at → at < length runs → ArePlaced runs units (of ++ length firsts ∷ []) (firsts ++ at ∷ []) (lasts ++ at ∷ []) (at + 1)
placed_first runs units of firsts lasts at placed within =
    let b = length firsts in
    let new_of = of ++ b ∷ [] in
    let new_firsts = firsts ++ at ∷ [] in
    let new_lasts = lasts ++ at ∷ [] in
    let longer : length new_firsts ≡ b + 1 = length-append firsts (at ∷ []) in
    let old : (i : ℕ) → i < at → slice_index new_of i ≡ slice_index of i = λ i less. index_old of b i (omega (arith, less, placed.sized)) in
    let new : slice_index new_of at ≡ b = index_last of b at (sym placed.sized) in
    let first : (c : ℕ) → c < b → slice_index new_firsts c ≡ slice_index firsts c = λ c less. index_old firsts at c less in
    let last : (c : ℕ) → c < b → slice_index new_lasts c ≡ slice_index lasts c = λ c less. index_old lasts at c (omega (arith, less, placed.paired)) in
    let new_first : slice_index new_firsts b ≡ at = index_last firsts at b refl in
    let new_last : slice_index new_lasts b ≡ at = index_last lasts at b (sym placed.paired) in
    let first_of : (i : ℕ) → i < at → slice_index new_firsts (slice_index new_of i) ≡ slice_index firsts (slice_index of i) = λ i less. ap (slice_index new_firsts) (old i less) ∙ first (slice_index of i) (placed.known i less) in
    let last_of : (i : ℕ) → i < at → slice_index new_lasts (slice_index new_of i) ≡ slice_index lasts (slice_index of i) = λ i less. ap (slice_index new_lasts) (old i less) ∙ last (slice_index of i) (placed.known i less) in
    let at_first : slice_index new_firsts (slice_index new_of at) ≡ at = ap (slice_index new_firsts) new ∙ new_first in
    let at_last : slice_index new_lasts (slice_index new_of at) ≡ at = ap (slice_index new_lasts) new ∙ new_last in
    record {
      sized = omega (arith, placed.sized, length-append of (b ∷ []));
      paired = omega (arith, placed.paired, longer, length-append lasts (at ∷ []));
      few = omega (arith, placed.few, longer);
      known = λ i less. elim (cases_lt i at) [
        | inl early ↦ omega (arith, old i early, placed.known i early, longer)
        | inr late ↦
            let is : i ≡ at = omega (arith, less, late) in
            rw is (omega (arith, new, longer))
      ];
      low = λ i less. elim (cases_lt i at) [
        | inl early ↦ omega (arith, old i early, placed.low i early)
        | inr late ↦
            let is : i ≡ at = omega (arith, less, late) in
            rw is (omega (arith, new, placed.few))
      ];
      first = λ c in_firsts. elim (cases_lt c b) [
        | inl less ↦
            let had = placed.first c less in
            (omega (arith, first c less, had.0), ap (slice_index new_of) (first c less) ∙ old (slice_index firsts c) had.0 ∙ had.1)
        | inr past ↦
            let is : c ≡ b = omega (arith, past, in_firsts, longer) in
            rw is (omega (arith, new_first), ap (slice_index new_of) new_first ∙ new)
      ];
      last = λ c in_firsts. elim (cases_lt c b) [
        | inl less ↦
            let had = placed.last c less in
            (omega (arith, last c less, had.0), ap (slice_index new_of) (last c less) ∙ old (slice_index lasts c) had.0 ∙ had.1)
        | inr past ↦
            let is : c ≡ b = omega (arith, past, in_firsts, longer) in
            rw is (omega (arith, new_last), ap (slice_index new_of) new_last ∙ new)
      ];
      rise = λ c d less in_firsts. elim (cases_lt d b) [
        | inl early ↦ omega (arith, first c (omega (arith, less, early)), first d early, placed.rise c d less early)
        | inr past ↦
            let is : d ≡ b = omega (arith, past, in_firsts, longer) in
            let before : c < b = omega (arith, less, is) in
            rw is (omega (arith, new_first, first c before, (placed.first c before).0))
      ];
      least = λ i less. elim (cases_lt i at) [
        | inl early ↦ omega (arith, first_of i early, placed.least i early)
        | inr late ↦
            let is : i ≡ at = omega (arith, less, late) in
            rw is (omega (arith, at_first))
      ];
      joined = λ connectivity i less. elim (cases_lt i at) [
        | inl early ↦
            let had = placed.joined connectivity i early in
            (had.0, subst (λ (c : ℕ). IsWalk (IsContact connectivity runs units) c had.0 i) (sym (first_of i early)) had.1)
        | inr late ↦
            let is : at ≡ i = omega (arith, less, late) in
            ([], subst (λ (m : ℕ). slice_index new_firsts (slice_index new_of m) ≡ m) is at_first)
      ];
      from = λ i less. elim (cases_lt i at) [
        | inl early ↦ elim (placed.from i early) [
          | inl is_first ↦ inl (is_first ∙ sym (first_of i early))
          | inr more ↦ inr (more.0, omega (arith, more.1), old more.0 more.1 ∙ more.2 ∙ sym (old i early), more.3)
        ]
        | inr late ↦
            let is : at ≡ i = omega (arith, less, late) in
            inl (subst (λ (m : ℕ). m ≡ slice_index new_firsts (slice_index new_of m)) is (sym at_first))
      ];
      on = λ i less. elim (cases_lt i at) [
        | inl early ↦ elim (placed.on i early) [
          | inl is_last ↦ inl (is_last ∙ sym (last_of i early))
          | inr more ↦ inr (more.0, omega (arith, more.1), old more.0 more.1 ∙ more.2 ∙ sym (old i early), more.3)
        ]
        | inr late ↦
            let is : at ≡ i = omega (arith, less, late) in
            inl (subst (λ (m : ℕ). m ≡ slice_index new_lasts (slice_index new_of m)) is (sym at_last))
      ];
    }

-- a contact in the row below is that which goes on, or leads from the last run of a block to the first of another
pub placed_leave : (ncols nrows : ℕ) (runs : List Run) (units : List ℤ) (starts of firsts lasts : List ℕ) (i j : ℕ) (a b : Run) → AreInRows ncols nrows runs units starts → AreApart runs units → ArePlaced runs units of firsts lasts (length runs) → slice_get runs i ≡ Some a → slice_get runs j ≡ Some b → b.row ≡ a.row + 1 → IsContact true runs units i j → (slice_index of i ≡ slice_index of j) ⊎ ((i ≡ slice_index lasts (slice_index of i)) × (j ≡ slice_index firsts (slice_index of j)))
placed_leave ncols nrows runs units starts of firsts lasts i j a b ordered apart placed at_a at_b below contact =
    let same_a : contact.first ≡ a = same_Some contact.first a (sym contact.at_first ∙ at_a) in
    let same_b : contact.second ≡ b = same_Some contact.second b (sym contact.at_second ∙ at_b) in
    let touch : Touches true a b = subst (λ (r : Run). Touches true r b) same_a (subst (λ (r : Run). Touches true contact.first r) same_b contact.touch) in
    let first : a.from ≤ b.to = omega (arith, touch.1) in
    let second : b.from ≤ a.to = omega (arith, touch.2) in
    elim (placed.on i (slice_get_within runs i a at_a)) [
      | inr more ↦
          let on = more.3 in
          let same : on.first ≡ a = same_Some on.first a (sym on.at_first ∙ at_a) in
          let value : on.value ≡ contact.value = same_Some on.value contact.value (sym on.first_value ∙ contact.first_value) in
          let row : on.second.row ≡ b.row = on.row ∙ ap (λ (r : Run). r.row + 1) same ∙ sym below in
          let from : on.second.from ≡ a.from = on.from ∙ ap (λ (r : Run). r.from) same in
          let to : on.second.to ≡ a.to = on.to ∙ ap (λ (r : Run). r.to) same in
          let is : more.0 ≡ j = one_run ncols nrows runs units starts more.0 j on.second b contact.value ordered apart on.at_second at_b (on.second_value ∙ ap (λ (v : ℤ). Some v) value) contact.second_value row (omega (arith, from, first)) (omega (arith, to, second)) in
          inl (sym more.2 ∙ ap (slice_index of) is)
      | inl is_last ↦ elim (placed.from j (slice_get_within runs j b at_b)) [
        | inl is_first ↦ inr (is_last, is_first)
        | inr more ↦
            let on = more.3 in
            let same : on.second ≡ b = same_Some on.second b (sym on.at_second ∙ at_b) in
            let value : on.value ≡ contact.value = same_Some on.value contact.value (sym on.second_value ∙ contact.second_value) in
            let row : on.first.row ≡ a.row = omega (arith, on.row, ap (λ (r : Run). r.row) same, below) in
            let from : on.first.from ≡ b.from = sym on.from ∙ ap (λ (r : Run). r.from) same in
            let to : on.first.to ≡ b.to = sym on.to ∙ ap (λ (r : Run). r.to) same in
            let is : more.0 ≡ i = one_run ncols nrows runs units starts more.0 i on.first a contact.value ordered apart on.at_first at_a (on.first_value ∙ ap (λ (v : ℤ). Some v) value) contact.first_value row (omega (arith, from, second)) (omega (arith, to, first)) in
            inl (ap (slice_index of) (sym is) ∙ more.2)
      ]
    ]

-- each run as a block of its own

pub own_at : (n i : ℕ) → i < n → slice_index (range_with_len 0 n) i ≡ i
own_at n i within = omega (arith, get_or-range_with_len 0 n i 0 within)

placed_own : (runs : List Run) (units : List ℤ) → ArePlaced runs units (range_with_len 0 (length runs)) (range_with_len 0 (length runs)) (range_with_len 0 (length runs)) (length runs)
placed_own runs units =
    let n = length runs in
    let own = range_with_len 0 n in
    let sized : length own ≡ n = length-range_with_len 0 n in
    let same : (i : ℕ) → i < n → slice_index own i ≡ i = λ i less. own_at n i less in
    let twice : (i : ℕ) → i < n → slice_index own (slice_index own i) ≡ i = λ i less. ap (slice_index own) (same i less) ∙ same i less in
    let ends : (b : ℕ) → b < length own → (slice_index own b < n) × (slice_index own (slice_index own b) ≡ b) = λ b less. (omega (arith, less, sized, same b (omega (arith, less, sized))), twice b (omega (arith, less, sized))) in
    record {
      sized = sized;
      paired = refl;
      few = omega (arith, sized);
      known = λ i less. omega (arith, sized, less, same i less);
      low = λ i less. omega (arith, same i less);
      first = ends;
      last = ends;
      rise = λ b c less within. omega (arith, less, same b (omega (arith, less, within, sized)), same c (omega (arith, within, sized)));
      least = λ i less. omega (arith, twice i less);
      joined = λ connectivity i less. ([], twice i less);
      from = λ i less. inl (sym (twice i less));
      on = λ i less. inl (sym (twice i less));
    }

-- runs that are placed, or blocks of their own where no blocks are kept
placed_or_own : (runs : List Run) (units : List ℤ) (of firsts lasts : List ℕ) → (0 < length of → ArePlaced runs units of firsts lasts (length runs)) → ArePlaced runs units (kept_or_own of of (length runs)) (kept_or_own of firsts (length runs)) (kept_or_own of lasts (length runs)) (length runs)
placed_or_own runs units [] firsts lasts placed = placed_own runs units
placed_or_own runs units (b ∷ bs) firsts lasts placed = placed (omega arith)

-- the blocks with a run put into them

pub known_block : (rows : RowRuns) (blocks : Blocks) (i at : ℕ) → HasPlaced rows blocks at → i < at → slice_index blocks.of.items i < length blocks.ends.items
known_block rows blocks i at placed before = omega (arith, placed.known i before, length-map blocks.ends.items (λ (k : Block). k.first))

same_firsts : (blocks : List Block) (b : ℕ) (block was : Block) → slice_get blocks b ≡ Some was → block.first ≡ was.first → first_runs (set blocks b block) ≡ first_runs blocks
same_firsts blocks b block was is same = map-set_same (λ (k : Block). k.first) blocks b block was (same ∙ ap (λ (k : Block). k.first) (sym (get_or_from_slice_get blocks b was was is)))

pub put_on : (rows : RowRuns) (old : Blocks) (numbers : List ℕ) (ends : List Block) (h at b : ℕ) (block was : Block) → AreInOrder rows → AreApart rows.runs.items (noted_units rows.notes.items) → HasPlaced rows old at → h < at → at < length rows.runs.items → GoesOn rows.runs.items (noted_units rows.notes.items) h at → b ≡ slice_index old.of.items h → slice_get old.ends.items b ≡ Some was → numbers ≡ old.of.items ++ b ∷ [] → ends ≡ set old.ends.items b block → block.first ≡ was.first → block.last ≡ at → ArePlaced rows.runs.items (noted_units rows.notes.items) numbers (first_runs ends) (last_runs ends) (at + 1)
put_on rows old numbers ends h at b block was ordered apart placed before within goes in_block is numbers_are ends_are first last =
    let of : numbers ≡ old.of.items ++ slice_index old.of.items h ∷ [] = numbers_are ∙ ap (λ (n : ℕ). old.of.items ++ n ∷ []) in_block in
    let firsts : first_runs ends ≡ first_runs old.ends.items = ap first_runs ends_are ∙ same_firsts old.ends.items b block was is first in
    let lasts : last_runs ends ≡ set (last_runs old.ends.items) (slice_index old.of.items h) at = ap last_runs ends_are ∙ map-set (λ (k : Block). k.last) old.ends.items b block ∙ ap (λ (n : ℕ). set (last_runs old.ends.items) n block.last) in_block ∙ ap (set (last_runs old.ends.items) (slice_index old.of.items h)) last in
    rw (of, firsts, lasts) (placed_on rows.ncols rows.nrows rows.runs.items (noted_units rows.notes.items) rows.starts.items old.of.items (first_runs old.ends.items) (last_runs old.ends.items) h at ordered apart placed before within goes)

pub put_first : (rows : RowRuns) (old : Blocks) (numbers : List ℕ) (ends : List Block) (at b : ℕ) (block : Block) → HasPlaced rows old at → at < length rows.runs.items → b ≡ length old.ends.items → numbers ≡ old.of.items ++ b ∷ [] → ends ≡ old.ends.items ++ block ∷ [] → block.first ≡ at → block.last ≡ at → ArePlaced rows.runs.items (noted_units rows.notes.items) numbers (first_runs ends) (last_runs ends) (at + 1)
put_first rows old numbers ends at b block placed within in_block numbers_are ends_are first last =
    let of : numbers ≡ old.of.items ++ length (first_runs old.ends.items) ∷ [] = numbers_are ∙ ap (λ (n : ℕ). old.of.items ++ n ∷ []) (in_block ∙ sym (length-map old.ends.items (λ (k : Block). k.first))) in
    let firsts : first_runs ends ≡ first_runs old.ends.items ++ at ∷ [] = ap first_runs ends_are ∙ map-append (λ (k : Block). k.first) old.ends.items (block ∷ []) ∙ ap (λ (n : ℕ). first_runs old.ends.items ++ n ∷ []) first in
    let lasts : last_runs ends ≡ last_runs old.ends.items ++ at ∷ [] = ap last_runs ends_are ∙ map-append (λ (k : Block). k.last) old.ends.items (block ∷ []) ∙ ap (λ (n : ℕ). last_runs old.ends.items ++ n ∷ []) last in
    rw (of, firsts, lasts) (placed_first rows.runs.items (noted_units rows.notes.items) old.of.items (first_runs old.ends.items) (last_runs old.ends.items) at placed within)

-- no run is in a block yet
pub has_none : (rows : RowRuns) (numbers : List ℕ) (ends : List Block) → length numbers ≡ 0 → length ends ≡ 0 → ArePlaced rows.runs.items (noted_units rows.notes.items) numbers (first_runs ends) (last_runs ends) 0
has_none rows numbers ends none no_ends =
    let firsts : length (first_runs ends) ≡ 0 = length-map ends (λ (k : Block). k.first) ∙ no_ends in
    let lasts : length (last_runs ends) ≡ 0 = length-map ends (λ (k : Block). k.last) ∙ no_ends in
    placed_none rows.runs.items (noted_units rows.notes.items) numbers (first_runs ends) (last_runs ends) none firsts lasts

-- all runs are in the blocks that are kept
pub has_blocks : (rows : RowRuns) (blocks : Blocks) → AreInOrder rows → AreApart rows.runs.items (noted_units rows.notes.items) → (0 < length blocks.of.items → HasPlaced rows blocks (length rows.runs.items)) → AreBlocksOf rows blocks
has_blocks rows blocks ordered apart placed =
    let all = placed_or_own rows.runs.items (noted_units rows.notes.items) blocks.of.items (first_runs blocks.ends.items) (last_runs blocks.ends.items) placed in
    record {
      placed = all;
      leave = λ i j a b at_a at_b below contact. placed_leave rows.ncols rows.nrows rows.runs.items (noted_units rows.notes.items) rows.starts.items (numbers_in blocks (length rows.runs.items)) (firsts_in blocks (length rows.runs.items)) (lasts_in blocks (length rows.runs.items)) i j a b ordered apart all at_a at_b below contact;
    }

pub apart_kept : (old new : RowRuns) → KeepsRows old new → AreApart old.runs.items (noted_units old.notes.items) → AreApart new.runs.items (noted_units new.notes.items)
apart_kept old new keeps apart = rw (keeps.runs, keeps.units) apart
