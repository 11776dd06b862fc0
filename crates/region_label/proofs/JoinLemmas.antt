-- Cells are joined through the runs that they are in.
use Rattle.std.proofs.Common.{◌≡◌, ℕ, zero, suc, ◌+◌, ◌-◌, ◌<◌, ◌≤◌, ◌⊎◌, inl, inr, ℤ, Bool, true, false, List, [], ◌∷◌, Some, refl, ap, sym, ◌∙◌, subst, arith}
use Rattle.std.specs.Prelude.{slice_get}
use Rattle.std.proofs.lemmas.Bool.{cases_lt}
use Rattle.std.proofs.lemmas.Option.{same_Some}
use Rattle.cell_base.specs.Raster.{Place, Raster, value_at}
use Rattle.cell_base.specs.Steps.{AreNext, IsStep, SharesCorner, SharesSide, step_reach}
use Rattle.cell_base.specs.Walk.{IsJoined, IsWalk, StepsInto}
use Rattle.cell_base.proofs.WalkLemmas.{joined_itself, joined_more, joined_sym, joined_trans}
use Rattle.region_label.specs.Component.{HasValue, InComponent}
use Rattle.region_label.specs.Run.{Run, IsCellOf, IsRunIn, first_cell}
use Rattle.region_label.specs.RunTable.{IsTableOfCells, TableOfRuns}
use Rattle.region_label.specs.Inner.Lists.{IsContact, IsOf, Touches}
use Rattle.region_label.proofs.ComponentLemmas.{component_itself, component_trans, same_value}

pub side_step : (connectivity : Bool) (a b : Place) → SharesSide a b → IsStep connectivity a b
side_step false a b side = side
side_step true a b side = inl side

-- the cells of a run are joined to its first
run_joined : (connectivity : Bool) (set : Place → Type 0) (run : Run) → ((p : Place) → IsCellOf run p → set p) → (n : ℕ) → run.from + n < run.to → IsJoined connectivity set (first_cell run) (run.row, run.from + n)
run_joined connectivity set run all zero within =
    let same : run.from ≡ run.from + 0 = omega arith in
    subst (λ (col : ℕ). IsJoined connectivity set (first_cell run) (run.row, col)) same (joined_itself connectivity set (first_cell run) (all (first_cell run) (refl, omega arith, omega arith)))
run_joined connectivity set run all (suc n) within =
    let before = run_joined connectivity set run all n (omega arith) in
    let side : SharesSide (run.row, run.from + n) (run.row, run.from + suc n) = inl (refl, inr (omega arith)) in
    joined_more connectivity set (first_cell run) (run.row, run.from + n) (run.row, run.from + suc n) before (side_step connectivity (run.row, run.from + n) (run.row, run.from + suc n) side) (all (run.row, run.from + suc n) (refl, omega arith, omega arith))

pub cell_joined : (connectivity : Bool) (set : Place → Type 0) (run : Run) (p : Place) → ((q : Place) → IsCellOf run q → set q) → IsCellOf run p → IsJoined connectivity set (first_cell run) p
cell_joined connectivity set run p all in_run =
    let col : run.from + (p.1 - run.from) ≡ p.1 = omega (arith, in_run.1) in
    let row : run.row ≡ p.0 = sym in_run.0 in
    let same : (run.row, run.from + (p.1 - run.from)) ≡ (p.0, p.1) = cc in
    let within : run.from + (p.1 - run.from) < run.to = omega (arith, col, in_run.2) in
    subst (λ (q : Place). IsJoined connectivity set (first_cell run) q) same (run_joined connectivity set run all (p.1 - run.from) within)

-- two cells of runs that touch
abbrev pub AreClose : Bool → Run → Run → Type 0
AreClose connectivity a b = (p : Place) × (q : Place) × IsCellOf a p × IsCellOf b q × IsStep connectivity p q

close_by_side : (connectivity : Bool) (a b : Run) (col : ℕ) → AreNext a.row b.row → a.from ≤ col → col < a.to → b.from ≤ col → col < b.to → AreClose connectivity a b
close_by_side connectivity a b col next from_a to_a from_b to_b =
    ((a.row, col), (b.row, col), (refl, from_a, to_a), (refl, from_b, to_b), side_step connectivity (a.row, col) (b.row, col) (inr (refl, next)))

close_four : (connectivity : Bool) (a b : Run) → AreNext a.row b.row → a.from < a.to → b.from < b.to → a.from < b.to → b.from < a.to → AreClose connectivity a b
close_four connectivity a b next some_a some_b first second = elim (cases_lt a.from b.from) [
  | inl less ↦ close_by_side connectivity a b b.from next (omega arith) second (omega arith) some_b
  | inr past ↦ close_by_side connectivity a b a.from next (omega arith) some_a past first
]

pub close : (connectivity : Bool) (a b : Run) → a.from < a.to → b.from < b.to → Touches connectivity a b → AreClose connectivity a b
close false a b some_a some_b touch = close_four false a b touch.0 some_a some_b (omega (arith, touch.1)) (omega (arith, touch.2))
close true a b some_a some_b touch = elim (cases_lt a.from b.to) [
  | inr left ↦
      let corner : SharesCorner (a.row, a.from) (b.row, b.to - 1) = (touch.0, inl (omega (arith, touch.1))) in
      ((a.row, a.from), (b.row, b.to - 1), (refl, omega arith, some_a), (refl, omega arith, omega arith), inr corner)
  | inl first ↦ elim (cases_lt b.from a.to) [
    | inl second ↦ close_four true a b touch.0 some_a some_b first second
    | inr right ↦
        let corner : SharesCorner (a.row, a.to - 1) (b.row, b.from) = (touch.0, inr (omega (arith, touch.2))) in
        ((a.row, a.to - 1), (b.row, b.from), (refl, omega arith, omega arith), (refl, omega arith, some_b), inr corner)
  ]
]

-- the run at an index is one of cells of its units
pub run_value : (cells : Raster ℤ) (valid : Raster Bool) (table : TableOfRuns) (i : ℕ) (run : Run) (u : ℤ) → IsTableOfCells cells valid table → slice_get table.runs i ≡ Some run → slice_get table.units i ≡ Some u → IsRunIn (HasValue cells valid (Some u)) run
run_value cells valid table i run u is at unit =
    let each = is.runs.each i run at in
    let first = each.1.cells (first_cell run) (refl, omega arith, each.1.some) in
    let same : each.0 ≡ u = same_Some each.0 u (sym first.1 ∙ is.units i run at ∙ unit) in
    subst (λ (v : ℤ). IsRunIn (HasValue cells valid (Some v)) run) same each.1

-- the first cells of two runs in contact are joined
pub contact_joined : (connectivity : Bool) (cells : Raster ℤ) (valid : Raster Bool) (table : TableOfRuns) (i j : ℕ) (a b : Run) → IsTableOfCells cells valid table → slice_get table.runs i ≡ Some a → slice_get table.runs j ≡ Some b → IsContact connectivity table.runs table.units i j → InComponent connectivity cells valid (first_cell a) (first_cell b)
contact_joined connectivity cells valid table i j a b is at_a at_b contact =
    let set = HasValue cells valid (Some contact.value) in
    let same_a : contact.first ≡ a = same_Some contact.first a (sym contact.at_first ∙ at_a) in
    let same_b : contact.second ≡ b = same_Some contact.second b (sym contact.at_second ∙ at_b) in
    let in_a = run_value cells valid table i a contact.value is at_a contact.first_value in
    let in_b = run_value cells valid table j b contact.value is at_b contact.second_value in
    let touch : Touches connectivity a b = subst (λ (r : Run). Touches connectivity r b) same_a (subst (λ (r : Run). Touches connectivity contact.first r) same_b contact.touch) in
    let near : AreClose connectivity a b = close connectivity a b in_a.some in_b.some touch in
    let to_p = cell_joined connectivity set a near.0 in_a.cells near.2 in
    let to_q = joined_more connectivity set (first_cell a) near.0 near.1 to_p near.4 (in_b.cells near.1 near.3) in
    let from_q = joined_sym connectivity set (first_cell b) near.1 (cell_joined connectivity set b near.1 in_b.cells near.3) in
    let first = in_a.cells (first_cell a) (refl, omega arith, in_a.some) in
    same_value connectivity cells valid (Some contact.value) (value_at cells (first_cell a)) (first_cell a) (first_cell b) (sym first.1) (joined_trans connectivity set (first_cell a) near.1 (first_cell b) to_q from_q)

-- so are those of two runs that a walk of contacts joins
pub walk_joined : (connectivity : Bool) (cells : Raster ℤ) (valid : Raster Bool) (table : TableOfRuns) (i j : ℕ) (a b : Run) (walk : List ℕ) → IsTableOfCells cells valid table → slice_get table.runs i ≡ Some a → slice_get table.runs j ≡ Some b → IsWalk (IsContact connectivity table.runs table.units) i walk j → InComponent connectivity cells valid (first_cell a) (first_cell b)
walk_joined connectivity cells valid table i j a b [] is at_a at_b walked =
    let same : a ≡ b = same_Some a b (sym at_a ∙ ap (slice_get table.runs) walked ∙ at_b) in
    let each = is.runs.each i a at_a in
    subst (λ (r : Run). InComponent connectivity cells valid (first_cell a) (first_cell r)) same (component_itself connectivity cells valid (first_cell a) (each.1.cells (first_cell a) (refl, omega arith, each.1.some)).0)
walk_joined connectivity cells valid table i j a b (c ∷ cs) is at_a at_b walked =
    let contact = walked.0 in
    component_trans connectivity cells valid (first_cell a) (first_cell contact.second) (first_cell b) (contact_joined connectivity cells valid table i c a contact.second is at_a contact.at_second contact) (walk_joined connectivity cells valid table c j contact.second b cs is contact.at_second at_b walked.1)

-- each cell of a run is joined to its first
pub in_run_joined : (connectivity : Bool) (cells : Raster ℤ) (valid : Raster Bool) (table : TableOfRuns) (i : ℕ) (a : Run) (p : Place) → IsTableOfCells cells valid table → slice_get table.runs i ≡ Some a → IsCellOf a p → InComponent connectivity cells valid (first_cell a) p
in_run_joined connectivity cells valid table i a p is at_a in_a =
    let each = is.runs.each i a at_a in
    let first = each.1.cells (first_cell a) (refl, omega arith, each.1.some) in
    same_value connectivity cells valid (Some each.0) (value_at cells (first_cell a)) (first_cell a) p (sym first.1) (cell_joined connectivity (HasValue cells valid (Some each.0)) a p each.1.cells in_a)

-- a cell of the run's value next to a cell of it in the row is in it
stays_in_row : (set : Place → Type 0) (run : Run) (p q : Place) → IsRunIn set run → IsCellOf run p → set q → p.0 ≡ q.0 → AreNext p.1 q.1 → IsCellOf run q
stays_in_row set run p q is in_p in_set same (inl left) = elim (cases_lt q.1 run.from) [
  | inr within ↦ (omega (arith, in_p.0), within, omega (arith, in_p.2))
  | inl out ↦
      let row : q.0 ≡ run.row = omega (arith, in_p.0) in
      let here : (q.0, q.1) ≡ (run.row, q.1) = cc in
      absurd (is.left q.1 (omega (arith, in_p.1)) (subst set here in_set))
]
stays_in_row set run p q is in_p in_set same (inr right) = elim (cases_lt q.1 run.to) [
  | inl within ↦ (omega (arith, in_p.0), omega (arith, in_p.1), within)
  | inr out ↦
      let row : q.0 ≡ run.row = omega (arith, in_p.0) in
      let col : q.1 ≡ run.to = omega (arith, in_p.2) in
      let here : (q.0, q.1) ≡ (run.row, run.to) = cc in
      absurd (is.right (subst set here in_set))
]

-- a step leads along the row, or to a run that touches
pub step_cases : (connectivity : Bool) (p q : Place) → IsStep connectivity p q → ((p.0 ≡ q.0) × AreNext p.1 q.1) ⊎ (AreNext p.0 q.0 × (p.1 < q.1 + 1 + step_reach connectivity) × (q.1 < p.1 + 1 + step_reach connectivity))
step_cases false p q (inl row) = inl row
step_cases false p q (inr col) = inr (col.1, omega (arith, col.0), omega (arith, col.0))
step_cases true p q (inl (inl row)) = inl row
step_cases true p q (inl (inr col)) = inr (col.1, omega (arith, col.0), omega (arith, col.0))
step_cases true p q (inr (row, inl left)) = inr (row, omega arith, omega arith)
step_cases true p q (inr (row, inr right)) = inr (row, omega arith, omega arith)

-- a step within a value leads to a run of the same component
step_stays : (connectivity : Bool) (cells : Raster ℤ) (valid : Raster Bool) (table : TableOfRuns) (i k : ℕ) (a : Run) (p q : Place) → IsTableOfCells cells valid table → ((x y m : ℕ) → IsOf table.components x m → IsContact connectivity table.runs table.units x y → IsOf table.components y m) → slice_get table.runs i ≡ Some a → IsCellOf a p → IsOf table.components i k → IsStep connectivity p q → HasValue cells valid (value_at cells p) q → (j : ℕ) × (b : Run) × (slice_get table.runs j ≡ Some b) × IsCellOf b q × IsOf table.components j k
step_stays connectivity cells valid table i k a p q is closed at_a in_a is_k step has =
    let each = is.runs.each i a at_a in
    let value : value_at cells p ≡ Some each.0 = (each.1.cells p in_a).1 in
    let has_value : HasValue cells valid (Some each.0) q = (has.0, has.1 ∙ value) in
    elim (step_cases connectivity p q step) [
      | inl row ↦ (i, a, at_a, stays_in_row (HasValue cells valid (Some each.0)) a p q each.1 in_a has_value row.0 row.1, is_k)
      | inr rows ↦
          let found = is.runs.every each.0 q has_value in
          let first = each.1.cells (first_cell a) (refl, omega arith, each.1.some) in
          let each_b = is.runs.each found.0 found.1 found.2 in
          let first_b = each_b.1.cells (first_cell found.1) (refl, omega arith, each_b.1.some) in
          let same : value_at cells (first_cell found.1) ≡ Some each.0 = first_b.1 ∙ sym (each_b.1.cells q found.3).1 ∙ has_value.1 in
          let next : AreNext a.row found.1.row = subst (λ (r : ℕ). AreNext r found.1.row) in_a.0 (subst (λ (r : ℕ). AreNext p.0 r) found.3.0 rows.0) in (
            found.0,
            found.1,
            found.2,
            found.3,
            closed i found.0 k is_k (record {
              first = a;
              second = found.1;
              value = each.0;
              at_first = at_a;
              at_second = found.2;
              first_value = sym (is.units i a at_a) ∙ first.1;
              second_value = sym (is.units found.0 found.1 found.2) ∙ same;
              touch = (next, omega (arith, rows.1, in_a.1, found.3.2), omega (arith, rows.2, in_a.2, found.3.1));
            }),
          )
    ]

-- cells that are joined are in runs of one component
pub joined_stays : (connectivity : Bool) (cells : Raster ℤ) (valid : Raster Bool) (table : TableOfRuns) (i k : ℕ) (a : Run) (p q : Place) (walk : List Place) → IsTableOfCells cells valid table → ((x y m : ℕ) → IsOf table.components x m → IsContact connectivity table.runs table.units x y → IsOf table.components y m) → slice_get table.runs i ≡ Some a → IsCellOf a p → IsOf table.components i k → IsWalk (StepsInto connectivity (HasValue cells valid (value_at cells p))) p walk q → (j : ℕ) × (b : Run) × (slice_get table.runs j ≡ Some b) × IsCellOf b q × IsOf table.components j k
joined_stays connectivity cells valid table i k a p q [] is closed at_a in_a is_k walked = (i, a, at_a, subst (λ (c : Place). IsCellOf a c) walked in_a, is_k)
joined_stays connectivity cells valid table i k a p q (c ∷ cs) is closed at_a in_a is_k walked =
    let on = step_stays connectivity cells valid table i k a p c is closed at_a in_a is_k walked.0.0 walked.0.1 in
    let rest = subst (λ v. IsWalk (StepsInto connectivity (HasValue cells valid v)) c cs q) (sym walked.0.1.1) walked.1 in
    joined_stays connectivity cells valid table on.0 k on.1 c q cs is closed on.2 on.3 on.4 rest
