-- Where the runs begin that a run meets in the rows beside it.
use Rattle.std.proofs.Common.{◌≡◌, ℕ, ◌+◌, ◌<◌, ◌≤◌, inl, inr, ℤ, true, List, Some, ap, sym, ◌∙◌, subst, length, arith}
use Rattle.std.specs.Prelude.{slice_get, slice_index}
use Rattle.std.proofs.lemmas.Bool.{cases_eq, cases_lt}
use Rattle.std.proofs.lemmas.Option.{slice_get_within, slice_get-get_or}
use Rattle.region_label.specs.Run.{Run}
use Rattle.region_label.specs.declared.rows.RowRuns.{RowRuns}
use Rattle.region_label.specs.Inner.Notes.{AreNoted, AreNotedBefore, BeginAt, IsFirstAlike, IsFirstReaching, IsNoted, Notes}
use Rattle.region_label.specs.Inner.Rows.{AreInRows, noted_units}
use Rattle.region_label.specs.Inner.Table.{AreInOrder, KeepsRows}
use Rattle.region_label.proofs.ContactLemmas.{contact_runs}
use Rattle.region_label.proofs.NoteLemmas.{length-noted}
use Rattle.region_label.proofs.SearchLemmas.{begins_no_earlier, between_row}

no_run : Run
no_run = record { row = 0; from = 0; to = 0 }

-- where a walk along a row stands in a row beside it, when it comes to a run: those before end before this or a later
-- run of the row begins
pub record StandsAt (runs : List Run) (starts : List ℕ) (row beside run at : ℕ) : Type 0 where
  pub from : slice_index starts beside ≤ at
  pub to : at ≤ slice_index starts (beside + 1)
  pub before : (k j : ℕ) (a b : Run) → slice_get runs k ≡ Some a → slice_get runs j ≡ Some b → a.row ≡ row → run ≤ k
      → slice_index starts beside ≤ j → j < at → b.to < a.from

pub stands_first : (runs : List Run) (starts : List ℕ) (row beside run at : ℕ) → at ≡ slice_index starts beside → slice_index starts beside ≤ slice_index starts (beside + 1) → StandsAt runs starts row beside run at
stands_first runs starts row beside run at is rise = record {
  from = omega (arith, is);
  to = omega (arith, is, rise);
  before = λ k j a b at_a at_b in_row later from to. absurd (omega (arith, is, from, to));
}

pub stands_further : (ncols nrows : ℕ) (runs : List Run) (units : List ℤ) (starts : List ℕ) (row beside run at next : ℕ) (r : Run) → AreInRows ncols nrows runs units starts → slice_get runs run ≡ Some r → r.row ≡ row → StandsAt runs starts row beside run at → IsFirstReaching runs run at (slice_index starts (beside + 1)) next → StandsAt runs starts row beside run next
stands_further ncols nrows runs units starts row beside run at next r ordered at_r in_row stands first = record {
  from = omega (arith, stands.from, first.from);
  to = first.to;
  before = λ k j a b at_a at_b row_a later from to. elim (cases_lt j at) [
    | inl before ↦ stands.before k j a b at_a at_b row_a later from before
    | inr past ↦
        let begins = begins_no_earlier ncols nrows runs units starts run k r a ordered at_r at_a (in_row ∙ sym row_a) later in
        omega (arith, first.before j r b at_r at_b past to, begins)
  ];
}

pub stands_on : (runs : List Run) (starts : List ℕ) (row beside run at : ℕ) → StandsAt runs starts row beside run at → StandsAt runs starts row beside (run + 1) at
stands_on runs starts row beside run at stands = record {
  from = stands.from;
  to = stands.to;
  before = λ k j a b at_a at_b row_a later from to. stands.before k j a b at_a at_b row_a (omega (arith, later)) from to;
}

-- a search from there finds where those begin that the run meets
pub begins_at : (ncols nrows : ℕ) (runs : List Run) (units : List ℤ) (starts : List ℕ) (row beside run from at : ℕ) (r : Run) → AreInRows ncols nrows runs units starts → beside < nrows → slice_get runs run ≡ Some r → r.row ≡ row → StandsAt runs starts row beside run from → IsFirstAlike runs units run from (slice_index starts (beside + 1)) at → BeginAt runs units starts run beside at
begins_at ncols nrows runs units starts row beside run from at r ordered within at_r in_row stands first = record {
  from = omega (arith, stands.from, first.from);
  to = first.to;
  before = λ j b at_b row_b contact.
      let touch = contact_runs true runs units run j r b at_r at_b contact in
      elim (cases_lt j at) [
        | inr past ↦ past
        | inl less ↦ elim (cases_lt j from) [
          | inl early ↦
              let between = between_row ncols nrows runs units starts beside j b ordered within at_b row_b in
              absurd (omega (arith, stands.before run j r b at_r at_b in_row (omega arith) between.0 early, touch.1))
          | inr late ↦ absurd (omega (arith, first.before j r b at_r at_b late less (contact.second_value ∙ sym contact.first_value), touch.2))
        ]
      ];
}

-- with one more run noted
pub noted_on : (old new : RowRuns) (run above below : ℕ) → KeepsRows old new → Notes old new run above below → AreNotedBefore old run → ((a : Run) (row : ℕ) → slice_get old.runs.items run ≡ Some a → a.row ≡ row + 1 → BeginAt old.runs.items (noted_units old.notes.items) old.starts.items run row above) → ((a : Run) (row : ℕ) → slice_get old.runs.items run ≡ Some a → row ≡ a.row + 1 → row < old.nrows → BeginAt old.runs.items (noted_units old.notes.items) old.starts.items run row below) → AreNotedBefore new (run + 1)
noted_on old new run above below keeps notes noted begins_above begins_below i note at less =
    let before : IsNoted old.nrows old.runs.items (noted_units old.notes.items) old.starts.items i note = elim (cases_eq i run) [
      | inl same ↦
          let is = notes.note note (ap (slice_get new.notes.items) (sym same) ∙ at) in
          subst (λ (n : ℕ). IsNoted old.nrows old.runs.items (noted_units old.notes.items) old.starts.items n note) (sym same) (record {
            above = λ a row at_a next. subst (λ (n : ℕ). BeginAt old.runs.items (noted_units old.notes.items) old.starts.items run row n) (sym is.0) (begins_above a row at_a next);
            below = λ a row at_a next within. subst (λ (n : ℕ). BeginAt old.runs.items (noted_units old.notes.items) old.starts.items run row n) (sym is.1) (begins_below a row at_a next within);
          })
      | inr other ↦ noted i note (sym (notes.others i other) ∙ at) (omega (arith, less, other))
    ] in
    rw (keeps.nrows, keeps.runs, keeps.units, keeps.starts) before

-- with all rows walked along all runs are noted
pub all_noted : (rows : RowRuns) (end : ℕ) → AreInOrder rows → end ≡ rows.nrows → AreNotedBefore rows (slice_index rows.starts.items end) → AreNoted rows
all_noted rows end ordered is noted i note at =
    let within : i < length rows.runs.items = omega (arith, slice_get_within rows.notes.items i note at, length-noted rows.notes.items, ordered.sized) in
    let at_run = slice_get-get_or rows.runs.items i no_run within in
    let inside = ordered.inside i _ at_run in
    noted i note at ((ordered.below end i _ (omega (arith, is)) at_run).1 (omega (arith, inside.0, is)))
