-- Where the runs begin that a run meets in the rows beside it.
use Rattle.std.specs.Prelude.{◌≡◌, ◌≢◌, ℕ, ◌+◌, ◌<◌, ◌≤◌, ℤ, true, List, Some, slice_get, slice_index}
use Rattle.region_label.specs.Run.{Run}
use Rattle.region_label.specs.Inner.Lists.{IsContact}
use Rattle.region_label.specs.Inner.Rows.{noted_units}
use Rattle.region_label.specs.declared.rows.RowRuns.{RowRuns}
use Rattle.region_label.specs.declared.rows.RunNote.{RunNote}

-- of the runs from an index on, those before this one end before a run begins
pub record IsFirstReaching (runs : List Run) (run start end at : ℕ) : Type 0 where
  pub from : start ≤ at
  pub to : at ≤ end
  pub before : (j : ℕ) (a b : Run) → slice_get runs run ≡ Some a → slice_get runs j ≡ Some b → start ≤ j → j < at
      → b.to < a.from

-- of the runs from an index on, those before this one have other units than a run, or begin past its end
pub record IsFirstAlike (runs : List Run) (units : List ℤ) (run start end at : ℕ) : Type 0 where
  pub from : start ≤ at
  pub to : at ≤ end
  pub before : (j : ℕ) (a b : Run) → slice_get runs run ≡ Some a → slice_get runs j ≡ Some b → start ≤ j → j < at
      → slice_get units j ≡ slice_get units run → a.to < b.from

-- the runs of a row that meet a run, at a side or at a corner, and have its units, are from this index on
pub record BeginAt (runs : List Run) (units : List ℤ) (starts : List ℕ) (run row at : ℕ) : Type 0 where
  pub from : slice_index starts row ≤ at
  pub to : at ≤ slice_index starts (row + 1)
  pub before : (j : ℕ) (b : Run) → slice_get runs j ≡ Some b → b.row ≡ row → IsContact true runs units run j → at ≤ j

-- the note on a run tells where these begin in the row above, and in the row below, where there are such rows
pub record IsNoted (nrows : ℕ) (runs : List Run) (units : List ℤ) (starts : List ℕ) (run : ℕ) (note : RunNote) : Type 0 where
  pub above : (a : Run) (row : ℕ) → slice_get runs run ≡ Some a → a.row ≡ row + 1 → BeginAt runs units starts run row note.above
  pub below : (a : Run) (row : ℕ) → slice_get runs run ≡ Some a → row ≡ a.row + 1 → row < nrows
      → BeginAt runs units starts run row note.below

-- the runs before one are noted
abbrev pub AreNotedBefore : RowRuns → ℕ → Type 0
AreNotedBefore rows at = (i : ℕ) (note : RunNote) → slice_get rows.notes.items i ≡ Some note → i < at
    → IsNoted rows.nrows rows.runs.items (noted_units rows.notes.items) rows.starts.items i note

-- all runs are noted
abbrev pub AreNoted : RowRuns → Type 0
AreNoted rows = (i : ℕ) (note : RunNote) → slice_get rows.notes.items i ≡ Some note
    → IsNoted rows.nrows rows.runs.items (noted_units rows.notes.items) rows.starts.items i note

-- a note is written, and all others stay
pub record Notes (old new : RowRuns) (run above below : ℕ) : Type 0 where
  pub note : (note : RunNote) → slice_get new.notes.items run ≡ Some note → (note.above ≡ above) × (note.below ≡ below)
  pub others : (i : ℕ) → i ≢ run → slice_get new.notes.items i ≡ slice_get old.notes.items i
