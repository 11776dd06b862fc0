-- The notes on runs: their units stay while they are written.
use Rattle.std.proofs.Common.{◌≡◌, ℕ, ℤ, List, [], ◌∷◌, ◌++◌, Some, length, ap, ◌∙◌, Bool, arith}
use Rattle.std.specs.Prelude.{option_map, slice_get}
use Rattle.std.proofs.lemmas.List.{length-map, map-append}
use Rattle.std.proofs.lemmas.Option.{slice_get-map}
use Rattle.cell_base.specs.Raster.{Raster}
use Rattle.region_label.specs.declared.rows.RowRuns.{RowRuns}
use Rattle.region_label.specs.declared.rows.RunNote.{RunNote}
use Rattle.region_label.specs.declared.blocks.Blocks.{Blocks}
use Rattle.region_label.proofs.BlockLemmas.{has_blocks}
use Rattle.region_label.specs.Inner.Blocks.{AreApart}
use Rattle.region_label.specs.Inner.Notes.{AreNoted}
use Rattle.region_label.specs.Inner.Rows.{AreFound, noted_units}
use Rattle.region_label.specs.Inner.Table.{AreInOrder, AreRowsOf, KeepsRows}

pub length-noted : (notes : List RunNote) → length (noted_units notes) ≡ length notes
length-noted notes = length-map notes (λ (note : RunNote). note.units)

pub noted_at : (notes : List RunNote) (i : ℕ) (note : RunNote) → slice_get notes i ≡ Some note → slice_get (noted_units notes) i ≡ Some note.units
noted_at notes i note at = slice_get-map (λ (note : RunNote). note.units) notes i ∙ ap (option_map (λ (note : RunNote). note.units)) at

pub noted_same : (units : List ℤ) (i : ℕ) (u v : ℤ) → u ≡ v → slice_get units i ≡ Some u → slice_get units i ≡ Some v
noted_same units i u v same at = at ∙ ap (λ (w : ℤ). Some w) same

pub noted_push : (notes : List RunNote) (note : RunNote) → noted_units (notes ++ note ∷ []) ≡ noted_units notes ++ note.units ∷ []
noted_push notes note = map-append (λ (note : RunNote). note.units) notes (note ∷ [])

-- runs in order stay so
pub kept_order : (old new : RowRuns) → KeepsRows old new → AreInOrder old → AreInOrder new
kept_order old new keeps order = rw (keeps.ncols, keeps.nrows, keeps.runs, keeps.units, keeps.starts) order

pub kept_on : (old now new : RowRuns) → KeepsRows old now → KeepsRows now new → KeepsRows old new
kept_on old now new first then = record {
  ncols = then.ncols ∙ first.ncols;
  nrows = then.nrows ∙ first.nrows;
  runs = then.runs ∙ first.runs;
  units = then.units ∙ first.units;
  starts = then.starts ∙ first.starts;
  blocks = then.blocks ∙ first.blocks;
}

-- the runs of these cells stay so, each a block of its own
pub kept_rows : {T : Type 0} (units_of : T → ℤ) (cells : Raster T) (valid : Raster Bool) (old new : RowRuns) → KeepsRows old new → old.ncols ≡ cells.ncols → old.nrows ≡ cells.nrows → AreInOrder old → AreFound units_of cells valid old.runs.items (noted_units old.notes.items) (cells.nrows, 0) → AreApart old.runs.items (noted_units old.notes.items) → length old.blocks.of.items ≡ 0 → AreNoted new → AreRowsOf units_of cells valid new
kept_rows units_of cells valid old new keeps ncols nrows order found apart none noted = record {
  ncols = keeps.ncols ∙ ncols;
  nrows = keeps.nrows ∙ nrows;
  in_order = kept_order old new keeps order;
  found = rw (keeps.runs, keeps.units) found;
  blocks = has_blocks new new.blocks (kept_order old new keeps order) (rw (keeps.runs, keeps.units) apart) (λ some. absurd (omega (arith, some, none, ap (λ (b : Blocks). length b.of.items) keeps.blocks)));
  noted = noted;
}
