-- The round trip: a grid is polygonized under side steps, and the layer is burned back. This project's own.
use Rattle.std.specs.Prelude.{◌≡◌, ℤ, false, [], Option, Some, Ok, Result}
use Rattle.rv_outside.specs.Files.{Files, with_file}
use Rattle.cell_base.specs.Steps.{four}
use Rattle.asc_grid.specs.declared.grid.Asc.{Asc}
use Rattle.tool_words.specs.Words.{Text, is_option}
use Rattle.tool_words.specs.declared.fault.WordFault.{WordFault}
use Rattle.tool_words.specs.declared.job.Job.{Job}
use Rattle.tool_words.specs.declared.job.Job.TheVariants.{Polygonize}
use Rattle.tool_words.specs.declared.job.PolygonizeJob.{PolygonizeJob}
use Rattle.tool_outcome.specs.Outcome.{IsOutcome, Outcome}
use Rattle.tool_outcome.specs.Source.{source_of, text_of}
use Rattle.tool_outcome.specs.declared.status.Status.TheVariants.{Done}
use Rattle.round_trip.specs.BackWords.{back_words}

-- the end of a run that wrote a grid's canonical text to a file, and nothing else
abbrev pub writes_grid : Asc ℤ → Text → Files → Outcome
writes_grid asc name files = record { status = Done; line = []; files = with_file name (text_of asc) files; out = [] }

-- the grid comes back: whatever the name that is given, the back words write the grid's canonical text to it
abbrev pub ComesBack : PolygonizeJob → Asc ℤ → Files → Type 0
ComesBack job asc files = (name : Text) → is_option name ≡ false
    → IsOutcome (back_words job.field asc job.dest name) files (writes_grid asc name files)

-- where the words ask to polygonize under side steps, the grid that their source had comes back from the files afterwards
abbrev pub MakesRoundTrip : Result Job WordFault → Files → Files → Type 0
MakesRoundTrip (Ok (Polygonize job)) files after =
    job.eight ≡ four → (asc : Asc ℤ) → source_of (files job.source) ≡ Ok asc → ComesBack job asc after
MakesRoundTrip other files after = Unit {0}
