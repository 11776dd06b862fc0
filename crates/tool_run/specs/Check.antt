-- What check leaves in the folder that it works in, and how it ends. Source: this project's own.
use Rattle.std.specs.Prelude.{◌≡◌, ◌⊎◌, ℕ, ℤ, ◌*◌, ◌<◌, Bool, List, Option, Some, Ok, Err, length, take}
use Rattle.std.specs.declared.result.Result.{Result}
use Rattle.rv_outside.specs.Files.{Files, with_file}
use Rattle.rv_outside.specs.Sink.{Says, SinkState}
use Rattle.rv_outside.specs.declared.folder.Trouble.{Trouble}
use Rattle.cell_base.specs.Raster.{Raster, most_cells}
use Rattle.cell_base.specs.Steps.{four}
use Rattle.geo_transform.specs.declared.fault.FrameFault.TheVariants.{TooLarge}
use Rattle.asc_grid.specs.declared.grid.Asc.{Asc}
use Rattle.region_label.specs.Labelling.{IsLabelling, RegionTable}
use Rattle.tool_words.specs.declared.job.CheckJob.{CheckJob}
use Rattle.tool_outcome.specs.Check.{IsCheckAnswer, checked_grid, layer_job}
use Rattle.tool_outcome.specs.Fault.{of_write}
use Rattle.tool_outcome.specs.Polygonize.{IsPolygonizeText}
use Rattle.tool_outcome.specs.Sieve.{IsMaskOf}
use Rattle.tool_outcome.specs.Source.{text_of}
use Rattle.tool_outcome.specs.declared.fault.Fault.{Fault}
use Rattle.tool_outcome.specs.declared.fault.Fault.TheVariants as fault
use Rattle.tool_outcome.specs.declared.fault.Role.TheVariants.{Source}
use Rattle.round_trip.specs.Check.{burn_job}

-- the number of a grid's components under side steps
abbrev pub CountsComponents : Asc ℤ → ℕ → Type 0
CountsComponents asc count = (valid : Raster Bool) × (regions : RegionTable) × IsMaskOf asc valid
    × IsLabelling four asc.cells valid regions × (count ≡ length regions.firsts)

-- the layer of the grid that is made
abbrev pub IsLayerOf : CheckJob → List ℕ → Type 0
IsLayerOf job layer = IsPolygonizeText layer_job (checked_grid job) layer

-- the files with these bytes for the grid, for its layer, and for the grid that comes back

abbrev pub with_grid : List ℕ → Files → Files
with_grid bytes files = with_file layer_job.source bytes files

abbrev pub with_layer : List ℕ → Files → Files
with_layer bytes files = with_file layer_job.dest bytes files

abbrev pub with_back : CheckJob → List ℕ → Files → Files
with_back job bytes files = with_file (burn_job job).dest bytes files

-- the three files are there: the grid that came back has the bytes of the grid
abbrev pub HasChecked : CheckJob → Files → Option Files → Type 0
HasChecked job files now = (layer : List ℕ) × IsLayerOf job layer
    × (now ≡ Some (with_back job (text_of (checked_grid job)) (with_layer layer (with_grid (text_of (checked_grid job)) files))))

-- the files are as before, or one of the three has a first part of its bytes, those before it all of theirs, and those behind
-- it are as before
abbrev pub LeavesChecked : CheckJob → Files → Option Files → Type 0
LeavesChecked job files now =
    let grid = text_of (checked_grid job) in
    (now ≡ Some files)
    ⊎ ((n : ℕ) × (now ≡ Some (with_grid (take n grid) files)))
    ⊎ ((layer : List ℕ) × (n : ℕ) × IsLayerOf job layer × (now ≡ Some (with_layer (take n layer) (with_grid grid files))))
    ⊎ ((layer : List ℕ) × (n : ℕ) × IsLayerOf job layer × (now ≡ Some (with_back job (take n grid) (with_layer layer (with_grid grid files)))))

-- a fault over a folder that tells its files
abbrev pub IsCheckFault : CheckJob → Fault → Type 0
IsCheckFault job (fault.Frame (TooLarge cells)) = (most_cells < job.width * job.height) × (cells ≡ job.width * job.height)
IsCheckFault job (fault.ReadFault Source) = Unit {0}
IsCheckFault job fault.WriteFault = Unit {0}
IsCheckFault job fault.NoMemory = Unit {0}
IsCheckFault job other = ⊥

-- what standard output answered
abbrev pub ends_with : Result (Unit {0}) Trouble → Result (Unit {0}) Fault
ends_with (Ok u) = Ok u
ends_with (Err trouble) = Err (of_write trouble)

-- how check ends: its lines were handed to standard output, whatever that answered; or nothing was, since memory ran out or
-- the grid has too many cells
abbrev pub EndsCheck : CheckJob → Result (Unit {0}) Fault → SinkState → SinkState → Type 0
EndsCheck job result old new =
    let cells = job.width * job.height in
    ((text : List ℕ) × (answer : Result (Unit {0}) Trouble) × IsCheckAnswer job (Ok text) × Says text answer old new
    × (result ≡ ends_with answer))
    ⊎ ((new ≡ old) × ((result ≡ Err fault.NoMemory)
    ⊎ ((most_cells < cells) × (result ≡ Err (fault.Frame (TooLarge cells))))))
