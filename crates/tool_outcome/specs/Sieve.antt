-- What gdal_sieve writes. Source: its manual, by the sieved grid.
use Rattle.std.specs.Prelude.{◌≡◌, ℕ, ℤ, ◌↔◌, nat_le, Bool, true, false, List}
use Rattle.rv_outside.specs.Files.{Files}
use Rattle.cell_base.specs.Raster.{Place, Raster, AreAligned}
use Rattle.cell_base.specs.Valid.{IsMarked, IsValid}
use Rattle.asc_grid.specs.declared.grid.Asc.{Asc}
use Rattle.sieve_core.specs.Sieve.{IsSieved}
use Rattle.tool_words.specs.declared.job.SieveJob.{SieveJob}
use Rattle.tool_outcome.specs.Answer.{Answer, AnswersBy}
use Rattle.tool_outcome.specs.Source.{source_of, text_of}

-- the mask of a grid's valid cells
abbrev pub IsMaskOf : {T : Type 0} → Asc T → Raster Bool → Type 0
IsMaskOf asc valid = AreAligned asc.cells valid × ((p : Place) → IsMarked valid p ↔ IsValid asc.cells asc.nodata p)

-- the sieved cells, by whether no component can be smaller than the threshold
abbrev pub AreSieved : Bool → SieveJob → Asc ℤ → Raster ℤ → Type 0
AreSieved true job asc sieved = sieved ≡ asc.cells
AreSieved false job asc sieved = (valid : Raster Bool) × IsMaskOf asc valid × IsSieved job.eight asc.cells valid job.st sieved

-- the canonical text of a grid with the sieved cells; its frame and its nodata value stay. At a threshold of at most 1
-- no component is too small, and each cell keeps its value
abbrev pub IsSievedText : SieveJob → Asc ℤ → List ℕ → Type 0
IsSievedText job asc text = (sieved : Raster ℤ) × AreSieved (nat_le job.st 1) job asc sieved
    × (text ≡ text_of (record asc { cells = sieved }))

-- the answer of gdal_sieve
abbrev pub IsSieveAnswer : SieveJob → Files → Answer → Type 0
IsSieveAnswer job files answer = AnswersBy (IsSievedText job) (source_of (files job.source)) answer

-- at every threshold they are the sieved grid's
abbrev pub AgreesWithSieve : SieveJob → Asc ℤ → Type 0
AgreesWithSieve job asc = (valid : Raster Bool) (sieved cells : Raster ℤ) → IsMaskOf asc valid
    → IsSieved job.eight asc.cells valid job.st sieved → AreSieved (nat_le job.st 1) job asc cells → cells ≡ sieved
