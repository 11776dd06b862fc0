-- The job by which `check` burns the layer of its grid back. This project's own.
use Rattle.std.specs.Prelude.{codes}
use Rattle.tool_words.specs.declared.job.CheckJob.{CheckJob}
use Rattle.tool_words.specs.declared.job.RasterizeJob.{RasterizeJob}
use Rattle.tool_outcome.specs.Check.{checked_grid, layer_job}
use Rattle.round_trip.specs.BackWords.{back_job}

-- the job of the back words, with the type of cells that is asked for
abbrev pub burn_job : CheckJob → RasterizeJob
burn_job job = record (back_job layer_job.field (checked_grid job) layer_job.dest (codes "back.asc")) { kind = job.kind }
