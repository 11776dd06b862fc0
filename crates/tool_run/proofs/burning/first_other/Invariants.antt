use Rattle.std.proofs.Common.{◌≡◌, ◌<◌, ℕ, false, Some}
use Rattle.std.specs.Prelude.{slice_get}
use Rattle.ogr_csv.specs.declared.feature.Feature.{Feature}
use Rattle.tool_run.proofs.BurnLemmas.{is_other}
use Rattle.tool_run.proofs.burning.first_other.Given as goal

-- no feature so far is of points or lines
abbrev pub invariant-features : goal.invariant-features
invariant-features l = (k : ℕ) (f : Feature) → k < l.at → slice_get l.features k ≡ Some f → is_other f ≡ false
