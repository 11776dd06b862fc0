use Rattle.std.proofs.Common.{◌≡◌, map, take}
use Rattle.tool_outcome.specs.Polygonize.{value_of}
use Rattle.tool_run.proofs.polygons.values_of.Given as goal

-- the values so far
abbrev pub invariant-components : goal.invariant-components
invariant-components l = record { values : l.values.items ≡ map (value_of l.cells) (take l.k l.regions.firsts) }
