-- How an extent grows.
use Rattle.std.specs.Prelude.{◌≡◌, List, ◌++◌, Option}
use Rattle.geo_transform.specs.declared.extent.Extent.{Extent}
use Rattle.wkt_text.specs.declared.geometry.Pt.{Pt}
use Rattle.tool_outcome.specs.LayerExtent.{extent_round}

-- the extent of some points has become that of these points besides
abbrev pub HoldsPoints : List Pt → Option Extent → Option Extent → Type 0
HoldsPoints points old new = (earlier : List Pt) → old ≡ extent_round earlier → new ≡ extent_round (earlier ++ points)
