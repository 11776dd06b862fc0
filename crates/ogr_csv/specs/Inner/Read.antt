-- What reading a record answers.
use Rattle.std.specs.Prelude.{◌≡◌, ℕ, Bool, false, List, Option, Some, None, Result, Ok, Err}
use Rattle.std.specs.Str.{str_eq_ignore_ascii_case}
use Rattle.wkt_text.specs.declared.geometry.Geometry.{Geometry}
use Rattle.ogr_csv.specs.Layer.{Record, feature_of, geometry_in}
use Rattle.ogr_csv.specs.declared.columns.Columns.{Columns}
use Rattle.ogr_csv.specs.declared.fault.LayerFault.{LayerFault}
use Rattle.ogr_csv.specs.declared.fault.LayerFault.TheVariants.{NoHeader, NoGeometryColumn, NoField, BadGeometry, BadAttribute, NoMemory}
use Rattle.ogr_csv.specs.declared.feature.Feature.{Feature}

-- the geometry of the field, or its offence in the record of this number
abbrev pub ReadsGeometry : ℕ → Option (List ℕ) → Result (Option Geometry) LayerFault → Type 0
ReadsGeometry number field (Ok geometry) = geometry_in field ≡ Ok geometry
ReadsGeometry number field (Err (BadGeometry at kind byte)) = (at ≡ number) × (geometry_in field ≡ Err (kind, byte))
ReadsGeometry number field (Err NoMemory) = Unit {0}
ReadsGeometry number field (Err NoHeader) = ⊥
ReadsGeometry number field (Err NoGeometryColumn) = ⊥
ReadsGeometry number field (Err NoField) = ⊥
ReadsGeometry number field (Err (BadAttribute at)) = ⊥

-- the record's answer, or want of memory
abbrev pub IsAnswer : Result Feature LayerFault → Result Feature LayerFault → Type 0
IsAnswer answer (Ok feature) = answer ≡ Ok feature
IsAnswer answer (Err (BadGeometry at kind byte)) = answer ≡ Err (BadGeometry at kind byte)
IsAnswer answer (Err (BadAttribute at)) = answer ≡ Err (BadAttribute at)
IsAnswer answer (Err NoMemory) = Unit {0}
IsAnswer answer (Err NoHeader) = ⊥
IsAnswer answer (Err NoGeometryColumn) = ⊥
IsAnswer answer (Err NoField) = ⊥

abbrev pub ReadsFeature : Columns → ℕ → Record → Result Feature LayerFault → Type 0
ReadsFeature columns number fields result = IsAnswer (feature_of columns number fields) result

-- whether a column's field, if there is one, has a name
abbrev pub is_named : List ℕ → Option (List ℕ) → Bool
is_named name None = false
is_named name (Some field) = str_eq_ignore_ascii_case field name
