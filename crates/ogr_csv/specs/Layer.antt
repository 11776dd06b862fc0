-- The features of a layer text. Source: OGR CSV, in this project's profile; records are those that the crate csv reads.
use Rattle.std.specs.Prelude.{ℕ, ℤ, ◌+◌, List, [], ◌∷◌, Option, Some, None, Result, Ok, Err, if◌then◌else◌, codes, option_and_then}
use Rattle.std.specs.List.{list_all, position}
use Rattle.std.specs.Str.{str_eq_ignore_ascii_case}
use Rattle.csv.specs.Reading.{default_config, records, strip_bom}
use Rattle.csv.specs.Records.{field_at}
use Rattle.fixed_coord.specs.declared.fault.NumberFault.{NumberFault}
use Rattle.wkt_text.specs.Grammar.{geometry_of}
use Rattle.wkt_text.specs.Tokens.{is_blank}
use Rattle.wkt_text.specs.declared.fault.WktKind.{WktKind}
use Rattle.wkt_text.specs.declared.geometry.Geometry.{Geometry}
use Rattle.ogr_csv.specs.Attribute.{value_of}
use Rattle.ogr_csv.specs.declared.columns.Columns.{Columns}
use Rattle.ogr_csv.specs.declared.fault.LayerFault.{LayerFault}
use Rattle.ogr_csv.specs.declared.fault.LayerFault.TheVariants.{NoHeader, NoGeometryColumn, NoField, BadGeometry, BadAttribute}
use Rattle.ogr_csv.specs.declared.feature.Feature.{Feature}

-- the fields of a record
abbrev pub Record : Type 0
Record = List (List ℕ)

-- the records of a layer text: one byte order mark in front is dropped
abbrev pub records_of : List ℕ → List Record
records_of text = records default_config (strip_bom text)

-- the first column with this name, without regard to case
abbrev pub column_of : List ℕ → Record → Option ℕ
column_of name header = position (λ field. str_eq_ignore_ascii_case field name) header

-- the column of the attribute, where one is asked for
abbrev pub with_attribute : ℕ → Option ℕ → Result Columns LayerFault
with_attribute geometry None = Err NoField
with_attribute geometry (Some attribute) = Ok (record { geometry = geometry; attribute = Some attribute })

abbrev pub with_geometry : Option (List ℕ) → Record → Option ℕ → Result Columns LayerFault
with_geometry field header None = Err NoGeometryColumn
with_geometry None header (Some geometry) = Ok (record { geometry = geometry; attribute = None })
with_geometry (Some name) header (Some geometry) = with_attribute geometry (column_of name header)

-- the columns of a header, for the field that is asked for, if one is
abbrev pub columns_of : Option (List ℕ) → Record → Result Columns LayerFault
columns_of field header = with_geometry field header (column_of (codes "WKT") header)

abbrev pub some_geometry : Result Geometry (WktKind × ℕ) → Result (Option Geometry) (WktKind × ℕ)
some_geometry (Err offence) = Err offence
some_geometry (Ok g) = Ok (Some g)

-- no geometry where the field is absent, empty or all blanks
abbrev pub geometry_in : Option (List ℕ) → Result (Option Geometry) (WktKind × ℕ)
geometry_in None = Ok None
geometry_in (Some text) = if list_all is_blank text then Ok None else some_geometry (geometry_of text)

-- a feature, or what is wrong with the record of this number
abbrev pub feature_with : ℕ → Result (Option Geometry) (WktKind × ℕ) → Result (Option ℤ) NumberFault → Result Feature LayerFault
feature_with number (Err offence) value = Err (BadGeometry number offence.0 offence.1)
feature_with number (Ok geometry) (Err fault) = Err (BadAttribute number)
feature_with number (Ok geometry) (Ok value) = Ok (record { geometry = geometry; value = value })

abbrev pub feature_of : Columns → ℕ → Record → Result Feature LayerFault
feature_of columns number fields =
    feature_with number (geometry_in (field_at fields columns.geometry)) (value_of (option_and_then (field_at fields) columns.attribute))

-- what each of these records gives, counted from this number on
abbrev pub answers_of : Columns → ℕ → List Record → List (Result Feature LayerFault)
answers_of columns number [] = []
answers_of columns number (fields ∷ records) = feature_of columns number fields ∷ answers_of columns (number + 1) records

abbrev pub behind_header : List Record → Result Columns LayerFault → Result (List (Result Feature LayerFault)) LayerFault
behind_header records (Err fault) = Err fault
behind_header records (Ok columns) = Ok (answers_of columns 1 records)

-- what each record behind the header gives
abbrev pub answers_in : Option (List ℕ) → List Record → Result (List (Result Feature LayerFault)) LayerFault
answers_in field [] = Err NoHeader
answers_in field (header ∷ records) = behind_header records (columns_of field header)

-- the answers of a layer text
abbrev pub layer_of : Option (List ℕ) → List ℕ → Result (List (Result Feature LayerFault)) LayerFault
layer_of field text = answers_in field (records_of text)
