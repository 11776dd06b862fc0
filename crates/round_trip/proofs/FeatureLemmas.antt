-- The rows of a polygonized layer read back as the features that were written.
use Rattle.std.proofs.Common.{◌≡◌, ℕ, ℤ, zero, suc, ◌+◌, ◌-◌, ◌<◌, ◌≤◌, Bool, true, false, List, [], ◌∷◌, ◌++◌, length, get_or, take, drop, Option, Some, None, Ok, Err, pos, negsuc, refl, sym, ap, ◌∙◌, subst, arith}
use Rattle.std.specs.Prelude.{◌==◌, All, map, codes, unsigned_abs}
use Rattle.std.specs.Int.{saturate_signed, w64}
use Rattle.std.specs.List.{list_all, prefix_len, suffix_len}
use Rattle.std.specs.Str.{bytes_eq, str_eq_ignore_ascii_case, str_to_ascii_lowercase}
use Rattle.std.proofs.lemmas.Bool.Decides.{nat_tests}
use Rattle.std.proofs.lemmas.Int.{ints}
use Rattle.std.proofs.lemmas.Grind.{common_steps}
use Rattle.std.proofs.lemmas.List.Elements.{All-head, All-tail, All-nil, All-cons}
use Rattle.std.proofs.lemmas.List.Sums.{suffix_len_is}
use Rattle.std.proofs.lemmas.Slice.Eq.{bytes_eq-Decides}
use Rattle.csv.specs.Records.{field_at}
use Rattle.fixed_coord.specs.Limits.{largest}
use Rattle.fixed_coord.specs.Scaled.{scaled_of}
use Rattle.fixed_coord.specs.Shortest.{shortest}
use Rattle.fixed_coord.proofs.ShortestLemmas.{shortest_reads}
use Rattle.geo_transform.specs.declared.frame.Frame.{Frame}
use Rattle.asc_grid.proofs.CanonicalTokenLemmas.{AllSolid, shortest_word}
use Rattle.ring_faces.specs.LatticePolygon.{Polygon}
use Rattle.wkt_text.specs.Geometry.{HasCoords, IsWritable}
use Rattle.wkt_text.specs.Grammar.{geometry_of}
use Rattle.wkt_text.specs.Spelling.{wkt}
use Rattle.wkt_text.specs.Tokens.{is_blank}
use Rattle.wkt_text.specs.declared.geometry.Geometry.{Geometry}
use Rattle.wkt_text.specs.declared.geometry.Geometry.TheVariants as geometry
use Rattle.wkt_text.proofs.GeometryLemmas.{geometry_of-wkt}
use Rattle.ogr_csv.specs.Attribute.{trimmed, value_of, number_in}
use Rattle.ogr_csv.specs.Inner.Read.{is_named}
use Rattle.ogr_csv.specs.Layer.{Record, answers_in, answers_of, behind_header, column_of, columns_of, feature_of, geometry_in, layer_of, with_attribute, with_geometry}
use Rattle.ogr_csv.specs.Rows.{text_of_rows}
use Rattle.ogr_csv.specs.declared.columns.Columns.{Columns}
use Rattle.ogr_csv.specs.declared.feature.Feature.{Feature}
use Rattle.ogr_csv.proofs.ColumnLemmas.{column_found}
use Rattle.ogr_csv.proofs.LayerLemmas.{layer_of-text_of_rows}
use Rattle.tool_words.specs.Words.{Text}
use Rattle.tool_outcome.specs.Features.{features_of, layer_in}
use Rattle.tool_outcome.specs.Polygonize.{header_row, layer_text, row_of, shape_of}
use Rattle.round_trip.proofs.SourceLemmas.{IsInt64}

-- a text without blanks is trimmed already

front_solid : (text : List ℕ) → AllSolid text → prefix_len is_blank text ≡ 0
front_solid [] solid = refl
front_solid (byte ∷ bytes) solid = rw solid.0 refl

solid_at : (text : List ℕ) (i : ℕ) → AllSolid text → i < length text → is_blank (get_or text i 0) ≡ false
solid_at [] i solid within = absurd (omega (arith, within))
solid_at (byte ∷ bytes) zero solid within = solid.0
solid_at (byte ∷ bytes) (suc i) solid within = solid_at bytes i solid.1 (omega (arith, within))

back_solid : (text : List ℕ) → AllSolid text → suffix_len is_blank text ≡ 0
back_solid text solid =
    suffix_len_is is_blank text (length text) 0 (omega arith) (λ k low within. absurd (omega (arith, low, within)))
    (λ some. solid_at text (length text - 1) solid (omega (arith, some)))
    ∙ no_more (length text)
  where
    no_more : (n : ℕ) → n - n ≡ 0
    no_more n = omega arith

trimmed_solid : (text : List ℕ) → AllSolid text → trimmed text ≡ text
trimmed_solid text solid = rw (front_solid text solid) (rw (back_solid text solid) (grind (arith, common_steps)))

-- a value

pub small : (v : ℤ) → IsInt64 v → unsigned_abs v ≤ largest
small v is = omega (arith, ints, is.low, is.high)

pub held_in : (v : ℤ) → IsInt64 v → saturate_signed w64 v ≡ v
held_in (pos n) is = ap pos (omega (arith, ints, is.high))
held_in (negsuc n) is = ap negsuc (omega (arith, ints, is.low))

some_length : (n : ℕ) → 0 < n → (n == 0) ≡ false
some_length n some = grind (arith, nat_tests, some)

value_back : (v : ℤ) → IsInt64 v → value_of (Some (shortest v 0)) ≡ Ok (Some v)
value_back v is =
    let word = (shortest_word v 0 (small v is)).word_is in
    ap number_in (trimmed_solid (shortest v 0) word.solid)
    ∙ rw (some_length (length (shortest v 0)) word.some) (rw (shortest_reads v 0 (small v is)) (rw (held_in v is) refl))

-- a shape
begins_solid : (g : Geometry) → list_all is_blank (wkt g) ≡ false
begins_solid (geometry.Point path) = refl
begins_solid (geometry.LineString path) = refl
begins_solid (geometry.Polygon rings) = refl
begins_solid (geometry.MultiPoint path) = refl
begins_solid (geometry.MultiLineString paths) = refl
begins_solid (geometry.MultiPolygon polygons) = refl

shape_back : (g : Geometry) → IsWritable g → HasCoords g → geometry_in (Some (wkt g)) ≡ Ok (Some g)
shape_back g writable coords = rw (begins_solid g) (rw (geometry_of-wkt g writable coords) refl)

-- the columns

same_bytes : (a b : List ℕ) → bytes_eq a b ≡ bytes_eq b a
same_bytes a b = decide (bytes_eq a b) (bytes_eq b a) refl refl
  where
    decide : (p q : Bool) → bytes_eq a b ≡ p → bytes_eq b a ≡ q → bytes_eq a b ≡ bytes_eq b a
    decide true true one two = one ∙ sym two
    decide false false one two = one ∙ sym two
    decide true false one two = one ∙ sym ((bytes_eq-Decides b a).1 (sym ((bytes_eq-Decides a b).0 one)))
    decide false true one two = (bytes_eq-Decides a b).1 (sym ((bytes_eq-Decides b a).0 two)) ∙ sym two

same_name : (a b : List ℕ) → str_eq_ignore_ascii_case a b ≡ str_eq_ignore_ascii_case b a
same_name a b = same_bytes (str_to_ascii_lowercase a) (str_to_ascii_lowercase b)

own_name : (a : List ℕ) → str_eq_ignore_ascii_case a a ≡ true
own_name a = (bytes_eq-Decides (str_to_ascii_lowercase a) (str_to_ascii_lowercase a)).1 refl

abbrev the_columns : Columns
the_columns = record { geometry = 0; attribute = Some 1 }

geometry_column : (field : Text) → column_of (codes "WKT") (header_row field) ≡ Some 0
unfolding field_at
geometry_column field = column_found (codes "WKT") (header_row field) 0 (omega arith) (λ k none. absurd (omega (arith, none))) refl

attribute_column : (field : Text) → str_eq_ignore_ascii_case field (codes "WKT") ≡ false → column_of field (header_row field) ≡ Some 1
unfolding field_at
attribute_column field other = column_found field (header_row field) 1 (omega arith) before (own_name field)
  where
    before : (k : ℕ) → k < 1 → is_named field (field_at (header_row field) k) ≡ false
    before zero first = same_name (codes "WKT") field ∙ other
    before (suc k) more = absurd (omega (arith, more))

columns_back : (field : Text) → str_eq_ignore_ascii_case field (codes "WKT") ≡ false → columns_of (Some field) (header_row field) ≡ Ok the_columns
columns_back field other = ap (with_geometry (Some field) (header_row field)) (geometry_column field) ∙ ap (with_attribute 0) (attribute_column field other)

-- a component as a feature
abbrev pub feature_of_component : Frame → ℤ × List Polygon → Feature
feature_of_component frame component = record { geometry = Some (shape_of frame component.1); value = Some component.0 }

-- a component whose row can be written and read
pub record HasRow (frame : Frame) (component : ℤ × List Polygon) : Type 0 where
  pub writable : IsWritable (shape_of frame component.1)
  pub coords : HasCoords (shape_of frame component.1)
  pub value : IsInt64 component.0

row_back : (frame : Frame) (number : ℕ) (component : ℤ × List Polygon) → HasRow frame component
    → feature_of the_columns number (row_of frame component) ≡ Ok (feature_of_component frame component)
unfolding field_at
row_back frame number component has =
    rw (shape_back (shape_of frame component.1) has.writable has.coords) (rw (value_back component.0 has.value) refl)

rows_back : (frame : Frame) (number : ℕ) (components : List (ℤ × List Polygon)) → All (HasRow frame) components
    → features_of (answers_of the_columns number (map (row_of frame) components)) ≡ Ok (map (feature_of_component frame) components)
rows_back frame number [] all = refl
rows_back frame number (c ∷ cs) all =
    let one = row_back frame number c (All-head (HasRow frame) c cs all) in
    let rest = rows_back frame (number + 1) cs (All-tail (HasRow frame) c cs all) in
    rw one (rw rest refl)

two_fields : (frame : Frame) (components : List (ℤ × List Polygon)) → All (λ row. length row ≡ 2) (map (row_of frame) components)
two_fields frame [] = All-nil (λ row. length row ≡ 2)
two_fields frame (c ∷ cs) = All-cons (λ row. length row ≡ 2) (row_of frame c) (map (row_of frame) cs) refl (two_fields frame cs)

-- the layer that was written, read with its field
pub layer_back : (field : Text) (frame : Frame) (components : List (ℤ × List Polygon)) → str_eq_ignore_ascii_case field (codes "WKT") ≡ false
    → All (HasRow frame) components
    → layer_in (Some field) (Some (layer_text field frame components)) ≡ Ok (map (feature_of_component frame) components)
layer_back field frame components other all =
    let rows : List Record = map (row_of frame) components in
    let read = layer_of-text_of_rows (Some field) (header_row field) rows refl (two_fields frame components) in
    rw read (rw (columns_back field other) (rw (rows_back frame 1 components all) refl))
