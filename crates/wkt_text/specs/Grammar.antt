-- The geometry of a WKT text, or its first offence. Source: Simple Features WKT, in this project's profile.
use Rattle.std.specs.Prelude.{ℕ, ℤ, ◌+◌, ◌||◌, nat_lt, Bool, true, false, List, [], ◌∷◌, length, if◌then◌else◌, codes}
use Rattle.std.specs.Prelude.{Option, Some, None, Result, Ok, Err}
use Rattle.std.specs.Option.{is_some}
use Rattle.std.specs.Str.{str_eq_ignore_ascii_case}
use Rattle.fixed_coord.specs.declared.fault.NumberFault.{NumberFault}
use Rattle.fixed_coord.specs.declared.fault.NumberFault.TheVariants.{NotNumber, NotWhole, OutOfRange as TooFar}
use Rattle.fixed_coord.specs.Number.{parts_of}
use Rattle.fixed_coord.specs.Coordinate.{coord_of}
use Rattle.wkt_text.specs.Tokens.{Token, Opening, Closing, Word, tokens_of, first_offset}
use Rattle.wkt_text.specs.Geometry.{is_closed}
use Rattle.wkt_text.specs.Parser.{Answer, Parser, gives, refuses, followed_by, opening, in_parentheses, listed, list_of}
use Rattle.wkt_text.specs.declared.geometry.Pt.{Pt}
use Rattle.wkt_text.specs.declared.geometry.Geometry.{Geometry}
use Rattle.wkt_text.specs.declared.geometry.Geometry.TheVariants as geometry
use Rattle.wkt_text.specs.declared.kind.Kind.{Kind}
use Rattle.wkt_text.specs.declared.kind.Kind.TheVariants.{Point, LineString, Polygon, MultiPoint, MultiLineString, MultiPolygon}
use Rattle.wkt_text.specs.declared.fault.WktKind.{WktKind}
use Rattle.wkt_text.specs.declared.fault.WktKind.TheVariants.{UnknownKind, Dimension, Syntax, BadNumber, OutOfRange, ShortRing, OpenRing}

-- the units of a word, read as a coordinate
abbrev pub units_of : Result ℤ NumberFault → Token → Parser ℤ
units_of (Ok units) token rest = gives units rest
units_of (Err TooFar) token rest = refuses OutOfRange (token ∷ rest)
units_of (Err NotNumber) token rest = refuses BadNumber (token ∷ rest)
units_of (Err NotWhole) token rest = refuses BadNumber (token ∷ rest)

abbrev pub coordinate : Parser ℤ
coordinate (Word offset word ∷ rest) = units_of (coord_of word) (Word offset word) rest
coordinate tokens = refuses Syntax tokens

-- no third number stands behind a point's two
abbrev pub no_third : Pt → Parser Pt
no_third point (Word offset word ∷ rest) =
    (if is_some (parts_of word) then refuses Dimension else gives point) (Word offset word ∷ rest)
no_third point tokens = gives point tokens

abbrev pub point : Parser Pt
point tokens =
    followed_by (coordinate tokens) (λ x behind.
    followed_by (coordinate behind) (λ y rest. no_third (record { x = x; y = y }) rest))

-- a path of one point
abbrev pub one_point : Parser (List Pt)
one_point tokens = followed_by (in_parentheses point tokens) (λ p rest. gives (p ∷ []) rest)

abbrev pub path : Parser (List Pt)
path tokens = list_of point tokens

-- a ring's closing parenthesis: behind enough points, the last equal to the first
abbrev pub ring_end : List Pt → Parser (List Pt)
ring_end points (Closing offset ∷ rest) =
    if nat_lt (length points) 4 then refuses ShortRing (Closing offset ∷ rest) else
    if is_closed points then gives points rest else refuses OpenRing (Closing offset ∷ rest)
ring_end points tokens = refuses Syntax tokens

abbrev pub ring : Parser (List Pt)
ring tokens = followed_by (opening tokens) (λ _ inner. followed_by (listed point inner) ring_end)

abbrev pub polygon : Parser (List (List Pt))
polygon tokens = list_of ring tokens

-- a point, or a point in parentheses
abbrev pub member_point : Parser Pt
member_point (Opening offset ∷ rest) = in_parentheses point (Opening offset ∷ rest)
member_point tokens = point tokens

-- the same word, without regard to case
abbrev pub is_word : List ℕ → List ℕ → Bool
is_word word name = str_eq_ignore_ascii_case word name

abbrev pub kind_of : List ℕ → Option Kind
kind_of word =
    if is_word word (codes "POINT") then Some Point else
    if is_word word (codes "LINESTRING") then Some LineString else
    if is_word word (codes "POLYGON") then Some Polygon else
    if is_word word (codes "MULTIPOINT") then Some MultiPoint else
    if is_word word (codes "MULTILINESTRING") then Some MultiLineString else
    if is_word word (codes "MULTIPOLYGON") then Some MultiPolygon else None

-- a mark of more than two dimensions
abbrev pub is_dimension : List ℕ → Bool
is_dimension word = is_word word (codes "Z") || is_word word (codes "M") || is_word word (codes "ZM")

abbrev pub empty : Kind → Geometry
empty Point = geometry.Point []
empty LineString = geometry.LineString []
empty Polygon = geometry.Polygon []
empty MultiPoint = geometry.MultiPoint []
empty MultiLineString = geometry.MultiLineString []
empty MultiPolygon = geometry.MultiPolygon []

-- what was read, made into a geometry
abbrev pub made : {A : Type 0} → (A → Geometry) → Answer A → Answer Geometry
made make answer = followed_by answer (λ value rest. gives (make value) rest)

abbrev pub body : Kind → Parser Geometry
body Point tokens = made geometry.Point (one_point tokens)
body LineString tokens = made geometry.LineString (path tokens)
body Polygon tokens = made geometry.Polygon (polygon tokens)
body MultiPoint tokens = made geometry.MultiPoint (list_of member_point tokens)
body MultiLineString tokens = made geometry.MultiLineString (list_of path tokens)
body MultiPolygon tokens = made geometry.MultiPolygon (list_of polygon tokens)

abbrev pub found : Option Kind → Token → Parser Kind
found None token rest = refuses UnknownKind (token ∷ rest)
found (Some kind) token rest = gives kind rest

abbrev pub kind : Parser Kind
kind (Word offset word ∷ rest) = found (kind_of word) (Word offset word) rest
kind tokens = refuses UnknownKind tokens

-- whether EMPTY stands behind the kind; no other word may
abbrev pub empty_word : Parser Bool
empty_word (Word offset word ∷ rest) =
    if is_dimension word then refuses Dimension (Word offset word ∷ rest) else
    if is_word word (codes "EMPTY") then gives true rest else refuses Syntax (Word offset word ∷ rest)
empty_word tokens = gives false tokens

abbrev pub empty_or_body : Kind → Bool → Parser Geometry
empty_or_body kind true = gives (empty kind)
empty_or_body kind false = body kind

abbrev pub kind_and_body : Parser Geometry
kind_and_body tokens = followed_by (kind tokens) (λ kind rest. followed_by (empty_word rest) (empty_or_body kind))

-- nothing stands behind the geometry
abbrev pub ending : Geometry → Parser Geometry
ending g [] = gives g []
ending g (token ∷ rest) = refuses Syntax (token ∷ rest)

abbrev pub whole : Parser Geometry
whole tokens = followed_by (kind_and_body tokens) ending

-- what was read of a text that ends before this offset, or the offset of what offends
abbrev pub located : ℕ → Answer Geometry → Result Geometry (WktKind × ℕ)
located end (Ok read) = Ok read.0
located end (Err offence) = Err (offence.0, first_offset end offence.1)

-- the geometry of a text, or its first offence with the number of its first byte, counted from 1
abbrev pub geometry_of : List ℕ → Result Geometry (WktKind × ℕ)
geometry_of text = located (length text + 1) (whole (tokens_of text))
