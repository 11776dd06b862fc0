-- What reading a text answers.
use Rattle.std.specs.Prelude.{◌≡◌, ℕ, List, Result, Ok, Err}
use Rattle.wkt_text.specs.Grammar.{geometry_of}
use Rattle.wkt_text.specs.declared.geometry.Geometry.{Geometry}
use Rattle.wkt_text.specs.declared.fault.WktFault.{WktFault}
use Rattle.wkt_text.specs.declared.fault.WktFault.TheVariants.{At, NoMemory}

-- the text's geometry, or its first offence with the number of its first byte; want of memory may come at any text
abbrev pub IsAnswerTo : List ℕ → Result Geometry WktFault → Type 0
IsAnswerTo text (Ok g) = geometry_of text ≡ Ok g
IsAnswerTo text (Err (At kind byte)) = geometry_of text ≡ Err (kind, byte)
IsAnswerTo text (Err NoMemory) = Unit {0}
