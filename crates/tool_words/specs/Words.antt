-- Words, and which of them are options. Source: the GDAL manuals.
use Rattle.std.specs.Prelude.{ℕ, ◌==◌, ◌&&◌, nat_le, Bool, List, length, slice_index}

-- a word, or another text, as its bytes
abbrev pub Text : Type 0
Text = List ℕ

-- a minus and at least one byte more
abbrev pub is_option : Text → Bool
is_option word = nat_le 2 (length word) && (slice_index word 0 == 45)
