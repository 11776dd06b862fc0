-- What is left of a grid's text while it is handed out.
use Rattle.std.specs.Prelude.{ℕ, ◌++◌, List, [], if◌then◌else◌}
use Rattle.asc_grid.specs.Canonical.{header_text}
use Rattle.asc_grid.specs.Inner.Next.{rows_from}
use Rattle.asc_grid.specs.declared.write.GridText.{GridText}

-- the header, where it is still to come, and the rows from a cell on
abbrev pub text_left : {T : Type 0} → (T → List ℕ) → GridText T → List ℕ
text_left spell text = (if text.has_header then header_text spell text.asc.now else []) ++ rows_from spell text.asc.now.cells text.next
