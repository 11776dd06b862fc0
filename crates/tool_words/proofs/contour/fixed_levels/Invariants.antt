use Rattle.std.proofs.Common.{◌≡◌, ◌+◌, ◌-◌, ◌≤◌, ◌++◌, List, zero, length, drop}
use Rattle.std.specs.List.{flat_map}
use Rattle.tool_words.specs.Contour.{contour_grammar, levels_in}
use Rattle.tool_words.specs.Grammar.{Piece, cut, pieces_of}
use Rattle.tool_words.proofs.contour.fixed_levels.Given as goal

-- the levels of the pieces so far
abbrev pub invariant-words : goal.invariant-words
invariant-words l = record {
  done : List Piece;
  within : l.at ≤ length l.words;
  cut : pieces_of contour_grammar (drop 1 l.words) ≡ done ++ cut contour_grammar (l.at + 1) zero (drop l.at l.words);
  levels : l.levels ≡ flat_map levels_in done;
}

abbrev pub decreases-words : goal.decreases-words
decreases-words l = length l.words - l.at
