use Rattle.std.proofs.Common.{◌≡◌, ◌+◌, ◌-◌, ◌≤◌, ◌++◌, List, zero, length, drop, None}
use Rattle.tool_words.specs.Grammar.{Piece, cut, names_of, pieces_of}
use Rattle.tool_words.specs.Offence.{first_wrong}
use Rattle.tool_words.specs.Chosen.{chosen_by}
use Rattle.tool_words.proofs.reading.read.Given as goal

-- the pieces so far have no fault
abbrev pub invariant-words : goal.invariant-words
invariant-words g l = record {
  done : List Piece;
  within : l.at ≤ length l.fn.words;
  cut : pieces_of g.T.Options.grammar (drop 1 l.fn.words) ≡ done ++ cut g.T.Options.grammar (l.at + 1) zero (drop l.at l.fn.words);
  sound : first_wrong g.T.Options.grammar 0 done ≡ None;
  options : l.options ≡ chosen_by g.T.Options.chooses g.T.Options.default done;
  names : l.names ≡ names_of done;
}

abbrev pub decreases-words : goal.decreases-words
decreases-words g l = length l.fn.words - l.at
