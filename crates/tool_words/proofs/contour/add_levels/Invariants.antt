use Rattle.std.proofs.Common.{◌≡◌, ◌++◌, pos, map, take, unwrap_or}
use Rattle.tool_words.specs.Value.{decimal_of}
use Rattle.tool_words.proofs.contour.add_levels.Given as goal

-- the values so far were added
abbrev pub invariant-levels : goal.invariant-levels
invariant-levels l = record {
  added : l.levels ≡ l.fn.levels ++ map (λ word. unwrap_or (decimal_of word) (pos 0)) (take l.i l.piece.values);
}
