use Rattle.std.proofs.Common.{◌≡◌, ◌++◌, ◌∷◌, [], ◌+◌, arith}
use Rattle.std.proofs.lemmas.Grind.{common_steps, flat_map-append}
use Rattle.std.specs.List.{flat_map}
use Rattle.tool_words.specs.Contour.{contour_grammar, levels_in}
use Rattle.tool_words.specs.Grammar.{Piece}
use Rattle.tool_words.proofs.ReadLemmas.{cut_next, cut_on}
use Rattle.tool_words.proofs.contour.fixed_levels.Goals as goal

pub words-preserved : goal.words-preserved
words-preserved c =
    let inv = c.words.invariant in
    let piece : Piece = c.piece_at-piece.result in
    let next = cut_next contour_grammar c.args.words.now c.words.at c.len-in-words.result piece c.piece_at-piece.ensures c.len-in-words.ensures in
    let added : c.add_levels.new.levels ≡ c.words.levels ++ levels_in piece = c.in_ok-add_levels.ensures in
    let all : flat_map levels_in (inv.done ++ piece ∷ []) ≡ flat_map levels_in inv.done ++ flat_map levels_in (piece ∷ []) = flat_map-append levels_in inv.done (piece ∷ []) in
    record {
      done = inv.done ++ piece ∷ [];
      within = omega (arith, c.len-in-words.ensures, c.piece_at-piece.ensures.within);
      cut = cut_on contour_grammar c.args.words.now c.words.at (c.words.at + 1 + c.len-in-words.result) inv.done piece inv.cut next;
      levels = grind (arith, common_steps, added, inv.levels, all);
    }
