use Rattle.std.proofs.Common.{◌≡◌, ◌∷◌, [], ◌++◌, List, ℤ, map, ap, sym, append_assoc, ◌∙◌, arith}
use Rattle.std.specs.List.{range_with_len}
use Rattle.std.proofs.lemmas.List.FromFn.{map-range_with_len_more}
use Rattle.contour_segments.specs.Inner.Series.{level_at}
use Rattle.contour_segments.proofs.level.push_all.Goals as goal

pub loop-k-preserved : goal.loop-k-preserved
loop-k-preserved c =
    let k = c.loop-k.k in
    let f = level_at c.args.series in
    let old = c.args.levels.now.items in
    let pushed : c.push.new.self.items ≡ c.loop-k.levels.items ++ c.at.result ∷ [] = c.in_ok-push.ensures.items in
    let more = map-range_with_len_more f 0 k k (omega arith) in
    pushed ∙ ap (λ (xs : List ℤ). xs ++ c.at.result ∷ []) c.loop-k.invariant ∙ append_assoc old (map f (range_with_len 0 k)) (c.at.result ∷ []) ∙ ap (λ (z : ℤ). old ++ (map f (range_with_len 0 k) ++ z ∷ [])) c.at.ensures ∙ ap (λ (xs : List ℤ). old ++ xs) (sym more)
