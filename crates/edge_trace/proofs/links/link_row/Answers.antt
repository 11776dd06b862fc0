use Rattle.std.proofs.Common.{◌≡◌, ◌+◌, ◌<◌, ℕ, [], ◌∷◌, ◌++◌, List, Some, length, length-append, get_or, ap, sym, ◌∙◌, subst, arith}
use Rattle.std.specs.Prelude.{slice_get}
use Rattle.edge_trace.specs.Inner.Links.{AreFollowed, Follows}
use Rattle.edge_trace.proofs.SlotLemmas.{cut_at, early_more, followed_push, read_at}
use Rattle.edge_trace.proofs.links.link_row.Goals as goal

pub linking-preserved : goal.linking-preserved
linking-preserved c =
    let stride = c.args.stride in
    let numbers = c.args.sides.now.numbers.items in
    let owners = c.args.sides.now.owners.items in
    let ways = c.linking.ways.items in
    let items : c.push.new.self.items ≡ ways ++ c.follow.result ∷ [] = c.in_ok-push.ensures.items in
    let long : length c.push.new.self.items ≡ length ways + 1 = omega (arith, ap length items, length-append ways (c.follow.result ∷ [])) in
    let within : length ways < length numbers = omega (arith, c.linking-test.true, c.len.ensures, c.len-in-linking.ensures) in
    let here : c.len-in-linking-3.result ≡ length ways = omega (arith, c.len-in-linking-3.ensures) in
    let read : c.len-in-linking-2.result ≡ length ways = omega (arith, c.len-in-linking-2.ensures) in
    let follows : Follows stride numbers owners (length ways) c.follow.result = subst (λ (n : ℕ). Follows stride numbers owners n c.follow.result) here c.follow.ensures in
    let at : slice_get numbers (length ways) ≡ Some c.index.result.now = subst (λ (n : ℕ). slice_get numbers n ≡ Some c.index.result.now) read (read_at numbers c.len-in-linking-2.result c.index.result.now (omega (arith, within, c.len-in-linking-2.ensures)) c.index.ensures) in
    record {
      from = omega (arith, long, c.linking.invariant.from);
      followed = subst (λ (xs : List ℕ). AreFollowed stride numbers owners xs) (sym items) (followed_push stride numbers owners ways c.follow.result c.linking.invariant.followed within follows);
      early = λ j x less at_x. early_more numbers c.args.end (length ways) c.index.result.now c.linking.invariant.early at c.if-index-end.true j x (omega (arith, less, long)) at_x;
    }

pub returns-else-index-end-clause-cut : goal.returns-else-index-end-clause-cut
returns-else-index-end-clause-cut c =
    let numbers = c.args.sides.now.numbers.items in
    let ways = c.linking.ways.items in
    let within : length ways < length numbers = omega (arith, c.linking-test.true, c.len.ensures, c.len-in-linking.ensures) in
    let read : c.len-in-linking-2.result ≡ length ways = omega (arith, c.len-in-linking-2.ensures) in
    let value : c.index.result.now ≡ get_or numbers (length ways) c.index.result.now = c.index.ensures ∙ ap (λ (n : ℕ). get_or numbers n c.index.result.now) read in
    let at = read_at numbers (length ways) c.index.result.now within value in
    cut_at numbers c.args.end (length ways) c.index.result.now c.requires.rising c.linking.invariant.early at c.if-index-end.false
