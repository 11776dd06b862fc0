use Rattle.std.proofs.Common.{◌∷◌, [], None, length, length-append, ap, refl, arith}
use Rattle.sieve_core.proofs.ChainLemmas.{chained_nowhere, chained_to, followed_out, followed_round, followed_stays, followed_to, leads_itself, none_of, path_short, read_at, size_read, under_way_on}
use Rattle.sieve_core.proofs.targets.follow.Goals as goal

pub returns-in-Takes : goal.returns-in-Takes
returns-in-Takes g c =
    let at = read_at c.loop-targets.targets c.loop-targets.at _ _ (omega (arith, c.loop-targets.invariant.below, c.loop-targets.invariant.right.long)) c.in-Takes.is in
    followed_to _ c.args.regions.now c.args.st c.args.targets.now c.loop-targets.targets c.loop-targets.path.items c.args.start c.loop-targets.at c.in-Takes.end c.loop-targets.invariant (c.loop-targets.invariant.right.takes c.loop-targets.at c.in-Takes.end at)

pub returns-in-Stays : goal.returns-in-Stays
returns-in-Stays g c =
    let at = read_at c.loop-targets.targets c.loop-targets.at _ _ (omega (arith, c.loop-targets.invariant.below, c.loop-targets.invariant.right.long)) c.in-Stays.is in
    followed_stays _ c.args.regions.now c.args.st c.args.targets.now c.loop-targets.targets c.loop-targets.path.items c.args.start c.loop-targets.at c.loop-targets.invariant c.requires.unknown at

pub returns-in-UnderWay : goal.returns-in-UnderWay
returns-in-UnderWay g c =
    let at = read_at c.loop-targets.targets c.loop-targets.at _ _ (omega (arith, c.loop-targets.invariant.below, c.loop-targets.invariant.right.long)) c.in-UnderWay.is in
    followed_round _ c.args.regions.now c.args.st c.args.targets.now c.loop-targets.targets c.loop-targets.path.items c.args.start c.loop-targets.at c.loop-targets.invariant at

pub returns-then-size-st : goal.returns-then-size-st
returns-then-size-st g c =
    let size = size_read c.args.regions.now c.loop-targets.at c.size.result c.size.ensures in
    followed_to _ c.args.regions.now c.args.st c.args.targets.now c.loop-targets.targets c.loop-targets.path.items c.args.start c.loop-targets.at c.loop-targets.at c.loop-targets.invariant (leads_itself _ c.args.regions.now c.args.st c.loop-targets.at (omega (arith, size)))

pub returns-in_default : goal.returns-in_default
returns-in_default g c =
    let at = read_at c.loop-targets.targets c.loop-targets.at _ _ (omega (arith, c.loop-targets.invariant.below, c.loop-targets.invariant.right.long)) c.in-Unknown.is in
    let size = size_read c.args.regions.now c.loop-targets.at c.size.result c.size.ensures in
    let none = read_at c.args.largest.now c.loop-targets.at None None (omega (arith, c.loop-targets.invariant.below, c.requires.largest.long)) (none_of _ c.in_default.not-Some) in
    rw c.in_ok-push.ensures.items (followed_out _ c.args.regions.now c.args.st c.args.targets.now c.loop-targets.targets _ c.loop-targets.path.items c.args.start c.loop-targets.at c.loop-targets.invariant at refl (omega (arith, size)) (λ m. chained_nowhere _ c.args.regions.now c.args.st c.args.largest.now c.loop-targets.at m c.requires.largest none (omega (arith, size))))

pub loop-targets-smaller : goal.loop-targets-smaller
loop-targets-smaller g c =
    let at = read_at c.loop-targets.targets c.loop-targets.at _ _ (omega (arith, c.loop-targets.invariant.below, c.loop-targets.invariant.right.long)) c.in-Unknown.is in
    let short = path_short _ c.args.regions.now c.args.st c.args.targets.now c.loop-targets.targets c.loop-targets.path.items c.args.start c.loop-targets.at c.loop-targets.invariant at in
    omega (arith, short, ap length c.in_ok-push.ensures.items, length-append c.loop-targets.path.items (c.loop-targets.at ∷ []))

pub loop-targets-preserved : goal.loop-targets-preserved
loop-targets-preserved g c =
    let at = read_at c.loop-targets.targets c.loop-targets.at _ _ (omega (arith, c.loop-targets.invariant.below, c.loop-targets.invariant.right.long)) c.in-Unknown.is in
    let size = size_read c.args.regions.now c.loop-targets.at c.size.result c.size.ensures in
    let next = read_at c.args.largest.now c.loop-targets.at _ _ (omega (arith, c.loop-targets.invariant.below, c.requires.largest.long)) c.in-Some.is in
    rw c.in_ok-push.ensures.items (under_way_on _ c.args.regions.now c.args.st c.args.targets.now c.loop-targets.targets _ c.loop-targets.path.items c.args.start c.loop-targets.at c.in-Some.next c.requires.known c.loop-targets.invariant at refl (chained_to _ c.args.regions.now c.args.st c.args.largest.now c.loop-targets.at c.in-Some.next c.requires.largest next (omega (arith, size))))
