use Rattle.std.proofs.Common.{arith}
use Rattle.sieve_core.proofs.NeighbourLemmas.{met_both, read_number}
use Rattle.sieve_core.proofs.neighbours.meet.Goals as goal

pub offer-requires-clause-next : goal.offer-requires-clause-next
offer-requires-clause-next g c =
    let components = c.args.table.now.components in
    let at_i = read_number c.components-components.result.now components c.args.i c.in-Some.k c.components-components.ensures (omega (arith, c.requires.lent.numbered, c.requires.i)) c.in-Some.is in
    let at_j = read_number c.components-components.result.now components c.args.j c.in-Some-components.other c.components-components.ensures (omega (arith, c.requires.lent.numbered, c.requires.j)) c.in-Some-components.is in
    (c.requires.near c.in-Some.k c.in-Some-components.other at_i at_j c.if-k-other.false).0

pub offer-requires-2-clause-k : goal.offer-requires-2-clause-k
offer-requires-2-clause-k g c =
    let at_j = read_number c.components-components.result.now c.args.table.now.components c.args.j c.in-Some-components.other c.components-components.ensures (omega (arith, c.requires.lent.numbered, c.requires.j)) c.in-Some-components.is in
    c.requires.lent.known c.args.j c.in-Some-components.other at_j

pub offer-requires-2-clause-other : goal.offer-requires-2-clause-other
offer-requires-2-clause-other g c =
    let at_i = read_number c.components-components.result.now c.args.table.now.components c.args.i c.in-Some.k c.components-components.ensures (omega (arith, c.requires.lent.numbered, c.requires.i)) c.in-Some.is in
    c.requires.lent.known c.args.i c.in-Some.k at_i

pub offer-requires-2-clause-next : goal.offer-requires-2-clause-next
offer-requires-2-clause-next g c =
    let components = c.args.table.now.components in
    let at_i = read_number c.components-components.result.now components c.args.i c.in-Some.k c.components-components.ensures (omega (arith, c.requires.lent.numbered, c.requires.i)) c.in-Some.is in
    let at_j = read_number c.components-components.result.now components c.args.j c.in-Some-components.other c.components-components.ensures (omega (arith, c.requires.lent.numbered, c.requires.j)) c.in-Some-components.is in
    (c.requires.near c.in-Some.k c.in-Some-components.other at_i at_j c.if-k-other.false).1

pub returns-clause-met : goal.returns-clause-met
returns-clause-met g c =
    let components = c.args.table.now.components in
    let at_i = read_number c.components-components.result.now components c.args.i c.in-Some.k c.components-components.ensures (omega (arith, c.requires.lent.numbered, c.requires.i)) c.in-Some.is in
    let at_j = read_number c.components-components.result.now components c.args.j c.in-Some-components.other c.components-components.ensures (omega (arith, c.requires.lent.numbered, c.requires.j)) c.in-Some-components.is in
    met_both _ c.args.regions.now c.args.table.now c.args.st _ _ c.args.i c.args.j c.in-Some.k c.in-Some-components.other at_i at_j c.offer-2.ensures.improves c.offer.ensures.covered c.offer-2.ensures.covered
