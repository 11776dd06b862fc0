use Rattle.std.proofs.Common.{◌+◌, arith}
use Rattle.std.specs.Prelude.{IsTrue}
use Rattle.contour_chain.specs.Inner.Links.{Starts}
use Rattle.contour_chain.proofs.LinkLemmas.{linked, none_starts}
use Rattle.contour_chain.proofs.links.starting_at.Goals as goal

pub returns : goal.returns
returns c =
    let first : ¬ Starts c.args.segments.now c.args.cross c.args.at = λ is.
    let held : IsTrue c.starts.result = c.starts.ensures.1 is in
    grind (arith, held, c.if-starts.false) in
    let second : ¬ Starts c.args.segments.now c.args.cross (c.args.at + 1) = λ is.
    let held : IsTrue c.starts-2.result = c.starts-2.ensures.1 is in
    grind (arith, held, c.if-starts-2.false) in
    none_starts c.args.segments.now c.args.cross c.args.at (linked c.args.segments.now c.requires.segments) c.requires.first first second
