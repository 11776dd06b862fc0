use Rattle.std.proofs.Common.{arith}
use Rattle.std.proofs.lemmas.Int.{clamps, ints}
use Rattle.contour_segments.proofs.span.Span.of.Goals as goal

pub returns : goal.returns
returns c = record {
  nw = (omega (arith, ints, clamps), omega (arith, ints, clamps));
  ne = (omega (arith, ints, clamps), omega (arith, ints, clamps));
  se = (omega (arith, ints, clamps), omega (arith, ints, clamps));
  sw = (omega (arith, ints, clamps), omega (arith, ints, clamps));
}
