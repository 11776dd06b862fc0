use Rattle.std.proofs.Common.{◌≡◌, ℤ, ◌^◌, ◌<◌, ◌≤◌, unsigned_abs, arith}
use Rattle.std.specs.Int.Signed.{mag, nat_abs-le}
use Rattle.fixed_coord.specs.Limits.{largest}
use Rattle.asc_grid.proofs.ReadBackLemmas.{reads_back}
use Rattle.asc_grid.proofs.laws.reads_what_is_written.Goals as goal

-- a number of 64 bits is far from the ends of a text's numbers
few_bits : (result end : ℤ) → result ≡ end → mag result < 2 ^ 63 → unsigned_abs end ≤ largest
few_bits result end is small =
    let few : unsigned_abs result ≤ 2 ^ 63 = nat_abs-le result small in
    rw (← is) (omega (arith, few))

pub returns : goal.returns
returns g c = λ asc is.
    let low = few_bits _ _ c.lowest-least.ensures c.lowest-least.type_inv in
    let high = few_bits _ _ c.highest-greatest.ensures c.highest-greatest.type_inv in
    reads_back g.T.Cell.read_of g.T.Cell.units_of g.T.Cell.PLACES g.T.Cell.least g.T.Cell.greatest asc low high g.met.T.Cell.reads_written is
