use Rattle.std.proofs.Common.{◌-◌, ◌*◌, ◌≤◌, ℕ, sym, ap, ◌∙◌, arith}
use Rattle.contour_segments.proofs.PlaceLemmas.{fewer, places_long}
use Rattle.contour_segments.proofs.lattice.Lattice.count.Goals as goal

pub returns-clause-value : goal.returns-clause-value
returns-clause-value c = ap (λ (n : ℕ). (n - 1) * (c.ncols.result - 1)) c.nrows.ensures.value ∙ ap (λ (n : ℕ). (c.args.self.now.cells.now.nrows - 1) * (n - 1)) c.ncols.ensures.value ∙ sym (places_long (c.args.self.now.cells.now.nrows - 1) (c.args.self.now.cells.now.ncols - 1))

pub returns-clause-small : goal.returns-clause-small
returns-clause-small c =
    let small : (c.nrows.result - 1) * (c.ncols.result - 1) ≤ c.args.self.now.cells.now.ncols * c.args.self.now.cells.now.nrows = fewer c.args.self.now.cells.now.ncols c.args.self.now.cells.now.nrows (c.nrows.result - 1) (c.ncols.result - 1) (omega (arith, c.nrows.ensures.value)) (omega (arith, c.ncols.ensures.value)) in
    omega (arith, small, c.ncols.ensures.shape.small)
