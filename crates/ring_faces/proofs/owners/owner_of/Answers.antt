use Rattle.std.proofs.Common.{◌-◌, List, None, subst, arith}
use Rattle.std.proofs.lemmas.Option.{get_or_from_slice_get}
use Rattle.region_label.specs.Run.{Run}
use Rattle.ring_faces.specs.Inner.Owners.{AreUpTo}
use Rattle.ring_faces.proofs.OwnerLemmas.{owner_is}
use Rattle.ring_faces.proofs.owners.owner_of.Goals as goal

pub returns-then-runs-eq0 : goal.returns-then-runs-eq0
returns-then-runs-eq0 c = λ k in_k.
    let up = subst (λ (runs : List Run). AreUpTo runs (c.args.row, c.args.col) c.runs_up_to-runs.result) c.runs.ensures.value c.runs_up_to-runs.ensures in
    absurd (omega (
      arith,
      c.if-runs-eq0.true,
      (owner_is c.args.regions.now c.table-table.result.now k (c.args.row, c.args.col) _ c.table-table.ensures.runs in_k up).0,
    ))

pub returns : goal.returns
returns c = λ k in_k.
    let up = subst (λ (runs : List Run). AreUpTo runs (c.args.row, c.args.col) c.runs_up_to-runs.result) c.runs.ensures.value c.runs_up_to-runs.ensures in
    let owner = owner_is c.args.regions.now c.table-table.result.now k (c.args.row, c.args.col) _ c.table-table.ensures.runs in_k up in
    rw c.components.ensures (get_or_from_slice_get c.table-table.result.now.components (c.runs_up_to-runs.result - 1) _ None owner.1)
