use Rattle.std.proofs.Common.{◌<◌, ◌∙◌, ℕ, Some, ap, sym, length, arith}
use Rattle.std.proofs.lemmas.List.{length-map}
use Rattle.std.proofs.lemmas.Option.{slice_get-get_or, slice_get-map}
use Rattle.std.specs.Prelude.{option_map}
use Rattle.edge_trace.specs.EdgeTable.{EdgeTable}
use Rattle.edge_trace.specs.Inner.Sides.{edge_of}
use Rattle.edge_trace.proofs.SideLemmas.{level_number}
use Rattle.edge_trace.proofs.table.EdgeTable.is_level.Goals as goal

pub returns : goal.returns
returns c =
    let table = c.self.inside in
    let number = c.index.result.now in
    let within : c.args.e < length table.sides.numbers.items = omega
    (arith, c.requires, ap (λ (t : EdgeTable). length t.edges) c.self.view_is, length-map table.sides.numbers.items (edge_of table.sides.stride)) in
    let at = slice_get-get_or table.sides.numbers.items c.args.e number within ∙ ap (λ (n : ℕ). Some n) (sym c.index.ensures) in (
      edge_of table.sides.stride number,
      rw (← c.self.view_is) (slice_get-map (edge_of table.sides.stride) table.sides.numbers.items c.args.e ∙ ap (option_map (edge_of table.sides.stride)) at),
      sym (level_number table.sides.stride number),
    )
