-- Tables that the definition refuses.
use Rattle.std.proofs.Common.{◌≡◌, [], ◌∷◌, Some, refl, arith}
use Rattle.std.proofs.lemmas.Option.{none-some}
use Rattle.region_label.specs.Labelling.{RegionTable}
use Rattle.edge_trace.specs.EdgeTable.{EdgeTable, EnclosesRegions, HoldsBoundaries}
use Rattle.edge_trace.proofs.BoundaryLemmas.{table_encloses}

-- a grid of one cell

abbrev one_cell : RegionTable
one_cell = record {
  numbers = record { ncols = 1; nrows = 1; rows = (Some 0 ∷ []) ∷ [] };
  firsts = (0, 0) ∷ [];
  sizes = 1 ∷ [];
}

-- without edges its cell isn't enclosed

abbrev no_edges : EdgeTable
no_edges = record { edges = []; cells = []; next = [] }

cell_not_enclosed : ¬ EnclosesRegions one_cell no_edges
cell_not_enclosed encloses =
    let odd = (encloses 0 [] (record {
      all = λ e. (λ member. absurd (omega (arith, member.1)), λ own. absurd (none-some e own.1));
      once = λ i j d less within. absurd (omega (arith, within));
    }) (0, 0)).0 refl in
    let none : 0 ≡ 1 = odd in
    omega (arith, none)

-- so an edge is missing
edges_missing : ¬ HoldsBoundaries one_cell no_edges
edges_missing holds = cell_not_enclosed (table_encloses one_cell no_edges holds)
