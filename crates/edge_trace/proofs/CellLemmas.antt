-- The sides of a cell, and of the cells of a piece of a run.
use Rattle.std.proofs.Common.{◌≡◌, ℕ, zero, suc, ◌+◌, ◌-◌, ◌*◌, ◌^◌, ◌<◌, ◌≤◌, ◌⊎◌, inl, inr, false, Some, refl, ap, sym, ◌∙◌, subst, arith, ◌++◌, List, take}
use Rattle.std.specs.Prelude.{◌==◌}
use Rattle.std.proofs.lemmas.Bool.{cases_lt, eqb-true, false≢true}
use Rattle.std.proofs.lemmas.List.{append-nil}
use Rattle.cell_base.specs.Raster.{Place, IsRaster}
use Rattle.cell_base.specs.Order.{IsBefore}
use Rattle.cell_base.proofs.PlaceLemmas.{inside_from_value}
use Rattle.region_label.specs.Labelling.{RegionTable, IsInRegion}
use Rattle.region_label.specs.Run.{Run, IsRunIn}
use Rattle.region_label.proofs.RowsLemmas.{few_rows}
use Rattle.edge_trace.specs.Inner.Sides.{AreSides, IsSide, IsStride, side_number}
use Rattle.edge_trace.specs.Inner.Finding.{Adds, AreBounds, HasRoomFrom, HasSides, KeepsRoom, TakesRoom, Tells, found_numbers, found_owners}
use Rattle.edge_trace.specs.declared.sides.Bounds.{Bounds}
use Rattle.edge_trace.specs.declared.sides.Finding.{Finding}
use Rattle.edge_trace.proofs.BoundaryLemmas.{place_is}
use Rattle.edge_trace.proofs.GrowLemmas.{AreNarrow, one_region, side_told, sides_skip}
use Rattle.edge_trace.proofs.NumberLemmas.{before_number, number_before}
use Rattle.edge_trace.proofs.StretchLemmas.{left_tells, right_tells}

-- the four sides of a cell
pub cell_pushed : (regions : RegionTable) (stride k row col n : ℕ) (bounds : Bounds) (a b c d e : Finding) → AreNarrow regions stride → AreBounds regions k (row, col) bounds → n ≡ side_number stride (row, col) 0 → HasSides regions stride a (side_number stride (row, col) 0) → Adds bounds.left n k a b → Adds bounds.below (n + 1) k b c → Adds bounds.right (n + 2) k c d → Adds bounds.above (n + 3) k d e → HasSides regions stride e (side_number stride (row, col + 1) 0)
cell_pushed regions stride k row col n bounds a b c d e narrow are number has left below right above =
    let start : HasSides regions stride a n = subst (HasSides regions stride a) (sym number) has in
    let first : HasSides regions stride b (n + 1) = side_told regions stride bounds.left n k (row, col) 0 a b narrow (omega arith) are.inside are.left number start left in
    let second : HasSides regions stride c (n + 1 + 1) = side_told regions stride bounds.below (n + 1) k (row, col) 1 b c narrow (omega arith) are.inside are.below (omega (arith, number)) first below in
    let two : n + 1 + 1 ≡ n + 2 = omega arith in
    let third : HasSides regions stride d (n + 2 + 1) = side_told regions stride bounds.right (n + 2) k (row, col) 2 c d narrow (omega arith) are.inside are.right (omega (arith, number)) (subst (HasSides regions stride c) two second) right in
    let three : n + 2 + 1 ≡ n + 3 = omega arith in
    let fourth : HasSides regions stride e (n + 3 + 1) = side_told regions stride bounds.above (n + 3) k (row, col) 3 d e narrow (omega arith) are.inside are.above (omega (arith, number)) (subst (HasSides regions stride d) three third) above in
    let end : n + 3 + 1 ≡ side_number stride (row, col + 1) 0 = omega (arith, number) in
    subst (HasSides regions stride e) end fourth

-- a side by its number, along a piece of a run that bounds its component neither above nor below: an end of the piece
record IsEnd (from to col side : ℕ) : Type 0 where
  from_end : side ≡ 0 → col ≡ from
  to_end : side ≡ 2 → col + 1 ≡ to
  ends : (side ≡ 0) ⊎ (side ≡ 2)

end_of : (regions : RegionTable) (k : ℕ) (run : Run) (from to col side : ℕ) → IsRunIn (IsInRegion regions k) run → run.from ≤ from → to ≤ run.to → Tells regions k run.row 3 from to false → Tells regions k run.row 1 from to false → from ≤ col → col < to → IsSide regions k (run.row, col) side → IsEnd from to col side
end_of regions k run from to col zero is first last above below past before side = record {
  from_end = λ _. omega (arith, eqb-true col run.from ((left_tells regions k run col is (omega (arith, first, past)) (omega (arith, before, last))).1 side), first, past);
  to_end = λ no. absurd (omega (arith, no));
  ends = inl refl;
}
end_of regions k run from to col (suc zero) is first last above below past before side = absurd (false≢true ((below col past before).1 side))
end_of regions k run from to col (suc (suc zero)) is first last above below past before side = record {
  from_end = λ no. absurd (omega (arith, no));
  to_end = λ _. omega (arith, eqb-true (col + 1) run.to ((right_tells regions k run col (col + 1) is (omega (arith, first, past)) (omega (arith, before, last)) refl).1 side), last, before);
  ends = inr refl;
}
end_of regions k run from to col (suc (suc (suc zero))) is first last above below past before side = absurd (false≢true ((above col past before).1 side))
end_of regions k run from to col (suc (suc (suc (suc n)))) is first last above below past before side = absurd (omega (arith, side.few))

end_at : (regions : RegionTable) (stride k m : ℕ) (run : Run) (from to side : ℕ) (cell : Place) → AreNarrow regions stride → IsRunIn (IsInRegion regions k) run → run.from ≤ from → from < to → to ≤ run.to → Tells regions k run.row 3 from to false → Tells regions k run.row 1 from to false → IsSide regions m cell side → side_number stride (run.row, from) 0 ≤ side_number stride cell side → side_number stride cell side < side_number stride (run.row, to) 0 → (cell.0 ≡ run.row) × IsEnd from to cell.1 side
end_at regions stride k m run from to side cell narrow is first some last above below side_is low high =
    let wide : to + 1 < stride = omega (arith, narrow k (run.row, to - 1) (is.cells (run.row, to - 1) (refl, omega (arith, first, some), omega (arith, last, some))), some) in
    let narrow_cell : cell.1 + 1 < stride = omega (arith, narrow m cell side_is.inside) in
    let not_before : ¬ IsBefore cell (run.row, from) = λ before. omega (arith, number_before stride cell (run.row, from) side 0 side_is.few narrow_cell before, low) in
    let before : IsBefore cell (run.row, to) = elim (before_number stride cell (run.row, to) side 0 side_is.few (omega arith) narrow_cell wide high) [
      | inl less ↦ less
      | inr same ↦ absurd (omega (arith, same.1))
    ] in
    let row : cell.0 ≡ run.row = elim before [
      | inl upper ↦ absurd (not_before (inl upper))
      | inr left ↦ left.0
    ] in
    let to_col : cell.1 < to = elim before [
      | inl upper ↦ absurd (not_before (inl upper))
      | inr left ↦ left.1
    ] in
    let from_col : from ≤ cell.1 = elim (cases_lt cell.1 from) [
      | inl left ↦ absurd (not_before (inr (row, left)))
      | inr past ↦ past
    ] in
    let place : cell ≡ (run.row, cell.1) = place_is cell run.row cell.1 row refl in
    let here : IsInRegion regions k (run.row, cell.1) = is.cells (run.row, cell.1) (refl, omega (arith, first, from_col), omega (arith, to_col, last)) in
    let owner : m ≡ k = one_region regions m k (run.row, cell.1) (subst (IsInRegion regions m) place side_is.inside) here in
    let own : IsSide regions k (run.row, cell.1) side = subst (λ (n : ℕ). IsSide regions n (run.row, cell.1) side) owner (subst (λ (p : Place). IsSide regions m p side) place side_is) in
    (row, end_of regions k run from to cell.1 side is first last above below from_col to_col own)

number_of : (stride row : ℕ) (cell : Place) (side col s : ℕ) → cell.0 ≡ row → cell.1 ≡ col → side ≡ s → side_number stride cell side ≡ side_number stride (row, col) s
number_of stride row cell side col s at_row at_col at_side = ap (λ (p : Place). side_number stride p side) (place_is cell row col at_row at_col) ∙ ap (side_number stride (row, col)) at_side

-- the ends of such a piece
pub ends_pushed : (regions : RegionTable) (stride k : ℕ) (run : Run) (from to n m : ℕ) (a b c : Finding) → AreNarrow regions stride → IsRunIn (IsInRegion regions k) run → run.from ≤ from → from < to → to ≤ run.to → Tells regions k run.row 3 from to false → Tells regions k run.row 1 from to false → n ≡ side_number stride (run.row, from) 0 → m ≡ side_number stride (run.row, to - 1) 2 → HasSides regions stride a (side_number stride (run.row, from) 0) → Adds (from == run.from) n k a b → Adds (to == run.to) m k b c → HasSides regions stride c (side_number stride (run.row, to) 0)
ends_pushed regions stride k run from to n m a b c narrow is first some last above below is_n is_m has left right =
    let in_first : IsInRegion regions k (run.row, from) = is.cells (run.row, from) (refl, first, omega (arith, some, last)) in
    let in_last : IsInRegion regions k (run.row, to - 1) = is.cells (run.row, to - 1) (refl, omega (arith, first, some), omega (arith, last, some)) in
    let after_first : HasSides regions stride b (n + 1) = side_told regions stride (from == run.from) n k (run.row, from) 0 a b narrow (omega arith) in_first (left_tells regions k run from is first (omega (arith, some, last))) is_n (subst (HasSides regions stride a) (sym is_n) has) left in
    let rise : n + 1 ≤ m = omega (arith, is_n, is_m, some) in
    let before_last : HasSides regions stride b m = sides_skip regions stride (found_numbers b) (found_owners b) (n + 1) m rise (λ o side cell side_is low high.
    let end = end_at regions stride k o run from to side cell narrow is first some last above below side_is (omega (arith, low, is_n)) (omega (arith, high, is_m, some)) in
    elim end.1.ends [
      | inl left_end ↦ omega (arith, number_of stride run.row cell side from 0 end.0 (end.1.from_end left_end) left_end, low, is_n)
      | inr right_end ↦ omega (arith, number_of stride run.row cell side (to - 1) 2 end.0 (omega (arith, end.1.to_end right_end)) right_end, high, is_m)
    ]) after_first in
    let after_last : HasSides regions stride c (m + 1) = side_told regions stride (to == run.to) m k (run.row, to - 1) 2 b c narrow (omega arith) in_last (right_tells regions k run (to - 1) to is (omega (arith, first, some)) (omega (arith, last, some)) (omega (arith, some))) is_m before_last right in
    sides_skip regions stride (found_numbers c) (found_owners c) (m + 1) (side_number stride (run.row, to) 0) (omega (arith, is_m, some)) (λ o side cell side_is low high.
    let end = end_at regions stride k o run from to side cell narrow is first some last above below side_is (omega (arith, low, is_m, some)) high in
    elim end.1.ends [
      | inl left_end ↦ omega (arith, number_of stride run.row cell side from 0 end.0 (end.1.from_end left_end) left_end, low, is_m, some)
      | inr right_end ↦ omega (arith, number_of stride run.row cell side (to - 1) 2 end.0 (omega (arith, end.1.to_end right_end)) right_end, low, is_m)
    ]) after_last

-- the numbers of a run's cells are small
pub record IsRoom (at stride before : ℕ) : Type 0 where
  pub low : at < 2 ^ 28
  pub row : (at + 1) * stride ≤ 2 ^ 27
  pub col : before + 2 < stride
  pub narrow : stride ≤ 2 ^ 27

pub number_room : (regions : RegionTable) (stride k : ℕ) (run : Run) (col : ℕ) → IsRaster regions.numbers → IsStride regions.numbers.ncols regions.numbers.nrows stride → IsRunIn (IsInRegion regions k) run → run.from ≤ col → col < run.to → IsRoom run.row stride col
number_room regions stride k run col shape is in_run from to =
    let within = inside_from_value regions.numbers (run.row, col) (Some k) shape (in_run.cells (run.row, col) (refl, from, to)) in
    record {
      low = omega (arith, within.0, few_rows regions.numbers shape);
      row = is.few run.row (omega (arith, within.0));
      col = omega (arith, within.1, is.wide);
      narrow = is.narrow;
    }

-- a run ends inside
pub run_within : (regions : RegionTable) (k : ℕ) (run : Run) → IsRaster regions.numbers → IsRunIn (IsInRegion regions k) run → run.to ≤ regions.numbers.ncols
run_within regions k run shape in_run =
    let last = in_run.cells (run.row, run.to - 1) (refl, omega (arith, in_run.some), omega (arith, in_run.some)) in
    let within = inside_from_value regions.numbers (run.row, run.to - 1) (Some k) shape last in
    omega (arith, within.1, in_run.some)

-- the room that is left for the columns from one on
pub room_left : (ncols from to n : ℕ) (old new : Finding) → HasRoomFrom ncols from old → TakesRoom n old new → to ≤ ncols → from + n ≤ to + 3 * (to - from) → from ≤ to → HasRoomFrom ncols to new
room_left ncols from to n old new room takes within few order = record {
  numbers = omega (arith, room.numbers, takes.count, takes.keeps.numbers, within, few, order);
  owners = omega (arith, room.owners, takes.count, takes.keeps.owners, within, few, order);
}

pub keeps_then : (a b c : Finding) → KeepsRoom a b → KeepsRoom b c → KeepsRoom a c
keeps_then a b c first second = record { numbers = second.numbers ∙ first.numbers; owners = second.owners ∙ first.owners }

-- once a row has been put to those before, all numbers stand there
pub all_put : (regions : RegionTable) (stride bound : ℕ) (finding : Finding) → finding.count ≡ 0 → HasSides regions stride finding bound → AreSides regions stride finding.numbers.items finding.owners.items bound
all_put regions stride bound finding none has =
    let numbers : found_numbers finding ≡ finding.numbers.items = ap (λ (n : ℕ). finding.numbers.items ++ take n finding.row_numbers.items) none ∙ append-nil finding.numbers.items in
    let owners : found_owners finding ≡ finding.owners.items = ap (λ (n : ℕ). finding.owners.items ++ take n finding.row_owners.items) none ∙ append-nil finding.owners.items in
    subst (λ (xs : List ℕ). AreSides regions stride xs finding.owners.items bound) numbers (subst (λ (xs : List ℕ). AreSides regions stride (found_numbers finding) xs bound) owners has)
