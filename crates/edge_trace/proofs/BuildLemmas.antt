-- The parts of a table of edges put together.
use Rattle.std.proofs.Common.{sym, ◌≡◌, ℕ, ◌+◌, ◌*◌, ◌/◌, ◌%◌, ◌^◌, ◌<◌, ◌≤◌, inl, inr, List, Some, length, ap, ◌∙◌, arith}
use Rattle.std.specs.Prelude.{slice_get}
use Rattle.std.proofs.Math.Nat.{mul-le-mul_right, pow-le-pow_right}
use Rattle.std.proofs.lemmas.Bool.{cases_lt}
use Rattle.std.proofs.lemmas.Nat.{div-mul-add, mod-mul-add, mul-le, pow-add}
use Rattle.cell_base.specs.Raster.{IsRaster}
use Rattle.cell_base.proofs.PlaceLemmas.{inside_from_value}
use Rattle.region_label.proofs.RowsLemmas.{few_columns}
use Rattle.region_label.specs.Labelling.{RegionTable}
use Rattle.edge_trace.specs.Inner.Sides.{AreSides, IsStride, side_number}
use Rattle.edge_trace.specs.Inner.Links.{AreFollowed, AreInRows, AreRoomy, IsPowerOfTwo}
use Rattle.edge_trace.specs.Inner.Table.{IsPower, IsTable}
use Rattle.edge_trace.specs.declared.sides.Sides.{Sides}
use Rattle.edge_trace.specs.declared.table.Stride.{Stride}
use Rattle.edge_trace.proofs.FollowLemmas.{AreAllSides}
use Rattle.edge_trace.proofs.GrowLemmas.{narrow_of}
use Rattle.edge_trace.proofs.NumberLemmas.{count_below, number_before, number_quarter}
use Rattle.edge_trace.proofs.WholeLemmas.{leads_on}

-- the power of two is a stride of the numbers
pub stride_is : (regions : RegionTable) (stride : Stride) → IsRaster regions.numbers → IsPower regions.numbers.ncols stride → IsStride regions.numbers.ncols regions.numbers.nrows stride.stride
stride_is regions stride shape power = record {
  wide = power.wide;
  narrow = omega (arith, power.narrow, few_columns regions.numbers shape);
  few = λ row within.
      let most : (row + 1) * stride.stride ≤ (2 * regions.numbers.nrows) * (4 * regions.numbers.ncols) = mul-le (row + 1) stride.stride (2 * regions.numbers.nrows) (4 * regions.numbers.ncols) (omega (arith, within, shape.some_rows)) (omega (arith, power.narrow, shape.some_cols)) in
      omega (arith, most, shape.small);
}

-- the sides of all rows are all
pub all_sides : (regions : RegionTable) (stride : ℕ) (sides : Sides) → IsRaster regions.numbers → IsStride regions.numbers.ncols regions.numbers.nrows stride → AreSides regions stride sides.numbers.items sides.owners.items (side_number stride (regions.numbers.nrows, 0) 0) → AreAllSides regions stride sides.numbers.items sides.owners.items
all_sides regions stride sides shape is has = record {
  bound = side_number stride (regions.numbers.nrows, 0) 0;
  sides = has;
  all = λ k side cell side_is.
      let within = inside_from_value regions.numbers cell (Some k) shape side_is.inside in
      number_before stride cell (regions.numbers.nrows, 0) side 0 side_is.few (omega (arith, within.1, is.wide)) (inl within.0);
  narrow = narrow_of regions stride shape is;
}

-- each number leaves room round it
pub roomy : (regions : RegionTable) (stride : ℕ) (numbers owners : List ℕ) → IsRaster regions.numbers → IsStride regions.numbers.ncols regions.numbers.nrows stride → AreAllSides regions stride numbers owners → AreRoomy stride numbers
roomy regions stride numbers owners shape is whole i x at =
    let each = whole.sides.each i x at in
    let within = inside_from_value regions.numbers each.cell (Some each.owner) shape each.is.inside in
    let low : 1 * stride ≤ (each.cell.0 + 1) * stride = mul-le-mul_right stride (omega arith) in
    let high = is.few each.cell.0 (omega (arith, within.0)) in
    (omega (arith, each.number_is, low), omega (arith, each.number_is, high, within.1, is.wide, is.narrow, each.is.few))

pub few_numbers : (regions : RegionTable) (stride : ℕ) (numbers owners : List ℕ) → IsRaster regions.numbers → IsStride regions.numbers.ncols regions.numbers.nrows stride → AreAllSides regions stride numbers owners → length numbers < 536870912
few_numbers regions stride numbers owners shape is whole =
    let below : (i x : ℕ) → slice_get numbers i ≡ Some x → x < 536870911 = λ i x at.
    let each = whole.sides.each i x at in
    let within = inside_from_value regions.numbers each.cell (Some each.owner) shape each.is.inside in
    let high : (each.cell.0 + 2) * stride ≤ (regions.numbers.nrows + 1) * stride = mul-le-mul_right stride (omega (arith, within.0)) in
    omega (arith, each.number_is, high, is.few regions.numbers.nrows (omega arith), within.1, is.wide, each.is.few) in
    omega (arith, count_below numbers 536870911 whole.sides.rising below)

-- the numbers are those of the rows
pub in_rows : (regions : RegionTable) (stride : ℕ) (numbers owners : List ℕ) → IsRaster regions.numbers → IsStride regions.numbers.ncols regions.numbers.nrows stride → AreAllSides regions stride numbers owners → AreInRows stride regions.numbers.nrows numbers
in_rows regions stride numbers owners shape is whole i x at =
    let each = whole.sides.each i x at in
    let within = inside_from_value regions.numbers each.cell (Some each.owner) shape each.is.inside in
    let low : 1 * stride ≤ (each.cell.0 + 1) * stride = mul-le-mul_right stride (omega arith) in
    let high : (each.cell.0 + 2) * stride ≤ (regions.numbers.nrows + 1) * stride = mul-le-mul_right stride (omega (arith, within.0)) in
    (omega (arith, each.number_is, low), omega (arith, each.number_is, high, within.1, is.wide, each.is.few))

pub rows_room : (nrows ncols stride : ℕ) → IsStride ncols nrows stride → (nrows + 3) * (4 * stride) + 4 < 4294967296
rows_room nrows ncols stride is = omega (arith, is.few nrows (omega arith), is.narrow)

pub stride_power : (ncols : ℕ) (stride : Stride) → IsPower ncols stride → stride.stride ≤ 2 ^ 27 → IsPowerOfTwo (16 * stride.stride)
stride_power ncols stride power narrow =
    let bits : 16 * stride.stride ≡ 2 ^ (4 + stride.shift) = ap (λ (n : ℕ). 16 * n) power.power ∙ sym (pow-add 2 4 stride.shift) in (
      4 + stride.shift,
      bits,
      elim (cases_lt (4 + stride.shift) 32) [
        | inl less ↦ less
        | inr large ↦ absurd (omega (arith, pow-le-pow_right {n = 2} (omega arith) large, bits, narrow))
      ],
    )

-- what the table keeps
pub table_kept : (regions : RegionTable) (stride : Stride) (numbers owners ways : List ℕ) → IsRaster regions.numbers → IsPower regions.numbers.ncols stride → AreAllSides regions stride.stride numbers owners → AreFollowed stride.stride numbers owners ways → length ways ≡ length numbers → IsTable stride.shift stride.stride numbers ways
table_kept regions stride numbers owners ways shape power whole followed all =
    let is = stride_is regions stride shape power in
    record {
      sides = record {
        power = power.power;
        narrow = elim (cases_lt stride.shift 32) [
          | inl less ↦ less
          | inr large ↦ absurd (omega (arith, pow-le-pow_right {n = 2} (omega arith) large, power.power, is.narrow))
        ];
        low = λ i x at. omega (arith, (roomy regions stride.stride numbers owners shape is whole i x at).1);
        placed = λ i x at.
            let each = whole.sides.each i x at in
            let narrow = whole.narrow each.owner each.cell each.is.inside in
            let place = (each.cell.0 + 1) * stride.stride + (each.cell.1 + 1) in
            let quarter : x / 4 ≡ place = ap (λ (n : ℕ). n / 4) each.number_is ∙ number_quarter place each.side each.is.few in
            let row : x / 4 / stride.stride ≡ each.cell.0 + 1 = ap (λ (n : ℕ). n / stride.stride) quarter ∙ div-mul-add (each.cell.0 + 1) stride.stride (each.cell.1 + 1) (omega (arith, narrow)) in
            let col : x / 4 % stride.stride ≡ each.cell.1 + 1 = ap (λ (n : ℕ). n % stride.stride) quarter ∙ mod-mul-add (each.cell.0 + 1) stride.stride (each.cell.1 + 1) (omega (arith, narrow)) in
            (omega (arith, row), omega (arith, col));
      };
      linked = all;
      few = few_numbers regions stride.stride numbers owners shape is whole;
      leads = λ i x way at to. leads_on regions stride.stride numbers owners ways i x way whole followed at to;
    }
