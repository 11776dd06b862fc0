-- The grid that check makes can be written and read, and its layer is burned back to it in each type of cells.
use Rattle.std.proofs.Common.{◌≡◌, ℕ, ℤ, suc, ◌+◌, ◌*◌, ◌<◌, ◌≤◌, ◌≤ℤ◌, List, [], Option, Some, None, Ok, length, get_or, pos, refl, sym, ap, ◌∙◌, subst, arith}
use Rattle.std.specs.Prelude.{◌/◌, ◌%◌, All, map, slice_get, unwrap_or}
use Rattle.std.specs.List.{range_with_len}
use Rattle.std.proofs.Math.Nat.{mul-le-mul}
use Rattle.std.proofs.lemmas.Int.{ints}
use Rattle.std.proofs.lemmas.List.FromFn.{get_or-map-range_with_len, length-map-range_with_len}
use Rattle.std.proofs.lemmas.Nat.{mod_below}
use Rattle.std.proofs.lemmas.Option.{none-some, same_Some, slice_get-get_or}
use Rattle.rv_outside.specs.Files.{Files}
use Rattle.cell_base.specs.Clamped.{clamped}
use Rattle.cell_base.specs.Inner.Laws.{whole_reads}
use Rattle.cell_base.specs.Raster.{IsRaster, Place, Raster, most_cells, value_at}
use Rattle.cell_base.specs.WholeCells.{least_byte, least_int16, least_int32, least_int64, most_byte, most_int16, most_int32, most_int64}
use Rattle.cell_base.specs.declared.kind.CellKind.{CellKind}
use Rattle.cell_base.specs.declared.kind.CellKind.TheVariants.{Byte, Int16, Int32, Int64}
use Rattle.cell_base.proofs.PlaceLemmas.{inside_from_value}
use Rattle.geo_transform.specs.Frame.{IsFrame}
use Rattle.asc_grid.specs.Written.{IsBetween, IsGrid}
use Rattle.asc_grid.specs.declared.grid.Asc.{Asc}
use Rattle.asc_grid.proofs.ReadBackLemmas.{reads_back}
use Rattle.tool_words.specs.Check.{FitsCheck}
use Rattle.tool_words.specs.declared.job.CheckJob.{CheckJob}
use Rattle.tool_outcome.specs.Check.{checked_frame, checked_grid, drawn_value, layer_job, number_in_turn}
use Rattle.tool_outcome.specs.Polygonize.{IsPolygonizeText}
use Rattle.tool_outcome.specs.Rasterize.{held, raster_by, rasterize_answer}
use Rattle.tool_outcome.specs.Source.{cell_of, grid_or_fault, source_of, text_of}
use Rattle.round_trip.specs.Check.{burn_job}
use Rattle.round_trip.proofs.LayerLemmas.{IsHeldIn}
use Rattle.round_trip.proofs.RoundTripLemmas.{answer_in}
use Rattle.round_trip.proofs.SourceLemmas.{IsGridOfText, IsInt64}

-- a grid that is made by its places

pub made_at : {X : Type 0} (f : ℕ → X) (n k : ℕ) → k < n → slice_get (map f (range_with_len 0 n)) k ≡ Some (f k)
made_at f n k within =
    slice_get-get_or (map f (range_with_len 0 n)) k (f k) (omega (arith, within, length-map-range_with_len f 0 n))
    ∙ ap Some (get_or-map-range_with_len f 0 n k k (f k) within (omega arith))

all_made : {X : Type 0} (P : X → Type 0) (f : ℕ → X) (n : ℕ) → ((k : ℕ) → k < n → P (f k)) → All P (map f (range_with_len 0 n))
all_made P f n each k d within =
    let below : k < n = omega (arith, within, length-map-range_with_len f 0 n) in
    subst P (sym (get_or-map-range_with_len f 0 n k k d below (omega arith))) (each k below)

-- its values
pub value_at-raster_by : {T : Type 0} (ncols nrows : ℕ) (at : Place → T) (r c : ℕ) → r < nrows → c < ncols → value_at (raster_by ncols nrows at) (r, c) ≡ Some (at (r, c))
value_at-raster_by {T} ncols nrows at r c in_row in_col =
    let row : ℕ → List T = λ i. map (λ j. at (i, j)) (range_with_len 0 ncols) in
    ap (λ (o : Option (List T)). slice_get (unwrap_or o []) c) (made_at row nrows r in_row) ∙ made_at (λ j. at (r, j)) ncols c in_col

-- its rows
pub raster_by_rows : {T : Type 0} (ncols nrows : ℕ) (at : Place → T) → 0 < ncols → 0 < nrows → ncols * nrows ≤ most_cells → IsRaster (raster_by ncols nrows at)
raster_by_rows {T} ncols nrows at some_cols some_rows small =
    let row : ℕ → List T = λ i. map (λ j. at (i, j)) (range_with_len 0 ncols) in
    record {
      some_cols = some_cols;
      some_rows = some_rows;
      small = small;
      height = length-map-range_with_len row 0 nrows;
      width = all_made (λ cells. length cells ≡ ncols) row nrows (λ r in_row. length-map-range_with_len (λ j. at (r, j)) 0 ncols);
    }

-- what check makes

drawn_below : (job : CheckJob) (i : ℕ) → FitsCheck job → (n : ℕ) × (n < 256) × (drawn_value job i ≡ pos n)
drawn_below job i fits =
    let number : ℕ = number_in_turn job.seed (suc i) / 65536 in
    (number % job.values, omega (arith, mod_below number job.values (omega (arith, fits.values_from_one)), fits.values_most), refl)

checked_rows : (job : CheckJob) → FitsCheck job → job.width * job.height ≤ most_cells → IsRaster (checked_grid job).cells
checked_rows job fits few = raster_by_rows job.width job.height (λ cell. drawn_value job (cell.0 * job.width + cell.1)) (omega (arith, fits.width_from_one)) (omega (arith, fits.height_from_one)) few

-- no more columns or rows than cells
few_sides : (m n : ℕ) → 0 < m → 0 < n → m * n ≤ most_cells → (m ≤ most_cells) × (n ≤ most_cells)
few_sides m n some_m some_n few =
    let one : 1 ≤ m = omega (arith, some_m) in
    let other : 1 ≤ n = omega (arith, some_n) in
    let wide : m * 1 ≤ m * n = mul-le-mul (omega arith) other in
    let high : 1 * n ≤ m * n = mul-le-mul one (omega arith) in
    (omega (arith, wide, few), omega (arith, high, few))

pub checked_is_frame : (job : CheckJob) → FitsCheck job → job.width * job.height ≤ most_cells → IsFrame (checked_frame job)
checked_is_frame job fits few =
    let sides = few_sides job.width job.height (omega (arith, fits.width_from_one)) (omega (arith, fits.height_from_one)) few in
    record {
      some_cols = omega (arith, fits.width_from_one);
      some_rows = omega (arith, fits.height_from_one);
      few_cells = few;
      some_size = omega (arith, ints);
      size = record { low = omega (arith, ints); high = omega (arith, ints) };
      left = record { low = omega (arith, ints); high = omega (arith, ints) };
      lower = record { low = omega (arith, ints); high = omega (arith, ints) };
      right = record { low = omega (arith, ints, sides.0); high = omega (arith, ints, sides.0) };
      upper = record { low = omega (arith, ints, sides.1); high = omega (arith, ints, sides.1) };
    }

-- each cell is less than 256
cell_below : (job : CheckJob) → FitsCheck job → job.width * job.height ≤ most_cells → (p : Place) (x : ℤ) → value_at (checked_grid job).cells p ≡ Some x
    → (n : ℕ) × (n < 256) × (x ≡ pos n)
cell_below job fits few p x at =
    let inside = inside_from_value (checked_grid job).cells p x (checked_rows job fits few) at in
    let here = value_at-raster_by job.width job.height (λ cell. drawn_value job (cell.0 * job.width + cell.1)) p.0 p.1 inside.0 inside.1 in
    let drawn = drawn_below job (p.0 * job.width + p.1) fits in
    (drawn.0, drawn.1, same_Some x (pos drawn.0) (sym at ∙ here ∙ ap Some drawn.2))

whole_small : (n : ℕ) → n < 256 → IsInt64 (pos n)
whole_small n small = record { low = omega (arith, ints); high = omega (arith, ints, small) }

checked_is_grid : (job : CheckJob) → FitsCheck job → job.width * job.height ≤ most_cells → IsGridOfText (checked_grid job)
checked_is_grid job fits few = record {
  frame = checked_is_frame job fits few;
  ncols = refl;
  nrows = refl;
  cells = λ p x at.
      let below = cell_below job fits few p x at in
      subst IsInt64 (sym below.2) (whole_small below.0 below.1);
  nodata = λ n is. absurd (none-some n is);
}

clamped_same : (low high v : ℤ) → low ≤ℤ v → v ≤ℤ high → clamped low high v ≡ v
clamped_same low high v above below = grind (arith, ints)

-- each type holds what is less than 256
held_small : (kind : CellKind) (n : ℕ) → n < 256 → held kind (pos n) ≡ pos n
held_small Byte n small = clamped_same least_byte most_byte (pos n) (omega (arith, ints)) (omega (arith, ints, small))
held_small Int16 n small = clamped_same least_int16 most_int16 (pos n) (omega (arith, ints)) (omega (arith, ints, small))
held_small Int32 n small = clamped_same least_int32 most_int32 (pos n) (omega (arith, ints)) (omega (arith, ints, small))
held_small Int64 n small = clamped_same least_int64 most_int64 (pos n) (omega (arith, ints)) (omega (arith, ints, small))

checked_is_held : (job : CheckJob) → FitsCheck job → job.width * job.height ≤ most_cells → (kind : CellKind) → IsHeldIn kind (checked_grid job)
checked_is_held job fits few kind = record {
  cells = λ p x at.
      let below = cell_below job fits few p x at in
      subst (λ v. held kind v ≡ v) (sym below.2) (held_small kind below.0 below.1);
  outside = held_small kind 0 (omega arith);
}

-- it is read back
pub checked_back : (job : CheckJob) → FitsCheck job → job.width * job.height ≤ most_cells → source_of (Some (text_of (checked_grid job))) ≡ Ok (checked_grid job)
checked_back job fits few = ap grid_or_fault (reads_back cell_of (λ n. n) 0 least_int64 most_int64 (checked_grid job) (omega (arith, ints)) (omega (arith, ints)) (whole_reads least_int64 most_int64 refl refl) can_be_written)
  where
    between : (r c : ℕ) → IsBetween (λ n. n) least_int64 most_int64 (drawn_value job (r * job.width + c))
    between r c =
        let below = drawn_below job (r * job.width + c) fits in
        let whole = whole_small below.0 below.1 in
        subst (IsBetween (λ n. n) least_int64 most_int64) (sym below.2) (record { low = whole.low; high = whole.high })

    can_be_written : IsGrid (λ n. n) least_int64 most_int64 (checked_grid job)
    can_be_written = record {
      frame = checked_is_frame job fits few;
      raster = checked_rows job fits few;
      ncols = refl;
      nrows = refl;
      values = all_made (All (IsBetween (λ n. n) least_int64 most_int64)) (λ r. map (λ c. drawn_value job (r * job.width + c)) (range_with_len 0 job.width)) job.height
          (λ r in_row. all_made (IsBetween (λ n. n) least_int64 most_int64) (λ c. drawn_value job (r * job.width + c)) job.width (λ c in_col. between r c));
      nodata = tt;
    }

-- and burned back
pub checked_again : (job : CheckJob) (layer : List ℕ) (files : Files) → FitsCheck job → job.width * job.height ≤ most_cells
    → IsPolygonizeText layer_job (checked_grid job) layer → files layer_job.dest ≡ Some layer
    → rasterize_answer (burn_job job) files ≡ Ok (text_of (checked_grid job))
checked_again job layer files fits few is_layer told =
    answer_in job.kind (checked_grid job) layer_job layer layer_job.dest (burn_job job).dest files (checked_is_grid job fits few) (checked_is_held job fits few job.kind) refl refl is_layer told
