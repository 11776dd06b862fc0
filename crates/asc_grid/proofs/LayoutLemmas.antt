-- The frame that a header's values make.
use Rattle.std.proofs.Common.{◌≡◌, ℕ, ℤ, ◌*◌, ◌<◌, ◌≤◌, ◌<ℤ◌, Bool, true, false, Some, None, Ok, Err, not, pos, refl, sym, ap, ◌∙◌, arith}
use Rattle.std.specs.Prelude.{if◌then◌else◌}
use Rattle.std.proofs.lemmas.Bool.Decides.{nat_tests}
use Rattle.fixed_coord.specs.Limits.{most_cells}
use Rattle.geo_transform.specs.Layout.{Layout, square_layout}
use Rattle.geo_transform.specs.Fault.{has_flat_cells, has_oblong_cells, has_too_many_cells, is_in_range}
use Rattle.geo_transform.proofs.FaultLemmas.{GoodCounts, good, good_counts, not_flat, not_oblong, too_far}
use Rattle.geo_transform.specs.Frame.{frame_of, frame_or_fault}
use Rattle.geo_transform.specs.declared.frame.Frame.{Frame}
use Rattle.geo_transform.specs.declared.fault.FrameFault.{FrameFault}
use Rattle.geo_transform.specs.declared.fault.FrameFault.TheVariants as frame_fault
use Rattle.asc_grid.specs.Offence.{wrong_layout}
use Rattle.asc_grid.specs.declared.fault.GridKind.TheVariants.{OutOfRange}

-- the counts and the size are positive, and there are not too many cells
pub record IsCounted (ncols nrows : ℕ) (size : ℤ) : Type 0 where
  pub some_cols : 0 < ncols
  pub some_rows : 0 < nrows
  pub few : ncols * nrows ≤ most_cells
  pub some_size : pos 0 <ℤ size

few_cells : (ncols nrows : ℕ) (x y z : ℤ) → ncols * nrows ≤ most_cells → has_too_many_cells (square_layout ncols nrows x y z) ≡ false
few_cells ncols nrows x y z few = grind (arith, nat_tests, few)

by_range : (l : Layout) (b : Bool) → GoodCounts l → has_flat_cells l ≡ false → has_oblong_cells l ≡ false → is_in_range l ≡ b → frame_or_fault l ≡ (if b then Ok (frame_of l) else Err frame_fault.OutOfRange)
by_range l true counts flat_no oblong_no is = good l counts flat_no oblong_no (ap not is)
by_range l false counts flat_no oblong_no is = too_far l counts flat_no oblong_no (ap not is)

-- a frame of such numbers fails in its range alone
pub frame_by_range : (ncols nrows : ℕ) (left lower size : ℤ) → IsCounted ncols nrows size → frame_or_fault (square_layout ncols nrows left lower size) ≡ (if is_in_range (square_layout ncols nrows left lower size) then Ok (frame_of (square_layout ncols nrows left lower size)) else Err frame_fault.OutOfRange)
frame_by_range ncols nrows left lower size counted =
    let l : Layout = square_layout ncols nrows left lower size in
    let counts : GoodCounts l = good_counts l (record { some_cols = counted.some_cols; some_rows = counted.some_rows; few_cells = counted.few }) in
    by_range l (is_in_range l) counts (not_flat l counted.some_size counted.some_size) (not_oblong l refl) refl

wrong_by_range : (l : Layout) → has_too_many_cells l ≡ false → wrong_layout l ≡ (if is_in_range l then None else Some OutOfRange)
wrong_by_range l few = rw few refl

frame_cases : (b : Bool) (f frame : Frame) → (if b then Ok f else Err frame_fault.OutOfRange) ≡ Ok frame → (f ≡ frame) × (b ≡ true)
frame_cases true f frame is = (cc is, refl)
frame_cases false f frame is = absurd (cc is)

fault_cases : (b : Bool) (f : Frame) (fault : FrameFault) → (if b then Ok f else Err frame_fault.OutOfRange) ≡ Err fault → b ≡ false
fault_cases true f fault is = absurd (cc is)
fault_cases false f fault is = refl

-- what `Frame::make` answers is what the numbers say
pub frame_made : (ncols nrows : ℕ) (left lower size : ℤ) (frame : Frame) → IsCounted ncols nrows size → frame_or_fault (square_layout ncols nrows left lower size) ≡ Ok frame → (frame ≡ frame_of (square_layout ncols nrows left lower size)) × (None ≡ wrong_layout (square_layout ncols nrows left lower size))
frame_made ncols nrows left lower size frame counted made =
    let l : Layout = square_layout ncols nrows left lower size in
    let cases = frame_cases (is_in_range l) (frame_of l) frame (sym (frame_by_range ncols nrows left lower size counted) ∙ made) in
    let right : wrong_layout l ≡ None = wrong_by_range l (few_cells ncols nrows left lower size counted.few) ∙ rw cases.1 refl in
    (sym cases.0, sym right)

pub frame_refused : (ncols nrows : ℕ) (left lower size : ℤ) (fault : FrameFault) → IsCounted ncols nrows size → frame_or_fault (square_layout ncols nrows left lower size) ≡ Err fault → Some OutOfRange ≡ wrong_layout (square_layout ncols nrows left lower size)
frame_refused ncols nrows left lower size fault counted made =
    let l : Layout = square_layout ncols nrows left lower size in
    let far = fault_cases (is_in_range l) (frame_of l) fault (sym (frame_by_range ncols nrows left lower size counted) ∙ made) in
    sym (wrong_by_range l (few_cells ncols nrows left lower size counted.few) ∙ rw far refl)

-- an edge that is read is the edge
pub edge_read : (b : Bool) (z x : ℤ) → (if b then Ok z else Err OutOfRange) ≡ Ok x → z ≡ x
edge_read true z x is = cc is
edge_read false z x is = absurd (cc is)
