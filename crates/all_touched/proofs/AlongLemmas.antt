-- Edges along the sides of cells meet no cell.
use Rattle.std.proofs.Common.{◌≡◌, ℕ, ℤ, zero, suc, ◌+◌, ◌-◌, ◌<◌, ◌≤◌, ◌≤ℤ◌, ◌⊎◌, inl, inr, Bool, true, false, List, [], ◌∷◌, refl, sym, ap, ◌∙◌, pos, ◌+ℤ◌, ◌*ℤ◌, All, arith}
use Rattle.std.specs.Prelude.{◌&&◌, ◌||◌, int_lt}
use Rattle.std.specs.Int.{int_max, int_min}
use Rattle.std.specs.List.{list_any}
use Rattle.std.proofs.lemmas.Int.{ints}
use Rattle.std.proofs.lemmas.List.Elements.{All-head, All-tail}
use Rattle.cell_base.specs.Raster.{Place}
use Rattle.geo_transform.specs.Frame.{IsFrame}
use Rattle.geo_transform.specs.Corner.{corner_of}
use Rattle.geo_transform.specs.declared.frame.Frame.{Frame}
use Rattle.wkt_text.specs.declared.geometry.Geometry.{Geometry}
use Rattle.burn_scanline.specs.Ring.{Edge, all_edges}
use Rattle.burn_scanline.specs.Centre.{is_covered}
use Rattle.burn_scanline.specs.EdgeTable.{has_length, is_row_of, meets_strip}
use Rattle.burn_scanline.specs.declared.edge_rows.SpanRule.TheVariants.{Strip}
use Rattle.burn_scanline.proofs.ColumnLemmas.{positive_is}
use Rattle.all_touched.specs.AlongCells.{IsAlongCells, IsLevel, IsUpright}
use Rattle.all_touched.specs.Touched.{corners_of, is_left_of, is_met, is_right_of, is_touched, meets_column}

-- a line between cells is not within one
past_or_before : (x : ℤ) (s c d k : ℕ) → (k ≡ (c + 1) + d) ⊎ (c ≡ k + d)
    → ((x +ℤ pos (c + 1) *ℤ pos s) ≤ℤ (x +ℤ pos k *ℤ pos s)) ⊎ ((x +ℤ pos k *ℤ pos s) ≤ℤ (x +ℤ pos c *ℤ pos s))
past_or_before x s c d k (inl past) = inl (rw past (omega (arith, ints)))
past_or_before x s c d k (inr before) = inr (rw before (omega (arith, ints)))

apart : (x : ℤ) (s c k : ℕ)
    → ((x +ℤ pos (c + 1) *ℤ pos s) ≤ℤ (x +ℤ pos k *ℤ pos s)) ⊎ ((x +ℤ pos k *ℤ pos s) ≤ℤ (x +ℤ pos c *ℤ pos s))
apart x s c k = by_order (k - (c + 1)) (c - k) refl refl
  where
    by_order : (d e : ℕ) → k - (c + 1) ≡ d → c - k ≡ e
        → ((x +ℤ pos (c + 1) *ℤ pos s) ≤ℤ (x +ℤ pos k *ℤ pos s)) ⊎ ((x +ℤ pos k *ℤ pos s) ≤ℤ (x +ℤ pos c *ℤ pos s))
    by_order (suc d) e past before = past_or_before x s c (suc d) k (inl (omega (arith, past)))
    by_order zero (suc e) past before = past_or_before x s c (suc e) k (inr (omega (arith, before)))
    by_order zero zero past before = by_end (k - c) refl
      where
        by_end : (d : ℕ) → k - c ≡ d
            → ((x +ℤ pos (c + 1) *ℤ pos s) ≤ℤ (x +ℤ pos k *ℤ pos s)) ⊎ ((x +ℤ pos k *ℤ pos s) ≤ℤ (x +ℤ pos c *ℤ pos s))
        by_end zero end = past_or_before x s c 0 k (inr (omega (arith, before, past, end)))
        by_end (suc d) end = past_or_before x s c 0 k (inl (omega (arith, before, past, end)))

not_within : (a b y low high : ℤ) → a ≡ y → b ≡ y → (high ≤ℤ y) ⊎ (y ≤ℤ low) → (int_lt (int_min a b) high && int_lt low (int_max a b)) ≡ false
not_within a b y low high at_a at_b (inl past) = grind (arith, ints)
not_within a b y low high at_a at_b (inr before) = grind (arith, ints)

-- an upright edge meets no column, a level one no row
upright_meets_no_column : (f : Frame) (e : Edge) (col : ℕ) → IsFrame f → IsUpright f e → meets_column f e col ≡ false
upright_meets_no_column f (a, b) col is upright =
    let cell = positive_is f.cell is.some_size in
    not_within a.x b.x (corner_of f 0 upright.col).0 (corner_of f 0 col).0 (corner_of f 0 (col + 1)).0 upright.start upright.end
    (rw cell.1 (apart f.xll cell.0 col upright.col))

level_meets_no_row : (f : Frame) (e : Edge) (row : ℕ) → IsFrame f → row < f.nrows → IsLevel f e → meets_strip f e row ≡ false
level_meets_no_row f (a, b) row is in_rows level =
    let cell = positive_is f.cell is.some_size in
    let more : f.nrows - row ≡ (f.nrows - (row + 1)) + 1 = omega (arith, in_rows) in
    not_within a.y b.y (corner_of f level.row 0).1 (corner_of f (row + 1) 0).1 (corner_of f row 0).1 level.start level.end
    (rw (cell.1, more) (apart f.yll cell.0 (f.nrows - (row + 1)) (f.nrows - level.row)))

and_false : (p : Bool) → (p && false) ≡ false
and_false true = refl
and_false false = refl

met_is : (p q r : Bool) → (p ≡ false) ⊎ (q ≡ false) → (p && (q && r)) ≡ false
met_is p q r (inl none) = ap (λ (t : Bool). t && (q && r)) none
met_is p q r (inr none) = ap (λ (t : Bool). p && (t && r)) none ∙ and_false p

along_meets_no_cell : (f : Frame) (e : Edge) (p : Place) → IsFrame f → p.0 < f.nrows → IsAlongCells f e → is_met f e p ≡ false
along_meets_no_cell f e p is in_rows along =
    met_is (is_row_of Strip f e p.0) (meets_column f e p.1) (list_any (is_left_of e) (corners_of f p) && list_any (is_right_of e) (corners_of f p))
    (missed along)
  where
    missed : IsAlongCells f e → (is_row_of Strip f e p.0 ≡ false) ⊎ (meets_column f e p.1 ≡ false)
    missed (inl upright) = inr (upright_meets_no_column f e p.1 is upright)
    missed (inr level) = inl (ap (λ (t : Bool). has_length e && t) (level_meets_no_row f e p.0 is in_rows level) ∙ and_false (has_length e))

none_met : (f : Frame) (p : Place) (edges : List Edge) → IsFrame f → p.0 < f.nrows → All (IsAlongCells f) edges → list_any (λ e. is_met f e p) edges ≡ false
none_met f p [] is in_rows along = refl
none_met f p (e ∷ edges) is in_rows along =
    ap (λ (t : Bool). t || list_any (λ e. is_met f e p) edges) (along_meets_no_cell f e p is in_rows (All-head (IsAlongCells f) e edges along))
    ∙ none_met f p edges is in_rows (All-tail (IsAlongCells f) e edges along)

or_false : (p : Bool) → (p || false) ≡ p
or_false true = refl
or_false false = refl

pub touched_along_cells : (f : Frame) (g : Geometry) (p : Place) → IsFrame f → All (IsAlongCells f) (all_edges g) → p.0 < f.nrows → is_touched f g p ≡ is_covered f g p
touched_along_cells f g p is along in_rows =
    ap (λ (t : Bool). is_covered f g p || t) (none_met f p (all_edges g) is in_rows along) ∙ or_false (is_covered f g p)
