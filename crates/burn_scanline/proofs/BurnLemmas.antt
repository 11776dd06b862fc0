-- Grids that change piece by piece.
use Rattle.std.proofs.Common.{◌≡◌, ℕ, zero, suc, ◌+◌, ◌<◌, ◌≤◌, inl, inr, Bool, true, false, List, Some, length, take, get_or, add-one, refl, ap, sym, ◌∙◌, arith}
use Rattle.std.specs.Prelude.{◌&&◌, ◌||◌, ◌==◌, nat_lt, slice_get}
use Rattle.std.proofs.lemmas.Bool.{cases_Bool, false_from_ne_true, or_parts, true≢false}
use Rattle.std.proofs.lemmas.List.Folds.{list_any_more}
use Rattle.std.proofs.lemmas.Option.{get_or_from_slice_get, slice_get-get_or}
use Rattle.cell_base.specs.Raster.{Place, Raster}
use Rattle.cell_base.proofs.PlaceLemmas.{element_at}
use Rattle.burn_scanline.specs.Change.{Changes, is_marked}
use Rattle.burn_scanline.specs.Runs.{Run, AreApart, has_cell, is_in_runs}
use Rattle.burn_scanline.proofs.RunLemmas.{cell_once}

-- one piece after another, if no cell is in both
pub changes_more : {T : Type 0} (change : T → T → Type 0) (a b c : Place → Bool) (old mid new : Raster T) → Changes change a old mid → Changes change b mid new → ((p : Place) → a p ≡ true → b p ≡ false) → ((p : Place) → c p ≡ (a p || b p)) → Changes change c old new
changes_more change a b c old mid new one two apart both = record {
  ncols = two.ncols ∙ one.ncols;
  nrows = two.nrows ∙ one.nrows;
  shape = two.shape;
  on = λ p before after is at_old at_new. elim (cases_Bool (a p)) [
    | inl in_a ↦ one.on p before after in_a at_old (sym (two.off p (apart p in_a)) ∙ at_new)
    | inr not_a ↦
        let in_b : b p ≡ true = sym (ap (λ (x : Bool). x || b p) not_a) ∙ sym (both p) ∙ is in
        two.on p before after in_b (one.off p not_a ∙ at_old) at_new
  ];
  off = λ p is.
      let parts = or_parts (a p) (b p) (sym (both p) ∙ is) in
      two.off p parts.1 ∙ one.off p parts.0;
}

-- the cells of the runs before one

pub runs_more : (runs : List Run) (i : ℕ) (run : Run) (p : Place) → slice_get runs i ≡ Some run → i < length runs → is_in_runs (take (i + 1) runs) p ≡ (is_in_runs (take i runs) p || has_cell p run)
runs_more runs i run p at within = list_any_more (has_cell p) runs i run within ∙ ap (λ (r : Run). is_in_runs (take i runs) p || has_cell p r) (get_or_from_slice_get runs i run run at)

both_false : (a b : Bool) → a ≡ false → b ≡ false → (a || b) ≡ false
both_false a b is_a is_b = ap (λ (x : Bool). x || b) is_a ∙ is_b

runs_before : (runs : List Run) → AreApart runs → (i n : ℕ) (run : Run) (p : Place) → i ≤ n → n < length runs → slice_get runs n ≡ Some run → has_cell p run ≡ true → is_in_runs (take i runs) p ≡ false
runs_before runs apart zero n run p less within at is = refl
runs_before runs apart (suc i) n run p less within at is =
    let first : i < length runs = omega (arith, less, within) in
    let a = element_at runs i first in
    let not_in : has_cell p a.0 ≡ false = false_from_ne_true (has_cell p a.0) (λ in_a. true≢false (sym is ∙ cell_once p a.0 run (apart.order i n a.0 run (omega (arith, less)) a.1 at) in_a)) in
    ap (λ (k : ℕ). is_in_runs (take k runs) p) (sym (add-one i)) ∙ runs_more runs i a.0 p a.1 first ∙ both_false (is_in_runs (take i runs) p) (has_cell p a.0) (runs_before runs apart i n run p (omega (arith, less)) within at is) not_in

pub runs_apart : (runs : List Run) → AreApart runs → (i : ℕ) (run : Run) (p : Place) → i < length runs → slice_get runs i ≡ Some run → is_in_runs (take i runs) p ≡ true → has_cell p run ≡ false
runs_apart runs apart i run p within at is = false_from_ne_true (has_cell p run) (λ here. true≢false (sym is ∙ runs_before runs apart i i run p (omega arith) within at here))

-- the marked cells of a row before a column

abbrev pub row_piece : Raster Bool → ℕ → ℕ → Place → Bool
row_piece mask row col p = ((row == p.0) && nat_lt p.1 col) && is_marked mask p

-- the marked cells before a row

abbrev pub rows_piece : Raster Bool → ℕ → Place → Bool
rows_piece mask row p = nat_lt p.0 row && is_marked mask p

-- one run more
pub runs_step : {T : Type 0} (change : T → T → Type 0) (runs : List Run) (i : ℕ) (run : Run) (old mid new : Raster T) → AreApart runs → i < length runs → Changes change (is_in_runs (take i runs)) old mid → Changes change (λ p. has_cell p run) mid new → slice_get runs i ≡ Some run → Changes change (is_in_runs (take (i + 1) runs)) old new
runs_step change runs i run old mid new apart within before more at =
    changes_more change (is_in_runs (take i runs)) (λ p. has_cell p run) (is_in_runs (take (i + 1) runs)) old mid new before more (λ p. runs_apart runs apart i run p within at) (λ p. runs_more runs i run p at within)

pub element_of : {A : Type 0} (xs ys : List A) (i : ℕ) (d : A) → xs ≡ ys → i < length xs → slice_get ys i ≡ Some (get_or xs i d)
element_of {A} xs ys i d same within = ap (λ (zs : List A). slice_get zs i) (sym same) ∙ slice_get-get_or xs i d within
