-- What the table of sides tells.
use Rattle.std.proofs.Common.{◌≡◌, ◌≢◌, ℕ, ◌+◌, ◌-◌, Bool, true, false, not, refl, sym, ap, ◌∙◌, arith}
use Rattle.std.specs.Prelude.{◌&&◌, if◌then◌else◌}
use Rattle.std.specs.List.{list_all}
use Rattle.std.proofs.lemmas.Bool.{false≢true}
use Rattle.cell_base.specs.Raster.{Place}
use Rattle.cell_base.proofs.ListDeciders.{all_pairs}
use Rattle.contour_segments.specs.Segments.{cross_on, sides_of}
use Rattle.contour_segments.specs.declared.segment.Cross.{Cross}
use Rattle.contour_segments.specs.declared.side.Side.{Side}
use Rattle.contour_segments.specs.declared.side.Side.TheVariants.{Top, Right, Bottom, Left}

-- the corner on the Right of one who comes in over a side, and the one on the Left, seen with y upwards
abbrev pub in_right : Side → Bool → Bool → Bool → Bool → Bool
in_right Top nw ne se sw = nw
in_right Right nw ne se sw = ne
in_right Bottom nw ne se sw = se
in_right Left nw ne se sw = sw

abbrev pub in_left : Side → Bool → Bool → Bool → Bool → Bool
in_left Top nw ne se sw = ne
in_left Right nw ne se sw = se
in_left Bottom nw ne se sw = sw
in_left Left nw ne se sw = nw

-- the high side is on the Right, where the segment comes in and where it goes out
abbrev pub is_right : Bool → Bool → Bool → Bool → Side × Side → Bool
is_right nw ne se sw s = (in_right s.0 nw ne se sw && not (in_left s.0 nw ne se sw)) && (in_left s.1 nw ne se sw && not (in_right s.1 nw ne se sw))

pub sides_right : (nw ne se sw joined : Bool) → list_all (is_right nw ne se sw) (sides_of nw ne se sw joined) ≡ true
sides_right false false false false joined = refl
sides_right false false false true joined = refl
sides_right false false true false joined = refl
sides_right false false true true joined = refl
sides_right false true false false joined = refl
sides_right false true false true true = refl
sides_right false true false true false = refl
sides_right false true true false joined = refl
sides_right false true true true joined = refl
sides_right true false false false joined = refl
sides_right true false false true joined = refl
sides_right true false true false true = refl
sides_right true false true false false = refl
sides_right true false true true joined = refl
sides_right true true false false joined = refl
sides_right true true false true joined = refl
sides_right true true true false joined = refl
sides_right true true true true joined = refl

abbrev pub other_side : Side → Side → Bool
other_side Top Top = false
other_side Right Right = false
other_side Bottom Bottom = false
other_side Left Left = false
other_side s t = true

-- no two start on one side, and no two end on one
abbrev pub apart_sides : Side × Side → Side × Side → Bool
apart_sides s t = other_side s.0 t.0 && other_side s.1 t.1

pub sides_apart : (nw ne se sw joined : Bool) → all_pairs apart_sides (sides_of nw ne se sw joined) ≡ true
sides_apart false false false false joined = refl
sides_apart false false false true joined = refl
sides_apart false false true false joined = refl
sides_apart false false true true joined = refl
sides_apart false true false false joined = refl
sides_apart false true false true true = refl
sides_apart false true false true false = refl
sides_apart false true true false joined = refl
sides_apart false true true true joined = refl
sides_apart true false false false joined = refl
sides_apart true false false true joined = refl
sides_apart true false true false true = refl
sides_apart true false true false false = refl
sides_apart true false true true joined = refl
sides_apart true true false false joined = refl
sides_apart true true false true joined = refl
sides_apart true true true false joined = refl
sides_apart true true true true joined = refl

-- two sides of one lattice cell are two crossings
pub crosses_apart : (p : Place) (s t : Side) → other_side s t ≡ true → cross_on p s ≢ cross_on p t
crosses_apart p Top Top is same = false≢true is
crosses_apart p Right Right is same = false≢true is
crosses_apart p Bottom Bottom is same = false≢true is
crosses_apart p Left Left is same = false≢true is
crosses_apart p Top Right is same = false≢true (ap (λ (x : Cross). x.down) same)
crosses_apart p Top Bottom is same = let rows : p.0 ≡ p.0 + 1 = ap (λ (x : Cross). x.row) same in omega (arith, rows)
crosses_apart p Top Left is same = false≢true (ap (λ (x : Cross). x.down) same)
crosses_apart p Right Top is same = false≢true (sym (ap (λ (x : Cross). x.down) same))
crosses_apart p Right Bottom is same = false≢true (sym (ap (λ (x : Cross). x.down) same))
crosses_apart p Right Left is same = let cols : p.1 + 1 ≡ p.1 = ap (λ (x : Cross). x.col) same in omega (arith, cols)
crosses_apart p Bottom Top is same = let rows : p.0 + 1 ≡ p.0 = ap (λ (x : Cross). x.row) same in omega (arith, rows)
crosses_apart p Bottom Right is same = false≢true (ap (λ (x : Cross). x.down) same)
crosses_apart p Bottom Left is same = false≢true (ap (λ (x : Cross). x.down) same)
crosses_apart p Left Top is same = false≢true (sym (ap (λ (x : Cross). x.down) same))
crosses_apart p Left Right is same = let cols : p.1 ≡ p.1 + 1 = ap (λ (x : Cross). x.col) same in omega (arith, cols)
crosses_apart p Left Bottom is same = false≢true (sym (ap (λ (x : Cross). x.down) same))

-- the lattice cell into which a segment comes at a crossing, by which centres are high, the others low
abbrev pub cell_at : (Place → Bool) → Cross → Place
cell_at high x = if x.down then (if high (x.row, x.col) then (x.row, x.col - 1) else (x.row, x.col)) else (if high (x.row, x.col) then (x.row, x.col) else (x.row - 1, x.col))

-- the side tells the lattice cell
pub enters : (high : Place → Bool) (r c : ℕ) (s : Side) → in_right s (high (r, c)) (high (r, c + 1)) (high (r + 1, c + 1)) (high (r + 1, c)) ≡ true → in_left s (high (r, c)) (high (r, c + 1)) (high (r + 1, c + 1)) (high (r + 1, c)) ≡ false → cell_at high (cross_on (r, c) s) ≡ (r, c)
enters high r c Top is_right is_left = ap (λ (b : Bool). if b then (r, c) else (r - 1, c)) is_right
enters high r c Right is_right is_left = ap (λ (b : Bool). if b then (r, c + 1 - 1) else (r, c + 1)) is_right ∙ ap (λ (n : ℕ). (r, n)) (omega arith)
enters high r c Bottom is_right is_left = ap (λ (b : Bool). if b then (r + 1, c) else (r + 1 - 1, c)) is_left ∙ ap (λ (n : ℕ). (n, c)) (omega arith)
enters high r c Left is_right is_left = ap (λ (b : Bool). if b then (r, c - 1) else (r, c)) is_left

not_is : (b c : Bool) → b ≡ c → not b ≡ not c
not_is b c is = ap not is

-- the other way round where a segment goes out
pub leaves : (high : Place → Bool) (r c : ℕ) (s : Side) → in_left s (high (r, c)) (high (r, c + 1)) (high (r + 1, c + 1)) (high (r + 1, c)) ≡ true → in_right s (high (r, c)) (high (r, c + 1)) (high (r + 1, c + 1)) (high (r + 1, c)) ≡ false → cell_at (λ p. not (high p)) (cross_on (r, c) s) ≡ (r, c)
leaves high r c Top is_left is_right = enters (λ p. not (high p)) r c Top (ap not is_right) (ap not is_left)
leaves high r c Right is_left is_right = enters (λ p. not (high p)) r c Right (ap not is_right) (ap not is_left)
leaves high r c Bottom is_left is_right = enters (λ p. not (high p)) r c Bottom (ap not is_right) (ap not is_left)
leaves high r c Left is_left is_right = enters (λ p. not (high p)) r c Left (ap not is_right) (ap not is_left)
