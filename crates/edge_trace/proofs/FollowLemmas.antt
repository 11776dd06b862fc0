-- What follows a side among all sides of components.
use Rattle.std.proofs.Common.{◌≡◌, ℕ, zero, suc, ◌+◌, ◌*◌, ◌/◌, ◌%◌, ◌<◌, ◌≤◌, inl, inr, Bool, false, List, Some, refl, ap, sym, ◌∙◌, subst, arith}
use Rattle.std.specs.Prelude.{slice_get}
use Rattle.std.proofs.lemmas.Bool.{false_from_ne_true}
use Rattle.std.proofs.lemmas.Option.{same_Some}
use Rattle.cell_base.specs.Raster.{Place}
use Rattle.region_label.specs.Labelling.{RegionTable, IsInRegion}
use Rattle.edge_trace.specs.Edge.{Corner}
use Rattle.edge_trace.specs.Inner.Sides.{AreSides, IsSide, side_number}
use Rattle.edge_trace.specs.Inner.Links.{AreTurns, IsFollower, IsLeft, IsRight, IsStraight, IsThere}
use Rattle.edge_trace.specs.declared.links.Turns.{Turns}
use Rattle.edge_trace.proofs.CornerLemmas.{EndsAt, IsAt, col_at, has_at, in_number, in_side, left_number, number_at, out_number, out_side, out_side_of, right_number, row_at, side_in, side_out, straight_number}
use Rattle.edge_trace.proofs.NumberLemmas.{number_side, place_number, same_number}
use Rattle.edge_trace.proofs.TurnLemmas.{IsIn, IsOut, Leads, across, back, onward}

-- all sides of components, by number
pub record AreAllSides (regions : RegionTable) (stride : ℕ) (numbers owners : List ℕ) : Type 0 where
  pub bound : ℕ
  pub sides : AreSides regions stride numbers owners bound
  pub all : (k side : ℕ) (cell : Place) → IsSide regions k cell side → side_number stride cell side < bound
  pub narrow : (k : ℕ) (cell : Place) → IsInRegion regions k cell → cell.1 + 2 < stride

few_out : (j : ℕ) → out_side j < 4
few_out zero = omega arith
few_out (suc zero) = omega arith
few_out (suc (suc zero)) = omega arith
few_out (suc (suc (suc j))) = omega arith

few_in : (j : ℕ) → in_side j < 4
few_in zero = omega arith
few_in (suc zero) = omega arith
few_in (suc (suc zero)) = omega arith
few_in (suc (suc (suc j))) = omega arith

few_across : (j : ℕ) → across j < 4
few_across zero = omega arith
few_across (suc zero) = omega arith
few_across (suc (suc zero)) = omega arith
few_across (suc (suc (suc j))) = omega arith

few_onward : (j : ℕ) → onward j < 4
few_onward zero = omega arith
few_onward (suc zero) = omega arith
few_onward (suc (suc zero)) = omega arith
few_onward (suc (suc (suc j))) = omega arith

onward_across : (j : ℕ) → onward (across j) ≡ back j
onward_across zero = refl
onward_across (suc zero) = refl
onward_across (suc (suc zero)) = refl
onward_across (suc (suc (suc j))) = refl

onward_onward : (j : ℕ) → onward (onward j) ≡ across j
onward_onward zero = refl
onward_onward (suc zero) = refl
onward_onward (suc (suc zero)) = refl
onward_onward (suc (suc (suc j))) = refl

col_narrow : (corner : Corner) (j : ℕ) → col_at corner j ≤ corner.1 + 1
col_narrow corner zero = omega arith
col_narrow corner (suc zero) = omega arith
col_narrow corner (suc (suc zero)) = omega arith
col_narrow corner (suc (suc (suc j))) = omega arith

-- a side whose number stands somewhere, told by its corner
pub record IsOutAt (regions : RegionTable) (stride : ℕ) (owners : List ℕ) (i k : ℕ) (corner : Corner) (m : ℕ) : Type 0 where
  pub cell : Place
  pub at : IsAt corner m cell
  pub is : IsSide regions k cell (out_side m)
  pub owner_at : slice_get owners i ≡ Some k

pub out_at : (regions : RegionTable) (stride : ℕ) (numbers owners : List ℕ) (i k : ℕ) (corner : Corner) (m : ℕ) → AreAllSides regions stride numbers owners → corner.1 + 1 < stride → IsThere numbers owners k (out_number stride corner m) i → IsOutAt regions stride owners i k corner m
out_at regions stride numbers owners i k corner m whole narrow there =
    let each = whole.sides.each i (out_number stride corner m) there.0 in
    let owner : each.owner ≡ k = same_Some each.owner k (sym each.owner_at ∙ there.1) in
    let same = same_number stride (each.cell.0 + 1) (each.cell.1 + 1) (row_at corner m) (col_at corner m) each.side (out_side m) each.is.few (few_out m) (omega (arith, whole.narrow each.owner each.cell each.is.inside)) (omega (arith, col_narrow corner m, narrow)) (sym each.number_is) in
    record {
      cell = each.cell;
      at = record { row = same.0; col = same.1 };
      is = subst (λ (n : ℕ). IsSide regions n each.cell (out_side m)) owner (subst (λ (n : ℕ). IsSide regions each.owner each.cell n) same.2 each.is);
      owner_at = there.1;
    }

present : (regions : RegionTable) (stride : ℕ) (numbers owners : List ℕ) (i k : ℕ) (corner : Corner) (m : ℕ) → AreAllSides regions stride numbers owners → corner.1 + 1 < stride → m < 4 → IsThere numbers owners k (out_number stride corner m) i → IsOut (has_at regions k corner) m
present regions stride numbers owners i k corner m whole narrow few there =
    let out = out_at regions stride numbers owners i k corner m whole narrow there in
    side_out regions k corner m out.cell few out.at out.is

-- a side that begins at a corner stands somewhere
found : (regions : RegionTable) (stride : ℕ) (numbers owners : List ℕ) (k : ℕ) (corner : Corner) (m : ℕ) → AreAllSides regions stride numbers owners → m < 4 → IsOut (has_at regions k corner) m → (i : ℕ) × IsThere numbers owners k (out_number stride corner m) i
found regions stride numbers owners k corner m whole few out =
    let side = out_side_of regions k corner m few out in
    let at = whole.sides.every k (out_side m) side.0 side.2 (whole.all k (out_side m) side.0 side.2) in
    (at.0, (at.1 ∙ ap (λ (n : ℕ). Some n) (number_at stride corner m side.0 (out_side m) side.1), at.2))

-- the follower begins at the corner, at the place to which the edge leads, and the way tells where it stands and its side
pub record LeadsTo (regions : RegionTable) (stride : ℕ) (numbers owners : List ℕ) (k : ℕ) (corner : Corner) (j way : ℕ) : Type 0 where
  pub place : ℕ
  pub few : place < 4
  pub there : IsThere numbers owners k (out_number stride corner place) (way / 4)
  pub side : way % 4 ≡ out_number stride corner place % 4
  pub leads : Leads (has_at regions k corner) j place

there_is : (numbers owners : List ℕ) (k t u n : ℕ) → t ≡ u → IsThere numbers owners k t n → IsThere numbers owners k u n
there_is numbers owners k t u n same there = (there.0 ∙ ap (λ (x : ℕ). Some x) same, there.1)

pub follower_leads : (regions : RegionTable) (stride : ℕ) (numbers owners : List ℕ) (k : ℕ) (corner : Corner) (j : ℕ) (cell : Place) (side way : ℕ) (turns : Turns) → AreAllSides regions stride numbers owners → EndsAt corner j cell side → IsSide regions k cell side → corner.1 + 1 < stride → AreTurns stride (side_number stride cell side) turns → IsFollower numbers owners k turns way → LeadsTo regions stride numbers owners k corner j way
follower_leads regions stride numbers owners k corner j cell side way turns whole ends is narrow are follower =
    let b : ℕ → Bool = has_at regions k corner in
    let number : side_number stride cell side ≡ in_number stride corner j = number_at stride corner j cell side ends.at ∙ ap (λ (s : ℕ). place_number stride (row_at corner j) (col_at corner j) s) ends.side_is in
    let quarter : side_number stride cell side % 4 ≡ in_side j = ap (λ (x : ℕ). x % 4) number ∙ number_side (row_at corner j * stride + col_at corner j) (in_side j) (few_in j) in
    let right : turns.right ≡ out_number stride corner (across j) = right_number stride corner j turns.right ends.few (subst (λ (x : ℕ). IsRight stride (in_side j) x turns.right) number (subst (λ (s : ℕ). IsRight stride s (side_number stride cell side) turns.right) quarter are.right)) in
    let straight : turns.straight ≡ out_number stride corner (onward j) = straight_number stride corner j turns.straight ends.few (subst (λ (x : ℕ). IsStraight stride (in_side j) x turns.straight) number (subst (λ (s : ℕ). IsStraight stride s (side_number stride cell side) turns.straight) quarter are.straight)) in
    let left : turns.left ≡ out_number stride corner j = left_number stride corner j turns.left ends.few (subst (λ (x : ℕ). IsLeft (in_side j) x turns.left) number (subst (λ (s : ℕ). IsLeft s (side_number stride cell side) turns.left) quarter are.left)) in
    let inward : IsIn b j = side_in regions k corner j cell ends.few ends.at (subst (λ (s : ℕ). IsSide regions k cell s) ends.side_is is) in
    elim follower [
      | inl there ↦
          let at = there_is numbers owners k turns.right (out_number stride corner (across j)) (way / 4) right there.0 in
          record {
            place = across j;
            few = few_across j;
            there = at;
            side = there.1 ∙ ap (λ (x : ℕ). x % 4) right;
            leads = inl (refl, (present regions stride numbers owners (way / 4) k corner (across j) whole narrow (few_across j) at).0);
          }
      | inr other ↦
          let no_across : b (across j) ≡ false = false_from_ne_true (b (across j)) (λ there.
          let again = found regions stride numbers owners k corner (across j) whole (few_across j) (there, ap b (onward_across j) ∙ inward.1) in
          other.0 again.0 (there_is numbers owners k (out_number stride corner (across j)) turns.right again.0 (sym right) again.1)) in
          elim other.1 [
            | inl there ↦
                let at = there_is numbers owners k turns.straight (out_number stride corner (onward j)) (way / 4) straight there.0 in
                record {
                  place = onward j;
                  few = few_onward j;
                  there = at;
                  side = there.1 ∙ ap (λ (x : ℕ). x % 4) straight;
                  leads = inr (inl (refl, no_across, (present regions stride numbers owners (way / 4) k corner (onward j) whole narrow (few_onward j) at).0));
                }
            | inr last ↦
                let no_onward : b (onward j) ≡ false = false_from_ne_true (b (onward j)) (λ there.
                let again = found regions stride numbers owners k corner (onward j) whole (few_onward j) (there, ap b (onward_onward j) ∙ no_across) in
                last.0 again.0 (there_is numbers owners k (out_number stride corner (onward j)) turns.straight again.0 (sym straight) again.1)) in
                let at = found regions stride numbers owners k corner j whole ends.few (inward.0, no_onward) in
                let place : at.0 ≡ way / 4 = last.1.0 at.0 (there_is numbers owners k (out_number stride corner j) turns.left at.0 (sym left) at.1) in
                record {
                  place = j;
                  few = ends.few;
                  there = subst (λ (i : ℕ). IsThere numbers owners k (out_number stride corner j) i) place at.1;
                  side = last.1.1 ∙ ap (λ (x : ℕ). x % 4) left;
                  leads = inr (inr (refl, no_across, no_onward));
                }
          ]
    ]
