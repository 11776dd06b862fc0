-- Walking along linked cycles and listing their rings.
use Rattle.std.proofs.Common.{◌≡◌, ℕ, zero, suc, ◌+◌, ◌<◌, ◌≤◌, inl, inr, true, List, [], ◌∷◌, length, Option, Some, None, get_or, drop, refl, sym, ap, ◌∙◌, arith}
use Rattle.std.specs.Prelude.{map, nat_lt, option_map, slice_get, slice_index}
use Rattle.std.proofs.lemmas.Bool.{cases_lt}
use Rattle.std.proofs.lemmas.Option.{same_Some}
use Rattle.ring_faces.specs.Ring.{Ring}
use Rattle.ring_faces.specs.LatticePolygon.{Polygon, rings_of}
use Rattle.ring_faces.specs.declared.lists.CycleLists.{CycleLists}
use Rattle.ring_faces.specs.Inner.Chains.{AreRising, chain_from, polygon_from, polygons_of, rings_from}
use Rattle.ring_faces.proofs.ChainLemmas.{below_test, not_below}
use Rattle.ring_faces.proofs.ListedLemmas.{map_get}

-- the links need no more turns than there are

chain_past : (links : List ℕ) (n at : ℕ) → length links ≤ at → chain_from links n at ≡ []
chain_past links zero at past = refl
chain_past links (suc n) at past = rw (not_below at (length links) past) refl

chain_enough : (links : List ℕ) → AreRising links → (m n at : ℕ) → length links ≤ m + at → length links ≤ n + at → chain_from links m at ≡ chain_from links n at
chain_enough links rising zero n at one two = sym (chain_past links n at (omega arith))
chain_enough links rising (suc m) zero at one two = chain_past links (suc m) at (omega arith)
chain_enough links rising (suc m) (suc n) at one two = elim (cases_lt at (length links)) [
  | inr past ↦ chain_past links (suc m) at past ∙ sym (chain_past links (suc n) at past)
  | inl below ↦
      let test = below_test at (length links) below in
      let up = rising at below in
      let rest = chain_enough links rising m n (slice_index links at) (omega (arith, up.0)) (omega (arith, up.0)) in
      rw test (ap (λ (is : List ℕ). at ∷ is) rest)
]

chain_next : (links : List ℕ) → AreRising links → (at : ℕ) → at < length links
    → chain_from links (length links) at ≡ at ∷ chain_from links (length links) (slice_index links at)
chain_next links rising at below =
    let n = length links in
    let up = rising at below in
    chain_enough links rising n (suc n) at (omega arith) (omega arith) ∙ opened n (below_test at n below)
  where
    opened : (n : ℕ) → nat_lt at (length links) ≡ true → chain_from links (suc n) at ≡ at ∷ chain_from links n (slice_index links at)
    opened n test = rw test refl

-- the rings that are left

pub rings_none : (ring : ℕ → Ring) (links : List ℕ) (at : ℕ) → length links ≤ at → rings_from ring links at ≡ []
rings_none ring links at past = ap (map ring) (chain_past links (length links) at past)

pub rings_next : (ring : ℕ → Ring) (links : List ℕ) (at : ℕ) → AreRising links → at < length links
    → rings_from ring links at ≡ ring at ∷ rings_from ring links (slice_index links at)
rings_next ring links at rising within = ap (map ring) (chain_next links rising at within)

-- the rings of a component
pub rings_listed : (ring : ℕ → Ring) (lists : CycleLists) (k first : ℕ) → AreRising lists.links.items
    → slice_get lists.firsts.items k ≡ Some first → first < length lists.links.items
    → option_map rings_of (slice_get (polygons_of ring lists) k) ≡ Some (rings_from ring lists.links.items first)
rings_listed ring lists k first rising at within =
    ap (option_map rings_of) (map_get (polygon_from ring lists.links.items) lists.firsts.items k first at)
    ∙ ap (λ (rs : List Ring). Some rs) (sym (rings_next ring lists.links.items first rising within))

-- a polygon by its rings
pub polygon_is : (found : Option Polygon) (shell : Ring) (holes : List Ring) → option_map rings_of found ≡ Some (shell ∷ holes)
    → found ≡ Some (record { shell = shell; holes = holes })
polygon_is None shell holes is = absurd cc
polygon_is (Some polygon) shell holes is =
    let same : polygon.shell ∷ polygon.holes ≡ shell ∷ holes = same_Some _ _ is in
    let make : List Ring → Polygon = λ rings. record { shell = get_or rings 0 []; holes = drop 1 rings } in
    ap (λ (rings : List Ring). Some (make rings)) same
