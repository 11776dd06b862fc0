-- The laws of the five types of cells. They are lemmas, not definitions: they stand here and not in proofs/ because
-- an impl can import only from specs/. Each is proved, and none need be read.
use Rattle.std.proofs.Common.{◌≡◌, ℕ, ℤ, ◌≤◌, ◌≤ℤ◌, ◌^◌, ◌↔◌, IsTrue, Bool, true, if◌then◌else◌, Ok, Err, refl, arith, ◌∙◌, ap, pos, neg_ℤ, unsigned_abs}
use Rattle.std.specs.Prelude.{int_le, nat_eq}
use Rattle.std.specs.Ordering.{int_cmp, int_eq, nat_cmp}
use Rattle.std.proofs.lemmas.Bool.{and_from}
use Rattle.std.proofs.lemmas.Bool.Decides.{nat_tests}
use Rattle.std.proofs.lemmas.Int.{ints}
use Rattle.fixed_coord.specs.Whole.{whole_of}
use Rattle.fixed_coord.specs.Shortest.{shortest}
use Rattle.fixed_coord.proofs.ShortestLemmas.{shortest_whole, decimal_reads, shortest_reads}
use Rattle.cell_base.specs.Clamped.{clamped}
use Rattle.cell_base.specs.WholeCells.{between, whole_between, least_byte, most_byte}
use Rattle.cell_base.specs.MicroCells.{micro_of, clamped_micro, least_micro, most_micro, micro_decimals}
use Rattle.cell_base.specs.declared.fault.CellFault.TheVariants.{OutOfRange}

pub whole_eq : (a b : ℤ) → IsTrue (int_eq a b) ↔ (a ≡ b)
whole_eq a b = (λ h. grind (arith, ints), λ e. grind (arith, ints))

pub whole_order : (a b : ℤ) → int_cmp a b ≡ int_cmp a b
whole_order a b = refl

pub byte_same : (a b : ℕ) → pos a ≡ pos b → a ≡ b
byte_same a b e = cc

pub byte_eq : (a b : ℕ) → IsTrue (nat_eq a b) ↔ (pos a ≡ pos b)
byte_eq a b = (λ h. grind (arith, nat_tests), λ e. grind (arith, nat_tests))

pub byte_order : (a b : ℕ) → nat_cmp a b ≡ int_cmp (pos a) (pos b)
byte_order a b = grind (arith, nat_tests)

pub int_le-true : (a b : ℤ) → int_le a b ≡ true → a ≤ℤ b
int_le-true a b h = grind (arith, ints)

pub le-int_le : (a b : ℤ) → a ≤ℤ b → int_le a b ≡ true
le-int_le a b h = grind (arith, ints)

-- a whole number that was written is read as itself
pub reads_between : {T : Type 0} (cell : ℤ → T) (low high v : ℤ) → unsigned_abs v ≤ 10 ^ 30 → low ≤ℤ v → v ≤ℤ high
    → whole_between cell low high (shortest v 0) ≡ Ok (cell v)
reads_between cell low high v small above below =
    ap (between cell low high) (ap whole_of (shortest_whole v) ∙ decimal_reads v small)
    ∙ ap (λ (b : Bool). if b then Ok (cell v) else Err OutOfRange) (and_from (int_le low v) (int_le v high) (le-int_le low v above) (le-int_le v high below))

pub whole_reads : (low high : ℤ) → int_le (neg_ℤ (pos (10 ^ 30))) low ≡ true → int_le high (pos (10 ^ 30)) ≡ true
    → (v : ℤ) → low ≤ℤ v → v ≤ℤ high → whole_between (λ n. n) low high (shortest v 0) ≡ Ok v
whole_reads low high a b v above below =
    let lower : neg_ℤ (pos (10 ^ 30)) ≤ℤ low = int_le-true (neg_ℤ (pos (10 ^ 30))) low a in
    let upper : high ≤ℤ pos (10 ^ 30) = int_le-true high (pos (10 ^ 30)) b in
    reads_between (λ n. n) low high v (omega (arith, ints)) above below

pub byte_reads : (v : ℕ) → least_byte ≤ℤ pos v → pos v ≤ℤ most_byte
    → whole_between unsigned_abs least_byte most_byte (shortest (pos v) 0) ≡ Ok v
byte_reads v above below = reads_between unsigned_abs least_byte most_byte (pos v) (omega (arith, ints)) above below

clamped_same : (low high v : ℤ) → low ≤ℤ v → v ≤ℤ high → clamped low high v ≡ v
clamped_same low high v a b = grind (arith, ints)

pub micro_reads : (v : ℤ) → least_micro ≤ℤ v → v ≤ℤ most_micro → micro_of (shortest v micro_decimals) ≡ Ok v
micro_reads v a b = ap clamped_micro (shortest_reads v micro_decimals (omega (arith, ints))) ∙ ap Ok (clamped_same least_micro most_micro v a b)
