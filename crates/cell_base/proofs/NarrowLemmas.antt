-- A whole number read first between wide ends and then between narrow ones.
use Rattle.std.proofs.Common.{◌≡◌, ℤ, ◌≤ℤ◌, Bool, true, false, ◌&&◌, if◌then◌else◌, Result, Ok, Err, refl, arith, sym, ◌∙◌, ap, inl, inr}
use Rattle.std.specs.Prelude.{int_le}
use Rattle.std.proofs.lemmas.Bool.{and_parts, and_from, cases_Bool, both_ways}
use Rattle.std.proofs.lemmas.Int.{ints}
use Rattle.fixed_coord.specs.declared.fault.NumberFault.{NumberFault}
use Rattle.cell_base.specs.Faults.{fault_of_text}
use Rattle.cell_base.specs.WholeCells.{between}
use Rattle.cell_base.specs.Inner.Laws.{int_le-true, le-int_le}
use Rattle.cell_base.specs.declared.fault.CellFault.{CellFault}
use Rattle.cell_base.specs.declared.fault.CellFault.TheVariants.{OutOfRange}

-- between narrow ends is between wide ones
wider : (low high least greatest v : ℤ) → least ≤ℤ low → high ≤ℤ greatest → (int_le low v && int_le v high) ≡ true → (int_le least v && int_le v greatest) ≡ true
wider low high least greatest v a b h =
    let parts = and_parts (int_le low v) (int_le v high) h in
    let x : low ≤ℤ v = int_le-true low v parts.0 in
    let y : v ≤ℤ high = int_le-true v high parts.1 in
    and_from (int_le least v) (int_le v greatest) (le-int_le least v (omega (arith, ints))) (le-int_le v greatest (omega (arith, ints)))

same_ok : (n v : ℤ) (b : Bool) → ◌≡◌ {A = Result ℤ CellFault} (Ok n) (if b then Ok v else Err OutOfRange) → n ≡ v
same_ok n v true e = cc
same_ok n v false e = absurd cc

refused : (v : ℤ) (f : CellFault) (b : Bool) → ◌≡◌ {A = Result ℤ CellFault} (Err f) (if b then Ok v else Err OutOfRange) → (b ≡ false) × (f ≡ OutOfRange)
refused v f true e = absurd cc
refused v f false e = (refl, cc)

same_err : (f g : CellFault) → ◌≡◌ {A = Result ℤ CellFault} (Err f) (Err g) → f ≡ g
same_err f g e = cc

pub narrow_ok : {T : Type 0} (cell : ℤ → T) (low high least greatest : ℤ) (w : Result ℤ NumberFault) (n : ℤ) → Ok n ≡ between (λ k. k) least greatest w → between cell low high (Ok n) ≡ between cell low high w
narrow_ok cell low high least greatest (Err f) n e = absurd cc
narrow_ok cell low high least greatest (Ok v) n e = ap (λ k. between cell low high (Ok k)) (same_ok n v (int_le least v && int_le v greatest) e)

pub narrow_err : {T : Type 0} (cell : ℤ → T) (low high least greatest : ℤ) (w : Result ℤ NumberFault) (f : CellFault) → least ≤ℤ low → high ≤ℤ greatest → Err f ≡ between (λ k. k) least greatest w → Err f ≡ between cell low high w
narrow_err cell low high least greatest (Err g) f a b e = ap Err (same_err f (fault_of_text g) e)
narrow_err cell low high least greatest (Ok v) f a b e =
    let wide = refused v f (int_le least v && int_le v greatest) e in
    elim (cases_Bool (int_le low v && int_le v high)) [
      | inl within ↦ absurd (both_ways (int_le least v && int_le v greatest) wide.0 (wider low high least greatest v a b within))
      | inr without ↦ ap Err wide.1 ∙ sym (ap (λ (t : Bool). if t then Ok (cell v) else Err OutOfRange) without)
    ]
