-- The cells of six decimals: their ends, and what a text is read as. This project's own.
use Rattle.std.specs.Prelude.{ℕ, ℤ, ◌^◌, ◌≤ℤ◌, List, Result, Ok, Err, pos, neg_ℤ}
use Rattle.fixed_coord.specs.Scaled.{scaled_of}
use Rattle.fixed_coord.specs.declared.fault.NumberFault.{NumberFault}
use Rattle.cell_base.specs.Clamped.{clamped}
use Rattle.cell_base.specs.Faults.{fault_of_text}
use Rattle.cell_base.specs.declared.fault.CellFault.{CellFault}

-- how many decimals a Micro has
abbrev pub micro_decimals : ℕ
micro_decimals = 6

-- the ends of its units

abbrev pub most_micro : ℤ
most_micro = pos (10 ^ 18)

abbrev pub least_micro : ℤ
least_micro = neg_ℤ most_micro

-- a number of units that a Micro may have
pub record IsMicro (units : ℤ) : Type 0 where
  pub low : least_micro ≤ℤ units
  pub high : units ≤ℤ most_micro

-- a number that was read, or the nearer end
abbrev pub clamped_micro : Result ℤ NumberFault → Result ℤ CellFault
clamped_micro (Err fault) = Err (fault_of_text fault)
clamped_micro (Ok v) = Ok (clamped least_micro most_micro v)

-- a text read as a Micro
abbrev pub micro_of : List ℕ → Result ℤ CellFault
micro_of text = clamped_micro (scaled_of micro_decimals text)
