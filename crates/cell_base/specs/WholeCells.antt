-- The whole types of cells: their ends, and what a text is read as. This project's own.
use Rattle.std.specs.Prelude.{ℕ, ℤ, ◌-◌, ◌^◌, ◌&&◌, int_le, if◌then◌else◌, List, Result, Ok, Err, pos, neg_ℤ}
use Rattle.fixed_coord.specs.Whole.{whole_of}
use Rattle.fixed_coord.specs.declared.fault.NumberFault.{NumberFault}
use Rattle.cell_base.specs.Faults.{fault_of_text}
use Rattle.cell_base.specs.declared.fault.CellFault.{CellFault}
use Rattle.cell_base.specs.declared.fault.CellFault.TheVariants.{OutOfRange}

-- the ends of the signed types of so many bits, and of the bytes

abbrev pub least_int64 : ℤ
least_int64 = neg_ℤ (pos (2 ^ 63))

abbrev pub most_int64 : ℤ
most_int64 = pos (2 ^ 63 - 1)

abbrev pub least_int32 : ℤ
least_int32 = neg_ℤ (pos (2 ^ 31))

abbrev pub most_int32 : ℤ
most_int32 = pos (2 ^ 31 - 1)

abbrev pub least_int16 : ℤ
least_int16 = neg_ℤ (pos (2 ^ 15))

abbrev pub most_int16 : ℤ
most_int16 = pos (2 ^ 15 - 1)

abbrev pub least_byte : ℤ
least_byte = pos 0

abbrev pub most_byte : ℤ
most_byte = pos (2 ^ 8 - 1)

-- what a number that was read is between two ends, as a cell by `cell`
abbrev pub between : {T : Type 0} → (ℤ → T) → ℤ → ℤ → Result ℤ NumberFault → Result T CellFault
between cell low high (Err fault) = Err (fault_of_text fault)
between cell low high (Ok v) = if int_le low v && int_le v high then Ok (cell v) else Err OutOfRange

-- a text read as a whole number between two ends
abbrev pub whole_between : {T : Type 0} → (ℤ → T) → ℤ → ℤ → List ℕ → Result T CellFault
whole_between cell low high text = between cell low high (whole_of text)
