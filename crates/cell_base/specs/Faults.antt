-- Why a text is no cell, by why it is no number. This project's own.
use Rattle.fixed_coord.specs.declared.fault.NumberFault.{NumberFault}
use Rattle.fixed_coord.specs.declared.fault.NumberFault.TheVariants.{NotNumber as TextNotNumber, NotWhole as TextNotWhole, OutOfRange as TextOutOfRange}
use Rattle.cell_base.specs.declared.fault.CellFault.{CellFault}
use Rattle.cell_base.specs.declared.fault.CellFault.TheVariants.{NotNumber, NotWhole, OutOfRange}

-- the same fault of a cell
abbrev pub fault_of_text : NumberFault → CellFault
fault_of_text TextNotNumber = NotNumber
fault_of_text TextNotWhole = NotWhole
fault_of_text TextOutOfRange = OutOfRange
