-- The fault of a line that has an operand with no piece.
use Rattle.script.specs.declared.reading.NoPiece.{NoPiece}
use Rattle.script.specs.declared.reading.NoPiece.TheVariants as no
use Rattle.answers.specs.declared.Fault.{Fault}
use Rattle.answers.specs.declared.Fault.TheVariants as fault

-- a text that is none; or its bytes are more than there is room for, so that the operand is too long
abbrev pub fault_of : NoPiece → Fault
fault_of no.Malformed = fault.NoPiece
fault_of no.TooLong = fault.LongOperand
