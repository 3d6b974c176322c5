-- What is printed of a line's fault. Assumes nothing.
use Rattle.std.specs.Prelude.{ℕ, List, codes}
use Rattle.spacinglines.specs.declared.fault.LineFault.{LineFault}
use Rattle.spacinglines.specs.declared.fault.LineFault.TheVariants.{NotThree, First, Second, Third}

-- the words for each fault
abbrev pub fault_text : LineFault → List ℕ
fault_text NotThree = codes "not three numbers"
fault_text First = codes "the first is no number of one byte"
fault_text Second = codes "the second is no number of one byte"
fault_text Third = codes "the third is no signed number of four bytes"
