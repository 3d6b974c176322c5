-- The text of the refusal of a class for an input. Assumes nothing.
use Rattle.std.specs.Prelude.{ℕ, List, ◌++◌, codes, decimal}
use Rattle.settling.specs.declared.fault.NoSuchInput.{NoSuchInput}

-- the text, with the number
abbrev pub fault_text : NoSuchInput → List ℕ
fault_text e = codes "no input has the number " ++ decimal e.input
