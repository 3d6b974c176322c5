-- What is printed of the separation that a source is given. Assumes nothing.
use Rattle.std.specs.Prelude.{List, ℕ, ◌++◌, Ok, Err, Result, codes, decimal}
use Rattle.separations.specs.declared.fault.SeparationFault.{SeparationFault}
use Rattle.separations.specs.Fault.{told}

-- `ok`, or `no` and the number of the refusal
abbrev pub reply_text : {U : Type 0} → Result U SeparationFault → List ℕ
reply_text (Ok u) = codes "ok"
reply_text (Err fault) = codes "no " ++ decimal (told fault).number
