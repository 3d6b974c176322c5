-- What is printed of the answer to a line. Assumes nothing.
use Rattle.std.specs.Prelude.{ℕ, ◌++◌, List, Option, Some, Ok, Err, Result, codes}
use Rattle.std.specs.Fmt.{decimal, ◌++?◌}

-- the answer's own text, or the line's number and the text of what is wrong
abbrev pub answer_text : {T E : Type 0} → (T → Option (List ℕ)) → (E → Option (List ℕ)) → ℕ → Result T E → Option (List ℕ)
answer_text answered wrong number (Ok value) = answered value
answer_text answered wrong number (Err fault) = Some (codes "line " ++ decimal number ++ codes ": ") ++? wrong fault
