-- What each printed line is, and what it says of the input. Assumes nothing.
use Rattle.std.specs.Prelude.{◌≡◌, ℕ, List, ◌++◌, length, codes, decimal}
use Rattle.netlist.specs.Circuit.{PlainCircuit}
use Rattle.refusals.specs.Refusal.{refusal_text}
use Rattle.netlist.specs.Outcome.{Only, accepted, refused}
use Rattle.session.specs.declared.line.Line.{Line}
use Rattle.session.specs.declared.line.Line.TheVariants.{Circuit, No}

-- the text of a line
abbrev pub line_text : Line → List ℕ
line_text (Circuit inputs gates used) = codes "circuit " ++ (decimal inputs ++ (codes " " ++ (decimal gates ++ (codes " " ++ decimal used))))
line_text (No r) = codes "no " ++ refusal_text r

-- the line for an accepted circuit
abbrev pub accepted_line : PlainCircuit → ℕ → Line
accepted_line c used = Circuit c.inputs (length c.gates) used

-- the line tells the one outcome of these bytes
abbrev pub Tells : List ℕ → Line → Type 0
Tells bytes (Circuit inputs gates used) =
    (c : PlainCircuit) × Only bytes (accepted c used) × (Circuit inputs gates used ≡ accepted_line c used)
Tells bytes (No r) = Only bytes (refused r)
