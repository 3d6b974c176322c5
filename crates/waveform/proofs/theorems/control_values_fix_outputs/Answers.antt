-- A control value fixes the output, and no other function has one.
use Rattle.waveform.proofs.Control.{controlled, none_fixes}
use Rattle.waveform.proofs.theorems.control_values_fix_outputs.Goals as goal

pub returns : goal.returns
returns c = record { fixes = controlled; none = none_fixes }
