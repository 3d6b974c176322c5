-- One more net is settled. Assumes nothing.
use Rattle.std.proofs.Common.{◌≡◌, ℕ, ◌+◌, ◌<◌, ◌≤◌, List, length, take, set, sym, refl, ap, ◌∙◌}
use Rattle.std.proofs.lemmas.List.{take_all}
use Rattle.classes.specs.declared.class.Class.{Class}
use Rattle.netlist.specs.declared.circuit.Circuit.{Circuit}
use Rattle.netlist.specs.Circuit.{PlainCircuit}
use Rattle.netlist.specs.View.{plain}
use Rattle.runs.specs.declared.row.Row.{Row}
use Rattle.ordering.specs.declared.source.OrderSource.{Ghosts}
use Rattle.settling_theory.specs.Settled.{Asks, row_for, settled_to}
use Rattle.settling_theory.proofs.Prefix.{grown_more}
use Rattle.settling.specs.Asked.{asked}

-- the row of net n over a circuit of the program
abbrev row_by : {S : Type 0} → Ghosts S → S → Circuit → List Class → List Row → ℕ → Row
row_by g s c classes rows n = row_for (asked g s c) (plain c) classes rows n

-- the row of net n is written over rows of which those below n are settled
pub settled_more : {S : Type 0} (g : Ghosts S) (s : S) (c start : Circuit) (cs ds : List Class) (rows after : List Row) (n : ℕ) → n < length rows
    → c ≡ start → cs ≡ ds → take n rows ≡ settled_to (asked g s start) (plain start) ds n
    → after ≡ set rows n (row_for (asked g s c) (plain c) cs (take n rows) n) → take (n + 1) after ≡ settled_to (asked g s start) (plain start) ds (n + 1)
settled_more g s c start cs ds rows after n l e f h a =
    ap (take (n + 1)) a
    ∙ grown_more (row_by g s start ds) (settled_to (asked g s start) (plain start) ds) refl (λ n. refl) rows n _ l
    (ap (λ (x : Circuit). row_by g s x cs (take n rows) n) e ∙ ap (λ (x : List Class). row_by g s start x (take n rows) n) f) h

-- all rows are settled
pub settled_all : (asks : Asks) (c : PlainCircuit) (classes : List Class) (rows : List Row) (m n : ℕ) → length rows ≤ n → n ≡ m
    → take n rows ≡ settled_to asks c classes n → rows ≡ settled_to asks c classes m
settled_all asks c classes rows m n l e h = sym (take_all n rows l) ∙ h ∙ ap (settled_to asks c classes) e
