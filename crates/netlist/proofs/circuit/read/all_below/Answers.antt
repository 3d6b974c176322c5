-- `all` asks of each pin what the definition asks.
use Rattle.std.proofs.Common.{◌≡◌, ℕ, ◌&&◌, ltb, List, refl, rules, tests}
use Rattle.std.specs.List.{list_all}
use Rattle.std.proofs.lemmas.Iterator.{YieldsList-from_slice}
use Rattle.std.proofs.lemmas.Iterator.Search.{all_from_yields_List}
use Rattle.std.proofs.lemmas.List.Recursion.{same_from_clauses}
use Rattle.netlist.specs.Circuit.{all_below}
use Rattle.netlist.proofs.circuit.read.all_below.Goals as goal

all_below-is : (limit : ℕ) (pins : List ℕ) → all_below limit pins ≡ list_all (λ n. ltb n limit) pins
all_below-is limit = same_from_clauses (all_below limit) (list_all (λ n. ltb n limit)) (λ n rest. ltb n limit && rest) refl (λ _ _. refl) (λ _ _. refl)

pub returns : goal.returns
returns c = rw all_below-is (all_from_yields_List (λ n. ltb n c.args.limit) _ _ _ c.all.ensures.ran (YieldsList-from_slice c.args.pins.now cc) (λ x b q k. search (rules, tests)))
