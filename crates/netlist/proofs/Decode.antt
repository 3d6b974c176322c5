-- A gate or a head that is written out reads back as it was. Assumes nothing.
use Rattle.std.proofs.Common.{◌≡◌, ℕ, ◌+◌, ◌/◌, ◌%◌, ◌≤◌, Bool, true, false, cond, ◌&&◌, T, eqb, leb, List, ◌∷◌, ◌++◌, length, drop, None, arith, rules}
use Rattle.std.proofs.lemmas.Grind.{common_steps}
use Rattle.std.proofs.lemmas.Bool.Decides.{nat_tests}
use Rattle.functions.specs.declared.function.Function.{Function}
use Rattle.functions.specs.declared.function.Function.TheVariants.{Buf, Not, And, Nand, Or, Nor, Xor, Xnor}
use Rattle.functions.specs.Function.{described, takes_pins}
use Rattle.netlist.specs.Circuit.{PlainGate, valid_gate, good_head}
use Rattle.netlist.specs.Rules.{head, gate, first_broken, code_of, least_of, greatest_of, pins_of, count_due}
use Rattle.records.specs.Record.{two, length_of, payload_of, cut_short}
use Rattle.netlist.specs.Layout.{two_bytes, record_bytes, head_bytes, gate_bytes}

-- two bytes hold the number that was written into them
pub two_of : (n : ℕ) → two (n % 256) (n / 256) ≡ n
two_of n = omega arith

module _ (k : ℕ) (payload s : List ℕ) where
  pub length_back : length_of (record_bytes k payload ++ s) ≡ length payload
  length_back = two_of (length payload)

  pub payload_back : payload_of (record_bytes k payload ++ s) ≡ payload
  payload_back = grind (arith, common_steps)

  pub rest_back : drop (4 + length_of (record_bytes k payload ++ s)) (record_bytes k payload ++ s) ≡ s
  rest_back = grind (arith, common_steps)

  pub whole_back : cut_short (record_bytes k payload ++ s) ≡ false
  whole_back = grind (arith, nat_tests, common_steps)

pub so : (b : Bool) → T b → b ≡ true
so b t = search rules

pub yes_so : (b : Bool) → b ≡ true → T b
yes_so b e = search rules

-- the function of a code
abbrev pub function_from : ℕ → Function
function_from n =
    cond (eqb n 0) Buf (cond (eqb n 1) Not (cond (eqb n 2) And (cond (eqb n 3) Nand (cond (eqb n 4) Or (cond (eqb n 5) Nor (cond (eqb n 6) Xor Xnor))))))

pub function_back : (f : Function) → function_from (described f).code ≡ f
function_back f = grind arith

-- the code of the function of a code
pub code_back : (n : ℕ) → n ≤ 7 → (described (function_from n)).code ≡ n
code_back n h = grind (arith, nat_tests)

-- a count that is neither below nor above one pin is one, and a size that a gate may have
one_pin_lem : (n : ℕ) → (leb 1 n && leb n 1) ≡ true → (1 ≤ n) × (n ≤ 8) × (eqb n 1 ≡ true)
one_pin_lem n h = (grind (arith, nat_tests), grind (arith, nat_tests), grind (arith, nat_tests))

-- what a pin count that the function takes says of the rules for size, code and count
counted : (f : Function) (n : ℕ) → takes_pins f n ≡ true → (1 ≤ n) × (n ≤ 8) × (count_due (described f).code n ≡ true) × (leb (described f).code 7 ≡ true)
counted f n h = (grind (arith, nat_tests), grind (arith, nat_tests), grind (arith, nat_tests), grind (arith, nat_tests))

pub takes : (f : Function) (n : ℕ) → n ≤ 8 → count_due (described f).code n ≡ true → takes_pins f n ≡ true
takes f n most h = grind (arith, nat_tests)

-- the gate that a payload describes
abbrev pub gate_from : List ℕ → PlainGate
gate_from p = record { function = function_from (code_of p); least = least_of p; greatest = greatest_of p; pins = pins_of p }

abbrev pub gate_payload : PlainGate → List ℕ
gate_payload g = (described g.function).code ∷ (two_bytes g.least ++ (two_bytes g.greatest ++ g.pins))

pub gate_back : (g : PlainGate) → gate_from (gate_payload g) ≡ g
gate_back g = grind (arith, function_back)

-- a valid gate that is written out breaks no rule
pub gate_kept : (own : ℕ) (g : PlainGate) (s : List ℕ) → T (valid_gate own g) → first_broken (gate own) (gate_bytes g ++ s) ≡ None
gate_kept own g s v = grind (arith, nat_tests, common_steps, counted)

-- a good head that is written out breaks no rule
pub head_kept : (inputs gates : ℕ) (s : List ℕ) → T (good_head inputs gates) → first_broken head (head_bytes inputs gates ++ s) ≡ None
head_kept inputs gates s good = grind (arith, nat_tests, common_steps)
