-- Lemmas on plain circuits: gates by place, and what validity says of each. Assumes nothing.
use Rattle.std.proofs.Common.{◌≡◌, ℕ, zero, suc, ◌+◌, ◌-◌, ◌<◌, ◌≤◌, true, false, T, ltb, leb, ◌⊎◌, List, [], ◌∷◌, length, get_or, Some, None, Option, Bor, sym, ap, ◌∙◌, subst, inl, inr, add-zero, arith, ltb→lt, leb→le}
use Rattle.std.proofs.lemmas.List.{get_or_default, get_or-map, length-map}
use Rattle.std.proofs.lemmas.Bool.{and_cases, and_parts, cases_lt, false_from_ne_true, leb-false, leb-true, ltb-false, ltb-true}
use Rattle.functions.specs.declared.function.Function.{Function}
use Rattle.functions.specs.declared.function.Function.TheVariants.{Buf, Not, And, Nand, Or, Nor, Xor, Xnor}
use Rattle.functions.specs.Function.{described, takes_pins}
use Rattle.netlist.specs.Circuit.{PlainGate, PlainCircuit, all_below, valid_gate, valid_gates, valid_circuit, net_count}
use Rattle.netlist.specs.declared.gate.Gate.{Gate}
use Rattle.netlist.specs.Plain.{plain_gate, plain_gates}
use Rattle.runs.specs.Run.{gate_at}
use Rattle.runs.specs.GateOf.{GateOf, has_gate}
use Rattle.std.specs.Slice.{IsItemAt}
use Rattle.std.specs.Option.{MatchOption}
use Rattle.std.proofs.Math.Facts.{and_yes}

-- each number of such a list is below the limit
pub below_limit : (limit : ℕ) (ns : List ℕ) → T (all_below limit ns) → (k d : ℕ) → k < length ns → get_or ns k d < limit
below_limit limit [] h k d l = omega arith
below_limit limit (n ∷ ns) h zero d l = ltb→lt n limit (and_yes (ltb n limit) (all_below limit ns) h).0
below_limit limit (n ∷ ns) h (suc k) d l = below_limit limit ns (and_yes (ltb n limit) (all_below limit ns) h).1 k d (omega arith)

-- the gate at place k is valid at its own net
pub valid_at : (own : ℕ) (gs : List PlainGate) → T (valid_gates own gs) → (k : ℕ) (d : PlainGate) → k < length gs → T (valid_gate (own + k) (get_or gs k d))
valid_at own [] h k d l = absurd (omega arith)
valid_at own (g ∷ gs) h zero d l =
    subst (λ (n : ℕ). T (valid_gate n g)) (sym (add-zero own)) (and_yes (valid_gate own g) (valid_gates (own + 1) gs) h).0
valid_at own (g ∷ gs) h (suc k) d l =
    subst (λ (n : ℕ). T (valid_gate n (get_or gs k d))) (omega arith) (valid_at (own + 1) gs (and_yes (valid_gate own g) (valid_gates (own + 1) gs) h).1 k d (omega arith))

-- what validity says of a gate
pub record GoodGate (own : ℕ) (g : PlainGate) : Type 0 where
  pub pin_count : T (takes_pins g.function (length g.pins))
  pub lower : (place : ℕ) → place < length g.pins → get_or g.pins place 0 < own
  pub ordered : g.least ≤ g.greatest
  pub short : g.greatest ≤ 65535

pub good_gate : (own : ℕ) (g : PlainGate) → T (valid_gate own g) → GoodGate own g
good_gate own g h =
    let p = and_yes _ _ h in let q = and_yes _ _ p.0 in let r = and_yes _ _ q.0 in
    record {
      pin_count = r.0;
      lower = λ place l. below_limit own g.pins r.1 place 0 l;
      ordered = leb→le _ _ q.1;
      short = leb→le _ _ p.1;
    }

-- every gate of a valid circuit
pub gate_good : (c : PlainCircuit) → T (valid_circuit c) → (k : ℕ) → k < length c.gates → GoodGate (c.inputs + k) (gate_at c k)
gate_good c h k l =
    good_gate (c.inputs + k) (gate_at c k) (valid_at c.inputs c.gates (and_yes _ _ h).1 k _ l)

-- the counts of a valid circuit
pub record GoodCounts (c : PlainCircuit) : Type 0 where
  pub some_input : 1 ≤ c.inputs
  pub few_inputs : c.inputs ≤ 16
  pub few_gates : length c.gates ≤ 240

pub counts_good : (c : PlainCircuit) → T (valid_circuit c) → GoodCounts c
counts_good c h =
    let p = and_yes _ _ (and_yes _ _ h).0 in let q = and_yes _ _ p.0 in
    record { some_input = leb→le _ _ q.0; few_inputs = leb→le _ _ q.1; few_gates = leb→le _ _ p.1 }

-- every function has one pin at least and eight at most
fewest_most : (f : Function) → (1 ≤ (described f).fewest) × ((described f).most ≤ 8)
fewest_most Buf = (omega arith, omega arith)
fewest_most Not = (omega arith, omega arith)
fewest_most And = (omega arith, omega arith)
fewest_most Nand = (omega arith, omega arith)
fewest_most Or = (omega arith, omega arith)
fewest_most Nor = (omega arith, omega arith)
fewest_most Xor = (omega arith, omega arith)
fewest_most Xnor = (omega arith, omega arith)

pub pins_few : (f : Function) (n : ℕ) → T (takes_pins f n) → (1 ≤ n) × (n ≤ 8)
pins_few f n h =
    let p = and_yes (leb (described f).fewest n) (leb n (described f).most) h in
    let low = leb→le (described f).fewest n p.0 in
    let high = leb→le n (described f).most p.1 in
    let b = fewest_most f in
    (omega arith, omega arith)

-- below the number of gates it does not matter what a gate is read with
pub gate_default : (c : PlainCircuit) (k : ℕ) (d : PlainGate) → k < length c.gates → gate_at c k ≡ get_or c.gates k d
gate_default c k d l = get_or_default c.gates k _ d l

-- a net that is no input is that of the gate at this place
pub gate_place : (c : PlainCircuit) (n : ℕ) → c.inputs ≤ n → n < net_count c → (n - c.inputs < length c.gates) × (c.inputs + (n - c.inputs) ≡ n)
gate_place c n h l = (omega arith, omega arith)

-- a net is an input or the net of a gate
pub net_cases : (c : PlainCircuit) (n : ℕ) → n < net_count c → (n < c.inputs) ⊎ ((k : ℕ) × (k < length c.gates) × (n ≡ c.inputs + k))
net_cases c n l = elim (cases_lt n c.inputs) [ inl p ↦ inl p | inr p ↦ inr (n - c.inputs, omega arith, omega arith) ]

-- the gate of a net is valid there
pub gate_valid : (c : PlainCircuit) → T (valid_circuit c) → (n : ℕ) → c.inputs ≤ n → n < net_count c → T (valid_gate n (gate_at c (n - c.inputs)))
gate_valid c valid n l m =
    let e : c.inputs + (n - c.inputs) ≡ n = omega arith in
    subst (λ (own : ℕ). T (valid_gate own (gate_at c (n - c.inputs)))) e
    (valid_at c.inputs c.gates (and_yes _ _ valid).1 (n - c.inputs) _ (omega arith))

-- the test and the fact that a net has a gate
pub driven : (c : PlainCircuit) (n : ℕ) → has_gate c n ≡ true → (c.inputs ≤ n) × (n < net_count c)
driven c n h = let p = and_parts _ _ h in (leb-true _ _ p.0, ltb-true _ _ p.1)

pub undriven : (c : PlainCircuit) (n : ℕ) → has_gate c n ≡ false → n < net_count c → n < c.inputs
undriven c n h l =
    elim (and_cases _ _ h) [ inl e ↦ leb-false _ _ e | inr e ↦ absurd (omega (arith, ltb-false _ _ e)) ]

-- what the slice of the program's gates has at the place of a net's gate
pub gate_read : (c : PlainCircuit) → T (valid_circuit c) → (gates : List Gate) (n place : ℕ) → plain_gates gates ≡ c.gates → c.inputs ≤ n → place ≡ n - c.inputs →
    (o : Option (Bor Gate)) → IsItemAt gates place o → MatchOption o (has_gate c n ≡ false) (λ g. GateOf c n (plain_gate g.now))
gate_read c valid gates n place same low is None past =
    let m = ltb-false place (length gates) (sym past.0) in
    false_from_ne_true _ (λ e. let d = driven c n e in omega (arith, m, d.1, length-map gates plain_gate, ap length same))
gate_read c valid gates n place same low is (Some g) there =
    let l = ltb-true place (length gates) (sym there.0) in
    let high : n < net_count c = omega (arith, l, length-map gates plain_gate, ap length same) in
    let read : plain_gate g.now ≡ gate_at c (n - c.inputs) =
    let d = gate_at c (n - c.inputs) in
    let got : g.now ≡ get_or gates place g.now = there.1 in
    ap plain_gate got ∙ sym (get_or-map plain_gate gates place g.now d l) ∙ ap (λ (xs : List PlainGate). get_or xs place d) same
    ∙ ap (λ (k : ℕ). get_or c.gates k d) is ∙ sym (gate_default c (n - c.inputs) d (omega (arith, high))) in
    record {
      past_inputs = low;
      net = high;
      same = read;
      valid = subst (λ (x : PlainGate). T (valid_gate n x)) (sym read) (gate_valid c valid n low high);
    }
