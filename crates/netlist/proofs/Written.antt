-- A record that keeps every rule is a valid head or gate written out. Assumes nothing.
use Rattle.std.proofs.Common.{◌≡◌, ℕ, ◌+◌, ◌<◌, ◌≤◌, true, false, T, leb, List, [], ◌∷◌, ◌++◌, length, get_or, drop, None, ap, arith, length-drop}
use Rattle.std.proofs.lemmas.Grind.{common_steps}
use Rattle.std.proofs.lemmas.Bool.Decides.{nat_tests}
use Rattle.functions.specs.Function.{described}
use Rattle.netlist.specs.Circuit.{PlainGate, all_below, valid_gate, good_head}
use Rattle.records.specs.Record.{length_of, kind_of, payload_of, cut_short}
use Rattle.netlist.specs.Rules.{head, gate, first_broken, code_of, least_of, greatest_of, pins_of, count_due}
use Rattle.netlist.specs.Layout.{two_bytes, record_bytes, head_bytes, gate_bytes}
use Rattle.netlist.proofs.Decode.{takes, yes_so}

payload_length : (bs : List ℕ) → cut_short bs ≡ false → length (payload_of bs) ≡ length_of bs
payload_length bs h = grind (arith, nat_tests, common_steps)

-- a whole record stands there as it would be written out
record_written : (bs : List ℕ) (k : ℕ) → cut_short bs ≡ false → get_or bs 0 0 < 256 → get_or bs 2 0 < 256 → kind_of bs ≡ k → bs ≡ record_bytes k (payload_of bs) ++ drop (4 + length_of bs) bs
record_written bs k h low0 low2 is = grind (arith, nat_tests, common_steps)

-- a payload of a gate's size is its five first bytes and its pins
payload_written : (p : List ℕ) → 6 ≤ length p → get_or p 1 0 < 256 → get_or p 3 0 < 256 → p ≡ code_of p ∷ (two_bytes (least_of p) ++ (two_bytes (greatest_of p) ++ pins_of p))
payload_written p long low1 low3 = grind (arith, common_steps)

-- what the rules say of a gate's record that keeps every one
record KeptGate (own : ℕ) (bs : List ℕ) : Type 0 where
  whole : cut_short bs ≡ false
  kind : kind_of bs ≡ 2
  fewest : 6 ≤ length (payload_of bs)
  most : length (payload_of bs) ≤ 13
  code : code_of (payload_of bs) ≤ 7
  count : count_due (code_of (payload_of bs)) (length (pins_of (payload_of bs))) ≡ true
  lower : all_below own (pins_of (payload_of bs)) ≡ true
  delays : leb (least_of (payload_of bs)) (greatest_of (payload_of bs)) ≡ true

kept_gate : (own : ℕ) (bs : List ℕ) → first_broken (gate own) bs ≡ None → KeptGate own bs
kept_gate own bs kept = record {
  whole = grind (arith, nat_tests);
  kind = grind (arith, nat_tests);
  fewest = grind (arith, nat_tests);
  most = grind (arith, nat_tests);
  code = grind (arith, nat_tests);
  count = grind (arith, nat_tests);
  lower = grind (arith, nat_tests);
  delays = grind (arith, nat_tests);
}

-- a gate's record that keeps every rule is that gate written out, and the gate is valid
module _ (own : ℕ) (bs : List ℕ) (keeps : first_broken (gate own) bs ≡ None) where
  pub code_known : code_of (payload_of bs) ≤ 7
  code_known = (kept_gate own bs keeps).code

  module _ (g : PlainGate) (code : (described g.function).code ≡ code_of (payload_of bs)) (least : g.least ≡ least_of (payload_of bs)) (greatest : g.greatest ≡ greatest_of (payload_of bs)) (pins : g.pins ≡ pins_of (payload_of bs)) where
    pub gate_written : get_or bs 0 0 < 256 → get_or bs 2 0 < 256 → get_or (payload_of bs) 1 0 < 256 → get_or (payload_of bs) 3 0 < 256 → bs ≡ gate_bytes g ++ drop (4 + length_of bs) bs
    gate_written low0 low2 low1 low3 =
        let kept = kept_gate own bs keeps in
        let whole = record_written bs 2 kept.whole low0 low2 kept.kind in
        let payload = payload_written (payload_of bs) kept.fewest low1 low3 in
        cc

    pub gate_valid : g.greatest ≤ 65535 → T (valid_gate own g)
    gate_valid most =
        let kept = kept_gate own bs keeps in
        let few : length g.pins ≤ 8 = omega (arith, ap length pins, length-drop 5 (payload_of bs), kept.most) in
        yes_so _ (grind (arith, nat_tests, takes g.function (length g.pins) few))

    pub gate_size : 4 + length_of bs ≡ length (gate_bytes g)
    gate_size =
        let kept = kept_gate own bs keeps in
        omega (arith, ap length pins, length-drop 5 (payload_of bs), payload_length bs kept.whole, kept.fewest)

-- a head's record that keeps every rule is a good head written out
module _ (bs : List ℕ) (keeps : first_broken head bs ≡ None) where
  whole : cut_short bs ≡ false
  whole = grind (arith, nat_tests)

  kind : kind_of bs ≡ 1
  kind = grind (arith, nat_tests)

  size : length (payload_of bs) ≡ 2
  size = grind (arith, nat_tests)

  module _ (inputs gates : ℕ) (is_inputs : inputs ≡ get_or (payload_of bs) 0 0) (is-gates : gates ≡ get_or (payload_of bs) 1 0) where
    pub head_good : T (good_head inputs gates)
    head_good = yes_so _ (grind (arith, nat_tests))

    pub head_written : get_or bs 0 0 < 256 → get_or bs 2 0 < 256 → bs ≡ head_bytes inputs gates ++ drop (4 + length_of bs) bs
    head_written low0 low2 =
        let written = record_written bs 1 whole low0 low2 kind in
        let payload : payload_of bs ≡ inputs ∷ gates ∷ [] = grind (arith, common_steps, size) in
        cc

    pub head_size : 4 + length_of bs ≡ 6
    head_size = omega (arith, payload_length bs whole, size)
