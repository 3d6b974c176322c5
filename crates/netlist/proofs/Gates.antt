-- Gates one after the other: one more gate behind those taken so far. Assumes nothing.
use Rattle.std.proofs.Common.{◌≡◌, ℕ, ◌+◌, ◌<◌, T, List, [], ◌∷◌, ◌++◌, length, get_or, drop, None, sym, refl, subst, add-zero, arith}
use mathlib.Core.List.{map-append}
use Rattle.std.proofs.lemmas.List.{length-map}
use Rattle.std.proofs.lemmas.Grind.{common_steps}
use Rattle.records.specs.declared.reader.Reader.{Reader}
use Rattle.records.specs.Next.{rest}
use Rattle.netlist.specs.declared.gate.Gate.{Gate}
use Rattle.netlist.specs.Circuit.{PlainGate, valid_gate, valid_gates}
use Rattle.netlist.specs.Plain.{plain_gate, plain_gates}
use Rattle.records.specs.Record.{length_of, payload_of}
use Rattle.netlist.specs.Rules.{gate, first_broken}
use Rattle.netlist.specs.Layout.{gates_bytes}
use Rattle.netlist.specs.Step.{GatesTaken, Passed, Describes}
use Rattle.netlist.proofs.Decode.{yes_so}
use Rattle.netlist.proofs.Written.{gate_written, gate_valid, gate_size}

pub bytes_append : (gs hs : List PlainGate) → gates_bytes (gs ++ hs) ≡ gates_bytes gs ++ gates_bytes hs
bytes_append [] hs = refl
bytes_append (g ∷ gs) hs = grind (arith, common_steps, bytes_append gs hs)

valid_more : (own : ℕ) (gs : List PlainGate) (g : PlainGate) → T (valid_gates own gs) → T (valid_gate (own + length gs) g) → T (valid_gates own (gs ++ g ∷ []))
valid_more own [] g v w = yes_so _ (grind (arith, common_steps))
valid_more own (h ∷ gs) g v w = yes_so _ (grind (arith, common_steps, valid_more (own + 1) gs g))

pub plain_more : (gs : List Gate) (g : Gate) → plain_gates (gs ++ g ∷ []) ≡ plain_gates gs ++ plain_gate g ∷ []
plain_more gs g = map-append plain_gate gs (g ∷ [])

pub none_taken : (bytes : List ℕ) (place own : ℕ) → GatesTaken bytes place own [] place
none_taken bytes place own = record { valid = tt; stands = refl; moved = sym (add-zero place) }

pub taken_more : (bytes : List ℕ) (place own : ℕ) (gs : List PlainGate) (at next : ℕ) (h : PlainGate) → GatesTaken bytes place own gs at → next ≡ own + length gs → first_broken (gate next) (drop at bytes) ≡ None → get_or (drop at bytes) 0 0 < 256 → get_or (drop at bytes) 2 0 < 256 → Describes (payload_of (drop at bytes)) h → GatesTaken bytes place own (gs ++ h ∷ []) (at + 4 + length_of (drop at bytes))
taken_more bytes place own gs at next h taken follows held low0 low2 is =
    let kept = subst (λ n. first_broken (gate n) (drop at bytes) ≡ None) follows held in
    let bs = drop at bytes in
    let written = gate_written (own + length gs) bs kept h is.code is.least is.greatest is.pins low0 low2 is.low_least is.low_greatest in
    let size = gate_size (own + length gs) bs kept h is.code is.least is.greatest is.pins in
    let more = bytes_append gs (h ∷ []) in
    record {
      valid = valid_more own gs h taken.valid (gate_valid (own + length gs) bs kept h is.code is.least is.greatest is.pins is.most);
      stands = grind (arith, common_steps, taken.stands);
      moved = grind (arith, common_steps, taken.moved);
    }

-- the reader takes one more gate behind those taken so far
pub passed_more : (start before after : Reader) (own next : ℕ) (gs : List Gate) (g : Gate) → before.bytes.now ≡ start.bytes.now → GatesTaken start.bytes.now start.at own (plain_gates gs) before.at → next ≡ own + length gs → Passed (gate next) before after → Describes (payload_of (rest before)) (plain_gate g) → GatesTaken start.bytes.now start.at own (plain_gates (gs ++ g ∷ [])) after.at
passed_more start before after own next gs g same taken follows passed is =
    let here = subst (λ bs. GatesTaken bs start.at own (plain_gates gs) before.at) (sym same) taken in
    let count : next ≡ own + length (plain_gates gs) = omega (arith, follows, length-map gs plain_gate) in
    let more = taken_more before.bytes.now start.at own (plain_gates gs) before.at next (plain_gate g) here count passed.kept passed.low_length passed.low_kind is in
    rw (plain_more gs g, passed.moved) (subst (λ bs. GatesTaken bs start.at own (plain_gates gs ++ plain_gate g ∷ []) (before.at + 4 + length_of (rest before))) same more)
