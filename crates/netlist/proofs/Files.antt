-- Every list of bytes has just one outcome. Assumes nothing.
use Rattle.std.proofs.Common.{◌≡◌, ℕ, zero, suc, ◌+◌, ◌-◌, ◌<◌, ◌≤◌, T, ◌⊎◌, List, [], ◌∷◌, ◌++◌, length, get_or, take, drop, Some, None, Option, sym, refl, ap, ◌∙◌, subst, inl, inr, add-zero, add_assoc, zero-add, arith, length-append, get_or-drop, take_at}
use Rattle.std.specs.Option.{option_map}
use Rattle.std.proofs.lemmas.Bool.{and_parts, and_from}
use Rattle.std.proofs.lemmas.Grind.{common_steps}
use Rattle.netlist.specs.declared.circuit.read.Head.{Head}
use Rattle.records.specs.declared.reader.Reader.{Reader}
use Rattle.records.specs.Next.{rest}
use Rattle.netlist.specs.Circuit.{PlainGate, PlainCircuit, valid_gate, valid_gates, good_head}
use Rattle.records.specs.Record.{length_of, payload_of}
use Rattle.netlist.specs.Rules.{Due, head, gate, Rule, first_broken, code_of}
use Rattle.netlist.specs.Layout.{head_bytes, gate_bytes, gates_bytes, layout}
use Rattle.netlist.specs.declared.fault.CircuitFault.{CircuitFault}
use Rattle.netlist.specs.Fault.{refusal, refusal_of, rule_of, place_of}
use Rattle.netlist.specs.Step.{Announces, Passed, Describes, GatesTaken, Stopped, Stops, StopsBy, Tells, TellsRule, place_told}
use Rattle.netlist.specs.Outcome.{Outcome, accepted, refused, Accepted, Refused, GatesBefore, DueAt, Has, Only, TellsOnly, refused_as, AllBytes, OneOutcome, LayoutDetermines}
use Rattle.netlist.proofs.Written.{code_known, head_good, head_written, head_size}
use Rattle.netlist.proofs.Gates.{none_taken, taken_more}
use Rattle.netlist.proofs.Decode.{so, yes_so, code_back, gate_from, gate_payload, gate_back, gate_kept, head_kept, length_back, payload_back, rest_back}

-- refused by a broken rule, else what follows
abbrev unless_broken : Option Rule → ℕ → Outcome → Outcome
unless_broken (Some r) place next = refused (refusal r place)
unless_broken None place next = next

-- the outcome as a function of the bytes: gates are taken until one breaks a rule or none is left to come
abbrev gates_outcome : ℕ → ℕ → ℕ → ℕ → List PlainGate → List ℕ → Outcome
gates_outcome inputs zero own place gs bs = accepted (record { inputs = inputs; gates = gs }) place
gates_outcome inputs (suc n) own place gs bs =
    unless_broken (first_broken (gate own) bs) place
    (gates_outcome inputs n (own + 1) (place + (4 + length_of bs)) (gs ++ gate_from (payload_of bs) ∷ []) (drop (4 + length_of bs) bs))

abbrev outcome : List ℕ → Outcome
outcome bs =
    unless_broken (first_broken head bs) 0
    (gates_outcome (get_or (payload_of bs) 0 0) (get_or (payload_of bs) 1 0) (get_or (payload_of bs) 0 0) 6 [] (drop 6 bs))

-- valid gates that are written out are taken as they are
gates_outcome_lem : (inputs left own place : ℕ) (before gs : List PlainGate) (s : List ℕ) → T (valid_gates own gs) → gates_outcome inputs (length gs + left) own place before (gates_bytes gs ++ s) ≡ gates_outcome inputs left (own + length gs) (place + length (gates_bytes gs)) (before ++ gs) s
gates_outcome_lem inputs left own place before [] s v = grind (arith, common_steps)
gates_outcome_lem inputs left own place before (g ∷ gs) s v =
    let both = and_parts (valid_gate own g) (valid_gates (own + 1) gs) (so _ v) in
    let p = gate_payload g in
    let rest = gates_bytes gs ++ s in
    let count : length (g ∷ gs) + left ≡ suc (length gs + left) = omega arith in
    let kept = gate_kept own g rest (yes_so _ both.0) in
    let size = length_back 2 p rest in
    let payload = payload_back 2 p rest in
    let behind = rest_back 2 p rest in
    let others = gates_outcome_lem inputs left (own + 1) (place + length (gate_bytes g)) (before ++ g ∷ []) gs s (yes_so _ both.1) in
    rw count (grind (arith, common_steps, gate_back))

-- a good head and valid gates that are written out, and what the bytes behind them come to
file_outcome : (inputs left : ℕ) (gs : List PlainGate) (s : List ℕ) → T (good_head inputs (length gs + left)) → T (valid_gates inputs gs) → outcome (head_bytes inputs (length gs + left) ++ (gates_bytes gs ++ s)) ≡ gates_outcome inputs left (inputs + length gs) (6 + length (gates_bytes gs)) gs s
file_outcome inputs left gs s good valid =
    let kept = head_kept inputs (length gs + left) (gates_bytes gs ++ s) good in
    let taken = gates_outcome_lem inputs left inputs 6 [] gs s valid in
    grind (arith, common_steps)

-- the bytes begin with what they were taken from
begins : (n : ℕ) (bytes xs : List ℕ) → take n bytes ≡ xs → bytes ≡ xs ++ drop n bytes
begins n bytes xs h = grind (arith, common_steps)

accepted_told : (bytes : List ℕ) (c : PlainCircuit) (n : ℕ) → Accepted bytes c n → accepted c n ≡ outcome bytes
accepted_told bytes c n h =
    let gs = c.gates in
    let parts = and_parts (good_head c.inputs (length gs)) (valid_gates c.inputs gs) (so _ h.valid) in
    let all : length gs + 0 ≡ length gs = add-zero (length gs) in
    let good : T (good_head c.inputs (length gs + 0)) = rw all (yes_so _ parts.0) in
    let s = drop n bytes in
    let used : 6 + length (gates_bytes gs) ≡ n = omega (arith, h.used) in
    let is : bytes ≡ head_bytes c.inputs (length gs + 0) ++ (gates_bytes gs ++ s) = grind (arith, common_steps, begins n bytes (layout c) h.written) in
    sym (ap outcome is ∙ file_outcome c.inputs 0 gs s good (yes_so _ parts.1) ∙ ap (accepted c) used)

before_told : (bytes : List ℕ) (own place : ℕ) (rule : Rule) → GatesBefore bytes place own → first_broken (gate own) (drop place bytes) ≡ Some rule → refused (refusal rule place) ≡ outcome bytes
before_told bytes own place rule h broken =
    let gs = h.gates in
    let left = h.announced - (length gs + 1) in
    let count : h.announced ≡ length gs + suc left = omega (arith, h.fewer) in
    let good : T (good_head h.inputs (length gs + suc left)) = rw (← count) h.good in
    let s = drop place bytes in
    let far : 6 + length (gates_bytes gs) ≡ place = omega (arith, h.reached) in
    let is : bytes ≡ head_bytes h.inputs (length gs + suc left) ++ (gates_bytes gs ++ s) = grind (arith, common_steps, begins place bytes _ h.written) in
    let due : first_broken (gate (h.inputs + length gs)) s ≡ Some rule = rw (← h.next) broken in
    sym (ap outcome is ∙ file_outcome h.inputs (suc left) gs s good h.valid ∙ rw (due, far) refl)

refused_told : (bytes : List ℕ) (due : Due) (rule : Rule) (place : ℕ) → DueAt bytes place due → first_broken due (drop place bytes) ≡ Some rule → refused (refusal rule place) ≡ outcome bytes
refused_told bytes head rule place first broken = rw (rw first at broken, first) refl
refused_told bytes (gate own) rule place before broken = before_told bytes own place rule before broken

-- whatever outcome the bytes have, it is this one
told : (bytes : List ℕ) (o : Outcome) → Has bytes o → o ≡ outcome bytes
told bytes (accepted c n) h = accepted_told bytes c n h
told bytes (refused r) h = ap refused h.told ∙ refused_told bytes h.due h.rule h.place h.reached h.broken

pub only : (bytes : List ℕ) (o : Outcome) → Has bytes o → Only bytes o
only bytes o h = (h, λ other k. told bytes other k ∙ sym (told bytes o h))

-- the layout determines the circuit, whatever follows it
pub layout_determines : LayoutDetermines
layout_determines c d s t valid-c valid-d same =
    let bytes = layout c ++ s in
    let first : Accepted bytes c (length (layout c)) = record { valid = valid-c; used = refl; written = take_at (layout c) s _ refl } in
    let second : Accepted bytes d (length (layout d)) = record { valid = valid-d; used = refl; written = ap (take (length (layout d))) same ∙ take_at (layout d) t _ refl } in
    let one : accepted c (length (layout c)) ≡ accepted d (length (layout d)) = told bytes (accepted c _) first ∙ sym (told bytes (accepted d _) second) in
    cc

-- the bytes begin with a head that keeps every rule and announces so many inputs and gates
record Headed (bytes : List ℕ) (inputs count : ℕ) : Type 0 where
  kept : first_broken head bytes ≡ None
  low_length : get_or bytes 0 0 < 256
  low_kind : get_or bytes 2 0 < 256
  is_inputs : inputs ≡ get_or (payload_of bytes) 0 0
  is_count : count ≡ get_or (payload_of bytes) 1 0

module _ (bytes : List ℕ) (inputs count : ℕ) (front : Headed bytes inputs count) where
  good : T (good_head inputs count)
  good = head_good bytes front.kept inputs count front.is_inputs front.is_count

  -- behind the head stand the gates that were taken
  stands : (gs : List PlainGate) (after : ℕ) → GatesTaken bytes 6 inputs gs after → bytes ≡ (head_bytes inputs count ++ gates_bytes gs) ++ drop after bytes
  stands gs after taken =
      let written = head_written bytes front.kept inputs count front.is_inputs front.is_count front.low_length front.low_kind in
      let size = head_size bytes front.kept inputs count front.is_inputs front.is_count in
      grind (arith, common_steps, taken.stands)

  -- what was read: a good head, then as many gates as it announces
  read_accepted : (gs : List PlainGate) (after : ℕ) → GatesTaken bytes 6 inputs gs after → length gs ≡ count → Accepted bytes (record { inputs = inputs; gates = gs }) after
  read_accepted gs after taken all =
      let used : after ≡ length (head_bytes inputs count ++ gates_bytes gs) = omega (arith, taken.moved) in
      record {
        valid = yes_so _ (and_from _ _ (rw all (so _ good)) (so _ taken.valid));
        used = used;
        written = rw (stands gs after taken, all) (take_at (head_bytes inputs count ++ gates_bytes gs) (drop after bytes) after (sym used));
      }

  -- what was read: a good head, fewer gates than it announces, and a record that breaks a rule
  read_stopped : (rule : Rule) (place : ℕ) → Stopped rule place bytes 6 inputs count → Refused bytes (refusal rule place)
  read_stopped rule place stop =
      let gs = stop.gates in
      let after = stop.after in
      let reached : after ≡ length (head_bytes inputs count ++ gates_bytes gs) = omega (arith, stop.taken.moved) in
      record {
        due = gate (inputs + length gs);
        rule = rule;
        place = after;
        reached = record {
          inputs = inputs;
          announced = count;
          gates = gs;
          good = good;
          valid = stop.taken.valid;
          fewer = stop.fewer;
          next = refl;
          reached = reached;
          written = rw (stands gs after stop.taken) (take_at (head_bytes inputs count ++ gates_bytes gs) (drop after bytes) after (sym reached));
        };
        broken = stop.broken;
        told = ap (refusal rule) stop.there;
      }

  -- an answer of the program: a fault of a gate
  gates_tell_by : (o : Option Rule) (told : ℕ) → StopsBy o told bytes 6 inputs count → TellsOnly bytes (refused_as (option_map (λ r. refusal r told) o))
  gates_tell_by None told stop = tt
  gates_tell_by (Some r) told stop = only bytes _ (read_stopped r told stop)

-- an answer of the program: a fault of the head
head_tells_by : (o : Option Rule) (told : ℕ) (bytes : List ℕ) → TellsRule o (first_broken head bytes) → told ≡ place_told o 0 → TellsOnly bytes (refused_as (option_map (λ r. refusal r told) o))
head_tells_by None told bytes broken there = tt
head_tells_by (Some r) told bytes broken there =
    only bytes _ (record { due = head; rule = r; place = 0; reached = refl; broken = broken; told = ap (refusal r) there })

-- a reader at the first byte that has taken the head
module _ (bytes : List ℕ) (start : Reader) (first : start.at ≡ 0) (same : start.bytes.now ≡ bytes) where
  all : rest start ≡ bytes
  all = rw (first, same) refl

  -- the head is refused
  pub head_refused : (e : CircuitFault) → Tells e (first_broken head (rest start)) start.at → TellsOnly bytes (refused_as (refusal_of e))
  head_refused e tells = head_tells_by (rule_of e) (place_of e) bytes (rw all at tells.0) (rw first at tells.1)

  module _ (mid : Reader) (h : Head) (read : Passed head start mid × Announces (payload_of (rest start)) h) where
    headed : Headed bytes h.inputs h.gates
    headed = record {
      kept = rw all at read.0.kept;
      low_length = rw all at read.0.low_length;
      low_kind = rw all at read.0.low_kind;
      is_inputs = rw all at read.1.inputs;
      is_count = rw all at read.1.gates;
    }

    six : mid.at ≡ 6
    six = omega (arith, read.0.moved, first, ap length_of all, head_size bytes headed.kept h.inputs h.gates headed.is_inputs headed.is_count)

    kept : mid.bytes.now ≡ bytes
    kept = read.0.same ∙ same

    -- all the gates that the head announces were taken
    pub file_accepted : (gs : List PlainGate) (after : ℕ) → GatesTaken mid.bytes.now mid.at h.inputs gs after → length gs ≡ h.gates → Accepted bytes (record { inputs = h.inputs; gates = gs }) after
    file_accepted gs after taken count = read_accepted bytes h.inputs h.gates headed gs after (rw (kept, six) at taken) count

    -- a gate is refused
    pub gate_refused : (e : CircuitFault) → Stops e mid.bytes.now mid.at h.inputs h.gates → TellsOnly bytes (refused_as (refusal_of e))
    gate_refused e stops = gates_tell_by bytes h.inputs h.gates headed (rule_of e) (place_of e) (rw (kept, six) at stops)

-- none, or some rule
decided : (o : Option Rule) → (o ≡ None) ⊎ ((r : Rule) × (o ≡ Some r))
decided None = inl refl
decided (Some r) = inr (r, refl)

bytes_behind : (at : ℕ) (bytes : List ℕ) → AllBytes bytes → AllBytes (drop at bytes)
bytes_behind at bytes all i = rw (get_or-drop at bytes i 0) (all (at + i))

-- a part at the front reads as the bytes do, or as 0 past its end
bytes_front : (n : ℕ) (bytes : List ℕ) → AllBytes bytes → AllBytes (take n bytes)
bytes_front n bytes all i = grind (arith, common_steps, all i)

-- the gate of a payload that keeps every rule is the one that it describes
payload_describes : (p : List ℕ) → AllBytes p → code_of p ≤ 7 → Describes p (gate_from p)
payload_describes p all known =
    let low = all 3 in
    let high = all 4 in
    record {
      code = code_back (code_of p) known;
      least = refl;
      greatest = refl;
      pins = refl;
      low_least = all 1;
      low_greatest = low;
      most = omega arith;
    }

-- behind a good head, the outcome that is worked out is one that the bytes have
module _ (bytes : List ℕ) (all : AllBytes bytes) (inputs count : ℕ) (front : Headed bytes inputs count) where
  has_behind : (left : ℕ) (gs : List PlainGate) (at : ℕ) → GatesTaken bytes 6 inputs gs at → length gs + left ≡ count → Has bytes (gates_outcome inputs left (inputs + length gs) at gs (drop at bytes))
  has_behind zero gs at taken left = read_accepted bytes inputs count front gs at taken (omega (arith, left))
  has_behind (suc n) gs at taken left =
      let bs = drop at bytes in
      let own = inputs + length gs in
      let g = gate_from (payload_of bs) in
      let after = at + 4 + length_of bs in
      let fewer : length gs < count = omega (arith, left) in
      let next = gates_outcome inputs n (own + 1) (at + (4 + length_of bs)) (gs ++ g ∷ []) (drop (4 + length_of bs) bs) in
      let here = bytes_behind at bytes all in
      elim (decided (first_broken (gate own) bs)) [
        | inl e ↦
            let more = taken_more bytes 6 inputs gs at own g taken refl e (here 0) (here 2) (payload_describes (payload_of bs) (bytes_front (length_of bs) (drop 4 bs) (bytes_behind 4 bs here)) (code_known own bs e)) in
            let count-more : length (gs ++ g ∷ []) + n ≡ count = omega (arith, length-append gs (g ∷ []), left) in
            let own-more : inputs + length (gs ++ g ∷ []) ≡ own + 1 = omega (arith, length-append gs (g ∷ [])) in
            let far : after ≡ at + (4 + length_of bs) = add_assoc at 4 (length_of bs) in
            let behind : drop after bytes ≡ drop (4 + length_of bs) bs = grind (arith, common_steps) in
            subst (λ o. Has bytes (unless_broken o at next)) (sym e)
            (subst (Has bytes) (λ i. gates_outcome inputs n (own-more i) (far i) (gs ++ g ∷ []) (behind i)) (has_behind n (gs ++ g ∷ []) after more count-more))
        | inr (r, e) ↦
            subst (λ o. Has bytes (unless_broken o at next)) (sym e)
            (read_stopped bytes inputs count front r at (record { gates = gs; after = at; fewer = fewer; taken = taken; broken = e; there = refl }))
      ]

-- every list of bytes has an outcome, and just one
pub one_outcome : OneOutcome
one_outcome bytes all =
    elim (decided (first_broken head bytes)) [
      | inl e ↦
          let inputs = get_or (payload_of bytes) 0 0 in
          let count = get_or (payload_of bytes) 1 0 in
          let front : Headed bytes inputs count = record { kept = e; low_length = all 0; low_kind = all 2; is_inputs = refl; is_count = refl } in
          let has = has_behind bytes all inputs count front count [] 6 (none_taken bytes 6 inputs) (zero-add count) in
          let is : outcome bytes ≡ gates_outcome inputs count (inputs + 0) 6 [] (drop 6 bytes) = rw (e, add-zero) refl in
          (outcome bytes, only bytes (outcome bytes) (subst (Has bytes) (sym is) has))
      | inr (r, e) ↦
          (refused (refusal r 0), only bytes (refused (refusal r 0)) (record { due = head; rule = r; place = 0; reached = refl; broken = e; told = refl }))
    ]
