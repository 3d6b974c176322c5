-- Runs: that there is one for given delays and input waveforms, just one, and that all its waveforms rise. Assumes nothing.
use Rattle.std.proofs.Common.{◌≡◌, ℕ, zero, suc, ◌+◌, ◌<◌, ◌≤◌, Bool, false, T, List, [], ◌∷◌, ◌++◌, map, length, get_or, take, sym, refl, ap, ◌∙◌, subst, inl, inr, arith}
use Rattle.std.specs.List.{range_with_len}
use Rattle.std.proofs.lemmas.List.{length-map, length_push, get_or_append_left, get_or_push, get_or-take, get_or-map, take_all, take-append-le, ext_get_or}
use Rattle.std.proofs.lemmas.List.FromFn.{length-map-range_with_len, get_or-map-range_with_len}
use Rattle.std.proofs.lemmas.Bool.{cases_lt}
use Rattle.signals.specs.Waveform.{Waveform, Rising, FlipsAt, constant}
use Rattle.signals.specs.GateRule.{GateRule}
use Rattle.signals.proofs.Outputs.{one_output, flips_from_pins}
use Rattle.signals.proofs.Later.{rising_later, flips_later}
use Rattle.functions.specs.Function.{described}
use Rattle.netlist.specs.Circuit.{PlainGate, PlainCircuit, valid_circuit, net_count}
use Rattle.runs.specs.Run.{Run, RunOf, wave, gate_at}
use Rattle.runs.specs.RunTheorems.{DelaysWithin, InputsRise, RunWith, RunExists, RunForInputs, WavesRise}
use Rattle.runs.proofs.Circuits.{gate_good, net_cases}

-- the waveform at a place of a list
abbrev wave_at : List Waveform → ℕ → Waveform
wave_at ws n = get_or ws n (constant false)

-- the gate at place k obeys the gate rule with these delays and these waveforms
abbrev Obeys : PlainCircuit → List ℕ → List Waveform → ℕ → Type 0
Obeys c ds ws k = GateRule (described (gate_at c k).function).truth (map (wave_at ws) (gate_at c k).pins) (get_or ds k 0) (wave_at ws (c.inputs + k))

-- two functions that agree at each number of a list
pub map_alike : {X : Type 0} (f g : ℕ → X) (ns : List ℕ) → ((k : ℕ) → k < length ns → f (get_or ns k 0) ≡ g (get_or ns k 0)) → map f ns ≡ map g ns
map_alike f g [] h = refl
map_alike f g (n ∷ ns) h =
    let p = h 0 (omega arith) in let q = map_alike f g ns (λ k l. h (suc k) (omega arith)) in cc

-- waveforms for the inputs and the first k gates
record Grown (c : PlainCircuit) (ds : List ℕ) (ins : List Waveform) (k : ℕ) : Type 0 where
  waves : List Waveform
  count : length waves ≡ c.inputs + k
  driven : take c.inputs waves ≡ ins
  obeys : (j : ℕ) → j < k → Obeys c ds waves j

grown_none : (c : PlainCircuit) (ds : List ℕ) (ins : List Waveform) → length ins ≡ c.inputs → Grown c ds ins 0
grown_none c ds ins e = record {
  waves = ins;
  count = omega arith;
  driven = take_all c.inputs ins (omega arith);
  obeys = λ j l. absurd (omega arith);
}

-- the gate rule at equal pins and output
rule_alike :
    (f : List Bool → Bool) (pins more : List Waveform) (d : ℕ) (out same : Waveform) → pins ≡ more → out ≡ same →
    GateRule f pins d out → GateRule f more d same
rule_alike f pins more d out same p q r = rw (← p, ← q) r

grown_more :
    (c : PlainCircuit) → T (valid_circuit c) → (ds : List ℕ) (ins : List Waveform) (k : ℕ) → k < length c.gates →
    Grown c ds ins k → Grown c ds ins (suc k)
grown_more c valid ds ins k l g = record {
  waves = more;
  count = length_push old out ∙ omega (arith, g.count);
  driven = take-append-le c.inputs old (out ∷ []) (omega (arith, g.count)) ∙ g.driven;
  obeys = λ j m. elim (cases_lt j k) [ inl p ↦ before j p | inr p ↦ subst (Obeys c ds more) (omega arith) last ];
}
  where
    old : List Waveform
    old = g.waves

    out : Waveform
    out = (one_output (described (gate_at c k).function).truth (map (wave_at old) (gate_at c k).pins) (get_or ds k 0)).0

    more : List Waveform
    more = old ++ (out ∷ [])

    alike : (n : ℕ) → n < c.inputs + k → wave_at old n ≡ wave_at more n
    alike n b = sym (get_or_append_left old (out ∷ []) (constant false) n (omega (arith, g.count)))

    pins_alike : (j : ℕ) → j ≤ k → map (wave_at old) (gate_at c j).pins ≡ map (wave_at more) (gate_at c j).pins
    pins_alike j b =
        map_alike (wave_at old) (wave_at more) (gate_at c j).pins
        (λ p m. alike (get_or (gate_at c j).pins p 0) (omega (arith, (gate_good c valid j (omega arith)).lower p m)))

    before : (j : ℕ) → j < k → Obeys c ds more j
    before j b =
        rule_alike (described (gate_at c j).function).truth (map (wave_at old) (gate_at c j).pins) (map (wave_at more) (gate_at c j).pins)
        (get_or ds j 0) (wave_at old (c.inputs + j)) (wave_at more (c.inputs + j)) (pins_alike j (omega arith)) (alike (c.inputs + j) (omega arith)) (g.obeys j b)

    last : Obeys c ds more k
    last =
        rule_alike (described (gate_at c k).function).truth (map (wave_at old) (gate_at c k).pins) (map (wave_at more) (gate_at c k).pins)
        (get_or ds k 0) out (wave_at more (c.inputs + k)) (pins_alike k (omega arith)) (sym (get_or_push old out (constant false) (c.inputs + k) g.count))
        (one_output (described (gate_at c k).function).truth (map (wave_at old) (gate_at c k).pins) (get_or ds k 0)).1

grown : (c : PlainCircuit) → T (valid_circuit c) → (ds : List ℕ) (ins : List Waveform) → length ins ≡ c.inputs → (k : ℕ) → k ≤ length c.gates → Grown c ds ins k
grown c valid ds ins e zero l = grown_none c ds ins e
grown c valid ds ins e (suc k) l = grown_more c valid ds ins k l (grown c valid ds ins e k (omega arith))

-- a run with these delays and these waveforms at the inputs
pub run_with : (c : PlainCircuit) → T (valid_circuit c) → (ds : List ℕ) → DelaysWithin c ds → (ins : List Waveform) → InputsRise c ins → (run : Run) × RunWith c ds ins run
run_with c valid ds within ins rise = (run, record { of = of; delayed = refl; driven = all.driven })
  where
    all : Grown c ds ins (length c.gates)
    all = grown c valid ds ins rise.count (length c.gates) (omega arith)

    run : Run
    run = record { delays = ds; waves = all.waves }

    input : (i : ℕ) → i < c.inputs → get_or ins i (constant false) ≡ wave run i
    input i l = ap (λ ws. wave_at ws i) (sym all.driven) ∙ get_or-take c.inputs all.waves i (constant false) l

    of : RunOf c run
    of = record {
      delay_count = within.count;
      wave_count = all.count;
      inputs_rise = λ i l. subst Rising (input i l) (rise.rise i l);
      within = within.within;
      obeys = all.obeys;
    }

-- a gate's output is the same in two runs with the same delays that agree at all lower nets
pub gate_agrees :
    (c : PlainCircuit) → T (valid_circuit c) → (run other : Run) → RunOf c run → RunOf c other → other.delays ≡ run.delays →
    (k : ℕ) → k < length c.gates → ((m : ℕ) → m < c.inputs + k → wave other m ≡ wave run m) →
    wave other (c.inputs + k) ≡ wave run (c.inputs + k)
gate_agrees c valid run other r o e k l below = one.2 (wave other (c.inputs + k)) again ∙ sym (one.2 (wave run (c.inputs + k)) (r.obeys k l))
  where
    f : List Bool → Bool
    f = (described (gate_at c k).function).truth

    pins : List Waveform
    pins = map (wave run) (gate_at c k).pins

    one : (out : Waveform) × GateRule f pins (get_or run.delays k 0) out × ((v : Waveform) → GateRule f pins (get_or run.delays k 0) v → v ≡ out)
    one = one_output f pins (get_or run.delays k 0)

    pins_alike : map (wave other) (gate_at c k).pins ≡ pins
    pins_alike =
        map_alike (wave other) (wave run) (gate_at c k).pins
        (λ p m. below (get_or (gate_at c k).pins p 0) ((gate_good c valid k l).lower p m))

    again : GateRule f pins (get_or run.delays k 0) (wave other (c.inputs + k))
    again = rw (← e, ← pins_alike) (o.obeys k l)

-- two runs with the same delays and input waveforms agree at every net
waves_agree :
    (c : PlainCircuit) → T (valid_circuit c) → (run other : Run) → RunOf c run → RunOf c other → other.delays ≡ run.delays →
    ((i : ℕ) → i < c.inputs → wave other i ≡ wave run i) → (n m : ℕ) → m < n → m < net_count c → wave other m ≡ wave run m
waves_agree c valid run other r o e ins zero m b l = absurd (omega arith)
waves_agree c valid run other r o e ins (suc n) m b l = elim (net_cases c m l) [
  | inl p ↦ ins m p
  | inr p ↦ gate p.0 p.1 p.2 (waves_agree c valid run other r o e ins n)
]
  where
    gate :
        (k : ℕ) → k < length c.gates → m ≡ c.inputs + k → ((j : ℕ) → j < n → j < net_count c → wave other j ≡ wave run j) →
        wave other m ≡ wave run m
    gate k p q below = rw q (gate_agrees c valid run other r o e k p (λ j a. below j (omega arith) (omega arith)))

-- so they are one run
pub same_run :
    (c : PlainCircuit) → T (valid_circuit c) → (run other : Run) → RunOf c run → RunOf c other → other.delays ≡ run.delays →
    ((i : ℕ) → i < c.inputs → wave other i ≡ wave run i) → other ≡ run
same_run c valid run other r o e ins = λ i. record { delays = e i; waves = waves i }
  where
    waves : other.waves ≡ run.waves
    waves =
        ext_get_or (constant false) other.waves run.waves (o.wave_count ∙ sym r.wave_count)
        (λ m l. waves_agree c valid run other r o e ins (suc m) m (omega arith) (omega (arith, o.wave_count)))

-- for given delays and input waveforms a valid circuit has a run, and just one
pub run_exists : RunExists
run_exists c valid ds within ins rise = (run, r, only)
  where
    run : Run
    run = (run_with c valid ds within ins rise).0

    r : RunWith c ds ins run
    r = (run_with c valid ds within ins rise).1

    only : (other : Run) → RunWith c ds ins other → other ≡ run
    only other o = same_run c valid run other r.of o.of (o.delayed ∙ sym r.delayed) input
      where
        input : (i : ℕ) → i < c.inputs → wave other i ≡ wave run i
        input i l =
            sym (get_or-take c.inputs other.waves i (constant false) l) ∙ ap (λ ws. wave_at ws i) (o.driven ∙ sym r.driven)
            ∙ get_or-take c.inputs run.waves i (constant false) l

-- the same with input waveforms by number
pub run_for :
    (c : PlainCircuit) → T (valid_circuit c) → (ds : List ℕ) → DelaysWithin c ds →
    (ws : ℕ → Waveform) → ((i : ℕ) → i < c.inputs → Rising (ws i)) →
    (run : Run) × RunOf c run × ((i : ℕ) → i < c.inputs → wave run i ≡ ws i) × (run.delays ≡ ds)
run_for c valid ds within ws rise = (run, r.of, driven, r.delayed)
  where
    ins : List Waveform
    ins = map ws (range_with_len 0 c.inputs)

    given : (i : ℕ) → i < c.inputs → get_or ins i (constant false) ≡ ws i
    given i l = get_or-map-range_with_len ws 0 c.inputs i i (constant false) l (omega arith)

    listed : InputsRise c ins
    listed = record { count = length-map-range_with_len ws 0 c.inputs; rise = λ i l. subst Rising (sym (given i l)) (rise i l) }

    run : Run
    run = (run_with c valid ds within ins listed).0

    r : RunWith c ds ins run
    r = (run_with c valid ds within ins listed).1

    driven : (i : ℕ) → i < c.inputs → wave run i ≡ ws i
    driven i l = sym (get_or-take c.inputs run.waves i (constant false) l) ∙ ap (λ vs. wave_at vs i) r.driven ∙ given i l

-- each gate's least delay
abbrev pub least_delays : PlainCircuit → List ℕ
least_delays c = map (λ g. g.least) c.gates

-- the least delays are within bounds
pub least_within : (c : PlainCircuit) → T (valid_circuit c) → DelaysWithin c (least_delays c)
least_within c valid = record { count = length-map c.gates (λ g. g.least); within = λ k l. bounds k l }
  where
    bounds : (k : ℕ) → k < length c.gates → ((gate_at c k).least ≤ get_or (least_delays c) k 0) × (get_or (least_delays c) k 0 ≤ (gate_at c k).greatest)
    bounds k l =
        let e : get_or (least_delays c) k 0 ≡ (gate_at c k).least = get_or-map (λ (g : PlainGate). g.least) c.gates k _ 0 l in
        let o = (gate_good c valid k l).ordered in
        (omega arith, omega arith)

-- every valid circuit has a run for given input waveforms
pub run_for_inputs : RunForInputs
run_for_inputs c valid ws rise = let r = run_for c valid (least_delays c) (least_within c valid) ws rise in (r.0, r.1, r.2)

-- the output of a gate rises
pub rule_rises : (f : List Bool → Bool) (pins : List Waveform) (d : ℕ) (out : Waveform) → GateRule f pins d out → Rising out
rule_rises f pins d out r = subst Rising (sym r.delayed) (rising_later d r.undelayed r.pointwise.rises)

-- every waveform of a run rises
pub waves_rise : {c : PlainCircuit} {run : Run} → RunOf c run → (n : ℕ) → n < net_count c → Rising (wave run n)
waves_rise {c} {run} r n l = elim (net_cases c n l) [ inl p ↦ r.inputs_rise n p | inr p ↦ gate p.0 p.1 p.2 ]
  where
    gate : (k : ℕ) → k < length c.gates → n ≡ c.inputs + k → Rising (wave run n)
    gate k p e = rw e (rule_rises (described (gate_at c k).function).truth (map (wave run) (gate_at c k).pins) (get_or run.delays k 0) (wave run (c.inputs + k)) (r.obeys k p))

pub all_waves_rise : WavesRise
all_waves_rise c run r n l = waves_rise r n l

-- a flip of a gate's output comes the delay after a flip of a pin
pub flip_cause :
    (c : PlainCircuit) (run : Run) → RunOf c run → (k : ℕ) → k < length c.gates → (t : ℕ) → FlipsAt (wave run (c.inputs + k)) t →
    (place : ℕ) × (place < length (gate_at c k).pins) × (cause : ℕ) × FlipsAt (wave run (get_or (gate_at c k).pins place 0)) cause × (t ≡ cause + get_or run.delays k 0)
flip_cause c run r k l t h = (p.0, inside, u.0, subst (λ (w : Waveform). FlipsAt w u.0) at_pin p.2, u.2)
  where
    pins : List Waveform
    pins = map (wave run) (gate_at c k).pins

    g : GateRule (described (gate_at c k).function).truth pins (get_or run.delays k 0) (wave run (c.inputs + k))
    g = r.obeys k l

    u : (v : ℕ) × FlipsAt g.undelayed v × (t ≡ v + get_or run.delays k 0)
    u = flips_later (get_or run.delays k 0) g.undelayed t (subst (λ (w : Waveform). FlipsAt w t) g.delayed h)

    p : (j : ℕ) × (j < length pins) × FlipsAt (get_or pins j (constant false)) u.0
    p = flips_from_pins (described (gate_at c k).function).truth pins g.undelayed g.pointwise u.0 u.1

    inside : p.0 < length (gate_at c k).pins
    inside = omega (arith, p.1, length-map (gate_at c k).pins (wave run))

    at_pin : get_or pins p.0 (constant false) ≡ wave run (get_or (gate_at c k).pins p.0 0)
    at_pin = get_or-map (wave run) (gate_at c k).pins p.0 0 (constant false) inside
