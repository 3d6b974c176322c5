-- Rest is true in every run, and a run exists wherever the separations can be met. Assumes nothing.
use Rattle.std.proofs.Common.{◌≡◌, ℕ, zero, suc, ◌+◌, ◌<◌, Bool, T, ltb, List, [], ◌∷◌, map, length, get_or, sym, refl, ap, ◌∙◌, subst, inl, inr, arith}
use Rattle.std.proofs.lemmas.Simd.{map-map}
use Rattle.std.proofs.lemmas.Bool.{lt-ltb, le-ltb, cond-true, cond-false, cases_lt}
use Rattle.signals.specs.Waveform.{Waveform, FlipsAt, final, constant}
use Rattle.signals.specs.GateRule.{firsts, sampled}
use Rattle.signals.proofs.Finals.{finals}
use Rattle.signals.proofs.Later.{final_later}
use Rattle.classes.specs.declared.three.Three.{Three}
use Rattle.classes.specs.declared.three.Three.TheVariants.{Unknown}
use Rattle.functions.specs.declared.function.Function.{Function}
use Rattle.classes.specs.declared.class.Class.TheVariants.{C000}
use Rattle.functions.specs.Function as function
use Rattle.classes.specs.Three.{Stands}
use Rattle.classes.specs.Class.{In, described}
use Rattle.waveform.specs.Algebra.{evaluated}
use Rattle.waveform.specs.Ops.{three_ops}
use Rattle.waveform.specs.Narrowest.{Members}
use Rattle.waveform.specs.Contains.{evaluated_contains}
use Rattle.waveform.specs.ThreeSound.{three_sound, allowed_as}
use Rattle.netlist.specs.Circuit.{PlainCircuit, valid_circuit, net_count}
use Rattle.runs.specs.Run.{Run, RunOf, wave, input_wave, gate_at}
use Rattle.runs.proofs.Circuits.{gate_good, net_cases}
use Rattle.runs.proofs.Rows.{input_wave_lem, no_input_wave}
use Rattle.runs.proofs.Runs.{run_for_inputs}
use Rattle.separations.specs.Separations.{Separation}
use Rattle.ordering.specs.Source.{MetBy}
use Rattle.settling_theory.specs.Rest.{value_at, values_to, value_for}
use Rattle.settling_theory.proofs.Prefix.{grown_at}
use Rattle.settling_theory.specs.RestTheorems.{Allows, RestHolds, RunExistsWhereMet}

-- constant waveforms at these values
abbrev constants : (ℕ → Bool) → List ℕ → List Waveform
constants value ns = map (λ n. constant (value n)) ns

constant_firsts : (value : ℕ → Bool) (ns : List ℕ) → map value ns ≡ firsts (constants value ns)
constant_firsts value [] = refl
constant_firsts value (n ∷ ns) = ap (λ bs. value n ∷ bs) (constant_firsts value ns)

constant_sampled : (t : ℕ) (value : ℕ → Bool) (ns : List ℕ) → map value ns ≡ sampled t (constants value ns)
constant_sampled t value [] = refl
constant_sampled t value (n ∷ ns) = ap (λ bs. value n ∷ bs) (constant_sampled t value ns)

constant_members :
    (letter : ℕ → Three) (value : ℕ → Bool) (ns : List ℕ) → ((k : ℕ) → k < length ns → Allows (letter (get_or ns k 0)) (value (get_or ns k 0))) →
    Members Stands (map letter ns) (constants value ns)
constant_members letter value [] h = tt
constant_members letter value (n ∷ ns) h =
    (record { still = refl; allowed = h 0 (omega arith) }, constant_members letter value ns (λ k l. h (suc k) (omega arith)))

-- three-valued evaluation allows what the gate makes of values that its pins allow
pub evaluated_allows :
    (f : Function) (letter : ℕ → Three) (value : ℕ → Bool) (ns : List ℕ) → ((k : ℕ) → k < length ns → Allows (letter (get_or ns k 0)) (value (get_or ns k 0))) →
    Allows (evaluated three_ops f (map letter ns)) ((function.described f).truth (map value ns))
evaluated_allows f letter value ns h =
    (evaluated_contains three_ops Stands three_sound f (map letter ns) (constants value ns) (constant_members letter value ns h)
    (constant ((function.described f).truth (map value ns)))
    (record {
      rises = tt;
      starts = ap (function.described f).truth (constant_firsts value ns);
      follows = λ t. ap (function.described f).truth (constant_sampled t value ns);
    })).allowed

-- the value of a net is worked out from the values below it, however many follow
pub values_at : (inputs : ℕ → Three) (c : PlainCircuit) (n k : ℕ) → k < n → value_at (values_to inputs c n) k ≡ value_for inputs c (values_to inputs c k) k
values_at inputs c n k l = grown_at (value_for inputs c) (values_to inputs c) refl (λ n. refl) n k Unknown l

-- the value of an input, and of the net of a gate
pub value_of_input : (inputs : ℕ → Three) (c : PlainCircuit) (values : List Three) (n : ℕ) → n < c.inputs → value_for inputs c values n ≡ inputs n
value_of_input inputs c values n l = cond-true (ltb n c.inputs) _ _ (lt-ltb n c.inputs l)

pub value_of_gate :
    (inputs : ℕ → Three) (c : PlainCircuit) (values : List Three) (k : ℕ) →
    value_for inputs c values (c.inputs + k) ≡ evaluated three_ops (gate_at c k).function (map (value_at values) (gate_at c k).pins)
value_of_gate inputs c values k =
    cond-false (ltb (c.inputs + k) c.inputs) _ _ (le-ltb (c.inputs + k) c.inputs (omega arith))
    ∙ ap (λ (j : ℕ). evaluated three_ops (gate_at c j).function (map (value_at values) (gate_at c j).pins)) (omega arith)

-- a value of each waveform, its first or its final one, that at a gate is what the gate makes of those of its pins
module _ (c : PlainCircuit) (valid : T (valid_circuit c)) (run : Run) (look : Waveform → Bool) (inputs : ℕ → Three)
    (at-inputs : (i : ℕ) → i < c.inputs → Allows (inputs i) (look (wave run i)))
    (at-gates : (k : ℕ) → k < length c.gates →
    look (wave run (c.inputs + k)) ≡ (function.described (gate_at c k).function).truth (map (λ n. look (wave run n)) (gate_at c k).pins)) where
  allows_below : (b n : ℕ) → n < b → n < net_count c → Allows (value_for inputs c (values_to inputs c n) n) (look (wave run n))
  allows_below zero n a l = absurd (omega arith)
  allows_below (suc b) n a l = elim (net_cases c n l) [
    | inl p ↦ subst (λ (v : Three). Allows v (look (wave run n))) (sym (value_of_input inputs c (values_to inputs c n) n p)) (at-inputs n p)
    | inr p ↦ gate p.0 p.1 p.2 (allows_below b)
  ]
    where
      gate :
          (k : ℕ) → k < length c.gates → n ≡ c.inputs + k →
          ((m : ℕ) → m < b → m < net_count c → Allows (value_for inputs c (values_to inputs c m) m) (look (wave run m))) →
          Allows (value_for inputs c (values_to inputs c n) n) (look (wave run n))
      gate k p e below =
          subst (λ (v : Three). Allows v (look (wave run n))) (sym (ap (value_for inputs c (values_to inputs c n)) e ∙ value_of_gate inputs c (values_to inputs c n) k))
          (allowed_as (evaluated three_ops (gate_at c k).function (map (value_at (values_to inputs c n)) (gate_at c k).pins))
          (ap (λ (m : ℕ). look (wave run m)) e ∙ at-gates k p)
          (evaluated_allows (gate_at c k).function (value_at (values_to inputs c n)) (λ m. look (wave run m)) (gate_at c k).pins pin))
        where
          pin : (j : ℕ) → j < length (gate_at c k).pins → Allows (value_at (values_to inputs c n) (get_or (gate_at c k).pins j 0)) (look (wave run (get_or (gate_at c k).pins j 0)))
          pin j m =
              let lower = (gate_good c valid k p).lower j m in
              let q = get_or (gate_at c k).pins j 0 in
              subst (λ (v : Three). Allows v (look (wave run q))) (sym (values_at inputs c n q (omega arith))) (below q (omega arith) (omega arith))

  -- is allowed by the value worked out for the net
  pub values_allow : (n : ℕ) → n < net_count c → Allows (value_at (values_to inputs c (net_count c)) n) (look (wave run n))
  values_allow n l =
      subst (λ (v : Three). Allows v (look (wave run n))) (sym (values_at inputs c (net_count c) n l)) (allows_below (suc n) n (omega arith) l)

-- the first value of a gate's output, and its final value
pub gate_first :
    (c : PlainCircuit) (run : Run) → RunOf c run → (k : ℕ) → k < length c.gates →
    (wave run (c.inputs + k)).first ≡ (function.described (gate_at c k).function).truth (map (λ n. (wave run n).first) (gate_at c k).pins)
gate_first c run r k l =
    let g = r.obeys k l in
    ap (λ (w : Waveform). w.first) g.delayed ∙ g.pointwise.starts ∙ ap (function.described (gate_at c k).function).truth (map-map _ (wave run) (gate_at c k).pins)

pub gate_final :
    (c : PlainCircuit) (run : Run) → RunOf c run → (k : ℕ) → k < length c.gates →
    final (wave run (c.inputs + k)) ≡ (function.described (gate_at c k).function).truth (map (λ n. final (wave run n)) (gate_at c k).pins)
gate_final c run r k l =
    let g = r.obeys k l in
    ap final g.delayed ∙ final_later (get_or run.delays k 0) g.undelayed
    ∙ finals (function.described (gate_at c k).function).truth (map (wave run) (gate_at c k).pins) g.undelayed g.pointwise
    ∙ ap (function.described (gate_at c k).function).truth (map-map final (wave run) (gate_at c k).pins)

-- in every run each net starts and ends as rest tells
pub rest_holds : RestHolds
rest_holds c classes valid run r within n l = (
  values_allow c valid run (λ w. w.first) (λ i. (described (get_or classes i C000)).start) (λ i m. (within i m).starts) (gate_first c run r) n l,
  values_allow c valid run final (λ i. (described (get_or classes i C000)).finish) (λ i m. (within i m).ends) (gate_final c run r) n l,
)

-- what an input does in the run, the waveform given for it does
input_flips :
    (c : PlainCircuit) (run : Run) (waves : ℕ → Waveform) → ((i : ℕ) → i < c.inputs → wave run i ≡ waves i) →
    (i t : ℕ) → FlipsAt (input_wave c run i) t → FlipsAt (waves i) t
input_flips c run waves same i t h = elim (cases_lt i c.inputs) [
  | inl l ↦ subst (λ (w : Waveform). FlipsAt w t) (input_wave_lem c run i l ∙ same i l) h
  | inr l ↦ absurd (subst (λ (w : Waveform). FlipsAt w t) (no_input_wave c run i l) h)
]

inputs_meet :
    (c : PlainCircuit) (run : Run) (waves : ℕ → Waveform) → ((i : ℕ) → i < c.inputs → wave run i ≡ waves i) →
    (seps : List Separation) → MetBy waves seps → MetBy (input_wave c run) seps
inputs_meet c run waves same [] h = tt
inputs_meet c run waves same (x ∷ xs) h = (
  (λ t u p q. h.0 t u (input_flips c run waves same x.a t p) (input_flips c run waves same x.b u q)),
  inputs_meet c run waves same xs h.1,
)

-- where waveforms in the classes meet the separations there is a run with these at its inputs
pub run_exists_where_met : RunExistsWhereMet
run_exists_where_met seps c classes valid (waves, within, met) =
    let r = run_for_inputs c valid waves (λ i l. (within i).rises) in
    (r.0, r.1, (λ i l. subst (In (get_or classes i C000)) (sym (r.2 i l)) (within i)), inputs_meet c r.0 waves r.2 seps met)
