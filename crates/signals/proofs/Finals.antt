-- Final values: a waveform is at its final value after its last flip, and a gate's final value is that of its pins'. Assumes nothing.
use Rattle.std.proofs.Common.{◌≡◌, ℕ, suc, ◌+◌, ◌<◌, ◌≤◌, Bool, List, [], ◌∷◌, map, sym, refl, ap, ◌∙◌, suc-le-suc, arith}
use Rattle.signals.specs.Waveform.{Waveform, FlipsAt, at, final}
use Rattle.signals.specs.GateRule.{Pointwise}
use Rattle.signals.proofs.Waveforms.{seen, seen_tick, seen_after}
use Rattle.signals.proofs.Outputs.{seen_all, pointwise_seen, past, past_ticks, past_ticks_lem}

-- after every flip: the final value
pub seen_final : (w : Waveform) (n : ℕ) → ((u : ℕ) → FlipsAt w u → u < n) → seen w n ≡ final w
seen_final w n h = seen_after n w.first w.flips h

-- from the last flip on: the final value
pub at_final : (w : Waveform) (t : ℕ) → ((u : ℕ) → FlipsAt w u → u ≤ t) → at w t ≡ final w
at_final w t h = seen_tick t w.first w.flips ∙ seen_final w (suc t) (λ u k. suc-le-suc (h u k))

-- past all flips all pins are at their final values
pub past_finals : (pins : List Waveform) (n : ℕ) → past pins ≤ n → seen_all n pins ≡ map final pins
past_finals [] n h = refl
past_finals (w ∷ ws) n h =
    let p = seen_final w n (λ u k. omega (arith, past_ticks_lem u w.flips k)) in
    let q = past_finals ws n (omega arith) in
    cc

-- the final value of the output is that of the pins' final values
pub finals : (f : List Bool → Bool) (pins : List Waveform) (out : Waveform) → Pointwise f pins out → final out ≡ f (map final pins)
finals f pins out p =
    sym (seen_final out n (λ u k. omega (arith, past_ticks_lem u out.flips k)))
    ∙ pointwise_seen f pins out p n ∙ ap f (past_finals pins n (omega arith))
  where
    n : ℕ
    n = past_ticks out.flips + past pins
