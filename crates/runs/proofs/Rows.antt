-- Reading rows and input waveforms by number. Assumes nothing.
use Rattle.std.proofs.Common.{◌≡◌, ℕ, ◌<◌, ◌≤◌, false, ltb, List, length, get_or}
use Rattle.std.proofs.lemmas.List.{get_or_default}
use Rattle.std.proofs.lemmas.Bool.{lt-ltb, le-ltb, cond-true, cond-false}
use Rattle.signals.specs.Waveform.{constant}
use Rattle.netlist.specs.Circuit.{PlainCircuit, net_count}
use Rattle.runs.specs.declared.row.Row.{Row}
use Rattle.runs.specs.Run.{Run, wave, input_wave}
use Rattle.runs.specs.Row.{RowTrue, RowsTrue, row_at}

-- below the number of rows it does not matter what a row is read with
pub row_at_lem : (rows : List Row) (n : ℕ) (d : Row) → n < length rows → get_or rows n d ≡ row_at rows n
row_at_lem rows n d l = get_or_default rows n d _ l

-- the row of a net is true
pub row_true : (c : PlainCircuit) (rows : List Row) (run : Run) → RowsTrue c rows run → (n : ℕ) → n < net_count c → n < length rows → RowTrue c run n (row_at rows n)
row_true c rows run h n a b = h n _ (a, b)

-- an input has its net's waveform
pub input_wave_lem : (c : PlainCircuit) (run : Run) (i : ℕ) → i < c.inputs → input_wave c run i ≡ wave run i
input_wave_lem c run i l = cond-true (ltb i c.inputs) _ _ (lt-ltb i c.inputs l)

-- a number that is no input never flips
pub no_input_wave : (c : PlainCircuit) (run : Run) (i : ℕ) → c.inputs ≤ i → input_wave c run i ≡ constant false
no_input_wave c run i l = cond-false (ltb i c.inputs) _ _ (le-ltb i c.inputs l)
