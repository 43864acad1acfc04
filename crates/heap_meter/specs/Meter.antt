-- What a meter tells of a run, which is that of the machine.
use Rattle.std.specs.Prelude.{ℕ, suc, ◌≡◌, ◌-◌, ◌<◌, ◌≤◌, ◌^◌, List, [], ◌∷◌, ◌++◌, length, Option, Some, None, slice_get}
use Rattle.elf_static.specs.declared.image.EntryRow.{EntryRow}
use Rattle.elf_static.specs.declared.image.Entries.{Entries}
use Rattle.rv_machine.specs.declared.hart.End.{End}
use Rattle.rv_machine.specs.declared.hart.End.TheVariants as ended
use Rattle.rv_machine.specs.State.{State}
use Rattle.rv_machine.specs.Run.{World, Cut, RunsTo}
use Rattle.heap_probes.specs.declared.probe.Entry.{Entry}
use Rattle.heap_probes.specs.Probe.{Shown, all_folded}
use Rattle.heap_meter.specs.declared.end.MeterEnd.{MeterEnd}
use Rattle.heap_meter.specs.Entries.{passed, entered, measured, AreTold, IsUsed, IsPeak}

-- of n instructions so many were done: a trap isn't one
abbrev pub done_of : End → ℕ → ℕ
done_of (ended.Trap pc word) n = n - 1
done_of _ n = n

-- the labels are 0, 1 and so on
abbrev pub AreNumbered : List EntryRow → Type 0
AreNumbered rows = (i : ℕ) (row : EntryRow) → slice_get rows i ≡ Some row → row.label.0 ≡ i

abbrev pub begun : State → Option (List ℕ) → World
begun s left = record { state = s; input = left; out = []; err = [] }

-- the peak of what was told, or three zeros where nothing was told
abbrev pub HasPeak : List Entry → MeterEnd → Type 0
HasPeak [] m = (m.peak ≡ 0) × (m.peak_label.0 ≡ 0) × (m.peak_nth ≡ 0)
HasPeak (e ∷ es) m = (best : Entry) × IsPeak (e ∷ es) best × (m.peak ≡ best.words) × (m.peak_label ≡ best.label) × (m.peak_nth ≡ best.nth)

-- A run as the machine's own, with its entries: of those that are measured each was told to the probes, in order.
pub record Meters (table : Entries) (stride steps : ℕ) (s t : State) (left left_now out out_now err err_now : Option (List ℕ)) (old new : List Shown) (m : MeterEnd) : Type 0 where
  pub runs : RunsTo steps s t left left_now out out_now err err_now m.end
  pub states : List State
  pub passes : (more : List Cut) → passed (done_of m.end runs.count) (begun s left) (runs.ran.cuts ++ more) ≡ states
  pub told : List Entry
  pub tells : AreTold table (measured stride (entered table [] states)) told
  pub entries : m.entries ≡ length (entered table [] states)
  pub used : IsUsed table t m.used
  pub peak : HasPeak told m
  pub probes : new ≡ all_folded told old

-- a machine that had ended does nothing, so nothing is told
pub record StaysEnded (table : Entries) (s : State) (end : End) (m : MeterEnd) : Type 0 where
  pub ends : m.end ≡ end
  pub entries : m.entries ≡ 0
  pub used : IsUsed table s m.used
  pub peak : HasPeak [] m
