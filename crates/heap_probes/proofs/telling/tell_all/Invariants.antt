use Rattle.std.proofs.Common.{◌≡◌, ◌≤◌, ◌-◌, [], ◌∷◌, map}
use Rattle.std.specs.Prelude.{vec_len}
use Rattle.heap_probes.specs.Probe.{all_folded, told_each}
use Rattle.heap_probes.proofs.telling.tell_all.Given as goal

abbrev pub invariant-loop-at : goal.invariant-loop-at
invariant-loop-at g l = record {
  told : told_each l.entry (map (λ p. (goal.Probe-dyn g (p.vtable, p.value)).shown p.value) l.probes.items) l.at
      ≡ all_folded (l.entry ∷ []) (map (λ p. (goal.Probe-dyn g (p.vtable, p.value)).shown p.value) l.fn.probes.items);
  within : l.at ≤ vec_len l.probes;
}

abbrev pub decreases-loop-at : goal.decreases-loop-at
decreases-loop-at g l = vec_len l.probes - l.at
