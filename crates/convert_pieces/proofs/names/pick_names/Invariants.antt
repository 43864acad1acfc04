use Rattle.std.proofs.Common.{ℕ, drop}
use Rattle.cps_ir.specs.Code.{Code}
use Rattle.convert_laws.specs.Convert.{Scope, bind_names, bind_each}
use Rattle.convert_pieces.specs.Emitted.{Emitted}
use Rattle.convert_pieces.specs.Names.{bound_to}
use Rattle.convert_pieces.proofs.names.pick_names.Given as goal

abbrev pub invariant-loop-named : goal.invariant-loop-named
invariant-loop-named l =
    (σ : Scope) (rest : Scope → ℕ → Code) → Emitted l.fn.binds l.binds (bind_names l.names l.subject σ rest l.next) (bind_each l.way (drop l.named-index l.names) l.subject σ (λ τ m. rest (bound_to l.found τ) m) l.later)
