use Rattle.std.proofs.Common.{◌≡◌, ◌+◌, ◌++◌, ℕ, List}
use Rattle.cps_ir.specs.declared.atom.Atom.{Atom}
use Rattle.cps_ir.specs.Code.{Code}
use Rattle.convert_laws.specs.Convert.{with_fields}
use Rattle.convert_pieces.specs.Emitted.{Emitted}
use Rattle.convert_pieces.proofs.fields.pick_fields.Given as goal

abbrev pub invariant-loop-field : goal.invariant-loop-field
invariant-loop-field l =
    (k : ℕ) → l.field + k ≡ l.count → (rest : List Atom → ℕ → Code) → Emitted l.fn.binds l.binds (with_fields l.count 0 l.subject rest l.next) (with_fields k l.field l.subject (λ fs m. rest (l.atoms ++ fs) m) l.later)
