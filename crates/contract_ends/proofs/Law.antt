-- A call in whose place no body is put.
use Rattle.std.proofs.Common.{◌≡◌, ℕ, List, ap, sym, ◌∙◌}
use Rattle.cps_ir.specs.declared.atom.Atom.{Atom}
use Rattle.cps_ir.specs.declared.body.End.{End}
use Rattle.cps_ir.specs.declared.body.End.TheVariants as end
use Rattle.cps_ir.specs.Program.{code_of_end}
use Rattle.contract_round.specs.Round.{atom_in, atoms_in, call_left}
use Rattle.contract_ends.specs.Ends.{IsCallLeft}

pub call_is : (σ : ℕ → Atom) (a : Atom) (atoms : List Atom) (e : End) → e ≡ end.Call (atom_in σ a) (atoms_in σ atoms) → IsCallLeft σ a atoms e
call_is σ a atoms e h texts τ ι part none = ap (λ o. call_left o τ (atom_in σ a) (atoms_in σ atoms)) none ∙ sym (ap (code_of_end part) h)
