-- The walk of an end by tables.
use Rattle.std.specs.Prelude.{◌≡◌, ℕ, List, Option, None}
use Rattle.cps_ir.specs.declared.atom.Atom.{Atom}
use Rattle.cps_ir.specs.declared.body.End.{End}
use Rattle.cps_ir.specs.Code.{Code, Call}
use Rattle.cps_ir.specs.Program.{code_of_end}
use Rattle.contract_laws.specs.Contract.{Made}
use Rattle.contract_round.specs.Round.{Inlined, known, inlined_of, walk}

module _ (σ : ℕ → Atom) where
  -- the end that a body has in place of this form, whatever is known of blocks and put where it is called
  abbrev pub IsEndLeft : Code → End → Type 0
  IsEndLeft c e =
      (texts : List (List ℕ)) (τ : ℕ → Option Made) (ι : ℕ → Option Inlined) (part : ℕ → Code) → walk texts (known σ τ ι) c ≡ code_of_end part e

  -- that of a call, where nothing is put in its place
  abbrev pub IsCallLeft : Atom → List Atom → End → Type 0
  IsCallLeft a atoms e =
      (texts : List (List ℕ)) (τ : ℕ → Option Made) (ι : ℕ → Option Inlined) (part : ℕ → Code) → inlined_of ι a ≡ None → walk texts (known σ τ ι) (Call a atoms) ≡ code_of_end part e
