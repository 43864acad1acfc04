-- That bodies of the answer come to be what is promised of them.
use Rattle.std.specs.Prelude.{◌≡◌, ℕ, ◌<◌, List, ◌∷◌, map, Option, Some, None, length, get_or, slice_get}
use Rattle.std.specs.List.{AllByRecursion}
use Rattle.simulation.specs.Blocks.{IsAmong}
use Rattle.sml_tree.specs.IsBare.{IsDistinct}
use Rattle.cps_ir.specs.declared.atom.Atom.{Atom}
use Rattle.cps_ir.specs.declared.body.Body.{Body}
use Rattle.cps_ir.specs.declared.body.Bind.{Bind}
use Rattle.cps_ir.specs.declared.body.End.TheVariants as end
use Rattle.cps_ir.specs.Code.{Code}
use Rattle.cps_ir.specs.Program.{code_at, code_of_binds, code_of_body}
use Rattle.contract_round.specs.Round.{Inlined, Known, known, with_arguments, walk}
use Rattle.contract_laws.specs.Contract.{nothing}
use Rattle.contract_known.specs.Known.{place_of, made_at}
use Rattle.contract_rows.specs.Rows.{empty, IsOneTree}
use Rattle.contract_group.specs.declared.task.Placed.{Placed}
use Rattle.contract_group.specs.declared.task.Task.{Task}
use Rattle.contract_steps.specs.State.{State}

abbrev pub binds_of : List Body → ℕ → List Bind
binds_of bodies i = let b = get_or bodies i empty in b.binds

-- the slots that a task is still to fill
abbrev pub slots_of : List Task → List ℕ
slots_of work = map (λ t. t.slot) work

-- The bodies of the answer make one tree, and those that are still to be filled have no end.
pub record AreOpen (slots : List ℕ) (bodies : List Body) : Type 0 where
  pub tree : IsOneTree bodies
  pub distinct : IsDistinct slots
  pub below : AllByRecursion (λ i. i < length bodies) slots
  pub ends : (i : ℕ) (b : Body) → IsAmong i slots → slice_get bodies i ≡ Some b → b.end ≡ end.Halt

module _ (texts : List (List ℕ)) (source : List Body) where
  -- what the tables know
  abbrev pub body_in : List Atom → Option Placed → Option Inlined
  body_in places None = None
  body_in places (Some p) = Some (record { params = p.params; code = λ atoms τ. walk texts (known (with_arguments (place_of places) p.params atoms) τ nothing) (code_at source p.body) })

  abbrev pub bodies_in : List Atom → List (Option Placed) → ℕ → Option Inlined
  bodies_in places placed f = body_in places (get_or placed f None)

  abbrev pub scope_in : State → ℕ → Known
  scope_in s root = known (place_of s.places) (made_at s.blocks root) (bodies_in s.places s.placed)

  -- P says of each body what tree it comes to be
  module _ (P : ℕ → Code) (s : State) where
    -- the walk of a body by the tables ends the body of a slot
    abbrev pub Ends : ℕ → ℕ → Code → Type 0
    Ends root slot c = code_of_binds P (binds_of s.bodies slot) (walk texts (scope_in s root) c) ≡ P slot

    abbrev pub TasksFit : List Task → Type 0
    TasksFit work = AllByRecursion (λ t. Ends t.root t.slot (code_at source t.body)) work

    -- bodies that are done, where these slots aren't
    abbrev pub DoneFit : List ℕ → Type 0
    DoneFit slots = (i : ℕ) (b : Body) → slice_get s.bodies i ≡ Some b → (IsAmong i slots → ⊥) → code_of_body P (Some b) ≡ P i

    -- with the rest of a body still to be walked
    pub record Fits (t : Task) (c : Code) : Type 0 where
      pub here : Ends t.root t.slot c
      pub tasks : TasksFit s.work
      pub done : DoneFit (t.slot ∷ slots_of s.work)
