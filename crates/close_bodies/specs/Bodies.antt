-- What closing makes of a body by number.
use Rattle.std.specs.Prelude.{◌≡◌, ℕ, Bool, true, false, cond, List, [], ◌∷◌, ◌++◌, Some}
use Rattle.std.specs.List.{AllByRecursion}
use Rattle.simulation.specs.Blocks.{IsAmong}
use Rattle.cps_ir.specs.Code as cps
use Rattle.cps_ir.specs.Kept.{end_parts}
use Rattle.cps_ir.specs.Program as opening
use Rattle.cps_ir.specs.declared.body.Bind.{Bind as Open}
use Rattle.cps_ir.specs.declared.body.Bind.TheVariants as given
use Rattle.cps_ir.specs.declared.body.Body.{Body as OpenBody}
use Rattle.closure_ir.specs.Code as closed
use Rattle.closure_ir.specs.Program as closing
use Rattle.closure_ir.specs.declared.body.Maker.{Maker}
use Rattle.closure_ir.specs.declared.body.Bind.{Bind}
use Rattle.closure_ir.specs.declared.body.Bind.TheVariants as bind
use Rattle.closure_ir.specs.declared.body.Body.{Body}
use Rattle.close_laws.specs.Lower.{Design, operand_of, operands_of, beyond, shape_of, lower}
use Rattle.close_steps.specs.declared.decisions.Decisions.{Decisions}
use Rattle.close_steps.specs.Visible.{Have, Visible, places_in, hand_in}
use Rattle.close_steps.specs.Lowered.{end_lowered, with_itself}
use Rattle.close_groups.specs.Group.{behind, makers_in, AreBound}

abbrev pub is_none : List Maker → Bool
is_none [] = true
is_none (m ∷ ms) = false

-- a group of closed functions makes nothing
abbrev pub group_bind : List Maker → List Bind
group_bind ms = cond (is_none ms) [] (bind.Make ms ∷ [])

module _ (d : Decisions) where
  abbrev pub bind_lowered : Visible → Open → List Bind
  bind_lowered v (given.Make x kind atoms) =
      bind.Make (record { var = x; shape = shape_of kind; fields = operands_of (places_in d v) atoms } ∷ []) ∷ []
  bind_lowered v (given.Pick x i a) = bind.Let x (beyond (operand_of (places_in d v) a) i) ∷ []
  bind_lowered v (given.Prim x f atoms) = bind.Prim x f (operands_of (places_in d v) atoms) ∷ []
  bind_lowered v (given.Fix fs) = group_bind (makers_in d v fs)
  bind_lowered v (given.Handler x) = bind.Handler x ∷ []
  bind_lowered v (given.SetHandler a) = bind.SetHandler (operand_of (places_in d v) a) ∷ []

  abbrev pub seen_behind : Visible → Open → Visible
  seen_behind v (given.Make x kind atoms) = with_itself v x
  seen_behind v (given.Pick x i a) = with_itself v x
  seen_behind v (given.Prim x f atoms) = with_itself v x
  seen_behind v (given.Fix fs) = behind d v fs
  seen_behind v (given.Handler x) = with_itself v x
  seen_behind v (given.SetHandler a) = v

  abbrev pub binds_lowered : Visible → List Open → List Bind
  binds_lowered v [] = []
  binds_lowered v (b ∷ binds) = bind_lowered v b ++ binds_lowered (seen_behind v b) binds

  abbrev pub seen_at_end : Visible → List Open → Visible
  seen_at_end v [] = v
  seen_at_end v (b ∷ binds) = seen_at_end (seen_behind v b) binds

  abbrev pub body_lowered : Visible → OpenBody → Body
  body_lowered v b = record { binds = binds_lowered v b.binds; end = end_lowered d (places_in d (seen_at_end v b.binds)) b.end }

-- its functions are bound by their names
abbrev pub IsBound : Design → Open → Type 0
IsBound S (given.Fix fs) = AreBound S fs
IsBound S _ = Unit {0}

abbrev pub BodiesAreLowered : Type 0
BodiesAreLowered =
    (S : Design) (d : Decisions) → Have S d → (v : Visible) (part : ℕ → cps.Code) (made : ℕ → closed.Code) (b : OpenBody)
    → AllByRecursion (IsBound S) b.binds
    → ((j : ℕ) → IsAmong j (end_parts b.end) → made j ≡ lower S (places_in d (seen_at_end d v b.binds)) (hand_in (seen_at_end d v b.binds)) (part j))
    → closing.code_of_body made (Some (body_lowered d v b)) ≡ lower S (places_in d v) (hand_in v) (opening.code_of_body part (Some b))
