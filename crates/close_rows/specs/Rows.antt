-- Bodies by number that are closed one after another.
use Rattle.std.specs.Prelude.{◌≡◌, ℕ, ◌<◌, true, List, [], ◌∷◌, Some, length, slice_get}
use Rattle.std.specs.List.{AllByRecursion}
use Rattle.simulation.specs.Blocks.{IsAmong}
use Rattle.smlc_base.specs.declared.point.Point.{Point}
use Rattle.cps_ir.specs.Kept.{end_parts, body_parts}
use Rattle.cps_ir.specs.Program as opening
use Rattle.cps_ir.specs.declared.body.Body.{Body as OpenBody}
use Rattle.closure_ir.specs.Program as closing
use Rattle.closure_ir.specs.declared.body.Body.{Body}
use Rattle.close_laws.specs.Layouts.{Facts, name_at}
use Rattle.close_laws.specs.Lower.{Design, lower, lower_function}
use Rattle.close_laws.specs.Close.{design_of, nowhere, none_at_hand}
use Rattle.close_steps.specs.declared.decisions.Decision.{Decision}
use Rattle.close_steps.specs.declared.decisions.Decisions.{Decisions}
use Rattle.close_steps.specs.Visible.{Have, Visible, decision_of, places_in, hand_in}
use Rattle.close_bodies.specs.Bodies.{body_lowered, seen_at_end, IsBound}
use Rattle.close_entries.specs.Entries.{entered}

-- a body that stands in another has a greater number
abbrev pub AreNumbered : List OpenBody → Type 0
AreNumbered given = (i : ℕ) (b : OpenBody) → slice_get given i ≡ Some b → AllByRecursion (λ c. (i < c) × (c < length given)) (body_parts b)

-- each body is lowered by what it sees, and the bodies of its rules see what is seen at its end
pub record AreLowered (d : Decisions) (seen : ℕ → Visible) (given : List OpenBody) (made : List Body) : Type 0 where
  pub len : length made ≡ length given
  pub each : (i : ℕ) (b : OpenBody) → slice_get given i ≡ Some b → slice_get made i ≡ Some (body_lowered d (seen i) b)
  pub ends : (i : ℕ) (b : OpenBody) → slice_get given i ≡ Some b → (j : ℕ) → IsAmong j (end_parts b.end) → seen j ≡ seen_at_end d (seen i) b.binds

abbrev pub AreBound : Design → List OpenBody → Type 0
AreBound S given = (i : ℕ) (b : OpenBody) → slice_get given i ≡ Some b → AllByRecursion (IsBound S) b.binds

-- each is then what the definition makes of its tree, by what it sees
abbrev pub AllAreLowered : Type 0
AllAreLowered =
    (S : Design) (d : Decisions) → Have S d → (seen : ℕ → Visible) (given : List OpenBody) (made : List Body)
    → AreNumbered given → AreBound S given → AreLowered d seen given made
    → (i : ℕ) → i < length given
    → closing.code_at made i ≡ lower S (places_in d (seen i)) (hand_in (seen i)) (opening.code_at given i)

-- and a function with such a body is the definition's, where the body sees what it enters with
abbrev pub RoutinesAreLowered : Type 0
RoutinesAreLowered =
    (A : Facts) (d : Decisions) → Have (design_of A) d → (seen : ℕ → Visible) (given : List OpenBody) (made : List Body)
    → AreNumbered given → AreBound (design_of A) given → AreLowered d seen given made
    → (p : Point) (k : Decision) → decision_of (design_of A) (Some p) ≡ Some k
    → (params : List ℕ) (i : ℕ) → i < length given → seen i ≡ entered d (name_at A p) k params
    → closing.routine_of made (record { params = name_at A p ∷ params; body = i }) ≡ lower_function (design_of A) (name_at A p) p params (opening.code_at given i)

-- what is run first begins with nothing
abbrev pub begun : Visible
begun = record { is_main = true; variables = []; records = [] }

abbrev pub MainIsLowered : Type 0
MainIsLowered =
    (S : Design) (d : Decisions) → Have S d → (seen : ℕ → Visible) (given : List OpenBody) (made : List Body)
    → AreNumbered given → AreBound S given → AreLowered d seen given made
    → 0 < length given → seen 0 ≡ begun
    → closing.code_at made 0 ≡ lower S nowhere none_at_hand (opening.code_at given 0)
