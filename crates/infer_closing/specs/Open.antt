-- What stands open in a context, as far as it is known.
use Rattle.std.specs.Prelude.{◌≡◌, ℕ, ◌<◌, Bool, true, false, ◌&&◌, ◌⊎◌, Option, Some, None, List, length}
use Rattle.sml_tree.specs.declared.bare.Bare.{Bare}
use Rattle.sml_types.specs.declared.types.TyVar.{TyVar}
use Rattle.sml_types.specs.Tree.{Tree, Variable, App, NoParts, Part}
use Rattle.sml_types.specs.Poly.{Poly, Context, is_in, has_num}
use Rattle.sml_types.specs.TypeExps.{explicit}
use Rattle.sml_unify.specs.Solved.{Substitution}
use Rattle.sml_unify.specs.Variables.{Stands}
use Rattle.infer_state.specs.Variables.{name_var}

-- a name leaves a variable open: its scheme has it and does not generalise it, or its own recursive declaration is not yet closed
abbrev pub IsLeftBy : Bare → Context → TyVar → ℕ → Option Poly → Type 0
IsLeftBy p c w x (Some s) = Stands w s.body × (has_num s.vars w.num ≡ false)
IsLeftBy p c w x None = (is_in c.own x ≡ true) × (x < length p.names) × (w ≡ name_var p x)

-- an explicit type variable stands in the context
abbrev pub IsExplicit : Bare → Context → TyVar → Type 0
IsExplicit p c w = (u : ℕ) × (is_in c.tyvars u ≡ true) × (u < length p.tyvars) × (w ≡ explicit p.tyvars u)

-- a context leaves a variable open
abbrev pub IsLeftOpen : Bare → (ℕ → Option Poly) → Context → TyVar → Type 0
IsLeftOpen p settled c w = IsExplicit p c w ⊎ ((x : ℕ) × (is_in c.names x ≡ true) × IsLeftBy p c w x (settled x))

-- a variable stands nowhere in what the open variables of a context stand for
abbrev pub IsFreshNow : Bare → (ℕ → Option Poly) → Substitution → Context → TyVar → Type 0
IsFreshNow p settled m c v = (w : TyVar) → IsLeftOpen p settled c w → Stands v (m w) → ⊥

-- ---- Closed names

abbrev pub has_all : List TyVar → Tree → Bool
has_all vs (Variable v) = has_num vs v.num
has_all vs (App h ts) = has_all vs ts
has_all vs NoParts = true
has_all vs (Part t ts) = has_all vs t && has_all vs ts

abbrev pub is_closed : Option Poly → Bool
is_closed None = false
is_closed (Some s) = has_all s.vars s.body

-- a name is settled and leaves nothing open
abbrev pub closed_at : (ℕ → Option Poly) → ℕ → Bool
closed_at settled x = is_closed (settled x)
