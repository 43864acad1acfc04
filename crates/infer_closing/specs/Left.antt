-- Lists of what a context leaves open.
use Rattle.std.specs.Prelude.{◌≡◌, ℕ, ◌⊎◌, true, false, Option, List, []}
use Rattle.std.specs.List.{AllByRecursion}
use Rattle.sml_tree.specs.declared.bare.Bare.{Bare}
use Rattle.sml_types.specs.declared.types.TyVar.{TyVar}
use Rattle.sml_types.specs.Tree.{Tree}
use Rattle.sml_types.specs.Poly.{Poly, Context, is_in, has_num}
use Rattle.sml_types.specs.Typing.{IsAmong}
use Rattle.sml_unify.specs.Solved.{Substitution}
use Rattle.sml_unify.specs.Variables.{Stands}
use Rattle.infer_closing.specs.declared.group.Group.{Group}
use Rattle.infer_closing.specs.Open.{IsLeftBy, IsLeftOpen}

-- a list gets all variables of a kind, and no others
pub record Gets (Q : TyVar → Type 0) (old new : List TyVar) : Type 0 where
  pub kept : (v : TyVar) → IsAmong v old → IsAmong v new
  pub all : (v : TyVar) → Q v → IsAmong v new
  pub only : (v : TyVar) → IsAmong v new → IsAmong v old ⊎ Q v

-- a scheme does not generalise a variable of its type
abbrev pub IsLeftIn : List TyVar → Tree → TyVar → Type 0
IsLeftIn vars t w = Stands w t × (has_num vars w.num ≡ false)

-- one of these names leaves a variable open
abbrev pub IsLeftByOne : Bare → (ℕ → Option Poly) → Context → List ℕ → TyVar → Type 0
IsLeftByOne p settled c names w = (x : ℕ) × (is_in names x ≡ true) × IsLeftBy p c w x (settled x)

-- these are the variables that a context leaves open; all of them, if its other names are closed
pub record AreLeftOpen (p : Bare) (settled : ℕ → Option Poly) (c : Context) (Closed : Type 0) (vars : List TyVar) : Type 0 where
  pub each : (w : TyVar) → IsAmong w vars → IsLeftOpen p settled c w
  pub all : Closed → (w : TyVar) → IsLeftOpen p settled c w → IsAmong w vars

-- a variable stands in what one of these stands for
abbrev pub StandsInOne : Substitution → List TyVar → TyVar → Type 0
StandsInOne m vars v = (w : TyVar) × IsAmong w vars × Stands v (m w)

-- these are the variables that stand in what a context leaves open
pub record AreOpen (p : Bare) (settled : ℕ → Option Poly) (c : Context) (m : Substitution) (Closed : Type 0) (vars : List TyVar) : Type 0 where
  pub each : (v : TyVar) → IsAmong v vars → (w : TyVar) × IsLeftOpen p settled c w × Stands v (m w)
  pub all : Closed → (v w : TyVar) → IsLeftOpen p settled c w → Stands v (m w) → IsAmong v vars

-- a name of these may generalise something
abbrev pub AreWaiting : List Group → Type 0
AreWaiting groups = AllByRecursion (λ g. g.vars ≡ []) groups → ⊥
