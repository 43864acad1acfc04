-- Names are settled, one after another.
use Rattle.std.specs.Prelude.{◌≡◌, ℕ, ◌<◌, ◌||◌, ◌⊎◌, true, Option, Some, None, List, [], ◌∷◌, length, slice_get}
use Rattle.std.specs.List.{AllByRecursion}
use Rattle.sml_tree.specs.declared.bare.Bare.{Bare}
use Rattle.sml_types.specs.declared.types.TyVar.{TyVar}
use Rattle.sml_types.specs.declared.types.TyForm.TheVariants.{Var}
use Rattle.sml_types.specs.Poly.{Poly, poly, is_in}
use Rattle.sml_unify.specs.Solved.{Substitution}
use Rattle.sml_unify.specs.Steps.{IsLonger}
use Rattle.infer_state.specs.declared.unknowns.Unknowns.{Unknowns}
use Rattle.infer_state.specs.declared.settled.Settled.{Settled}
use Rattle.infer_state.specs.Fits.{IsFormVar, AreThere, joined_settled}
use Rattle.infer_state.specs.Variables.{name_var}
use Rattle.infer_closing.specs.declared.group.Group.{Group}
use Rattle.infer_closing.specs.Open.{has_all}
use Rattle.infer_closing.specs.Closing.{AreKept, IsGeneralAt}
use Rattle.infer_closing.specs.Found.{without}

-- a name is settled that was not
pub record IsPut (old : List (Option Settled)) (x : ℕ) (s : Settled) (new : List (Option Settled)) : Type 0 where
  pub was : joined_settled (slice_get old x) ≡ None
  pub here : slice_get new x ≡ Some (Some s)
  pub others : (y : ℕ) → (y ≡ x → ⊥) → slice_get new y ≡ slice_get old y
  pub count : length new ≡ length old

-- more forms and more settled names, for the same variables
pub record Grows (before after : Unknowns) (old new : List (Option Settled)) : Type 0 where
  pub bound : after.subst.bound ≡ before.subst.bound
  pub next : after.next ≡ before.next
  pub longer : IsLonger before.types after.types
  pub vars : (i : ℕ) (v : TyVar) → slice_get after.types i ≡ Some (Var v) → IsFormVar before.types v
  pub kept : AreKept old new
  pub there : AreThere after.types new
  pub count : length new ≡ length old

-- a name of a program stands at this scheme
abbrev pub StandsAt : Bare → Substitution → (ℕ → Option Poly) → List TyVar → ℕ → Type 0
StandsAt p m settled vars x = (x < length p.names) × (settled x ≡ Some (poly vars (m (name_var p x))))

-- these names are settled, and no others
pub record AreNewly (p : Bare) (m : Substitution) (old new : ℕ → Option Poly) (vars : List TyVar) (names : List ℕ) : Type 0 where
  pub each : AllByRecursion (StandsAt p m new vars) names
  pub only : (y : ℕ) (q : Poly) → new y ≡ Some q → (old y ≡ Some q) ⊎ ((is_in names y ≡ true) × (q ≡ poly vars (m (name_var p y))))

-- a name is on the list, or its type has no variables but these
abbrev pub IsListed : Bare → Substitution → List ℕ → List TyVar → ℕ → Type 0
IsListed p m list vars x = (is_in list x || has_all vars (m (name_var p x))) ≡ true

-- names are put on a list, but for those whose types have no variables but these
pub record AreListed (p : Bare) (m : Substitution) (vars : List TyVar) (names old new : List ℕ) : Type 0 where
  pub kept : (x : ℕ) → is_in old x ≡ true → is_in new x ≡ true
  pub each : AllByRecursion (IsListed p m new vars) names

-- ---- Groups

-- what a group generalises, where these variables are open
abbrev pub general_of : List TyVar → Group → List TyVar
general_of left g = without left g.vars

-- a name of one of the groups, at its scheme
abbrev pub IsNamedIn : Bare → Substitution → List TyVar → List Group → ℕ → Poly → Type 0
IsNamedIn p m left [] y q = ⊥
IsNamedIn p m left (g ∷ groups) y q = ((is_in g.of.names y ≡ true) × (q ≡ poly (general_of left g) (m (name_var p y)))) ⊎ IsNamedIn p m left groups y q

-- the names of a group are settled, and its right side is closed
pub record IsGroupClosed (p : Bare) (m : Substitution) (general : List (Option (List TyVar))) (settled : ℕ → Option Poly) (list : List ℕ) (left : List TyVar) (g : Group) : Type 0 where
  pub right : IsGeneralAt general (general_of left g) g.of.right
  pub names : AllByRecursion (StandsAt p m settled (general_of left g)) g.of.names
  pub listed : AllByRecursion (IsListed p m list (general_of left g)) g.of.names

-- these groups are closed, and nothing else is settled
pub record AreGroupsClosed (p : Bare) (m : Substitution) (general : List (Option (List TyVar))) (old new : ℕ → Option Poly) (list : List ℕ) (left : List TyVar) (groups : List Group) : Type 0 where
  pub each : AllByRecursion (IsGroupClosed p m general new list left) groups
  pub only : (y : ℕ) (q : Poly) → new y ≡ Some q → (old y ≡ Some q) ⊎ IsNamedIn p m left groups y q
