-- How a typing goes with what inference knows.
use Rattle.std.specs.Prelude.{◌≡◌, ℕ, ◌<◌, ◌≤◌, Bool, true, false, Option, Some, None, List, length, slice_get}
use Rattle.std.specs.List.{AllByRecursion}
use Rattle.sml_tree.specs.declared.bare.Bare.{Bare}
use Rattle.sml_types.specs.declared.types.TyVar.{TyVar}
use Rattle.sml_types.specs.declared.types.TyForm.{TyForm}
use Rattle.sml_types.specs.declared.types.TyForm.TheVariants.{Var}
use Rattle.sml_types.specs.declared.scheme.Scheme.{Scheme}
use Rattle.sml_types.specs.declared.tables.TypeName.{TypeName}
use Rattle.sml_types.specs.Tree.{Tree, Variable, inst, occurs, AllVars}
use Rattle.sml_types.specs.Poly.{Poly, has_num}
use Rattle.sml_types.specs.Schemes.{scheme_poly}
use Rattle.sml_types.specs.Library.{name_types}
use Rattle.sml_types.specs.TypeExps.{explicit}
use Rattle.sml_types.specs.Typing.{Typing}
use Rattle.sml_unify.specs.Solved.{Substitution, Solves}
use Rattle.sml_unify.specs.Variables.{AreOnce}
use Rattle.infer_parts.specs.Segments.{IsSegment}
use Rattle.infer_parts.specs.Written.{AreAbbreviations}
use Rattle.infer_state.specs.declared.unknowns.Unknowns.{Unknowns}
use Rattle.infer_state.specs.declared.settled.Settled.{Settled}
use Rattle.infer_state.specs.declared.declared.Declared.{Declared}
use Rattle.infer_state.specs.Variables.{node_var, name_var}
use Rattle.infer_state.specs.Steps.{IsSolution}

-- a substitution has the types of a typing
pub record Fits (p : Bare) (t : Typing) (f : Substitution) : Type 0 where
  pub explicit_ones : (u : ℕ) → u < length p.tyvars → f (explicit p.tyvars u) ≡ Variable (explicit p.tyvars u)
  pub of_nodes : (i : ℕ) → i < length p.nodes → f (node_var p i) ≡ t.types i
  pub of_names : (x : ℕ) → x < length p.names → f (name_var p x) ≡ (t.schemes x).body

-- a typing has the tables and the type functions that are declared
pub record HasTables (forms : List TyForm) (d : Declared) (t : Typing) : Type 0 where
  pub rows : name_types t.forms t.names ≡ name_types forms d.tables.names
  pub abbreviations : AreAbbreviations forms d.abbreviations t.abbreviations

-- ---- Settled names

abbrev pub settled_poly : List TyForm → Option Settled → Option Poly
settled_poly forms None = None
settled_poly forms (Some s) = Some (scheme_poly forms s.scheme)

abbrev pub joined_settled : Option (Option Settled) → Option Settled
joined_settled None = None
joined_settled (Some s) = s

-- the scheme of a name that is settled
abbrev pub settled_at : List TyForm → List (Option Settled) → ℕ → Option Poly
settled_at forms settled x = settled_poly forms (joined_settled (slice_get settled x))

-- a variable is one of the forms
abbrev pub IsFormVar : List TyForm → TyVar → Type 0
IsFormVar forms v = (i : ℕ) × (slice_get forms i ≡ Some (Var v))

-- the type of a settled name stands in its forms, and its variables are different ones of the forms
pub record IsThere (forms : List TyForm) (s : Settled) : Type 0 where
  pub order : s.from ≤ s.scheme.body.0
  pub there : s.scheme.body.0 < length forms
  pub segment : IsSegment forms s.from s.scheme.body.0
  pub vars : AllByRecursion (IsFormVar forms) s.scheme.vars
  pub once : AreOnce s.scheme.vars

abbrev pub AreThere : List TyForm → List (Option Settled) → Type 0
AreThere forms settled = (x : ℕ) (s : Settled) → joined_settled (slice_get settled x) ≡ Some s → IsThere forms s

-- under the substitution a settled scheme has a typing's type, and is at least as general: what it leaves open the typing does not generalise
pub record Suits (f : Substitution) (mine other : Poly) : Type 0 where
  pub body : inst f mine.body ≡ other.body
  pub left_open : AllVars (λ u. has_num mine.vars u.num ≡ false → (a : ℕ) → occurs a (f u) ≡ true → has_num other.vars a ≡ false) mine.body

-- all settled names suit a typing
abbrev pub AllSuit : (ℕ → Option Poly) → Substitution → Typing → Type 0
AllSuit settled f t = (x : ℕ) (s : Poly) → settled x ≡ Some s → Suits f s (t.schemes x)

-- under each solution a settled scheme has the type of its name
abbrev pub AreBodies : Bare → Unknowns → (ℕ → Option Poly) → Type 0
AreBodies p s settled = (x : ℕ) (q : Poly) → settled x ≡ Some q → (f : Substitution) → Solves s.types s.subst.bound f → inst f q.body ≡ f (name_var p x)
