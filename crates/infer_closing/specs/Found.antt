-- What the names of a declaration may generalise.
use Rattle.std.specs.Prelude.{◌≡◌, ◌⊎◌, ◌++◌, cond, ℕ, Bool, false, Option, Some, None, List, [], ◌∷◌, map}
use Rattle.std.specs.List.{AllByRecursion}
use Rattle.sml_tree.specs.declared.bare.Bare.{Bare}
use Rattle.sml_tree.specs.declared.bare.Con.{Con}
use Rattle.sml_tree.specs.declared.bare.Con.TheVariants as con
use Rattle.sml_tree.specs.declared.bare.Node.{Node}
use Rattle.sml_tree.specs.declared.bare.Node.TheVariants as node
use Rattle.sml_types.specs.declared.types.TyVar.{TyVar}
use Rattle.sml_types.specs.declared.types.TyForm.{TyForm}
use Rattle.sml_types.specs.Tree.{AllVars}
use Rattle.sml_types.specs.Poly.{Poly, has_num}
use Rattle.sml_types.specs.Typing.{IsAmong}
use Rattle.sml_unify.specs.Solved.{Substitution}
use Rattle.sml_unify.specs.Variables.{AreOnce}
use Rattle.infer_parts.specs.Held.{among}
use Rattle.infer_parts.specs.Plain.{plain_at}
use Rattle.infer_state.specs.Fits.{IsFormVar}
use Rattle.infer_state.specs.Typings.{IsPlain}
use Rattle.infer_state.specs.Variables.{name_var}
use Rattle.infer_closing.specs.declared.group.Together.{Together}
use Rattle.infer_closing.specs.declared.group.Group.{Group}
use Rattle.infer_closing.specs.Groups.{of_declaration}
use Rattle.infer_closing.specs.Closing.{IsNonExpansive}

-- ---- Lists of variables

-- a variable is put last, if none of its number is there
abbrev pub with_var : TyVar → List TyVar → List TyVar
with_var v vs = cond (has_num vs v.num) vs (vs ++ v ∷ [])

abbrev pub with_vars : List TyVar → List TyVar → List TyVar
with_vars [] vs = vs
with_vars (v ∷ more) vs = with_vars more (with_var v vs)

-- the variables that are not open
abbrev pub without : List TyVar → List TyVar → List TyVar
without left [] = []
without left (v ∷ vs) = cond (among left v) (without left vs) (v ∷ without left vs)

-- the variables that a scheme does not generalise
abbrev pub left_of : List TyVar → List TyVar → List TyVar
left_of vars [] = []
left_of vars (v ∷ vs) = cond (has_num vars v.num) (left_of vars vs) (v ∷ left_of vars vs)

-- different variables of the forms
pub record AreVars (forms : List TyForm) (vs : List TyVar) : Type 0 where
  pub known : AllByRecursion (IsFormVar forms) vs
  pub once : AreOnce vs

-- ---- Bindings

abbrev pub plain_right : List Bool → Option ℕ → Bool
plain_right plain None = false
plain_right plain (Some i) = plain_at plain i

-- the variables of the types of a binding's names, if its right side is non-expansive
pub record IsFoundAt (p : Bare) (m : Substitution) (forms : List TyForm) (right : Option ℕ) (names : List ℕ) (vars : List TyVar) : Type 0 where
  pub vars_are : AreVars forms vars
  pub plain : (vars ≡ []) ⊎ IsNonExpansive p.nodes right
  pub each : IsNonExpansive p.nodes right → AllByRecursion (λ x. AllVars (λ u. IsAmong u vars) (m (name_var p x))) names

abbrev pub IsFound : Bare → Substitution → List TyForm → Group → Type 0
IsFound p m forms g = IsFoundAt p m forms g.of.right g.of.names g.vars

abbrev pub bindings_of : List Group → List Together
bindings_of groups = map (λ g. g.of) groups

-- the groups are these bindings
pub record AreFound (p : Bare) (m : Substitution) (forms : List TyForm) (bindings : List Together) (groups : List Group) : Type 0 where
  pub of : bindings_of groups ≡ bindings
  pub found : AllByRecursion (IsFound p m forms) groups

-- the exception constructor that is renamed is settled, and generalises nothing
abbrev pub IsConPlain : (ℕ → Option Poly) → Con → Type 0
IsConPlain settled (con.Exn y takes) = IsPlain (settled y.0)
IsConPlain settled _ = Unit {0}

abbrev pub IsRenamingPlain : (ℕ → Option Poly) → Node → Type 0
IsRenamingPlain settled (node.SameException x k) = IsConPlain settled k
IsRenamingPlain settled _ = Unit {0}

abbrev pub IsDeclaration : Node → Type 0
IsDeclaration (node.Val us bindings) = Unit {0}
IsDeclaration (node.ValRec us bindings) = Unit {0}
IsDeclaration (node.Exception x arg) = Unit {0}
IsDeclaration (node.SameException x k) = Unit {0}
IsDeclaration (node.Type bindings) = Unit {0}
IsDeclaration (node.Datatype bindings) = Unit {0}
IsDeclaration _ = ⊥

-- the groups are those of a declaration
pub record AreGroups (p : Bare) (m : Substitution) (forms : List TyForm) (settled : ℕ → Option Poly) (n : Node) (groups : List Group) : Type 0 where
  pub found : AreFound p m forms (of_declaration p.nodes n) groups
  pub renaming : IsRenamingPlain settled n
  pub declares : IsDeclaration n
