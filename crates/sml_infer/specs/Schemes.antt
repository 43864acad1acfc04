-- The schemes that inference answers.
use Rattle.std.specs.Prelude.{◌≡◌, ℕ, ◌+◌, ◌<◌, Bool, true, Option, Some, None, is_none, List, [], map, length, slice_get, nat_eq}
use Rattle.std.specs.List.{find, list_all}
use Rattle.sml_tree.specs.declared.bare.Bare.{Bare}
use Rattle.sml_types.specs.declared.types.Ty.{Ty}
use Rattle.sml_types.specs.declared.types.TyVar.{TyVar}
use Rattle.sml_types.specs.declared.types.TyForm.{TyForm}
use Rattle.sml_types.specs.declared.scheme.Scheme.{Scheme}
use Rattle.sml_types.specs.declared.scheme.NameScheme.{NameScheme}
use Rattle.sml_types.specs.Poly.{Poly}
use Rattle.sml_types.specs.Schemes.{scheme_poly}
use Rattle.sml_unify.specs.declared.resolve.Rename.{Rename}
use Rattle.sml_unify.specs.Solved.{AreBindings, bound_at}
use Rattle.sml_unify.specs.Resolve.{led_to, renamed_as, AreRenames}
use Rattle.infer_state.specs.declared.declared.Starts.{Starts}
use Rattle.infer_state.specs.declared.settled.Settled.{Settled}
use Rattle.infer_state.specs.Variables.{AreLaidOut, name_var}
use Rattle.infer_state.specs.Fits.{AreThere, settled_at}
use Rattle.infer_state.specs.Typings.{var_at, scheme_under}
use Rattle.infer_laws.specs.Final.{final}

-- what comes in the place of the variables of a scheme
abbrev pub vars_under : List TyForm → List (Option Ty) → List Rename → List TyVar → List TyVar
vars_under forms bound renames vars = map (λ v. var_at v (final forms bound renames v)) vars

-- the scheme of a name in the end
abbrev pub name_poly : Bare → List TyForm → List (Option Ty) → List Rename → List (Option Settled) → ℕ → Poly
name_poly p forms bound renames settled x =
    scheme_under (final forms bound renames) (settled_at forms settled x) (final forms bound renames (name_var p x))

-- what is bound, the names and the renames go with the forms
pub record AreReady (p : Bare) (forms : List TyForm) (bound : List (Option Ty)) (renames : List Rename) (starts : Starts) (settled : List (Option Settled)) : Type 0 where
  pub bindings : AreBindings forms bound
  pub laid : AreLaidOut p forms starts
  pub there : AreThere forms settled
  pub renames_agree : AreRenames forms renames

-- what stands for a variable that is not bound
abbrev pub var_renamed : List Rename → TyVar → TyVar
var_renamed renames v = renamed_as v (led_to (find (λ r. nat_eq r.from v.num) renames))

-- none of these variables is bound
abbrev pub are_free : List (Option Ty) → List TyVar → Bool
are_free bound vars = list_all (λ v. is_none (bound_at bound v.num)) vars

-- no variable of a scheme is bound, and they are renamed
pub record IsRenamed (bound : List (Option Ty)) (renames : List Rename) (old new : Scheme) : Type 0 where
  pub vars : new.vars ≡ map (λ v. var_renamed renames v) old.vars
  pub free : are_free bound old.vars ≡ true
  pub body : new.body ≡ old.body

-- that with which a name is settled, its variables renamed, or the type of its variable alone
abbrev pub IsOpened : List (Option Ty) → List Rename → Starts → Option Settled → ℕ → Scheme → Type 0
IsOpened bound renames starts (Some q) x s = IsRenamed bound renames q.scheme s
IsOpened bound renames starts None x s = (s.vars ≡ []) × (s.body.0 ≡ starts.names + x)

-- a name has its scheme in the end, and the type of that stands in the forms that there are now
pub record IsNamed (p : Bare) (old forms : List TyForm) (bound : List (Option Ty)) (renames : List Rename) (settled : List (Option Settled)) (x : ℕ) (s : NameScheme) : Type 0 where
  pub name : s.name.0 ≡ x
  pub there : s.scheme.body.0 < length forms
  pub is : scheme_poly forms s.scheme ≡ name_poly p old bound renames settled x

abbrev pub AreNamed : Bare → List TyForm → List TyForm → List (Option Ty) → List Rename → List (Option Settled) → List NameScheme → Type 0
AreNamed p old forms bound renames settled schemes =
    (x : ℕ) (s : NameScheme) → slice_get schemes x ≡ Some s → IsNamed p old forms bound renames settled x s
