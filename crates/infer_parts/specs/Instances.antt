-- New variables, and copies of types with new variables.
use Rattle.std.specs.Prelude.{◌≡◌, ℕ, ◌<◌, ◌≤◌, Bool, true, false, cond, nat_eq, Some, List, [], ◌∷◌, length, slice_get}
use Rattle.std.specs.List.{AllByRecursion}
use Rattle.sml_types.specs.declared.types.Ty.{Ty}
use Rattle.sml_types.specs.declared.types.TyVar.{TyVar}
use Rattle.sml_types.specs.declared.types.TyForm.{TyForm}
use Rattle.sml_types.specs.declared.types.TyForm.TheVariants.{Var}
use Rattle.sml_types.specs.Tree.{Tree, Variable, App, NoParts, Part, inst, occurs, AllVars}
use Rattle.sml_types.specs.Forms.{tree, parts_of}
use Rattle.sml_types.specs.Poly.{poly, has_num, IsInstance}
use Rattle.sml_types.specs.declared.tables.TypeName.{TypeName}
use Rattle.sml_unify.specs.Solved.{Substitution, Respects}
use Rattle.infer_parts.specs.declared.given.Given.{Given}
use Rattle.infer_parts.specs.Copies.{given_types}

-- a variable whose number was given to none before
pub record IsNewVar (next : ℕ) (eq : Bool) (forms : List TyForm) (t : Ty) : Type 0 where
  pub num : ℕ
  pub above : next ≤ num
  pub there : t.0 < length forms
  pub form : slice_get forms t.0 ≡ Some (Var (record { num = num; eq = eq }))
  pub is : tree forms t.0 ≡ Variable (record { num = num; eq = eq })

-- a new variable for each of these, in order
abbrev pub AreNewVars : ℕ → List TyVar → List TyForm → List Given → Type 0
AreNewVars next [] forms [] = Unit {0}
AreNewVars next (v ∷ vs) forms (g ∷ given) = (g.num ≡ v.num) × IsNewVar next v.eq forms g.ty × AreNewVars next vs forms given
AreNewVars next _ forms _ = ⊥

-- what the forms from one number up to another take from before has none of these variables
abbrev pub IsShared : List TyForm → List TyVar → ℕ → ℕ → Type 0
IsShared forms vars first last = (i : ℕ) (form : TyForm) → first ≤ i → i ≤ last → slice_get forms i ≡ Some form → AllByRecursion (λ c. c < first → (a : ℕ) → has_num vars a ≡ true → occurs a (tree forms c) ≡ false) (parts_of form)

-- the type of a number, with new variables in the place of these
pub record IsFreshCopy (old : List TyForm) (next : ℕ) (vars : List TyVar) (body : ℕ) (forms : List TyForm) (t : Ty) : Type 0 where
  pub given : List Given
  pub new : AreNewVars next vars forms given
  pub there : t.0 < length forms
  pub is : tree forms t.0 ≡ inst (given_types forms given) (tree old body)

-- ---- What a copy with new variables is under a substitution

-- the mark of the first variable of a number
abbrev pub mark_of : List TyVar → ℕ → Bool
mark_of [] x = false
mark_of (v ∷ vs) x = cond (nat_eq x v.num) v.eq (mark_of vs x)

-- a variable that is one of these has their mark, and any other stands for a type that has none of these
abbrev pub IsApart : List TyVar → Substitution → TyVar → Type 0
IsApart vars g v = (has_num vars v.num ≡ true → v.eq ≡ mark_of vars v.num) × (has_num vars v.num ≡ false → (a : ℕ) → occurs a (g v) ≡ true → has_num vars a ≡ false)

-- a substitution, but these variables stand for themselves
abbrev pub outside : List TyVar → Substitution → Substitution
outside vars g v = cond (has_num vars v.num) (Variable v) (g v)

-- under each substitution that keeps the marks, the copy is an instance of the scheme with these variables
abbrev pub InstancesAlways : List TyVar → Tree → List TyForm → ℕ → Type 0
InstancesAlways vars body forms t = (names : List TypeName) (g : Substitution) → Respects names forms g → AllVars (IsApart vars g) body → IsInstance names (poly vars (inst (outside vars g) body)) (inst g (tree forms t))
