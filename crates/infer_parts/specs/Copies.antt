-- Copies of types, with types in the place of variables.
use Rattle.std.specs.Prelude.{◌≡◌, ℕ, ◌+◌, ◌-◌, ◌<◌, ◌≤◌, cond, nat_eq, nat_lt, Option, Some, None, List, [], ◌∷◌, length, map, slice_get, get_or}
use Rattle.std.specs.List.{AllByRecursion, find}
use Rattle.sml_types.specs.declared.types.Ty.{Ty}
use Rattle.sml_types.specs.declared.types.TyVar.{TyVar}
use Rattle.sml_types.specs.declared.types.Field.{Field}
use Rattle.sml_types.specs.declared.types.TyForm.{TyForm}
use Rattle.sml_types.specs.declared.types.TyForm.TheVariants.{Var, Fields, Arrow, Named}
use Rattle.sml_types.specs.Tree.{Tree, Variable, inst}
use Rattle.sml_types.specs.Forms.{tree, parts_of}
use Rattle.sml_unify.specs.Steps.{IsLonger}
use Rattle.infer_parts.specs.declared.given.Given.{Given}

-- where the copy of a part stands; copies begin at form number `first`, and a part before it stands for itself
abbrev pub moved_ty : ℕ → List Ty → Ty → Ty
moved_ty first copies part = cond (nat_lt part.0 first) part (get_or copies (part.0 - first) part)

abbrev pub moved_field : ℕ → List Ty → Field → Field
moved_field first copies f = record { lab = f.lab; ty = moved_ty first copies f.ty }

abbrev pub moved_fields : ℕ → List Ty → List Field → List Field
moved_fields first copies [] = []
moved_fields first copies (f ∷ fields) = moved_field first copies f ∷ moved_fields first copies fields

-- a form of the copies of its parts
abbrev pub moved_form : ℕ → List Ty → TyForm → TyForm
moved_form first copies (Var v) = Var v
moved_form first copies (Fields fields) = Fields (moved_fields first copies fields)
moved_form first copies (Arrow a b) = Arrow (moved_ty first copies a) (moved_ty first copies b)
moved_form first copies (Named n args) = Named n (map (λ a. moved_ty first copies a) args)

abbrev pub place : ℕ → Ty
place i = record { 0 = i }

abbrev pub moved : ℕ → List Ty → ℕ → ℕ
moved first copies i = (moved_ty first copies (place i)).0

abbrev pub given_ty : Option Given → Option Ty
given_ty None = None
given_ty (Some g) = Some g.ty

abbrev pub given_tree : List TyForm → TyVar → Option Given → Tree
given_tree forms v None = Variable v
given_tree forms v (Some g) = tree forms g.ty.0

-- what stands for a variable: the first type that is given for its number, else itself
abbrev pub given_types : List TyForm → List Given → TyVar → Tree
given_types forms given v = given_tree forms v (find (λ g. nat_eq g.num v.num) given)

abbrev pub AreGiven : List TyForm → List Given → Type 0
AreGiven forms given = AllByRecursion (λ g. g.ty.0 < length forms) given

-- the parts of a form have their copies
abbrev pub ArePartsCopied : List TyForm → List Given → ℕ → List Ty → TyForm → Type 0
ArePartsCopied forms given first copies form = AllByRecursion (λ c. (moved first copies c < length forms) × (tree forms (moved first copies c) ≡ inst (given_types forms given) (tree forms c))) (parts_of form)

-- what the forms from one number to another take from before has no variable for which a type is given
abbrev pub IsClosed : List TyForm → List Given → ℕ → ℕ → Type 0
IsClosed forms given first end = (i : ℕ) (form : TyForm) → first ≤ i → i < end → slice_get forms i ≡ Some form → AllByRecursion (λ c. c < first → inst (given_types forms given) (tree forms c) ≡ tree forms c) (parts_of form)

-- the forms from number first up to i are copied
pub record AreCopied (old : List TyForm) (given : List Given) (first i : ℕ) (forms : List TyForm) (copies : List Ty) : Type 0 where
  pub longer : IsLonger old forms
  pub count : first + length copies ≡ i
  pub copied : (k : ℕ) → first ≤ k → k < i → (moved first copies k < length forms) × (tree forms (moved first copies k) ≡ inst (given_types old given) (tree old k))

-- all variables of the later forms are old ones
abbrev pub AreOldVars : List TyForm → List TyForm → Type 0
AreOldVars old forms = (i : ℕ) (v : TyVar) → slice_get forms i ≡ Some (Var v) → slice_get old i ≡ Some (Var v)
