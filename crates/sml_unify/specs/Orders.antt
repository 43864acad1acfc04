-- Types in an order in which the parts of each come first.
use Rattle.std.specs.Prelude.{◌≡◌, ℕ, true, Option, Some, List, [], ◌∷◌, ◌++◌, map, slice_get}
use Rattle.std.specs.List.{AllByRecursion}
use Rattle.sml_types.specs.declared.types.Ty.{Ty}
use Rattle.sml_types.specs.declared.types.TyForm.{TyForm}
use Rattle.sml_types.specs.Forms.{parts_of}
use Rattle.sml_unify.specs.declared.order.Headed.{Headed}
use Rattle.sml_unify.specs.declared.order.Step.{Step}
use Rattle.sml_unify.specs.declared.order.Step.TheVariants.{Reach, Note}
use Rattle.sml_unify.specs.Solved.{IsFree, IsSameType}
use Rattle.sml_unify.specs.Steps.{logged}

-- the numbers that were come to
abbrev pub reached : List Headed → List ℕ
reached order = map (λ e. e.ty.0) order

-- the parts of a type's form were come to before
pub record IsReady (forms : List TyForm) (before : List ℕ) (e : Headed) : Type 0 where
  pub form : TyForm
  pub here : slice_get forms e.head.0 ≡ Some form
  pub parts : AllByRecursion (λ c. logged before c ≡ true) (parts_of form)

abbrev pub AreReady : List TyForm → List ℕ → List Headed → Type 0
AreReady forms before [] = Unit {0}
AreReady forms before (e ∷ order) = IsReady forms before e × AreReady forms (before ++ e.ty.0 ∷ []) order

-- a type leads to its head through variables that are bound
pub record IsHeaded (forms : List TyForm) (bound : List (Option Ty)) (e : Headed) : Type 0 where
  pub free : IsFree forms bound e.head.0
  pub same : IsSameType forms bound e.ty.0 e.head.0

pub record IsOrder (forms : List TyForm) (bound : List (Option Ty)) (ty : ℕ) (order : List Headed) : Type 0 where
  pub ready : AreReady forms [] order
  pub headed : AllByRecursion (IsHeaded forms bound) order
  pub root : logged (reached order) ty ≡ true

abbrev pub reach : ℕ → Step
reach i = Reach (record { 0 = i })

-- a form is opened: its parts are to be come to, and then it is noted
abbrev pub opening : Headed → TyForm → List Step
opening e form = Note e ∷ map reach (parts_of form)
