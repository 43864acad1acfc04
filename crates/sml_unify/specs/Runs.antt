-- What it means to take two forms apart.
use Rattle.std.specs.Prelude.{◌≡◌, Some, Result, Ok, Err, List, ◌∷◌, ◌++◌, length, slice_get}
use Rattle.sml_types.specs.declared.types.TyForm.{TyForm}
use Rattle.sml_types.specs.Forms.{parts_of, head_of}
use Rattle.sml_unify.specs.declared.pair.Pair.{Pair}
use Rattle.sml_unify.specs.declared.task.Task.{Task}
use Rattle.sml_unify.specs.declared.task.Task.TheVariants.{Link}
use Rattle.sml_unify.specs.declared.error.UnifyError.{UnifyError}
use Rattle.sml_unify.specs.declared.error.UnifyError.TheVariants.{Clash, NoMemory}
use Rattle.sml_unify.specs.Tasks.{parts_tasks}

-- both forms make the same of equally many parts
abbrev pub IsLike : TyForm → TyForm → Type 0
IsLike a b = (head_of a ≡ head_of b) × (length (parts_of a) ≡ length (parts_of b))

-- the forms of a pair
pub record AreForms (forms : List TyForm) (p : Pair) (a b : TyForm) : Type 0 where
  pub left : slice_get forms p.left.0 ≡ Some a
  pub right : slice_get forms p.right.0 ≡ Some b

-- a pair of forms is linked once the pairs of their parts are equal, or clashes
abbrev pub IsOpened : List TyForm → Pair → List Task → List Task → Result Unit UnifyError → Type 0
IsOpened forms p before after (Ok _) = (a b : TyForm) → AreForms forms p a b → IsLike a b × (after ≡ before ++ Link p ∷ parts_tasks (parts_of a) (parts_of b))
IsOpened forms p before after (Err Clash) = (a b : TyForm) → AreForms forms p a b → IsLike a b → ⊥
IsOpened forms p before after (Err NoMemory) = Unit {0}
IsOpened forms p before after (Err _) = ⊥
