-- What a function that writes on does.
use Rattle.std.specs.Prelude.{◌≡◌, ℕ, ◌+◌, ◌≤◌, Bool, List, [], ◌++◌, Some, length, slice_get, flat_map}
use Rattle.sml_def.specs.Step.{count_up}
use Rattle.lambda_ir.specs.declared.term.Term.{Term}
use Rattle.cps_ir.specs.declared.body.Bind.{Bind}
use Rattle.cps_ir.specs.Code.{Code}
use Rattle.cps_ir.specs.Program.{code_of_binds, code_of_end}
use Rattle.cps_ir.specs.Kept.{bind_parts, end_parts}
use Rattle.convert_laws.specs.Convert.{Scope, Kon}
use Rattle.convert_scopes.specs.Scopes.{IsScope}
use Rattle.convert_steps.specs.declared.task.Continuation.{Continuation}
use Rattle.convert_steps.specs.declared.task.Task.{Task}
use Rattle.convert_steps.specs.declared.task.Step.{Step}
use Rattle.convert_steps.specs.declared.task.Step.TheVariants as step
use Rattle.convert_steps.specs.declared.world.World.{World}
use Rattle.convert_steps.specs.Codes.{IsKon, work_code}

-- the numbers are those from `from` on, up to `to`
pub record AreFrom (from to : ℕ) (numbers : List ℕ) : Type 0 where
  pub many : ℕ
  pub are : numbers ≡ count_up from many
  pub up : from + many ≡ to

module _ (own : ℕ → Bool) (terms : List Term) where
  -- what there was is there
  pub record Grows (w v : World) : Type 0 where
    pub scopes : (u : ℕ) (σ : Scope) → IsScope w.scopes.bounds u σ → IsScope v.scopes.bounds u σ
    pub kons : (k : Continuation) (κ : Kon) → IsKon own terms w.scopes.bounds w.frames k κ → IsKon own terms v.scopes.bounds v.frames k κ
    pub tasks : (b : ℕ) (t : Task) → slice_get w.tasks b ≡ Some t → slice_get v.tasks b ≡ Some t
    pub more : length w.tasks ≤ length v.tasks

  -- a scope and a continuation are those of these numbers
  pub record Stands (w : World) (scope : ℕ) (k : Continuation) (σ : Scope) (κ : Kon) : Type 0 where
    pub in_scope : IsScope w.scopes.bounds scope σ
    pub before : IsKon own terms w.scopes.bounds w.frames k κ

  -- the code of a task is that of each scope and continuation which it stands for
  abbrev pub IsCodeOf : World → Task → Code → Type 0
  IsCodeOf w t c = (σ : Scope) (κ : Kon) → Stands w t.scope t.continuation σ κ → c ≡ work_code own terms t.work σ κ t.next

  -- bodies from a number on have the codes of their tasks
  abbrev pub AreCodes : World → ℕ → (ℕ → Code) → Type 0
  AreCodes w from body =
      (b : ℕ) (t : Task) → from ≤ b → slice_get w.tasks b ≡ Some t → IsCodeOf w t (body b)

  pub record GoesOn (w : World) (t : Task) (c : Code) : Type 0 where
    pub scope : Scope
    pub kon : Kon
    pub stands : Stands w t.scope t.continuation scope kon
    pub code : c ≡ work_code own terms t.work scope kon t.next

  -- the code of what is left
  abbrev pub IsLeft : World → (ℕ → Code) → Step → Code → Type 0
  IsLeft w body (step.Go t) c = GoesOn w t c
  IsLeft w body (step.Stop e) c = c ≡ code_of_end body e

  abbrev pub step_parts : Step → List ℕ
  step_parts (step.Go t) = []
  step_parts (step.Stop e) = end_parts e

  pub record Leaves (w : World) (body : ℕ → Code) (ds : List Bind) (s : Step) (c : Code) (bs : List Bind) : Type 0 where
    pub rest : Code
    pub left : IsLeft w body s rest
    pub code : code_of_binds body bs c ≡ code_of_binds body ds rest

  -- Code in a scope and in front of a continuation was begun: more is bound, and less is left. The bodies that it names are those that were begun with it.
  pub record Writes (w : World) (bs : List Bind) (v : World) (ds : List Bind) (f : Scope → Kon → Code) (scope : ℕ) (k : Continuation) (s : Step) : Type 0 where
    pub grows : Grows w v
    pub bodies : (from : ℕ) → AreFrom from (length w.tasks) (flat_map bind_parts bs) → AreFrom from (length v.tasks) (flat_map bind_parts ds ++ step_parts s)
    pub code : (body : ℕ → Code) → AreCodes v (length w.tasks) body → (σ : Scope) (κ : Kon) → Stands w scope k σ κ → Leaves v body ds s (f σ κ) bs

  pub record Led (v : World) (body : ℕ → Code) (bs ds : List Bind) (c : Code) (g : Scope → Kon → Code) (scope : ℕ) (k : Continuation) : Type 0 where
    pub σ : Scope
    pub κ : Kon
    pub stands : Stands v scope k σ κ
    pub code : code_of_binds body bs c ≡ code_of_binds body ds (g σ κ)

  -- what is written leads from code in one scope and in front of one continuation to code in another
  pub record Leads (w : World) (bs : List Bind) (v : World) (ds : List Bind) (f : Scope → Kon → Code) (scope : ℕ) (k : Continuation) (g : Scope → Kon → Code) (scope' : ℕ) (k' : Continuation) : Type 0 where
    pub grows : Grows w v
    pub bodies : (from : ℕ) → AreFrom from (length w.tasks) (flat_map bind_parts bs) → AreFrom from (length v.tasks) (flat_map bind_parts ds)
    pub code : (body : ℕ → Code) → AreCodes v (length w.tasks) body → (σ : Scope) (κ : Kon) → Stands w scope k σ κ → Led v body bs ds (f σ κ) g scope' k'
