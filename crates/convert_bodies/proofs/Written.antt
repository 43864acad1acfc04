-- Bodies that are written one after another.
use Rattle.std.proofs.Common.{◌≡◌, ℕ, zero, suc, ◌+◌, Bool, List, [], ◌∷◌, ◌++◌, ◌≤◌, Some, None, length, sym, ap, ◌∙◌, subst, arith, slice_get}
use Rattle.lambda_ir.specs.declared.term.Term.{Term}
use Rattle.cps_ir.specs.declared.body.Body.{Body}
use Rattle.convert_steps.specs.declared.task.Task.{Task}
use Rattle.convert_steps.specs.declared.task.Step.TheVariants as step
use Rattle.convert_steps.specs.declared.world.World.{World}
use Rattle.convert_steps.specs.Codes.{work_code}
use Rattle.convert_steps.specs.Writes.{Writes}
use Rattle.convert_bodies.specs.Bodies.{AreWritten, none, more}

pub no_more : {A : Type 0} (xs : List A) (i : ℕ) → slice_get xs i ≡ None → length xs ≤ i
no_more [] i e = omega arith
no_more (x ∷ xs) zero e = absurd cc
no_more (x ∷ xs) (suc i) e = let h = no_more xs i e in omega arith

module _ (own : ℕ → Bool) (terms : List Term) where
  one_more : (w u x : World) (at : ℕ) (bodies : List Body) (t : Task) (b : Body) → AreWritten own terms w at bodies u → slice_get u.tasks (at + length bodies) ≡ Some t → Writes own terms u [] x b.binds (λ σ κ. work_code own terms t.work σ κ t.next) t.scope t.continuation (step.Stop b.end) → AreWritten own terms w at (bodies ++ b ∷ []) x
  one_more _ _ x _ _ t b (none w at) e h = more w x x at t b [] (ap (slice_get w.tasks) (omega arith) ∙ e) h (none x (suc at))
  one_more _ _ x _ _ t b (more w v u at s c bodies here first later) e h =
      more w v x at s c (bodies ++ b ∷ []) here first (one_more v u x (suc at) bodies t b later (ap (slice_get u.tasks) (omega arith) ∙ e) h)

  pub written_none : (w : World) (bodies : List Body) → bodies ≡ [] → AreWritten own terms w 0 bodies w
  written_none w bodies e = subst (λ bs. AreWritten own terms w 0 bs w) (sym e) (none w 0)

  pub written_more : (w u x : World) (at : ℕ) (bodies all : List Body) (t : Task) (b : Body) → AreWritten own terms w 0 bodies u → length bodies ≡ at → slice_get u.tasks at ≡ Some t → Writes own terms u [] x b.binds (λ σ κ. work_code own terms t.work σ κ t.next) t.scope t.continuation (step.Stop b.end) → all ≡ bodies ++ b ∷ [] → AreWritten own terms w 0 all x
  written_more w u x at bodies all t b written many here h e =
      subst (λ bs. AreWritten own terms w 0 bs x) (sym e) (one_more w u x 0 bodies t b written (ap (slice_get u.tasks) (omega (arith, many)) ∙ here) h)
