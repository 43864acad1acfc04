-- One step after another of what is left of a body.
use Rattle.std.proofs.Common.{◌≡◌, ℕ, Bool, List, [], refl, sym, subst}
use Rattle.lambda_ir.specs.declared.term.Term.{Term}
use Rattle.cps_ir.specs.declared.atom.Atom.{Atom}
use Rattle.cps_ir.specs.declared.body.Bind.{Bind}
use Rattle.cps_ir.specs.declared.body.End.TheVariants as end
use Rattle.convert_steps.specs.declared.task.Continuation.{Continuation}
use Rattle.convert_steps.specs.declared.task.Task.{Task}
use Rattle.convert_steps.specs.declared.task.Step.{Step}
use Rattle.convert_steps.specs.declared.task.Step.TheVariants as step
use Rattle.convert_steps.specs.declared.task.Work.{Work}
use Rattle.convert_steps.specs.declared.task.Work.TheVariants as work
use Rattle.convert_steps.specs.declared.world.World.{World}
use Rattle.convert_steps.specs.Codes.{work_code}
use Rattle.convert_steps.specs.Writes.{Writes}
use Rattle.convert_steps.proofs.Write.{goes_same, stops, writes_lead, leads_writes}

module _ (own : ℕ → Bool) (terms : List Term) where
  -- of work that is this
  pub at_work : (w v : World) (bs ds : List Bind) (y x : Work) (scope n : ℕ) (k : Continuation) (s : Step) → y ≡ x → Writes own terms w bs v ds (λ σ κ. work_code own terms x σ κ n) scope k s → Writes own terms w bs v ds (λ σ κ. work_code own terms y σ κ n) scope k s
  at_work w v bs ds y x scope n k s e h = subst (λ z. Writes own terms w bs v ds (λ σ κ. work_code own terms z σ κ n) scope k s) (sym e) h

  pub thrown : (w : World) (bs : List Bind) (a : Atom) (scope n : ℕ) (k : Continuation) → Writes own terms w bs w bs (λ σ κ. work_code own terms (work.Throw a) σ κ n) scope k (step.Stop (end.Throw a))
  thrown w bs a scope n k = stops own terms w bs (λ σ κ. work_code own terms (work.Throw a) σ κ n) scope k (end.Throw a) refl (λ body σ κ st. refl)

  -- a task writes its own code
  abbrev pub IsTask : World → List Bind → World → List Bind → Task → Step → Type 0
  IsTask w bs v ds t s = Writes own terms w bs v ds (λ σ κ. work_code own terms t.work σ κ t.next) t.scope t.continuation s

  pub not_begun : (w : World) (bs : List Bind) (t : Task) → bs ≡ [] → IsTask w [] w bs t (step.Go t)
  not_begun w bs t e =
      subst (λ ds. IsTask w [] w ds t (step.Go t)) (sym e) (goes_same own terms w [] (λ σ κ. work_code own terms t.work σ κ t.next) t (λ σ κ st. refl))

  pub and_then : (w v u : World) (bs cs ds : List Bind) (t r : Task) (s : Step) → IsTask w bs v cs t (step.Go r) → IsTask v cs u ds r s → IsTask w bs u ds t s
  and_then w v u bs cs ds t r s g h =
      leads_writes own terms w v u bs cs ds (λ σ κ. work_code own terms t.work σ κ t.next) (λ σ κ. work_code own terms r.work σ κ r.next) t.scope r.scope t.continuation r.continuation s
      (writes_lead own terms w v bs cs (λ σ κ. work_code own terms t.work σ κ t.next) t.scope t.continuation r g) h
