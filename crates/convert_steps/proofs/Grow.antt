-- Scopes, frames and tasks that become more.
use Rattle.std.proofs.Common.{◌≡◌, ℕ, suc, Bool, List, [], ◌∷◌, ◌++◌, Some, length, sym, ap, ◌∙◌, subst, arith}
use Rattle.std.specs.Prelude.{slice_get}
use Rattle.simulation.proofs.Lists.{get_append, get_last, length_last}
use Rattle.lambda_ir.specs.declared.term.Term.{Term}
use Rattle.convert_laws.specs.Convert.{Scope, Kon, Text}
use Rattle.convert_scopes.specs.declared.scopes.Bound.{Bound}
use Rattle.convert_scopes.specs.Scopes.{Scopes, IsScope}
use Rattle.convert_steps.specs.declared.task.Continuation.{Continuation}
use Rattle.convert_steps.specs.declared.task.Continuation.TheVariants as continuation
use Rattle.convert_steps.specs.declared.task.Frame.{Frame}
use Rattle.convert_steps.specs.declared.task.Task.{Task}
use Rattle.convert_steps.specs.declared.world.World.{World}
use Rattle.convert_steps.specs.Codes.{IsKon, called, text, awaits_code}
use Rattle.convert_steps.specs.Writes.{Grows, Stands}

module _ (own : ℕ → Bool) (terms : List Term) where
  kon_grows : (bounds others : List Bound) (frames more : List Frame) → ((u : ℕ) (σ : Scope) → IsScope bounds u σ → IsScope others u σ) → ((r : ℕ) (f : Frame) → slice_get frames r ≡ Some f → slice_get more r ≡ Some f) → (k : Continuation) (κ : Kon) → IsKon own terms bounds frames k κ → IsKon own terms others more k κ
  kon_grows bounds others frames more h g _ _ (called a) = called a
  kon_grows bounds others frames more h g _ _ (text r f σ κ e s k) =
      text r f σ κ (g r f e) (h f.scope σ s) (kon_grows bounds others frames more h g f.continuation κ k)

  pub grows_none : (w : World) → Grows own terms w w
  grows_none w = record { scopes = λ u σ s. s; kons = λ k κ h. h; tasks = λ b t e. e; more = omega arith }

  pub grows_then : (u v w : World) → Grows own terms u v → Grows own terms v w → Grows own terms u w
  grows_then u v w g h = record {
    scopes = λ n σ s. h.scopes n σ (g.scopes n σ s);
    kons = λ k κ s. h.kons k κ (g.kons k κ s);
    tasks = λ b t e. h.tasks b t (g.tasks b t e);
    more = omega (arith, g.more, h.more);
  }

  pub grows_begun : (w v : World) (t : Task) → v ≡ record w { tasks = w.tasks ++ t ∷ [] } → Grows own terms w v
  grows_begun w v t e =
      subst (Grows own terms w) (sym e) (record {
        scopes = λ u σ s. s;
        kons = λ k κ h. h;
        tasks = λ b u g. get_append w.tasks (t ∷ []) b u g;
        more = omega (arith, length_last w.tasks t);
      })

  pub grows_framed : (w v : World) (f : Frame) → v ≡ record w { frames = w.frames ++ f ∷ [] } → Grows own terms w v
  grows_framed w v f e =
      subst (Grows own terms w) (sym e) (record {
        scopes = λ u σ s. s;
        kons = λ k κ h. kon_grows w.scopes.bounds w.scopes.bounds w.frames (w.frames ++ f ∷ []) (λ u σ s. s) (λ r g e. get_append w.frames (f ∷ []) r g e) k κ h;
        tasks = λ b u g. g;
        more = omega arith;
      })

  pub grows_scopes : (w v : World) (s : Scopes) → v ≡ record w { scopes = s } → ((u : ℕ) (σ : Scope) → IsScope w.scopes.bounds u σ → IsScope s.bounds u σ) → Grows own terms w v
  grows_scopes w v s e h =
      subst (Grows own terms w) (sym e) (record {
        scopes = h;
        kons = λ k κ g. kon_grows w.scopes.bounds s.bounds w.frames w.frames h (λ r f i. i) k κ g;
        tasks = λ b u g. g;
        more = omega arith;
      })

  pub stands_on : (w v : World) (scope : ℕ) (k : Continuation) (σ : Scope) (κ : Kon) → Grows own terms w v → Stands own terms w scope k σ κ → Stands own terms v scope k σ κ
  stands_on w v scope k σ κ g s = record { in_scope = g.scopes scope σ s.in_scope; before = g.kons k κ s.before }

  -- a frame that was made stands for its text
  pub frame_stands : (w v : World) (f : Frame) (k : Continuation) (σ : Scope) (κ : Kon) → v ≡ record w { frames = w.frames ++ f ∷ [] } → k ≡ continuation.Text (length w.frames) → Stands own terms w f.scope f.continuation σ κ → Stands own terms v f.scope k σ (Text (awaits_code own terms f.awaits σ κ))
  frame_stands w v f k σ κ e ek s =
      let on = stands_on w v f.scope f.continuation σ κ (grows_framed w v f e) s in
      record {
        in_scope = on.in_scope;
        before =
            subst (λ c. IsKon own terms v.scopes.bounds v.frames c (Text (awaits_code own terms f.awaits σ κ))) (sym ek) (text (length w.frames) f σ κ (ap (λ (u : World). slice_get u.frames (length w.frames)) e ∙ get_last w.frames f) on.in_scope on.before);
      }

  pub begun_at : (w v : World) (t : Task) → v ≡ record w { tasks = w.tasks ++ t ∷ [] } → slice_get v.tasks (length w.tasks) ≡ Some t
  begun_at w v t e = ap (λ (u : World). slice_get u.tasks (length w.tasks)) e ∙ get_last w.tasks t

  pub begun_more : (w v : World) (t : Task) → v ≡ record w { tasks = w.tasks ++ t ∷ [] } → length v.tasks ≡ suc (length w.tasks)
  begun_more w v t e = ap (λ (u : World). length u.tasks) e ∙ length_last w.tasks t
