use Rattle.std.proofs.Common.{ℕ, refl, subst}
use Rattle.sml_types.specs.Forms.{AreForms}
use Rattle.infer_state.specs.declared.unknowns.Unknowns.{Unknowns}
use Rattle.sml_infer.specs.Begun.{AreNone}
use Rattle.sml_infer.proofs.start.begin.Goals as goal

pub returns : goal.returns
returns c =
    record {
      below = refl;
      done = refl;
      unknowns = refl;
      forms = subst (λ (k : Unknowns). AreForms k.types) c.unknowns.view_is c.unknowns.invariant;
      settled = subst (λ (n : ℕ). AreNone n c.in_ok-settled.settled.items) c.len-2.ensures c.in_ok-settled.ensures;
      behind = subst (λ (n : ℕ). AreNone n c.in_ok-behind.behind.items) c.len-4.ensures c.in_ok-behind.ensures;
      first = c.in_ok-scopes.ensures.first;
      opened = c.in_ok-scopes.ensures.closed;
    }
