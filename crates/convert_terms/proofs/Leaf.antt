-- Names and constants, and what is no value.
use Rattle.std.proofs.Common.{◌≡◌, ℕ, Bool, List, Some, None, refl, sym, ap, ◌∙◌, subst}
use Rattle.std.proofs.Math.Path.{fun_ext}
use Rattle.lambda_ir.specs.declared.term.Term.{Term}
use Rattle.cps_ir.specs.declared.atom.Atom.{Atom}
use Rattle.cps_ir.specs.declared.body.Bind.{Bind}
use Rattle.cps_ir.specs.declared.body.End.TheVariants as end
use Rattle.convert_laws.specs.Convert.{Scope, Kon}
use Rattle.convert_scopes.specs.Scopes.{Scopes, IsScope, atom_in}
use Rattle.convert_steps.specs.declared.task.Continuation.{Continuation}
use Rattle.convert_steps.specs.declared.task.Step.TheVariants as step
use Rattle.convert_steps.specs.declared.task.Work.TheVariants as work
use Rattle.convert_steps.specs.declared.world.World.{World}
use Rattle.convert_steps.specs.Writes.{Stands, Writes}
use Rattle.convert_steps.proofs.Write.{goes_same, stops}
use Rattle.convert_steps.proofs.Resumed.{gone_to}
use Rattle.convert_terms.specs.Leaves.{leaf, leaf_code}

module _ (own : ℕ → Bool) (terms : List Term) where
  -- the atom is that of the present scope
  here : (w : World) (z : Scopes) (t : Term) (scope : ℕ) (k : Continuation) (σ : Scope) (κ : Kon) → ((τ : Scope) → IsScope z.bounds z.present τ → (x : ℕ) → atom_in z.table x ≡ τ x) → Stands own terms (record w { scopes = z }) z.present k σ κ → leaf (atom_in z.table) t ≡ leaf σ t
  here w z t scope k σ κ table st = ap (λ (τ : Scope). leaf τ t) (fun_ext (table σ st.in_scope))

  pub leaf_given : (w : World) (bs : List Bind) (z : Scopes) (t : Term) (scope n : ℕ) (k : Continuation) (a : Atom) → z.bounds ≡ w.scopes.bounds → z.present ≡ scope → ((τ : Scope) → IsScope z.bounds z.present τ → (x : ℕ) → atom_in z.table x ≡ τ x) → leaf (atom_in z.table) t ≡ Some a → Writes own terms w bs (record w { scopes = z }) bs (λ σ κ. leaf_code (leaf σ t) κ n) scope k (step.Go (record { work = work.Give a; scope = scope; continuation = k; next = n }))
  leaf_given w bs z t scope n k a eb ep table e =
      let x : World = record w { scopes = z } in
      gone_to own terms w x bs bs z (λ σ κ. leaf_code (leaf σ t) κ n) scope k (step.Go (record { work = work.Give a; scope = scope; continuation = k; next = n })) eb ep
      (subst (λ p. Writes own terms x bs x bs (λ σ κ. leaf_code (leaf σ t) κ n) z.present k (step.Go (record { work = work.Give a; scope = p; continuation = k; next = n }))) ep
      (goes_same own terms x bs (λ σ κ. leaf_code (leaf σ t) κ n) (record { work = work.Give a; scope = z.present; continuation = k; next = n })
      (λ σ κ st. ap (λ o. leaf_code o κ n) (sym (here w z t scope k σ κ table st) ∙ e))))

  pub leaf_none : (w : World) (bs : List Bind) (z : Scopes) (t : Term) (scope n : ℕ) (k : Continuation) → z.bounds ≡ w.scopes.bounds → z.present ≡ scope → ((τ : Scope) → IsScope z.bounds z.present τ → (x : ℕ) → atom_in z.table x ≡ τ x) → leaf (atom_in z.table) t ≡ None → Writes own terms w bs (record w { scopes = z }) bs (λ σ κ. leaf_code (leaf σ t) κ n) scope k (step.Stop end.Halt)
  leaf_none w bs z t scope n k eb ep table e =
      let x : World = record w { scopes = z } in
      gone_to own terms w x bs bs z (λ σ κ. leaf_code (leaf σ t) κ n) scope k (step.Stop end.Halt) eb ep
      (stops own terms x bs (λ σ κ. leaf_code (leaf σ t) κ n) z.present k end.Halt refl (λ body σ κ st. ap (λ o. leaf_code o κ n) (sym (here w z t scope k σ κ table st) ∙ e)))
