-- Declarations of exception names.
use Rattle.std.proofs.Common.{◌≡◌, ℕ, ◌+◌, Bool, List, [], ◌∷◌, ◌++◌, refl, sym, ap, ◌∙◌, subst, arith}
use Rattle.std.proofs.Math.Path.{fun_ext}
use Rattle.sml_tree.specs.declared.bare.Con.{Con}
use Rattle.lambda_ir.specs.declared.term.Term.{Term}
use Rattle.cps_ir.specs.declared.atom.Atom.{Atom}
use Rattle.cps_ir.specs.declared.atom.Shape.TheVariants as shape
use Rattle.cps_ir.specs.declared.body.Bind.{Bind}
use Rattle.cps_ir.specs.declared.body.Bind.TheVariants as made
use Rattle.cps_ir.specs.State.{bind}
use Rattle.cps_ir.specs.Code.{Code, Make}
use Rattle.convert_laws.specs.Convert.{Scope, Kon, variable, con_atom}
use Rattle.convert_scopes.specs.Scopes.{Scopes, IsScope, atom_in}
use Rattle.convert_steps.specs.declared.task.Continuation.{Continuation}
use Rattle.convert_steps.specs.declared.task.Step.TheVariants as step
use Rattle.convert_steps.specs.declared.task.Work.TheVariants as work
use Rattle.convert_steps.specs.declared.world.World.{World}
use Rattle.convert_steps.specs.Codes.{conv}
use Rattle.convert_steps.specs.Exceptions.{new_code, same_code}
use Rattle.convert_steps.specs.Writes.{Leads, Writes}
use Rattle.convert_steps.proofs.Grow.{grows_scopes}
use Rattle.convert_steps.proofs.Write.{binds_one, leads_then, leads_to, lead_writes}

module _ (own : ℕ → Bool) (terms : List Term) where
  -- one name comes into scope
  named : (w : World) (bs : List Bind) (s z : Scopes) (x body scope n : ℕ) (a : Scope → Atom) (k : Continuation) → s.bounds ≡ w.scopes.bounds → s.present ≡ scope → ((u : ℕ) (σ : Scope) → IsScope s.bounds u σ → IsScope z.bounds u σ) → ((σ : Scope) → IsScope s.bounds s.present σ → IsScope z.bounds z.present (bind σ x (a σ))) → Leads own terms w bs (record w { scopes = z }) bs (λ σ κ. conv own terms body (bind σ x (a σ)) κ n) scope k (λ σ κ. conv own terms body σ κ n) z.present k
  named w bs s z x body scope n a k eb ep kept into =
      let on = grows_scopes own terms w (record w { scopes = z }) z refl (λ u σ y. kept u σ (subst (λ q. IsScope q u σ) (sym eb) y)) in
      leads_to own terms w (record w { scopes = z }) bs (λ σ κ. conv own terms body (bind σ x (a σ)) κ n) (λ σ κ. conv own terms body σ κ n) scope z.present k k on refl
      (λ code σ κ st. record {
        σ = bind σ x (a σ);
        κ = κ;
        stands = record { in_scope = into σ (subst (λ p. IsScope s.bounds p σ) (sym ep) (subst (λ q. IsScope q scope σ) (sym eb) st.in_scope)); before = on.kons k κ st.before };
        code = refl;
      })

  pub new_written : (w : World) (bs ds : List Bind) (s z : Scopes) (x body scope n later present : ℕ) (atoms : List Atom) (k : Continuation) → atoms ≡ [] → ds ≡ bs ++ made.Make n (shape.ExnName x) atoms ∷ [] → later ≡ n + 1 → s.bounds ≡ w.scopes.bounds → s.present ≡ scope → ((u : ℕ) (σ : Scope) → IsScope s.bounds u σ → IsScope z.bounds u σ) → ((σ : Scope) → IsScope s.bounds s.present σ → IsScope z.bounds z.present (bind σ x (variable n))) → present ≡ z.present → Writes own terms w bs (record w { scopes = z }) ds (new_code own terms x body n) scope k (step.Go (record { work = work.Term body; scope = present; continuation = k; next = later }))
  new_written w bs ds s z x body scope n later present atoms k ea ed el eb ep kept into eq =
      let mid : Scope → Kon → Code = λ σ κ. conv own terms body (bind σ x (variable n)) κ later in
      lead_writes own terms w (record w { scopes = z }) bs ds (new_code own terms x body n) scope k (record { work = work.Term body; scope = present; continuation = k; next = later })
      (subst (λ p. Leads own terms w bs (record w { scopes = z }) ds (new_code own terms x body n) scope k (λ σ κ. conv own terms body σ κ later) p k) (sym eq)
      (leads_then own terms w w (record w { scopes = z }) bs ds ds (new_code own terms x body n) mid (λ σ κ. conv own terms body σ κ later) scope scope z.present k k k
      (binds_one own terms w bs ds (made.Make n (shape.ExnName x) []) (new_code own terms x body n) mid scope k (ed ∙ ap (λ xs. bs ++ made.Make n (shape.ExnName x) xs ∷ []) ea) refl (λ code σ κ st. ap (λ m. Make n (shape.ExnName x) [] (conv own terms body (bind σ x (variable n)) κ m)) (omega (arith, el))))
      (named w ds s z x body scope later (λ σ. variable n) k eb ep kept into)))

  pub same_written : (w : World) (bs : List Bind) (s z : Scopes) (x body scope n present : ℕ) (c : Con) (a : Atom) (k : Continuation) → a ≡ con_atom (atom_in s.table) c → ((σ : Scope) → IsScope s.bounds s.present σ → (y : ℕ) → atom_in s.table y ≡ σ y) → s.bounds ≡ w.scopes.bounds → s.present ≡ scope → ((u : ℕ) (σ : Scope) → IsScope s.bounds u σ → IsScope z.bounds u σ) → ((σ : Scope) → IsScope s.bounds s.present σ → IsScope z.bounds z.present (bind σ x a)) → present ≡ z.present → Writes own terms w bs (record w { scopes = z }) bs (same_code own terms x c body n) scope k (step.Go (record { work = work.Term body; scope = present; continuation = k; next = n }))
  same_written w bs s z x body scope n present c a k ea table eb ep kept into eq =
      lead_writes own terms w (record w { scopes = z }) bs bs (same_code own terms x c body n) scope k (record { work = work.Term body; scope = present; continuation = k; next = n })
      (subst (λ p. Leads own terms w bs (record w { scopes = z }) bs (same_code own terms x c body n) scope k (λ σ κ. conv own terms body σ κ n) p k) (sym eq)
      (named w bs s z x body scope n (λ σ. con_atom σ c) k eb ep kept
      (λ σ i. subst (λ b. IsScope z.bounds z.present (bind σ x b)) (ea ∙ ap (λ (τ : Scope). con_atom τ c) (fun_ext (table σ i))) (into σ i))))
