-- A group in front of a body.
use Rattle.std.proofs.Common.{◌≡◌, ℕ, suc, ◌+◌, Bool, List, [], ◌∷◌, ◌++◌, length, map, flat_map, refl, sym, ap, ◌∙◌, subst, arith}
use Rattle.sml_tree.specs.declared.bare.RecBinding.{RecBinding}
use Rattle.lambda_ir.specs.declared.term.Term.{Term}
use Rattle.cps_ir.specs.declared.body.Bind.{Bind}
use Rattle.cps_ir.specs.declared.body.Bind.TheVariants as made
use Rattle.cps_ir.specs.declared.body.Function.{Function as Entry}
use Rattle.cps_ir.specs.Code.{Code, NoFunction, Function, Fix}
use Rattle.cps_ir.specs.Kept.{bind_parts}
use Rattle.cps_ir.specs.Program.{functions_of, code_of_binds}
use Rattle.cps_ir.specs.State.{bind}
use Rattle.convert_laws.specs.Convert.{Scope, variable, group_of, scope_group, size_at}
use Rattle.convert_scopes.specs.Scopes.{Scopes, IsScope}
use Rattle.convert_pieces.specs.declared.names.BoundName.{BoundName}
use Rattle.convert_pieces.specs.Names.{bound_to, group_names}
use Rattle.convert_pieces.proofs.Emits.{binds_more, parts_more}
use Rattle.convert_steps.specs.declared.task.Continuation.{Continuation}
use Rattle.convert_steps.specs.declared.task.Step.TheVariants as step
use Rattle.convert_steps.specs.declared.task.Work.TheVariants as work
use Rattle.convert_steps.specs.declared.world.World.{World}
use Rattle.convert_steps.specs.Codes.{conv}
use Rattle.convert_steps.specs.Writes.{Writes}
use Rattle.convert_steps.proofs.Grow.{grows_then, grows_scopes}
use Rattle.convert_steps.proofs.Write.{lead_writes, same_from}
use Rattle.convert_groups.specs.Groups.{on_top, Begun, group_code}

on_top_all : (body : ℕ → Code) (fs : List Entry) → on_top body fs NoFunction ≡ functions_of body fs
on_top_all body [] = refl
on_top_all body (f ∷ fs) = ap (Function f.name f.point f.params (body f.body)) (on_top_all body fs)

module _ (own : ℕ → Bool) (terms : List Term) where
  group_bound : (bindings : List RecBinding) (n : ℕ) (σ : Scope) → bound_to (group_names bindings n) σ ≡ scope_group own terms bindings n σ
  group_bound [] n σ = refl
  group_bound (b ∷ bindings) n σ = ap (λ (τ : Scope). bind τ b.name.0 (variable n)) (group_bound bindings (suc n) σ)

  pub group_written : (w x : World) (bs ds : List Bind) (bindings : List RecBinding) (s z : Scopes) (names there : List BoundName) (d body scope inside n first later size : ℕ) (k : Continuation) (fs : List Entry) → first ≡ n + length bindings → size ≡ size_at terms d → later ≡ n + size → names ≡ group_names bindings n → there ≡ names → s.bounds ≡ w.scopes.bounds → s.present ≡ scope
      → ((u : ℕ) (σ : Scope) → IsScope s.bounds u σ → IsScope z.bounds u σ) → ((σ : Scope) → IsScope s.bounds s.present σ → IsScope z.bounds z.present (bound_to there σ)) → inside ≡ z.present → Begun own terms (record w { scopes = z }) x inside fs (λ σ. group_of own terms (conv own terms) bindings n σ first) (λ σ. NoFunction) → ds ≡ bs ++ made.Fix fs ∷ []
      → Writes own terms w bs x ds (group_code own terms bindings d body n) scope k (step.Go (record { work = work.Term body; scope = inside; continuation = k; next = later }))
  group_written w x bs ds bindings s z names there d body scope inside n first later size k fs ef es el en et eb ep kept into ei begun ed =
      let v : World = record w { scopes = z } in
      let on = grows_scopes own terms w v z refl (λ u σ i. kept u σ (subst (λ q. IsScope q u σ) (sym eb) i)) in
      let all = grows_then own terms w v x on begun.grows in
      lead_writes own terms w x bs ds (group_code own terms bindings d body n) scope k (record { work = work.Term body; scope = inside; continuation = k; next = later }) (record {
        grows = all;
        bodies =
            λ from a.
            same_from from (length x.tasks) (flat_map bind_parts bs ++ map (λ f. f.body) fs) (flat_map bind_parts ds) (sym (ap (flat_map bind_parts) ed ∙ parts_more bs (made.Fix fs))) (begun.bodies from (flat_map bind_parts bs) a);
        code =
            λ code codes σ κ st.
            let τ : Scope = scope_group own terms bindings n σ in
            let bound : bound_to there σ ≡ τ = ap (λ ns. bound_to ns σ) (et ∙ en) ∙ group_bound bindings n σ in
            let here : IsScope z.bounds inside τ = subst (λ p. IsScope z.bounds p τ) (sym ei) (subst (λ t. IsScope z.bounds z.present t) bound (into σ (subst (λ p. IsScope s.bounds p σ) (sym ep) (subst (λ q. IsScope q scope σ) (sym eb) st.in_scope)))) in
            let functions : group_of own terms (conv own terms) bindings n τ (n + length bindings) ≡ functions_of code fs = ap (group_of own terms (conv own terms) bindings n τ) (sym ef) ∙ begun.code code codes τ here ∙ on_top_all code fs in
            record {
              σ = τ;
              κ = κ;
              stands = record { in_scope = begun.grows.scopes inside τ here; before = all.kons k κ st.before };
              code =
                  ap (code_of_binds code bs) (ap (λ g. Fix g (conv own terms body τ κ (n + size_at terms d))) functions ∙ ap (λ m. Fix (functions_of code fs) (conv own terms body τ κ m)) (omega (arith, es, el)))
                  ∙ sym (binds_more code bs (made.Fix fs) (conv own terms body τ κ later))
                  ∙ ap (λ xs. code_of_binds code xs (conv own terms body τ κ later)) (sym ed);
            };
      })
