-- Names that come into scope.
use Rattle.std.proofs.Common.{◌≤◌, drop, drop-cons, arith, ◌≡◌, ℕ, suc, ◌+◌, ◌<◌, Bool, List, ◌∷◌, Some, length, get_or, sym, ap, ◌∙◌, subst, flat_map}
use Rattle.std.specs.Prelude.{slice_get}
use Rattle.std.proofs.lemmas.Option.{slice_get-get_or}
use Rattle.smlc_base.specs.declared.match_tests.Named.{Named}
use Rattle.lambda_ir.specs.declared.term.Bind.{Bind as Bound}
use Rattle.lambda_ir.specs.declared.term.Case.{Case}
use Rattle.lambda_ir.specs.declared.term.Term.{Term}
use Rattle.cps_ir.specs.declared.atom.Atom.{Atom}
use Rattle.cps_ir.specs.declared.body.Bind.{Bind}
use Rattle.cps_ir.specs.Code.{Code}
use Rattle.cps_ir.specs.Kept.{bind_parts}
use Rattle.convert_laws.specs.Convert.{Scope, Kon, bind_names, binds_of, part}
use Rattle.convert_scopes.specs.Scopes.{Scopes, IsScope}
use Rattle.convert_pieces.specs.declared.names.BoundName.{BoundName}
use Rattle.convert_pieces.specs.Emitted.{Emitted}
use Rattle.convert_pieces.specs.Names.{bound_to}
use Rattle.convert_pieces.proofs.Ways.{none_past}
use Rattle.convert_steps.specs.declared.task.Awaits.TheVariants as awaits
use Rattle.convert_steps.specs.declared.task.Continuation.{Continuation}
use Rattle.convert_steps.specs.declared.task.Task.{Task}
use Rattle.convert_steps.specs.declared.task.Step.TheVariants as step
use Rattle.convert_steps.specs.declared.task.Work.TheVariants as work
use Rattle.convert_steps.specs.declared.world.World.{World}
use Rattle.convert_steps.specs.Codes.{conv, cases_at, binds_at, rule_code, right_code, after_code, part_code, bindings_code, work_code}
use Rattle.convert_steps.specs.Writes.{AreFrom, Leads, Writes}
use Rattle.convert_steps.proofs.Grow.{grows_scopes}
use Rattle.convert_steps.proofs.Write.{same_from, lead_writes, goes_same}
use Rattle.convert_steps.proofs.Ended.{writes_same}

module _ (own : ℕ → Bool) (terms : List Term) where
  -- fields are picked, and the names stand for them in a new scope
  pub entered : (w v : World) (bs ds : List Bind) (names : List Named) (a : Atom) (s : Scopes) (bound there : List BoundName) (scope n r : ℕ) (k : Continuation) (g : Scope → Kon → ℕ → Code) → ((σ : Scope) (rest : Scope → ℕ → Code) → Emitted bs ds (bind_names names a σ rest n) (rest (bound_to bound σ) r)) → s.bounds ≡ w.scopes.bounds → s.present ≡ scope → there ≡ bound → v ≡ record w { scopes = v.scopes } → ((u : ℕ) (σ : Scope) → IsScope s.bounds u σ → IsScope v.scopes.bounds u σ) → ((σ : Scope) → IsScope s.bounds s.present σ → IsScope v.scopes.bounds v.scopes.present (bound_to there σ)) → Leads own terms w bs v ds (λ σ κ. bind_names names a σ (λ τ m. g τ κ m) n) scope k (λ σ κ. g σ κ r) v.scopes.present k
  entered w v bs ds names a s bound there scope n r k g emits eb ep et ev kept into =
      let on : (u : ℕ) (σ : Scope) → IsScope w.scopes.bounds u σ → IsScope v.scopes.bounds u σ = λ u σ x. kept u σ (subst (λ z. IsScope z u σ) (sym eb) x) in
      let grows = grows_scopes own terms w v v.scopes ev on in
      record {
        grows = grows;
        bodies =
            λ from q.
            subst (λ m. AreFrom from m (flat_map bind_parts ds)) (sym (ap (λ (z : World). length z.tasks) ev)) (same_from from (length w.tasks) (flat_map bind_parts bs) (flat_map bind_parts ds) (sym (emits (λ x. a) (λ τ m. g τ (Rattle.convert_laws.specs.Convert.Known a) m)).bodies) q);
        code =
            λ body codes σ κ st.
            record {
              σ = bound_to bound σ;
              κ = κ;
              stands = record {
                in_scope =
                    subst (λ bn. IsScope v.scopes.bounds v.scopes.present (bound_to bn σ)) et
                    (into σ (subst (λ p. IsScope s.bounds p σ) (sym ep) (subst (λ z. IsScope z scope σ) (sym eb) st.in_scope)));
                before = grows.kons k κ st.before;
              };
              code = (emits σ (λ τ m. g τ κ m)).code body;
            };
      }

  pub rule_entered : (w v : World) (bs ds : List Bind) (t at scope n r present : ℕ) (a : Atom) (k : Continuation) (cases : List Case) (c : Case) (names : List Named) → cases ≡ cases_at terms t → at < length cases → c ≡ get_or cases at c → names ≡ c.names → present ≡ v.scopes.present → ((g : Scope → Kon → ℕ → Code) → Leads own terms w bs v ds (λ σ κ. bind_names names a σ (λ τ m. g τ κ m) n) scope k (λ σ κ. g σ κ r) v.scopes.present k) → Writes own terms w bs v ds (λ σ κ. work_code own terms (work.Rule t at a) σ κ n) scope k (step.Go (record { work = work.Term c.body; scope = present; continuation = k; next = r }))
  rule_entered w v bs ds t at scope n r present a k cases c names ec h here en ep leads =
      writes_same own terms w v bs ds (λ σ κ. work_code own terms (work.Rule t at a) σ κ n) (λ σ κ. bind_names names a σ (λ τ m. conv own terms c.body τ κ m) n) scope k (step.Go (record { work = work.Term c.body; scope = present; continuation = k; next = r }))
      (λ σ κ st.
      ap (λ o. rule_code own terms o a σ κ n) (ap (λ cs. slice_get cs at) (sym ec) ∙ slice_get-get_or cases at c h ∙ ap Some (sym here))
      ∙ ap (λ ns. bind_names ns a σ (λ τ m. conv own terms c.body τ κ m) n) (sym en))
      (lead_writes own terms w v bs ds (λ σ κ. bind_names names a σ (λ τ m. conv own terms c.body τ κ m) n) scope k (record { work = work.Term c.body; scope = present; continuation = k; next = r })
      (subst (λ p. Leads own terms w bs v ds (λ σ κ. bind_names names a σ (λ τ m. conv own terms c.body τ κ m) n) scope k (λ σ κ. conv own terms c.body σ κ r) p k) (sym ep) (leads (λ τ κ m. conv own terms c.body τ κ m))))

  pub bound_entered : (w v : World) (bs ds : List Bind) (d at body scope n r later present : ℕ) (a : Atom) (k : Continuation) (all : List Bound) (b : Bound) (names : List Named) → all ≡ binds_at terms d → at < length all → b ≡ get_or all at b → names ≡ b.names → later ≡ at + 1 → present ≡ v.scopes.present → ((g : Scope → Kon → ℕ → Code) → Leads own terms w bs v ds (λ σ κ. bind_names names a σ (λ τ m. g τ κ m) n) scope k (λ σ κ. g σ κ r) v.scopes.present k) → Writes own terms w bs v ds (λ σ κ. work_code own terms (work.Bound d at body a) σ κ n) scope k (step.Go (record { work = work.Bindings d later body; scope = present; continuation = k; next = r }))
  bound_entered w v bs ds d at body scope n r later present a k all b names ea h here en el ep leads =
      let g : Scope → Kon → ℕ → Code = λ σ κ m. bindings_code own terms d later body m σ κ in
      let up : suc at ≡ later = omega (arith, el) in
      writes_same own terms w v bs ds (λ σ κ. work_code own terms (work.Bound d at body a) σ κ n) (λ σ κ. bind_names names a σ (λ τ m. g τ κ m) n) scope k (step.Go (record { work = work.Bindings d later body; scope = present; continuation = k; next = r }))
      (λ σ κ st.
      ap (λ o. after_code own terms d at body o a σ κ n) (ap (λ xs. slice_get xs at) (sym ea) ∙ slice_get-get_or all at b h ∙ ap Some (sym here))
      ∙ ap (λ ns. bind_names ns a σ (λ τ m. bindings_code own terms d (suc at) body m τ κ) n) (sym en)
      ∙ ap (λ j. bind_names names a σ (λ τ m. bindings_code own terms d j body m τ κ) n) up)
      (lead_writes own terms w v bs ds (λ σ κ. bind_names names a σ (λ τ m. g τ κ m) n) scope k (record { work = work.Bindings d later body; scope = present; continuation = k; next = r })
      (subst (λ p. Leads own terms w bs v ds (λ σ κ. bind_names names a σ (λ τ m. g τ κ m) n) scope k (λ σ κ. g σ κ r) p k) (sym ep) (leads g)))

  pub bindings_ended : (w : World) (bs : List Bind) (d at body scope n : ℕ) (k : Continuation) (all : List Bound) → all ≡ binds_at terms d → length all ≤ at → Writes own terms w bs w bs (bindings_code own terms d at body n) scope k (step.Go (record { work = work.Term body; scope = scope; continuation = k; next = n }))
  bindings_ended w bs d at body scope n k all ea h =
      goes_same own terms w bs (bindings_code own terms d at body n) (record { work = work.Term body; scope = scope; continuation = k; next = n })
      (λ σ κ s. ap (λ xs. binds_of own terms (conv own terms) xs body σ κ n) (ap (drop at) (sym ea) ∙ none_past all at h))

  pub bindings_more : (w v : World) (bs ds : List Bind) (d at body scope n right : ℕ) (k : Continuation) (all : List Bound) (b : Bound) (t : Task) → all ≡ binds_at terms d → at < length all → right ≡ (get_or all at b).right → Writes own terms w bs v ds (part_code own terms right (awaits.Right d at body) n) scope k (step.Go t) → Writes own terms w bs v ds (bindings_code own terms d at body n) scope k (step.Go t)
  bindings_more w v bs ds d at body scope n right k all b t ea h er g =
      writes_same own terms w v bs ds (bindings_code own terms d at body n) (part_code own terms right (awaits.Right d at body) n) scope k (step.Go t)
      (λ σ κ s.
      let it : Bound = get_or all at b in
      let is : slice_get (binds_at terms d) at ≡ Some it = ap (λ xs. slice_get xs at) (sym ea) ∙ slice_get-get_or all at b h in
      ap (λ xs. binds_of own terms (conv own terms) xs body σ κ n) (ap (drop at) (sym ea) ∙ drop-cons all at b h)
      ∙ ap (λ xs. binds_of own terms (conv own terms) (it ∷ xs) body σ κ n) (ap (drop (suc at)) ea)
      ∙ ap (λ o. part own terms (conv own terms) it.right σ (right_code own terms d at body o σ κ) n) (sym is)
      ∙ ap (λ j. part own terms (conv own terms) j σ (right_code own terms d at body (slice_get (binds_at terms d) at) σ κ) n) (sym er)) g
