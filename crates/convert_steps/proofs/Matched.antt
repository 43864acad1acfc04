-- Rules on an atom.
use Rattle.std.proofs.Common.{◌<◌, ◌≤◌, arith, get_or, ◌≡◌, ◌+◌, ℕ, Bool, List, [], ◌∷◌, ◌++◌, Some, length, refl, sym, ap, ◌∙◌, subst, flat_map}
use Rattle.std.specs.Prelude.{slice_get}
use Rattle.std.proofs.Math.Path.{fun_ext}
use Rattle.std.proofs.lemmas.Option.{slice_get-get_or}
use Rattle.smlc_base.specs.declared.exception.LibraryExn.TheVariants as exn
use Rattle.smlc_base.specs.declared.match_tests.Test.{Test as LambdaTest}
use Rattle.lambda_ir.specs.declared.term.Bind.{Bind as Bound}
use Rattle.lambda_ir.specs.declared.term.Case.{Case}
use Rattle.lambda_ir.specs.declared.term.Term.{Term}
use Rattle.cps_ir.specs.declared.atom.Atom.{Atom}
use Rattle.cps_ir.specs.declared.atom.Constant.TheVariants as constant
use Rattle.cps_ir.specs.declared.atom.Test.{Test}
use Rattle.cps_ir.specs.declared.body.Bind.{Bind}
use Rattle.cps_ir.specs.declared.body.Rule.{Rule as Chosen}
use Rattle.cps_ir.specs.declared.body.End.TheVariants as end
use Rattle.cps_ir.specs.Code.{Code, Throw, Match, Otherwise, Rule}
use Rattle.cps_ir.specs.Kept.{bind_parts}
use Rattle.convert_laws.specs.Convert.{Scope, Kon, known, raise_exn, match_of, rule_of, tests_of, steps_of, size_at}
use Rattle.convert_scopes.specs.Scopes.{Scopes, IsScope, atom_in}
use Rattle.convert_steps.specs.declared.matches.Matching.TheVariants as way
use Rattle.convert_steps.specs.declared.rules.Choices.{Choices}
use Rattle.convert_steps.specs.declared.task.Awaits.TheVariants as awaits
use Rattle.convert_steps.specs.declared.task.Continuation.{Continuation}
use Rattle.convert_steps.specs.declared.task.Step.{Step}
use Rattle.convert_steps.specs.declared.task.Work.{Work}
use Rattle.convert_steps.specs.declared.task.Step.TheVariants as step
use Rattle.convert_steps.specs.declared.task.Work.TheVariants as work
use Rattle.convert_steps.specs.declared.world.World.{World}
use Rattle.convert_steps.specs.Codes.{cases_at, binds_at, rule_code, right_code, bound_code, after_code, awaits_code, work_code}
use Rattle.convert_steps.specs.Rows.{asked, matching_of, AreChoices, cases_code, match_code, tested_code}
use Rattle.convert_steps.specs.Writes.{Stands, Writes}
use Rattle.convert_steps.proofs.Grow.{grows_scopes, grows_then, stands_on}
use Rattle.convert_steps.proofs.Write.{stops, goes_same}
use Rattle.convert_steps.proofs.Ended.{writes_same}
use Rattle.convert_steps.proofs.Rowed.{with_tests, begun_none, one_more, ended, task_code}

asked_some : (ts : List LambdaTest) → 1 ≤ length ts → way.Tested ≡ asked ts
asked_some [] h = absurd (omega (arith, h))
asked_some (t ∷ ts) h = refl

pub is_tested : (cases : List Case) (c : Case) (ts : List LambdaTest) → 1 ≤ length cases → c ≡ get_or cases 0 c → ts ≡ c.tests → 1 ≤ length ts → way.Tested ≡ matching_of cases
is_tested [] c ts h here e g = absurd (omega (arith, h))
is_tested (d ∷ cases) c ts h here e g = asked_some ts g ∙ ap asked (e ∙ ap (λ (x : Case). x.tests) here)

module _ (own : ℕ → Bool) (terms : List Term) where
  none_thrown : (cases : List Case) (a thrown : Atom) (n : ℕ) (σ : Scope) (κ : Kon) → matching_of cases ≡ way.Nothing → match_of a (cases_code own terms cases a thrown n σ κ) ≡ Throw thrown
  none_thrown [] a thrown n σ κ e = refl
  none_thrown (c ∷ cases) a thrown n σ κ e = by c.tests e
    where
      by : (ts : List LambdaTest) → asked ts ≡ way.Nothing → match_of a (cases_code own terms (c ∷ cases) a thrown n σ κ) ≡ Throw thrown
      by [] e = absurd cc
      by (t ∷ ts) e = absurd cc

  first_chosen : (cases : List Case) (a thrown : Atom) (n : ℕ) (σ : Scope) (κ : Kon) → matching_of cases ≡ way.Chosen → match_of a (cases_code own terms cases a thrown n σ κ) ≡ rule_code own terms (slice_get cases 0) a σ κ n
  first_chosen [] a thrown n σ κ e = absurd cc
  first_chosen (c ∷ cases) a thrown n σ κ e = by c.tests refl e
    where
      by : (ts : List LambdaTest) → c.tests ≡ ts → asked ts ≡ way.Chosen → match_of a (cases_code own terms (c ∷ cases) a thrown n σ κ) ≡ rule_code own terms (slice_get (c ∷ cases) 0) a σ κ n
      by [] t e = ap (λ ts. match_of a (rule_of (tests_of σ ts) (rule_code own terms (Some c) a σ κ n) (cases_code own terms cases a thrown (n + (steps_of c.names + size_at terms c.body)) σ κ))) t
      by (t ∷ ts) u e = absurd cc

  all_tested : (cases : List Case) (a thrown : Atom) (n : ℕ) (σ : Scope) (κ : Kon) → matching_of cases ≡ way.Tested → match_of a (cases_code own terms cases a thrown n σ κ) ≡ Match a (cases_code own terms cases a thrown n σ κ)
  all_tested [] a thrown n σ κ e = absurd cc
  all_tested (c ∷ cases) a thrown n σ κ e = by c.tests refl e
    where
      by : (ts : List LambdaTest) → c.tests ≡ ts → asked ts ≡ way.Tested → match_of a (cases_code own terms (c ∷ cases) a thrown n σ κ) ≡ Match a (cases_code own terms (c ∷ cases) a thrown n σ κ)
      by [] t e = absurd cc
      by (t ∷ ts) u e =
          ap (λ xs. match_of a (rule_of (tests_of σ xs) (rule_code own terms (Some c) a σ κ n) (cases_code own terms cases a thrown (n + (steps_of c.names + size_at terms c.body)) σ κ))) u
          ∙ sym (ap (λ xs. Match a (rule_of (tests_of σ xs) (rule_code own terms (Some c) a σ κ n) (cases_code own terms cases a thrown (n + (steps_of c.names + size_at terms c.body)) σ κ))) u)

  pub matched_none : (w : World) (bs : List Bind) (t scope n : ℕ) (a thrown : Atom) (k : Continuation) → matching_of (cases_at terms t) ≡ way.Nothing → Writes own terms w bs w bs (match_code own terms t a thrown n) scope k (step.Stop (end.Throw thrown))
  matched_none w bs t scope n a thrown k e =
      stops own terms w bs (match_code own terms t a thrown n) scope k (end.Throw thrown) refl (λ body σ κ s. none_thrown (cases_at terms t) a thrown n σ κ e)

  pub matched_first : (w : World) (bs : List Bind) (t scope n : ℕ) (a thrown : Atom) (k : Continuation) → matching_of (cases_at terms t) ≡ way.Chosen → Writes own terms w bs w bs (match_code own terms t a thrown n) scope k (step.Go (record { work = work.Rule t 0 a; scope = scope; continuation = k; next = n }))
  matched_first w bs t scope n a thrown k e =
      goes_same own terms w bs (match_code own terms t a thrown n) (record { work = work.Rule t 0 a; scope = scope; continuation = k; next = n }) (λ σ κ s. first_chosen (cases_at terms t) a thrown n σ κ e)

  pub matched_tested : (w v : World) (bs : List Bind) (s : Scopes) (t scope n : ℕ) (a thrown : Atom) (k : Continuation) (c : Choices) → matching_of (cases_at terms t) ≡ way.Tested → s.bounds ≡ w.scopes.bounds → s.present ≡ scope → AreChoices own terms (record w { scopes = s }) v s.present k (cases_code own terms (cases_at terms t) a thrown n) c → Writes own terms w bs v bs (match_code own terms t a thrown n) scope k (step.Stop (end.Match a c.rules c.otherwise))
  matched_tested w v bs s t scope n a thrown k c e eb ep h =
      let on = grows_scopes own terms w (record w { scopes = s }) s refl (λ u σ x. subst (λ z. IsScope z u σ) (sym eb) x) in
      record {
        grows = grows_then own terms w (record w { scopes = s }) v on h.grows;
        bodies = λ from q. h.bodies from (flat_map bind_parts bs) q;
        code =
            λ body codes σ κ st.
            record {
              rest = match_code own terms t a thrown n σ κ;
              left =
                  all_tested (cases_at terms t) a thrown n σ κ e
                  ∙ ap (Match a) (h.code body codes σ κ (subst (λ p. Stands own terms (record w { scopes = s }) p k σ κ) (sym ep) (stands_on own terms w (record w { scopes = s }) scope k σ κ on st)));
              code = refl;
            };
      }

  pub right_begun : (w v u : World) (bs : List Bind) (s : Scopes) (ts : List LambdaTest) (tests : List Test) (wk : Work) (scope n b other : ℕ) (a : Atom) (k : Continuation) (rules : List Chosen) → s.bounds ≡ w.scopes.bounds → s.present ≡ scope → ((σ : Scope) → IsScope s.bounds s.present σ → (x : ℕ) → atom_in s.table x ≡ σ x) → tests ≡ tests_of (atom_in s.table) ts → b ≡ length w.tasks → v ≡ record w { scopes = s; tasks = w.tasks ++ record { work = wk; scope = scope; continuation = k; next = n } ∷ [] } → other ≡ length v.tasks → u ≡ record v { tasks = v.tasks ++ record { work = work.Throw (known (constant.Library exn.BindExn)); scope = scope; continuation = k; next = n } ∷ [] } → rules ≡ record { tests = tests; body = b } ∷ [] → Writes own terms w bs u bs (tested_code own terms ts wk a n) scope k (step.Stop (end.Match a rules other))
  right_begun w v u bs s ts tests wk scope n b other a k rules eb ep table et en ev eo eu er =
      let x : World = record w { scopes = s } in
      let on = grows_scopes own terms w x s refl (λ u σ y. subst (λ z. IsScope z u σ) (sym eb) y) in
      let first = begun_none own terms x scope k [] (λ σ κ. Rule (tests_of σ ts) (work_code own terms wk σ κ n) (Otherwise (Throw (known (constant.Library exn.BindExn))))) refl in
      let one = one_more own terms x x v scope k [] rules (λ σ κ. Rule (tests_of σ ts) (work_code own terms wk σ κ n) (Otherwise (Throw (known (constant.Library exn.BindExn))))) (λ σ κ. Rule (tests_of σ ts) (work_code own terms wk σ κ n) (Otherwise (Throw (known (constant.Library exn.BindExn))))) (λ σ κ. Otherwise (Throw (known (constant.Library exn.BindExn)))) b (record { work = wk; scope = scope; continuation = k; next = n }) tests first en ev er
      (λ body codes σ κ st.
      let is : atom_in s.table ≡ σ = fun_ext (table σ (subst (λ p. IsScope s.bounds p σ) (sym ep) st.in_scope)) in
      ap (λ xs. Rule xs (work_code own terms wk σ κ n) (Otherwise (Throw (known (constant.Library exn.BindExn))))) (ap (λ τ. tests_of τ ts) (sym is) ∙ sym et)
      ∙ ap (λ c. Rule tests c (Otherwise (Throw (known (constant.Library exn.BindExn))))) (sym (task_code own terms x x v scope k b n wk first.grows en ev body codes σ κ st))) in
      let all = ended own terms x v u scope k rules (λ σ κ. Rule (tests_of σ ts) (work_code own terms wk σ κ n) (Otherwise (Throw (known (constant.Library exn.BindExn))))) (λ σ κ. Otherwise (Throw (known (constant.Library exn.BindExn)))) other (record { work = work.Throw (known (constant.Library exn.BindExn)); scope = scope; continuation = k; next = n }) one eo eu
      (λ body codes σ κ st. ap Otherwise (sym (task_code own terms x v u scope k other n (work.Throw (known (constant.Library exn.BindExn))) one.grows eo eu body codes σ κ st))) in
      record {
        grows = grows_then own terms w x u on all.grows;
        bodies = λ from q. all.bodies from (flat_map bind_parts bs) q;
        code =
            λ body codes σ κ st.
            record {
              rest = tested_code own terms ts wk a n σ κ;
              left = ap (Match a) (all.code body codes σ κ (stands_on own terms w x scope k σ κ on st));
              code = refl;
            };
      }

  pub right_plain : (w : World) (bs : List Bind) (d at body scope n : ℕ) (a : Atom) (k : Continuation) (all : List Bound) (b : Bound) (ts : List LambdaTest) → all ≡ binds_at terms d → at < length all → b ≡ get_or all at b → ts ≡ b.tests → ts ≡ [] → Writes own terms w bs w bs (λ σ κ. awaits_code own terms (awaits.Right d at body) σ κ a n) scope k (step.Go (record { work = work.Bound d at body a; scope = scope; continuation = k; next = n }))
  right_plain w bs d at body scope n a k all b ts ea h here et none =
      goes_same own terms w bs (λ σ κ. awaits_code own terms (awaits.Right d at body) σ κ a n) (record { work = work.Bound d at body a; scope = scope; continuation = k; next = n })
      (λ σ κ st.
      let is : slice_get (binds_at terms d) at ≡ Some b = ap (λ xs. slice_get xs at) (sym ea) ∙ slice_get-get_or all at b h ∙ ap Some (sym here) in
      ap (λ o. right_code own terms d at body o σ κ a n) is
      ∙ ap (λ xs. match_of a (rule_of (tests_of σ xs) (bound_code own terms d at body b a σ κ n) (Otherwise (raise_exn exn.BindExn)))) (sym et ∙ none)
      ∙ ap (λ o. after_code own terms d at body o a σ κ n) (sym is))

  pub right_with_tests : (w v : World) (bs : List Bind) (d at body scope n : ℕ) (a : Atom) (k : Continuation) (all : List Bound) (b : Bound) (ts : List LambdaTest) (s : Step) → all ≡ binds_at terms d → at < length all → b ≡ get_or all at b → ts ≡ b.tests → (ts ≡ [] → ⊥) → Writes own terms w bs v bs (tested_code own terms ts (work.Bound d at body a) a n) scope k s → Writes own terms w bs v bs (λ σ κ. awaits_code own terms (awaits.Right d at body) σ κ a n) scope k s
  right_with_tests w v bs d at body scope n a k all b ts s ea h here et some g =
      writes_same own terms w v bs bs (λ σ κ. awaits_code own terms (awaits.Right d at body) σ κ a n) (tested_code own terms ts (work.Bound d at body a) a n) scope k s
      (λ σ κ st.
      let is : slice_get (binds_at terms d) at ≡ Some b = ap (λ xs. slice_get xs at) (sym ea) ∙ slice_get-get_or all at b h ∙ ap Some (sym here) in
      let code : Code = after_code own terms d at body (slice_get (binds_at terms d) at) a σ κ n in
      ap (λ o. right_code own terms d at body o σ κ a n) is
      ∙ ap (λ xs. match_of a (rule_of (tests_of σ xs) (bound_code own terms d at body b a σ κ n) (Otherwise (raise_exn exn.BindExn)))) (sym et)
      ∙ ap (match_of a) (with_tests σ ts (bound_code own terms d at body b a σ κ n) (Otherwise (raise_exn exn.BindExn)) some)
      ∙ match_with σ ts (bound_code own terms d at body b a σ κ n)
      ∙ ap (λ o. Match a (Rule (tests_of σ ts) (after_code own terms d at body o a σ κ n) (Otherwise (raise_exn exn.BindExn)))) (sym is)) g
    where
      match_with : (σ : Scope) (ts : List LambdaTest) (c : Code) → match_of a (Rule (tests_of σ ts) c (Otherwise (raise_exn exn.BindExn))) ≡ Match a (Rule (tests_of σ ts) c (Otherwise (raise_exn exn.BindExn)))
      match_with σ ts c = refl
