-- Functions of the program.
use Rattle.std.proofs.Common.{◌≡◌, ℕ, suc, ◌+◌, Bool, List, [], ◌∷◌, ◌++◌, length, sym, ap, ◌∙◌, subst, arith, flat_map}
use Rattle.smlc_base.specs.declared.exception.LibraryExn.TheVariants as exn
use Rattle.smlc_base.specs.declared.point.PointKind.TheVariants as kind
use Rattle.sml_tree.specs.Points.{point}
use Rattle.lambda_ir.specs.declared.term.Term.{Term}
use Rattle.cps_ir.specs.declared.body.Bind.{Bind}
use Rattle.cps_ir.specs.declared.body.Bind.TheVariants as bind
use Rattle.cps_ir.specs.declared.body.Function.{Function as Entry}
use Rattle.cps_ir.specs.Code.{Code, Fix, Function, Functions, NoFunction}
use Rattle.cps_ir.specs.Program.{code_of_binds}
use Rattle.cps_ir.specs.Kept.{bind_parts}
use Rattle.convert_laws.specs.Convert.{Scope, Known, variable, apply, raise_exn, match_on, function_of, size_at, size_cases}
use Rattle.convert_pieces.proofs.Emits.{binds_more, parts_more}
use Rattle.convert_steps.specs.declared.task.Continuation.{Continuation}
use Rattle.convert_steps.specs.declared.task.Step.TheVariants as step
use Rattle.convert_steps.specs.declared.task.Work.TheVariants as work
use Rattle.convert_steps.specs.declared.world.World.{World}
use Rattle.convert_steps.specs.Codes.{called, conv, cases_at}
use Rattle.convert_steps.specs.Functions.{function_task, function_entry, closure_code}
use Rattle.convert_steps.specs.Writes.{AreFrom, Writes}
use Rattle.convert_steps.proofs.Grow.{grows_begun, stands_on, begun_at, begun_more}
use Rattle.convert_steps.proofs.Write.{lead_writes, one_from, same_from}

module _ (own : ℕ → Bool) (terms : List Term) where
  -- the function that was begun is that of the term
  pub function_is : (f t n m b : ℕ) (σ : Scope) (fs : Functions) (body : ℕ → Code) → suc m ≡ n → body b ≡ match_on own terms (conv own terms) (cases_at terms t) σ (Known (variable (n + 1))) (raise_exn exn.MatchExn) (variable n) (n + 2) → function_of own terms (conv own terms) f t (cases_at terms t) σ (suc m) fs ≡ Function f (point t kind.Fn) (n ∷ (n + 1) ∷ []) (body b) fs
  function_is f t n m b σ fs body em e =
      ap (λ k. function_of own terms (conv own terms) f t (cases_at terms t) σ k fs) em
      ∙ ap (λ p. Function f (point t kind.Fn) (n ∷ p ∷ []) (match_on own terms (conv own terms) (cases_at terms t) σ (Known (variable p)) (raise_exn exn.MatchExn) (variable n) (2 + n)) fs) (omega arith)
      ∙ ap (λ q. Function f (point t kind.Fn) (n ∷ (n + 1) ∷ []) (match_on own terms (conv own terms) (cases_at terms t) σ (Known (variable (n + 1))) (raise_exn exn.MatchExn) (variable n) q) fs) (omega arith)
      ∙ ap (λ c. Function f (point t kind.Fn) (n ∷ (n + 1) ∷ []) c fs) (sym e)

  pub closure_written : (w v : World) (bs ds : List Bind) (t scope n first size more later : ℕ) (k : Continuation) (f : Entry) (fs : List Entry) → first ≡ n + 1 → size ≡ size_cases (size_at terms) (cases_at terms t) → more ≡ n + 3 → later ≡ more + size → v ≡ record w { tasks = w.tasks ++ function_task t scope first ∷ [] } → f ≡ function_entry n t first (length w.tasks) → fs ≡ f ∷ [] → ds ≡ bs ++ bind.Fix fs ∷ [] → Writes own terms w bs v ds (closure_code own terms t n) scope k (step.Go (record { work = work.Give (variable n); scope = scope; continuation = k; next = later }))
  closure_written w v bs ds t scope n first size more later k f fs e1 es em el ev ef efs ed =
      let b : ℕ = length w.tasks in
      let made : Bind = bind.Fix (function_entry n t first b ∷ []) in
      let is : bind.Fix fs ≡ made = ap bind.Fix (efs ∙ ap (λ g. g ∷ []) ef) in
      let on = grows_begun own terms w v (function_task t scope first) ev in
      lead_writes own terms w v bs ds (closure_code own terms t n) scope k (record { work = work.Give (variable n); scope = scope; continuation = k; next = later }) (record {
        grows = on;
        bodies =
            λ from a.
            same_from from (length v.tasks) (flat_map bind_parts bs ++ b ∷ []) (flat_map bind_parts ds) (sym (ap (flat_map bind_parts) (ed ∙ ap (λ x. bs ++ x ∷ []) is) ∙ parts_more bs made))
            (subst (λ m. AreFrom from m (flat_map bind_parts bs ++ b ∷ [])) (sym (begun_more own terms w v (function_task t scope first) ev)) (one_from from b (flat_map bind_parts bs) a));
        code =
            λ body codes σ κ s.
            let code : body b ≡ match_on own terms (conv own terms) (cases_at terms t) σ (Known (variable (first + 1))) (raise_exn exn.MatchExn) (variable first) (first + 2) = codes b (function_task t scope first) (omega arith) (begun_at own terms w v (function_task t scope first) ev) σ (Known (variable (first + 1))) (record { in_scope = on.scopes scope σ s.in_scope; before = called (variable (first + 1)) }) in
            record {
              σ = σ;
              κ = κ;
              stands = stands_on own terms w v scope k σ κ on s;
              code =
                  ap (code_of_binds body bs)
                  (ap (λ g. Fix g (apply κ (variable n) (3 + n + size_cases (size_at terms) (cases_at terms t)))) (function_is n t first n b σ NoFunction body (omega (arith, e1)) code)
                  ∙ ap (λ m. Fix (Function n (point t kind.Fn) (first ∷ (first + 1) ∷ []) (body b) NoFunction) (apply κ (variable n) m)) (omega (arith, es, em, el)))
                  ∙ sym (binds_more body bs made (apply κ (variable n) later))
                  ∙ ap (λ xs. code_of_binds body xs (apply κ (variable n) later)) (sym (ed ∙ ap (λ x. bs ++ x ∷ []) is));
            };
      })
