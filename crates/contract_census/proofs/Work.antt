-- The tasks that are left count what the tree of each counts.
use Rattle.std.proofs.Common.{◌≡◌, ℕ, zero, suc, ◌+◌, ◌*◌, ◌≤◌, ◌<◌, List, [], ◌∷◌, ◌++◌, map, flat_map, length, Option, Some, None, slice_get, refl, sym, ap, ◌∙◌, arith, append_assoc}
use Rattle.cps_ir.specs.declared.body.Function.{Function as Entry}
use Rattle.cps_ir.specs.declared.body.Bind.{Bind}
use Rattle.cps_ir.specs.declared.body.Bind.TheVariants as bind
use Rattle.cps_ir.specs.declared.body.Rule.{Rule as Chosen}
use Rattle.cps_ir.specs.declared.body.End.{End}
use Rattle.cps_ir.specs.declared.body.End.TheVariants as end
use Rattle.cps_ir.specs.declared.body.Body.{Body}
use Rattle.cps_ir.specs.Code.{Code, Prim, Halt}
use Rattle.cps_ir.specs.Program.{functions_of, rules_of, code_of_end, code_of_bind, code_of_binds, code_of_body, code_within, code_at}
use Rattle.contract_laws.specs.Redex.{nodes, nodes_functions, nodes_rules}
use Rattle.cps_free.proofs.Unfold.{AreNumbered, code_unfold}
use Rattle.contract_census.specs.declared.counts.Count.{Count}
use Rattle.contract_census.specs.declared.counts.Event.TheVariants as event
use Rattle.contract_census.specs.declared.task.Task.{Task}
use Rattle.contract_census.specs.declared.task.Task.TheVariants as task
use Rattle.contract_census.specs.Counting.{noted, use_atom, use_tests, use_rules, bind_functions, count_bind, count_binds, count_end}
use Rattle.contract_census.specs.Tasks.{function_task, rule_task, bind_tasks, end_tasks, found_tasks, count_found, tasks_behind, count_task}
use Rattle.contract_census.specs.Run.{bind_names, use_in, run, run_functions, run_rules}

pub none_past : (bodies : List Body) (i : ℕ) → length bodies ≤ i → slice_get bodies i ≡ None
none_past [] i h = refl
none_past (b ∷ bodies) zero h = absurd (omega arith)
none_past (b ∷ bodies) (suc i) h = none_past bodies i (omega arith)

module _ (part : ℕ → Code) where
  abbrev pub run_task : Task → List Count → List Count
  run_task (task.Body i w) s = run w (part i) s
  run_task (task.Function f i) s = noted event.Closed f (run (Some f) (part i) (noted event.Opened f s))
  run_task (task.Close f) s = noted event.Closed f s

  -- the last first
  abbrev pub run_work : List Task → List Count → List Count
  run_work [] s = s
  run_work (t ∷ ts) s = run_task t (run_work ts s)

  pub work_append : (ts us : List Task) (s : List Count) → run_work (ts ++ us) s ≡ run_work ts (run_work us s)
  work_append [] us s = refl
  work_append (t ∷ ts) us s = ap (run_task t) (work_append ts us s)

  functions_run : (fs : List Entry) (s : List Count) → run_work (map function_task fs) s ≡ run_functions (functions_of part fs) s
  functions_run [] s = refl
  functions_run (f ∷ fs) s = ap (λ t. noted event.Closed f.name (run (Some f.name) (part f.body) (noted event.Opened f.name t))) (functions_run fs s)

  module _ (w : Option ℕ) where
    names_run : (fs : List Entry) (s : List Count) → bind_functions w fs s ≡ bind_names w (functions_of part fs) s
    names_run [] s = refl
    names_run (f ∷ fs) s = names_run fs (noted (event.Bound w (length f.params)) f.name s)

    rules_run : (rules : List Chosen) (otherwise : ℕ) (s : List Count) → run_work (map (rule_task w) rules ++ task.Body otherwise w ∷ []) s ≡ run_rules w (rules_of part rules otherwise) s
    rules_run [] otherwise s = refl
    rules_run (r ∷ rules) otherwise s = ap (run w (part r.body)) (rules_run rules otherwise s)

    tests_run : (rules : List Chosen) (otherwise : ℕ) (s : List Count) → use_rules rules s ≡ use_in (rules_of part rules otherwise) s
    tests_run [] otherwise s = refl
    tests_run (r ∷ rules) otherwise s = tests_run rules otherwise (use_tests r.tests s)

    end_run : (e : End) (s : List Count) → run_work (end_tasks w e) (count_end w e s) ≡ run w (code_of_end part e) s
    end_run (end.Equal a b truth k) s = refl
    end_run (end.Call a atoms) s = refl
    end_run (end.Match a rules otherwise) s =
        rules_run rules otherwise (use_rules rules (use_atom a s)) ∙ ap (run_rules w (rules_of part rules otherwise)) (tests_run rules otherwise (use_atom a s))
    end_run (end.Throw a) s = refl
    end_run end.Halt s = refl

    bind_run : (b : Bind) (c : Code) (s : List Count) → run_work (bind_tasks b) (run w c (count_bind w b s)) ≡ run w (code_of_bind part b c) s
    bind_run (bind.Make x shape atoms) c s = refl
    bind_run (bind.Pick x i a) c s = refl
    bind_run (bind.Prim x f atoms) c s = refl
    bind_run (bind.Fix fs) c s = functions_run fs (run w c (bind_functions w fs s)) ∙ ap (λ t. run_functions (functions_of part fs) (run w c t)) (names_run fs s)
    bind_run (bind.Handler x) c s = refl
    bind_run (bind.SetHandler a) c s = refl

    pub binds_run : (bs : List Bind) (e : End) (s : List Count) → run_work (flat_map bind_tasks bs ++ end_tasks w e) (count_end w e (count_binds w bs s)) ≡ run w (code_of_binds part bs (code_of_end part e)) s
    binds_run [] e s = end_run e s
    binds_run (b ∷ bs) e s =
        let s' = count_bind w b s in
        ap (λ ts. run_work ts (count_end w e (count_binds w bs s'))) (append_assoc (bind_tasks b) (flat_map bind_tasks bs) (end_tasks w e))
        ∙ work_append (bind_tasks b) (flat_map bind_tasks bs ++ end_tasks w e) (count_end w e (count_binds w bs s'))
        ∙ ap (run_work (bind_tasks b)) (binds_run bs e s')
        ∙ bind_run b (code_of_binds part bs (code_of_end part e)) s

  -- ---- How much is left

  abbrev pub task_weight : Task → ℕ
  task_weight (task.Body i w) = 2 * nodes (part i)
  task_weight (task.Function f i) = 2 * nodes (part i) + 2
  task_weight (task.Close f) = 1

  abbrev pub work_weight : List Task → ℕ
  work_weight [] = 0
  work_weight (t ∷ ts) = task_weight t + work_weight ts

  pub weight_append : (ts us : List Task) → work_weight (ts ++ us) ≡ work_weight ts + work_weight us
  weight_append [] us = omega arith
  weight_append (t ∷ ts) us = let h = weight_append ts us in omega arith

  functions_weight : (fs : List Entry) → work_weight (map function_task fs) ≡ 2 * nodes_functions (functions_of part fs)
  functions_weight [] = refl
  functions_weight (f ∷ fs) = let h = functions_weight fs in omega arith

  rules_weight : (w : Option ℕ) (rules : List Chosen) (otherwise : ℕ) → work_weight (map (rule_task w) rules ++ task.Body otherwise w ∷ []) ≤ 2 * nodes_rules (rules_of part rules otherwise)
  rules_weight w [] otherwise = omega arith
  rules_weight w (r ∷ rules) otherwise = let h = rules_weight w rules otherwise in omega arith

  end_weight : (w : Option ℕ) (e : End) → suc (work_weight (end_tasks w e)) ≤ 2 * nodes (code_of_end part e)
  end_weight w (end.Equal a b truth k) = omega arith
  end_weight w (end.Call a atoms) = omega arith
  end_weight w (end.Match a rules otherwise) = let h = rules_weight w rules otherwise in omega arith
  end_weight w (end.Throw a) = omega arith
  end_weight w end.Halt = omega arith

  bind_weight : (b : Bind) (c : Code) → work_weight (bind_tasks b) + 2 * nodes c ≤ 2 * nodes (code_of_bind part b c)
  bind_weight (bind.Make x shape atoms) c = omega arith
  bind_weight (bind.Pick x i a) c = omega arith
  bind_weight (bind.Prim x f atoms) c = omega arith
  bind_weight (bind.Fix fs) c = let h = functions_weight fs in omega arith
  bind_weight (bind.Handler x) c = omega arith
  bind_weight (bind.SetHandler a) c = omega arith

  pub binds_weight : (w : Option ℕ) (bs : List Bind) (e : End) → suc (work_weight (flat_map bind_tasks bs ++ end_tasks w e)) ≤ 2 * nodes (code_of_binds part bs (code_of_end part e))
  binds_weight w [] e = end_weight w e
  binds_weight w (b ∷ bs) e =
      let s = ap work_weight (append_assoc (bind_tasks b) (flat_map bind_tasks bs) (end_tasks w e)) in
      let j = weight_append (bind_tasks b) (flat_map bind_tasks bs ++ end_tasks w e) in
      let k = bind_weight b (code_of_binds part bs (code_of_end part e)) in
      let h = binds_weight w bs e in
      omega arith

-- ---- Over a program's bodies

module _ (bodies : List Body) (numbered : AreNumbered bodies) where
  nothing_there : (k i : ℕ) → slice_get bodies i ≡ None → code_within k bodies i ≡ Halt
  nothing_there zero i e = refl
  nothing_there (suc k) i e = ap (code_of_body (code_within k bodies)) e

  task_run : (t : Task) (s : List Count) → run_work (code_at bodies) (tasks_behind bodies t) (count_task bodies t s) ≡ run_task (code_at bodies) t s
  task_run (task.Body i w) s = by (slice_get bodies i) refl
    where
      by : (o : Option Body) → slice_get bodies i ≡ o → run_work (code_at bodies) (found_tasks w (slice_get bodies i)) (count_found w (slice_get bodies i) s) ≡ run w (code_at bodies i) s
      by None e =
          ap (λ o. run_work (code_at bodies) (found_tasks w o) (count_found w o s)) e ∙ sym (ap (λ c. run w c s) (nothing_there (length bodies) i e))
      by (Some b) e =
          ap (λ o. run_work (code_at bodies) (found_tasks w o) (count_found w o s)) e
          ∙ binds_run (code_at bodies) w b.binds b.end s
          ∙ sym (ap (λ c. run w c s) (code_unfold bodies numbered i b e))
  task_run (task.Function f i) s = refl
  task_run (task.Close f) s = refl

  task_less : (t : Task) → work_weight (code_at bodies) (tasks_behind bodies t) < task_weight (code_at bodies) t
  task_less (task.Body i w) = by (slice_get bodies i) refl
    where
      by : (o : Option Body) → slice_get bodies i ≡ o → work_weight (code_at bodies) (found_tasks w (slice_get bodies i)) < 2 * nodes (code_at bodies i)
      by None e =
          let h = ap (λ o. work_weight (code_at bodies) (found_tasks w o)) e in
          let k = ap nodes (nothing_there (length bodies) i e) in
          omega arith
      by (Some b) e =
          let h = ap (λ o. work_weight (code_at bodies) (found_tasks w o)) e in
          let k = ap nodes (code_unfold bodies numbered i b e) in
          let g = binds_weight (code_at bodies) w b.binds b.end in
          omega arith
  task_less (task.Function f i) = omega arith
  task_less (task.Close f) = omega arith

  -- a task is taken, and done
  pub work_step : (old rest new : List Task) (t : Task) (s s' : List Count) → old ≡ rest ++ t ∷ [] → new ≡ rest ++ tasks_behind bodies t → s' ≡ count_task bodies t s → run_work (code_at bodies) new s' ≡ run_work (code_at bodies) old s
  work_step old rest new t s s' e f g =
      let p = code_at bodies in
      ap (λ ts. run_work p ts s') f ∙ ap (run_work p (rest ++ tasks_behind bodies t)) g ∙ work_append p rest (tasks_behind bodies t) (count_task bodies t s) ∙ ap (run_work p rest) (task_run t s) ∙ sym (work_append p rest (t ∷ []) s) ∙ sym (ap (λ ts. run_work p ts s) e)

  pub work_less : (old rest new : List Task) (t : Task) → old ≡ rest ++ t ∷ [] → new ≡ rest ++ tasks_behind bodies t → work_weight (code_at bodies) new < work_weight (code_at bodies) old
  work_less old rest new t e f =
      let p = code_at bodies in
      let a = ap (work_weight p) e in
      let b = ap (work_weight p) f in
      let c = weight_append p rest (t ∷ []) in
      let d = weight_append p rest (tasks_behind bodies t) in
      let h = task_less t in
      omega arith
