-- A term under a handler.
use Rattle.std.proofs.Common.{◌≡◌, ℕ, suc, ◌+◌, Bool, List, [], ◌∷◌, ◌++◌, length, refl, sym, ap, ◌∙◌, subst, arith, flat_map, append_assoc}
use Rattle.smlc_base.specs.declared.point.PointKind.TheVariants as kind
use Rattle.sml_tree.specs.Points.{point}
use Rattle.lambda_ir.specs.declared.term.Term.{Term}
use Rattle.cps_ir.specs.declared.atom.Atom.{Atom}
use Rattle.cps_ir.specs.declared.body.Bind.{Bind}
use Rattle.cps_ir.specs.declared.body.Bind.TheVariants as bind
use Rattle.cps_ir.specs.declared.body.End.TheVariants as end
use Rattle.cps_ir.specs.declared.body.Function.{Function as Entry}
use Rattle.cps_ir.specs.Code.{Code, Fix, Function, NoFunction, Handler, SetHandler, Call}
use Rattle.cps_ir.specs.Program.{code_of_binds}
use Rattle.cps_ir.specs.Kept.{bind_parts}
use Rattle.convert_laws.specs.Convert.{Scope, Kon, Known, variable, atom_of, size_at, size_cases}
use Rattle.convert_pieces.proofs.Emits.{binds_more, parts_more, nil_right}
use Rattle.convert_steps.specs.declared.handles.HandlerNames.{HandlerNames}
use Rattle.convert_steps.specs.declared.task.Continuation.{Continuation}
use Rattle.convert_steps.specs.declared.task.Continuation.TheVariants as continuation
use Rattle.convert_steps.specs.declared.task.Task.{Task}
use Rattle.convert_steps.specs.declared.task.Step.{Step}
use Rattle.convert_steps.specs.declared.task.Step.TheVariants as step
use Rattle.convert_steps.specs.declared.task.Work.TheVariants as work
use Rattle.convert_steps.specs.declared.world.World.{World}
use Rattle.convert_steps.specs.Codes.{called, conv, cases_at, work_code}
use Rattle.convert_steps.specs.Ends.{atom_by}
use Rattle.convert_steps.specs.Rows.{match_code}
use Rattle.convert_steps.specs.Handles.{handler_names, handler_functions, handle_code}
use Rattle.convert_steps.specs.Writes.{AreFrom, Writes}
use Rattle.convert_steps.proofs.Grow.{grows_begun, grows_then, stands_on, begun_at, begun_more}
use Rattle.convert_steps.proofs.Write.{lead_writes, leads_writes, binds_one, stops, one_from, same_from, codes_before}
use Rattle.convert_steps.proofs.Ended.{atom_known}
use Rattle.convert_steps.proofs.Rowed.{task_code}

module _ (own : ℕ → Bool) (terms : List Term) where
  pub handle_written : (w v u : World) (bs b1 b2 ds : List Bind) (t e scope n size more inside caught popped : ℕ) (k : Continuation) (h : HandlerNames) (fs : List Entry) → h ≡ handler_names n → size ≡ size_cases (size_at terms) (cases_at terms t) → more ≡ n + 5 → inside ≡ more + size → caught ≡ length w.tasks → v ≡ record w { tasks = w.tasks ++ record { work = work.Caught t; scope = scope; continuation = k; next = n } ∷ [] } → popped ≡ length v.tasks → u ≡ record v { tasks = v.tasks ++ record { work = work.Popped; scope = scope; continuation = k; next = n } ∷ [] } → fs ≡ handler_functions t h caught popped → b1 ≡ bs ++ bind.Handler n ∷ [] → b2 ≡ b1 ++ bind.Fix fs ∷ [] → ds ≡ b2 ++ bind.SetHandler (variable h.catching) ∷ [] → Writes own terms w bs u ds (handle_code own terms t e n) scope k (step.Go (record { work = work.Term e; scope = scope; continuation = continuation.Known (variable h.popping); next = inside }))
  handle_written w v u bs b1 b2 ds t e scope n size more inside caught popped k h fs eh es em ei ec ev ep eu ef e1 e2 e3 =
      let first : Task = record { work = work.Caught t; scope = scope; continuation = k; next = n } in
      let second : Task = record { work = work.Popped; scope = scope; continuation = k; next = n } in
      let on = grows_begun own terms w v first ev in
      let up = grows_begun own terms v u second eu in
      let all = grows_then own terms w v u on up in
      lead_writes own terms w u bs ds (handle_code own terms t e n) scope k (record { work = work.Term e; scope = scope; continuation = continuation.Known (variable h.popping); next = inside }) (record {
        grows = all;
        bodies =
            λ from a.
            same_from from (length u.tasks) ((flat_map bind_parts bs ++ caught ∷ []) ++ popped ∷ []) (flat_map bind_parts ds)
            (sym (ap (flat_map bind_parts) e3
            ∙ parts_more b2 (bind.SetHandler (variable h.catching))
            ∙ nil_right (flat_map bind_parts b2)
            ∙ ap (flat_map bind_parts) e2
            ∙ parts_more b1 (bind.Fix fs)
            ∙ ap (λ xs. xs ++ bind_parts (bind.Fix fs)) (ap (flat_map bind_parts) e1 ∙ parts_more bs (bind.Handler n) ∙ nil_right (flat_map bind_parts bs))
            ∙ ap (λ gs. flat_map bind_parts bs ++ bind_parts (bind.Fix gs)) ef
            ∙ sym (append_assoc (flat_map bind_parts bs) (caught ∷ []) (popped ∷ []))))
            (subst (λ m. AreFrom from m ((flat_map bind_parts bs ++ caught ∷ []) ++ popped ∷ [])) (sym (begun_more own terms v u second eu))
            (subst (λ m. AreFrom from (suc (length v.tasks)) ((flat_map bind_parts bs ++ caught ∷ []) ++ m ∷ [])) (sym ep)
            (one_from from (length v.tasks) (flat_map bind_parts bs ++ caught ∷ [])
            (subst (λ m. AreFrom from m (flat_map bind_parts bs ++ caught ∷ [])) (sym (begun_more own terms w v first ev))
            (subst (λ m. AreFrom from (suc (length w.tasks)) (flat_map bind_parts bs ++ m ∷ [])) (sym ec)
            (one_from from (length w.tasks) (flat_map bind_parts bs) a))))));
        code =
            λ body codes σ κ s.
            let caught_is : body caught ≡ work_code own terms (work.Caught t) σ κ n = task_code own terms w w v scope k caught n (work.Caught t) (Rattle.convert_steps.proofs.Grow.grows_none own terms w) ec ev body (codes_before own terms v u (length w.tasks) body up codes) σ κ s in
            let popped_is : body popped ≡ work_code own terms work.Popped σ κ n = task_code own terms w v u scope k popped n work.Popped on ep eu body codes σ κ s in
            let inner : Code = conv own terms e σ (Known (variable h.popping)) inside in
            record {
              σ = σ;
              κ = Known (variable h.popping);
              stands = record { in_scope = all.scopes scope σ s.in_scope; before = called (variable h.popping) };
              code =
                  ap (code_of_binds body bs) (ap (Handler n) (shape body σ κ caught_is popped_is))
                  ∙ sym (binds_more body bs (bind.Handler n) (Fix (Function h.catching (point t kind.Caught) (h.packet ∷ []) (body caught) (Function h.popping (point t kind.Popped) (h.value ∷ []) (body popped) NoFunction)) (SetHandler (variable h.catching) inner)))
                  ∙ ap (λ xs. code_of_binds body xs (Fix (Function h.catching (point t kind.Caught) (h.packet ∷ []) (body caught) (Function h.popping (point t kind.Popped) (h.value ∷ []) (body popped) NoFunction)) (SetHandler (variable h.catching) inner))) (sym e1)
                  ∙ sym (binds_more body b1 (bind.Fix (handler_functions t h caught popped)) (SetHandler (variable h.catching) inner))
                  ∙ ap (λ xs. code_of_binds body xs (SetHandler (variable h.catching) inner)) (sym (e2 ∙ ap (λ gs. b1 ++ bind.Fix gs ∷ []) ef))
                  ∙ sym (binds_more body b2 (bind.SetHandler (variable h.catching)) inner)
                  ∙ ap (λ xs. code_of_binds body xs inner) (sym e3);
            };
      })
    where
      shape : (body : ℕ → Code) (σ : Scope) (κ : Kon) → body caught ≡ work_code own terms (work.Caught t) σ κ n → body popped ≡ work_code own terms work.Popped σ κ n → Fix (Function (1 + n) (point t kind.Caught) ((3 + n) ∷ []) (work_code own terms (work.Caught t) σ κ n) (Function (2 + n) (point t kind.Popped) ((4 + n) ∷ []) (work_code own terms work.Popped σ κ n) NoFunction)) (SetHandler (variable (1 + n)) (conv own terms e σ (Known (variable (2 + n))) (5 + n + size_cases (size_at terms) (cases_at terms t)))) ≡ Fix (Function h.catching (point t kind.Caught) (h.packet ∷ []) (body caught) (Function h.popping (point t kind.Popped) (h.value ∷ []) (body popped) NoFunction)) (SetHandler (variable h.catching) (conv own terms e σ (Known (variable h.popping)) inside))
      shape body σ κ c1 c2 =
          ap (λ c. Fix (Function (1 + n) (point t kind.Caught) ((3 + n) ∷ []) c (Function (2 + n) (point t kind.Popped) ((4 + n) ∷ []) (work_code own terms work.Popped σ κ n) NoFunction)) (SetHandler (variable (1 + n)) (conv own terms e σ (Known (variable (2 + n))) (5 + n + size_cases (size_at terms) (cases_at terms t))))) (sym c1)
          ∙ ap (λ c. Fix (Function (1 + n) (point t kind.Caught) ((3 + n) ∷ []) (body caught) (Function (2 + n) (point t kind.Popped) ((4 + n) ∷ []) c NoFunction)) (SetHandler (variable (1 + n)) (conv own terms e σ (Known (variable (2 + n))) (5 + n + size_cases (size_at terms) (cases_at terms t))))) (sym c2)
          ∙ ap (λ m. Fix (Function (1 + n) (point t kind.Caught) ((3 + n) ∷ []) (body caught) (Function (2 + n) (point t kind.Popped) ((4 + n) ∷ []) (body popped) NoFunction)) (SetHandler (variable (1 + n)) (conv own terms e σ (Known (variable (2 + n))) m))) (omega (arith, es, em, ei))
          ∙ ap (λ m. Fix (Function m (point t kind.Caught) ((3 + n) ∷ []) (body caught) (Function (2 + n) (point t kind.Popped) ((4 + n) ∷ []) (body popped) NoFunction)) (SetHandler (variable m) (conv own terms e σ (Known (variable (2 + n))) inside))) (omega arith)
          ∙ ap (λ m. Fix (Function (n + 1) (point t kind.Caught) ((3 + n) ∷ []) (body caught) (Function m (point t kind.Popped) ((4 + n) ∷ []) (body popped) NoFunction)) (SetHandler (variable (n + 1)) (conv own terms e σ (Known (variable m)) inside))) (omega arith)
          ∙ ap (λ m. Fix (Function (n + 1) (point t kind.Caught) (m ∷ []) (body caught) (Function (n + 2) (point t kind.Popped) ((4 + n) ∷ []) (body popped) NoFunction)) (SetHandler (variable (n + 1)) (conv own terms e σ (Known (variable (n + 2))) inside))) (omega arith)
          ∙ ap (λ m. Fix (Function (n + 1) (point t kind.Caught) ((n + 3) ∷ []) (body caught) (Function (n + 2) (point t kind.Popped) (m ∷ []) (body popped) NoFunction)) (SetHandler (variable (n + 1)) (conv own terms e σ (Known (variable (n + 2))) inside))) (omega arith)
          ∙ ap (λ (g : HandlerNames). Fix (Function g.catching (point t kind.Caught) (g.packet ∷ []) (body caught) (Function g.popping (point t kind.Popped) (g.value ∷ []) (body popped) NoFunction)) (SetHandler (variable g.catching) (conv own terms e σ (Known (variable g.popping)) inside))) (sym eh)

  pub caught_written : (w v : World) (bs ds : List Bind) (t scope n packet inside : ℕ) (k : Continuation) (s : Step) → packet ≡ n + 3 → inside ≡ n + 5 → ds ≡ bs ++ bind.SetHandler (variable n) ∷ [] → Writes own terms w ds v ds (match_code own terms t (variable packet) (variable packet) inside) scope k s → Writes own terms w bs v ds (λ σ κ. work_code own terms (work.Caught t) σ κ n) scope k s
  caught_written w v bs ds t scope n packet inside k s ep ei ed h =
      leads_writes own terms w w v bs ds ds (λ σ κ. work_code own terms (work.Caught t) σ κ n) (match_code own terms t (variable packet) (variable packet) inside) scope scope k k s
      (binds_one own terms w bs ds (bind.SetHandler (variable n)) (λ σ κ. work_code own terms (work.Caught t) σ κ n) (match_code own terms t (variable packet) (variable packet) inside) scope k ed refl
      (λ body σ κ st.
      ap (λ m. SetHandler (variable n) (match_code own terms t (variable m) (variable m) (5 + n) σ κ)) (omega (arith, ep))
      ∙ ap (λ m. SetHandler (variable n) (match_code own terms t (variable packet) (variable packet) m σ κ)) (omega (arith, ei)))) h

  pub popped_written : (w : World) (bs ds : List Bind) (scope n value : ℕ) (b : Atom) (atoms : List Atom) (k : Continuation) → value ≡ n + 4 → b ≡ atom_by k → atoms ≡ variable value ∷ [] → ds ≡ bs ++ bind.SetHandler (variable n) ∷ [] → Writes own terms w bs w ds (λ σ κ. work_code own terms work.Popped σ κ n) scope k (step.Stop (end.Call b atoms))
  popped_written w bs ds scope n value b atoms k ev eb ea ed =
      leads_writes own terms w w w bs ds ds (λ σ κ. work_code own terms work.Popped σ κ n) (λ σ κ. Call b atoms) scope scope k k (step.Stop (end.Call b atoms))
      (binds_one own terms w bs ds (bind.SetHandler (variable n)) (λ σ κ. work_code own terms work.Popped σ κ n) (λ σ κ. Call b atoms) scope k ed refl
      (λ body σ κ st.
      ap (λ m. SetHandler (variable n) (Call (atom_of κ) (variable m ∷ []))) (omega (arith, ev))
      ∙ ap (λ a. SetHandler (variable n) (Call a (variable value ∷ []))) (atom_known own terms w k κ st.before ∙ sym eb)
      ∙ ap (λ xs. SetHandler (variable n) (Call b xs)) (sym ea)))
      (stops own terms w ds (λ σ κ. Call b atoms) scope k (end.Call b atoms) refl (λ body σ κ st. refl))
