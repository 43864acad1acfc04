-- Ways to write on.
use Rattle.std.proofs.Common.{◌≡◌, ℕ, zero, suc, ◌+◌, ◌≤◌, Bool, List, [], ◌∷◌, ◌++◌, length, refl, sym, ap, ◌∙◌, subst, arith, flat_map}
use Rattle.sml_def.specs.Step.{count_up}
use Rattle.lambda_ir.specs.declared.term.Term.{Term}
use Rattle.cps_ir.specs.declared.body.Bind.{Bind}
use Rattle.cps_ir.specs.declared.body.End.{End}
use Rattle.cps_ir.specs.Code.{Code}
use Rattle.cps_ir.specs.Program.{code_of_bind, code_of_binds, code_of_end}
use Rattle.cps_ir.specs.Kept.{bind_parts, end_parts}
use Rattle.convert_laws.specs.Convert.{Scope, Kon}
use Rattle.convert_pieces.proofs.Emits.{binds_more, parts_more, nil_right}
use Rattle.convert_steps.specs.declared.task.Continuation.{Continuation}
use Rattle.convert_steps.specs.declared.task.Task.{Task}
use Rattle.convert_steps.specs.declared.task.Step.{Step}
use Rattle.convert_steps.specs.declared.task.Step.TheVariants as step
use Rattle.convert_steps.specs.declared.world.World.{World}
use Rattle.convert_steps.specs.Codes.{work_code}
use Rattle.convert_steps.specs.Writes.{AreFrom, Grows, Stands, AreCodes, GoesOn, Writes, Led, Leads}
use Rattle.convert_steps.proofs.Grow.{grows_none, grows_then, stands_on}

-- ---- Numbers

count_last : (i n : ℕ) → count_up i (suc n) ≡ count_up i n ++ (i + n) ∷ []
count_last i zero = ap (λ k. k ∷ []) (omega arith)
count_last i (suc n) = ap (λ ks. i ∷ ks) (count_last (suc i) n ∙ ap (λ k. count_up (suc i) n ++ k ∷ []) (omega arith))

pub one_from : (from to : ℕ) (ns : List ℕ) → AreFrom from to ns → AreFrom from (suc to) (ns ++ to ∷ [])
one_from from to ns a = record {
  many = suc a.many;
  are = ap (λ xs. xs ++ to ∷ []) a.are ∙ ap (λ k. count_up from a.many ++ k ∷ []) (sym a.up) ∙ sym (count_last from a.many);
  up = omega (arith, a.up);
}

pub same_from : (from to : ℕ) (ns ms : List ℕ) → ns ≡ ms → AreFrom from to ns → AreFrom from to ms
same_from from to ns ms e a = subst (AreFrom from to) e a

module _ (own : ℕ → Bool) (terms : List Term) where
  pub codes_before : (w v : World) (from : ℕ) (body : ℕ → Code) → Grows own terms w v → AreCodes own terms v from body → AreCodes own terms w from body
  codes_before w v from body g h =
      λ b t le e σ κ s. h b t le (g.tasks b t e) σ κ (stands_on own terms w v t.scope t.continuation σ κ g s)

  pub codes_later : (v : World) (from to : ℕ) (body : ℕ → Code) → from ≤ to → AreCodes own terms v from body → AreCodes own terms v to body
  codes_later v from to body le h = λ b t l e. h b t (omega (arith, le, l)) e

  pub leads_writes : (w v u : World) (bs cs ds : List Bind) (f g : Scope → Kon → Code) (scope scope' : ℕ) (k k' : Continuation) (s : Step) → Leads own terms w bs v cs f scope k g scope' k' → Writes own terms v cs u ds g scope' k' s → Writes own terms w bs u ds f scope k s
  leads_writes w v u bs cs ds f g scope scope' k k' s l h = record {
    grows = grows_then own terms w v u l.grows h.grows;
    bodies = λ from a. h.bodies from (l.bodies from a);
    code =
        λ body codes σ κ st.
        let led = l.code body (codes_before v u (length w.tasks) body h.grows codes) σ κ st in
        let later = h.code body (codes_later u (length w.tasks) (length v.tasks) body l.grows.more codes) led.σ led.κ led.stands in
        record { rest = later.rest; left = later.left; code = led.code ∙ later.code };
  }

  pub leads_then : (w v u : World) (bs cs ds : List Bind) (f g h : Scope → Kon → Code) (scope scope' scope'' : ℕ) (k k' k'' : Continuation) → Leads own terms w bs v cs f scope k g scope' k' → Leads own terms v cs u ds g scope' k' h scope'' k'' → Leads own terms w bs u ds f scope k h scope'' k''
  leads_then w v u bs cs ds f g h scope scope' scope'' k k' k'' l m = record {
    grows = grows_then own terms w v u l.grows m.grows;
    bodies = λ from a. m.bodies from (l.bodies from a);
    code =
        λ body codes σ κ st.
        let led = l.code body (codes_before v u (length w.tasks) body m.grows codes) σ κ st in
        let later = m.code body (codes_later u (length w.tasks) (length v.tasks) body l.grows.more codes) led.σ led.κ led.stands in
        record { σ = later.σ; κ = later.κ; stands = later.stands; code = led.code ∙ later.code };
  }

  -- a task that is gone on with leads to its code
  pub writes_lead : (w v : World) (bs ds : List Bind) (f : Scope → Kon → Code) (scope : ℕ) (k : Continuation) (t : Task) → Writes own terms w bs v ds f scope k (step.Go t) → Leads own terms w bs v ds f scope k (λ σ κ. work_code own terms t.work σ κ t.next) t.scope t.continuation
  writes_lead w v bs ds f scope k t h = record {
    grows = h.grows;
    bodies = λ from a. same_from from (length v.tasks) (flat_map bind_parts ds ++ []) (flat_map bind_parts ds) (nil_right (flat_map bind_parts ds)) (h.bodies from a);
    code =
        λ body codes σ κ st.
        let l = h.code body codes σ κ st in
        record { σ = l.left.scope; κ = l.left.kon; stands = l.left.stands; code = l.code ∙ ap (code_of_binds body ds) l.left.code };
  }

  pub lead_writes : (w v : World) (bs ds : List Bind) (f : Scope → Kon → Code) (scope : ℕ) (k : Continuation) (t : Task) → Leads own terms w bs v ds f scope k (λ σ κ. work_code own terms t.work σ κ t.next) t.scope t.continuation → Writes own terms w bs v ds f scope k (step.Go t)
  lead_writes w v bs ds f scope k t h = record {
    grows = h.grows;
    bodies = λ from a. same_from from (length v.tasks) (flat_map bind_parts ds) (flat_map bind_parts ds ++ []) (sym (nil_right (flat_map bind_parts ds))) (h.bodies from a);
    code =
        λ body codes σ κ st.
        let l = h.code body codes σ κ st in
        record { rest = work_code own terms t.work l.σ l.κ t.next; left = record { scope = l.σ; kon = l.κ; stands = l.stands; code = refl }; code = l.code };
  }

  -- ---- Where nothing is bound

  pub goes : (w : World) (bs : List Bind) (f : Scope → Kon → Code) (scope : ℕ) (k : Continuation) (t : Task) → ((σ : Scope) (κ : Kon) → Stands own terms w scope k σ κ → GoesOn own terms w t (f σ κ)) → Writes own terms w bs w bs f scope k (step.Go t)
  goes w bs f scope k t h = record {
    grows = grows_none own terms w;
    bodies = λ from a. same_from from (length w.tasks) (flat_map bind_parts bs) (flat_map bind_parts bs ++ []) (sym (nil_right (flat_map bind_parts bs))) a;
    code = λ body codes σ κ s. record { rest = f σ κ; left = h σ κ s; code = refl };
  }

  -- to other work in the same scope, before the same continuation
  pub goes_same : (w : World) (bs : List Bind) (f : Scope → Kon → Code) (t : Task) → ((σ : Scope) (κ : Kon) → Stands own terms w t.scope t.continuation σ κ → f σ κ ≡ work_code own terms t.work σ κ t.next) → Writes own terms w bs w bs f t.scope t.continuation (step.Go t)
  goes_same w bs f t h =
      goes w bs f t.scope t.continuation t (λ σ κ s. record { scope = σ; kon = κ; stands = s; code = h σ κ s })

  pub stops : (w : World) (bs : List Bind) (f : Scope → Kon → Code) (scope : ℕ) (k : Continuation) (e : End) → end_parts e ≡ [] → ((body : ℕ → Code) (σ : Scope) (κ : Kon) → Stands own terms w scope k σ κ → f σ κ ≡ code_of_end body e) → Writes own terms w bs w bs f scope k (step.Stop e)
  stops w bs f scope k e none h = record {
    grows = grows_none own terms w;
    bodies = λ from a. same_from from (length w.tasks) (flat_map bind_parts bs) (flat_map bind_parts bs ++ end_parts e) (sym (ap (λ ns. flat_map bind_parts bs ++ ns) none ∙ nil_right (flat_map bind_parts bs))) a;
    code = λ body codes σ κ s. record { rest = f σ κ; left = h body σ κ s; code = refl };
  }

  -- ---- Where something is bound

  -- one binding that names no body
  pub binds_one : (w : World) (bs ds : List Bind) (b : Bind) (f g : Scope → Kon → Code) (scope : ℕ) (k : Continuation) → ds ≡ bs ++ b ∷ [] → bind_parts b ≡ [] → ((body : ℕ → Code) (σ : Scope) (κ : Kon) → Stands own terms w scope k σ κ → f σ κ ≡ code_of_bind body b (g σ κ)) → Leads own terms w bs w ds f scope k g scope k
  binds_one w bs ds b f g scope k e none h = record {
    grows = grows_none own terms w;
    bodies =
        λ from a.
        same_from from (length w.tasks) (flat_map bind_parts bs) (flat_map bind_parts ds) (sym (ap (flat_map bind_parts) e ∙ parts_more bs b ∙ ap (λ ns. flat_map bind_parts bs ++ ns) none ∙ nil_right (flat_map bind_parts bs))) a;
    code =
        λ body codes σ κ s.
        record { σ = σ; κ = κ; stands = s; code = ap (code_of_binds body bs) (h body σ κ s) ∙ sym (binds_more body bs b (g σ κ)) ∙ ap (λ xs. code_of_binds body xs (g σ κ)) (sym e) };
  }

  -- another scope or continuation that is known
  pub leads_to : (w v : World) (bs : List Bind) (f g : Scope → Kon → Code) (scope scope' : ℕ) (k k' : Continuation) → Grows own terms w v → length v.tasks ≡ length w.tasks → ((body : ℕ → Code) (σ : Scope) (κ : Kon) → Stands own terms w scope k σ κ → Led own terms v body bs bs (f σ κ) g scope' k') → Leads own terms w bs v bs f scope k g scope' k'
  leads_to w v bs f g scope scope' k k' grows same h = record {
    grows = grows;
    bodies = λ from a. subst (λ n. AreFrom from n (flat_map bind_parts bs)) (sym same) a;
    code = λ body codes σ κ s. h body σ κ s;
  }
