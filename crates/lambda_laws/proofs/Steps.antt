-- Each step of the source from a state that is ready is answered by one step of `Lambda` from the state that stands for it.
use Rattle.std.proofs.Common.{◌≡◌, ℕ, zero, suc, Bool, true, List, [], ◌∷◌, ◌++◌, length, Option, Some, None, refl, sym, ap, ◌∙◌, subst, map}
use Rattle.std.proofs.lemmas.List.{length-map}
use Rattle.std.proofs.lemmas.Option.{slice_get-map}
use Rattle.std.specs.Prelude.{slice_get, IfSome, zip}
use Rattle.std.specs.List.{AllByRecursion}
use Rattle.std.specs.Option.{option_map}
use Rattle.sml_tree.specs.declared.bare.Bare.{Bare}
use Rattle.sml_tree.specs.declared.bare.Node.{Node}
use Rattle.sml_tree.specs.declared.bare.Node.TheVariants as node
use Rattle.sml_tree.specs.declared.bare.Field.{Field}
use Rattle.sml_tree.specs.declared.bare.Rule.{Rule}
use Rattle.sml_tree.specs.declared.bare.Binding.{Binding}
use Rattle.sml_tree.specs.declared.bare.RecBinding.{RecBinding}
use Rattle.smlc_base.specs.declared.exception.LibraryExn.TheVariants as exn
use Rattle.sml_tree.specs.BareParts.{at_node, within}
use Rattle.sml_tree.specs.Free.{free, binds, free_match, free_fields, free_rest}
use Rattle.sml_tree.specs.IsBare.{IsBare, HasSorts, HasRules, sort_of}
use Rattle.sml_types.specs.declared.tables.TypeName.{TypeName}
use Rattle.simulation.specs.Stores.{makes}
use Rattle.sml_def.specs.Maybe.{◌>>=◌, or_else}
use Rattle.sml_def.specs.State.{Value, Builtin, Maker, RefMaker, Library, At, Env, Address, Awaits, FunctionPart, ArgumentPart, FieldPart, Subject, RightSide, RaisePart, Guarded, Block, Tuple, Applied, Cell, ExnName, Packet, Closure, Frame, Pending, Uncaught, Control, Eval, Ret, Apply, Raise, Eq, End, look, cut}
use Rattle.sml_def.specs.Memory.{Memory, Next, going, making, awaiting, making_all}
use Rattle.sml_def.specs.Match.{con_value, first_rule, fits}
use Rattle.sml_def.specs.Builtin.{raising, builtin}
use Rattle.sml_def.specs.Step.{count_up, by_label, env_of, env_of_match, env_of_fields, env_of_rest, eval_in, group_env, closure_of, closures, declare, eval_dec, eval_fields, eval_record, eval, by_rule, bind, resume, ret, apply_block, apply, exn_name, name_of, uncaught, raised_to, raised, compare, step}
use Rattle.sml_def.specs.Step as source
use Rattle.sml_def.proofs.Effects.{all_get}
use Rattle.sml_def.proofs.Options.{if_some, or_some}
use Rattle.sml_def.proofs.Plain.{compare_plain, builtin_plain}
use Rattle.lambda_ir.specs.declared.term.Case.{Case}
use Rattle.lambda_ir.specs.Program.{Lambda}
use Rattle.lambda_ir.specs.Free as terms
use Rattle.lambda_ir.specs.State.{Waits, FunctionOf, ArgumentOf, PartOf, SubjectOf, RightOf, RaiseOf, GuardOf, Plain, Code}
use Rattle.lambda_ir.specs.Step.{Store, Goes, facing, on, making_item, holding, making_items, plainly, by_slot, env_at, env_at_cases, env_at_parts, env_behind, eval_under, group_names, code_of, codes_of, declares, eval_declaration, eval_parts, eval_tuple, eval_term, by_case, binds_one, resumes, returns, enters, applies, uncaught_by, raises_to, raises_on, compares, step_term}
use Rattle.match_laws.specs.Compile.{tests, names, cases_of, bind_of}
use Rattle.match_laws.specs.Shape.{shaped}
use Rattle.match_laws.proofs.Fits.{tests_fit, tests_choose}
use Rattle.lambda_laws.specs.Make.{part_of, term_of, terms_of, lambda_of}
use Rattle.lambda_laws.specs.Lower.{lower_waits, lower, lower_store, lower_memory, lower_act, lowered}
use Rattle.lambda_laws.specs.Ready.{IsExpression, AreFields, AreBindings, RulesReady, WaitsReady, ReturnReady, EnterReady, RaiseReady, ControlReady}
use Rattle.lambda_laws.proofs.Insensitive.{builtin_same, compared_same, exn_same, chosen_same, first_same, plain_same}

-- terms have the free variables of their nodes
pub record HasSameFree (ts : List TypeName) (p : Bare) : Type 0 where
  pub node : (i : ℕ) → IsExpression p i → terms.free_at (terms_of ts p) i ≡ free p.nodes i
  pub rules : (rs : List Rule) → HasRules p.nodes rs → terms.free_cases (terms.free_at (terms_of ts p)) (cases_of ts p.nodes rs) ≡ free_match (binds p.nodes) (free p.nodes) rs
  pub fields : (fs : List Field) → AreFields p fs → terms.free_parts (terms.free_at (terms_of ts p)) (map part_of fs) ≡ free_fields (free p.nodes) fs
  pub rest : (b : Binding) (later : List Binding) (body : ℕ) → AreBindings p (b ∷ later) → IsExpression p body → terms.free_behind (terms.free_at (terms_of ts p)) (bind_of ts p.nodes b) (map (bind_of ts p.nodes) later) body ≡ free_rest (binds p.nodes) (free p.nodes) b later body

-- where the source has a step, the other has the one that stands for it
abbrev pub Answered : List TypeName → List Node → Next → Goes → Type 0
Answered ts nodes o y = IfSome o (λ a. y ≡ Some (lower_act ts nodes a))

pub same_ok : (ts : List TypeName) (nodes : List Node) (o : Next) (y : Goes) → y ≡ lowered ts nodes o → Answered ts nodes o y
same_ok ts nodes None y e = tt
same_ok ts nodes (Some a) y e = e

slots_same : (fields : List Field) → map (λ q. q.slot) (map part_of fields) ≡ map (λ f. f.slot) fields
slots_same [] = refl
slots_same (f ∷ fields) = ap (λ xs. f.slot ∷ xs) (slots_same fields)

slot_same : (fields : List Field) (vs : List Value) → by_slot (map part_of fields) vs ≡ by_label fields vs
slot_same fields vs =
    ap (λ n. map (λ b. b.1) (cut (count_up 0 n) (zip (map (λ q. q.slot) (map part_of fields)) vs))) (length-map fields part_of)
    ∙ ap (λ xs. map (λ b. b.1) (cut (count_up 0 (length fields)) (zip xs vs))) (slots_same fields)

module _ (ts : List TypeName) (p : Bare) (bare : IsBare p) (same : HasSameFree ts p) where
  abbrev l : Lambda
  l = lambda_of ts p

  sorts_at : (i : ℕ) (n : Node) → slice_get p.nodes i ≡ Some n → HasSorts p.nodes n
  sorts_at i n e = if_some (HasSorts p.nodes) (slice_get p.nodes i) n e (all_get (HasSorts p.nodes) p.nodes i bare.sorts)

  -- ---- Functions of a group

  abbrev lower_function : ℕ × List Rule → ℕ × List Case
  lower_function f = (f.0, cases_of ts p.nodes f.1)

  abbrev source_functions : ℕ → ℕ → Option (ℕ × List Rule)
  source_functions k = within None source.function_of k p.nodes

  abbrev term_functions : ℕ → ℕ → Option (ℕ × List Case)
  term_functions k = terms.within_terms None terms.function_of_term k (terms_of ts p)

  function_in : (k i : ℕ) → term_functions k i ≡ option_map lower_function (source_functions k i)
  function_in zero i = refl
  function_in (suc k) i =
      ap (terms.at_term None terms.function_of_term (term_functions k) i) (slice_get-map (term_of ts p.nodes) p.nodes i) ∙ go (slice_get p.nodes i) (function_in k)
    where
      go : (o : Option Node) → ((c : ℕ) → term_functions k c ≡ option_map lower_function (source_functions k c)) → terms.at_term None terms.function_of_term (term_functions k) i (option_map (term_of ts p.nodes) o) ≡ option_map lower_function (at_node None source.function_of (source_functions k) i o)
      go None h = refl
      go (Some (node.Fn rules)) h = refl
      go (Some (node.Typed e ty)) h = h e
      go (Some _) h = refl

  pub function_same : (i : ℕ) → terms.function_at (terms_of ts p) i ≡ option_map lower_function (source.function_at p.nodes i)
  function_same i = ap (λ n. term_functions n i) (length-map p.nodes (term_of ts p.nodes)) ∙ function_in (length p.nodes) i

  function_is : (k i : ℕ) → IfSome (source_functions k i) (λ f. IsExpression p f.0)
  function_is zero i = tt
  function_is (suc k) i = go (slice_get p.nodes i) refl (function_is k)
    where
      go : (o : Option Node) → slice_get p.nodes i ≡ o → ((c : ℕ) → IfSome (source_functions k c) (λ f. IsExpression p f.0)) → IfSome (at_node None source.function_of (source_functions k) i o) (λ f. IsExpression p f.0)
      go None e h = tt
      go (Some (node.Fn rules)) e h = ap (option_map sort_of) e
      go (Some (node.Typed x ty)) e h = h x
      go (Some _) e h = tt

  code_same : (env : Env) (o : Option (ℕ × List Rule)) → IfSome o (λ f. IsExpression p f.0) → code_of l env (option_map lower_function o) ≡ option_map (lower ts p.nodes) (closure_of p env o)
  code_same env None h = refl
  code_same env (Some f) h = ap (λ xs. Some (Code f.0 (cases_of ts p.nodes f.1) (cut xs env))) (same.node f.0 h)

  codes_same : (env : Env) (bs : List RecBinding) → codes_of l env bs ≡ option_map (lower_store ts p.nodes) (closures p env bs)
  codes_same env [] = refl
  codes_same env (b ∷ bs) =
      ap (λ o. code_of l env o >>= (λ code. codes_of l env bs >>= (λ others. Some (code ∷ others)))) (function_same b.right)
      ∙ ap (λ o. o >>= (λ code. codes_of l env bs >>= (λ others. Some (code ∷ others)))) (code_same env (source.function_at p.nodes b.right) (function_is (length p.nodes) b.right))
      ∙ ap (λ o. option_map (lower ts p.nodes) (closure_of p env (source.function_at p.nodes b.right)) >>= (λ code. o >>= (λ others. Some (code ∷ others)))) (codes_same env bs)
      ∙ go (closure_of p env (source.function_at p.nodes b.right)) (closures p env bs)
    where
      go : (c : Option Block) (cs : Option (List Block)) → (option_map (lower ts p.nodes) c >>= (λ code. option_map (lower_store ts p.nodes) cs >>= (λ others. Some (code ∷ others)))) ≡ option_map (lower_store ts p.nodes) (c >>= (λ closure. cs >>= (λ others. Some (closure ∷ others))))
      go None cs = refl
      go (Some c) None = refl
      go (Some c) (Some cs) = refl

  group_same : (a : Address) (bs : List RecBinding) → group_names l a bs ≡ group_env p a bs
  group_same a [] = refl
  group_same a (b ∷ bs) = ap (λ e. (b.name.0, At a) ∷ e) (group_same (suc a) bs)

  module _ (m : Memory) where
    abbrev low : Store
    low = lower_memory ts p.nodes m

    abbrev Ok : Next → Goes → Type 0
    Ok o y = Answered ts p.nodes o y

    ok : (o : Next) (y : Goes) → y ≡ lowered ts p.nodes o → Ok o y
    ok o y e = same_ok ts p.nodes o y e

    len : length low.items ≡ length m.store
    len = length-map m.store (lower ts p.nodes)

    make_same : (b : Block) (f g : Address → Control) → ((n : ℕ) → f n ≡ g n) → making_item low (lower ts p.nodes b) f ≡ lowered ts p.nodes (making m b g)
    make_same b f g h =
        ap (λ c. makes (facing low c) (lower ts p.nodes b ∷ [])) (h (length low.items)) ∙ ap (λ n. makes (facing low (g n)) (lower ts p.nodes b ∷ [])) len

    hold_same : (x : Waits) (w : Awaits) (k : Option Address) (f g : Option Address → Control) → x ≡ lower_waits ts p.nodes w → ((k : Option Address) → f k ≡ g k) → holding low x k f ≡ lowered ts p.nodes (awaiting m w k g)
    hold_same x w k f g e h =
        ap (λ x. holding low x k f) e ∙ make_same (Frame w k) (λ a. f (Some a)) (λ a. g (Some a)) (λ n. h (Some n))

    under_same : (i : ℕ) (env : Env) → IsExpression p i → (k : Option Address) → eval_under l i env k ≡ eval_in p i env k
    under_same i env h k = ap (λ xs. Eval i (cut xs env) k) (same.node i h)

    -- ---- Declarations

    declare_same : (bs : List Binding) (body : ℕ) (env : Env) (k : Option Address) → AreBindings p bs → IsExpression p body → declares l low (map (bind_of ts p.nodes) bs) body env k ≡ lowered ts p.nodes (declare p m bs body env k)
    declare_same [] body env k h hb = ap (on low) (under_same body env hb k)
    declare_same (b ∷ later) body env k h hb =
        hold_same (RightOf (bind_of ts p.nodes b) (map (bind_of ts p.nodes) later) body (env_behind l (bind_of ts p.nodes b) (map (bind_of ts p.nodes) later) body env)) (RightSide b later body (env_of_rest p b later body env)) k (eval_under l b.right env) (eval_in p b.right env)
        (ap (λ xs. RightOf (bind_of ts p.nodes b) (map (bind_of ts p.nodes) later) body (cut xs env)) (same.rest b later body h hb)) (under_same b.right env h.0.1)

    dec_ok : (body : ℕ) (n : Node) (env : Env) (k : Option Address) → HasSorts p.nodes n → IsExpression p body → Ok (eval_dec p m body n env k) (eval_declaration l low body (term_of ts p.nodes n) env k)
    dec_ok body (node.Val tyvars bs) env k h hb = ok (declare p m bs body env k) _ (declare_same bs body env k h hb)
    dec_ok body (node.ValRec tyvars bs) env k h hb =
        ok _ _ (ap (λ n. let all = group_names l n bs ++ env in codes_of l all bs >>= (λ codes. making_items low codes (eval_under l body all k))) len
        ∙ ap (λ e. let all = e ++ env in codes_of l all bs >>= (λ codes. making_items low codes (eval_under l body all k))) (group_same (length m.store) bs)
        ∙ ap (λ o. o >>= (λ codes. making_items low codes (eval_under l body (group_env p (length m.store) bs ++ env) k))) (codes_same (group_env p (length m.store) bs ++ env) bs)
        ∙ go (closures p (group_env p (length m.store) bs ++ env) bs) (under_same body (group_env p (length m.store) bs ++ env) hb k))
      where
        go : (o : Option (List Block)) → eval_under l body (group_env p (length m.store) bs ++ env) k ≡ eval_in p body (group_env p (length m.store) bs ++ env) k → (option_map (lower_store ts p.nodes) o >>= (λ codes. making_items low codes (eval_under l body (group_env p (length m.store) bs ++ env) k))) ≡ lowered ts p.nodes (o >>= (λ blocks. making_all m blocks (eval_in p body (group_env p (length m.store) bs ++ env) k)))
        go None e = refl
        go (Some blocks) e = ap (making_items low (lower_store ts p.nodes blocks)) e
    dec_ok body (node.Type bindings) env k h hb = ap (on low) (under_same body env hb k)
    dec_ok body (node.Datatype bindings) env k h hb = ap (on low) (under_same body env hb k)
    dec_ok body (node.Exception x ty) env k h hb =
        make_same (ExnName x.0) (λ a. eval_under l body ((x.0, At a) ∷ env) k) (λ a. eval_in p body ((x.0, At a) ∷ env) k) (λ a. under_same body ((x.0, At a) ∷ env) hb k)
    dec_ok body (node.SameException x c) env k h hb = go (con_value env c)
      where
        go : (o : Option Value) → Ok (o >>= (λ v. going m (eval_in p body ((x.0, v) ∷ env) k))) (o >>= (λ v. on low (eval_under l body ((x.0, v) ∷ env) k)))
        go None = tt
        go (Some v) = ap (on low) (under_same body ((x.0, v) ∷ env) hb k)
    dec_ok body _ env k h hb = tt

    -- ---- Eval

    fields_same : (fields : List Field) (before : List Value) (later : List Field) (env : Env) (k : Option Address) → AreFields p later → eval_parts l low (map part_of fields) before (map part_of later) env k ≡ lowered ts p.nodes (eval_fields p m fields before later env k)
    fields_same fields before [] env k h =
        ap (λ vs. making_item low (Plain (Tuple vs)) (λ a. Ret (At a) k)) (slot_same fields before) ∙ make_same (Tuple (by_label fields before)) _ (λ a. Ret (At a) k) (λ a. refl)
    fields_same fields before (f ∷ later) env k h =
        hold_same (PartOf f.node (map part_of fields) before (map part_of later) (env_at_parts l (map part_of later) env)) (FieldPart f.node fields before later (env_of_fields p later env)) k (eval_under l f.node env) (eval_in p f.node env)
        (ap (λ xs. PartOf f.node (map part_of fields) before (map part_of later) (cut xs env)) (same.fields later h.1)) (under_same f.node env h.0)

    record_same : (fields : List Field) (env : Env) (k : Option Address) → AreFields p fields → eval_tuple l low (map part_of fields) env k ≡ lowered ts p.nodes (eval_record p m fields env k)
    record_same [] env k h = refl
    record_same (f ∷ fields) env k h = fields_same (f ∷ fields) [] (f ∷ fields) env k h

    value_ok : (o : Option Value) (k : Option Address) → Ok (o >>= (λ v. going m (Ret v k))) (o >>= (λ v. on low (Ret v k)))
    value_ok None k = tt
    value_ok (Some v) k = refl

    eval_ok : (i : ℕ) (n : Node) (env : Env) (k : Option Address) → HasSorts p.nodes n → Ok (eval p m i n env k) (eval_term l low i (term_of ts p.nodes n) env k)
    eval_ok i (node.Int n) env k h = refl
    eval_ok i (node.Char c) env k h = refl
    eval_ok i (node.Text t) env k h = refl
    eval_ok i (node.Var x) env k h = value_ok (look env x.0) k
    eval_ok i (node.Constructor c) env k h = value_ok (con_value env c) k
    eval_ok i (node.Builtin f) env k h = refl
    eval_ok i (node.Record fields) env k h = ok (eval_record p m fields env k) _ (record_same fields env k h)
    eval_ok i (node.App f a) env k h =
        hold_same (FunctionOf f a (env_at l a env)) (FunctionPart f a (env_of p a env)) k (eval_under l f env) (eval_in p f env) (ap (λ xs. FunctionOf f a (cut xs env)) (same.node a h.1)) (under_same f env h.0)
    eval_ok i (node.Case e rules) env k h =
        hold_same (SubjectOf e (cases_of ts p.nodes rules) (env_at_cases l (cases_of ts p.nodes rules) env)) (Subject e rules (env_of_match p rules env)) k (eval_under l e env) (eval_in p e env) (ap (λ xs. SubjectOf e (cases_of ts p.nodes rules) (cut xs env)) (same.rules rules h.1)) (under_same e env h.0)
    eval_ok i (node.Fn rules) env k h = make_same (Closure i rules env) (λ a. Ret (At a) k) (λ a. Ret (At a) k) (λ a. refl)
    eval_ok i (node.Raise e) env k h = hold_same (RaiseOf e) (RaisePart e) k (eval_under l e env) (eval_in p e env) refl (under_same e env h)
    eval_ok i (node.Handle e rules) env k h =
        hold_same (GuardOf i (cases_of ts p.nodes rules) (env_at_cases l (cases_of ts p.nodes rules) env)) (Guarded i rules (env_of_match p rules env)) k (eval_under l e env) (eval_in p e env) (ap (λ xs. GuardOf i (cases_of ts p.nodes rules) (cut xs env)) (same.rules rules h.1)) (under_same e env h.0)
    eval_ok i (node.Typed e ty) env k h = refl
    eval_ok i (node.Let d body) env k h =
        subst (λ o. Ok (slice_get p.nodes d >>= (λ dec. eval_dec p m body dec env k)) (o >>= (λ dec. eval_declaration l low body dec env k))) (sym (slice_get-map (term_of ts p.nodes) p.nodes d)) (go (slice_get p.nodes d) refl)
      where
        go : (o : Option Node) → slice_get p.nodes d ≡ o → Ok (o >>= (λ dec. eval_dec p m body dec env k)) (option_map (term_of ts p.nodes) o >>= (λ dec. eval_declaration l low body dec env k))
        go None e = tt
        go (Some n) e = dec_ok body n env k (sorts_at d n e) h.1
    eval_ok i node.Finish env k h = refl
    eval_ok i _ env k h = tt

    -- ---- Ret

    rule_exp : (env : Env) (rules : List Rule) (v : Value) → RulesReady p m.store env rules v → IfSome (first_rule p env m.store rules v) (λ r. IsExpression p r.1)
    rule_exp env [] v h = tt
    rule_exp env (r ∷ rules) v h =
        or_some (λ o. IfSome o (λ r. IsExpression p r.1)) (fits p env m.store r.pat v) _ _ (λ bound e. h.0.1) (rule_exp env rules v h.1)

    shapes : (env : Env) (rules : List Rule) (v : Value) → RulesReady p m.store env rules v → AllByRecursion (λ r. shaped p env m.store r.pat v ≡ true) rules
    shapes env [] v h = tt
    shapes env (r ∷ rules) v h = (h.0.0, shapes env rules v h.1)

    case_same : (rules : List Rule) (env : Env) (v : Value) (k : Option Address) (other : Control) → RulesReady p m.store env rules v → by_case l low (cases_of ts p.nodes rules) env v k other ≡ lowered ts p.nodes (by_rule p m rules env v k other)
    case_same rules env v k other h =
        ap (λ o. or_else o (λ r. on low (eval_under l r.1 (r.0 ++ env) k)) (on low other)) (first_same ts p m env (cases_of ts p.nodes rules) v ∙ sym (tests_choose ts p env m.store rules v (shapes env rules v h)))
        ∙ go (first_rule p env m.store rules v) (rule_exp env rules v h)
      where
        go : (o : Option (Env × ℕ)) → IfSome o (λ r. IsExpression p r.1) → or_else o (λ r. on low (eval_under l r.1 (r.0 ++ env) k)) (on low other) ≡ lowered ts p.nodes (or_else o (λ r. going m (eval_in p r.1 (r.0 ++ env) k)) (going m other))
        go None h = refl
        go (Some r) h = ap (on low) (under_same r.1 (r.0 ++ env) h k)

    bind_one : (b : Binding) (later : List Binding) (body : ℕ) (env : Env) (v : Value) (k : Option Address) → (shaped p env m.store b.pat v ≡ true) × AreBindings p later × IsExpression p body → binds_one l low (bind_of ts p.nodes b) (map (bind_of ts p.nodes) later) body env v k ≡ lowered ts p.nodes (bind p m b later body env v k)
    bind_one b later body env v k h =
        ap (λ o. or_else o (λ bound. declares l low (map (bind_of ts p.nodes) later) body (bound ++ env) k) (on low (raising exn.BindExn k))) (chosen_same ts p m env (tests ts p.nodes b.pat []) (names p.nodes b.pat []) v ∙ sym (tests_fit ts p env m.store b.pat v h.0))
        ∙ go (fits p env m.store b.pat v)
      where
        go : (o : Option Env) → or_else o (λ bound. declares l low (map (bind_of ts p.nodes) later) body (bound ++ env) k) (on low (raising exn.BindExn k)) ≡ lowered ts p.nodes (or_else o (λ bound. declare p m later body (bound ++ env) k) (going m (raising exn.BindExn k)))
        go None = refl
        go (Some bound) = declare_same later body (bound ++ env) k h.1 h.2

    resume_same : (w : Awaits) (v : Value) (k : Option Address) → WaitsReady p m.store w v → resumes l low (lower_waits ts p.nodes w) v k ≡ lowered ts p.nodes (resume p m w v k)
    resume_same (FunctionPart f a env) v k h = hold_same (ArgumentOf a v) (ArgumentPart a v) k (Eval a env) (Eval a env) refl (λ k. refl)
    resume_same (ArgumentPart a f) v k h = refl
    resume_same (FieldPart e fields before later env) v k h = fields_same fields (before ++ v ∷ []) later env k h
    resume_same (Subject e rules env) v k h = case_same rules env v k (raising exn.MatchExn k) h
    resume_same (RightSide b later body env) v k h = bind_one b later body env v k h
    resume_same (RaisePart e) v k h = refl
    resume_same (Guarded i rules env) v k h = refl

    return_ok : (o : Option Block) (v : Value) → ReturnReady p m.store o v → Ok (ret p m o v) (returns l low (option_map (lower ts p.nodes) o) v)
    return_ok None v h = tt
    return_ok (Some (Frame w next)) v h = ok (resume p m w v next) _ (resume_same w v next h)
    return_ok (Some _) v h = tt

    -- ---- Apply, Raise, Eq

    enter_ok : (o : Option Block) (f v : Value) (k : Option Address) → EnterReady p m.store o v → Ok (apply_block p m o f v k) (enters l low (option_map (lower ts p.nodes) o) f v k)
    enter_ok None f v k h = tt
    enter_ok (Some (Closure i rules env)) f v k h = ok (by_rule p m rules env v k (raising exn.MatchExn k)) _ (case_same rules env v k (raising exn.MatchExn k) h)
    enter_ok (Some (ExnName x)) f v k h = make_same (Packet f v) (λ a. Ret (At a) k) (λ a. Ret (At a) k) (λ a. refl)
    enter_ok (Some _) f v k h = tt

    apply_ok : (f v : Value) (k : Option Address) → ControlReady p m.store (Apply f v k) → Ok (apply p m f v k) (applies l low f v k)
    apply_ok (At a) v k h =
        subst (λ o. Ok (apply_block p m (slice_get m.store a) (At a) v k) (enters l low o (At a) v k)) (sym (slice_get-map (lower ts p.nodes) m.store a)) (enter_ok (slice_get m.store a) (At a) v k h)
    apply_ok (Library e) v k h = make_same (Packet (Library e) v) (λ a. Ret (At a) k) (λ a. Ret (At a) k) (λ a. refl)
    apply_ok (Maker n) v k h = make_same (Applied n v) (λ a. Ret (At a) k) (λ a. Ret (At a) k) (λ a. refl)
    apply_ok RefMaker v k h = make_same (Cell v) (λ a. Ret (At a) k) (λ a. Ret (At a) k) (λ a. refl)
    apply_ok (Builtin f) v k h = ok (builtin p.texts m k f v) _ (ap plainly (builtin_same ts p m k f v) ∙ plain_same ts p m (builtin p.texts m k f v) (builtin_plain p m k f v))
    apply_ok _ v k h = tt

    raise_same : (w : Awaits) (next : Option Address) (x : Value) → RaiseReady p m.store (Some (Frame w next)) x → raises_to l low (lower_waits ts p.nodes w) next x ≡ lowered ts p.nodes (raised_to p m w next x)
    raise_same (Guarded i rules env) next x h = case_same rules env x next (Raise x next) h
    raise_same (FunctionPart f a env) next x h = refl
    raise_same (ArgumentPart a f) next x h = refl
    raise_same (FieldPart e fields before later env) next x h = refl
    raise_same (Subject e rules env) next x h = refl
    raise_same (RightSide b later body env) next x h = refl
    raise_same (RaisePart e) next x h = refl

    raise_ok : (o : Option Block) (x : Value) → RaiseReady p m.store o x → Ok (raised p m o x) (raises_on l low (option_map (lower ts p.nodes) o) x)
    raise_ok None x h = tt
    raise_ok (Some (Frame w next)) x h = ok (raised_to p m w next x) _ (raise_same w next x h)
    raise_ok (Some _) x h = tt

    uncaught_ok : (x : Value) → Ok (uncaught p m x) (uncaught_by l low x)
    uncaught_ok x =
        subst (λ o. Ok (uncaught p m x) (o >>= (λ name. on low (End (Uncaught name))))) (sym (exn_same ts p m x)) (go (exn_name p m.store (name_of p m.store x)))
      where
        go : (o : Option (List ℕ)) → Ok (o >>= (λ name. going m (End (Uncaught name)))) (o >>= (λ name. on low (End (Uncaught name))))
        go None = tt
        go (Some name) = refl

    compare_ok : (o : Option Block) (t : Bool) (k : Option Address) → Ok (compare p m o t k) (compares l low (option_map (lower ts p.nodes) o) t k)
    compare_ok None t k = tt
    compare_ok (Some (Pending v w next)) t k =
        ok (compare p m (Some (Pending v w next)) t k) _ (ap plainly (compared_same ts p m v w next t k) ∙ plain_same ts p m (compare p m (Some (Pending v w next)) t k) (compare_plain p m (Some (Pending v w next)) t k))
    compare_ok (Some _) t k = tt

    pub step_ok : (c : Control) → ControlReady p m.store c → Ok (step p m c) (step_term l low c)
    step_ok (Eval i env k) h =
        subst (λ o. Ok (slice_get p.nodes i >>= (λ n. eval p m i n env k)) (o >>= (λ n. eval_term l low i n env k))) (sym (slice_get-map (term_of ts p.nodes) p.nodes i)) (go (slice_get p.nodes i) refl)
      where
        go : (o : Option Node) → slice_get p.nodes i ≡ o → Ok (o >>= (λ n. eval p m i n env k)) (option_map (term_of ts p.nodes) o >>= (λ n. eval_term l low i n env k))
        go None e = tt
        go (Some n) e = eval_ok i n env k (sorts_at i n e)
    step_ok (Ret v None) h = refl
    step_ok (Ret v (Some a)) h =
        subst (λ o. Ok (ret p m (slice_get m.store a) v) (returns l low o v)) (sym (slice_get-map (lower ts p.nodes) m.store a)) (return_ok (slice_get m.store a) v h)
    step_ok (Apply f v k) h = apply_ok f v k h
    step_ok (Raise x None) h = uncaught_ok x
    step_ok (Raise x (Some a)) h =
        subst (λ o. Ok (raised p m (slice_get m.store a) x) (raises_on l low o x)) (sym (slice_get-map (lower ts p.nodes) m.store a)) (raise_ok (slice_get m.store a) x h)
    step_ok (Eq None t k) h = refl
    step_ok (Eq (Some a) t k) h =
        subst (λ o. Ok (compare p m (slice_get m.store a) t k) (compares l low o t k)) (sym (slice_get-map (lower ts p.nodes) m.store a)) (compare_ok (slice_get m.store a) t k)
    step_ok (End e) h = tt
