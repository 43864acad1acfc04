-- Each node that a run evaluates is one that the walk over the program comes to, and each closure and frame is made at one.
use Rattle.std.proofs.Common.{◌≡◌, ℕ, zero, suc, ◌+◌, List, [], ◌∷◌, ◌++◌, length, Option, Some, None, refl, sym, subst}
use Rattle.std.specs.Prelude.{IfSome, slice_get}
use Rattle.std.specs.List.{AllByRecursion}
use Rattle.smlc_base.specs.declared.point.Point.{Point}
use Rattle.sml_tree.specs.declared.bare.Bare.{Bare}
use Rattle.sml_tree.specs.declared.bare.Node.{Node}
use Rattle.sml_tree.specs.declared.bare.Node.TheVariants as node
use Rattle.sml_tree.specs.declared.bare.Field.{Field}
use Rattle.sml_tree.specs.declared.bare.Rule.{Rule}
use Rattle.sml_tree.specs.declared.bare.Binding.{Binding}
use Rattle.sml_tree.specs.declared.bare.RecBinding.{RecBinding}
use Rattle.sml_tree.specs.declared.points.Context.{Context}
use Rattle.sml_tree.specs.declared.points.Context.TheVariants.{Plain, Before}
use Rattle.sml_tree.specs.BareParts.{at_node, within}
use Rattle.sml_tree.specs.Free.{free, binds, free_match, free_fields}
use Rattle.simulation.specs.Stores.{Act, acted, machine_of}
use Rattle.simulation.specs.Machines.{state_at}
use Rattle.simulation.proofs.Machines.{state_by}
use Rattle.simulation.proofs.Lists.{length_last}
use Rattle.sml_def.proofs.Effects.{all_get, effects_map, EffectHas, act_done}
use Rattle.sml_def.proofs.Options.{bind_some, or_some, if_some}
use Rattle.sml_def.proofs.Plain.{IsIdle, IsPlainBlock, IsPlainAct, compare_plain, uncaught_plain, builtin_plain}
use Rattle.sml_def.proofs.Walked.{IsWalked, whole, IsCome, IsAwaited, RulesCome, FieldsCome, RightsCome, each_walked, rules_come, fields_come, rights_come, functions_come}
use Rattle.sml_def.specs.State.{Value, Builtin, Maker, RefMaker, Library, At, Env, Address, Awaits, FunctionPart, ArgumentPart, FieldPart, Subject, RightSide, RaisePart, Guarded, Block, Tuple, Applied, Cell, ExnName, Packet, Closure, Frame, Control, Eval, Ret, Apply, Raise, Eq, End, Focus, look}
use Rattle.sml_def.specs.Memory.{Memory, Next, going, making, awaiting}
use Rattle.sml_def.specs.Match.{con_value, fits, first_rule}
use Rattle.sml_def.specs.Step.{by_label, eval_in, closure_of, closures, function_of, function_at, group_env, declare, eval_dec, eval_fields, eval_record, eval, by_rule, resume, ret, apply_block, apply, raised_to, raised, step}
use Rattle.sml_def.specs.Run.{State, view, source, start}

module _ (p : Bare) where
  -- a frame awaits a node that the walk comes to under such a frame, and goes on with such nodes
  abbrev pub FrameComes : Awaits → Type 0
  FrameComes (FunctionPart f a env) = IsAwaited p.nodes f (length (free p.nodes a)) × IsAwaited p.nodes a 1
  FrameComes (ArgumentPart a f) = IsAwaited p.nodes a 1
  FrameComes (FieldPart e fields before later env) =
      IsAwaited p.nodes e (length before + length (free_fields (free p.nodes) later)) × FieldsCome p.nodes (suc (length before)) later
  FrameComes (Subject e rules env) = IsAwaited p.nodes e (length (free_match (binds p.nodes) (free p.nodes) rules)) × RulesCome p.nodes rules
  FrameComes (RightSide b later body env) = RightsCome p.nodes (b ∷ later) body
  FrameComes (RaisePart e) = IsAwaited p.nodes e 0
  FrameComes (Guarded i rules env) = (c : Context) × (e : ℕ) × IsWalked p.nodes i c × (slice_get p.nodes i ≡ Some (node.Handle e rules))

  abbrev pub BlockComes : Block → Type 0
  BlockComes (Closure i rules env) = (c : Context) × IsWalked p.nodes i c × (slice_get p.nodes i ≡ Some (node.Fn rules))
  BlockComes (Frame w next) = FrameComes w
  BlockComes _ = Unit {0}

  abbrev pub ControlComes : Control → Type 0
  ControlComes (Eval i env k) = IsCome p.nodes i
  ControlComes _ = Unit {0}

  pub record Comes (s : State) : Type 0 where
    pub control : ControlComes s.control.control
    pub store : AllByRecursion BlockComes s.store

  pub record ActComes (a : Act Focus Block) : Type 0 where
    pub control : ControlComes a.next.control
    pub effects : AllByRecursion (EffectHas BlockComes) a.effects

  -- the rules of a function and of a `handle`
  fn_rules : (i : ℕ) (rules : List Rule) (c : Context) → IsWalked p.nodes i c → slice_get p.nodes i ≡ Some (node.Fn rules) → RulesCome p.nodes rules
  fn_rules i rules c w is = rules_come p.nodes rules None (each_walked p.nodes i (node.Fn rules) c w is)

  handle_rules : (i e : ℕ) (rules : List Rule) (c : Context) → IsWalked p.nodes i c → slice_get p.nodes i ≡ Some (node.Handle e rules) → RulesCome p.nodes rules
  handle_rules i e rules c w is = rules_come p.nodes rules _ (each_walked p.nodes i (node.Handle e rules) c w is).1

  -- the `fn` under types
  abbrev IsFunction : ℕ × List Rule → Type 0
  IsFunction f = (c : Context) × IsWalked p.nodes f.0 c × (slice_get p.nodes f.0 ≡ Some (node.Fn f.1))

  abbrev GivesFunction : (ℕ → Option (ℕ × List Rule)) → Type 0
  GivesFunction part = (i : ℕ) → IsCome p.nodes i → IfSome (part i) IsFunction

  functions_of : (part : ℕ → Option (ℕ × List Rule)) → GivesFunction part → (i : ℕ) (n : Node) → IsCome p.nodes i → slice_get p.nodes i ≡ Some n → IfSome (function_of part i n) IsFunction
  functions_of part g i (node.Fn rules) h is = (h.0, h.1, is)
  functions_of part g i (node.Typed x ty) h is = g x (_, (each_walked p.nodes i (node.Typed x ty) h.0 h.1 is).0)
  functions_of part g i _ h is = tt

  function_within : (k : ℕ) → GivesFunction (within None function_of k p.nodes)
  function_within zero i h = tt
  function_within (suc k) i h = go (function_within k) (slice_get p.nodes i) refl
    where
      go : GivesFunction (within None function_of k p.nodes) → (o : Option Node) → slice_get p.nodes i ≡ o → IfSome (at_node None function_of (within None function_of k p.nodes) i o) IsFunction
      go below None is = tt
      go below (Some n) is = functions_of (within None function_of k p.nodes) below i n h is

  closure_comes : (all : Env) (i : ℕ) → IsCome p.nodes i → IfSome (closure_of p all (function_at p.nodes i)) BlockComes
  closure_comes all i h = go (function_at p.nodes i) (function_within (length p.nodes) i h)
    where
      go : (o : Option (ℕ × List Rule)) → IfSome o IsFunction → IfSome (closure_of p all o) BlockComes
      go None g = tt
      go (Some f) g = g

  closures_come : (all : Env) (bs : List RecBinding) → AllByRecursion (λ b. IsCome p.nodes b.right) bs → IfSome (closures p all bs) (AllByRecursion BlockComes)
  closures_come all [] h = tt
  closures_come all (b ∷ bs) h =
      bind_some (AllByRecursion BlockComes) (closure_of p all (function_at p.nodes b.right)) _ (λ c ec. bind_some (AllByRecursion BlockComes) (closures p all bs) _ (λ cs es. (
        if_some BlockComes (closure_of p all (function_at p.nodes b.right)) c ec (closure_comes all b.right h.0),
        if_some (AllByRecursion BlockComes) (closures p all bs) cs es (closures_come all bs h.1),
      )))

  module _ (s : Memory) (store : AllByRecursion BlockComes s.store) where
    abbrev Good : Next → Type 0
    Good o = IfSome o ActComes

    going_good : (c : Control) → ControlComes c → Good (going s c)
    going_good c h = record { control = h; effects = tt }

    making_good : (b : Block) (f : Address → Control) → BlockComes b → ControlComes (f (length s.store)) → Good (making s b f)
    making_good b f hb hc = record { control = hc; effects = ((hb, tt), tt) }

    awaiting_good : (w : Awaits) (k : Option Address) (i : ℕ) (env : Env) → FrameComes w → IsCome p.nodes i → Good (awaiting s w k (Eval i env))
    awaiting_good w k i env h come = making_good (Frame w k) (λ a. Eval i env (Some a)) h come

    -- ---- What evaluates nothing

    plain_control : (c : Control) → IsIdle c → ControlComes c
    plain_control (Eval i env k) h = absurd h
    plain_control _ h = tt

    plain_block : (b : Block) → IsPlainBlock b → BlockComes b
    plain_block (Closure i rules env) h = absurd h
    plain_block (Frame w next) h = absurd h
    plain_block _ h = tt

    plain_good : (o : Next) → IfSome o IsPlainAct → Good o
    plain_good None h = tt
    plain_good (Some a) h = record {
      control = plain_control a.next.control h.control;
      effects = effects_map IsPlainBlock BlockComes plain_block a.effects h.effects;
    }

    -- ---- Declarations

    declare_comes : (bindings : List Binding) (body : ℕ) (env : Env) (k : Option Address) → RightsCome p.nodes bindings body → Good (declare p s bindings body env k)
    declare_comes [] body env k h = going_good (eval_in p body env k) h
    declare_comes (b ∷ later) body env k h = awaiting_good (RightSide b later body _) k b.right _ h (_, h.0.1)

    dec_comes : (d body : ℕ) (q : Node) (env : Env) (k : Option Address) (outer : Option Point) → slice_get p.nodes d ≡ Some q → IsWalked p.nodes d (Before body outer) → IsCome p.nodes body → Good (eval_dec p s body q env k)
    dec_comes d body (node.Val tyvars bs) env k outer is w come =
        declare_comes bs body env k (rights_come p.nodes bs body outer come (each_walked p.nodes d (node.Val tyvars bs) (Before body outer) w is))
    dec_comes d body (node.ValRec tyvars bs) env k outer is w come =
        let all = group_env p (length s.store) bs ++ env in
        bind_some ActComes (closures p all bs) _ (λ blocks eb. record {
          control = come;
          effects = (if_some (AllByRecursion BlockComes) (closures p all bs) blocks eb (closures_come all bs (functions_come p.nodes bs (each_walked p.nodes d (node.ValRec tyvars bs) (Before body outer) w is))), tt);
        })
    dec_comes d body (node.Type bindings) env k outer is w come = going_good _ come
    dec_comes d body (node.Datatype bindings) env k outer is w come = going_good _ come
    dec_comes d body (node.Exception x ty) env k outer is w come = making_good (ExnName x.0) (λ a. eval_in p body ((x.0, At a) ∷ env) k) tt come
    dec_comes d body (node.SameException x c) env k outer is w come = bind_some ActComes (con_value env c) _ (λ v ev. going_good (eval_in p body ((x.0, v) ∷ env) k) come)
    dec_comes d body _ env k outer is w come = tt

    -- ---- Eval

    fields_good : (fields : List Field) (before : List Value) (later : List Field) (env : Env) (k : Option Address) → FieldsCome p.nodes (length before) later → Good (eval_fields p s fields before later env k)
    fields_good fields before [] env k h = making_good (Tuple (by_label fields before)) (λ a. Ret (At a) k) tt tt
    fields_good fields before (f ∷ later) env k h = awaiting_good (FieldPart f.node fields before later _) k f.node _ h (_, h.0.1)

    record_good : (fields : List Field) (env : Env) (k : Option Address) → FieldsCome p.nodes 0 fields → Good (eval_record p s fields env k)
    record_good [] env k h = going_good _ tt
    record_good (f ∷ fields) env k h = fields_good (f ∷ fields) [] (f ∷ fields) env k h

    eval_comes : (i : ℕ) (q : Node) (c : Context) (env : Env) (k : Option Address) → IsWalked p.nodes i c → slice_get p.nodes i ≡ Some q → Good (eval p s i q env k)
    eval_comes i (node.Int m) c env k w is = going_good _ tt
    eval_comes i (node.Char m) c env k w is = going_good _ tt
    eval_comes i (node.Text t) c env k w is = going_good _ tt
    eval_comes i (node.Var x) c env k w is = bind_some ActComes (look env x.0) _ (λ v ev. going_good (Ret v k) tt)
    eval_comes i (node.Constructor con) c env k w is = bind_some ActComes (con_value env con) _ (λ v ev. going_good (Ret v k) tt)
    eval_comes i (node.Builtin f) c env k w is = going_good _ tt
    eval_comes i (node.Record fields) c env k w is = record_good fields env k (fields_come p.nodes 0 fields _ (each_walked p.nodes i (node.Record fields) c w is))
    eval_comes i (node.App f a) c env k w is =
        let parts = each_walked p.nodes i (node.App f a) c w is in
        awaiting_good (FunctionPart f a _) k f _ ((_, parts.0), (_, parts.1.0)) (_, parts.0)
    eval_comes i (node.Case x rules) c env k w is =
        let parts = each_walked p.nodes i (node.Case x rules) c w is in
        awaiting_good (Subject x rules _) k x _ ((_, parts.0), rules_come p.nodes rules _ parts.1) (_, parts.0)
    eval_comes i (node.Fn rules) c env k w is = making_good (Closure i rules env) (λ a. Ret (At a) k) (c, w, is) tt
    eval_comes i (node.Raise x) c env k w is =
        let parts = each_walked p.nodes i (node.Raise x) c w is in
        awaiting_good (RaisePart x) k x _ (_, parts.0) (_, parts.0)
    eval_comes i (node.Handle x rules) c env k w is =
        awaiting_good (Guarded i rules _) k x _ (c, x, w, is) (_, (each_walked p.nodes i (node.Handle x rules) c w is).0)
    eval_comes i (node.Typed x ty) c env k w is = going_good (Eval x env k) (_, (each_walked p.nodes i (node.Typed x ty) c w is).0)
    eval_comes i (node.Let d body) c env k w is =
        let parts = each_walked p.nodes i (node.Let d body) c w is in
        bind_some ActComes (slice_get p.nodes d) _ (λ q ed. dec_comes d body q env k _ ed parts.0 (_, parts.1.0))
    eval_comes i node.Finish c env k w is = going_good _ tt
    eval_comes i _ c env k w is = tt

    -- ---- Ret

    rule_come : (rules : List Rule) (env : Env) (v : Value) → RulesCome p.nodes rules → IfSome (first_rule p env s.store rules v) (λ r. IsCome p.nodes r.1)
    rule_come [] env v h = tt
    rule_come (r ∷ rules) env v h =
        or_some (λ o. IfSome o (λ r. IsCome p.nodes r.1)) (fits p env s.store r.pat v) _ _ (λ bound eb. h.0) (rule_come rules env v h.1)

    rule_good : (rules : List Rule) (env : Env) (v : Value) (k : Option Address) (other : Control) → RulesCome p.nodes rules → ControlComes other → Good (by_rule p s rules env v k other)
    rule_good rules env v k other h g =
        or_some Good (first_rule p env s.store rules v) _ _ (λ r er. going_good (eval_in p r.1 (r.0 ++ env) k) (if_some (λ r. IsCome p.nodes r.1) (first_rule p env s.store rules v) r er (rule_come rules env v h))) (going_good other g)

    resume_good : (w : Awaits) (v : Value) (k : Option Address) → FrameComes w → Good (resume p s w v k)
    resume_good (FunctionPart f a env) v k h = awaiting_good (ArgumentPart a v) k a env h.1 (_, h.1.1)
    resume_good (ArgumentPart a f) v k h = going_good (Apply f v k) tt
    resume_good (FieldPart e fields before later env) v k h =
        fields_good fields (before ++ v ∷ []) later env k (subst (λ n. FieldsCome p.nodes n later) (sym (length_last before v)) h.1)
    resume_good (Subject e rules env) v k h = rule_good rules env v k _ h.1 tt
    resume_good (RightSide b later body env) v k h =
        or_some Good (fits p env s.store b.pat v) _ _ (λ bound eb. declare_comes later body (bound ++ env) k h.1) (going_good _ tt)
    resume_good (RaisePart e) v k h = going_good (Raise v k) tt
    resume_good (Guarded i rules env) v k h = going_good (Ret v k) tt

    ret_good : (o : Option Block) (v : Value) → IfSome o BlockComes → Good (ret p s o v)
    ret_good (Some (Frame w next)) v h = resume_good w v next h
    ret_good _ v h = tt

    -- ---- Apply, Raise

    apply_block_good : (o : Option Block) (f v : Value) (k : Option Address) → IfSome o BlockComes → Good (apply_block p s o f v k)
    apply_block_good (Some (Closure i rules env)) f v k h = rule_good rules env v k _ (fn_rules i rules h.0 h.1 h.2) tt
    apply_block_good (Some (ExnName x)) f v k h = making_good (Packet f v) (λ a. Ret (At a) k) tt tt
    apply_block_good _ f v k h = tt

    apply_good : (f v : Value) (k : Option Address) → Good (apply p s f v k)
    apply_good (At a) v k = apply_block_good (slice_get s.store a) (At a) v k (all_get BlockComes s.store a store)
    apply_good (Library e) v k = making_good (Packet (Library e) v) (λ a. Ret (At a) k) tt tt
    apply_good (Maker m) v k = making_good (Applied m v) (λ a. Ret (At a) k) tt tt
    apply_good RefMaker v k = making_good (Cell v) (λ a. Ret (At a) k) tt tt
    apply_good (Builtin f) v k = plain_good _ (builtin_plain p s k f v)
    apply_good _ v k = tt

    raised_to_good : (w : Awaits) (next : Option Address) (x : Value) → FrameComes w → Good (raised_to p s w next x)
    raised_to_good (Guarded i rules env) next x h = rule_good rules env x next (Raise x next) (handle_rules i h.1 rules h.0 h.2 h.3) tt
    raised_to_good _ next x h = going_good (Raise x next) tt

    raised_good : (o : Option Block) (x : Value) → IfSome o BlockComes → Good (raised p s o x)
    raised_good (Some (Frame w next)) x h = raised_to_good w next x h
    raised_good _ x h = tt

    pub step_comes : (c : Control) → ControlComes c → Good (step p s c)
    step_comes (Eval i env k) h = bind_some ActComes (slice_get p.nodes i) _ (λ q is. eval_comes i q h.0 env k h.1 is)
    step_comes (Ret v None) h = going_good _ tt
    step_comes (Ret v (Some a)) h = ret_good (slice_get s.store a) v (all_get BlockComes s.store a store)
    step_comes (Apply f v k) h = apply_good f v k
    step_comes (Raise x None) h = plain_good _ (uncaught_plain p s x)
    step_comes (Raise x (Some a)) h = raised_good (slice_get s.store a) x (all_get BlockComes s.store a store)
    step_comes (Eq None t k) h = going_good _ tt
    step_comes (Eq (Some a) t k) h = plain_good _ (compare_plain p s (slice_get s.store a) t k)
    step_comes (End e) h = tt

  comes_after : (s t : State) → Comes s → (machine_of (source p)).step s ≡ Some t → Comes t
  comes_after s t h e =
      go (step p (record { store = s.store; input = s.control.input }) s.control.control) (step_comes (record { store = s.store; input = s.control.input }) h.store s.control.control h.control) e
    where
      go : (o : Next) → IfSome o ActComes → acted view s.out s.store o ≡ Some t → Comes t
      go None g e = absurd cc
      go (Some a) g e =
          let d = act_done BlockComes s t a h.store g.effects e in
          record { control = subst (λ f. ControlComes f.control) (sym d.control) g.control; store = d.store }

  -- so it is in each state of a run
  pub run_comes : (input : List ℕ) (n : ℕ) → Comes (state_at (machine_of (source p)) (start input) n)
  run_comes input n =
      state_by (machine_of (source p)) Comes comes_after (start input) (record { control = (Plain None, whole); store = tt }) n
