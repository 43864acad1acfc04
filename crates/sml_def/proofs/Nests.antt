-- The frame that a frame names is the one that its site has around it, after each step too.
use Rattle.std.proofs.Common.{◌≡◌, ◌≢◌, ℕ, zero, suc, ◌+◌, Bool, true, false, cond, List, [], ◌∷◌, ◌++◌, length, map, set, Option, Some, None, refl, sym, ap, ◌∙◌, subst, inl, inr, ⊎_elim}
use Rattle.std.specs.Prelude.{IfSome, slice_get}
use Rattle.std.specs.List.{AllByRecursion}
use Rattle.smlc_base.specs.declared.point.Point.{Point}
use Rattle.smlc_base.specs.declared.point.Site.{Site}
use Rattle.smlc_base.specs.declared.point.PointKind.TheVariants as kind
use Rattle.sml_tree.specs.declared.bare.Bare.{Bare}
use Rattle.sml_tree.specs.declared.bare.Node.{Node}
use Rattle.sml_tree.specs.declared.bare.Node.TheVariants as node
use Rattle.sml_tree.specs.declared.bare.Field.{Field}
use Rattle.sml_tree.specs.declared.bare.Rule.{Rule}
use Rattle.sml_tree.specs.declared.bare.Binding.{Binding}
use Rattle.sml_tree.specs.declared.bare.RecBinding.{RecBinding}
use Rattle.sml_tree.specs.declared.points.Context.{Context}
use Rattle.sml_tree.specs.declared.points.Context.TheVariants.{Awaited, Plain, Before}
use Rattle.sml_tree.specs.declared.points.Spot.{Spot}
use Rattle.sml_tree.specs.IsBare.{IsBare}
use Rattle.sml_tree.specs.BareParts.{IsNumbered}
use Rattle.sml_tree.specs.Free.{free, binds, free_match, free_fields, free_rest}
use Rattle.sml_tree.specs.Points.{point, spot, inside, field_parts, right_parts, rule_parts, spots}
use Rattle.simulation.specs.Blocks.{IsAmong, StandsAt}
use Rattle.simulation.specs.Blocks as sim
use Rattle.simulation.specs.Stores.{Effect, Append, Put, Act, all_affected, replaced, may_replace, acted, machine_of}
use Rattle.simulation.specs.Machines.{state_at, next_of}
use Rattle.simulation.proofs.Lists.{option_cases, length_last, among_left, among_right, among_one, map_among, get_append, get_last, get_set_other}
use Rattle.simulation.proofs.Heaps.{eq_cases, stands_map, stands_of}
use Rattle.sml_def.proofs.Effects.{all_get, all_map, effects_map, EffectHas, none_affected, act_done, act_makes}
use Rattle.sml_def.proofs.Options.{bind_some, or_some, if_some}
use Rattle.sml_def.proofs.Walked.{IsWalked, whole, each_walked, ret_among, fn_among, caught_among, popped_among}
use Rattle.sml_def.proofs.Comes.{BlockComes, Comes, run_comes}
use Rattle.sml_def.specs.State.{Value, At, Env, Address, Awaits, FunctionPart, ArgumentPart, FieldPart, Subject, RightSide, RaisePart, Guarded, Block, Tuple, Applied, Text, Cell, ExnName, Packet, Closure, Frame, Pending, Control, Eval, Ret, Apply, Raise, Eq, End, Focus}
use Rattle.sml_def.proofs.Plain.{IsIdle, IsPlainBlock, IsPlainAct, compare_plain, uncaught_plain, builtin_plain}
use Rattle.sml_def.specs.State.{Builtin, Maker, RefMaker, Library, look}
use Rattle.sml_def.specs.Memory.{Memory, Next, going, making, awaiting}
use Rattle.sml_def.specs.Match.{con_value, fits, first_rule}
use Rattle.sml_def.specs.Step.{by_label, eval_in, closure_of, closures, function_at, group_env, declare, eval_dec, eval_fields, eval_record, eval, by_rule, resume, ret, apply_block, apply, raised_to, raised, step}
use Rattle.sml_def.specs.Run.{State, view, frame_points, of_frame, of_next, source, start}
use Rattle.sml_def.specs.Sites.{site_of, sites, eq_site}
use Rattle.sml_def.specs.Frames.{NamesFrameOf}

-- where there is a frame around it, x names it
abbrev pub NamesOuter : List sim.Block → sim.Block → Option Point → Type 0
NamesOuter memory x None = Unit {0}
NamesOuter memory x (Some q) = NamesFrameOf memory x q

-- the point by which a frame is named
abbrev pub first : Awaits → Point
first (FunctionPart f a env) = point f kind.Ret
first (ArgumentPart a f) = point a kind.Ret
first (FieldPart e fields before later env) = point e kind.Ret
first (Subject e rules env) = point e kind.Ret
first (RightSide b later body env) = point b.right kind.Ret
first (RaisePart e) = point e kind.Ret
first (Guarded i rules env) = point i kind.Caught

pub first_among : (w : Awaits) → IsAmong (first w) (frame_points w)
first_among (FunctionPart f a env) = inl refl
first_among (ArgumentPart a f) = inl refl
first_among (FieldPart e fields before later env) = inl refl
first_among (Subject e rules env) = inl refl
first_among (RightSide b later body env) = inl refl
first_among (RaisePart e) = inl refl
first_among (Guarded i rules env) = inl refl

-- frames stay
abbrev FramesStay : List Block → List Block → Type 0
FramesStay old new = (a : ℕ) (w : Awaits) (next : Option Address) → slice_get old a ≡ Some (Frame w next) → slice_get new a ≡ Some (Frame w next)

put_stays : (store : List Block) (a : ℕ) (x old : Block) → slice_get store a ≡ Some old → may_replace (view old) (view x) ≡ true → FramesStay store (set store a x)
put_stays store a x old is may b w next e =
    ⊎_elim
    (λ (same : b ≡ a).
    let f : Some old ≡ Some (Frame w next) = sym is ∙ sym (ap (slice_get store) same) ∙ e in
    let g : old ≡ Frame w next = cc in
    let h : false ≡ true = subst (λ o. may_replace (view o) (view x) ≡ true) g may in absurd cc)
    (λ (other : b ≢ a). get_set_other store a x b other ∙ e)
    (eq_cases b a)

replaced_stays : (store ys : List Block) (a : ℕ) (x : Block) (es : List (Effect Block)) → ((zs : List Block) → all_affected view (Some zs) es ≡ Some ys → FramesStay zs ys) → (o : Option Block) → slice_get store a ≡ o → all_affected view (replaced view store a x o) es ≡ Some ys → FramesStay store ys
replaced_stays store ys a x es on None is e = absurd (let n = none_affected es in cc)
replaced_stays store ys a x es on (Some old) is e = go (may_replace (view old) (view x)) refl e
  where
    go : (t : Bool) → may_replace (view old) (view x) ≡ t → all_affected view (cond t (Some (set store a x)) None) es ≡ Some ys → FramesStay store ys
    go true may e = λ b w next h. on (set store a x) e b w next (put_stays store a x old is may b w next h)
    go false may e = absurd (let n = none_affected es in cc)

frames_stay : (es : List (Effect Block)) (store ys : List Block) → all_affected view (Some store) es ≡ Some ys → FramesStay store ys
frames_stay [] store ys e = λ a w next h. let same : store ≡ ys = cc in subst (λ zs. slice_get zs a ≡ Some (Frame w next)) same h
frames_stay (Append xs ∷ es) store ys e = λ a w next h. frames_stay es (store ++ xs) ys e a w next (get_append store xs a (Frame w next) h)
frames_stay (Put b x ∷ es) store ys e = replaced_stays store ys b x es (λ zs f. frames_stay es zs ys f) (slice_get store b) refl e

module _ (p : Bare) where
  -- k is a frame of the point that is around
  abbrev pub Under : List Block → Option Point → Option Address → Type 0
  Under store None k = Unit {0}
  Under store (Some q) k = (a : Address) × (w : Awaits) × (next : Option Address) × (k ≡ Some a) × (slice_get store a ≡ Some (Frame w next)) × (first w ≡ q)

  under_stays : (old new : List Block) → FramesStay old new → (outer : Option Point) (k : Option Address) → Under old outer k → Under new outer k
  under_stays old new h None k u = tt
  under_stays old new h (Some q) k u = (u.0, u.1, u.2, u.3, h u.0 u.1 u.2 u.4, u.5)

  abbrev pub RulesAt : Option Point → List Rule → Type 0
  RulesAt outer rules = AllByRecursion (λ r. IsWalked p.nodes r.body (Plain outer)) rules

  abbrev pub FieldsAt : Option Point → ℕ → List Field → Type 0
  FieldsAt outer n [] = Unit {0}
  FieldsAt outer n (f ∷ fields) = IsWalked p.nodes f.node (Awaited (n + length (free_fields (free p.nodes) fields)) outer) × FieldsAt outer (suc n) fields

  abbrev pub BodyAt : Option Point → ℕ → Type 0
  BodyAt outer body = (c : Context) × IsWalked p.nodes body c × (inside body c ≡ outer)

  abbrev pub RightsAt : Option Point → List Binding → ℕ → Type 0
  RightsAt outer [] body = BodyAt outer body
  RightsAt outer (b ∷ later) body = IsWalked p.nodes b.right (Awaited (length (free_rest (binds p.nodes) (free p.nodes) b later body)) outer) × RightsAt outer later body

  rules_at : (outer : Option Point) (rules : List Rule) → AllByRecursion (λ q. IsWalked p.nodes q.node q.context) (rule_parts rules outer) → RulesAt outer rules
  rules_at outer [] h = tt
  rules_at outer (r ∷ rules) h = (h.0, rules_at outer rules h.1)

  fields_at : (outer : Option Point) (n : ℕ) (fields : List Field) → AllByRecursion (λ q. IsWalked p.nodes q.node q.context) (field_parts (free p.nodes) n fields outer) → FieldsAt outer n fields
  fields_at outer n [] h = tt
  fields_at outer n (f ∷ fields) h = (h.0, fields_at outer (suc n) fields h.1)

  rights_at : (outer : Option Point) (bindings : List Binding) (body : ℕ) → BodyAt outer body → AllByRecursion (λ q. IsWalked p.nodes q.node q.context) (right_parts (binds p.nodes) (free p.nodes) bindings body outer) → RightsAt outer bindings body
  rights_at outer [] body b h = b
  rights_at outer (c ∷ later) body b h = (h.0, rights_at outer later body b h.1)

  -- all that a frame goes on with stands under the frame around it
  abbrev pub FrameIn : Option Point → Awaits → Type 0
  FrameIn outer (FunctionPart f a env) = IsWalked p.nodes f (Awaited (length (free p.nodes a)) outer) × IsWalked p.nodes a (Awaited 1 outer)
  FrameIn outer (ArgumentPart a f) = IsWalked p.nodes a (Awaited 1 outer)
  FrameIn outer (FieldPart e fields before later env) = IsWalked p.nodes e (Awaited (length before + length (free_fields (free p.nodes) later)) outer) × FieldsAt outer (suc (length before)) later
  FrameIn outer (Subject e rules env) = IsWalked p.nodes e (Awaited (length (free_match (binds p.nodes) (free p.nodes) rules)) outer) × RulesAt outer rules
  FrameIn outer (RightSide b later body env) = RightsAt outer (b ∷ later) body
  FrameIn outer (RaisePart e) = IsWalked p.nodes e (Awaited 0 outer)
  FrameIn outer (Guarded i rules env) = (c : Context) × (e : ℕ) × IsWalked p.nodes i c × (slice_get p.nodes i ≡ Some (node.Handle e rules)) × (inside i c ≡ outer)

  abbrev pub BlockNests : List Block → Block → Type 0
  BlockNests store (Frame w next) = (outer : Option Point) × FrameIn outer w × Under store outer next
  BlockNests store _ = Unit {0}

  abbrev pub IsAt : List Block → ℕ → Option Address → Type 0
  IsAt store i k = (c : Context) × IsWalked p.nodes i c × Under store (inside i c) k

  abbrev pub ControlNests : List Block → Control → Type 0
  ControlNests store (Eval i env k) = IsAt store i k
  ControlNests store _ = Unit {0}

  pub record Nests (s : State) : Type 0 where
    pub control : ControlNests s.store s.control.control
    pub store : AllByRecursion (BlockNests s.store) s.store

  block_stays : (old new : List Block) → FramesStay old new → (b : Block) → BlockNests old b → BlockNests new b
  block_stays old new h (Frame w next) g = (g.0, g.1, under_stays old new h g.0 next g.2)
  block_stays old new h (Tuple vs) g = tt
  block_stays old new h (Applied m v) g = tt
  block_stays old new h (Text bytes) g = tt
  block_stays old new h (Cell v) g = tt
  block_stays old new h (ExnName x) g = tt
  block_stays old new h (Packet x v) g = tt
  block_stays old new h (Closure i rules env) g = tt
  block_stays old new h (Pending v w next) g = tt

  control_stays : (old new : List Block) → FramesStay old new → (c : Control) → ControlNests old c → ControlNests new c
  control_stays old new h (Eval i env k) g = (g.0, g.1, under_stays old new h (inside i g.0) k g.2)
  control_stays old new h (Ret v k) g = tt
  control_stays old new h (Apply f v k) g = tt
  control_stays old new h (Raise x k) g = tt
  control_stays old new h (Eq l t k) g = tt
  control_stays old new h (End e) g = tt

  -- an act whose blocks nest, and whose control nests among all blocks
  record ActNests (store : List Block) (a : Act Focus Block) : Type 0 where
    control : (ys : List Block) → all_affected view (Some store) a.effects ≡ Some ys → ControlNests ys a.next.control
    effects : AllByRecursion (EffectHas (BlockNests store)) a.effects

  module _ (s : Memory) (blocks : AllByRecursion (BlockNests s.store) s.store) (come : AllByRecursion (BlockComes p) s.store) where
    abbrev Good : Next → Type 0
    Good o = IfSome o (ActNests s.store)

    going_good : (c : Control) → ControlNests s.store c → Good (going s c)
    going_good c h = record { control = λ ys e. let same : s.store ≡ ys = cc in subst (λ zs. ControlNests zs c) same h; effects = tt }

    making_good : (b : Block) (f : Address → Control) → BlockNests s.store b → ControlNests (s.store ++ b ∷ []) (f (length s.store)) → Good (making s b f)
    making_good b f hb hc = record { control = λ ys e. let same : s.store ++ b ∷ [] ≡ ys = cc in subst (λ zs. ControlNests zs (f (length s.store))) same hc; effects = ((hb, tt), tt) }

    -- the new frame
    new_under : (w : Awaits) (k : Option Address) (q : Point) → first w ≡ q → Under (s.store ++ Frame w k ∷ []) (Some q) (Some (length s.store))
    new_under w k q h = (length s.store, w, k, refl, get_last s.store (Frame w k), h)

    awaiting_good : (w : Awaits) (k : Option Address) (i : ℕ) (env : Env) (outer : Option Point) (c : Context) (q : Point) → FrameIn outer w → Under s.store outer k → IsWalked p.nodes i c → inside i c ≡ Some q → first w ≡ q → Good (awaiting s w k (Eval i env))
    awaiting_good w k i env outer c q h u walked e among =
        making_good (Frame w k) (λ a. Eval i env (Some a)) (outer, h, u) (c, walked, subst (λ o. Under (s.store ++ Frame w k ∷ []) o (Some (length s.store))) (sym e) (new_under w k q among))

    plain_control : (ys : List Block) (c : Control) → IsIdle c → ControlNests ys c
    plain_control ys (Eval i env k) h = absurd h
    plain_control ys (Ret v k) h = tt
    plain_control ys (Apply f v k) h = tt
    plain_control ys (Raise x k) h = tt
    plain_control ys (Eq l t k) h = tt
    plain_control ys (End e) h = tt

    plain_block : (b : Block) → IsPlainBlock b → BlockNests s.store b
    plain_block (Closure i rules env) h = absurd h
    plain_block (Frame w next) h = absurd h
    plain_block (Tuple vs) h = tt
    plain_block (Applied m v) h = tt
    plain_block (Text bytes) h = tt
    plain_block (Cell v) h = tt
    plain_block (ExnName x) h = tt
    plain_block (Packet x v) h = tt
    plain_block (Pending v w next) h = tt

    plain_good : (o : Next) → IfSome o IsPlainAct → Good o
    plain_good None h = tt
    plain_good (Some a) h = record {
      control = λ ys e. plain_control ys a.next.control h.control;
      effects = effects_map IsPlainBlock (BlockNests s.store) plain_block a.effects h.effects;
    }

    -- ---- Declarations

    body_nests : (outer : Option Point) (body : ℕ) (k : Option Address) → BodyAt outer body → Under s.store outer k → IsAt s.store body k
    body_nests outer body k b u = (b.0, b.1, subst (λ o. Under s.store o k) (sym b.2) u)

    declare_nests : (bindings : List Binding) (body : ℕ) (env : Env) (k : Option Address) (outer : Option Point) → RightsAt outer bindings body → Under s.store outer k → Good (declare p s bindings body env k)
    declare_nests [] body env k outer h u = going_good (eval_in p body env k) (body_nests outer body k h u)
    declare_nests (b ∷ later) body env k outer h u =
        awaiting_good (RightSide b later body _) k b.right _ outer (Awaited _ outer) (point b.right kind.Ret) h u h.0 refl refl

    closure_nests : (all : Env) (o : Option (ℕ × List Rule)) → IfSome (closure_of p all o) (BlockNests s.store)
    closure_nests all None = tt
    closure_nests all (Some f) = tt

    closures_nest : (all : Env) (bs : List RecBinding) → IfSome (closures p all bs) (AllByRecursion (BlockNests s.store))
    closures_nest all [] = tt
    closures_nest all (b ∷ bs) =
        bind_some (AllByRecursion (BlockNests s.store)) (closure_of p all (function_at p.nodes b.right)) _ (λ c ec. bind_some (AllByRecursion (BlockNests s.store)) (closures p all bs) _ (λ cs es. (
          if_some (BlockNests s.store) (closure_of p all (function_at p.nodes b.right)) c ec (closure_nests all (function_at p.nodes b.right)),
          if_some (AllByRecursion (BlockNests s.store)) (closures p all bs) cs es (closures_nest all bs),
        )))

    append_stays : (xs : List Block) → FramesStay s.store (s.store ++ xs)
    append_stays xs = λ a w next h. get_append s.store xs a (Frame w next) h

    dec_nests : (d body : ℕ) (q : Node) (env : Env) (k : Option Address) (outer : Option Point) → slice_get p.nodes d ≡ Some q → IsWalked p.nodes d (Before body outer) → BodyAt outer body → Under s.store outer k → Good (eval_dec p s body q env k)
    dec_nests d body (node.Val tyvars bs) env k outer is w b u =
        declare_nests bs body env k outer (rights_at outer bs body b (each_walked p.nodes d (node.Val tyvars bs) (Before body outer) w is)) u
    dec_nests d body (node.ValRec tyvars bs) env k outer is w b u =
        let all = group_env p (length s.store) bs ++ env in
        bind_some (ActNests s.store) (closures p all bs) _ (λ blocks eb. record {
          control = λ ys e. let same : s.store ++ blocks ≡ ys = cc in subst (λ zs. IsAt zs body k) same (control_stays s.store (s.store ++ blocks) (append_stays blocks) (eval_in p body all k) (body_nests outer body k b u));
          effects = (if_some (AllByRecursion (BlockNests s.store)) (closures p all bs) blocks eb (closures_nest all bs), tt);
        })
    dec_nests d body (node.Type bindings) env k outer is w b u = going_good (eval_in p body env k) (body_nests outer body k b u)
    dec_nests d body (node.Datatype bindings) env k outer is w b u = going_good (eval_in p body env k) (body_nests outer body k b u)
    dec_nests d body (node.Exception x ty) env k outer is w b u =
        making_good (ExnName x.0) (λ a. eval_in p body ((x.0, At a) ∷ env) k) tt (control_stays s.store (s.store ++ ExnName x.0 ∷ []) (append_stays (ExnName x.0 ∷ [])) (eval_in p body ((x.0, At (length s.store)) ∷ env) k) (body_nests outer body k b u))
    dec_nests d body (node.SameException x c) env k outer is w b u =
        bind_some (ActNests s.store) (con_value env c) _ (λ v ev. going_good (eval_in p body ((x.0, v) ∷ env) k) (body_nests outer body k b u))
    dec_nests d body _ env k outer is w b u = tt

    -- ---- Eval

    fields_good : (fields : List Field) (before : List Value) (later : List Field) (env : Env) (k : Option Address) (outer : Option Point) → FieldsAt outer (length before) later → Under s.store outer k → Good (eval_fields p s fields before later env k)
    fields_good fields before [] env k outer h u = making_good (Tuple (by_label fields before)) (λ a. Ret (At a) k) tt tt
    fields_good fields before (f ∷ later) env k outer h u =
        awaiting_good (FieldPart f.node fields before later _) k f.node _ outer (Awaited _ outer) (point f.node kind.Ret) h u h.0 refl refl

    record_good : (fields : List Field) (env : Env) (k : Option Address) (outer : Option Point) → FieldsAt outer 0 fields → Under s.store outer k → Good (eval_record p s fields env k)
    record_good [] env k outer h u = going_good _ tt
    record_good (f ∷ fields) env k outer h u = fields_good (f ∷ fields) [] (f ∷ fields) env k outer h u

    eval_nests : (i : ℕ) (q : Node) (c : Context) (env : Env) (k : Option Address) → IsWalked p.nodes i c → slice_get p.nodes i ≡ Some q → Under s.store (inside i c) k → Good (eval p s i q env k)
    eval_nests i (node.Int m) c env k w is u = going_good _ tt
    eval_nests i (node.Char m) c env k w is u = going_good _ tt
    eval_nests i (node.Text t) c env k w is u = going_good _ tt
    eval_nests i (node.Var x) c env k w is u = bind_some (ActNests s.store) (look env x.0) _ (λ v ev. going_good (Ret v k) tt)
    eval_nests i (node.Constructor con) c env k w is u = bind_some (ActNests s.store) (con_value env con) _ (λ v ev. going_good (Ret v k) tt)
    eval_nests i (node.Builtin f) c env k w is u = going_good _ tt
    eval_nests i (node.Record fields) c env k w is u =
        record_good fields env k (inside i c) (fields_at (inside i c) 0 fields (each_walked p.nodes i (node.Record fields) c w is)) u
    eval_nests i (node.App f a) c env k w is u =
        let parts = each_walked p.nodes i (node.App f a) c w is in
        awaiting_good (FunctionPart f a _) k f _ (inside i c) (Awaited _ (inside i c)) (point f kind.Ret) (parts.0, parts.1.0) u parts.0 refl refl
    eval_nests i (node.Case x rules) c env k w is u =
        let parts = each_walked p.nodes i (node.Case x rules) c w is in
        awaiting_good (Subject x rules _) k x _ (inside i c) (Awaited _ (inside i c)) (point x kind.Ret) (parts.0, rules_at (inside i c) rules parts.1) u parts.0 refl refl
    eval_nests i (node.Fn rules) c env k w is u = making_good (Closure i rules env) (λ a. Ret (At a) k) tt tt
    eval_nests i (node.Raise x) c env k w is u =
        let parts = each_walked p.nodes i (node.Raise x) c w is in
        awaiting_good (RaisePart x) k x _ (inside i c) (Awaited _ (inside i c)) (point x kind.Ret) parts.0 u parts.0 refl refl
    eval_nests i (node.Handle x rules) c env k w is u =
        awaiting_good (Guarded i rules _) k x _ (inside i c) (Plain (Some (point i kind.Caught))) (point i kind.Caught) (c, x, w, is, refl) u (each_walked p.nodes i (node.Handle x rules) c w is).0 refl refl
    eval_nests i (node.Typed x ty) c env k w is u = going_good (Eval x env k) (Plain (inside i c), (each_walked p.nodes i (node.Typed x ty) c w is).0, u)
    eval_nests i (node.Let d body) c env k w is u =
        let parts = each_walked p.nodes i (node.Let d body) c w is in
        bind_some (ActNests s.store) (slice_get p.nodes d) _ (λ q ed. dec_nests d body q env k (inside i c) ed parts.0 (Plain (inside i c), parts.1.0, refl) u)
    eval_nests i node.Finish c env k w is u = going_good _ tt
    eval_nests i _ c env k w is u = tt

    -- ---- Ret

    rule_at : (rules : List Rule) (env : Env) (v : Value) (outer : Option Point) → RulesAt outer rules → IfSome (first_rule p env s.store rules v) (λ r. IsWalked p.nodes r.1 (Plain outer))
    rule_at [] env v outer h = tt
    rule_at (r ∷ rules) env v outer h =
        or_some (λ o. IfSome o (λ r. IsWalked p.nodes r.1 (Plain outer))) (fits p env s.store r.pat v) _ _ (λ bound eb. h.0) (rule_at rules env v outer h.1)

    rule_good : (rules : List Rule) (env : Env) (v : Value) (k : Option Address) (other : Control) (outer : Option Point) → RulesAt outer rules → Under s.store outer k → ControlNests s.store other → Good (by_rule p s rules env v k other)
    rule_good rules env v k other outer h u g =
        or_some Good (first_rule p env s.store rules v) _ _ (λ r er. going_good (eval_in p r.1 (r.0 ++ env) k) (Plain outer, if_some (λ r. IsWalked p.nodes r.1 (Plain outer)) (first_rule p env s.store rules v) r er (rule_at rules env v outer h), u)) (going_good other g)

    resume_good : (w : Awaits) (v : Value) (k : Option Address) (outer : Option Point) → FrameIn outer w → Under s.store outer k → Good (resume p s w v k)
    resume_good (FunctionPart f a env) v k outer h u = awaiting_good (ArgumentPart a v) k a env outer (Awaited 1 outer) (point a kind.Ret) h.1 u h.1 refl refl
    resume_good (ArgumentPart a f) v k outer h u = going_good (Apply f v k) tt
    resume_good (FieldPart e fields before later env) v k outer h u =
        fields_good fields (before ++ v ∷ []) later env k outer (subst (λ n. FieldsAt outer n later) (sym (length_last before v)) h.1) u
    resume_good (Subject e rules env) v k outer h u = rule_good rules env v k _ outer h.1 u tt
    resume_good (RightSide b later body env) v k outer h u =
        or_some Good (fits p env s.store b.pat v) _ _ (λ bound eb. declare_nests later body (bound ++ env) k outer h.1 u) (going_good _ tt)
    resume_good (RaisePart e) v k outer h u = going_good (Raise v k) tt
    resume_good (Guarded i rules env) v k outer h u = going_good (Ret v k) tt

    ret_good : (o : Option Block) (v : Value) → IfSome o (BlockNests s.store) → Good (ret p s o v)
    ret_good (Some (Frame w next)) v h = resume_good w v next h.0 h.1 h.2
    ret_good _ v h = tt

    -- ---- Apply, Raise

    apply_block_good : (o : Option Block) (f v : Value) (k : Option Address) → IfSome o (BlockComes p) → Good (apply_block p s o f v k)
    apply_block_good (Some (Closure i rules env)) f v k h = rule_good rules env v k _ None (rules_at None rules (each_walked p.nodes i (node.Fn rules) h.0 h.1 h.2)) tt tt
    apply_block_good (Some (ExnName x)) f v k h = making_good (Packet f v) (λ a. Ret (At a) k) tt tt
    apply_block_good _ f v k h = tt

    apply_good : (f v : Value) (k : Option Address) → Good (apply p s f v k)
    apply_good (At a) v k = apply_block_good (slice_get s.store a) (At a) v k (all_get (BlockComes p) s.store a come)
    apply_good (Library e) v k = making_good (Packet (Library e) v) (λ a. Ret (At a) k) tt tt
    apply_good (Maker m) v k = making_good (Applied m v) (λ a. Ret (At a) k) tt tt
    apply_good RefMaker v k = making_good (Cell v) (λ a. Ret (At a) k) tt tt
    apply_good (Builtin f) v k = plain_good _ (builtin_plain p s k f v)
    apply_good _ v k = tt

    raised_to_good : (w : Awaits) (next : Option Address) (x : Value) (outer : Option Point) → FrameIn outer w → Under s.store outer next → Good (raised_to p s w next x)
    raised_to_good (Guarded i rules env) next x outer h u =
        rule_good rules env x next (Raise x next) (inside i h.0) (rules_at (inside i h.0) rules (each_walked p.nodes i (node.Handle h.1 rules) h.0 h.2 h.3).1) (subst (λ o. Under s.store o next) (sym h.4) u) tt
    raised_to_good _ next x outer h u = going_good (Raise x next) tt

    raised_good : (o : Option Block) (x : Value) → IfSome o (BlockNests s.store) → Good (raised p s o x)
    raised_good (Some (Frame w next)) x h = raised_to_good w next x h.0 h.1 h.2
    raised_good _ x h = tt

    step_nests : (c : Control) → ControlNests s.store c → Good (step p s c)
    step_nests (Eval i env k) h = bind_some (ActNests s.store) (slice_get p.nodes i) _ (λ q is. eval_nests i q h.0 env k h.1 is h.2)
    step_nests (Ret v None) h = going_good _ tt
    step_nests (Ret v (Some a)) h = ret_good (slice_get s.store a) v (all_get (BlockNests s.store) s.store a blocks)
    step_nests (Apply f v k) h = apply_good f v k
    step_nests (Raise x None) h = plain_good _ (uncaught_plain p s x)
    step_nests (Raise x (Some a)) h = raised_good (slice_get s.store a) x (all_get (BlockNests s.store) s.store a blocks)
    step_nests (Eq None t k) h = going_good _ tt
    step_nests (Eq (Some a) t k) h = plain_good _ (compare_plain p s (slice_get s.store a) t k)
    step_nests (End e) h = tt

  nests_after : (s t : State) → Comes p s → Nests s → (machine_of (source p)).step s ≡ Some t → Nests t
  nests_after s t come h e =
      go (step p (record { store = s.store; input = s.control.input }) s.control.control) (step_nests (record { store = s.store; input = s.control.input }) h.store come.store s.control.control h.control) e
    where
      go : (o : Next) → IfSome o (ActNests s.store) → acted view s.out s.store o ≡ Some t → Nests t
      go None g e = absurd cc
      go (Some a) g e =
          let d = act_done (BlockNests s.store) s t a h.store g.effects e in
          let made = act_makes s t a e in
          let stay = frames_stay a.effects s.store t.store made in
          record {
            control = subst (λ f. ControlNests t.store f.control) (sym d.control) (g.control t.store made);
            store = all_map (BlockNests s.store) (BlockNests t.store) (block_stays s.store t.store stay) t.store d.store;
          }

  abbrev at : List ℕ → ℕ → State
  at input n = state_at (machine_of (source p)) (start input) n

  pub run_nests : (input : List ℕ) (n : ℕ) → Nests (at input n)
  run_nests input zero = record { control = (Plain None, whole, tt); store = tt }
  run_nests input (suc n) =
      ⊎_elim
      (λ (e : (machine_of (source p)).step (at input n) ≡ None). subst Nests (sym (ap (next_of (at input n)) e)) (run_nests input n))
      (λ (e : (t : State) × ((machine_of (source p)).step (at input n) ≡ Some t)). subst Nests (sym (ap (next_of (at input n)) e.1)) (nests_after (at input n) e.0 (run_comes p input n) (run_nests input n) e.1))
      (option_cases ((machine_of (source p)).step (at input n)))

  -- ---- The law

  around_named : (store : List Block) (outer : Option Point) (w : Awaits) (next : Option Address) → Under store outer next → NamesOuter (map view store) (view (Frame w next)) outer
  around_named store None w next u = tt
  around_named store (Some q) w next u = (
    u.0,
    view (Frame u.1 u.2),
    among_right u.0 (of_frame w) (of_next next) (subst (λ k. IsAmong u.0 (of_next k)) (sym u.3) (inl refl)),
    stands_of view store u.0 (Frame u.1 u.2) u.4,
    (frame_points u.1, refl),
    subst (λ r. IsAmong r (frame_points u.1)) u.5 (first_among u.1),
  )

  abbrev HasOuter : List Block → Block → Point → Type 0
  HasOuter store b q = (s : Site) × IsAmong s (sites p) × (s.point ≡ q) × NamesOuter (map view store) (view b) s.outer

  module _ (numbered : IsNumbered p.nodes) (store : List Block) where
    by_spot : (b : Block) (s : Spot) (q : Point) → IsAmong s (spots p.nodes) → s.point ≡ q → NamesOuter (map view store) (view b) s.outer → HasOuter store b q
    by_spot b s q h e named =
        (site_of p.places s, among_left (site_of p.places s) _ (eq_site ∷ []) (map_among (site_of p.places) s (spots p.nodes) h), e, named)

    ret_outer : (b : Block) (i held : ℕ) (outer : Option Point) (q : Point) → IsWalked p.nodes i (Awaited held outer) → IsAmong q (point i kind.Ret ∷ []) → NamesOuter (map view store) (view b) outer → HasOuter store b q
    ret_outer b i held outer q walked among named =
        by_spot b (spot i kind.Ret held outer) q (ret_among p.nodes numbered i held (outer, walked)) (sym (among_one q (point i kind.Ret) among)) named

    frame_outer : (w : Awaits) (next : Option Address) (outer : Option Point) → FrameIn outer w → Under store outer next → (q : Point) → IsAmong q (frame_points w) → HasOuter store (Frame w next) q
    frame_outer (FunctionPart f a env) next outer h u q m = ret_outer (Frame (FunctionPart f a env) next) f _ outer q h.0 m (around_named store outer (FunctionPart f a env) next u)
    frame_outer (ArgumentPart a f) next outer h u q m = ret_outer (Frame (ArgumentPart a f) next) a _ outer q h m (around_named store outer (ArgumentPart a f) next u)
    frame_outer (FieldPart e fields before later env) next outer h u q m = ret_outer (Frame (FieldPart e fields before later env) next) e _ outer q h.0 m (around_named store outer (FieldPart e fields before later env) next u)
    frame_outer (Subject e rules env) next outer h u q m = ret_outer (Frame (Subject e rules env) next) e _ outer q h.0 m (around_named store outer (Subject e rules env) next u)
    frame_outer (RightSide b later body env) next outer h u q m = ret_outer (Frame (RightSide b later body env) next) b.right _ outer q h.0 m (around_named store outer (RightSide b later body env) next u)
    frame_outer (RaisePart e) next outer h u q m = ret_outer (Frame (RaisePart e) next) e _ outer q h m (around_named store outer (RaisePart e) next u)
    frame_outer (Guarded i rules env) next outer h u q (inl e) =
        by_spot (Frame (Guarded i rules env) next) (spot i kind.Caught _ (inside i h.0)) q (caught_among p.nodes numbered i h.1 rules h.0 h.2 h.3) (sym e) (subst (NamesOuter (map view store) (view (Frame (Guarded i rules env) next))) (sym h.4) (around_named store outer (Guarded i rules env) next u))
    frame_outer (Guarded i rules env) next outer h u q (inr m) =
        by_spot (Frame (Guarded i rules env) next) (spot i kind.Popped _ (inside i h.0)) q (popped_among p.nodes numbered i h.1 rules h.0 h.2 h.3) (sym (among_one q (point i kind.Popped) m)) (subst (NamesOuter (map view store) (view (Frame (Guarded i rules env) next))) (sym h.4) (around_named store outer (Guarded i rules env) next u))

    block_outer : (b : Block) → BlockNests store b → (qs : List Point) (q : Point) → (view b).kind ≡ sim.Frame qs → IsAmong q qs → HasOuter store b q
    block_outer (Frame w next) h qs q e m = let same : frame_points w ≡ qs = cc in frame_outer w next h.0 h.1 h.2 q (subst (IsAmong q) (sym same) m)
    block_outer (Tuple vs) h qs q e m = absurd cc
    block_outer (Applied n v) h qs q e m = absurd cc
    block_outer (Text bytes) h qs q e m = absurd cc
    block_outer (Cell v) h qs q e m = absurd cc
    block_outer (ExnName x) h qs q e m = absurd cc
    block_outer (Packet x v) h qs q e m = absurd cc
    block_outer (Closure i rules env) h qs q e m = absurd cc
    block_outer (Pending v w next) h qs q e m = absurd cc

-- the site of a frame, with the frame around it
abbrev pub SiteOf : Bare → Point → Option Point → Type 0
SiteOf p q outer = (s : Site) × IsAmong s (sites p) × (s.point ≡ q) × (s.outer ≡ outer)

module _ (p : Bare) (numbered : IsNumbered p.nodes) where
  spot_site : (s : Spot) → IsAmong s (spots p.nodes) → SiteOf p s.point s.outer
  spot_site s h = (site_of p.places s, among_left (site_of p.places s) _ (eq_site ∷ []) (map_among (site_of p.places) s (spots p.nodes) h), refl, refl)

  pub frame_site : (w : Awaits) (outer : Option Point) → FrameIn p outer w → SiteOf p (first w) outer
  frame_site (FunctionPart f a env) outer h = spot_site (spot f kind.Ret _ outer) (ret_among p.nodes numbered f _ (outer, h.0))
  frame_site (ArgumentPart a f) outer h = spot_site (spot a kind.Ret _ outer) (ret_among p.nodes numbered a _ (outer, h))
  frame_site (FieldPart e fields before later env) outer h = spot_site (spot e kind.Ret _ outer) (ret_among p.nodes numbered e _ (outer, h.0))
  frame_site (Subject e rules env) outer h = spot_site (spot e kind.Ret _ outer) (ret_among p.nodes numbered e _ (outer, h.0))
  frame_site (RightSide b later body env) outer h = spot_site (spot b.right kind.Ret _ outer) (ret_among p.nodes numbered b.right _ (outer, h.0))
  frame_site (RaisePart e) outer h = spot_site (spot e kind.Ret _ outer) (ret_among p.nodes numbered e _ (outer, h))
  frame_site (Guarded i rules env) outer h =
      let r = spot_site (spot i kind.Caught _ (inside i h.0)) (caught_among p.nodes numbered i h.1 rules h.0 h.2 h.3) in (r.0, r.1, r.2, r.3 ∙ h.4)

  pub closure_site : (i : ℕ) (rules : List Rule) (c : Context) → IsWalked p.nodes i c → slice_get p.nodes i ≡ Some (node.Fn rules) → SiteOf p (point i kind.Fn) None
  closure_site i rules c w is = spot_site (spot i kind.Fn _ None) (fn_among p.nodes numbered i rules c w is)

-- each frame has a site, and names a frame of the point around that site
pub has_outer : (p : Bare) → IsBare p → (input : List ℕ) (n a : ℕ) (x : sim.Block) (qs : List Point) (q : Point) → StandsAt (map view (state_at (machine_of (source p)) (start input) n).store) a x → x.kind ≡ sim.Frame qs → IsAmong q qs → (s : Site) × IsAmong s (sites p) × (s.point ≡ q) × NamesOuter (map view (state_at (machine_of (source p)) (start input) n).store) x s.outer
has_outer p bare input n a x qs q stands kind among =
    let s = at p input n in
    let found = stands_map view s.store a x stands in
    let nests : BlockNests p s.store found.0 = if_some (BlockNests p s.store) (slice_get s.store a) found.0 found.1 (all_get (BlockNests p s.store) s.store a (run_nests p input n).store) in
    let r = block_outer p bare.numbered s.store found.0 nests qs q (ap (λ b. b.kind) found.2 ∙ kind) among in
    (r.0, r.1, r.2, subst (λ b. NamesOuter (map view s.store) b r.0.outer) found.2 r.3)
