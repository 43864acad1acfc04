-- Each typed state is ready.
use Rattle.std.proofs.Common.{◌≡◌, ℕ, Bool, true, List, [], ◌∷◌, Option, Some, None, sym, ap, ◌∙◌, subst}
use Rattle.std.specs.Prelude.{slice_get, length, ◌<◌}
use Rattle.std.specs.List.{AllByRecursion}
use Rattle.std.specs.Option.{option_map}
use Rattle.sml_tree.specs.declared.bare.Bare.{Bare}
use Rattle.sml_tree.specs.declared.bare.Node.TheVariants as node
use Rattle.sml_tree.specs.declared.bare.Rule.{Rule}
use Rattle.sml_tree.specs.declared.bare.Field.{Field}
use Rattle.sml_tree.specs.declared.bare.Binding.{Binding}
use Rattle.sml_tree.specs.Sets.{has, union, union_over, without}
use Rattle.sml_tree.specs.Free.{free, binds, scoped, free_match}
use Rattle.sml_tree.specs.IsBare.{IsBare, IsOf, Pattern, HasRules, HasSorts, sort_of}
use Rattle.sml_tree.proofs.Members.{IsWithin, within_left, within_right, within_head}
use Rattle.sml_tree.proofs.FreeParts.{free_unfold}
use Rattle.sml_types.specs.declared.types.TyVar.{TyVar}
use Rattle.sml_types.specs.Tree.{Tree, inst}
use Rattle.sml_types.specs.Poly.{Context}
use Rattle.sml_types.specs.Library.{arrow, exn_ty}
use Rattle.sml_types.specs.Typing.{Typing, IsTyping, IsMatch}
use Rattle.simulation.specs.Machines.{state_at}
use Rattle.simulation.specs.Stores.{machine_of}
use Rattle.sml_def.specs.State.{Value, At, Env, Address, Awaits, FunctionPart, ArgumentPart, FieldPart, Subject, RightSide, RaisePart, Guarded, Block, Closure, Frame, Control, Ret, Apply, Raise}
use Rattle.sml_def.specs.Run.{State, source, start}
use Rattle.sml_def.proofs.Effects.{all_get}
use Rattle.sml_def.proofs.Options.{if_some}
use Rattle.sml_sound.specs.TypedStates.{KeepsMarks, Family, Entry, Holds, Takes, EntryTy, HasTy, EnvTy, Fits, IsExp, AreExps, FrameTy, BlockTy, StoreTy, ControlTy, IsTyped}
use Rattle.sml_sound.specs.TypedStates as typed
use Rattle.sml_sound.proofs.Families.{at_in, agrees_self}
use Rattle.sml_sound.proofs.Grow.{store_get}
use Rattle.sml_sound.proofs.Names.{rule_at}
use Rattle.sml_sound.proofs.NeverStuck.{all_typed, start_typed}
use Rattle.lambda_laws.specs.Ready.{IsExpression, AreFields, AreBindings, RulesReady, WaitsReady, ReturnReady, EnterReady, RaiseReady, ControlReady}
use Rattle.lambda_laws.specs.Keeps.{RunIsReady}
use Rattle.match_laws.proofs.Shaped.{is_shaped}

module _ (p : Bare) (t : Typing) (typing : IsTyping p t) (bare : IsBare p) where
  exp_is : (i : ℕ) → IsExp p t i → IsExpression p i
  exp_is i h = ap (option_map sort_of) h.1 ∙ ap Some h.2

  fields_are : (fields : List Field) → AreExps p t fields → AreFields p fields
  fields_are [] h = tt
  fields_are (f ∷ fields) h = (exp_is f.node h.0, fields_are fields h.1)

  module _ (sig : List Entry) (bs : List Block) (store : StoreTy p t sig sig bs) where
    -- rules whose patterns have the type a
    abbrev pub OfType : Tree → Rule → Type 0
    OfType a r = IsOf p.nodes Pattern r.pat × IsExpression p r.body × (t.types r.pat ≡ a)

    pub rules_ready : (g : TyVar → Tree) (xs : List ℕ) (env : Env) → EnvTy p t sig g xs env → (a : Tree) (v : Value) → HasTy p t sig v (inst g a) → (rules : List Rule) → AllByRecursion (OfType a) rules → IsWithin (free_match (binds p.nodes) (free p.nodes) rules) xs → RulesReady p bs env rules v
    rules_ready g xs env known a v hv [] h w = tt
    rules_ready g xs env known a v hv (r ∷ rules) h w =
        let first = scoped (binds p.nodes) (free p.nodes) r.pat r.body in
        let rest = free_match (binds p.nodes) (free p.nodes) rules in (
          (
            is_shaped p t typing bare.numbered bare.sorts sig bs store g xs env known r.pat v h.0.0 (λ z m. w z (within_left first rest z (within_left (free p.nodes r.pat) (without (free p.nodes r.body) (binds p.nodes r.pat)) z m))) (subst (λ u. HasTy p t sig v (inst g u)) (sym h.0.2) hv),
            h.0.1,
          ),
          rules_ready g xs env known a v hv rules h.1 (λ z m. w z (within_right first rest z m)),
        )

    pub of_rules : (c : Context) (a b : Tree) (rules : List Rule) → IsMatch p t rules c a b → AllByRecursion (λ r. IsExp p t r.body) rules → AllByRecursion (λ r. IsOf p.nodes Pattern r.pat) rules → AllByRecursion (OfType a) rules
    of_rules c a b [] m x q = tt
    of_rules c a b (r ∷ rules) m x q = ((q.0, exp_is r.body x.0, m.0.0.1), of_rules c a b rules m.1 x.1 q.1)

    pub of_sorts : (c : Context) (a b : Tree) (rules : List Rule) → IsMatch p t rules c a b → HasRules p.nodes rules → AllByRecursion (OfType a) rules
    of_sorts c a b [] m s = tt
    of_sorts c a b (r ∷ rules) m s = ((s.0.0, s.0.1, m.0.0.1), of_sorts c a b rules m.1 s.1)

    binds_are : (later : List Binding) → AllByRecursion (λ b. IsExp p t b.right) later → AllByRecursion (λ b. (b.pat < length p.nodes) × IsOf p.nodes Pattern b.pat) later → AreBindings p later
    binds_are [] x q = tt
    binds_are (b ∷ later) x q = ((q.0.1, exp_is b.right x.0), binds_are later x.1 q.1)

    waits_ready : (w : Awaits) (f : Family) (m : Bool) (next : Option Address) (v : Value) → KeepsMarks t.names f.at → FrameTy p t sig w f m next → Fits p t sig v f m → WaitsReady p bs w v
    waits_ready (FunctionPart i a env) f m next v kf h hv = tt
    waits_ready (ArgumentPart a x) f m next v kf h hv = tt
    waits_ready (FieldPart e fields before later env) f m next v kf h hv = fields_are later h.5
    waits_ready (Subject e rules env) f m next v kf h hv =
        rules_ready f.at (free_match (binds p.nodes) (free p.nodes) rules) env h.4 f.ty v (hv.0 (inst f.at f.ty) (at_in t.names f kf)) rules (of_rules h.3.context f.ty h.2 rules h.3.match h.3.bodies h.3.pats) (λ z q. q)
    waits_ready (RightSide b later body env) f m next v kf h hv =
        let pats = union_over (λ c. free p.nodes c.pat) (b ∷ later) in
        let rest = union (union_over (λ c. free p.nodes c.right) later) (without (free p.nodes body) (union_over (λ c. binds p.nodes c.pat) (b ∷ later))) in
        let ty : f.ty ≡ t.types b.pat = h.2 ∙ h.3.bind.0.1.1 in (
          is_shaped p t typing bare.numbered bare.sorts sig bs store f.at (typed.free_of_rest p t b later body) env h.5 b.pat v h.3.pats.0.1 (λ z q. within_left pats rest z (within_head (λ (c : Binding). free p.nodes c.pat) b later z q)) (subst (λ u. HasTy p t sig v (inst f.at u)) ty (hv.0 (inst f.at f.ty) (at_in t.names f kf))),
          binds_are later h.3.rights.1 h.3.pats.1,
          exp_is body h.4,
        )
    waits_ready (RaisePart e) f m next v kf h hv = tt
    waits_ready (Guarded i rules env) f m next v kf h hv = tt

    return_ready : (c : Block) (v : Value) (f : Family) (m : Bool) → BlockTy p t sig c (Takes f m) → Fits p t sig v f m → ReturnReady p bs (Some c) v
    return_ready (Frame w next) v f m h hv = waits_ready w f m next v h.0 h.1 hv
    return_ready _ v f m h hv = tt

    raise_ready : (c : Block) (x : Value) (f : Family) (m : Bool) → BlockTy p t sig c (Takes f m) → HasTy p t sig x exn_ty → RaiseReady p bs (Some c) x
    raise_ready (Frame (Guarded i rules env) next) x f m h hx =
        rules_ready f.at (free_match (binds p.nodes) (free p.nodes) rules) env h.1.3 exn_ty x hx rules (of_rules h.1.2.context exn_ty f.ty rules h.1.2.match h.1.2.bodies h.1.2.pats) (λ z q. q)
    raise_ready (Frame (FunctionPart i a env) next) x f m h hx = tt
    raise_ready (Frame (ArgumentPart a y) next) x f m h hx = tt
    raise_ready (Frame (FieldPart e fields before later env) next) x f m h hx = tt
    raise_ready (Frame (Subject e rules env) next) x f m h hx = tt
    raise_ready (Frame (RightSide b later body env) next) x f m h hx = tt
    raise_ready (Frame (RaisePart e) next) x f m h hx = tt
    raise_ready _ x f m h hx = tt

    enter_ready : (c : Block) (v : Value) (e : Entry) (a b : Tree) → BlockTy p t sig c e → EntryTy p t e (arrow a b) → HasTy p t sig v a → EnterReady p bs (Some c) v
    enter_ready (Closure i rules env) v (Holds f) a b h x hv =
        let r = rule_at p t typing bare.numbered bare.sorts i (node.Fn rules) h.0 in
        let s = if_some (HasSorts p.nodes) (slice_get p.nodes i) (node.Fn rules) h.0 (all_get (HasSorts p.nodes) p.nodes i bare.sorts) in
        let same : arrow a b ≡ arrow (inst x.0 r.0) (inst x.0 r.1) = x.2 ∙ ap (inst x.0) (h.1 ∙ r.2) in
        let ea : a ≡ inst x.0 r.0 = cc in
        rules_ready x.0 (free p.nodes i) env (h.2 x.0 x.1) r.0 v (subst (HasTy p t sig v) ea hv) rules (of_sorts (t.contexts i) r.0 r.1 rules r.3 s) (λ z q. subst (λ xs. has xs z ≡ true) (sym (free_unfold p.nodes bare.numbered i (node.Fn rules) h.0)) q)
    enter_ready (Closure i rules env) v _ a b h x hv = absurd h
    enter_ready _ v e a b h x hv = tt

    control_ready : (c : Control) → ControlTy p t sig c → ControlReady p bs c
    control_ready (Ret v (Some a)) h =
        let k = store_get p t sig sig bs a (Takes h.0 h.1) store h.2 in
        subst (λ o. ReturnReady p bs o v) (sym k.1) (return_ready k.0 v h.0 h.1 k.2 h.3)
    control_ready (Ret v None) h = tt
    control_ready (Apply (At a) v k) h =
        let g = h.family.at in
        let self = agrees_self t.names h.family.gens g h.keeps in
        let f = h.function g self in
        let b = store_get p t sig sig bs a f.0 store f.1 in
        subst (λ o. EnterReady p bs o v) (sym b.1) (enter_ready b.0 v f.0 (inst g h.arg) (inst g h.family.ty) b.2 f.2 (h.argument g self))
    control_ready (Apply _ v k) h = tt
    control_ready (Raise x (Some a)) h =
        let k = store_get p t sig sig bs a (Takes h.1.0 h.1.1) store h.1.2 in
        subst (λ o. RaiseReady p bs o x) (sym k.1) (raise_ready k.0 x h.1.0 h.1.1 k.2 h.0)
    control_ready (Raise x None) h = tt
    control_ready _ h = tt

  typed_ready : (s : State) → IsTyped p t s → ControlReady p s.store s.control.control
  typed_ready s h = control_ready h.sig s.store h.store s.control.control h.control

  pub run_ready : (input : List ℕ) → RunIsReady p input
  run_ready input n = typed_ready (state_at (machine_of (source p)) (start input) n) (all_typed p t typing bare (start input) (start_typed p t typing bare input) n)
