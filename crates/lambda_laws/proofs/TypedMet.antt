-- In a typed state that is sane, the tests of what is matched look at values of their kind.
use Rattle.std.proofs.Common.{◌≡◌, ℕ, Bool, true, List, [], ◌∷◌, Option, Some, None, sym, ap, ◌∙◌, subst}
use Rattle.std.specs.Prelude.{slice_get}
use Rattle.std.specs.List.{AllByRecursion}
use Rattle.sml_tree.specs.declared.bare.Bare.{Bare}
use Rattle.sml_tree.specs.declared.bare.Node.TheVariants as node
use Rattle.sml_tree.specs.declared.bare.Binding.{Binding}
use Rattle.sml_tree.specs.declared.bare.Rule.{Rule}
use Rattle.sml_tree.specs.Sets.{has, union, union_over, without}
use Rattle.sml_tree.specs.Free.{free, binds, scoped, free_match}
use Rattle.sml_tree.specs.IsBare.{IsBare, IsOf, Pattern, HasSorts}
use Rattle.sml_tree.proofs.Members.{IsWithin, within_left, within_right, within_head, within_tail}
use Rattle.sml_tree.proofs.FreeParts.{free_unfold}
use Rattle.sml_types.specs.declared.tables.TypeName.{TypeName}
use Rattle.sml_types.specs.declared.types.TyVar.{TyVar}
use Rattle.sml_types.specs.Tree.{Tree, inst}
use Rattle.sml_types.specs.Library.{arrow, exn_ty}
use Rattle.sml_types.specs.Typing.{Typing, IsTyping}
use Rattle.sml_def.specs.Builtin.{see}
use Rattle.sml_def.specs.State.{Value, At, Env, Address, Awaits, FunctionPart, ArgumentPart, FieldPart, Subject, RightSide, RaisePart, Guarded, Block, Closure, Frame, Control, Ret, Apply, Raise}
use Rattle.sml_def.proofs.Effects.{all_get}
use Rattle.sml_def.proofs.Options.{if_some}
use Rattle.sml_sound.specs.TypedStates.{KeepsMarks, Family, Entry, Holds, Takes, EntryTy, HasTy, EnvTy, Fits, FrameTy, BlockTy, StoreTy, ControlTy}
use Rattle.sml_sound.specs.TypedStates as typed
use Rattle.sml_sound.proofs.Environments.{env_within}
use Rattle.sml_sound.proofs.Families.{at_in, agrees_self}
use Rattle.sml_sound.proofs.Grow.{store_get}
use Rattle.sml_sound.proofs.Names.{rule_at}
use Rattle.lambda_ir.specs.Tests.{bind_met, match_met}
use Rattle.match_laws.specs.Compile.{tests, names, cases_of}
use Rattle.match_laws.specs.Law.{HasNames}
use Rattle.match_laws.specs.Suit.{is_exn_name, suited}
use Rattle.match_laws.proofs.Meeting.{pattern_met, tests_are_met}
use Rattle.match_laws.proofs.Suited.{is_suited}
use Rattle.sane_laws.specs.Sane.{HasRuleNames, SaneWaits, SaneReturn, SaneEnter, SaneRaise, SaneControl}
use Rattle.lambda_laws.proofs.TypedReady.{OfType, of_rules, of_sorts}

module _ (ts : List TypeName) (p : Bare) (store : List Block) where
  abbrev pub RulesMet : Env → List Rule → Value → Type 0
  RulesMet env rules v = match_met p.texts env (see p.texts store) (is_exn_name store) (cases_of ts p.nodes rules) v ≡ true

  abbrev pub WaitsMet : Awaits → Value → Type 0
  WaitsMet (Subject e rules env) v = RulesMet env rules v
  WaitsMet (RightSide b later body env) v = bind_met p.texts env (see p.texts store) (is_exn_name store) (tests ts p.nodes b.pat []) (names p.nodes b.pat []) v ≡ true
  WaitsMet _ v = Unit {0}

  abbrev pub ReturnMet : Option Block → Value → Type 0
  ReturnMet (Some (Frame w next)) v = WaitsMet w v
  ReturnMet _ v = Unit {0}

  abbrev pub EnterMet : Option Block → Value → Type 0
  EnterMet (Some (Closure i rules env)) v = RulesMet env rules v
  EnterMet _ v = Unit {0}

  abbrev pub RaiseMet : Option Block → Value → Type 0
  RaiseMet (Some (Frame (Guarded i rules env) next)) v = RulesMet env rules v
  RaiseMet _ v = Unit {0}

  abbrev pub ControlMet : Control → Type 0
  ControlMet (Ret v (Some a)) = ReturnMet (slice_get store a) v
  ControlMet (Apply (At a) v k) = EnterMet (slice_get store a) v
  ControlMet (Raise x (Some a)) = RaiseMet (slice_get store a) x
  ControlMet _ = Unit {0}

module _ (ts : List TypeName) (p : Bare) (t : Typing) (typing : IsTyping p t) (bare : IsBare p) (sig : List Entry) (bs : List Block) (store : StoreTy p t sig sig bs) where
  -- a value that has the type of a pattern suits it
  suits : (g : TyVar → Tree) (xs : List ℕ) (env : Env) → EnvTy p t sig g xs env → (i : ℕ) → IsOf p.nodes Pattern i → IsWithin (free p.nodes i) xs → HasNames bs env (free p.nodes i) → (v : Value) → HasTy p t sig v (inst g (t.types i)) → suited p env bs i v ≡ true
  suits g xs env known i s w n v hv =
      is_suited p t typing bare.numbered bare.sorts bare.stands sig bs store g (free p.nodes i) env (env_within p t sig g (free p.nodes i) xs env w known) n i v s (λ z m. m) hv

  rules_suit : (g : TyVar → Tree) (xs : List ℕ) (env : Env) → EnvTy p t sig g xs env → (a : Tree) (v : Value) → HasTy p t sig v (inst g a) → (rules : List Rule) → AllByRecursion (OfType p t typing bare sig bs store a) rules → IsWithin (free_match (binds p.nodes) (free p.nodes) rules) xs → HasRuleNames p bs env rules → AllByRecursion (λ r. suited p env bs r.pat v ≡ true) rules
  rules_suit g xs env known a v hv [] h w n = tt
  rules_suit g xs env known a v hv (r ∷ rules) h w n =
      let first = scoped (binds p.nodes) (free p.nodes) r.pat r.body in
      let rest = free_match (binds p.nodes) (free p.nodes) rules in (
        suits g xs env known r.pat h.0.0 (λ z m. w z (within_left first rest z (within_left (free p.nodes r.pat) (without (free p.nodes r.body) (binds p.nodes r.pat)) z m))) (λ z m. n z (within_head (λ (r : Rule). free p.nodes r.pat) r rules z m)) v (subst (λ u. HasTy p t sig v (inst g u)) (sym h.0.2) hv),
        rules_suit g xs env known a v hv rules h.1 (λ z m. w z (within_right first rest z m)) (λ z m. n z (within_tail (λ (r : Rule). free p.nodes r.pat) r rules z m)),
      )

  rules_met : (g : TyVar → Tree) (xs : List ℕ) (env : Env) → EnvTy p t sig g xs env → (a : Tree) (v : Value) → HasTy p t sig v (inst g a) → (rules : List Rule) → AllByRecursion (OfType p t typing bare sig bs store a) rules → IsWithin (free_match (binds p.nodes) (free p.nodes) rules) xs → HasRuleNames p bs env rules → RulesMet ts p bs env rules v
  rules_met g xs env known a v hv rules h w n = tests_are_met ts p env bs rules v (rules_suit g xs env known a v hv rules h w n)

  waits_met : (w : Awaits) (f : Family) (m : Bool) (next : Option Address) (v : Value) → KeepsMarks t.names f.at → FrameTy p t sig w f m next → Fits p t sig v f m → SaneWaits p bs w v → WaitsMet ts p bs w v
  waits_met (Subject e rules env) f m next v kf h hv n =
      rules_met f.at (free_match (binds p.nodes) (free p.nodes) rules) env h.4 f.ty v (hv.0 (inst f.at f.ty) (at_in t.names f kf)) rules (of_rules p t typing bare sig bs store h.3.context f.ty h.2 rules h.3.match h.3.bodies h.3.pats) (λ z q. q) n.1
  waits_met (RightSide b later body env) f m next v kf h hv n =
      let pats = union_over (λ c. free p.nodes c.pat) (b ∷ later) in
      let rest = union (union_over (λ c. free p.nodes c.right) later) (without (free p.nodes body) (union_over (λ c. binds p.nodes c.pat) (b ∷ later))) in
      let ty : f.ty ≡ t.types b.pat = h.2 ∙ h.3.bind.0.1.1 in
      pattern_met ts p env bs b.pat v (suits f.at (typed.free_of_rest p t b later body) env h.5 b.pat h.3.pats.0.1 (λ z q. within_left pats rest z (within_head (λ (c : Binding). free p.nodes c.pat) b later z q)) n.1 v (subst (λ u. HasTy p t sig v (inst f.at u)) ty (hv.0 (inst f.at f.ty) (at_in t.names f kf))))
  waits_met (FunctionPart i a env) f m next v kf h hv n = tt
  waits_met (ArgumentPart a x) f m next v kf h hv n = tt
  waits_met (FieldPart e fields before later env) f m next v kf h hv n = tt
  waits_met (RaisePart e) f m next v kf h hv n = tt
  waits_met (Guarded i rules env) f m next v kf h hv n = tt

  return_met : (c : Block) (v : Value) (f : Family) (m : Bool) → BlockTy p t sig c (Takes f m) → Fits p t sig v f m → SaneReturn p bs (Some c) v → ReturnMet ts p bs (Some c) v
  return_met (Frame w next) v f m h hv n = waits_met w f m next v h.0 h.1 hv n
  return_met _ v f m h hv n = tt

  raise_met : (c : Block) (x : Value) (f : Family) (m : Bool) → BlockTy p t sig c (Takes f m) → HasTy p t sig x exn_ty → SaneRaise p bs (Some c) → RaiseMet ts p bs (Some c) x
  raise_met (Frame (Guarded i rules env) next) x f m h hx n =
      rules_met f.at (free_match (binds p.nodes) (free p.nodes) rules) env h.1.3 exn_ty x hx rules (of_rules p t typing bare sig bs store h.1.2.context exn_ty f.ty rules h.1.2.match h.1.2.bodies h.1.2.pats) (λ z q. q) n
  raise_met (Frame (FunctionPart i a env) next) x f m h hx n = tt
  raise_met (Frame (ArgumentPart a y) next) x f m h hx n = tt
  raise_met (Frame (FieldPart e fields before later env) next) x f m h hx n = tt
  raise_met (Frame (Subject e rules env) next) x f m h hx n = tt
  raise_met (Frame (RightSide b later body env) next) x f m h hx n = tt
  raise_met (Frame (RaisePart e) next) x f m h hx n = tt
  raise_met _ x f m h hx n = tt

  enter_met : (c : Block) (v : Value) (e : Entry) (a b : Tree) → BlockTy p t sig c e → EntryTy p t e (arrow a b) → HasTy p t sig v a → SaneEnter p bs (Some c) → EnterMet ts p bs (Some c) v
  enter_met (Closure i rules env) v (Holds f) a b h x hv n =
      let r = rule_at p t typing bare.numbered bare.sorts i (node.Fn rules) h.0 in
      let s = if_some (HasSorts p.nodes) (slice_get p.nodes i) (node.Fn rules) h.0 (all_get (HasSorts p.nodes) p.nodes i bare.sorts) in
      let same : arrow a b ≡ arrow (inst x.0 r.0) (inst x.0 r.1) = x.2 ∙ ap (inst x.0) (h.1 ∙ r.2) in
      let ea : a ≡ inst x.0 r.0 = cc in
      rules_met x.0 (free p.nodes i) env (h.2 x.0 x.1) r.0 v (subst (HasTy p t sig v) ea hv) rules (of_sorts p t typing bare sig bs store (t.contexts i) r.0 r.1 rules r.3 s) (λ z q. subst (λ xs. has xs z ≡ true) (sym (free_unfold p.nodes bare.numbered i (node.Fn rules) h.0)) q) n
  enter_met (Closure i rules env) v _ a b h x hv n = absurd h
  enter_met _ v e a b h x hv n = tt

  pub control_met : (c : Control) → ControlTy p t sig c → SaneControl p bs c → ControlMet ts p bs c
  control_met (Ret v (Some a)) h n =
      let k = store_get p t sig sig bs a (Takes h.0 h.1) store h.2 in
      subst (λ o. SaneReturn p bs o v → ReturnMet ts p bs o v) (sym k.1) (return_met k.0 v h.0 h.1 k.2 h.3) n
  control_met (Ret v None) h n = tt
  control_met (Apply (At a) v k) h n =
      let g = h.family.at in
      let self = agrees_self t.names h.family.gens g h.keeps in
      let f = h.function g self in
      let b = store_get p t sig sig bs a f.0 store f.1 in
      subst (λ o. SaneEnter p bs o → EnterMet ts p bs o v) (sym b.1) (enter_met b.0 v f.0 (inst g h.arg) (inst g h.family.ty) b.2 f.2 (h.argument g self)) n
  control_met (Apply _ v k) h n = tt
  control_met (Raise x (Some a)) h n =
      let k = store_get p t sig sig bs a (Takes h.1.0 h.1.1) store h.1.2 in
      subst (λ o. SaneRaise p bs o → RaiseMet ts p bs o x) (sym k.1) (raise_met k.0 x h.1.0 h.1.1 k.2 h.0) n
  control_met (Raise x None) h n = tt
  control_met _ h n = tt
