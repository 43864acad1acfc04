-- Each state of a run of a typed tree is sane.
use Rattle.std.proofs.Common.{◌≡◌, ℕ, zero, suc, Bool, true, false, not, List, [], ◌∷◌, length, Option, Some, None, refl, sym, ap, ◌∙◌, subst}
use Rattle.std.specs.Prelude.{IfSome, slice_get, nat_eq}
use Rattle.std.specs.Option.{option_map}
use Rattle.std.specs.List.{AllByRecursion}
use Rattle.std.proofs.lemmas.Bool.{eqb-true}
use Rattle.std.proofs.lemmas.Option.{slice_get-map}
use Rattle.smlc_base.specs.declared.primitive.Primitive.{Primitive}
use Rattle.smlc_base.specs.declared.primitive.Primitive.TheVariants as prim
use Rattle.sml_tree.specs.declared.bare.Bare.{Bare}
use Rattle.sml_tree.specs.declared.bare.Binding.{Binding}
use Rattle.sml_tree.specs.declared.bare.Con.{Con}
use Rattle.sml_tree.specs.declared.bare.Con.TheVariants as con
use Rattle.sml_tree.specs.declared.bare.Field.{Field}
use Rattle.sml_tree.specs.declared.bare.Rule.{Rule}
use Rattle.sml_tree.specs.declared.bare.Node.{Node}
use Rattle.sml_tree.specs.declared.bare.Node.TheVariants as node
use Rattle.sml_tree.specs.BareParts.{at_node, within}
use Rattle.sml_tree.specs.Free.{free, free_of, binds, exception_of, scoped, free_match}
use Rattle.sml_tree.specs.IsBare.{IsBare, IsOf, Pattern, HasRules, HasSorts, sort_of, nest_of}
use Rattle.sml_tree.specs.Sets.{has, union, union_over, without}
use Rattle.sml_tree.proofs.FreeParts.{free_unfold}
use Rattle.sml_tree.proofs.Members.{IsWithin, within_left, within_each, within_head, either, has-union}
use Rattle.sml_types.specs.declared.types.TyVar.{TyVar}
use Rattle.sml_types.specs.Tree.{Tree, inst}
use Rattle.sml_types.specs.Library.{arrow, exn_ty, primitive_poly}
use Rattle.sml_types.specs.Typing.{Typing, IsTyping}
use Rattle.simulation.specs.Machines.{state_at}
use Rattle.simulation.specs.Stores.{acted, machine_of}
use Rattle.simulation.proofs.Machines.{state_by}
use Rattle.sml_def.specs.Match.{block_of}
use Rattle.sml_def.specs.Maybe.{or_else}
use Rattle.sml_def.specs.Memory.{Next}
use Rattle.sml_def.specs.State.{Value, Tag, Builtin, Maker, RefMaker, Library, At, Env, Address, Awaits, FunctionPart, ArgumentPart, FieldPart, Subject, RightSide, RaisePart, Guarded, Block, ExnName, Closure, Frame, Control, Ret, Apply, Raise, look}
use Rattle.sml_def.specs.Step.{step}
use Rattle.sml_def.specs.Run.{State, source, start, view}
use Rattle.sml_def.proofs.Effects.{all_get}
use Rattle.sml_def.proofs.Options.{if_some}
use Rattle.sml_sound.specs.TypedStates.{KeepsMarks, Family, Entry, Holds, Takes, Names, EntryTy, HasTy, IsName, EnvTy, Fits, FrameTy, BlockTy, StoreTy, ControlTy, IsTyped}
use Rattle.sml_sound.specs.TypedStates as typed
use Rattle.sml_sound.proofs.Families.{at_in, agrees_self}
use Rattle.sml_sound.proofs.Grow.{store_get}
use Rattle.sml_sound.proofs.Names.{sorts_at, sort_is}
use Rattle.sml_sound.proofs.NeverStuck.{all_typed, start_typed}
use Rattle.sml_sound.proofs.Values.{View, a_number, a_letter, a_nothing, a_tag, a_constant, a_primitive, an_input, a_maker, a_ref_maker, a_name, a_tuple, an_applied, a_text, a_cell, a_packet, a_closure, view as value_view}
use Rattle.lambda_ir.specs.Free.{Operator, Computed, Constant, Exception}
use Rattle.lambda_ir.specs.Proper.{is_plain}
use Rattle.match_laws.specs.Suit.{name_block, is_exn_name}
use Rattle.sane_laws.specs.Sane.{operator_of, is_function_part, HasRuleNames, SaneWaits, SaneReturn, SaneEnter, SaneRaise, SaneControl}
use Rattle.sane_laws.specs.Uses.{is_constant, UsesWell, IsCited}
use Rattle.sane_laws.specs.Flow.{Form, form, forms_of, is_exception_name, IsConstantNone, DatumForm, IsDatum, NameForm, IsNameOf, HoldsWell, IsOperator, ComesForm, AwaitsWell, BlockWell, StoreWell, ControlWell, FlowsWell}
use Rattle.sane_laws.specs.Laws.{RunsAreSane}
use Rattle.sane_laws.proofs.Uses.{cites_of}
use Rattle.sane_laws.proofs.Values.{look_well}
use Rattle.sane_laws.proofs.Steps.{ActWell, Ready, act_flows}
use Rattle.sane_laws.proofs.Nodes.{step_well}

-- a datum is no function constant
datum_plain : (p : Bare) (t : Typing) (forms : List Form) (v : Value) → IsDatum p t forms v → is_plain v ≡ true
datum_plain p t forms (Builtin f) h = h
datum_plain p t forms (Maker n) h = absurd h
datum_plain p t forms RefMaker h = absurd h
datum_plain p t forms _ h = refl

-- ---- Patterns cite exceptions alone

module _ (p : Bare) (t : Typing) (bare : IsBare p) (uses : UsesWell p) where
  abbrev CitesOnly : List ℕ → Type 0
  CitesOnly xs = (x : ℕ) → has xs x ≡ true → is_exception_name p t x ≡ true

  con_cites : (c : Con) → IsCited p.nodes c → CitesOnly (exception_of c)
  con_cites (con.Exn y takes) h x m =
      either (nat_eq x y.0) false (is_exception_name p t x ≡ true) m (λ a. ap (is_exception_name p t) (eqb-true x y.0 a) ∙ h) (λ a. cc)
  con_cites _ h x m = cc

  both_cite : (xs ys : List ℕ) → CitesOnly xs → CitesOnly ys → CitesOnly (union xs ys)
  both_cite xs ys f g x m = either (has xs x) (has ys x) (is_exception_name p t x ≡ true) (sym (has-union xs ys x) ∙ m) (f x) (g x)

  abbrev PatternsCite : (ℕ → List ℕ) → Type 0
  PatternsCite part = (i : ℕ) → IsOf p.nodes Pattern i → CitesOnly (part i)

  fields_cite : (part : ℕ → List ℕ) → PatternsCite part → (fields : List Field) → AllByRecursion (λ f. IsOf p.nodes Pattern f.node) fields → CitesOnly (union_over (λ f. part f.node) fields)
  fields_cite part g [] s x m = cc
  fields_cite part g (f ∷ fields) s x m =
      both_cite (part f.node) (union_over (λ f. part f.node) fields) (g f.node s.0) (fields_cite part g fields s.1) x m

  node_cites : (part : ℕ → List ℕ) → PatternsCite part → (i : ℕ) (q : Node) → slice_get p.nodes i ≡ Some q → sort_of q ≡ Pattern → HasSorts p.nodes q → CitesOnly (free_of (binds p.nodes) part q)
  node_cites part g i (node.PatCon c) e s h x m = con_cites c (cites_of p t uses i (node.PatCon c) e) x m
  node_cites part g i (node.PatApp c q) e s h x m = both_cite (exception_of c) (part q) (con_cites c (cites_of p t uses i (node.PatApp c q) e)) (g q h) x m
  node_cites part g i (node.PatRecord fields) e s h x m = fields_cite part g fields h x m
  node_cites part g i (node.PatTyped q ty) e s h x m = g q h x m
  node_cites part g i (node.PatAs y q) e s h x m = g q h x m
  node_cites part g i (node.PatAsCon y q) e s h x m = g q h x m
  node_cites part g i node.Wild e s h x m = cc
  node_cites part g i (node.PatInt z) e s h x m = cc
  node_cites part g i (node.PatChar c) e s h x m = cc
  node_cites part g i (node.PatText c) e s h x m = cc
  node_cites part g i (node.PatVar y) e s h x m = cc
  node_cites part g i _ e s h x m = cc

  at_cites : (part : ℕ → List ℕ) → PatternsCite part → (i : ℕ) (o : Option Node) → slice_get p.nodes i ≡ o → IsOf p.nodes Pattern i → CitesOnly (at_node [] (λ part i. free_of (binds p.nodes) part) part i o)
  at_cites part g i None e s x m = cc
  at_cites part g i (Some q) e s x m =
      node_cites part g i q e (sort_is p.nodes Pattern i q e s) (if_some (HasSorts p.nodes) (slice_get p.nodes i) q e (all_get (HasSorts p.nodes) p.nodes i bare.sorts)) x m

  within_cites : (k : ℕ) → PatternsCite (within [] (λ part i. free_of (binds p.nodes) part) k p.nodes)
  within_cites zero i s x m = cc
  within_cites (suc k) i s x m = at_cites (within [] (λ part i. free_of (binds p.nodes) part) k p.nodes) (within_cites k) i (slice_get p.nodes i) refl s x m

  pattern_cites : PatternsCite (free p.nodes)
  pattern_cites = within_cites (length p.nodes)

  rules_cite : (rules : List Rule) → AllByRecursion (λ r. IsOf p.nodes Pattern r.pat) rules → CitesOnly (union_over (λ r. free p.nodes r.pat) rules)
  rules_cite [] s x m = cc
  rules_cite (r ∷ rules) s x m =
      both_cite (free p.nodes r.pat) (union_over (λ r. free p.nodes r.pat) rules) (pattern_cites r.pat s.0) (rules_cite rules s.1) x m

  pats_of : (rules : List Rule) → HasRules p.nodes rules → AllByRecursion (λ r. IsOf p.nodes Pattern r.pat) rules
  pats_of [] s = tt
  pats_of (r ∷ rules) s = (s.0.0, pats_of rules s.1)

-- ---- A state

module _ (p : Bare) (t : Typing) (typing : IsTyping p t) (bare : IsBare p) (uses : UsesWell p) (sig : List Entry) (store : List Block) (typed_store : StoreTy p t sig sig store) (well : StoreWell p t store) where
  abbrev fs : List Form
  fs = forms_of store

  form_at : (a : Address) → slice_get fs a ≡ option_map form (slice_get store a)
  form_at a = slice_get-map form store a

  -- ---- Exception names

  name_known : (u : Tree) (v : Value) → IsNameOf p t fs u v → is_exn_name store v ≡ true
  name_known u (Library e) h = refl
  name_known u (At a) h = go (slice_get store a) (subst (NameForm p t fs u) (form_at a) h)
    where
      go : (o : Option Block) → NameForm p t fs u (option_map form o) → name_block o ≡ true
      go (Some (ExnName x)) h = refl
      go (Some (Frame (FunctionPart f a env) next)) h = absurd h
      go (Some (Frame (ArgumentPart a f) next)) h = absurd h
      go (Some (Frame (FieldPart e fields before later env) next)) h = absurd h
      go (Some (Frame (Subject e rules env) next)) h = absurd h
      go (Some (Frame (RightSide b later body env) next)) h = absurd h
      go (Some (Frame (RaisePart e) next)) h = absurd h
      go (Some (Frame (Guarded i rules env) next)) h = absurd h
      go (Some _) h = absurd h
      go None h = absurd h
  name_known u _ h = absurd h

  -- what patterns cite in a typed environment are exception names
  names_known : (g : TyVar → Tree) (ys xs : List ℕ) (env : Env) → EnvTy p t sig g ys env → HoldsWell p t fs env → IsWithin xs ys → CitesOnly p t bare uses xs → (x : ℕ) → has xs x ≡ true → (name : Value) × (look env x ≡ Some name) × (is_exn_name store name ≡ true)
  names_known g ys xs env known h w c x m =
      let k = known.1 x (w x m) in (k.0, k.1, name_known (t.schemes x).body k.0 (look_well p t fs env x k.0 true (c x m) h k.1))

  match_within : (rules : List Rule) → IsWithin (union_over (λ r. free p.nodes r.pat) rules) (free_match (binds p.nodes) (free p.nodes) rules)
  match_within rules =
      within_each (λ (r : Rule). free p.nodes r.pat) (λ r. scoped (binds p.nodes) (free p.nodes) r.pat r.body) rules (λ r. within_left (free p.nodes r.pat) (without (free p.nodes r.body) (binds p.nodes r.pat)))

  rules_known : (g : TyVar → Tree) (rules : List Rule) (env : Env) → EnvTy p t sig g (free_match (binds p.nodes) (free p.nodes) rules) env → HoldsWell p t fs env → AllByRecursion (λ r. IsOf p.nodes Pattern r.pat) rules → HasRuleNames p store env rules
  rules_known g rules env known h s =
      names_known g (free_match (binds p.nodes) (free p.nodes) rules) (union_over (λ r. free p.nodes r.pat) rules) env known h (match_within rules) (rules_cite p t bare uses rules s)

  -- ---- Function parts

  not_arrow : (u a b : Tree) → u ≡ exn_ty → u ≡ arrow a b → ⊥
  not_arrow u a b e d = let x = sym e ∙ d in cc

  -- an exception name that is a datum has no argument
  plain_name : (v : Value) (u : Tree) → IsName p t sig v u → IsDatum p t fs v → u ≡ exn_ty
  plain_name (Library e) u h d = h ∙ d
  plain_name (At a) u h d = let b = store_get p t sig sig store a (Names u) typed_store h in go b.0 b.1 b.2
    where
      go : (c : Block) → slice_get store a ≡ Some c → BlockTy p t sig c (Names u) → u ≡ exn_ty
      go (ExnName x) e k = k.2 (subst (DatumForm p t fs) (form_at a ∙ ap (option_map form) e) d)
      go _ e k = absurd k
  plain_name _ u h d = absurd h

  input_type : (f : Primitive) (g : TyVar → Tree) (u a b : Tree) → is_plain (Builtin f) ≡ true → u ≡ inst g (primitive_poly f).body → u ≡ arrow a b → ⊥
  input_type prim.StdIn g u a b h e d = let x = sym e ∙ d in cc
  input_type _ g u a b h e d = cc

  -- a datum of function type is a closure
  closure_by : (v : Value) (u : Tree) → View p t typing sig store typed_store v u → (a b : Tree) → u ≡ arrow a b → IsDatum p t fs v → is_function_part Computed v (block_of store v) ≡ true
  closure_by v u (a_number z ev e) a b d h = absurd (let x = sym e ∙ d in cc)
  closure_by v u (a_letter c ev e) a b d h = absurd (let x = sym e ∙ d in cc)
  closure_by v u (a_nothing ev e) a b d h = absurd (let x = sym e ∙ d in cc)
  closure_by v u (a_tag k n ps g ev c e) a b d h = absurd (let x = sym e ∙ d in cc)
  closure_by v u (a_constant c ev lt e) a b d h = absurd (let x = sym e ∙ d in cc)
  closure_by v u (a_primitive f g x y ev kg ei e) a b d h = absurd (input_type f g u a b (subst (IsDatum p t fs) ev h) ei d)
  closure_by v u (an_input ev e) a b d h = absurd (let x = sym e ∙ d in cc)
  closure_by v u (a_maker k m g ev mk e) a b d h = absurd (subst (IsDatum p t fs) ev h)
  closure_by v u (a_ref_maker x ev e) a b d h = absurd (subst (IsDatum p t fs) ev h)
  closure_by v u (a_name is e name np) a b d h = absurd (not_arrow u a b (plain_name v u is h) d)
  closure_by v u (a_tuple ad vs ev eb i) a b d h = absurd (let x = sym i.2 ∙ d in cc)
  closure_by v u (an_applied ad k w ev eb i) a b d h = absurd (let x = sym i.3 ∙ d in cc)
  closure_by v u (a_text ad bytes ev eb e) a b d h = absurd (let x = sym e ∙ d in cc)
  closure_by v u (a_cell ad w c f ev eb es ef i e) a b d h = absurd (let x = sym e ∙ d in cc)
  closure_by v u (a_packet ad x w c ev eb is i e) a b d h = absurd (not_arrow u a b e d)
  closure_by v u (a_closure ad i rules env g x y ev eb en ei e k) a b d h =
      ap (λ v. is_function_part Computed v (block_of store v)) ev ∙ ap (is_function_part Computed (At ad)) eb

  constant_part : (c : Bool) (v : Value) (a b : Tree) → HasTy p t sig v (arrow a b) → IsOperator p t fs (Constant c) v → is_function_part (Constant c) v (block_of store v) ≡ true
  constant_part c (Builtin f) a b hv h = h
  constant_part c (Maker n) a b hv h = ap not h
  constant_part c RefMaker a b hv h = ap not h
  constant_part c (Library e) a b hv h = ap not h
  constant_part c (Tag n) a b hv h = absurd (let x = hv.4 in cc)
  constant_part c _ a b hv h = absurd h

  exception_part : (u : Tree) (v : Value) → IsNameOf p t fs u v → is_function_part Exception v (block_of store v) ≡ true
  exception_part u (Library e) h = refl
  exception_part u (At a) h = go (slice_get store a) (name_known u (At a) h)
    where
      go : (o : Option Block) → name_block o ≡ true → is_function_part Exception (At a) o ≡ true
      go (Some (ExnName x)) h = refl
      go None h = cc
      go (Some _) h = cc
  exception_part u _ h = absurd h

  function_part : (o : Operator) (v : Value) (a b : Tree) → HasTy p t sig v (arrow a b) → IsOperator p t fs o v → is_function_part o v (block_of store v) ≡ true
  function_part Computed v a b hv h = closure_by v (arrow a b) (value_view p t typing sig store typed_store v (arrow a b) hv) a b refl h
  function_part (Constant c) v a b hv h = constant_part c v a b hv h
  function_part Exception v a b hv h = exception_part h.0 v h.1

  -- ---- Controls

  waits_sane : (w : Awaits) (f : Family) (m : Bool) (next : Option Address) (v : Value) → KeepsMarks t.names f.at → FrameTy p t sig w f m next → Fits p t sig v f m → AwaitsWell p t fs w → ComesForm p t fs (Some (form (Frame w next))) v → SaneWaits p store w v
  waits_sane (FunctionPart i a env) f m next v kf h hv w c =
      function_part (operator_of p.nodes i) v (inst f.at (t.types a)) (inst f.at h.0) (subst (λ u. HasTy p t sig v (inst f.at u)) h.1 (hv.0 (inst f.at f.ty) (at_in t.names f kf))) c
  waits_sane (ArgumentPart a x) f m next v kf h hv w c = datum_plain p t fs v c
  waits_sane (FieldPart e fields before later env) f m next v kf h hv w c = datum_plain p t fs v c
  waits_sane (Subject e rules env) f m next v kf h hv w c = (datum_plain p t fs v c, rules_known f.at rules env h.4 w.0 h.3.pats)
  waits_sane (RightSide b later body env) f m next v kf h hv w c =
      let pats = union_over (λ c. free p.nodes c.pat) (b ∷ later) in
      let rest = union (union_over (λ c. free p.nodes c.right) later) (without (free p.nodes body) (union_over (λ c. binds p.nodes c.pat) (b ∷ later))) in (
        datum_plain p t fs v c,
        names_known f.at (typed.free_of_rest p t b later body) (free p.nodes b.pat) env h.5 w.0 (λ z q. within_left pats rest z (within_head (λ (c : Binding). free p.nodes c.pat) b later z q)) (pattern_cites p t bare uses b.pat h.3.pats.0.1),
      )
  waits_sane (RaisePart e) f m next v kf h hv w c = datum_plain p t fs v c
  waits_sane (Guarded i rules env) f m next v kf h hv w c = datum_plain p t fs v c

  return_sane : (c : Block) (v : Value) (f : Family) (m : Bool) → BlockTy p t sig c (Takes f m) → Fits p t sig v f m → BlockWell p t fs c → ComesForm p t fs (Some (form c)) v → SaneReturn p store (Some c) v
  return_sane (Frame w next) v f m h hv b c = waits_sane w f m next v h.0 h.1 hv b.0 c
  return_sane _ v f m h hv b c = tt

  raise_sane : (c : Block) (f : Family) (m : Bool) → BlockTy p t sig c (Takes f m) → BlockWell p t fs c → SaneRaise p store (Some c)
  raise_sane (Frame (Guarded i rules env) next) f m h b = rules_known f.at rules env h.1.3 b.0.0 h.1.2.pats
  raise_sane (Frame (FunctionPart i a env) next) f m h b = tt
  raise_sane (Frame (ArgumentPart a y) next) f m h b = tt
  raise_sane (Frame (FieldPart e fields before later env) next) f m h b = tt
  raise_sane (Frame (Subject e rules env) next) f m h b = tt
  raise_sane (Frame (RightSide c later body env) next) f m h b = tt
  raise_sane (Frame (RaisePart e) next) f m h b = tt
  raise_sane _ f m h b = tt

  enter_sane : (c : Block) (e : Entry) (a b : Tree) → BlockTy p t sig c e → EntryTy p t e (arrow a b) → BlockWell p t fs c → SaneEnter p store (Some c)
  enter_sane (Closure i rules env) (Holds f) a b h x w =
      let known = subst (λ xs. EnvTy p t sig x.0 xs env) (free_unfold p.nodes bare.numbered i (node.Fn rules) h.0) (h.2 x.0 x.1) in
      rules_known x.0 rules env known w.0 (pats_of p t bare uses rules (sorts_at p t typing bare.numbered bare.sorts i (node.Fn rules) h.0))
  enter_sane (Closure i rules env) _ a b h x w = absurd h
  enter_sane _ e a b h x w = tt

  block_at : (a : Address) (c : Block) → slice_get store a ≡ Some c → BlockWell p t fs c
  block_at a c e = if_some (BlockWell p t fs) (slice_get store a) c e (all_get (BlockWell p t fs) store a well)

  control_sane : (c : Control) → ControlTy p t sig c → ControlWell p t fs c → SaneControl p store c
  control_sane (Ret v (Some a)) h w =
      let k = store_get p t sig sig store a (Takes h.0 h.1) typed_store h.2 in
      subst (λ o. SaneReturn p store o v) (sym k.1) (return_sane k.0 v h.0 h.1 k.2 h.3 (block_at a k.0 k.1) (subst (λ o. ComesForm p t fs o v) (form_at a ∙ ap (option_map form) k.1) w))
  control_sane (Ret v None) h w = tt
  control_sane (Apply (At a) v k) h w =
      let g = h.family.at in
      let f = h.function g (agrees_self t.names h.family.gens g h.keeps) in
      let b = store_get p t sig sig store a f.0 typed_store f.1 in
      subst (SaneEnter p store) (sym b.1) (enter_sane b.0 f.0 (inst g h.arg) (inst g h.family.ty) b.2 f.2 (block_at a b.0 b.1))
  control_sane (Apply _ v k) h w = tt
  control_sane (Raise x (Some a)) h w =
      let k = store_get p t sig sig store a (Takes h.1.0 h.1.1) typed_store h.1.2 in
      subst (SaneRaise p store) (sym k.1) (raise_sane k.0 h.1.0 h.1.1 k.2 (block_at a k.0 k.1))
  control_sane (Raise x None) h w = tt
  control_sane _ h w = tt

-- ---- The run

module _ (p : Bare) (t : Typing) (typing : IsTyping p t) (bare : IsBare p) (uses : UsesWell p) where
  -- the root is no function constant
  root_none : (k : ℕ) → within false nest_of k p.nodes 0 ≡ true → IsConstantNone p t 0
  root_none zero h = cc
  root_none (suc k) h = go (slice_get p.nodes 0) refl h
    where
      go : (o : Option Node) → slice_get p.nodes 0 ≡ o → at_node false nest_of (within false nest_of k p.nodes) 0 o ≡ true → IsConstantNone p t 0
      go (Some (node.Let d e)) q h = ap (λ o. or_else o is_constant false) q
      go (Some node.Finish) q h = ap (λ o. or_else o is_constant false) q
      go None q h = cc
      go (Some _) q h = cc

  flows_after : (s r : State) → FlowsWell p t s → (machine_of (source p)).step s ≡ Some r → FlowsWell p t r
  flows_after s r h e =
      let ready : Ready p t (record { store = s.store; input = s.control.input }) = record { typing = typing; bare = bare; uses = uses; store = h.store } in
      go (step p (record { store = s.store; input = s.control.input }) s.control.control) (step_well ready s.control.control h.control) e
    where
      go : (o : Next) → IfSome o (ActWell p t s.store) → acted view s.out s.store o ≡ Some r → FlowsWell p t r
      go None g e = absurd cc
      go (Some a) g e = act_flows p t s r a h.store g e

  run_flows : (input : List ℕ) (n : ℕ) → FlowsWell p t (state_at (machine_of (source p)) (start input) n)
  run_flows input n =
      state_by (machine_of (source p)) (FlowsWell p t) flows_after (start input) (record { store = tt; control = (tt, root_none (length p.nodes) bare.nest) }) n

pub runs_are_sane : RunsAreSane
runs_are_sane p bare uses t typing input n =
    let s = state_at (machine_of (source p)) (start input) n in
    let h = all_typed p t typing bare (start input) (start_typed p t typing bare input) n in
    let w = run_flows p t typing bare uses input n in
    control_sane p t typing bare uses h.sig s.store h.store w.store s.control.control h.control w.control
