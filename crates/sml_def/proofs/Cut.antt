-- Each environment of a run is cut to the free variables of what it is for.
use Rattle.std.proofs.Common.{◌≡◌, ℕ, zero, suc, Bool, true, false, List, [], ◌∷◌, ◌++◌, length, Option, Some, None, refl, sym, ap, ◌∙◌, subst}
use Rattle.std.specs.Prelude.{IfSome, slice_get, nat_eq, cond, ◌||◌}
use Rattle.std.specs.Option.{option_map}
use Rattle.std.specs.List.{AllByRecursion, cons_option, list_any}
use Rattle.std.proofs.lemmas.List.Folds.{list_any-append}
use Rattle.std.proofs.lemmas.Bool.{eq-eqb}
use Rattle.sml_tree.specs.declared.bare.Bare.{Bare}
use Rattle.sml_tree.specs.declared.bare.Node.{Node}
use Rattle.sml_tree.specs.declared.bare.Node.TheVariants as node
use Rattle.sml_tree.specs.declared.bare.Field.{Field}
use Rattle.sml_tree.specs.declared.bare.Rule.{Rule}
use Rattle.sml_tree.specs.declared.bare.Binding.{Binding}
use Rattle.sml_tree.specs.declared.bare.RecBinding.{RecBinding}
use Rattle.sml_tree.specs.Sets.{has, union, union_over, without}
use Rattle.sml_tree.specs.BareParts.{IsNumbered, at_node, within}
use Rattle.sml_tree.specs.Free.{free, binds, free_of, binds_of, scoped, free_match, free_fields, free_rest, bound_by, names_of}
use Rattle.sml_tree.proofs.Members.{IsWithin, within_left, within_right, within_both, within_rest, without_parts, within_head, within_tail, within_each, has-union, has-union_over, either, or_left, or_right, in_or_not}
use Rattle.sml_tree.proofs.FreeParts.{free_unfold, binds_unfold}
use Rattle.simulation.specs.Stores.{Act, acted, machine_of}
use Rattle.simulation.proofs.Machines.{state_by}
use Rattle.sml_def.proofs.Effects.{all_get, effects_map, EffectHas, act_done}
use Rattle.sml_def.proofs.Options.{bind_some, or_some, when_some, if_some}
use Rattle.sml_def.proofs.Plain.{IsIdle, IsPlainBlock, IsPlainAct, compare_plain, uncaught_plain, builtin_plain}
use Rattle.sml_def.specs.State.{Value, Number, Letter, Builtin, Maker, RefMaker, Library, At, Env, Address, Awaits, FunctionPart, ArgumentPart, FieldPart, Subject, RightSide, RaisePart, Guarded, Block, Tuple, Applied, Cell, ExnName, Packet, Closure, Frame, Control, Eval, Ret, Apply, Raise, Eq, End, Focus, look, cut}
use Rattle.sml_def.specs.Memory.{Memory, Next, going, making, awaiting, making_all}
use Rattle.sml_def.specs.Match.{con_value, bytes_of, fits_of, fits, fields_fit, first_rule, argument_of, fields_of}
use Rattle.sml_def.specs.Step.{by_label, env_of, env_of_match, env_of_fields, env_of_rest, eval_in, group_env, closure_of, closures, function_of, function_at, declare, eval_dec, eval_fields, eval_record, eval, by_rule, bind, resume, ret, apply_block, apply, raised_to, raised, step}
use Rattle.sml_def.specs.Run.{State, view, source, start}
use Rattle.sml_def.specs.Cut.{names, needs, env_in, IsCutBlock, IsCutControl, IsCut, EnvironmentsAreCut}

names-append : (a b : Env) → names (a ++ b) ≡ names a ++ names b
names-append [] b = refl
names-append (x ∷ a) b = ap (λ xs. x.0 ∷ xs) (names-append a b)

-- a variable that an environment names has a value there
pub look_has : (env : Env) (x : ℕ) → has (names env) x ≡ true → (v : Value) × (look env x ≡ Some v)
look_has [] x h = cc
look_has (b ∷ env) x h = go (nat_eq x b.0) h (look_has env x)
  where
    go : (t : Bool) → (t || has (names env) x) ≡ true → (has (names env) x ≡ true → (v : Value) × (look env x ≡ Some v)) → (v : Value) × (cond t (Some b.1) (look env x) ≡ Some v)
    go true e f = (b.1, refl)
    go false e f = f e

cut_names : (xs : List ℕ) (env : Env) → IsWithin xs (names env) → names (cut xs env) ≡ xs
cut_names [] env h = refl
cut_names (x ∷ xs) env h =
    let found = look_has env x (h x (or_left (nat_eq x x) (has xs x) (eq-eqb x x refl))) in
    ap (λ o. names (cons_option (option_map (λ v. (x, v)) o) (cut xs env))) found.1
    ∙ ap (λ ys. x ∷ ys) (cut_names xs env (λ z g. h z (or_right (nat_eq z x) (has xs z) g)))

-- from an environment that has the variables ys
cut_within : (xs ys : List ℕ) (env : Env) → names env ≡ ys → IsWithin xs ys → names (cut xs env) ≡ xs
cut_within xs ys env e h = cut_names xs env (λ z g. ap (λ ns. has ns z) e ∙ h z g)

-- with what a pattern binds in front
names_front : (bound env : Env) (z : ℕ) → has (names bound) z ≡ true → has (names (bound ++ env)) z ≡ true
names_front bound env z h =
    ap (λ ns. has ns z) (names-append bound env) ∙ list_any-append (nat_eq z) (names bound) (names env) ∙ or_left (has (names bound) z) (has (names env) z) h

names_back : (bound env : Env) (z : ℕ) → has (names env) z ≡ true → has (names (bound ++ env)) z ≡ true
names_back bound env z h =
    ap (λ ns. has ns z) (names-append bound env) ∙ list_any-append (nat_eq z) (names bound) (names env) ∙ or_right (has (names bound) z) (has (names env) z) h

only : (b : Bool) → (b || false) ≡ true → b ≡ true
only true h = refl
only false h = h

module _ (p : Bare) (env : Env) (store : List Block) where
  -- what a match binds has the pattern's variables
  abbrev BindsAll : (ℕ → List ℕ) → (ℕ → Value → Option Env) → Type 0
  BindsAll b part = (i : ℕ) (v : Value) → IfSome (part i v) (λ e. IsWithin (b i) (names e))

  fields_bind : (b : ℕ → List ℕ) (part : ℕ → Value → Option Env) → BindsAll b part → (fields : List Field) (vs : List Value) → IfSome (fields_fit p env store part fields vs) (λ e. IsWithin (union_over (λ f. b f.node) fields) (names e))
  fields_bind b part g [] vs = λ z h. h
  fields_bind b part g (f ∷ fields) vs =
      bind_some _ (slice_get vs f.slot) _ (λ v ev. bind_some _ (part f.node v) _ (λ e he. bind_some _ (fields_fit p env store part fields vs) _ (λ o ho z h.
      either (has (b f.node) z) (list_any (λ x. has (b x.node) z) fields) (has (names (e ++ o)) z ≡ true) (sym (has-union_over (λ x. b x.node) (f ∷ fields) z) ∙ h)
      (λ a. names_front e o z (if_some (λ e. IsWithin (b f.node) (names e)) (part f.node v) e he (g f.node v) z a))
      (λ a. names_back e o z (if_some (λ o. IsWithin (union_over (λ x. b x.node) fields) (names o)) (fields_fit p env store part fields vs) o ho (fields_bind b part g fields vs) z (has-union_over (λ x. b x.node) fields z ∙ a))))))

  fits_of_bind : (b : ℕ → List ℕ) (part : ℕ → Value → Option Env) → BindsAll b part → (q : Node) (v : Value) → IfSome (fits_of p env store part q v) (λ e. IsWithin (binds_of b q) (names e))
  fits_of_bind b part g node.Wild v = λ z h. h
  fits_of_bind b part g (node.PatInt m) (Number k) = when_some (λ e. IsWithin [] (names e)) _ [] (λ w z h. h)
  fits_of_bind b part g (node.PatChar c) (Letter d) = when_some (λ e. IsWithin [] (names e)) _ [] (λ w z h. h)
  fits_of_bind b part g (node.PatText t) v =
      bind_some _ (slice_get p.texts t) _ (λ bs eb. bind_some _ (bytes_of p store v) _ (λ cs ec. when_some (λ e. IsWithin [] (names e)) _ [] (λ w z h. h)))
  fits_of_bind b part g (node.PatVar x) v = λ z h. h
  fits_of_bind b part g (node.PatCon c) v = when_some (λ e. IsWithin [] (names e)) _ [] (λ w z h. h)
  fits_of_bind b part g (node.PatApp c q) v = bind_some _ (argument_of env store c v) _ (λ w e. g q w)
  fits_of_bind b part g (node.PatRecord fields) v = bind_some _ (fields_of store v) _ (λ vs e. fields_bind b part g fields vs)
  fits_of_bind b part g (node.PatTyped q ty) v = g q v
  fits_of_bind b part g (node.PatAs x q) v =
      bind_some
      _
      (part q v)
      _
      (λ e he z h. either (has (x.0 ∷ []) z) (has (b q) z) ((nat_eq z x.0 || has (names e) z) ≡ true) (sym (has-union (x.0 ∷ []) (b q) z) ∙ h) (λ a. or_left (nat_eq z x.0) (has (names e) z) (only (nat_eq z x.0) a)) (λ a. or_right (nat_eq z x.0) (has (names e) z) (if_some (λ e. IsWithin (b q) (names e)) (part q v) e he (g q v) z a)))
  fits_of_bind b part g _ v = tt

  at_bind : (b : ℕ → List ℕ) (part : ℕ → Value → Option Env) → BindsAll b part → (j : ℕ) (o : Option Node) (v : Value) → IfSome (at_node (λ v. None) (λ part i. fits_of p env store part) part j o v) (λ e. IsWithin (at_node [] (λ part i. binds_of part) b j o) (names e))
  at_bind b part g j None v = tt
  at_bind b part g j (Some q) v = fits_of_bind b part g q v

  within_bind : (k : ℕ) → BindsAll (within [] (λ part i. binds_of part) k p.nodes) (within (λ v. None) (λ part i. fits_of p env store part) k p.nodes)
  within_bind zero i v = tt
  within_bind (suc k) i v = at_bind _ _ (within_bind k) i (slice_get p.nodes i) v

  fits_bind : BindsAll (binds p.nodes) (fits p env store)
  fits_bind i v = within_bind (length p.nodes) i v

  -- the rule that is taken has its variables
  first_bind : (rules : List Rule) (v : Value) → names env ≡ free_match (binds p.nodes) (free p.nodes) rules → IfSome (first_rule p env store rules v) (λ r. IsWithin (free p.nodes r.1) (names (r.0 ++ env)))
  first_bind rules v e = go rules (λ z h. ap (λ ns. has ns z) e ∙ h)
    where
      go : (rules : List Rule) → IsWithin (free_match (binds p.nodes) (free p.nodes) rules) (names env) → IfSome (first_rule p env store rules v) (λ r. IsWithin (free p.nodes r.1) (names (r.0 ++ env)))
      go [] h = tt
      go (r ∷ rules) h =
          or_some (λ o. IfSome o (λ r. IsWithin (free p.nodes r.1) (names (r.0 ++ env)))) (fits p env store r.pat v) _ _ (λ bound eb z hz.
          in_or_not (binds p.nodes r.pat) z (has (names (bound ++ env)) z ≡ true)
          (λ a. names_front bound env z (if_some (λ e. IsWithin (binds p.nodes r.pat) (names e)) (fits p env store r.pat v) bound eb (fits_bind r.pat v) z a))
          (λ a. names_back bound env z (h z (within_head (λ r. scoped (binds p.nodes) (free p.nodes) r.pat r.body) r rules z (within_right (free p.nodes r.pat) (without (free p.nodes r.body) (binds p.nodes r.pat)) z (within_rest (free p.nodes r.body) (binds p.nodes r.pat) z hz a))))))
          (go rules (λ z g. h z (within_tail (λ r. scoped (binds p.nodes) (free p.nodes) r.pat r.body) r rules z g)))

-- what a step does is cut
pub record IsCutAct (p : Bare) (a : Act Focus Block) : Type 0 where
  pub control : IsCutControl p a.next.control
  pub effects : AllByRecursion (EffectHas (IsCutBlock p)) a.effects

module _ (p : Bare) (numbered : IsNumbered p.nodes) (s : Memory) (cut_store : AllByRecursion (IsCutBlock p) s.store) where
  abbrev Good : Next → Type 0
  Good o = IfSome o (IsCutAct p)

  going_cut : (c : Control) → IsCutControl p c → Good (going s c)
  going_cut c h = record { control = h; effects = tt }

  all_cut : (blocks : List Block) (c : Control) → AllByRecursion (IsCutBlock p) blocks → IsCutControl p c → Good (making_all s blocks c)
  all_cut blocks c hb hc = record { control = hc; effects = (hb, tt) }

  making_cut : (b : Block) (f : Address → Control) → IsCutBlock p b → IsCutControl p (f (length s.store)) → Good (making s b f)
  making_cut b f hb hc = record { control = hc; effects = ((hb, tt), tt) }

  -- a part of a node is evaluated under a frame
  awaiting_cut : (w : Awaits) (k : Option Address) (i : ℕ) (env : Env) → names (env_in p w) ≡ needs p w → names env ≡ free p.nodes i → Good (awaiting s w k (Eval i env))
  awaiting_cut w k i env h e = making_cut (Frame w k) (λ a. Eval i env (Some a)) h e

  cond_cut : (t : Bool) (o q : Next) → Good o → Good q → Good (cond t o q)
  cond_cut true o q h g = h
  cond_cut false o q h g = g

  -- ---- Declarations

  abbrev free_at : ℕ → List ℕ
  free_at = free p.nodes

  abbrev binds_at : ℕ → List ℕ
  binds_at = binds p.nodes

  abbrev match_of : List Rule → List ℕ
  match_of rules = free_match binds_at free_at rules

  -- what the bindings and the body need
  abbrev pats_of : List Binding → List ℕ
  pats_of bs = union_over (λ c. free_at c.pat) bs

  abbrev rights_of : List Binding → List ℕ
  rights_of bs = union_over (λ c. free_at c.right) bs

  abbrev beyond : List Binding → ℕ → List ℕ
  beyond bs body = without (free_at body) (bound_by binds_at free_at bs)

  abbrev needed : List Binding → ℕ → List ℕ
  needed bs body = union (pats_of bs) (union (rights_of bs) (beyond bs body))

  pats_needed : (bs : List Binding) (body : ℕ) → IsWithin (pats_of bs) (needed bs body)
  pats_needed bs body = within_left (pats_of bs) (union (rights_of bs) (beyond bs body))

  rights_needed : (bs : List Binding) (body : ℕ) → IsWithin (rights_of bs) (needed bs body)
  rights_needed bs body z h =
      within_right (pats_of bs) (union (rights_of bs) (beyond bs body)) z (within_left (rights_of bs) (beyond bs body) z h)

  rest_needed : (bs : List Binding) (body : ℕ) → IsWithin (beyond bs body) (needed bs body)
  rest_needed bs body z h =
      within_right (pats_of bs) (union (rights_of bs) (beyond bs body)) z (within_right (rights_of bs) (beyond bs body) z h)

  frame_needed : (b : Binding) (later : List Binding) (body : ℕ) → IsWithin (free_rest binds_at free_at b later body) (needed (b ∷ later) body)
  frame_needed b later body =
      within_both (pats_of (b ∷ later)) (union (rights_of later) (beyond (b ∷ later) body)) (needed (b ∷ later) body) (pats_needed (b ∷ later) body) (within_both (rights_of later) (beyond (b ∷ later) body) (needed (b ∷ later) body) (λ z h. rights_needed (b ∷ later) body z (within_tail (λ c. free_at c.right) b later z h)) (rest_needed (b ∷ later) body))

  body_needed : (body : ℕ) → IsWithin (free_at body) (needed [] body)
  body_needed body z h = rest_needed [] body z (within_rest (free_at body) [] z h refl)

  declare_cut : (bindings : List Binding) (body : ℕ) (env : Env) (k : Option Address) → IsWithin (needed bindings body) (names env) → Good (declare p s bindings body env k)
  declare_cut [] body env k h =
      going_cut (eval_in p body env k) (cut_names (free_at body) env (λ z g. h z (body_needed body z g)))
  declare_cut (b ∷ later) body env k h =
      awaiting_cut
      (RightSide b later body (env_of_rest p b later body env))
      k
      b.right
      (env_of p b.right env)
      (cut_names (free_rest binds_at free_at b later body) env (λ z g. h z (frame_needed b later body z g)))
      (cut_names (free_at b.right) env (λ z g. h z (rights_needed (b ∷ later) body z (within_head (λ c. free_at c.right) b later z g))))

  -- closures that are made together name one another
  group_names : (a : ℕ) (bs : List RecBinding) → IsWithin (names_of bs) (names (group_env p a bs))
  group_names a [] z h = h
  group_names a (b ∷ bs) z h =
      either (has (b.name.0 ∷ []) z) (list_any (λ x. has (x.name.0 ∷ []) z) bs) ((nat_eq z b.name.0 || has (names (group_env p (suc a) bs)) z) ≡ true) (sym (has-union_over (λ x. x.name.0 ∷ []) (b ∷ bs) z) ∙ h)
      (λ e. or_left (nat_eq z b.name.0) (has (names (group_env p (suc a) bs)) z) (only (nat_eq z b.name.0) e))
      (λ e. or_right (nat_eq z b.name.0) (has (names (group_env p (suc a) bs)) z) (group_names (suc a) bs z (has-union_over (λ x. x.name.0 ∷ []) bs z ∙ e)))

  -- the `fn` under types, which has the same free variables
  abbrev IsFunction : ℕ → ℕ × List Rule → Type 0
  IsFunction i f = (slice_get p.nodes f.0 ≡ Some (node.Fn f.1)) × (free_at f.0 ≡ free_at i)

  functions_of : (part : ℕ → Option (ℕ × List Rule)) → ((i : ℕ) → IfSome (part i) (IsFunction i)) → (i : ℕ) (n : Node) → slice_get p.nodes i ≡ Some n → IfSome (function_of part i n) (IsFunction i)
  functions_of part g i (node.Fn rules) e = (e, refl)
  functions_of part g i (node.Typed x ty) e =
      typed (part x) (g x)
    where
      typed : (o : Option (ℕ × List Rule)) → IfSome o (IsFunction x) → IfSome o (IsFunction i)
      typed None h = tt
      typed (Some f) h = (h.0, h.1 ∙ sym (free_unfold p.nodes numbered i (node.Typed x ty) e))
  functions_of part g i _ e = tt

  function_within : (k i : ℕ) → IfSome (within None function_of k p.nodes i) (IsFunction i)
  function_within zero i = tt
  function_within (suc k) i = go (function_within k) (slice_get p.nodes i) refl
    where
      go : ((j : ℕ) → IfSome (within None function_of k p.nodes j) (IsFunction j)) → (o : Option Node) → slice_get p.nodes i ≡ o → IfSome (at_node None function_of (within None function_of k p.nodes) i o) (IsFunction i)
      go below None e = tt
      go below (Some n) e = functions_of (within None function_of k p.nodes) below i n e

  closure_cut : (all : Env) (i : ℕ) → IsWithin (free_at i) (names all) → IfSome (closure_of p all (function_at p.nodes i)) (IsCutBlock p)
  closure_cut all i h = go (function_at p.nodes i) (function_within (length p.nodes) i)
    where
      go : (o : Option (ℕ × List Rule)) → IfSome o (IsFunction i) → IfSome (closure_of p all o) (IsCutBlock p)
      go None g = tt
      go (Some f) g = (g.0, cut_names (free_at f.0) all (λ z w. h z (ap (λ xs. has xs z) (sym g.1) ∙ w)))

  closures_cut : (all : Env) (bs : List RecBinding) → IsWithin (union_over (λ b. free_at b.right) bs) (names all) → IfSome (closures p all bs) (AllByRecursion (IsCutBlock p))
  closures_cut all [] h = tt
  closures_cut all (b ∷ bs) h =
      bind_some (AllByRecursion (IsCutBlock p)) (closure_of p all (function_at p.nodes b.right)) _ (λ c ec. bind_some (AllByRecursion (IsCutBlock p)) (closures p all bs) _ (λ cs es. (
        if_some (IsCutBlock p) (closure_of p all (function_at p.nodes b.right)) c ec (closure_cut all b.right (λ z g. h z (within_head (λ x. free_at x.right) b bs z g))),
        if_some (AllByRecursion (IsCutBlock p)) (closures p all bs) cs es (closures_cut all bs (λ z g. h z (within_tail (λ x. free_at x.right) b bs z g))),
      )))

  dec_cut : (d body : ℕ) (q : Node) (env : Env) (k : Option Address) → slice_get p.nodes d ≡ Some q → names env ≡ scoped binds_at free_at d body → Good (eval_dec p s body q env k)
  dec_cut d body q env k ed e = go q ed
    where
      -- what the body needs beyond what the declaration binds is there
      rest : IsWithin (without (free_at body) (binds_at d)) (names env)
      rest z h = ap (λ ns. has ns z) e ∙ within_right (free_at d) (without (free_at body) (binds_at d)) z h

      own : IsWithin (free_at d) (names env)
      own z h = ap (λ ns. has ns z) e ∙ within_left (free_at d) (without (free_at body) (binds_at d)) z h

      -- with what the declaration binds
      after : (bound : Env) → IsWithin (binds_at d) (names bound) → IsWithin (free_at body) (names (bound ++ env))
      after bound f z h =
          in_or_not (binds_at d) z (has (names (bound ++ env)) z ≡ true) (λ a. names_front bound env z (f z a)) (λ a. names_back bound env z (rest z (within_rest (free_at body) (binds_at d) z h a)))

      bound_is : (q : Node) → slice_get p.nodes d ≡ Some q → binds_at d ≡ binds_of binds_at q
      bound_is q ed = binds_unfold p.nodes numbered d q ed

      free_is : (q : Node) → slice_get p.nodes d ≡ Some q → free_at d ≡ free_of binds_at free_at q
      free_is q ed = free_unfold p.nodes numbered d q ed

      none_bound : (q : Node) → slice_get p.nodes d ≡ Some q → binds_of binds_at q ≡ [] → IsWithin (free_at body) (names env)
      none_bound q ed f = after [] (λ z g. ap (λ xs. has xs z) (sym (bound_is q ed ∙ f)) ∙ g)

      go : (q : Node) → slice_get p.nodes d ≡ Some q → Good (eval_dec p s body q env k)
      go (node.Val tyvars bs) ed =
          declare_cut bs body env k
          (within_both (pats_of bs) (union (rights_of bs) (beyond bs body)) (names env)
          (λ z h. own z (ap (λ xs. has xs z) (free_is (node.Val tyvars bs) ed) ∙ within_each (λ c. free_at c.pat) (λ c. union (free_at c.pat) (free_at c.right)) bs (λ c. within_left (free_at c.pat) (free_at c.right)) z h))
          (within_both (rights_of bs) (beyond bs body) (names env)
          (λ z h. own z (ap (λ xs. has xs z) (free_is (node.Val tyvars bs) ed) ∙ within_each (λ c. free_at c.right) (λ c. union (free_at c.pat) (free_at c.right)) bs (λ c. within_right (free_at c.pat) (free_at c.right)) z h))
          (λ z h. rest z (ap (λ xs. has (without (free_at body) xs) z) (bound_is (node.Val tyvars bs) ed) ∙ h))))
      go (node.ValRec tyvars bs) ed =
          let group = group_env p (length s.store) bs in
          bind_some (IsCutAct p) (closures p (group ++ env) bs) _ (λ blocks eb.
          all_cut blocks (eval_in p body (group ++ env) k)
          (if_some (AllByRecursion (IsCutBlock p)) (closures p (group ++ env) bs) blocks eb (closures_cut (group ++ env) bs (λ z h.
          in_or_not (names_of bs) z (has (names (group ++ env)) z ≡ true)
          (λ a. names_front group env z (group_names (length s.store) bs z a))
          (λ a. names_back group env z (own z (ap (λ xs. has xs z) (free_is (node.ValRec tyvars bs) ed) ∙ within_rest (union_over (λ b. free_at b.right) bs) (names_of bs) z h a))))))
          (cut_names (free_at body) (group ++ env) (after group (λ z h. group_names (length s.store) bs z (ap (λ xs. has xs z) (sym (bound_is (node.ValRec tyvars bs) ed)) ∙ h)))))
      go (node.Type bindings) ed = going_cut _ (cut_names (free_at body) env (none_bound (node.Type bindings) ed refl))
      go (node.Datatype bindings) ed = going_cut _ (cut_names (free_at body) env (none_bound (node.Datatype bindings) ed refl))
      go (node.Exception x ty) ed =
          making_cut (ExnName x.0) (λ a. eval_in p body ((x.0, At a) ∷ env) k) tt (cut_names (free_at body) ((x.0, At (length s.store)) ∷ env) (after ((x.0, At (length s.store)) ∷ []) (λ z h. ap (λ xs. has xs z) (sym (bound_is (node.Exception x ty) ed)) ∙ h)))
      go (node.SameException x c) ed =
          bind_some (IsCutAct p) (con_value env c) _ (λ v ev. going_cut (eval_in p body ((x.0, v) ∷ env) k) (cut_names (free_at body) ((x.0, v) ∷ env) (after ((x.0, v) ∷ []) (λ z h. ap (λ xs. has xs z) (sym (bound_is (node.SameException x c) ed)) ∙ h))))
      go _ ed = tt

  -- ---- Eval

  fields_cut : (fields : List Field) (before : List Value) (later : List Field) (env : Env) (k : Option Address) → IsWithin (free_fields free_at later) (names env) → Good (eval_fields p s fields before later env k)
  fields_cut fields before [] env k h = making_cut (Tuple (by_label fields before)) (λ a. Ret (At a) k) tt tt
  fields_cut fields before (f ∷ later) env k h =
      awaiting_cut
      (FieldPart f.node fields before later (env_of_fields p later env))
      k
      f.node
      (env_of p f.node env)
      (cut_names (free_fields free_at later) env (λ z g. h z (within_tail (λ x. free_at x.node) f later z g)))
      (cut_names (free_at f.node) env (λ z g. h z (within_head (λ x. free_at x.node) f later z g)))

  record_cut : (fields : List Field) (env : Env) (k : Option Address) → IsWithin (free_fields free_at fields) (names env) → Good (eval_record p s fields env k)
  record_cut [] env k h = going_cut _ tt
  record_cut (f ∷ fields) env k h = fields_cut (f ∷ fields) [] (f ∷ fields) env k h

  eval_cut : (i : ℕ) (q : Node) (env : Env) (k : Option Address) → slice_get p.nodes i ≡ Some q → names env ≡ free_at i → Good (eval p s i q env k)
  eval_cut i q env k ei en = go q ei (en ∙ free_unfold p.nodes numbered i q ei)
    where
      go : (q : Node) → slice_get p.nodes i ≡ Some q → names env ≡ free_of binds_at free_at q → Good (eval p s i q env k)
      go (node.Int m) ei e = going_cut _ tt
      go (node.Char c) ei e = going_cut _ tt
      go (node.Text t) ei e = going_cut _ tt
      go (node.Var x) ei e = bind_some (IsCutAct p) (look env x.0) _ (λ v ev. going_cut (Ret v k) tt)
      go (node.Constructor c) ei e = bind_some (IsCutAct p) (con_value env c) _ (λ v ev. going_cut (Ret v k) tt)
      go (node.Builtin f) ei e = going_cut _ tt
      go (node.Record fields) ei e = record_cut fields env k (λ z h. ap (λ ns. has ns z) e ∙ h)
      go (node.App f a) ei e =
          awaiting_cut (FunctionPart f a (env_of p a env)) k f (env_of p f env) (cut_within (free_at a) _ env e (within_right (free_at f) (free_at a))) (cut_within (free_at f) _ env e (within_left (free_at f) (free_at a)))
      go (node.Case x rules) ei e =
          awaiting_cut (Subject x rules (env_of_match p rules env)) k x (env_of p x env) (cut_within (match_of rules) _ env e (within_right (free_at x) (match_of rules))) (cut_within (free_at x) _ env e (within_left (free_at x) (match_of rules)))
      go (node.Fn rules) ei e = making_cut (Closure i rules env) (λ a. Ret (At a) k) (ei, en) tt
      go (node.Raise x) ei e = awaiting_cut (RaisePart x) k x (env_of p x env) refl (cut_within (free_at x) _ env e (λ z h. h))
      go (node.Handle x rules) ei e =
          awaiting_cut (Guarded i rules (env_of_match p rules env)) k x (env_of p x env) (cut_within (match_of rules) _ env e (within_right (free_at x) (match_of rules))) (cut_within (free_at x) _ env e (within_left (free_at x) (match_of rules)))
      go (node.Typed x ty) ei e = going_cut (Eval x env k) e
      go (node.Let d body) ei e = bind_some (IsCutAct p) (slice_get p.nodes d) _ (λ q ed. dec_cut d body q env k ed e)
      go node.Finish ei e = going_cut _ tt
      go _ ei e = tt

  -- ---- Ret

  rule_cut : (rules : List Rule) (env : Env) (v : Value) (k : Option Address) (other : Control) → names env ≡ match_of rules → IsCutControl p other → Good (by_rule p s rules env v k other)
  rule_cut rules env v k other e h =
      or_some Good (first_rule p env s.store rules v) _ _ (λ r er. going_cut (eval_in p r.1 (r.0 ++ env) k) (cut_names (free_at r.1) (r.0 ++ env) (if_some (λ r. IsWithin (free_at r.1) (names (r.0 ++ env))) (first_rule p env s.store rules v) r er (first_bind p env s.store rules v e)))) (going_cut other h)

  -- a value comes back to the right side of b
  bind_cut : (b : Binding) (later : List Binding) (body : ℕ) (env : Env) (v : Value) (k : Option Address) → names env ≡ free_rest binds_at free_at b later body → Good (bind p s b later body env v k)
  bind_cut b later body env v k e =
      or_some Good (fits p env s.store b.pat v) _ _ (λ bound eb. declare_cut later body (bound ++ env) k (wide bound (if_some (λ e. IsWithin (binds_at b.pat) (names e)) (fits p env s.store b.pat v) bound eb (fits_bind p env s.store b.pat v)))) (going_cut _ tt)
    where
      pats : List ℕ
      pats = pats_of (b ∷ later)

      rest : List ℕ
      rest = beyond (b ∷ later) body

      -- what the bindings behind b need is there
      wide : (bound : Env) → IsWithin (binds_at b.pat) (names bound) → IsWithin (needed later body) (names (bound ++ env))
      wide bound f =
          within_both (pats_of later) (union (rights_of later) (beyond later body)) (names (bound ++ env))
          (λ z h. names_back bound env z (ap (λ ns. has ns z) e ∙ within_left pats (union (rights_of later) rest) z (within_tail (λ c. free_at c.pat) b later z h)))
          (within_both (rights_of later) (beyond later body) (names (bound ++ env))
          (λ z h. names_back bound env z (ap (λ ns. has ns z) e ∙ within_right pats (union (rights_of later) rest) z (within_left (rights_of later) rest z h)))
          (λ z h. let parts = without_parts (free_at body) (bound_by binds_at free_at later) z h in
          in_or_not (binds_at b.pat) z (has (names (bound ++ env)) z ≡ true)
          (λ a. names_front bound env z (f z a))
          (λ a. names_back bound env z (ap (λ ns. has ns z) e ∙ within_right pats (union (rights_of later) rest) z (within_right (rights_of later) rest z (within_rest (free_at body) (bound_by binds_at free_at (b ∷ later)) z parts.0 (has-union_over (λ c. binds_at c.pat) (b ∷ later) z ∙ ap (λ t. t || list_any (λ c. has (binds_at c.pat) z) later) a ∙ sym (has-union_over (λ c. binds_at c.pat) later z) ∙ parts.1)))))))

  resume_cut : (w : Awaits) (v : Value) (k : Option Address) → names (env_in p w) ≡ needs p w → Good (resume p s w v k)
  resume_cut (FunctionPart f a env) v k h = awaiting_cut (ArgumentPart a v) k a env refl h
  resume_cut (ArgumentPart a f) v k h = going_cut (Apply f v k) tt
  resume_cut (FieldPart e fields before later env) v k h =
      fields_cut fields (before ++ v ∷ []) later env k (λ z g. ap (λ ns. has ns z) h ∙ g)
  resume_cut (Subject e rules env) v k h = rule_cut rules env v k _ h tt
  resume_cut (RightSide b later body env) v k h = bind_cut b later body env v k h
  resume_cut (RaisePart e) v k h = going_cut (Raise v k) tt
  resume_cut (Guarded i rules env) v k h = going_cut (Ret v k) tt

  ret_cut : (o : Option Block) (v : Value) → IfSome o (IsCutBlock p) → Good (ret p s o v)
  ret_cut (Some (Frame w next)) v h = resume_cut w v next h
  ret_cut _ v h = tt

  -- ---- Apply, Raise, Eq

  apply_block_cut : (o : Option Block) (f v : Value) (k : Option Address) → IfSome o (IsCutBlock p) → Good (apply_block p s o f v k)
  apply_block_cut (Some (Closure i rules env)) f v k h =
      rule_cut rules env v k _ (h.1 ∙ free_unfold p.nodes numbered i (node.Fn rules) h.0) tt
  apply_block_cut (Some (ExnName x)) f v k h = making_cut (Packet f v) (λ a. Ret (At a) k) tt tt
  apply_block_cut _ f v k h = tt

  raised_to_cut : (w : Awaits) (next : Option Address) (x : Value) → names (env_in p w) ≡ needs p w → Good (raised_to p s w next x)
  raised_to_cut (Guarded i rules env) next x h = rule_cut rules env x next (Raise x next) h tt
  raised_to_cut _ next x h = going_cut (Raise x next) tt

  raised_cut : (o : Option Block) (x : Value) → IfSome o (IsCutBlock p) → Good (raised p s o x)
  raised_cut (Some (Frame w next)) x h = raised_to_cut w next x h
  raised_cut _ x h = tt

  -- ---- What evaluates nothing

  plain_control : (c : Control) → IsIdle c → IsCutControl p c
  plain_control (Eval i env k) h = absurd h
  plain_control _ h = tt

  plain_block : (b : Block) → IsPlainBlock b → IsCutBlock p b
  plain_block (Closure i rules env) h = absurd h
  plain_block (Frame w next) h = absurd h
  plain_block _ h = tt

  plain_cut : (o : Next) → IfSome o IsPlainAct → Good o
  plain_cut None h = tt
  plain_cut (Some a) h = record {
    control = plain_control a.next.control h.control;
    effects = effects_map IsPlainBlock (IsCutBlock p) plain_block a.effects h.effects;
  }

  apply_cut : (f v : Value) (k : Option Address) → Good (apply p s f v k)
  apply_cut (At a) v k = apply_block_cut (slice_get s.store a) (At a) v k (all_get (IsCutBlock p) s.store a cut_store)
  apply_cut (Library e) v k = making_cut (Packet (Library e) v) (λ a. Ret (At a) k) tt tt
  apply_cut (Maker m) v k = making_cut (Applied m v) (λ a. Ret (At a) k) tt tt
  apply_cut RefMaker v k = making_cut (Cell v) (λ a. Ret (At a) k) tt tt
  apply_cut (Builtin f) v k = plain_cut _ (builtin_plain p s k f v)
  apply_cut _ v k = tt

  pub step_cut : (c : Control) → IsCutControl p c → Good (step p s c)
  step_cut (Eval i env k) h = bind_some (IsCutAct p) (slice_get p.nodes i) _ (λ q ei. eval_cut i q env k ei h)
  step_cut (Ret v None) h = going_cut _ tt
  step_cut (Ret v (Some a)) h = ret_cut (slice_get s.store a) v (all_get (IsCutBlock p) s.store a cut_store)
  step_cut (Apply f v k) h = apply_cut f v k
  step_cut (Raise x None) h = plain_cut _ (uncaught_plain p s x)
  step_cut (Raise x (Some a)) h = raised_cut (slice_get s.store a) x (all_get (IsCutBlock p) s.store a cut_store)
  step_cut (Eq None t k) h = going_cut _ tt
  step_cut (Eq (Some a) t k) h = plain_cut _ (compare_plain p s (slice_get s.store a) t k)
  step_cut (End e) h = tt

cut_after : (p : Bare) → IsNumbered p.nodes → (s t : State) → IsCut p s → (machine_of (source p)).step s ≡ Some t → IsCut p t
cut_after p numbered s t h e =
    go (step p (record { store = s.store; input = s.control.input }) s.control.control) (step_cut p numbered (record { store = s.store; input = s.control.input }) h.store s.control.control h.control) e
  where
    go : (o : Next) → IfSome o (IsCutAct p) → acted view s.out s.store o ≡ Some t → IsCut p t
    go None g e = absurd cc
    go (Some a) g e =
        let d = act_done (IsCutBlock p) s t a h.store g.effects e in
        record { control = subst (λ f. IsCutControl p f.control) (sym d.control) g.control; store = d.store }

pub environments_are_cut : EnvironmentsAreCut
environments_are_cut p numbered closed input n =
    state_by (machine_of (source p)) (IsCut p) (cut_after p numbered) (start input) (record { control = sym closed; store = tt }) n
