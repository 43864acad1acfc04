-- Each step leaves all values where they may be.
use Rattle.std.proofs.Common.{◌≡◌, ℕ, zero, suc, Bool, true, false, List, [], ◌∷◌, ◌++◌, length, Option, Some, None, refl, sym, ap, ◌∙◌, subst, map, arith, append_assoc, length-append, inl, inr}
use Rattle.std.specs.Prelude.{IfSome, slice_get, nat_eq}
use Rattle.std.specs.Option.{option_map}
use Rattle.std.specs.List.{AllByRecursion}
use Rattle.std.proofs.lemmas.Bool.{eq-eqb}
use Rattle.std.proofs.lemmas.List.{length-map}
use Rattle.std.proofs.lemmas.Option.{slice_get-map}
use Rattle.smlc_base.specs.declared.exception.LibraryExn.TheVariants as exn
use Rattle.smlc_base.specs.declared.primitive.Primitive.{Primitive}
use Rattle.smlc_base.specs.declared.primitive.Primitive.TheVariants as prim
use Rattle.sml_tree.specs.declared.bare.Bare.{Bare}
use Rattle.sml_tree.specs.declared.bare.Con.{Con}
use Rattle.sml_tree.specs.declared.bare.Con.TheVariants as con
use Rattle.sml_tree.specs.declared.bare.Field.{Field}
use Rattle.sml_tree.specs.declared.bare.Rule.{Rule}
use Rattle.sml_tree.specs.declared.bare.Binding.{Binding}
use Rattle.sml_tree.specs.declared.bare.RecBinding.{RecBinding}
use Rattle.sml_tree.specs.declared.bare.Node.{Node}
use Rattle.sml_tree.specs.declared.bare.Node.TheVariants as node
use Rattle.sml_tree.specs.BareParts.{at_node, within}
use Rattle.sml_tree.specs.Sets.{has}
use Rattle.sml_tree.proofs.Members.{or_left, or_right}
use Rattle.sml_types.specs.Poly.{Poly, Context}
use Rattle.sml_types.specs.Typing.{Typing, takes_argument, is_exception, IsConPoly}
use Rattle.sml_def.specs.Maybe.{or_else}
use Rattle.sml_def.specs.Memory.{Memory, going}
use Rattle.sml_def.specs.State.{Value, Number, Letter, Nothing, Tag, Constant as Text, Builtin, Maker, RefMaker, Library, At, Env, Address, Awaits, FunctionPart, ArgumentPart, FieldPart, Subject, RightSide, RaisePart, Guarded, Block, Tuple, Applied, Cell, ExnName, Packet, Closure, Frame, Control, Eval, Ret, Apply, Raise, Eq, End, Uncaught, Normal, truth, look, cut}
use Rattle.sml_def.specs.Builtin.{raising}
use Rattle.sml_def.specs.Match.{con_value, fits, first_rule}
use Rattle.sml_def.specs.Step.{by_label, env_of, env_of_match, env_of_fields, env_of_rest, eval_in, function_of, function_at, group_env, closure_of, closures, declare, eval_dec, eval_fields, eval_record, eval, by_rule, bind, resume, ret, apply_block, apply, exn_name, name_of, raised_to, raised, step}
use Rattle.sml_def.proofs.Effects.{all_append, all_get}
use Rattle.sml_def.proofs.Options.{bind_some, or_some, if_some}
use Rattle.sml_sound.proofs.Names.{rule_at}
use Rattle.lambda_ir.specs.Free.{Computed, Constant, is_comparison, operator_con}
use Rattle.lambda_ir.specs.Proper.{same_bool, is_plain}
use Rattle.sane_laws.specs.Sane.{operator_node, operator_of}
use Rattle.sane_laws.specs.Uses.{is_constant, constant_at, free_parts, exceptions_at, IsCited}
use Rattle.sane_laws.specs.Flow.{Form, AName, AFunctionPart, AnyOther, form, forms_of, is_exception_name, IsConstantNone, NoBodies, NoFields, NoRights, DatumForm, IsDatum, AreData, NameForm, IsNameOf, HoldsWell, IsOperator, TakesData, ComesForm, ComesTo, FitsForm, FitsAt, AwaitsWell, BlockWell, ControlWell}
use Rattle.sane_laws.proofs.Grow.{env_up, takes_up}
use Rattle.sane_laws.proofs.Uses.{operator_unfold, in_all, no_exception, free_of, cites_of, bodies_of, fields_of, rights_of}
use Rattle.sane_laws.proofs.Values.{label_data, cut_well, join_well, look_well, one_datum, one_name, name_datum, plain_library, fits_well, first_well}
use Rattle.sane_laws.proofs.Steps.{ActWell, Ready, forms, Goes, going_well, all_well, making_well, new_form, ret_datum, made_datum, takes_computed, fits_data, awaiting_well, going_eval}
use Rattle.sane_laws.proofs.Primitives.{builtin_well, compare_well}

same_self : (b : Bool) → same_bool b b ≡ true
same_self true = refl
same_self false = refl

plain_input : (f : Primitive) → is_constant (node.Builtin f) ≡ false → is_plain (Builtin f) ≡ true
plain_input prim.StdIn h = refl
plain_input _ h = cc

module _ {p : Bare} {t : Typing} {m : Memory} (ready : Ready p t m) where
  abbrev fs : List Form
  fs = forms ready

  -- ---- Nodes

  operator_is : (i : ℕ) (n : Node) → slice_get p.nodes i ≡ Some n → operator_of p.nodes i ≡ operator_node (operator_of p.nodes) i n
  operator_is i n e = operator_unfold p.nodes ready.bare.numbered i n e

  constant_is : (i : ℕ) (n : Node) → slice_get p.nodes i ≡ Some n → constant_at p.nodes i ≡ is_constant n
  constant_is i n e = ap (λ o. or_else o is_constant false) e

  no_constants : (i : ℕ) (n : Node) → slice_get p.nodes i ≡ Some n → AllByRecursion (IsConstantNone p t) (free_parts n)
  no_constants i n e = free_of p t ready.uses i n e

  exception_in : (i : ℕ) (n : Node) (x : ℕ) → slice_get p.nodes i ≡ Some n → has (exceptions_at n) x ≡ true → is_exception_name p t x ≡ true
  exception_in i n x e h = in_all exceptions_at p.nodes i n x e h

  self_in : (x : ℕ) → has (x ∷ []) x ≡ true
  self_in x = or_left (nat_eq x x) false (eq-eqb x x refl)

  cut_in : (xs : List ℕ) (env : Env) → HoldsWell p t fs env → HoldsWell p t fs (cut xs env)
  cut_in xs env h = cut_well p t fs xs env h

  eval_in_well : (i : ℕ) (env : Env) (k : Option Address) → HoldsWell p t fs env → IsConstantNone p t i → TakesData p t fs k → Goes ready (going m (eval_in p i env k))
  eval_in_well i env k h n hk = going_eval ready i (env_of p i env) k (cut_in _ env h) n hk

  -- ---- Declarations

  declare_well : (bs : List Binding) (body : ℕ) (env : Env) (k : Option Address) → HoldsWell p t fs env → NoRights p t bs → IsConstantNone p t body → TakesData p t fs k → Goes ready (declare p m bs body env k)
  declare_well [] body env k h r n hk = eval_in_well body env k h n hk
  declare_well (b ∷ later) body env k h r n hk =
      awaiting_well ready (RightSide b later body (env_of_rest p b later body env)) k b.right (env_of p b.right env) (cut_in _ env h, r.1, n) hk (cut_in _ env h) r.0

  -- the forms of the closures of a group
  abbrev others : List RecBinding → List Form
  others [] = []
  others (b ∷ bs) = AnyOther ∷ others bs

  get_mid : (xs : List Form) (x : Form) (ys : List Form) → slice_get (xs ++ x ∷ ys) (length xs) ≡ Some x
  get_mid [] x ys = refl
  get_mid (z ∷ xs) x ys = get_mid xs x ys

  abbrev NoneNamed : List RecBinding → Type 0
  NoneNamed bs = AllByRecursion (λ (b : RecBinding). is_exception_name p t b.name.0 ≡ false) bs

  -- the names of a group stand for closures, which are data
  group_well : (full pre : List Form) (bs : List RecBinding) (a : ℕ) → full ≡ pre ++ others bs → a ≡ length pre → NoneNamed bs → HoldsWell p t full (group_env p a bs)
  group_well full pre [] a ef ea h = tt
  group_well full pre (b ∷ bs) a ef ea h = (
    one_datum p t full b.name.0 (At a) h.0 (subst (DatumForm p t full) (sym (ap (slice_get full) ea ∙ ap (λ l. slice_get l (length pre)) ef ∙ get_mid pre AnyOther (others bs))) tt),
    group_well full (pre ++ AnyOther ∷ []) bs (suc a) (ef ∙ sym (append_assoc pre (AnyOther ∷ []) (others bs))) (omega (arith, ea, length-append pre (AnyOther ∷ []))) h.1,
  )

  named_none : (bs : List RecBinding) → ((x : ℕ) → has (map (λ b. b.name.0) bs) x ≡ true → is_exception_name p t x ≡ false) → NoneNamed bs
  named_none [] h = tt
  named_none (b ∷ bs) h = (
    h b.name.0 (or_left (nat_eq b.name.0 b.name.0) (has (map (λ b. b.name.0) bs) b.name.0) (eq-eqb b.name.0 b.name.0 refl)),
    named_none bs (λ x g. h x (or_right (nat_eq x b.name.0) (has (map (λ b. b.name.0) bs) x) g)),
  )

  abbrev FunctionWell : ℕ × List Rule → Type 0
  FunctionWell f = NoBodies p t f.1

  functions_well : (part : ℕ → Option (ℕ × List Rule)) → ((i : ℕ) → IfSome (part i) FunctionWell) → (i : ℕ) (o : Option Node) → slice_get p.nodes i ≡ o → IfSome (at_node None function_of part i o) FunctionWell
  functions_well part g i (Some (node.Fn rules)) e = bodies_of p t ready.uses rules (no_constants i (node.Fn rules) e)
  functions_well part g i (Some (node.Typed x ty)) e = g x
  functions_well part g i None e = tt
  functions_well part g i (Some _) e = tt

  function_well : (k i : ℕ) → IfSome (within None function_of k p.nodes i) FunctionWell
  function_well zero i = tt
  function_well (suc k) i = functions_well (within None function_of k p.nodes) (function_well k) i (slice_get p.nodes i) refl

  abbrev GroupWell : List Form → List RecBinding → List Block → Type 0
  GroupWell full bs blocks = (forms_of blocks ≡ others bs) × AllByRecursion (BlockWell p t full) blocks

  closure_well : (full : List Form) (all : Env) → HoldsWell p t full all → (o : Option (ℕ × List Rule)) → IfSome o FunctionWell → IfSome (closure_of p all o) (λ c. (form c ≡ AnyOther) × BlockWell p t full c)
  closure_well full all h None g = tt
  closure_well full all h (Some f) g = (refl, (cut_well p t full _ all h, g))

  closures_well : (full : List Form) (all : Env) → HoldsWell p t full all → (bs : List RecBinding) → IfSome (closures p all bs) (GroupWell full bs)
  closures_well full all h [] = (refl, tt)
  closures_well full all h (b ∷ bs) =
      bind_some (GroupWell full (b ∷ bs)) (closure_of p all (function_at p.nodes b.right)) _ (λ c ec. bind_some (GroupWell full (b ∷ bs)) (closures p all bs) _ (λ cs es.
      let one = if_some (λ c. (form c ≡ AnyOther) × BlockWell p t full c) (closure_of p all (function_at p.nodes b.right)) c ec (closure_well full all h (function_at p.nodes b.right) (function_well (length p.nodes) b.right)) in
      let rest = if_some (GroupWell full bs) (closures p all bs) cs es (closures_well full all h bs) in
      (ap (λ f. f ∷ forms_of cs) one.0 ∙ ap (λ gs. AnyOther ∷ gs) rest.0, (one.1, rest.1))))

  -- what an exception constructor stands for
  cited_name : (c : Con) (env : Env) (v : Value) (s : Poly) (context : Context) → is_exception c ≡ true → IsConPoly p t context c s → IsCited p.nodes c → HoldsWell p t fs env → con_value env c ≡ Some v → IsNameOf p t fs s.body v
  cited_name (con.Data n k takes) env v s context x q i h e = cc
  cited_name con.Ref env v s context x q i h e = cc
  cited_name (con.Exn y takes) env v s context x q i h e =
      subst (λ u. IsNameOf p t fs u v) (sym (ap (λ (s : Poly). s.body) q.1)) (look_well p t fs env y.0 v true i h e)
  cited_name (con.Library l) env v s context x q i h e =
      let same : Library l ≡ v = cc in
      subst (IsNameOf p t fs s.body) same (sym (ap (λ (s : Poly). s.body) q))

  dec_well : (d body : ℕ) (q : Node) (env : Env) (k : Option Address) → slice_get p.nodes d ≡ Some q → HoldsWell p t fs env → IsConstantNone p t body → TakesData p t fs k → Goes ready (eval_dec p m body q env k)
  dec_well d body (node.Val tyvars bs) env k ed h n hk =
      declare_well bs body env k h (rights_of p t ready.uses bs (no_constants d (node.Val tyvars bs) ed)) n hk
  dec_well d body (node.ValRec tyvars bs) env k ed h n hk =
      let full = fs ++ others bs in
      let group = group_env p (length m.store) bs in
      let none = named_none bs (λ x g. no_exception p.nodes ready.bare.once d (node.ValRec tyvars bs) x ed refl g) in
      let all : HoldsWell p t full (group ++ env) = join_well p t full group env (group_well full fs bs (length m.store) refl (sym (length-map m.store form)) none) (env_up p t fs (others bs) env h) in
      bind_some (ActWell p t m.store) (closures p (group ++ env) bs) _ (λ blocks eb.
      let made = if_some (GroupWell full bs) (closures p (group ++ env) bs) blocks eb (closures_well full (group ++ env) all bs) in
      let same : fs ++ others bs ≡ fs ++ forms_of blocks = ap (λ gs. fs ++ gs) (sym made.0) in
      all_well ready blocks (eval_in p body (group ++ env) k) (subst (λ gs. AllByRecursion (BlockWell p t gs) blocks) same made.1)
      (subst (λ gs. ControlWell p t gs (eval_in p body (group ++ env) k)) same (cut_well p t full _ (group ++ env) all, fits_data ready full body k (takes_up p t fs (others bs) k hk) n)))
  dec_well d body (node.Type bs) env k ed h n hk = eval_in_well body env k h n hk
  dec_well d body (node.Datatype bs) env k ed h n hk = eval_in_well body env k h n hk
  dec_well d body (node.Exception x ty) env k ed h n hk =
      let more = AName x.0 ∷ [] in
      let full = fs ++ more in
      let new = new_form ready (ExnName x.0) in
      let here = one_name p t full x.0 (At (length m.store)) (exception_in d (node.Exception x ty) x.0 ed (self_in x.0)) (subst (NameForm p t full (t.schemes x.0).body) (sym new) refl) in
      making_well ready (ExnName x.0) (λ a. eval_in p body ((x.0, At a) ∷ env) k) tt (cut_well p t full _ ((x.0, At (length m.store)) ∷ env) (here, env_up p t fs more env h), fits_data ready full body k (takes_up p t fs more k hk) n)
  dec_well d body (node.SameException x c) env k ed h n hk =
      let r = rule_at p t ready.typing ready.bare.numbered ready.bare.sorts d (node.SameException x c) ed in
      bind_some (ActWell p t m.store) (con_value env c) _ (λ v ev.
      eval_in_well body ((x.0, v) ∷ env) k (one_name p t fs x.0 v (exception_in d (node.SameException x c) x.0 ed (self_in x.0)) (cited_name c env v (t.schemes x.0) (t.contexts d) r.0 r.1 (cites_of p t ready.uses d (node.SameException x c) ed) h ev), h) n hk)
  dec_well d body _ env k ed h n hk = tt

  -- ---- Constructors and primitives

  con_operator : (c : Con) (env : Env) (v : Value) → IsCited p.nodes c → HoldsWell p t fs env → con_value env c ≡ Some v → IsOperator p t fs (operator_con c) v
  con_operator (con.Data n k true) env v i h e = let same : Maker k ≡ v = cc in subst (IsOperator p t fs (Constant false)) same refl
  con_operator (con.Data n k false) env v i h e = let same : Tag k ≡ v = cc in subst (IsOperator p t fs (Constant false)) same tt
  con_operator con.Ref env v i h e = let same : RefMaker ≡ v = cc in subst (IsOperator p t fs (Constant false)) same refl
  con_operator (con.Exn x takes) env v i h e = ((t.schemes x.0).body, look_well p t fs env x.0 v true i h e)
  con_operator (con.Library l) env v i h e = let same : Library l ≡ v = cc in subst (IsOperator p t fs (Constant false)) same refl

  con_datum : (i : ℕ) (c : Con) (env : Env) (v : Value) → slice_get p.nodes i ≡ Some (node.Constructor c) → takes_argument c ≡ false → HoldsWell p t fs env → con_value env c ≡ Some v → IsDatum p t fs v
  con_datum i (con.Data n k true) env v ei a h e = cc
  con_datum i (con.Data n k false) env v ei a h e = let same : Tag k ≡ v = cc in subst (IsDatum p t fs) same tt
  con_datum i con.Ref env v ei a h e = cc
  con_datum i (con.Exn x true) env v ei a h e = cc
  con_datum i (con.Exn x false) env v ei a h e =
      let r = rule_at p t ready.typing ready.bare.numbered ready.bare.sorts i (node.Constructor (con.Exn x false)) ei in
      name_datum p t fs (t.schemes x.0).body v (sym (ap (λ (s : Poly). s.body) r.1.1) ∙ r.1.2) (look_well p t fs env x.0 v true (cites_of p t ready.uses i (node.Constructor (con.Exn x false)) ei) h e)
  con_datum i (con.Library l) env v ei a h e = let same : Library l ≡ v = cc in subst (IsDatum p t fs) same (plain_library l a)

  -- what comes back is what stands there, or a datum
  constant_form : (i : ℕ) (v : Value) (o : Option Form) → FitsForm p t fs o i → IsOperator p t fs (operator_of p.nodes i) v → (IsConstantNone p t i → IsDatum p t fs v) → ComesForm p t fs o v
  constant_form i v (Some (AFunctionPart f)) (inl e) ho hd = subst (λ o. IsOperator p t fs o v) (sym e) ho
  constant_form i v (Some (AFunctionPart f)) (inr e) ho hd = subst (λ o. IsOperator p t fs o v) (sym e.0) (hd e.1)
  constant_form i v (Some (AName x)) h ho hd = hd h
  constant_form i v (Some AnyOther) h ho hd = hd h
  constant_form i v None h ho hd = absurd h

  constant_comes : (i : ℕ) (v : Value) (k : Option Address) → FitsAt p t fs k i → IsOperator p t fs (operator_of p.nodes i) v → (IsConstantNone p t i → IsDatum p t fs v) → ComesTo p t fs k v
  constant_comes i v None h ho hd = tt
  constant_comes i v (Some a) h ho hd = constant_form i v (slice_get fs a) h ho hd

  -- ---- Records

  fields_well : (fields : List Field) (before : List Value) (later : List Field) (env : Env) (k : Option Address) → AreData p t fs before → HoldsWell p t fs env → NoFields p t later → TakesData p t fs k → Goes ready (eval_fields p m fields before later env k)
  fields_well fields before [] env k hb h n hk = made_datum ready (Tuple (by_label fields before)) k refl (label_data p t fs fields before hb) hk
  fields_well fields before (f ∷ later) env k hb h n hk =
      awaiting_well ready (FieldPart f.node fields before later (env_of_fields p later env)) k f.node (env_of p f.node env) (hb, cut_in _ env h, n.1) hk (cut_in _ env h) n.0

  record_well : (fields : List Field) (env : Env) (k : Option Address) → HoldsWell p t fs env → NoFields p t fields → TakesData p t fs k → Goes ready (eval_record p m fields env k)
  record_well [] env k h n hk = ret_datum ready Nothing k tt hk
  record_well (f ∷ fields) env k h n hk = fields_well (f ∷ fields) [] (f ∷ fields) env k tt h n hk

  -- ---- Eval

  -- under types it is as without them
  under_form : (i e ty : ℕ) (o : Option Form) → slice_get p.nodes i ≡ Some (node.Typed e ty) → FitsForm p t fs o i → FitsForm p t fs o e
  under_form i e ty (Some (AFunctionPart f)) ei (inl q) = inl (q ∙ operator_is i (node.Typed e ty) ei)
  under_form i e ty (Some (AFunctionPart f)) ei (inr q) = inr (q.0, (no_constants i (node.Typed e ty) ei).0)
  under_form i e ty (Some (AName x)) ei q = (no_constants i (node.Typed e ty) ei).0
  under_form i e ty (Some AnyOther) ei q = (no_constants i (node.Typed e ty) ei).0
  under_form i e ty None ei q = absurd q

  under_types : (i e ty : ℕ) (k : Option Address) → slice_get p.nodes i ≡ Some (node.Typed e ty) → FitsAt p t fs k i → FitsAt p t fs k e
  under_types i e ty None ei h = (no_constants i (node.Typed e ty) ei).0
  under_types i e ty (Some a) ei h = under_form i e ty (slice_get fs a) ei h

  eval_well : (i : ℕ) (q : Node) (env : Env) (k : Option Address) → slice_get p.nodes i ≡ Some q → HoldsWell p t fs env → FitsAt p t fs k i → Goes ready (eval p m i q env k)
  eval_well i q env k ei h hf = go q ei (λ e. takes_computed ready i k e hf)
    where
      go : (q : Node) → slice_get p.nodes i ≡ Some q → (operator_of p.nodes i ≡ Computed → TakesData p t fs k) → Goes ready (eval p m i q env k)
      go (node.Int z) ei tk = ret_datum ready (Number z) k tt (tk (operator_is i (node.Int z) ei))
      go (node.Char c) ei tk = ret_datum ready (Letter c) k tt (tk (operator_is i (node.Char c) ei))
      go (node.Text x) ei tk = ret_datum ready (Text x) k tt (tk (operator_is i (node.Text x) ei))
      go (node.Var x) ei tk =
          bind_some (ActWell p t m.store) (look env x.0) _ (λ v ev. ret_datum ready v k (look_well p t fs env x.0 v false (cites_of p t ready.uses i (node.Var x) ei) h ev) (tk (operator_is i (node.Var x) ei)))
      go (node.Constructor c) ei tk =
          bind_some (ActWell p t m.store) (con_value env c) _ (λ v ev.
          going_well ready (Ret v k) (constant_comes i v k hf (subst (λ o. IsOperator p t fs o v) (sym (operator_is i (node.Constructor c) ei)) (con_operator c env v (cites_of p t ready.uses i (node.Constructor c) ei) h ev)) (λ n. con_datum i c env v ei (sym (constant_is i (node.Constructor c) ei) ∙ n) h ev)))
      go (node.Builtin f) ei tk =
          going_well ready (Ret (Builtin f) k) (constant_comes i (Builtin f) k hf (subst (λ o. IsOperator p t fs o (Builtin f)) (sym (operator_is i (node.Builtin f) ei)) (same_self (is_comparison f))) (λ n. plain_input f (sym (constant_is i (node.Builtin f) ei) ∙ n)))
      go (node.Record fields) ei tk =
          record_well fields env k h (fields_of p t ready.uses fields (no_constants i (node.Record fields) ei)) (tk (operator_is i (node.Record fields) ei))
      go (node.App f a) ei tk =
          awaiting_well ready (FunctionPart f a (env_of p a env)) k f (env_of p f env) (cut_in _ env h, (no_constants i (node.App f a) ei).0) (tk (operator_is i (node.App f a) ei)) (cut_in _ env h) (inl refl)
      go (node.Case e rules) ei tk =
          let n = no_constants i (node.Case e rules) ei in
          awaiting_well ready (Subject e rules (env_of_match p rules env)) k e (env_of p e env) (cut_in _ env h, bodies_of p t ready.uses rules n.1) (tk (operator_is i (node.Case e rules) ei)) (cut_in _ env h) n.0
      go (node.Fn rules) ei tk =
          made_datum ready (Closure i rules env) k refl (h, bodies_of p t ready.uses rules (no_constants i (node.Fn rules) ei)) (tk (operator_is i (node.Fn rules) ei))
      go (node.Raise e) ei tk =
          awaiting_well ready (RaisePart e) k e (env_of p e env) tt (tk (operator_is i (node.Raise e) ei)) (cut_in _ env h) (no_constants i (node.Raise e) ei).0
      go (node.Handle e rules) ei tk =
          let n = no_constants i (node.Handle e rules) ei in
          awaiting_well ready (Guarded i rules (env_of_match p rules env)) k e (env_of p e env) (cut_in _ env h, bodies_of p t ready.uses rules n.1) (tk (operator_is i (node.Handle e rules) ei)) (cut_in _ env h) n.0
      go (node.Typed e ty) ei tk = going_well ready (Eval e env k) (h, under_types i e ty k ei hf)
      go (node.Let d body) ei tk =
          bind_some (ActWell p t m.store) (slice_get p.nodes d) _ (λ dec ed. dec_well d body dec env k ed h (no_constants i (node.Let d body) ei).1.0 (tk (operator_is i (node.Let d body) ei)))
      go node.Finish ei tk = ret_datum ready Nothing k tt (tk (operator_is i node.Finish ei))
      go _ ei tk = tt

  -- ---- Ret

  rule_well : (rules : List Rule) (env : Env) (v : Value) (k : Option Address) (other : Control) → HoldsWell p t fs env → NoBodies p t rules → IsDatum p t fs v → TakesData p t fs k → ControlWell p t fs other → Goes ready (by_rule p m rules env v k other)
  rule_well rules env v k other h n hv hk ho =
      or_some (λ o. Goes ready o) (first_rule p env m.store rules v) _ _ (λ r er.
      let w = if_some (λ r. HoldsWell p t fs r.0 × IsConstantNone p t r.1) (first_rule p env m.store rules v) r er (first_well p t m.store ready.store ready.bare env rules n v hv) in
      eval_in_well r.1 (r.0 ++ env) k (join_well p t fs r.0 env w.0 h) w.1 hk) (going_well ready other ho)

  bind_well : (b : Binding) (later : List Binding) (body : ℕ) (env : Env) (v : Value) (k : Option Address) → HoldsWell p t fs env → NoRights p t later → IsConstantNone p t body → IsDatum p t fs v → TakesData p t fs k → Goes ready (bind p m b later body env v k)
  bind_well b later body env v k h r n hv hk =
      or_some (λ o. Goes ready o) (fits p env m.store b.pat v) _ _ (λ bound eb.
      declare_well later body (bound ++ env) k (join_well p t fs bound env (if_some (HoldsWell p t fs) (fits p env m.store b.pat v) bound eb (fits_well p t m.store ready.store ready.bare env b.pat v hv)) h) r n hk) (going_well ready (raising exn.BindExn k) refl)

  resume_well : (w : Awaits) (v : Value) (k : Option Address) → AwaitsWell p t fs w → TakesData p t fs k → ComesForm p t fs (Some (form (Frame w k))) v → Goes ready (resume p m w v k)
  resume_well (FunctionPart f a env) v k h hk hv = awaiting_well ready (ArgumentPart a v) k a env tt hk h.0 h.1
  resume_well (ArgumentPart a f) v k h hk hv = going_well ready (Apply f v k) (hv, hk)
  resume_well (FieldPart e fields before later env) v k h hk hv =
      fields_well fields (before ++ v ∷ []) later env k (all_append (IsDatum p t fs) before (v ∷ []) h.0 (hv, tt)) h.1 h.2 hk
  resume_well (Subject e rules env) v k h hk hv = rule_well rules env v k (raising exn.MatchExn k) h.0 h.1 hv hk refl
  resume_well (RightSide b later body env) v k h hk hv = bind_well b later body env v k h.0 h.1 h.2 hv hk
  resume_well (RaisePart e) v k h hk hv = going_well ready (Raise v k) hv
  resume_well (Guarded i rules env) v k h hk hv = ret_datum ready v k hv hk

  ret_well : (o : Option Block) (v : Value) → IfSome o (BlockWell p t fs) → ComesForm p t fs (option_map form o) v → Goes ready (ret p m o v)
  ret_well (Some (Frame w next)) v h hv = resume_well w v next h.0 h.1 hv
  ret_well None v h hv = tt
  ret_well (Some _) v h hv = tt

  -- ---- Apply and Raise

  apply_block_well : (o : Option Block) (f v : Value) (k : Option Address) → IfSome o (BlockWell p t fs) → IsDatum p t fs v → TakesData p t fs k → Goes ready (apply_block p m o f v k)
  apply_block_well (Some (Closure i rules env)) f v k h hv hk = rule_well rules env v k (raising exn.MatchExn k) h.0 h.1 hv hk refl
  apply_block_well (Some (ExnName x)) f v k h hv hk = made_datum ready (Packet f v) k refl hv hk
  apply_block_well None f v k h hv hk = tt
  apply_block_well (Some _) f v k h hv hk = tt

  apply_well : (f v : Value) (k : Option Address) → IsDatum p t fs v → TakesData p t fs k → Goes ready (apply p m f v k)
  apply_well (At a) v k hv hk = apply_block_well (slice_get m.store a) (At a) v k (all_get (BlockWell p t fs) m.store a ready.store) hv hk
  apply_well (Library e) v k hv hk = made_datum ready (Packet (Library e) v) k refl hv hk
  apply_well (Maker n) v k hv hk = made_datum ready (Applied n v) k refl hv hk
  apply_well RefMaker v k hv hk = made_datum ready (Cell v) k refl hv hk
  apply_well (Builtin f) v k hv hk = builtin_well ready k f v hv hk
  apply_well _ v k hv hk = tt

  raised_to_well : (w : Awaits) (next : Option Address) (x : Value) → AwaitsWell p t fs w → TakesData p t fs next → IsDatum p t fs x → Goes ready (raised_to p m w next x)
  raised_to_well (Guarded i rules env) next x h hk hx = rule_well rules env x next (Raise x next) h.0 h.1 hx hk hx
  raised_to_well (FunctionPart f a env) next x h hk hx = going_well ready (Raise x next) hx
  raised_to_well (ArgumentPart a f) next x h hk hx = going_well ready (Raise x next) hx
  raised_to_well (FieldPart e fields before later env) next x h hk hx = going_well ready (Raise x next) hx
  raised_to_well (Subject e rules env) next x h hk hx = going_well ready (Raise x next) hx
  raised_to_well (RightSide b later body env) next x h hk hx = going_well ready (Raise x next) hx
  raised_to_well (RaisePart e) next x h hk hx = going_well ready (Raise x next) hx

  raised_well : (o : Option Block) (x : Value) → IfSome o (BlockWell p t fs) → IsDatum p t fs x → Goes ready (raised p m o x)
  raised_well (Some (Frame w next)) x h hx = raised_to_well w next x h.0 h.1 hx
  raised_well None x h hx = tt
  raised_well (Some _) x h hx = tt

  -- ---- The step

  pub step_well : (c : Control) → ControlWell p t fs c → Goes ready (step p m c)
  step_well (Eval i env k) h = bind_some (ActWell p t m.store) (slice_get p.nodes i) _ (λ q ei. eval_well i q env k ei h.0 h.1)
  step_well (Ret v None) h = going_well ready (End Normal) tt
  step_well (Ret v (Some a)) h =
      ret_well (slice_get m.store a) v (all_get (BlockWell p t fs) m.store a ready.store) (subst (λ o. ComesForm p t fs o v) (slice_get-map form m.store a) h)
  step_well (Apply f v k) h = apply_well f v k h.0 h.1
  step_well (Raise x None) h =
      bind_some (ActWell p t m.store) (exn_name p m.store (name_of p m.store x)) _ (λ name e. going_well ready (End (Uncaught name)) tt)
  step_well (Raise x (Some a)) h = raised_well (slice_get m.store a) x (all_get (BlockWell p t fs) m.store a ready.store) h
  step_well (Eq None q k) h = ret_datum ready (truth q) k tt h
  step_well (Eq (Some a) q k) h = compare_well ready (slice_get m.store a) q k h
  step_well (End e) h = tt
