-- The state of `Lambda` that stands for a typed state is proper, where that is sane.
use Rattle.std.proofs.Common.{◌≡◌, ℕ, Bool, true, false, List, [], ◌∷◌, Option, Some, None, refl, ap, ◌∙◌, map}
use Rattle.std.proofs.lemmas.Bool.{eq-eqb}
use Rattle.std.proofs.lemmas.List.{length-map}
use Rattle.std.proofs.lemmas.Option.{slice_get-map}
use Rattle.std.specs.Prelude.{slice_get, cond, ◌&&◌, length, zero, suc, nat_eq}
use Rattle.std.specs.List.{list_all}
use Rattle.std.specs.Option.{option_map, is_some}
use Rattle.smlc_base.specs.declared.primitive.Primitive.{Primitive}
use Rattle.sml_tree.specs.declared.bare.Bare.{Bare}
use Rattle.sml_tree.specs.declared.bare.Node.{Node}
use Rattle.sml_tree.specs.declared.bare.Node.TheVariants as node
use Rattle.sml_tree.specs.Sets.{has}
use Rattle.sml_tree.specs.BareParts.{at_node, within}
use Rattle.sml_tree.specs.Free.{free}
use Rattle.sml_tree.proofs.Members.{or_left, or_right}
use Rattle.sml_types.specs.declared.tables.TypeName.{TypeName}
use Rattle.prim_meaning.specs.Strict.{is_seen}
use Rattle.prim_meaning.proofs.StrictSame.{rule_met_same, cases_met_same}
use Rattle.sml_def.specs.Builtin.{see, which}
use Rattle.sml_def.specs.Cut.{names, IsCutControl}
use Rattle.sml_def.specs.Match.{block_of, fields_of}
use Rattle.sml_def.specs.Maybe.{or_else}
use Rattle.sml_def.specs.Memory.{Memory}
use Rattle.sml_def.specs.State.{Value, Number, Letter, Nothing, Tag, Constant as TextConstant, Builtin, Maker, RefMaker, Library, At, Env, Awaits, FunctionPart, ArgumentPart, FieldPart, Subject, RightSide, RaisePart, Guarded, Block, ExnName, Closure, Frame, Pending, Control, Eval, Ret, Apply, Raise, Eq, End, look}
use Rattle.sml_def.proofs.Cut.{look_has}
use Rattle.lambda_ir.specs.declared.term.Case.{Case}
use Rattle.lambda_ir.specs.Free as terms
use Rattle.lambda_ir.specs.Free.{Operator, Computed, Constant, Exception, is_comparison, operator_at}
use Rattle.lambda_ir.specs.Proper.{item_of, is_name, name_item, is_plain, is_operator, may_come, tried, comes, is_entered, is_caught, may_turn, is_proper}
use Rattle.lambda_ir.specs.Proper as proper
use Rattle.lambda_ir.specs.Program.{Lambda}
use Rattle.lambda_ir.specs.State.{data_of}
use Rattle.lambda_ir.specs.Step.{Store}
use Rattle.lambda_ir.specs.Tests.{trials, tried_of, match_met}
use Rattle.match_laws.specs.Compile.{tests, names as pattern_names, cases_of}
use Rattle.match_laws.specs.Suit.{name_block, is_exn_name}
use Rattle.lambda_laws.specs.Make.{term_of, terms_of, lambda_of}
use Rattle.lambda_laws.specs.Lower.{lower, lower_waits, lower_memory}
use Rattle.lambda_laws.specs.Ready.{IsExpression}
use Rattle.sane_laws.specs.Sane.{operator_node, operator_of, is_function_part, SaneWaits, SaneReturn, SaneControl}
use Rattle.lambda_laws.proofs.TypedEqual.{both_seen, two_seen, AppliesSeen, TurnSeen, ControlSeen}
use Rattle.lambda_laws.proofs.Insensitive.{seen_same, fields_same}
use Rattle.lambda_laws.proofs.Steps.{HasSameFree}
use Rattle.lambda_laws.proofs.TypedMet.{WaitsMet, ReturnMet, EnterMet, RaiseMet, ControlMet}

and_both : (a b : Bool) → a ≡ true → b ≡ true → (a && b) ≡ true
and_both true b e f = f
and_both false b e f = cc

-- each variable of a list that an environment names has a value there
all_look : (env : Env) (xs : List ℕ) → ((x : ℕ) → has xs x ≡ true → has (names env) x ≡ true) → list_all (λ x. is_some (look env x)) xs ≡ true
all_look env [] h = refl
all_look env (x ∷ xs) h =
    and_both (is_some (look env x)) (list_all (λ x. is_some (look env x)) xs)
    (let v = look_has env x (h x (or_left (nat_eq x x) (has xs x) (eq-eqb x x refl))) in ap is_some v.1)
    (all_look env xs (λ z m. h z (or_right (nat_eq z x) (has xs z) m)))

module _ (ts : List TypeName) (p : Bare) where
  abbrev l : Lambda
  l = lambda_of ts p

  -- ---- Function parts

  operators_in : (k i : ℕ) → terms.within_terms Computed terms.operator_term k (terms_of ts p) i ≡ within Computed operator_node k p.nodes i
  operators_in zero i = refl
  operators_in (suc k) i =
      ap (terms.at_term Computed terms.operator_term (terms.within_terms Computed terms.operator_term k (terms_of ts p)) i) (slice_get-map (term_of ts p.nodes) p.nodes i)
      ∙ go (slice_get p.nodes i) (operators_in k)
    where
      go : (o : Option Node) → ((c : ℕ) → terms.within_terms Computed terms.operator_term k (terms_of ts p) c ≡ within Computed operator_node k p.nodes c) → terms.at_term Computed terms.operator_term (terms.within_terms Computed terms.operator_term k (terms_of ts p)) i (option_map (term_of ts p.nodes) o) ≡ at_node Computed operator_node (within Computed operator_node k p.nodes) i o
      go None h = refl
      go (Some (node.Builtin f)) h = refl
      go (Some (node.Constructor c)) h = refl
      go (Some (node.Typed e ty)) h = h e
      go (Some _) h = refl

  operator_same : (i : ℕ) → operator_at (terms_of ts p) i ≡ operator_of p.nodes i
  operator_same i = ap (λ n. terms.within_terms Computed terms.operator_term n (terms_of ts p) i) (length-map p.nodes (term_of ts p.nodes)) ∙ operators_in (length p.nodes) i

  -- what has no block is an operator as a value
  none_low : (o : Operator) (v : Value) → is_operator o v None ≡ is_function_part o v None
  none_low Computed v = refl
  none_low (Constant c) (Builtin f) = refl
  none_low (Constant c) (Maker n) = refl
  none_low (Constant c) RefMaker = refl
  none_low (Constant c) (Library e) = refl
  none_low (Constant c) _ = refl
  none_low Exception (Library e) = refl
  none_low Exception _ = refl

  at_low : (o : Operator) (a : ℕ) (b : Option Block) → is_operator o (At a) (option_map (lower ts p.nodes) b) ≡ is_function_part o (At a) b
  at_low Computed a None = refl
  at_low Computed a (Some (Closure i rules env)) = refl
  at_low Computed a (Some (Frame w next)) = refl
  at_low Computed a (Some _) = refl
  at_low (Constant c) a b = refl
  at_low Exception a None = refl
  at_low Exception a (Some (ExnName x)) = refl
  at_low Exception a (Some (Closure i rules env)) = refl
  at_low Exception a (Some (Frame w next)) = refl
  at_low Exception a (Some _) = refl

  module _ (m : Memory) where
    abbrev low : Store
    low = lower_memory ts p.nodes m

    operator_low : (o : Operator) (v : Value) → is_operator o v (item_of low v) ≡ is_function_part o v (block_of m.store v)
    operator_low o (At a) = ap (is_operator o (At a)) (slice_get-map (lower ts p.nodes) m.store a) ∙ at_low o a (slice_get m.store a)
    operator_low o (Number z) = none_low o (Number z)
    operator_low o (Letter z) = none_low o (Letter z)
    operator_low o Nothing = none_low o Nothing
    operator_low o (Tag z) = none_low o (Tag z)
    operator_low o (TextConstant z) = none_low o (TextConstant z)
    operator_low o (Builtin z) = none_low o (Builtin z)
    operator_low o (Maker z) = none_low o (Maker z)
    operator_low o RefMaker = none_low o RefMaker
    operator_low o (Library z) = none_low o (Library z)

    -- ---- Names and tests

    name_in : (o : Option Block) → name_item (option_map (lower ts p.nodes) o) ≡ name_block o
    name_in None = refl
    name_in (Some (ExnName x)) = refl
    name_in (Some (Closure i rules env)) = refl
    name_in (Some (Frame w next)) = refl
    name_in (Some _) = refl

    name_low : (v : Value) → is_name low v ≡ is_exn_name m.store v
    name_low (At a) = ap name_item (slice_get-map (lower ts p.nodes) m.store a) ∙ name_in (slice_get m.store a)
    name_low (Library e) = refl
    name_low _ = refl

    abbrev few : List Block
    few = data_of low.items

    cases_low : (env : Env) (cases : List Case) (v : Value) → match_met p.texts env (see p.texts few) (is_name low) cases v ≡ match_met p.texts env (see p.texts m.store) (is_exn_name m.store) cases v
    cases_low env cases v =
        cases_met_same (see p.texts m.store) (see p.texts few) (seen_same ts p m) which (is_exn_name m.store) (is_name low) name_low (map (tried_of p.texts env) cases) v

    -- ---- What is compared

    seen_low : (v w : Value) → proper.both_seen l low v w ≡ both_seen p m.store v w
    seen_low v w = ap (λ s. is_seen s && is_seen (see p.texts few w)) (seen_same ts p m v) ∙ ap (λ s. is_seen (see p.texts m.store v) && is_seen s) (seen_same ts p m w)

    two_low : (vs : List Value) → proper.two_seen l low vs ≡ two_seen p m.store vs
    two_low [] = refl
    two_low (v ∷ []) = refl
    two_low (v ∷ w ∷ []) = seen_low v w
    two_low (v ∷ w ∷ u ∷ vs) = refl

    fields_low : (o : Option (List Value)) → or_else o (proper.two_seen l low) false ≡ or_else o (two_seen p m.store) false
    fields_low None = refl
    fields_low (Some vs) = two_low vs

    -- ---- States

    comes_low : (w : Awaits) (v : Value) → SaneWaits p m.store w v → WaitsMet ts p m.store w v → (may_come l low (lower_waits ts p.nodes w) v && tried l low (lower_waits ts p.nodes w) v) ≡ true
    comes_low (FunctionPart f a env) v h g =
        and_both _ true (ap (λ o. is_operator o v (item_of low v)) (operator_same f) ∙ operator_low (operator_of p.nodes f) v ∙ h) refl
    comes_low (ArgumentPart a f) v h g = and_both (is_plain v) true h refl
    comes_low (FieldPart e fields before later env) v h g = and_both (is_plain v) true h refl
    comes_low (Subject e rules env) v h g = and_both (is_plain v) _ h.0 (cases_low env (cases_of ts p.nodes rules) v ∙ g)
    comes_low (RightSide b later body env) v h g =
        and_both (is_plain v) _ h.0 (rule_met_same (see p.texts m.store) (see p.texts few) (seen_same ts p m) which (is_exn_name m.store) (is_name low) name_low (trials p.texts env (tests ts p.nodes b.pat [])) (pattern_names p.nodes b.pat []) v true ∙ g)
    comes_low (RaisePart e) v h g = and_both (is_plain v) true h refl
    comes_low (Guarded i rules env) v h g = and_both (is_plain v) true h refl

    return_low : (o : Option Block) (v : Value) → SaneReturn p m.store o v → ReturnMet ts p m.store o v → comes l low (option_map (lower ts p.nodes) o) v ≡ true
    return_low None v h g = refl
    return_low (Some (Frame w next)) v h g = comes_low w v h g
    return_low (Some (Closure i rules env)) v h g = refl
    return_low (Some _) v h g = refl

    enter_low : (o : Option Block) (v : Value) → EnterMet ts p m.store o v → is_entered l low (option_map (lower ts p.nodes) o) v ≡ true
    enter_low None v g = refl
    enter_low (Some (Closure i rules env)) v g = cases_low env (cases_of ts p.nodes rules) v ∙ g
    enter_low (Some (Frame w next)) v g = refl
    enter_low (Some _) v g = refl

    raise_low : (o : Option Block) (x : Value) → RaiseMet ts p m.store o x → is_caught l low (option_map (lower ts p.nodes) o) x ≡ true
    raise_low None x g = refl
    raise_low (Some (Frame (Guarded i rules env) next)) x g = cases_low env (cases_of ts p.nodes rules) x ∙ g
    raise_low (Some (Frame (FunctionPart f a env) next)) x g = refl
    raise_low (Some (Frame (ArgumentPart a f) next)) x g = refl
    raise_low (Some (Frame (FieldPart e fields before later env) next)) x g = refl
    raise_low (Some (Frame (Subject e rules env) next)) x g = refl
    raise_low (Some (Frame (RightSide b later body env) next)) x g = refl
    raise_low (Some (Frame (RaisePart e) next)) x g = refl
    raise_low (Some (Closure i rules env)) x g = refl
    raise_low (Some _) x g = refl

    turn_low : (o : Option Block) → TurnSeen p m.store o → may_turn l low (option_map (lower ts p.nodes) o) ≡ true
    turn_low None h = refl
    turn_low (Some (Pending v w next)) h = seen_low v w ∙ h
    turn_low (Some (Closure i rules env)) h = refl
    turn_low (Some (Frame w next)) h = refl
    turn_low (Some _) h = refl

    apply_low : (f : Primitive) (v : Value) → AppliesSeen p m.store f v → proper.may_apply l low f v ≡ true
    apply_low f v h =
        ap (λ o. cond (is_comparison f) (or_else o (proper.two_seen l low) false) true) (fields_same ts p m v) ∙ ap (λ b. cond (is_comparison f) b true) (fields_low (fields_of m.store v)) ∙ h

    -- what is evaluated is an expression
    abbrev pub EvalsExpression : Control → Type 0
    EvalsExpression (Eval i env k) = IsExpression p i
    EvalsExpression _ = Unit {0}

    pub proper_low : HasSameFree ts p → (c : Control) → EvalsExpression c → IsCutControl p c → SaneControl p m.store c → ControlMet ts p m.store c → ControlSeen p m.store c → is_proper l low c ≡ true
    proper_low same (Eval i env k) e cut h g s =
        ap (list_all (λ x. is_some (look env x))) (same.node i e) ∙ all_look env (free p.nodes i) (λ x q. ap (λ ns. has ns x) cut ∙ q)
    proper_low same (Ret v None) e cut h g s = refl
    proper_low same (Ret v (Some a)) e cut h g s = ap (λ o. comes l low o v) (slice_get-map (lower ts p.nodes) m.store a) ∙ return_low (slice_get m.store a) v h g
    proper_low same (Apply (At a) v k) e cut h g s = ap (λ o. is_entered l low o v) (slice_get-map (lower ts p.nodes) m.store a) ∙ enter_low (slice_get m.store a) v g
    proper_low same (Apply (Builtin f) v k) e cut h g s = apply_low f v s
    proper_low same (Apply _ v k) e cut h g s = refl
    proper_low same (Raise x None) e cut h g s = refl
    proper_low same (Raise x (Some a)) e cut h g s = ap (λ o. is_caught l low o x) (slice_get-map (lower ts p.nodes) m.store a) ∙ raise_low (slice_get m.store a) x g
    proper_low same (Eq None t k) e cut h g s = refl
    proper_low same (Eq (Some a) t k) e cut h g s = ap (may_turn l low) (slice_get-map (lower ts p.nodes) m.store a) ∙ turn_low (slice_get m.store a) s
    proper_low same (End x) e cut h g s = refl
