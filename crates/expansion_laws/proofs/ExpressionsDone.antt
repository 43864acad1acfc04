-- Expressions, matches and declarations expand to what they are.
use Rattle.std.proofs.Common.{◌≡◌, ℕ, suc, ◌<◌, ◌≤◌, ◌+◌, true, false, List, [], ◌∷◌, ◌++◌, map, length, refl, sym, ap, subst, ◌∙◌, Option, Some, None, arith, inl, inr, ◌⊎◌, if◌then◌else◌}
use Rattle.std.specs.Prelude.{Bool, codes}
use Rattle.std.specs.List.{AllByRecursion}
use Rattle.std.proofs.lemmas.List.{length-append, length-map, map-append, append-nil}
use Rattle.smlc_base.specs.declared.place.Place.{Place}
use Rattle.smlc_base.specs.declared.primitive.Primitive.{Primitive}
use Rattle.smlc_base.specs.declared.refusal.Refusal.TheVariants as refusal
use Rattle.sml_tree.specs.declared.bare.Con.{Con}
use Rattle.sml_tree.specs.declared.bare.Lab.{Lab}
use Rattle.sml_tree.specs.declared.bare.Node.{Node}
use Rattle.sml_tree.specs.declared.bare.Node.TheVariants as bare
use Rattle.sml_tree.specs.declared.tree_node.TreeNode.TheVariants as node
use Rattle.sml_prelude.specs.Values.{is_function, takes_argument}
use Rattle.sml_expansion.specs.declared.made.Made.{Made}
use Rattle.sml_expansion.specs.declared.meaning.Meaning.{Meaning}
use Rattle.sml_expansion.specs.declared.meaning.Meaning.TheVariants.{Variable, Constructor, Builtin}
use Rattle.sml_expansion.specs.declared.scope.Ident.{Ident}
use Rattle.sml_expansion.specs.declared.scope.Bound.{Bound}
use Rattle.sml_expansion.specs.Forests.{Forest, none, tree, grown, ◌&◌}
use Rattle.sml_expansion.specs.Terms.{Term, one, two, three, place_at}
use Rattle.sml_expansion.specs.Labels.{doubles, lab_eq}
use Rattle.sml_expansion.specs.Makings.{Makes, breaks, gives, new_name, new_names, ◌>>=◌, ◌>>◌}
use Rattle.sml_expansion.specs.Scopes.{Scope, Env, ident, meaning_of, within}
use Rattle.sml_expansion.specs.Types.{labels, labels_once, type_of}
use Rattle.sml_expansion.specs.TypeVariables.{tyvars, unguarded, opens, in_scope, numbers_of}
use Rattle.sml_expansion.specs.Patterns.{Pattern, patterns, vars_once, env_of}
use Rattle.sml_expansion.specs.Clauses.{arguments, binds_functions, head, first_clause, arguments_in}
use Rattle.sml_expansion.specs.Clauses as clauses
use Rattle.sml_expansion.specs.Bindings.{rec_names, annotations, is_typed_fn, fn_on_the_right}
use Rattle.sml_expansion.specs.Bare as form
use Rattle.sml_expansion.specs.Expressions.{Position, function_part, elsewhere, eta, named, identifier, is_fn, rules_in, application, both, rule, rec_bindings, plain_dec, rec_dec, expressions, rules, plain_bindings, rec_rights, functions, decs}
use Rattle.expansion_laws.proofs.Contexts.{Among, Context, with_vars, ConIn, ScopeIn, Wider, wider_same, wider_vars, wider_both, con_wider, env_wider, env_both, among_left, among_right, among_split}
use Rattle.expansion_laws.proofs.Forms as f
use Rattle.expansion_laws.proofs.Forms.{Sizes, Quiet, Names, Is, Part, before, after, bindings, declarations}
use Rattle.expansion_laws.proofs.Growing.{grows_both, breaks_grows, breaks_quiet, breaks_nothing, name_grows, name_names, TyvarsIn, tyvars_on, ends_back, Done, done_same, done_so, done_both, done_behind}
use Rattle.expansion_laws.proofs.Joined.{Callee, callee, con_callee, builtin_callee, one_function, join, join_rules, join_functions, join_bindings, join_declarations, one_expression, app_form, case_form, handle_form, rule_form, binding_form, con_form}
use Rattle.expansion_laws.proofs.Derived.{no_doubles, record_form, tuple_form, unit_form, if_form, sequence_form, list_form, typed_form, typed_function_form, variable_form, unless_one_pattern_form, nest_form, eta_form, while_form, under, wider_under, function_form}
use Rattle.expansion_laws.proofs.Kinded as k
use Rattle.expansion_laws.proofs.Kinded.{Kind, Kinded, Exp, Exps, Rows, Rules, Pat, Ty, Dec, Decs as DecList, ValBind, ValBinds, Clause, Clauses, FunBinds}
use Rattle.expansion_laws.proofs.TypesDone.{type_made, quiet_same, quiet_both}
use Rattle.expansion_laws.proofs.PatternsDone.{OptionIn, option_in, refused, names_in, patterns_made, PatMakes, one_label}
use Rattle.expansion_laws.proofs.DeclarationsDone.{scope_within, scope_wider, scope_bound, bound_env, opens_made, opens_scope, numbers_in, DecsIn, DecsDone, type_dec_done, datatype_dec_done, exception_dec_done, idents_grows, idents_quiet, names_quiet}
use Rattle.expansion_laws.proofs.NamesDone.{rec_count, rec_names_done, annotations_done, arguments_done, function_some, new_names_grow, new_names_are, function_of, function_same, fun_count, binds_functions_done}

abbrev pub ForestDone : Sizes → Scope → Made → Forest × Made → Part → Type 0
ForestDone z s m r q = Done z s m r.1 (λ g. Is z g m r.1 q r.0)

abbrev pub ForestMakes : Sizes → Scope → Makes Forest → Part → Type 0
ForestMakes z s q c = (m : Made) → TyvarsIn s m → ForestDone z s m (q m) c

-- ---- Identifiers

-- what a tree is in a position: only a function part may be a constant of function type
abbrev pub StandsAt : Position → Sizes → Context → Made → Made → Forest → Type 0
StandsAt function_part z g m n t = Callee z g m n t
StandsAt elsewhere z g m n t = Is z g m n (f.expressions 1) t

abbrev pub PositionDone : Sizes → Scope → Made → Position → Forest × Made → Type 0
PositionDone z s m h r = Done z s m r.1 (λ g. StandsAt h z g m r.1 r.0)

abbrev pub PositionMakes : Sizes → Scope → Position → Makes Forest → Type 0
PositionMakes z s h q = (m : Made) → TyvarsIn s m → PositionDone z s m h (q m)

-- an expression stands everywhere
everywhere : {z : Sizes} {s : Scope} {m : Made} (h : Position) {r : Forest × Made} → ForestDone z s m r (f.expressions 1) → PositionDone z s m h r
everywhere function_part d = done_so d (λ g i x. callee x)
everywhere elsewhere d = d

-- a constant as a function part wherever there is more in scope, and, if it isn't of function type, as an expression
record ConstantIn (z : Sizes) (s : Scope) (b : Bool) (t : Forest) : Type 0 where
  part : (g h : Context) → ScopeIn g s → Wider g h → (m : Made) → Callee z h m m t
  alone : b ≡ false → (g : Context) → ScopeIn g s → (m : Made) → Is z g m m (f.expressions 1) t

eta_done : (z : Sizes) (s : Scope) (h : Position) (p : Place) (b : Bool) (t : Forest) (m : Made) → ConstantIn z s b t → PositionDone z s m h (eta h p b t m)
eta_done z s elsewhere p true t m l = record { grows = name_grows (codes "v") m; says = λ e g i. eta_form p (length m.names) (name_names (codes "v") m) (l.part g (with_vars (length m.names ∷ []) g) i (wider_vars (length m.names ∷ []) g) (new_name (codes "v") m).1) }
eta_done z s elsewhere p false t m l = done_same (λ g i. l.alone refl g i m)
eta_done z s function_part p true t m l = done_same (λ g i. l.part g g i (wider_same g) m)
eta_done z s function_part p false t m l = done_same (λ g i. l.part g g i (wider_same g) m)

constructor_in : (z : Sizes) (s : Scope) (p : Place) (c : Con) → ((g : Context) → ScopeIn g s → ConIn g c) → ConstantIn z s (takes_argument c) (form.con_node p c)
constructor_in z s p c h = record { part = λ g w i e m. con_callee p c (con_wider e c (h g i)) (quiet_same m); alone = λ b g i m. con_form p c (h g i) b }

builtin_in : (z : Sizes) (s : Scope) (p : Place) (b : Primitive) → ConstantIn z s (is_function b) (grown (bare.Builtin b) p none)
builtin_in z s p b = record { part = λ g w i e m. builtin_callee p b (quiet_same m); alone = λ e g i m. one_expression p (f.is_builtin b e) }

named_done : (z : Sizes) (s : Scope) (h : Position) (p : Place) (i : Ident) (o : Option Meaning) (m : Made) → OptionIn s o → PositionDone z s m h (named h p i o m)
named_done z s h p i None m c = record { grows = breaks_grows (refusal.Unbound i.place ∷ []) m; says = λ e g v. refused (refusal.Unbound i.place) m e.kept }
named_done z s h p i (Some (Variable x)) m c = everywhere h (done_same (λ g v. variable_form p x.0 (c g v (Variable x) refl)))
named_done z s h p i (Some (Constructor x)) m c = eta_done z s h p (takes_argument x) (form.con_node p x) m (constructor_in z s p x (λ g v. c g v (Constructor x) refl))
named_done z s h p i (Some (Builtin x)) m c = eta_done z s h p (is_function x) (grown (bare.Builtin x) p none) m (builtin_in z s p x)

identifier_done : (z : Sizes) (s : Scope) (h : Position) (p : Place) (i : Ident) (m : Made) → PositionDone z s m h (identifier h s p i m)
identifier_done z s h p i m = named_done z s h p i (meaning_of s i.key) m (option_in s i.key)

-- ---- What each phrase is

pub record ExpMade (z : Sizes) (t : Term) : Type 0 where
  pub is : (h : Position) (s : Scope) → PositionMakes z s h (expressions h s t)
  pub rules : is_fn t ≡ true → (h : Position) (s : Scope) (m : Made) → TyvarsIn s m → let r = expressions h s t m in Done z s m r.1 (λ g. Is z g m r.1 f.rules (rules_in r.0))
  pub function : is_typed_fn t ≡ true → (s : Scope) → ForestMakes z s (expressions elsewhere s t) (f.functions 1)

-- some expressions, one at least
abbrev SomeExps : Sizes → Scope → Makes Forest → Type 0
SomeExps z s q = (m : Made) → TyvarsIn s m → let r = q m in Done z s m r.1 (λ g. (j : ℕ) × Is z g m r.1 (f.expressions (suc j)) r.0)

pub record BindMade (z : Sizes) (t : Term) : Type 0 where
  pub plain : (s : Scope) (m : Made) → TyvarsIn s m → let r = plain_bindings s t m in Done z s m r.1 (λ g. (j : ℕ) × Is z g m r.1 (bindings j (names_in r.0.vars)) r.0.forest)
  pub rights : (inside : Bool) (s : Scope) → ForestMakes z s (rec_rights inside s t) (f.functions (rec_count inside t))

abbrev pub PhraseMade : Sizes → Kind → Term → Type 0
PhraseMade z Exp t = ExpMade z t
PhraseMade z Exps t = (s : Scope) → SomeExps z s (expressions elsewhere s t)
PhraseMade z Rows t = (s : Scope) → ForestMakes z s (expressions elsewhere s t) (f.expressions (length (labels s.names t)))
PhraseMade z Rules t = (s : Scope) → ForestMakes z s (rules s t) f.rules
PhraseMade z Dec t = (s : Scope) (m : Made) → TyvarsIn s m → DecsDone z s m (decs s t m)
PhraseMade z DecList t = (s : Scope) (m : Made) → TyvarsIn s m → DecsDone z s m (decs s t m)
PhraseMade z ValBind t = BindMade z t
PhraseMade z ValBinds t = BindMade z t
PhraseMade z Clause t = (s : Scope) → ForestMakes z s (functions s t) f.rules
PhraseMade z Clauses t = (s : Scope) → ForestMakes z s (functions s t) f.rules
PhraseMade z FunBinds t = (s : Scope) → ForestMakes z s (clauses.function t (functions s t)) (f.functions (fun_count t))
PhraseMade z _ t = Unit {0}

no_clash : {A : Type 0} → false ≡ true → A
no_clash e = absurd cc

one_more : (j : ℕ) → 1 + suc j ≡ suc (suc j)
one_more j = omega arith

-- what is no function
plain_exp : {z : Sizes} {t : Term} → is_fn t ≡ false → is_typed_fn t ≡ false → ((h : Position) (s : Scope) → ForestMakes z s (expressions h s t) (f.expressions 1)) → ExpMade z t
plain_exp a b d = record { is = λ h s m v. everywhere h (d h s m v); rules = λ e. no_clash (sym a ∙ e); function = λ e. no_clash (sym b ∙ e) }

named_exp : {z : Sizes} {t : Term} → is_fn t ≡ false → is_typed_fn t ≡ false → ((h : Position) (s : Scope) → PositionMakes z s h (expressions h s t)) → ExpMade z t
named_exp a b d = record { is = d; rules = λ e. no_clash (sym a ∙ e); function = λ e. no_clash (sym b ∙ e) }

module _ (z : Sizes) (s : Scope) where
  -- both things
  two_done : {m k n : Made} {J K : Context → Type 0} → TyvarsIn s m → Done z s m k J → (TyvarsIn s k → Done z s k n K) → Done z s m n (λ g. J g × K g)
  two_done v d e = done_both v d e (λ g x y. (x, y))

  apply_done : (p : Place) (a b : Term) → ExpMade z a → ExpMade z b → (t : Bool) → is_fn a ≡ t → ForestMakes z s (application t p (expressions function_part s a) (expressions elsewhere s b)) (f.expressions 1)
  apply_done p a b x y true e m v =
      done_both v (y.is elsewhere s m v) (x.rules e function_part s (expressions elsewhere s b m).1) (λ g d r. case_form p d r)
  apply_done p a b x y false e m v =
      done_both v (x.is function_part s m v) (y.is elsewhere s (expressions function_part s a m).1) (λ g d r. app_form p d r)

  both_done : (q u : Makes Forest) → ForestMakes z s q (f.expressions 1) → ForestMakes z s u (f.expressions 1) → ForestMakes z s (both q u) (f.expressions 2)
  both_done q u a b m v = done_both v (a m v) (b (q m).1) (λ g x y. join x y)

  more_done : (q u : Makes Forest) → ForestMakes z s q (f.expressions 1) → SomeExps z s u → SomeExps z s (both q u)
  more_done q u a b m v = done_both v (a m v) (b (q m).1) (λ g x y. (suc y.0, subst (λ j. Is z g m (u (q m).1).1 (f.expressions j) ((q m).0 & (u (q m).1).0)) (one_more y.0) (join x y.1)))

  infix_done : (p : Place) (i : Ident) (q u : Makes Forest) (c : Place) → ForestMakes z s q (f.expressions 1) → ForestMakes z s u (f.expressions 1)
      → ForestMakes z s (◌>>=◌ (identifier function_part s c i) (λ x. ◌>>=◌ (both q u) (λ y. gives (form.apply_node p x (form.tuple_node p y))))) (f.expressions 1)
  infix_done p i q u c a b m v =
      let r = identifier function_part s c i m in
      done_both v (identifier_done z s function_part c i m) (both_done q u a b r.1) (λ g x y. app_form p x (tuple_form p y))

  tuple_exp_done : (p : Place) (q u : Makes Forest) → ForestMakes z s q (f.expressions 1) → SomeExps z s u → ForestMakes z s (◌>>=◌ (both q u) (λ x. gives (form.tuple_node p x))) (f.expressions 1)
  tuple_exp_done p q u a b m v = done_so (more_done q u a b m v) (λ g i x. tuple_form p x.1)

  sequence_exp_done : (p : Place) (q u : Makes Forest) → ForestMakes z s q (f.expressions 1) → SomeExps z s u → ForestMakes z s (◌>>=◌ (both q u) (λ x. gives (form.sequence_node p x))) (f.expressions 1)
  sequence_exp_done p q u a b m v = done_so (more_done q u a b m v) (λ g i x. sequence_form p x.0 x.1)

  list_exp_done : (p : Place) (q : Makes Forest) → SomeExps z s q → ForestMakes z s (◌>>=◌ q (λ x. gives (form.list_node p x))) (f.expressions 1)
  list_exp_done p q a m v = done_so (a m v) (λ g i x. list_form p i.base (suc x.0) x.1)

  record_exp_done : (p : Place) (labs : List (Lab × Place)) (q : Makes Forest) → ForestMakes z s q (f.expressions (length labs)) → ForestMakes z s (◌>>◌ (labels_once labs) (◌>>=◌ q (λ x. gives (form.record_node p (map (λ l. l.0) labs) x)))) (f.expressions 1)
  record_exp_done p labs q d m v =
      let rs = doubles lab_eq [] labs in
      let k = (breaks rs m).1 in
      done_behind v (breaks_grows rs m) (d k)
      (λ e g x. record_form p (map (λ l. l.0) labs) (no_doubles [] labs (breaks_nothing rs m e.kept))
      (subst (λ j. Is z g m (q k).1 (f.expressions j) (q k).0) (sym (length-map labs (λ l. l.0))) (before (breaks_quiet rs m) x)))

  typed_exp_done : (p : Place) (t : Term) (q : Makes Forest) → Kinded z.texts Ty t → ForestMakes z s q (f.expressions 1) → ForestMakes z s (◌>>=◌ (type_of s t) (λ ty. ◌>>=◌ q (λ x. gives (form.typed_node p (ty ∷ []) x)))) (f.expressions 1)
  typed_exp_done p t q h d m v =
      let y = type_made s t h m v in
      let x = d (type_of s t m).1 (tyvars_on s.tyvars y.grows v) in
      record {
        grows = grows_both y.grows x.grows;
        says = λ e g i. let b = ends_back x.grows e in
            typed_form p ((type_of s t m).0 ∷ []) ((let a = y.number in let c = b.types in omega (arith, a, c)), tt) (before y.quiet (x.says e g i));
      }

  typed_fn_done : (p : Place) (t : Term) (q : Makes Forest) → Kinded z.texts Ty t → ForestMakes z s q (f.functions 1) → ForestMakes z s (◌>>=◌ (type_of s t) (λ ty. ◌>>=◌ q (λ x. gives (form.typed_node p (ty ∷ []) x)))) (f.functions 1)
  typed_fn_done p t q h d m v =
      let y = type_made s t h m v in
      let x = d (type_of s t m).1 (tyvars_on s.tyvars y.grows v) in
      record {
        grows = grows_both y.grows x.grows;
        says = λ e g i. let b = ends_back x.grows e in
            typed_function_form p ((type_of s t m).0 ∷ []) ((let a = y.number in let c = b.types in omega (arith, a, c)), tt) (before y.quiet (x.says e g i));
      }

  if_done : (p : Place) (q u w : Makes Forest) → ForestMakes z s q (f.expressions 1) → ForestMakes z s u (f.expressions 1) → ForestMakes z s w (f.expressions 1)
      → ForestMakes z s (◌>>=◌ q (λ x. ◌>>=◌ u (λ y. ◌>>=◌ w (λ o. gives (form.if_node p x y o))))) (f.expressions 1)
  if_done p q u w a b c m v =
      let x = q m in let y = u x.1 in
      done_so (two_done v (a m v) (λ v'. two_done v' (b x.1 v') (c y.1))) (λ g i r. if_form p i.base r.0 r.1.0 r.1.1)

  andalso_done : (p : Place) (q u : Makes Forest) → ForestMakes z s q (f.expressions 1) → ForestMakes z s u (f.expressions 1)
      → ForestMakes z s (◌>>=◌ q (λ x. ◌>>=◌ u (λ y. gives (form.if_node p x y (form.con_node p form.con_false))))) (f.expressions 1)
  andalso_done p q u a b m v =
      done_so (two_done v (a m v) (b (q m).1)) (λ g i r. if_form p i.base r.0 r.1 (con_form p form.con_false (i.base form.con_false (inl refl)) refl))

  orelse_done : (p : Place) (q u : Makes Forest) → ForestMakes z s q (f.expressions 1) → ForestMakes z s u (f.expressions 1)
      → ForestMakes z s (◌>>=◌ q (λ x. ◌>>=◌ u (λ y. gives (form.if_node p x (form.con_node p form.con_true) y)))) (f.expressions 1)
  orelse_done p q u a b m v =
      done_so (two_done v (a m v) (b (q m).1)) (λ g i r. if_form p i.base r.0 (con_form p form.con_true (i.base form.con_true (inr (inl refl))) refl) r.1)

  while_done : (p : Place) (q u : Makes Forest) → ForestMakes z s q (f.expressions 1) → ForestMakes z s u (f.expressions 1)
      → ForestMakes z s (◌>>=◌ (new_name (codes "v")) (λ v. ◌>>=◌ q (λ x. ◌>>=◌ u (λ y. gives (form.while_node p v x y))))) (f.expressions 1)
  while_done p q u a b m v =
      let v' = length m.names in
      let k = (new_name (codes "v") m).1 in
      let d = two_done v (a k v) (b (q k).1) in
      record {
        grows = grows_both (name_grows (codes "v") m) d.grows;
        says = λ e g i.
            let r = d.says e (with_vars (v' ∷ []) g) (scope_wider (wider_vars (v' ∷ []) g) i) in
            while_form p v' i.base (name_names (codes "v") m) r.0 r.1;
      }

  handle_done : (p : Place) (q u : Makes Forest) → ForestMakes z s q (f.expressions 1) → ForestMakes z s u f.rules → ForestMakes z s (◌>>=◌ (both q u) (λ x. gives (grown (bare.Handle 0 []) p x))) (f.expressions 1)
  handle_done p q u a b m v = done_both v (a m v) (b (q m).1) (λ g x y. handle_form p x y)

  case_done : (p : Place) (q u : Makes Forest) → ForestMakes z s q (f.expressions 1) → ForestMakes z s u f.rules → ForestMakes z s (◌>>=◌ q (λ x. ◌>>=◌ u (λ y. gives (form.case_node p x y)))) (f.expressions 1)
  case_done p q u a b m v = done_both v (a m v) (b (q m).1) (λ g x y. case_form p x y)

  rows_done : (i j n : ℕ) (q u : Makes Forest) → n ≡ i + j → ForestMakes z s q (f.expressions i) → ForestMakes z s u (f.expressions j) → ForestMakes z s (both q u) (f.expressions n)
  rows_done i j n q u e a b m v = done_both v (a m v) (b (q m).1) (λ g x y. subst (λ l. Is z g m (u (q m).1).1 (f.expressions l) ((q m).0 & (u (q m).1).0)) (sym e) (join x y))

  counted_as : (n : ℕ) (q : Makes Forest) → n ≡ 1 → ForestMakes z s q (f.expressions 1) → ForestMakes z s q (f.expressions n)
  counted_as n q e d m v = done_so (d m v) (λ g i x. subst (λ l. Is z g m (q m).1 (f.expressions l) (q m).0) (sym e) x)

  rules_both_done : (q u : Makes Forest) → ForestMakes z s q f.rules → ForestMakes z s u f.rules → ForestMakes z s (both q u) f.rules
  rules_both_done q u a b m v = done_both v (a m v) (b (q m).1) (λ g x y. join_rules x y)

  -- a pattern and what stands under it
  rule_done : (q : Makes Pattern) (u : Env → Makes Forest) → PatMakes z s q → ((e : Env) → ForestMakes z (within s e) (u e) (f.expressions 1)) → ForestMakes z s (rule q u) f.rules
  rule_done q u a b m v =
      let x = q m in
      let idents = map (λ (w : Bound). w.ident) x.0.vars in
      let k = (vars_once x.0.vars x.1).1 in
      let d = a m v in
      let gk = grows_both d.grows (idents_grows idents x.1) in
      let e = b (env_of x.0.vars) k (tyvars_on s.tyvars gk v) in
      record {
        grows = grows_both gk e.grows;
        says = λ r g i.
            let rk = ends_back e.grows r in
            rule_form (names_in x.0.vars) (d.says (ends_back (idents_grows idents x.1) rk) g i) (before (idents_quiet idents x.1) (e.says r (with_vars (names_in x.0.vars) g) (scope_bound x.0.vars i)));
      }

-- ---- Declarations of values

no_function_left : {z : Sizes} {g : Context} {m n : Made} {t : Forest} → Is z g m n (f.functions 0) t → (t ≡ none) × Quiet m n
no_function_left (before q h) = let r = no_function_left h in (r.0, record { names = r.1.names ∙ q.names; datas = r.1.datas ∙ q.datas })
no_function_left (after h q) = let r = no_function_left h in (r.0, record { names = q.names ∙ r.1.names; datas = q.datas ∙ r.1.datas })
no_function_left f.no_function = (refl, record { names = refl; datas = refl })

record FirstTree (t : Forest) : Type 0 where
  node : Node
  place : Place
  parts : Forest
  rest : Forest
  same : t ≡ tree node place parts rest

first_function : {z : Sizes} {g : Context} {m n : Made} {j : ℕ} {t : Forest} → Is z g m n (f.functions (suc j)) t → FirstTree t
first_function (before q h) = first_function h
first_function (after h q) = first_function h
first_function (f.more_functions {a = a} {p = p} {parts = parts} {rest = rest} h r) = record { node = a; place = p; parts = parts; rest = rest; same = refl }

plain_dec_form : {z : Sizes} {g : Context} {m n : Made} {j : ℕ} {xs : List ℕ} {t : Forest} (p : Place) (vs : List ℕ) → AllByRecursion (λ v. v < z.tyvars) vs → Is z g m n (bindings j xs) t → Is z g m n (declarations (with_vars xs g)) (plain_dec p vs t)
plain_dec_form p vs o (before q h) = before q (plain_dec_form p vs o h)
plain_dec_form p vs o (after h q) = after (plain_dec_form p vs o h) q
plain_dec_form p vs o f.no_binding = f.no_declaration
plain_dec_form p vs o (f.more_bindings h i r) = f.more_declarations (f.is_val vs o (f.more_bindings h i r)) f.no_declaration

rec_same : (names : List Bound) → map (λ x. record { name = record { 0 = x }; right = 0 }) (names_in names) ≡ rec_bindings names
rec_same [] = refl
rec_same (v ∷ names) = ap (λ l. record { name = record { 0 = v.name }; right = 0 } ∷ l) (rec_same names)

rec_dec_form : {z : Sizes} {g : Context} {m k n : Made} {t : Forest} (p : Place) (vs : List ℕ) (names : List Bound) → AllByRecursion (λ v. v < z.tyvars) vs → Names m (names_in names) k → Is z (with_vars (names_in names) g) k n (f.functions (length (names_in names))) t
    → Is z g m n (declarations (with_vars (names_in names) g)) (rec_dec p vs names t)
rec_dec_form {z} {g} {m} {k} {n} {t} p vs [] o e h =
    let r = no_function_left h in
    let d : length k.names ≡ length m.names + 0 = e.names in
    subst (λ x. Is z g m n (declarations g) (rec_dec p vs [] x)) (sym r.0) (before (record { names = omega (arith, d); datas = e.datas }) (after f.no_declaration r.1))
rec_dec_form {z} {g} {m} {k} {n} {t} p vs (v ∷ names) o e h =
    let r = first_function h in
    let x = tree r.node r.place r.parts r.rest in
    let xs = names_in (v ∷ names) in
    let h' = subst (λ y. Is z (with_vars xs g) k n (f.functions (length xs)) y) r.same h in
    let d = f.more_declarations {p = p} (f.is_val_rec vs xs o e h') f.no_declaration in
    subst (λ y. Is z g m n (declarations (with_vars xs g)) (rec_dec p vs (v ∷ names) y)) (sym r.same)
    (subst (λ l. Is z g m n (declarations (with_vars xs g)) (grown (bare.ValRec vs l) p x)) (rec_same (v ∷ names)) d)

swapped : (xs ys : List Bound) (vs : List ℕ) (v : ℕ) → Among v (names_in (xs ++ ys) ++ vs) → Among v (names_in ys ++ (names_in xs ++ vs))
swapped xs ys vs v h = go (among_split v (names_in (xs ++ ys)) vs h)
  where
    inner : Among v (names_in xs) ⊎ Among v (names_in ys) → Among v (names_in ys ++ (names_in xs ++ vs))
    inner (inl h) = among_right v (names_in ys) (names_in xs ++ vs) (among_left v (names_in xs) vs h)
    inner (inr h) = among_left v (names_in ys) (names_in xs ++ vs) h

    go : Among v (names_in (xs ++ ys)) ⊎ Among v vs → Among v (names_in ys ++ (names_in xs ++ vs))
    go (inl h) = inner (among_split v (names_in xs) (names_in ys) (subst (Among v) (map-append (λ w. w.name) xs ys) h))
    go (inr h) = among_right v (names_in ys) (names_in xs ++ vs) (among_right v (names_in xs) vs h)

-- first these, then those
swap_wider : (xs ys : List Bound) (g : Context) → Wider (with_vars (names_in (xs ++ ys)) g) (with_vars (names_in ys) (with_vars (names_in xs) g))
swap_wider xs ys g = record { vars = swapped xs ys g.vars; plain = swapped xs ys g.plain; exceptions = λ v h. h; cons = λ c h. h }

val_done : (z : Sizes) (s : Scope) (p : Place) (vs b : Term) → Kinded z.texts ValBinds b → BindMade z b → (m : Made) → TyvarsIn s m → DecsDone z s m (decs s (two node.Val p vs b) m)
val_done z s p vs b h d m v =
    let o = opens s (tyvars s.names vs) (unguarded b) m in
    let od = opens_made s (tyvars s.names vs) (unguarded b) m in
    let s1 = in_scope s o.0 in
    let v1 = opens_scope s od v in
    let x = plain_bindings s1 b o.1 in
    let xd = d.plain s1 o.1 v1 in
    let v2 = tyvars_on s1.tyvars xd.grows v1 in
    let r = rec_names s1 false b x.1 in
    let rd = rec_names_done z s1 b h false x.1 v2 in
    let idents = map (λ (w : Bound). w.ident) (x.0.vars ++ r.0) in
    let k = (vars_once (x.0.vars ++ r.0) r.1).1 in
    let gk = idents_grows idents r.1 in
    let s2 = within s1 (env_of r.0) in
    let v3 = tyvars_on s1.tyvars (grows_both rd.grows gk) v2 in
    let y = rec_rights false s2 b k in
    let yd = d.rights false s2 k v3 in
    record {
      grows = grows_both od.grows (grows_both xd.grows (grows_both rd.grows (grows_both gk yd.grows)));
      says = λ e g i.
          let ek = ends_back yd.grows e in
          let er = ends_back gk ek in
          let ex = ends_back rd.grows er in
          let eo = ends_back xd.grows ex in
          let i1 : ScopeIn g s1 = record { values = i.values; base = i.base } in
          let xs = xd.says ex g i1 in
          let g1 = with_vars (names_in x.0.vars) g in
          let i2 = scope_wider (wider_vars (names_in x.0.vars) g) i1 in
          let ok = numbers_in z.tyvars eo.tyvars od in
          let one = before od.quiet (plain_dec_form p (numbers_of o.0) ok xs.1) in
          let many = rd.many_are er.kept in
          let count : rec_count false b ≡ length (names_in r.0) = sym (length-map r.0 (λ w. w.name) ∙ many) in
          let fs = yd.says e (with_vars (names_in r.0) g1) (scope_bound r.0 i2) in
          let two = rec_dec_form p (numbers_of o.0) r.0 ok (names_quiet (rd.says er.kept) (idents_quiet idents r.1)) (subst (λ j. Is z (with_vars (names_in r.0) g1) k y.1 (f.functions j) y.0) count fs) in
          record {
            after = with_vars (names_in r.0) g1;
            is = join_declarations one two;
            env = env_wider (swap_wider x.0.vars r.0 g) (env_of (x.0.vars ++ r.0)).values (bound_env g (x.0.vars ++ r.0));
            wider = wider_both (wider_vars (names_in x.0.vars) g) (wider_vars (names_in r.0) g1);
          };
    }

fun_done : (z : Sizes) (s : Scope) (p : Place) (vs b : Term) → Kinded z.texts FunBinds b → ((s : Scope) → ForestMakes z s (clauses.function b (functions s b)) (f.functions (fun_count b))) → (m : Made) → TyvarsIn s m → DecsDone z s m (decs s (two node.Fun p vs b) m)
fun_done z s p vs b h d m v =
    let o = opens s (tyvars s.names vs) (unguarded b) m in
    let od = opens_made s (tyvars s.names vs) (unguarded b) m in
    let s1 = in_scope s o.0 in
    let v1 = opens_scope s od v in
    let r = binds_functions s.names b o.1 in
    let rd = binds_functions_done s.names b h o.1 in
    let idents = map (λ (w : Bound). w.ident) r.0 in
    let k = (vars_once r.0 r.1).1 in
    let gk = idents_grows idents r.1 in
    let s2 = within s1 (env_of r.0) in
    let v3 = tyvars_on s1.tyvars (grows_both rd.grows gk) v1 in
    let y = clauses.function b (functions s2 b) k in
    let yd = d s2 k v3 in
    record {
      grows = grows_both od.grows (grows_both rd.grows (grows_both gk yd.grows));
      says = λ e g i.
          let ek = ends_back yd.grows e in
          let er = ends_back gk ek in
          let eo = ends_back rd.grows er in
          let i1 : ScopeIn g s1 = record { values = i.values; base = i.base } in
          let ok = numbers_in z.tyvars eo.tyvars od in
          let many = rd.many_are er.kept in
          let count : fun_count b ≡ length (names_in r.0) = sym (length-map r.0 (λ w. w.name) ∙ many) in
          let fs = yd.says e (with_vars (names_in r.0) g) (scope_bound r.0 i1) in
          let two = rec_dec_form p (numbers_of o.0) r.0 ok (names_quiet (rd.says er.kept) (idents_quiet idents r.1)) (subst (λ j. Is z (with_vars (names_in r.0) g) k y.1 (f.functions j) y.0) count fs) in
          record {
            after = with_vars (names_in r.0) g;
            is = before od.quiet two;
            env = bound_env g r.0;
            wider = wider_vars (names_in r.0) g;
          };
    }

-- ---- Bindings

bind_done : (z : Sizes) (p : Place) (q a : Term) → Kinded z.texts Pat q → ExpMade z a → BindMade z (two node.ValBind p q a)
bind_done z p q a h d = record {
  plain = λ s m v. let x = patterns s q m in
      done_both v (patterns_made z Pat s q h m v) (d.is elsewhere s x.1) (λ g i j. (1, subst (λ l. Is z g m (expressions elsewhere s a x.1).1 (bindings 1 l) (x.0.forest & (expressions elsewhere s a x.1).0)) (append-nil (names_in x.0.vars)) (binding_form (names_in x.0.vars) i j)));
  rights = λ inside s m v. right inside s m v;
}
  where
    right : (inside : Bool) (s : Scope) → ForestMakes z s (rec_rights inside s (two node.ValBind p q a)) (f.functions (rec_count inside (two node.ValBind p q a)))
    right false s m v = done_same (λ g i. f.no_function)
    right true s m v =
        let rs = fn_on_the_right a in
        let k = (breaks rs m).1 in
        let ts = annotations s q k in
        let t = annotations_done s q h k v in
        let w = tyvars_on s.tyvars t.grows v in
        let x = d.is elsewhere s ts.1 w in
        record {
          grows = grows_both (breaks_grows rs m) (grows_both t.grows x.grows);
          says = λ e g i.
              let b = ends_back x.grows e in
              let c = ends_back t.grows b in
              typed_function_form (place_at a) ts.0 (in_all ts.0 b.types t.all)
              (before (quiet_both (breaks_quiet rs m) t.quiet) ((d.function (is_fn_there (breaks_nothing rs m c.kept)) s ts.1 w).says e g i));
        }
      where
        in_all : {i j : ℕ} (xs : List ℕ) → i ≤ j → AllByRecursion (λ x. x < i) xs → AllByRecursion (λ x. x < j) xs
        in_all [] le h = tt
        in_all (x ∷ xs) le h = ((let y = h.0 in omega (arith, y, le)), in_all xs le h.1)

        is_fn_there : fn_on_the_right a ≡ [] → is_typed_fn a ≡ true
        is_fn_there e = go (is_typed_fn a) e
          where
            go : (b : Bool) → (if b then [] else refusal.BadBinding (place_at a) ∷ []) ≡ [] → b ≡ true
            go true e = refl
            go false e = cc

more_binds_done : (z : Sizes) (p : Place) (a b : Term) → BindMade z a → BindMade z b → BindMade z (two node.MoreValBinds p a b)
more_binds_done z p a b d e = record {
  plain = λ s m v. let x = plain_bindings s a m in let y = plain_bindings s b x.1 in
      done_both v (d.plain s m v) (e.plain s x.1) (λ g i j. (i.0 + j.0, subst (λ l. Is z g m y.1 (bindings (i.0 + j.0) l) (x.0.forest & y.0.forest)) (sym (map-append (λ w. w.name) x.0.vars y.0.vars)) (join_bindings i.1 j.1)));
  rights = right;
}
  where
    right : (inside : Bool) (s : Scope) → ForestMakes z s (rec_rights inside s (two node.MoreValBinds p a b)) (f.functions (rec_count inside (two node.MoreValBinds p a b)))
    right true s m v = done_both v (d.rights true s m v) (e.rights true s (rec_rights true s a m).1) (λ g i j. join_functions i j)
    right false s m v = done_both v (d.rights false s m v) (e.rights false s (rec_rights false s a m).1) (λ g i j. join_functions i j)

rec_binds_done : (z : Sizes) (p : Place) (a : Term) → BindMade z a → BindMade z (one node.Rec p a)
rec_binds_done z p a d = record { plain = λ s m v. done_same (λ g i. (0, f.no_binding)); rights = right }
  where
    right : (inside : Bool) (s : Scope) → ForestMakes z s (rec_rights inside s (one node.Rec p a)) (f.functions (rec_count inside (one node.Rec p a)))
    right true s m v = d.rights true s m v
    right false s m v = d.rights true s m v

-- ---- Functions

clause_done : (z : Sizes) (p : Place) (h a : Term) → Kinded z.texts k.Head h → ExpMade z a → (s : Scope) → ForestMakes z s (functions s (two node.Clause p h a)) f.rules
clause_done z p h a c d s m v =
    let x = arguments s h m in
    let idents = map (λ (w : Bound). w.ident) x.0.vars in
    let k = (vars_once x.0.vars x.1).1 in
    let b = arguments_done z s h c m v in
    let gk = grows_both b.grows (idents_grows idents x.1) in
    let e = d.is elsewhere (within s (env_of x.0.vars)) k (tyvars_on s.tyvars gk v) in
    record {
      grows = grows_both gk e.grows;
      says = λ r g i.
          let rk = ends_back e.grows r in
          let q = b.says (ends_back (idents_grows idents x.1) rk) g i in
          rule_form (names_in x.0.vars) (unless_one_pattern_form p q.1) (before (idents_quiet idents x.1) (e.says r (with_vars (names_in x.0.vars) g) (scope_bound x.0.vars i)));
    }

typed_clause_done : (z : Sizes) (p : Place) (h t a : Term) → Kinded z.texts k.Head h → Kinded z.texts Ty t → ExpMade z a → (s : Scope) → ForestMakes z s (functions s (three node.TypedClause p h t a)) f.rules
typed_clause_done z p h t a c u d s m v =
    let x = arguments s h m in
    let idents = map (λ (w : Bound). w.ident) x.0.vars in
    let k = (vars_once x.0.vars x.1).1 in
    let b = arguments_done z s h c m v in
    let gk = grows_both b.grows (idents_grows idents x.1) in
    let n = type_of s t k in
    let y = type_made s t u k (tyvars_on s.tyvars gk v) in
    let gn = grows_both gk y.grows in
    let e = d.is elsewhere (within s (env_of x.0.vars)) n.1 (tyvars_on s.tyvars gn v) in
    record {
      grows = grows_both gn e.grows;
      says = λ r g i.
          let rn = ends_back e.grows r in
          let rk = ends_back y.grows rn in
          let q = b.says (ends_back (idents_grows idents x.1) rk) g i in
          let le = y.number in let le' = rn.types in
          rule_form (names_in x.0.vars) (unless_one_pattern_form p q.1)
          (typed_form (place_at a) (n.0 ∷ []) ((omega (arith, le, le')), tt) (before (quiet_both (idents_quiet idents x.1) y.quiet) (e.says r (with_vars (names_in x.0.vars) g) (scope_bound x.0.vars i))));
    }

function_of_done : (z : Sizes) (s : Scope) (p : Place) (n j : ℕ) → n ≡ suc j → (q : Makes Forest) → ForestMakes z s q f.rules → ForestMakes z s (function_of n p q) (f.functions 1)
function_of_done z s p n j e q d = subst (λ i. ForestMakes z s (function_of i p q) (f.functions 1)) (sym e) (λ m v.
    let text = codes "v" in
    let vs = new_names text (suc j) m in
    let g0 = new_names_grow text (suc j) m in
    let x = d vs.1 (tyvars_on s.tyvars g0 v) in
    record {
      grows = grows_both g0 x.grows;
      says = λ r g i.
          function_form p (length m.names) (new_names text j (new_name text m).1).0 g m (new_names_are text (suc j) m) (x.says r (under vs.0 g) (scope_wider (wider_under vs.0 g) i));
    })

one_fun_done : (z : Sizes) (t : Term) → Kinded z.texts Clauses t → ((s : Scope) → ForestMakes z s (functions s t) f.rules) → (s : Scope) → ForestMakes z s (clauses.function t (functions s t)) (f.functions 1)
one_fun_done z t h d s =
    let n = function_some t h in
    subst (λ q. ForestMakes z s q (f.functions 1)) (sym (function_same t h (functions s t))) (function_of_done z s (place_at t) (arguments_in (head (first_clause t))) n.less n.same (functions s t) (d s))

one_fun_counted : (z : Sizes) (t : Term) → Kinded z.texts Clauses t → ((s : Scope) → ForestMakes z s (functions s t) f.rules) → (s : Scope) → ForestMakes z s (clauses.function t (functions s t)) (f.functions (fun_count t))
one_fun_counted z t h d s = subst (λ j. ForestMakes z s (clauses.function t (functions s t)) (f.functions j)) (sym (count_one t h)) (one_fun_done z t h d s)
  where
    count_one : {texts : ℕ} (t : Term) → Kinded texts Clauses t → fun_count t ≡ 1
    count_one t (k.one_clause (k.clause p i j)) = refl
    count_one t (k.one_clause (k.typed_clause p i j l)) = refl
    count_one t (k.more_clauses p i j) = refl

more_funs_done : (z : Sizes) (p : Place) (a b : Term) → ((s : Scope) → ForestMakes z s (clauses.function a (functions s a)) (f.functions 1)) → ((s : Scope) → ForestMakes z s (clauses.function b (functions s b)) (f.functions (fun_count b)))
    → (s : Scope) → ForestMakes z s (clauses.function (two node.MoreFunBinds p a b) (functions s (two node.MoreFunBinds p a b))) (f.functions (suc (fun_count b)))
more_funs_done z p a b d e s m v =
    let x = clauses.function a (functions s a) m in
    let y = clauses.function b (functions s b) x.1 in
    let w : 1 + fun_count b ≡ suc (fun_count b) = omega arith in
    done_both v (d s m v) (e s x.1) (λ g i j. subst (λ l. Is z g m y.1 (f.functions l) (x.0 & y.0)) w (join_functions i j))

-- ---- Declarations one behind the other

let_done : (z : Sizes) (p : Place) (d a : Term) → ((s : Scope) (m : Made) → TyvarsIn s m → DecsDone z s m (decs s d m)) → ((s : Scope) → SomeExps z s (expressions elsewhere s a)) → (h : Position) (s : Scope) → ForestMakes z s (expressions h s (two node.Let p d a)) (f.expressions 1)
let_done z p d a x y h s m v =
    let r = decs s d m in
    let rd = x s m v in
    let yd = y (within s r.0.env) r.1 (tyvars_on s.tyvars rd.grows v) in
    record {
      grows = grows_both rd.grows yd.grows;
      says = λ e g i.
          let o = rd.says (ends_back yd.grows e) g i in
          let u = yd.says e o.after (scope_within r.0.env o.wider o.env i) in
          nest_form p o.is (sequence_form p u.0 u.1);
    }

more_decs_done : (z : Sizes) (p : Place) (a b : Term) → ((s : Scope) (m : Made) → TyvarsIn s m → DecsDone z s m (decs s a m)) → ((s : Scope) (m : Made) → TyvarsIn s m → DecsDone z s m (decs s b m)) → (s : Scope) (m : Made) → TyvarsIn s m → DecsDone z s m (decs s (two node.MoreDecs p a b) m)
more_decs_done z p a b x y s m v =
    let r = decs s a m in
    let rd = x s m v in
    let u = decs (within s r.0.env) b r.1 in
    let ud = y (within s r.0.env) r.1 (tyvars_on s.tyvars rd.grows v) in
    record {
      grows = grows_both rd.grows ud.grows;
      says = λ e g i.
          let o = rd.says (ends_back ud.grows e) g i in
          let q = ud.says e o.after (scope_within r.0.env o.wider o.env i) in
          record { after = q.after; is = join_declarations o.is q.is; env = env_both q.after u.0.env.values r.0.env.values q.env (env_wider q.wider r.0.env.values o.env); wider = wider_both o.wider q.wider };
    }

local_done : (z : Sizes) (p : Place) (a b : Term) → ((s : Scope) (m : Made) → TyvarsIn s m → DecsDone z s m (decs s a m)) → ((s : Scope) (m : Made) → TyvarsIn s m → DecsDone z s m (decs s b m)) → (s : Scope) (m : Made) → TyvarsIn s m → DecsDone z s m (decs s (two node.Local p a b) m)
local_done z p a b x y s m v =
    let r = decs s a m in
    let rd = x s m v in
    let ud = y (within s r.0.env) r.1 (tyvars_on s.tyvars rd.grows v) in
    record {
      grows = grows_both rd.grows ud.grows;
      says = λ e g i.
          let o = rd.says (ends_back ud.grows e) g i in
          let q = ud.says e o.after (scope_within r.0.env o.wider o.env i) in
          record { after = q.after; is = join_declarations o.is q.is; env = q.env; wider = wider_both o.wider q.wider };
    }

nothing_done : (z : Sizes) (s : Scope) (m : Made) → Done z s m m (DecsIn z m m none [])
nothing_done z s m = done_same (λ g i. record { after = g; is = f.no_declaration; env = tt; wider = wider_same g })

-- ---- The whole

pub phrases_made : (z : Sizes) (c : Kind) (t : Term) → Kinded z.texts c t → PhraseMade z c t
phrases_made z c t (k.vid x p) = named_exp refl refl (λ h s m v. identifier_done z s h p (ident s.names t) m)
phrases_made z c t (k.long_vid x p) = named_exp refl refl (λ h s m v. identifier_done z s h p (ident s.names t) m)
phrases_made z c t (k.op p a) = named_exp refl refl (λ h s m v. identifier_done z s h p (ident s.names a) m)
phrases_made z c t (k.int i p o) = plain_exp refl refl (λ h s m v. done_same (λ g w. one_expression p (f.is_int i o)))
phrases_made z c t (k.char x p o) = plain_exp refl refl (λ h s m v. done_same (λ g w. one_expression p (f.is_char x o)))
phrases_made z c t (k.text x p o) = plain_exp refl refl (λ h s m v. done_same (λ g w. one_expression p (f.is_text x o)))
phrases_made z c t (k.unit p) = plain_exp refl refl (λ h s m v. done_same (λ g w. unit_form p))
phrases_made z c t (k.empty_record p) = plain_exp refl refl (λ h s m v. done_same (λ g w. unit_form p))
phrases_made z c t (k.empty_list p) = plain_exp refl refl (λ h s m v. done_same (λ g w. list_form p w.base 0 f.no_expression))
phrases_made z c t (k.paren p {a} d) = let x = phrases_made z Exp a d in record { is = x.is; rules = x.rules; function = x.function }
phrases_made z c t (k.apply p {a} {b} d e) = let x = phrases_made z Exp a d in let y = phrases_made z Exp b e in plain_exp refl refl (λ h s. apply_done z s p a b x y (is_fn a) refl)
phrases_made z c t (k.infix_exp p {a} {b} w d e) = let x = phrases_made z Exp a d in let y = phrases_made z Exp b e in plain_exp refl refl (λ h s. infix_done z s p (ident s.names w) (expressions elsewhere s a) (expressions elsewhere s b) (place_at w) (x.is elsewhere s) (y.is elsewhere s))
phrases_made z c t (k.tuple p {a} {b} d e) = let x = phrases_made z Exp a d in let y = phrases_made z Exps b e in plain_exp refl refl (λ h s. tuple_exp_done z s p (expressions elsewhere s a) (expressions elsewhere s b) (x.is elsewhere s) (y s))
phrases_made z c t (k.record_exp p {a} d) = let x = phrases_made z Rows a d in plain_exp refl refl (λ h s. record_exp_done z s p (labels s.names a) (expressions elsewhere s a) (x s))
phrases_made z c t (k.list p {a} d) = let x = phrases_made z Exps a d in plain_exp refl refl (λ h s. list_exp_done z s p (expressions elsewhere s a) (x s))
phrases_made z c t (k.sequence p {a} {b} d e) = let x = phrases_made z Exp a d in let y = phrases_made z Exps b e in plain_exp refl refl (λ h s. sequence_exp_done z s p (expressions elsewhere s a) (expressions elsewhere s b) (x.is elsewhere s) (y s))
phrases_made z c t (k.typed p {a} {t = u} d e) = let x = phrases_made z Exp a d in record {
  is = λ h s m v. everywhere h (typed_exp_done z s p u (expressions elsewhere s a) e (x.is elsewhere s) m v);
  rules = λ q. no_clash q;
  function = λ q s. typed_fn_done z s p u (expressions elsewhere s a) e (x.function q s);
}
phrases_made z c t (k.andalso p {a} {b} d e) = let x = phrases_made z Exp a d in let y = phrases_made z Exp b e in plain_exp refl refl (λ h s. andalso_done z s p (expressions elsewhere s a) (expressions elsewhere s b) (x.is elsewhere s) (y.is elsewhere s))
phrases_made z c t (k.orelse p {a} {b} d e) = let x = phrases_made z Exp a d in let y = phrases_made z Exp b e in plain_exp refl refl (λ h s. orelse_done z s p (expressions elsewhere s a) (expressions elsewhere s b) (x.is elsewhere s) (y.is elsewhere s))
phrases_made z c t (k.if_exp p {a} {b} {c = o} d e i) = let x = phrases_made z Exp a d in let y = phrases_made z Exp b e in let w = phrases_made z Exp o i in
    plain_exp refl refl (λ h s. if_done z s p (expressions elsewhere s a) (expressions elsewhere s b) (expressions elsewhere s o) (x.is elsewhere s) (y.is elsewhere s) (w.is elsewhere s))
phrases_made z c t (k.while p {a} {b} d e) = let x = phrases_made z Exp a d in let y = phrases_made z Exp b e in plain_exp refl refl (λ h s. while_done z s p (expressions elsewhere s a) (expressions elsewhere s b) (x.is elsewhere s) (y.is elsewhere s))
phrases_made z c t (k.raise p {a} d) = let x = phrases_made z Exp a d in plain_exp refl refl (λ h s m v. done_so (x.is elsewhere s m v) (λ g i r. one_expression p (f.is_raise r)))
phrases_made z c t (k.handle p {a} {m = b} d e) = let x = phrases_made z Exp a d in let y = phrases_made z Rules b e in plain_exp refl refl (λ h s. handle_done z s p (expressions elsewhere s a) (rules s b) (x.is elsewhere s) (y s))
phrases_made z c t (k.case p {a} {m = b} d e) = let x = phrases_made z Exp a d in let y = phrases_made z Rules b e in plain_exp refl refl (λ h s. case_done z s p (expressions elsewhere s a) (rules s b) (x.is elsewhere s) (y s))
phrases_made z c t (k.fn p {m = b} d) = let y = phrases_made z Rules b d in record {
  is = λ h s m v. everywhere h (done_so (y s m v) (λ g i r. one_expression p (f.is_fn r)));
  rules = λ q h s m v. y s m v;
  function = λ q s m v. done_so (y s m v) (λ g i r. one_function p (f.fn_function r));
}
phrases_made z c t (k.let_exp p {d} {a} x y) = plain_exp refl refl (let_done z p d a (phrases_made z DecList d x) (phrases_made z Exps a y))
phrases_made z c t (k.one_exp d) = let x = phrases_made z Exp t d in λ s m v. done_so (x.is elsewhere s m v) (λ g i r. (0, r))
phrases_made z c t (k.more_items p {a} {b} d e) = let x = phrases_made z Exp a d in let y = phrases_made z Exps b e in λ s. more_done z s (expressions elsewhere s a) (expressions elsewhere s b) (x.is elsewhere s) (y s)
phrases_made z c t (k.more_seq p {a} {b} d e) = let x = phrases_made z Exp a d in let y = phrases_made z Exps b e in λ s. more_done z s (expressions elsewhere s a) (expressions elsewhere s b) (x.is elsewhere s) (y s)
phrases_made z c t (k.row p {l} {a} d e) = let x = phrases_made z Exp a e in λ s. counted_as z s (length (labels s.names l)) (expressions elsewhere s a) (one_label s.names l d) (x.is elsewhere s)
phrases_made z c t (k.more_rows p {a} {b} d e) = let x = phrases_made z Rows a d in let y = phrases_made z Rows b e in λ s.
    rows_done z s (length (labels s.names a)) (length (labels s.names b)) (length (labels s.names a ++ labels s.names b)) (expressions elsewhere s a) (expressions elsewhere s b) (length-append (labels s.names a) (labels s.names b)) (x s) (y s)
phrases_made z c t (k.rule p {q} {a} d e) = let x = phrases_made z Exp a e in λ s. rule_done z s (patterns s q) (λ env. expressions elsewhere (within s env) a) (patterns_made z Pat s q d) (λ env. x.is elsewhere (within s env))
phrases_made z c t (k.more_rules p {a} {b} d e) = let x = phrases_made z Rules a d in let y = phrases_made z Rules b e in λ s. rules_both_done z s (rules s a) (rules s b) (x s) (y s)
phrases_made z c t (k.val p vs {b} d) = let x = phrases_made z ValBinds b d in λ s. val_done z s p vs b d x
phrases_made z c t (k.fun p vs {b} d) = let x = phrases_made z FunBinds b d in λ s. fun_done z s p vs b d x
phrases_made z c t (k.type_dec p {b} d) = λ s. type_dec_done z s p b d
phrases_made z c t (k.datatype p {b} d) = λ s. datatype_dec_done z s p b d
phrases_made z c t (k.exception_dec p {b} d) = λ s. exception_dec_done z s p b d
phrases_made z c t (k.local p {a} {b} d e) = local_done z p a b (phrases_made z DecList a d) (phrases_made z DecList b e)
phrases_made z c t (k.directive x p a) = λ s m v. nothing_done z s m
phrases_made z c t (k.no_decs p) = λ s m v. nothing_done z s m
phrases_made z c t (k.more_decs p {a} {b} d e) = more_decs_done z p a b (phrases_made z Dec a d) (phrases_made z DecList b e)
phrases_made z c t (k.val_bind p {q} {a} d e) = bind_done z p q a d (phrases_made z Exp a e)
phrases_made z c t (k.one_val_bind d) = phrases_made z ValBind t d
phrases_made z c t (k.more_val_binds p {a} {b} d e) = more_binds_done z p a b (phrases_made z ValBind a d) (phrases_made z ValBinds b e)
phrases_made z c t (k.rec_binds p {a} d) = rec_binds_done z p a (phrases_made z ValBinds a d)
phrases_made z c t (k.clause p {h} {a} d e) = clause_done z p h a d (phrases_made z Exp a e)
phrases_made z c t (k.typed_clause p {h} {t = u} {a} d o e) = typed_clause_done z p h u a d o (phrases_made z Exp a e)
phrases_made z c t (k.one_clause d) = phrases_made z Clause t d
phrases_made z c t (k.more_clauses p {a} {b} d e) = let x = phrases_made z Clause a d in let y = phrases_made z Clauses b e in λ s. rules_both_done z s (functions s a) (functions s b) (x s) (y s)
phrases_made z c t (k.one_fun d) = one_fun_counted z t d (phrases_made z Clauses t d)
phrases_made z c t (k.more_funs p {a} {b} d e) = more_funs_done z p a b (one_fun_done z a d (phrases_made z Clauses a d)) (phrases_made z FunBinds b e)
phrases_made z c t _ = tt
