-- Lists of trees one behind the other, and the derived forms over them.
use Rattle.std.proofs.Common.{◌≡◌, false, ℕ, suc, ◌+◌, List, [], ◌++◌, refl, sym, ap, subst, ◌∙◌, arith}
use Rattle.std.proofs.lemmas.List.{append_assoc, append-nil}
use Rattle.smlc_base.specs.declared.place.Place.{Place}
use Rattle.smlc_base.specs.declared.primitive.Primitive.{Primitive}
use Rattle.sml_tree.specs.declared.bare.Con.{Con}
use Rattle.sml_tree.specs.declared.bare.Node.{Node}
use Rattle.sml_tree.specs.declared.bare.Node.TheVariants as node
use Rattle.sml_expansion.specs.declared.made.Made.{Made}
use Rattle.sml_expansion.specs.Forests.{Forest, none, tree, grown, count, ◌&◌}
use Rattle.sml_expansion.specs.Bare as bare
use Rattle.sml_prelude.specs.Values.{takes_argument}
use Rattle.expansion_laws.proofs.Contexts.{Context, with_vars, ConIn}
use Rattle.expansion_laws.proofs.Forms as f
use Rattle.expansion_laws.proofs.Forms.{Sizes, Quiet, Names, LabelsOnce, Part, Is, expression, function, pattern, declaration, call, expressions, functions, patterns, rules, bindings, declarations, before, after}

-- one tree of a list of one
pub record Alone (z : Sizes) (g : Context) (m n : Made) (P : Node → Part) (t : Forest) : Type 0 where
  pub node : Node
  pub place : Place
  pub parts : Forest
  pub same : t ≡ grown node place parts
  pub is : Is z g m n (P node) parts

pub record AlonePattern (z : Sizes) (g : Context) (m n : Made) (xs : List ℕ) (t : Forest) : Type 0 where
  pub node : Node
  pub place : Place
  pub parts : Forest
  pub same : t ≡ grown node place parts
  pub is : Is z g m n (pattern node xs) parts

no_tree : {z : Sizes} {g : Context} {m n : Made} {t : Forest} → Is z g m n (expressions 0) t → (t ≡ none) × Quiet m n
no_tree (before q h) = let r = no_tree h in (r.0, record { names = r.1.names ∙ q.names; datas = r.1.datas ∙ q.datas })
no_tree (after h q) = let r = no_tree h in (r.0, record { names = q.names ∙ r.1.names; datas = q.datas ∙ r.1.datas })
no_tree f.no_expression = (refl, record { names = refl; datas = refl })

no_pat : {z : Sizes} {g : Context} {m n : Made} {xs : List ℕ} {t : Forest} → Is z g m n (patterns 0 xs) t → (t ≡ none) × (xs ≡ []) × Quiet m n
no_pat (before q h) = let r = no_pat h in (r.0, r.1, record { names = r.2.names ∙ q.names; datas = r.2.datas ∙ q.datas })
no_pat (after h q) = let r = no_pat h in (r.0, r.1, record { names = q.names ∙ r.2.names; datas = q.datas ∙ r.2.datas })
no_pat f.no_pattern = (refl, refl, record { names = refl; datas = refl })

pub alone : {z : Sizes} {g : Context} {m n : Made} {t : Forest} → Is z g m n (expressions 1) t → Alone z g m n expression t
alone (before q h) = let a = alone h in record { node = a.node; place = a.place; parts = a.parts; same = a.same; is = before q a.is }
alone (after h q) = let a = alone h in record { node = a.node; place = a.place; parts = a.parts; same = a.same; is = after a.is q }
alone (f.more_expressions {a = a} {p = p} {parts = parts} h i) =
    let r = no_tree i in record { node = a; place = p; parts = parts; same = ap (tree a p parts) r.0; is = after h r.1 }

pub alone_pattern : {z : Sizes} {g : Context} {m n : Made} {xs : List ℕ} {t : Forest} → Is z g m n (patterns 1 xs) t → AlonePattern z g m n xs t
alone_pattern (before q h) = let a = alone_pattern h in record { node = a.node; place = a.place; parts = a.parts; same = a.same; is = before q a.is }
alone_pattern (after h q) = let a = alone_pattern h in record { node = a.node; place = a.place; parts = a.parts; same = a.same; is = after a.is q }
alone_pattern {z} {g} {m} {n} (f.more_patterns {k = k} {a = a} {p = p} {parts = parts} {xs = xs} {ys = ys} h i) =
    let r = no_pat i in
    record { node = a; place = p; parts = parts; same = ap (tree a p parts) r.0; is = after (subst (λ l. Is z g m k (pattern a l) parts) (sym (ap (λ l. xs ++ l) r.1 ∙ append-nil xs)) h) r.2 }

pub one_expression : {z : Sizes} {g : Context} {m n : Made} {a : Node} {t : Forest} (p : Place) → Is z g m n (expression a) t → Is z g m n (expressions 1) (grown a p t)
one_expression p h = f.more_expressions h f.no_expression

pub one_pattern : {z : Sizes} {g : Context} {m n : Made} {a : Node} {xs : List ℕ} {t : Forest} (p : Place) → Is z g m n (pattern a xs) t → Is z g m n (patterns 1 xs) (grown a p t)
one_pattern {z} {g} {m} {n} {a} {xs} {t} p h = subst (λ l. Is z g m n (patterns 1 l) (grown a p t)) (append-nil xs) (f.more_patterns h f.no_pattern)

pub one_function : {z : Sizes} {g : Context} {m n : Made} {a : Node} {t : Forest} (p : Place) → Is z g m n (function a) t → Is z g m n (functions 1) (grown a p t)
one_function p h = f.more_functions h f.no_function

-- lists one behind the other
pub join : {z : Sizes} {g : Context} {m k n : Made} {i j : ℕ} {s t : Forest} → Is z g m k (expressions i) s → Is z g k n (expressions j) t → Is z g m n (expressions (i + j)) (s & t)
join (before q h) l = before q (join h l)
join (after h q) l = join h (before q l)
join {z} {g} {m} {k} {n} {j = j} {t = t} f.no_expression l = let e : j ≡ 0 + j = omega arith in subst (λ x. Is z g m n (expressions x) t) e l
join {z} {g} {m} {k} {n} {j = j} {t = t} (f.more_expressions {a = a} {p = p} {parts = parts} {rest = rest} {j = i} h r) l =
    let e : suc (i + j) ≡ suc i + j = omega arith in subst (λ x. Is z g m n (expressions x) (tree a p parts (rest & t))) e (f.more_expressions h (join r l))

pub join_patterns : {z : Sizes} {g : Context} {m k n : Made} {i j : ℕ} {xs ys : List ℕ} {s t : Forest} → Is z g m k (patterns i xs) s → Is z g k n (patterns j ys) t → Is z g m n (patterns (i + j) (xs ++ ys)) (s & t)
join_patterns (before q h) l = before q (join_patterns h l)
join_patterns (after h q) l = join_patterns h (before q l)
join_patterns {z} {g} {m} {k} {n} {j = j} {ys = ys} {t = t} f.no_pattern l = let e : j ≡ 0 + j = omega arith in subst (λ x. Is z g m n (patterns x ys) t) e l
join_patterns {z} {g} {m} {k} {n} {j = j} {ys = ys} {t = t} (f.more_patterns {a = a} {p = p} {parts = parts} {rest = rest} {j = i} {xs = xs} {ys = xs'} h r) l =
    let e : suc (i + j) ≡ suc i + j = omega arith in
    subst (λ x. Is z g m n (patterns x ((xs ++ xs') ++ ys)) (tree a p parts (rest & t))) e (subst (λ x. Is z g m n (patterns (suc (i + j)) x) (tree a p parts (rest & t))) (sym (append_assoc xs xs' ys)) (f.more_patterns h (join_patterns r l)))

pub join_rules : {z : Sizes} {g : Context} {m k n : Made} {s t : Forest} → Is z g m k rules s → Is z g k n rules t → Is z g m n rules (s & t)
join_rules (before q h) l = before q (join_rules h l)
join_rules (after h q) l = join_rules h (before q l)
join_rules f.no_rule l = l
join_rules (f.more_rules a b r) l = f.more_rules a b (join_rules r l)

pub join_functions : {z : Sizes} {g : Context} {m k n : Made} {i j : ℕ} {s t : Forest} → Is z g m k (functions i) s → Is z g k n (functions j) t → Is z g m n (functions (i + j)) (s & t)
join_functions (before q h) l = before q (join_functions h l)
join_functions (after h q) l = join_functions h (before q l)
join_functions {z} {g} {m} {k} {n} {j = j} {t = t} f.no_function l = let e : j ≡ 0 + j = omega arith in subst (λ x. Is z g m n (functions x) t) e l
join_functions {z} {g} {m} {k} {n} {j = j} {t = t} (f.more_functions {a = a} {p = p} {parts = parts} {rest = rest} {j = i} h r) l =
    let e : suc (i + j) ≡ suc i + j = omega arith in subst (λ x. Is z g m n (functions x) (tree a p parts (rest & t))) e (f.more_functions h (join_functions r l))

pub join_bindings : {z : Sizes} {g : Context} {m k n : Made} {i j : ℕ} {xs ys : List ℕ} {s t : Forest} → Is z g m k (bindings i xs) s → Is z g k n (bindings j ys) t → Is z g m n (bindings (i + j) (xs ++ ys)) (s & t)
join_bindings (before q h) l = before q (join_bindings h l)
join_bindings (after h q) l = join_bindings h (before q l)
join_bindings {z} {g} {m} {k} {n} {j = j} {ys = ys} {t = t} f.no_binding l = let e : j ≡ 0 + j = omega arith in subst (λ x. Is z g m n (bindings x ys) t) e l
join_bindings {z} {g} {m} {k} {n} {j = j} {ys = ys} {t = t} (f.more_bindings {a = a} {b = b} {p = p} {q = q} {parts = parts} {inner = inner} {rest = rest} {j = i} {xs = xs} {ys = xs'} h o r) l =
    let e : suc (i + j) ≡ suc i + j = omega arith in
    subst (λ x. Is z g m n (bindings x ((xs ++ xs') ++ ys)) (tree a p parts (tree b q inner (rest & t)))) e (subst (λ x. Is z g m n (bindings (suc (i + j)) x) (tree a p parts (tree b q inner (rest & t)))) (sym (append_assoc xs xs' ys)) (f.more_bindings h o (join_bindings r l)))

pub join_declarations : {z : Sizes} {g h i : Context} {m k n : Made} {s t : Forest} → Is z g m k (declarations h) s → Is z h k n (declarations i) t → Is z g m n (declarations i) (s & t)
join_declarations (before q h) l = before q (join_declarations h l)
join_declarations (after h q) l = join_declarations h (before q l)
join_declarations f.no_declaration l = l
join_declarations (f.more_declarations h r) l = f.more_declarations h (join_declarations r l)

-- how many trees a list has
pub counted : {z : Sizes} {g : Context} {m n : Made} {j : ℕ} {t : Forest} → Is z g m n (expressions j) t → count t ≡ j
counted (before q h) = counted h
counted (after h q) = counted h
counted f.no_expression = refl
counted (f.more_expressions h r) = ap suc (counted r)

pub counted_patterns : {z : Sizes} {g : Context} {m n : Made} {j : ℕ} {xs : List ℕ} {t : Forest} → Is z g m n (patterns j xs) t → count t ≡ j
counted_patterns (before q h) = counted_patterns h
counted_patterns (after h q) = counted_patterns h
counted_patterns f.no_pattern = refl
counted_patterns (f.more_patterns h r) = ap suc (counted_patterns r)

pub counted_call : {z : Sizes} {g : Context} {m n : Made} {t : Forest} → Is z g m n call t → count t ≡ 2
counted_call (before q h) = counted_call h
counted_call (after h q) = counted_call h
counted_call (f.call_expression h) = counted h
counted_call (f.call_constructor c o h) = ap suc (counted h)
counted_call (f.call_builtin b h) = ap suc (counted h)

-- ---- Derived forms

-- a function part: an expression, or what is none by itself
pub data Callee (z : Sizes) (g : Context) (m n : Made) : Forest → Type 0 where
  callee : {t : Forest} → Is z g m n (expressions 1) t → Callee z g m n t
  con_callee : (p : Place) (c : Con) → ConIn g c → Quiet m n → Callee z g m n (bare.con_node p c)
  builtin_callee : (p : Place) (b : Primitive) → Quiet m n → Callee z g m n (grown (node.Builtin b) p none)

module _ {z : Sizes} {g : Context} where
  called : {m k n : Made} {s t : Forest} → Callee z g m k s → Is z g k n (expressions 1) t → Is z g m n call (s & t)
  called (callee h) b = f.call_expression (join h b)
  called (con_callee p c h q) b = before q (f.call_constructor c h b)
  called (builtin_callee p c q) b = before q (f.call_builtin c b)

  pub app_form : {m k n : Made} {s t : Forest} (p : Place) → Callee z g m k s → Is z g k n (expressions 1) t → Is z g m n (expressions 1) (bare.apply_node p s t)
  app_form p a b = one_expression p (f.is_app (called a b))

  pub case_form : {m k n : Made} {s t : Forest} (p : Place) → Is z g m k (expressions 1) s → Is z g k n rules t → Is z g m n (expressions 1) (bare.case_node p s t)
  case_form {m} {k} {n} {s} {t} p a b =
      let o = alone a in
      subst (λ x. Is z g m n (expressions 1) (bare.case_node p x t)) (sym o.same) (one_expression p (f.is_case o.is b))

  pub handle_form : {m k n : Made} {s t : Forest} (p : Place) → Is z g m k (expressions 1) s → Is z g k n rules t → Is z g m n (expressions 1) (grown (node.Handle 0 []) p (s & t))
  handle_form {m} {k} {n} {s} {t} p a b =
      let o = alone a in
      subst (λ x. Is z g m n (expressions 1) (grown (node.Handle 0 []) p (x & t))) (sym o.same) (one_expression p (f.is_handle o.is b))

  pub rule_form : {m k n : Made} {s t : Forest} (xs : List ℕ) → Is z g m k (patterns 1 xs) s → Is z (with_vars xs g) k n (expressions 1) t → Is z g m n rules (s & t)
  rule_form {m} {k} {n} {s} {t} xs a b =
      let o = alone_pattern a in let r = alone b in
      subst (λ x. Is z g m n rules (x & t)) (sym o.same) (subst (λ x. Is z g m n rules (grown o.node o.place o.parts & x)) (sym r.same) (f.more_rules o.is r.is f.no_rule))

  pub binding_form : {m k n : Made} {s t : Forest} (xs : List ℕ) → Is z g m k (patterns 1 xs) s → Is z g k n (expressions 1) t → Is z g m n (bindings 1 (xs ++ [])) (s & t)
  binding_form {m} {k} {n} {s} {t} xs a b =
      let o = alone_pattern a in let r = alone b in
      subst (λ x. Is z g m n (bindings 1 (xs ++ [])) (x & t)) (sym o.same) (subst (λ x. Is z g m n (bindings 1 (xs ++ [])) (grown o.node o.place o.parts & x)) (sym r.same) (f.more_bindings o.is r.is f.no_binding))

  pub con_form : {m : Made} (p : Place) (c : Con) → ConIn g c → takes_argument c ≡ false → Is z g m m (expressions 1) (bare.con_node p c)
  con_form p c h e = one_expression p (f.is_constructor c h e)

  pub con_pattern_form : {m : Made} (p : Place) (c : Con) → ConIn g c → Is z g m m (patterns 1 []) (bare.con_pattern p c)
  con_pattern_form p c h = one_pattern p (f.con_pattern c h)
