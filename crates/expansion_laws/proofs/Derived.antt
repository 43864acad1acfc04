-- The derived forms are forms.
use Rattle.std.proofs.Common.{◌≡◌, ℕ, zero, suc, ◌<◌, ◌≤◌, ◌+◌, ◌==◌, true, false, pos, List, [], ◌∷◌, ◌++◌, map, length, refl, sym, ap, subst, ◌∙◌, arith, inl, inr, if◌then◌else◌, int_lt, eqb-true}
use Rattle.std.specs.Prelude.{Bool, not, ◌||◌}
use Rattle.std.specs.List.{AllByRecursion, list_any}
use Rattle.smlc_base.specs.declared.place.Place.{Place}
use Rattle.smlc_base.specs.declared.refusal.Refusal.TheVariants as refusal
use Rattle.sml_tree.specs.declared.bare.Con.{Con}
use Rattle.sml_tree.specs.declared.bare.Lab.{Lab}
use Rattle.sml_tree.specs.declared.bare.Lab.TheVariants.{Num}
use Rattle.sml_tree.specs.declared.bare.Node.{Node}
use Rattle.sml_tree.specs.declared.bare.Node.TheVariants as node
use Rattle.sml_tree.specs.IsBare.{Consecutive}
use Rattle.sml_expansion.specs.declared.made.Made.{Made}
use Rattle.sml_expansion.specs.Makings.{new_name}
use Rattle.sml_expansion.specs.Forests.{Forest, none, tree, grown, count, ◌&◌}
use Rattle.sml_expansion.specs.Bare as bare
use Rattle.sml_expansion.specs.Labels.{numbers, lab_eq, doubles}
use Rattle.expansion_laws.proofs.Contexts.{Among, Context, VariableIn, with_vars, base_cons, Wider, variable_wider, wider_vars, wider_both, wider_same}
use Rattle.expansion_laws.proofs.Forms as f
use Rattle.expansion_laws.proofs.Forms.{Sizes, Quiet, Names, LabelsOnce, Part, Is, expression, function, pattern, declaration, expressions, functions, patterns, rules, bindings, declarations, before, after}
use Rattle.expansion_laws.proofs.Growing.{name_names}
use Rattle.expansion_laws.proofs.Joined.{Callee, callee, con_callee, alone, one_expression, one_pattern, one_function, join, join_patterns, join_rules, counted, counted_patterns, app_form, case_form, rule_form, con_form, con_pattern_form}

-- ---- Labels

lt_pos : (a b : ℕ) → a < b → int_lt (pos a) (pos b) ≡ true
lt_pos a b h = grind (arith, h)

-- numbers below
abbrev Below : ℕ → Lab → Type 0
Below i l = (k : ℕ) × (l ≡ Num (pos k)) × (k ≤ i)

not_below : (i : ℕ) (l : Lab) → Below i l → lab_eq (Num (pos (suc i))) l ≡ false
not_below i l h = subst (λ x. lab_eq (Num (pos (suc i))) x ≡ false) (sym h.1) (go h.0 (int_lt (pos (suc i)) (pos h.0)) (lt_pos h.0 (suc i) (let y = h.2 in omega (arith, y))))
  where
    go : (k : ℕ) (b : Bool) → int_lt (pos k) (pos (suc i)) ≡ true → not (b || int_lt (pos k) (pos (suc i))) ≡ false
    go k true e = refl
    go k false e = ap not e

none_below : (i : ℕ) (seen : List Lab) → AllByRecursion (Below i) seen → list_any (lab_eq (Num (pos (suc i)))) seen ≡ false
none_below i [] h = refl
none_below i (l ∷ seen) h = rw (not_below i l h.0) (none_below i seen h.1)

below_more : (i : ℕ) (seen : List Lab) → AllByRecursion (Below i) seen → AllByRecursion (Below (suc i)) seen
below_more i [] h = tt
below_more i (l ∷ seen) h = ((h.0.0, h.0.1, (let y = h.0.2 in omega (arith, y))), below_more i seen h.1)

numbers_once : (i n : ℕ) (seen : List Lab) → AllByRecursion (Below i) seen → LabelsOnce seen (numbers i n)
numbers_once i zero seen h = tt
numbers_once i (suc n) seen h = (none_below i seen h, numbers_once (suc i) n (Num (pos (suc i)) ∷ seen) ((suc i, refl, (omega arith)), below_more i seen h))

pub how_many : (i n : ℕ) → length (numbers i n) ≡ n
how_many i zero = refl
how_many i (suc n) = ap suc (how_many (suc i) n)

pub no_doubles : (seen : List Lab) (labs : List (Lab × Place)) → doubles lab_eq seen labs ≡ [] → LabelsOnce seen (map (λ l. l.0) labs)
no_doubles seen [] e = tt
no_doubles seen (l ∷ labs) e = go (list_any (lab_eq l.0) seen) refl e (no_doubles (l.0 ∷ seen) labs)
  where
    go : (b : Bool) → list_any (lab_eq l.0) seen ≡ b → (if b then refusal.BadBinding l.1 ∷ [] else []) ++ doubles lab_eq (l.0 ∷ seen) labs ≡ [] → (doubles lab_eq (l.0 ∷ seen) labs ≡ [] → LabelsOnce (l.0 ∷ seen) (map (λ l. l.0) labs)) → (list_any (lab_eq l.0) seen ≡ false) × LabelsOnce (l.0 ∷ seen) (map (λ l. l.0) labs)
    go true s e f = cc
    go false s e f = (s, f e)

-- ---- Lists

pub record Consed (z : Sizes) (g : Context) (m n : Made) (j : ℕ) (t : Forest) : Type 0 where
  pub between : Made
  pub node : Node
  pub place : Place
  pub parts : Forest
  pub rest : Forest
  pub same : t ≡ tree node place parts rest
  pub first : Is z g m between (expression node) parts
  pub more : Is z g between n (expressions j) rest

pub consed : {z : Sizes} {g : Context} {m n : Made} {j : ℕ} {t : Forest} → Is z g m n (expressions (suc j)) t → Consed z g m n j t
consed (before q h) = let v = consed h in record { between = v.between; node = v.node; place = v.place; parts = v.parts; rest = v.rest; same = v.same; first = before q v.first; more = v.more }
consed (after h q) = let v = consed h in record { between = v.between; node = v.node; place = v.place; parts = v.parts; rest = v.rest; same = v.same; first = v.first; more = after v.more q }
consed (f.more_expressions {k = k} {a = a} {p = p} {parts = parts} {rest = rest} h r) = record { between = k; node = a; place = p; parts = parts; rest = rest; same = refl; first = h; more = r }

pub record ConsedPattern (z : Sizes) (g : Context) (m n : Made) (j : ℕ) (xs : List ℕ) (t : Forest) : Type 0 where
  pub between : Made
  pub node : Node
  pub place : Place
  pub parts : Forest
  pub rest : Forest
  pub ys : List ℕ
  pub zs : List ℕ
  pub names : xs ≡ ys ++ zs
  pub same : t ≡ tree node place parts rest
  pub first : Is z g m between (pattern node ys) parts
  pub more : Is z g between n (patterns j zs) rest

pub consed_pattern : {z : Sizes} {g : Context} {m n : Made} {j : ℕ} {xs : List ℕ} {t : Forest} → Is z g m n (patterns (suc j) xs) t → ConsedPattern z g m n j xs t
consed_pattern (before q h) = let v = consed_pattern h in record { between = v.between; node = v.node; place = v.place; parts = v.parts; rest = v.rest; ys = v.ys; zs = v.zs; names = v.names; same = v.same; first = before q v.first; more = v.more }
consed_pattern (after h q) = let v = consed_pattern h in record { between = v.between; node = v.node; place = v.place; parts = v.parts; rest = v.rest; ys = v.ys; zs = v.zs; names = v.names; same = v.same; first = v.first; more = after v.more q }
consed_pattern (f.more_patterns {k = k} {a = a} {p = p} {parts = parts} {rest = rest} {xs = xs} {ys = ys} h r) = record { between = k; node = a; place = p; parts = parts; rest = rest; ys = xs; zs = ys; names = refl; same = refl; first = h; more = r }

pub record NoTree (z : Sizes) (m n : Made) (t : Forest) : Type 0 where
  pub same : t ≡ none
  pub quiet : Quiet m n

pub no_tree : {z : Sizes} {g : Context} {m n : Made} {t : Forest} → Is z g m n (expressions 0) t → NoTree z m n t
no_tree (before q h) = let r = no_tree h in record { same = r.same; quiet = record { names = r.quiet.names ∙ q.names; datas = r.quiet.datas ∙ q.datas } }
no_tree (after h q) = let r = no_tree h in record { same = r.same; quiet = record { names = q.names ∙ r.quiet.names; datas = q.datas ∙ r.quiet.datas } }
no_tree f.no_expression = record { same = refl; quiet = record { names = refl; datas = refl } }

pub record NoPattern (z : Sizes) (m n : Made) (xs : List ℕ) (t : Forest) : Type 0 where
  pub same : t ≡ none
  pub names : xs ≡ []
  pub quiet : Quiet m n

pub no_pattern : {z : Sizes} {g : Context} {m n : Made} {xs : List ℕ} {t : Forest} → Is z g m n (patterns 0 xs) t → NoPattern z m n xs t
no_pattern (before q h) = let r = no_pattern h in record { same = r.same; names = r.names; quiet = record { names = r.quiet.names ∙ q.names; datas = r.quiet.datas ∙ q.datas } }
no_pattern (after h q) = let r = no_pattern h in record { same = r.same; names = r.names; quiet = record { names = q.names ∙ r.quiet.names; datas = q.datas ∙ r.quiet.datas } }
no_pattern f.no_pattern = record { same = refl; names = refl; quiet = record { names = refl; datas = refl } }

-- contexts that have the library's constructors
abbrev pub HasBase : Context → Type 0
HasBase g = (c : Con) → Among c base_cons → Among c g.cons

module _ {z : Sizes} {g : Context} where
  pub record_form : {m n : Made} {t : Forest} (p : Place) (labs : List Lab) → LabelsOnce [] labs → Is z g m n (expressions (length labs)) t → Is z g m n (expressions 1) (bare.record_node p labs t)
  record_form p labs o h = one_expression p (f.is_record labs o h)

  pub tuple_form : {m n : Made} {t : Forest} {j : ℕ} (p : Place) → Is z g m n (expressions j) t → Is z g m n (expressions 1) (bare.tuple_node p t)
  tuple_form {m} {n} {t} {j} p h =
      record_form p (numbers 0 (count t)) (numbers_once 0 (count t) [] tt) (subst (λ x. Is z g m n (expressions x) t) (sym (how_many 0 (count t) ∙ counted h)) h)

  pub unit_form : {m : Made} (p : Place) → Is z g m m (expressions 1) (bare.tuple_node p none)
  unit_form p = tuple_form p f.no_expression

  pub record_pattern_form : {m n : Made} {t : Forest} {xs : List ℕ} (p : Place) (labs : List Lab) → LabelsOnce [] labs → Is z g m n (patterns (length labs) xs) t → Is z g m n (patterns 1 xs) (bare.record_pattern p labs t)
  record_pattern_form p labs o h = one_pattern p (f.record_pattern labs o h)

  pub tuple_pattern_form : {m n : Made} {t : Forest} {j : ℕ} {xs : List ℕ} (p : Place) → Is z g m n (patterns j xs) t → Is z g m n (patterns 1 xs) (bare.tuple_pattern p t)
  tuple_pattern_form {m} {n} {t} {j} {xs} p h =
      record_pattern_form p (numbers 0 (count t)) (numbers_once 0 (count t) [] tt) (subst (λ x. Is z g m n (patterns x xs) t) (sym (how_many 0 (count t) ∙ counted_patterns h)) h)

  pub if_form : {m k l n : Made} {s t u : Forest} (p : Place) → HasBase g → Is z g m k (expressions 1) s → Is z g k l (expressions 1) t → Is z g l n (expressions 1) u → Is z g m n (expressions 1) (bare.if_node p s t u)
  if_form p b s t u = case_form p s (join_rules
      (rule_form [] (con_pattern_form p bare.con_true (b bare.con_true (inr (inl refl)))) t)
      (rule_form [] (con_pattern_form p bare.con_false (b bare.con_false (inl refl))) u))

  pub sequence_form : {n : Made} (p : Place) (j : ℕ) {m : Made} {t : Forest} → Is z g m n (expressions (suc j)) t → Is z g m n (expressions 1) (bare.sequence_node p t)
  sequence_form {n} p zero {m} {t} h =
      let a = alone h in
      subst (λ x. Is z g m n (expressions 1) (bare.sequence_node p x)) (sym a.same) (one_expression a.place a.is)
  sequence_form {n} p (suc j) {m} {t} h =
      let v = consed h in
      let w = consed v.more in
      let rest = subst (λ x. Is z g v.between n (expressions 1) (bare.sequence_node p x)) w.same (sequence_form p j v.more) in
      subst (λ x. Is z g m n (expressions 1) (bare.sequence_node p x)) (sym (v.same ∙ ap (tree v.node v.place v.parts) w.same))
      (case_form p (one_expression v.place v.first) (rule_form [] (one_pattern p f.is_wild) rest))

  pub list_form : {n : Made} (p : Place) → HasBase g → (j : ℕ) {m : Made} {t : Forest} → Is z g m n (expressions j) t → Is z g m n (expressions 1) (bare.list_node p t)
  list_form {n} p b zero {m} {t} h =
      let r = no_tree h in
      subst (λ x. Is z g m n (expressions 1) (bare.list_node p x)) (sym r.same) (after (con_form p bare.con_nil (b bare.con_nil (inr (inr (inl refl)))) refl) r.quiet)
  list_form {n} p b (suc j) {m} {t} h =
      let v = consed h in
      subst (λ x. Is z g m n (expressions 1) (bare.list_node p x)) (sym v.same)
      (app_form p (con_callee p bare.con_cons (b bare.con_cons (inr (inr (inr (inl refl))))) (record { names = refl; datas = refl })) (tuple_form p (join (one_expression v.place v.first) (list_form p b j v.more))))

  pub list_pattern_form : {n : Made} (p : Place) → HasBase g → (j : ℕ) {m : Made} {xs : List ℕ} {t : Forest} → Is z g m n (patterns j xs) t → Is z g m n (patterns 1 xs) (bare.list_pattern p t)
  list_pattern_form {n} p b zero {m} {xs} {t} h =
      let r = no_pattern h in
      subst (λ l. Is z g m n (patterns 1 l) (bare.list_pattern p t)) (sym r.names)
      (subst (λ x. Is z g m n (patterns 1 []) (bare.list_pattern p x)) (sym r.same) (after (con_pattern_form p bare.con_nil (b bare.con_nil (inr (inr (inl refl))))) r.quiet))
  list_pattern_form {n} p b (suc j) {m} {xs} {t} h =
      let v = consed_pattern h in
      subst (λ l. Is z g m n (patterns 1 l) (bare.list_pattern p t)) (sym v.names)
      (subst (λ x. Is z g m n (patterns 1 (v.ys ++ v.zs)) (bare.list_pattern p x)) (sym v.same)
      (one_pattern p (f.apply_pattern bare.con_cons (b bare.con_cons (inr (inr (inr (inl refl))))) (tuple_pattern_form p (join_patterns (one_pattern v.place v.first) (list_pattern_form p b j v.more))))))

  pub typed_form : {m n : Made} {t : Forest} (p : Place) (ts : List ℕ) → AllByRecursion (λ x. x < z.types) ts → Is z g m n (expressions 1) t → Is z g m n (expressions 1) (bare.typed_node p ts t)
  typed_form p [] a h = h
  typed_form p (x ∷ ts) a h = typed_form p ts a.1 (one_expression p (f.is_typed x a.0 h))

  pub typed_function_form : {m n : Made} {t : Forest} (p : Place) (ts : List ℕ) → AllByRecursion (λ x. x < z.types) ts → Is z g m n (functions 1) t → Is z g m n (functions 1) (bare.typed_node p ts t)
  typed_function_form p [] a h = h
  typed_function_form p (x ∷ ts) a h = typed_function_form p ts a.1 (one_function p (f.typed_function x a.0 h))

  pub variable_form : {m : Made} (p : Place) (x : ℕ) → VariableIn g x → Is z g m m (expressions 1) (bare.variable_node p x)
  variable_form p x h = one_expression p (f.is_variable x h)

  pub variables_form : {m : Made} (p : Place) (xs : List ℕ) → AllByRecursion (VariableIn g) xs → Is z g m m (expressions (length xs)) (bare.variable_nodes p xs)
  variables_form p [] h = f.no_expression
  variables_form p (x ∷ xs) h = f.more_expressions (f.is_variable x h.0) (variables_form p xs h.1)

  pub unless_one_form : {m n : Made} {t : Forest} {j : ℕ} (p : Place) → Is z g m n (expressions j) t → Is z g m n (expressions 1) (bare.tuple_unless_one p t)
  unless_one_form {m} {n} {t} {j} p h = go (count t == 1) refl
    where
      go : (b : Bool) → (count t == 1) ≡ b → Is z g m n (expressions 1) (if b then t else bare.tuple_node p t)
      go true e = subst (λ x. Is z g m n (expressions x) t) (sym (counted h) ∙ eqb-true (count t) 1 e) h
      go false e = tuple_form p h

  pub unless_one_pattern_form : {m n : Made} {t : Forest} {j : ℕ} {xs : List ℕ} (p : Place) → Is z g m n (patterns j xs) t → Is z g m n (patterns 1 xs) (bare.tuple_pattern_unless_one p t)
  unless_one_pattern_form {m} {n} {t} {j} {xs} p h = go (count t == 1) refl
    where
      go : (b : Bool) → (count t == 1) ≡ b → Is z g m n (patterns 1 xs) (if b then t else bare.tuple_pattern p t)
      go true e = subst (λ x. Is z g m n (patterns x xs) t) (sym (counted_patterns h) ∙ eqb-true (count t) 1 e) h
      go false e = tuple_pattern_form p h

pub nest_form : {z : Sizes} {g h : Context} {m k n : Made} {d e : Forest} (p : Place) → Is z g m k (declarations h) d → Is z h k n (expressions 1) e → Is z g m n (expressions 1) (bare.nest p d e)
nest_form p (before q d) e = before q (nest_form p d e)
nest_form p (after d q) e = nest_form p d (before q e)
nest_form p f.no_declaration e = e
nest_form {z} {g} {h} {m} {k} {n} {e = e} p (f.more_declarations {a = a} {p = q} {parts = parts} {rest = rest} d r) x =
    let o = alone (nest_form p r x) in
    subst (λ y. Is z g m n (expressions 1) (grown (node.Let 0 0) p (grown a q parts & y))) (sym o.same) (one_expression p (f.is_let d o.is))

pub eta_form : {z : Sizes} {g : Context} {m n : Made} {t : Forest} (p : Place) (v : ℕ) → Names m (v ∷ []) n → Callee z (with_vars (v ∷ []) g) n n t → Is z g m n (expressions 1) (bare.eta_node p v t)
eta_form p v e h = one_expression p (f.is_fn (rule_form (v ∷ []) (one_pattern p (f.variable_pattern v e)) (app_form p h (variable_form p v (inl refl, inl refl)))))

call_form : {z : Sizes} {g : Context} {m : Made} (p : Place) (v : ℕ) → Is z (with_vars (v ∷ []) g) m m (expressions 1) (bare.apply_node p (bare.variable_node p v) (bare.tuple_node p none))
call_form p v = app_form p (callee (variable_form p v (inl refl, inl refl))) (unit_form p)

pub while_form : {z : Sizes} {g : Context} {m k l n : Made} {s t : Forest} (p : Place) (v : ℕ) → HasBase g → Names m (v ∷ []) k → Is z (with_vars (v ∷ []) g) k l (expressions 1) s → Is z (with_vars (v ∷ []) g) l n (expressions 1) t
    → Is z g m n (expressions 1) (bare.while_node p v s t)
while_form {z} {g} {m} {k} {l} {n} p v b e s t =
    let turn = f.fn_function (rule_form [] (tuple_pattern_form p f.no_pattern) (if_form p b s (sequence_form p 1 (join t (call_form p v))) (unit_form p))) in
    nest_form p (f.more_declarations (f.is_val_rec [] (v ∷ []) tt e (one_function p turn)) f.no_declaration) (call_form p v)

-- the context under one variable after the other
abbrev pub under : List ℕ → Context → Context
under [] g = g
under (v ∷ vs) g = under vs (with_vars (v ∷ []) g)

pub wider_under : (vs : List ℕ) (g : Context) → Wider g (under vs g)
wider_under [] g = wider_same g
wider_under (v ∷ vs) g = wider_both (wider_vars (v ∷ []) g) (wider_under vs (with_vars (v ∷ []) g))

pub all_under : (vs : List ℕ) (g : Context) → AllByRecursion (VariableIn (under vs g)) vs
all_under [] g = tt
all_under (v ∷ vs) g = (variable_wider (wider_under vs (with_vars (v ∷ []) g)) v (inl refl, inl refl), all_under vs (with_vars (v ∷ []) g))

pub first_name : (v : ℕ) (vs : List ℕ) (m n : Made) → Names m (v ∷ vs) n → Names m (v ∷ []) (new_name [] m).1 × Names (new_name [] m).1 vs n
first_name v vs m n e =
    let d = name_names [] m in
    let one : length (new_name [] m).1.names ≡ length m.names + 1 = d.names in
    let two : length n.names ≡ length m.names + suc (length vs) = e.names in
    let three : suc (length m.names) ≡ length (new_name [] m).1.names = omega (arith, one) in (
      record { from = (e.from.0, tt); names = d.names; datas = d.datas },
      record { from = subst (λ i. Consecutive i vs) three e.from.1; names = omega (arith, one, two); datas = e.datas },
    )

pub no_names : (m n : Made) → Names m [] n → Quiet m n
no_names m n e = let y : length n.names ≡ length m.names + 0 = e.names in record { names = omega (arith, y); datas = e.datas }

pub curried_form : {z : Sizes} {n l : Made} {t : Forest} (p : Place) (vs : List ℕ) (g : Context) (m : Made) → Names m vs n → Is z (under vs g) n l (expressions 1) t → Is z g m l (expressions 1) (bare.curried p vs t)
curried_form {n = n} p [] g m e h = before (no_names m n e) h
curried_form {n = n} p (v ∷ vs) g m e h =
    let c = first_name v vs m n e in
    one_expression p (f.is_fn (rule_form (v ∷ []) (one_pattern p (f.variable_pattern v c.0)) (curried_form p vs (with_vars (v ∷ []) g) (new_name [] m).1 c.1 h)))

pub function_form : {z : Sizes} {n l : Made} {t : Forest} (p : Place) (v : ℕ) (vs : List ℕ) (g : Context) (m : Made) → Names m (v ∷ vs) n → Is z (under (v ∷ vs) g) n l rules t → Is z g m l (functions 1) (bare.function_node p (v ∷ vs) t)
function_form {n = n} p v vs g m e h =
    let c = first_name v vs m n e in
    let body = case_form p (unless_one_form p (variables_form p (v ∷ vs) (all_under (v ∷ vs) g))) h in
    one_function p (f.fn_function (rule_form (v ∷ []) (one_pattern p (f.variable_pattern v c.0)) (curried_form p vs (with_vars (v ∷ []) g) (new_name [] m).1 c.1 body)))
