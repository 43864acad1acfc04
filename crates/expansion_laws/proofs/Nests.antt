-- A program ends once, and its declarations stand in one nest.
use Rattle.std.proofs.Common.{◌≡◌, ℕ, suc, ◌≤◌, ◌+◌, ◌&&◌, ◌||◌, true, false, List, [], ◌∷◌, ◌++◌, length, get_or, refl, sym, ap, subst, ◌∙◌, Some, arith, if◌then◌else◌, eq-eqb, inl, inr}
use Rattle.std.specs.Prelude.{slice_get, Bool, flat_map, filter, fold, cond, count_by, nat_eq}
use Rattle.std.specs.List.{AllByRecursion}
use Rattle.std.proofs.lemmas.List.{append-nil}
use Rattle.smlc_base.specs.declared.place.Place.{Place}
use Rattle.sml_tree.specs.declared.bare.Node.{Node}
use Rattle.sml_tree.specs.declared.bare.Node.TheVariants as node
use Rattle.sml_tree.specs.BareParts.{IsNumbered, at_node, node_parts, from_parts}
use Rattle.sml_tree.specs.Sets.{has}
use Rattle.sml_tree.specs.IsBare as spec
use Rattle.sml_tree.specs.IsBare.{is_finish, nest_of, lets_of, dec_at, IsAscending}
use Rattle.sml_tree.proofs.Unfold.{by_parts}
use Rattle.sml_expansion.specs.declared.made.Made.{Made}
use Rattle.sml_expansion.specs.Forests.{Forest, none, tree, grown, size, roots, numbered, with_parts}
use Rattle.sml_expansion.specs.Bare.{nest}
use Rattle.sml_expansion.specs.Programs as p
use Rattle.sml_expansion.specs.Programs.{Top, program, nested, outermost, shown_in, all_shown}
use Rattle.expansion_laws.proofs.Contexts.{Context, Among, among_left, among_right}
use Rattle.expansion_laws.proofs.Forms as f
use Rattle.expansion_laws.proofs.Forms.{Sizes, Is, Part}
use Rattle.expansion_laws.proofs.Positions.{At}
use Rattle.expansion_laws.proofs.Spans.{all, all_tree}

-- the ends of a program among nodes
abbrev pub fin : Node → List ℕ
fin node.Finish = 0 ∷ []
fin _ = []

abbrev NodeEnds : List ℕ → Node → Forest → Type 0
NodeEnds e a t = (rs : List ℕ) (i : ℕ) → fin (with_parts a rs) ++ all fin i t ≡ e

abbrev ListEnds : Forest → Type 0
ListEnds t = (i : ℕ) → all fin i t ≡ []

both_ends : (xs ys us vs : List ℕ) → xs ≡ us → ys ≡ vs → xs ++ ys ≡ us ++ vs
both_ends xs ys us vs e h = ap (λ l. l ++ ys) e ∙ ap (λ l. us ++ l) h

ends_tree : (a : Node) (p : Place) (parts rest : Forest) (e : List ℕ) → NodeEnds [] a parts → ((i : ℕ) → all fin i rest ≡ e) → (i : ℕ) → all fin i (tree a p parts rest) ≡ e
ends_tree a p parts rest e x y i = all_tree fin i a p parts rest ∙ both_ends _ _ [] e (x (roots (suc i) parts) (suc i)) (y (suc (i + size parts)))

abbrev EndsOf : Part → Forest → Type 0
EndsOf (f.expression a) t = NodeEnds [] a t
EndsOf (f.function a) t = NodeEnds [] a t
EndsOf (f.program a) t = NodeEnds (0 ∷ []) a t
EndsOf (f.pattern a xs) t = NodeEnds [] a t
EndsOf (f.declaration a h) t = NodeEnds [] a t
EndsOf _ t = ListEnds t

pub ends_of : {z : Sizes} {g : Context} {m n : Made} (r : Part) (t : Forest) → Is z g m n r t → EndsOf r t
ends_of r t (f.before q h) = ends_of r t h
ends_of r t (f.after h q) = ends_of r t h
ends_of r t f.no_expression = λ i. refl
ends_of r t f.no_function = λ i. refl
ends_of r t f.no_pattern = λ i. refl
ends_of r t f.no_rule = λ i. refl
ends_of r t f.no_binding = λ i. refl
ends_of r t f.no_declaration = λ i. refl
ends_of r t (f.more_expressions {a = a} {p = p} {parts = parts} {rest = rest} {j = j} h i) = ends_tree a p parts rest [] (ends_of (f.expression a) parts h) (ends_of (f.expressions j) rest i)
ends_of r t (f.more_functions {a = a} {p = p} {parts = parts} {rest = rest} {j = j} h i) = ends_tree a p parts rest [] (ends_of (f.function a) parts h) (ends_of (f.functions j) rest i)
ends_of r t (f.more_patterns {a = a} {p = p} {parts = parts} {rest = rest} {j = j} {xs = xs} {ys = ys} h i) = ends_tree a p parts rest [] (ends_of (f.pattern a xs) parts h) (ends_of (f.patterns j ys) rest i)
ends_of r t (f.more_rules {a = a} {b = b} {p = p} {q = q} {parts = parts} {inner = inner} {rest = rest} {xs = xs} h k o) = ends_tree a p parts (tree b q inner rest) [] (ends_of (f.pattern a xs) parts h) (ends_tree b q inner rest [] (ends_of (f.expression b) inner k) (ends_of f.rules rest o))
ends_of r t (f.more_bindings {a = a} {b = b} {p = p} {q = q} {parts = parts} {inner = inner} {rest = rest} {j = j} {xs = xs} {ys = ys} h k o) = ends_tree a p parts (tree b q inner rest) [] (ends_of (f.pattern a xs) parts h) (ends_tree b q inner rest [] (ends_of (f.expression b) inner k) (ends_of (f.bindings j ys) rest o))
ends_of r t (f.more_declarations {h = d} {i = e} {a = a} {p = p} {parts = parts} {rest = rest} h i) = ends_tree a p parts rest [] (ends_of (f.declaration a d) parts h) (ends_of (f.declarations e) rest i)
ends_of r t (f.is_int i o) = λ rs i. refl
ends_of r t (f.is_char c o) = λ rs i. refl
ends_of r t (f.is_text x o) = λ rs i. refl
ends_of r t (f.is_variable x o) = λ rs i. refl
ends_of r t (f.is_constructor c o e) = λ rs i. refl
ends_of r t (f.is_builtin b e) = λ rs i. refl
ends_of r t (f.is_record labs o h) = λ rs i. ends_of (f.expressions (length labs)) t h i
ends_of r t (f.is_app h) = λ rs i. ends_of f.call t h i
ends_of r t (f.call_expression h) = λ i. ends_of (f.expressions 2) t h i
ends_of r t (f.call_constructor {p = p} {f = rest} c o h) = ends_tree (node.Constructor c) p none rest [] (λ rs i. refl) (ends_of (f.expressions 1) rest h)
ends_of r t (f.call_builtin {p = p} {f = rest} b h) = ends_tree (node.Builtin b) p none rest [] (λ rs i. refl) (ends_of (f.expressions 1) rest h)
ends_of r t (f.is_case {a = a} {p = p} {parts = parts} {rest = rest} h i) = λ rs j. ends_tree a p parts rest [] (ends_of (f.expression a) parts h) (ends_of f.rules rest i) j
ends_of r t (f.is_fn h) = λ rs i. ends_of (f.rules) t h i
ends_of r t (f.is_raise h) = λ rs i. ends_of (f.expressions 1) t h i
ends_of r t (f.is_handle {a = a} {p = p} {parts = parts} {rest = rest} h i) = λ rs j. ends_tree a p parts rest [] (ends_of (f.expression a) parts h) (ends_of f.rules rest i) j
ends_of r t (f.is_typed y o h) = λ rs i. ends_of (f.expressions 1) t h i
ends_of r t (f.is_let {h = e} {a = a} {b = b} {p = p} {q = q} {parts = parts} {inner = inner} h i) = λ rs j. ends_tree a p parts (tree b q inner none) [] (ends_of (f.declaration a e) parts h) (ends_tree b q inner none [] (ends_of (f.expression b) inner i) (λ l. refl)) j
ends_of r t (f.fn_function h) = λ rs i. ends_of (f.rules) t h i
ends_of r t (f.typed_function y o h) = λ rs i. ends_of (f.functions 1) t h i
ends_of r t f.is_wild = λ rs i. refl
ends_of r t (f.int_pattern i o) = λ rs i. refl
ends_of r t (f.char_pattern c o) = λ rs i. refl
ends_of r t (f.text_pattern x o) = λ rs i. refl
ends_of r t (f.variable_pattern x e) = λ rs i. refl
ends_of r t (f.con_pattern c o) = λ rs i. refl
ends_of r t (f.apply_pattern {xs = xs} c o h) = λ rs i. ends_of (f.patterns 1 xs) t h i
ends_of r t (f.record_pattern {xs = xs} labs o h) = λ rs i. ends_of (f.patterns (length labs) xs) t h i
ends_of r t (f.typed_pattern {xs = xs} y o h) = λ rs i. ends_of (f.patterns 1 xs) t h i
ends_of r t (f.as_pattern {xs = xs} x e h) = λ rs i. ends_of (f.patterns 1 xs) t h i
ends_of r t (f.con_as_pattern {xs = xs} x e h) = λ rs i. ends_of (f.patterns 1 xs) t h i
ends_of r t (f.is_val {j = j} {xs = xs} vs o h) = λ rs i. ends_of (f.bindings j xs) t h i
ends_of r t (f.is_val_rec vs xs o e h) = λ rs i. ends_of (f.functions (length xs)) t h i
ends_of r t (f.is_type bs o) = λ rs i. refl
ends_of r t (f.is_datatype bs o e i) = λ rs j. refl
ends_of r t (f.is_exception x arg e o) = λ rs i. refl
ends_of r t (f.same_exception x c e o) = λ rs i. refl
ends_of r t (f.not_exception x e) = λ rs i. refl
ends_of r t f.program_end = λ rs i. refl
ends_of r t (f.program_let {h = e} {a = a} {b = b} {p = p} {q = q} {parts = parts} {inner = inner} h i) = λ rs j. ends_tree a p parts (tree b q inner none) (0 ∷ []) (ends_of (f.declaration a e) parts h) (λ l. all_tree fin l b q inner none ∙ append-nil _ ∙ ends_of (f.program b) inner i _ (suc l)) j

add_one : (k : ℕ) (xs : List Node) (l : ℕ) → fold (λ a x. a + cond (is_finish x) 1 0) (k + 1) xs ≡ (k + 1) + l → fold (λ a x. a + cond (is_finish x) 1 0) (k + 1) xs ≡ k + suc l
add_one k xs l e = e ∙ (omega arith)

add_none : (k : ℕ) (xs : List Node) (l : ℕ) → fold (λ a x. a + cond (is_finish x) 1 0) (k + 0) xs ≡ (k + 0) + l → fold (λ a x. a + cond (is_finish x) 1 0) (k + 0) xs ≡ k + l
add_none k xs l e = e ∙ (omega arith)

fold_fin : (xs : List Node) (k : ℕ) → fold (λ a x. a + cond (is_finish x) 1 0) k xs ≡ k + length (flat_map fin xs)
fold_fin [] k = omega arith
fold_fin (node.Finish ∷ xs) k = add_one k xs (length (flat_map fin xs)) (fold_fin xs (k + 1))
fold_fin (_ ∷ xs) k = add_none k xs (length (flat_map fin xs)) (fold_fin xs (k + 0))

count_fin : (xs : List Node) → count_by is_finish xs ≡ length (flat_map fin xs)
count_fin xs = fold_fin xs 0 ∙ (omega arith)

pub ends_once : {z : Sizes} {g : Context} {m n : Made} (a : Node) (p : Place) (parts : Forest) → Is z g m n (f.program a) parts → count_by is_finish (numbered 0 (grown a p parts)) ≡ 1
ends_once a p parts h = count_fin (numbered 0 (grown a p parts)) ∙ ap length (all_tree fin 0 a p parts none ∙ append-nil _ ∙ ends_of (f.program a) parts h (roots 1 parts) 1)

-- ---- The nest

nest_parts : (g h : ℕ → Bool) (i : ℕ) (n : Node) → AllByRecursion (λ c. g c ≡ h c) (node_parts n) → nest_of g i n ≡ nest_of h i n
nest_parts g h i (node.Let d e) a = a.1.0
nest_parts g h i _ a = refl

lets_parts : (g h : ℕ → List ℕ) (i : ℕ) (n : Node) → AllByRecursion (λ c. g c ≡ h c) (node_parts n) → lets_of g i n ≡ lets_of h i n
lets_parts g h i (node.Let d e) a = ap (λ l. i ∷ l) a.1.0
lets_parts g h i _ a = refl

-- the numbers of the `Let` nodes of declarations
abbrev pub let_numbers : ℕ → Forest → List ℕ
let_numbers i none = []
let_numbers i (tree n q parts rest) = i ∷ let_numbers (suc (suc (i + size parts))) rest

abbrev pub all_lets : ℕ → List Top → List ℕ
all_lets i [] = []
all_lets i (t ∷ tops) = let_numbers i t.forest ++ all_lets (i + nested t.forest) tops

abbrev Rooted : Forest → Type 0
Rooted t = (j : ℕ) → get_or (roots j t) 0 0 ≡ j

rooted_nest : (q : Place) (d e : Forest) → Rooted e → Rooted (nest q d e)
rooted_nest q none e h = h
rooted_nest q (tree n r parts rest) e h = λ j. refl

rooted_program : (q : Place) (tops : List Top) → Rooted (program q tops)
rooted_program q [] = λ j. refl
rooted_program q (t ∷ tops) = rooted_nest t.place t.forest (program q tops) (rooted_program q tops)

second_root : (i : ℕ) (t : Forest) (j : ℕ) → Rooted t → get_or (i ∷ roots j t) 1 0 ≡ j
second_root i t j h = h j

module _ (nodes : List Node) (num : IsNumbered nodes) where
  nested_true : ℕ → Type 0
  nested_true i = from_parts false nest_of nodes i ≡ true

  nest_at : (q : Place) (d e : Forest) (i : ℕ) → Rooted e → At nodes i (nest q d e) → ((j : ℕ) → j ≡ i + nested d → At nodes j e → from_parts false nest_of nodes j ≡ true) → from_parts false nest_of nodes i ≡ true
  nest_at q none e i r at h = h i (omega arith) at
  nest_at q (tree n p parts rest) e i r at h =
      let j = suc (suc (i + size parts)) in
      by_parts false nest_of (λ x y. x ≡ y) refl nest_parts nodes num i
      ∙ ap (at_node false nest_of (from_parts false nest_of nodes) i) at.0
      ∙ ap (from_parts false nest_of nodes) (second_root (suc i) (nest q rest e) (suc (suc i + size parts)) (rooted_nest q rest e r))
      ∙ (let z : suc (suc i + size parts) ≡ j = omega arith in
      subst (λ k. from_parts false nest_of nodes k ≡ true) (sym z) (nest_at q rest e j r (subst (λ k. At nodes k (nest q rest e)) z at.1.2) (λ l s a. h l (omega (arith, s)) a)))

  pub nest_is : (q : Place) (tops : List Top) (i : ℕ) → At nodes i (program q tops) → from_parts false nest_of nodes i ≡ true
  nest_is q [] i at = by_parts false nest_of (λ x y. x ≡ y) refl nest_parts nodes num i ∙ ap (at_node false nest_of (from_parts false nest_of nodes) i) at.0
  nest_is q (t ∷ tops) i at = nest_at t.place t.forest (program q tops) i (rooted_program q tops) at (λ j e a. nest_is q tops j a)

  lets_at : (q : Place) (d e : Forest) (i : ℕ) (ls : List ℕ) → Rooted e → At nodes i (nest q d e) → ((j : ℕ) → j ≡ i + nested d → At nodes j e → from_parts [] lets_of nodes j ≡ ls) → from_parts [] lets_of nodes i ≡ let_numbers i d ++ ls
  lets_at q none e i ls r at h = h i (omega arith) at
  lets_at q (tree n p parts rest) e i ls r at h =
      let j = suc (suc (i + size parts)) in
      by_parts [] lets_of (λ x y. x ≡ y) refl lets_parts nodes num i
      ∙ ap (at_node [] lets_of (from_parts [] lets_of nodes) i) at.0
      ∙ ap (λ k. i ∷ from_parts [] lets_of nodes k) (second_root (suc i) (nest q rest e) (suc (suc i + size parts)) (rooted_nest q rest e r))
      ∙ ap (λ l. i ∷ l) (let z : suc (suc i + size parts) ≡ j = omega arith in
      ap (from_parts [] lets_of nodes) z ∙ lets_at q rest e j ls r (subst (λ k. At nodes k (nest q rest e)) z at.1.2) (λ l s a. h l (omega (arith, s)) a))

  pub lets_are : (q : Place) (tops : List Top) (i : ℕ) → At nodes i (program q tops) → from_parts [] lets_of nodes i ≡ all_lets i tops
  lets_are q [] i at = by_parts [] lets_of (λ x y. x ≡ y) refl lets_parts nodes num i ∙ ap (at_node [] lets_of (from_parts [] lets_of nodes) i) at.0
  lets_are q (t ∷ tops) i at = lets_at t.place t.forest (program q tops) i (all_lets (i + nested t.forest) tops) (rooted_program q tops) at
      (λ j e a. lets_are q tops j a ∙ ap (λ k. all_lets k tops) e)

-- ---- Top-level declarations

has_among : (x : ℕ) (xs : List ℕ) → Among x xs → has xs x ≡ true
has_among x [] a = absurd a
has_among x (y ∷ xs) (inl e) = ap (λ w. w || has xs x) (eq-eqb x y e)
has_among x (y ∷ xs) (inr a) = right (nat_eq x y) (has xs x) (has_among x xs a)
  where
    right : (a b : Bool) → b ≡ true → (a || b) ≡ true
    right true b h = refl
    right false b h = h

all_has : (ls xs : List ℕ) → AllByRecursion (λ k. Among k ls) xs → AllByRecursion (λ k. has ls k ≡ true) xs
all_has ls [] h = tt
all_has ls (x ∷ xs) h = (has_among x ls h.0, all_has ls xs h.1)

all_right : (front ls xs : List ℕ) → AllByRecursion (λ k. Among k ls) xs → AllByRecursion (λ k. Among k (front ++ ls)) xs
all_right front ls [] h = tt
all_right front ls (x ∷ xs) h = (among_right x front ls h.0, all_right front ls xs h.1)

decs_in : (i : ℕ) (tops : List Top) → AllByRecursion (λ k. Among k (all_lets i tops)) (p.lets i tops)
decs_in i [] = tt
decs_in i (t ∷ tops) = go t.forest (decs_in (i + nested t.forest) tops)
  where
    go : (f : Forest) → AllByRecursion (λ k. Among k (all_lets (i + nested f) tops)) (p.lets (i + nested f) tops) → AllByRecursion (λ k. Among k (let_numbers i f ++ all_lets (i + nested f) tops)) (outermost i f ++ p.lets (i + nested f) tops)
    go none h = h
    go (tree n q parts rest) h = (inl refl, all_right (i ∷ let_numbers (suc (suc (i + size parts))) rest) (all_lets (i + nested (tree n q parts rest)) tops) (p.lets (i + nested (tree n q parts rest)) tops) h)

decs_ascend : (tops : List Top) (from i : ℕ) → from ≤ i → IsAscending from (p.lets i tops)
decs_ascend [] from i le = tt
decs_ascend (t ∷ tops) from i le = go t.forest (λ f j l. decs_ascend tops f j l)
  where
    go : (f : Forest) → ((from j : ℕ) → from ≤ j → IsAscending from (p.lets j tops)) → IsAscending from (outermost i f ++ p.lets (i + nested f) tops)
    go none h = h from (i + 0) (omega (arith, le))
    go (tree n q parts rest) h = (le, h (suc i) (i + nested (tree n q parts rest)) (omega arith))

pub first_is : (i : ℕ) (tops : List Top) → slice_get (p.lets i tops) 0 ≡ slice_get (all_lets i tops) 0
first_is i [] = refl
first_is i (t ∷ tops) = go t.forest (first_is (i + nested t.forest) tops)
  where
    go : (f : Forest) → slice_get (p.lets (i + nested f) tops) 0 ≡ slice_get (all_lets (i + nested f) tops) 0 → slice_get (outermost i f ++ p.lets (i + nested f) tops) 0 ≡ slice_get (let_numbers i f ++ all_lets (i + nested f) tops) 0
    go none h = h
    go (tree n q parts rest) h = refl

pub decs_are : (tops : List Top) → IsAscending 0 (p.lets 0 tops) × AllByRecursion (λ k. has (all_lets 0 tops) k ≡ true) (p.lets 0 tops)
decs_are tops = (decs_ascend tops 0 0 (omega arith), all_has (all_lets 0 tops) (p.lets 0 tops) (decs_in 0 tops))

-- ---- Those that are shown

shown_then : (f : Forest) (bs : List Bool) (i from : ℕ) (rest : List ℕ) → from ≤ suc i → ((from : ℕ) → from ≤ suc (i + nested f) → IsAscending from rest) → IsAscending from (shown_in i f bs ++ rest)
shown_then none bs i from rest le h = h from (omega (arith, le))
shown_then (tree n q parts others) [] i from rest le h = h from (omega (arith, le))
shown_then (tree n q parts others) (b ∷ bs) i from rest le h =
    let j = suc (suc (i + size parts)) in
    go (b && p.is_value n) (λ f l. shown_then others bs j f rest l (λ g k. h g (omega (arith, k))))
  where
    go : (c : Bool) → ((f : ℕ) → f ≤ suc (suc (suc (i + size parts))) → IsAscending f (shown_in (suc (suc (i + size parts))) others bs ++ rest)) → IsAscending from (((if c then suc i ∷ [] else []) ++ shown_in (suc (suc (i + size parts))) others bs) ++ rest)
    go true r = (le, r (suc (suc i)) (omega arith))
    go false r = r from (omega (arith, le))

shown_ascend : (tops : List Top) (from i : ℕ) → from ≤ suc i → IsAscending from (all_shown i tops)
shown_ascend [] from i le = tt
shown_ascend (t ∷ tops) from i le = shown_then t.forest t.shown i from (all_shown (i + nested t.forest) tops) le (λ f l. shown_ascend tops f (i + nested t.forest) l)

value_same : (n : Node) (rs : List ℕ) → p.is_value n ≡ true → spec.is_value (Some (with_parts n rs)) ≡ true
value_same (node.Val vs bindings) rs e = refl
value_same (node.ValRec vs bindings) rs e = refl
value_same _ rs e = absurd cc

module _ (nodes : List Node) where
  -- the value declaration d is one of those of the nest
  record ShownAt (ls : List ℕ) (d : ℕ) : Type 0 where
    at : ℕ
    among : Among at ls
    dec : dec_at (slice_get nodes at) ≡ d ∷ []
    value : spec.is_value (slice_get nodes d) ≡ true

  shown_left : (xs ys ds : List ℕ) → AllByRecursion (ShownAt xs) ds → AllByRecursion (ShownAt (xs ++ ys)) ds
  shown_left xs ys [] h = tt
  shown_left xs ys (d ∷ ds) h = let o = h.0 in (record { at = o.at; among = among_left o.at xs ys o.among; dec = o.dec; value = o.value }, shown_left xs ys ds h.1)

  shown_right : (xs ys ds : List ℕ) → AllByRecursion (ShownAt ys) ds → AllByRecursion (ShownAt (xs ++ ys)) ds
  shown_right xs ys [] h = tt
  shown_right xs ys (d ∷ ds) h = let o = h.0 in (record { at = o.at; among = among_right o.at xs ys o.among; dec = o.dec; value = o.value }, shown_right xs ys ds h.1)

  both_shown : (ls ds es : List ℕ) → AllByRecursion (ShownAt ls) ds → AllByRecursion (ShownAt ls) es → AllByRecursion (ShownAt ls) (ds ++ es)
  both_shown ls [] es a b = b
  both_shown ls (d ∷ ds) es a b = (a.0, both_shown ls ds es a.1 b)

  shown_at : (q : Place) (f e : Forest) (bs : List Bool) (i : ℕ) → At nodes i (nest q f e) → AllByRecursion (ShownAt (let_numbers i f)) (shown_in i f bs)
  shown_at q none e bs i at = tt
  shown_at q (tree n r parts rest) e [] i at = tt
  shown_at q (tree n r parts rest) e (b ∷ bs) i at =
      let j = suc (suc (i + size parts)) in
      let z : suc (suc i + size parts) ≡ j = omega arith in
      let others = shown_right (i ∷ []) (let_numbers j rest) (shown_in j rest bs) (shown_at q rest e bs j (subst (λ k. At nodes k (nest q rest e)) z at.1.2)) in
      go (b && p.is_value n) refl others
    where
      value_of : (b : Bool) → (b && p.is_value n) ≡ true → p.is_value n ≡ true
      value_of true h = h
      value_of false h = absurd cc

      go : (c : Bool) → (b && p.is_value n) ≡ c → AllByRecursion (ShownAt (i ∷ let_numbers (suc (suc (i + size parts))) rest)) (shown_in (suc (suc (i + size parts))) rest bs) → AllByRecursion (ShownAt (i ∷ let_numbers (suc (suc (i + size parts))) rest)) ((if c then suc i ∷ [] else []) ++ shown_in (suc (suc (i + size parts))) rest bs)
      go true h o = (record { at = i; among = inl refl; dec = ap dec_at at.0; value = ap spec.is_value at.1.0 ∙ value_same n (roots (suc (suc i)) parts) (value_of b h) }, o)
      go false h o = o

  at_end : (q : Place) (f e : Forest) (i : ℕ) → At nodes i (nest q f e) → At nodes (i + nested f) e
  at_end q none e i at = let z : i ≡ i + 0 = omega arith in subst (λ k. At nodes k e) z at
  at_end q (tree n r parts rest) e i at =
      let z : suc (suc i + size parts) + nested rest ≡ i + (suc (suc (size parts)) + nested rest) = omega arith in
      subst (λ k. At nodes k e) z (at_end q rest e (suc (suc i + size parts)) at.1.2)

  all_shown_at : (q : Place) (tops : List Top) (i : ℕ) → At nodes i (program q tops) → AllByRecursion (ShownAt (all_lets i tops)) (all_shown i tops)
  all_shown_at q [] i at = tt
  all_shown_at q (t ∷ tops) i at =
      let j = i + nested t.forest in
      both_shown (all_lets i (t ∷ tops)) (shown_in i t.forest t.shown) (all_shown j tops)
      (shown_left (let_numbers i t.forest) (all_lets j tops) (shown_in i t.forest t.shown) (shown_at t.place t.forest (program q tops) t.shown i at))
      (shown_right (let_numbers i t.forest) (all_lets j tops) (all_shown j tops) (all_shown_at q tops j (at_end t.place t.forest (program q tops) i at)))

  flat_among : (ls : List ℕ) (at d : ℕ) → Among at ls → dec_at (slice_get nodes at) ≡ d ∷ [] → Among d (flat_map (λ i. dec_at (slice_get nodes i)) ls)
  flat_among [] at d a e = absurd a
  flat_among (x ∷ ls) at d (inl s) e =
      let h : dec_at (slice_get nodes x) ≡ d ∷ [] = ap (λ w. dec_at (slice_get nodes w)) (sym s) ∙ e in
      subst (λ l. Among d (l ++ flat_map (λ i. dec_at (slice_get nodes i)) ls)) (sym h) (inl refl)
  flat_among (x ∷ ls) at d (inr a) e = among_right d (dec_at (slice_get nodes x)) (flat_map (λ i. dec_at (slice_get nodes i)) ls) (flat_among ls at d a e)

  filter_among : (xs : List ℕ) (d : ℕ) → Among d xs → spec.is_value (slice_get nodes d) ≡ true → Among d (filter (λ d. spec.is_value (slice_get nodes d)) xs)
  filter_among [] d a e = absurd a
  filter_among (x ∷ xs) d a e = go (spec.is_value (slice_get nodes x)) refl a (λ m. filter_among xs d m e)
    where
      go : (c : Bool) → spec.is_value (slice_get nodes x) ≡ c → Among d (x ∷ xs) → (Among d xs → Among d (filter (λ d. spec.is_value (slice_get nodes d)) xs)) → Among d (cond c (x ∷ filter (λ d. spec.is_value (slice_get nodes d)) xs) (filter (λ d. spec.is_value (slice_get nodes d)) xs))
      go true h (inl s) r = inl s
      go true h (inr m) r = inr (r m)
      go false h (inl s) r = absurd (no (sym e ∙ ap (λ w. spec.is_value (slice_get nodes w)) s ∙ h))
        where
          no : true ≡ false → ⊥
          no e = cc
      go false h (inr m) r = r m

  all_values : (ls ds : List ℕ) → spec.lets nodes ≡ ls → AllByRecursion (ShownAt ls) ds → AllByRecursion (λ d. has (spec.values nodes) d ≡ true) ds
  all_values ls [] e h = tt
  all_values ls (d ∷ ds) e h =
      let o = h.0 in
      let m = filter_among (flat_map (λ i. dec_at (slice_get nodes i)) ls) d (flat_among ls o.at d o.among o.dec) o.value in
      (subst (λ l. has (filter (λ d. spec.is_value (slice_get nodes d)) (flat_map (λ i. dec_at (slice_get nodes i)) l)) d ≡ true) (sym e) (has_among d (filter (λ d. spec.is_value (slice_get nodes d)) (flat_map (λ i. dec_at (slice_get nodes i)) ls)) m), all_values ls ds e h.1)

  pub shown_are : (q : Place) (tops : List Top) → At nodes 0 (program q tops) → spec.lets nodes ≡ all_lets 0 tops → IsAscending 0 (all_shown 0 tops) × AllByRecursion (λ d. has (spec.values nodes) d ≡ true) (all_shown 0 tops)
  shown_are q tops at e = (shown_ascend tops 0 0 (omega arith), all_values (all_lets 0 tops) (all_shown 0 tops) e (all_shown_at q tops 0 at))
