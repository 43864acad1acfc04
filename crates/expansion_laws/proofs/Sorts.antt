-- Each node that is made has the parts that stand there, each of its sort.
use Rattle.std.proofs.Common.{◌≡◌, ℕ, suc, ◌+◌, true, List, [], ◌∷◌, map, length, refl, sym, ap, ◌∙◌, Some, arith}
use Rattle.std.specs.Prelude.{slice_get, flat_map}
use Rattle.std.specs.List.{AllByRecursion}
use Rattle.std.specs.Option.{option_map}
use Rattle.std.proofs.lemmas.List.{length-map}
use Rattle.smlc_base.specs.declared.place.Place.{Place}
use Rattle.sml_tree.specs.declared.bare.Node.{Node}
use Rattle.sml_tree.specs.declared.bare.Field.{Field}
use Rattle.sml_tree.specs.declared.bare.Lab.{Lab}
use Rattle.sml_tree.specs.declared.bare.RecBinding.{RecBinding}
use Rattle.sml_tree.specs.BareParts.{rule_parts}
use Rattle.sml_tree.specs.IsBare.{Sort, Expression, Pattern, Declaration, sort_of, IsOf, HasRules, HasSorts, is_function, function_of}
use Rattle.sml_expansion.specs.declared.made.Made.{Made}
use Rattle.sml_expansion.specs.Forests.{Forest, none, tree, size, count, roots, with_parts, fields_at, rules_at, bindings_at, rec_bindings_at, part}
use Rattle.sml_expansion.specs.Bare.{fields}
use Rattle.sml_expansion.specs.Labels.{slot}
use Rattle.expansion_laws.proofs.Contexts.{Context}
use Rattle.expansion_laws.proofs.Forms as f
use Rattle.expansion_laws.proofs.Forms.{Sizes, Is, Part}
use Rattle.expansion_laws.proofs.Joined.{counted, counted_patterns, counted_call}
use Rattle.expansion_laws.proofs.Positions.{At, EachTree, Fits, Fit}

pub counted_functions : {z : Sizes} {g : Context} {m n : Made} {j : ℕ} {t : Forest} → Is z g m n (f.functions j) t → count t ≡ j
counted_functions (f.before q h) = counted_functions h
counted_functions (f.after h q) = counted_functions h
counted_functions f.no_function = refl
counted_functions (f.more_functions h r) = ap suc (counted_functions r)

pub many_roots : (i : ℕ) (t : Forest) → length (roots i t) ≡ count t
many_roots i none = refl
many_roots i (tree n p parts rest) = ap suc (many_roots (suc (i + size parts)) rest)

one_part : (rs : List ℕ) → length rs ≡ 1 → part 0 rs ∷ [] ≡ rs
one_part [] e = cc
one_part (x ∷ []) e = refl
one_part (x ∷ y ∷ rs) e = absurd (omega (arith, e))

two_parts : (rs : List ℕ) → length rs ≡ 2 → part 0 rs ∷ part 1 rs ∷ [] ≡ rs
two_parts [] e = cc
two_parts (x ∷ []) e = absurd (omega (arith, e))
two_parts (x ∷ y ∷ []) e = refl
two_parts (x ∷ y ∷ w ∷ rs) e = absurd (omega (arith, e))

field_parts : (rs : List ℕ) (fs : List Field) → length rs ≡ length fs → map (λ f. f.node) (fields_at rs fs) ≡ rs
field_parts [] [] e = refl
field_parts [] (x ∷ fs) e = cc
field_parts (r ∷ rs) [] e = cc
field_parts (r ∷ rs) (x ∷ fs) e = ap (λ l. r ∷ l) (field_parts rs fs (let h : length rs ≡ length fs = omega (arith, e) in h))

rec_parts : (rs : List ℕ) (bs : List RecBinding) → length rs ≡ length bs → map (λ b. b.right) (rec_bindings_at rs bs) ≡ rs
rec_parts [] [] e = refl
rec_parts [] (x ∷ fs) e = cc
rec_parts (r ∷ rs) [] e = cc
rec_parts (r ∷ rs) (x ∷ bs) e = ap (λ l. r ∷ l) (rec_parts rs bs (let h : length rs ≡ length bs = omega (arith, e) in h))

abbrev pub rec_of : List ℕ → List RecBinding
rec_of xs = map (λ x. record { name = record { 0 = x }; right = 0 }) xs

pub many_fields : (labs : List Lab) (i : ℕ) (t : Forest) → count t ≡ length labs → length (roots i t) ≡ length (fields labs)
many_fields labs i t e = many_roots i t ∙ e ∙ sym (length-map {B = Field} labs (λ l. record { lab = l; slot = slot labs l; node = 0 }))

pub many_rec : (xs : List ℕ) (i : ℕ) (t : Forest) → count t ≡ length xs → length (roots i t) ≡ length (rec_of xs)
many_rec xs i t e = many_roots i t ∙ e ∙ sym (length-map {B = RecBinding} xs (λ x. record { name = record { 0 = x }; right = 0 }))

-- ---- Parts

abbrev pub FitOf : Part → Forest → Type 0
FitOf (f.expression a) t = Fits a t × Fit t
FitOf (f.function a) t = Fits a t × Fit t
FitOf (f.program a) t = Fits a t × Fit t
FitOf (f.pattern a xs) t = Fits a t × Fit t
FitOf (f.declaration a h) t = Fits a t × Fit t
FitOf f.rules t = Fit t × ((i : ℕ) → flat_map rule_parts (rules_at (roots i t)) ≡ roots i t)
FitOf (f.bindings j xs) t = Fit t × ((i : ℕ) → flat_map (λ b. b.pat ∷ b.right ∷ []) (bindings_at (roots i t)) ≡ roots i t)
FitOf (f.expressions j) t = Fit t
FitOf (f.functions j) t = Fit t
FitOf f.call t = Fit t
FitOf (f.patterns j xs) t = Fit t
FitOf (f.declarations h) t = Fit t

pub fit_of : {z : Sizes} {g : Context} {m n : Made} (r : Part) (t : Forest) → Is z g m n r t → FitOf r t
fit_of r t (f.before q h) = fit_of r t h
fit_of r t (f.after h q) = fit_of r t h
fit_of r t f.no_expression = tt
fit_of r t (f.more_expressions {a = a} {parts = parts} {rest = rest} {j = j} h i) = let x = fit_of (f.expression a) parts h in (x.0, x.1, fit_of (f.expressions j) rest i)
fit_of r t f.no_function = tt
fit_of r t (f.more_functions {a = a} {parts = parts} {rest = rest} {j = j} h i) = let x = fit_of (f.function a) parts h in (x.0, x.1, fit_of (f.functions j) rest i)
fit_of r t f.no_pattern = tt
fit_of r t (f.more_patterns {a = a} {parts = parts} {rest = rest} {j = j} {xs = xs} {ys = ys} h i) = let x = fit_of (f.pattern a xs) parts h in (x.0, x.1, fit_of (f.patterns j ys) rest i)
fit_of r t f.no_rule = (tt, λ i. refl)
fit_of r t (f.more_rules {a = a} {b = b} {parts = parts} {inner = inner} {rest = rest} {xs = xs} h i o) =
    let x = fit_of (f.pattern a xs) parts h in let y = fit_of (f.expression b) inner i in let w = fit_of f.rules rest o in
    ((x.0, x.1, (y.0, y.1, w.0)), λ i. ap (λ l. i ∷ suc (i + size parts) ∷ l) (w.1 (suc (suc (i + size parts) + size inner))))
fit_of r t f.no_binding = (tt, λ i. refl)
fit_of r t (f.more_bindings {a = a} {b = b} {parts = parts} {inner = inner} {rest = rest} {j = j} {xs = xs} {ys = ys} h i o) =
    let x = fit_of (f.pattern a xs) parts h in let y = fit_of (f.expression b) inner i in let w = fit_of (f.bindings j ys) rest o in
    ((x.0, x.1, (y.0, y.1, w.0)), λ i. ap (λ l. i ∷ suc (i + size parts) ∷ l) (w.1 (suc (suc (i + size parts) + size inner))))
fit_of r t f.no_declaration = tt
fit_of r t (f.more_declarations {h = d} {i = e} {a = a} {parts = parts} {rest = rest} h i) = let x = fit_of (f.declaration a d) parts h in (x.0, x.1, fit_of (f.declarations e) rest i)
fit_of r t (f.is_int i o) = ((λ j. refl), tt)
fit_of r t (f.is_char c o) = ((λ j. refl), tt)
fit_of r t (f.is_text x o) = ((λ j. refl), tt)
fit_of r t (f.is_variable x o) = ((λ j. refl), tt)
fit_of r t (f.is_constructor c o e) = ((λ j. refl), tt)
fit_of r t (f.is_builtin b e) = ((λ j. refl), tt)
fit_of r t (f.is_record labs o h) = ((λ j. field_parts (roots j t) (fields labs) (many_fields labs j t (counted h))), fit_of (f.expressions (length labs)) t h)
fit_of r t (f.is_app h) = ((λ j. two_parts (roots j t) (many_roots j t ∙ counted_call h)), fit_of f.call t h)
fit_of r t (f.call_expression h) = fit_of (f.expressions 2) t h
fit_of r t (f.call_constructor {f = rest} c o h) = ((λ j. refl), tt, fit_of (f.expressions 1) rest h)
fit_of r t (f.call_builtin {f = rest} b h) = ((λ j. refl), tt, fit_of (f.expressions 1) rest h)
fit_of r t (f.is_case {a = a} {parts = parts} {rest = rest} h i) = let x = fit_of (f.expression a) parts h in let w = fit_of f.rules rest i in ((λ j. ap (λ l. j ∷ l) (w.1 (suc (j + size parts)))), (x.0, x.1, w.0))
fit_of r t (f.is_fn h) = let w = fit_of f.rules t h in (w.1, w.0)
fit_of r t (f.is_raise h) = ((λ j. one_part (roots j t) (many_roots j t ∙ counted h)), fit_of (f.expressions 1) t h)
fit_of r t (f.is_handle {a = a} {parts = parts} {rest = rest} h i) = let x = fit_of (f.expression a) parts h in let w = fit_of f.rules rest i in ((λ j. ap (λ l. j ∷ l) (w.1 (suc (j + size parts)))), (x.0, x.1, w.0))
fit_of r t (f.is_typed y o h) = ((λ j. one_part (roots j t) (many_roots j t ∙ counted h)), fit_of (f.expressions 1) t h)
fit_of r t (f.is_let {h = d} {a = a} {b = b} {parts = parts} {inner = inner} h i) = let x = fit_of (f.declaration a d) parts h in let y = fit_of (f.expression b) inner i in ((λ j. refl), (x.0, x.1, (y.0, y.1, tt)))
fit_of r t (f.fn_function h) = let w = fit_of f.rules t h in (w.1, w.0)
fit_of r t (f.typed_function y o h) = ((λ j. one_part (roots j t) (many_roots j t ∙ counted_functions h)), fit_of (f.functions 1) t h)
fit_of r t f.is_wild = ((λ j. refl), tt)
fit_of r t (f.int_pattern i o) = ((λ j. refl), tt)
fit_of r t (f.char_pattern c o) = ((λ j. refl), tt)
fit_of r t (f.text_pattern x o) = ((λ j. refl), tt)
fit_of r t (f.variable_pattern x e) = ((λ j. refl), tt)
fit_of r t (f.con_pattern c o) = ((λ j. refl), tt)
fit_of r t (f.apply_pattern {xs = xs} c o h) = ((λ j. one_part (roots j t) (many_roots j t ∙ counted_patterns h)), fit_of (f.patterns 1 xs) t h)
fit_of r t (f.record_pattern {xs = xs} labs o h) = ((λ j. field_parts (roots j t) (fields labs) (many_fields labs j t (counted_patterns h))), fit_of (f.patterns (length labs) xs) t h)
fit_of r t (f.typed_pattern {xs = xs} y o h) = ((λ j. one_part (roots j t) (many_roots j t ∙ counted_patterns h)), fit_of (f.patterns 1 xs) t h)
fit_of r t (f.as_pattern {xs = xs} x e h) = ((λ j. one_part (roots j t) (many_roots j t ∙ counted_patterns h)), fit_of (f.patterns 1 xs) t h)
fit_of r t (f.con_as_pattern {xs = xs} x e h) = ((λ j. one_part (roots j t) (many_roots j t ∙ counted_patterns h)), fit_of (f.patterns 1 xs) t h)
fit_of r t (f.is_val {j = j} {xs = xs} vs o h) = let w = fit_of (f.bindings j xs) t h in (w.1, w.0)
fit_of r t (f.is_val_rec vs xs o e h) = ((λ j. rec_parts (roots j t) (rec_of xs) (many_rec xs j t (counted_functions h))), fit_of (f.functions (length xs)) t h)
fit_of r t (f.is_type bs o) = ((λ j. refl), tt)
fit_of r t (f.is_datatype bs o e i) = ((λ j. refl), tt)
fit_of r t (f.is_exception x arg e o) = ((λ j. refl), tt)
fit_of r t (f.same_exception x c e o) = ((λ j. refl), tt)
fit_of r t (f.not_exception x e) = ((λ j. refl), tt)
fit_of r t f.program_end = ((λ j. refl), tt)
fit_of r t (f.program_let {h = d} {a = a} {b = b} {parts = parts} {inner = inner} h i) = let x = fit_of (f.declaration a d) parts h in let y = fit_of (f.program b) inner i in ((λ j. refl), (x.0, x.1, (y.0, y.1, tt)))

-- ---- Sorts

module _ (nodes : List Node) (fn : (i : ℕ) (n : Node) → slice_get nodes i ≡ Some n → is_function nodes i ≡ function_of (is_function nodes) i n) where
  abbrev Sorted : ℕ → Forest → Type 0
  Sorted = EachTree (λ j n. HasSorts nodes n)

  -- a node of this sort over its parts
  abbrev NodeSorted : Sort → Node → Forest → Type 0
  NodeSorted s a t = ((rs : List ℕ) → sort_of (with_parts a rs) ≡ s) × ((j : ℕ) → At nodes j t → HasSorts nodes (with_parts a (roots j t)) × Sorted j t)

  abbrev SortOf : Part → Forest → Type 0
  SortOf (f.expression a) t = NodeSorted Expression a t
  SortOf (f.function a) t = NodeSorted Expression a t × ((i j : ℕ) → At nodes j t → function_of (is_function nodes) i (with_parts a (roots j t)) ≡ true)
  SortOf (f.pattern a xs) t = NodeSorted Pattern a t
  SortOf (f.program a) t = NodeSorted Expression a t
  SortOf (f.declaration a h) t = NodeSorted Declaration a t
  SortOf f.rules t = (i : ℕ) → At nodes i t → HasRules nodes (rules_at (roots i t)) × Sorted i t
  SortOf (f.bindings j xs) t = (i : ℕ) → At nodes i t → AllByRecursion (λ b. IsOf nodes Pattern b.pat × IsOf nodes Expression b.right) (bindings_at (roots i t)) × Sorted i t
  SortOf (f.expressions j) t = (i : ℕ) → At nodes i t → AllByRecursion (IsOf nodes Expression) (roots i t) × Sorted i t
  SortOf f.call t = (i : ℕ) → At nodes i t → AllByRecursion (IsOf nodes Expression) (roots i t) × Sorted i t
  SortOf (f.functions j) t = (i : ℕ) → At nodes i t → AllByRecursion (λ c. is_function nodes c ≡ true) (roots i t) × Sorted i t
  SortOf (f.patterns j xs) t = (i : ℕ) → At nodes i t → AllByRecursion (IsOf nodes Pattern) (roots i t) × Sorted i t
  SortOf (f.declarations h) t = Unit {0}

  is_of : (i : ℕ) {n : Node} (s : Sort) → slice_get nodes i ≡ Some n → sort_of n ≡ s → IsOf nodes s i
  is_of i s e h = ap (option_map sort_of) e ∙ ap Some h

  -- a tree before others
  one_more : {P : ℕ → Type 0} (s : Sort) (a : Node) (p : Place) (parts rest : Forest) → NodeSorted s a parts → ((i : ℕ) (n : Node) → slice_get nodes i ≡ Some n → n ≡ with_parts a (roots (suc i) parts) → At nodes (suc i) parts → P i)
      → ((i : ℕ) → At nodes i rest → AllByRecursion P (roots i rest) × Sorted i rest) → (i : ℕ) → At nodes i (tree a p parts rest) → AllByRecursion P (roots i (tree a p parts rest)) × Sorted i (tree a p parts rest)
  one_more s a p parts rest x h y i at =
      let d = x.1 (suc i) at.1 in
      let w = y (suc (i + size parts)) at.2 in
      ((h i (with_parts a (roots (suc i) parts)) at.0 refl at.1, w.0), (d.0, d.1, w.1))

  -- two trees before others
  two_more : (a b : Node) (p q : Place) (parts inner rest : Forest) → NodeSorted Pattern a parts → NodeSorted Expression b inner → (i : ℕ) → At nodes i (tree a p parts (tree b q inner rest))
      → (Sorted (suc (suc (i + size parts) + size inner)) rest) → (IsOf nodes Pattern i × IsOf nodes Expression (suc (i + size parts))) × Sorted i (tree a p parts (tree b q inner rest))
  two_more a b p q parts inner rest x y i at w =
      let d = x.1 (suc i) at.1 in
      let e = y.1 (suc (suc (i + size parts))) at.2.1 in
      ((is_of _ Pattern at.0 (x.0 (roots (suc i) parts)), is_of _ Expression at.2.0 (y.0 (roots (suc (suc (i + size parts))) inner))), (d.0, d.1, (e.0, e.1, w)))

  field_sorts : (s : Sort) (rs : List ℕ) (fs : List Field) → length rs ≡ length fs → AllByRecursion (IsOf nodes s) rs → AllByRecursion (λ f. IsOf nodes s f.node) (fields_at rs fs)
  field_sorts s [] [] e h = tt
  field_sorts s [] (x ∷ fs) e h = cc
  field_sorts s (r ∷ rs) [] e h = tt
  field_sorts s (r ∷ rs) (x ∷ fs) e h = (h.0, field_sorts s rs fs (let y : length rs ≡ length fs = omega (arith, e) in y) h.1)

  rec_sorts : (rs : List ℕ) (bs : List RecBinding) → length rs ≡ length bs → AllByRecursion (λ c. is_function nodes c ≡ true) rs → AllByRecursion (λ b. is_function nodes b.right ≡ true) (rec_bindings_at rs bs)
  rec_sorts [] [] e h = tt
  rec_sorts [] (x ∷ fs) e h = cc
  rec_sorts (r ∷ rs) [] e h = tt
  rec_sorts (r ∷ rs) (x ∷ bs) e h = (h.0, rec_sorts rs bs (let y : length rs ≡ length bs = omega (arith, e) in y) h.1)

  first_sort : (P : ℕ → Type 0) (rs : List ℕ) → length rs ≡ 1 → AllByRecursion P rs → P (part 0 rs)
  first_sort P [] e h = cc
  first_sort P (x ∷ rs) e h = h.0

  second_sort : (P : ℕ → Type 0) (rs : List ℕ) → length rs ≡ 2 → AllByRecursion P rs → P (part 0 rs) × P (part 1 rs)
  second_sort P [] e h = cc
  second_sort P (x ∷ []) e h = absurd (omega (arith, e))
  second_sort P (x ∷ y ∷ rs) e h = (h.0, h.1.0)

  function_sort : {z : Sizes} {g : Context} {m n : Made} (a : Node) (t : Forest) → Is z g m n (f.function a) t → (rs : List ℕ) → sort_of (with_parts a rs) ≡ Expression
  function_sort a t (f.before q h) rs = function_sort a t h rs
  function_sort a t (f.after h q) rs = function_sort a t h rs
  function_sort a t (f.fn_function h) rs = refl
  function_sort a t (f.typed_function y o h) rs = refl

  fun_expression : {z : Sizes} {g : Context} {m n : Made} {j : ℕ} (t : Forest) → Is z g m n (f.functions j) t → (i : ℕ) → At nodes i t → AllByRecursion (IsOf nodes Expression) (roots i t)
  fun_expression t (f.before q h) i at = fun_expression t h i at
  fun_expression t (f.after h q) i at = fun_expression t h i at
  fun_expression t f.no_function i at = tt
  fun_expression t (f.more_functions {a = a} {parts = parts} {rest = rest} h k) i at = (is_of _ Expression at.0 (function_sort a parts h (roots (suc i) parts)), fun_expression rest k (suc (i + size parts)) at.2)

  pub sort_of_part : {z : Sizes} {g : Context} {m n : Made} (r : Part) (t : Forest) → Is z g m n r t → SortOf r t
  sort_of_part r t (f.before q h) = sort_of_part r t h
  sort_of_part r t (f.after h q) = sort_of_part r t h
  sort_of_part r t f.no_expression = λ i at. (tt, tt)
  sort_of_part r t (f.more_expressions {a = a} {p = p} {parts = parts} {rest = rest} {j = j} h i) =
      let x = sort_of_part (f.expression a) parts h in
      one_more {P = IsOf nodes Expression} Expression a p parts rest x (λ i n e s at. is_of _ Expression e (ap sort_of s ∙ x.0 (roots (suc i) parts))) (sort_of_part (f.expressions j) rest i)
  sort_of_part r t f.no_function = λ i at. (tt, tt)
  sort_of_part r t (f.more_functions {a = a} {p = p} {parts = parts} {rest = rest} {j = j} h i) =
      let x = sort_of_part (f.function a) parts h in
      one_more {P = λ c. is_function nodes c ≡ true} Expression a p parts rest x.0 (λ i n e s at. fn i n e ∙ ap (function_of (is_function nodes) i) s ∙ x.1 i (suc i) at) (sort_of_part (f.functions j) rest i)
  sort_of_part r t f.no_pattern = λ i at. (tt, tt)
  sort_of_part r t (f.more_patterns {a = a} {p = p} {parts = parts} {rest = rest} {j = j} {xs = xs} {ys = ys} h i) =
      let x = sort_of_part (f.pattern a xs) parts h in
      one_more {P = IsOf nodes Pattern} Pattern a p parts rest x (λ i n e s at. is_of _ Pattern e (ap sort_of s ∙ x.0 (roots (suc i) parts))) (sort_of_part (f.patterns j ys) rest i)
  sort_of_part r t f.no_rule = λ i at. (tt, tt)
  sort_of_part r t (f.more_rules {a = a} {b = b} {p = p} {q = q} {parts = parts} {inner = inner} {rest = rest} {xs = xs} h k o) = λ i at.
      let w = sort_of_part f.rules rest o (suc (suc (i + size parts) + size inner)) at.2.2 in
      let d = two_more a b p q parts inner rest (sort_of_part (f.pattern a xs) parts h) (sort_of_part (f.expression b) inner k) i at w.1 in
      ((d.0, w.0), d.1)
  sort_of_part r t f.no_binding = λ i at. (tt, tt)
  sort_of_part r t (f.more_bindings {a = a} {b = b} {p = p} {q = q} {parts = parts} {inner = inner} {rest = rest} {j = j} {xs = xs} {ys = ys} h k o) = λ i at.
      let w = sort_of_part (f.bindings j ys) rest o (suc (suc (i + size parts) + size inner)) at.2.2 in
      let d = two_more a b p q parts inner rest (sort_of_part (f.pattern a xs) parts h) (sort_of_part (f.expression b) inner k) i at w.1 in
      ((d.0, w.0), d.1)
  sort_of_part r t f.no_declaration = tt
  sort_of_part r t (f.more_declarations h i) = tt
  sort_of_part r t (f.is_int i o) = ((λ rs. refl), λ j at. (tt, tt))
  sort_of_part r t (f.is_char c o) = ((λ rs. refl), λ j at. (tt, tt))
  sort_of_part r t (f.is_text x o) = ((λ rs. refl), λ j at. (tt, tt))
  sort_of_part r t (f.is_variable x o) = ((λ rs. refl), λ j at. (tt, tt))
  sort_of_part r t (f.is_constructor c o e) = ((λ rs. refl), λ j at. (tt, tt))
  sort_of_part r t (f.is_builtin b e) = ((λ rs. refl), λ j at. (tt, tt))
  sort_of_part r t (f.is_record labs o h) = ((λ rs. refl), λ j at. let d = sort_of_part (f.expressions (length labs)) t h j at in (field_sorts Expression (roots j t) (fields labs) (many_fields labs j t (counted h)) d.0, d.1))
  sort_of_part r t (f.is_app h) = ((λ rs. refl), λ j at. let d = sort_of_part f.call t h j at in (second_sort (IsOf nodes Expression) (roots j t) (many_roots j t ∙ counted_call h) d.0, d.1))
  sort_of_part r t (f.call_expression h) = λ j at. sort_of_part (f.expressions 2) t h j at
  sort_of_part r t (f.call_constructor {f = rest} c o h) = λ j at. let d = sort_of_part (f.expressions 1) rest h (suc (j + 0)) at.2 in ((is_of j Expression at.0 refl, d.0), (tt, tt, d.1))
  sort_of_part r t (f.call_builtin {f = rest} b h) = λ j at. let d = sort_of_part (f.expressions 1) rest h (suc (j + 0)) at.2 in ((is_of j Expression at.0 refl, d.0), (tt, tt, d.1))
  sort_of_part r t (f.is_case {a = a} {p = p} {parts = parts} {rest = rest} h i) = (
    (λ rs. refl),
    λ j at.
        let x = sort_of_part (f.expression a) parts h in let d = x.1 (suc j) at.1 in let w = sort_of_part f.rules rest i (suc (j + size parts)) at.2 in
        ((is_of _ Expression at.0 (x.0 (roots (suc j) parts)), w.0), (d.0, d.1, w.1)),
  )
  sort_of_part r t (f.is_fn h) = ((λ rs. refl), λ j at. sort_of_part f.rules t h j at)
  sort_of_part r t (f.is_raise h) = ((λ rs. refl), λ j at. let d = sort_of_part (f.expressions 1) t h j at in (first_sort (IsOf nodes Expression) (roots j t) (many_roots j t ∙ counted h) d.0, d.1))
  sort_of_part r t (f.is_handle {a = a} {p = p} {parts = parts} {rest = rest} h i) = (
    (λ rs. refl),
    λ j at.
        let x = sort_of_part (f.expression a) parts h in let d = x.1 (suc j) at.1 in let w = sort_of_part f.rules rest i (suc (j + size parts)) at.2 in
        ((is_of _ Expression at.0 (x.0 (roots (suc j) parts)), w.0), (d.0, d.1, w.1)),
  )
  sort_of_part r t (f.is_typed y o h) = ((λ rs. refl), λ j at. let d = sort_of_part (f.expressions 1) t h j at in (first_sort (IsOf nodes Expression) (roots j t) (many_roots j t ∙ counted h) d.0, d.1))
  sort_of_part r t (f.is_let {h = e} {a = a} {b = b} {parts = parts} {inner = inner} h i) = (
    (λ rs. refl),
    λ j at.
        let x = sort_of_part (f.declaration a e) parts h in let y = sort_of_part (f.expression b) inner i in
        let d = x.1 (suc j) at.1 in let w = y.1 (suc (suc (j + size parts))) at.2.1 in
        ((is_of _ Declaration at.0 (x.0 (roots (suc j) parts)), is_of _ Expression at.2.0 (y.0 (roots (suc (suc (j + size parts))) inner))), (d.0, d.1, (w.0, w.1, tt))),
  )
  sort_of_part r t (f.fn_function h) = (((λ rs. refl), λ j at. sort_of_part f.rules t h j at), λ i j at. refl)
  sort_of_part r t (f.typed_function y o h) = (((λ rs. refl), λ j at. let d = sort_of_part (f.functions 1) t h j at in (first_sort (IsOf nodes Expression) (roots j t) (many_roots j t ∙ counted_functions h) (fun_expression t h j at), d.1)), λ i j at. let d = sort_of_part (f.functions 1) t h j at in first_sort (λ c. is_function nodes c ≡ true) (roots j t) (many_roots j t ∙ counted_functions h) d.0)
  sort_of_part r t f.is_wild = ((λ rs. refl), λ j at. (tt, tt))
  sort_of_part r t (f.int_pattern i o) = ((λ rs. refl), λ j at. (tt, tt))
  sort_of_part r t (f.char_pattern c o) = ((λ rs. refl), λ j at. (tt, tt))
  sort_of_part r t (f.text_pattern x o) = ((λ rs. refl), λ j at. (tt, tt))
  sort_of_part r t (f.variable_pattern x e) = ((λ rs. refl), λ j at. (tt, tt))
  sort_of_part r t (f.con_pattern c o) = ((λ rs. refl), λ j at. (tt, tt))
  sort_of_part r t (f.apply_pattern {xs = xs} c o h) = ((λ rs. refl), λ j at. let d = sort_of_part (f.patterns 1 xs) t h j at in (first_sort (IsOf nodes Pattern) (roots j t) (many_roots j t ∙ counted_patterns h) d.0, d.1))
  sort_of_part r t (f.record_pattern {xs = xs} labs o h) = ((λ rs. refl), λ j at. let d = sort_of_part (f.patterns (length labs) xs) t h j at in (field_sorts Pattern (roots j t) (fields labs) (many_fields labs j t (counted_patterns h)) d.0, d.1))
  sort_of_part r t (f.typed_pattern {xs = xs} y o h) = ((λ rs. refl), λ j at. let d = sort_of_part (f.patterns 1 xs) t h j at in (first_sort (IsOf nodes Pattern) (roots j t) (many_roots j t ∙ counted_patterns h) d.0, d.1))
  sort_of_part r t (f.as_pattern {xs = xs} x e h) = ((λ rs. refl), λ j at. let d = sort_of_part (f.patterns 1 xs) t h j at in (first_sort (IsOf nodes Pattern) (roots j t) (many_roots j t ∙ counted_patterns h) d.0, d.1))
  sort_of_part r t (f.con_as_pattern {xs = xs} x e h) = ((λ rs. refl), λ j at. let d = sort_of_part (f.patterns 1 xs) t h j at in (first_sort (IsOf nodes Pattern) (roots j t) (many_roots j t ∙ counted_patterns h) d.0, d.1))
  sort_of_part r t (f.is_val {j = j} {xs = xs} vs o h) = ((λ rs. refl), λ i at. sort_of_part (f.bindings j xs) t h i at)
  sort_of_part r t (f.is_val_rec vs xs o e h) = ((λ rs. refl), λ j at. let d = sort_of_part (f.functions (length xs)) t h j at in (rec_sorts (roots j t) (rec_of xs) (many_rec xs j t (counted_functions h)) d.0, d.1))
  sort_of_part r t (f.is_type bs o) = ((λ rs. refl), λ j at. (tt, tt))
  sort_of_part r t (f.is_datatype bs o e i) = ((λ rs. refl), λ j at. (tt, tt))
  sort_of_part r t (f.is_exception x arg e o) = ((λ rs. refl), λ j at. (tt, tt))
  sort_of_part r t (f.same_exception x c e o) = ((λ rs. refl), λ j at. (tt, tt))
  sort_of_part r t (f.not_exception x e) = ((λ rs. refl), λ j at. (tt, tt))
  sort_of_part r t f.program_end = ((λ rs. refl), λ j at. (tt, tt))
  sort_of_part r t (f.program_let {h = e} {a = a} {b = b} {parts = parts} {inner = inner} h i) = (
    (λ rs. refl),
    λ j at.
        let x = sort_of_part (f.declaration a e) parts h in let y = sort_of_part (f.program b) inner i in
        let d = x.1 (suc j) at.1 in let w = y.1 (suc (suc (j + size parts))) at.2.1 in
        ((is_of _ Declaration at.0 (x.0 (roots (suc j) parts)), is_of _ Expression at.2.0 (y.0 (roots (suc (suc (j + size parts))) inner))), (d.0, d.1, (w.0, w.1, tt))),
  )
