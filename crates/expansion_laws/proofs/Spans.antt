-- Each name is bound once, and each type name is declared once, in order.
use Rattle.std.proofs.Common.{◌≡◌, ℕ, suc, ◌<◌, ◌+◌, false, List, [], ◌∷◌, ◌++◌, map, length, refl, sym, ap, subst, ◌∙◌, arith, ne_eqb}
use Rattle.std.specs.Prelude.{flat_map, nat_eq}
use Rattle.std.proofs.lemmas.List.{length-append, length-map, append_assoc, append-nil}
use Rattle.smlc_base.specs.declared.place.Place.{Place}
use Rattle.sml_tree.specs.declared.bare.Node.{Node}
use Rattle.sml_tree.specs.declared.bare.Node.TheVariants as node
use Rattle.sml_tree.specs.declared.bare.DatBinding.{DatBinding}
use Rattle.sml_tree.specs.Sets.{has}
use Rattle.sml_tree.specs.IsBare.{IsDistinct, names_at, Consecutive, type_names_at}
use Rattle.sml_expansion.specs.declared.made.Made.{Made}
use Rattle.sml_expansion.specs.Forests.{Forest, none, tree, size, roots, numbered, with_parts, rec_bindings_at}
use Rattle.expansion_laws.proofs.Contexts.{Context}
use Rattle.expansion_laws.proofs.Forms as f
use Rattle.expansion_laws.proofs.Forms.{Sizes, Is, Part, Quiet, Names, DatasIn}
use Rattle.expansion_laws.proofs.Sorts.{rec_of}

-- xs are the numbers from m to n
pub record Span (m n : ℕ) (xs : List ℕ) : Type 0 where
  pub from : Consecutive m xs
  pub end : n ≡ m + length xs

from_both : (i : ℕ) (xs ys : List ℕ) → Consecutive i xs → Consecutive (i + length xs) ys → Consecutive i (xs ++ ys)
from_both i [] ys a b = let e : i + 0 ≡ i = omega arith in subst (λ j. Consecutive j ys) e b
from_both i (x ∷ xs) ys a b = let e : i + suc (length xs) ≡ suc i + length xs = omega arith in (a.0, from_both (suc i) xs ys a.1 (subst (λ j. Consecutive j ys) e b))

span_none : (m : ℕ) → Span m m []
span_none m = record { from = tt; end = omega arith }

span_both : (m k n : ℕ) (xs ys : List ℕ) → Span m k xs → Span k n ys → Span m n (xs ++ ys)
span_both m k n xs ys a b =
    let e = a.end in let h = b.end in let l = length-append xs ys in
    record { from = from_both m xs ys a.from (subst (λ j. Consecutive j ys) e b.from); end = omega (arith, e, h, l) }

pub record Spans (m n : Made) (xs ys : List ℕ) : Type 0 where
  pub names : Span (length m.names) (length n.names) xs
  pub datas : Span m.type_names n.type_names ys

spans_none : (m : Made) → Spans m m [] []
spans_none m = record { names = span_none (length m.names); datas = span_none m.type_names }

spans_both : {m k n : Made} {xs ys us vs : List ℕ} → Spans m k xs us → Spans k n ys vs → Spans m n (xs ++ ys) (us ++ vs)
spans_both {m} {k} {n} {xs} {ys} {us} {vs} a b = record { names = span_both (length m.names) (length k.names) (length n.names) xs ys a.names b.names; datas = span_both m.type_names k.type_names n.type_names us vs a.datas b.datas }

spans_before : {m k n : Made} {xs ys : List ℕ} → Quiet m k → Spans k n xs ys → Spans m n xs ys
spans_before {m} {k} {n} {xs} {ys} q a = record {
  names = subst (λ j. Span j (length n.names) xs) q.names a.names;
  datas = subst (λ j. Span j n.type_names ys) q.datas a.datas;
}

spans_after : {m k n : Made} {xs ys : List ℕ} → Spans m k xs ys → Quiet k n → Spans m n xs ys
spans_after {m} {k} {n} {xs} {ys} a q = record {
  names = subst (λ j. Span (length m.names) j xs) (sym q.names) a.names;
  datas = subst (λ j. Span m.type_names j ys) (sym q.datas) a.datas;
}

spans_names : {m n : Made} {xs : List ℕ} → Names m xs n → Spans m n xs []
spans_names {m} {n} a = record { names = record { from = a.from; end = a.names }; datas = let e = a.datas in record { from = tt; end = omega (arith, e) } }

-- what all nodes of a forest have
abbrev pub all : (Node → List ℕ) → ℕ → Forest → List ℕ
all own i t = flat_map own (numbered i t)

flat_append : (own : Node → List ℕ) (xs ys : List Node) → flat_map own (xs ++ ys) ≡ flat_map own xs ++ flat_map own ys
flat_append own [] ys = refl
flat_append own (x ∷ xs) ys = ap (λ l. own x ++ l) (flat_append own xs ys) ∙ sym (append_assoc (own x) (flat_map own xs) (flat_map own ys))

pub all_tree : (own : Node → List ℕ) (i : ℕ) (a : Node) (p : Place) (parts rest : Forest) → all own i (tree a p parts rest) ≡ (own (with_parts a (roots (suc i) parts)) ++ all own (suc i) parts) ++ all own (suc (i + size parts)) rest
all_tree own i a p parts rest = ap (λ l. own (with_parts a (roots (suc i) parts)) ++ l) (flat_append own (numbered (suc i) parts) (numbered (suc (i + size parts)) rest)) ∙ sym (append_assoc (own (with_parts a (roots (suc i) parts))) (all own (suc i) parts) (all own (suc (i + size parts)) rest))

abbrev NodeSpans : Made → Made → Node → Forest → Type 0
NodeSpans m n a t = (rs : List ℕ) (i : ℕ) → Spans m n (names_at (with_parts a rs) ++ all names_at i t) (type_names_at (with_parts a rs) ++ all type_names_at i t)

abbrev ListSpans : Made → Made → Forest → Type 0
ListSpans m n t = (i : ℕ) → Spans m n (all names_at i t) (all type_names_at i t)

spans_tree : {m k n : Made} (a : Node) (p : Place) (parts rest : Forest) → NodeSpans m k a parts → ListSpans k n rest → ListSpans m n (tree a p parts rest)
spans_tree {m} {k} {n} a p parts rest x y i =
    let d = spans_both (x (roots (suc i) parts) (suc i)) (y (suc (i + size parts))) in
    subst (λ l. Spans m n l (all type_names_at i (tree a p parts rest))) (sym (all_tree names_at i a p parts rest))
    (subst (λ l. Spans m n ((names_at (with_parts a (roots (suc i) parts)) ++ all names_at (suc i) parts) ++ all names_at (suc (i + size parts)) rest) l) (sym (all_tree type_names_at i a p parts rest)) d)

rec_named : (rs xs : List ℕ) → map (λ b. b.name.0) (rec_bindings_at rs (rec_of xs)) ≡ xs
rec_named rs [] = none_named rs
  where
    none_named : (rs : List ℕ) → map (λ b. b.name.0) (rec_bindings_at rs []) ≡ []
    none_named [] = refl
    none_named (r ∷ rs) = refl
rec_named [] (x ∷ xs) = ap (λ l. x ∷ l) (rec_named [] xs)
rec_named (r ∷ rs) (x ∷ xs) = ap (λ l. x ∷ l) (rec_named rs xs)

datas_from : (types i : ℕ) (bs : List DatBinding) → DatasIn types i bs → Consecutive i (map (λ d. d.type_name) bs)
datas_from types i [] h = tt
datas_from types i (b ∷ bs) h = (h.0, datas_from types (suc i) bs h.3)

abbrev pub SpansOf : Made → Made → Part → Forest → Type 0
SpansOf m n (f.expression a) t = NodeSpans m n a t
SpansOf m n (f.function a) t = NodeSpans m n a t
SpansOf m n (f.program a) t = NodeSpans m n a t
SpansOf m n (f.pattern a xs) t = NodeSpans m n a t
SpansOf m n (f.declaration a h) t = NodeSpans m n a t
SpansOf m n _ t = ListSpans m n t

quiet_before : {m k : Made} (n : Made) (r : Part) (t : Forest) → Quiet m k → SpansOf k n r t → SpansOf m n r t
quiet_before n (f.expression a) t q d = λ rs i. spans_before q (d rs i)
quiet_before n (f.function a) t q d = λ rs i. spans_before q (d rs i)
quiet_before n (f.program a) t q d = λ rs i. spans_before q (d rs i)
quiet_before n (f.pattern a xs) t q d = λ rs i. spans_before q (d rs i)
quiet_before n (f.declaration a h) t q d = λ rs i. spans_before q (d rs i)
quiet_before n f.rules t q d = λ i. spans_before q (d i)
quiet_before n (f.bindings j xs) t q d = λ i. spans_before q (d i)
quiet_before n (f.expressions j) t q d = λ i. spans_before q (d i)
quiet_before n (f.functions j) t q d = λ i. spans_before q (d i)
quiet_before n f.call t q d = λ i. spans_before q (d i)
quiet_before n (f.patterns j xs) t q d = λ i. spans_before q (d i)
quiet_before n (f.declarations h) t q d = λ i. spans_before q (d i)

quiet_after : {k n : Made} (m : Made) (r : Part) (t : Forest) → SpansOf m k r t → Quiet k n → SpansOf m n r t
quiet_after m (f.expression a) t d q = λ rs i. spans_after (d rs i) q
quiet_after m (f.function a) t d q = λ rs i. spans_after (d rs i) q
quiet_after m (f.program a) t d q = λ rs i. spans_after (d rs i) q
quiet_after m (f.pattern a xs) t d q = λ rs i. spans_after (d rs i) q
quiet_after m (f.declaration a h) t d q = λ rs i. spans_after (d rs i) q
quiet_after m f.rules t d q = λ i. spans_after (d i) q
quiet_after m (f.bindings j xs) t d q = λ i. spans_after (d i) q
quiet_after m (f.expressions j) t d q = λ i. spans_after (d i) q
quiet_after m (f.functions j) t d q = λ i. spans_after (d i) q
quiet_after m f.call t d q = λ i. spans_after (d i) q
quiet_after m (f.patterns j xs) t d q = λ i. spans_after (d i) q
quiet_after m (f.declarations h) t d q = λ i. spans_after (d i) q

pub spans_of : {z : Sizes} {g : Context} {m n : Made} (r : Part) (t : Forest) → Is z g m n r t → SpansOf m n r t
spans_of {n = n} r t (f.before q h) = quiet_before n r t q (spans_of r t h)
spans_of {m = m} r t (f.after h q) = quiet_after m r t (spans_of r t h) q
spans_of r t f.no_expression = λ i. spans_none _
spans_of r t f.no_function = λ i. spans_none _
spans_of r t f.no_pattern = λ i. spans_none _
spans_of r t f.no_rule = λ i. spans_none _
spans_of r t f.no_binding = λ i. spans_none _
spans_of r t f.no_declaration = λ i. spans_none _
spans_of r t (f.more_expressions {a = a} {p = p} {parts = parts} {rest = rest} {j = j} h i) = spans_tree a p parts rest (spans_of (f.expression a) parts h) (spans_of (f.expressions j) rest i)
spans_of r t (f.more_functions {a = a} {p = p} {parts = parts} {rest = rest} {j = j} h i) = spans_tree a p parts rest (spans_of (f.function a) parts h) (spans_of (f.functions j) rest i)
spans_of r t (f.more_patterns {a = a} {p = p} {parts = parts} {rest = rest} {j = j} {xs = xs} {ys = ys} h i) = spans_tree a p parts rest (spans_of (f.pattern a xs) parts h) (spans_of (f.patterns j ys) rest i)
spans_of r t (f.more_rules {a = a} {b = b} {p = p} {q = q} {parts = parts} {inner = inner} {rest = rest} {xs = xs} h k o) = spans_tree a p parts (tree b q inner rest) (spans_of (f.pattern a xs) parts h) (spans_tree b q inner rest (spans_of (f.expression b) inner k) (spans_of f.rules rest o))
spans_of r t (f.more_bindings {a = a} {b = b} {p = p} {q = q} {parts = parts} {inner = inner} {rest = rest} {j = j} {xs = xs} {ys = ys} h k o) = spans_tree a p parts (tree b q inner rest) (spans_of (f.pattern a xs) parts h) (spans_tree b q inner rest (spans_of (f.expression b) inner k) (spans_of (f.bindings j ys) rest o))
spans_of r t (f.more_declarations {h = d} {i = e} {a = a} {p = p} {parts = parts} {rest = rest} h i) = spans_tree a p parts rest (spans_of (f.declaration a d) parts h) (spans_of (f.declarations e) rest i)
spans_of r t (f.is_int i o) = λ rs i. spans_none _
spans_of r t (f.is_char c o) = λ rs i. spans_none _
spans_of r t (f.is_text x o) = λ rs i. spans_none _
spans_of r t (f.is_variable x o) = λ rs i. spans_none _
spans_of r t (f.is_constructor c o e) = λ rs i. spans_none _
spans_of r t (f.is_builtin b e) = λ rs i. spans_none _
spans_of r t (f.is_record labs o h) = λ rs i. spans_of (f.expressions (length labs)) t h i
spans_of r t (f.is_app h) = λ rs i. spans_of f.call t h i
spans_of r t (f.call_expression h) = λ i. spans_of (f.expressions 2) t h i
spans_of r t (f.call_constructor {p = p} {f = rest} c o h) = spans_tree (node.Constructor c) p none rest (λ rs i. spans_none _) (spans_of (f.expressions 1) rest h)
spans_of r t (f.call_builtin {p = p} {f = rest} b h) = spans_tree (node.Builtin b) p none rest (λ rs i. spans_none _) (spans_of (f.expressions 1) rest h)
spans_of r t (f.is_case {a = a} {p = p} {parts = parts} {rest = rest} h i) = λ rs j. spans_tree a p parts rest (spans_of (f.expression a) parts h) (spans_of f.rules rest i) j
spans_of r t (f.is_fn h) = λ rs i. spans_of (f.rules) t h i
spans_of r t (f.is_raise h) = λ rs i. spans_of (f.expressions 1) t h i
spans_of r t (f.is_handle {a = a} {p = p} {parts = parts} {rest = rest} h i) = λ rs j. spans_tree a p parts rest (spans_of (f.expression a) parts h) (spans_of f.rules rest i) j
spans_of r t (f.is_typed y o h) = λ rs i. spans_of (f.expressions 1) t h i
spans_of r t (f.is_let {h = e} {a = a} {b = b} {p = p} {q = q} {parts = parts} {inner = inner} h i) = λ rs j. spans_tree a p parts (tree b q inner none) (spans_of (f.declaration a e) parts h) (spans_tree b q inner none (spans_of (f.expression b) inner i) (λ l. spans_none _)) j
spans_of r t (f.fn_function h) = λ rs i. spans_of (f.rules) t h i
spans_of r t (f.typed_function y o h) = λ rs i. spans_of (f.functions 1) t h i
spans_of r t f.is_wild = λ rs i. spans_none _
spans_of r t (f.int_pattern i o) = λ rs i. spans_none _
spans_of r t (f.char_pattern c o) = λ rs i. spans_none _
spans_of r t (f.text_pattern x o) = λ rs i. spans_none _
spans_of r t (f.variable_pattern x e) = λ rs i. spans_names e
spans_of r t (f.con_pattern c o) = λ rs i. spans_none _
spans_of r t (f.apply_pattern {xs = xs} c o h) = λ rs i. spans_of (f.patterns 1 xs) t h i
spans_of r t (f.record_pattern {xs = xs} labs o h) = λ rs i. spans_of (f.patterns (length labs) xs) t h i
spans_of r t (f.typed_pattern {xs = xs} y o h) = λ rs i. spans_of (f.patterns 1 xs) t h i
spans_of r t (f.as_pattern {xs = xs} x e h) = λ rs i. spans_both (spans_names e) (spans_of (f.patterns 1 xs) t h i)
spans_of r t (f.con_as_pattern {xs = xs} x e h) = λ rs i. spans_both (spans_names e) (spans_of (f.patterns 1 xs) t h i)
spans_of r t (f.is_val {j = j} {xs = xs} vs o h) = λ rs i. spans_of (f.bindings j xs) t h i
spans_of r t (f.is_val_rec {m = m} {k = k} {n = n} vs xs o e h) = λ rs i. subst (λ l. Spans m n (l ++ all names_at i t) (all type_names_at i t)) (sym (rec_named rs xs)) (spans_both (spans_names e) (spans_of (f.functions (length xs)) t h i))
spans_of r t (f.is_type bs o) = λ rs i. spans_none _
spans_of {z} r t (f.is_datatype {m = m} {n = n} bs o e i) = λ rs j. record { names = record { from = tt; end = omega (arith, e) }; datas = subst (Span m.type_names n.type_names) (sym (append-nil (map (λ d. d.type_name) bs))) (record { from = datas_from z.types m.type_names bs o; end = (let l = length-map bs (λ (d : DatBinding). d.type_name) in omega (arith, i, l)) }) }
spans_of r t (f.is_exception x arg e o) = λ rs i. spans_names e
spans_of r t (f.same_exception x c e o) = λ rs i. spans_names e
spans_of r t (f.not_exception x e) = λ rs i. spans_names e
spans_of r t f.program_end = λ rs i. spans_none _
spans_of r t (f.program_let {h = e} {a = a} {b = b} {p = p} {q = q} {parts = parts} {inner = inner} h i) = λ rs j. spans_tree a p parts (tree b q inner none) (spans_of (f.declaration a e) parts h) (spans_tree b q inner none (spans_of (f.program b) inner i) (λ l. spans_none _)) j

-- ---- So none stands twice

not_among : (x i : ℕ) (xs : List ℕ) → x < i → Consecutive i xs → has xs x ≡ false
not_among x i [] le h = refl
not_among x i (y ∷ ys) le h =
    let e : nat_eq x y ≡ false = subst (λ w. nat_eq x w ≡ false) (sym h.0) (ne_eqb x i (λ same. absurd (omega (arith, le, same)))) in
    rw e (not_among x (suc i) ys (omega (arith, le)) h.1)

pub distinct : (i : ℕ) (xs : List ℕ) → Consecutive i xs → IsDistinct xs
distinct i [] h = tt
distinct i (x ∷ xs) h = let e = h.0 in (not_among x (suc i) xs (omega (arith, e)) h.1, distinct (suc i) xs h.1)
