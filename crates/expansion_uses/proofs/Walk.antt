-- The walk over the evidence of an expansion: what each node is made of, and what it cites.
use Rattle.std.proofs.Common.{◌≡◌, ℕ, suc, ◌+◌, length, true, false, List, [], ◌∷◌, ◌++◌, refl, sym, ap, subst, ◌∙◌, Some, inl, inr, ◌⊎◌, eqb-true, eq-eqb}
use Rattle.std.specs.Prelude.{Bool, drop, slice_get, flat_map, nat_eq, map, ◌||◌}
use Rattle.std.specs.List.{AllByRecursion}
use Rattle.smlc_base.specs.declared.exception.LibraryExn.TheVariants as exn
use Rattle.smlc_base.specs.declared.place.Place.{Place}
use Rattle.smlc_base.specs.declared.primitive.Primitive.{Primitive}
use Rattle.smlc_base.specs.declared.primitive.Primitive.TheVariants as prim
use Rattle.sml_tree.specs.declared.bare.Con.{Con}
use Rattle.sml_tree.specs.declared.bare.Con.TheVariants as con
use Rattle.sml_tree.specs.declared.bare.Node.{Node}
use Rattle.sml_tree.specs.declared.bare.Node.TheVariants as node
use Rattle.sml_tree.specs.BareParts.{node_parts}
use Rattle.sml_tree.specs.IsBare.{IsDistinct, names_at}
use Rattle.sml_tree.specs.Sets.{has}
use Rattle.sml_prelude.specs.Values as library
use Rattle.sml_types.specs.Typing as typing
use Rattle.sml_def.specs.Maybe.{or_else}
use Rattle.sml_expansion.specs.declared.made.Made.{Made}
use Rattle.sml_expansion.specs.Bare.{fields}
use Rattle.sml_expansion.specs.Forests.{Forest, none, tree, size, roots, with_parts, rec_bindings_at, part}
use Rattle.expansion_laws.proofs.Contexts.{Among, Context, with_vars, with_exception, ConIn, among_split}
use Rattle.expansion_laws.proofs.Forms as f
use Rattle.expansion_laws.proofs.Forms.{Sizes, Is, Part}
use Rattle.expansion_laws.proofs.Positions.{At, EachTree, Fits}
use Rattle.expansion_laws.proofs.Sorts.{fit_of, rec_of}
use Rattle.sane_laws.specs.Uses.{is_constant, constant_at, free_parts, NoConstants, exceptions, exceptions_at, IsCited, Cites}
use Rattle.expansion_uses.proofs.Apart.{variable_bound, exception_bound}

-- ---- Constants

same_takes : (c : Con) → library.takes_argument c ≡ typing.takes_argument c
same_takes (con.Data t number takes) = refl
same_takes con.Ref = refl
same_takes (con.Exn x takes) = refl
same_takes (con.Library exn.FailExn) = refl
same_takes (con.Library _) = refl

builtin_plain : (b : Primitive) → library.is_function b ≡ false → is_constant (node.Builtin b) ≡ false
builtin_plain prim.StdIn e = refl
builtin_plain _ e = e

-- all parts but the function part of an application
abbrev pub free_roots : Node → List ℕ → List ℕ
free_roots (node.App f a) rs = drop 1 rs
free_roots _ rs = rs

free_same : (a : Node) (rs : List ℕ) → node_parts (with_parts a rs) ≡ rs → free_parts (with_parts a rs) ≡ free_roots a rs
free_same (node.App g a) rs e = ap (drop 1) e
free_same _ rs e = e

module _ (nodes : List Node) (once : IsDistinct (flat_map names_at nodes)) where
  abbrev pub NotConstant : ℕ → Type 0
  NotConstant i = constant_at nodes i ≡ false

  all_drop : (rs : List ℕ) → AllByRecursion NotConstant rs → AllByRecursion NotConstant (drop 1 rs)
  all_drop [] h = tt
  all_drop (r ∷ rs) h = h.1

  abbrev pub Each : ℕ → Forest → Type 0
  Each = EachTree (λ j n. NoConstants nodes n × Cites nodes n)

  -- a node over its parts
  abbrev pub NodeUses : Node → Forest → Type 0
  NodeUses a t = ((rs : List ℕ) → is_constant (with_parts a rs) ≡ false) × ((i j : ℕ) → slice_get nodes i ≡ Some (with_parts a (roots j t)) → At nodes j t → AllByRecursion NotConstant (free_roots a (roots j t)) × Cites nodes (with_parts a (roots j t)) × Each j t)

  abbrev pub ListUses : Forest → Type 0
  ListUses t = (i : ℕ) → At nodes i t → AllByRecursion NotConstant (roots i t) × Each i t

  abbrev pub UsesOf : Part → Forest → Type 0
  UsesOf (f.expression a) t = NodeUses a t
  UsesOf (f.function a) t = NodeUses a t
  UsesOf (f.program a) t = NodeUses a t
  UsesOf (f.pattern a xs) t = NodeUses a t
  UsesOf (f.declaration a h) t = NodeUses a t
  UsesOf f.call t = (i : ℕ) → At nodes i t → AllByRecursion NotConstant (drop 1 (roots i t)) × Each i t
  UsesOf _ t = ListUses t

  not_constant : (i : ℕ) (n : Node) → slice_get nodes i ≡ Some n → is_constant n ≡ false → NotConstant i
  not_constant i n e h = ap (λ o. or_else o is_constant false) e ∙ h

  -- a tree before others
  pub more : (a : Node) (p : Place) (parts rest : Forest) → Fits a parts → NodeUses a parts → ListUses rest → ListUses (tree a p parts rest)
  more a p parts rest fits x y i at =
      let d = x.1 i (suc i) at.0 at.1 in
      let w = y (suc (i + size parts)) at.2 in
      let rs = roots (suc i) parts in (
        (not_constant i (with_parts a rs) at.0 (x.0 rs), w.0),
        ((subst (AllByRecursion NotConstant) (sym (free_same a rs (fits (suc i)))) d.0, d.1), d.2, w.1),
      )

  -- ---- What is bound

  abbrev pub PlainNames : List ℕ → Type 0
  PlainNames xs = (x : ℕ) → Among x xs → has (exceptions nodes) x ≡ false

  pub record Good (g : Context) : Type 0 where
    pub plain : PlainNames g.plain
    pub exceptions : (x : ℕ) → Among x g.exceptions → has (exceptions nodes) x ≡ true

  abbrev PlainOf : Part → Forest → Type 0
  PlainOf (f.pattern a xs) t = (i j : ℕ) → slice_get nodes i ≡ Some (with_parts a (roots j t)) → At nodes j t → PlainNames xs
  PlainOf (f.patterns k xs) t = (j : ℕ) → At nodes j t → PlainNames xs
  PlainOf (f.bindings k xs) t = (j : ℕ) → At nodes j t → PlainNames xs
  PlainOf _ t = Unit {0}

  one_has : (x y : ℕ) → y ≡ x → has (x ∷ []) y ≡ true
  one_has x y e = ap (λ b. b || false) (eq-eqb y x e)

  plain_one : (i : ℕ) (n : Node) (x : ℕ) → slice_get nodes i ≡ Some n → exceptions_at n ≡ [] → names_at n ≡ x ∷ [] → PlainNames (x ∷ [])
  plain_one i n x e o h y (inl s) = variable_bound nodes i n y once e o (ap (λ l. has l y) h ∙ one_has x y s)
  plain_one i n x e o h y (inr a) = absurd a

  plain_both : (xs ys : List ℕ) → PlainNames xs → PlainNames ys → PlainNames (xs ++ ys)
  plain_both xs ys a b x m = go (among_split x xs ys m)
    where
      go : Among x xs ⊎ Among x ys → has (exceptions nodes) x ≡ false
      go (inl h) = a x h
      go (inr h) = b x h

  plain_of : {z : Sizes} {g : Context} {m n : Made} (r : Part) (t : Forest) → Is z g m n r t → PlainOf r t
  plain_of r t (f.before q h) = plain_of r t h
  plain_of r t (f.after h q) = plain_of r t h
  plain_of r t f.no_pattern = λ j at x a. absurd a
  plain_of r t (f.more_patterns {a = a} {parts = parts} {rest = rest} {j = k} {xs = xs} {ys = ys} h i) = λ j at.
      plain_both xs ys (plain_of (f.pattern a xs) parts h j (suc j) at.0 at.1) (plain_of (f.patterns k ys) rest i (suc (j + size parts)) at.2)
  plain_of r t f.no_binding = λ j at x a. absurd a
  plain_of r t (f.more_bindings {a = a} {b = b} {parts = parts} {inner = inner} {rest = rest} {j = k} {xs = xs} {ys = ys} h i o) = λ j at.
      plain_both xs ys (plain_of (f.pattern a xs) parts h j (suc j) at.0 at.1) (plain_of (f.bindings k ys) rest o (suc (suc (j + size parts) + size inner)) at.2.2)
  plain_of r t f.is_wild = λ i j e at x a. absurd a
  plain_of r t (f.int_pattern k o) = λ i j e at x a. absurd a
  plain_of r t (f.char_pattern c o) = λ i j e at x a. absurd a
  plain_of r t (f.text_pattern x o) = λ i j e at x a. absurd a
  plain_of r t (f.variable_pattern x o) = λ i j e at. plain_one i (node.PatVar (record { 0 = x })) x e refl refl
  plain_of r t (f.con_pattern c o) = λ i j e at x a. absurd a
  plain_of r t (f.apply_pattern {xs = xs} c o h) = λ i j e at. plain_of (f.patterns 1 xs) t h j at
  plain_of r t (f.record_pattern {xs = xs} labs o h) = λ i j e at. plain_of (f.patterns (length labs) xs) t h j at
  plain_of r t (f.typed_pattern {xs = xs} y o h) = λ i j e at. plain_of (f.patterns 1 xs) t h j at
  plain_of r t (f.as_pattern {xs = xs} x o h) = λ i j e at. plain_both (x ∷ []) xs (plain_one i _ x e refl refl) (plain_of (f.patterns 1 xs) t h j at)
  plain_of r t (f.con_as_pattern {xs = xs} x o h) = λ i j e at. plain_both (x ∷ []) xs (plain_one i _ x e refl refl) (plain_of (f.patterns 1 xs) t h j at)
  plain_of r t _ = tt

  good_vars : (g : Context) (xs : List ℕ) → Good g → PlainNames xs → Good (with_vars xs g)
  good_vars g xs o h = record { plain = plain_both xs g.plain h o.plain; exceptions = o.exceptions }

  rec_names : (rs xs : List ℕ) (x : ℕ) → Among x xs → has (map (λ b. b.name.0) (rec_bindings_at rs (rec_of xs))) x ≡ true
  rec_names rs [] x a = absurd a
  rec_names [] (y ∷ xs) x (inl e) = ap (λ b. b || has (map (λ b. b.name.0) (rec_of xs)) x) (eq-eqb x y e)
  rec_names [] (y ∷ xs) x (inr a) = or_true (nat_eq x y) (rec_names [] xs x a)
    where
      or_true : (b : Bool) {c : Bool} → c ≡ true → (b || c) ≡ true
      or_true true e = refl
      or_true false e = e
  rec_names (r ∷ rs) (y ∷ xs) x (inl e) = ap (λ b. b || has (map (λ b. b.name.0) (rec_bindings_at rs (rec_of xs))) x) (eq-eqb x y e)
  rec_names (r ∷ rs) (y ∷ xs) x (inr a) = or_true (nat_eq x y) (rec_names rs xs x a)
    where
      or_true : (b : Bool) {c : Bool} → c ≡ true → (b || c) ≡ true
      or_true true e = refl
      or_true false e = e

  rec_plain : (i : ℕ) (vs rs xs : List ℕ) → slice_get nodes i ≡ Some (node.ValRec vs (rec_bindings_at rs (rec_of xs))) → PlainNames xs
  rec_plain i vs rs xs e x a = variable_bound nodes i (node.ValRec vs (rec_bindings_at rs (rec_of xs))) x once e refl (rec_names rs xs x a)

  good_exception : (g : Context) (i : ℕ) (n : Node) (x : ℕ) → Good g → slice_get nodes i ≡ Some n → exceptions_at n ≡ x ∷ [] → Good (with_exception x g)
  good_exception g i n x o e h = record { plain = o.plain; exceptions = go }
    where
      go : (y : ℕ) → Among y (x ∷ g.exceptions) → has (exceptions nodes) y ≡ true
      go y (inl s) = exception_bound nodes i n y e (ap (λ l. has l y) h ∙ one_has x y s)
      go y (inr a) = o.exceptions y a

  -- behind a declaration
  good_after : {z : Sizes} {m n : Made} (g h : Context) (a : Node) (t : Forest) → Is z g m n (f.declaration a h) t → Good g → (i j : ℕ) → slice_get nodes i ≡ Some (with_parts a (roots j t)) → At nodes j t → Good h
  good_after g h a t (f.before q d) o i j e at = good_after g h a t d o i j e at
  good_after g h a t (f.after d q) o i j e at = good_after g h a t d o i j e at
  good_after g h a t (f.is_val {j = k} {xs = xs} vs w d) o i j e at = good_vars g xs o (plain_of (f.bindings k xs) t d j at)
  good_after g h a t (f.is_val_rec vs xs w q d) o i j e at = good_vars g xs o (rec_plain i vs (roots j t) xs e)
  good_after g h a t (f.is_type bs w) o i j e at = o
  good_after g h a t (f.is_datatype bs w q r) o i j e at = record { plain = o.plain; exceptions = o.exceptions }
  good_after g h a t (f.is_exception x arg q w) o i j e at = good_exception g i _ x o e refl
  good_after g h a t (f.same_exception x c q w) o i j e at = good_exception g i _ x o e refl
  good_after g h a t (f.not_exception x q) o i j e at = good_exception g i _ x o e refl

  cited : (g : Context) → Good g → (c : Con) → ConIn g c → IsCited nodes c
  cited g o (con.Data t number takes) h = tt
  cited g o con.Ref h = tt
  cited g o (con.Exn x takes) h = o.exceptions x.0 h.1
  cited g o (con.Library e) h = tt

  -- ---- The walk

  pub uses_of : {z : Sizes} {m n : Made} (g : Context) (r : Part) (t : Forest) → Is z g m n r t → Good g → UsesOf r t
  uses_of g r t (f.before q h) o = uses_of g r t h o
  uses_of g r t (f.after h q) o = uses_of g r t h o
  uses_of g r t f.no_expression o = λ i at. (tt, tt)
  uses_of g r t f.no_function o = λ i at. (tt, tt)
  uses_of g r t f.no_pattern o = λ i at. (tt, tt)
  uses_of g r t f.no_rule o = λ i at. (tt, tt)
  uses_of g r t f.no_binding o = λ i at. (tt, tt)
  uses_of g r t f.no_declaration o = λ i at. (tt, tt)
  uses_of g r t (f.more_expressions {a = a} {p = p} {parts = parts} {rest = rest} {j = j} h i) o = more a p parts rest (fit_of (f.expression a) parts h).0 (uses_of g (f.expression a) parts h o) (uses_of g (f.expressions j) rest i o)
  uses_of g r t (f.more_functions {a = a} {p = p} {parts = parts} {rest = rest} {j = j} h i) o = more a p parts rest (fit_of (f.function a) parts h).0 (uses_of g (f.function a) parts h o) (uses_of g (f.functions j) rest i o)
  uses_of g r t (f.more_patterns {a = a} {p = p} {parts = parts} {rest = rest} {j = j} {xs = xs} {ys = ys} h i) o = more a p parts rest (fit_of (f.pattern a xs) parts h).0 (uses_of g (f.pattern a xs) parts h o) (uses_of g (f.patterns j ys) rest i o)
  uses_of g r t (f.more_rules {a = a} {b = b} {p = p} {q = q} {parts = parts} {inner = inner} {rest = rest} {xs = xs} h k w) o = λ i at.
      let u = good_vars g xs o (plain_of (f.pattern a xs) parts h i (suc i) at.0 at.1) in
      more a p parts (tree b q inner rest) (fit_of (f.pattern a xs) parts h).0 (uses_of g (f.pattern a xs) parts h o)
      (more b q inner rest (fit_of (f.expression b) inner k).0 (uses_of (with_vars xs g) (f.expression b) inner k u) (uses_of g f.rules rest w o)) i at
  uses_of g r t (f.more_bindings {a = a} {b = b} {p = p} {q = q} {parts = parts} {inner = inner} {rest = rest} {j = j} {xs = xs} {ys = ys} h k w) o =
      more a p parts (tree b q inner rest) (fit_of (f.pattern a xs) parts h).0 (uses_of g (f.pattern a xs) parts h o)
      (more b q inner rest (fit_of (f.expression b) inner k).0 (uses_of g (f.expression b) inner k o) (uses_of g (f.bindings j ys) rest w o))
  uses_of g r t (f.more_declarations {h = d} {i = e} {a = a} {p = p} {parts = parts} {rest = rest} h k) o = λ i at.
      more a p parts rest (fit_of (f.declaration a d) parts h).0 (uses_of g (f.declaration a d) parts h o) (uses_of d (f.declarations e) rest k (good_after g d a parts h o i (suc i) at.0 at.1)) i at
  uses_of g r t (f.is_int i w) o = ((λ rs. refl), λ i j s at. (tt, tt, tt))
  uses_of g r t (f.is_char c w) o = ((λ rs. refl), λ i j s at. (tt, tt, tt))
  uses_of g r t (f.is_text x w) o = ((λ rs. refl), λ i j s at. (tt, tt, tt))
  uses_of g r t (f.is_variable x w) o = ((λ rs. refl), λ i j s at. (tt, o.plain x w.1, tt))
  uses_of g r t (f.is_constructor c w e) o = ((λ rs. sym (same_takes c) ∙ e), λ i j s at. (tt, cited g o c w, tt))
  uses_of g r t (f.is_builtin b e) o = ((λ rs. builtin_plain b e), λ i j s at. (tt, tt, tt))
  uses_of g r t (f.is_record labs w h) o = ((λ rs. refl), λ i j s at. let d = uses_of g (f.expressions (length labs)) t h o j at in (d.0, tt, d.1))
  uses_of g r t (f.is_app h) o = ((λ rs. refl), λ i j s at. let d = uses_of g f.call t h o j at in (d.0, tt, d.1))
  uses_of g r t (f.call_expression h) o = λ i at. let d = uses_of g (f.expressions 2) t h o i at in (all_drop (roots i t) d.0, d.1)
  uses_of g r t (f.call_constructor {f = rest} c w h) o = λ i at. let d = uses_of g (f.expressions 1) rest h o (suc (i + 0)) at.2 in (d.0, ((tt, cited g o c w), tt, d.1))
  uses_of g r t (f.call_builtin {f = rest} b h) o = λ i at. let d = uses_of g (f.expressions 1) rest h o (suc (i + 0)) at.2 in (d.0, ((tt, tt), tt, d.1))
  uses_of g r t (f.is_case {a = a} {p = p} {parts = parts} {rest = rest} h k) o = ((λ rs. refl), λ i j s at. let d = more a p parts rest (fit_of (f.expression a) parts h).0 (uses_of g (f.expression a) parts h o) (uses_of g f.rules rest k o) j at in (d.0, tt, d.1))
  uses_of g r t (f.is_fn h) o = ((λ rs. refl), λ i j s at. let d = uses_of g f.rules t h o j at in (d.0, tt, d.1))
  uses_of g r t (f.is_raise h) o = ((λ rs. refl), λ i j s at. let d = uses_of g (f.expressions 1) t h o j at in (d.0, tt, d.1))
  uses_of g r t (f.is_handle {a = a} {p = p} {parts = parts} {rest = rest} h k) o = ((λ rs. refl), λ i j s at. let d = more a p parts rest (fit_of (f.expression a) parts h).0 (uses_of g (f.expression a) parts h o) (uses_of g f.rules rest k o) j at in (d.0, tt, d.1))
  uses_of g r t (f.is_typed y w h) o = ((λ rs. refl), λ i j s at. let d = uses_of g (f.expressions 1) t h o j at in (d.0, tt, d.1))
  uses_of g r t (f.is_let {h = e} {a = a} {b = b} {p = p} {q = q} {parts = parts} {inner = inner} h k) o = (
    (λ rs. refl),
    λ i j s at.
        let u = good_after g e a parts h o j (suc j) at.0 at.1 in
        let d = more a p parts (tree b q inner none) (fit_of (f.declaration a e) parts h).0 (uses_of g (f.declaration a e) parts h o) (more b q inner none (fit_of (f.expression b) inner k).0 (uses_of e (f.expression b) inner k u) (λ i at. (tt, tt))) j at in
        (d.0, tt, d.1),
  )
  uses_of g r t (f.fn_function h) o = ((λ rs. refl), λ i j s at. let d = uses_of g f.rules t h o j at in (d.0, tt, d.1))
  uses_of g r t (f.typed_function y w h) o = ((λ rs. refl), λ i j s at. let d = uses_of g (f.functions 1) t h o j at in (d.0, tt, d.1))
  uses_of g r t f.is_wild o = ((λ rs. refl), λ i j s at. (tt, tt, tt))
  uses_of g r t (f.int_pattern i w) o = ((λ rs. refl), λ i j s at. (tt, tt, tt))
  uses_of g r t (f.char_pattern c w) o = ((λ rs. refl), λ i j s at. (tt, tt, tt))
  uses_of g r t (f.text_pattern x w) o = ((λ rs. refl), λ i j s at. (tt, tt, tt))
  uses_of g r t (f.variable_pattern x e) o = ((λ rs. refl), λ i j s at. (tt, tt, tt))
  uses_of g r t (f.con_pattern c w) o = ((λ rs. refl), λ i j s at. (tt, cited g o c w, tt))
  uses_of g r t (f.apply_pattern {xs = xs} c w h) o = ((λ rs. refl), λ i j s at. let d = uses_of g (f.patterns 1 xs) t h o j at in (d.0, cited g o c w, d.1))
  uses_of g r t (f.record_pattern {xs = xs} labs w h) o = ((λ rs. refl), λ i j s at. let d = uses_of g (f.patterns (length labs) xs) t h o j at in (d.0, tt, d.1))
  uses_of g r t (f.typed_pattern {xs = xs} y w h) o = ((λ rs. refl), λ i j s at. let d = uses_of g (f.patterns 1 xs) t h o j at in (d.0, tt, d.1))
  uses_of g r t (f.as_pattern {xs = xs} x e h) o = ((λ rs. refl), λ i j s at. let d = uses_of g (f.patterns 1 xs) t h o j at in (d.0, tt, d.1))
  uses_of g r t (f.con_as_pattern {xs = xs} x e h) o = ((λ rs. refl), λ i j s at. let d = uses_of g (f.patterns 1 xs) t h o j at in (d.0, tt, d.1))
  uses_of g r t (f.is_val {j = k} {xs = xs} vs w h) o = ((λ rs. refl), λ i j s at. let d = uses_of g (f.bindings k xs) t h o j at in (d.0, tt, d.1))
  uses_of g r t (f.is_val_rec vs xs w e h) o = ((λ rs. refl), λ i j s at. let d = uses_of (with_vars xs g) (f.functions (length xs)) t h (good_vars g xs o (rec_plain i vs (roots j t) xs s)) j at in (d.0, tt, d.1))
  uses_of g r t (f.is_type bs w) o = ((λ rs. refl), λ i j s at. (tt, tt, tt))
  uses_of g r t (f.is_datatype bs w e i) o = ((λ rs. refl), λ i j s at. (tt, tt, tt))
  uses_of g r t (f.is_exception x arg e w) o = ((λ rs. refl), λ i j s at. (tt, tt, tt))
  uses_of g r t (f.same_exception x c e w) o = ((λ rs. refl), λ i j s at. (tt, cited g o c w, tt))
  uses_of g r t (f.not_exception x e) o = ((λ rs. refl), λ i j s at. (tt, tt, tt))
  uses_of g r t f.program_end o = ((λ rs. refl), λ i j s at. (tt, tt, tt))
  uses_of g r t (f.program_let {h = e} {a = a} {b = b} {p = p} {q = q} {parts = parts} {inner = inner} h k) o = (
    (λ rs. refl),
    λ i j s at.
        let u = good_after g e a parts h o j (suc j) at.0 at.1 in
        let d = more a p parts (tree b q inner none) (fit_of (f.declaration a e) parts h).0 (uses_of g (f.declaration a e) parts h o) (more b q inner none (fit_of (f.program b) inner k).0 (uses_of e (f.program b) inner k u) (λ i at. (tt, tt))) j at in
        (d.0, tt, d.1),
  )
