-- Each name that is cited is bound around it.
use Rattle.std.proofs.Common.{◌≡◌, ℕ, suc, ◌+◌, ◌⊎◌, inl, inr, true, false, List, [], ◌∷◌, ◌++◌, length, sym, ap, subst, ◌∙◌, Some, arith, eqb-true, eq-eqb}
use Rattle.std.specs.Prelude.{slice_get, Bool, nat_eq, ◌||◌}
use Rattle.std.specs.List.{AllByRecursion}
use Rattle.sml_tree.specs.declared.bare.Con.{Con}
use Rattle.sml_tree.specs.declared.bare.Con.TheVariants as con
use Rattle.sml_tree.specs.declared.bare.Node.{Node}
use Rattle.sml_tree.specs.declared.bare.Node.TheVariants as node
use Rattle.sml_tree.specs.declared.bare.Field.{Field}
use Rattle.sml_tree.specs.declared.bare.RecBinding.{RecBinding}
use Rattle.sml_tree.specs.BareParts.{IsNumbered}
use Rattle.sml_tree.specs.Sets.{has, union, union_over, without}
use Rattle.sml_tree.specs.Free.{binds, binds_of, free, free_of, free_match, free_fields, scoped, exception_of, names_of}
use Rattle.sml_tree.proofs.FreeParts.{binds_unfold, free_unfold}
use Rattle.sml_tree.proofs.Members.{has-union, either, or_left, or_right, without_parts}
use Rattle.sml_expansion.specs.declared.made.Made.{Made}
use Rattle.sml_expansion.specs.Bare.{fields}
use Rattle.sml_expansion.specs.Forests.{Forest, size, roots, with_parts, fields_at, rules_at, bindings_at, rec_bindings_at, part}
use Rattle.expansion_laws.proofs.Contexts.{Among, Context, with_vars, ConIn, among_split}
use Rattle.expansion_laws.proofs.Forms as f
use Rattle.expansion_laws.proofs.Forms.{Sizes, Is, Part}
use Rattle.expansion_laws.proofs.Joined.{counted, counted_patterns, counted_call}
use Rattle.expansion_laws.proofs.Positions.{At}
use Rattle.expansion_laws.proofs.Sorts.{counted_functions, many_roots, many_fields, many_rec, rec_of}

-- all of these are among those
abbrev Within : List ℕ → List ℕ → Type 0
Within vs xs = (x : ℕ) → has xs x ≡ true → Among x vs

within_none : (vs : List ℕ) → Within vs []
within_none vs x h = absurd cc

within_union : (vs xs ys : List ℕ) → Within vs xs → Within vs ys → Within vs (union xs ys)
within_union vs xs ys a b x h = either (has xs x) (has ys x) (Among x vs) (sym (has-union xs ys x) ∙ h) (a x) (b x)

within_one : (vs : List ℕ) (y : ℕ) → Among y vs → Within vs (y ∷ [])
within_one vs y a x h = either (nat_eq x y) false (Among x vs) h (λ e. subst (λ w. Among w vs) (sym (eqb-true x y e)) a) (λ e. absurd cc)

within_con : (g : Context) (c : Con) → ConIn g c → Within g.vars (exception_of c)
within_con g (con.Data t number takes) h = within_none g.vars
within_con g con.Ref h = within_none g.vars
within_con g (con.Exn x takes) h = within_one g.vars x.0 h.0
within_con g (con.Library e) h = within_none g.vars

one_has : (x y : ℕ) → x ≡ y → has (y ∷ []) x ≡ true
one_has x y e = ap (λ w. w || false) (eq-eqb x y e)

has_left : (x : ℕ) (xs ys : List ℕ) → has xs x ≡ true → has (union xs ys) x ≡ true
has_left x xs ys h = has-union xs ys x ∙ or_left (has xs x) (has ys x) h

has_right : (x : ℕ) (xs ys : List ℕ) → has ys x ≡ true → has (union xs ys) x ≡ true
has_right x xs ys h = has-union xs ys x ∙ or_right (has xs x) (has ys x) h

clash : {A : Type 0} {b : Bool} → b ≡ true → b ≡ false → A
clash h e = absurd cc

within_scoped : (b g : ℕ → List ℕ) (vs ws : List ℕ) (q e : ℕ) → Within vs (g q) → Within ws (g e) → ((x : ℕ) → Among x ws → (has (b q) x ≡ true) ⊎ Among x vs) → Within vs (scoped b g q e)
within_scoped b g vs ws q e a c d = within_union vs (g q) (without (g e) (b q)) a (λ x h. let p = without_parts (g e) (b q) x h in go x p.1 (d x (c x p.0)))
  where
    go : (x : ℕ) → has (b q) x ≡ false → (has (b q) x ≡ true) ⊎ Among x vs → Among x vs
    go x e (inl h) = clash h e
    go x e (inr h) = h

names_has : (rs xs : List ℕ) (x : ℕ) → Among x xs → has (names_of (rec_bindings_at rs (rec_of xs))) x ≡ true
names_has rs [] x a = absurd a
names_has [] (y ∷ xs) x (inl e) = has_left x (y ∷ []) (names_of (rec_of xs)) (one_has x y e)
names_has [] (y ∷ xs) x (inr a) = has_right x (y ∷ []) (names_of (rec_of xs)) (names_has [] xs x a)
names_has (r ∷ rs) (y ∷ xs) x (inl e) = has_left x (y ∷ []) (names_of (rec_bindings_at rs (rec_of xs))) (one_has x y e)
names_has (r ∷ rs) (y ∷ xs) x (inr a) = has_right x (y ∷ []) (names_of (rec_bindings_at rs (rec_of xs))) (names_has rs xs x a)

module _ (nodes : List Node) (num : IsNumbered nodes) where
  -- of some of these nodes it is bound
  abbrev AnyBinds : List ℕ → ℕ → Type 0
  AnyBinds [] x = ⊥
  AnyBinds (c ∷ cs) x = (has (binds nodes c) x ≡ true) ⊎ AnyBinds cs x

  abbrev AllWithin : List ℕ → List ℕ → Type 0
  AllWithin vs cs = AllByRecursion (λ c. Within vs (free nodes c)) cs

  abbrev NodeWithin : List ℕ → Node → Forest → Type 0
  NodeWithin vs a t = (j : ℕ) → At nodes j t → Within vs (free_of (binds nodes) (free nodes) (with_parts a (roots j t)))

  abbrev NodeBinds : (ℕ → Type 0) → Node → Forest → Type 0
  NodeBinds P a t = (j : ℕ) → At nodes j t → (x : ℕ) → P x → has (binds_of (binds nodes) (with_parts a (roots j t))) x ≡ true

  abbrev BoundOf : Context → Part → Forest → Type 0
  BoundOf g (f.expression a) t = NodeWithin g.vars a t
  BoundOf g (f.function a) t = NodeWithin g.vars a t
  BoundOf g (f.program a) t = NodeWithin g.vars a t
  BoundOf g (f.pattern a xs) t = NodeWithin g.vars a t × NodeBinds (λ x. Among x xs) a t
  BoundOf g (f.declaration a h) t = NodeWithin g.vars a t × ((j : ℕ) → At nodes j t → (x : ℕ) → Among x h.vars → (has (binds_of (binds nodes) (with_parts a (roots j t))) x ≡ true) ⊎ Among x g.vars)
  BoundOf g (f.expressions j) t = (i : ℕ) → At nodes i t → AllWithin g.vars (roots i t)
  BoundOf g (f.functions j) t = (i : ℕ) → At nodes i t → AllWithin g.vars (roots i t)
  BoundOf g f.call t = (i : ℕ) → At nodes i t → AllWithin g.vars (roots i t)
  BoundOf g (f.patterns j xs) t = ((i : ℕ) → At nodes i t → AllWithin g.vars (roots i t)) × ((i : ℕ) → At nodes i t → (x : ℕ) → Among x xs → AnyBinds (roots i t) x)
  BoundOf g f.rules t = (i : ℕ) → At nodes i t → Within g.vars (free_match (binds nodes) (free nodes) (rules_at (roots i t)))
  BoundOf g (f.bindings j xs) t = ((i : ℕ) → At nodes i t → Within g.vars (union_over (λ b. union (free nodes b.pat) (free nodes b.right)) (bindings_at (roots i t)))) × ((i : ℕ) → At nodes i t → (x : ℕ) → Among x xs → has (union_over (λ b. binds nodes b.pat) (bindings_at (roots i t))) x ≡ true)
  BoundOf g (f.declarations h) t = Unit {0}

  free_at : (vs : List ℕ) (i : ℕ) (n : Node) → slice_get nodes i ≡ Some n → Within vs (free_of (binds nodes) (free nodes) n) → Within vs (free nodes i)
  free_at vs i n e h x m = h x (sym (ap (λ s. has s x) (free_unfold nodes num i n e)) ∙ m)

  binds_at : (i : ℕ) (n : Node) → slice_get nodes i ≡ Some n → (x : ℕ) → has (binds_of (binds nodes) n) x ≡ true → has (binds nodes i) x ≡ true
  binds_at i n e x m = ap (λ s. has s x) (binds_unfold nodes num i n e) ∙ m

  fields_within : (vs rs : List ℕ) (fs : List Field) → length rs ≡ length fs → AllWithin vs rs → Within vs (free_fields (free nodes) (fields_at rs fs))
  fields_within vs [] [] e h = within_none vs
  fields_within vs [] (x ∷ fs) e h = cc
  fields_within vs (r ∷ rs) [] e h = within_none vs
  fields_within vs (r ∷ rs) (x ∷ fs) e h = within_union vs (free nodes r) (free_fields (free nodes) (fields_at rs fs)) h.0 (fields_within vs rs fs (let y : length rs ≡ length fs = omega (arith, e) in y) h.1)

  fields_bind : (rs : List ℕ) (fs : List Field) (x : ℕ) → length rs ≡ length fs → AnyBinds rs x → has (union_over (λ f. binds nodes f.node) (fields_at rs fs)) x ≡ true
  fields_bind [] fs x e a = absurd a
  fields_bind (r ∷ rs) [] x e a = cc
  fields_bind (r ∷ rs) (y ∷ fs) x e (inl a) = has_left x (binds nodes r) (union_over (λ f. binds nodes f.node) (fields_at rs fs)) a
  fields_bind (r ∷ rs) (y ∷ fs) x e (inr a) = has_right x (binds nodes r) (union_over (λ f. binds nodes f.node) (fields_at rs fs)) (fields_bind rs fs x (let y : length rs ≡ length fs = omega (arith, e) in y) a)

  rec_within : (vs rs : List ℕ) (bs : List RecBinding) → length rs ≡ length bs → AllWithin vs rs → Within vs (union_over (λ b. free nodes b.right) (rec_bindings_at rs bs))
  rec_within vs [] [] e h = within_none vs
  rec_within vs [] (x ∷ fs) e h = cc
  rec_within vs (r ∷ rs) [] e h = within_none vs
  rec_within vs (r ∷ rs) (x ∷ bs) e h = within_union vs (free nodes r) (union_over (λ b. free nodes b.right) (rec_bindings_at rs bs)) h.0 (rec_within vs rs bs (let y : length rs ≡ length bs = omega (arith, e) in y) h.1)

  first_within : (vs rs : List ℕ) → length rs ≡ 1 → AllWithin vs rs → Within vs (free nodes (part 0 rs))
  first_within vs [] e h = cc
  first_within vs (r ∷ rs) e h = h.0

  two_within : (vs rs : List ℕ) → length rs ≡ 2 → AllWithin vs rs → Within vs (union (free nodes (part 0 rs)) (free nodes (part 1 rs)))
  two_within vs [] e h = cc
  two_within vs (x ∷ []) e h = absurd (omega (arith, e))
  two_within vs (x ∷ y ∷ rs) e h = within_union vs (free nodes x) (free nodes y) h.0 h.1.0

  first_binds : (rs : List ℕ) (x : ℕ) → length rs ≡ 1 → AnyBinds rs x → has (binds nodes (part 0 rs)) x ≡ true
  first_binds [] x e a = absurd a
  first_binds (r ∷ []) x e (inl a) = a
  first_binds (r ∷ []) x e (inr a) = absurd a
  first_binds (r ∷ s ∷ rs) x e a = absurd (omega (arith, e))

  as_binds : (y : ℕ) (xs rs : List ℕ) (x : ℕ) → length rs ≡ 1 → ((x : ℕ) → Among x xs → AnyBinds rs x) → Among x (y ∷ xs) → has (union (y ∷ []) (binds nodes (part 0 rs))) x ≡ true
  as_binds y xs rs x e h (inl s) = has_left x (y ∷ []) (binds nodes (part 0 rs)) (one_has x y s)
  as_binds y xs rs x e h (inr a) = has_right x (y ∷ []) (binds nodes (part 0 rs)) (first_binds rs x e (h x a))

  more_binds : (i : ℕ) (cs xs ys : List ℕ) → ((x : ℕ) → Among x xs → has (binds nodes i) x ≡ true) → ((x : ℕ) → Among x ys → AnyBinds cs x) → (x : ℕ) → Among x (xs ++ ys) → AnyBinds (i ∷ cs) x
  more_binds i cs xs ys a b x h = go (among_split x xs ys h)
    where
      go : Among x xs ⊎ Among x ys → AnyBinds (i ∷ cs) x
      go (inl h) = inl (a x h)
      go (inr h) = inr (b x h)

  either_binds : (xs ys s t : List ℕ) → ((x : ℕ) → Among x xs → has s x ≡ true) → ((x : ℕ) → Among x ys → has t x ≡ true) → (x : ℕ) → Among x (xs ++ ys) → has (union s t) x ≡ true
  either_binds xs ys s t a b x h = go (among_split x xs ys h)
    where
      go : Among x xs ⊎ Among x ys → has (union s t) x ≡ true
      go (inl h) = has_left x s t (a x h)
      go (inr h) = has_right x s t (b x h)

  under_vars : (xs vs s : List ℕ) → ((x : ℕ) → Among x xs → has s x ≡ true) → (x : ℕ) → Among x (xs ++ vs) → (has s x ≡ true) ⊎ Among x vs
  under_vars xs vs s a x h = go (among_split x xs vs h)
    where
      go : Among x xs ⊎ Among x vs → (has s x ≡ true) ⊎ Among x vs
      go (inl h) = inl (a x h)
      go (inr h) = inr h

  rec_scope : (vs xs us : List ℕ) (bs : List RecBinding) → Within (xs ++ vs) us → ((x : ℕ) → Among x xs → has (names_of bs) x ≡ true) → Within vs (without us (names_of bs))
  rec_scope vs xs us bs a b x h = let p = without_parts us (names_of bs) x h in go p.1 (under_vars xs vs (names_of bs) b x (a x p.0))
    where
      go : has (names_of bs) x ≡ false → (has (names_of bs) x ≡ true) ⊎ Among x vs → Among x vs
      go e (inl h) = clash h e
      go e (inr h) = h

  variable_binds : (x y : ℕ) → Among y (x ∷ []) → has (x ∷ []) y ≡ true
  variable_binds x y (inl e) = one_has y x e
  variable_binds x y (inr a) = absurd a

  bind_there : (i : ℕ) (n : Node) → slice_get nodes i ≡ Some n → (vs : List ℕ) (x : ℕ) → (has (binds_of (binds nodes) n) x ≡ true) ⊎ Among x vs → (has (binds nodes i) x ≡ true) ⊎ Among x vs
  bind_there i n e vs x (inl h) = inl (binds_at i n e x h)
  bind_there i n e vs x (inr h) = inr h

  pub bound_of : {z : Sizes} {m n : Made} (g : Context) (r : Part) (t : Forest) → Is z g m n r t → BoundOf g r t
  bound_of g r t (f.before q h) = bound_of g r t h
  bound_of g r t (f.after h q) = bound_of g r t h
  bound_of g r t f.no_expression = λ i at. tt
  bound_of g r t (f.more_expressions {a = a} {parts = parts} {rest = rest} {j = j} h i) = λ k at. (free_at g.vars k (with_parts a (roots (suc k) parts)) at.0 (bound_of g (f.expression a) parts h (suc k) at.1), bound_of g (f.expressions j) rest i (suc (k + size parts)) at.2)
  bound_of g r t f.no_function = λ i at. tt
  bound_of g r t (f.more_functions {a = a} {parts = parts} {rest = rest} {j = j} h i) = λ k at. (free_at g.vars k (with_parts a (roots (suc k) parts)) at.0 (bound_of g (f.function a) parts h (suc k) at.1), bound_of g (f.functions j) rest i (suc (k + size parts)) at.2)
  bound_of g r t f.no_pattern = (λ i at. tt, λ i at x a. absurd a)
  bound_of g r t (f.more_patterns {a = a} {parts = parts} {rest = rest} {j = j} {xs = xs} {ys = ys} h i) = let d = bound_of g (f.pattern a xs) parts h in let e = bound_of g (f.patterns j ys) rest i in (
    (λ k at. (free_at g.vars k (with_parts a (roots (suc k) parts)) at.0 (d.0 (suc k) at.1), e.0 (suc (k + size parts)) at.2)),
    (λ k at. more_binds k (roots (suc (k + size parts)) rest) xs ys (λ x m. binds_at k (with_parts a (roots (suc k) parts)) at.0 x (d.1 (suc k) at.1 x m)) (e.1 (suc (k + size parts)) at.2)),
  )
  bound_of g r t f.no_rule = λ i at. within_none g.vars
  bound_of g r t (f.more_rules {a = a} {b = b} {parts = parts} {inner = inner} {rest = rest} {xs = xs} h o w) = λ k at.
      let k2 = suc (k + size parts) in
      let d = bound_of g (f.pattern a xs) parts h in
      within_union g.vars (scoped (binds nodes) (free nodes) k k2) (free_match (binds nodes) (free nodes) (rules_at (roots (suc (k2 + size inner)) rest)))
      (within_scoped (binds nodes) (free nodes) g.vars (xs ++ g.vars) k k2 (free_at g.vars k (with_parts a (roots (suc k) parts)) at.0 (d.0 (suc k) at.1))
      (free_at (xs ++ g.vars) k2 (with_parts b (roots (suc k2) inner)) at.2.0 (bound_of (with_vars xs g) (f.expression b) inner o (suc k2) at.2.1))
      (under_vars xs g.vars (binds nodes k) (λ x m. binds_at k (with_parts a (roots (suc k) parts)) at.0 x (d.1 (suc k) at.1 x m))))
      (bound_of g f.rules rest w (suc (k2 + size inner)) at.2.2)
  bound_of g r t f.no_binding = (λ i at. within_none g.vars, λ i at x a. absurd a)
  bound_of g r t (f.more_bindings {a = a} {b = b} {parts = parts} {inner = inner} {rest = rest} {j = j} {xs = xs} {ys = ys} h o w) = let d = bound_of g (f.pattern a xs) parts h in let e = bound_of g (f.bindings j ys) rest w in (
    (λ k at. let k2 = suc (k + size parts) in
        within_union g.vars (union (free nodes k) (free nodes k2)) (union_over (λ b. union (free nodes b.pat) (free nodes b.right)) (bindings_at (roots (suc (k2 + size inner)) rest)))
        (within_union g.vars (free nodes k) (free nodes k2) (free_at g.vars k (with_parts a (roots (suc k) parts)) at.0 (d.0 (suc k) at.1)) (free_at g.vars k2 (with_parts b (roots (suc k2) inner)) at.2.0 (bound_of g (f.expression b) inner o (suc k2) at.2.1)))
        (e.0 (suc (k2 + size inner)) at.2.2)),
    (λ k at. let k2 = suc (k + size parts) in
        either_binds xs ys (binds nodes k) (union_over (λ b. binds nodes b.pat) (bindings_at (roots (suc (k2 + size inner)) rest)))
        (λ x m. binds_at k (with_parts a (roots (suc k) parts)) at.0 x (d.1 (suc k) at.1 x m)) (e.1 (suc (k2 + size inner)) at.2.2)),
  )
  bound_of g r t f.no_declaration = tt
  bound_of g r t (f.more_declarations h i) = tt
  bound_of g r t (f.is_int i o) = λ j at. within_none g.vars
  bound_of g r t (f.is_char c o) = λ j at. within_none g.vars
  bound_of g r t (f.is_text x o) = λ j at. within_none g.vars
  bound_of g r t (f.is_builtin b e) = λ j at. within_none g.vars
  bound_of g r t (f.is_variable x o) = λ j at. within_one g.vars x o.0
  bound_of g r t (f.is_constructor c o e) = λ j at. within_con g c o
  bound_of g r t (f.is_record labs o h) = λ j at. fields_within g.vars (roots j t) (fields labs) (many_fields labs j t (counted h)) (bound_of g (f.expressions (length labs)) t h j at)
  bound_of g r t (f.is_app h) = λ j at. two_within g.vars (roots j t) (many_roots j t ∙ counted_call h) (bound_of g f.call t h j at)
  bound_of g r t (f.call_expression h) = λ i at. bound_of g (f.expressions 2) t h i at
  bound_of g r t (f.call_constructor {f = rest} c o h) = λ k at. (free_at g.vars k (node.Constructor c) at.0 (within_con g c o), bound_of g (f.expressions 1) rest h (suc (k + 0)) at.2)
  bound_of g r t (f.call_builtin {f = rest} b h) = λ k at. (free_at g.vars k (node.Builtin b) at.0 (within_none g.vars), bound_of g (f.expressions 1) rest h (suc (k + 0)) at.2)
  bound_of g r t (f.is_case {a = a} {parts = parts} {rest = rest} h i) = λ j at.
      within_union g.vars (free nodes j) (free_match (binds nodes) (free nodes) (rules_at (roots (suc (j + size parts)) rest)))
      (free_at g.vars j (with_parts a (roots (suc j) parts)) at.0 (bound_of g (f.expression a) parts h (suc j) at.1)) (bound_of g f.rules rest i (suc (j + size parts)) at.2)
  bound_of g r t (f.is_fn h) = λ j at. bound_of g f.rules t h j at
  bound_of g r t (f.is_raise h) = λ j at. first_within g.vars (roots j t) (many_roots j t ∙ counted h) (bound_of g (f.expressions 1) t h j at)
  bound_of g r t (f.is_handle {a = a} {parts = parts} {rest = rest} h i) = λ j at.
      within_union g.vars (free nodes j) (free_match (binds nodes) (free nodes) (rules_at (roots (suc (j + size parts)) rest)))
      (free_at g.vars j (with_parts a (roots (suc j) parts)) at.0 (bound_of g (f.expression a) parts h (suc j) at.1)) (bound_of g f.rules rest i (suc (j + size parts)) at.2)
  bound_of g r t (f.is_typed y o h) = λ j at. first_within g.vars (roots j t) (many_roots j t ∙ counted h) (bound_of g (f.expressions 1) t h j at)
  bound_of g r t (f.is_let {h = e} {a = a} {b = b} {parts = parts} {inner = inner} h i) = λ j at.
      let k2 = suc (j + size parts) in let d = bound_of g (f.declaration a e) parts h in
      within_scoped (binds nodes) (free nodes) g.vars e.vars j k2 (free_at g.vars j (with_parts a (roots (suc j) parts)) at.0 (d.0 (suc j) at.1))
      (free_at e.vars k2 (with_parts b (roots (suc k2) inner)) at.2.0 (bound_of e (f.expression b) inner i (suc k2) at.2.1))
      (λ x m. bind_there j (with_parts a (roots (suc j) parts)) at.0 g.vars x (d.1 (suc j) at.1 x m))
  bound_of g r t (f.fn_function h) = λ j at. bound_of g f.rules t h j at
  bound_of g r t (f.typed_function y o h) = λ j at. first_within g.vars (roots j t) (many_roots j t ∙ counted_functions h) (bound_of g (f.functions 1) t h j at)
  bound_of g r t f.is_wild = ((λ j at. within_none g.vars), λ j at x a. absurd a)
  bound_of g r t (f.int_pattern i o) = ((λ j at. within_none g.vars), λ j at x a. absurd a)
  bound_of g r t (f.char_pattern c o) = ((λ j at. within_none g.vars), λ j at x a. absurd a)
  bound_of g r t (f.text_pattern x o) = ((λ j at. within_none g.vars), λ j at x a. absurd a)
  bound_of g r t (f.variable_pattern x e) = ((λ j at. within_none g.vars), λ j at y a. variable_binds x y a)
  bound_of g r t (f.con_pattern c o) = ((λ j at. within_con g c o), λ j at x a. absurd a)
  bound_of g r t (f.apply_pattern {xs = xs} c o h) = let d = bound_of g (f.patterns 1 xs) t h in ((λ j at. within_union g.vars (exception_of c) (free nodes (part 0 (roots j t))) (within_con g c o) (first_within g.vars (roots j t) (many_roots j t ∙ counted_patterns h) (d.0 j at))), λ j at x a. first_binds (roots j t) x (many_roots j t ∙ counted_patterns h) (d.1 j at x a))
  bound_of g r t (f.record_pattern {xs = xs} labs o h) = let d = bound_of g (f.patterns (length labs) xs) t h in ((λ j at. fields_within g.vars (roots j t) (fields labs) (many_fields labs j t (counted_patterns h)) (d.0 j at)), λ j at x a. fields_bind (roots j t) (fields labs) x (many_fields labs j t (counted_patterns h)) (d.1 j at x a))
  bound_of g r t (f.typed_pattern {xs = xs} y o h) = let d = bound_of g (f.patterns 1 xs) t h in ((λ j at. first_within g.vars (roots j t) (many_roots j t ∙ counted_patterns h) (d.0 j at)), λ j at x a. first_binds (roots j t) x (many_roots j t ∙ counted_patterns h) (d.1 j at x a))
  bound_of g r t (f.as_pattern {xs = xs} y e h) = let d = bound_of g (f.patterns 1 xs) t h in ((λ j at. first_within g.vars (roots j t) (many_roots j t ∙ counted_patterns h) (d.0 j at)), λ j at x a. as_binds y xs (roots j t) x (many_roots j t ∙ counted_patterns h) (d.1 j at) a)
  bound_of g r t (f.con_as_pattern {xs = xs} y e h) = let d = bound_of g (f.patterns 1 xs) t h in ((λ j at. first_within g.vars (roots j t) (many_roots j t ∙ counted_patterns h) (d.0 j at)), λ j at x a. as_binds y xs (roots j t) x (many_roots j t ∙ counted_patterns h) (d.1 j at) a)
  bound_of g r t (f.is_val {j = i} {xs = xs} vs o h) = let d = bound_of g (f.bindings i xs) t h in (d.0, λ j at x m. under_vars xs g.vars (union_over (λ b. binds nodes b.pat) (bindings_at (roots j t))) (d.1 j at) x m)
  bound_of g r t (f.is_val_rec vs xs o e h) = ((λ j at. rec_scope g.vars xs (union_over (λ b. free nodes b.right) (rec_bindings_at (roots j t) (rec_of xs))) (rec_bindings_at (roots j t) (rec_of xs)) (rec_within (xs ++ g.vars) (roots j t) (rec_of xs) (many_rec xs j t (counted_functions h)) (bound_of (with_vars xs g) (f.functions (length xs)) t h j at)) (names_has (roots j t) xs)), λ j at x m. under_vars xs g.vars (names_of (rec_bindings_at (roots j t) (rec_of xs))) (names_has (roots j t) xs) x m)
  bound_of g r t (f.is_type bs o) = ((λ j at. within_none g.vars), λ j at x m. inr m)
  bound_of g r t (f.is_datatype bs o e i) = ((λ j at. within_none g.vars), λ j at x m. inr m)
  bound_of g r t (f.is_exception x arg e o) = ((λ j at. within_none g.vars), λ j at y m. under_vars (x ∷ []) g.vars (x ∷ []) (λ w a. variable_binds x w a) y m)
  bound_of g r t (f.same_exception x c e o) = ((λ j at. within_con g c o), λ j at y m. under_vars (x ∷ []) g.vars (x ∷ []) (λ w a. variable_binds x w a) y m)
  bound_of g r t (f.not_exception x e) = ((λ j at. within_none g.vars), λ j at y m. under_vars (x ∷ []) g.vars (x ∷ []) (λ w a. variable_binds x w a) y m)
  bound_of g r t f.program_end = λ j at. within_none g.vars
  bound_of g r t (f.program_let {h = e} {a = a} {b = b} {parts = parts} {inner = inner} h i) = λ j at.
      let k2 = suc (j + size parts) in let d = bound_of g (f.declaration a e) parts h in
      within_scoped (binds nodes) (free nodes) g.vars e.vars j k2 (free_at g.vars j (with_parts a (roots (suc j) parts)) at.0 (d.0 (suc j) at.1))
      (free_at e.vars k2 (with_parts b (roots (suc k2) inner)) at.2.0 (bound_of e (f.program b) inner i (suc k2) at.2.1))
      (λ x m. bind_there j (with_parts a (roots (suc j) parts)) at.0 g.vars x (d.1 (suc j) at.1 x m))
