-- In a bare tree later bindings of a value declaration use no variable of its earlier patterns.
use Rattle.std.proofs.Common.{◌≡◌, ℕ, zero, suc, ◌+◌, ◌<◌, ◌≤◌, Bool, true, false, ◌||◌, List, [], ◌∷◌, ◌++◌, length, Option, Some, None, refl, sym, ap, ◌∙◌, subst, ⊎_elim, ◌⊎◌, inl, inr, arith, append_assoc}
use Rattle.std.specs.Prelude.{slice_get, flat_map, nat_eq, map, take, drop}
use Rattle.std.proofs.lemmas.Grind.{flat_map-append}
use Rattle.std.proofs.Math.Seq.{take-add, take-length}
use Rattle.std.proofs.lemmas.Option.{slice_get_within}
use Rattle.sml_tree.proofs.Ascends.{size_unfold}
use Rattle.std.specs.List.{AllByRecursion}
use Rattle.std.proofs.lemmas.List.Folds.{list_any-append}
use Rattle.std.proofs.lemmas.Bool.{cases_lt, eqb-true, eq-eqb}
use Rattle.sml_tree.specs.declared.bare.Bare.{Bare}
use Rattle.sml_tree.specs.declared.bare.Node.{Node}
use Rattle.sml_tree.specs.declared.bare.Node.TheVariants as node
use Rattle.sml_tree.specs.declared.bare.Rule.{Rule}
use Rattle.sml_tree.specs.declared.bare.Field.{Field}
use Rattle.sml_tree.specs.declared.bare.Binding.{Binding}
use Rattle.sml_tree.specs.declared.bare.RecBinding.{RecBinding}
use Rattle.sml_tree.specs.BareParts.{IsNumbered, node_parts, rule_parts, at_node, within, from_parts}
use Rattle.sml_tree.specs.IsBare.{IsBare, IsPreorder, IsDistinct, InRow, sum_of, size, size_of, names_at}
use Rattle.sml_tree.specs.Sets.{has, union, union_over, without}
use Rattle.sml_tree.specs.Free.{free, binds, free_of, binds_of, free_match, free_fields, scoped, names_of, exception_of}
use Rattle.sml_tree.proofs.Members.{IsWithin, within_left, within_right, within_head, within_tail, within_rest, has-union, without_parts, either, or_left, or_right, in_or_not}
use Rattle.sml_tree.proofs.FreeParts.{free_unfold}
use Rattle.sml_tree.proofs.Unfold.{by_parts}

-- Later patterns and right sides of a value declaration use no variable of its earlier patterns.
abbrev pub UsesNone : Bare → ℕ → Binding → Type 0
UsesNone p q c =
    (x : ℕ) → has (binds p.nodes q) x ≡ true → (has (free p.nodes c.pat) x ≡ false) × (has (free p.nodes c.right) x ≡ false)

abbrev pub Apart : Bare → List Binding → Type 0
Apart p [] = Unit {0}
Apart p (b ∷ later) = AllByRecursion (UsesNone p b.pat) later × Apart p later

abbrev pub IsApart : Bare → Type 0
IsApart p =
    (i : ℕ) (tyvars : _) (bindings : _) → slice_get p.nodes i ≡ Some (node.Val tyvars bindings) → Apart p bindings

has_append : (xs ys : List ℕ) (z : ℕ) → has (xs ++ ys) z ≡ (has xs z || has ys z)
has_append xs ys z = list_any-append (nat_eq z) xs ys

-- an item of one of two lists in which none stands twice isn't in the other
neither : (q t : Bool) → (q || t) ≡ false → (q ≡ false) × (t ≡ false)
neither false false e = (refl, refl)
neither true t e = absurd cc
neither false true e = absurd cc

distinct_parts : (xs ys : List ℕ) → IsDistinct (xs ++ ys) → IsDistinct ys × ((z : ℕ) → has xs z ≡ true → has ys z ≡ false)
distinct_parts [] ys h = (h, λ z e. absurd cc)
distinct_parts (x ∷ xs) ys h =
    let r = distinct_parts xs ys h.1 in
    (r.0, λ z e. either (nat_eq z x) (has xs z) (has ys z ≡ false) e (λ q. let same : z ≡ x = eqb-true z x q in ap (has ys) same ∙ (neither (has xs x) (has ys x) (sym (has_append xs ys x) ∙ h.0)).1) (λ q. r.1 z q))

distinct_left : (xs ys : List ℕ) → IsDistinct (xs ++ ys) → IsDistinct xs
distinct_left [] ys h = tt
distinct_left (x ∷ xs) ys h = ((neither (has xs x) (has ys x) (sym (has_append xs ys x) ∙ h.0)).0, distinct_left xs ys h.1)

-- ---- The names that are bound in a node

abbrev inside_of : (ℕ → List ℕ) → ℕ → Node → List ℕ
inside_of part i n = names_at n ++ flat_map part (node_parts n)

abbrev inside : List Node → ℕ → List ℕ
inside = from_parts [] inside_of

same_parts : (f g : ℕ → List ℕ) (cs : List ℕ) → AllByRecursion (λ c. f c ≡ g c) cs → flat_map f cs ≡ flat_map g cs
same_parts f g [] h = refl
same_parts f g (c ∷ cs) h = ap (λ xs. xs ++ flat_map f cs) h.0 ∙ ap (λ ys. g c ++ ys) (same_parts f g cs h.1)

inside_unfold : (nodes : List Node) → IsNumbered nodes → (i : ℕ) (n : Node) → slice_get nodes i ≡ Some n → inside nodes i ≡ names_at n ++ flat_map (inside nodes) (node_parts n)
inside_unfold nodes numbered i n e =
    by_parts [] inside_of (λ x y. x ≡ y) refl (λ f g i n h. ap (λ ys. names_at n ++ ys) (same_parts f g (node_parts n) h)) nodes numbered i
    ∙ ap (at_node [] inside_of (inside nodes) i) e

-- ---- What is bound is inside

module _ (b f : ℕ → List ℕ) (h : (c : ℕ) → IsWithin (b c) (f c)) where
  part_in : (own : List ℕ) (cs : List ℕ) (c : ℕ) → has cs c ≡ true → IsWithin (b c) (own ++ flat_map f cs)
  part_in own [] c e z q = absurd cc
  part_in own (x ∷ cs) c e z q =
      has_append own (flat_map f (x ∷ cs)) z
      ∙ or_right (has own z) (has (flat_map f (x ∷ cs)) z) (has_append (f x) (flat_map f cs) z ∙ either (nat_eq c x) (has cs c) ((has (f x) z || has (flat_map f cs) z) ≡ true) e (λ s. let same : c ≡ x = eqb-true c x s in or_left (has (f x) z) (has (flat_map f cs) z) (h x z (ap (λ y. has (b y) z) (sym same) ∙ q))) (λ s. or_right (has (f x) z) (has (flat_map f cs) z) (part_in [] cs c s z q)))

  self : (c : ℕ) → has (c ∷ []) c ≡ true
  self c = or_left (nat_eq c c) false (eq-eqb c c refl)

  fields_in : (fields : List Field) → IsWithin (union_over (λ x. b x.node) fields) (flat_map f (map (λ x. x.node) fields))
  fields_in [] z q = q
  fields_in (x ∷ fields) z q =
      has_append (f x.node) (flat_map f (map (λ x. x.node) fields)) z
      ∙ either (has (b x.node) z) (has (union_over (λ x. b x.node) fields) z) ((has (f x.node) z || has (flat_map f (map (λ x. x.node) fields)) z) ≡ true) (sym (has-union (b x.node) (union_over (λ x. b x.node) fields) z) ∙ q) (λ s. or_left (has (f x.node) z) _ (h x.node z s)) (λ s. or_right (has (f x.node) z) _ (fields_in fields z s))

  front_in : (x c : ℕ) → IsWithin (union (x ∷ []) (b c)) ((x ∷ []) ++ flat_map f (c ∷ []))
  front_in x c z q =
      either (has (x ∷ []) z) (has (b c) z) (has ((x ∷ []) ++ flat_map f (c ∷ [])) z ≡ true) (sym (has-union (x ∷ []) (b c) z) ∙ q) (λ s. has_append (x ∷ []) (flat_map f (c ∷ [])) z ∙ or_left (has (x ∷ []) z) (has (flat_map f (c ∷ [])) z) s) (λ s. part_in (x ∷ []) (c ∷ []) c (self c) z s)

  bindings_in : (bindings : List Binding) → IsWithin (union_over (λ x. b x.pat) bindings) (flat_map f (flat_map (λ x. x.pat ∷ x.right ∷ []) bindings))
  bindings_in [] z q = q
  bindings_in (x ∷ bindings) z q =
      has_append (f x.pat) (f x.right ++ flat_map f (flat_map (λ x. x.pat ∷ x.right ∷ []) bindings)) z
      ∙ either (has (b x.pat) z) (has (union_over (λ x. b x.pat) bindings) z) ((has (f x.pat) z || has (f x.right ++ flat_map f (flat_map (λ x. x.pat ∷ x.right ∷ []) bindings)) z) ≡ true) (sym (has-union (b x.pat) (union_over (λ x. b x.pat) bindings) z) ∙ q) (λ s. or_left (has (f x.pat) z) _ (h x.pat z s)) (λ s. or_right (has (f x.pat) z) _ (has_append (f x.right) (flat_map f (flat_map (λ x. x.pat ∷ x.right ∷ []) bindings)) z ∙ or_right (has (f x.right) z) _ (bindings_in bindings z s)))

  group_in : (bindings : List RecBinding) → IsWithin (names_of bindings) (map (λ x. x.name.0) bindings)
  group_in [] z q = q
  group_in (x ∷ bindings) z q =
      either (has (x.name.0 ∷ []) z) (has (names_of bindings) z) ((nat_eq z x.name.0 || has (map (λ x. x.name.0) bindings) z) ≡ true) (sym (has-union (x.name.0 ∷ []) (names_of bindings) z) ∙ q) (λ s. or_left (nat_eq z x.name.0) _ (only (nat_eq z x.name.0) s)) (λ s. or_right (nat_eq z x.name.0) _ (group_in bindings z s))
    where
      only : (q : Bool) → (q || false) ≡ true → q ≡ true
      only true e = refl
      only false e = e

  front : (xs ys : List ℕ) → IsWithin xs (xs ++ ys)
  front xs ys z q = has_append xs ys z ∙ or_left (has xs z) (has ys z) q

  node_in : (n : Node) → IsWithin (binds_of b n) (names_at n ++ flat_map f (node_parts n))
  node_in (node.PatVar x) = front (x.0 ∷ []) []
  node_in (node.PatApp c q) = part_in [] (q ∷ []) q (self q)
  node_in (node.PatRecord fields) = fields_in fields
  node_in (node.PatTyped q ty) = part_in [] (q ∷ []) q (self q)
  node_in (node.PatAs x q) = front_in x.0 q
  node_in (node.PatAsCon x q) = front_in x.0 q
  node_in (node.Val tyvars bindings) = bindings_in bindings
  node_in (node.ValRec tyvars bindings) = λ z q. front (map (λ x. x.name.0) bindings) _ z (group_in bindings z q)
  node_in (node.Exception x ty) = front (x.0 ∷ []) []
  node_in (node.SameException x c) = front (x.0 ∷ []) []
  node_in (node.NoException x) = front (x.0 ∷ []) []
  node_in _ = λ z q. absurd cc

binds_in : (nodes : List Node) (k i : ℕ) → IsWithin (within [] (λ part i. binds_of part) k nodes i) (within [] inside_of k nodes i)
binds_in nodes zero i = λ z q. q
binds_in nodes (suc k) i = at (binds_in nodes k) (slice_get nodes i)
  where
    at : ((c : ℕ) → IsWithin (within [] (λ part i. binds_of part) k nodes c) (within [] inside_of k nodes c)) → (o : Option Node) → IsWithin (at_node [] (λ part i. binds_of part) (within [] (λ part i. binds_of part) k nodes) i o) (at_node [] inside_of (within [] inside_of k nodes) i o)
    at f None = λ z q. q
    at f (Some n) = node_in (within [] (λ part i. binds_of part) k nodes) (within [] inside_of k nodes) f n

-- ---- Lists of nodes

drop_none : {A : Type 0} (n : ℕ) → drop {A = A} n [] ≡ []
drop_none zero = refl
drop_none (suc n) = refl

drop_more : {A : Type 0} (a b : ℕ) (l : List A) → drop (a + b) l ≡ drop b (drop a l)
drop_more zero b l = ap (λ n. drop n l) (let q : 0 + b ≡ b = omega arith in q)
drop_more (suc a) b [] = drop_none (suc a + b) ∙ sym (drop_none b)
drop_more (suc a) b (x ∷ l) = ap (λ n. drop n (x ∷ l)) (let q : suc a + b ≡ suc (a + b) = omega arith in q) ∙ drop_more a b l

drop_at : {A : Type 0} (l : List A) (i : ℕ) (x : A) → slice_get l i ≡ Some x → drop i l ≡ x ∷ drop (suc i) l
drop_at [] i x e = absurd cc
drop_at (y ∷ l) zero x e = let same : y ≡ x = cc in ap (λ z. z ∷ l) same
drop_at (y ∷ l) (suc i) x e = drop_at l i x e

module _ (nodes : List Node) (numbered : IsNumbered nodes) (preorder : IsPreorder nodes) where
  abbrev names_in : List Node → List ℕ
  names_in ns = flat_map names_at ns

  abbrev IsSpan : ℕ → Type 0
  IsSpan c = inside nodes c ≡ names_in (take (size nodes c) (drop c nodes))

  row_spans : (cs : List ℕ) (j : ℕ) → InRow (size nodes) j cs → AllByRecursion IsSpan cs → flat_map (inside nodes) cs ≡ names_in (take (sum_of (size nodes) cs) (drop j nodes))
  row_spans [] j r h = refl
  row_spans (c ∷ cs) j r h =
      let here : inside nodes c ≡ names_in (take (size nodes c) (drop j nodes)) = h.0 ∙ ap (λ n. names_in (take (size nodes c) (drop n nodes))) r.0 in
      let rest : flat_map (inside nodes) cs ≡ names_in (take (sum_of (size nodes) cs) (drop (size nodes c) (drop j nodes))) = row_spans cs (j + size nodes c) r.1 h.1 ∙ ap (λ l. names_in (take (sum_of (size nodes) cs) l)) (drop_more j (size nodes c) nodes) in
      ap (λ xs. xs ++ flat_map (inside nodes) cs) here
      ∙ ap (λ ys. names_in (take (size nodes c) (drop j nodes)) ++ ys) rest
      ∙ sym (flat_map-append names_at (take (size nodes c) (drop j nodes)) (take (sum_of (size nodes) cs) (drop (size nodes c) (drop j nodes))))
      ∙ ap names_in (sym (take-add (size nodes c) (sum_of (size nodes) cs) (drop j nodes)))

  all_spans : (i : ℕ) (cs : List ℕ) → AllByRecursion (λ c. (i < c) × (c < length nodes)) cs → ((c : ℕ) → i < c → c < length nodes → IsSpan c) → AllByRecursion IsSpan cs
  all_spans i [] h f = tt
  all_spans i (c ∷ cs) h f = (f c h.0.0 h.0.1, all_spans i cs h.1 f)

  node_span : (i : ℕ) (o : Option Node) → slice_get nodes i ≡ o → ((c : ℕ) → i < c → c < length nodes → IsSpan c) → IsSpan i
  node_span i None e f =
      by_parts [] inside_of (λ x y. x ≡ y) refl (λ f g i n h. ap (λ ys. names_at n ++ ys) (same_parts f g (node_parts n) h)) nodes numbered i
      ∙ ap (at_node [] inside_of (inside nodes) i) e
      ∙ sym (ap (λ n. names_in (take n (drop i nodes))) (size_unfold nodes numbered preorder i ∙ ap (at_node 0 size_of (size nodes) i) e))
  node_span i (Some n) e f =
      let sum : ℕ = sum_of (size nodes) (node_parts n) in
      let long : size nodes i ≡ suc sum = size_unfold nodes numbered preorder i ∙ ap (at_node 0 size_of (size nodes) i) e in
      inside_unfold nodes numbered i n e
      ∙ ap (λ ys. names_at n ++ ys) (row_spans (node_parts n) (suc i) (preorder.parts i n e) (all_spans i (node_parts n) (numbered i n e) f))
      ∙ ap (λ l. names_in (take (suc sum) l)) (sym (drop_at nodes i n e))
      ∙ ap (λ k. names_in (take k (drop i nodes))) (sym long)

  span : (m i : ℕ) → length nodes ≤ m + i → IsSpan i
  span zero i l = node_span i (slice_get nodes i) refl (λ c h k. absurd (omega (arith, l, h, k)))
  span (suc m) i l = node_span i (slice_get nodes i) refl (λ c h k. span m c (omega (arith, l, h)))

  whole : inside nodes 0 ≡ names_in nodes
  whole =
      span (length nodes) 0 (omega arith)
      ∙ ap (λ n. names_in (take n nodes)) preorder.whole
      ∙ ap names_in (take-length nodes)

  -- ---- Free variables aren't bound inside

  abbrev GoodNode : ℕ → Type 0
  GoodNode c = IsDistinct (inside nodes c) × ((x : ℕ) → has (free nodes c) x ≡ true → has (inside nodes c) x ≡ false)

  -- what is free in a part is free in the whole, or bound in what stands before it
  abbrev Scoped : List ℕ → List ℕ → List ℕ → Type 0
  Scoped fr seen [] = Unit {0}
  Scoped fr seen (c ∷ cs) = ((x : ℕ) → has (free nodes c) x ≡ true → (has fr x ≡ true) ⊎ (has seen x ≡ true)) × Scoped fr (seen ++ inside nodes c) cs

  good_parts : (fr seen cs : List ℕ) → IsDistinct (seen ++ flat_map (inside nodes) cs) → ((x : ℕ) → has fr x ≡ true → has (seen ++ flat_map (inside nodes) cs) x ≡ false) → Scoped fr seen cs → AllByRecursion GoodNode cs
  good_parts fr seen [] d h g = tt
  good_parts fr seen (c ∷ cs) d h g =
      let rest : List ℕ = flat_map (inside nodes) cs in
      let apart = distinct_parts seen (inside nodes c ++ rest) d in
      let same : (seen ++ inside nodes c) ++ rest ≡ seen ++ (inside nodes c ++ rest) = append_assoc seen (inside nodes c) rest in
      ((distinct_left (inside nodes c) rest apart.0, λ x e. ⊎_elim (λ (q : has fr x ≡ true). (neither (has (inside nodes c) x) (has rest x) (sym (has_append (inside nodes c) rest x) ∙ (neither (has seen x) (has (inside nodes c ++ rest) x) (sym (has_append seen (inside nodes c ++ rest) x) ∙ h x q)).1)).0) (λ (q : has seen x ≡ true). (neither (has (inside nodes c) x) (has rest x) (sym (has_append (inside nodes c) rest x) ∙ apart.1 x q)).0) (g.0 x e)), good_parts fr (seen ++ inside nodes c) cs (subst IsDistinct (sym same) d) (λ x e. ap (λ l. has l x) same ∙ h x e) g.1)

  fields_scoped : (fr seen : List ℕ) (fields : List Field) → IsWithin (free_fields (free nodes) fields) fr → Scoped fr seen (map (λ x. x.node) fields)
  fields_scoped fr seen [] h = tt
  fields_scoped fr seen (f ∷ fields) h =
      ((λ x e. inl (h x (within_head (λ y. free nodes y.node) f fields x e))), fields_scoped fr (seen ++ inside nodes f.node) fields (λ x e. h x (within_tail (λ y. free nodes y.node) f fields x e)))

  bound_seen : (seen : List ℕ) (q : ℕ) → IsWithin (binds nodes q) (seen ++ inside nodes q)
  bound_seen seen q x e =
      has_append seen (inside nodes q) x ∙ or_right (has seen x) (has (inside nodes q) x) (binds_in nodes (length nodes) q x e)

  -- of what is free behind a pattern or declaration
  behind : (fr seen : List ℕ) (q e : ℕ) → IsWithin (scoped (binds nodes) (free nodes) q e) fr → (x : ℕ) → has (free nodes e) x ≡ true → (has fr x ≡ true) ⊎ (has (seen ++ inside nodes q) x ≡ true)
  behind fr seen q e h x i =
      in_or_not (binds nodes q) x ((has fr x ≡ true) ⊎ (has (seen ++ inside nodes q) x ≡ true)) (λ j. inr (bound_seen seen q x j)) (λ j. inl (h x (within_right (free nodes q) (without (free nodes e) (binds nodes q)) x (within_rest (free nodes e) (binds nodes q) x i j))))

  rules_scoped : (fr seen : List ℕ) (rules : List Rule) → IsWithin (free_match (binds nodes) (free nodes) rules) fr → Scoped fr seen (flat_map rule_parts rules)
  rules_scoped fr seen [] h = tt
  rules_scoped fr seen (r ∷ rules) h =
      let one : IsWithin (scoped (binds nodes) (free nodes) r.pat r.body) fr = λ x e. h x (within_head (λ y. scoped (binds nodes) (free nodes) y.pat y.body) r rules x e) in
      ((λ x e. inl (one x (within_left (free nodes r.pat) (without (free nodes r.body) (binds nodes r.pat)) x e))), (behind fr seen r.pat r.body one, rules_scoped fr ((seen ++ inside nodes r.pat) ++ inside nodes r.body) rules (λ x e. h x (within_tail (λ y. scoped (binds nodes) (free nodes) y.pat y.body) r rules x e))))

  bindings_scoped : (fr seen : List ℕ) (bs : List Binding) → IsWithin (union_over (λ b. union (free nodes b.pat) (free nodes b.right)) bs) fr → Scoped fr seen (flat_map (λ b. b.pat ∷ b.right ∷ []) bs)
  bindings_scoped fr seen [] h = tt
  bindings_scoped fr seen (b ∷ bs) h =
      let one : IsWithin (union (free nodes b.pat) (free nodes b.right)) fr = λ x e. h x (within_head (λ y. union (free nodes y.pat) (free nodes y.right)) b bs x e) in
      ((λ x e. inl (one x (within_left (free nodes b.pat) (free nodes b.right) x e))), ((λ x e. inl (one x (within_right (free nodes b.pat) (free nodes b.right) x e))), bindings_scoped fr ((seen ++ inside nodes b.pat) ++ inside nodes b.right) bs (λ x e. h x (within_tail (λ y. union (free nodes y.pat) (free nodes y.right)) b bs x e))))

  group_scoped : (fr own seen : List ℕ) (bs : List RecBinding) → IsWithin own seen → IsWithin (without (union_over (λ b. free nodes b.right) bs) own) fr → Scoped fr seen (map (λ b. b.right) bs)
  group_scoped fr own seen [] o h = tt
  group_scoped fr own seen (b ∷ bs) o h =
      ((λ x e. in_or_not own x ((has fr x ≡ true) ⊎ (has seen x ≡ true)) (λ j. inr (o x j)) (λ j. inl (h x (within_rest (union_over (λ b. free nodes b.right) (b ∷ bs)) own x (within_head (λ y. free nodes y.right) b bs x e) j)))), group_scoped fr own (seen ++ inside nodes b.right) bs (λ x e. has_append seen (inside nodes b.right) x ∙ or_left (has seen x) _ (o x e)) (λ x e. in_or_not own x (has fr x ≡ true) (λ j. absurd (let k = (without_both x e).1 in cc)) (λ j. h x (within_rest (union_over (λ b. free nodes b.right) (b ∷ bs)) own x (within_tail (λ y. free nodes y.right) b bs x (without_both x e).0) j))))
    where
      without_both : (x : ℕ) → has (without (union_over (λ b. free nodes b.right) bs) own) x ≡ true → (has (union_over (λ b. free nodes b.right) bs) x ≡ true) × (has own x ≡ false)
      without_both x e = without_parts (union_over (λ b. free nodes b.right) bs) own x e

  node_scoped : (n : Node) → Scoped (free_of (binds nodes) (free nodes) n) (names_at n) (node_parts n)
  node_scoped (node.Record fields) = fields_scoped _ [] fields (λ x e. e)
  node_scoped (node.App g a) = ((λ x e. inl (within_left (free nodes g) (free nodes a) x e)), ((λ x e. inl (within_right (free nodes g) (free nodes a) x e)), tt))
  node_scoped (node.Case b rules) =
      ((λ x e. inl (within_left (free nodes b) (free_match (binds nodes) (free nodes) rules) x e)), rules_scoped _ ([] ++ inside nodes b) rules (within_right (free nodes b) (free_match (binds nodes) (free nodes) rules)))
  node_scoped (node.Fn rules) = rules_scoped _ [] rules (λ x e. e)
  node_scoped (node.Raise b) = ((λ x e. inl e), tt)
  node_scoped (node.Handle b rules) =
      ((λ x e. inl (within_left (free nodes b) (free_match (binds nodes) (free nodes) rules) x e)), rules_scoped _ ([] ++ inside nodes b) rules (within_right (free nodes b) (free_match (binds nodes) (free nodes) rules)))
  node_scoped (node.Typed b ty) = ((λ x e. inl e), tt)
  node_scoped (node.Let d b) =
      ((λ x e. inl (within_left (free nodes d) (without (free nodes b) (binds nodes d)) x e)), (behind _ [] d b (λ x e. e), tt))
  node_scoped (node.PatApp c q) = ((λ x e. inl (within_right (exception_of c) (free nodes q) x e)), tt)
  node_scoped (node.PatRecord fields) = fields_scoped _ [] fields (λ x e. e)
  node_scoped (node.PatTyped q ty) = ((λ x e. inl e), tt)
  node_scoped (node.PatAs y q) = ((λ x e. inl e), tt)
  node_scoped (node.PatAsCon y q) = ((λ x e. inl e), tt)
  node_scoped (node.Val tyvars bs) = bindings_scoped _ [] bs (λ x e. e)
  node_scoped (node.ValRec tyvars bs) =
      group_scoped _ (names_of bs) (map (λ b. b.name.0) bs) bs (group_in (binds nodes) (inside nodes) (binds_in nodes (length nodes)) bs) (λ x e. e)
  node_scoped _ = tt

  parts_good : (i : ℕ) (n : Node) → slice_get nodes i ≡ Some n → GoodNode i → AllByRecursion GoodNode (node_parts n)
  parts_good i n e g =
      let within_is = inside_unfold nodes numbered i n e in
      good_parts (free_of (binds nodes) (free nodes) n) (names_at n) (node_parts n) (subst IsDistinct within_is g.0) (λ x h. sym (ap (λ l. has l x) within_is) ∙ g.1 x (ap (λ l. has l x) (free_unfold nodes numbered i n e) ∙ h)) (node_scoped n)

  -- the part in whose span a node lies
  find_part : (cs : List ℕ) (j i : ℕ) → InRow (size nodes) j cs → AllByRecursion GoodNode cs → j ≤ i → i < j + sum_of (size nodes) cs → (c : ℕ) × GoodNode c × (j ≤ c) × (c ≤ i) × (i < c + size nodes c)
  find_part [] j i r h l k = absurd (omega (arith, l, k))
  find_part (c ∷ cs) j i r h l k =
      ⊎_elim (λ (q : i < c + size nodes c). (c, h.0, (let e = r.0 in omega (arith, e)), (let e = r.0 in omega (arith, e, l)), q)) (λ (q : c + size nodes c ≤ i). let g = find_part cs (j + size nodes c) i r.1 h.1 (let e = r.0 in omega (arith, e, q)) (omega (arith, k)) in (g.0, g.1, omega (arith, g.2), g.3, g.4)) (cases_lt i (c + size nodes c))

  reach : (m j i : ℕ) → length nodes ≤ m + j → GoodNode j → j ≤ i → i < j + size nodes j → i < length nodes → GoodNode i
  reach zero j i f g l k n = absurd (omega (arith, f, l, n))
  reach (suc m) j i f g l k n =
      ⊎_elim (λ (q : j < i). go q (slice_get nodes j) refl (λ c a b d e. reach m c i b a d e n)) (λ (q : i ≤ j). let same : j ≡ i = omega (arith, l, q) in subst GoodNode same g) (cases_lt j i)
    where
      go : j < i → (o : Option Node) → slice_get nodes j ≡ o → ((c : ℕ) → GoodNode c → length nodes ≤ m + c → c ≤ i → i < c + size nodes c → GoodNode i) → GoodNode i
      go q None e rec =
          let long : size nodes j ≡ 0 = size_unfold nodes numbered preorder j ∙ ap (at_node 0 size_of (size nodes) j) e in
          absurd (omega (arith, long, k, q))
      go q (Some node) e rec =
          let long : size nodes j ≡ suc (sum_of (size nodes) (node_parts node)) = size_unfold nodes numbered preorder j ∙ ap (at_node 0 size_of (size nodes) j) e in
          let c = find_part (node_parts node) (suc j) i (preorder.parts j node e) (parts_good j node e g) (omega (arith, q)) (omega (arith, long, k)) in
          rec c.0 c.1 (omega (arith, f, c.2)) c.3 c.4

-- ---- Value declarations

module _ (p : Bare) (bare : IsBare p) where
  good_all : (i : ℕ) → i < length p.nodes → GoodNode p.nodes bare.numbered bare.preorder i
  good_all i l =
      reach p.nodes bare.numbered bare.preorder (length p.nodes) 0 i (omega arith) (subst IsDistinct (sym (whole p.nodes bare.numbered bare.preorder)) bare.once, λ x e. absurd (let q = bare.bound in let h : has (free p.nodes 0) x ≡ has [] x = ap (λ l. has l x) q in cc)) (omega arith) (let q = bare.preorder.whole in omega (arith, q, l)) l

  -- a variable that one of these patterns binds isn't free in the declaration
  uses_none : (i : ℕ) (bs : List Binding) (b : ℕ) → ((x : ℕ) → has (union_over (λ c. union (free p.nodes c.pat) (free p.nodes c.right)) bs) x ≡ true → has (binds p.nodes b) x ≡ true → ⊥) → AllByRecursion (UsesNone p b) bs
  uses_none i [] b h = tt
  uses_none i (c ∷ bs) b h =
      ((λ x e. (not_true (has (free p.nodes c.pat) x) (λ q. h x (within_head (λ c. union (free p.nodes c.pat) (free p.nodes c.right)) c bs x (within_left (free p.nodes c.pat) (free p.nodes c.right) x q)) e), not_true (has (free p.nodes c.right) x) (λ q. h x (within_head (λ c. union (free p.nodes c.pat) (free p.nodes c.right)) c bs x (within_right (free p.nodes c.pat) (free p.nodes c.right) x q)) e))), uses_none i bs b (λ x q. h x (within_tail (λ c. union (free p.nodes c.pat) (free p.nodes c.right)) c bs x q)))
    where
      not_true : (q : Bool) → (q ≡ true → ⊥) → q ≡ false
      not_true true f = absurd (f refl)
      not_true false f = refl

  all_apart : (i : ℕ) (bs : List Binding) → ((b : Binding) → (x : ℕ) → has (union_over (λ c. union (free p.nodes c.pat) (free p.nodes c.right)) bs) x ≡ true → has (union_over (λ c. binds p.nodes c.pat) bs) x ≡ true → ⊥) → Apart p bs
  all_apart i [] h = tt
  all_apart i (b ∷ bs) h =
      (uses_none i bs b.pat (λ x q e. h b x (within_tail (λ c. union (free p.nodes c.pat) (free p.nodes c.right)) b bs x q) (within_head (λ c. binds p.nodes c.pat) b bs x e)), all_apart i bs (λ d x q e. h d x (within_tail (λ c. union (free p.nodes c.pat) (free p.nodes c.right)) b bs x q) (within_tail (λ c. binds p.nodes c.pat) b bs x e)))

  pub is_apart : IsApart p
  is_apart i tyvars bs e =
      let good = good_all i (slice_get_within p.nodes i (node.Val tyvars bs) e) in
      all_apart i bs (λ b x q h.
      let is_free : has (free p.nodes i) x ≡ true = ap (λ l. has l x) (free_unfold p.nodes bare.numbered i (node.Val tyvars bs) e) ∙ q in
      let is_bound : has (inside p.nodes i) x ≡ true = ap (λ l. has l x) (inside_unfold p.nodes bare.numbered i (node.Val tyvars bs) e) ∙ bindings_in (binds p.nodes) (inside p.nodes) (binds_in p.nodes (length p.nodes)) bs x h in
      let out = good.1 x is_free in
      cc)
