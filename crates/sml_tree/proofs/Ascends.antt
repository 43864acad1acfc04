-- The points of a tree in preorder stand in ascending order.
use Rattle.std.proofs.Common.{◌≡◌, ℕ, zero, suc, ◌+◌, ◌*◌, ◌<◌, ◌≤◌, List, [], ◌∷◌, ◌++◌, Option, Some, None, length, map, ◌⊎◌, inl, inr, refl, sym, ap, ◌∙◌, subst, arith}
use Rattle.std.specs.Prelude.{slice_get, flat_map}
use Rattle.std.specs.List.{AllByRecursion}
use Rattle.smlc_base.specs.declared.point.Point.{Point}
use Rattle.sml_tree.specs.declared.bare.Node.{Node}
use Rattle.sml_tree.specs.declared.bare.Node.TheVariants as node
use Rattle.sml_tree.specs.declared.bare.Field.{Field}
use Rattle.sml_tree.specs.declared.bare.Rule.{Rule}
use Rattle.sml_tree.specs.declared.bare.Binding.{Binding}
use Rattle.sml_tree.specs.declared.bare.RecBinding.{RecBinding}
use Rattle.sml_tree.specs.declared.points.Spot.{Spot}
use Rattle.sml_tree.specs.declared.points.Context.{Context}
use Rattle.sml_tree.specs.declared.points.Context.TheVariants.{Awaited, Plain, Before}
use Rattle.sml_tree.specs.declared.points.Part.{Part}
use Rattle.sml_tree.specs.BareParts.{node_parts, IsNumbered, at_node}
use Rattle.sml_tree.specs.Free.{binds, free}
use Rattle.sml_tree.specs.Points.{inside, awaited_spots, own_spots, field_parts, right_parts, rule_parts, function_parts, parts_in, spots_of, spots_at, spots}
use Rattle.sml_tree.specs.IsBare.{size, size_of, sum_of, InRow, IsPreorder}
use Rattle.sml_tree.specs.Order.{rank, AscendFrom}
use Rattle.std.proofs.lemmas.Option.{slice_get_past}
use Rattle.sml_tree.proofs.Unfold.{by_parts, all_map}
use Rattle.sml_tree.proofs.Walk.{spots_unfold}

-- ascending numbers from lo on, and below hi
abbrev pub IsBetween : ℕ → ℕ → List Spot → Type 0
IsBetween lo hi [] = lo ≤ hi
IsBetween lo hi (s ∷ ss) = (lo ≤ rank s.point) × IsBetween (suc (rank s.point)) hi ss

between_le : (lo hi : ℕ) (ss : List Spot) → IsBetween lo hi ss → lo ≤ hi
between_le lo hi [] h = h
between_le lo hi (s ∷ ss) h = omega (arith, h.0, between_le (suc (rank s.point)) hi ss h.1)

between_down : (lo up hi : ℕ) (ss : List Spot) → lo ≤ up → IsBetween up hi ss → IsBetween lo hi ss
between_down lo up hi [] le h = omega arith
between_down lo up hi (s ∷ ss) le h = (omega (arith, h.0), h.1)

between_append : (lo mid hi : ℕ) (xs ys : List Spot) → IsBetween lo mid xs → IsBetween mid hi ys → IsBetween lo hi (xs ++ ys)
between_append lo mid hi [] ys h g = between_down lo mid hi ys h g
between_append lo mid hi (x ∷ xs) ys h g = (h.0, between_append (suc (rank x.point)) mid hi xs ys h.1 g)

-- the parts of the table are among the parts of the node, in their order
abbrev AreAmong : List Part → List ℕ → Type 0
AreAmong [] cs = Unit {0}
AreAmong (q ∷ qs) [] = ⊥
AreAmong (q ∷ qs) (c ∷ cs) = ((q.node ≡ c) × AreAmong qs cs) ⊎ AreAmong (q ∷ qs) cs

among_fields : (f : ℕ → List ℕ) (n : ℕ) (fields : List Field) (outer : Option Point) → AreAmong (field_parts f n fields outer) (map (λ x. x.node) fields)
among_fields f n [] outer = tt
among_fields f n (x ∷ fields) outer = inl (refl, among_fields f (suc n) fields outer)

among_rights : (b f : ℕ → List ℕ) (bindings : List Binding) (body : ℕ) (outer : Option Point) → AreAmong (right_parts b f bindings body outer) (flat_map (λ x. x.pat ∷ x.right ∷ []) bindings)
among_rights b f [] body outer = tt
among_rights b f (x ∷ bindings) body outer = inr (inl (refl, among_rights b f bindings body outer))

among_rules : (rules : List Rule) (outer : Option Point) → AreAmong (rule_parts rules outer) (flat_map (λ r. r.pat ∷ r.body ∷ []) rules)
among_rules [] outer = tt
among_rules (r ∷ rules) outer = inr (inl (refl, among_rules rules outer))

among_functions : (bindings : List RecBinding) → AreAmong (function_parts bindings) (map (λ x. x.right) bindings)
among_functions [] = tt
among_functions (x ∷ bindings) = inl (refl, among_functions bindings)

among_parts : (b f : ℕ → List ℕ) (i : ℕ) (n : Node) (c : Context) → AreAmong (parts_in b f i n c) (node_parts n)
among_parts b f i (node.Record fields) c = among_fields f 0 fields (inside i c)
among_parts b f i (node.App e a) c = inl (refl, inl (refl, tt))
among_parts b f i (node.Case e rules) c = inl (refl, among_rules rules (inside i c))
among_parts b f i (node.Fn rules) c = among_rules rules None
among_parts b f i (node.Raise e) c = inl (refl, tt)
among_parts b f i (node.Handle e rules) c = inl (refl, among_rules rules (inside i c))
among_parts b f i (node.Typed e ty) c = inl (refl, tt)
among_parts b f i (node.Let d e) c = inl (refl, inl (refl, tt))
among_parts b f i (node.Val tyvars bindings) (Before body outer) = among_rights b f bindings body outer
among_parts b f i (node.ValRec tyvars bindings) c = among_functions bindings
among_parts b f i _ c = tt

-- the points of a node itself
awaited_between : (i : ℕ) (c : Context) → IsBetween (i * 5 + 1) (i * 5 + 2) (awaited_spots i c)
awaited_between i (Awaited held outer) = (omega arith, omega arith)
awaited_between i (Plain outer) = omega arith
awaited_between i (Before body outer) = omega arith

awaited_up : (i : ℕ) (c : Context) → IsBetween (i * 5 + 1) (suc i * 5) (awaited_spots i c)
awaited_up i (Awaited held outer) = (omega arith, omega arith)
awaited_up i (Plain outer) = omega arith
awaited_up i (Before body outer) = omega arith

own_between : (b f : ℕ → List ℕ) (i : ℕ) (n : Node) (c : Context) → IsBetween (i * 5) (suc i * 5) (own_spots b f i n c)
own_between b f i (node.Fn rules) c =
    (omega arith, between_down (suc (i * 5 + 0)) (i * 5 + 1) (suc i * 5) (awaited_spots i c) (omega arith) (awaited_up i c))
own_between b f i (node.Handle e rules) c =
    between_append (i * 5) (i * 5 + 2) (suc i * 5) (awaited_spots i c) _ (between_down (i * 5) (i * 5 + 1) (i * 5 + 2) (awaited_spots i c) (omega arith) (awaited_between i c)) (omega arith, (omega arith, omega arith))
own_between b f i _ c = between_down (i * 5) (i * 5 + 1) (suc i * 5) (awaited_spots i c) (omega arith) (awaited_up i c)

sum_same : (f g : ℕ → ℕ) (cs : List ℕ) → AllByRecursion (λ c. f c ≡ g c) cs → sum_of f cs ≡ sum_of g cs
sum_same f g [] h = refl
sum_same f g (c ∷ cs) h = ap (λ m. m + sum_of f cs) h.0 ∙ ap (λ m. g c + m) (sum_same f g cs h.1)

module _ (nodes : List Node) (numbered : IsNumbered nodes) (preorder : IsPreorder nodes) where
  pub size_unfold : (i : ℕ) → size nodes i ≡ at_node 0 size_of (size nodes) i (slice_get nodes i)
  size_unfold i = by_parts 0 size_of (λ x y. x ≡ y) refl (λ f g i n h. ap suc (sum_same f g (node_parts n) h)) nodes numbered i

  abbrev Spans : ℕ → Context → Type 0
  Spans i c = IsBetween (i * 5) ((i + size nodes i) * 5) (spots_at nodes i c)

  parts_between : (qs : List Part) (cs : List ℕ) (j : ℕ) → AreAmong qs cs → InRow (size nodes) j cs → AllByRecursion (λ k. (c : Context) → Spans k c) cs → IsBetween (j * 5) ((j + sum_of (size nodes) cs) * 5) (flat_map (λ q. spots_at nodes q.node q.context) qs)
  parts_between [] cs j h r g = omega arith
  parts_between (q ∷ qs) [] j h r g = absurd h
  parts_between (q ∷ qs) (k ∷ cs) j (inl h) r g =
      let here : q.node ≡ j = h.0 ∙ r.0 in
      let spans : IsBetween (j * 5) ((j + size nodes k) * 5) (spots_at nodes q.node q.context) = subst (λ m. IsBetween (j * 5) ((j + size nodes k) * 5) (spots_at nodes m q.context)) (sym h.0) (subst (λ m. IsBetween (m * 5) ((m + size nodes k) * 5) (spots_at nodes k q.context)) r.0 (g.0 q.context)) in
      let all : ((j + size nodes k) + sum_of (size nodes) cs) * 5 ≡ (j + (size nodes k + sum_of (size nodes) cs)) * 5 = omega arith in
      between_append (j * 5) ((j + size nodes k) * 5) ((j + (size nodes k + sum_of (size nodes) cs)) * 5) (spots_at nodes q.node q.context) (flat_map (λ q. spots_at nodes q.node q.context) qs) spans (subst (λ m. IsBetween ((j + size nodes k) * 5) m (flat_map (λ q. spots_at nodes q.node q.context) qs)) all (parts_between qs cs (j + size nodes k) h.1 r.1 g.1))
  parts_between (q ∷ qs) (k ∷ cs) j (inr h) r g =
      let all : ((j + size nodes k) + sum_of (size nodes) cs) * 5 ≡ (j + (size nodes k + sum_of (size nodes) cs)) * 5 = omega arith in
      between_down (j * 5) ((j + size nodes k) * 5) ((j + (size nodes k + sum_of (size nodes) cs)) * 5) _ (omega arith) (subst (λ m. IsBetween ((j + size nodes k) * 5) m (flat_map (λ q. spots_at nodes q.node q.context) (q ∷ qs))) all (parts_between (q ∷ qs) cs (j + size nodes k) h r.1 g.1))

  node_spans : (i : ℕ) (n : Node) (c : Context) → slice_get nodes i ≡ Some n → AllByRecursion (λ k. (c : Context) → Spans k c) (node_parts n) → Spans i c
  node_spans i n c e g =
      let parts = parts_in (binds nodes) (free nodes) i n c in
      let long : size nodes i ≡ suc (sum_of (size nodes) (node_parts n)) = size_unfold i ∙ ap (at_node 0 size_of (size nodes) i) e in
      let all : (suc i + sum_of (size nodes) (node_parts n)) * 5 ≡ (i + size nodes i) * 5 = omega (arith, long) in
      subst (IsBetween (i * 5) ((i + size nodes i) * 5)) (sym (spots_unfold nodes numbered i c ∙ ap (λ o. at_node (λ c. []) (spots_of (binds nodes) (free nodes)) (spots_at nodes) i o c) e))
      (between_append (i * 5) (suc i * 5) ((i + size nodes i) * 5) (own_spots (binds nodes) (free nodes) i n c) (flat_map (λ q. spots_at nodes q.node q.context) parts) (own_between (binds nodes) (free nodes) i n c)
      (subst (λ m. IsBetween (suc i * 5) m (flat_map (λ q. spots_at nodes q.node q.context) parts)) all (parts_between parts (node_parts n) (suc i) (among_parts (binds nodes) (free nodes) i n c) (preorder.parts i n e) g)))

  none_spans : (i : ℕ) (c : Context) → slice_get nodes i ≡ None → Spans i c
  none_spans i c e =
      subst (IsBetween (i * 5) ((i + size nodes i) * 5)) (sym (spots_unfold nodes numbered i c ∙ ap (λ o. at_node (λ c. []) (spots_of (binds nodes) (free nodes)) (spots_at nodes) i o c) e)) (omega arith)

  spans : (m i : ℕ) → length nodes ≤ m + i → (c : Context) → Spans i c
  spans zero i le c = none_spans i c (slice_get_past nodes i (omega arith))
  spans (suc m) i le c = go (slice_get nodes i) refl (λ k lt. spans m k (omega arith))
    where
      go : (o : Option Node) → slice_get nodes i ≡ o → ((k : ℕ) → i < k → (c : Context) → Spans k c) → Spans i c
      go None e later = none_spans i c e
      go (Some n) e later = node_spans i n c e (all_map (λ k h. later k h.0) (node_parts n) (numbered i n e))

  pub spots_between : IsBetween 0 (length nodes * 5) (spots nodes)
  spots_between =
      let all : (0 + size nodes 0) * 5 ≡ length nodes * 5 = omega (arith, preorder.whole) in
      subst (λ m. IsBetween 0 m (spots nodes)) all (spans (length nodes) 0 (omega arith) (Plain None))

-- with a point behind them
pub ascend_before : (lo hi : ℕ) (ss : List Spot) (q : Point) → IsBetween lo hi ss → hi ≤ rank q → AscendFrom lo (map (λ s. s.point) ss ++ q ∷ [])
ascend_before lo hi [] q h le = (omega arith, tt)
ascend_before lo hi (s ∷ ss) q h le = (h.0, ascend_before (suc (rank s.point)) hi ss q h.1 le)
