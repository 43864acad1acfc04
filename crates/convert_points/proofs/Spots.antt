-- The points of a node are its own and those of its parts, whatever frame is around it.
use Rattle.std.proofs.Common.{◌≡◌, ℕ, zero, suc, ◌+◌, ◌<◌, ◌≤◌, Bool, true, false, cond, List, [], ◌∷◌, ◌++◌, Option, Some, None, length, refl, ap, ◌∙◌, arith, ◌⊎◌, inl, inr, get_or}
use Rattle.std.proofs.lemmas.Option.{slice_get_cases}
use Rattle.std.specs.Prelude.{slice_get, flat_map}
use Rattle.std.specs.List.{AllByRecursion}
use Rattle.smlc_base.specs.declared.point.Point.{Point}
use Rattle.smlc_base.specs.declared.point.PointKind.TheVariants as kind
use Rattle.sml_tree.specs.declared.bare.Node.{Node}
use Rattle.sml_tree.specs.declared.bare.Node.TheVariants as node
use Rattle.sml_tree.specs.declared.bare.Field.{Field}
use Rattle.sml_tree.specs.declared.bare.Rule.{Rule}
use Rattle.sml_tree.specs.declared.bare.Binding.{Binding}
use Rattle.sml_tree.specs.declared.bare.RecBinding.{RecBinding}
use Rattle.sml_tree.specs.declared.points.Spot.{Spot}
use Rattle.sml_tree.specs.declared.points.Context.{Context}
use Rattle.sml_tree.specs.declared.points.Context.TheVariants.{Awaited, Plain, Before}
use Rattle.sml_tree.specs.declared.points.Part.{Part}
use Rattle.sml_tree.specs.BareParts.{node_parts, IsNumbered, at_node}
use Rattle.sml_tree.specs.Free.{binds, free, free_match}
use Rattle.sml_tree.specs.Points.{point, spot, inside, awaited_spots, own_spots, field_parts, right_parts, rule_parts, function_parts, parts_in, spots_of, spots_at}
use Rattle.sml_tree.proofs.Walk.{each_part, total, spots_unfold}
use Rattle.convert_laws.proofs.Unfold.{all_map}
use Rattle.convert_points.specs.Made.{one, awaited}

module _ (p : Point) where
  -- how many spots have the point
  abbrev pub tally : List Spot → ℕ
  tally [] = 0
  tally (s ∷ ss) = one p s.point + tally ss

  tally_append : (xs ys : List Spot) → tally (xs ++ ys) ≡ tally xs + tally ys
  tally_append [] ys = omega arith
  tally_append (x ∷ xs) ys = let rest = tally_append xs ys in omega (arith, rest)

  tally_parts : (f : ℕ → Context → List Spot) (qs : List Part) → tally (flat_map (λ q. f q.node q.context) qs) ≡ total (λ i c. tally (f i c)) qs
  tally_parts f [] = refl
  tally_parts f (q ∷ qs) =
      let both = tally_append (f q.node q.context) (flat_map (λ q. f q.node q.context) qs) in
      let rest = tally_parts f qs in
      omega (arith, both, rest)

  -- ---- The parts of a node

  -- what a term makes of the point by itself, and what a declaration does
  module _ (paid declares : ℕ → ℕ) where
    abbrev expected : ℕ → Context → ℕ
    expected i (Awaited held outer) = awaited p paid i
    expected i (Plain outer) = paid i
    expected i (Before body outer) = declares i

    abbrev pub of_fields : List Field → ℕ
    of_fields [] = 0
    of_fields (f ∷ fields) = awaited p paid f.node + of_fields fields

    abbrev pub of_rules : List Rule → ℕ
    of_rules [] = 0
    of_rules (r ∷ rules) = paid r.body + of_rules rules

    abbrev pub of_rights : List Binding → ℕ
    of_rights [] = 0
    of_rights (b ∷ bindings) = awaited p paid b.right + of_rights bindings

    abbrev pub of_functions : List RecBinding → ℕ
    of_functions [] = 0
    of_functions (b ∷ bindings) = paid b.right + of_functions bindings

    -- of the parts of a node, which stands as a declaration or not
    abbrev pub of_node : Bool → Node → ℕ
    of_node declaration (node.Record fields) = of_fields fields
    of_node declaration (node.App f a) = awaited p paid f + awaited p paid a
    of_node declaration (node.Case e rules) = awaited p paid e + of_rules rules
    of_node declaration (node.Fn rules) = of_rules rules
    of_node declaration (node.Raise e) = awaited p paid e
    of_node declaration (node.Handle e rules) = paid e + of_rules rules
    of_node declaration (node.Typed e ty) = paid e
    of_node declaration (node.Let d e) = declares d + paid e
    of_node declaration (node.Val tyvars bindings) = cond declaration (of_rights bindings) 0
    of_node declaration (node.ValRec tyvars bindings) = of_functions bindings
    of_node declaration _ = 0

    fields_total : (f : ℕ → List ℕ) (n : ℕ) (fields : List Field) (outer : Option Point) → total expected (field_parts f n fields outer) ≡ of_fields fields
    fields_total f n [] outer = refl
    fields_total f n (x ∷ fields) outer = ap (λ m. awaited p paid x.node + m) (fields_total f (suc n) fields outer)

    rules_total : (rules : List Rule) (outer : Option Point) → total expected (rule_parts rules outer) ≡ of_rules rules
    rules_total [] outer = refl
    rules_total (r ∷ rules) outer = ap (λ m. paid r.body + m) (rules_total rules outer)

    rights_total : (b f : ℕ → List ℕ) (bindings : List Binding) (body : ℕ) (outer : Option Point) → total expected (right_parts b f bindings body outer) ≡ of_rights bindings
    rights_total b f [] body outer = refl
    rights_total b f (x ∷ bindings) body outer = ap (λ m. awaited p paid x.right + m) (rights_total b f bindings body outer)

    functions_total : (bindings : List RecBinding) → total expected (function_parts bindings) ≡ of_functions bindings
    functions_total [] = refl
    functions_total (x ∷ bindings) = ap (λ m. paid x.right + m) (functions_total bindings)

    abbrev pub declaring : Context → Bool
    declaring (Before body outer) = true
    declaring _ = false

    parts_total : (b f : ℕ → List ℕ) (i : ℕ) (n : Node) (c : Context) → total expected (parts_in b f i n c) ≡ of_node (declaring c) n
    parts_total b f i (node.Record fields) c = fields_total f 0 fields (inside i c)
    parts_total b f i (node.App e a) c = omega arith
    parts_total b f i (node.Case e rules) c = ap (λ m. awaited p paid e + m) (rules_total rules (inside i c))
    parts_total b f i (node.Fn rules) c = rules_total rules None
    parts_total b f i (node.Raise e) c = omega arith
    parts_total b f i (node.Handle e rules) c = ap (λ m. paid e + m) (rules_total rules (inside i c))
    parts_total b f i (node.Typed e ty) c = omega arith
    parts_total b f i (node.Let d e) c = omega arith
    parts_total b f i (node.Val tyvars bindings) (Before body outer) = rights_total b f bindings body outer
    parts_total b f i (node.Val tyvars bindings) (Awaited held outer) = refl
    parts_total b f i (node.Val tyvars bindings) (Plain outer) = refl
    parts_total b f i (node.ValRec tyvars bindings) c = functions_total bindings
    parts_total b f i _ c = refl

  -- ---- The points of a node itself

  abbrev of_context : ℕ → Context → ℕ
  of_context i (Awaited held outer) = one p (point i kind.Ret)
  of_context i _ = 0

  abbrev pub of_own : ℕ → Node → ℕ
  of_own i (node.Fn rules) = one p (point i kind.Fn)
  of_own i (node.Handle e rules) = one p (point i kind.Caught) + one p (point i kind.Popped)
  of_own i _ = 0

  awaited_tally : (i : ℕ) (c : Context) → tally (awaited_spots i c) ≡ of_context i c
  awaited_tally i (Awaited held outer) = omega arith
  awaited_tally i (Plain outer) = refl
  awaited_tally i (Before body outer) = refl

  alone : (i : ℕ) (c : Context) → tally (awaited_spots i c) ≡ of_context i c + 0
  alone i c = let own = awaited_tally i c in omega (arith, own)

  own_tally : (b f : ℕ → List ℕ) (i : ℕ) (n : Node) (c : Context) → tally (own_spots b f i n c) ≡ of_context i c + of_own i n
  own_tally b f i (node.Fn rules) c = let own = awaited_tally i c in omega (arith, own)
  own_tally b f i (node.Handle e rules) c =
      let own = awaited_tally i c in
      let both = tally_append (awaited_spots i c) (spot i kind.Caught (length (free_match b f rules)) (inside i c) ∷ spot i kind.Popped (length (free_match b f rules)) (inside i c) ∷ []) in
      omega (arith, own, both)
  own_tally b f i _ c = alone i c

  -- ---- Every node

  module _ (nodes : List Node) (numbered : IsNumbered nodes) where
    abbrev at : ℕ → Context → ℕ
    at i c = tally (spots_at nodes i c)

    abbrev pub paid_at : ℕ → ℕ
    paid_at i = at i (Plain None)

    abbrev pub declared_at : ℕ → ℕ
    declared_at i = at i (Before 0 None)

    abbrev Settled : ℕ → Type 0
    Settled i = (c : Context) → at i c ≡ expected paid_at declared_at i c

    settled_total : (qs : List Part) → AllByRecursion (λ q. Settled q.node) qs → total at qs ≡ total (expected paid_at declared_at) qs
    settled_total [] h = refl
    settled_total (q ∷ qs) h = let here = h.0 q.context in let rest = settled_total qs h.1 in omega (arith, here, rest)

    unfolded : (i : ℕ) (n : Node) (c : Context) → slice_get nodes i ≡ Some n → AllByRecursion Settled (node_parts n) → at i c ≡ of_context i c + (of_own i n + of_node paid_at declared_at (declaring paid_at declared_at c) n)
    unfolded i n c is h =
        let parts = parts_in (binds nodes) (free nodes) i n c in
        let here : at i c ≡ tally (own_spots (binds nodes) (free nodes) i n c ++ flat_map (λ q. spots_at nodes q.node q.context) parts) = ap tally (spots_unfold nodes numbered i c ∙ ap (λ o. at_node (λ c. []) (spots_of (binds nodes) (free nodes)) (spots_at nodes) i o c) is) in
        let both = tally_append (own_spots (binds nodes) (free nodes) i n c) (flat_map (λ q. spots_at nodes q.node q.context) parts) in
        let own = own_tally (binds nodes) (free nodes) i n c in
        let inner : tally (flat_map (λ q. spots_at nodes q.node q.context) parts) ≡ total at parts = tally_parts (spots_at nodes) parts in
        let settled = settled_total parts (each_part Settled (binds nodes) (free nodes) i n c h) in
        let last = parts_total paid_at declared_at (binds nodes) (free nodes) i n c in
        omega (arith, here, both, own, inner, settled, last)

    node_settled : (i : ℕ) (n : Node) → slice_get nodes i ≡ Some n → AllByRecursion Settled (node_parts n) → Settled i
    node_settled i n is h (Awaited held outer) =
        let here = unfolded i n (Awaited held outer) is h in let plain = unfolded i n (Plain None) is h in omega (arith, here, plain)
    node_settled i n is h (Plain outer) =
        let here = unfolded i n (Plain outer) is h in let plain = unfolded i n (Plain None) is h in omega (arith, here, plain)
    node_settled i n is h (Before body outer) =
        let here = unfolded i n (Before body outer) is h in let plain = unfolded i n (Before 0 None) is h in omega (arith, here, plain)

    all_settled : (m i : ℕ) → length nodes ≤ m + i → i < length nodes → Settled i
    all_settled zero i le lt = absurd (omega (arith, le, lt))
    all_settled (suc m) i le lt = go (slice_get_cases nodes i).1 (λ k up few. all_settled m k (omega (arith, le, up)) few)
      where
        go : ((x : Node) × (i < length nodes) × (slice_get nodes i ≡ Some x) × (get_or nodes i x ≡ x)) ⊎ ((length nodes ≤ i) × (slice_get nodes i ≡ None)) → ((k : ℕ) → i < k → k < length nodes → Settled k) → Settled i
        go (inl (n, few, is, got)) later = node_settled i n is (all_map (λ k h. later k h.0 h.1) (node_parts n) (numbered i n is))
        go (inr (past, none)) later = absurd (omega (arith, past, lt))

    -- what is at a node, as a declaration or not
    pub at_here : (i : ℕ) (n : Node) → slice_get nodes i ≡ Some n → paid_at i ≡ of_own i n + of_node paid_at declared_at false n
    at_here i n is =
        let here = unfolded i n (Plain None) is (all_map (λ k h. all_settled (length nodes) k (omega arith) h.1) (node_parts n) (numbered i n is)) in
        omega (arith, here)

    pub declared_here : (i : ℕ) (n : Node) → slice_get nodes i ≡ Some n → declared_at i ≡ of_own i n + of_node paid_at declared_at true n
    declared_here i n is =
        let here = unfolded i n (Before 0 None) is (all_map (λ k h. all_settled (length nodes) k (omega arith) h.1) (node_parts n) (numbered i n is)) in
        omega (arith, here)
