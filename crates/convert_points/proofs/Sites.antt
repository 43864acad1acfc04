-- What encloses a spot is an earlier one that stands, and none is that of comparisons.
use Rattle.std.proofs.Common.{◌≡◌, ℕ, zero, suc, ◌+◌, ◌*◌, ◌<◌, ◌≤◌, List, [], ◌∷◌, Option, Some, None, length, refl, sym, ap, ◌∙◌, subst, arith}
use Rattle.std.proofs.lemmas.Option.{slice_get_past}
use Rattle.std.specs.Prelude.{slice_get, flat_map}
use Rattle.std.specs.List.{AllByRecursion}
use Rattle.smlc_base.specs.declared.point.Point.{Point}
use Rattle.smlc_base.specs.declared.point.PointKind.TheVariants as kind
use Rattle.sml_tree.specs.declared.bare.Node.{Node}
use Rattle.sml_tree.specs.declared.bare.Node.TheVariants as node
use Rattle.sml_tree.specs.declared.bare.Field.{Field}
use Rattle.sml_tree.specs.declared.bare.Rule.{Rule}
use Rattle.sml_tree.specs.declared.bare.Binding.{Binding}
use Rattle.sml_tree.specs.declared.bare.RecBinding.{RecBinding}
use Rattle.sml_tree.specs.declared.points.Spot.{Spot}
use Rattle.sml_tree.specs.declared.points.Context.{Context}
use Rattle.sml_tree.specs.declared.points.Context.TheVariants.{Awaited, Plain, Before}
use Rattle.sml_tree.specs.declared.points.Part.{Part}
use Rattle.sml_tree.specs.BareParts.{node_parts, IsNumbered, at_node}
use Rattle.sml_tree.specs.Free.{binds, free, free_match}
use Rattle.sml_tree.specs.Order.{rank}
use Rattle.sml_tree.specs.Points.{point, spot, inside, awaited_spots, own_spots, field_parts, right_parts, rule_parts, function_parts, parts_in, spots_of, spots_at, spots}
use Rattle.sml_tree.proofs.Walk.{each_part, spots_unfold}
use Rattle.simulation.specs.Blocks.{IsAmong}
use Rattle.simulation.proofs.Lists.{some_eq}
use Rattle.sml_def.proofs.Effects.{all_append, all_map}
use Rattle.sml_def.proofs.Walked.{IsWalked, whole, each_walked, ret_among, caught_among}

module _ (nodes : List Node) (numbered : IsNumbered nodes) where
  -- a point has a rank below m, and stands
  pub record StandsBelow (m : ℕ) (q : Point) : Type 0 where
    pub below : rank q < m
    pub spot : Spot
    pub among : IsAmong spot (spots nodes)
    pub same : spot.point ≡ q

  -- what encloses something does so
  abbrev pub Stands : ℕ → Option Point → Type 0
  Stands m o = (q : Point) → o ≡ Some q → StandsBelow m q

  pub record Fits (s : Spot) : Type 0 where
    pub kind : s.point.kind ≡ kind.Eq → ⊥
    pub outer : Stands (rank s.point) s.outer

  nothing : (m : ℕ) → Stands m None
  nothing m q e = absurd cc

  higher : (m n : ℕ) (o : Option Point) → m ≤ n → Stands m o → Stands n o
  higher m n o le h q e = let here = h q e in let low = here.below in record { below = omega (arith, le, low); spot = here.spot; among = here.among; same = here.same }

  abbrev around : Context → Option Point
  around (Awaited held outer) = outer
  around (Plain outer) = outer
  around (Before body outer) = outer

  module _ (i : ℕ) where
    awaited_fit : (c : Context) → Stands (i * 5) (around c) → AllByRecursion Fits (awaited_spots i c)
    awaited_fit (Awaited held outer) h = (record { kind = λ e. cc; outer = higher (i * 5) (i * 5 + 1) outer (omega arith) h }, tt)
    awaited_fit (Plain outer) h = tt
    awaited_fit (Before body outer) h = tt

    inside_stands : (c : Context) → IsWalked nodes i c → Stands (i * 5) (around c) → Stands (i * 5 + 2) (inside i c)
    inside_stands (Awaited held outer) w h q e =
        some_eq (StandsBelow (i * 5 + 2)) (point i kind.Ret) q e (record { below = omega arith; spot = spot i kind.Ret held outer; among = ret_among nodes numbered i held (outer, w); same = refl })
    inside_stands (Plain outer) w h q e = higher (i * 5) (i * 5 + 2) outer (omega arith) h q e
    inside_stands (Before body outer) w h q e = higher (i * 5) (i * 5 + 2) outer (omega arith) h q e

    own_fit : (n : Node) (c : Context) → IsWalked nodes i c → Stands (i * 5) (around c) → AllByRecursion Fits (own_spots (binds nodes) (free nodes) i n c)
    own_fit (node.Fn rules) c w h = (record { kind = λ e. cc; outer = nothing (i * 5 + 0) }, awaited_fit c h)
    own_fit (node.Handle e rules) c w h =
        let enclosed = inside_stands c w h in
        all_append Fits (awaited_spots i c) _ (awaited_fit c h) (record { kind = λ e. cc; outer = enclosed }, (record { kind = λ e. cc; outer = higher (i * 5 + 2) (i * 5 + 3) (inside i c) (omega arith) enclosed }, tt))
    own_fit _ c w h = awaited_fit c h

    -- ---- Parts

    abbrev Inner : List Part → Type 0
    Inner parts = AllByRecursion (λ q. Stands (i * 5 + 5) (around q.context)) parts

    fields_inner : (f : ℕ → List ℕ) (n : ℕ) (fields : List Field) (outer : Option Point) → Stands (i * 5 + 5) outer → Inner (field_parts f n fields outer)
    fields_inner f n [] outer h = tt
    fields_inner f n (x ∷ fields) outer h = (h, fields_inner f (suc n) fields outer h)

    rules_inner : (rules : List Rule) (outer : Option Point) → Stands (i * 5 + 5) outer → Inner (rule_parts rules outer)
    rules_inner [] outer h = tt
    rules_inner (r ∷ rules) outer h = (h, rules_inner rules outer h)

    rights_inner : (b f : ℕ → List ℕ) (bindings : List Binding) (body : ℕ) (outer : Option Point) → Stands (i * 5 + 5) outer → Inner (right_parts b f bindings body outer)
    rights_inner b f [] body outer h = tt
    rights_inner b f (x ∷ bindings) body outer h = (h, rights_inner b f bindings body outer h)

    functions_inner : (bindings : List RecBinding) → Inner (function_parts bindings)
    functions_inner [] = tt
    functions_inner (x ∷ bindings) = (nothing (i * 5 + 5), functions_inner bindings)

    caught_stands : (e : ℕ) (rules : List Rule) (c : Context) → IsWalked nodes i c → slice_get nodes i ≡ Some (node.Handle e rules) → Stands (i * 5 + 5) (Some (point i kind.Caught))
    caught_stands e rules c w is q same =
        some_eq (StandsBelow (i * 5 + 5)) (point i kind.Caught) q same (record { below = omega arith; spot = spot i kind.Caught (length (free_match (binds nodes) (free nodes) rules)) (inside i c); among = caught_among nodes numbered i e rules c w is; same = refl })

    parts_inner : (n : Node) (c : Context) → IsWalked nodes i c → slice_get nodes i ≡ Some n → Stands (i * 5) (around c) → Inner (parts_in (binds nodes) (free nodes) i n c)
    parts_inner n c w is h = go n c is (higher (i * 5 + 2) (i * 5 + 5) (inside i c) (omega arith) (inside_stands c w h)) (caught_of w)
      where
        caught_of : IsWalked nodes i c → (e : ℕ) (rules : List Rule) → slice_get nodes i ≡ Some (node.Handle e rules) → Stands (i * 5 + 5) (Some (point i kind.Caught))
        caught_of w e rules is = caught_stands e rules c w is

        go : (n : Node) (c : Context) → slice_get nodes i ≡ Some n → Stands (i * 5 + 5) (inside i c) → ((e : ℕ) (rules : List Rule) → slice_get nodes i ≡ Some (node.Handle e rules) → Stands (i * 5 + 5) (Some (point i kind.Caught))) → Inner (parts_in (binds nodes) (free nodes) i n c)
        go (node.Record fields) c is s k = fields_inner (free nodes) 0 fields (inside i c) s
        go (node.App f a) c is s k = (s, (s, tt))
        go (node.Case e rules) c is s k = (s, rules_inner rules (inside i c) s)
        go (node.Fn rules) c is s k = rules_inner rules None (nothing (i * 5 + 5))
        go (node.Raise e) c is s k = (s, tt)
        go (node.Handle e rules) c is s k = (k e rules is, rules_inner rules (inside i c) s)
        go (node.Typed e ty) c is s k = (s, tt)
        go (node.Let d e) c is s k = (s, (s, tt))
        go (node.Val tyvars bindings) (Before body outer) is s k = rights_inner (binds nodes) (free nodes) bindings body outer s
        go (node.Val tyvars bindings) (Awaited held outer) is s k = tt
        go (node.Val tyvars bindings) (Plain outer) is s k = tt
        go (node.ValRec tyvars bindings) c is s k = functions_inner bindings
        go _ c is s k = tt

  -- ---- Every node

  abbrev AllFit : ℕ → Context → Type 0
  AllFit i c = AllByRecursion Fits (spots_at nodes i c)

  parts_fit : (i : ℕ) (qs : List Part) → AllByRecursion (λ q. i < q.node) qs → AllByRecursion (λ q. IsWalked nodes q.node q.context) qs → Inner i qs → ((k : ℕ) → i < k → (c : Context) → IsWalked nodes k c → Stands (k * 5) (around c) → AllFit k c) → AllByRecursion Fits (flat_map (λ q. spots_at nodes q.node q.context) qs)
  parts_fit i [] up w h later = tt
  parts_fit i (q ∷ qs) up w h later =
      all_append Fits (spots_at nodes q.node q.context) (flat_map (λ q. spots_at nodes q.node q.context) qs) (later q.node up.0 q.context w.0 (higher (i * 5 + 5) (q.node * 5) (around q.context) (omega (arith, up.0)) h.0)) (parts_fit i qs up.1 w.1 h.1 later)

  node_fits : (i : ℕ) (n : Node) (c : Context) → slice_get nodes i ≡ Some n → IsWalked nodes i c → Stands (i * 5) (around c) → ((k : ℕ) → i < k → (c : Context) → IsWalked nodes k c → Stands (k * 5) (around c) → AllFit k c) → AllFit i c
  node_fits i n c is w h later =
      let parts = parts_in (binds nodes) (free nodes) i n c in
      let up : AllByRecursion (λ q. i < q.node) parts = each_part (λ k. i < k) (binds nodes) (free nodes) i n c (all_map (λ k. (i < k) × (k < length nodes)) (λ k. i < k) (λ k g. g.0) (node_parts n) (numbered i n is)) in
      subst (AllByRecursion Fits) (sym (spots_unfold nodes numbered i c ∙ ap (λ o. at_node (λ c. []) (spots_of (binds nodes) (free nodes)) (spots_at nodes) i o c) is))
      (all_append Fits (own_spots (binds nodes) (free nodes) i n c) (flat_map (λ q. spots_at nodes q.node q.context) parts) (own_fit i n c w h) (parts_fit i parts up (each_walked nodes i n c w is) (parts_inner i n c w is h) later))

  none_fits : (i : ℕ) (c : Context) → slice_get nodes i ≡ None → AllFit i c
  none_fits i c is =
      subst (AllByRecursion Fits) (sym (spots_unfold nodes numbered i c ∙ ap (λ o. at_node (λ c. []) (spots_of (binds nodes) (free nodes)) (spots_at nodes) i o c) is)) tt

  all_fit : (m i : ℕ) → length nodes ≤ m + i → (c : Context) → IsWalked nodes i c → Stands (i * 5) (around c) → AllFit i c
  all_fit zero i le c w h = none_fits i c (slice_get_past nodes i (omega (arith, le)))
  all_fit (suc m) i le c w h = go (slice_get nodes i) refl (λ k lt. all_fit m k (omega (arith, le, lt)))
    where
      go : (o : Option Node) → slice_get nodes i ≡ o → ((k : ℕ) → i < k → (c : Context) → IsWalked nodes k c → Stands (k * 5) (around c) → AllFit k c) → AllFit i c
      go None is later = none_fits i c is
      go (Some n) is later = node_fits i n c is w h later

  pub spots_fit : AllByRecursion Fits (spots nodes)
  spots_fit = all_fit (length nodes) 0 (omega arith) (Plain None) whole (nothing 0)
