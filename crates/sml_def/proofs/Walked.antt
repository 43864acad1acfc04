-- The nodes that the walk over a program comes to, and the points of closures and frames that are made there.
use Rattle.std.proofs.Common.{◌≡◌, ℕ, suc, ◌+◌, ◌<◌, List, [], ◌∷◌, Option, Some, None, length, refl, sym, ap, ◌∙◌, subst, inl, inr}
use Rattle.std.specs.Prelude.{slice_get, flat_map}
use Rattle.std.specs.List.{AllByRecursion}
use Rattle.smlc_base.specs.declared.point.Point.{Point}
use Rattle.smlc_base.specs.declared.point.PointKind.TheVariants as kind
use Rattle.sml_tree.specs.declared.bare.Node.{Node}
use Rattle.sml_tree.specs.declared.bare.Node.TheVariants as node
use Rattle.sml_tree.specs.declared.bare.Field.{Field}
use Rattle.sml_tree.specs.declared.bare.Rule.{Rule}
use Rattle.sml_tree.specs.declared.bare.Binding.{Binding}
use Rattle.sml_tree.specs.declared.bare.RecBinding.{RecBinding}
use Rattle.sml_tree.specs.declared.points.Spot.{Spot}
use Rattle.sml_tree.specs.declared.points.Part.{Part}
use Rattle.sml_tree.specs.declared.points.Context.{Context}
use Rattle.sml_tree.specs.declared.points.Context.TheVariants.{Awaited, Plain}
use Rattle.sml_tree.specs.BareParts.{IsNumbered, node_parts, at_node}
use Rattle.sml_tree.specs.Free.{free, binds, free_match, free_fields, free_rest}
use Rattle.sml_tree.specs.Points.{spot, part, awaited_spots, inside, own_spots, field_parts, right_parts, rule_parts, function_parts, parts_in, spots_of, spots_at, spots}
use Rattle.sml_tree.proofs.Walk.{spots_unfold, each_part}
use Rattle.simulation.specs.Blocks.{IsAmong}
use Rattle.simulation.proofs.Lists.{among_left, among_right, get_below}
use Rattle.sml_def.proofs.Effects.{all_map}

among_flat : {A B : Type 0} (f : A → List B) (x : A) (xs : List A) (y : B) → IsAmong x xs → IsAmong y (f x) → IsAmong y (flat_map f xs)
among_flat f x [] y h g = absurd h
among_flat f x (z ∷ xs) y (inl e) g =
    among_left y (f z) (flat_map f xs) (subst (λ w. IsAmong y (f w)) e g)
among_flat f x (z ∷ xs) y (inr h) g = among_right y (f z) (flat_map f xs) (among_flat f x xs y h g)

all_among : {A : Type 0} (P : A → Type 0) (xs : List A) (x : A) → AllByRecursion P xs → IsAmong x xs → P x
all_among P [] x h g = absurd g
all_among P (y ∷ xs) x h (inl e) = subst P (sym e) h.0
all_among P (y ∷ xs) x h (inr g) = all_among P xs x h.1 g

-- the walk comes to a node, which stands so in the node that it is a part of
pub data IsWalked (nodes : List Node) : ℕ → Context → Type 0 where
  whole : IsWalked nodes 0 (Plain None)
  deeper : (i : ℕ) (n : Node) (c : Context) (j : ℕ) (d : Context) → IsWalked nodes i c → slice_get nodes i ≡ Some n → IsAmong (part j d) (parts_in (binds nodes) (free nodes) i n c) → IsWalked nodes j d

module _ (nodes : List Node) where
  -- the walk comes to it
  abbrev pub IsCome : ℕ → Type 0
  IsCome i = (c : Context) × IsWalked nodes i c

  -- a frame that holds so many values awaits it
  abbrev pub IsAwaited : ℕ → ℕ → Type 0
  IsAwaited i held = (outer : Option Point) × IsWalked nodes i (Awaited held outer)

  -- the bodies of rules
  abbrev pub RulesCome : List Rule → Type 0
  RulesCome rules = AllByRecursion (λ r. IsCome r.body) rules

  -- the later fields of a record, behind n others
  abbrev pub FieldsCome : ℕ → List Field → Type 0
  FieldsCome n [] = Unit {0}
  FieldsCome n (f ∷ fields) = IsAwaited f.node (n + length (free_fields (free nodes) fields)) × FieldsCome (suc n) fields

  -- the right sides of a value declaration that are left, and the body behind it
  abbrev pub RightsCome : List Binding → ℕ → Type 0
  RightsCome [] body = IsCome body
  RightsCome (b ∷ later) body = IsAwaited b.right (length (free_rest (binds nodes) (free nodes) b later body)) × RightsCome later body

  -- ---- The parts of a node that the walk comes to

  module _ (i : ℕ) (n : Node) (c : Context) (here : IsWalked nodes i c) (is : slice_get nodes i ≡ Some n) where
    abbrev Parts : List Part
    Parts = parts_in (binds nodes) (free nodes) i n c

    -- each part of the table
    pub each_walked : AllByRecursion (λ q. IsWalked nodes q.node q.context) (parts_in (binds nodes) (free nodes) i n c)
    each_walked = go Parts (λ q h. deeper i n c q.node q.context here is h)
      where
        go : (qs : List Part) → ((q : Part) → IsAmong q qs → IsWalked nodes q.node q.context) → AllByRecursion (λ q. IsWalked nodes q.node q.context) qs
        go [] f = tt
        go (q ∷ qs) f = (f q (inl refl), go qs (λ r h. f r (inr h)))

  pub rules_come : (rules : List Rule) (outer : Option Point) → AllByRecursion (λ q. IsWalked nodes q.node q.context) (rule_parts rules outer) → RulesCome rules
  rules_come [] outer h = tt
  rules_come (r ∷ rules) outer h = ((Plain outer, h.0), rules_come rules outer h.1)

  pub fields_come : (n : ℕ) (fields : List Field) (outer : Option Point) → AllByRecursion (λ q. IsWalked nodes q.node q.context) (field_parts (free nodes) n fields outer) → FieldsCome n fields
  fields_come n [] outer h = tt
  fields_come n (f ∷ fields) outer h = ((outer, h.0), fields_come (suc n) fields outer h.1)

  pub rights_come : (bindings : List Binding) (body : ℕ) (outer : Option Point) → IsCome body → AllByRecursion (λ q. IsWalked nodes q.node q.context) (right_parts (binds nodes) (free nodes) bindings body outer) → RightsCome bindings body
  rights_come [] body outer come h = come
  rights_come (b ∷ later) body outer come h = ((outer, h.0), rights_come later body outer come h.1)

  pub functions_come : (bindings : List RecBinding) → AllByRecursion (λ q. IsWalked nodes q.node q.context) (function_parts bindings) → AllByRecursion (λ b. IsCome b.right) bindings
  functions_come [] h = tt
  functions_come (b ∷ bindings) h = ((Plain None, h.0), functions_come bindings h.1)

  -- ---- Points

  module _ (numbered : IsNumbered nodes) where
    -- the points of a node and its parts are among those of the program
    spots_among : (i : ℕ) (c : Context) → IsWalked nodes i c → (s : Spot) → IsAmong s (spots_at nodes i c) → IsAmong s (spots nodes)
    spots_among i c whole s h = h
    spots_among j d (deeper i n c k e w is among) s h =
        spots_among i c w s (subst (IsAmong s) (sym (spots_unfold nodes numbered i c ∙ ap (λ o. at_node (λ c. []) (spots_of (binds nodes) (free nodes)) (spots_at nodes) i o c) is)) (among_right s (own_spots (binds nodes) (free nodes) i n c) _ (among_flat (λ q. spots_at nodes q.node q.context) (part j d) (parts_in (binds nodes) (free nodes) i n c) s among h)))

    own_among : (i : ℕ) (n : Node) (c : Context) → IsWalked nodes i c → slice_get nodes i ≡ Some n → (s : Spot) → IsAmong s (own_spots (binds nodes) (free nodes) i n c) → IsAmong s (spots nodes)
    own_among i n c w is s h =
        spots_among i c w s (subst (IsAmong s) (sym (spots_unfold nodes numbered i c ∙ ap (λ o. at_node (λ c. []) (spots_of (binds nodes) (free nodes)) (spots_at nodes) i o c) is)) (among_left s (own_spots (binds nodes) (free nodes) i n c) _ h))

    awaited_own : (i : ℕ) (n : Node) (c : Context) (s : Spot) → IsAmong s (awaited_spots i c) → IsAmong s (own_spots (binds nodes) (free nodes) i n c)
    awaited_own i (node.Fn rules) c s h = inr h
    awaited_own i (node.Handle e rules) c s h = among_left s (awaited_spots i c) _ h
    awaited_own i _ c s h = h

    -- a part is a node
    part_stands : (i : ℕ) (n : Node) (c : Context) (j : ℕ) (d : Context) → slice_get nodes i ≡ Some n → IsAmong (part j d) (parts_in (binds nodes) (free nodes) i n c) → j < length nodes
    part_stands i n c j d is h =
        all_among (λ q. q.node < length nodes) (parts_in (binds nodes) (free nodes) i n c) (part j d) (each_part (λ k. k < length nodes) (binds nodes) (free nodes) i n c (all_map (λ k. (i < k) × (k < length nodes)) (λ k. k < length nodes) (λ k g. g.1) (node_parts n) (numbered i n is))) h

    awaited_among : (j : ℕ) (d : Context) → IsWalked nodes j d → (s : Spot) → IsAmong s (awaited_spots j d) → IsAmong s (spots nodes)
    awaited_among j d whole s h = absurd h
    awaited_among j d (deeper i n c k e w is among) s h =
        let found = get_below nodes j (part_stands i n c j d is among) in
        own_among j found.0 d (deeper i n c j d w is among) found.1 s (awaited_own j found.0 d s h)

    pub ret_among : (j held : ℕ) → (w : IsAwaited j held) → IsAmong (spot j kind.Ret held w.0) (spots nodes)
    ret_among j held w = awaited_among j (Awaited held w.0) w.1 (spot j kind.Ret held w.0) (inl refl)

    pub fn_among : (i : ℕ) (rules : List Rule) (c : Context) → IsWalked nodes i c → slice_get nodes i ≡ Some (node.Fn rules) → IsAmong (spot i kind.Fn (length (free_match (binds nodes) (free nodes) rules)) None) (spots nodes)
    fn_among i rules c w is = own_among i (node.Fn rules) c w is _ (inl refl)

    pub caught_among : (i e : ℕ) (rules : List Rule) (c : Context) → IsWalked nodes i c → slice_get nodes i ≡ Some (node.Handle e rules) → IsAmong (spot i kind.Caught (length (free_match (binds nodes) (free nodes) rules)) (inside i c)) (spots nodes)
    caught_among i e rules c w is = own_among i (node.Handle e rules) c w is _ (among_right _ (awaited_spots i c) _ (inl refl))

    pub popped_among : (i e : ℕ) (rules : List Rule) (c : Context) → IsWalked nodes i c → slice_get nodes i ≡ Some (node.Handle e rules) → IsAmong (spot i kind.Popped (length (free_match (binds nodes) (free nodes) rules)) (inside i c)) (spots nodes)
    popped_among i e rules c w is = own_among i (node.Handle e rules) c w is _ (among_right _ (awaited_spots i c) _ (inr (inl refl)))
