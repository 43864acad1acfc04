-- The walk over a tree: the points of a node are its own and those of its parts, and a part is one turn less.
use Rattle.std.proofs.Common.{◌≡◌, ℕ, suc, ◌+◌, ◌<◌, List, [], ◌∷◌, ◌++◌, Option, Some, None, length, map, drop, get_or, reverse, refl, sym, ap, ◌∙◌, subst, arith}
use Rattle.std.proofs.lemmas.List.{append_assoc, reverse-append, reverse-reverse}
use Rattle.std.proofs.lemmas.Grind.{flat_map-append}
use Rattle.std.specs.Prelude.{slice_get, flat_map}
use Rattle.std.specs.List.{AllByRecursion}
use Rattle.smlc_base.specs.declared.point.Point.{Point}
use Rattle.sml_tree.specs.declared.bare.Node.{Node}
use Rattle.sml_tree.specs.declared.bare.Node.TheVariants as node
use Rattle.sml_tree.specs.declared.bare.Field.{Field}
use Rattle.sml_tree.specs.declared.bare.Rule.{Rule}
use Rattle.sml_tree.specs.declared.bare.Binding.{Binding}
use Rattle.sml_tree.specs.declared.bare.RecBinding.{RecBinding}
use Rattle.sml_tree.specs.declared.points.Spot.{Spot}
use Rattle.sml_tree.specs.declared.points.Context.{Context}
use Rattle.sml_tree.specs.declared.points.Context.TheVariants.{Awaited, Before}
use Rattle.sml_tree.specs.declared.points.Part.{Part}
use Rattle.sml_tree.specs.BareParts.{node_parts, IsNumbered, at_node, from_parts}
use Rattle.sml_tree.specs.Sets.{union, union_over, without}
use Rattle.sml_tree.specs.Free.{binds, free, bound_by, free_rest}
use Rattle.sml_tree.specs.Points.{part, inside, field_parts, right_parts, rule_parts, function_parts, parts_in, own_spots, spots_of, spots_at}
use Rattle.sml_tree.proofs.Unfold.{by_parts}
use Rattle.sml_tree.proofs.SetLemmas.{drop_down, push_down}

-- what holds of each part of a node holds of each part of its table
module _ (P : ℕ → Type 0) (b f : ℕ → List ℕ) where
  abbrev Each : List Part → Type 0
  Each parts = AllByRecursion (λ q. P q.node) parts

  each_field : (n : ℕ) (fields : List Field) (outer : Option Point) → AllByRecursion P (map (λ x. x.node) fields) → Each (field_parts f n fields outer)
  each_field n [] outer h = tt
  each_field n (x ∷ fields) outer h = (h.0, each_field (suc n) fields outer h.1)

  each_right : (bindings : List Binding) (body : ℕ) (outer : Option Point) → AllByRecursion P (flat_map (λ x. x.pat ∷ x.right ∷ []) bindings) → Each (right_parts b f bindings body outer)
  each_right [] body outer h = tt
  each_right (x ∷ bindings) body outer h = (h.1.0, each_right bindings body outer h.1.1)

  each_rule : (rules : List Rule) (outer : Option Point) → AllByRecursion P (flat_map (λ r. r.pat ∷ r.body ∷ []) rules) → Each (rule_parts rules outer)
  each_rule [] outer h = tt
  each_rule (r ∷ rules) outer h = (h.1.0, each_rule rules outer h.1.1)

  each_function : (bindings : List RecBinding) → AllByRecursion P (map (λ x. x.right) bindings) → Each (function_parts bindings)
  each_function [] h = tt
  each_function (x ∷ bindings) h = (h.0, each_function bindings h.1)

  pub each_part : (i : ℕ) (n : Node) (c : Context) → AllByRecursion P (node_parts n) → Each (parts_in b f i n c)
  each_part i (node.Record fields) c h = each_field 0 fields (inside i c) h
  each_part i (node.App e a) c h = h
  each_part i (node.Case e rules) c h = (h.0, each_rule rules (inside i c) h.1)
  each_part i (node.Fn rules) c h = each_rule rules None h
  each_part i (node.Raise e) c h = (h.0, tt)
  each_part i (node.Handle e rules) c h = (h.0, each_rule rules (inside i c) h.1)
  each_part i (node.Typed e ty) c h = (h.0, tt)
  each_part i (node.Let d e) c h = h
  each_part i (node.Val tyvars bindings) (Before body outer) h = each_right bindings body outer h
  each_part i (node.ValRec tyvars bindings) c h = each_function bindings h
  each_part i _ c h = tt

-- two functions that are equal at each part and each context
abbrev pub SameAt : {A : Type 0} → (Context → A) → (Context → A) → Type 0
SameAt x y = (c : Context) → x c ≡ y c

flat_same : {B : Type 0} (f g : ℕ → Context → List B) (parts : List Part) → AllByRecursion (λ q. SameAt (f q.node) (g q.node)) parts → flat_map (λ q. f q.node q.context) parts ≡ flat_map (λ q. g q.node q.context) parts
flat_same f g [] h = refl
flat_same f g (q ∷ parts) h =
    ap (λ xs. xs ++ flat_map (λ q. f q.node q.context) parts) (h.0 q.context) ∙ ap (λ xs. g q.node q.context ++ xs) (flat_same f g parts h.1)

-- the sum over parts
abbrev pub total : (ℕ → Context → ℕ) → List Part → ℕ
total f [] = 0
total f (q ∷ parts) = f q.node q.context + total f parts

pub total_append : (f : ℕ → Context → ℕ) (ps qs : List Part) → total f (ps ++ qs) ≡ total f ps + total f qs
total_append f [] qs = omega arith
total_append f (p ∷ ps) qs = omega (arith, total_append f ps qs)

sum_same : (f g : ℕ → Context → ℕ) (parts : List Part) → AllByRecursion (λ q. SameAt (f q.node) (g q.node)) parts → total f parts ≡ total g parts
sum_same f g [] h = refl
sum_same f g (q ∷ parts) h =
    ap (λ m. m + total f parts) (h.0 q.context) ∙ ap (λ m. g q.node q.context + m) (sum_same f g parts h.1)

module _ (nodes : List Node) where
  -- the turns that the walk takes from a node on
  abbrev pub turns_in : (ℕ → Context → ℕ) → ℕ → Node → Context → ℕ
  turns_in turns i n c = suc (total turns (parts_in (binds nodes) (free nodes) i n c))

  abbrev pub turns_at : ℕ → Context → ℕ
  turns_at = from_parts (λ c. 1) turns_in nodes

  module _ (numbered : IsNumbered nodes) where
    pub turns_unfold : (i : ℕ) (c : Context) → turns_at i c ≡ at_node (λ c. 1) turns_in turns_at i (slice_get nodes i) c
    turns_unfold i c =
        by_parts (λ c. 1) turns_in SameAt (λ c. refl) (λ f g i n h c. ap suc (sum_same f g (parts_in (binds nodes) (free nodes) i n c) (each_part (λ e. SameAt (f e) (g e)) (binds nodes) (free nodes) i n c h))) nodes numbered i c

    pub spots_unfold : (i : ℕ) (c : Context) → spots_at nodes i c ≡ at_node (λ c. []) (spots_of (binds nodes) (free nodes)) (spots_at nodes) i (slice_get nodes i) c
    spots_unfold i c =
        by_parts (λ c. []) (spots_of (binds nodes) (free nodes)) SameAt (λ c. refl) (λ f g i n h c. ap (λ xs. own_spots (binds nodes) (free nodes) i n c ++ xs) (flat_same f g (parts_in (binds nodes) (free nodes) i n c) (each_part (λ e. SameAt (f e) (g e)) (binds nodes) (free nodes) i n c h))) nodes numbered i c

-- one more right side stands on the stack
pub rights_down : (bd fr : ℕ → List ℕ) (bindings : List Binding) (i : ℕ) (d : Binding) (body : ℕ) (outer : Option Point) (old work : List Part) (held : ℕ) → i < length bindings → held ≡ length (union (union_over (λ b. fr b.pat) (drop i bindings)) (union (union_over (λ b. fr b.right) (drop (suc i) bindings)) (without (fr body) (bound_by bd fr (drop i bindings))))) → work ≡ old ++ reverse (right_parts bd fr (drop (suc i) bindings) body outer) → work ++ part (get_or bindings i d).right (Awaited held outer) ∷ [] ≡ old ++ reverse (right_parts bd fr (drop i bindings) body outer)
rights_down bd fr bindings i d body outer old work held lt h e =
    subst
    (λ bs. held ≡ length (union (union_over (λ b. fr b.pat) bs) (union (union_over (λ b. fr b.right) (drop (suc i) bindings)) (without (fr body) (bound_by bd fr bs)))) → work ++ part (get_or bindings i d).right (Awaited held outer) ∷ [] ≡ old ++ reverse (right_parts bd fr bs body outer))
    (sym (drop_down bindings i d lt))
    (λ g. ap (λ m. work ++ part (get_or bindings i d).right (Awaited m outer) ∷ []) g ∙ push_down old work (part (get_or bindings i d).right (Awaited (length (free_rest bd fr (get_or bindings i d) (drop (suc i) bindings) body)) outer)) (right_parts bd fr (drop (suc i) bindings) body outer) e)
    h

-- ---- A turn of the walk: the last part of the list is taken off

module _ (nodes : List Node) (numbered : IsNumbered nodes) (work : List Part) (q : Part) where
  pub last_total : (f : ℕ → Context → ℕ) → total f (reverse (work ++ q ∷ [])) ≡ f q.node q.context + total f (reverse work)
  last_total f = ap (total f) (reverse-append work (q ∷ []))

  pub last_spots : flat_map (λ p. spots_at nodes p.node p.context) (reverse (work ++ q ∷ [])) ≡ spots_at nodes q.node q.context ++ flat_map (λ p. spots_at nodes p.node p.context) (reverse work)
  last_spots = ap (flat_map (λ p. spots_at nodes p.node p.context)) (reverse-append work (q ∷ []))

  -- it is no node
  module _ (gone : slice_get nodes q.node ≡ None) where
    pub none_spots : (out all : List Spot) → out ++ flat_map (λ p. spots_at nodes p.node p.context) (reverse (work ++ q ∷ [])) ≡ all → out ++ flat_map (λ p. spots_at nodes p.node p.context) (reverse work) ≡ all
    none_spots out all e =
        let own : spots_at nodes q.node q.context ≡ [] = spots_unfold nodes numbered q.node q.context ∙ ap (λ o. at_node (λ c. []) (spots_of (binds nodes) (free nodes)) (spots_at nodes) q.node o q.context) gone in
        ap (λ xs. out ++ (xs ++ flat_map (λ p. spots_at nodes p.node p.context) (reverse work))) (sym own) ∙ ap (λ xs. out ++ xs) (sym last_spots) ∙ e

    pub none_turns : total (turns_at nodes) (reverse work) < total (turns_at nodes) (reverse (work ++ q ∷ []))
    none_turns =
        let own : turns_at nodes q.node q.context ≡ 1 = turns_unfold nodes numbered q.node q.context ∙ ap (λ o. at_node (λ c. 1) (turns_in nodes) (turns_at nodes) q.node o q.context) gone in
        omega (arith, own, last_total (turns_at nodes))

  -- it is a node, and its parts stand in its place
  module _ (n : Node) (here : slice_get nodes q.node ≡ Some n) (now : List Part) (is_now : now ≡ work ++ reverse (parts_in (binds nodes) (free nodes) q.node n q.context)) where
    stacked : reverse now ≡ parts_in (binds nodes) (free nodes) q.node n q.context ++ reverse work
    stacked =
        ap (λ ps. reverse ps) is_now
        ∙ reverse-append work (reverse (parts_in (binds nodes) (free nodes) q.node n q.context))
        ∙ ap (λ ps. ps ++ reverse work) (reverse-reverse (parts_in (binds nodes) (free nodes) q.node n q.context))

    pub some_turns : total (turns_at nodes) (reverse now) < total (turns_at nodes) (reverse (work ++ q ∷ []))
    some_turns =
        let own : turns_at nodes q.node q.context ≡ suc (total (turns_at nodes) (parts_in (binds nodes) (free nodes) q.node n q.context)) = turns_unfold nodes numbered q.node q.context ∙ ap (λ o. at_node (λ c. 1) (turns_in nodes) (turns_at nodes) q.node o q.context) here in
        let all : total (turns_at nodes) (reverse now) ≡ total (turns_at nodes) (parts_in (binds nodes) (free nodes) q.node n q.context) + total (turns_at nodes) (reverse work) = ap (total (turns_at nodes)) stacked ∙ total_append (turns_at nodes) (parts_in (binds nodes) (free nodes) q.node n q.context) (reverse work) in
        omega (arith, own, all, last_total (turns_at nodes))

    pub some_spots : (out found all : List Spot) → found ≡ out ++ own_spots (binds nodes) (free nodes) q.node n q.context → out ++ flat_map (λ p. spots_at nodes p.node p.context) (reverse (work ++ q ∷ [])) ≡ all → found ++ flat_map (λ p. spots_at nodes p.node p.context) (reverse now) ≡ all
    some_spots out found all is_found e =
        let own : spots_at nodes q.node q.context ≡ own_spots (binds nodes) (free nodes) q.node n q.context ++ flat_map (λ p. spots_at nodes p.node p.context) (parts_in (binds nodes) (free nodes) q.node n q.context) = spots_unfold nodes numbered q.node q.context ∙ ap (λ o. at_node (λ c. []) (spots_of (binds nodes) (free nodes)) (spots_at nodes) q.node o q.context) here in
        ap (λ xs. xs ++ flat_map (λ p. spots_at nodes p.node p.context) (reverse now)) is_found
        ∙ ap (λ ps. (out ++ own_spots (binds nodes) (free nodes) q.node n q.context) ++ flat_map (λ p. spots_at nodes p.node p.context) ps) stacked
        ∙ ap (λ xs. (out ++ own_spots (binds nodes) (free nodes) q.node n q.context) ++ xs) (flat_map-append (λ p. spots_at nodes p.node p.context) (parts_in (binds nodes) (free nodes) q.node n q.context) (reverse work))
        ∙ append_assoc out (own_spots (binds nodes) (free nodes) q.node n q.context) _
        ∙ ap (λ xs. out ++ xs) (sym (append_assoc (own_spots (binds nodes) (free nodes) q.node n q.context) _ _))
        ∙ ap (λ xs. out ++ (xs ++ flat_map (λ p. spots_at nodes p.node p.context) (reverse work))) (sym own)
        ∙ ap (λ xs. out ++ xs) (sym last_spots)
        ∙ e
