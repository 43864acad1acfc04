-- The variables of a node are those of its parts.
use Rattle.std.proofs.Common.{◌≡◌, ℕ, List, [], ◌∷◌, Some, refl, ap, ◌∙◌}
use Rattle.std.specs.Prelude.{slice_get, map, flat_map}
use Rattle.std.specs.List.{AllByRecursion}
use Rattle.sml_tree.specs.declared.bare.Node.{Node}
use Rattle.sml_tree.specs.declared.bare.Node.TheVariants as node
use Rattle.sml_tree.specs.declared.bare.Rule.{Rule}
use Rattle.sml_tree.specs.declared.bare.Field.{Field}
use Rattle.sml_tree.specs.Sets.{union, union_over, without}
use Rattle.sml_tree.specs.BareParts.{node_parts, IsNumbered, at_node}
use Rattle.sml_tree.specs.Free.{binds_of, binds, free_of, free, scoped, free_match, free_fields, names_of}
use Rattle.sml_tree.proofs.Unfold.{by_parts, all_map}

-- the union over a list goes by the sets of its items
pub over_same : {B : Type 0} (F G : B → List ℕ) (xs : List B) → AllByRecursion (λ x. F x ≡ G x) xs → union_over F xs ≡ union_over G xs
over_same F G [] h = refl
over_same F G (x ∷ xs) h = ap (λ r. union r (union_over F xs)) h.0 ∙ ap (union (G x)) (over_same F G xs h.1)

module _ (Same : ℕ → Type 0) where
  -- what holds of the one part of each item, or of its two parts
  one_each : {B : Type 0} (part : B → ℕ) (F G : B → List ℕ) → ((x : B) → Same (part x) → F x ≡ G x) → (xs : List B) → AllByRecursion Same (map part xs) → union_over F xs ≡ union_over G xs
  one_each {B} part F G same xs h = over_same F G xs (go xs h)
    where
      go : (xs : List B) → AllByRecursion Same (map part xs) → AllByRecursion (λ x. F x ≡ G x) xs
      go [] h = tt
      go (x ∷ xs) h = (same x h.0, go xs h.1)

  two_each : {B : Type 0} (first second : B → ℕ) (F G : B → List ℕ) → ((x : B) → Same (first x) → Same (second x) → F x ≡ G x) → (xs : List B) → AllByRecursion Same (flat_map (λ x. first x ∷ second x ∷ []) xs) → union_over F xs ≡ union_over G xs
  two_each {B} first second F G same xs h = over_same F G xs (go xs h)
    where
      go : (xs : List B) → AllByRecursion Same (flat_map (λ x. first x ∷ second x ∷ []) xs) → AllByRecursion (λ x. F x ≡ G x) xs
      go [] h = tt
      go (x ∷ xs) h = (same x h.0 h.1.0, go xs h.1.1)

module _ (b d : ℕ → List ℕ) where
  abbrev SameBinds : ℕ → Type 0
  SameBinds c = b c ≡ d c

  pub binds_by_parts : (n : Node) → AllByRecursion SameBinds (node_parts n) → binds_of b n ≡ binds_of d n
  binds_by_parts (node.PatApp c p) h = h.0
  binds_by_parts (node.PatRecord fields) h = one_each SameBinds (λ x. x.node) _ _ (λ x e. e) fields h
  binds_by_parts (node.PatTyped p ty) h = h.0
  binds_by_parts (node.PatAs x p) h = ap (union (x.0 ∷ [])) h.0
  binds_by_parts (node.PatAsCon x p) h = ap (union (x.0 ∷ [])) h.0
  binds_by_parts (node.Val tyvars bindings) h = two_each SameBinds (λ x. x.pat) (λ x. x.right) _ _ (λ x e r. e) bindings h
  binds_by_parts _ h = refl

  module _ (f g : ℕ → List ℕ) where
    abbrev pub Same : ℕ → Type 0
    Same c = (b c ≡ d c) × (f c ≡ g c)

    scoped_same : (p e : ℕ) → Same p → Same e → scoped b f p e ≡ scoped d g p e
    scoped_same p e hp he = cc

    over_rules : (rules : List Rule) → AllByRecursion Same (flat_map (λ r. r.pat ∷ r.body ∷ []) rules) → free_match b f rules ≡ free_match d g rules
    over_rules rules h =
        two_each Same (λ r. r.pat) (λ r. r.body) _ _ (λ r. scoped_same r.pat r.body) rules h

    over_fields : (fields : List Field) → AllByRecursion Same (map (λ x. x.node) fields) → free_fields f fields ≡ free_fields g fields
    over_fields fields h = one_each Same (λ x. x.node) _ _ (λ x e. e.1) fields h

    pub free_by_parts : (n : Node) → AllByRecursion Same (node_parts n) → free_of b f n ≡ free_of d g n
    free_by_parts (node.Record fields) h = over_fields fields h
    free_by_parts (node.App e a) h = cc (h.0.1, h.1.0.1)
    free_by_parts (node.Case e rules) h = let r = over_rules rules h.1 in cc (h.0.1)
    free_by_parts (node.Fn rules) h = over_rules rules h
    free_by_parts (node.Raise e) h = h.0.1
    free_by_parts (node.Handle e rules) h = let r = over_rules rules h.1 in cc (h.0.1)
    free_by_parts (node.Typed e ty) h = h.0.1
    free_by_parts (node.Let p e) h = scoped_same p e h.0 h.1.0
    free_by_parts (node.PatApp c p) h = cc (h.0.1)
    free_by_parts (node.PatRecord fields) h = over_fields fields h
    free_by_parts (node.PatTyped p ty) h = h.0.1
    free_by_parts (node.PatAs x p) h = h.0.1
    free_by_parts (node.PatAsCon x p) h = h.0.1
    free_by_parts (node.Val tyvars bindings) h =
        two_each Same (λ x. x.pat) (λ x. x.right) (λ x. union (f x.pat) (f x.right)) (λ x. union (g x.pat) (g x.right)) (λ x e r. cc) bindings h
    free_by_parts (node.ValRec tyvars bindings) h =
        ap (λ xs. without xs (names_of bindings)) (one_each Same (λ x. x.right) (λ x. f x.right) (λ x. g x.right) (λ x e. e.1) bindings h)
    free_by_parts _ h = refl

-- the variables that a node binds, by its parts
pub binds_unfold : (nodes : List Node) → IsNumbered nodes → (i : ℕ) (n : Node) → slice_get nodes i ≡ Some n → binds nodes i ≡ binds_of (binds nodes) n
binds_unfold nodes numbered i n e =
    by_parts [] (λ part i. binds_of part) (λ x y. x ≡ y) refl (λ f g i n h. binds_by_parts f g n h) nodes numbered i
    ∙ ap (at_node [] (λ part i. binds_of part) (binds nodes) i) e

-- the free variables of a node, by its parts
pub free_unfold : (nodes : List Node) → IsNumbered nodes → (i : ℕ) (n : Node) → slice_get nodes i ≡ Some n → free nodes i ≡ free_of (binds nodes) (free nodes) n
free_unfold nodes numbered i n e =
    by_parts [] (λ part i. free_of (binds nodes) part) (λ x y. x ≡ y) refl (λ f g i n h. free_by_parts (binds nodes) (binds nodes) f g n (all_map (λ c s. (refl, s)) (node_parts n) h)) nodes numbered i
    ∙ ap (at_node [] (λ part i. free_of (binds nodes) part) (free nodes) i) e
