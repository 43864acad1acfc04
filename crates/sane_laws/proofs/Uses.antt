-- What is known of a node's parts, of its operator, and of the names that it binds.
use Rattle.std.proofs.Common.{◌≡◌, ℕ, zero, suc, Bool, true, false, List, [], ◌∷◌, ◌++◌, Some, refl, sym, ap, ◌∙◌}
use Rattle.std.specs.Prelude.{slice_get, nat_eq, flat_map, map, ◌||◌}
use Rattle.std.specs.List.{AllByRecursion}
use Rattle.std.proofs.lemmas.List.Folds.{list_any-append}
use Rattle.std.proofs.lemmas.Bool.{eqb-true}
use Rattle.sml_tree.specs.declared.bare.Bare.{Bare}
use Rattle.sml_tree.specs.declared.bare.Node.{Node}
use Rattle.sml_tree.specs.declared.bare.Node.TheVariants as node
use Rattle.sml_tree.specs.declared.bare.Rule.{Rule}
use Rattle.sml_tree.specs.declared.bare.Field.{Field}
use Rattle.sml_tree.specs.declared.bare.Binding.{Binding}
use Rattle.sml_tree.specs.BareParts.{node_parts, rule_parts, IsNumbered, at_node}
use Rattle.sml_tree.specs.IsBare.{IsDistinct, names_at}
use Rattle.sml_tree.specs.Sets.{has}
use Rattle.sml_tree.proofs.Members.{or_left, or_right, either}
use Rattle.sml_tree.proofs.Unfold.{by_parts}
use Rattle.sml_sound.proofs.Lists.{all_at}
use Rattle.sml_types.specs.Typing.{Typing}
use Rattle.lambda_ir.specs.Free.{Operator, Computed}
use Rattle.sane_laws.specs.Sane.{operator_node, operator_of}
use Rattle.sane_laws.specs.Uses.{free_parts, NoConstants, exceptions_at, exceptions, Cites, UsesWell}
use Rattle.sane_laws.specs.Flow.{IsConstantNone, NoBodies, NoFields, NoRights}

-- ---- Operators

operators_by_parts : (f g : ℕ → Operator) (i : ℕ) (n : Node) → AllByRecursion (λ c. f c ≡ g c) (node_parts n) → operator_node f i n ≡ operator_node g i n
operators_by_parts f g i (node.Typed e ty) h = h.0
operators_by_parts f g i (node.Builtin b) h = refl
operators_by_parts f g i (node.Constructor c) h = refl
operators_by_parts f g i _ h = refl

-- the operator of a node, by its parts
pub operator_unfold : (nodes : List Node) → IsNumbered nodes → (i : ℕ) (n : Node) → slice_get nodes i ≡ Some n → operator_of nodes i ≡ operator_node (operator_of nodes) i n
operator_unfold nodes numbered i n e =
    by_parts Computed operator_node (λ x y. x ≡ y) refl operators_by_parts nodes numbered i ∙ ap (at_node Computed operator_node (operator_of nodes) i) e

-- ---- Names

-- what stands in a node's list stands in that of all nodes
pub in_all : (f : Node → List ℕ) (nodes : List Node) (i : ℕ) (n : Node) (x : ℕ) → slice_get nodes i ≡ Some n → has (f n) x ≡ true → has (flat_map f nodes) x ≡ true
in_all f [] i n x e h = cc
in_all f (m ∷ nodes) zero n x e h =
    let same : n ≡ m = cc in
    list_any-append (nat_eq x) (f m) (flat_map f nodes) ∙ or_left (has (f m) x) (has (flat_map f nodes) x) (ap (λ n. has (f n) x) (sym same) ∙ h)
in_all f (m ∷ nodes) (suc i) n x e h =
    list_any-append (nat_eq x) (f m) (flat_map f nodes) ∙ or_right (has (f m) x) (has (flat_map f nodes) x) (in_all f nodes i n x e h)

-- exceptions are among the names that are bound
exception_named : (n : Node) (x : ℕ) → has (exceptions_at n) x ≡ true → has (names_at n) x ≡ true
exception_named (node.Exception y ty) x h = h
exception_named (node.SameException y c) x h = h
exception_named (node.NoException y) x h = h
exception_named _ x h = cc

exceptions_named : (nodes : List Node) (x : ℕ) → has (exceptions nodes) x ≡ true → has (flat_map names_at nodes) x ≡ true
exceptions_named [] x h = h
exceptions_named (n ∷ nodes) x h =
    let later = flat_map names_at nodes in
    list_any-append (nat_eq x) (names_at n) later
    ∙ either (has (exceptions_at n) x) (has (exceptions nodes) x) ((has (names_at n) x || has later x) ≡ true) (sym (list_any-append (nat_eq x) (exceptions_at n) (exceptions nodes)) ∙ h) (λ a. or_left (has (names_at n) x) (has later x) (exception_named n x a)) (λ a. or_right (has (names_at n) x) (has later x) (exceptions_named nodes x a))

-- what stands in the first of two lists whose items are distinct isn't in the second
not_both : (xs ys : List ℕ) (x : ℕ) → IsDistinct (xs ++ ys) → has xs x ≡ true → has ys x ≡ true → ⊥
not_both [] ys x d h g = cc
not_both (y ∷ xs) ys x d h g =
    either (nat_eq x y) (has xs x) ⊥ h (λ a.
    let same : x ≡ y = eqb-true x y a in
    let there : has (xs ++ ys) y ≡ true = list_any-append (nat_eq y) xs ys ∙ or_right (has xs y) (has ys y) (ap (has ys) (sym same) ∙ g) in
    let none = d.0 in cc) (λ a. not_both xs ys x d.1 a g)

behind : (xs ys : List ℕ) → IsDistinct (xs ++ ys) → IsDistinct ys
behind [] ys d = d
behind (x ∷ xs) ys d = behind xs ys d.1

-- a name that a node binds that declares no exception is none
pub no_exception : (nodes : List Node) → IsDistinct (flat_map names_at nodes) → (i : ℕ) (n : Node) (x : ℕ) → slice_get nodes i ≡ Some n → exceptions_at n ≡ [] → has (names_at n) x ≡ true → has (exceptions nodes) x ≡ false
no_exception nodes d i n x e none h = go (has (exceptions nodes) x) refl
  where
    apart : (nodes : List Node) → IsDistinct (flat_map names_at nodes) → (i : ℕ) → slice_get nodes i ≡ Some n → has (exceptions nodes) x ≡ true → ⊥
    apart [] d i e g = cc
    apart (m ∷ nodes) d zero e g =
        let same : m ≡ n = cc in
        either (has (exceptions_at m) x) (has (exceptions nodes) x) ⊥ (sym (list_any-append (nat_eq x) (exceptions_at m) (exceptions nodes)) ∙ g)
        (λ a. let gone : has [] x ≡ true = ap (λ xs. has xs x) (sym none) ∙ ap (λ n. has (exceptions_at n) x) (sym same) ∙ a in cc)
        (λ a. not_both (names_at m) (flat_map names_at nodes) x d (ap (λ n. has (names_at n) x) same ∙ h) (exceptions_named nodes x a))
    apart (m ∷ nodes) d (suc i) e g =
        either (has (exceptions_at m) x) (has (exceptions nodes) x) ⊥ (sym (list_any-append (nat_eq x) (exceptions_at m) (exceptions nodes)) ∙ g)
        (λ a. not_both (names_at m) (flat_map names_at nodes) x d (exception_named m x a) (in_all names_at nodes i n x e h))
        (λ a. apart nodes (behind (names_at m) (flat_map names_at nodes) d) i e a)

    go : (b : Bool) → has (exceptions nodes) x ≡ b → has (exceptions nodes) x ≡ false
    go true q = absurd (apart nodes d i e q)
    go false q = q

-- ---- Parts

module _ (p : Bare) (t : Typing) (uses : UsesWell p) where
  pub free_of : (i : ℕ) (n : Node) → slice_get p.nodes i ≡ Some n → AllByRecursion (IsConstantNone p t) (free_parts n)
  free_of i n e = all_at (NoConstants p.nodes) p.nodes i n uses.constants e

  pub cites_of : (i : ℕ) (n : Node) → slice_get p.nodes i ≡ Some n → Cites p.nodes n
  cites_of i n e = all_at (Cites p.nodes) p.nodes i n uses.names e

  pub bodies_of : (rules : List Rule) → AllByRecursion (IsConstantNone p t) (flat_map rule_parts rules) → NoBodies p t rules
  bodies_of [] h = tt
  bodies_of (r ∷ rules) h = (h.1.0, bodies_of rules h.1.1)

  pub fields_of : (fields : List Field) → AllByRecursion (IsConstantNone p t) (map (λ f. f.node) fields) → NoFields p t fields
  fields_of [] h = tt
  fields_of (f ∷ fields) h = (h.0, fields_of fields h.1)

  pub rights_of : (bs : List Binding) → AllByRecursion (IsConstantNone p t) (flat_map (λ b. b.pat ∷ b.right ∷ []) bs) → NoRights p t bs
  rights_of [] h = tt
  rights_of (b ∷ bs) h = (h.1.0, rights_of bs h.1.1)
