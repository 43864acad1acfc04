-- The names that patterns and declarations bind, in order, and the contexts that the parts of a node stand in.
use Rattle.std.specs.Prelude.{◌≡◌, ℕ, ◌⊎◌, Option, Some, None, List, [], ◌∷◌, ◌++◌, flat_map, map, slice_get}
use Rattle.std.specs.List.{AllByRecursion}
use Rattle.sml_tree.specs.declared.bare.Field.{Field}
use Rattle.sml_tree.specs.declared.bare.Rule.{Rule}
use Rattle.sml_tree.specs.declared.bare.Binding.{Binding}
use Rattle.sml_tree.specs.declared.bare.RecBinding.{RecBinding}
use Rattle.sml_tree.specs.declared.bare.Node.{Node}
use Rattle.sml_tree.specs.declared.bare.Node.TheVariants as node
use Rattle.sml_tree.specs.BareParts.{from_parts}
use Rattle.sml_types.specs.Poly.{Context, with_type_names, with_tyvars, with_names, with_own}
use Rattle.sml_types.specs.Typing.{group_names, made_by}

abbrev pub names_of_fields : (ℕ → List ℕ) → List Field → List ℕ
names_of_fields part [] = []
names_of_fields part (l ∷ fields) = part l.node ++ names_of_fields part fields

abbrev pub names_of_bindings : (ℕ → List ℕ) → List Binding → List ℕ
names_of_bindings part [] = []
names_of_bindings part (b ∷ bindings) = part b.pat ++ names_of_bindings part bindings

-- of a node, from those of its parts
abbrev pub names_of : (ℕ → List ℕ) → ℕ → Node → List ℕ
names_of part i (node.PatVar x) = x.0 ∷ []
names_of part i (node.PatApp k q) = part q
names_of part i (node.PatRecord fields) = names_of_fields part fields
names_of part i (node.PatTyped q j) = part q
names_of part i (node.PatAs x q) = x.0 ∷ part q
names_of part i (node.Val us bindings) = names_of_bindings part bindings
names_of part i (node.ValRec us bindings) = group_names bindings
names_of part i (node.Exception x arg) = x.0 ∷ []
names_of part i (node.SameException x k) = x.0 ∷ []
names_of part i _ = []

-- the names that the pattern or declaration of a number binds
abbrev pub names_bound : List Node → ℕ → List ℕ
names_bound = from_parts [] names_of

-- the names that the patterns of a match bind
abbrev pub names_of_rules : List Node → List Rule → List ℕ
names_of_rules nodes [] = []
names_of_rules nodes (r ∷ rules) = names_bound nodes r.pat ++ names_of_rules nodes rules

-- the names that the matches of a node bind
abbrev pub names_matched : List Node → Node → List ℕ
names_matched nodes (node.Case e rules) = names_of_rules nodes rules
names_matched nodes (node.Fn rules) = names_of_rules nodes rules
names_matched nodes (node.Handle e rules) = names_of_rules nodes rules
names_matched nodes _ = []

-- ---- Contexts

-- a node stands in a context
pub record Inside : Type 0 where
  pub node : ℕ
  pub context : Context

abbrev pub inside : Context → ℕ → Inside
inside c i = record { node = i; context = c }

abbrev pub in_rules : List Node → Context → List Rule → List Inside
in_rules nodes c [] = []
in_rules nodes c (r ∷ rules) = inside c r.pat ∷ inside (with_names (names_bound nodes r.pat) c) r.body ∷ in_rules nodes c rules

abbrev pub in_bindings : Context → List Binding → List Inside
in_bindings c [] = []
in_bindings c (b ∷ bindings) = inside c b.pat ∷ inside c b.right ∷ in_bindings c bindings

-- what the parts of a node stand in, where it stands in a context; but for what stands behind a declaration
abbrev pub parts_in : List Node → Context → Node → List Inside
parts_in nodes c (node.Record fields) = map (λ l. inside c l.node) fields
parts_in nodes c (node.App g a) = inside c g ∷ inside c a ∷ []
parts_in nodes c (node.Case e rules) = inside c e ∷ in_rules nodes c rules
parts_in nodes c (node.Fn rules) = in_rules nodes c rules
parts_in nodes c (node.Raise e) = inside c e ∷ []
parts_in nodes c (node.Handle e rules) = inside c e ∷ in_rules nodes c rules
parts_in nodes c (node.Typed e j) = inside c e ∷ []
parts_in nodes c (node.Let d e) = inside c d ∷ []
parts_in nodes c (node.PatApp k q) = inside c q ∷ []
parts_in nodes c (node.PatRecord fields) = map (λ l. inside c l.node) fields
parts_in nodes c (node.PatTyped q j) = inside c q ∷ []
parts_in nodes c (node.PatAs x q) = inside c q ∷ []
parts_in nodes c (node.Val us bindings) = in_bindings (with_tyvars us c) bindings
parts_in nodes c (node.ValRec us bindings) = map (λ b. inside (with_tyvars us (with_own (group_names bindings) c)) b.right) bindings
parts_in nodes c _ = []

-- what stands behind a declaration
abbrev pub behind : List Node → Context → ℕ → Context
behind nodes c d = with_type_names (made_by (slice_get nodes d)) (with_names (names_bound nodes d) c)

abbrev pub IsOneOf : Inside → List Inside → Type 0
IsOneOf x [] = ⊥
IsOneOf x (y ∷ ys) = (x ≡ y) ⊎ IsOneOf x ys

-- some nodes get their contexts, and those of all others stay
pub record AreEntered (items : List Inside) (old new : ℕ → Option Context) : Type 0 where
  pub kept : (i : ℕ) (c : Context) → old i ≡ Some c → new i ≡ Some c
  pub put : AllByRecursion (λ x. new x.node ≡ Some x.context) items
  pub only : (i : ℕ) (c : Context) → new i ≡ Some c → (old i ≡ Some c) ⊎ IsOneOf (inside c i) items
