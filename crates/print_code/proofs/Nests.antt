-- the nest of declarations, and what nodes are made of
use Rattle.std.proofs.Common.{◌≡◌, ℕ, ◌<◌, [], ◌∷◌, Option, Some, None, Bool, true, false, length, refl, sym, ◌∙◌}
use Rattle.std.specs.Prelude.{slice_get}
use Rattle.std.specs.List.{AllByRecursion}
use Rattle.smlc_base.specs.declared.primitive.Primitive.TheVariants.{Print}
use Rattle.sml_tree.specs.declared.bare.Bare.{Bare}
use Rattle.sml_tree.specs.declared.bare.Binding.{Binding}
use Rattle.sml_tree.specs.declared.bare.Node.{Node}
use Rattle.sml_tree.specs.declared.bare.Node.TheVariants as node
use Rattle.sml_tree.specs.BareParts.{node_parts, at_node, from_parts}
use Rattle.sml_tree.specs.IsBare.{IsBare, nest_of}
use Rattle.sml_tree.proofs.Unfold.{by_parts}
use Rattle.print_code.specs.declared.plain.Parts.{Parts}
use Rattle.print_code.specs.Reading.{only_binding, is_wild, is_print, applied, declared_in, text_number, IsNest}

-- ---- what a node is, from what it is made of

pub only_binding-is : (o : Option Node) (b : Binding) → only_binding o ≡ Some b → o ≡ Some (node.Val [] (b ∷ []))
only_binding-is (Some (node.Val [] (x ∷ []))) b h = cc
only_binding-is o b h = absurd (cc)

pub is_wild-is : (o : Option Node) → is_wild o ≡ true → o ≡ Some node.Wild
is_wild-is (Some node.Wild) h = refl
is_wild-is o h = absurd (cc)

pub is_print-is : (o : Option Node) → is_print o ≡ true → o ≡ Some (node.Builtin Print)
is_print-is (Some (node.Builtin Print)) h = refl
is_print-is o h = absurd (cc)

pub applied-is : (o : Option Node) (x : Parts) → applied o ≡ Some x → o ≡ Some (node.App x.first x.second)
applied-is (Some (node.App f a)) x h = cc
applied-is o x h = absurd (cc)

pub declared_in-is : (o : Option Node) (x : Parts) → declared_in o ≡ Some x → o ≡ Some (node.Let x.first x.second)
declared_in-is (Some (node.Let d e)) x h = cc
declared_in-is o x h = absurd (cc)

pub text_number-is : (o : Option Node) (n : ℕ) → text_number o ≡ Some n → o ≡ Some (node.Text n)
text_number-is (Some (node.Text t)) n h = cc
text_number-is o n h = absurd (cc)

-- ---- the nest

nest_by_parts : (f g : ℕ → Bool) (i : ℕ) (n : Node) → AllByRecursion (λ c. f c ≡ g c) (node_parts n) → nest_of f i n ≡ nest_of g i n
nest_by_parts f g i (node.Let d e) h = h.1.0
nest_by_parts f g i n h = refl

module _ (p : Bare) (is : IsBare p) (i : ℕ) (nest : IsNest p i) where
  at_here : at_node false nest_of (from_parts false nest_of p.nodes) i (slice_get p.nodes i) ≡ true
  at_here = sym (by_parts false nest_of (λ x y. x ≡ y) refl nest_by_parts p.nodes is.numbered i) ∙ nest

  -- where no declaration stands, the program ends
  pub nest_ends : declared_in (slice_get p.nodes i) ≡ None → slice_get p.nodes i ≡ Some node.Finish
  nest_ends = go (slice_get p.nodes i) at_here
    where
      go : (o : Option Node) → at_node false nest_of (from_parts false nest_of p.nodes) i o ≡ true → declared_in o ≡ None → o ≡ Some node.Finish
      go (Some node.Finish) h e = refl
      go (Some (node.Let d rest)) h e = absurd (cc)
      go o h e = absurd (cc)

  -- behind a declaration it goes on
  pub nest_behind : (d rest : ℕ) → slice_get p.nodes i ≡ Some (node.Let d rest) → IsNest p rest
  nest_behind d rest e = rw e at at_here

  pub parts_of_let : (d rest : ℕ) → slice_get p.nodes i ≡ Some (node.Let d rest) → (d < length p.nodes) × (i < rest) × (rest < length p.nodes)
  parts_of_let d rest e = let h = is.numbered i (node.Let d rest) e in (h.0.1, h.1.0.0, h.1.0.1)
