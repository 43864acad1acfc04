-- The names that patterns and declarations bind are names of the program.
use Rattle.std.proofs.Common.{◌≡◌, ℕ, zero, suc, ◌<◌, List, [], ◌∷◌, ◌++◌, Option, Some, None, length, refl}
use Rattle.std.specs.Prelude.{slice_get, flat_map}
use Rattle.std.specs.List.{AllByRecursion}
use Rattle.sml_tree.specs.declared.bare.Bare.{Bare}
use Rattle.sml_tree.specs.declared.bare.Field.{Field}
use Rattle.sml_tree.specs.declared.bare.Binding.{Binding}
use Rattle.sml_tree.specs.declared.bare.RecBinding.{RecBinding}
use Rattle.sml_tree.specs.declared.bare.Node.{Node}
use Rattle.sml_tree.specs.declared.bare.Node.TheVariants as node
use Rattle.sml_tree.specs.BareParts.{at_node, within}
use Rattle.sml_tree.specs.IsBare.{IsBare, Stands}
use Rattle.sml_types.specs.Typing.{group_names}
use Rattle.infer_state.specs.Names.{names_of_fields, names_of_bindings, names_of, names_bound}
use Rattle.infer_parts.proofs.Forms.{at_all}
use Rattle.text_laws.specs.Tells.{shown_names}

module _ (p : Bare) where
  abbrev pub AreNames : List ℕ → Type 0
  AreNames xs = AllByRecursion (λ x. x < length p.names) xs

  both_names : (xs ys : List ℕ) → AreNames xs → AreNames ys → AreNames (xs ++ ys)
  both_names [] ys h k = k
  both_names (x ∷ xs) ys h k = (h.0, both_names xs ys h.1 k)

  flat_names : (f : ℕ → List ℕ) → ((i : ℕ) → AreNames (f i)) → (is : List ℕ) → AreNames (flat_map f is)
  flat_names f each [] = tt
  flat_names f each (i ∷ is) = both_names (f i) (flat_map f is) (each i) (flat_names f each is)

  module _ (f : ℕ → List ℕ) (each : (i : ℕ) → AreNames (f i)) where
    of_fields : (fields : List Field) → AreNames (names_of_fields f fields)
    of_fields [] = tt
    of_fields (l ∷ fields) = both_names (f l.node) (names_of_fields f fields) (each l.node) (of_fields fields)

    of_bindings : (bindings : List Binding) → AreNames (names_of_bindings f bindings)
    of_bindings [] = tt
    of_bindings (b ∷ bindings) = both_names (f b.pat) (names_of_bindings f bindings) (each b.pat) (of_bindings bindings)

    of_group : (bindings : List RecBinding) → AllByRecursion (λ b. b.name.0 < length p.names) bindings → AreNames (group_names bindings)
    of_group [] h = tt
    of_group (b ∷ bindings) h = (h.0, of_group bindings h.1)

    of_node : (i : ℕ) (n : Node) → Stands p n → AreNames (names_of f i n)
    of_node i (node.PatVar x) h = (h, tt)
    of_node i (node.PatApp k q) h = each q
    of_node i (node.PatRecord fields) h = of_fields fields
    of_node i (node.PatTyped q j) h = each q
    of_node i (node.PatAs x q) h = (h, each q)
    of_node i (node.Val us bindings) h = of_bindings bindings
    of_node i (node.ValRec us bindings) h = of_group bindings h.1
    of_node i (node.Exception x arg) h = (h.0, tt)
    of_node i (node.SameException x k) h = (h.0, tt)
    of_node i _ h = tt

    of_number : ((i : ℕ) (n : Node) → slice_get p.nodes i ≡ Some n → Stands p n) → (i : ℕ) (o : Option Node) → slice_get p.nodes i ≡ o → AreNames (at_node [] names_of f i o)
    of_number stand i None e = tt
    of_number stand i (Some n) e = of_node i n (stand i n e)

  names_within : ((i : ℕ) (n : Node) → slice_get p.nodes i ≡ Some n → Stands p n) → (k i : ℕ) → AreNames (within [] names_of k p.nodes i)
  names_within stand zero i = tt
  names_within stand (suc k) i =
      of_number (within [] names_of k p.nodes) (names_within stand k) stand i (slice_get p.nodes i) refl

  pub names_stand : IsBare p → AreNames (shown_names p)
  names_stand bare =
      flat_names (names_bound p.nodes) (names_within (λ i n e. at_all (Stands p) p.nodes i n bare.stands e) (length p.nodes)) p.shown
