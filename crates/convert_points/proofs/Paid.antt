-- The points of a tree's nodes pay for those of the terms that the nodes become.
use Rattle.std.proofs.Common.{◌≡◌, ℕ, ◌+◌, ◌≤◌, true, false, List, [], ◌∷◌, Option, Some, None, map, refl, sym, ap, ◌∙◌, subst, arith}
use Rattle.std.proofs.lemmas.Option.{slice_get-map}
use Rattle.std.specs.Prelude.{slice_get}
use Rattle.std.specs.Option.{option_map}
use Rattle.smlc_base.specs.declared.point.Point.{Point}
use Rattle.sml_tree.specs.declared.bare.Node.{Node}
use Rattle.sml_tree.specs.declared.bare.Node.TheVariants as node
use Rattle.sml_tree.specs.declared.bare.Field.{Field}
use Rattle.sml_tree.specs.declared.bare.Rule.{Rule}
use Rattle.sml_tree.specs.declared.bare.Binding.{Binding}
use Rattle.sml_tree.specs.declared.bare.RecBinding.{RecBinding}
use Rattle.sml_tree.specs.BareParts.{IsNumbered}
use Rattle.sml_types.specs.declared.tables.TypeName.{TypeName}
use Rattle.simulation.proofs.Lists.{some_eq}
use Rattle.lambda_ir.specs.declared.term.Term.{Term}
use Rattle.match_laws.specs.Compile.{cases_of, bind_of}
use Rattle.lambda_laws.specs.Make.{part_of, term_of}
use Rattle.convert_points.specs.Made.{awaited, in_parts, in_cases, in_binds, in_group, in_declared, in_term, ArePaid}
use Rattle.convert_points.proofs.Spots.{of_fields, of_rules, of_rights, of_functions, of_node, of_own, paid_at, declared_at, at_here, declared_here}

module _ (p : Point) (ts : List TypeName) (nodes : List Node) (paid declares : ℕ → ℕ) where
  fields_same : (fields : List Field) → in_parts p paid (map part_of fields) ≡ of_fields p paid declares fields
  fields_same [] = refl
  fields_same (f ∷ fields) = ap (λ m. awaited p paid f.node + m) (fields_same fields)

  rules_same : (rules : List Rule) → in_cases p paid (cases_of ts nodes rules) ≡ of_rules p paid declares rules
  rules_same [] = refl
  rules_same (r ∷ rules) = ap (λ m. paid r.body + m) (rules_same rules)

  binds_same : (bindings : List Binding) → in_binds p paid (map (bind_of ts nodes) bindings) ≡ of_rights p paid declares bindings
  binds_same [] = refl
  binds_same (b ∷ bindings) = ap (λ m. awaited p paid b.right + m) (binds_same bindings)

  group_same : (bindings : List RecBinding) → in_group p paid bindings ≡ of_functions p paid declares bindings
  group_same [] = refl
  group_same (b ∷ bindings) = ap (λ m. paid b.right + m) (group_same bindings)

  node_declares : (d : ℕ) (n : Node) → in_declared p paid (Some (term_of ts nodes n)) ≤ of_own p d n + of_node p paid declares true n
  node_declares d (node.Val tyvars bindings) = let same = binds_same bindings in omega (arith, same)
  node_declares d (node.ValRec tyvars bindings) = let same = group_same bindings in omega (arith, same)
  node_declares d _ = omega arith

  node_pays : (i : ℕ) (n : Node) (terms : List Term) → ((d : ℕ) → in_declared p paid (slice_get terms d) ≤ declares d) → in_term p paid terms i (term_of ts nodes n) ≤ of_own p i n + of_node p paid declares false n
  node_pays i (node.Record fields) terms h = let same = fields_same fields in omega (arith, same)
  node_pays i (node.App f a) terms h = omega arith
  node_pays i (node.Case e rules) terms h = let same = rules_same rules in omega (arith, same)
  node_pays i (node.Fn rules) terms h = let same = rules_same rules in omega (arith, same)
  node_pays i (node.Raise e) terms h = omega arith
  node_pays i (node.Handle e rules) terms h = let same = rules_same rules in omega (arith, same)
  node_pays i (node.Typed e ty) terms h = omega arith
  node_pays i (node.Let d e) terms h = let of_d = h d in omega (arith, of_d)
  node_pays i _ terms h = omega arith

module _ (p : Point) (ts : List TypeName) (nodes : List Node) (numbered : IsNumbered nodes) where
  abbrev terms : List Term
  terms = map (term_of ts nodes) nodes

  abbrev paid : ℕ → ℕ
  paid = paid_at p nodes numbered

  abbrev declares : ℕ → ℕ
  declares = declared_at p nodes numbered

  declaration_pays : (d : ℕ) → in_declared p paid (slice_get terms d) ≤ declares d
  declaration_pays d =
      subst (λ o. in_declared p paid o ≤ declares d) (sym (slice_get-map (term_of ts nodes) nodes d)) (go (slice_get nodes d) refl)
    where
      go : (o : Option Node) → slice_get nodes d ≡ o → in_declared p paid (option_map (term_of ts nodes) o) ≤ declares d
      go None is = omega arith
      go (Some n) is =
          let here = declared_here p nodes numbered d n is in
          let most = node_declares p ts nodes paid declares d n in
          omega (arith, here, most)

  pub terms_are_paid : ArePaid p paid terms
  terms_are_paid i t here = go (slice_get nodes i) refl (sym (slice_get-map (term_of ts nodes) nodes i) ∙ here)
    where
      go : (o : Option Node) → slice_get nodes i ≡ o → option_map (term_of ts nodes) o ≡ Some t → in_term p paid terms i t ≤ paid i
      go None is e = absurd cc
      go (Some n) is e =
          let own = at_here p nodes numbered i n is in
          let most = node_pays p ts nodes paid declares i n terms declaration_pays in
          some_eq (λ u. in_term p paid terms i u ≤ paid i) (term_of ts nodes n) t e (omega (arith, own, most))
