use Rattle.std.proofs.Common.{◌≡◌, suc, ℕ, ◌+◌, ◌∷◌, [], ◌++◌, List, Some, take, ap, ◌∙◌, subst, arith}
use Rattle.std.specs.Prelude.{get_or}
use Rattle.std.proofs.Math.Seq.{take-suc}
use Rattle.sml_tree.specs.declared.bare.Binding.{Binding}
use Rattle.infer_state.specs.Names.{names_bound}
use Rattle.infer_closing.specs.Groups.{of_bindings, together}
use Rattle.infer_closing.specs.Closing.{meaning}
use Rattle.infer_closing.specs.Found.{IsFoundAt}
use Rattle.infer_closing.proofs.FoundFacts.{bindings_end, found_end}
use Rattle.infer_closing.proofs.found.of_bindings.Goals as goal

pub bindings-preserved : goal.bindings-preserved
bindings-preserved c =
    let none : Binding = record { pat = 0; right = 0 } in
    let bs = c.args.bindings.now in
    let i = c.bindings.binding-index in
    let b : Binding = get_or bs i none in
    let u = c.args.unknowns.now in
    let p = c.args.bare.now in
    let next : i + 1 ≡ suc i = omega arith in
    let taken : take (i + 1) bs ≡ take i bs ++ b ∷ [] = ap (λ k. take k bs) next ∙ take-suc bs i none c.bindings-test.true in
    let names = c.from_vec-names.ensures ∙ c.in_ok-pattern_names.ensures in
    found_end p (meaning u) u.types (of_bindings p.nodes (take i bs)) (of_bindings p.nodes (take (i + 1) bs)) c.bindings.groups.items c.push.new.self.items c.in_ok-group.field-0 (Some b.right) (names_bound p.nodes b.pat) c.bindings.invariant (ap (of_bindings p.nodes) taken ∙ bindings_end p.nodes (take i bs) b) c.in_ok-push.ensures.items (c.in_ok-group.ensures.of ∙ ap (λ (xs : List ℕ). together (Some b.right) xs) names) (subst (λ (xs : List ℕ). IsFoundAt p (meaning u) u.types (Some b.right) xs c.in_ok-group.field-0.vars) names c.in_ok-group.ensures.found)
