use Rattle.std.proofs.Common.{◌≡◌, refl, rules, arith, sym, ap, ◌∙◌, subst}
use Rattle.std.proofs.lemmas.Result.{on_ok_weaker}
use Rattle.sml_expansion.specs.Bindings.{datatypes}
use Rattle.sml_expansion.specs.Scopes.{scope_of}
use Rattle.sml_expansion.specs.Sources.{node_at}
use Rattle.sml_expansion.specs.declared.scope.Bindings.{Bindings}
use Rattle.sml_tree.specs.Parts.{parts_of}
use Rattle.sml_tree.specs.declared.tree_node.TreeNode.TheVariants as node
use Rattle.expand_types.specs.Effects.{datatypes_shown, datatypes_behind}
use Rattle.expand_types.proofs.DatatypeLemmas.{assoc}
use Rattle.expand_types.proofs.SpineLemmas.{left_on, left_end, Does, Left}
use Rattle.expand_types.proofs.datatypes.+push_datatypes.Goals as goal

pub loop-first-preserved : goal.loop-first-preserved
loop-first-preserved t c =
    let src = c.args.parsed.now in
    let is : node.MoreDatBinds ≡ node_at src c.loop-first.rest = search rules in
    let below = c.two-first.ensures.below (ap parts_of (sym is)) in
    let step = c.in_ok-push_datatypes.ensures in
    let new = c.push_datatypes.new in
    let s = scope_of src.names c.args.bindings.now in (
      omega (arith, below.1, c.loop-first.invariant.0),
      step.kept ∙ c.loop-first.invariant.1,
      subst (λ q. Left src (datatypes s) datatypes_behind c.args.first_name c.args.at c.args.made.now (datatypes_shown c.args.done.now) q c.two-first.result.1 new.made (datatypes_shown new.done)) (sym c.in_ok-type_name.ensures)
          (left_on src (datatypes s) datatypes_behind datatypes_behind assoc node.MoreDatBinds refl (λ k p a b m. refl) c.args.first_name c.args.at c.loop-first.type_name c.loop-first.rest c.two-first.result.0 c.two-first.result.1 _ _ _ _ _ _ c.loop-first.invariant.2 is c.two-first.ensures.parts
          (subst (λ (b : Bindings). Does src (datatypes (scope_of src.names b)) datatypes_behind c.loop-first.type_name c.two-first.result.0 c.loop-first.made (datatypes_shown c.loop-first.done) new.made (datatypes_shown new.done)) c.loop-first.invariant.1 step.done)),
    )

pub returns : goal.returns
returns t c =
    let src = c.args.parsed.now in
    let left = c.push_datatype in
    record {
      kept = on_ok_weaker left.result (λ h. h ∙ c.loop-first.invariant.1) left.ensures.kept;
      done = on_ok_weaker left.result (λ h. left_end src (datatypes (scope_of src.names c.args.bindings.now)) datatypes_behind c.args.first_name c.args.at c.loop-first.type_name c.loop-first.rest _ _ _ _ _ _ c.loop-first.invariant.2
          (subst (λ (b : Bindings). Does src (datatypes (scope_of src.names b)) datatypes_behind c.loop-first.type_name c.loop-first.rest c.loop-first.made (datatypes_shown c.loop-first.done) left.new.made (datatypes_shown left.new.done)) c.loop-first.invariant.1 h)) left.ensures.done;
    }
