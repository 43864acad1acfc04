use Rattle.std.proofs.Common.{◌≡◌, refl, rules, arith, sym, ap, ◌∙◌, subst}
use Rattle.std.proofs.lemmas.Result.{on_ok_weaker}
use Rattle.sml_expansion.specs.Scopes.{scope_of}
use Rattle.sml_expansion.specs.Sources.{node_at}
use Rattle.sml_expansion.specs.declared.scope.Bindings.{Bindings}
use Rattle.sml_tree.specs.Parts.{parts_of}
use Rattle.sml_tree.specs.declared.tree_node.TreeNode.TheVariants as node
use Rattle.sml_expansion.specs.Bindings.{exceptions}
use Rattle.expand_types.specs.Effects.{exceptions_so_far, exceptions_behind}
use Rattle.expand_types.proofs.ExceptionLemmas.{assoc, joined}
use Rattle.expand_types.proofs.SpineLemmas.{left_on, left_end, Does}
use Rattle.expand_types.proofs.exceptions.+push_exceptions.Goals as goal

pub loop-first-preserved : goal.loop-first-preserved
loop-first-preserved t c =
    let src = c.args.parsed.now in
    let is : node.MoreExBinds ≡ node_at src c.loop-first.rest = search rules in
    let below = c.two-first.ensures.below (ap parts_of (sym is)) in
    let step = c.in_ok-push_exceptions.ensures in
    let new = c.push_exceptions.new in (
      omega (arith, below.1, c.loop-first.invariant.0),
      step.kept ∙ c.loop-first.invariant.1,
      left_on src (λ k. exceptions (scope_of src.names c.args.walk.now.bindings) c.args.place) exceptions_behind joined assoc node.MoreExBinds refl (λ k p a b m. refl) 0 c.args.at 0 c.loop-first.rest c.two-first.result.0 c.two-first.result.1 _ _ _ _ _ _ c.loop-first.invariant.2 is c.two-first.ensures.parts
          (subst (λ (b : Bindings). Does src (λ k. exceptions (scope_of src.names b) c.args.place) exceptions_behind 0 c.two-first.result.0 c.loop-first.walk.made (exceptions_so_far c.loop-first.walk c.loop-first.done) new.walk.made (exceptions_so_far new.walk new.done)) c.loop-first.invariant.1 step.done),
    )

pub returns : goal.returns
returns t c =
    let src = c.args.parsed.now in
    let left = c.push_exception in
    record {
      kept = on_ok_weaker left.result (λ h. h ∙ c.loop-first.invariant.1) left.ensures.kept;
      done = on_ok_weaker left.result (λ h. left_end src (λ k. exceptions (scope_of src.names c.args.walk.now.bindings) c.args.place) exceptions_behind 0 c.args.at 0 c.loop-first.rest _ _ _ _ _ _ c.loop-first.invariant.2
          (subst (λ (b : Bindings). Does src (λ k. exceptions (scope_of src.names b) c.args.place) exceptions_behind 0 c.loop-first.rest c.loop-first.walk.made (exceptions_so_far c.loop-first.walk c.loop-first.done) left.new.walk.made (exceptions_so_far left.new.walk left.new.done)) c.loop-first.invariant.1 h)) left.ensures.done;
    }
