use Rattle.std.proofs.Common.{◌≡◌, ◌+◌, ◌++◌, ◌∷◌, [], List, take, sym, subst, arith}
use Rattle.sml_types.specs.declared.types.Ty.{Ty}
use Rattle.infer_nodes.specs.Made.{AreNew}
use Rattle.infer_nodes.proofs.Added.{added_both}
use Rattle.infer_nodes.proofs.Making.{new_more}
use Rattle.infer_nodes.proofs.vars.new_vars.Goals as goal

pub each-preserved : goal.each-preserved
each-preserved c =
    record {
      is =
          subst
          (λ (ts : List Ty). AreNew c.args.next.now (take (c.each.var-index + 1) c.args.vars.now) c.new_like.new.types ts)
          (sym c.in_ok-push.ensures.items)
          (new_more c.args.next.now c.each.next c.args.vars.now c.each.var-index _ c.each.types c.new_like.new.types c.each.tys.items c.in_ok-ty.ty c.each-test.true c.each.invariant.raised c.in_ok-ty.ensures.added.longer c.each.invariant.is c.in_ok-ty.ensures.is);
      added = added_both c.args.next.now c.each.next c.new_like.new.next c.args.types.now c.each.types c.new_like.new.types c.each.invariant.added c.in_ok-ty.ensures.added;
      raised = (let a = c.each.invariant.raised in let b = c.in_ok-ty.ensures.raised in omega arith);
    }
