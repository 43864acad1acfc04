use Rattle.std.proofs.Common.{◌+◌, List, sym, subst}
use Rattle.infer_parts.specs.declared.given.Given.{Given}
use Rattle.infer_parts.specs.Copies.{AreGiven, IsClosed, AreCopied}
use Rattle.infer_parts.proofs.InstanceSteps.{news_there, closed_given, fresh_copy}
use Rattle.infer_parts.proofs.InstanceLaw.{instances_always}
use Rattle.infer_parts.proofs.instance.instance.Goals as goal

pub copy-requires-clause-given : goal.copy-requires-clause-given
copy-requires-clause-given c =
    subst (λ (given : List Given). AreGiven c.fresh_vars.new.types given) (sym c.deref.ensures.value) (news_there c.args.next.now c.args.vars.now c.fresh_vars.new.types c.in_ok-given.given.items c.in_ok-given.ensures.ok)

pub copy-requires-clause-closed : goal.copy-requires-clause-closed
copy-requires-clause-closed c =
    subst
    (λ (given : List Given). IsClosed c.fresh_vars.new.types given c.args.from (c.args.body.0 + 1))
    (sym c.deref.ensures.value)
    (closed_given c.args.types.now c.fresh_vars.new.types c.args.next.now c.args.vars.now c.in_ok-given.given.items c.args.from c.args.body.0 c.in_ok-given.ensures.longer c.in_ok-given.ensures.ok c.requires.order c.requires.there c.requires.shared)

pub returns-clause-ok : goal.returns-clause-ok
returns-clause-ok c =
    fresh_copy
    c.args.types.now
    c.fresh_vars.new.types
    c.copy.new.types
    c.args.next.now
    c.args.vars.now
    c.in_ok-given.given.items
    c.args.from
    c.args.body.0
    c.in_ok-copies.copies.items
    c.index.result.now
    c.in_ok-given.ensures.longer
    c.in_ok-given.ensures.ok
    c.requires.order
    c.requires.there
    (subst (λ (given : List Given). AreCopied c.fresh_vars.new.types given c.args.from (c.args.body.0 + 1) c.copy.new.types c.in_ok-copies.copies.items) c.deref.ensures.value c.in_ok-copies.ensures.ok)
    c.index.ensures

pub returns-clause-always : goal.returns-clause-always
returns-clause-always c = instances_always c.args.types.now c.args.next.now c.args.vars.now c.args.body.0 c.copy.new.types c.index.result.now (returns-clause-ok c)

pub returns-in_err-copies-clause-below : goal.returns-in_err-copies-clause-below
returns-in_err-copies-clause-below c i v e = c.in_ok-given.ensures.below i v (c.copy.ensures.vars i v e)

pub returns-clause-below : goal.returns-clause-below
returns-clause-below c i v e = c.in_ok-given.ensures.below i v (c.copy.ensures.vars i v e)
