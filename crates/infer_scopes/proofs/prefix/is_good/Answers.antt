use Rattle.std.proofs.Common.{Some, sym, ap, ◌∙◌}
use Rattle.std.proofs.lemmas.Option.{slice_get-get_or}
use Rattle.infer_scopes.proofs.PrefixFacts.{good_past, good_here}
use Rattle.infer_scopes.proofs.prefix.is_good.Goals as goal

pub returns-then-at-count : goal.returns-then-at-count
returns-then-at-count c _ =
    good_past c.args.nodes.now c.args.count c.args.at c.index-nodes-at.result
    (slice_get-get_or c.args.nodes.now c.args.at c.index-nodes-at.result c.requires ∙ ap Some (sym c.index-nodes-at.is))
    c.deref.result.now (c.deref.ensures.value ∙ c.in_ok-parts.ensures) (sym c.are_between.ensures ∙ c.if-not-are_between.false) c.if-at-count.true

pub returns : goal.returns
returns c good =
    good_here c.args.nodes.now c.args.count c.args.at c.index-nodes-at.result
    (slice_get-get_or c.args.nodes.now c.args.at c.index-nodes-at.result c.requires ∙ ap Some (sym c.index-nodes-at.is))
    c.deref.result.now (c.deref.ensures.value ∙ c.in_ok-parts.ensures) (sym c.are_between.ensures ∙ c.if-not-are_between.false)
    c.deref-2.result.now c.deref-3.result.now (c.deref-2.ensures.value ∙ c.in_ok-near.ensures) (sym c.are_below.ensures ∙ c.if-not-are_below.false)
    (c.deref-3.ensures.value ∙ c.in_ok-binding.ensures) (sym c.are_binders.ensures ∙ good)
