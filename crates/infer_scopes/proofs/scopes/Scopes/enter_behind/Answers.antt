use Rattle.std.proofs.Common.{◌≡◌, true, List, sym, ap, ◌∙◌, subst}
use Rattle.std.specs.Prelude.{slice_get}
use Rattle.sml_tree.specs.declared.bare.Node.{Node}
use Rattle.sml_types.specs.Poly.{is_in}
use Rattle.sml_types.specs.Typing.{made_by}
use Rattle.infer_scopes.proofs.ScopeFacts.{if_ok}
use Rattle.infer_scopes.proofs.StepFacts.{all_listed, body_gives}
use Rattle.infer_scopes.proofs.scopes.Scopes.enter_behind.Goals as goal

pub grow-requires-clause-among : goal.grow-requires-clause-among
grow-requires-clause-among c x h =
    subst (λ l. is_in l x ≡ true) (c.deref.ensures.value ∙ sym c.deref-3.ensures.value) (all_listed c.deref.result.now c.args.unclosed.now (sym c.are_among.ensures ∙ c.if-not-are_among.false) x h)

pub returns : goal.returns
returns c =
    if_ok c.put.result _ _ (λ u h. body_gives c.args.bare.now.nodes c.args.dec c.args.body _ _ c.args.unclosed.now c.args.scope c.in_ok-inner.inner c.args.self.now c.grow.new.self c.put.new.self (c.deref-3.ensures.value ∙ c.in_ok-names.ensures) (c.deref-2.ensures.value ∙ c.in_ok-made.ensures ∙ ap (λ (ns : List Node). made_by (slice_get ns c.args.dec)) c.items.ensures) c.in_ok-inner.ensures.entered c.in_ok-inner.ensures.stands h) c.put.ensures
