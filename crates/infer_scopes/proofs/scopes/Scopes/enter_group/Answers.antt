use Rattle.std.proofs.Common.{◌≡◌, ◌∙◌}
use Rattle.sml_types.specs.Typing.{group_names}
use Rattle.infer_scopes.proofs.ScopeFacts.{if_ok, group_map, group_gives}
use Rattle.infer_scopes.proofs.scopes.Scopes.enter_group.Goals as goal

pub returns : goal.returns
returns c =
    let is : c.in_ok-names.names.items ≡ group_names c.args.bindings.now = c.in_ok-names.ensures ∙ group_map c.args.bindings.now in
    if_ok c.enter_rights.result _ _ (λ u h. group_gives c.args.bindings.now c.args.scope c.in_ok-inner.inner c.args.self.now c.grow.new.self c.enter_rights.new.self c.args.tyvars.now _ _ _ (c.deref.ensures.value ∙ is) (c.deref-2.ensures.value ∙ is) (c.deref-3.ensures.value ∙ is) c.in_ok-inner.ensures.entered c.in_ok-inner.ensures.stands h) c.enter_rights.ensures
