use Rattle.std.proofs.Common.{◌∙◌}
use Rattle.expand_types.proofs.OnceLemmas.{all_keys}
use Rattle.expand_types.proofs.type_variables.new_keys.Goals as goal

pub returns : goal.returns
returns c =
    all_keys _ c.push_each_once.new.seen c.args.bindings.now.tyvars c.new-keys.result.items _ _ c.deref.result.now c.deref-2.result.now _ c.args.occurring.now c.new-keys.ensures.items c.new-seen.ensures c.in_ok-push_each_once.ensures.keys c.in_ok-push_each_once.ensures.seen c.in_ok-push_each_once-2.ensures.keys (c.deref-2.ensures.value ∙ c.in_ok-unbound.ensures) (c.deref.ensures.value ∙ c.in_ok-named.ensures)
