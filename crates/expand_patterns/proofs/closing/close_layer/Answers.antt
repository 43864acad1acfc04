use Rattle.std.proofs.Common.{subst}
use Rattle.sml_tree.specs.declared.bare.Node.{Node}
use Rattle.sml_expansion.specs.Forests.{grown}
use Rattle.expand_patterns.specs.Expands.{Expands}
use Rattle.expand_patterns.specs.Opens.{wrapped}
use Rattle.expand_patterns.proofs.Behind.{if_ok, layer_closed}
use Rattle.expand_patterns.proofs.closing.close_layer.Goals as goal

pub returns : goal.returns
returns c =
    let names = c.args.parsed.now.names in
    if_ok c.close.result
    (λ trees h f n before first earlier later o e.
    layer_closed names f c.args.place c.args.ident c.args.name.0 n trees c.value-meaning.result before first c.args.walk.now c.close.new.walk earlier later c.value-meaning.ensures o e
    (subst (λ (m : Node). Expands names (wrapped f (λ s. grown m c.args.place)) trees before c.close.new.walk earlier later) c.layer_node.ensures (h names f n before first earlier later o e)))
    c.close.ensures
