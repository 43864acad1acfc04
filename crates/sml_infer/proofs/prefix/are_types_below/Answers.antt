use Rattle.std.proofs.Common.{List, take, ap}
use Rattle.sml_tree.specs.declared.bare.Node.{Node}
use Rattle.sml_infer.proofs.PrefixFacts.{types_below}
use Rattle.sml_infer.proofs.prefix.are_types_below.Goals as goal

pub returns : goal.returns
returns c below = types_below c.args.bare.now c.args.limit c.args.count _ (ap (λ (nodes : List Node). take c.args.count nodes) c.items.ensures) (c.are_all_below.ensures below)
