use Rattle.std.proofs.Common.{subst}
use Rattle.smlc_base.specs.declared.place.Place.{Place}
use Rattle.sml_tree.specs.declared.tree_node.TreeNode.TheVariants as node
use Rattle.sml_expansion.specs.Patterns.{patterns}
use Rattle.sml_expansion.specs.Terms.{two}
use Rattle.expand_patterns.specs.Expands.{Expands}
use Rattle.expand_patterns.proofs.Behind.{if_ok}
use Rattle.expand_patterns.proofs.heads.infix_argument.Goals as goal

pub returns : goal.returns
returns c =
    let names = c.args.parsed.now.names in
    if_ok c.tuple.result
    (λ trees h a b i j. subst (λ (q : Place). Expands names (λ m. patterns m (two node.PatTuple q a b)) trees c.args.walk.now c.tuple.new.walk c.args.bound.now.items c.tuple.new.bound.items) (c.place.ensures a i) (h a b i j))
    c.tuple.ensures
