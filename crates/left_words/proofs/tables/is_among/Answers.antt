use Rattle.std.proofs.Common.{◌∙◌, ap}
use Rattle.sml_tree.specs.Sets.{has}
use Rattle.variable_users.proofs.Putting.{member}
use Rattle.left_words.proofs.tables.is_among.Goals as goal

pub returns : goal.returns
returns c = c.contains.ensures ∙ member c.rank-rank.result c.args.ranks.now.keys ∙ ap (has c.args.ranks.now.keys) c.rank-rank.ensures
