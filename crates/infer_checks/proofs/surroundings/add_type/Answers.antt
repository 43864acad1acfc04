use Rattle.std.proofs.Common.{rules}
use Rattle.infer_checks.proofs.AroundFacts.{name_lists}
use Rattle.infer_checks.proofs.surroundings.add_type.Goals as goal

pub returns-clause-lists : goal.returns-clause-lists
returns-clause-lists c = (
  c.in_ok-more.more.items,
  search rules,
  name_lists c.args.bare.now c.args.unknowns.now c.args.starts.now c.args.renames.now c.args.name c.in_ok-ty.ty.0 c.in_ok-more.more.items c.forms.ensures.kept.numbered c.requires.laid c.in_ok-ty.ensures.0 c.in_ok-ty.ensures.1 c.in_ok-more.ensures,
)
