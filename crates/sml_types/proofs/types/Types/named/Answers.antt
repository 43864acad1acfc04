use Rattle.std.proofs.Common.{◌<◌, length}
use Rattle.sml_types.proofs.FormFacts.{all_map}
use Rattle.sml_types.proofs.types.Types.named.Goals as goal

pub push-requires-clause-parts : goal.push-requires-clause-parts
push-requires-clause-parts c = all_map (λ k. k < length c.args.self.now) (λ t. t.0) c.args.args c.requires.args
