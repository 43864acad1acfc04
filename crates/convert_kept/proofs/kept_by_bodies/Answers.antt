use Rattle.convert_kept.proofs.Kept as law
use Rattle.convert_kept.proofs.kept_by_bodies.Goals as goal

pub returns : goal.returns
returns c = law.kept_by_bodies
