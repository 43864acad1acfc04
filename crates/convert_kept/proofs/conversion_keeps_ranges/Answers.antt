use Rattle.convert_kept.proofs.Kept as law
use Rattle.convert_kept.proofs.conversion_keeps_ranges.Goals as goal

pub returns : goal.returns
returns c = law.conversion_keeps_ranges
