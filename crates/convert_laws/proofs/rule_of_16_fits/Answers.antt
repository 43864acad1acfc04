use Rattle.convert_laws.proofs.Fits as fits
use Rattle.convert_laws.proofs.rule_of_16_fits.Goals as goal

pub returns : goal.returns
returns c = fits.rule_of_16_fits
