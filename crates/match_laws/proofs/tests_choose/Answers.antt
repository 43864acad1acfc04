use Rattle.match_laws.proofs.Fits as fits
use Rattle.match_laws.proofs.tests_choose.Goals as goal

pub returns : goal.returns
returns c = record { fit = fits.tests_fit; choose = fits.tests_choose }
