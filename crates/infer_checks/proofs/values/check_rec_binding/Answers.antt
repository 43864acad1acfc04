use Rattle.infer_checks.proofs.values.check_rec_binding.Goals as goal

pub returns : goal.returns
returns c around q = c.in_ok-check_general.ensures around q
