use Rattle.sml_derive.proofs.functions.+fn_match.Given as goal

abbrev pub decreases-fn_match : goal.decreases-fn_match
decreases-fn_match l = l.at
