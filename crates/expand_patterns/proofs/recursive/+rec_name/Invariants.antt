use Rattle.expand_patterns.proofs.recursive.+rec_name.Given as goal

abbrev pub decreases-rec_name : goal.decreases-rec_name
decreases-rec_name l = l.at
