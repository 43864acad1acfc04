use Rattle.expand_types.proofs.annotations.+annotations.Given as goal

abbrev pub decreases-annotations : goal.decreases-annotations
decreases-annotations l = l.at
