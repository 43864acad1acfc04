use Rattle.emit_code.proofs.constants.+load_long.Given as goal

abbrev pub decreases-load_long : goal.decreases-load_long
decreases-load_long l = l.levels
