use Rattle.routine_laws.proofs.Soon.{concat_soon, print_soon, compare_soon, uncaught_soon}
use Rattle.routine_laws.proofs.routines_are_soon_done.Goals as goal

pub returns-clause-concat : goal.returns-clause-concat
returns-clause-concat c us bs = concat_soon us bs

pub returns-clause-print : goal.returns-clause-print
returns-clause-print c bs = print_soon bs

pub returns-clause-compare : goal.returns-clause-compare
returns-clause-compare c us = compare_soon us

pub returns-clause-uncaught : goal.returns-clause-uncaught
returns-clause-uncaught c name = uncaught_soon name
