use Rattle.sml_fixity.proofs.ReadLemmas.{far_all, far_start, far_more, far_refused, far_mixed, far_end, has_come, next_at, next_end, left_at, end_left, size}
use Rattle.sml_fixity.proofs.read.read.Goals as goal

pub loop-i-init : goal.loop-i-init
loop-i-init c = far_start _ _ c.in_ok-machine.machine c.in_ok-machine.ensures.0 c.in_ok-machine.ensures.1 c.in_ok-machine.ensures.2

pub shift-requires : goal.shift-requires
shift-requires c = has_come _ _ _ _ _ c.loop-i.machine (next_at _ _ _ _ _ c.loop-i-test.true c.terminal_of.ensures) (left_at c.args.names.now _ _) c.loop-i.invariant

pub loop-i-preserved : goal.loop-i-preserved
loop-i-preserved c = far_more _ _ _ _ _ c.loop-i.machine c.shift.new.machine _ (next_at _ _ _ _ _ c.loop-i-test.true c.terminal_of.ensures) (left_at c.args.names.now _ _) c.loop-i.invariant (λ f r b. c.in_ok-shift.ensures f r b) c.in-Shifted.is

pub returns-in-Refused-clause-refused : goal.returns-in-Refused-clause-refused
returns-in-Refused-clause-refused c = far_refused _ _ _ _ _ c.loop-i.machine c.shift.new.machine _ (next_at _ _ _ _ _ c.loop-i-test.true c.terminal_of.ensures) (left_at c.args.names.now _ _) c.loop-i.invariant (λ f r b. c.in_ok-shift.ensures f r b) c.in-Refused.is

pub returns-in-Mixed-clause-refused : goal.returns-in-Mixed-clause-refused
returns-in-Mixed-clause-refused c = far_mixed _ _ _ _ _ c.loop-i.machine c.shift.new.machine _ (next_at _ _ _ _ _ c.loop-i-test.true c.terminal_of.ensures) (left_at c.args.names.now _ _) c.loop-i.invariant (λ f r b. c.in_ok-shift.ensures f r b) c.in-Mixed.is

pub shift-requires-2 : goal.shift-requires-2
shift-requires-2 c = has_come _ _ _ _ _ c.loop-i.machine (next_end c.args.names.now c.args.tokens.now) (end_left c.args.names.now c.args.tokens.now) (far_all _ _ _ _ c.loop-i.machine c.loop-i-test.false c.loop-i.auto.i-end c.loop-i.invariant)

pub returns-in-Shifted-2-clause-tree : goal.returns-in-Shifted-2-clause-tree
returns-in-Shifted-2-clause-tree c = far_end _ _ _ _ c.loop-i.machine c.shift-2.new.machine _ (size c.args.names.now c.args.tokens.now) (next_end c.args.names.now c.args.tokens.now) (end_left c.args.names.now c.args.tokens.now) (far_all _ _ _ _ c.loop-i.machine c.loop-i-test.false c.loop-i.auto.i-end c.loop-i.invariant) (λ f r b. c.in_ok-shift-2.ensures f r b) c.in-Shifted-2.is

pub returns-in-Refused-2-clause-refused : goal.returns-in-Refused-2-clause-refused
returns-in-Refused-2-clause-refused c = far_refused _ _ _ _ _ c.loop-i.machine c.shift-2.new.machine _ (next_end c.args.names.now c.args.tokens.now) (end_left c.args.names.now c.args.tokens.now) (far_all _ _ _ _ c.loop-i.machine c.loop-i-test.false c.loop-i.auto.i-end c.loop-i.invariant) (λ f r b. c.in_ok-shift-2.ensures f r b) c.in-Refused-2.is

pub returns-in-Mixed-2-clause-refused : goal.returns-in-Mixed-2-clause-refused
returns-in-Mixed-2-clause-refused c = far_mixed _ _ _ _ _ c.loop-i.machine c.shift-2.new.machine _ (next_end c.args.names.now c.args.tokens.now) (end_left c.args.names.now c.args.tokens.now) (far_all _ _ _ _ c.loop-i.machine c.loop-i-test.false c.loop-i.auto.i-end c.loop-i.invariant) (λ f r b. c.in_ok-shift-2.ensures f r b) c.in-Mixed-2.is
