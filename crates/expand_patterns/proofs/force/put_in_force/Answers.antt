use Rattle.std.proofs.Common.{◌≤◌, length, sym, ◌∙◌, arith}
use Rattle.std.proofs.lemmas.List.{at_drop_all}
use Rattle.expand_patterns.proofs.Forced.{forced, forced_scope}
use Rattle.expand_patterns.proofs.force.put_in_force.Goals as goal

pub returns-clause-scope : goal.returns-clause-scope
returns-clause-scope c names =
    let l = c.loop-variable in
    let done : length c.args.bound.now ≤ l.variable-index = omega arith in
    forced_scope names c.args.bound.now c.args.walk.now.bindings l.walk.bindings (sym (at_drop_all (λ vars. forced vars l.walk.bindings.values) c.args.bound.now l.variable-index done) ∙ l.invariant.0) l.invariant.1 l.invariant.2
