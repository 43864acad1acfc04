use Rattle.std.proofs.Common.{◌≡◌, ◌++◌, ◌≤◌, length, drop}
use Rattle.close_scopes.specs.Scopes.{Grows}
use Rattle.close_steps.specs.Visible.{visible}
use Rattle.close_bodies.specs.Bodies.{binds_lowered, seen_at_end}
use Rattle.close_bodies.proofs.body.lower_binds.Given as goal

abbrev pub invariant-loop-bind : goal.invariant-loop-bind
invariant-loop-bind l = record {
  grown : Grows l.fn.scopes l.scopes;
  variables : l.environment.variables.innermost ≤ length l.scopes;
  records : l.environment.records.innermost ≤ length l.scopes;
  seen : seen_at_end l.decisions (visible l.scopes l.environment) (drop l.bind-index l.all) ≡ seen_at_end l.decisions (visible l.fn.scopes l.fn.environment) l.all;
  binds : l.binds ++ binds_lowered l.decisions (visible l.scopes l.environment) (drop l.bind-index l.all) ≡ binds_lowered l.decisions (visible l.fn.scopes l.fn.environment) l.all;
}
