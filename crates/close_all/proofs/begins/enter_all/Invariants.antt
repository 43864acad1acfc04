use Rattle.std.proofs.Common.{◌≡◌, map, drop}
use Rattle.std.specs.Borrow.{Bor}
use Rattle.cps_ir.specs.declared.body.Function.{Function}
use Rattle.close_seen.specs.Seen.{enter_all}
use Rattle.close_all.specs.Begins.{AllStand, all_visible}
use Rattle.close_all.proofs.begins.enter_all.Given as goal

abbrev pub invariant-loop-function : goal.invariant-loop-function
invariant-loop-function l = record {
  stand : AllStand l.scopes l.begins.items;
  seen : enter_all l.decisions (all_visible l.scopes l.begins.items) (map (λ (f : Bor Function). f.now) (drop l.function-index l.functions)) ≡ enter_all l.decisions (all_visible l.fn.scopes l.fn.begins.items) (map (λ (f : Bor Function). f.now) l.functions);
}
