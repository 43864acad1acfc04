use Rattle.std.proofs.Common.{◌≡◌, ◌+◌, take}
use Rattle.infer_nodes.specs.Posed.{AreAdded}
use Rattle.infer_nodes.specs.Made.{AreNew}
use Rattle.infer_nodes.proofs.vars.new_vars.Given as goal

abbrev pub invariant-each : goal.invariant-each
invariant-each l = record {
  is : AreNew l.fn.next (take l.var-index l.vars) l.types l.tys.items;
  added : AreAdded l.fn.next l.fn.types l.next l.types;
  raised : l.next ≡ l.fn.next + l.var-index;
}
