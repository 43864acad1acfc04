use Rattle.std.proofs.Common.{◌≡◌, length}
use Rattle.infer_nodes.specs.Records.{AreInRow}
use Rattle.infer_nodes.proofs.annotated.explicit_tys.Given as goal

abbrev pub invariant-vars : goal.invariant-vars
invariant-vars l = record {
  count : length l.tys.items ≡ l.var;
  row : AreInRow l.starts.explicit l.tys.items;
}
