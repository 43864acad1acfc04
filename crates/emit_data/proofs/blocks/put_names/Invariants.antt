use Rattle.std.proofs.Common.{◌≡◌, ◌+◌, ◌++◌, drop, get_or}
use Rattle.emit_data.specs.Blocks.{names_from}
use Rattle.emit_data.proofs.blocks.put_names.Given as goal

abbrev pub invariant-loop-exn : goal.invariant-loop-exn
invariant-loop-exn l = record {
  numbered : l.label ≡ l.first + l.exn-index;
  whole : l.bytes.items ++ names_from (λ k. get_or l.at k 0) l.label (drop l.exn-index l.exns) ≡ l.fn.bytes.items ++ names_from (λ k. get_or l.at k 0) l.first l.exns;
}
