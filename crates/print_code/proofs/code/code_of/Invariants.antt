use Rattle.std.proofs.Common.{◌≡◌, ◌<◌, ◌^◌, ◌∷◌, ◌++◌, drop, pos}
use Rattle.rv_isa.specs.declared.table.Op.TheVariants.{Lui}
use Rattle.rv_isa.specs.Word.{ins}
use Rattle.print_code.specs.Code.{bytes_of, pieces_code}
use Rattle.print_code.specs.Code.{total}
use Rattle.print_code.proofs.code.code_of.Given as goal

abbrev pub invariant-loop-size : goal.invariant-loop-size
invariant-loop-size l = record {
  bytes : l.code.items ++ bytes_of (pieces_code (drop l.size-index l.lengths)) ≡ bytes_of (ins Lui 11 0 0 (pos l.base) ∷ pieces_code l.lengths);
  sizes : total (drop l.size-index l.lengths) < 2 ^ 30;
}
