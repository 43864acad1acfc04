use Rattle.std.proofs.Common.{◌≡◌, ◌++◌, map, take}
use Rattle.expand_types.specs.declared.datatypes.NewConstructor.{NewConstructor}
use Rattle.expand_types.proofs.datatypes.push_idents.Given as goal

abbrev pub invariant-loop-con : goal.invariant-loop-con
invariant-loop-con l = l.idents ≡ l.fn.idents ++ map (λ (c : NewConstructor). c.ident) (take l.con-index l.cons)
