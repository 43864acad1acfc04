-- What the passes of the middle make of a typed tree.
use Rattle.std.specs.Prelude.{List}
use Rattle.sml_tree.specs.declared.bare.Bare.{Bare}
use Rattle.sml_types.specs.declared.tables.TypeName.{TypeName}
use Rattle.lambda_laws.specs.Make.{lambda_of}
use Rattle.cps_ir.specs.Code.{Tree}
use Rattle.convert_laws.specs.Program.{cps_of}
use Rattle.contract_laws.specs.Law.{with_code}
use Rattle.contract_round.specs.Round.{contracted}

abbrev pub contracted_tree : Tree → Tree
contracted_tree q = with_code q (contracted q.texts q.code)

-- in continuation-passing style, with nothing left to contract
abbrev pub middle_of : List TypeName → Bare → Tree
middle_of names p = contracted_tree (cps_of (lambda_of names p))
