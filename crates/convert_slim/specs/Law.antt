-- What a tree becomes is slim.
use Rattle.std.specs.Prelude.{List}
use Rattle.sml_tree.specs.declared.bare.Bare.{Bare}
use Rattle.sml_tree.specs.IsBare.{IsBare}
use Rattle.sml_types.specs.declared.tables.TypeName.{TypeName}
use Rattle.lambda_laws.specs.Make.{lambda_of}
use Rattle.cps_ir.specs.Slim.{IsSlim}
use Rattle.convert_laws.specs.Program.{cps_of}
use Rattle.contract_laws.specs.Law.{with_code}
use Rattle.contract_round.specs.Round.{contracted}

-- behind conversion
abbrev pub ConvertedIsSlim : Type 0
ConvertedIsSlim = (ts : List TypeName) (p : Bare) → IsBare p → IsSlim (cps_of (lambda_of ts p))

-- and behind contraction
abbrev pub MiddleIsSlim : Type 0
MiddleIsSlim =
    (ts : List TypeName) (p : Bare) → IsBare p → IsSlim (with_code (cps_of (lambda_of ts p)) (contracted p.texts (cps_of (lambda_of ts p)).code))
