-- Contraction keeps a program slim.
use Rattle.cps_ir.specs.Code.{Tree}
use Rattle.cps_ir.specs.Slim.{IsSlim}
use Rattle.contract_laws.specs.Law.{with_code}
use Rattle.contract_round.specs.Round.{contracted}
use Rattle.contract_round.specs.Law.{IsWhole}

-- No function holds more than before. A label that goes gives its words to the functions inside it, so site words get no fewer.
abbrev pub ContractedIsSlim : Type 0
ContractedIsSlim = (q : Tree) → IsWhole q.code → IsSlim q → IsSlim (with_code q (contracted q.texts q.code))
