use Rattle.place_laws.proofs.Bounds.{right_code, few_make_none, few_vars}
use Rattle.place_laws.proofs.few_registers.Goals as goal

pub returns-clause-registers : goal.returns-clause-registers
returns-clause-registers c at code = right_code at code

pub returns-clause-live : goal.returns-clause-live
returns-clause-live c f o h = few_make_none f o h

pub returns-clause-variables : goal.returns-clause-variables
returns-clause-variables c vars f l o v = few_make_none f o (few_vars 20 vars f.code l v)
