-- The program of `Cps` that one of `Lambda` becomes.
use Rattle.std.specs.Prelude.{ℕ, Bool}
use Rattle.lambda_ir.specs.Program.{Lambda}
use Rattle.cps_ir.specs.Code.{Tree}
use Rattle.convert_laws.specs.Convert.{convert}
use Rattle.convert_laws.specs.Decide.{own_by_16}

-- with any decision which frames have functions of their own
abbrev pub tree_with : (ℕ → Bool) → Lambda → Tree
tree_with own l = record { code = convert own l.terms; sites = l.sites; texts = l.texts; exns = l.exns }

-- by the rule of 16
abbrev pub cps_of : Lambda → Tree
cps_of l = tree_with (own_by_16 l.terms l.sites) l
