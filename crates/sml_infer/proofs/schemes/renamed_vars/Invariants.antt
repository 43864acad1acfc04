use Rattle.std.proofs.Common.{◌≡◌, ◌++◌, drop, map}
use Rattle.sml_infer.specs.Schemes.{var_renamed}
use Rattle.sml_infer.proofs.schemes.renamed_vars.Given as goal

abbrev pub invariant-each : goal.invariant-each
invariant-each l = l.made ++ map (λ v. var_renamed l.renames v) (drop l.var-index l.vars) ≡ map (λ v. var_renamed l.renames v) l.vars
