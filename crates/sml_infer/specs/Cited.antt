-- Which type bindings a written type cites.
use Rattle.std.specs.Prelude.{ℕ, Bool, true, nat_lt}
use Rattle.sml_tree.specs.declared.bare.TypeExp.{TypeExp}
use Rattle.sml_tree.specs.declared.bare.TypeExp.TheVariants as exp

-- a written type itself cites no type binding, or one below a number
abbrev pub cites_below : ℕ → TypeExp → Bool
cites_below count (exp.Abbreviation k args) = nat_lt k count
cites_below count _ = true
