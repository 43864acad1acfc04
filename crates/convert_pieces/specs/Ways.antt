-- A way into a value of which some steps were gone.
use Rattle.std.specs.Prelude.{ℕ, cond, List, [], ◌∷◌, ◌++◌, Option, Some, None, nat_eq, take, drop}
use Rattle.cps_ir.specs.declared.atom.Atom.{Atom}
use Rattle.cps_ir.specs.Code.{Code}
use Rattle.convert_laws.specs.Convert.{Way, picks}

-- the atom of the first step, where it is of this field
abbrev pub stands_in : Way → ℕ → Option Atom
stands_in [] i = None
stands_in (g ∷ gone) i = cond (nat_eq i g.0) (Some g.1) None

-- what is left to be written behind the first steps
abbrev pub going : Way → ℕ → List ℕ → Atom → (Way → Atom → ℕ → Code) → ℕ → Code
going way at path a rest n = picks (drop at way) path a (λ w b m. rest (take at way ++ w) b m) n
