-- What holds of settled schemes under a substitution.
use Rattle.std.specs.Prelude.{◌≡◌, ℕ, true, Option, Some, List}
use Rattle.sml_types.specs.declared.tables.TypeName.{TypeName}
use Rattle.sml_types.specs.Tree.{Tree, admits, AllVars}
use Rattle.sml_types.specs.Poly.{Poly, has_num}
use Rattle.sml_types.specs.Typing.{IsAmong}
use Rattle.sml_unify.specs.Solved.{Substitution}

-- a substitution keeps the marks of the variables in a type
abbrev pub KeepsMarks : List TypeName → Substitution → Tree → Type 0
KeepsMarks names f t = AllVars (λ v. v.eq ≡ true → admits names (f v) ≡ true) t

-- one number has one variable in a scheme
abbrev pub AreNamedOnce : Poly → Type 0
AreNamedOnce s = AllVars (λ v. has_num s.vars v.num ≡ true → IsAmong v s.vars) s.body

abbrev pub EachSettled : (Poly → Type 0) → (ℕ → Option Poly) → Type 0
EachSettled P settled = (x : ℕ) (s : Poly) → settled x ≡ Some s → P s
