-- Names and constants.
use Rattle.std.specs.Prelude.{ℕ, Option, Some, None}
use Rattle.lambda_ir.specs.declared.term.Term.{Term}
use Rattle.lambda_ir.specs.declared.term.Term.TheVariants as term
use Rattle.cps_ir.specs.declared.atom.Atom.{Atom}
use Rattle.cps_ir.specs.declared.atom.Constant.TheVariants as constant
use Rattle.cps_ir.specs.Code.{Code, Halt}
use Rattle.convert_laws.specs.Convert.{Scope, Kon, known, apply, con_atom, builtin_atom}

-- what a name or a constant stands for
abbrev pub leaf : Scope → Term → Option Atom
leaf σ (term.Int z) = Some (known (constant.Int z))
leaf σ (term.Char c) = Some (known (constant.Char c))
leaf σ (term.Text t) = Some (known (constant.Text t))
leaf σ (term.Var x) = Some (σ x.0)
leaf σ (term.Constructor c) = Some (con_atom σ c)
leaf σ (term.Builtin f) = Some (builtin_atom f)
leaf σ term.Finish = Some (known constant.Nothing)
leaf σ _ = None

abbrev pub leaf_code : Option Atom → Kon → ℕ → Code
leaf_code (Some a) κ n = apply κ a n
leaf_code None κ n = Halt
