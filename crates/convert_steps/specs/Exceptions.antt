-- Declarations of exception names.
use Rattle.std.specs.Prelude.{ℕ, suc, Bool, List, []}
use Rattle.sml_tree.specs.declared.bare.Con.{Con}
use Rattle.lambda_ir.specs.declared.term.Term.{Term}
use Rattle.cps_ir.specs.declared.atom.Shape.TheVariants as shape
use Rattle.cps_ir.specs.State.{bind}
use Rattle.cps_ir.specs.Code.{Code, Make}
use Rattle.convert_laws.specs.Convert.{Scope, Kon, variable, con_atom}
use Rattle.convert_steps.specs.Codes.{conv}

abbrev pub new_code : (ℕ → Bool) → List Term → ℕ → ℕ → ℕ → Scope → Kon → Code
new_code own terms x body n σ κ = Make n (shape.ExnName x) [] (conv own terms body (bind σ x (variable n)) κ (suc n))

abbrev pub same_code : (ℕ → Bool) → List Term → ℕ → Con → ℕ → ℕ → Scope → Kon → Code
same_code own terms x c body n σ κ = conv own terms body (bind σ x (con_atom σ c)) κ n
