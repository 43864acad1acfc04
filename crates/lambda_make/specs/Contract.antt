-- The program that a typed tree becomes.
use Rattle.std.specs.Prelude.{◌≡◌, ℕ, List}
use Rattle.sml_tree.specs.declared.bare.Bare.{Bare}
use Rattle.sml_types.specs.declared.tables.TypeName.{TypeName}
use Rattle.sml_types.specs.Typing.{Typing, IsTyping}
use Rattle.lambda_ir.specs.Program.{Lambda}
use Rattle.lambda_laws.specs.Keeps.{IsKept, GoesInStep}
use Rattle.lambda_laws.specs.Make.{lambda_of}

-- It is the tree's, term by term, by the tables. Where the tree has a typing it keeps the tree's run, and both go in step.
pub record IsLambdaOf (p : Bare) (tables : List TypeName) (l : Lambda) : Type 0 where
  pub is : l ≡ lambda_of tables p
  pub kept : (t : Typing) → IsTyping p t → IsKept p l
  pub in_step : (t : Typing) → IsTyping p t → (input : List ℕ) → GoesInStep tables p input
