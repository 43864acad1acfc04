-- What is asked of what is known of a program.
use Rattle.std.specs.Prelude.{List}
use Rattle.lambda_ir.specs.declared.term.Term.{Term}
use Rattle.convert_laws.specs.Facts.{AreNumbered}
use Rattle.convert_decide.specs.declared.table.Fact.{Fact}
use Rattle.convert_decide.specs.Table.{AreFacts}

pub record IsKnown (terms : List Term) (facts : List Fact) : Type 0 where
  pub numbered : AreNumbered terms
  pub facts_are : AreFacts terms facts
