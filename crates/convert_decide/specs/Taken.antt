-- The written tuple that a term takes apart, by what is known of its parts.
use Rattle.std.specs.Prelude.{ℕ, Bool, false, cond, ◌&&◌, List, Option, Some, None, nat_eq}
use Rattle.lambda_ir.specs.declared.term.Term.{Term}
use Rattle.lambda_ir.specs.declared.term.Term.TheVariants as term
use Rattle.convert_laws.specs.Needs.{takes_several}
use Rattle.convert_decide.specs.declared.table.Fact.{Fact}
use Rattle.convert_decide.specs.Table.{fact_in}

abbrev pub taken_by : List Fact → Term → Option ℕ
taken_by facts (term.App f a) =
    cond (takes_several (fact_in facts f).head && (fact_in facts a).is_tuple) (Some a) None
taken_by facts _ = None

abbrev pub marked : Option ℕ → ℕ → Bool
marked (Some a) j = nat_eq a j
marked None j = false
