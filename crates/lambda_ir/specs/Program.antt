-- A program of `Lambda`.
use Rattle.std.specs.Prelude.{ℕ, List}
use Rattle.smlc_base.specs.declared.point.Site.{Site}
use Rattle.lambda_ir.specs.declared.term.Term.{Term}

-- its terms, where term 0 is the whole, the sites of its points, the string constants by number, and the spellings of names
pub record Lambda : Type 0 where
  pub terms : List Term
  pub sites : List Site
  pub texts : List (List ℕ)
  pub exns : List (List ℕ)
