-- What a program of `Lambda` keeps.
use Rattle.std.specs.Prelude.{◌≡◌, ℕ, suc, ◌<◌, ◌^◌, true, List, [], ◌∷◌, Some, length, map, flat_map, slice_get}
use Rattle.std.specs.List.{AllByRecursion}
use Rattle.std.specs.Option.{is_some}
use Rattle.smlc_base.specs.declared.match_tests.Want.{Want}
use Rattle.smlc_base.specs.declared.match_tests.Want.TheVariants as want
use Rattle.smlc_base.specs.declared.match_tests.Test.{Test}
use Rattle.smlc_base.specs.declared.match_tests.Named.{Named}
use Rattle.sml_tree.specs.declared.bare.Con.{Con}
use Rattle.sml_tree.specs.declared.bare.Con.TheVariants as con
use Rattle.sml_tree.specs.IsBare.{IsDistinct, IsInt}
use Rattle.lambda_ir.specs.declared.term.Case.{Case}
use Rattle.lambda_ir.specs.declared.term.Part.{Part}
use Rattle.lambda_ir.specs.declared.term.Term.{Term}
use Rattle.lambda_ir.specs.declared.term.Term.TheVariants as term
use Rattle.lambda_ir.specs.Program.{Lambda}
use Rattle.lambda_ir.specs.Free.{free_at, function_at}

-- the numbers of the terms that a term is made of, from left to right
abbrev pub term_parts : Term → List ℕ
term_parts (term.Tuple parts) = map (λ q. q.node) parts
term_parts (term.App f a) = f ∷ a ∷ []
term_parts (term.Match e cases) = e ∷ map (λ c. c.body) cases
term_parts (term.Fn cases) = map (λ c. c.body) cases
term_parts (term.Raise e) = e ∷ []
term_parts (term.Handle e cases) = e ∷ map (λ c. c.body) cases
term_parts (term.Same e) = e ∷ []
term_parts (term.Let d e) = d ∷ e ∷ []
term_parts (term.Binds binds) = map (λ b. b.right) binds
term_parts (term.Group bindings) = map (λ b. b.right) bindings
term_parts _ = []

-- the names that a term itself binds
abbrev pub names_in : List Named → List ℕ
names_in names = map (λ n. n.name.0) names

abbrev pub term_names : Term → List ℕ
term_names (term.Match e cases) = flat_map (λ c. names_in c.names) cases
term_names (term.Fn cases) = flat_map (λ c. names_in c.names) cases
term_names (term.Handle e cases) = flat_map (λ c. names_in c.names) cases
term_names (term.Binds binds) = flat_map (λ b. names_in b.names) binds
term_names (term.Group bindings) = map (λ b. b.name.0) bindings
term_names (term.NewExn x) = x.0 ∷ []
term_names (term.SameExn x c) = x.0 ∷ []
term_names _ = []

module _ (l : Lambda) where
  abbrev pub ConKept : Con → Type 0
  ConKept (con.Data t number takes) = number < 2 ^ 20
  ConKept con.Ref = Unit {0}
  ConKept (con.Exn x takes) = x.0 < length l.exns
  ConKept (con.Library e) = Unit {0}

  abbrev pub WantKept : Want → Type 0
  WantKept (want.Num z) = IsInt z
  WantKept (want.Tag t) = t.number < 2 ^ 20
  WantKept (want.Text t) = t < length l.texts
  WantKept (want.Exn x applied) = x.0 < length l.exns
  WantKept (want.Library e applied) = Unit {0}

  abbrev pub TestsKept : List Test → Type 0
  TestsKept tests = AllByRecursion (λ t. WantKept t.want) tests

  abbrev pub NamesKept : List Named → Type 0
  NamesKept names = AllByRecursion (λ n. n.name.0 < length l.exns) names

  abbrev pub CasesKept : List Case → Type 0
  CasesKept cases = AllByRecursion (λ c. TestsKept c.tests × NamesKept c.names) cases

  -- the parts of a tuple stand in different places of it
  abbrev pub PartsKept : List Part → Type 0
  PartsKept parts = AllByRecursion (λ q. q.slot < length parts) parts × IsDistinct (map (λ q. q.slot) parts)

  -- constants in their ranges, and constructors, texts and names that stand there
  abbrev pub TermKept : Term → Type 0
  TermKept (term.Int z) = IsInt z
  TermKept (term.Char c) = c < 256
  TermKept (term.Text t) = t < length l.texts
  TermKept (term.Var x) = x.0 < length l.exns
  TermKept (term.Constructor c) = ConKept c
  TermKept (term.Tuple parts) = PartsKept parts
  TermKept (term.Match e cases) = CasesKept cases
  TermKept (term.Fn cases) = CasesKept cases
  TermKept (term.Handle e cases) = CasesKept cases
  TermKept (term.Binds binds) = AllByRecursion (λ b. TestsKept b.tests × NamesKept b.names) binds
  TermKept (term.Group bindings) = AllByRecursion (λ b. (b.name.0 < length l.exns) × (is_some (function_at l.terms b.right) ≡ true)) bindings
  TermKept (term.NewExn x) = x.0 < length l.exns
  TermKept (term.SameExn x c) = (x.0 < length l.exns) × ConKept c
  TermKept _ = Unit {0}

pub record IsProgram (l : Lambda) : Type 0 where
  pub few : suc (length l.terms) < 2 ^ 32
  -- each part of a term is a term with a greater number
  pub numbered : (i : ℕ) (t : Term) → slice_get l.terms i ≡ Some t → AllByRecursion (λ c. (i < c) × (c < length l.terms)) (term_parts t)
  -- no variable is free, and none is bound twice
  pub closed : free_at l.terms 0 ≡ []
  pub once : IsDistinct (flat_map term_names l.terms)
  pub kept : AllByRecursion (TermKept l) l.terms
