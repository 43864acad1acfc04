-- How large a program is: its terms, and for each rule what its tests and names take where their ways share their beginnings.
use Rattle.std.specs.Prelude.{◌≡◌, ℕ, ◌+◌, ◌*◌, ◌≤◌, List, [], ◌∷◌, ◌++◌, length, map, flat_map, cond, bytes_eq}
use Rattle.std.specs.List.{list_any}
use Rattle.smlc_base.specs.declared.match_tests.Test.{Test}
use Rattle.smlc_base.specs.declared.match_tests.Named.{Named}
use Rattle.sml_tree.specs.declared.bare.Bare.{Bare}
use Rattle.sml_tree.specs.IsBare.{IsBare}
use Rattle.sml_types.specs.declared.tables.TypeName.{TypeName}
use Rattle.lambda_ir.specs.declared.term.Term.{Term}
use Rattle.lambda_ir.specs.declared.term.Term.TheVariants as term
use Rattle.lambda_ir.specs.Program.{Lambda}
use Rattle.lambda_laws.specs.Make.{lambda_of}

-- the sum over a list
abbrev pub total : {A : Type 0} → (A → ℕ) → List A → ℕ
total f [] = 0
total f (x ∷ xs) = f x + total f xs

-- the beginnings of a way, but the empty one
abbrev pub beginnings : List ℕ → List (List ℕ)
beginnings [] = []
beginnings (s ∷ path) = (s ∷ []) ∷ map (λ b. s ∷ b) (beginnings path)

-- how many different ones there are
abbrev pub different : List (List ℕ) → ℕ
different [] = 0
different (b ∷ bs) = cond (list_any (bytes_eq b) bs) 0 1 + different bs

abbrev pub ways : List Test → List Named → List (List ℕ)
ways tests names = map (λ t. t.path) tests ++ map (λ n. n.path) names

-- tests, names, and the steps of their ways, each of which is gone once
abbrev pub rule_size : List Test → List Named → ℕ
rule_size tests names = (length tests + length names) + different (flat_map beginnings (ways tests names))

abbrev pub term_size : Term → ℕ
term_size (term.Match e cases) = total (λ c. rule_size c.tests c.names) cases
term_size (term.Fn cases) = total (λ c. rule_size c.tests c.names) cases
term_size (term.Handle e cases) = total (λ c. rule_size c.tests c.names) cases
term_size (term.Binds binds) = total (λ b. rule_size b.tests b.names) binds
term_size _ = 0

-- There are as many terms as nodes, and the rules of all are at most twice as large as the tree.
pub record IsSmall (p : Bare) (l : Lambda) : Type 0 where
  pub terms : length l.terms ≡ length p.nodes
  pub rules : total term_size l.terms ≤ 2 * length p.nodes

abbrev pub LambdaIsSmall : Type 0
LambdaIsSmall = (ts : List TypeName) (p : Bare) → IsBare p → IsSmall p (lambda_of ts p)
