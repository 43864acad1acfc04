-- The tests and the names of a pattern, in the order in which it is written.
use Rattle.std.specs.Prelude.{ℕ, pos, Bool, true, false, not, ◌||◌, List, [], ◌∷◌, ◌++◌, Option, Some, None, map, take, drop, slice_get}
use Rattle.std.specs.List.{list_any}
use Rattle.std.specs.Option.{is_some}
use Rattle.smlc_base.specs.declared.names.Name.{Name}
use Rattle.smlc_base.specs.declared.match_tests.Tag.{Tag}
use Rattle.smlc_base.specs.declared.match_tests.Want.{Want}
use Rattle.smlc_base.specs.declared.match_tests.Want.TheVariants as want
use Rattle.smlc_base.specs.declared.match_tests.Test.{Test}
use Rattle.smlc_base.specs.declared.match_tests.Named.{Named}
use Rattle.smlc_base.specs.declared.match_tests.RuleTests.{RuleTests}
use Rattle.sml_tree.specs.declared.bare.Node.{Node}
use Rattle.sml_tree.specs.declared.bare.Node.TheVariants as node
use Rattle.sml_tree.specs.declared.bare.Con.{Con}
use Rattle.sml_tree.specs.declared.bare.Con.TheVariants as con
use Rattle.sml_tree.specs.declared.bare.Field.{Field}
use Rattle.sml_tree.specs.declared.bare.Rule.{Rule}
use Rattle.sml_tree.specs.declared.bare.Binding.{Binding}
use Rattle.sml_tree.specs.BareParts.{from_parts}
use Rattle.sml_types.specs.declared.tables.ConRow.{ConRow}
use Rattle.sml_types.specs.declared.tables.TypeName.{TypeName}
use Rattle.lambda_ir.specs.declared.term.Case.{Case}
use Rattle.lambda_ir.specs.declared.term.Bind.{Bind}

-- ---- Constructors

abbrev pub cons_in : Option TypeName → List ConRow
cons_in (Some row) = row.cons
cons_in None = []

-- whether another constructor of the type is such a one
abbrev pub another : (ConRow → Bool) → ℕ → List ConRow → Bool
another such number cons = list_any such (take number cons) || list_any such (drop 1 (drop number cons))

abbrev pub takes_one : ConRow → Bool
takes_one c = is_some c.arg

abbrev pub takes_none : ConRow → Bool
takes_none c = not (is_some c.arg)

-- what tells a constructor from the others of its type
abbrev pub tag_in : ℕ → Bool → List ConRow → Tag
tag_in number takes cons = record { number = number; takes = takes; other_takes = another takes_one number cons; other_bare = another takes_none number cons }

-- ---- Tests

abbrev pub test : List ℕ → Want → Test
test path w = record { path = path; want = w }

abbrev pub named : Name → List ℕ → Named
named x path = record { name = x; path = path }

-- Which field a constructor's argument is: a packet has its name in front of it.
abbrev pub slot_of : Con → ℕ
slot_of (con.Data t n takes) = 0
slot_of con.Ref = 0
slot_of (con.Exn x takes) = 1
slot_of (con.Library e) = 1

-- of each field, which stands in its slot
abbrev pub over_fields : {X : Type 0} → (ℕ → List ℕ → List X) → List ℕ → List Field → List X
over_fields part path [] = []
over_fields part path (f ∷ fields) = part f.node (path ++ f.slot ∷ []) ++ over_fields part path fields

-- by the tables of the type names
module _ (ts : List TypeName) where
  -- The test of a constructor, with an argument or without. A cell needs none.
  abbrev pub con_tests : Bool → Con → List ℕ → List Test
  con_tests applied (con.Data t n takes) path = test path (want.Tag (tag_in n takes (cons_in (slice_get ts t)))) ∷ []
  con_tests applied con.Ref path = []
  con_tests applied (con.Exn x takes) path = test path (want.Exn x applied) ∷ []
  con_tests applied (con.Library e) path = test path (want.Library e applied) ∷ []

  abbrev pub tests_of : (ℕ → List ℕ → List Test) → Node → List ℕ → List Test
  tests_of part (node.PatInt n) path = test path (want.Num n) ∷ []
  tests_of part (node.PatChar c) path = test path (want.Num (pos c)) ∷ []
  tests_of part (node.PatText t) path = test path (want.Text t) ∷ []
  tests_of part (node.PatCon c) path = con_tests false c path
  tests_of part (node.PatApp c q) path = con_tests true c path ++ part q (path ++ slot_of c ∷ [])
  tests_of part (node.PatRecord fields) path = over_fields part path fields
  tests_of part (node.PatTyped q ty) path = part q path
  tests_of part (node.PatAs x q) path = part q path
  tests_of part (node.PatAsCon x q) path = part q path
  tests_of part _ path = []

  -- of the pattern at a node, for what stands at the end of a path
  abbrev pub tests : List Node → ℕ → List ℕ → List Test
  tests = from_parts (λ path. []) (λ part i. tests_of part)

abbrev pub names_of : (ℕ → List ℕ → List Named) → Node → List ℕ → List Named
names_of part (node.PatVar x) path = named x path ∷ []
names_of part (node.PatApp c q) path = part q (path ++ slot_of c ∷ [])
names_of part (node.PatRecord fields) path = over_fields part path fields
names_of part (node.PatTyped q ty) path = part q path
names_of part (node.PatAs x q) path = named x path ∷ part q path
names_of part (node.PatAsCon x q) path = named x path ∷ part q path
names_of part _ path = []

abbrev pub names : List Node → ℕ → List ℕ → List Named
names = from_parts (λ path. []) (λ part i. names_of part)

-- ---- Rules

module _ (ts : List TypeName) (nodes : List Node) where
  -- the tests and names of a rule with this pattern
  abbrev pub rule_of : ℕ → RuleTests
  rule_of pat = record { tests = tests ts nodes pat []; names = names nodes pat [] }

  -- a rule with its tests, and a binding
  abbrev pub case_of : Rule → Case
  case_of r = record { tests = tests ts nodes r.pat []; names = names nodes r.pat []; body = r.body }

  abbrev pub bind_of : Binding → Bind
  bind_of b = record { tests = tests ts nodes b.pat []; names = names nodes b.pat []; right = b.right }

  abbrev pub cases_of : List Rule → List Case
  cases_of rules = map case_of rules
