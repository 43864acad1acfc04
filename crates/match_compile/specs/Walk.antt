-- A pattern's own tests and names, and its parts with their ways: what a walk by a list of tasks does at each turn.
use Rattle.std.specs.Prelude.{ℕ, suc, ◌+◌, pos, true, false, List, [], ◌∷◌, ◌++◌, Option, Some, None}
use Rattle.sml_tree.specs.declared.bare.Node.{Node}
use Rattle.sml_tree.specs.declared.bare.Node.TheVariants as node
use Rattle.sml_tree.specs.declared.bare.Field.{Field}
use Rattle.sml_tree.specs.BareParts.{from_parts}
use Rattle.smlc_base.specs.declared.match_tests.Want.TheVariants as want
use Rattle.smlc_base.specs.declared.match_tests.Test.{Test}
use Rattle.smlc_base.specs.declared.match_tests.Named.{Named}
use Rattle.sml_types.specs.declared.tables.TypeName.{TypeName}
use Rattle.match_compile.specs.declared.compile.Task.{Task}
use Rattle.match_laws.specs.Compile.{test, named, con_tests, slot_of}

abbrev pub task : ℕ → List ℕ → Task
task i path = record { node = i; path = path }

abbrev pub own_tests : List TypeName → Node → List ℕ → List Test
own_tests ts (node.PatInt n) path = test path (want.Num n) ∷ []
own_tests ts (node.PatChar c) path = test path (want.Num (pos c)) ∷ []
own_tests ts (node.PatText t) path = test path (want.Text t) ∷ []
own_tests ts (node.PatCon c) path = con_tests ts false c path
own_tests ts (node.PatApp c q) path = con_tests ts true c path
own_tests ts _ path = []

abbrev pub own_names : Node → List ℕ → List Named
own_names (node.PatVar x) path = named x path ∷ []
own_names (node.PatAs x q) path = named x path ∷ []
own_names (node.PatAsCon x q) path = named x path ∷ []
own_names _ path = []

abbrev pub field_tasks : List Field → List ℕ → List Task
field_tasks [] path = []
field_tasks (f ∷ fields) path = task f.node (path ++ f.slot ∷ []) ∷ field_tasks fields path

abbrev pub tasks_in : Node → List ℕ → List Task
tasks_in (node.PatApp c q) path = task q (path ++ slot_of c ∷ []) ∷ []
tasks_in (node.PatRecord fields) path = field_tasks fields path
tasks_in (node.PatTyped q ty) path = task q path ∷ []
tasks_in (node.PatAs x q) path = task q path ∷ []
tasks_in (node.PatAsCon x q) path = task q path ∷ []
tasks_in _ path = []

-- of a node, if there is one
abbrev pub tests_at : List TypeName → Option Node → List ℕ → List Test
tests_at ts None path = []
tests_at ts (Some n) path = own_tests ts n path

abbrev pub names_at : Option Node → List ℕ → List Named
names_at None path = []
names_at (Some n) path = own_names n path

abbrev pub tasks_at : Option Node → List ℕ → List Task
tasks_at None path = []
tasks_at (Some n) path = tasks_in n path

abbrev pub total : (ℕ → List ℕ → ℕ) → List Task → ℕ
total f [] = 0
total f (q ∷ tasks) = f q.node q.path + total f tasks

-- the turns that the walk takes from a node on
abbrev pub turns : List Node → ℕ → List ℕ → ℕ
turns = from_parts (λ path. 1) (λ part i n path. suc (total part (tasks_in n path)))
