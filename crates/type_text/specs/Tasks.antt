-- What is left to be shown of a line.
use Rattle.std.specs.Prelude.{ℕ, ◌+◌, List, ◌++◌, map, flat_map, sum_by, codes}
use Rattle.sml_tree.specs.declared.bare.Lab.{Lab}
use Rattle.sml_types.specs.declared.types.Ty.{Ty}
use Rattle.sml_types.specs.declared.types.Field.{Field}
use Rattle.sml_types.specs.declared.types.TyForm.{TyForm}
use Rattle.sml_types.specs.declared.tables.TypeName.{TypeName}
use Rattle.sml_types.specs.Tree.{Tree, Variable, App, NoParts, Part}
use Rattle.sml_types.specs.Forms.{tree, listed}
use Rattle.type_text.specs.declared.level.Level.{Level}
use Rattle.type_text.specs.declared.level.Level.TheVariants.{Function, Atom}
use Rattle.type_text.specs.Text.{Item, plain, label_text, type_text}

-- a type at a level; the further parts of a tuple, the further fields of a record and the further arguments of a type name, each behind what separates it from those before; a label; bytes
pub data Task : Type 0 where
  ShowType : ℕ → Level → Task
  ShowTuple : List Field → Task
  ShowRecord : List Field → Task
  ShowArguments : List Ty → Task
  ShowLabel : Lab → Task
  ShowBytes : List ℕ → Task

-- what a task shows
abbrev pub task_text : List TyForm → List TypeName → Task → List Item
task_text forms names (ShowType i level) = type_text names (tree forms i) level
task_text forms names (ShowTuple fields) = flat_map (λ f. plain (codes " * ") ++ type_text names (tree forms f.ty.0) Atom) fields
task_text forms names (ShowRecord fields) = flat_map (λ f. plain (codes ", ") ++ plain (label_text f.lab) ++ plain (codes " : ") ++ type_text names (tree forms f.ty.0) Function) fields
task_text forms names (ShowArguments args) = flat_map (λ a. plain (codes ", ") ++ type_text names (tree forms a.0) Function) args
task_text forms names (ShowLabel lab) = plain (label_text lab)
task_text forms names (ShowBytes text) = plain text

abbrev pub tasks_text : List TyForm → List TypeName → List Task → List Item
tasks_text forms names tasks = flat_map (task_text forms names) tasks

-- more than the steps that a type takes
abbrev pub weight : Tree → ℕ
weight (Variable v) = 0
weight (App h ts) = 7 + weight ts
weight NoParts = 0
weight (Part t ts) = 6 + weight t + weight ts

-- more than the steps that a task takes
abbrev pub task_weight : List TyForm → Task → ℕ
task_weight forms (ShowType i level) = 1 + weight (tree forms i)
task_weight forms (ShowTuple fields) = 1 + weight (listed (tree forms) (map (λ f. f.ty.0) fields))
task_weight forms (ShowRecord fields) = 1 + weight (listed (tree forms) (map (λ f. f.ty.0) fields))
task_weight forms (ShowArguments args) = 1 + weight (listed (tree forms) (map (λ a. a.0) args))
task_weight forms (ShowLabel lab) = 1
task_weight forms (ShowBytes text) = 1

abbrev pub tasks_weight : List TyForm → List Task → ℕ
tasks_weight forms tasks = sum_by (task_weight forms) tasks
