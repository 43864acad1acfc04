-- What was written so far, and which variables had a name.
use Rattle.std.specs.Prelude.{◌≡◌, ◌<◌, ◌+◌, ℕ, Bool, List, [], ◌∷◌, ◌++◌, map, fold, nat_eq, if◌then◌else◌, codes}
use Rattle.std.specs.List.{list_any}
use Rattle.sml_types.specs.declared.types.TyVar.{TyVar}
use Rattle.sml_types.specs.declared.types.TyForm.{TyForm}
use Rattle.sml_types.specs.declared.tables.TypeName.{TypeName}
use Rattle.type_text.specs.Text.{Item, Byte, Name, noted, in_order, variable_text, Entry, scheme_text}
use Rattle.type_text.specs.Tasks.{Task, task_text, tasks_text, task_weight, tasks_weight}

-- the numbers of the scheme's variables, those of them that were met in the line, the open ones that were met in all lines, and what was written
pub record State : Type 0 where
  pub general : List ℕ
  pub own : List ℕ
  pub open_ones : List ℕ
  pub out : List ℕ

abbrev pub state : List ℕ → List ℕ → List ℕ → List ℕ → State
state general own open_ones out = record { general = general; own = own; open_ones = open_ones; out = out }

-- a line begins with no variable met
abbrev pub begun : State → List TyVar → State
begun s vars = state (in_order (map (λ v. v.num) vars)) [] s.open_ones s.out

abbrev pub is_general : State → ℕ → Bool
is_general s x = list_any (nat_eq x) s.general

-- a variable is noted, and its name written
abbrev pub with_variable : State → TyVar → State
with_variable s v =
    let text = s.out ++ variable_text (is_general s) s.own s.open_ones v in
    if is_general s v.num then state s.general (noted s.own v.num) s.open_ones text else state s.general s.own (noted s.open_ones v.num) text

abbrev pub with_bytes : State → List ℕ → State
with_bytes s bytes = state s.general s.own s.open_ones (s.out ++ bytes)

abbrev pub with_item : State → Item → State
with_item s (Byte b) = with_bytes s (b ∷ [])
with_item s (Name v) = with_variable s v

unfoldable pub with_items : State → List Item → State
with_items s items = fold with_item s items

-- one step of showing: the first of the tasks is done as far as it goes, and the rest of it stands before the others
pub record IsStep (forms : List TyForm) (names : List TypeName) (task : Task) (s : State) (tasks : List Task) (s' : State) (tasks' : List Task) : Type 0 where
  pub same : with_items s' (tasks_text forms names tasks') ≡ with_items s (task_text forms names task ++ tasks_text forms names tasks)
  pub less : tasks_weight forms tasks' < task_weight forms task + tasks_weight forms tasks

-- a line is written
abbrev pub with_line : List TypeName → State → Entry → State
with_line names s e =
    with_bytes
    (with_items (with_bytes (with_bytes (with_bytes (begun s e.scheme.vars) (codes "val ")) e.spelling) (codes " : ")) (scheme_text names e.scheme))
    (codes "\n")
