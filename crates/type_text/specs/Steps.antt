-- The tasks that a form comes to, and those behind the first of several parts.
use Rattle.std.specs.Prelude.{ℕ, Bool, not, if◌then◌else◌, List, [], ◌∷◌, ◌++◌, map, codes}
use Rattle.sml_types.specs.declared.types.Ty.{Ty}
use Rattle.sml_types.specs.declared.types.Field.{Field}
use Rattle.type_text.specs.declared.level.Level.{Level}
use Rattle.type_text.specs.declared.level.Level.TheVariants.{Function, Product, Atom}
use Rattle.type_text.specs.Text.{is_function, is_atom, is_tuple}
use Rattle.type_text.specs.Tasks.{Task, ShowType, ShowTuple, ShowRecord, ShowArguments, ShowLabel, ShowBytes}

abbrev pub bytes_if : Bool → List ℕ → List Task
bytes_if needed text = if needed then ShowBytes text ∷ [] else []

abbrev pub arrow_tasks : Ty → Ty → Level → List Task
arrow_tasks from to level = bytes_if (not (is_function level)) (codes "(") ++ ShowType from.0 Product ∷ ShowBytes (codes " -> ") ∷ ShowType to.0 Function ∷ bytes_if (not (is_function level)) (codes ")")

abbrev pub tuple_tasks : Field → List Field → Level → List Task
tuple_tasks f fields level = bytes_if (is_atom level) (codes "(") ++ ShowType f.ty.0 Atom ∷ ShowTuple fields ∷ bytes_if (is_atom level) (codes ")")

abbrev pub field_tasks : Field → List Field → List Task
field_tasks f fields = ShowLabel f.lab ∷ ShowBytes (codes " : ") ∷ ShowType f.ty.0 Function ∷ ShowRecord fields ∷ []

abbrev pub record_tasks : List Field → Level → List Task
record_tasks [] level = ShowBytes (codes "unit") ∷ []
record_tasks (f ∷ fields) level =
    if is_tuple (map (λ x. x.lab) (f ∷ fields)) then tuple_tasks f fields level else ShowBytes (codes "{") ∷ field_tasks f fields ++ ShowBytes (codes "}") ∷ []

abbrev pub named_tasks : List ℕ → List Ty → List Task
named_tasks name [] = ShowBytes name ∷ []
named_tasks name (a ∷ []) = ShowType a.0 Atom ∷ ShowBytes (codes " ") ∷ ShowBytes name ∷ []
named_tasks name (a ∷ args) = ShowBytes (codes "(") ∷ ShowType a.0 Function ∷ ShowArguments args ∷ ShowBytes (codes ") ") ∷ ShowBytes name ∷ []

abbrev pub further_parts : List Field → List Task
further_parts [] = []
further_parts (f ∷ fields) = ShowBytes (codes " * ") ∷ ShowType f.ty.0 Atom ∷ ShowTuple fields ∷ []

abbrev pub further_fields : List Field → List Task
further_fields [] = []
further_fields (f ∷ fields) = ShowBytes (codes ", ") ∷ field_tasks f fields

abbrev pub further_arguments : List Ty → List Task
further_arguments [] = []
further_arguments (a ∷ args) = ShowBytes (codes ", ") ∷ ShowType a.0 Function ∷ ShowArguments args ∷ []
