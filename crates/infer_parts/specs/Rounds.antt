-- One round in the search for the datatypes that admit equality.
use Rattle.std.specs.Prelude.{◌≡◌, ℕ, zero, suc, ◌<◌, Bool, true, false, not, ◌||◌, cond, Option, Some, None, List, [], ◌∷◌, length, slice_get}
use Rattle.std.specs.List.{list_all}
use Rattle.sml_types.specs.declared.types.Ty.{Ty}
use Rattle.sml_types.specs.declared.types.TyForm.{TyForm}
use Rattle.sml_types.specs.declared.tables.Equality.{Equality}
use Rattle.sml_types.specs.declared.tables.Equality.TheVariants.{Never, Always, Parts}
use Rattle.sml_types.specs.declared.tables.ConRow.{ConRow}
use Rattle.sml_types.specs.declared.tables.TypeName.{TypeName}
use Rattle.infer_parts.specs.Held.{held_at}

abbrev pub with_eq : Equality → TypeName → TypeName
with_eq q row = record { text = row.text; params = row.params; eq = q; cons = row.cons }

-- the rows, where the type name of a number admits equality so
abbrev pub eq_set : List TypeName → ℕ → Equality → List TypeName
eq_set [] n q = []
eq_set (row ∷ rows) zero q = with_eq q row ∷ rows
eq_set (row ∷ rows) (suc n) q = row ∷ eq_set rows n q

abbrev pub option_held : List Bool → Option Ty → Bool
option_held table None = true
option_held table (Some t) = held_at 0 table t.0

-- whether the argument of a constructor admits equality by the table
abbrev pub argument_held : List Bool → ConRow → Bool
argument_held table c = option_held table c.arg

abbrev pub if_parts : Equality → Bool → Bool
if_parts Never b = false
if_parts Always b = false
if_parts Parts b = b

abbrev pub held_all : List Bool → List ConRow → Bool
held_all table cons = list_all (λ c. argument_held table c) cons

abbrev pub name_fails : List Bool → TypeName → Bool
name_fails table row = if_parts row.eq (not (held_all table row.cons))

abbrev pub row_fails : List Bool → Option TypeName → Bool
row_fails table None = false
row_fails table (Some row) = name_fails table row

-- a datatype is taken to admit equality, and has an argument that does not
abbrev pub fails : List TypeName → List Bool → ℕ → Bool
fails names table n = row_fails table (slice_get names n)

abbrev pub struck_one : List Bool → ℕ → List TypeName → List TypeName
struck_one table n names = cond (fails names table n) (eq_set names n Never) names

abbrev pub struck_all : List Bool → List ℕ → List TypeName → List TypeName
struck_all table [] names = names
struck_all table (n ∷ group) names = struck_all table group (struck_one table n names)

abbrev pub any_struck : List Bool → List ℕ → List TypeName → Bool
any_struck table [] names = false
any_struck table (n ∷ group) names = fails names table n || any_struck table group (struck_one table n names)

abbrev pub all_chosen : List ℕ → List TypeName → List TypeName
all_chosen [] names = names
all_chosen (n ∷ group) names = all_chosen group (eq_set names n Parts)

-- the arguments of constructors are types that stand there
abbrev pub AreArgumentsThere : List TyForm → List TypeName → Type 0
AreArgumentsThere forms names = (n k : ℕ) (row : TypeName) (c : ConRow) (a : Ty) → slice_get names n ≡ Some row → slice_get row.cons k ≡ Some c → c.arg ≡ Some a → a.0 < length forms
