-- Types as trees, with their substitutions and which of them admit equality.
use Rattle.std.specs.Prelude.{ℕ, Bool, true, false, ◌||◌, ◌&&◌, nat_eq, Option, Some, None, List, ◌+◌, slice_get}
use Rattle.sml_types.specs.declared.types.TyVar.{TyVar}
use Rattle.sml_tree.specs.declared.bare.Lab.{Lab}
use Rattle.sml_types.specs.declared.tables.Equality.{Equality}
use Rattle.sml_types.specs.declared.tables.Equality.TheVariants.{Never, Always, Parts}
use Rattle.sml_types.specs.declared.tables.TypeName.{TypeName}

-- what a type makes of its parts: a function type, a record type with these labels, or the type name of a number
pub data Head : Type 0 where
  ArrowHead : Head
  FieldsHead : List Lab → Head
  NameHead : ℕ → Head

-- a type is a variable, or a head with its parts in order
pub data Tree : Type 0 where
  Variable : TyVar → Tree
  App : Head → Tree → Tree
  NoParts : Tree
  Part : Tree → Tree → Tree

-- a type under a substitution
abbrev pub inst : (TyVar → Tree) → Tree → Tree
inst f (Variable v) = f v
inst f (App h ts) = App h (inst f ts)
inst f NoParts = NoParts
inst f (Part t ts) = Part (inst f t) (inst f ts)

-- whether the variable of a number stands in a type
abbrev pub occurs : ℕ → Tree → Bool
occurs x (Variable v) = nat_eq x v.num
occurs x (App h ts) = occurs x ts
occurs x NoParts = false
occurs x (Part t ts) = occurs x t || occurs x ts

-- what holds of each variable that stands in a type
abbrev pub AllVars : (TyVar → Type 0) → Tree → Type 0
AllVars P (Variable v) = P v
AllVars P (App h ts) = AllVars P ts
AllVars P NoParts = Unit {0}
AllVars P (Part t ts) = AllVars P t × AllVars P ts

-- how large a type is
abbrev pub size : Tree → ℕ
size (Variable v) = 1
size (App h ts) = 1 + size ts
size NoParts = 0
size (Part t ts) = size t + size ts

-- how a head admits equality
abbrev pub name_equality : Option TypeName → Equality
name_equality None = Never
name_equality (Some n) = n.eq

abbrev pub head_equality : List TypeName → Head → Equality
head_equality names ArrowHead = Never
head_equality names (FieldsHead labs) = Parts
head_equality names (NameHead n) = name_equality (slice_get names n)

abbrev pub by_equality : Equality → Bool → Bool
by_equality Never parts = false
by_equality Always parts = true
by_equality Parts parts = parts

-- whether a type admits equality
abbrev pub admits : List TypeName → Tree → Bool
admits names (Variable v) = v.eq
admits names (App h ts) = by_equality (head_equality names h) (admits names ts)
admits names NoParts = true
admits names (Part t ts) = admits names t && admits names ts
