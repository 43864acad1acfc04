-- What written types keep in each bare tree.
use Rattle.std.specs.Prelude.{◌≡◌, ℕ, ◌<◌, ◌≤◌, Some, List, slice_get}
use Rattle.sml_tree.specs.declared.bare.Bare.{Bare}
use Rattle.sml_tree.specs.declared.bare.TypeExp.{TypeExp}
use Rattle.sml_tree.specs.declared.bare.TypeExp.TheVariants as exp
use Rattle.sml_tree.specs.IsBare.{TypeStands}
use Rattle.infer_parts.specs.Written.{IsTypeRow, AreTypeRows}

-- the parts of written types stand before them, and record types have their fields in place
pub record AreBareTypes (p : Bare) : Type 0 where
  pub stand : (i : ℕ) (e : TypeExp) → slice_get p.types i ≡ Some e → TypeStands p i e
  pub rows : AreTypeRows p.types

-- the fields of a record type have the places from 0 on, each once
abbrev pub HasPlaces : TypeExp → Type 0
HasPlaces (exp.Record fields) = IsTypeRow fields
HasPlaces _ = Unit {0}

-- a written type cites type names and type bindings below these numbers
abbrev pub CitesBelow : ℕ → ℕ → TypeExp → Type 0
CitesBelow names bindings (exp.Named n args) = n < names
CitesBelow names bindings (exp.Abbreviation k args) = k < bindings
CitesBelow names bindings _ = Unit {0}

-- all written types up to a number do
abbrev pub AllCiteBelow : ℕ → ℕ → List TypeExp → ℕ → Type 0
AllCiteBelow names bindings exps last = (i : ℕ) (e : TypeExp) → i ≤ last → slice_get exps i ≡ Some e → CitesBelow names bindings e
