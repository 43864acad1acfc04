-- How many constructors the tables of a typing have.
use Rattle.std.specs.Prelude.{◌≡◌, ◌≤◌, ◌^◌, ℕ, Some, length, slice_get}
use Rattle.sml_tree.specs.declared.bare.Bare.{Bare}
use Rattle.sml_tree.specs.IsBare.{IsBare}
use Rattle.sml_types.specs.declared.tables.TypeName.{TypeName}
use Rattle.sml_types.specs.Typing.{Typing, IsTyping}

-- the constructors of each type name have numbers below 2^20
abbrev pub AreFew : Typing → Type 0
AreFew t = (k : ℕ) (row : TypeName) → slice_get t.names k ≡ Some row → length row.cons ≤ 2 ^ 20

abbrev pub TablesAreFew : Type 0
TablesAreFew = (p : Bare) (t : Typing) → IsBare p → IsTyping p t → AreFew t
