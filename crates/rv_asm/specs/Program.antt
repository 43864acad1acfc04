-- A program: its items, and for each label how many instructions stand before it, once it is bound.
use Rattle.std.specs.Prelude.{ℕ, ◌<◌, ◌≤◌, ◌≡◌, ◌%◌, ◌^◌, List, [], ◌∷◌, ◌++◌, Option, Some, None, IsSome, slice_get, slice_set, length}
use Rattle.std.specs.List.{All}
use Rattle.rv_asm.specs.declared.item.Item.{Item}
use Rattle.rv_asm.specs.Item.{words, IsNear}

pub record Program : Type 0 where
  pub items : List Item
  pub places : List (Option ℕ)

abbrev pub empty : Program
empty = record { items = []; places = [] }

abbrev pub with_item : Program → Item → Program
with_item p item = record p { items = p.items ++ item ∷ [] }

-- with one more label, which isn't bound
abbrev pub with_label : Program → Program
with_label p = record p { places = p.places ++ None ∷ [] }

-- the label is bound behind the last item
abbrev pub with_place : Program → ℕ → Program
with_place p label = record p { places = slice_set p.places label (Some (words p.items)) }

-- the label is bound to the place behind so many instructions, where data may stand
abbrev pub with_place_at : Program → ℕ → ℕ → Program
with_place_at p label n = record p { places = slice_set p.places label (Some n) }

-- the label was made
abbrev pub IsMade : Program → ℕ → Type 0
IsMade p label = label < length p.places

-- the label was made and isn't bound
abbrev pub IsFree : Program → ℕ → Type 0
IsFree p label = slice_get p.places label ≡ Some None

-- a program that can be laid out at the address: every label is bound, and every label is in reach
pub record IsReady (p : Program) (base : ℕ) : Type 0 where
  pub bound : All IsSome p.places
  pub aligned : base % 4 ≡ 0
  pub low : base ≤ 2 ^ 63
  pub near : IsNear (words p.items)
