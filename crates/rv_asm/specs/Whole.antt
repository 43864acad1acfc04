-- What holds of a program in the making.
use Rattle.std.specs.Prelude.{ℕ, ◌≡◌, ◌≤◌, ◌⊎◌, List, Option, IfSome, length}
use Rattle.std.specs.List.{All}
use Rattle.rv_asm.specs.declared.item.Item.{Item}
use Rattle.rv_asm.specs.Item.{words, IsSound, IsNear}

-- a place in the program, where so many instructions stand, or one behind it that is in reach
abbrev pub IsPlace : ℕ → ℕ → Type 0
IsPlace count n = (n ≤ count) ⊎ IsNear n

pub record IsWhole (items : List Item) (places : List (Option ℕ)) (count : ℕ) : Type 0 where
  pub counted : count ≡ words items
  pub sound : All (IsSound (length places)) items
  pub placed : All (λ place. IfSome place (IsPlace (words items))) places
