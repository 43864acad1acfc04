-- What a program is made of, and how much room it takes.
use Rattle.std.specs.Prelude.{ℕ, ◌-◌, ◌*◌, ◌^◌, ◌<◌, List}
use Rattle.std.specs.List.{sum_by}
use Rattle.rv_isa.specs.Word.{Fits}
use Rattle.rv_asm.specs.declared.item.Item.{Item}
use Rattle.rv_asm.specs.declared.item.Item.TheVariants.{Plain, Jump, Address}

-- how many instructions an item is
abbrev pub size : Item → ℕ
size (Plain i) = 1
size (Jump label) = 2
size (Address rd label) = 2

abbrev pub words : List Item → ℕ
words items = sum_by size items

-- an item that has instructions, where so many labels were made
abbrev pub IsSound : ℕ → Item → Type 0
IsSound labels (Plain i) = Fits i
IsSound labels (Jump label) = label < labels
IsSound labels (Address rd label) = (rd < 32) × (label < labels)

-- so few instructions that each is in reach of each other
abbrev pub IsNear : ℕ → Type 0
IsNear n = 4 * n < 2 ^ 31 - 4096
