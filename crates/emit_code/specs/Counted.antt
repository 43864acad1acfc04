-- Items from the last to the first, with the number of their instructions.
use Rattle.std.specs.Prelude.{ℕ, ◌≡◌, List, reverse}
use Rattle.rv_asm.specs.declared.item.Item.{Item}
use Rattle.rv_asm.specs.Item.{words}

abbrev pub IsCounted : ℕ → List Item → Type 0
IsCounted n backwards = n ≡ words (reverse backwards)
