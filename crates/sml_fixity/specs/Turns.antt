-- Where the machine of the parser stands, and what a terminal makes of it.
use Rattle.std.specs.Prelude.{◌≡◌, ℕ, ◌<◌, ◌++◌, Bool, true, false, Option, Some, None, List, [], ◌∷◌, length, reverse}
use Rattle.sml_syntax.specs.declared.forms.Terminal.{Terminal}
use Rattle.sml_syntax.specs.declared.forms.Terminal.TheVariants as tok
use Rattle.sml_syntax.specs.declared.symbol.Symbol.{Symbol}
use Rattle.sml_syntax.specs.Fixity.{Fix}
use Rattle.sml_fixity.specs.declared.turns.Machine.{Machine}
use Rattle.sml_fixity.specs.declared.turns.Turn.{Turn}
use Rattle.sml_fixity.specs.declared.turns.Turn.TheVariants as turn
use Rattle.syntax_laws.specs.Steps.{Comes, lead, Opens}

-- the symbols, the first on top
abbrev pub stack_of : Machine → List Symbol
stack_of m = reverse m.stack.items

-- started under f, the machine has read r, stands at these symbols, and is to read a
abbrev pub Stands : Fix → List Terminal → List Terminal → List Symbol → Machine → Type 0
Stands f r a k m = Comes false f r k m.scope a m.nodes.items

-- the machine has come here, before a terminal that is the last but so many
abbrev pub HasCome : Terminal → ℕ → Machine → Type 0
HasCome t left m = (f : Fix) × (r a : List Terminal) × (left ≡ length (t ∷ a)) × Stands f r (t ∷ a) (stack_of m) m

-- what a terminal makes: it is read, and the end leaves no symbol, or it can't stand here
abbrev pub Shifts : Fix → List Terminal → Terminal → List Terminal → Turn → Machine → Type 0
Shifts f r t a turn.Shifted m = Stands f (r ++ t ∷ []) a (stack_of m) m × (t ≡ tok.Finish → stack_of m ≡ [])
Shifts f r t a turn.Refused m = Opens false f r × ((v : Bool) → Opens v f (r ++ t ∷ []) → ⊥)
Shifts f r t a turn.Mixed m = Opens false f r × (Opens false f (r ++ t ∷ []) → ⊥) × Opens true f (r ++ t ∷ [])

-- what one symbol makes: the machine stands at the same terminal and is nearer to taking it, or the terminal is done with
abbrev pub Acts : Fix → List Terminal → Terminal → List Terminal → List Symbol → Option Turn → Machine → Type 0
Acts f r t a k None m = Stands f r (t ∷ a) (stack_of m) m × (lead (stack_of m) < lead k)
Acts f r t a k (Some w) m = Shifts f r t a w m
