-- The machine accepts what the grammar says, phrase by phrase.
use Rattle.std.specs.Prelude.{Bool, List, ◌∷◌}
use Rattle.sml_syntax.specs.declared.forms.Terminal.{Terminal}
use Rattle.sml_syntax.specs.declared.forms.Look.{Look}
use Rattle.sml_syntax.specs.declared.forms.Made.{Made}
use Rattle.sml_syntax.specs.declared.symbol.Symbol.{Symbol}
use Rattle.sml_syntax.specs.Fixity.{Fix}
use Rattle.sml_syntax.specs.Grammar.{Kind, Phrase}
use Rattle.sml_syntax.specs.Machine.{Accepts}
use Rattle.syntax_laws.specs.Ends.{Next}

-- Where a phrase of the kind stands before what ends it, its symbol makes the phrase's nodes and leaves the rest to the stack below.
abbrev pub IsAccepted : Kind → Symbol → (Look → Bool) → Type 0
IsAccepted n s q = (v : Bool) (f : Fix) (a b : List Terminal) (o p : List Made) (k : List Symbol) → Phrase v n f a b o p → Next q f b → Accepts v k f b p → Accepts v (s ∷ k) f a o
