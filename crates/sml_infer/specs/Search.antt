-- What is known of the first declarations of a program.
use Rattle.std.specs.Prelude.{ℕ, Bool, true, false}
use Rattle.sml_tree.specs.declared.bare.Bare.{Bare}
use Rattle.sml_types.specs.Typing.{HasTyping}

-- the first k declarations have no typing
abbrev pub HasNoTyping : Bare → ℕ → Type 0
HasNoTyping p k = HasTyping p k → ⊥

-- whether the first k declarations have a typing
abbrev pub HasTypingIf : Bare → ℕ → Bool → Type 0
HasTypingIf p k true = HasTyping p k
HasTypingIf p k false = HasNoTyping p k
