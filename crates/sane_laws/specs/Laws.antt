-- The runs of a typed tree are sane.
use Rattle.std.specs.Prelude.{ℕ, List}
use Rattle.sml_tree.specs.declared.bare.Bare.{Bare}
use Rattle.sml_tree.specs.IsBare.{IsBare}
use Rattle.sml_types.specs.Typing.{Typing, IsTyping}
use Rattle.sane_laws.specs.Sane.{RunIsSane}
use Rattle.sane_laws.specs.Uses.{UsesWell}

-- each state of each run of a typed tree that uses its function constants and exceptions well is sane
abbrev pub RunsAreSane : Type 0
RunsAreSane = (p : Bare) → IsBare p → UsesWell p → (t : Typing) → IsTyping p t → (input : List ℕ) → RunIsSane p input
