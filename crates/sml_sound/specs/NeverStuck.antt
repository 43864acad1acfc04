-- A typed program is never stuck, and so it is what the theory of passes asks of the first program.
use Rattle.std.specs.Prelude.{ℕ, List}
use Rattle.sml_tree.specs.declared.bare.Bare.{Bare}
use Rattle.sml_tree.specs.IsBare.{IsBare}
use Rattle.sml_types.specs.Typing.{Typing, IsTyping}
use Rattle.simulation.specs.Keeps.{IsSound}
use Rattle.simulation.specs.Machines.{IsLive}
use Rattle.simulation.specs.Stores.{machine_of}
use Rattle.sml_def.specs.Run.{run, source, start}

-- the machine of a typed program has a step in every state but its end
abbrev pub NeverStuck : Type 0
NeverStuck = (p : Bare) → IsBare p → (t : Typing) → IsTyping p t → (input : List ℕ) → IsLive (machine_of (source p)) (start input)

-- its runs never stop without an end, and each point stands at most once
abbrev pub SourceIsSound : Type 0
SourceIsSound = (p : Bare) → IsBare p → (t : Typing) → IsTyping p t → (input : List ℕ) → IsSound (run p input)
