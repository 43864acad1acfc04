-- The source machine agrees with the rules.
use Rattle.std.specs.Prelude.{◌≡◌, ◌≢◌, ℕ, List}
use Rattle.sml_tree.specs.declared.bare.Bare.{Bare}
use Rattle.sml_tree.specs.IsBare.{IsBare}
use Rattle.sml_types.specs.Typing.{Typing, IsTyping}
use Rattle.simulation.specs.Blocks.{IsPrefix}
use Rattle.sml_def.specs.State.{Ending, End}
use Rattle.sml_def.specs.Run.{run, end_of}
use Rattle.sane_laws.specs.Uses.{UsesWell}
use Rattle.sml_rules.specs.Rules.{Ends, NoRule, end_within, output_within}

pub record Agree (p : Bare) (input : List ℕ) : Type 0 where
  -- a rule applies everywhere
  pub applies : (d : ℕ) → end_within p input d ≢ NoRule
  -- an outcome by the rules is an end of the machine, and the other way round, with the same output
  pub ends : (d : ℕ) (e : Ending) → end_within p input d ≡ Ends e → (n : ℕ) × ((run p input).end n ≡ end_of (End e)) × ((run p input).out n ≡ output_within p input d)
  pub ends_back : (n : ℕ) (e : Ending) → (run p input).end n ≡ end_of (End e) → (d : ℕ) × (end_within p input d ≡ Ends e) × (output_within p input d ≡ (run p input).out n)
  -- each output of the machine begins one by the rules, and each output by the rules is one of the machine
  pub told : (n : ℕ) → (d : ℕ) × IsPrefix ((run p input).out n) (output_within p input d)
  pub told_back : (d : ℕ) → (n : ℕ) × ((run p input).out n ≡ output_within p input d)

-- So it is for each bare tree that has a typing and uses its function constants and exceptions well, and each input.
abbrev pub RulesAgree : Type 0
RulesAgree = (p : Bare) → IsBare p → UsesWell p → (t : Typing) → IsTyping p t → (input : List ℕ) → Agree p input
