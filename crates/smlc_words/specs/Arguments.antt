-- The operands and options, as they stand for what was given.
use Rattle.std.specs.Prelude.{map}
use Rattle.smlc_words.specs.declared.arguments.Arguments.{Arguments}
use Rattle.smlc_words.specs.Given.{Given}
use Rattle.std.specs.Option.{option_map}

abbrev pub given : Arguments → Given
given a = record { operands = map (λ word. word.now) a.operands.items; out = option_map (λ word. word.now) a.out; arena = a.arena; steps = a.steps; stride = a.stride }
