-- How many words of its spill record a body writes, from those of the bodies that it names.
use Rattle.std.specs.Prelude.{ℕ, List, [], ◌∷◌}
use Rattle.placed_ir.specs.declared.body.Step.{Step}
use Rattle.placed_ir.specs.declared.body.Step.TheVariants as step
use Rattle.placed_ir.specs.declared.body.Rule.{Rule}
use Rattle.placed_ir.specs.declared.body.End.{End}
use Rattle.placed_ir.specs.declared.body.End.TheVariants as end
use Rattle.placed_ir.specs.declared.body.Body.{Body}
use Rattle.place_laws.specs.Place.{greater, home_spills}

abbrev pub step_spills : Step → ℕ
step_spills (step.Name h n) = home_spills h
step_spills (step.Let h s) = home_spills h
step_spills (step.Take h) = home_spills h
step_spills (step.Handler h) = home_spills h
step_spills _ = 0

abbrev pub steps_spills : List Step → ℕ → ℕ
steps_spills [] last = last
steps_spills (s ∷ steps) last = greater (step_spills s) (steps_spills steps last)

module _ (part : ℕ → ℕ) where
  abbrev pub rules_spills : List Rule → ℕ → ℕ
  rules_spills [] last = last
  rules_spills (r ∷ rules) last = greater (part r.body) (rules_spills rules last)

  abbrev pub end_spills : End → ℕ
  end_spills (end.Match s rules otherwise) = rules_spills rules (part otherwise)
  end_spills _ = 0

  abbrev pub body_spills : Body → ℕ
  body_spills b = steps_spills b.steps (end_spills b.end)
