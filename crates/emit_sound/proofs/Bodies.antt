-- The code of bodies, from what a program keeps of each.
use Rattle.std.proofs.Common.{ℕ, zero, suc, ◌-◌, ◌*◌, List, [], ◌∷◌, ◌++◌, Option, Some, None, length, slice_get}
use Rattle.std.specs.List.{AllByRecursion}
use Rattle.std.proofs.lemmas.List.Elements.{All-from_recursion}
use Rattle.rv_asm.specs.Item.{IsSound, words}
use Rattle.placed_ir.specs.declared.home.Source.{Source}
use Rattle.placed_ir.specs.declared.body.Step.{Step}
use Rattle.placed_ir.specs.declared.body.Step.TheVariants as step
use Rattle.placed_ir.specs.declared.body.Rule.{Rule}
use Rattle.placed_ir.specs.declared.body.End.{End}
use Rattle.placed_ir.specs.declared.body.End.TheVariants as end
use Rattle.placed_ir.specs.declared.body.Body.{Body}
use Rattle.placed_ir.specs.declared.body.Function.{Function}
use Rattle.placed_ir.specs.Code.{Code}
use Rattle.placed_ir.specs.Program.{Placed, code_of_rules, code_of_end, code_of_step, code_of_steps, code_of_body, code_within, framed, function_code}
use Rattle.placed_ir.specs.Kept.{Kept, TestsKept, StepKept, EndKept, BodyKept, IsProgram}
use Rattle.placed_ir.specs.Kept as kept
use Rattle.emit_items.specs.declared.labels.Labels.{Labels}
use Rattle.emit_items.specs.Reading.{taken, named, handler_kept, let_in, handler_set}
use Rattle.emit_items.specs.Making as making
use Rattle.emit_items.specs.Making.{group_words, made}
use Rattle.emit_items.specs.Primitives.{primitive_done}
use Rattle.emit_items.specs.Tests.{all_tested}
use Rattle.emit_items.specs.Body.{items}
use Rattle.emit_sound.specs.Sound.{HasLabels, AreSound}
use Rattle.emit_sound.proofs.Formats.{Sound, both}
use Rattle.emit_sound.proofs.Reading.{taken_sound, named_sound, handler_kept_sound, let_in_sound, handler_set_sound}
use Rattle.emit_sound.proofs.Making.{made_sound, framed_sound}
use Rattle.emit_sound.proofs.Primitives.{primitive_sound}
use Rattle.emit_sound.proofs.Tests.{all_tested_sound}
use Rattle.emit_sound.proofs.Ends.{call_sound, thrown_sound, compared_sound, halted_sound}

module _ (p : Placed) (L : Labels) (count : ℕ) (has : HasLabels p L count) where
  -- whatever group was made last
  abbrev IsGood : Code → Type 0
  IsGood c = (g : ℕ) → Sound count (items L g c)

  step_good : (s : Step) (c : Code) → StepKept p s → IsGood c → IsGood (code_of_step s c)
  step_good (step.Make buildings) c k good g =
      both count (made L buildings) (items L (group_words buildings) c) (made_sound p L count has (kept.group_words buildings) buildings k) (good (group_words buildings))
  step_good (step.Name h n) c k good g = both count (named h (8 * (g - n))) (items L g c) (named_sound count h (8 * (g - n))) (good g)
  step_good (step.Let h s) c k good g = both count (let_in L h s) (items L g c) (let_in_sound p L count has h s k.1) (good g)
  step_good (step.Prim f sources) c k good g = both count (primitive_done L f sources) (items L g c) (primitive_sound p L count has f sources k) (good g)
  step_good (step.Take h) c k good g = both count (taken h) (items L g c) (taken_sound count h) (good g)
  step_good (step.Handler h) c k good g = both count (handler_kept h) (items L g c) (handler_kept_sound count h) (good g)
  step_good (step.SetHandler s) c k good g = both count (handler_set L s) (items L g c) (handler_set_sound p L count has s k) (good g)

  steps_good : (steps : List Step) (c : Code) → AllByRecursion (StepKept p) steps → IsGood c → IsGood (code_of_steps steps c)
  steps_good [] c k good = good
  steps_good (s ∷ steps) c k good = step_good s (code_of_steps steps c) k.0 (steps_good steps c k.1 good)

  module _ (part : ℕ → Code) (good : (i : ℕ) → IsGood (part i)) where
    rules_good : (subject : Source) (rules : List Rule) (otherwise : ℕ) → Kept p subject → AllByRecursion (λ r. TestsKept p r.tests) rules → IsGood (code_of_rules part subject rules otherwise)
    rules_good subject [] otherwise k tests g = good otherwise g
    rules_good subject (r ∷ rules) otherwise k tests g =
        let same = items L 0 (part r.body) in
        let other = items L 0 (code_of_rules part subject rules otherwise) in
        both count (all_tested L subject r.tests (words same)) (same ++ other) (all_tested_sound p L count has subject r.tests (words same) k tests.0)
        (both count same other (good r.body 0) (rules_good subject rules otherwise k tests.1 0))

    end_good : (e : End) → EndKept p e → IsGood (code_of_end part e)
    end_good (end.Equal a b truth next) k g = compared_sound p L count has a b truth next k.0 k.1.0 k.1.1.0
    end_good (end.Call target f sources) k g = call_sound p L count has target f sources k.0 k.1.0 k.1.1
    end_good (end.Match s rules otherwise) k g = rules_good s rules otherwise k.0 k.1 g
    end_good (end.Throw s) k g = thrown_sound p L count has s k
    end_good end.Halt k g = halted_sound p L count has

  abbrev OneKept : Option Body → Type 0
  OneKept None = Unit {0}
  OneKept (Some b) = BodyKept p b

  body_good : (part : ℕ → Code) → ((i : ℕ) → IsGood (part i)) → (o : Option Body) → OneKept o → IsGood (code_of_body part o)
  body_good part good None k = λ g. halted_sound p L count has
  body_good part good (Some b) k = steps_good b.steps (code_of_end part b.end) k.0 (end_good part good b.end k.1)

  got_kept : (bodies : List Body) (i : ℕ) → AllByRecursion (BodyKept p) bodies → OneKept (slice_get bodies i)
  got_kept [] i k = tt
  got_kept (b ∷ bodies) zero k = k.0
  got_kept (b ∷ bodies) (suc i) k = got_kept bodies i k.1

  within_good : (n : ℕ) (bodies : List Body) → AllByRecursion (BodyKept p) bodies → (i : ℕ) → IsGood (code_within n bodies i)
  within_good zero bodies k i = λ g. halted_sound p L count has
  within_good (suc n) bodies k i = body_good (code_within n bodies) (within_good n bodies k) (slice_get bodies i) (got_kept bodies i k)

  framed_good : (n : ℕ) (c : Code) → IsGood c → IsGood (framed n c)
  framed_good zero c good = good
  framed_good (suc n) c good = λ g. both count (making.framed L (suc n)) (items L 0 c) (framed_sound p L count has (suc n)) (good 0)

pub function_sound : (p : Placed) (L : Labels) (count : ℕ) → IsProgram p → HasLabels p L count → (f : Function) → AreSound count (items L 0 (function_code p.bodies f))
function_sound p L count is has f =
    All-from_recursion (IsSound count) (items L 0 (function_code p.bodies f))
    (framed_good p L count has f.frame _ (within_good p L count has (length p.bodies) p.bodies is.kept f.body) 0)
