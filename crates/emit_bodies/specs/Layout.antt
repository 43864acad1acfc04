-- Where the items of bodies stand, by the numbers of the bodies.
use Rattle.std.specs.Prelude.{ℕ, zero, suc, ◌-◌, List, [], ◌∷◌, ◌++◌, Option, Some, None, length, take, slice_get}
use Rattle.rv_asm.specs.declared.item.Item.{Item}
use Rattle.rv_asm.specs.Item.{words}
use Rattle.placed_ir.specs.declared.home.Source.{Source}
use Rattle.placed_ir.specs.declared.body.Rule.{Rule}
use Rattle.placed_ir.specs.declared.body.End.{End}
use Rattle.placed_ir.specs.declared.body.End.TheVariants as end
use Rattle.placed_ir.specs.declared.body.Body.{Body}
use Rattle.placed_ir.specs.Code.{Code}
use Rattle.placed_ir.specs.Program.{code_at}
use Rattle.emit_items.specs.declared.labels.Labels.{Labels}
use Rattle.emit_items.specs.Tests.{all_tested}
use Rattle.emit_items.specs.Ends.{call, thrown, compared, halted}
use Rattle.emit_items.specs.Body.{items}
use Rattle.emit_code.specs.Steps.{last_group, steps_items}
use Rattle.emit_bodies.specs.declared.task.Task.{Task}
use Rattle.emit_bodies.specs.declared.task.Task.TheVariants.{Whole, Rules, Tests}

-- the rules of a match
abbrev pub rules_of : End → List Rule
rules_of (end.Match s rules otherwise) = rules
rules_of _ = []

-- the words of the group that was made last, where a body begins that is gone on with
abbrev pub group_behind : List Rule → ℕ → ℕ
group_behind [] group = group
group_behind (r ∷ rules) group = 0

module _ (L : Labels) where
  -- an end but that of a match
  abbrev pub end_items : End → List Item
  end_items (end.Equal a b truth k) = compared L a b truth k
  end_items (end.Call target f sources) = call L target f sources
  end_items (end.Match s rules otherwise) = []
  end_items (end.Throw packet) = thrown L packet
  end_items end.Halt = halted L

  module _ (part : ℕ → Code) where
    -- a rule's tests and its code
    abbrev pub rule_text : Source → Rule → List Item
    rule_text s r = all_tested L s r.tests (words (items L 0 (part r.body))) ++ items L 0 (part r.body)

    abbrev pub rules_text : Source → List Rule → List Item
    rules_text s [] = []
    rules_text s (r ∷ rules) = rule_text s r ++ rules_text s rules

    -- the first rules of an end
    abbrev pub first_text : ℕ → End → List Item
    first_text n (end.Match s rules otherwise) = rules_text s (take n rules)
    first_text n _ = []

  abbrev pub found_tests : Source → Option Rule → ℕ → List Item
  found_tests s None after = []
  found_tests s (Some r) after = all_tested L s r.tests after

  abbrev pub tests_text : End → ℕ → ℕ → List Item
  tests_text (end.Match s rules otherwise) k after = found_tests s (slice_get rules k) after
  tests_text _ k after = []

  module _ (bodies : List Body) where
    abbrev pub part : ℕ → Code
    part = code_at bodies

    abbrev pub rules_before : Option Body → (left group : ℕ) → List Item
    rules_before None left group = []
    rules_before (Some b) left group = steps_items L group b.steps ++ first_text part left b.end

    abbrev pub tests_before : Option Body → (rule group after : ℕ) → List Item
    tests_before None rule group after = []
    tests_before (Some b) rule group after = steps_items L group b.steps ++ (first_text part rule b.end ++ tests_text b.end rule after)

    -- what a task makes of the text behind it
    abbrev pub text_of : Task → List Item → List Item
    text_of (Whole i group) text = items L group (part i) ++ text
    text_of (Rules i left group) text = rules_before (slice_get bodies i) left group ++ text
    text_of (Tests i rule behind group) text = tests_before (slice_get bodies i) rule group (words text - behind) ++ text

    -- tasks from that of the beginning of the text to that of its end
    abbrev pub laid : List Task → List Item → List Item
    laid [] text = text
    laid (t ∷ tasks) text = text_of t (laid tasks text)

    -- ---- What is done next

    abbrev pub otherwise_task : ℕ → End → List Task
    otherwise_task group (end.Match s rules otherwise) = Whole otherwise (group_behind rules group) ∷ []
    otherwise_task group _ = []

    abbrev pub whole_tasks : ℕ → ℕ → Option Body → List Task
    whole_tasks i group None = []
    whole_tasks i group (Some b) = Rules i (length (rules_of b.end)) group ∷ otherwise_task (last_group group b.steps) b.end

    abbrev pub whole_text : Option Body → List Item
    whole_text None = halted L
    whole_text (Some b) = end_items b.end

    abbrev pub rule_tasks : (i k group behind : ℕ) → Option Rule → List Task
    rule_tasks i k group behind None = Rules i k group ∷ []
    rule_tasks i k group behind (Some r) = Tests i k behind group ∷ Whole r.body 0 ∷ []

    abbrev pub rules_tasks : (i left group behind : ℕ) → Option Body → List Task
    rules_tasks i left group behind None = []
    rules_tasks i zero group behind (Some b) = []
    rules_tasks i (suc k) group behind (Some b) = rule_tasks i k group behind (slice_get (rules_of b.end) k)

    abbrev pub steps_of : (left group : ℕ) → Option Body → List Item
    steps_of left group None = []
    steps_of zero group (Some b) = steps_items L group b.steps
    steps_of (suc k) group (Some b) = []

    abbrev pub found_text : Option Body → ℕ → ℕ → List Item
    found_text None k after = []
    found_text (Some b) k after = tests_text b.end k after
