use Rattle.std.proofs.Common.{◌≡◌, ◌∙◌, sym, ap, Bool, true, false, refl}
use Rattle.std.specs.Prelude.{not, is_some, ◌||◌, ◌==◌}
use Rattle.std.specs.List.{list_any}
use Rattle.close_laws.specs.Close.{none_at_hand}
use Rattle.close_steps.proofs.Found.{found_record, no_record}
use Rattle.close_groups.proofs.Noted.{noted_some}
use Rattle.close_groups.proofs.members.is_lacking.Goals as goal

or_true : (b : Bool) → (b || true) ≡ true
or_true true = refl
or_true false = refl

or_false : (b : Bool) → (b || false) ≡ b
or_false true = refl
or_false false = refl

pub returns-in-Some : goal.returns-in-Some
returns-in-Some c =
    ap not (sym (noted_some _ c.args.found.now c.args.class ∙ ap (λ o. list_any (λ j. j == c.args.class) c.args.found.now || is_some o) (found_record _ none_at_hand c.args.class _ (sym c.find.ensures ∙ c.in-Some.is)) ∙ or_true _))

pub returns-in-None : goal.returns-in-None
returns-in-None c =
    ap not (c.contains.ensures.value ∙ sym (noted_some _ c.args.found.now c.args.class ∙ ap (λ o. list_any (λ j. j == c.args.class) c.args.found.now || is_some o) (no_record _ none_at_hand c.args.class (sym c.find.ensures ∙ c.in-None.is)) ∙ or_false _))
