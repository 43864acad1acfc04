-- Before the first site nothing is decided but what terms need.
use Rattle.std.proofs.Common.{◌≡◌, ℕ, zero, suc, Bool, true, false, ◌||◌, List, [], ◌∷◌, Option, None, refl, ap, ◌∙◌, arith, map}
use Rattle.lambda_ir.specs.declared.term.Term.{Term}
use Rattle.convert_laws.specs.Needs.{needs}
use Rattle.convert_decide.specs.declared.table.Fact.{Fact}
use Rattle.convert_decide.specs.Table.{fact_in, AreFacts}
use Rattle.convert_decide.specs.Decide.{item_in, nothing_decided, IsDecided}

item_needs : (facts : List Fact) (j : ℕ) → item_in false (map (λ f. f.needs) facts) j ≡ (fact_in facts j).needs
item_needs [] zero = refl
item_needs [] (suc j) = refl
item_needs (f ∷ facts) zero = refl
item_needs (f ∷ facts) (suc j) = item_needs facts j

or_false : (b : Bool) → b ≡ (b || false)
or_false true = refl
or_false false = refl

pub begun : (terms : List Term) (facts : List Fact) → AreFacts terms facts → (own : List Bool) → own ≡ map (λ f. f.needs) facts → (pending : List (Option ℕ)) → ((j : ℕ) → item_in None pending j ≡ None) → IsDecided terms nothing_decided own pending
begun terms facts known own e pending none = record {
  own_at =
      λ j. ap (λ r. item_in false r j) e ∙ item_needs facts j ∙ ap (λ (f : Fact). f.needs) (known.at j (omega arith)) ∙ or_false (needs terms j);
  pending_at = none;
}
