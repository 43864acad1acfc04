use Rattle.std.proofs.Common.{◌<◌, ◌++◌, ◌∷◌, [], List, ℕ, length, take, sym, subst}
use Rattle.std.specs.Prelude.{get_or}
use Rattle.std.proofs.lemmas.List.{take_more}
use Rattle.infer_checks.specs.Checked.{ending}
use Rattle.infer_checks.specs.Ending.{Lists, IsOpenType, IsOpenTypeAmong}
use Rattle.infer_checks.proofs.ListFacts.{all_take}
use Rattle.infer_checks.proofs.AroundFacts.{among_step}
use Rattle.infer_checks.proofs.surroundings.types_numbers.Goals as goal

pub names-preserved : goal.names-preserved
names-preserved c =
    let p = c.args.bare.now in
    let f = ending c.args.unknowns.now c.args.renames.now in
    let names : List ℕ = c.args.names.now in
    let i = c.names.name-index in
    let more = c.in_ok-add_type.ensures.lists in
    record {
      lists =
          subst
          (λ (vs : List ℕ). Lists (IsOpenTypeAmong p f vs) c.add_type.new.numbers.items)
          (sym (take_more names i 0 c.names-test.true))
          (subst (λ (xs : List ℕ). Lists (IsOpenTypeAmong p f (take i names ++ get_or names i 0 ∷ [])) xs) (sym more.1) (among_step (IsOpenType p f) (take i names) (get_or names i 0) c.names.numbers.items more.0 c.names.invariant.lists more.2));
      few = all_take (λ x. x < length p.names) names i 0 c.names-test.true c.names.invariant.few c.in_ok-add_type.ensures.few;
    }
