use Rattle.std.proofs.Common.{◌++◌, ◌∷◌, [], List, ℕ, take, sym, subst}
use Rattle.std.specs.Prelude.{get_or}
use Rattle.std.proofs.lemmas.List.{take_more}
use Rattle.infer_state.specs.Fits.{settled_at}
use Rattle.infer_checks.specs.Checked.{ending}
use Rattle.infer_checks.specs.Ending.{Lists, IsOpenName, IsOpenNameAmong, IsSettledOrOwn}
use Rattle.infer_checks.proofs.ListFacts.{all_take}
use Rattle.infer_checks.proofs.AroundFacts.{among_step}
use Rattle.infer_checks.proofs.surroundings.left_numbers.Goals as goal

pub names-preserved : goal.names-preserved
names-preserved c =
    let f = ending c.args.unknowns.now c.args.renames.now in
    let known = settled_at c.args.unknowns.now.types c.args.settled.now in
    let names : List ℕ = c.args.names.now in
    let i = c.names.name-index in
    let more = c.in_ok-add_left.ensures.lists in
    record {
      lists =
          subst
          (λ (vs : List ℕ). Lists (IsOpenNameAmong known f vs) c.add_left.new.numbers.items)
          (sym (take_more names i 0 c.names-test.true))
          (subst (λ (xs : List ℕ). Lists (IsOpenNameAmong known f (take i names ++ get_or names i 0 ∷ [])) xs) (sym more.1) (among_step (IsOpenName known f) (take i names) (get_or names i 0) c.names.numbers.items more.0 c.names.invariant.lists more.2));
      settled = λ around q. all_take (IsSettledOrOwn known around) names i 0 c.names-test.true (c.names.invariant.settled around q) (c.in_ok-add_left.ensures.settled around q);
    }
