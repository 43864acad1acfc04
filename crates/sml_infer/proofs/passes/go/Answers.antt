use Rattle.std.proofs.Common.{◌≡◌, arith, refl, sym, subst, ◌∙◌, ℕ, Err}
use Rattle.infer_scopes.specs.Prefix.{IsPrefix}
use Rattle.sml_infer.specs.Going.{now}
use Rattle.sml_infer.proofs.PassFacts.{keeps_same, keeps_then, going_as, untypable_as}
use Rattle.sml_infer.proofs.passes.go.Goals as goal

pub turns-init : goal.turns-init
turns-init c = record { count = refl; within = c.requires.within; going = c.requires.going; kept = keeps_same (now c.args.work.now) }

pub turn-requires-clause-prefix : goal.turn-requires-clause-prefix
turn-requires-clause-prefix c = subst (λ (n : ℕ). IsPrefix c.args.bare.now.nodes n) (sym c.turns.invariant.count) c.requires.prefix

pub turns-preserved : goal.turns-preserved
turns-preserved c =
    let inv = c.turns.invariant in
    let e = c.in-Ok.ensures in
    let before = c.turns.work in
    let after = c.turn.new.work in
    let test = c.turns-test.true in
    let count = c.turn.ensures.count in
    let done = e.done in
    record {
      count = count ∙ inv.count;
      within = omega (arith, test, count, done);
      going = going_as c.args.bare.now c.args.declared.now (now after) before.count after.done after.done after.count after.done after.done (sym count) refl refl e.going;
      kept = keeps_then (now c.args.work.now) (now before) (now after) inv.kept e.kept;
    }

pub returns-clause-going : goal.returns-clause-going
returns-clause-going c =
    let inv = c.turns.invariant in
    let within = inv.within in
    let stop = c.turns-test.false in
    let done : c.turns.work.done ≡ c.turns.work.count = omega arith in
    going_as c.args.bare.now c.args.declared.now (now c.turns.work) c.turns.work.count c.turns.work.done c.turns.work.done c.args.work.now.count c.args.work.now.count c.args.work.now.count inv.count (done ∙ inv.count) (done ∙ inv.count) inv.going

pub returns-clause-done : goal.returns-clause-done
returns-clause-done c =
    let inv = c.turns.invariant in
    let within = inv.within in
    let stop = c.turns-test.false in
    let done : c.turns.work.done ≡ c.turns.work.count = omega arith in
    done ∙ inv.count

pub returns-in-Err-clause-refused : goal.returns-in-Err-clause-refused
returns-in-Err-clause-refused c = untypable_as {A = Unit {0}} c.args.bare.now c.turns.work.count c.args.work.now.count (Err c.in-Err.failed) c.turns.invariant.count c.in-Err.ensures.refused
