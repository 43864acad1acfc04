use Rattle.std.proofs.Common.{◌≡◌, ◌+◌, ℕ, arith, subst}
use Rattle.sml_infer.specs.Begun.{AreNone}
use Rattle.sml_infer.proofs.StartFacts.{none_yet, none_more}
use Rattle.sml_infer.proofs.start.nothing.Goals as goal

pub places-init : goal.places-init
places-init g c = none_yet c.new-places.result.items c.new-places.ensures.items

pub places-preserved : goal.places-preserved
places-preserved g c = none_more c.places.counter (c.places.counter + 1) c.places.places.items c.push.new.self.items (omega arith) c.in_ok-push.ensures.items c.places.invariant

pub returns : goal.returns
returns g c =
    let past = c.places-test.false in
    let most = c.places.auto.counter-end in
    let last : c.places.counter ≡ c.args.count = omega (arith, past, most) in
    subst (λ (n : ℕ). AreNone n c.places.places.items) last c.places.invariant
