use Rattle.std.proofs.Common.{◌≡◌, Some, sym, ◌∙◌, arith}
use Rattle.convert_groups.specs.Groups.{stands_for}
use Rattle.convert_groups.proofs.Numbers.{goes_in}
use Rattle.convert_groups.proofs.named.function_number.Goals as goal

pub loop-inner-smaller : goal.loop-inner-smaller
loop-inner-smaller c =
    let stands : stands_for c.args.terms.now c.loop-inner.at ≡ Some c.in-Some.inner = sym c.stands_for.ensures ∙ c.in-Some.is in
    let g = goes_in c.args.terms.now c.requires c.loop-inner.at c.in-Some.inner stands in
    omega (arith, g.1, g.2)

pub loop-inner-preserved : goal.loop-inner-preserved
loop-inner-preserved c =
    let stands : stands_for c.args.terms.now c.loop-inner.at ≡ Some c.in-Some.inner = sym c.stands_for.ensures ∙ c.in-Some.is in
    sym (goes_in c.args.terms.now c.requires c.loop-inner.at c.in-Some.inner stands).0 ∙ c.loop-inner.invariant
