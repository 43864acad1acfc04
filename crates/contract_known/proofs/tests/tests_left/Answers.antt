use Rattle.std.proofs.Common.{◌≡◌, ◌∙◌}
use Rattle.std.proofs.lemmas.Result.{IfOk-weaker}
use Rattle.contract_known.specs.Known.{place_of, made_at, as_left, tests_known, AreLeft}
use Rattle.contract_known.proofs.Law.{left_is}
use Rattle.contract_known.proofs.tests.tests_left.Goals as goal

pub returns : goal.returns
returns c =
    let texts = c.args.texts.now in
    let σ = place_of c.args.places.now in
    let τ = made_at c.args.blocks.now c.args.root in
    let a = c.args.atom in
    let tests = c.args.tests.now in
    IfOk-weaker c.left_of.result (λ l. as_left l ≡ tests_known texts σ τ a tests) (λ l. AreLeft texts σ τ a tests (as_left l)) (λ l e ι. e ∙ left_is texts σ τ ι a tests) c.left_of.ensures
