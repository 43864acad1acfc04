use Rattle.std.proofs.Common.{List, ℕ, ◌∙◌, subst}
use Rattle.infer_state.specs.Fits.{settled_at}
use Rattle.infer_checks.specs.Checked.{ending}
use Rattle.infer_checks.specs.Node.{IsGeneralised}
use Rattle.infer_checks.proofs.values.check_binding.Goals as goal

pub returns : goal.returns
returns c around q =
    let u = c.args.unknowns.now in
    subst
    (λ (xs : List ℕ). IsGeneralised c.args.bare.now (settled_at u.types c.args.settled.now) (ending u c.args.renames.now) c.args.general.now around c.args.binding.right xs)
    (c.deref.ensures.value ∙ c.in_ok-names.ensures)
    (c.in_ok-check_general.ensures around q)
