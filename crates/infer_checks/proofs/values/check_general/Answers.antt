use Rattle.std.proofs.Common.{rules, IsTrue}
use Rattle.infer_state.specs.Fits.{settled_at}
use Rattle.infer_checks.specs.Checked.{ending}
use Rattle.infer_checks.proofs.ValueFacts.{general_of}
use Rattle.infer_checks.proofs.values.check_general.Goals as goal

pub returns : goal.returns
returns c around q =
    let u = c.args.unknowns.now in
    let may : IsTrue c.may_generalise.result = search rules in
    let have : IsTrue c.have_vars.result = search rules in
    let new : IsTrue c.in_ok-are_new.field-0 = search rules in
    general_of c.args.bare.now (settled_at u.types c.args.settled.now) (ending u c.args.renames.now) c.args.general.now c.args.plain.now around c.args.right c.general_vars-vars.result.now c.args.names.now c.general_vars-vars.ensures c.requires.plain (c.may_generalise.ensures may) (c.have_vars.ensures have u.types) (c.in_ok-are_new.ensures new around q)
