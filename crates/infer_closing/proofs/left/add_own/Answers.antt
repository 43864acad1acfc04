use Rattle.std.proofs.Common.{◌+◌, sym, ◌∙◌}
use Rattle.infer_closing.proofs.LeftFacts.{own_gets}
use Rattle.infer_closing.proofs.left.add_own.Goals as goal

pub returns-in_ok-push-in-Var : goal.returns-in_ok-push-in-Var
returns-in_ok-push-in-Var c d q =
    own_gets c.args.bare.now d c.args.types.now c.args.name c.in_ok-ty.ty.0 (c.args.starts.now.names + c.args.name) c.args.left.now c.push.new.self c.in-Var.var c.form.result.now (sym (c.is_own.ensures d q) ∙ c.if-not-is_own.false) c.in_ok-ty.ensures.0 c.in_ok-ty.ensures.1 (c.requires.of_names c.args.name c.in_ok-ty.ensures.0) c.form.ensures.here c.in-Var.is c.in_ok-push-in-Var.ensures.ok
