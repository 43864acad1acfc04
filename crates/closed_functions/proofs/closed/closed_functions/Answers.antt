use Rattle.std.proofs.Common.{sym, subst}
use Rattle.std.proofs.lemmas.Result.{IfOk-weaker}
use Rattle.cps_ir.specs.Program.{code_at}
use Rattle.cps_ir.specs.Slim.{layouts}
use Rattle.cps_free.specs.Same.{AreSame}
use Rattle.close_laws.specs.Layouts.{closed_names}
use Rattle.closed_functions.specs.Round.{NamedOnce, IsGreatest}
use Rattle.closed_functions.proofs.Names.{layouts_named_once}
use Rattle.closed_functions.proofs.Rounding.{are_closed}
use Rattle.closed_functions.proofs.closed.closed_functions.Goals as goal

pub closed_among-requires : goal.closed_among-requires
closed_among-requires c = subst NamedOnce (sym c.requires) (layouts_named_once (code_at c.args.program.now.bodies 0) c.bodies.ensures.kept.once)

pub returns : goal.returns
returns c =
    let code = code_at c.args.program.now.bodies 0 in
    IfOk-weaker c.closed_among.result (λ s. IsGreatest c.args.all.now s.keys) (λ s. AreSame s.keys (closed_names (layouts code))) (λ s g. are_closed code s.keys (subst (λ ls. IsGreatest ls s.keys) c.requires g)) c.closed_among.ensures
