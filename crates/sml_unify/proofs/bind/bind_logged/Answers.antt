use Rattle.std.proofs.Common.{List, ℕ, sym, subst}
use Rattle.sml_unify.specs.Steps.{IsLogged}
use Rattle.sml_unify.proofs.Logs.{logged_push}
use Rattle.sml_unify.proofs.bind.bind_logged.Goals as goal

pub returns-clause-logged : goal.returns-clause-logged
returns-clause-logged c old l =
    subst
    (λ (log : List ℕ). IsLogged old c.bind.new.bound log)
    (sym c.in_ok-push.ensures.items)
    (logged_push old c.args.bound.now c.bind.new.bound c.args.log.now.items c.args.num l c.requires c.bind.ensures.longer c.bind.ensures.others)
