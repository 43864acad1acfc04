use Rattle.std.proofs.Common.{sym, subst}
use Rattle.sml_tree.specs.declared.bare.Node.{Node}
use Rattle.infer_state.specs.Fits.{settled_at}
use Rattle.infer_state.specs.Typings.{IsReady}
use Rattle.infer_laws.specs.Gives.{IsOwnOpen}
use Rattle.sml_infer.proofs.ready.is_ready.Goals as goal

regroup : {A B C : Type 0} → A × B × C → (A × B) × C
regroup r = ((r.0, r.1), r.2)

pub returns-in-Var : goal.returns-in-Var
returns-in-Var c = λ forms k h e. subst (λ (n : Node). IsReady (settled_at forms c.args.settled.now) k n × IsOwnOpen (settled_at forms c.args.settled.now) k n) (sym c.in-Var.is) (regroup (c.name_ready.ensures forms k h e))

pub returns-in-Constructor : goal.returns-in-Constructor
returns-in-Constructor c = λ forms k h e. subst (λ (n : Node). IsReady (settled_at forms c.args.settled.now) k n × IsOwnOpen (settled_at forms c.args.settled.now) k n) (sym c.in-Constructor.is) ((c.con_ready.ensures forms k h e, tt))

pub returns-in-PatCon : goal.returns-in-PatCon
returns-in-PatCon c = λ forms k h e. subst (λ (n : Node). IsReady (settled_at forms c.args.settled.now) k n × IsOwnOpen (settled_at forms c.args.settled.now) k n) (sym c.in-PatCon.is) ((c.con_ready-in-PatCon.ensures forms k h e, tt))

pub returns-in-PatApp : goal.returns-in-PatApp
returns-in-PatApp c = λ forms k h e. subst (λ (n : Node). IsReady (settled_at forms c.args.settled.now) k n × IsOwnOpen (settled_at forms c.args.settled.now) k n) (sym c.in-PatApp.is) ((c.con_ready-in-PatApp.ensures forms k h e, tt))

pub returns-in-SameException : goal.returns-in-SameException
returns-in-SameException c = λ forms k h e. subst (λ (n : Node). IsReady (settled_at forms c.args.settled.now) k n × IsOwnOpen (settled_at forms c.args.settled.now) k n) (sym c.in-SameException.is) ((c.con_ready-in-SameException.ensures forms k h e, tt))
