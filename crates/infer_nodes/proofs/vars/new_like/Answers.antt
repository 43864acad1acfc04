use Rattle.sml_types.specs.declared.types.TyVar.{TyVar}
use Rattle.std.proofs.Common.{refl}
use Rattle.infer_nodes.specs.Made.{new_var}
use Rattle.infer_nodes.proofs.Making.{new_stands, new_added}
use Rattle.infer_nodes.proofs.vars.new_like.Goals as goal

pub returns-clause-is : goal.returns-clause-is
returns-clause-is c =
    new_stands c.args.types.now c.var.new.self (new_var c.args.next.now c.args.var) c.in_ok-ty.ty c.in_ok-ty.ensures.ok.0 c.in_ok-ty.ensures.ok.1

pub returns-clause-added : goal.returns-clause-added
returns-clause-added c =
    new_added c.args.types.now c.var.new.self (new_var c.args.next.now c.args.var) c.args.next.now refl c.requires.below c.in_ok-ty.ensures.ok.1
