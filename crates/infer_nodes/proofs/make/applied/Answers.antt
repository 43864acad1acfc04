use Rattle.std.proofs.Common.{ap, length, map}
use Rattle.sml_types.specs.declared.types.Ty.{Ty}
use Rattle.sml_types.specs.declared.types.TyForm.TheVariants.{Named}
use Rattle.sml_types.specs.Tree.{App, NameHead}
use Rattle.sml_types.specs.Forms.{tree}
use Rattle.sml_types.specs.Library.{name_ty}
use Rattle.infer_parts.proofs.Forms.{args_there}
use Rattle.infer_parts.proofs.Placed.{listed_parts}
use Rattle.infer_nodes.proofs.Making.{fixed_pushed}
use Rattle.infer_nodes.proofs.make.applied.Goals as goal

pub pushed-requires-clause-parts : goal.pushed-requires-clause-parts
pushed-requires-clause-parts c = args_there (length c.args.types.now) c.args.name c.args.args c.requires.args

pub returns : goal.returns
returns c =
    fixed_pushed c.args.types.now c.pushed.new.types (Named c.args.name c.args.args) (name_ty c.args.name (map (λ a. tree c.args.types.now a.0) c.args.args)) c.pushed.result c.pushed.ensures.ok c.pushed.ensures.longer c.pushed.ensures.vars (ap (App (NameHead c.args.name)) (listed_parts (tree c.args.types.now) (λ (a : Ty). a.0) c.args.args))
