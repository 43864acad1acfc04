use Rattle.std.proofs.Common.{refl}
use Rattle.sml_types.specs.Forms.{tree, form_tree}
use Rattle.infer_parts.proofs.CopySteps.{pushed, pushed_vars, pushed_means}
use Rattle.infer_parts.proofs.Forms.{no_var}
use Rattle.infer_parts.proofs.written.pushed.Goals as goal

pub push-requires-clause-named : goal.push-requires-clause-named
push-requires-clause-named c i v w e q m = absurd (no_var c.args.form w c.requires.plain q)

pub returns-clause-ok : goal.returns-clause-ok
returns-clause-ok c = pushed_means c.args.types.now c.push.new.self c.args.form (form_tree (tree c.args.types.now) c.args.form) c.push.result c.push.ensures.ok c.push.ensures.means refl

pub returns-clause-longer : goal.returns-clause-longer
returns-clause-longer c = pushed c.args.types.now c.push.new.self c.args.form c.push.result c.push.ensures.ok c.push.ensures.err

pub returns-clause-vars : goal.returns-clause-vars
returns-clause-vars c = pushed_vars c.args.types.now c.push.new.self c.args.form c.push.result (λ w q. no_var c.args.form w c.requires.plain q) c.push.ensures.ok c.push.ensures.err
