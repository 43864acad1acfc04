use Rattle.std.proofs.Common.{refl}
use Rattle.sml_unify.proofs.CopyFacts.{renames_kept}
use Rattle.sml_infer.proofs.Naming.{named_by}
use Rattle.sml_infer.proofs.schemes.name_scheme.Goals as goal

pub returns-clause-renames : goal.returns-clause-renames
returns-clause-renames c = renames_kept c.args.renames.now c.args.types.now c.resolve.new.types c.resolve.ensures.vars c.requires.ready.renames_agree

pub returns-clause-named : goal.returns-clause-named
returns-clause-named c =
    named_by c.args.bare.now c.args.types.now c.resolve.new.types c.args.subst.now.bound c.args.renames.now c.args.starts.now c.args.settled.now c.args.name c.in_ok-opened.opened _
    c.forms.ensures.kept c.requires.ready c.requires.name c.in_ok-opened.ensures refl refl c.in_ok-resolved.ensures.there c.in_ok-resolved.ensures.is
