use Rattle.std.proofs.Common.{rules, ◌≡◌, ◌<◌, ◌^◌, suc, length}
use Rattle.sml_derive.proofs.Wholes.{completed_is}
use Rattle.sml_derive.proofs.program.completed.Goals as goal

pub returns : goal.returns
returns c =
    let few : suc (length c.args.expanded.nodes) < 2 ^ 32 = search rules in
    let texts : c.in_ok-texts.texts ≡ c.args.tree.now.texts = search rules in
    completed_is c.args.library.now c.args.tree.now c.args.expanded c.in_ok-texts.texts c.args.width c.requires.ready c.requires.kept c.requires.same c.requires.width c.requires.narrow texts few
