use Rattle.std.proofs.Common.{rules, ◌<◌, ◌≤◌, length, sym, ap, ◌∙◌}
use Rattle.sml_expansion.specs.Scoped.{oldest}
use Rattle.sml_expansion.proofs.ScopedLemmas.{oldest_all, oldest_rest}
use Rattle.sml_expansion.proofs.scoped.Scoped.undo_to.Goals as goal

pub loop-self-preserved : goal.loop-self-preserved
loop-self-preserved g c =
    let more : c.args.bindings < length c.loop-self.self = search rules in
    ap (oldest c.args.bindings) c.undo.ensures ∙ oldest_rest c.args.bindings c.loop-self.self more ∙ c.loop-self.invariant

pub returns : goal.returns
returns g c =
    let few : length c.loop-self.self ≤ c.args.bindings = search rules in
    sym (oldest_all c.args.bindings c.loop-self.self few) ∙ c.loop-self.invariant
