use Rattle.std.proofs.Common.{rules, ◌≤◌, ◌-◌, length, take, reverse, ap, ◌∙◌}
use Rattle.sml_expansion.proofs.ScopedLemmas.{all_copied, behind_log}
use Rattle.sml_expansion.proofs.scoped.Scoped.behind.Goals as goal

pub returns : goal.returns
returns g c =
    let past : length c.self.inside.log.items ≤ c.loop-at.at = search rules in
    all_copied c.self.inside.log.items c.loop-at.at c.loop-at.newer.items _ past c.loop-at.invariant
    ∙ behind_log c.self.inside.log.items c.args.count
    ∙ ap (λ env. reverse (take (length env - c.args.count) env)) c.self.view_is
