use Rattle.std.proofs.Common.{ap, ◌∙◌}
use Rattle.std.specs.Ordering.{nat_cmp}
use Rattle.std.specs.BTreeMap.{get}
use Rattle.left_words.specs.Tables.{numbered}
use Rattle.left_words.proofs.tables.find.Goals as goal

pub returns-in-Some : goal.returns-in-Some
returns-in-Some c =
    c.site_at.ensures ∙ ap (numbered c.args.sites.now) c.in-Some.ensures.value ∙ ap (λ r. numbered c.args.sites.now (get nat_cmp c.args.numbers.now r)) c.rank-rank.ensures ∙ c.requires c.args.point

pub returns-in-None : goal.returns-in-None
returns-in-None c =
    ap (numbered c.args.sites.now) c.in-None.ensures.value ∙ ap (λ r. numbered c.args.sites.now (get nat_cmp c.args.numbers.now r)) c.rank-rank.ensures ∙ c.requires c.args.point
