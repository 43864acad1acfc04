use Rattle.std.proofs.Common.{◌≡◌, ◌∙◌}
use Rattle.std.proofs.lemmas.Result.{IfOk-weaker}
use Rattle.lifetime_users.specs.Users.{label_in}
use Rattle.variable_users.proofs.Counts.{labelled}
use Rattle.variable_users.proofs.labels.label.Goals as goal

pub returns : goal.returns
returns c all are =
    IfOk-weaker c.number.result (λ n. n ≡ c.place.result) (λ n. n ≡ label_in all c.args.point) (λ n e. e ∙ labelled all c.args.ranks.now c.args.point c.rank.result c.place.result are c.rank.ensures c.place.ensures) c.number.ensures
