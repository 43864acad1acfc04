use Rattle.std.proofs.Common.{rules, ◌≤◌, length, sym}
use Rattle.std.specs.Prelude.{slice_index_or}
use Rattle.std.proofs.lemmas.Option.{slice_get-get_or}
use Rattle.infer_parts.proofs.RoundFacts.{set_is, set_past}
use Rattle.infer_parts.proofs.equality.set_equality.Goals as goal

pub returns-then-number-names : goal.returns-then-number-names
returns-then-number-names c =
    set_is c.args.names.now c.args.number (slice_index_or c.args.names.now c.args.number c.index-names-number.result) c.args.eq (slice_get-get_or c.args.names.now c.args.number c.index-names-number.result c.if-number-names.true)

pub returns-else-number-names : goal.returns-else-number-names
returns-else-number-names c =
    let past : length c.args.names.now ≤ c.args.number = search rules in
    sym (set_past c.args.names.now c.args.number c.args.eq past)
