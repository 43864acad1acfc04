use Rattle.std.proofs.Common.{◌≡◌, false, sym, ◌∙◌, length, rules}
use Rattle.std.proofs.lemmas.List.{nil_from_length}
use Rattle.std.proofs.lemmas.Result.{IfOk-weaker}
use Rattle.convert_decide.specs.Decide.{item_in}
use Rattle.convert_terms.proofs.Formed.{isnt_empty, empty_tuple, tuple_begun}
use Rattle.convert_terms.proofs.terms.tuple.Goals as goal

pub returns-then-is_empty : goal.returns-then-is_empty
returns-then-is_empty c =
    let none : length c.parts_at.result.now ≡ 0 = search rules in
    empty_tuple (item_in false c.args.source.own.now) c.args.source.terms.now c.args.world.now c.args.binds.now c.args.term c.args.scope c.args.next c.args.continuation
    (sym c.parts_at.ensures ∙ nil_from_length c.parts_at.result.now none)

pub returns : goal.returns
returns c =
    IfOk-weaker c.parts.result _ _
    (λ t h. tuple_begun (item_in false c.args.source.own.now) c.args.source.terms.now c.args.world.now _ c.args.binds.now _ c.args.term c.args.scope c.args.next _ c.args.continuation _
    (λ e. isnt_empty c.parts_at.result.now (sym c.is_empty.ensures ∙ c.if-is_empty.false) (c.parts_at.ensures ∙ e)) c.new.ensures h)
    c.parts.ensures
