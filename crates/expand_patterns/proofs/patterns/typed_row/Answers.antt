use Rattle.sml_expansion.specs.Patterns.{identifier}
use Rattle.sml_expansion.specs.Scopes.{Scope, meaning_of}
use Rattle.expand_patterns.proofs.Behind.{if_ok}
use Rattle.expand_patterns.proofs.Joining.{typed_from, typed_row_at}
use Rattle.expand_patterns.proofs.patterns.typed_row.Goals as goal

pub returns : goal.returns
returns c =
    let names = c.args.parsed.now.names in
    let i = c.ident.result in
    let f = λ (m : Scope). identifier m.names c.args.place i (meaning_of m i.key) in
    if_ok c.close_typed.result
    (λ trees h l b j k. typed_row_at names c.args.place l b i trees c.args.walk.now c.close_typed.new.walk c.args.bound.now.items c.identifier.new.bound.items (c.ident.ensures l j)
    (typed_from names f c.args.place b c.in_ok-ty.ty trees c.type_of.new.made c.args.walk.now c.close_typed.new.walk c.args.bound.now.items c.identifier.new.bound.items (c.in_ok-ty.ensures b k)
    (h names f c.in_ok-identifier.field-0 (record c.args.walk.now { made = c.type_of.new.made }) c.open.new.self c.args.bound.now.items c.identifier.new.bound.items c.in_ok-open.ensures c.in_ok-identifier.ensures)))
    c.close_typed.ensures
