use Rattle.std.proofs.Common.{◌∙◌}
use Rattle.std.proofs.lemmas.Result.{on_ok_weaker}
use Rattle.expand_types.proofs.DatatypeLemmas.{pushed}
use Rattle.expand_types.proofs.datatypes.Datatypes.push.Goals as goal

pub returns : goal.returns
returns c =
    let src = c.args.parsed.now in
    let d = c.args.self.now in
    on_ok_weaker c.push.result (λ h. pushed src.names c.args.type_name c.args.ident c.args.vars.now c.args.cons.now d.bindings c.push.new.self d.idents c.push_idents.new.idents d.values c.push_values.new.values _ _ _ (c.from_vec-text.ensures ∙ c.in_ok-from_slice.ensures.items ∙ c.text.ensures) c.in_ok-params.ensures c.in_ok-bound.ensures h c.in_ok-push_idents.ensures c.in_ok-push_values.ensures) c.push.ensures.ok
