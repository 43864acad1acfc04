use Rattle.std.proofs.Common.{rules, List, ◌∷◌, [], ◌++◌, ap, ◌∙◌}
use Rattle.sml_types.specs.Forms.{AreForms}
use Rattle.sml_types.specs.Typing.{IsExnTy}
use Rattle.sml_unify.specs.declared.pair.Pair.{Pair}
use Rattle.infer_state.specs.Variables.{name_var}
use Rattle.infer_nodes.specs.Posed.{pair}
use Rattle.infer_nodes.proofs.Ruled.{posed_var}
use Rattle.infer_nodes.proofs.Constructed.{var_made}
use Rattle.infer_nodes.proofs.exception.exn_con.Goals as goal

pub returns : goal.returns
returns c names =
    let forms : AreForms c.args.types.now = search rules in
    let v = name_var c.args.bare.now c.args.name.0 in
    let alone = c.in_ok-push.ensures.ok ∙ ap (λ (qs : List Pair). qs ++ pair c.in_ok-own.own c.in_ok-made.made ∷ []) c.requires.empty in
    var_made names (λ f. IsExnTy c.args.takes (f v)) c.args.next.now c.args.types.now c.exn_type.new.next c.exn_type.new.types c.push.new.self c.in_ok-own.own v c.requires.below c.in_ok-own.ensures
    (posed_var names (λ f u. IsExnTy c.args.takes u) c.args.next.now c.args.types.now c.exn_type.new.next c.exn_type.new.types c.in_ok-own.own c.in_ok-made.made v c.push.new.self forms c.requires.below c.in_ok-own.ensures alone (c.in_ok-made.ensures names))
