use Rattle.std.proofs.Common.{◌≡◌, ◌<◌, List, Some, length, sym, ap, ◌∙◌, refl, arith}
use Rattle.std.specs.Prelude.{slice_get}
use Rattle.std.proofs.lemmas.Option.{slice_get-get_or}
use Rattle.sml_tree.specs.declared.bare.Node.{Node}
use Rattle.sml_tree.specs.declared.bare.Node.TheVariants.{Let}
use Rattle.infer_scopes.proofs.ScopeFacts.{if_ok}
use Rattle.infer_scopes.proofs.StepFacts.{body_entered, body_closed}
use Rattle.infer_scopes.proofs.scopes.Scopes.enter_body.Goals as goal

pub returns-in-Let-clause-closed : goal.returns-in-Let-clause-closed
returns-in-Let-clause-closed c =
    let below : c.args.node < length c.items.result.now = omega (arith, ap length c.items.ensures, c.len.ensures, c.if-at-len.false) in
    let here : slice_get c.args.bare.now.nodes c.args.node ≡ Some (Let c.in-Let.dec c.in-Let.body) =
    ap (λ (ns : List Node). slice_get ns c.args.node) (sym c.items.ensures) ∙ slice_get-get_or c.items.result.now c.args.node c.index-items-at.result below ∙ ap Some (sym c.index-items-at.is ∙ c.in-Let.is) in
    if_ok c.enter_behind.result _ _ (λ u h. body_closed c.args.bare.now.nodes c.args.node c.in-Let.dec c.in-Let.body c.args.unclosed.now c.in-Some.scope c.args.self.now c.enter_behind.new.self (c.in-Some.ensures.is c.in-Some.scope refl) here h) c.enter_behind.ensures

pub returns-in-Let-clause-entered : goal.returns-in-Let-clause-entered
returns-in-Let-clause-entered c =
    let below : c.args.node < length c.items.result.now = omega (arith, ap length c.items.ensures, c.len.ensures, c.if-at-len.false) in
    let here : slice_get c.args.bare.now.nodes c.args.node ≡ Some (Let c.in-Let.dec c.in-Let.body) =
    ap (λ (ns : List Node). slice_get ns c.args.node) (sym c.items.ensures) ∙ slice_get-get_or c.items.result.now c.args.node c.index-items-at.result below ∙ ap Some (sym c.index-items-at.is ∙ c.in-Let.is) in
    if_ok c.enter_behind.result _ _ (λ u h. body_entered c.args.bare.now.nodes c.args.node c.in-Let.dec c.in-Let.body c.args.unclosed.now c.in-Some.scope c.args.self.now c.enter_behind.new.self (c.in-Some.ensures.is c.in-Some.scope refl) here h) c.enter_behind.ensures
