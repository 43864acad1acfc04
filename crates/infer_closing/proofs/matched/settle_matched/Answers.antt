use Rattle.std.proofs.Common.{◌≡◌, List, Some, sym, ap, ◌∙◌, subst}
use Rattle.std.specs.Prelude.{slice_get}
use Rattle.std.proofs.lemmas.Option.{slice_get-get_or}
use Rattle.sml_tree.specs.declared.bare.Node.{Node}
use Rattle.infer_state.specs.Fits.{settled_at}
use Rattle.infer_closing.proofs.MatchFacts.{matched_call}
use Rattle.infer_closing.proofs.matched.settle_matched.Goals as goal

pub returns-clause-suited : goal.returns-clause-suited
returns-clause-suited c t f n fits suits q binds rule =
    let u = c.args.unknowns.now in
    let p = c.args.bare.now in
    let found = c.in-Some.found.now in
    let here = slice_get-get_or c.items.result.now c.args.node found c.in-Some.ensures.lookup.3.0 ∙ ap Some (sym c.in-Some.ensures.lookup.1) in
    matched_call p t f (settled_at u.types c.args.settled.now.items) (settled_at u.types c.settle_rules.new.settled.items) c.args.node n found c.in-Some-rules_of.rules.now c.items-2.result.now fits suits q (subst (λ (ns : List Node). slice_get ns c.args.node ≡ Some found) c.items.ensures here) (c.in-Some-rules_of.ensures.some p.nodes) c.items-2.ensures binds rule c.in_ok-settle_rules.ensures.newly
