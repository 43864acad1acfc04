use Rattle.std.proofs.Common.{◌≡◌, ◌<◌, refl, sym, ap, ◌∙◌, arith}
use Rattle.sml_tree.specs.Parts.{parts_of}
use Rattle.sml_tree.specs.declared.tree_node.TreeNode.TheVariants as node
use Rattle.sml_expansion.specs.Sources.{node_at}
use Rattle.sml_expansion.specs.Expressions.{decs}
use Rattle.sml_expansion.proofs.Shapes.{node_is, as_two}
use Rattle.sml_derive.specs.Steps.{scope}
use Rattle.sml_derive.specs.Tops.{Shows}
use Rattle.sml_derive.proofs.Schemas.{on_so}
use Rattle.sml_derive.proofs.TopLemmas.{LeftShown, shows_behind, shows_inside, shows_alone, one_shown_less}
use Rattle.sml_derive.proofs.top_trees.+shown.Goals as goal

pub shown_dec-returns-in_ok-shown_decs-in-MoreDecs : goal.shown_dec-returns-in_ok-shown_decs-in-MoreDecs
shown_dec-returns-in_ok-shown_decs-in-MoreDecs t c = on_so c.shown_decs-in-MoreDecs.result _ _ (λ g u k. as_two c.args.parsed.now c.args.at u node.MoreDecs k (sym c.node.ensures ∙ c.in-MoreDecs.is) refl (λ u. Shows (decs (scope c.args.parsed.now c.args.walk.now) u) c.args.walk.now c.shown_decs-in-MoreDecs.new.walk c.args.shown.now.items c.shown_decs-in-MoreDecs.new.shown.items) (λ p a b h. let parts = c.two-first.ensures.parts _ p a b h in shows_behind c.args.parsed.now p a b c.args.walk.now c.shown_decs.new.walk c.shown_decs-in-MoreDecs.new.walk c.args.shown.now.items c.shown_decs.new.shown.items c.shown_decs-in-MoreDecs.new.shown.items (c.in_ok-shown_decs-in-MoreDecs.ensures a parts.0) (g b parts.1))) c.shown_decs-in-MoreDecs.ensures

pub shown_dec-returns-in_ok-shown_decs-in-Local : goal.shown_dec-returns-in_ok-shown_decs-in-Local
shown_dec-returns-in_ok-shown_decs-in-Local t c = on_so c.hide.result _ _ (λ z u k. as_two c.args.parsed.now c.args.at u node.Local k (sym c.node.ensures ∙ c.in-Local.is) refl (λ u. Shows (decs (scope c.args.parsed.now c.args.walk.now) u) c.args.walk.now c.hide.new.walk c.args.shown.now.items c.shown_decs-in-Local.new.shown.items) (λ p a b h. let parts = c.two-inner.ensures.parts _ p a b h in shows_inside c.args.parsed.now p a b c.args.walk.now c.decs.new.walk c.shown_decs-in-Local.new.walk c.hide.new.walk c.in_ok-trees-in-Local.trees _ _ _ _ c.args.shown.now.items c.note.new.shown.items c.shown_decs-in-Local.new.shown.items (c.in_ok-trees-in-Local.ensures a parts.0) c.in_ok-note-in-Local.ensures (c.in_ok-shown_decs-in-Local.ensures b parts.1) (sym c.len-values.ensures) (sym c.len-inner_values.ensures) (sym c.len-types.ensures) (sym c.len-inner_types.ensures) z)) c.hide.ensures

pub shown_dec-returns-in_ok-trees-in_default : goal.shown_dec-returns-in_ok-trees-in_default
shown_dec-returns-in_ok-trees-in_default t c = on_so c.note-in_default.result _ _ (λ e u k. let root = c.node.ensures ∙ node_is c.args.parsed.now c.args.at u k in shows_alone c.args.parsed.now u c.args.walk.now c.decs-in_default.new.walk c.in_ok-trees-in_default.trees c.args.shown.now.items c.note-in_default.new.shown.items (λ q. c.in_default.not-MoreDecs (root ∙ q)) (λ q. c.in_default.not-Local (root ∙ q)) (c.in_ok-trees-in_default.ensures u k) e) c.note-in_default.ensures

pub shown_decs-loop-first-preserved : goal.shown_decs-loop-first-preserved
shown_decs-loop-first-preserved t c =
    let e : node_at c.args.parsed.now c.loop-first.next ≡ node.MoreDecs = (sym c.node.ensures ∙ c.in-MoreDecs.is) in
    let z : (c.two-first.result.0 < c.loop-first.next) × (c.two-first.result.1 < c.loop-first.next) = c.two-first.ensures.below (ap parts_of e) in
    record {
      left = λ u k. let l = c.loop-first.invariant.left u k in as_two c.args.parsed.now c.loop-first.next l.term node.MoreDecs l.stands e refl (λ r. l.term ≡ r → LeftShown c.args.parsed.now u c.args.walk.now c.shown_dec.new.walk c.args.shown.now.items c.shown_dec.new.shown.items c.two-first.result.1) (λ p a b h same. let parts = c.two-first.ensures.parts _ p a b h in one_shown_less c.args.parsed.now u a b p c.args.walk.now c.loop-first.walk c.shown_dec.new.walk c.args.shown.now.items c.loop-first.shown.items c.shown_dec.new.shown.items c.loop-first.next c.two-first.result.1 l parts.1 same (c.in_ok-shown_dec.ensures a parts.0)) refl;
      below = omega (arith, z.1, c.loop-first.invariant.below);
    }

pub shown_decs-returns : goal.shown_decs-returns
shown_decs-returns t c = on_so c.shown_dec-2.result _ _ (λ g u k. let l = c.loop-first.invariant.left u k in l.goes c.shown_dec-2.new.walk c.shown_dec-2.new.shown.items (g l.term l.stands)) c.shown_dec-2.ensures
