use Rattle.std.proofs.Common.{◌≡◌, arith, sym, ap, ◌∙◌}
use Rattle.std.proofs.lemmas.Result.{on_ok_weaker}
use Rattle.sml_tree.specs.Parts.{parts_of}
use Rattle.sml_expansion.specs.Sources.{node_at}
use Rattle.sml_expansion.specs.Types.{labels}
use Rattle.expand_types.specs.declared.labels.RowForm.TheVariants.{Rows, FirstOfOne, FirstOfTwo, FirstOfThree, Here}
use Rattle.expand_types.specs.Forms.{row_form}
use Rattle.expand_types.proofs.FlowLemmas.{flows_on, in_only, in_first_of_two, in_first_of_three}
use Rattle.expand_types.proofs.RowLemmas.{rows_two, first_one, first_two, first_three, of_rows, of_one, of_two, of_three, in_here}
use Rattle.expand_types.proofs.labels.+labels.Goals as goal

pub push_row-returns-in-FirstOfOne : goal.push_row-returns-in-FirstOfOne
push_row-returns-in-FirstOfOne t c =
    let src = c.args.parsed.now in let n = c.node-node.result in
    let form : row_form n ≡ FirstOfOne = sym c.in-FirstOfOne.ensures in
    on_ok_weaker c.push_labels.result (λ h. in_only src (labels src.names) c.args.at _ _ _ n c.node-node.ensures (first_one n form) (of_one src.names n form) c.one.ensures.part h) c.push_labels.ensures

pub push_row-returns-in-FirstOfTwo : goal.push_row-returns-in-FirstOfTwo
push_row-returns-in-FirstOfTwo t c =
    let src = c.args.parsed.now in let n = c.node-node.result in
    let form : row_form n ≡ FirstOfTwo = sym c.in-FirstOfTwo.ensures in
    on_ok_weaker c.push_labels-in-FirstOfTwo.result (λ h. in_first_of_two src (labels src.names) c.args.at _ _ _ _ n c.node-node.ensures (first_two n form) (of_two src.names n form) c.two.ensures.parts h) c.push_labels-in-FirstOfTwo.ensures

pub push_row-returns-in-FirstOfThree : goal.push_row-returns-in-FirstOfThree
push_row-returns-in-FirstOfThree t c =
    let src = c.args.parsed.now in let n = c.node-node.result in
    let form : row_form n ≡ FirstOfThree = sym c.in-FirstOfThree.ensures in
    on_ok_weaker c.push_labels-in-FirstOfThree.result (λ h. in_first_of_three src (labels src.names) c.args.at _ _ _ _ _ n c.node-node.ensures (first_three n form) (of_three src.names n form) c.three.ensures.parts h) c.push_labels-in-FirstOfThree.ensures

pub push_row-returns-in-Here : goal.push_row-returns-in-Here
push_row-returns-in-Here t c =
    let src = c.args.parsed.now in let n = c.node-node.result in
    let form : row_form n ≡ Here = sym c.in-Here.ensures in
    on_ok_weaker c.push_label.result (λ h. in_here src c.args.at _ _ n c.place.result c.node-node.ensures form c.place.ensures h) c.push_label.ensures

pub push_labels-loop-first-preserved : goal.push_labels-loop-first-preserved
push_labels-loop-first-preserved t c =
    let src = c.args.parsed.now in let n = c.node.result in
    let form : row_form n ≡ Rows = sym c.in-Rows.ensures in
    let two_parts : parts_of (node_at src c.loop-first.rest) ≡ 2 = ap parts_of (sym c.node.ensures) ∙ rows_two n form in
    let below = c.two-first.ensures.below two_parts in
    (omega (arith, below.1, c.loop-first.invariant.0), flows_on src (labels src.names) c.args.at c.loop-first.rest _ _ _ _ _ n c.loop-first.invariant.1 c.node.ensures (rows_two n form) (of_rows src.names n form) c.two-first.ensures.parts c.in_ok-push_labels.ensures)
