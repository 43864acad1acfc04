use Rattle.std.proofs.Common.{◌++◌, sym, ap, ◌∙◌}
use Rattle.infer_scopes.specs.Chains.{chain}
use Rattle.infer_scopes.proofs.ChainFacts.{chain_none, gone, walk, nil_right, one_more}
use Rattle.infer_scopes.proofs.chains.Chains.items.Goals as goal

pub returns-in_default-cell : goal.returns-in_default-cell
returns-in_default-cell c =
    sym (ap (λ l. c.cells.found.items ++ l) (ap (chain c.args.self.now) c.in-Some.is ∙ gone c.args.self.now c.in-Some.i (sym c.in_default-cell.ensures.is)) ∙ nil_right c.cells.found.items)
    ∙ c.cells.invariant

pub cells-preserved : goal.cells-preserved
cells-preserved c =
    ap (λ l. l ++ chain c.args.self.now c.in-Some-cell.cell.next) c.in_ok-push.ensures.items
    ∙ one_more c.cells.found.items c.in-Some-cell.cell.item (chain c.args.self.now c.in-Some-cell.cell.next)
    ∙ ap (λ l. c.cells.found.items ++ l) (sym (ap (chain c.args.self.now) c.in-Some.is ∙ walk c.args.self.now c.in-Some.i c.in-Some-cell.cell c.cell.ensures.kept (sym c.in-Some-cell.ensures.is)))
    ∙ c.cells.invariant

pub returns : goal.returns
returns c =
    sym (ap (λ l. c.cells.found.items ++ l) (ap (chain c.args.self.now) c.in_default.is ∙ chain_none c.args.self.now) ∙ nil_right c.cells.found.items)
    ∙ c.cells.invariant
