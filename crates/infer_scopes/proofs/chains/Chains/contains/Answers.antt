use Rattle.std.proofs.Common.{sym, ap, ◌∙◌}
use Rattle.sml_types.specs.Poly.{is_in}
use Rattle.infer_scopes.specs.Chains.{chain}
use Rattle.infer_scopes.proofs.ChainFacts.{chain_none, ends, gone, hit, miss}
use Rattle.infer_scopes.proofs.chains.Chains.contains.Goals as goal

pub returns-in_default-cell : goal.returns-in_default-cell
returns-in_default-cell c =
    ends c.args.self.now c.args.head c.cells.at c.args.item (ap (chain c.args.self.now) c.in-Some.is ∙ gone c.args.self.now c.in-Some.i (sym c.in_default-cell.ensures.is)) c.cells.invariant

pub returns-then-cell-item : goal.returns-then-cell-item
returns-then-cell-item c =
    sym (hit c.args.self.now c.in-Some.i c.args.item c.in-Some-cell.cell c.cell.ensures.kept (sym c.in-Some-cell.ensures.is) c.if-cell-item.true)
    ∙ ap (λ h. is_in (chain c.args.self.now h) c.args.item) (sym c.in-Some.is)
    ∙ c.cells.invariant

pub cells-preserved : goal.cells-preserved
cells-preserved c =
    sym (miss c.args.self.now c.in-Some.i c.args.item c.in-Some-cell.cell c.cell.ensures.kept (sym c.in-Some-cell.ensures.is) c.if-cell-item.false)
    ∙ ap (λ h. is_in (chain c.args.self.now h) c.args.item) (sym c.in-Some.is)
    ∙ c.cells.invariant

pub returns : goal.returns
returns c = ends c.args.self.now c.args.head c.cells.at c.args.item (ap (chain c.args.self.now) c.in_default.is ∙ chain_none c.args.self.now) c.cells.invariant
