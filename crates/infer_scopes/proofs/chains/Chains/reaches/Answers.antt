use Rattle.std.proofs.Common.{◌≡◌, Some, true, sym, subst}
use Rattle.sml_types.specs.Poly.{is_in}
use Rattle.infer_scopes.specs.Chains.{chain, AreAmong}
use Rattle.infer_scopes.proofs.ChainFacts.{hit, go_on, among_trans}
use Rattle.infer_scopes.proofs.chains.Chains.reaches.Goals as goal

pub returns-then-cell-item : goal.returns-then-cell-item
returns-then-cell-item c _ =
    c.cells.invariant c.args.item (subst (λ h. is_in (chain c.args.self.now h) c.args.item ≡ true) (sym c.in-Some.is) (hit c.args.self.now c.in-Some.i c.args.item c.in-Some-cell.cell c.cell.ensures.kept (sym c.in-Some-cell.ensures.is) c.if-cell-item.true))

pub cells-preserved : goal.cells-preserved
cells-preserved c =
    among_trans c.args.self.now c.towards-at.result (Some c.in-Some.i) c.args.head
    (go_on c.args.self.now c.in-Some.i c.in-Some-cell.cell c.towards-at.result c.cell.ensures.kept (sym c.in-Some-cell.ensures.is) c.towards-at.ensures)
    (subst (λ h. AreAmong c.args.self.now h c.args.head) c.in-Some.is c.cells.invariant)
