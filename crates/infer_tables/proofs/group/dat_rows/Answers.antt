use Rattle.std.proofs.Common.{Some, sym, ap, ◌∙◌, arith, subst, []}
use Rattle.std.proofs.lemmas.Option.{slice_get-get_or}
use Rattle.infer_tables.specs.Group.{AreDatRows}
use Rattle.infer_tables.proofs.Lists.{longer_same, longer_then}
use Rattle.infer_tables.proofs.BindingFacts.{scope_longer}
use Rattle.infer_tables.proofs.RowFacts.{rows_longer, row_added, rows_done, row_refused}
use Rattle.infer_tables.proofs.group.dat_rows.Goals as goal

pub bindings-init : goal.bindings-init
bindings-init c = record { are = subst (AreDatRows c.args.bare.now c.args.types.now c.args.known.now []) (sym c.new-rows.ensures) tt; longer = longer_same c.args.types.now; vars = λ i v q. q }

pub dat_row-requires : goal.dat_row-requires
dat_row-requires c = record { scope = scope_longer c.args.bare.now c.args.types.now c.bindings.types c.args.known.now c.bindings.invariant.longer c.requires.scope }

pub bindings-preserved : goal.bindings-preserved
bindings-preserved c =
    let p = c.args.bare.now in
    let k = c.args.known.now in
    let hi = c.bindings-test.true in
    let x = c.index-bindings-at.result in
    let q = slice_get-get_or c.args.bindings.now c.bindings.at x (omega arith) ∙ ap Some (sym c.index-bindings-at.is) in
    let l = c.in_ok-row.ensures.longer in
    let before = rows_longer p c.bindings.types c.dat_row.new.types k l (scope_longer p c.args.types.now c.bindings.types k c.bindings.invariant.longer c.requires.scope) _ c.bindings.rows c.bindings.invariant.are in
    record {
      are = row_added p c.dat_row.new.types k c.args.bindings.now c.bindings.at x c.bindings.rows c.push.new.self c.in_ok-row.field-0 c.in-Some.row q before c.in_ok-row.ensures.ok c.in-Some.is c.in_ok-push-in-Some.ensures.ok;
      longer = longer_then c.args.types.now c.bindings.types c.dat_row.new.types c.bindings.invariant.longer l;
      vars = λ i v e. c.bindings.invariant.vars i v (c.in_ok-row.ensures.vars i v e);
    }

pub returns-in-None-clause-ok : goal.returns-in-None-clause-ok
returns-in-None-clause-ok c =
    let hi = c.bindings-test.true in
    let x = c.index-bindings-at.result in
    let q = slice_get-get_or c.args.bindings.now c.bindings.at x (omega arith) ∙ ap Some (sym c.index-bindings-at.is) in
    row_refused c.args.bare.now c.dat_row.new.types c.args.known.now c.args.bindings.now c.bindings.at x c.in_ok-row.field-0 q c.in_ok-row.ensures.ok c.in-None.is

pub returns-in-None-clause-longer : goal.returns-in-None-clause-longer
returns-in-None-clause-longer c = longer_then c.args.types.now c.bindings.types c.dat_row.new.types c.bindings.invariant.longer c.in_ok-row.ensures.longer

pub returns-in-None-clause-vars : goal.returns-in-None-clause-vars
returns-in-None-clause-vars c i v e = c.bindings.invariant.vars i v (c.in_ok-row.ensures.vars i v e)

pub returns-clause-ok : goal.returns-clause-ok
returns-clause-ok c =
    let lo = c.bindings-test.false in
    rows_done c.args.bare.now c.bindings.types c.args.known.now c.args.bindings.now c.bindings.at c.bindings.rows (omega arith) c.bindings.invariant.are
