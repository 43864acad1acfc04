use Rattle.std.proofs.Common.{Some, sym, ap, ◌∙◌, arith, subst, []}
use Rattle.std.proofs.lemmas.Option.{slice_get-get_or}
use Rattle.infer_tables.specs.Group.{AreConRows}
use Rattle.infer_tables.proofs.Lists.{longer_same, longer_then}
use Rattle.infer_tables.proofs.BindingFacts.{scope_longer}
use Rattle.infer_tables.proofs.RowFacts.{cons_longer, con_added, cons_done, con_refused}
use Rattle.infer_tables.proofs.group.con_rows.Goals as goal

pub cons-init : goal.cons-init
cons-init c = record { are = subst (AreConRows c.args.bare.now c.args.types.now c.args.known.now c.args.vars.now []) (sym c.new-rows.ensures) tt; longer = longer_same c.args.types.now; vars = λ i v q. q }

pub con_row-requires : goal.con_row-requires
con_row-requires c = record { scope = scope_longer c.args.bare.now c.args.types.now c.cons.types c.args.known.now c.cons.invariant.longer c.requires.scope }

pub cons-preserved : goal.cons-preserved
cons-preserved c =
    let p = c.args.bare.now in
    let k = c.args.known.now in
    let hi = c.cons-test.true in
    let x = c.index-cons-at.result in
    let q = slice_get-get_or c.args.cons.now c.cons.at x (omega arith) ∙ ap Some (sym c.index-cons-at.is) in
    let l = c.in_ok-row.ensures.longer in
    let before = cons_longer p c.cons.types c.con_row.new.types k l (scope_longer p c.args.types.now c.cons.types k c.cons.invariant.longer c.requires.scope) c.args.vars.now _ c.cons.rows c.cons.invariant.are in
    record {
      are = con_added p c.con_row.new.types k c.args.vars.now c.args.cons.now c.cons.at x c.cons.rows c.push.new.self c.in_ok-row.field-0 c.in-Some.row q before c.in_ok-row.ensures.ok c.in-Some.is c.in_ok-push-in-Some.ensures.ok;
      longer = longer_then c.args.types.now c.cons.types c.con_row.new.types c.cons.invariant.longer l;
      vars = λ i v e. c.cons.invariant.vars i v (c.in_ok-row.ensures.vars i v e);
    }

pub returns-in-None-clause-ok : goal.returns-in-None-clause-ok
returns-in-None-clause-ok c =
    let hi = c.cons-test.true in
    let x = c.index-cons-at.result in
    let q = slice_get-get_or c.args.cons.now c.cons.at x (omega arith) ∙ ap Some (sym c.index-cons-at.is) in
    con_refused c.args.bare.now c.con_row.new.types c.args.known.now c.args.vars.now c.args.cons.now c.cons.at x c.in_ok-row.field-0 q c.in_ok-row.ensures.ok c.in-None.is

pub returns-in-None-clause-longer : goal.returns-in-None-clause-longer
returns-in-None-clause-longer c = longer_then c.args.types.now c.cons.types c.con_row.new.types c.cons.invariant.longer c.in_ok-row.ensures.longer

pub returns-in-None-clause-vars : goal.returns-in-None-clause-vars
returns-in-None-clause-vars c i v e = c.cons.invariant.vars i v (c.in_ok-row.ensures.vars i v e)

pub returns-clause-ok : goal.returns-clause-ok
returns-clause-ok c =
    let lo = c.cons-test.false in
    cons_done c.args.bare.now c.cons.types c.args.known.now c.args.vars.now c.args.cons.now c.cons.at c.cons.rows (omega arith) c.cons.invariant.are
