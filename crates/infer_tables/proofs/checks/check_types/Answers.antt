use Rattle.std.proofs.Common.{Some, sym, ap, ◌∙◌, arith}
use Rattle.std.proofs.lemmas.Option.{slice_get-get_or, slice_get_within}
use Rattle.std.specs.Prelude.{slice_get}
use Rattle.sml_tree.specs.declared.bare.TypeExp.TheVariants as exp
use Rattle.sml_tree.specs.IsBare.{TypeStands}
use Rattle.infer_tables.specs.Checks.{HasPlaces}
use Rattle.infer_tables.proofs.CheckFacts.{one_more}
use Rattle.infer_tables.proofs.checks.check_types.Goals as goal

pub exps-preserved : goal.exps-preserved
exps-preserved c =
    let hi = c.exps-test.true in
    let e = c.index-exps-at.result in
    let here = slice_get-get_or c.items-exps.result.now c.exps.at e (omega arith) ∙ ap Some (sym c.index-exps-at.is) in
    one_more (λ i e. TypeStands c.args.bare.now i e × HasPlaces e) c.items-exps.result.now c.exps.at e c.exps.invariant here (c.in_ok-is.ensures c.if-not-is.false)

pub returns : goal.returns
returns c =
    let done = c.exps-test.false in
    record {
      stand = λ i e q.
          let r = ap (λ es. slice_get es i) c.items-exps.ensures ∙ q in
          let l = slice_get_within c.items-exps.result.now i e r in
          (c.exps.invariant i e (omega arith) r).0;
      rows = λ i fields q.
          let r = ap (λ es. slice_get es i) c.items-exps.ensures ∙ q in
          let l = slice_get_within c.items-exps.result.now i (exp.Record fields) r in
          (c.exps.invariant i (exp.Record fields) (omega arith) r).1;
    }
