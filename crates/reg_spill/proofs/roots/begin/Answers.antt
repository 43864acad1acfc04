use Rattle.std.proofs.Common.{◌<◌, ◌∙◌, length, length-set, map, ap, sym, subst}
use Rattle.std.specs.List.{AllByRecursion}
use Rattle.std.proofs.lemmas.List.{take_all}
use Rattle.closure_ir.specs.declared.body.Function.{Function}
use Rattle.place_laws.specs.Place.{at_params, nowhere}
use Rattle.place_bodies.specs.Whole.{HasPlaces}
use Rattle.reg_spill.proofs.Params.{Begins, begin_more, main_more, none_has, begun_length, function_at}
use Rattle.reg_spill.proofs.roots.begin.Goals as goal

pub loop-function-init : goal.loop-function-init
loop-function-init c = record {
  len = begun_length c.args.lives.now c.in_ok-entries.entries.items c.in_ok-entries.ensures;
  main = subst (λ es. HasPlaces c.args.lives.now es 0 nowhere) (sym c.in_ok-entries.ensures) (none_has c.args.lives.now 0);
  begun = tt;
}

pub loop-function-preserved : goal.loop-function-preserved
loop-function-preserved c =
    let lives = c.args.lives.now in
    let fs = c.args.functions.now in
    let f = c.function-item.result in
    let i = c.loop-function.function-index in
    let old = c.loop-function.entries.items in
    record {
      len = length-set old f.body c.from_vec.result ∙ c.loop-function.invariant.len;
      main = main_more lives old fs i _ f c.from_vec.result c.requires.apart c.loop-function-test.true c.function-item.is c.loop-function.invariant.main;
      begun =
          begin_more lives old fs i _ f c.from_vec.result c.requires.apart c.loop-function-test.true c.function-item.is
          (subst (λ n. f.body < n) (sym c.loop-function.invariant.len) (subst (λ (k : Function). k.body < length lives) (sym c.function-item.is) (function_at (length lives) fs i _ c.requires.stand c.loop-function-test.true)))
          (c.from_vec.ensures ∙ c.in_ok-places.ensures ∙ ap (λ ps. map (at_params ps 0 nowhere) c.row.result.now) c.items.ensures ∙ ap (map (at_params f.params 0 nowhere)) c.row.ensures) c.loop-function.invariant.begun;
    }

pub returns-clause-functions : goal.returns-clause-functions
returns-clause-functions c =
    subst (AllByRecursion (Begins c.args.lives.now c.loop-function.entries.items)) (take_all c.loop-function.function-index c.args.functions.now c.loop-function-test.false) c.loop-function.invariant.begun
