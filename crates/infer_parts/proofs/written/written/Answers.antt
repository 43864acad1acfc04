use Rattle.std.proofs.Common.{rules, ◌<◌, ◌+◌, ◌-◌, length, List, Option, Some, sym, ap, ◌∙◌, subst, arith}
use Rattle.std.specs.Prelude.{slice_get}
use Rattle.std.proofs.lemmas.Option.{slice_get-get_or}
use Rattle.sml_tree.specs.declared.bare.TypeExp.{TypeExp}
use Rattle.sml_types.specs.declared.types.Ty.{Ty}
use Rattle.infer_parts.specs.Segments.{exp_parts}
use Rattle.infer_parts.specs.Written.{AreTypeRows, AreCited, IsNext, IsWritten, all_taken, standing}
use Rattle.infer_parts.proofs.WrittenSteps.{AreWritten, more_written, parts_before, fitting, one_cited}
use Rattle.infer_parts.proofs.written.written.Goals as goal

pub next_written-requires-clause-fits : goal.next_written-requires-clause-fits
next_written-requires-clause-fits c =
    let hi = c.exps-test.true in
    let here = c.requires.here in
    let count = ap length c.items-exps.ensures in
    let q = ap (λ (es : List TypeExp). slice_get es c.exps.at) (sym c.items-exps.ensures) ∙ slice_get-get_or c.items-exps.result.now c.exps.at c.index-exps-at.result (omega arith) ∙ ap Some (sym c.index-exps-at.is) in
    fitting c.args.bare.now (length c.args.stands.now) (length c.args.abbreviations.now) c.exps.at c.index-exps-at.result c.requires.count c.requires.rows (search rules) q (c.requires.types c.exps.at c.index-exps-at.result q)

pub exps-preserved : goal.exps-preserved
exps-preserved c =
    let hi = c.exps-test.true in
    let here = c.requires.here in
    let count = ap length c.items-exps.ensures in
    let e = c.index-exps-at.result in
    let p = slice_get-get_or c.items-exps.result.now c.exps.at e (omega arith) ∙ ap Some (sym c.index-exps-at.is) in
    let q = ap (λ (es : List TypeExp). slice_get es c.exps.at) (sym c.items-exps.ensures) ∙ p in
    let next = subst (λ (made : List (Option Ty)). IsNext c.args.names.now c.args.abbreviations.now c.args.stands.now c.exps.types e (all_taken c.in_ok-first.first made (exp_parts e)) c.next_written.new.types c.in_ok-next.next) c.deref.ensures.value c.in_ok-next.ensures.ok in
    record {
      made =
          subst
          (λ (made : List (Option Ty)). AreWritten c.items-exps.result.now c.args.bare.now.tyvars c.args.names.now c.args.abbreviations.now c.args.stands.now c.args.types.now c.in_ok-first.first (c.exps.at + 1) c.next_written.new.types made)
          (sym c.in_ok-push.ensures.items)
          (more_written c.items-exps.result.now c.args.bare.now.tyvars c.args.names.now c.args.abbreviations.now c.args.stands.now c.args.types.now c.in_ok-first.first (subst AreTypeRows (sym c.items-exps.ensures) c.requires.rows) c.requires.bodies c.requires.stands c.exps.at c.exps.types c.next_written.new.types c.exps.made.items c.exps.invariant.made c.in_ok-next.ensures.longer e p (c.in_ok-first.ensures.closed c.exps.at e c.exps.auto.at (omega arith) p) (parts_before c.args.bare.now c.exps.at e (c.requires.types c.exps.at e q)) c.in_ok-next.next c.in_ok-next.ensures.there next);
      vars = λ i v w. c.exps.invariant.vars i v (c.in_ok-next.ensures.vars i v w);
      cited = λ i f lo hi w. one_cited c.items-exps.result.now (length c.args.abbreviations.now) c.in_ok-first.first c.exps.at e p (search rules) c.exps.invariant.cited i f lo hi w;
    }

pub returns-clause-ok : goal.returns-clause-ok
returns-clause-ok c meanings agree =
    let below = c.in_ok-first.ensures.below in
    let end : c.args.exp < c.exps.at = search rules in
    let count = c.exps.invariant.made.count in
    let last = slice_get-get_or c.exps.made.items (c.args.exp - c.in_ok-first.first) c.index.result.now (omega arith) ∙ ap Some (sym c.index.ensures) in
    subst
    (λ (es : List TypeExp). IsWritten es c.args.bare.now.tyvars c.args.names.now meanings (standing c.args.types.now c.args.stands.now) c.exps.types c.args.exp c.index.result.now)
    c.items-exps.ensures
    (c.exps.invariant.made.each c.args.exp c.index.result.now below end last meanings agree)

pub returns-clause-cited : goal.returns-clause-cited
returns-clause-cited c =
    let end : c.args.exp < c.exps.at = search rules in
    subst
    (λ (es : List TypeExp). AreCited es (length c.args.abbreviations.now) c.args.exp)
    c.items-exps.ensures
    (record { first = c.in_ok-first.first; order = c.in_ok-first.ensures.below; segment = c.in_ok-first.ensures.closed; each = λ i e lo hi q. c.exps.invariant.cited i e lo (omega arith) q })
