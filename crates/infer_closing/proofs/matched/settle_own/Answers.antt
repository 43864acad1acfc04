use Rattle.std.proofs.Common.{[], ap, ◌∙◌, refl, subst}
use Rattle.std.specs.Prelude.{slice_get}
use Rattle.sml_types.specs.Tree.{Variable}
use Rattle.sml_types.specs.Forms.{AreForms}
use Rattle.infer_state.specs.declared.unknowns.Unknowns.{Unknowns}
use Rattle.infer_state.specs.declared.settled.Settled.{Settled}
use Rattle.infer_state.specs.Variables.{name_var}
use Rattle.infer_closing.proofs.GrowFacts.{longer_same, put_kept, put_there, put_newly}
use Rattle.infer_closing.proofs.MatchFacts.{own_there, own_poly}
use Rattle.infer_closing.proofs.matched.settle_own.Goals as goal

pub returns-clause-grown : goal.returns-clause-grown
returns-clause-grown c =
    let u = c.args.unknowns.now in
    let s : Settled = record { from = c.in_ok-ty.ty.0; scheme = record { vars = c.new.result; body = c.in_ok-ty.ty } } in
    let q = ap (slice_get u.types) c.in_ok-ty.ensures.1 ∙ c.requires.laid.of_names c.args.name c.in_ok-ty.ensures.0 in
    record {
      bound = refl;
      next = refl;
      longer = longer_same u.types;
      vars = λ i v e. (i, e);
      kept = put_kept c.args.settled.now.items c.args.name s c.put.new.settled.items c.in_ok-put.ensures;
      there =
          put_there c.args.settled.now.items c.args.name s c.put.new.settled.items c.in_ok-put.ensures u.types u.types (longer_same u.types) c.requires.there (own_there u.types s (name_var c.args.bare.now c.args.name) q refl c.new.ensures);
      count = c.in_ok-put.ensures.count;
    }

pub returns-clause-newly : goal.returns-clause-newly
returns-clause-newly c =
    let u = c.args.unknowns.now in
    let p = c.args.bare.now in
    let x = c.args.name in
    let s : Settled = record { from = c.in_ok-ty.ty.0; scheme = record { vars = c.new.result; body = c.in_ok-ty.ty } } in
    let q = ap (slice_get u.types) c.in_ok-ty.ensures.1 ∙ c.requires.laid.of_names x c.in_ok-ty.ensures.0 in
    put_newly c.args.settled.now.items x s c.put.new.settled.items c.in_ok-put.ensures p Variable u.types u.types [] (longer_same u.types) c.requires.there c.in_ok-ty.ensures.0 (own_poly u.types s (name_var p x) (subst (λ (k : Unknowns). AreForms k.types) c.unknowns.view_is c.unknowns.invariant) q c.new.ensures)
