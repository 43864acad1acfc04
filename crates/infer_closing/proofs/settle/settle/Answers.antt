use Rattle.std.proofs.Common.{◌+◌, sym, ap, ◌∙◌, refl, subst}
use Rattle.sml_types.specs.Forms.{tree, AreForms}
use Rattle.infer_state.specs.declared.unknowns.Unknowns.{Unknowns}
use Rattle.infer_state.specs.declared.settled.Settled.{Settled}
use Rattle.infer_state.specs.Variables.{name_var}
use Rattle.infer_closing.specs.Open.{has_all}
use Rattle.infer_closing.specs.Closing.{meaning}
use Rattle.infer_closing.proofs.Trees.{covers_all}
use Rattle.infer_closing.proofs.GrowFacts.{put_kept, put_there, put_newly, old_vars, entry_there, entry_poly, written_is}
use Rattle.infer_closing.proofs.settle.settle.Goals as goal

pub returns-clause-grown : goal.returns-clause-grown
returns-clause-grown c =
    let u = c.args.unknowns.now in
    let s : Settled = record { from = c.in_ok-resolved.resolved.from; scheme = record { vars = c.in_ok-vars.vars; body = c.in_ok-resolved.resolved.ty } } in
    record {
      bound = refl;
      next = refl;
      longer = c.resolve.ensures.longer;
      vars = old_vars u.types c.resolve.new.types c.resolve.ensures.vars;
      kept = put_kept c.args.settled.now.items c.args.name s c.put.new.settled.items c.in_ok-put.ensures;
      there =
          put_there
          c.args.settled.now.items
          c.args.name
          s
          c.put.new.settled.items
          c.in_ok-put.ensures
          u.types
          c.resolve.new.types
          c.resolve.ensures.longer
          c.requires.there
          (entry_there u.types c.resolve.new.types s c.args.vars.now c.resolve.ensures.longer c.in_ok-resolved.ensures.order c.in_ok-resolved.ensures.there c.in_ok-resolved.ensures.segment c.in_ok-vars.ensures c.requires.vars);
      count = c.in_ok-put.ensures.count;
    }

pub returns-clause-newly : goal.returns-clause-newly
returns-clause-newly c =
    let u = c.args.unknowns.now in
    let p = c.args.bare.now in
    let x = c.args.name in
    let s : Settled = record { from = c.in_ok-resolved.resolved.from; scheme = record { vars = c.in_ok-vars.vars; body = c.in_ok-resolved.resolved.ty } } in
    let is = written_is u.types c.resolve.new.types (meaning u) c.in_ok-ty.ty.0 (c.args.starts.now.names + x) c.in_ok-resolved.resolved.ty.0 (name_var p x) (subst (λ (k : Unknowns). AreForms k.types) c.unknowns.view_is c.unknowns.invariant) c.in_ok-resolved.ensures.is c.in_ok-ty.ensures.1 (c.requires.laid.of_names x c.in_ok-ty.ensures.0) in
    put_newly c.args.settled.now.items x s c.put.new.settled.items c.in_ok-put.ensures p (meaning u) u.types c.resolve.new.types c.args.vars.now c.resolve.ensures.longer c.requires.there c.in_ok-ty.ensures.0 (entry_poly c.resolve.new.types s c.args.vars.now (meaning u (name_var p x)) c.in_ok-vars.ensures is)

pub returns-clause-closed : goal.returns-clause-closed
returns-clause-closed c t =
    let u = c.args.unknowns.now in
    let p = c.args.bare.now in
    let x = c.args.name in
    let is = written_is u.types c.resolve.new.types (meaning u) c.in_ok-ty.ty.0 (c.args.starts.now.names + x) c.in_ok-resolved.resolved.ty.0 (name_var p x) (subst (λ (k : Unknowns). AreForms k.types) c.unknowns.view_is c.unknowns.invariant) c.in_ok-resolved.ensures.is c.in_ok-ty.ensures.1 (c.requires.laid.of_names x c.in_ok-ty.ensures.0) in
    ap (has_all c.args.vars.now) (sym is) ∙ covers_all c.args.vars.now (tree c.resolve.new.types c.in_ok-resolved.resolved.ty.0) (c.in_ok-closed.ensures.0 t)
