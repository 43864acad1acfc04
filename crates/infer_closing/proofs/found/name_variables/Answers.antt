use Rattle.std.proofs.Common.{◌≡◌, suc, ℕ, ◌+◌, ◌∷◌, [], ◌++◌, List, take, sym, ap, ◌∙◌, subst, arith}
use Rattle.std.specs.Prelude.{get_or}
use Rattle.std.specs.List.{AllByRecursion}
use Rattle.std.proofs.Math.Seq.{take-suc}
use Rattle.sml_types.specs.declared.types.TyVar.{TyVar}
use Rattle.sml_types.specs.Tree.{Tree, AllVars}
use Rattle.sml_types.specs.Typing.{IsAmong}
use Rattle.sml_unify.specs.Solved.{under}
use Rattle.infer_state.specs.Variables.{name_var}
use Rattle.infer_closing.specs.Closing.{meaning}
use Rattle.infer_closing.proofs.VarFacts.{all_end}
use Rattle.infer_closing.proofs.FoundFacts.{names_kept, under_var}
use Rattle.infer_closing.proofs.found.name_variables.Goals as goal

pub names-preserved : goal.names-preserved
names-preserved c =
    let x : ℕ = get_or c.args.names.now c.names.name-index 0 in
    let u = c.args.unknowns.now in
    let p = c.args.bare.now in
    let new : List TyVar = c.add_variables.new.vars in
    let here : under u.types (meaning u) c.in_ok-ty.ty.0 ≡ meaning u (name_var p x) = ap (under u.types (meaning u)) c.in_ok-ty.ensures.1 ∙ under_var u.types (meaning u) (c.args.starts.now.names + x) (name_var p x) c.in_ok-add_variables.ensures.forms (c.requires.laid.of_names x c.in_ok-ty.ensures.0) in
    let next : c.names.name-index + 1 ≡ suc c.names.name-index = omega arith in
    let taken : take (c.names.name-index + 1) c.args.names.now ≡ take c.names.name-index c.args.names.now ++ x ∷ [] = ap (λ k. take k c.args.names.now) next ∙ take-suc c.args.names.now c.names.name-index 0 c.names-test.true in
    record {
      vars = c.in_ok-add_variables.ensures.vars;
      each =
          subst
          (λ (xs : List ℕ). AllByRecursion (λ y. AllVars (λ v. IsAmong v new) (meaning u (name_var p y))) xs)
          (sym taken)
          (all_end
          (λ y. AllVars (λ v. IsAmong v new) (meaning u (name_var p y)))
          (take c.names.name-index c.args.names.now)
          x
          (names_kept (λ y. meaning u (name_var p y)) c.names.vars new (take c.names.name-index c.args.names.now) c.in_ok-add_variables.ensures.kept c.names.invariant.each)
          (subst (λ (t : Tree). AllVars (λ v. IsAmong v new) t) here c.in_ok-add_variables.ensures.each));
    }
