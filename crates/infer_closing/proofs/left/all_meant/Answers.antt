use Rattle.std.proofs.Common.{◌≡◌, suc, ◌+◌, ◌∷◌, [], ◌++◌, false, take, ap, ◌∙◌, arith}
use Rattle.std.specs.Prelude.{get_or}
use Rattle.std.proofs.Math.Seq.{take-suc}
use Rattle.sml_types.specs.declared.types.TyVar.{TyVar}
use Rattle.infer_closing.specs.Closing.{meaning}
use Rattle.infer_closing.proofs.LeftFacts.{all_get}
use Rattle.infer_closing.proofs.left.all_meant.Goals as goal

pub vars-preserved : goal.vars-preserved
vars-preserved c =
    let none : TyVar = record { num = 0; eq = false } in
    let xs = c.args.vars.now in
    let i = c.vars.var-index in
    let x : TyVar = get_or xs i none in
    let next : i + 1 ≡ suc i = omega arith in
    let taken : take (i + 1) xs ≡ take i xs ++ x ∷ [] = ap (λ k. take k xs) next ∙ take-suc xs i none c.vars-test.true in
    all_get (meaning c.args.unknowns.now) (take i xs) (take (i + 1) xs) x c.vars.found c.add_meant.new.found taken c.vars.invariant c.in_ok-add_meant.ensures
