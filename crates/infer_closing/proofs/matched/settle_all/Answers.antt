use Rattle.std.proofs.Common.{◌≡◌, suc, ℕ, ◌+◌, ◌∷◌, [], ◌++◌, take, refl, ap, ◌∙◌, arith}
use Rattle.std.specs.Prelude.{get_or}
use Rattle.std.proofs.Math.Seq.{take-suc}
use Rattle.sml_types.specs.Tree.{Variable}
use Rattle.infer_state.specs.Fits.{settled_at}
use Rattle.infer_closing.proofs.GrowFacts.{grows_then, polys_kept, newly_then}
use Rattle.infer_closing.proofs.matched.settle_all.Goals as goal

pub names-preserved : goal.names-preserved
names-preserved c =
    let xs = c.args.names.now in
    let i = c.names.name-index in
    let x : ℕ = get_or xs i 0 in
    let u = c.args.unknowns.now in
    let old = c.args.settled.now.items in
    let mid = c.names.settled.items in
    let new = c.settle_own.new.settled.items in
    let next : i + 1 ≡ suc i = omega arith in
    let taken : take (i + 1) xs ≡ take i xs ++ x ∷ [] = ap (λ k. take k xs) next ∙ take-suc xs i 0 c.names-test.true in
    let e = c.in_ok-settle_own.ensures in
    record {
      grown = grows_then u u u old mid new c.names.invariant.grown e.grown;
      newly =
          newly_then c.args.bare.now Variable Variable (settled_at u.types old) (settled_at u.types mid) (settled_at u.types new) [] (take i xs) (x ∷ []) (take (i + 1) xs) taken (λ v. refl) (polys_kept u u mid new e.grown c.names.invariant.grown.there) c.names.invariant.newly e.newly;
    }
