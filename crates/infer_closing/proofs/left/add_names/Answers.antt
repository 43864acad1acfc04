use Rattle.std.proofs.Common.{◌≡◌, suc, ℕ, ◌+◌, ◌∷◌, [], ◌++◌, List, take, ap, ◌∙◌, subst, arith, rules, length, ◌≤◌}
use Rattle.std.specs.Prelude.{get_or}
use Rattle.std.proofs.Math.Seq.{take-suc}
use Rattle.infer_state.specs.Fits.{settled_at}
use Rattle.infer_closing.proofs.LeftFacts.{names_get}
use Rattle.infer_closing.proofs.GrowFacts.{whole}
use Rattle.infer_closing.specs.Left.{Gets, IsLeftByOne}
use Rattle.infer_closing.proofs.left.add_names.Goals as goal

pub names-preserved : goal.names-preserved
names-preserved c d q =
    let xs = c.args.names.now in
    let i = c.names.name-index in
    let x : ℕ = get_or xs i 0 in
    let next : i + 1 ≡ suc i = omega arith in
    let taken : take (i + 1) xs ≡ take i xs ++ x ∷ [] = ap (λ k. take k xs) next ∙ take-suc xs i 0 c.names-test.true in
    names_get c.args.bare.now (settled_at c.args.types.now c.args.settled.now) d (take i xs) (take (i + 1) xs) x c.args.left.now c.names.left c.add_name.new.left taken (c.names.invariant d q) (c.in_ok-add_name.ensures d q)

pub returns : goal.returns
returns c d q =
    let end : length c.args.names.now ≤ c.names.name-index = search rules in let all = whole c.args.names.now c.names.name-index end in
    subst (λ (xs : List ℕ). Gets (IsLeftByOne c.args.bare.now (settled_at c.args.types.now c.args.settled.now) d xs) c.args.left.now c.names.left) all (c.names.invariant d q)
