use Rattle.std.proofs.Common.{◌≡◌, suc, ℕ, ◌+◌, ◌∷◌, [], ◌++◌, take, ap, ◌∙◌, arith}
use Rattle.std.specs.Prelude.{get_or}
use Rattle.std.proofs.Math.Seq.{take-suc}
use Rattle.infer_state.specs.Fits.{settled_at}
use Rattle.infer_closing.specs.Closing.{meaning}
use Rattle.infer_closing.proofs.GrowFacts.{grows_then, laid_grown, vars_grown, meaning_grown, polys_kept, newly_then, listed_then}
use Rattle.infer_closing.proofs.settle.settle_names.Goals as goal

pub settle-requires-clause-laid : goal.settle-requires-clause-laid
settle-requires-clause-laid c = laid_grown c.args.unknowns.now c.names.unknowns c.args.settled.now.items c.names.settled.items c.names.invariant.grown c.args.bare.now c.args.starts.now c.requires.laid

pub settle-requires-clause-vars : goal.settle-requires-clause-vars
settle-requires-clause-vars c = vars_grown c.args.unknowns.now c.names.unknowns c.args.settled.now.items c.names.settled.items c.names.invariant.grown c.args.vars.now c.requires.vars

pub names-preserved : goal.names-preserved
names-preserved c =
    let xs = c.args.names.now in
    let i = c.names.name-index in
    let x : ℕ = get_or xs i 0 in
    let p = c.args.bare.now in
    let a = c.args.unknowns.now in
    let b = c.names.unknowns in
    let d = c.settle.new.unknowns in
    let old = c.args.settled.now.items in
    let mid = c.names.settled.items in
    let new = c.settle.new.settled.items in
    let vars = c.args.vars.now in
    let next : i + 1 ≡ suc i = omega arith in
    let taken : take (i + 1) xs ≡ take i xs ++ x ∷ [] = ap (λ k. take k xs) next ∙ take-suc xs i 0 c.names-test.true in
    let grown = c.names.invariant.grown in
    let same = meaning_grown a b old mid grown c.requires.bindings in
    record {
      grown = grows_then a b d old mid new grown c.in_ok-closed.ensures.grown;
      newly =
          newly_then
          p
          (meaning a)
          (meaning b)
          (settled_at a.types old)
          (settled_at b.types mid)
          (settled_at d.types new)
          vars
          (take i xs)
          (x ∷ [])
          (take (i + 1) xs)
          taken
          same
          (polys_kept b d mid new c.in_ok-closed.ensures.grown grown.there)
          c.names.invariant.newly
          c.in_ok-closed.ensures.newly;
      listed =
          listed_then
          p
          (meaning a)
          (meaning b)
          vars
          (take i xs)
          (take (i + 1) xs)
          x
          c.args.list.now.items
          c.names.list.items
          c.list_unless.new.list.items
          c.in_ok-closed.closed
          taken
          same
          c.names.invariant.listed
          c.in_ok-list_unless.ensures.kept
          c.in_ok-list_unless.ensures.there
          c.in_ok-closed.ensures.closed;
    }
