use Rattle.std.proofs.Common.{◌≡◌, suc, ◌+◌, ◌∷◌, [], ◌++◌, Some, take, sym, ap, ◌∙◌, arith}
use Rattle.std.proofs.Math.Seq.{take-suc}
use Rattle.std.proofs.lemmas.Option.{slice_get-get_or}
use Rattle.infer_state.specs.Fits.{settled_at}
use Rattle.infer_closing.specs.declared.group.Group.{Group}
use Rattle.infer_closing.specs.Closing.{meaning}
use Rattle.infer_closing.specs.Found.{AreVars}
use Rattle.infer_closing.proofs.GrowFacts.{all_at, grows_then, laid_grown, vars_grown, meaning_grown, polys_kept, groups_then}
use Rattle.infer_closing.proofs.settle.close_groups.Goals as goal

pub close_group-requires-clause-laid : goal.close_group-requires-clause-laid
close_group-requires-clause-laid c = laid_grown c.args.unknowns.now c.groups.unknowns c.args.settled.now.items c.groups.settled.items c.groups.invariant.grown c.args.bare.now c.args.starts.now c.requires.laid

pub close_group-requires-clause-vars : goal.close_group-requires-clause-vars
close_group-requires-clause-vars c =
    let g = c.group-item.result in
    let q = slice_get-get_or c.args.groups.now c.groups.group-index g c.groups-test.true ∙ ap Some (sym c.group-item.is) in
    vars_grown c.args.unknowns.now c.groups.unknowns c.args.settled.now.items c.groups.settled.items c.groups.invariant.grown g.vars (all_at (λ o. AreVars c.args.unknowns.now.types o.vars) c.args.groups.now c.groups.group-index g c.requires.vars q)

pub groups-preserved : goal.groups-preserved
groups-preserved c =
    let xs = c.args.groups.now in
    let i = c.groups.group-index in
    let g : Group = c.group-item.result in
    let p = c.args.bare.now in
    let a = c.args.unknowns.now in
    let b = c.groups.unknowns in
    let d = c.close_group.new.unknowns in
    let old = c.args.settled.now.items in
    let mid = c.groups.settled.items in
    let new = c.close_group.new.settled.items in
    let next : i + 1 ≡ suc i = omega arith in
    let taken : take (i + 1) xs ≡ take i xs ++ g ∷ [] = ap (λ k. take k xs) next ∙ take-suc xs i g c.groups-test.true ∙ ap (λ (o : Group). take i xs ++ o ∷ []) (sym c.group-item.is) in
    let grown = c.groups.invariant.grown in
    let same = meaning_grown a b old mid grown c.requires.bindings in
    let e = c.in_ok-close_group.ensures in
    record {
      grown = grows_then a b d old mid new grown e.grown;
      kept = λ j vs h. e.kept j vs (c.groups.invariant.kept j vs h);
      closed =
          groups_then
          p
          (meaning a)
          (meaning b)
          c.groups.general.items
          c.close_group.new.general.items
          (settled_at a.types old)
          (settled_at b.types mid)
          (settled_at d.types new)
          c.groups.list.items
          c.close_group.new.list.items
          c.args.opened.now
          (take i xs)
          (take (i + 1) xs)
          g
          taken
          same
          (polys_kept b d mid new e.grown grown.there)
          e.kept
          c.groups.invariant.closed
          e.at
          e.newly
          e.listed;
    }
