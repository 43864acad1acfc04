use Rattle.std.proofs.Common.{◌≡◌, ◌<◌, ◌≤◌, ℕ, List, [], ◌∷◌, length, arith, ap, subst, ◌∙◌}
use Rattle.std.specs.Prelude.{map}
use Rattle.std.proofs.lemmas.List.{get_or-map, length-map, map-append, take_all}
use Rattle.smlc_edge.specs.Edge.{Fails}
use Rattle.smlc_jobs.specs.Held.{AreHeld}
use Rattle.smlc_jobs.proofs.Held.{held_more}
use Rattle.smlc_jobs.proofs.load.load_all.Goals as goal

pub loop-i-preserved : goal.loop-i-preserved
loop-i-preserved g c =
    let l = c.loop-i in
    let names : List (List ℕ) = map (λ name. name.now) c.args.names.now in
    let inside : l.i < length c.args.names.now = omega arith in
    let within : l.i < length names = omega (arith, length-map c.args.names.now (λ name. name.now)) in
    record {
      held = held_more (g.F.Store.files c.args.store.now) (g.F.Store.files l.store) names (map (λ f. f.items) l.files.items) (map (λ f. f.items) c.push.new.self.items) l.i _ c.in-Ok.file.items within
          (get_or-map (λ name. name.now) c.args.names.now l.i _ [] inside)
          (ap (λ xs. map (λ f. f.items) xs) c.in-Ok-push.ensures.items ∙ map-append (λ f. f.items) l.files.items (c.in-Ok.file ∷ []))
          l.invariant.keeps l.invariant.held (λ files t. c.in-Ok.ensures.told files t);
      count = omega (arith, c.in-Ok-push.ensures.len, l.invariant.count);
      keeps = λ files t. c.in-Ok.ensures.kept files (l.invariant.keeps files t);
      same = c.in-Ok.ensures.cause ∙ l.invariant.same;
      loads = λ other h. c.in-Ok.ensures.loads_kept other (l.invariant.loads other h);
      saves = λ other n h. c.in-Ok.ensures.saves_kept other n (l.invariant.saves other n h);
    }

pub returns-in-Err-Failed-clause-loaded : goal.returns-in-Err-Failed-clause-loaded
returns-in-Err-Failed-clause-loaded g c =
    let l = c.loop-i in
    let inside : l.i < length c.args.names.now = omega arith in
    let k = rw c.in-Err-Failed.field-0-is at c.in-Err-Failed.ensures.cause in (
      record { within = omega (arith, inside, length-map c.args.names.now (λ name. name.now)); contents = map (λ f. f.items) l.files.items; held = l.invariant.held },
      λ files t. c.in-Err-Failed.ensures.kept files (l.invariant.keeps files t),
      subst (λ (n : ℕ). Fails n (g.F.Store.faults c.load.new.self)) l.invariant.same k,
    )

pub returns-in-Err-Failed-clause-surely : goal.returns-in-Err-Failed-clause-surely
returns-in-Err-Failed-clause-surely g c = λ all.
    let l = c.loop-i in
    let names : List (List ℕ) = map (λ name. name.now) c.args.names.now in
    let inside : l.i < length c.args.names.now = omega arith in
    let within : l.i < length names = omega (arith, length-map c.args.names.now (λ name. name.now)) in
    let k = rw c.in-Err-Failed.field-0-is at c.in-Err-Failed.ensures.surely in
    absurd (k (l.invariant.loads _ (subst (λ (name : List ℕ). g.F.Store.surely_loads c.args.store.now name) (get_or-map (λ name. name.now) c.args.names.now l.i _ [] inside) (all l.i [] within))))

pub returns-clause-loaded : goal.returns-clause-loaded
returns-clause-loaded g c =
    let l = c.loop-i in
    let names : List (List ℕ) = map (λ name. name.now) c.args.names.now in
    let long : length names ≡ length c.args.names.now = length-map c.args.names.now (λ name. name.now) in
    let end = c.loop-i.auto.i-end in
    let past : length names ≤ l.i = omega arith in
    let inside : l.i ≤ length c.args.names.now = omega arith in (
      subst (λ (xs : List (List ℕ)). AreHeld (g.F.Store.files c.args.store.now) xs (map (λ f. f.items) l.files.items)) (take_all l.i names past) l.invariant.held,
      omega (arith, long, l.invariant.count, inside),
      λ files t. l.invariant.keeps files t,
      l.invariant.same,
    )
