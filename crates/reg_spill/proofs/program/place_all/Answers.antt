use Rattle.std.proofs.Common.{◌≡◌, [], ◌∷◌, ◌<◌, ◌∙◌, suc, Some, length, map, flat_map, ap, sym, subst, arith}
use Rattle.std.specs.Prelude.{slice_get, slice_index_or}
use Rattle.std.specs.List.{AllByRecursion}
use Rattle.std.proofs.lemmas.Option.{slice_get-get_or}
use Rattle.simulation.specs.Blocks.{IsAmong}
use Rattle.simulation.proofs.Lists.{length_last}
use Rattle.sml_tree.specs.Sets.{row_at}
use Rattle.closure_ir.specs.declared.body.Body.{Body}
use Rattle.closure_ir.specs.Program as closing
use Rattle.closure_ir.specs.Kept.{BodyKept, body_parts}
use Rattle.placed_ir.specs.Program as placing
use Rattle.placed_ir.specs.Kept as there
use Rattle.reg_spill.proofs.Begun.{all_append}
use Rattle.place_laws.specs.Place.{place_code}
use Rattle.closed_live.specs.Rows.{AreLive}
use Rattle.closed_live.proofs.Unfold.{AreNumbered, all_with}
use Rattle.place_bodies.specs.Steps.{at_of}
use Rattle.place_bodies.specs.Whole.{HasPlaces}
use Rattle.place_bodies.proofs.Whole.{numbered_there, all_placed}
use Rattle.reg_spill.proofs.Names.{all_at}
use Rattle.reg_spill.proofs.Apart.{AreApart, apart_of, distinct_back, part_among, fits_more, binds_fit}
use Rattle.reg_spill.proofs.Placing.{AreDone, row_is, placed_more, parts_kept}
use Rattle.reg_spill.proofs.program.place_all.Goals as goal

pub place_next-requires : goal.place_next-requires
place_next-requires c =
    let p = c.args.program.now in
    let bodies = c.bodies-bodies.result.now in
    let b = c.index-bodies-i.result in
    let all : AllByRecursion (BodyKept p) bodies = subst (AllByRecursion (BodyKept p)) (sym c.bodies-bodies.ensures.bodies) c.bodies-bodies.ensures.kept.kept in
    let mine : BodyKept p b = subst (BodyKept p) (sym c.index-bodies-i.is) (all_at (BodyKept p) bodies c.loop-i.i _ all c.loop-i-test.true) in
    fits_more p.variables (length c.loop-i.table.items) b.binds c.loop-i.invariant.long (binds_fit p b.binds mine.0)

pub begin_parts-requires : goal.begin_parts-requires
begin_parts-requires c =
    let bodies = c.bodies-bodies.result.now in
    let i = c.loop-i.i in
    let b = slice_index_or bodies i c.index-bodies-i-in-loop-i.result in
    let numbered : AreNumbered bodies = subst AreNumbered (sym c.bodies-bodies.ensures.bodies) c.bodies-bodies.ensures.kept.numbered in
    let e : slice_get bodies i ≡ Some b = slice_get-get_or _ _ c.index-bodies-i-in-loop-i.result c.loop-i-test.true in
    subst (λ m. AllByRecursion (λ n. n < m) (body_parts b)) (sym c.loop-i.invariant.len) (all_with (λ n. (i < n) × (n < length bodies)) (λ n. n < length bodies) (λ n h. h.1) (body_parts b) (numbered i b e))

pub loop-i-preserved : goal.loop-i-preserved
loop-i-preserved c =
    let p = c.args.program.now in
    let bodies = c.bodies-bodies.result.now in
    let lives = c.args.lives.now in
    let old = c.loop-i.entries.items in
    let new = c.begin_parts.new.entries.items in
    let b = c.index-bodies-i.result in
    let i = c.loop-i.i in
    let b2 = slice_index_or bodies i c.index-bodies-i-in-loop-i.result in
    let table = c.place_next.new.table.items in
    let kept = c.bodies-bodies.ensures.kept in
    let back : p.bodies ≡ bodies = sym c.bodies-bodies.ensures.bodies in
    let numbered : AreNumbered bodies = subst AreNumbered back kept.numbered in
    let apart : AreApart bodies = subst AreApart back (apart_of p.bodies (distinct_back (map (λ f. f.body) p.functions) (flat_map body_parts p.bodies) kept.apart.1)) in
    let alive : AreLive bodies 0 lives = subst (λ bs. AreLive bs 0 lives) back c.requires.lives in
    let e : slice_get bodies i ≡ Some b = slice_get-get_or _ _ b c.loop-i-test.true ∙ ap Some (sym c.index-bodies-i.is) in
    let e2 : slice_get bodies i ≡ Some b2 = slice_get-get_or _ _ c.index-bodies-i-in-loop-i.result c.loop-i-test.true in
    let same : b2 ≡ b = (let z : Some b2 ≡ Some b = sym e2 ∙ e in cc) in
    let live : c.items.result.now ≡ row_at lives i = row_is lives i _ c.items.result.now (subst (λ n. i < n) (sym alive.len) c.loop-i-test.true) (c.items.ensures ∙ c.index-lives-i.is) in
    let entry : c.items-in-loop-i.result.now ≡ row_at old i = row_is old i _ c.items-in-loop-i.result.now (subst (λ n. i < n) (sym c.loop-i.invariant.len) c.loop-i-test.true) (c.items-in-loop-i.ensures ∙ c.index.ensures) in
    let every : AllByRecursion (BodyKept p) bodies = subst (AllByRecursion (BodyKept p)) back kept.kept in
    let mine : BodyKept p b = subst (BodyKept p) (sym c.index-bodies-i.is) (all_at (BodyKept p) bodies i _ every c.loop-i-test.true) in
    let long = c.loop-i.invariant.long in
    let longer = c.in_ok-body.ensures.long in
    let count : length c.push.new.self.items ≡ suc (length c.loop-i.placed.items) = ap length c.in_ok-push.ensures.items ∙ length_last c.loop-i.placed.items c.in_ok-body.body in
    record {
      len = c.in_ok-begin_parts.ensures.len ∙ c.loop-i.invariant.len;
      count = omega (arith, c.loop-i.invariant.count);
      long = omega arith;
      sound =
          λ q f t x. subst (AllByRecursion (there.BodyKept q)) (sym c.in_ok-push.ensures.items) (all_append (there.BodyKept q) c.loop-i.placed.items (c.in_ok-body.body ∷ []) (c.loop-i.invariant.sound q f t x) (c.in_ok-body.ensures.kept p q f t x mine, tt));
      done =
          subst (AreDone bodies lives new) (sym c.in_ok-push.ensures.items)
          (placed_more bodies numbered apart lives old new i b c.in_ok-body.body c.loop-i.placed.items table e c.loop-i.invariant.count
          (subst (λ (k : Body). AllByRecursion (λ n. HasPlaces lives new n (at_of table)) (body_parts k)) same
          (subst (λ t. AllByRecursion (λ n. HasPlaces lives new n (at_of t)) (body_parts b2)) c.as_slice.ensures.value c.in_ok-begin_parts.ensures.parts))
          (λ d n. c.in_ok-begin_parts.ensures.others d (λ m. n (subst (λ (k : Body). IsAmong d (body_parts k)) same m)))
          c.in_ok-body.ensures.last
          (λ at h. c.in_ok-body.ensures.steps bodies i numbered e alive live at (entry ∙ h ∙ ap (map at) (sym live)))
          c.loop-i.invariant.done);
      kept = λ d n. c.in_ok-begin_parts.ensures.others d (λ m. n (part_among bodies i b2 d e2 m)) ∙ c.loop-i.invariant.kept d n;
    }

pub returns-clause-numbered : goal.returns-clause-numbered
returns-clause-numbered c =
    let bodies = c.bodies-bodies.result.now in
    let numbered : AreNumbered bodies = subst AreNumbered (sym c.bodies-bodies.ensures.bodies) c.bodies-bodies.ensures.kept.numbered in
    let all : length c.loop-i.placed.items ≡ length bodies = (let a = c.loop-i.auto.i-end in let d = c.loop-i-test.false in let f = c.loop-i.invariant.count in omega arith) in
    numbered_there bodies c.args.lives.now c.loop-i.entries.items c.loop-i.placed.items numbered all c.loop-i.invariant.done

pub returns-clause-parts : goal.returns-clause-parts
returns-clause-parts c =
    let bodies = c.bodies-bodies.result.now in
    let all : length c.loop-i.placed.items ≡ length bodies = (let a = c.loop-i.auto.i-end in let d = c.loop-i-test.false in let f = c.loop-i.invariant.count in omega arith) in
    parts_kept bodies c.args.lives.now c.loop-i.entries.items c.loop-i.placed.items all c.loop-i.invariant.done ∙ ap (flat_map body_parts) c.bodies-bodies.ensures.bodies

pub returns-clause-placed : goal.returns-clause-placed
returns-clause-placed c k at n h =
    let p = c.args.program.now in
    let bodies = c.bodies-bodies.result.now in
    let back : p.bodies ≡ bodies = sym c.bodies-bodies.ensures.bodies in
    let numbered : AreNumbered bodies = subst AreNumbered back c.bodies-bodies.ensures.kept.numbered in
    let all : length c.loop-i.placed.items ≡ length bodies = (let a = c.loop-i.auto.i-end in let d = c.loop-i-test.false in let f = c.loop-i.invariant.count in omega arith) in
    subst (λ bs. place_code at (closing.code_at bs k) ≡ placing.code_at c.loop-i.placed.items k) (sym back)
    (all_placed bodies c.args.lives.now c.loop-i.entries.items c.loop-i.placed.items numbered all c.loop-i.invariant.done k at
    (c.loop-i.invariant.kept k (subst (λ bs. IsAmong k (flat_map body_parts bs) → ⊥) back n) ∙ h))
