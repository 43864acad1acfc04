-- Where each body is placed, each tree is.
use Rattle.std.proofs.Common.{◌≡◌, ℕ, zero, suc, ◌+◌, ◌≤◌, ◌<◌, List, [], ◌∷◌, ◌++◌, Option, Some, None, length, drop, map, refl, sym, ap, ◌∙◌, subst, arith, ⊎_elim}
use Rattle.std.specs.Prelude.{slice_get}
use Rattle.std.specs.List.{AllByRecursion}
use Rattle.sml_tree.specs.Sets.{row_at}
use Rattle.simulation.specs.Blocks.{IsAmong}
use Rattle.simulation.proofs.Lists.{get_below}
use Rattle.closure_ir.specs.declared.body.Bind.{Bind}
use Rattle.closure_ir.specs.declared.body.Rule.{Rule}
use Rattle.closure_ir.specs.declared.body.End.{End}
use Rattle.closure_ir.specs.declared.body.End.TheVariants as end
use Rattle.closure_ir.specs.declared.body.Body.{Body}
use Rattle.closure_ir.specs.Program as closing
use Rattle.closure_ir.specs.Kept as kept
use Rattle.placed_ir.specs.declared.body.Body.{Body as BodyThere}
use Rattle.placed_ir.specs.Program as placing
use Rattle.placed_ir.specs.Kept as there
use Rattle.closure_ir.specs.Code.{Halt}
use Rattle.placed_ir.specs.Code as code
use Rattle.place_laws.specs.Live.{is_in, live}
use Rattle.place_laws.specs.Place.{Places, place_code}
use Rattle.place_laws.proofs.Places.{lt_or_not}
use Rattle.closed_live.specs.Same.{AreSame}
use Rattle.closed_live.specs.Rows.{binds_live, end_live, AreAlong, AreLive}
use Rattle.closed_live.proofs.Sets.{same_trans}
use Rattle.closed_live.proofs.Unfold as closed
use Rattle.closed_live.proofs.Unfold.{all_with}
use Rattle.closed_live.proofs.Table.{binds_live_same, binds_are, end_here}
use Rattle.place_bodies.specs.Steps.{at_of, body_steps, end_table, rule_placed, end_placed}
use Rattle.place_bodies.specs.Whole.{HasPlaces, IsBodyPlaced}
use Rattle.place_bodies.proofs.Least.{same_within}
use Rattle.place_bodies.proofs.Alike.{Agree, alike}
use Rattle.place_bodies.proofs.Binds.{Fits, AreBehind, binds_placed}
use Rattle.place_bodies.proofs.Ends.{end_is_placed}
use Rattle.place_bodies.proofs.Unfold as placed
use Rattle.place_bodies.proofs.Unfold.{none_past, end_same}

-- ---- The same bodies stand in a placed body

rules_parts : (at : Places) (rules : List Rule) (otherwise : ℕ) → map (λ r. r.body) (map (rule_placed at) rules) ++ otherwise ∷ [] ≡ map (λ r. r.body) rules ++ otherwise ∷ []
rules_parts at [] otherwise = refl
rules_parts at (r ∷ rules) otherwise = ap (λ ns. r.body ∷ ns) (rules_parts at rules otherwise)

pub parts_same : (at : Places) (e : End) → there.end_parts (end_placed at e) ≡ kept.end_parts e
parts_same at (end.Equal a b truth k) = refl
parts_same at (end.Call t f os) = refl
parts_same at (end.Match o rules otherwise) = rules_parts at rules otherwise
parts_same at (end.Throw o) = refl
parts_same at end.Halt = refl

-- ---- All bodies

module _ (bodies : List Body) (lives entries : List (List ℕ)) (theres : List BodyThere) (numbered : closed.AreNumbered bodies) (long : length theres ≡ length bodies) (all : (i : ℕ) (b : Body) (t : BodyThere) → slice_get bodies i ≡ Some b → slice_get theres i ≡ Some t → IsBodyPlaced bodies lives entries i b t) where
  -- the parts of a placed body have greater numbers too
  pub numbered_there : placed.AreNumbered theres
  numbered_there i t e =
      let lt : i < length bodies = subst (λ n. i < n) long (placed.some_within theres i t e) in
      let found = get_below bodies i lt in
      let p = all i found.0 t found.1 e in
      let same : there.end_parts t.end ≡ kept.end_parts found.0.end = ap there.end_parts p.last ∙ parts_same (at_of p.table) found.0.end in
      subst (AllByRecursion (λ c. (i < c) × (c < length theres))) (sym same) (subst (λ n. AllByRecursion (λ c. (i < c) × (c < n)) (kept.end_parts found.0.end)) (sym long) (numbered i found.0 found.1))

  -- one body, if those that it names are placed
  one : (i : ℕ) (b : Body) (t : BodyThere) → slice_get bodies i ≡ Some b → slice_get theres i ≡ Some t → ((c : ℕ) (at : Places) → i < c → HasPlaces lives entries c at → place_code at (closing.code_at bodies c) ≡ placing.code_at theres c) → (at : Places) → HasPlaces lives entries i at → place_code at (closing.code_at bodies i) ≡ placing.code_at theres i
  one i b t e f rest at h =
      let p = all i b t e f in
      let g = at_of p.table in
      let parts : AllByRecursion (λ n. place_code g (closing.code_at bodies n) ≡ placing.code_at theres n) (kept.end_parts b.end) =
      both (kept.end_parts b.end) (numbered i b e) p.parts in
      let ends : place_code g (closing.code_of_end (closing.code_at bodies) b.end) ≡ placing.code_of_end (placing.code_at theres) t.end =
      end_is_placed (closing.code_at bodies) g b.end
      ∙ end_same (λ n. place_code g (closing.code_at bodies n)) (placing.code_at theres) (end_placed g b.end) (subst (AllByRecursion (λ n. place_code g (closing.code_at bodies n) ≡ placing.code_at theres n)) (sym (parts_same g b.end)) parts)
      ∙ sym (ap (placing.code_of_end (placing.code_at theres)) p.last) in
      ap (place_code at) (closed.code_unfold bodies numbered i b e)
      ∙ p.steps at h
      ∙ ap (placing.code_of_steps t.steps) ends
      ∙ sym (placed.code_unfold theres numbered_there i t f)
    where
      both : (ns : List ℕ) → AllByRecursion (λ c. (i < c) × (c < length bodies)) ns → AllByRecursion (λ n. HasPlaces lives entries n (at_of (all i b t e f).table)) ns → AllByRecursion (λ n. place_code (at_of (all i b t e f).table) (closing.code_at bodies n) ≡ placing.code_at theres n) ns
      both [] q r = tt
      both (n ∷ ns) q r = (rest n (at_of (all i b t e f).table) q.0.0 r.0, both ns q.1 r.1)

  past : (i : ℕ) → length bodies ≤ i → (at : Places) → place_code at (closing.code_at bodies i) ≡ placing.code_at theres i
  past i le at = ap (place_code at) (closed_past (length bodies) i le) ∙ sym (there_past (length theres) i (omega (arith, long)))
    where
      closed_past : (k i : ℕ) → length bodies ≤ i → closing.code_within k bodies i ≡ Halt
      closed_past zero i h = refl
      closed_past (suc k) i h = ap (closing.code_of_body (closing.code_within k bodies)) (closed.none_past bodies i h)

      there_past : (k i : ℕ) → length theres ≤ i → placing.code_within k theres i ≡ code.Halt
      there_past zero i h = refl
      there_past (suc k) i h = ap (placing.code_of_body (placing.code_within k theres)) (none_past theres i h)

  within : (k i : ℕ) → length bodies ≤ k + i → (at : Places) → HasPlaces lives entries i at → place_code at (closing.code_at bodies i) ≡ placing.code_at theres i
  within zero i h at g = past i (omega arith) at
  within (suc k) i h at g =
      ⊎_elim
      (λ (lt : i < length bodies).
      let b = get_below bodies i lt in
      let t = get_below theres i (omega (arith, long)) in
      one i b.0 t.0 b.1 t.1 (λ c bt le q. within k c (omega arith) bt q) at g)
      (λ (le : length bodies ≤ i). past i le at) (lt_or_not i (length bodies))

  -- each tree is placed
  pub all_placed : (i : ℕ) (at : Places) → HasPlaces lives entries i at → place_code at (closing.code_at bodies i) ≡ placing.code_at theres i
  all_placed i at h = within (length bodies) i (omega arith) at h

-- ---- One body by its table

behind : (binds : List Bind) (along : List (List ℕ)) (first last : List ℕ) → length along ≡ length binds → ((k : ℕ) → k < length binds → AreSame (row_at along k) (binds_live (drop (suc k) binds) first)) → AreSame first last → AreBehind binds along last
behind [] along first last e h s = tt
behind (b ∷ binds) [] first last e h s = absurd (omega arith)
behind (b ∷ binds) (alive ∷ along) first last e h s =
    (same_trans alive (binds_live binds first) (binds_live binds last) (h 0 (omega arith)) (binds_live_same binds first last s), behind binds along first last (omega arith) (λ k lt. h (suc k) (omega arith)) s)

pub body_leads : (bodies : List Body) (numbered : closed.AreNumbered bodies) (lives : List (List ℕ)) (i : ℕ) (b : Body) (along : List (List ℕ)) (t : List ℕ) → slice_get bodies i ≡ Some b → i < length bodies → AreLive bodies 0 lives → AreAlong (row_at lives) b 0 along → AllByRecursion (Fits (length t)) b.binds → (at : Places) → ((x : ℕ) → IsAmong x (row_at lives i) → at x ≡ at_of t x) →
    place_code at (closing.code_of_binds b.binds (closing.code_of_end (closing.code_at bodies) b.end)) ≡ placing.code_of_steps (body_steps t b.binds along) (place_code (at_of (end_table t b.binds along)) (closing.code_of_end (closing.code_at bodies) b.end))
body_leads bodies numbered lives i b along t e lt alive rows fits at agree =
    let c = closing.code_of_end (closing.code_at bodies) b.end in
    let whole = closing.code_of_binds b.binds c in
    let later : AreLive bodies (suc i) lives = record { len = alive.len; at = λ k h g. alive.at k (omega arith) g } in
    let lasts : AreSame (end_live (row_at lives) b.end) (live c) = end_here bodies numbered i b e lives later in
    let mine : AreSame (live whole) (row_at lives i) = λ z. sym (alive.at i (omega arith) lt z ∙ ap (λ k. is_in z (live k)) (closed.code_unfold bodies numbered i b e)) in
    alike whole at (at_of t) (λ x m. agree x (same_within (live whole) (row_at lives i) mine x m))
    ∙ binds_placed t b.binds along c fits (behind b.binds along (end_live (row_at lives) b.end) (live c) rows.len (λ k g. rows.at k (omega arith) g) lasts)
