-- Bodies that are placed stay so while the next is.
use Rattle.std.proofs.Common.{◌≡◌, ℕ, zero, suc, ◌<◌, ◌≤◌, List, [], ◌∷◌, ◌++◌, Some, length, flat_map, inl, inr, refl, sym, ap, ◌∙◌, subst, arith, ⊎_elim}
use Rattle.std.specs.Prelude.{slice_get, slice_index_or, unwrap_or}
use Rattle.std.specs.List.{AllByRecursion}
use Rattle.std.proofs.lemmas.Option.{unwrap_or-slice_get}
use Rattle.simulation.specs.Blocks.{IsAmong}
use Rattle.simulation.proofs.Lists.{get_cases}
use Rattle.sml_tree.specs.Sets.{row_at}
use Rattle.closure_ir.specs.declared.body.Body.{Body}
use Rattle.closure_ir.specs.Program as closing
use Rattle.closure_ir.specs.Kept.{body_parts}
use Rattle.placed_ir.specs.declared.body.Body.{Body as BodyThere}
use Rattle.placed_ir.specs.Kept as there
use Rattle.placed_ir.specs.Program.{code_of_steps}
use Rattle.place_laws.specs.Place.{Places, place_code}
use Rattle.closed_live.proofs.Unfold.{AreNumbered}
use Rattle.place_bodies.proofs.Unfold as placed
use Rattle.place_bodies.proofs.Whole.{parts_same}
use Rattle.place_bodies.specs.Steps.{at_of, end_placed}
use Rattle.place_bodies.specs.Whole.{HasPlaces, IsBodyPlaced}
use Rattle.reg_spill.proofs.Apart.{AreApart}

pub row_is : (rows : List (List ℕ)) (i : ℕ) (d x : List ℕ) → i < length rows → x ≡ slice_index_or rows i d → x ≡ row_at rows i
row_is rows i d x lt e = e ∙ sym (unwrap_or-slice_get rows i d) ∙ same rows i lt
  where
    same : (rs : List (List ℕ)) (k : ℕ) → k < length rs → unwrap_or (slice_get rs k) d ≡ row_at rs k
    same [] k l = absurd (omega arith)
    same (r ∷ rs) zero l = refl
    same (r ∷ rs) (suc k) l = same rs k (omega arith)

-- all of these numbers are greater, so i isn't one
less_not : (j i m : ℕ) (ns : List ℕ) → j ≤ i → AllByRecursion (λ c. (i < c) × (c < m)) ns → IsAmong j ns → ⊥
less_not j i m [] le h k = k
less_not j i m (n ∷ ns) le h (inl e) = let l : i < n = h.0.0 in absurd (omega arith)
less_not j i m (n ∷ ns) le h (inr k) = less_not j i m ns le h.1 k

kept_rows : (lives old new : List (List ℕ)) (at : Places) (ns : List ℕ) → ((n : ℕ) → IsAmong n ns → row_at new n ≡ row_at old n) → AllByRecursion (λ n. HasPlaces lives old n at) ns → AllByRecursion (λ n. HasPlaces lives new n at) ns
kept_rows lives old new at [] f h = tt
kept_rows lives old new at (n ∷ ns) f h = (f n (inl refl) ∙ h.0, kept_rows lives old new at ns (λ k m. f k (inr m)) h.1)

abbrev pub AreDone : List Body → List (List ℕ) → List (List ℕ) → List BodyThere → Type 0
AreDone bodies lives entries theres = (j : ℕ) (b : Body) (t : BodyThere) → slice_get bodies j ≡ Some b → slice_get theres j ≡ Some t → IsBodyPlaced bodies lives entries j b t

module _ (bodies : List Body) (numbered : AreNumbered bodies) (apart : AreApart bodies) (lives old new : List (List ℕ)) (i : ℕ) (b : Body) (t : BodyThere) (theres : List BodyThere) (table : List ℕ) where
  pub placed_more : slice_get bodies i ≡ Some b → length theres ≡ i →
      AllByRecursion (λ n. HasPlaces lives new n (at_of table)) (body_parts b) →
      ((c : ℕ) → (IsAmong c (body_parts b) → ⊥) → row_at new c ≡ row_at old c) →
      t.end ≡ end_placed (at_of table) b.end →
      ((at : Places) → HasPlaces lives old i at → place_code at (closing.code_of_binds b.binds (closing.code_of_end (closing.code_at bodies) b.end)) ≡ code_of_steps t.steps (place_code (at_of table) (closing.code_of_end (closing.code_at bodies) b.end))) →
      AreDone bodies lives old theres → AreDone bodies lives new (theres ++ t ∷ [])
  placed_more e count parts others last steps done j d u f g =
      ⊎_elim (λ (m : slice_get theres j ≡ Some u). earlier m (placed.some_within theres j u m)) (λ (q : (j ≡ length theres) × (u ≡ t)). here (q.0 ∙ count) q.1) (get_cases theres t j u g)
    where
      here : j ≡ i → u ≡ t → IsBodyPlaced bodies lives new j d u
      here same there =
          let k : slice_get bodies i ≡ Some d = subst (λ n. slice_get bodies n ≡ Some d) same f in
          let q : d ≡ b = (let z : Some d ≡ Some b = sym k ∙ e in cc) in
          subst (λ n. IsBodyPlaced bodies lives new n d u) (sym same)
          (subst (λ x. IsBodyPlaced bodies lives new i x u) (sym q)
          (subst (IsBodyPlaced bodies lives new i b) (sym there)
          (record { table = table; steps = λ at h. steps at (sym (others i (less_not i i (length bodies) (body_parts b) (omega arith) (numbered i b e))) ∙ h); last = last; parts = parts })))

      earlier : slice_get theres j ≡ Some u → j < length theres → IsBodyPlaced bodies lives new j d u
      earlier m lt =
          let p = done j d u f m in
          record {
            table = p.table;
            steps = λ at h. p.steps at (sym (others j (less_not j i (length bodies) (body_parts b) (omega (arith, count)) (numbered i b e))) ∙ h);
            last = p.last;
            parts = kept_rows lives old new (at_of p.table) (body_parts d) (λ n k. others n (λ l. let s : j ≡ i = apart j i d b n f e k l in absurd (omega (arith, count)))) p.parts;
          }

-- a placed body names the same bodies
flat_same : (bodies : List Body) (theres : List BodyThere) → length theres ≡ length bodies → ((j : ℕ) (b : Body) (t : BodyThere) → slice_get bodies j ≡ Some b → slice_get theres j ≡ Some t → there.end_parts t.end ≡ body_parts b) → flat_map there.body_parts theres ≡ flat_map body_parts bodies
flat_same [] [] e h = refl
flat_same [] (t ∷ theres) e h = absurd (omega arith)
flat_same (b ∷ bodies) [] e h = absurd (omega arith)
flat_same (b ∷ bodies) (t ∷ theres) e h =
    ap (λ ns. ns ++ flat_map there.body_parts theres) (h 0 b t refl refl) ∙ ap (λ ns. body_parts b ++ ns) (flat_same bodies theres (omega arith) (λ j c u f g. h (suc j) c u f g))

pub parts_kept : (bodies : List Body) (lives entries : List (List ℕ)) (theres : List BodyThere) → length theres ≡ length bodies → AreDone bodies lives entries theres → flat_map there.body_parts theres ≡ flat_map body_parts bodies
parts_kept bodies lives entries theres e done =
    flat_same bodies theres e (λ j b t f g. let p = done j b t f g in ap there.end_parts p.last ∙ parts_same (at_of p.table) b.end)
