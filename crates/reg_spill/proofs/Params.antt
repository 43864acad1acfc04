-- Places of parameters, and the rows of functions one after another.
use Rattle.std.proofs.Common.{◌≡◌, ◌≢◌, ℕ, zero, suc, ◌+◌, ◌<◌, ◌≤◌, ◌==◌, Bool, true, false, List, [], ◌∷◌, ◌++◌, cond, length, drop, take, map, refl, sym, ap, ◌∙◌, subst, arith}
use Rattle.std.specs.Prelude.{slice_set, slice_index_or, nat_eq, ◌||◌}
use Rattle.std.specs.List.{AllByRecursion}
use Rattle.std.proofs.Math.Seq.{drop-cons, take-suc}
use Rattle.sml_tree.specs.Sets.{has, row_at}
use Rattle.sml_tree.specs.IsBare.{IsDistinct}
use Rattle.closure_ir.specs.declared.body.Function.{Function}
use Rattle.closed_live.proofs.Table.{row_at-set_same}
use Rattle.place_laws.specs.Place.{Places, at_place, at_params, nowhere}
use Rattle.place_laws.proofs.Places.{eq_true}
use Rattle.place_bodies.specs.Whole.{HasPlaces}
use Rattle.reg_spill.proofs.Begun.{row_other}

-- only the place of the variable that is asked for matters
params_at : (ps : List ℕ) (k : ℕ) (f g : Places) (v : ℕ) → f v ≡ g v → at_params ps k f v ≡ at_params ps k g v
params_at [] k f g v e = e
params_at (x ∷ ps) k f g v e = params_at ps (suc k) (at_place f x k) (at_place g x k) v (ap (cond (v == x) k) e)

abbrev pub always : ℕ → Places
always p y = p

pub params_more : (ps : List ℕ) (i d x : ℕ) (place next found better v all : ℕ) → i < length ps → x ≡ slice_index_or ps i d → next ≡ place + 1 → better ≡ cond (v == x) place found → at_params (drop i ps) place (always found) v ≡ all → at_params (drop (i + 1) ps) next (always better) v ≡ all
params_more ps i d x place next found better v all lt e n b h =
    let up : suc i ≡ i + 1 = omega arith in
    let front : drop i ps ≡ x ∷ drop (i + 1) ps = drop-cons ps i d lt ∙ ap (λ k. k ∷ drop (suc i) ps) (sym e) ∙ ap (λ j. x ∷ drop j ps) up in
    let k : next ≡ suc place = omega arith in
    ap (λ j. at_params (drop (i + 1) ps) j (always better) v) k
    ∙ params_at (drop (i + 1) ps) (suc place) (always better) (at_place (always found) x place) v b
    ∙ subst (λ qs. at_params qs place (always found) v ≡ all) front h

past : (ps : List ℕ) (i : ℕ) → length ps ≤ i → drop i ps ≡ []
past [] zero h = refl
past [] (suc i) h = refl
past (p ∷ ps) zero h = absurd (omega arith)
past (p ∷ ps) (suc i) h = past ps i (omega arith)

pub params_end : (ps : List ℕ) (i place found v all : ℕ) → length ps ≤ i → at_params (drop i ps) place (always found) v ≡ all → found ≡ all
params_end ps i place found v all le h = subst (λ qs. at_params qs place (always found) v ≡ all) (past ps i le) h

-- ---- Rows

pub none_has : (lives : List (List ℕ)) (i : ℕ) → HasPlaces lives (map (map nowhere) lives) i nowhere
none_has [] i = refl
none_has (r ∷ lives) zero = refl
none_has (r ∷ lives) (suc i) = none_has lives i

abbrev pub bodies_of : List Function → List ℕ
bodies_of fs = map (λ f. f.body) fs

abbrev pub Begins : List (List ℕ) → List (List ℕ) → Function → Type 0
Begins lives entries f = HasPlaces lives entries f.body (at_params f.params 0 nowhere)

has_at : (fs : List Function) (i : ℕ) (d : Function) → i < length fs → has (bodies_of fs) (slice_index_or fs i d).body ≡ true
has_at [] i d lt = absurd (omega arith)
has_at (f ∷ fs) zero d lt = ap (λ b. b || has (bodies_of fs) f.body) (eq_true f.body f.body refl)
has_at (f ∷ fs) (suc i) d lt = or_true (nat_eq (slice_index_or fs i d).body f.body) (has (bodies_of fs) (slice_index_or fs i d).body) (has_at fs i d (omega arith))
  where
    or_true : (a b : Bool) → b ≡ true → (a || b) ≡ true
    or_true true b e = refl
    or_true false b e = e

-- the body of a function isn't among those of earlier ones, nor the first
pub not_first : (fs : List Function) (i : ℕ) (d : Function) → IsDistinct (0 ∷ bodies_of fs) → i < length fs → 0 ≢ (slice_index_or fs i d).body
not_first fs i d h lt e = let t : false ≡ true = sym h.0 ∙ ap (has (bodies_of fs)) e ∙ has_at fs i d lt in cc

kept : (lives old new : List (List ℕ)) (n : ℕ) → ((c : ℕ) → c ≢ n → row_at new c ≡ row_at old c) → (fs : List Function) (i : ℕ) (d : Function) → IsDistinct (bodies_of fs) → i < length fs → n ≡ (slice_index_or fs i d).body → AllByRecursion (Begins lives old) (take i fs) → AllByRecursion (Begins lives new) (take i fs)
kept lives old new n others [] i d h lt e g = absurd (omega arith)
kept lives old new n others (f ∷ fs) zero d h lt e g = tt
kept lives old new n others (f ∷ fs) (suc i) d h lt e g =
    (others f.body (λ s. let t : false ≡ true = sym h.0 ∙ ap (has (bodies_of fs)) (s ∙ e) ∙ has_at fs i d (omega arith) in cc) ∙ g.0, kept lives old new n others fs i d h.1 (omega arith) e g.1)

all_last : (P : Function → Type 0) (fs : List Function) (f : Function) → AllByRecursion P fs → P f → AllByRecursion P (fs ++ f ∷ [])
all_last P [] f h p = (p, tt)
all_last P (g ∷ fs) f h p = (h.0, all_last P fs f h.1 p)

pub begin_more : (lives old : List (List ℕ)) (fs : List Function) (i : ℕ) (d f : Function) (places : List ℕ) → IsDistinct (0 ∷ bodies_of fs) → i < length fs → f ≡ slice_index_or fs i d → f.body < length old → places ≡ map (at_params f.params 0 nowhere) (row_at lives f.body) → AllByRecursion (Begins lives old) (take i fs) → AllByRecursion (Begins lives (slice_set old f.body places)) (take (i + 1) fs)
begin_more lives old fs i d f places h lt e within is g =
    let up : suc i ≡ i + 1 = omega arith in
    let new = slice_set old f.body places in
    let here : Begins lives new f = row_at-set_same old f.body places within ∙ is in
    subst (λ k. AllByRecursion (Begins lives new) (take k fs)) up
    (subst (AllByRecursion (Begins lives new)) (sym (take-suc fs i d lt))
    (all_last (Begins lives new) (take i fs) (slice_index_or fs i d)
    (kept lives old new f.body (λ c n. row_other old f.body c places n) fs i d h.1 lt (ap (λ (k : Function). k.body) e) g)
    (subst (λ (k : Function). Begins lives new k) e here)))

pub main_more : (lives old : List (List ℕ)) (fs : List Function) (i : ℕ) (d f : Function) (places : List ℕ) → IsDistinct (0 ∷ bodies_of fs) → i < length fs → f ≡ slice_index_or fs i d → HasPlaces lives old 0 nowhere → HasPlaces lives (slice_set old f.body places) 0 nowhere
main_more lives old fs i d f places h lt e g = row_other old f.body 0 places (λ s. not_first fs i d h lt (s ∙ ap (λ (k : Function). k.body) e)) ∙ g

pub function_at : (n : ℕ) (fs : List Function) (i : ℕ) (d : Function) → AllByRecursion (λ f. f.body < n) fs → i < length fs → (slice_index_or fs i d).body < n
function_at n [] i d h lt = absurd (omega arith)
function_at n (f ∷ fs) zero d h lt = h.0
function_at n (f ∷ fs) (suc i) d h lt = function_at n fs i d h.1 (omega arith)

pub begun_length : (lives entries : List (List ℕ)) → entries ≡ map (map nowhere) lives → length entries ≡ length lives
begun_length lives entries e = ap length e ∙ long lives
  where
    long : (rows : List (List ℕ)) → length (map (map nowhere) rows) ≡ length rows
    long [] = refl
    long (r ∷ rows) = ap suc (long rows)
