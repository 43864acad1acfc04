-- Each body stands in one place.
use Rattle.std.proofs.Common.{◌≡◌, ℕ, zero, suc, ◌<◌, ◌≤◌, Bool, true, false, List, [], ◌∷◌, ◌++◌, Some, length, flat_map, inl, inr, refl, sym, ap, ◌∙◌, arith}
use Rattle.std.specs.Prelude.{slice_get, nat_eq, ◌||◌}
use Rattle.std.specs.List.{AllByRecursion}
use Rattle.simulation.specs.Blocks.{IsAmong}
use Rattle.simulation.proofs.Lists.{some_eq, among_left, among_right}
use Rattle.sml_tree.specs.Sets.{has}
use Rattle.sml_tree.specs.IsBare.{IsDistinct}
use Rattle.closure_ir.specs.declared.body.Maker.{Maker}
use Rattle.closure_ir.specs.declared.body.Bind.{Bind}
use Rattle.closure_ir.specs.declared.body.Bind.TheVariants as bind
use Rattle.closure_ir.specs.declared.body.Body.{Body}
use Rattle.closure_ir.specs.Program.{Closed}
use Rattle.closure_ir.specs.Kept.{body_parts, MakerKept, BindKept}
use Rattle.place_laws.proofs.Places.{eq_true}
use Rattle.place_bodies.proofs.Binds.{Fits}

or_true : (a b : Bool) → b ≡ true → (a || b) ≡ true
or_true true b e = refl
or_true false b e = e

pub has_among : (n : ℕ) (xs : List ℕ) → IsAmong n xs → has xs n ≡ true
has_among n [] m = absurd m
has_among n (x ∷ xs) (inl e) = ap (λ b. b || has xs n) (eq_true n x e)
has_among n (x ∷ xs) (inr m) = or_true (nat_eq n x) (has xs n) (has_among n xs m)

pub distinct_cross : (us vs : List ℕ) (n : ℕ) → IsDistinct (us ++ vs) → IsAmong n us → IsAmong n vs → ⊥
distinct_cross [] vs n d m k = m
distinct_cross (u ∷ us) vs n d (inl e) k =
    let t : false ≡ true = sym d.0 ∙ ap (has (us ++ vs)) (sym e) ∙ has_among n (us ++ vs) (among_right n us vs k) in cc
distinct_cross (u ∷ us) vs n d (inr m) k = distinct_cross us vs n d.1 m k

pub distinct_back : (us vs : List ℕ) → IsDistinct (us ++ vs) → IsDistinct vs
distinct_back [] vs d = d
distinct_back (u ∷ us) vs d = distinct_back us vs d.1

pub part_among : (bodies : List Body) (i : ℕ) (b : Body) (n : ℕ) → slice_get bodies i ≡ Some b → IsAmong n (body_parts b) → IsAmong n (flat_map body_parts bodies)
part_among [] i b n e m = absurd (cc)
part_among (x ∷ xs) zero b n e m = among_left n (body_parts x) (flat_map body_parts xs) (some_eq (λ (k : Body). IsAmong n (body_parts k)) b x (sym e) m)
part_among (x ∷ xs) (suc i) b n e m = among_right n (body_parts x) (flat_map body_parts xs) (part_among xs i b n e m)

-- a body that stands in two bodies stands in one
abbrev pub AreApart : List Body → Type 0
AreApart bodies = (i j : ℕ) (b d : Body) (n : ℕ) → slice_get bodies i ≡ Some b → slice_get bodies j ≡ Some d → IsAmong n (body_parts b) → IsAmong n (body_parts d) → i ≡ j

pub apart_of : (bodies : List Body) → IsDistinct (flat_map body_parts bodies) → AreApart bodies
apart_of [] h i j b d n e f m k = absurd (cc)
apart_of (x ∷ xs) h zero zero b d n e f m k = refl
apart_of (x ∷ xs) h zero (suc j) b d n e f m k =
    absurd (distinct_cross (body_parts x) (flat_map body_parts xs) n h (some_eq (λ (c : Body). IsAmong n (body_parts c)) b x (sym e) m) (part_among xs j d n f k))
apart_of (x ∷ xs) h (suc i) zero b d n e f m k =
    absurd (distinct_cross (body_parts x) (flat_map body_parts xs) n h (some_eq (λ (c : Body). IsAmong n (body_parts c)) d x (sym f) k) (part_among xs i b n e m))
apart_of (x ∷ xs) h (suc i) (suc j) b d n e f m k = ap suc (apart_of xs (distinct_back (body_parts x) (flat_map body_parts xs) h) i j b d n e f m k)

-- ---- Variables have room in a table for all

makers_fit : (p : Closed) (group : ℕ) (makers : List Maker) → AllByRecursion (MakerKept p group) makers → AllByRecursion (λ m. m.var < p.variables) makers
makers_fit p group [] h = tt
makers_fit p group (m ∷ makers) h = (h.0.0, makers_fit p group makers h.1)

bind_fits : (p : Closed) (b : Bind) → BindKept p b → Fits p.variables b
bind_fits p (bind.Make makers) h = makers_fit p (length makers) makers h
bind_fits p (bind.Let x o) h = h.0
bind_fits p (bind.Prim x f os) h = h.0
bind_fits p (bind.Handler x) h = h
bind_fits p (bind.SetHandler o) h = tt

makers_more : (n m : ℕ) (makers : List Maker) → n ≤ m → AllByRecursion (λ k. k.var < n) makers → AllByRecursion (λ k. k.var < m) makers
makers_more n m [] le h = tt
makers_more n m (k ∷ makers) le h = (let l : k.var < n = h.0 in omega arith, makers_more n m makers le h.1)

bind_more : (n m : ℕ) (b : Bind) → n ≤ m → Fits n b → Fits m b
bind_more n m (bind.Make makers) le h = makers_more n m makers le h
bind_more n m (bind.Let x o) le h = let l : x < n = h in omega arith
bind_more n m (bind.Prim x f os) le h = let l : x < n = h in omega arith
bind_more n m (bind.Handler x) le h = let l : x < n = h in omega arith
bind_more n m (bind.SetHandler o) le h = tt

pub fits_more : (n m : ℕ) (binds : List Bind) → n ≤ m → AllByRecursion (Fits n) binds → AllByRecursion (Fits m) binds
fits_more n m [] le h = tt
fits_more n m (b ∷ binds) le h = (bind_more n m b le h.0, fits_more n m binds le h.1)

pub binds_fit : (p : Closed) (binds : List Bind) → AllByRecursion (BindKept p) binds → AllByRecursion (Fits p.variables) binds
binds_fit p [] h = tt
binds_fit p (b ∷ binds) h = (bind_fits p b h.0, binds_fit p binds h.1)
