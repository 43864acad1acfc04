-- How often numbers stand in lists, and where the bodies that stand in others do.
use Rattle.std.proofs.Common.{◌≡◌, ℕ, suc, ◌+◌, ◌≤◌, ◌<◌, Bool, true, false, List, [], ◌∷◌, ◌++◌, Some, map, flat_map, length, slice_get, inl, inr, ⊎_elim, refl, sym, ap, ◌∙◌, subst, arith, nat_eq}
use Rattle.std.specs.List.{AllByRecursion}
use Rattle.std.specs.Prelude.{◌||◌}
use Rattle.std.proofs.lemmas.Bool.{eqb-true, eq-eqb}
use Rattle.simulation.specs.Blocks.{IsAmong}
use Rattle.simulation.proofs.Lists.{among_append}
use Rattle.cps_free.proofs.Unfold.{all_with}
use Rattle.close_rows.specs.Rows.{AreNumbered}
use Rattle.sml_tree.specs.Sets.{has}
use Rattle.sml_tree.specs.IsBare.{IsDistinct}
use Rattle.cps_ir.specs.Kept.{bind_parts, end_parts, body_parts}
use Rattle.cps_ir.specs.declared.body.Function.{Function as Entry}
use Rattle.cps_ir.specs.declared.body.Bind.{Bind}
use Rattle.cps_ir.specs.declared.body.Bind.TheVariants as bind
use Rattle.cps_ir.specs.declared.body.Body.{Body}
use Rattle.close_seen.specs.Seen.{bind_functions, body_functions, functions_of}

abbrev pub once : Bool → ℕ
once true = 1
once false = 0

abbrev pub tally : ℕ → List ℕ → ℕ
tally n [] = 0
tally n (x ∷ xs) = once (nat_eq n x) + tally n xs

pub tally_append : (n : ℕ) (xs ys : List ℕ) → tally n (xs ++ ys) ≡ tally n xs + tally n ys
tally_append n [] ys = omega arith
tally_append n (x ∷ xs) ys = let e = tally_append n xs ys in omega (arith, e)

pub eq_or_not : (i j : ℕ) (X : Type 0) → (i ≡ j → X) → ((i ≡ j → ⊥) → X) → X
eq_or_not i j X yes_so not_so = by (nat_eq i j) refl
  where
    by : (b : Bool) → nat_eq i j ≡ b → X
    by true e = yes_so (eqb-true i j e)
    by false e = not_so (λ q. let z : true ≡ false = sym (eq-eqb i j q) ∙ e in cc)

pub all_among : {A : Type 0} (P : A → Type 0) (xs : List A) (x : A) → AllByRecursion P xs → IsAmong x xs → P x
all_among P [] x h m = absurd m
all_among P (y ∷ ys) x h (inl e) = subst P (sym e) h.0
all_among P (y ∷ ys) x h (inr m) = all_among P ys x h.1 m

or_true : (a b : Bool) → b ≡ true → (a || b) ≡ true
or_true true b e = refl
or_true false b e = e

pub among_tally : (n : ℕ) (xs : List ℕ) → IsAmong n xs → 1 ≤ tally n xs
among_tally n [] m = absurd m
among_tally n (x ∷ xs) (inl e) = let o : once (nat_eq n x) ≡ 1 = ap once (eq-eqb n x e) in omega (arith, o)
among_tally n (x ∷ xs) (inr m) = let h = among_tally n xs m in omega (arith, h)

pub once_same : (n : ℕ) → once (nat_eq n n) ≡ 1
once_same n = ap once (eq-eqb n n refl)

pub once_other : (n x : ℕ) → (n ≡ x → ⊥) → once (nat_eq n x) ≡ 0
once_other n x q = by (nat_eq n x) refl
  where
    by : (b : Bool) → nat_eq n x ≡ b → once (nat_eq n x) ≡ 0
    by true e = absurd (q (eqb-true n x e))
    by false e = ap once e

pub tally_among : (n : ℕ) (xs : List ℕ) → 1 ≤ tally n xs → IsAmong n xs
tally_among n [] h = absurd (omega (arith, h))
tally_among n (x ∷ xs) h =
    eq_or_not n x (IsAmong n (x ∷ xs)) (λ e. inl e) (λ q. inr (tally_among n xs (let o = once_other n x q in omega (arith, h, o))))

pub none_tally : (n : ℕ) (xs : List ℕ) → has xs n ≡ false → tally n xs ≡ 0
none_tally n [] h = refl
none_tally n (x ∷ xs) h = by (nat_eq n x) refl h (none_tally n xs)
  where
    by : (b : Bool) → nat_eq n x ≡ b → (b || has xs n) ≡ false → (has xs n ≡ false → tally n xs ≡ 0) → once (nat_eq n x) + tally n xs ≡ 0
    by true e g r = absurd (cc)
    by false e g r = let o : once (nat_eq n x) ≡ 0 = ap once e in let k = r g in omega (arith, o, k)

pub tally_none : (n : ℕ) (xs : List ℕ) → tally n xs ≡ 0 → has xs n ≡ false
tally_none n [] h = refl
tally_none n (x ∷ xs) h = by (nat_eq n x) refl (tally_none n xs)
  where
    by : (b : Bool) → nat_eq n x ≡ b → (tally n xs ≡ 0 → has xs n ≡ false) → (b || has xs n) ≡ false
    by true e r = absurd (let o : once (nat_eq n x) ≡ 1 = ap once e in omega (arith, o, h))
    by false e r = r (omega (arith, h))

pub distinct_tally : (xs : List ℕ) → IsDistinct xs → (n : ℕ) → tally n xs ≤ 1
distinct_tally [] d n = omega arith
distinct_tally (x ∷ xs) d n = by (nat_eq n x) refl (distinct_tally xs d.1 n)
  where
    by : (b : Bool) → nat_eq n x ≡ b → tally n xs ≤ 1 → once (nat_eq n x) + tally n xs ≤ 1
    by true e r =
        let o : once (nat_eq n x) ≡ 1 = ap once e in
        let z : tally n xs ≡ 0 = ap (λ k. tally k xs) (eqb-true n x e) ∙ none_tally x xs d.0 in
        omega (arith, o, z)
    by false e r = let o : once (nat_eq n x) ≡ 0 = ap once e in omega (arith, o, r)

pub tally_distinct : (xs : List ℕ) → ((n : ℕ) → tally n xs ≤ 1) → IsDistinct xs
tally_distinct [] h = tt
tally_distinct (x ∷ xs) h =
    (let a = h x in let o : once (nat_eq x x) ≡ 1 = ap once (eq-eqb x x refl) in tally_none x xs (omega (arith, a, o)), tally_distinct xs (λ n. (let a = h n in omega (arith, a))))

-- ---- The bodies of functions, and those of ends

abbrev pub ends_of : List Body → List ℕ
ends_of bodies = flat_map (λ b. end_parts b.end) bodies

abbrev pub bodies_of : List Entry → List ℕ
bodies_of fs = map (λ f. f.body) fs

parts_of_bind : (b : Bind) → bind_parts b ≡ bodies_of (bind_functions b)
parts_of_bind (bind.Make x shape atoms) = refl
parts_of_bind (bind.Pick x i a) = refl
parts_of_bind (bind.Prim x f atoms) = refl
parts_of_bind (bind.Fix fs) = refl
parts_of_bind (bind.Handler x) = refl
parts_of_bind (bind.SetHandler a) = refl

pub bodies_append : (fs gs : List Entry) → bodies_of (fs ++ gs) ≡ bodies_of fs ++ bodies_of gs
bodies_append [] gs = refl
bodies_append (f ∷ fs) gs = ap (λ js. f.body ∷ js) (bodies_append fs gs)

parts_of_binds : (bs : List Bind) → flat_map bind_parts bs ≡ bodies_of (flat_map bind_functions bs)
parts_of_binds [] = refl
parts_of_binds (b ∷ bs) =
    ap (λ js. js ++ flat_map bind_parts bs) (parts_of_bind b) ∙ ap (λ js. bodies_of (bind_functions b) ++ js) (parts_of_binds bs)
    ∙ sym (bodies_append (bind_functions b) (flat_map bind_functions bs))

pub parts_of_body : (b : Body) → body_parts b ≡ bodies_of (body_functions b) ++ end_parts b.end
parts_of_body b = ap (λ js. js ++ end_parts b.end) (parts_of_binds b.binds)

pub tally_parts : (n : ℕ) (bodies : List Body) → tally n (flat_map body_parts bodies) ≡ tally n (bodies_of (functions_of bodies)) + tally n (ends_of bodies)
tally_parts n [] = refl
tally_parts n (b ∷ bodies) =
    let own = bodies_of (body_functions b) in
    let a = tally_append n (body_parts b) (flat_map body_parts bodies) in
    let c : tally n (body_parts b) ≡ tally n own + tally n (end_parts b.end) = ap (tally n) (parts_of_body b) ∙ tally_append n own (end_parts b.end) in
    let d : tally n (bodies_of (functions_of (b ∷ bodies))) ≡ tally n own + tally n (bodies_of (functions_of bodies)) =
    ap (tally n) (bodies_append (body_functions b) (functions_of bodies)) ∙ tally_append n own (bodies_of (functions_of bodies)) in
    let e = tally_append n (end_parts b.end) (ends_of bodies) in
    let r = tally_parts n bodies in
    omega (arith, a, c, d, e, r)

-- ---- Parts are bodies, and not the first

parts_within : (n : ℕ) (bodies : List Body) → ((i : ℕ) (b : Body) → slice_get bodies i ≡ Some b → AllByRecursion (λ c. (0 < c) × (c < n)) (body_parts b)) → (j : ℕ) → IsAmong j (flat_map body_parts bodies) → (0 < j) × (j < n)
parts_within n [] h j m = absurd m
parts_within n (b ∷ bodies) h j m =
    ⊎_elim (λ (k : IsAmong j (body_parts b)). all_among (λ c. (0 < c) × (c < n)) (body_parts b) j (h 0 b refl) k)
    (λ (k : IsAmong j (flat_map body_parts bodies)). parts_within n bodies (λ i c e. h (suc i) c e) j k)
    (among_append j (body_parts b) (flat_map body_parts bodies) m)

pub parts_range : (given : List Body) → AreNumbered given → (j : ℕ) → IsAmong j (flat_map body_parts given) → (0 < j) × (j < length given)
parts_range given numbered j m =
    parts_within (length given) given
    (λ i b e. all_with (λ c. (i < c) × (c < length given)) (λ c. (0 < c) × (c < length given)) (λ c h. (let l = h.0 in omega (arith, l), h.1)) (body_parts b) (numbered i b e)) j m
