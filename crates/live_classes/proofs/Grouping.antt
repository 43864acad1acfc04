-- Groups by key, and the classes that they are.
use Rattle.std.proofs.Common.{◌≡◌, ℕ, suc, ◌+◌, ◌<◌, Bool, true, false, List, [], ◌∷◌, ◌++◌, Option, None, length, map, take, refl, sym, ap, ◌∙◌, arith}
use Rattle.std.specs.Prelude.{nat_eq, cond, filter, ◌&&◌, slice_index_or, if◌then◌else◌}
use Rattle.std.specs.declared.cmp.Ordering.{Ordering}
use Rattle.std.specs.declared.cmp.Ordering.TheVariants.{Less, Equal, Greater}
use Rattle.std.specs.Ordering.{nat_cmp, is_eq, ordering_then}
use Rattle.std.specs.Cmp.{unsigned_tied}
use Rattle.std.specs.Cmp.Lexicographic.{slice_cmp}
use Rattle.std.specs.BTreeMap.{BTreeMap, get, get_by, is_at, IsEmpty}
use Rattle.std.specs.Map.{lookup}
use Rattle.std.specs.Global.{Vec}
use Rattle.std.proofs.Math.Seq.{take-suc}
use Rattle.std.proofs.lemmas.Bool.{eqb-true}
use Rattle.lifetime_users.specs.declared.class.Class.{Class}
use Rattle.lifetime_users.specs.Users.{same_numbers}
use Rattle.live_classes.specs.Keys.{row_in, grouped, with_key, is_lead, class_with, leads_by, class_by, classes_by}

-- ---- Two keys compare as equal where they are

then_eq : (o p : Ordering) → is_eq (ordering_then o p) ≡ (is_eq o && is_eq p)
then_eq Less p = refl
then_eq Equal p = refl
then_eq Greater p = refl

pub cmp_same : (xs ys : List ℕ) → is_eq (slice_cmp nat_cmp xs ys) ≡ same_numbers xs ys
cmp_same [] [] = refl
cmp_same [] (y ∷ ys) = refl
cmp_same (x ∷ xs) [] = refl
cmp_same (x ∷ xs) (y ∷ ys) =
    then_eq (nat_cmp x y) (slice_cmp nat_cmp xs ys) ∙ ap (λ b. b && is_eq (slice_cmp nat_cmp xs ys)) (unsigned_tied x y) ∙ ap (λ b. nat_eq x y && b) (cmp_same xs ys)

both : (a b : Bool) → (a && b) ≡ true → (a ≡ true) × (b ≡ true)
both true b e = (refl, e)
both false b e = absurd (cc)

same_are : (xs ys : List ℕ) → same_numbers xs ys ≡ true → xs ≡ ys
same_are [] [] e = refl
same_are [] (y ∷ ys) e = absurd (cc)
same_are (x ∷ xs) [] e = absurd (cc)
same_are (x ∷ xs) (y ∷ ys) e =
    let q = both (nat_eq x y) (same_numbers xs ys) e in
    ap (λ z. z ∷ xs) (eqb-true x y q.0) ∙ ap (λ zs. y ∷ zs) (same_are xs ys q.1)

abbrev cmp : Vec ℕ → Vec ℕ → Ordering
cmp a b = slice_cmp nat_cmp a.items b.items

row_cond : (b : Bool) (o p : Option (List ℕ)) → row_in (cond b o p) ≡ cond b (row_in o) (row_in p)
row_cond true o p = refl
row_cond false o p = refl

-- one key is written
pub written : (old new : BTreeMap (Vec ℕ) (List ℕ)) (key : Vec ℕ) (w : Option (List ℕ)) → ((q : Vec ℕ) → get cmp new q ≡ cond (is_at (cmp key) q) w (get cmp old q)) → (q : Vec ℕ) → grouped new q ≡ cond (same_numbers key.items q.items) (row_in w) (grouped old q)
written old new key w h q =
    ap row_in (h q) ∙ ap (λ b. row_in (cond b w (get cmp old q))) (cmp_same key.items q.items) ∙ row_cond (same_numbers key.items q.items) w (get cmp old q)

pub rest_stays : (old new : BTreeMap (Vec ℕ) (List ℕ)) (key : Vec ℕ) → ((q : Vec ℕ) → get cmp new q ≡ cond (is_at (cmp key) q) None (get cmp old q)) → (q : Vec ℕ) → same_numbers key.items q.items ≡ false → grouped new q ≡ grouped old q
rest_stays old new key h q e = written old new key None h q ∙ ap (λ b. cond b [] (grouped old q)) e

-- one variable comes into the group of its key
pub added : (old rest new : BTreeMap (Vec ℕ) (List ℕ)) (key : Vec ℕ) (row : List ℕ) (x : ℕ) → row ≡ grouped old key ++ x ∷ [] → ((q : Vec ℕ) → same_numbers key.items q.items ≡ false → grouped rest q ≡ grouped old q) → ((q : Vec ℕ) → grouped new q ≡ cond (same_numbers key.items q.items) row (grouped rest q)) → (q : Vec ℕ) → grouped new q ≡ cond (same_numbers key.items q.items) (grouped old q ++ x ∷ []) (grouped old q)
added old rest new key row x r f g q = g q ∙ by (same_numbers key.items q.items) refl
  where
    by : (b : Bool) → same_numbers key.items q.items ≡ b → cond b row (grouped rest q) ≡ cond b (grouped old q ++ x ∷ []) (grouped old q)
    by true e =
        r ∙ ap (λ ks. row_in (get_by (λ (b : Vec ℕ). slice_cmp nat_cmp ks b.items) old) ++ x ∷ []) (same_are key.items q.items e)
    by false e = f q e

pub none_grouped : (groups : BTreeMap (Vec ℕ) (List ℕ)) (q : Vec ℕ) → IsEmpty groups → grouped groups q ≡ []
none_grouped groups q e = ap (λ es. row_in (lookup (is_at (cmp q)) es)) e

-- ---- One variable more

filter_more : (f : ℕ → Bool) (xs : List ℕ) (x : ℕ) → filter f (xs ++ x ∷ []) ≡ cond (f x) (filter f xs ++ x ∷ []) (filter f xs)
filter_more f [] x = by (f x)
  where
    by : (b : Bool) → (if b then x ∷ [] else []) ≡ cond b (x ∷ []) []
    by true = refl
    by false = refl
filter_more f (y ∷ xs) x = ap (λ zs. if f y then y ∷ zs else zs) (filter_more f xs x) ∙ by (f y) (f x)
  where
    by : (a b : Bool) → (if a then y ∷ cond b (filter f xs ++ x ∷ []) (filter f xs) else cond b (filter f xs ++ x ∷ []) (filter f xs)) ≡ cond b ((if a then y ∷ filter f xs else filter f xs) ++ x ∷ []) (if a then y ∷ filter f xs else filter f xs)
    by true true = refl
    by true false = refl
    by false true = refl
    by false false = refl

up : (variables : List ℕ) (i d : ℕ) → i < length variables → take (i + 1) variables ≡ take i variables ++ slice_index_or variables i d ∷ []
up variables i d lt = let next : i + 1 ≡ suc i = omega arith in ap (λ k. take k variables) next ∙ take-suc variables i d lt

pub grouped_more : (key : ℕ → List ℕ) (variables : List ℕ) (i d : ℕ) (old new : BTreeMap (Vec ℕ) (List ℕ)) (k : Vec ℕ) → i < length variables → k.items ≡ key (slice_index_or variables i d) → ((q : Vec ℕ) → grouped old q ≡ with_key key (take i variables) q.items) → ((q : Vec ℕ) → grouped new q ≡ cond (same_numbers k.items q.items) (grouped old q ++ slice_index_or variables i d ∷ []) (grouped old q)) → (q : Vec ℕ) → grouped new q ≡ with_key key (take (i + 1) variables) q.items
grouped_more key variables i d old new k lt e h g q =
    let x = slice_index_or variables i d in
    g q ∙ ap (λ ks. cond (same_numbers ks q.items) (grouped old q ++ x ∷ []) (grouped old q)) e
    ∙ ap (λ row. cond (same_numbers (key x) q.items) (row ++ x ∷ []) row) (h q)
    ∙ sym (filter_more (λ y. same_numbers (key y) q.items) (take i variables) x)
    ∙ ap (λ ys. with_key key ys q.items) (sym (up variables i d lt))

map_cond : (f : ℕ → Class) (b : Bool) (xs : List ℕ) (x : ℕ) → map f (cond b (xs ++ x ∷ []) xs) ≡ map f xs ++ cond b (f x ∷ []) []
map_cond f true xs x = go xs
  where
    go : (xs : List ℕ) → map f (xs ++ x ∷ []) ≡ map f xs ++ f x ∷ []
    go [] = refl
    go (y ∷ xs) = ap (λ zs. f y ∷ zs) (go xs)
map_cond f false xs x = go (map f xs)
  where
    go : (ks : List Class) → ks ≡ ks ++ []
    go [] = refl
    go (k ∷ ks) = ap (λ zs. k ∷ zs) (go ks)

pub classes_more : (key rows : ℕ → List ℕ) (variables : List ℕ) (i d : ℕ) (group users : List ℕ) (old new : List Class) → i < length variables → group ≡ with_key key variables (key (slice_index_or variables i d)) → users ≡ rows (slice_index_or variables i d) → old ≡ classes_by key rows variables (take i variables) → new ≡ old ++ cond (is_lead (slice_index_or variables i d) group users) (class_with group users ∷ []) [] → new ≡ classes_by key rows variables (take (i + 1) variables)
classes_more key rows variables i d group users old new lt e f h g =
    let x = slice_index_or variables i d in
    g ∙ ap (λ ks. ks ++ cond (is_lead x group users) (class_with group users ∷ []) []) h
    ∙ ap (λ row. classes_by key rows variables (take i variables) ++ cond (is_lead x row users) (class_with row users ∷ []) []) e
    ∙ ap (λ us. classes_by key rows variables (take i variables) ++ cond (is_lead x (with_key key variables (key x)) us) (class_with (with_key key variables (key x)) us ∷ []) []) f
    ∙ sym (map_cond (class_by key rows variables) (leads_by key rows variables x) (filter (leads_by key rows variables) (take i variables)) x)
    ∙ ap (map (class_by key rows variables)) (sym (filter_more (leads_by key rows variables) (take i variables) x))
    ∙ ap (classes_by key rows variables) (sym (up variables i d lt))
