-- Uses that come in one after another, and variables that go out.
use Rattle.std.proofs.Common.{◌≡◌, ℕ, suc, ◌+◌, ◌<◌, Bool, true, false, List, [], ◌∷◌, ◌++◌, length, take, map, refl, sym, ap, ◌∙◌, subst, arith, Result, Ok, Err}
use Rattle.std.specs.Prelude.{nat_eq, not, ◌&&◌, ◌||◌, slice_index_or, OnOk}
use Rattle.std.proofs.Math.Seq.{take-suc}
use Rattle.std.proofs.lemmas.Bool.{eqb-true}
use Rattle.sml_tree.specs.Sets.{has, union, union_over, without}
use Rattle.sml_tree.proofs.Members.{has-union, has-without}
use Rattle.cps_ir.specs.declared.body.Function.{Function}
use Rattle.cps_ir.specs.declared.body.Rule.{Rule}
use Rattle.cps_ir.specs.Free.{vars_tests}
use Rattle.cps_free.specs.Same.{AreSame}
use Rattle.cps_free.specs.Rows.{rules_free}

pub same_trans : (xs ys zs : List ℕ) → AreSame xs ys → AreSame ys zs → AreSame xs zs
same_trans xs ys zs f g z = f z ∙ g z

pub union_same : (us xs ys : List ℕ) → AreSame xs ys → AreSame (union us xs) (union us ys)
union_same us xs ys f z = has-union us xs z ∙ ap (λ b. has us z || b) (f z) ∙ sym (has-union us ys z)

pub without_same : (xs ys gone : List ℕ) → AreSame xs ys → AreSame (without xs gone) (without ys gone)
without_same xs ys gone f z = has-without xs gone z ∙ ap (λ b. not (has gone z) && b) (f z) ∙ sym (has-without ys gone z)

-- the same behind a step that answers the same
pub then_union : {E : Type 0} (r : Result (Unit {0}) E) (us mid new all : List ℕ) → AreSame (union us mid) all → OnOk r (AreSame new (union us mid)) → OnOk r (AreSame new all)
then_union (Ok u) us mid new all f h = same_trans new (union us mid) all h f
then_union (Err e) us mid new all f h = tt

or_assoc : (a b c : Bool) → (a || (b || c)) ≡ ((a || b) || c)
or_assoc true b c = refl
or_assoc false b c = refl

pub union_assoc : (us vs xs : List ℕ) → AreSame (union us (union vs xs)) (union (union us vs) xs)
union_assoc us vs xs z =
    has-union us (union vs xs) z ∙ ap (λ b. has us z || b) (has-union vs xs z) ∙ or_assoc (has us z) (has vs z) (has xs z) ∙ sym (ap (λ b. b || has xs z) (has-union us vs z)) ∙ sym (has-union (union us vs) xs z)

-- ---- One more

up : (i : ℕ) (P : ℕ → Type 0) → P (suc i) → P (i + 1)
up i P h = let e : suc i ≡ i + 1 = omega arith in subst P e h

has_more : {A : Type 0} (f : A → List ℕ) (xs : List A) (x : A) (z : ℕ) → has (union_over f (xs ++ x ∷ [])) z ≡ (has (f x) z || has (union_over f xs) z)
has_more f [] x z = has-union (f x) [] z
has_more f (y ∷ xs) x z =
    has-union (f y) (union_over f (xs ++ x ∷ [])) z ∙ ap (λ b. has (f y) z || b) (has_more f xs x z) ∙ swap (has (f y) z) (has (f x) z) (has (union_over f xs) z) ∙ sym (ap (λ b. has (f x) z || b) (has-union (f y) (union_over f xs) z))
  where
    swap : (a b c : Bool) → (a || (b || c)) ≡ (b || (a || c))
    swap true true c = refl
    swap true false c = refl
    swap false b c = refl

over_suc : {A : Type 0} (f : A → List ℕ) (xs : List A) (i : ℕ) (d : A) (old mid new : List ℕ) → i < length xs → AreSame mid (union (union_over f (take i xs)) old) → AreSame new (union (f (slice_index_or xs i d)) mid) → AreSame new (union (union_over f (take (suc i) xs)) old)
over_suc f xs i d old mid new lt m n z =
    let x = slice_index_or xs i d in
    n z
    ∙ has-union (f x) mid z
    ∙ ap (λ b. has (f x) z || b) (m z ∙ has-union (union_over f (take i xs)) old z)
    ∙ or_assoc (has (f x) z) (has (union_over f (take i xs)) z) (has old z)
    ∙ sym (ap (λ b. b || has old z) (ap (λ ys. has (union_over f ys) z) (take-suc xs i d lt) ∙ has_more f (take i xs) x z))
    ∙ sym (has-union (union_over f (take (suc i) xs)) old z)

pub over_more : {A : Type 0} (f : A → List ℕ) (xs : List A) (i : ℕ) (d x : A) (old mid new : List ℕ) → i < length xs → x ≡ slice_index_or xs i d → AreSame mid (union (union_over f (take i xs)) old) → AreSame new (union (f x) mid) → AreSame new (union (union_over f (take (i + 1) xs)) old)
over_more f xs i d x old mid new lt e m n =
    up i (λ k. AreSame new (union (union_over f (take k xs)) old)) (over_suc f xs i d old mid new lt m (subst (λ y. AreSame new (union (f y) mid)) e n))

has_append : (xs ys : List ℕ) (z : ℕ) → has (xs ++ ys) z ≡ (has xs z || has ys z)
has_append [] ys z = refl
has_append (x ∷ xs) ys z = ap (λ b. nat_eq z x || b) (has_append xs ys z) ∙ or_assoc (nat_eq z x) (has xs z) (has ys z)

-- one that is kept is put in, and one that isn't kept is not
kept_suc : (xs gone : List ℕ) (i d : ℕ) (old mid new : List ℕ) → i < length xs → AreSame mid (union (without (take i xs) gone) old) → AreSame new (union (without (slice_index_or xs i d ∷ []) gone) mid) → AreSame new (union (without (take (suc i) xs) gone) old)
kept_suc xs gone i d old mid new lt m n z =
    let x = slice_index_or xs i d in
    n z
    ∙ has-union (without (x ∷ []) gone) mid z
    ∙ ap (λ b. has (without (x ∷ []) gone) z || b) (m z ∙ has-union (without (take i xs) gone) old z)
    ∙ or_assoc (has (without (x ∷ []) gone) z) (has (without (take i xs) gone) z) (has old z)
    ∙ sym (ap (λ b. b || has old z) (more x))
    ∙ sym (has-union (without (take (suc i) xs) gone) old z)
  where
    spread : (g a b : Bool) → (not g && (a || b)) ≡ ((not g && b) || (not g && a))
    spread true a b = refl
    spread false true true = refl
    spread false true false = refl
    spread false false b = (by b)
      where
        by : (b : Bool) → b ≡ (b || false)
        by true = refl
        by false = refl

    more : (x : ℕ) → has (without (take (suc i) xs) gone) z ≡ (has (without (slice_index_or xs i d ∷ []) gone) z || has (without (take i xs) gone) z)
    more x =
        let y = slice_index_or xs i d in
        has-without (take (suc i) xs) gone z
        ∙ ap (λ b. not (has gone z) && b) (ap (λ ys. has ys z) (take-suc xs i d lt) ∙ has_append (take i xs) (y ∷ []) z)
        ∙ spread (has gone z) (has (take i xs) z) (has (y ∷ []) z)
        ∙ sym (ap (λ b. b || (not (has gone z) && has (take i xs) z)) (has-without (y ∷ []) gone z))
        ∙ sym (ap (λ b. has (without (y ∷ []) gone) z || b) (has-without (take i xs) gone z))

pub kept_one : (x : ℕ) (gone old new : List ℕ) → has gone x ≡ false → AreSame new (union (x ∷ []) old) → AreSame new (union (without (x ∷ []) gone) old)
kept_one x gone old new e h z =
    h z ∙ has-union (x ∷ []) old z ∙ by (nat_eq z x) refl ∙ sym (ap (λ b. b || has old z) (has-without (x ∷ []) gone z)) ∙ sym (has-union (without (x ∷ []) gone) old z)
  where
    by : (b : Bool) → nat_eq z x ≡ b → ((b || false) || has old z) ≡ ((not (has gone z) && (b || false)) || has old z)
    by true f = let same : z ≡ x = eqb-true z x f in ap (λ g. (not g && true) || has old z) (sym (ap (has gone) same ∙ e))
    by false f = ap (λ b. b || has old z) (none (has gone z))
      where
        none : (g : Bool) → false ≡ (not g && false)
        none true = refl
        none false = refl

pub kept_none : (x : ℕ) (gone old : List ℕ) → has gone x ≡ true → AreSame old (union (without (x ∷ []) gone) old)
kept_none x gone old e z =
    by (nat_eq z x) refl ∙ sym (ap (λ b. b || has old z) (has-without (x ∷ []) gone z)) ∙ sym (has-union (without (x ∷ []) gone) old z)
  where
    by : (b : Bool) → nat_eq z x ≡ b → has old z ≡ ((not (has gone z) && (b || false)) || has old z)
    by true f = let same : z ≡ x = eqb-true z x f in ap (λ g. (not g && true) || has old z) (sym (ap (has gone) same ∙ e))
    by false f = ap (λ b. b || has old z) (none (has gone z))
      where
        none : (g : Bool) → false ≡ (not g && false)
        none true = refl
        none false = refl

pub without_none : (xs : List ℕ) → AreSame xs (without xs [])
without_none xs z = sym (has-without xs [] z)

-- one more goes out
gone_suc : (fs : List Function) (i : ℕ) (d : Function) (old mid new : List ℕ) → i < length fs → AreSame mid (without old (map (λ f. f.name) (take i fs))) → AreSame new (without mid ((slice_index_or fs i d).name ∷ [])) → AreSame new (without old (map (λ f. f.name) (take (suc i) fs)))
gone_suc fs i d old mid new lt m n z =
    let x = slice_index_or fs i d in
    n z
    ∙ has-without mid (x.name ∷ []) z
    ∙ ap (λ b. not (has (x.name ∷ []) z) && b) (m z ∙ has-without old (map (λ f. f.name) (take i fs)) z)
    ∙ join (has (x.name ∷ []) z) (has (map (λ f. f.name) (take i fs)) z) (has old z)
    ∙ sym (ap (λ b. not b && has old z) (ap (λ gs. has (map (λ f. f.name) gs) z) (take-suc fs i d lt) ∙ ap (λ ns. has ns z) (mapped (take i fs) x) ∙ has_append (map (λ f. f.name) (take i fs)) (x.name ∷ []) z))
    ∙ sym (has-without old (map (λ f. f.name) (take (suc i) fs)) z)
  where
    join : (a b c : Bool) → (not a && (not b && c)) ≡ (not (b || a) && c)
    join true true c = refl
    join true false c = refl
    join false true c = refl
    join false false c = refl

    mapped : (gs : List Function) (g : Function) → map (λ f. f.name) (gs ++ g ∷ []) ≡ map (λ f. f.name) gs ++ g.name ∷ []
    mapped [] g = refl
    mapped (h ∷ gs) g = ap (λ ns. h.name ∷ ns) (mapped gs g)

-- ---- Rules

rules_more : (part : ℕ → List ℕ) (rules : List Rule) (r : Rule) (old : List ℕ) (z : ℕ) → has (rules_free part (rules ++ r ∷ []) old) z ≡ (has (vars_tests r.tests) z || (has (part r.body) z || has (rules_free part rules old) z))
rules_more part [] r old z = has-union (vars_tests r.tests) (union (part r.body) old) z ∙ ap (λ b. has (vars_tests r.tests) z || b) (has-union (part r.body) old z)
rules_more part (q ∷ rules) r old z =
    has-union (vars_tests q.tests) (union (part q.body) (rules_free part (rules ++ r ∷ []) old)) z
    ∙ ap (λ b. has (vars_tests q.tests) z || b) (has-union (part q.body) (rules_free part (rules ++ r ∷ []) old) z ∙ ap (λ b. has (part q.body) z || b) (rules_more part rules r old z))
    ∙ swap (has (vars_tests q.tests) z) (has (part q.body) z) (has (vars_tests r.tests) z) (has (part r.body) z) (has (rules_free part rules old) z)
    ∙ sym (ap (λ b. has (vars_tests r.tests) z || (has (part r.body) z || b)) (has-union (vars_tests q.tests) (union (part q.body) (rules_free part rules old)) z ∙ ap (λ b. has (vars_tests q.tests) z || b) (has-union (part q.body) (rules_free part rules old) z)))
  where
    swap : (a b c d e : Bool) → (a || (b || (c || (d || e)))) ≡ (c || (d || (a || (b || e))))
    swap true true true d e = refl
    swap true true false true e = refl
    swap true true false false e = refl
    swap true false true d e = refl
    swap true false false true e = refl
    swap true false false false e = refl
    swap false true true d e = refl
    swap false true false true e = refl
    swap false true false false e = refl
    swap false false c d e = refl

rule_suc : (part : ℕ → List ℕ) (rules : List Rule) (i : ℕ) (d : Rule) (old mid one new : List ℕ) → i < length rules → AreSame mid (rules_free part (take i rules) old) → AreSame one (union (without (part (slice_index_or rules i d).body) []) mid) → AreSame new (union (vars_tests (slice_index_or rules i d).tests) one) → AreSame new (rules_free part (take (suc i) rules) old)
rule_suc part rules i d old mid one new lt m p n z =
    let r = slice_index_or rules i d in
    n z
    ∙ has-union (vars_tests r.tests) one z
    ∙ ap (λ b. has (vars_tests r.tests) z || b) (p z ∙ has-union (without (part r.body) []) mid z ∙ ap (λ b. b || has mid z) (sym (without_none (part r.body) z)) ∙ ap (λ b. has (part r.body) z || b) (m z))
    ∙ sym (rules_more part (take i rules) r old z)
    ∙ sym (ap (λ rs. has (rules_free part rs old) z) (take-suc rules i d lt))

pub rules_same : (part : ℕ → List ℕ) (rules : List Rule) (xs ys : List ℕ) → AreSame xs ys → AreSame (rules_free part rules xs) (rules_free part rules ys)
rules_same part [] xs ys h = h
rules_same part (r ∷ rules) xs ys h =
    union_same (vars_tests r.tests) (union (part r.body) (rules_free part rules xs)) (union (part r.body) (rules_free part rules ys))
    (union_same (part r.body) (rules_free part rules xs) (rules_free part rules ys) (rules_same part rules xs ys h))

pub kept_more : (xs gone : List ℕ) (i d : ℕ) (old mid new : List ℕ) → i < length xs → AreSame mid (union (without (take i xs) gone) old) → AreSame new (union (without (slice_index_or xs i d ∷ []) gone) mid) → AreSame new (union (without (take (i + 1) xs) gone) old)
kept_more xs gone i d old mid new lt m n = up i (λ k. AreSame new (union (without (take k xs) gone) old)) (kept_suc xs gone i d old mid new lt m n)

pub gone_more : (fs : List Function) (i : ℕ) (d f : Function) (old mid new : List ℕ) → i < length fs → f ≡ slice_index_or fs i d → AreSame mid (without old (map (λ f. f.name) (take i fs))) → AreSame new (without mid (f.name ∷ [])) → AreSame new (without old (map (λ f. f.name) (take (i + 1) fs)))
gone_more fs i d f old mid new lt e m n =
    up i (λ k. AreSame new (without old (map (λ f. f.name) (take k fs)))) (gone_suc fs i d old mid new lt m (subst (λ (g : Function). AreSame new (without mid (g.name ∷ []))) e n))

pub rule_more : (part : ℕ → List ℕ) (rules : List Rule) (i : ℕ) (d r : Rule) (old mid one new : List ℕ) → i < length rules → r ≡ slice_index_or rules i d → AreSame mid (rules_free part (take i rules) old) → AreSame one (union (without (part r.body) []) mid) → AreSame new (union (vars_tests r.tests) one) → AreSame new (rules_free part (take (i + 1) rules) old)
rule_more part rules i d r old mid one new lt e m p n =
    up i (λ k. AreSame new (rules_free part (take k rules) old))
    (rule_suc part rules i d old mid one new lt m (subst (λ (q : Rule). AreSame one (union (without (part q.body) []) mid)) e p) (subst (λ (q : Rule). AreSame new (union (vars_tests q.tests) one)) e n))

or_none : (a : Bool) → (a || false) ≡ a
or_none true = refl
or_none false = refl

pub union_none : (us xs : List ℕ) → xs ≡ [] → AreSame (union us xs) us
union_none us xs e z = has-union us xs z ∙ ap (λ ys. has us z || has ys z) e ∙ or_none (has us z)
