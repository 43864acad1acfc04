-- Groups by rank.
use Rattle.std.proofs.Common.{◌≡◌, ℕ, suc, ◌+◌, ◌<◌, Bool, true, false, cond, List, [], ◌∷◌, ◌++◌, Option, None, length, take, refl, sym, ap, ◌∙◌, arith}
use Rattle.std.specs.Prelude.{nat_eq, filter, slice_get, slice_index_or, if◌then◌else◌}
use Rattle.std.specs.Ordering.{nat_cmp}
use Rattle.std.specs.Cmp.{unsigned_tied}
use Rattle.std.specs.BTreeMap.{BTreeMap, get, is_at, IsEmpty}
use Rattle.std.specs.Map.{lookup}
use Rattle.std.proofs.Math.Seq.{take-suc}
use Rattle.std.proofs.lemmas.Bool.{eqb-true}
use Rattle.cps_ir.specs.Slim.{Layout}
use Rattle.plan_factor.specs.Groups.{row_in, grouped, has_rank, with_rank}

row_cond : (b : Bool) (o p : Option (List ℕ)) → row_in (cond b o p) ≡ cond b (row_in o) (row_in p)
row_cond true o p = refl
row_cond false o p = refl

-- one key is written
pub written : (old new : BTreeMap ℕ (List ℕ)) (key : ℕ) (w : Option (List ℕ)) → ((q : ℕ) → get nat_cmp new q ≡ cond (is_at (nat_cmp key) q) w (get nat_cmp old q)) → (q : ℕ) → grouped new q ≡ cond (nat_eq key q) (row_in w) (grouped old q)
written old new key w h q =
    ap row_in (h q) ∙ ap (λ b. row_in (cond b w (get nat_cmp old q))) (unsigned_tied key q) ∙ row_cond (nat_eq key q) w (get nat_cmp old q)

pub rest_stays : (old new : BTreeMap ℕ (List ℕ)) (key : ℕ) → ((q : ℕ) → get nat_cmp new q ≡ cond (is_at (nat_cmp key) q) None (get nat_cmp old q)) → (q : ℕ) → nat_eq key q ≡ false → grouped new q ≡ grouped old q
rest_stays old new key h q e = written old new key None h q ∙ ap (λ b. cond b [] (grouped old q)) e

-- one number comes into the group of its key
pub added : (old rest new : BTreeMap ℕ (List ℕ)) (key : ℕ) (row : List ℕ) (x : ℕ) → row ≡ grouped old key ++ x ∷ [] → ((q : ℕ) → nat_eq key q ≡ false → grouped rest q ≡ grouped old q) → ((q : ℕ) → grouped new q ≡ cond (nat_eq key q) row (grouped rest q)) → (q : ℕ) → grouped new q ≡ cond (nat_eq key q) (grouped old q ++ x ∷ []) (grouped old q)
added old rest new key row x r f g q = g q ∙ by (nat_eq key q) refl
  where
    by : (b : Bool) → nat_eq key q ≡ b → cond b row (grouped rest q) ≡ cond b (grouped old q ++ x ∷ []) (grouped old q)
    by true e = r ∙ ap (λ k. grouped old k ++ x ∷ []) (eqb-true key q e)
    by false e = f q e

pub none_grouped : (groups : BTreeMap ℕ (List ℕ)) (q : ℕ) → IsEmpty groups → grouped groups q ≡ []
none_grouped groups q e = ap (λ es. row_in (lookup (is_at (nat_cmp q)) es)) e

filter_more : (f : ℕ → Bool) (xs : List ℕ) (x : ℕ) → filter f (xs ++ x ∷ []) ≡ cond (f x) (filter f xs ++ x ∷ []) (filter f xs)
filter_more f [] x = by (f x)
  where
    by : (b : Bool) → (if b then x ∷ [] else []) ≡ cond b (x ∷ []) []
    by true = refl
    by false = refl
filter_more f (y ∷ xs) x = ap (λ zs. if f y then y ∷ zs else zs) (filter_more f xs x) ∙ by (f y) (f x)
  where
    by : (a b : Bool) → (if a then y ∷ cond b (filter f xs ++ x ∷ []) (filter f xs) else cond b (filter f xs ++ x ∷ []) (filter f xs)) ≡ cond b ((if a then y ∷ filter f xs else filter f xs) ++ x ∷ []) (if a then y ∷ filter f xs else filter f xs)
    by true true = refl
    by true false = refl
    by false true = refl
    by false false = refl

pub grouped_more : (all : List Layout) (order : List ℕ) (i d : ℕ) (old new : BTreeMap ℕ (List ℕ)) → i < length order → ((q : ℕ) → grouped old q ≡ with_rank all (take i order) q) → ((q : ℕ) → grouped new q ≡ cond (has_rank (slice_get all (slice_index_or order i d)) q) (grouped old q ++ slice_index_or order i d ∷ []) (grouped old q)) → (q : ℕ) → grouped new q ≡ with_rank all (take (i + 1) order) q
grouped_more all order i d old new lt h g q =
    let x = slice_index_or order i d in
    let next : suc i ≡ i + 1 = omega arith in
    g q ∙ ap (λ row. cond (has_rank (slice_get all x) q) (row ++ x ∷ []) row) (h q)
    ∙ sym (filter_more (λ j. has_rank (slice_get all j) q) (take i order) x)
    ∙ ap (λ is. with_rank all is q) (sym (take-suc order i d lt))
    ∙ ap (λ k. with_rank all (take k order) q) next
