-- What is counted in a program's tree is counted body by body.
use Rattle.std.proofs.Common.{◌≡◌, ℕ, zero, suc, ◌+◌, ◌<◌, ◌≤◌, Bool, true, false, List, [], ◌∷◌, ◌++◌, Some, flat_map, length, slice_get, inl, inr, refl, sym, ap, ◌∙◌, arith, nat_eq}
use Rattle.std.specs.List.{AllByRecursion}
use Rattle.simulation.specs.Blocks.{IsAmong}
use Rattle.sml_tree.specs.Sets.{has}
use Rattle.sml_tree.specs.IsBare.{IsDistinct}
use Rattle.cps_ir.specs.declared.body.Body.{Body}
use Rattle.cps_ir.specs.Code.{Code}
use Rattle.cps_ir.specs.Program.{Cps, code_of_body, code_at}
use Rattle.cps_ir.specs.Kept.{IsProgram, body_parts}
use Rattle.cps_free.proofs.Unfold.{code_unfold}
use Rattle.close_names.proofs.Pigeons.{all_there}
use Rattle.close_seen.proofs.Tally.{once, tally, once_other, among_tally, tally_among, tally_none, distinct_tally, parts_range}

module _ (W : ℕ → ℕ) where
  abbrev pub sum_of : List ℕ → ℕ
  sum_of [] = 0
  sum_of (j ∷ js) = W j + sum_of js

  -- so many numbers from one on
  abbrev pub sum_from : ℕ → ℕ → ℕ
  sum_from i zero = 0
  sum_from i (suc n) = W i + sum_from (suc i) n

  abbrev sum_below : ℕ → ℕ
  sum_below zero = 0
  sum_below (suc n) = W n + sum_below n

  pub sum_append : (js ks : List ℕ) → sum_of (js ++ ks) ≡ sum_of js + sum_of ks
  sum_append [] ks = omega arith
  sum_append (j ∷ js) ks = let e = sum_append js ks in omega (arith, e)

  sum_split : (i n : ℕ) → sum_below (i + n) ≡ sum_below i + sum_from i n
  sum_split i zero = let e : i + 0 ≡ i = omega arith in ap sum_below e ∙ omega arith
  sum_split i (suc n) =
      let e : i + suc n ≡ suc i + n = omega arith in
      let r : sum_below (suc i + n) ≡ sum_below (suc i) + sum_from (suc i) n = sum_split (suc i) n in
      ap sum_below e ∙ r ∙ omega arith

  -- one number goes out
  take_out : (n : ℕ) (xs : List ℕ) → IsAmong n xs → (ys : List ℕ) × (sum_of xs ≡ W n + sum_of ys) × ((k : ℕ) → tally k xs ≡ once (nat_eq k n) + tally k ys)
  take_out n [] m = absurd m
  take_out n (x ∷ xs) (inl e) = (xs, ap (λ m. W m + sum_of xs) (sym e), λ k. ap (λ m. once (nat_eq k m) + tally k xs) (sym e))
  take_out n (x ∷ xs) (inr m) =
      let r = take_out n xs m in
      let s = r.1 in
      (x ∷ r.0, omega (arith, s), λ k. (let t = r.2 k in omega (arith, t)))

  -- each number below n once
  each_once : (n : ℕ) (xs : List ℕ) → ((k : ℕ) → k < n → tally k xs ≡ 1) → ((k : ℕ) → n ≤ k → tally k xs ≡ 0) → sum_of xs ≡ sum_below n
  each_once zero [] h g = refl
  each_once zero (x ∷ xs) h g = absurd (let a = among_tally x (x ∷ xs) (inl refl) in let b = g x (omega arith) in omega (arith, a, b))
  each_once (suc n) xs h g =
      let t = h n (omega arith) in
      let r = take_out n xs (tally_among n xs (omega (arith, t))) in
      let s = r.1 in
      let e =
      each_once n r.0
      (λ k l. (let a = h k (omega (arith, l)) in let b = r.2 k in let o = once_other k n (λ q. let z : k < n = l in omega (arith, z, q)) in omega (arith, a, b, o)))
      (λ k l. above k l r.0 (r.2 k)) in
      omega (arith, s, e)
    where
      above : (k : ℕ) → n ≤ k → (ys : List ℕ) → tally k xs ≡ once (nat_eq k n) + tally k ys → tally k ys ≡ 0
      above k l ys b = by (nat_eq k n) refl
        where
          by : (w : Bool) → nat_eq k n ≡ w → tally k ys ≡ 0
          by true e =
              let same = Rattle.std.proofs.lemmas.Bool.eqb-true k n e in
              let a : tally k xs ≡ 1 = h k (omega (arith, same)) in
              let o : once (nat_eq k n) ≡ 1 = ap once e in
              omega (arith, a, o, b)
          by false e =
              let other : k ≡ n → ⊥ = λ q. let z : true ≡ false = sym (Rattle.std.proofs.lemmas.Bool.eq-eqb k n q) ∙ e in cc in
              let a : tally k xs ≡ 0 = g k (omega (arith, l, other)) in
              omega (arith, a, b)

-- ---- Over all bodies

all_of : (P : ℕ → Type 0) (xs : List ℕ) → ((x : ℕ) → IsAmong x xs → P x) → AllByRecursion P xs
all_of P [] h = tt
all_of P (x ∷ xs) h = (h x (inl refl), all_of P xs (λ y m. h y (inr m)))

module _ (q : Cps) (kept : IsProgram q) where
  abbrev parts : List ℕ
  parts = flat_map body_parts q.bodies

  no_first : has parts 0 ≡ false
  no_first = by (tally 0 parts) refl
    where
      by : (n : ℕ) → tally 0 parts ≡ n → has parts 0 ≡ false
      by zero e = tally_none 0 parts e
      by (suc n) e = absurd (let h = (parts_range q.bodies kept.numbered 0 (tally_among 0 parts (omega (arith, e)))).0 in omega (arith, h))

  distinct : IsDistinct (0 ∷ parts)
  distinct = (no_first, kept.apart)

  below_all : (x : ℕ) → IsAmong x (0 ∷ parts) → x < length q.bodies
  below_all x (inl e) = let n = kept.one_tree in omega (arith, e, n)
  below_all x (inr m) = (parts_range q.bodies kept.numbered x m).1

  exactly : (k : ℕ) → k < length q.bodies → tally k (0 ∷ parts) ≡ 1
  exactly k l = by (tally k (0 ∷ parts)) refl
    where
      by : (n : ℕ) → tally k (0 ∷ parts) ≡ n → tally k (0 ∷ parts) ≡ 1
      by zero e =
          absurd
          (let there = all_there (length q.bodies) (0 ∷ parts) k distinct (all_of (λ x. x < length q.bodies) (0 ∷ parts) below_all) kept.one_tree l in
          let z : true ≡ false = sym there ∙ tally_none k (0 ∷ parts) e in cc)
      by (suc n) e = let d = distinct_tally (0 ∷ parts) distinct k in omega (arith, d, e)

  never : (k : ℕ) → length q.bodies ≤ k → tally k (0 ∷ parts) ≡ 0
  never k l = by (tally k (0 ∷ parts)) refl
    where
      by : (n : ℕ) → tally k (0 ∷ parts) ≡ n → tally k (0 ∷ parts) ≡ 0
      by zero e = e
      by (suc n) e = absurd (let h = below_all k (tally_among k (0 ∷ parts) (omega (arith, e))) in omega (arith, h, l))

module _ (own : Body → ℕ) where
  abbrev pub owns : List Body → ℕ
  owns [] = 0
  owns (b ∷ bodies) = own b + owns bodies

module _ (M : Code → ℕ) (own : Body → ℕ) (unfolds : (part : ℕ → Code) (b : Body) → M (code_of_body part (Some b)) ≡ own b + sum_of (λ j. M (part j)) (body_parts b)) (q : Cps) (kept : IsProgram q) where
  abbrev W : ℕ → ℕ
  W j = M (code_at q.bodies j)

  from : (i : ℕ) (bs : List Body) → ((m : ℕ) (b : Body) → slice_get bs m ≡ Some b → slice_get q.bodies (i + m) ≡ Some b) → sum_from W i (length bs) ≡ owns own bs + sum_of W (flat_map body_parts bs)
  from i [] h = refl
  from i (b ∷ bs) h =
      let same : i + 0 ≡ i = omega arith in
      let here : slice_get q.bodies i ≡ Some b = ap (slice_get q.bodies) (sym same) ∙ h 0 b refl in
      let mine : W i ≡ own b + sum_of W (body_parts b) = ap M (code_unfold q.bodies kept.numbered i b here) ∙ unfolds (code_at q.bodies) b in
      let rest = from (suc i) bs (λ m c e. (let up : suc i + m ≡ i + suc m = omega arith in ap (slice_get q.bodies) up ∙ h (suc m) c e)) in
      let joined = sum_append W (body_parts b) (flat_map body_parts bs) in
      omega (arith, mine, rest, joined)

  pub counted : M (code_at q.bodies 0) ≡ owns own q.bodies
  counted =
      let n = length q.bodies in
      let all = from 0 q.bodies (λ m b e. (let same : 0 + m ≡ m = omega arith in ap (slice_get q.bodies) same ∙ e)) in
      let whole = each_once W n (0 ∷ flat_map body_parts q.bodies) (exactly q kept) (never q kept) in
      let split = sum_split W 0 n in
      let same : sum_below W (0 + n) ≡ sum_below W n = (let e : 0 + n ≡ n = omega arith in ap (sum_below W) e) in
      omega (arith, all, whole, split, same)
