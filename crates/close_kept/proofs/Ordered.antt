-- The points of labels are in order.
use Rattle.std.proofs.Common.{◌≡◌, ◌≢◌, ℕ, zero, suc, ◌+◌, ◌<◌, ◌≤◌, ◌^◌, Bool, true, false, cond, List, [], ◌∷◌, ◌++◌, ◌⊎◌, inl, inr, ⊎_elim, refl, sym, ap, ◌∙◌, subst, arith, nat_eq}
use Rattle.std.specs.Prelude.{nat_lt, count_by}
use Rattle.std.specs.List.{AllByRecursion}
use Rattle.std.proofs.lemmas.Bool.{cases_lt, lt-ltb, ltb-true, eqb-true}
use Rattle.std.proofs.lemmas.List.Sums.{sum_by-cons}
use Rattle.smlc_base.specs.declared.point.Point.{Point}
use Rattle.smlc_base.specs.declared.point.PointKind.{PointKind}
use Rattle.smlc_base.specs.declared.point.PointKind.TheVariants as kind
use Rattle.smlc_base.specs.Points.{is_point}
use Rattle.simulation.specs.Blocks.{IsAmong}
use Rattle.sml_tree.specs.Order.{kind_rank, rank, AscendFrom}
use Rattle.sml_def.specs.Run.{eq_point}
use Rattle.cps_ir.specs.Slim.{Layout}
use Rattle.lifetime_users.specs.Users.{label_in}
use Rattle.label_order.specs.Order.{AreApart, of_label, by_label_from, points_in}
use Rattle.label_order.proofs.Ranks.{one_point}
use Rattle.close_seen.proofs.Tally.{all_among}

-- ---- Labels grow with points

counted : (r : ℕ) (l : Layout) (ls : List Layout) → count_by (λ k. nat_lt (rank k.point) r) (l ∷ ls) ≡ cond {A = ℕ} (nat_lt (rank l.point) r) 1 0 + count_by (λ k. nat_lt (rank k.point) r) ls
counted r l ls = sum_by-cons (λ k. cond (nat_lt (rank k.point) r) 1 0) l ls

each : (x r s : ℕ) → r ≤ s → cond {A = ℕ} (nat_lt x r) 1 0 ≤ cond {A = ℕ} (nat_lt x s) 1 0
each x r s h = by (nat_lt x r) refl
  where
    by : (b : Bool) → nat_lt x r ≡ b → cond {A = ℕ} (nat_lt x r) 1 0 ≤ cond {A = ℕ} (nat_lt x s) 1 0
    by true e =
        let lt : x < r = ltb-true x r e in
        let one : cond {A = ℕ} (nat_lt x s) 1 0 ≡ 1 = ap (λ b. cond {A = ℕ} b 1 0) (lt-ltb x s (omega (arith, lt, h))) in
        let now : cond {A = ℕ} (nat_lt x r) 1 0 ≡ 1 = ap (λ b. cond {A = ℕ} b 1 0) e in
        omega (arith, one, now)
    by false e = let now : cond {A = ℕ} (nat_lt x r) 1 0 ≡ 0 = ap (λ b. cond {A = ℕ} b 1 0) e in omega (arith, now)

no_fewer : (r s : ℕ) (ls : List Layout) → r ≤ s → count_by (λ k. nat_lt (rank k.point) r) ls ≤ count_by (λ k. nat_lt (rank k.point) s) ls
no_fewer r s [] h = omega arith
no_fewer r s (l ∷ ls) h =
    let a = counted r l ls in let b = counted s l ls in let c = each (rank l.point) r s h in let d = no_fewer r s ls h in omega (arith, a, b, c, d)

above : (all : List Layout) (l k : Layout) → label_in all l.point < label_in all k.point → rank l.point < rank k.point
above all l k h =
    ⊎_elim (λ (g : rank l.point < rank k.point). g)
    (λ (g : rank k.point ≤ rank l.point). absurd (let f : label_in all k.point ≤ label_in all l.point = no_fewer (rank k.point) (rank l.point) all g in omega (arith, f, h)))
    (cases_lt (rank l.point) (rank k.point))

-- ---- One function of each label at most

module _ (all : List Layout) (m : ℕ) where
  abbrev IsOne : List Layout → Type 0
  IsOne ls = (l : Layout) × IsAmong l ls × (label_in all l.point ≡ m) × (of_label all m ls ≡ l ∷ [])

  one_of : (ls : List Layout) → ((k : Layout) → IsAmong k ls → IsAmong k all) → AreApart ls → (of_label all m ls ≡ []) ⊎ IsOne ls
  one_of [] h a = inl refl
  one_of (k ∷ ls) h a = by (nat_eq (label_in all k.point) m) refl (one_of ls (λ j n. h j (inr n)) a.1)
    where
      by : (b : Bool) → nat_eq (label_in all k.point) m ≡ b → (of_label all m ls ≡ []) ⊎ IsOne ls → (of_label all m (k ∷ ls) ≡ []) ⊎ IsOne (k ∷ ls)
      by false e (inl r) = inl (ap (λ b. cond b (k ∷ of_label all m ls) (of_label all m ls)) e ∙ r)
      by false e (inr r) = inr (r.0, inr r.1, r.2, ap (λ b. cond b (k ∷ of_label all m ls) (of_label all m ls)) e ∙ r.3)
      by true e (inl r) = inr (k, inl refl, eqb-true (label_in all k.point) m e, ap (λ b. cond b (k ∷ of_label all m ls) (of_label all m ls)) e ∙ ap (λ ks. k ∷ ks) r)
      by true e (inr r) =
          absurd
          (let one : is_point r.0.point k.point ≡ true = one_point all r.0 k (h r.0 (inr r.1)) (h k (inl refl)) (r.2 ∙ sym (eqb-true (label_in all k.point) m e)) in
          let z : true ≡ false = sym one ∙ a.0 r.0 r.1 in cc)

not_eq_low : (k : PointKind) → k ≢ kind.Eq → kind_rank k ≤ 3
not_eq_low kind.Fn n = omega arith
not_eq_low kind.Ret n = omega arith
not_eq_low kind.Caught n = omega arith
not_eq_low kind.Popped n = omega arith
not_eq_low kind.Eq n = absurd (n refl)

before_eq : (p : Point) → p.kind ≢ kind.Eq → p.node < 2 ^ 32 → suc (rank p) ≤ rank eq_point
before_eq p n h = let k = not_eq_low p.kind n in omega (arith, k, h)

module _ (all : List Layout) (apart : AreApart all) (tail : List Point) (tails : (j : ℕ) → j ≤ rank eq_point → AscendFrom j tail) (small : (l : Layout) → IsAmong l all → suc (rank l.point) ≤ rank eq_point) where
  ascend : (n m k : ℕ) → k ≤ rank eq_point → ((l : Layout) → IsAmong l all → m ≤ label_in all l.point → k ≤ rank l.point) → AscendFrom k (points_in (by_label_from all m n all) ++ tail)
  ascend zero m k e h = tails k e
  ascend (suc n) m k e h =
      by (one_of all m all (λ l i. i) apart) (ascend n (suc m) k e (λ l i g. h l i (omega (arith, g)))) (λ j f g. ascend n (suc m) j f g)
    where
      by : (of_label all m all ≡ []) ⊎ IsOne all m all → AscendFrom k (points_in (by_label_from all (suc m) n all) ++ tail) → ((j : ℕ) → j ≤ rank eq_point → ((l : Layout) → IsAmong l all → suc m ≤ label_in all l.point → j ≤ rank l.point) → AscendFrom j (points_in (by_label_from all (suc m) n all) ++ tail)) → AscendFrom k (points_in (of_label all m all ++ by_label_from all (suc m) n all) ++ tail)
      by (inl r) skip go = subst (λ ls. AscendFrom k (points_in (ls ++ by_label_from all (suc m) n all) ++ tail)) (sym r) skip
      by (inr r) skip go =
          subst (λ ls. AscendFrom k (points_in (ls ++ by_label_from all (suc m) n all) ++ tail)) (sym r.3)
          (h r.0 r.1 (let q = r.2 in omega (arith, q)), go (suc (rank r.0.point)) (small r.0 r.1) (λ l i g. above all r.0 l (let q = r.2 in omega (arith, q, g))))

pub in_order : (all : List Layout) (n : ℕ) (b : Bool) → AreApart all → ((l : Layout) → IsAmong l all → l.point.kind ≢ kind.Eq) → AllByRecursion (λ l. l.point.node < 2 ^ 32) all → AscendFrom 0 (points_in (by_label_from all 0 n all) ++ cond b (eq_point ∷ []) [])
in_order all n b apart kinds nodes =
    ascend all apart (cond b (eq_point ∷ []) []) (tails b) (λ l i. before_eq l.point (kinds l i) (all_among (λ l. l.point.node < 2 ^ 32) all l nodes i)) n 0 0 (omega arith) (λ l i g. omega arith)
  where
    tails : (w : Bool) (j : ℕ) → j ≤ rank eq_point → AscendFrom j (cond w (eq_point ∷ []) [])
    tails true j h = (h, tt)
    tails false j h = tt
