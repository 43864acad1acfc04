-- Different points have different labels.
use Rattle.std.proofs.Common.{◌≡◌, ℕ, zero, suc, ◌+◌, ◌*◌, ◌<◌, ◌≤◌, Bool, true, false, cond, List, [], ◌∷◌, inl, inr, ⊎_elim, refl, sym, ap, ◌∙◌, arith}
use Rattle.std.specs.Prelude.{nat_eq, nat_lt, count_by, ◌&&◌}
use Rattle.std.proofs.lemmas.List.Sums.{sum_by-cons}
use Rattle.std.proofs.lemmas.Bool.{cases_lt, lt-ltb, ltb-true}
use Rattle.smlc_base.specs.declared.point.Point.{Point}
use Rattle.smlc_base.specs.declared.point.PointKind.{PointKind}
use Rattle.smlc_base.specs.declared.point.PointKind.TheVariants as kind
use Rattle.smlc_base.specs.Points.{is_point, is_same_kind}
use Rattle.simulation.specs.Blocks.{IsAmong}
use Rattle.sml_tree.specs.Order.{kind_rank, rank}
use Rattle.cps_ir.specs.Slim.{Layout}
use Rattle.lifetime_users.specs.Users.{label_in}

kind_low : (k : PointKind) → kind_rank k ≤ 4
kind_low kind.Fn = omega arith
kind_low kind.Ret = omega arith
kind_low kind.Caught = omega arith
kind_low kind.Popped = omega arith
kind_low kind.Eq = omega arith

abbrev kind_of : ℕ → PointKind
kind_of zero = kind.Fn
kind_of (suc zero) = kind.Ret
kind_of (suc (suc zero)) = kind.Caught
kind_of (suc (suc (suc zero))) = kind.Popped
kind_of (suc (suc (suc (suc n)))) = kind.Eq

kind_back : (k : PointKind) → kind_of (kind_rank k) ≡ k
kind_back kind.Fn = refl
kind_back kind.Ret = refl
kind_back kind.Caught = refl
kind_back kind.Popped = refl
kind_back kind.Eq = refl

kind_self : (k : PointKind) → is_same_kind k k ≡ true
kind_self kind.Fn = refl
kind_self kind.Ret = refl
kind_self kind.Caught = refl
kind_self kind.Popped = refl
kind_self kind.Eq = refl

kinds_same : (j k : PointKind) → kind_rank j ≡ kind_rank k → is_same_kind j k ≡ true
kinds_same j k e = let same : j ≡ k = sym (kind_back j) ∙ ap kind_of e ∙ kind_back k in ap (λ i. is_same_kind i k) same ∙ kind_self k

pub rank_point : (p q : Point) → rank p ≡ rank q → is_point p q ≡ true
rank_point p q e =
    let a = kind_low p.kind in
    let b = kind_low q.kind in
    let f : p.node * 5 + kind_rank p.kind ≡ q.node * 5 + kind_rank q.kind = e in
    let n : p.node ≡ q.node = omega (arith, a, b, f) in
    let k : kind_rank p.kind ≡ kind_rank q.kind = omega (arith, f, n) in
    let m : nat_eq p.node q.node ≡ true = grind (arith, n) in
    ap (λ t. t && is_same_kind p.kind q.kind) m ∙ kinds_same p.kind q.kind k

-- ---- Labels grow with points

counted : {X : Type 0} (p : X → Bool) (x : X) (xs : List X) → count_by p (x ∷ xs) ≡ cond {A = ℕ} (p x) 1 0 + count_by p xs
counted p x xs = sum_by-cons (λ y. cond (p y) 1 0) x xs

each : (x r s : ℕ) → r ≤ s → cond {A = ℕ} (nat_lt x r) 1 0 ≤ cond {A = ℕ} (nat_lt x s) 1 0
each x r s h = by (nat_lt x r) refl
  where
    by : (b : Bool) → nat_lt x r ≡ b → cond {A = ℕ} (nat_lt x r) 1 0 ≤ cond {A = ℕ} (nat_lt x s) 1 0
    by true e =
        let lt : x < r = ltb-true x r e in
        let one : cond {A = ℕ} (nat_lt x s) 1 0 ≡ 1 = ap (λ b. cond {A = ℕ} b 1 0) (lt-ltb x s (omega (arith, lt, h))) in
        let now : cond {A = ℕ} (nat_lt x r) 1 0 ≡ 1 = ap (λ b. cond {A = ℕ} b 1 0) e in
        omega (arith, one, now)
    by false e = let now : cond {A = ℕ} (nat_lt x r) 1 0 ≡ 0 = ap (λ b. cond {A = ℕ} b 1 0) e in omega (arith, now)

abbrev below : ℕ → Layout → Bool
below r l = nat_lt (rank l.point) r

no_fewer : (r s : ℕ) (ls : List Layout) → r ≤ s → count_by (below r) ls ≤ count_by (below s) ls
no_fewer r s [] h = omega arith
no_fewer r s (l ∷ ls) h =
    let a = counted (below r) l ls in
    let b = counted (below s) l ls in
    let c = each (rank l.point) r s h in
    omega (arith, a, b, c, no_fewer r s ls h)

more : (l : Layout) (s : ℕ) (ls : List Layout) → rank l.point < s → IsAmong l ls → count_by (below (rank l.point)) ls < count_by (below s) ls
more l s [] h m = absurd m
more l s (k ∷ ls) h (inl same) =
    let a = counted (below (rank l.point)) k ls in
    let b = counted (below s) k ls in
    let at : rank k.point ≡ rank l.point = ap (λ (j : Layout). rank j.point) (sym same) in
    let none : nat_lt (rank k.point) (rank l.point) ≡ false = grind (arith, at) in
    let zero_here : cond {A = ℕ} (nat_lt (rank k.point) (rank l.point)) 1 0 ≡ 0 = ap (λ t. cond {A = ℕ} t 1 0) none in
    let one_here : cond {A = ℕ} (nat_lt (rank k.point) s) 1 0 ≡ 1 = ap (λ t. cond {A = ℕ} t 1 0) (lt-ltb (rank k.point) s (omega (arith, h, at))) in
    let rest = no_fewer (rank l.point) s ls (omega (arith, h)) in
    omega (arith, a, b, zero_here, one_here, rest)
more l s (k ∷ ls) h (inr m) =
    let a = counted (below (rank l.point)) k ls in
    let b = counted (below s) k ls in
    let c = each (rank k.point) (rank l.point) s (omega (arith, h)) in
    omega (arith, a, b, c, more l s ls h m)

-- functions with one label have one point
pub one_point : (all : List Layout) (l k : Layout) → IsAmong l all → IsAmong k all → label_in all l.point ≡ label_in all k.point → is_point l.point k.point ≡ true
one_point all l k m n e = ⊎_elim first (λ (g : rank k.point ≤ rank l.point). ⊎_elim second (λ (f : rank l.point ≤ rank k.point). rank_point l.point k.point (omega (arith, f, g))) (cases_lt (rank k.point) (rank l.point))) (cases_lt (rank l.point) (rank k.point))
  where
    first : rank l.point < rank k.point → is_point l.point k.point ≡ true
    first h = absurd (let g = more l (rank k.point) all h m in let f : count_by (below (rank l.point)) all ≡ count_by (below (rank k.point)) all = e in omega (arith, g, f))

    second : rank k.point < rank l.point → is_point l.point k.point ≡ true
    second h = absurd (let g = more k (rank l.point) all h n in let f : count_by (below (rank l.point)) all ≡ count_by (below (rank k.point)) all = e in omega (arith, g, f))
