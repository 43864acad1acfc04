-- Where each item of one list has its own in another, the one is no longer. So a function that is kept holds no more.
use Rattle.std.proofs.Common.{◌≡◌, ◌≢◌, ℕ, zero, suc, ◌≤◌, List, [], ◌∷◌, length, Option, Some, None, ◌⊎◌, inl, inr, refl, sym, ap, ◌∙◌, subst, arith, ⊎_elim}
use Rattle.smlc_base.specs.declared.point.Point.{Point}
use Rattle.simulation.specs.Blocks.{IsAmong}
use Rattle.sml_tree.specs.Sets.{without}
use Rattle.cps_ir.specs.declared.atom.Atom.{Atom}
use Rattle.cps_ir.specs.declared.atom.Atom.TheVariants as atom
use Rattle.cps_ir.specs.Code.{Code}
use Rattle.cps_ir.specs.Free.{free_code}
use Rattle.contract_laws.specs.Contract.{Scope, inner, Contracts}
use Rattle.contract_laws.proofs.Free.{In, without_in, in_among, among_in, Or, closed_inner, out_of, free_of}

abbrev pub Distinct : {X : Type 0} → List X → Type 0
Distinct [] = Unit {0}
Distinct (x ∷ xs) = (IsAmong x xs → ⊥) × Distinct xs

-- a list without one item
record Less {X : Type 0} (x : X) (xs : List X) : Type 0 where
  others : List X
  long : length xs ≡ suc (length others)
  cases : (z : X) → IsAmong z xs → (z ≡ x) ⊎ IsAmong z others

less : {X : Type 0} (x : X) (xs : List X) → IsAmong x xs → Less x xs
less x [] h = absurd h
less x (y ∷ ys) (inl e) = record { others = ys; long = refl; cases = λ z h. ⊎_elim (λ (u : z ≡ y). inl (u ∙ sym e)) (λ (u : IsAmong z ys). inr u) h }
less {X} x (y ∷ ys) (inr h) = let r = less x ys h in record {
  others = y ∷ r.others;
  long = ap suc r.long;
  cases = λ z k. ⊎_elim (λ (u : z ≡ y). inr (inl u)) (λ (u : IsAmong z ys). ⊎_elim (λ (v : z ≡ x). inl v) (λ (v : IsAmong z r.others). inr (inr v)) (r.cases z u)) k;
}

pub pigeon : {X Y : Type 0} (R : X → Y → Type 0) → ((x : X) (y z : Y) → R x y → R x z → y ≡ z) → (ys : List Y) (xs : List X) → Distinct ys → ((y : Y) → IsAmong y ys → (x : X) × IsAmong x xs × R x y) → length ys ≤ length xs
pigeon R one [] xs d h = omega arith
pigeon {X} {Y} R one (y ∷ ys) xs d h =
    let r = h y (inl refl) in
    let l = less r.0 xs r.1 in
    let k = pigeon R one ys l.others d.1 (λ z i. let s = h z (inr i) in
    ⊎_elim
    (λ (e : s.0 ≡ r.0). absurd (d.0 (subst (λ t. IsAmong t ys) (one r.0 z y (subst (λ t. R t z) e s.2) r.2) i)))
    (λ (e : IsAmong s.0 l.others). (s.0, e, s.2))
    (l.cases s.0 s.1)) in
    let m = l.long in omega arith

-- the values that a kept function holds
pub holds_no_more : (T : List (List ℕ)) (L : List Point) (w : ℕ) (S : Scope) (xs : List ℕ) (b d : Code) → Contracts T L w (inner S xs) b d → Distinct (without (free_code d) xs) → length (without (free_code d) xs) ≤ length (without (free_code b) xs)
holds_no_more T L w S xs b d k dis =
    pigeon (λ x y. S.σ x ≡ Some (atom.Var y)) (λ x y z e g. let i : Some (atom.Var y) ≡ Some (atom.Var z) = sym e ∙ g in let j : atom.Var y ≡ atom.Var z = cc in cc) (without (free_code d) xs) (without (free_code b) xs) dis
    (λ y i.
    let o = without_in y (free_code d) xs (among_in y (without (free_code d) xs) i) in
    let Q = λ (z : ℕ). (t : ℕ) × In t (without (free_code b) xs) × (S.σ t ≡ Some (atom.Var z)) in
    let r = out_of Q xs y o.0 (free_of T L w (inner S xs) b d k (Or Q xs) (closed_inner Q S xs (free_code b) (λ t z j e. (t, j, e))) y o.1) in
    (r.0, in_among r.0 (without (free_code b) xs) r.1, r.2))
