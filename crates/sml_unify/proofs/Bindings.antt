-- One more variable is bound.
use Rattle.std.proofs.Common.{◌≡◌, ℕ, zero, suc, ◌+◌, ◌<◌, ◌≤◌, Bool, true, false, List, [], ◌∷◌, ◌++◌, length, Option, Some, None, refl, sym, ap, ◌∙◌, subst, arith}
use Rattle.std.specs.Prelude.{slice_get, nat_eq, max, cond}
use Rattle.std.proofs.lemmas.Bool.{eqb-true, eq-eqb}
use Rattle.sml_types.specs.declared.types.Ty.{Ty}
use Rattle.sml_types.specs.declared.types.TyVar.{TyVar}
use Rattle.sml_types.specs.declared.types.TyForm.{TyForm}
use Rattle.sml_types.specs.declared.types.TyForm.TheVariants.{Var, Fields, Arrow, Named}
use Rattle.sml_types.specs.Tree.{Tree, Variable, App, NoParts, Part, inst, occurs}
use Rattle.sml_types.specs.Forms.{tree}
use Rattle.sml_types.proofs.TreeFacts.{either, or_left, or_right}
use Rattle.sml_unify.specs.Solved.{bound_at, Substitution, Solves, IsSolved, IsBoundTo, var_weight, weight, meant, under}
use Rattle.sml_unify.proofs.Meant.{meant_free, bound_cases, meant_bound}

-- the highest rank of a variable in a type
top : (ℕ → ℕ) → Tree → ℕ
top r (Variable v) = r v.num
top r (App h ts) = top r ts
top r NoParts = 0
top r (Part t ts) = max (top r t) (top r ts)

top_in : (r : ℕ → ℕ) (t : Tree) (y : ℕ) → occurs y t ≡ true → r y ≤ top r t
unfolding top
top_in r (Variable v) y e = let s : y ≡ v.num = eqb-true y v.num e in let k = ap r s in omega arith
top_in r (App h ts) y e = top_in r ts y e
top_in r NoParts y e = cc
top_in r (Part t ts) y e =
    either (occurs y t) (occurs y ts) (r y ≤ max (top r t) (top r ts)) e (λ q. let k = top_in r t y q in omega arith) (λ q. let k = top_in r ts y q in omega arith)

-- what stands in what a variable stands for, stands in the whole
pub occurs_out : (f : Substitution) (x y : ℕ) (t : Tree) → ((w : TyVar) → w.num ≡ y → occurs x (f w) ≡ true) → occurs y t ≡ true → occurs x (inst f t) ≡ true
occurs_out f x y (Variable w) h e = h w (sym (eqb-true y w.num e))
occurs_out f x y (App c ts) h e = occurs_out f x y ts h e
occurs_out f x y NoParts h e = cc
occurs_out f x y (Part t ts) h e =
    either
    (occurs y t)
    (occurs y ts)
    (occurs x (inst f (Part t ts)) ≡ true)
    e
    (λ q. or_left (occurs x (inst f t)) (occurs x (inst f ts)) (occurs_out f x y t h q))
    (λ q. or_right (occurs x (inst f t)) (occurs x (inst f ts)) (occurs_out f x y ts h q))

abbrev plain : ℕ → TyVar
plain y = record { num = y; eq = false }

module _ (forms : List TyForm) (bound : List (Option Ty)) (s : IsSolved forms bound) (x : ℕ) (t : Ty) (after : List (Option Ty)) (b : IsBoundTo bound x t after) (u : bound_at bound x ≡ None) where
  hit : ℕ → Bool
  hit y = occurs x (meant forms bound (plain y))

  -- whether a variable leads to x does not turn on its mark
  hit_any : (w : TyVar) → occurs x (meant forms bound w) ≡ hit w.num
  unfolding hit
  hit_any w =
      bound_cases
      bound
      w.num
      (occurs x (meant forms bound w) ≡ occurs x (meant forms bound (plain w.num)))
      (λ e. ap (occurs x) (meant_free forms bound w e) ∙ sym (ap (occurs x) (meant_free forms bound (plain w.num) e)))
      (λ v e. ap (occurs x) (meant_bound forms bound s.acyclic w v e ∙ sym (meant_bound forms bound s.acyclic (plain w.num) v e)))

  module _ (clear : occurs x (under forms (meant forms bound) t.0) ≡ false) (there : t.0 < length forms) where
    lift : ℕ → ℕ
    lift y = s.acyclic.0 y + cond (hit y) (suc (top s.acyclic.0 (tree forms t.0))) 0

    hit_up : (y : ℕ) (v : Ty) → occurs y (tree forms v.0) ≡ true → hit y ≡ true → occurs x (under forms (meant forms bound) v.0) ≡ true
    hit_up y v o h = occurs_out (meant forms bound) x y (tree forms v.0) (λ w e. hit_any w ∙ ap hit e ∙ h) o

    lift_new : (y : ℕ) → occurs y (tree forms t.0) ≡ true → lift y < lift x
    unfolding lift hit
    lift_new y o = go (hit y) refl
      where
        own : hit x ≡ true
        own = ap (occurs x) (meant_free forms bound (plain x) u) ∙ eq-eqb x x refl

        go : (c : Bool) → hit y ≡ c → s.acyclic.0 y + cond (hit y) (suc (top s.acyclic.0 (tree forms t.0))) 0 < s.acyclic.0 x + cond (hit x) (suc (top s.acyclic.0 (tree forms t.0))) 0
        go true e = let w = hit_up y t o e in cc
        go false e =
            let k = top_in s.acyclic.0 (tree forms t.0) y o in
            let m : cond (hit y) (suc (top s.acyclic.0 (tree forms t.0))) 0 ≡ 0 = ap (λ c. cond c (suc (top s.acyclic.0 (tree forms t.0))) 0) e in
            let n : cond (hit x) (suc (top s.acyclic.0 (tree forms t.0))) 0 ≡ suc (top s.acyclic.0 (tree forms t.0)) = ap (λ c. cond c (suc (top s.acyclic.0 (tree forms t.0))) 0) own in
            omega arith

    lift_old : (z y : ℕ) (v : Ty) → bound_at bound z ≡ Some v → occurs y (tree forms v.0) ≡ true → lift y < lift z
    unfolding lift hit
    lift_old z y v e o = go (hit y) refl (hit z) refl
      where
        up : hit y ≡ true → hit z ≡ true
        up h = ap (occurs x) (meant_bound forms bound s.acyclic (plain z) v e) ∙ hit_up y v o h

        low : s.acyclic.0 y < s.acyclic.0 z
        low = s.acyclic.1 z y v e o

        go : (c : Bool) → hit y ≡ c → (d : Bool) → hit z ≡ d → s.acyclic.0 y + cond (hit y) (suc (top s.acyclic.0 (tree forms t.0))) 0 < s.acyclic.0 z + cond (hit z) (suc (top s.acyclic.0 (tree forms t.0))) 0
        go true p true q = let k = low in let m = ap (λ c. cond c (suc (top s.acyclic.0 (tree forms t.0))) 0) (p ∙ sym q) in omega arith
        go true p false q = let k = up p in cc
        go false p d q =
            let k = low in
            let m : cond (hit y) (suc (top s.acyclic.0 (tree forms t.0))) 0 ≡ 0 = ap (λ c. cond c (suc (top s.acyclic.0 (tree forms t.0))) 0) p in
            omega arith

    old_or_new : (z : ℕ) (v : Ty) (P : Type 0) → bound_at after z ≡ Some v → (z ≡ x → t ≡ v → P) → (bound_at bound z ≡ Some v → P) → P
    old_or_new z v P e f g = go (nat_eq z x) refl
      where
        go : (c : Bool) → nat_eq z x ≡ c → P
        go true q =
            let n : z ≡ x = eqb-true z x q in
            let w : Some t ≡ Some v = sym b.here ∙ sym (ap (bound_at after) n) ∙ e in
            f n (cc)
        go false q = g (sym (b.others z (λ n. let w = eq-eqb z x n in cc)) ∙ e)

    pub bound_solved : IsSolved forms after
    bound_solved =
        record {
          numbered = s.numbered;
          named = s.named;
          within = λ z v e. old_or_new z v (v.0 < length forms) e (λ n w. subst (λ (q : Ty). q.0 < length forms) w there) (λ w. s.within z v w);
          acyclic = (
            lift,
            (λ z y v e o.
                old_or_new
                z
                v
                (lift y < lift z)
                e
                (λ n w. subst (λ (k : ℕ). lift y < lift k) (sym n) (lift_new y (ap (λ (q : Ty). occurs y (tree forms q.0)) w ∙ o)))
                (λ w. lift_old z y v w o)),
          );
        }

    -- solutions after are solutions before that make both equal
    pub bound_before : (f : Substitution) → Solves forms after f → Solves forms bound f
    bound_before f h i v w q e =
        h i v w q (b.others v.num (λ n. let k : None ≡ Some w = sym (ap (bound_at bound) n ∙ u) ∙ e in cc) ∙ e)

    pub bound_after : (f : Substitution) → Solves forms bound f → ((i : ℕ) (v : TyVar) → slice_get forms i ≡ Some (Var v) → v.num ≡ x → f v ≡ under forms f t.0) → Solves forms after f
    bound_after f h g i v w q e =
        old_or_new v.num w (f v ≡ inst f (tree forms w.0)) e (λ n k. g i v q n ∙ ap (λ (z : Ty). under forms f z.0) k) (λ k. h i v w q k)

-- less is left to bind
var_le : (bound after : List (Option Ty)) (x : ℕ) (t : Ty) (v : TyVar) → IsBoundTo bound x t after → var_weight (bound_at after v.num) v.eq ≤ var_weight (bound_at bound v.num) v.eq
var_le bound after x t v b = go (nat_eq v.num x) refl
  where
    go : (c : Bool) → nat_eq v.num x ≡ c → var_weight (bound_at after v.num) v.eq ≤ var_weight (bound_at bound v.num) v.eq
    go true q =
        let n : v.num ≡ x = eqb-true v.num x q in
        let k = ap (λ o. var_weight o v.eq) (ap (bound_at after) n ∙ b.here) in
        omega arith
    go false q =
        let k = ap (λ o. var_weight o v.eq) (b.others v.num (λ n. let w = eq-eqb v.num x n in cc)) in omega arith

weight_le : (forms : List TyForm) (bound after : List (Option Ty)) (x : ℕ) (t : Ty) → IsBoundTo bound x t after → weight forms after ≤ weight forms bound
weight_le [] bound after x t b = omega arith
weight_le (Var v ∷ forms) bound after x t b =
    let k = weight_le forms bound after x t b in let m = var_le bound after x t v b in omega arith
weight_le (Fields fields ∷ forms) bound after x t b = weight_le forms bound after x t b
weight_le (Arrow p q ∷ forms) bound after x t b = weight_le forms bound after x t b
weight_le (Named n args ∷ forms) bound after x t b = weight_le forms bound after x t b

-- by as much as the variable counted
pub weight_falls : (forms : List TyForm) (bound after : List (Option Ty)) (x : ℕ) (t : Ty) (i : ℕ) (v : TyVar) → IsBoundTo bound x t after → slice_get forms i ≡ Some (Var v) → v.num ≡ x → bound_at bound x ≡ None → weight forms after + var_weight None v.eq ≤ weight forms bound
weight_falls [] bound after x t i v b q n u = cc
weight_falls (Var w ∷ forms) bound after x t zero v b q n u =
    let k = weight_le forms bound after x t b in
    let e : w ≡ v = cc in
    let l = ap (λ (y : TyVar). var_weight (bound_at after y.num) y.eq) e in
    let m = ap (λ o. var_weight o v.eq) (ap (bound_at after) n ∙ b.here) in
    let l2 = ap (λ (y : TyVar). var_weight (bound_at bound y.num) y.eq) e in
    let m2 = ap (λ o. var_weight o v.eq) (ap (bound_at bound) n ∙ u) in
    omega arith
weight_falls (Fields fields ∷ forms) bound after x t zero v b q n u = cc
weight_falls (Arrow p r ∷ forms) bound after x t zero v b q n u = cc
weight_falls (Named m args ∷ forms) bound after x t zero v b q n u = cc
weight_falls (Var w ∷ forms) bound after x t (suc i) v b q n u =
    let k = weight_falls forms bound after x t i v b q n u in let m = var_le bound after x t w b in omega arith
weight_falls (Fields fields ∷ forms) bound after x t (suc i) v b q n u = weight_falls forms bound after x t i v b q n u
weight_falls (Arrow p r ∷ forms) bound after x t (suc i) v b q n u = weight_falls forms bound after x t i v b q n u
weight_falls (Named m args ∷ forms) bound after x t (suc i) v b q n u = weight_falls forms bound after x t i v b q n u

pub weight_more : (forms : List TyForm) (bound : List (Option Ty)) (z : TyVar) → bound_at bound z.num ≡ None → z.eq ≡ true → weight (forms ++ Var z ∷ []) bound ≡ weight forms bound + 1
weight_more [] bound z u e =
    let m = ap (λ o. var_weight o z.eq) u in let k = ap (var_weight None) e in omega arith
weight_more (Var v ∷ forms) bound z u e = let k = weight_more forms bound z u e in omega arith
weight_more (Fields fields ∷ forms) bound z u e = weight_more forms bound z u e
weight_more (Arrow p r ∷ forms) bound z u e = weight_more forms bound z u e
weight_more (Named m args ∷ forms) bound z u e = weight_more forms bound z u e
