-- Chains of links end, and join equal types.
use Rattle.std.proofs.Common.{◌≡◌, ℕ, suc, ◌+◌, ◌<◌, ◌≤◌, Bool, true, false, List, length, Option, Some, None, refl, sym, ap, ◌∙◌, subst, arith}
use Rattle.std.specs.Prelude.{slice_get, nat_eq}
use Rattle.std.proofs.lemmas.Bool.{eqb-true, eq-eqb}
use Rattle.sml_types.specs.declared.types.Ty.{Ty}
use Rattle.sml_types.specs.declared.types.TyVar.{TyVar}
use Rattle.sml_types.specs.declared.types.TyForm.{TyForm}
use Rattle.sml_types.specs.declared.types.TyForm.TheVariants.{Var}
use Rattle.sml_unify.specs.Solved.{IsSameType}
use Rattle.sml_unify.specs.Links.{IsRanked, IsLinked, Leads, stay, onward, AreLinks}
use Rattle.sml_unify.proofs.Meant.{below, below_less, below_all}

-- after k steps of a chain that many numbers have had a higher rank
abbrev pub IsLowLink : ℕ → (ℕ → Option Ty) → ℕ → ℕ → Type 0
IsLowLink count link i k = (r : ℕ → ℕ) × ((x y : ℕ) (t u : Ty) → link x ≡ Some t → t.0 ≡ y → link y ≡ Some u → r y < r x) × ((t : Ty) → link i ≡ Some t → r i + k < count)

pub low_link_first : (count : ℕ) (link : ℕ → Option Ty) (i : ℕ) → IsRanked count link → IsLowLink count link i 0
low_link_first count link i s = (
  (λ x. below s.rank count x),
  (λ x y t u e n d. below_less s.rank count x y (s.within y u d) (subst (λ (z : ℕ). s.rank z < s.rank x) n (s.falls x t e))),
  (λ t e. let w = below_all s.rank count i (s.within i t e) in omega arith),
)

pub low_link_step : (count : ℕ) (link : ℕ → Option Ty) (i k : ℕ) (t : Ty) → link i ≡ Some t → IsLowLink count link i k → IsLowLink count link t.0 (k + 1)
low_link_step count link i k t e low =
    (low.0, low.1, λ u d. let falls = low.1 i t.0 t u e refl d in let was = low.2 t e in omega arith)

pub low_link_last : (count : ℕ) (link : ℕ → Option Ty) (i k : ℕ) → count ≤ k → IsLowLink count link i k → link i ≡ None
low_link_last count link i k h low = go (link i) refl
  where
    go : (o : Option Ty) → link i ≡ o → link i ≡ None
    go None e = e
    go (Some t) e = let w = low.2 t e in absurd (omega arith)

module _ (forms : List TyForm) (bound : List (Option Ty)) (link : ℕ → Option Ty) (a : AreLinks forms bound link) where
  pub leads_same : (i j : ℕ) → Leads link i j → IsSameType forms bound i j
  leads_same i j (stay e) = subst (λ (z : ℕ). IsSameType forms bound i z) e (λ f h. refl)
  leads_same i j (onward k t l e n) =
      let first = leads_same i k l in
      subst (λ (z : ℕ). IsSameType forms bound i z) n (λ f h. first f h ∙ a.same k t e f h)

  pub leads_there : (i j : ℕ) → i < length forms → Leads link i j → j < length forms
  leads_there i j w (stay e) = omega arith
  leads_there i j w (onward k t l e n) = let x = a.there k t e in omega arith

  pub leads_app : (i j : ℕ) → ((v : TyVar) → slice_get forms i ≡ Some (Var v) → ⊥) → Leads link i j → (v : TyVar) → slice_get forms j ≡ Some (Var v) → ⊥
  leads_app i j h (stay e) v q = h v (ap (slice_get forms) e ∙ q)
  leads_app i j h (onward k t l e n) v q = a.app k t e v (ap (slice_get forms) n ∙ q)

-- two numbers that are linked to none are linked
abbrev rank_of : (ℕ → ℕ) → ℕ → Option Ty → ℕ
rank_of rank i None = 0
rank_of rank i (Some t) = suc (rank i)

rank_most : (rank : ℕ → ℕ) (i : ℕ) (o : Option Ty) → rank_of rank i o ≤ suc (rank i)
rank_most rank i None = omega arith
rank_most rank i (Some t) = omega arith

pub linked_cases : (link after : ℕ → Option Ty) (i : ℕ) (t : Ty) → IsLinked link i t after → (j : ℕ) (u : Ty) (P : Type 0) → after j ≡ Some u → (j ≡ i → t ≡ u → P) → (link j ≡ Some u → P) → P
linked_cases link after i t l j u P e f g = go (nat_eq j i) refl
  where
    go : (b : Bool) → nat_eq j i ≡ b → P
    go true q =
        let n : j ≡ i = eqb-true j i q in
        let w : Some t ≡ Some u = sym l.here ∙ sym (ap after n) ∙ e in
        f n (cc)
    go false q = g (sym (l.others j (λ n. let w = eq-eqb j i n in cc)) ∙ e)

pub ranked_more : (count : ℕ) (link after : ℕ → Option Ty) (i : ℕ) (t : Ty) → IsRanked count link → IsLinked link i t after → i < count → link t.0 ≡ None → (i ≡ t.0 → ⊥) → IsRanked count after
ranked_more count link after i t s l w free d =
    record { rank = λ j. rank_of s.rank j (after j); falls = falls; within = within }
  where
    target : after t.0 ≡ None
    target = l.others t.0 (λ n. d (sym n)) ∙ free

    falls : (j : ℕ) (u : Ty) → after j ≡ Some u → rank_of s.rank u.0 (after u.0) < rank_of s.rank j (after j)
    falls j u e =
        linked_cases
        link
        after
        i
        t
        l
        j
        u
        (rank_of s.rank u.0 (after u.0) < rank_of s.rank j (after j))
        e
        (λ n same. let x = ap (λ (z : Ty). rank_of s.rank z.0 (after z.0)) same in let y = ap (rank_of s.rank t.0) target in let z = ap (rank_of s.rank j) e in omega arith)
        (λ o. let x = rank_most s.rank u.0 (after u.0) in let y = s.falls j u o in let z = ap (rank_of s.rank j) e in omega arith)

    within : (j : ℕ) (u : Ty) → after j ≡ Some u → j < count
    within j u e = linked_cases link after i t l j u (j < count) e (λ n same. omega arith) (λ o. s.within j u o)

pub links_more : (forms : List TyForm) (bound : List (Option Ty)) (link after : ℕ → Option Ty) (i : ℕ) (t : Ty) → AreLinks forms bound link → IsLinked link i t after → i < length forms → t.0 < length forms → link t.0 ≡ None → (i ≡ t.0 → ⊥) → ((v : TyVar) → slice_get forms t.0 ≡ Some (Var v) → ⊥) → IsSameType forms bound i t.0 → AreLinks forms bound after
links_more forms bound link after i t a l w x free d app same =
    record {
      ranked = ranked_more (length forms) link after i t a.ranked l w free d;
      there = λ j u e. linked_cases link after i t l j u (u.0 < length forms) e (λ n s. let z = ap (λ (y : Ty). y.0) s in omega arith) (λ o. a.there j u o);
      app = λ j u e. linked_cases link after i t l j u ((v : TyVar) → slice_get forms u.0 ≡ Some (Var v) → ⊥) e (λ n s. subst (λ (y : Ty). (v : TyVar) → slice_get forms y.0 ≡ Some (Var v) → ⊥) s app) (λ o. a.app j u o);
      same = λ j u e. linked_cases link after i t l j u (IsSameType forms bound j u.0) e (λ n s. subst (λ (y : Ty). IsSameType forms bound j y.0) s (subst (λ (z : ℕ). IsSameType forms bound z t.0) (sym n) same)) (λ o. a.same j u o);
    }

pub links_none : (forms : List TyForm) (bound : List (Option Ty)) (link : ℕ → Option Ty) → ((i : ℕ) → link i ≡ None) → AreLinks forms bound link
links_none forms bound link h =
    record {
      ranked = record { rank = λ i. 0; falls = λ i t e. absurd (no i t e); within = λ i t e. absurd (no i t e) };
      there = λ i t e. absurd (no i t e);
      app = λ i t e. absurd (no i t e);
      same = λ i t e. absurd (no i t e);
    }
  where
    no : (i : ℕ) (t : Ty) → link i ≡ Some t → ⊥
    no i t e = let w : None ≡ Some t = sym (h i) ∙ e in cc
