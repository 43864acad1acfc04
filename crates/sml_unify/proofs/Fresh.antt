-- New variables change nothing of what is bound.
use Rattle.std.proofs.Common.{◌≡◌, ℕ, zero, suc, ◌<◌, ◌≤◌, Bool, true, false, List, [], ◌∷◌, ◌++◌, length, Option, Some, None, refl, sym, ap, ◌∙◌, subst, arith, get_or}
use Rattle.std.specs.Prelude.{slice_get, ltb}
use Rattle.std.proofs.lemmas.Bool.Decides.{nat_tests}
use Rattle.std.proofs.lemmas.Option.{slice_get-get_or}
use Rattle.sml_types.specs.declared.types.Ty.{Ty}
use Rattle.sml_types.specs.declared.types.TyVar.{TyVar}
use Rattle.sml_types.specs.declared.types.TyForm.{TyForm}
use Rattle.sml_types.specs.declared.types.TyForm.TheVariants.{Var, Arrow}
use Rattle.sml_types.specs.declared.tables.TypeName.{TypeName}
use Rattle.sml_types.specs.Tree.{inst, occurs, admits}
use Rattle.sml_types.specs.Forms.{tree, AreForms, AreApplied, IsApplied}
use Rattle.sml_types.proofs.TreeFacts.{inst_same}
use Rattle.sml_unify.specs.Solved.{bound_at, Respects, AreBindings, IsSolved, rounds, meant}
use Rattle.sml_unify.specs.Steps.{IsLonger, IsFreshFrom, AreFreshFrom}
use Rattle.sml_unify.proofs.Extends.{more_cases}
use Rattle.sml_unify.proofs.Meant.{bound_within, bound_cases, rounds_zero, rounds_free, rounds_bound, meant_free}

slice_within : {A : Type 0} (xs : List A) (i : ℕ) (x : A) → slice_get xs i ≡ Some x → i < length xs
slice_within [] i x e = cc
slice_within (y ∷ xs) zero x e = omega arith
slice_within (y ∷ xs) (suc i) x e = let w = slice_within xs i x e in omega arith

pub fresh_none : (next : ℕ) (forms : List TyForm) → AreFreshFrom next forms forms
fresh_none next forms i f w e = let x = slice_within forms i f e in absurd (omega arith)

pub fresh_one : (next : ℕ) (forms : List TyForm) (z : TyVar) → z.num ≡ next → z.eq ≡ true → AreFreshFrom next forms (forms ++ Var z ∷ [])
fresh_one next forms z n m i f w e =
    more_cases forms (Var z) i f (IsFreshFrom next f) e (λ o. let x = slice_within forms i f o in absurd (omega arith)) (λ l q. record { var = z; is = sym q; marked = m; beyond = omega arith })

-- a form of the longer list is an old one or a new one
form_cases : (forms after : List TyForm) (i : ℕ) (f : TyForm) (P : Type 0) → IsLonger forms after → slice_get after i ≡ Some f → (slice_get forms i ≡ Some f → P) → (length forms ≤ i → P) → P
form_cases forms after i f P l e a b = go (ltb i (length forms)) refl
  where
    d : TyForm
    d = Arrow (record { 0 = 0 }) (record { 0 = 0 })

    go : (c : Bool) → ltb i (length forms) ≡ c → P
    go true q =
        let w : i < length forms = grind (arith, nat_tests) in
        let x = slice_get-get_or forms i d w in
        let same : get_or forms i d ≡ f = cc (l.keeps i (get_or forms i d) x, e) in
        a (x ∙ ap Some same)
    go false q = b (grind (arith, nat_tests))

pub fresh_more : (forms forms2 forms3 : List TyForm) (next next2 : ℕ) → AreFreshFrom next forms forms2 → next ≤ next2 → IsLonger forms2 forms3 → AreFreshFrom next2 forms2 forms3 → AreFreshFrom next forms forms3
fresh_more forms forms2 forms3 next next2 a n l b i f w e =
    form_cases
    forms2
    forms3
    i
    f
    (IsFreshFrom next f)
    l
    e
    (λ o. a i f w o)
    (λ m. let x = b i f m e in record { var = x.var; is = x.is; marked = x.marked; beyond = let y = x.beyond in omega arith })

pub solved_of : (forms : List TyForm) (bound : List (Option Ty)) → AreForms forms → AreBindings forms bound → IsSolved forms bound
solved_of forms bound a b =
    record { numbered = a.numbered; named = a.named; within = b.within; acyclic = b.acyclic }

pub bindings_of : (forms : List TyForm) (bound : List (Option Ty)) → IsSolved forms bound → AreBindings forms bound
bindings_of forms bound s = record { within = s.within; acyclic = s.acyclic }

pub bindings_longer : (forms after : List TyForm) (bound : List (Option Ty)) → IsLonger forms after → AreBindings forms bound → AreBindings after bound
bindings_longer forms after bound l b =
    record {
      within = λ x t e. let w = b.within x t e in let c = l.count in omega arith;
      acyclic = (b.acyclic.0, λ x y t e o. b.acyclic.1 x y t e (sym (ap (occurs y) (l.trees t.0 (b.within x t e))) ∙ o));
    }

module _ (forms after : List TyForm) (bound : List (Option Ty)) (l : IsLonger forms after) (b : AreBindings forms bound) where
  rounds_longer : (i : ℕ) (v : TyVar) → rounds after bound i v ≡ rounds forms bound i v
  rounds_longer zero v = rounds_zero after bound v ∙ sym (rounds_zero forms bound v)
  rounds_longer (suc i) v = go (rounds_longer i)
    where
      go : ((w : TyVar) → rounds after bound i w ≡ rounds forms bound i w) → rounds after bound (suc i) v ≡ rounds forms bound (suc i) v
      go ih =
          bound_cases
          bound
          v.num
          (rounds after bound (suc i) v ≡ rounds forms bound (suc i) v)
          (λ e. rounds_free after bound (suc i) v e ∙ sym (rounds_free forms bound (suc i) v e))
          (λ t e.
          rounds_bound after bound i v t e
          ∙ ap (inst (rounds after bound i)) (l.trees t.0 (b.within v.num t e))
          ∙ inst_same (rounds after bound i) (rounds forms bound i) (tree forms t.0) (λ w o. ih w)
          ∙ sym (rounds_bound forms bound i v t e))

  meant_longer : (v : TyVar) → meant after bound v ≡ meant forms bound v
  unfolding meant
  meant_longer v = rounds_longer (length bound) v

  pub marks_longer : (names : List TypeName) (next : ℕ) → length bound ≤ next → AreFreshFrom next forms after → Respects names forms (meant forms bound) → Respects names after (meant after bound)
  marks_longer names next short a r i v e m =
      form_cases
      forms
      after
      i
      (Var v)
      (admits names (meant after bound v) ≡ true)
      l
      e
      (λ o. ap (admits names) (meant_longer v) ∙ r i v o m)
      (λ w.
      let x = a i (Var v) w e in
      let same : v ≡ x.var = cc (x.is) in
      let n = ap (λ (u : TyVar). u.num) same in
      let free : bound_at bound v.num ≡ None = bound_cases bound v.num (bound_at bound v.num ≡ None) (λ q. q) (λ t q. let z = bound_within bound v.num t q in let y = x.beyond in absurd (omega arith)) in
      ap (admits names) (meant_free after bound v free) ∙ m)

pub applied_longer : (forms after : List TyForm) (next : ℕ) (names : List TypeName) → IsLonger forms after → AreFreshFrom next forms after → AreApplied names forms → AreApplied names after
applied_longer forms after next names l a h i f e =
    form_cases forms after i f (IsApplied names f) l e (λ o. h i f o) (λ w. let x = a i f w e in subst (λ (g : TyForm). IsApplied names g) (sym x.is) tt)

pub bindings_none : (forms : List TyForm) → AreBindings forms []
bindings_none forms =
    record {
      within = λ x t e. absurd (none x t e);
      acyclic = ((λ x. 0), (λ x y t e o. absurd (none x t e)));
    }
  where
    none : (x : ℕ) (t : Ty) → bound_at [] x ≡ Some t → ⊥
    none zero t e = cc
    none (suc x) t e = cc

-- one variable before another
pub named_apart : (z w : TyVar) (i : ℕ) (v : TyVar) → (z.num ≡ w.num → ⊥) → slice_get (Var z ∷ []) i ≡ Some (Var v) → v.num ≡ w.num → v ≡ w
named_apart z w zero v d e n = let same : z ≡ v = cc in absurd (d (ap (λ (u : TyVar). u.num) same ∙ n))
named_apart z w (suc i) v d e n = cc
