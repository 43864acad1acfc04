-- Forms that are added, and solutions that go over.
use Rattle.std.proofs.Common.{◌≡◌, ℕ, zero, suc, ◌<◌, ◌≤◌, Bool, true, false, List, [], ◌∷◌, length, Option, Some, None, refl, sym, ap, ◌∙◌, arith}
use Rattle.std.specs.Prelude.{slice_get, ltb}
use Rattle.std.proofs.lemmas.Bool.Decides.{nat_tests}
use Rattle.sml_types.specs.declared.types.Ty.{Ty}
use Rattle.sml_types.specs.declared.types.TyVar.{TyVar}
use Rattle.sml_types.specs.declared.types.TyForm.{TyForm}
use Rattle.sml_types.specs.declared.types.TyForm.TheVariants.{Var}
use Rattle.sml_types.specs.declared.tables.TypeName.{TypeName}
use Rattle.sml_types.specs.Tree.{Tree, Variable, inst, admits}
use Rattle.sml_types.specs.Forms.{tree, AreForms}
use Rattle.sml_types.proofs.TreeFacts.{inst_same}
use Rattle.sml_unify.specs.Solved.{bound_at, Substitution, Solves, Respects, AreBindings, Agrees, rounds, meant, under}
use Rattle.sml_unify.specs.Steps.{IsLonger, AreBelow}
use Rattle.sml_unify.proofs.Meant.{bound_within, bound_cases, rounds_zero, rounds_free, rounds_bound, meant_free}
use Rattle.sml_unify.proofs.Numbers.{under_agrees}
use Rattle.sml_unify.proofs.Counters.{number_below}
use Rattle.infer_parts.specs.Copies.{AreOldVars}
use Rattle.infer_nodes.specs.Posed.{AreAdded}

pub longer_none : (forms : List TyForm) → IsLonger forms forms
longer_none forms = record { count = omega arith; keeps = λ i f e. e; trees = λ i l. refl }

pub longer_both : (a b c : List TyForm) → IsLonger a b → IsLonger b c → IsLonger a c
longer_both a b c l m =
    record {
      count = let x = l.count in let y = m.count in omega arith;
      keeps = λ i f e. m.keeps i f (l.keeps i f e);
      trees = λ i e. m.trees i (let x = l.count in omega arith) ∙ l.trees i e;
    }

pub added_none : (next : ℕ) (forms : List TyForm) → AreBelow forms next → AreAdded next forms next forms
added_none next forms b = record { longer = longer_none forms; raised = omega arith; below = b; known = λ i v e l. (i, e) }

pub added_old : (next : ℕ) (forms forms2 : List TyForm) → AreBelow forms next → IsLonger forms forms2 → AreOldVars forms forms2 → AreAdded next forms next forms2
added_old next forms forms2 b l o = record { longer = l; raised = omega arith; below = λ i v e. b i v (o i v e); known = λ i v e w. (i, o i v e) }

pub added_both : (next next2 next3 : ℕ) (forms forms2 forms3 : List TyForm) → AreAdded next forms next2 forms2 → AreAdded next2 forms2 next3 forms3 → AreAdded next forms next3 forms3
added_both next next2 next3 forms forms2 forms3 a b =
    record {
      longer = longer_both forms forms2 forms3 a.longer b.longer;
      raised = let x = a.raised in let y = b.raised in omega arith;
      below = b.below;
      known = λ i v e w. let x = b.known i v e (let y = a.raised in omega arith) in a.known x.0 v x.1 w;
    }

pub respects_back : (names : List TypeName) (forms forms2 : List TyForm) (f : Substitution) → IsLonger forms forms2 → Respects names forms2 f → Respects names forms f
respects_back names forms forms2 f l r i v e m = r i v (l.keeps i (Var v) e) m

pub respects_old : (names : List TypeName) (forms forms2 : List TyForm) (f : Substitution) → AreOldVars forms forms2 → Respects names forms f → Respects names forms2 f
respects_old names forms forms2 f o r i v e m = r i v (o i v e) m

-- types under substitutions that agree
pub under_kept : (next : ℕ) (forms forms2 : List TyForm) (f g : Substitution) (i : ℕ) → AreForms forms → AreBelow forms next → IsLonger forms forms2 → Agrees next f g → i < length forms → under forms2 g i ≡ under forms f i
under_kept next forms forms2 f g i fs b l a w =
    ap (inst g) (l.trees i w)
    ∙ under_agrees forms next f g i fs.numbered w (let n = number_below forms [] next b (omega arith) in omega arith) a

module _ (forms after : List TyForm) (bound : List (Option Ty)) (l : IsLonger forms after) (b : AreBindings forms bound) where
  rounds_longer : (i : ℕ) (v : TyVar) → rounds after bound i v ≡ rounds forms bound i v
  rounds_longer zero v = rounds_zero after bound v ∙ sym (rounds_zero forms bound v)
  rounds_longer (suc i) v = go (rounds_longer i)
    where
      go : ((w : TyVar) → rounds after bound i w ≡ rounds forms bound i w) → rounds after bound (suc i) v ≡ rounds forms bound (suc i) v
      go ih =
          bound_cases
          bound
          v.num
          (rounds after bound (suc i) v ≡ rounds forms bound (suc i) v)
          (λ e. rounds_free after bound (suc i) v e ∙ sym (rounds_free forms bound (suc i) v e))
          (λ t e.
          rounds_bound after bound i v t e
          ∙ ap (inst (rounds after bound i)) (l.trees t.0 (b.within v.num t e))
          ∙ inst_same (rounds after bound i) (rounds forms bound i) (tree forms t.0) (λ w o. ih w)
          ∙ sym (rounds_bound forms bound i v t e))

  meant_longer : (v : TyVar) → meant after bound v ≡ meant forms bound v
  unfolding meant
  meant_longer v = rounds_longer (length bound) v

  pub marks_added : (names : List TypeName) (next next2 : ℕ) → length bound ≤ next → AreAdded next forms next2 after → Respects names forms (meant forms bound) → Respects names after (meant after bound)
  marks_added names next next2 short a r i v e m = go (ltb v.num next) refl
    where
      go : (c : Bool) → ltb v.num next ≡ c → admits names (meant after bound v) ≡ true
      go true q =
          let w : v.num < next = grind (arith, nat_tests) in
          let x = a.known i v e w in ap (admits names) (meant_longer v) ∙ r x.0 v x.1 m
      go false q =
          let w : next ≤ v.num = grind (arith, nat_tests) in
          let free : bound_at bound v.num ≡ None = bound_cases bound v.num (bound_at bound v.num ≡ None) (λ k. k) (λ t k. let z = bound_within bound v.num t k in absurd (omega arith)) in
          ap (admits names) (meant_free after bound v free) ∙ m

  -- a solution before, and one after that agrees with it
  pub solves_added : (next next2 : ℕ) (f g : Substitution) → AreForms forms → AreBelow forms next → length bound ≤ next → AreAdded next forms next2 after → Agrees next f g → Solves forms bound f → Solves after bound g
  solves_added next next2 f g fs below short a agree h i v t e q =
      let w = bound_within bound v.num t q in
      let low : v.num < next = omega arith in
      let x = a.known i v e low in
      agree v low
      ∙ h x.0 v t x.1 q
      ∙ sym (under_kept next forms after f g t.0 fs below l agree (b.within v.num t q))

  pub solves_back : (f : Substitution) → Solves after bound f → Solves forms bound f
  solves_back f h i v t e q = h i v t (l.keeps i (Var v) e) q ∙ ap (inst f) (l.trees t.0 (b.within v.num t q))
