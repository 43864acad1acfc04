-- Forms that are pushed, and new variables one after another.
use Rattle.std.proofs.Common.{◌≡◌, ℕ, zero, suc, ◌+◌, ◌<◌, ◌≤◌, List, [], ◌∷◌, ◌++◌, length, Some, refl, sym, ap, ◌∙◌, arith, subst, map, take, Result, Ok, Err, IfOk, length-append, get_or}
use Rattle.std.specs.Prelude.{slice_get}
use Rattle.std.proofs.Math.Seq.{take-suc}
use Rattle.smlc_base.specs.declared.memory.NoMemory.{NoMemory}
use Rattle.sml_types.specs.declared.types.Ty.{Ty}
use Rattle.sml_types.specs.declared.types.TyVar.{TyVar}
use Rattle.sml_types.specs.declared.types.TyForm.{TyForm}
use Rattle.sml_types.specs.declared.types.TyForm.TheVariants.{Var}
use Rattle.sml_types.specs.Tree.{Tree, Variable}
use Rattle.sml_types.specs.Forms.{tree, form_tree, AreForms}
use Rattle.sml_types.proofs.FormFacts.{tree_form}
use Rattle.sml_unify.specs.Steps.{IsLonger, AreBelow}
use Rattle.sml_unify.proofs.Extends.{more_cases}
use Rattle.infer_parts.specs.Copies.{AreOldVars}
use Rattle.infer_parts.proofs.CopySteps.{longer_by_one}
use Rattle.infer_parts.proofs.InstanceSteps.{last_there, new_var as new_tree}
use Rattle.infer_nodes.specs.Posed.{StandsFor, AreAdded}
use Rattle.infer_nodes.specs.Made.{IsFixed, new_var, AreNew}

pub fixed_pushed : (old new : List TyForm) (form : TyForm) (u : Tree) (r : Result Ty NoMemory) → IfOk r (λ t. (t.0 < length new) × (tree new t.0 ≡ form_tree (tree old) form)) → IsLonger old new → AreOldVars old new → form_tree (tree old) form ≡ u → IfOk r (λ t. IsFixed u old new t)
fixed_pushed old new form u (Ok t) h l v e = record { there = h.0; is = h.1 ∙ e; longer = l; vars = v }
fixed_pushed old new form u (Err e) h l v q = tt

pub stands_at : (forms : List TyForm) (t : Ty) (v : TyVar) → AreForms forms → slice_get forms t.0 ≡ Some (Var v) → StandsFor forms t v
stands_at forms t v fs e = record { there = within forms t.0 (Var v) e; here = e; is = tree_form forms t.0 (Var v) fs.numbered e }
  where
    within : (xs : List TyForm) (i : ℕ) (x : TyForm) → slice_get xs i ≡ Some x → i < length xs
    within [] i x e = cc
    within (y ∷ xs) zero x e = omega arith
    within (y ∷ xs) (suc i) x e = let w = within xs i x e in omega arith

pub stands_longer : (forms after : List TyForm) (t : Ty) (v : TyVar) → IsLonger forms after → StandsFor forms t v → StandsFor after t v
stands_longer forms after t v l s =
    record { there = (let a = l.count in let b = s.there in omega arith); here = l.keeps t.0 (Var v) s.here; is = l.trees t.0 s.there ∙ s.is }

pub new_stands : (old new : List TyForm) (z : TyVar) (t : Ty) → t.0 ≡ length old → new ≡ old ++ Var z ∷ [] → StandsFor new t z
new_stands old new z t e q =
    subst
    (λ (forms : List TyForm). StandsFor forms t z)
    (sym q)
    (record { there = omega (arith, e, length-append old (Var z ∷ [])); here = last_there old (Var z) t.0 e; is = new_tree old z t e })

pub new_added : (old new : List TyForm) (z : TyVar) (next : ℕ) → z.num ≡ next → AreBelow old next → new ≡ old ++ Var z ∷ [] → AreAdded next old (next + 1) new
new_added old new z next e b q =
    subst
    (λ (forms : List TyForm). AreAdded next old (next + 1) forms)
    (sym q)
    (record {
      longer = longer_by_one old (Var z);
      raised = omega arith;
      below = λ i v w. more_cases old (Var z) i (Var v) (v.num < next + 1) w (λ o. let k = b i v o in omega arith) (λ n m. let same : z ≡ v = cc in let k = ap (λ (u : TyVar). u.num) same in omega arith);
      known = λ i v w low. more_cases old (Var z) i (Var v) ((j : ℕ) × (slice_get old j ≡ Some (Var v))) w (λ o. (i, o)) (λ n m. let same : z ≡ v = cc in let k = ap (λ (u : TyVar). u.num) same in absurd (omega arith));
    })

new_longer : (next : ℕ) (vs : List TyVar) (forms after : List TyForm) (ts : List Ty) → IsLonger forms after → AreNew next vs forms ts → AreNew next vs after ts
new_longer next [] forms after [] l n = tt
new_longer next [] forms after (t ∷ ts) l n = absurd n
new_longer next (v ∷ vs) forms after [] l n = absurd n
new_longer next (v ∷ vs) forms after (t ∷ ts) l n = (stands_longer forms after t (new_var next v) l n.0, new_longer (suc next) vs forms after ts l n.1)

new_last : (first next : ℕ) (vs : List TyVar) (v : TyVar) (forms : List TyForm) (ts : List Ty) (t : Ty) → next ≡ first + length vs → AreNew first vs forms ts → StandsFor forms t (new_var next v) → AreNew first (vs ++ v ∷ []) forms (ts ++ t ∷ [])
new_last first next [] v forms [] t e n s =
    let same : next ≡ first = omega arith in (subst (λ k. StandsFor forms t (new_var k v)) same s, tt)
new_last first next [] v forms (u ∷ ts) t e n s = absurd n
new_last first next (w ∷ vs) v forms [] t e n s = absurd n
new_last first next (w ∷ vs) v forms (u ∷ ts) t e n s = (n.0, new_last (suc first) next vs v forms ts t (omega arith) n.1 s)

pub new_more : (first next : ℕ) (vs : List TyVar) (i : ℕ) (d : TyVar) (forms after : List TyForm) (ts : List Ty) (t : Ty) → i < length vs → next ≡ first + i → IsLonger forms after → AreNew first (take i vs) forms ts → StandsFor after t (new_var next (get_or vs i d)) → AreNew first (take (i + 1) vs) after (ts ++ t ∷ [])
new_more first next vs i d forms after ts t lt e l n s =
    let one : i + 1 ≡ suc i = omega arith in
    let taken : take (i + 1) vs ≡ take i vs ++ get_or vs i d ∷ [] = ap (λ k. take k vs) one ∙ take-suc vs i d lt in
    subst
    (λ (ws : List TyVar). AreNew first ws after (ts ++ t ∷ []))
    (sym taken)
    (new_last first next (take i vs) (get_or vs i d) after ts t (e ∙ ap (λ k. first + k) (sym (taken_count vs i lt))) (new_longer first (take i vs) forms after ts l n) s)
  where
    taken_count : (xs : List TyVar) (k : ℕ) → k < length xs → length (take k xs) ≡ k
    taken_count [] k w = absurd (omega arith)
    taken_count (x ∷ xs) zero w = refl
    taken_count (x ∷ xs) (suc k) w = ap suc (taken_count xs k (omega arith))

pub new_count : (next : ℕ) (vs : List TyVar) (forms : List TyForm) (ts : List Ty) → AreNew next vs forms ts → length ts ≡ length vs
new_count next [] forms [] n = refl
new_count next [] forms (t ∷ ts) n = absurd n
new_count next (v ∷ vs) forms [] n = absurd n
new_count next (v ∷ vs) forms (t ∷ ts) n = ap suc (new_count (suc next) vs forms ts n.1)
