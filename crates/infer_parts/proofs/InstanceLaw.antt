-- A copy with new variables is an instance of the scheme with the old ones.
use Rattle.std.proofs.Common.{◌≡◌, ℕ, Bool, true, false, cond, List, [], ◌∷◌, Option, Some, refl, sym, ap, ◌∙◌, subst, nat_eq}
use Rattle.std.specs.Prelude.{◌&&◌, ◌||◌, not}
use Rattle.std.specs.List.{find}
use Rattle.std.proofs.lemmas.Bool.{eq-eqb, eqb-true}
use Rattle.sml_types.specs.declared.types.Ty.{Ty}
use Rattle.sml_types.specs.declared.types.TyVar.{TyVar}
use Rattle.sml_types.specs.declared.types.TyForm.{TyForm}
use Rattle.sml_types.specs.declared.tables.TypeName.{TypeName}
use Rattle.sml_types.specs.Tree.{Tree, Variable, App, NoParts, Part, inst, admits, AllVars}
use Rattle.sml_types.specs.Forms.{tree}
use Rattle.sml_types.specs.Poly.{poly, has_num, IsInstance}
use Rattle.sml_types.proofs.TreeFacts.{inst_same, inst_id, inst_inst}
use Rattle.sml_unify.specs.Solved.{Substitution, Respects}
use Rattle.infer_parts.specs.declared.given.Given.{Given}
use Rattle.infer_parts.specs.Copies.{given_types, given_tree}
use Rattle.infer_parts.specs.Instances.{IsNewVar, AreNewVars, IsFreshCopy, mark_of, IsApart, outside, InstancesAlways}
use Rattle.infer_parts.proofs.InstanceSteps.{news_nums, fixed}

-- two substitutions that agree on the variables of a type
inst_on : (f g : Substitution) (t : Tree) → AllVars (λ v. f v ≡ g v) t → inst f t ≡ inst g t
inst_on f g (Variable v) h = h
inst_on f g (App c ts) h = ap (App c) (inst_on f g ts h)
inst_on f g NoParts h = refl
inst_on f g (Part t ts) h = let l = inst_on f g t h.0 in let r = inst_on f g ts h.1 in cc

all_vars : (P Q : TyVar → Type 0) (t : Tree) → ((v : TyVar) → P v → Q v) → AllVars P t → AllVars Q t
all_vars P Q (Variable v) f h = f v h
all_vars P Q (App c ts) f h = all_vars P Q ts f h
all_vars P Q NoParts f h = tt
all_vars P Q (Part t ts) f h = (all_vars P Q t f h.0, all_vars P Q ts f h.1)

-- the new variable of a number
pub record Found (next : ℕ) (eq : Bool) (x : ℕ) (forms : List TyForm) (o : Option Given) : Type 0 where
  pub item : Given
  pub is : o ≡ Some item
  pub new : IsNewVar next eq forms item.ty

first_found : (next : ℕ) (v : TyVar) (vs : List TyVar) (x : ℕ) (forms : List TyForm) (g : Given) (given : List Given) (b : Bool) → nat_eq g.num x ≡ b → g.num ≡ v.num → IsNewVar next v.eq forms g.ty → (has_num vs x ≡ true → Found next (mark_of vs x) x forms (find (λ h. nat_eq h.num x) given)) → has_num (v ∷ vs) x ≡ true → Found next (mark_of (v ∷ vs) x) x forms (cond b (Some g) (find (λ h. nat_eq h.num x) given))
first_found next v vs x forms g given true q e new later h =
    let same : x ≡ v.num = sym (eqb-true g.num x q) ∙ e in
    let marked : mark_of (v ∷ vs) x ≡ v.eq = ap (λ b. cond b v.eq (mark_of vs x)) (eq-eqb x v.num same) in
    subst (λ m. Found next m x forms (Some g)) (sym marked) (record { item = g; is = refl; new = new })
first_found next v vs x forms g given false q e new later h =
    let differ : nat_eq x v.num ≡ false = not_same (nat_eq x v.num) refl in
    let marked : mark_of (v ∷ vs) x ≡ mark_of vs x = ap (λ b. cond b v.eq (mark_of vs x)) differ in
    let rest : has_num vs x ≡ true = ap (λ b. b || has_num vs x) (sym differ) ∙ h in
    subst (λ m. Found next m x forms (find (λ h. nat_eq h.num x) given)) (sym marked) (later rest)
  where
    not_same : (b : Bool) → nat_eq x v.num ≡ b → b ≡ false
    not_same true r = let both : false ≡ true = sym q ∙ eq-eqb g.num x (e ∙ sym (eqb-true x v.num r)) in cc
    not_same false r = refl

found : (next : ℕ) (vs : List TyVar) (x : ℕ) (forms : List TyForm) (given : List Given) → AreNewVars next vs forms given → has_num vs x ≡ true → Found next (mark_of vs x) x forms (find (λ h. nat_eq h.num x) given)
found next [] x forms given n h = cc
found next (v ∷ vs) x forms [] n h = absurd n
found next (v ∷ vs) x forms (g ∷ given) n h = first_found next v vs x forms g given (nat_eq g.num x) refl n.0 n.1 (λ k. found next vs x forms given n.2 k) h

and_false : (b : Bool) → (b && false) ≡ false
and_false true = refl
and_false false = refl

module _ (names : List TypeName) (forms : List TyForm) (next : ℕ) (vs : List TyVar) (given : List Given) (news : AreNewVars next vs forms given) (g : Substitution) (respects : Respects names forms g) where
  -- what stands for a variable in the copy, under the substitution
  abbrev now : TyVar → Tree
  now v = inst g (given_types forms given v)

  -- the types of the instance; a variable that would break its mark stands nowhere, and stays
  abbrev at : TyVar → Tree
  at v = cond (has_num vs v.num) (cond (v.eq && not (admits names (now v))) (Variable v) (now v)) (Variable v)

  other : (v : TyVar) → has_num vs v.num ≡ false → at v ≡ Variable v
  other v h = ap (λ b. cond b (cond (v.eq && not (admits names (now v))) (Variable v) (now v)) (Variable v)) h

  at_own : (v : TyVar) → has_num vs v.num ≡ true → at v ≡ cond (v.eq && not (admits names (now v))) (Variable v) (now v)
  at_own v h = ap (λ b. cond b (cond (v.eq && not (admits names (now v))) (Variable v) (now v)) (Variable v)) h

  kept_mark : (v : TyVar) (u : Tree) (b : Bool) → v.eq ≡ true → admits names u ≡ b → admits names (cond (v.eq && not b) (Variable v) u) ≡ true
  kept_mark v u true e q = ap (λ c. admits names (cond (c && not true) (Variable v) u)) e ∙ q
  kept_mark v u false e q = ap (λ c. admits names (cond (c && not false) (Variable v) u)) e ∙ e

  marked : (v : TyVar) → has_num vs v.num ≡ true → v.eq ≡ true → admits names (at v) ≡ true
  marked v h e = ap (admits names) (at_own v h) ∙ kept_mark v (now v) (admits names (now v)) e refl

  now_found : (v : TyVar) (o : Option Given) → Found next (mark_of vs v.num) v.num forms o → v.eq ≡ mark_of vs v.num → (v.eq && not (admits names (inst g (given_tree forms v o)))) ≡ false
  now_found v o f e = by_mark (mark_of vs v.num) refl
    where
      stands : inst g (given_tree forms v o) ≡ g (record { num = f.new.num; eq = mark_of vs v.num })
      stands = ap (λ u. inst g (given_tree forms v u)) f.is ∙ ap (inst g) f.new.is

      by_mark : (m : Bool) → mark_of vs v.num ≡ m → (v.eq && not (admits names (inst g (given_tree forms v o)))) ≡ false
      by_mark true q =
          let admitted : admits names (inst g (given_tree forms v o)) ≡ true = ap (admits names) stands ∙ respects f.item.ty.0 (record { num = f.new.num; eq = mark_of vs v.num }) f.new.form q in
          ap (λ a. v.eq && not a) admitted ∙ and_false v.eq
      by_mark false q = ap (λ b. b && not (admits names (inst g (given_tree forms v o)))) (e ∙ q)

  now_other : (v : TyVar) → has_num vs v.num ≡ false → now v ≡ g v
  now_other v h = ap (inst g) (fixed forms vs given v (find (λ x. nat_eq x.num v.num) given) (news_nums next vs forms given news) (λ e. let both : false ≡ true = sym h ∙ e in cc) refl)

  by_kind : (v : TyVar) (b : Bool) → has_num vs v.num ≡ b → IsApart vs g v → now v ≡ inst at (outside vs g v)
  by_kind v true h a =
      sym
      (ap (inst at) (ap (λ b. cond b (Variable v) (g v)) h)
      ∙ at_own v h
      ∙ ap (λ b. cond b (Variable v) (now v)) (now_found v (find (λ x. nat_eq x.num v.num) given) (found next vs v.num forms given news h) (a.0 h)))
  by_kind v false h a =
      now_other v h
      ∙ sym (inst_same at Variable (g v) (λ w o. other w (a.1 h w.num o)) ∙ inst_id (g v))
      ∙ sym (ap (inst at) (ap (λ b. cond b (Variable v) (g v)) h))

  is_instance : (body t : Tree) → AllVars (IsApart vs g) body → t ≡ inst (given_types forms given) body → IsInstance names (poly vs (inst (outside vs g) body)) (inst g t)
  is_instance body t a e =
      record {
        at = at;
        others = other;
        marks = marked;
        is =
            ap (inst g) e
            ∙ inst_inst g (given_types forms given) body
            ∙ inst_on now (λ v. inst at (outside vs g v)) body (all_vars (IsApart vs g) (λ v. now v ≡ inst at (outside vs g v)) body (λ v h. by_kind v (has_num vs v.num) refl h) a)
            ∙ sym (inst_inst at (outside vs g) body);
      }

-- the copy is always an instance
pub instances_always : (old : List TyForm) (next : ℕ) (vs : List TyVar) (body : ℕ) (forms : List TyForm) (t : Ty) → IsFreshCopy old next vs body forms t → InstancesAlways vs (tree old body) forms t.0
instances_always old next vs body forms t c names g r a = is_instance names forms next vs c.given c.new g r (tree old body) (tree forms t.0) a c.is
