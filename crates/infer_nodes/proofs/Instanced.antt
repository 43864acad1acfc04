-- A copy with new variables is each copy of the scheme, and no other type.
use Rattle.std.proofs.Common.{◌≡◌, ℕ, zero, suc, ◌<◌, ◌≤◌, Bool, true, false, List, [], ◌∷◌, length, Option, Some, None, refl, sym, ap, ◌∙◌, arith, subst, cond, nat_eq, inl, inr}
use Rattle.std.specs.Prelude.{slice_get, ltb, not, ◌&&◌, ◌||◌, ◌⊎◌}
use Rattle.std.specs.List.{AllByRecursion, find}
use Rattle.std.proofs.lemmas.Bool.{eqb-true, eq-eqb}
use Rattle.std.proofs.lemmas.Bool.Decides.{nat_tests}
use Rattle.sml_types.specs.declared.types.Ty.{Ty}
use Rattle.sml_types.specs.declared.types.TyVar.{TyVar}
use Rattle.sml_types.specs.declared.types.TyForm.{TyForm}
use Rattle.sml_types.specs.declared.types.TyForm.TheVariants.{Var}
use Rattle.sml_types.specs.declared.tables.TypeName.{TypeName}
use Rattle.sml_types.specs.Tree.{Tree, Variable, App, NoParts, Part, inst, admits, AllVars}
use Rattle.sml_types.specs.Forms.{tree}
use Rattle.sml_types.specs.Poly.{poly, has_num, IsInstance}
use Rattle.sml_types.specs.Typing.{IsAmong}
use Rattle.sml_types.proofs.TreeFacts.{inst_inst}
use Rattle.sml_unify.specs.Solved.{Substitution, Respects, Agrees, under}
use Rattle.sml_unify.specs.Steps.{IsLonger}
use Rattle.sml_unify.specs.Variables.{AreOnce}
use Rattle.infer_parts.specs.Copies.{given_types, given_tree, AreOldVars}
use Rattle.infer_parts.specs.Written.{paired}
use Rattle.infer_state.specs.Rules.{IsCopy}
use Rattle.infer_nodes.specs.Posed.{StandsFor, AreAdded, IsMade}
use Rattle.infer_nodes.specs.Made.{new_var, AreNew}
use Rattle.infer_nodes.proofs.Added.{added_old, added_both}

-- ---- Variables of a type

pub inst_under : (P : TyVar → Type 0) (f g : Substitution) (t : Tree) → ((v : TyVar) → P v → f v ≡ g v) → AllVars P t → inst f t ≡ inst g t
inst_under P f g (Variable v) h a = h v a
inst_under P f g (App c ts) h a = ap (App c) (inst_under P f g ts h a)
inst_under P f g NoParts h a = refl
inst_under P f g (Part t ts) h a = let l = inst_under P f g t h a.0 in let r = inst_under P f g ts h a.1 in cc

pub both_vars : (P Q R : TyVar → Type 0) (t : Tree) → ((v : TyVar) → P v → Q v → R v) → AllVars P t → AllVars Q t → AllVars R t
both_vars P Q R (Variable v) h a b = h v a b
both_vars P Q R (App c ts) h a b = both_vars P Q R ts h a b
both_vars P Q R NoParts h a b = tt
both_vars P Q R (Part t ts) h a b = (both_vars P Q R t h a.0 b.0, both_vars P Q R ts h a.1 b.1)

-- ---- Types for new variables

unfoldable new_at : ℕ → List TyVar → (TyVar → Tree) → TyVar → Tree
new_at next [] at v = NoParts
new_at next (w ∷ ws) at v = cond (nat_eq v.num next) (at w) (new_at (suc next) ws at v)

-- a marked variable stands for nothing that admits no equality
unfoldable safe : List TypeName → TyVar → Tree → Tree
safe names v t = cond (v.eq && not (admits names t)) NoParts t

unfoldable over : List TypeName → ℕ → Substitution → List TyVar → (TyVar → Tree) → Substitution
over names next f vs at v = cond (ltb v.num next) (f v) (safe names v (new_at next vs at v))

safe_admits : (names : List TypeName) (v : TyVar) (t : Tree) → v.eq ≡ true → admits names (safe names v t) ≡ true
unfolding safe
safe_admits names v t e = go (admits names t) refl
  where
    go : (b : Bool) → admits names t ≡ b → admits names (cond (v.eq && not (admits names t)) NoParts t) ≡ true
    go true q = ap (λ (c : Bool). admits names (cond (v.eq && not c) NoParts t)) q ∙ (ap (λ (c : Bool). admits names (cond (c && false) NoParts t)) e ∙ q)
    go false q = ap (λ (c : Bool). admits names (cond (v.eq && not c) NoParts t)) q ∙ ap (λ (c : Bool). admits names (cond (c && true) NoParts t)) e

safe_same : (names : List TypeName) (v : TyVar) (t : Tree) → (v.eq ≡ true → admits names t ≡ true) → safe names v t ≡ t
unfolding safe
safe_same names v t h = go v.eq refl
  where
    go : (b : Bool) → v.eq ≡ b → cond (v.eq && not (admits names t)) NoParts t ≡ t
    go true q = ap (λ (c : Bool). cond (v.eq && not c) NoParts t) (h q) ∙ ap (λ (c : Bool). cond (c && false) NoParts t) q
    go false q = ap (λ (c : Bool). cond (c && not (admits names t)) NoParts t) q

over_low : (names : List TypeName) (next : ℕ) (f : Substitution) (vs : List TyVar) (at : TyVar → Tree) (v : TyVar) → v.num < next → over names next f vs at v ≡ f v
unfolding over
over_low names next f vs at v l =
    let q : ltb v.num next ≡ true = grind (arith, nat_tests) in
    ap (λ (c : Bool). cond c (f v) (safe names v (new_at next vs at v))) q

over_high : (names : List TypeName) (next : ℕ) (f : Substitution) (vs : List TyVar) (at : TyVar → Tree) (v : TyVar) → next ≤ v.num → over names next f vs at v ≡ safe names v (new_at next vs at v)
unfolding over
over_high names next f vs at v l =
    let q : ltb v.num next ≡ false = grind (arith, nat_tests) in
    ap (λ (c : Bool). cond c (f v) (safe names v (new_at next vs at v))) q

over_respects : (names : List TypeName) (next next2 : ℕ) (forms forms2 : List TyForm) (f : Substitution) (vs : List TyVar) (at : TyVar → Tree) → AreAdded next forms next2 forms2 → Respects names forms f → Respects names forms2 (over names next f vs at)
over_respects names next next2 forms forms2 f vs at a r i v e m = go (ltb v.num next) refl
  where
    go : (b : Bool) → ltb v.num next ≡ b → admits names (over names next f vs at v) ≡ true
    go true q =
        let l : v.num < next = grind (arith, nat_tests) in
        let x = a.known i v e l in ap (admits names) (over_low names next f vs at v l) ∙ r x.0 v x.1 m
    go false q =
        let l : next ≤ v.num = grind (arith, nat_tests) in
        ap (admits names) (over_high names next f vs at v l) ∙ safe_admits names v (new_at next vs at v) m

-- ---- What is given for a variable

pub eq_sym : (a b : ℕ) (w : Bool) → nat_eq a b ≡ w → nat_eq b a ≡ w
eq_sym a b true e = eq-eqb b a (sym (eqb-true a b e))
eq_sym a b false e = go (nat_eq b a) refl
  where
    go : (c : Bool) → nat_eq b a ≡ c → nat_eq b a ≡ false
    go true q = let k = eq-eqb a b (sym (eqb-true b a q)) in cc
    go false q = q

pub among_has : (v : TyVar) (vs : List TyVar) → IsAmong v vs → has_num vs v.num ≡ true
among_has v [] h = absurd h
among_has v (w ∷ vs) (inl e) = ap (λ (b : Bool). b || has_num vs v.num) (eq-eqb v.num w.num (ap (λ (u : TyVar). u.num) e))
among_has v (w ∷ vs) (inr h) = right (nat_eq v.num w.num) (among_has v vs h)
  where
    right : (b : Bool) → has_num vs v.num ≡ true → (b || has_num vs v.num) ≡ true
    right true k = refl
    right false k = k

record Found (next : ℕ) (vs : List TyVar) (forms : List TyForm) (ts : List Ty) (v : TyVar) : Type 0 where
  z : TyVar
  is : given_types forms (paired vs ts) v ≡ Variable z
  same : z.eq ≡ v.eq
  high : next ≤ z.num
  here : (i : ℕ) × (slice_get forms i ≡ Some (Var z))
  types : (at : TyVar → Tree) → new_at next vs at z ≡ at v

new_found : (next : ℕ) (vs : List TyVar) (forms : List TyForm) (ts : List Ty) (v : TyVar) → AreNew next vs forms ts → AreOnce vs → IsAmong v vs → Found next vs forms ts v
unfolding new_at
new_found next [] forms ts v n once h = absurd h
new_found next (w ∷ vs) forms [] v n once h = absurd n
new_found next (w ∷ vs) forms (t ∷ ts) v n once (inl e) =
    let num = ap (λ (u : TyVar). u.num) e in
    let test : nat_eq w.num v.num ≡ true = eq-eqb w.num v.num (sym num) in
    record {
      z = new_var next w;
      is = ap (λ (b : Bool). given_tree forms v (cond b (Some (record { num = w.num; ty = t })) (find (λ g. nat_eq g.num v.num) (paired vs ts)))) test ∙ n.0.is;
      same = ap (λ (u : TyVar). u.eq) (sym e);
      high = omega arith;
      here = (t.0, n.0.here);
      types = λ at. ap (λ (b : Bool). cond b (at w) (new_at (suc next) vs at (new_var next w))) (eq-eqb next next refl) ∙ ap at (sym e);
    }
new_found next (w ∷ vs) forms (t ∷ ts) v n once (inr h) =
    let later = new_found (suc next) vs forms ts v n.1 once.1 h in
    let apart : nat_eq w.num v.num ≡ false = other (nat_eq w.num v.num) refl in
    let z : TyVar = later.z in
    let high = later.high in
    let beyond : nat_eq z.num next ≡ false = grind (arith, nat_tests) in
    record {
      z = later.z;
      is = ap (λ (b : Bool). given_tree forms v (cond b (Some (record { num = w.num; ty = t })) (find (λ g. nat_eq g.num v.num) (paired vs ts)))) apart ∙ later.is;
      same = later.same;
      high = omega arith;
      here = later.here;
      types = λ at. ap (λ (b : Bool). cond b (at w) (new_at (suc next) vs at later.z)) beyond ∙ later.types at;
    }
  where
    other : (b : Bool) → nat_eq w.num v.num ≡ b → nat_eq w.num v.num ≡ false
    other true q = let k = among_has v vs h in let m = eqb-true w.num v.num q in let o = ap (has_num vs) m ∙ k in let p = once.0 in cc
    other false q = q

new_other : (next : ℕ) (vs : List TyVar) (forms : List TyForm) (ts : List Ty) (v : TyVar) → AreNew next vs forms ts → has_num vs v.num ≡ false → given_types forms (paired vs ts) v ≡ Variable v
new_other next [] forms ts v n e = refl
new_other next (w ∷ vs) forms [] v n e = absurd n
new_other next (w ∷ vs) forms (t ∷ ts) v n e = go (nat_eq v.num w.num) refl (λ r. new_other (suc next) vs forms ts v n.1 r)
  where
    go : (b : Bool) → nat_eq v.num w.num ≡ b → (has_num vs v.num ≡ false → given_types forms (paired vs ts) v ≡ Variable v) → given_types forms (paired (w ∷ vs) (t ∷ ts)) v ≡ Variable v
    go true q later = let k = ap (λ (b : Bool). b || has_num vs v.num) q in cc
    go false q later =
        let k = ap (λ (b : Bool). b || has_num vs v.num) q in
        let rest : has_num vs v.num ≡ false = sym k ∙ e in
        ap (λ (b : Bool). given_tree forms v (cond b (Some (record { num = w.num; ty = t })) (find (λ g. nat_eq g.num v.num) (paired vs ts)))) (eq_sym v.num w.num false q)
        ∙ later rest

-- ---- The law

-- what a variable of the body may be
pub record IsKnownVar (next : ℕ) (vs : List TyVar) (v : TyVar) : Type 0 where
  pub marked : has_num vs v.num ≡ true → IsAmong v vs
  pub low : has_num vs v.num ≡ false → v.num < next

module _ (names : List TypeName) (next next1 : ℕ) (forms forms1 forms2 : List TyForm) (vs : List TyVar) (ts : List Ty) (t : Ty) (body : Tree) (a : AreAdded next forms next1 forms1) (new : AreNew next vs forms1 ts) (once : AreOnce vs) (vars : AllVars (IsKnownVar next vs) body) (l : IsLonger forms1 forms2) (o : AreOldVars forms1 forms2) (there : t.0 < length forms2) (is : tree forms2 t.0 ≡ inst (given_types forms1 (paired vs ts)) body) where
  put : Substitution
  put = given_types forms1 (paired vs ts)

  at_of : Substitution → TyVar → Tree
  at_of f v = safe names v (inst f (put v))

  copied : (f : Substitution) → Respects names forms2 f → (v : TyVar) → IsKnownVar next vs v → inst f (put v) ≡ cond (has_num vs v.num) (at_of f v) (f v)
  unfolding put at_of
  copied f r v k = go (has_num vs v.num) refl
    where
      go : (b : Bool) → has_num vs v.num ≡ b → inst f (put v) ≡ cond (has_num vs v.num) (at_of f v) (f v)
      go true q =
          let z = new_found next vs forms1 ts v new once (k.marked q) in
          sym (safe_same names v (inst f (put v)) (λ m. ap (λ u. admits names (inst f u)) z.is ∙ r z.here.0 z.z (l.keeps z.here.0 (Var z.z) z.here.1) (z.same ∙ m)))
          ∙ sym (ap (λ (c : Bool). cond c (at_of f v) (f v)) q)
      go false q = ap (inst f) (new_other next vs forms1 ts v new q) ∙ sym (ap (λ (c : Bool). cond c (at_of f v) (f v)) q)

  chosen : (f : Substitution) (at : TyVar → Tree) → ((v : TyVar) → has_num vs v.num ≡ true → v.eq ≡ true → admits names (at v) ≡ true) → (v : TyVar) → IsKnownVar next vs v → inst (over names next f vs at) (put v) ≡ cond (has_num vs v.num) (at v) (f v)
  unfolding put
  chosen f at m v k = go (has_num vs v.num) refl
    where
      go : (b : Bool) → has_num vs v.num ≡ b → inst (over names next f vs at) (put v) ≡ cond (has_num vs v.num) (at v) (f v)
      go true q =
          let z = new_found next vs forms1 ts v new once (k.marked q) in
          ap (inst (over names next f vs at)) z.is
          ∙ over_high names next f vs at z.z z.high
          ∙ ap (safe names z.z) (z.types at)
          ∙ safe_same names z.z (at v) (λ e. m v q (sym z.same ∙ e))
          ∙ sym (ap (λ (c : Bool). cond c (at v) (f v)) q)
      go false q =
          ap (inst (over names next f vs at)) (new_other next vs forms1 ts v new q)
          ∙ over_low names next f vs at v (k.low q)
          ∙ sym (ap (λ (c : Bool). cond c (at v) (f v)) q)

  pub instanced : IsMade names (λ f u. IsCopy names f (poly vs body) u) next forms next1 forms2 t
  unfolding put at_of
  instanced =
      let added = added_both next next1 next1 forms forms1 forms2 a (added_old next1 forms1 forms2 a.below l o) in
      record {
        added = added;
        there = there;
        gets = λ f r.
            record {
              at = at_of f;
              marks = λ v h m. safe_admits names v (inst f (put v)) m;
              is = ap (inst f) is ∙ inst_inst f put body ∙ inst_under (IsKnownVar next vs) (λ v. inst f (put v)) (λ v. cond (has_num vs v.num) (at_of f v) (f v)) body (copied f r) vars;
            };
        general = λ f r u c.
            let g : Substitution = over names next f vs c.at in (
              g,
              (λ v low. over_low names next f vs c.at v low),
              over_respects names next next1 forms forms2 f vs c.at added r,
              ap (inst g) is
                  ∙ inst_inst g put body
                  ∙ inst_under (IsKnownVar next vs) (λ v. inst g (put v)) (λ v. cond (has_num vs v.num) (c.at v) (f v)) body (chosen f c.at c.marks) vars
                  ∙ sym c.is,
            );
      }

-- ---- A scheme that leaves nothing open

pub copy_instance : (names : List TypeName) (f : Substitution) (vs : List TyVar) (body u : Tree) → AllVars (λ v. has_num vs v.num ≡ true) body → IsCopy names f (poly vs body) u → IsInstance names (poly vs body) u
copy_instance names f vs body u closed c =
    record {
      at = λ v. cond (has_num vs v.num) (c.at v) (Variable v);
      others = λ v e. ap (λ (b : Bool). cond b (c.at v) (Variable v)) e;
      marks = λ v h m. ap (λ (b : Bool). admits names (cond b (c.at v) (Variable v))) h ∙ c.marks v h m;
      is = c.is ∙ inst_under (λ v. has_num vs v.num ≡ true) (λ v. cond (has_num vs v.num) (c.at v) (f v)) (λ v. cond (has_num vs v.num) (c.at v) (Variable v)) body (λ v e. ap (λ (b : Bool). cond b (c.at v) (f v)) e ∙ sym (ap (λ (b : Bool). cond b (c.at v) (Variable v)) e)) closed;
    }

pub instance_copy : (names : List TypeName) (f : Substitution) (vs : List TyVar) (body u : Tree) → AllVars (λ v. has_num vs v.num ≡ true) body → IsInstance names (poly vs body) u → IsCopy names f (poly vs body) u
instance_copy names f vs body u closed c =
    record {
      at = c.at;
      marks = c.marks;
      is = c.is ∙ inst_under (λ v. has_num vs v.num ≡ true) c.at (λ v. cond (has_num vs v.num) (c.at v) (f v)) body (λ v e. sym (ap (λ (b : Bool). cond b (c.at v) (f v)) e)) closed;
    }
