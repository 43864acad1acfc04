-- The error that is named is the same before a variable was marked.
use Rattle.std.proofs.Common.{◌≡◌, ℕ, true, false, List, [], ◌∷◌, Option, Some, None, refl, sym, ap, ◌∙◌, arith}
use Rattle.std.specs.Prelude.{slice_get, ◌||◌}
use Rattle.std.proofs.lemmas.Bool.{eqb-true, eq-eqb}
use Rattle.std.proofs.lemmas.Option.{slice_get-get_or}
use Rattle.sml_types.specs.declared.types.Ty.{Ty}
use Rattle.sml_types.specs.declared.types.TyVar.{TyVar}
use Rattle.sml_types.specs.declared.types.TyForm.{TyForm}
use Rattle.sml_types.specs.declared.types.TyForm.TheVariants.{Var, Fields, Arrow, Named}
use Rattle.sml_types.specs.declared.tables.TypeName.{TypeName}
use Rattle.sml_types.specs.Tree.{Tree, Variable, App, NoParts, Part, inst, occurs, AllVars}
use Rattle.sml_types.specs.Forms.{tree, listed, parts_of, head_of}
use Rattle.sml_unify.specs.declared.pair.Pair.{Pair}
use Rattle.sml_unify.specs.declared.error.UnifyError.{UnifyError}
use Rattle.sml_unify.specs.Solved.{Substitution, Solves, Respects, IsSolved, IsEqualPair, Agrees, next_number, meant, under}
use Rattle.sml_unify.specs.Simplified.{IsBinding}
use Rattle.sml_unify.specs.Steps.{IsExtension, IsRefuted}
use Rattle.sml_unify.specs.Named.{Fails, on, into, clash, cycle, cycle_right, no_equality, no_equality_right}
use Rattle.sml_unify.proofs.FailsFacts.{app_no_var}
use Rattle.sml_unify.proofs.Heads.{free_here}
use Rattle.sml_unify.proofs.Numbers.{under_agrees}
use Rattle.sml_unify.proofs.Walks.{at_var, at_app}

pub clear_vars : (f : Substitution) (x : ℕ) (t : Tree) → AllVars (λ w. occurs x (f w) ≡ false) t → occurs x (inst f t) ≡ false
clear_vars f x (Variable w) h = h
clear_vars f x (App c ts) h = clear_vars f x ts h
clear_vars f x NoParts h = refl
clear_vars f x (Part t ts) h = ap (λ b. b || occurs x (inst f ts)) (clear_vars f x t h.0) ∙ clear_vars f x ts h.1

module _ (forms : List TyForm) (bound : List (Option Ty)) (s : IsSolved forms bound) (p : Pair) (k : IsBinding forms bound p) where
  pub left_var : under forms (meant forms bound) p.left.0 ≡ Variable k.var
  left_var = at_var forms bound s p.left.0 k.var k.here (free_here forms bound p.left.0 k.var k.here k.unbound)

  pub right_no_var : under forms (meant forms bound) p.right.0 ≡ Variable k.var → ⊥
  right_no_var e = go (slice_get forms p.right.0) refl
    where
      app : (form : TyForm) → slice_get forms p.right.0 ≡ Some form → ((v : TyVar) → form ≡ Var v → ⊥) → ⊥
      app form q n = let w : App (head_of form) (inst (meant forms bound) (listed (tree forms) (parts_of form))) ≡ Variable k.var = sym (at_app forms bound s (meant forms bound) p.right.0 form q n) ∙ e in cc

      go : (form : Option TyForm) → slice_get forms p.right.0 ≡ form → ⊥
      go None q = let d : TyForm = Arrow (record { 0 = 0 }) (record { 0 = 0 }) in let z = slice_get-get_or forms p.right.0 d k.within.1 in cc
      go (Some (Var w)) q =
          let same : Variable w ≡ Variable k.var = sym (at_var forms bound s p.right.0 w q k.free) ∙ e in
          let one : w ≡ k.var = cc in
          k.other w q (sym (ap (λ (u : TyVar). u.num) one))
      go (Some (Fields fields)) q = app (Fields fields) q (λ v n. cc)
      go (Some (Arrow x y)) q = app (Arrow x y) q (λ v n. cc)
      go (Some (Named n args)) q = app (Named n args) q (λ v m. cc)

  module _ (names : List TypeName) (forms2 : List TyForm) (bound2 : List (Option Ty)) (x : IsExtension names forms bound (p ∷ []) forms2 bound2) (o1 : occurs k.var.num (under forms (meant forms bound) p.right.0) ≡ false) (left2 : under forms2 (meant forms2 bound2) p.left.0 ≡ Variable k.var) (o2 : occurs k.var.num (under forms2 (meant forms2 bound2) p.right.0) ≡ false) where
    there : (g : Substitution) → IsEqualPair forms g p → IsEqualPair forms2 g p
    there g e = ap (inst g) (x.longer.trees p.left.0 k.within.0) ∙ e ∙ sym (ap (inst g) (x.longer.trees p.right.0 k.within.1))

    back : (g : Substitution) → IsEqualPair forms2 g p → IsEqualPair forms g p
    back g e = sym (ap (inst g) (x.longer.trees p.left.0 k.within.0)) ∙ e ∙ ap (inst g) (x.longer.trees p.right.0 k.within.1)

    carried : (f : Substitution) → Respects names forms f → Solves forms bound f → IsEqualPair forms f p → (g : Substitution) × Agrees (next_number forms bound) f g × Respects names forms2 g × Solves forms2 bound2 g × IsEqualPair forms2 g p
    carried f r h e =
        let g = x.general f r h (e, tt) in
        let l = under_agrees forms (next_number forms bound) f g.0 p.left.0 s.numbered k.within.0 (omega arith) g.1 in
        let m = under_agrees forms (next_number forms bound) f g.0 p.right.0 s.numbered k.within.1 (omega arith) g.1 in
        (g.0, g.1, g.2, g.3, there g.0 (l ∙ e ∙ sym m))

    refuted : IsRefuted names forms2 bound2 (p ∷ []) → IsRefuted names forms bound (p ∷ [])
    refuted d f r h e = let g = carried f r h e.0 in d g.0 g.2 g.3 (g.4, tt)

    joined : (forms3 : List TyForm) (bound3 : List (Option Ty)) → IsExtension names forms2 bound2 (p ∷ []) forms3 bound3 → IsExtension names forms bound (p ∷ []) forms3 bound3
    joined forms3 bound3 y =
        record {
          solved = y.solved;
          longer =
              record {
                count = let a = x.longer.count in let b = y.longer.count in omega arith;
                keeps = λ i f q. y.longer.keeps i f (x.longer.keeps i f q);
                trees = λ i l. y.longer.trees i (let a = x.longer.count in omega arith) ∙ x.longer.trees i l;
              };
          number = let a = x.number in let b = y.number in omega arith;
          marks = λ r. y.marks (x.marks r);
          sound = λ f h. x.sound f (y.sound f h);
          general = λ f r h e.
              let g = carried f r h e.0 in
              let u = y.general g.0 g.2 g.3 (g.4, tt) in
              (u.0, (λ v l. u.1 v (let n = x.number in omega arith) ∙ g.1 v l), u.2, u.3);
        }

    pub mark_fails : (rest : List Pair) (e : UnifyError) → Fails names forms2 bound2 (p ∷ rest) e → Fails names forms bound (p ∷ rest) e
    mark_fails rest e (on {forms2 = forms3} {bound2 = bound3} y z w) = on (joined forms3 bound3 y) (λ f h. back f (z f h)) w
    mark_fails rest e (into a b q r h n w) = absurd (app_no_var forms2 bound2 p.left.0 a k.var x.solved q left2)
    mark_fails rest e (clash a b q r d) = absurd (app_no_var forms2 bound2 p.left.0 a k.var x.solved q left2)
    mark_fails rest e (cycle v q o n) =
        let same : Variable k.var ≡ Variable v = sym left2 ∙ q in
        let one : k.var ≡ v = cc in
        let w : true ≡ false = sym o ∙ sym (ap (λ (u : TyVar). occurs u.num (under forms2 (meant forms2 bound2) p.right.0)) one) ∙ o2 in
        cc
    mark_fails rest e (cycle_right v q o n) =
        let num : v.num ≡ k.var.num = eqb-true v.num k.var.num (sym (ap (occurs v.num) left2) ∙ o) in
        let w : true ≡ false = sym (eq-eqb k.var.num v.num (sym num)) ∙ sym (ap (occurs k.var.num) q) ∙ o2 in
        cc
    mark_fails rest e (no_equality v q o d) = no_equality k.var left_var o1 (refuted d)
    mark_fails rest e (no_equality_right v q o d) = no_equality k.var left_var o1 (refuted d)
