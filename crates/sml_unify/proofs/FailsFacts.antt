-- How the error that is named goes over from the work after a step to the work before.
use Rattle.std.proofs.Common.{◌≡◌, ℕ, List, [], ◌∷◌, ◌++◌, Option, refl, sym, ap, ◌∙◌, arith, append_assoc}
use Rattle.sml_types.specs.declared.types.Ty.{Ty}
use Rattle.sml_types.specs.declared.types.TyVar.{TyVar}
use Rattle.sml_types.specs.declared.types.TyForm.{TyForm}
use Rattle.sml_types.specs.declared.tables.TypeName.{TypeName}
use Rattle.sml_types.specs.Tree.{Variable, App, inst, occurs}
use Rattle.sml_types.specs.Forms.{tree, listed, parts_of, head_of}
use Rattle.sml_unify.specs.declared.pair.Pair.{Pair}
use Rattle.sml_unify.specs.declared.error.UnifyError.{UnifyError}
use Rattle.sml_unify.specs.Solved.{Substitution, Solves, IsSolved, IsEqualPair, IsSameType, last_first, meant, under}
use Rattle.sml_unify.specs.Steps.{IsExtension}
use Rattle.sml_unify.specs.Named.{first_last, IsApp, Fails, on, into, clash, cycle, cycle_right, no_equality, no_equality_right, turned}
use Rattle.sml_unify.proofs.Meant.{meant_solves}
use Rattle.sml_unify.proofs.Walks.{at_app}

turned_append : (xs ys : List Pair) → turned (xs ++ ys) ≡ turned ys ++ turned xs
turned_append [] ys = sym (append_none (turned ys))
  where
    append_none : (ps : List Pair) → ps ++ [] ≡ ps
    append_none [] = refl
    append_none (x ∷ xs) = ap (λ zs. x ∷ zs) (append_none xs)
turned_append (x ∷ xs) ys = ap (λ zs. zs ++ x ∷ []) (turned_append xs ys) ∙ append_assoc (turned ys) (turned xs) (x ∷ [])

pub turned_last : (rest : List Pair) (p : Pair) → turned (rest ++ p ∷ []) ≡ p ∷ turned rest
turned_last rest p = turned_append rest (p ∷ [])

turned_parts : (xs ys : List ℕ) → turned (last_first xs ys) ≡ first_last xs ys
turned_parts [] ys = refl
turned_parts (x ∷ xs) [] = refl
turned_parts (x ∷ xs) (y ∷ ys) =
    turned_last (last_first xs ys) (record { left = record { 0 = x }; right = record { 0 = y } })
    ∙ ap (λ ps. record { left = record { 0 = x }; right = record { 0 = y } } ∷ ps) (turned_parts xs ys)

pub turned_pushed : (rest : List Pair) (xs ys : List ℕ) → turned (rest ++ last_first xs ys) ≡ first_last xs ys ++ turned rest
turned_pushed rest xs ys = turned_append rest (last_first xs ys) ∙ ap (λ ps. ps ++ turned rest) (turned_parts xs ys)

pub app_no_var : (forms : List TyForm) (bound : List (Option Ty)) (i : ℕ) (a : TyForm) (v : TyVar) → IsSolved forms bound → IsApp forms bound i a → under forms (meant forms bound) i ≡ Variable v → ⊥
app_no_var forms bound i a v s x e =
    let w : App (head_of a) (inst (meant forms bound) (listed (tree forms) (parts_of a))) ≡ Variable v = sym (at_app forms bound s (meant forms bound) x.at a x.here x.head) ∙ sym (x.same (meant forms bound) (meant_solves forms bound s.acyclic)) ∙ e in
    cc

-- an extension for one pair is one for another that the same solutions make equal
pub extends_other : (names : List TypeName) (forms forms2 : List TyForm) (bound bound2 : List (Option Ty)) (p q : Pair) → ((f : Substitution) → Solves forms bound f → IsEqualPair forms f p → IsEqualPair forms f q) → IsExtension names forms bound (q ∷ []) forms2 bound2 → IsExtension names forms bound (p ∷ []) forms2 bound2
extends_other names forms forms2 bound bound2 p q h x =
    record {
      solved = x.solved;
      longer = x.longer;
      number = x.number;
      marks = x.marks;
      sound = x.sound;
      general = λ f r g e. x.general f r g (h f g e.0, tt);
    }

app_other : (forms : List TyForm) (bound : List (Option Ty)) (i j : ℕ) (a : TyForm) → IsSameType forms bound i j → IsApp forms bound j a → IsApp forms bound i a
app_other forms bound i j a h x = record { at = x.at; same = λ f g. h f g ∙ x.same f g; here = x.here; head = x.head }

-- the pair q in place of p, which has the same types
pub replaced : (names : List TypeName) {forms : List TyForm} {bound : List (Option Ty)} (p : Pair) {q : Pair} {ps : List Pair} {e : UnifyError} → IsSolved forms bound → IsSameType forms bound p.left.0 q.left.0 → IsSameType forms bound p.right.0 q.right.0 → Fails names forms bound (q ∷ ps) e → Fails names forms bound (p ∷ ps) e
replaced names {forms} {bound} p {q} s l r (on {forms2 = forms2} {bound2 = bound2} x y z) =
    on (extends_other names forms forms2 bound bound2 p q (λ f g e. sym (l f g) ∙ e ∙ r f g) x) (λ f g. l f (x.sound f g) ∙ y f g ∙ sym (r f (x.sound f g))) z
replaced names {forms} {bound} p {q} s l r (into a b x y h n z) =
    into a b (app_other forms bound p.left.0 q.left.0 a l x) (app_other forms bound p.right.0 q.right.0 b r y) h n z
replaced names {forms} {bound} p {q} s l r (clash a b x y d) =
    clash a b (app_other forms bound p.left.0 q.left.0 a l x) (app_other forms bound p.right.0 q.right.0 b r y) d
replaced names {forms} {bound} p {q} s l r (cycle v x o n) =
    let m = meant_solves forms bound s.acyclic in
    cycle v (l (meant forms bound) m ∙ x) (ap (occurs v.num) (r (meant forms bound) m) ∙ o) (λ w. n (sym (r (meant forms bound) m) ∙ w))
replaced names {forms} {bound} p {q} s l r (cycle_right v x o n) =
    let m = meant_solves forms bound s.acyclic in
    cycle_right v (r (meant forms bound) m ∙ x) (ap (occurs v.num) (l (meant forms bound) m) ∙ o) (λ w. n (sym (l (meant forms bound) m) ∙ w))
replaced names {forms} {bound} p {q} s l r (no_equality v x o d) =
    let m = meant_solves forms bound s.acyclic in
    no_equality v (l (meant forms bound) m ∙ x) (ap (occurs v.num) (r (meant forms bound) m) ∙ o) (λ f k h w. d f k h (sym (l f h) ∙ w.0 ∙ r f h, tt))
replaced names {forms} {bound} p {q} s l r (no_equality_right v x o d) =
    let m = meant_solves forms bound s.acyclic in
    no_equality_right v (r (meant forms bound) m ∙ x) (ap (occurs v.num) (l (meant forms bound) m) ∙ o) (λ f k h w. d f k h (sym (l f h) ∙ w.0 ∙ r f h, tt))

-- the pair q, which begins with a variable, in place of p, which has the same types the other way round
pub swapped : (names : List TypeName) {forms : List TyForm} {bound : List (Option Ty)} (p : Pair) {q : Pair} {ps : List Pair} {e : UnifyError} → IsSolved forms bound → IsSameType forms bound p.right.0 q.left.0 → IsSameType forms bound p.left.0 q.right.0 → (u : TyVar) → under forms (meant forms bound) q.left.0 ≡ Variable u → Fails names forms bound (q ∷ ps) e → Fails names forms bound (p ∷ ps) e
swapped names {forms} {bound} p {q} s l r u w (on {forms2 = forms2} {bound2 = bound2} x y z) =
    on (extends_other names forms forms2 bound bound2 p q (λ f g e. sym (l f g) ∙ sym e ∙ r f g) x) (λ f g. r f (x.sound f g) ∙ sym (y f g) ∙ sym (l f (x.sound f g))) z
swapped names {forms} {bound} p {q} s l r u w (into a b x y h n z) = absurd (app_no_var forms bound q.left.0 a u s x w)
swapped names {forms} {bound} p {q} s l r u w (clash a b x y d) = absurd (app_no_var forms bound q.left.0 a u s x w)
swapped names {forms} {bound} p {q} s l r u w (cycle v x o n) =
    let m = meant_solves forms bound s.acyclic in
    cycle_right v (l (meant forms bound) m ∙ x) (ap (occurs v.num) (r (meant forms bound) m) ∙ o) (λ k. n (sym (r (meant forms bound) m) ∙ k))
swapped names {forms} {bound} p {q} s l r u w (cycle_right v x o n) =
    let m = meant_solves forms bound s.acyclic in
    cycle v (r (meant forms bound) m ∙ x) (ap (occurs v.num) (l (meant forms bound) m) ∙ o) (λ k. n (sym (l (meant forms bound) m) ∙ k))
swapped names {forms} {bound} p {q} s l r u w (no_equality v x o d) =
    let m = meant_solves forms bound s.acyclic in
    no_equality_right v (l (meant forms bound) m ∙ x) (ap (occurs v.num) (r (meant forms bound) m) ∙ o) (λ f k h z. d f k h (sym (l f h) ∙ sym z.0 ∙ r f h, tt))
swapped names {forms} {bound} p {q} s l r u w (no_equality_right v x o d) =
    let m = meant_solves forms bound s.acyclic in
    no_equality v (r (meant forms bound) m ∙ x) (ap (occurs v.num) (l (meant forms bound) m) ∙ o) (λ f k h z. d f k h (sym (l f h) ∙ sym z.0 ∙ r f h, tt))

-- nothing is done
pub stay : (names : List TypeName) (forms : List TyForm) (bound : List (Option Ty)) (pairs : List Pair) → IsSolved forms bound → IsExtension names forms bound pairs forms bound
stay names forms bound pairs s =
    record {
      solved = s;
      longer = record { count = omega arith; keeps = λ i f q. q; trees = λ i l. refl };
      number = omega arith;
      marks = λ k. k;
      sound = λ f h. h;
      general = λ f r h e. (f, (λ v n. refl), r, h);
    }

pub turned_none : (rest : List Pair) → turned (rest ++ []) ≡ turned rest
turned_none rest = ap turned (append_none rest)
  where
    append_none : (ps : List Pair) → ps ++ [] ≡ ps
    append_none [] = refl
    append_none (x ∷ xs) = ap (λ zs. x ∷ zs) (append_none xs)
