-- One binding, and a new variable.
use Rattle.std.proofs.Common.{◌≡◌, ℕ, zero, suc, ◌+◌, ◌<◌, ◌≤◌, Bool, true, false, List, [], ◌∷◌, ◌++◌, length, Option, Some, None, refl, sym, ap, ◌∙◌, subst, arith, length-append}
use Rattle.std.specs.Prelude.{slice_get, nat_eq, cond, max}
use Rattle.std.specs.List.{AllByRecursion}
use Rattle.std.proofs.lemmas.Bool.{eqb-true, eq-eqb}
use Rattle.sml_types.specs.declared.types.Ty.{Ty}
use Rattle.sml_types.specs.declared.types.TyVar.{TyVar}
use Rattle.sml_types.specs.declared.types.TyForm.{TyForm}
use Rattle.sml_types.specs.declared.types.TyForm.TheVariants.{Var, Fields, Arrow, Named}
use Rattle.sml_types.specs.declared.tables.TypeName.{TypeName}
use Rattle.sml_types.specs.Tree.{Variable, inst, occurs, admits}
use Rattle.sml_types.specs.Forms.{tree, parts_of, IsNumbered}
use Rattle.sml_types.proofs.FormFacts.{tree_more, tree_new}
use Rattle.sml_unify.specs.declared.pair.Pair.{Pair}
use Rattle.sml_unify.specs.Solved.{bound_at, Substitution, Solves, Respects, IsSolved, IsEqualPair, IsBoundTo, above, next_number, var_weight, weight, rounds, meant, under}
use Rattle.sml_unify.specs.Simplified.{IsBinding, IsToMark}
use Rattle.sml_unify.specs.Steps.{IsLonger, IsExtensionFrom}
use Rattle.sml_types.proofs.TreeFacts.{inst_same}
use Rattle.sml_unify.proofs.MarksKept.{bind_marks, vars_both, vars_clear, under_open}
use Rattle.sml_unify.proofs.MarkFails.{clear_vars}
use Rattle.sml_unify.proofs.Known.{IsKnown, under_known, under_through}
use Rattle.sml_unify.proofs.Meant.{meant_solves, rounds_zero, rounds_free, rounds_bound, bound_within, bound_cases, meant_free}
use Rattle.sml_unify.proofs.Heads.{tree_var}
use Rattle.sml_unify.proofs.Numbers.{above_at, under_agrees}
use Rattle.sml_unify.proofs.Bindings.{bound_solved, bound_before, bound_after, weight_falls, weight_more}

pub more_keeps : (xs : List TyForm) (y : TyForm) (i : ℕ) (f : TyForm) → slice_get xs i ≡ Some f → slice_get (xs ++ y ∷ []) i ≡ Some f
more_keeps [] y i f q = cc
more_keeps (x ∷ xs) y zero f q = q
more_keeps (x ∷ xs) y (suc i) f q = more_keeps xs y i f q

pub more_last : (xs : List TyForm) (y : TyForm) → slice_get (xs ++ y ∷ []) (length xs) ≡ Some y
more_last [] y = refl
more_last (x ∷ xs) y = more_last xs y

pub more_cases : (xs : List TyForm) (y : TyForm) (i : ℕ) (f : TyForm) (P : Type 0) → slice_get (xs ++ y ∷ []) i ≡ Some f → (slice_get xs i ≡ Some f → P) → (i ≡ length xs → y ≡ f → P) → P
more_cases [] y zero f P q a b = b refl cc
more_cases [] y (suc i) f P q a b = cc
more_cases (x ∷ xs) y zero f P q a b = a q
more_cases (x ∷ xs) y (suc i) f P q a b = more_cases xs y i f P q a (λ n e. b (omega arith) e)

above_more : (forms : List TyForm) (z : TyVar) → above (forms ++ Var z ∷ []) ≡ max (above forms) (suc z.num)
above_more [] z = omega arith
above_more (Var v ∷ forms) z = let k = above_more forms z in omega arith
above_more (Fields fields ∷ forms) z = above_more forms z
above_more (Arrow a b ∷ forms) z = above_more forms z
above_more (Named n args ∷ forms) z = above_more forms z

same_longer : (forms : List TyForm) → IsLonger forms forms
same_longer forms = record { count = omega arith; keeps = λ i f q. q; trees = λ i w. refl }

-- a variable is bound to another type that it does not stand in
module _ (names : List TypeName) (forms : List TyForm) (bound : List (Option Ty)) (s : IsSolved forms bound) (p : Pair) (k : IsBinding forms bound p) (clear : occurs k.var.num (under forms (meant forms bound) p.right.0) ≡ false) (after : List (Option Ty)) (b : IsBoundTo bound k.var.num p.right after) (more : length bound ≤ length after) (marked : k.var.eq ≡ true → admits names (under forms (meant forms bound) p.right.0) ≡ true) where
  pub bind_extends : (next : ℕ) → IsExtensionFrom names next forms bound (p ∷ []) forms after
  bind_extends next =
      record {
        solved = bound_solved forms bound s k.var.num p.right after b k.unbound clear k.within.1;
        longer = same_longer forms;
        number = omega arith;
        marks = bind_marks forms bound s names p.left.0 k.var k.here p.right after b k.unbound clear k.within.1 (bound_solved forms bound s k.var.num p.right after b k.unbound clear k.within.1) marked;
        sound = bound_before forms bound s k.var.num p.right after b k.unbound clear k.within.1;
        general = λ f r h e. (
          f,
          (λ v n. refl),
          r,
          bound_after forms bound s k.var.num p.right after b k.unbound clear k.within.1 f h (λ i v q n.
              let one : v ≡ k.var = s.named i p.left.0 v k.var q k.here n in
              ap f one ∙ sym (ap (inst f) (tree_var forms bound p.left.0 k.var s k.here)) ∙ e.0),
        );
      }

  pub bind_settles : (f : Substitution) → Solves forms after f → IsEqualPair forms f p
  bind_settles f h = ap (inst f) (tree_var forms bound p.left.0 k.var s k.here) ∙ h p.left.0 k.var p.right k.here b.here

  pub bind_falls : weight forms after < weight forms bound
  bind_falls =
      let w = weight_falls forms bound after k.var.num p.right p.left.0 k.var b k.here refl k.unbound in go k.var.eq w
    where
      go : (c : Bool) → weight forms after + var_weight None c ≤ weight forms bound → weight forms after < weight forms bound
      go true w = omega arith
      go false w = omega arith

-- a new marked variable
module _ (forms : List TyForm) (bound : List (Option Ty)) (s : IsSolved forms bound) (z : TyVar) (n : next_number forms bound ≤ z.num) where
  new_unbound : bound_at bound z.num ≡ None
  new_unbound = bound_cases bound z.num (bound_at bound z.num ≡ None) (λ e. e) (λ t e. let w = bound_within bound z.num t e in absurd (omega arith))

  new_other : (i : ℕ) (v : TyVar) → slice_get forms i ≡ Some (Var v) → v.num < z.num
  new_other i v q = let w = above_at forms i v q in omega arith

  pub new_longer : IsLonger forms (forms ++ Var z ∷ [])
  new_longer =
      record { count = omega (arith, length-append forms (Var z ∷ [])); keeps = more_keeps forms (Var z); trees = tree_more forms (Var z) }

  new_numbered : IsNumbered (forms ++ Var z ∷ [])
  new_numbered i f q =
      more_cases forms (Var z) i f (AllByRecursion (λ c. c < i) (parts_of f)) q (λ w. s.numbered i f w) (λ m e. subst (λ (g : TyForm). AllByRecursion (λ c. c < i) (parts_of g)) e tt)

  new_named : (i j : ℕ) (v w : TyVar) → slice_get (forms ++ Var z ∷ []) i ≡ Some (Var v) → slice_get (forms ++ Var z ∷ []) j ≡ Some (Var w) → v.num ≡ w.num → v ≡ w
  new_named i j v w q r e =
      more_cases
      forms
      (Var z)
      i
      (Var v)
      (v ≡ w)
      q
      (λ a. more_cases forms (Var z) j (Var w) (v ≡ w) r (λ d. s.named i j v w a d e) (λ m d. let one : z ≡ w = cc in let x = new_other i v a in let y = ap (λ (u : TyVar). u.num) one in absurd (omega arith)))
      (λ l a.
      let two : z ≡ v = cc in
      more_cases forms (Var z) j (Var w) (v ≡ w) r (λ d. let x = new_other j w d in let y = ap (λ (u : TyVar). u.num) two in absurd (omega arith)) (λ m d. let one : z ≡ w = cc in sym two ∙ one))

  pub new_solved : IsSolved (forms ++ Var z ∷ []) bound
  new_solved =
      record {
        numbered = new_numbered;
        named = new_named;
        within = λ x t e. let w = s.within x t e in omega (arith, length-append forms (Var z ∷ []));
        acyclic = (s.acyclic.0, λ x y t e o. s.acyclic.1 x y t e (sym (ap (occurs y) (tree_more forms (Var z) t.0 (s.within x t e))) ∙ o));
      }

  new_forth : (f : Substitution) → Solves forms bound f → Solves (forms ++ Var z ∷ []) bound f
  new_forth f h i v t q e =
      more_cases
      forms
      (Var z)
      i
      (Var v)
      (f v ≡ inst f (tree (forms ++ Var z ∷ []) t.0))
      q
      (λ w. h i v t w e ∙ sym (ap (inst f) (tree_more forms (Var z) t.0 (s.within v.num t e))))
      (λ m w. let one : z ≡ v = cc in let u : None ≡ Some t = sym new_unbound ∙ ap (λ (y : TyVar). bound_at bound y.num) one ∙ e in cc)

  new_back : (f : Substitution) → Solves (forms ++ Var z ∷ []) bound f → Solves forms bound f
  new_back f h i v t q e =
      h i v t (more_keeps forms (Var z) i (Var v) q) e ∙ ap (inst f) (tree_more forms (Var z) t.0 (s.within v.num t e))

  new_tree : (f : Substitution) → under (forms ++ Var z ∷ []) f (length forms) ≡ f z
  new_tree f = ap (inst f) (tree_new forms (Var z))

  rounds_new : (i : ℕ) (v : TyVar) → rounds (forms ++ Var z ∷ []) bound i v ≡ rounds forms bound i v
  rounds_new zero v = rounds_zero (forms ++ Var z ∷ []) bound v ∙ sym (rounds_zero forms bound v)
  rounds_new (suc i) v = go (rounds_new i)
    where
      go : ((w : TyVar) → rounds (forms ++ Var z ∷ []) bound i w ≡ rounds forms bound i w) → rounds (forms ++ Var z ∷ []) bound (suc i) v ≡ rounds forms bound (suc i) v
      go ih =
          bound_cases
          bound
          v.num
          (rounds (forms ++ Var z ∷ []) bound (suc i) v ≡ rounds forms bound (suc i) v)
          (λ e. rounds_free (forms ++ Var z ∷ []) bound (suc i) v e ∙ sym (rounds_free forms bound (suc i) v e))
          (λ t e.
          rounds_bound (forms ++ Var z ∷ []) bound i v t e
          ∙ ap (inst (rounds (forms ++ Var z ∷ []) bound i)) (tree_more forms (Var z) t.0 (s.within v.num t e))
          ∙ inst_same (rounds (forms ++ Var z ∷ []) bound i) (rounds forms bound i) (tree forms t.0) (λ w o. ih w)
          ∙ sym (rounds_bound forms bound i v t e))

  meant_new : (v : TyVar) → meant (forms ++ Var z ∷ []) bound v ≡ meant forms bound v
  unfolding meant
  meant_new v = rounds_new (length bound) v

  new_marks : (names : List TypeName) → z.eq ≡ true → Respects names forms (meant forms bound) → Respects names (forms ++ Var z ∷ []) (meant (forms ++ Var z ∷ []) bound)
  new_marks names mark r i v q e =
      more_cases
      forms
      (Var z)
      i
      (Var v)
      (admits names (meant (forms ++ Var z ∷ []) bound v) ≡ true)
      q
      (λ d. ap (admits names) (meant_new v) ∙ r i v d e)
      (λ l d.
      let one : z ≡ v = cc in
      ap (λ w. admits names (meant (forms ++ Var z ∷ []) bound w)) (sym one) ∙ ap (admits names) (meant_free (forms ++ Var z ∷ []) bound z new_unbound) ∙ mark)

  -- the variable v is bound to it
  module _ (names : List TypeName) (mark : z.eq ≡ true) (p : Pair) (k : IsBinding forms bound p) (marked : k.var.eq ≡ true) (v : TyVar) (m : IsToMark names forms bound p.right.0 v) (t : Ty) (last : t.0 ≡ length forms) (after : List (Option Ty)) (b : IsBoundTo bound v.num t after) (more : length bound ≤ length after) where
    low : v.num < z.num
    low = new_other m.at v m.here

    new_clear : occurs v.num (under (forms ++ Var z ∷ []) (meant (forms ++ Var z ∷ []) bound) t.0) ≡ false
    new_clear =
        ap (λ i. occurs v.num (under (forms ++ Var z ∷ []) (meant (forms ++ Var z ∷ []) bound) i)) last
        ∙ ap (occurs v.num) (new_tree (meant (forms ++ Var z ∷ []) bound) ∙ meant_free (forms ++ Var z ∷ []) bound z new_unbound)
        ∙ go (nat_eq v.num z.num) refl
      where
        go : (c : Bool) → nat_eq v.num z.num ≡ c → c ≡ false
        go true e = let w : v.num ≡ z.num = eqb-true v.num z.num e in let l = low in absurd (omega arith)
        go false e = refl

    new_there : t.0 < length (forms ++ Var z ∷ [])
    new_there = omega (arith, length-append forms (Var z ∷ []))

    -- the new variable stands for what v stands for
    renamed : Substitution → Substitution
    renamed f w = cond (nat_eq w.num z.num) (f v) (f w)

    renamed_old : (f : Substitution) (w : TyVar) → w.num < z.num → renamed f w ≡ f w
    unfolding renamed
    renamed_old f w l = go (nat_eq w.num z.num) refl
      where
        go : (c : Bool) → nat_eq w.num z.num ≡ c → cond c (f v) (f w) ≡ f w
        go true e = let n : w.num ≡ z.num = eqb-true w.num z.num e in absurd (omega arith)
        go false e = refl

    renamed_new : (f : Substitution) → renamed f z ≡ f v
    unfolding renamed
    renamed_new f = ap (λ c. cond c (f v) (f z)) (eq-eqb z.num z.num refl)

    renamed_under : (f : Substitution) (i : ℕ) → i < length forms → under forms (renamed f) i ≡ under forms f i
    renamed_under f i w = under_agrees forms z.num f (renamed f) i s.numbered w (omega arith) (renamed_old f)

    renamed_solves : (f : Substitution) → Solves forms bound f → Solves forms bound (renamed f)
    renamed_solves f h i w u q e = renamed_old f w (new_other i w q) ∙ h i w u q e ∙ sym (renamed_under f u.0 (s.within w.num u e))

    needs : (f : Substitution) → Respects names forms f → Solves forms bound f → IsEqualPair forms f p → admits names (f v) ≡ true
    needs f r h e =
        m.needed f h (sym (ap (admits names) e) ∙ ap (λ u. admits names (inst f u)) (tree_var forms bound p.left.0 k.var s k.here) ∙ r p.left.0 k.var k.here marked)

    pub mark_extends : IsExtensionFrom names z.num forms bound (p ∷ []) (forms ++ Var z ∷ []) after
    mark_extends =
        record {
          solved = bound_solved (forms ++ Var z ∷ []) bound new_solved v.num t after b m.unbound new_clear new_there;
          longer = new_longer;
          number = omega (arith, above_more forms z);
          marks = λ r. bind_marks (forms ++ Var z ∷ []) bound new_solved names m.at v (more_keeps forms (Var z) m.at (Var v) m.here) t after b m.unbound new_clear new_there (bound_solved (forms ++ Var z ∷ []) bound new_solved v.num t after b m.unbound new_clear new_there) (λ e. let w : false ≡ true = sym m.plain ∙ e in cc) (new_marks names mark r);
          sound = λ f h. new_back f (bound_before (forms ++ Var z ∷ []) bound new_solved v.num t after b m.unbound new_clear new_there f h);
          general = λ f r h e. (
            renamed f,
            (λ w l. renamed_old f w (omega arith)),
            (λ i w q c.
                more_cases
                forms
                (Var z)
                i
                (Var w)
                (admits names (renamed f w) ≡ true)
                q
                (λ d. ap (admits names) (renamed_old f w (new_other i w d)) ∙ r i w d c)
                (λ l d. let one : z ≡ w = cc in sym (ap (λ u. admits names (renamed f u)) one) ∙ ap (admits names) (renamed_new f) ∙ needs f r h e.0)),
            bound_after (forms ++ Var z ∷ []) bound new_solved v.num t after b m.unbound new_clear new_there (renamed f) (new_forth (renamed f) (renamed_solves f h)) (λ i w q c.
                more_cases
                forms
                (Var z)
                i
                (Var w)
                (renamed f w ≡ under (forms ++ Var z ∷ []) (renamed f) t.0)
                q
                (λ d.
                let one : w ≡ v = s.named i m.at w v d m.here c in
                ap (renamed f) one ∙ renamed_old f v low ∙ sym (renamed_new f) ∙ sym (new_tree (renamed f)) ∙ sym (ap (λ j. under (forms ++ Var z ∷ []) (renamed f) j) last))
                (λ l d. let one : z ≡ w = cc in let y = ap (λ (u : TyVar). u.num) one in let x = low in absurd (omega arith))),
          );
        }

    pub mark_falls : weight (forms ++ Var z ∷ []) after < weight forms bound
    mark_falls =
        let w = weight_falls (forms ++ Var z ∷ []) bound after v.num t m.at v b (more_keeps forms (Var z) m.at (Var v) m.here) refl m.unbound in
        let x = weight_more forms bound z new_unbound mark in
        let y = ap (var_weight None) m.plain in
        omega arith

    other_var : k.var.num ≡ v.num → ⊥
    other_var n =
        let same : k.var ≡ v = s.named p.left.0 m.at k.var v k.here m.here n in
        let w : true ≡ false = sym marked ∙ ap (λ (u : TyVar). u.eq) same ∙ m.plain in
        cc

    -- the variable of the pair is still open
    pub mark_left : under (forms ++ Var z ∷ []) (meant (forms ++ Var z ∷ []) after) p.left.0 ≡ Variable k.var
    mark_left =
        ap (inst (meant (forms ++ Var z ∷ []) after)) (tree_more forms (Var z) p.left.0 k.within.0 ∙ tree_var forms bound p.left.0 k.var s k.here)
        ∙ meant_free (forms ++ Var z ∷ []) after k.var (b.others k.var.num other_var ∙ k.unbound)

    -- and stands in the other type no more than before
    mark_each : (w : TyVar) → IsKnown forms w → bound_at bound w.num ≡ None → (w.num ≡ k.var.num → ⊥) → occurs k.var.num (meant (forms ++ Var z ∷ []) after w) ≡ false
    mark_each w i u n = go (nat_eq w.num v.num) refl
      where
        no : (x : TyVar) → (x.num ≡ k.var.num → ⊥) → occurs k.var.num (Variable x) ≡ false
        no x d = by (nat_eq k.var.num x.num) refl
          where
            by : (c : Bool) → nat_eq k.var.num x.num ≡ c → c ≡ false
            by true e = absurd (d (sym (eqb-true k.var.num x.num e)))
            by false e = refl

        new : (z.num ≡ k.var.num → ⊥)
        new e = let l = new_other p.left.0 k.var k.here in absurd (omega arith)

        go : (c : Bool) → nat_eq w.num v.num ≡ c → occurs k.var.num (meant (forms ++ Var z ∷ []) after w) ≡ false
        go true e =
            let same : w ≡ v = s.named i.0 m.at w v i.1 m.here (eqb-true w.num v.num e) in
            ap (λ x. occurs k.var.num (meant (forms ++ Var z ∷ []) after x)) same
            ∙ ap (occurs k.var.num) (meant_solves (forms ++ Var z ∷ []) after mark_extends.solved.acyclic m.at v t (more_keeps forms (Var z) m.at (Var v) m.here) b.here ∙ ap (λ j. under (forms ++ Var z ∷ []) (meant (forms ++ Var z ∷ []) after) j) last ∙ new_tree (meant (forms ++ Var z ∷ []) after) ∙ meant_free (forms ++ Var z ∷ []) after z (b.others z.num (λ c. let l = low in absurd (omega arith)) ∙ new_unbound))
            ∙ no z new
        go false e =
            ap (occurs k.var.num) (meant_free (forms ++ Var z ∷ []) after w (b.others w.num (λ c. let x = eq-eqb w.num v.num c in cc) ∙ u)) ∙ no w n

    pub mark_right : occurs k.var.num (under forms (meant forms bound) p.right.0) ≡ false → occurs k.var.num (under (forms ++ Var z ∷ []) (meant (forms ++ Var z ∷ []) after) p.right.0) ≡ false
    mark_right clear =
        ap (occurs k.var.num) (ap (inst (meant (forms ++ Var z ∷ []) after)) (tree_more forms (Var z) p.right.0 k.within.1) ∙ under_through forms bound s (meant (forms ++ Var z ∷ []) after) (mark_extends.sound (meant (forms ++ Var z ∷ []) after) (meant_solves (forms ++ Var z ∷ []) after mark_extends.solved.acyclic)) p.right.0 k.within.1)
        ∙ clear_vars
        (meant (forms ++ Var z ∷ []) after)
        k.var.num
        (under forms (meant forms bound) p.right.0)
        (vars_both
        (λ w. IsKnown forms w × (bound_at bound w.num ≡ None))
        (λ w. w.num ≡ k.var.num → ⊥)
        (λ w. occurs k.var.num (meant (forms ++ Var z ∷ []) after w) ≡ false)
        (under forms (meant forms bound) p.right.0)
        (λ w i n. mark_each w i.0 i.1 n)
        (vars_both (IsKnown forms) (λ w. bound_at bound w.num ≡ None) (λ w. IsKnown forms w × (bound_at bound w.num ≡ None)) (under forms (meant forms bound) p.right.0) (λ w i u. (i, u)) (under_known forms bound s p.right.0 k.within.1) (under_open forms bound s p.right.0))
        (vars_clear k.var.num (under forms (meant forms bound) p.right.0) clear))
