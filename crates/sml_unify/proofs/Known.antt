-- All variables of types are those of forms, and solutions go through what is meant.
use Rattle.std.proofs.Common.{◌≡◌, ℕ, zero, suc, ◌<◌, ◌≤◌, true, List, [], ◌∷◌, length, Option, Some, None, refl, sym, ap, ◌∙◌, subst, arith}
use Rattle.std.specs.Prelude.{slice_get, map}
use Rattle.std.specs.List.{AllByRecursion}
use Rattle.std.proofs.lemmas.Bool.{eqb-true}
use Rattle.std.proofs.lemmas.Option.{slice_get-get_or}
use Rattle.sml_types.specs.declared.types.Ty.{Ty}
use Rattle.sml_types.specs.declared.types.TyVar.{TyVar}
use Rattle.sml_types.specs.declared.types.TyForm.{TyForm}
use Rattle.sml_types.specs.declared.types.TyForm.TheVariants.{Var, Fields, Arrow, Named}
use Rattle.sml_types.specs.Tree.{Head, Tree, Variable, App, NoParts, Part, inst, occurs, size, AllVars}
use Rattle.sml_types.specs.Forms.{tree, form_tree, listed, parts_of, head_of, IsNumbered}
use Rattle.sml_types.proofs.TreeFacts.{inst_inst, either}
use Rattle.sml_types.proofs.FormFacts.{tree_form}
use Rattle.sml_unify.specs.Solved.{Substitution, Solves, IsSolved, rounds, meant, under}
use Rattle.sml_unify.specs.Simplified.{IsBinding}
use Rattle.sml_unify.specs.declared.pair.Pair.{Pair}
use Rattle.sml_unify.proofs.Meant.{rounds_zero, rounds_free, rounds_bound, bound_cases}
use Rattle.sml_unify.proofs.Walks.{at_var, at_app}

pub vars_mono : (P Q : TyVar → Type 0) (t : Tree) → ((v : TyVar) → P v → Q v) → AllVars P t → AllVars Q t
vars_mono P Q (Variable v) f h = f v h
vars_mono P Q (App c ts) f h = vars_mono P Q ts f h
vars_mono P Q NoParts f h = tt
vars_mono P Q (Part t ts) f h = (vars_mono P Q t f h.0, vars_mono P Q ts f h.1)

pub vars_inst : (P Q : TyVar → Type 0) (m : Substitution) (t : Tree) → ((v : TyVar) → P v → AllVars Q (m v)) → AllVars P t → AllVars Q (inst m t)
vars_inst P Q m (Variable v) f h = f v h
vars_inst P Q m (App c ts) f h = vars_inst P Q m ts f h
vars_inst P Q m NoParts f h = tt
vars_inst P Q m (Part t ts) f h = (vars_inst P Q m t f h.0, vars_inst P Q m ts f h.1)

pub inst_vars : (f g : Substitution) (t : Tree) → AllVars (λ v. f v ≡ g v) t → inst f t ≡ inst g t
inst_vars f g (Variable v) h = h
inst_vars f g (App c ts) h = ap (App c) (inst_vars f g ts h)
inst_vars f g NoParts h = refl
inst_vars f g (Part t ts) h = let l = inst_vars f g t h.0 in let r = inst_vars f g ts h.1 in cc

pub size_vars : (f : Substitution) (x n : ℕ) (t : Tree) → AllVars (λ w. w.num ≡ x → n ≤ size (f w)) t → occurs x t ≡ true → n ≤ size (inst f t)
size_vars f x n (Variable w) h e = h (sym (eqb-true x w.num e))
size_vars f x n (App c ts) h e = let k = size_vars f x n ts h e in omega arith
size_vars f x n NoParts h e = cc
size_vars f x n (Part t ts) h e =
    either (occurs x t) (occurs x ts) (n ≤ size (inst f (Part t ts))) e (λ q. let k = size_vars f x n t h.0 q in omega arith) (λ q. let k = size_vars f x n ts h.1 q in omega arith)

-- a variable that a form is
abbrev pub IsKnown : List TyForm → TyVar → Type 0
IsKnown forms v = (i : ℕ) × (slice_get forms i ≡ Some (Var v))

listed_known : (forms : List TyForm) (t : ℕ → Tree) (is : List ℕ) → AllByRecursion (λ i. AllVars (IsKnown forms) (t i)) is → AllVars (IsKnown forms) (listed t is)
listed_known forms t [] h = tt
listed_known forms t (i ∷ is) h = (h.0, listed_known forms t is h.1)

all_below : (P : ℕ → Type 0) (n : ℕ) (is : List ℕ) → ((i : ℕ) → i < n → P i) → AllByRecursion (λ i. i < n) is → AllByRecursion P is
all_below P n [] f h = tt
all_below P n (i ∷ is) f h = (f i h.0, all_below P n is f h.1)

form_known : (forms : List TyForm) (i : ℕ) (f : TyForm) → slice_get forms i ≡ Some f → AllByRecursion (λ c. AllVars (IsKnown forms) (tree forms c)) (parts_of f) → AllVars (IsKnown forms) (form_tree (tree forms) f)
form_known forms i (Var v) q h = (i, q)
form_known forms i (Fields fields) q h = listed_known forms (tree forms) (map (λ f. f.ty.0) fields) h
form_known forms i (Arrow a b) q h = listed_known forms (tree forms) (a.0 ∷ b.0 ∷ []) h
form_known forms i (Named n args) q h = listed_known forms (tree forms) (map (λ a. a.0) args) h

upto : (forms : List TyForm) → IsNumbered forms → (n i : ℕ) → i < n → i < length forms → AllVars (IsKnown forms) (tree forms i)
upto forms h zero i lt w = absurd (omega arith)
upto forms h (suc n) i lt w = go (slice_get forms i) refl (λ j l. upto forms h n j l)
  where
    go : (o : Option TyForm) → slice_get forms i ≡ o → ((j : ℕ) → j < n → j < length forms → AllVars (IsKnown forms) (tree forms j)) → AllVars (IsKnown forms) (tree forms i)
    go None q k = let d : TyForm = Arrow (record { 0 = 0 }) (record { 0 = 0 }) in let z = slice_get-get_or forms i d w in cc
    go (Some f) q k =
        subst
        (λ (t : Tree). AllVars (IsKnown forms) t)
        (sym (tree_form forms i f h q))
        (form_known forms i f q (all_below (λ c. AllVars (IsKnown forms) (tree forms c)) i (parts_of f) (λ c l. k c (omega arith) (omega arith)) (h i f q)))

pub tree_known : (forms : List TyForm) (i : ℕ) → IsNumbered forms → i < length forms → AllVars (IsKnown forms) (tree forms i)
tree_known forms i h w = upto forms h (suc i) i (omega arith) w

module _ (forms : List TyForm) (bound : List (Option Ty)) (s : IsSolved forms bound) where
  rounds_known : (k : ℕ) (v : TyVar) → IsKnown forms v → AllVars (IsKnown forms) (rounds forms bound k v)
  rounds_known zero v h = subst (λ (t : Tree). AllVars (IsKnown forms) t) (sym (rounds_zero forms bound v)) h
  rounds_known (suc k) v h = go (λ w. rounds_known k w)
    where
      go : ((w : TyVar) → IsKnown forms w → AllVars (IsKnown forms) (rounds forms bound k w)) → AllVars (IsKnown forms) (rounds forms bound (suc k) v)
      go ih =
          bound_cases
          bound
          v.num
          (AllVars (IsKnown forms) (rounds forms bound (suc k) v))
          (λ e. subst (λ (t : Tree). AllVars (IsKnown forms) t) (sym (rounds_free forms bound (suc k) v e)) h)
          (λ t e. subst (λ (u : Tree). AllVars (IsKnown forms) u) (sym (rounds_bound forms bound k v t e)) (vars_inst (IsKnown forms) (IsKnown forms) (rounds forms bound k) (tree forms t.0) ih (tree_known forms t.0 s.numbered (s.within v.num t e))))

  pub meant_known : (v : TyVar) → IsKnown forms v → AllVars (IsKnown forms) (meant forms bound v)
  unfolding meant
  meant_known v h = rounds_known (length bound) v h

  pub under_known : (i : ℕ) → i < length forms → AllVars (IsKnown forms) (under forms (meant forms bound) i)
  under_known i w = vars_inst (IsKnown forms) (IsKnown forms) (meant forms bound) (tree forms i) meant_known (tree_known forms i s.numbered w)

  module _ (f : Substitution) (h : Solves forms bound f) where
    rounds_through : (k : ℕ) (v : TyVar) → IsKnown forms v → f v ≡ inst f (rounds forms bound k v)
    rounds_through zero v n = sym (ap (inst f) (rounds_zero forms bound v))
    rounds_through (suc k) v n = go (λ w. rounds_through k w)
      where
        go : ((w : TyVar) → IsKnown forms w → f w ≡ inst f (rounds forms bound k w)) → f v ≡ inst f (rounds forms bound (suc k) v)
        go ih =
            bound_cases
            bound
            v.num
            (f v ≡ inst f (rounds forms bound (suc k) v))
            (λ e. sym (ap (inst f) (rounds_free forms bound (suc k) v e)))
            (λ t e.
            h n.0 v t n.1 e
            ∙ inst_vars f (λ w. inst f (rounds forms bound k w)) (tree forms t.0) (vars_mono (IsKnown forms) (λ w. f w ≡ inst f (rounds forms bound k w)) (tree forms t.0) ih (tree_known forms t.0 s.numbered (s.within v.num t e)))
            ∙ sym (inst_inst f (rounds forms bound k) (tree forms t.0))
            ∙ sym (ap (inst f) (rounds_bound forms bound k v t e)))

    pub meant_through : (v : TyVar) → IsKnown forms v → f v ≡ inst f (meant forms bound v)
    unfolding meant
    meant_through v n = rounds_through (length bound) v n

    -- each solution is an instance of what is meant
    pub under_through : (i : ℕ) → i < length forms → under forms f i ≡ inst f (under forms (meant forms bound) i)
    under_through i w =
        inst_vars f (λ v. inst f (meant forms bound v)) (tree forms i) (vars_mono (IsKnown forms) (λ v. f v ≡ inst f (meant forms bound v)) (tree forms i) meant_through (tree_known forms i s.numbered w))
        ∙ sym (inst_inst f (meant forms bound) (tree forms i))

    -- no solution makes a variable equal to a type that it stands inside
    pub no_cycle : (p : Pair) (b : IsBinding forms bound p) → occurs b.var.num (under forms (meant forms bound) p.right.0) ≡ true → f b.var ≡ under forms f p.right.0 → ⊥
    no_cycle p b o e = go (slice_get forms p.right.0) refl
      where
        inside : (c : Head) (ts : Tree) → under forms (meant forms bound) p.right.0 ≡ App c ts → ⊥
        inside c ts q =
            let known : AllVars (IsKnown forms) (App c ts) = subst (λ (t : Tree). AllVars (IsKnown forms) t) q (under_known p.right.0 b.within.1) in
            let big = size_vars f b.var.num (size (f b.var)) ts (vars_mono (IsKnown forms) (λ w. w.num ≡ b.var.num → size (f b.var) ≤ size (f w)) ts (λ w k n. let one : w ≡ b.var = s.named k.0 p.left.0 w b.var k.1 b.here n in let z = ap (λ (u : TyVar). size (f u)) one in omega arith) known) (sym (ap (occurs b.var.num) q) ∙ o) in
            let whole = ap size (e ∙ under_through p.right.0 b.within.1 ∙ ap (inst f) q) in
            omega arith

        app : (form : TyForm) → slice_get forms p.right.0 ≡ Some form → ((v : TyVar) → form ≡ Var v → ⊥) → ⊥
        app form q n = inside (head_of form) (inst (meant forms bound) (listed (tree forms) (parts_of form))) (at_app forms bound s (meant forms bound) p.right.0 form q n)

        go : (form : Option TyForm) → slice_get forms p.right.0 ≡ form → ⊥
        go None q = let d : TyForm = Arrow (record { 0 = 0 }) (record { 0 = 0 }) in let z = slice_get-get_or forms p.right.0 d b.within.1 in cc
        go (Some (Var w)) q =
            b.other w q (eqb-true b.var.num w.num (sym (ap (occurs b.var.num) (at_var forms bound s p.right.0 w q b.free)) ∙ o))
        go (Some (Fields fields)) q = app (Fields fields) q (λ v n. cc)
        go (Some (Arrow x y)) q = app (Arrow x y) q (λ v n. cc)
        go (Some (Named n args)) q = app (Named n args) q (λ v m. cc)
