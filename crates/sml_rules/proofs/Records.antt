-- The machine follows the rules of records.
use Rattle.std.proofs.Common.{◌≡◌, ℕ, zero, suc, ◌+◌, ◌<◌, ◌≤◌, Bool, true, false, List, [], ◌∷◌, ◌++◌, length, Option, Some, None, refl, sym, ap, ◌∙◌, subst, arith, length-append}
use Rattle.std.specs.Prelude.{nat_eq, cond, map, filter_map, zip}
use Rattle.std.specs.Option.{option_map}
use Rattle.std.specs.List.{cons_option}
use Rattle.std.proofs.lemmas.Bool.{eqb-true, eq-eqb}
use Rattle.sml_tree.specs.declared.bare.Bare.{Bare}
use Rattle.sml_tree.specs.declared.bare.Field.{Field}
use Rattle.sml_tree.specs.BareParts.{IsNumbered}
use Rattle.sml_tree.specs.Free.{free, free_fields}
use Rattle.simulation.proofs.Lists.{get_last}
use Rattle.simulation.proofs.Machines.{stay}
use Rattle.sml_def.specs.State.{Value, At, Address, Awaits, FieldPart, Block, Tuple, Frame, Control, Eval, Ret, cut}
use Rattle.sml_def.specs.State as m
use Rattle.sml_def.specs.Step.{step, eval_fields, count_up, env_of, env_of_fields}
use Rattle.sml_def.specs.Step as ms
use Rattle.sml_rules.specs.Terms.{Term, Record, listed, in_row, Env, nowhere, bind, look, State, Result, Gives, ◌then◌}
use Rattle.sml_rules.specs.Patterns.{Fit, pat}
use Rattle.sml_rules.specs.Rules.{evaluate, row, slotted, by_label}
use Rattle.sml_rules.proofs.Relation.{World, Are, Later, later_refl, later_trans, are_later}
use Rattle.sml_rules.proofs.Relation as r
use Rattle.sml_rules.proofs.Environments.{Is, Sub, EnvIs, AreBound, split, are_more, are_append, env_sub, cut_sub, sub_later}
use Rattle.sml_rules.proofs.Forms.{Holds}
use Rattle.sml_rules.proofs.Follows.{Kept, Conf, conf, memory, with_blocks, more_later, Follows, Back, walk_on}
use Rattle.sml_rules.proofs.Expressions.{Exp, Builtins, part, back_to, made}
use Rattle.sml_rules.proofs.Declarations.{then_assoc}

listed_row : (ts : List Term) → listed (in_row ts) ≡ ts
listed_row [] = refl
listed_row (u ∷ ts) = ap (λ us. u ∷ us) (listed_row ts)

module _ (p : Bare) (w : World) where
  slots_bound : (fields : List Field) (ts : List Term) (vs : List Value) → Are p w ts vs → AreBound p w (slotted fields ts) (zip (map (λ f. f.slot) fields) vs)
  slots_bound [] ts vs h = tt
  slots_bound (f ∷ fields) [] [] h = tt
  slots_bound (f ∷ fields) (u ∷ ts) (v ∷ vs) h =
      let s = split p w (u ∷ ts) (v ∷ vs) h in (refl, s.0, slots_bound fields ts vs s.1)
  slots_bound (f ∷ fields) [] (v ∷ vs) h = absurd (split p w [] (v ∷ vs) h)
  slots_bound (f ∷ fields) (u ∷ ts) [] h = absurd (split p w (u ∷ ts) [] h)

  abbrev OptSame : Option Term → Option Value → Type 0
  OptSame None None = Unit {0}
  OptSame (Some u) (Some v) = Is p w u v
  OptSame _ _ = ⊥

  bound_look : (inner : Env) (bound : m.Env) → AreBound p w inner bound → (x : ℕ) → OptSame (look inner x) (m.look bound x)
  bound_look nowhere [] h x = tt
  bound_look nowhere (b ∷ bound) h x = absurd h
  bound_look (bind y u inner) [] h x = absurd h
  bound_look (bind y u inner) (b ∷ bound) h x =
      subst (λ n. OptSame (cond (nat_eq x n) (Some u) (look inner x)) (cond (nat_eq x b.0) (Some b.1) (m.look bound x))) (sym h.0) (go (nat_eq x b.0) (bound_look inner bound h.2 x))
    where
      go : (q : Bool) → OptSame (look inner x) (m.look bound x) → OptSame (cond q (Some u) (look inner x)) (cond q (Some b.1) (m.look bound x))
      go true k = h.1
      go false k = k

  picked : (inner : Env) (bound : m.Env) → AreBound p w inner bound → (xs : List ℕ) → Are p w (filter_map (look inner) xs) (map (λ b. b.1) (cut xs bound))
  picked inner bound h [] = r.done
  picked inner bound h (x ∷ xs) = go (look inner x) (m.look bound x) (bound_look inner bound h x) (picked inner bound h xs)
    where
      go : (o : Option Term) (q : Option Value) → OptSame o q → Are p w (filter_map (look inner) xs) (map (λ b. b.1) (cut xs bound)) → Are p w (cons_option o (filter_map (look inner) xs)) (map (λ b. b.1) (cons_option (option_map (λ v. (x, v)) q) (cut xs bound)))
      go None None k g = g
      go (Some u) (Some v) k g = are_more p w u v _ _ k g
      go None (Some v) k g = absurd k
      go (Some u) None k g = absurd k

  labels_are : (fields : List Field) (ts : List Term) (vs : List Value) → Are p w ts vs → Are p w (by_label fields ts) (ms.by_label fields vs)
  labels_are fields ts vs h = picked (slotted fields ts) (zip (map (λ f. f.slot) fields) vs) (slots_bound fields ts vs h) (count_up 0 (length fields))

-- the first field's value is among them
counted : (inner : Env) (x : ℕ) (u : Term) → look inner x ≡ Some u → (n from : ℕ) → from ≤ x → x < from + n → filter_map (look inner) (count_up from n) ≡ [] → ⊥
counted inner x u e zero from l h g = absurd (omega (arith, l, h))
counted inner x u e (suc n) from l h g =
    go (nat_eq from x) refl (look inner from) refl g (λ k i. counted inner x u e n (suc from) k (omega (arith, h)) i)
  where
    less : (a b : ℕ) → a ≤ b → (a ≡ b → ⊥) → suc a ≤ b
    less a b l f = omega (arith, l, f)

    go : (q : Bool) → nat_eq from x ≡ q → (o : Option Term) → look inner from ≡ o → cons_option o (filter_map (look inner) (count_up (suc from) n)) ≡ [] → (suc from ≤ x → filter_map (look inner) (count_up (suc from) n) ≡ [] → ⊥) → ⊥
    go q f (Some v) i g k = cc
    go true f None i g k = let same : from ≡ x = eqb-true from x f in let j : look inner x ≡ None = ap (look inner) (sym same) ∙ i in cc
    go false f None i g k = k (less from x l (λ s. let y = eq-eqb from x s in cc)) g

first_there : (f : Field) (fields : List Field) (u : Term) (ts : List Term) → f.slot < suc (length fields) → by_label (f ∷ fields) (u ∷ ts) ≡ [] → ⊥
first_there f fields u ts l e =
    counted (slotted (f ∷ fields) (u ∷ ts)) f.slot u (ap (λ q. cond q (Some u) (look (slotted fields ts) f.slot)) (eq-eqb f.slot f.slot refl)) (suc (length fields)) 0 (omega arith) (omega (arith, l)) e

module _ (p : Bare) (Inv : Conf → Type 0) (kept : Kept p Inv) (numbered : IsNumbered p.nodes) (builtins : Builtins p Inv kept) (d : ℕ) (exp : Exp p Inv kept d) where
  abbrev pats : Env → List Term → ℕ → Term → Fit Env
  pats e mem = pat p e mem d

  abbrev ex : Env → ℕ → State → Result Term
  ex = (evaluate p d).0

  abbrev de : Env → ℕ → State → Result Env
  de = (evaluate p d).1

  module _ (env : Env) (k : Option Address) (f : Field) (fields : List Field) (slot_in : f.slot < suc (length fields)) where
    abbrev finish : List Term → State → Result Term
    finish values = Gives (Record (in_row (by_label (f ∷ fields) values)))

    -- a tuple of the values in the order of labels
    tuple_is : (w : World) (b : List Value) (us : List Term) → Are p w us b → (us ≡ [] → ⊥) → Is p (with_blocks w (Tuple b ∷ [])) (Record (in_row us)) (At (length w.store))
    tuple_is w b [] h n = absurd (n refl)
    tuple_is w b (u ∷ us) h n =
        r.tuple u (in_row us) (length w.store) b [] [] (get_last w.store (Tuple b)) (subst (λ x. Are p (with_blocks w (Tuple b ∷ [])) (u ∷ x) b) (sym (listed_row us)) (are_later p w _ (more_later p w (Tuple b ∷ [])) (u ∷ us) b h)) r.done

    not_empty : (ts : List Term) → length ts ≡ suc (length fields) → by_label (f ∷ fields) ts ≡ [] → ⊥
    not_empty [] l e = absurd (omega (arith, l))
    not_empty (u ∷ ts) l e = first_there f fields u ts slot_in e

    row_follows : (later : List Field) (ts : List Term) (vs : List Value) (menv : m.Env) (c : Control) (s : State) (w : World) → length ts + length later ≡ suc (length fields) → step p (memory s w) c ≡ eval_fields p (memory s w) (f ∷ fields) vs later menv k → Sub p w env menv → Are p w ts vs → Holds p w s → Inv (conf c s w) → Follows p (Back p k) k (suc d) (conf c s w) w (row p pats ex de env later ts s then finish)
    row_follows [] ts vs menv c s w n e is are holds inv =
        made p Inv kept numbered builtins d exp k (suc d) c s w (Tuple (ms.by_label (f ∷ fields) vs)) (Record (in_row (by_label (f ∷ fields) ts))) holds e (tuple_is w (ms.by_label (f ∷ fields) vs) (by_label (f ∷ fields) ts) (labels_are p w (f ∷ fields) ts vs are) (not_empty ts (omega (arith, n))))
    row_follows (g ∷ later) ts vs menv c s w n e is are holds inv =
        subst (Follows p (Back p k) k (suc d) (conf c s w) w) (sym (then_assoc (ex env g.node s) (λ v. row p pats ex de env later (ts ++ v ∷ [])) finish)) (part p Inv kept numbered builtins d exp (Back p k) k (suc d) c s w (FieldPart g.node (f ∷ fields) vs later (env_of_fields p later menv)) g.node env (env_of p g.node menv) (λ v s. row p pats ex de env later (ts ++ v ∷ []) s then finish) e tt (cut_sub p w env menv is (free p.nodes g.node)) holds inv (omega arith) (λ u s1 w1 v l1 h1 i1 f1 v1.
        let next = row_follows later (ts ++ u ∷ []) (vs ++ v ∷ []) (env_of_fields p later menv) (Ret v (Some (length w.store))) s1 w1 (let q : length (ts ++ u ∷ []) ≡ length ts + 1 = length-append ts (u ∷ []) in omega (arith, q, n)) (back_to p Inv kept numbered builtins d exp (Ret v k) s1 w1 (length w.store) _ v k f1) (sub_later p w w1 l1 env (env_of_fields p later menv) (env_sub p w env (env_of_fields p later menv) (cut_sub p w env menv is (free_fields (free p.nodes) later)))) (are_append p w1 ts vs (u ∷ []) (v ∷ []) i1 (are_later p w w1 l1 ts vs are)) h1 v1 in
        walk_on p (Back p k) k d (suc d) 0 (conf (Ret v (Some (length w.store))) s1 w1) (conf (Ret v (Some (length w.store))) s1 w1) w1 w1 _ (stay (conf (Ret v (Some (length w.store))) s1 w1)) (later_refl w1) (omega arith) next))

    pub record_follows : (i : ℕ) (menv : m.Env) (s : State) (w : World) → step p (memory s w) (Eval i menv k) ≡ eval_fields p (memory s w) (f ∷ fields) [] (f ∷ fields) menv k → EnvIs p w env menv → Holds p w s → Inv (conf (Eval i menv k) s w) → Follows p (Back p k) k (suc d) (conf (Eval i menv k) s w) w (row p pats ex de env (f ∷ fields) [] s then finish)
    record_follows i menv s w e is holds inv =
        row_follows (f ∷ fields) [] [] menv (Eval i menv k) s w (let q : 0 + suc (length fields) ≡ suc (length fields) = omega arith in q) e (env_sub p w env menv is) r.done holds inv
