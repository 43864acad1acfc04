-- Full environments against those that are cut, and what a term says of its value.
use Rattle.std.proofs.Common.{◌≡◌, ℕ, suc, ◌+◌, Bool, true, false, List, [], ◌∷◌, ◌++◌, Option, Some, None, refl, sym, ap, ◌∙◌, subst, arith}
use Rattle.std.specs.Prelude.{slice_get, nat_eq, cond}
use Rattle.std.specs.Option.{option_map}
use Rattle.std.specs.List.{cons_option}
use Rattle.std.proofs.lemmas.Bool.{eqb-true}
use Rattle.sml_tree.specs.declared.bare.Bare.{Bare}
use Rattle.sml_tree.specs.declared.bare.Rule.{Rule}
use Rattle.sml_tree.specs.Sets.{has}
use Rattle.sml_tree.proofs.Members.{or_left, or_right}
use Rattle.sml_def.specs.State.{Value, At, Address, Block, Tuple, Applied, Text, Cell, ExnName, Packet, Closure, Frame, Pending, cut}
use Rattle.sml_def.specs.State as m
use Rattle.sml_def.specs.Match.{bytes_of}
use Rattle.sml_rules.specs.Terms.{Term, Record, Function, Terms, no_terms, more_terms, listed, Env, nowhere, bind, look, ◌over◌, unrolled, rec_env}
use Rattle.sml_rules.specs.Terms as t
use Rattle.sml_rules.proofs.Relation.{World, Picks, values_in, closures_from, Stand, Are, Later, are_later}
use Rattle.sml_rules.proofs.Relation as r

module _ (p : Bare) (w : World) where
  abbrev pub Is : Term → Value → Type 0
  Is u v = Are p w (u ∷ []) (v ∷ [])

  -- ---- Lists of terms

  abbrev Split : List Term → List Value → Type 0
  Split [] [] = Unit {0}
  Split (u ∷ us) (v ∷ vs) = Is u v × Are p w us vs
  Split _ _ = ⊥

  pub split : (ts : List Term) (vs : List Value) → Are p w ts vs → Split ts vs
  split ts vs r.done = tt
  split ts vs (r.number z ts' vs' h) = (r.number z [] [] r.done, h)
  split ts vs (r.letter c ts' vs' h) = (r.letter c [] [] r.done, h)
  split ts vs (r.text bytes v ts' vs' e h) = (r.text bytes v [] [] e r.done, h)
  split ts vs (r.nothing ts' vs' h) = (r.nothing [] [] r.done, h)
  split ts vs (r.tuple x fields a us ts' vs' e g h) = (r.tuple x fields a us [] [] e g r.done, h)
  split ts vs (r.tag n ts' vs' h) = (r.tag n [] [] r.done, h)
  split ts vs (r.applied n x a v ts' vs' e g h) = (r.applied n x a v [] [] e g r.done, h)
  split ts vs (r.builtin f ts' vs' h) = (r.builtin f [] [] r.done, h)
  split ts vs (r.maker n ts' vs' h) = (r.maker n [] [] r.done, h)
  split ts vs (r.ref_maker ts' vs' h) = (r.ref_maker [] [] r.done, h)
  split ts vs (r.library e ts' vs' h) = (r.library e [] [] r.done, h)
  split ts vs (r.name n a ts' vs' e h) = (r.name n a [] [] e r.done, h)
  split ts vs (r.packet x y a q v ts' vs' e g h) = (r.packet x y a q v [] [] e g r.done, h)
  split ts vs (r.cell n a ts' vs' e h) = (r.cell n a [] [] e r.done, h)
  split ts vs (r.function rules env a i menv us ts' vs' e k g h) = (r.function rules env a i menv us [] [] e k g r.done, h)
  split ts vs (r.recursive rules env group a b j x menv us ts' vs' e f st k g h) =
      (r.recursive rules env group a b j x menv us [] [] e f st k g r.done, h)

  pub are_append : (ts : List Term) (vs : List Value) (us : List Term) (ws : List Value) → Are p w us ws → Are p w ts vs → Are p w (ts ++ us) (vs ++ ws)
  are_append ts vs us ws q r.done = q
  are_append ts vs us ws q (r.number z ts' vs' h) = r.number z _ _ (are_append ts' vs' us ws q h)
  are_append ts vs us ws q (r.letter c ts' vs' h) = r.letter c _ _ (are_append ts' vs' us ws q h)
  are_append ts vs us ws q (r.text bytes v ts' vs' e h) = r.text bytes v _ _ e (are_append ts' vs' us ws q h)
  are_append ts vs us ws q (r.nothing ts' vs' h) = r.nothing _ _ (are_append ts' vs' us ws q h)
  are_append ts vs us ws q (r.tuple x fields a fs ts' vs' e g h) = r.tuple x fields a fs _ _ e g (are_append ts' vs' us ws q h)
  are_append ts vs us ws q (r.tag n ts' vs' h) = r.tag n _ _ (are_append ts' vs' us ws q h)
  are_append ts vs us ws q (r.applied n x a v ts' vs' e g h) = r.applied n x a v _ _ e g (are_append ts' vs' us ws q h)
  are_append ts vs us ws q (r.builtin f ts' vs' h) = r.builtin f _ _ (are_append ts' vs' us ws q h)
  are_append ts vs us ws q (r.maker n ts' vs' h) = r.maker n _ _ (are_append ts' vs' us ws q h)
  are_append ts vs us ws q (r.ref_maker ts' vs' h) = r.ref_maker _ _ (are_append ts' vs' us ws q h)
  are_append ts vs us ws q (r.library e ts' vs' h) = r.library e _ _ (are_append ts' vs' us ws q h)
  are_append ts vs us ws q (r.name n a ts' vs' e h) = r.name n a _ _ e (are_append ts' vs' us ws q h)
  are_append ts vs us ws q (r.packet x y a z v ts' vs' e g h) = r.packet x y a z v _ _ e g (are_append ts' vs' us ws q h)
  are_append ts vs us ws q (r.cell n a ts' vs' e h) = r.cell n a _ _ e (are_append ts' vs' us ws q h)
  are_append ts vs us ws q (r.function rules env a i menv fs ts' vs' e k g h) =
      r.function rules env a i menv fs _ _ e k g (are_append ts' vs' us ws q h)
  are_append ts vs us ws q (r.recursive rules env group a b j x menv fs ts' vs' e f st k g h) =
      r.recursive rules env group a b j x menv fs _ _ e f st k g (are_append ts' vs' us ws q h)

  pub are_more : (u : Term) (v : Value) (ts : List Term) (vs : List Value) → Is u v → Are p w ts vs → Are p w (u ∷ ts) (v ∷ vs)
  are_more u v ts vs h g = are_append (u ∷ []) (v ∷ []) ts vs g h

  -- ---- Environments

  -- what the machine's environment has, the full one has too
  abbrev pub Sub : Env → m.Env → Type 0
  Sub env menv = (x : ℕ) (v : Value) → m.look menv x ≡ Some v → (u : Term) × (look env x ≡ Some u) × Is u v

  -- the same, item by item
  pub record EnvIs (env : Env) (menv : m.Env) : Type 0 where
    pub us : List Term
    pub picks : Picks env menv us
    pub are : Are p w us (values_in menv)

  picks_sub : (env : Env) (menv : m.Env) (us : List Term) → Picks env menv us → Are p w us (values_in menv) → Sub env menv
  picks_sub env [] [] k h x v l = absurd cc
  picks_sub env [] (u ∷ us) k h x v l = absurd k
  picks_sub env (b ∷ menv) [] k h x v l = absurd k
  picks_sub env (b ∷ menv) (u ∷ us) k h x v l =
      let s = split (u ∷ us) (values_in (b ∷ menv)) h in go (nat_eq x b.0) refl l s.0 (picks_sub env menv us k.1 s.1 x v)
    where
      go : (q : Bool) → nat_eq x b.0 ≡ q → cond q (Some b.1) (m.look menv x) ≡ Some v → Is u b.1 → (m.look menv x ≡ Some v → (u : Term) × (look env x ≡ Some u) × Is u v) → (u : Term) × (look env x ≡ Some u) × Is u v
      go true e l h f =
          let same : x ≡ b.0 = eqb-true x b.0 e in
          let value : b.1 ≡ v = cc in
          (u, ap (look env) same ∙ k.0, subst (Is u) value h)
      go false e l h f = f l

  pub env_sub : (env : Env) (menv : m.Env) → EnvIs env menv → Sub env menv
  env_sub env menv h = picks_sub env menv h.us h.picks h.are

  pub cut_sub : (env : Env) (menv : m.Env) → Sub env menv → (xs : List ℕ) → EnvIs env (cut xs menv)
  cut_sub env menv h [] = record { us = []; picks = tt; are = r.done }
  cut_sub env menv h (x ∷ xs) = go (m.look menv x) refl (cut_sub env menv h xs)
    where
      go : (o : Option Value) → m.look menv x ≡ o → EnvIs env (cut xs menv) → EnvIs env (cons_option (option_map (λ v. (x, v)) o) (cut xs menv))
      go None e k = k
      go (Some v) e k =
          let g = h x v e in
          record { us = g.0 ∷ k.us; picks = (g.1, k.picks); are = are_more g.0 v k.us (values_in (cut xs menv)) g.2 k.are }

  -- what is in a cut environment is among those names, and was there before
  pub look_cut : (menv : m.Env) (xs : List ℕ) (x : ℕ) (v : Value) → m.look (cut xs menv) x ≡ Some v → (m.look menv x ≡ Some v) × (has xs x ≡ true)
  look_cut menv [] x v e = absurd cc
  look_cut menv (y ∷ xs) x v e = go (m.look menv y) refl e (look_cut menv xs x v)
    where
      go : (o : Option Value) → m.look menv y ≡ o → m.look (cons_option (option_map (λ v. (y, v)) o) (cut xs menv)) x ≡ Some v → (m.look (cut xs menv) x ≡ Some v → (m.look menv x ≡ Some v) × (has xs x ≡ true)) → (m.look menv x ≡ Some v) × (has (y ∷ xs) x ≡ true)
      go None f e k = let g = k e in (g.0, or_right (nat_eq x y) (has xs x) g.1)
      go (Some z) f e k = at (nat_eq x y) refl e
        where
          at : (q : Bool) → nat_eq x y ≡ q → cond q (Some z) (m.look (cut xs menv) x) ≡ Some v → (m.look menv x ≡ Some v) × (has (y ∷ xs) x ≡ true)
          at true g e =
              let same : x ≡ y = eqb-true x y g in
              (ap (m.look menv) same ∙ f ∙ e, or_left (nat_eq x y) (has xs x) g)
          at false g e = let j = k e in (j.0, or_right (nat_eq x y) (has xs x) j.1)

  pub sub_cut : (env : Env) (menv : m.Env) (xs : List ℕ) → Sub env menv → Sub env (cut xs menv)
  sub_cut env menv xs h x v e = h x v (look_cut menv xs x v e).0

  -- bindings that are the same
  abbrev pub AreBound : Env → m.Env → Type 0
  AreBound nowhere [] = Unit {0}
  AreBound (bind x u inner) (b ∷ bound) = (x ≡ b.0) × Is u b.1 × AreBound inner bound
  AreBound _ _ = ⊥

  pub bound_over : (inner more : Env) (bound others : m.Env) → AreBound inner bound → AreBound more others → AreBound (inner over more) (bound ++ others)
  bound_over nowhere more [] others h g = g
  bound_over nowhere more (b ∷ bound) others h g = absurd h
  bound_over (bind x u inner) more [] others h g = absurd h
  bound_over (bind x u inner) more (b ∷ bound) others h g = (h.0, h.1, bound_over inner more bound others h.2 g)

  -- with the same bindings in front
  pub over_sub : (inner env : Env) (bound menv : m.Env) → AreBound inner bound → Sub env menv → Sub (inner over env) (bound ++ menv)
  over_sub nowhere env [] menv h g x v e = g x v e
  over_sub nowhere env (b ∷ bound) menv h g x v e = absurd h
  over_sub (bind y u inner) env [] menv h g x v e = absurd h
  over_sub (bind y u inner) env (b ∷ bound) menv h g x v e =
      go (nat_eq x b.0) refl e (over_sub inner env bound menv h.2 g x v)
    where
      go : (q : Bool) → nat_eq x b.0 ≡ q → cond q (Some b.1) (m.look (bound ++ menv) x) ≡ Some v → (m.look (bound ++ menv) x ≡ Some v → (u : Term) × (look (inner over env) x ≡ Some u) × Is u v) → (z : Term) × (cond (nat_eq x y) (Some u) (look (inner over env) x) ≡ Some z) × Is z v
      go true f e k =
          let value : b.1 ≡ v = cc in
          (u, ap (λ n. cond (nat_eq x n) (Some u) (look (inner over env) x)) h.0 ∙ ap (λ q. cond q (Some u) (look (inner over env) x)) f, subst (Is u) value h.1)
      go false f e k =
          let g = k e in
          (g.0, ap (λ n. cond (nat_eq x n) (Some u) (look (inner over env) x)) h.0 ∙ ap (λ q. cond q (Some u) (look (inner over env) x)) f ∙ g.1, g.2)

  -- ---- Groups of functions

  module _ (env : Env) (group : List (ℕ × List Rule)) (b : Address) (menv : m.Env) (stand : Stand w.store b group menv) (us : List Term) (picks : Picks env menv us) (are : Are p w us (values_in menv)) where
    group_bound : (k : ℕ) (functions : List (ℕ × List Rule)) → ((j : ℕ) (f : ℕ × List Rule) → slice_get functions j ≡ Some f → slice_get group (k + j) ≡ Some f) → AreBound (unrolled env group functions) (closures_from (b + k) functions)
    group_bound k [] h = tt
    group_bound k (f ∷ functions) h =
        let here : k + 0 ≡ k = omega arith in
        let next : suc (b + k) ≡ b + suc k = omega arith in
        (refl, r.recursive f.1 env group (b + k) b k f.0 menv us [] [] refl (subst (λ n. slice_get group n ≡ Some f) here (h 0 f refl)) stand picks are r.done, subst (λ n. AreBound (unrolled env group functions) (closures_from n functions)) (sym next) (group_bound (suc k) functions (λ j g e. let there : k + suc j ≡ suc k + j = omega arith in subst (λ n. slice_get group n ≡ Some g) there (h (suc j) g e))))

    pub group_sub : Sub (rec_env env group over env) (closures_from b group ++ menv)
    group_sub =
        let zeros : b + 0 ≡ b = omega arith in
        over_sub (rec_env env group) env (closures_from b group) menv (subst (λ n. AreBound (rec_env env group) (closures_from n group)) zeros (group_bound 0 group (λ j f e. let same : j ≡ 0 + j = omega arith in subst (λ n. slice_get group n ≡ Some f) same e))) (picks_sub env menv us picks are)

  -- ---- What a term says of its value

  abbrev pub IsAt : Value → (Address → Type 0) → Type 0
  IsAt v P = (a : Address) × (v ≡ At a) × P a

  abbrev pub IsOf : Term → Value → Type 0
  IsOf (t.Number z) v = v ≡ m.Number z
  IsOf (t.Letter c) v = v ≡ m.Letter c
  IsOf (t.Text bytes) v = bytes_of p w.store v ≡ Some bytes
  IsOf (Record no_terms) v = v ≡ m.Nothing
  IsOf (Record (more_terms u fields)) v = IsAt v (λ a. (us : List Value) × (slice_get w.store a ≡ Some (Tuple us)) × Are p w (u ∷ listed fields) us)
  IsOf (t.Tag n) v = v ≡ m.Tag n
  IsOf (t.Applied n u) v = IsAt v (λ a. (x : Value) × (slice_get w.store a ≡ Some (Applied n x)) × Is u x)
  IsOf (t.Builtin f) v = v ≡ m.Builtin f
  IsOf (t.Maker n) v = v ≡ m.Maker n
  IsOf t.RefMaker v = v ≡ m.RefMaker
  IsOf (t.Library e) v = v ≡ m.Library e
  IsOf (t.Name n) v = IsAt v (λ a. slice_get w.exns n ≡ Some a)
  IsOf (t.Packet x u) v = IsAt v (λ a. (y z : Value) × (slice_get w.store a ≡ Some (Packet y z)) × Is x y × Is u z)
  IsOf (t.Cell n) v = IsAt v (λ a. slice_get w.cells n ≡ Some a)
  IsOf (Function rules env group) v = IsAt v (λ a. (i : ℕ) × (menv : m.Env) × (slice_get w.store a ≡ Some (Closure i rules menv)) × Sub (rec_env env group over env) menv)

  abbrev View : List Term → List Value → Type 0
  View [] [] = Unit {0}
  View (u ∷ us) (v ∷ vs) = IsOf u v
  View _ _ = ⊥

  view_all : (ts : List Term) (vs : List Value) → Are p w ts vs → View ts vs
  view_all ts vs r.done = tt
  view_all ts vs (r.text bytes v ts' vs' e h) = e
  view_all ts vs (r.tuple x fields a us ts' vs' e g h) = (a, refl, (us, e, g))
  view_all ts vs (r.applied n x a v ts' vs' e g h) = (a, refl, (v, e, g))
  view_all ts vs (r.name n a ts' vs' e h) = (a, refl, e)
  view_all ts vs (r.packet x y a q v ts' vs' e g h) =
      let s = split (x ∷ y ∷ []) (q ∷ v ∷ []) g in (a, refl, (q, v, e, s.0, s.1))
  view_all ts vs (r.cell n a ts' vs' e h) = (a, refl, e)
  view_all ts vs (r.function rules env a i menv us ts' vs' e k g h) = (a, refl, (i, menv, e, picks_sub env menv us k g))
  view_all ts vs (r.recursive rules env group a b j x menv us ts' vs' e f st k g h) =
      let s = st j (x, rules) f in
      (a, refl, (s.0, cut s.1 (closures_from b group ++ menv), ap (slice_get w.store) e ∙ s.2, sub_cut (rec_env env group over env) (closures_from b group ++ menv) s.1 (group_sub env group b menv st us k g)))
  view_all ts vs _ = refl

  pub view_of : (u : Term) (v : Value) → Is u v → IsOf u v
  view_of u v h = view_all (u ∷ []) (v ∷ []) h

pub env_later : (p : Bare) (w x : World) → Later w x → (env : Env) (menv : m.Env) → EnvIs p w env menv → EnvIs p x env menv
env_later p w x l env menv h = record { us = h.us; picks = h.picks; are = are_later p w x l h.us (values_in menv) h.are }

pub sub_later : (p : Bare) (w x : World) → Later w x → (env : Env) (menv : m.Env) → Sub p w env menv → Sub p x env menv
sub_later p w x l env menv h y v e = let g = h y v e in (g.0, g.1, are_later p w x l (g.0 ∷ []) (v ∷ []) g.2)
