-- The machine follows the rules of declarations.
use Rattle.std.proofs.Common.{◌≡◌, ℕ, zero, suc, ◌+◌, ◌<◌, ◌≤◌, Bool, true, false, List, [], ◌∷◌, ◌++◌, length, Option, Some, None, refl, sym, ap, ◌∙◌, subst, arith}
use Rattle.std.specs.Prelude.{slice_get, flat_map, nat_eq}
use Rattle.std.specs.List.{AllByRecursion}
use Rattle.std.proofs.lemmas.Bool.{eq-eqb}
use Rattle.sml_tree.specs.declared.bare.Bare.{Bare}
use Rattle.sml_tree.specs.declared.bare.Node.{Node}
use Rattle.sml_tree.specs.declared.bare.Node.TheVariants as node
use Rattle.sml_tree.specs.declared.bare.Con.{Con}
use Rattle.sml_tree.specs.declared.bare.Con.TheVariants as con
use Rattle.sml_tree.specs.declared.bare.Rule.{Rule}
use Rattle.sml_tree.specs.declared.bare.Binding.{Binding}
use Rattle.sml_tree.specs.declared.bare.RecBinding.{RecBinding}
use Rattle.smlc_base.specs.declared.exception.LibraryExn.TheVariants as exn
use Rattle.sml_tree.specs.BareParts.{IsNumbered}
use Rattle.sml_tree.specs.Sets.{has, without}
use Rattle.sml_tree.specs.Free.{free, binds, free_rest, exception_of}
use Rattle.sml_tree.proofs.Members.{IsWithin, within_left, or_left}
use Rattle.sml_tree.proofs.FreeParts.{free_unfold}
use Rattle.simulation.proofs.Machines.{stay}
use Rattle.simulation.proofs.Lists.{get_past}
use Rattle.sml_def.specs.Maybe.{◌>>=◌, or_else}
use Rattle.sml_def.specs.State.{Value, At, Address, Awaits, RightSide, Block, ExnName, Closure, Frame, Control, Eval, Ret, Apply, Raise, cut}
use Rattle.sml_def.specs.State as m
use Rattle.sml_def.specs.Memory.{going, making_all}
use Rattle.sml_def.specs.Match as matching
use Rattle.sml_def.specs.Step.{step, eval_dec, declare, env_of, env_of_rest, group_env, closures, closure_of, function_at}
use Rattle.sml_def.specs.Cut.{names}
use Rattle.sml_def.proofs.Cut.{look_has}
use Rattle.match_laws.specs.Law.{HasNames}
use Rattle.sane_laws.specs.Sane.{SaneReturn}
use Rattle.sml_rules.specs.Terms.{Term, Function, Env, nowhere, bind, look, ◌over◌, rec_env, State, Result, Gives, Raises, Deeper, Stuck, ◌then◌, given}
use Rattle.sml_rules.specs.Terms as t
use Rattle.sml_rules.specs.Patterns.{Fit, Fits, Fails, TooDeep, pat}
use Rattle.sml_rules.specs.Patterns as patterns
use Rattle.sml_rules.specs.Rules.{evaluate, dec_of, dec_at, functions, bindings_of, bound_to, with_name}
use Rattle.sml_rules.proofs.Scopes.{UsesNone, Apart}
use Rattle.sml_rules.proofs.Relation.{World, Are, Later, later_refl, later_trans, are_later, closures_from, Stand}
use Rattle.sml_rules.proofs.Relation as r
use Rattle.sml_rules.proofs.Environments.{Is, Sub, EnvIs, env_sub, cut_sub, sub_cut, look_cut, over_sub, group_sub, env_later, sub_later}
use Rattle.sml_rules.proofs.Forms.{Holds}
use Rattle.sml_rules.proofs.Fitting.{SubOn, FitIs, pat_fits}
use Rattle.sml_rules.proofs.Binding.{look_over, over_assoc, cut_on, Lacks, BindsOnly, pat_binds}
use Rattle.sml_rules.proofs.Worlds.{new_exn, exn_later, exn_last, exn_holds}
use Rattle.sml_rules.proofs.Follows.{Kept, Conf, conf, memory, with_blocks, M, more_later, more_holds, step_is, Follows, Back, walk_on, step_on, raised_here, deep_here, stuck_here}
use Rattle.sml_rules.proofs.Expressions.{Exp, Builtins, part, back_to, eval_is}

pub then_assoc : {A B C : Type 0} (q : Result A) (f : A → State → Result B) (g : B → State → Result C) → ((q then f) then g) ≡ (q then (λ a s. f a s then g))
then_assoc (Gives a s) f g = refl
then_assoc _ f g = refl

pub then_same : {A B : Type 0} (q : Result A) (f g : A → State → Result B) → ((a : A) (s : State) → f a s ≡ g a s) → (q then f) ≡ (q then g)
then_same (Gives a s) f g h = h a s
then_same _ f g h = refl

-- the variables of bindings have no value in front of the environment
abbrev pub Unbound : Bare → Env → Binding → Type 0
Unbound p inner c =
    ((x : ℕ) → has (free p.nodes c.pat) x ≡ true → look inner x ≡ None) × ((x : ℕ) → has (free p.nodes c.right) x ≡ true → look inner x ≡ None)

-- ---- Groups of functions

module _ (p : Bare) (all : m.Env) where
  abbrev pub GroupIs : List RecBinding → Option (List (ℕ × List Rule)) → Option (List Block) → Type 0
  GroupIs bindings None o = o ≡ None
  GroupIs bindings (Some group) o = (blocks : List Block) × (o ≡ Some blocks) × ((a : Address) → group_env p a bindings ≡ closures_from a group) × ((j : ℕ) (f : ℕ × List Rule) → slice_get group j ≡ Some f → (i : ℕ) × (xs : List ℕ) × (slice_get blocks j ≡ Some (Closure i f.1 (cut xs all))))

  group_more : (b : RecBinding) (bindings : List RecBinding) (f : Option (ℕ × List Rule)) (group : Option (List (ℕ × List Rule))) (o : Option (List Block)) → GroupIs bindings group o → GroupIs (b ∷ bindings) (f >>= (λ f. group >>= (λ others. Some ((b.name.0, f.1) ∷ others)))) (closure_of p all f >>= (λ c. o >>= (λ others. Some (c ∷ others))))
  group_more b bindings None group o h = refl
  group_more b bindings (Some f) None o h =
      ap (λ q. q >>= (λ others. Some (Closure f.0 f.1 (env_of p f.0 all) ∷ others))) h
  group_more b bindings (Some f) (Some group) o h =
      (Closure f.0 f.1 (env_of p f.0 all) ∷ h.0, ap (λ q. q >>= (λ others. Some (Closure f.0 f.1 (env_of p f.0 all) ∷ others))) h.1, (λ a. ap (λ env. (b.name.0, At a) ∷ env) (h.2 (suc a))), at)
    where
      at : (j : ℕ) (g : ℕ × List Rule) → slice_get ((b.name.0, f.1) ∷ group) j ≡ Some g → (i : ℕ) × (xs : List ℕ) × (slice_get (Closure f.0 f.1 (env_of p f.0 all) ∷ h.0) j ≡ Some (Closure i g.1 (cut xs all)))
      at zero g e =
          let same : f.1 ≡ g.1 = (let k : (b.name.0, f.1) ≡ g = cc in ap (λ x. x.1) k) in
          (f.0, free p.nodes f.0, ap (λ rules. Some (Closure f.0 rules (env_of p f.0 all))) same)
      at (suc j) g e = h.3 j g e

  pub group_is : (bindings : List RecBinding) → GroupIs bindings (functions p bindings) (closures p all bindings)
  group_is [] = ([], refl, (λ a. refl), (λ j f e. absurd cc))
  group_is (b ∷ bindings) =
      group_more b bindings (function_at p.nodes b.right) (functions p bindings) (closures p all bindings) (group_is bindings)

module _ (p : Bare) (Inv : Conf → Type 0) (kept : Kept p Inv) (numbered : IsNumbered p.nodes) (builtins : Builtins p Inv kept) (d : ℕ) (exp : Exp p Inv kept d) (after : Exp p Inv kept (suc d)) where
  abbrev pats : Env → List Term → ℕ → Term → Fit Env
  pats e mem = pat p e mem d

  abbrev ex : Env → ℕ → State → Result Term
  ex = (evaluate p d).0

  abbrev de : Env → ℕ → State → Result Env
  de = (evaluate p d).1

  module _ (env : Env) (k : Option Address) (body : ℕ) where
    -- what comes behind a declaration that gives these bindings
    abbrev on_body : Env → State → Result Term
    on_body inner = (evaluate p (suc d)).0 (inner over env) body

    abbrev Goal : Control → State → World → Result Term → Type 0
    Goal c s w q = Follows p (Back p k) k (suc (suc d)) (conf c s w) w q

    body_next : (inner : Env) (menv : m.Env) (c : Control) (s s2 : State) (w w2 : World) → (M p).step (conf c s w) ≡ Some (conf (Eval body (env_of p body menv) k) s2 w2) → Later w w2 → Holds p w2 s2 → Sub p w2 (inner over env) menv → Inv (conf c s w) → Goal c s w (on_body inner s2)
    body_next inner menv c s s2 w w2 e l h is inv =
        step_on p (Back p k) k (suc (suc d)) (suc d) (conf c s w) (conf (Eval body (env_of p body menv) k) s2 w2) w w2 (on_body inner s2) e l (omega arith) (after body (inner over env) (env_of p body menv) k s2 w2 (cut_sub p w2 (inner over env) menv is (free p.nodes body)) h (kept.step _ _ inv e))

    -- ---- Value bindings

    bindings_follow : (bindings : List Binding) (inner : Env) (menv : m.Env) (c : Control) (s : State) (w : World) → step p (memory s w) c ≡ declare p (memory s w) bindings body menv k → Sub p w (inner over env) menv → AllByRecursion (Unbound p inner) bindings → Apart p bindings → AllByRecursion (λ b. b.pat ≤ length p.nodes) bindings → Holds p w s → Inv (conf c s w) → Goal c s w (bindings_of p pats ex de env inner bindings s then on_body)
    bindings_follow [] inner menv c s w e is un apart below h inv =
        body_next inner menv c s s w w (step_is p c s w _ e) (later_refl w) h is inv
    bindings_follow (b ∷ later) inner menv c s w e is un apart below h inv =
        subst (Goal c s w) (sym (then_assoc (ex env b.right s then (λ v t. bound_to p pats ex de (pats env t.memory b.pat v) t)) (λ bound. bindings_of p pats ex de env (bound over inner) later) on_body ∙ then_assoc (ex env b.right s) (λ v t. bound_to p pats ex de (pats env t.memory b.pat v) t) (λ bound t. bindings_of p pats ex de env (bound over inner) later t then on_body))) (part p Inv kept numbered builtins d exp (Back p k) k (suc (suc d)) c s w (RightSide b later body menvf) b.right env (env_of p b.right menv) (λ v t. bound_to p pats ex de (pats env t.memory b.pat v) t then rest) e tt right_is h inv (omega arith) (λ u s1 w1 v l1 h1 i1 f1 v1.
        let moves = back_to p Inv kept numbered builtins d exp (Ret v k) s1 w1 (length w.store) (RightSide b later body menvf) v k f1 in
        let sane : HasNames w1.store menvf (free p.nodes b.pat) = (subst (λ o. SaneReturn p w1.store o v) f1 (kept.sane (conf (Ret v (Some (length w.store))) s1 w1) v1)).1 in
        let on : SubOn p w1 (free p.nodes b.pat) env menvf = λ x v q z. let g = is x v (look_cut p w menv (free_rest (binds p.nodes) (free p.nodes) b later body) x v z).0 in (g.0, sym (look_over inner env x (un.0.0 x q)) ∙ g.1, are_later p w w1 l1 (g.0 ∷ []) (v ∷ []) g.2) in
        matched (length w.store) v s1 w1 (pats env s1.memory b.pat u) (matching.fits p menvf w1.store b.pat v) l1 h1 v1 moves (pat_fits p w1 s1 h1 env menvf (free p.nodes b.pat) on sane numbered d b.pat below.0 (λ z q. q) u v i1) (pat_binds p env s1.memory numbered d b.pat u) (bindings_follow later)))
      where
        menvf : m.Env
        menvf = env_of_rest p b later body menv

        rest : Env → State → Result Term
        rest bound t = bindings_of p pats ex de env (bound over inner) later t then on_body

        right_is : EnvIs p w env (env_of p b.right menv)
        right_is =
            cut_on p w env menv (free p.nodes b.right) (λ x v q z. let g = is x v z in (g.0, sym (look_over inner env x (un.0.1 x q)) ∙ g.1, g.2))

        more_unbound : (bound : Env) → Lacks (binds p.nodes b.pat) bound → (cs : List Binding) → AllByRecursion (Unbound p inner) cs → AllByRecursion (UsesNone p b.pat) cs → AllByRecursion (Unbound p (bound over inner)) cs
        more_unbound bound lacks [] h g = tt
        more_unbound bound lacks (x ∷ cs) h g =
            (((λ y e. look_over bound inner y (lacks y (not_bound y (λ i. let j = (g.0 y i).0 in absurd cc))) ∙ h.0.0 y e), (λ y e. look_over bound inner y (lacks y (not_bound y (λ i. let j = (g.0 y i).1 in absurd cc))) ∙ h.0.1 y e)), more_unbound bound lacks cs h.1 g.1)
          where
            not_bound : (y : ℕ) → (has (binds p.nodes b.pat) y ≡ true → ⊥) → has (binds p.nodes b.pat) y ≡ false
            not_bound y f = go (has (binds p.nodes b.pat) y) refl f
              where
                go : (q : Bool) → has (binds p.nodes b.pat) y ≡ q → (q ≡ true → ⊥) → q ≡ false
                go true e f = absurd (f refl)
                go false e f = refl

        -- the value of the right side is matched
        module_goal : Address → Value → State → World → Result Term → Type 0
        module_goal a v s1 w1 q = Follows p (Back p k) k d (conf (Ret v (Some a)) s1 w1) w1 q

        matched : (a : Address) (v : Value) (s1 : State) (w1 : World) (q : Fit Env) (o : Option m.Env) → Later w w1 → Holds p w1 s1 → Inv (conf (Ret v (Some a)) s1 w1) → step p (memory s1 w1) (Ret v (Some a)) ≡ or_else o (λ bound. declare p (memory s1 w1) later body (bound ++ menvf) k) (going (memory s1 w1) (Raise (m.Library exn.BindExn) k)) → FitIs p w1 (d + b.pat ≤ length p.nodes) q o → BindsOnly (binds p.nodes b.pat) q → ((inner : Env) (menv : m.Env) (c : Control) (s : State) (w : World) → step p (memory s w) c ≡ declare p (memory s w) later body menv k → Sub p w (inner over env) menv → AllByRecursion (Unbound p inner) later → Apart p later → AllByRecursion (λ b. b.pat ≤ length p.nodes) later → Holds p w s → Inv (conf c s w) → Goal c s w (bindings_of p pats ex de env inner later s then on_body)) → module_goal a v s1 w1 (bound_to p pats ex de q s1 then rest)
        matched a v s1 w1 (Fits bnd) o l1 h1 v1 moves fit only again =
            let here : step p (memory s1 w1) (Ret v (Some a)) ≡ declare p (memory s1 w1) later body (fit.0 ++ menvf) k = moves ∙ ap (λ n. or_else n (λ bound. declare p (memory s1 w1) later body (bound ++ menvf) k) (going (memory s1 w1) (Raise (m.Library exn.BindExn) k))) fit.1 in
            let frame_sub : Sub p w1 (inner over env) menvf = sub_later p w w1 l1 (inner over env) menvf (sub_cut p w (inner over env) menv (free_rest (binds p.nodes) (free p.nodes) b later body) is) in
            let both : Sub p w1 ((bnd over inner) over env) (fit.0 ++ menvf) = subst (λ x. Sub p w1 x (fit.0 ++ menvf)) (sym (over_assoc bnd inner env)) (over_sub p w1 bnd (inner over env) fit.0 menvf fit.2 frame_sub) in
            walk_on p (Back p k) k d (suc (suc d)) 0 (conf (Ret v (Some a)) s1 w1) (conf (Ret v (Some a)) s1 w1) w1 w1 (rest bnd s1) (stay (conf (Ret v (Some a)) s1 w1)) (later_refl w1) (omega arith) (again (bnd over inner) (fit.0 ++ menvf) (Ret v (Some a)) s1 w1 here both (more_unbound bnd only later un.1 apart.0) apart.1 below.1 h1 v1)
        matched a v s1 w1 Fails o l1 h1 v1 moves fit only again =
            let here : step p (memory s1 w1) (Ret v (Some a)) ≡ going (memory s1 w1) (Raise (m.Library exn.BindExn) k) = moves ∙ ap (λ n. or_else n (λ bound. declare p (memory s1 w1) later body (bound ++ menvf) k) (going (memory s1 w1) (Raise (m.Library exn.BindExn) k))) fit in
            step_on p (Back p k) k d d (conf (Ret v (Some a)) s1 w1) (conf (Raise (m.Library exn.BindExn) k) s1 w1) w1 w1 (Raises (t.Library exn.BindExn) s1) (step_is p (Ret v (Some a)) s1 w1 _ here) (later_refl w1) (omega arith) (raised_here p (Back p k) k d s1 w1 (t.Library exn.BindExn) (m.Library exn.BindExn) h1 (r.library exn.BindExn [] [] r.done))
        matched a v s1 w1 TooDeep o l1 h1 v1 moves fit only again = deep_here p (Back p k) k d (Ret v (Some a)) s1 w1 (omega (arith, fit))

    -- ---- Declarations, form by form

    module _ (i : ℕ) (menv : m.Env) (s : State) (w : World) (is : EnvIs p w env menv) (holds : Holds p w s) (inv : Inv (conf (Eval i menv k) s w)) where
      abbrev start : Control
      start = Eval i menv k

      here_sub : Sub p w env menv
      here_sub = env_sub p w env menv is

      -- ---- val rec

      rec_follows : (bindings : List RecBinding) (q : Option (List (ℕ × List Rule))) (o : Option (List Block)) → step p (memory s w) start ≡ (o >>= (λ blocks. making_all (memory s w) blocks (Eval body (env_of p body (group_env p (length w.store) bindings ++ menv)) k))) → GroupIs p (group_env p (length w.store) bindings ++ menv) bindings q o → Goal start s w (given q (λ group. Gives (rec_env env group)) s then on_body)
      rec_follows bindings None o e h =
          stuck_here p (Back p k) k (suc (suc d)) start s w (e ∙ ap (λ n. n >>= (λ blocks. making_all (memory s w) blocks (Eval body (env_of p body (group_env p (length w.store) bindings ++ menv)) k))) h) refl
      rec_follows bindings (Some group) o e h =
          let a : Address = length w.store in
          let all : m.Env = group_env p a bindings ++ menv in
          let w2 : World = with_blocks w h.0 in
          let same : all ≡ closures_from a group ++ menv = ap (λ x. x ++ menv) (h.2 a) in
          let l : Later w w2 = more_later p w h.0 in
          let is2 : EnvIs p w2 env menv = env_later p w w2 l env menv is in
          let stand : Stand w2.store a group menv = λ j g q. let y = h.3 j g q in (y.0, y.1, get_past w.store h.0 j ∙ y.2 ∙ ap (λ x. Some (Closure y.0 g.1 (cut y.1 x))) same) in
          let group_is_sub : Sub p w2 (rec_env env group over env) all = subst (Sub p w2 (rec_env env group over env)) (sym same) (group_sub p w2 env group a menv stand is2.us is2.picks is2.are) in
          body_next (rec_env env group) all start s s w w2 (step_is p start s w _ (e ∙ ap (λ n. n >>= (λ blocks. making_all (memory s w) blocks (Eval body (env_of p body all) k))) h.1)) l (more_holds p w h.0 s holds) group_is_sub inv

      -- ---- exception A = B

      same_follows : (x : ℕ) (o : Option Term) (q : Option Value) (u : Term) (v : Value) → o ≡ Some u → q ≡ Some v → Is p w u v → step p (memory s w) start ≡ (q >>= (λ v. going (memory s w) (Eval body (env_of p body ((x, v) ∷ menv)) k))) → Goal start s w (given o (λ v. Gives (bind x v nowhere)) s then on_body)
      same_follows x o q u v eo eq i1 e =
          subst (λ n. Goal start s w (given n (λ v. Gives (bind x v nowhere)) s then on_body)) (sym eo) (body_next (bind x u nowhere) ((x, v) ∷ menv) start s s w w (step_is p start s w _ (e ∙ ap (λ n. n >>= (λ v. going (memory s w) (Eval body (env_of p body ((x, v) ∷ menv)) k))) eq)) (later_refl w) holds (over_sub p w (bind x u nowhere) env ((x, v) ∷ []) menv (refl, i1, tt) here_sub) inv)

      renamed : (x : ℕ) (c : Con) → IsWithin (exception_of c) (names menv) → step p (memory s w) start ≡ (matching.con_value menv c >>= (λ v. going (memory s w) (Eval body (env_of p body ((x, v) ∷ menv)) k))) → Goal start s w (given (patterns.con_value env c) (λ v. Gives (bind x v nowhere)) s then on_body)
      renamed x (con.Data ty n true) h e = same_follows x _ _ (t.Maker n) (m.Maker n) refl refl (r.maker n [] [] r.done) e
      renamed x (con.Data ty n false) h e = same_follows x _ _ (t.Tag n) (m.Tag n) refl refl (r.tag n [] [] r.done) e
      renamed x con.Ref h e = same_follows x _ _ t.RefMaker m.RefMaker refl refl (r.ref_maker [] [] r.done) e
      renamed x (con.Library y) h e = same_follows x _ _ (t.Library y) (m.Library y) refl refl (r.library y [] [] r.done) e
      renamed x (con.Exn y takes) h e =
          let a = look_has menv y.0 (h y.0 (or_left (nat_eq y.0 y.0) false (eq-eqb y.0 y.0 refl))) in
          let b = here_sub y.0 a.0 a.1 in
          same_follows x (look env y.0) (m.look menv y.0) b.0 a.0 b.1 a.1 b.2 e

      all_unbound : (cs : List Binding) → AllByRecursion (Unbound p nowhere) cs
      all_unbound [] = tt
      all_unbound (c ∷ cs) = (((λ x e. refl), (λ x e. refl)), all_unbound cs)

      pats_below : (at : ℕ) (cs : List Binding) → AllByRecursion (λ c. (at < c) × (c < length p.nodes)) (flat_map (λ b. b.pat ∷ b.right ∷ []) cs) → AllByRecursion (λ b. b.pat ≤ length p.nodes) cs
      pats_below at [] h = tt
      pats_below at (c ∷ cs) h = (omega (arith, h.0.1), pats_below at cs h.1.1)

      dec_follows : (dd : ℕ) (n : Node) → slice_get p.nodes dd ≡ Some n → ((tyvars : _) (bindings : _) → n ≡ node.Val tyvars bindings → Apart p bindings) → IsWithin (free p.nodes dd) (names menv) → step p (memory s w) start ≡ eval_dec p (memory s w) body n menv k → Goal start s w (dec_of p pats ex de env n s then on_body)
      dec_follows dd (node.Val tyvars bindings) g apart h e =
          bindings_follow bindings nowhere menv start s w e here_sub (all_unbound bindings) (apart tyvars bindings refl) (pats_below dd bindings (numbered dd (node.Val tyvars bindings) g)) holds inv
      dec_follows dd (node.ValRec tyvars bindings) g apart h e =
          rec_follows bindings (functions p bindings) (closures p (group_env p (length w.store) bindings ++ menv) bindings) e (group_is p (group_env p (length w.store) bindings ++ menv) bindings)
      dec_follows dd (node.Type bindings) g apart h e =
          body_next nowhere menv start s s w w (step_is p start s w _ e) (later_refl w) holds here_sub inv
      dec_follows dd (node.Datatype bindings) g apart h e =
          body_next nowhere menv start s s w w (step_is p start s w _ e) (later_refl w) holds here_sub inv
      dec_follows dd (node.Exception x ty) g apart h e =
          body_next (bind x.0 (t.Name (length s.names)) nowhere) ((x.0, At (length w.store)) ∷ menv) start s (with_name x.0 s) w (new_exn w x.0) (step_is p start s w _ e) (exn_later p w s holds x.0) (exn_holds p w s holds x.0) (over_sub p (new_exn w x.0) (bind x.0 (t.Name (length s.names)) nowhere) env ((x.0, At (length w.store)) ∷ []) menv (refl, r.name (length s.names) (length w.store) [] [] (exn_last p w s holds) r.done, tt) (sub_later p w (new_exn w x.0) (exn_later p w s holds x.0) env menv here_sub)) inv
      dec_follows dd (node.SameException x c) g apart h e =
          renamed x.0 c (λ z q. h z (ap (λ xs. has xs z) (free_unfold p.nodes numbered dd (node.SameException x c) g) ∙ q)) e
      dec_follows dd _ g apart h e = stuck_here p (Back p k) k (suc (suc d)) start s w e refl

      pub let_follows : (dd : ℕ) → ((tyvars : _) (bindings : _) → slice_get p.nodes dd ≡ Some (node.Val tyvars bindings) → Apart p bindings) → slice_get p.nodes i ≡ Some (node.Let dd body) → Goal start s w ((evaluate p (suc d)).1 env dd s then on_body)
      let_follows dd apart e =
          go (slice_get p.nodes dd) refl (eval_is p Inv kept numbered builtins d exp i (node.Let dd body) menv k s w e)
        where
          inside : IsWithin (free p.nodes dd) (names menv)
          inside z q =
              ap (λ ns. has ns z) ((kept.cut (conf start s w) inv).control ∙ free_unfold p.nodes numbered i (node.Let dd body) e) ∙ within_left (free p.nodes dd) (without (free p.nodes body) (binds p.nodes dd)) z q

          go : (o : Option Node) → slice_get p.nodes dd ≡ o → step p (memory s w) start ≡ (o >>= (λ n. eval_dec p (memory s w) body n menv k)) → Goal start s w (dec_at p pats ex de env o s then on_body)
          go None g f = stuck_here p (Back p k) k (suc (suc d)) start s w f refl
          go (Some n) g f = dec_follows dd n g (λ tyvars bindings q. apart tyvars bindings (g ∙ ap (λ x. Some x) q)) inside f
