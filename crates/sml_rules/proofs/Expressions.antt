-- The machine follows the rules of expressions.
use Rattle.std.proofs.Common.{◌≡◌, ℕ, suc, ◌+◌, ◌<◌, ◌≤◌, true, false, List, [], ◌∷◌, ◌++◌, length, Option, Some, refl, sym, ap, ◌∙◌, subst, arith}
use Rattle.std.specs.Prelude.{slice_get, flat_map, nat_eq}
use Rattle.std.proofs.lemmas.Bool.{eq-eqb}
use Rattle.std.specs.List.{AllByRecursion}
use Rattle.smlc_base.specs.declared.primitive.Primitive.{Primitive}
use Rattle.sml_tree.specs.declared.bare.Bare.{Bare}
use Rattle.sml_tree.specs.declared.bare.Node.{Node}
use Rattle.sml_tree.specs.declared.bare.Node.TheVariants as node
use Rattle.sml_tree.specs.declared.bare.Con.{Con}
use Rattle.sml_tree.specs.declared.bare.Con.TheVariants as con
use Rattle.sml_tree.specs.declared.bare.Rule.{Rule}
use Rattle.smlc_base.specs.declared.exception.LibraryExn.TheVariants as exn
use Rattle.sml_tree.specs.BareParts.{IsNumbered, node_parts, rule_parts}
use Rattle.sml_tree.specs.Sets.{has, union_over}
use Rattle.sml_tree.specs.Free.{free, binds, free_of, free_match}
use Rattle.sml_tree.proofs.Members.{IsWithin, within_head, within_tail, or_left}
use Rattle.sml_tree.proofs.FreeParts.{free_unfold}
use Rattle.simulation.proofs.Machines.{Walks}
use Rattle.simulation.proofs.Lists.{get_last, get_below}
use Rattle.sml_def.specs.Maybe.{◌>>=◌, or_else}
use Rattle.sml_def.specs.State.{Value, At, Address, Awaits, FunctionPart, ArgumentPart, FieldPart, Subject, RightSide, RaisePart, Guarded, Block, Applied, Packet, Cell, ExnName, Closure, Frame, Control, Eval, Ret, Apply, Raise, cut}
use Rattle.sml_def.specs.State as m
use Rattle.sml_def.specs.Memory.{going, making, awaiting}
use Rattle.sml_def.specs.Match.{block_of}
use Rattle.sml_def.specs.Match as matching
use Rattle.sml_def.specs.Step.{step, eval, by_rule, resume, ret, apply_block, raised, env_of, env_of_match}
use Rattle.sml_def.specs.Cut.{names, IsCutBlock}
use Rattle.sml_def.proofs.Effects.{all_get}
use Rattle.sml_def.proofs.Options.{if_some}
use Rattle.sml_def.proofs.Cut.{look_has}
use Rattle.match_laws.specs.Law.{HasNames}
use Rattle.sane_laws.specs.Sane.{SaneReturn, SaneEnter, SaneRaise}
use Rattle.sml_rules.specs.Terms.{Term, Record, Function, no_terms, Env, nowhere, bind, look, ◌over◌, rec_env, State, Result, Gives, Raises, Deeper, Stuck, ◌then◌, given}
use Rattle.sml_rules.specs.Terms as t
use Rattle.sml_rules.specs.Patterns.{Fit, Fits, Fails, TooDeep, pat, first_rule}
use Rattle.sml_rules.specs.Patterns as patterns
use Rattle.sml_rules.specs.Apply as basic
use Rattle.sml_rules.specs.Rules.{evaluate, exp_of, exp_at, dec_of, with_cell}
use Rattle.sml_rules.specs.Rules as evaluation
use Rattle.sml_rules.proofs.Relation.{World, Are, Later, later_refl, later_trans, are_later}
use Rattle.sml_rules.proofs.Relation as r
use Rattle.sml_rules.proofs.Environments.{Is, Sub, EnvIs, env_sub, cut_sub, over_sub, env_later}
use Rattle.sml_rules.proofs.Forms.{Holds, Form, form}
use Rattle.sml_rules.proofs.Forms as f
use Rattle.sml_rules.proofs.Fitting.{RuleIs, rules_fit}
use Rattle.sml_rules.proofs.Worlds.{new_cell, cell_later, cell_last, cell_holds}
use Rattle.sml_rules.proofs.Follows.{Kept, Conf, conf, memory, with_blocks, M, Any, more_later, more_holds, step_is, Follows, Back, walk_on, step_on, here, raised_here, deep_here, stuck_here, inv_walk, IsPlain, sub}

-- the rules of a match have patterns of the tree
pub rules_below : (i n : ℕ) (rules : List Rule) → AllByRecursion (λ c. (i < c) × (c < n)) (flat_map rule_parts rules) → AllByRecursion (λ x. x.pat ≤ n) rules
rules_below i n [] h = tt
rules_below i n (x ∷ rules) h = (omega (arith, h.0.1), rules_below i n rules h.1.1)

module _ (p : Bare) (Inv : Conf → Type 0) (kept : Kept p Inv) where
  -- the exception constructors of a match's patterns
  abbrev pattern_names : List Rule → List ℕ
  pattern_names rules = union_over (λ x. free p.nodes x.pat) rules

  pats_in : (rules all : List Rule) → AllByRecursion (λ x. x.pat ≤ length p.nodes) rules → IsWithin (pattern_names rules) (pattern_names all) → AllByRecursion (λ x. (x.pat ≤ length p.nodes) × IsWithin (free p.nodes x.pat) (pattern_names all)) rules
  pats_in [] all h k = tt
  pats_in (x ∷ rules) all h k =
      ((h.0, (λ z e. k z (within_head (λ y. free p.nodes y.pat) x rules z e))), pats_in rules all h.1 (λ z e. k z (within_tail (λ y. free p.nodes y.pat) x rules z e)))

  -- what evaluation of a node is to be followed by, for derivations of depth d
  abbrev pub Exp : ℕ → Type 0
  Exp d =
      (i : ℕ) (env : Env) (menv : m.Env) (k : Option Address) (s : State) (w : World) → EnvIs p w env menv → Holds p w s → Inv (conf (Eval i menv k) s w) → Follows p (Back p k) k d (conf (Eval i menv k) s w) w ((evaluate p d).0 env i s)

  -- the basic values on their arguments
  abbrev pub Builtins : Type 0
  Builtins =
      (g : Primitive) (u : Term) (v : Value) (k : Option Address) (need : ℕ) (s : State) (w : World) → Holds p w s → Is p w u v → Inv (conf (Apply (m.Builtin g) v k) s w) → Follows p (Back p k) k need (conf (Apply (m.Builtin g) v k) s w) w (basic.builtin g u s)

  -- what the frame at an address holds
  pub frame_cut : (c : Control) (s : State) (w : World) (a : Address) (b : Block) → Inv (conf c s w) → slice_get w.store a ≡ Some b → IsCutBlock p b
  frame_cut c s w a b inv e =
      if_some (IsCutBlock p) (slice_get w.store a) b e (all_get (IsCutBlock p) w.store a (kept.cut (conf c s w) inv).store)

  module _ (numbered : IsNumbered p.nodes) (builtins : Builtins) (d : ℕ) (exp : Exp d) where
    abbrev pats : Env → List Term → ℕ → Term → Fit Env
    pats e mem = pat p e mem d

    -- ---- Matches

    abbrev free_of_match : List Rule → List ℕ
    free_of_match rules = free_match (binds p.nodes) (free p.nodes) rules

    module _ (env : Env) (menv : m.Env) (rules : List Rule) (c other : Control) (k : Option Address) (s : State) (w : World) (holds : Holds p w s) (inv : Inv (conf c s w)) (rother : Result Term) (is_sub : Sub p w env menv) (sane : HasNames w.store menv (pattern_names rules)) (otherwise : Follows p (Back p k) k d (conf other s w) w rother) where
      by_follows : (q : Fit (Env × ℕ)) (o : Option (m.Env × ℕ)) → step p (memory s w) c ≡ or_else o (λ x. going (memory s w) (Eval x.1 (env_of p x.1 (x.0 ++ menv)) k)) (going (memory s w) other) → RuleIs p w (d ≤ length p.nodes) q o → Follows p (Back p k) k d (conf c s w) w (evaluation.by_rule p pats (evaluate p d).0 (evaluate p d).1 q env rother s)
      by_follows (Fits x) o e h =
          let here : step p (memory s w) c ≡ going (memory s w) (Eval x.1 (env_of p x.1 (h.0 ++ menv)) k) = e ∙ ap (λ n. or_else n (λ x. going (memory s w) (Eval x.1 (env_of p x.1 (x.0 ++ menv)) k)) (going (memory s w) other)) h.1 in
          let moves = step_is p c s w _ here in
          step_on p (Back p k) k d d (conf c s w) (conf (Eval x.1 (env_of p x.1 (h.0 ++ menv)) k) s w) w w _ moves (later_refl w) (omega arith) (exp x.1 (x.0 over env) (env_of p x.1 (h.0 ++ menv)) k s w (cut_sub p w (x.0 over env) (h.0 ++ menv) (over_sub p w x.0 env h.0 menv h.2 is_sub) (free p.nodes x.1)) holds (kept.step (conf c s w) (conf (Eval x.1 (env_of p x.1 (h.0 ++ menv)) k) s w) inv moves))
      by_follows Fails o e h =
          let here : step p (memory s w) c ≡ going (memory s w) other = e ∙ ap (λ n. or_else n (λ x. going (memory s w) (Eval x.1 (env_of p x.1 (x.0 ++ menv)) k)) (going (memory s w) other)) h in
          step_on p (Back p k) k d d (conf c s w) (conf other s w) w w rother (step_is p c s w _ here) (later_refl w) (omega arith) otherwise
      by_follows TooDeep o e h = deep_here p (Back p k) k d c s w (omega (arith, h))

      pub match_follows : (u : Term) (v : Value) → step p (memory s w) c ≡ by_rule p (memory s w) rules menv v k other → AllByRecursion (λ x. x.pat ≤ length p.nodes) rules → Is p w u v → Follows p (Back p k) k d (conf c s w) w (evaluation.match p pats (evaluate p d).0 (evaluate p d).1 env rules u rother s)
      match_follows u v e below h =
          by_follows (first_rule p env s.memory (pat p env s.memory d) rules u) (matching.first_rule p menv w.store rules v) e (rules_fit p w s holds env menv (pattern_names rules) (λ x v e l. is_sub x v l) sane numbered d rules (pats_in rules rules below (λ z e. e)) u v h)

    -- ---- Parts and blocks

    -- a part is begun under a frame
    pub part : {B : Type 0} (fit : World → B → Control → Type 0) (k : Option Address) (need : ℕ) (c : Control) (s : State) (w : World) (aw : Awaits) (i : ℕ) (env : Env) (menv : m.Env) (g : Term → State → Result B) → step p (memory s w) c ≡ awaiting (memory s w) aw k (Eval i menv) → IsPlain p Inv kept.step aw → EnvIs p w env menv → Holds p w s → Inv (conf c s w) → need ≤ d + 2 → ((u : Term) (s1 : State) (to : World) (v : Value) → Later w to → Holds p to s1 → Is p to u v → slice_get to.store (length w.store) ≡ Some (Frame aw k) → Inv (conf (Ret v (Some (length w.store))) s1 to) → Follows p fit k d (conf (Ret v (Some (length w.store))) s1 to) to (g u s1)) → Follows p fit k need (conf c s w) w ((evaluate p d).0 env i s then g)
    part fit k need c s w aw i env menv g e plain is holds inv n on =
        let made : World = with_blocks w (Frame aw k ∷ []) in
        let l : Later w made = more_later p w (Frame aw k ∷ []) in
        let moves : (M p).step (conf c s w) ≡ Some (conf (Eval i menv (Some (length w.store))) s made) = step_is p c s w _ e in
        let next : Inv (conf (Eval i menv (Some (length w.store))) s made) = kept.step (conf c s w) (conf (Eval i menv (Some (length w.store))) s made) inv moves in
        step_on p fit k need d (conf c s w) (conf (Eval i menv (Some (length w.store))) s made) w made _ moves l n (sub p Inv kept.step fit k d (conf (Eval i menv (Some (length w.store))) s made) made (length w.store) aw (get_last w.store (Frame aw k)) plain ((evaluate p d).0 env i s) g next (exp i env menv (Some (length w.store)) s made (env_later p w made l env menv is) (more_holds p w (Frame aw k ∷ []) s holds) next) (λ u s1 to v l1 h1 i1 f1 v1. on u s1 to v (later_trans w made to l l1) h1 i1 f1 v1))

    pub back_to : (c : Control) (s : State) (w : World) (a : Address) (aw : Awaits) (v : Value) (k : Option Address) → slice_get w.store a ≡ Some (Frame aw k) → step p (memory s w) (Ret v (Some a)) ≡ resume p (memory s w) aw v k
    back_to c s w a aw v k e = ap (λ o. ret p (memory s w) o v) e

    -- a value is there at once
    pub at_once : (k : Option Address) (need : ℕ) (c : Control) (s : State) (w : World) (u : Term) (v : Value) → Holds p w s → step p (memory s w) c ≡ going (memory s w) (Ret v k) → Is p w u v → Follows p (Back p k) k need (conf c s w) w (Gives u s)
    at_once k need c s w u v holds e i =
        step_on p (Back p k) k need need (conf c s w) (conf (Ret v k) s w) w w (Gives u s) (step_is p c s w _ e) (later_refl w) (omega arith) (here p (Back p k) k need (Ret v k) s w u holds (v, refl, i))

    -- a block is made, and its address is the value
    pub made : (k : Option Address) (need : ℕ) (c : Control) (s : State) (w : World) (b : Block) (u : Term) → Holds p w s → step p (memory s w) c ≡ making (memory s w) b (λ a. Ret (At a) k) → Is p (with_blocks w (b ∷ [])) u (At (length w.store)) → Follows p (Back p k) k need (conf c s w) w (Gives u s)
    made k need c s w b u holds e i =
        step_on p (Back p k) k need need (conf c s w) (conf (Ret (At (length w.store)) k) s (with_blocks w (b ∷ []))) w (with_blocks w (b ∷ [])) (Gives u s) (step_is p c s w _ e) (more_later p w (b ∷ [])) (omega arith) (here p (Back p k) k need (Ret (At (length w.store)) k) s (with_blocks w (b ∷ [])) u (more_holds p w (b ∷ []) s holds) (At (length w.store), refl, i))

    -- ---- Application

    apply_block_is : (a : Address) (v : Value) (k : Option Address) (s : State) (w : World) (o : Option Block) → slice_get w.store a ≡ o → step p (memory s w) (Apply (At a) v k) ≡ apply_block p (memory s w) o (At a) v k
    apply_block_is a v k s w o e = ap (λ q. apply_block p (memory s w) q (At a) v k) e

    apply_form : (u : Term) (x : Value) (o : Option Block) (u2 : Term) (v : Value) (k : Option Address) (s : State) (w : World) → Holds p w s → block_of w.store x ≡ o → Form p w s u x o → Is p w u x → Is p w u2 v → Inv (conf (Apply x v k) s w) → Follows p (Back p k) k d (conf (Apply x v k) s w) w (evaluation.apply p pats (evaluate p d).0 (evaluate p d).1 u u2 s)
    apply_form u x o u2 v k s w holds e (f.number z) i j inv = stuck_here p (Back p k) k d (Apply (m.Number z) v k) s w refl refl
    apply_form u x o u2 v k s w holds e (f.letter c) i j inv = stuck_here p (Back p k) k d (Apply (m.Letter c) v k) s w refl refl
    apply_form u x o u2 v k s w holds e (f.constant bytes n h) i j inv = stuck_here p (Back p k) k d (Apply (m.Constant n) v k) s w refl refl
    apply_form u x o u2 v k s w holds e (f.string bytes a) i j inv = stuck_here p (Back p k) k d (Apply (At a) v k) s w (apply_block_is a v k s w _ e) refl
    apply_form u x o u2 v k s w holds e f.nothing i j inv = stuck_here p (Back p k) k d (Apply m.Nothing v k) s w refl refl
    apply_form u x o u2 v k s w holds e (f.tuple u' fields a us h) i j inv = stuck_here p (Back p k) k d (Apply (At a) v k) s w (apply_block_is a v k s w _ e) refl
    apply_form u x o u2 v k s w holds e (f.tag n) i j inv = stuck_here p (Back p k) k d (Apply (m.Tag n) v k) s w refl refl
    apply_form u x o u2 v k s w holds e (f.applied n u' a y h) i j inv = stuck_here p (Back p k) k d (Apply (At a) v k) s w (apply_block_is a v k s w _ e) refl
    apply_form u x o u2 v k s w holds e (f.builtin g) i j inv = builtins g u2 v k d s w holds j inv
    apply_form u x o u2 v k s w holds e (f.maker n) i j inv =
        made k d (Apply (m.Maker n) v k) s w (Applied n v) (t.Applied n u2) holds refl (r.applied n u2 (length w.store) v [] [] (get_last w.store (Applied n v)) (are_later p w _ (more_later p w (Applied n v ∷ [])) (u2 ∷ []) (v ∷ []) j) r.done)
    apply_form u x o u2 v k s w holds e f.ref_maker i j inv =
        let c : Control = Apply m.RefMaker v k in
        step_on p (Back p k) k d d (conf c s w) (conf (Ret (At (length w.store)) k) (with_cell u2 s) (new_cell w v)) w (new_cell w v) (Gives (t.Cell (length s.memory)) (with_cell u2 s)) (step_is p c s w _ refl) (cell_later p w s holds v) (omega arith) (here p (Back p k) k d (Ret (At (length w.store)) k) (with_cell u2 s) (new_cell w v) (t.Cell (length s.memory)) (cell_holds p w s holds u2 v j) (At (length w.store), refl, r.cell (length s.memory) (length w.store) [] [] (cell_last p w s holds v) r.done))
    apply_form u x o u2 v k s w holds e (f.library n) i j inv =
        made k d (Apply (m.Library n) v k) s w (Packet (m.Library n) v) (t.Packet (t.Library n) u2) holds refl (r.packet (t.Library n) u2 (length w.store) (m.Library n) v [] [] (get_last w.store (Packet (m.Library n) v)) (r.library n _ _ (are_later p w _ (more_later p w (Packet (m.Library n) v ∷ [])) (u2 ∷ []) (v ∷ []) j)) r.done)
    apply_form u x o u2 v k s w holds e (f.name n a y q c) i j inv =
        made k d (Apply (At a) v k) s w (Packet (At a) v) (t.Packet (t.Name n) u2) holds (apply_block_is a v k s w _ e) (r.packet (t.Name n) u2 (length w.store) (At a) v [] [] (get_last w.store (Packet (At a) v)) (r.name n a _ _ q (are_later p w _ (more_later p w (Packet (At a) v ∷ [])) (u2 ∷ []) (v ∷ []) j)) r.done)
    apply_form u x o u2 v k s w holds e (f.packet y u' a b z h g) i j inv = stuck_here p (Back p k) k d (Apply (At a) v k) s w (apply_block_is a v k s w _ e) refl
    apply_form u x o u2 v k s w holds e (f.cell n a u' y h c g) i j inv = stuck_here p (Back p k) k d (Apply (At a) v k) s w (apply_block_is a v k s w _ e) refl
    apply_form u x o u2 v k s w holds e (f.function rules env group a n menv h) i j inv =
        let c : Control = Apply (At a) v k in
        let is_cut = frame_cut c s w a (Closure n rules menv) inv e in
        match_follows (rec_env env group over env) menv rules c (Raise (m.Library exn.MatchExn) k) k s w holds inv (Raises (t.Library exn.MatchExn) s) h (subst (SaneEnter p w.store) e (kept.sane (conf c s w) inv)) (raised_here p (Back p k) k d s w (t.Library exn.MatchExn) (m.Library exn.MatchExn) holds (r.library exn.MatchExn [] [] r.done)) u2 v (apply_block_is a v k s w _ e) (rules_below n (length p.nodes) rules (numbered n (node.Fn rules) is_cut.0)) j

    apply_follows : (u u2 : Term) (x v : Value) (k : Option Address) (s : State) (w : World) → Holds p w s → Is p w u x → Is p w u2 v → Inv (conf (Apply x v k) s w) → Follows p (Back p k) k d (conf (Apply x v k) s w) w (evaluation.apply p pats (evaluate p d).0 (evaluate p d).1 u u2 s)
    apply_follows u u2 x v k s w holds i j inv = apply_form u x (block_of w.store x) u2 v k s w holds refl (form p w s holds u x i) i j inv

    -- ---- Expressions, node by node

    pub eval_is : (i : ℕ) (n : Node) (menv : m.Env) (k : Option Address) (s : State) (w : World) → slice_get p.nodes i ≡ Some n → step p (memory s w) (Eval i menv k) ≡ eval p (memory s w) i n menv k
    eval_is i n menv k s w e = ap (λ o. o >>= (λ q. eval p (memory s w) i q menv k)) e

    abbrev ex : Env → ℕ → State → Result Term
    ex = (evaluate p d).0

    abbrev de : Env → ℕ → State → Result Env
    de = (evaluate p d).1

    module _ (i : ℕ) (env : Env) (menv : m.Env) (k : Option Address) (s : State) (w : World) (is : EnvIs p w env menv) (holds : Holds p w s) (inv : Inv (conf (Eval i menv k) s w)) where
      abbrev Node_follows : Result Term → Type 0
      Node_follows q = Follows p (Back p k) k (suc d) (conf (Eval i menv k) s w) w q

      is_sub : Sub p w env menv
      is_sub = env_sub p w env menv is

      pub app_follows : (g a : ℕ) → slice_get p.nodes i ≡ Some (node.App g a) → Node_follows (exp_of p pats ex de env (node.App g a) s)
      app_follows g a e =
          part (Back p k) k (suc d) (Eval i menv k) s w (FunctionPart g a (env_of p a menv)) g env (env_of p g menv) (λ function t. ex env a t then evaluation.apply p pats ex de function) (eval_is i _ menv k s w e) tt (cut_sub p w env menv is_sub (free p.nodes g)) holds inv (omega arith) (λ u s1 w1 v l1 h1 i1 f1 v1.
          part (Back p k) k d (Ret v (Some (length w.store))) s1 w1 (ArgumentPart a v) a env (env_of p a menv) (evaluation.apply p pats ex de u) (back_to (Ret v k) s1 w1 (length w.store) _ v k f1) tt (env_later p w w1 l1 env (env_of p a menv) (cut_sub p w env menv is_sub (free p.nodes a))) h1 v1 (omega arith) (λ u2 s2 w2 v2 l2 h2 i2 f2 iv2.
          let moves = step_is p (Ret v2 (Some (length w1.store))) s2 w2 (going (memory s2 w2) (Apply v v2 k)) (back_to (Ret v k) s2 w2 (length w1.store) _ v2 k f2) in
          step_on p (Back p k) k d d (conf (Ret v2 (Some (length w1.store))) s2 w2) (conf (Apply v v2 k) s2 w2) w2 w2 (evaluation.apply p pats ex de u u2 s2) moves (later_refl w2) (omega arith) (apply_follows u u2 v v2 k s2 w2 h2 (are_later p w1 w2 l2 (u ∷ []) (v ∷ []) i1) i2 (kept.step _ _ iv2 moves))))

      parts_of : (n : Node) → slice_get p.nodes i ≡ Some n → AllByRecursion (λ c. (i < c) × (c < length p.nodes)) (node_parts n)
      parts_of n e = numbered i n e

      pub case_follows : (b : ℕ) (rules : List Rule) → slice_get p.nodes i ≡ Some (node.Case b rules) → AllByRecursion (λ x. x.pat ≤ length p.nodes) rules → Node_follows (ex env b s then (λ v t. evaluation.match p pats ex de env rules v (basic.raising exn.MatchExn t) t))
      case_follows b rules e below =
          part (Back p k) k (suc d) (Eval i menv k) s w (Subject b rules (env_of_match p rules menv)) b env (env_of p b menv) (λ v t. evaluation.match p pats ex de env rules v (basic.raising exn.MatchExn t) t) (eval_is i _ menv k s w e ∙ refl) tt (cut_sub p w env menv is_sub (free p.nodes b)) holds inv (omega arith) (λ u s1 w1 v l1 h1 i1 f1 v1.
          match_follows env (env_of_match p rules menv) rules (Ret v (Some (length w.store))) (Raise (m.Library exn.MatchExn) k) k s1 w1 h1 v1 (Raises (t.Library exn.MatchExn) s1) (env_sub p w1 env (env_of_match p rules menv) (env_later p w w1 l1 env (env_of_match p rules menv) (cut_sub p w env menv is_sub (free_of_match rules)))) (subst (λ o. SaneReturn p w1.store o v) f1 (kept.sane (conf (Ret v (Some (length w.store))) s1 w1) v1)).1 (raised_here p (Back p k) k d s1 w1 (t.Library exn.MatchExn) (m.Library exn.MatchExn) h1 (r.library exn.MatchExn [] [] r.done)) u v (back_to (Ret v k) s1 w1 (length w.store) _ v k f1) below i1)

      pub raise_follows : (b : ℕ) → slice_get p.nodes i ≡ Some (node.Raise b) → Node_follows (ex env b s then (λ x. Raises x))
      raise_follows b e =
          part (Back p k) k (suc d) (Eval i menv k) s w (RaisePart b) b env (env_of p b menv) (λ x. Raises x) (eval_is i _ menv k s w e) tt (cut_sub p w env menv is_sub (free p.nodes b)) holds inv (omega arith) (λ u s1 w1 v l1 h1 i1 f1 v1.
          step_on p (Back p k) k d d (conf (Ret v (Some (length w.store))) s1 w1) (conf (Raise v k) s1 w1) w1 w1 (Raises u s1) (step_is p (Ret v (Some (length w.store))) s1 w1 (going (memory s1 w1) (Raise v k)) (back_to (Ret v k) s1 w1 (length w.store) _ v k f1)) (later_refl w1) (omega arith) (raised_here p (Back p k) k d s1 w1 u v h1 i1))

      pub typed_follows : (b ty : ℕ) → slice_get p.nodes i ≡ Some (node.Typed b ty) → names menv ≡ free p.nodes i → Node_follows (ex env b s)
      typed_follows b ty e c =
          let moves = step_is p (Eval i menv k) s w (going (memory s w) (Eval b menv k)) (eval_is i _ menv k s w e) in
          step_on p (Back p k) k (suc d) d (conf (Eval i menv k) s w) (conf (Eval b menv k) s w) w w (ex env b s) moves (later_refl w) (omega arith) (exp b env menv k s w is holds (kept.step _ _ inv moves))

      pub fn_follows : (rules : List Rule) → slice_get p.nodes i ≡ Some (node.Fn rules) → Node_follows (Gives (Function rules env []) s)
      fn_follows rules e =
          made k (suc d) (Eval i menv k) s w (Closure i rules menv) (Function rules env []) holds (eval_is i _ menv k s w e) (r.function rules env (length w.store) i menv is.us [] [] (get_last w.store (Closure i rules menv)) is.picks (are_later p w _ (more_later p w (Closure i rules menv ∷ [])) is.us (r.values_in menv) is.are) r.done)

      -- a variable that is free in the node
      pub look_follows : (x : ℕ) → has (names menv) x ≡ true → (step p (memory s w) (Eval i menv k) ≡ (m.look menv x >>= (λ v. going (memory s w) (Ret v k)))) → Node_follows (given (look env x) Gives s)
      look_follows x h e =
          let a = look_has menv x h in
          let b = is_sub x a.0 a.1 in
          subst (λ o. Node_follows (given o Gives s)) (sym b.1) (at_once k (suc d) (Eval i menv k) s w b.0 a.0 holds (e ∙ ap (λ o. o >>= (λ v. going (memory s w) (Ret v k))) a.1) b.2)

      pub named : (n : Node) (x : ℕ) → slice_get p.nodes i ≡ Some n → free_of (binds p.nodes) (free p.nodes) n ≡ x ∷ [] → has (names menv) x ≡ true
      named n x e h =
          ap (λ ns. has ns x) ((kept.cut (conf (Eval i menv k) s w) inv).control ∙ free_unfold p.nodes numbered i n e ∙ h) ∙ or_left (nat_eq x x) false (eq-eqb x x refl)

      pub con_follows : (c : Con) → slice_get p.nodes i ≡ Some (node.Constructor c) → Node_follows (given (patterns.con_value env c) Gives s)
      con_follows (con.Data ty n true) e =
          at_once k (suc d) (Eval i menv k) s w (t.Maker n) (m.Maker n) holds (eval_is i _ menv k s w e) (r.maker n [] [] r.done)
      con_follows (con.Data ty n false) e =
          at_once k (suc d) (Eval i menv k) s w (t.Tag n) (m.Tag n) holds (eval_is i _ menv k s w e) (r.tag n [] [] r.done)
      con_follows con.Ref e = at_once k (suc d) (Eval i menv k) s w t.RefMaker m.RefMaker holds (eval_is i _ menv k s w e) (r.ref_maker [] [] r.done)
      con_follows (con.Library x) e =
          at_once k (suc d) (Eval i menv k) s w (t.Library x) (m.Library x) holds (eval_is i _ menv k s w e) (r.library x [] [] r.done)
      con_follows (con.Exn x takes) e = look_follows x.0 (named (node.Constructor (con.Exn x takes)) x.0 e refl) (eval_is i _ menv k s w e)

      pub text_follows : (n : ℕ) → n < length p.texts → slice_get p.nodes i ≡ Some (node.Text n) → Node_follows (given (slice_get p.texts n) (λ bytes. Gives (t.Text bytes)) s)
      text_follows n l e =
          let g = get_below p.texts n l in
          subst (λ o. Node_follows (given o (λ bytes. Gives (t.Text bytes)) s)) (sym g.1) (at_once k (suc d) (Eval i menv k) s w (t.Text g.0) (m.Constant n) holds (eval_is i _ menv k s w e) (r.text g.0 (m.Constant n) [] [] g.1 r.done))

      -- `handle`, by what its body gives
      handled_follows : (a : Address) (rules : List Rule) (from : Conf) (w1 : World) → Later w w1 → slice_get w1.store a ≡ Some (Frame (Guarded i rules (env_of_match p rules menv)) k) → AllByRecursion (λ x. x.pat ≤ length p.nodes) rules → Inv from → (q : Result Term) → Follows p (Back p (Some a)) (Some a) d from w1 q → Follows p (Back p k) k d from w1 (evaluation.handled p pats ex de env rules q)
      handled_follows a rules from w1 l e below fv (Gives u s1) h =
          let same : conf h.control s1 h.to ≡ conf (Ret h.is.0 (Some a)) s1 h.to = ap (λ c. conf c s1 h.to) h.is.1 in
          let steps : Walks (M p) Any h.steps from (conf (Ret h.is.0 (Some a)) s1 h.to) = subst (Walks (M p) Any h.steps from) same h.walk in
          let frame = h.later.blocks a _ e tt in
          walk_on p (Back p k) k d d h.steps from (conf (Ret h.is.0 (Some a)) s1 h.to) w1 h.to (Gives u s1) steps h.later (omega arith) (at_once k d (Ret h.is.0 (Some a)) s1 h.to u h.is.0 h.holds (back_to (Ret h.is.0 k) s1 h.to a _ h.is.0 k frame) h.is.2)
      handled_follows a rules from w1 l e below fv (Raises x s1) h =
          let c : Control = Raise h.is.0 (Some a) in
          let same : conf h.control s1 h.to ≡ conf c s1 h.to = ap (λ c. conf c s1 h.to) h.is.1 in
          let steps : Walks (M p) Any h.steps from (conf c s1 h.to) = subst (Walks (M p) Any h.steps from) same h.walk in
          let frame : slice_get h.to.store a ≡ Some (Frame (Guarded i rules (env_of_match p rules menv)) k) = h.later.blocks a _ e tt in
          let cv : Inv (conf c s1 h.to) = inv_walk p Inv kept.step h.steps from (conf c s1 h.to) steps fv in
          walk_on p (Back p k) k d d h.steps from (conf c s1 h.to) w1 h.to (evaluation.match p pats ex de env rules x (Raises x s1) s1) steps h.later (omega arith) (match_follows env (env_of_match p rules menv) rules c (Raise h.is.0 k) k s1 h.to h.holds cv (Raises x s1) (env_sub p h.to env (env_of_match p rules menv) (env_later p w h.to (later_trans w w1 h.to l h.later) env (env_of_match p rules menv) (cut_sub p w env menv is_sub (free_of_match rules)))) (subst (SaneRaise p h.to.store) frame (kept.sane (conf c s1 h.to) cv)) (raised_here p (Back p k) k d s1 h.to x h.is.0 h.holds h.is.2) x h.is.0 (ap (λ o. raised p (memory s1 h.to) o h.is.0) frame) below h.is.2)
      handled_follows a rules from w1 l e below fv (Deeper s1) h = h
      handled_follows a rules from w1 l e below fv (Stuck s1) h = h

      pub handle_follows : (b : ℕ) (rules : List Rule) → slice_get p.nodes i ≡ Some (node.Handle b rules) → AllByRecursion (λ x. x.pat ≤ length p.nodes) rules → Node_follows (evaluation.handled p pats ex de env rules (ex env b s))
      handle_follows b rules e below =
          let frame : Block = Frame (Guarded i rules (env_of_match p rules menv)) k in
          let w1 : World = with_blocks w (frame ∷ []) in
          let l : Later w w1 = more_later p w (frame ∷ []) in
          let c : Control = Eval b (env_of p b menv) (Some (length w.store)) in
          let moves : (M p).step (conf (Eval i menv k) s w) ≡ Some (conf c s w1) = step_is p (Eval i menv k) s w _ (eval_is i _ menv k s w e) in
          let next : Inv (conf c s w1) = kept.step (conf (Eval i menv k) s w) (conf c s w1) inv moves in
          step_on p (Back p k) k (suc d) d (conf (Eval i menv k) s w) (conf c s w1) w w1 _ moves l (omega arith) (handled_follows (length w.store) rules (conf c s w1) w1 l (get_last w.store frame) below next (ex env b s) (exp b env (env_of p b menv) (Some (length w.store)) s w1 (env_later p w w1 l env (env_of p b menv) (cut_sub p w env menv is_sub (free p.nodes b))) (more_holds p w (frame ∷ []) s holds) next))
