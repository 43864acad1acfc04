-- What comes back to a frame, and what is raised onto one, leaves a typed state.
use Rattle.sml_def.specs.Builtin.{raising}
use Rattle.sml_def.specs.Match.{fits}
use Rattle.sml_def.specs.Memory.{Memory, going}
use Rattle.sml_def.specs.State.{End, Uncaught, Raise, Apply, FieldPart, ArgumentPart, RightSide, FunctionPart, Subject, RaisePart, Guarded, Value, Env, Address, Awaits, Block, Frame, Ret}
use Rattle.sml_def.specs.Step.{uncaught, exn_name, name_of, resume, ret, bind, raised, raised_to}
use Rattle.sml_sound.proofs.Environments.{env_spread, env_within}
use Rattle.sml_sound.proofs.Families.{at_in, single, agrees_self}
use Rattle.sml_sound.proofs.Names.{free_known}
use Rattle.sml_def.proofs.Options.{or_some}
use Rattle.sml_sound.proofs.SafeActs.{Ready, Safe, going_safe, accept_map, awaiting_safe}
use Rattle.sml_sound.proofs.SafeDeclarations.{needed, all_fresh, declare_safe}
use Rattle.sml_sound.proofs.SafeNodes.{bound_env, rule_safe, known, any_takes, eval_fields_safe}
use Rattle.sml_sound.proofs.Values.{an_exn}
use Rattle.sml_sound.specs.TypedStates.{KeepsMarks, AreBindings, BlockTy, FrameTy, BeforeTy, free_of_rest, Agrees, Family, family, one, Entry, Takes, HasTy, EnvTy, Accepts, TakesAll, TakesAny, Fits, IsExp, ControlTy}
use Rattle.sml_tree.proofs.Members.{without_parts, IsWithin, within_left, within_right, within_head, within_tail, within_rest, either, has-union}
use Rattle.sml_tree.specs.Free.{free, binds}
use Rattle.sml_tree.specs.Sets.{has, union, union_over, without}
use Rattle.sml_tree.specs.declared.bare.Bare.{Bare}
use Rattle.sml_tree.specs.declared.bare.Binding.{Binding}
use Rattle.sml_tree.specs.declared.bare.Field.{Field}
use Rattle.smlc_base.specs.declared.exception.LibraryExn.{LibraryExn}
use Rattle.smlc_base.specs.declared.exception.LibraryExn.TheVariants as exn
use Rattle.sml_types.specs.Library.{exn_ty, library_exn}
use Rattle.sml_types.specs.Poly.{Context}
use Rattle.sml_types.specs.Tree.{Tree, inst}
use Rattle.sml_types.specs.Typing.{Typing}
use Rattle.sml_types.specs.declared.types.TyVar.{TyVar}
use Rattle.std.proofs.Common.{⊎_elim, ◌≡◌, ℕ, Bool, true, false, List, [], ◌∷◌, ◌++◌, Option, Some, refl, sym, ap, ◌∙◌, subst, inl, inr}
use Rattle.std.specs.Prelude.{◌||◌}

module _ {p : Bare} {t : Typing} {m : Memory} {sig : List Entry} (ready : Ready p t m sig) where
  -- ---- Ret

  before_more : (g : TyVar → Tree) (vs : List Value) (all : List Field) (f : Field) (later : List Field) (v : Value) → BeforeTy p t sig g vs all (f ∷ later) → HasTy p t sig v (inst g (t.types f.node)) → BeforeTy p t sig g (vs ++ v ∷ []) all later
  before_more g [] [] f later v h k = cc
  before_more g [] (x ∷ all) f later v h k =
      let e : f ≡ x = cc in
      let d : all ≡ later = cc in (subst (λ y. HasTy p t sig v (inst g (t.types y.node))) e k, d)
  before_more g (w ∷ vs) [] f later v h k = absurd h
  before_more g (w ∷ vs) (x ∷ all) f later v h k = (h.0, before_more g vs all f later v h.1 k)

  pub raises : (e : LibraryExn) (k : Option Address) → library_exn e ≡ exn_ty → Accepts p t sig k (TakesAny p t) → ControlTy p t sig (raising e k)
  raises e k h hk = (sym h, hk)

  bind_safe : (b : Binding) (later : List Binding) (body : ℕ) (env : Env) (v : Value) (k : Option Address) (g : TyVar → Tree) → AreBindings p t (b ∷ later) → IsExp p t body → ((h : TyVar → Tree) → Agrees t.names (t.gens b.right) g h → HasTy p t sig v (inst h (t.types b.right))) → EnvTy p t sig g (free_of_rest p t b later body) env → Accepts p t sig k (TakesAll p t (one g (t.types body))) → Safe p t m.store (bind p m b later body env v k)
  bind_safe b later body env v k g r hx hv he hk =
      or_some (Safe p t m.store) (fits p env m.store b.pat v) _ _ (λ bound eb. declare_safe ready later body (bound ++ env) k g r.context r.tyvars r.bind.1 r.rights.1 r.pats.1 hx (bound_env ready (t.gens b.right) g b.pat v bound env (free_of_rest p t b later body) (needed ready later body) eb (λ h a. (subst (λ u. HasTy p t sig v (inst h u)) r.bind.0.1.1 (hv h a), pattern_env h a)) r.bind.0.3 he wide) hk)
      (going_safe ready (raising exn.BindExn k) (raises exn.BindExn k refl (any_takes ready k (one g (t.types body)) hk)))
    where
      pats : List ℕ
      pats = union_over (λ b. free p.nodes b.pat) (b ∷ later)

      rights : List ℕ
      rights = union_over (λ b. free p.nodes b.right) later

      rest : List ℕ
      rest = without (free p.nodes body) (union_over (λ b. binds p.nodes b.pat) (b ∷ later))

      pattern_env : (h : TyVar → Tree) → Agrees t.names (t.gens b.right) g h → EnvTy p t sig h (free p.nodes b.pat) env
      pattern_env h a =
          env_spread p t sig r.context (t.gens b.right) g h (free p.nodes b.pat) env a (all_fresh ready r.context (t.gens b.right) r.bind.0.2.0) (subst (λ (d : Context). IsWithin (free p.nodes b.pat) d.names) r.bind.0.0 (free_known p t ready.typing ready.bare.numbered ready.bare.sorts b.pat r.pats.0.0))
          (env_within p t sig g (free p.nodes b.pat) (free_of_rest p t b later body) env (λ z q. within_left pats (union rights rest) z (within_head (λ (b : Binding). free p.nodes b.pat) b later z q)) he)

      wide : (z : ℕ) → has (needed ready later body) z ≡ true → has (binds p.nodes b.pat) z ≡ false → has (free_of_rest p t b later body) z ≡ true
      wide z q n =
          let before = union_over (λ b. free p.nodes b.pat) later in
          let after = without (free p.nodes body) (union_over (λ b. binds p.nodes b.pat) later) in
          let goal = has (free_of_rest p t b later body) z ≡ true in
          either (has before z) (has (union rights after) z) goal (sym (has-union before (union rights after) z) ∙ q) (λ a. within_left pats (union rights rest) z (within_tail (λ (b : Binding). free p.nodes b.pat) b later z a))
          (λ a. either (has rights z) (has after z) goal (sym (has-union rights after z) ∙ a) (λ a. within_right pats (union rights rest) z (within_left rights rest z a))
          (λ a. let w = without_parts (free p.nodes body) (union_over (λ b. binds p.nodes b.pat) later) z a in
          within_right pats (union rights rest) z (within_right rights rest z (within_rest (free p.nodes body) (union_over (λ b. binds p.nodes b.pat) (b ∷ later)) z w.0 (has-union (binds p.nodes b.pat) (union_over (λ b. binds p.nodes b.pat) later) z ∙ ap (λ x. x || has (union_over (λ b. binds p.nodes b.pat) later) z) n ∙ w.1)))))

  resume_safe : (w : Awaits) (v : Value) (f : Family) (b : Bool) (k : Option Address) → KeepsMarks t.names f.at → FrameTy p t sig w f b k → Fits p t sig v f b → Safe p t m.store (resume p m w v k)
  resume_safe (FunctionPart i a env) v f b k kf h hv =
      awaiting_safe ready (ArgumentPart a v) k a env (family f.at f.gens (t.types a)) false kf (refl, h.0, (λ g x. subst (HasTy p t sig v) (ap (inst g) h.1) (hv.0 (inst g f.ty) (g, x, refl))), ⊎_elim (λ e. inl e) (λ n. inr (hv.1 n.0)) h.4, h.5) refl h.2 (⊎_elim (λ e. inl e) (λ n. inr n.1) h.4) h.3 (λ e. cc)
  resume_safe (ArgumentPart i x) v f b k kf h hv =
      going_safe ready (Apply x v k)
      (record { family = family f.at f.gens h.1; keeps = kf; arg = f.ty; function = h.2; argument = (λ g a. hv.0 (inst g f.ty) (g, a, refl)); fixed = h.3; takes = h.4 })
  resume_safe (FieldPart i fields before later env) v f b k kf h hv =
      eval_fields_safe ready fields later (before ++ v ∷ []) env k (family f.at f.gens h.2) kf h.4 h.5 h.6 (λ g a. before_more g before fields h.1 later v (h.7 g a) (subst (λ u. HasTy p t sig v (inst g u)) h.3 (hv.0 (inst g f.ty) (g, a, refl)))) h.8 h.9
  resume_safe (Subject i rules env) v f b k kf h hv =
      rule_safe ready rules env v k (raising exn.MatchExn k) f.at f.ty h.2 h.3 h.4 (hv.0 (inst f.at f.ty) (at_in t.names f kf)) h.5 (raises exn.MatchExn k refl (any_takes ready k (one f.at h.2) h.5))
  resume_safe (RightSide c later body env) v f b k kf h hv =
      bind_safe c later body env v k f.at h.3 h.4 (λ g a. subst (λ u. HasTy p t sig v (inst g u)) h.2 (hv.0 (inst g f.ty) (g, subst (λ vs. Agrees t.names vs f.at g) (sym h.1) a, refl))) h.5 h.6
  resume_safe (RaisePart i) v f b k kf h hv =
      going_safe ready (Raise v k) (subst (λ u. HasTy p t sig v (inst f.at u)) h.1 (hv.0 (inst f.at f.ty) (at_in t.names f kf)), h.2)
  resume_safe (Guarded i rules env) v f b k kf h hv =
      going_safe ready (Ret v k) (accept_map ready sig k (TakesAll p t f) (Fits p t sig v) (λ g b q. ((λ u x. hv.0 u (q.0 u x)), (λ e. let x = q.1 in cc))) h.4)

  pub ret_safe : (c : Block) (v : Value) (f : Family) (b : Bool) → BlockTy p t sig c (Takes f b) → Fits p t sig v f b → Safe p t m.store (ret p m (Some c) v)
  ret_safe (Frame w next) v f b h hv = resume_safe w v f b next h.0 h.1 hv
  ret_safe _ v f b h hv = absurd h

  -- ---- Raise

  frame_next : (w : Awaits) (f : Family) (b : Bool) (k : Option Address) → FrameTy p t sig w f b k → Accepts p t sig k (TakesAny p t)
  frame_next (FunctionPart i a env) f b k h = any_takes ready k (family f.at f.gens h.0) h.5
  frame_next (ArgumentPart i x) f b k h = any_takes ready k (family f.at f.gens h.1) h.4
  frame_next (FieldPart i fields before later env) f b k h = any_takes ready k (family f.at f.gens h.2) h.9
  frame_next (Subject i rules env) f b k h = any_takes ready k (one f.at h.2) h.5
  frame_next (RightSide c later body env) f b k h = any_takes ready k (one f.at (t.types body)) h.6
  frame_next (RaisePart i) f b k h = h.2
  frame_next (Guarded i rules env) f b k h = any_takes ready k f h.4

  raised_to_safe : (w : Awaits) (x : Value) (f : Family) (b : Bool) (k : Option Address) → KeepsMarks t.names f.at → FrameTy p t sig w f b k → HasTy p t sig x exn_ty → Safe p t m.store (raised_to p m w k x)
  raised_to_safe (Guarded i rules env) x f b k kf h hx =
      rule_safe ready rules env x k (Raise x k) f.at exn_ty f.ty h.2 h.3 hx (accept_map ready sig k (TakesAll p t f) (TakesAll p t (one f.at f.ty)) (λ g b q. ((λ u y. (f.at, agrees_self t.names [] f.at kf, single t.names f u h.1 (q.0 u y))), q.1)) h.4) (hx, any_takes ready k f h.4)
  raised_to_safe (FunctionPart i a env) x f b k kf h hx = going_safe ready (Raise x k) (hx, frame_next (FunctionPart i a env) f b k h)
  raised_to_safe (ArgumentPart i y) x f b k kf h hx = going_safe ready (Raise x k) (hx, frame_next (ArgumentPart i y) f b k h)
  raised_to_safe (FieldPart i fields before later env) x f b k kf h hx =
      going_safe ready (Raise x k) (hx, frame_next (FieldPart i fields before later env) f b k h)
  raised_to_safe (Subject i rules env) x f b k kf h hx = going_safe ready (Raise x k) (hx, frame_next (Subject i rules env) f b k h)
  raised_to_safe (RightSide c later body env) x f b k kf h hx =
      going_safe ready (Raise x k) (hx, frame_next (RightSide c later body env) f b k h)
  raised_to_safe (RaisePart i) x f b k kf h hx = going_safe ready (Raise x k) (hx, frame_next (RaisePart i) f b k h)

  pub raised_safe : (c : Block) (x : Value) (f : Family) (b : Bool) → BlockTy p t sig c (Takes f b) → HasTy p t sig x exn_ty → Safe p t m.store (raised p m (Some c) x)
  raised_safe (Frame w next) x f b h hx = raised_to_safe w x f b next h.0 h.1 hx
  raised_safe _ x f b h hx = absurd h

  pub uncaught_safe : (x : Value) → HasTy p t sig x exn_ty → Safe p t m.store (uncaught p m x)
  uncaught_safe x h =
      let n = an_exn p t ready.typing sig m.store ready.store x h in
      known ready (exn_name p m.store (name_of p m.store x)) n.0 (λ name. going m (End (Uncaught name))) n.1 (going_safe ready (End (Uncaught n.0)) tt)
