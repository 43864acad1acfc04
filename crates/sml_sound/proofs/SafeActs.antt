-- What a step does to a typed memory, and what it goes on with.
use Rattle.simulation.proofs.Lists.{get_last}
use Rattle.simulation.specs.Stores.{Act, all_affected}
use Rattle.sml_def.specs.Memory.{Memory, Next, going, making, awaiting, making_all}
use Rattle.sml_def.specs.Run as run
use Rattle.sml_def.specs.State.{Cell, Value, At, Env, Address, Awaits, Block, Frame, Control, Eval, Ret, Focus}
use Rattle.sml_sound.proofs.Environments.{env_same}
use Rattle.sml_sound.proofs.Grow.{store_up, block_up, store_len, store_append, envs_up, accepts_up}
use Rattle.sml_sound.specs.TypedStates.{KeepsMarks, BlockTy, FrameTy, Family, one, Entry, Holds, Takes, EnvTy, EnvTys, Accepts, TakesAll, Fits, IsExp, IsFixed, StoreTy, Descends, AllDescend, TakesNode, ControlTy}
use Rattle.sml_tree.specs.Free.{free}
use Rattle.sml_tree.specs.IsBare.{IsBare}
use Rattle.sml_tree.specs.declared.bare.Bare.{Bare}
use Rattle.sml_tree.specs.declared.bare.Con.TheVariants as con
use Rattle.sml_tree.specs.declared.bare.Node.TheVariants as node
use Rattle.sml_types.specs.Tree.{Tree}
use Rattle.sml_types.specs.Typing.{Typing, IsTyping}
use Rattle.sml_types.specs.declared.types.TyVar.{TyVar}
use Rattle.std.proofs.Common.{zero, ◌≡◌, ℕ, suc, ◌+◌, Bool, true, List, [], ◌∷◌, ◌++◌, length, Option, Some, None, refl, sym, ap, ◌∙◌, subst, arith, inl}
use Rattle.std.specs.Prelude.{set, slice_get}

pub descend_append : (a : ℕ) (xs ys : List Block) → AllDescend a xs → AllDescend (a + length xs) ys → AllDescend a (xs ++ ys)
descend_append a [] ys h k = let e : a + 0 ≡ a = omega arith in subst (λ n. AllDescend n ys) e k
descend_append a (x ∷ xs) ys h k =
    let e : a + suc (length xs) ≡ suc a + length xs = omega arith in
    (h.0, descend_append (suc a) xs ys h.1 (subst (λ n. AllDescend n ys) e k))

pub descend_set : (a : ℕ) (xs : List Block) (i : ℕ) (v : Value) → AllDescend a xs → AllDescend a (set xs i (Cell v))
descend_set a [] i v h = h
descend_set a (x ∷ xs) zero v h = (tt, h.1)
descend_set a (x ∷ xs) (suc i) v h = (h.0, descend_set (suc a) xs i v h.1)

pub descend_get : (a : ℕ) (xs : List Block) (i : ℕ) (b : Block) → AllDescend a xs → slice_get xs i ≡ Some b → Descends (a + i) b
descend_get a [] i b h e = cc
descend_get a (x ∷ xs) zero b h e =
    let same : x ≡ b = cc in let n : a ≡ a + 0 = omega arith in subst (λ n. Descends n b) n (subst (Descends a) same h.0)
descend_get a (x ∷ xs) (suc i) b h e =
    let n : suc a + i ≡ a + suc i = omega arith in subst (λ n. Descends n b) n (descend_get (suc a) xs i b h.1 e)

-- what a step does to a typed store, and goes on with
pub record IsSafeAct (p : Bare) (t : Typing) (blocks : List Block) (a : Act Focus Block) : Type 0 where
  pub after : List Block
  pub done : all_affected run.view (Some blocks) a.effects ≡ Some after
  pub sig : List Entry
  pub store : StoreTy p t sig sig after
  pub descend : AllDescend 0 after
  pub control : ControlTy p t sig a.next.control

abbrev pub Safe : Bare → Typing → List Block → Next → Type 0
Safe p t blocks None = ⊥
Safe p t blocks (Some a) = IsSafeAct p t blocks a

-- a step begins in a typed memory of a typed program
pub record Ready (p : Bare) (t : Typing) (m : Memory) (sig : List Entry) : Type 0 where
  pub typing : IsTyping p t
  pub bare : IsBare p
  pub store : StoreTy p t sig sig m.store
  pub descend : AllDescend 0 m.store

module _ {p : Bare} {t : Typing} {m : Memory} {sig : List Entry} (ready : Ready p t m sig) where
  pub going_safe : (c : Control) → ControlTy p t sig c → Safe p t m.store (going m c)
  going_safe c h = record { after = m.store; done = refl; sig = sig; store = ready.store; descend = ready.descend; control = h }

  pub making_all_safe : (bs : List Block) (es : List Entry) (c : Control) → StoreTy p t (sig ++ es) es bs → AllDescend (length m.store) bs → ControlTy p t (sig ++ es) c → Safe p t m.store (making_all m bs c)
  making_all_safe bs es c h d hc = record {
    after = m.store ++ bs;
    done = refl;
    sig = sig ++ es;
    store = store_append p t (sig ++ es) sig es m.store bs (store_up p t sig es sig m.store ready.store) h;
    descend = descend_append 0 m.store bs ready.descend (let e : length m.store ≡ 0 + length m.store = omega arith in subst (λ n. AllDescend n bs) e d);
    control = hc;
  }

  pub making_safe : (b : Block) (e : Entry) (f : Address → Control) → BlockTy p t sig b e → Descends (length m.store) b → ControlTy p t (sig ++ e ∷ []) (f (length m.store)) → Safe p t m.store (making m b f)
  making_safe b e f hb d hc =
      making_all_safe (b ∷ []) (e ∷ []) (f (length m.store)) (block_up p t sig (e ∷ []) b e hb, tt) (d, tt) hc

  pub new_at : (e : Entry) → slice_get (sig ++ e ∷ []) (length m.store) ≡ Some e
  new_at e = ap (slice_get (sig ++ e ∷ [])) (sym (store_len p t sig sig m.store ready.store)) ∙ get_last sig e

  pub accept_map : (full : List Entry) (k : Option Address) (P Q : Family → Bool → Type 0) → ((f : Family) (b : Bool) → P f b → Q f b) → Accepts p t full k P → Accepts p t full k Q
  accept_map full (Some a) P Q f h = (h.0, h.1, h.2, f h.0 h.1 h.3)
  accept_map full None P Q f h = tt

  -- a block of these types comes back
  pub made_safe : (b : Block) (f : Family) (k : Option Address) → BlockTy p t sig b (Holds f) → Descends (length m.store) b → Accepts p t sig k (TakesAll p t f) → Safe p t m.store (making m b (λ a. Ret (At a) k))
  made_safe b f k hb d hk =
      let more = Holds f ∷ [] in
      making_safe b (Holds f) (λ a. Ret (At a) k) hb d
      (accept_map (sig ++ more) k (TakesAll p t f) (Fits p t (sig ++ more) (At (length m.store))) (λ g b h. ((λ u i. (Holds f, new_at (Holds f), h.0 u i)), (λ e. let x = h.1 in cc))) (accepts_up p t sig more k (TakesAll p t f) hk))

  pub awaiting_safe : (w : Awaits) (k : Option Address) (i : ℕ) (env : Env) (f : Family) (b : Bool) → KeepsMarks t.names f.at → FrameTy p t sig w f b k → f.ty ≡ t.types i → IsExp p t i → IsFixed p t f.gens i → EnvTys p t sig f (free p.nodes i) env → (b ≡ true → (n c : ℕ) × (slice_get p.nodes i ≡ Some (node.Constructor (con.Data n c true)))) → Safe p t m.store (awaiting m w k (Eval i env))
  awaiting_safe w k i env f b hk hw ht he hg hn hb =
      making_safe (Frame w k) (Takes f b) (λ a. Eval i env (Some a)) (hk, hw) tt
      (record { family = f; keeps = hk; exp = he; ty = ht; fixed = hg; knows = envs_up p t sig (Takes f b ∷ []) f (free p.nodes i) env hn; takes = (f, b, new_at (Takes f b), ((λ u x. x), hb)) })

  -- an expression is evaluated for one type
  pub going_eval : (i : ℕ) (env : Env) (k : Option Address) (g : TyVar → Tree) → IsExp p t i → EnvTy p t sig g (free p.nodes i) env → Accepts p t sig k (TakesAll p t (one g (t.types i))) → Safe p t m.store (going m (Eval i env k))
  going_eval i env k g he hn hk =
      going_safe (Eval i env k)
      (record { family = one g (t.types i); keeps = hn.0; exp = he; ty = refl; fixed = inl refl; knows = (λ h a. env_same p t sig g h (free p.nodes i) env a hn); takes = accept_map sig k (TakesAll p t (one g (t.types i))) (TakesNode p t i (one g (t.types i))) (λ f b h. (h.0, (λ e. let x = h.1 in cc))) hk })
