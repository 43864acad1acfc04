-- What is typed stays typed where more blocks are made.
use Rattle.std.proofs.Common.{◌≡◌, ℕ, zero, suc, Bool, List, [], ◌∷◌, ◌++◌, length, Option, Some, None, refl, ap, subst}
use Rattle.std.specs.Prelude.{slice_get, set}
use Rattle.sml_tree.specs.declared.bare.Bare.{Bare}
use Rattle.sml_tree.specs.declared.bare.Field.{Field}
use Rattle.sml_types.specs.declared.types.TyVar.{TyVar}
use Rattle.sml_types.specs.Tree.{Tree, inst}
use Rattle.sml_types.specs.Typing.{Typing}
use Rattle.simulation.proofs.Lists.{get_append}
use Rattle.sml_def.specs.State.{Value, Number, Letter, Nothing, Tag, Constant, Builtin, Maker, RefMaker, Library, At, Env, Address, Awaits, FunctionPart, ArgumentPart, FieldPart, Subject, RightSide, RaisePart, Guarded, Block, Tuple, Applied, Text, Cell, ExnName, Packet, Closure, Frame, Pending}
use Rattle.sml_sound.specs.TypedStates.{Family, Entry, Holds, Takes, Names, Compares, HasTy, HaveTys, IsName, EnvTy, EnvTys, Accepts, FrameTy, BeforeTy, IsComparable, AreCompared, BlockTy, StoreTy}

module _ (p : Bare) (t : Typing) where
  module _ (sig more : List Entry) where
    pub value_up : (v : Value) (u : Tree) → HasTy p t sig v u → HasTy p t (sig ++ more) v u
    value_up (At a) u h = (h.0, get_append sig more a h.0 h.1, h.2)
    value_up (Number z) u h = h
    value_up (Letter c) u h = h
    value_up Nothing u h = h
    value_up (Tag k) u h = h
    value_up (Constant c) u h = h
    value_up (Builtin f) u h = h
    value_up (Maker k) u h = h
    value_up RefMaker u h = h
    value_up (Library e) u h = h

    pub values_up : (vs : List Value) (us : List Tree) → HaveTys p t sig vs us → HaveTys p t (sig ++ more) vs us
    values_up [] [] h = tt
    values_up (v ∷ vs) (u ∷ us) h = (value_up v u h.0, values_up vs us h.1)
    values_up _ _ h = absurd h

    name_up : (x : Value) (u : Tree) → IsName p t sig x u → IsName p t (sig ++ more) x u
    name_up (Library e) u h = h
    name_up (At a) u h = get_append sig more a (Names u) h
    name_up _ u h = absurd h

    pub env_up : (g : TyVar → Tree) (xs : List ℕ) (env : Env) → EnvTy p t sig g xs env → EnvTy p t (sig ++ more) g xs env
    env_up g xs env h = (
      h.0,
      (λ x m.
          let k = h.1 x m in (k.0, k.1, (λ f a. value_up k.0 (inst f (t.schemes x).body) (k.2 f a)))),
    )

    pub envs_up : (f : Family) (xs : List ℕ) (env : Env) → EnvTys p t sig f xs env → EnvTys p t (sig ++ more) f xs env
    envs_up f xs env h g a = env_up g xs env (h g a)

    pub accepts_up : (k : Option Address) (P : Family → Bool → Type 0) → Accepts p t sig k P → Accepts p t (sig ++ more) k P
    accepts_up (Some a) P h = (h.0, h.1, get_append sig more a (Takes h.0 h.1) h.2, h.3)
    accepts_up None P h = tt

    before_up : (g : TyVar → Tree) (vs : List Value) (all later : List Field) → BeforeTy p t sig g vs all later → BeforeTy p t (sig ++ more) g vs all later
    before_up g [] all later h = h
    before_up g (v ∷ vs) [] later h = absurd h
    before_up g (v ∷ vs) (f ∷ all) later h = (value_up v (inst g (t.types f.node)) h.0, before_up g vs all later h.1)

    frame_up : (w : Awaits) (f : Family) (m : Bool) (k : Option Address) → FrameTy p t sig w f m k → FrameTy p t (sig ++ more) w f m k
    frame_up (FunctionPart i a env) f m k h = (h.0, h.1, h.2, envs_up f _ env h.3, h.4, accepts_up k _ h.5)
    frame_up (ArgumentPart i x) f m k h = (h.0, h.1, (λ g a. value_up x _ (h.2 g a)), h.3, accepts_up k _ h.4)
    frame_up (FieldPart i fields before later env) f m k h =
        (h.0, h.1, h.2, h.3, h.4, h.5, h.6, (λ g a. before_up g before fields (h.1 ∷ later) (h.7 g a)), envs_up f _ env h.8, accepts_up k _ h.9)
    frame_up (Subject i rules env) f m k h = (h.0, h.1, h.2, h.3, env_up f.at _ env h.4, accepts_up k _ h.5)
    frame_up (RightSide b later body env) f m k h =
        (h.0, h.1, h.2, h.3, h.4, env_up f.at _ env h.5, accepts_up k _ h.6)
    frame_up (RaisePart i) f m k h = (h.0, h.1, accepts_up k _ h.2)
    frame_up (Guarded i rules env) f m k h = (h.0, h.1, h.2, env_up f.at _ env h.3, accepts_up k _ h.4)

    pub comparable_up : (v w : Value) → IsComparable p t sig v w → IsComparable p t (sig ++ more) v w
    comparable_up v w h = (h.0, h.1, value_up v h.0 h.2, value_up w h.0 h.3)

    pub compared_up : (next : Option Address) → AreCompared p t sig next → AreCompared p t (sig ++ more) next
    compared_up None h = tt
    compared_up (Some a) h = get_append sig more a Compares h

    pub block_up : (b : Block) (e : Entry) → BlockTy p t sig b e → BlockTy p t (sig ++ more) b e
    block_up (Tuple vs) (Holds f) h = λ u i. let k = h u i in (k.0, k.1, k.2, values_up vs k.1 k.3)
    block_up (Applied n v) (Holds f) h = λ u i. let k = h u i in (k.0, k.1, k.2, k.3, value_up v (inst k.1 k.0.arg) k.4)
    block_up (Text bytes) (Holds f) h = h
    block_up (Cell v) (Holds f) h = (h.0, h.1, value_up v h.0 h.2)
    block_up (ExnName x) (Names u) h = h
    block_up (Packet x v) (Holds f) h = (h.0, h.1, name_up x _ h.2, value_up v h.1 h.3)
    block_up (Closure i rules env) (Holds f) h = (h.0, h.1, envs_up f _ env h.2)
    block_up (Frame w next) (Takes f m) h = (h.0, frame_up w f m next h.1)
    block_up (Pending v w next) Compares h = (comparable_up v w h.0, compared_up next h.1)
    block_up _ _ h = absurd h

    pub store_up : (es : List Entry) (bs : List Block) → StoreTy p t sig es bs → StoreTy p t (sig ++ more) es bs
    store_up [] [] h = tt
    store_up (e ∷ es) (b ∷ bs) h = (block_up b e h.0, store_up es bs h.1)
    store_up _ _ h = absurd h

  -- ---- A typed store

  pub store_len : (sig es : List Entry) (bs : List Block) → StoreTy p t sig es bs → length es ≡ length bs
  store_len sig [] [] h = refl
  store_len sig (e ∷ es) (b ∷ bs) h = ap suc (store_len sig es bs h.1)
  store_len sig _ _ h = absurd h

  pub store_get : (sig es : List Entry) (bs : List Block) (a : ℕ) (e : Entry) → StoreTy p t sig es bs → slice_get es a ≡ Some e → (b : Block) × (slice_get bs a ≡ Some b) × BlockTy p t sig b e
  store_get sig [] bs a e h g = cc
  store_get sig (x ∷ es) [] a e h g = absurd h
  store_get sig (x ∷ es) (b ∷ bs) zero e h g = let same : x ≡ e = cc in (b, refl, subst (BlockTy p t sig b) same h.0)
  store_get sig (x ∷ es) (b ∷ bs) (suc a) e h g = store_get sig es bs a e h.1 g

  pub store_append : (sig es fs : List Entry) (bs cs : List Block) → StoreTy p t sig es bs → StoreTy p t sig fs cs → StoreTy p t sig (es ++ fs) (bs ++ cs)
  store_append sig [] fs [] cs h g = g
  store_append sig (x ∷ es) fs (c ∷ bs) cs h g = (h.0, store_append sig es fs bs cs h.1 g)
  store_append sig [] fs (c ∷ bs) cs h g = absurd h
  store_append sig (x ∷ es) fs [] cs h g = absurd h

  pub store_set : (sig es : List Entry) (bs : List Block) (a : ℕ) (e : Entry) (b : Block) → StoreTy p t sig es bs → slice_get es a ≡ Some e → BlockTy p t sig b e → StoreTy p t sig es (set bs a b)
  store_set sig [] [] a e b h g k = tt
  store_set sig (x ∷ es) (c ∷ bs) zero e b h g k = let same : e ≡ x = cc in (subst (BlockTy p t sig b) same k, h.1)
  store_set sig (x ∷ es) (c ∷ bs) (suc a) e b h g k = (h.0, store_set sig es bs a e b h.1 g k)
  store_set sig [] (c ∷ bs) a e b h g k = absurd h
  store_set sig (x ∷ es) [] a e b h g k = absurd h
