-- The frames that a state reaches are one chain.
use Rattle.std.proofs.Common.{◌≡◌, ℕ, zero, suc, ◌<◌, Bool, true, false, List, [], ◌∷◌, ◌++◌, map, Option, Some, None, ◌⊎◌, refl, sym, ap, ◌∙◌, subst, inl, inr, ⊎_elim, arith}
use Rattle.std.specs.Prelude.{slice_get}
use Rattle.std.specs.List.{AllByRecursion}
use Rattle.simulation.specs.Blocks.{IsAmong, StandsAt, Reach, root, field}
use Rattle.simulation.specs.Blocks as sim
use Rattle.simulation.specs.Words.{IsDistinct}
use Rattle.simulation.proofs.Lists.{among_right, among_append}
use Rattle.simulation.proofs.Heaps.{stands_map, stands_of}
use Rattle.sml_def.specs.State.{Value, Number, Letter, Nothing, Tag, Constant, Builtin, Maker, RefMaker, Library, At, Env, Address, Awaits, FunctionPart, ArgumentPart, FieldPart, Subject, RightSide, RaisePart, Guarded, Block, Tuple, Applied, Text, Cell, ExnName, Packet, Closure, Frame, Pending, Control, Eval, Ret, Apply, Raise, Eq, End}
use Rattle.sml_def.specs.Run.{view, of_value, of_values, of_env, of_next, of_frame, of_block, of_control}
use Rattle.sml_def.specs.Apart.{shape, InStore, NextIn, PendIn, AllIn, EnvIn, AwaitsIn, BlockIn, ControlIn}
use Rattle.sml_def.proofs.Apart.{shape_get}
use Rattle.sml_def.proofs.Older.{Down, among_all}

-- ---- What values, blocks and controls name

module _ (sh : List Bool) (x : Address) where
  abbrev pub Plain : Type 0
  Plain = slice_get sh x ≡ Some false

  value_flag : (v : Value) → InStore sh v → IsAmong x (of_value v) → Plain
  value_flag (At a) h (inl e) = subst (λ y. slice_get sh y ≡ Some false) (sym e) h
  value_flag (At a) h (inr m) = absurd m
  value_flag (Number z) h m = absurd m
  value_flag (Letter c) h m = absurd m
  value_flag Nothing h m = absurd m
  value_flag (Tag n) h m = absurd m
  value_flag (Constant n) h m = absurd m
  value_flag (Builtin f) h m = absurd m
  value_flag (Maker n) h m = absurd m
  value_flag RefMaker h m = absurd m
  value_flag (Library e) h m = absurd m

  values_flag : (vs : List Value) → AllIn sh vs → IsAmong x (of_values vs) → Plain
  values_flag [] h m = absurd m
  values_flag (v ∷ vs) h m = ⊎_elim (λ (i : IsAmong x (of_value v)). value_flag v h.0 i) (λ (i : IsAmong x (of_values vs)). values_flag vs h.1 i) (among_append x (of_value v) (of_values vs) m)

  env_flag : (env : Env) → EnvIn sh env → IsAmong x (of_env env) → Plain
  env_flag [] h m = absurd m
  env_flag (b ∷ env) h m = ⊎_elim (λ (i : IsAmong x (of_value b.1)). value_flag b.1 h.0 i) (λ (i : IsAmong x (of_env env)). env_flag env h.1 i) (among_append x (of_value b.1) (of_env env) m)

  awaits_flag : (w : Awaits) → AwaitsIn sh w → IsAmong x (of_frame w) → Plain
  awaits_flag (FunctionPart f a env) h m = env_flag env h m
  awaits_flag (ArgumentPart a f) h m = value_flag f h m
  awaits_flag (FieldPart e fields before later env) h m = ⊎_elim (λ (i : IsAmong x (of_values before)). values_flag before h.0 i) (λ (i : IsAmong x (of_env env)). env_flag env h.1 i) (among_append x (of_values before) (of_env env) m)
  awaits_flag (Subject e rules env) h m = env_flag env h m
  awaits_flag (RightSide b later body env) h m = env_flag env h m
  awaits_flag (RaisePart e) h m = absurd m
  awaits_flag (Guarded i rules env) h m = env_flag env h m

  next_is : (next : Option Address) → IsAmong x (of_next next) → next ≡ Some x
  next_is None m = absurd m
  next_is (Some a) (inl e) = ap (λ y. Some y) (sym e)
  next_is (Some a) (inr m) = absurd m

  pend_flag : (next : Option Address) → PendIn sh next → IsAmong x (of_next next) → Plain
  pend_flag next h m = subst (PendIn sh) (next_is next m) h

  -- an address that a block names is no frame's, but the next of a frame
  abbrev pub Named : Block → Type 0
  Named b = Plain ⊎ ((w : Awaits) × (b ≡ Frame w (Some x)))

  pub block_flag : (b : Block) → BlockIn sh b → IsAmong x (of_block b) → Named b
  block_flag (Tuple vs) h m = inl (values_flag vs h m)
  block_flag (Applied n v) h m = inl (value_flag v h m)
  block_flag (Text bytes) h m = absurd m
  block_flag (Cell v) h m = inl (value_flag v h m)
  block_flag (ExnName y) h m = absurd m
  block_flag (Packet y v) h m = inl (⊎_elim (λ (i : IsAmong x (of_value y)). value_flag y h.0 i) (λ (i : IsAmong x (of_value v)). value_flag v h.1 i) (among_append x (of_value y) (of_value v) m))
  block_flag (Closure i rules env) h m = inl (env_flag env h m)
  block_flag (Frame w next) h m = ⊎_elim (λ (i : IsAmong x (of_frame w)). inl (awaits_flag w h.0 i)) (λ (i : IsAmong x (of_next next)). inr (w, ap (Frame w) (next_is next i))) (among_append x (of_frame w) (of_next next) m)
  block_flag (Pending v w next) h m =
      inl (⊎_elim (λ (i : IsAmong x (of_value v ++ of_value w)). ⊎_elim (λ (j : IsAmong x (of_value v)). value_flag v h.0 j) (λ (j : IsAmong x (of_value w)). value_flag w h.1 j) (among_append x (of_value v) (of_value w) i)) (λ (i : IsAmong x (of_next next)). pend_flag next h.2 i) (among_append x (of_value v ++ of_value w) (of_next next) m))

abbrev pub frame_of : Control → Option Address
frame_of (Eval i env k) = k
frame_of (Ret v k) = k
frame_of (Apply f v k) = k
frame_of (Raise x k) = k
frame_of (Eq pairs t k) = k
frame_of (End e) = None

pub control_flag : (sh : List Bool) (x : Address) (c : Control) → ControlIn sh c → IsAmong x (of_control c) → (slice_get sh x ≡ Some false) ⊎ (frame_of c ≡ Some x)
control_flag sh x (Eval i env k) h m = ⊎_elim (λ (j : IsAmong x (of_env env)). inl (env_flag sh x env h.0 j)) (λ (j : IsAmong x (of_next k)). inr (next_is sh x k j)) (among_append x (of_env env) (of_next k) m)
control_flag sh x (Ret v k) h m = ⊎_elim (λ (j : IsAmong x (of_value v)). inl (value_flag sh x v h.0 j)) (λ (j : IsAmong x (of_next k)). inr (next_is sh x k j)) (among_append x (of_value v) (of_next k) m)
control_flag sh x (Apply f v k) h m =
    ⊎_elim (λ (j : IsAmong x (of_value f ++ of_value v)). ⊎_elim (λ (i : IsAmong x (of_value f)). inl (value_flag sh x f h.0 i)) (λ (i : IsAmong x (of_value v)). inl (value_flag sh x v h.1 i)) (among_append x (of_value f) (of_value v) j)) (λ (j : IsAmong x (of_next k)). inr (next_is sh x k j)) (among_append x (of_value f ++ of_value v) (of_next k) m)
control_flag sh x (Raise v k) h m = ⊎_elim (λ (j : IsAmong x (of_value v)). inl (value_flag sh x v h.0 j)) (λ (j : IsAmong x (of_next k)). inr (next_is sh x k j)) (among_append x (of_value v) (of_next k) m)
control_flag sh x (Eq pairs t k) h m = ⊎_elim (λ (j : IsAmong x (of_next pairs)). inl (pend_flag sh x pairs h.0 j)) (λ (j : IsAmong x (of_next k)). inr (next_is sh x k j)) (among_append x (of_next pairs) (of_next k) m)
control_flag sh x (End e) h m = absurd m

next_named : (k : Option Address) (a : Address) → k ≡ Some a → IsAmong a (of_next k)
next_named k a e = subst (λ o. IsAmong a (of_next o)) (sym e) (inl refl)

pub frame_named : (c : Control) (a : Address) → frame_of c ≡ Some a → IsAmong a (of_control c)
frame_named (Eval i env k) a e = among_right a (of_env env) (of_next k) (next_named k a e)
frame_named (Ret v k) a e = among_right a (of_value v) (of_next k) (next_named k a e)
frame_named (Apply f v k) a e = among_right a (of_value f ++ of_value v) (of_next k) (next_named k a e)
frame_named (Raise v k) a e = among_right a (of_value v) (of_next k) (next_named k a e)
frame_named (Eq pairs t k) a e = among_right a (of_next pairs) (of_next k) (next_named k a e)
frame_named (End r) a e = absurd cc

pub frame_next : (c : Control) (sh : List Bool) → ControlIn sh c → NextIn sh (frame_of c)
frame_next (Eval i env k) sh h = h.1
frame_next (Ret v k) sh h = h.1
frame_next (Apply f v k) sh h = h.2
frame_next (Raise v k) sh h = h.1
frame_next (Eq pairs t k) sh h = h.1
frame_next (End r) sh h = tt

-- ---- The chain of frames

pub data Chain (store : List Block) : Option Address → List Address → Type 0 where
  ends : Chain store None []
  more : (a : Address) (w : Awaits) (next : Option Address) (xs : List Address) → slice_get store a ≡ Some (Frame w next) → Chain store next xs → Chain store (Some a) (a ∷ xs)

pub frame_at : (store : List Block) (a : Address) → slice_get (shape store) a ≡ Some true → (w : Awaits) × (next : Option Address) × (slice_get store a ≡ Some (Frame w next))
frame_at [] a e = absurd cc
frame_at (Frame w next ∷ store) zero e = (w, next, refl)
frame_at (Tuple vs ∷ store) zero e = absurd cc
frame_at (Applied n v ∷ store) zero e = absurd cc
frame_at (Text bytes ∷ store) zero e = absurd cc
frame_at (Cell v ∷ store) zero e = absurd cc
frame_at (ExnName x ∷ store) zero e = absurd cc
frame_at (Packet x v ∷ store) zero e = absurd cc
frame_at (Closure i rules env ∷ store) zero e = absurd cc
frame_at (Pending v w next ∷ store) zero e = absurd cc
frame_at (b ∷ store) (suc a) e = frame_at store a e

module _ (store : List Block) (down : Down store) (apart : AllByRecursion (BlockIn (shape store)) store) where
  abbrev pub Below : ℕ → Option Address → Type 0
  Below m None = Unit {0}
  Below m (Some a) = a < m

  below_next : (a : Address) (w : Awaits) (next : Option Address) → slice_get store a ≡ Some (Frame w next) → Below a next
  below_next a w None e = tt
  below_next a w (Some b) e = down a w b e

  below_less : (a m : ℕ) (next : Option Address) → a < suc m → Below a next → Below m next
  below_less a m None l h = tt
  below_less a m (Some b) l h = omega arith

  pub chain_of : (m : ℕ) (k : Option Address) → NextIn (shape store) k → Below m k → (xs : List Address) × Chain store k xs
  chain_of m None h l = ([], ends)
  chain_of zero (Some a) h l = absurd (omega arith)
  chain_of (suc m) (Some a) h l =
      let f = frame_at store a h in
      let g = among_all (BlockIn (shape store)) store a (Frame f.0 f.1) apart f.2 in
      let r = chain_of m f.1 g.1 (below_less a m f.1 l (below_next a f.0 f.1 f.2)) in
      (a ∷ r.0, more a f.0 f.1 r.0 f.2 r.1)

  pub chain_less : (k : Option Address) (xs : List Address) → Chain store k xs → (m : ℕ) → Below m k → (x : Address) → IsAmong x xs → x < m
  chain_less k xs ends m l x i = absurd i
  chain_less k xs (more a w next ys is rest) m l x (inl e) = omega arith
  chain_less k xs (more a w next ys is rest) m l x (inr i) = let r : x < a = chain_less next ys rest a (below_next a w next is) x i in omega arith

  pub chain_distinct : (k : Option Address) (xs : List Address) → Chain store k xs → IsDistinct xs
  chain_distinct k xs ends = tt
  chain_distinct k xs (more a w next ys is rest) = (λ i. let r : a < a = chain_less next ys rest a (below_next a w next is) a i in omega arith, chain_distinct next ys rest)

  pub chain_frames : (k : Option Address) (xs : List Address) → Chain store k xs → (x : Address) → IsAmong x xs → slice_get (shape store) x ≡ Some true
  chain_frames k xs ends x i = absurd i
  chain_frames k xs (more a w next ys is rest) x (inl e) = subst (λ y. slice_get (shape store) y ≡ Some true) (sym e) (shape_get store a (Frame w next) is)
  chain_frames k xs (more a w next ys is rest) x (inr i) = chain_frames next ys rest x i

  pub chain_reached : (roots : List Address) (k : Option Address) (xs : List Address) → ((a : Address) → k ≡ Some a → Reach (map view store) roots a) → Chain store k xs → (x : Address) → IsAmong x xs → Reach (map view store) roots x
  chain_reached roots k xs h ends x i = absurd i
  chain_reached roots k xs h (more a w next ys is rest) x (inl e) = subst (Reach (map view store) roots) (sym e) (h a refl)
  chain_reached roots k xs h (more a w next ys is rest) x (inr i) =
      chain_reached roots next ys (λ b e. field a b (view (Frame w next)) (h a refl) (stands_of view store a (Frame w next) is) (among_right b (of_frame w) (of_next next) (next_named next b e))) rest x i

  chain_head : (k : Option Address) (xs : List Address) → Chain store k xs → (x : Address) → k ≡ Some x → IsAmong x xs
  chain_head k xs ends x e = absurd cc
  chain_head k xs (more a w next ys is rest) x e = inl (let s : a ≡ x = cc in sym s)

  chain_next : (k : Option Address) (xs : List Address) → Chain store k xs → (a b : Address) (w : Awaits) → IsAmong a xs → slice_get store a ≡ Some (Frame w (Some b)) → IsAmong b xs
  chain_next k xs ends a b w i e = absurd i
  chain_next k xs (more c v next ys is rest) a b w (inl s) e =
      let f : Some (Frame v next) ≡ Some (Frame w (Some b)) = sym is ∙ ap (slice_get store) (sym s) ∙ e in
      let g : next ≡ Some b = cc in
      inr (chain_head next ys rest b g)
  chain_next k xs (more c v next ys is rest) a b w (inr i) e = inr (chain_next next ys rest a b w i e)

  -- what comes behind a frame that names b is not younger than b, so it does not name b
  behind : (a : Address) (u : Awaits) (next : Option Address) (ys : List Address) → slice_get store a ≡ Some (Frame u next) → Chain store next ys → (b c d : Address) (v w : Awaits) → c ≡ a → IsAmong d ys → slice_get store c ≡ Some (Frame v (Some b)) → slice_get store d ≡ Some (Frame w (Some b)) → ⊥
  behind a u next ys is rest b c d v w i j e f =
      let g : Some (Frame u next) ≡ Some (Frame v (Some b)) = sym is ∙ ap (slice_get store) (sym i) ∙ e in
      let h : next ≡ Some b = cc in
      let low : d < suc b = chain_less next ys rest (suc b) (subst (Below (suc b)) (sym h) (omega arith)) d j in
      let up : b < d = down d w b f in
      omega arith

  -- each frame that is reached is one of the chain
  pub reached_chain : (c : Control) → ControlIn (shape store) c → (xs : List Address) → Chain store (frame_of c) xs → (x : Address) → Reach (map view store) (of_control c) x → slice_get (shape store) x ≡ Some true → IsAmong x xs
  reached_chain c h xs chain x (root y m) t =
      ⊎_elim
      (λ (f : slice_get (shape store) x ≡ Some false). absurd (let e : Some false ≡ Some true = sym f ∙ t in cc))
      (λ (e : frame_of c ≡ Some x). chain_head (frame_of c) xs chain x e)
      (control_flag (shape store) x c h m)
  reached_chain c h xs chain x (field a y block r st m) t =
      let found = stands_map view store a block st in
      let named = block_flag (shape store) x found.0 (among_all (BlockIn (shape store)) store a found.0 apart found.1) (subst (λ (b : sim.Block). IsAmong x b.fields) (sym found.2) m) in
      ⊎_elim
      (λ (f : slice_get (shape store) x ≡ Some false). absurd (let e : Some false ≡ Some true = sym f ∙ t in cc))
      (λ (g : (w : Awaits) × (found.0 ≡ Frame w (Some x))).
      let is : slice_get store a ≡ Some (Frame g.0 (Some x)) = found.1 ∙ ap (λ b. Some b) g.1 in
      let i = reached_chain c h xs chain a r (shape_get store a (Frame g.0 (Some x)) is) in
      chain_next (frame_of c) xs chain a x g.0 i is)
      named

  -- no two of the chain name the same
  pub chain_once : (k : Option Address) (xs : List Address) → Chain store k xs → (b c d : Address) (v w : Awaits) → IsAmong c xs → IsAmong d xs → slice_get store c ≡ Some (Frame v (Some b)) → slice_get store d ≡ Some (Frame w (Some b)) → c ≡ d
  chain_once k xs ends b c d v w i j e f = absurd i
  chain_once k xs (more a u next ys is rest) b c d v w (inl i) (inl j) e f = i ∙ sym j
  chain_once k xs (more a u next ys is rest) b c d v w (inl i) (inr j) e f = absurd (behind a u next ys is rest b c d v w i j e f)
  chain_once k xs (more a u next ys is rest) b c d v w (inr i) (inl j) e f = absurd (behind a u next ys is rest b d c w v j i f e)
  chain_once k xs (more a u next ys is rest) b c d v w (inr i) (inr j) e f = chain_once next ys rest b c d v w i j e f
