-- Values name no frame, after each step too.
use Rattle.std.proofs.Common.{◌≡◌, ℕ, zero, suc, ◌+◌, ◌<◌, Bool, true, false, List, [], ◌∷◌, ◌++◌, length, map, set, ◌∙◌, append_assoc, append-nil, Option, Some, None, refl, sym, ap, subst, arith}
use Rattle.std.specs.Prelude.{IfSome, slice_get, zip, cond, nat_eq}
use Rattle.std.specs.List.{AllByRecursion, cons_option}
use Rattle.std.proofs.lemmas.List.{length-map}
use Rattle.std.specs.Option.{option_map}
use Rattle.smlc_base.specs.declared.primitive.Primitive.{Primitive}
use Rattle.smlc_base.specs.declared.primitive.Primitive.TheVariants as prim
use Rattle.sml_tree.specs.declared.bare.Bare.{Bare}
use Rattle.sml_tree.specs.declared.bare.Node.{Node}
use Rattle.sml_tree.specs.declared.bare.Node.TheVariants as node
use Rattle.sml_tree.specs.declared.bare.Con.{Con}
use Rattle.sml_tree.specs.declared.bare.Con.TheVariants as con
use Rattle.sml_tree.specs.declared.bare.Field.{Field}
use Rattle.sml_tree.specs.declared.bare.Rule.{Rule}
use Rattle.sml_tree.specs.declared.bare.Binding.{Binding}
use Rattle.sml_tree.specs.declared.bare.RecBinding.{RecBinding}
use Rattle.sml_tree.specs.BareParts.{at_node, within}
use Rattle.sml_tree.specs.Free.{free, binds, free_match, free_fields, free_rest}
use Rattle.simulation.specs.Stores.{Act, acted, machine_of}
use Rattle.simulation.proofs.Machines.{state_by}
use Rattle.sml_def.proofs.Effects.{all_map, all_append, all_get, EffectHas, act_done, none_affected, act_makes}
use Rattle.sml_def.specs.Maybe.{◌>>=◌, when, or_else}
use Rattle.sml_def.specs.State.{Value, Number, Letter, Constant, Nothing, Tag, Builtin, Maker, RefMaker, Library, At, Env, Address, Awaits, FunctionPart, ArgumentPart, FieldPart, Subject, RightSide, RaisePart, Guarded, Block, Tuple, Applied, Text, Cell, ExnName, Packet, Closure, Frame, Pending, Uncaught, Control, Eval, Ret, Apply, Raise, Eq, End, Focus, look, cut}
use Rattle.sml_def.specs.Memory.{Memory, Next, going, making, awaiting, making_all}
use Rattle.sml_def.specs.Match.{block_of, tuple_block, fields_of, con_value, packet_block, applied_block, cell_block, argument_of, fields_fit, fits_of, fits, first_rule, bytes_of}
use Rattle.prim_meaning.specs.Data as dat
use Rattle.prim_meaning.specs.Meaning as mean
use Rattle.prim_meaning.specs.Meaning.{Outcome, Verdict, meaning, turn, takes_one}
use Rattle.prim_meaning.specs.Alike.{SeenHas, OutcomeHas, VerdictHas}
use Rattle.prim_meaning.proofs.Holds.{meaning_has, turn_has}
use Rattle.sml_def.specs.Builtin.{see_text, see_block, see_builtin, see, carry_plain, carry, arguments_of, pend, by_verdict, builtin}
use Rattle.sml_def.specs.Apart.{is_frame, shape, InStore, NextIn, PendIn, AllIn, EnvIn, AwaitsIn, BlockIn, ControlIn, IsApart, ValuesNameNoFrames}
use Rattle.simulation.specs.Blocks.{IsPrefix}
use Rattle.simulation.specs.Blocks as sim
use Rattle.simulation.specs.Stores.{Effect, Append, Put, all_affected, replaced, may_replace}
use Rattle.simulation.proofs.Stores.{replaces}
use Rattle.simulation.proofs.Lists.{get_append, get_last, get_past}
use Rattle.sml_def.specs.Run.{State, view, kind_of, source, start}
use Rattle.sml_def.specs.Step.{by_label, count_up, eval_in, group_env, closure_of, closures, function_at, declare, eval_dec, eval_fields, eval_record, eval, by_rule, bind, resume, ret, apply_block, apply, exn_name, name_of, uncaught, raised_to, raised, compare, step}

-- the shapes after these effects
abbrev grown : List Bool → List (Effect Block) → List Bool
grown n [] = n
grown n (Append xs ∷ es) = grown (n ++ map is_frame xs) es
grown n (Put a x ∷ es) = grown n es

grown_more : (n : List Bool) (es : List (Effect Block)) → IsPrefix n (grown n es)
grown_more n [] = ([], append-nil n)
grown_more n (Append xs ∷ es) =
    let r = grown_more (n ++ map is_frame xs) es in (map is_frame xs ++ r.0, sym (append_assoc n (map is_frame xs) r.0) ∙ r.1)
grown_more n (Put a x ∷ es) = grown_more n es

shape_append : (xs ys : List Block) → shape (xs ++ ys) ≡ shape xs ++ shape ys
shape_append [] ys = refl
shape_append (x ∷ xs) ys = ap (λ l. is_frame x ∷ l) (shape_append xs ys)

shape_set : (xs : List Block) (a : ℕ) (x old : Block) → slice_get xs a ≡ Some old → is_frame old ≡ is_frame x → shape (set xs a x) ≡ shape xs
shape_set [] a x old e f = refl
shape_set (y ∷ xs) zero x old e f = let g : y ≡ old = cc in ap (λ t. t ∷ shape xs) (sym f ∙ ap is_frame (sym g))
shape_set (y ∷ xs) (suc a) x old e f = ap (λ l. is_frame y ∷ l) (shape_set xs a x old e f)

pub shape_get : (xs : List Block) (a : ℕ) (x : Block) → slice_get xs a ≡ Some x → slice_get (shape xs) a ≡ Some (is_frame x)
shape_get [] a x e = absurd cc
shape_get (y ∷ xs) zero x e = let g : y ≡ x = cc in ap (λ t. Some (is_frame t)) g
shape_get (y ∷ xs) (suc a) x e = shape_get xs a x e

pub below : (store : List Block) (a : ℕ) (t : Bool) → slice_get (shape store) a ≡ Some t → a < length store
below [] a t e = absurd cc
below (b ∷ store) zero t e = omega arith
below (b ∷ store) (suc a) t e = let r = below store a t e in omega arith

-- a frame is known by its kind, which stays where a block gives way
abbrev is_frame_kind : sim.Kind → Bool
is_frame_kind (sim.Frame qs) = true
is_frame_kind _ = false

by_kind : (b : Block) → is_frame b ≡ is_frame_kind (kind_of b)
by_kind (Frame w next) = refl
by_kind (Closure i rules env) = refl
by_kind (Tuple vs) = refl
by_kind (Applied n v) = refl
by_kind (Text bytes) = refl
by_kind (Cell v) = refl
by_kind (ExnName x) = refl
by_kind (Packet x v) = refl
by_kind (Pending v w next) = refl

no_frames : (old new : Block) → may_replace (view old) (view new) ≡ true → is_frame old ≡ is_frame new
no_frames old new e =
    let kept = replaces (view old) (view new) e in
    by_kind old ∙ ap is_frame_kind (sym kept.same) ∙ sym (by_kind new)

shape_put : (store ys : List Block) (a : ℕ) (x : Block) (es : List (Effect Block)) → ((zs : List Block) → all_affected view (Some zs) es ≡ Some ys → shape ys ≡ grown (shape zs) es) → (o : Option Block) → slice_get store a ≡ o → all_affected view (replaced view store a x o) es ≡ Some ys → shape ys ≡ grown (shape store) es
shape_put store ys a x es on None is e = absurd (let n = none_affected es in cc)
shape_put store ys a x es on (Some old) is e = go (may_replace (view old) (view x)) refl e
  where
    go : (t : Bool) → may_replace (view old) (view x) ≡ t → all_affected view (cond t (Some (set store a x)) None) es ≡ Some ys → shape ys ≡ grown (shape store) es
    go true may e = on (set store a x) e ∙ ap (λ n. grown n es) (shape_set store a x old is (no_frames old x may))
    go false may e = absurd (let n = none_affected es in cc)

shape_after : (es : List (Effect Block)) (store ys : List Block) → all_affected view (Some store) es ≡ Some ys → shape ys ≡ grown (shape store) es
shape_after [] store ys e = let same : store ≡ ys = cc in ap shape (sym same)
shape_after (Append xs ∷ es) store ys e = shape_after es (store ++ xs) ys e ∙ ap (λ n. grown n es) (shape_append store xs)
shape_after (Put a x ∷ es) store ys e = shape_put store ys a x es (λ zs f. shape_after es zs ys f) (slice_get store a) refl e

-- a frame names a frame that stood there before
abbrev pub NextOld : List Bool → Block → Type 0
NextOld n (Frame w next) = NextIn n next
NextOld n _ = Unit {0}

plain_old : (n : List Bool) (b : Block) → is_frame b ≡ false → NextOld n b
plain_old n (Frame w next) e = absurd cc
plain_old n (Tuple vs) e = tt
plain_old n (Applied m v) e = tt
plain_old n (Text bytes) e = tt
plain_old n (Cell v) e = tt
plain_old n (ExnName x) e = tt
plain_old n (Packet x v) e = tt
plain_old n (Closure i rules env) e = tt
plain_old n (Pending v w next) e = tt

plain_all : {X : Type 0} (n : List Bool) (xs : List X) (blocks : List Block) → shape blocks ≡ map (λ x. false) xs → AllByRecursion (NextOld n) blocks
plain_all n xs [] e = tt
plain_all n [] (b ∷ blocks) e = absurd cc
plain_all n (x ∷ xs) (b ∷ blocks) e =
    let one : is_frame b ≡ false = cc in
    let rest : shape blocks ≡ map (λ x. false) xs = cc in
    (plain_old n b one, plain_all n xs blocks rest)

pend_old : (n : List Bool) (pairs : List (Value × Value)) (next : Option Address) (size : ℕ) → AllByRecursion (NextOld n) (pend pairs next size).0
pend_old n [] next size = tt
pend_old n (q ∷ pairs) next size =
    let before = pend pairs next size in
    all_append (NextOld n) before.0 (Pending q.0 q.1 before.1 ∷ []) (pend_old n pairs next size) (tt, tt)

-- what a step does names what is then there, and no frame by a value
pub record IsApartAct (n : List Bool) (a : Act Focus Block) : Type 0 where
  pub control : ControlIn (grown n a.effects) a.next.control
  pub effects : AllByRecursion (EffectHas (BlockIn (grown n a.effects))) a.effects
  pub older : AllByRecursion (EffectHas (NextOld n)) a.effects

abbrev pub Good : Memory → Next → Type 0
Good s o = IfSome o (IsApartAct (shape s.store))

-- what is named in a store is named in a larger one
module _ (n m : List Bool) (le : IsPrefix n m) where
  value_up : (v : Value) → InStore n v → InStore m v
  value_up (At a) h = subst (λ l. slice_get l a ≡ Some false) le.1 (get_append n le.0 a false h)
  value_up _ h = tt

  next_up : (k : Option Address) → NextIn n k → NextIn m k
  next_up (Some a) h = subst (λ l. slice_get l a ≡ Some true) le.1 (get_append n le.0 a true h)
  next_up None h = tt

  pend_up : (k : Option Address) → PendIn n k → PendIn m k
  pend_up (Some a) h = subst (λ l. slice_get l a ≡ Some false) le.1 (get_append n le.0 a false h)
  pend_up None h = tt

  all_up : (vs : List Value) → AllIn n vs → AllIn m vs
  all_up vs h = all_map (InStore n) (InStore m) value_up vs h

  env_up : (env : Env) → EnvIn n env → EnvIn m env
  env_up env h = all_map (λ b. InStore n b.1) (λ b. InStore m b.1) (λ b. value_up b.1) env h

  awaits_up : (w : Awaits) → AwaitsIn n w → AwaitsIn m w
  awaits_up (FunctionPart f a env) h = env_up env h
  awaits_up (ArgumentPart a v) h = value_up v h
  awaits_up (FieldPart e fields before later env) h = (all_up before h.0, env_up env h.1)
  awaits_up (Subject e rules env) h = env_up env h
  awaits_up (RightSide b later body env) h = env_up env h
  awaits_up (RaisePart i) h = tt
  awaits_up (Guarded i rules env) h = env_up env h

  block_up : (b : Block) → BlockIn n b → BlockIn m b
  block_up (Tuple fields) h = all_up fields h
  block_up (Applied tag v) h = value_up v h
  block_up (Text bytes) h = tt
  block_up (Cell v) h = value_up v h
  block_up (ExnName x) h = tt
  block_up (Packet x v) h = (value_up x h.0, value_up v h.1)
  block_up (Closure i rules env) h = env_up env h
  block_up (Frame w next) h = (awaits_up w h.0, next_up next h.1)
  block_up (Pending v w next) h = (value_up v h.0, value_up w h.1, pend_up next h.2)

-- one thing after another
bind_in : {A B : Type 0} (P : A → Type 0) (Q : B → Type 0) (o : Option A) (f : A → Option B) → IfSome o P → ((x : A) → P x → IfSome (f x) Q) → IfSome (o >>= f) Q
bind_in P Q None f h g = tt
bind_in P Q (Some x) f h g = g x h

-- nothing of a value
no_fact : {A : Type 0} (o : Option A) → IfSome o (λ x. Unit {0})
no_fact None = tt
no_fact (Some x) = tt

when_in : {A : Type 0} (P : A → Type 0) (t : Bool) (x : A) → P x → IfSome (when t x) P
when_in P true x h = h
when_in P false x h = tt

or_in : {A B : Type 0} (P : A → Type 0) (Q : B → Type 0) (o : Option A) (f : A → B) (other : B) → IfSome o P → ((x : A) → P x → Q (f x)) → Q other → Q (or_else o f other)
or_in P Q None f other h g e = e
or_in P Q (Some x) f other h g e = g x h

-- the step goes on
going_good : (s : Memory) (c : Control) → ControlIn (shape s.store) c → Good s (going s c)
going_good s c g = record { control = g; effects = tt; older = tt }

all_good : (s : Memory) (blocks : List Block) (c : Control) → AllByRecursion (BlockIn (shape s.store ++ map is_frame blocks)) blocks → ControlIn (shape s.store ++ map is_frame blocks) c → AllByRecursion (NextOld (shape s.store)) blocks → Good s (making_all s blocks c)
all_good s blocks c hb hc ho = record { control = hc; effects = (hb, tt); older = (ho, tt) }

more : (n : List Bool) (t : Bool) → IsPrefix n (n ++ t ∷ [])
more n t = (t ∷ [], refl)

new_is : (s : Memory) (b : Block) → slice_get (shape s.store ++ is_frame b ∷ []) (length s.store) ≡ Some (is_frame b)
new_is s b = subst (λ n. slice_get (shape s.store ++ is_frame b ∷ []) n ≡ Some (is_frame b)) (length-map s.store is_frame) (get_last (shape s.store) (is_frame b))

making_good : (s : Memory) (b : Block) (f : Address → Control) → BlockIn (shape s.store ++ is_frame b ∷ []) b → ControlIn (shape s.store ++ is_frame b ∷ []) (f (length s.store)) → NextOld (shape s.store) b → Good s (making s b f)
making_good s b f hb hc ho = record { control = hc; effects = ((hb, tt), tt); older = ((ho, tt), tt) }

-- a block whose address comes back
made_good : (s : Memory) (b : Block) (k : Option Address) → is_frame b ≡ false → BlockIn (shape s.store) b → NextIn (shape s.store) k → Good s (making s b (λ a. Ret (At a) k))
made_good s b k flag hb hk =
    let n = shape s.store in
    let le = more n (is_frame b) in
    making_good s b (λ a. Ret (At a) k) (block_up n (n ++ is_frame b ∷ []) le b hb) (new_is s b ∙ ap (λ t. Some t) flag, next_up n (n ++ is_frame b ∷ []) le k hk) (plain_old n b flag)

-- a frame, and an evaluation under it
awaiting_good : (s : Memory) (w : Awaits) (k : Option Address) (i : ℕ) (env : Env) → AwaitsIn (shape s.store) w → NextIn (shape s.store) k → EnvIn (shape s.store) env → Good s (awaiting s w k (Eval i env))
awaiting_good s w k i env hw hk he =
    let n = shape s.store in
    let le = more n true in
    making_good s (Frame w k) (λ a. Eval i env (Some a)) (awaits_up n (n ++ true ∷ []) le w hw, next_up n (n ++ true ∷ []) le k hk) (env_up n (n ++ true ∷ []) le env he, new_is s (Frame w k)) hk

-- environments
look_in : (n : List Bool) (env : Env) (x : ℕ) → EnvIn n env → IfSome (look env x) (InStore n)
look_in n [] x h = tt
look_in n (b ∷ env) x h = go (nat_eq x b.0) (look env x) (look_in n env x h.1)
  where
    go : (t : Bool) (o : Option Value) → IfSome o (InStore n) → IfSome (cond t (Some b.1) o) (InStore n)
    go true o g = h.0
    go false o g = g

cut_in : (n : List Bool) (names : List ℕ) (env : Env) → EnvIn n env → EnvIn n (cut names env)
cut_in n [] env h = tt
cut_in n (x ∷ names) env h = go (look env x) (look_in n env x h) (cut_in n names env h)
  where
    go : (o : Option Value) → IfSome o (InStore n) → EnvIn n (cut names env) → EnvIn n (cons_option (option_map (λ v. (x, v)) o) (cut names env))
    go None g e = e
    go (Some v) g e = (g, e)

module _ (p : Bare) (n : List Bool) (store : List Block) (closed : AllByRecursion (BlockIn n) store) (env : Env) (bound : EnvIn n env) where
  block_in : (v : Value) → IfSome (block_of store v) (BlockIn n)
  block_in (At a) = all_get (BlockIn n) store a closed
  block_in _ = tt

  tuple_in : (o : Option Block) → IfSome o (BlockIn n) → IfSome (tuple_block o) (AllIn n)
  tuple_in (Some (Tuple fields)) h = h
  tuple_in _ h = tt

  fields_in : (v : Value) → IfSome (fields_of store v) (AllIn n)
  fields_in (At a) = tuple_in (slice_get store a) (all_get (BlockIn n) store a closed)
  fields_in Nothing = tt
  fields_in _ = tt

  con_in : (c : Con) → IfSome (con_value env c) (InStore n)
  con_in (con.Data t m takes) = go takes
    where
      go : (t : Bool) → InStore n (cond t (Maker m) (Tag m))
      go true = tt
      go false = tt
  con_in con.Ref = tt
  con_in (con.Exn x takes) = look_in n env x.0 bound
  con_in (con.Library e) = tt

  packet_in : (o : Option Block) → IfSome o (BlockIn n) → IfSome (packet_block o) (λ q. InStore n q.0 × InStore n q.1)
  packet_in (Some (Packet x v)) h = h
  packet_in _ h = tt

  applied_in : (m : ℕ) (o : Option Block) → IfSome o (BlockIn n) → IfSome (applied_block m o) (InStore n)
  applied_in m (Some (Applied k v)) h = when_in (InStore n) _ v h
  applied_in m _ h = tt

  cell_in : (o : Option Block) → IfSome o (BlockIn n) → IfSome (cell_block o) (InStore n)
  cell_in (Some (Cell v)) h = h
  cell_in _ h = tt

  argument_in : (c : Con) (v : Value) → IfSome (argument_of env store c v) (InStore n)
  argument_in (con.Data t m takes) v = applied_in m (block_of store v) (block_in v)
  argument_in con.Ref v = cell_in (block_of store v) (block_in v)
  argument_in (con.Exn x takes) v =
      bind_in (InStore n) (InStore n) (look env x.0) _ (look_in n env x.0 bound) (λ name g. bind_in (λ q. InStore n q.0 × InStore n q.1) (InStore n) (packet_block (block_of store v)) _ (packet_in (block_of store v) (block_in v)) (λ q e. when_in (InStore n) _ q.1 e.1))
  argument_in (con.Library e) v =
      bind_in (λ q. InStore n q.0 × InStore n q.1) (InStore n) (packet_block (block_of store v)) _ (packet_in (block_of store v) (block_in v)) (λ q e. when_in (InStore n) _ q.1 e.1)

  -- what a match binds is in the store
  abbrev FitsIn : (ℕ → Value → Option Env) → Type 0
  FitsIn part = (i : ℕ) (v : Value) → InStore n v → IfSome (part i v) (EnvIn n)

  fields_fit_in : (part : ℕ → Value → Option Env) → FitsIn part → (fields : List Field) (vs : List Value) → AllIn n vs → IfSome (fields_fit p env store part fields vs) (EnvIn n)
  fields_fit_in part g [] vs h = tt
  fields_fit_in part g (f ∷ fields) vs h =
      bind_in (InStore n) (EnvIn n) (slice_get vs f.slot) _ (all_get (InStore n) vs f.slot h) (λ v hv. bind_in (EnvIn n) (EnvIn n) (part f.node v) _ (g f.node v hv) (λ e he. bind_in (EnvIn n) (EnvIn n) (fields_fit p env store part fields vs) _ (fields_fit_in part g fields vs h) (λ o ho. all_append (λ b. InStore n b.1) e o he ho)))

  fits_of_in : (part : ℕ → Value → Option Env) → FitsIn part → (q : Node) (v : Value) → InStore n v → IfSome (fits_of p env store part q v) (EnvIn n)
  fits_of_in part g node.Wild v h = tt
  fits_of_in part g (node.PatInt m) (Number k) h = when_in (EnvIn n) _ [] tt
  fits_of_in part g (node.PatChar c) (Letter d) h = when_in (EnvIn n) _ [] tt
  fits_of_in part g (node.PatText t) v h =
      bind_in (λ bs. Unit {0}) (EnvIn n) (slice_get p.texts t) _ (no_fact (slice_get p.texts t)) (λ bs u. bind_in (λ bs. Unit {0}) (EnvIn n) (bytes_of p store v) _ (no_fact (bytes_of p store v)) (λ cs u. when_in (EnvIn n) _ [] tt))
  fits_of_in part g (node.PatVar x) v h = (h, tt)
  fits_of_in part g (node.PatCon c) v h = when_in (EnvIn n) _ [] tt
  fits_of_in part g (node.PatApp c q) v h = bind_in (InStore n) (EnvIn n) (argument_of env store c v) _ (argument_in c v) (g q)
  fits_of_in part g (node.PatRecord fields) v h =
      bind_in (AllIn n) (EnvIn n) (fields_of store v) _ (fields_in v) (fields_fit_in part g fields)
  fits_of_in part g (node.PatTyped q ty) v h = g q v h
  fits_of_in part g (node.PatAs x q) v h = bind_in (EnvIn n) (EnvIn n) (part q v) _ (g q v h) (λ e he. (h, he))
  fits_of_in part g _ v h = tt

  at_in : (part : ℕ → Value → Option Env) → FitsIn part → (j : ℕ) (o : Option Node) (v : Value) → InStore n v → IfSome (at_node (λ v. None) (λ part i. fits_of p env store part) part j o v) (EnvIn n)
  at_in part g j None v h = tt
  at_in part g j (Some q) v h = fits_of_in part g q v h

  within_in : (k : ℕ) → FitsIn (within (λ v. None) (λ part i. fits_of p env store part) k p.nodes)
  within_in zero i v h = tt
  within_in (suc k) i v h =
      at_in (within (λ v. None) (λ part i. fits_of p env store part) k p.nodes) (within_in k) i (slice_get p.nodes i) v h

  fits_in : FitsIn (fits p env store)
  fits_in i v h = within_in (length p.nodes) i v h

  first_in : (rules : List Rule) (v : Value) → InStore n v → IfSome (first_rule p env store rules v) (λ r. EnvIn n r.0)
  first_in [] v h = tt
  first_in (r ∷ rules) v h =
      or_in (EnvIn n) (λ o. IfSome o (λ r. EnvIn n r.0)) (fits p env store r.pat v) _ _ (fits_in r.pat v h) (λ e he. he) (first_in rules v h)

-- what is seen of values names no more than they do
see_in : (texts : List (List ℕ)) (n : List Bool) (store : List Block) → AllByRecursion (BlockIn n) store → (v : Value) → InStore n v → SeenHas (InStore n) (see texts store v)
see_in texts n store closed (Constant i) h = text_in (slice_get texts i)
  where
    text_in : (o : Option (List ℕ)) → SeenHas (InStore n) (see_text o)
    text_in (Some bs) = tt
    text_in None = tt
see_in texts n store closed (Builtin f) h = builtin_in f
  where
    builtin_in : (f : Primitive) → SeenHas (InStore n) (see_builtin f)
    builtin_in prim.StdIn = tt
    builtin_in _ = tt
see_in texts n store closed (At a) h = block_at (slice_get store a) (all_get (BlockIn n) store a closed)
  where
    block_at : (o : Option Block) → IfSome o (BlockIn n) → SeenHas (InStore n) (see_block a o)
    block_at (Some (Tuple vs)) h = h
    block_at (Some (Applied m v)) h = h
    block_at (Some (Text bs)) h = tt
    block_at (Some (Cell v)) h = h
    block_at (Some (ExnName x)) h = tt
    block_at (Some (Packet x v)) h = h
    block_at _ h = tt
see_in texts n store closed _ h = tt

-- ---- The primitives

pend_in : (pairs : List (Value × Value)) (next : Option Address) (n : List Bool) (size : ℕ) → length n ≡ size → AllByRecursion (λ q. InStore n q.0 × InStore n q.1) pairs → PendIn n next → PendIn (n ++ shape (pend pairs next size).0) (pend pairs next size).1 × AllByRecursion (BlockIn (n ++ shape (pend pairs next size).0)) (pend pairs next size).0
pend_in [] next n size e h g = (pend_up n (n ++ []) ([], refl) next g, tt)
pend_in (q ∷ pairs) next n size e h g =
    let before = pend pairs next size in
    let m = n ++ shape before.0 in
    let block = Pending q.0 q.1 before.1 in
    let r = pend_in pairs next n size e h.1 g in
    let all = n ++ shape (before.0 ++ block ∷ []) in
    let grow : IsPrefix m all = (false ∷ [], append_assoc n (shape before.0) (false ∷ []) ∙ ap (λ l. n ++ l) (sym (shape_append before.0 (block ∷ [])))) in
    let whole : IsPrefix n all = (shape (before.0 ++ block ∷ []), refl) in
    let at : slice_get all (length n + length before.0) ≡ Some false = get_past n (shape (before.0 ++ block ∷ [])) (length before.0) ∙ shape_get (before.0 ++ block ∷ []) (length before.0) block (get_last before.0 block) in
    (subst (λ z. slice_get all (z + length before.0) ≡ Some false) e at, all_append (BlockIn all) before.0 (block ∷ []) (all_map (BlockIn m) (BlockIn all) (block_up m all grow) before.0 r.1) ((value_up n all whole q.0 h.0.0, value_up n all whole q.1 h.0.1, pend_up m all grow before.1 r.0), tt))

module _ (p : Bare) (s : Memory) (k : Option Address) (closed : AllByRecursion (BlockIn (shape s.store)) s.store) (next : NextIn (shape s.store) k) where
  line_good : (line left : List ℕ) → Good s (carry_plain s k (dat.ALine line left))
  line_good line left =
      let n = shape s.store in
      let len = length-map s.store is_frame in
      let second : slice_get (n ++ false ∷ false ∷ []) (suc (length s.store)) ≡ Some false = subst (λ z. slice_get (n ++ false ∷ false ∷ []) z ≡ Some false) (omega (arith, len)) (get_past n (false ∷ false ∷ []) 1) in
      let first : slice_get (n ++ false ∷ false ∷ []) (length s.store) ≡ Some false = subst (λ z. slice_get (n ++ false ∷ false ∷ []) z ≡ Some false) (omega (arith, len)) (get_past n (false ∷ false ∷ []) 0) in
      record { control = (second, next_up n (n ++ false ∷ false ∷ []) (false ∷ false ∷ [], refl) k next); effects = ((tt, (first, tt)), tt); older = ((tt, (tt, tt)), tt) }

  carried_good : (r : dat.Plain) → Good s (carry_plain s k r)
  carried_good (dat.ANumber z) = going_good s _ (tt, next)
  carried_good (dat.ALetter c) = going_good s _ (tt, next)
  carried_good (dat.ATag m) = going_good s _ (tt, next)
  carried_good (dat.AString bytes) = made_good s (Text bytes) k refl tt next
  carried_good (dat.Fails f) = going_good s _ (tt, next)
  carried_good (dat.Writes bytes) = record { control = (tt, next); effects = tt; older = tt }
  carried_good (dat.ALine line left) = line_good line left

  outcome_good : (o : Outcome Value) → OutcomeHas (InStore (shape s.store)) o → Good s (carry s k o)
  outcome_good (mean.Comes r) h = carried_good r
  outcome_good (mean.Gives v) h = going_good s (Ret v k) (h, next)
  outcome_good (mean.Assigns a v) h = record { control = (tt, next); effects = (h, tt); older = (tt, tt) }
  outcome_good (mean.Compares v w t) h =
      let n = shape s.store in
      let le = more n false in
      making_good s (Pending v w None) (λ a. Eq (Some a) t k) (value_up n (n ++ false ∷ []) le v h.0, value_up n (n ++ false ∷ []) le w h.1, tt) (new_is s (Pending v w None), next_up n (n ++ false ∷ []) le k next) tt

  arguments_in : (t : Bool) (v : Value) → InStore (shape s.store) v → IfSome (arguments_of t s.store v) (AllIn (shape s.store))
  arguments_in true v h = (h, tt)
  arguments_in false v h = fields_in p (shape s.store) s.store closed [] tt v

  builtin_good : (f : Primitive) (v : Value) → InStore (shape s.store) v → Good s (builtin p.texts s k f v)
  builtin_good f v h =
      let n = shape s.store in
      bind_in (AllIn n) (IsApartAct n) (arguments_of (takes_one f) s.store v) _ (arguments_in (takes_one f) v h) (λ args g.
      bind_in (OutcomeHas (InStore n)) (IsApartAct n) (meaning (see p.texts s.store) (length s.store) s.input f args) _ (meaning_has (InStore n) (see p.texts s.store) (see_in p.texts n s.store closed) (length s.store) s.input f args g) outcome_good)

-- ---- The step

module _ (p : Bare) (s : Memory) (closed : AllByRecursion (BlockIn (shape s.store)) s.store) where
  false_at : (bindings : List RecBinding) (c : ℕ) → c < length bindings → slice_get (map (λ b. false) bindings) c ≡ Some false
  false_at [] c h = absurd (omega arith)
  false_at (b ∷ bindings) zero h = refl
  false_at (b ∷ bindings) (suc c) h = false_at bindings c (omega arith)

  group_in : (a : ℕ) (m : List Bool) (bindings : List RecBinding) → ((c : ℕ) → c < length bindings → slice_get m (a + c) ≡ Some false) → EnvIn m (group_env p a bindings)
  group_in a m [] h = tt
  group_in a m (b ∷ bindings) h =
      (subst (λ z. slice_get m z ≡ Some false) (omega arith) (h 0 (omega arith)), group_in (suc a) m bindings (λ c l. subst (λ z. slice_get m z ≡ Some false) (omega arith) (h (suc c) (omega arith))))

  -- closures made together
  abbrev Together : List Bool → List RecBinding → List Block → Type 0
  Together m bindings blocks = (shape blocks ≡ map (λ b. false) bindings) × AllByRecursion (BlockIn m) blocks

  closure_in : (m : List Bool) (env : Env) (o : Option (ℕ × List Rule)) → EnvIn m env → IfSome (closure_of p env o) (λ b. (is_frame b ≡ false) × BlockIn m b)
  closure_in m env None h = tt
  closure_in m env (Some f) h = (refl, cut_in m (free p.nodes f.0) env h)

  closures_in : (m : List Bool) (env : Env) (bindings : List RecBinding) → EnvIn m env → IfSome (closures p env bindings) (Together m bindings)
  closures_in m env [] h = (refl, tt)
  closures_in m env (b ∷ bindings) h =
      bind_in (λ b. (is_frame b ≡ false) × BlockIn m b) (Together m (b ∷ bindings)) (closure_of p env (function_at p.nodes b.right)) _ (closure_in m env (function_at p.nodes b.right) h) (λ c hc. bind_in (Together m bindings) (Together m (b ∷ bindings)) (closures p env bindings) _ (closures_in m env bindings h) (λ cs hs. (ap (λ t. t ∷ shape cs) hc.0 ∙ ap (λ l. false ∷ l) hs.0, (hc.1, hs.1))))

  declare_good : (bindings : List Binding) (body : ℕ) (env : Env) (k : Option Address) → EnvIn (shape s.store) env → NextIn (shape s.store) k → Good s (declare p s bindings body env k)
  declare_good [] body env k h next = going_good s _ (cut_in _ (free p.nodes body) env h, next)
  declare_good (b ∷ later) body env k h next =
      awaiting_good s _ k _ _ (cut_in _ (free_rest (binds p.nodes) (free p.nodes) b later body) env h) next (cut_in _ (free p.nodes b.right) env h)

  group_good : (tyvars : List ℕ) (bindings : List RecBinding) (body : ℕ) (env : Env) (k : Option Address) → EnvIn (shape s.store) env → NextIn (shape s.store) k → Good s (eval_dec p s body (node.ValRec tyvars bindings) env k)
  group_good tyvars bindings body env k h next =
      let n = shape s.store in
      let m = n ++ map (λ b. false) bindings in
      let le : IsPrefix n m = (map (λ b. false) bindings, refl) in
      let all = group_env p (length s.store) bindings ++ env in
      let there : (c : ℕ) → c < length bindings → slice_get m (length s.store + c) ≡ Some false = λ c l. subst (λ z. slice_get m (z + c) ≡ Some false) (length-map s.store is_frame) (get_past n (map (λ b. false) bindings) c ∙ false_at bindings c l) in
      let all_in : EnvIn m all = all_append (λ b. InStore m b.1) (group_env p (length s.store) bindings) env (group_in (length s.store) m bindings there) (env_up n m le env h) in
      bind_in (Together m bindings) (IsApartAct n) (closures p all bindings) _ (closures_in m all bindings all_in)
      (λ blocks made. let e : m ≡ n ++ map is_frame blocks = ap (λ c. n ++ c) (sym made.0) in all_good s blocks (eval_in p body all k) (subst (λ c. AllByRecursion (BlockIn c) blocks) e made.1) (subst (λ c. ControlIn c (eval_in p body all k)) e (cut_in m (free p.nodes body) all all_in, next_up n m le k next)) (plain_all n bindings blocks made.0))

  eval_dec_good : (body : ℕ) (d : Node) (env : Env) (k : Option Address) → EnvIn (shape s.store) env → NextIn (shape s.store) k → Good s (eval_dec p s body d env k)
  eval_dec_good body (node.Val tyvars bindings) env k h next = declare_good bindings body env k h next
  eval_dec_good body (node.ValRec tyvars bindings) env k h next = group_good tyvars bindings body env k h next
  eval_dec_good body (node.Type bindings) env k h next = going_good s _ (cut_in _ (free p.nodes body) env h, next)
  eval_dec_good body (node.Datatype bindings) env k h next = going_good s _ (cut_in _ (free p.nodes body) env h, next)
  eval_dec_good body (node.Exception x ty) env k h next =
      let n = shape s.store in
      let le = more n false in
      making_good s (ExnName x.0) (λ a. eval_in p body ((x.0, At a) ∷ env) k) tt (cut_in (n ++ false ∷ []) (free p.nodes body) ((x.0, At (length s.store)) ∷ env) (new_is s (ExnName x.0), env_up n (n ++ false ∷ []) le env h), next_up n (n ++ false ∷ []) le k next) tt
  eval_dec_good body (node.SameException x c) env k h next =
      bind_in (InStore (shape s.store)) (IsApartAct (shape s.store)) (con_value env c) _ (con_in p (shape s.store) s.store closed env h c) (λ v hv. going_good s _ (cut_in _ (free p.nodes body) ((x.0, v) ∷ env) (hv, h), next))
  eval_dec_good body _ env k h next = tt

  zip_in : (n : List Bool) (slots : List ℕ) (vs : List Value) → AllIn n vs → EnvIn n (zip slots vs)
  zip_in n [] vs h = tt
  zip_in n (x ∷ slots) [] h = tt
  zip_in n (x ∷ slots) (v ∷ vs) h = (h.0, zip_in n slots vs h.1)

  seconds_in : (n : List Bool) (env : Env) → EnvIn n env → AllIn n (map (λ b. b.1) env)
  seconds_in n [] h = tt
  seconds_in n (b ∷ env) h = (h.0, seconds_in n env h.1)

  label_in : (n : List Bool) (fields : List Field) (vs : List Value) → AllIn n vs → AllIn n (by_label fields vs)
  label_in n fields vs h =
      seconds_in n (cut (count_up 0 (length fields)) (zip (map (λ f. f.slot) fields) vs)) (cut_in n (count_up 0 (length fields)) (zip (map (λ f. f.slot) fields) vs) (zip_in n (map (λ f. f.slot) fields) vs h))

  fields_good : (fields : List Field) (before : List Value) (later : List Field) (env : Env) (k : Option Address) → AllIn (shape s.store) before → EnvIn (shape s.store) env → NextIn (shape s.store) k → Good s (eval_fields p s fields before later env k)
  fields_good fields before [] env k hb h next = made_good s (Tuple (by_label fields before)) k refl (label_in _ fields before hb) next
  fields_good fields before (f ∷ later) env k hb h next =
      awaiting_good s _ k _ _ (hb, cut_in _ (free_fields (free p.nodes) later) env h) next (cut_in _ (free p.nodes f.node) env h)

  record_good : (fields : List Field) (env : Env) (k : Option Address) → EnvIn (shape s.store) env → NextIn (shape s.store) k → Good s (eval_record p s fields env k)
  record_good [] env k h next = going_good s _ (tt, next)
  record_good (f ∷ fields) env k h next = fields_good (f ∷ fields) [] (f ∷ fields) env k tt h next

  eval_good : (i : ℕ) (q : Node) (env : Env) (k : Option Address) → EnvIn (shape s.store) env → NextIn (shape s.store) k → Good s (eval p s i q env k)
  eval_good i (node.Int m) env k h next = going_good s _ (tt, next)
  eval_good i (node.Char c) env k h next = going_good s _ (tt, next)
  eval_good i (node.Text t) env k h next = going_good s _ (tt, next)
  eval_good i (node.Var x) env k h next =
      bind_in (InStore (shape s.store)) (IsApartAct (shape s.store)) (look env x.0) _ (look_in _ env x.0 h) (λ v hv. going_good s (Ret v k) (hv, next))
  eval_good i (node.Constructor c) env k h next =
      bind_in (InStore (shape s.store)) (IsApartAct (shape s.store)) (con_value env c) _ (con_in p (shape s.store) s.store closed env h c) (λ v hv. going_good s (Ret v k) (hv, next))
  eval_good i (node.Builtin f) env k h next = going_good s _ (tt, next)
  eval_good i (node.Record fields) env k h next = record_good fields env k h next
  eval_good i (node.App f a) env k h next = awaiting_good s _ k _ _ (cut_in _ (free p.nodes a) env h) next (cut_in _ (free p.nodes f) env h)
  eval_good i (node.Case e rules) env k h next =
      awaiting_good s _ k _ _ (cut_in _ (free_match (binds p.nodes) (free p.nodes) rules) env h) next (cut_in _ (free p.nodes e) env h)
  eval_good i (node.Fn rules) env k h next = made_good s (Closure i rules env) k refl h next
  eval_good i (node.Raise e) env k h next = awaiting_good s _ k _ _ tt next (cut_in _ (free p.nodes e) env h)
  eval_good i (node.Handle e rules) env k h next =
      awaiting_good s _ k _ _ (cut_in _ (free_match (binds p.nodes) (free p.nodes) rules) env h) next (cut_in _ (free p.nodes e) env h)
  eval_good i (node.Typed e ty) env k h next = going_good s _ (h, next)
  eval_good i (node.Let d body) env k h next =
      bind_in (λ q. Unit {0}) (IsApartAct (shape s.store)) (slice_get p.nodes d) _ (no_fact _) (λ q u. eval_dec_good body q env k h next)
  eval_good i node.Finish env k h next = going_good s _ (tt, next)
  eval_good i _ env k h next = tt

  rule_good : (rules : List Rule) (env : Env) (v : Value) (k : Option Address) (other : Control) → EnvIn (shape s.store) env → InStore (shape s.store) v → NextIn (shape s.store) k → ControlIn (shape s.store) other → Good s (by_rule p s rules env v k other)
  rule_good rules env v k other h hv next ho =
      or_in (λ r. EnvIn (shape s.store) r.0) (Good s) (first_rule p env s.store rules v) _ _ (first_in p _ s.store closed env h rules v hv) (λ r hr. going_good s _ (cut_in _ (free p.nodes r.1) (r.0 ++ env) (all_append (λ b. InStore (shape s.store) b.1) r.0 env hr h), next)) (going_good s other ho)

  bind_good : (b : Binding) (later : List Binding) (body : ℕ) (env : Env) (v : Value) (k : Option Address) → EnvIn (shape s.store) env → InStore (shape s.store) v → NextIn (shape s.store) k → Good s (bind p s b later body env v k)
  bind_good b later body env v k h hv next =
      or_in (EnvIn (shape s.store)) (Good s) (fits p env s.store b.pat v) _ _ (fits_in p _ s.store closed env h b.pat v hv) (λ e he. declare_good later body (e ++ env) k (all_append (λ b. InStore (shape s.store) b.1) e env he h) next) (going_good s _ (tt, next))

  resume_good : (w : Awaits) (v : Value) (k : Option Address) → AwaitsIn (shape s.store) w → InStore (shape s.store) v → NextIn (shape s.store) k → Good s (resume p s w v k)
  resume_good (FunctionPart f a env) v k h hv next = awaiting_good s _ k _ _ hv next h
  resume_good (ArgumentPart a f) v k h hv next = going_good s _ (h, hv, next)
  resume_good (FieldPart e fields before later env) v k h hv next =
      fields_good fields (before ++ v ∷ []) later env k (all_append (InStore (shape s.store)) before (v ∷ []) h.0 (hv, tt)) h.1 next
  resume_good (Subject e rules env) v k h hv next = rule_good rules env v k _ h hv next (tt, next)
  resume_good (RightSide b later body env) v k h hv next = bind_good b later body env v k h hv next
  resume_good (RaisePart e) v k h hv next = going_good s _ (hv, next)
  resume_good (Guarded i rules env) v k h hv next = going_good s _ (hv, next)

  ret_good : (o : Option Block) (v : Value) → IfSome o (BlockIn (shape s.store)) → InStore (shape s.store) v → Good s (ret p s o v)
  ret_good (Some (Frame w next)) v h hv = resume_good w v next h.0 hv h.1
  ret_good _ v h hv = tt

  apply_block_good : (o : Option Block) (f v : Value) (k : Option Address) → IfSome o (BlockIn (shape s.store)) → InStore (shape s.store) f → InStore (shape s.store) v → NextIn (shape s.store) k → Good s (apply_block p s o f v k)
  apply_block_good (Some (Closure i rules env)) f v k h hf hv next = rule_good rules env v k _ h hv next (tt, next)
  apply_block_good (Some (ExnName x)) f v k h hf hv next = made_good s (Packet f v) k refl (hf, hv) next
  apply_block_good _ f v k h hf hv next = tt

  apply_good : (f v : Value) (k : Option Address) → InStore (shape s.store) f → InStore (shape s.store) v → NextIn (shape s.store) k → Good s (apply p s f v k)
  apply_good (At a) v k hf hv next = apply_block_good (slice_get s.store a) (At a) v k (all_get (BlockIn (shape s.store)) s.store a closed) hf hv next
  apply_good (Library e) v k hf hv next = made_good s (Packet (Library e) v) k refl (tt, hv) next
  apply_good (Maker m) v k hf hv next = made_good s (Applied m v) k refl hv next
  apply_good RefMaker v k hf hv next = made_good s (Cell v) k refl hv next
  apply_good (Builtin f) v k hf hv next = builtin_good p s k closed next f v hv
  apply_good _ v k hf hv next = tt

  uncaught_good : (x : Value) → Good s (uncaught p s x)
  uncaught_good x =
      let name = exn_name p s.store (name_of p s.store x) in
      bind_in (λ q. Unit {0}) (IsApartAct (shape s.store)) name (λ q. going s (End (Uncaught q))) (no_fact name) (λ q u. going_good s (End (Uncaught q)) tt)

  raised_to_good : (w : Awaits) (next : Option Address) (x : Value) → AwaitsIn (shape s.store) w → NextIn (shape s.store) next → InStore (shape s.store) x → Good s (raised_to p s w next x)
  raised_to_good (Guarded i rules env) next x h hn hx = rule_good rules env x next _ h hx hn (hx, hn)
  raised_to_good _ next x h hn hx = going_good s _ (hx, hn)

  raised_good : (o : Option Block) (x : Value) → IfSome o (BlockIn (shape s.store)) → InStore (shape s.store) x → Good s (raised p s o x)
  raised_good (Some (Frame w next)) x h hx = raised_to_good w next x h.0 h.1 hx
  raised_good _ x h hx = tt

  verdict_good : (r : Verdict Value) (next : Option Address) (t : Bool) (k : Option Address) → VerdictHas (InStore (shape s.store)) r → PendIn (shape s.store) next → NextIn (shape s.store) k → Good s (by_verdict s r next t k)
  verdict_good mean.Equal next t k h hn hk = going_good s _ (hn, hk)
  verdict_good mean.Unequal next t k h hn hk = going_good s _ (tt, hk)
  verdict_good (mean.AsPairs pairs) next t k h hn hk =
      let n = shape s.store in
      let r = pend_in pairs next n (length s.store) (length-map s.store is_frame) h hn in
      let blocks = (pend pairs next (length s.store)).0 in
      all_good s blocks _ r.1 (r.0, next_up n (n ++ map is_frame blocks) (map is_frame blocks, refl) k hk) (pend_old n pairs next (length s.store))

  compare_good : (o : Option Block) (t : Bool) (k : Option Address) → IfSome o (BlockIn (shape s.store)) → NextIn (shape s.store) k → Good s (compare p s o t k)
  compare_good (Some (Pending v w next)) t k h hk =
      verdict_good (turn (see p.texts s.store) v w) next t k (turn_has (InStore (shape s.store)) (see p.texts s.store) (see_in p.texts _ s.store closed) v w h.0 h.1) h.2 hk
  compare_good _ t k h hk = tt

  pub step_good : (c : Control) → ControlIn (shape s.store) c → Good s (step p s c)
  step_good (Eval i env k) h =
      bind_in (λ q. Unit {0}) (IsApartAct (shape s.store)) (slice_get p.nodes i) _ (no_fact _) (λ q u. eval_good i q env k h.0 h.1)
  step_good (Ret v None) h = going_good s _ tt
  step_good (Ret v (Some a)) h = ret_good (slice_get s.store a) v (all_get (BlockIn (shape s.store)) s.store a closed) h.0
  step_good (Apply f v k) h = apply_good f v k h.0 h.1 h.2
  step_good (Raise x None) h = uncaught_good x
  step_good (Raise x (Some a)) h = raised_good (slice_get s.store a) x (all_get (BlockIn (shape s.store)) s.store a closed) h.0
  step_good (Eq None t k) h = going_good s _ (tt, h.1)
  step_good (Eq (Some a) t k) h = compare_good (slice_get s.store a) t k (all_get (BlockIn (shape s.store)) s.store a closed) h.1
  step_good (End e) h = tt

act_closed : (s t : State) (a : Act Focus Block) → IsApart s → IsApartAct (shape s.store) a → acted view s.out s.store (Some a) ≡ Some t → IsApart t
act_closed s t a h g e =
    let n = grown (shape s.store) a.effects in
    let up = all_map (BlockIn (shape s.store)) (BlockIn n) (block_up (shape s.store) n (grown_more (shape s.store) a.effects)) s.store h.store in
    let d = act_done (BlockIn n) s t a up g.effects e in
    let len : shape t.store ≡ n = shape_after a.effects s.store t.store (act_makes s t a e) in
    record {
      control = subst (λ m. ControlIn m t.control.control) (sym len) (subst (λ f. ControlIn n f.control) (sym d.control) g.control);
      store = subst (λ m. AllByRecursion (BlockIn m) t.store) (sym len) d.store;
    }

step_closed : (p : Bare) (s t : State) → IsApart s → (machine_of (source p)).step s ≡ Some t → IsApart t
step_closed p s t h e =
    go (step p (record { store = s.store; input = s.control.input }) s.control.control) (step_good p (record { store = s.store; input = s.control.input }) h.store s.control.control h.control) e
  where
    go : (o : Next) → IfSome o (IsApartAct (shape s.store)) → acted view s.out s.store o ≡ Some t → IsApart t
    go None g e = absurd cc
    go (Some a) g e = act_closed s t a h g e

pub values_name_no_frames : ValuesNameNoFrames
values_name_no_frames p input n =
    state_by (machine_of (source p)) IsApart (step_closed p) (start input) (record { control = (tt, tt); store = tt }) n
