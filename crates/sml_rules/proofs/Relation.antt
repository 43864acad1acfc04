-- Which values of the machine stand for which terms.
use Rattle.std.proofs.Common.{◌≡◌, ℕ, suc, ◌+◌, List, [], ◌∷◌, ◌++◌, Option, Some, ap}
use Rattle.std.specs.Prelude.{ℤ, slice_get, map}
use Rattle.smlc_base.specs.declared.primitive.Primitive.{Primitive}
use Rattle.sml_tree.specs.declared.bare.Bare.{Bare}
use Rattle.sml_tree.specs.declared.bare.Rule.{Rule}
use Rattle.smlc_base.specs.declared.exception.LibraryExn.{LibraryExn}
use Rattle.sml_def.specs.State.{Value, At, Address, Block, Tuple, Applied, Text, Cell, ExnName, Packet, Closure, Frame, Pending, cut}
use Rattle.sml_def.specs.State as m
use Rattle.sml_def.specs.Match.{bytes_of, text_block}
use Rattle.sml_rules.specs.Terms.{Term, Record, Function, Terms, no_terms, more_terms, listed, Env, nowhere, bind, look, ◌over◌, unrolled, rec_env}
use Rattle.sml_rules.specs.Terms as t

-- the store, and the addresses of the references and of the exception names, in the order in which they were made
pub record World : Type 0 where
  pub store : List Block
  pub cells : List Address
  pub exns : List Address

-- the terms of the variables of a machine's environment
abbrev pub Picks : Env → m.Env → List Term → Type 0
Picks env [] [] = Unit {0}
Picks env (b ∷ menv) (u ∷ us) = (look env b.0 ≡ Some u) × Picks env menv us
Picks env _ _ = ⊥

abbrev pub values_in : m.Env → List Value
values_in menv = map (λ b. b.1) menv

-- the closures of functions that are declared together, from an address on
abbrev pub closures_from : Address → List (ℕ × List Rule) → m.Env
closures_from a [] = []
closures_from a (f ∷ group) = (f.0, At a) ∷ closures_from (suc a) group

-- each function of a group has its closure, whose environment is cut from that of the group
abbrev pub Stand : List Block → Address → List (ℕ × List Rule) → m.Env → Type 0
Stand store a group menv =
    (j : ℕ) (f : ℕ × List Rule) → slice_get group j ≡ Some f → (i : ℕ) × (xs : List ℕ) × (slice_get store (a + j) ≡ Some (Closure i f.1 (cut xs (closures_from a group ++ menv))))

-- terms and the values that stand for them, one by one
pub data Are (p : Bare) (w : World) : List Term → List Value → Type 0 where
  done : Are p w [] []
  number : (z : ℤ) (ts : List Term) (vs : List Value) → Are p w ts vs → Are p w (t.Number z ∷ ts) (m.Number z ∷ vs)
  letter : (c : ℕ) (ts : List Term) (vs : List Value) → Are p w ts vs → Are p w (t.Letter c ∷ ts) (m.Letter c ∷ vs)
  text : (bytes : List ℕ) (v : Value) (ts : List Term) (vs : List Value) → bytes_of p w.store v ≡ Some bytes → Are p w ts vs → Are p w (t.Text bytes ∷ ts) (v ∷ vs)
  nothing : (ts : List Term) (vs : List Value) → Are p w ts vs → Are p w (Record no_terms ∷ ts) (m.Nothing ∷ vs)
  tuple : (u : Term) (fields : Terms) (a : Address) (us : List Value) (ts : List Term) (vs : List Value) → slice_get w.store a ≡ Some (Tuple us) → Are p w (u ∷ listed fields) us → Are p w ts vs → Are p w (Record (more_terms u fields) ∷ ts) (At a ∷ vs)
  tag : (n : ℕ) (ts : List Term) (vs : List Value) → Are p w ts vs → Are p w (t.Tag n ∷ ts) (m.Tag n ∷ vs)
  applied : (n : ℕ) (u : Term) (a : Address) (v : Value) (ts : List Term) (vs : List Value) → slice_get w.store a ≡ Some (Applied n v) → Are p w (u ∷ []) (v ∷ []) → Are p w ts vs → Are p w (t.Applied n u ∷ ts) (At a ∷ vs)
  builtin : (f : Primitive) (ts : List Term) (vs : List Value) → Are p w ts vs → Are p w (t.Builtin f ∷ ts) (m.Builtin f ∷ vs)
  maker : (n : ℕ) (ts : List Term) (vs : List Value) → Are p w ts vs → Are p w (t.Maker n ∷ ts) (m.Maker n ∷ vs)
  ref_maker : (ts : List Term) (vs : List Value) → Are p w ts vs → Are p w (t.RefMaker ∷ ts) (m.RefMaker ∷ vs)
  library : (e : LibraryExn) (ts : List Term) (vs : List Value) → Are p w ts vs → Are p w (t.Library e ∷ ts) (m.Library e ∷ vs)
  name : (n : ℕ) (a : Address) (ts : List Term) (vs : List Value) → slice_get w.exns n ≡ Some a → Are p w ts vs → Are p w (t.Name n ∷ ts) (At a ∷ vs)
  packet : (x u : Term) (a : Address) (y v : Value) (ts : List Term) (vs : List Value) → slice_get w.store a ≡ Some (Packet y v) → Are p w (x ∷ u ∷ []) (y ∷ v ∷ []) → Are p w ts vs → Are p w (t.Packet x u ∷ ts) (At a ∷ vs)
  cell : (n : ℕ) (a : Address) (ts : List Term) (vs : List Value) → slice_get w.cells n ≡ Some a → Are p w ts vs → Are p w (t.Cell n ∷ ts) (At a ∷ vs)
  -- an `fn`
  function : (rules : List Rule) (env : Env) (a : Address) (i : ℕ) (menv : m.Env) (us : List Term) (ts : List Term) (vs : List Value) → slice_get w.store a ≡ Some (Closure i rules menv) → Picks env menv us → Are p w us (values_in menv) → Are p w ts vs → Are p w (Function rules env [] ∷ ts) (At a ∷ vs)
  -- the j-th function of a `val rec`, whose closures stand from address b on
  recursive : (rules : List Rule) (env : Env) (group : List (ℕ × List Rule)) (a b j x : ℕ) (menv : m.Env) (us : List Term) (ts : List Term) (vs : List Value) → a ≡ b + j → slice_get group j ≡ Some (x, rules) → Stand w.store b group menv → Picks env menv us → Are p w us (values_in menv) → Are p w ts vs → Are p w (Function rules env group ∷ ts) (At a ∷ vs)

-- all that isn't a cell stays
abbrev pub IsLasting : Block → Type 0
IsLasting (Cell v) = ⊥
IsLasting _ = Unit {0}

pub record Later (w u : World) : Type 0 where
  pub cells : (n a : ℕ) → slice_get w.cells n ≡ Some a → slice_get u.cells n ≡ Some a
  pub exns : (n a : ℕ) → slice_get w.exns n ≡ Some a → slice_get u.exns n ≡ Some a
  pub blocks : (a : Address) (b : Block) → slice_get w.store a ≡ Some b → IsLasting b → slice_get u.store a ≡ Some b

pub later_refl : (w : World) → Later w w
later_refl w = record { cells = λ n a e. e; exns = λ n a e. e; blocks = λ a b e h. e }

pub later_trans : (w u x : World) → Later w u → Later u x → Later w x
later_trans w u x h g = record {
  cells = λ n a e. g.cells n a (h.cells n a e);
  exns = λ n a e. g.exns n a (h.exns n a e);
  blocks = λ a b e l. g.blocks a b (h.blocks a b e l) l;
}

module _ (p : Bare) where
  block_bytes : (o : Option Block) (bytes : List ℕ) → text_block o ≡ Some bytes → o ≡ Some (Text bytes)
  block_bytes (Some (Text bs)) bytes e = cc
  block_bytes _ bytes e = absurd cc

  pub bytes_later : (w u : World) → Later w u → (v : Value) (bytes : List ℕ) → bytes_of p w.store v ≡ Some bytes → bytes_of p u.store v ≡ Some bytes
  bytes_later w u l (m.Constant n) bytes e = e
  bytes_later w u l (At a) bytes e =
      ap text_block (l.blocks a (Text bytes) (block_bytes (slice_get w.store a) bytes e) tt)
  bytes_later w u l _ bytes e = absurd cc

  stand_later : (w u : World) → Later w u → (a : Address) (group : List (ℕ × List Rule)) (menv : m.Env) → Stand w.store a group menv → Stand u.store a group menv
  stand_later w u l a group menv h j f e = let g = h j f e in (g.0, g.1, l.blocks (a + j) _ g.2 tt)

  pub are_later : (w u : World) → Later w u → (ts : List Term) (vs : List Value) → Are p w ts vs → Are p u ts vs
  are_later w u l ts vs done = done
  are_later w u l ts vs (number z ts' vs' h) = number z ts' vs' (are_later w u l ts' vs' h)
  are_later w u l ts vs (letter c ts' vs' h) = letter c ts' vs' (are_later w u l ts' vs' h)
  are_later w u l ts vs (text bytes v ts' vs' e h) = text bytes v ts' vs' (bytes_later w u l v bytes e) (are_later w u l ts' vs' h)
  are_later w u l ts vs (nothing ts' vs' h) = nothing ts' vs' (are_later w u l ts' vs' h)
  are_later w u l ts vs (tuple x fields a us ts' vs' e g h) =
      tuple x fields a us ts' vs' (l.blocks a (Tuple us) e tt) (are_later w u l (x ∷ listed fields) us g) (are_later w u l ts' vs' h)
  are_later w u l ts vs (tag n ts' vs' h) = tag n ts' vs' (are_later w u l ts' vs' h)
  are_later w u l ts vs (applied n x a v ts' vs' e g h) =
      applied n x a v ts' vs' (l.blocks a (Applied n v) e tt) (are_later w u l (x ∷ []) (v ∷ []) g) (are_later w u l ts' vs' h)
  are_later w u l ts vs (builtin f ts' vs' h) = builtin f ts' vs' (are_later w u l ts' vs' h)
  are_later w u l ts vs (maker n ts' vs' h) = maker n ts' vs' (are_later w u l ts' vs' h)
  are_later w u l ts vs (ref_maker ts' vs' h) = ref_maker ts' vs' (are_later w u l ts' vs' h)
  are_later w u l ts vs (library e ts' vs' h) = library e ts' vs' (are_later w u l ts' vs' h)
  are_later w u l ts vs (name n a ts' vs' e h) = name n a ts' vs' (l.exns n a e) (are_later w u l ts' vs' h)
  are_later w u l ts vs (packet x y a q v ts' vs' e g h) =
      packet x y a q v ts' vs' (l.blocks a (Packet q v) e tt) (are_later w u l (x ∷ y ∷ []) (q ∷ v ∷ []) g) (are_later w u l ts' vs' h)
  are_later w u l ts vs (cell n a ts' vs' e h) = cell n a ts' vs' (l.cells n a e) (are_later w u l ts' vs' h)
  are_later w u l ts vs (function rules env a i menv us ts' vs' e k g h) =
      function rules env a i menv us ts' vs' (l.blocks a _ e tt) k (are_later w u l us (values_in menv) g) (are_later w u l ts' vs' h)
  are_later w u l ts vs (recursive rules env group a b j x menv us ts' vs' e f st k g h) =
      recursive rules env group a b j x menv us ts' vs' e f (stand_later w u l b group menv st) k (are_later w u l us (values_in menv) g) (are_later w u l ts' vs' h)
