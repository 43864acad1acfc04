-- A term beside its value and that value's block, and what is read of them.
use Rattle.std.proofs.Common.{◌≡◌, ℕ, Bool, true, false, List, [], ◌∷◌, length, Option, Some, None, refl, sym, ◌∙◌, subst}
use Rattle.std.specs.Prelude.{ℤ, slice_get, nat_eq}
use Rattle.smlc_base.specs.declared.primitive.Primitive.{Primitive}
use Rattle.sml_tree.specs.declared.bare.Bare.{Bare}
use Rattle.sml_tree.specs.declared.bare.Rule.{Rule}
use Rattle.smlc_base.specs.declared.exception.LibraryExn.{LibraryExn}
use Rattle.sml_def.specs.Maybe.{when}
use Rattle.sml_def.specs.State.{Value, At, Address, Block, Tuple, Applied, Text, Cell, ExnName, Packet, Closure}
use Rattle.sml_def.specs.State as m
use Rattle.sml_def.specs.Match.{bytes_of, text_block, block_of, fields_of, tuple_block, applied_block, cell_block, packet_block}
use Rattle.sml_rules.specs.Terms.{Term, Record, Function, Terms, no_terms, more_terms, listed, Env, ◌over◌, rec_env, State}
use Rattle.sml_rules.specs.Terms as t
use Rattle.sml_rules.specs.Patterns.{applied_part, packet_parts, content_of, record_fields, text_of}
use Rattle.sml_rules.proofs.Relation.{World, Are}
use Rattle.sml_rules.proofs.Environments.{Is, Sub, IsOf, view_of}

-- the cells and exception names of the machine are those of the state
pub record Holds (p : Bare) (w : World) (s : State) : Type 0 where
  pub cell : (n a : ℕ) → slice_get w.cells n ≡ Some a → (u : Term) × (v : Value) × (slice_get s.memory n ≡ Some u) × (slice_get w.store a ≡ Some (Cell v)) × Is p w u v
  pub cells : length w.cells ≡ length s.memory
  pub cells_apart : (i j a : ℕ) → slice_get w.cells i ≡ Some a → slice_get w.cells j ≡ Some a → i ≡ j
  pub exn : (n a : ℕ) → slice_get w.exns n ≡ Some a → (x : ℕ) × (slice_get s.names n ≡ Some x) × (slice_get w.store a ≡ Some (ExnName x))
  pub exns : length w.exns ≡ length s.names
  pub exns_apart : (i j a : ℕ) → slice_get w.exns i ≡ Some a → slice_get w.exns j ≡ Some a → i ≡ j

-- a term, its value, and the block of that value
pub data Form (p : Bare) (w : World) (s : State) : Term → Value → Option Block → Type 0 where
  number : (z : ℤ) → Form p w s (t.Number z) (m.Number z) None
  letter : (c : ℕ) → Form p w s (t.Letter c) (m.Letter c) None
  constant : (bytes : List ℕ) (n : ℕ) → slice_get p.texts n ≡ Some bytes → Form p w s (t.Text bytes) (m.Constant n) None
  string : (bytes : List ℕ) (a : Address) → Form p w s (t.Text bytes) (At a) (Some (Text bytes))
  nothing : Form p w s (Record no_terms) m.Nothing None
  tuple : (u : Term) (fields : Terms) (a : Address) (us : List Value) → Are p w (u ∷ listed fields) us → Form p w s (Record (more_terms u fields)) (At a) (Some (Tuple us))
  tag : (n : ℕ) → Form p w s (t.Tag n) (m.Tag n) None
  applied : (n : ℕ) (u : Term) (a : Address) (x : Value) → Is p w u x → Form p w s (t.Applied n u) (At a) (Some (Applied n x))
  builtin : (f : Primitive) → Form p w s (t.Builtin f) (m.Builtin f) None
  maker : (n : ℕ) → Form p w s (t.Maker n) (m.Maker n) None
  ref_maker : Form p w s t.RefMaker m.RefMaker None
  library : (e : LibraryExn) → Form p w s (t.Library e) (m.Library e) None
  name : (n a x : ℕ) → slice_get w.exns n ≡ Some a → slice_get s.names n ≡ Some x → Form p w s (t.Name n) (At a) (Some (ExnName x))
  packet : (x u : Term) (a : Address) (y z : Value) → Is p w x y → Is p w u z → Form p w s (t.Packet x u) (At a) (Some (Packet y z))
  cell : (n a : ℕ) (u : Term) (x : Value) → slice_get w.cells n ≡ Some a → slice_get s.memory n ≡ Some u → Is p w u x → Form p w s (t.Cell n) (At a) (Some (Cell x))
  function : (rules : List Rule) (env : Env) (group : List (ℕ × List Rule)) (a : Address) (i : ℕ) (menv : m.Env) → Sub p w (rec_env env group over env) menv → Form p w s (Function rules env group) (At a) (Some (Closure i rules menv))

module _ (p : Bare) (w : World) (s : State) where
  module _ (holds : Holds p w s) where
    abbrev FormOf : Term → Value → Type 0
    FormOf u v = Form p w s u v (block_of w.store v)

    -- a form at what the value is
    at_value : (u : Term) (v x : Value) → v ≡ x → FormOf u x → FormOf u v
    at_value u v x e f = subst (FormOf u) (sym e) f

    at_block : (u : Term) (v : Value) (a : Address) (o : Option Block) → v ≡ At a → slice_get w.store a ≡ o → Form p w s u (At a) o → FormOf u v
    at_block u v a o e g f = at_value u v (At a) e (subst (Form p w s u (At a)) (sym g) f)

    text_form : (bytes : List ℕ) (v : Value) → bytes_of p w.store v ≡ Some bytes → FormOf (t.Text bytes) v
    text_form bytes (m.Constant n) e = constant bytes n e
    text_form bytes (At a) e = go (slice_get w.store a) e
      where
        go : (o : Option Block) → text_block o ≡ Some bytes → Form p w s (t.Text bytes) (At a) o
        go (Some (Text bs)) e = let same : bs ≡ bytes = cc in subst (λ b. Form p w s (t.Text bytes) (At a) (Some (Text b))) (sym same) (string bytes a)
        go _ e = absurd cc
    text_form bytes _ e = absurd cc

    by_view : (u : Term) (v : Value) → IsOf p w u v → FormOf u v
    by_view (t.Number z) v e = at_value _ v (m.Number z) e (number z)
    by_view (t.Letter c) v e = at_value _ v (m.Letter c) e (letter c)
    by_view (t.Text bytes) v e = text_form bytes v e
    by_view (Record no_terms) v e = at_value _ v m.Nothing e nothing
    by_view (Record (more_terms u fields)) v (a, e, h) = at_block _ v a _ e h.1 (tuple u fields a h.0 h.2)
    by_view (t.Tag n) v e = at_value _ v (m.Tag n) e (tag n)
    by_view (t.Applied n u) v (a, e, h) = at_block _ v a _ e h.1 (applied n u a h.0 h.2)
    by_view (t.Builtin f) v e = at_value _ v (m.Builtin f) e (builtin f)
    by_view (t.Maker n) v e = at_value _ v (m.Maker n) e (maker n)
    by_view t.RefMaker v e = at_value _ v m.RefMaker e ref_maker
    by_view (t.Library x) v e = at_value _ v (m.Library x) e (library x)
    by_view (t.Name n) v (a, e, h) = let g = holds.exn n a h in at_block _ v a _ e g.2 (name n a g.0 h g.1)
    by_view (t.Packet x u) v (a, e, h) = at_block _ v a _ e h.2 (packet x u a h.0 h.1 h.3 h.4)
    by_view (t.Cell n) v (a, e, h) = let g = holds.cell n a h in at_block _ v a _ e g.3 (cell n a g.0 g.1 h g.2 g.4)
    by_view (Function rules env group) v (a, e, h) = at_block _ v a _ e h.2 (function rules env group a h.0 h.1 h.3)

    pub form : (u : Term) (v : Value) → Is p w u v → FormOf u v
    form u v h = by_view u v (view_of p w u v h)

  -- ---- What is read of a value

  abbrev pub OptIs : Option Term → Option Value → Type 0
  OptIs None None = Unit {0}
  OptIs (Some u) (Some v) = Is p w u v
  OptIs _ _ = ⊥

  abbrev pub OptAre : Option (List Term) → Option (List Value) → Type 0
  OptAre None None = Unit {0}
  OptAre (Some us) (Some vs) = Are p w us vs
  OptAre _ _ = ⊥

  abbrev pub OptPair : Option (Term × Term) → Option (Value × Value) → Type 0
  OptPair None None = Unit {0}
  OptPair (Some u) (Some v) = Is p w u.0 v.0 × Is p w u.1 v.1
  OptPair _ _ = ⊥

  when_is : (q : Bool) (u : Term) (v : Value) → Is p w u v → OptIs (when q u) (when q v)
  when_is true u v h = h
  when_is false u v h = tt

  pub applied_is : (n : ℕ) (u : Term) (v : Value) (o : Option Block) → Form p w s u v o → OptIs (applied_part n u) (applied_block n o)
  applied_is n u v o (applied k u' a x h) = when_is (nat_eq n k) u' x h
  applied_is n u v o nothing = tt
  applied_is n u v o ref_maker = tt
  applied_is n u v o _ = tt

  pub content_is : (u : Term) (v : Value) (o : Option Block) → Form p w s u v o → OptIs (content_of s.memory u) (cell_block o)
  content_is u v o (cell k a u' x e g h) = subst (λ q. OptIs q (Some x)) (sym g) h
  content_is u v o _ = tt

  pub packet_is : (u : Term) (v : Value) (o : Option Block) → Form p w s u v o → OptPair (packet_parts u) (packet_block o)
  packet_is u v o (packet x u' a y z h g) = (h, g)
  packet_is u v o nothing = tt
  packet_is u v o ref_maker = tt
  packet_is u v o _ = tt

  -- what is read of a value by its block
  abbrev fields_by : Value → Option Block → Option (List Value)
  fields_by m.Nothing o = Some []
  fields_by v o = tuple_block o

  fields_same : (v : Value) → fields_of w.store v ≡ fields_by v (block_of w.store v)
  fields_same m.Nothing = refl
  fields_same (At a) = refl
  fields_same _ = refl

  abbrev bytes_by : Value → Option Block → Option (List ℕ)
  bytes_by (m.Constant n) o = slice_get p.texts n
  bytes_by v o = text_block o

  bytes_same : (v : Value) → bytes_of p w.store v ≡ bytes_by v (block_of w.store v)
  bytes_same (m.Constant n) = refl
  bytes_same (At a) = refl
  bytes_same _ = refl

  fields_form : (u : Term) (v : Value) (o : Option Block) → Form p w s u v o → OptAre (record_fields u) (fields_by v o)
  fields_form u v o nothing = Are.done
  fields_form u v o (tuple u' fields a us h) = h
  fields_form u v o ref_maker = tt
  fields_form u v o _ = tt

  pub fields_is : (u : Term) (v : Value) → Form p w s u v (block_of w.store v) → OptAre (record_fields u) (fields_of w.store v)
  fields_is u v f = subst (OptAre (record_fields u)) (sym (fields_same v)) (fields_form u v _ f)

  text_form_is : (u : Term) (v : Value) (o : Option Block) → Form p w s u v o → text_of u ≡ bytes_by v o
  text_form_is u v o (constant bytes k e) = sym e
  text_form_is u v o nothing = refl
  text_form_is u v o ref_maker = refl
  text_form_is u v o _ = refl

  pub text_is : (u : Term) (v : Value) → Form p w s u v (block_of w.store v) → text_of u ≡ bytes_of p w.store v
  text_is u v f = text_form_is u v _ f ∙ sym (bytes_same v)
