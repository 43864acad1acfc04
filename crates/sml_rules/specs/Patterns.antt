-- The rules for patterns (132 to 150), and which rule of a match is taken (109 to 113).
use Rattle.std.specs.Prelude.{ℕ, zero, suc, Bool, false, List, [], ◌∷◌, Option, Some, None, cond, nat_eq, slice_get, bytes_eq}
use Rattle.std.specs.Ordering.{int_eq}
use Rattle.sml_tree.specs.declared.bare.Bare.{Bare}
use Rattle.sml_tree.specs.declared.bare.Node.{Node}
use Rattle.sml_tree.specs.declared.bare.Node.TheVariants as node
use Rattle.sml_tree.specs.declared.bare.Con.{Con}
use Rattle.sml_tree.specs.declared.bare.Con.TheVariants as con
use Rattle.sml_tree.specs.declared.bare.Field.{Field}
use Rattle.sml_tree.specs.declared.bare.Rule.{Rule}
use Rattle.smlc_base.specs.Exceptions.{exn_number}
use Rattle.sml_def.specs.Maybe.{◌>>=◌, when, or_else}
use Rattle.sml_rules.specs.Terms.{Term, Number, Letter, Text, Record, Tag, Applied, Maker, RefMaker, Library, Name, Packet, Cell, Env, nowhere, bind, look, listed, ◌over◌}

-- what a value and a pattern give: bindings VE, or FAIL, or that the bound of depth isn't enough
pub data Fit (A : Type 0) : Type 0 where
  Fits : A → Fit A
  Fails : Fit A
  TooDeep : Fit A

infixl 10 ◌and_fit◌
abbrev pub ◌and_fit◌ : {A B : Type 0} → Fit A → (A → Fit B) → Fit B
(Fits a) and_fit f = f a
Fails and_fit f = Fails
TooDeep and_fit f = TooDeep

abbrev pub fit_if : Bool → Fit Env
fit_if t = cond t (Fits nowhere) Fails

abbrev pub of_part : {A B : Type 0} → Option A → (A → Fit B) → Fit B
of_part None f = Fails
of_part (Some a) f = f a

-- the value of a constructor (rule 91)
abbrev pub con_value : Env → Con → Option Term
con_value env (con.Data t n takes) = Some (cond takes (Maker n) (Tag n))
con_value env con.Ref = Some RefMaker
con_value env (con.Exn x takes) = look env x.0
con_value env (con.Library e) = Some (Library e)

-- whether two exception names are one
abbrev pub same_exn : Term → Term → Bool
same_exn (Name m) (Name n) = nat_eq m n
same_exn (Library d) (Library e) = nat_eq (exn_number d) (exn_number e)
same_exn _ _ = false

-- a value that is a constructor without argument (136, 137)
abbrev pub is_con : Env → Con → Term → Bool
is_con env (con.Data t n takes) (Tag m) = nat_eq n m
is_con env (con.Exn x takes) v = or_else (look env x.0) (λ name. same_exn name v) false
is_con env (con.Library e) v = same_exn (Library e) v
is_con env _ v = false

abbrev pub packet_parts : Term → Option (Term × Term)
packet_parts (Packet x v) = Some (x, v)
packet_parts _ = None

abbrev pub applied_part : ℕ → Term → Option Term
applied_part n (Applied m v) = when (nat_eq n m) v
applied_part n _ = None

abbrev pub content_of : List Term → Term → Option Term
content_of memory (Cell n) = slice_get memory n
content_of memory _ = None

abbrev pub record_fields : Term → Option (List Term)
record_fields (Record fields) = Some (listed fields)
record_fields _ = None

-- what a constructor is applied to in a value, if it is: that of a datatype (144, 145), `ref` (148) or an exception (146, 147)
abbrev pub argument_of : Env → List Term → Con → Term → Option Term
argument_of env memory (con.Data t n takes) v = applied_part n v
argument_of env memory con.Ref v = content_of memory v
argument_of env memory (con.Exn x takes) v = do
  name ← look env x.0
  packet ← packet_parts v
  when (same_exn name packet.0) packet.1
argument_of env memory (con.Library e) v = do
  packet ← packet_parts v
  when (same_exn (Library e) packet.0) packet.1

abbrev pub text_of : Term → Option (List ℕ)
text_of (Text bytes) = Some bytes
text_of _ = None

module _ (p : Bare) (env : Env) (memory : List Term) where
  -- pattern rows (141, 142): a premise for each field, in written order
  abbrev pub row_of : (ℕ → Term → Fit Env) → List Field → List Term → Fit Env
  row_of pat [] values = Fits nowhere
  row_of pat (f ∷ fields) values =
      of_part (slice_get values f.slot) (λ v. pat f.node v and_fit (λ bound. row_of pat fields values and_fit (λ others. Fits (bound over others))))

  -- A pattern by the rules of its form. `pat` gives its premises.
  abbrev pub pat_of : (ℕ → Term → Fit Env) → Node → Term → Fit Env
  -- 132
  pat_of pat node.Wild v = Fits nowhere
  -- 133, 134
  pat_of pat (node.PatInt n) (Number m) = fit_if (int_eq n m)
  pat_of pat (node.PatChar c) (Letter d) = fit_if (nat_eq c d)
  pat_of pat (node.PatText t) v = of_part (slice_get p.texts t) (λ bytes. of_part (text_of v) (λ others. fit_if (bytes_eq bytes others)))
  -- 135
  pat_of pat (node.PatVar x) v = Fits (bind x.0 v nowhere)
  -- 136, 137
  pat_of pat (node.PatCon c) v = fit_if (is_con env c v)
  -- 144 to 148
  pat_of pat (node.PatApp c q) v = of_part (argument_of env memory c v) (pat q)
  -- 138, with 141 and 142
  pat_of pat (node.PatRecord fields) v = of_part (record_fields v) (row_of pat fields)
  -- types are dropped before evaluation (6.1, Reduced Syntax)
  pat_of pat (node.PatTyped q ty) v = pat q v
  -- 149, 150
  pat_of pat (node.PatAs x q) v = pat q v and_fit (λ bound. Fits (bind x.0 v bound))
  pat_of pat _ v = Fails

  abbrev pub pat_at : (ℕ → Term → Fit Env) → Option Node → Term → Fit Env
  pat_at pat None v = Fails
  pat_at pat (Some n) v = pat_of pat n v

  -- s, E, v ⊢ pat, by derivations of depth d at most
  abbrev pub pat : ℕ → ℕ → Term → Fit Env
  pat zero i v = TooDeep
  pat (suc d) i v = pat_at (pat d) (slice_get p.nodes i) v

  abbrev pub or_next : Fit Env → ℕ → Fit (Env × ℕ) → Fit (Env × ℕ)
  or_next (Fits bound) body others = Fits (bound, body)
  or_next Fails body others = others
  or_next TooDeep body others = TooDeep

  -- the first rule of a match whose pattern the value fits (109 to 113), with its bindings and its body
  abbrev pub first_rule : (ℕ → Term → Fit Env) → List Rule → Term → Fit (Env × ℕ)
  first_rule pat [] v = Fails
  first_rule pat (r ∷ rules) v = or_next (pat r.pat v) r.body (first_rule pat rules v)
