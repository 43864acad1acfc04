-- Which values fit a pattern, and what they bind.
use Rattle.std.specs.Prelude.{ℕ, Bool, false, List, [], ◌∷◌, ◌++◌, Option, Some, None, cond, nat_eq, slice_get, bytes_eq}
use Rattle.std.specs.Ordering.{int_eq}
use Rattle.sml_tree.specs.declared.bare.Bare.{Bare}
use Rattle.sml_tree.specs.declared.bare.Node.{Node}
use Rattle.sml_tree.specs.declared.bare.Node.TheVariants as node
use Rattle.sml_tree.specs.declared.bare.Con.{Con}
use Rattle.sml_tree.specs.declared.bare.Con.TheVariants as con
use Rattle.sml_tree.specs.declared.bare.Field.{Field}
use Rattle.sml_tree.specs.declared.bare.Rule.{Rule}
use Rattle.smlc_base.specs.Exceptions.{exn_number}
use Rattle.sml_tree.specs.BareParts.{from_parts}
use Rattle.sml_def.specs.Maybe.{◌>>=◌, when, or_else}
use Rattle.sml_def.specs.State.{Value, Number, Letter, Nothing, Tag, Constant, Maker, RefMaker, Library, At, Env, Block, Tuple, Applied, Text, Cell, Packet, look}

-- the block of a value
abbrev pub block_of : List Block → Value → Option Block
block_of store (At a) = slice_get store a
block_of store _ = None

-- the bytes of a string
abbrev pub text_block : Option Block → Option (List ℕ)
text_block (Some (Text bytes)) = Some bytes
text_block _ = None

abbrev pub bytes_of : Bare → List Block → Value → Option (List ℕ)
bytes_of p store (Constant n) = slice_get p.texts n
bytes_of p store (At a) = text_block (slice_get store a)
bytes_of p store _ = None

abbrev pub tuple_block : Option Block → Option (List Value)
tuple_block (Some (Tuple fields)) = Some fields
tuple_block _ = None

-- the fields of a record
abbrev pub fields_of : List Block → Value → Option (List Value)
fields_of store Nothing = Some []
fields_of store (At a) = tuple_block (slice_get store a)
fields_of store _ = None

-- The value of a constructor: without an argument a tag, and else what it is as a function. That of an exception constructor is its name.
abbrev pub con_value : Env → Con → Option Value
con_value env (con.Data t n takes) = Some (cond takes (Maker n) (Tag n))
con_value env con.Ref = Some RefMaker
con_value env (con.Exn x takes) = look env x.0
con_value env (con.Library e) = Some (Library e)

-- whether two exception names are one
abbrev pub same_exn : Value → Value → Bool
same_exn (At a) (At b) = nat_eq a b
same_exn (Library d) (Library e) = nat_eq (exn_number d) (exn_number e)
same_exn _ _ = false

-- the exception name and the argument of a packet
abbrev pub packet_block : Option Block → Option (Value × Value)
packet_block (Some (Packet x v)) = Some (x, v)
packet_block _ = None

-- what a constructor is applied to in a value, if it is
abbrev pub applied_block : ℕ → Option Block → Option Value
applied_block n (Some (Applied m v)) = when (nat_eq n m) v
applied_block n _ = None

abbrev pub cell_block : Option Block → Option Value
cell_block (Some (Cell v)) = Some v
cell_block _ = None

abbrev pub argument_of : Env → List Block → Con → Value → Option Value
argument_of env store (con.Data t n takes) v = applied_block n (block_of store v)
argument_of env store con.Ref v = cell_block (block_of store v)
argument_of env store (con.Exn x takes) v = do
  name ← look env x.0
  packet ← packet_block (block_of store v)
  when (same_exn name packet.0) packet.1
argument_of env store (con.Library e) v = do
  packet ← packet_block (block_of store v)
  when (same_exn (Library e) packet.0) packet.1

-- whether a value is a constructor without an argument
abbrev pub is_con : Env → Con → Value → Bool
is_con env (con.Data t n takes) (Tag m) = nat_eq n m
is_con env (con.Exn x takes) v = or_else (look env x.0) (λ name. same_exn name v) false
is_con env (con.Library e) v = same_exn (Library e) v
is_con env _ v = false

module _ (p : Bare) (env : Env) (store : List Block) where
  -- fields fit their patterns, in the order of the patterns
  abbrev pub fields_fit : (ℕ → Value → Option Env) → List Field → List Value → Option Env
  fields_fit fits [] values = Some []
  fields_fit fits (f ∷ fields) values = do
    v ← slice_get values f.slot
    bound ← fits f.node v
    others ← fields_fit fits fields values
    Some (bound ++ others)

  -- what a value binds that fits a pattern
  abbrev pub fits_of : (ℕ → Value → Option Env) → Node → Value → Option Env
  fits_of fits node.Wild v = Some []
  fits_of fits (node.PatInt n) (Number m) = when (int_eq n m) []
  fits_of fits (node.PatChar c) (Letter d) = when (nat_eq c d) []
  fits_of fits (node.PatText t) v = do
    bytes ← slice_get p.texts t
    others ← bytes_of p store v
    when (bytes_eq bytes others) []
  fits_of fits (node.PatVar x) v = Some ((x.0, v) ∷ [])
  fits_of fits (node.PatCon c) v = when (is_con env c v) []
  fits_of fits (node.PatApp c q) v = argument_of env store c v >>= fits q
  fits_of fits (node.PatRecord fields) v = fields_of store v >>= fields_fit fits fields
  fits_of fits (node.PatTyped q ty) v = fits q v
  fits_of fits (node.PatAs x q) v = do
    bound ← fits q v
    Some ((x.0, v) ∷ bound)
  fits_of fits _ v = None

  abbrev pub fits : ℕ → Value → Option Env
  fits = from_parts (λ v. None) (λ part i. fits_of part) p.nodes

  -- the first rule whose pattern fits, with what it binds
  abbrev pub first_rule : List Rule → Value → Option (Env × ℕ)
  first_rule [] v = None
  first_rule (r ∷ rules) v = or_else (fits r.pat v) (λ bound. Some (bound, r.body)) (first_rule rules v)
