-- Values such that the tests of a pattern look at values of their kind alone.
use Rattle.std.specs.Prelude.{ℕ, pos, Bool, true, false, ◌&&◌, List, [], ◌∷◌, Option, Some, None, slice_get}
use Rattle.std.specs.Option.{is_some}
use Rattle.sml_tree.specs.declared.bare.Bare.{Bare}
use Rattle.sml_tree.specs.declared.bare.Node.{Node}
use Rattle.sml_tree.specs.declared.bare.Node.TheVariants as node
use Rattle.sml_tree.specs.declared.bare.Con.{Con}
use Rattle.sml_tree.specs.declared.bare.Con.TheVariants as con
use Rattle.sml_tree.specs.declared.bare.Field.{Field}
use Rattle.sml_tree.specs.BareParts.{from_parts}
use Rattle.prim_meaning.specs.Tests.{Wanted, Num, Tag, Exn, bytes_wanted, name_wanted, fields_in}
use Rattle.prim_meaning.specs.Strict.{met}
use Rattle.sml_def.specs.Builtin.{see, which}
use Rattle.sml_def.specs.Match.{block_of}
use Rattle.sml_def.specs.Maybe.{or_else}
use Rattle.sml_def.specs.State.{Value, Library, Env, Block, ExnName, look}
use Rattle.match_laws.specs.Compile.{slot_of}

abbrev pub name_block : Option Block → Bool
name_block (Some (ExnName x)) = true
name_block _ = false

-- an exception name
abbrev pub is_exn_name : List Block → Value → Bool
is_exn_name store (Library e) = true
is_exn_name store v = name_block (block_of store v)

-- a constructor's test, and what is asked of its argument where the test holds
abbrev pub then_suits : Option Bool → Bool → Bool
then_suits (Some true) b = b
then_suits (Some false) b = true
then_suits None b = false

module _ (p : Bare) (env : Env) (store : List Block) where
  abbrev pub is_met : Wanted Value → Value → Option Bool
  is_met w v = met (see p.texts store) which (is_exn_name store) w v

  abbrev pub con_met : Bool → Con → Value → Option Bool
  con_met applied (con.Data t n takes) v = is_met (Tag n) v
  con_met applied con.Ref v = Some true
  con_met applied (con.Exn x takes) v = is_met (name_wanted applied (look env x.0)) v
  con_met applied (con.Library e) v = is_met (Exn (Library e) applied) v

  abbrev pub field_suits : (Value → Bool) → ℕ → Value → Bool
  field_suits part i v = or_else (slice_get (fields_in (see p.texts store v)) i) part false

  abbrev pub fields_suit : (ℕ → Value → Bool) → List Field → Value → Bool
  fields_suit part [] v = true
  fields_suit part (f ∷ fields) v = field_suits (part f.node) f.slot v && fields_suit part fields v

  abbrev pub suited_of : (ℕ → Value → Bool) → Node → Value → Bool
  suited_of part node.Wild v = true
  suited_of part (node.PatInt n) v = is_some (is_met (Num n) v)
  suited_of part (node.PatChar c) v = is_some (is_met (Num (pos c)) v)
  suited_of part (node.PatText t) v = is_some (is_met (bytes_wanted (slice_get p.texts t)) v)
  suited_of part (node.PatVar x) v = true
  suited_of part (node.PatCon c) v = is_some (con_met false c v)
  suited_of part (node.PatApp c q) v = then_suits (con_met true c v) (field_suits (part q) (slot_of c) v)
  suited_of part (node.PatRecord fields) v = fields_suit part fields v
  suited_of part (node.PatTyped q ty) v = part q v
  suited_of part (node.PatAs x q) v = part q v
  suited_of part _ v = false

  abbrev pub suited : ℕ → Value → Bool
  suited = from_parts (λ v. false) (λ part i. suited_of part) p.nodes
