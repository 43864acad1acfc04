-- Values that are such as a pattern's type has: then its tests say whether it fits.
use Rattle.std.specs.Prelude.{ℕ, Bool, true, false, not, List, [], ◌∷◌, Option, Some, None, ◌&&◌, slice_get}
use Rattle.sml_tree.specs.declared.bare.Bare.{Bare}
use Rattle.sml_tree.specs.declared.bare.Node.{Node}
use Rattle.sml_tree.specs.declared.bare.Node.TheVariants as node
use Rattle.sml_tree.specs.declared.bare.Con.{Con}
use Rattle.sml_tree.specs.declared.bare.Con.TheVariants as con
use Rattle.sml_tree.specs.declared.bare.Field.{Field}
use Rattle.sml_tree.specs.BareParts.{from_parts}
use Rattle.sml_def.specs.Maybe.{or_else}
use Rattle.sml_def.specs.State.{Value, Number, Letter, Library, Env, Block, look}
use Rattle.sml_def.specs.Match.{argument_of, is_con, fields_of}
use Rattle.prim_meaning.specs.Tests.{Wanted, Tag, Exn, name_wanted, is_wanted}
use Rattle.sml_def.specs.Builtin.{see, which}

abbrev pub is_number : Value → Bool
is_number (Number z) = true
is_number v = false

abbrev pub is_letter : Value → Bool
is_letter (Letter c) = true
is_letter v = false

abbrev pub same_bool : Bool → Bool → Bool
same_bool true b = b
same_bool false b = not b

module _ (p : Bare) (env : Env) (store : List Block) where
  -- a value is as it is wanted
  abbrev pub met : Wanted Value → Value → Bool
  met w v = is_wanted (see p.texts store) which w v

  -- the test of a constructor holds
  abbrev pub con_holds : Bool → Con → Value → Bool
  con_holds applied (con.Data t n takes) v = met (Tag n) v
  con_holds applied con.Ref v = true
  con_holds applied (con.Exn x takes) v = met (name_wanted applied (look env x.0)) v
  con_holds applied (con.Library e) v = met (Exn (Library e) applied) v

  -- where a constructor's test holds there is an argument, which is shaped
  abbrev pub shaped_argument : (Value → Bool) → Bool → Option Value → Bool
  shaped_argument part head None = not head
  shaped_argument part head (Some w) = head && part w

  abbrev pub shaped_fields : (ℕ → Value → Bool) → List Field → List Value → Bool
  shaped_fields part [] values = true
  shaped_fields part (f ∷ fields) values = or_else (slice_get values f.slot) (part f.node) false && shaped_fields part fields values

  abbrev pub shaped_of : (ℕ → Value → Bool) → Node → Value → Bool
  shaped_of part node.Wild v = true
  shaped_of part (node.PatInt n) v = is_number v
  shaped_of part (node.PatChar c) v = is_letter v
  shaped_of part (node.PatText t) v = true
  shaped_of part (node.PatVar x) v = true
  shaped_of part (node.PatCon c) v = same_bool (is_con env c v) (con_holds false c v)
  shaped_of part (node.PatApp c q) v = shaped_argument (part q) (con_holds true c v) (argument_of env store c v)
  shaped_of part (node.PatRecord fields) v = or_else (fields_of store v) (shaped_fields part fields) false
  shaped_of part (node.PatTyped q ty) v = part q v
  shaped_of part (node.PatAs x q) v = part q v
  shaped_of part _ v = false

  abbrev pub shaped : ℕ → Value → Bool
  shaped = from_parts (λ v. false) (λ part i. shaped_of part) p.nodes
