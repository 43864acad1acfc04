-- One step of the machine.
use Rattle.std.specs.Prelude.{ℕ, suc, Bool, cond, not, List, [], ◌∷◌, ◌++◌, ◌&&◌, Option, Some, None, length, map, slice_get}
use Rattle.smlc_base.specs.declared.primitive.Primitive.{Primitive}
use Rattle.sml_tree.specs.declared.bare.Bare.{Bare}
use Rattle.simulation.specs.Stores.{Act, goes, tells, makes, puts}
use Rattle.prim_meaning.specs.Data as dat
use Rattle.prim_meaning.specs.Meaning as mean
use Rattle.prim_meaning.specs.Meaning.{Outcome, Verdict, meaning, compared, is_deep, decided, turn}
use Rattle.prim_meaning.specs.Strict.{is_seen}
use Rattle.prim_meaning.specs.Tests.{field_at}
use Rattle.sml_def.specs.Builtin.{see, exn_of, pend}
use Rattle.sml_def.specs.Maybe.{◌>>=◌, when}
use Rattle.sml_def.specs.State.{Value, Number, Letter, Nothing, Tag, Library, At, Address, Block, Tuple, Applied, Text, Cell, ExnName, Packet, Pending, Normal, Uncaught, truth}
use Rattle.sml_def.specs.Step.{exn_name, name_of}
use Rattle.lambda_ir.specs.Free.{is_comparison}
use Rattle.cps_ir.specs.declared.atom.Shape.{Shape}
use Rattle.cps_ir.specs.declared.atom.Shape.TheVariants as shape
use Rattle.cps_ir.specs.Code.{Code, Make, Pick, Prim, Equal, Fix, Call, Match, Handler, SetHandler, Throw, Halt, Functions, NoFunction, Function, Tree}
use Rattle.cps_ir.specs.State.{Vars, bind, value, values, given, Piece, Plain, Fun, data_of, Doing, Run, Enter, Raising, Compare, Ended, Facing}
use Rattle.cps_ir.specs.Tests.{taken}

pub record Store : Type 0 where
  pub pieces : List Piece
  pub input : List ℕ

abbrev pub Goes : Type 0
Goes = Option (Act Facing Piece)

abbrev pub facing : Store → Doing → Facing
facing m d = record { doing = d; input = m.input }

abbrev pub on : Store → Doing → Goes
on m d = goes (facing m d)

abbrev pub making : Store → Piece → (Address → Doing) → Goes
making m x next = makes (facing m (next (length m.pieces))) (x ∷ [])

-- texts and spellings, for the definitions of the source that cite these two alone
abbrev pub as_bare : Tree → Bare
as_bare q = record {
  nodes = [];
  places = [];
  decs = [];
  shown = [];
  types = [];
  tyvars = [];
  names = q.exns;
  texts = q.texts;
  width = 0;
}

abbrev pub block_made : Shape → List Value → Option Block
block_made shape.Tuple vs = Some (Tuple vs)
block_made (shape.Applied n) (v ∷ []) = Some (Applied n v)
block_made shape.Cell (v ∷ []) = Some (Cell v)
block_made (shape.ExnName x) [] = Some (ExnName x)
block_made shape.Packet (x ∷ v ∷ []) = Some (Packet x v)
block_made _ vs = None

-- the functions' names bound to addresses from a on
abbrev pub bind_functions : Functions → Address → Vars → Vars
bind_functions NoFunction a env = env
bind_functions (Function f p params body fs) a env = bind_functions fs (suc a) (bind env f (At a))

abbrev pub pieces_of : Functions → Vars → List Piece
pieces_of NoFunction env = []
pieces_of (Function f p params body fs) env = Fun p params body env ∷ pieces_of fs env

module _ (q : Tree) where
  abbrev pub seen : Store → Value → mean.Seen Value
  seen m = see q.texts (data_of m.pieces)

  -- both have equality: a comparison of others has no step
  abbrev pub both_seen : Store → Value → Value → Bool
  both_seen m v w = is_seen (seen m v) && is_seen (seen m w)

  -- ---- What a primitive comes to, with its result bound to x

  abbrev pub carry_plain : Store → ℕ → Code → Vars → Value → dat.Plain → Goes
  carry_plain m x c env h (dat.ANumber z) = on m (Run c (bind env x (Number z)) h)
  carry_plain m x c env h (dat.ALetter k) = on m (Run c (bind env x (Letter k)) h)
  carry_plain m x c env h (dat.ATag n) = on m (Run c (bind env x (Tag n)) h)
  carry_plain m x c env h (dat.AString bytes) = making m (Plain (Text bytes)) (λ a. Run c (bind env x (At a)) h)
  carry_plain m x c env h (dat.Fails f) = on m (Raising (Library (exn_of f)) h)
  carry_plain m x c env h (dat.Writes bytes) = tells (facing m (Run c (bind env x Nothing) h)) bytes
  carry_plain m x c env h (dat.ALine line left) =
      makes
      (record { doing = Run c (bind env x (At (suc (length m.pieces)))) h; input = left })
      (Plain (Text line) ∷ Plain (Applied 1 (At (length m.pieces))) ∷ [])

  -- a comparison is a form of its own
  abbrev pub carry : Store → ℕ → Code → Vars → Value → Outcome Value → Goes
  carry m x c env h (mean.Comes r) = carry_plain m x c env h r
  carry m x c env h (mean.Gives v) = on m (Run c (bind env x v) h)
  carry m x c env h (mean.Assigns a v) = puts (facing m (Run c (bind env x Nothing) h)) a (Plain (Cell v))
  carry m x c env h (mean.Compares v w t) = None

  abbrev pub primitive : Store → ℕ → Primitive → List Value → Code → Vars → Value → Goes
  primitive m x f vs c env h = meaning (seen m) (length m.pieces) m.input f vs >>= carry m x c env h

  -- ---- Comparisons

  -- two tuples or two applied constructors make a first pending pair, and others are decided at once
  abbrev pub begins : Store → Value → Value → Bool → Value → Value → Goes
  begins m v w t k h =
      cond (is_deep (seen m v) (seen m w))
      (making m (Plain (Pending v w None)) (λ a. Compare (Some a) t k h))
      (on m (Enter k (truth (decided (compared (seen m v) (seen m w)) t) ∷ []) h))

  abbrev pub equals : Store → Value → Value → Bool → Value → Value → Goes
  equals m v w t k h = cond (both_seen m v w) (begins m v w t k h) None

  abbrev pub by_verdict : Store → Verdict Value → Option Address → Bool → Value → Value → Goes
  by_verdict m mean.Equal next t k h = on m (Compare next t k h)
  by_verdict m mean.Unequal next t k h = on m (Enter k (truth (not t) ∷ []) h)
  by_verdict m (mean.AsPairs pairs) next t k h =
      let pended = pend pairs next (length m.pieces) in makes (facing m (Compare pended.1 t k h)) (map Plain pended.0)

  abbrev pub compares : Store → Option Piece → Bool → Value → Value → Goes
  compares m (Some (Plain (Pending v w next))) t k h =
      cond (both_seen m v w) (by_verdict m (turn (seen m) v w) next t k h) None
  compares m _ t k h = None

  -- ---- Bodies

  abbrev pub runs : Store → Code → Vars → Value → Goes
  runs m (Make x s atoms c) env h =
      block_made s (values env atoms) >>= (λ b. making m (Plain b) (λ a. Run c (bind env x (At a)) h))
  runs m (Pick x i a c) env h = field_at (seen m) (Some (value env a)) i >>= (λ v. on m (Run c (bind env x v) h))
  runs m (Prim x f atoms c) env h = cond (is_comparison f) None (primitive m x f (values env atoms) c env h)
  runs m (Equal a b t k) env h = equals m (value env a) (value env b) t (value env k) h
  runs m (Fix fs c) env h =
      let all = bind_functions fs (length m.pieces) env in makes (facing m (Run c all h)) (pieces_of fs all)
  runs m (Call a atoms) env h = on m (Enter (value env a) (values env atoms) h)
  runs m (Match a rules) env h = taken q.texts env (data_of m.pieces) (value env a) rules >>= (λ c. on m (Run c env h))
  runs m (Handler x c) env h = on m (Run c (bind env x h) h)
  runs m (SetHandler a c) env h = on m (Run c env (value env a))
  runs m (Throw a) env h = on m (Raising (value env a) h)
  runs m Halt env h = on m (Ended Normal)

  -- ---- Calls and raises

  abbrev pub goes_in : Store → Option Piece → List Value → Value → Goes
  goes_in m (Some (Fun p params body env)) vs h = given env params vs >>= (λ e. on m (Run body e h))
  goes_in m _ vs h = None

  abbrev pub enters : Store → Value → List Value → Value → Goes
  enters m (At a) vs h = goes_in m (slice_get m.pieces a) vs h
  enters m _ vs h = None

  -- the register holds no function: the packet is caught by nobody
  abbrev pub uncaught : Store → Value → Goes
  uncaught m x =
      exn_name (as_bare q) (data_of m.pieces) (name_of (as_bare q) (data_of m.pieces) x) >>= (λ name. on m (Ended (Uncaught name)))

  abbrev pub raises : Store → Value → Value → Goes
  raises m x (At a) = goes_in m (slice_get m.pieces a) (x ∷ []) (At a)
  raises m x _ = uncaught m x

  -- ---- The step

  abbrev pub step : Store → Doing → Goes
  step m (Run c env h) = runs m c env h
  step m (Enter u vs h) = enters m u vs h
  step m (Raising x h) = raises m x h
  step m (Compare None t k h) = on m (Enter k (truth t ∷ []) h)
  step m (Compare (Some a) t k h) = compares m (slice_get m.pieces a) t k h
  step m (Ended e) = None
