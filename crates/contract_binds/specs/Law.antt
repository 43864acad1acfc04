-- The walk of a binding by tables.
use Rattle.std.specs.Prelude.{◌≡◌, ℕ, ◌<◌, Bool, false, List, Option, Some, None, length, get_or}
use Rattle.smlc_base.specs.declared.primitive.Primitive.{Primitive}
use Rattle.cps_ir.specs.declared.atom.Atom.{Atom}
use Rattle.cps_ir.specs.declared.atom.Atom.TheVariants as atom
use Rattle.cps_ir.specs.declared.atom.Shape.{Shape}
use Rattle.cps_ir.specs.declared.body.Bind.{Bind}
use Rattle.cps_ir.specs.Code.{Code, Make, Pick, Prim}
use Rattle.cps_ir.specs.Program.{code_of_bind}
use Rattle.contract_laws.specs.Redex.{uses}
use Rattle.contract_round.specs.Round.{Inlined, Known, known, walk}
use Rattle.contract_frame.specs.Apart.{SameBody}
use Rattle.contract_census.specs.declared.counts.Count.{Count}
use Rattle.contract_census.specs.Counting.{count_at}
use Rattle.contract_census.specs.Counted.{times_of}
use Rattle.contract_known.specs.declared.blocks.Block.{Block}
use Rattle.contract_known.specs.Known.{place_of, made_at}
use Rattle.contract_binds.specs.Binds.{make_left, make_blocks, pick_kept, pick_places, prim_left}

abbrev pub scope_of : List Atom → List (Option Block) → ℕ → (ℕ → Option Inlined) → Known
scope_of places blocks root ι = known (place_of places) (made_at blocks root) ι

-- what is left of a binding in front of a body
abbrev pub in_front : (ℕ → Code) → Option Bind → Code → Code
in_front part None c = c
in_front part (Some b) c = code_of_bind part b c

abbrev pub no_variable : ℕ → Bool
no_variable x = false

-- nothing is entered for x, and bodies that are put where they are called look at blocks alone that they are given
pub record IsNew (places : List Atom) (blocks : List (Option Block)) (ι : ℕ → Option Inlined) (x : ℕ) : Type 0 where
  pub has_place : x < length places
  pub has_block : x < length blocks
  pub place : place_of places x ≡ atom.Var x
  pub block : get_or blocks x None ≡ None
  pub body : ι x ≡ None
  pub steady : (f : ℕ) → SameBody no_variable (ι f) (ι f)

-- x's uses are counted in the body behind it
abbrev pub Counted : List Count → ℕ → Code → Type 0
Counted counts x c = (count_at counts x).uses ≡ times_of (uses x c)

abbrev pub MakeWalks : Type 0
MakeWalks = (texts : List (List ℕ)) (part : ℕ → Code) (counts : List Count) (places : List Atom) (blocks : List (Option Block)) (root : ℕ) (ι : ℕ → Option Inlined) (x : ℕ) (shape : Shape) (atoms : List Atom) (c : Code) → IsNew places blocks ι x → Counted counts x c → walk texts (scope_of places blocks root ι) (Make x shape atoms c) ≡ in_front part (make_left counts places x shape atoms) (walk texts (scope_of places (make_blocks counts root places x shape atoms blocks) root ι) c)

abbrev pub PickWalks : Type 0
PickWalks = (texts : List (List ℕ)) (part : ℕ → Code) (counts : List Count) (places : List Atom) (blocks : List (Option Block)) (root : ℕ) (ι : ℕ → Option Inlined) (x i : ℕ) (a : Atom) (c : Code) → IsNew places blocks ι x → Counted counts x c → walk texts (scope_of places blocks root ι) (Pick x i a c) ≡ in_front part (pick_kept counts root places blocks x i a) (walk texts (scope_of (pick_places counts root places blocks x i a) blocks root ι) c)

abbrev pub PrimWalks : Type 0
PrimWalks = (texts : List (List ℕ)) (part : ℕ → Code) (counts : List Count) (places : List Atom) (blocks : List (Option Block)) (root : ℕ) (ι : ℕ → Option Inlined) (x : ℕ) (f : Primitive) (atoms : List Atom) (c : Code) → IsNew places blocks ι x → Counted counts x c → walk texts (scope_of places blocks root ι) (Prim x f atoms c) ≡ in_front part (prim_left counts places x f atoms) (walk texts (scope_of places blocks root ι) c)
