-- What is left of a binding, and what is entered in the tables.
use Rattle.std.specs.Prelude.{ℕ, Bool, true, false, cond, ◌&&◌, List, Option, Some, None, length, nat_lt, slice_set}
use Rattle.smlc_base.specs.declared.primitive.Primitive.{Primitive}
use Rattle.cps_ir.specs.declared.atom.Atom.{Atom}
use Rattle.cps_ir.specs.declared.atom.Shape.{Shape}
use Rattle.cps_ir.specs.declared.atom.Shape.TheVariants as form
use Rattle.cps_ir.specs.declared.body.Bind.{Bind}
use Rattle.cps_ir.specs.declared.body.Bind.TheVariants as bind
use Rattle.contract_laws.specs.Contract.{is_pure}
use Rattle.contract_round.specs.Round.{atom_in, atoms_in, known_field}
use Rattle.contract_census.specs.declared.counts.Count.{Count}
use Rattle.contract_census.specs.Counting.{is_never, count_at}
use Rattle.contract_known.specs.declared.blocks.Block.{Block}
use Rattle.contract_known.specs.Known.{place_of, made_at}

abbrev pub is_known_kind : Shape → Bool
is_known_kind form.Tuple = true
is_known_kind (form.Applied n) = true
is_known_kind _ = false

abbrev pub put : {A : Type 0} → ℕ → A → List A → List A
put x a table = cond (nat_lt x (length table)) (slice_set table x a) table

abbrev pub entered : ℕ → ℕ → Shape → List Atom → List (Option Block) → List (Option Block)
entered root x shape atoms blocks = cond (is_known_kind shape) (put x (Some (record { root = root; shape = shape; atoms = atoms })) blocks) blocks

abbrev pub field_kept : ℕ → ℕ → Atom → Option Atom → Option Bind
field_kept x i a None = Some (bind.Pick x i a)
field_kept x i a (Some b) = None

abbrev pub field_place : ℕ → Option Atom → List Atom → List Atom
field_place x None places = places
field_place x (Some b) places = put x b places

abbrev pub pick_field : ℕ → List Atom → List (Option Block) → ℕ → Atom → Option Atom
pick_field root places blocks i a = known_field (made_at blocks root) (atom_in (place_of places) a) i

module _ (counts : List Count) where
  abbrev pub unused : ℕ → Bool
  unused x = is_never (count_at counts x).uses

  abbrev pub make_left : List Atom → ℕ → Shape → List Atom → Option Bind
  make_left places x shape atoms = cond (unused x) None (Some (bind.Make x shape (atoms_in (place_of places) atoms)))

  abbrev pub make_blocks : ℕ → List Atom → ℕ → Shape → List Atom → List (Option Block) → List (Option Block)
  make_blocks root places x shape atoms blocks = cond (unused x) blocks (entered root x shape (atoms_in (place_of places) atoms) blocks)

  abbrev pub pick_kept : ℕ → List Atom → List (Option Block) → ℕ → ℕ → Atom → Option Bind
  pick_kept root places blocks x i a = cond (unused x) None (field_kept x i (atom_in (place_of places) a) (pick_field root places blocks i a))

  abbrev pub pick_places : ℕ → List Atom → List (Option Block) → ℕ → ℕ → Atom → List Atom
  pick_places root places blocks x i a = cond (unused x) places (field_place x (pick_field root places blocks i a) places)

  abbrev pub prim_left : List Atom → ℕ → Primitive → List Atom → Option Bind
  prim_left places x f atoms = cond (is_pure f && unused x) None (Some (bind.Prim x f (atoms_in (place_of places) atoms)))
