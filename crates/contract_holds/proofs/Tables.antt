-- Entries of tables.
use Rattle.std.proofs.Common.{◌≡◌, ◌≢◌, ℕ, zero, suc, ◌+◌, ◌≤◌, ◌<◌, List, [], ◌∷◌, length, Bool, true, false, cond, Option, Some, None, slice_get, nat_lt, nat_eq, refl, sym, ap, ◌∙◌, arith, length-set}
use Rattle.std.specs.Prelude.{get_or, slice_set}
use Rattle.std.proofs.lemmas.List.{get_or-set_same, get_or-set_other}
use Rattle.simulation.proofs.Lists.{some_eq}
use Rattle.sml_def.specs.Maybe.{◌>>=◌}
use Rattle.cps_ir.specs.declared.atom.Atom.{Atom}
use Rattle.cps_ir.specs.declared.atom.Atom.TheVariants as atom
use Rattle.cps_ir.specs.declared.atom.Shape.{Shape}
use Rattle.cps_ir.specs.declared.atom.Shape.TheVariants as form
use Rattle.cps_ir.specs.declared.body.Body.{Body}
use Rattle.cps_ir.specs.Code.{Code}
use Rattle.contract_laws.specs.Redex.{uses_atom, uses_atoms}
use Rattle.contract_round.specs.Round.{atoms_in, if_tuple, field_of_tuple, known_field}
use Rattle.contract_census.specs.declared.counts.Count.{Count}
use Rattle.contract_known.specs.declared.blocks.Block.{Block}
use Rattle.contract_known.specs.Known.{place_of, made_in, made_at}
use Rattle.contract_binds.specs.Binds.{put, is_known_kind, entered, unused, make_blocks, field_place, pick_field, pick_places}
use Rattle.contract_steps.specs.State.{State}
use Rattle.contract_holds.specs.Open.{all_binds}
use Rattle.contract_holds.specs.Holds.{Holds}

pub put_is : {A : Type 0} (x : ℕ) (a : A) (table : List A) → x < length table → put x a table ≡ slice_set table x a
put_is x a table l = let e : nat_lt x (length table) ≡ true = grind arith in ap (λ b. cond b (slice_set table x a) table) e

pub put_length : {A : Type 0} (x : ℕ) (a : A) (table : List A) → length (put x a table) ≡ length table
put_length x a table = by (nat_lt x (length table))
  where
    by : (b : Bool) → length (cond b (slice_set table x a) table) ≡ length table
    by true = length-set table x a
    by false = refl

pub put_other : {A : Type 0} (x y : ℕ) (a d : A) (table : List A) → y ≢ x → get_or (put x a table) y d ≡ get_or table y d
put_other x y a d table n = by (nat_lt x (length table))
  where
    by : (b : Bool) → get_or (cond b (slice_set table x a) table) y d ≡ get_or table y d
    by true = get_or-set_other table x y a d n
    by false = refl

pub put_same : {A : Type 0} (x : ℕ) (a d : A) (table : List A) → x < length table → get_or (put x a table) x d ≡ a
put_same x a d table l = ap (λ t. get_or t x d) (put_is x a table l) ∙ get_or-set_same table x a d l

-- ---- Blocks

module _ (root x : ℕ) (shape : Shape) (us : List Atom) (blocks : List (Option Block)) where
  abbrev block : Block
  block = record { root = root; shape = shape; atoms = us }

  entered_other : (y : ℕ) → y ≢ x → get_or blocks y None ≡ get_or (entered root x shape us blocks) y None
  entered_other y n = by (is_known_kind shape)
    where
      by : (b : Bool) → get_or blocks y None ≡ get_or (cond b (put x (Some block) blocks) blocks) y None
      by true = sym (put_other x y (Some block) None blocks n)
      by false = refl

  entered_length : length (entered root x shape us blocks) ≡ length blocks
  entered_length = by (is_known_kind shape)
    where
      by : (b : Bool) → length (cond b (put x (Some block) blocks) blocks) ≡ length blocks
      by true = put_length x (Some block) blocks
      by false = refl

  entered_here : x < length blocks → get_or blocks x None ≡ None → (b : Block) → get_or (entered root x shape us blocks) x None ≡ Some b → block ≡ b
  entered_here l none b e = by (is_known_kind shape) e
    where
      by : (o : Bool) → get_or (cond o (put x (Some block) blocks) blocks) x None ≡ Some b → block ≡ b
      by true e = some_eq (λ c. block ≡ c) block b (sym (put_same x (Some block) None blocks l) ∙ e) refl
      by false e = let z = sym none ∙ e in absurd (cc)

module _ (counts : List Count) (root : ℕ) (places : List Atom) (x : ℕ) (shape : Shape) (atoms : List Atom) (blocks : List (Option Block)) where
  us : List Atom
  us = atoms_in (place_of places) atoms

  pub make_other : (y : ℕ) → y ≢ x → get_or blocks y None ≡ get_or (make_blocks counts root places x shape atoms blocks) y None
  make_other y n = by (unused counts x)
    where
      by : (b : Bool) → get_or blocks y None ≡ get_or (cond b blocks (entered root x shape (atoms_in (place_of places) atoms) blocks)) y None
      by true = refl
      by false = entered_other root x shape (atoms_in (place_of places) atoms) blocks y n

  pub make_length : length (make_blocks counts root places x shape atoms blocks) ≡ length blocks
  make_length = by (unused counts x)
    where
      by : (b : Bool) → length (cond b blocks (entered root x shape (atoms_in (place_of places) atoms) blocks)) ≡ length blocks
      by true = refl
      by false = entered_length root x shape (atoms_in (place_of places) atoms) blocks

  pub make_here : x < length blocks → get_or blocks x None ≡ None → (b : Block) → get_or (make_blocks counts root places x shape atoms blocks) x None ≡ Some b → (b.root ≡ root) × (b.atoms ≡ atoms_in (place_of places) atoms)
  make_here l none b e = by (unused counts x) e
    where
      by : (o : Bool) → get_or (cond o blocks (entered root x shape (atoms_in (place_of places) atoms) blocks)) x None ≡ Some b → (b.root ≡ root) × (b.atoms ≡ atoms_in (place_of places) atoms)
      by true e = let z = sym none ∙ e in absurd (cc)
      by false e = let k = entered_here root x shape (atoms_in (place_of places) atoms) blocks l none b e in (sym (ap (λ c. c.root) k), sym (ap (λ c. c.atoms) k))

-- ---- Fields

pub among_atoms : (z i : ℕ) (us : List Atom) (b : Atom) → slice_get us i ≡ Some b → uses_atom z b ≤ uses_atoms z us
among_atoms z i [] b e = absurd (cc)
among_atoms z zero (u ∷ us) b e = some_eq (λ v. uses_atom z v ≤ uses_atom z u + uses_atoms z us) u b e (omega arith)
among_atoms z (suc i) (u ∷ us) b e = let h = among_atoms z i us b e in omega arith

of_tuple : (f : Shape) (o : Option Atom) (b : Atom) → if_tuple f o ≡ Some b → o ≡ Some b
of_tuple form.Tuple o b e = e
of_tuple (form.Applied n) o b e = absurd (cc)
of_tuple form.Cell o b e = absurd (cc)
of_tuple (form.ExnName n) o b e = absurd (cc)
of_tuple form.Packet o b e = absurd (cc)

module _ (source : List Body) (counts : List Count) (c : Code) (s : State) (h : Holds source counts c s) (z : ℕ) (free : 1 ≤ all_binds source c s z) where
  pub field_clean : (root i : ℕ) (u b : Atom) → known_field (made_at s.blocks root) u i ≡ Some b → uses_atom z b ≡ 0
  field_clean root i (atom.Constant k) b e = absurd (cc)
  field_clean root i (atom.Var y) b e = by (get_or s.blocks y None) refl e
    where
      by : (o : Option Block) → get_or s.blocks y None ≡ o → (made_in root o >>= field_of_tuple i) ≡ Some b → uses_atom z b ≡ 0
      by None is f = absurd (cc)
      by (Some k) is f = if (nat_eq k.root root) f
        where
          if : (t : Bool) → (cond t (Some (record { shape = k.shape; atoms = k.atoms })) None >>= field_of_tuple i) ≡ Some b → uses_atom z b ≡ 0
          if true g = let w = among_atoms z i k.atoms b (of_tuple k.shape (slice_get k.atoms i) b g) in let n = h.blocks z y k free is in omega arith
          if false g = absurd (cc)

  -- what stands in the place of a field
  pub pick_clean : (root x i : ℕ) (a : Atom) → x < length s.places → x ≢ z → uses_atom z (place_of (pick_places counts root s.places s.blocks x i a) x) ≡ 0
  pick_clean root x i a l n = by (unused counts x)
    where
      field : (o : Option Atom) → ((b : Atom) → o ≡ Some b → uses_atom z b ≡ 0) → uses_atom z (place_of (field_place x o s.places) x) ≡ 0
      field None f = h.places z x free n
      field (Some b) f = ap (uses_atom z) (put_same x b (atom.Var x) s.places l) ∙ f b refl

      by : (t : Bool) → uses_atom z (place_of (cond t s.places (field_place x (pick_field root s.places s.blocks i a) s.places)) x) ≡ 0
      by true = h.places z x free n
      by false = field (pick_field root s.places s.blocks i a) (λ b e. field_clean root i _ b e)

module _ (counts : List Count) (root : ℕ) (places : List Atom) (blocks : List (Option Block)) (x i : ℕ) (a : Atom) where
  pub pick_other : (y : ℕ) → y ≢ x → place_of places y ≡ place_of (pick_places counts root places blocks x i a) y
  pick_other y n = by (unused counts x)
    where
      field : (o : Option Atom) → place_of places y ≡ place_of (field_place x o places) y
      field None = refl
      field (Some b) = sym (put_other x y b (atom.Var y) places n)

      by : (t : Bool) → place_of places y ≡ place_of (cond t places (field_place x (pick_field root places blocks i a) places)) y
      by true = refl
      by false = field (pick_field root places blocks i a)

  pub pick_length : length (pick_places counts root places blocks x i a) ≡ length places
  pick_length = by (unused counts x)
    where
      field : (o : Option Atom) → length (field_place x o places) ≡ length places
      field None = refl
      field (Some b) = put_length x b places

      by : (t : Bool) → length (cond t places (field_place x (pick_field root places blocks i a) places)) ≡ length places
      by true = refl
      by false = field (pick_field root places blocks i a)
