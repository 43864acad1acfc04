-- What the tables have of a round's scope.
use Rattle.std.specs.Prelude.{◌≡◌, ℕ, ℤ, pos, Bool, true, false, cond, List, [], ◌∷◌, Option, Some, None, nat_eq, bytes_eq, get_or, slice_get}
use Rattle.std.specs.Ordering.{int_eq}
use Rattle.smlc_base.specs.declared.exception.LibraryExn.{LibraryExn}
use Rattle.smlc_base.specs.Exceptions.{exn_number}
use Rattle.sml_def.specs.Maybe.{◌>>=◌}
use Rattle.cps_ir.specs.declared.atom.Constant.{Constant}
use Rattle.cps_ir.specs.declared.atom.Constant.TheVariants as constant
use Rattle.cps_ir.specs.declared.atom.Atom.{Atom}
use Rattle.cps_ir.specs.declared.atom.Atom.TheVariants as atom
use Rattle.cps_ir.specs.declared.atom.Shape.{Shape}
use Rattle.cps_ir.specs.declared.atom.Shape.TheVariants as form
use Rattle.cps_ir.specs.declared.atom.Test.{Test}
use Rattle.cps_ir.specs.declared.atom.Wanted.{Wanted}
use Rattle.cps_ir.specs.declared.atom.Wanted.TheVariants as want
use Rattle.contract_laws.specs.Contract.{Made, says_made}
use Rattle.contract_round.specs.Round.{Inlined, known, block_of, at_end, test_in, test_left, tests_left}
use Rattle.contract_known.specs.declared.blocks.Block.{Block}
use Rattle.contract_known.specs.declared.tests.Left.{Left}
use Rattle.contract_known.specs.declared.tests.Left.TheVariants as left

-- the atom in the place of a variable, which is itself where the table has none
abbrev pub place_of : List Atom → ℕ → Atom
place_of places x = get_or places x (atom.Var x)

-- a block is known in the function of the answer in which it is made
abbrev pub made_in : ℕ → Option Block → Option Made
made_in root None = None
made_in root (Some b) = cond (nat_eq b.root root) (Some (record { shape = b.shape; atoms = b.atoms })) None

abbrev pub made_at : List (Option Block) → ℕ → ℕ → Option Made
made_at blocks root x = made_in root (get_or blocks x None)

-- a field of a known block of any kind
abbrev pub field_at : (ℕ → Option Made) → Atom → ℕ → Option Atom
field_at τ a i = block_of τ a >>= (λ t. slice_get t.atoms i)

abbrev pub shape_at : (ℕ → Option Made) → ℕ → Option Shape
shape_at τ x = τ x >>= (λ t. Some t.shape)

abbrev pub is_tuple : Option Shape → Bool
is_tuple (Some form.Tuple) = true
is_tuple _ = false

abbrev pub is_tuple_at : (ℕ → Option Made) → Atom → Bool
is_tuple_at τ (atom.Var x) = is_tuple (shape_at τ x)
is_tuple_at τ (atom.Constant k) = false

-- what is left of a rule's tests, or nothing where one is known to fail
abbrev pub as_left : Left → Option (List Test)
as_left left.Fails = None
as_left (left.Remain tests) = Some tests

-- a constant that is a scalar
abbrev pub scalar_of : Constant → Option ℤ
scalar_of (constant.Int z) = Some z
scalar_of (constant.Char c) = Some (pos c)
scalar_of constant.Nothing = Some (pos 0)
scalar_of (constant.Tag n) = Some (pos n)
scalar_of constant.StdIn = Some (pos 0)
scalar_of _ = None

-- ---- What constants say of what is wanted, by their kinds

abbrev pub says_of_scalar : ℤ → Option ℤ → Option Bool
says_of_scalar z None = None
says_of_scalar z (Some m) = Some (int_eq z m)

abbrev pub both_texts : Option (List ℕ) → Option (List ℕ) → Option Bool
both_texts (Some bs) (Some cs) = Some (bytes_eq bs cs)
both_texts None c = None
both_texts (Some bs) None = None

abbrev pub says_texts : List (List ℕ) → ℕ → ℕ → Option Bool
says_texts texts t u = both_texts (slice_get texts t) (slice_get texts u)

abbrev pub says_names : Bool → LibraryExn → LibraryExn → Option Bool
says_names applied d e = cond (nat_eq (exn_number d) (exn_number e)) (cond applied None (Some true)) (Some false)

abbrev pub says_known : List (List ℕ) → Wanted → Constant → Option Bool
says_known texts (want.Num z) k = says_of_scalar z (scalar_of k)
says_known texts (want.Tag t) k = says_of_scalar (pos t.number) (scalar_of k)
says_known texts (want.Text t) (constant.Text u) = says_texts texts t u
says_known texts (want.Exn (atom.Constant (constant.Library d)) applied) (constant.Library e) = says_names applied d e
says_known texts w k = None

abbrev pub says_shape : Wanted → Option Shape → Option Bool
says_shape w None = None
says_shape w (Some s) = says_made w s

module _ (texts : List (List ℕ)) where
  abbrev pub answer_known : (ℕ → Option Made) → Wanted → Atom → Option Bool
  answer_known τ w (atom.Var x) = says_shape w (shape_at τ x)
  answer_known τ w (atom.Constant k) = says_known texts w k

  abbrev pub verdict_known : (ℕ → Option Made) → Atom → Test → Option Bool
  verdict_known τ a t = at_end τ a t.path >>= answer_known τ t.want

  abbrev pub tests_known : (ℕ → Atom) → (ℕ → Option Made) → Atom → List Test → Option (List Test)
  tests_known σ τ a [] = Some []
  tests_known σ τ a (t ∷ tests) = test_left (verdict_known τ a t) (test_in σ t) (tests_known σ τ a tests)

  -- what the definition of a round leaves of them, whatever is put where it is called
  abbrev pub AreLeft : (ℕ → Atom) → (ℕ → Option Made) → Atom → List Test → Option (List Test) → Type 0
  AreLeft σ τ a tests l = (ι : ℕ → Option Inlined) → l ≡ tests_left texts (known σ τ ι) a tests
