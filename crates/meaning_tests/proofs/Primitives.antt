-- What primitives come to on some arguments, as an independent model computes it.
use Rattle.std.proofs.Common.{◌≡◌, ℕ, true, List, [], ◌∷◌, None, Some, refl}
use Rattle.std.specs.Prelude.{ℤ, pos, negsuc, ◌-ℤ◌, ◌^◌, codes}
use Rattle.smlc_base.specs.declared.primitive.Primitive.{Primitive}
use Rattle.smlc_base.specs.declared.primitive.Primitive.TheVariants as prim
use Rattle.smlc_base.specs.declared.exception.LibraryExn.TheVariants as exn
use Rattle.sml_def.specs.State.{Value, Number, Letter, Nothing, Tag, Constant, Builtin, At, Block, Tuple, Applied, Text, Cell, Pending, Control, Ret, Eq}
use Rattle.sml_def.specs.Memory.{Memory, Next, going, making, assigning, writing}
use Rattle.sml_def.specs.Builtin.{raising, builtin}

abbrev memory : List Block → List ℕ → Memory
memory store input = record { store = store; input = input }

-- the string constant 0
abbrev texts : List (List ℕ)
texts = codes "abcd" ∷ []

abbrev one : Primitive → Value → Next
one f v = builtin texts (memory [] []) None f v

abbrev arguments : List Value → Memory
arguments vs = memory (Tuple vs ∷ []) []

-- on the fields of a tuple
abbrev several : Primitive → List Value → Next
several f vs = builtin texts (arguments vs) None f (At 0)

sum_too_large : several prim.Plus (Number (pos 4611686018427387903) ∷ Number (pos 1) ∷ []) ≡ going (arguments (Number (pos 4611686018427387903) ∷ Number (pos 1) ∷ [])) (raising exn.OverflowExn None)
sum_too_large = refl

quotient_down : several prim.Quotient (Number (negsuc 6) ∷ Number (pos 2) ∷ []) ≡ going (arguments (Number (negsuc 6) ∷ Number (pos 2) ∷ [])) (Ret (Number (negsuc 3)) None)
quotient_down = refl

rest_as_divisor : several prim.Modulo (Number (pos 7) ∷ Number (negsuc 1) ∷ []) ≡ going (arguments (Number (pos 7) ∷ Number (negsuc 1) ∷ [])) (Ret (Number (negsuc 0)) None)
rest_as_divisor = refl

quotient_too_large : several prim.Quotient (Number (negsuc 4611686018427387903) ∷ Number (negsuc 0) ∷ []) ≡ going (arguments (Number (negsuc 4611686018427387903) ∷ Number (negsuc 0) ∷ [])) (raising exn.OverflowExn None)
quotient_too_large = refl

by_zero : several prim.Modulo (Number (pos 7) ∷ Number (pos 0) ∷ []) ≡ going (arguments (Number (pos 7) ∷ Number (pos 0) ∷ [])) (raising exn.DivExn None)
by_zero = refl

no_character : one prim.Chr (Number (pos 256)) ≡ going (memory [] []) (raising exn.ChrExn None)
no_character = refl

last_character : several prim.Sub (Constant 0 ∷ Number (pos 3) ∷ []) ≡ going (arguments (Constant 0 ∷ Number (pos 3) ∷ [])) (Ret (Letter 100) None)
last_character = refl

behind_the_last : several prim.Sub (Constant 0 ∷ Number (pos 4) ∷ []) ≡ going (arguments (Constant 0 ∷ Number (pos 4) ∷ [])) (raising exn.SubscriptExn None)
behind_the_last = refl

-- a part may be empty at the end
empty_part : several prim.Substring (Constant 0 ∷ Number (pos 4) ∷ Number (pos 0) ∷ []) ≡ making (arguments (Constant 0 ∷ Number (pos 4) ∷ Number (pos 0) ∷ [])) (Text []) (λ a. Ret (At a) None)
empty_part = refl

last_line : builtin texts (memory [] (codes "ab")) None prim.InputLine (Builtin prim.StdIn) ≡ builtin texts (memory [] (codes "ab\n")) None prim.InputLine (Builtin prim.StdIn)
last_line = refl

no_line : one prim.InputLine (Builtin prim.StdIn) ≡ going (memory [] []) (Ret (Tag 0) None)
no_line = refl

two_tuples : builtin texts (memory (Tuple (Number (pos 1) ∷ []) ∷ Tuple (At 0 ∷ At 0 ∷ []) ∷ []) []) None prim.Equal (At 1) ≡ making (memory (Tuple (Number (pos 1) ∷ []) ∷ Tuple (At 0 ∷ At 0 ∷ []) ∷ []) []) (Pending (At 0) (At 0) None) (λ a. Eq (Some a) true None)
two_tuples = refl
