-- The constructors, exceptions and primitives.
use Rattle.std.specs.Prelude.{ℕ, Bool, true, false, List, [], ◌∷◌, Option, codes}
use Rattle.smlc_base.specs.declared.primitive.Primitive.{Primitive}
use Rattle.smlc_base.specs.declared.primitive.Primitive.TheVariants as primitive
use Rattle.sml_tree.specs.declared.bare.Con.{Con}
use Rattle.sml_tree.specs.declared.bare.Con.TheVariants as con
use Rattle.smlc_base.specs.declared.exception.LibraryExn.TheVariants as exn
use Rattle.sml_prelude.specs.declared.values.Value.{Value}
use Rattle.sml_prelude.specs.declared.values.Value.TheVariants.{Constructor, Builtin}
use Rattle.sml_prelude.specs.Entries.{first_of}

-- The numbers of their types are 4 for bool, 5 for list, 6 for option and 7 for order.
abbrev pub values : List (List ℕ × Value)
values =
    (codes "false", Constructor (con.Data 4 0 false)) ∷
    (codes "true", Constructor (con.Data 4 1 false)) ∷
    (codes "nil", Constructor (con.Data 5 0 false)) ∷
    (codes "::", Constructor (con.Data 5 1 true)) ∷
    (codes "NONE", Constructor (con.Data 6 0 false)) ∷
    (codes "SOME", Constructor (con.Data 6 1 true)) ∷
    (codes "LESS", Constructor (con.Data 7 0 false)) ∷
    (codes "EQUAL", Constructor (con.Data 7 1 false)) ∷
    (codes "GREATER", Constructor (con.Data 7 2 false)) ∷
    (codes "ref", Constructor con.Ref) ∷
    (codes "Match", Constructor (con.Library exn.MatchExn)) ∷
    (codes "Bind", Constructor (con.Library exn.BindExn)) ∷
    (codes "Div", Constructor (con.Library exn.DivExn)) ∷
    (codes "Overflow", Constructor (con.Library exn.OverflowExn)) ∷
    (codes "Chr", Constructor (con.Library exn.ChrExn)) ∷
    (codes "Subscript", Constructor (con.Library exn.SubscriptExn)) ∷
    (codes "Size", Constructor (con.Library exn.SizeExn)) ∷
    (codes "Empty", Constructor (con.Library exn.EmptyExn)) ∷
    (codes "Option", Constructor (con.Library exn.OptionExn)) ∷
    (codes "Domain", Constructor (con.Library exn.DomainExn)) ∷
    (codes "Fail", Constructor (con.Library exn.FailExn)) ∷
    (codes "+", Builtin primitive.Plus) ∷
    (codes "-", Builtin primitive.Minus) ∷
    (codes "*", Builtin primitive.Times) ∷
    (codes "div", Builtin primitive.Quotient) ∷
    (codes "mod", Builtin primitive.Modulo) ∷
    (codes "~", Builtin primitive.Negate) ∷
    (codes "abs", Builtin primitive.Abs) ∷
    (codes "<", Builtin primitive.Less) ∷
    (codes ">", Builtin primitive.Greater) ∷
    (codes "<=", Builtin primitive.AtMost) ∷
    (codes ">=", Builtin primitive.AtLeast) ∷
    (codes "=", Builtin primitive.Equal) ∷
    (codes "<>", Builtin primitive.Unequal) ∷
    (codes "!", Builtin primitive.Deref) ∷
    (codes ":=", Builtin primitive.Assign) ∷
    (codes "ord", Builtin primitive.Ord) ∷
    (codes "chr", Builtin primitive.Chr) ∷
    (codes "^", Builtin primitive.Concat) ∷
    (codes "size", Builtin primitive.Size) ∷
    (codes "str", Builtin primitive.Str) ∷
    (codes "implode", Builtin primitive.Implode) ∷
    (codes "String.sub", Builtin primitive.Sub) ∷
    (codes "substring", Builtin primitive.Substring) ∷
    (codes "String.compare", Builtin primitive.Compare) ∷
    (codes "print", Builtin primitive.Print) ∷
    (codes "TextIO.inputLine", Builtin primitive.InputLine) ∷
    (codes "TextIO.stdIn", Builtin primitive.StdIn) ∷
    []

unfoldable pub value_of : List ℕ → Option Value
value_of text = first_of values text

-- every primitive but the standard input is of function type
abbrev pub is_function : Primitive → Bool
is_function primitive.StdIn = false
is_function _ = true

abbrev pub takes_argument : Con → Bool
takes_argument (con.Data type_name number takes) = takes
takes_argument con.Ref = true
takes_argument (con.Exn name takes) = takes
takes_argument (con.Library exn.FailExn) = true
takes_argument (con.Library _) = false
