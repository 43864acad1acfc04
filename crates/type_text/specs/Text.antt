-- The text in which types are shown.
use Rattle.std.specs.Prelude.{ℕ, ◌+◌, ◌%◌, ◌/◌, Bool, true, false, ◌&&◌, not, if◌then◌else◌, nat_eq, nat_lt, pos, Option, Some, None, List, [], ◌∷◌, ◌++◌, length, map, fold, flat_map, slice_get, codes}
use Rattle.std.specs.Ordering.{int_eq}
use Rattle.std.specs.List.{list_any, join_by, position_or_len}
use Rattle.std.specs.Fmt.{decimal, signed_decimal}
use Rattle.sml_tree.specs.declared.bare.Lab.{Lab}
use Rattle.sml_tree.specs.declared.bare.Lab.TheVariants.{Num, Text}
use Rattle.sml_types.specs.declared.types.TyVar.{TyVar}
use Rattle.sml_types.specs.declared.tables.TypeName.{TypeName}
use Rattle.sml_types.specs.Tree.{Head, ArrowHead, FieldsHead, NameHead, Tree, Variable, App, Part}
use Rattle.sml_types.specs.Poly.{Poly, has_num}
use Rattle.type_text.specs.declared.level.Level.{Level}
use Rattle.type_text.specs.declared.level.Level.TheVariants.{Function, Product, Atom}

-- ---- the text of a type, with its variables in place of their names

pub data Item : Type 0 where
  Byte : ℕ → Item
  Name : TyVar → Item

abbrev pub plain : List ℕ → List Item
plain text = map Byte text

abbrev pub is_function : Level → Bool
is_function Function = true
is_function _ = false

abbrev pub is_atom : Level → Bool
is_atom Atom = true
is_atom _ = false

abbrev pub enclosed : Bool → List Item → List Item
enclosed needed items = if needed then plain (codes "(") ++ items ++ plain (codes ")") else items

abbrev pub label_text : Lab → List ℕ
label_text (Num n) = signed_decimal n
label_text (Text t) = t

abbrev pub is_number : ℕ → Lab → Bool
is_number i (Num n) = int_eq n (pos i)
is_number i (Text t) = false

-- the labels are the numbers from this one on
abbrev pub are_from : ℕ → List Lab → Bool
are_from i [] = true
are_from i (lab ∷ labs) = is_number i lab && are_from (i + 1) labs

-- a record whose labels are 1 to n is a tuple, unless it has fewer than two
abbrev pub is_tuple : List Lab → Bool
is_tuple labs = nat_lt 1 (length labs) && are_from 1 labs

-- the spelling of a type name
abbrev pub spelling : Option TypeName → List ℕ
spelling None = []
spelling (Some name) = name.text

abbrev pub separated : List ℕ → List (List Item) → List Item
separated separator texts = join_by (λ t. t) (plain separator) texts

abbrev pub field_texts : List Lab → List (Level → List Item) → List (List Item)
field_texts (lab ∷ labs) (part ∷ parts) = (plain (label_text lab) ++ plain (codes " : ") ++ part Function) ∷ field_texts labs parts
field_texts _ _ = []

abbrev pub record_text : List Lab → List (Level → List Item) → Level → List Item
record_text [] parts level = plain (codes "unit")
record_text labs parts level =
    if is_tuple labs
    then enclosed (is_atom level) (separated (codes " * ") (map (λ part. part Atom) parts))
    else plain (codes "{") ++ separated (codes ", ") (field_texts labs parts) ++ plain (codes "}")

abbrev pub named_text : List ℕ → List (Level → List Item) → List Item
named_text name [] = plain name
named_text name (part ∷ []) = part Atom ++ plain (codes " ") ++ plain name
named_text name parts = plain (codes "(") ++ separated (codes ", ") (map (λ part. part Function) parts) ++ plain (codes ") ") ++ plain name

abbrev pub head_text : List TypeName → Head → List (Level → List Item) → Level → List Item
head_text names ArrowHead (from ∷ to ∷ []) level = enclosed (not (is_function level)) (from Product ++ plain (codes " -> ") ++ to Function)
head_text names ArrowHead _ level = []
head_text names (FieldsHead labs) parts level = record_text labs parts level
head_text names (NameHead n) parts level = named_text (spelling (slice_get names n)) parts

abbrev mutual
  -- the text of a type where nothing looser than the level stands without parentheses
  pub type_text : List TypeName → Tree → Level → List Item
  type_text names (Variable v) level = Name v ∷ []
  type_text names (App h ts) level = head_text names h (part_texts names ts) level
  type_text names _ level = []

  pub part_texts : List TypeName → Tree → List (Level → List Item)
  part_texts names (Part t ts) = type_text names t ∷ part_texts names ts
  part_texts names _ = []

-- ---- the names of variables

abbrev pub noted : List ℕ → ℕ → List ℕ
noted xs x = if list_any (nat_eq x) xs then xs else xs ++ x ∷ []

-- the numbers without doubles, in order of first occurrence
abbrev pub in_order : List ℕ → List ℕ
in_order xs = fold noted [] xs

-- the numbers of the variables in a text that pass a test
abbrev pub numbers : (ℕ → Bool) → List Item → List ℕ
numbers test [] = []
numbers test (Byte b ∷ items) = numbers test items
numbers test (Name v ∷ items) = if test v.num then v.num ∷ numbers test items else numbers test items

-- the letters of the variable of number i, from 0
unfoldable pub letters : ℕ → List ℕ
letters i = (97 + i % 26) ∷ (if nat_lt i 26 then [] else decimal (i / 26))

-- the name of a variable, under the numbers of the type's own variables and of the open ones
abbrev pub variable_text : (ℕ → Bool) → List ℕ → List ℕ → TyVar → List ℕ
variable_text is_own own open_ones v =
    if is_own v.num
    then (if v.eq then codes "''" else codes "'") ++ letters (position_or_len (nat_eq v.num) own)
    else codes "'_" ++ letters (position_or_len (nat_eq v.num) open_ones)

abbrev pub filled : (TyVar → List ℕ) → List Item → List ℕ
filled name [] = []
filled name (Byte b ∷ items) = b ∷ filled name items
filled name (Name v ∷ items) = name v ++ filled name items

-- ---- the lines

-- a name with its scheme
pub record Entry : Type 0 where
  pub spelling : List ℕ
  pub scheme : Poly

abbrev pub scheme_text : List TypeName → Poly → List Item
scheme_text names s = type_text names s.body Function

abbrev pub open_numbers : List TypeName → Poly → List ℕ
open_numbers names s = numbers (λ x. not (has_num s.vars x)) (scheme_text names s)

abbrev pub shown_type : List TypeName → List ℕ → Poly → List ℕ
shown_type names open_ones s =
    let own = in_order (numbers (has_num s.vars) (scheme_text names s)) in
    filled (variable_text (has_num s.vars) own open_ones) (scheme_text names s)

abbrev pub line : List TypeName → List ℕ → Entry → List ℕ
line names open_ones e = codes "val " ++ e.spelling ++ codes " : " ++ shown_type names open_ones e.scheme ++ codes "\n"

-- the open variables are numbered over all lines
abbrev pub lines : List TypeName → List Entry → List ℕ
lines names entries =
    let open_ones = in_order (flat_map (λ e. open_numbers names e.scheme) entries) in
    flat_map (line names open_ones) entries
