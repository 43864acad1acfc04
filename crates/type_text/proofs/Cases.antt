-- Types in their text, held against what the language shows.
use Rattle.std.proofs.Common.{◌≡◌, ℕ, true, false, List, [], ◌∷◌, refl}
use Rattle.std.specs.Fmt.{digits}
use Rattle.std.specs.Prelude.{codes, pos}
use Rattle.sml_tree.specs.declared.bare.Lab.{Lab}
use Rattle.sml_tree.specs.declared.bare.Lab.TheVariants.{Num, Text}
use Rattle.sml_types.specs.declared.types.TyVar.{TyVar}
use Rattle.sml_types.specs.declared.tables.Equality.TheVariants.{Parts}
use Rattle.sml_types.specs.declared.tables.TypeName.{TypeName}
use Rattle.sml_types.specs.Tree.{Tree, Variable, App, ArrowHead, FieldsHead, NameHead, NoParts, Part}
use Rattle.sml_types.specs.Poly.{poly}
use Rattle.type_text.specs.Text.{Entry, letters, lines}

abbrev var : ℕ → TyVar
var x = record { num = x; eq = false }

abbrev eq_var : ℕ → TyVar
eq_var x = record { num = x; eq = true }

abbrev v : ℕ → Tree
v x = Variable (var x)

abbrev arrow : Tree → Tree → Tree
arrow a b = App ArrowHead (Part a (Part b NoParts))

abbrev fields : List Lab → Tree → Tree
fields labs ts = App (FieldsHead labs) ts

abbrev pair : Tree → Tree → Tree
pair a b = fields (Num (pos 1) ∷ Num (pos 2) ∷ []) (Part a (Part b NoParts))

abbrev int : Tree
int = App (NameHead 0) NoParts

abbrev list : Tree → Tree
list t = App (NameHead 1) (Part t NoParts)

abbrev two : Tree → Tree → Tree
two a b = App (NameHead 2) (Part a (Part b NoParts))

abbrev row : List ℕ → TypeName
row text = record { text = text; params = []; eq = Parts; cons = [] }

abbrev names : List TypeName
names = row (codes "int") ∷ row (codes "list") ∷ row (codes "two") ∷ []

abbrev entry : List ℕ → List TyVar → Tree → Entry
entry text vs t = record { spelling = text; scheme = poly vs t }

abbrev all_of : List Entry
all_of =
    entry (codes "k") (var 7 ∷ var 3 ∷ []) (arrow (v 3) (arrow (v 7) (v 3)))
    ∷ entry (codes "apply") (var 7 ∷ var 3 ∷ []) (arrow (arrow (v 3) (v 7)) (arrow (v 3) (v 7)))
    ∷ entry (codes "f1") [] (arrow (pair (arrow int int) (pair int int)) (arrow int int))
    ∷ entry (codes "mixed") (eq_var 1 ∷ var 2 ∷ []) (arrow (fields (Num (pos 1) ∷ Num (pos 2) ∷ Num (pos 3) ∷ []) (Part (Variable (eq_var 1)) (Part (Variable (eq_var 1)) (Part (v 2) NoParts)))) (v 2))
    ∷ entry (codes "r") [] (list (v 9))
    ∷ entry (codes "s") [] (list (arrow (Variable (eq_var 8)) (Variable (eq_var 8))))
    ∷ entry (codes "u") [] (fields [] NoParts)
    ∷ entry (codes "one") [] (fields (Num (pos 1) ∷ []) (Part int NoParts))
    ∷ entry (codes "rec0") [] (fields (Num (pos 2) ∷ Text (codes "a") ∷ Text (codes "b") ∷ []) (Part int (Part (pair int int) (Part (arrow int int) NoParts))))
    ∷ entry (codes "sparse") [] (fields (Num (pos 1) ∷ Num (pos 3) ∷ []) (Part int (Part int NoParts)))
    ∷ entry (codes "mk") (var 1 ∷ var 2 ∷ []) (arrow (pair (v 1) (v 2)) (two (v 1) (v 2)))
    ∷ entry (codes "cc") [] (list (pair (list (v 5)) (list (v 9))))
    ∷ entry (codes "ap3") (var 4 ∷ []) (arrow (v 4) (two (arrow int int) (pair (v 4) (v 4))))
    ∷ []

-- each is as the language shows it
is_shown : lines names all_of ≡ codes
    "val k : 'a -> 'b -> 'a\nval apply : ('a -> 'b) -> 'a -> 'b\nval f1 : (int -> int) * (int * int) -> int -> int\nval mixed : ''a * ''a * 'b -> 'b\nval r : '_a list\nval s : ('_b -> '_b) list\nval u : unit\nval one : {1 : int}\nval rec0 : {2 : int, a : int * int, b : int -> int}\nval sparse : {1 : int, 3 : int}\nval mk : 'a * 'b -> ('a, 'b) two\nval cc : ('_c list * '_a list) list\nval ap3 : 'a -> (int -> int, 'a * 'a) two\n"
unfolding letters digits
is_shown = refl

-- the letters go round
letters_go_round : letters 25 ∷ letters 26 ∷ letters 53 ∷ [] ≡ codes "z" ∷ codes "a1" ∷ codes "b2" ∷ []
unfolding letters digits
letters_go_round = refl
