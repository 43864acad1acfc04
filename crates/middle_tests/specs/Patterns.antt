-- Patterns, each with its parts behind it.
use Rattle.std.specs.Prelude.{ℕ, List, [], ◌∷◌, pos, negsuc, true, false}
use Rattle.smlc_base.specs.declared.exception.LibraryExn.TheVariants.{MatchExn}
use Rattle.sml_tree.specs.declared.bare.Node.{Node}
use Rattle.sml_tree.specs.declared.bare.Node.TheVariants as node
use Rattle.sml_tree.specs.declared.bare.Con.TheVariants as con
use Rattle.sml_tree.specs.declared.bare.Field.{Field}
use Rattle.sml_tree.specs.declared.bare.Lab.TheVariants.{Num}

abbrev pub made_field : ℕ → ℕ → Field
made_field slot i = record { lab = Num (pos 1); slot = slot; node = i }

-- B (x as B (y, _), ~3), F {2 = "..", 1 = n}, A, Match, #"c", ref (0 : int)
abbrev pub patterns : List Node
patterns =
    node.PatApp (con.Data 0 1 true) 1
    ∷ node.PatRecord (made_field 0 2 ∷ made_field 1 7 ∷ [])
    ∷ node.PatAs (record { 0 = 0 }) 3
    ∷ node.PatApp (con.Data 0 1 true) 4
    ∷ node.PatRecord (made_field 0 5 ∷ made_field 1 6 ∷ [])
    ∷ node.PatVar (record { 0 = 1 })
    ∷ node.Wild
    ∷ node.PatInt (negsuc 2)
    ∷ node.PatApp (con.Exn (record { 0 = 7 }) true) 9
    ∷ node.PatRecord (made_field 1 10 ∷ made_field 0 11 ∷ [])
    ∷ node.PatText 4
    ∷ node.PatVar (record { 0 = 2 })
    ∷ node.PatCon (con.Data 0 0 false)
    ∷ node.PatCon (con.Library MatchExn)
    ∷ node.PatChar 99
    ∷ node.PatApp con.Ref 16
    ∷ node.PatTyped 17 0
    ∷ node.PatInt (pos 0)
    ∷ []
