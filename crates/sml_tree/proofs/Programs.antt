-- Small programs, as bare trees. They are what an independent expansion made of the text above each.
use Rattle.std.proofs.Common.{ℕ, List, [], ◌∷◌, None, true, false}
use Rattle.std.specs.Prelude.{codes, pos, negsuc, map}
use Rattle.smlc_base.specs.declared.place.Place.{Place}
use Rattle.smlc_base.specs.declared.primitive.Primitive.TheVariants as prim
use Rattle.smlc_base.specs.declared.names.Name.{Name}
use Rattle.sml_tree.specs.declared.bare.Bare.{Bare}
use Rattle.sml_tree.specs.declared.bare.Node.{Node}
use Rattle.sml_tree.specs.declared.bare.Node.TheVariants as node
use Rattle.sml_tree.specs.declared.bare.Binding.{Binding}
use Rattle.sml_tree.specs.declared.bare.RecBinding.{RecBinding}
use Rattle.sml_tree.specs.declared.bare.Rule.{Rule}
use Rattle.sml_tree.specs.declared.bare.Field.{Field}
use Rattle.sml_tree.specs.declared.bare.Lab.{Lab}
use Rattle.sml_tree.specs.declared.bare.Lab.TheVariants as lab
use Rattle.sml_tree.specs.declared.bare.Con.TheVariants as con
use Rattle.smlc_base.specs.declared.exception.LibraryExn.TheVariants as exn

abbrev pub user : Place
user = record { file = 1; line = 1; col = 1 }

abbrev name : ℕ → Name
name n = record { 0 = n }

abbrev binding : ℕ → ℕ → Binding
binding q e = record { pat = q; right = e }

abbrev function : ℕ → ℕ → RecBinding
function x e = record { name = name x; right = e }

abbrev rule : ℕ → ℕ → Rule
rule q e = record { pat = q; body = e }

abbrev field : Lab → ℕ → ℕ → Field
field l slot e = record { lab = l; slot = slot; node = e }

abbrev program : List Node → List (List ℕ) → List (List ℕ) → Bare
program nodes names texts = record {
  nodes = nodes;
  places = map (λ n. user) nodes;
  decs = [];
  shown = [];
  types = [];
  tyvars = [];
  names = names;
  texts = texts;
  width = 0;
}

-- val _ = print "hello\n"
abbrev pub hello : Bare
hello = program ((node.Let 1 6) ∷ (node.Val [] ((binding 2 3) ∷ [])) ∷ node.Wild ∷ (node.App 4 5) ∷ (node.Builtin prim.Print) ∷ (node.Text 0) ∷ node.Finish ∷ []) ([]) ((104 ∷ 101 ∷ 108 ∷ 108 ∷ 111 ∷ 10 ∷ []) ∷ [])

-- exception E
-- val _ = (print "a" handle E => print "b")
-- val _ = raise E
abbrev pub handled : Bare
handled = program ((node.Let 1 2) ∷ (node.Exception (name 0) None) ∷ (node.Let 3 13) ∷ (node.Val [] ((binding 4 5) ∷ [])) ∷ node.Wild ∷ (node.Handle 6 ((rule 9 10) ∷ [])) ∷ (node.App 7 8) ∷ (node.Builtin prim.Print) ∷ (node.Text 0) ∷ (node.PatCon (con.Exn (name 0) false)) ∷ (node.App 11 12) ∷ (node.Builtin prim.Print) ∷ (node.Text 1) ∷ (node.Let 14 18) ∷ (node.Val [] ((binding 15 16) ∷ [])) ∷ node.Wild ∷ (node.Raise 17) ∷ (node.Constructor (con.Exn (name 0) false)) ∷ node.Finish ∷ []) ((codes "E") ∷ []) ((codes "a") ∷ (codes "b") ∷ [])

-- exception E of int
-- val _ = (raise E 3) handle E 2 => print "b" | E n => print (str (chr (n + 48)))
abbrev pub caught : Bare
caught = program ((node.Let 1 2) ∷ (node.Exception (name 0) None) ∷ (node.Let 3 28) ∷ (node.Val [] ((binding 4 5) ∷ [])) ∷ node.Wild ∷ (node.Handle 6 ((rule 10 12) ∷ (rule 15 17) ∷ [])) ∷ (node.Raise 7) ∷ (node.App 8 9) ∷ (node.Constructor (con.Exn (name 0) true)) ∷ (node.Int (pos 3)) ∷ (node.PatApp (con.Exn (name 0) true) 11) ∷ (node.PatInt (pos 2)) ∷ (node.App 13 14) ∷ (node.Builtin prim.Print) ∷ (node.Text 0) ∷ (node.PatApp (con.Exn (name 0) true) 16) ∷ (node.PatVar (name 1)) ∷ (node.App 18 19) ∷ (node.Builtin prim.Print) ∷ (node.App 20 21) ∷ (node.Builtin prim.Str) ∷ (node.App 22 23) ∷ (node.Builtin prim.Chr) ∷ (node.App 24 25) ∷ (node.Builtin prim.Plus) ∷ (node.Record ((field (lab.Num (pos 1)) 0 26) ∷ (field (lab.Num (pos 2)) 1 27) ∷ [])) ∷ (node.Var (name 1)) ∷ (node.Int (pos 48)) ∷ node.Finish ∷ []) ((codes "E") ∷ (codes "n") ∷ []) ((codes "b") ∷ [])

-- fun hd nil = raise Empty | hd (x :: _) = x
-- fun f () = hd nil handle Empty => let exception Empty in raise Empty end
-- val _ = (f (); ()) handle Empty => print "caught"
abbrev pub local_exception : Bare
local_exception = program ((node.Let 1 14) ∷ (node.ValRec [] ((function 0 2) ∷ [])) ∷ (node.Fn ((rule 3 4) ∷ [])) ∷ (node.PatVar (name 1)) ∷ (node.Case 5 ((rule 6 7) ∷ (rule 9 13) ∷ [])) ∷ (node.Var (name 1)) ∷ (node.PatCon (con.Data 5 0 false)) ∷ (node.Raise 8) ∷ (node.Constructor (con.Library exn.EmptyExn)) ∷ (node.PatApp (con.Data 5 1 true) 10) ∷ (node.PatRecord ((field (lab.Num (pos 1)) 0 11) ∷ (field (lab.Num (pos 2)) 1 12) ∷ [])) ∷ (node.PatVar (name 2)) ∷ node.Wild ∷ (node.Var (name 2)) ∷ (node.Let 15 30) ∷ (node.ValRec [] ((function 3 16) ∷ [])) ∷ (node.Fn ((rule 17 18) ∷ [])) ∷ (node.PatVar (name 4)) ∷ (node.Case 19 ((rule 20 21) ∷ [])) ∷ (node.Var (name 4)) ∷ (node.PatRecord ([])) ∷ (node.Handle 22 ((rule 25 26) ∷ [])) ∷ (node.App 23 24) ∷ (node.Var (name 0)) ∷ (node.Constructor (con.Data 5 0 false)) ∷ (node.PatCon (con.Library exn.EmptyExn)) ∷ (node.Let 27 28) ∷ (node.Exception (name 5) None) ∷ (node.Raise 29) ∷ (node.Constructor (con.Exn (name 5) false)) ∷ (node.Let 31 44) ∷ (node.Val [] ((binding 32 33) ∷ [])) ∷ node.Wild ∷ (node.Handle 34 ((rule 40 41) ∷ [])) ∷ (node.Case 35 ((rule 38 39) ∷ [])) ∷ (node.App 36 37) ∷ (node.Var (name 3)) ∷ (node.Record ([])) ∷ node.Wild ∷ (node.Record ([])) ∷ (node.PatCon (con.Library exn.EmptyExn)) ∷ (node.App 42 43) ∷ (node.Builtin prim.Print) ∷ (node.Text 0) ∷ node.Finish ∷ []) ((codes "hd") ∷ (codes "v") ∷ (codes "x") ∷ (codes "f") ∷ (codes "v") ∷ (codes "Empty") ∷ []) ((codes "caught") ∷ [])

-- val {b = x, a = y} = {b = (print "b"; 1), a = (print "a"; 2)}
-- val _ = print (if x = 1 then "t" else "f")
-- val _ = case {b = 1, a = 2} of {a, b} => print (str (chr (a + 48)))
abbrev pub written_order : Bare
written_order = program ((node.Let 1 18) ∷ (node.Val [] ((binding 2 5) ∷ [])) ∷ (node.PatRecord ((field (lab.Text (codes "b")) 1 3) ∷ (field (lab.Text (codes "a")) 0 4) ∷ [])) ∷ (node.PatVar (name 0)) ∷ (node.PatVar (name 1)) ∷ (node.Record ((field (lab.Text (codes "b")) 1 6) ∷ (field (lab.Text (codes "a")) 0 12) ∷ [])) ∷ (node.Case 7 ((rule 10 11) ∷ [])) ∷ (node.App 8 9) ∷ (node.Builtin prim.Print) ∷ (node.Text 0) ∷ node.Wild ∷ (node.Int (pos 1)) ∷ (node.Case 13 ((rule 16 17) ∷ [])) ∷ (node.App 14 15) ∷ (node.Builtin prim.Print) ∷ (node.Text 1) ∷ node.Wild ∷ (node.Int (pos 2)) ∷ (node.Let 19 33) ∷ (node.Val [] ((binding 20 21) ∷ [])) ∷ node.Wild ∷ (node.App 22 23) ∷ (node.Builtin prim.Print) ∷ (node.Case 24 ((rule 29 30) ∷ (rule 31 32) ∷ [])) ∷ (node.App 25 26) ∷ (node.Builtin prim.Equal) ∷ (node.Record ((field (lab.Num (pos 1)) 0 27) ∷ (field (lab.Num (pos 2)) 1 28) ∷ [])) ∷ (node.Var (name 0)) ∷ (node.Int (pos 1)) ∷ (node.PatCon (con.Data 4 1 false)) ∷ (node.Text 2) ∷ (node.PatCon (con.Data 4 0 false)) ∷ (node.Text 3) ∷ (node.Let 34 54) ∷ (node.Val [] ((binding 35 36) ∷ [])) ∷ node.Wild ∷ (node.Case 37 ((rule 40 43) ∷ [])) ∷ (node.Record ((field (lab.Text (codes "b")) 1 38) ∷ (field (lab.Text (codes "a")) 0 39) ∷ [])) ∷ (node.Int (pos 1)) ∷ (node.Int (pos 2)) ∷ (node.PatRecord ((field (lab.Text (codes "a")) 0 41) ∷ (field (lab.Text (codes "b")) 1 42) ∷ [])) ∷ (node.PatVar (name 2)) ∷ (node.PatVar (name 3)) ∷ (node.App 44 45) ∷ (node.Builtin prim.Print) ∷ (node.App 46 47) ∷ (node.Builtin prim.Str) ∷ (node.App 48 49) ∷ (node.Builtin prim.Chr) ∷ (node.App 50 51) ∷ (node.Builtin prim.Plus) ∷ (node.Record ((field (lab.Num (pos 1)) 0 52) ∷ (field (lab.Num (pos 2)) 1 53) ∷ [])) ∷ (node.Var (name 2)) ∷ (node.Int (pos 48)) ∷ node.Finish ∷ []) ((codes "x") ∷ (codes "y") ∷ (codes "a") ∷ (codes "b") ∷ []) ((codes "b") ∷ (codes "a") ∷ (codes "t") ∷ (codes "f") ∷ [])

-- val 1 = 2 and x = print "a"
abbrev pub bind_first : Bare
bind_first = program ((node.Let 1 8) ∷ (node.Val [] ((binding 2 3) ∷ (binding 4 5) ∷ [])) ∷ (node.PatInt (pos 1)) ∷ (node.Int (pos 2)) ∷ (node.PatVar (name 0)) ∷ (node.App 6 7) ∷ (node.Builtin prim.Print) ∷ (node.Text 0) ∷ node.Finish ∷ []) ((codes "x") ∷ []) ((codes "a") ∷ [])

-- val _ = print (if [1, 2, 3] = [1, 2, 4] then "t" else "f")
-- val _ = print (if ref 1 = ref 1 then "t" else "f")
-- val _ = print (if (1, 2) <> (1, 3) then "t" else "f")
abbrev pub lists : Bare
lists = program ((node.Let 1 39) ∷ (node.Val [] ((binding 2 3) ∷ [])) ∷ node.Wild ∷ (node.App 4 5) ∷ (node.Builtin prim.Print) ∷ (node.Case 6 ((rule 35 36) ∷ (rule 37 38) ∷ [])) ∷ (node.App 7 8) ∷ (node.Builtin prim.Equal) ∷ (node.Record ((field (lab.Num (pos 1)) 0 9) ∷ (field (lab.Num (pos 2)) 1 22) ∷ [])) ∷ (node.App 10 11) ∷ (node.Constructor (con.Data 5 1 true)) ∷ (node.Record ((field (lab.Num (pos 1)) 0 12) ∷ (field (lab.Num (pos 2)) 1 13) ∷ [])) ∷ (node.Int (pos 1)) ∷ (node.App 14 15) ∷ (node.Constructor (con.Data 5 1 true)) ∷ (node.Record ((field (lab.Num (pos 1)) 0 16) ∷ (field (lab.Num (pos 2)) 1 17) ∷ [])) ∷ (node.Int (pos 2)) ∷ (node.App 18 19) ∷ (node.Constructor (con.Data 5 1 true)) ∷ (node.Record ((field (lab.Num (pos 1)) 0 20) ∷ (field (lab.Num (pos 2)) 1 21) ∷ [])) ∷ (node.Int (pos 3)) ∷ (node.Constructor (con.Data 5 0 false)) ∷ (node.App 23 24) ∷ (node.Constructor (con.Data 5 1 true)) ∷ (node.Record ((field (lab.Num (pos 1)) 0 25) ∷ (field (lab.Num (pos 2)) 1 26) ∷ [])) ∷ (node.Int (pos 1)) ∷ (node.App 27 28) ∷ (node.Constructor (con.Data 5 1 true)) ∷ (node.Record ((field (lab.Num (pos 1)) 0 29) ∷ (field (lab.Num (pos 2)) 1 30) ∷ [])) ∷ (node.Int (pos 2)) ∷ (node.App 31 32) ∷ (node.Constructor (con.Data 5 1 true)) ∷ (node.Record ((field (lab.Num (pos 1)) 0 33) ∷ (field (lab.Num (pos 2)) 1 34) ∷ [])) ∷ (node.Int (pos 4)) ∷ (node.Constructor (con.Data 5 0 false)) ∷ (node.PatCon (con.Data 4 1 false)) ∷ (node.Text 0) ∷ (node.PatCon (con.Data 4 0 false)) ∷ (node.Text 1) ∷ (node.Let 40 58) ∷ (node.Val [] ((binding 41 42) ∷ [])) ∷ node.Wild ∷ (node.App 43 44) ∷ (node.Builtin prim.Print) ∷ (node.Case 45 ((rule 54 55) ∷ (rule 56 57) ∷ [])) ∷ (node.App 46 47) ∷ (node.Builtin prim.Equal) ∷ (node.Record ((field (lab.Num (pos 1)) 0 48) ∷ (field (lab.Num (pos 2)) 1 51) ∷ [])) ∷ (node.App 49 50) ∷ (node.Constructor con.Ref) ∷ (node.Int (pos 1)) ∷ (node.App 52 53) ∷ (node.Constructor con.Ref) ∷ (node.Int (pos 1)) ∷ (node.PatCon (con.Data 4 1 false)) ∷ (node.Text 0) ∷ (node.PatCon (con.Data 4 0 false)) ∷ (node.Text 1) ∷ (node.Let 59 77) ∷ (node.Val [] ((binding 60 61) ∷ [])) ∷ node.Wild ∷ (node.App 62 63) ∷ (node.Builtin prim.Print) ∷ (node.Case 64 ((rule 73 74) ∷ (rule 75 76) ∷ [])) ∷ (node.App 65 66) ∷ (node.Builtin prim.Unequal) ∷ (node.Record ((field (lab.Num (pos 1)) 0 67) ∷ (field (lab.Num (pos 2)) 1 70) ∷ [])) ∷ (node.Record ((field (lab.Num (pos 1)) 0 68) ∷ (field (lab.Num (pos 2)) 1 69) ∷ [])) ∷ (node.Int (pos 1)) ∷ (node.Int (pos 2)) ∷ (node.Record ((field (lab.Num (pos 1)) 0 71) ∷ (field (lab.Num (pos 2)) 1 72) ∷ [])) ∷ (node.Int (pos 1)) ∷ (node.Int (pos 3)) ∷ (node.PatCon (con.Data 4 1 false)) ∷ (node.Text 0) ∷ (node.PatCon (con.Data 4 0 false)) ∷ (node.Text 1) ∷ node.Finish ∷ []) ([]) ((codes "t") ∷ (codes "f") ∷ [])

-- exception E of int
-- fun map f = let fun m nil = nil | m (x :: t) = f x :: m t in m end
-- val l = map E [1]
-- val _ = case l of [E n] => print (str (chr (n + 48))) | _ => print "no"
abbrev pub packets : Bare
packets = program ((node.Let 1 2) ∷ (node.Exception (name 0) None) ∷ (node.Let 3 31) ∷ (node.ValRec [] ((function 1 4) ∷ [])) ∷ (node.Fn ((rule 5 6) ∷ [])) ∷ (node.PatVar (name 2)) ∷ (node.Case 7 ((rule 8 9) ∷ [])) ∷ (node.Var (name 2)) ∷ (node.PatVar (name 3)) ∷ (node.Let 10 30) ∷ (node.ValRec [] ((function 4 11) ∷ [])) ∷ (node.Fn ((rule 12 13) ∷ [])) ∷ (node.PatVar (name 5)) ∷ (node.Case 14 ((rule 15 16) ∷ (rule 17 21) ∷ [])) ∷ (node.Var (name 5)) ∷ (node.PatCon (con.Data 5 0 false)) ∷ (node.Constructor (con.Data 5 0 false)) ∷ (node.PatApp (con.Data 5 1 true) 18) ∷ (node.PatRecord ((field (lab.Num (pos 1)) 0 19) ∷ (field (lab.Num (pos 2)) 1 20) ∷ [])) ∷ (node.PatVar (name 6)) ∷ (node.PatVar (name 7)) ∷ (node.App 22 23) ∷ (node.Constructor (con.Data 5 1 true)) ∷ (node.Record ((field (lab.Num (pos 1)) 0 24) ∷ (field (lab.Num (pos 2)) 1 27) ∷ [])) ∷ (node.App 25 26) ∷ (node.Var (name 3)) ∷ (node.Var (name 6)) ∷ (node.App 28 29) ∷ (node.Var (name 4)) ∷ (node.Var (name 7)) ∷ (node.Var (name 4)) ∷ (node.Let 32 47) ∷ (node.Val [] ((binding 33 34) ∷ [])) ∷ (node.PatVar (name 8)) ∷ (node.App 35 42) ∷ (node.App 36 37) ∷ (node.Var (name 1)) ∷ (node.Fn ((rule 38 39) ∷ [])) ∷ (node.PatVar (name 9)) ∷ (node.App 40 41) ∷ (node.Constructor (con.Exn (name 0) true)) ∷ (node.Var (name 9)) ∷ (node.App 43 44) ∷ (node.Constructor (con.Data 5 1 true)) ∷ (node.Record ((field (lab.Num (pos 1)) 0 45) ∷ (field (lab.Num (pos 2)) 1 46) ∷ [])) ∷ (node.Int (pos 1)) ∷ (node.Constructor (con.Data 5 0 false)) ∷ (node.Let 48 72) ∷ (node.Val [] ((binding 49 50) ∷ [])) ∷ node.Wild ∷ (node.Case 51 ((rule 52 57) ∷ (rule 68 69) ∷ [])) ∷ (node.Var (name 8)) ∷ (node.PatApp (con.Data 5 1 true) 53) ∷ (node.PatRecord ((field (lab.Num (pos 1)) 0 54) ∷ (field (lab.Num (pos 2)) 1 56) ∷ [])) ∷ (node.PatApp (con.Exn (name 0) true) 55) ∷ (node.PatVar (name 10)) ∷ (node.PatCon (con.Data 5 0 false)) ∷ (node.App 58 59) ∷ (node.Builtin prim.Print) ∷ (node.App 60 61) ∷ (node.Builtin prim.Str) ∷ (node.App 62 63) ∷ (node.Builtin prim.Chr) ∷ (node.App 64 65) ∷ (node.Builtin prim.Plus) ∷ (node.Record ((field (lab.Num (pos 1)) 0 66) ∷ (field (lab.Num (pos 2)) 1 67) ∷ [])) ∷ (node.Var (name 10)) ∷ (node.Int (pos 48)) ∷ node.Wild ∷ (node.App 70 71) ∷ (node.Builtin prim.Print) ∷ (node.Text 0) ∷ node.Finish ∷ []) ((codes "E") ∷ (codes "map") ∷ (codes "v") ∷ (codes "f") ∷ (codes "m") ∷ (codes "v") ∷ (codes "x") ∷ (codes "t") ∷ (codes "l") ∷ (codes "v") ∷ (codes "n") ∷ []) ((codes "no") ∷ [])

-- fun show () = case TextIO.inputLine TextIO.stdIn of NONE => print "." | SOME s => (print ("[" ^ s ^ "]"); show ())
-- val _ = show ()
abbrev pub lines : Bare
lines = program ((node.Let 1 33) ∷ (node.ValRec [] ((function 0 2) ∷ [])) ∷ (node.Fn ((rule 3 4) ∷ [])) ∷ (node.PatVar (name 1)) ∷ (node.Case 5 ((rule 6 7) ∷ [])) ∷ (node.Var (name 1)) ∷ (node.PatRecord ([])) ∷ (node.Case 8 ((rule 11 12) ∷ (rule 15 17) ∷ [])) ∷ (node.App 9 10) ∷ (node.Builtin prim.InputLine) ∷ (node.Builtin prim.StdIn) ∷ (node.PatCon (con.Data 6 0 false)) ∷ (node.App 13 14) ∷ (node.Builtin prim.Print) ∷ (node.Text 0) ∷ (node.PatApp (con.Data 6 1 true) 16) ∷ (node.PatVar (name 2)) ∷ (node.Case 18 ((rule 29 30) ∷ [])) ∷ (node.App 19 20) ∷ (node.Builtin prim.Print) ∷ (node.App 21 22) ∷ (node.Builtin prim.Concat) ∷ (node.Record ((field (lab.Num (pos 1)) 0 23) ∷ (field (lab.Num (pos 2)) 1 28) ∷ [])) ∷ (node.App 24 25) ∷ (node.Builtin prim.Concat) ∷ (node.Record ((field (lab.Num (pos 1)) 0 26) ∷ (field (lab.Num (pos 2)) 1 27) ∷ [])) ∷ (node.Text 1) ∷ (node.Var (name 2)) ∷ (node.Text 2) ∷ node.Wild ∷ (node.App 31 32) ∷ (node.Var (name 0)) ∷ (node.Record ([])) ∷ (node.Let 34 39) ∷ (node.Val [] ((binding 35 36) ∷ [])) ∷ node.Wild ∷ (node.App 37 38) ∷ (node.Var (name 0)) ∷ (node.Record ([])) ∷ node.Finish ∷ []) ((codes "show") ∷ (codes "v") ∷ (codes "s") ∷ []) ((codes ".") ∷ (codes "[") ∷ (codes "]") ∷ [])

-- val _ = 4611686018427387903 + 1 handle Overflow => (print "o"; 0)
-- val _ = 1 div 0 handle Div => (print "d"; 0)
-- val _ = print (if ~7 div 2 = ~4 andalso ~7 mod 2 = 1 andalso 7 mod ~2 = ~1 then "t" else "f")
-- val _ = chr 256
abbrev pub ints : Bare
ints = program ((node.Let 1 16) ∷ (node.Val [] ((binding 2 3) ∷ [])) ∷ node.Wild ∷ (node.Handle 4 ((rule 9 10) ∷ [])) ∷ (node.App 5 6) ∷ (node.Builtin prim.Plus) ∷ (node.Record ((field (lab.Num (pos 1)) 0 7) ∷ (field (lab.Num (pos 2)) 1 8) ∷ [])) ∷ (node.Int (pos 4611686018427387903)) ∷ (node.Int (pos 1)) ∷ (node.PatCon (con.Library exn.OverflowExn)) ∷ (node.Case 11 ((rule 14 15) ∷ [])) ∷ (node.App 12 13) ∷ (node.Builtin prim.Print) ∷ (node.Text 0) ∷ node.Wild ∷ (node.Int (pos 0)) ∷ (node.Let 17 32) ∷ (node.Val [] ((binding 18 19) ∷ [])) ∷ node.Wild ∷ (node.Handle 20 ((rule 25 26) ∷ [])) ∷ (node.App 21 22) ∷ (node.Builtin prim.Quotient) ∷ (node.Record ((field (lab.Num (pos 1)) 0 23) ∷ (field (lab.Num (pos 2)) 1 24) ∷ [])) ∷ (node.Int (pos 1)) ∷ (node.Int (pos 0)) ∷ (node.PatCon (con.Library exn.DivExn)) ∷ (node.Case 27 ((rule 30 31) ∷ [])) ∷ (node.App 28 29) ∷ (node.Builtin prim.Print) ∷ (node.Text 1) ∷ node.Wild ∷ (node.Int (pos 0)) ∷ (node.Let 33 77) ∷ (node.Val [] ((binding 34 35) ∷ [])) ∷ node.Wild ∷ (node.App 36 37) ∷ (node.Builtin prim.Print) ∷ (node.Case 38 ((rule 73 74) ∷ (rule 75 76) ∷ [])) ∷ (node.Case 39 ((rule 61 62) ∷ (rule 71 72) ∷ [])) ∷ (node.Case 40 ((rule 49 50) ∷ (rule 59 60) ∷ [])) ∷ (node.App 41 42) ∷ (node.Builtin prim.Equal) ∷ (node.Record ((field (lab.Num (pos 1)) 0 43) ∷ (field (lab.Num (pos 2)) 1 48) ∷ [])) ∷ (node.App 44 45) ∷ (node.Builtin prim.Quotient) ∷ (node.Record ((field (lab.Num (pos 1)) 0 46) ∷ (field (lab.Num (pos 2)) 1 47) ∷ [])) ∷ (node.Int (negsuc 6)) ∷ (node.Int (pos 2)) ∷ (node.Int (negsuc 3)) ∷ (node.PatCon (con.Data 4 1 false)) ∷ (node.App 51 52) ∷ (node.Builtin prim.Equal) ∷ (node.Record ((field (lab.Num (pos 1)) 0 53) ∷ (field (lab.Num (pos 2)) 1 58) ∷ [])) ∷ (node.App 54 55) ∷ (node.Builtin prim.Modulo) ∷ (node.Record ((field (lab.Num (pos 1)) 0 56) ∷ (field (lab.Num (pos 2)) 1 57) ∷ [])) ∷ (node.Int (negsuc 6)) ∷ (node.Int (pos 2)) ∷ (node.Int (pos 1)) ∷ (node.PatCon (con.Data 4 0 false)) ∷ (node.Constructor (con.Data 4 0 false)) ∷ (node.PatCon (con.Data 4 1 false)) ∷ (node.App 63 64) ∷ (node.Builtin prim.Equal) ∷ (node.Record ((field (lab.Num (pos 1)) 0 65) ∷ (field (lab.Num (pos 2)) 1 70) ∷ [])) ∷ (node.App 66 67) ∷ (node.Builtin prim.Modulo) ∷ (node.Record ((field (lab.Num (pos 1)) 0 68) ∷ (field (lab.Num (pos 2)) 1 69) ∷ [])) ∷ (node.Int (pos 7)) ∷ (node.Int (negsuc 1)) ∷ (node.Int (negsuc 0)) ∷ (node.PatCon (con.Data 4 0 false)) ∷ (node.Constructor (con.Data 4 0 false)) ∷ (node.PatCon (con.Data 4 1 false)) ∷ (node.Text 2) ∷ (node.PatCon (con.Data 4 0 false)) ∷ (node.Text 3) ∷ (node.Let 78 83) ∷ (node.Val [] ((binding 79 80) ∷ [])) ∷ node.Wild ∷ (node.App 81 82) ∷ (node.Builtin prim.Chr) ∷ (node.Int (pos 256)) ∷ node.Finish ∷ []) ([]) ((codes "o") ∷ (codes "d") ∷ (codes "t") ∷ (codes "f") ∷ [])

-- val _ = print (implode [#"a", #"b"] ^ substring ("hello", 1, 3) ^ str (String.sub ("xyz", 2)))
-- val _ = print (case String.compare ("ab", "b") of LESS => "<" | EQUAL => "=" | GREATER => ">")
-- val _ = substring ("abc", 2, 2)
abbrev pub texts : Bare
texts = program ((node.Let 1 35) ∷ (node.Val [] ((binding 2 3) ∷ [])) ∷ node.Wild ∷ (node.App 4 5) ∷ (node.Builtin prim.Print) ∷ (node.App 6 7) ∷ (node.Builtin prim.Concat) ∷ (node.Record ((field (lab.Num (pos 1)) 0 8) ∷ (field (lab.Num (pos 2)) 1 28) ∷ [])) ∷ (node.App 9 10) ∷ (node.Builtin prim.Concat) ∷ (node.Record ((field (lab.Num (pos 1)) 0 11) ∷ (field (lab.Num (pos 2)) 1 22) ∷ [])) ∷ (node.App 12 13) ∷ (node.Builtin prim.Implode) ∷ (node.App 14 15) ∷ (node.Constructor (con.Data 5 1 true)) ∷ (node.Record ((field (lab.Num (pos 1)) 0 16) ∷ (field (lab.Num (pos 2)) 1 17) ∷ [])) ∷ (node.Char 97) ∷ (node.App 18 19) ∷ (node.Constructor (con.Data 5 1 true)) ∷ (node.Record ((field (lab.Num (pos 1)) 0 20) ∷ (field (lab.Num (pos 2)) 1 21) ∷ [])) ∷ (node.Char 98) ∷ (node.Constructor (con.Data 5 0 false)) ∷ (node.App 23 24) ∷ (node.Builtin prim.Substring) ∷ (node.Record ((field (lab.Num (pos 1)) 0 25) ∷ (field (lab.Num (pos 2)) 1 26) ∷ (field (lab.Num (pos 3)) 2 27) ∷ [])) ∷ (node.Text 0) ∷ (node.Int (pos 1)) ∷ (node.Int (pos 3)) ∷ (node.App 29 30) ∷ (node.Builtin prim.Str) ∷ (node.App 31 32) ∷ (node.Builtin prim.Sub) ∷ (node.Record ((field (lab.Num (pos 1)) 0 33) ∷ (field (lab.Num (pos 2)) 1 34) ∷ [])) ∷ (node.Text 1) ∷ (node.Int (pos 2)) ∷ (node.Let 36 52) ∷ (node.Val [] ((binding 37 38) ∷ [])) ∷ node.Wild ∷ (node.App 39 40) ∷ (node.Builtin prim.Print) ∷ (node.Case 41 ((rule 46 47) ∷ (rule 48 49) ∷ (rule 50 51) ∷ [])) ∷ (node.App 42 43) ∷ (node.Builtin prim.Compare) ∷ (node.Record ((field (lab.Num (pos 1)) 0 44) ∷ (field (lab.Num (pos 2)) 1 45) ∷ [])) ∷ (node.Text 2) ∷ (node.Text 3) ∷ (node.PatCon (con.Data 7 0 false)) ∷ (node.Text 4) ∷ (node.PatCon (con.Data 7 1 false)) ∷ (node.Text 5) ∷ (node.PatCon (con.Data 7 2 false)) ∷ (node.Text 6) ∷ (node.Let 53 61) ∷ (node.Val [] ((binding 54 55) ∷ [])) ∷ node.Wild ∷ (node.App 56 57) ∷ (node.Builtin prim.Substring) ∷ (node.Record ((field (lab.Num (pos 1)) 0 58) ∷ (field (lab.Num (pos 2)) 1 59) ∷ (field (lab.Num (pos 3)) 2 60) ∷ [])) ∷ (node.Text 7) ∷ (node.Int (pos 2)) ∷ (node.Int (pos 2)) ∷ node.Finish ∷ []) ([]) ((codes "hello") ∷ (codes "xyz") ∷ (codes "ab") ∷ (codes "b") ∷ (codes "<") ∷ (codes "=") ∷ (codes ">") ∷ (codes "abc") ∷ [])

-- val r = ref 1
-- val _ = r := !r + 1
-- val _ = print (if !r = 2 then "t" else "f")
-- val rec even = fn 0 => true | n => odd (n - 1) and odd = fn 0 => false | n => even (n - 1)
-- val _ = print (if even 4 then "e" else "o")
abbrev pub refs : Bare
refs = program ((node.Let 1 6) ∷ (node.Val [] ((binding 2 3) ∷ [])) ∷ (node.PatVar (name 0)) ∷ (node.App 4 5) ∷ (node.Constructor con.Ref) ∷ (node.Int (pos 1)) ∷ (node.Let 7 20) ∷ (node.Val [] ((binding 8 9) ∷ [])) ∷ node.Wild ∷ (node.App 10 11) ∷ (node.Builtin prim.Assign) ∷ (node.Record ((field (lab.Num (pos 1)) 0 12) ∷ (field (lab.Num (pos 2)) 1 13) ∷ [])) ∷ (node.Var (name 0)) ∷ (node.App 14 15) ∷ (node.Builtin prim.Plus) ∷ (node.Record ((field (lab.Num (pos 1)) 0 16) ∷ (field (lab.Num (pos 2)) 1 19) ∷ [])) ∷ (node.App 17 18) ∷ (node.Builtin prim.Deref) ∷ (node.Var (name 0)) ∷ (node.Int (pos 1)) ∷ (node.Let 21 37) ∷ (node.Val [] ((binding 22 23) ∷ [])) ∷ node.Wild ∷ (node.App 24 25) ∷ (node.Builtin prim.Print) ∷ (node.Case 26 ((rule 33 34) ∷ (rule 35 36) ∷ [])) ∷ (node.App 27 28) ∷ (node.Builtin prim.Equal) ∷ (node.Record ((field (lab.Num (pos 1)) 0 29) ∷ (field (lab.Num (pos 2)) 1 32) ∷ [])) ∷ (node.App 30 31) ∷ (node.Builtin prim.Deref) ∷ (node.Var (name 0)) ∷ (node.Int (pos 2)) ∷ (node.PatCon (con.Data 4 1 false)) ∷ (node.Text 0) ∷ (node.PatCon (con.Data 4 0 false)) ∷ (node.Text 1) ∷ (node.Let 38 61) ∷ (node.ValRec [] ((function 1 39) ∷ (function 2 50) ∷ [])) ∷ (node.Fn ((rule 40 41) ∷ (rule 42 43) ∷ [])) ∷ (node.PatInt (pos 0)) ∷ (node.Constructor (con.Data 4 1 false)) ∷ (node.PatVar (name 3)) ∷ (node.App 44 45) ∷ (node.Var (name 2)) ∷ (node.App 46 47) ∷ (node.Builtin prim.Minus) ∷ (node.Record ((field (lab.Num (pos 1)) 0 48) ∷ (field (lab.Num (pos 2)) 1 49) ∷ [])) ∷ (node.Var (name 3)) ∷ (node.Int (pos 1)) ∷ (node.Fn ((rule 51 52) ∷ (rule 53 54) ∷ [])) ∷ (node.PatInt (pos 0)) ∷ (node.Constructor (con.Data 4 0 false)) ∷ (node.PatVar (name 4)) ∷ (node.App 55 56) ∷ (node.Var (name 1)) ∷ (node.App 57 58) ∷ (node.Builtin prim.Minus) ∷ (node.Record ((field (lab.Num (pos 1)) 0 59) ∷ (field (lab.Num (pos 2)) 1 60) ∷ [])) ∷ (node.Var (name 4)) ∷ (node.Int (pos 1)) ∷ (node.Let 62 74) ∷ (node.Val [] ((binding 63 64) ∷ [])) ∷ node.Wild ∷ (node.App 65 66) ∷ (node.Builtin prim.Print) ∷ (node.Case 67 ((rule 70 71) ∷ (rule 72 73) ∷ [])) ∷ (node.App 68 69) ∷ (node.Var (name 1)) ∷ (node.Int (pos 4)) ∷ (node.PatCon (con.Data 4 1 false)) ∷ (node.Text 2) ∷ (node.PatCon (con.Data 4 0 false)) ∷ (node.Text 3) ∷ node.Finish ∷ []) ((codes "r") ∷ (codes "even") ∷ (codes "odd") ∷ (codes "n") ∷ (codes "n") ∷ []) ((codes "t") ∷ (codes "f") ∷ (codes "e") ∷ (codes "o") ∷ [])

-- exception E
-- val f = fn x => (raise E) handle E => x
abbrev pub raising : Bare
raising = program ((node.Let 1 2) ∷ (node.Exception (name 0) None) ∷ (node.Let 3 12) ∷ (node.Val [] ((binding 4 5) ∷ [])) ∷ (node.PatVar (name 1)) ∷ (node.Fn ((rule 6 7) ∷ [])) ∷ (node.PatVar (name 2)) ∷ (node.Handle 8 ((rule 10 11) ∷ [])) ∷ (node.Raise 9) ∷ (node.Constructor (con.Exn (name 0) false)) ∷ (node.PatCon (con.Exn (name 0) false)) ∷ (node.Var (name 2)) ∷ node.Finish ∷ []) ((codes "E") ∷ (codes "f") ∷ (codes "x") ∷ []) ([])
