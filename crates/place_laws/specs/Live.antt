-- The variables that live at a point of a body: those that it uses from there on and doesn't bind.
use Rattle.std.specs.Prelude.{ℕ, ◌==◌, ◌||◌, Bool, false, cond, List, [], ◌∷◌, ◌++◌, map}
use Rattle.closure_ir.specs.declared.operand.Operand.{Operand}
use Rattle.closure_ir.specs.declared.operand.Operand.TheVariants as operand
use Rattle.closure_ir.specs.declared.body.Maker.{Maker}
use Rattle.closure_ir.specs.declared.body.Wanted.{Wanted}
use Rattle.closure_ir.specs.declared.body.Wanted.TheVariants as want
use Rattle.closure_ir.specs.declared.body.Test.{Test}
use Rattle.closure_ir.specs.Code.{Code, Make, Let, Prim, Handler, SetHandler, When, Equal, Call, Throw, Halt}

abbrev pub is_in : ℕ → List ℕ → Bool
is_in x [] = false
is_in x (y ∷ ys) = (y == x) || is_in x ys

abbrev pub without : ℕ → List ℕ → List ℕ
without x [] = []
without x (y ∷ ys) = cond (y == x) (without x ys) (y ∷ without x ys)

abbrev pub without_all : List ℕ → List ℕ → List ℕ
without_all [] ys = ys
without_all (x ∷ xs) ys = without x (without_all xs ys)

-- ---- What is used

abbrev pub used_by : Operand → List ℕ
used_by (operand.Path x steps) = x ∷ []
used_by _ = []

abbrev pub all_used_by : List Operand → List ℕ
all_used_by [] = []
all_used_by (o ∷ os) = used_by o ++ all_used_by os

abbrev pub used_by_makers : List Maker → List ℕ
used_by_makers [] = []
used_by_makers (m ∷ makers) = all_used_by m.fields ++ used_by_makers makers

abbrev pub used_by_want : Wanted → List ℕ
used_by_want (want.Exn name applied) = used_by name
used_by_want _ = []

abbrev pub used_by_tests : List Test → List ℕ
used_by_tests [] = []
used_by_tests (t ∷ tests) = used_by_want t.want ++ used_by_tests tests

-- the variables of a group
abbrev pub names_of : List Maker → List ℕ
names_of makers = map (λ m. m.var) makers

-- ---- What lives before a body

abbrev pub live : Code → List ℕ
live (Make makers c) = used_by_makers makers ++ without_all (names_of makers) (live c)
live (Let x o c) = used_by o ++ without x (live c)
live (Prim x f os c) = all_used_by os ++ without x (live c)
live (Handler x c) = without x (live c)
live (SetHandler o c) = used_by o ++ live c
live (When o tests same other) = (used_by o ++ used_by_tests tests) ++ (live same ++ live other)
live (Equal a b t k) = used_by a ++ (used_by b ++ used_by k)
live (Call t f os) = used_by f ++ all_used_by os
live (Throw o) = used_by o
live Halt = []
