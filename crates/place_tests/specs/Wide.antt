-- Bodies of which one has 24 values that live at once.
use Rattle.std.specs.Prelude.{ℕ, zero, suc, ◌+◌, pos, List, [], ◌∷◌, ◌++◌}
use Rattle.closure_ir.specs.declared.operand.Operand.{Operand}
use Rattle.closure_ir.specs.declared.operand.Operand.TheVariants as operand
use Rattle.closure_ir.specs.declared.operand.Shape.TheVariants as shape
use Rattle.closure_ir.specs.declared.body.Maker.{Maker}
use Rattle.closure_ir.specs.declared.body.Bind.{Bind}
use Rattle.closure_ir.specs.declared.body.Bind.TheVariants as bind
use Rattle.closure_ir.specs.declared.body.Wanted.TheVariants as want
use Rattle.closure_ir.specs.declared.body.Target.TheVariants as target
use Rattle.closure_ir.specs.declared.body.End.{End}
use Rattle.closure_ir.specs.declared.body.End.TheVariants as end
use Rattle.closure_ir.specs.declared.body.Body.{Body}

-- so many variables from 3 on are bound
abbrev pub literals : ℕ → List Bind
literals zero = []
literals (suc n) = literals n ++ bind.Let (n + 3) (operand.Literal (pos 0)) ∷ []

-- and are read
abbrev pub reads : ℕ → List Operand
reads zero = []
reads (suc n) = reads n ++ operand.Path (n + 3) [] ∷ []

-- a tuple has all of them
abbrev pub tuple : Maker
tuple = record { var = 25; shape = shape.Tuple; fields = reads 22 }

abbrev pub steps : List Bind
steps = literals 22 ++ bind.Make (tuple ∷ []) ∷ []

-- where the argument is 0 one body goes on, and else the other
abbrev pub choice : End
choice = end.Match (operand.Path 1 []) ((record { tests = (record { path = []; want = want.Num (pos 0) }) ∷ []; body = 2 }) ∷ []) 3

-- a body that hands on a variable
abbrev pub handed : ℕ → Body
handed x = record { binds = []; end = end.Call target.Through (operand.Path 2 []) (operand.Path x [] ∷ []) }

abbrev pub bodies : List Body
bodies = (record { binds = []; end = end.Halt }) ∷ (record { binds = steps; end = choice }) ∷ handed 25 ∷ handed 1 ∷ []
