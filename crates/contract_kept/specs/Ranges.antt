-- What a tree cites stands there and in its range, and its variables are below the bound.
use Rattle.std.specs.Prelude.{ℕ, ◌<◌, [], ◌∷◌}
use Rattle.std.specs.List.{AllByRecursion}
use Rattle.cps_ir.specs.declared.body.Body.{Body}
use Rattle.cps_ir.specs.Code.{Code, Make, Pick, Prim, Equal, Fix, Call, Match, Handler, SetHandler, Throw, Halt, Functions, NoFunction, Function, Rules, Otherwise, Rule}
use Rattle.cps_ir.specs.Program.{Cps, code_of_binds, code_of_end, tree_of}
use Rattle.cps_ir.specs.Kept.{ShapeKept, AtomKept, AtomsKept, TestsKept, BodyKept, IsProgram}
use Rattle.cps_ir.specs.Free.{bound}
use Rattle.contract_round.specs.Round.{contracted}

module _ (q : Cps) where
  abbrev pub Below : ℕ → Type 0
  Below x = x < q.variables

  abbrev mutual
    pub InRange : Code → Type 0
    InRange (Make x shape atoms c) = Below x × ShapeKept q shape × AtomsKept q atoms × InRange c
    InRange (Pick x i a c) = Below x × AtomKept q a × InRange c
    InRange (Prim x f atoms c) = Below x × AtomsKept q atoms × InRange c
    InRange (Equal a b truth k) = AtomsKept q (a ∷ b ∷ k ∷ [])
    InRange (Fix fs c) = FunctionsInRange fs × InRange c
    InRange (Call a atoms) = AtomsKept q (a ∷ atoms)
    InRange (Match a rules) = AtomKept q a × RulesInRange rules
    InRange (Handler x c) = Below x × InRange c
    InRange (SetHandler a c) = AtomKept q a × InRange c
    InRange (Throw a) = AtomKept q a
    InRange Halt = Unit {0}

    pub FunctionsInRange : Functions → Type 0
    FunctionsInRange NoFunction = Unit {0}
    FunctionsInRange (Function f p params b fs) = Below f × AllByRecursion Below params × InRange b × FunctionsInRange fs

    pub RulesInRange : Rules → Type 0
    RulesInRange (Otherwise c) = InRange c
    RulesInRange (Rule tests c rules) = TestsKept q tests × InRange c × RulesInRange rules

-- of every program
abbrev pub ContractedKeepsRanges : Type 0
ContractedKeepsRanges = (q : Cps) → IsProgram q → InRange q (contracted q.texts (tree_of q).code)

-- a body whose tree is in range keeps its own, and binds what is below
abbrev pub RangesOfBodies : Type 0
RangesOfBodies = (q : Cps) (part : ℕ → Code) (b : Body) → InRange q (code_of_binds part b.binds (code_of_end part b.end)) → BodyKept q b × AllByRecursion (Below q) (bound (code_of_binds part b.binds (code_of_end part b.end)))
