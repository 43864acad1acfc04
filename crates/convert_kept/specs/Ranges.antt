-- What a tree cites stands there and is in its range.
use Rattle.std.specs.Prelude.{ℕ, [], ◌∷◌}
use Rattle.cps_ir.specs.declared.body.Body.{Body}
use Rattle.cps_ir.specs.Code.{Code, Make, Pick, Prim, Equal, Fix, Call, Match, Handler, SetHandler, Throw, Halt, Functions, NoFunction, Function, Rules, Otherwise, Rule}
use Rattle.cps_ir.specs.Program.{Cps, code_of_binds, code_of_end}
use Rattle.cps_ir.specs.Kept.{ShapeKept, AtomKept, AtomsKept, TestsKept, BodyKept}

module _ (q : Cps) where
  abbrev mutual
    pub CodeKept : Code → Type 0
    CodeKept (Make x shape atoms c) = ShapeKept q shape × AtomsKept q atoms × CodeKept c
    CodeKept (Pick x i a c) = AtomKept q a × CodeKept c
    CodeKept (Prim x f atoms c) = AtomsKept q atoms × CodeKept c
    CodeKept (Equal a b truth k) = AtomsKept q (a ∷ b ∷ k ∷ [])
    CodeKept (Fix fs c) = FunctionsKept fs × CodeKept c
    CodeKept (Call a atoms) = AtomsKept q (a ∷ atoms)
    CodeKept (Match a rules) = AtomKept q a × RulesKept rules
    CodeKept (Handler x c) = CodeKept c
    CodeKept (SetHandler a c) = AtomKept q a × CodeKept c
    CodeKept (Throw a) = AtomKept q a
    CodeKept Halt = Unit {0}

    pub FunctionsKept : Functions → Type 0
    FunctionsKept NoFunction = Unit {0}
    FunctionsKept (Function f p params b fs) = CodeKept b × FunctionsKept fs

    pub RulesKept : Rules → Type 0
    RulesKept (Otherwise c) = CodeKept c
    RulesKept (Rule tests c rules) = TestsKept q tests × CodeKept c × RulesKept rules

-- a body whose tree cites only what is there does so itself
abbrev pub KeptByBodies : Type 0
KeptByBodies = (q : Cps) (part : ℕ → Code) (b : Body) → CodeKept q (code_of_binds part b.binds (code_of_end part b.end)) → BodyKept q b
