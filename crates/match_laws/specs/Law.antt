-- What the tests of a match answer.
use Rattle.std.specs.Prelude.{◌≡◌, ℕ, suc, true, List, [], ◌∷◌, Some, map}
use Rattle.std.specs.List.{AllByRecursion}
use Rattle.smlc_base.specs.declared.match_tests.RuleTests.{RuleTests}
use Rattle.sml_tree.specs.declared.bare.Bare.{Bare}
use Rattle.sml_tree.specs.declared.bare.Rule.{Rule}
use Rattle.sml_tree.specs.Sets.{has, union_over}
use Rattle.sml_tree.specs.Free.{free}
use Rattle.sml_tree.specs.IsBare.{IsBare, IsOf, Pattern}
use Rattle.sml_types.specs.declared.tables.TypeName.{TypeName}
use Rattle.sml_types.specs.declared.types.TyVar.{TyVar}
use Rattle.sml_types.specs.Tree.{Tree, inst}
use Rattle.sml_types.specs.Typing.{Typing, IsTyping}
use Rattle.sml_def.specs.State.{Value, Env, Block, look}
use Rattle.sml_def.specs.Builtin.{see}
use Rattle.sml_def.specs.Match.{fits, first_rule}
use Rattle.sml_sound.specs.TypedStates.{Entry, HasTy, EnvTy, StoreTy}
use Rattle.lambda_ir.specs.declared.term.Case.{Case}
use Rattle.lambda_ir.specs.Tests.{chosen, first_case, match_met}
use Rattle.match_laws.specs.Compile.{tests, names, rule_of, cases_of}
use Rattle.match_laws.specs.Shape.{shaped}
use Rattle.match_laws.specs.Suit.{is_exn_name, suited}

-- ---- For values that have the patterns' shape

-- the tests of a pattern hold where it fits, and its names read what it binds
abbrev pub TestsFit : Type 0
TestsFit =
    (ts : List TypeName) (p : Bare) (env : Env) (store : List Block) (i : ℕ) (v : Value) → shaped p env store i v ≡ true → fits p env store i v ≡ chosen p.texts env (see p.texts store) (tests ts p.nodes i []) (names p.nodes i []) v

-- the first rule that is chosen is the first that fits
abbrev pub TestsChoose : Type 0
TestsChoose =
    (ts : List TypeName) (p : Bare) (env : Env) (store : List Block) (rules : List Rule) (v : Value) → AllByRecursion (λ r. shaped p env store r.pat v ≡ true) rules → first_rule p env store rules v ≡ first_case p.texts env (see p.texts store) (cases_of ts p.nodes rules) v

-- for values that suit the patterns, each test that comes up looks at a value of its kind, and the names of a chosen rule lead somewhere
abbrev pub TestsAreMet : Type 0
TestsAreMet =
    (ts : List TypeName) (p : Bare) (env : Env) (store : List Block) (rules : List Rule) (v : Value) → AllByRecursion (λ r. suited p env store r.pat v ≡ true) rules → match_met p.texts env (see p.texts store) (is_exn_name store) (cases_of ts p.nodes rules) v ≡ true

-- ---- For values of the match's type

-- rules by the numbers of their patterns, each with its place as body
abbrev pub rules_from : ℕ → List ℕ → List Rule
rules_from k [] = []
rules_from k (pat ∷ pats) = record { pat = pat; body = k } ∷ rules_from (suc k) pats

abbrev pub cases_from : ℕ → List RuleTests → List Case
cases_from k [] = []
cases_from k (r ∷ rules) = record { tests = r.tests; names = r.names; body = k } ∷ cases_from (suc k) rules

-- patterns of one type
abbrev pub ArePatterns : Bare → Typing → Tree → List ℕ → Type 0
ArePatterns p t a pats = AllByRecursion (λ q. IsOf p.nodes Pattern q × (t.types q ≡ a)) pats

-- The first rule that tests choose is the first whose pattern fits, with what this binds, and they choose none where none fits: for each value of
-- the patterns' type, in each typed store and environment.
abbrev pub Choose : Bare → List ℕ → List RuleTests → Type 0
Choose p pats tests =
    (t : Typing) → IsTyping p t → (a : Tree) → ArePatterns p t a pats → (sig : List Entry) (store : List Block) → StoreTy p t sig sig store → (g : TyVar → Tree) (env : Env) → EnvTy p t sig g (union_over (free p.nodes) pats) env → (v : Value) → HasTy p t sig v (inst g a) → first_rule p env store (rules_from 0 pats) v ≡ first_case p.texts env (see p.texts store) (cases_from 0 tests) v

-- the exception names that patterns want stand for exception names
abbrev pub HasNames : List Block → Env → List ℕ → Type 0
HasNames store env xs = (x : ℕ) → has xs x ≡ true → (name : Value) × (look env x ≡ Some name) × (is_exn_name store name ≡ true)

-- and they look at values of their kind
abbrev pub AreMet : Bare → List ℕ → List RuleTests → Type 0
AreMet p pats tests =
    (t : Typing) → IsTyping p t → (a : Tree) → ArePatterns p t a pats → (sig : List Entry) (store : List Block) → StoreTy p t sig sig store → (g : TyVar → Tree) (env : Env) → EnvTy p t sig g (union_over (free p.nodes) pats) env → HasNames store env (union_over (free p.nodes) pats) → (v : Value) → HasTy p t sig v (inst g a) → match_met p.texts env (see p.texts store) (is_exn_name store) (cases_from 0 tests) v ≡ true

abbrev pub TestsChooseByType : Type 0
TestsChooseByType = (p : Bare) → IsBare p → (ts : List TypeName) (pats : List ℕ) → Choose p pats (map (rule_of ts p.nodes) pats)

abbrev pub TestsAreMetByType : Type 0
TestsAreMetByType = (p : Bare) → IsBare p → (ts : List TypeName) (pats : List ℕ) → AreMet p pats (map (rule_of ts p.nodes) pats)
