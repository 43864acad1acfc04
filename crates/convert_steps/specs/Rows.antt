-- The rules of a match, which are begun one after another.
use Rattle.std.specs.Prelude.{◌≡◌, ℕ, Bool, List, [], ◌∷◌, ◌++◌, length, map}
use Rattle.smlc_base.specs.declared.exception.LibraryExn.TheVariants as exn
use Rattle.smlc_base.specs.declared.match_tests.Test.{Test as LambdaTest}
use Rattle.lambda_ir.specs.declared.term.Case.{Case}
use Rattle.lambda_ir.specs.declared.term.Term.{Term}
use Rattle.cps_ir.specs.declared.atom.Atom.{Atom}
use Rattle.cps_ir.specs.declared.body.Rule.{Rule as Chosen}
use Rattle.cps_ir.specs.Code.{Code, Throw, Match, Rules, Otherwise, Rule}
use Rattle.cps_ir.specs.Program.{rules_of as rules_by}
use Rattle.convert_laws.specs.Convert.{Scope, Kon, tests_of, raise_exn, rules_of, match_on}
use Rattle.convert_steps.specs.declared.task.Continuation.{Continuation}
use Rattle.convert_steps.specs.declared.matches.Matching.{Matching}
use Rattle.convert_steps.specs.declared.matches.Matching.TheVariants as way
use Rattle.convert_steps.specs.declared.rules.Choices.{Choices}
use Rattle.convert_steps.specs.declared.task.Work.{Work}
use Rattle.convert_steps.specs.declared.world.World.{World}
use Rattle.convert_steps.specs.Codes.{conv, cases_at, work_code}
use Rattle.convert_steps.specs.Writes.{AreFrom, Grows, Stands, AreCodes}

-- rules in front of others
abbrev pub on_top : (ℕ → Code) → List Chosen → Rules → Rules
on_top body [] others = others
on_top body (r ∷ rules) others = Rule r.tests (body r.body) (on_top body rules others)

abbrev pub asked : List LambdaTest → Matching
asked [] = way.Chosen
asked (t ∷ tests) = way.Tested

-- how rules are matched
abbrev pub matching_of : List Case → Matching
matching_of [] = way.Nothing
matching_of (c ∷ cases) = asked c.tests

module _ (own : ℕ → Bool) (terms : List Term) where
  -- rules were begun, and others are left
  pub record Begun (w v : World) (scope : ℕ) (k : Continuation) (rules : List Chosen) (f g : Scope → Kon → Rules) : Type 0 where
    pub grows : Grows own terms w v
    pub scopes : v.scopes ≡ w.scopes
    pub bodies : (from : ℕ) (ns : List ℕ) → AreFrom from (length w.tasks) ns → AreFrom from (length v.tasks) (ns ++ map (λ r. r.body) rules)
    pub code : (body : ℕ → Code) → AreCodes own terms v (length w.tasks) body → (σ : Scope) (κ : Kon) → Stands own terms w scope k σ κ → f σ κ ≡ on_top body rules (g σ κ)

  -- all rules were begun
  pub record AreChoices (w v : World) (scope : ℕ) (k : Continuation) (f : Scope → Kon → Rules) (c : Choices) : Type 0 where
    pub grows : Grows own terms w v
    pub bodies : (from : ℕ) (ns : List ℕ) → AreFrom from (length w.tasks) ns → AreFrom from (length v.tasks) (ns ++ (map (λ r. r.body) c.rules ++ c.otherwise ∷ []))
    pub code : (body : ℕ → Code) → AreCodes own terms v (length w.tasks) body → (σ : Scope) (κ : Kon) → Stands own terms w scope k σ κ → f σ κ ≡ rules_by body c.rules c.otherwise

  -- the rules of a term
  abbrev pub cases_code : List Case → Atom → Atom → ℕ → Scope → Kon → Rules
  cases_code cases a thrown n σ κ = rules_of own terms (conv own terms) cases a σ κ (Throw thrown) n

  -- rules on an atom; where none is chosen, another atom is thrown
  abbrev pub match_code : ℕ → Atom → Atom → ℕ → Scope → Kon → Code
  match_code t a thrown n σ κ = match_on own terms (conv own terms) (cases_at terms t) σ κ (Throw thrown) a n

  -- a rule with tests; where they don't hold, Bind is raised
  abbrev pub tested_code : List LambdaTest → Work → Atom → ℕ → Scope → Kon → Code
  tested_code tests w a n σ κ = Match a (Rule (tests_of σ tests) (work_code own terms w σ κ n) (Otherwise (raise_exn exn.BindExn)))
