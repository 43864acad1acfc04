-- The rule of 16 words is a decision that fits.
use Rattle.std.proofs.Common.{◌≡◌, ℕ, Bool, ◌||◌, List, [], ◌∷◌, Some, ap, ◌∙◌}
use Rattle.std.specs.Prelude.{slice_get}
use Rattle.sml_tree.specs.Sets.{has}
use Rattle.lambda_ir.specs.declared.term.Case.{Case}
use Rattle.lambda_ir.specs.declared.term.Term.{Term}
use Rattle.lambda_ir.specs.declared.term.Term.TheVariants as term
use Rattle.convert_laws.specs.Decide.{decide_all}
use Rattle.convert_laws.specs.Facts.{AreNumbered}
use Rattle.convert_laws.specs.Fit.{IsNeedy, IsNeedyIn}
use Rattle.convert_laws.specs.Law.{RuleOf16Fits}
use Rattle.convert_laws.specs.Needs.{in_two, live, needs}
use Rattle.convert_laws.proofs.ByParts.{needs_here}

needy_in : (needy : ℕ → Bool) (cases : List Case) (i : ℕ) → needy i ≡ in_two needy cases → IsNeedyIn needy cases i
needy_in needy [] i e = tt
needy_in needy (c ∷ []) i e = λ h. e ∙ h
needy_in needy (c ∷ d ∷ cases) i e = e

module _ (terms : List Term) (numbered : AreNumbered terms) where
  needy_at : (i : ℕ) (t : Term) → slice_get terms i ≡ Some t → IsNeedy terms (needs terms) i t
  needy_at i (term.App f a) here = λ h. needs_here terms numbered i (term.App f a) here ∙ h
  needy_at i (term.Match e cases) here =
      needy_in (needs terms) (live cases) i (needs_here terms numbered i (term.Match e cases) here)
  needy_at i (term.Handle e cases) here = needs_here terms numbered i (term.Handle e cases) here
  needy_at i (term.Same e) here = λ h. needs_here terms numbered i (term.Same e) here ∙ h
  needy_at i (term.Let d e) here = λ h. needs_here terms numbered i (term.Let d e) here ∙ h
  needy_at i (term.Int z) here = tt
  needy_at i (term.Char c) here = tt
  needy_at i (term.Text t) here = tt
  needy_at i (term.Var x) here = tt
  needy_at i (term.Constructor c) here = tt
  needy_at i (term.Builtin p) here = tt
  needy_at i (term.Tuple parts) here = tt
  needy_at i (term.Fn cases) here = tt
  needy_at i (term.Raise e) here = tt
  needy_at i term.Finish here = tt
  needy_at i (term.Binds binds) here = tt
  needy_at i (term.Group bindings) here = tt
  needy_at i (term.NewExn x) here = tt
  needy_at i (term.SameExn x c) here = tt
  needy_at i term.Nothing here = tt
  needy_at i term.Gone here = tt

pub rule_of_16_fits : RuleOf16Fits
rule_of_16_fits l kept whole = record {
  wants = needy_at l.terms kept.numbered;
  owned = λ j h. ap (λ b. b || has (decide_all l.terms l.sites l.sites).own j) h;
  whole = whole;
}
