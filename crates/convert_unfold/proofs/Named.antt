-- The function that a term is, behind terms that stand in another's place.
use Rattle.std.proofs.Common.{◌≡◌, ℕ, ◌<◌, List, Option, Some, None, refl}
use Rattle.std.specs.Prelude.{slice_get}
use Rattle.lambda_ir.specs.declared.term.Case.{Case}
use Rattle.lambda_ir.specs.declared.term.Term.{Term}
use Rattle.lambda_ir.specs.declared.term.Term.TheVariants as term
use Rattle.lambda_ir.specs.Free.{function_of_term}
use Rattle.convert_laws.specs.Facts.{AreNumbered}
use Rattle.convert_unfold.specs.Law.{Finds}
use Rattle.convert_unfold.proofs.Levels.{here, past}

module _ (terms : List Term) (numbered : AreNumbered terms) where
  by_later : (f g : ℕ → Option (ℕ × List Case)) (i : ℕ) (t : Term) → slice_get terms i ≡ Some t → ((c : ℕ) → i < c → f c ≡ g c) → function_of_term f i t ≡ function_of_term g i t
  by_later f g i (term.Fn cases) e same = refl
  by_later f g i (term.Same x) e same = same x (numbered i (term.Same x) e).0.0
  by_later f g i (term.Int z) e same = refl
  by_later f g i (term.Char c) e same = refl
  by_later f g i (term.Text t) e same = refl
  by_later f g i (term.Var y) e same = refl
  by_later f g i (term.Constructor c) e same = refl
  by_later f g i (term.Builtin p) e same = refl
  by_later f g i (term.Tuple parts) e same = refl
  by_later f g i (term.App y a) e same = refl
  by_later f g i (term.Match y cs) e same = refl
  by_later f g i (term.Raise y) e same = refl
  by_later f g i (term.Handle y cs) e same = refl
  by_later f g i (term.Let y b) e same = refl
  by_later f g i term.Finish e same = refl
  by_later f g i (term.Binds bs) e same = refl
  by_later f g i (term.Group bs) e same = refl
  by_later f g i (term.NewExn y) e same = refl
  by_later f g i (term.SameExn y c) e same = refl
  by_later f g i term.Nothing e same = refl
  by_later f g i term.Gone e same = refl

  pub finds : Finds terms
  finds = record { here = here None function_of_term terms by_later; past = past None function_of_term terms by_later }
