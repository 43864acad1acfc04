-- What the checks say of the typing that inference ends with, and of others.
use Rattle.std.proofs.Common.{◌≡◌, ℕ, ◌<◌, Bool, true, false, List, [], ◌∷◌, length, Option, Some, None, sym, ap, ◌∙◌, map}
use Rattle.std.specs.List.{AllByRecursion}
use Rattle.sml_tree.specs.declared.bare.Bare.{Bare}
use Rattle.sml_types.specs.declared.types.TyVar.{TyVar}
use Rattle.sml_types.specs.declared.types.TyForm.{TyForm}
use Rattle.sml_types.specs.Tree.{inst, AllVars, occurs}
use Rattle.sml_types.specs.Escape.{mentions, AreKnown}
use Rattle.sml_types.specs.Poly.{Poly, Context, IsFresh}
use Rattle.sml_types.specs.Typing.{Typing}
use Rattle.sml_unify.specs.declared.resolve.Rename.{Rename}
use Rattle.sml_unify.specs.Solved.{Substitution}
use Rattle.sml_unify.specs.Resolve.{renamed}
use Rattle.infer_state.specs.Fits.{Fits, AllSuit, IsFormVar}
use Rattle.infer_state.specs.Typings.{var_at, scheme_under, IsProper}
use Rattle.infer_state.specs.Variables.{name_var}
use Rattle.infer_laws.specs.Schemes.{AreNamedOnce, EachSettled}
use Rattle.infer_checks.specs.Ending.{Decides, HasVars, AreMatchedNames, IsNameKnown, IsKnownIfNamed, IsNewAround, MayBeNew}
use Rattle.infer_checks.proofs.Free.{scheme_body, fresh_of, around_not_fresh}
use Rattle.infer_checks.proofs.Mentions.{mentions_back, mentions_renamed}

pub matched_of : (p : Bare) (known : ℕ → Option Poly) (m : Substitution) (c : Context) (xs : List ℕ) (b : Bool) → AllByRecursion (λ x. HasVars [] (known x)) xs → Decides (AllByRecursion (IsNameKnown p m c) xs) (AllByRecursion (IsKnownIfNamed p m c) xs) b → Decides (AreMatchedNames p known m c xs) (AllByRecursion (IsKnownIfNamed p m c) xs) b
matched_of p known m c xs true plain h = (plain, h)
matched_of p known m c xs false plain h = h

-- ---- The typing that inference ends with

module _ (p : Bare) (known : ℕ → Option Poly) (m f : Substitution) (renames : List Rename) (is : (v : TyVar) → f v ≡ inst (renamed renames) (m v)) (bodies : (x : ℕ) (q : Poly) → known x ≡ Some q → inst f q.body ≡ f (name_var p x)) where
  abbrev schemes : ℕ → Poly
  schemes x = scheme_under f (known x) (f (name_var p x))

  -- names whose types mention known type names do so in the end
  pub are_known : (c : Context) (xs : List ℕ) → AllByRecursion (IsNameKnown p m c) xs → AreKnown schemes c.type_names xs
  are_known c [] h = tt
  are_known c (x ∷ xs) h = (
    ap (mentions c.type_names) (scheme_body p known f bodies x ∙ is (name_var p x)) ∙ mentions_renamed c.type_names renames (m (name_var p x)) h.0,
    are_known c xs h.1,
  )

  pub has_vars : (x : ℕ) (vs : List TyVar) (o : Option Poly) → HasVars vs o → (scheme_under f o (f (name_var p x))).vars ≡ map (λ v. var_at v (f v)) vs
  has_vars x vs None h = absurd h
  has_vars x vs (Some q) h = ap (map (λ v. var_at v (f v))) h

  -- names that generalise these variables generalise in the end what they stand for
  pub are_closed : (vs : List TyVar) (xs : List ℕ) → AllByRecursion (λ x. HasVars vs (known x)) xs → AllByRecursion (λ x. (schemes x).vars ≡ map (λ v. var_at v (f v)) vs) xs
  are_closed vs [] h = tt
  are_closed vs (x ∷ xs) h = (has_vars x vs (known x) h.0, are_closed vs xs h.1)

  -- what is new around is fresh there
  pub new_fresh : EachSettled (IsProper f) known → EachSettled AreNamedOnce known → (c : Context) (a : ℕ) → IsNewAround p known f c a → IsFresh schemes c a
  new_fresh proper once c a n = fresh_of p known f bodies proper once c n.0 a n.1 n.2 n.3

-- ---- Other typings

module _ (p : Bare) (known : ℕ → Option Poly) (m f g : Substitution) (forms : List TyForm) (t : Typing) (fits : Fits p t g) (through : (v : TyVar) → IsFormVar forms v → g v ≡ inst g (m v)) (names_known : (x : ℕ) → x < length p.names → IsFormVar forms (name_var p x)) where
  -- what a typing's names mention, what is bound mentions
  pub typing_knows : (c : Context) (xs : List ℕ) → AreKnown t.schemes c.type_names xs → AllByRecursion (IsKnownIfNamed p m c) xs
  typing_knows c [] h = tt
  typing_knows c (x ∷ xs) h = (
    (λ l. mentions_back c.type_names g (m (name_var p x)) (ap (mentions c.type_names) (sym (through (name_var p x) (names_known x l)) ∙ fits.of_names x l) ∙ h.0)),
    typing_knows c xs h.1,
  )

  -- an explicit type variable that is fresh in a typing is new around
  pub fresh_new : AllSuit known g t → EachSettled (λ s. AllVars (IsFormVar forms) s.body) known → (u : ℕ) → ((v : TyVar) → IsFormVar forms v → u < length p.tyvars → occurs u (f v) ≡ true → occurs u (g v) ≡ true) → (c : Context) → IsFresh t.schemes c u → MayBeNew p known f c u
  fresh_new suits each_known u still c fresh l = (fresh.0, λ o. around_not_fresh p known f g forms t fits suits each_known names_known u (λ v k e. still v k l e) c o fresh)
