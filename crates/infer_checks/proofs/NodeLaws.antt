-- What the checks of a node say of the typing that inference ends with, and of others.
use Rattle.std.proofs.Common.{◌≡◌, ℕ, ◌+◌, ◌<◌, Bool, true, false, List, [], ◌∷◌, length, Option, Some, refl, sym, ap, ◌∙◌, inl, inr, ◌⊎◌, map}
use Rattle.std.specs.List.{AllByRecursion}
use Rattle.sml_tree.specs.declared.bare.Bare.{Bare}
use Rattle.sml_tree.specs.declared.bare.Rule.{Rule}
use Rattle.sml_tree.specs.declared.bare.Binding.{Binding}
use Rattle.sml_tree.specs.declared.bare.RecBinding.{RecBinding}
use Rattle.sml_types.specs.declared.types.TyVar.{TyVar}
use Rattle.sml_types.specs.Tree.{inst, AllVars, occurs}
use Rattle.sml_types.specs.Escape.{mentions, AreKnown}
use Rattle.sml_types.specs.NonExpansive.{AreNonExpansive}
use Rattle.sml_types.specs.Poly.{Poly, Context, is_free, IsFresh}
use Rattle.sml_types.specs.Typing.{Typing, AreClosed, AreExplicit, IsGeneral}
use Rattle.sml_unify.specs.declared.resolve.Rename.{Rename}
use Rattle.sml_unify.specs.Solved.{Substitution, IsSolved}
use Rattle.sml_unify.proofs.Known.{meant_through}
use Rattle.infer_state.specs.declared.unknowns.Unknowns.{Unknowns}
use Rattle.infer_state.specs.declared.declared.Declared.{Declared}
use Rattle.infer_state.specs.declared.settled.Settled.{Settled}
use Rattle.infer_state.specs.Fits.{IsFormVar, settled_at}
use Rattle.infer_state.specs.Names.{names_bound}
use Rattle.infer_state.specs.Typings.{var_at, scheme_under, AreMatched}
use Rattle.infer_state.specs.Variables.{name_var, node_var}
use Rattle.infer_laws.specs.Schemes.{AreNamedOnce, EachSettled}
use Rattle.infer_laws.proofs.Settled.{settled_known, settled_once}
use Rattle.infer_closing.specs.Closing.{meaning}
use Rattle.infer_checks.specs.Checked.{ending, ended}
use Rattle.infer_checks.specs.Ending.{HasVars, AreMatchedNames, IsKnownIfNamed, IsNewAround, MayBeNew}
use Rattle.infer_checks.specs.Node.{IsGiven, GoesWith, NoneHas, IsMatchKnown, IsDeclarationKnown, general_vars, IsGeneralised, IsLeftOut, MayBeLeftOut, MayBeAllLeftOut, IsDeclaredWell, MayBeDeclared}
use Rattle.infer_checks.proofs.Free.{free_is_open, open_not_free}
use Rattle.infer_checks.proofs.Mentions.{mentions_back, mentions_renamed}
use Rattle.infer_checks.proofs.NodeFacts.{are_known, has_vars, are_closed, new_fresh, typing_knows, fresh_new}
use Rattle.infer_checks.proofs.Renames.{stands_still}

-- ---- Lists

-- what holds of what variables stand for
map_all : (P : TyVar → Type 0) (f : Substitution) (vs : List TyVar) → AllByRecursion (λ v. P (var_at v (f v))) vs → AllByRecursion P (map (λ v. var_at v (f v)) vs)
map_all P f [] h = tt
map_all P f (v ∷ vs) h = (h.0, map_all P f vs h.1)

all_mono : {A : Type 0} (P Q : A → Type 0) (xs : List A) → ((x : A) → P x → Q x) → AllByRecursion P xs → AllByRecursion Q xs
all_mono P Q [] f h = tt
all_mono P Q (x ∷ xs) f h = (f x h.0, all_mono P Q xs f h.1)

-- what holds of the first of the others with each
heads : (P : ℕ → ℕ → Type 0) (u : ℕ) (us xs : List ℕ) → AllByRecursion (λ x. AllByRecursion (P x) (u ∷ us)) xs → AllByRecursion (λ x. P x u) xs
heads P u us [] h = tt
heads P u us (x ∷ xs) h = (h.0.0, heads P u us xs h.1)

tails : (P : ℕ → ℕ → Type 0) (u : ℕ) (us xs : List ℕ) → AllByRecursion (λ x. AllByRecursion (P x) (u ∷ us)) xs → AllByRecursion (λ x. AllByRecursion (P x) us) xs
tails P u us [] h = tt
tails P u us (x ∷ xs) h = (h.0.1, tails P u us xs h.1)

-- each with each, the other way round
turned : (P : ℕ → ℕ → Type 0) (us xs : List ℕ) → AllByRecursion (λ x. AllByRecursion (P x) us) xs → AllByRecursion (λ u. AllByRecursion (λ x. P x u) xs) us
turned P [] xs h = tt
turned P (u ∷ us) xs h = (heads P u us xs h, turned P us xs (tails P u us xs h))

both : (P Q : ℕ → Type 0) (us : List ℕ) → AllByRecursion P us → AllByRecursion Q us → AllByRecursion (λ u. P u × Q u) us
both P Q [] h k = tt
both P Q (u ∷ us) h k = ((h.0, k.0), both P Q us h.1 k.1)

module _ (p : Bare) (d : Declared) (contexts : ℕ → Option Context) (settled : List (Option Settled)) (general : List (Option (List TyVar))) (s : Unknowns) (renames : List Rename) (given : IsGiven p d contexts settled general s renames) where
  abbrev m : Substitution
  m = meaning s

  abbrev f : Substitution
  f = ending s renames

  abbrev known : ℕ → Option Poly
  known x = settled_at s.types settled x

  abbrev t : Typing
  t = ended p d contexts settled general s renames

  bodies : (x : ℕ) (q : Poly) → known x ≡ Some q → inst f q.body ≡ f (name_var p x)
  bodies x q e = given.bodies x q e f given.ending.solution.solves

  once : EachSettled AreNamedOnce known
  once = settled_once s.types settled given.forms given.there

  -- ---- The typing that inference ends with

  pub rules_finished : (c : Context) (rules : List Rule) → AllByRecursion (λ r. AreMatchedNames p known m c (names_bound p.nodes r.pat)) rules → AreMatched p t c rules
  rules_finished c [] h = tt
  rules_finished c (r ∷ rules) h = (
    (
      are_closed p known m f renames (λ v. refl) bodies [] (names_bound p.nodes r.pat) h.0.0,
      are_known p known m f renames (λ v. refl) bodies c (names_bound p.nodes r.pat) h.0.1,
    ),
    rules_finished c rules h.1,
  )

  pub let_finished : (c : Context) (i : ℕ) → mentions c.type_names (m (node_var p i)) ≡ true → mentions c.type_names (t.types i) ≡ true
  let_finished c i h = mentions_renamed c.type_names renames (m (node_var p i)) h

  pub exception_finished : (x : ℕ) → HasVars [] (known x) → (t.schemes x).vars ≡ []
  exception_finished x h = has_vars p known m f renames (λ v. refl) bodies x [] (known x) h

  fresh_at : (c : Context) (a : ℕ) → IsNewAround p known f c a → IsFresh t.schemes c a
  fresh_at c a h = new_fresh p known m f renames (λ v. refl) bodies given.ending.proper once c a h

  -- what a right side generalises in the end
  general_finished : (c : Context) (right : ℕ) (names : List ℕ) → IsGeneralised p known f general c right names → IsGeneral p t c right
  general_finished c right names h = (
    map_all (λ v. IsFresh t.schemes c v.num) f (general_vars general right) (all_mono (λ v. IsNewAround p known f c (var_at v (f v)).num) (λ v. IsFresh t.schemes c (var_at v (f v)).num) (general_vars general right) (λ v k. fresh_at c (var_at v (f v)).num k) h.fresh),
    plain h.plain,
  )
    where
      plain : (general_vars general right ≡ []) ⊎ AreNonExpansive p.nodes (right ∷ []) → (t.gens right ≡ []) ⊎ AreNonExpansive p.nodes (right ∷ [])
      plain (inl e) = inl (ap (λ (vs : List TyVar). map (λ v. var_at v (f v)) vs) e)
      plain (inr k) = inr k

  names_finished : (c : Context) (right : ℕ) (names : List ℕ) → IsGeneralised p known f general c right names → AreClosed p t (t.gens right) names
  names_finished c right names h =
      are_closed p known m f renames (λ v. refl) bodies (general_vars general right) names h.same

  pub bindings_finished : (c : Context) (bindings : List Binding) → AllByRecursion (λ b. IsGeneralised p known f general c b.right (names_bound p.nodes b.pat)) bindings → AllByRecursion (λ b. IsGeneral p t c b.right × AreClosed p t (t.gens b.right) (t.binds b.pat)) bindings
  bindings_finished c [] h = tt
  bindings_finished c (b ∷ bindings) h = (
    (general_finished c b.right (names_bound p.nodes b.pat) h.0, names_finished c b.right (names_bound p.nodes b.pat) h.0),
    bindings_finished c bindings h.1,
  )

  pub group_finished : (c : Context) (bindings : List RecBinding) → AllByRecursion (λ b. IsGeneralised p known f general c b.right (b.name.0 ∷ [])) bindings → AllByRecursion (λ b. IsGeneral p t c b.right × ((t.schemes b.name.0).vars ≡ t.gens b.right)) bindings
  group_finished c [] h = tt
  group_finished c (b ∷ bindings) h = (
    (general_finished c b.right (b.name.0 ∷ []) h.0, (names_finished c b.right (b.name.0 ∷ []) h.0).0),
    group_finished c bindings h.1,
  )

  -- a name that leaves an explicit type variable out does not have it free
  left_out_free : (x u : ℕ) → IsLeftOut known f x u → is_free u (t.schemes x) ≡ false
  left_out_free x u (q, e, out) = by (is_free u (t.schemes x)) refl
    where
      by : (b : Bool) → is_free u (t.schemes x) ≡ b → b ≡ false
      by false z = refl
      by true z =
          absurd (out (free_is_open f q (given.ending.proper x q e) (once x q e) u (sym (ap (λ o. is_free u (scheme_under f o (f (name_var p x)))) e) ∙ z)))

  pub explicit_finished : (c : Context) (us xs : List ℕ) → IsDeclaredWell p known m f c us xs → AreExplicit p t us c xs
  explicit_finished c us xs h =
      both (IsFresh t.schemes c) (λ u. AllByRecursion (λ x. is_free u (t.schemes x) ≡ false) xs) us
      (all_mono (IsNewAround p known f c) (IsFresh t.schemes c) us (fresh_at c) h.fresh)
      (turned (λ x u. is_free u (t.schemes x) ≡ false) us xs (all_mono (λ x. AllByRecursion (IsLeftOut known f x) us) (λ x. AllByRecursion (λ u. is_free u (t.schemes x) ≡ false) us) xs (λ x k. all_mono (IsLeftOut known f x) (λ u. is_free u (t.schemes x) ≡ false) us (left_out_free x) k) h.left_out))

  pub names_known : (c : Context) (us xs : List ℕ) → IsDeclaredWell p known m f c us xs → AreKnown t.schemes c.type_names xs
  names_known c us xs h = are_known p known m f renames (λ v. refl) bodies c xs h.mentioned

  -- ---- Other typings

  solved : IsSolved s.types s.subst.bound
  solved =
      record {
        numbered = given.forms.numbered;
        named = given.forms.named;
        within = given.state.bindings.within;
        acyclic = given.state.bindings.acyclic;
      }

  module _ (other : Typing) (g : Substitution) (goes : GoesWith p d settled s other g) where
    through : (v : TyVar) → IsFormVar s.types v → g v ≡ inst g (m v)
    through v k = meant_through s.types s.subst.bound solved g goes.solution.solves v k

    name_known : (x : ℕ) → x < length p.names → IsFormVar s.types (name_var p x)
    name_known x l = (d.starts.names + x, given.laid.of_names x l)

    each_known : EachSettled (λ q. AllVars (IsFormVar s.types) q.body) known
    each_known = settled_known s.types settled given.forms given.there

    still : (u : ℕ) → u < length p.tyvars → (v : TyVar) → IsFormVar s.types v → occurs u (f v) ≡ true → occurs u (g v) ≡ true
    still u l v k e =
        stands_still p s d.starts renames given.forms given.state.bindings given.laid given.ending.for_explicit g goes.solution.solves goes.fits.explicit_ones v k u l e

    knows : (c : Context) (xs : List ℕ) → AreKnown other.schemes c.type_names xs → AllByRecursion (IsKnownIfNamed p m c) xs
    knows c xs h = typing_knows p known m f g s.types other goes.fits through name_known c xs h

    rules_asked : (c : Context) (rules : List Rule) → IsMatchKnown p other c rules → AllByRecursion (λ r. AllByRecursion (IsKnownIfNamed p m c) (names_bound p.nodes r.pat)) rules
    rules_asked c [] h = tt
    rules_asked c (r ∷ rules) h = (knows c (names_bound p.nodes r.pat) h.0, rules_asked c rules h.1)

    let_asked : (c : Context) (i : ℕ) → i < length p.nodes → mentions c.type_names (other.types i) ≡ true → mentions c.type_names (m (node_var p i)) ≡ true
    let_asked c i l h =
        mentions_back c.type_names g (m (node_var p i)) (ap (mentions c.type_names) (sym (through (node_var p i) (d.starts.nodes + i, given.laid.of_nodes i l)) ∙ goes.fits.of_nodes i l) ∙ h)

    fresh_asked : (c : Context) (u : ℕ) → IsFresh other.schemes c u → MayBeNew p known f c u
    fresh_asked c u h =
        fresh_new p known m f g s.types other goes.fits through name_known goes.suits each_known u (λ v k l e. still u l v k e) c h

    left_out_asked : (x u : ℕ) → is_free u (other.schemes x) ≡ false → MayBeLeftOut p known f x u
    left_out_asked x u h l o =
        open_not_free p known f g s.types other goes.fits goes.suits each_known name_known u (still u l) x o.0 o.1 o.2 h

    all_left_out : (us xs : List ℕ) → AllByRecursion (λ u. AllByRecursion (λ x. is_free u (other.schemes x) ≡ false) xs) us → MayBeAllLeftOut p known f us xs
    all_left_out us xs h =
        all_mono (λ x. AllByRecursion (λ u. is_free u (other.schemes x) ≡ false) us) (λ x. AllByRecursion (MayBeLeftOut p known f x) us) xs
        (λ x k. all_mono (λ u. is_free u (other.schemes x) ≡ false) (MayBeLeftOut p known f x) us (left_out_asked x) k)
        (turned (λ u x. is_free u (other.schemes x) ≡ false) xs us h)

    declaration_asked : (us : List ℕ) (c : Context) (i : ℕ) → IsDeclarationKnown p other us c i → MayBeDeclared p known m f c us (names_bound p.nodes i)
    declaration_asked us c i h =
        let fresh : AllByRecursion (λ u. IsFresh other.schemes c u × AllByRecursion (λ x. is_free u (other.schemes x) ≡ false) (names_bound p.nodes i)) us = h.0 in
        record {
          mentioned = knows c (names_bound p.nodes i) h.1;
          fresh = all_mono (λ u. IsFresh other.schemes c u × AllByRecursion (λ x. is_free u (other.schemes x) ≡ false) (names_bound p.nodes i)) (MayBeNew p known f c) us (λ u k. fresh_asked c u k.0) fresh;
          left_out = all_left_out us (names_bound p.nodes i) (all_mono (λ u. IsFresh other.schemes c u × AllByRecursion (λ x. is_free u (other.schemes x) ≡ false) (names_bound p.nodes i)) (λ u. AllByRecursion (λ x. is_free u (other.schemes x) ≡ false) (names_bound p.nodes i)) us (λ u k. k.1) fresh);
        }

  -- ---- Refusals

  pub rules_refused : (c : Context) (rules : List Rule) → (AllByRecursion (λ r. AllByRecursion (IsKnownIfNamed p m c) (names_bound p.nodes r.pat)) rules → ⊥) → NoneHas p d settled s (λ other. IsMatchKnown p other c rules)
  rules_refused c rules h other g goes k = h (rules_asked other g goes c rules k)

  pub let_refused : (c : Context) (i : ℕ) → i < length p.nodes → (mentions c.type_names (m (node_var p i)) ≡ true → ⊥) → NoneHas p d settled s (λ other. mentions c.type_names (other.types i) ≡ true)
  let_refused c i l h other g goes k = h (let_asked other g goes c i l k)

  pub declaration_refused : (us : List ℕ) (c : Context) (i : ℕ) → (MayBeDeclared p known m f c us (names_bound p.nodes i) → ⊥) → NoneHas p d settled s (λ other. IsDeclarationKnown p other us c i)
  declaration_refused us c i h other g goes k = h (declaration_asked other g goes us c i k)
