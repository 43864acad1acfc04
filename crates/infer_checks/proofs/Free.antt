-- What stands free in the schemes of the typing that inference ends with.
use Rattle.std.proofs.Common.{◌≡◌, ℕ, ◌<◌, Bool, true, false, List, [], ◌∷◌, length, Option, Some, None, refl, sym, ap, ◌∙◌, subst, nat_eq, inl, inr, ◌⊎◌, cond, map}
use Rattle.std.specs.Prelude.{◌||◌, ◌&&◌, not}
use Rattle.std.specs.List.{AllByRecursion}
use Rattle.std.proofs.lemmas.Bool.{eq-eqb, eqb-true}
use Rattle.sml_tree.specs.declared.bare.Bare.{Bare}
use Rattle.sml_types.specs.declared.types.TyVar.{TyVar}
use Rattle.sml_types.specs.declared.types.TyForm.{TyForm}
use Rattle.sml_types.specs.Tree.{Variable, inst, occurs, AllVars}
use Rattle.sml_types.specs.Poly.{Poly, poly, mono, Context, is_in, has_num, is_free, scheme_in, IsFresh}
use Rattle.sml_types.specs.Typing.{Typing, IsAmong}
use Rattle.sml_types.proofs.TreeFacts.{and_both}
use Rattle.sml_unify.specs.Solved.{Substitution}
use Rattle.sml_unify.specs.Variables.{Stands}
use Rattle.infer_state.specs.Variables.{name_var}
use Rattle.infer_state.specs.Fits.{Fits, AllSuit, IsFormVar}
use Rattle.infer_state.specs.Typings.{var_at, poly_under, scheme_under, AreApart, IsProper}
use Rattle.infer_laws.specs.Schemes.{AreNamedOnce, EachSettled}
use Rattle.infer_closing.specs.Open.{has_all}
use Rattle.infer_closing.proofs.Trees.{occurs_through, standing_in, at_standing, from_standing, all_stand}
use Rattle.infer_closing.proofs.Laws.{at_in}
use Rattle.infer_checks.specs.Ending.{Lists, IsOpenNumber, IsOpenOwn, IsOpenName, IsOpenAround, AreOpenAround}

pub all_from_in : (P : ℕ → Type 0) (xs : List ℕ) → ((x : ℕ) → is_in xs x ≡ true → P x) → AllByRecursion P xs
all_from_in P [] h = tt
all_from_in P (x ∷ xs) h = (
  h x (ap (λ b. b || is_in xs x) (eq-eqb x x refl)),
  all_from_in P xs (λ y e. h y (second (nat_eq y x) (is_in xs y) e)),
)
  where
    second : (a b : Bool) → b ≡ true → (a || b) ≡ true
    second true b e = refl
    second false b e = e

-- ---- Schemes of their own variables

in_vars : (f : Substitution) (os : List ℕ) (a : ℕ) (vs : List TyVar) → AllByRecursion (λ v. is_in os (var_at v (f v)).num ≡ false) vs → is_in os a ≡ true → has_num (map (λ v. var_at v (f v)) vs) a ≡ false
in_vars f os a [] h e = refl
in_vars f os a (v ∷ vs) h e = by (nat_eq a (var_at v (f v)).num) refl (in_vars f os a vs h.1 e)
  where
    by : (b : Bool) → nat_eq a (var_at v (f v)).num ≡ b → has_num (map (λ w. var_at w (f w)) vs) a ≡ false → (b || has_num (map (λ w. var_at w (f w)) vs) a) ≡ false
    by true q rest =
        let clash : true ≡ false = sym e ∙ ap (is_in os) (eqb-true a (var_at v (f v)).num q) ∙ h.0 in cc
    by false q rest = rest

-- a scheme whose variables stand for different ones, of which none is among what it leaves open
pub proper_of : (f : Substitution) (q : Poly) (os : List ℕ) → Lists (IsOpenNumber f q) os → AllByRecursion (λ v. f v ≡ Variable (record { num = (var_at v (f v)).num; eq = v.eq })) q.vars → AreApart (map (λ v. (var_at v (f v)).num) q.vars) → AllByRecursion (λ v. is_in os (var_at v (f v)).num ≡ false) q.vars → IsProper f q
proper_of f q os lists vars apart out =
    record {
      vars = vars;
      apart = apart;
      left_open = from_standing (λ u. has_num q.vars u.num ≡ false → (a : ℕ) → occurs a (f u) ≡ true → has_num (poly_under f q).vars a ≡ false) q.body (λ u s n a o. in_vars f os a q.vars out (lists.all a (u, s, n, o)));
    }

pub plain_proper : (f : Substitution) (q : Poly) → q.vars ≡ [] → IsProper f q
plain_proper f q e =
    subst
    (λ (vs : List TyVar). IsProper f (poly vs q.body))
    (sym e)
    (record { vars = tt; apart = tt; left_open = from_standing (λ u. has_num [] u.num ≡ false → (a : ℕ) → occurs a (f u) ≡ true → has_num [] a ≡ false) q.body (λ u s n a o. refl) })

-- ---- Free variables of schemes under the substitution

module _ (f : Substitution) (q : Poly) (proper : IsProper f q) (once : AreNamedOnce q) where
  named : (u : TyVar) (a : ℕ) (vs : List TyVar) → AllByRecursion (λ v. f v ≡ Variable (record { num = (var_at v (f v)).num; eq = v.eq })) vs → IsAmong u vs → occurs a (f u) ≡ true → has_num (map (λ v. var_at v (f v)) vs) a ≡ true
  named u a [] h m o = absurd m
  named u a (v ∷ vs) h (inl e) o =
      let is : occurs a (f v) ≡ true = ap (λ w. occurs a (f w)) (sym e) ∙ o in
      let same : nat_eq a (var_at v (f v)).num ≡ true = sym (ap (occurs a) h.0) ∙ is in
      ap (λ b. b || has_num (map (λ w. var_at w (f w)) vs) a) same
  named u a (v ∷ vs) h (inr m) o = second (nat_eq a (var_at v (f v)).num) (has_num (map (λ w. var_at w (f w)) vs) a) (named u a vs h.1 m o)
    where
      second : (x y : Bool) → y ≡ true → (x || y) ≡ true
      second true y e = refl
      second false y e = e

  -- what stands free in a scheme, the scheme leaves open
  pub free_is_open : (a : ℕ) → is_free a (poly_under f q) ≡ true → IsOpenNumber f q a
  free_is_open a e =
      let b = and_both (occurs a (inst f q.body)) (not (has_num (poly_under f q).vars a)) e in
      let r = standing_in f a q.body b.0 in
      by r.0 r.1 r.2 b.1 (has_num q.vars r.0.num) refl
    where
      by : (u : TyVar) → Stands u q.body → occurs a (f u) ≡ true → not (has_num (poly_under f q).vars a) ≡ true → (b : Bool) → has_num q.vars u.num ≡ b → IsOpenNumber f q a
      by u s o n true z =
          let among = at_standing (λ v. has_num q.vars v.num ≡ true → IsAmong v q.vars) q.body u once s z in
          let has = named u a q.vars proper.vars among o in
          let clash : false ≡ true = sym (ap not has) ∙ n in
          cc
      by u s o n false z = (u, s, z, o)

-- a closed scheme leaves nothing open
pub closed_none : (f : Substitution) (q : Poly) (a : ℕ) → has_all q.vars q.body ≡ true → IsOpenNumber f q a → ⊥
closed_none f q a h (u, s, n, o) = let clash : true ≡ false = sym (all_stand q.vars q.body u h s) ∙ n in cc

module _ (p : Bare) (known : ℕ → Option Poly) (f : Substitution) (bodies : (x : ℕ) (q : Poly) → known x ≡ Some q → inst f q.body ≡ f (name_var p x)) where
  abbrev schemes : ℕ → Poly
  schemes x = scheme_under f (known x) (f (name_var p x))

  -- each name has the type that its variable stands for
  pub scheme_body : (x : ℕ) → (schemes x).body ≡ f (name_var p x)
  scheme_body x = by (known x) refl
    where
      by : (o : Option Poly) → known x ≡ o → (scheme_under f o (f (name_var p x))).body ≡ f (name_var p x)
      by None e = refl
      by (Some q) e = bodies x q e

  module _ (proper : EachSettled (IsProper f) known) (once : EachSettled AreNamedOnce known) where
    -- what is not among what a settled name leaves open does not stand free in its scheme
    pub not_free : (x a : ℕ) (q : Poly) (os : List ℕ) → known x ≡ Some q → ((b : ℕ) → IsOpenNumber f q b → is_in os b ≡ true) → is_in os a ≡ false → is_free a (schemes x) ≡ false
    not_free x a q os e lists out = by (is_free a (schemes x)) refl
      where
        by : (b : Bool) → is_free a (schemes x) ≡ b → b ≡ false
        by false z = refl
        by true z =
            let there = free_is_open f q (proper x q e) (once x q e) a (sym (ap (λ o. is_free a (scheme_under f o (f (name_var p x)))) e) ∙ z) in
            let clash : true ≡ false = sym (lists a there) ∙ out in
            cc

    -- what is not among what stands open in a context is fresh there
    pub fresh_of : (c : Context) (os : List ℕ) (a : ℕ) → AreOpenAround p known f c os → is_in c.tyvars a ≡ false → is_in os a ≡ false → IsFresh schemes c a
    fresh_of c os a around new out = (new, all_from_in (λ x. is_free a (scheme_in schemes c x) ≡ false) c.names (λ x e. at x e (is_in c.own x) refl))
      where
        at : (x : ℕ) → is_in c.names x ≡ true → (b : Bool) → is_in c.own x ≡ b → is_free a (cond b (mono (schemes x).body) (schemes x)) ≡ false
        at x e true o = by (occurs a (schemes x).body) refl
          where
            by : (b : Bool) → occurs a (schemes x).body ≡ b → (b && true) ≡ false
            by false z = refl
            by true z =
                let there = around.own x o a (sym (ap (occurs a) (scheme_body x)) ∙ z) in
                let clash : true ≡ false = sym there ∙ out in
                cc
        at x e false o = let l = around.settled x e o in not_free x a l.0 os l.1 l.2 out

-- ---- Typings

module _ (p : Bare) (known : ℕ → Option Poly) (f g : Substitution) (forms : List TyForm) (t : Typing) (fits : Fits p t g) (suits : AllSuit known g t) (each_known : EachSettled (λ s. AllVars (IsFormVar forms) s.body) known) (names_known : (x : ℕ) → x < length p.names → IsFormVar forms (name_var p x)) (u : ℕ) (still : (v : TyVar) → IsFormVar forms v → occurs u (f v) ≡ true → occurs u (g v) ≡ true) where
  record IsLeft (x : ℕ) : Type 0 where
    pub there : occurs u (t.schemes x).body ≡ true
    pub left : has_num (t.schemes x).vars u ≡ false

  open_is_left : (x : ℕ) (q : Poly) → known x ≡ Some q → IsOpenNumber f q u → IsLeft x
  open_is_left x q e (v, s, n, o) =
      let suit = suits x q e in
      let in_g = still v (at_standing (IsFormVar forms) q.body v (each_known x q e) s) o in
      record {
        there = ap (occurs u) (sym suit.body) ∙ occurs_through g u v q.body s in_g;
        left = at_standing (λ w. has_num q.vars w.num ≡ false → (a : ℕ) → occurs a (g w) ≡ true → has_num (t.schemes x).vars a ≡ false) q.body v suit.left_open s n u in_g;
      }

  both_free : (x : ℕ) → occurs u (t.schemes x).body ≡ true → (vs : List TyVar) → has_num vs u ≡ false → is_free u (poly vs (t.schemes x).body) ≡ true
  both_free x o vs n = ap (λ b. b && not (has_num vs u)) o ∙ ap not n

  left_is_free : (x : ℕ) → IsLeft x → is_free u (t.schemes x) ≡ true
  left_is_free x l = both_free x l.there (t.schemes x).vars l.left

  -- an explicit type variable that a settled name leaves open stands free in the typing's scheme
  pub open_not_free : (x : ℕ) (q : Poly) → known x ≡ Some q → IsOpenNumber f q u → is_free u (t.schemes x) ≡ false → ⊥
  open_not_free x q e o n =
      let clash : true ≡ false = sym (left_is_free x (open_is_left x q e o)) ∙ n in cc

  -- and one that stands open in a context is not fresh there
  pub around_not_fresh : (c : Context) → IsOpenAround p known f c u → IsFresh t.schemes c u → ⊥
  around_not_fresh c (x, e, b) fresh = let none = at_in (λ y. is_free u (scheme_in t.schemes c y) ≡ false) c.names x fresh.1 e in by (is_in c.own x) refl b none
    where
      by : (o : Bool) → is_in c.own x ≡ o → IsOpenOwn p known f c x u ⊎ IsOpenName known f x u → is_free u (cond o (mono (t.schemes x).body) (t.schemes x)) ≡ false → ⊥
      by true o (inl (i, few, k)) n =
          let there : occurs u (t.schemes x).body ≡ true = ap (occurs u) (sym (fits.of_names x few)) ∙ still (name_var p x) (names_known x few) k in
          let clash : true ≡ false = sym (both_free x there [] refl) ∙ n in
          cc
      by true o (inr (q, i, k)) n =
          let clash : true ≡ false = sym (both_free x (open_is_left x q i k).there [] refl) ∙ n in cc
      by false o (inl (i, few, k)) n = let clash : true ≡ false = sym i ∙ o in cc
      by false o (inr (q, i, k)) n =
          let clash : true ≡ false = sym (left_is_free x (open_is_left x q i k)) ∙ n in cc
