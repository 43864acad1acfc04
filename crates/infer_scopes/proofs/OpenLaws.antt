-- What holds of all closed names, said of any property: a test can stand for it.
use Rattle.std.proofs.Common.{◌≡◌, ℕ, zero, suc, Bool, true, false, ◌||◌, ◌&&◌, ◌⊎◌, inl, inr, List, [], ◌∷◌, Option, Some, None, refl, sym, ap, ◌∙◌}
use Rattle.std.specs.Prelude.{slice_get, not}
use Rattle.std.specs.List.{list_any}
use Rattle.sml_types.specs.Poly.{is_in}
use Rattle.infer_scopes.specs.declared.chains.Cell.{Cell}
use Rattle.infer_scopes.specs.declared.scope.Scope.{Scope}
use Rattle.infer_scopes.specs.Scopes.{Stored, Standing, standing, standings_of, AllOpen, AreOpen}
use Rattle.infer_scopes.proofs.ScopeFacts.{has_scope, standing_is}

-- each of these names is unclosed, or has the property
abbrev pub AreOpenTo : (ℕ → Type 0) → List ℕ → List ℕ → Type 0
AreOpenTo P names unclosed = (x : ℕ) → is_in names x ≡ true → (is_in unclosed x ≡ true) ⊎ P x

-- in all contexts
abbrev pub AllOpenTo : (ℕ → Type 0) → Stored → Type 0
AllOpenTo P s = (i : ℕ) (t : Standing) → standings_of s i ≡ Some t → AreOpenTo P t.context.names t.unclosed

-- whether a name is in the one list and not in the other
abbrev closes : List ℕ → List ℕ → ℕ → Bool
closes names unclosed x = is_in names x && not (is_in unclosed x)

abbrev closed_in : List Cell → ℕ → Option Scope → Bool
closed_in cells x None = false
closed_in cells x (Some s) = closes (standing cells s).context.names (standing cells s).unclosed x

-- whether a name is closed in some context
abbrev is_closed : Stored → ℕ → Bool
is_closed s x = list_any (closed_in s.cells x) s.scopes

any_at : {A : Type 0} (p : A → Bool) (xs : List A) (i : ℕ) (x : A) → slice_get xs i ≡ Some x → p x ≡ true → list_any p xs ≡ true
any_at p [] i x q e = cc
any_at p (y ∷ xs) zero x q e = let same : y ≡ x = cc in ap (λ b. b || list_any p xs) (ap p same ∙ e)
any_at p (y ∷ xs) (suc i) x q e = go (p y) (any_at p xs i x q e)
  where
    go : (b : Bool) → list_any p xs ≡ true → (b || list_any p xs) ≡ true
    go true h = refl
    go false h = h

some_at : {A : Type 0} (p : A → Bool) (xs : List A) → list_any p xs ≡ true → (i : ℕ) × (x : A) × (slice_get xs i ≡ Some x) × (p x ≡ true)
some_at {A} p [] e = absurd (clash e)
  where
    clash : false ≡ true → ⊥
    clash f = cc
some_at {A} p (y ∷ xs) e = go (some_at p xs) (p y) refl
  where
    go : (list_any p xs ≡ true → (i : ℕ) × (x : A) × (slice_get xs i ≡ Some x) × (p x ≡ true)) → (b : Bool) → p y ≡ b → (i : ℕ) × (x : A) × (slice_get (y ∷ xs) i ≡ Some x) × (p x ≡ true)
    go rest true h = (zero, y, refl, h)
    go rest false h = let r = rest (ap (λ b. b || list_any p xs) (sym h) ∙ e) in (suc r.0, r.1, r.2, r.3)

open_or : (u n q : Bool) → n ≡ true → ((n && not u) ≡ true → q ≡ true) → (u || q) ≡ true
open_or true n q e f = refl
open_or false n q e f = f (ap (λ b. b && true) e)

closed_has : (P : ℕ → Type 0) (names unclosed : List ℕ) (x : ℕ) → AreOpenTo P names unclosed → closes names unclosed x ≡ true → P x
closed_has P names unclosed x h e = go (is_in names x) (is_in unclosed x) refl refl e
  where
    pick : is_in unclosed x ≡ false → (is_in unclosed x ≡ true) ⊎ P x → P x
    pick f (inl g) = absurd (clash (sym f ∙ g))
      where
        clash : false ≡ true → ⊥
        clash w = cc
    pick f (inr g) = g

    none : false ≡ true → P x
    none w = absurd (clash w)
      where
        clash : false ≡ true → ⊥
        clash v = cc

    go : (n u : Bool) → is_in names x ≡ n → is_in unclosed x ≡ u → (n && not u) ≡ true → P x
    go true true i j w = none w
    go true false i j w = pick j (h x i)
    go false u i j w = none w

is_closed_open : (s : Stored) → AllOpen (is_closed s) s
is_closed_open s i t e x h =
    let g = has_scope s i t e in
    open_or (is_in t.unclosed x) (is_in t.context.names x) (is_closed s x) h (λ w. any_at (closed_in s.cells x) s.scopes i (Some g.0) g.1 (ap (λ (u : Standing). closes u.context.names u.unclosed x) g.2 ∙ w))

is_closed_has : (P : ℕ → Type 0) (s : Stored) → AllOpenTo P s → (x : ℕ) → is_closed s x ≡ true → P x
is_closed_has P s all x e = let a = some_at (closed_in s.cells x) s.scopes e in go a.0 a.1 a.2 a.3
  where
    clash : false ≡ true → ⊥
    clash w = cc

    go : (i : ℕ) (o : Option Scope) → slice_get s.scopes i ≡ Some o → closed_in s.cells x o ≡ true → P x
    go i None q w = absurd (clash w)
    go i (Some scope) q w = closed_has P (standing s.cells scope).context.names (standing s.cells scope).unclosed x (all i (standing s.cells scope) (standing_is s i scope q)) w

-- a test that the closed names pass, and that tells the property
pub closed_test : (P : ℕ → Type 0) (s : Stored) → AllOpenTo P s → (p : ℕ → Bool) × AllOpen p s × ((x : ℕ) → p x ≡ true → P x)
closed_test P s all = (is_closed s, is_closed_open s, is_closed_has P s all)

either_true : (a b : Bool) → (a || b) ≡ true → (a ≡ true) ⊎ (b ≡ true)
either_true true b e = inl refl
either_true false b e = inr e

-- the same, where a declaration binds names
pub closed_test_with : (P : ℕ → Type 0) (s : Stored) (names unclosed : List ℕ) → AllOpenTo P s → AreOpenTo P names unclosed → (p : ℕ → Bool) × AllOpen p s × AreOpen p names unclosed × ((x : ℕ) → p x ≡ true → P x)
closed_test_with P s names unclosed all here = (
  λ x. is_closed s x || closes names unclosed x,
  λ i t e x h. weaker (is_in t.unclosed x) (is_closed s x) (closes names unclosed x) (is_closed_open s i t e x h),
  λ x h. open_or (is_in unclosed x) (is_in names x) (is_closed s x || closes names unclosed x) h (λ w. second (is_closed s x) (closes names unclosed x) w),
  λ x e. pick x (either_true (is_closed s x) (closes names unclosed x) e),
)
  where
    weaker : (a b c : Bool) → (a || b) ≡ true → (a || (b || c)) ≡ true
    weaker true b c e = refl
    weaker false true c e = refl
    weaker false false c e = cc

    second : (b c : Bool) → c ≡ true → (b || c) ≡ true
    second true c e = refl
    second false c e = e

    pick : (x : ℕ) → (is_closed s x ≡ true) ⊎ (closes names unclosed x ≡ true) → P x
    pick x (inl e) = is_closed_has P s all x e
    pick x (inr e) = closed_has P names unclosed x here e

-- what passes a test has what the test tells
pub open_to : (P : ℕ → Type 0) (p : ℕ → Bool) (names unclosed : List ℕ) → ((x : ℕ) → p x ≡ true → P x) → AreOpen p names unclosed → AreOpenTo P names unclosed
open_to P p names unclosed f h x e = go (either_true (is_in unclosed x) (p x) (h x e))
  where
    go : (is_in unclosed x ≡ true) ⊎ (p x ≡ true) → (is_in unclosed x ≡ true) ⊎ P x
    go (inl w) = inl w
    go (inr w) = inr (f x w)

pub all_open_to : (P : ℕ → Type 0) (p : ℕ → Bool) (s : Stored) → ((x : ℕ) → p x ≡ true → P x) → AllOpen p s → AllOpenTo P s
all_open_to P p s f h i t e = open_to P p t.context.names t.unclosed f (h i t e)
