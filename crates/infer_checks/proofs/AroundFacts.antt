-- Numbers of what stands open around, gathered.
use Rattle.std.proofs.Common.{◌≡◌, ℕ, ◌+◌, ◌<◌, Bool, true, false, List, [], ◌∷◌, ◌++◌, length, Option, Some, None, refl, sym, ap, ◌∙◌, subst, inl, inr, ◌⊎◌, nat_eq}
use Rattle.std.specs.Prelude.{◌||◌}
use Rattle.std.proofs.lemmas.Bool.{eq-eqb, eqb-true}
use Rattle.sml_tree.specs.declared.bare.Bare.{Bare}
use Rattle.sml_types.specs.declared.types.TyVar.{TyVar}
use Rattle.infer_state.specs.Typings.{var_at}
use Rattle.sml_types.specs.Tree.{Tree, inst, occurs}
use Rattle.sml_types.specs.Forms.{IsNumbered}
use Rattle.sml_types.specs.Poly.{Poly, Context, is_in}
use Rattle.sml_types.proofs.TreeFacts.{either, or_left, or_right}
use Rattle.sml_unify.specs.declared.resolve.Rename.{Rename}
use Rattle.sml_unify.specs.Solved.{Substitution, under}
use Rattle.sml_unify.specs.Resolve.{renamed}
use Rattle.infer_state.specs.declared.unknowns.Unknowns.{Unknowns}
use Rattle.infer_state.specs.declared.declared.Starts.{Starts}
use Rattle.infer_state.specs.Variables.{AreLaidOut}
use Rattle.infer_closing.specs.Closing.{meaning}
use Rattle.infer_checks.specs.Checked.{ending}
use Rattle.infer_checks.specs.Ending.{Lists, IsOpenType, IsOpenTypeAmong, IsOpenNumber, IsOpenName, IsOpenNameAmong, IsSettledOrOwn, IsOpenAround, IsListed, AreOpenAround, IsKept, IsNewAround, IsOutside, MayBeNew, Decides}
use Rattle.infer_checks.proofs.Free.{closed_none}
use Rattle.infer_closing.specs.Open.{closed_at, is_closed}
use Rattle.infer_closing.proofs.Laws.{at_in}
use Rattle.infer_scopes.specs.Scopes.{AreOpen}
use Rattle.std.specs.List.{AllByRecursion}
use Rattle.infer_checks.proofs.KnownFacts.{name_at}
use Rattle.infer_checks.proofs.OpenFacts.{lists_both, in_append}

-- the numbers of a name's type
pub name_lists : (p : Bare) (u : Unknowns) (starts : Starts) (renames : List Rename) (x i : ℕ) (xs : List ℕ) → IsNumbered u.types → AreLaidOut p u.types starts → x < length p.names → i ≡ starts.names + x → Lists (λ a. occurs a (inst (renamed renames) (under u.types (meaning u) i)) ≡ true) xs → Lists (IsOpenType p (ending u renames) x) xs
name_lists p u starts renames x i xs numbered laid l e h =
    let is = name_at p u.types starts (meaning u) numbered laid x i l e in
    record {
      all = λ a o. h.all a (ap (λ (t : Tree). occurs a (inst (renamed renames) t)) is ∙ o);
      only = λ a o. sym (ap (λ (t : Tree). occurs a (inst (renamed renames) t)) is) ∙ h.only a o;
    }

-- one more name, with the numbers for which something holds
pub among_step : (P : ℕ → ℕ → Type 0) (names : List ℕ) (x : ℕ) (xs ys : List ℕ) → Lists (λ a. (y : ℕ) × (is_in names y ≡ true) × P y a) xs → Lists (P x) ys → Lists (λ a. (y : ℕ) × (is_in (names ++ x ∷ []) y ≡ true) × P y a) (xs ++ ys)
among_step P names x xs ys h k = lists_both (λ a. (y : ℕ) × (is_in names y ≡ true) × P y a) (P x) (λ a. (y : ℕ) × (is_in (names ++ x ∷ []) y ≡ true) × P y a) xs ys h k (λ a r. to a r.0 r.1 r.2) (λ a r. from a r)
  where
    to : (a y : ℕ) → is_in (names ++ x ∷ []) y ≡ true → P y a → ((z : ℕ) × (is_in names z ≡ true) × P z a) ⊎ P x a
    to a y e o =
        either
        (is_in names y)
        (is_in (x ∷ []) y)
        (((z : ℕ) × (is_in names z ≡ true) × P z a) ⊎ P x a)
        (sym (in_append names (x ∷ []) y) ∙ e)
        (λ q. inl (y, q, o))
        (λ q. either (nat_eq y x) false (((z : ℕ) × (is_in names z ≡ true) × P z a) ⊎ P x a) q (λ z. inr (subst (λ k. P k a) (eqb-true y x z) o)) (λ z. cc))

    from : (a : ℕ) → ((z : ℕ) × (is_in names z ≡ true) × P z a) ⊎ P x a → (y : ℕ) × (is_in (names ++ x ∷ []) y ≡ true) × P y a
    from a (inl (y, e, o)) = (y, in_append names (x ∷ []) y ∙ or_left (is_in names y) (is_in (x ∷ []) y) e, o)
    from a (inr o) = (x, in_append names (x ∷ []) x ∙ or_right (is_in names x) (is_in (x ∷ []) x) (ap (λ b. b || false) (eq-eqb x x refl)), o)

some_eq : (q r : Poly) → Some q ≡ Some r → q ≡ r
some_eq q r e = cc

-- what a settled name leaves open is what its scheme does
pub open_lists : (known : ℕ → Option Poly) (f : Substitution) (x : ℕ) (q : Poly) (xs : List ℕ) → known x ≡ Some q → Lists (IsOpenNumber f q) xs → Lists (IsOpenName known f x) xs
open_lists known f x q xs e h =
    record {
      all = λ a o. h.all a (subst (λ r. IsOpenNumber f r a) (some_eq o.0 q (sym o.1 ∙ e)) o.2);
      only = λ a i. (q, e, h.only a i);
    }

-- what stands open around, from the names that are declared there and those that may leave something open
pub around_of : (p : Bare) (known : ℕ → Option Poly) (f : Substitution) (c : Context) (own names xs ys : List ℕ) → own ≡ c.own → AllByRecursion (λ x. is_in c.names x ≡ true) own → AllByRecursion (λ x. x < length p.names) own → Lists (IsOpenTypeAmong p f own) xs → AreOpen (closed_at known) c.names names → AllByRecursion (λ x. is_in c.names x ≡ true) names → AllByRecursion (IsSettledOrOwn known c) names → Lists (IsOpenNameAmong known f names) ys → AreOpenAround p known f c (xs ++ ys)
around_of p known f c own names xs ys same own_bound few own_lists all bound settled lists =
    record {
      own = λ x e a o. in_append xs ys a ∙ or_left (is_in xs a) (is_in ys a) (own_lists.all a (x, ap (λ (zs : List ℕ). is_in zs x) same ∙ e, o));
      settled = λ x e o. either (is_in names x) (closed_at known x) (IsListed p known f c (xs ++ ys) x) (all x e) (λ q. named x q (at_in (IsSettledOrOwn known c) names x settled q o)) (λ q. closed x (known x) refl q);
      only = λ a e. either (is_in xs a) (is_in ys a) (IsOpenAround p known f c a) (sym (in_append xs ys a) ∙ e) (λ q. from_own a (own_lists.only a q)) (λ q. from_names a (lists.only a q));
    }
  where
    named : (x : ℕ) → is_in names x ≡ true → (q : Poly) × (known x ≡ Some q) → IsListed p known f c (xs ++ ys) x
    named x i (q, e) = (q, e, λ a o. in_append xs ys a ∙ or_right (is_in xs a) (is_in ys a) (lists.all a (x, i, (q, e, o))))

    closed : (x : ℕ) (o : Option Poly) → known x ≡ o → is_closed o ≡ true → IsListed p known f c (xs ++ ys) x
    closed x None e h = cc
    closed x (Some q) e h = (q, e, λ a o. absurd (closed_none f q a h o))

    from_own : (a : ℕ) → IsOpenTypeAmong p f own a → IsOpenAround p known f c a
    from_own a (x, i, o) = (x, at_in (λ y. is_in c.names y ≡ true) own x own_bound i, inl (sym (ap (λ (zs : List ℕ). is_in zs x) same) ∙ i, at_in (λ y. y < length p.names) own x few i, o))

    from_names : (a : ℕ) → IsOpenNameAmong known f names a → IsOpenAround p known f c a
    from_names a (x, i, o) = (x, at_in (λ y. is_in c.names y ≡ true) names x bound i, inr o)

-- ---- What is new

-- variables that are kept apart from what stands open and from the explicit type variables are new
pub new_all : (p : Bare) (known : ℕ → Option Poly) (f : Substitution) (c : Context) (renames : List Rename) (os ts : List ℕ) (vs : List TyVar) → ts ≡ c.tyvars → AreOpenAround p known f c os → AllByRecursion (IsKept f renames os) vs → AllByRecursion (IsKept f renames ts) vs → AllByRecursion (λ v. IsNewAround p known f c (var_at v (f v)).num) vs
new_all p known f c renames os ts [] e around h k = tt
new_all p known f c renames os ts (v ∷ vs) e around h k = (
  (os, around, sym (ap (λ (xs : List ℕ). is_in xs (var_at v (f v)).num) e) ∙ k.0.out, h.0.out),
  new_all p known f c renames os ts vs e around h.1 k.1,
)

pub outside_new : (p : Bare) (known : ℕ → Option Poly) (f : Substitution) (c : Context) (os ts us : List ℕ) → ts ≡ c.tyvars → AreOpenAround p known f c os → (b : Bool) → Decides (AllByRecursion (IsOutside os ts) us) (AllByRecursion (λ u. u < length p.tyvars → IsOutside os ts u) us) b → Decides (AllByRecursion (IsNewAround p known f c) us) (AllByRecursion (MayBeNew p known f c) us) b
outside_new p known f c os ts us e around true h = all us h
  where
    all : (xs : List ℕ) → AllByRecursion (IsOutside os ts) xs → AllByRecursion (IsNewAround p known f c) xs
    all [] k = tt
    all (x ∷ xs) k = ((os, around, sym (ap (λ (zs : List ℕ). is_in zs x) e) ∙ k.0.1, k.0.0), all xs k.1)
outside_new p known f c os ts us e around false h = λ k. h (all us k)
  where
    not_in : (x : ℕ) (b : Bool) → is_in os x ≡ b → (IsOpenAround p known f c x → ⊥) → b ≡ false
    not_in x true q n = absurd (n (around.only x q))
    not_in x false q n = refl

    all : (xs : List ℕ) → AllByRecursion (MayBeNew p known f c) xs → AllByRecursion (λ u. u < length p.tyvars → IsOutside os ts u) xs
    all [] k = tt
    all (x ∷ xs) k = ((λ l. (not_in x (is_in os x) refl (k.0 l).1, ap (λ (zs : List ℕ). is_in zs x) e ∙ (k.0 l).0)), all xs k.1)
