-- What is made only grows, and a refusal stays.
use Rattle.std.proofs.Common.{◌≡◌, ℕ, suc, ◌<◌, ◌≤◌, ◌+◌, ◌==◌, ◌&&◌, List, [], ◌∷◌, ◌++◌, length, refl, subst, Option, Some, None, arith}
use Rattle.std.specs.Prelude.{slice_index, fold}
use Rattle.std.specs.List.{AllByRecursion}
use Rattle.std.proofs.lemmas.List.{length-append}
use Rattle.smlc_base.specs.declared.refusal.Refusal.{Refusal}
use Rattle.sml_tree.specs.declared.bare.TypeExp.{TypeExp}
use Rattle.sml_tree.specs.declared.bare.TypeExp.TheVariants as type
use Rattle.sml_expansion.specs.declared.made.Made.{Made}
use Rattle.sml_expansion.specs.Makings.{breaks, new_name, new_type, new_tyvar}
use Rattle.sml_expansion.specs.Refusals.{kept}
use Rattle.sml_expansion.specs.Scopes.{Scope}
use Rattle.sml_tree.proofs.Unfold.{all_map}
use Rattle.expansion_laws.proofs.Contexts.{Context, ScopeIn}
use Rattle.expansion_laws.proofs.Forms.{Sizes, Quiet, Names}

-- the parts of type i stand before it, and its variable is one of so many
abbrev pub TypeIn : ℕ → ℕ → TypeExp → Type 0
TypeIn vars i (type.Var v) = v < vars
TypeIn vars i (type.Record fields) = AllByRecursion (λ f. f.ty < i) fields
TypeIn vars i (type.Arrow a b) = (a < i) × (b < i)
TypeIn vars i (type.Named t args) = AllByRecursion (λ a. a < i) args
TypeIn vars i (type.Abbreviation t args) = AllByRecursion (λ a. a < i) args
TypeIn vars i (type.UnitOf args) = AllByRecursion (λ a. a < i) args

pub type_in_more : (v w i : ℕ) (t : TypeExp) → v ≤ w → TypeIn v i t → TypeIn w i t
type_in_more v w i (type.Var x) le h = omega (arith, le, h)
type_in_more v w i (type.Record fields) le h = h
type_in_more v w i (type.Arrow a b) le h = h
type_in_more v w i (type.Named t args) le h = h
type_in_more v w i (type.Abbreviation t args) le h = h
type_in_more v w i (type.UnitOf args) le h = h

-- each type from number i on
abbrev pub TypesFrom : ℕ → ℕ → List TypeExp → Type 0
TypesFrom vars i [] = Unit {0}
TypesFrom vars i (t ∷ types) = TypeIn vars i t × TypesFrom vars (suc i) types

pub types_from_more : (v w i : ℕ) (ts : List TypeExp) → v ≤ w → TypesFrom v i ts → TypesFrom w i ts
types_from_more v w i [] le h = tt
types_from_more v w i (t ∷ ts) le h = (type_in_more v w i t le h.0, types_from_more v w (suc i) ts le h.1)

pub types_from_behind : (v i : ℕ) (ts : List TypeExp) (t : TypeExp) → TypesFrom v i ts → TypeIn v (i + length ts) t → TypesFrom v i (ts ++ t ∷ [])
types_from_behind v i [] t h k = let e : i + 0 ≡ i = omega arith in (subst (λ j. TypeIn v j t) e k, tt)
types_from_behind v i (x ∷ ts) t h k =
    let e : i + suc (length ts) ≡ suc i + length ts = omega arith in
    (h.0, types_from_behind v (suc i) ts t h.1 (subst (λ j. TypeIn v j t) e k))

abbrev pub TypesStand : Made → Type 0
TypesStand m = TypesFrom (length m.tyvars) 0 m.types

pub record Grows (m n : Made) : Type 0 where
  pub kept : n.refusal ≡ None → m.refusal ≡ None
  pub types : length m.types ≤ length n.types
  pub tyvars : length m.tyvars ≤ length n.tyvars
  pub stand : TypesStand m → TypesStand n

pub grows_same : (m : Made) → Grows m m
grows_same m = record { kept = λ e. e; types = omega arith; tyvars = omega arith; stand = λ h. h }

pub grows_both : {m k n : Made} → Grows m k → Grows k n → Grows m n
grows_both {m} {k} {n} a b = record {
  kept = λ e. a.kept (b.kept e);
  types = let x = a.types in let y = b.types in omega (arith, x, y);
  tyvars = let x = a.tyvars in let y = b.tyvars in omega (arith, x, y);
  stand = λ h. b.stand (a.stand h);
}

-- a refusal that is kept stays
fold_some : (rs : List Refusal) (r : Refusal) → fold kept (Some r) rs ≡ None → ⊥
fold_some [] r e = cc
fold_some (x ∷ rs) r e = fold_some rs _ e

pub nothing_broken : (o : Option Refusal) (rs : List Refusal) → fold kept o rs ≡ None → (o ≡ None) × (rs ≡ [])
nothing_broken (Some r) rs e = absurd (fold_some rs r e)
nothing_broken None [] e = (refl, refl)
nothing_broken None (x ∷ rs) e = absurd (fold_some rs x e)

pub breaks_grows : (rs : List Refusal) (m : Made) → Grows m (breaks rs m).1
breaks_grows rs m = record { kept = λ e. (nothing_broken m.refusal rs e).0; types = omega arith; tyvars = omega arith; stand = λ h. h }

pub breaks_quiet : (rs : List Refusal) (m : Made) → Quiet m (breaks rs m).1
breaks_quiet rs m = record { names = refl; datas = refl }

pub breaks_nothing : (rs : List Refusal) (m : Made) → (breaks rs m).1.refusal ≡ None → rs ≡ []
breaks_nothing rs m e = (nothing_broken m.refusal rs e).1

pub name_grows : (text : List ℕ) (m : Made) → Grows m (new_name text m).1
name_grows text m = record { kept = λ e. e; types = omega arith; tyvars = omega arith; stand = λ h. h }

one_more : {A : Type 0} (xs : List A) (x : A) → length (xs ++ x ∷ []) ≡ length xs + 1
one_more xs x = length-append xs (x ∷ [])

pub name_names : (text : List ℕ) (m : Made) → Names m (length m.names ∷ []) (new_name text m).1
name_names text m = record { from = (refl, tt); names = one_more m.names text; datas = refl }

pub type_grows : (t : TypeExp) (m : Made) → TypeIn (length m.tyvars) (length m.types) t → Grows m (new_type t m).1
type_grows t m h = record {
  kept = λ e. e;
  types = let e : length (m.types ++ t ∷ []) ≡ length m.types + 1 = one_more m.types t in omega (arith, e);
  tyvars = omega arith;
  stand = λ s. types_from_behind (length m.tyvars) 0 m.types t s (let e : length m.types ≡ 0 + length m.types = omega arith in subst (λ j. TypeIn (length m.tyvars) j t) e h);
}

pub type_number : (t : TypeExp) (m : Made) → length m.types < length (new_type t m).1.types
type_number t m = let e : length (m.types ++ t ∷ []) ≡ length m.types + 1 = one_more m.types t in omega (arith, e)

pub tyvar_grows : (text : List ℕ) (m : Made) → Grows m (new_tyvar text m).1
tyvar_grows text m =
    let b = slice_index text 0 == 39 && slice_index text 1 == 39 in
    let e : length (m.tyvars ++ b ∷ []) ≡ length m.tyvars + 1 = one_more m.tyvars b in
    let le : length m.tyvars ≤ length (m.tyvars ++ b ∷ []) = omega (arith, e) in
    record { kept = λ e. e; types = omega arith; tyvars = le; stand = λ s. types_from_more (length m.tyvars) (length (m.tyvars ++ b ∷ [])) 0 m.types le s }

pub tyvar_number : (text : List ℕ) (m : Made) → length m.tyvars < length (new_tyvar text m).1.tyvars
tyvar_number text m =
    let b = slice_index text 0 == 39 && slice_index text 1 == 39 in
    let e : length (m.tyvars ++ b ∷ []) ≡ length m.tyvars + 1 = one_more m.tyvars b in
    omega (arith, e)

-- ---- What holds at the end, if no rule is broken

abbrev pub TyvarsIn : Scope → Made → Type 0
TyvarsIn s m = AllByRecursion (λ v. v.1 < length m.tyvars) s.tyvars

pub tyvars_on : {m n : Made} (vs : List (ℕ × ℕ)) → Grows m n → AllByRecursion (λ v. v.1 < length m.tyvars) vs → AllByRecursion (λ v. v.1 < length n.tyvars) vs
tyvars_on {m} {n} vs g h = let y = g.tyvars in all_map (λ v x. omega (arith, x, y)) vs h

pub record Ends (z : Sizes) (n : Made) : Type 0 where
  pub kept : n.refusal ≡ None
  pub types : length n.types ≤ z.types
  pub tyvars : length n.tyvars ≤ z.tyvars

pub ends_back : {z : Sizes} {m n : Made} → Grows m n → Ends z n → Ends z m
ends_back {z} {m} {n} g e = record {
  kept = g.kept e.kept;
  types = let x = g.types in let y = e.types in omega (arith, x, y);
  tyvars = let x = g.tyvars in let y = e.tyvars in omega (arith, x, y);
}

-- a step from m to n, which says J of each context that has what the scope has
pub record Done (z : Sizes) (s : Scope) (m n : Made) (J : Context → Type 0) : Type 0 where
  pub grows : Grows m n
  pub says : Ends z n → (g : Context) → ScopeIn g s → J g

pub done_same : {z : Sizes} {s : Scope} {m : Made} {J : Context → Type 0} → ((g : Context) → ScopeIn g s → J g) → Done z s m m J
done_same {m = m} f = record { grows = grows_same m; says = λ e g v. f g v }

pub done_so : {z : Sizes} {s : Scope} {m n : Made} {J K : Context → Type 0} → Done z s m n J → ((g : Context) → ScopeIn g s → J g → K g) → Done z s m n K
done_so d f = record { grows = d.grows; says = λ e g v. f g v (d.says e g v) }

pub done_both : {z : Sizes} {s : Scope} {m k n : Made} {J K L : Context → Type 0} → TyvarsIn s m → Done z s m k J → (TyvarsIn s k → Done z s k n K) → ((g : Context) → J g → K g → L g) → Done z s m n L
done_both {s = s} v d f c =
    let e = f (tyvars_on s.tyvars d.grows v) in
    record { grows = grows_both d.grows e.grows; says = λ x g i. c g (d.says (ends_back e.grows x) g i) (e.says x g i) }

-- a step before, of which nothing is said
pub done_behind : {z : Sizes} {s : Scope} {m k n : Made} {J K : Context → Type 0} → TyvarsIn s m → Grows m k → (TyvarsIn s k → Done z s k n J) → (Ends z k → (g : Context) → J g → K g) → Done z s m n K
done_behind {s = s} v d f c =
    let e = f (tyvars_on s.tyvars d v) in
    record { grows = grows_both d e.grows; says = λ x g i. c (ends_back e.grows x) g (e.says x g i) }

-- and one after
pub done_before : {z : Sizes} {s : Scope} {m k n : Made} {J K : Context → Type 0} → Done z s m k J → Grows k n → (Ends z n → (g : Context) → J g → K g) → Done z s m n K
done_before d e c = record { grows = grows_both d.grows e; says = λ x g i. c x g (d.says (ends_back e x) g i) }
