-- Types are made of parts that stand before them.
use Rattle.std.proofs.Common.{◌≡◌, ℕ, ◌<◌, true, false, List, [], ◌∷◌, ◌++◌, length, refl, subst, ◌∙◌, Option, Some, None, arith}
use Rattle.std.specs.Prelude.{Bool, get_or, nat_eq, if◌then◌else◌}
use Rattle.std.specs.List.{AllByRecursion}
use Rattle.smlc_base.specs.declared.place.Place.{Place}
use Rattle.sml_tree.specs.declared.bare.Lab.{Lab}
use Rattle.sml_tree.specs.declared.bare.TypeExp.{TypeExp}
use Rattle.sml_tree.specs.declared.bare.TypeExp.TheVariants as type
use Rattle.sml_expansion.specs.declared.made.Made.{Made}
use Rattle.sml_expansion.specs.declared.meaning.TypeMeaning.{TypeMeaning}
use Rattle.sml_expansion.specs.declared.meaning.TypeMeaning.TheVariants.{TypeName, Abbreviation, EmptyRecord}
use Rattle.sml_expansion.specs.declared.scope.Ident.{Ident}
use Rattle.sml_expansion.specs.Makings.{breaks, new_type}
use Rattle.sml_expansion.specs.Scoped.{latest}
use Rattle.sml_expansion.specs.Scopes.{Scope, ident, type_meaning_of}
use Rattle.sml_expansion.specs.Terms.{Term}
use Rattle.sml_expansion.specs.Labels.{numbers, doubles, lab_eq}
use Rattle.sml_expansion.specs.Types.{types, type_of, fields_of, type_fields, constructed, variable_at, record_type, labels, labels_in}
use Rattle.smlc_base.specs.declared.refusal.Refusal.TheVariants as refusal
use Rattle.expansion_laws.proofs.Forms.{Quiet}
use Rattle.expansion_laws.proofs.Growing.{TypeIn, Grows, grows_same, grows_both, type_grows, type_number, breaks_grows, TyvarsIn, tyvars_on}
use Rattle.expansion_laws.proofs.Kinded.{Kind, Kinded, Ty, Tys, TyRows, ty_var, ty_con, long_ty_con, empty_record_ty, paren_ty, record_ty, arrow, product, con_ty, seq_con_ty, one_ty, more_factors, more_tys, ty_row, more_ty_rows}
use Rattle.sml_tree.proofs.Unfold.{all_map}

pub quiet_same : (m : Made) → Quiet m m
quiet_same m = record { names = refl; datas = refl }

pub quiet_both : {m k n : Made} → Quiet m k → Quiet k n → Quiet m n
quiet_both a b = record { names = b.names ∙ a.names; datas = b.datas ∙ a.datas }

-- from m to n types were made with these numbers
pub record Typed (m n : Made) (xs : List ℕ) : Type 0 where
  pub grows : Grows m n
  pub quiet : Quiet m n
  pub all : AllByRecursion (λ x. x < length n.types) xs

pub all_both : {A : Type 0} (P : A → Type 0) (xs ys : List A) → AllByRecursion P xs → AllByRecursion P ys → AllByRecursion P (xs ++ ys)
all_both P [] ys a b = b
all_both P (x ∷ xs) ys a b = (a.0, all_both P xs ys a.1 b)

types_on : {m n : Made} → Grows m n → (xs : List ℕ) → AllByRecursion (λ x. x < length m.types) xs → AllByRecursion (λ x. x < length n.types) xs
types_on {m} {n} g xs h = let y = g.types in all_map (λ x k. omega (arith, k, y)) xs h

no_types : (m : Made) → Typed m m []
no_types m = record { grows = grows_same m; quiet = quiet_same m; all = tt }

typed_both : {m k n : Made} {xs ys : List ℕ} → Typed m k xs → Typed k n ys → Typed m n (xs ++ ys)
typed_both {n = n} {xs = xs} {ys = ys} a b = record { grows = grows_both a.grows b.grows; quiet = quiet_both a.quiet b.quiet; all = all_both (λ x. x < length n.types) xs ys (types_on b.grows xs a.all) b.all }

typed_new : {m k : Made} {xs : List ℕ} (t : TypeExp) → Typed m k xs → TypeIn (length k.tyvars) (length k.types) t → Typed m (new_type t k).1 (length k.types ∷ [])
typed_new {m} {k} t a h = record { grows = grows_both a.grows (type_grows t k h); quiet = quiet_both a.quiet (record { names = refl; datas = refl }); all = (type_number t k, tt) }

typed_fields : (i : ℕ) (all labs : List Lab) (xs : List ℕ) → AllByRecursion (λ x. x < i) xs → AllByRecursion (λ f. f.ty < i) (fields_of all labs xs)
typed_fields i all [] xs h = tt
typed_fields i all (l ∷ labs) [] h = tt
typed_fields i all (l ∷ labs) (x ∷ xs) h = (h.0, typed_fields i all labs xs h.1)

typed_breaks : {m k : Made} {xs : List ℕ} (rs : List _) → Typed m k xs → Typed m (breaks rs k).1 xs
typed_breaks {m} {k} {xs} rs a = record { grows = grows_both a.grows (breaks_grows rs k); quiet = quiet_both a.quiet (record { names = refl; datas = refl }); all = a.all }

typed_constructed : {m k : Made} {xs : List ℕ} (o : Option TypeMeaning) (i : Ident) → Typed m k xs → let r = constructed o i xs k in Typed m r.1 (r.0 ∷ [])
typed_constructed {xs = xs} (Some (TypeName n)) i a = typed_new (type.Named n xs) a a.all
typed_constructed {xs = xs} (Some (Abbreviation n)) i a = typed_new (type.Abbreviation n xs) a a.all
typed_constructed {xs = []} (Some EmptyRecord) i a = typed_new (type.Record []) a tt
typed_constructed {xs = t ∷ xs} (Some EmptyRecord) i a = typed_new (type.UnitOf (t ∷ xs)) a a.all
typed_constructed {xs = xs} None i a = typed_new (type.Record []) (typed_breaks (refusal.Unbound i.place ∷ []) a) tt

first_of_one : {n : ℕ} (xs ys : List ℕ) → length xs ≡ 1 → length ys ≡ 1 → AllByRecursion (λ x. x < n) (xs ++ ys) → (get_or (xs ++ ys) 0 0 < n) × (get_or (xs ++ ys) 1 0 < n)
first_of_one [] ys e f h = cc
first_of_one (x ∷ []) [] e f h = cc
first_of_one (x ∷ []) (y ∷ ys) e f h = (h.0, h.1.0)
first_of_one (x ∷ y ∷ xs) ys e f h = absurd (omega (arith, e))

typed_record : {m k : Made} {xs : List ℕ} (names : List (List ℕ)) (a : Term) → Typed m k xs → let r = record_type names a xs k in Typed m r.1 (r.0 ∷ [])
typed_record {xs = xs} names a d =
    typed_new (type.Record (type_fields (labels_in names a) xs)) (typed_breaks (doubles lab_eq [] (labels names a)) d) (typed_fields _ (labels_in names a) (labels_in names a) xs d.all)

typed_product : {m k : Made} {xs : List ℕ} → Typed m k xs → Typed m (new_type (type.Record (type_fields (numbers 0 (length xs)) xs)) k).1 (length k.types ∷ [])
typed_product {xs = xs} d = typed_new (type.Record (type_fields (numbers 0 (length xs)) xs)) d (typed_fields _ (numbers 0 (length xs)) (numbers 0 (length xs)) xs d.all)

typed_arrow : {m k : Made} (xs ys : List ℕ) → length xs ≡ 1 → length ys ≡ 1 → Typed m k (xs ++ ys) → Typed m (new_type (type.Arrow (get_or (xs ++ ys) 0 0) (get_or (xs ++ ys) 1 0)) k).1 (length k.types ∷ [])
typed_arrow xs ys e f d = typed_new (type.Arrow (get_or (xs ++ ys) 0 0) (get_or (xs ++ ys) 1 0)) d (first_of_one xs ys e f d.all)

latest_in : {n : ℕ} (vs : List (ℕ × ℕ)) (x : ℕ) → AllByRecursion (λ v. v.1 < n) vs → (k : ℕ) → latest vs x ≡ Some k → k < n
latest_in [] x h k e = cc
latest_in {n} (v ∷ vs) x h k e = go (nat_eq v.0 x) (latest_in vs x h.1 k) e
  where
    go : (b : Bool) → (latest vs x ≡ Some k → k < n) → (if b then Some v.1 else latest vs x) ≡ Some k → k < n
    go true f e = let same : v.1 ≡ k = cc in subst (λ y. y < n) same h.0
    go false f e = f e

typed_variable : (m : Made) (p : Place) (o : Option ℕ) → ((k : ℕ) → o ≡ Some k → k < length m.tyvars) → let r = variable_at o p m in Typed m r.1 (r.0 ∷ [])
typed_variable m p (Some k) h = typed_new (type.Var k) (no_types m) (h k refl)
typed_variable m p None h = typed_new (type.Record []) (typed_breaks (refusal.BadBinding p ∷ []) (no_types m)) tt

-- one type, or a list of them
abbrev pub TypesMade : Kind → Scope → Term → Type 0
TypesMade Ty s t = (m : Made) → TyvarsIn s m → let r = types s t m in Typed m r.1 r.0 × (length r.0 ≡ 1)
TypesMade Tys s t = (m : Made) → TyvarsIn s m → let r = types s t m in Typed m r.1 r.0
TypesMade TyRows s t = (m : Made) → TyvarsIn s m → let r = types s t m in Typed m r.1 r.0
TypesMade _ s t = Unit {0}

both_made : {m k : Made} {xs : List ℕ} (s : Scope) (t : Term) → TyvarsIn s m → Typed m k xs → (TyvarsIn s k → let r = types s t k in Typed k r.1 r.0) → let r = types s t k in Typed m r.1 (xs ++ r.0)
both_made s t v a f = typed_both a (f (tyvars_on s.tyvars a.grows v))

pub types_made : {texts : ℕ} (k : Kind) (s : Scope) (t : Term) → Kinded texts k t → TypesMade k s t
types_made k s t (ty_var x p) = λ m v. (typed_variable m p (latest s.tyvars x.0) (latest_in s.tyvars x.0 v), refl)
types_made k s t (ty_con x p) = λ m v. (typed_constructed (type_meaning_of s x.0) (ident s.names t) (no_types m), refl)
types_made k s t (long_ty_con x p) = λ m v. (typed_constructed (type_meaning_of s x.0) (ident s.names t) (no_types m), refl)
types_made k s t (empty_record_ty p) = λ m v. (typed_new (type.Record []) (no_types m) tt, refl)
types_made k s t (paren_ty p {a} h) = types_made Ty s a h
types_made k s t (record_ty p {a} h) = λ m v. (typed_record s.names a (types_made TyRows s a h m v), refl)
types_made k s t (arrow p {a} {b} h i) = λ m v.
    let d = types_made Ty s a h m v in
    let w = tyvars_on s.tyvars d.0.grows v in
    let e = types_made Ty s b i (types s a m).1 w in
    (typed_arrow (types s a m).0 (types s b (types s a m).1).0 d.1 e.1 (typed_both d.0 e.0), refl)
types_made k s t (product p {a} {b} h i) = λ m v.
    let d = types_made Ty s a h m v in
    (typed_product (both_made s b v d.0 (types_made Tys s b i (types s a m).1)), refl)
types_made k s t (con_ty p {a} c h) = λ m v. (typed_constructed (type_meaning_of s (ident s.names c).key) (ident s.names c) (types_made Ty s a h m v).0, refl)
types_made k s t (seq_con_ty p {a} {b} c h i) = λ m v.
    let d = types_made Ty s a h m v in
    (typed_constructed (type_meaning_of s (ident s.names c).key) (ident s.names c) (both_made s b v d.0 (types_made Tys s b i (types s a m).1)), refl)
types_made k s t (one_ty h) = λ m v. (types_made Ty s t h m v).0
types_made k s t (more_factors p {a} {b} h i) = λ m v. both_made s b v (types_made Ty s a h m v).0 (types_made Tys s b i (types s a m).1)
types_made k s t (more_tys p {a} {b} h i) = λ m v. both_made s b v (types_made Ty s a h m v).0 (types_made Tys s b i (types s a m).1)
types_made k s t (ty_row p l {t = u} h) = λ m v. (types_made Ty s u h m v).0
types_made k s t (more_ty_rows p {a} {b} h i) = λ m v. both_made s b v (types_made TyRows s a h m v) (types_made TyRows s b i (types s a m).1)
types_made k s t _ = tt

-- a type: what is made of it, and that its number is one of a type's
pub record TypeMade (m n : Made) (x : ℕ) : Type 0 where
  pub grows : Grows m n
  pub quiet : Quiet m n
  pub number : x < length n.types

first_in : {n : ℕ} (xs : List ℕ) → length xs ≡ 1 → AllByRecursion (λ x. x < n) xs → get_or xs 0 0 < n
first_in [] e h = cc
first_in (x ∷ xs) e h = h.0

pub type_made : {texts : ℕ} (s : Scope) (t : Term) → Kinded texts Ty t → (m : Made) → TyvarsIn s m → TypeMade m (type_of s t m).1 (type_of s t m).0
type_made s t h m v = let d = types_made Ty s t h m v in record { grows = d.0.grows; quiet = d.0.quiet; number = first_in (types s t m).0 d.1 d.0.all }
