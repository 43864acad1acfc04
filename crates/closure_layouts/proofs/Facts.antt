-- What is found for a function is its layout.
use Rattle.std.proofs.Common.{◌≡◌, ℕ, zero, suc, ◌+◌, ◌<◌, ◌≤◌, Bool, true, false, List, [], ◌∷◌, ◌++◌, Option, Some, length, map, take, inl, inr, refl, sym, ap, ◌∙◌, subst, arith}
use Rattle.std.specs.Prelude.{nat_eq, nat_lt, cond, not, filter, ◌&&◌, ◌||◌, count_by, slice_index_or, if◌then◌else◌}
use Rattle.std.proofs.lemmas.List.{map_more}
use Rattle.std.proofs.lemmas.List.Sums.{sum_by-cons}
use Rattle.smlc_base.specs.declared.point.Point.{Point}
use Rattle.smlc_base.specs.declared.point.PointKind.{PointKind}
use Rattle.smlc_base.specs.declared.point.PointKind.TheVariants as kind
use Rattle.smlc_base.specs.Points.{is_point, is_same_kind}
use Rattle.simulation.specs.Blocks.{IsAmong}
use Rattle.sml_tree.specs.Order.{rank}
use Rattle.sml_tree.specs.Sets.{has, without, union_over, row_at}
use Rattle.sml_tree.proofs.Members.{has-union_over}
use Rattle.cps_ir.specs.Code.{Code}
use Rattle.cps_ir.specs.Slim.{Layout, layouts}
use Rattle.cps_free.specs.Same.{AreSame}
use Rattle.lifetime_users.specs.declared.class.Class.{Class}
use Rattle.lifetime_users.specs.Users.{label_in, classes}
use Rattle.close_laws.specs.Layouts.{Facts, facts, closed_names, values, layout_at, name_in, free_in, in_class, classes_of}
use Rattle.closure_layouts.specs.declared.layouts.ClosureLayout.{ClosureLayout}
use Rattle.closure_layouts.specs.Tables.{AreClassRows}
use Rattle.closure_layouts.specs.Found.{PointedOnce, closure_at, found_layout}

-- ---- The function of a point

kind_self : (k : PointKind) → is_same_kind k k ≡ true
kind_self kind.Fn = refl
kind_self kind.Ret = refl
kind_self kind.Caught = refl
kind_self kind.Popped = refl
kind_self kind.Eq = refl

point_self : (p : Point) → is_point p p ≡ true
point_self p = let e : nat_eq p.node p.node ≡ true = grind arith in ap (λ b. b && is_same_kind p.kind p.kind) e ∙ kind_self p.kind

found_at : (l : Layout) (ls : List Layout) → ((k : Layout) → IsAmong k ls → is_point k.point l.point ≡ true → k ≡ l) → IsAmong l ls → layout_at ls l.point ≡ Some l
found_at l [] once m = absurd m
found_at l (k ∷ ls) once m = by (is_point k.point l.point) refl m (found_at l ls (λ j n. once j (inr n)))
  where
    by : (b : Bool) → is_point k.point l.point ≡ b → IsAmong l (k ∷ ls) → (IsAmong l ls → layout_at ls l.point ≡ Some l) → cond b (Some k) (layout_at ls l.point) ≡ Some l
    by true e n later = ap Some (once k (inl refl) e)
    by false e (inl same) later = absurd (let f : false ≡ true = sym e ∙ ap (λ (j : Layout). is_point j.point l.point) (sym same) ∙ point_self l.point in cc)
    by false e (inr n) later = later n

-- ---- Labels are below the number of functions

counted : {X : Type 0} (p : X → Bool) (x : X) (xs : List X) → count_by p (x ∷ xs) ≡ cond {A = ℕ} (p x) 1 0 + count_by p xs
counted p x xs = sum_by-cons (λ y. cond (p y) 1 0) x xs

one : (b : Bool) → cond {A = ℕ} b 1 0 ≤ 1
one true = omega arith
one false = omega arith

at_most : (p : Layout → Bool) (ls : List Layout) → count_by p ls ≤ length ls
at_most p [] = omega arith
at_most p (l ∷ ls) = let a = counted p l ls in let b = one (p l) in omega (arith, a, b, at_most p ls)

fewer : (p : Layout → Bool) (l : Layout) (ls : List Layout) → IsAmong l ls → p l ≡ false → count_by p ls < length ls
fewer p l [] m e = absurd m
fewer p l (k ∷ ls) (inl same) e =
    let a = counted p k ls in
    let f : cond {A = ℕ} (p k) 1 0 ≡ 0 = ap (λ b. cond {A = ℕ} b 1 0) (ap p (sym same) ∙ e) in
    omega (arith, a, f, at_most p ls)
fewer p l (k ∷ ls) (inr m) e = let a = counted p k ls in let b = one (p k) in omega (arith, a, b, fewer p l ls m e)

pub label_low : (all : List Layout) (l : Layout) → IsAmong l all → label_in all l.point < length all
label_low all l m = fewer (λ k. nat_lt (rank k.point) (rank l.point)) l all m (let e : nat_lt (rank l.point) (rank l.point) ≡ false = grind arith in e)

-- ---- The layout

filter_same : (f g : ℕ → Bool) (xs : List ℕ) → ((x : ℕ) → f x ≡ g x) → filter f xs ≡ filter g xs
filter_same f g [] h = refl
filter_same f g (x ∷ xs) h = ap (λ b. if b then x ∷ filter f xs else filter f xs) (h x) ∙ ap (λ zs. if g x then x ∷ zs else zs) (filter_same f g xs h)

module _ (A : Facts) where
  -- the layout of a point with this function
  abbrev of : Point → Option Layout → ClosureLayout
  of p o = record {
    is_static = has A.closed (name_in o);
    has_code = has A.values (name_in o);
    classes = cond (has A.closed (name_in o)) [] (classes_of 0 (label_in A.all p) A.classes);
    own = cond (has A.closed (name_in o)) [] (filter (λ x. not (in_class A.classes x)) (without (free_in o) (name_in o ∷ A.closed)));
  }

  of_point : (p : Point) → closure_at A p ≡ of p (layout_at A.all p)
  of_point p = refl

  abbrev made : Bool → Bool → List ℕ → List ℕ → ClosureLayout
  made a b ks xs = record { is_static = a; has_code = b; classes = ks; own = xs }

  pub found_is : PointedOnce A.all → (l : Layout) → IsAmong l A.all → (closed vals shared row : List ℕ) → AreSame closed A.closed → AreSame vals A.values → AreSame shared (union_over (λ (k : Class). k.vars) A.classes) → row ≡ classes_of 0 (label_in A.all l.point) A.classes → found_layout closed vals shared row l ≡ closure_at A l.point
  found_is once l m closed vals shared row c v s r =
      ap (λ b. made b (has vals l.name) (cond b [] row) (cond b [] (filter (λ x. not (has shared x)) (without l.free (l.name ∷ closed))))) (c l.name)
      ∙ ap (λ b. made (has A.closed l.name) b (cond (has A.closed l.name) [] row) (cond (has A.closed l.name) [] (filter (λ x. not (has shared x)) (without l.free (l.name ∷ closed))))) (v l.name)
      ∙ ap (λ ks. made (has A.closed l.name) (has A.values l.name) (cond (has A.closed l.name) [] ks) (cond (has A.closed l.name) [] (filter (λ x. not (has shared x)) (without l.free (l.name ∷ closed))))) r
      ∙ ap (λ xs. made (has A.closed l.name) (has A.values l.name) (cond (has A.closed l.name) [] (classes_of 0 (label_in A.all l.point) A.classes)) (cond (has A.closed l.name) [] xs)) held
      ∙ sym (ap (of l.point) (found_at l A.all (λ k n e. once k l n m e) m))
    where
      held : filter (λ x. not (has shared x)) (without l.free (l.name ∷ closed)) ≡ filter (λ x. not (in_class A.classes x)) (without l.free (l.name ∷ A.closed))
      held =
          filter_same (λ x. not (has shared x)) (λ x. not (in_class A.classes x)) (without l.free (l.name ∷ closed)) (λ x. ap not (s x ∙ has-union_over (λ (k : Class). k.vars) A.classes x))
          ∙ ap (filter (λ x. not (in_class A.classes x))) (filter_same (λ x. not (has (l.name ∷ closed) x)) (λ x. not (has (l.name ∷ A.closed) x)) l.free (λ x. ap (λ b. not (nat_eq x l.name || b)) (c x)))

pub among_at : (ls : List Layout) (i : ℕ) (d : Layout) → i < length ls → IsAmong (slice_index_or ls i d) ls
among_at [] i d h = absurd (omega (arith, h))
among_at (l ∷ ls) zero d h = inl refl
among_at (l ∷ ls) (suc i) d h = inr (among_at ls i d (omega (arith, h)))

-- one function more
pub layout_more : (c : Code) (fresh i label : ℕ) (all : List Layout) (cls : List Class) (d l : Layout) (closed vals shared row : List ℕ) (rows : List (List ℕ)) (k : ClosureLayout) (old new : List ClosureLayout) → i < length all → l ≡ slice_index_or all i d → all ≡ layouts c → PointedOnce all → AreSame closed (closed_names (layouts c)) → AreSame vals (values c) → cls ≡ classes c → AreSame shared (union_over (λ (j : Class). j.vars) cls) → AreClassRows cls (length all) rows → label ≡ label_in all l.point → row ≡ row_at rows label → k ≡ found_layout closed vals shared row l → old ≡ map (λ (j : Layout). closure_at (facts fresh c) j.point) (take i all) → new ≡ old ++ k ∷ [] → new ≡ map (λ (j : Layout). closure_at (facts fresh c) j.point) (take (i + 1) all)
layout_more c fresh i label all cls d l closed vals shared row rows k old new lt e ea once cs vs ec sh rs el er ek eo en =
    en ∙ ap (λ ks. ks ++ k ∷ []) eo ∙ ap (λ j. map F (take i all) ++ j ∷ []) (ek ∙ here ∙ ap (λ A. closure_at A l.point) same ∙ ap F e)
    ∙ sym (map_more F all i d lt)
  where
    F : Layout → ClosureLayout
    F j = closure_at (facts fresh c) j.point

    same : record { all = all; closed = closed_names (layouts c); values = values c; classes = cls; fresh = fresh } ≡ facts fresh c
    same =
        ap (λ ls. record { all = ls; closed = closed_names (layouts c); values = values c; classes = cls; fresh = fresh }) ea
        ∙ ap (λ ks. record { all = layouts c; closed = closed_names (layouts c); values = values c; classes = ks; fresh = fresh }) ec

    among : IsAmong l all
    among = subst (λ (j : Layout). IsAmong j all) (sym e) (among_at all i d lt)

    low : label < length all
    low = subst (λ n. n < length all) (sym el) (label_low all l among)

    here : found_layout closed vals shared row l ≡ closure_at (record { all = all; closed = closed_names (layouts c); values = values c; classes = cls; fresh = fresh }) l.point
    here =
        found_is (record { all = all; closed = closed_names (layouts c); values = values c; classes = cls; fresh = fresh }) once l among closed vals shared row cs vs sh
        (er ∙ rs.at label low ∙ ap (λ n. classes_of 0 n cls) el)
