-- One scope more, and from one to another that has a name more or less.
use Rattle.std.proofs.Common.{◌≡◌, ◌≢◌, ℕ, zero, suc, ◌+◌, ◌≤◌, ◌<◌, Bool, true, false, List, [], ◌∷◌, ◌++◌, Some, None, cond, nat_eq, length, refl, sym, ap, ◌∙◌, subst, arith, ⊎_elim, length-set, length-append, eq-eqb, eqb-true}
use Rattle.std.specs.Prelude.{slice_get, slice_set}
use Rattle.std.proofs.lemmas.Bool.{cases_lt}
use Rattle.std.proofs.lemmas.List.{get_or-set_same, get_or-set_other}
use Rattle.std.proofs.lemmas.Option.{slice_get_within, slice_get-get_or, unwrap_or-slice_get}
use Rattle.simulation.proofs.Heaps.{eq_cases}
use Rattle.simulation.proofs.Lists.{get_append, get_split, get_last, some_eq}
use Rattle.cps_ir.specs.declared.atom.Atom.{Atom}
use Rattle.cps_ir.specs.State.{bind}
use Rattle.convert_scopes.specs.declared.scopes.Bound.{Bound}
use Rattle.convert_scopes.specs.Scopes.{Scopes, nothing, atom_in, IsScope, empty, more, IsBound, AreScopes, bound_of, IsNext}

neqb : (a b : ℕ) → a ≢ b → nat_eq a b ≡ false
neqb a b n = by (nat_eq a b) refl
  where
    by : (c : Bool) → nat_eq a b ≡ c → nat_eq a b ≡ false
    by true e = absurd (n (eqb-true a b e))
    by false e = e

bind_same : (σ : ℕ → Atom) (x : ℕ) (a : Atom) → bind σ x a x ≡ a
bind_same σ x a = ap (λ t. cond t a (σ x)) (eq-eqb x x refl)

bind_other : (σ : ℕ → Atom) (x : ℕ) (a : Atom) (y : ℕ) → y ≢ x → bind σ x a y ≡ σ y
bind_other σ x a y n = ap (λ t. cond t a (σ y)) (neqb y x n)

-- an atom that the name has anyway
bind_again : (σ : ℕ → Atom) (x : ℕ) (a : Atom) → a ≡ σ x → (y : ℕ) → bind σ x a y ≡ σ y
bind_again σ x a e y =
    ⊎_elim (λ (h : y ≡ x). subst (λ z. bind σ x a z ≡ σ z) (sym h) (bind_same σ x a ∙ e)) (λ (n : y ≢ x). bind_other σ x a y n) (eq_cases y x)

-- ---- Tables

set_at : (table : List Atom) (name : ℕ) (a : Atom) (σ : ℕ → Atom) → name < length table → ((x : ℕ) → x ≢ name → atom_in table x ≡ σ x) → (x : ℕ) → atom_in (slice_set table name a) x ≡ bind σ name a x
set_at table name a σ within others x = ⊎_elim (λ (e : x ≡ name). subst (λ y. atom_in (slice_set table name a) y ≡ bind σ name a y) (sym e) there) other (eq_cases x name)
  where
    there : atom_in (slice_set table name a) name ≡ bind σ name a name
    there =
        unwrap_or-slice_get (slice_set table name a) name nothing ∙ get_or-set_same table name a nothing within ∙ sym (bind_same σ name a)

    other : x ≢ name → atom_in (slice_set table name a) x ≡ bind σ name a x
    other n =
        unwrap_or-slice_get (slice_set table name a) x nothing
        ∙ get_or-set_other table name x a nothing n
        ∙ sym (unwrap_or-slice_get table x nothing)
        ∙ others x n
        ∙ sym (bind_other σ name a x n)

-- ---- Scopes by number

abbrev pub view : List Bound → List Atom → ℕ → Scopes
view bounds table present = record { bounds = bounds; table = table; present = present }

pub grows : (bounds : List Bound) (n : Bound) (v : ℕ) (σ : ℕ → Atom) → IsScope bounds v σ → IsScope (bounds ++ n ∷ []) v σ
grows bounds n _ _ empty = empty
grows bounds n _ _ (more v b τ e s) = more v b τ (get_append bounds (n ∷ []) v b e) (grows bounds n b.inside τ s)

back : (bounds : List Bound) (n : Bound) (v : ℕ) (b : Bound) → v < length bounds → slice_get (bounds ++ n ∷ []) v ≡ Some b → slice_get bounds v ≡ Some b
back bounds n v b h e =
    ⊎_elim (λ x. x) (λ (o : (c : ℕ) × (v ≡ length bounds + c) × (slice_get (n ∷ []) c ≡ Some b)). absurd (omega (arith, h, o.1))) (get_split bounds (n ∷ []) v b e)

shrinks : (bounds : List Bound) (n : Bound) → ((v : ℕ) (b : Bound) → slice_get bounds v ≡ Some b → b.inside ≤ v) → (v : ℕ) (σ : ℕ → Atom) → v ≤ length bounds → IsScope (bounds ++ n ∷ []) v σ → IsScope bounds v σ
shrinks bounds n earlier _ _ h empty = empty
shrinks bounds n earlier _ _ h (more v b τ e s) =
    let here = back bounds n v b (omega (arith, h)) e in
    more v b τ here (shrinks bounds n earlier b.inside τ (omega (arith, h, earlier v b here)) s)

-- what an atom in a table is, in a scope that has this name more
abbrev Has : List Bound → List Atom → ℕ → Bound → Type 0
Has bounds table x b =
    (τ : ℕ → Atom) → IsScope bounds b.inside τ → atom_in table x ≡ bind τ b.name.0 b.atom x

by_last : (bounds : List Bound) (table : List Atom) (v : ℕ) (n : Bound) → slice_get bounds v ≡ Some n → (x : ℕ) → Has bounds table x n → (p : ℕ) (σ : ℕ → Atom) → p ≡ suc v → IsScope bounds p σ → atom_in table x ≡ σ x
by_last bounds table v n here x has _ _ q empty = absurd (omega (arith, q))
by_last bounds table v n here x has _ _ q (more w b τ e s) =
    let same : w ≡ v = omega (arith, q) in
    some_eq (Has bounds table x) n b (sym here ∙ ap (slice_get bounds) (sym same) ∙ e) has τ s

bounds_set : (bounds : List Bound) (table : List Atom) (name : ℕ) (a : Atom) → ((v : ℕ) (b : Bound) → slice_get bounds v ≡ Some b → IsBound bounds (length table) v b) → (v : ℕ) (b : Bound) → slice_get bounds v ≡ Some b → IsBound bounds (length (slice_set table name a)) v b
bounds_set bounds table name a all v b e =
    subst (λ m. IsBound bounds m v b) (sym (length-set table name a)) (all v b e)

-- out of a scope
pub left : (bounds : List Bound) (table : List Atom) (v : ℕ) (b : Bound) → AreScopes (view bounds table (suc v)) → slice_get bounds v ≡ Some b → AreScopes (view bounds (slice_set table b.name.0 b.before) b.inside)
left bounds table v b ok e = record {
  stands = omega (arith, ok.stands, (ok.bound v b e).earlier);
  bound = bounds_set bounds table b.name.0 b.before ok.bound;
  here =
      λ σ s x.
      set_at table b.name.0 b.before σ (ok.bound v b e).within (λ y n. ok.here (bind σ b.name.0 b.atom) (more v b σ e s) y ∙ bind_other σ b.name.0 b.atom y n) x
      ∙ bind_again σ b.name.0 b.before ((ok.bound v b e).before σ s) x;
}

-- into a scope
pub entered : (bounds : List Bound) (table : List Atom) (v : ℕ) (b : Bound) → AreScopes (view bounds table b.inside) → slice_get bounds v ≡ Some b → AreScopes (view bounds (slice_set table b.name.0 b.atom) (suc v))
entered bounds table v b ok e = record {
  stands = omega (arith, slice_get_within bounds v b e);
  bound = bounds_set bounds table b.name.0 b.atom ok.bound;
  here =
      λ σ s x.
      by_last bounds (slice_set table b.name.0 b.atom) v b e x (λ τ t. set_at table b.name.0 b.atom τ (ok.bound v b e).within (λ y n. ok.here τ t y) x) (suc v) σ refl s;
}

-- a new scope
pub bound_more : (bounds : List Bound) (table : List Atom) (n : Bound) → AreScopes (view bounds table n.inside) → n.name.0 < length table → ((σ : ℕ → Atom) → IsScope bounds n.inside σ → n.before ≡ σ n.name.0) → AreScopes (view (bounds ++ n ∷ []) (slice_set table n.name.0 n.atom) (suc (length bounds)))
bound_more bounds table n ok within before = record {
  stands = omega (arith, length-append bounds (n ∷ []));
  bound = λ v b e. subst (λ m. IsBound (bounds ++ n ∷ []) m v b) (sym (length-set table n.name.0 n.atom)) (each v b e);
  here =
      λ σ s x.
      by_last (bounds ++ n ∷ []) (slice_set table n.name.0 n.atom) (length bounds) n (get_last bounds n) x (λ τ t. set_at table n.name.0 n.atom τ within (λ y m. ok.here τ (down τ t) y) x) (suc (length bounds)) σ refl s;
}
  where
    earlier : (v : ℕ) (b : Bound) → slice_get bounds v ≡ Some b → b.inside ≤ v
    earlier v b e = (ok.bound v b e).earlier

    down : (τ : ℕ → Atom) → IsScope (bounds ++ n ∷ []) n.inside τ → IsScope bounds n.inside τ
    down τ t = shrinks bounds n earlier n.inside τ ok.stands t

    old : (v : ℕ) (b : Bound) → slice_get bounds v ≡ Some b → IsBound (bounds ++ n ∷ []) (length table) v b
    old v b e =
        let known = ok.bound v b e in
        record {
          earlier = known.earlier;
          within = known.within;
          before = λ σ s. known.before σ (shrinks bounds n earlier b.inside σ (omega (arith, known.earlier, slice_get_within bounds v b e)) s);
        }

    new : IsBound (bounds ++ n ∷ []) (length table) (length bounds) n
    new = record { earlier = ok.stands; within = within; before = λ σ s. before σ (down σ s) }

    each : (v : ℕ) (b : Bound) → slice_get (bounds ++ n ∷ []) v ≡ Some b → IsBound (bounds ++ n ∷ []) (length table) v b
    each v b e =
        ⊎_elim (λ (h : v < length bounds). old v b (back bounds n v b h e)) (λ (h : length bounds ≤ v).
        let last : v ≡ length bounds = omega (arith, h, slice_get_within (bounds ++ n ∷ []) v b e, length-append bounds (n ∷ [])) in
        some_eq (IsBound (bounds ++ n ∷ []) (length table) v) n b (sym (get_last bounds n) ∙ ap (slice_get (bounds ++ n ∷ [])) (sym last) ∙ e) (subst (λ w. IsBound (bounds ++ n ∷ []) (length table) w n) (sym last) new)) (cases_lt v (length bounds))

-- ---- By the number of a scope

pub left_at : (bounds : List Bound) (table : List Atom) (present : ℕ) (b : Bound) → AreScopes (view bounds table present) → bound_of bounds present ≡ Some b → AreScopes (view bounds (slice_set table b.name.0 b.before) b.inside) × (b.name.0 < length table) × (b.inside < present)
left_at bounds table zero b ok e = absurd cc
left_at bounds table (suc v) b ok e =
    (left bounds table v b ok e, (ok.bound v b e).within, omega (arith, (ok.bound v b e).earlier))

pub entered_at : (bounds : List Bound) (table : List Atom) (next : ℕ) (b : Bound) → AreScopes (view bounds table b.inside) → bound_of bounds next ≡ Some b → AreScopes (view bounds (slice_set table b.name.0 b.atom) next) × (b.name.0 < length table)
entered_at bounds table zero b ok e = absurd cc
entered_at bounds table (suc v) b ok e = (entered bounds table v b ok e, (ok.bound v b e).within)

pub none_at : (bounds : List Bound) (table : List Atom) (present : ℕ) → AreScopes (view bounds table present) → 1 ≤ present → bound_of bounds present ≢ None
none_at bounds table zero ok h e = absurd (omega (arith, h))
none_at bounds table (suc v) ok h e =
    let there = slice_get-get_or bounds v nobody (omega (arith, ok.stands)) in absurd (cc)
  where
    nobody : Bound
    nobody = record { inside = 0; name = record { 0 = 0 }; atom = nothing; before = nothing }

pub as_view : (bs ds : List Bound) (t u : List Atom) (p q : ℕ) → bs ≡ ds → t ≡ u → p ≡ q → AreScopes (view ds u q) → AreScopes (view bs t p)
as_view bs ds t u p q eb et ep ok =
    subst AreScopes (sym (ap (λ x. view x t p) eb ∙ ap (λ x. view ds x p) et ∙ ap (view ds u) ep)) ok

pub entered_next : (bounds : List Bound) (table : List Atom) (present next : ℕ) (b : Bound) → AreScopes (view bounds table present) → IsNext bounds present next → bound_of bounds next ≡ Some b → AreScopes (view bounds (slice_set table b.name.0 b.atom) next) × (b.name.0 < length table)
entered_next bounds table present next b ok n e =
    let on : b.inside ≡ present = some_eq (λ x. x.inside ≡ present) n.bound b (sym n.is ∙ e) n.on in
    entered_at bounds table next b (subst (λ p. AreScopes (view bounds table p)) (sym on) ok) e

pub one_longer : (new bounds : List Bound) (n : Bound) → new ≡ bounds ++ n ∷ [] → length new ≡ suc (length bounds)
one_longer new bounds n e =
    let longer : length new ≡ length (bounds ++ n ∷ []) = ap length e in omega (arith, longer, length-append bounds (n ∷ []))
