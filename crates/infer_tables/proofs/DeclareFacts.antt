-- From the start over all nodes to the whole.
use Rattle.std.proofs.Common.{◌≡◌, ℕ, zero, suc, ◌+◌, ◌-◌, ◌<◌, ◌≤◌, Bool, true, false, List, [], ◌∷◌, length, take, Some, None, refl, sym, ap, ◌∙◌, arith, subst, inl, nat_lt}
use Rattle.std.specs.Prelude.{slice_get}
use Rattle.std.specs.List.{AllByRecursion}
use Rattle.std.proofs.lemmas.Bool.{ltb-true, lt-ltb}
use Rattle.sml_tree.specs.declared.bare.Bare.{Bare}
use Rattle.sml_tree.specs.declared.bare.Node.{Node}
use Rattle.sml_tree.specs.declared.bare.Node.TheVariants as node
use Rattle.sml_types.specs.declared.types.Ty.{Ty}
use Rattle.sml_types.specs.declared.types.TyVar.{TyVar}
use Rattle.sml_types.specs.declared.types.TyForm.{TyForm}
use Rattle.sml_types.specs.declared.types.TyForm.TheVariants.{Var}
use Rattle.sml_types.specs.declared.scheme.Scheme.{Scheme}
use Rattle.sml_types.specs.declared.tables.TypeName.{TypeName}
use Rattle.sml_types.specs.Tree.{Tree, Variable, admits}
use Rattle.sml_types.specs.Forms.{trees, tree, IsNumbered}
use Rattle.sml_types.specs.Poly.{Context}
use Rattle.sml_types.specs.Library.{NameType, name_type, name_types, library, library_names}
use Rattle.sml_types.specs.TypeExps.{explicit}
use Rattle.sml_types.specs.Typing.{Typing, made_below, library_param, IsTypedNode, IsTypingBelow}
use Rattle.sml_types.proofs.FormFacts.{tree_form}
use Rattle.sml_unify.specs.Solved.{Substitution, AreBindings, Respects, meant, rounds}
use Rattle.sml_unify.specs.Steps.{IsLonger, AreBelow}
use Rattle.infer_parts.specs.LibraryRows.{library_forms, library_rows}
use Rattle.infer_parts.specs.Written.{AreAbbreviations, IsClosedScheme}
use Rattle.infer_state.specs.declared.declared.Starts.{Starts}
use Rattle.infer_state.specs.declared.unknowns.Unknowns.{Unknowns}
use Rattle.infer_state.specs.Variables.{first_node, first_name, first_new, node_var, name_var, AreLaidOut}
use Rattle.infer_state.specs.Fits.{Fits}
use Rattle.infer_tables.specs.declared.known.Known.{Known}
use Rattle.infer_tables.specs.Declare.{IsTypeDeclaration, IsClosedRow, IsDeclared}
use Rattle.infer_tables.specs.Checks.{AreBareTypes}
use Rattle.infer_tables.specs.Known.{IsScope, HasSoFar, Asks, IsStep, IsAnswer}
use Rattle.infer_tables.specs.Starts.{IsStarted}
use Rattle.infer_tables.proofs.Lists.{some_eq, at_all, all_mono, within}
use Rattle.infer_tables.proofs.BindingFacts.{row_same, row_longer}
use Rattle.infer_tables.proofs.GroupFacts.{from_get}

unknowns_is : (a b : Unknowns) → a.types ≡ b.types → a.subst.bound ≡ b.subst.bound → a.next ≡ b.next → a ≡ b
unknowns_is a b e q r =
    ap (λ ts. record { types = ts; subst = record { bound = a.subst.bound }; next = a.next }) e
    ∙ ap (λ bs. record { types = b.types; subst = record { bound = bs }; next = a.next }) q
    ∙ ap (λ n. record { types = b.types; subst = record { bound = b.subst.bound }; next = n }) r

-- ---- Nodes

typed : (p : Bare) (t : Typing) (n : Node) → IsTypeDeclaration n → Asks p t n → (c : Context) (ty : Tree) → IsTypedNode p t c ty [] n
typed p t (node.Type bs) d a c ty = (a, refl)
typed p t (node.Datatype bs) d a c ty = (a.0, a.1, refl)
typed p t _ d a c ty = absurd d

asks_of : (p : Bare) (t : Typing) (n : Node) (c : Context) (ty : Tree) (bs : List ℕ) → IsTypedNode p t c ty bs n → Asks p t n
asks_of p t (node.Type bs) c ty xs h = h.0
asks_of p t (node.Datatype bs) c ty xs h = (h.0, h.1)
asks_of p t _ c ty xs h = tt

get_take : {A : Type 0} (xs : List A) (count i : ℕ) (x : A) → i < count → slice_get xs i ≡ Some x → slice_get (take count xs) i ≡ Some x
get_take [] count i x l e = cc
get_take (y ∷ xs) zero i x l e = absurd (omega arith)
get_take (y ∷ xs) (suc count) zero x l e = e
get_take (y ∷ xs) (suc count) (suc i) x l e = get_take xs count i x (omega arith) e

get_taken : {A : Type 0} (xs : List A) (count i : ℕ) (x : A) → slice_get (take count xs) i ≡ Some x → (i < count) × (slice_get xs i ≡ Some x)
get_taken [] zero i x e = cc
get_taken [] (suc count) i x e = cc
get_taken (y ∷ xs) zero i x e = cc
get_taken (y ∷ xs) (suc count) zero x e = (omega arith, e)
get_taken (y ∷ xs) (suc count) (suc i) x e = let r = get_taken xs count i x e in ((let l = r.0 in omega arith), r.1)

all_ask : (p : Bare) (t : Typing) (count : ℕ) → IsTypingBelow p t count → AllByRecursion (Asks p t) (take count p.nodes)
all_ask p t count b =
    from_get (Asks p t) (take count p.nodes) (λ i n e. let r = get_taken p.nodes count i n e in asks_of p t n (t.contexts i) (t.types i) (t.binds i) (b.rules i n r.0 r.1))

-- ---- Rows

types_at : (forms : List TyForm) (names : List TypeName) (n : ℕ) (row : TypeName) → slice_get names n ≡ Some row → slice_get (name_types forms names) n ≡ Some (name_type forms row)
types_at forms [] n row e = cc
types_at forms (r ∷ names) zero row e = ap (λ x. Some (name_type forms x)) (some_eq r row e)
types_at forms (r ∷ names) (suc n) row e = types_at forms names n row e

types_back : (forms : List TyForm) (names : List TypeName) (n : ℕ) (q : NameType) → slice_get (name_types forms names) n ≡ Some q → (row : TypeName) × (slice_get names n ≡ Some row) × (name_type forms row ≡ q)
types_back forms [] n q e = cc
types_back forms (r ∷ names) zero q e = (r, refl, some_eq (name_type forms r) q e)
types_back forms (r ∷ names) (suc n) q e = types_back forms names n q e

types_same : (fa fb : List TyForm) (names others : List TypeName) → length others ≡ length names → ((n : ℕ) (row : TypeName) → slice_get names n ≡ Some row → (other : TypeName) × (slice_get others n ≡ Some other) × (name_type fb other ≡ name_type fa row)) → name_types fb others ≡ name_types fa names
types_same fa fb [] [] c h = refl
types_same fa fb [] (o ∷ others) c h = absurd (omega arith)
types_same fa fb (r ∷ names) [] c h = absurd (omega arith)
types_same fa fb (r ∷ names) (o ∷ others) c h =
    let first = h 0 r refl in
    let same : o ≡ first.0 = some_eq o first.0 first.1 in
    ap (λ q. q ∷ name_types fb others) (ap (name_type fb) same ∙ first.2) ∙ ap (λ qs. name_type fa r ∷ qs) (types_same fa fb names others (omega arith) (λ n row e. h (suc n) row e))

-- the first items of a longer list
front_is : (fa fb : List TyForm) (names others : List TypeName) → ((n : ℕ) (row : TypeName) → slice_get names n ≡ Some row → (other : TypeName) × (slice_get others n ≡ Some other) × (name_type fb other ≡ name_type fa row)) → take (length names) (name_types fb others) ≡ name_types fa names
front_is fa fb [] [] h = refl
front_is fa fb [] (o ∷ others) h = refl
front_is fa fb (r ∷ names) [] h = let first = h 0 r refl in let e = first.1 in cc
front_is fa fb (r ∷ names) (o ∷ others) h =
    let first = h 0 r refl in
    let same : o ≡ first.0 = some_eq o first.0 first.1 in
    ap (λ q. q ∷ take (length names) (name_types fb others)) (ap (name_type fb) same ∙ first.2) ∙ ap (λ qs. name_type fa r ∷ qs) (front_is fa fb names others (λ n row e. h (suc n) row e))

-- ---- The library

library_is : (a : TyVar) → name_types (library_forms a) (library_rows a) ≡ library a
unfolding trees tree
library_is a = refl

library_closed : (a : TyVar) → AllByRecursion (IsClosedRow (library_forms a)) (library_rows a)
unfolding trees tree
library_closed a = (
  record { apart = tt; arguments = tt },
  (
    record { apart = tt; arguments = tt },
    (
      record { apart = tt; arguments = tt },
      (
        record { apart = tt; arguments = tt },
        (
          record { apart = tt; arguments = (tt, (tt, tt)) },
          (
            record { apart = (refl, tt); arguments = (tt, (((let l : 2 < 3 = omega arith in l), (inl refl, ((inl refl, tt), tt))), tt)) },
            (
              record { apart = (refl, tt); arguments = (tt, (((let l : 0 < 3 = omega arith in l), inl refl), tt)) },
              (
                record { apart = tt; arguments = (tt, (tt, (tt, tt))) },
                (
                  record { apart = (refl, tt); arguments = (((let l : 0 < 3 = omega arith in l), inl refl), tt) },
                  (record { apart = tt; arguments = tt }, tt),
                ),
              ),
            ),
          ),
        ),
      ),
    ),
  ),
)

-- ---- The start

module _ (p : Bare) (types : AreBareTypes p) (forms : List TyForm) (k : Known) (starts : Starts) (next : ℕ) (numbered : IsNumbered forms) (s : IsStarted p forms k starts next) where
  abbrev param : TyVar
  param = library_param p

  stand_there : (u : ℕ) (t : Ty) → slice_get k.stands u ≡ Some t → slice_get forms t.0 ≡ Some (Var (explicit p.tyvars u))
  stand_there u t e =
      let l = within k.stands u t e in
      let c = s.stands in
      ap (slice_get forms) (s.row u t e) ∙ s.laid.explicit_ones u (omega arith)

  rows_same : (n : ℕ) (row : TypeName) → slice_get (library_rows param) n ≡ Some row → name_type forms row ≡ name_type (library_forms param) row
  rows_same n row e = row_same (library_forms param) forms row s.library (at_all (IsClosedRow (library_forms param)) (library_rows param) n row (library_closed param) e)

  pub scope_started : IsScope p forms k
  scope_started =
      record {
        types = types;
        stands = s.stands;
        there = from_get (λ (t : Ty). t.0 < length forms) k.stands (λ u t e. within forms t.0 (Var (explicit p.tyvars u)) (stand_there u t e));
        explicit_ones = λ u t e. tree_form forms t.0 (Var (explicit p.tyvars u)) numbered (stand_there u t e);
        closed = subst (AllByRecursion (IsClosedScheme forms)) (sym s.none) tt;
        made = λ i x e. let z : None ≡ Some x = ap (λ (xs : List Scheme). slice_get xs i) (sym s.none) ∙ e in cc;
        rows = subst (AllByRecursion (IsClosedRow forms)) (sym s.names) (all_mono (IsClosedRow (library_forms param)) (IsClosedRow forms) (library_rows param) (λ r h. row_longer (library_forms param) forms r s.library h) (library_closed param));
      }

  pub has_started : (t : Typing) (count : ℕ) → IsTypingBelow p t count → HasSoFar forms k t
  has_started t count b =
      record {
        rows = λ n row e.
            let mine : slice_get (library_rows param) n ≡ Some row = ap (λ ns. slice_get ns n) (sym s.names) ∙ e in
            let rows : take 10 (name_types t.forms t.names) ≡ name_types (library_forms param) (library_rows param) = b.library.rows ∙ ap library b.parameter ∙ sym (library_is param) in
            let here = ap (λ qs. slice_get qs n) rows ∙ types_at (library_forms param) (library_rows param) n row mine in
            let o = types_back t.forms t.names n (name_type (library_forms param) row) (get_taken (name_types t.forms t.names) 10 n (name_type (library_forms param) row) here).1 in
            (o.0, o.1, o.2 ∙ sym (rows_same n row mine));
        abbreviations = λ i x e. let z : None ≡ Some x = ap (λ (xs : List Scheme). slice_get xs i) (sym s.none) ∙ e in cc;
      }

  -- ---- The end

  abbrev All : ℕ → Typing → Type 0
  All count t = AllByRecursion (Asks p t) (take count p.nodes)

  pub refused : (count : ℕ) (after : List TyForm) → IsAnswer p (All count) (length (made_below p.nodes count)) forms k after None → (t : Typing) → IsTypingBelow p t count → ⊥
  refused count after h t b = h t (has_started t count b) (all_ask p t count b)

  module _ (count : ℕ) (after : List TyForm) (k2 : Known) (step : IsStep p (All count) (length (made_below p.nodes count)) forms k after k2) where
    below_after : AreBelow after next
    below_after i v e = let x = step.vars i v e in let l = s.below x.0 v x.1 in let c = s.counter in omega arith

    names_count : length k2.tables.names ≡ length library_names + length (made_below p.nodes count)
    names_count = step.count ∙ ap (λ (ns : List TypeName). length ns + length (made_below p.nodes count)) s.names

    begins : take 10 (name_types after k2.tables.names) ≡ library param
    begins =
        front_is (library_forms param) after (library_rows param) k2.tables.names one ∙ library_is param
      where
        one : (n : ℕ) (row : TypeName) → slice_get (library_rows param) n ≡ Some row → (other : TypeName) × (slice_get k2.tables.names n ≡ Some other) × (name_type after other ≡ name_type (library_forms param) row)
        one n row e =
            let closed = at_all (IsClosedRow (library_forms param)) (library_rows param) n row (library_closed param) e in
            (row, step.extends.names n row (ap (λ ns. slice_get ns n) s.names ∙ e), row_same forms after row step.longer (row_longer (library_forms param) forms row s.library closed) ∙ rows_same n row e)

    laid_after : AreLaidOut p after starts
    laid_after =
        record {
          explicit_ones = λ u l. step.longer.keeps (starts.explicit + u) (Var (explicit p.tyvars u)) (s.laid.explicit_ones u l);
          of_nodes = λ i l. step.longer.keeps (starts.nodes + i) (Var (node_var p i)) (s.laid.of_nodes i l);
          of_names = λ x l. step.longer.keeps (starts.names + x) (Var (name_var p x)) (s.laid.of_names x l);
          few = s.laid.few;
          few_nodes = s.laid.few_nodes;
          few_names = s.laid.few_names;
        }

    sound_after : (t : Typing) → IsLonger after t.forms → t.names ≡ k2.tables.names → AreAbbreviations t.forms k2.abbreviations t.abbreviations → (i : ℕ) (n : Node) → i < count → slice_get p.nodes i ≡ Some n → IsTypeDeclaration n → (c : Context) (ty : Tree) → IsTypedNode p t c ty [] n
    sound_after t l e ab i n lt q d c ty =
        let all = step.sound t (record { longer = l; rows = λ m row w. ap (λ ns. slice_get ns m) e ∙ w; abbreviations = ab }) in
        typed p t n d (at_all (Asks p t) (take count p.nodes) i n all (get_take p.nodes count i n lt q)) c ty

    complete_after : (t : Typing) → IsTypingBelow p t count → HasSoFar after k2 t
    complete_after t b = step.complete t (has_started t count b) (all_ask p t count b)

    tables_after : (t : Typing) → IsTypingBelow p t count → name_types t.forms t.names ≡ name_types after k2.tables.names
    tables_after t b = types_same after t.forms k2.tables.names t.names (b.declared ∙ sym names_count) (complete_after t b).rows

    -- ---- The starting substitution

    by_name : Typing → TyVar → Bool → Tree
    by_name t v true = (t.schemes (v.num - first_name p)).body
    by_name t v false = Variable v

    by_node : Typing → TyVar → Bool → Tree
    by_node t v true = t.types (v.num - first_node p)
    by_node t v false = by_name t v (nat_lt v.num (first_new p))

    by_explicit : Typing → TyVar → Bool → Tree
    by_explicit t v true = Variable v
    by_explicit t v false = by_node t v (nat_lt v.num (first_name p))

    starting : Typing → Substitution
    starting t v = by_explicit t v (nat_lt v.num (first_node p))

    not_less : (a b : ℕ) → b ≤ a → nat_lt a b ≡ false
    not_less a b l = by (nat_lt a b) refl
      where
        by : (w : Bool) → nat_lt a b ≡ w → w ≡ false
        by true e = let m = ltb-true a b e in absurd (omega arith)
        by false e = refl

    explicit_stay : (t : Typing) (v : TyVar) → v.num < first_node p → starting t v ≡ Variable v
    unfolding starting by_explicit
    explicit_stay t v l = ap (by_explicit t v) (lt-ltb v.num (first_node p) l)

    fits : (t : Typing) → Fits p t (starting t)
    unfolding starting by_explicit by_node by_name
    fits t =
        record {
          explicit_ones = λ u l. explicit_stay t (explicit p.tyvars u) (omega arith);
          of_nodes = λ i l.
              let v : TyVar = node_var p i in
              ap (by_explicit t v) (not_less v.num (first_node p) (omega arith))
              ∙ ap (by_node t v) (lt-ltb v.num (first_name p) (omega arith))
              ∙ ap t.types (let z : first_node p + i - first_node p ≡ i = omega arith in z);
          of_names = λ x l.
              let v : TyVar = name_var p x in
              ap (by_explicit t v) (not_less v.num (first_node p) (omega arith))
              ∙ ap (by_node t v) (not_less v.num (first_name p) (omega arith))
              ∙ ap (by_name t v) (lt-ltb v.num (first_new p) (omega arith))
              ∙ ap (λ y. (t.schemes y).body) (let z : first_name p + x - first_name p ≡ x = omega arith in z);
        }

    keeps_marks : (t : Typing) → Respects k2.tables.names after (starting t)
    keeps_marks t i v e m =
        let x = step.vars i v e in
        let l = s.marked x.0 v x.1 m in
        ap (admits k2.tables.names) (explicit_stay t v (omega arith)) ∙ m

    identity : (v : TyVar) → meant after [] v ≡ Variable v
    unfolding meant rounds
    identity v = refl

    pub declared : (u : Unknowns) → u.types ≡ after → u.subst.bound ≡ [] → AreBindings after u.subst.bound → u.next ≡ next → IsDeclared p count (record { tables = k2.tables; abbreviations = k2.abbreviations; starts = starts }) u
    declared u e none bindings n =
        subst (λ (x : Unknowns). IsDeclared p count (record { tables = k2.tables; abbreviations = k2.abbreviations; starts = starts }) x) (unknowns_is (record { types = after; subst = record { bound = [] }; next = next }) u (sym e) (sym none) (sym n))
        (record {
          state =
              record {
                bindings = subst (AreBindings after) none bindings;
                below = below_after;
                short = omega arith;
                marks = λ i v q m. ap (admits k2.tables.names) (identity v) ∙ m;
              };
          unbound = refl;
          next = s.counter;
          laid = laid_after;
          library = record { param = param; plain = refl; rows = begins };
          parameter = refl;
          made = names_count;
          rows = step.scope.rows;
          abbreviations = step.scope.closed;
          sound = sound_after;
          complete = λ t b. record { rows = tables_after t b; abbreviations = (complete_after t b).abbreviations };
          start = λ t b. (starting t, fits t, record { marks = keeps_marks t; solves = λ i v x q w. cc });
        })
