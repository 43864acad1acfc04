-- The rules of a program are at most twice as large as its tree: a node of a pattern gives at most one test or name, and one way to go.
use Rattle.std.proofs.Common.{◌≡◌, ℕ, zero, suc, ◌+◌, ◌*◌, ◌<◌, ◌≤◌, Bool, true, false, List, [], ◌∷◌, ◌++◌, length, Option, Some, None, refl, sym, ap, ◌∙◌, subst, map, arith, length-append, ◌⊎◌, inl, inr, ⊎_elim}
use Rattle.std.proofs.lemmas.List.{length-map}
use Rattle.std.proofs.lemmas.List.Folds.{list_any-append}
use Rattle.std.proofs.lemmas.Option.{slice_get_past}
use Rattle.std.proofs.lemmas.Slice.Eq.{bytes_eq-Decides}
use Rattle.std.specs.Prelude.{slice_get, flat_map, bytes_eq, cond, ◌||◌}
use Rattle.std.specs.List.{AllByRecursion, list_any}
use Rattle.smlc_base.specs.declared.match_tests.Test.{Test}
use Rattle.smlc_base.specs.declared.match_tests.Named.{Named}
use Rattle.sml_tree.specs.declared.bare.Con.{Con}
use Rattle.sml_tree.specs.declared.bare.Con.TheVariants as con
use Rattle.sml_tree.specs.declared.bare.Node.{Node}
use Rattle.sml_tree.specs.declared.bare.Node.TheVariants as node
use Rattle.sml_tree.specs.declared.bare.Field.{Field}
use Rattle.sml_tree.specs.declared.bare.Rule.{Rule}
use Rattle.sml_tree.specs.declared.bare.Binding.{Binding}
use Rattle.sml_tree.specs.BareParts.{node_parts, at_node, within, IsNumbered}
use Rattle.sml_tree.specs.IsBare.{IsPreorder, HasSorts, IsOf, Pattern, sort_of, size}
use Rattle.sml_tree.proofs.Members.{or_left, or_right, either}
use Rattle.sml_types.specs.declared.tables.TypeName.{TypeName}
use Rattle.match_laws.specs.Compile.{slot_of, over_fields, con_tests, tests_of, tests, names_of, names, cases_of, bind_of}
use Rattle.lambda_laws.specs.Make.{term_of}
use Rattle.lambda_laws.specs.Size.{total, beginnings, different, ways, rule_size, term_size, LambdaIsSmall}
use Rattle.lambda_laws.proofs.Counts.{row, counted, patterns_in, below, own, unfolded, sorts_at, is_of, none_of, IsPaid, whole_most}
use Rattle.lambda_laws.proofs.Programs.{root_is}

-- ---- Different ones among few

abbrev among : List ℕ → List (List ℕ) → Bool
among b bs = list_any (bytes_eq b) bs

among_append : (b : List ℕ) (xs ys : List (List ℕ)) → among b (xs ++ ys) ≡ (among b xs || among b ys)
among_append b xs ys = list_any-append (bytes_eq b) xs ys

same_bytes : (b : List ℕ) → bytes_eq b b ≡ true
same_bytes b = (bytes_eq-Decides b b).1 refl

-- without one
abbrev rid : List ℕ → List (List ℕ) → List (List ℕ)
rid b [] = []
rid b (y ∷ ys) = cond (bytes_eq b y) (rid b ys) (y ∷ rid b ys)

rid_most : (b : List ℕ) (ys : List (List ℕ)) → length (rid b ys) ≤ length ys
rid_most b [] = omega arith
rid_most b (y ∷ ys) = go (bytes_eq b y) (rid_most b ys)
  where
    go : (q : Bool) → length (rid b ys) ≤ length ys → length (cond q (rid b ys) (y ∷ rid b ys)) ≤ suc (length ys)
    go true h = omega (arith, h)
    go false h = omega (arith, h)

rid_fewer : (b : List ℕ) (ys : List (List ℕ)) → among b ys ≡ true → suc (length (rid b ys)) ≤ length ys
rid_fewer b [] h = cc
rid_fewer b (y ∷ ys) h = go (bytes_eq b y) h (rid_most b ys) (rid_fewer b ys)
  where
    go : (q : Bool) → (q || among b ys) ≡ true → length (rid b ys) ≤ length ys → (among b ys ≡ true → suc (length (rid b ys)) ≤ length ys) → suc (length (cond q (rid b ys) (y ∷ rid b ys))) ≤ suc (length ys)
    go true h m f = omega (arith, m)
    go false h m f = let k = f h in omega (arith, k)

rid_keeps : (b c : List ℕ) (ys : List (List ℕ)) → (c ≡ b → ⊥) → among c ys ≡ true → among c (rid b ys) ≡ true
rid_keeps b c [] n h = h
rid_keeps b c (y ∷ ys) n h = go (bytes_eq b y) refl (rid_keeps b c ys n)
  where
    go : (q : Bool) → bytes_eq b y ≡ q → (among c ys ≡ true → among c (rid b ys) ≡ true) → among c (cond q (rid b ys) (y ∷ rid b ys)) ≡ true
    go true e f =
        f (either (bytes_eq c y) (among c ys) (among c ys ≡ true) h (λ a. absurd (n ((bytes_eq-Decides c y).0 a ∙ sym ((bytes_eq-Decides b y).0 e)))) (λ a. a))
    go false e f =
        either (bytes_eq c y) (among c ys) ((bytes_eq c y || among c (rid b ys)) ≡ true) h (λ a. or_left (bytes_eq c y) (among c (rid b ys)) a) (λ a. or_right (bytes_eq c y) (among c (rid b ys)) (f a))

abbrev Inside : List (List ℕ) → List (List ℕ) → Type 0
Inside xs ys = (b : List ℕ) → among b xs ≡ true → among b ys ≡ true

-- there are no more different ones than places for them
different_most : (xs ys : List (List ℕ)) → Inside xs ys → different xs ≤ length ys
different_most [] ys h = omega arith
different_most (b ∷ xs) ys h = go (among b xs) refl (λ zs k. different_most xs zs k)
  where
    later : Inside xs ys
    later c m = h c (or_right (bytes_eq c b) (among c xs) m)

    go : (q : Bool) → among b xs ≡ q → ((zs : List (List ℕ)) → Inside xs zs → different xs ≤ length zs) → cond q 0 1 + different xs ≤ length ys
    go true e rest = let k = rest ys later in omega (arith, k)
    go false e rest =
        let k = rest (rid b ys) (λ c m. rid_keeps b c ys (λ same. let x : true ≡ false = sym m ∙ ap (λ c. among c xs) same ∙ e in cc) (later c m)) in
        let fewer = rid_fewer b ys (h b (or_left (bytes_eq b b) (among b xs) (same_bytes b))) in
        omega (arith, k, fewer)

-- ---- What stands in a list

abbrev In : List ℕ → List (List ℕ) → Type 0
In b [] = ⊥
In b (x ∷ xs) = (b ≡ x) ⊎ In b xs

in_of : (b : List ℕ) (xs : List (List ℕ)) → among b xs ≡ true → In b xs
in_of b [] h = cc
in_of b (x ∷ xs) h = either (bytes_eq b x) (among b xs) (In b (x ∷ xs)) h (λ a. inl ((bytes_eq-Decides b x).0 a)) (λ a. inr (in_of b xs a))

of_in : (b : List ℕ) (xs : List (List ℕ)) → In b xs → among b xs ≡ true
of_in b [] h = absurd h
of_in b (x ∷ xs) (inl e) = or_left (bytes_eq b x) (among b xs) ((bytes_eq-Decides b x).1 e)
of_in b (x ∷ xs) (inr h) = or_right (bytes_eq b x) (among b xs) (of_in b xs h)

in_left : (b : List ℕ) (xs ys : List (List ℕ)) → In b xs → In b (xs ++ ys)
in_left b [] ys h = absurd h
in_left b (x ∷ xs) ys (inl e) = inl e
in_left b (x ∷ xs) ys (inr h) = inr (in_left b xs ys h)

in_right : (b : List ℕ) (xs ys : List (List ℕ)) → In b ys → In b (xs ++ ys)
in_right b [] ys h = h
in_right b (x ∷ xs) ys h = inr (in_right b xs ys h)

in_split : (b : List ℕ) (xs ys : List (List ℕ)) → In b (xs ++ ys) → In b xs ⊎ In b ys
in_split b [] ys h = inr h
in_split b (x ∷ xs) ys (inl e) = inl (inl e)
in_split b (x ∷ xs) ys (inr h) = ⊎_elim (λ k. inl (inr k)) (λ k. inr k) (in_split b xs ys h)

-- ---- Beginnings

longer : (s : ℕ) (b : List ℕ) (xs : List (List ℕ)) → In b xs → In (s ∷ b) (map (λ c. s ∷ c) xs)
longer s b [] h = absurd h
longer s b (x ∷ xs) (inl e) = inl (ap (λ c. s ∷ c) e)
longer s b (x ∷ xs) (inr h) = inr (longer s b xs h)

shorter : (s : ℕ) (b : List ℕ) (xs : List (List ℕ)) → In b (map (λ c. s ∷ c) xs) → (c : List ℕ) × (b ≡ s ∷ c) × In c xs
shorter s b [] h = absurd h
shorter s b (x ∷ xs) (inl e) = (x, e, inl refl)
shorter s b (x ∷ xs) (inr h) = let r = shorter s b xs h in (r.0, r.1, inr r.2)

-- a beginning of a way with one more step is one of the way, or the whole
one_more : (b path : List ℕ) (s : ℕ) → In b (beginnings (path ++ s ∷ [])) → In b (beginnings path) ⊎ (b ≡ path ++ s ∷ [])
one_more b [] s (inl e) = inr e
one_more b [] s (inr h) = absurd h
one_more b (p ∷ path) s (inl e) = inl (inl e)
one_more b (p ∷ path) s (inr h) =
    let r = shorter p b (beginnings (path ++ s ∷ [])) h in
    ⊎_elim (λ k. inl (inr (subst (λ b. In b (map (λ c. p ∷ c) (beginnings path))) (sym r.1) (longer p r.0 (beginnings path) k)))) (λ k. inr (r.1 ∙ ap (λ c. p ∷ c) k)) (one_more r.0 path s r.2)

-- each beginning of these ways is one of this way, or goes to one of these places
abbrev Begin : List (List ℕ) → List ℕ → List (List ℕ) → Type 0
Begin xs path places = (b : List ℕ) → In b (flat_map beginnings xs) → In b (beginnings path) ⊎ In b places

begin_more : (xs : List (List ℕ)) (path : List ℕ) (ys zs : List (List ℕ)) → ((b : List ℕ) → In b ys → In b zs) → Begin xs path ys → Begin xs path zs
begin_more xs path ys zs f h b m = ⊎_elim (λ k. inl k) (λ k. inr (f b k)) (h b m)

flat_split : (b : List ℕ) (xs ys : List (List ℕ)) → In b (flat_map beginnings (xs ++ ys)) → In b (flat_map beginnings xs) ⊎ In b (flat_map beginnings ys)
flat_split b [] ys h = inr h
flat_split b (x ∷ xs) ys h =
    ⊎_elim (λ k. inl (in_left b (beginnings x) (flat_map beginnings xs) k)) (λ k. ⊎_elim (λ l. inl (in_right b (beginnings x) (flat_map beginnings xs) l)) (λ l. inr l) (flat_split b xs ys k)) (in_split b (beginnings x) (flat_map beginnings (xs ++ ys)) h)

begin_both : (xs ys : List (List ℕ)) (path : List ℕ) (zs : List (List ℕ)) → Begin xs path zs → Begin ys path zs → Begin (xs ++ ys) path zs
begin_both xs ys path zs f g b h = ⊎_elim (f b) (g b) (flat_split b xs ys h)

begin_none : (path : List ℕ) (zs : List (List ℕ)) → Begin [] path zs
begin_none path zs b h = absurd h

begin_self : (path : List ℕ) (zs : List (List ℕ)) → Begin (path ∷ []) path zs
begin_self path zs b h = ⊎_elim (λ k. inl k) (λ k. absurd k) (in_split b (beginnings path) [] h)

-- behind one more step, where this goes to a place
begin_step : (xs : List (List ℕ)) (path : List ℕ) (s : ℕ) (zs : List (List ℕ)) → In (path ++ s ∷ []) zs → Begin xs (path ++ s ∷ []) zs → Begin xs path zs
begin_step xs path s zs there h b m =
    ⊎_elim (λ k. ⊎_elim (λ l. inl l) (λ e. inr (subst (λ b. In b zs) (sym e) there)) (one_more b path s k)) (λ k. inr k) (h b m)

-- ---- Patterns

abbrev test_ways : List Test → List (List ℕ)
test_ways tests = map (λ t. t.path) tests

abbrev name_ways : List Named → List (List ℕ)
name_ways names = map (λ n. n.path) names

test_ways_append : (xs ys : List Test) → test_ways (xs ++ ys) ≡ test_ways xs ++ test_ways ys
test_ways_append [] ys = refl
test_ways_append (x ∷ xs) ys = ap (λ l. x.path ∷ l) (test_ways_append xs ys)

name_ways_append : (xs ys : List Named) → name_ways (xs ++ ys) ≡ name_ways xs ++ name_ways ys
name_ways_append [] ys = refl
name_ways_append (x ∷ xs) ys = ap (λ l. x.path ∷ l) (name_ways_append xs ys)

-- the ways to a node of a pattern and its parts
abbrev places_of : (ℕ → List ℕ → List (List ℕ)) → Node → List ℕ → List (List ℕ)
places_of part (node.PatApp c q) path = path ∷ part q (path ++ slot_of c ∷ [])
places_of part (node.PatRecord fields) path = path ∷ over_fields part path fields
places_of part (node.PatTyped q ty) path = path ∷ part q path
places_of part (node.PatAs x q) path = path ∷ part q path
places_of part (node.PatAsCon x q) path = path ∷ part q path
places_of part _ path = path ∷ []

module _ (ts : List TypeName) (nodes : List Node) (numbered : IsNumbered nodes) (preorder : IsPreorder nodes) (sorts : AllByRecursion (HasSorts nodes) nodes) where
  abbrev paid : Node → ℕ
  paid n = term_size (term_of ts nodes n)

  abbrev owned : Node → ℕ
  owned n = 2

  abbrev cost : ℕ → ℕ
  cost i = rule_size (tests ts nodes i []) (names nodes i [])

  abbrev owns : ℕ → ℕ
  owns = own nodes numbered preorder sorts paid owned cost

  abbrev all : ℕ → ℕ
  all = below nodes numbered preorder sorts paid owned cost

  abbrev rows : List ℕ → ℕ
  rows cs = row (size nodes) owns cs

  -- of a part: its tests, names and places, and what is so of them
  pub record IsPattern (testing : List ℕ → List Test) (naming : List ℕ → List Named) (going : List ℕ → List (List ℕ)) (most : ℕ) : Type 0 where
    pub few : (path : List ℕ) → (length (testing path) + length (naming path)) + length (going path) ≤ most
    pub first : (path : List ℕ) → In path (going path)
    pub tests_begin : (path : List ℕ) → Begin (test_ways (testing path)) path (going path)
    pub names_begin : (path : List ℕ) → Begin (name_ways (naming path)) path (going path)

  few_tests : (applied : Bool) (c : Con) (path : List ℕ) → length (con_tests ts applied c path) ≤ 1
  few_tests applied (con.Data t n takes) path = omega arith
  few_tests applied con.Ref path = omega arith
  few_tests applied (con.Exn x takes) path = omega arith
  few_tests applied (con.Library e) path = omega arith

  con_begin : (applied : Bool) (c : Con) (path : List ℕ) (zs : List (List ℕ)) → Begin (test_ways (con_tests ts applied c path)) path zs
  con_begin applied (con.Data t n takes) path zs = begin_self path zs
  con_begin applied con.Ref path zs = begin_none path zs
  con_begin applied (con.Exn x takes) path zs = begin_self path zs
  con_begin applied (con.Library e) path zs = begin_self path zs

  module _ (testing : ℕ → List ℕ → List Test) (naming : ℕ → List ℕ → List Named) (going : ℕ → List ℕ → List (List ℕ)) (i : ℕ) (f : (c : ℕ) → i < c → IsOf nodes Pattern c → IsPattern (testing c) (naming c) (going c) (all c)) where
    abbrev Later : ℕ → Type 0
    Later c = (i < c) × (c < length nodes)

    abbrev Fields : List Field → Type 0
    Fields fields = AllByRecursion Later (map (λ y. y.node) fields) × AllByRecursion (λ y. IsOf nodes Pattern y.node) fields

    fields_few : (fields : List Field) (path : List ℕ) → Fields fields → (length (over_fields testing path fields) + length (over_fields naming path fields)) + length (over_fields going path fields) ≤ rows (map (λ y. y.node) fields)
    fields_few [] path h = omega arith
    fields_few (y ∷ fields) path h =
        let p = path ++ y.slot ∷ [] in
        let k = (f y.node h.0.0.0 h.1.0).few p in
        let rest = fields_few fields path (h.0.1, h.1.1) in
        let a = length-append (testing y.node p) (over_fields testing path fields) in
        let b = length-append (naming y.node p) (over_fields naming path fields) in
        let c = length-append (going y.node p) (over_fields going path fields) in
        omega (arith, k, rest, a, b, c)

    fields_tests : (fields : List Field) (path : List ℕ) → Fields fields → Begin (test_ways (over_fields testing path fields)) path (over_fields going path fields)
    fields_tests [] path h = begin_none path []
    fields_tests (y ∷ fields) path h =
        let p = path ++ y.slot ∷ [] in
        let k = f y.node h.0.0.0 h.1.0 in
        let later = over_fields going path fields in
        subst (λ xs. Begin xs path (going y.node p ++ later)) (sym (test_ways_append (testing y.node p) (over_fields testing path fields)))
        (begin_both (test_ways (testing y.node p)) (test_ways (over_fields testing path fields)) path (going y.node p ++ later)
        (begin_more (test_ways (testing y.node p)) path (going y.node p) (going y.node p ++ later) (λ b m. in_left b (going y.node p) later m) (begin_step (test_ways (testing y.node p)) path y.slot (going y.node p) (k.first p) (k.tests_begin p)))
        (begin_more (test_ways (over_fields testing path fields)) path later (going y.node p ++ later) (λ b m. in_right b (going y.node p) later m) (fields_tests fields path (h.0.1, h.1.1))))

    fields_names : (fields : List Field) (path : List ℕ) → Fields fields → Begin (name_ways (over_fields naming path fields)) path (over_fields going path fields)
    fields_names [] path h = begin_none path []
    fields_names (y ∷ fields) path h =
        let p = path ++ y.slot ∷ [] in
        let k = f y.node h.0.0.0 h.1.0 in
        let later = over_fields going path fields in
        subst (λ xs. Begin xs path (going y.node p ++ later)) (sym (name_ways_append (naming y.node p) (over_fields naming path fields)))
        (begin_both (name_ways (naming y.node p)) (name_ways (over_fields naming path fields)) path (going y.node p ++ later)
        (begin_more (name_ways (naming y.node p)) path (going y.node p) (going y.node p ++ later) (λ b m. in_left b (going y.node p) later m) (begin_step (name_ways (naming y.node p)) path y.slot (going y.node p) (k.first p) (k.names_begin p)))
        (begin_more (name_ways (over_fields naming path fields)) path later (going y.node p ++ later) (λ b m. in_right b (going y.node p) later m) (fields_names fields path (h.0.1, h.1.1))))

    abbrev IsNode : Node → Type 0
    IsNode n = IsPattern (tests_of ts testing n) (names_of naming n) (places_of going n) (2 + rows (node_parts n))

    behind : (path : List ℕ) (zs : List (List ℕ)) (b : List ℕ) → In b zs → In b (path ∷ zs)
    behind path zs b h = inr h

    -- a pattern that has one part, in the same place
    same_place : (q : ℕ) → IsPattern (testing q) (naming q) (going q) (all q) → (path : List ℕ) → Begin (test_ways (testing q path)) path (path ∷ going q path)
    same_place q k path = begin_more (test_ways (testing q path)) path (going q path) (path ∷ going q path) (behind path (going q path)) (k.tests_begin path)

    same_names : (q : ℕ) → IsPattern (testing q) (naming q) (going q) (all q) → (path : List ℕ) → Begin (name_ways (naming q path)) path (path ∷ going q path)
    same_names q k path = begin_more (name_ways (naming q path)) path (going q path) (path ∷ going q path) (behind path (going q path)) (k.names_begin path)

    named_first : (path : List ℕ) (xs : List (List ℕ)) (zs : List (List ℕ)) → Begin xs path zs → Begin (path ∷ xs) path zs
    named_first path xs zs h = begin_both (path ∷ []) xs path zs (begin_self path zs) h

    node_is : (n : Node) → AllByRecursion Later (node_parts n) → HasSorts nodes n → sort_of n ≡ Pattern → IsNode n
    node_is node.Wild l s e = record { few = λ path. omega arith; first = λ path. inl refl; tests_begin = λ path. begin_none path (path ∷ []); names_begin = λ path. begin_none path (path ∷ []) }
    node_is (node.PatInt z) l s e = record { few = λ path. omega arith; first = λ path. inl refl; tests_begin = λ path. begin_self path (path ∷ []); names_begin = λ path. begin_none path (path ∷ []) }
    node_is (node.PatChar c) l s e = record { few = λ path. omega arith; first = λ path. inl refl; tests_begin = λ path. begin_self path (path ∷ []); names_begin = λ path. begin_none path (path ∷ []) }
    node_is (node.PatText y) l s e = record { few = λ path. omega arith; first = λ path. inl refl; tests_begin = λ path. begin_self path (path ∷ []); names_begin = λ path. begin_none path (path ∷ []) }
    node_is (node.PatVar y) l s e = record { few = λ path. omega arith; first = λ path. inl refl; tests_begin = λ path. begin_none path (path ∷ []); names_begin = λ path. begin_self path (path ∷ []) }
    node_is (node.PatCon c) l s e = record { few = λ path. omega (arith, few_tests false c path); first = λ path. inl refl; tests_begin = λ path. con_begin false c path (path ∷ []); names_begin = λ path. begin_none path (path ∷ []) }
    node_is (node.PatApp c q) l s e =
        let k = f q l.0.0 s in
        record {
          few = λ path.
              let p = path ++ slot_of c ∷ [] in
              let h = k.few p in let a = few_tests true c path in let b = length-append (con_tests ts true c path) (testing q p) in omega (arith, h, a, b);
          first = λ path. inl refl;
          tests_begin = λ path.
              let p = path ++ slot_of c ∷ [] in
              let zs = path ∷ going q p in
              subst (λ xs. Begin xs path zs) (sym (test_ways_append (con_tests ts true c path) (testing q p)))
              (begin_both (test_ways (con_tests ts true c path)) (test_ways (testing q p)) path zs (con_begin true c path zs)
              (begin_more (test_ways (testing q p)) path (going q p) zs (behind path (going q p)) (begin_step (test_ways (testing q p)) path (slot_of c) (going q p) (k.first p) (k.tests_begin p))));
          names_begin = λ path.
              let p = path ++ slot_of c ∷ [] in
              begin_more (name_ways (naming q p)) path (going q p) (path ∷ going q p) (behind path (going q p)) (begin_step (name_ways (naming q p)) path (slot_of c) (going q p) (k.first p) (k.names_begin p));
        }
    node_is (node.PatRecord fields) l s e = record {
      few = λ path. let h = fields_few fields path (l, s) in omega (arith, h);
      first = λ path. inl refl;
      tests_begin = λ path. begin_more (test_ways (over_fields testing path fields)) path (over_fields going path fields) (path ∷ over_fields going path fields) (behind path (over_fields going path fields)) (fields_tests fields path (l, s));
      names_begin = λ path. begin_more (name_ways (over_fields naming path fields)) path (over_fields going path fields) (path ∷ over_fields going path fields) (behind path (over_fields going path fields)) (fields_names fields path (l, s));
    }
    node_is (node.PatTyped q ty) l s e =
        let k = f q l.0.0 s in
        record { few = λ path. let h = k.few path in omega (arith, h); first = λ path. inl refl; tests_begin = same_place q k; names_begin = same_names q k }
    node_is (node.PatAs y q) l s e =
        let k = f q l.0.0 s in
        record { few = λ path. let h = k.few path in omega (arith, h); first = λ path. inl refl; tests_begin = same_place q k; names_begin = λ path. named_first path (name_ways (naming q path)) (path ∷ going q path) (same_names q k path) }
    node_is (node.PatAsCon y q) l s e =
        let k = f q l.0.0 s in
        record { few = λ path. let h = k.few path in omega (arith, h); first = λ path. inl refl; tests_begin = same_place q k; names_begin = λ path. named_first path (name_ways (naming q path)) (path ∷ going q path) (same_names q k path) }
    node_is _ l s e = cc

  abbrev tested : ℕ → ℕ → List ℕ → List Test
  tested k = within (λ path. []) (λ part i. tests_of ts part) k nodes

  abbrev named : ℕ → ℕ → List ℕ → List Named
  named k = within (λ path. []) (λ part i. names_of part) k nodes

  abbrev gone : ℕ → ℕ → List ℕ → List (List ℕ)
  gone k = within (λ path. []) (λ part i. places_of part) k nodes

  patterns_are : (k i : ℕ) → length nodes ≤ k + i → IsOf nodes Pattern i → IsPattern (tested k i) (named k i) (gone k i) (all i)
  patterns_are zero i l s = absurd (none_of nodes numbered preorder sorts Pattern i (slice_get_past nodes i (omega (arith, l))) s)
  patterns_are (suc k) i l s = go (slice_get nodes i) refl (λ c lt sc. patterns_are k c (omega (arith, l, lt)) sc)
    where
      go : (o : Option Node) → slice_get nodes i ≡ o → ((c : ℕ) → i < c → IsOf nodes Pattern c → IsPattern (tested k c) (named k c) (gone k c) (all c))
          → IsPattern (at_node (λ path. []) (λ part i. tests_of ts part) (tested k) i o) (at_node (λ path. []) (λ part i. names_of part) (named k) i o) (at_node (λ path. []) (λ part i. places_of part) (gone k) i o) (all i)
      go None e f = absurd (none_of nodes numbered preorder sorts Pattern i e s)
      go (Some n) e f =
          let h = node_is (tested k) (named k) (gone k) i f n (numbered i n e) (sorts_at nodes numbered preorder sorts i n e) (is_of nodes numbered preorder sorts Pattern i n e s) in
          let a = unfolded nodes numbered preorder sorts owns i n e in
          let o : owns i ≡ 2 = ap (counted owned) e in
          record { few = λ path. let k = h.few path in omega (arith, k, a, o); first = h.first; tests_begin = h.tests_begin; names_begin = h.names_begin }

  -- a rule is at most twice as large as its pattern
  pattern_small : (i : ℕ) → IsOf nodes Pattern i → cost i ≤ all i
  pattern_small i s =
      let k = patterns_are (length nodes) i (omega arith) s in
      let ts' = tests ts nodes i [] in
      let ns = names nodes i [] in
      let places = gone (length nodes) i [] in
      let inside : Inside (flat_map beginnings (ways ts' ns)) places = λ b m. of_in b places (⊎_elim (λ a. absurd a) (λ a. a) (begin_both (test_ways ts') (name_ways ns) [] places (k.tests_begin []) (k.names_begin []) b (in_of b (flat_map beginnings (ways ts' ns)) m))) in
      let d = different_most (flat_map beginnings (ways ts' ns)) places inside in
      let h = k.few [] in
      omega (arith, d, h)

  -- ---- Terms

  rules_total : (rules : List Rule) → total (λ c. rule_size c.tests c.names) (cases_of ts nodes rules) ≡ total cost (map (λ r. r.pat) rules)
  rules_total [] = refl
  rules_total (r ∷ rules) = ap (λ n. cost r.pat + n) (rules_total rules)

  binds_total : (bs : List Binding) → total (λ b. rule_size b.tests b.names) (map (bind_of ts nodes) bs) ≡ total cost (map (λ b. b.pat) bs)
  binds_total [] = refl
  binds_total (b ∷ bs) = ap (λ n. cost b.pat + n) (binds_total bs)

  pattern_free : (n : Node) → sort_of n ≡ Pattern → paid n ≡ 0
  pattern_free node.Wild e = refl
  pattern_free (node.PatInt z) e = refl
  pattern_free (node.PatChar c) e = refl
  pattern_free (node.PatText y) e = refl
  pattern_free (node.PatVar y) e = refl
  pattern_free (node.PatCon c) e = refl
  pattern_free (node.PatApp c q) e = refl
  pattern_free (node.PatRecord fields) e = refl
  pattern_free (node.PatTyped q ty) e = refl
  pattern_free (node.PatAs y q) e = refl
  pattern_free (node.PatAsCon y q) e = refl
  pattern_free _ e = cc

  node_most : (n : Node) → paid n ≤ owned n + total cost (patterns_in n)
  node_most (node.Case e rules) = omega (arith, rules_total rules)
  node_most (node.Fn rules) = omega (arith, rules_total rules)
  node_most (node.Handle e rules) = omega (arith, rules_total rules)
  node_most (node.Val tyvars bs) = omega (arith, binds_total bs)
  node_most _ = omega arith

  is_paid : IsPaid nodes numbered preorder sorts paid owned cost
  is_paid = record { pattern = pattern_free; other = λ n s. node_most n; each = pattern_small }

total_map : {A B : Type 0} (h : A → B) (f : B → ℕ) (xs : List A) → total f (map h xs) ≡ total (λ x. f (h x)) xs
total_map h f [] = refl
total_map h f (x ∷ xs) = ap (λ n. f (h x) + n) (total_map h f xs)

two_each : {A : Type 0} (xs : List A) → total (λ x. 2) xs ≡ 2 * length xs
two_each [] = refl
two_each (x ∷ xs) = let h = two_each xs in omega (arith, h)

pub lambda_is_small : LambdaIsSmall
lambda_is_small ts p bare = record {
  terms = length-map p.nodes (term_of ts p.nodes);
  rules =
      let h = whole_most p.nodes bare.numbered bare.preorder bare.sorts (paid ts p.nodes bare.numbered bare.preorder bare.sorts) (λ n. 2) (cost ts p.nodes bare.numbered bare.preorder bare.sorts) (is_paid ts p.nodes bare.numbered bare.preorder bare.sorts) (root_is p (length p.nodes) bare.nest) in
      let a = total_map (term_of ts p.nodes) term_size p.nodes in
      let b = two_each p.nodes in
      omega (arith, h, a, b);
}

-- two ways with the first step in common have three steps
shared_step : different (flat_map beginnings ((0 ∷ 1 ∷ []) ∷ (0 ∷ 2 ∷ []) ∷ [])) ≡ 3
shared_step = refl
