-- What a tree becomes is a program.
use Rattle.std.proofs.Common.{◌≡◌, ℕ, zero, suc, pos, ◌+◌, ◌<◌, ◌≤◌, Bool, true, false, List, [], ◌∷◌, ◌++◌, Option, Some, None, length, refl, sym, ap, ◌∙◌, subst, map, arith}
use Rattle.std.proofs.lemmas.List.{length-map}
use Rattle.std.proofs.lemmas.Bool.{ltb-true}
use Rattle.std.proofs.lemmas.Option.{slice_get-map}
use Rattle.std.specs.Prelude.{IfSome, ◌^◌, slice_get, flat_map, count_by, nat_lt, int_lt, cond, ◌||◌, ◌&&◌, nat_eq, ℤ, negsuc}
use Rattle.std.specs.List.{AllByRecursion}
use Rattle.std.specs.Option.{option_map, is_some}
use Rattle.smlc_base.specs.declared.match_tests.Test.{Test}
use Rattle.smlc_base.specs.declared.match_tests.Named.{Named}
use Rattle.sml_tree.specs.declared.bare.Bare.{Bare}
use Rattle.sml_tree.specs.declared.bare.Con.{Con}
use Rattle.sml_tree.specs.declared.bare.Con.TheVariants as con
use Rattle.sml_tree.specs.declared.bare.Lab.{Lab}
use Rattle.sml_tree.specs.declared.bare.Lab.TheVariants as lab
use Rattle.sml_tree.specs.declared.bare.Node.{Node}
use Rattle.sml_tree.specs.declared.bare.Node.TheVariants as node
use Rattle.sml_tree.specs.declared.bare.Field.{Field}
use Rattle.sml_tree.specs.declared.bare.Rule.{Rule}
use Rattle.sml_tree.specs.declared.bare.Binding.{Binding}
use Rattle.sml_tree.specs.declared.bare.RecBinding.{RecBinding}
use Rattle.sml_tree.specs.BareParts.{node_parts, rule_parts, at_node, within}
use Rattle.sml_tree.specs.IsBare.{IsBare, IsRow, IsDistinct, Stands, ConStands, HasSorts, nest_of, sort_of, lab_less, bytes_less, is_function, function_of}
use Rattle.sml_types.specs.declared.tables.TypeName.{TypeName}
use Rattle.simulation.specs.Words.{weight}
use Rattle.sml_def.specs.Step as source
use Rattle.sml_def.proofs.Effects.{all_get, all_append}
use Rattle.sml_def.proofs.Sums.{weight_count}
use Rattle.lambda_ir.specs.declared.term.Term.{Term}
use Rattle.lambda_ir.specs.Kept.{term_parts, ConKept, WantKept, TestsKept, NamesKept, CasesKept, PartsKept, TermKept, IsProgram}
use Rattle.lambda_ir.specs.Free.{function_at}
use Rattle.lambda_ir.specs.Program.{Lambda}
use Rattle.match_laws.specs.Compile.{slot_of, con_tests, over_fields, tests_of, names_of, cases_of, bind_of}
use Rattle.lambda_laws.specs.Make.{part_of, term_of, terms_of, lambda_of}
use Rattle.lambda_laws.specs.Ready.{IsExpression}
use Rattle.lambda_laws.proofs.FreeSame.{same_free}
use Rattle.lambda_laws.proofs.Once.{binds_once}
use Rattle.lambda_laws.proofs.Steps.{function_same}

-- ---- Numbered

module _ (ts : List TypeName) (P : ℕ → Type 0) (nodes : List Node) where
  fields_hold : (fields : List Field) → AllByRecursion P (map (λ f. f.node) fields) → AllByRecursion P (map (λ q. q.node) (map part_of fields))
  fields_hold [] h = tt
  fields_hold (f ∷ fields) h = (h.0, fields_hold fields h.1)

  rules_hold : (rules : List Rule) → AllByRecursion P (flat_map rule_parts rules) → AllByRecursion P (map (λ c. c.body) (cases_of ts nodes rules))
  rules_hold [] h = tt
  rules_hold (r ∷ rules) h = (h.1.0, rules_hold rules h.1.1)

  binds_hold : (bs : List Binding) → AllByRecursion P (flat_map (λ b. b.pat ∷ b.right ∷ []) bs) → AllByRecursion P (map (λ b. b.right) (map (bind_of ts nodes) bs))
  binds_hold [] h = tt
  binds_hold (b ∷ bs) h = (h.1.0, binds_hold bs h.1.1)

  parts_hold : (n : Node) → AllByRecursion P (node_parts n) → AllByRecursion P (term_parts (term_of ts nodes n))
  parts_hold (node.Record fields) h = fields_hold fields h
  parts_hold (node.App f a) h = h
  parts_hold (node.Case e rules) h = (h.0, rules_hold rules h.1)
  parts_hold (node.Fn rules) h = rules_hold rules h
  parts_hold (node.Raise e) h = h
  parts_hold (node.Handle e rules) h = (h.0, rules_hold rules h.1)
  parts_hold (node.Typed e ty) h = h
  parts_hold (node.Let d e) h = h
  parts_hold (node.Val tyvars bs) h = binds_hold bs h
  parts_hold (node.ValRec tyvars bs) h = h
  parts_hold _ h = tt

-- ---- Places in a tuple

not_less : (x : ℕ) (b : Bool) → nat_lt x x ≡ b → b ≡ false
not_less x true e = absurd (let l = ltb-true x x e in omega (arith, l))
not_less x false e = refl

off_and : (a b : Bool) → b ≡ false → (a && b) ≡ false
off_and true b h = h
off_and false b h = refl

off_or : (a b : Bool) → a ≡ false → b ≡ false → (a || b) ≡ false
off_or a b h g = ap (λ a. a || b) h ∙ g

bytes_not_less : (xs : List ℕ) → bytes_less xs xs ≡ false
bytes_not_less [] = refl
bytes_not_less (x ∷ xs) = off_or (nat_lt x x) (nat_eq x x && bytes_less xs xs) (not_less x (nat_lt x x) refl) (off_and (nat_eq x x) (bytes_less xs xs) (bytes_not_less xs))

int_not_less : (z : ℤ) → int_lt z z ≡ false
int_not_less (pos n) = not_less n (nat_lt n n) refl
int_not_less (negsuc n) = not_less n (nat_lt n n) refl

lab_not_less : (l : Lab) → lab_less l l ≡ false
lab_not_less (lab.Num z) = int_not_less z
lab_not_less (lab.Text bs) = bytes_not_less bs

abbrev tick : Bool → ℕ
tick b = cond b 1 0

abbrev ticks : {A : Type 0} → (A → Bool) → List A → ℕ
ticks t xs = weight (λ x. cond (t x) 1 0) xs

count_is : {A : Type 0} (t : A → Bool) (xs : List A) → count_by t xs ≡ ticks t xs
count_is t xs = let h = weight_count t 1 xs in omega (arith, h)

add_tick : (b : Bool) (m n : ℕ) → m ≤ n → tick b + m ≤ suc n
add_tick true m n h = omega (arith, h)
add_tick false m n h = omega (arith, h)

no_tick : (b : Bool) (m n : ℕ) → b ≡ false → m ≤ n → tick b + m < suc n
no_tick true m n e h = cc
no_tick false m n e h = omega (arith, h)

less_tick : (b : Bool) (m n : ℕ) → m < n → tick b + m < suc n
less_tick true m n h = omega (arith, h)
less_tick false m n h = omega (arith, h)

ticks_most : {A : Type 0} (t : A → Bool) (xs : List A) → ticks t xs ≤ length xs
ticks_most t [] = omega arith
ticks_most t (x ∷ xs) = add_tick (t x) (ticks t xs) (length xs) (ticks_most t xs)

-- fewer than all, where one isn't counted
ticks_less : {A : Type 0} (t : A → Bool) (xs : List A) (i : ℕ) (x : A) → slice_get xs i ≡ Some x → t x ≡ false → ticks t xs < length xs
ticks_less t [] i x e h = cc
ticks_less t (y ∷ xs) zero x e h = no_tick (t y) (ticks t xs) (length xs) (let z : y ≡ x = cc in ap t z ∙ h) (ticks_most t xs)
ticks_less t (y ∷ xs) (suc i) x e h = less_tick (t y) (ticks t xs) (length xs) (ticks_less t xs i x e h)

count_less : {A : Type 0} (t : A → Bool) (xs : List A) (i : ℕ) (x : A) → slice_get xs i ≡ Some x → t x ≡ false → count_by t xs < length xs
count_less t xs i x e h = let a = count_is t xs in let b = ticks_less t xs i x e h in omega (arith, a, b)

-- each field stands in a list of all
each_at : {A : Type 0} (P : A → Type 0) (all : List A) → ((i : ℕ) (x : A) → slice_get all i ≡ Some x → P x) → AllByRecursion P all
each_at P [] h = tt
each_at P (x ∷ xs) h = (h 0 x refl, each_at P xs (λ i y e. h (suc i) y e))

both_all : {A : Type 0} (P Q : A → Type 0) (xs : List A) → AllByRecursion P xs → ((i : ℕ) (x : A) → slice_get xs i ≡ Some x → P x → Q x) → AllByRecursion Q xs
both_all P Q [] h f = tt
both_all P Q (x ∷ xs) h f = (f 0 x refl h.0, both_all P Q xs h.1 (λ i y e. f (suc i) y e))

slots_of : (Q : ℕ → Type 0) (fields : List Field) → AllByRecursion (λ (f : Field). Q f.slot) fields → AllByRecursion (λ q. Q q.slot) (map part_of fields)
slots_of Q [] h = tt
slots_of Q (f ∷ fields) h = (h.0, slots_of Q fields h.1)

same_slots : (fields : List Field) → map (λ q. q.slot) (map part_of fields) ≡ map (λ f. f.slot) fields
same_slots [] = refl
same_slots (f ∷ fields) = ap (λ xs. f.slot ∷ xs) (same_slots fields)

parts_kept : (l : Lambda) (fields : List Field) → IsRow fields → PartsKept l (map part_of fields)
parts_kept l fields h = (
  subst (λ n. AllByRecursion (λ q. q.slot < n) (map part_of fields)) (sym (length-map fields part_of))
      (slots_of (λ s. s < length fields) fields (both_all (λ (f : Field). f.slot ≡ count_by (λ g. lab_less g.lab f.lab) fields) (λ (f : Field). f.slot < length fields) fields h.slots (λ i f e same.
      subst (λ k. k < length fields) (sym same) (count_less (λ g. lab_less g.lab f.lab) fields i f e (lab_not_less f.lab))))),
  subst IsDistinct (sym (same_slots fields)) h.distinct,
)

-- ---- What is cited

module _ (ts : List TypeName) (p : Bare) (stands : AllByRecursion (Stands p) p.nodes) where
  abbrev l : Lambda
  l = lambda_of ts p

  con_kept : (c : Con) → ConStands p c → ConKept l c
  con_kept (con.Data t n takes) h = h.1
  con_kept con.Ref h = tt
  con_kept (con.Exn x takes) h = h
  con_kept (con.Library e) h = tt

  con_tests_kept : (b : Bool) (c : Con) (path : List ℕ) → ConStands p c → TestsKept l (con_tests ts b c path)
  con_tests_kept b (con.Data t n takes) path h = (h.1, tt)
  con_tests_kept b con.Ref path h = tt
  con_tests_kept b (con.Exn x takes) path h = (h, tt)
  con_tests_kept b (con.Library e) path h = (tt, tt)

  module _ {X : Type 0} (P : X → Type 0) (part : ℕ → List ℕ → List X) (h : (c : ℕ) (path : List ℕ) → AllByRecursion P (part c path)) where
    over_kept : (fields : List Field) (path : List ℕ) → AllByRecursion P (over_fields part path fields)
    over_kept [] path = tt
    over_kept (f ∷ fields) path = all_append P (part f.node (path ++ f.slot ∷ [])) (over_fields part path fields) (h f.node (path ++ f.slot ∷ [])) (over_kept fields path)

  abbrev IsTest : Test → Type 0
  IsTest t = WantKept l t.want

  abbrev IsNamed : Named → Type 0
  IsNamed n = n.name.0 < length p.names

  module _ (part : ℕ → List ℕ → List Test) (h : (c : ℕ) (path : List ℕ) → AllByRecursion IsTest (part c path)) where
    node_tests : (n : Node) (path : List ℕ) → Stands p n → AllByRecursion IsTest (tests_of ts part n path)
    node_tests (node.PatInt z) path s = (s, tt)
    node_tests (node.PatChar c) path s = (omega (arith, s), tt)
    node_tests (node.PatText t) path s = (s, tt)
    node_tests (node.PatCon c) path s = con_tests_kept false c path s
    node_tests (node.PatApp c q) path s = all_append IsTest (con_tests ts true c path) (part q (path ++ slot_of c ∷ [])) (con_tests_kept true c path s) (h q (path ++ slot_of c ∷ []))
    node_tests (node.PatRecord fields) path s = over_kept IsTest part h fields path
    node_tests (node.PatTyped q ty) path s = h q path
    node_tests (node.PatAs x q) path s = h q path
    node_tests (node.PatAsCon x q) path s = h q path
    node_tests _ path s = tt

  module _ (part : ℕ → List ℕ → List Named) (h : (c : ℕ) (path : List ℕ) → AllByRecursion IsNamed (part c path)) where
    node_names : (n : Node) (path : List ℕ) → Stands p n → AllByRecursion IsNamed (names_of part n path)
    node_names (node.PatVar x) path s = (s, tt)
    node_names (node.PatApp c q) path s = h q (path ++ slot_of c ∷ [])
    node_names (node.PatRecord fields) path s = over_kept IsNamed part h fields path
    node_names (node.PatTyped q ty) path s = h q path
    node_names (node.PatAs x q) path s = (s, h q path)
    node_names (node.PatAsCon x q) path s = (s, h q path)
    node_names _ path s = tt

  tests_within : (k i : ℕ) (path : List ℕ) → AllByRecursion IsTest (within (λ path. []) (λ part i. tests_of ts part) k p.nodes i path)
  tests_within zero i path = tt
  tests_within (suc k) i path = go (slice_get p.nodes i) (all_get (Stands p) p.nodes i stands) (tests_within k)
    where
      go : (o : Option Node) → IfSome o (Stands p) → ((c : ℕ) (way : List ℕ) → AllByRecursion IsTest (within (λ path. []) (λ part i. tests_of ts part) k p.nodes c way)) → AllByRecursion IsTest (at_node (λ path. []) (λ part i. tests_of ts part) (within (λ path. []) (λ part i. tests_of ts part) k p.nodes) i o path)
      go None s f = tt
      go (Some n) s f = node_tests (within (λ path. []) (λ part i. tests_of ts part) k p.nodes) f n path s

  names_within : (k i : ℕ) (path : List ℕ) → AllByRecursion IsNamed (within (λ path. []) (λ part i. names_of part) k p.nodes i path)
  names_within zero i path = tt
  names_within (suc k) i path = go (slice_get p.nodes i) (all_get (Stands p) p.nodes i stands) (names_within k)
    where
      go : (o : Option Node) → IfSome o (Stands p) → ((c : ℕ) (way : List ℕ) → AllByRecursion IsNamed (within (λ path. []) (λ part i. names_of part) k p.nodes c way)) → AllByRecursion IsNamed (at_node (λ path. []) (λ part i. names_of part) (within (λ path. []) (λ part i. names_of part) k p.nodes) i o path)
      go None s f = tt
      go (Some n) s f = node_names (within (λ path. []) (λ part i. names_of part) k p.nodes) f n path s

  cases_kept : (rules : List Rule) → CasesKept l (cases_of ts p.nodes rules)
  cases_kept [] = tt
  cases_kept (r ∷ rules) = ((tests_within (length p.nodes) r.pat [], names_within (length p.nodes) r.pat []), cases_kept rules)

  binds_kept : (bs : List Binding) → AllByRecursion (λ b. TestsKept l b.tests × NamesKept l b.names) (map (bind_of ts p.nodes) bs)
  binds_kept [] = tt
  binds_kept (b ∷ bs) = ((tests_within (length p.nodes) b.pat [], names_within (length p.nodes) b.pat []), binds_kept bs)

  -- a right side of a recursive declaration is a function
  has_function : (k i : ℕ) → within false function_of k p.nodes i ≡ true → is_some (within None source.function_of k p.nodes i) ≡ true
  has_function zero i h = cc
  has_function (suc k) i h = go (slice_get p.nodes i) h (has_function k)
    where
      go : (o : Option Node) → at_node false function_of (within false function_of k p.nodes) i o ≡ true → ((c : ℕ) → within false function_of k p.nodes c ≡ true → is_some (within None source.function_of k p.nodes c) ≡ true) → is_some (at_node None source.function_of (within None source.function_of k p.nodes) i o) ≡ true
      go (Some (node.Fn rules)) h f = refl
      go (Some (node.Typed e ty)) h f = f e h
      go None h f = cc
      go (Some _) h f = cc

  mapped_some : {A B : Type 0} (f : A → B) (o : Option A) → is_some o ≡ true → is_some (option_map f o) ≡ true
  mapped_some f None h = cc
  mapped_some f (Some x) h = refl

  module _ (bare : IsBare p) where
    group_kept : (bs : List RecBinding) → AllByRecursion (λ b. b.name.0 < length p.names) bs → AllByRecursion (λ b. is_function p.nodes b.right ≡ true) bs → AllByRecursion (λ b. (b.name.0 < length p.names) × (is_some (function_at (terms_of ts p) b.right) ≡ true)) bs
    group_kept [] h s = tt
    group_kept (b ∷ bs) h s = (
      (h.0, ap is_some (function_same ts p bare (same_free ts p bare) b.right) ∙ mapped_some _ (source.function_at p.nodes b.right) (has_function (length p.nodes) b.right s.0)),
      group_kept bs h.1 s.1,
    )

    node_kept : (n : Node) → Stands p n → HasSorts p.nodes n → TermKept l (term_of ts p.nodes n)
    node_kept (node.Int z) s h = s
    node_kept (node.Char c) s h = s
    node_kept (node.Text t) s h = s
    node_kept (node.Var x) s h = s
    node_kept (node.Constructor c) s h = con_kept c s
    node_kept (node.Record fields) s h = parts_kept l fields s
    node_kept (node.Case e rules) s h = cases_kept rules
    node_kept (node.Fn rules) s h = cases_kept rules
    node_kept (node.Handle e rules) s h = cases_kept rules
    node_kept (node.Val tyvars bs) s h = binds_kept bs
    node_kept (node.ValRec tyvars bs) s h = group_kept bs s.1 h
    node_kept (node.Exception x ty) s h = s.0
    node_kept (node.SameException x c) s h = (s.0, con_kept c s.1)
    node_kept (node.NoException x) s h = s
    node_kept _ s h = tt

    all_kept : (nodes : List Node) → AllByRecursion (Stands p) nodes → AllByRecursion (HasSorts p.nodes) nodes → AllByRecursion (TermKept l) (map (term_of ts p.nodes) nodes)
    all_kept [] s h = tt
    all_kept (n ∷ nodes) s h = (node_kept n s.0 h.0, all_kept nodes s.1 h.1)

-- ---- The whole

pub root_is : (p : Bare) (k : ℕ) → within false nest_of k p.nodes 0 ≡ true → IsExpression p 0
root_is p zero h = cc
root_is p (suc k) h = go (slice_get p.nodes 0) refl h
  where
    go : (o : Option Node) → slice_get p.nodes 0 ≡ o → at_node false nest_of (within false nest_of k p.nodes) 0 o ≡ true → IsExpression p 0
    go (Some (node.Let d e)) q h = ap (option_map sort_of) q
    go (Some node.Finish) q h = ap (option_map sort_of) q
    go None q h = cc
    go (Some _) q h = cc

pub is_program : (ts : List TypeName) (p : Bare) → IsBare p → IsProgram (lambda_of ts p)
is_program ts p bare = record {
  few = subst (λ k. suc k < 2 ^ 32) (sym (length-map p.nodes (term_of ts p.nodes))) bare.few;
  numbered = λ i t e. go i t (slice_get p.nodes i) refl (sym (slice_get-map (term_of ts p.nodes) p.nodes i) ∙ e);
  closed = (same_free ts p bare).node 0 (root_is p (length p.nodes) bare.nest) ∙ bare.bound;
  once = binds_once ts p bare (root_is p (length p.nodes) bare.nest);
  kept = all_kept ts p bare.stands bare p.nodes bare.stands bare.sorts;
}
  where
    go : (i : ℕ) (t : Term) (o : Option Node) → slice_get p.nodes i ≡ o → option_map (term_of ts p.nodes) o ≡ Some t → AllByRecursion (λ c. (i < c) × (c < length (terms_of ts p))) (term_parts t)
    go i t None q e = cc
    go i t (Some n) q e =
        let same : term_of ts p.nodes n ≡ t = cc in
        subst (λ t. AllByRecursion (λ c. (i < c) × (c < length (terms_of ts p))) (term_parts t)) same
        (subst (λ k. AllByRecursion (λ c. (i < c) × (c < k)) (term_parts (term_of ts p.nodes n))) (sym (length-map p.nodes (term_of ts p.nodes))) (parts_hold ts (λ c. (i < c) × (c < length p.nodes)) p.nodes n (bare.numbered i n q)))
