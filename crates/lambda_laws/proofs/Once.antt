-- A program binds each name as often as its tree does: what the patterns below a node bind stands at the terms that match them.
use Rattle.std.proofs.Common.{◌≡◌, ℕ, zero, suc, ◌+◌, ◌<◌, ◌≤◌, Bool, true, false, List, [], ◌∷◌, ◌++◌, length, Option, Some, None, refl, ap, ◌∙◌, map, arith}
use Rattle.std.proofs.lemmas.Bool.{eqb-true, eq-eqb}
use Rattle.std.proofs.lemmas.Option.{slice_get_past}
use Rattle.std.specs.Prelude.{slice_get, flat_map, nat_eq, cond, ◌||◌}
use Rattle.std.specs.List.{AllByRecursion}
use Rattle.smlc_base.specs.declared.match_tests.Named.{Named}
use Rattle.sml_tree.specs.declared.bare.Bare.{Bare}
use Rattle.sml_tree.specs.declared.bare.Node.{Node}
use Rattle.sml_tree.specs.declared.bare.Node.TheVariants as node
use Rattle.sml_tree.specs.declared.bare.Field.{Field}
use Rattle.sml_tree.specs.declared.bare.Rule.{Rule}
use Rattle.sml_tree.specs.declared.bare.Binding.{Binding}
use Rattle.sml_tree.specs.Sets.{has}
use Rattle.sml_tree.specs.BareParts.{node_parts, at_node, within, IsNumbered}
use Rattle.sml_tree.specs.IsBare.{IsBare, IsDistinct, IsPreorder, HasSorts, IsOf, Expression, Pattern, sort_of, size, names_at}
use Rattle.sml_types.specs.declared.tables.TypeName.{TypeName}
use Rattle.lambda_ir.specs.Kept.{names_in, term_names}
use Rattle.match_laws.specs.Compile.{slot_of, over_fields, names_of, names, cases_of, bind_of}
use Rattle.lambda_laws.specs.Make.{term_of, terms_of}
use Rattle.lambda_laws.specs.Ready.{IsExpression}
use Rattle.lambda_laws.specs.Size.{total}
use Rattle.lambda_laws.proofs.Counts.{row, counted, patterns_in, below, own, unfolded, sorts_at, is_of, none_of, IsPaid, whole_most}

-- ---- How often a number stands in a list

abbrev tick : Bool → ℕ
tick b = cond b 1 0

abbrev times : ℕ → List ℕ → ℕ
times x [] = 0
times x (y ∷ ys) = tick (nat_eq x y) + times x ys

times_append : (x : ℕ) (ys zs : List ℕ) → times x (ys ++ zs) ≡ times x ys + times x zs
times_append x [] zs = omega arith
times_append x (y ∷ ys) zs = omega (arith, times_append x ys zs)

times_none : (x : ℕ) (ys : List ℕ) → times x ys ≡ 0 → has ys x ≡ false
times_none x [] h = refl
times_none x (y ∷ ys) h = go (nat_eq x y) h (times_none x ys)
  where
    go : (b : Bool) → tick b + times x ys ≡ 0 → (times x ys ≡ 0 → has ys x ≡ false) → (b || has ys x) ≡ false
    go true e f = absurd (omega (arith, e))
    go false e f = f (omega (arith, e))

none_times : (x : ℕ) (ys : List ℕ) → has ys x ≡ false → times x ys ≡ 0
none_times x [] h = refl
none_times x (y ∷ ys) h = go (nat_eq x y) h (none_times x ys)
  where
    go : (b : Bool) → (b || has ys x) ≡ false → (has ys x ≡ false → times x ys ≡ 0) → tick b + times x ys ≡ 0
    go true e f = cc
    go false e f = let h = f e in omega (arith, h)

-- no item stands twice where each number stands at most once
distinct_once : (ys : List ℕ) → IsDistinct ys → (x : ℕ) → times x ys ≤ 1
distinct_once [] h x = omega arith
distinct_once (y ∷ ys) h x = go (nat_eq x y) refl (distinct_once ys h.1 x)
  where
    go : (b : Bool) → nat_eq x y ≡ b → times x ys ≤ 1 → tick b + times x ys ≤ 1
    go true e rest =
        let none : times x ys ≡ 0 = none_times x ys (ap (has ys) (eqb-true x y e) ∙ h.0) in omega (arith, none)
    go false e rest = omega (arith, rest)

once_distinct : (ys : List ℕ) → ((x : ℕ) → times x ys ≤ 1) → IsDistinct ys
once_distinct [] h = tt
once_distinct (y ∷ ys) h =
    (times_none y ys (first (nat_eq y y) (eq-eqb y y refl) (h y)), once_distinct ys (λ x. rest (nat_eq x y) (times x ys) (h x)))
  where
    first : (b : Bool) → b ≡ true → tick b + times y ys ≤ 1 → times y ys ≡ 0
    first true e g = omega (arith, g)
    first false e g = cc

    rest : (b : Bool) (n : ℕ) → tick b + n ≤ 1 → n ≤ 1
    rest true n g = omega (arith, g)
    rest false n g = omega (arith, g)

times_total : {A B : Type 0} (x : ℕ) (h : A → B) (g : B → List ℕ) (xs : List A) → times x (flat_map g (map h xs)) ≡ total (λ n. times x (g (h n))) xs
times_total x h g [] = refl
times_total x h g (y ∷ xs) =
    let a = times_append x (g (h y)) (flat_map g (map h xs)) in let b = times_total x h g xs in omega (arith, a, b)

times_all : {A : Type 0} (x : ℕ) (g : A → List ℕ) (xs : List A) → times x (flat_map g xs) ≡ total (λ n. times x (g n)) xs
times_all x g [] = refl
times_all x g (y ∷ xs) = let a = times_append x (g y) (flat_map g xs) in let b = times_all x g xs in omega (arith, a, b)

module _ (ts : List TypeName) (nodes : List Node) (numbered : IsNumbered nodes) (preorder : IsPreorder nodes) (sorts : AllByRecursion (HasSorts nodes) nodes) (x : ℕ) where
  abbrev naming : ℕ → ℕ → List ℕ → List Named
  naming k = within (λ path. []) (λ part i. names_of part) k nodes

  abbrev bound : List Named → ℕ
  bound ns = times x (names_in ns)

  bound_append : (ms ns : List Named) → bound (ms ++ ns) ≡ bound ms + bound ns
  bound_append [] ns = omega arith
  bound_append (m ∷ ms) ns = omega (arith, bound_append ms ns)

  -- how often a term and a node bind the name, and a pattern with its parts
  abbrev paid : Node → ℕ
  paid n = times x (term_names (term_of ts nodes n))

  abbrev owned : Node → ℕ
  owned n = times x (names_at n)

  abbrev cost : ℕ → ℕ
  cost i = bound (names nodes i [])

  abbrev owns : ℕ → ℕ
  owns = own nodes numbered preorder sorts paid owned cost

  abbrev all : ℕ → ℕ
  all = below nodes numbered preorder sorts paid owned cost

  abbrev rows : List ℕ → ℕ
  rows cs = row (size nodes) owns cs

  -- ---- Patterns

  abbrev NamesAll : (ℕ → List ℕ → List Named) → ℕ → Type 0
  NamesAll part c = (path : List ℕ) → bound (part c path) ≡ all c

  module _ (part : ℕ → List ℕ → List Named) (i : ℕ) (f : (c : ℕ) → i < c → IsOf nodes Pattern c → NamesAll part c) where
    abbrev Later : ℕ → Type 0
    Later c = (i < c) × (c < length nodes)

    fields_named : (fields : List Field) (path : List ℕ) → AllByRecursion Later (map (λ y. y.node) fields) → AllByRecursion (λ y. IsOf nodes Pattern y.node) fields → bound (over_fields part path fields) ≡ rows (map (λ y. y.node) fields)
    fields_named [] path l s = refl
    fields_named (y ∷ fields) path l s =
        let h = f y.node l.0.0 s.0 (path ++ y.slot ∷ []) in
        let g = fields_named fields path l.1 s.1 in
        let a = bound_append (part y.node (path ++ y.slot ∷ [])) (over_fields part path fields) in
        omega (arith, h, g, a)

    pattern_named : (n : Node) (path : List ℕ) → AllByRecursion Later (node_parts n) → HasSorts nodes n → sort_of n ≡ Pattern → bound (names_of part n path) ≡ owned n + rows (node_parts n)
    pattern_named node.Wild path l s e = refl
    pattern_named (node.PatInt z) path l s e = refl
    pattern_named (node.PatChar c) path l s e = refl
    pattern_named (node.PatText y) path l s e = refl
    pattern_named (node.PatVar y) path l s e = omega arith
    pattern_named (node.PatCon c) path l s e = refl
    pattern_named (node.PatApp c q) path l s e = let h = f q l.0.0 s (path ++ slot_of c ∷ []) in omega (arith, h)
    pattern_named (node.PatRecord fields) path l s e = let h = fields_named fields path l s in omega (arith, h)
    pattern_named (node.PatTyped q ty) path l s e = let h = f q l.0.0 s path in omega (arith, h)
    pattern_named (node.PatAs y q) path l s e = let h = f q l.0.0 s path in omega (arith, h)
    pattern_named (node.PatAsCon y q) path l s e = let h = f q l.0.0 s path in omega (arith, h)
    pattern_named _ path l s e = cc

  patterns_named : (k i : ℕ) → length nodes ≤ k + i → IsOf nodes Pattern i → NamesAll (naming k) i
  patterns_named zero i l s path = absurd (none_of nodes numbered preorder sorts Pattern i (slice_get_past nodes i (omega (arith, l))) s)
  patterns_named (suc k) i l s path = go (slice_get nodes i) refl (λ c lt sc. patterns_named k c (omega (arith, l, lt)) sc)
    where
      go : (o : Option Node) → slice_get nodes i ≡ o → ((c : ℕ) → i < c → IsOf nodes Pattern c → NamesAll (naming k) c) → bound (at_node (λ path. []) (λ part i. names_of part) (naming k) i o path) ≡ all i
      go None e f = absurd (none_of nodes numbered preorder sorts Pattern i e s)
      go (Some n) e f =
          let h = pattern_named (naming k) i f n path (numbered i n e) (sorts_at nodes numbered preorder sorts i n e) (is_of nodes numbered preorder sorts Pattern i n e s) in
          let a = unfolded nodes numbered preorder sorts owns i n e in
          let o : owns i ≡ owned n = ap (counted owned) e in
          omega (arith, h, a, o)

  -- ---- Terms

  rules_named : (rules : List Rule) → times x (flat_map (λ c. names_in c.names) (cases_of ts nodes rules)) ≡ total cost (map (λ r. r.pat) rules)
  rules_named [] = refl
  rules_named (r ∷ rules) =
      let a = times_append x (names_in (names nodes r.pat [])) (flat_map (λ c. names_in c.names) (cases_of ts nodes rules)) in
      let b = rules_named rules in
      omega (arith, a, b)

  binds_named : (bs : List Binding) → times x (flat_map (λ b. names_in b.names) (map (bind_of ts nodes) bs)) ≡ total cost (map (λ b. b.pat) bs)
  binds_named [] = refl
  binds_named (b ∷ bs) =
      let a = times_append x (names_in (names nodes b.pat [])) (flat_map (λ b. names_in b.names) (map (bind_of ts nodes) bs)) in
      let c = binds_named bs in
      omega (arith, a, c)

  pattern_free : (n : Node) → sort_of n ≡ Pattern → paid n ≡ 0
  pattern_free node.Wild e = refl
  pattern_free (node.PatInt z) e = refl
  pattern_free (node.PatChar c) e = refl
  pattern_free (node.PatText y) e = refl
  pattern_free (node.PatVar y) e = refl
  pattern_free (node.PatCon c) e = refl
  pattern_free (node.PatApp c q) e = refl
  pattern_free (node.PatRecord fields) e = refl
  pattern_free (node.PatTyped q ty) e = refl
  pattern_free (node.PatAs y q) e = refl
  pattern_free (node.PatAsCon y q) e = refl
  pattern_free _ e = cc

  node_most : (n : Node) → paid n ≤ owned n + total cost (patterns_in n)
  node_most (node.Case e rules) = omega (arith, rules_named rules)
  node_most (node.Fn rules) = omega (arith, rules_named rules)
  node_most (node.Handle e rules) = omega (arith, rules_named rules)
  node_most (node.Val tyvars bs) = omega (arith, binds_named bs)
  node_most (node.ValRec tyvars bs) = omega arith
  node_most (node.Exception y ty) = omega arith
  node_most (node.SameException y c) = omega arith
  node_most (node.NoException y) = omega arith
  node_most _ = omega arith

  is_paid : IsPaid nodes numbered preorder sorts paid owned cost
  is_paid = record {
    pattern = pattern_free;
    other = λ n s. node_most n;
    each = λ i s. let h = patterns_named (length nodes) i (omega arith) s [] in omega (arith, h);
  }

  -- no name stands more often in terms than in nodes
  whole_named : IsOf nodes Expression 0 → times x (flat_map term_names (map (term_of ts nodes) nodes)) ≤ times x (flat_map names_at nodes)
  whole_named s =
      let h = whole_most nodes numbered preorder sorts paid owned cost is_paid s in
      let a = times_total x (term_of ts nodes) term_names nodes in
      let b = times_all x names_at nodes in
      omega (arith, h, a, b)

-- a program binds no name twice
pub binds_once : (ts : List TypeName) (p : Bare) → IsBare p → IsExpression p 0 → IsDistinct (flat_map term_names (terms_of ts p))
binds_once ts p bare root =
    once_distinct (flat_map term_names (terms_of ts p)) (λ x. let h = whole_named ts p.nodes bare.numbered bare.preorder bare.sorts x root in let o = distinct_once (flat_map names_at p.nodes) bare.once x in omega (arith, h, o))
