-- Terms have the free variables of the nodes that they come from.
use Rattle.std.proofs.Common.{◌≡◌, ℕ, zero, suc, ◌+◌, ◌<◌, ◌≤◌, Bool, true, false, List, [], ◌∷◌, ◌++◌, length, Option, Some, None, refl, sym, ap, ◌∙◌, map, arith, ◌⊎◌, inl, inr}
use Rattle.std.proofs.lemmas.List.{length-map}
use Rattle.std.proofs.lemmas.Option.{slice_get-map, slice_get_past}
use Rattle.std.specs.Prelude.{slice_get, flat_map}
use Rattle.std.specs.List.{AllByRecursion}
use Rattle.std.specs.Option.{option_map}
use Rattle.sml_tree.specs.declared.bare.Bare.{Bare}
use Rattle.sml_tree.specs.declared.bare.Node.{Node}
use Rattle.sml_tree.specs.declared.bare.Node.TheVariants as node
use Rattle.sml_tree.specs.declared.bare.Con.{Con}
use Rattle.sml_tree.specs.declared.bare.Con.TheVariants as con
use Rattle.sml_tree.specs.declared.bare.Field.{Field}
use Rattle.sml_tree.specs.declared.bare.Rule.{Rule}
use Rattle.sml_tree.specs.declared.bare.Binding.{Binding}
use Rattle.sml_tree.specs.declared.bare.RecBinding.{RecBinding}
use Rattle.sml_tree.specs.Sets.{union, union_over, without}
use Rattle.sml_tree.specs.BareParts.{node_parts, rule_parts, at_node, within, IsNumbered}
use Rattle.sml_tree.specs.Free.{exception_of, names_of, binds_of, binds, free, free_of, free_match, free_fields, free_rest, scoped}
use Rattle.sml_tree.specs.IsBare.{IsBare, IsAscending, HasSorts, HasRules, IsOf, Sort, Expression, Pattern, Declaration, sort_of, is_function, function_of}
use Rattle.sml_tree.proofs.FreeParts.{free_unfold, binds_unfold}
use Rattle.sml_types.specs.declared.tables.TypeName.{TypeName}
use Rattle.sml_def.proofs.Effects.{all_get}
use Rattle.sml_def.proofs.Options.{if_some}
use Rattle.smlc_base.specs.declared.match_tests.Want.{Want}
use Rattle.smlc_base.specs.declared.match_tests.Want.TheVariants as want
use Rattle.smlc_base.specs.declared.match_tests.Test.{Test}
use Rattle.smlc_base.specs.declared.match_tests.Named.{Named}
use Rattle.lambda_ir.specs.declared.term.Term.{Term}
use Rattle.lambda_ir.specs.Free as terms
use Rattle.match_laws.specs.Compile as compile
use Rattle.match_laws.specs.Compile.{con_tests, over_fields, tests_of, tests, names, case_of, cases_of, bind_of}
use Rattle.lambda_laws.specs.Make.{part_of, term_of, terms_of}
use Rattle.lambda_laws.specs.Ready.{IsExpression, AreFields, AreBindings}
use Rattle.lambda_laws.proofs.Sets.{over_append, over_map, over_each}
use Rattle.lambda_laws.proofs.Steps.{HasSameFree}

wants_ascending : (t : Test) → IsAscending 0 (terms.exn_wanted t.want)
wants_ascending t = go t.want
  where
    go : (w : Want) → IsAscending 0 (terms.exn_wanted w)
    go (want.Exn x applied) = (omega arith, tt)
    go _ = tt

name_ascending : (n : Named) → IsAscending 0 (n.name.0 ∷ [])
name_ascending n = (omega arith, tt)

tests_append : (xs ys : List Test) → terms.free_tests (xs ++ ys) ≡ union (terms.free_tests xs) (terms.free_tests ys)
tests_append xs ys = over_append (λ t. terms.exn_wanted t.want) wants_ascending xs ys

names_append : (xs ys : List Named) → terms.bound_names (xs ++ ys) ≡ union (terms.bound_names xs) (terms.bound_names ys)
names_append xs ys = over_append (λ n. n.name.0 ∷ []) name_ascending xs ys

con_free : (ts : List TypeName) (b : Bool) (c : Con) (path : List ℕ) → terms.free_tests (con_tests ts b c path) ≡ exception_of c
con_free ts b (con.Data t n takes) path = refl
con_free ts b con.Ref path = refl
con_free ts b (con.Exn x takes) path = refl
con_free ts b (con.Library e) path = refl

module _ (ts : List TypeName) (nodes : List Node) (sorts : AllByRecursion (HasSorts nodes) nodes) where
  sorts_at : (i : ℕ) (n : Node) → slice_get nodes i ≡ Some n → HasSorts nodes n
  sorts_at i n e = if_some (HasSorts nodes) (slice_get nodes i) n e (all_get (HasSorts nodes) nodes i sorts)

  -- the node there
  is_of : (s : Sort) (i : ℕ) (n : Node) → slice_get nodes i ≡ Some n → IsOf nodes s i → sort_of n ≡ s
  is_of s i n e h = let f : Some (sort_of n) ≡ Some s = sym (ap (option_map sort_of) e) ∙ h in cc

  is_none : (s : Sort) (i : ℕ) → slice_get nodes i ≡ None → IsOf nodes s i → ⊥
  is_none s i e h = let f : None ≡ Some s = sym (ap (option_map sort_of) e) ∙ h in cc

  -- ---- Patterns

  abbrev testing : ℕ → ℕ → List ℕ → List Test
  testing k = within (λ path. []) (λ part i. tests_of ts part) k nodes

  abbrev naming : ℕ → ℕ → List ℕ → List Named
  naming k = within (λ path. []) (λ part i. compile.names_of part) k nodes

  abbrev freeing : ℕ → ℕ → List ℕ
  freeing k = within [] (λ part i. free_of (binds nodes) part) k nodes

  abbrev binding : ℕ → ℕ → List ℕ
  binding k = within [] (λ part i. binds_of part) k nodes

  module _ (t : ℕ → List ℕ → List Test) (f : ℕ → List ℕ) (h : (i : ℕ) (path : List ℕ) → IsOf nodes Pattern i → terms.free_tests (t i path) ≡ f i) where
    fields_free : (fields : List Field) (path : List ℕ) → AllByRecursion (λ x. IsOf nodes Pattern x.node) fields → terms.free_tests (over_fields t path fields) ≡ free_fields f fields
    fields_free [] path s = refl
    fields_free (x ∷ fields) path s =
        tests_append (t x.node (path ++ x.slot ∷ [])) (over_fields t path fields)
        ∙ ap (λ a. union a (terms.free_tests (over_fields t path fields))) (h x.node (path ++ x.slot ∷ []) s.0)
        ∙ ap (union (f x.node)) (fields_free fields path s.1)

    pattern_free : (n : Node) (path : List ℕ) → HasSorts nodes n → sort_of n ≡ Pattern → terms.free_tests (tests_of ts t n path) ≡ free_of (binds nodes) f n
    pattern_free node.Wild path s e = refl
    pattern_free (node.PatInt z) path s e = refl
    pattern_free (node.PatChar c) path s e = refl
    pattern_free (node.PatText x) path s e = refl
    pattern_free (node.PatVar x) path s e = refl
    pattern_free (node.PatCon c) path s e = con_free ts false c path
    pattern_free (node.PatApp c q) path s e =
        tests_append (con_tests ts true c path) (t q (path ++ compile.slot_of c ∷ [])) ∙ ap (λ a. union a (terms.free_tests (t q (path ++ compile.slot_of c ∷ [])))) (con_free ts true c path) ∙ ap (union (exception_of c)) (h q (path ++ compile.slot_of c ∷ []) s)
    pattern_free (node.PatRecord fields) path s e = fields_free fields path s
    pattern_free (node.PatTyped q ty) path s e = h q path s
    pattern_free (node.PatAs x q) path s e = h q path s
    pattern_free (node.PatAsCon x q) path s e = h q path s
    pattern_free _ path s e = cc

  module _ (t : ℕ → List ℕ → List Named) (f : ℕ → List ℕ) (h : (i : ℕ) (path : List ℕ) → IsOf nodes Pattern i → terms.bound_names (t i path) ≡ f i) where
    fields_bind : (fields : List Field) (path : List ℕ) → AllByRecursion (λ x. IsOf nodes Pattern x.node) fields → terms.bound_names (over_fields t path fields) ≡ union_over (λ x. f x.node) fields
    fields_bind [] path s = refl
    fields_bind (x ∷ fields) path s =
        names_append (t x.node (path ++ x.slot ∷ [])) (over_fields t path fields)
        ∙ ap (λ a. union a (terms.bound_names (over_fields t path fields))) (h x.node (path ++ x.slot ∷ []) s.0)
        ∙ ap (union (f x.node)) (fields_bind fields path s.1)

    pattern_bind : (n : Node) (path : List ℕ) → HasSorts nodes n → sort_of n ≡ Pattern → terms.bound_names (compile.names_of t n path) ≡ binds_of f n
    pattern_bind node.Wild path s e = refl
    pattern_bind (node.PatInt z) path s e = refl
    pattern_bind (node.PatChar c) path s e = refl
    pattern_bind (node.PatText x) path s e = refl
    pattern_bind (node.PatVar x) path s e = refl
    pattern_bind (node.PatCon c) path s e = refl
    pattern_bind (node.PatApp c q) path s e = h q (path ++ compile.slot_of c ∷ []) s
    pattern_bind (node.PatRecord fields) path s e = fields_bind fields path s
    pattern_bind (node.PatTyped q ty) path s e = h q path s
    pattern_bind (node.PatAs x q) path s e = ap (union (x.0 ∷ [])) (h q path s)
    pattern_bind (node.PatAsCon x q) path s e = ap (union (x.0 ∷ [])) (h q path s)
    pattern_bind _ path s e = cc

  tests_within : (k i : ℕ) (path : List ℕ) → IsOf nodes Pattern i → terms.free_tests (testing k i path) ≡ freeing k i
  tests_within zero i path s = refl
  tests_within (suc k) i path s = go (slice_get nodes i) refl (tests_within k)
    where
      go : (o : Option Node) → slice_get nodes i ≡ o → ((c : ℕ) (path : List ℕ) → IsOf nodes Pattern c → terms.free_tests (testing k c path) ≡ freeing k c) → terms.free_tests (at_node (λ path. []) (λ part i. tests_of ts part) (testing k) i o path) ≡ at_node [] (λ part i. free_of (binds nodes) part) (freeing k) i o
      go None e h = refl
      go (Some n) e h = pattern_free (testing k) (freeing k) h n path (sorts_at i n e) (is_of Pattern i n e s)

  names_within : (k i : ℕ) (path : List ℕ) → IsOf nodes Pattern i → terms.bound_names (naming k i path) ≡ binding k i
  names_within zero i path s = refl
  names_within (suc k) i path s = go (slice_get nodes i) refl (names_within k)
    where
      go : (o : Option Node) → slice_get nodes i ≡ o → ((c : ℕ) (path : List ℕ) → IsOf nodes Pattern c → terms.bound_names (naming k c path) ≡ binding k c) → terms.bound_names (at_node (λ path. []) (λ part i. compile.names_of part) (naming k) i o path) ≡ at_node [] (λ part i. binds_of part) (binding k) i o
      go None e h = refl
      go (Some n) e h = pattern_bind (naming k) (binding k) h n path (sorts_at i n e) (is_of Pattern i n e s)

  tests_free : (i : ℕ) → IsOf nodes Pattern i → terms.free_tests (tests ts nodes i []) ≡ free nodes i
  tests_free i s = tests_within (length nodes) i [] s

  names_bind : (i : ℕ) → IsOf nodes Pattern i → terms.bound_names (names nodes i []) ≡ binds nodes i
  names_bind i s = names_within (length nodes) i [] s

  -- ---- Terms, from what is so of their parts

  module _ (f : ℕ → List ℕ) where
    abbrev Good : ℕ → Type 0
    Good c = f c ≡ free nodes c

    case_free : (r : Rule) → IsOf nodes Pattern r.pat → Good r.body → terms.free_case f (case_of ts nodes r) ≡ scoped (binds nodes) (free nodes) r.pat r.body
    case_free r s h =
        ap (λ a. union a (without (f r.body) (terms.bound_names (names nodes r.pat [])))) (tests_free r.pat s)
        ∙ ap (λ a. union (free nodes r.pat) (without a (terms.bound_names (names nodes r.pat [])))) h
        ∙ ap (λ a. union (free nodes r.pat) (without (free nodes r.body) a)) (names_bind r.pat s)

    rules_free : (rules : List Rule) → AllByRecursion (λ r. IsOf nodes Pattern r.pat × Good r.body) rules → terms.free_cases f (cases_of ts nodes rules) ≡ free_match (binds nodes) (free nodes) rules
    rules_free rules h = over_map (terms.free_case f) (case_of ts nodes) (λ r. scoped (binds nodes) (free nodes) r.pat r.body) rules (go rules h)
      where
        go : (rules : List Rule) → AllByRecursion (λ r. IsOf nodes Pattern r.pat × Good r.body) rules → AllByRecursion (λ r. terms.free_case f (case_of ts nodes r) ≡ scoped (binds nodes) (free nodes) r.pat r.body) rules
        go [] h = tt
        go (r ∷ rules) h = (case_free r h.0.0 h.0.1, go rules h.1)

    parts_free : (fields : List Field) → AllByRecursion (λ x. Good x.node) fields → terms.free_parts f (map part_of fields) ≡ free_fields (free nodes) fields
    parts_free fields h = over_map (λ q. f q.node) part_of (λ x. free nodes x.node) fields h

    abbrev BindGood : Binding → Type 0
    BindGood b = IsOf nodes Pattern b.pat × Good b.right

    pats_free : (bs : List Binding) → AllByRecursion BindGood bs → union_over (λ c. terms.free_tests c.tests) (map (bind_of ts nodes) bs) ≡ union_over (λ c. free nodes c.pat) bs
    pats_free bs h = over_map (λ c. terms.free_tests c.tests) (bind_of ts nodes) (λ c. free nodes c.pat) bs (go bs h)
      where
        go : (bs : List Binding) → AllByRecursion BindGood bs → AllByRecursion (λ b. terms.free_tests (tests ts nodes b.pat []) ≡ free nodes b.pat) bs
        go [] h = tt
        go (b ∷ bs) h = (tests_free b.pat h.0.0, go bs h.1)

    rights_free : (bs : List Binding) → AllByRecursion BindGood bs → union_over (λ c. f c.right) (map (bind_of ts nodes) bs) ≡ union_over (λ c. free nodes c.right) bs
    rights_free bs h = over_map (λ c. f c.right) (bind_of ts nodes) (λ c. free nodes c.right) bs (go bs h)
      where
        go : (bs : List Binding) → AllByRecursion BindGood bs → AllByRecursion (λ b. f b.right ≡ free nodes b.right) bs
        go [] h = tt
        go (b ∷ bs) h = (h.0.1, go bs h.1)

    both_free : (bs : List Binding) → AllByRecursion BindGood bs → union_over (λ b. union (terms.free_tests b.tests) (f b.right)) (map (bind_of ts nodes) bs) ≡ union_over (λ b. union (free nodes b.pat) (free nodes b.right)) bs
    both_free bs h = over_map (λ b. union (terms.free_tests b.tests) (f b.right)) (bind_of ts nodes) (λ b. union (free nodes b.pat) (free nodes b.right)) bs (go bs h)
      where
        go : (bs : List Binding) → AllByRecursion BindGood bs → AllByRecursion (λ b. union (terms.free_tests (tests ts nodes b.pat [])) (f b.right) ≡ union (free nodes b.pat) (free nodes b.right)) bs
        go [] h = tt
        go (b ∷ bs) h = (ap (λ a. union a (f b.right)) (tests_free b.pat h.0.0) ∙ ap (union (free nodes b.pat)) h.0.1, go bs h.1)

  pats_bind : (bs : List Binding) → AllByRecursion (λ b. IsOf nodes Pattern b.pat) bs → terms.bound_in (map (bind_of ts nodes) bs) ≡ union_over (λ b. binds nodes b.pat) bs
  pats_bind bs h = over_map (λ b. terms.bound_names b.names) (bind_of ts nodes) (λ b. binds nodes b.pat) bs (go bs h)
    where
      go : (bs : List Binding) → AllByRecursion (λ b. IsOf nodes Pattern b.pat) bs → AllByRecursion (λ b. terms.bound_names (names nodes b.pat []) ≡ binds nodes b.pat) bs
      go [] h = tt
      go (b ∷ bs) h = (names_bind b.pat h.0, go bs h.1)

  pats_only : (Q : ℕ → Type 0) (bs : List Binding) → AllByRecursion (λ b. IsOf nodes Pattern b.pat × Q b.right) bs → AllByRecursion (λ b. IsOf nodes Pattern b.pat) bs
  pats_only Q [] h = tt
  pats_only Q (b ∷ bs) h = (h.0.0, pats_only Q bs h.1)

  rest_free : (f : ℕ → List ℕ) (b : Binding) (later : List Binding) (body : ℕ) → AllByRecursion (BindGood f) (b ∷ later) → Good f body → terms.free_behind f (bind_of ts nodes b) (map (bind_of ts nodes) later) body ≡ free_rest (binds nodes) (free nodes) b later body
  rest_free f b later body h hb =
      let bound = terms.bound_in (map (bind_of ts nodes) (b ∷ later)) in
      ap (λ a. union a (union (union_over (λ c. f c.right) (map (bind_of ts nodes) later)) (without (f body) bound))) (pats_free f (b ∷ later) h)
      ∙ ap (λ a. union (union_over (λ c. free nodes c.pat) (b ∷ later)) (union a (without (f body) bound))) (rights_free f later h.1)
      ∙ ap (λ a. union (union_over (λ c. free nodes c.pat) (b ∷ later)) (union (union_over (λ c. free nodes c.right) later) (without a bound))) hb
      ∙ ap (λ a. union (union_over (λ c. free nodes c.pat) (b ∷ later)) (union (union_over (λ c. free nodes c.right) later) (without (free nodes body) a))) (pats_bind (b ∷ later) (pats_only (Good f) (b ∷ later) h))

  -- ---- By number

  module _ (numbered : IsNumbered nodes) where
    abbrev all_terms : List Term
    all_terms = map (term_of ts nodes) nodes

    dec_binds : (d : ℕ) → IsOf nodes Declaration d → terms.binds_of_term (slice_get all_terms d) ≡ binds nodes d
    dec_binds d s = ap terms.binds_of_term (slice_get-map (term_of ts nodes) nodes d) ∙ go (slice_get nodes d) refl
      where
        by : (n : Node) → HasSorts nodes n → sort_of n ≡ Declaration → terms.binds_of_term (Some (term_of ts nodes n)) ≡ binds_of (binds nodes) n
        by (node.Val tyvars bs) h e = pats_bind bs (pats_only (IsOf nodes Expression) bs h)
        by (node.ValRec tyvars bs) h e = refl
        by (node.Type bs) h e = refl
        by (node.Datatype bs) h e = refl
        by (node.Exception x ty) h e = refl
        by (node.SameException x c) h e = refl
        by (node.NoException x) h e = refl
        by _ h e = cc

        go : (o : Option Node) → slice_get nodes d ≡ o → terms.binds_of_term (option_map (term_of ts nodes) o) ≡ binds nodes d
        go None e = absurd (is_none Declaration d e s)
        go (Some n) e = by n (sorts_at d n e) (is_of Declaration d n e s) ∙ sym (binds_unfold nodes numbered d n e)

    abbrev IsTerm : ℕ → Type 0
    IsTerm c = IsOf nodes Expression c ⊎ IsOf nodes Declaration c

    pub function_exp : (k i : ℕ) → within false function_of k nodes i ≡ true → IsOf nodes Expression i
    function_exp zero i h = cc
    function_exp (suc k) i h = go (slice_get nodes i) refl h
      where
        go : (o : Option Node) → slice_get nodes i ≡ o → at_node false function_of (within false function_of k nodes) i o ≡ true → IsOf nodes Expression i
        go None e h = cc
        go (Some (node.Fn rules)) e h = ap (option_map sort_of) e
        go (Some (node.Typed x ty)) e h = ap (option_map sort_of) e
        go (Some _) e h = cc

    module _ (f : ℕ → List ℕ) (i : ℕ) (h : (c : ℕ) → i < c → IsTerm c → f c ≡ free nodes c) where
      abbrev Later : ℕ → Type 0
      Later c = (i < c) × (c < length nodes)

      rules_good : (rules : List Rule) → AllByRecursion Later (flat_map rule_parts rules) → HasRules nodes rules → AllByRecursion (λ r. IsOf nodes Pattern r.pat × Good f r.body) rules
      rules_good [] l s = tt
      rules_good (r ∷ rules) l s = ((s.0.0, h r.body l.1.0.0 (inl s.0.1)), rules_good rules l.1.1 s.1)

      fields_good : (fields : List Field) → AllByRecursion Later (map (λ x. x.node) fields) → AllByRecursion (λ x. IsOf nodes Expression x.node) fields → AllByRecursion (λ x. Good f x.node) fields
      fields_good [] l s = tt
      fields_good (x ∷ fields) l s = (h x.node l.0.0 (inl s.0), fields_good fields l.1 s.1)

      binds_good : (bs : List Binding) → AllByRecursion Later (flat_map (λ b. b.pat ∷ b.right ∷ []) bs) → AllByRecursion (λ b. IsOf nodes Pattern b.pat × IsOf nodes Expression b.right) bs → AllByRecursion (BindGood f) bs
      binds_good [] l s = tt
      binds_good (b ∷ bs) l s = ((s.0.0, h b.right l.1.0.0 (inl s.0.1)), binds_good bs l.1.1 s.1)

      group_good : (bs : List RecBinding) → AllByRecursion Later (map (λ b. b.right) bs) → AllByRecursion (λ b. is_function nodes b.right ≡ true) bs → AllByRecursion (λ b. f b.right ≡ free nodes b.right) bs
      group_good [] l s = tt
      group_good (b ∷ bs) l s = (h b.right l.0.0 (inl (function_exp (length nodes) b.right s.0)), group_good bs l.1 s.1)

      no_pattern : (n : Node) → (sort_of n ≡ Expression) ⊎ (sort_of n ≡ Declaration) → sort_of n ≡ Pattern → ⊥
      no_pattern n (inl e) g = let c = sym e ∙ g in cc
      no_pattern n (inr e) g = let c = sym e ∙ g in cc

      term_free : (n : Node) → AllByRecursion Later (node_parts n) → HasSorts nodes n → (sort_of n ≡ Expression) ⊎ (sort_of n ≡ Declaration) → terms.free_of_term all_terms f i (term_of ts nodes n) ≡ free_of (binds nodes) (free nodes) n
      term_free (node.Int z) l s e = refl
      term_free (node.Char c) l s e = refl
      term_free (node.Text t) l s e = refl
      term_free (node.Var x) l s e = refl
      term_free (node.Constructor c) l s e = refl
      term_free (node.Builtin g) l s e = refl
      term_free (node.Record fields) l s e = parts_free f fields (fields_good fields l s)
      term_free (node.App x a) l s e =
          ap (λ z. union z (f a)) (h x l.0.0 (inl s.0)) ∙ ap (union (free nodes x)) (h a l.1.0.0 (inl s.1))
      term_free (node.Case x rules) l s e =
          ap (λ z. union z (terms.free_cases f (cases_of ts nodes rules))) (h x l.0.0 (inl s.0)) ∙ ap (union (free nodes x)) (rules_free f rules (rules_good rules l.1 s.1))
      term_free (node.Fn rules) l s e = rules_free f rules (rules_good rules l s)
      term_free (node.Raise x) l s e = h x l.0.0 (inl s)
      term_free (node.Handle x rules) l s e =
          ap (λ z. union z (terms.free_cases f (cases_of ts nodes rules))) (h x l.0.0 (inl s.0)) ∙ ap (union (free nodes x)) (rules_free f rules (rules_good rules l.1 s.1))
      term_free (node.Typed x ty) l s e = h x l.0.0 (inl s)
      term_free (node.Let d x) l s e =
          ap (λ z. union z (without (f x) (terms.binds_of_term (slice_get all_terms d)))) (h d l.0.0 (inr s.0))
          ∙ ap (λ z. union (free nodes d) (without z (terms.binds_of_term (slice_get all_terms d)))) (h x l.1.0.0 (inl s.1))
          ∙ ap (λ z. union (free nodes d) (without (free nodes x) z)) (dec_binds d s.0)
      term_free node.Finish l s e = refl
      term_free (node.Val tyvars bs) l s e = both_free f bs (binds_good bs l s)
      term_free (node.ValRec tyvars bs) l s e =
          ap (λ z. without z (names_of bs)) (over_each (λ b. f b.right) (λ b. free nodes b.right) bs (group_good bs l s))
      term_free (node.Type bs) l s e = refl
      term_free (node.Datatype bs) l s e = refl
      term_free (node.Exception x ty) l s e = refl
      term_free (node.SameException x c) l s e = refl
      term_free (node.NoException x) l s e = refl
      term_free n l s e = absurd (no_pattern n e refl)

    abbrev term_vars : ℕ → ℕ → List ℕ
    term_vars k = terms.within_terms [] (terms.free_of_term all_terms) k all_terms

    past : (i : ℕ) → length nodes ≤ i → IsTerm i → ⊥
    past i l (inl s) = is_none Expression i (slice_get_past nodes i l) s
    past i l (inr s) = is_none Declaration i (slice_get_past nodes i l) s

    sort_cases : (i : ℕ) (n : Node) → slice_get nodes i ≡ Some n → IsTerm i → (sort_of n ≡ Expression) ⊎ (sort_of n ≡ Declaration)
    sort_cases i n e (inl s) = inl (is_of Expression i n e s)
    sort_cases i n e (inr s) = inr (is_of Declaration i n e s)

    vars_same : (k i : ℕ) → length nodes ≤ k + i → IsTerm i → term_vars k i ≡ free nodes i
    vars_same zero i l s = absurd (past i (omega arith) s)
    vars_same (suc k) i l s =
        ap (terms.at_term [] (terms.free_of_term all_terms) (term_vars k) i) (slice_get-map (term_of ts nodes) nodes i) ∙ go (slice_get nodes i) refl (λ c g. vars_same k c (omega arith))
      where
        go : (o : Option Node) → slice_get nodes i ≡ o → ((c : ℕ) → i < c → IsTerm c → term_vars k c ≡ free nodes c) → terms.at_term [] (terms.free_of_term all_terms) (term_vars k) i (option_map (term_of ts nodes) o) ≡ free nodes i
        go None e h = absurd (is_none_term e s)
          where
            is_none_term : slice_get nodes i ≡ None → IsTerm i → ⊥
            is_none_term e (inl s) = is_none Expression i e s
            is_none_term e (inr s) = is_none Declaration i e s
        go (Some n) e h = term_free (term_vars k) i h n (numbered i n e) (sorts_at i n e) (sort_cases i n e s) ∙ sym (free_unfold nodes numbered i n e)

    node_same : (i : ℕ) → IsOf nodes Expression i → terms.free_at all_terms i ≡ free nodes i
    node_same i s = ap (λ n. term_vars n i) (length-map nodes (term_of ts nodes)) ∙ vars_same (length nodes) i (omega arith) (inl s)

pub same_free : (ts : List TypeName) (p : Bare) → IsBare p → HasSameFree ts p
same_free ts p bare = record {
  node = node_at;
  rules = λ rs h. rules_free ts p.nodes bare.sorts (terms.free_at (terms_of ts p)) rs (rules_at rs h);
  fields = λ fs h. parts_free ts p.nodes bare.sorts (terms.free_at (terms_of ts p)) fs (fields_at fs h);
  rest = λ b later body h hb. rest_free ts p.nodes bare.sorts (terms.free_at (terms_of ts p)) b later body (binds_at (b ∷ later) h) (node_at body hb);
}
  where
    node_at : (i : ℕ) → IsExpression p i → terms.free_at (terms_of ts p) i ≡ free p.nodes i
    node_at i s = node_same ts p.nodes bare.sorts bare.numbered i s

    rules_at : (rs : List Rule) → HasRules p.nodes rs → AllByRecursion (λ r. IsOf p.nodes Pattern r.pat × (terms.free_at (terms_of ts p) r.body ≡ free p.nodes r.body)) rs
    rules_at [] h = tt
    rules_at (r ∷ rs) h = ((h.0.0, node_at r.body h.0.1), rules_at rs h.1)

    fields_at : (fs : List Field) → AreFields p fs → AllByRecursion (λ x. terms.free_at (terms_of ts p) x.node ≡ free p.nodes x.node) fs
    fields_at [] h = tt
    fields_at (x ∷ fs) h = (node_at x.node h.0, fields_at fs h.1)

    binds_at : (bs : List Binding) → AreBindings p bs → AllByRecursion (λ b. IsOf p.nodes Pattern b.pat × (terms.free_at (terms_of ts p) b.right ≡ free p.nodes b.right)) bs
    binds_at [] h = tt
    binds_at (b ∷ bs) h = ((h.0.0, node_at b.right h.0.1), binds_at bs h.1)
