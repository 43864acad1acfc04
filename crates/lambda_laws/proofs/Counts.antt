-- What is counted of terms against what is counted of nodes, over a whole tree: where a node's term has no more than the node and its patterns, and
-- each pattern no more than its nodes, all terms have no more than all nodes.
use Rattle.std.proofs.Common.{◌≡◌, ℕ, zero, suc, ◌+◌, ◌<◌, ◌≤◌, true, List, [], ◌∷◌, length, Option, Some, None, refl, sym, ap, ◌∙◌, map, arith}
use Rattle.std.proofs.lemmas.Option.{slice_get_past}
use Rattle.std.specs.Prelude.{slice_get, flat_map}
use Rattle.std.specs.List.{AllByRecursion}
use Rattle.std.specs.Option.{option_map}
use Rattle.sml_tree.specs.declared.bare.Node.{Node}
use Rattle.sml_tree.specs.declared.bare.Node.TheVariants as node
use Rattle.sml_tree.specs.declared.bare.Field.{Field}
use Rattle.sml_tree.specs.declared.bare.Rule.{Rule}
use Rattle.sml_tree.specs.declared.bare.Binding.{Binding}
use Rattle.sml_tree.specs.declared.bare.RecBinding.{RecBinding}
use Rattle.sml_tree.specs.BareParts.{node_parts, rule_parts, at_node, IsNumbered}
use Rattle.sml_tree.specs.IsBare.{IsPreorder, InRow, HasSorts, HasRules, IsOf, Sort, Expression, Pattern, Declaration, sort_of, is_function, size, size_of, sum_of}
use Rattle.sml_tree.proofs.Ascends.{size_unfold}
use Rattle.sml_def.proofs.Effects.{all_get}
use Rattle.sml_def.proofs.Options.{if_some}
use Rattle.lambda_laws.specs.Size.{total}
use Rattle.lambda_laws.proofs.FreeSame.{function_exp}

-- ---- Sums over a row of numbers

abbrev pub span : (ℕ → ℕ) → ℕ → ℕ → ℕ
span f i zero = 0
span f i (suc k) = f i + span f (suc i) k

span_append : (f : ℕ → ℕ) (i a b : ℕ) → span f i (a + b) ≡ span f i a + span f (i + a) b
span_append f i zero b =
    let e : i ≡ i + 0 = omega arith in
    let g = ap (λ j. span f j b) e in
    let z : 0 + b ≡ b = omega arith in
    let h = ap (span f i) z in
    omega (arith, g, h)
span_append f i (suc a) b =
    let e : suc i + a ≡ i + suc a = omega arith in
    let h = span_append f (suc i) a b in
    let g : span f (suc i + a) b ≡ span f (i + suc a) b = ap (λ j. span f j b) e in
    let z : suc a + b ≡ suc (a + b) = omega arith in
    let y : span f i (suc a + b) ≡ f i + span f (suc i) (a + b) = ap (span f i) z in
    omega (arith, h, g, y)

span_shift : (f : ℕ → ℕ) (i k : ℕ) → span f (suc i) k ≡ span (λ j. f (suc j)) i k
span_shift f i zero = refl
span_shift f i (suc k) = ap (λ n. f (suc i) + n) (span_shift f (suc i) k)

abbrev pub counted : {A : Type 0} → (A → ℕ) → Option A → ℕ
counted f None = 0
counted f (Some n) = f n

span_list : {A : Type 0} (f : A → ℕ) (xs : List A) → span (λ i. counted f (slice_get xs i)) 0 (length xs) ≡ total f xs
span_list f [] = refl
span_list f (y ∷ xs) =
    let h = span_list f xs in
    let s = span_shift (λ i. counted f (slice_get (y ∷ xs) i)) 0 (length xs) in
    omega (arith, h, s)

-- over the parts of a node
abbrev pub row : (ℕ → ℕ) → (ℕ → ℕ) → List ℕ → ℕ
row size f [] = 0
row size f (c ∷ cs) = span f c (size c) + row size f cs

span_row : (sz f : ℕ → ℕ) (j : ℕ) (cs : List ℕ) → InRow sz j cs → span f j (sum_of sz cs) ≡ row sz f cs
span_row sz f j [] h = refl
span_row sz f j (c ∷ cs) h =
    let a = span_append f j (sz c) (sum_of sz cs) in
    let b = span_row sz f (j + sz c) cs h.1 in
    let e : span f j (sz c) ≡ span f c (sz c) = ap (λ i. span f i (sz c)) (sym h.0) in
    omega (arith, a, b, e)

-- the patterns of a node's rules or bindings
abbrev pub patterns_in : Node → List ℕ
patterns_in (node.Case e rules) = map (λ r. r.pat) rules
patterns_in (node.Fn rules) = map (λ r. r.pat) rules
patterns_in (node.Handle e rules) = map (λ r. r.pat) rules
patterns_in (node.Val tyvars bindings) = map (λ b. b.pat) bindings
patterns_in _ = []

module _ (nodes : List Node) (numbered : IsNumbered nodes) (preorder : IsPreorder nodes) (sorts : AllByRecursion (HasSorts nodes) nodes) where
  pub sorts_at : (i : ℕ) (n : Node) → slice_get nodes i ≡ Some n → HasSorts nodes n
  sorts_at i n e = if_some (HasSorts nodes) (slice_get nodes i) n e (all_get (HasSorts nodes) nodes i sorts)

  pub is_of : (s : Sort) (i : ℕ) (n : Node) → slice_get nodes i ≡ Some n → IsOf nodes s i → sort_of n ≡ s
  is_of s i n e h = let f : Some (sort_of n) ≡ Some s = sym (ap (option_map sort_of) e) ∙ h in cc

  pub none_of : (s : Sort) (i : ℕ) → slice_get nodes i ≡ None → IsOf nodes s i → ⊥
  none_of s i e h = let f : None ≡ Some s = sym (ap (option_map sort_of) e) ∙ h in cc

  -- what a node and its parts have
  pub unfolded : (f : ℕ → ℕ) (i : ℕ) (n : Node) → slice_get nodes i ≡ Some n → span f i (size nodes i) ≡ f i + row (size nodes) f (node_parts n)
  unfolded f i n e =
      ap (span f i) (size_unfold nodes numbered preorder i ∙ ap (at_node 0 size_of (size nodes) i) e)
      ∙ ap (λ k. f i + k) (span_row (size nodes) f (suc i) (node_parts n) (preorder.parts i n e))

  module _ (paid owned : Node → ℕ) (cost : ℕ → ℕ) where
    abbrev pub own : ℕ → ℕ
    own i = counted owned (slice_get nodes i)

    abbrev termed : ℕ → ℕ
    termed i = counted paid (slice_get nodes i)

    -- all that a node and its parts have, by nodes and by terms
    abbrev pub below : ℕ → ℕ
    below i = span own i (size nodes i)

    abbrev below_terms : ℕ → ℕ
    below_terms i = span termed i (size nodes i)

    abbrev rows : List ℕ → ℕ
    rows cs = row (size nodes) own cs

    abbrev term_rows : List ℕ → ℕ
    term_rows cs = row (size nodes) termed cs

    -- a pattern has no term, and any other node's term has no more than the node and its patterns
    pub record IsPaid : Type 0 where
      pub pattern : (n : Node) → sort_of n ≡ Pattern → paid n ≡ 0
      pub other : (n : Node) → (sort_of n ≡ Pattern → ⊥) → paid n ≤ owned n + total cost (patterns_in n)
      pub each : (i : ℕ) → IsOf nodes Pattern i → cost i ≤ below i

    module _ (is : IsPaid) where
      abbrev Later : ℕ → ℕ → Type 0
      Later i c = (i < c) × (c < length nodes)

      -- ---- Patterns

      module _ (i : ℕ) (f : (c : ℕ) → i < c → IsOf nodes Pattern c → below_terms c ≡ 0) where
        fields_none : (fields : List Field) → AllByRecursion (Later i) (map (λ y. y.node) fields) → AllByRecursion (λ y. IsOf nodes Pattern y.node) fields → term_rows (map (λ y. y.node) fields) ≡ 0
        fields_none [] l s = refl
        fields_none (y ∷ fields) l s = let h = f y.node l.0.0 s.0 in let g = fields_none fields l.1 s.1 in omega (arith, h, g)

        parts_none : (n : Node) → AllByRecursion (Later i) (node_parts n) → HasSorts nodes n → sort_of n ≡ Pattern → term_rows (node_parts n) ≡ 0
        parts_none node.Wild l s e = refl
        parts_none (node.PatInt z) l s e = refl
        parts_none (node.PatChar c) l s e = refl
        parts_none (node.PatText y) l s e = refl
        parts_none (node.PatVar y) l s e = refl
        parts_none (node.PatCon c) l s e = refl
        parts_none (node.PatApp c q) l s e = let h = f q l.0.0 s in omega (arith, h)
        parts_none (node.PatRecord fields) l s e = fields_none fields l s
        parts_none (node.PatTyped q ty) l s e = let h = f q l.0.0 s in omega (arith, h)
        parts_none (node.PatAs y q) l s e = let h = f q l.0.0 s in omega (arith, h)
        parts_none (node.PatAsCon y q) l s e = let h = f q l.0.0 s in omega (arith, h)
        parts_none _ l s e = cc

      patterns_none : (k i : ℕ) → length nodes ≤ k + i → IsOf nodes Pattern i → below_terms i ≡ 0
      patterns_none zero i l s = absurd (none_of Pattern i (slice_get_past nodes i (omega (arith, l))) s)
      patterns_none (suc k) i l s = go (slice_get nodes i) refl (λ c lt sc. patterns_none k c (omega (arith, l, lt)) sc)
        where
          go : (o : Option Node) → slice_get nodes i ≡ o → ((c : ℕ) → i < c → IsOf nodes Pattern c → below_terms c ≡ 0) → below_terms i ≡ 0
          go None e f = absurd (none_of Pattern i e s)
          go (Some n) e f =
              let h = parts_none i f n (numbered i n e) (sorts_at i n e) (is_of Pattern i n e s) in
              let a = unfolded termed i n e in
              let o : termed i ≡ paid n = ap (counted paid) e in
              let z = is.pattern n (is_of Pattern i n e s) in
              omega (arith, h, a, o, z)

      pattern_none : (i : ℕ) → IsOf nodes Pattern i → below_terms i ≡ 0
      pattern_none i s = patterns_none (length nodes) i (omega arith) s

      -- ---- Expressions and declarations

      abbrev Most : ℕ → Type 0
      Most c = below_terms c ≤ below c

      module _ (i : ℕ) (f : (c : ℕ) → i < c → IsOf nodes Expression c → Most c) (g : (c : ℕ) → i < c → IsOf nodes Declaration c → Most c) where
        rules_most : (rules : List Rule) → AllByRecursion (Later i) (flat_map rule_parts rules) → HasRules nodes rules → total cost (map (λ r. r.pat) rules) + term_rows (flat_map rule_parts rules) ≤ rows (flat_map rule_parts rules)
        rules_most [] l s = omega arith
        rules_most (r ∷ rules) l s =
            let h = is.each r.pat s.0.0 in
            let z = pattern_none r.pat s.0.0 in
            let b = f r.body l.1.0.0 s.0.1 in
            let rest = rules_most rules l.1.1 s.1 in
            omega (arith, h, z, b, rest)

        binds_most : (bs : List Binding) → AllByRecursion (Later i) (flat_map (λ b. b.pat ∷ b.right ∷ []) bs) → AllByRecursion (λ b. IsOf nodes Pattern b.pat × IsOf nodes Expression b.right) bs → total cost (map (λ b. b.pat) bs) + term_rows (flat_map (λ b. b.pat ∷ b.right ∷ []) bs) ≤ rows (flat_map (λ b. b.pat ∷ b.right ∷ []) bs)
        binds_most [] l s = omega arith
        binds_most (b ∷ bs) l s =
            let h = is.each b.pat s.0.0 in
            let z = pattern_none b.pat s.0.0 in
            let r = f b.right l.1.0.0 s.0.1 in
            let rest = binds_most bs l.1.1 s.1 in
            omega (arith, h, z, r, rest)

        fields_most : (fields : List Field) → AllByRecursion (Later i) (map (λ y. y.node) fields) → AllByRecursion (λ y. IsOf nodes Expression y.node) fields → term_rows (map (λ y. y.node) fields) ≤ rows (map (λ y. y.node) fields)
        fields_most [] l s = omega arith
        fields_most (y ∷ fields) l s = let h = f y.node l.0.0 s.0 in let rest = fields_most fields l.1 s.1 in omega (arith, h, rest)

        group_most : (bs : List RecBinding) → AllByRecursion (Later i) (map (λ b. b.right) bs) → AllByRecursion (λ b. is_function nodes b.right ≡ true) bs → term_rows (map (λ b. b.right) bs) ≤ rows (map (λ b. b.right) bs)
        group_most [] l s = omega arith
        group_most (b ∷ bs) l s =
            let h = f b.right l.0.0 (function_exp [] nodes sorts numbered (length nodes) b.right s.0) in let rest = group_most bs l.1 s.1 in omega (arith, h, rest)

        parts_most : (n : Node) → AllByRecursion (Later i) (node_parts n) → HasSorts nodes n → (sort_of n ≡ Pattern → ⊥) → total cost (patterns_in n) + term_rows (node_parts n) ≤ rows (node_parts n)
        parts_most (node.Record fields) l s e = let h = fields_most fields l s in omega (arith, h)
        parts_most (node.App y a) l s e = let h = f y l.0.0 s.0 in let b = f a l.1.0.0 s.1 in omega (arith, h, b)
        parts_most (node.Case y rules) l s e = let h = f y l.0.0 s.0 in let b = rules_most rules l.1 s.1 in omega (arith, h, b)
        parts_most (node.Fn rules) l s e = rules_most rules l s
        parts_most (node.Raise y) l s e = let h = f y l.0.0 s in omega (arith, h)
        parts_most (node.Handle y rules) l s e = let h = f y l.0.0 s.0 in let b = rules_most rules l.1 s.1 in omega (arith, h, b)
        parts_most (node.Typed y ty) l s e = let h = f y l.0.0 s in omega (arith, h)
        parts_most (node.Let d y) l s e = let h = g d l.0.0 s.0 in let b = f y l.1.0.0 s.1 in omega (arith, h, b)
        parts_most (node.Val tyvars bs) l s e = binds_most bs l s
        parts_most (node.ValRec tyvars bs) l s e = let h = group_most bs l s in omega (arith, h)
        parts_most (node.PatApp c q) l s e = absurd (e refl)
        parts_most (node.PatRecord fields) l s e = absurd (e refl)
        parts_most (node.PatTyped q ty) l s e = absurd (e refl)
        parts_most (node.PatAs y q) l s e = absurd (e refl)
        parts_most (node.PatAsCon y q) l s e = absurd (e refl)
        parts_most _ l s e = omega arith

      others_most : (k i : ℕ) → length nodes ≤ k + i → (n : Node) → slice_get nodes i ≡ Some n → (sort_of n ≡ Pattern → ⊥) → Most i
      others_most zero i l n e s = absurd (let none : None ≡ Some n = sym (slice_get_past nodes i (omega (arith, l))) ∙ e in cc)
      others_most (suc k) i l n e s =
          let h = parts_most i (λ c lt sc. part (λ c le m q z. others_most k c le m q z) Expression c (omega (arith, l, lt)) sc (λ z. cc)) (λ c lt sc. part (λ c le m q z. others_most k c le m q z) Declaration c (omega (arith, l, lt)) sc (λ z. cc)) n (numbered i n e) (sorts_at i n e) s in
          let a = unfolded own i n e in
          let b = unfolded termed i n e in
          let oa : own i ≡ owned n = ap (counted owned) e in
          let ob : termed i ≡ paid n = ap (counted paid) e in
          let o = is.other n s in
          omega (arith, h, a, b, oa, ob, o)
        where
          part : ((c : ℕ) → length nodes ≤ k + c → (m : Node) → slice_get nodes c ≡ Some m → (sort_of m ≡ Pattern → ⊥) → Most c) → (sort : Sort) (c : ℕ) → length nodes ≤ k + c → IsOf nodes sort c → (sort ≡ Pattern → ⊥) → Most c
          part f sort c le sc never = go (slice_get nodes c) refl
            where
              go : (o : Option Node) → slice_get nodes c ≡ o → Most c
              go None q = absurd (none_of sort c q sc)
              go (Some m) q = f c le m q (λ z. never (sym (is_of sort c m q sc) ∙ z))

      -- all terms have no more than all nodes
      pub whole_most : IsOf nodes Expression 0 → total paid nodes ≤ total owned nodes
      whole_most s = go (slice_get nodes 0) refl
        where
          go : (o : Option Node) → slice_get nodes 0 ≡ o → total paid nodes ≤ total owned nodes
          go None q = absurd (none_of Expression 0 q s)
          go (Some n) q =
              let h = others_most (length nodes) 0 (omega arith) n q (λ z. let y = sym (is_of Expression 0 n q s) ∙ z in cc) in
              let a = sym (span_list paid nodes) ∙ sym (ap (span termed 0) preorder.whole) in
              let b = sym (span_list owned nodes) ∙ sym (ap (span own 0) preorder.whole) in
              omega (arith, h, a, b)
