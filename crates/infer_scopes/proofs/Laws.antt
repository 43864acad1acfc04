-- Contexts hold no types: they, and the names that are bound, are the same in each typing.
use Rattle.std.proofs.Common.{◌≡◌, ℕ, zero, suc, ◌+◌, ◌<◌, ◌≤◌, true, false, ◌⊎◌, inl, inr, List, [], ◌∷◌, ◌++◌, length, Option, Some, None, refl, sym, ap, ◌∙◌, arith}
use Rattle.std.specs.Prelude.{slice_get, map, flat_map}
use Rattle.std.specs.List.{AllByRecursion}
use Rattle.sml_tree.specs.declared.bare.Bare.{Bare}
use Rattle.sml_tree.specs.declared.bare.Field.{Field}
use Rattle.sml_tree.specs.declared.bare.Rule.{Rule}
use Rattle.sml_tree.specs.declared.bare.Binding.{Binding}
use Rattle.sml_tree.specs.declared.bare.RecBinding.{RecBinding}
use Rattle.sml_tree.specs.declared.bare.Node.{Node}
use Rattle.sml_tree.specs.declared.bare.Node.TheVariants as node
use Rattle.sml_tree.specs.BareParts.{node_parts, rule_parts, IsNumbered}
use Rattle.sml_types.specs.Tree.{Tree}
use Rattle.sml_types.specs.Poly.{Context, with_type_names, with_tyvars, with_names, with_own}
use Rattle.sml_types.specs.Typing.{Typing, group_names, made_by, bound_in, bound_by, IsMatch, IsBinding, IsRecBinding, IsTypedNode, IsTypingBelow}
use Rattle.infer_state.specs.Names.{names_of_fields, names_of_bindings, names_of, names_bound, Inside, inside, in_rules, in_bindings, parts_in, behind, IsOneOf, AreEntered}
use Rattle.infer_scopes.specs.Prefix.{near_parts, binding_parts, is_binder, is_binder_at, IsPrefix}
use Rattle.infer_scopes.proofs.BoundFacts.{names_at}

all_mono : {A : Type 0} (P Q : A → Type 0) → ((x : A) → P x → Q x) → (xs : List A) → AllByRecursion P xs → AllByRecursion Q xs
all_mono P Q f [] h = tt
all_mono P Q f (x ∷ xs) h = (f x h.0, all_mono P Q f xs h.1)

all_zip : {A : Type 0} (P Q R : A → Type 0) → ((x : A) → P x → Q x → R x) → (xs : List A) → AllByRecursion P xs → AllByRecursion Q xs → AllByRecursion R xs
all_zip P Q R f [] h k = tt
all_zip P Q R f (x ∷ xs) h k = (f x h.0 k.0, all_zip P Q R f xs h.1 k.1)

module _ (P : ℕ → Type 0) where
  rule_patterns : (rules : List Rule) → AllByRecursion P (flat_map rule_parts rules) → AllByRecursion P (map (λ r. r.pat) rules)
  rule_patterns [] h = tt
  rule_patterns (r ∷ rules) h = (h.0, rule_patterns rules h.1.1)

  binding_patterns : (bindings : List Binding) → AllByRecursion P (flat_map (λ b. b.pat ∷ b.right ∷ []) bindings) → AllByRecursion P (map (λ b. b.pat) bindings)
  binding_patterns [] h = tt
  binding_patterns (b ∷ bindings) h = (h.0, binding_patterns bindings h.1.1)

  -- where names are asked for stand near parts
  near_binding : (n : Node) → AllByRecursion P (near_parts n) → AllByRecursion P (binding_parts n)
  near_binding (node.Case e rules) h = rule_patterns rules h.1
  near_binding (node.Fn rules) h = rule_patterns rules h
  near_binding (node.Handle e rules) h = rule_patterns rules h.1
  near_binding (node.Let d e) h = h
  near_binding (node.PatApp k q) h = h
  near_binding (node.PatRecord fields) h = h
  near_binding (node.PatTyped q j) h = h
  near_binding (node.PatAs x q) h = h
  near_binding (node.Val us bindings) h = binding_patterns bindings h
  near_binding _ h = tt

  node_near : (n : Node) → AllByRecursion P (node_parts n) → AllByRecursion P (near_parts n)
  node_near (node.Let d e) h = (h.0, tt)
  node_near _ h = h

module _ (p : Bare) (t : Typing) where
  abbrev Bound : ℕ → Type 0
  Bound i = t.binds i ≡ names_bound p.nodes i

  fields_bound : (fields : List Field) → AllByRecursion Bound (map (λ l. l.node) fields) → bound_in p t fields ≡ names_of_fields (names_bound p.nodes) fields
  fields_bound [] h = refl
  fields_bound (l ∷ fields) h = ap (λ xs. xs ++ bound_in p t fields) h.0 ∙ ap (λ xs. names_bound p.nodes l.node ++ xs) (fields_bound fields h.1)

  bindings_bound : (bindings : List Binding) → AllByRecursion Bound (map (λ b. b.pat) bindings) → bound_by p t bindings ≡ names_of_bindings (names_bound p.nodes) bindings
  bindings_bound [] h = refl
  bindings_bound (b ∷ bindings) h = ap (λ xs. xs ++ bound_by p t bindings) h.0 ∙ ap (λ xs. names_bound p.nodes b.pat ++ xs) (bindings_bound bindings h.1)

  node_bound : (i : ℕ) (n : Node) (c : Context) (ty : Tree) (bs : List ℕ) → IsTypedNode p t c ty bs n → is_binder n ≡ true → AllByRecursion Bound (binding_parts n) → bs ≡ names_of (names_bound p.nodes) i n
  node_bound i node.Wild c ty bs h e k = h
  node_bound i (node.PatInt z) c ty bs h e k = h.1
  node_bound i (node.PatChar z) c ty bs h e k = h.1
  node_bound i (node.PatText z) c ty bs h e k = h.1
  node_bound i (node.PatVar x) c ty bs h e k = h.1
  node_bound i (node.PatCon con) c ty bs h e k = h.2
  node_bound i (node.PatApp con q) c ty bs h e k = h.4 ∙ k.0
  node_bound i (node.PatRecord fields) c ty bs h e k = h.1 ∙ fields_bound fields k
  node_bound i (node.PatTyped q j) c ty bs h e k = h.2 ∙ k.0
  node_bound i (node.PatAs x q) c ty bs h e k = h.2 ∙ ap (λ xs. x.0 ∷ xs) k.0
  node_bound i (node.PatAsCon x q) c ty bs h e k = absurd h
  node_bound i (node.Val us bindings) c ty bs h e k = h.1 ∙ bindings_bound bindings k
  node_bound i (node.ValRec us bindings) c ty bs h e k = h.1
  node_bound i (node.Type bindings) c ty bs h e k = h.1
  node_bound i (node.Datatype bindings) c ty bs h e k = h.2
  node_bound i (node.Exception x arg) c ty bs h e k = h.3
  node_bound i (node.SameException x con) c ty bs h e k = h.2
  node_bound i (node.NoException x) c ty bs h e k = absurd h
  node_bound i _ c ty bs h e k = cc

  module _ (count : ℕ) (typing : IsTypingBelow p t count) (numbered : IsNumbered p.nodes) (prefix : IsPrefix p.nodes count) where
    -- what is known of a part whose names are asked for
    abbrev Binder : ℕ → ℕ → Type 0
    Binder i c = (i < c) × (c < count) × (is_binder_at (slice_get p.nodes c) ≡ true)

    binders : (i : ℕ) (n : Node) → i < count → slice_get p.nodes i ≡ Some n → AllByRecursion (Binder i) (binding_parts n)
    binders i n l q =
        all_zip (λ c. (i < c) × (c < count)) (λ c. is_binder_at (slice_get p.nodes c) ≡ true) (Binder i) (λ c a b. (a.0, a.1, b)) (binding_parts n)
        (all_zip (λ c. (i < c) × (c < length p.nodes)) (λ c. c < count) (λ c. (i < c) × (c < count)) (λ c a b. (a.0, b)) (binding_parts n) (near_binding (λ c. (i < c) × (c < length p.nodes)) n (node_near (λ c. (i < c) × (c < length p.nodes)) n (numbered i n q))) (near_binding (λ c. c < count) n (prefix.parts i n l q)))
        (prefix.binders i n l q)

    some_binder : (c : ℕ) → is_binder_at (slice_get p.nodes c) ≡ true → (m : Node) × (slice_get p.nodes c ≡ Some m) × (is_binder m ≡ true)
    some_binder c e = go (slice_get p.nodes c) refl
      where
        go : (o : Option Node) → slice_get p.nodes c ≡ o → (m : Node) × (slice_get p.nodes c ≡ Some m) × (is_binder m ≡ true)
        go (Some m) q = (m, q, ap is_binder_at (sym q) ∙ e)
        go None q = let f : false ≡ true = ap is_binder_at (sym q) ∙ e in absurd (clash f)
          where
            clash : false ≡ true → ⊥
            clash f = cc

    bound_within : (k i : ℕ) (n : Node) → count ≤ k + i → i < count → slice_get p.nodes i ≡ Some n → is_binder n ≡ true → Bound i
    bound_within zero i n m l q e = absurd (omega arith)
    bound_within (suc k) i n m l q e =
        node_bound i n (t.contexts i) (t.types i) (t.binds i) (typing.rules i n l q) e
        (all_mono (Binder i) Bound (λ c b. let s = some_binder c b.2 in let lo = b.0 in bound_within k c s.0 (omega arith) b.1 s.1 s.2) (binding_parts n) (binders i n l q))
        ∙ sym (names_at p.nodes i n numbered q)

    -- in each typing a pattern or a declaration binds its names
    pub binds_are : (i : ℕ) (n : Node) → i < count → slice_get p.nodes i ≡ Some n → is_binder n ≡ true → t.binds i ≡ names_bound p.nodes i
    binds_are i n l q e = bound_within count i n (omega arith) l q e

    parts_bound : (i : ℕ) (n : Node) → i < count → slice_get p.nodes i ≡ Some n → AllByRecursion Bound (binding_parts n)
    parts_bound i n l q = all_mono (Binder i) Bound (λ c b. let s = some_binder c b.2 in binds_are c s.0 b.1 s.1 s.2) (binding_parts n) (binders i n l q)

    -- ---- Contexts

    abbrev Stands : Inside → Type 0
    Stands x = t.contexts x.node ≡ x.context

    fields_stand : (c : Context) (fields : List Field) → AllByRecursion (λ f. t.contexts f.node ≡ c) fields → AllByRecursion Stands (map (λ l. inside c l.node) fields)
    fields_stand c [] h = tt
    fields_stand c (l ∷ fields) h = (h.0, fields_stand c fields h.1)

    rules_stand : (c : Context) (a b : Tree) (rules : List Rule) → IsMatch p t rules c a b → AllByRecursion Bound (map (λ r. r.pat) rules) → AllByRecursion Stands (in_rules p.nodes c rules)
    rules_stand c a b [] h k = tt
    rules_stand c a b (r ∷ rules) h k = (h.0.0.0, (h.0.1.0 ∙ ap (λ xs. with_names xs c) k.0, rules_stand c a b rules h.1 k.1))

    bindings_stand : (c inner : Context) (bindings : List Binding) → AllByRecursion (IsBinding p t c inner) bindings → AllByRecursion Stands (in_bindings inner bindings)
    bindings_stand c inner [] h = tt
    bindings_stand c inner (b ∷ bindings) h = (h.0.0, (h.0.1.0, bindings_stand c inner bindings h.1))

    rights_stand : (c inner : Context) (bindings : List RecBinding) → AllByRecursion (IsRecBinding p t c inner) bindings → AllByRecursion Stands (map (λ b. inside inner b.right) bindings)
    rights_stand c inner [] h = tt
    rights_stand c inner (b ∷ bindings) h = (h.0.0, rights_stand c inner bindings h.1)

    node_stands : (n : Node) (c : Context) (ty : Tree) (bs : List ℕ) → IsTypedNode p t c ty bs n → AllByRecursion Bound (binding_parts n) → AllByRecursion Stands (parts_in p.nodes c n)
    node_stands (node.Record fields) c ty bs h k = fields_stand c fields h.0
    node_stands (node.App f a) c ty bs h k = (h.1.0, (h.2.0, tt))
    node_stands (node.Case e rules) c ty bs h k = (h.1.0, rules_stand c h.0 ty rules h.2 k)
    node_stands (node.Fn rules) c ty bs h k = rules_stand c h.0 h.1 rules h.3 k
    node_stands (node.Raise e) c ty bs h k = (h.0, tt)
    node_stands (node.Handle e rules) c ty bs h k = (h.0.0, rules_stand c _ ty rules h.1 k)
    node_stands (node.Typed e j) c ty bs h k = (h.0.0, tt)
    node_stands (node.Let d e) c ty bs h k = (h.0, tt)
    node_stands (node.PatApp con q) c ty bs h k = (h.3.0, tt)
    node_stands (node.PatRecord fields) c ty bs h k = fields_stand c fields h.0.0
    node_stands (node.PatTyped q j) c ty bs h k = (h.0.0, tt)
    node_stands (node.PatAs x q) c ty bs h k = (h.1.0, tt)
    node_stands (node.Val us bindings) c ty bs h k = bindings_stand c (with_tyvars us c) bindings h.0
    node_stands (node.ValRec us bindings) c ty bs h k = rights_stand c (with_tyvars us (with_own (group_names bindings) c)) bindings h.0
    node_stands _ c ty bs h k = tt

    -- in each typing the parts of a node stand in these contexts
    pub parts_stand : (i : ℕ) (n : Node) → i < count → slice_get p.nodes i ≡ Some n → AllByRecursion (λ x. t.contexts x.node ≡ x.context) (parts_in p.nodes (t.contexts i) n)
    parts_stand i n l q = node_stands n (t.contexts i) (t.types i) (t.binds i) (typing.rules i n l q) (parts_bound i n l q)

    body_of : (i d e : ℕ) → IsTypedNode p t (t.contexts i) (t.types i) (t.binds i) (node.Let d e) → AllByRecursion Bound (d ∷ []) → t.contexts e ≡ behind p.nodes (t.contexts i) d
    body_of i d e h k = h.1.0 ∙ ap (λ xs. with_type_names (made_by (slice_get p.nodes d)) (with_names xs (t.contexts i))) k.0

    -- and what stands behind a declaration in this one
    pub body_stands : (i d e : ℕ) → i < count → slice_get p.nodes i ≡ Some (node.Let d e) → t.contexts e ≡ behind p.nodes (t.contexts i) d
    body_stands i d e l q = body_of i d e (typing.rules i (node.Let d e) l q) (parts_bound i (node.Let d e) l q)

-- contexts that were given are those of a typing
abbrev pub AreOf : Typing → (ℕ → Option Context) → Type 0
AreOf t contexts = (i : ℕ) (c : Context) → contexts i ≡ Some c → t.contexts i ≡ c

one_stands : (t : Typing) (i : ℕ) (c : Context) (items : List Inside) → AllByRecursion (λ x. t.contexts x.node ≡ x.context) items → IsOneOf (inside c i) items → t.contexts i ≡ c
one_stands t i c [] h o = absurd o
one_stands t i c (x ∷ items) h (inl e) = ap (λ (y : Inside). t.contexts y.node) e ∙ h.0 ∙ sym (ap (λ (y : Inside). y.context) e)
one_stands t i c (x ∷ items) h (inr o) = one_stands t i c items h.1 o

-- they stay so where the items stand so in the typing
pub still_of : (t : Typing) (items : List Inside) (old new : ℕ → Option Context) → AreEntered items old new → AllByRecursion (λ x. t.contexts x.node ≡ x.context) items → AreOf t old → AreOf t new
still_of t items old new e h are i c q = go (e.only i c q)
  where
    go : (old i ≡ Some c) ⊎ IsOneOf (inside c i) items → t.contexts i ≡ c
    go (inl w) = are i c w
    go (inr w) = one_stands t i c items h w
