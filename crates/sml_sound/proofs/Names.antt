-- The variables that are free in a node are names of its context.
use Rattle.sml_sound.proofs.Lists.{all_at, get_lt}
use Rattle.std.proofs.Common.{◌≡◌, ℕ, zero, suc, ◌+◌, ◌<◌, ◌≤◌, true, false, List, [], ◌∷◌, ◌++◌, length, Some, refl, sym, ap, ◌∙◌, subst, arith}
use Rattle.std.specs.Prelude.{slice_get, map, flat_map, nat_eq}
use Rattle.std.specs.List.{AllByRecursion}
use Rattle.std.specs.Option.{option_map}
use Rattle.std.proofs.lemmas.List.Folds.{list_any-append}
use Rattle.std.proofs.lemmas.Bool.{eqb-true, eq-eqb}
use Rattle.sml_tree.specs.declared.bare.Bare.{Bare}
use Rattle.sml_tree.specs.declared.bare.Node.{Node}
use Rattle.sml_tree.specs.declared.bare.Node.TheVariants as node
use Rattle.sml_tree.specs.declared.bare.Con.{Con}
use Rattle.sml_tree.specs.declared.bare.Con.TheVariants as con
use Rattle.sml_tree.specs.declared.bare.Field.{Field}
use Rattle.sml_tree.specs.declared.bare.Rule.{Rule}
use Rattle.sml_tree.specs.declared.bare.Binding.{Binding}
use Rattle.sml_tree.specs.declared.bare.RecBinding.{RecBinding}
use Rattle.sml_tree.specs.Sets.{has, union, union_over, without}
use Rattle.sml_tree.specs.BareParts.{node_parts, IsNumbered}
use Rattle.sml_tree.specs.Free.{free, binds, binds_of, free_of, free_match, free_fields, scoped, exception_of, names_of}
use Rattle.sml_tree.specs.IsBare.{HasSorts, IsOf, Sort, Expression, Pattern, Declaration, sort_of}
use Rattle.sml_tree.proofs.Members.{IsWithin, within_left, within_right, within_both, within_head, within_tail, without_parts, either, or_left, or_right}
use Rattle.sml_tree.proofs.FreeParts.{free_unfold, binds_unfold}
use Rattle.sml_types.specs.Tree.{Tree}
use Rattle.sml_types.specs.Poly.{Context, Poly, with_names, with_own, with_tyvars, with_type_names}
use Rattle.sml_types.specs.Library.{exn_ty}
use Rattle.sml_types.specs.Typing.{Typing, IsTyping, IsTypedNode, bound_in, bound_by, group_names, IsBinding, IsRecBinding, IsConPoly, IsMatch, made_by}

-- both names say that x stands in a list
abbrev In : List ℕ → ℕ → Type 0
In xs x = has xs x ≡ true

in_append : (xs ys : List ℕ) (x : ℕ) (P : Type 0) → In (xs ++ ys) x → (In xs x → P) → (In ys x → P) → P
in_append xs ys x P h f g = either (has xs x) (has ys x) P (sym (list_any-append (nat_eq x) xs ys) ∙ h) f g

pub in_front : (xs ys : List ℕ) (x : ℕ) → In xs x → In (xs ++ ys) x
in_front xs ys x h = list_any-append (nat_eq x) xs ys ∙ or_left (has xs x) (has ys x) h

pub in_back : (xs ys : List ℕ) (x : ℕ) → In ys x → In (xs ++ ys) x
in_back xs ys x h = list_any-append (nat_eq x) xs ys ∙ or_right (has xs x) (has ys x) h

in_one : (x y : ℕ) (ys : List ℕ) → In ys y → In (x ∷ []) y → x ≡ y → In ys x
in_one x y ys h g e = subst (In ys) (sym e) h

head_in : (x : ℕ) (xs : List ℕ) (z : ℕ) → nat_eq z x ≡ true → In (x ∷ xs) z
head_in x xs z h = or_left (nat_eq z x) (has xs z) h

-- the one member of a list of one
one_only : (x : ℕ) (ys : List ℕ) → In ys x → IsWithin (x ∷ []) ys
one_only x ys h z g =
    either (nat_eq z x) false (In ys z) g (λ e. subst (In ys) (sym (eqb-true z x e)) h) (λ e. cc)

pub self_in : (x : ℕ) → In (x ∷ []) x
self_in x = or_left (nat_eq x x) false (eq-eqb x x refl)

within_nil : (ys : List ℕ) → IsWithin [] ys
within_nil ys z h = cc

over_within : {B : Type 0} (f : B → List ℕ) (xs : List B) (ys : List ℕ) → AllByRecursion (λ x. IsWithin (f x) ys) xs → IsWithin (union_over f xs) ys
over_within f [] ys h = within_nil ys
over_within f (x ∷ xs) ys h = within_both (f x) (union_over f xs) ys h.0 (over_within f xs ys h.1)

-- the sort that a node is of
pub sort_is : (nodes : List Node) (s : Sort) (c : ℕ) (n : Node) → slice_get nodes c ≡ Some n → IsOf nodes s c → sort_of n ≡ s
sort_is nodes s c n e h = let q : Some (sort_of n) ≡ Some s = ap (option_map sort_of) (sym e) ∙ h in cc

module _ (p : Bare) (t : Typing) (typing : IsTyping p t) (numbered : IsNumbered p.nodes) (sorts : AllByRecursion (HasSorts p.nodes) p.nodes) where
  pub sorts_at : (i : ℕ) (n : Node) → slice_get p.nodes i ≡ Some n → HasSorts p.nodes n
  sorts_at i n e = all_at (HasSorts p.nodes) p.nodes i n sorts e

  pub rule_at : (i : ℕ) (n : Node) → slice_get p.nodes i ≡ Some n → IsTypedNode p t (t.contexts i) (t.types i) (t.binds i) n
  rule_at i n e = typing.rules i n (get_lt p.nodes i n e) e

  get_some : {A : Type 0} (xs : List A) (i : ℕ) → i < length xs → (x : A) × (slice_get xs i ≡ Some x)
  get_some [] i h = absurd (omega arith)
  get_some (x ∷ xs) zero h = (x, refl)
  get_some (x ∷ xs) (suc i) h = get_some xs i (omega arith)

  -- ---- What the typing says that a pattern or a declaration binds, the tree says too

  -- all of a sort from number i on bind what the typing says
  abbrev Binds : ℕ → Type 0
  Binds c = (IsOf p.nodes Expression c → ⊥) → IsWithin (t.binds c) (binds p.nodes c)

  is_not : (s : Sort) (c : ℕ) (n : Node) → slice_get p.nodes c ≡ Some n → IsOf p.nodes s c → (s ≡ Expression → ⊥) → IsOf p.nodes Expression c → ⊥
  is_not s c n e h d g = d (sym (sort_is p.nodes s c n e h) ∙ sort_is p.nodes Expression c n e g)

  -- a part of the sort of patterns binds
  of_pattern : (c : ℕ) → c < length p.nodes → IsOf p.nodes Pattern c → Binds c → IsWithin (t.binds c) (binds p.nodes c)
  of_pattern c lt h b = let n = get_some p.nodes c lt in b (is_not Pattern c n.0 n.1 h (λ e. cc))

  abbrev Part : ℕ → Type 0
  Part c = (c < length p.nodes) × Binds c

  fields_bound : (fields : List Field) → AllByRecursion (λ f. IsOf p.nodes Pattern f.node) fields → AllByRecursion Part (map (λ f. f.node) fields) → IsWithin (bound_in p t fields) (union_over (λ f. binds p.nodes f.node) fields)
  fields_bound [] s h z m = m
  fields_bound (f ∷ fields) s h z m =
      in_append (t.binds f.node) (bound_in p t fields) z (In (union_over (λ f. binds p.nodes f.node) (f ∷ fields)) z) m
      (λ a. within_head (λ f. binds p.nodes f.node) f fields z (of_pattern f.node h.0.0 s.0 h.0.1 z a))
      (λ a. within_tail (λ f. binds p.nodes f.node) f fields z (fields_bound fields s.1 h.1 z a))

  bindings_bound : (bs : List Binding) → AllByRecursion (λ b. IsOf p.nodes Pattern b.pat × IsOf p.nodes Expression b.right) bs → AllByRecursion Part (flat_map (λ b. b.pat ∷ b.right ∷ []) bs) → IsWithin (bound_by p t bs) (union_over (λ b. binds p.nodes b.pat) bs)
  bindings_bound [] s h z m = m
  bindings_bound (b ∷ bs) s h z m =
      in_append (t.binds b.pat) (bound_by p t bs) z (In (union_over (λ b. binds p.nodes b.pat) (b ∷ bs)) z) m
      (λ a. within_head (λ b. binds p.nodes b.pat) b bs z (of_pattern b.pat h.0.0 s.0.0 h.0.1 z a))
      (λ a. within_tail (λ b. binds p.nodes b.pat) b bs z (bindings_bound bs s.1 h.1.1 z a))

  pub group_bound : (bs : List RecBinding) → IsWithin (group_names bs) (names_of bs)
  group_bound [] z m = m
  group_bound (b ∷ bs) z m =
      either (nat_eq z b.name.0) (has (group_names bs) z) (In (names_of (b ∷ bs)) z) m
      (λ a. within_head (λ (b : RecBinding). b.name.0 ∷ []) b bs z (head_in b.name.0 [] z a))
      (λ a. within_tail (λ (b : RecBinding). b.name.0 ∷ []) b bs z (group_bound bs z a))

  by_eq : (xs ys zs : List ℕ) → xs ≡ ys → IsWithin ys zs → IsWithin xs zs
  by_eq xs ys zs e h = subst (λ q. IsWithin q zs) (sym e) h

  node_bound : (c : Context) (ty : Tree) (bs : List ℕ) (n : Node) → IsTypedNode p t c ty bs n → HasSorts p.nodes n → AllByRecursion Part (node_parts n) → (sort_of n ≡ Expression → ⊥) → IsWithin bs (binds_of (binds p.nodes) n)
  node_bound c ty bs node.Wild r s h d = by_eq bs [] [] r (λ z m. m)
  node_bound c ty bs (node.PatInt m) r s h d = by_eq bs [] [] r.1 (λ z m. m)
  node_bound c ty bs (node.PatChar m) r s h d = by_eq bs [] [] r.1 (λ z m. m)
  node_bound c ty bs (node.PatText m) r s h d = by_eq bs [] [] r.1 (λ z m. m)
  node_bound c ty bs (node.PatVar x) r s h d = by_eq bs (x.0 ∷ []) (x.0 ∷ []) r.1 (λ z m. m)
  node_bound c ty bs (node.PatCon k) r s h d = by_eq bs [] [] r.2 (λ z m. m)
  node_bound c ty bs (node.PatApp k q) r s h d = by_eq bs (t.binds q) (binds p.nodes q) r.4 (of_pattern q h.0.0 s h.0.1)
  node_bound c ty bs (node.PatRecord fields) r s h d =
      by_eq bs (bound_in p t fields) (union_over (λ f. binds p.nodes f.node) fields) r.1 (fields_bound fields s h)
  node_bound c ty bs (node.PatTyped q j) r s h d = by_eq bs (t.binds q) (binds p.nodes q) r.2 (of_pattern q h.0.0 s h.0.1)
  node_bound c ty bs (node.PatAs x q) r s h d =
      by_eq bs (x.0 ∷ t.binds q) (union (x.0 ∷ []) (binds p.nodes q)) r.2 (λ z m.
      either (nat_eq z x.0) (has (t.binds q) z) (In (union (x.0 ∷ []) (binds p.nodes q)) z) m
      (λ a. within_left (x.0 ∷ []) (binds p.nodes q) z (head_in x.0 [] z a))
      (λ a. within_right (x.0 ∷ []) (binds p.nodes q) z (of_pattern q h.0.0 s h.0.1 z a)))
  node_bound c ty bs (node.PatAsCon x q) r s h d = absurd r
  node_bound c ty bs (node.Val us bindings) r s h d =
      by_eq bs (bound_by p t bindings) (union_over (λ b. binds p.nodes b.pat) bindings) r.1 (bindings_bound bindings s h)
  node_bound c ty bs (node.ValRec us bindings) r s h d = by_eq bs (group_names bindings) (names_of bindings) r.1 (group_bound bindings)
  node_bound c ty bs (node.Type bindings) r s h d = by_eq bs [] [] r.1 (λ z m. m)
  node_bound c ty bs (node.Datatype bindings) r s h d = by_eq bs [] [] r.2 (λ z m. m)
  node_bound c ty bs (node.Exception x arg) r s h d = by_eq bs (x.0 ∷ []) (x.0 ∷ []) r.3 (λ z m. m)
  node_bound c ty bs (node.SameException x k) r s h d = by_eq bs (x.0 ∷ []) (x.0 ∷ []) r.2 (λ z m. m)
  node_bound c ty bs (node.NoException x) r s h d = absurd r
  node_bound c ty bs _ r s h d = absurd (d refl)

  all_parts : (P Q : ℕ → Type 0) (is : List ℕ) → ((i : ℕ) → P i → Q i) → AllByRecursion P is → AllByRecursion Q is
  all_parts P Q [] f h = tt
  all_parts P Q (i ∷ is) f h = (f i h.0, all_parts P Q is f h.1)

  parts_of : (P : ℕ → Type 0) (i : ℕ) (n : Node) → slice_get p.nodes i ≡ Some n → ((c : ℕ) (m : Node) → slice_get p.nodes c ≡ Some m → i < c → P c) → AllByRecursion P (node_parts n)
  parts_of P i n e f =
      all_parts (λ c. (i < c) × (c < length p.nodes)) P (node_parts n) (λ c h. let m = get_some p.nodes c h.1 in f c m.0 m.1 h.0) (numbered i n e)

  bound_from : (k i : ℕ) (n : Node) → slice_get p.nodes i ≡ Some n → length p.nodes ≤ k + i → Binds i
  bound_from zero i n e lt d = let h = get_lt p.nodes i n e in absurd (omega arith)
  bound_from (suc k) i n e lt d =
      subst (IsWithin (t.binds i)) (sym (binds_unfold p.nodes numbered i n e))
      (node_bound (t.contexts i) (t.types i) (t.binds i) n (rule_at i n e) (sorts_at i n e) (parts_of Part i n e (λ c m g h. (get_lt p.nodes c m g, bound_from k c m g (omega (arith, h))))) (λ s. d (ap (option_map sort_of) e ∙ ap Some s)))

  pub pattern_binds : (c : ℕ) (n : Node) → slice_get p.nodes c ≡ Some n → (sort_of n ≡ Expression → ⊥) → IsWithin (t.binds c) (binds p.nodes c)
  pattern_binds c n e d = bound_from (length p.nodes) c n e (omega arith) (λ h. d (sort_is p.nodes Expression c n e h))

  -- ---- Free variables

  abbrev Known : ℕ → Type 0
  Known c = (c < length p.nodes) × IsWithin (free p.nodes c) (t.contexts c).names

  known_in : (i : ℕ) (c : Context) → t.contexts i ≡ c → Known i → IsWithin (free p.nodes i) c.names
  known_in i c e h = subst (λ c. IsWithin (free p.nodes i) c.names) e h.1

  binds_at : (s : Sort) (c : ℕ) → (s ≡ Expression → ⊥) → IsOf p.nodes s c → c < length p.nodes → IsWithin (t.binds c) (binds p.nodes c)
  binds_at s c d h lt = let n = get_some p.nodes c lt in pattern_binds c n.0 n.1 (λ e. d (sym (sort_is p.nodes s c n.0 n.1 h) ∙ e))

  scoped_known : (q e : ℕ) (ns : List ℕ) → IsWithin (free p.nodes q) ns → IsWithin (free p.nodes e) (t.binds q ++ ns) → IsWithin (t.binds q) (binds p.nodes q) → IsWithin (scoped (binds p.nodes) (free p.nodes) q e) ns
  scoped_known q e ns hq he hb =
      within_both (free p.nodes q) (without (free p.nodes e) (binds p.nodes q)) ns hq (λ z m.
      let w = without_parts (free p.nodes e) (binds p.nodes q) z m in
      in_append (t.binds q) ns z (In ns z) (he z w.0) (λ a. let x = hb z a in let y = w.1 in cc) (λ a. a))

  rules_known : (c : Context) (a b : Tree) (rules : List Rule) → IsMatch p t rules c a b → AllByRecursion (λ r. IsOf p.nodes Pattern r.pat × IsOf p.nodes Expression r.body) rules → AllByRecursion Known (flat_map (λ r. r.pat ∷ r.body ∷ []) rules) → IsWithin (free_match (binds p.nodes) (free p.nodes) rules) c.names
  rules_known c a b [] r s h = within_nil c.names
  rules_known c a b (x ∷ rules) r s h =
      within_both (scoped (binds p.nodes) (free p.nodes) x.pat x.body) (free_match (binds p.nodes) (free p.nodes) rules) c.names
      (scoped_known x.pat x.body c.names (known_in x.pat c r.0.0.0 h.0) (known_in x.body (with_names (t.binds x.pat) c) r.0.1.0 h.1.0) (binds_at Pattern x.pat (λ e. cc) s.0.0 h.0.0))
      (rules_known c a b rules r.1 s.1 h.1.1)

  fields_known : (c : Context) (fields : List Field) → AllByRecursion (λ f. t.contexts f.node ≡ c) fields → AllByRecursion Known (map (λ f. f.node) fields) → IsWithin (free_fields (free p.nodes) fields) c.names
  fields_known c [] r h = within_nil c.names
  fields_known c (f ∷ fields) r h =
      within_both (free p.nodes f.node) (free_fields (free p.nodes) fields) c.names (known_in f.node c r.0 h.0) (fields_known c fields r.1 h.1)

  exception_known : (c : Context) (k : Con) (s : Poly) → IsConPoly p t c k s → IsWithin (exception_of k) c.names
  exception_known c (con.Data n k takes) s h = within_nil c.names
  exception_known c con.Ref s h = within_nil c.names
  exception_known c (con.Exn x takes) s h = one_only x.0 c.names h.0
  exception_known c (con.Library e) s h = within_nil c.names

  bindings_known : (c inner : Context) (bs : List Binding) → inner.names ≡ c.names → AllByRecursion (IsBinding p t c inner) bs → AllByRecursion Known (flat_map (λ b. b.pat ∷ b.right ∷ []) bs) → IsWithin (union_over (λ b. union (free p.nodes b.pat) (free p.nodes b.right)) bs) c.names
  bindings_known c inner [] e r h = within_nil c.names
  bindings_known c inner (b ∷ bs) e r h =
      within_both (union (free p.nodes b.pat) (free p.nodes b.right)) (union_over (λ b. union (free p.nodes b.pat) (free p.nodes b.right)) bs) c.names
      (within_both (free p.nodes b.pat) (free p.nodes b.right) c.names (subst (IsWithin (free p.nodes b.pat)) e (known_in b.pat inner r.0.0 h.0)) (subst (IsWithin (free p.nodes b.right)) e (known_in b.right inner r.0.1.0 h.1.0)))
      (bindings_known c inner bs e r.1 h.1.1)

  group_known : (c inner : Context) (bs : List RecBinding) → AllByRecursion (IsRecBinding p t c inner) bs → AllByRecursion Known (map (λ b. b.right) bs) → IsWithin (union_over (λ b. free p.nodes b.right) bs) inner.names
  group_known c inner [] r h = within_nil inner.names
  group_known c inner (b ∷ bs) r h =
      within_both (free p.nodes b.right) (union_over (λ b. free p.nodes b.right) bs) inner.names (known_in b.right inner r.0.0 h.0) (group_known c inner bs r.1 h.1)

  node_known : (c : Context) (ty : Tree) (bs : List ℕ) (n : Node) → IsTypedNode p t c ty bs n → HasSorts p.nodes n → AllByRecursion Known (node_parts n) → IsWithin (free_of (binds p.nodes) (free p.nodes) n) c.names
  node_known c ty bs (node.Var x) r s h = one_only x.0 c.names r.0
  node_known c ty bs (node.Constructor k) r s h = exception_known c k r.0 r.1
  node_known c ty bs (node.Record fields) r s h = fields_known c fields r.0 h
  node_known c ty bs (node.App f a) r s h =
      within_both (free p.nodes f) (free p.nodes a) c.names (known_in f c r.1.0 h.0) (known_in a c r.2.0 h.1.0)
  node_known c ty bs (node.Case e rules) r s h =
      within_both (free p.nodes e) (free_match (binds p.nodes) (free p.nodes) rules) c.names (known_in e c r.1.0 h.0) (rules_known c r.0 ty rules r.2 s.1 h.1)
  node_known c ty bs (node.Fn rules) r s h = rules_known c r.0 r.1 rules r.3 s h
  node_known c ty bs (node.Raise e) r s h = known_in e c r.0 h.0
  node_known c ty bs (node.Handle e rules) r s h =
      within_both (free p.nodes e) (free_match (binds p.nodes) (free p.nodes) rules) c.names (known_in e c r.0.0 h.0) (rules_known c exn_ty ty rules r.1 s.1 h.1)
  node_known c ty bs (node.Typed e j) r s h = known_in e c r.0.0 h.0
  node_known c ty bs (node.Let d e) r s h =
      scoped_known d e c.names (known_in d c r.0 h.0) (known_in e (with_type_names (made_by (slice_get p.nodes d)) (with_names (t.binds d) c)) r.1.0 h.1.0) (binds_at Declaration d (λ e. cc) s.0 h.0.0)
  node_known c ty bs (node.PatCon k) r s h = exception_known c k r.0.0 r.0.1
  node_known c ty bs (node.PatApp k q) r s h =
      within_both (exception_of k) (free p.nodes q) c.names (exception_known c k r.1.0 r.1.1) (known_in q c r.3.0 h.0)
  node_known c ty bs (node.PatRecord fields) r s h = fields_known c fields r.0.0 h
  node_known c ty bs (node.PatTyped q j) r s h = known_in q c r.0.0 h.0
  node_known c ty bs (node.PatAs x q) r s h = known_in q c r.1.0 h.0
  node_known c ty bs (node.PatAsCon x q) r s h = absurd r
  node_known c ty bs (node.Val us bindings) r s h = bindings_known c (with_tyvars us c) bindings refl r.0 h
  node_known c ty bs (node.ValRec us bindings) r s h = λ z m.
      let w = without_parts (union_over (λ b. free p.nodes b.right) bindings) (names_of bindings) z m in
      in_append (group_names bindings) c.names z (In c.names z) (group_known c (with_tyvars us (with_own (group_names bindings) c)) bindings r.0 h z w.0) (λ a. let x = group_bound bindings z a in let y = w.1 in cc) (λ a. a)
  node_known c ty bs (node.SameException x k) r s h = exception_known c k (t.schemes x.0) r.1
  node_known c ty bs _ r s h = within_nil c.names

  known_from : (k i : ℕ) (n : Node) → slice_get p.nodes i ≡ Some n → length p.nodes ≤ k + i → Known i
  known_from zero i n e lt = let h = get_lt p.nodes i n e in absurd (omega arith)
  known_from (suc k) i n e lt =
      (get_lt p.nodes i n e, subst (λ xs. IsWithin xs (t.contexts i).names) (sym (free_unfold p.nodes numbered i n e)) (node_known (t.contexts i) (t.types i) (t.binds i) n (rule_at i n e) (sorts_at i n e) (parts_of Known i n e (λ c m g h. known_from k c m g (omega (arith, h))))))

  pub free_known : (i : ℕ) → i < length p.nodes → IsWithin (free p.nodes i) (t.contexts i).names
  free_known i lt = let n = get_some p.nodes i lt in (known_from (length p.nodes) i n.0 n.1 (omega arith)).1
