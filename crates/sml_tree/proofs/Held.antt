-- What is held at a point are fewer values than the program has nodes.
use Rattle.std.proofs.Common.{◌≡◌, ℕ, zero, suc, ◌+◌, ◌<◌, ◌≤◌, Bool, true, false, cond, List, [], ◌∷◌, ◌++◌, length, map, get_or, Option, Some, None, refl, sym, ap, ◌∙◌, subst, arith}
use Rattle.std.specs.Prelude.{slice_get, flat_map, nat_lt, nat_eq, not, if◌then◌else◌}
use Rattle.std.specs.List.{AllByRecursion}
use Rattle.std.proofs.lemmas.Option.{slice_get-get_or, slice_get_past}
use Rattle.smlc_base.specs.declared.point.Point.{Point}
use Rattle.sml_tree.specs.declared.bare.Node.{Node}
use Rattle.sml_tree.specs.declared.bare.Node.TheVariants as node
use Rattle.sml_tree.specs.declared.bare.Con.{Con}
use Rattle.sml_tree.specs.declared.bare.Con.TheVariants as con
use Rattle.sml_tree.specs.declared.bare.Field.{Field}
use Rattle.sml_tree.specs.declared.bare.Rule.{Rule}
use Rattle.sml_tree.specs.declared.bare.Binding.{Binding}
use Rattle.sml_tree.specs.declared.bare.RecBinding.{RecBinding}
use Rattle.sml_tree.specs.declared.points.Spot.{Spot}
use Rattle.sml_tree.specs.declared.points.Context.{Context}
use Rattle.sml_tree.specs.declared.points.Context.TheVariants.{Awaited, Plain, Before}
use Rattle.sml_tree.specs.declared.points.Part.{Part}
use Rattle.sml_tree.specs.Sets.{has, merge, union, union_over, without}
use Rattle.sml_tree.specs.BareParts.{node_parts, IsNumbered, at_node}
use Rattle.sml_tree.specs.Free.{binds, free, free_of, exception_of, scoped, free_match, free_fields, free_rest, bound_by, names_of}
use Rattle.sml_tree.specs.Points.{inside, awaited_spots, own_spots, field_parts, right_parts, rule_parts, function_parts, parts_in, spots_of, spots_at, spots}
use Rattle.sml_tree.specs.IsBare.{size, size_of, sum_of, IsPreorder}
use Rattle.sml_tree.proofs.Unfold.{all_map}
use Rattle.sml_tree.proofs.FreeParts.{free_unfold}
use Rattle.sml_tree.proofs.Walk.{each_part, spots_unfold}
use Rattle.sml_tree.proofs.Ascends.{size_unfold}

-- ---- Sets

length_merge : (x : ℕ) (xs : List ℕ) (rest : List ℕ → List ℕ) → ((ys : List ℕ) → length (rest ys) ≤ length xs + length ys) → (ys : List ℕ) → length (merge x rest ys) ≤ suc (length xs) + length ys
length_merge x xs rest h [] = let r = h [] in omega arith
length_merge x xs rest h (y ∷ ys) = go (nat_lt x y) (nat_eq x y) (length_merge x xs rest h ys)
  where
    go : (a b : Bool) → length (merge x rest ys) ≤ suc (length xs) + length ys → length (if a then x ∷ rest (y ∷ ys) else if b then x ∷ rest ys else y ∷ merge x rest ys) ≤ suc (length xs) + suc (length ys)
    go true b m = let r = h (y ∷ ys) in omega arith
    go false true m = let r = h ys in omega arith
    go false false m = omega arith

length_union : (xs ys : List ℕ) → length (union xs ys) ≤ length xs + length ys
length_union [] ys = omega arith
length_union (x ∷ xs) ys = length_merge x xs (union xs) (length_union xs) ys

length_without : (xs gone : List ℕ) → length (without xs gone) ≤ length xs
length_without [] gone = omega arith
length_without (x ∷ xs) gone = go (not (has gone x)) (length_without xs gone)
  where
    go : (b : Bool) → length (without xs gone) ≤ length xs → length (cond b (x ∷ without xs gone) (without xs gone)) ≤ suc (length xs)
    go true h = omega arith
    go false h = omega arith

-- ---- A node has no more free variables than it has nodes

module _ (b f : ℕ → List ℕ) (g : ℕ → ℕ) where
  abbrev Small : ℕ → Type 0
  Small k = (length (f k) ≤ g k) × (1 ≤ g k)

  exception_small : (c : Con) → length (exception_of c) ≤ 1
  exception_small (con.Exn x takes) = omega arith
  exception_small (con.Data t n takes) = omega arith
  exception_small con.Ref = omega arith
  exception_small (con.Library e) = omega arith

  fields_small : (fields : List Field) → AllByRecursion Small (map (λ x. x.node) fields) → length (free_fields f fields) ≤ sum_of g (map (λ x. x.node) fields)
  fields_small [] h = omega arith
  fields_small (x ∷ fields) h =
      let first : length (f x.node) ≤ g x.node = h.0.0 in
      omega (arith, length_union (f x.node) (free_fields f fields), fields_small fields h.1)

  scoped_small : (q e : ℕ) → Small q → Small e → length (scoped b f q e) ≤ g q + g e
  scoped_small q e hq he =
      let first : length (f q) ≤ g q = hq.0 in
      let second : length (f e) ≤ g e = he.0 in
      omega (arith, length_union (f q) (without (f e) (b q)), length_without (f e) (b q))

  rules_small : (rules : List Rule) → AllByRecursion Small (flat_map (λ r. r.pat ∷ r.body ∷ []) rules) → length (free_match b f rules) ≤ sum_of g (flat_map (λ r. r.pat ∷ r.body ∷ []) rules)
  rules_small [] h = omega arith
  rules_small (r ∷ rules) h =
      omega (arith, scoped_small r.pat r.body h.0 h.1.0, length_union (scoped b f r.pat r.body) (free_match b f rules), rules_small rules h.1.1)

  values_small : (bs : List Binding) → AllByRecursion Small (flat_map (λ x. x.pat ∷ x.right ∷ []) bs) → length (union_over (λ x. union (f x.pat) (f x.right)) bs) ≤ sum_of g (flat_map (λ x. x.pat ∷ x.right ∷ []) bs)
  values_small [] h = omega arith
  values_small (x ∷ bs) h =
      let first : length (f x.pat) ≤ g x.pat = h.0.0 in
      let second : length (f x.right) ≤ g x.right = h.1.0.0 in
      omega (arith, length_union (f x.pat) (f x.right), length_union (union (f x.pat) (f x.right)) (union_over (λ x. union (f x.pat) (f x.right)) bs), values_small bs h.1.1)

  functions_small : (bs : List RecBinding) → AllByRecursion Small (map (λ x. x.right) bs) → length (union_over (λ x. f x.right) bs) ≤ sum_of g (map (λ x. x.right) bs)
  functions_small [] h = omega arith
  functions_small (x ∷ bs) h =
      let first : length (f x.right) ≤ g x.right = h.0.0 in
      omega (arith, length_union (f x.right) (union_over (λ x. f x.right) bs), functions_small bs h.1)

  abbrev IsFew : Node → Type 0
  IsFew n = length (free_of b f n) ≤ suc (sum_of g (node_parts n))

  node_small : (n : Node) → AllByRecursion Small (node_parts n) → IsFew n
  node_small (node.Var x) h = omega arith
  node_small (node.Constructor c) h = omega (arith, exception_small c)
  node_small (node.Record fields) h = omega (arith, fields_small fields h)
  node_small (node.App e a) h =
      let first : length (f e) ≤ g e = h.0.0 in
      let second : length (f a) ≤ g a = h.1.0.0 in
      omega (arith, length_union (f e) (f a))
  node_small (node.Case e rules) h =
      let first : length (f e) ≤ g e = h.0.0 in
      omega (arith, length_union (f e) (free_match b f rules), rules_small rules h.1)
  node_small (node.Fn rules) h = omega (arith, rules_small rules h)
  node_small (node.Raise e) h = let first : length (f e) ≤ g e = h.0.0 in omega arith
  node_small (node.Handle e rules) h =
      let first : length (f e) ≤ g e = h.0.0 in
      omega (arith, length_union (f e) (free_match b f rules), rules_small rules h.1)
  node_small (node.Typed e ty) h = let first : length (f e) ≤ g e = h.0.0 in omega arith
  node_small (node.Let d e) h = omega (arith, scoped_small d e h.0 h.1.0)
  node_small (node.PatCon c) h = omega (arith, exception_small c)
  node_small (node.PatApp c q) h =
      let first : length (f q) ≤ g q = h.0.0 in
      omega (arith, exception_small c, length_union (exception_of c) (f q))
  node_small (node.PatRecord fields) h = omega (arith, fields_small fields h)
  node_small (node.PatTyped q ty) h = let first : length (f q) ≤ g q = h.0.0 in omega arith
  node_small (node.PatAs x q) h = let first : length (f q) ≤ g q = h.0.0 in omega arith
  node_small (node.PatAsCon x q) h = let first : length (f q) ≤ g q = h.0.0 in omega arith
  node_small (node.Val tyvars bs) h = omega (arith, values_small bs h)
  node_small (node.ValRec tyvars bs) h =
      omega (arith, length_without (union_over (λ x. f x.right) bs) (names_of bs), functions_small bs h)
  node_small (node.SameException x c) h = omega (arith, exception_small c)
  node_small _ h = omega arith

  -- ---- What is held around the parts of a node, in a program of so many nodes

  module _ (all : ℕ) where
    -- with a frame that holds these, or with the body behind it, it is no more than all
    abbrev Fits : ℕ → Context → Type 0
    Fits i (Awaited held outer) = suc held ≤ all
    Fits i (Plain outer) = Unit {0}
    Fits i (Before body outer) = (g i + g body ≤ all) × Small body

    abbrev FitsPart : Part → Type 0
    FitsPart q = (g q.node ≤ all) × Fits q.node q.context

    fields_fit : (n : ℕ) (fields : List Field) (outer : Option Point) → suc (n + sum_of g (map (λ x. x.node) fields)) ≤ all → AllByRecursion Small (map (λ x. x.node) fields) → AllByRecursion FitsPart (field_parts f n fields outer)
    fields_fit n [] outer le h = tt
    fields_fit n (x ∷ fields) outer le h =
        let some : 1 ≤ g x.node = h.0.1 in
        let later = fields_small fields h.1 in
        ((omega arith, omega arith), fields_fit (suc n) fields outer (omega arith) h.1)

    rules_fit : (rules : List Rule) (outer : Option Point) → sum_of g (flat_map (λ r. r.pat ∷ r.body ∷ []) rules) ≤ all → AllByRecursion FitsPart (rule_parts rules outer)
    rules_fit [] outer le = tt
    rules_fit (r ∷ rules) outer le = ((omega arith, tt), rules_fit rules outer (omega arith))

    functions_fit : (bs : List RecBinding) → sum_of g (map (λ x. x.right) bs) ≤ all → AllByRecursion FitsPart (function_parts bs)
    functions_fit [] le = tt
    functions_fit (x ∷ bs) le = ((omega arith, tt), functions_fit bs (omega arith))

    -- the patterns and the right sides
    both_small : (bs : List Binding) → AllByRecursion Small (flat_map (λ x. x.pat ∷ x.right ∷ []) bs) → length (union_over (λ x. f x.pat) bs) + length (union_over (λ x. f x.right) bs) ≤ sum_of g (flat_map (λ x. x.pat ∷ x.right ∷ []) bs)
    both_small [] h = omega arith
    both_small (x ∷ bs) h =
        let first : length (f x.pat) ≤ g x.pat = h.0.0 in
        let second : length (f x.right) ≤ g x.right = h.1.0.0 in
        omega (arith, length_union (f x.pat) (union_over (λ x. f x.pat) bs), length_union (f x.right) (union_over (λ x. f x.right) bs), both_small bs h.1.1)

    rights_fit : (bs : List Binding) (body : ℕ) (outer : Option Point) → suc (sum_of g (flat_map (λ x. x.pat ∷ x.right ∷ []) bs) + g body) ≤ all → Small body → AllByRecursion Small (flat_map (λ x. x.pat ∷ x.right ∷ []) bs) → AllByRecursion FitsPart (right_parts b f bs body outer)
    rights_fit [] body outer le hb h = tt
    rights_fit (x ∷ bs) body outer le hb h =
        let first : length (f x.pat) ≤ g x.pat = h.0.0 in
        let behind : length (f body) ≤ g body = hb.0 in
        let pats = union_over (λ c. f c.pat) (x ∷ bs) in
        let rest = without (f body) (bound_by b f (x ∷ bs)) in
        let rights = union_over (λ c. f c.right) bs in
        let held : length (free_rest b f x bs body) ≤ sum_of g (flat_map (λ x. x.pat ∷ x.right ∷ []) (x ∷ bs)) + g body = omega (arith, length_union pats (union rights rest), length_union rights rest, length_without (f body) (bound_by b f (x ∷ bs)), length_union (f x.pat) (union_over (λ c. f c.pat) bs), both_small bs h.1.1) in
        ((omega arith, omega arith), rights_fit bs body outer (omega arith) hb h.1.1)

    parts_fit : (i : ℕ) (n : Node) (c : Context) → Fits i c → g i ≤ all → g i ≡ suc (sum_of g (node_parts n)) → AllByRecursion Small (node_parts n) → AllByRecursion FitsPart (parts_in b f i n c)
    parts_fit i (node.Record fields) c ctx le e h = fields_fit 0 fields (inside i c) (omega arith) h
    parts_fit i (node.App x a) c ctx le e h =
        let first : 1 ≤ g x = h.0.1 in
        let second : length (f a) ≤ g a = h.1.0.0 in
        ((omega arith, omega arith), ((omega arith, omega arith), tt))
    parts_fit i (node.Case x rules) c ctx le e h =
        let few = rules_small rules h.1 in
        ((omega arith, omega arith), rules_fit rules (inside i c) (omega arith))
    parts_fit i (node.Fn rules) c ctx le e h = rules_fit rules None (omega arith)
    parts_fit i (node.Raise x) c ctx le e h = ((omega arith, omega arith), tt)
    parts_fit i (node.Handle x rules) c ctx le e h = ((omega arith, tt), rules_fit rules (inside i c) (omega arith))
    parts_fit i (node.Typed x ty) c ctx le e h = ((omega arith, tt), tt)
    parts_fit i (node.Let d x) c ctx le e h = ((omega arith, (omega arith, h.1.0)), ((omega arith, tt), tt))
    parts_fit i (node.Val tyvars bs) (Before body outer) ctx le e h =
        let room : g i + g body ≤ all = ctx.0 in
        rights_fit bs body outer (omega arith) ctx.1 h
    parts_fit i (node.ValRec tyvars bs) c ctx le e h = functions_fit bs (omega arith)
    parts_fit i _ c ctx le e h = tt

    -- ---- The points

    abbrev IsHeld : Spot → Type 0
    IsHeld s = suc s.held ≤ all

    awaited_held : (i : ℕ) (c : Context) → Fits i c → AllByRecursion IsHeld (awaited_spots i c)
    awaited_held i (Awaited held outer) h = (h, tt)
    awaited_held i (Plain outer) h = tt
    awaited_held i (Before body outer) h = tt

    all_append : (xs ys : List Spot) → AllByRecursion IsHeld xs → AllByRecursion IsHeld ys → AllByRecursion IsHeld (xs ++ ys)
    all_append [] ys h k = k
    all_append (x ∷ xs) ys h k = (h.0, all_append xs ys h.1 k)

    own_held : (i : ℕ) (n : Node) (c : Context) → Fits i c → g i ≤ all → g i ≡ suc (sum_of g (node_parts n)) → AllByRecursion Small (node_parts n) → AllByRecursion IsHeld (own_spots b f i n c)
    own_held i (node.Fn rules) c ctx le e h =
        let few = rules_small rules h in
        (omega arith, awaited_held i c ctx)
    own_held i (node.Handle x rules) c ctx le e h =
        let few = rules_small rules h.1 in
        all_append (awaited_spots i c) _ (awaited_held i c ctx) (omega arith, (omega arith, tt))
    own_held i _ c ctx le e h = awaited_held i c ctx

    parts_held : (spots : ℕ → Context → List Spot) (qs : List Part) → AllByRecursion (λ q. AllByRecursion IsHeld (spots q.node q.context)) qs → AllByRecursion IsHeld (flat_map (λ q. spots q.node q.context) qs)
    parts_held spots [] h = tt
    parts_held spots (q ∷ qs) h = all_append (spots q.node q.context) _ h.0 (parts_held spots qs h.1)

all_two : {A : Type 0} {P Q R : A → Type 0} → ((x : A) → P x → Q x → R x) → (xs : List A) → AllByRecursion P xs → AllByRecursion Q xs → AllByRecursion R xs
all_two f [] h k = tt
all_two f (x ∷ xs) h k = (f x h.0 k.0, all_two f xs h.1 k.1)

module _ (nodes : List Node) (numbered : IsNumbered nodes) (preorder : IsPreorder nodes) where
  abbrev SmallNode : ℕ → Type 0
  SmallNode k = Small (binds nodes) (free nodes) (size nodes) k

  size_is : (i : ℕ) (n : Node) → slice_get nodes i ≡ Some n → size nodes i ≡ suc (sum_of (size nodes) (node_parts n))
  size_is i n e = size_unfold nodes numbered preorder i ∙ ap (at_node 0 size_of (size nodes) i) e

  small_from : (m i : ℕ) → length nodes ≤ m + i → i < length nodes → SmallNode i
  small_from zero i le lt = absurd (omega arith)
  small_from (suc m) i le lt =
      let n = get_or nodes i node.Finish in
      let is : slice_get nodes i ≡ Some n = slice_get-get_or nodes i node.Finish lt in
      let parts : AllByRecursion SmallNode (node_parts n) = all_map (λ k h. small_from m k (let up : i < k = h.0 in omega arith) h.1) (node_parts n) (numbered i n is) in
      let long = size_is i n is in
      let few = node_small (binds nodes) (free nodes) (size nodes) n parts in
      let same : length (free nodes i) ≡ length (free_of (binds nodes) (free nodes) n) = ap length (free_unfold nodes numbered i n is) in
      (omega arith, omega arith)

  small_parts : (i : ℕ) (n : Node) → slice_get nodes i ≡ Some n → AllByRecursion SmallNode (node_parts n)
  small_parts i n is = all_map (λ k h. small_from (length nodes) k (omega arith) h.1) (node_parts n) (numbered i n is)

  abbrev Held : List Spot → Type 0
  Held ss = AllByRecursion (λ s. suc s.held ≤ length nodes) ss

  abbrev FitsHere : ℕ → Context → Type 0
  FitsHere i c = Fits (binds nodes) (free nodes) (size nodes) (length nodes) i c

  node_held : (i : ℕ) (n : Node) (c : Context) → slice_get nodes i ≡ Some n → FitsHere i c → size nodes i ≤ length nodes → ((k : ℕ) → i < k → (d : Context) → FitsHere k d → size nodes k ≤ length nodes → Held (spots_at nodes k d)) → Held (spots_at nodes i c)
  node_held i n c is ctx le later =
      let parts = parts_in (binds nodes) (free nodes) i n c in
      let fit = parts_fit (binds nodes) (free nodes) (size nodes) (length nodes) i n c ctx le (size_is i n is) (small_parts i n is) in
      let above = each_part (λ k. i < k) (binds nodes) (free nodes) i n c (all_map (λ k h. h.0) (node_parts n) (numbered i n is)) in
      subst Held (sym (spots_unfold nodes numbered i c ∙ ap (λ o. at_node (λ c. []) (spots_of (binds nodes) (free nodes)) (spots_at nodes) i o c) is))
      (all_append (binds nodes) (free nodes) (size nodes) (length nodes) (own_spots (binds nodes) (free nodes) i n c) _
      (own_held (binds nodes) (free nodes) (size nodes) (length nodes) i n c ctx le (size_is i n is) (small_parts i n is))
      (parts_held (binds nodes) (free nodes) (size nodes) (length nodes) (spots_at nodes) parts (all_two (λ q h k. later q.node k q.context h.1 h.0) parts fit above)))

  none_held : (i : ℕ) (c : Context) → slice_get nodes i ≡ None → Held (spots_at nodes i c)
  none_held i c is =
      subst Held (sym (spots_unfold nodes numbered i c ∙ ap (λ o. at_node (λ c. []) (spots_of (binds nodes) (free nodes)) (spots_at nodes) i o c) is)) tt

  held_from : (m i : ℕ) → length nodes ≤ m + i → (c : Context) → FitsHere i c → size nodes i ≤ length nodes → Held (spots_at nodes i c)
  held_from zero i le c ctx small = none_held i c (slice_get_past nodes i (omega arith))
  held_from (suc m) i le c ctx small = go (slice_get nodes i) refl (λ k up d fit few. held_from m k (omega arith) d fit few)
    where
      go : (o : Option Node) → slice_get nodes i ≡ o → ((k : ℕ) → i < k → (d : Context) → FitsHere k d → size nodes k ≤ length nodes → Held (spots_at nodes k d)) → Held (spots_at nodes i c)
      go None is later = none_held i c is
      go (Some n) is later = node_held i n c is ctx small later

  -- in a program of n nodes no point holds n values
  pub held_few : AllByRecursion (λ s. suc s.held ≤ length nodes) (spots nodes)
  held_few = held_from (length nodes) 0 (omega arith) (Plain None) tt (let all = preorder.whole in omega arith)
