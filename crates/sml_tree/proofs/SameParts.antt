-- Equal variables give equal points and parts.
use Rattle.std.proofs.Common.{◌≡◌, ℕ, suc, ◌+◌, ◌≤◌, List, [], ◌∷◌, ◌++◌, Option, None, length, refl, sym, ap, ◌∙◌, arith, ⊎_elim}
use Rattle.std.proofs.lemmas.Bool.{cases_lt}
use Rattle.std.proofs.lemmas.Option.{slice_get_past}
use Rattle.std.specs.Prelude.{unwrap_or}
use Rattle.std.specs.List.{AllByRecursion}
use Rattle.smlc_base.specs.declared.point.Point.{Point}
use Rattle.smlc_base.specs.declared.point.PointKind.TheVariants as kind
use Rattle.sml_tree.specs.declared.bare.Node.{Node}
use Rattle.sml_tree.specs.declared.bare.Node.TheVariants as node
use Rattle.sml_tree.specs.declared.bare.Field.{Field}
use Rattle.sml_tree.specs.declared.bare.Rule.{Rule}
use Rattle.sml_tree.specs.declared.bare.Binding.{Binding}
use Rattle.sml_tree.specs.declared.points.Context.{Context}
use Rattle.sml_tree.specs.declared.points.Context.TheVariants.{Awaited, Before}
use Rattle.sml_tree.specs.Sets.{row_at, union, union_over, without}
use Rattle.sml_tree.specs.BareParts.{IsNumbered, at_node}
use Rattle.sml_tree.specs.Free.{binds, binds_of, free, free_of, scoped, free_match, free_fields, bound_by, free_rest}
use Rattle.sml_tree.specs.Variables.{AreVariables}
use Rattle.sml_tree.specs.Points.{part, spot, inside, awaited_spots, field_parts, right_parts, rule_parts, parts_in, own_spots}
use Rattle.sml_tree.proofs.Unfold.{by_parts, all_map}
use Rattle.sml_tree.proofs.FreeParts.{over_same, binds_by_parts, free_by_parts}

pub all_of : {A : Type 0} {P : A → Type 0} → ((x : A) → P x) → (xs : List A) → AllByRecursion P xs
all_of f [] = tt
all_of f (x ∷ xs) = (f x, all_of f xs)

module _ (b d f g : ℕ → List ℕ) (sb : (c : ℕ) → b c ≡ d c) (sf : (c : ℕ) → f c ≡ g c) where
  scoped_same : (p e : ℕ) → scoped b f p e ≡ scoped d g p e
  scoped_same p e =
      ap (λ z. union z (without (f e) (b p))) (sf p) ∙ ap (λ z. union (g p) (without z (b p))) (sf e) ∙ ap (λ z. union (g p) (without (g e) z)) (sb p)

  match_same : (rules : List Rule) → free_match b f rules ≡ free_match d g rules
  match_same rules = over_same _ _ rules (all_of (λ r. scoped_same r.pat r.body) rules)

  fields_same : (fields : List Field) → free_fields f fields ≡ free_fields g fields
  fields_same fields = over_same _ _ fields (all_of (λ x. sf x.node) fields)

  rest_same : (x : Binding) (later : List Binding) (body : ℕ) → free_rest b f x later body ≡ free_rest d g x later body
  rest_same x later body =
      let patterns = over_same (λ c. f c.pat) (λ c. g c.pat) (x ∷ later) (all_of (λ c. sf c.pat) (x ∷ later)) in
      let rights = over_same (λ c. f c.right) (λ c. g c.right) later (all_of (λ c. sf c.right) later) in
      let names = over_same (λ c. b c.pat) (λ c. d c.pat) (x ∷ later) (all_of (λ c. sb c.pat) (x ∷ later)) in
      ap (λ z. union z (union (union_over (λ c. f c.right) later) (without (f body) (bound_by b f (x ∷ later))))) patterns
      ∙ ap (λ z. union (union_over (λ c. g c.pat) (x ∷ later)) (union z (without (f body) (bound_by b f (x ∷ later))))) rights
      ∙ ap (λ z. union (union_over (λ c. g c.pat) (x ∷ later)) (union (union_over (λ c. g c.right) later) (without z (bound_by b f (x ∷ later))))) (sf body)
      ∙ ap (λ z. union (union_over (λ c. g c.pat) (x ∷ later)) (union (union_over (λ c. g c.right) later) (without (g body) z))) names

  field_parts_same : (n : ℕ) (fields : List Field) (outer : Option Point) → field_parts f n fields outer ≡ field_parts g n fields outer
  field_parts_same n [] outer = refl
  field_parts_same n (x ∷ fields) outer =
      ap (λ z. part x.node (Awaited (n + length z) outer) ∷ field_parts f (suc n) fields outer) (fields_same fields)
      ∙ ap (λ ps. part x.node (Awaited (n + length (free_fields g fields)) outer) ∷ ps) (field_parts_same (suc n) fields outer)

  right_parts_same : (bindings : List Binding) (body : ℕ) (outer : Option Point) → right_parts b f bindings body outer ≡ right_parts d g bindings body outer
  right_parts_same [] body outer = refl
  right_parts_same (x ∷ later) body outer =
      ap (λ z. part x.right (Awaited (length z) outer) ∷ right_parts b f later body outer) (rest_same x later body)
      ∙ ap (λ ps. part x.right (Awaited (length (free_rest d g x later body)) outer) ∷ ps) (right_parts_same later body outer)

  pub parts_same : (i : ℕ) (n : Node) (c : Context) → parts_in b f i n c ≡ parts_in d g i n c
  parts_same i (node.Record fields) c = field_parts_same 0 fields (inside i c)
  parts_same i (node.App e a) c =
      ap (λ z. part e (Awaited (length z) (inside i c)) ∷ part a (Awaited 1 (inside i c)) ∷ []) (sf a)
  parts_same i (node.Case e rules) c =
      ap (λ z. part e (Awaited (length z) (inside i c)) ∷ rule_parts rules (inside i c)) (match_same rules)
  parts_same i (node.Val tyvars bindings) (Before body outer) = right_parts_same bindings body outer
  parts_same i _ c = refl

  pub own_same : (i : ℕ) (n : Node) (c : Context) → own_spots b f i n c ≡ own_spots d g i n c
  own_same i (node.Fn rules) c = ap (λ z. spot i kind.Fn (length z) None ∷ awaited_spots i c) (match_same rules)
  own_same i (node.Handle e rules) c =
      ap (λ z. awaited_spots i c ++ spot i kind.Caught (length z) (inside i c) ∷ spot i kind.Popped (length z) (inside i c) ∷ []) (match_same rules)
  own_same i _ c = refl

-- full tables have the variables of each number
module _ (nodes : List Node) (numbered : IsNumbered nodes) (bound frees : List (List ℕ)) (full : AreVariables nodes 0 bound frees) where
  row_past : (rows : List (List ℕ)) (c : ℕ) → length rows ≤ c → row_at rows c ≡ []
  row_past rows c h = ap (λ o. unwrap_or o []) (slice_get_past rows c h)

  pub all_bound : (c : ℕ) → row_at bound c ≡ binds nodes c
  all_bound c = ⊎_elim (full.bound_at c (omega arith)) past (cases_lt c (length nodes))
    where
      past : length nodes ≤ c → row_at bound c ≡ binds nodes c
      past h =
          row_past bound c (omega (arith, full.bound_len))
          ∙ sym (by_parts [] (λ part i. binds_of part) (λ x y. x ≡ y) refl (λ f g i n h. binds_by_parts f g n h) nodes numbered c ∙ ap (at_node [] (λ part i. binds_of part) (binds nodes) c) (slice_get_past nodes c h))

  pub all_free : (c : ℕ) → row_at frees c ≡ free nodes c
  all_free c = ⊎_elim (full.free_at c (omega arith)) past (cases_lt c (length nodes))
    where
      past : length nodes ≤ c → row_at frees c ≡ free nodes c
      past h =
          row_past frees c (omega (arith, full.free_len))
          ∙ sym (by_parts [] (λ part i. free_of (binds nodes) part) (λ x y. x ≡ y) refl (λ f g i n h. free_by_parts (binds nodes) (binds nodes) f g n (all_map (λ c s. (refl, s)) _ h)) nodes numbered c ∙ ap (at_node [] (λ part i. free_of (binds nodes) part) (free nodes) c) (slice_get_past nodes c h))
