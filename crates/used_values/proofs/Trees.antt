-- What a body has is its own and that of the bodies that stand in it.
use Rattle.std.proofs.Common.{◌≡◌, ℕ, suc, ◌+◌, Bool, true, false, List, [], ◌∷◌, ◌++◌, Option, Some, None, length, map, refl, sym, ap, ◌∙◌, arith}
use Rattle.std.specs.Prelude.{◌||◌, slice_get, flat_map}
use Rattle.std.specs.List.{list_any}
use Rattle.sml_tree.specs.Sets.{has, union, union_over}
use Rattle.sml_tree.proofs.Members.{has-union}
use Rattle.cps_ir.specs.declared.body.Function.{Function as Entry}
use Rattle.cps_ir.specs.declared.body.Bind.{Bind}
use Rattle.cps_ir.specs.declared.body.Bind.TheVariants as bind
use Rattle.cps_ir.specs.declared.body.Rule.{Rule as Chosen}
use Rattle.cps_ir.specs.declared.body.End.{End}
use Rattle.cps_ir.specs.declared.body.End.TheVariants as end
use Rattle.cps_ir.specs.declared.body.Body.{Body}
use Rattle.cps_ir.specs.Code.{Code, Halt}
use Rattle.cps_ir.specs.Program.{functions_of, rules_of, code_of_end, code_of_bind, code_of_binds, code_of_body, code_within, code_at}
use Rattle.cps_ir.specs.Kept.{bind_parts, end_parts, body_parts}
use Rattle.cps_ir.specs.Free.{vars, vars_all, vars_tests}
use Rattle.cps_free.proofs.Unfold.{AreNumbered, code_unfold}
use Rattle.close_laws.specs.Layouts.{values, values_functions, values_rules}
use Rattle.close_laws.specs.Close.{compares, compares_functions, compares_rules}
use Rattle.used_values.specs.Own.{own_bind, own_rules, own_end, own_body, own_at, is_comparison, compares_at, parts_at, bodies_in, bodies_in_functions, bodies_in_rules}

or_none : (a : Bool) → a ≡ (a || false)
or_none true = refl
or_none false = refl

or_assoc : (a b c : Bool) → (a || (b || c)) ≡ ((a || b) || c)
or_assoc true b c = refl
or_assoc false b c = refl

pub any_append : {X : Type 0} (P : X → Bool) (xs ys : List X) → list_any P (xs ++ ys) ≡ (list_any P xs || list_any P ys)
any_append P [] ys = refl
any_append P (x ∷ xs) ys = ap (λ b. P x || b) (any_append P xs ys) ∙ or_assoc (P x) (list_any P xs) (list_any P ys)

abbrev pub weight : (ℕ → ℕ) → List ℕ → ℕ
weight f [] = 0
weight f (i ∷ is) = f i + weight f is

pub weight_append : (f : ℕ → ℕ) (xs ys : List ℕ) → weight f (xs ++ ys) ≡ weight f xs + weight f ys
weight_append f [] ys = omega arith
weight_append f (x ∷ xs) ys = omega (arith, weight_append f xs ys)

module _ (p : ℕ → Code) (z : ℕ) where
  abbrev V : ℕ → Bool
  V c = has (values (p c)) z

  functions_values : (fs : List Entry) → has (values_functions (functions_of p fs)) z ≡ list_any V (map (λ f. f.body) fs)
  functions_values [] = refl
  functions_values (f ∷ fs) = has-union (values (p f.body)) (values_functions (functions_of p fs)) z ∙ ap (λ b. V f.body || b) (functions_values fs)

  rules_values : (rules : List Chosen) (otherwise : ℕ) → has (values_rules (rules_of p rules otherwise)) z ≡ (has (own_rules rules) z || list_any V (map (λ r. r.body) rules ++ otherwise ∷ []))
  rules_values [] otherwise = or_none (V otherwise)
  rules_values (r ∷ rules) otherwise =
      has-union (vars_tests r.tests) (union (values (p r.body)) (values_rules (rules_of p rules otherwise))) z
      ∙ ap (λ b. has (vars_tests r.tests) z || b) (has-union (values (p r.body)) (values_rules (rules_of p rules otherwise)) z ∙ ap (λ b. V r.body || b) (rules_values rules otherwise))
      ∙ swap (has (vars_tests r.tests) z) (V r.body) (has (own_rules rules) z) (list_any V (map (λ (q : Chosen). q.body) rules ++ otherwise ∷ []))
      ∙ sym (ap (λ b. b || (V r.body || list_any V (map (λ (q : Chosen). q.body) rules ++ otherwise ∷ []))) (has-union (vars_tests r.tests) (own_rules rules) z))
    where
      swap : (t v o a : Bool) → (t || (v || (o || a))) ≡ ((t || o) || (v || a))
      swap true v o a = refl
      swap false true true a = refl
      swap false true false a = refl
      swap false false o a = refl

  end_values : (e : End) → has (values (code_of_end p e)) z ≡ (has (own_end e) z || list_any V (end_parts e))
  end_values (end.Equal a b truth k) = or_none (has (vars_all (a ∷ b ∷ k ∷ [])) z)
  end_values (end.Call a atoms) = or_none (has (vars_all atoms) z)
  end_values (end.Match a rules otherwise) =
      has-union (vars a) (values_rules (rules_of p rules otherwise)) z ∙ ap (λ b. has (vars a) z || b) (rules_values rules otherwise)
      ∙ or_assoc (has (vars a) z) (has (own_rules rules) z) (list_any V (map (λ (r : Chosen). r.body) rules ++ otherwise ∷ []))
      ∙ sym (ap (λ b. b || list_any V (map (λ (r : Chosen). r.body) rules ++ otherwise ∷ [])) (has-union (vars a) (own_rules rules) z))
  end_values (end.Throw a) = or_none (has (vars a) z)
  end_values end.Halt = refl

  used : (us : List ℕ) (c : Code) → has (union us (values c)) z ≡ ((has us z || false) || has (values c) z)
  used us c = has-union us (values c) z ∙ ap (λ b. b || has (values c) z) (or_none (has us z))

  bind_values : (b : Bind) (c : Code) → has (values (code_of_bind p b c)) z ≡ ((has (own_bind b) z || list_any V (bind_parts b)) || has (values c) z)
  bind_values (bind.Make x shape atoms) c = used (vars_all atoms) c
  bind_values (bind.Pick x i a) c = used (vars a) c
  bind_values (bind.Prim x f atoms) c = used (vars_all atoms) c
  bind_values (bind.Fix fs) c = has-union (values_functions (functions_of p fs)) (values c) z ∙ ap (λ b. b || has (values c) z) (functions_values fs)
  bind_values (bind.Handler x) c = refl
  bind_values (bind.SetHandler a) c = used (vars a) c

  mix : (o v r s c : Bool) → ((o || v) || ((r || s) || c)) ≡ (((o || r) || (v || s)) || c)
  mix true v r s c = refl
  mix false true true s c = refl
  mix false true false s c = refl
  mix false false r s c = refl

  binds_values : (bs : List Bind) (c : Code) → has (values (code_of_binds p bs c)) z ≡ ((has (union_over own_bind bs) z || list_any V (flat_map bind_parts bs)) || has (values c) z)
  binds_values [] c = refl
  binds_values (b ∷ bs) c =
      bind_values b (code_of_binds p bs c) ∙ ap (λ t. (has (own_bind b) z || list_any V (bind_parts b)) || t) (binds_values bs c)
      ∙ mix (has (own_bind b) z) (list_any V (bind_parts b)) (has (union_over own_bind bs) z) (list_any V (flat_map bind_parts bs)) (has (values c) z)
      ∙ ap (λ t. ((has (own_bind b) z || has (union_over own_bind bs) z) || t) || has (values c) z) (sym (any_append V (bind_parts b) (flat_map bind_parts bs)))
      ∙ ap (λ t. (t || list_any V (bind_parts b ++ flat_map bind_parts bs)) || has (values c) z) (sym (has-union (own_bind b) (union_over own_bind bs) z))

  last : (o v r s : Bool) → ((o || v) || (r || s)) ≡ ((o || r) || (v || s))
  last true v r s = refl
  last false true true s = refl
  last false true false s = refl
  last false false r s = refl

  body_values : (b : Body) → has (values (code_of_body p (Some b))) z ≡ (has (own_body b) z || list_any V (body_parts b))
  body_values b =
      binds_values b.binds (code_of_end p b.end) ∙ ap (λ t. (has (union_over own_bind b.binds) z || list_any V (flat_map bind_parts b.binds)) || t) (end_values b.end)
      ∙ last (has (union_over own_bind b.binds) z) (list_any V (flat_map bind_parts b.binds)) (has (own_end b.end) z) (list_any V (end_parts b.end))
      ∙ ap (λ t. (has (union_over own_bind b.binds) z || has (own_end b.end) z) || t) (sym (any_append V (flat_map bind_parts b.binds) (end_parts b.end)))
      ∙ ap (λ t. t || list_any V (flat_map bind_parts b.binds ++ end_parts b.end)) (sym (has-union (union_over own_bind b.binds) (own_end b.end) z))

module _ (p : ℕ → Code) where
  abbrev Q : ℕ → Bool
  Q c = compares (p c)

  functions_compare : (fs : List Entry) → compares_functions (functions_of p fs) ≡ list_any Q (map (λ f. f.body) fs)
  functions_compare [] = refl
  functions_compare (f ∷ fs) = ap (λ b. Q f.body || b) (functions_compare fs)

  rules_compare : (rules : List Chosen) (otherwise : ℕ) → compares_rules (rules_of p rules otherwise) ≡ list_any Q (map (λ r. r.body) rules ++ otherwise ∷ [])
  rules_compare [] otherwise = or_none (Q otherwise)
  rules_compare (r ∷ rules) otherwise = ap (λ b. Q r.body || b) (rules_compare rules otherwise)

  end_compares : (e : End) → compares (code_of_end p e) ≡ (is_comparison e || list_any Q (end_parts e))
  end_compares (end.Equal a b truth k) = refl
  end_compares (end.Call a atoms) = refl
  end_compares (end.Match a rules otherwise) = rules_compare rules otherwise
  end_compares (end.Throw a) = refl
  end_compares end.Halt = refl

  bind_compares : (b : Bind) (c : Code) → compares (code_of_bind p b c) ≡ (list_any Q (bind_parts b) || compares c)
  bind_compares (bind.Make x shape atoms) c = refl
  bind_compares (bind.Pick x i a) c = refl
  bind_compares (bind.Prim x f atoms) c = refl
  bind_compares (bind.Fix fs) c = ap (λ b. b || compares c) (functions_compare fs)
  bind_compares (bind.Handler x) c = refl
  bind_compares (bind.SetHandler a) c = refl

  binds_compare : (bs : List Bind) (c : Code) → compares (code_of_binds p bs c) ≡ (list_any Q (flat_map bind_parts bs) || compares c)
  binds_compare [] c = refl
  binds_compare (b ∷ bs) c =
      bind_compares b (code_of_binds p bs c) ∙ ap (λ t. list_any Q (bind_parts b) || t) (binds_compare bs c)
      ∙ or_assoc (list_any Q (bind_parts b)) (list_any Q (flat_map bind_parts bs)) (compares c)
      ∙ ap (λ t. t || compares c) (sym (any_append Q (bind_parts b) (flat_map bind_parts bs)))

  body_compares : (b : Body) → compares (code_of_body p (Some b)) ≡ (is_comparison b.end || list_any Q (body_parts b))
  body_compares b =
      binds_compare b.binds (code_of_end p b.end) ∙ ap (λ t. list_any Q (flat_map bind_parts b.binds) || t) (end_compares b.end)
      ∙ swap (list_any Q (flat_map bind_parts b.binds)) (is_comparison b.end) (list_any Q (end_parts b.end))
      ∙ ap (λ t. is_comparison b.end || t) (sym (any_append Q (flat_map bind_parts b.binds) (end_parts b.end)))
    where
      swap : (a i e : Bool) → (a || (i || e)) ≡ (i || (a || e))
      swap true true e = refl
      swap true false e = refl
      swap false i e = refl

  abbrev B : ℕ → ℕ
  B c = bodies_in (p c)

  functions_count : (fs : List Entry) → bodies_in_functions (functions_of p fs) ≡ weight B (map (λ f. f.body) fs)
  functions_count [] = refl
  functions_count (f ∷ fs) = ap (λ n. B f.body + n) (functions_count fs)

  rules_count : (rules : List Chosen) (otherwise : ℕ) → bodies_in_rules (rules_of p rules otherwise) ≡ weight B (map (λ r. r.body) rules ++ otherwise ∷ [])
  rules_count [] otherwise = omega arith
  rules_count (r ∷ rules) otherwise = ap (λ n. B r.body + n) (rules_count rules otherwise)

  end_count : (e : End) → bodies_in (code_of_end p e) ≡ suc (weight B (end_parts e))
  end_count (end.Equal a b truth k) = refl
  end_count (end.Call a atoms) = refl
  end_count (end.Match a rules otherwise) = ap suc (rules_count rules otherwise)
  end_count (end.Throw a) = refl
  end_count end.Halt = refl

  bind_count : (b : Bind) (c : Code) → bodies_in (code_of_bind p b c) ≡ weight B (bind_parts b) + bodies_in c
  bind_count (bind.Make x shape atoms) c = omega arith
  bind_count (bind.Pick x i a) c = omega arith
  bind_count (bind.Prim x f atoms) c = omega arith
  bind_count (bind.Fix fs) c = ap (λ n. n + bodies_in c) (functions_count fs)
  bind_count (bind.Handler x) c = omega arith
  bind_count (bind.SetHandler a) c = omega arith

  binds_count : (bs : List Bind) (c : Code) → bodies_in (code_of_binds p bs c) ≡ weight B (flat_map bind_parts bs) + bodies_in c
  binds_count [] c = omega arith
  binds_count (b ∷ bs) c = omega (arith, bind_count b (code_of_binds p bs c), binds_count bs c, weight_append B (bind_parts b) (flat_map bind_parts bs))

  body_count : (b : Body) → bodies_in (code_of_body p (Some b)) ≡ suc (weight B (body_parts b))
  body_count b = omega (arith, binds_count b.binds (code_of_end p b.end), end_count b.end, weight_append B (flat_map bind_parts b.binds) (end_parts b.end))

code_none : (bodies : List Body) (i : ℕ) → slice_get bodies i ≡ None → code_at bodies i ≡ Halt
code_none [] i e = refl
code_none (b ∷ bodies) i e = ap (code_of_body (code_within (length bodies) (b ∷ bodies))) e

module _ (bodies : List Body) (numbered : AreNumbered bodies) where
  abbrev C : ℕ → Code
  C i = code_at bodies i

  pub values_unfold : (i z : ℕ) → has (values (C i)) z ≡ (has (own_at (slice_get bodies i)) z || list_any (λ c. has (values (C c)) z) (parts_at (slice_get bodies i)))
  values_unfold i z = by (slice_get bodies i) refl
    where
      by : (o : Option Body) → slice_get bodies i ≡ o → has (values (C i)) z ≡ (has (own_at o) z || list_any (λ c. has (values (C c)) z) (parts_at o))
      by None e = ap (λ c. has (values c) z) (code_none bodies i e)
      by (Some b) e = ap (λ c. has (values c) z) (code_unfold bodies numbered i b e) ∙ body_values C z b

  pub compares_unfold : (i : ℕ) → compares (C i) ≡ (compares_at (slice_get bodies i) || list_any (λ c. compares (C c)) (parts_at (slice_get bodies i)))
  compares_unfold i = by (slice_get bodies i) refl
    where
      by : (o : Option Body) → slice_get bodies i ≡ o → compares (C i) ≡ (compares_at o || list_any (λ c. compares (C c)) (parts_at o))
      by None e = ap compares (code_none bodies i e)
      by (Some b) e = ap compares (code_unfold bodies numbered i b e) ∙ body_compares C b

  pub count_unfold : (i : ℕ) → bodies_in (C i) ≡ suc (weight (λ c. bodies_in (C c)) (parts_at (slice_get bodies i)))
  count_unfold i = by (slice_get bodies i) refl
    where
      by : (o : Option Body) → slice_get bodies i ≡ o → bodies_in (C i) ≡ suc (weight (λ c. bodies_in (C c)) (parts_at o))
      by None e = ap bodies_in (code_none bodies i e)
      by (Some b) e = ap bodies_in (code_unfold bodies numbered i b e) ∙ body_count C b
