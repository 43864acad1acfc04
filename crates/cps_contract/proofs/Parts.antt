-- The nodes of a tree are those of its body and those of the bodies that stand in it.
use Rattle.std.proofs.Common.{◌≡◌, ℕ, zero, suc, ◌+◌, ◌≤◌, ◌<◌, List, [], ◌∷◌, ◌++◌, length, map, flat_map, Option, Some, None, slice_get, refl, ap, arith}
use Rattle.cps_ir.specs.declared.atom.Test.{Test}
use Rattle.cps_ir.specs.declared.body.Function.{Function as Entry}
use Rattle.cps_ir.specs.declared.body.Rule.{Rule as Chosen}
use Rattle.cps_ir.specs.declared.body.Bind.{Bind}
use Rattle.cps_ir.specs.declared.body.Bind.TheVariants as row
use Rattle.cps_ir.specs.declared.body.End.{End}
use Rattle.cps_ir.specs.declared.body.End.TheVariants as end
use Rattle.cps_ir.specs.declared.body.Body.{Body}
use Rattle.cps_ir.specs.Code.{Code, Halt}
use Rattle.cps_ir.specs.Kept.{bind_parts, end_parts, body_parts}
use Rattle.cps_ir.specs.Program.{code_at, code_within, code_of_binds, code_of_end, code_of_body, functions_of, rules_of}
use Rattle.cps_free.proofs.Unfold.{AreNumbered, code_unfold}
use Rattle.contract_laws.specs.Redex.{nodes, nodes_functions, nodes_rules, count_tests}
use Rattle.cps_contract.specs.Own.{binds_own, rules_own, end_own, body_own, found_own, found_parts}

abbrev pub parts_nodes : (ℕ → Code) → List ℕ → ℕ
parts_nodes part [] = 0
parts_nodes part (i ∷ is) = nodes (part i) + parts_nodes part is

pub parts_append : (part : ℕ → Code) (is js : List ℕ) → parts_nodes part (is ++ js) ≡ parts_nodes part is + parts_nodes part js
parts_append part [] js = omega arith
parts_append part (i ∷ is) js = let h = parts_append part is js in omega arith

tests_length : (ts : List Test) → count_tests ts ≡ length ts
tests_length [] = refl
tests_length (t ∷ ts) = let h = tests_length ts in omega arith

module _ (part : ℕ → Code) where
  functions_nodes : (fs : List Entry) → nodes_functions (functions_of part fs) ≡ length fs + parts_nodes part (map (λ f. f.body) fs)
  functions_nodes [] = refl
  functions_nodes (f ∷ fs) = let h = functions_nodes fs in omega arith

  rules_nodes : (rules : List Chosen) (o : ℕ) → nodes_rules (rules_of part rules o) ≡ rules_own rules + parts_nodes part (map (λ r. r.body) rules ++ o ∷ [])
  rules_nodes [] o = omega arith
  rules_nodes (r ∷ rules) o = let h = rules_nodes rules o in let t = tests_length r.tests in omega arith

  end_nodes : (e : End) → nodes (code_of_end part e) ≡ end_own e + parts_nodes part (end_parts e)
  end_nodes (end.Equal a b t k) = refl
  end_nodes (end.Call a us) = refl
  end_nodes (end.Match a rules o) = let h = rules_nodes rules o in omega arith
  end_nodes (end.Throw a) = refl
  end_nodes end.Halt = refl

  binds_nodes : (bs : List Bind) (c : Code) → nodes (code_of_binds part bs c) ≡ (binds_own bs + parts_nodes part (flat_map bind_parts bs)) + nodes c
  binds_nodes [] c = omega arith
  binds_nodes (row.Make x s us ∷ bs) c = let h = binds_nodes bs c in omega arith
  binds_nodes (row.Pick x i a ∷ bs) c = let h = binds_nodes bs c in omega arith
  binds_nodes (row.Prim x f us ∷ bs) c = let h = binds_nodes bs c in omega arith
  binds_nodes (row.Fix fs ∷ bs) c = let h = binds_nodes bs c in let g = functions_nodes fs in let p = parts_append part (map (λ f. f.body) fs) (flat_map bind_parts bs) in omega arith
  binds_nodes (row.Handler x ∷ bs) c = let h = binds_nodes bs c in omega arith
  binds_nodes (row.SetHandler a ∷ bs) c = let h = binds_nodes bs c in omega arith

  body_nodes : (b : Body) → nodes (code_of_body part (Some b)) ≡ body_own b + parts_nodes part (body_parts b)
  body_nodes b = let h = binds_nodes b.binds (code_of_end part b.end) in let e = end_nodes b.end in let p = parts_append part (flat_map bind_parts b.binds) (end_parts b.end) in omega arith

end_some : (e : End) → 1 ≤ end_own e
end_some (end.Equal a b t k) = omega arith
end_some (end.Call a us) = omega arith
end_some (end.Match a rules o) = omega arith
end_some (end.Throw a) = omega arith
end_some end.Halt = omega arith

pub none_past : (bodies : List Body) (i : ℕ) → length bodies ≤ i → slice_get bodies i ≡ None
none_past [] i h = refl
none_past (b ∷ bodies) zero h = absurd (omega arith)
none_past (b ∷ bodies) (suc i) h = none_past bodies i (omega arith)

code_none : (k : ℕ) (source : List Body) (i : ℕ) → slice_get source i ≡ None → code_within k source i ≡ Halt
code_none zero source i e = refl
code_none (suc k) source i e = ap (code_of_body (code_within k source)) e

-- ---- One body more

module _ (bodies : List Body) (numbered : AreNumbered bodies) (old rest new : List ℕ) (at count after : ℕ) (popped : old ≡ rest ++ at ∷ []) where
  before : parts_nodes (code_at bodies) old ≡ parts_nodes (code_at bodies) rest + nodes (code_at bodies at)
  before = let p = parts_append (code_at bodies) rest (at ∷ []) in let e = ap (parts_nodes (code_at bodies)) popped in omega arith

  pub body_counted : (o : Option Body) → slice_get bodies at ≡ o → after ≡ count + found_own o → new ≡ rest ++ found_parts o → (after + parts_nodes (code_at bodies) new ≡ count + parts_nodes (code_at bodies) old) × (parts_nodes (code_at bodies) new < parts_nodes (code_at bodies) old)
  body_counted (Some b) e a n =
      let p = before in
      let q = parts_append (code_at bodies) rest (body_parts b) in
      let w = ap (parts_nodes (code_at bodies)) n in
      let h = ap (λ c. nodes c) (code_unfold bodies numbered at b e) in
      let k = body_nodes (code_at bodies) b in
      let s = end_some b.end in
      (omega arith, omega arith)
  body_counted None e a n =
      let p = before in
      let q = parts_append (code_at bodies) rest [] in
      let w = ap (parts_nodes (code_at bodies)) n in
      let h = ap (λ c. nodes c) (code_none (length bodies) bodies at e) in
      (omega arith, omega arith)
