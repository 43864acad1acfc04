-- The variables that a term binds, form by form.
use Rattle.std.proofs.Common.{◌≡◌, ℕ, zero, suc, ◌+◌, ◌≤◌, Bool, true, false, cond, List, [], ◌∷◌, ◌++◌, Option, Some, None, length, refl, sym, ◌∙◌, subst, arith, inl, inr}
use Rattle.std.specs.Prelude.{slice_get}
use Rattle.smlc_base.specs.declared.exception.LibraryExn.TheVariants as exn
use Rattle.smlc_base.specs.declared.match_tests.Test.{Test as LambdaTest}
use Rattle.smlc_base.specs.declared.point.PointKind.TheVariants as kind
use Rattle.smlc_base.specs.declared.primitive.Primitive.{Primitive}
use Rattle.smlc_base.specs.declared.primitive.Primitive.TheVariants as prim
use Rattle.sml_tree.specs.Points.{point}
use Rattle.sml_tree.specs.Sets.{has}
use Rattle.sml_tree.specs.declared.bare.Con.{Con}
use Rattle.sml_tree.specs.declared.bare.Con.TheVariants as con
use Rattle.sml_tree.specs.declared.bare.RecBinding.{RecBinding}
use Rattle.prim_meaning.specs.Meaning.{takes_one}
use Rattle.lambda_ir.specs.declared.term.Bind.{Bind}
use Rattle.lambda_ir.specs.declared.term.Case.{Case}
use Rattle.lambda_ir.specs.declared.term.Part.{Part}
use Rattle.lambda_ir.specs.declared.term.Term.{Term}
use Rattle.lambda_ir.specs.declared.term.Term.TheVariants as term
use Rattle.simulation.proofs.Lists.{some_eq}
use Rattle.lambda_ir.specs.Free.{at_term, within_terms, function_of_term, function_at}
use Rattle.cps_ir.specs.declared.atom.Atom.{Atom}
use Rattle.cps_ir.specs.declared.atom.Constant.TheVariants as constant
use Rattle.cps_ir.specs.declared.atom.Shape.TheVariants as shape
use Rattle.cps_ir.specs.Code.{Code, Prim, Fix, Call, Throw, Functions, NoFunction, Function, Rules, Otherwise}
use Rattle.cps_ir.specs.Free.{bound, bound_functions, bound_rules}
use Rattle.convert_laws.specs.Convert.{Scope, Kon, Known, Text, Conv, variable, known, apply, in_slots, steps_of, size_cases, size_parts, size_binds, size_group, size_at, bind_names, tests_of, rule_of, match_of, raise_exn, with_fields, fields_taken, primitive, builtin, constructor, part, parts_of, rules_of, match_on, function_of, binds_of, group_function, group_of, handled}
use Rattle.convert_laws.specs.Facts.{AreNumbered}
use Rattle.convert_laws.specs.Fit.{IsNeedyIn}
use Rattle.convert_laws.specs.Needs.{live, live_from}
use Rattle.convert_laws.proofs.ByParts.{size_here}
use Rattle.convert_laws.proofs.Ranges.{Within, none, wider, joined, crossed, front, alone, put, lacks, lacks_both, Either, one_more, either_wider}
use Rattle.convert_laws.proofs.Bound.{Roomy, KonRoomy, Safe, applied, made, more, named, on_match, rule_within, last_rule}

-- ---- Primitives and constructors

with_fields_within : (k i : ℕ) (a : Atom) (rest : List Atom → ℕ → Code) (r n : ℕ) → ((fs : List Atom) (m : ℕ) → Within m (m + r) (bound (rest fs m))) → Within n (n + (k + r)) (bound (with_fields k i a rest n))
with_fields_within zero i a rest r n h = more n r (0 + r) (bound (rest [] n)) (omega arith) (h [] n)
with_fields_within (suc k) i a rest r n h =
    let inner = with_fields k (suc i) a (λ fs m. rest (variable n ∷ fs) m) (suc n) in
    front n (n + (suc k + r)) (bound inner) (omega arith) (wider (suc n) (suc n + (k + r)) (suc n) (n + (suc k + r)) (bound inner) (omega arith) (omega arith) (with_fields_within k (suc i) a (λ fs m. rest (variable n ∷ fs) m) r (suc n) (λ fs m. h (variable n ∷ fs) m)))

prim_made : (f : Primitive) (κ : Kon) (r : ℕ) → KonRoomy κ r → (atoms : List Atom) (n : ℕ) → Within n (n + suc r) (bound (Prim n f atoms (apply κ (variable n) (suc n))))
prim_made f κ r h atoms n =
    front n (n + suc r) (bound (apply κ (variable n) (suc n))) (omega arith) (wider (suc n) (suc n + r) (suc n) (n + suc r) (bound (apply κ (variable n) (suc n))) (omega arith) (omega arith) (applied κ r h (variable n) (suc n)))

primitive_within : (f : Primitive) (κ : Kon) (r : ℕ) → KonRoomy κ r → (atoms : List Atom) (n : ℕ) → Within n (n + suc r) (bound (primitive f κ atoms n))
primitive_within prim.Equal κ r h [] n = prim_made prim.Equal κ r h [] n
primitive_within prim.Equal κ r h (a ∷ []) n = prim_made prim.Equal κ r h (a ∷ []) n
primitive_within prim.Equal κ r h (a ∷ b ∷ []) n = none n (n + suc r)
primitive_within prim.Equal κ r h (a ∷ b ∷ c ∷ atoms) n = prim_made prim.Equal κ r h (a ∷ b ∷ c ∷ atoms) n
primitive_within prim.Unequal κ r h [] n = prim_made prim.Unequal κ r h [] n
primitive_within prim.Unequal κ r h (a ∷ []) n = prim_made prim.Unequal κ r h (a ∷ []) n
primitive_within prim.Unequal κ r h (a ∷ b ∷ []) n = none n (n + suc r)
primitive_within prim.Unequal κ r h (a ∷ b ∷ c ∷ atoms) n = prim_made prim.Unequal κ r h (a ∷ b ∷ c ∷ atoms) n
primitive_within prim.Plus κ r h atoms n = prim_made prim.Plus κ r h atoms n
primitive_within prim.Minus κ r h atoms n = prim_made prim.Minus κ r h atoms n
primitive_within prim.Times κ r h atoms n = prim_made prim.Times κ r h atoms n
primitive_within prim.Quotient κ r h atoms n = prim_made prim.Quotient κ r h atoms n
primitive_within prim.Modulo κ r h atoms n = prim_made prim.Modulo κ r h atoms n
primitive_within prim.Negate κ r h atoms n = prim_made prim.Negate κ r h atoms n
primitive_within prim.Abs κ r h atoms n = prim_made prim.Abs κ r h atoms n
primitive_within prim.Less κ r h atoms n = prim_made prim.Less κ r h atoms n
primitive_within prim.Greater κ r h atoms n = prim_made prim.Greater κ r h atoms n
primitive_within prim.AtMost κ r h atoms n = prim_made prim.AtMost κ r h atoms n
primitive_within prim.AtLeast κ r h atoms n = prim_made prim.AtLeast κ r h atoms n
primitive_within prim.Deref κ r h atoms n = prim_made prim.Deref κ r h atoms n
primitive_within prim.Assign κ r h atoms n = prim_made prim.Assign κ r h atoms n
primitive_within prim.Ord κ r h atoms n = prim_made prim.Ord κ r h atoms n
primitive_within prim.Chr κ r h atoms n = prim_made prim.Chr κ r h atoms n
primitive_within prim.Concat κ r h atoms n = prim_made prim.Concat κ r h atoms n
primitive_within prim.Size κ r h atoms n = prim_made prim.Size κ r h atoms n
primitive_within prim.Str κ r h atoms n = prim_made prim.Str κ r h atoms n
primitive_within prim.Implode κ r h atoms n = prim_made prim.Implode κ r h atoms n
primitive_within prim.Sub κ r h atoms n = prim_made prim.Sub κ r h atoms n
primitive_within prim.Substring κ r h atoms n = prim_made prim.Substring κ r h atoms n
primitive_within prim.Compare κ r h atoms n = prim_made prim.Compare κ r h atoms n
primitive_within prim.Print κ r h atoms n = prim_made prim.Print κ r h atoms n
primitive_within prim.InputLine κ r h atoms n = prim_made prim.InputLine κ r h atoms n
primitive_within prim.StdIn κ r h atoms n = prim_made prim.StdIn κ r h atoms n

at_most_three : (f : Primitive) → fields_taken f ≤ 3
at_most_three prim.Substring = omega arith
at_most_three _ = omega arith

pub builtin_within : (f : Primitive) (κ : Kon) (r : ℕ) → KonRoomy κ r → Roomy (builtin f κ) (4 + r)
builtin_within f κ r h a n = go (takes_one f)
  where
    go : (b : Bool) → Within n (n + (4 + r)) (bound (cond b (primitive f κ (a ∷ []) n) (with_fields (fields_taken f) 0 a (primitive f κ) n)))
    go true = more n (suc r) (4 + r) (bound (primitive f κ (a ∷ []) n)) (omega arith) (primitive_within f κ r h (a ∷ []) n)
    go false =
        more n (fields_taken f + suc r) (4 + r) (bound (with_fields (fields_taken f) 0 a (primitive f κ) n)) (omega (arith, at_most_three f)) (with_fields_within (fields_taken f) 0 a (primitive f κ) (suc r) n (λ fs m. primitive_within f κ r h fs m))

pub constructor_within : (σ : Scope) (c : Con) (κ : Kon) (r : ℕ) → KonRoomy κ r → Roomy (constructor σ c κ) (suc r)
constructor_within σ (con.Data t number takes) κ r h a n = made κ r h (shape.Applied number) (a ∷ []) n
constructor_within σ con.Ref κ r h a n = made κ r h shape.Cell (a ∷ []) n
constructor_within σ (con.Exn x takes) κ r h a n = made κ r h shape.Packet (σ x.0 ∷ a ∷ []) n
constructor_within σ (con.Library e) κ r h a n = made κ r h shape.Packet (known (constant.Library e) ∷ a ∷ []) n

-- ---- Parts and rules

refuted : (b : Bool) → (b ≡ true → false ≡ true) → b ≡ false
refuted true h = sym (h refl)
refuted false h = refl

pub not_needy : (b c : Bool) → (b ≡ true → c ≡ true) → c ≡ false → b ≡ false
not_needy b c h e = refuted b (λ f. sym e ∙ h f)

-- what is safe where a term is, is so in its tail position
pub safe_in : (b c : Bool) (κ : Kon) → (b ≡ true → c ≡ true) → Safe c κ → Safe b κ
safe_in b c (Known a) h s = tt
safe_in b c (Text g) h s = not_needy b c h s

module _ (own : ℕ → Bool) (terms : List Term) (needy : ℕ → Bool) (owned : (j : ℕ) → needy j ≡ true → own j ≡ true) (conv : ℕ → Conv) (converts : (j : ℕ) (σ : Scope) (κ : Kon) (r n : ℕ) → KonRoomy κ r → Safe (needy j) κ → Within n (n + (size_at terms j + r)) (bound (conv j σ κ n))) where
  abbrev size : ℕ → ℕ
  size = size_at terms

  pub part_within : (j : ℕ) (σ : Scope) (rest : Atom → ℕ → Code) (r n : ℕ) → Roomy rest r → Within n (n + (2 + (size j + r))) (bound (part own terms conv j σ rest n))
  part_within j σ rest r n h = go (own j) refl
    where
      body : Code
      body = rest (variable (suc n)) (2 + n + size j)

      inside : Code
      inside = conv j σ (Known (variable n)) (2 + n)

      hi : ℕ
      hi = n + (2 + (size j + r))

      both : Within (suc (suc n)) hi ((bound body ++ []) ++ bound inside)
      both =
          crossed (suc (suc n)) (suc (suc n) + size j) hi (bound body ++ []) (bound inside) (omega arith) (omega arith)
          (wider (2 + n + size j) (2 + n + size j + r) (suc (suc n) + size j) hi (bound body ++ []) (omega arith) (omega arith) (alone (2 + n + size j) (2 + n + size j + r) (bound body) (h (variable (suc n)) (2 + n + size j))))
          (wider (2 + n) (2 + n + (size j + 0)) (suc (suc n)) (suc (suc n) + size j) (bound inside) (omega arith) (omega arith) (converts j σ (Known (variable n)) 0 (2 + n) tt tt))

      go : (b : Bool) → own j ≡ b → Within n hi (bound (cond b (Fix (Function n (point j kind.Ret) (suc n ∷ []) body NoFunction) inside) (conv j σ (Text rest) n)))
      go true e =
          front n hi (suc n ∷ ((bound body ++ []) ++ bound inside)) (omega arith) (front (suc n) hi ((bound body ++ []) ++ bound inside) (omega arith) both)
      go false e =
          more n (size j + r) (2 + (size j + r)) (bound (conv j σ (Text rest) n)) (omega arith) (converts j σ (Text rest) r n h (not_needy (needy j) (own j) (owned j) e))

  pub parts_within : (all : List Part) (before : List Atom) (later : List Part) (σ : Scope) (κ : Kon) (r n : ℕ) → KonRoomy κ r → Within n (n + (suc (size_parts size later) + r)) (bound (parts_of own terms conv all before later σ κ n))
  parts_within all before [] σ κ r n h = more n (suc r) (1 + r) _ (omega arith) (made κ r h shape.Tuple (in_slots all before) n)
  parts_within all before (q ∷ later) σ κ r n h =
      more n (2 + (size q.node + (suc (size_parts size later) + r))) (suc (2 + (size q.node + size_parts size later)) + r) _ (omega arith)
      (part_within q.node σ (λ a m. parts_of own terms conv all (before ++ a ∷ []) later σ κ m) (suc (size_parts size later) + r) n (λ a m. parts_within all (before ++ a ∷ []) later σ κ r m h))

  rule_body : (c : Case) (a : Atom) (σ : Scope) (κ : Kon) (r n : ℕ) → KonRoomy κ r → Safe (needy c.body) κ → Within n (n + (steps_of c.names + (size c.body + r))) (bound (bind_names c.names a σ (λ τ m. conv c.body τ κ m) n))
  rule_body c a σ κ r n h s =
      named c.names a σ (λ τ m. conv c.body τ κ m) (size c.body + r) n (λ τ m. converts c.body τ κ r m h s)

  -- where the continuation is a function, each rule may go on with it
  rules_known : (cases : List Case) (a : Atom) (σ : Scope) (k : Atom) (other : Code) (n : ℕ) → bound other ≡ [] → Within n (n + size_cases size cases) (bound_rules (rules_of own terms conv cases a σ (Known k) other n))
  rules_known [] a σ k other n e = subst (Within n (n + 0)) (sym e) (none n (n + 0))
  rules_known (c ∷ cases) a σ k other n e =
      rule_within (tests_of σ c.tests) _ _ n (n + (steps_of c.names + size c.body)) (n + (steps_of c.names + (size c.body + size_cases size cases))) (omega arith) (omega arith)
      (wider n (n + (steps_of c.names + (size c.body + 0))) n (n + (steps_of c.names + size c.body)) _ (omega arith) (omega arith) (rule_body c a σ (Known k) 0 n tt tt))
      (wider (n + (steps_of c.names + size c.body)) (n + (steps_of c.names + size c.body) + size_cases size cases) (n + (steps_of c.names + size c.body)) (n + (steps_of c.names + (size c.body + size_cases size cases))) _ (omega arith) (omega arith) (rules_known cases a σ k other (n + (steps_of c.names + size c.body)) e))

  -- text stands in the one rule that can be chosen
  rules_text : (cases : List Case) (a : Atom) (σ : Scope) (g : Atom → ℕ → Code) (r : ℕ) (other : Code) (n : ℕ) (b : Bool) → Roomy g r → bound other ≡ [] → b ≡ false → ((i : ℕ) → needy i ≡ b → IsNeedyIn needy (live cases) i) → (i : ℕ) → needy i ≡ b → Within n (n + (size_cases size cases + r)) (bound_rules (rules_of own terms conv cases a σ (Text g) other n))
  rules_text [] a σ g r other n b h e f fit i at = subst (Within n (n + (0 + r))) (sym e) (none n (n + (0 + r)))
  rules_text (c ∷ cases) a σ g r other n b h e f fit i at =
      more n (steps_of c.names + (size c.body + r)) (size_cases size (c ∷ cases) + r) _ (omega arith) (by_tests c.tests cases (fit i at))
    where
      text : Code
      text = bind_names c.names a σ (λ τ m. conv c.body τ (Text g) m) n

      behind : List Case → Rules
      behind ds = rules_of own terms conv ds a σ (Text g) other (n + (steps_of c.names + size c.body))

      one : (needy c.body ≡ true → needy i ≡ true) → Within n (n + (steps_of c.names + (size c.body + r))) (bound text)
      one needs = rule_body c a σ (Text g) r n h (not_needy (needy c.body) (needy i) needs (at ∙ f))

      later : (t : LambdaTest) (ts us : List LambdaTest) (d : Case) (ds : List Case) → IsNeedyIn needy (c ∷ live_from us d (live ds)) i → Within n (n + (steps_of c.names + (size c.body + r))) (bound_rules (rule_of (tests_of σ (t ∷ ts)) text (behind (d ∷ ds))))
      later t ts [] d ds two = let clash : true ≡ false = sym two ∙ at ∙ f in absurd cc
      later t ts (u ∷ us) d ds two = let clash : true ≡ false = sym two ∙ at ∙ f in absurd cc

      by_tests : (tests : List LambdaTest) (ds : List Case) → IsNeedyIn needy (live_from tests c (live ds)) i → Within n (n + (steps_of c.names + (size c.body + r))) (bound_rules (rule_of (tests_of σ tests) text (behind ds)))
      by_tests [] ds needs = one needs
      by_tests (t ∷ ts) [] needs = last_rule (tests_of σ (t ∷ ts)) text other n (n + (steps_of c.names + (size c.body + r))) e (one needs)
      by_tests (t ∷ ts) (d ∷ ds) needs = later t ts d.tests d ds needs

  pub match_within : (i : ℕ) (cases : List Case) (σ : Scope) (κ : Kon) (r : ℕ) (other : Code) (a : Atom) (n : ℕ) → KonRoomy κ r → Safe (needy i) κ → bound other ≡ [] → IsNeedyIn needy (live cases) i → Within n (n + (size_cases size cases + r)) (bound (match_on own terms conv cases σ κ other a n))
  match_within i cases σ (Known k) r other a n h s e fit =
      on_match a (rules_of own terms conv cases a σ (Known k) other n) n (n + (size_cases size cases + r)) (more n (size_cases size cases) (size_cases size cases + r) _ (omega arith) (rules_known cases a σ k other n e))
  match_within i cases σ (Text g) r other a n h s e fit =
      on_match a (rules_of own terms conv cases a σ (Text g) other n) n (n + (size_cases size cases + r)) (rules_text cases a σ g r other n (needy i) h e s again i refl)
    where
      again : (j : ℕ) → needy j ≡ needy i → IsNeedyIn needy (live cases) j
      again j same = go (live cases) fit
        where
          go : (l : List Case) → IsNeedyIn needy l i → IsNeedyIn needy l j
          go [] f = tt
          go (c ∷ []) f = λ x. same ∙ f x
          go (c ∷ d ∷ l) f = same ∙ f

  -- ---- Functions

  abbrev fn_body : List Case → Scope → ℕ → Code
  fn_body cases σ n =
      match_on own terms conv cases σ (Known (variable (suc n))) (raise_exn exn.MatchExn) (variable n) (2 + n)

  body_within : (cases : List Case) (σ : Scope) (n : ℕ) → Within (2 + n) (2 + n + size_cases size cases) (bound (fn_body cases σ n))
  body_within cases σ n =
      on_match (variable n) (rules_of own terms conv cases (variable n) σ (Known (variable (suc n))) (raise_exn exn.MatchExn) (2 + n)) (2 + n) (2 + n + size_cases size cases) (rules_known cases (variable n) σ (variable (suc n)) (raise_exn exn.MatchExn) (2 + n) refl)

  -- its parameter, its continuation and its body
  whole_within : (cases : List Case) (σ : Scope) (n : ℕ) → Within n (n + (2 + size_cases size cases)) (n ∷ suc n ∷ bound (fn_body cases σ n))
  whole_within cases σ n =
      front n (n + (2 + size_cases size cases)) (suc n ∷ bound (fn_body cases σ n)) (omega arith)
      (front (suc n) (n + (2 + size_cases size cases)) (bound (fn_body cases σ n)) (omega arith) (wider (2 + n) (2 + n + size_cases size cases) (suc (suc n)) (n + (2 + size_cases size cases)) (bound (fn_body cases σ n)) (omega arith) (omega arith) (body_within cases σ n)))

  pub fn_within : (i : ℕ) (cases : List Case) (σ : Scope) (κ : Kon) (r n : ℕ) → KonRoomy κ r → Within n (n + (3 + size_cases size cases + r)) (bound (Fix (function_of own terms conv n i cases σ (suc n) NoFunction) (apply κ (variable n) (3 + n + size_cases size cases))))
  fn_within i cases σ κ r n h =
      let hi = n + (3 + size_cases size cases + r) in
      let mid = suc n + (2 + size_cases size cases) in
      let after = apply κ (variable n) (3 + n + size_cases size cases) in
      front n hi ((suc n ∷ suc (suc n) ∷ (bound (fn_body cases σ (suc n)) ++ [])) ++ bound after) (omega arith)
      (joined (suc n) mid hi (suc n ∷ suc (suc n) ∷ (bound (fn_body cases σ (suc n)) ++ [])) (bound after) (omega arith) (omega arith)
      (alone (suc n) mid (suc n ∷ suc (suc n) ∷ bound (fn_body cases σ (suc n))) (whole_within cases σ (suc n)))
      (wider (3 + n + size_cases size cases) (3 + n + size_cases size cases + r) mid hi (bound after) (omega arith) (omega arith) (applied κ r h (variable n) (3 + n + size_cases size cases))))

  -- ---- Applications

  pub call_within : (f a : ℕ) (σ : Scope) (k : Atom) (r n : ℕ) → Within n (n + (8 + (size f + size a) + r)) (bound (part own terms conv f σ (λ u m. part own terms conv a σ (λ b l. Call u (b ∷ k ∷ [])) m) n))
  call_within f a σ k r n =
      more n (2 + (size f + (2 + (size a + 0)))) (8 + (size f + size a) + r) _ (omega arith)
      (part_within f σ (λ u m. part own terms conv a σ (λ b l. Call u (b ∷ k ∷ [])) m) (2 + (size a + 0)) n (λ u m. part_within a σ (λ b l. Call u (b ∷ k ∷ [])) 0 m (λ b l. none l (l + 0))))

  pub argument_within : (f a : ℕ) (σ : Scope) (g : Atom → ℕ → Code) (r n : ℕ) → Roomy g (4 + r) → Within n (n + (8 + (size f + size a) + r)) (bound (part own terms conv a σ g n))
  argument_within f a σ g r n h =
      more n (2 + (size a + (4 + r))) (8 + (size f + size a) + r) _ (omega arith) (part_within a σ g (4 + r) n h)

  -- ---- Declarations

  pub binds_within : (binds : List Bind) (body : ℕ) (σ : Scope) (κ : Kon) (r n : ℕ) → KonRoomy κ r → Safe (needy body) κ → Within n (n + (size_binds size binds + (size body + r))) (bound (binds_of own terms conv binds body σ κ n))
  binds_within [] body σ κ r n h s = more n (size body + r) (0 + (size body + r)) _ (omega arith) (converts body σ κ r n h s)
  binds_within (b ∷ later) body σ κ r n h s =
      more n (2 + (size b.right + rest)) (2 + (steps_of b.names + (size b.right + size_binds size later)) + (size body + r)) _ (omega arith) (part_within b.right σ on rest n (on_within (λ τ l. binds_within later body τ κ r l h s)))
    where
      rest : ℕ
      rest = steps_of b.names + (size_binds size later + (size body + r))

      inside : Atom → ℕ → Code
      inside a m = bind_names b.names a σ (λ τ l. binds_of own terms conv later body τ κ l) m

      on : Atom → ℕ → Code
      on a m = match_of a (rule_of (tests_of σ b.tests) (inside a m) (Otherwise (raise_exn exn.BindExn)))

      on_within : ((τ : Scope) (l : ℕ) → Within l (l + (size_binds size later + (size body + r))) (bound (binds_of own terms conv later body τ κ l))) → Roomy on rest
      on_within again a m =
          on_match a (rule_of (tests_of σ b.tests) (inside a m) (Otherwise (raise_exn exn.BindExn))) m (m + rest) (last_rule (tests_of σ b.tests) (inside a m) (raise_exn exn.BindExn) m (m + rest) refl (named b.names a σ (λ τ l. binds_of own terms conv later body τ κ l) (size_binds size later + (size body + r)) m again))

  -- ---- Handlers

  pub handle_within : (i e : ℕ) (cases : List Case) (σ : Scope) (k : Atom) (r n : ℕ) → Within n (n + (5 + (size e + size_cases size cases) + r)) (bound (handled own terms conv i e cases σ (Known k) n))
  handle_within i e cases σ k r n =
      front n hi (((1 + n) ∷ (3 + n) ∷ (bound caught ++ pair)) ++ bound inside) (omega arith) (joined (suc n) mid hi ((1 + n) ∷ (3 + n) ∷ (bound caught ++ pair)) (bound inside) (omega arith) (omega arith) names behind)
    where
      hi : ℕ
      hi = n + (5 + (size e + size_cases size cases) + r)

      mid : ℕ
      mid = 5 + n + size_cases size cases

      packet : Atom
      packet = variable (3 + n)

      caught : Code
      caught = match_on own terms conv cases σ (Known k) (Throw packet) packet (5 + n)

      inside : Code
      inside = conv e σ (Known (variable (2 + n))) (5 + n + size_cases size cases)

      pair : List ℕ
      pair = (2 + n) ∷ (4 + n) ∷ []

      behind : Within mid hi (bound inside)
      behind =
          wider (5 + n + size_cases size cases) (5 + n + size_cases size cases + (size e + 0)) mid hi (bound inside) (omega arith) (omega arith) (converts e σ (Known (variable (2 + n))) 0 (5 + n + size_cases size cases) tt tt)

      in_pair : Within (2 + n) (5 + n) pair
      in_pair =
          put (2 + n) (2 + n) (5 + n) ((4 + n) ∷ []) (omega arith) (omega arith) (lacks (2 + n) (4 + n) (5 + n) ((4 + n) ∷ []) (inl (omega arith)) last) (wider (4 + n) (5 + n) (2 + n) (5 + n) ((4 + n) ∷ []) (omega arith) (omega arith) last)
        where
          last : Within (4 + n) (5 + n) ((4 + n) ∷ [])
          last = front (4 + n) (5 + n) [] (omega arith) (none (suc (4 + n)) (5 + n))

      caught_within : Within (5 + n) mid (bound caught)
      caught_within =
          on_match packet (rules_of own terms conv cases packet σ (Known k) (Throw packet) (5 + n)) (5 + n) mid (rules_known cases packet σ k (Throw packet) (5 + n) refl)

      both : Within (2 + n) mid (bound caught ++ pair)
      both = crossed (2 + n) (5 + n) mid (bound caught) pair (omega arith) (omega arith) caught_within in_pair

      not_packet : has (bound caught ++ pair) (3 + n) ≡ false
      not_packet =
          lacks_both (bound caught) pair (3 + n) (lacks (3 + n) (5 + n) mid (bound caught) (inl (omega arith)) caught_within) (lacks_both ((2 + n) ∷ []) ((4 + n) ∷ []) (3 + n) (lacks (3 + n) (2 + n) (3 + n) ((2 + n) ∷ []) (inr (omega arith)) (front (2 + n) (3 + n) [] (omega arith) (none (suc (2 + n)) (3 + n)))) (lacks (3 + n) (4 + n) (5 + n) ((4 + n) ∷ []) (inl (omega arith)) (front (4 + n) (5 + n) [] (omega arith) (none (suc (4 + n)) (5 + n)))))

      names : Within (suc n) mid ((1 + n) ∷ (3 + n) ∷ (bound caught ++ pair))
      names =
          wider (1 + n) mid (suc n) mid ((1 + n) ∷ (3 + n) ∷ (bound caught ++ pair)) (omega arith) (omega arith) (front (1 + n) mid ((3 + n) ∷ (bound caught ++ pair)) (omega arith) (wider (2 + n) mid (suc (1 + n)) mid ((3 + n) ∷ (bound caught ++ pair)) (omega arith) (omega arith) (put (3 + n) (2 + n) mid (bound caught ++ pair) (omega arith) (omega arith) not_packet both)))

  -- ---- Groups

  abbrev pub rights : List RecBinding → ℕ
  rights [] = 0
  rights (b ∷ bindings) = size b.right + rights bindings

  pub group_size : (bindings : List RecBinding) → size_group size bindings ≡ length bindings + rights bindings
  group_size [] = refl
  group_size (b ∷ bindings) = let later = group_size bindings in omega (arith, later)

  module _ (numbered : AreNumbered terms) where
    function_size : (k i : ℕ) (c : ℕ × List Case) → within_terms None function_of_term k terms i ≡ Some c → size i ≡ 3 + size_cases size c.1
    function_size zero i c e = absurd cc
    function_size (suc k) i c e = go (slice_get terms i) refl e (λ j h. function_size k j c h)
      where
        part_of : ℕ → Option (ℕ × List Case)
        part_of = within_terms None function_of_term k terms

        go : (o : Option Term) → slice_get terms i ≡ o → at_term None function_of_term part_of i o ≡ Some c → ((j : ℕ) → part_of j ≡ Some c → size j ≡ 3 + size_cases size c.1) → size i ≡ 3 + size_cases size c.1
        go None here f again = absurd cc
        go (Some (term.Fn cases)) here f again =
            size_here terms numbered i (term.Fn cases) here ∙ some_eq (λ d. 3 + size_cases size cases ≡ 3 + size_cases size d.1) (i, cases) c f refl
        go (Some (term.Same j)) here f again = size_here terms numbered i (term.Same j) here ∙ again j f
        go (Some (term.Int z)) here f again = absurd cc
        go (Some (term.Char x)) here f again = absurd cc
        go (Some (term.Text x)) here f again = absurd cc
        go (Some (term.Var x)) here f again = absurd cc
        go (Some (term.Constructor x)) here f again = absurd cc
        go (Some (term.Builtin x)) here f again = absurd cc
        go (Some (term.Tuple x)) here f again = absurd cc
        go (Some (term.App x y)) here f again = absurd cc
        go (Some (term.Match x y)) here f again = absurd cc
        go (Some (term.Raise x)) here f again = absurd cc
        go (Some (term.Handle x y)) here f again = absurd cc
        go (Some (term.Let x y)) here f again = absurd cc
        go (Some term.Finish) here f again = absurd cc
        go (Some (term.Binds x)) here f again = absurd cc
        go (Some (term.Group x)) here f again = absurd cc
        go (Some (term.NewExn x)) here f again = absurd cc
        go (Some (term.SameExn x y)) here f again = absurd cc
        go (Some term.Nothing) here f again = absurd cc
        go (Some term.Gone) here f again = absurd cc

    pub group_within : (bindings : List RecBinding) (f fe : ℕ) (σ : Scope) (n : ℕ) → f + length bindings ≤ fe → fe ≤ n → Either f fe n (n + rights bindings) (bound_functions (group_of own terms conv bindings f σ n))
    group_within [] f fe σ n a b = (tt, tt)
    group_within (b ∷ bindings) f fe σ n few far =
        go (function_at terms b.right) refl (group_within bindings (suc f) fe σ (n + size b.right) (omega (arith, few)) (omega (arith, far)))
      where
        later : Functions
        later = group_of own terms conv bindings (suc f) σ (n + size b.right)

        go : (o : Option (ℕ × List Case)) → function_at terms b.right ≡ o → Either (suc f) fe (n + size b.right) (n + size b.right + rights bindings) (bound_functions later) → Either f fe n (n + (size b.right + rights bindings)) (bound_functions (group_function own terms conv o f σ n later))
        go None e h = either_wider (suc f) fe (n + size b.right) (n + size b.right + rights bindings) f n (n + (size b.right + rights bindings)) (bound_functions later) (omega arith) (omega arith) (omega arith) h
        go (Some c) e h =
            let long : size b.right ≡ 3 + size_cases size c.1 = function_size (length terms) b.right c e in
            one_more f fe n (n + size b.right) (n + (size b.right + rights bindings)) (n ∷ suc n ∷ bound (fn_body c.1 σ n)) (bound_functions later) (omega (arith, few)) far (omega arith) (omega arith)
            (more n (2 + size_cases size c.1) (size b.right) (n ∷ suc n ∷ bound (fn_body c.1 σ n)) (omega (arith, long)) (whole_within c.1 σ n))
            (either_wider (suc f) fe (n + size b.right) (n + size b.right + rights bindings) (suc f) (n + size b.right) (n + (size b.right + rights bindings)) (bound_functions later) (omega arith) (omega arith) (omega arith) h)
