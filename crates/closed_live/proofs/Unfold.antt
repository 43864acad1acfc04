-- A body's tree is made of those of the bodies that it names.
use Rattle.std.proofs.Common.{◌≡◌, ℕ, zero, suc, ◌+◌, ◌≤◌, ◌<◌, List, [], ◌∷◌, ◌++◌, Option, Some, None, length, map, slice_get, refl, sym, ap, ◌∙◌, arith}
use Rattle.std.specs.List.{AllByRecursion}
use Rattle.closure_ir.specs.declared.operand.Operand.{Operand}
use Rattle.closure_ir.specs.declared.body.Rule.{Rule}
use Rattle.closure_ir.specs.declared.body.End.{End}
use Rattle.closure_ir.specs.declared.body.End.TheVariants as end
use Rattle.closure_ir.specs.declared.body.Body.{Body}
use Rattle.closure_ir.specs.Code.{Code, When}
use Rattle.closure_ir.specs.Program.{code_of_rules, code_of_end, code_of_binds, code_of_body, code_within, code_at}
use Rattle.closure_ir.specs.Kept.{end_parts, body_parts}

pub all_with : {A : Type 0} (P Q : A → Type 0) (f : (x : A) → P x → Q x) (xs : List A) → AllByRecursion P xs → AllByRecursion Q xs
all_with P Q f [] h = tt
all_with P Q f (x ∷ xs) h = (f x h.0, all_with P Q f xs h.1)

module _ (f g : ℕ → Code) where
  abbrev Agree : ℕ → Type 0
  Agree c = f c ≡ g c

  rules_same : (o : Operand) (rules : List Rule) (otherwise : ℕ) → AllByRecursion Agree (map (λ r. r.body) rules ++ otherwise ∷ []) → code_of_rules f o rules otherwise ≡ code_of_rules g o rules otherwise
  rules_same o [] otherwise h = h.0
  rules_same o (r ∷ rules) otherwise h =
      ap (λ c. When o r.tests c (code_of_rules f o rules otherwise)) h.0 ∙ ap (When o r.tests (g r.body)) (rules_same o rules otherwise h.1)

  end_same : (e : End) → AllByRecursion Agree (end_parts e) → code_of_end f e ≡ code_of_end g e
  end_same (end.Equal a b truth k) h = refl
  end_same (end.Call t a os) h = refl
  end_same (end.Match o rules otherwise) h = rules_same o rules otherwise h
  end_same (end.Throw o) h = refl
  end_same end.Halt h = refl

  -- trees that agree on the bodies that a body names make one of it
  pub body_same : (b : Body) → AllByRecursion Agree (body_parts b) → code_of_body f (Some b) ≡ code_of_body g (Some b)
  body_same b h = ap (code_of_binds b.binds) (end_same b.end h)

-- a body that stands in another has a greater number
abbrev pub AreNumbered : List Body → Type 0
AreNumbered bodies = (i : ℕ) (b : Body) → slice_get bodies i ≡ Some b → AllByRecursion (λ c. (i < c) × (c < length bodies)) (body_parts b)

pub none_past : (bodies : List Body) (i : ℕ) → length bodies ≤ i → slice_get bodies i ≡ None
none_past [] i h = refl
none_past (b ∷ bodies) zero h = absurd (omega arith)
none_past (b ∷ bodies) (suc i) h = none_past bodies i (omega arith)

pub some_within : (bodies : List Body) (i : ℕ) (b : Body) → slice_get bodies i ≡ Some b → i < length bodies
some_within [] i b e = absurd (cc)
some_within (c ∷ bodies) zero b e = omega arith
some_within (c ∷ bodies) (suc i) b e = let h = some_within bodies i b e in omega arith

module _ (bodies : List Body) (numbered : AreNumbered bodies) where
  -- more levels than are left make no other tree
  enough : (k m i : ℕ) → length bodies ≤ k + i → length bodies ≤ m + i → code_within k bodies i ≡ code_within m bodies i
  enough zero zero i h g = refl
  enough zero (suc m) i h g = sym (ap (code_of_body (code_within m bodies)) (none_past bodies i (omega arith)))
  enough (suc k) zero i h g = ap (code_of_body (code_within k bodies)) (none_past bodies i (omega arith))
  enough (suc k) (suc m) i h g = by (slice_get bodies i) refl (λ c le. enough k m c (omega arith) (omega arith))
    where
      by : (o : Option Body) → slice_get bodies i ≡ o → ((c : ℕ) → i < c → code_within k bodies c ≡ code_within m bodies c) → code_of_body (code_within k bodies) (slice_get bodies i) ≡ code_of_body (code_within m bodies) (slice_get bodies i)
      by None e r = ap (code_of_body (code_within k bodies)) e ∙ sym (ap (code_of_body (code_within m bodies)) e)
      by (Some b) e r =
          ap (code_of_body (code_within k bodies)) e
          ∙ body_same (code_within k bodies) (code_within m bodies) b (all_with (λ c. (i < c) × (c < length bodies)) (Agree (code_within k bodies) (code_within m bodies)) (λ c h. r c h.0) (body_parts b) (numbered i b e))
          ∙ sym (ap (code_of_body (code_within m bodies)) e)

  pub code_unfold : (i : ℕ) (b : Body) → slice_get bodies i ≡ Some b → code_at bodies i ≡ code_of_body (code_at bodies) (Some b)
  code_unfold i b e =
      let lt = some_within bodies i b e in
      enough (length bodies) (suc (length bodies)) i (omega arith) (omega arith) ∙ ap (code_of_body (code_within (length bodies) bodies)) e
