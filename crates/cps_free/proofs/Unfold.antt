-- A body's tree is made of those of the bodies that it names.
use Rattle.std.proofs.Common.{◌≡◌, ℕ, zero, suc, ◌+◌, ◌≤◌, ◌<◌, List, [], ◌∷◌, ◌++◌, Option, Some, None, length, map, flat_map, slice_get, refl, sym, ap, ◌∙◌, arith}
use Rattle.std.specs.List.{AllByRecursion}
use Rattle.cps_ir.specs.declared.body.Function.{Function as Entry}
use Rattle.cps_ir.specs.declared.body.Bind.{Bind}
use Rattle.cps_ir.specs.declared.body.Bind.TheVariants as bind
use Rattle.cps_ir.specs.declared.body.Rule.{Rule as Chosen}
use Rattle.cps_ir.specs.declared.body.End.{End}
use Rattle.cps_ir.specs.declared.body.End.TheVariants as end
use Rattle.cps_ir.specs.declared.body.Body.{Body}
use Rattle.cps_ir.specs.Code.{Code, Make, Pick, Prim, Equal, Fix, Call, Match, Handler, SetHandler, Throw, Halt, Functions, Function, Rules, Rule}
use Rattle.cps_ir.specs.Program.{functions_of, rules_of, code_of_end, code_of_bind, code_of_binds, code_of_body, code_within, code_at}
use Rattle.cps_ir.specs.Kept.{bind_parts, end_parts, body_parts}

pub all_front : {A : Type 0} (P : A → Type 0) (xs ys : List A) → AllByRecursion P (xs ++ ys) → AllByRecursion P xs
all_front P [] ys h = tt
all_front P (x ∷ xs) ys h = (h.0, all_front P xs ys h.1)

pub all_back : {A : Type 0} (P : A → Type 0) (xs ys : List A) → AllByRecursion P (xs ++ ys) → AllByRecursion P ys
all_back P [] ys h = h
all_back P (x ∷ xs) ys h = all_back P xs ys h.1

pub all_with : {A : Type 0} (P Q : A → Type 0) (f : (x : A) → P x → Q x) (xs : List A) → AllByRecursion P xs → AllByRecursion Q xs
all_with P Q f [] h = tt
all_with P Q f (x ∷ xs) h = (f x h.0, all_with P Q f xs h.1)

module _ (f g : ℕ → Code) where
  abbrev Agree : ℕ → Type 0
  Agree c = f c ≡ g c

  functions_same : (fs : List Entry) → AllByRecursion Agree (map (λ e. e.body) fs) → functions_of f fs ≡ functions_of g fs
  functions_same [] h = refl
  functions_same (e ∷ fs) h =
      ap (λ c. Function e.name e.point e.params c (functions_of f fs)) h.0 ∙ ap (Function e.name e.point e.params (g e.body)) (functions_same fs h.1)

  rules_same : (rules : List Chosen) (otherwise : ℕ) → AllByRecursion Agree (map (λ r. r.body) rules ++ otherwise ∷ []) → rules_of f rules otherwise ≡ rules_of g rules otherwise
  rules_same [] otherwise h = ap Rattle.cps_ir.specs.Code.Otherwise h.0
  rules_same (r ∷ rules) otherwise h =
      ap (λ c. Rule r.tests c (rules_of f rules otherwise)) h.0 ∙ ap (Rule r.tests (g r.body)) (rules_same rules otherwise h.1)

  end_same : (e : End) → AllByRecursion Agree (end_parts e) → code_of_end f e ≡ code_of_end g e
  end_same (end.Equal a b truth k) h = refl
  end_same (end.Call a atoms) h = refl
  end_same (end.Match a rules otherwise) h = ap (Match a) (rules_same rules otherwise h)
  end_same (end.Throw a) h = refl
  end_same end.Halt h = refl

  bind_same : (b : Bind) (c : Code) → AllByRecursion Agree (bind_parts b) → code_of_bind f b c ≡ code_of_bind g b c
  bind_same (bind.Make x shape atoms) c h = refl
  bind_same (bind.Pick x i a) c h = refl
  bind_same (bind.Prim x p atoms) c h = refl
  bind_same (bind.Fix fs) c h = ap (λ gs. Fix gs c) (functions_same fs h)
  bind_same (bind.Handler x) c h = refl
  bind_same (bind.SetHandler a) c h = refl

  binds_same : (bs : List Bind) (c d : Code) → AllByRecursion Agree (flat_map bind_parts bs) → c ≡ d → code_of_binds f bs c ≡ code_of_binds g bs d
  binds_same [] c d h e = e
  binds_same (b ∷ bs) c d h e =
      bind_same b (code_of_binds f bs c) (all_front Agree (bind_parts b) (flat_map bind_parts bs) h)
      ∙ ap (code_of_bind g b) (binds_same bs c d (all_back Agree (bind_parts b) (flat_map bind_parts bs) h) e)

  -- trees that agree on the bodies that a body names make one of it
  pub body_same : (b : Body) → AllByRecursion Agree (body_parts b) → code_of_body f (Some b) ≡ code_of_body g (Some b)
  body_same b h =
      binds_same b.binds (code_of_end f b.end) (code_of_end g b.end) (all_front Agree (flat_map bind_parts b.binds) (end_parts b.end) h)
      (end_same b.end (all_back Agree (flat_map bind_parts b.binds) (end_parts b.end) h))

-- a body that stands in another has a greater number
abbrev pub AreNumbered : List Body → Type 0
AreNumbered bodies = (i : ℕ) (b : Body) → slice_get bodies i ≡ Some b → AllByRecursion (λ c. (i < c) × (c < length bodies)) (body_parts b)

none_past : (bodies : List Body) (i : ℕ) → length bodies ≤ i → slice_get bodies i ≡ None
none_past [] i h = refl
none_past (b ∷ bodies) zero h = absurd (omega arith)
none_past (b ∷ bodies) (suc i) h = none_past bodies i (omega arith)

some_within : (bodies : List Body) (i : ℕ) (b : Body) → slice_get bodies i ≡ Some b → i < length bodies
some_within [] i b e = absurd (cc)
some_within (c ∷ bodies) zero b e = omega arith
some_within (c ∷ bodies) (suc i) b e = let h = some_within bodies i b e in omega arith

module _ (bodies : List Body) (numbered : AreNumbered bodies) where
  -- more levels than are left make no other tree
  enough : (k m i : ℕ) → length bodies ≤ k + i → length bodies ≤ m + i → code_within k bodies i ≡ code_within m bodies i
  enough zero zero i h g = refl
  enough zero (suc m) i h g = sym (ap (code_of_body (code_within m bodies)) (none_past bodies i (omega arith)))
  enough (suc k) zero i h g = ap (code_of_body (code_within k bodies)) (none_past bodies i (omega arith))
  enough (suc k) (suc m) i h g = by (slice_get bodies i) refl (λ c le. enough k m c (omega arith) (omega arith))
    where
      by : (o : Option Body) → slice_get bodies i ≡ o → ((c : ℕ) → i < c → code_within k bodies c ≡ code_within m bodies c) → code_of_body (code_within k bodies) (slice_get bodies i) ≡ code_of_body (code_within m bodies) (slice_get bodies i)
      by None e r = ap (code_of_body (code_within k bodies)) e ∙ sym (ap (code_of_body (code_within m bodies)) e)
      by (Some b) e r =
          ap (code_of_body (code_within k bodies)) e
          ∙ body_same (code_within k bodies) (code_within m bodies) b (all_with (λ c. (i < c) × (c < length bodies)) (Agree (code_within k bodies) (code_within m bodies)) (λ c h. r c h.0) (body_parts b) (numbered i b e))
          ∙ sym (ap (code_of_body (code_within m bodies)) e)

  pub code_unfold : (i : ℕ) (b : Body) → slice_get bodies i ≡ Some b → code_at bodies i ≡ code_of_body (code_at bodies) (Some b)
  code_unfold i b e =
      let lt = some_within bodies i b e in
      enough (length bodies) (suc (length bodies)) i (omega arith) (omega arith) ∙ ap (code_of_body (code_within (length bodies) bodies)) e
