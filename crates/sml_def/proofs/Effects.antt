-- What the effects of a step do to the blocks.
use Rattle.std.proofs.Common.{◌≡◌, ℕ, zero, suc, ◌+◌, ◌≤◌, Bool, true, false, List, [], ◌∷◌, ◌++◌, length, set, Option, Some, None, refl, sym, ap, ◌∙◌, subst, arith, length-append, length-set}
use Rattle.std.specs.Prelude.{IfSome, slice_get, cond}
use Rattle.std.specs.List.{AllByRecursion}
use Rattle.simulation.specs.Stores.{Effect, Append, Put, Act, all_affected, replaced, may_replace, configured, wrote, acted}
use Rattle.sml_def.specs.State.{Block, Focus}
use Rattle.sml_def.specs.Run.{State, view}

-- a fact by recursion
pub all_map : {A : Type 0} (P Q : A → Type 0) → ((x : A) → P x → Q x) → (xs : List A) → AllByRecursion P xs → AllByRecursion Q xs
all_map P Q f [] h = tt
all_map P Q f (x ∷ xs) h = (f x h.0, all_map P Q f xs h.1)

pub all_append : {A : Type 0} (P : A → Type 0) (xs ys : List A) → AllByRecursion P xs → AllByRecursion P ys → AllByRecursion P (xs ++ ys)
all_append P [] ys h g = g
all_append P (x ∷ xs) ys h g = (h.0, all_append P xs ys h.1 g)

pub all_get : {A : Type 0} (P : A → Type 0) (xs : List A) (i : ℕ) → AllByRecursion P xs → IfSome (slice_get xs i) P
all_get P [] i h = tt
all_get P (x ∷ xs) zero h = h.0
all_get P (x ∷ xs) (suc i) h = all_get P xs i h.1

all_set : {A : Type 0} (P : A → Type 0) (xs : List A) (i : ℕ) (x : A) → AllByRecursion P xs → P x → AllByRecursion P (set xs i x)
all_set P [] i x h g = tt
all_set P (y ∷ xs) zero x h g = (g, h.1)
all_set P (y ∷ xs) (suc i) x h g = (h.0, all_set P xs i x h.1 g)

-- how many blocks there are after these effects
abbrev pub grown : ℕ → List (Effect Block) → ℕ
grown n [] = n
grown n (Append xs ∷ es) = grown (n + length xs) es
grown n (Put a x ∷ es) = grown n es

pub grown_more : (n : ℕ) (es : List (Effect Block)) → n ≤ grown n es
grown_more n [] = omega arith
grown_more n (Append xs ∷ es) = omega (arith, grown_more (n + length xs) es)
grown_more n (Put a x ∷ es) = grown_more n es

pub none_affected : (es : List (Effect Block)) → all_affected view None es ≡ None
none_affected [] = refl
none_affected (e ∷ es) = none_affected es

-- a fact of each block
module _ (P : Block → Type 0) where
  -- of each block of an effect
  abbrev pub EffectHas : Effect Block → Type 0
  EffectHas (Append xs) = AllByRecursion P xs
  EffectHas (Put a x) = P x

  abbrev Done : ℕ → List (Effect Block) → List Block → Type 0
  Done n es ys = (length ys ≡ grown n es) × AllByRecursion P ys

  put_done : (store ys : List Block) (a : ℕ) (x : Block) (es : List (Effect Block)) (o : Option Block) → AllByRecursion P store → P x → ((zs : List Block) → length zs ≡ length store → AllByRecursion P zs → all_affected view (Some zs) es ≡ Some ys → Done (length store) es ys) → all_affected view (replaced view store a x o) es ≡ Some ys → Done (length store) es ys
  put_done store ys a x es None h hx on e = absurd (let n = none_affected es in cc)
  put_done store ys a x es (Some old) h hx on e = go (may_replace (view old) (view x)) e
    where
      go : (t : Bool) → all_affected view (cond t (Some (set store a x)) None) es ≡ Some ys → Done (length store) es ys
      go true e = on (set store a x) (length-set store a x) (all_set P store a x h hx) e
      go false e = absurd (let n = none_affected es in cc)

  all_done : (es : List (Effect Block)) (store ys : List Block) → AllByRecursion P store → AllByRecursion EffectHas es → all_affected view (Some store) es ≡ Some ys → Done (length store) es ys
  all_done [] store ys h g e =
      let same : store ≡ ys = cc in
      (ap length (sym same), subst (AllByRecursion P) same h)
  all_done (Append xs ∷ es) store ys h g e =
      let r = all_done es (store ++ xs) ys (all_append P store xs h g.0) g.1 e in
      (r.0 ∙ ap (λ n. grown n es) (length-append store xs), r.1)
  all_done (Put a x ∷ es) store ys h g e =
      put_done store ys a x es (slice_get store a) h g.0 (λ zs len hz ez. let r = all_done es zs ys hz g.1 ez in (r.0 ∙ ap (λ n. grown n es) len, r.1)) e

  -- the state after an act
  pub record IsDone (s t : State) (a : Act Focus Block) : Type 0 where
    pub control : t.control ≡ a.next
    pub len : length t.store ≡ grown (length s.store) a.effects
    pub store : AllByRecursion P t.store

  pub act_done : (s t : State) (a : Act Focus Block) → AllByRecursion P s.store → AllByRecursion EffectHas a.effects → acted view s.out s.store (Some a) ≡ Some t → IsDone s t a
  act_done s t a h g e = go (all_affected view (Some s.store) a.effects) refl e
    where
      go : (o : Option (List Block)) → all_affected view (Some s.store) a.effects ≡ o → configured a.next (wrote s.out a.told) o ≡ Some t → IsDone s t a
      go None f e = absurd cc
      go (Some ys) f e =
          let d = all_done a.effects s.store ys h g f in
          let made : State = record { control = a.next; out = wrote s.out a.told; store = ys } in
          let same : made ≡ t = cc in
          subst (λ u. IsDone s u a) same (record { control = refl; len = d.0; store = d.1 })

-- where each block that has the one fact has the other
pub effects_map : (P Q : Block → Type 0) → ((b : Block) → P b → Q b) → (es : List (Effect Block)) → AllByRecursion (EffectHas P) es → AllByRecursion (EffectHas Q) es
effects_map P Q f [] h = tt
effects_map P Q f (Append xs ∷ es) h = (all_map P Q f xs h.0, effects_map P Q f es h.1)
effects_map P Q f (Put a x ∷ es) h = (f x h.0, effects_map P Q f es h.1)

-- the state after an act has what its effects make
pub act_makes : (s t : State) (a : Act Focus Block) → acted view s.out s.store (Some a) ≡ Some t → all_affected view (Some s.store) a.effects ≡ Some t.store
act_makes s t a e = go (all_affected view (Some s.store) a.effects) refl e
  where
    go : (o : Option (List Block)) → all_affected view (Some s.store) a.effects ≡ o → configured a.next (wrote s.out a.told) o ≡ Some t → all_affected view (Some s.store) a.effects ≡ Some t.store
    go None f e = absurd cc
    go (Some ys) f e =
        let made : State = record { control = a.next; out = wrote s.out a.told; store = ys } in
        let same : made ≡ t = cc in
        f ∙ ap (λ (u : State). Some u.store) same
