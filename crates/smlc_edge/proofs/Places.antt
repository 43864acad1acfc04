-- The place of a name's entry, and what changes where another entry is put there.
use Rattle.std.proofs.Common.{◌≡◌, ℕ, zero, suc, ◌+◌, ◌<◌, List, [], ◌∷◌, ◌++◌, length, Option, Some, None, Bool, true, false, cond, if◌then◌else◌, refl, sym, ap, subst, ◌∙◌, arith}
use Rattle.std.specs.Prelude.{bytes_eq, slice_get, slice_set, slice_index_or, option_and_then}
use Rattle.std.specs.List.{position_from}
use Rattle.std.proofs.lemmas.Slice.Eq.{bytes_eq-Decides}
use Rattle.smlc_edge.specs.declared.entry.Entry.{Entry}
use Rattle.smlc_edge.specs.Shelf.{entry_of, place_of, changed}

-- the first entry of the name stands at this place
Stands : List ℕ → List Entry → ℕ → Type 0
Stands name [] at = ⊥
Stands name (e ∷ es) zero = bytes_eq e.name.items name ≡ true
Stands name (e ∷ es) (suc at) = (bytes_eq e.name.items name ≡ false) × Stands name es at

stands_from : (name : List ℕ) (es : List Entry) (k at : ℕ) → position_from (λ (e : Entry). bytes_eq e.name.items name) k es ≡ Some at → (d : ℕ) × (at ≡ k + d) × Stands name es d
unfolding Stands
stands_from name [] k at h = cc
stands_from name (e ∷ es) k at h = go (bytes_eq e.name.items name) refl h (stands_from name es (k + 1) at)
  where
    go : (b : Bool) → bytes_eq e.name.items name ≡ b → cond b (Some k) (position_from (λ (e : Entry). bytes_eq e.name.items name) (k + 1) es) ≡ Some at →
        (position_from (λ (e : Entry). bytes_eq e.name.items name) (k + 1) es ≡ Some at → (d : ℕ) × (at ≡ k + 1 + d) × Stands name es d) →
        (d : ℕ) × (at ≡ k + d) × Stands name (e ∷ es) d
    go true t p again = let same : k ≡ at = cc in (zero, omega arith, t)
    go false t p again = let r = again p in (suc r.0, omega (arith, r.1), (t, r.2))

stands : (name : List ℕ) (es : List Entry) (at : ℕ) → place_of name es ≡ Some at → Stands name es at
stands name es at h = let r = stands_from name es 0 at h in let e : r.0 ≡ at = omega (arith, r.1) in subst (λ (d : ℕ). Stands name es d) e r.2

within_stands : (name : List ℕ) (es : List Entry) (at : ℕ) → Stands name es at → at < length es
unfolding Stands
within_stands name [] at h = absurd h
within_stands name (e ∷ es) zero h = omega arith
within_stands name (e ∷ es) (suc at) h = let t = within_stands name es at h.1 in omega arith

pub place-within : (name : List ℕ) (es : List Entry) (at : ℕ) → place_of name es ≡ Some at → at < length es
place-within name es at h = within_stands name es at (stands name es at h)

-- an entry of the name itself, where two texts are the same
bytes_same : (a b : List ℕ) → a ≡ b → bytes_eq a b ≡ true
bytes_same a b e = (bytes_eq-Decides a b).1 e

bytes_equal : (a b : List ℕ) → bytes_eq a b ≡ true → a ≡ b
bytes_equal a b t = (bytes_eq-Decides a b).0 t

at_stands : (name : List ℕ) (es : List Entry) (at : ℕ) (e : Entry) → Stands name es at → slice_get es at ≡ Some e → entry_of es name ≡ Some e
unfolding Stands
at_stands name [] at e h g = absurd h
at_stands name (x ∷ xs) zero e h g = ap (λ b. cond b (Some x) (entry_of xs name)) h ∙ g
at_stands name (x ∷ xs) (suc at) e h g = ap (λ b. cond b (Some x) (entry_of xs name)) h.0 ∙ at_stands name xs at e h.1 g

none_from : (name : List ℕ) (es : List Entry) (k : ℕ) → position_from (λ (e : Entry). bytes_eq e.name.items name) k es ≡ None → entry_of es name ≡ None
none_from name [] k h = refl
none_from name (x ∷ xs) k h = go (bytes_eq x.name.items name) h (none_from name xs (k + 1))
  where
    go : (b : Bool) → cond b (Some k) (position_from (λ (e : Entry). bytes_eq e.name.items name) (k + 1) xs) ≡ None →
        (position_from (λ (e : Entry). bytes_eq e.name.items name) (k + 1) xs ≡ None → entry_of xs name ≡ None) → cond b (Some x) (entry_of xs name) ≡ None
    go true p again = absurd (cc)
    go false p again = again p

-- a name without a place has no entry
pub entry-none : (name : List ℕ) (es : List Entry) → place_of name es ≡ None → entry_of es name ≡ None
entry-none name es h = none_from name es 0 h

pushed_from : (name : List ℕ) (es : List Entry) (e : Entry) (k : ℕ) → bytes_eq e.name.items name ≡ true → position_from (λ (e : Entry). bytes_eq e.name.items name) k es ≡ None →
    position_from (λ (e : Entry). bytes_eq e.name.items name) k (es ++ e ∷ []) ≡ Some (k + length es)
pushed_from name [] e k t h = ap (λ b. cond b (Some k) None) t ∙ ap Some (omega arith)
pushed_from name (x ∷ xs) e k t h = go (bytes_eq x.name.items name) h (pushed_from name xs e (k + 1) t)
  where
    go : (b : Bool) → cond b (Some k) (position_from (λ (e : Entry). bytes_eq e.name.items name) (k + 1) xs) ≡ None →
        (position_from (λ (e : Entry). bytes_eq e.name.items name) (k + 1) xs ≡ None → position_from (λ (e : Entry). bytes_eq e.name.items name) (k + 1) (xs ++ e ∷ []) ≡ Some (k + 1 + length xs)) →
        cond b (Some k) (position_from (λ (e : Entry). bytes_eq e.name.items name) (k + 1) (xs ++ e ∷ [])) ≡ Some (k + length (x ∷ xs))
    go true p again = absurd (cc)
    go false p again = again p ∙ ap Some (omega arith)

-- an entry behind others, none of which is of its name
pub place-push : (name : List ℕ) (es : List Entry) (e : Entry) → e.name.items ≡ name → place_of name es ≡ None → place_of name (es ++ e ∷ []) ≡ Some (length es)
place-push name es e n h = pushed_from name es e 0 (bytes_same e.name.items name n) h ∙ ap Some (omega arith)

-- the entry at an index below the length
get-at : (es : List Entry) (at : ℕ) (e : Entry) → at < length es → e ≡ slice_index_or es at e → slice_get es at ≡ Some e
get-at [] at e h g = absurd (omega arith)
get-at (x ∷ xs) zero e h g = ap Some (sym g)
get-at (x ∷ xs) (suc at) e h g = get-at xs at e (omega arith) g

at_place : (name : List ℕ) (es : List Entry) (at : ℕ) (e : Entry) → place_of name es ≡ Some at → e ≡ slice_index_or es at e → slice_get es at ≡ Some e
at_place name es at e h g = get-at es at e (place-within name es at h) g

module _ {T : Type 0} (view : Entry → Option T) where
  -- what the entry of a name shows
  abbrev pub shown : List Entry → List ℕ → Option T
  shown es name = option_and_then view (entry_of es name)

  -- an entry that shows nothing changes nothing
  pub shown-push : (es : List Entry) (e : Entry) → view e ≡ None → (other : List ℕ) → shown (es ++ e ∷ []) other ≡ shown es other
  shown-push [] e h other = go (bytes_eq e.name.items other)
    where
      go : (b : Bool) → option_and_then view (cond b (Some e) None) ≡ None
      go true = h
      go false = refl
  shown-push (x ∷ xs) e h other = go (bytes_eq x.name.items other) (shown-push xs e h other)
    where
      go : (b : Bool) → shown (xs ++ e ∷ []) other ≡ shown xs other → option_and_then view (cond b (Some x) (entry_of (xs ++ e ∷ []) other)) ≡ option_and_then view (cond b (Some x) (entry_of xs other))
      go true again = refl
      go false again = again

  pick : (b : Bool) (e x : Entry) (rest : Option Entry) → option_and_then view (cond b (Some e) rest) ≡ (if b then view e else option_and_then view (cond b (Some x) rest))
  pick true e x rest = refl
  pick false e x rest = refl

  set_stands : (name : List ℕ) (es : List Entry) (at : ℕ) (e e' : Entry) → Stands name es at → slice_get es at ≡ Some e → e'.name.items ≡ e.name.items →
      (other : List ℕ) → shown (slice_set es at e') other ≡ changed (shown es) name (view e') other
  unfolding Stands
  set_stands name [] at e e' h g n other = absurd h
  set_stands name (x ∷ xs) zero e e' h g n other =
      let first : x ≡ e = cc in
      let had : x.name.items ≡ name = bytes_equal x.name.items name h in
      let has : e'.name.items ≡ name = n ∙ sym (ap (λ (y : Entry). y.name.items) first) ∙ had in
      ap (λ t. option_and_then view (cond (bytes_eq t other) (Some e') (entry_of xs other))) has
      ∙ pick (bytes_eq name other) e' x (entry_of xs other)
      ∙ sym (ap (λ t. if bytes_eq name other then view e' else option_and_then view (cond (bytes_eq t other) (Some x) (entry_of xs other))) had)
  set_stands name (x ∷ xs) (suc at) e e' h g n other = go (bytes_eq x.name.items other) (bytes_eq name other) (set_stands name xs at e e' h.1 g n other) h.0 refl refl
    where
      go : (b d : Bool) → shown (slice_set xs at e') other ≡ changed (shown xs) name (view e') other → bytes_eq x.name.items name ≡ false → bytes_eq x.name.items other ≡ b → bytes_eq name other ≡ d →
          option_and_then view (cond b (Some x) (entry_of (slice_set xs at e') other)) ≡ (if d then view e' else option_and_then view (cond b (Some x) (entry_of xs other)))
      go false d again f p q = again ∙ ap (λ (v : Bool). if v then view e' else shown xs other) q
      go true false again f p q = refl
      go true true again f p q =
          let same : x.name.items ≡ name = bytes_equal x.name.items other p ∙ sym (bytes_equal name other q) in
          let t : bytes_eq x.name.items name ≡ true = bytes_same x.name.items name same in
          absurd (cc)

  -- another entry of the same name in its place changes what that name shows, and nothing else
  pub shown-set : (name : List ℕ) (es : List Entry) (at : ℕ) (e e' : Entry) → place_of name es ≡ Some at → e ≡ slice_index_or es at e → e'.name.items ≡ e.name.items →
      (other : List ℕ) → shown (slice_set es at e') other ≡ changed (shown es) name (view e') other
  shown-set name es at e e' h g = set_stands name es at e e' (stands name es at h) (at_place name es at e h g)

  -- what the entry at the place of a name shows
  pub shown-at : (name : List ℕ) (es : List Entry) (at : ℕ) (e : Entry) → place_of name es ≡ Some at → e ≡ slice_index_or es at e → shown es name ≡ view e
  shown-at name es at e h g = ap (λ o. option_and_then view o) (at_stands name es at e (stands name es at h) (at_place name es at e h g))

  -- the map with a name changed to what it was
  changed_same : (f : List ℕ → Option T) (name other : List ℕ) (v : Option T) → f name ≡ v → changed f name v other ≡ f other
  changed_same f name other v h = go (bytes_eq name other) refl
    where
      go : (b : Bool) → bytes_eq name other ≡ b → (if b then v else f other) ≡ f other
      go false p = refl
      go true p = sym h ∙ ap f (bytes_equal name other p)

  -- an entry that shows the same changes nothing
  pub shown-same : (name : List ℕ) (es : List Entry) (at : ℕ) (e e' : Entry) → place_of name es ≡ Some at → e ≡ slice_index_or es at e → e'.name.items ≡ e.name.items →
      view e' ≡ view e → (other : List ℕ) → shown (slice_set es at e') other ≡ shown es other
  shown-same name es at e e' h g n v other =
      shown-set name es at e e' h g n other ∙ changed_same (shown es) name other (view e') (shown-at name es at e h g ∙ sym v)

  -- an entry that shows something new only where it is chosen
  pub shown-chosen : (name : List ℕ) (es : List Entry) (at : ℕ) (e e' : Entry) → place_of name es ≡ Some at → e ≡ slice_index_or es at e → e'.name.items ≡ e.name.items →
      (b : Bool) (new : Option T) → view e' ≡ (if b then new else view e) → (other : List ℕ) → shown (slice_set es at e') other ≡ (if b then changed (shown es) name new other else shown es other)
  shown-chosen name es at e e' h g n true new v other =
      shown-set name es at e e' h g n other ∙ ap (λ (u : Option T). changed (shown es) name u other) v
  shown-chosen name es at e e' h g n false new v other = shown-same name es at e e' h g n v other

-- maps that agree, changed alike
pub changed-like : {T : Type 0} (f g : List ℕ → Option T) (name name' : List ℕ) (v w : Option T) (other : List ℕ) → f other ≡ g other → name ≡ name' → v ≡ w → changed f name v other ≡ changed g name' w other
changed-like {T = A} f g name name' v w other e n h =
    ap (λ (t : List ℕ). if bytes_eq t other then v else f other) n ∙ ap (λ (u : Option A). if bytes_eq name' other then u else f other) h ∙ ap (λ (u : Option A). if bytes_eq name' other then w else u) e
