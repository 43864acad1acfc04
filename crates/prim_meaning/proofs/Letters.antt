-- However many blocks are counted, a list of characters is read alike: as many as there are suffice.
use Rattle.std.proofs.Common.{◌≡◌, ℕ, zero, suc, ◌<◌, ◌≤◌, Bool, true, false, List, [], ◌∷◌, length, Option, Some, None, refl, sym, ap, ◌∙◌, subst, arith, ◌⊎◌, inl, inr}
use Rattle.std.specs.Prelude.{ℤ, nat_eq, cond, ◌||◌, ◌≢◌}
use Rattle.std.specs.List.{AllByRecursion, IsDistinct, list_any}
use Rattle.std.proofs.lemmas.Bool.{eqb-true}
use Rattle.std.proofs.lemmas.Bool.Decides.{eqb_tells}
use Rattle.std.proofs.Math.Dec.{eqb}
use Rattle.std.proofs.lemmas.Map.Steps.{length-le_from_distinct_below}
use Rattle.prim_meaning.specs.Meaning.{Seen, Scalar, Text, Tuple, Applied, Cell, Packet, Opaque, pair_in, letter_in, consed, on_pair, on_cons, letters_from, letters}
use Rattle.prim_meaning.specs.Alike.{HasBlocks}

module _ {V : Type 0} (see : V → Seen V) where
  -- a list with its characters and the addresses of its cells
  pub data Chars : V → List ℕ → List ℕ → Type 0 where
    chars_end : (v : V) (z : ℤ) → see v ≡ Scalar z → Chars v [] []
    chars_more : (v : V) (a n c : ℕ) (x h t : V) (bs ls : List ℕ) → see v ≡ Applied a n x → nat_eq n 1 ≡ true → pair_in (see x) ≡ Some (h, t) → letter_in (see h) ≡ Some c → Chars t bs ls → Chars v (c ∷ bs) (a ∷ ls)

  -- such a list, of fewer than n
  abbrev Listed : ℕ → V → List ℕ → Type 0
  Listed n v bs = (ls : List ℕ) × Chars v bs ls × (length bs < n)

  after_pair : (n : ℕ) → ((u : V) (bs : List ℕ) → letters see n u ≡ Some bs → Listed n u bs) → (v : V) (a m : ℕ) (x : V) (bs : List ℕ) → see v ≡ Applied a m x → nat_eq m 1 ≡ true → (o : Option (V × V)) → pair_in (see x) ≡ o → on_pair see (letters see n) o ≡ Some bs → Listed (suc n) v bs
  after_pair n rest v a m x bs ev em None ep e = absurd (cc)
  after_pair n rest v a m x bs ev em (Some p) ep e = go (letter_in (see p.0)) refl (letters see n p.1) refl e
    where
      go : (o : Option ℕ) → letter_in (see p.0) ≡ o → (q : Option (List ℕ)) → letters see n p.1 ≡ q → consed o q ≡ Some bs → Listed (suc n) v bs
      go None eo q eq e = absurd (cc)
      go (Some c) eo None eq e = absurd (cc)
      go (Some c) eo (Some cs) eq e =
          let r = rest p.1 cs eq in
          let k : c ∷ cs ≡ bs = cc in
          (a ∷ r.0, subst (λ l. Chars v l (a ∷ r.0)) k (chars_more v a m c x p.0 p.1 cs r.0 ev em ep eo r.1), subst (λ l. length l < suc n) k (omega (arith, r.2)))

  after_cons : (n : ℕ) → ((u : V) (bs : List ℕ) → letters see n u ≡ Some bs → Listed n u bs) → (v : V) (bs : List ℕ) (s : Seen V) → see v ≡ s → letters_from see (letters see n) s ≡ Some bs → Listed (suc n) v bs
  after_cons n rest v bs (Scalar z) ev e = let k : [] ≡ bs = cc in ([], subst (λ l. Chars v l []) k (chars_end v z ev), subst (λ l. length l < suc n) k (omega arith))
  after_cons n rest v bs (Applied a m x) ev e = go (nat_eq m 1) refl e
    where
      go : (q : Bool) → nat_eq m 1 ≡ q → on_cons see (letters see n) (cond q (Some x) None) ≡ Some bs → Listed (suc n) v bs
      go true em e = after_pair n rest v a m x bs ev em (pair_in (see x)) refl e
      go false em e = absurd (cc)
  after_cons n rest v bs (Text cs) ev e = absurd (cc)
  after_cons n rest v bs (Tuple fs) ev e = absurd (cc)
  after_cons n rest v bs (Cell a x) ev e = absurd (cc)
  after_cons n rest v bs (Packet x y) ev e = absurd (cc)
  after_cons n rest v bs Opaque ev e = absurd (cc)

  pub listed : (n : ℕ) (v : V) (bs : List ℕ) → letters see n v ≡ Some bs → Listed n v bs
  listed zero v bs e = absurd (cc)
  listed (suc n) v bs e = after_cons n (λ u cs q. listed n u cs q) v bs (see v) refl e

  -- so many are enough
  pub enough : (v : V) (bs ls : List ℕ) → Chars v bs ls → (n : ℕ) → length bs < n → letters see n v ≡ Some bs
  enough v bs ls h zero lt = absurd (omega (arith, lt))
  enough v bs ls (chars_end u z e) (suc n) lt = ap (letters_from see (letters see n)) e
  enough v bs ls (chars_more u a m c x p t cs ds ev em ep ec h) (suc n) lt =
      ap (letters_from see (letters see n)) ev
      ∙ ap (λ q. on_cons see (letters see n) (cond q (Some x) None)) em
      ∙ ap (on_pair see (letters see n)) ep
      ∙ ap (λ o. consed o (letters see n t)) ec
      ∙ ap (consed (Some c)) (enough t cs ds h n (omega (arith, lt)))

  second : (p q : V × V) → Some p ≡ Some q → p.1 ≡ q.1
  second p q e = let k : p ≡ q = cc in ap (λ z. z.1) k

  as_long : (v : V) (bs ls : List ℕ) → Chars v bs ls → length ls ≡ length bs
  as_long v bs ls (chars_end u z e) = refl
  as_long v bs ls (chars_more u a m c x p t cs ds ev em ep ec h) = ap suc (as_long t cs ds h)

  alone : (v : V) (bs ls cs ds : List ℕ) → Chars v bs ls → Chars v cs ds → length ds ≡ length ls
  alone v bs ls cs ds (chars_end u z e) (chars_end w y f) = refl
  alone v bs ls cs ds (chars_end u z e) (chars_more w a m c x p t fs gs ev em ep ec h) = absurd (cc)
  alone v bs ls cs ds (chars_more w a m c x p t fs gs ev em ep ec h) (chars_end u z e) = absurd (cc)
  alone v bs ls cs ds (chars_more u a m c x p t fs gs ev em ep ec h) (chars_more w b n d y q r js ks fv fm fp fc g) =
      let k : y ≡ x = cc in
      let same : Some (q, r) ≡ Some (p, t) = sym fp ∙ ap (λ z. pair_in (see z)) k ∙ ep in
      let l : r ≡ t = second (q, r) (p, t) same in
      ap suc (alone t fs gs js ks h (subst (λ z. Chars z js ks) l g))

  module _ (most : ℕ) (blocks : HasBlocks see most) where
    below : (v : V) (bs ls : List ℕ) → Chars v bs ls → (q : ℕ) → list_any (eqb q) ls ≡ true → q < most
    below v bs ls (chars_end u z e) q m = absurd (cc)
    below v bs ls (chars_more u a n c x p t cs ds ev em ep ec h) q m = go (eqb q a) refl m (λ k. below t cs ds h q k)
      where
        go : (d : Bool) → eqb q a ≡ d → list_any (eqb q) (a ∷ ds) ≡ true → (list_any (eqb q) ds ≡ true → q < most) → q < most
        go true e m rest = subst (λ k. k < most) (sym (eqb-true q a e)) (blocks.below u a n x ev)
        go false e m rest = rest (subst (λ b. (b || list_any (eqb q) ds) ≡ true) e m)

    -- a cell's address isn't that of a cell behind it
    apart : (a n : ℕ) (v x y z : V) (k : ℕ) → see v ≡ Applied a n x → pair_in (see x) ≡ Some (y, z) → (bs ls : List ℕ) → Chars z bs ls → (w : V) (cs ds : List ℕ) → Chars w cs ds → length ds ≤ length ls → AllByRecursion (λ d. eqb a d ≡ false) ds
    apart a n v x y z k ev ep bs ls hz w cs ds (chars_end u i e) le = tt
    apart a n v x y z k ev ep bs ls hz w cs ds (chars_more u b m c r p t fs gs fv fm fp fc h) le =
        (go (eqb_tells a b), apart a n v x y z k ev ep bs ls hz t fs gs h (omega (arith, le)))
      where
        go : ((eqb a b ≡ true) × (a ≡ b)) ⊎ ((eqb a b ≡ false) × (a ≢ b)) → eqb a b ≡ false
        go (inr f) = f.0
        go (inl f) =
            let one : r ≡ x = blocks.same v u a n m x r ev (subst (λ i. see u ≡ Applied i m r) (sym f.1) fv) in
            let same : Some (p, t) ≡ Some (y, z) = sym fp ∙ ap (λ i. pair_in (see i)) one ∙ ep in
            let l : t ≡ z = second (p, t) (y, z) same in
            let len = alone z bs ls fs gs hz (subst (λ i. Chars i fs gs) l h) in
            absurd (omega (arith, le, len))

    distinct : (v : V) (bs ls : List ℕ) → Chars v bs ls → IsDistinct eqb ls
    unfolding IsDistinct
    distinct v bs ls (chars_end u z e) = tt
    distinct v bs ls (chars_more u a n c x p t cs ds ev em ep ec h) =
        (apart a n u x p t 0 ev ep cs ds h t cs ds h (omega arith), distinct t cs ds h)

    -- a list has no more cells than there are blocks
    pub fits_blocks : (n : ℕ) (v : V) (bs : List ℕ) → letters see n v ≡ Some bs → length bs ≤ most
    fits_blocks n v bs e =
        let r = listed n v bs e in
        let len = as_long v bs r.0 r.1 in
        let few = length-le_from_distinct_below r.0 most (distinct v bs r.0 r.1) (below v bs r.0 r.1) in
        omega (arith, len, few)

    -- what any count reads, this one reads
    pub blocks_suffice : (n : ℕ) (v : V) (bs : List ℕ) → letters see n v ≡ Some bs → letters see (suc most) v ≡ Some bs
    blocks_suffice n v bs e =
        let r = listed n v bs e in
        let few = fits_blocks n v bs e in
        enough v bs r.0 r.1 (suc most) (omega (arith, few))
