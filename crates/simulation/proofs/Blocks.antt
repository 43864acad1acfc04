-- Laws of prefixes, reach, growth and the maps between memories.
use Rattle.std.proofs.Common.{◌≡◌, ℕ, List, [], ◌++◌, inl, inr, refl, sym, ap, ◌∙◌, subst, append_assoc, append-nil}
use Rattle.simulation.specs.Blocks.{Block, IsAmong, IsPrefix, points_of, StandsAt, Reach, root, field, AreOfOneSort, IsCounted, IsLike, Embeds, Grows}

pub prefix_refl : {X : Type 0} (xs : List X) → IsPrefix xs xs
prefix_refl xs = ([], append-nil xs)

pub prefix_trans : {X : Type 0} (xs ys zs : List X) → IsPrefix xs ys → IsPrefix ys zs → IsPrefix xs zs
prefix_trans xs ys zs p q = (p.0 ++ q.0, sym (append_assoc xs p.0 q.0) ∙ ap (λ l. l ++ q.0) p.1 ∙ q.1)

pub prefix_of_eq : {X : Type 0} (xs ys : List X) → xs ≡ ys → IsPrefix xs ys
prefix_of_eq xs ys e = ([], append-nil xs ∙ e)

-- reach is the least: what holds of the roots and is kept by fields holds of all that is reached
pub reach_least : (memory : List Block) (roots : List ℕ) (Q : ℕ → Type 0) → ((a : ℕ) → IsAmong a roots → Q a) → ((a b : ℕ) (x : Block) → Q a → StandsAt memory a x → IsAmong b x.fields → Q b) → (a : ℕ) → Reach memory roots a → Q a
reach_least memory roots Q start on a (root a' h) = start a h
reach_least memory roots Q start on b (field a b' x r s h) = on a b x (reach_least memory roots Q start on a r) s h

-- more roots, and no field lost, reach no less
pub reach_mono : (m m' : List Block) (rs rs' : List ℕ) → ((a : ℕ) → IsAmong a rs → Reach m' rs' a) → ((a b : ℕ) (x : Block) → StandsAt m a x → IsAmong b x.fields → Reach m' rs' a → Reach m' rs' b) → (a : ℕ) → Reach m rs a → Reach m' rs' a
reach_mono m m' rs rs' start on =
    reach_least m rs (Reach m' rs') start (λ a b x r s h. on a b x s h r)

-- the image of what is reached is reached, if the images of the roots are, and those of the fields of what is reached
pub reach_image : (m m' : List Block) (rs rs' : List ℕ) (f : ℕ → ℕ) → ((a : ℕ) → IsAmong a rs → Reach m' rs' (f a)) → ((a b : ℕ) (x : Block) → StandsAt m a x → IsAmong b x.fields → Reach m' rs' (f a) → Reach m' rs' (f b)) → (a : ℕ) → Reach m rs a → Reach m' rs' (f a)
reach_image m m' rs rs' f start on =
    reach_least m rs (λ a. Reach m' rs' (f a)) start (λ a b x r s h. on a b x s h r)

pub like_refl : (x : Block) → IsLike x x
like_refl x = record { datum = λ e. (e, refl); points = λ p h. h }

pub like_trans : (x y z : Block) → IsLike x y → IsLike y z → IsLike x z
like_trans x y z p q = record {
  datum = λ e. let d = p.datum e in let d' = q.datum d.0 in (d'.0, d'.1 ∙ d.1);
  points = λ t h. q.points t (p.points t h);
}

-- blocks of one sort have images of one sort
pub sort_like : (x x' y y' : Block) → IsLike x x' → IsLike y y' → AreOfOneSort x y → AreOfOneSort x' y'
sort_like x x' y y' p q (inl h) = inl ((p.datum h.0).0, (q.datum h.1).0)
sort_like x x' y y' p q (inr h) = inr (h.0, p.points h.0 h.1, q.points h.0 h.2)

pub embeds_id : (m : List Block) (P : ℕ → Type 0) → Embeds m P m P (λ a. a)
embeds_id m P = record {
  image = λ a x h s c. (x, s, h, like_refl x);
  apart = λ a b x y p q s t c e. e;
}

pub embeds_trans : (m m' m'' : List Block) (P Q R : ℕ → Type 0) (f g : ℕ → ℕ) → Embeds m P m' Q f → Embeds m' Q m'' R g → Embeds m P m'' R (λ a. g (f a))
embeds_trans m m' m'' P Q R f g u v = record {
  image = λ a x h s c.
      let i = u.image a x h s c in
      let j = v.image (f a) i.0 i.2 i.1 (sort_like x i.0 x i.0 i.3 i.3 c) in
      (j.0, j.1, j.2, like_trans x i.0 j.0 i.3 j.3);
  apart = λ a b x y p q s t c e.
      let i = u.image a x p s (sort_left x y c) in
      let j = u.image b y q t (sort_right x y c) in
      u.apart a b x y p q s t c (v.apart (f a) (f b) i.0 j.0 i.2 j.2 i.1 j.1 (sort_like x i.0 y j.0 i.3 j.3 c) e);
}
  where
    sort_left : (x y : Block) → AreOfOneSort x y → IsCounted x
    sort_left x y (inl h) = inl (h.0, h.0)
    sort_left x y (inr h) = inr (h.0, h.1, h.1)

    sort_right : (x y : Block) → AreOfOneSort x y → IsCounted y
    sort_right x y (inl h) = inl (h.1, h.1)
    sort_right x y (inr h) = inr (h.0, h.2, h.2)

pub grows_refl : (m : List Block) → Grows m m
grows_refl m a x s = (x, s, refl, refl)

pub grows_trans : (m m' m'' : List Block) → Grows m m' → Grows m' m'' → Grows m m''
grows_trans m m' m'' p q a x s =
    let i = p a x s in
    let j = q a i.0 i.1 in
    (j.0, j.1, j.2 ∙ i.2, j.3 ∙ i.3)

-- kinds and lengths decide all that a map says of a block
pub like_same : (x x' y : Block) → x'.kind ≡ x.kind → x'.words ≡ x.words → IsLike x' y → IsLike x y
like_same x x' y k w h = record {
  datum = λ e. let d = h.datum (k ∙ e) in (d.0, d.1 ∙ w);
  points = λ p i. h.points p (subst (λ t. IsAmong p (points_of t)) (sym k) i);
}

pub sort_same : (x x' y y' : Block) → x'.kind ≡ x.kind → y'.kind ≡ y.kind → AreOfOneSort x y → AreOfOneSort x' y'
sort_same x x' y y' k l (inl h) = inl (k ∙ h.0, l ∙ h.1)
sort_same x x' y y' k l (inr h) =
    inr (h.0, subst (λ t. IsAmong h.0 (points_of t)) (sym k) h.1, subst (λ t. IsAmong h.0 (points_of t)) (sym l) h.2)

pub embeds_grown : (m m' l : List Block) (P Q : ℕ → Type 0) (f : ℕ → ℕ) → Grows m m' → Embeds m' P l Q f → Embeds m P l Q f
embeds_grown m m' l P Q f g u = record {
  image = λ a x h s c.
      let i = g a x s in
      let j = u.image a i.0 h i.1 (sort_same x i.0 x i.0 i.2 i.2 c) in
      (j.0, j.1, j.2, like_same x i.0 j.0 i.2 i.3 j.3);
  apart = λ a b x y p q s t c e.
      let i = g a x s in
      let j = g b y t in
      u.apart a b i.0 j.0 p q i.1 j.1 (sort_same x i.0 y j.0 i.2 j.2 c) e;
}
