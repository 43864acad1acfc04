-- The words of what is reached, where class records are charged to the closures that name them.
use Rattle.std.proofs.Common.{◌≡◌, ℕ, ◌+◌, ◌*◌, ◌≤◌, ◌≢◌, List, [], ◌∷◌, ◌++◌, Option, Some, None, slice_get, ◌⊎◌, inl, inr, refl, sym, ap, ◌∙◌, subst, arith, ⊎_elim}
use Rattle.smlc_base.specs.declared.point.Point.{Point}
use Rattle.simulation.specs.Blocks.{Kind, Closure, Frame, Datum, ClassRecord, SpillRecord, Inside, Block, IsAmong, points_of, StandsAt, Reach, AreOfOneSort, IsCounted, IsLike, Embeds}
use Rattle.simulation.specs.Keeps.{IsNamedBy, AllNamed, HasTidyReach}
use Rattle.simulation.specs.Words.{IsDistinct, weight, kind_words, block_words, words_at, HasWords, HasMade, AreNamed, IsCharged, Affords}
use Rattle.simulation.proofs.Lists.{among_left, among_right}
use Rattle.simulation.proofs.Heaps.{IsUncounted, counted_cases}
use Rattle.simulation.proofs.Weights.{weight_contained, weight_keys, weight-append, parted, weight_groups, weight_one, weight_zero, weight_shares}

-- ---- The words of what lies one to one in another memory

-- one thing that is counted at an address: the datum there, or what stands there for a point
pub record Key : Type 0 where
  pub address : ℕ
  pub point : Option Point

abbrev pub first_point : List Point → Option Point
first_point [] = None
first_point (p ∷ ps) = Some p

abbrev pub key_of : (ℕ → ℕ) → ℕ → Option Block → Key
key_of f a None = record { address = f a; point = None }
key_of f a (Some x) = record { address = f a; point = first_point (points_of x.kind) }

-- what is counted of a block: its words if it is a datum, and else a weight for each of its points
abbrev pub point_keys : ℕ → List Point → List Key
point_keys a [] = []
point_keys a (p ∷ ps) = record { address = a; point = Some p } ∷ point_keys a ps

abbrev pub kind_keys : ℕ → Kind → List Key
kind_keys a (Closure p) = point_keys a (p ∷ [])
kind_keys a (Frame ps) = point_keys a ps
kind_keys a Datum = record { address = a; point = None } ∷ []
kind_keys a ClassRecord = []
kind_keys a SpillRecord = []
kind_keys a Inside = []

abbrev pub block_keys : ℕ → Option Block → List Key
block_keys a None = []
block_keys a (Some y) = kind_keys a y.kind

abbrev pub all_keys : List Block → List ℕ → List Key
all_keys memory [] = []
all_keys memory (a ∷ bs) = block_keys a (slice_get memory a) ++ all_keys memory bs

among_point_keys : (a : ℕ) (p : Point) (ps : List Point) → IsAmong p ps → IsAmong (record { address = a; point = Some p }) (point_keys a ps)
among_point_keys a p [] h = absurd h
among_point_keys a p (q ∷ ps) (inl e) = inl (ap (λ t. let k : Key = record { address = a; point = Some t } in k) e)
among_point_keys a p (q ∷ ps) (inr h) = inr (among_point_keys a p ps h)

among_kind_keys : (a : ℕ) (p : Point) (k : Kind) → IsAmong p (points_of k) → IsAmong (record { address = a; point = Some p }) (kind_keys a k)
among_kind_keys a p (Closure q) h = among_point_keys a p (q ∷ []) h
among_kind_keys a p (Frame ps) h = among_point_keys a p ps h
among_kind_keys a p Datum h = absurd h
among_kind_keys a p ClassRecord h = absurd h
among_kind_keys a p SpillRecord h = absurd h
among_kind_keys a p Inside h = absurd h

among_all_keys : (memory : List Block) (bs : List ℕ) (a : ℕ) (y : Block) (k : Key) → IsAmong a bs → StandsAt memory a y → IsAmong k (kind_keys a y.kind) → IsAmong k (all_keys memory bs)
among_all_keys memory [] a y k h s m = absurd h
among_all_keys memory (b ∷ bs) a y k (inl e) s m =
    among_left k (block_keys b (slice_get memory b)) (all_keys memory bs)
    (subst (λ t. IsAmong k (block_keys t (slice_get memory t))) e (subst (λ t. IsAmong k (block_keys a t)) (sym s) m))
among_all_keys memory (b ∷ bs) a y k (inr h) s m =
    among_right k (block_keys b (slice_get memory b)) (all_keys memory bs) (among_all_keys memory bs a y k h s m)

some_first : (ps : List Point) (p : Point) → IsAmong p ps → (q : Point) × (first_point ps ≡ Some q) × IsAmong q ps
some_first [] p h = absurd h
some_first (q ∷ ps) p h = (q, refl, inl refl)

first_among : (ps : List Point) (p : Point) → first_point ps ≡ Some p → IsAmong p ps
first_among [] p e = absurd (cc)
first_among (q ∷ ps) p e = inl (let f : q ≡ p = cc in sym f)

datum_points : (k : Kind) → k ≡ Datum → first_point (points_of k) ≡ None
datum_points k e = ap (λ t. first_point (points_of t)) e

module _ (small large : List Block) (P Q : ℕ → Type 0) (f : ℕ → ℕ) (h : Embeds small P large Q f) where
  abbrev key : ℕ → Key
  key a = key_of f a (slice_get small a)

  key_is : (a : ℕ) (x : Block) → StandsAt small a x → key a ≡ record { address = f a; point = first_point (points_of x.kind) }
  key_is a x s = ap (key_of f a) s

  -- two counted blocks with one key are of one sort
  key_sort : (x y : Block) → IsCounted x → IsCounted y → first_point (points_of x.kind) ≡ first_point (points_of y.kind) → AreOfOneSort x y
  key_sort x y (inl c) (inl d) e = inl (c.0, d.0)
  key_sort x y (inl c) (inr d) e =
      let q = some_first (points_of y.kind) d.0 d.1 in
      absurd (let u : None ≡ Some q.0 = sym (datum_points x.kind c.0) ∙ e ∙ q.1 in cc)
  key_sort x y (inr c) (inl d) e =
      let q = some_first (points_of x.kind) c.0 c.1 in
      absurd (let u : Some q.0 ≡ None = sym q.1 ∙ e ∙ datum_points y.kind d.0 in cc)
  key_sort x y (inr c) (inr d) e =
      let q = some_first (points_of x.kind) c.0 c.1 in
      inr (q.0, q.2, first_among (points_of y.kind) q.0 (sym e ∙ q.1))

  key_one : (a b : ℕ) (x y : Block) → P a → P b → StandsAt small a x → StandsAt small b y → IsCounted x → IsCounted y → key a ≡ key b → a ≡ b
  key_one a b x y p q s t c d e =
      let e' = sym (key_is a x s) ∙ e ∙ key_is b y t in
      h.apart a b x y p q s t (key_sort x y c d (ap (λ k. k.point) e')) (ap (λ k. k.address) e')

  key_in : (a : ℕ) (x y : Block) → StandsAt small a x → IsCounted x → StandsAt large (f a) y → IsLike x y → IsAmong (key a) (kind_keys (f a) y.kind)
  key_in a x y s (inl c) t l =
      let e : key a ≡ record { address = f a; point = None } = key_is a x s ∙ ap (λ o. let k : Key = record { address = f a; point = o } in k) (datum_points x.kind c.0) in
      subst (λ k. IsAmong (key a) (kind_keys (f a) k)) (sym (l.datum c.0).0) (inl e)
  key_in a x y s (inr c) t l =
      let q = some_first (points_of x.kind) c.0 c.1 in
      let e : key a ≡ record { address = f a; point = Some q.0 } = key_is a x s ∙ ap (λ o. let k : Key = record { address = f a; point = o } in k) q.1 in
      subst (λ k. IsAmong k (kind_keys (f a) y.kind)) (sym e) (among_kind_keys (f a) q.0 y.kind (l.points q.0 q.2))

  -- The counted blocks of some addresses weigh no more than the keys of all addresses that their images may have.
  pub weight_embeds : (v : ℕ → ℕ) (w : Key → ℕ) (xs ys : List ℕ) → IsDistinct xs → ((a : ℕ) → IsAmong a xs → P a × ((x : Block) × StandsAt small a x × IsCounted x × (v a ≤ w (key a)))) → ((b : ℕ) → Q b → IsAmong b ys) → weight v xs ≤ weight w (all_keys large ys)
  weight_embeds v w xs ys d each all =
      weight_keys key v w xs (all_keys large ys) d
      (λ a b m n e. let i = each a m in let j = each b n in key_one a b i.1.0 j.1.0 i.0 j.0 i.1.1 j.1.1 i.1.2 j.1.2 e)
      (λ a m.
      let i = each a m in
      let g = h.image a i.1.0 i.0 i.1.1 i.1.2 in
      among_all_keys large ys (f a) g.0 (key a) (all (f a) g.2) g.1 (key_in a i.1.0 g.0 i.1.1 i.1.2 g.1 g.3))
      (λ a m. (each a m).1.3)

-- ---- What a block is charged

abbrev pub first_charge : (Point → ℕ) → List Point → ℕ
first_charge charge [] = 0
first_charge charge (p ∷ ps) = charge p

-- a datum's words, or the charge of a closure or frame
abbrev pub kind_charge : (Point → ℕ) → Kind → ℕ → ℕ
kind_charge charge (Closure p) n = charge p
kind_charge charge (Frame ps) n = first_charge charge ps
kind_charge charge Datum n = n
kind_charge charge ClassRecord n = 0
kind_charge charge SpillRecord n = 0
kind_charge charge Inside n = 0

abbrev pub block_charge : (Point → ℕ) → Option Block → ℕ
block_charge charge None = 0
block_charge charge (Some x) = kind_charge charge x.kind x.words

abbrev pub point_charge : (Point → ℕ) → ℕ → Option Point → ℕ
point_charge charge n None = n
point_charge charge n (Some p) = charge p

abbrev pub key_charge : (Point → ℕ) → List Block → Key → ℕ
key_charge charge large k = point_charge charge (words_at large k.address) k.point

-- ---- Class records are paid for by the closures that name them

-- the block z is paid for by the block at c: it is that block, or a class record that it names, or has no words
pub data IsPaidBy (memory : List Block) (z c : ℕ) : Type 0 where
  itself : (x : Block) → z ≡ c → StandsAt memory c x → IsCounted x → IsPaidBy memory z c
  named : (x y : Block) (p : Point) → StandsAt memory c x → x.kind ≡ Closure p → IsAmong z x.fields → StandsAt memory z y → y.kind ≡ ClassRecord → IsPaidBy memory z c
  free : words_at memory z ≡ 0 → z ≡ c → IsPaidBy memory z c

module _ (memory : List Block) (charge : Point → ℕ) where
  abbrev Pays : ℕ → Block → Type 0
  Pays c x = (p : Point) (rs : List ℕ) → IsAmong p (points_of x.kind) → AreNamed memory x rs → x.words + weight (words_at memory) rs ≤ charge p

  words_is : (c : ℕ) (x : Block) → StandsAt memory c x → words_at memory c ≡ kind_words x.kind x.words
  words_is c x s = ap block_words s

  -- what a block pays for that names no class record
  alone : (c : ℕ) (x : Block) → StandsAt memory c x → (zs : List ℕ) → IsDistinct zs → ((z : ℕ) → IsAmong z zs → IsPaidBy memory z c) → ((p : Point) → x.kind ≡ Closure p → ⊥) → weight (words_at memory) zs ≤ words_at memory c
  alone c x s zs d h none = weight_one (words_at memory) c zs d (λ z m. by z (h z m))
    where
      by : (z : ℕ) → IsPaidBy memory z c → z ≡ c
      by z (itself y e t k) = e
      by z (named y r p t k i u q) = let f : Some y ≡ Some x = sym t ∙ s in let g : y ≡ x = cc in absurd (none p (ap (λ b. b.kind) (sym g) ∙ k))
      by z (free e f) = f

  -- what a closure pays for
  closure_pays : (c : ℕ) (x : Block) (p : Point) → StandsAt memory c x → x.kind ≡ Closure p → Pays c x → (zs : List ℕ) → IsDistinct zs → ((z : ℕ) → IsAmong z zs → IsPaidBy memory z c) → weight (words_at memory) zs ≤ charge p
  closure_pays c x p s k pays zs d h =
      let Named : ℕ → Type 0 = λ z. IsAmong z x.fields × ((y : Block) × StandsAt memory z y × (y.kind ≡ ClassRecord)) in
      let r = parted (λ z. z ≡ c) Named (words_at memory) zs d (λ z m. by z (h z m)) in
      let a = weight_one (words_at memory) c r.left r.left_distinct (λ z m. (r.left_all z m).0) in
      let b = pays p r.right (subst (λ t. IsAmong p (points_of t)) (sym k) (inl refl)) (record { distinct = r.right_distinct; named = λ z m. (r.right_all z m).0.0; stand = λ z m. (r.right_all z m).0.1 }) in
      let e : words_at memory c ≡ x.words = words_is c x s ∙ ap (λ t. kind_words t x.words) k in
      let q = r.sum in
      omega arith
    where
      by : (z : ℕ) → IsPaidBy memory z c → (z ≡ c) ⊎ (IsAmong z x.fields × ((y : Block) × StandsAt memory z y × (y.kind ≡ ClassRecord)))
      by z (itself y e t g) = inl e
      by z (named y r q t g i u f) = let o : Some y ≡ Some x = sym t ∙ s in let v : y ≡ x = cc in inr (subst (λ b. IsAmong z b.fields) v i, (r, u, f))
      by z (free e f) = inl f

  none_named : (x : Block) → AreNamed memory x []
  none_named x = record { distinct = tt; named = λ r m. absurd m; stand = λ r m. absurd m }

  -- a block that isn't counted pays for nothing
  nothing : (c : ℕ) (x : Block) → StandsAt memory c x → IsUncounted x → (zs : List ℕ) → ((z : ℕ) → IsAmong z zs → IsPaidBy memory z c) → weight (words_at memory) zs ≡ 0
  nothing c x s un zs h = weight_zero (words_at memory) zs (λ z m. by z (h z m))
    where
      by : (z : ℕ) → IsPaidBy memory z c → words_at memory z ≡ 0
      by z (itself y e t k) = let f : Some y ≡ Some x = sym t ∙ s in let g : y ≡ x = cc in absurd (un (subst IsCounted g k))
      by z (named y r p t k i u q) =
          let f : Some y ≡ Some x = sym t ∙ s in
          let g : y ≡ x = cc in
          let c : IsAmong p (points_of y.kind) = subst (λ t. IsAmong p (points_of t)) (sym k) (inl refl) in
          absurd (un (subst IsCounted g (inr (p, c, c))))
      by z (free e f) = e

  uncounted_by : (x : Block) (k : Kind) → x.kind ≡ k → (k ≡ Datum → ⊥) → ((q : Point) → IsAmong q (points_of k) → ⊥) → IsUncounted x
  uncounted_by x k e n m (inl h) = n (sym e ∙ h.0)
  uncounted_by x k e n m (inr h) = m h.0 (subst (λ t. IsAmong h.0 (points_of t)) e h.1)

  -- what is paid for by the block at c has no more words than it is charged
  kind_pays : (c : ℕ) (x : Block) (k : Kind) → x.kind ≡ k → StandsAt memory c x → Pays c x → (k ≡ Frame [] → ⊥) → (zs : List ℕ) → IsDistinct zs → ((z : ℕ) → IsAmong z zs → IsPaidBy memory z c) → weight (words_at memory) zs ≤ kind_charge charge k x.words
  kind_pays c x (Closure p) e s pays pointed zs d h = closure_pays c x p s e pays zs d h
  kind_pays c x (Frame []) e s pays pointed zs d h = absurd (pointed refl)
  kind_pays c x (Frame (p ∷ ps)) e s pays pointed zs d h =
      let a = alone c x s zs d h (λ q f. let g : Frame (p ∷ ps) ≡ Closure q = sym e ∙ f in cc) in
      let b = pays p [] (subst (λ t. IsAmong p (points_of t)) (sym e) (inl refl)) (none_named x) in
      let f : words_at memory c ≡ x.words = words_is c x s ∙ ap (λ t. kind_words t x.words) e in
      omega arith
  kind_pays c x Datum e s pays pointed zs d h =
      let a = alone c x s zs d h (λ q f. let g : Datum ≡ Closure q = sym e ∙ f in cc) in
      let f : words_at memory c ≡ x.words = words_is c x s ∙ ap (λ t. kind_words t x.words) e in
      omega arith
  kind_pays c x ClassRecord e s pays pointed zs d h = let z = nothing c x s (uncounted_by x ClassRecord e (λ f. cc) (λ q i. i)) zs h in omega arith
  kind_pays c x SpillRecord e s pays pointed zs d h = let z = nothing c x s (uncounted_by x SpillRecord e (λ f. cc) (λ q i. i)) zs h in omega arith
  kind_pays c x Inside e s pays pointed zs d h = let z = nothing c x s (uncounted_by x Inside e (λ f. cc) (λ q i. i)) zs h in omega arith

  pub block_pays : (c : ℕ) (x : Block) → StandsAt memory c x → Pays c x → (x.kind ≡ Frame [] → ⊥) → (zs : List ℕ) → IsDistinct zs → ((z : ℕ) → IsAmong z zs → IsPaidBy memory z c) → weight (words_at memory) zs ≤ block_charge charge (slice_get memory c)
  block_pays c x s pays pointed zs d h =
      let a = kind_pays c x x.kind refl s pays pointed zs d h in
      let e : block_charge charge (slice_get memory c) ≡ kind_charge charge x.kind x.words = ap (block_charge charge) s in
      omega arith

  -- All of these blocks, each paid for by some of the payers, have no more words than these are charged.
  pub records_paid : (xs os : List ℕ) → IsDistinct xs → ((c : ℕ) → IsAmong c os → (x : Block) × StandsAt memory c x × Pays c x × (x.kind ≡ Frame [] → ⊥)) → ((z : ℕ) → IsAmong z xs → (c : ℕ) × IsAmong c os × IsPaidBy memory z c) → weight (words_at memory) xs ≤ weight (λ c. block_charge charge (slice_get memory c)) os
  records_paid xs os d payer each =
      weight_groups (words_at memory) (λ c. block_charge charge (slice_get memory c)) (IsPaidBy memory) os xs d each (λ c m zs d' h. let p = payer c m in block_pays c p.0 p.1 p.2 p.3 zs d' h)

-- ---- The charges lie one to one in what pays for them

uncounted_charge : (charge : Point → ℕ) (x : Block) (k : Kind) → x.kind ≡ k → IsUncounted x → kind_charge charge k x.words ≡ 0
uncounted_charge charge x (Closure p) e un = absurd (let i : IsAmong p (points_of x.kind) = subst (λ t. IsAmong p (points_of t)) (sym e) (inl refl) in un (inr (p, i, i)))
uncounted_charge charge x (Frame []) e un = refl
uncounted_charge charge x (Frame (p ∷ ps)) e un = absurd (let i : IsAmong p (points_of x.kind) = subst (λ t. IsAmong p (points_of t)) (sym e) (inl refl) in un (inr (p, i, i)))
uncounted_charge charge x Datum e un = absurd (un (inl (e, e)))
uncounted_charge charge x ClassRecord e un = refl
uncounted_charge charge x SpillRecord e un = refl
uncounted_charge charge x Inside e un = refl

-- what stands at an address in the smaller memory is charged no more than its key in the larger
key_pays : (charge : Point → ℕ) (small large : List Block) (f : ℕ → ℕ) (a : ℕ) (x y : Block) (k : Kind) → x.kind ≡ k → StandsAt small a x → StandsAt large (f a) y → IsLike x y → IsCounted x → kind_charge charge k x.words ≤ point_charge charge (words_at large (f a)) (first_point (points_of k))
key_pays charge small large f a x y (Closure p) e s t l c = omega arith
key_pays charge small large f a x y (Frame []) e s t l c = absurd (⊎_elim (λ (h : (x.kind ≡ Datum) × (x.kind ≡ Datum)). let g : Frame [] ≡ Datum = sym e ∙ h.0 in cc) (λ (h : (q : Point) × IsAmong q (points_of x.kind) × IsAmong q (points_of x.kind)). subst (λ t. IsAmong h.0 (points_of t)) e h.1) c)
key_pays charge small large f a x y (Frame (p ∷ ps)) e s t l c = omega arith
key_pays charge small large f a x y Datum e s t l c =
    let d = l.datum e in
    let w : words_at large (f a) ≡ y.words = ap block_words t ∙ ap (λ t. kind_words t y.words) d.0 in
    let v = d.1 in
    omega arith
key_pays charge small large f a x y ClassRecord e s t l c = omega arith
key_pays charge small large f a x y SpillRecord e s t l c = omega arith
key_pays charge small large f a x y Inside e s t l c = omega arith

point_keys_charge : (charge : Point → ℕ) (large : List Block) (c : ℕ) (ps : List Point) → weight (key_charge charge large) (point_keys c ps) ≡ weight charge ps
point_keys_charge charge large c [] = refl
point_keys_charge charge large c (p ∷ ps) = let e = point_keys_charge charge large c ps in omega arith

module _ (small large : List Block) (From Into : ℕ → Type 0) (f : ℕ → ℕ) (h : Embeds small From large Into f) (charge : Point → ℕ) (k : ℕ) (share : ℕ → ℕ) (ys : List ℕ) (all : (c : ℕ) → Into c → IsAmong c ys) (data_paid : (c : ℕ) (y : Block) → IsAmong c ys → StandsAt large c y → y.kind ≡ Datum → y.words ≤ k * share c) (points_paid : (c : ℕ) (y : Block) → IsAmong c ys → StandsAt large c y → weight charge (points_of y.kind) ≤ k * share c) where
  kind_keys_paid : (c : ℕ) (y : Block) (d : Kind) → y.kind ≡ d → StandsAt large c y → IsAmong c ys → weight (key_charge charge large) (kind_keys c d) ≤ k * share c
  kind_keys_paid c y (Closure p) e s m = let a = points_paid c y m s in let q : weight charge (points_of y.kind) ≡ weight charge (p ∷ []) = ap (λ t. weight charge (points_of t)) e in omega arith
  kind_keys_paid c y (Frame ps) e s m =
      let a = points_paid c y m s in
      let q : weight charge (points_of y.kind) ≡ weight charge ps = ap (λ t. weight charge (points_of t)) e in
      let r = point_keys_charge charge large c ps in
      omega arith
  kind_keys_paid c y Datum e s m =
      let a = data_paid c y m s e in
      let w : words_at large c ≡ y.words = ap block_words s ∙ ap (λ t. kind_words t y.words) e in
      omega arith
  kind_keys_paid c y ClassRecord e s m = omega arith
  kind_keys_paid c y SpillRecord e s m = omega arith
  kind_keys_paid c y Inside e s m = omega arith

  block_keys_paid : (c : ℕ) (o : Option Block) → slice_get large c ≡ o → IsAmong c ys → weight (key_charge charge large) (block_keys c o) ≤ k * share c
  block_keys_paid c None e m = omega arith
  block_keys_paid c (Some y) e m = kind_keys_paid c y y.kind refl e m

  keys_paid : (cs : List ℕ) → ((c : ℕ) → IsAmong c cs → IsAmong c ys) → weight (key_charge charge large) (all_keys large cs) ≤ k * weight share cs
  keys_paid [] m = omega arith
  keys_paid (c ∷ cs) m =
      let a = block_keys_paid c (slice_get large c) refl (m c (inl refl)) in
      let b = keys_paid cs (λ d i. m d (inr i)) in
      let e = weight-append (key_charge charge large) (block_keys c (slice_get large c)) (all_keys large cs) in
      let g : k * (share c + weight share cs) ≡ k * share c + k * weight share cs = grind arith in
      omega arith

  -- what is charged is paid for
  pub charges_paid : (os : List ℕ) → IsDistinct os → ((a : ℕ) → IsAmong a os → (x : Block) × StandsAt small a x × (IsCounted x → From a)) → weight (λ a. block_charge charge (slice_get small a)) os ≤ k * weight share ys
  charges_paid os d each =
      let Charge : ℕ → ℕ = λ a. block_charge charge (slice_get small a) in
      let r = parted (λ a. (x : Block) × StandsAt small a x × IsCounted x × From a) (λ a. Charge a ≡ 0) Charge os d (λ a m.
      let i = each a m in
      ⊎_elim (λ (c : IsCounted i.0). inl (i.0, i.1, c, i.2 c)) (λ (c : IsUncounted i.0). inr (ap (block_charge charge) i.1 ∙ uncounted_charge charge i.0 i.0.kind refl c)) (counted_cases i.0)) in
      let a = weight_embeds small large From Into f h Charge (key_charge charge large) r.left ys r.left_distinct (λ a m.
      let i = (r.left_all a m).0 in
      let g = h.image a i.0 i.3 i.1 i.2 in
      let q = key_pays charge small large f a i.0 g.0 i.0.kind refl i.1 g.1 g.3 i.2 in
      let e : Charge a ≡ kind_charge charge i.0.kind i.0.words = ap (block_charge charge) i.1 in
      let e' : key_charge charge large (key_of f a (slice_get small a)) ≡ point_charge charge (words_at large (f a)) (first_point (points_of i.0.kind)) = ap (λ o. key_charge charge large (key_of f a o)) i.1 in
      (i.3, (i.0, i.1, i.2, omega arith))) all in
      let b = keys_paid ys (λ c m. m) in
      let z = weight_zero Charge r.right (λ a m. (r.right_all a m).0) in
      let s = r.sum in
      omega arith

-- ---- What lies one to one in another memory has at most k times its words

-- a class record is named by a closure at one of these addresses
abbrev pub NamedAmong : List Block → List ℕ → Type 0
NamedAmong memory os = (a : ℕ) (x : Block) → IsAmong a os → StandsAt memory a x → x.kind ≡ ClassRecord → (c : ℕ) × IsAmong c os × IsNamedBy memory a c

pub embedded_words : (small large : List Block) (From Into : ℕ → Type 0) (f : ℕ → ℕ) (charge : Point → ℕ) (k n : ℕ) (xs : List ℕ) → Embeds small From large Into f → IsCharged charge small From → Affords k charge large Into n → IsDistinct xs → ((a : ℕ) → IsAmong a xs → From a × ((x : Block) × StandsAt small a x × (x.kind ≢ SpillRecord))) → NamedAmong small xs → weight (words_at small) xs ≤ k * n
embedded_words small large From Into f charge k n xs h ch af d each by =
    let Standing : ℕ → Type 0 = λ c. Into c × ((y : Block) × StandsAt large c y) in
    let g : Embeds small From large Standing f = record { image = λ a x p s c. let i = h.image a x p s c in (i.0, i.1, (i.2, (i.0, i.1)), i.3); apart = h.apart } in
    let a = records_paid small charge xs xs d (λ c m. let i = each c m in (i.1.0, i.1.1, λ p rs j r. ch.charged c i.1.0 p rs i.0 i.1.1 j r, ch.pointed c i.1.0 i.0 i.1.1)) (λ z m. let i = each z m in payer z i.1.0 i.1.0.kind refl m i.0 i.1.1 i.1.2) in
    let b = charges_paid small large From Standing f g charge k af.share af.addresses (λ c i. af.all c i.1.0 i.0 i.1.1) af.datum af.charges xs d (λ c m. let i = each c m in (i.1.0, i.1.1, λ _. i.0)) in
    let s = af.sum in
    let t : k * weight af.share af.addresses ≤ k * n = mul_le k (weight af.share af.addresses) n s in
    omega arith
  where
    mul_le : (k a b : ℕ) → a ≤ b → k * a ≤ k * b
    mul_le k a b l = grind arith

    counted : (x : Block) (q : Kind) → x.kind ≡ q → (p : Point) → IsAmong p (points_of q) → IsCounted x
    counted x q e p i = let j : IsAmong p (points_of x.kind) = subst (λ t. IsAmong p (points_of t)) (sym e) i in inr (p, j, j)

    payer : (z : ℕ) (x : Block) (q : Kind) → x.kind ≡ q → IsAmong z xs → From z → StandsAt small z x → (x.kind ≢ SpillRecord) → (c : ℕ) × IsAmong c xs × IsPaidBy small z c
    payer z x (Closure p) e m i s n = (z, m, itself x refl s (counted x (Closure p) e p (inl refl)))
    payer z x (Frame []) e m i s n = absurd (ch.pointed z x i s e)
    payer z x (Frame (p ∷ ps)) e m i s n = (z, m, itself x refl s (counted x (Frame (p ∷ ps)) e p (inl refl)))
    payer z x Datum e m i s n = (z, m, itself x refl s (inl (e, e)))
    payer z x ClassRecord e m i s n = let r = by z x m s e in (r.0, r.1, named r.2.block x r.2.point r.2.stands r.2.closure r.2.names s e)
    payer z x SpillRecord e m i s n = absurd (n e)
    payer z x Inside e m i s n = (z, m, free (ap block_words s ∙ ap (λ t. kind_words t x.words) e) refl)

-- so it is of what can be reached, where no spill record is, and each class record is named by a closure that is
pub reached_words : (small large : List Block) (rs rl : List ℕ) (f : ℕ → ℕ) (charge : Point → ℕ) (k m n : ℕ) → Embeds small (Reach small rs) large (Reach large rl) f → HasTidyReach small rs → IsCharged charge small (Reach small rs) → Affords k charge large (Reach large rl) n → HasWords small rs m → m ≤ k * n
reached_words small large rs rl f charge k m n h tidy ch af hw =
    let a = embedded_words small large (Reach small rs) (Reach large rl) f charge k n hw.addresses h ch af hw.distinct (λ a i. let r = hw.reached a i in (r.0, (r.1.0, r.1.1, tidy.no_spill a r.1.0 r.0 r.1.1))) (λ a x i s e.
    let c = tidy.by_closure a x (hw.reached a i).0 s e in (c.0, hw.all c.0 c.2.block c.1 c.2.stands, c.2)) in
    let s = hw.sum in
    omega arith

-- and of all that was made but spill records, where each class record is named by a closure
pub made_words : (small large : List Block) (f : ℕ → ℕ) (charge : Point → ℕ) (k m n : ℕ) → Embeds small (λ _. Unit {0}) large (λ _. Unit {0}) f → AllNamed small → IsCharged charge small (λ _. Unit {0}) → Affords k charge large (λ _. Unit {0}) n → HasMade small m → m ≤ k * n
made_words small large f charge k m n h all ch af hm =
    let a = embedded_words small large (λ _. Unit {0}) (λ _. Unit {0}) f charge k n hm.addresses h ch af hm.distinct (λ a i. (tt, hm.stand a i)) (λ a x i s e.
    let c = all a x s e in (c.0, hm.all c.0 c.2.block c.2.stands (λ g. let t : SpillRecord ≡ Closure c.2.point = sym g ∙ c.2.closure in cc), c.2)) in
    let s = hm.sum in
    omega arith

-- the words of what is reached are one number
pub words_one : (memory : List Block) (roots : List ℕ) (m n : ℕ) → HasWords memory roots m → HasWords memory roots n → m ≡ n
words_one memory roots m n p q =
    let a = weight_contained (words_at memory) p.addresses q.addresses p.distinct (λ a i. let r = p.reached a i in q.all a r.1.0 r.0 r.1.1) in
    let b = weight_contained (words_at memory) q.addresses p.addresses q.distinct (λ a i. let r = q.reached a i in p.all a r.1.0 r.0 r.1.1) in
    let s = p.sum in
    let t = q.sum in
    omega arith

-- The words of what is reached afford the charges, if each block has other blocks' words lent to it beside its own, each word once.
pub affords_by_loans : (k : ℕ) (charge : Point → ℕ) (memory : List Block) (roots : List ℕ) (n : ℕ) (h : HasWords memory roots n) (lent : ℕ → List ℕ) → ((a : ℕ) → IsAmong a h.addresses → IsDistinct (lent a)) → ((a b c : ℕ) → IsAmong a h.addresses → IsAmong b h.addresses → IsAmong c (lent a) → IsAmong c (lent b) → a ≡ b) → ((a c : ℕ) → IsAmong a h.addresses → IsAmong c (lent a) → IsAmong c h.addresses) → ((a : ℕ) (x : Block) → IsAmong a h.addresses → StandsAt memory a x → x.kind ≡ Datum → x.words ≤ k * weight (words_at memory) (lent a)) → ((a : ℕ) (x : Block) → IsAmong a h.addresses → StandsAt memory a x → weight charge (points_of x.kind) ≤ k * weight (words_at memory) (lent a)) → Affords k charge memory (Reach memory roots) n
affords_by_loans k charge memory roots n h lent distinct apart inside data_paid points_paid = record {
  share = λ a. weight (words_at memory) (lent a);
  addresses = h.addresses;
  all = h.all;
  datum = data_paid;
  charges = points_paid;
  sum =
      let s = weight_shares (words_at memory) lent h.addresses h.addresses h.distinct distinct (λ a b c i j p q. apart a b c i j p q) inside in
      let t = h.sum in
      omega arith;
}
