-- A run keeps itself, and passes compose.
use Rattle.std.proofs.Common.{◌≡◌, ◌≢◌, ℕ, Some, Bool, true, false, IsTrue, ◌⊎◌, inl, inr, refl, sym, ap, ◌∙◌, subst, subst₂}
use Rattle.smlc_base.specs.declared.point.Point.{Point}
use Rattle.simulation.specs.Blocks.{IsPrefix, Reach}
use Rattle.simulation.specs.Runs.{Run, Going, Arena, visible, seen}
use Rattle.smlc_base.specs.Points.{is_label}
use Rattle.simulation.specs.Keeps.{ReachesNoMore, MakesNoMore, EndsFull, Follows, IsSound, IsTidy, IsKept, Keeps}
use Rattle.simulation.proofs.Blocks.{prefix_refl, prefix_trans, embeds_id, embeds_trans}
use Rattle.simulation.proofs.Seen.{visible_some, visible_label, visible_of, only, only-seen, only_prefix}

pub reaches_trans : (a : Run) (i : ℕ) (b : Run) (j : ℕ) (c : Run) (k : ℕ) → ReachesNoMore a i b j → ReachesNoMore b j c k → ReachesNoMore a i c k
reaches_trans a i b j c k p q =
    (λ x. p.0 (q.0 x), embeds_trans _ _ _ _ _ _ q.0 p.0 q.1 p.1)

pub makes_trans : (a : Run) (i : ℕ) (b : Run) (j : ℕ) (c : Run) (k : ℕ) → MakesNoMore a i b j → MakesNoMore b j c k → MakesNoMore a i c k
makes_trans a i b j c k p q =
    (λ x. p.0 (q.0 x), embeds_trans _ _ _ _ _ _ q.0 p.0 q.1 p.1)

pub follows_refl : (full : Bool) (a : Run) → Follows full a a
follows_refl full a = record {
  fewer = λ p h. h;
  told = λ m. inl (m, refl);
  told_only = λ n. (n, prefix_refl (a.out n));
  ends = λ m h. inl (m, refl, refl);
  ends_only = λ n h. inl (n, refl, refl);
  entered = λ n p h. (n, h, refl, (λ x. x, embeds_id (a.memory n) (Reach (a.memory n) (a.roots n))));
  passed = λ m p h. inl (m, h, refl);
  made = λ n. (n, prefix_refl (seen a.labels a n), (λ x. x, embeds_id (a.memory n) (λ _. Unit {0})));
}

-- what is told is told on
module _ (full : Bool) (a b c : Run) (p : Follows false a b) (q : Follows full b c) where
  told_on : (m : ℕ) → ((n : ℕ) × (b.out n ≡ a.out m)) ⊎ EndsFull false b (a.out m) → ((n : ℕ) × (c.out n ≡ a.out m)) ⊎ EndsFull full c (a.out m)
  told_on m (inr h) = absurd (let e = h.0 in cc)
  told_on m (inl h) = go (q.told h.0)
    where
      go : ((n : ℕ) × (c.out n ≡ b.out h.0)) ⊎ EndsFull full c (b.out h.0) → ((n : ℕ) × (c.out n ≡ a.out m)) ⊎ EndsFull full c (a.out m)
      go (inl k) = inl (k.0, k.1 ∙ h.1)
      go (inr k) = inr (subst (EndsFull full c) h.1 k)

  ends_on : (m : ℕ) → a.end m ≢ Going → ((n : ℕ) × (b.end n ≡ a.end m) × (b.out n ≡ a.out m)) ⊎ EndsFull false b (a.out m) → ((n : ℕ) × (c.end n ≡ a.end m) × (c.out n ≡ a.out m)) ⊎ EndsFull full c (a.out m)
  ends_on m e (inr h) = absurd (let e = h.0 in cc)
  ends_on m e (inl h) = go (q.ends h.0 (λ g. e (sym h.1 ∙ g)))
    where
      go : ((n : ℕ) × (c.end n ≡ b.end h.0) × (c.out n ≡ b.out h.0)) ⊎ EndsFull full c (b.out h.0) → ((n : ℕ) × (c.end n ≡ a.end m) × (c.out n ≡ a.out m)) ⊎ EndsFull full c (a.out m)
      go (inl k) = inl (k.0, k.1 ∙ h.1, k.2 ∙ h.2)
      go (inr k) = inr (subst (EndsFull full c) h.2 k)

  only_on : (n : ℕ) → c.end n ≢ Going → ((m : ℕ) × (b.end m ≡ c.end n) × (b.out m ≡ c.out n)) ⊎ (IsTrue full × (c.end n ≡ Arena)) → ((m : ℕ) × (a.end m ≡ c.end n) × (a.out m ≡ c.out n)) ⊎ (IsTrue full × (c.end n ≡ Arena))
  only_on n e (inr h) = inr h
  only_on n e (inl h) = go (p.ends_only h.0 (λ g. e (sym h.1 ∙ g)))
    where
      go : ((m : ℕ) × (a.end m ≡ b.end h.0) × (a.out m ≡ b.out h.0)) ⊎ (IsTrue false × (b.end h.0 ≡ Arena)) → ((m : ℕ) × (a.end m ≡ c.end n) × (a.out m ≡ c.out n)) ⊎ (IsTrue full × (c.end n ≡ Arena))
      go (inl k) = inl (k.0, k.1 ∙ h.1, k.2 ∙ h.2)
      go (inr k) = absurd (let f = k.0 in cc)

  told_only_on : (n : ℕ) → (m : ℕ) × IsPrefix (c.out n) (a.out m)
  told_only_on n =
      let h = q.told_only n in
      let k = p.told_only h.0 in
      (k.0, prefix_trans (c.out n) (b.out h.0) (a.out k.0) h.1 k.1)

  entered_on : (n : ℕ) (t : Point) → visible c.labels (c.pass n) ≡ Some t → (m : ℕ) × (visible c.labels (a.pass m) ≡ Some t) × (seen c.labels a m ≡ seen c.labels c n) × ReachesNoMore a m c n
  entered_on n t h =
      let i = q.entered n t h in
      let own = visible_label c.labels (c.pass n) t h in
      let in_b = visible_of b.labels (b.pass i.0) t (visible_some c.labels (b.pass i.0) t i.1) (q.fewer t own) in
      let j = p.entered i.0 t in_b in
      let in_c = visible_of c.labels (a.pass j.0) t (visible_some b.labels (a.pass j.0) t j.1) own in
      let same = sym (only-seen c.labels b.labels q.fewer a j.0) ∙ ap (only c.labels) j.2 ∙ only-seen c.labels b.labels q.fewer b i.0 ∙ i.2 in
      (j.0, in_c, same, reaches_trans a j.0 b i.0 c n j.3 i.3)

  passed_on : (m : ℕ) (t : Point) → visible c.labels (a.pass m) ≡ Some t → ((n : ℕ) × (visible c.labels (c.pass n) ≡ Some t) × (seen c.labels c n ≡ seen c.labels a m)) ⊎ (IsTrue full × ((n : ℕ) × (c.end n ≡ Arena)))
  passed_on m t h = first (p.passed m t in_b)
    where
      own : is_label c.labels t ≡ true
      own = visible_label c.labels (a.pass m) t h

      in_b : visible b.labels (a.pass m) ≡ Some t
      in_b = visible_of b.labels (a.pass m) t (visible_some c.labels (a.pass m) t h) (q.fewer t own)

      second : (i : ℕ) → seen b.labels b i ≡ seen b.labels a m → ((n : ℕ) × (visible c.labels (c.pass n) ≡ Some t) × (seen c.labels c n ≡ seen c.labels b i)) ⊎ (IsTrue full × ((n : ℕ) × (c.end n ≡ Arena))) → ((n : ℕ) × (visible c.labels (c.pass n) ≡ Some t) × (seen c.labels c n ≡ seen c.labels a m)) ⊎ (IsTrue full × ((n : ℕ) × (c.end n ≡ Arena)))
      second i s (inr k) = inr k
      second i s (inl k) = inl (k.0, k.1, k.2 ∙ sym (only-seen c.labels b.labels q.fewer b i) ∙ ap (only c.labels) s ∙ only-seen c.labels b.labels q.fewer a m)

      first : ((n : ℕ) × (visible b.labels (b.pass n) ≡ Some t) × (seen b.labels b n ≡ seen b.labels a m)) ⊎ (IsTrue false × ((n : ℕ) × (b.end n ≡ Arena))) → ((n : ℕ) × (visible c.labels (c.pass n) ≡ Some t) × (seen c.labels c n ≡ seen c.labels a m)) ⊎ (IsTrue full × ((n : ℕ) × (c.end n ≡ Arena)))
      first (inr k) = absurd (let f = k.0 in cc)
      first (inl i) = second i.0 i.2 (q.passed i.0 t (visible_of c.labels (b.pass i.0) t (visible_some b.labels (b.pass i.0) t i.1) own))

  made_on : (n : ℕ) → (m : ℕ) × IsPrefix (seen c.labels a m) (seen c.labels c n) × MakesNoMore a m c n
  made_on n =
      let i = q.made n in
      let j = p.made i.0 in
      let less = only_prefix c.labels (seen b.labels a j.0) (seen b.labels b i.0) j.1 in
      let less' = subst₂ IsPrefix (only-seen c.labels b.labels q.fewer a j.0) (only-seen c.labels b.labels q.fewer b i.0) less in
      (j.0, prefix_trans (seen c.labels a j.0) (seen c.labels b i.0) (seen c.labels c n) less' i.1, makes_trans a j.0 b i.0 c n j.2 i.2)

  pub follows_trans : Follows full a c
  follows_trans = record {
    fewer = λ t h. p.fewer t (q.fewer t h);
    told = λ m. told_on m (p.told m);
    told_only = told_only_on;
    ends = λ m e. ends_on m e (p.ends m e);
    ends_only = λ n e. only_on n e (q.ends_only n e);
    entered = entered_on;
    passed = passed_on;
    made = made_on;
  }

-- a program whose records are tidy keeps itself
pub keeps_refl : (a : Run) → IsTidy false a → Keeps a a
keeps_refl a t s = record { sound = s; tidy = t; follows = follows_refl false a }

-- passes compose, and the last of them may end for want of arena
pub keeps_trans : (full : Bool) (a b c : Run) → Keeps a b → (IsSound b → IsKept full b c) → IsSound a → IsKept full a c
keeps_trans full a b c p q s =
    let k = p s in
    let l = q k.sound in
    record { sound = l.sound; tidy = l.tidy; follows = follows_trans full a b c k.follows l.follows }
