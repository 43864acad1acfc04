-- The end follows.
use Rattle.std.proofs.Common.{◌≡◌, ℕ, suc, ◌+◌, ◌*◌, ◌≤◌, List, length, length-append, Some, true, false, IsTrue, ◌⊎◌, inl, inr, refl, sym, ap, ◌∙◌, ◌++◌, subst, arith, ⊎_elim, zero, None, ap₂, append-nil, lt_irrefl}
use Rattle.smlc_base.specs.declared.point.Point.{Point}
use Rattle.simulation.specs.Blocks.{IsPrefix}
use Rattle.simulation.specs.Runs.{Run, Going, Uncaught, Arena, visible, listed, seen}
use Rattle.simulation.specs.Keeps.{IsNthPass, IsKept}
use Rattle.simulation.proofs.Blocks.{prefix_trans}
use Rattle.simulation.proofs.Seen.{visible_of}
use Rattle.simulation.proofs.Lists.{option_cases}
use Rattle.simulation.proofs.Nth.{nth_entry, nth_pass}
use Rattle.simulation.proofs.Chains.{reach_is_paid, making_is_paid}
use Rattle.end_to_end.specs.Owes.{TellsOnly, IsPlaced, HasRoom, IsEmitted, Pays}
use Rattle.end_to_end.specs.Good.{Means, HasSpace, HasArena, IsGoodRun}

prefix_length : {X : Type 0} (xs ys : List X) → IsPrefix xs ys → length xs ≤ length ys
prefix_length xs ys p = let l = length-append xs p.0 in let k = ap length p.1 in omega arith

times_more : (k a b : ℕ) → a ≤ b → k * suc a ≤ k * suc b
times_more k a b l = grind arith

times_le : (k a b : ℕ) → a ≤ b → k * a ≤ k * b
times_le k a b l = grind arith

module _ (charge : Point → ℕ) (factor spill arena : ℕ) (words made used next : ℕ → ℕ) (err : ℕ → List ℕ) (S E M : Run) (first : IsKept false S E) (whole : IsKept true S M) (placed : IsPlaced charge spill E) (emitted : IsEmitted charge arena used next err E M) (pays : Pays charge factor words made S) where
  -- the placed program ends with an uncaught exception only where the source does
  told_only_of : {bytes : List ℕ} → TellsOnly E bytes → TellsOnly S bytes
  told_only_of (inl e) = inl e
  told_only_of (inr (n, name, e, p)) = ⊎_elim
      (λ (h : (m : ℕ) × (S.end m ≡ E.end n) × (S.out m ≡ E.out n)). inr (h.0, name, h.1 ∙ e, p))
      (λ h. absurd (never h.0))
      (first.follows.ends_only n (λ g. let f : Uncaught name ≡ Going = sym e ∙ g in cc))
    where
      never : IsTrue false → ⊥
      never t = cc

  means : Means err S M
  means = let f = whole.follows in record {
    told = λ n. ⊎_elim (λ (h : (m : ℕ) × (M.out m ≡ S.out n)). inl h) (λ h. inr h.1) (f.told n);
    ends = λ n g. ⊎_elim (λ (h : (m : ℕ) × (M.end m ≡ S.end n) × (M.out m ≡ S.out n)). inl h) (λ h. inr h.1) (f.ends n g);
    told_only = f.told_only;
    ends_only = λ m g a. ⊎_elim (λ (h : (n : ℕ) × (S.end n ≡ M.end m) × (S.out n ≡ M.out m)). h) (λ h. absurd (a h.1)) (f.ends_only m g);
    never_stuck = whole.sound.never_stuck;
    tells_only = λ m. told_only_of (emitted.tells_only m);
    tells = emitted.tells;
  }

  space : HasSpace factor words S M
  space = let f = whole.follows in record {
    space = λ p i n w l h hw.
        let e = nth_entry true S M f p l i n h in
        (e.0, e.1, reach_is_paid true S M f whole.tidy p i e.0 n factor w (words e.0) charge l e.1 h hw (emitted.charged n p (visible_of M.labels (M.pass n) p h.passes l)) (pays.reach e.0));
    entered = λ p i m l h. ⊎_elim (λ (g : (n : ℕ) × IsNthPass M p i n). inl g) (λ g. inr g.1) (nth_pass true S M f p l i m h);
  }

  -- a bound for what E has room for
  abbrev Bound : ℕ → ℕ → Type 0
  Bound k n = (m : ℕ) × IsPrefix (seen M.labels S m) (seen M.labels M k) × (n ≤ factor * made m + spill * suc (length (seen M.labels M k)))

  bounded : (k n : ℕ) → HasRoom E M k n → Bound k n
  bounded k n r =
      let e = making_is_paid false S E first.follows r.at (placed.named r.at) in
      let b = e.2 factor r.kept (made e.0) charge r.has_kept (placed.charged r.at) (pays.all e.0) in
      let p : IsPrefix (seen M.labels S e.0) (seen M.labels E r.at) = subst (λ ls. IsPrefix (seen ls S e.0) (seen ls E r.at)) (sym emitted.labels) e.1 in
      let s : r.spilled ≤ spill * suc (length (seen M.labels E r.at)) = subst (λ ls. r.spilled ≤ spill * suc (length (seen ls E r.at))) (sym emitted.labels) (placed.spilled r.at r.spilled r.has_spilled) in
      let t = times_more spill (length (seen M.labels E r.at)) (length (seen M.labels M k)) (prefix_length (seen M.labels E r.at) (seen M.labels M k) r.before) in
      let w = r.within in
      (e.0, prefix_trans (seen M.labels S e.0) (seen M.labels E r.at) (seen M.labels M k) p r.before, omega arith)

  in_arena : HasArena factor spill arena made used next S M
  in_arena = record {
    over = emitted.over;
    bound = λ k. bounded k (used k) (emitted.room k);
    full = λ k a. bounded k (used k + next k) (emitted.full k a);
  }

  pub good_run : IsGoodRun factor spill arena words made used next err S M
  good_run = record { means = means; space = space; full = in_arena }

  -- ---- An arena that is large enough

  seen_source : (k : ℕ) → (m : ℕ) × (seen M.labels S m ≡ seen M.labels M k)
  seen_source zero = (0, refl)
  seen_source (suc k) = ⊎_elim
      (λ (e : visible M.labels (M.pass k) ≡ None).
      let i = seen_source k in (i.0, i.1 ∙ sym (ap (λ o. seen M.labels M k ++ listed o) e ∙ append-nil (seen M.labels M k))))
      (λ (e : (p : Point) × (visible M.labels (M.pass k) ≡ Some p)).
      let i = whole.follows.entered k e.0 e.1 in
      (suc i.0, ap₂ (λ xs o. xs ++ listed o) i.2 (i.1 ∙ sym e.1)))
      (option_cases (visible M.labels (M.pass k)))

  -- the source makes so much at most, and passes so many points of the table
  pub enough : (top passes k : ℕ) → ((m : ℕ) → made m ≤ top) → ((m : ℕ) → length (seen M.labels S m) ≤ passes) → factor * top + spill * suc passes ≤ arena → M.end k ≡ Arena → ⊥
  enough top passes k most few room end =
      let h = in_arena.full k end in
      let o = emitted.over k end in
      let i = seen_source k in
      let l : length (seen M.labels M k) ≤ passes = subst (λ xs. length xs ≤ passes) i.1 (few i.0) in
      let s = times_more spill (length (seen M.labels M k)) passes l in
      let t = times_le factor (made h.0) top (most h.0) in
      let b = h.2 in
      let bad : suc arena ≤ arena = omega arith in
      lt_irrefl arena bad
