-- One probe after another is told an entry.
use Rattle.std.proofs.Common.{◌≡◌, ℕ, zero, suc, ◌+◌, ◌<◌, ◌≤◌, Bool, true, false, List, [], ◌∷◌, ◌++◌, length, take, drop, map, set, Option, Some, None, if◌then◌else◌, refl, sym, ap, ◌∙◌, subst, arith, append-nil}
use Rattle.std.specs.Prelude.{get_or}
use Rattle.std.proofs.lemmas.List.{length-map, take_all, drop_all}
use Rattle.heap_probes.specs.declared.probe.Entry.{Entry}
use Rattle.heap_probes.specs.declared.probe.Next.TheVariants.{More, Done}
use Rattle.heap_probes.specs.Probe.{Shown, told, goes_on, answer_of, folded, put_first, all_folded, told_each}

more_is : (b : Bool) → (if b then More else Done) ≡ More → b ≡ true
more_is true e = refl
more_is false e = absurd (cc)

done_is : (b : Bool) → (if b then More else Done) ≡ Done → b ≡ false
done_is false e = refl
done_is true e = absurd (cc)

one_stays : (e : Entry) (p : Shown) → answer_of e p ≡ More → folded (e ∷ []) p ≡ Some (told e p)
one_stays e p a = ap (λ (b : Bool). if b then Some (told e p) else None) (more_is (goes_on e p) a)

one_goes : (e : Entry) (p : Shown) → answer_of e p ≡ Done → folded (e ∷ []) p ≡ None
one_goes e p a = ap (λ (b : Bool). if b then Some (told e p) else None) (done_is (goes_on e p) a)

abbrev rest : Entry → List Shown → List Shown
rest e ps = all_folded (e ∷ []) ps

module _ {X : Type 0} (shown : X → Shown) (e : Entry) where
  pub told_more : (xs : List X) (at : ℕ) (x y : X) → at < length xs → x ≡ get_or xs at x → shown y ≡ told e (shown x) → answer_of e (shown x) ≡ More → told_each e (map shown xs) at ≡ told_each e (map shown (set xs at y)) (at + 1)
  told_more [] at x y l i n a = absurd (omega arith)
  told_more (z ∷ zs) zero x y l i n a =
      ap (λ (o : Option Shown). put_first o (rest e (map shown zs))) (ap (λ w. folded (e ∷ []) (shown w)) (sym i) ∙ one_stays e (shown x) a)
      ∙ ap (λ p. p ∷ rest e (map shown zs)) (sym n)
  told_more (z ∷ zs) (suc at) x y l i n a =
      let step : at + 1 ≡ suc at = omega arith in
      let next : suc at + 1 ≡ suc (suc at) = omega arith in
      let inner = told_more zs at x y (omega arith) i n a in
      rw next (ap (λ ps. shown z ∷ ps) (subst (λ k. told_each e (map shown zs) at ≡ told_each e (map shown (set zs at y)) k) step inner))

  pub told_done : (xs : List X) (at : ℕ) (x y : X) → at < length xs → x ≡ get_or xs at x → answer_of e (shown x) ≡ Done → told_each e (map shown xs) at ≡ told_each e (map shown (take at (set xs at y) ++ drop (at + 1) (set xs at y))) at
  told_done [] at x y l i a = absurd (omega arith)
  told_done (z ∷ zs) zero x y l i a = ap (λ (o : Option Shown). put_first o (rest e (map shown zs))) (ap (λ w. folded (e ∷ []) (shown w)) (sym i) ∙ one_goes e (shown x) a)
  told_done (z ∷ zs) (suc at) x y l i a =
      let step : at + 1 ≡ suc at = omega arith in
      let next : suc at + 1 ≡ suc (suc at) = omega arith in
      let inner = told_done zs at x y (omega arith) i a in
      rw next (ap (λ ps. shown z ∷ ps) (subst (λ k. told_each e (map shown zs) at ≡ told_each e (map shown (take at (set zs at y) ++ drop k (set zs at y))) at) step inner))

  pub told_end : (xs : List X) (at : ℕ) (ps : List Shown) → length xs ≤ at → told_each e (map shown xs) at ≡ ps → map shown xs ≡ ps
  told_end xs at ps l h =
      let m : length (map shown xs) ≤ at = rw length-map l in
      sym (ap (λ qs. take at (map shown xs) ++ rest e qs) (drop_all at (map shown xs) m) ∙ append-nil (take at (map shown xs)) ∙ take_all at (map shown xs) m) ∙ h
