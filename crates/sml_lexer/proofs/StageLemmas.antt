-- A constant has one reading.
use Rattle.std.proofs.Common.{◌≡◌, ℕ, List, [], ◌∷◌, ◌++◌, length, take, drop, refl, sym, ap, ◌∙◌, arith}
use Rattle.std.proofs.lemmas.List.{append_assoc, append-nil, append_cancel_left, take_at, drop_at}
use Rattle.std.proofs.lemmas.Bool.{cond-false}
use Rattle.sml_lexer.specs.declared.quoted.Item.{Item}
use Rattle.sml_lexer.specs.declared.quoted.Item.TheVariants.{Char, Gap, Control, Close, Open, Unknown}
use Rattle.sml_lexer.specs.declared.quoted.Ending.{Ending}
use Rattle.sml_lexer.specs.declared.quoted.Ending.TheVariants as ending
use Rattle.sml_lexer.specs.Quoted.{Part, character, stray, IsPart, AreParts, IsOpen, IsUnknown, has_wide, character_count}
use Rattle.sml_lexer.specs.Quoted as quoted
use Rattle.sml_lexer.specs.QuotedScan.{item_at}
use Rattle.sml_lexer.specs.QuotedRead.{Ends}
use Rattle.sml_lexer.proofs.ItemLemmas.{parts_of, size_of, part_is, not_empty}
use Rattle.sml_lexer.proofs.ItemsFound.{open_is, unknown_is}

-- one part stands at a place
pub part_unique : (s t : List ℕ) (ps qs : List Part) → IsPart s ps → IsPart t qs → (x y : List ℕ) → s ++ x ≡ t ++ y → (s ≡ t) × (ps ≡ qs) × (x ≡ y)
part_unique s t ps qs p q x y e =
    let a = part_is s ps p x in
    let b = part_is t qs q y in
    let i = ap item_at e in
    let size : length s ≡ length t = sym a.size ∙ ap size_of i ∙ b.size in
    let parts : ps ≡ qs = sym a.parts ∙ ap parts_of i ∙ b.parts in
    let same : s ≡ t = sym (take_at s x (length s) refl) ∙ ap (take (length s)) e ∙ take_at t y (length s) (sym size) in
    let rest : x ≡ y = sym (drop_at s x (length s) refl) ∙ ap (drop (length s)) e ∙ drop_at t y (length s) (sym size) in
    (same, parts, rest)

-- of two readings of the same bytes one is the front of the other
pub data Stage (s : List ℕ) (ps : List Part) (t : List ℕ) (qs : List Part) : Type 0 where
  short : (r : List ℕ) (rs : List Part) → AreParts r rs → t ≡ s ++ r → qs ≡ ps ++ rs → Stage s ps t qs
  long : (r : List ℕ) (rs : List Part) → AreParts r rs → s ≡ t ++ r → ps ≡ qs ++ rs → Stage s ps t qs

pub stage : (s : List ℕ) (ps : List Part) → AreParts s ps → (t : List ℕ) (qs : List Part) → AreParts t qs → (x y : List ℕ) → s ++ x ≡ t ++ y → Stage s ps t qs
stage s ps quoted.AreParts.nothing t qs b x y e = short t qs b refl refl
stage s ps (quoted.AreParts.part u v us vs p a) t qs quoted.AreParts.nothing x y e = long s ps (quoted.AreParts.part u v us vs p a) refl refl
stage s ps (quoted.AreParts.part u v us vs p a) t qs (quoted.AreParts.part w z ws zs q b) x y e =
    let (same, parts, rest) = part_unique u w us ws p q (v ++ x) (z ++ y) (sym (append_assoc u v x) ∙ e ∙ append_assoc w z y) in
    step (stage v vs a z zs b x y rest) same parts
  where
    step : Stage v vs z zs → u ≡ w → us ≡ ws → Stage (u ++ v) (us ++ vs) (w ++ z) (ws ++ zs)
    step (short r rs c f g) same parts =
        short r rs c (ap (λ k. k ++ z) (sym same) ∙ ap (λ k. u ++ k) f ∙ sym (append_assoc u v r)) (ap (λ k. k ++ zs) (sym parts) ∙ ap (λ k. us ++ k) g ∙ sym (append_assoc us vs rs))
    step (long r rs c f g) same parts =
        long r rs c (ap (λ k. k ++ v) same ∙ ap (λ k. w ++ k) f ∙ sym (append_assoc w z r)) (ap (λ k. k ++ vs) parts ∙ ap (λ k. ws ++ k) g ∙ sym (append_assoc ws zs rs))

-- the item at an end
end_item : Ending → Item
end_item ending.Closed = Close
end_item ending.Open = Open
end_item ending.Unknown = Unknown

close_item : (t : List ℕ) → item_at (34 ∷ t) ≡ Close
unfolding item_at
close_item t = cond-false _ _ _ (not_empty 34 t)

ends_item : (e : Ending) (s : List ℕ) → Ends e s → item_at s ≡ end_item e
unfolding end_item
ends_item ending.Closed s h = ap item_at h.1 ∙ close_item h.0
ends_item ending.Open s h = open_is s h
ends_item ending.Unknown s h = unknown_is s h

end_size : (e : Ending) → size_of (end_item e) ≡ 0
unfolding end_item
end_size ending.Closed = refl
end_size ending.Open = refl
end_size ending.Unknown = refl

no_part : (r : List ℕ) (rs : List Part) → IsPart r rs → (x s : List ℕ) → r ++ x ≡ s → size_of (item_at s) ≡ 0 → ⊥
no_part r rs p x s e z = let a = part_is r rs p x in let k = ap (λ y. size_of (item_at y)) e ∙ z in let b = a.size in let c = a.some in omega arith

ending_of : Item → Ending
ending_of (Char code len) = ending.Closed
ending_of (Gap len) = ending.Closed
ending_of Control = ending.Closed
ending_of Close = ending.Closed
ending_of Open = ending.Open
ending_of Unknown = ending.Unknown

ending_back : (e : Ending) → ending_of (end_item e) ≡ e
unfolding ending_of end_item
ending_back ending.Closed = refl
ending_back ending.Open = refl
ending_back ending.Unknown = refl

by_item : (d e : Ending) → end_item d ≡ end_item e → d ≡ e
by_item d e i = sym (ending_back d) ∙ ap ending_of i ∙ ending_back e

-- bytes that end at once have no part
no_parts : (r : List ℕ) (rs : List Part) → AreParts r rs → (x s : List ℕ) → r ++ x ≡ s → size_of (item_at s) ≡ 0 → (r ≡ []) × (rs ≡ [])
no_parts r rs quoted.AreParts.nothing x s e z = (refl, refl)
no_parts r rs (quoted.AreParts.part u v us vs p a) x s e z = absurd (no_part u us p (v ++ x) s (sym (append_assoc u v x) ∙ e) z)

-- a constant that was read to its end
pub record IsWhole (bytes s : List ℕ) (ps : List Part) (e : Ending) (more : List ℕ) : Type 0 where
  pub bytes_are : s ++ more ≡ bytes
  pub parts : AreParts s ps
  pub ends : Ends e more

module _ (bytes s : List ℕ) (ps : List Part) (e : Ending) (more : List ℕ) (w : IsWhole bytes s ps e more) (t : List ℕ) (qs : List Part) (b : AreParts t qs) (y : List ℕ) (is : t ++ y ≡ bytes) where
  -- what else is read is a front of it
  pub front : (r : List ℕ) × (rs : List Part) × AreParts r rs × (s ≡ t ++ r) × (ps ≡ qs ++ rs) × (r ++ more ≡ y)
  front = go (stage s ps w.parts t qs b more y (w.bytes_are ∙ sym is))
    where
      rest : (r : List ℕ) → s ≡ t ++ r → r ++ more ≡ y
      rest r f = append_cancel_left t (r ++ more) y (sym (append_assoc t r more) ∙ ap (λ k. k ++ more) (sym f) ∙ w.bytes_are ∙ sym is)

      go : Stage s ps t qs → (r : List ℕ) × (rs : List Part) × AreParts r rs × (s ≡ t ++ r) × (ps ≡ qs ++ rs) × (r ++ more ≡ y)
      go (long r rs c f g) = (r, rs, c, f, g, rest r f)
      go (short r rs c f g) =
          let k : r ++ y ≡ more = append_cancel_left s (r ++ y) more (sym (append_assoc s r y) ∙ ap (λ k. k ++ y) (sym f) ∙ is ∙ sym w.bytes_are) in
          let (nil, none) = no_parts r rs c y more k (ap size_of (ends_item e more w.ends) ∙ end_size e) in
          let st : s ≡ t ++ [] = sym (append-nil s) ∙ ap (λ k. s ++ k) (sym nil) ∙ sym f ∙ sym (append-nil t) in
          let pq : ps ≡ qs ++ [] = sym (append-nil ps) ∙ ap (λ k. ps ++ k) (sym none) ∙ sym g ∙ sym (append-nil qs) in
          ([], [], quoted.AreParts.nothing, st, pq, rest [] st)

  -- it ends in one way
  pub one_end : (d : Ending) → Ends d y → (d ≡ e) × (t ≡ s) × (qs ≡ ps)
  one_end d h =
      let (r, rs, c, f, g, k) = front in
      let (nil, none) = no_parts r rs c more y k (ap size_of (ends_item d y h) ∙ end_size d) in
      let same : more ≡ y = ap (λ x. x ++ more) (sym nil) ∙ k in
      let items : end_item d ≡ end_item e = sym (ends_item d y h) ∙ ap item_at (sym same) ∙ ends_item e more w.ends in
      (by_item d e items, sym (f ∙ ap (λ x. t ++ x) nil ∙ append-nil t), sym (g ∙ ap (λ x. qs ++ x) none ∙ append-nil qs))
