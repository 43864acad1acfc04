-- a piece behind what was kept
use Rattle.std.proofs.Common.{◌≡◌, ℕ, ◌+◌, ◌-◌, ◌≤◌, List, ◌++◌, length, take, drop, Some, None, Bool, true, false, if◌then◌else◌, refl, arith, sym, ap, ◌∙◌, append_assoc, length-append, length-take}
use Rattle.std.proofs.lemmas.List.{take_at, take_all}
use borrow.Rule.Slice.PartMut.{put_mid}

behind : (kept piece : List ℕ) (len count : ℕ) → count ≡ length piece → len + count ≤ length kept →
    take (len + count) (put_mid len (len + count - len) kept piece) ≡ take len kept ++ piece
behind kept piece len count p q =
    let rest = drop (len + count - len) (drop len kept) in
    let front : length (take len kept ++ piece) ≡ len + count = simp (length-append, length-take) (omega arith) in
    ap (take (len + count)) (sym (append_assoc (take len kept) piece rest)) ∙ take_at (take len kept ++ piece) rest (len + count) front

pub told-more : (full : Bool) (kept piece part : List ℕ) (len count : ℕ) → count ≡ length piece → part ≡ take count piece → len + count ≤ length kept →
    (bytes : List ℕ) → (if full then None else Some (take (len + count) (put_mid len (len + count - len) kept part))) ≡ Some bytes →
    (before : List ℕ) × ((if full then None else Some (take len kept)) ≡ Some before) × (bytes ≡ before ++ take (length piece) piece)
told-more true kept piece part len count p r q bytes h = absurd (cc)
told-more false kept piece part len count p r q bytes h =
    let all : take (length piece) piece ≡ piece = take_all (length piece) piece (omega arith) in
    let whole : part ≡ piece = rw p at r ∙ all in
    let e : take (len + count) (put_mid len (len + count - len) kept part) ≡ take len kept ++ piece = rw whole (behind kept piece len count p q) in
    (take len kept, refl, rw all (let k : bytes ≡ take (len + count) (put_mid len (len + count - len) kept part) = cc in k ∙ e))

pub tells-more : (full : Bool) (kept piece part : List ℕ) (len count : ℕ) → count ≡ length piece → part ≡ take count piece → len + count ≤ length kept →
    (bytes : List ℕ) → (if full then None else Some (take len kept)) ≡ Some bytes → (if full then None else Some (take (len + count) (put_mid len (len + count - len) kept part))) ≡ Some (bytes ++ piece)
tells-more true kept piece part len count p r q bytes h = absurd (cc)
tells-more false kept piece part len count p r q bytes h =
    let whole : part ≡ piece = rw p at r ∙ take_all (length piece) piece (omega arith) in
    let had : take len kept ≡ bytes = cc in
    ap Some (rw whole (behind kept piece len count p q) ∙ ap (λ (b : List ℕ). b ++ piece) had)

-- what is kept is as long as was taken
pub kept-length : (full : Bool) (kept bytes : List ℕ) (len : ℕ) → len ≤ length kept → (if full then None else Some (take len kept)) ≡ Some bytes → length bytes ≡ len
kept-length true kept bytes len h e = absurd (cc)
kept-length false kept bytes len h e = let had : bytes ≡ take len kept = cc in ap length had ∙ simp length-take (omega arith)
