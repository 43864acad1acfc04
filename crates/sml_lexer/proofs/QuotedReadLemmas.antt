-- A constant is read part by part.
use Rattle.std.proofs.Common.{◌≡◌, ◌≢◌, ℕ, ◌+◌, ◌<◌, ◌≤◌, Bool, true, false, ◌||◌, cond, ltb, List, [], ◌∷◌, ◌++◌, Option, Some, None, length, take, drop, refl, sym, ap, ◌∙◌, subst, arith}
use Rattle.std.proofs.lemmas.List.{append_assoc, length-append, append-nil, length-take-le, take_at, length-drop}
use Rattle.sml_lexer.specs.declared.quoted.Item.{Item}
use Rattle.sml_lexer.specs.declared.quoted.Item.TheVariants.{Char, Gap, Control, Close, Open, Unknown}
use Rattle.sml_lexer.specs.declared.quoted.Ending.TheVariants as ending
use Rattle.sml_lexer.specs.Bytes.{is_control}
use Rattle.sml_lexer.specs.Quoted.{Part, character, stray, IsPart, AreParts, IsOpen, IsUnknown, has_wide}
use Rattle.sml_lexer.specs.Quoted as quoted
use Rattle.sml_lexer.specs.QuotedScan.{item_at}
use Rattle.sml_lexer.specs.QuotedRead.{low_byte, values, has_stray, first_of, FirstStray, IsRead, Ends}
use Rattle.sml_lexer.specs.QuotedRead as strays
use Rattle.sml_lexer.proofs.ItemLemmas.{parts_of, size_of, Reads}
use Rattle.sml_lexer.proofs.ItemsFound.{Holds, part, closes, opens, unknown, item_found}
use Rattle.sml_lexer.proofs.WordLemmas.{take_plus}

-- parts behind parts
pub parts-append : (s : List ℕ) (ps : List Part) → AreParts s ps → (t : List ℕ) (qs : List Part) → AreParts t qs → AreParts (s ++ t) (ps ++ qs)
parts-append s ps quoted.AreParts.nothing t qs b = b
parts-append s ps (quoted.AreParts.part u v us vs p a) t qs b =
    subst (λ x. AreParts x ((us ++ vs) ++ qs)) (sym (append_assoc u v t))
    (subst (AreParts (u ++ (v ++ t))) (sym (append_assoc us vs qs)) (quoted.AreParts.part u (v ++ t) us (vs ++ qs) p (parts-append v vs a t qs b)))

pub one_part : (s : List ℕ) (ps : List Part) → IsPart s ps → AreParts s ps
one_part s ps p = subst (AreParts s) (append-nil ps) (subst (λ x. AreParts x (ps ++ [])) (append-nil s) (quoted.AreParts.part s [] ps [] p quoted.AreParts.nothing))

pub values-append : (ps qs : List Part) → values (ps ++ qs) ≡ values ps ++ values qs
values-append [] qs = refl
values-append (character n ∷ ps) qs = ap (λ x. low_byte n ∷ x) (values-append ps qs)
values-append (stray ∷ ps) qs = values-append ps qs

pub wide-append : (ps qs : List Part) → has_wide (ps ++ qs) ≡ (has_wide ps || has_wide qs)
wide-append [] qs = refl
wide-append (character n ∷ ps) qs = step (ltb 255 n) (wide-append ps qs)
  where
    step : (b : Bool) → has_wide (ps ++ qs) ≡ (has_wide ps || has_wide qs) → cond b true (has_wide (ps ++ qs)) ≡ (cond b true (has_wide ps) || has_wide qs)
    step true e = refl
    step false e = e
wide-append (stray ∷ ps) qs = wide-append ps qs

pub stray-append : (ps qs : List Part) → has_stray (ps ++ qs) ≡ (has_stray ps || has_stray qs)
stray-append [] qs = refl
stray-append (character n ∷ ps) qs = stray-append ps qs
stray-append (stray ∷ ps) qs = refl

-- the first control byte stays the first
stray_stays : (s : List ℕ) (ps : List Part) (o : Option ℕ) → FirstStray s ps o → (t : List ℕ) (qs : List Part) → AreParts t qs → has_stray qs ≡ false → FirstStray (s ++ t) (ps ++ qs) o
stray_stays s ps o (strays.FirstStray.none u us h) t qs a k = strays.FirstStray.none _ _ (stray-append ps qs ∙ ap (λ b. b || has_stray qs) h ∙ k)
stray_stays s ps o (strays.FirstStray.at u v c us vs au h k n av) t qs a q =
    subst (λ x. FirstStray x ((us ++ stray ∷ vs) ++ qs) (Some (length u))) (sym (append_assoc u (c ∷ v) t))
    (subst (λ x. FirstStray (u ++ c ∷ (v ++ t)) x (Some (length u))) (sym (append_assoc us (stray ∷ vs) qs))
    (strays.FirstStray.at u (v ++ t) c us (vs ++ qs) au h k n (parts-append v vs av t qs a)))

stray_next : (s : List ℕ) (ps : List Part) (o : Option ℕ) → AreParts s ps → FirstStray s ps o → (c : ℕ) → is_control c ≡ true → c ≢ 10 → FirstStray (s ++ c ∷ []) (ps ++ stray ∷ []) (first_of o (length s))
stray_next s ps o a (strays.FirstStray.none u us h) c k n = strays.FirstStray.at s [] c ps [] a h k n quoted.AreParts.nothing
stray_next s ps o a (strays.FirstStray.at u v d us vs au h k n av) c l m =
    subst (λ x. FirstStray x ((us ++ stray ∷ vs) ++ stray ∷ []) (Some (length u))) (sym (append_assoc u (d ∷ v) (c ∷ [])))
    (subst (λ x. FirstStray (u ++ d ∷ (v ++ c ∷ [])) x (Some (length u))) (sym (append_assoc us (stray ∷ vs) (stray ∷ [])))
    (strays.FirstStray.at u (v ++ c ∷ []) d us (vs ++ stray ∷ []) au h k n (parts-append v vs av (c ∷ []) (stray ∷ []) (one_part _ _ (quoted.IsPart.control c l m)))))

pub read_nothing : (bytes : List ℕ) → IsRead bytes 0 [] false None
read_nothing bytes = record { in_range = omega arith; parts = []; are = quoted.AreParts.nothing; values_are = refl; wide_is = refl; stray_is = strays.FirstStray.none [] [] refl }

abbrev is_part : Item → Bool
is_part (Char code len) = true
is_part (Gap len) = true
is_part Control = true
is_part Close = false
is_part Open = false
is_part Unknown = false

-- the part at a place
record PartAt (bytes : List ℕ) (at : ℕ) (i : Item) : Type 0 where
  text : List ℕ
  part_is : IsPart text (parts_of i)
  size : size_of i ≡ length text
  front : take (at + size_of i) bytes ≡ take at bytes ++ text
  room : at + size_of i ≤ length bytes
  some : 0 < length text

part_at : (bytes : List ℕ) (at : ℕ) → at ≤ length bytes → (i : Item) → item_at (drop at bytes) ≡ i → is_part i ≡ true → PartAt bytes at i
part_at bytes at room i e ok = go (item_found (drop at bytes))
  where
    go : Holds (drop at bytes) (item_at (drop at bytes)) → PartAt bytes at i
    go (part t more ps q p h) =
        let l = ap length q ∙ length-drop at bytes in
        let n = length-append t more in
        let size : size_of i ≡ length t = ap size_of (sym e) ∙ h.size in
        let some = h.some in
        record {
          text = t;
          part_is = subst (IsPart t) (sym (ap parts_of (sym e) ∙ h.parts)) p;
          size = size;
          front = ap (λ k. take (at + k) bytes) size ∙ take_plus at (length t) bytes room ∙ ap (λ x. take at bytes ++ x) (ap (take (length t)) (sym q) ∙ take_at t more (length t) refl);
          room = omega (arith, l, n, some, size);
          some = some;
        }
    go (closes t q k) = let x : true ≡ false = sym ok ∙ ap is_part (sym e ∙ k) in cc
    go (opens q k) = let x : true ≡ false = sym ok ∙ ap is_part (sym e ∙ k) in cc
    go (unknown q k) = let x : true ≡ false = sym ok ∙ ap is_part (sym e ∙ k) in cc

pub part_room : (bytes : List ℕ) (at : ℕ) → at ≤ length bytes → (i : Item) → item_at (drop at bytes) ≡ i → is_part i ≡ true → (at + size_of i ≤ length bytes) × (0 < size_of i)
part_room bytes at room i e ok = let p = part_at bytes at room i e ok in let s = p.size in let k = p.some in (p.room, omega arith)

or_false : (b : Bool) → (b || false) ≡ b
or_false true = refl
or_false false = refl

if_true : (b : Bool) → cond b true false ≡ b
if_true true = refl
if_true false = refl

module _ (bytes value : List ℕ) (at : ℕ) (wide : Bool) (strayed : Option ℕ) (r : IsRead bytes at value wide strayed) where
  more_read : (i : Item) (p : PartAt bytes at i) (o : Option ℕ) → FirstStray (take at bytes ++ p.text) (r.parts ++ parts_of i) o
      → (v : List ℕ) → value ++ values (parts_of i) ≡ v → (w : Bool) → (wide || has_wide (parts_of i)) ≡ w → IsRead bytes (at + size_of i) v w o
  more_read i p o f v ve w we = record {
    in_range = p.room;
    parts = r.parts ++ parts_of i;
    are = subst (λ x. AreParts x (r.parts ++ parts_of i)) (sym p.front) (parts-append _ _ r.are _ _ (one_part _ _ p.part_is));
    values_are = values-append r.parts (parts_of i) ∙ ap (λ x. x ++ values (parts_of i)) r.values_are ∙ ve;
    wide_is = wide-append r.parts (parts_of i) ∙ ap (λ b. b || has_wide (parts_of i)) r.wide_is ∙ we;
    stray_is = subst (λ x. FirstStray x (r.parts ++ parts_of i) o) (sym p.front) f;
  }

  stays : (i : Item) (p : PartAt bytes at i) → has_stray (parts_of i) ≡ false → FirstStray (take at bytes ++ p.text) (r.parts ++ parts_of i) strayed
  stays i p h = stray_stays _ _ _ r.stray_is p.text (parts_of i) (one_part _ _ p.part_is) h

  pub read_char : (code len : ℕ) → item_at (drop at bytes) ≡ Char code len → IsRead bytes (at + len) (value ++ low_byte code ∷ []) (wide || ltb 255 code) strayed
  read_char code len e =
      let p = part_at bytes at r.in_range (Char code len) e refl in
      more_read (Char code len) p strayed (stays (Char code len) p refl) _ refl _ (ap (λ b. wide || b) (if_true (ltb 255 code)))

  pub read_gap : (len : ℕ) → item_at (drop at bytes) ≡ Gap len → IsRead bytes (at + len) value wide strayed
  read_gap len e =
      let p = part_at bytes at r.in_range (Gap len) e refl in
      more_read (Gap len) p strayed (stays (Gap len) p refl) _ (append-nil value) _ (or_false wide)

  pub read_control : item_at (drop at bytes) ≡ Control → IsRead bytes (at + 1) value wide (first_of strayed at)
  read_control e =
      let p = part_at bytes at r.in_range Control e refl in
      more_read Control p (first_of strayed at) (here p.text p.part_is) _ (append-nil value) _ (or_false wide)
    where
      invert : (t : List ℕ) (ps : List Part) → IsPart t ps → ps ≡ stray ∷ [] → (c : ℕ) × (t ≡ c ∷ []) × (is_control c ≡ true) × (c ≢ 10)
      invert t ps (quoted.IsPart.plain c a b d) q = cc
      invert t ps (quoted.IsPart.escape u n h) q = cc
      invert t ps (quoted.IsPart.gap u h) q = cc
      invert t ps (quoted.IsPart.control c h k) q = (c, refl, h, k)

      here : (t : List ℕ) → IsPart t (stray ∷ []) → FirstStray (take at bytes ++ t) (r.parts ++ stray ∷ []) (first_of strayed at)
      here t h =
          let (c, q, k, n) = invert t _ h refl in
          subst (λ x. FirstStray (take at bytes ++ x) (r.parts ++ stray ∷ []) (first_of strayed at)) (sym q)
          (subst (λ m. FirstStray (take at bytes ++ c ∷ []) (r.parts ++ stray ∷ []) (first_of strayed m)) (length-take-le at bytes r.in_range)
          (stray_next _ _ _ r.are r.stray_is c k n))

-- how a constant ends
no_part : (s t : List ℕ) (ps : List Part) (i : Item) → item_at s ≡ i → size_of i ≡ 0 → Reads t ps (item_at s) → ⊥
no_part s t ps i e z r = let k = ap size_of e ∙ z in let a = r.size in let b = r.some in omega arith

pub closes_at : (s : List ℕ) → item_at s ≡ Close → Ends ending.Closed s
closes_at s e = go (item_found s)
  where
    go : Holds s (item_at s) → Ends ending.Closed s
    go (part t more ps q p r) = absurd (no_part s t ps Close e refl r)
    go (closes t q k) = (t, q)
    go (opens q k) = let x : Close ≡ Open = sym e ∙ k in cc
    go (unknown q k) = let x : Close ≡ Unknown = sym e ∙ k in cc

pub opens_at : (s : List ℕ) → item_at s ≡ Open → Ends ending.Open s
opens_at s e = go (item_found s)
  where
    go : Holds s (item_at s) → Ends ending.Open s
    go (part t more ps q p r) = absurd (no_part s t ps Open e refl r)
    go (closes t q k) = let x : Open ≡ Close = sym e ∙ k in cc
    go (opens q k) = q
    go (unknown q k) = let x : Open ≡ Unknown = sym e ∙ k in cc

pub unknown_at : (s : List ℕ) → item_at s ≡ Unknown → Ends ending.Unknown s
unknown_at s e = go (item_found s)
  where
    go : Holds s (item_at s) → Ends ending.Unknown s
    go (part t more ps q p r) = absurd (no_part s t ps Unknown e refl r)
    go (closes t q k) = let x : Unknown ≡ Close = sym e ∙ k in cc
    go (opens q k) = let x : Unknown ≡ Open = sym e ∙ k in cc
    go (unknown q k) = q
