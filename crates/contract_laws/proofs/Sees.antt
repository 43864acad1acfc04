-- Two machines see related values alike, wherever the first sees anything. Where it sees nothing it has no answer, so the second may see what it will:
-- then one function may stand in another's place.
use Rattle.std.proofs.Common.{◌≡◌, ℕ, zero, suc, Bool, true, false, List, [], ◌∷◌, map, length, Option, Some, None, refl, sym, ap, ◌∙◌, subst}
use Rattle.std.specs.Prelude.{ℤ, nat_eq, cond, not, ◌&&◌, slice_get, bytes_eq, zip}
use Rattle.std.specs.Ordering.{int_eq}
use Rattle.smlc_base.specs.declared.primitive.Primitive.{Primitive}
use Rattle.smlc_base.specs.declared.primitive.Primitive.TheVariants as prim
use Rattle.simulation.proofs.Lists.{some_eq}
use Rattle.prim_meaning.specs.Data.{Datum, AScalar, AText, Other, Plain, AString, plain}
use Rattle.prim_meaning.specs.Meaning.{Seen, Scalar, Text, Tuple, Applied, Cell, Packet, Opaque, Outcome, Comes, Gives, Assigns, Verdict, Equal, Unequal, AsPairs, verdict, compared, is_deep, datum, Kind, OfData, Derefs, AssignsTo, Implodes, IsEqual, kind_of, plainly, deref, assign, pair_in, cons_in, letter_in, consed, on_pair, on_cons, letters_from, letters, imploded, by_kind, meaning}
use Rattle.prim_meaning.specs.Tests.{Which, Wanted, Num, Tag, Bytes, Exn, Never, along, fields_in, same_names}
use Rattle.prim_meaning.specs.Strict.{scalar_met, number_met, bytes_met, flagged, name_met, met, is_seen}
use Rattle.prim_meaning.specs.Alike.{AllAlike, BothAlike, Answers, PairAlike, SameSeen, same_scalar, same_text, same_tuple, same_applied, same_cell, same_packet, same_opaque, SameOutcome, same_comes, same_gives, same_assigns, SameVerdict, both_equal, both_unequal, both_pairs, SameWanted, same_num, same_tag, same_bytes, same_exn, same_never, HasBlocks}
use Rattle.prim_meaning.proofs.Alike.{get_alike, zip_alike, answers_of_both, answer_of}
use Rattle.prim_meaning.proofs.Letters.{blocks_suffice}
use Rattle.lambda_ir.specs.Free.{is_comparison}

pub data SeesAs {V W : Type 0} (A : ℕ → ℕ → Type 0) (R : V → W → Type 0) : Seen V → Seen W → Type 0 where
  unseen : (t : Seen W) → SeesAs A R Opaque t
  seen : (s : Seen V) (t : Seen W) → SameSeen A R s t → SeesAs A R s t

pub record SeesMore {V W : Type 0} (A : ℕ → ℕ → Type 0) (R : V → W → Type 0) (see : V → Seen V) (look : W → Seen W) : Type 0 where
  pub one_to_one : (a b c d : ℕ) → A a c → A b d → nat_eq c d ≡ nat_eq a b
  pub alike : (v : V) (w : W) → R v w → SeesAs A R (see v) (look w)

-- What is an exception name stays one, is seen as nothing, and two are the same in both.
pub record NamesMore {V W : Type 0} (R : V → W → Type 0) (look : W → Seen W) (which : V → Option Which) (whose : W → Option Which) (known : V → Bool) (named : W → Bool) : Type 0 where
  pub kept : (v : V) (w : W) → R v w → known v ≡ true → named w ≡ true
  pub opaque : (w : W) → named w ≡ true → look w ≡ Opaque
  pub same : (v u : V) (w x : W) → R v w → R u x → known v ≡ true → known u ≡ true → same_names (whose w) (whose x) ≡ same_names (which v) (which u)

pub cond_some : {X : Type 0} (c : Bool) (o : Option X) (x : X) → cond c o None ≡ Some x → (c ≡ true) × (o ≡ Some x)
cond_some true o x e = (refl, e)
cond_some false o x e = absurd (cc)

-- what is compared may be seen
abbrev pub is_shown : {V : Type 0} → Seen V → Bool
is_shown Opaque = false
is_shown _ = true

-- ---- Data

-- what isn't data gives way to anything
data Less : Datum → Datum → Type 0 where
  other : (d : Datum) → Less Other d
  whole : (d : Datum) → Less d d

abbrev AllData : List Datum → Type 0
AllData [] = Unit {0}
AllData (AScalar z ∷ ds) = AllData ds
AllData (AText bytes ∷ ds) = AllData ds
AllData (Other ∷ ds) = ⊥

cons_same : (a b : Datum) (ds es : List Datum) → Less a b → AllData (a ∷ ds) → (AllData ds → es ≡ ds) → b ∷ es ≡ a ∷ ds
cons_same a b ds es (other c) k further = absurd k
cons_same (AScalar z) b ds es (whole c) k further = ap (λ xs. AScalar z ∷ xs) (further k)
cons_same (AText bytes) b ds es (whole c) k further = ap (λ xs. AText bytes ∷ xs) (further k)
cons_same Other b ds es (whole c) k further = absurd k

data_same : (ds es : List Datum) → AllAlike Less ds es → AllData ds → es ≡ ds
data_same [] [] h g = refl
data_same [] (e ∷ es) h g = absurd h
data_same (d ∷ ds) [] h g = absurd h
data_same (d ∷ ds) (e ∷ es) h g = cons_same d e ds es h.0 g (λ k. data_same ds es h.1 k)

-- primitives have an answer on data alone
plain_whole : (input : List ℕ) (f : Primitive) (ds : List Datum) (r : Plain) → plain input f ds ≡ Some r → AllData ds
plain_whole input prim.Plus (AScalar x ∷ AScalar y ∷ []) r e = tt
plain_whole input prim.Minus (AScalar x ∷ AScalar y ∷ []) r e = tt
plain_whole input prim.Times (AScalar x ∷ AScalar y ∷ []) r e = tt
plain_whole input prim.Quotient (AScalar x ∷ AScalar y ∷ []) r e = tt
plain_whole input prim.Modulo (AScalar x ∷ AScalar y ∷ []) r e = tt
plain_whole input prim.Less (AScalar x ∷ AScalar y ∷ []) r e = tt
plain_whole input prim.Greater (AScalar x ∷ AScalar y ∷ []) r e = tt
plain_whole input prim.AtMost (AScalar x ∷ AScalar y ∷ []) r e = tt
plain_whole input prim.AtLeast (AScalar x ∷ AScalar y ∷ []) r e = tt
plain_whole input prim.Negate (AScalar x ∷ []) r e = tt
plain_whole input prim.Abs (AScalar x ∷ []) r e = tt
plain_whole input prim.Ord (AScalar x ∷ []) r e = tt
plain_whole input prim.Chr (AScalar x ∷ []) r e = tt
plain_whole input prim.Str (AScalar x ∷ []) r e = tt
plain_whole input prim.Size (AText bytes ∷ []) r e = tt
plain_whole input prim.Concat (AText bytes ∷ AText more ∷ []) r e = tt
plain_whole input prim.Compare (AText bytes ∷ AText more ∷ []) r e = tt
plain_whole input prim.Sub (AText bytes ∷ AScalar x ∷ []) r e = tt
plain_whole input prim.Substring (AText bytes ∷ AScalar x ∷ AScalar y ∷ []) r e = tt
plain_whole input prim.Print (AText bytes ∷ []) r e = tt
plain_whole input prim.InputLine (AScalar x ∷ []) r e = tt
plain_whole input _ _ r e = absurd (cc)

kind_apart : (f : Primitive) → is_comparison f ≡ false → (t : Bool) → kind_of f ≡ IsEqual t → ⊥
kind_apart prim.Equal c t k = cc
kind_apart prim.Unequal c t k = cc
kind_apart prim.Deref c t k = cc
kind_apart prim.Assign c t k = cc
kind_apart prim.Implode c t k = cc
kind_apart _ c t k = cc

module _ {V W : Type 0} (A : ℕ → ℕ → Type 0) (R : V → W → Type 0) where
  fields_alike : (s : Seen V) (t : Seen W) → SameSeen A R s t → AllAlike R (fields_in s) (fields_in t)
  fields_alike s t (same_scalar z) = tt
  fields_alike s t (same_text bytes) = tt
  fields_alike s t (same_tuple vs ws h) = h
  fields_alike s t (same_applied a b n v w h) = (h, tt)
  fields_alike s t (same_cell a b v w g h) = (h, tt)
  fields_alike s t (same_packet x v y w g h) = (g, (h, tt))
  fields_alike s t same_opaque = tt

  pub field_sees : (s : Seen V) (t : Seen W) → SeesAs A R s t → (i : ℕ) (x : V) → slice_get (fields_in s) i ≡ Some x → (y : W) × (slice_get (fields_in t) i ≡ Some y) × R x y
  field_sees s t (unseen u) i x e = absurd (cc)
  field_sees s t (seen r u h) i x e = answer_of R x (slice_get (fields_in s) i) (slice_get (fields_in t) i) e (answers_of_both R (slice_get (fields_in s) i) (slice_get (fields_in t) i) (get_alike R (fields_in s) (fields_in t) i (fields_alike s t h)))

  shown_alike : (s : Seen V) (t : Seen W) → SeesAs A R s t → is_shown s ≡ true → SameSeen A R s t
  shown_alike s t (unseen u) e = absurd (cc)
  shown_alike s t (seen r u h) e = h

  -- ---- Tests of one value

  scalar_alike : (z : ℤ) (s : Seen V) (t : Seen W) → SameSeen A R s t → scalar_met z t ≡ scalar_met z s
  scalar_alike z s t (same_scalar y) = refl
  scalar_alike z s t (same_text bytes) = refl
  scalar_alike z s t (same_tuple vs ws h) = refl
  scalar_alike z s t (same_applied a b n v w h) = refl
  scalar_alike z s t (same_cell a b v w g h) = refl
  scalar_alike z s t (same_packet x v y w g h) = refl
  scalar_alike z s t same_opaque = refl

  number_alike : (k : ℕ) (s : Seen V) (t : Seen W) → SameSeen A R s t → number_met k t ≡ number_met k s
  number_alike k s t (same_scalar y) = refl
  number_alike k s t (same_text bytes) = refl
  number_alike k s t (same_tuple vs ws h) = refl
  number_alike k s t (same_applied a b n v w h) = refl
  number_alike k s t (same_cell a b v w g h) = refl
  number_alike k s t (same_packet x v y w g h) = refl
  number_alike k s t same_opaque = refl

  bytes_alike : (bs : List ℕ) (s : Seen V) (t : Seen W) → SameSeen A R s t → bytes_met bs t ≡ bytes_met bs s
  bytes_alike bs s t (same_scalar y) = refl
  bytes_alike bs s t (same_text bytes) = refl
  bytes_alike bs s t (same_tuple vs ws h) = refl
  bytes_alike bs s t (same_applied a b n v w h) = refl
  bytes_alike bs s t (same_cell a b v w g h) = refl
  bytes_alike bs s t (same_packet x v y w g h) = refl
  bytes_alike bs s t same_opaque = refl

  scalar_sees : (z : ℤ) (s : Seen V) (t : Seen W) → SeesAs A R s t → (b : Bool) → scalar_met z s ≡ Some b → scalar_met z t ≡ Some b
  scalar_sees z s t (unseen u) b e = absurd (cc)
  scalar_sees z s t (seen r u h) b e = scalar_alike z s t h ∙ e

  number_sees : (k : ℕ) (s : Seen V) (t : Seen W) → SeesAs A R s t → (b : Bool) → number_met k s ≡ Some b → number_met k t ≡ Some b
  number_sees k s t (unseen u) b e = absurd (cc)
  number_sees k s t (seen r u h) b e = number_alike k s t h ∙ e

  bytes_sees : (bs : List ℕ) (s : Seen V) (t : Seen W) → SeesAs A R s t → (b : Bool) → bytes_met bs s ≡ Some b → bytes_met bs t ≡ Some b
  bytes_sees bs s t (unseen u) b e = absurd (cc)
  bytes_sees bs s t (seen r u h) b e = bytes_alike bs s t h ∙ e

  -- ---- Comparisons of what has equality

  pub still_seen : (s : Seen V) (t : Seen W) → SeesAs A R s t → is_seen s ≡ true → is_seen t ≡ true
  still_seen s t (unseen u) e = absurd (cc)
  still_seen s t (seen r u (same_scalar z)) e = refl
  still_seen s t (seen r u (same_text bytes)) e = refl
  still_seen s t (seen r u (same_tuple vs ws h)) e = refl
  still_seen s t (seen r u (same_applied a b n v w h)) e = refl
  still_seen s t (seen r u (same_cell a b v w g h)) e = refl
  still_seen s t (seen r u (same_packet x v y w g h)) e = absurd (cc)
  still_seen s t (seen r u same_opaque) e = absurd (cc)

  seen_shown : (s : Seen V) → is_seen s ≡ true → is_shown s ≡ true
  seen_shown (Scalar z) e = refl
  seen_shown (Text bytes) e = refl
  seen_shown (Tuple vs) e = refl
  seen_shown (Applied a n v) e = refl
  seen_shown (Cell a v) e = refl
  seen_shown (Packet x v) e = refl
  seen_shown Opaque e = e

  verdict_alike : (q : Bool) → SameVerdict R (verdict q) (verdict q)
  verdict_alike true = both_equal
  verdict_alike false = both_unequal

  by_numbers : (q : Bool) (ps : List (V × V)) (qs : List (W × W)) → AllAlike (PairAlike R) ps qs → SameVerdict R (cond q (AsPairs ps) Unequal) (cond q (AsPairs qs) Unequal)
  by_numbers true ps qs h = both_pairs ps qs h
  by_numbers false ps qs h = both_unequal

  -- how two compare, and whether they are taken apart
  abbrev pub Compares : Seen V → Seen V → Seen W → Seen W → Type 0
  Compares s u t x = SameVerdict R (compared s u) (compared t x) × (is_deep t x ≡ is_deep s u)

  module _ (one : (a b c d : ℕ) → A a c → A b d → nat_eq c d ≡ nat_eq a b) where
    compared_alike : (s : Seen V) (t : Seen W) (u : Seen V) (x : Seen W) → SameSeen A R s t → SameSeen A R u x → Compares s u t x
    compared_alike s t u x (same_scalar z) (same_scalar y) = (verdict_alike (int_eq z y), refl)
    compared_alike s t u x (same_scalar z) (same_text bs) = (both_unequal, refl)
    compared_alike s t u x (same_scalar z) (same_tuple vs ws h) = (both_unequal, refl)
    compared_alike s t u x (same_scalar z) (same_applied a b n v w h) = (both_unequal, refl)
    compared_alike s t u x (same_scalar z) (same_cell a b v w g h) = (both_unequal, refl)
    compared_alike s t u x (same_scalar z) (same_packet y v k w g h) = (both_unequal, refl)
    compared_alike s t u x (same_scalar z) same_opaque = (both_unequal, refl)
    compared_alike s t u x (same_text bs) (same_scalar z) = (both_unequal, refl)
    compared_alike s t u x (same_text bs) (same_text cs) = (verdict_alike (bytes_eq bs cs), refl)
    compared_alike s t u x (same_text bs) (same_tuple vs ws h) = (both_unequal, refl)
    compared_alike s t u x (same_text bs) (same_applied a b n v w h) = (both_unequal, refl)
    compared_alike s t u x (same_text bs) (same_cell a b v w g h) = (both_unequal, refl)
    compared_alike s t u x (same_text bs) (same_packet y v k w g h) = (both_unequal, refl)
    compared_alike s t u x (same_text bs) same_opaque = (both_unequal, refl)
    compared_alike s t u x (same_tuple us xs g) (same_scalar z) = (both_unequal, refl)
    compared_alike s t u x (same_tuple us xs g) (same_text bs) = (both_unequal, refl)
    compared_alike s t u x (same_tuple us xs g) (same_tuple vs ws h) = (both_pairs (zip us vs) (zip xs ws) (zip_alike R us vs xs ws g h), refl)
    compared_alike s t u x (same_tuple us xs g) (same_applied a b n v w h) = (both_unequal, refl)
    compared_alike s t u x (same_tuple us xs g) (same_cell a b v w k h) = (both_unequal, refl)
    compared_alike s t u x (same_tuple us xs g) (same_packet y v k w i h) = (both_unequal, refl)
    compared_alike s t u x (same_tuple us xs g) same_opaque = (both_unequal, refl)
    compared_alike s t u x (same_applied c d m z y g) (same_scalar k) = (both_unequal, refl)
    compared_alike s t u x (same_applied c d m z y g) (same_text bs) = (both_unequal, refl)
    compared_alike s t u x (same_applied c d m z y g) (same_tuple vs ws h) = (both_unequal, refl)
    compared_alike s t u x (same_applied c d m z y g) (same_applied a b n v w h) = (by_numbers (nat_eq m n) ((z, v) ∷ []) ((y, w) ∷ []) ((g, h), tt), refl)
    compared_alike s t u x (same_applied c d m z y g) (same_cell a b v w k h) = (both_unequal, refl)
    compared_alike s t u x (same_applied c d m z y g) (same_packet i v k w j h) = (both_unequal, refl)
    compared_alike s t u x (same_applied c d m z y g) same_opaque = (both_unequal, refl)
    compared_alike s t u x (same_cell c d z y i g) (same_scalar k) = (both_unequal, refl)
    compared_alike s t u x (same_cell c d z y i g) (same_text bs) = (both_unequal, refl)
    compared_alike s t u x (same_cell c d z y i g) (same_tuple vs ws h) = (both_unequal, refl)
    compared_alike s t u x (same_cell c d z y i g) (same_applied a b n v w h) = (both_unequal, refl)
    compared_alike s t u x (same_cell c d z y i g) (same_cell a b v w k h) = (subst (λ q. SameVerdict R (verdict (nat_eq c a)) (verdict q)) (sym (one c a d b i k)) (verdict_alike (nat_eq c a)), refl)
    compared_alike s t u x (same_cell c d z y i g) (same_packet m v k w j h) = (both_unequal, refl)
    compared_alike s t u x (same_cell c d z y i g) same_opaque = (both_unequal, refl)
    compared_alike s t u x (same_packet m z k y i g) (same_scalar n) = (both_unequal, refl)
    compared_alike s t u x (same_packet m z k y i g) (same_text bs) = (both_unequal, refl)
    compared_alike s t u x (same_packet m z k y i g) (same_tuple vs ws h) = (both_unequal, refl)
    compared_alike s t u x (same_packet m z k y i g) (same_applied a b n v w h) = (both_unequal, refl)
    compared_alike s t u x (same_packet m z k y i g) (same_cell a b v w j h) = (both_unequal, refl)
    compared_alike s t u x (same_packet m z k y i g) (same_packet n v l w j h) = (both_unequal, refl)
    compared_alike s t u x (same_packet m z k y i g) same_opaque = (both_unequal, refl)
    compared_alike s t u x same_opaque (same_scalar z) = (both_unequal, refl)
    compared_alike s t u x same_opaque (same_text bs) = (both_unequal, refl)
    compared_alike s t u x same_opaque (same_tuple vs ws h) = (both_unequal, refl)
    compared_alike s t u x same_opaque (same_applied a b n v w h) = (both_unequal, refl)
    compared_alike s t u x same_opaque (same_cell a b v w g h) = (both_unequal, refl)
    compared_alike s t u x same_opaque (same_packet y v k w g h) = (both_unequal, refl)
    compared_alike s t u x same_opaque same_opaque = (both_unequal, refl)

    pub compared_sees : (s : Seen V) (t : Seen W) (u : Seen V) (x : Seen W) → SeesAs A R s t → SeesAs A R u x → is_seen s ≡ true → is_seen u ≡ true → Compares s u t x
    compared_sees s t u x g h e k = compared_alike s t u x (shown_alike s t g (seen_shown s e)) (shown_alike u x h (seen_shown u k))

  -- ---- Primitives

  datum_alike : (s : Seen V) (t : Seen W) → SameSeen A R s t → datum t ≡ datum s
  datum_alike s t (same_scalar z) = refl
  datum_alike s t (same_text bytes) = refl
  datum_alike s t (same_tuple vs ws h) = refl
  datum_alike s t (same_applied a b n v w h) = refl
  datum_alike s t (same_cell a b v w g h) = refl
  datum_alike s t (same_packet x v y w g h) = refl
  datum_alike s t same_opaque = refl

  datum_sees : (s : Seen V) (t : Seen W) → SeesAs A R s t → Less (datum s) (datum t)
  datum_sees s t (unseen u) = other (datum u)
  datum_sees s t (seen r u h) = subst (λ d. Less (datum s) d) (sym (datum_alike s t h)) (whole (datum s))

  deref_sees : (s : Seen V) (t : Seen W) → SeesAs A R s t → Answers (SameOutcome A R) (deref s) (deref t)
  deref_sees s t (unseen u) = tt
  deref_sees s t (seen r u (same_scalar z)) = tt
  deref_sees s t (seen r u (same_text bytes)) = tt
  deref_sees s t (seen r u (same_tuple vs ws h)) = tt
  deref_sees s t (seen r u (same_applied a b n v w h)) = tt
  deref_sees s t (seen r u (same_cell a b v w g h)) = same_gives v w h
  deref_sees s t (seen r u (same_packet x v y w g h)) = tt
  deref_sees s t (seen r u same_opaque) = tt

  assign_sees : (s : Seen V) (t : Seen W) (u : V) (x : W) → SeesAs A R s t → R u x → Answers (SameOutcome A R) (assign s u) (assign t x)
  assign_sees s t u x (unseen i) r = tt
  assign_sees s t u x (seen i j (same_scalar z)) r = tt
  assign_sees s t u x (seen i j (same_text bytes)) r = tt
  assign_sees s t u x (seen i j (same_tuple vs ws h)) r = tt
  assign_sees s t u x (seen i j (same_applied a b n v w h)) r = tt
  assign_sees s t u x (seen i j (same_cell a b v w g h)) r = same_assigns a b u x g r
  assign_sees s t u x (seen i j (same_packet y v z w g h)) r = tt
  assign_sees s t u x (seen i j same_opaque) r = tt

  cons_sees : (s : Seen V) (t : Seen W) → SeesAs A R s t → Answers R (cons_in s) (cons_in t)
  cons_sees s t (unseen u) = tt
  cons_sees s t (seen r u (same_scalar z)) = tt
  cons_sees s t (seen r u (same_text bytes)) = tt
  cons_sees s t (seen r u (same_tuple vs ws h)) = tt
  cons_sees s t (seen r u (same_applied a b n v w h)) = go (nat_eq n 1)
    where
      go : (q : Bool) → Answers R (cond q (Some v) None) (cond q (Some w) None)
      go true = h
      go false = tt
  cons_sees s t (seen r u (same_cell a b v w g h)) = tt
  cons_sees s t (seen r u (same_packet x v y w g h)) = tt
  cons_sees s t (seen r u same_opaque) = tt

  two_sees : (vs : List V) (ws : List W) → AllAlike R vs ws → Answers (PairAlike R) (pair_in (Tuple vs)) (pair_in (Tuple ws))
  two_sees [] ws h = tt
  two_sees (v ∷ []) ws h = tt
  two_sees (v ∷ u ∷ []) [] h = absurd h
  two_sees (v ∷ u ∷ []) (w ∷ []) h = absurd h.1
  two_sees (v ∷ u ∷ []) (w ∷ x ∷ []) h = (h.0, h.1.0)
  two_sees (v ∷ u ∷ []) (w ∷ x ∷ y ∷ ws) h = absurd h.1.1
  two_sees (v ∷ u ∷ z ∷ vs) ws h = tt

  pair_sees : (s : Seen V) (t : Seen W) → SeesAs A R s t → Answers (PairAlike R) (pair_in s) (pair_in t)
  pair_sees s t (unseen u) = tt
  pair_sees s t (seen r u (same_scalar z)) = tt
  pair_sees s t (seen r u (same_text bytes)) = tt
  pair_sees s t (seen r u (same_tuple vs ws h)) = two_sees vs ws h
  pair_sees s t (seen r u (same_applied a b n v w h)) = tt
  pair_sees s t (seen r u (same_cell a b v w g h)) = tt
  pair_sees s t (seen r u (same_packet x v y w g h)) = tt
  pair_sees s t (seen r u same_opaque) = tt

  letter_sees : (s : Seen V) (t : Seen W) → SeesAs A R s t → (c : ℕ) → letter_in s ≡ Some c → letter_in t ≡ Some c
  letter_sees s t (unseen u) c e = absurd (cc)
  letter_sees s t (seen r u (same_scalar z)) c e = e
  letter_sees s t (seen r u (same_text bytes)) c e = absurd (cc)
  letter_sees s t (seen r u (same_tuple vs ws h)) c e = absurd (cc)
  letter_sees s t (seen r u (same_applied a b n v w h)) c e = absurd (cc)
  letter_sees s t (seen r u (same_cell a b v w g h)) c e = absurd (cc)
  letter_sees s t (seen r u (same_packet x v y w g h)) c e = absurd (cc)
  letter_sees s t (seen r u same_opaque) c e = absurd (cc)

-- ---- Two machines

module _ {V W : Type 0} (A : ℕ → ℕ → Type 0) (R : V → W → Type 0) (see : V → Seen V) (look : W → Seen W) (views : SeesMore A R see look) where
  -- ---- Ways

  along_none : (steps : List ℕ) → along see steps None ≡ None
  along_none [] = refl
  along_none (i ∷ steps) = along_none steps

  abbrev Stands : List ℕ → V → W → V → Type 0
  Stands steps v w x = (y : W) × (along look steps (Some w) ≡ Some y) × R x y

  -- what stands at the end of a way
  pub along_sees : (steps : List ℕ) (v : V) (w : W) → R v w → (x : V) → along see steps (Some v) ≡ Some x → (y : W) × (along look steps (Some w) ≡ Some y) × R x y
  along_sees [] v w r x e = (w, refl, some_eq (λ u. R u w) v x e r)
  along_sees (i ∷ steps) v w r x e = by (slice_get (fields_in (see v)) i) refl e (λ u z k g. along_sees steps u z k x g)
    where
      by : (o : Option V) → slice_get (fields_in (see v)) i ≡ o → along see steps o ≡ Some x → ((u : V) (z : W) → R u z → along see steps (Some u) ≡ Some x → Stands steps u z x) → (y : W) × (along look steps (slice_get (fields_in (look w)) i) ≡ Some y) × R x y
      by None g h further = absurd (let n = along_none steps in cc)
      by (Some u) g h further =
          let f = field_sees A R (see v) (look w) (views.alike v w r) i u g in
          let k = further u f.0 f.2 h in
          (k.0, ap (along look steps) f.1 ∙ k.1, k.2)

  -- ---- One turn of a comparison

  pub turn_sees : (v u : V) (w x : W) → R v w → R u x → is_seen (see v) ≡ true → is_seen (see u) ≡ true → Compares A R (see v) (see u) (look w) (look x)
  turn_sees v u w x r k e g = compared_sees A R views.one_to_one (see v) (look w) (see u) (look x) (views.alike v w r) (views.alike u x k) e g

  -- ---- Lists of characters

  consed_some : (o : Option ℕ) (p : Option (List ℕ)) (bs : List ℕ) → consed o p ≡ Some bs → (c : ℕ) × (cs : List ℕ) × (o ≡ Some c) × (p ≡ Some cs) × (c ∷ cs ≡ bs)
  consed_some None p bs e = absurd (cc)
  consed_some (Some c) None bs e = absurd (cc)
  consed_some (Some c) (Some cs) bs e = (c, cs, refl, refl, some_eq (λ k. c ∷ cs ≡ k) (c ∷ cs) bs e refl)

  abbrev Reads : (V → Option (List ℕ)) → (W → Option (List ℕ)) → Type 0
  Reads f g = (u : V) (x : W) → R u x → (bs : List ℕ) → f u ≡ Some bs → g x ≡ Some bs

  on_pair_sees : (f : V → Option (List ℕ)) (g : W → Option (List ℕ)) → Reads f g → (o : Option (V × V)) (q : Option (W × W)) → Answers (PairAlike R) o q → (bs : List ℕ) → on_pair see f o ≡ Some bs → on_pair look g q ≡ Some bs
  on_pair_sees f g rest None q h bs e = absurd (cc)
  on_pair_sees f g rest (Some p) None h bs e = absurd h
  on_pair_sees f g rest (Some p) (Some q) h bs e =
      let k = consed_some (letter_in (see p.0)) (f p.1) bs e in
      let c = letter_sees A R (see p.0) (look q.0) (views.alike p.0 q.0 h.0) k.0 k.2 in
      let d = rest p.1 q.1 h.1 k.1 k.3 in
      ap (λ o. consed o (g q.1)) c ∙ ap (consed (Some k.0)) d ∙ ap Some k.4

  on_cons_sees : (f : V → Option (List ℕ)) (g : W → Option (List ℕ)) → Reads f g → (o : Option V) (q : Option W) → Answers R o q → (bs : List ℕ) → on_cons see f o ≡ Some bs → on_cons look g q ≡ Some bs
  on_cons_sees f g rest None q h bs e = absurd (cc)
  on_cons_sees f g rest (Some p) None h bs e = absurd h
  on_cons_sees f g rest (Some p) (Some q) h bs e = on_pair_sees f g rest (pair_in (see p)) (pair_in (look q)) (pair_sees A R (see p) (look q) (views.alike p q h)) bs e

  from_sees : (f : V → Option (List ℕ)) (g : W → Option (List ℕ)) → Reads f g → (s : Seen V) (t : Seen W) → SeesAs A R s t → (bs : List ℕ) → letters_from see f s ≡ Some bs → letters_from look g t ≡ Some bs
  from_sees f g rest s t (unseen u) bs e = absurd (cc)
  from_sees f g rest s t (seen r u (same_scalar z)) bs e = e
  from_sees f g rest s t (seen r u (same_text bytes)) bs e = absurd (cc)
  from_sees f g rest s t (seen r u (same_tuple vs ws h)) bs e = absurd (cc)
  from_sees f g rest s t (seen r u (same_applied a b n v w h)) bs e =
      on_cons_sees f g rest (cons_in (Applied a n v)) (cons_in (Applied b n w)) (cons_sees A R (Applied a n v) (Applied b n w) (seen (Applied a n v) (Applied b n w) (same_applied a b n v w h))) bs e
  from_sees f g rest s t (seen r u (same_cell a b v w k h)) bs e = absurd (cc)
  from_sees f g rest s t (seen r u (same_packet x v y w k h)) bs e = absurd (cc)
  from_sees f g rest s t (seen r u same_opaque) bs e = absurd (cc)

  pub letters_see : (n : ℕ) (v : V) (w : W) → R v w → (bs : List ℕ) → letters see n v ≡ Some bs → letters look n w ≡ Some bs
  letters_see zero v w r bs e = absurd (cc)
  letters_see (suc n) v w r bs e = from_sees (letters see n) (letters look n) (λ u x k cs g. letters_see n u x k cs g) (see v) (look w) (views.alike v w r) bs e

  -- ---- Primitives

  data_see : (vs : List V) (ws : List W) → AllAlike R vs ws → AllAlike Less (map (λ v. datum (see v)) vs) (map (λ w. datum (look w)) ws)
  data_see [] [] h = tt
  data_see [] (w ∷ ws) h = absurd h
  data_see (v ∷ vs) [] h = absurd h
  data_see (v ∷ vs) (w ∷ ws) h = (datum_sees A R (see v) (look w) (views.alike v w h.0), data_see vs ws h.1)

  plainly_sees : (o : Option Plain) → Answers (SameOutcome A R) (plainly o) (plainly o)
  plainly_sees None = tt
  plainly_sees (Some r) = same_comes r

  plain_sees : (input : List ℕ) (f : Primitive) (ds es : List Datum) → AllAlike Less ds es → (o : Option Plain) → plain input f ds ≡ o → Answers (SameOutcome A R) (plainly o) (plainly (plain input f es))
  plain_sees input f ds es h None e = tt
  plain_sees input f ds es h (Some r) e =
      subst (λ xs. Answers (SameOutcome A R) (Some (Comes r)) (plainly (plain input f xs))) (sym (data_same ds es h (plain_whole input f ds r e)))
      (subst (λ o. Answers (SameOutcome A R) (Some (Comes r)) (plainly o)) (sym e) (same_comes r))

  -- the second counts the blocks that it has
  module _ (most more : ℕ) (blocks : HasBlocks look more) (input : List ℕ) (f : Primitive) where
    implode_sees : (v : V) (w : W) → R v w → (o : Option (List ℕ)) → letters see (suc most) v ≡ o → Answers (SameOutcome A R) (imploded see o) (imploded look (letters look (suc more) w))
    implode_sees v w r None e = tt
    implode_sees v w r (Some bs) e =
        let all : letters look (suc more) w ≡ Some bs = blocks_suffice look more blocks (suc most) w bs (letters_see (suc most) v w r bs e) in
        subst (λ o. Answers (SameOutcome A R) (Some (Comes (AString bs))) (imploded look o)) (sym all) (same_comes (AString bs))

    kind_sees : (k : Kind) (vs : List V) (ws : List W) → ((t : Bool) → k ≡ IsEqual t → ⊥) → AllAlike R vs ws → Answers (SameOutcome A R) (by_kind see most input f k vs) (by_kind look more input f k ws)
    kind_sees OfData vs ws n h = plain_sees input f (map (λ v. datum (see v)) vs) (map (λ w. datum (look w)) ws) (data_see vs ws h) (plain input f (map (λ v. datum (see v)) vs)) refl
    kind_sees Derefs [] ws n h = tt
    kind_sees Derefs (v ∷ []) [] n h = absurd h
    kind_sees Derefs (v ∷ []) (w ∷ []) n h = deref_sees A R (see v) (look w) (views.alike v w h.0)
    kind_sees Derefs (v ∷ []) (w ∷ x ∷ ws) n h = absurd h.1
    kind_sees Derefs (v ∷ u ∷ vs) ws n h = tt
    kind_sees AssignsTo [] ws n h = tt
    kind_sees AssignsTo (v ∷ []) ws n h = tt
    kind_sees AssignsTo (v ∷ u ∷ []) [] n h = absurd h
    kind_sees AssignsTo (v ∷ u ∷ []) (w ∷ []) n h = absurd h.1
    kind_sees AssignsTo (v ∷ u ∷ []) (w ∷ x ∷ []) n h = assign_sees A R (see v) (look w) u x (views.alike v w h.0) h.1.0
    kind_sees AssignsTo (v ∷ u ∷ []) (w ∷ x ∷ y ∷ ws) n h = absurd h.1.1
    kind_sees AssignsTo (v ∷ u ∷ z ∷ vs) ws n h = tt
    kind_sees Implodes [] ws n h = tt
    kind_sees Implodes (v ∷ []) [] n h = absurd h
    kind_sees Implodes (v ∷ []) (w ∷ []) n h = implode_sees v w h.0 (letters see (suc most) v) refl
    kind_sees Implodes (v ∷ []) (w ∷ x ∷ ws) n h = absurd h.1
    kind_sees Implodes (v ∷ u ∷ vs) ws n h = tt
    kind_sees (IsEqual t) vs ws n h = absurd (n t refl)

    -- what the first comes to, the second comes to
    pub meaning_sees : is_comparison f ≡ false → (vs : List V) (ws : List W) → AllAlike R vs ws → (o : Outcome V) → meaning see most input f vs ≡ Some o → (q : Outcome W) × (meaning look more input f ws ≡ Some q) × SameOutcome A R o q
    meaning_sees c vs ws h o e =
        answer_of (SameOutcome A R) o (meaning see most input f vs) (meaning look more input f ws) e
        (kind_sees (kind_of f) vs ws (λ t k. kind_apart f c t k) h)

  -- ---- Tests of one value

  module _ (which : V → Option Which) (whose : W → Option Which) (known : V → Bool) (named : W → Bool) (names : NamesMore R look which whose known named) where
    -- of a value that is no packet, the value itself is looked at
    itself : (x v : V) (y w : W) (applied b : Bool) → R x y → R v w → known x ≡ true → cond (known v) (flagged (not applied) (same_names (which x) (which v))) None ≡ Some b → cond (named w) (flagged (not applied) (same_names (whose y) (whose w))) None ≡ Some b
    itself x v y w applied b r h k e =
        let c = cond_some (known v) (flagged (not applied) (same_names (which x) (which v))) b e in
        ap (λ t. cond t (flagged (not applied) (same_names (whose y) (whose w))) None) (names.kept v w h c.0)
        ∙ ap (λ t. flagged (not applied) t) (names.same x v y w r h k c.0) ∙ c.1

    name_sees : (x v : V) (y w : W) (applied b : Bool) → R x y → R v w → known x ≡ true → (s : Seen V) (t : Seen W) → SeesAs A R s t → look w ≡ t → name_met see which known x applied v s ≡ Some b → name_met look whose named y applied w t ≡ Some b
    name_sees x v y w applied b r h k s t (unseen u) g e =
        let c = cond_some (known v) (flagged (not applied) (same_names (which x) (which v))) b e in
        subst (λ o. name_met look whose named y applied w o ≡ Some b) (sym (names.opaque w (names.kept v w h c.0)) ∙ g) (itself x v y w applied b r h k e)
    name_sees x v y w applied b r h k s t (seen i j (same_scalar z)) g e = itself x v y w applied b r h k e
    name_sees x v y w applied b r h k s t (seen i j (same_text bytes)) g e = itself x v y w applied b r h k e
    name_sees x v y w applied b r h k s t (seen i j (same_tuple us zs l)) g e = itself x v y w applied b r h k e
    name_sees x v y w applied b r h k s t (seen i j (same_applied c d n u z l)) g e = itself x v y w applied b r h k e
    name_sees x v y w applied b r h k s t (seen i j (same_cell c d u z m l)) g e = itself x v y w applied b r h k e
    name_sees x v y w applied b r h k s t (seen i j (same_packet p u q z m l)) g e =
        let c = cond_some (known p) (flagged applied (same_names (which x) (which p))) b e in
        ap (λ o. cond o (flagged applied (same_names (whose y) (whose q))) None) (names.kept p q m c.0)
        ∙ ap (λ o. flagged applied o) (names.same x p y q r m k c.0) ∙ c.1
    name_sees x v y w applied b r h k s t (seen i j same_opaque) g e = itself x v y w applied b r h k e

    pub met_sees : (want : Wanted V) (need : Wanted W) → SameWanted R want need → (v : V) (w : W) → R v w → (b : Bool) → met see which known want v ≡ Some b → met look whose named need w ≡ Some b
    met_sees want need (same_num z) v w r b e = scalar_sees A R z (see v) (look w) (views.alike v w r) b e
    met_sees want need (same_tag n) v w r b e = number_sees A R n (see v) (look w) (views.alike v w r) b e
    met_sees want need (same_bytes bs) v w r b e = bytes_sees A R bs (see v) (look w) (views.alike v w r) b e
    met_sees want need (same_exn x y applied h) v w r b e =
        let c = cond_some (known x) (name_met see which known x applied v (see v)) b e in
        ap (λ o. cond o (name_met look whose named y applied w (look w)) None) (names.kept x y h c.0)
        ∙ name_sees x v y w applied b h r c.0 (see v) (look w) (views.alike v w r) refl c.1
    met_sees want need same_never v w r b e = absurd (cc)
