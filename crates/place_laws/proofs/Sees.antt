-- Both machines see the same words alike, and so tests and turns of comparisons say the same.
use Rattle.std.specs.Prelude.{ℤ, nat_eq, not}
use Rattle.std.proofs.Common.{◌≡◌, ◌≢◌, ℕ, ◌<◌, ◌==◌, List, [], ◌∷◌, map, Option, Some, None, slice_get, cond, Bool, true, false, refl, sym, ap, ap₂, ◌∙◌, subst, arith, ⊎_elim, ◌⊎◌, inl, inr}
use Rattle.prim_meaning.specs.Meaning as mean
use Rattle.prim_meaning.specs.Meaning.{Seen, Verdict, compared, is_deep, decided, turn}
use Rattle.prim_meaning.specs.Tests as tested
use Rattle.prim_meaning.specs.Tests.{Which, Declared, OfLibrary, Wanted, Trial, same_which, same_names, along}
use Rattle.prim_meaning.specs.Strict.{scalar_met, number_met, bytes_met, flagged, met_then, name_met, met, met_at, all_met, is_seen}
use Rattle.prim_meaning.specs.Alike.{AllAlike, BothAlike, SameWhich, same_declared, same_library, SameSeen, same_scalar, same_text, same_tuple, same_applied, same_cell, same_packet, same_opaque, SameVerdict, both_equal, both_unequal, both_pairs, SameWanted, SameTrial, Views, NamesAlike}
use Rattle.prim_meaning.specs.Alike as alike
use Rattle.prim_meaning.proofs.Alike.{along_alike, turn_alike}
use Rattle.smlc_base.specs.Exceptions.{exn_number}
use Rattle.closure_ir.specs.declared.operand.Static.{Static}
use Rattle.closure_ir.specs.declared.operand.Static.TheVariants as static
use Rattle.closure_ir.specs.declared.operand.Shape.TheVariants as shape
use Rattle.closure_ir.specs.Words.{Word, Num, At, Fixed, Code, Sort, Made, Text, Pair, LastPair, Cell}
use Rattle.closure_ir.specs.Answers.{see_block, see_at, see_text, see, which, is_name, is_some_number, name_number}
use Rattle.placed_ir.specs.Arena.{Slot, cell_in, held_at}
use Rattle.place_laws.specs.Lies.{Same, same_num, same_at, same_fixed, same_code, SameAll, none_same, more_same, Heap}
use Rattle.place_laws.proofs.Heap.{is_at}
use Rattle.place_laws.proofs.Places.{eq_true, eq_false, eq_or_not, apart_cases}

pub all_alike : (homes : List ℕ) (us vs : List Word) → SameAll homes us vs → AllAlike (Same homes) us vs
all_alike homes us vs none_same = tt
all_alike homes us vs (more_same u v us' vs' s r) = (s, all_alike homes us' vs' r)

-- ---- Of what is seen alike

module _ {V W : Type 0} (A : ℕ → ℕ → Type 0) (R : V → W → Type 0) where
  pub scalar_same : (z : ℤ) (s : Seen V) (t : Seen W) → SameSeen A R s t → scalar_met z t ≡ scalar_met z s
  scalar_same z s t (same_scalar m) = refl
  scalar_same z s t (same_text bytes) = refl
  scalar_same z s t (same_tuple vs ws h) = refl
  scalar_same z s t (same_applied a b n v w h) = refl
  scalar_same z s t (same_cell a b v w g h) = refl
  scalar_same z s t (same_packet x v y w g h) = refl
  scalar_same z s t same_opaque = refl

  pub number_same : (k : ℕ) (s : Seen V) (t : Seen W) → SameSeen A R s t → number_met k t ≡ number_met k s
  number_same k s t (same_scalar m) = refl
  number_same k s t (same_text bytes) = refl
  number_same k s t (same_tuple vs ws h) = refl
  number_same k s t (same_applied a b n v w h) = refl
  number_same k s t (same_cell a b v w g h) = refl
  number_same k s t (same_packet x v y w g h) = refl
  number_same k s t same_opaque = refl

  pub bytes_same : (bs : List ℕ) (s : Seen V) (t : Seen W) → SameSeen A R s t → bytes_met bs t ≡ bytes_met bs s
  bytes_same bs s t (same_scalar m) = refl
  bytes_same bs s t (same_text bytes) = refl
  bytes_same bs s t (same_tuple vs ws h) = refl
  bytes_same bs s t (same_applied a b n v w h) = refl
  bytes_same bs s t (same_cell a b v w g h) = refl
  bytes_same bs s t (same_packet x v y w g h) = refl
  bytes_same bs s t same_opaque = refl

  pub seen_same : (s : Seen V) (t : Seen W) → SameSeen A R s t → is_seen t ≡ is_seen s
  seen_same s t (same_scalar m) = refl
  seen_same s t (same_text bytes) = refl
  seen_same s t (same_tuple vs ws h) = refl
  seen_same s t (same_applied a b n v w h) = refl
  seen_same s t (same_cell a b v w g h) = refl
  seen_same s t (same_packet x v y w g h) = refl
  seen_same s t same_opaque = refl

  deep_tuple : (vs : List V) (ws : List W) (u : Seen V) (x : Seen W) → SameSeen A R u x → is_deep (mean.Tuple ws) x ≡ is_deep (mean.Tuple vs) u
  deep_tuple vs ws u x (same_scalar m) = refl
  deep_tuple vs ws u x (same_text bytes) = refl
  deep_tuple vs ws u x (same_tuple us xs h) = refl
  deep_tuple vs ws u x (same_applied a b n v w h) = refl
  deep_tuple vs ws u x (same_cell a b v w g h) = refl
  deep_tuple vs ws u x (same_packet y v z w g h) = refl
  deep_tuple vs ws u x same_opaque = refl

  deep_applied : (a b n : ℕ) (v : V) (w : W) (u : Seen V) (x : Seen W) → SameSeen A R u x → is_deep (mean.Applied b n w) x ≡ is_deep (mean.Applied a n v) u
  deep_applied a b n v w u x (same_scalar m) = refl
  deep_applied a b n v w u x (same_text bytes) = refl
  deep_applied a b n v w u x (same_tuple us xs h) = refl
  deep_applied a b n v w u x (same_applied c d k y z h) = refl
  deep_applied a b n v w u x (same_cell c d y z g h) = refl
  deep_applied a b n v w u x (same_packet y i z j g h) = refl
  deep_applied a b n v w u x same_opaque = refl

  pub deep_same : (s : Seen V) (t : Seen W) (u : Seen V) (x : Seen W) → SameSeen A R s t → SameSeen A R u x → is_deep t x ≡ is_deep s u
  deep_same s t u x (same_scalar m) h = refl
  deep_same s t u x (same_text bytes) h = refl
  deep_same s t u x (same_tuple vs ws g) h = deep_tuple vs ws u x h
  deep_same s t u x (same_applied a b n v w g) h = deep_applied a b n v w u x h
  deep_same s t u x (same_cell a b v w f g) h = refl
  deep_same s t u x (same_packet y v z w f g) h = refl
  deep_same s t u x same_opaque h = refl

  pub decided_same : (d : Verdict V) (e : Verdict W) (t : Bool) → SameVerdict R d e → decided e t ≡ decided d t
  decided_same d e t both_equal = refl
  decided_same d e t both_unequal = refl
  decided_same d e t (both_pairs ps qs h) = refl

module _ (A : ℕ → ℕ → Type 0) (one : (a b c d : ℕ) → A a c → A b d → nat_eq c d ≡ nat_eq a b) where
  which_same : (x y z u : Which) → SameWhich A x z → SameWhich A y u → same_which z u ≡ same_which x y
  which_same x y z u (same_declared a c h) (same_declared b d g) = one a b c d h g
  which_same x y z u (same_declared a c h) (same_library n) = refl
  which_same x y z u (same_library m) (same_declared b d g) = refl
  which_same x y z u (same_library m) (same_library n) = refl

  pub names_same : (x y z u : Option Which) → BothAlike (SameWhich A) x z → BothAlike (SameWhich A) y u → same_names z u ≡ same_names x y
  names_same None y None u h g = refl
  names_same None y (Some z) u h g = absurd h
  names_same (Some x) y None u h g = absurd h
  names_same (Some x) None (Some z) None h g = refl
  names_same (Some x) None (Some z) (Some u) h g = absurd g
  names_same (Some x) (Some y) (Some z) None h g = absurd g
  names_same (Some x) (Some y) (Some z) (Some u) h g = which_same x y z u h g

-- ---- What the two machines see

module _ (homes : List ℕ) (cells : List Cell) (slots : List Slot) (h : Heap homes cells slots) where
  abbrev pub Home : ℕ → ℕ → Type 0
  Home a w = slice_get homes a ≡ Some w

  one_home : (a b w v : ℕ) → Home a w → Home b v → w ≡ v → a ≡ b
  one_home a b w v e f q = ⊎_elim (λ (k : a ≡ b). k) (λ (n : a ≢ b). absurd (by (apart_cases a b n))) (eq_or_not a b)
    where
      by : (a < b) ⊎ (b < a) → ⊥
      by (inl l) = let k = h.rising a b w v l e f in omega arith
      by (inr l) = let k = h.rising b a v w l f e in omega arith

  pub at_name : (a b w v : ℕ) → Home a w → Home b v → (w == v) ≡ (a == b)
  at_name a b w v e f =
      ⊎_elim
      (λ (k : a ≡ b). let g : Some w ≡ Some v = sym e ∙ ap (slice_get homes) k ∙ f in let q : w ≡ v = cc in eq_true w v q ∙ sym (eq_true a b k))
      (λ (n : a ≢ b). eq_false w v (λ q. n (one_home a b w v e f q)) ∙ sym (eq_false a b n))
      (eq_or_not a b)

  text_alike : (o : Option (List ℕ)) → SameSeen Home (Same homes) (see_text o) (see_text o)
  text_alike None = same_opaque
  text_alike (Some bytes) = same_text bytes

  block_alike : (a w : ℕ) (s : Sort) (us vs : List Word) → Home a w → SameAll homes us vs → SameSeen Home (Same homes) (see_block a s us) (see_block w s vs)
  block_alike a w (Made shape.Tuple) us vs e s = same_tuple us vs (all_alike homes us vs s)
  block_alike a w (Made (shape.Applied n)) us vs e none_same = same_opaque
  block_alike a w (Made (shape.Applied n)) us vs e (more_same u v us' vs' s none_same) = same_applied a w n u v s
  block_alike a w (Made (shape.Applied n)) us vs e (more_same u v us' vs' s (more_same _ _ _ _ _ _)) = same_opaque
  block_alike a w (Made shape.Cell) us vs e none_same = same_opaque
  block_alike a w (Made shape.Cell) us vs e (more_same u v us' vs' s none_same) = same_cell a w u v e s
  block_alike a w (Made shape.Cell) us vs e (more_same u v us' vs' s (more_same _ _ _ _ _ _)) = same_opaque
  block_alike a w (Made shape.Packet) us vs e none_same = same_opaque
  block_alike a w (Made shape.Packet) us vs e (more_same u v us' vs' s none_same) = same_opaque
  block_alike a w (Made shape.Packet) us vs e (more_same u v us' vs' s (more_same x y us'' vs'' r none_same)) = same_packet u x v y s r
  block_alike a w (Made shape.Packet) us vs e (more_same u v us' vs' s (more_same x y us'' vs'' r (more_same _ _ _ _ _ _))) = same_opaque
  block_alike a w (Made (shape.ExnName n)) us vs e s = same_opaque
  block_alike a w (Made (shape.ClassRecord k)) us vs e s = same_opaque
  block_alike a w (Made (shape.Closure l)) us vs e s = same_opaque
  block_alike a w (Text bytes) us vs e s = same_text bytes
  block_alike a w Pair us vs e s = same_opaque
  block_alike a w LastPair us vs e s = same_opaque

  fixed_alike : (texts : List (List ℕ)) (s : Static) → SameSeen Home (Same homes) (see texts (slice_get cells) (Fixed s)) (see texts (held_at slots) (Fixed s))
  fixed_alike texts (static.Function l) = same_opaque
  fixed_alike texts (static.Text t) = text_alike (slice_get texts t)
  fixed_alike texts (static.Library x) = same_opaque

  -- what is said of a block is said of it in the arena
  pub at_block : (P : Option Cell → Option Cell → Type 0) (a w : ℕ) → Home a w → ((s : Sort) (us vs : List Word) → SameAll homes us vs → P (Some (record { sort = s; fields = us })) (Some (record { sort = s; fields = vs }))) → P (slice_get cells a) (held_at slots w)
  at_block P a w e f =
      let p = is_at homes cells slots a w h e in
      subst (λ (o : Option Cell). P o (held_at slots w)) (sym p.there)
      (subst (λ (o : Option Slot). P (Some p.cell) (cell_in o)) (sym p.stands) (f p.cell.sort p.cell.fields p.fields p.same))

  pub word_alike : (texts : List (List ℕ)) (u v : Word) → Same homes u v → SameSeen Home (Same homes) (see texts (slice_get cells) u) (see texts (held_at slots) v)
  word_alike texts u v (same_num n) = same_scalar n
  word_alike texts u v (same_fixed s) = fixed_alike texts s
  word_alike texts u v (same_code l) = same_opaque
  word_alike texts u v (same_at a w e) = at_block (λ o q. SameSeen Home (Same homes) (see_at a o) (see_at w q)) a w e (λ s us vs r. block_alike a w s us vs e r)

  -- nothing but this is asked of two machines
  pub words_alike : (texts : List (List ℕ)) → Views Home (Same homes) (see texts (slice_get cells)) (see texts (held_at slots))
  words_alike texts = record { one_to_one = λ a b c d e f. at_name a b c d e f; alike = word_alike texts }

  pub names_alike : NamesAlike Home (Same homes) which which
  names_alike u v (same_num n) = tt
  names_alike u v (same_at a w e) = same_declared a w e
  names_alike u v (same_fixed (static.Function l)) = tt
  names_alike u v (same_fixed (static.Text t)) = tt
  names_alike u v (same_fixed (static.Library x)) = same_library (exn_number x)
  names_alike u v (same_code l) = tt

  pub name_number_same : (a w : ℕ) → Home a w → name_number (held_at slots w) ≡ name_number (slice_get cells a)
  name_number_same a w e = at_block (λ o q. name_number q ≡ name_number o) a w e (λ s us vs r. refl)

  pub is_name_same : (u v : Word) → Same homes u v → is_name (held_at slots) v ≡ is_name (slice_get cells) u
  is_name_same u v (same_num n) = refl
  is_name_same u v (same_at a w e) = ap is_some_number (name_number_same a w e)
  is_name_same u v (same_fixed (static.Function l)) = refl
  is_name_same u v (same_fixed (static.Text t)) = refl
  is_name_same u v (same_fixed (static.Library x)) = refl
  is_name_same u v (same_code l) = refl

  -- ---- Tests

  module _ (texts : List (List ℕ)) where
    abbrev Left : Word → Seen Word
    Left = see texts (slice_get cells)

    abbrev Right : Word → Seen Word
    Right = see texts (held_at slots)

    abbrev Known : Word → Bool
    Known = is_name (slice_get cells)

    abbrev Named : Word → Bool
    Named = is_name (held_at slots)

    same_which_of : (x y u v : Word) → Same homes x u → Same homes y v → same_names (which u) (which v) ≡ same_names (which x) (which y)
    same_which_of x y u v s r = names_same Home (λ a b c d e f. at_name a b c d e f) (which x) (which y) (which u) (which v) (names_alike x u s) (names_alike y v r)

    -- the flag by itself
    bare_same : (applied : Bool) (x y u v : Word) → Same homes x u → Same homes y v → cond (Named v) (flagged (not applied) (same_names (which u) (which v))) None ≡ cond (Known y) (flagged (not applied) (same_names (which x) (which y))) None
    bare_same applied x y u v s r =
        ap₂ (λ b c. cond b (flagged (not applied) c) None) (is_name_same y v r) (same_which_of x y u v s r)

    name_met_same : (applied : Bool) (x y u v : Word) → Same homes x u → Same homes y v → (s : Seen Word) (t : Seen Word) → SameSeen Home (Same homes) s t → name_met Right which Named u applied v t ≡ name_met Left which Known x applied y s
    name_met_same applied x y u v s r _ _ (same_scalar m) = bare_same applied x y u v s r
    name_met_same applied x y u v s r _ _ (same_text bytes) = bare_same applied x y u v s r
    name_met_same applied x y u v s r _ _ (same_tuple vs ws g) = bare_same applied x y u v s r
    name_met_same applied x y u v s r _ _ (same_applied a b n i j g) = bare_same applied x y u v s r
    name_met_same applied x y u v s r _ _ (same_cell a b i j f g) = bare_same applied x y u v s r
    name_met_same applied x y u v s r _ _ (same_packet z i w j g k) =
        ap₂ (λ b c. cond b (flagged applied c) None) (is_name_same z w g) (same_which_of x z u w s g)
    name_met_same applied x y u v s r _ _ same_opaque = bare_same applied x y u v s r

    met_same : (want : Wanted Word) (need : Wanted Word) (u v : Word) → SameWanted (Same homes) want need → Same homes u v → met Right which Named need v ≡ met Left which Known want u
    met_same want need u v (alike.same_num z) r = scalar_same Home (Same homes) z (Left u) (Right v) (word_alike texts u v r)
    met_same want need u v (alike.same_tag n) r = number_same Home (Same homes) n (Left u) (Right v) (word_alike texts u v r)
    met_same want need u v (alike.same_bytes bs) r = bytes_same Home (Same homes) bs (Left u) (Right v) (word_alike texts u v r)
    met_same want need u v alike.same_never r = refl
    met_same want need u v (alike.same_exn x y applied s) r =
        ap₂ (λ b o. cond b o None) (is_name_same x y s) (name_met_same applied x u y v s r (Left u) (Right v) (word_alike texts u v r))

    pub met_at_same : (want : Wanted Word) (need : Wanted Word) (o q : Option Word) → SameWanted (Same homes) want need → BothAlike (Same homes) o q → met_at Right which Named need q ≡ met_at Left which Known want o
    met_at_same want need None None s r = refl
    met_at_same want need None (Some v) s r = absurd r
    met_at_same want need (Some u) None s r = absurd r
    met_at_same want need (Some u) (Some v) s r = met_same want need u v s r

    -- ---- Comparisons

    pub both_seen_same : (u v : Word) → Same homes u v → is_seen (Right v) ≡ is_seen (Left u)
    both_seen_same u v r = seen_same Home (Same homes) (Left u) (Right v) (word_alike texts u v r)

    pub both_deep_same : (u v x y : Word) → Same homes u v → Same homes x y → is_deep (Right v) (Right y) ≡ is_deep (Left u) (Left x)
    both_deep_same u v x y r s = deep_same Home (Same homes) (Left u) (Right v) (Left x) (Right y) (word_alike texts u v r) (word_alike texts x y s)

    pub turn_same : (u v x y : Word) → Same homes u v → Same homes x y → SameVerdict (Same homes) (turn Left u x) (turn Right v y)
    turn_same u v x y r s = turn_alike Home (Same homes) Left Right (words_alike texts) u x v y r s
