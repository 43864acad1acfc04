-- Naturality: machines that see related values alike come to related outcomes, and choose the same case.
use Rattle.std.proofs.Common.{◌≡◌, ℕ, zero, suc, Bool, true, false, List, [], ◌∷◌, map, Option, Some, None, refl, sym, ap, ◌∙◌, subst}
use Rattle.std.specs.Prelude.{ℤ, nat_eq, cond, ◌&&◌, slice_get, zip, bytes_eq}
use Rattle.std.specs.Ordering.{int_eq}
use Rattle.smlc_base.specs.declared.primitive.Primitive.{Primitive}
use Rattle.smlc_base.specs.declared.match_tests.Named.{Named}
use Rattle.smlc_base.specs.declared.match_tests.RuleTests.{RuleTests}
use Rattle.smlc_base.specs.declared.match_tests.Test.{Test}
use Rattle.smlc_base.specs.declared.match_tests.Want.{Want}
use Rattle.smlc_base.specs.declared.match_tests.Want.TheVariants as want
use Rattle.prim_meaning.specs.Data.{Plain, AString, plain, truth}
use Rattle.prim_meaning.specs.Meaning.{Seen, Tuple, Applied, Comes, Compares, Verdict, Unequal, AsPairs, verdict, compared, is_deep, decided, datum, Kind, OfData, Derefs, AssignsTo, Implodes, IsEqual, kind_of, arguments, plainly, deref, assign, pair_in, cons_in, letter_in, consed, on_pair, on_cons, letters_from, letters, imploded, equals, by_kind, meaning, turn}
use Rattle.prim_meaning.specs.Tests.{Case, Scope, Trial, Wanted, Which, all_hold, along, bytes_wanted, case_of, chosen, chosen_or, field_at, fields_in, first_case, has_bytes, has_number, holds_at, is_packet_of, is_scalar, is_wanted, name_in, name_wanted, read, read_one, same_names, same_which, trial, wanted}
use Rattle.prim_meaning.specs.Alike.{AllAlike, BothAlike, Answers, PairAlike, BoundAlike, ChoiceAlike, SameWhich, same_declared, same_library, SameSeen, same_scalar, same_text, same_tuple, same_applied, same_cell, same_packet, same_opaque, SameOutcome, same_comes, same_gives, same_assigns, same_compares, SameVerdict, both_equal, both_unequal, both_pairs, SameWanted, same_num, same_tag, same_bytes, same_exn, same_never, SameTrial, SameCase, Views, NamesAlike, ScopesAlike}

-- ---- Lists and options

pub get_alike : {X Y : Type 0} (R : X → Y → Type 0) (xs : List X) (ys : List Y) (i : ℕ) → AllAlike R xs ys → BothAlike R (slice_get xs i) (slice_get ys i)
get_alike R [] [] i h = tt
get_alike R [] (y ∷ ys) i h = absurd h
get_alike R (x ∷ xs) [] i h = absurd h
get_alike R (x ∷ xs) (y ∷ ys) zero h = h.0
get_alike R (x ∷ xs) (y ∷ ys) (suc i) h = get_alike R xs ys i h.1

pub zip_alike : {X Y : Type 0} (R : X → Y → Type 0) (us vs : List X) (ws xs : List Y) → AllAlike R us ws → AllAlike R vs xs → AllAlike (PairAlike R) (zip us vs) (zip ws xs)
zip_alike R [] vs [] xs h g = tt
zip_alike R [] vs (w ∷ ws) xs h g = absurd h
zip_alike R (u ∷ us) vs [] xs h g = absurd h
zip_alike R (u ∷ us) [] (w ∷ ws) [] h g = tt
zip_alike R (u ∷ us) [] (w ∷ ws) (x ∷ xs) h g = absurd g
zip_alike R (u ∷ us) (v ∷ vs) (w ∷ ws) [] h g = absurd g
zip_alike R (u ∷ us) (v ∷ vs) (w ∷ ws) (x ∷ xs) h g = ((h.0, g.0), zip_alike R us vs ws xs h.1 g.1)

pub answers_of_both : {X Y : Type 0} (R : X → Y → Type 0) (o : Option X) (q : Option Y) → BothAlike R o q → Answers R o q
answers_of_both R None q h = tt
answers_of_both R (Some x) None h = h
answers_of_both R (Some x) (Some y) h = h

-- the second's answer
pub answer_of : {X Y : Type 0} (R : X → Y → Type 0) (x : X) (o : Option X) (q : Option Y) → o ≡ Some x → Answers R o q → (y : Y) × (q ≡ Some y) × R x y
answer_of R x None q e h = absurd (cc)
answer_of R x (Some z) None e h = absurd h
answer_of R x (Some z) (Some y) e h = (y, refl, (let k : z ≡ x = cc in subst (λ u. R u y) k h))

module _ {V W : Type 0} (A : ℕ → ℕ → Type 0) (R : V → W → Type 0) where
  -- ---- What is seen

  datum_alike : (s : Seen V) (t : Seen W) → SameSeen A R s t → datum t ≡ datum s
  datum_alike s t (same_scalar z) = refl
  datum_alike s t (same_text bytes) = refl
  datum_alike s t (same_tuple vs ws h) = refl
  datum_alike s t (same_applied a b n v w h) = refl
  datum_alike s t (same_cell a b v w g h) = refl
  datum_alike s t (same_packet x v y w g h) = refl
  datum_alike s t same_opaque = refl

  fields_alike : (s : Seen V) (t : Seen W) → SameSeen A R s t → AllAlike R (fields_in s) (fields_in t)
  fields_alike s t (same_scalar z) = tt
  fields_alike s t (same_text bytes) = tt
  fields_alike s t (same_tuple vs ws h) = h
  fields_alike s t (same_applied a b n v w h) = (h, tt)
  fields_alike s t (same_cell a b v w g h) = (h, tt)
  fields_alike s t (same_packet x v y w g h) = (g, (h, tt))
  fields_alike s t same_opaque = tt

  cons_alike : (s : Seen V) (t : Seen W) → SameSeen A R s t → BothAlike R (cons_in s) (cons_in t)
  cons_alike s t (same_scalar z) = tt
  cons_alike s t (same_text bytes) = tt
  cons_alike s t (same_tuple vs ws h) = tt
  cons_alike s t (same_applied a b n v w h) = go (nat_eq n 1)
    where
      go : (q : Bool) → BothAlike R (cond q (Some v) None) (cond q (Some w) None)
      go true = h
      go false = tt
  cons_alike s t (same_cell a b v w g h) = tt
  cons_alike s t (same_packet x v y w g h) = tt
  cons_alike s t same_opaque = tt

  pair_alike : (s : Seen V) (t : Seen W) → SameSeen A R s t → BothAlike (PairAlike R) (pair_in s) (pair_in t)
  pair_alike s t (same_scalar z) = tt
  pair_alike s t (same_text bytes) = tt
  pair_alike s t (same_tuple vs ws h) = go vs ws h
    where
      go : (vs : List V) (ws : List W) → AllAlike R vs ws → BothAlike (PairAlike R) (pair_in (Tuple vs)) (pair_in (Tuple ws))
      go [] [] h = tt
      go [] (w ∷ ws) h = absurd h
      go (v ∷ vs) [] h = absurd h
      go (v ∷ []) (w ∷ []) h = tt
      go (v ∷ []) (w ∷ x ∷ ws) h = absurd h.1
      go (v ∷ u ∷ vs) (w ∷ []) h = absurd h.1
      go (v ∷ u ∷ []) (w ∷ x ∷ []) h = (h.0, h.1.0)
      go (v ∷ u ∷ []) (w ∷ x ∷ y ∷ ws) h = absurd h.1.1
      go (v ∷ u ∷ z ∷ vs) (w ∷ x ∷ []) h = absurd h.1.1
      go (v ∷ u ∷ z ∷ vs) (w ∷ x ∷ y ∷ ws) h = tt
  pair_alike s t (same_applied a b n v w h) = tt
  pair_alike s t (same_cell a b v w g h) = tt
  pair_alike s t (same_packet x v y w g h) = tt
  pair_alike s t same_opaque = tt

  letter_alike : (s : Seen V) (t : Seen W) → SameSeen A R s t → letter_in t ≡ letter_in s
  letter_alike s t (same_scalar z) = refl
  letter_alike s t (same_text bytes) = refl
  letter_alike s t (same_tuple vs ws h) = refl
  letter_alike s t (same_applied a b n v w h) = refl
  letter_alike s t (same_cell a b v w g h) = refl
  letter_alike s t (same_packet x v y w g h) = refl
  letter_alike s t same_opaque = refl

  deref_alike : (s : Seen V) (t : Seen W) → SameSeen A R s t → BothAlike (SameOutcome A R) (deref s) (deref t)
  deref_alike s t (same_scalar z) = tt
  deref_alike s t (same_text bytes) = tt
  deref_alike s t (same_tuple vs ws h) = tt
  deref_alike s t (same_applied a b n v w h) = tt
  deref_alike s t (same_cell a b v w g h) = same_gives v w h
  deref_alike s t (same_packet x v y w g h) = tt
  deref_alike s t same_opaque = tt

  assign_alike : (s : Seen V) (t : Seen W) (u : V) (x : W) → SameSeen A R s t → R u x → BothAlike (SameOutcome A R) (assign s u) (assign t x)
  assign_alike s t u x (same_scalar z) r = tt
  assign_alike s t u x (same_text bytes) r = tt
  assign_alike s t u x (same_tuple vs ws h) r = tt
  assign_alike s t u x (same_applied a b n v w h) r = tt
  assign_alike s t u x (same_cell a b v w g h) r = same_assigns a b u x g r
  assign_alike s t u x (same_packet y v z w g h) r = tt
  assign_alike s t u x same_opaque r = tt

  -- ---- Comparisons

  verdict_alike : (q : Bool) → SameVerdict R (verdict q) (verdict q)
  verdict_alike true = both_equal
  verdict_alike false = both_unequal

  by_numbers : (q : Bool) (ps : List (V × V)) (qs : List (W × W)) → AllAlike (PairAlike R) ps qs → SameVerdict R (cond q (AsPairs ps) Unequal) (cond q (AsPairs qs) Unequal)
  by_numbers true ps qs h = both_pairs ps qs h
  by_numbers false ps qs h = both_unequal

  decided_alike : (x : Verdict V) (y : Verdict W) (t : Bool) → SameVerdict R x y → decided y t ≡ decided x t
  decided_alike x y t both_equal = refl
  decided_alike x y t both_unequal = refl
  decided_alike x y t (both_pairs ps qs h) = refl

  abbrev OneToOne : Type 0
  OneToOne = (a b c d : ℕ) → A a c → A b d → nat_eq c d ≡ nat_eq a b

  compared_alike : OneToOne → (s : Seen V) (t : Seen W) (u : Seen V) (x : Seen W) → SameSeen A R s t → SameSeen A R u x → SameVerdict R (compared s u) (compared t x)
  compared_alike one s t u x (same_scalar z1) (same_scalar z2) = verdict_alike (int_eq z1 z2)
  compared_alike one s t u x (same_scalar z1) (same_text bs2) = both_unequal
  compared_alike one s t u x (same_scalar z1) (same_tuple vs2 ws2 h2) = both_unequal
  compared_alike one s t u x (same_scalar z1) (same_applied a2 b2 n2 v2 w2 h2) = both_unequal
  compared_alike one s t u x (same_scalar z1) (same_cell a2 b2 v2 w2 g2 h2) = both_unequal
  compared_alike one s t u x (same_scalar z1) (same_packet x2 v2 y2 w2 g2 h2) = both_unequal
  compared_alike one s t u x (same_scalar z1) same_opaque = both_unequal
  compared_alike one s t u x (same_text bs1) (same_scalar z2) = both_unequal
  compared_alike one s t u x (same_text bs1) (same_text bs2) = verdict_alike (bytes_eq bs1 bs2)
  compared_alike one s t u x (same_text bs1) (same_tuple vs2 ws2 h2) = both_unequal
  compared_alike one s t u x (same_text bs1) (same_applied a2 b2 n2 v2 w2 h2) = both_unequal
  compared_alike one s t u x (same_text bs1) (same_cell a2 b2 v2 w2 g2 h2) = both_unequal
  compared_alike one s t u x (same_text bs1) (same_packet x2 v2 y2 w2 g2 h2) = both_unequal
  compared_alike one s t u x (same_text bs1) same_opaque = both_unequal
  compared_alike one s t u x (same_tuple vs1 ws1 h1) (same_scalar z2) = both_unequal
  compared_alike one s t u x (same_tuple vs1 ws1 h1) (same_text bs2) = both_unequal
  compared_alike one s t u x (same_tuple vs1 ws1 h1) (same_tuple vs2 ws2 h2) = both_pairs (zip vs1 vs2) (zip ws1 ws2) (zip_alike R vs1 vs2 ws1 ws2 h1 h2)
  compared_alike one s t u x (same_tuple vs1 ws1 h1) (same_applied a2 b2 n2 v2 w2 h2) = both_unequal
  compared_alike one s t u x (same_tuple vs1 ws1 h1) (same_cell a2 b2 v2 w2 g2 h2) = both_unequal
  compared_alike one s t u x (same_tuple vs1 ws1 h1) (same_packet x2 v2 y2 w2 g2 h2) = both_unequal
  compared_alike one s t u x (same_tuple vs1 ws1 h1) same_opaque = both_unequal
  compared_alike one s t u x (same_applied a1 b1 n1 v1 w1 h1) (same_scalar z2) = both_unequal
  compared_alike one s t u x (same_applied a1 b1 n1 v1 w1 h1) (same_text bs2) = both_unequal
  compared_alike one s t u x (same_applied a1 b1 n1 v1 w1 h1) (same_tuple vs2 ws2 h2) = both_unequal
  compared_alike one s t u x (same_applied a1 b1 n1 v1 w1 h1) (same_applied a2 b2 n2 v2 w2 h2) = by_numbers (nat_eq n1 n2) ((v1, v2) ∷ []) ((w1, w2) ∷ []) ((h1, h2), tt)
  compared_alike one s t u x (same_applied a1 b1 n1 v1 w1 h1) (same_cell a2 b2 v2 w2 g2 h2) = both_unequal
  compared_alike one s t u x (same_applied a1 b1 n1 v1 w1 h1) (same_packet x2 v2 y2 w2 g2 h2) = both_unequal
  compared_alike one s t u x (same_applied a1 b1 n1 v1 w1 h1) same_opaque = both_unequal
  compared_alike one s t u x (same_cell a1 b1 v1 w1 g1 h1) (same_scalar z2) = both_unequal
  compared_alike one s t u x (same_cell a1 b1 v1 w1 g1 h1) (same_text bs2) = both_unequal
  compared_alike one s t u x (same_cell a1 b1 v1 w1 g1 h1) (same_tuple vs2 ws2 h2) = both_unequal
  compared_alike one s t u x (same_cell a1 b1 v1 w1 g1 h1) (same_applied a2 b2 n2 v2 w2 h2) = both_unequal
  compared_alike one s t u x (same_cell a1 b1 v1 w1 g1 h1) (same_cell a2 b2 v2 w2 g2 h2) = subst (λ q. SameVerdict R (verdict (nat_eq a1 a2)) (verdict q)) (sym (one a1 a2 b1 b2 g1 g2)) (verdict_alike (nat_eq a1 a2))
  compared_alike one s t u x (same_cell a1 b1 v1 w1 g1 h1) (same_packet x2 v2 y2 w2 g2 h2) = both_unequal
  compared_alike one s t u x (same_cell a1 b1 v1 w1 g1 h1) same_opaque = both_unequal
  compared_alike one s t u x (same_packet x1 v1 y1 w1 g1 h1) (same_scalar z2) = both_unequal
  compared_alike one s t u x (same_packet x1 v1 y1 w1 g1 h1) (same_text bs2) = both_unequal
  compared_alike one s t u x (same_packet x1 v1 y1 w1 g1 h1) (same_tuple vs2 ws2 h2) = both_unequal
  compared_alike one s t u x (same_packet x1 v1 y1 w1 g1 h1) (same_applied a2 b2 n2 v2 w2 h2) = both_unequal
  compared_alike one s t u x (same_packet x1 v1 y1 w1 g1 h1) (same_cell a2 b2 v2 w2 g2 h2) = both_unequal
  compared_alike one s t u x (same_packet x1 v1 y1 w1 g1 h1) (same_packet x2 v2 y2 w2 g2 h2) = both_unequal
  compared_alike one s t u x (same_packet x1 v1 y1 w1 g1 h1) same_opaque = both_unequal
  compared_alike one s t u x same_opaque (same_scalar z2) = both_unequal
  compared_alike one s t u x same_opaque (same_text bs2) = both_unequal
  compared_alike one s t u x same_opaque (same_tuple vs2 ws2 h2) = both_unequal
  compared_alike one s t u x same_opaque (same_applied a2 b2 n2 v2 w2 h2) = both_unequal
  compared_alike one s t u x same_opaque (same_cell a2 b2 v2 w2 g2 h2) = both_unequal
  compared_alike one s t u x same_opaque (same_packet x2 v2 y2 w2 g2 h2) = both_unequal
  compared_alike one s t u x same_opaque same_opaque = both_unequal

  deep_alike : (s : Seen V) (t : Seen W) (u : Seen V) (x : Seen W) → SameSeen A R s t → SameSeen A R u x → is_deep t x ≡ is_deep s u
  deep_alike s t u x (same_scalar z1) h = refl
  deep_alike s t u x (same_text bs1) h = refl
  deep_alike s t u x (same_tuple vs1 ws1 h1) (same_scalar z2) = refl
  deep_alike s t u x (same_tuple vs1 ws1 h1) (same_text bs2) = refl
  deep_alike s t u x (same_tuple vs1 ws1 h1) (same_tuple vs2 ws2 h2) = refl
  deep_alike s t u x (same_tuple vs1 ws1 h1) (same_applied a2 b2 n2 v2 w2 h2) = refl
  deep_alike s t u x (same_tuple vs1 ws1 h1) (same_cell a2 b2 v2 w2 g2 h2) = refl
  deep_alike s t u x (same_tuple vs1 ws1 h1) (same_packet x2 v2 y2 w2 g2 h2) = refl
  deep_alike s t u x (same_tuple vs1 ws1 h1) same_opaque = refl
  deep_alike s t u x (same_applied a1 b1 n1 v1 w1 h1) (same_scalar z2) = refl
  deep_alike s t u x (same_applied a1 b1 n1 v1 w1 h1) (same_text bs2) = refl
  deep_alike s t u x (same_applied a1 b1 n1 v1 w1 h1) (same_tuple vs2 ws2 h2) = refl
  deep_alike s t u x (same_applied a1 b1 n1 v1 w1 h1) (same_applied a2 b2 n2 v2 w2 h2) = refl
  deep_alike s t u x (same_applied a1 b1 n1 v1 w1 h1) (same_cell a2 b2 v2 w2 g2 h2) = refl
  deep_alike s t u x (same_applied a1 b1 n1 v1 w1 h1) (same_packet x2 v2 y2 w2 g2 h2) = refl
  deep_alike s t u x (same_applied a1 b1 n1 v1 w1 h1) same_opaque = refl
  deep_alike s t u x (same_cell a1 b1 v1 w1 g1 h1) h = refl
  deep_alike s t u x (same_packet x1 v1 y1 w1 g1 h1) h = refl
  deep_alike s t u x same_opaque h = refl

  which_alike : OneToOne → (x y z u : Which) → SameWhich A x z → SameWhich A y u → same_which z u ≡ same_which x y
  which_alike one x y z u (same_declared a c h) (same_declared b d g) = one a b c d h g
  which_alike one x y z u (same_declared a c h) (same_library n) = refl
  which_alike one x y z u (same_library m) (same_declared b d g) = refl
  which_alike one x y z u (same_library m) (same_library n) = refl

  names_alike : OneToOne → (x y : Option Which) (z u : Option Which) → BothAlike (SameWhich A) x z → BothAlike (SameWhich A) y u → same_names z u ≡ same_names x y
  names_alike one None y None u h g = refl
  names_alike one None y (Some z) u h g = absurd h
  names_alike one (Some x) y None u h g = absurd h
  names_alike one (Some x) None (Some z) None h g = refl
  names_alike one (Some x) None (Some z) (Some u) h g = absurd g
  names_alike one (Some x) (Some y) (Some z) None h g = absurd g
  names_alike one (Some x) (Some y) (Some z) (Some u) h g = which_alike one x y z u h g

  number_alike : (n : ℕ) (s : Seen V) (t : Seen W) → SameSeen A R s t → has_number n t ≡ has_number n s
  number_alike n s t (same_scalar z1) = refl
  number_alike n s t (same_text bs1) = refl
  number_alike n s t (same_tuple vs1 ws1 h1) = refl
  number_alike n s t (same_applied a1 b1 n1 v1 w1 h1) = refl
  number_alike n s t (same_cell a1 b1 v1 w1 g1 h1) = refl
  number_alike n s t (same_packet x1 v1 y1 w1 g1 h1) = refl
  number_alike n s t same_opaque = refl

  scalar_alike : (n : ℤ) (s : Seen V) (t : Seen W) → SameSeen A R s t → is_scalar n t ≡ is_scalar n s
  scalar_alike n s t (same_scalar z1) = refl
  scalar_alike n s t (same_text bs1) = refl
  scalar_alike n s t (same_tuple vs1 ws1 h1) = refl
  scalar_alike n s t (same_applied a1 b1 n1 v1 w1 h1) = refl
  scalar_alike n s t (same_cell a1 b1 v1 w1 g1 h1) = refl
  scalar_alike n s t (same_packet x1 v1 y1 w1 g1 h1) = refl
  scalar_alike n s t same_opaque = refl

  bytes_alike : (n : List ℕ) (s : Seen V) (t : Seen W) → SameSeen A R s t → has_bytes n t ≡ has_bytes n s
  bytes_alike n s t (same_scalar z1) = refl
  bytes_alike n s t (same_text bs1) = refl
  bytes_alike n s t (same_tuple vs1 ws1 h1) = refl
  bytes_alike n s t (same_applied a1 b1 n1 v1 w1 h1) = refl
  bytes_alike n s t (same_cell a1 b1 v1 w1 g1 h1) = refl
  bytes_alike n s t (same_packet x1 v1 y1 w1 g1 h1) = refl
  bytes_alike n s t same_opaque = refl

module _ {V W : Type 0} (A : ℕ → ℕ → Type 0) (R : V → W → Type 0) (see : V → Seen V) (look : W → Seen W) (views : Views A R see look) where
  one : (a b c d : ℕ) → A a c → A b d → nat_eq c d ≡ nat_eq a b
  one = views.one_to_one

  -- one turn of a comparison
  pub turn_alike : (v u : V) (w x : W) → R v w → R u x → SameVerdict R (turn see v u) (turn look w x)
  turn_alike v u w x h g = compared_alike A R one (see v) (look w) (see u) (look x) (views.alike v w h) (views.alike u x g)

  equals_alike : (v u : V) (w x : W) (t : Bool) → R v w → R u x → SameOutcome A R (equals see v u t) (equals look w x t)
  equals_alike v u w x t h g =
      subst (λ q. SameOutcome A R (equals see v u t) (cond q (Compares w x t) (Comes (truth (decided (compared (look w) (look x)) t))))) (sym (deep_alike A R (see v) (look w) (see u) (look x) (views.alike v w h) (views.alike u x g)))
      (subst (λ q. SameOutcome A R (equals see v u t) (cond (is_deep (see v) (see u)) (Compares w x t) (Comes (truth q)))) (sym (decided_alike A R (compared (see v) (see u)) (compared (look w) (look x)) t (turn_alike v u w x h g)))
      (go (is_deep (see v) (see u)) (decided (compared (see v) (see u)) t)))
    where
      go : (q r : Bool) → SameOutcome A R (cond q (Compares v u t) (Comes (truth r))) (cond q (Compares w x t) (Comes (truth r)))
      go true r = same_compares v u w x t h g
      go false r = same_comes (truth r)

  -- ---- Lists of characters

  on_pair_alike : (f : V → Option (List ℕ)) (g : W → Option (List ℕ)) → ((u : V) (x : W) → R u x → g x ≡ f u) → (o : Option (V × V)) (q : Option (W × W)) → BothAlike (PairAlike R) o q → on_pair look g q ≡ on_pair see f o
  on_pair_alike f g rest None None h = refl
  on_pair_alike f g rest None (Some p) h = absurd h
  on_pair_alike f g rest (Some p) None h = absurd h
  on_pair_alike f g rest (Some p) (Some q) h =
      ap (λ c. consed c (g q.1)) (letter_alike A R (see p.0) (look q.0) (views.alike p.0 q.0 h.0)) ∙ ap (consed (letter_in (see p.0))) (rest p.1 q.1 h.1)

  on_cons_alike : (f : V → Option (List ℕ)) (g : W → Option (List ℕ)) → ((u : V) (x : W) → R u x → g x ≡ f u) → (o : Option V) (q : Option W) → BothAlike R o q → on_cons look g q ≡ on_cons see f o
  on_cons_alike f g rest None None h = refl
  on_cons_alike f g rest None (Some p) h = absurd h
  on_cons_alike f g rest (Some p) None h = absurd h
  on_cons_alike f g rest (Some p) (Some q) h = on_pair_alike f g rest (pair_in (see p)) (pair_in (look q)) (pair_alike A R (see p) (look q) (views.alike p q h))

  from_alike : (f : V → Option (List ℕ)) (g : W → Option (List ℕ)) → ((u : V) (x : W) → R u x → g x ≡ f u) → (s : Seen V) (t : Seen W) → SameSeen A R s t → letters_from look g t ≡ letters_from see f s
  from_alike f g rest s t (same_scalar z) = refl
  from_alike f g rest s t (same_text bytes) = refl
  from_alike f g rest s t (same_tuple vs ws h) = refl
  from_alike f g rest s t (same_applied a b n v w h) =
      on_cons_alike f g rest (cons_in (Applied a n v)) (cons_in (Applied b n w)) (cons_alike A R (Applied a n v) (Applied b n w) (same_applied a b n v w h))
  from_alike f g rest s t (same_cell a b v w k h) = refl
  from_alike f g rest s t (same_packet x v y w k h) = refl
  from_alike f g rest s t same_opaque = refl

  pub letters_alike : (n : ℕ) (v : V) (w : W) → R v w → letters look n w ≡ letters see n v
  letters_alike zero v w h = refl
  letters_alike (suc n) v w h =
      from_alike (letters see n) (letters look n) (λ u x r. letters_alike n u x r) (see v) (look w) (views.alike v w h)

  -- ---- Primitives

  data_alike : (vs : List V) (ws : List W) → AllAlike R vs ws → map (λ w. datum (look w)) ws ≡ map (λ v. datum (see v)) vs
  data_alike [] [] h = refl
  data_alike [] (w ∷ ws) h = absurd h
  data_alike (v ∷ vs) [] h = absurd h
  data_alike (v ∷ vs) (w ∷ ws) h =
      ap (λ d. d ∷ map (λ w. datum (look w)) ws) (datum_alike A R (see v) (look w) (views.alike v w h.0)) ∙ ap (λ ds. datum (see v) ∷ ds) (data_alike vs ws h.1)

  plainly_alike : (o : Option Plain) → BothAlike (SameOutcome A R) (plainly o) (plainly o)
  plainly_alike None = tt
  plainly_alike (Some r) = same_comes r

  imploded_alike : (o : Option (List ℕ)) → BothAlike (SameOutcome A R) (imploded see o) (imploded look o)
  imploded_alike None = tt
  imploded_alike (Some bytes) = same_comes (AString bytes)

  pub by_kind_alike : (most : ℕ) (input : List ℕ) (f : Primitive) (kind : Kind) (vs : List V) (ws : List W) → AllAlike R vs ws → BothAlike (SameOutcome A R) (by_kind see most input f kind vs) (by_kind look most input f kind ws)
  by_kind_alike most input f OfData vs ws h =
      subst (λ ds. BothAlike (SameOutcome A R) (by_kind see most input f OfData vs) (plainly (plain input f ds))) (sym (data_alike vs ws h)) (plainly_alike (plain input f (map (λ v. datum (see v)) vs)))
  by_kind_alike most input f Derefs [] [] h = tt
  by_kind_alike most input f Derefs [] (w ∷ ws) h = absurd h
  by_kind_alike most input f Derefs (v ∷ vs) [] h = absurd h
  by_kind_alike most input f Derefs (v ∷ []) (w ∷ []) h = deref_alike A R (see v) (look w) (views.alike v w h.0)
  by_kind_alike most input f Derefs (v ∷ []) (w ∷ x ∷ ws) h = absurd h.1
  by_kind_alike most input f Derefs (v ∷ u ∷ vs) (w ∷ []) h = absurd h.1
  by_kind_alike most input f Derefs (v ∷ u ∷ vs) (w ∷ x ∷ ws) h = tt
  by_kind_alike most input f Implodes [] [] h = tt
  by_kind_alike most input f Implodes [] (w ∷ ws) h = absurd h
  by_kind_alike most input f Implodes (v ∷ vs) [] h = absurd h
  by_kind_alike most input f Implodes (v ∷ []) (w ∷ []) h =
      subst (λ o. BothAlike (SameOutcome A R) (imploded see (letters see (suc most) v)) (imploded look o)) (sym (letters_alike (suc most) v w h.0)) (imploded_alike (letters see (suc most) v))
  by_kind_alike most input f Implodes (v ∷ []) (w ∷ x ∷ ws) h = absurd h.1
  by_kind_alike most input f Implodes (v ∷ u ∷ vs) (w ∷ []) h = absurd h.1
  by_kind_alike most input f Implodes (v ∷ u ∷ vs) (w ∷ x ∷ ws) h = tt
  by_kind_alike most input f AssignsTo [] [] h = tt
  by_kind_alike most input f AssignsTo [] (w ∷ ws) h = absurd h
  by_kind_alike most input f AssignsTo (v ∷ vs) [] h = absurd h
  by_kind_alike most input f AssignsTo (v ∷ []) (w ∷ []) h = tt
  by_kind_alike most input f AssignsTo (v ∷ []) (w ∷ x ∷ ws) h = absurd h.1
  by_kind_alike most input f AssignsTo (v ∷ u ∷ vs) (w ∷ []) h = absurd h.1
  by_kind_alike most input f AssignsTo (v ∷ u ∷ []) (w ∷ x ∷ []) h = assign_alike A R (see v) (look w) u x (views.alike v w h.0) h.1.0
  by_kind_alike most input f AssignsTo (v ∷ u ∷ []) (w ∷ x ∷ y ∷ ws) h = absurd h.1.1
  by_kind_alike most input f AssignsTo (v ∷ u ∷ z ∷ vs) (w ∷ x ∷ []) h = absurd h.1.1
  by_kind_alike most input f AssignsTo (v ∷ u ∷ z ∷ vs) (w ∷ x ∷ y ∷ ws) h = tt
  by_kind_alike most input f (IsEqual t) [] [] h = tt
  by_kind_alike most input f (IsEqual t) [] (w ∷ ws) h = absurd h
  by_kind_alike most input f (IsEqual t) (v ∷ vs) [] h = absurd h
  by_kind_alike most input f (IsEqual t) (v ∷ []) (w ∷ []) h = tt
  by_kind_alike most input f (IsEqual t) (v ∷ []) (w ∷ x ∷ ws) h = absurd h.1
  by_kind_alike most input f (IsEqual t) (v ∷ u ∷ vs) (w ∷ []) h = absurd h.1
  by_kind_alike most input f (IsEqual t) (v ∷ u ∷ []) (w ∷ x ∷ []) h = equals_alike v u w x t h.0 h.1.0
  by_kind_alike most input f (IsEqual t) (v ∷ u ∷ []) (w ∷ x ∷ y ∷ ws) h = absurd h.1.1
  by_kind_alike most input f (IsEqual t) (v ∷ u ∷ z ∷ vs) (w ∷ x ∷ []) h = absurd h.1.1
  by_kind_alike most input f (IsEqual t) (v ∷ u ∷ z ∷ vs) (w ∷ x ∷ y ∷ ws) h = tt

  -- With as many blocks counted on both sides: related arguments, related outcomes, and where the one has none, so has the other.
  pub meaning_alike : (most : ℕ) (input : List ℕ) (f : Primitive) (vs : List V) (ws : List W) → AllAlike R vs ws → BothAlike (SameOutcome A R) (meaning see most input f vs) (meaning look most input f ws)
  meaning_alike most input f vs ws h = by_kind_alike most input f (kind_of f) vs ws h

  -- the arguments that are taken out of related values
  pub arguments_alike : (whole : Bool) (v : V) (w : W) → R v w → BothAlike (AllAlike R) (arguments whole v (see v)) (arguments whole w (look w))
  arguments_alike true v w h = (h, tt)
  arguments_alike false v w h = go (see v) (look w) (views.alike v w h)
    where
      go : (s : Seen V) (t : Seen W) → SameSeen A R s t → BothAlike (AllAlike R) (arguments false v s) (arguments false w t)
      go s t (same_scalar z) = tt
      go s t (same_text bytes) = tt
      go s t (same_tuple vs ws k) = k
      go s t (same_applied a b n u x k) = tt
      go s t (same_cell a b u x k j) = tt
      go s t (same_packet x u y z k j) = tt
      go s t same_opaque = tt

  -- ---- Tests

  pub along_alike : (steps : List ℕ) (o : Option V) (q : Option W) → BothAlike R o q → BothAlike R (along see steps o) (along look steps q)
  along_alike [] o q h = h
  along_alike (i ∷ steps) o q h = along_alike steps (field_at see o i) (field_at look q i) (go o q h)
    where
      go : (o : Option V) (q : Option W) → BothAlike R o q → BothAlike R (field_at see o i) (field_at look q i)
      go None None h = tt
      go None (Some w) h = absurd h
      go (Some v) None h = absurd h
      go (Some v) (Some w) h = get_alike R (fields_in (see v)) (fields_in (look w)) i (fields_alike A R (see v) (look w) (views.alike v w h))

  read_one_alike : (x : ℕ) (o : Option V) (q : Option W) (env : List (ℕ × V)) (fnv : List (ℕ × W)) → BothAlike R o q → AllAlike (BoundAlike R) env fnv → AllAlike (BoundAlike R) (read_one see x o env) (read_one look x q fnv)
  read_one_alike x None None env fnv h g = g
  read_one_alike x None (Some w) env fnv h g = absurd h
  read_one_alike x (Some v) None env fnv h g = absurd h
  read_one_alike x (Some v) (Some w) env fnv h g = ((refl, h), g)

  pub read_alike : (v : V) (w : W) (names : List Named) → R v w → AllAlike (BoundAlike R) (read see v names) (read look w names)
  read_alike v w [] h = tt
  read_alike v w (n ∷ names) h =
      read_one_alike n.name.0 (along see n.path (Some v)) (along look n.path (Some w)) (read see v names) (read look w names) (along_alike n.path (Some v) (Some w) h) (read_alike v w names h)

  module _ (scope : Scope V) (ground : Scope W) (near : ScopesAlike R scope ground) where
    name_wanted_alike : (applied : Bool) (o : Option V) (q : Option W) → BothAlike R o q → SameWanted R (name_wanted applied o) (name_wanted applied q)
    name_wanted_alike applied None None h = same_never
    name_wanted_alike applied None (Some w) h = absurd h
    name_wanted_alike applied (Some v) None h = absurd h
    name_wanted_alike applied (Some v) (Some w) h = same_exn v w applied h

    bytes_wanted_alike : (o : Option (List ℕ)) → SameWanted R (bytes_wanted o) (bytes_wanted o)
    bytes_wanted_alike None = same_never
    bytes_wanted_alike (Some bytes) = same_bytes bytes

    -- a test of a program wants alike things in both machines
    pub want_alike : (w : Want) → SameWanted R (wanted scope w) (wanted ground w)
    want_alike (want.Num z) = same_num z
    want_alike (want.Tag t) = same_tag t.number
    want_alike (want.Text t) =
        subst (λ texts. SameWanted R (wanted scope (want.Text t)) (bytes_wanted (slice_get texts t))) (sym near.texts) (bytes_wanted_alike (slice_get scope.texts t))
    want_alike (want.Exn x applied) = name_wanted_alike applied (scope.value_of x.0) (ground.value_of x.0) (near.value_of x.0)
    want_alike (want.Library e applied) = same_exn (scope.library e) (ground.library e) applied (near.library e)

    trials_alike : (ts : List Test) → AllAlike (SameTrial R) (map (trial scope) ts) (map (trial ground) ts)
    trials_alike [] = tt
    trials_alike (t ∷ ts) = (record { path = refl; want = want_alike t.want }, trials_alike ts)

    pub rule_alike : (r : RuleTests) (body : ℕ) → SameCase R (case_of scope r body) (case_of ground r body)
    rule_alike r body = record { tests = trials_alike r.tests; names = refl; body = refl }

  module _ (which : V → Option Which) (whose : W → Option Which) (called : NamesAlike A R which whose) where
    packet_alike : (x : Option Which) (z : Option Which) (s : Seen V) (t : Seen W) → BothAlike (SameWhich A) x z → SameSeen A R s t → is_packet_of look whose z t ≡ is_packet_of see which x s
    packet_alike x z s t h (same_scalar n) = refl
    packet_alike x z s t h (same_text bytes) = refl
    packet_alike x z s t h (same_tuple vs ws g) = refl
    packet_alike x z s t h (same_applied a b n v w g) = refl
    packet_alike x z s t h (same_cell a b v w k g) = refl
    packet_alike x z s t h (same_packet y v u w k g) = names_alike A R one x (which y) z (whose u) h (called y u k)
    packet_alike x z s t h same_opaque = refl

    wanted_alike : (want : Wanted V) (need : Wanted W) (v : V) (w : W) → SameWanted R want need → R v w → is_wanted look whose need w ≡ is_wanted see which want v
    wanted_alike want need v w (same_num z) h = scalar_alike A R z (see v) (look w) (views.alike v w h)
    wanted_alike want need v w (same_tag n) h = number_alike A R n (see v) (look w) (views.alike v w h)
    wanted_alike want need v w (same_bytes bs) h = bytes_alike A R bs (see v) (look w) (views.alike v w h)
    wanted_alike want need v w same_never h = refl
    wanted_alike want need v w (same_exn x y true g) h = packet_alike (which x) (whose y) (see v) (look w) (called x y g) (views.alike v w h)
    wanted_alike want need v w (same_exn x y false g) h = names_alike A R one (which x) (which v) (whose y) (whose w) (called x y g) (called v w h)

    pub holds_alike : (want : Wanted V) (need : Wanted W) (o : Option V) (q : Option W) → SameWanted R want need → BothAlike R o q → holds_at look whose need q ≡ holds_at see which want o
    holds_alike want need None None g h = refl
    holds_alike want need None (Some w) g h = absurd h
    holds_alike want need (Some v) None g h = absurd h
    holds_alike want need (Some v) (Some w) g h = wanted_alike want need v w g h

    pub tests_alike : (v : V) (w : W) (ts : List (Trial V)) (us : List (Trial W)) → R v w → AllAlike (SameTrial R) ts us → all_hold look whose w us ≡ all_hold see which v ts
    tests_alike v w [] [] h g = refl
    tests_alike v w [] (u ∷ us) h g = absurd g
    tests_alike v w (t ∷ ts) [] h g = absurd g
    tests_alike v w (t ∷ ts) (u ∷ us) h g =
        ap (λ path. holds_at look whose u.want (along look path (Some w)) && all_hold look whose w us) g.0.path
        ∙ ap (λ q. q && all_hold look whose w us) (holds_alike t.want u.want (along see t.path (Some v)) (along look t.path (Some w)) g.0.want (along_alike t.path (Some v) (Some w) h))
        ∙ ap (λ q. holds_at see which t.want (along see t.path (Some v)) && q) (tests_alike v w ts us h g.1)

    pub chosen_alike : (v : V) (w : W) (ts : List (Trial V)) (us : List (Trial W)) (names : List Named) → R v w → AllAlike (SameTrial R) ts us → BothAlike (AllAlike (BoundAlike R)) (chosen see which ts names v) (chosen look whose us names w)
    chosen_alike v w ts us names h g =
        subst (λ q. BothAlike (AllAlike (BoundAlike R)) (chosen see which ts names v) (cond q (Some (read look w names)) None)) (sym (tests_alike v w ts us h g)) (go (all_hold see which v ts))
      where
        go : (q : Bool) → BothAlike (AllAlike (BoundAlike R)) (cond q (Some (read see v names)) None) (cond q (Some (read look w names)) None)
        go true = read_alike v w names h
        go false = tt

    chosen_or_alike : (o : Option (List (ℕ × V))) (q : Option (List (ℕ × W))) (body : ℕ) (l : Option (List (ℕ × V) × ℕ)) (m : Option (List (ℕ × W) × ℕ)) → BothAlike (AllAlike (BoundAlike R)) o q → BothAlike (ChoiceAlike R) l m → BothAlike (ChoiceAlike R) (chosen_or o body l) (chosen_or q body m)
    chosen_or_alike None None body l m h g = g
    chosen_or_alike None (Some f) body l m h g = absurd h
    chosen_or_alike (Some e) None body l m h g = absurd h
    chosen_or_alike (Some e) (Some f) body l m h g = (h, refl)

    -- the same case is the first that is chosen, with related bindings
    pub first_case_alike : (v : V) (w : W) (cs : List (Case V)) (ds : List (Case W)) → R v w → AllAlike (SameCase R) cs ds → BothAlike (ChoiceAlike R) (first_case see which cs v) (first_case look whose ds w)
    first_case_alike v w [] [] h g = tt
    first_case_alike v w [] (d ∷ ds) h g = absurd g
    first_case_alike v w (c ∷ cs) [] h g = absurd g
    first_case_alike v w (c ∷ cs) (d ∷ ds) h g =
        subst (λ body. BothAlike (ChoiceAlike R) (first_case see which (c ∷ cs) v) (chosen_or (chosen look whose d.tests d.names w) body (first_case look whose ds w))) (sym g.0.body)
        (subst (λ names. BothAlike (ChoiceAlike R) (first_case see which (c ∷ cs) v) (chosen_or (chosen look whose d.tests names w) c.body (first_case look whose ds w))) (sym g.0.names)
        (chosen_or_alike (chosen see which c.tests c.names v) (chosen look whose d.tests c.names w) c.body (first_case see which cs v) (first_case look whose ds w) (chosen_alike v w c.tests d.tests c.names h g.0.tests) (first_case_alike v w cs ds h g.1)))

  -- the name of a packet
  pub name_in_alike : (v : V) (w : W) → R v w → R (name_in see v (see v)) (name_in look w (look w))
  name_in_alike v w h = go (see v) (look w) (views.alike v w h)
    where
      go : (s : Seen V) (t : Seen W) → SameSeen A R s t → R (name_in see v s) (name_in look w t)
      go s t (same_scalar z) = h
      go s t (same_text bytes) = h
      go s t (same_tuple vs ws k) = h
      go s t (same_applied a b n u x k) = h
      go s t (same_cell a b u x k j) = h
      go s t (same_packet x u y z k j) = k
      go s t same_opaque = h
