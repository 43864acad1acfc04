-- the image of prints is laid out
use Rattle.std.proofs.Common.{◌≡◌, inl, inr, ℕ, zero, suc, ◌+◌, ◌*◌, ◌≤◌, List, [], ◌∷◌, length, arith, refl}
use Rattle.std.specs.Prelude.{All, AllPairs}
use Rattle.elf_static.specs.declared.image.Segment.{Segment}
use Rattle.elf_static.specs.Layout.{IsLaidOut, text_segment, read_only_segment, writable_segment}
use Rattle.elf_static.specs.Load.{IsLoadable, IsApart, IsFilled, EndsInRange}
use Rattle.print_code.specs.Code.{bytes_of, whole_code, image_of, IsStraight}
use Rattle.print_code.proofs.Ends.{length-code, pieces-total}

all_three : (P : Segment → Type 0) (a b c : Segment) → P a → P b → P c → All P (a ∷ b ∷ c ∷ [])
all_three P a b c p q r zero d h = p
all_three P a b c p q r (suc zero) d h = q
all_three P a b c p q r (suc (suc zero)) d h = r
all_three P a b c p q r (suc (suc (suc k))) d h = absurd (omega arith)

pairs : (R : Segment → Segment → Type 0) (a b c : Segment) → R a b → R a c → R b c → AllPairs R (a ∷ b ∷ c ∷ [])
pairs R a b c p q r zero zero d h k = absurd (omega arith)
pairs R a b c p q r zero (suc zero) d h k = p
pairs R a b c p q r zero (suc (suc zero)) d h k = q
pairs R a b c p q r (suc zero) (suc (suc zero)) d h k = r
pairs R a b c p q r (suc i) zero d h k = absurd (omega arith)
pairs R a b c p q r (suc i) (suc zero) d h k = absurd (omega arith)
pairs R a b c p q r (suc (suc i)) (suc (suc zero)) d h k = absurd (omega arith)
pairs R a b c p q r i (suc (suc (suc j))) d h k = absurd (omega arith)

loadable : (lengths text : List ℕ) → IsStraight lengths text → IsLoadable (image_of lengths text)
loadable lengths text s =
    let code = bytes_of (whole_code lengths) in
    let few : length lengths ≤ 1048576 = omega (arith, pieces-total lengths s.positive, s.sums, s.bounded) in
    let size : length code ≡ 32 * length lengths + 16 = length-code lengths in
    let a : Segment = text_segment code in
    let b : Segment = read_only_segment code text in
    let c : Segment = writable_segment code text 0 0 in
    let bound : length text ≤ 1048576 = s.bounded in
    record {
      count = omega arith;
      room = record { filled = all_three IsFilled a b c (omega arith) (omega arith) (omega arith); sizes = omega arith };
      range = all_three EndsInRange a b c (omega arith) (omega arith) (omega arith);
      apart = pairs IsApart a b c (inr (inr (inl (omega arith)))) (inr (inr (inl (omega arith)))) (inr (inr (inl (omega arith))));
      aligned = refl;
      entry = (0, a, omega arith, refl, (refl, omega arith, omega arith));
    }

pub image_laid_out : (lengths text : List ℕ) → IsStraight lengths text → IsLaidOut (image_of lengths text)
image_laid_out lengths text s = record {
  loadable = loadable lengths text s;
  entry = refl;
  text = bytes_of (whole_code lengths);
  read_only = text;
  slots = 0;
  segments = refl;
  table = record { count = omega arith; labels = λ i h. absurd (omega arith); addresses = λ i j d h k. absurd (omega arith); arena = inl refl };
}
