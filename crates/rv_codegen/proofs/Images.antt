-- The image, put together, is laid out.
use Rattle.std.proofs.Common.{◌≡◌, inl, inr, ℕ, zero, suc, ◌+◌, ◌*◌, ◌^◌, ◌≤◌, ◌<◌, List, [], ◌∷◌, length, get_or, Result, Ok, Err, IfOk, refl, sym, ap, ◌∙◌, arith}
use Rattle.std.specs.Prelude.{All, AllPairs}
use Rattle.rv_asm.specs.Item.{IsNear}
use Rattle.rv_asm.specs.Layout.{addresses}
use Rattle.placed_ir.specs.Program.{Placed}
use Rattle.close_laws.specs.declared.plan.Plan.{Plan}
use Rattle.close_laws.specs.Text.{plan_text}
use Rattle.elf_static.specs.declared.image.Segment.{Segment}
use Rattle.elf_static.specs.declared.image.EntryRow.{EntryRow}
use Rattle.elf_static.specs.declared.image.Entries.{Entries}
use Rattle.elf_static.specs.declared.image.Image.{Image}
use Rattle.elf_static.specs.Layout.{round_up, text_segment, read_only_segment, writable_segment, IsLaidOut}
use Rattle.elf_static.specs.Load.{IsLoadable, IsApart, IsFilled, EndsInRange}
use Rattle.emit_data.specs.Blocks.{read_only}
use Rattle.emit_data.specs.Places.{read_only_place, writable_place, arena_place, end_place}
use Rattle.emit_data.specs.Program.{program_of}
use Rattle.rv_codegen.specs.Image.{base, rows_from, text_bytes, address_of, data_bytes, image_of}
use Rattle.placed_ir.specs.Kept.{IsProgram}
use Rattle.rv_codegen.proofs.Lengths.{text_length, data_length}
use Rattle.rv_codegen.proofs.Table.{rows_count, row_label, rows_apart}

pub replaced : {E : Type 0} (r : Result Image E) (x y : Image) → x ≡ y → IfOk r (λ image. image ≡ x) → IfOk r (λ image. image ≡ y)
replaced (Ok image) x y e h = h ∙ e
replaced (Err failed) x y e h = tt

-- ---- Where the segments begin

module _ (p : Placed) (aw : ℕ) where
  read_only_at : base + 4 * read_only_place p ≡ round_up 4096 (base + length (text_bytes p aw))
  read_only_at = omega (arith, text_length p aw)

  writable_at : base + 4 * writable_place p ≡ round_up 4096 (round_up 4096 (base + length (text_bytes p aw)) + length (data_bytes p aw))
  writable_at = omega (arith, read_only_at, data_length p (address_of p aw))

  -- ---- The image as it is made

  abbrev with_parts : Segment → Segment → Segment → Entries → List ℕ → Image
  with_parts a b c e plan = record { entry = 65536; segments = a ∷ b ∷ c ∷ []; entries = e; plan = plan }

  abbrev entries_with : Plan → List EntryRow → ℕ → Entries
  entries_with plan rows at = record { rows = rows; factor = plan.factor; spill = p.spill; arena = at; arena_words = aw }

  pub image_is : (plan : Plan) (a b c : Segment) (e : Entries) (bytes at blocks lines : List ℕ) (rows : List EntryRow) (ro wr ar : ℕ) → bytes ≡ text_bytes p aw → at ≡ addresses base (program_of p aw).places →
      blocks ≡ read_only p (λ l. get_or at l 0) → rows ≡ rows_from p (λ l. get_or at l 0) 0 p.points → lines ≡ plan_text plan → ro ≡ base + 4 * read_only_place p → wr ≡ base + 4 * writable_place p → ar ≡ base + 4 * arena_place p →
      a ≡ record { address = 65536; flags = 5; bytes = bytes; size = length bytes } → b ≡ record { address = ro; flags = 4; bytes = blocks; size = length blocks } → c ≡ record { address = wr; flags = 6; bytes = []; size = 8192 + 8 * aw } →
      e ≡ entries_with plan rows ar → with_parts a b c e lines ≡ image_of p aw plan
  image_is plan a b c e bytes at blocks lines rows ro wr ar be ae de re le roe wre are ase bse cse ese =
      let data_is : blocks ≡ data_bytes p aw = de ∙ ap (λ xs. read_only p (λ l. get_or xs l 0)) ae in
      let rows_is : rows ≡ rows_from p (address_of p aw) 0 p.points = re ∙ ap (λ xs. rows_from p (λ l. get_or xs l 0) 0 p.points) ae in
      let a_is : a ≡ text_segment (text_bytes p aw) = ase ∙ ap text_segment be in
      let b_is : b ≡ read_only_segment (text_bytes p aw) (data_bytes p aw) =
      bse ∙ ap (λ n. record { address = n; flags = 4; bytes = blocks; size = length blocks }) (roe ∙ read_only_at) ∙ ap (read_only_segment (text_bytes p aw)) data_is in
      let c_is : c ≡ writable_segment (text_bytes p aw) (data_bytes p aw) 0 aw = cse ∙ ap (λ n. record { address = n; flags = 6; bytes = []; size = 8192 + 8 * aw }) (wre ∙ writable_at) in
      let e_is : e ≡ entries_with plan (rows_from p (address_of p aw) 0 p.points) (base + 4 * arena_place p) = ese ∙ ap (λ n. entries_with plan rows n) are ∙ ap (λ xs. entries_with plan xs (base + 4 * arena_place p)) rows_is in
      ap (λ s. with_parts s b c e lines) a_is ∙ ap (λ s. with_parts (text_segment (text_bytes p aw)) s c e lines) b_is
      ∙ ap (λ s. with_parts (text_segment (text_bytes p aw)) (read_only_segment (text_bytes p aw) (data_bytes p aw)) s e lines) c_is
      ∙ ap (λ t. with_parts (text_segment (text_bytes p aw)) (read_only_segment (text_bytes p aw) (data_bytes p aw)) (writable_segment (text_bytes p aw) (data_bytes p aw) 0 aw) t lines) e_is
      ∙ ap (with_parts (text_segment (text_bytes p aw)) (read_only_segment (text_bytes p aw) (data_bytes p aw)) (writable_segment (text_bytes p aw) (data_bytes p aw) 0 aw) (entries_with plan (rows_from p (address_of p aw) 0 p.points) (base + 4 * arena_place p))) le

-- ---- Segments

all_three : (P : Segment → Type 0) (a b c : Segment) → P a → P b → P c → All P (a ∷ b ∷ c ∷ [])
all_three P a b c p q r zero d h = p
all_three P a b c p q r (suc zero) d h = q
all_three P a b c p q r (suc (suc zero)) d h = r
all_three P a b c p q r (suc (suc (suc k))) d h = absurd (omega arith)

pairs : (R : Segment → Segment → Type 0) (a b c : Segment) → R a b → R a c → R b c → AllPairs R (a ∷ b ∷ c ∷ [])
pairs R a b c p q r zero zero d h k = absurd (omega arith)
pairs R a b c p q r zero (suc zero) d h k = p
pairs R a b c p q r zero (suc (suc zero)) d h k = q
pairs R a b c p q r (suc zero) (suc (suc zero)) d h k = r
pairs R a b c p q r (suc i) zero d h k = absurd (omega arith)
pairs R a b c p q r (suc i) (suc zero) d h k = absurd (omega arith)
pairs R a b c p q r (suc (suc i)) (suc (suc zero)) d h k = absurd (omega arith)
pairs R a b c p q r i (suc (suc (suc j))) d h k = absurd (omega arith)

module _ (p : Placed) (aw : ℕ) (plan : Plan) (near : IsNear (end_place p aw)) where
  loadable : IsLoadable (image_of p aw plan)
  loadable =
      let t = text_bytes p aw in
      let r = data_bytes p aw in
      let a : Segment = text_segment t in
      let b : Segment = read_only_segment t r in
      let c : Segment = writable_segment t r 0 aw in
      let tl = text_length p aw in
      let rl = data_length p (address_of p aw) in
      let ra : b.address ≡ base + 4 * read_only_place p = sym (read_only_at p aw) in
      let wa : c.address ≡ base + 4 * writable_place p = sym (writable_at p aw) in
      record {
        count = omega arith;
        room = record { filled = all_three IsFilled a b c (omega arith) (omega arith) (omega arith); sizes = omega (arith, tl, rl, near) };
        range = all_three EndsInRange a b c (omega (arith, tl, near)) (omega (arith, ra, rl, near)) (omega (arith, wa, near));
        apart = pairs IsApart a b c (inr (inr (inl (omega (arith, tl, ra))))) (inr (inr (inl (omega (arith, tl, wa))))) (inr (inr (inl (omega (arith, ra, rl, wa)))));
        aligned = refl;
        entry = (0, a, omega arith, refl, (refl, omega arith, omega (arith, tl)));
      }

  pub laid_out : IsProgram p → length p.points < 2 ^ 32 → 1 ≤ aw → IsLaidOut (image_of p aw plan)
  laid_out is few least =
      let t = text_bytes p aw in
      let r = data_bytes p aw in
      let at = address_of p aw in
      let c : Segment = writable_segment t r 0 aw in
      let wa : c.address ≡ base + 4 * writable_place p = sym (writable_at p aw) in
      record {
        loadable = loadable;
        entry = refl;
        text = t;
        read_only = r;
        slots = 0;
        segments = refl;
        table = record {
          count = omega (arith, few, rows_count p at 0 p.points);
          labels = λ i h d. row_label p at 0 p.points i d (omega (arith, h, rows_count p at 0 p.points)) ∙ omega arith;
          addresses = rows_apart p aw p.points refl is.one_more;
          arena = inr (omega arith, (2, c, omega arith, refl, (refl, omega (arith, wa), omega (arith, wa))));
        };
      }
