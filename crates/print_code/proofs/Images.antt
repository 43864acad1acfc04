-- the image of prints, from its segments
use Rattle.std.proofs.Common.{◌≡◌, ℕ, ◌+◌, pos, List, [], ◌∷◌, length, sym, ap, ◌∙◌}
use Rattle.rv_isa.specs.declared.table.Op.TheVariants.{Lui}
use Rattle.rv_isa.specs.Word.{ins}
use Rattle.elf_static.specs.declared.image.Image.{Image}
use Rattle.elf_static.specs.declared.image.Segment.{Segment}
use Rattle.elf_static.specs.Layout.{round_up, text_segment, read_only_segment, writable_segment}
use Rattle.elf_static.specs.Table.{no_entries}
use Rattle.print_code.specs.Code.{bytes_of, whole_code, pieces_code, data_at, image_of, plan_text}
use Rattle.print_code.proofs.Ends.{data-round_up}

abbrev with_segments : Segment → Segment → Segment → Image
with_segments a b c = record { entry = 65536; segments = a ∷ b ∷ c ∷ []; entries = no_entries; plan = plan_text }

pub image_is : (lengths text code : List ℕ) (base behind : ℕ) (a b c : Segment) → code ≡ bytes_of (ins Lui 11 0 0 (pos base) ∷ pieces_code lengths) → base ≡ data_at lengths → behind ≡ base + length text →
    a ≡ record { address = 65536; flags = 5; bytes = code; size = length code } → b ≡ record { address = base; flags = 4; bytes = text; size = length text } →
    c ≡ record { address = round_up 4096 behind; flags = 6; bytes = []; size = 8192 } → with_segments a b c ≡ image_of lengths text
image_is lengths text code base behind a b c k p q x y z =
    let whole = bytes_of (whole_code lengths) in
    let code_is : code ≡ whole = k ∙ ap (λ (n : ℕ). bytes_of (ins Lui 11 0 0 (pos n) ∷ pieces_code lengths)) p in
    let base_is : base ≡ round_up 4096 (65536 + length whole) = p ∙ sym (data-round_up lengths) in
    let a_is : a ≡ text_segment whole = x ∙ ap text_segment code_is in
    let b_is : b ≡ read_only_segment whole text = y ∙ ap (λ (n : ℕ). record { address = n; flags = 4; bytes = text; size = length text }) base_is in
    let c_is : c ≡ writable_segment whole text 0 0 = z ∙ ap (λ (n : ℕ). record { address = round_up 4096 n; flags = 6; bytes = []; size = 8192 }) (q ∙ ap (λ (n : ℕ). n + length text) base_is) in
    ap (λ (s : Segment). with_segments s b c) a_is ∙ ap (λ (s : Segment). with_segments (text_segment whole) s c) b_is
    ∙ ap (λ (s : Segment). with_segments (text_segment whole) (read_only_segment whole text) s) c_is
