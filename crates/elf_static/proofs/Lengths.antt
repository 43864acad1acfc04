-- How long the parts of a written file are.
use Rattle.std.proofs.Common.{◌≡◌, ℕ, ◌+◌, ◌-◌, ◌*◌, ◌<◌, ◌≤◌, ◌^◌, List, [], ◌∷◌, ◌++◌, length, refl, ap, subst, ◌∙◌, arith, length-append}
use Rattle.std.specs.Prelude.{replicate, codes, sum_by}
use Rattle.std.specs.List.{flat_map}
use Rattle.std.proofs.Math.ListN.{length-replicate}
use Rattle.std.proofs.lemmas.List.Concat.{flat_map-cons}
use Rattle.elf_static.specs.declared.image.EntryRow.{EntryRow}
use Rattle.elf_static.specs.declared.image.Entries.{Entries}
use Rattle.elf_static.specs.declared.image.Image.{Image}
use Rattle.elf_static.specs.declared.image.Segment.{Segment}
use Rattle.elf_static.specs.Load.{size_of}
use Rattle.elf_static.proofs.Padding.{above4096}
use Rattle.elf_static.specs.Layout.{round_up, text_segment, read_only_segment, writable_segment, IsLaidOut}
use Rattle.elf_static.specs.Writing.{padded, fields, table_fields, row_bytes, table_bytes, segment_bytes}

pub length-row : (r : EntryRow) → length (row_bytes r) ≡ 24
unfolding row_bytes
length-row r = refl

length-rows : (rs : List EntryRow) → length (flat_map row_bytes rs) ≡ 24 * length rs
length-rows [] = refl
length-rows (r ∷ rs) =
    let joined : length (flat_map row_bytes (r ∷ rs)) ≡ length (row_bytes r) + length (flat_map row_bytes rs) = ap length (flat_map-cons row_bytes r rs) ∙ length-append (row_bytes r) (flat_map row_bytes rs) in
    omega (arith, joined, length-row r, length-rows rs)

pub length-table_bytes : (e : Entries) → length (table_bytes e) ≡ 40 + 24 * length e.rows
unfolding table_bytes
length-table_bytes e =
    let front : length (codes "SMLE" ++ fields (table_fields e)) ≡ 40 = refl in
    length-append (codes "SMLE" ++ fields (table_fields e)) (flat_map row_bytes e.rows) ∙ omega (arith, front, length-rows e.rows)

-- where the next multiple isn't below
pub length-padded : (n : ℕ) (bytes : List ℕ) → length bytes ≤ round_up n (length bytes) → length (padded n bytes) ≡ round_up n (length bytes)
length-padded n bytes above =
    let joined = length-append bytes (replicate (round_up n (length bytes) - length bytes) 0) in
    omega (arith, joined, length-replicate {A = ℕ} (round_up n (length bytes) - length bytes) 0)

abbrev three_segments : List ℕ → List ℕ → ℕ → ℕ → List Segment
three_segments text read_only slots words = text_segment text ∷ read_only_segment text read_only ∷ writable_segment text read_only slots words ∷ []

-- the segments of an image that is laid out are short
pub laid_out_short : (image : Image) → IsLaidOut image → length (segment_bytes image.segments) < 2 ^ 40
laid_out_short image h =
    let sizes : sum_by size_of (three_segments h.text h.read_only h.slots image.entries.arena_words) ≤ 2 ^ 31 = subst (λ ss. sum_by size_of ss ≤ 2 ^ 31) h.segments h.loadable.room.sizes in
    let same = ap (λ ss. length (segment_bytes ss)) h.segments in
    let first = length-append (padded 4096 h.text) (padded 4096 h.read_only ++ (padded 4096 [] ++ [])) in
    let second = length-append (padded 4096 h.read_only) (padded 4096 [] ++ []) in
    let third : length (padded 4096 [] ++ []) ≡ 0 = refl in
    let a = (above4096 (length h.text)).1 in
    let b = (above4096 (length h.read_only)).1 in
    omega (arith, same, first, second, third, length-padded 4096 h.text (above4096 (length h.text)).0, length-padded 4096 h.read_only (above4096 (length h.read_only)).0)
