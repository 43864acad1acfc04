-- A table of entries that was written is right, and read as the same entries.
use Rattle.std.proofs.Common.{◌≡◌, ℕ, suc, ◌+◌, ◌*◌, true, List, [], ◌∷◌, ◌++◌, length, drop, All, refl, sym, ap, subst, ◌∙◌, append_assoc}
use Rattle.std.specs.Prelude.{nat_lt, nat_eq, map, codes}
use Rattle.std.specs.List.{list_all, flat_map, starts_with}
use Rattle.std.proofs.lemmas.Bool.{and_from, eq-eqb}
use Rattle.std.proofs.lemmas.List.Concat.{flat_map-cons}
use Rattle.std.proofs.lemmas.List.Elements.{All-head, All-tail}
use Rattle.smlc_base.specs.declared.point.PointKind.{PointKind}
use Rattle.smlc_base.specs.declared.point.PointKind.TheVariants.{Fn, Ret, Caught, Popped, Eq}
use Rattle.elf_static.specs.declared.image.EntryRow.{EntryRow}
use Rattle.elf_static.specs.declared.image.Entries.{Entries}
use Rattle.elf_static.specs.declared.image.Segment.{Segment}
use Rattle.elf_static.specs.Numbers.{number, table}
use Rattle.elf_static.specs.Table.{kind_of, kind_number, entry_row, entries_in, has_form, has_kinds, are_numbered, are_distinct, address_of, has_arena, is_right, IsRightTable}
use Rattle.elf_static.specs.Writing.{fields, number_of_kind, row_fields, row_bytes, RowFits, table_fields, table_bytes, EntriesFit}
use Rattle.elf_static.proofs.FieldsRead.{AreRead, are_read, table_step, drop_all}
use Rattle.elf_static.proofs.Lengths.{length-row, length-table_bytes}
use Rattle.elf_static.proofs.Rights.{test-from_labels, test-from_addresses, test-from_arena}

kind_again : (k : PointKind) → kind_of (number_of_kind k) ≡ k
kind_again Fn = refl
kind_again Ret = refl
kind_again Caught = refl
kind_again Popped = refl
kind_again Eq = refl

kind_below : (k : PointKind) → nat_lt (number_of_kind k) 5 ≡ true
kind_below Fn = refl
kind_below Ret = refl
kind_below Caught = refl
kind_below Popped = refl
kind_below Eq = refl

row_from : (r : EntryRow) (bytes : List ℕ) → AreRead 0 (row_fields r) bytes → entry_row bytes ≡ r
unfolding entry_row
row_from r bytes h = rw (h.0, h.1.0, h.1.1.0, h.1.1.1.0, h.1.1.1.1.0, kind_again r.point.kind) refl

row_fields_read : (r : EntryRow) (rest : List ℕ) → RowFits r → AreRead 0 (row_fields r) (row_bytes r ++ rest)
unfolding row_bytes
row_fields_read r rest fits = are_read (row_fields r) [] rest fits

rows_read : (rs : List EntryRow) → All RowFits rs → table entry_row 24 (length rs) (flat_map row_bytes rs) ≡ rs
rows_read [] fit = refl
rows_read (r ∷ rs) fit =
    ap (table entry_row 24 (suc (length rs))) (flat_map-cons row_bytes r rs)
    ∙ table_step entry_row 24 (length rs) (row_bytes r) (flat_map row_bytes rs) (length-row r)
    ∙ ap (λ x. x ∷ table entry_row 24 (length rs) (flat_map row_bytes rs)) (row_from r (row_bytes r ++ flat_map row_bytes rs) (row_fields_read r (flat_map row_bytes rs) (All-head RowFits r rs fit)))
    ∙ ap (λ xs. r ∷ xs) (rows_read rs (All-tail RowFits r rs fit))

kinds_read : (rs : List EntryRow) → All RowFits rs → list_all (λ n. nat_lt n 5) (table kind_number 24 (length rs) (flat_map row_bytes rs)) ≡ true
kinds_read [] fit = refl
kinds_read (r ∷ rs) fit =
    let rest = flat_map row_bytes rs in
    let opened : table kind_number 24 (length (r ∷ rs)) (flat_map row_bytes (r ∷ rs)) ≡ kind_number (row_bytes r ++ rest) ∷ table kind_number 24 (length rs) rest =
    ap (table kind_number 24 (suc (length rs))) (flat_map-cons row_bytes r rs) ∙ table_step kind_number 24 (length rs) (row_bytes r) rest (length-row r) in
    let here : nat_lt (kind_number (row_bytes r ++ rest)) 5 ≡ true = ap (λ n. nat_lt n 5) (row_fields_read r rest (All-head RowFits r rs fit)).1.1.0 ∙ kind_below r.point.kind in
    ap (list_all (λ n. nat_lt n 5)) opened ∙ and_from (nat_lt (kind_number (row_bytes r ++ rest)) 5) (list_all (λ n. nat_lt n 5) (table kind_number 24 (length rs) rest)) here (kinds_read rs (All-tail RowFits r rs fit))

-- ---- the table

table_from : (e : Entries) (bytes : List ℕ) → AreRead 4 (table_fields e) bytes → table entry_row 24 (length e.rows) (drop 40 bytes) ≡ e.rows → entries_in bytes ≡ e
unfolding entries_in
table_from e bytes h rows = rw (h.1.0, h.1.1.0, h.1.1.1.0, h.1.1.1.1.1.0, h.1.1.1.1.1.1.0, rows) refl

table_fields_read : (e : Entries) → EntriesFit e → AreRead 4 (table_fields e) (table_bytes e)
unfolding table_bytes
table_fields_read e fit = subst (AreRead 4 (table_fields e)) (sym (append_assoc (codes "SMLE") (fields (table_fields e)) (flat_map row_bytes e.rows))) (are_read (table_fields e) (codes "SMLE") (flat_map row_bytes e.rows) fit.fields)

rows_behind : (e : Entries) → drop 40 (table_bytes e) ≡ flat_map row_bytes e.rows
unfolding table_bytes
rows_behind e = drop_all (codes "SMLE" ++ fields (table_fields e)) (flat_map row_bytes e.rows)

pub table_read : (e : Entries) → EntriesFit e → entries_in (table_bytes e) ≡ e
table_read e fit = table_from e (table_bytes e) (table_fields_read e fit) (ap (table entry_row 24 (length e.rows)) (rows_behind e) ∙ rows_read e.rows fit.rows)

named : (e : Entries) → starts_with nat_eq (table_bytes e) (codes "SMLE") ≡ true
unfolding table_bytes
named e = refl

formed : (e : Entries) → EntriesFit e → has_form (table_bytes e) ≡ true
formed e fit =
    let h = table_fields_read e fit in
    let len : length (table_bytes e) ≡ 40 + 24 * number 4 8 (table_bytes e) = length-table_bytes e ∙ ap (λ n. 40 + 24 * n) (sym h.1.0) in
    and_from _ _ (and_from _ _ (and_from _ _ (named e) (eq-eqb _ _ h.0)) (eq-eqb _ _ h.1.1.1.1.0)) (eq-eqb _ _ len)

kinds_fit : (e : Entries) → EntriesFit e → has_kinds (table_bytes e) ≡ true
kinds_fit e fit =
    let h = table_fields_read e fit in
    ap (λ n. list_all (λ k. nat_lt k 5) (table kind_number 24 n (drop 40 (table_bytes e)))) h.1.0
    ∙ ap (λ bytes. list_all (λ k. nat_lt k 5) (table kind_number 24 (length e.rows) bytes)) (rows_behind e)
    ∙ kinds_read e.rows fit.rows

pub table_is_right : (segments : List Segment) (e : Entries) → EntriesFit e → IsRightTable segments e → is_right segments (table_bytes e) ≡ true
table_is_right segments e fit right =
    let same = table_read e fit in
    let numbered : are_numbered 0 (entries_in (table_bytes e)).rows ≡ true = ap (λ x. are_numbered 0 x.rows) same ∙ test-from_labels e.rows right.labels in
    let distinct : are_distinct (map address_of (entries_in (table_bytes e)).rows) ≡ true = ap (λ x. are_distinct (map address_of x.rows)) same ∙ test-from_addresses e.rows right.addresses in
    let arena : has_arena segments (entries_in (table_bytes e)) ≡ true = ap (has_arena segments) same ∙ test-from_arena segments e right.arena in
    and_from _ _ (and_from _ _ (and_from _ _ (and_from _ _ (formed e fit) (kinds_fit e fit)) numbered) distinct) arena
