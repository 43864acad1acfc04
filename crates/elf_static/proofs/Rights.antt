-- A table of entries is right as a fact where its test says so.
use Rattle.std.proofs.Common.{◌≡◌, ℕ, zero, suc, ◌+◌, ◌*◌, ◌/◌, ◌%◌, ◌<◌, true, leb, eqb, List, [], ◌∷◌, length, get_or, refl, sym, ap, ◌∙◌, arith, inl, inr}
use Rattle.std.specs.Prelude.{◌&&◌, ◌==◌, ◌⊎◌, map, AllPairs, Any}
use Rattle.std.specs.List.{list_any}
use Rattle.std.proofs.lemmas.Bool.{and_parts, and_from, or_cases, or_left, or_right, eqb-true, eq-eqb, ne_eqb, leb-true, le-leb, eqb-false}
use Rattle.std.proofs.lemmas.List.Folds.{Any-from_list_any, list_any-from_Any}
use Rattle.std.proofs.lemmas.Map.Keys.{apart_from_distinct, IsDistinct-from_apart}
use Rattle.elf_static.specs.declared.image.EntryRow.{EntryRow}
use Rattle.elf_static.specs.declared.image.Entries.{Entries}
use Rattle.elf_static.specs.declared.image.Segment.{Segment}
use Rattle.elf_static.specs.Table.{are_numbered, are_distinct, address_of, has_words, HoldsWords, has_arena, HasLabel, HaveOtherAddresses}
use Rattle.elf_static.proofs.Distinct.{IsDistinct-from_test, test-from_IsDistinct}

-- the labels
numbered : (from : ℕ) (rs : List EntryRow) → are_numbered from rs ≡ true → (i : ℕ) → i < length rs → (d : EntryRow) → (get_or rs i d).label.0 ≡ from + i
numbered from [] h i lt d = absurd (omega arith)
numbered from (r ∷ rs) h zero lt d = eqb-true _ _ (and_parts (r.label.0 == from) (are_numbered (suc from) rs) h).0 ∙ omega arith
numbered from (r ∷ rs) h (suc i) lt d = numbered (suc from) rs (and_parts (r.label.0 == from) (are_numbered (suc from) rs) h).1 i (omega arith) d ∙ omega arith

number_test : (from : ℕ) (rs : List EntryRow) → ((i : ℕ) → i < length rs → (d : EntryRow) → (get_or rs i d).label.0 ≡ from + i) → are_numbered from rs ≡ true
number_test from [] h = refl
number_test from (r ∷ rs) h =
    let first : r.label.0 ≡ from + 0 = h 0 (omega arith) r in
    let same : r.label.0 ≡ from = omega arith in
    let more : (i : ℕ) → i < length rs → (d : EntryRow) → (get_or rs i d).label.0 ≡ suc from + i = λ i lt d. h (suc i) (omega arith) d ∙ omega arith in
    and_from (r.label.0 == from) (are_numbered (suc from) rs) (eq-eqb _ _ same) (number_test (suc from) rs more)

pub labels-from_test : (rs : List EntryRow) → are_numbered 0 rs ≡ true → (i : ℕ) → i < length rs → HasLabel rs i
labels-from_test rs h i lt d = numbered 0 rs h i lt d ∙ omega arith

pub test-from_labels : (rs : List EntryRow) → ((i : ℕ) → i < length rs → HasLabel rs i) → are_numbered 0 rs ≡ true
test-from_labels rs h = number_test 0 rs (λ i lt d. h i lt d ∙ omega arith)

-- the addresses
get-map : (rs : List EntryRow) (i : ℕ) (d : EntryRow) → get_or (map address_of rs) i d.address ≡ (get_or rs i d).address
get-map [] i d = refl
get-map (r ∷ rs) zero d = refl
get-map (r ∷ rs) (suc i) d = get-map rs i d

length-addresses : (rs : List EntryRow) → length (map address_of rs) ≡ length rs
length-addresses [] = refl
length-addresses (r ∷ rs) = ap suc (length-addresses rs)

pub addresses-from_test : (rs : List EntryRow) → are_distinct (map address_of rs) ≡ true → AllPairs HaveOtherAddresses rs
addresses-from_test rs h i j d lt le =
    let inside : j < length (map address_of rs) = rw length-addresses le in
    let apart = apart_from_distinct eqb (map address_of rs) i j d.address (IsDistinct-from_test (map address_of rs) h) lt inside in
    λ e. eqb-false _ _ apart (get-map rs i d ∙ e ∙ sym (get-map rs j d))

get-inside : (rs : List EntryRow) (i d : ℕ) (r : EntryRow) → i < length rs → get_or (map address_of rs) i d ≡ (get_or rs i r).address
get-inside [] i d r lt = absurd (omega arith)
get-inside (s ∷ rs) zero d r lt = refl
get-inside (s ∷ rs) (suc i) d r lt = get-inside rs i d r (omega arith)

pub test-from_addresses : (rs : List EntryRow) → AllPairs HaveOtherAddresses rs → are_distinct (map address_of rs) ≡ true
test-from_addresses [] h = refl
test-from_addresses (r ∷ rs) h =
    test-from_IsDistinct (map address_of (r ∷ rs)) (IsDistinct-from_apart eqb (map address_of (r ∷ rs)) (λ i j d lt le.
    let j_in : j < length (r ∷ rs) = omega (arith, le, length-addresses rs) in
    let i_in : i < length (r ∷ rs) = omega arith in
    ne_eqb _ _ (λ e. h i j r lt j_in (sym (get-inside (r ∷ rs) i d r i_in) ∙ e ∙ get-inside (r ∷ rs) j d r j_in))))

-- the arena
words_held : (at words : ℕ) (s : Segment) → has_words at words s ≡ true → HoldsWords at words s
words_held at words s h =
    let all = and_parts (((s.flags / 2) % 2 == 1) && leb s.address at) (leb (at + 8 * words) (s.address + s.size)) h in
    let front = and_parts ((s.flags / 2) % 2 == 1) (leb s.address at) all.0 in
    (eqb-true _ _ front.0, leb-true _ _ front.1, leb-true _ _ all.1)

words_test : (at words : ℕ) (s : Segment) → HoldsWords at words s → has_words at words s ≡ true
words_test at words s h = and_from _ _ (and_from _ _ (eq-eqb _ _ h.0) (le-leb _ _ h.1)) (le-leb _ _ h.2)

pub arena-from_test : (ss : List Segment) (e : Entries) → has_arena ss e ≡ true → (e.arena_words ≡ 0) ⊎ ((e.arena % 8 ≡ 0) × Any (HoldsWords e.arena e.arena_words) ss)
arena-from_test ss e h = elim (or_cases (e.arena_words == 0) ((e.arena % 8 == 0) && list_any (has_words e.arena e.arena_words) ss) h) [
  | inl none ↦ inl (eqb-true _ _ none)
  | inr some ↦
      let parts = and_parts (e.arena % 8 == 0) (list_any (has_words e.arena e.arena_words) ss) some in
      let found = Any-from_list_any (has_words e.arena e.arena_words) ss parts.1 in
      inr (eqb-true _ _ parts.0, (found.0, found.1, found.2, found.3, words_held e.arena e.arena_words found.1 found.4))
]

pub test-from_arena : (ss : List Segment) (e : Entries) → (e.arena_words ≡ 0) ⊎ ((e.arena % 8 ≡ 0) × Any (HoldsWords e.arena e.arena_words) ss) → has_arena ss e ≡ true
test-from_arena ss e (inl none) = or_left (e.arena_words == 0) ((e.arena % 8 == 0) && list_any (has_words e.arena e.arena_words) ss) (eq-eqb _ _ none)
test-from_arena ss e (inr some) =
    let any = some.1 in
    or_right (e.arena_words == 0) ((e.arena % 8 == 0) && list_any (has_words e.arena e.arena_words) ss) (and_from (e.arena % 8 == 0) (list_any (has_words e.arena e.arena_words) ss) (eq-eqb _ _ some.0) (list_any-from_Any (has_words e.arena e.arena_words) ss (any.0, any.1, any.2, any.3, words_test e.arena e.arena_words any.1 any.4)))
