-- Which labels are free, which places are near, and the program with all labels bound.
use Rattle.std.proofs.Common.{◌≡◌, ℕ, ◌+◌, ◌-◌, ◌*◌, ◌≤◌, ◌<◌, List, [], ◌∷◌, ◌++◌, Option, Some, None, length, get_or, map, refl, sym, ap, ◌∙◌, subst, arith, length-append}
use Rattle.std.specs.Prelude.{slice_get, replicate}
use Rattle.std.specs.List.{All, AllByRecursion}
use Rattle.std.proofs.lemmas.List.{append_assoc, append-nil, map-append, length-map, length-replicate}
use Rattle.std.proofs.lemmas.List.Elements.{All-from_recursion}
use Rattle.rv_asm.specs.Item.{words, IsNear}
use Rattle.rv_asm.specs.Program.{Program, IsFree}
use Rattle.placed_ir.specs.Program.{Placed}
use Rattle.emit_text.specs.Labels.{texts_label, routines_label}
use Rattle.emit_text.specs.Text.{starts, total, text, start_place, functions_place, function_items, function_places, routine_places, block_count, datum_count, text_program}
use Rattle.emit_text.specs.Bound.{bound_from}
use Rattle.emit_text.proofs.Bounds.{get_front, get_back, get_same, long_enough, bound_behind, bound_between, starts_length}
use Rattle.emit_data.specs.declared.places.Places.{Places}
use Rattle.emit_data.specs.Blocks.{string_words, name_words, code_words, exceptions}
use Rattle.emit_data.specs.Places.{block_words, data_words, read_only_place, block_places, writable_place, arena_place, end_place, line_place, datum_places}
use Rattle.emit_data.specs.Program.{with_places, data_from, label_places, program_of}

-- ---- One row of labels behind another

pub still_free : (p q : Program) (first r j : ℕ) (at : List ℕ) → q ≡ with_places p first at → first + length at ≤ r → IsFree p (r + j) → IsFree q (r + j)
still_free p q first r j at is h free =
    let there = long_enough p.places (r + j) None free in
    let k = (r + j) - first in
    let here : r + j ≡ first + k = omega (arith, h) in
    ap (λ x. slice_get x.places (r + j)) is
    ∙ ap (slice_get (bound_from first at p.places)) here
    ∙ bound_behind first k at p.places (omega (arith, h)) (omega (arith, h, there))
    ∙ ap (slice_get p.places) (sym here)
    ∙ free

abbrev no_place : Option ℕ
no_place = None

free_between : (front behind : List (Option ℕ)) (first k j : ℕ) → length front ≡ first → j < k → slice_get (front ++ (replicate k no_place ++ behind)) (first + j) ≡ Some None
free_between front behind first k j e h =
    get_back front (replicate k no_place ++ behind) first j e
    ∙ get_front (replicate k no_place) behind j (omega (arith, length-replicate k no_place))
    ∙ get_same k j h

-- ---- Places that are near

pub doubled : (xs : List ℕ) → total (map (λ n. 2 * n) xs) ≡ 2 * total xs
doubled [] = refl
doubled (x ∷ xs) = let e = doubled xs in omega (arith, e)

pub starts_below : (n m : ℕ) (sizes : List ℕ) → n + total sizes ≤ m → AllByRecursion (λ x. x ≤ m) (starts n sizes)
starts_below n m [] h = tt
starts_below n m (k ∷ sizes) h = (omega (arith, h), starts_below (n + k) m sizes (omega (arith, h)))

pub near_below : (m : ℕ) (xs : List ℕ) → IsNear m → AllByRecursion (λ x. x ≤ m) xs → AllByRecursion IsNear xs
near_below m [] h a = tt
near_below m (x ∷ xs) h a = (omega (arith, h, a.0), near_below m xs h a.1)

module _ (p : Placed) where
  pub block_count_is : length (block_words p) ≡ block_count p
  block_count_is =
      let t = map string_words p.texts in
      let x = map string_words p.exns in
      let n = map name_words exceptions in
      let c : List ℕ = map (λ f. code_words) p.functions in
      omega (arith, length-append t (x ++ (n ++ (c ++ code_words ∷ []))), length-append x (n ++ (c ++ code_words ∷ [])), length-append c (code_words ∷ []), length-map p.texts string_words, length-map p.exns string_words, length-map p.functions (λ f. code_words))

  pub places_count : length (block_places p) ≡ block_count p
  places_count = starts_length (read_only_place p) (map (λ n. 2 * n) (block_words p)) ∙ length-map (block_words p) (λ n. 2 * n) ∙ block_count_is

  abbrev starting : List (Option ℕ)
  starting = map Some (function_places p) ++ Some (start_place p) ∷ []

  abbrev routines : List (Option ℕ)
  routines = map Some (routine_places p)

  abbrev unbound : List (Option ℕ)
  unbound = replicate (block_count p) no_place

  abbrev last : List (Option ℕ)
  last = replicate datum_count no_place

  functions_count : length (function_places p) ≡ length p.functions
  functions_count = starts_length (functions_place p) (map (λ f. words (function_items p f)) p.functions) ∙ length-map p.functions (λ f. words (function_items p f))

  starting_count : length starting ≡ texts_label p
  starting_count = omega (arith, length-append (map Some (function_places p)) (Some (start_place p) ∷ []), length-map (function_places p) Some, functions_count)

  routines_count : length routines ≡ 18
  routines_count = refl

  -- the labels of blocks stand between others, and those of data behind all
  around_blocks : (text_program p).places ≡ starting ++ (unbound ++ (routines ++ last))
  around_blocks = sym (append_assoc (map Some (function_places p)) (Some (start_place p) ∷ []) (unbound ++ (routines ++ last)))

  in_front : (blocks : List (Option ℕ)) → length blocks ≡ block_count p → length (starting ++ (blocks ++ routines)) ≡ routines_label p + 18
  in_front blocks e = omega (arith, length-append starting (blocks ++ routines), length-append blocks routines, starting_count, routines_count, e)

  behind_all : (blocks : List (Option ℕ)) → starting ++ (blocks ++ (routines ++ last)) ≡ (starting ++ (blocks ++ routines)) ++ (last ++ [])
  behind_all blocks =
      ap (λ ws. starting ++ ws) (sym (append_assoc blocks routines last))
      ∙ sym (append_assoc starting (blocks ++ routines) last)
      ∙ ap (λ ws. (starting ++ (blocks ++ routines)) ++ ws) (sym (append-nil last))

  -- ---- Free labels

  pub blocks_free : (q : Program) (l j : ℕ) (at : List ℕ) → q ≡ text_program p → l ≡ texts_label p → at ≡ block_places p → j < length at → IsFree q (l + j)
  blocks_free q l j at is e f h =
      ap (λ x. slice_get x.places (l + j)) is
      ∙ ap (λ n. slice_get (text_program p).places (n + j)) e
      ∙ ap (λ ws. slice_get ws (texts_label p + j)) around_blocks
      ∙ free_between starting (routines ++ last) (texts_label p) (block_count p) j starting_count (omega (arith, h, ap length f, places_count))

  pub known_free : (q : Program) (l j : ℕ) → q ≡ text_program p → l ≡ routines_label p → j < 10 → IsFree q (l + 18 + j)
  known_free q l j is e h =
      ap (λ x. slice_get x.places (l + 18 + j)) is
      ∙ ap (λ n. slice_get (text_program p).places (n + 18 + j)) e
      ∙ ap (λ ws. slice_get ws (routines_label p + 18 + j)) (around_blocks ∙ behind_all unbound)
      ∙ free_between (starting ++ (unbound ++ routines)) [] (routines_label p + 18) 10 j (in_front unbound (length-replicate (block_count p) no_place)) h

  -- ---- All labels bound

  pub all_bound : (q z : Program) (l r aw : ℕ) (blocks known : List ℕ) → q ≡ text_program p → l ≡ texts_label p → r ≡ routines_label p → blocks ≡ block_places p → known ≡ datum_places p aw →
      z ≡ with_places (with_places q l blocks) (r + 18) known → z ≡ program_of p aw
  all_bound q z l r aw blocks known is le re be ke done =
      let b = block_places p in
      let d = datum_places p aw in
      let bs : List (Option ℕ) = map Some b in
      let once : bound_from (texts_label p) b (text_program p).places ≡ starting ++ (bs ++ (routines ++ last)) =
      ap (bound_from (texts_label p) b) around_blocks ∙ bound_between (texts_label p) b starting unbound (routines ++ last) starting_count (length-replicate (block_count p) no_place ∙ sym places_count) in
      let twice : bound_from (routines_label p + 18) d (starting ++ (bs ++ (routines ++ last))) ≡ (starting ++ (bs ++ routines)) ++ (map Some d ++ []) =
      ap (bound_from (routines_label p + 18) d) (behind_all bs)
      ∙ bound_between (routines_label p + 18) d (starting ++ (bs ++ routines)) last [] (in_front bs (length-map b Some ∙ places_count)) refl in
      let flat : (starting ++ (bs ++ routines)) ++ (map Some d ++ []) ≡ map Some (label_places p aw) =
      ap (λ ws. (starting ++ (bs ++ routines)) ++ ws) (append-nil (map Some d))
      ∙ append_assoc starting (bs ++ routines) (map Some d)
      ∙ ap (λ ws. starting ++ ws) (append_assoc bs routines (map Some d))
      ∙ append_assoc (map Some (function_places p)) (Some (start_place p) ∷ []) (bs ++ (routines ++ map Some d))
      ∙ ap (λ ws. map Some (function_places p) ++ Some (start_place p) ∷ (bs ++ ws)) (sym (map-append Some (routine_places p) d))
      ∙ ap (λ ws. map Some (function_places p) ++ Some (start_place p) ∷ ws) (sym (map-append Some b (routine_places p ++ d)))
      ∙ sym (map-append Some (function_places p) (start_place p ∷ (b ++ (routine_places p ++ d)))) in
      done
      ∙ ap (λ x. with_places (with_places x l blocks) (r + 18) known) is
      ∙ ap (λ n. with_places (with_places (text_program p) n blocks) (r + 18) known) le
      ∙ ap (λ n. with_places (with_places (text_program p) (texts_label p) blocks) (n + 18) known) re
      ∙ ap (λ ws. with_places (with_places (text_program p) (texts_label p) ws) (routines_label p + 18) known) be
      ∙ ap (λ ws. with_places (with_places (text_program p) (texts_label p) b) (routines_label p + 18) ws) ke
      ∙ ap (λ ws. record { items = text p; places = ws }) (ap (bound_from (routines_label p + 18) d) once ∙ twice ∙ flat)

  -- ---- The data that routines know

  pub known_is : (s : Places) (blocks : List ℕ) (names aw : ℕ) → s.read_only ≡ read_only_place p → s.line ≡ line_place p → s.writable ≡ writable_place p → s.arena ≡ arena_place p → s.end ≡ end_place p aw →
      blocks ≡ block_places p → names ≡ length p.texts + length p.exns → data_from s blocks names ≡ datum_places p aw
  known_is s blocks names aw er el ew ea ee eb en =
      let D : ℕ → ℕ → ℕ → ℕ → List ℕ → ℕ → List ℕ = λ w a e l b n. data_from (record { read_only = s.read_only; line = l; writable = w; arena = a; end = e }) b n in
      ap (λ w. D w s.arena s.end s.line blocks names) ew
      ∙ ap (λ a. D (writable_place p) a s.end s.line blocks names) ea
      ∙ ap (λ e. D (writable_place p) (arena_place p) e s.line blocks names) ee
      ∙ ap (λ l. D (writable_place p) (arena_place p) (end_place p aw) l blocks names) el
      ∙ ap (λ b. D (writable_place p) (arena_place p) (end_place p aw) (line_place p) b names) eb
      ∙ ap (D (writable_place p) (arena_place p) (end_place p aw) (line_place p) (block_places p)) en

  -- ---- All near

  data_below : (aw : ℕ) → read_only_place p + 2 * data_words p + 2048 ≤ end_place p aw
  data_below aw = omega arith

  pub blocks_below : (m : ℕ) → read_only_place p + 2 * data_words p ≤ m → AllByRecursion (λ x. x ≤ m) (block_places p)
  blocks_below m h = starts_below (read_only_place p) m (map (λ n. 2 * n) (block_words p)) (omega (arith, h, doubled (block_words p)))

  name_below : (k m : ℕ) → read_only_place p + 2 * data_words p ≤ m → k < length (block_places p) → get_or (block_places p) k 0 ≤ m
  name_below k m h l = All-from_recursion (λ x. x ≤ m) (block_places p) (blocks_below m h) k 0 l

  pub known_below : (aw : ℕ) → AllByRecursion (λ x. x ≤ end_place p aw) (datum_places p aw)
  known_below aw =
      let d = data_below aw in
      let c = places_count in
      let e : read_only_place p + 2 * data_words p ≤ end_place p aw = omega (arith, d) in
      let base = length p.texts + length p.exns in (
        omega arith,
        (
          omega arith,
          (
            omega arith,
            (
              omega arith,
              (
                name_below (base + 3) _ e (omega (arith, c)),
                (
                  name_below (base + 2) _ e (omega (arith, c)),
                  (
                    name_below (base + 4) _ e (omega (arith, c)),
                    (
                      name_below (base + 5) _ e (omega (arith, c)),
                      (omega (arith, d), (omega (arith, d), tt)),
                    ),
                  ),
                ),
              ),
            ),
          ),
        ),
      )

  pub blocks_near : (aw : ℕ) (at : List ℕ) → IsNear (end_place p aw) → at ≡ block_places p → All IsNear at
  blocks_near aw at h e = subst (All IsNear) (sym e) (All-from_recursion IsNear (block_places p) (near_below (end_place p aw) (block_places p) h (blocks_below (end_place p aw) (omega (arith, data_below aw)))))

  pub known_near : (aw : ℕ) (known : List ℕ) → IsNear (end_place p aw) → known ≡ datum_places p aw → All IsNear known
  known_near aw known h e = subst (All IsNear) (sym e) (All-from_recursion IsNear (datum_places p aw) (near_below (end_place p aw) (datum_places p aw) h (known_below aw)))

  pub blocks_is : (slice items sizes kept : List ℕ) (start : ℕ) → slice ≡ items → items ≡ starts start (map (λ n. 2 * n) sizes) → start ≡ read_only_place p → sizes ≡ kept → kept ≡ block_words p → slice ≡ block_places p
  blocks_is slice items sizes kept start e f g h k =
      e ∙ f ∙ ap (λ n. starts n (map (λ n. 2 * n) sizes)) g ∙ ap (λ ws. starts (read_only_place p) (map (λ n. 2 * n) ws)) (h ∙ k)
