-- How long text and data are, and that all labels are near.
use Rattle.std.proofs.Common.{◌≡◌, ℕ, zero, suc, ◌+◌, ◌-◌, ◌*◌, ◌%◌, ◌^◌, ◌≤◌, ◌<◌, List, [], ◌∷◌, ◌++◌, Some, IsSome, length, map, refl, sym, ap, ◌∙◌, subst, arith, length-append}
use Rattle.std.specs.Prelude.{replicate}
use Rattle.std.specs.List.{All, AllByRecursion, flat_map}
use Rattle.std.proofs.lemmas.List.{length-map, length-replicate}
use Rattle.std.proofs.lemmas.List.Sums.{sum_by-append, sum_by-cons}
use Rattle.std.proofs.lemmas.List.Elements.{All-from_recursion}
use Rattle.smlc_base.specs.declared.exception.LibraryExn.{LibraryExn}
use Rattle.smlc_base.specs.Exceptions.{exn_text}
use Rattle.rv_asm.specs.declared.item.Item.TheVariants.{Jump}
use Rattle.rv_asm.specs.Item.{size, words, IsNear}
use Rattle.rv_asm.specs.Layout.{code_of, address, addresses}
use Rattle.rv_asm.specs.Program.{Program, IsReady}
use Rattle.rv_asm.proofs.Lists.{length-bytes_of, length-code_from}
use Rattle.rt_prims.specs.declared.line.Routine.TheVariants.{Uncaught}
use Rattle.rt_prims.specs.Lines.{number, item_of}
use Rattle.rt_prims.specs.Text.{lines_of, order, items_of}
use Rattle.placed_ir.specs.declared.body.Function.{Function}
use Rattle.placed_ir.specs.Program.{Placed}
use Rattle.emit_items.specs.Making.{header}
use Rattle.emit_text.specs.Labels.{start_label, names_label, routines_label}
use Rattle.emit_text.specs.Text.{total, first, function_items, start_items, text, routine_places, start_place, functions_place, function_places}
use Rattle.emit_text.proofs.Bounds.{starts_length, total_both}
use Rattle.emit_text.proofs.Pieces.{total_words}
use Rattle.emit_text.proofs.Wholes.{routines_words}
use Rattle.emit_data.specs.Blocks.{string_words, name_words, code_words, exceptions, line_front, line_back, word, string_block, name_block, code_block, names_from, closures_from, handler_tag, read_only}
use Rattle.emit_data.specs.Places.{data_words, block_places, end_place, datum_places}
use Rattle.emit_data.specs.Program.{label_places, program_of}
use Rattle.emit_data.proofs.Bindings.{places_count, starts_below, blocks_below, known_below}
use Rattle.rv_codegen.specs.Image.{base, text_bytes}

-- ---- Data

word_length : (n : ℕ) → length (word n) ≡ 8
unfolding word
word_length n = refl

string_length : (s : List ℕ) → length (string_block s) ≡ 8 * string_words s
unfolding string_block
string_length s =
    let pad : List ℕ = replicate ((8 - length s % 8) % 8) 0 in
    let h = header 2 0 (length s) in
    omega (arith, length-append (word h) (s ++ pad), word_length h, length-append s pad, length-replicate {A = ℕ} ((8 - length s % 8) % 8) 0)

name_length : (at : ℕ) (s : List ℕ) → length (name_block at s) ≡ 8 * (2 + string_words s)
unfolding name_block
name_length at s =
    let h = header 4 0 1 in
    omega (arith, length-append (word h) (word (at + 16) ++ string_block s), length-append (word (at + 16)) (string_block s), word_length h, word_length (at + 16), string_length s)

code_length : (tag at : ℕ) → length (code_block tag at) ≡ 16
unfolding code_block
code_length tag at =
    let h = header 6 tag 1 in
    omega (arith, length-append (word h) (word at), word_length h, word_length at)

strings_length : (texts : List (List ℕ)) → length (flat_map string_block texts) ≡ 8 * total (map string_words texts)
strings_length [] = refl
strings_length (s ∷ texts) = let e = strings_length texts in omega (arith, length-append (string_block s) (flat_map string_block texts), string_length s, e)

names_length : (at : ℕ → ℕ) (label : ℕ) (exns : List LibraryExn) → length (names_from at label exns) ≡ 8 * total (map name_words exns)
names_length at label [] = refl
names_length at label (e ∷ exns) =
    let l = names_length at (label + 1) exns in
    omega (arith, length-append (name_block (at label) (exn_text e)) (names_from at (label + 1) exns), name_length (at label) (exn_text e), l)

closures_length : (at : ℕ → ℕ) (n label : ℕ) → length (closures_from at n label) ≡ 16 * n
closures_length at zero label = refl
closures_length at (suc n) label =
    let l = closures_length at n (label + 1) in
    omega (arith, length-append (code_block label (at label)) (closures_from at n (label + 1)), code_length label (at label), l)

codes_total : (fs : List Function) → total (map (λ f. code_words) fs) ≡ 2 * length fs
codes_total [] = refl
codes_total (f ∷ fs) = let e = codes_total fs in omega (arith, e)

module _ (p : Placed) where
  pub data_length : (at : ℕ → ℕ) → length (read_only p at) ≡ 8 * data_words p
  data_length at =
      let t = flat_map string_block p.texts in
      let x = flat_map string_block p.exns in
      let n = names_from at (names_label p) exceptions in
      let c = closures_from at (length p.functions) 0 in
      let last = at (routines_label p + number Uncaught) in
      let h = code_block handler_tag last in
      let f = string_block line_front in
      let b = string_block line_back in
      let tw = map string_words p.texts in
      let xw = map string_words p.exns in
      let nw = map name_words exceptions in
      let cw : List ℕ = map (λ f. code_words) p.functions in
      omega (
        arith,
        length-append t (x ++ (n ++ (c ++ (h ++ (f ++ b))))),
        length-append x (n ++ (c ++ (h ++ (f ++ b)))),
        length-append n (c ++ (h ++ (f ++ b))),
        length-append c (h ++ (f ++ b)),
        length-append h (f ++ b),
        length-append f b,
        strings_length p.texts,
        strings_length p.exns,
        names_length at (names_label p) exceptions,
        closures_length at (length p.functions) 0,
        code_length handler_tag last,
        string_length line_front,
        string_length line_back,
        total_both tw (xw ++ (nw ++ (cw ++ code_words ∷ []))),
        total_both xw (nw ++ (cw ++ code_words ∷ [])),
        total_both nw (cw ++ code_words ∷ []),
        total_both cw (code_words ∷ []),
        codes_total p.functions,
      )

  -- ---- Text

  pub text_length : (aw : ℕ) → length (text_bytes p aw) ≡ 4 * words (text p)
  text_length aw = length-bytes_of (code_of (program_of p aw)) ∙ ap (λ n. 4 * n) (length-code_from (program_of p aw).places 0 (text p))

  text_near : (aw : ℕ) → words (text p) ≤ end_place p aw
  text_near aw = omega arith

  text_parts : words (text p) ≡ functions_place p + words (flat_map (function_items p) p.functions)
  text_parts =
      let r = items_of (routines_label p) order in
      let f = function_items p (first p) in
      let g = flat_map (function_items p) p.functions in
      let s = start_items p in
      omega (arith, sum_by-cons size (Jump (start_label p)) (r ++ (s ++ (f ++ g))), sum_by-append size r (s ++ (f ++ g)), sum_by-append size s (f ++ g), sum_by-append size f g)

  -- ---- Labels

  pub labels_count : (aw : ℕ) → length (label_places p aw) ≡ routines_label p + 28
  labels_count aw =
      let b = block_places p in
      let r = routine_places p in
      let d = datum_places p aw in
      let f = function_places p in
      omega (arith, length-append f (start_place p ∷ (b ++ (r ++ d))), length-append b (r ++ d), length-append r d, starts_length (functions_place p) (map (λ f. words (function_items p f)) p.functions), length-map p.functions (λ f. words (function_items p f)), places_count p)

  pub addresses_count : (aw : ℕ) (at : List ℕ) → at ≡ addresses base (program_of p aw).places → routines_label p + 28 ≤ length at
  addresses_count aw at e =
      omega (arith, ap length e, length-map (map Some (label_places p aw)) (address base), length-map (label_places p aw) Some, labels_count aw)

  below_both : (m : ℕ) (xs ys : List ℕ) → AllByRecursion (λ x. x ≤ m) xs → AllByRecursion (λ x. x ≤ m) ys → AllByRecursion (λ x. x ≤ m) (xs ++ ys)
  below_both m [] ys a b = b
  below_both m (x ∷ xs) ys a b = (a.0, below_both m xs ys a.1 b)

  functions_below : (m : ℕ) → words (text p) ≤ m → AllByRecursion (λ x. x ≤ m) (function_places p)
  functions_below m h = starts_below (functions_place p) m (map (λ f. words (function_items p f)) p.functions) (omega (arith, h, text_parts, total_words (function_items p) p.functions))

  routines_total : total (map (λ r. words (map (item_of (routines_label p)) (lines_of r))) order) ≡ 489
  unfolding lines_of
  routines_total = refl

  routines_below : (m : ℕ) → 491 ≤ m → AllByRecursion (λ x. x ≤ m) (routine_places p)
  routines_below m h = starts_below 2 m (map (λ r. words (map (item_of (routines_label p)) (lines_of r))) order) (omega (arith, h, routines_total))

  all_below : (aw : ℕ) → AllByRecursion (λ x. x ≤ end_place p aw) (label_places p aw)
  all_below aw =
      let m = end_place p aw in
      let t = text_near aw in
      let r = routines_words (routines_label p) in
      let f = function_places p in
      let b = block_places p in
      let o = routine_places p in
      let d = datum_places p aw in
      let start : start_place p ≤ m = omega (arith, t, text_parts) in
      below_both m f (start_place p ∷ (b ++ (o ++ d))) (functions_below m t)
      (start, below_both m b (o ++ d) (blocks_below p m (omega arith)) (below_both m o d (routines_below m (omega (arith, start, r))) (known_below p aw)))

  pub all_low : (aw : ℕ) (at : List ℕ) → IsNear (end_place p aw) → at ≡ addresses base (program_of p aw).places → All (λ a. a < 2 ^ 63) at
  all_low aw at h e = subst (All (λ a. a < 2 ^ 63)) (sym e) (All-from_recursion (λ a. a < 2 ^ 63) (addresses base (map Some (label_places p aw))) (low (label_places p aw) (all_below aw)))
    where
      low : (xs : List ℕ) → AllByRecursion (λ x. x ≤ end_place p aw) xs → AllByRecursion (λ a. a < 2 ^ 63) (addresses base (map Some xs))
      low [] a = tt
      low (x ∷ xs) a = (omega (arith, h, a.0), low xs a.1)

  pub ready : (q : Program) (aw : ℕ) → q ≡ program_of p aw → IsNear (end_place p aw) → IsReady q base
  ready q aw e h =
      subst (λ x. IsReady x base) (sym e) (record {
        bound = All-from_recursion IsSome (map Some (label_places p aw)) (all_bound (label_places p aw));
        aligned = refl;
        low = omega arith;
        near = let n = text_near aw in omega (arith, h, n);
      })
    where
      all_bound : (xs : List ℕ) → AllByRecursion IsSome (map Some xs)
      all_bound [] = tt
      all_bound (x ∷ xs) = (refl, all_bound xs)
