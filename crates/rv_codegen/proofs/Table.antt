-- The table of entries is right.
use Rattle.std.proofs.Common.{◌≡◌, ◌≢◌, ◌⊎◌, inl, inr, ℕ, zero, suc, ◌+◌, ◌*◌, ◌≤◌, ◌<◌, List, [], ◌∷◌, ◌++◌, Some, length, get_or, map, refl, sym, ap, ◌∙◌, arith, Bool, true, false, cond}
use Rattle.std.specs.Prelude.{AllPairs, nat_lt}
use Rattle.std.proofs.lemmas.List.{length-map}
use Rattle.smlc_base.specs.declared.point.Point.{Point}
use Rattle.rv_asm.specs.Item.{words}
use Rattle.rv_asm.specs.Layout.{addresses}
use Rattle.rt_prims.specs.Text.{lines_of}
use Rattle.placed_ir.specs.Program.{Placed}
use Rattle.elf_static.specs.declared.image.EntryRow.{EntryRow}
use Rattle.elf_static.specs.Table.{HaveOtherAddresses}
use Rattle.emit_text.specs.Labels.{routines_label}
use Rattle.emit_text.specs.Text.{function_items, start_place, functions_place, function_places, routine_places}
use Rattle.emit_text.proofs.Bounds.{starts_length}
use Rattle.emit_text.proofs.Wholes.{routines_words}
use Rattle.emit_data.specs.Places.{block_places, datum_places}
use Rattle.emit_data.specs.Program.{label_places}
use Rattle.emit_data.proofs.Bindings.{places_count}
use Rattle.rv_codegen.specs.Image.{base, entry_label, rows_from, address_of}
use Rattle.rv_codegen.proofs.Filled.{sizes_filled, starts_from, starts_rise}
use Rattle.rv_codegen.proofs.Lengths.{labels_count}

split : (a b : ℕ) → (a < b) ⊎ (b ≤ a)
split zero zero = inr (omega arith)
split zero (suc b) = inl (omega arith)
split (suc a) zero = inr (omega arith)
split (suc a) (suc b) = more (split a b)
  where
    more : (a < b) ⊎ (b ≤ a) → (suc a < suc b) ⊎ (suc b ≤ suc a)
    more (inl h) = inl (omega (arith, h))
    more (inr h) = inr (omega (arith, h))

get_first : (xs ys : List ℕ) (i : ℕ) → i < length xs → get_or (xs ++ ys) i 0 ≡ get_or xs i 0
get_first [] ys i h = absurd (omega arith)
get_first (x ∷ xs) ys zero h = refl
get_first (x ∷ xs) ys (suc i) h = get_first xs ys i (omega arith)

get_last : (xs ys : List ℕ) (n i : ℕ) → length xs ≡ n → get_or (xs ++ ys) (n + i) 0 ≡ get_or ys i 0
get_last [] ys n i e = ap (λ k. get_or ys k 0) (omega (arith, e))
get_last (x ∷ xs) ys zero i e = absurd (omega (arith, e))
get_last (x ∷ xs) ys (suc n) i e =
    let s : suc n + i ≡ suc (n + i) = omega arith in
    ap (λ k. get_or (x ∷ (xs ++ ys)) k 0) s ∙ get_last xs ys n i (omega (arith, e))

address_at : (xs : List ℕ) (i : ℕ) → i < length xs → get_or (addresses base (map Some xs)) i 0 ≡ base + 4 * get_or xs i 0
address_at [] i h = absurd (omega arith)
address_at (x ∷ xs) zero h = refl
address_at (x ∷ xs) (suc i) h = address_at xs i (omega arith)

module _ (p : Placed) where
  -- ---- Rows

  module _ (at : ℕ → ℕ) where
    pub rows_count : (l : ℕ) (points : List Point) → length (rows_from p at l points) ≡ length points
    rows_count l [] = refl
    rows_count l (x ∷ points) = let e = rows_count (l + 1) points in omega (arith, e)

    pub row_label : (l : ℕ) (points : List Point) (i : ℕ) (d : EntryRow) → i < length points → (get_or (rows_from p at l points) i d).label.0 ≡ l + i
    row_label l [] i d h = absurd (omega arith)
    row_label l (x ∷ points) zero d h = omega arith
    row_label l (x ∷ points) (suc i) d h = let e = row_label (l + 1) points i d (omega arith) in omega (arith, e)

    pub row_address : (l : ℕ) (points : List Point) (i : ℕ) (d : EntryRow) → i < length points → (get_or (rows_from p at l points) i d).address ≡ at (entry_label p (l + i))
    row_address l [] i d h = absurd (omega arith)
    row_address l (x ∷ points) zero d h = ap (λ n. at (entry_label p n)) (omega arith)
    row_address l (x ∷ points) (suc i) d h =
        let s : (l + 1) + i ≡ l + suc i = omega arith in
        row_address (l + 1) points i d (omega arith) ∙ ap (λ n. at (entry_label p n)) s

  -- ---- Addresses

  module _ (aw : ℕ) where
    abbrev sizes : List ℕ
    sizes = map (λ f. words (function_items p f)) p.functions

    functions_count : length (function_places p) ≡ length p.functions
    functions_count = starts_length (functions_place p) sizes ∙ length-map p.functions (λ f. words (function_items p f))

    at_function : (l : ℕ) → l < length p.functions → address_of p aw l ≡ base + 4 * get_or (function_places p) l 0
    at_function l h =
        address_at (label_places p aw) l (omega (arith, h, labels_count p aw))
        ∙ ap (λ n. base + 4 * n) (get_first (function_places p) (start_place p ∷ (block_places p ++ (routine_places p ++ datum_places p aw))) l (omega (arith, h, functions_count)))

    turn_place : get_or (routine_places p) 17 0 ≡ 435
    unfolding lines_of
    turn_place = refl

    at_turn : address_of p aw (routines_label p + 17) ≡ base + 4 * 435
    at_turn =
        let f = function_places p in
        let b = block_places p in
        let r = routine_places p in
        let d = datum_places p aw in
        let n = length p.functions in
        let here : routines_label p + 17 ≡ n + suc (length b + 17) = omega (arith, places_count p) in
        let next : get_or (start_place p ∷ (b ++ (r ++ d))) (suc (length b + 17)) 0 ≡ get_or (b ++ (r ++ d)) (length b + 17) 0 = refl in
        address_at (label_places p aw) (routines_label p + 17) (omega (arith, labels_count p aw))
        ∙ ap (λ k. base + 4 * get_or (label_places p aw) k 0) here
        ∙ ap (λ k. base + 4 * k) (get_last f (start_place p ∷ (b ++ (r ++ d))) n (suc (length b + 17)) functions_count ∙ next ∙ get_last b (r ++ d) (length b) 17 refl ∙ get_first r d 17 (omega arith) ∙ turn_place)

    entry_here : (l : ℕ) → l < length p.functions → entry_label p l ≡ l
    entry_here l h = here (nat_lt l (length p.functions)) refl
      where
        here : (b : Bool) → nat_lt l (length p.functions) ≡ b → cond b l (routines_label p + 17) ≡ l
        here true e = refl
        here false e = absurd (grind (arith, h, e))

    entry_turn : (l : ℕ) → length p.functions ≤ l → entry_label p l ≡ routines_label p + 17
    entry_turn l h = there (nat_lt l (length p.functions)) refl
      where
        there : (b : Bool) → nat_lt l (length p.functions) ≡ b → cond b l (routines_label p + 17) ≡ routines_label p + 17
        there true e = absurd (grind (arith, h, e))
        there false e = refl

    apart : (i j : ℕ) → length p.points ≤ suc (length p.functions) → i < j → j < length p.points → address_of p aw (entry_label p i) ≢ address_of p aw (entry_label p j)
    apart i j few h l =
        let n = length p.functions in
        let in_front : i < n = omega (arith, few, h, l) in
        let here = ap (address_of p aw) (entry_here i in_front) ∙ at_function i in_front in
        apart_from i j in_front here (split j n) h
      where
        apart_from : (i j : ℕ) → i < length p.functions → address_of p aw (entry_label p i) ≡ base + 4 * get_or (function_places p) i 0 → (j < length p.functions) ⊎ (length p.functions ≤ j) → i < j → address_of p aw (entry_label p i) ≢ address_of p aw (entry_label p j)
        apart_from i j f here (inl g) h =
            let there = ap (address_of p aw) (entry_here j g) ∙ at_function j g in
            let rise = starts_rise (functions_place p) sizes i j (sizes_filled p p.functions) h (omega (arith, g, length-map p.functions (λ f. words (function_items p f)))) in
            λ e. absurd (omega (arith, e, here, there, rise))
        apart_from i j f here (inr g) h =
            let there = ap (address_of p aw) (entry_turn j g) ∙ at_turn in
            let far = starts_from (functions_place p) sizes i (omega (arith, f, length-map p.functions (λ f. words (function_items p f)))) in
            let start : start_place p ≡ 491 = omega (arith, routines_words (routines_label p)) in
            λ e. absurd (omega (arith, e, here, there, far, start))

    pub rows_apart : (points : List Point) → points ≡ p.points → length points ≤ suc (length p.functions) → AllPairs HaveOtherAddresses (rows_from p (address_of p aw) 0 points)
    rows_apart points is few i j d h l =
        let at = address_of p aw in
        let many : j < length points = omega (arith, l, rows_count at 0 points) in
        let one = row_address at 0 points i d (omega (arith, h, many)) in
        let two = row_address at 0 points j d many in
        let zi : 0 + i ≡ i = omega arith in
        let zj : 0 + j ≡ j = omega arith in
        let differ = apart i j (omega (arith, few, ap length is)) h (omega (arith, many, ap length is)) in
        λ e. differ (sym (one ∙ ap (λ k. at (entry_label p k)) zi) ∙ e ∙ two ∙ ap (λ k. at (entry_label p k)) zj)
