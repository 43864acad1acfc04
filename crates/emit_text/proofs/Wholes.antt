-- The text, put together.
use Rattle.std.proofs.Common.{◌≡◌, ◌≢◌, ℕ, suc, ◌+◌, ◌<◌, List, [], ◌∷◌, ◌++◌, Option, Some, None, length, map, refl, sym, ap, ◌∙◌, arith}
use Rattle.std.specs.Prelude.{slice_get, slice_set, replicate}
use Rattle.std.specs.List.{flat_map}
use Rattle.std.proofs.lemmas.List.{append_assoc, length-map, length-replicate, replicate-append-replicate}
use Rattle.std.proofs.lemmas.List.Sums.{sum_by-append, sum_by-cons}
use Rattle.rv_asm.specs.declared.item.Item.{Item}
use Rattle.rv_asm.specs.declared.item.Item.TheVariants.{Jump}
use Rattle.rv_asm.specs.Item.{size, words}
use Rattle.rv_asm.specs.Program.{Program, IsFree}
use Rattle.rt_prims.specs.Text.{lines_of, order, items_of}
use Rattle.placed_ir.specs.declared.body.Body.{Body}
use Rattle.placed_ir.specs.declared.body.Function.{Function}
use Rattle.placed_ir.specs.Program.{Placed, function_code}
use Rattle.emit_items.specs.declared.labels.Labels.{Labels}
use Rattle.emit_items.specs.Body as whole
use Rattle.emit_text.specs.Labels.{start_label, routines_label, labels_of}
use Rattle.emit_text.specs.Text.{starts, datum_count, first, function_items, start_items, text, routine_places, start_place, functions_place, function_places, block_count, text_program}
use Rattle.emit_text.specs.Bound.{bound_from, with_items}
use Rattle.emit_text.specs.Begun.{begun, started}
use Rattle.emit_text.proofs.Bounds.{get_front, set_seam, set_other, bound_between, get_same, starts_length}

abbrev no_place : Option ℕ
no_place = None

-- all routines together
pub routines_words : (from : ℕ) → words (items_of from order) ≡ 489
unfolding lines_of
routines_words from = refl

module _ (p : Placed) where
  abbrev bound : List (Option ℕ)
  bound = map Some (routine_places p) ++ replicate datum_count no_place

  abbrev behind : List (Option ℕ)
  behind = replicate (block_count p) no_place ++ bound

  -- the start's label alone
  start_bound : (started p).places ≡ replicate (start_label p) no_place ++ Some (start_place p) ∷ behind
  start_bound =
      let n = start_label p in
      let parts : replicate (routines_label p) no_place ≡ replicate n no_place ++ None ∷ replicate (block_count p) no_place =
      ap (λ k. replicate k no_place) (omega arith) ∙ sym (replicate-append-replicate n (suc (block_count p)) no_place) in
      ap (λ ws. slice_set (ws ++ bound) n (Some (start_place p))) parts
      ∙ ap (λ ws. slice_set ws n (Some (start_place p))) (append_assoc (replicate n no_place) (None ∷ replicate (block_count p) no_place) bound)
      ∙ set_seam (replicate n no_place) None behind n (Some (start_place p)) (length-replicate n no_place)

  abbrev main : Program
  main = with_items (started p) (function_items p (first p))

  main_words : words main.items ≡ functions_place p
  main_words =
      let r = items_of (routines_label p) order in
      let f = function_items p (first p) in
      omega (arith, sum_by-append size ((begun p).items ++ start_items p) f, sum_by-append size (begun p).items (start_items p), sum_by-cons size (Jump (start_label p)) r)

  pub text_parts : main.items ++ flat_map (function_items p) p.functions ≡ text p
  text_parts =
      let r = items_of (routines_label p) order in
      let f = function_items p (first p) in
      let g = flat_map (function_items p) p.functions in
      let s = start_items p in
      let j : List Item = Jump (start_label p) ∷ r in
      append_assoc (j ++ s) f g ∙ append_assoc j s (f ++ g)

  places_parts : bound_from 0 (starts (words main.items) (map (λ f. words (function_items p f)) p.functions)) main.places ≡ (text_program p).places
  places_parts =
      let sizes = map (λ f. words (function_items p f)) p.functions in
      let n = start_label p in
      let long : n ≡ length (function_places p) = sym (starts_length (functions_place p) sizes ∙ length-map p.functions (λ f. words (function_items p f))) in
      ap (λ k. bound_from 0 (starts k sizes) (started p).places) main_words
      ∙ ap (bound_from 0 (function_places p)) start_bound
      ∙ bound_between 0 (function_places p) [] (replicate n no_place) (Some (start_place p) ∷ behind) refl (length-replicate n no_place ∙ long)

  -- ---- As it is made

  abbrev code : Labels → List Body → Function → List Item
  code L bodies f = whole.items L 0 (function_code bodies f)

  main_is : (s m : Program) (L : Labels) (bodies : List Body) (frame : ℕ) → s ≡ started p → L ≡ labels_of p → bodies ≡ p.bodies → frame ≡ p.frame → m ≡ with_items s (code L bodies (record { body = 0; frame = frame })) → m ≡ main
  main_is s m L bodies frame e l b f is =
      is
      ∙ ap (λ x. with_items x (code L bodies (record { body = 0; frame = frame }))) e
      ∙ ap (λ K. with_items (started p) (code K bodies (record { body = 0; frame = frame }))) l
      ∙ ap (λ bs. with_items (started p) (code (labels_of p) bs (record { body = 0; frame = frame }))) b
      ∙ ap (λ n. with_items (started p) (code (labels_of p) p.bodies (record { body = 0; frame = n }))) f

  pub main_free : (s m : Program) (xs : List Item) → s ≡ started p → m ≡ with_items s xs → (l : ℕ) → l < start_label p → IsFree m l
  main_free s m xs e is l h =
      let n = start_label p in
      let before : List (Option ℕ) = replicate (routines_label p) no_place in
      let other : l ≢ n = λ x. absurd (omega arith) in
      ap (λ x. slice_get x.places l) is
      ∙ ap (λ x. slice_get x.places l) e
      ∙ set_other (begun p).places n l (Some (start_place p)) other
      ∙ get_front before bound l (omega (arith, length-replicate (routines_label p) no_place))
      ∙ get_same (routines_label p) l (omega arith)

  pub whole_is : (s m z : Program) (L : Labels) (bodies : List Body) (frame : ℕ) (fs : List Function) → s ≡ started p → L ≡ labels_of p → bodies ≡ p.bodies → frame ≡ p.frame → fs ≡ p.functions →
      m ≡ with_items s (code L bodies (record { body = 0; frame = frame })) → z.items ≡ m.items ++ flat_map (code L bodies) fs → z.places ≡ bound_from 0 (starts (words m.items) (map (λ f. words (code L bodies f)) fs)) m.places →
      z ≡ text_program p
  whole_is s m z L bodies frame fs e l b f g is items places =
      let here = main_is s m L bodies frame e l b f is in
      let all_items : z.items ≡ text p =
      items ∙ ap (λ x. x.items ++ flat_map (code L bodies) fs) here ∙ ap (λ K. main.items ++ flat_map (code K bodies) fs) l
      ∙ ap (λ bs. main.items ++ flat_map (code (labels_of p) bs) fs) b ∙ ap (λ hs. main.items ++ flat_map (code (labels_of p) p.bodies) hs) g ∙ text_parts in
      let all_places : z.places ≡ (text_program p).places =
      places ∙ ap (λ x. bound_from 0 (starts (words x.items) (map (λ f. words (code L bodies f)) fs)) x.places) here
      ∙ ap (λ K. bound_from 0 (starts (words main.items) (map (λ f. words (code K bodies f)) fs)) main.places) l
      ∙ ap (λ bs. bound_from 0 (starts (words main.items) (map (λ f. words (code (labels_of p) bs f)) fs)) main.places) b
      ∙ ap (λ hs. bound_from 0 (starts (words main.items) (map (λ f. words (code (labels_of p) p.bodies f)) hs)) main.places) g
      ∙ places_parts in
      ap (λ x. record { items = x; places = z.places }) all_items ∙ ap (λ x. record { items = text p; places = x }) all_places

  text_words : words (text p) ≡ words (function_items p (first p)) + words (flat_map (function_items p) p.functions) + 497
  text_words =
      let r = items_of (routines_label p) order in
      let f = function_items p (first p) in
      let g = flat_map (function_items p) p.functions in
      let s = start_items p in
      omega (arith, sum_by-cons size (Jump (start_label p)) (r ++ (s ++ (f ++ g))), sum_by-append size r (s ++ (f ++ g)), sum_by-append size s (f ++ g), sum_by-append size f g, routines_words (routines_label p))

  pub all_words : (L : Labels) (bodies : List Body) (frame : ℕ) (fs : List Function) (m k n : ℕ) → L ≡ labels_of p → bodies ≡ p.bodies → frame ≡ p.frame → fs ≡ p.functions →
      m ≡ words (code L bodies (record { body = 0; frame = frame })) → k ≡ words (flat_map (code L bodies) fs) → n ≡ m + k → n + 497 ≡ words (text p)
  all_words L bodies frame fs m k n l b f g e h is =
      let one : m ≡ words (function_items p (first p)) =
      e ∙ ap (λ K. words (code K bodies (record { body = 0; frame = frame }))) l ∙ ap (λ bs. words (code (labels_of p) bs (record { body = 0; frame = frame }))) b ∙ ap (λ n. words (code (labels_of p) p.bodies (record { body = 0; frame = n }))) f in
      let two : k ≡ words (flat_map (function_items p) p.functions) =
      h ∙ ap (λ K. words (flat_map (code K bodies) fs)) l ∙ ap (λ bs. words (flat_map (code (labels_of p) bs) fs)) b ∙ ap (λ hs. words (flat_map (code (labels_of p) p.bodies) hs)) g in
      omega (arith, one, two, is, text_words)
