-- The start of the text, and all of it.
use Rattle.std.proofs.Common.{◌≡◌, ℕ, ◌+◌, ◌<◌, List, [], ◌∷◌, ◌++◌, Option, Some, None, length, map, Result, Ok, Err, OnOk, sym, ap, ◌∙◌, subst, arith, length-append}
use Rattle.std.specs.Prelude.{slice_get, slice_set, replicate}
use Rattle.std.proofs.lemmas.List.{append_assoc, length-replicate, length-set}
use Rattle.std.proofs.lemmas.List.Sums.{sum_by-cons}
use Rattle.rv_asm.specs.declared.item.Item.{Item}
use Rattle.rv_asm.specs.declared.item.Item.TheVariants.{Jump, Address}
use Rattle.rv_asm.specs.Item.{size, words}
use Rattle.rv_asm.specs.Program.{Program, with_item, with_place, IsFree}
use Rattle.rt_prims.specs.declared.line.Datum.TheVariants.{Arena, ArenaEnd}
use Rattle.rt_prims.specs.Lines.{labels, place}
use Rattle.rt_prims.specs.Text.{order, items_of}
use Rattle.placed_ir.specs.declared.body.Body.{Body}
use Rattle.placed_ir.specs.declared.body.Function.{Function}
use Rattle.placed_ir.specs.Program.{Placed, function_code}
use Rattle.placed_ir.specs.Kept.{IsProgram}
use Rattle.emit_items.specs.declared.labels.Labels.{Labels}
use Rattle.emit_items.specs.Body as whole
use Rattle.emit_sound.specs.Sound.{HasLabels, AreSound}
use Rattle.emit_sound.proofs.Bodies.{function_sound}
use Rattle.emit_text.specs.Labels.{start_label, handler_label, routines_label, labels_of}
use Rattle.emit_text.specs.Text.{datum_count, routine_places, start_place}
use Rattle.emit_text.specs.Begun.{begun, started}
use Rattle.emit_text.proofs.Bounds.{get_front, get_same}

abbrev no_place : Option ℕ
no_place = None

pub on_ok : {T E P Q : Type 0} (r : Result T E) → (P → Q) → OnOk r P → OnOk r Q
on_ok (Ok x) f h = f h
on_ok (Err e) f h = tt

pub always : {T E Q : Type 0} (r : Result T E) → Q → OnOk r Q
always (Ok x) h = h
always (Err e) h = tt

module _ (p : Placed) where
  abbrev bound : List (Option ℕ)
  bound = map Some (routine_places p) ++ replicate datum_count no_place

  abbrev before : List (Option ℕ)
  before = replicate (routines_label p) no_place

  pub many_begun : length (begun p).places ≡ routines_label p + labels
  many_begun = omega (arith, length-append before bound, length-replicate (routines_label p) no_place)

  pub many_started : length (started p).places ≡ routines_label p + labels
  many_started = length-set (begun p).places (start_label p) (Some (start_place p)) ∙ many_begun

  pub start_free : (q : Program) (l : ℕ) → q ≡ begun p → l ≡ start_label p → IsFree q l
  start_free q l e f =
      ap (λ x. slice_get x.places l) e
      ∙ ap (slice_get (begun p).places) f
      ∙ get_front before bound (start_label p) (omega (arith, length-replicate (routines_label p) no_place))
      ∙ get_same (routines_label p) (start_label p) (omega arith)

  -- any label up to those of routines and data was made
  pub made_here : (q b : Program) (l n : ℕ) → q ≡ begun p → b ≡ with_place q l → n < routines_label p + labels → n < length b.places
  made_here q b l n e f h = omega (arith, ap (λ x. length x.places) f, length-set q.places l (Some (words q.items)), ap (λ x. length x.places) e, many_begun, h)

  pub all_started : (q b x y z : Program) (l a e h : ℕ) → q ≡ begun p → b ≡ with_place q l → x ≡ with_item b (Address 8 a) → y ≡ with_item x (Address 9 e) → z ≡ with_item y (Address 18 h) →
      l ≡ start_label p → a ≡ routines_label p + place Arena → e ≡ routines_label p + place ArenaEnd → h ≡ handler_label p → z ≡ started p
  all_started q b x y z l a e h is bound_there one two three le ae ee he =
      let here : words (begun p).items ≡ start_place p = sum_by-cons size (Jump (start_label p)) (items_of (routines_label p) order) in
      let bind : b ≡ record { items = (begun p).items; places = (started p).places } =
      bound_there ∙ ap (λ w. with_place w l) is ∙ ap (λ n. with_place (begun p) n) le ∙ ap (λ n. record { items = (begun p).items; places = slice_set (begun p).places (start_label p) (Some n) }) here in
      let items : List Item = (begun p).items in
      let i : Item = Address 8 (routines_label p + place Arena) in
      let j : Item = Address 9 (routines_label p + place ArenaEnd) in
      let k : Item = Address 18 (handler_label p) in
      three ∙ ap (λ w. with_item w (Address 18 h)) (two ∙ ap (λ w. with_item w (Address 9 e)) (one ∙ ap (λ w. with_item w (Address 8 a)) bind))
      ∙ ap (λ n. with_item (with_item (with_item (record { items = items; places = (started p).places }) (Address 8 n)) (Address 9 e)) (Address 18 h)) ae
      ∙ ap (λ n. with_item (with_item (with_item (record { items = items; places = (started p).places }) i) (Address 9 n)) (Address 18 h)) ee
      ∙ ap (λ n. with_item (with_item (with_item (record { items = items; places = (started p).places }) i) j) (Address 18 n)) he
      ∙ ap (λ ws. record { items = ws; places = (started p).places }) (append_assoc (items ++ i ∷ []) (j ∷ []) (k ∷ []) ∙ append_assoc items (i ∷ []) (j ∷ k ∷ []))

  -- ---- The code of functions

  has_labels : HasLabels p (labels_of p) (routines_label p + labels)
  has_labels = record {
    functions = omega arith;
    texts = omega arith;
    spellings = omega arith;
    names = omega arith;
    closures = omega arith;
    routines = omega arith;
  }

  pub sound_here : (q : Program) (bodies : List Body) (L : Labels) (f : Function) → IsProgram p → bodies ≡ p.bodies → L ≡ labels_of p → length q.places ≡ routines_label p + labels → AreSound (length q.places) (whole.items L 0 (function_code bodies f))
  sound_here q bodies L f is b l n =
      let s = function_sound p (labels_of p) (routines_label p + labels) is has_labels f in
      subst (λ k. AreSound k (whole.items L 0 (function_code bodies f))) (sym n)
      (subst (λ K. AreSound (routines_label p + labels) (whole.items K 0 (function_code bodies f))) (sym l)
      (subst (λ bs. AreSound (routines_label p + labels) (whole.items (labels_of p) 0 (function_code bs f))) (sym b) s))
