-- What stands in bytes that are those of instructions.
use Rattle.std.proofs.Common.{◌≡◌, ℕ, suc, ◌+◌, ◌-◌, ◌*◌, ◌/◌, ◌%◌, ◌^◌, ◌<◌, ◌≤◌, List, [], ◌∷◌, ◌++◌, length, get_or, take, drop, Option, Some, None, refl, ap, ◌∙◌, sym, subst, arith, append_assoc, length-append}
use Rattle.std.specs.Prelude.{slice_range, slice_get, IsSome, IfSome}
use Rattle.std.specs.Option.{option_map}
use Rattle.std.specs.List.{All}
use Rattle.std.specs.Int.{w32, to_le_bytes, from_le_bytes}
use Rattle.std.proofs.Math.Seq.{drop-append_seam, take-append_seam}
use Rattle.std.proofs.lemmas.Nat.{from_le_bytes-to_le_bytes_4}
use Rattle.std.proofs.lemmas.Option.{slice_get-map, slice_get-get_or, slice_get_within, get_or_from_slice_get}
use Rattle.std.proofs.lemmas.List.Sums.{sum_by-take-le}
use Rattle.rv_isa.specs.declared.table.Op.TheVariants.{Auipc, Jalr, Addi}
use Rattle.rv_isa.specs.declared.word.Ins.{Ins}
use Rattle.rv_isa.specs.Table.{shape_of}
use Rattle.rv_isa.specs.Word.{ins, word_of, laid, Fits, decoded}
use Rattle.rv_isa.proofs.Numbers.{joined-Below}
use Rattle.rv_isa.proofs.Exact.{laid-bounded, decoded-word_of}
use Rattle.rv_asm.specs.declared.code.Code.{Code}
use Rattle.rv_asm.specs.declared.item.Item.{Item}
use Rattle.rv_asm.specs.declared.item.Item.TheVariants.{Plain, Jump, Address}
use Rattle.rv_asm.specs.Item.{size, words, IsSound, IsNear}
use Rattle.rv_asm.specs.Pair.{upper, lower, arrives}
use Rattle.rv_asm.specs.Layout.{place_in, place_of, code_at, code_from, bytes_of, address, addresses, Holds, Stands, AllStand}
use Rattle.rv_asm.specs.Program.{Program, IsReady}
use Rattle.rv_asm.specs.Whole.{IsPlace, IsWhole}
use Rattle.rv_asm.proofs.Lists.{bytes_of-append, length-bytes_of, length-code_from, code_around}
use Rattle.rv_asm.proofs.PairLaws.{arrives_there}
use Rattle.rv_asm.proofs.Growing.{near_if}
use Rattle.rv_asm.proofs.Fitting.{auipc_fits, addi_fits, jalr_fits}

word_below : (i : Ins) → Fits i → word_of i < 4294967296
word_below i f = joined-Below (laid (shape_of i.op).format (shape_of i.op).key i) (laid-bounded i f)

read_back : (i : Ins) → Fits i → decoded (from_le_bytes w32 (to_le_bytes w32 (word_of i))) ≡ Some i
read_back i f = ap decoded (from_le_bytes-to_le_bytes_4 (word_of i) (word_below i f)) ∙ decoded-word_of i f

-- four bytes between others
middle : (xs ys zs : List ℕ) (n : ℕ) → n ≡ length xs → length ys ≡ 4 → slice_range (xs ++ (ys ++ zs)) n (n + 4) ≡ ys
middle xs ys zs n e f =
    let cut : drop n (xs ++ (ys ++ zs)) ≡ ys ++ zs = rw e (drop-append_seam xs (ys ++ zs)) in
    let four : n + 4 - n ≡ length ys = omega arith in
    rw (cut, four) (take-append_seam ys zs)

pub holds_between : (code : Code) (before : List Ins) (i : Ins) (after : List Ins) (n : ℕ) → code.bytes ≡ bytes_of (before ++ i ∷ after) → length before ≡ n → Fits i → Holds code n i
holds_between code before i after n e l f =
    let word = to_le_bytes w32 (word_of i) in
    let whole : code.bytes ≡ bytes_of before ++ (word ++ bytes_of after) = e ∙ bytes_of-append before (i ∷ after) in
    let size : length (bytes_of before) ≡ 4 * n = length-bytes_of before ∙ ap (λ k. 4 * k) l in
    record {
      within = omega (arith, ap length whole, length-append (bytes_of before) (word ++ bytes_of after), length-append word (bytes_of after));
      decodes = rw (whole, middle (bytes_of before) word (bytes_of after) (4 * n) (sym size) refl) (read_back i f);
    }

-- ---- the label of an item

record IsHere (base : ℕ) (at : List ℕ) (places : List (Option ℕ)) (label : ℕ) : Type 0 where
  pub near : IsNear (place_of places label)
  pub address : slice_get at label ≡ Some (base + 4 * place_of places label)

here_by : (base : ℕ) (at : List ℕ) (places : List (Option ℕ)) (label count : ℕ) (o : Option ℕ) → at ≡ addresses base places → slice_get places label ≡ Some o → IsSome o → IfSome o (IsPlace count) → IsNear count → IsHere base at places label
here_by base at places label count None a e s p n = cc
here_by base at places label count (Some m) a e s p q =
    let f : place_of places label ≡ m = ap place_in e in
    record {
      near = subst IsNear (sym f) (near_if count q (Some m) p);
      address = ap (λ xs. slice_get xs label) a ∙ (slice_get-map (address base) places label ∙ (ap (option_map (address base)) e ∙ ap (λ k. Some (base + 4 * k)) (sym f)));
    }

-- ---- every item stands

-- a program that was laid out
pub record IsLaidOut (base : ℕ) (code : Code) (items : List Item) (places : List (Option ℕ)) : Type 0 where
  pub bytes : code.bytes ≡ bytes_of (code_from places 0 items)
  pub at : code.at ≡ addresses base places
  pub sound : All (IsSound (length places)) items
  pub bound : All IsSome places
  pub placed : All (λ place. IfSome place (IsPlace (words items))) places
  pub near : IsNear (words items)
  pub low : base ≤ 2 ^ 63
  pub aligned : base % 4 ≡ 0

here : (base : ℕ) (code : Code) (items : List Item) (places : List (Option ℕ)) (label : ℕ) → IsLaidOut base code items places → label < length places → IsHere base code.at places label
here base code items places label r h = here_by base code.at places label (words items) (get_or places label None) r.at (slice_get-get_or places label None h) (r.bound label None h) (r.placed label None h) r.near

even : (t : ℕ) → t % 4 ≡ 0 → t / 2 * 2 ≡ t
even t h = omega arith

-- two instructions that stand one behind the other
record IsPair (code : Code) (n : ℕ) (i j : Ins) : Type 0 where
  pub first : Holds code n i
  pub second : Holds code (n + 1) j

pair_between : (code : Code) (before : List Ins) (first second : Ins) (after : List Ins) (n : ℕ) → code.bytes ≡ bytes_of (before ++ first ∷ second ∷ after) → length before ≡ n → Fits first → Fits second → IsPair code n first second
pair_between code before first second after n e l f g =
    let moved : before ++ first ∷ second ∷ after ≡ (before ++ first ∷ []) ++ second ∷ after = sym (append_assoc before (first ∷ []) (second ∷ after)) in
    record {
      first = holds_between code before first (second ∷ after) n e l f;
      second = holds_between code (before ++ first ∷ []) second after (n + 1) (e ∙ ap bytes_of moved) (omega (arith, length-append before (first ∷ []))) g;
    }

stands_by : (base : ℕ) (code : Code) (items : List Item) (places : List (Option ℕ)) (before after : List Ins) (n : ℕ) (item : Item) → IsLaidOut base code items places → IsSound (length places) item → IsNear n → code.bytes ≡ bytes_of (before ++ (code_at places n item ++ after)) → length before ≡ n → Stands base code n item
stands_by base code items places before after n (Plain i) r s p e l = holds_between code before i after n e l s
stands_by base code items places before after n (Jump label) r s p e l =
    let m = place_of places label in
    let h = here base code items places label r s in
    let pair = pair_between code before (ins Auipc 31 0 0 (upper n m)) (ins Jalr 0 31 0 (lower n m)) after n e l (auipc_fits 31 n m (omega arith) h.near) (jalr_fits 0 31 n m (omega arith) (omega arith)) in
    let there : arrives (base + 4 * n) (upper n m) (lower n m) ≡ base + 4 * m = arrives_there base n m r.low p h.near in
    (upper n m, lower n m, pair.first, pair.second, h.address ∙ ap Some (sym (ap (λ t. t / 2 * 2) there ∙ even (base + 4 * m) (omega (arith, r.aligned)))))
stands_by base code items places before after n (Address rd label) r s p e l =
    let m = place_of places label in
    let h = here base code items places label r s.1 in
    let pair = pair_between code before (ins Auipc rd 0 0 (upper n m)) (ins Addi rd rd 0 (lower n m)) after n e l (auipc_fits rd n m s.0 h.near) (addi_fits rd rd n m s.0 s.0) in
    let there : arrives (base + 4 * n) (upper n m) (lower n m) ≡ base + 4 * m = arrives_there base n m r.low p h.near in
    (upper n m, lower n m, pair.first, pair.second, h.address ∙ ap Some (sym there))

pub all_stand : (base : ℕ) (code : Code) (items : List Item) (places : List (Option ℕ)) → IsLaidOut base code items places → AllStand base code items
all_stand base code items places r k item e =
    let n = words (take k items) in
    let before = code_from places 0 (take k items) in
    let within : k < length items = slice_get_within items k item e in
    let sound : IsSound (length places) item = subst (IsSound (length places)) (get_or_from_slice_get items k item item e) (r.sound k item within) in
    stands_by base code items places before (code_from places (n + size item) (drop (suc k) items)) n item r sound (omega (arith, r.near, sum_by-take-le size items k)) (r.bytes ∙ ap bytes_of (code_around places items k item e)) (length-code_from places 0 (take k items))

-- the same, of a program in the making
pub finished : (base : ℕ) (p : Program) (items : List Item) (places : List (Option ℕ)) (count : ℕ) (bytes at : List ℕ) → record { items = items; places = places } ≡ p → IsWhole items places count → bytes ≡ bytes_of (code_from places 0 items) → at ≡ addresses base places → IsReady p base → AllStand base (record { bytes = bytes; at = at }) p.items
finished base p items places count bytes at e w b a =
    let P : Program → Type 0 = λ q. IsReady q base → AllStand base (record { bytes = bytes; at = at }) q.items in
    subst P e (λ r. all_stand base (record { bytes = bytes; at = at }) items places (record {
      bytes = b;
      at = a;
      sound = w.sound;
      bound = r.bound;
      placed = w.placed;
      near = r.near;
      low = r.low;
      aligned = r.aligned;
    }))
