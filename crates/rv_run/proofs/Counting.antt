-- What a count of the heap counts is what the run is seen to reach.
use Rattle.std.proofs.Common.{◌≡◌, ◌≢◌, ℕ, zero, suc, ◌+◌, ◌-◌, ◌*◌, ◌/◌, ◌%◌, ◌<◌, ◌≤◌, List, [], ◌∷◌, length, take, Option, Some, None, Bool, true, false, ◌==◌, ◌&&◌, if◌then◌else◌, arith, refl, sym, ap, ap₂, ◌∙◌, subst, ⊎_elim, inl, inr}
use Rattle.std.specs.Prelude.{slice_get, unwrap_or, nat_le, nat_lt}
use Rattle.std.proofs.lemmas.Bool.Decides.{nat_tests}
use Rattle.std.proofs.lemmas.Option.{slice_get_within}
use Rattle.elf_static.specs.declared.image.EntryRow.{EntryRow}
use Rattle.elf_static.specs.declared.image.Entries.{Entries}
use Rattle.rv_machine.specs.State.{State}
use Rattle.simulation.specs.Blocks.{Kind, Inside, Block, IsAmong, StandsAt, Reach, root, field}
use Rattle.simulation.specs.Words.{weight, words_at, block_words, kind_words, HasWords}
use Rattle.simulation.proofs.Lists.{among_left, among_right, among_append, get_among}
use Rattle.rv_run.specs.Heap.{heap_word, is_string, body_words, length_of, kind_bits, tag_of}
use Rattle.rv_run.specs.Counted.{PointsTo, Reached, by_root, by_field, block_size, IsCount}
use Rattle.rv_run.specs.Seen.{listed_from, pointed, all_pointed, labelled_kind, kind_of, block_of, inner, blocks, used, word_at, memory_of}
use Rattle.rv_run.specs.Laws.{IsOrderly, CountsReach}

-- ---- lists

pub listed_get : (f : ℕ → ℕ) (i n j : ℕ) → j < n → slice_get (listed_from f i n) j ≡ Some (f (i + j))
listed_get f i zero j l = absurd (omega arith)
listed_get f i (suc n) zero l = ap (λ k. Some (f k)) (let e : i ≡ i + 0 = omega arith in e)
listed_get f i (suc n) (suc j) l = listed_get f (suc i) n j (omega arith) ∙ ap (λ k. Some (f k)) (let e : suc i + j ≡ i + suc j = omega arith in e)

pub listed_length : (f : ℕ → ℕ) (i n : ℕ) → length (listed_from f i n) ≡ n
listed_length f i zero = refl
listed_length f i (suc n) = ap suc (listed_length f (suc i) n)

taken_get : (n : ℕ) (ws : List ℕ) (k v : ℕ) → k < n → slice_get ws k ≡ Some v → slice_get (take n ws) k ≡ Some v
taken_get zero ws k v l e = absurd (omega arith)
taken_get (suc n) [] k v l e = absurd (cc)
taken_get (suc n) (w ∷ ws) zero v l e = e
taken_get (suc n) (w ∷ ws) (suc k) v l e = taken_get n ws k v (omega arith) e

-- an element of the first n words has a place among them
taken_among : (n : ℕ) (ws : List ℕ) (v : ℕ) → IsAmong v (take n ws) → (k : ℕ) × (k < n) × (slice_get ws k ≡ Some v)
taken_among zero [] v h = absurd h
taken_among zero (w ∷ ws) v h = absurd h
taken_among (suc n) [] v h = absurd h
taken_among (suc n) (w ∷ ws) v (inl e) = (0, omega arith, ap (λ x. Some x) (sym e))
taken_among (suc n) (w ∷ ws) v (inr h) = let r = taken_among n ws v h in let l = r.1 in (suc r.0, omega arith, r.2)

-- ---- pointers

-- the word points to word j of the arena
pub record IsPointer (table : Entries) (v j : ℕ) : Type 0 where
  is : v ≡ table.arena + 8 * j
  within : j < table.arena_words

module _ (table : Entries) (aligned : table.arena % 8 ≡ 0) where
  pointed_is : (v j : ℕ) → IsPointer table v j → pointed table v ≡ j ∷ []
  pointed_is v j p =
      let e = p.is in
      let l = p.within in
      let a : (v % 8 == 0) ≡ true = grind (arith, nat_tests) in
      let b : nat_le table.arena v ≡ true = grind (arith, nat_tests) in
      let c : nat_lt v (table.arena + 8 * table.arena_words) ≡ true = grind (arith, nat_tests) in
      let d : (v - table.arena) / 8 ≡ j = omega arith in
      rw (a, b, c, d) refl

  is_pointed : (v j : ℕ) → IsAmong j (pointed table v) → IsPointer table v j
  is_pointed v j h = by (v % 8 == 0) (nat_le table.arena v) (nat_lt v (table.arena + 8 * table.arena_words)) refl refl refl h
    where
      by : (a b c : Bool) → (v % 8 == 0) ≡ a → nat_le table.arena v ≡ b → nat_lt v (table.arena + 8 * table.arena_words) ≡ c → IsAmong j (if a && b && c then (v - table.arena) / 8 ∷ [] else []) → IsPointer table v j
      by true true true p q r (inl e) =
          let x : v % 8 ≡ 0 = grind (arith, nat_tests) in
          let y : table.arena ≤ v = grind (arith, nat_tests) in
          let z : v < table.arena + 8 * table.arena_words = grind (arith, nat_tests) in
          record { is = omega arith; within = omega arith }
      by true true true p q r (inr e) = absurd e
      by true true false p q r h = absurd h
      by true false c p q r h = absurd h
      by false b c p q r h = absurd h

  pub among_pointed : (vs : List ℕ) (v j : ℕ) → IsAmong v vs → IsPointer table v j → IsAmong j (all_pointed table vs)
  among_pointed [] v j h p = absurd h
  among_pointed (w ∷ vs) v j (inl e) p = among_left j (pointed table w) (all_pointed table vs) (subst (IsAmong j) (sym (pointed_is w j (subst (λ v. IsPointer table v j) e p))) (inl refl))
  among_pointed (w ∷ vs) v j (inr h) p = among_right j (pointed table w) (all_pointed table vs) (among_pointed vs v j h p)

  pub pointed_among : (vs : List ℕ) (j : ℕ) → IsAmong j (all_pointed table vs) → (v : ℕ) × IsAmong v vs × IsPointer table v j
  pointed_among [] j h = absurd h
  pointed_among (w ∷ vs) j h = ⊎_elim
      (λ (q : IsAmong j (pointed table w)). (w, inl refl, is_pointed w j q))
      (λ (q : IsAmong j (all_pointed table vs)). let r = pointed_among vs j q in (r.0, inr r.1, r.2))
      (among_append j (pointed table w) (all_pointed table vs) h)

-- ---- blocks in the words

-- the block with this header and the words behind it
record IsHead (table : Entries) (ws : List ℕ) (a : ℕ) (x : Block) : Type 0 where
  header : ℕ
  rest : List ℕ
  stands : slice_get ws a ≡ Some header
  behind : (k : ℕ) → slice_get rest k ≡ slice_get ws (a + suc k)
  is : x ≡ block_of table header rest

head_later : (table : Entries) (w : ℕ) (ws : List ℕ) (a : ℕ) (x : Block) → IsHead table ws a x → IsHead table (w ∷ ws) (suc a) x
head_later table w ws a x h = record { header = h.header; rest = h.rest; stands = h.stands; behind = λ k. h.behind k ∙ ap (slice_get (w ∷ ws)) (let e : suc (a + suc k) ≡ suc a + suc k = omega arith in e); is = h.is }

head_at : (table : Entries) (n : ℕ) (ws : List ℕ) (a : ℕ) (x : Block) → StandsAt (blocks table n ws) a x → x.kind ≢ Inside → IsHead table ws a x
head_at table n [] a x e k = absurd (cc)
head_at table zero (h ∷ ws) zero x e k = record { header = h; rest = ws; stands = refl; behind = λ j. ap (slice_get (h ∷ ws)) (let z : suc j ≡ 0 + suc j = omega arith in z); is = let q : block_of table h ws ≡ x = some_is (block_of table h ws) x e in sym q }
  where
    some_is : (x y : Block) → Some x ≡ Some y → x ≡ y
    some_is x y e = cc
head_at table zero (h ∷ ws) (suc a) x e k = head_later table h ws a x (head_at table (body_words h) ws a x e k)
head_at table (suc n) (w ∷ ws) zero x e k = absurd (k (ap (λ (x : Block). x.kind) (let q : inner ≡ x = some_is inner x e in sym q)))
  where
    some_is : (x y : Block) → Some x ≡ Some y → x ≡ y
    some_is x y e = cc
head_at table (suc n) (w ∷ ws) (suc a) x e k = head_later table w ws a x (head_at table n ws a x e k)

-- a block with a header counts with all its words
counts_all : (rows : List EntryRow) (h n : ℕ) → kind_words (kind_of rows h) n ≡ n
counts_all rows h n = by (kind_bits h == 6) (tag_of h == 536870911) (slice_get rows (tag_of h))
  where
    by : (a b : Bool) (o : Option EntryRow) → kind_words (if a then (if b then Rattle.simulation.specs.Blocks.SpillRecord else labelled_kind o) else Rattle.simulation.specs.Blocks.Datum) n ≡ n
    by true true o = refl
    by true false None = refl
    by true false (Some row) = refl
    by false b o = refl

-- ---- what is counted is what is reached

module _ (table : Entries) (s : State) (roots : List ℕ) (ok : IsOrderly table s roots) where
  abbrev words : List ℕ
  words = listed_from (word_at table s) 0 (used table s)

  abbrev seen : List Block
  seen = memory_of table s

  abbrev Counted : ℕ → Type 0
  Counted j = Reached table.arena table.arena_words s roots j

  abbrev Seen : ℕ → Type 0
  Seen j = Reach (memory_of table s) (all_pointed table roots) j

  word_there : (j w : ℕ) → slice_get (listed_from (word_at table s) 0 (used table s)) j ≡ Some w → heap_word table.arena s j ≡ Some w
  word_there j w e =
      let n = listed_length (word_at table s) 0 (used table s) in
      let l : j < used table s = let z = slice_get_within (listed_from (word_at table s) 0 (used table s)) j w e in omega arith in
      let r = ok.readable j l in
      let z : 0 + j ≡ j = omega arith in
      let f : slice_get (listed_from (word_at table s) 0 (used table s)) j ≡ Some r.0 = listed_get (word_at table s) 0 (used table s) j l ∙ ap (λ k. Some (word_at table s k)) z ∙ ap (λ o. Some (unwrap_or o 0)) r.1 in
      r.1 ∙ sym f ∙ e

  there_word : (j w : ℕ) → j < used table s → heap_word table.arena s j ≡ Some w → slice_get (listed_from (word_at table s) 0 (used table s)) j ≡ Some w
  there_word j w l e =
      let z : 0 + j ≡ j = omega arith in
      listed_get (word_at table s) 0 (used table s) j l ∙ ap (λ k. Some (word_at table s k)) z ∙ ap (λ o. Some (unwrap_or o 0)) e

  -- what stands where a block is reached
  record Block_here (j : ℕ) : Type 0 where
    block : Block
    header : ℕ
    rest : List ℕ
    stands : StandsAt (memory_of table s) j block
    word : heap_word table.arena s j ≡ Some header
    is : block ≡ block_of table header rest
    behind : (k : ℕ) → slice_get rest k ≡ slice_get (listed_from (word_at table s) 0 (used table s)) (j + suc k)
    within : j + suc (body_words header) ≤ used table s

  block_here : (j : ℕ) → Seen j → Block_here j
  block_here j r =
      let h = ok.heads j r in
      let d = head_at table 0 (listed_from (word_at table s) 0 (used table s)) j h.0 h.1 h.2 in
      record {
        block = h.0;
        header = d.header;
        rest = d.rest;
        stands = h.1;
        word = word_there j d.header d.stands;
        is = d.is;
        behind = d.behind;
        within = subst (λ (x : Block). j + x.words ≤ used table s) d.is h.3;
      }

  points_to : (v j : ℕ) → IsPointer table v j → Seen j → PointsTo table.arena table.arena_words s v j
  points_to v j p r =
      let b = block_here j r in
      let l = b.within in
      let m = ok.room in
      record { address = p.is; header = b.header; stands = b.word; within = omega arith }

  is_pointer : (v j : ℕ) → PointsTo table.arena table.arena_words s v j → IsPointer table v j
  is_pointer v j p = let l = p.within in record { is = p.address; within = omega arith }

  fields_of : (h : ℕ) (rest : List ℕ) → is_string h ≡ false → (block_of table h rest).fields ≡ all_pointed table (take (body_words h) rest)
  fields_of h rest e = rw e refl

  no_fields : (h : ℕ) (rest : List ℕ) (b : ℕ) → is_string h ≡ true → IsAmong b (block_of table h rest).fields → ⊥
  no_fields h rest b e i = subst (λ (t : Bool). IsAmong b (if t then [] else all_pointed table (take (length_of h) rest))) e i

  pub counted_seen : (j : ℕ) → Counted j → Seen j
  counted_seen j (by_root v j' i p) = root j (among_pointed table ok.aligned roots v j i (is_pointer v j p))
  counted_seen j (by_field i k h v j' r e scanned l f p) =
      let up = counted_seen i r in
      let b = block_here i up in
      let same : b.header ≡ h = let q : Some b.header ≡ Some h = sym b.word ∙ e in cc in
      let w = b.within in
      let low : i + suc k < used table s = let z : body_words b.header ≡ body_words h = ap body_words same in omega arith in
      let g : slice_get b.rest k ≡ Some v = b.behind k ∙ there_word (i + suc k) v low f in
      let t : slice_get (take (body_words h) b.rest) k ≡ Some v = taken_get (body_words h) b.rest k v l g in
      let a = among_pointed table ok.aligned (take (body_words h) b.rest) v j (get_among (take (body_words h) b.rest) k v t) (is_pointer v j p) in
      let fs : b.block.fields ≡ all_pointed table (take (body_words h) b.rest) = ap (λ (x : Block). x.fields) (b.is ∙ ap (λ h. block_of table h b.rest) same) ∙ fields_of h b.rest scanned in
      field i j b.block up b.stands (subst (IsAmong j) (sym fs) a)

  pub seen_counted : (j : ℕ) → Seen j → Counted j
  seen_counted j (root j' i) =
      let p = pointed_among table ok.aligned roots j i in
      by_root p.0 j p.1 (points_to p.0 j p.2 (root j i))
  seen_counted j (field i j' x r stands a) =
      let up = seen_counted i r in
      let b = block_here i r in
      let same : b.block ≡ x = let q : Some b.block ≡ Some x = sym b.stands ∙ stands in some_is b.block x q in
      let is : x ≡ block_of table b.header b.rest = sym same ∙ b.is in
      by (is_string b.header) b refl up (subst (λ (x : Block). IsAmong j x.fields) is a) (field i j x r stands a)
    where
      some_is : (x y : Block) → Some x ≡ Some y → x ≡ y
      some_is x y e = cc

      by : (t : Bool) → (b : Block_here i) → is_string b.header ≡ t → Counted i → IsAmong j (block_of table b.header b.rest).fields → Seen j → Counted j
      by true b e up h all = absurd (no_fields b.header b.rest j e h)
      by false b e up h all =
          let p = pointed_among table ok.aligned (take (body_words b.header) b.rest) j (subst (IsAmong j) (fields_of b.header b.rest e) h) in
          let t = taken_among (body_words b.header) b.rest p.0 p.1 in
          by_field i t.0 b.header p.0 j up b.word e t.1 (word_there (i + suc t.0) p.0 (sym (b.behind t.0) ∙ t.2)) (points_to p.0 j p.2 all)

  -- ---- words

  size_same : (j : ℕ) → Seen j → words_at (memory_of table s) j ≡ block_size (heap_word table.arena s j)
  size_same j r =
      let b = block_here j r in
      ap block_words b.stands ∙ ap (λ (x : Block). kind_words x.kind x.words) b.is ∙ counts_all table.rows b.header (suc (body_words b.header)) ∙ sym (ap block_size b.word)

  weight_same : (f g : ℕ → ℕ) (xs : List ℕ) → ((x : ℕ) → IsAmong x xs → f x ≡ g x) → weight f xs ≡ weight g xs
  weight_same f g [] e = refl
  weight_same f g (x ∷ xs) e = ap₂ (λ a b. a + b) (e x (inl refl)) (weight_same f g xs (λ y i. e y (inr i)))

  pub count_words : (n many : ℕ) → IsCount table.arena table.arena_words s roots n many → HasWords (memory_of table s) (all_pointed table roots) n
  count_words n many c = record {
    addresses = c.numbers;
    distinct = c.distinct;
    reached = λ j i. let r = counted_seen j (c.reached j i) in let b = block_here j r in (r, (b.block, b.stands));
    all = λ j x r e. c.all j (seen_counted j r);
    sum = weight_same _ _ c.numbers (λ j i. size_same j (counted_seen j (c.reached j i))) ∙ c.sum;
  }

  pub words_count : (n : ℕ) → HasWords (memory_of table s) (all_pointed table roots) n → (many : ℕ) × IsCount table.arena table.arena_words s roots n many
  words_count n h = (
    length h.addresses,
    record {
      numbers = h.addresses;
      distinct = h.distinct;
      reached = λ j i. seen_counted j (h.reached j i).0;
      all = λ j r. let b = block_here j (counted_seen j r) in h.all j b.block (counted_seen j r) b.stands;
      sum = weight_same _ _ h.addresses (λ j i. sym (size_same j (h.reached j i).0)) ∙ h.sum;
      many = refl;
    },
  )

pub counts_reach : (table : Entries) (s : State) (roots : List ℕ) → IsOrderly table s roots → CountsReach table s roots
counts_reach table s roots ok = record { counted = counted_seen table s roots ok; reached = seen_counted table s roots ok; words = count_words table s roots ok; counts = words_count table s roots ok }
