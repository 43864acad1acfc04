-- What tables have at the end, and at each time before.
use Rattle.std.proofs.Common.{◌≡◌, ℕ, zero, suc, ◌+◌, ◌<◌, ◌≤◌, List, [], ◌∷◌, Option, Some, None, flat_map, length, replicate, slice_get, slice_set, inl, inr, ⊎_elim, refl, sym, ap, ◌∙◌, arith, length-set}
use Rattle.std.specs.List.{AllByRecursion}
use Rattle.simulation.specs.Blocks.{IsAmong}
use Rattle.simulation.proofs.Lists.{some_eq, among_left, among_right, among_append}
use Rattle.cps_ir.specs.Kept.{end_parts, body_parts, bind_parts}
use Rattle.cps_ir.specs.declared.body.Function.{Function as Entry}
use Rattle.cps_ir.specs.declared.body.Body.{Body}
use Rattle.cps_free.proofs.Unfold.{all_back, all_with}
use Rattle.close_steps.specs.declared.decisions.Decision.{Decision}
use Rattle.close_steps.specs.declared.decisions.Decisions.{Decisions}
use Rattle.close_steps.specs.Visible.{Visible, decided}
use Rattle.close_bodies.specs.Bodies.{body_lowered, seen_at_end}
use Rattle.close_entries.specs.Entries.{entered}
use Rattle.close_rows.specs.Rows.{AreNumbered, begun}
use Rattle.close_seen.specs.Seen.{functions_of, seen_in, put_all, enter_one, enter_all, first_table, table_behind, closed_from, table_from, last_table, TablesAreLowered, TablesAreSeen}
use Rattle.close_seen.proofs.Tally.{eq_or_not, all_among, tally, tally_append, among_tally, tally_among, distinct_tally, ends_of, bodies_of, tally_parts, parts_range}

-- ---- One entry

set_same : (t : List Visible) (i : ℕ) (v : Visible) → i < length t → seen_in (slice_set t i v) i ≡ v
set_same [] i v h = absurd (omega (arith, h))
set_same (u ∷ t) zero v h = refl
set_same (u ∷ t) (suc i) v h = set_same t i v (omega (arith, h))

set_other : (t : List Visible) (i j : ℕ) (v : Visible) → (j ≡ i → ⊥) → seen_in (slice_set t i v) j ≡ seen_in t j
set_other [] i j v n = refl
set_other (u ∷ t) zero zero v n = absurd (n refl)
set_other (u ∷ t) zero (suc j) v n = refl
set_other (u ∷ t) (suc i) zero v n = refl
set_other (u ∷ t) (suc i) (suc j) v n = set_other t i j v (λ e. n (ap suc e))

put_other : (t : List Visible) (js : List ℕ) (j : ℕ) (v : Visible) → (IsAmong j js → ⊥) → seen_in (put_all t js v) j ≡ seen_in t j
put_other t [] j v n = refl
put_other t (k ∷ js) j v n = put_other (slice_set t k v) js j v (λ m. n (inr m)) ∙ set_other t k j v (λ e. n (inl e))

put_length : (t : List Visible) (js : List ℕ) (v : Visible) → length (put_all t js v) ≡ length t
put_length t [] v = refl
put_length t (k ∷ js) v = put_length (slice_set t k v) js v ∙ length-set t k v

put_stays : (t : List Visible) (js : List ℕ) (j : ℕ) (v : Visible) → j < length t → seen_in t j ≡ v → seen_in (put_all t js v) j ≡ v
put_stays t [] j v h e = e
put_stays t (k ∷ js) j v h e =
    let l : length (slice_set t k v) ≡ length t = length-set t k v in
    put_stays (slice_set t k v) js j v (omega (arith, h, l))
    (eq_or_not j k (seen_in (slice_set t k v) j ≡ v) (λ q. ap (λ i. seen_in (slice_set t i v) j) (sym q) ∙ set_same t j v h) (λ n. set_other t k j v n ∙ e))

put_same : (t : List Visible) (js : List ℕ) (j : ℕ) (v : Visible) → j < length t → IsAmong j js → seen_in (put_all t js v) j ≡ v
put_same t [] j v h m = absurd m
put_same t (k ∷ js) j v h (inl e) =
    let l : length (slice_set t k v) ≡ length t = length-set t k v in
    put_stays (slice_set t k v) js j v (omega (arith, h, l)) (ap (λ i. seen_in (slice_set t i v) j) (sym e) ∙ set_same t j v h)
put_same t (k ∷ js) j v h (inr m) =
    let l : length (slice_set t k v) ≡ length t = length-set t k v in put_same (slice_set t k v) js j v (omega (arith, h, l)) m

-- ---- Bodies one after another

module _ (d : Decisions) where
  from_other : (t : List Visible) (i : ℕ) (bs : List Body) (j : ℕ) → (IsAmong j (ends_of bs) → ⊥) → seen_in (table_from d t i bs) j ≡ seen_in t j
  from_other t i [] j n = refl
  from_other t i (b ∷ bs) j n =
      from_other (table_behind d t i b) (suc i) bs j (λ m. n (among_right j (end_parts b.end) (ends_of bs) m))
      ∙ put_other t (end_parts b.end) j (seen_at_end d (seen_in t i) b.binds) (λ m. n (among_left j (end_parts b.end) (ends_of bs) m))

  from_length : (t : List Visible) (i : ℕ) (bs : List Body) → length (table_from d t i bs) ≡ length t
  from_length t i [] = refl
  from_length t i (b ∷ bs) = from_length (table_behind d t i b) (suc i) bs ∙ put_length t (end_parts b.end) (seen_at_end d (seen_in t i) b.binds)

  closed_length : (t : List Visible) (i : ℕ) (bs : List Body) → length (closed_from d t i bs) ≡ length bs
  closed_length t i [] = refl
  closed_length t i (b ∷ bs) = ap suc (closed_length (table_behind d t i b) (suc i) bs)

  -- bodies stand above those that name them, from number i on
  abbrev AreAbove : ℕ → List Body → Type 0
  AreAbove i bs = (m : ℕ) (b : Body) → slice_get bs m ≡ Some b → AllByRecursion (λ c. i + m < c) (end_parts b.end)

  later : (i : ℕ) (b : Body) (bs : List Body) → AreAbove i (b ∷ bs) → AreAbove (suc i) bs
  later i b bs h m c e = all_with (λ k. i + suc m < k) (λ k. suc i + m < k) (λ k l. omega (arith, l)) (end_parts c.end) (h (suc m) c e)

  not_above : (i : ℕ) (bs : List Body) (j : ℕ) → AreAbove i bs → j ≤ i → IsAmong j (ends_of bs) → ⊥
  not_above i [] j h l m = m
  not_above i (b ∷ bs) j h l m =
      ⊎_elim (λ (n : IsAmong j (end_parts b.end)). let k = all_among (λ c. i + 0 < c) (end_parts b.end) j (h 0 b refl) n in absurd (omega (arith, k, l)))
      (λ (n : IsAmong j (ends_of bs)). not_above (suc i) bs j (later i b bs h) (omega (arith, l)) n)
      (among_append j (end_parts b.end) (ends_of bs) m)

  first : (t : List Visible) (i : ℕ) (bs : List Body) → AreAbove i bs → seen_in t i ≡ seen_in (table_from d t i bs) (i + 0)
  first t i bs h =
      let same : i ≡ i + 0 = omega arith in
      sym (from_other t i bs i (not_above i bs i h (omega arith))) ∙ ap (seen_in (table_from d t i bs)) same

  each : (t : List Visible) (i : ℕ) (bs : List Body) → AreAbove i bs → (m : ℕ) (b : Body) → slice_get bs m ≡ Some b → slice_get (closed_from d t i bs) m ≡ Some (body_lowered d (seen_in (table_from d t i bs) (i + m)) b)
  each t i [] h m b e = absurd (cc)
  each t i (x ∷ bs) h zero b e =
      some_eq (λ (c : Body). slice_get (closed_from d t i (x ∷ bs)) 0 ≡ Some (body_lowered d (seen_in (table_from d t i (x ∷ bs)) (i + 0)) c)) x b e
      (ap (λ v. Some (body_lowered d v x)) (first t i (x ∷ bs) h))
  each t i (x ∷ bs) h (suc m) b e =
      let up : suc i + m ≡ i + suc m = omega arith in
      each (table_behind d t i x) (suc i) bs (later i x bs h) m b e ∙ ap (λ n. Some (body_lowered d (seen_in (table_from d t i (x ∷ bs)) n) b)) up

  ends : (t : List Visible) (i : ℕ) (bs : List Body) → AreAbove i bs → ((n : ℕ) → tally n (ends_of bs) ≤ 1) → ((n : ℕ) → IsAmong n (ends_of bs) → n < length t) → (m : ℕ) (b : Body) → slice_get bs m ≡ Some b → (j : ℕ) → IsAmong j (end_parts b.end) → seen_in (table_from d t i bs) j ≡ seen_at_end d (seen_in (table_from d t i bs) (i + m)) b.binds
  ends t i [] h few within m b e j n = absurd (cc)
  ends t i (x ∷ bs) h few within zero b e j n =
      some_eq (λ (c : Body). (j : ℕ) → IsAmong j (end_parts c.end) → seen_in (table_from d t i (x ∷ bs)) j ≡ seen_at_end d (seen_in (table_from d t i (x ∷ bs)) (i + 0)) c.binds) x b e here j n
    where
      here : (j : ℕ) → IsAmong j (end_parts x.end) → seen_in (table_from d t i (x ∷ bs)) j ≡ seen_at_end d (seen_in (table_from d t i (x ∷ bs)) (i + 0)) x.binds
      here j n =
          from_other (table_behind d t i x) (suc i) bs j
          (λ k. let a = among_tally j (end_parts x.end) n in let c = among_tally j (ends_of bs) k in let s = tally_append j (end_parts x.end) (ends_of bs) in let f = few j in absurd (omega (arith, a, c, s, f)))
          ∙ put_same t (end_parts x.end) j (seen_at_end d (seen_in t i) x.binds) (within j (among_left j (end_parts x.end) (ends_of bs) n)) n
          ∙ ap (λ v. seen_at_end d v x.binds) (first t i (x ∷ bs) h)
  ends t i (x ∷ bs) h few within (suc m) b e j n =
      let up : suc i + m ≡ i + suc m = omega arith in
      let l = put_length t (end_parts x.end) (seen_at_end d (seen_in t i) x.binds) in
      ends (table_behind d t i x) (suc i) bs (later i x bs h)
      (λ k. (let s = tally_append k (end_parts x.end) (ends_of bs) in let f = few k in omega (arith, s, f)))
      (λ k q. let w = within k (among_right k (end_parts x.end) (ends_of bs) q) in omega (arith, w, l)) m b e j n
      ∙ ap (λ k. seen_at_end d (seen_in (table_from d t i (x ∷ bs)) k) b.binds) up

  -- ---- Functions

  one_other : (t : List Visible) (f : Entry) (o : Option Decision) (j : ℕ) → (j ≡ f.body → ⊥) → seen_in (enter_one d t f o) j ≡ seen_in t j
  one_other t f None j n = refl
  one_other t f (Some k) j n = set_other t f.body j (entered d f.name k f.params) n

  one_length : (t : List Visible) (f : Entry) (o : Option Decision) → length (enter_one d t f o) ≡ length t
  one_length t f None = refl
  one_length t f (Some k) = length-set t f.body (entered d f.name k f.params)

  enter_other : (t : List Visible) (fs : List Entry) (j : ℕ) → (IsAmong j (bodies_of fs) → ⊥) → seen_in (enter_all d t fs) j ≡ seen_in t j
  enter_other t [] j n = refl
  enter_other t (f ∷ fs) j n =
      enter_other (enter_one d t f (decided d f.name)) fs j (λ m. n (inr m)) ∙ one_other t f (decided d f.name) j (λ e. n (inl e))

  enter_length : (t : List Visible) (fs : List Entry) → length (enter_all d t fs) ≡ length t
  enter_length t [] = refl
  enter_length t (f ∷ fs) = enter_length (enter_one d t f (decided d f.name)) fs ∙ one_length t f (decided d f.name)

  is_body : (fs : List Entry) (f : Entry) → IsAmong f fs → IsAmong f.body (bodies_of fs)
  is_body [] f m = m
  is_body (g ∷ fs) f (inl e) = inl (ap (λ (h : Entry). h.body) e)
  is_body (g ∷ fs) f (inr m) = inr (is_body fs f m)

  enter_same : (t : List Visible) (fs : List Entry) → ((n : ℕ) → tally n (bodies_of fs) ≤ 1) → ((n : ℕ) → IsAmong n (bodies_of fs) → n < length t) → (f : Entry) → IsAmong f fs → (k : Decision) → decided d f.name ≡ Some k → seen_in (enter_all d t fs) f.body ≡ entered d f.name k f.params
  enter_same t [] few within f m k e = absurd m
  enter_same t (g ∷ fs) few within f (inl q) k e =
      enter_other (enter_one d t g (decided d g.name)) fs f.body
      (λ n. let a = among_tally f.body (bodies_of fs) n in let c = few f.body in let o = among_tally f.body (g.body ∷ []) (inl (ap (λ (h : Entry). h.body) q)) in let s = tally_append f.body (g.body ∷ []) (bodies_of fs) in absurd (omega (arith, a, c, o, s)))
      ∙ ap (λ (h : Entry). seen_in (enter_one d t h (decided d h.name)) f.body) (sym q)
      ∙ ap (λ o. seen_in (enter_one d t f o) f.body) e
      ∙ set_same t f.body (entered d f.name k f.params) (within f.body (inl (ap (λ (h : Entry). h.body) q)))
  enter_same t (g ∷ fs) few within f (inr m) k e =
      let l = one_length t g (decided d g.name) in
      enter_same (enter_one d t g (decided d g.name)) fs
      (λ n. (let c = few n in let s = tally_append n (g.body ∷ []) (bodies_of fs) in omega (arith, c, s)))
      (λ n q. let w = within n (inr q) in omega (arith, w, l)) f m k e

  begun_in : (n i : ℕ) → seen_in (replicate n begun) i ≡ begun
  begun_in zero i = refl
  begun_in (suc n) zero = refl
  begun_in (suc n) (suc i) = begun_in n i

length_begun : (n : ℕ) → length (replicate n begun) ≡ n
length_begun zero = refl
length_begun (suc n) = ap suc (length_begun n)

-- ---- All bodies of a program

module _ (d : Decisions) (given : List Body) (numbered : AreNumbered given) (few : (n : ℕ) → tally n (flat_map body_parts given) ≤ 1) where
  are_above : AreAbove d 0 given
  are_above m b e =
      all_with (λ c. (m < c) × (c < length given)) (λ c. 0 + m < c) (λ c h. let l = h.0 in omega (arith, l)) (end_parts b.end)
      (all_back (λ c. (m < c) × (c < length given)) (flat_map bind_parts b.binds) (end_parts b.end) (numbered m b e))

  function_within : (n : ℕ) → IsAmong n (bodies_of (functions_of given)) → (0 < n) × (n < length given)
  function_within n m =
      let a = among_tally n (bodies_of (functions_of given)) m in
      let s = tally_parts n given in
      parts_range given numbered n (tally_among n (flat_map body_parts given) (omega (arith, a, s)))

  end_within : (n : ℕ) → IsAmong n (ends_of given) → (0 < n) × (n < length given)
  end_within n m =
      let a = among_tally n (ends_of given) m in
      let s = tally_parts n given in
      parts_range given numbered n (tally_among n (flat_map body_parts given) (omega (arith, a, s)))

  table_length : length (first_table d given) ≡ length given
  table_length = enter_length d (replicate (length given) begun) (functions_of given) ∙ length_begun (length given)

  seen_main : seen_in (last_table d given) 0 ≡ begun
  seen_main =
      from_other d (first_table d given) 0 given 0 (λ m. let h = (end_within 0 m).0 in absurd (omega (arith, h)))
      ∙ enter_other d (replicate (length given) begun) (functions_of given) 0 (λ m. let h = (function_within 0 m).0 in absurd (omega (arith, h)))
      ∙ begun_in d (length given) 0

  seen_function : (f : Entry) → IsAmong f (functions_of given) → (k : Decision) → decided d f.name ≡ Some k → seen_in (last_table d given) f.body ≡ entered d f.name k f.params
  seen_function f m k e =
      let b = is_body d (functions_of given) f m in
      from_other d (first_table d given) 0 given f.body
      (λ n. let a = among_tally f.body (ends_of given) n in let c = among_tally f.body (bodies_of (functions_of given)) b in let s = tally_parts f.body given in let u = few f.body in absurd (omega (arith, a, c, s, u)))
      ∙ enter_same d (replicate (length given) begun) (functions_of given)
      (λ n. (let s = tally_parts n given in let u = few n in omega (arith, s, u)))
      (λ n q. let w = (function_within n q).1 in let l = length_begun (length given) in omega (arith, w, l)) f m k e

pub lowered : TablesAreLowered
lowered d given numbered distinct =
    let few = distinct_tally (flat_map body_parts given) distinct in
    let above = are_above d given numbered few in
    record {
      len = closed_length d (first_table d given) 0 given;
      each = λ i b e. each d (first_table d given) 0 given above i b e ∙ (let same : 0 + i ≡ i = omega arith in ap (λ n. Some (body_lowered d (seen_in (last_table d given) n) b)) same);
      ends =
          λ i b e j m.
          ends d (first_table d given) 0 given above (λ n. (let s = tally_parts n given in let u = few n in omega (arith, s, u)))
          (λ n q. let w = (end_within d given numbered few n q).1 in let l = table_length d given numbered few in omega (arith, w, l)) i b e j m
          ∙ (let same : 0 + i ≡ i = omega arith in ap (λ n. seen_at_end d (seen_in (last_table d given) n) b.binds) same);
    }

pub seen : TablesAreSeen
seen d given numbered distinct =
    let few = distinct_tally (flat_map body_parts given) distinct in
    record { main = seen_main d given numbered few; functions = seen_function d given numbered few }
