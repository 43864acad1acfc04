-- What is read in registers and spill words is what the variables hold.
use Rattle.std.specs.Prelude.{ℤ}
use Rattle.std.proofs.Common.{◌≡◌, ℕ, zero, suc, ◌+◌, ◌<◌, List, [], ◌∷◌, ◌++◌, map, length, Option, Some, None, slice_get, refl, sym, ap, ◌∙◌, subst, arith, ⊎_elim, inl, inr, ◌⊎◌, ◌≢◌, ◌==◌, Bool, true, false}
use Rattle.std.proofs.lemmas.List.{length-map}
use Rattle.simulation.specs.Blocks.{IsAmong}
use Rattle.simulation.proofs.Lists.{option_cases, among_left, among_right}
use Rattle.prim_meaning.specs.Tests as tested
use Rattle.prim_meaning.specs.Tests.{along, bytes_wanted, name_wanted}
use Rattle.prim_meaning.specs.Strict.{met_then, met_at}
use Rattle.prim_meaning.specs.Alike.{BothAlike, SameWanted}
use Rattle.prim_meaning.specs.Alike as alike
use Rattle.prim_meaning.proofs.Alike.{along_alike}
use Rattle.sml_def.specs.Maybe.{◌>>=◌}
use Rattle.closure_ir.specs.declared.operand.Shape.{Shape}
use Rattle.closure_ir.specs.declared.operand.Operand.{Operand}
use Rattle.closure_ir.specs.declared.operand.Operand.TheVariants as operand
use Rattle.closure_ir.specs.declared.body.Maker.{Maker}
use Rattle.closure_ir.specs.declared.body.Target.{Target}
use Rattle.closure_ir.specs.declared.body.Target.TheVariants as target
use Rattle.closure_ir.specs.declared.body.Wanted.{Wanted}
use Rattle.closure_ir.specs.declared.body.Wanted.TheVariants as want
use Rattle.closure_ir.specs.declared.body.Test.{Test}
use Rattle.closure_ir.specs.Words.{Word, Num, At, Fixed, Code, Made, Cell, Vars, cell_length, follow, look, consed, all_looked, label_through}
use Rattle.closure_ir.specs.Answers as near
use Rattle.closure_ir.specs.Answers.{see, which, is_name}
use Rattle.closure_ir.specs.Step.{numbered, made, all_made}
use Rattle.placed_ir.specs.Arena.{Slot, Registers, held_at, home_word, past, read, all_read, built, all_built, offset_in}
use Rattle.placed_ir.specs.Step as far
use Rattle.place_laws.specs.Live.{used_by, all_used_by, used_by_makers, used_by_want, used_by_tests}
use Rattle.place_laws.specs.Place.{Places, home_of, maker_length, source_of, source_for, building_of, want_of, test_of}
use Rattle.place_laws.specs.Lies.{Same, same_num, same_at, same_fixed, same_code, SameAll, none_same, more_same, Heap}
use Rattle.place_laws.proofs.Values.{all_length}
use Rattle.place_laws.proofs.Heap.{follow_none, follow_same, label_same, starts, SameCells, no_cells, more_cells, group_home, is_at}
use Rattle.place_laws.proofs.Sees.{Home, words_alike, met_at_same}
use Rattle.place_laws.proofs.Places.{eq_true, eq_false, eq_or_not, apart_cases}

-- what these variables hold stands in their homes
abbrev pub Fits : List ℕ → List Slot → Registers → Vars → Places → List ℕ → Type 0
Fits homes slots r env at vars = (x : ℕ) → IsAmong x vars → (u : Word) → env x ≡ Some u → (v : Word) × (home_word slots r (home_of (at x)) ≡ Some v) × Same homes u v

pub fits_fewer : (homes : List ℕ) (slots : List Slot) (r : Registers) (env : Vars) (at : Places) (few more : List ℕ) → ((x : ℕ) → IsAmong x few → IsAmong x more) → Fits homes slots r env at more → Fits homes slots r env at few
fits_fewer homes slots r env at few more f h x m u e = h x (f x m) u e

-- both parts of a list that is there
pub consed_some : {X : Type 0} (o : Option X) (p : Option (List X)) (zs : List X) → consed o p ≡ Some zs → (x : X) × (xs : List X) × (o ≡ Some x) × (p ≡ Some xs) × (zs ≡ x ∷ xs)
consed_some None p zs e = absurd (cc)
consed_some (Some x) None zs e = absurd (cc)
consed_some (Some x) (Some xs) zs e = (x, xs, refl, refl, let g : Some (x ∷ xs) ≡ Some zs = e in let k : x ∷ xs ≡ zs = cc in sym k)

pub consed_is : {X : Type 0} (o : Option X) (p : Option (List X)) (x : X) (xs : List X) → o ≡ Some x → p ≡ Some xs → consed o p ≡ Some (x ∷ xs)
consed_is {X = X} o p x xs e f = ap (λ (t : Option X). consed t p) e ∙ ap (consed (Some x)) f

made_some : (sh : Shape) (o : Option (List Word)) (c : Cell) → (o >>= (λ ws. Some (record { sort = Made sh; fields = ws }))) ≡ Some c → (ws : List Word) × (o ≡ Some ws) × (c ≡ record { sort = Made sh; fields = ws })
made_some sh None c e = absurd (cc)
made_some sh (Some ws) c e = (ws, refl, let g : Some (record { sort = Made sh; fields = ws }) ≡ Some c = e in let k : record { sort = Made sh; fields = ws } ≡ c = cc in sym k)

module _ (homes wide : List ℕ) (cells : List Cell) (slots : List Slot) (h : Heap homes cells slots) (widen : (u v : Word) → Same homes u v → Same wide u v) (r : Registers) (env : Vars) (at : Places) (vars : List ℕ) (fits : Fits homes slots r env at vars) (fresh : List Word) (base : Option ℕ) (group : List Maker) (new : (k : ℕ) (u : Word) → slice_get fresh k ≡ Some u → (v : Word) × (past base (offset_in (map maker_length group) k) ≡ Some v) × Same wide u v) where
  pub look_same : (o : Operand) (u : Word) → ((x : ℕ) → IsAmong x (used_by o) → IsAmong x vars) → look (slice_get cells) env fresh o ≡ Some u → (v : Word) × (read slots r base (source_of at group o) ≡ Some v) × Same wide u v
  look_same (operand.Path x steps) u f e =
      ⊎_elim
      (λ (n : env x ≡ None). absurd (follow_none (slice_get cells) steps u (ap (follow (slice_get cells) steps) (sym n) ∙ e)))
      (λ (m : (t : Word) × (env x ≡ Some t)).
      let p = fits x (f x (inl refl)) m.0 m.1 in
      let q = follow_same homes cells slots h steps m.0 p.0 u p.2 (ap (follow (slice_get cells) steps) (sym m.1) ∙ e) in
      (q.0, ap (follow (held_at slots) steps) p.1 ∙ q.1, widen u q.0 q.2))
      (option_cases (env x))
  look_same (operand.New k) u f e = new k u e
  look_same (operand.Static l) u f e = (Fixed l, refl, subst (λ t. Same wide t (Fixed l)) (let g : Some (Fixed l) ≡ Some u = e in let k : Fixed l ≡ u = cc in k) (same_fixed l))
  look_same (operand.Code l) u f e = (Code l.0, refl, subst (λ t. Same wide t (Code l.0)) (let g : Code l.0 ≡ u = cc in g) (same_code l.0))
  look_same (operand.Literal n) u f e = (Num n, refl, subst (λ t. Same wide t (Num n)) (let g : Num n ≡ u = cc in g) (same_num n))

  pub all_look_same : (os : List Operand) (us : List Word) → ((x : ℕ) → IsAmong x (all_used_by os) → IsAmong x vars) → all_looked (slice_get cells) env fresh os ≡ Some us → (vs : List Word) × (all_read slots r base (map (source_of at group) os) ≡ Some vs) × SameAll wide us vs × (length us ≡ length os)
  all_look_same [] us f e =
      let g : Some [] ≡ Some us = e in
      let k : [] ≡ us = cc in
      ([], refl, subst (λ t. SameAll wide t []) k none_same, ap length (sym k))
  all_look_same (o ∷ os) us f e =
      let c = consed_some (look (slice_get cells) env fresh o) (all_looked (slice_get cells) env fresh os) us e in
      let p = look_same o c.0 (λ x m. f x (among_left x (used_by o) (all_used_by os) m)) c.2 in
      let q = all_look_same os c.1 (λ x m. f x (among_right x (used_by o) (all_used_by os) m)) c.3 in (
        p.0 ∷ q.0,
        consed_is (read slots r base (source_of at group o)) (all_read slots r base (map (source_of at group) os)) p.0 q.0 p.1 q.1,
        subst (λ t. SameAll wide t (p.0 ∷ q.0)) (sym c.4) (more_same c.0 p.0 c.1 q.0 p.2 q.2),
        ap length c.4 ∙ ap suc q.3,
      )

  pub all_made_same : (ms : List Maker) (cs : List Cell) → ((x : ℕ) → IsAmong x (used_by_makers ms) → IsAmong x vars) → all_made (slice_get cells) env fresh ms ≡ Some cs → (ds : List Cell) × (all_built slots r base (map (building_of at group) ms) ≡ Some ds) × SameCells wide cs ds × (map cell_length ds ≡ map maker_length ms)
  all_made_same [] cs f e =
      let g : Some [] ≡ Some cs = e in
      let k : [] ≡ cs = cc in
      ([], refl, subst (λ t. SameCells wide t []) k no_cells, refl)
  all_made_same (m ∷ ms) cs f e =
      let c = consed_some (made (slice_get cells) env fresh m) (all_made (slice_get cells) env fresh ms) cs e in
      let d = made_some m.shape (all_looked (slice_get cells) env fresh m.fields) c.0 c.2 in
      let p = all_look_same m.fields d.0 (λ x i. f x (among_left x (all_used_by m.fields) (used_by_makers ms) i)) d.1 in
      let q = all_made_same ms c.1 (λ x i. f x (among_right x (all_used_by m.fields) (used_by_makers ms) i)) c.3 in
      let block : Cell = record { sort = Made m.shape; fields = p.0 } in
      let whole : c.0 ∷ c.1 ≡ cs = sym c.4 in (
        block ∷ q.0,
        consed_is (built slots r base (building_of at group m)) (all_built slots r base (map (building_of at group) ms)) block q.0
            (ap (λ (o : Option (List Word)). o >>= (λ ws. Some (record { sort = Made m.shape; fields = ws }))) p.1) q.1,
        subst (λ t. SameCells wide t (block ∷ q.0)) whole
            (subst (λ t. SameCells wide (t ∷ c.1) (block ∷ q.0)) (sym d.2) (more_cells (record { sort = Made m.shape; fields = d.0 }) block c.1 q.0 refl p.2 q.2)),
        ap (λ n. n ∷ map cell_length q.0) (let n : 0 + length p.0 ≡ length p.0 = omega arith in n ∙ all_length wide d.0 p.0 p.2 ∙ p.3) ∙ ap (λ ns. maker_length m ∷ ns) q.3,
      )

-- ---- The addresses of a group

pub numbered_get : (a : ℕ) (ms : List Maker) (k : ℕ) (u : Word) → slice_get (numbered a ms) k ≡ Some u → (u ≡ At (a + k)) × (k < length ms)
numbered_get a [] k u e = absurd (cc)
numbered_get a (m ∷ ms) zero u e = (let g : Some (At a) ≡ Some u = e in let q : At a ≡ u = cc in sym q ∙ ap At (omega arith), omega arith)
numbered_get a (m ∷ ms) (suc k) u e = let p = numbered_get (suc a) ms k u e in (p.0 ∙ ap At (omega arith), let l = p.1 in omega arith)

pub group_new : (homes : List ℕ) (cells : List Cell) (b : ℕ) (ms : List Maker) → length homes ≡ length cells → (k : ℕ) (u : Word) → slice_get (numbered (length cells) ms) k ≡ Some u → (v : Word) × (past (Some b) (offset_in (map maker_length ms) k) ≡ Some v) × Same (homes ++ starts b (map maker_length ms)) u v
group_new homes cells b ms l k u e =
    let p = numbered_get (length cells) ms k u e in
    let ns = map maker_length ms in
    let m = p.1 in
    (At (b + offset_in ns k), refl, subst (λ t. Same (homes ++ starts b ns) t (At (b + offset_in ns k))) (sym p.0) (same_at (length cells + k) (b + offset_in ns k) (group_home homes cells b ns k l (omega (arith, length-map ms maker_length)))))

-- ---- Outside of groups

bytes_same : (homes : List ℕ) (o : Option (List ℕ)) → SameWanted (Same homes) (bytes_wanted o) (bytes_wanted o)
bytes_same homes None = alike.same_never
bytes_same homes (Some bytes) = alike.same_bytes bytes

module _ (homes : List ℕ) (cells : List Cell) (slots : List Slot) (h : Heap homes cells slots) (r : Registers) (env : Vars) (at : Places) (vars : List ℕ) (fits : Fits homes slots r env at vars) where
  pub looked : (o : Operand) (u : Word) → ((x : ℕ) → IsAmong x (used_by o) → IsAmong x vars) → look (slice_get cells) env [] o ≡ Some u → (v : Word) × (read slots r None (source_for at o) ≡ Some v) × Same homes u v
  looked o u f e = look_same homes homes cells slots h (λ u v s. s) r env at vars fits [] None [] (λ k u e. absurd (cc)) o u f e

  pub all_looked_same : (os : List Operand) (us : List Word) → ((x : ℕ) → IsAmong x (all_used_by os) → IsAmong x vars) → all_looked (slice_get cells) env [] os ≡ Some us → (vs : List Word) × (all_read slots r None (map (source_for at) os) ≡ Some vs) × SameAll homes us vs × (length us ≡ length os)
  all_looked_same os us f e = all_look_same homes homes cells slots h (λ u v s. s) r env at vars fits [] None [] (λ k u e. absurd (cc)) os us f e

  -- ---- Tests

  module _ (texts : List (List ℕ)) where
    abbrev MetLeft : tested.Wanted Word → Option Word → Option Bool
    MetLeft want o = met_at (see texts (slice_get cells)) which (is_name (slice_get cells)) want o

    abbrev MetRight : tested.Wanted Word → Option Word → Option Bool
    MetRight want o = met_at (see texts (held_at slots)) which (is_name (held_at slots)) want o

    -- what the first says of a test the second says too
    alike_follows : (want need : tested.Wanted Word) (x y : Option Word) (c : Bool) → SameWanted (Same homes) want need → BothAlike (Same homes) x y → MetLeft want x ≡ Some c → MetRight need y ≡ Some c
    alike_follows want need x y c s g e = met_at_same homes cells slots h texts want need x y s g ∙ e

    never_met : (x : Option Word) (c : Bool) → MetLeft tested.Never x ≡ Some c → ⊥
    never_met None c e = cc
    never_met (Some u) c e = cc

    name_follows : (n : Operand) (applied : Bool) → ((x : ℕ) → IsAmong x (used_by n) → IsAmong x vars) → (o : Option Word) → look (slice_get cells) env [] n ≡ o → (x y : Option Word) (c : Bool) → BothAlike (Same homes) x y → MetLeft (name_wanted applied o) x ≡ Some c → MetRight (name_wanted applied (read slots r None (source_for at n))) y ≡ Some c
    name_follows n applied f None q x y c g e = absurd (never_met x c e)
    name_follows n applied f (Some u) q x y c g e =
        let p = looked n u f q in
        ap (λ z. MetRight (name_wanted applied z) y) p.1 ∙ alike_follows (tested.Exn u applied) (tested.Exn p.0 applied) x y c (alike.same_exn u p.0 applied p.2) g e

    want_follows : (w : Wanted) → ((x : ℕ) → IsAmong x (used_by_want w) → IsAmong x vars) → (x y : Option Word) (c : Bool) → BothAlike (Same homes) x y → MetLeft (near.wanted texts (slice_get cells) env w) x ≡ Some c → MetRight (far.wanted texts slots r (want_of at w)) y ≡ Some c
    want_follows (want.Num z) f x y c g e = alike_follows (tested.Num z) (tested.Num z) x y c (alike.same_num z) g e
    want_follows (want.Tag t) f x y c g e = alike_follows (tested.Tag t.number) (tested.Tag t.number) x y c (alike.same_tag t.number) g e
    want_follows (want.Text t) f x y c g e =
        let b = slice_get texts t in
        alike_follows (bytes_wanted b) (bytes_wanted b) x y c (bytes_same homes b) g e
    want_follows (want.Exn n applied) f x y c g e = name_follows n applied f (look (slice_get cells) env [] n) refl x y c g e

    then_some : (o later : Option Bool) (b : Bool) → met_then o later ≡ Some b → ((o ≡ Some true) × (later ≡ Some b)) ⊎ ((o ≡ Some false) × (b ≡ false))
    then_some None later b e = absurd (cc)
    then_some (Some true) later b e = inl (refl, e)
    then_some (Some false) later b e = inr (refl, let g : Some false ≡ Some b = e in let k : false ≡ b = cc in sym k)

    -- all tests of a rule, up to the first that fails
    pub tests_follow : (tests : List Test) (u v : Word) (b : Bool) → ((x : ℕ) → IsAmong x (used_by_tests tests) → IsAmong x vars) → Same homes u v → near.all_stand texts (slice_get cells) env u tests ≡ Some b → far.all_stand texts slots r v (map (test_of at) tests) ≡ Some b
    tests_follow [] u v b f s e = e
    tests_follow (t ∷ tests) u v b f s e =
        let x = along (see texts (slice_get cells)) t.path (Some u) in
        let y = along (see texts (held_at slots)) t.path (Some v) in
        let g = along_alike (Home homes cells slots h) (Same homes) (see texts (slice_get cells)) (see texts (held_at slots)) (words_alike homes cells slots h texts) t.path (Some u) (Some v) s in
        let here = λ (c : Bool) (q : MetLeft (near.wanted texts (slice_get cells) env t.want) x ≡ Some c). want_follows t.want (λ z i. f z (among_left z (used_by_want t.want) (used_by_tests tests) i)) x y c g q in
        let later = far.all_stand texts slots r v (map (test_of at) tests) in
        ⊎_elim
        (λ (q : (MetLeft (near.wanted texts (slice_get cells) env t.want) x ≡ Some true) × (near.all_stand texts (slice_get cells) env u tests ≡ Some b)).
        ap (λ o. met_then o later) (here true q.0) ∙ tests_follow tests u v b (λ z i. f z (among_right z (used_by_want t.want) (used_by_tests tests) i)) s q.1)
        (λ (q : (MetLeft (near.wanted texts (slice_get cells) env t.want) x ≡ Some false) × (b ≡ false)). ap (λ o. met_then o later) (here false q.0) ∙ ap Some (sym q.1))
        (then_some (MetLeft (near.wanted texts (slice_get cells) env t.want) x) (near.all_stand texts (slice_get cells) env u tests) b e)
