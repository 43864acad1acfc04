-- The names of a group that live on get their homes one after another.
use Rattle.std.proofs.Common.{◌≡◌, ◌≢◌, ℕ, suc, ◌+◌, ◌<◌, ◌≤◌, List, [], ◌∷◌, map, length, Option, Some, slice_get, cond, Bool, true, false, ◌⊎◌, inl, inr, refl, sym, ap, ◌∙◌, subst, arith, ⊎_elim}
use Rattle.simulation.specs.Blocks.{IsAmong}
use Rattle.simulation.specs.Stores.{acted}
use Rattle.simulation.proofs.Machines.{Walks, stay, walk}
use Rattle.sml_def.specs.Maybe.{◌>>=◌}
use Rattle.closure_ir.specs.declared.body.Maker.{Maker}
use Rattle.closure_ir.specs.Words.{Word, At, Vars}
use Rattle.closure_ir.specs.Code as closed
use Rattle.closure_ir.specs.Step.{bound, bound_all, numbered}
use Rattle.placed_ir.specs.Code as placed
use Rattle.placed_ir.specs.Arena.{Slot, Registers, past, view_slot, offset_in}
use Rattle.placed_ir.specs.Step.{Running, puts_home}
use Rattle.place_laws.specs.Live.{is_in, names_of}
use Rattle.place_laws.specs.Place.{Places, greater, home_spills, spills, home_of, at_place, at_group, least_free, maker_length, names_placed}
use Rattle.place_laws.specs.Lies.{same_at}
use Rattle.place_laws.proofs.Places.{eq_true, eq_false, eq_or_not, in_among, not_among, free_fresh, greater_left, greater_right}
use Rattle.place_laws.proofs.Reading.{Fits, fits_fewer}
use Rattle.place_laws.proofs.Writing.{FrameFits, frame_fewer, BlocksStay, put_in, fits_bind}
use Rattle.place_laws.proofs.Relation.{far_at, B, Quiet}

either_spills : (n : ℕ) (b : Bool) (c d : placed.Code) → n ≤ spills c → n ≤ spills d → n ≤ spills (cond b c d)
either_spills n true c d l m = l
either_spills n false c d l m = m

pub names_spills : (alive : List ℕ) (makers : List Maker) (offset : ℕ) (taken : List ℕ) (c : placed.Code) → spills c ≤ spills (names_placed alive makers offset taken c)
names_spills alive [] offset taken c = omega arith
names_spills alive (m ∷ makers) offset taken c =
    let q = least_free taken in
    let on = offset + suc (maker_length m) in
    let here = names_spills alive makers on (q ∷ taken) c in
    let g = greater_right (home_spills (home_of q)) (spills (names_placed alive makers on (q ∷ taken) c)) in
    either_spills (spills c) (is_in m.var alive) (placed.Name (home_of q) offset (names_placed alive makers on (q ∷ taken) c)) (names_placed alive makers on taken c)
    (omega arith) (names_spills alive makers on taken c)

-- what isn't looked at is bound
pub fits_unbound : (homes : List ℕ) (slots : List Slot) (r : Registers) (env : Vars) (at : Places) (vars : List ℕ) (x : ℕ) (u : Word) → (IsAmong x vars → ⊥) → Fits homes slots r env at vars → Fits homes slots r (bound env x u) at vars
fits_unbound homes slots r env at vars x u n f y m t e =
    f y m t (sym (ap (λ b. cond b (Some u) (env y)) (eq_false y x (λ q. n (subst (λ z. IsAmong z vars) q m)))) ∙ e)

-- what holds when all names have got their homes
pub record Named (p : closed.Tree) (homes : List ℕ) (c from : placed.Code) (input out : List ℕ) (slots : List Slot) (r : Registers) (env : Vars) (at : Places) (vars : List ℕ) : Type 0 where
  pub steps : ℕ
  pub registers : Registers
  pub after : List Slot
  pub walk : Walks (B p) (Quiet p) steps (far_at (Running from r) input out slots) (far_at (Running c registers) input out after)
  pub fits : Fits homes after registers env at vars
  pub on : BlocksStay slots after
  pub back : BlocksStay after slots
  pub frame : (n : ℕ) → FrameFits slots r.frame n → FrameFits after registers.frame n
  pub handler : registers.handler ≡ r.handler

cover_more : (at : Places) (x q : ℕ) (keep taken : List ℕ) → ((y : ℕ) → IsAmong y keep → IsAmong (at y) taken) → (y : ℕ) → IsAmong y (x ∷ keep) → IsAmong (at_place at x q y) (q ∷ taken)
cover_more at x q keep taken f y m =
    ⊎_elim
    (λ (e : y ≡ x). inl (ap (λ b. cond b q (at y)) (eq_true y x e)))
    (λ (n : y ≢ x). inr (subst (λ t. IsAmong t taken) (sym (ap (λ b. cond b q (at y)) (eq_false y x n))) (f y (old m n))))
    (eq_or_not y x)
  where
    old : IsAmong y (x ∷ keep) → y ≢ x → IsAmong y keep
    old (inl e) n = absurd (n e)
    old (inr h) n = h

free_names : (at : Places) (x : ℕ) (keep taken : List ℕ) → ((y : ℕ) → IsAmong y keep → IsAmong (at y) taken) → (y : ℕ) → IsAmong y (x ∷ keep) → y ≢ x → IsAmong y keep × (at y ≢ least_free taken)
free_names at x keep taken f y (inl e) n = absurd (n e)
free_names at x keep taken f y (inr h) n = (h, free_fresh taken (at y) (f y h))

cover_names : (x : ℕ) (xs keep : List ℕ) (y : ℕ) → IsAmong y (x ∷ xs) ⊎ IsAmong y keep → IsAmong y xs ⊎ IsAmong y (x ∷ keep)
cover_names x xs keep y (inl (inl e)) = inr (inl e)
cover_names x xs keep y (inl (inr h)) = inl h
cover_names x xs keep y (inr h) = inr (inr h)

pass_names : (x : ℕ) (xs keep vars : List ℕ) → (IsAmong x vars → ⊥) → (y : ℕ) → IsAmong y vars → IsAmong y (x ∷ xs) ⊎ IsAmong y keep → IsAmong y xs ⊎ IsAmong y keep
pass_names x xs keep vars n y m (inl (inl e)) = absurd (n (subst (λ z. IsAmong z vars) e m))
pass_names x xs keep vars n y m (inl (inr h)) = inl h
pass_names x xs keep vars n y m (inr h) = inr h

none_of : (y : ℕ) (keep : List ℕ) → IsAmong y [] ⊎ IsAmong y keep → IsAmong y keep
none_of y keep (inl h) = absurd h
none_of y keep (inr h) = h

within_more : (x : ℕ) (keep vars : List ℕ) → IsAmong x vars → ((y : ℕ) → IsAmong y keep → IsAmong y vars) → (y : ℕ) → IsAmong y (x ∷ keep) → IsAmong y vars
within_more x keep vars i f y (inl e) = subst (λ z. IsAmong z vars) (sym e) i
within_more x keep vars i f y (inr h) = f y h

module _ (p : closed.Tree) (homes : List ℕ) (c : placed.Code) (input out vars : List ℕ) (b : ℕ) where
  -- where these are kept already, and such places are taken
  pub record Ready (makers : List Maker) (a offset : ℕ) (slots : List Slot) (r : Registers) (env : Vars) (at : Places) (keep taken : List ℕ) : Type 0 where
    pub base : r.base ≡ Some b
    pub fits : Fits homes slots r env at keep
    pub cover : (y : ℕ) → IsAmong y keep → IsAmong (at y) taken
    pub all : (y : ℕ) → IsAmong y vars → IsAmong y (names_of makers) ⊎ IsAmong y keep
    pub within : (y : ℕ) → IsAmong y keep → IsAmong y vars
    pub place : (j : ℕ) → j < length makers → slice_get homes (a + j) ≡ Some (b + (offset + offset_in (map maker_length makers) j))

  abbrev Result : List Maker → ℕ → ℕ → List Slot → Registers → Vars → Places → List ℕ → placed.Code → Type 0
  Result makers a offset slots r env at taken from =
      Named p homes c from input out slots r (bound_all env (names_of makers) (numbered a makers)) (at_group vars makers taken at) vars

  abbrev Runs : List Maker → Type 0
  Runs makers = (a offset : ℕ) (slots : List Slot) (r : Registers) (env : Vars) (at : Places) (keep taken : List ℕ) → Ready makers a offset slots r env at keep taken → FrameFits slots r.frame (spills (names_placed vars makers offset taken c)) → Result makers a offset slots r env at taken (names_placed vars makers offset taken c)

  next_place : (m : Maker) (makers : List Maker) (a offset : ℕ) → ((j : ℕ) → j < length (m ∷ makers) → slice_get homes (a + j) ≡ Some (b + (offset + offset_in (map maker_length (m ∷ makers)) j))) → (j : ℕ) → j < length makers → slice_get homes (suc a + j) ≡ Some (b + (offset + suc (maker_length m) + offset_in (map maker_length makers) j))
  next_place m makers a offset place j l = ap (slice_get homes) (let e : suc a + j ≡ a + suc j = omega arith in e) ∙ place (suc j) (omega arith) ∙ ap Some (omega arith)

  module _ (m : Maker) (makers : List Maker) (rest : Runs makers) (a offset : ℕ) (slots : List Slot) (r : Registers) (env : Vars) (at : Places) (keep taken : List ℕ) where
    abbrev on_from : ℕ
    on_from = offset + suc (maker_length m)

    abbrev q : ℕ
    q = least_free taken

    abbrev After : placed.Code
    After = names_placed vars makers on_from (q ∷ taken) c

    abbrev Past : placed.Code
    Past = names_placed vars makers on_from taken c

    abbrev Env : Vars
    Env = bound_all (bound env m.var (At a)) (names_of makers) (numbered (suc a) makers)

    named_here : IsAmong m.var vars → Ready (m ∷ makers) a offset slots r env at keep taken → FrameFits slots r.frame (spills (placed.Name (home_of q) offset After)) → Named p homes c (placed.Name (home_of q) offset After) input out slots r Env (at_group vars makers (q ∷ taken) (at_place at m.var q)) vars
    named_here i k frame =
        let word = At (b + offset) in
        let put = put_in p.points input After slots r (home_of q) word (frame_fewer slots r.frame (home_spills (home_of q)) (greater (home_spills (home_of q)) (spills After)) (greater_left (home_spills (home_of q)) (spills After)) frame) in
        let first : slice_get homes a ≡ Some (b + offset) = ap (slice_get homes) (let e : a ≡ a + 0 = omega arith in e) ∙ k.place 0 (omega arith) ∙ ap Some (omega arith) in
        let on = rest (suc a) on_from put.after put.registers (bound env m.var (At a)) (at_place at m.var q) (m.var ∷ keep) (q ∷ taken) (record {
          base = put.base ∙ k.base;
          fits = fits_bind homes p.points input After slots r env at (m.var ∷ keep) keep m.var q (At a) word put (same_at a (b + offset) first) (free_names at m.var keep taken k.cover) k.fits;
          cover = cover_more at m.var q keep taken k.cover;
          all = λ y j. cover_names m.var (names_of makers) keep y (k.all y j);
          within = within_more m.var keep vars i k.within;
          place = next_place m makers a offset k.place;
        }) (put.frame (spills After) (frame_fewer slots r.frame (spills After) (greater (home_spills (home_of q)) (spills After)) (greater_right (home_spills (home_of q)) (spills After)) frame)) in
        record {
          steps = suc on.steps;
          registers = on.registers;
          after = on.after;
          walk = walk on.steps (far_at (Running (placed.Name (home_of q) offset After) r) input out slots) (far_at (Running After put.registers) input out put.after) (far_at (Running c on.registers) input out on.after)
              (ap (λ (z : Option ℕ). acted (view_slot p.points) out slots (past z offset >>= puts_home (record { slots = slots; input = input }) After r (home_of q))) k.base ∙ put.step out) refl on.walk;
          fits = on.fits;
          on = λ w d e. on.on w d (put.on w d e);
          back = λ w d e. put.back w d (on.back w d e);
          frame = λ n f. on.frame n (put.frame n f);
          handler = on.handler ∙ put.handler;
        }

    named_past : (IsAmong m.var vars → ⊥) → Ready (m ∷ makers) a offset slots r env at keep taken → FrameFits slots r.frame (spills Past) → Named p homes c Past input out slots r Env (at_group vars makers taken at) vars
    named_past n k frame =
        rest (suc a) on_from slots r (bound env m.var (At a)) at keep taken (record {
          base = k.base;
          fits = fits_unbound homes slots r env at keep m.var (At a) (λ i. n (k.within m.var i)) k.fits;
          cover = k.cover;
          all = λ y j. pass_names m.var (names_of makers) keep vars n y j (k.all y j);
          within = k.within;
          place = next_place m makers a offset k.place;
        }) frame

    named_by : Ready (m ∷ makers) a offset slots r env at keep taken → (t : Bool) → is_in m.var vars ≡ t → FrameFits slots r.frame (spills (cond t (placed.Name (home_of q) offset After) Past)) → Named p homes c (cond t (placed.Name (home_of q) offset After) Past) input out slots r Env (cond t (at_group vars makers (q ∷ taken) (at_place at m.var q)) (at_group vars makers taken at)) vars
    named_by k true e frame = named_here (in_among m.var vars e) k frame
    named_by k false e frame = named_past (not_among m.var vars e) k frame

  pub names_run : (makers : List Maker) → Runs makers
  names_run [] a offset slots r env at keep taken k frame = record {
    steps = 0;
    registers = r;
    after = slots;
    walk = stay (far_at (Running c r) input out slots);
    fits = fits_fewer homes slots r env at vars keep (λ y m. none_of y keep (k.all y m)) k.fits;
    on = λ w d e. e;
    back = λ w d e. e;
    frame = λ n f. f;
    handler = refl;
  }
  names_run (m ∷ makers) a offset slots r env at keep taken k frame =
      named_by m makers (names_run makers) a offset slots r env at keep taken k (is_in m.var vars) refl frame
