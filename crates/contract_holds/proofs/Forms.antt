-- The steps at bindings but of functions.
use Rattle.std.proofs.Common.{◌≡◌, ◌≢◌, ℕ, ◌≤◌, List, Bool, true, false, cond, ◌&&◌, Option, Some, None, refl, sym, ap, ◌∙◌, subst, arith, nat_eq, eqb-true}
use Rattle.std.specs.Prelude.{get_or}
use Rattle.smlc_base.specs.declared.primitive.Primitive.{Primitive}
use Rattle.cps_ir.specs.declared.atom.Atom.{Atom}
use Rattle.cps_ir.specs.declared.atom.Atom.TheVariants as atom
use Rattle.cps_ir.specs.declared.atom.Shape.{Shape}
use Rattle.cps_ir.specs.declared.body.Bind.{Bind}
use Rattle.cps_ir.specs.declared.body.Bind.TheVariants as row
use Rattle.cps_ir.specs.declared.body.Body.{Body}
use Rattle.cps_ir.specs.Code.{Code, Make, Pick, Prim, Handler, SetHandler}
use Rattle.cps_ir.specs.Program.{code_at}
use Rattle.cps_ir.specs.State.{bind}
use Rattle.contract_laws.specs.Contract.{is_pure}
use Rattle.contract_laws.specs.Redex.{uses, uses_atoms}
use Rattle.contract_laws.specs.Weigh.{weigh, of_name}
use Rattle.contract_laws.proofs.Relation.{eqb_other}
use Rattle.contract_round.specs.Round.{binding, atom_in, atoms_in, walk}
use Rattle.contract_round.proofs.Facts.{own, own_same}
use Rattle.contract_frame.specs.Apart.{SameBody}
use Rattle.contract_frame.proofs.Frame.{same_walk}
use Rattle.contract_census.specs.declared.counts.Count.{Count}
use Rattle.contract_known.specs.Known.{place_of, made_in, made_at}
use Rattle.contract_binds.specs.Binds.{unused, make_left, make_blocks, field_kept, pick_field, pick_kept, pick_places, prim_left}
use Rattle.contract_binds.specs.Law.{in_front, no_variable, scope_of, IsNew}
use Rattle.contract_binds.proofs.Walks.{make_is, pick_is, prim_is}
use Rattle.contract_group.specs.declared.task.Task.{Task}
use Rattle.contract_group.specs.Bodies.{with_bind}
use Rattle.contract_steps.specs.State.{State}
use Rattle.contract_steps.specs.Steps.{put_left, with_bodies}
use Rattle.contract_holds.specs.Open.{occurs, all_binds}
use Rattle.contract_holds.specs.Holds.{IsUnentered, Holds}
use Rattle.contract_holds.specs.Fits.{body_in, bodies_in, scope_in}
use Rattle.contract_holds.specs.Turn.{Ready, Goes}
use Rattle.contract_holds.proofs.Occurs.{cond_own}
use Rattle.contract_holds.proofs.Still.{is_it, none_occurs, here_placed, same_bodies, steady, places_none, blocks_none, unmet_none}
use Rattle.contract_holds.proofs.Filled.{all_from}
use Rattle.contract_holds.proofs.Narrow.{Less, same_tables, atoms_clean}
use Rattle.contract_holds.proofs.More.{HasNoPart, left_length}
use Rattle.contract_holds.proofs.One.{IsHead, one_goes, ready_goes, bodies_go}
use Rattle.contract_holds.proofs.Tables.{make_other, make_length, make_here, pick_other, pick_length, pick_clean}

own_other : (z x : ℕ) → own z x ≡ 0 → x ≢ z
own_other z x e q = let o = own_same z x (sym q) in absurd (omega arith)

module _ (texts : List (List ℕ)) (source : List Body) (counts : List Count) (t : Task) (x : ℕ) (head c : Code) (is : IsHead counts x head c) (s : State) (r : Ready texts source counts t head s) where
  abbrev hold : Holds source counts head s
  hold = r.holds

  bound : 1 ≤ all_binds source head s x
  bound = let e = is.weighs x in let o = own_same x x refl in omega arith

  fresh : IsUnentered s x
  fresh = hold.fresh x bound

  pub is_new : IsNew s.places s.blocks (bodies_in texts source s.places s.placed) x
  is_new = record {
    has_place = fresh.has_place;
    has_block = fresh.has_block;
    place = fresh.place;
    block = fresh.block;
    body = ap (body_in texts source s.places) fresh.body;
    steady = λ f. steady texts source s.places (get_or s.placed f None);
  }

  -- as long as nothing is entered
  module _ (left : Option Bind) (no_part : HasNoPart left) (walks : (P : ℕ → Code) → walk texts (scope_in texts source s t.root) head ≡ in_front P left (walk texts (scope_in texts source s t.root) c)) where
    pub same_goes : Goes texts source counts t head s c (with_bodies s (put_left t.slot left s.bodies))
    same_goes = one_goes texts source counts t x head c is s (with_bodies s (put_left t.slot left s.bodies)) r left no_part refl refl refl (λ y n. refl) (λ y n. refl) refl refl
        (λ z b n. hold.places z x b (λ e. n (sym e)))
        (λ b e. let z = sym fresh.block ∙ e in absurd (cc))
        walks

  -- a binding of itself says nothing new
  pub walk_bound : walk texts (binding (scope_in texts source s t.root) x None) c ≡ walk texts (scope_in texts source s t.root) c
  walk_bound = same_walk no_variable no_variable (λ y e. e) texts c (binding (scope_in texts source s t.root) x None) (scope_in texts source s t.root) (unmet_none _) (unmet_none _)
      (record {
        places = places_none (bind (place_of s.places) x (atom.Var x)) (place_of s.places) place;
        blocks = blocks_none (bind (made_at s.blocks t.root) x None) (made_at s.blocks t.root) block;
        bodies = body;
      })
    where
      place : (y : ℕ) → bind (place_of s.places) x (atom.Var x) y ≡ place_of s.places y
      place y = by (nat_eq y x) refl
        where
          by : (b : Bool) → nat_eq y x ≡ b → cond b (atom.Var x) (place_of s.places y) ≡ place_of s.places y
          by true e = sym fresh.place ∙ ap (place_of s.places) (sym (eqb-true y x e))
          by false e = refl

      block : (y : ℕ) → bind (made_at s.blocks t.root) x None y ≡ made_at s.blocks t.root y
      block y = by (nat_eq y x) refl
        where
          by : (b : Bool) → nat_eq y x ≡ b → cond b None (made_at s.blocks t.root y) ≡ made_at s.blocks t.root y
          by true e = sym (ap (made_at s.blocks t.root) (eqb-true y x e) ∙ ap (made_in t.root) fresh.block)
          by false e = refl

      body : (f : ℕ) → no_variable f ≡ false → SameBody no_variable (bind (bodies_in texts source s.places s.placed) x None f) (bodies_in texts source s.places s.placed f)
      body f d = by (nat_eq f x) refl
        where
          by : (b : Bool) → nat_eq f x ≡ b → SameBody no_variable (cond b None (bodies_in texts source s.places s.placed f)) (bodies_in texts source s.places s.placed f)
          by true e = subst (SameBody no_variable None) (sym (ap (bodies_in texts source s.places s.placed) (eqb-true f x e) ∙ ap (body_in texts source s.places) fresh.body)) tt
          by false e = steady texts source s.places (get_or s.placed f None)

module _ (texts : List (List ℕ)) (source : List Body) (counts : List Count) (t : Task) (x : ℕ) (c : Code) (s : State) where
  -- ---- A new block

  module _ (shape : Shape) (atoms : List Atom) (r : Ready texts source counts t (Make x shape atoms c) s) where
    abbrev make : State
    make = record { places = s.places; blocks = make_blocks counts t.root s.places x shape atoms s.blocks; placed = s.placed; bodies = put_left t.slot (make_left counts s.places x shape atoms) s.bodies; work = s.work }

    make_head : IsHead counts x (Make x shape atoms c) c
    make_head = record {
      weighs = λ z. omega arith;
      occurs = λ z e. let k = cond_own z x (occurs z c) e in omega arith;
      uses = λ z. omega arith;
      inner = λ z. omega arith;
      nodes = refl;
      census = λ k z. let q = k z in q.1;
    }

    make_part : (b : Bool) → HasNoPart (cond b None (Some (row.Make x shape (atoms_in (place_of s.places) atoms))))
    make_part true = tt
    make_part false = refl

    pub make_goes : Goes texts source counts t (Make x shape atoms c) s c make
    make_goes =
        let hold = r.holds in
        let new = is_new texts source counts t x (Make x shape atoms c) c make_head s r in
        let count = hold.counted x in
        one_goes texts source counts t x (Make x shape atoms c) c make_head s make r (make_left counts s.places x shape atoms) (make_part (unused counts x)) refl refl refl (λ y n. refl) (make_other counts t.root s.places x shape atoms s.blocks) refl (make_length counts t.root s.places x shape atoms s.blocks)
        (λ z b n. hold.places z x b (λ e. n (sym e)))
        (λ b e. let k = make_here counts t.root s.places x shape atoms s.blocks new.has_block new.block b e in
        let root = r.root in let k0 = k.0 in
        (omega arith, λ z a n. let o = none_occurs source counts (Make x shape atoms c) s hold z a in ap (uses_atoms z) k.1 ∙ atoms_clean source counts (Make x shape atoms c) s hold z a atoms (omega arith)))
        (λ P. make_is texts P counts s.places s.blocks t.root (bodies_in texts source s.places s.placed) x c new shape atoms (count.0 refl))

  -- ---- A field

  module _ (i : ℕ) (a : Atom) (r : Ready texts source counts t (Pick x i a c) s) where
    abbrev pick : State
    pick = record { places = pick_places counts t.root s.places s.blocks x i a; blocks = s.blocks; placed = s.placed; bodies = put_left t.slot (pick_kept counts t.root s.places s.blocks x i a) s.bodies; work = s.work }

    pick_head : IsHead counts x (Pick x i a c) c
    pick_head = record {
      weighs = λ z. omega arith;
      occurs = λ z e. let k = cond_own z x (occurs z c) e in omega arith;
      uses = λ z. omega arith;
      inner = λ z. omega arith;
      nodes = refl;
      census = λ k z. let q = k z in q.1;
    }

    field_part : (o : Option Atom) → HasNoPart (field_kept x i (atom_in (place_of s.places) a) o)
    field_part None = refl
    field_part (Some b) = tt

    pick_part : (b : Bool) → HasNoPart (cond b None (field_kept x i (atom_in (place_of s.places) a) (pick_field t.root s.places s.blocks i a)))
    pick_part true = tt
    pick_part false = field_part (pick_field t.root s.places s.blocks i a)

    -- bodies that are put where they are called don't look at x
    by_places : walk texts (scope_of (pick_places counts t.root s.places s.blocks x i a) s.blocks t.root (bodies_in texts source s.places s.placed)) c ≡ walk texts (scope_in texts source pick t.root) c
    by_places =
        let hold = r.holds in
        same_walk no_variable no_variable (λ y e. e) texts c (scope_of (pick_places counts t.root s.places s.blocks x i a) s.blocks t.root (bodies_in texts source s.places s.placed)) (scope_in texts source pick t.root) (unmet_none _) (unmet_none _)
        (record {
          places = places_none (place_of pick.places) (place_of pick.places) (λ y. refl);
          blocks = blocks_none (made_at s.blocks t.root) (made_at s.blocks t.root) (λ y. refl);
          bodies = λ f d. same_bodies (is_it x) no_variable (λ y e. absurd (cc)) texts source s.places pick.places (get_or s.placed f None) (get_or s.placed f None) refl
              (λ y e. (pick_other counts t.root s.places s.blocks x i a y (λ q. eqb_other y x e q), unmet_none _))
              (λ p e. let w : 1 ≤ weigh (of_name x) (Pick x i a c) = let o = own_same x x refl in omega arith in let k = here_placed source counts (Pick x i a c) s hold x w f p e in
              ((λ z q. subst (λ v. uses v (code_at source p.body) ≡ 0) (sym (eqb-true z x q)) k.0), (λ z q. subst (λ v. weigh (of_name v) (code_at source p.body) ≡ 0) (sym (eqb-true z x q)) k.1)));
        })

    pub pick_goes : Goes texts source counts t (Pick x i a c) s c pick
    pick_goes =
        let hold = r.holds in
        let new = is_new texts source counts t x (Pick x i a c) c pick_head s r in
        let count = hold.counted x in
        one_goes texts source counts t x (Pick x i a c) c pick_head s pick r (pick_kept counts t.root s.places s.blocks x i a) (pick_part (unused counts x)) refl refl refl (pick_other counts t.root s.places s.blocks x i a) (λ y n. refl) (pick_length counts t.root s.places s.blocks x i a) refl
        (λ z b n. pick_clean source counts (Pick x i a c) s hold z b t.root x i a new.has_place (λ e. n (sym e)))
        (λ b e. let z = sym new.block ∙ e in absurd (cc))
        (λ P. pick_is texts P counts s.places s.blocks t.root (bodies_in texts source s.places s.placed) x c new i a (count.0 refl) ∙ ap (in_front P (pick_kept counts t.root s.places s.blocks x i a)) by_places)

  -- ---- The result of a primitive

  module _ (f : Primitive) (atoms : List Atom) (r : Ready texts source counts t (Prim x f atoms c) s) where
    prim_head : IsHead counts x (Prim x f atoms c) c
    prim_head = record {
      weighs = λ z. omega arith;
      occurs = λ z e. let k = cond_own z x (occurs z c) e in omega arith;
      uses = λ z. omega arith;
      inner = λ z. omega arith;
      nodes = refl;
      census = λ k z. let q = k z in q.1;
    }

    prim_part : (b : Bool) → HasNoPart (cond b None (Some (row.Prim x f (atoms_in (place_of s.places) atoms))))
    prim_part true = tt
    prim_part false = refl

    pub prim_goes : Goes texts source counts t (Prim x f atoms c) s c (with_bodies s (put_left t.slot (prim_left counts s.places x f atoms) s.bodies))
    prim_goes =
        let hold = r.holds in
        let new = is_new texts source counts t x (Prim x f atoms c) c prim_head s r in
        let count = hold.counted x in
        same_goes texts source counts t x (Prim x f atoms c) c prim_head s r (prim_left counts s.places x f atoms) (prim_part (is_pure f && unused counts x))
        (λ P. prim_is texts P counts s.places s.blocks t.root (bodies_in texts source s.places s.placed) x c new f atoms (count.0 refl))

  -- ---- The handler

  module _ (r : Ready texts source counts t (Handler x c) s) where
    handler_head : IsHead counts x (Handler x c) c
    handler_head = record {
      weighs = λ z. omega arith;
      occurs = λ z e. let k = cond_own z x (occurs z c) e in omega arith;
      uses = λ z. omega arith;
      inner = λ z. omega arith;
      nodes = refl;
      census = λ k. k;
    }

    pub handler_goes : Goes texts source counts t (Handler x c) s c (with_bodies s (with_bind t.slot (row.Handler x) s.bodies))
    handler_goes = same_goes texts source counts t x (Handler x c) c handler_head s r (Some (row.Handler x)) refl (λ P. ap (Handler x) (walk_bound texts source counts t x (Handler x c) c handler_head s r))

module _ (texts : List (List ℕ)) (source : List Body) (counts : List Count) (t : Task) (a : Atom) (c : Code) (s : State) (r : Ready texts source counts t (SetHandler a c) s) where
  abbrev set : State
  set = with_bodies s (with_bind t.slot (row.SetHandler (atom_in (place_of s.places) a)) s.bodies)

  abbrev left : Option Bind
  left = Some (row.SetHandler (atom_in (place_of s.places) a))

  set_less : Less source counts (SetHandler a c) s r.holds c set
  set_less = record { binds = λ z. omega arith; occurs = λ z b. omega arith; uses = λ z. omega arith; inner = λ z. omega arith }

  pub set_goes : Goes texts source counts t (SetHandler a c) s c set
  set_goes =
      let hold = r.holds in
      let l = left_length t.slot _ s.bodies r.slots left in
      record {
        ready = ready_goes texts source counts t (SetHandler a c) c s set r left refl refl refl
            (same_tables source counts (SetHandler a c) s hold c set set_less refl refl refl (omega arith) hold.counted hold.counted_work);
        fits = bodies_go texts source counts t (SetHandler a c) c s set r left refl refl refl (all_from _ s.work (λ u i. refl)) (λ P. refl);
        less = omega arith;
      }
