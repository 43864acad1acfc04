-- The walk of a binding by tables.
use Rattle.std.proofs.Common.{◌≡◌, ℕ, zero, suc, ◌<◌, List, length, Bool, true, false, cond, ◌&&◌, Option, Some, None, refl, sym, ap, ◌∙◌, subst, arith, nat_eq, nat_lt, eqb-true, eq-eqb, ne_eqb}
use Rattle.std.specs.Prelude.{slice_set}
use Rattle.std.proofs.lemmas.List.{get_or-set_same, get_or-set_other}
use Rattle.smlc_base.specs.declared.primitive.Primitive.{Primitive}
use Rattle.cps_ir.specs.declared.atom.Atom.{Atom}
use Rattle.cps_ir.specs.declared.atom.Atom.TheVariants as atom
use Rattle.cps_ir.specs.declared.atom.Shape.{Shape}
use Rattle.cps_ir.specs.declared.atom.Shape.TheVariants as form
use Rattle.cps_ir.specs.declared.body.Bind.TheVariants as row
use Rattle.cps_ir.specs.Code.{Code, Make, Pick, Prim}
use Rattle.cps_ir.specs.State.{bind}
use Rattle.contract_laws.specs.Contract.{Made, known_as, is_pure}
use Rattle.contract_laws.specs.Redex.{uses}
use Rattle.contract_laws.proofs.Relation.{eqb_other}
use Rattle.contract_round.specs.Round.{Inlined, Known, binding, replacing, atom_in, atoms_in, known_field, is_unused, pick_left, walk}
use Rattle.contract_frame.specs.Apart.{Unmet, NotIn, SamePlaces, SameBlocks, SameBody}
use Rattle.contract_frame.proofs.Frame.{same_walk}
use Rattle.contract_census.specs.declared.counts.Count.{Count}
use Rattle.contract_census.specs.Counting.{is_never}
use Rattle.contract_census.specs.Counted.{times_of}
use Rattle.contract_known.specs.declared.blocks.Block.{Block}
use Rattle.contract_known.specs.Known.{place_of, made_in, made_at}
use Rattle.contract_binds.specs.Binds.{put, entered, unused, make_left, make_blocks, field_kept, field_place, pick_field, pick_kept, pick_places, prim_left}
use Rattle.contract_binds.specs.Law.{scope_of, in_front, no_variable, IsNew, Counted}

none_met : (f : ℕ → ℕ) → Unmet no_variable f
none_met f z e = absurd (cc)

never_of : (n : ℕ) → is_never (times_of n) ≡ nat_eq n 0
never_of zero = refl
never_of (suc zero) = refl
never_of (suc (suc n)) = sym (ne_eqb (suc (suc n)) 0 (omega arith))

unused_is : (counts : List Count) (x : ℕ) (c : Code) → Counted counts x c → unused counts x ≡ is_unused x c
unused_is counts x c k = ap is_never k ∙ never_of (uses x c)

put_is : {A : Type 0} (x : ℕ) (a : A) (table : List A) → x < length table → put x a table ≡ slice_set table x a
put_is x a table l = let e : nat_lt x (length table) ≡ true = grind arith in ap (λ b. cond b (slice_set table x a) table) e

not_in : (o : Option Made) → NotIn no_variable o
not_in None = tt
not_in (Some t) = none_met _

module _ (texts : List (List ℕ)) (part : ℕ → Code) (counts : List Count) (places : List Atom) (blocks : List (Option Block)) (root : ℕ) (ι : ℕ → Option Inlined) (x : ℕ) (c : Code) (new : IsNew places blocks ι x) where
  abbrev K : Known
  K = scope_of places blocks root ι

  places_itself : SamePlaces no_variable no_variable (bind (place_of places) x (atom.Var x)) (place_of places)
  places_itself y d = (by (nat_eq y x) refl, none_met _)
    where
      by : (b : Bool) → nat_eq y x ≡ b → cond b (atom.Var x) (place_of places y) ≡ place_of places y
      by true e = sym new.place ∙ ap (place_of places) (sym (eqb-true y x e))
      by false e = refl

  places_put : (b : Atom) → SamePlaces no_variable no_variable (bind (place_of places) x b) (place_of (put x b places))
  places_put b y d = (by (nat_eq y x) refl ∙ ap (λ t. place_of t y) (sym (put_is x b places new.has_place)), none_met _)
    where
      by : (o : Bool) → nat_eq y x ≡ o → cond o b (place_of places y) ≡ place_of (slice_set places x b) y
      by true e = let q = eqb-true y x e in sym (ap (place_of (slice_set places x b)) q ∙ get_or-set_same places x b (atom.Var x) new.has_place)
      by false e = sym (get_or-set_other places x y b (atom.Var y) (eqb_other y x e))

  blocks_none : SameBlocks no_variable (bind (made_at blocks root) x None) (made_at blocks root)
  blocks_none y d = (by (nat_eq y x) refl, not_in _)
    where
      by : (b : Bool) → nat_eq y x ≡ b → cond b None (made_at blocks root y) ≡ made_at blocks root y
      by true e = sym (ap (made_at blocks root) (eqb-true y x e) ∙ ap (made_in root) new.block)
      by false e = refl

  blocks_put : (shape : Shape) (us : List Atom) → SameBlocks no_variable (bind (made_at blocks root) x (Some (record { shape = shape; atoms = us }))) (made_at (put x (Some (record { root = root; shape = shape; atoms = us })) blocks) root)
  blocks_put shape us y d = (by (nat_eq y x) refl ∙ ap (λ t. made_at t root y) (sym (put_is x block blocks new.has_block)), not_in _)
    where
      block : Option Block
      block = Some (record { root = root; shape = shape; atoms = us })

      by : (o : Bool) → nat_eq y x ≡ o → cond o (Some (record { shape = shape; atoms = us })) (made_at blocks root y) ≡ made_at (slice_set blocks x block) root y
      by true e =
          let q = eqb-true y x e in
          sym (ap (made_at (slice_set blocks x block) root) q ∙ ap (made_in root) (get_or-set_same blocks x block None new.has_block) ∙ ap (λ b. cond b (Some (record { shape = shape; atoms = us })) None) (eq-eqb root root refl))
      by false e = sym (ap (made_in root) (get_or-set_other blocks x y block None (eqb_other y x e)))

  blocks_entered : (shape : Shape) (us : List Atom) → SameBlocks no_variable (bind (made_at blocks root) x (known_as shape us)) (made_at (entered root x shape us blocks) root)
  blocks_entered form.Tuple us = blocks_put form.Tuple us
  blocks_entered (form.Applied n) us = blocks_put (form.Applied n) us
  blocks_entered form.Cell us = blocks_none
  blocks_entered (form.ExnName n) us = blocks_none
  blocks_entered form.Packet us = blocks_none

  blocks_still : SameBlocks no_variable (made_at blocks root) (made_at blocks root)
  blocks_still y d = (refl, not_in _)

  bodies_still : (f : ℕ) → no_variable f ≡ false → SameBody no_variable (bind ι x None f) (ι f)
  bodies_still f d = by (nat_eq f x) refl
    where
      by : (b : Bool) → nat_eq f x ≡ b → SameBody no_variable (cond b None (ι f)) (ι f)
      by true e = subst (SameBody no_variable None) (sym (ap ι (eqb-true f x e) ∙ new.body)) tt
      by false e = new.steady f

  walk_entered : (shape : Shape) (us : List Atom) → walk texts (binding K x (known_as shape us)) c ≡ walk texts (scope_of places (entered root x shape us blocks) root ι) c
  walk_entered shape us =
      same_walk no_variable no_variable (λ y e. e) texts c (binding K x (known_as shape us)) (scope_of places (entered root x shape us blocks) root ι) (none_met _) (none_met _)
      (record { places = places_itself; blocks = blocks_entered shape us; bodies = bodies_still })

  walk_bound : walk texts (binding K x None) c ≡ walk texts K c
  walk_bound = same_walk no_variable no_variable (λ y e. e) texts c (binding K x None) K (none_met _) (none_met _) (record { places = places_itself; blocks = blocks_none; bodies = bodies_still })

  walk_replaced : (b : Atom) → walk texts (replacing K x b) c ≡ walk texts (scope_of (put x b places) blocks root ι) c
  walk_replaced b =
      same_walk no_variable no_variable (λ y e. e) texts c (replacing K x b) (scope_of (put x b places) blocks root ι) (none_met _) (none_met _) (record { places = places_put b; blocks = blocks_still; bodies = bodies_still })

  pub make_is : (shape : Shape) (atoms : List Atom) → Counted counts x c → walk texts K (Make x shape atoms c) ≡ in_front part (make_left counts places x shape atoms) (walk texts (scope_of places (make_blocks counts root places x shape atoms blocks) root ι) c)
  make_is shape atoms k = ap (λ b. cond b (walk texts K c) (Make x shape us (walk texts (binding K x (known_as shape us)) c))) (sym (unused_is counts x c k)) ∙ by (unused counts x)
    where
      us : List Atom
      us = atoms_in (place_of places) atoms

      by : (b : Bool) → cond b (walk texts K c) (Make x shape us (walk texts (binding K x (known_as shape us)) c)) ≡ in_front part (cond b None (Some (row.Make x shape us))) (walk texts (scope_of places (cond b blocks (entered root x shape us blocks)) root ι) c)
      by true = refl
      by false = ap (Make x shape us) (walk_entered shape us)

  pub pick_is : (i : ℕ) (a : Atom) → Counted counts x c → walk texts K (Pick x i a c) ≡ in_front part (pick_kept counts root places blocks x i a) (walk texts (scope_of (pick_places counts root places blocks x i a) blocks root ι) c)
  pick_is i a k = ap (λ b. cond b (walk texts K c) left) (sym (unused_is counts x c k)) ∙ by (unused counts x)
    where
      u : Atom
      u = atom_in (place_of places) a

      left : Code
      left = pick_left (known_field (made_at blocks root) u i) (λ b. walk texts (replacing K x b) c) (Pick x i u (walk texts (binding K x None) c))

      field : (o : Option Atom) → pick_left o (λ b. walk texts (replacing K x b) c) (Pick x i u (walk texts (binding K x None) c)) ≡ in_front part (field_kept x i u o) (walk texts (scope_of (field_place x o places) blocks root ι) c)
      field None = ap (Pick x i u) walk_bound
      field (Some b) = walk_replaced b

      by : (b : Bool) → cond b (walk texts K c) left ≡ in_front part (cond b None (field_kept x i u (pick_field root places blocks i a))) (walk texts (scope_of (cond b places (field_place x (pick_field root places blocks i a) places)) blocks root ι) c)
      by true = refl
      by false = field (pick_field root places blocks i a)

  pub prim_is : (f : Primitive) (atoms : List Atom) → Counted counts x c → walk texts K (Prim x f atoms c) ≡ in_front part (prim_left counts places x f atoms) (walk texts K c)
  prim_is f atoms k = ap (λ b. cond (is_pure f && b) (walk texts K c) (Prim x f us (walk texts (binding K x None) c))) (sym (unused_is counts x c k)) ∙ by (is_pure f && unused counts x)
    where
      us : List Atom
      us = atoms_in (place_of places) atoms

      by : (b : Bool) → cond b (walk texts K c) (Prim x f us (walk texts (binding K x None) c)) ≡ in_front part (cond b None (Some (row.Prim x f us))) (walk texts K c)
      by true = refl
      by false = ap (Prim x f us) walk_bound
