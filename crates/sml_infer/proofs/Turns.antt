-- One step after another in the turn of a node.
use native.Mathlib.Omega.{arith}
use Rattle.std.proofs.Common.{◌≡◌, ◌⊎◌, inl, inr, ℕ, Bool, Option, Some, None, List, [], ◌∷◌, true, false, refl, sym, ap, subst, ◌∙◌}
use Rattle.std.specs.Prelude.{slice_get, ◌||◌}
use Rattle.std.specs.List.{AllByRecursion}
use Rattle.sml_tree.specs.declared.bare.Bare.{Bare}
use Rattle.sml_types.specs.Forms.{AreForms}
use Rattle.sml_types.specs.Poly.{Poly, Context, is_in}
use Rattle.sml_types.specs.Typing.{Typing}
use Rattle.sml_unify.specs.Solved.{Substitution, Solves}
use Rattle.infer_state.specs.declared.unknowns.Unknowns.{Unknowns}
use Rattle.infer_state.specs.declared.settled.Settled.{Settled}
use Rattle.infer_state.specs.declared.declared.Declared.{Declared}
use Rattle.infer_state.specs.Steps.{Reaches}
use Rattle.infer_state.specs.Names.{Inside, inside, AreEntered, IsOneOf}
use Rattle.infer_state.specs.Fits.{Fits, AllSuit, AreThere, AreBodies, joined_settled}
use Rattle.infer_scopes.specs.Scopes.{Stored, AllOpen, contexts_of}
use Rattle.infer_closing.specs.Open.{closed_at, is_closed}
use Rattle.infer_laws.proofs.Longer.{settled_same}
use Rattle.sml_infer.specs.Stages.{known, Grows, Follows}
use Rattle.sml_infer.specs.Going.{Now, stage, IsSound, AreDone}
use Rattle.sml_infer.proofs.Kept.{laid_longer, tables_longer, all_there, declared_longer, known_kept, done_kept, fits_on, all_suit_on}

-- ---- Closed names stay closed

either_or : (a b c : Bool) → (b ≡ true → c ≡ true) → (a || b) ≡ true → (a || c) ≡ true
either_or true b c f h = refl
either_or false b c f h = f h

open_kept : (p q : ℕ → Bool) (s : Stored) → ((x : ℕ) → p x ≡ true → q x ≡ true) → AllOpen p s → AllOpen q s
open_kept p q s f h i t e x l = either_or (is_in t.unclosed x) (p x) (q x) (f x) (h i t e x l)

closed_kept : (k l : ℕ → Option Poly) → ((x : ℕ) (s : Poly) → k x ≡ Some s → l x ≡ Some s) → (x : ℕ) → closed_at k x ≡ true → closed_at l x ≡ true
closed_kept k l f x e = at (k x) refl e
  where
    at : (o : Option Poly) → k x ≡ o → is_closed o ≡ true → closed_at l x ≡ true
    at None h q = absurd cc
    at (Some s) h q = ap is_closed (f x s h) ∙ q

pub all_open_kept : (k l : ℕ → Option Poly) (s : Stored) → ((x : ℕ) (q : Poly) → k x ≡ Some q → l x ≡ Some q) → AllOpen (closed_at k) s → AllOpen (closed_at l) s
all_open_kept k l s f h = open_kept (closed_at k) (closed_at l) s (closed_kept k l f) h

-- ---- What is bound changes

abbrev pub with_unknowns : Now → Unknowns → Now
with_unknowns a u = record { scopes = a.scopes; settled = a.settled; behind = a.behind; unknowns = u }

module _ (p : Bare) (d : Declared) (a : Now) (u : Unknowns) (ask got : Substitution → Type 0) (sound : IsSound p d a) (reaches : Reaches d.tables.names ask got a.unknowns u) where
  pub grows_bound : Grows (stage a) (stage (with_unknowns a u))
  grows_bound = record { longer = reaches.longer; sound = reaches.sound; contexts = λ i c e. e; settled = λ x q e. e }

  kept : (x : ℕ) (q : Poly) → known (stage a) x ≡ Some q → known (stage (with_unknowns a u)) x ≡ Some q
  kept = known_kept (stage a) (stage (with_unknowns a u)) grows_bound sound.there

  same : (x : ℕ) → known (stage (with_unknowns a u)) x ≡ known (stage a) x
  same x = settled_same a.unknowns.types u.types reaches.longer a.settled x sound.there

  pub sound_bound : AreForms u.types → IsSound p d (with_unknowns a u)
  sound_bound forms =
      record {
        forms = forms;
        state = reaches.state;
        laid = laid_longer a.unknowns.types u.types reaches.longer p d.starts sound.laid;
        there = all_there a.unknowns.types u.types reaches.longer a.settled sound.there;
        bodies = λ x q e f s. sound.bodies x q (sym (same x) ∙ e) f (reaches.sound f s);
        declared = declared_longer a.unknowns.types u.types reaches.longer d sound.declared;
        closed = all_open_kept (known (stage a)) (known (stage (with_unknowns a u))) a.scopes kept sound.closed;
      }

  pub follow_bound : (t : Typing) (h : Follows p d t (stage a)) → ask h.f → Follows p d t (stage (with_unknowns a u))
  follow_bound t h k =
      let g = reaches.general h.f h.solution k in
      record {
        f = g.0;
        tables = tables_longer a.unknowns.types u.types reaches.longer d t sound.declared h.tables;
        fits = fits_on p d a sound t h.f g.0 g.1 h.fits;
        solution = g.2;
        suits = λ x q e. all_suit_on p d a sound t h.f g.0 g.1 h.suits x q (sym (same x) ∙ e);
        contexts = h.contexts;
      }

  pub done_bound : (node : ℕ) → AreDone p d a node → AreDone p d (with_unknowns a u) node
  done_bound node h i n l e = done_kept p d (stage a) (stage (with_unknowns a u)) i n grows_bound sound.there sound.declared (h i n l e)

-- ---- Nodes get their contexts

abbrev pub with_scopes : Now → Stored → Now
with_scopes a s = record { scopes = s; settled = a.settled; behind = a.behind; unknowns = a.unknowns }

module _ (p : Bare) (d : Declared) (a : Now) (s : Stored) (items : List Inside) (sound : IsSound p d a) (entered : AreEntered items (contexts_of a.scopes) (contexts_of s)) where
  pub grows_entered : Grows (stage a) (stage (with_scopes a s))
  grows_entered = record { longer = record { count = omega arith; keeps = λ i f e. e; trees = λ i l. refl }; sound = λ f h. h; contexts = entered.kept; settled = λ x q e. e }

  pub sound_entered : (AllOpen (closed_at (known (stage a))) a.scopes → AllOpen (closed_at (known (stage a))) s) → IsSound p d (with_scopes a s)
  sound_entered h =
      record { forms = sound.forms; state = sound.state; laid = sound.laid; there = sound.there; bodies = sound.bodies; declared = sound.declared; closed = h sound.closed }

  among : (t : Typing) (ys : List Inside) (x : Inside) → AllByRecursion (λ y. t.contexts y.node ≡ y.context) ys → IsOneOf x ys → t.contexts x.node ≡ x.context
  among t [] x h k = absurd k
  among t (y ∷ ys) x h (inl e) = subst (λ (z : Inside). t.contexts z.node ≡ z.context) (sym e) h.0
  among t (y ∷ ys) x h (inr k) = among t ys x h.1 k

  pub follow_entered : (t : Typing) → Follows p d t (stage a) → AllByRecursion (λ x. t.contexts x.node ≡ x.context) items → Follows p d t (stage (with_scopes a s))
  follow_entered t h k =
      record {
        f = h.f;
        tables = h.tables;
        fits = h.fits;
        solution = h.solution;
        suits = h.suits;
        contexts = λ i c e. at i c (entered.only i c e);
      }
    where
      at : (i : ℕ) (c : Context) → (contexts_of a.scopes i ≡ Some c) ⊎ IsOneOf (inside c i) items → t.contexts i ≡ c
      at i c (inl e) = h.contexts i c e
      at i c (inr e) = among t items (inside c i) k e

  pub done_entered : (node : ℕ) → AreDone p d a node → AreDone p d (with_scopes a s) node
  done_entered node h i n l e = done_kept p d (stage a) (stage (with_scopes a s)) i n grows_entered sound.there sound.declared (h i n l e)

-- ---- Names are settled

abbrev pub with_settled : Now → List (Option Settled) → Unknowns → Now
with_settled a settled u = record { scopes = a.scopes; settled = settled; behind = a.behind; unknowns = u }

abbrev pub Always : Substitution → Type 0
Always f = Unit {0}

module _ (p : Bare) (d : Declared) (a : Now) (settled : List (Option Settled)) (u : Unknowns) (sound : IsSound p d a) (reaches : Reaches d.tables.names Always Always a.unknowns u) (kept : (x : ℕ) (q : Settled) → joined_settled (slice_get a.settled x) ≡ Some q → joined_settled (slice_get settled x) ≡ Some q) where
  abbrev after : Now
  after = with_settled a settled u

  pub grows_settled : Grows (stage a) (stage after)
  grows_settled = record { longer = reaches.longer; sound = reaches.sound; contexts = λ i c e. e; settled = kept }

  pub sound_settled : AreForms u.types → AreThere u.types settled → (AreBodies p a.unknowns (known (stage a)) → AreBodies p u (known (stage after))) → IsSound p d after
  sound_settled forms there bodies =
      record {
        forms = forms;
        state = reaches.state;
        laid = laid_longer a.unknowns.types u.types reaches.longer p d.starts sound.laid;
        there = there;
        bodies = bodies sound.bodies;
        declared = declared_longer a.unknowns.types u.types reaches.longer d sound.declared;
        closed = all_open_kept (known (stage a)) (known (stage after)) a.scopes (known_kept (stage a) (stage after) grows_settled sound.there) sound.closed;
      }

  -- a later solution with the typing's types
  pub follow_settled : (t : Typing) → Follows p d t (stage a) → ((g : Substitution) → Solves a.unknowns.types a.unknowns.subst.bound g → Fits p t g → AllSuit (known (stage a)) g t → AllSuit (known (stage after)) g t) → Follows p d t (stage after)
  follow_settled t h suits =
      let g = reaches.general h.f h.solution tt in
      let fits = fits_on p d a sound t h.f g.0 g.1 h.fits in
      record {
        f = g.0;
        tables = tables_longer a.unknowns.types u.types reaches.longer d t sound.declared h.tables;
        fits = fits;
        solution = g.2;
        suits = suits g.0 (reaches.sound g.0 g.2.solves) fits (all_suit_on p d a sound t h.f g.0 g.1 h.suits);
        contexts = h.contexts;
      }

  pub done_settled : (node : ℕ) → AreDone p d a node → AreDone p d after node
  done_settled node h i n l e = done_kept p d (stage a) (stage after) i n grows_settled sound.there sound.declared (h i n l e)
