-- Each basic value on its argument.
use Rattle.std.proofs.Common.{◌≡◌, ℕ, Bool, true, false, not, List, Option, None, refl, subst}
use Rattle.std.specs.Prelude.{cond}
use Rattle.smlc_base.specs.declared.primitive.Primitive.{Primitive}
use Rattle.smlc_base.specs.declared.primitive.Primitive.TheVariants as prim
use Rattle.prim_meaning.specs.Meaning.{equals}
use Rattle.sml_tree.specs.declared.bare.Bare.{Bare}
use Rattle.simulation.specs.Runs as runs
use Rattle.sml_def.specs.State.{Value, Address, Control, Apply}
use Rattle.sml_def.specs.State as m
use Rattle.sml_def.specs.Builtin as mb
use Rattle.sml_def.specs.Builtin.{carry, arguments_of}
use Rattle.sml_def.specs.Step.{step}
use Rattle.sml_rules.specs.Terms.{Term, State, Gives, Stuck}
use Rattle.sml_rules.specs.Patterns.{record_fields}
use Rattle.sml_rules.specs.Apply as basic
use Rattle.sml_rules.proofs.Relation.{World}
use Rattle.sml_rules.proofs.Environments.{Is}
use Rattle.sml_rules.proofs.Forms.{Holds}
use Rattle.sml_rules.proofs.Follows.{Kept, Conf, conf, memory, M, Follows, Back, stuck_here}
use Rattle.sml_rules.proofs.Expressions.{Builtins}
use Rattle.sml_rules.proofs.Primitives.{Acts, arguments_are, acts_arguments, acts_builtin, by_length}
use Rattle.sml_rules.proofs.Equality.{two_follow}

module _ (p : Bare) (Inv : Conf → Type 0) (kept : Kept p Inv) where
  -- `=` and `<>`
  module _ (yes : Bool) (k : Option Address) (need : ℕ) (c : Control) (s : State) (w : World) (holds : Holds p w s) (inv : Inv (conf c s w)) (busy : (M p).end (conf c s w) ≡ runs.Going) where
    stuck : step p (memory s w) c ≡ None → Follows p (Back p k) k need (conf c s w) w (Stuck s)
    stuck e = stuck_here p (Back p k) k need c s w e busy

    answer : (u x : Term) (v y : Value) → Is p w u v → Is p w x y → step p (memory s w) c ≡ carry (memory s w) k (equals (mb.see p.texts w.store) v y yes) → Follows p (Back p k) k need (conf c s w) w (Gives (basic.truth (cond (basic.equal u x) yes (not yes))) s)
    answer u x v y i j e = two_follow p Inv kept k need c s w holds inv yes u x v y i j e

  if_equal : (e : Bool) → cond e true false ≡ e
  if_equal true = refl
  if_equal false = refl

  if_unequal : (e : Bool) → cond e false true ≡ not e
  if_unequal true = refl
  if_unequal false = refl

  module _ (g : Primitive) (yes : Bool) (k : Option Address) (need : ℕ) (u : Term) (v : Value) (s : State) (w : World) (holds : Holds p w s) (inv : Inv (conf (Apply (m.Builtin g) v k) s w)) where
    abbrev Does : List Term → List Value → Type 0
    Does us vs = Acts p k need (Apply (m.Builtin g) v k) s w holds refl (mb.applied p.texts (memory s w) k g vs) (basic.applied_to g us s)

  equal_does : (k : Option Address) (need : ℕ) (u : Term) (v : Value) (s : State) (w : World) (holds : Holds p w s) (i : Is p w u v) (inv : Inv (conf (Apply (m.Builtin prim.Equal) v k) s w)) → Follows p (Back p k) k need (conf (Apply (m.Builtin prim.Equal) v k) s w) w (basic.builtin prim.Equal u s)
  equal_does k need u v s w holds i inv =
      let c : Control = Apply (m.Builtin prim.Equal) v k in
      acts_arguments p k need c s w holds refl (basic.applied_to prim.Equal) (mb.applied p.texts (memory s w) k prim.Equal) (record_fields u) (arguments_of false w.store v) (arguments_are p k need c s w holds refl false u v i) (by_length p w (Does prim.Equal true k need u v s w holds inv) (stuck true k need c s w holds inv refl) (λ x y j. stuck true k need c s w holds inv refl) (λ x z y q j l e. subst (λ b. Follows p (Back p k) k need (conf c s w) w (Gives (basic.truth b) s)) (if_equal (basic.equal x z)) (answer true k need c s w holds inv refl x z y q j l e)) (λ x z a us y q b vs. stuck true k need c s w holds inv refl)) refl

  unequal_does : (k : Option Address) (need : ℕ) (u : Term) (v : Value) (s : State) (w : World) (holds : Holds p w s) (i : Is p w u v) (inv : Inv (conf (Apply (m.Builtin prim.Unequal) v k) s w)) → Follows p (Back p k) k need (conf (Apply (m.Builtin prim.Unequal) v k) s w) w (basic.builtin prim.Unequal u s)
  unequal_does k need u v s w holds i inv =
      let c : Control = Apply (m.Builtin prim.Unequal) v k in
      acts_arguments p k need c s w holds refl (basic.applied_to prim.Unequal) (mb.applied p.texts (memory s w) k prim.Unequal) (record_fields u) (arguments_of false w.store v) (arguments_are p k need c s w holds refl false u v i) (by_length p w (Does prim.Unequal false k need u v s w holds inv) (stuck false k need c s w holds inv refl) (λ x y j. stuck false k need c s w holds inv refl) (λ x z y q j l e. subst (λ b. Follows p (Back p k) k need (conf c s w) w (Gives (basic.truth b) s)) (if_unequal (basic.equal x z)) (answer false k need c s w holds inv refl x z y q j l e)) (λ x z a us y q b vs. stuck false k need c s w holds inv refl)) refl

  pub builtins : Builtins p Inv kept
  builtins prim.Equal u v k need s w holds i inv = equal_does k need u v s w holds i inv
  builtins prim.Unequal u v k need s w holds i inv = unequal_does k need u v s w holds i inv
  builtins g u v k need s w holds i inv = acts_builtin p k need (Apply (m.Builtin g) v k) s w holds refl g tt u v i refl
