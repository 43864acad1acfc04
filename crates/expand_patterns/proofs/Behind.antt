-- Nodes behind their parts.
use Rattle.std.proofs.Common.{◌≡◌, ℕ, List, ◌++◌, Option, Some, None, Result, Ok, Err, IfOk, refl, ap, ◌∙◌, subst}
use Rattle.smlc_base.specs.declared.place.Place.{Place}
use Rattle.sml_tree.specs.declared.bare.Con.{Con}
use Rattle.sml_tree.specs.declared.bare.Field.{Field}
use Rattle.sml_tree.specs.declared.bare.Node.TheVariants as bare
use Rattle.sml_expansion.specs.declared.meaning.Meaning.{Meaning}
use Rattle.sml_expansion.specs.declared.meaning.Meaning.TheVariants.{Variable, Constructor, Builtin}
use Rattle.sml_expansion.specs.declared.scope.Bindings.{Bindings}
use Rattle.sml_expansion.specs.declared.scope.Bound.{Bound}
use Rattle.sml_expansion.specs.declared.scope.Ident.{Ident}
use Rattle.sml_expansion.specs.declared.walk.Walk.{Walk}
use Rattle.sml_expansion.specs.Bare.{fields, tuple_pattern}
use Rattle.sml_expansion.specs.Forests.{Forest, grown, count}
use Rattle.sml_expansion.specs.Labels.{numbers}
use Rattle.sml_expansion.specs.Makings.{Makes}
use Rattle.sml_expansion.specs.Marks.{marks}
use Rattle.sml_expansion.specs.Patterns.{Pattern, layer, applied}
use Rattle.sml_expansion.specs.Scopes.{Scope, scope_of, meaning_of}
use Rattle.expand_patterns.specs.Expands.{Expands}
use Rattle.expand_patterns.specs.Opens.{opened, wrapped, at_argument, layer_node}

pub if_ok : {A E : Type 0} {P Q : A → Type 0} (r : Result A E) → ((a : A) → P a → Q a) → IfOk r P → IfOk r Q
if_ok (Ok a) k h = k a h
if_ok (Err e) k h = h

pub layer_is : (p : Place) (x : ℕ) (m : Option Meaning) (q : Forest) → grown (layer_node x m) p q ≡ layer p x m q
layer_is p x None q = refl
layer_is p x (Some (Variable y)) q = refl
layer_is p x (Some (Constructor c)) q = refl
layer_is p x (Some (Builtin b)) q = refl

module _ (names : List (List ℕ)) where
  -- definitions that give the same here
  pub agree : (f g : Scope → Makes Pattern) (n : ℕ) (w v : Walk) (b d : List Bound) → f (scope_of names w.bindings) w.made ≡ g (scope_of names w.bindings) w.made → Expands names f n w v b d → Expands names g n w v b d
  agree f g n w v b d h e = record {
    made = e.made ∙ ap (λ r. r.1) h;
    bindings = e.bindings;
    marks = e.marks ∙ ap (λ r. w.marks ++ marks r.0.forest) h;
    vars = e.vars ∙ ap (λ r. b ++ r.0.vars) h;
    trees = e.trees ∙ ap (λ r. count r.0.forest) h;
  }

  pub tuple_closed : (f : Scope → Makes Pattern) (p : Place) (k n : ℕ) (l : List Field) (before first last new : Walk) (earlier later : List Bound) → l ≡ fields (numbers 0 k) → first ≡ opened before
      → Expands names f k first last earlier later → Expands names (wrapped f (λ s. grown (bare.PatRecord l) p)) n before new earlier later → Expands names (wrapped f (λ s. tuple_pattern p)) n before new earlier later
  tuple_closed f p k n l before first last new earlier later h o e c =
      let e' : Expands names f k (opened before) last earlier later = subst (λ u. Expands names f k u last earlier later) o e in
      let r = f (scope_of names before.bindings) before.made in
      let same : l ≡ fields (numbers 0 (count r.0.forest)) = h ∙ ap (λ j. fields (numbers 0 j)) e'.trees in
      agree (wrapped f (λ s. grown (bare.PatRecord l) p)) (wrapped f (λ s. tuple_pattern p)) n before new earlier later (ap (λ (j : List Field). (record { forest = grown (bare.PatRecord j) p r.0.forest; vars = r.0.vars }, r.1)) same) c

  -- what is in force before the parts is in force behind them
  in_force : (f : Scope → Makes Pattern) (k : ℕ) (before first last : Walk) (earlier later : List Bound) → first ≡ opened before → Expands names f k first last earlier later → scope_of names last.bindings ≡ scope_of names before.bindings
  in_force f k before first last earlier later o e = ap (λ (b : Bindings). scope_of names b) (e.bindings ∙ ap (λ (u : Walk). u.bindings) o)

  pub layer_closed : (f : Scope → Makes Pattern) (p : Place) (i : Ident) (x k n : ℕ) (m : Option Meaning) (before first last new : Walk) (earlier later : List Bound) → m ≡ meaning_of (scope_of names last.bindings) i.key → first ≡ opened before
      → Expands names f k first last earlier later → Expands names (wrapped f (λ s. grown (layer_node x m) p)) n before new earlier later → Expands names (wrapped f (λ s. layer p x (meaning_of s i.key))) n before new earlier later
  layer_closed f p i x k n m before first last new earlier later h o e c =
      let r = f (scope_of names before.bindings) before.made in
      let same : m ≡ meaning_of (scope_of names before.bindings) i.key = h ∙ ap (λ s. meaning_of s i.key) (in_force f k before first last earlier later o e) in
      agree (wrapped f (λ s. grown (layer_node x m) p)) (wrapped f (λ s. layer p x (meaning_of s i.key))) n before new earlier later
      (ap (λ (g : Forest). (record { forest = g; vars = r.0.vars }, r.1)) (layer_is p x m r.0.forest ∙ ap (λ o. layer p x o r.0.forest) same)) c

  pub applied_closed : (f : Scope → Makes Pattern) (p : Place) (i : Ident) (k n : ℕ) (con : Con) (before first last new : Walk) (earlier later : List Bound) → Some (Constructor con) ≡ meaning_of (scope_of names last.bindings) i.key → first ≡ opened before
      → Expands names f k first last earlier later → Expands names (wrapped f (λ s. grown (bare.PatApp con 0) p)) n before new earlier later → Expands names (at_argument f p i) n before new earlier later
  applied_closed f p i k n con before first last new earlier later h o e c =
      let r = f (scope_of names before.bindings) before.made in
      let same : Some (Constructor con) ≡ meaning_of (scope_of names before.bindings) i.key = h ∙ ap (λ s. meaning_of s i.key) (in_force f k before first last earlier later o e) in
      agree (wrapped f (λ s. grown (bare.PatApp con 0) p)) (at_argument f p i) n before new earlier later (ap (λ o. applied p i o r.0 r.1) same) c
