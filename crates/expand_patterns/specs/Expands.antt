-- What code leaves that answers a definition.
use Rattle.std.specs.Prelude.{◌≡◌, ℕ, List, ◌++◌}
use Rattle.sml_expansion.specs.declared.scope.Bound.{Bound}
use Rattle.sml_expansion.specs.declared.walk.Walk.{Walk}
use Rattle.sml_expansion.specs.Forests.{count}
use Rattle.sml_expansion.specs.Makings.{Makes}
use Rattle.sml_expansion.specs.Marks.{marks}
use Rattle.sml_expansion.specs.Patterns.{Pattern}
use Rattle.sml_expansion.specs.Scopes.{Scope, scope_of}

-- Patterns are expanded: their trees, of which there are so many, are spelled behind those before, and the variables that they bind stand behind those
-- that the list had. What is in force stays.
pub record Expands (names : List (List ℕ)) (f : Scope → Makes Pattern) (n : ℕ) (old new : Walk) (earlier later : List Bound) : Type 0 where
  pub made : new.made ≡ (f (scope_of names old.bindings) old.made).1
  pub bindings : new.bindings ≡ old.bindings
  pub marks : new.marks ≡ old.marks ++ marks (f (scope_of names old.bindings) old.made).0.forest
  pub vars : later ≡ earlier ++ (f (scope_of names old.bindings) old.made).0.vars
  pub trees : n ≡ count (f (scope_of names old.bindings) old.made).0.forest

-- Names are bound: they stand behind those that the list had. No tree is made, and what is in force stays.
pub record Binds (names : List (List ℕ)) (f : Scope → Makes (List Bound)) (old new : Walk) (earlier later : List Bound) : Type 0 where
  pub made : new.made ≡ (f (scope_of names old.bindings) old.made).1
  pub bindings : new.bindings ≡ old.bindings
  pub marks : new.marks ≡ old.marks
  pub vars : later ≡ earlier ++ (f (scope_of names old.bindings) old.made).0
