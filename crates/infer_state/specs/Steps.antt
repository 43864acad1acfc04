-- What a step of inference owes.
use Rattle.std.specs.Prelude.{◌≡◌, ℕ, ◌≤◌, List, length, Result, Ok, Err}
use Rattle.sml_types.specs.declared.tables.TypeName.{TypeName}
use Rattle.sml_unify.specs.Solved.{Substitution, AreBindings, Solves, Respects, Agrees, meant}
use Rattle.sml_unify.specs.Steps.{IsLonger, AreBelow}
use Rattle.infer_state.specs.declared.unknowns.Unknowns.{Unknowns}
use Rattle.infer_state.specs.declared.failure.Failure.{Failure}
use Rattle.infer_state.specs.declared.failure.Failure.TheVariants.{Untypable, NoMemory}

-- what always holds
pub record IsState (names : List TypeName) (s : Unknowns) : Type 0 where
  pub bindings : AreBindings s.types s.subst.bound
  pub below : AreBelow s.types s.next
  pub short : length s.subst.bound ≤ s.next
  pub marks : Respects names s.types (meant s.types s.subst.bound)

-- a substitution keeps the marks and solves what is bound
pub record IsSolution (names : List TypeName) (s : Unknowns) (f : Substitution) : Type 0 where
  pub marks : Respects names s.types f
  pub solves : Solves s.types s.subst.bound f

-- a step leads from a state to another: each later solution is an earlier one that gets this, and an earlier one that has what is asked goes over into a later one
pub record Reaches (names : List TypeName) (ask gets : Substitution → Type 0) (before after : Unknowns) : Type 0 where
  pub state : IsState names after
  pub longer : IsLonger before.types after.types
  pub raised : before.next ≤ after.next
  pub sound : (f : Substitution) → Solves after.types after.subst.bound f → Solves before.types before.subst.bound f
  pub got : (f : Substitution) → IsSolution names after f → gets f
  pub general : (f : Substitution) → IsSolution names before f → ask f → (g : Substitution) × Agrees before.next f g × IsSolution names after g

-- no solution has this
abbrev pub IsRefused : List TypeName → (Substitution → Type 0) → Unknowns → Type 0
IsRefused names rule s = (f : Substitution) → IsSolution names s f → rule f → ⊥

-- what a step answers that makes a rule hold
abbrev pub IsStep : List TypeName → (Substitution → Type 0) → Unknowns → Unknowns → Result Unit Failure → Type 0
IsStep names rule before after (Ok _) = Reaches names rule rule before after
IsStep names rule before after (Err Untypable) = IsRefused names rule before
IsStep names rule before after (Err NoMemory) = Unit {0}
