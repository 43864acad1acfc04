-- What holds of the state of a round in front of a body.
use Rattle.std.specs.Prelude.{◌≡◌, ◌≢◌, ℕ, ◌≤◌, ◌<◌, List, Some, None, length, get_or}
use Rattle.std.specs.List.{AllByRecursion}
use Rattle.cps_ir.specs.declared.atom.Atom.TheVariants as atom
use Rattle.cps_ir.specs.declared.body.Body.{Body}
use Rattle.cps_ir.specs.Code.{Code}
use Rattle.cps_ir.specs.Program.{code_at}
use Rattle.contract_laws.specs.Redex.{uses_atom, uses_atoms}
use Rattle.contract_census.specs.declared.counts.Count.{Count}
use Rattle.contract_census.specs.Counted.{IsCensus}
use Rattle.contract_known.specs.declared.blocks.Block.{Block}
use Rattle.contract_known.specs.Known.{place_of}
use Rattle.contract_group.specs.declared.task.Placed.{Placed}
use Rattle.contract_steps.specs.State.{State}
use Rattle.contract_holds.specs.Open.{all_binds, all_occurs, all_uses, all_inner}

-- the tables have room for x, and nothing is entered for it
pub record IsUnentered (s : State) (x : ℕ) : Type 0 where
  pub has_place : x < length s.places
  pub has_block : x < length s.blocks
  pub has_body : x < length s.placed
  pub place : place_of s.places x ≡ atom.Var x
  pub block : get_or s.blocks x None ≡ None
  pub body : get_or s.placed x None ≡ None

pub record Holds (source : List Body) (counts : List Count) (c : Code) (s : State) : Type 0 where
  -- each variable is bound once in what is to be walked, or is used there from outside
  pub once : (x : ℕ) → all_binds source c s x ≤ 1
  pub closed : (x : ℕ) → 1 ≤ all_occurs source c s x → all_binds source c s x ≡ 0
  -- a function that is put where it is called has one use, in no function
  pub single : (f : ℕ) (p : Placed) → get_or s.placed f None ≡ Some p → all_uses source c s f ≤ 1
  pub outer : (f : ℕ) (p : Placed) → get_or s.placed f None ≡ Some p → all_inner source c s f ≡ 0
  -- for what is still to be bound nothing is entered, and it is mentioned nowhere
  pub fresh : (x : ℕ) → 1 ≤ all_binds source c s x → IsUnentered s x
  pub places : (x y : ℕ) → 1 ≤ all_binds source c s x → y ≢ x → uses_atom x (place_of s.places y) ≡ 0
  pub blocks : (x y : ℕ) (b : Block) → 1 ≤ all_binds source c s x → get_or s.blocks y None ≡ Some b → uses_atoms x b.atoms ≡ 0
  -- blocks stand in bodies that are there
  pub roots : (y : ℕ) (b : Block) → get_or s.blocks y None ≡ Some b → b.root < length s.bodies
  -- the counts are right for what is to be walked
  pub counted : IsCensus counts c
  pub counted_work : AllByRecursion (λ t. IsCensus counts (code_at source t.body)) s.work
  pub counted_placed : (f : ℕ) (p : Placed) → get_or s.placed f None ≡ Some p → IsCensus counts (code_at source p.body)
