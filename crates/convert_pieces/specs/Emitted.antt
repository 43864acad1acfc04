-- What a body has so far, and what is then left to be written.
use Rattle.std.specs.Prelude.{◌≡◌, ℕ, List, flat_map}
use Rattle.cps_ir.specs.declared.body.Bind.{Bind}
use Rattle.cps_ir.specs.Code.{Code}
use Rattle.cps_ir.specs.Program.{code_of_binds}
use Rattle.cps_ir.specs.Kept.{bind_parts}

-- a body that has more makes the same code, where less is left; and it names no body more
pub record Emitted (old new : List Bind) (before after : Code) : Type 0 where
  pub code : (part : ℕ → Code) → code_of_binds part old before ≡ code_of_binds part new after
  pub bodies : flat_map bind_parts new ≡ flat_map bind_parts old
