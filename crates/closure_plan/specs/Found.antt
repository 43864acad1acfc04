-- What is found of a program before it is measured.
use Rattle.std.specs.Prelude.{◌≡◌, ℕ, map}
use Rattle.cps_ir.specs.Code.{Code}
use Rattle.cps_ir.specs.Slim.{Layout, layouts}
use Rattle.lifetime_users.specs.Users.{classes}
use Rattle.close_laws.specs.Layouts.{facts}
use Rattle.closure_layouts.specs.Found.{closure_at}
use Rattle.closure_plan.specs.declared.known.Known.{Known as Found}

pub record IsKnown (fresh : ℕ) (c : Code) (k : Found) : Type 0 where
  pub functions : k.functions ≡ layouts c
  pub classes : k.classes.of ≡ classes c
  pub layouts : k.layouts ≡ map (λ (l : Layout). closure_at (facts fresh c) l.point) (layouts c)
