-- How much of something stands in a program: of names that are bound, of points, of nodes.
use Rattle.std.specs.Prelude.{ℕ, suc, ◌+◌, cond, List, [], ◌∷◌, nat_eq}
use Rattle.smlc_base.specs.declared.point.Point.{Point}
use Rattle.smlc_base.specs.Points.{is_point}
use Rattle.sml_def.specs.Run.{eq_point}
use Rattle.cps_ir.specs.Code.{Code, Make, Pick, Prim, Equal, Fix, Call, Match, Handler, SetHandler, Throw, Halt, Functions, NoFunction, Function, Rules, Otherwise, Rule}

-- what a name that is bound, a point and a node weigh
pub record Scale : Type 0 where
  pub name : ℕ → ℕ
  pub point : Point → ℕ
  pub node : ℕ

abbrev pub names_weigh : Scale → List ℕ → ℕ
names_weigh s [] = 0
names_weigh s (x ∷ xs) = s.name x + names_weigh s xs

abbrev mutual
  pub weigh : Scale → Code → ℕ
  weigh s (Make x shape atoms c) = (s.node + s.name x) + weigh s c
  weigh s (Pick x i a c) = (s.node + s.name x) + weigh s c
  weigh s (Prim x f atoms c) = (s.node + s.name x) + weigh s c
  weigh s (Equal a b t k) = s.point eq_point
  weigh s (Fix fs c) = weigh_functions s fs + weigh s c
  weigh s (Call a atoms) = 0
  weigh s (Match a rules) = s.node + weigh_rules s rules
  weigh s (Handler x c) = (s.node + s.name x) + weigh s c
  weigh s (SetHandler a c) = s.node + weigh s c
  weigh s (Throw a) = 0
  weigh s Halt = 0

  pub weigh_functions : Scale → Functions → ℕ
  weigh_functions s NoFunction = 0
  weigh_functions s (Function f p params body fs) = ((s.node + s.name f) + (s.point p + names_weigh s params)) + (weigh s body + weigh_functions s fs)

  pub weigh_rules : Scale → Rules → ℕ
  weigh_rules s (Otherwise c) = weigh s c
  weigh_rules s (Rule tests c rules) = s.node + (weigh s c + weigh_rules s rules)

-- how often a name is bound
abbrev pub of_name : ℕ → Scale
of_name x = record { name = λ y. cond (nat_eq x y) 1 0; point = λ p. 0; node = 0 }

abbrev pub of_point : Point → Scale
of_point p = record { name = λ y. 0; point = λ q. cond (is_point q p) 1 0; node = 0 }

abbrev pub of_nodes : Scale
of_nodes = record { name = λ y. 0; point = λ p. 0; node = 1 }
