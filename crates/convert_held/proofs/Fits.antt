-- A body reads no more than it may, and each function in it holds no more than it may: form by form.
use Rattle.std.proofs.Common.{ℕ, Bool, List, [], ◌∷◌, ◌++◌, length}
use Rattle.std.specs.List.{AllByRecursion}
use Rattle.smlc_base.specs.declared.point.Point.{Point}
use Rattle.smlc_base.specs.declared.primitive.Primitive.{Primitive}
use Rattle.sml_tree.specs.Sets.{union, without}
use Rattle.sml_tree.proofs.Members.{IsWithin, within_both}
use Rattle.sml_def.proofs.Effects.{all_append}
use Rattle.cps_ir.specs.declared.atom.Atom.{Atom}
use Rattle.cps_ir.specs.declared.atom.Shape.{Shape}
use Rattle.cps_ir.specs.declared.atom.Test.{Test}
use Rattle.cps_ir.specs.Code.{Code, Make, Pick, Prim, Equal, Fix, Call, Match, Handler, SetHandler, Throw, Halt, Functions, NoFunction, Function, Rules, Otherwise, Rule, names_of}
use Rattle.cps_ir.specs.Free.{vars, vars_all, vars_tests, free_code, free_functions, free_rules}
use Rattle.cps_ir.specs.Slim.{Layout, layouts, layouts_functions, layouts_rules}
use Rattle.convert_held.proofs.Lists.{none_in, rest_in, IsIn, AreIn, atoms_in}

module _ (May : Point → ℕ → Type 0) where
  -- what a function holds is in a list as long as it may be
  abbrev pub IsFine : Layout → Type 0
  IsFine l = (xs : List ℕ) × IsWithin l.free xs × May l.point (length xs)

  abbrev pub AreFine : List Layout → Type 0
  AreFine ls = AllByRecursion IsFine ls

  pub record Fits (zs : List ℕ) (c : Code) : Type 0 where
    pub reads : IsWithin (free_code c) zs
    pub fine : AreFine (layouts c)

  pub record FunctionsFit (zs : List ℕ) (fs : Functions) : Type 0 where
    pub reads : IsWithin (free_functions fs) zs
    pub fine : AreFine (layouts_functions fs)

  pub record RulesFit (zs : List ℕ) (rules : Rules) : Type 0 where
    pub reads : IsWithin (free_rules rules) zs
    pub fine : AreFine (layouts_rules rules)

  pub make_fits : (zs : List ℕ) (x : ℕ) (s : Shape) (atoms : List Atom) (c : Code) → AreIn zs atoms → Fits (x ∷ zs) c → Fits zs (Make x s atoms c)
  make_fits zs x s atoms c h g = record {
    reads = within_both (vars_all atoms) (without (free_code c) (x ∷ [])) zs (atoms_in zs atoms h) (rest_in (free_code c) (x ∷ []) zs g.reads);
    fine = g.fine;
  }

  pub pick_fits : (zs : List ℕ) (x i : ℕ) (a : Atom) (c : Code) → IsIn zs a → Fits (x ∷ zs) c → Fits zs (Pick x i a c)
  pick_fits zs x i a c h g = record {
    reads = within_both (vars a) (without (free_code c) (x ∷ [])) zs h (rest_in (free_code c) (x ∷ []) zs g.reads);
    fine = g.fine;
  }

  pub prim_fits : (zs : List ℕ) (x : ℕ) (f : Primitive) (atoms : List Atom) (c : Code) → AreIn zs atoms → Fits (x ∷ zs) c → Fits zs (Prim x f atoms c)
  prim_fits zs x f atoms c h g = record {
    reads = within_both (vars_all atoms) (without (free_code c) (x ∷ [])) zs (atoms_in zs atoms h) (rest_in (free_code c) (x ∷ []) zs g.reads);
    fine = g.fine;
  }

  pub equal_fits : (zs : List ℕ) (a b : Atom) (t : Bool) (k : Atom) → AreIn zs (a ∷ b ∷ k ∷ []) → Fits zs (Equal a b t k)
  equal_fits zs a b t k h = record { reads = atoms_in zs (a ∷ b ∷ k ∷ []) h; fine = tt }

  pub fix_fits : (zs : List ℕ) (fs : Functions) (c : Code) → FunctionsFit (names_of fs ++ zs) fs → Fits (names_of fs ++ zs) c → Fits zs (Fix fs c)
  fix_fits zs fs c h g = record {
    reads = rest_in (union (free_functions fs) (free_code c)) (names_of fs) zs (within_both (free_functions fs) (free_code c) (names_of fs ++ zs) h.reads g.reads);
    fine = all_append IsFine (layouts_functions fs) (layouts c) h.fine g.fine;
  }

  pub call_fits : (zs : List ℕ) (a : Atom) (atoms : List Atom) → IsIn zs a → AreIn zs atoms → Fits zs (Call a atoms)
  call_fits zs a atoms h g = record { reads = within_both (vars a) (vars_all atoms) zs h (atoms_in zs atoms g); fine = tt }

  pub match_fits : (zs : List ℕ) (a : Atom) (rules : Rules) → IsIn zs a → RulesFit zs rules → Fits zs (Match a rules)
  match_fits zs a rules h g = record { reads = within_both (vars a) (free_rules rules) zs h g.reads; fine = g.fine }

  pub handler_fits : (zs : List ℕ) (x : ℕ) (c : Code) → Fits (x ∷ zs) c → Fits zs (Handler x c)
  handler_fits zs x c g = record { reads = rest_in (free_code c) (x ∷ []) zs g.reads; fine = g.fine }

  pub set_handler_fits : (zs : List ℕ) (a : Atom) (c : Code) → IsIn zs a → Fits zs c → Fits zs (SetHandler a c)
  set_handler_fits zs a c h g = record { reads = within_both (vars a) (free_code c) zs h g.reads; fine = g.fine }

  pub throw_fits : (zs : List ℕ) (a : Atom) → IsIn zs a → Fits zs (Throw a)
  throw_fits zs a h = record { reads = h; fine = tt }

  pub halt_fits : (zs : List ℕ) → Fits zs Halt
  halt_fits zs = record { reads = none_in zs; fine = tt }

  -- ---- Functions

  pub none_fit : (zs : List ℕ) → FunctionsFit zs NoFunction
  none_fit zs = record { reads = none_in zs; fine = tt }

  -- a function that holds no more than these
  pub function_fits : (zs held : List ℕ) (f : ℕ) (p : Point) (params : List ℕ) (b : Code) (fs : Functions) → Fits (params ++ held) b → IsWithin held zs → May p (length held) → FunctionsFit zs fs → FunctionsFit zs (Function f p params b fs)
  function_fits zs held f p params b fs g h may k =
      let free : IsWithin (without (free_code b) params) held = rest_in (free_code b) params held g.reads in
      record {
        reads = within_both (without (free_code b) params) (free_functions fs) zs (λ z e. h z (free z e)) k.reads;
        fine = ((held, free, may), all_append IsFine (layouts b) (layouts_functions fs) g.fine k.fine);
      }

  -- ---- Rules

  pub otherwise_fits : (zs : List ℕ) (c : Code) → Fits zs c → RulesFit zs (Otherwise c)
  otherwise_fits zs c g = record { reads = g.reads; fine = g.fine }

  pub alone_fits : (zs : List ℕ) (c : Code) → RulesFit zs (Otherwise c) → Fits zs c
  alone_fits zs c g = record { reads = g.reads; fine = g.fine }

  pub rule_fits : (zs : List ℕ) (ts : List Test) (c : Code) (rules : Rules) → IsWithin (vars_tests ts) zs → Fits zs c → RulesFit zs rules → RulesFit zs (Rule ts c rules)
  rule_fits zs ts c rules t g h = record {
    reads = within_both (vars_tests ts) (union (free_code c) (free_rules rules)) zs t (within_both (free_code c) (free_rules rules) zs g.reads h.reads);
    fine = all_append IsFine (layouts c) (layouts_rules rules) g.fine h.fine;
  }
