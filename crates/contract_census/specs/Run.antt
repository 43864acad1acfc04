-- The counts of a tree, in the order in which its bodies are met: a body whole, then its last part first.
use Rattle.std.specs.Prelude.{ℕ, List, Option, Some, None, length, replicate}
use Rattle.cps_ir.specs.Code.{Code, Make, Pick, Prim, Equal, Fix, Call, Match, Handler, SetHandler, Throw, Halt, Functions, NoFunction, Function, Rules, Otherwise, Rule}
use Rattle.contract_census.specs.declared.counts.Count.{Count}
use Rattle.contract_census.specs.declared.counts.Event.TheVariants as event
use Rattle.contract_census.specs.Counting.{nothing_counted, noted, use_atom, use_atoms, use_tests, call_atom}

abbrev pub bind_names : Option ℕ → Functions → List Count → List Count
bind_names w NoFunction counts = counts
bind_names w (Function f p params b fs) counts = bind_names w fs (noted (event.Bound w (length params)) f counts)

abbrev pub use_in : Rules → List Count → List Count
use_in (Otherwise c) counts = counts
use_in (Rule tests c rules) counts = use_in rules (use_tests tests counts)

abbrev mutual
  -- in the body of the function of this name or in the whole
  pub run : Option ℕ → Code → List Count → List Count
  run w (Make x shape atoms c) counts = run w c (use_atoms atoms counts)
  run w (Pick x i a c) counts = run w c (use_atom a counts)
  run w (Prim x f atoms c) counts = run w c (use_atoms atoms counts)
  run w (Equal a b truth k) counts = use_atom k (use_atom b (use_atom a counts))
  run w (Fix fs c) counts = run_functions fs (run w c (bind_names w fs counts))
  run w (Call a atoms) counts = use_atoms atoms (use_atom a (call_atom w a (length atoms) counts))
  run w (Match a rules) counts = run_rules w rules (use_in rules (use_atom a counts))
  run w (Handler x c) counts = run w c counts
  run w (SetHandler a c) counts = run w c (use_atom a counts)
  run w (Throw a) counts = use_atom a counts
  run w Halt counts = counts

  pub run_functions : Functions → List Count → List Count
  run_functions NoFunction counts = counts
  run_functions (Function f p params b fs) counts = noted event.Closed f (run (Some f) b (noted event.Opened f (run_functions fs counts)))

  pub run_rules : Option ℕ → Rules → List Count → List Count
  run_rules w (Otherwise c) counts = run w c counts
  run_rules w (Rule tests c rules) counts = run w c (run_rules w rules counts)

-- from nothing, for so many variables
abbrev pub run_whole : ℕ → Code → List Count
run_whole n c = run None c (replicate n nothing_counted)
