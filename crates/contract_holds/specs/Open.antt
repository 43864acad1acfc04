-- Counts in bodies, and in all that is still to be walked.
use Rattle.std.specs.Prelude.{ℕ, ◌+◌, cond, List, [], ◌∷◌, Option, Some, None, nat_eq}
use Rattle.sml_tree.specs.Sets.{has}
use Rattle.cps_ir.specs.declared.body.Body.{Body}
use Rattle.cps_ir.specs.Code.{Code, Make, Pick, Prim, Equal, Fix, Call, Match, Handler, SetHandler, Throw, Halt, Functions, NoFunction, Function, Rules, Otherwise, Rule, names_of}
use Rattle.cps_ir.specs.Program.{code_at}
use Rattle.contract_laws.specs.Redex.{uses, uses_functions, uses_atom, uses_atoms, uses_tests, nodes}
use Rattle.contract_laws.specs.Weigh.{weigh, names_weigh, of_name}
use Rattle.contract_group.specs.declared.task.Placed.{Placed}
use Rattle.contract_group.specs.declared.task.Task.{Task}
use Rattle.contract_steps.specs.State.{State}

-- uses of a variable where it isn't bound in the body
abbrev mutual
  pub occurs : ℕ → Code → ℕ
  occurs x (Make y shape atoms c) = uses_atoms x atoms + cond (nat_eq x y) 0 (occurs x c)
  occurs x (Pick y i a c) = uses_atom x a + cond (nat_eq x y) 0 (occurs x c)
  occurs x (Prim y f atoms c) = uses_atoms x atoms + cond (nat_eq x y) 0 (occurs x c)
  occurs x (Equal a b t k) = uses_atoms x (a ∷ b ∷ k ∷ [])
  occurs x (Fix fs c) = cond (has (names_of fs) x) 0 (occurs_functions x fs + occurs x c)
  occurs x (Call a atoms) = uses_atoms x (a ∷ atoms)
  occurs x (Match a rules) = uses_atom x a + occurs_rules x rules
  occurs x (Handler y c) = cond (nat_eq x y) 0 (occurs x c)
  occurs x (SetHandler a c) = uses_atom x a + occurs x c
  occurs x (Throw a) = uses_atom x a
  occurs x Halt = 0

  pub occurs_functions : ℕ → Functions → ℕ
  occurs_functions x NoFunction = 0
  occurs_functions x (Function f p params b fs) = cond (has params x) 0 (occurs x b) + occurs_functions x fs

  pub occurs_rules : ℕ → Rules → ℕ
  occurs_rules x (Otherwise c) = occurs x c
  occurs_rules x (Rule tests c rules) = uses_tests x tests + (occurs x c + occurs_rules x rules)

-- uses of a variable in the functions that a body binds
abbrev mutual
  pub inner : ℕ → Code → ℕ
  inner x (Make y shape atoms c) = inner x c
  inner x (Pick y i a c) = inner x c
  inner x (Prim y f atoms c) = inner x c
  inner x (Equal a b t k) = 0
  inner x (Fix fs c) = uses_functions x fs + inner x c
  inner x (Call a atoms) = 0
  inner x (Match a rules) = inner_rules x rules
  inner x (Handler y c) = inner x c
  inner x (SetHandler a c) = inner x c
  inner x (Throw a) = 0
  inner x Halt = 0

  pub inner_rules : ℕ → Rules → ℕ
  inner_rules x (Otherwise c) = inner x c
  inner_rules x (Rule tests c rules) = inner x c + inner_rules x rules

-- a function that is put where it is called, with its parameters
abbrev pub binds_in : ℕ → List ℕ → Code → ℕ
binds_in x params c = names_weigh (of_name x) params + weigh (of_name x) c

abbrev pub occurs_in : ℕ → List ℕ → Code → ℕ
occurs_in x params c = cond (has params x) 0 (occurs x c)

module _ (source : List Body) where
  abbrev pub work_sum : (Code → ℕ) → List Task → ℕ
  work_sum m [] = 0
  work_sum m (t ∷ work) = m (code_at source t.body) + work_sum m work

  abbrev pub placed_sum : (List ℕ → Code → ℕ) → List (Option Placed) → ℕ
  placed_sum m [] = 0
  placed_sum m (None ∷ placed) = placed_sum m placed
  placed_sum m (Some p ∷ placed) = m p.params (code_at source p.body) + placed_sum m placed

  -- in a body, in those that are still to be walked, and in those that are put where they are called
  module _ (c : Code) (s : State) where
    abbrev pub all_binds : ℕ → ℕ
    all_binds x = weigh (of_name x) c + (work_sum (λ d. weigh (of_name x) d) s.work + placed_sum (binds_in x) s.placed)

    abbrev pub all_occurs : ℕ → ℕ
    all_occurs x = occurs x c + (work_sum (λ d. occurs x d) s.work + placed_sum (occurs_in x) s.placed)

    abbrev pub all_uses : ℕ → ℕ
    all_uses x = uses x c + (work_sum (λ d. uses x d) s.work + placed_sum (λ params d. uses x d) s.placed)

    -- but uses in the body that is walked
    abbrev pub all_inner : ℕ → ℕ
    all_inner x = inner x c + (work_sum (λ d. inner x d) s.work + placed_sum (λ params d. uses x d) s.placed)

    abbrev pub all_nodes : ℕ
    all_nodes = nodes c + (work_sum (λ d. nodes d) s.work + placed_sum (λ params d. nodes d) s.placed)
