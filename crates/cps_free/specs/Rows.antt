-- The free variables of a body, from those of the bodies that it names; and a table of them.
use Rattle.std.specs.Prelude.{◌≡◌, ℕ, ◌≤◌, ◌<◌, List, [], ◌∷◌, length, map}
use Rattle.sml_tree.specs.Sets.{union, union_over, without, row_at}
use Rattle.cps_ir.specs.declared.body.Function.{Function}
use Rattle.cps_ir.specs.declared.body.Bind.{Bind}
use Rattle.cps_ir.specs.declared.body.Bind.TheVariants as bind
use Rattle.cps_ir.specs.declared.body.Rule.{Rule}
use Rattle.cps_ir.specs.declared.body.End.{End}
use Rattle.cps_ir.specs.declared.body.End.TheVariants as end
use Rattle.cps_ir.specs.declared.body.Body.{Body}
use Rattle.cps_ir.specs.Program.{code_at}
use Rattle.cps_ir.specs.Free.{vars, vars_all, vars_tests, free_code}

module _ (part : ℕ → List ℕ) where
  abbrev pub rule_free : Rule → List ℕ
  rule_free r = union (vars_tests r.tests) (part r.body)

  abbrev pub rules_free : List Rule → List ℕ → List ℕ
  rules_free [] last = last
  rules_free (r ∷ rules) last = union (vars_tests r.tests) (union (part r.body) (rules_free rules last))

  abbrev pub end_free : End → List ℕ
  end_free (end.Equal a b truth k) = vars_all (a ∷ b ∷ k ∷ [])
  end_free (end.Call a atoms) = union (vars a) (vars_all atoms)
  end_free (end.Match a rules otherwise) = union (vars a) (rules_free rules (part otherwise))
  end_free (end.Throw a) = vars a
  end_free end.Halt = []

  abbrev pub function_free : Function → List ℕ
  function_free f = without (part f.body) f.params

  abbrev pub names : List Function → List ℕ
  names fs = map (λ f. f.name) fs

  -- in front of a rest with these free variables
  abbrev pub bind_free : Bind → List ℕ → List ℕ
  bind_free (bind.Make x shape atoms) rest = union (vars_all atoms) (without rest (x ∷ []))
  bind_free (bind.Pick x i a) rest = union (vars a) (without rest (x ∷ []))
  bind_free (bind.Prim x f atoms) rest = union (vars_all atoms) (without rest (x ∷ []))
  bind_free (bind.Fix fs) rest = without (union (union_over function_free fs) rest) (names fs)
  bind_free (bind.Handler x) rest = without rest (x ∷ [])
  bind_free (bind.SetHandler a) rest = union (vars a) rest

  abbrev pub binds_free : List Bind → List ℕ → List ℕ
  binds_free [] rest = rest
  binds_free (b ∷ binds) rest = bind_free b (binds_free binds rest)

  abbrev pub body_free : Body → List ℕ
  body_free b = binds_free b.binds (end_free b.end)

-- the bodies from number i on have their free variables in the table
pub record AreFree (bodies : List Body) (i : ℕ) (frees : List (List ℕ)) : Type 0 where
  pub len : length frees ≡ length bodies
  pub at : (c : ℕ) → i ≤ c → c < length bodies → row_at frees c ≡ free_code (code_at bodies c)
