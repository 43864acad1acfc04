-- What lives before a body, from what lives before the bodies that it names; a table of that for all bodies, and one along a body.
use Rattle.std.specs.Prelude.{◌≡◌, ℕ, suc, ◌≤◌, ◌<◌, List, [], ◌∷◌, ◌++◌, length, drop}
use Rattle.sml_tree.specs.Sets.{row_at}
use Rattle.closure_ir.specs.declared.operand.Operand.{Operand}
use Rattle.closure_ir.specs.declared.body.Bind.{Bind}
use Rattle.closure_ir.specs.declared.body.Bind.TheVariants as bind
use Rattle.closure_ir.specs.declared.body.Rule.{Rule}
use Rattle.closure_ir.specs.declared.body.End.{End}
use Rattle.closure_ir.specs.declared.body.End.TheVariants as end
use Rattle.closure_ir.specs.declared.body.Body.{Body}
use Rattle.closure_ir.specs.Program.{code_at}
use Rattle.place_laws.specs.Live.{without, without_all, used_by, all_used_by, used_by_makers, used_by_tests, names_of, live}
use Rattle.closed_live.specs.Same.{AreSame}

-- before a binding, where these live behind it
abbrev pub bind_live : Bind → List ℕ → List ℕ
bind_live (bind.Make makers) rest = used_by_makers makers ++ without_all (names_of makers) rest
bind_live (bind.Let x o) rest = used_by o ++ without x rest
bind_live (bind.Prim x f os) rest = all_used_by os ++ without x rest
bind_live (bind.Handler x) rest = without x rest
bind_live (bind.SetHandler o) rest = used_by o ++ rest

abbrev pub binds_live : List Bind → List ℕ → List ℕ
binds_live [] rest = rest
binds_live (b ∷ binds) rest = bind_live b (binds_live binds rest)

module _ (part : ℕ → List ℕ) where
  abbrev pub rule_live : Operand → Rule → List ℕ
  rule_live o r = used_by o ++ (used_by_tests r.tests ++ part r.body)

  abbrev pub rules_live : Operand → List Rule → List ℕ
  rules_live o [] = []
  rules_live o (r ∷ rules) = rule_live o r ++ rules_live o rules

  abbrev pub end_live : End → List ℕ
  end_live (end.Equal a b t k) = used_by a ++ (used_by b ++ used_by k)
  end_live (end.Call t f os) = used_by f ++ all_used_by os
  end_live (end.Match o rules otherwise) = rules_live o rules ++ part otherwise
  end_live (end.Throw o) = used_by o
  end_live end.Halt = []

  abbrev pub body_live : Body → List ℕ
  body_live b = binds_live b.binds (end_live b.end)

  -- behind each binding from number i on
  pub record AreAlong (b : Body) (i : ℕ) (along : List (List ℕ)) : Type 0 where
    pub len : length along ≡ length b.binds
    pub at : (k : ℕ) → i ≤ k → k < length b.binds → AreSame (row_at along k) (binds_live (drop (suc k) b.binds) (end_live b.end))

-- the bodies from number i on have what lives before them in the table
pub record AreLive (bodies : List Body) (i : ℕ) (lives : List (List ℕ)) : Type 0 where
  pub len : length lives ≡ length bodies
  pub at : (c : ℕ) → i ≤ c → c < length bodies → AreSame (row_at lives c) (live (code_at bodies c))
