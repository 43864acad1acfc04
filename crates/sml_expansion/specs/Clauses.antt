-- Clauses of functions, and their heads.
use Rattle.std.specs.Prelude.{ℕ, ◌+◌, ◌==◌, if◌then◌else◌, List, [], ◌∷◌, ◌++◌, nat_eq}
use Rattle.smlc_base.specs.declared.refusal.Refusal.{Refusal}
use Rattle.smlc_base.specs.declared.refusal.Refusal.TheVariants as refusal
use Rattle.sml_tree.specs.declared.tree_node.TreeNode.TheVariants as node
use Rattle.sml_expansion.specs.declared.scope.Ident.{Ident}
use Rattle.sml_expansion.specs.declared.scope.Bound.{Bound}
use Rattle.sml_expansion.specs.Terms.{Term, two, three, four, place_at}
use Rattle.sml_expansion.specs.Forests.{Forest, none}
use Rattle.sml_expansion.specs.Scopes.{Scope, ident}
use Rattle.sml_expansion.specs.Makings.{Makes, gives, breaks, new_names, ◌>>=◌, ◌>>◌}
use Rattle.sml_expansion.specs.Bare.{tuple_pattern, function_node}
use Rattle.sml_expansion.specs.Patterns.{Pattern, plain, beside, under, patterns, binds}
use Rattle.std.specs.Prelude.{codes}

-- the head of a clause
abbrev pub head : Term → Term
head (two node.Clause p h e) = h
head (three node.TypedClause p h t e) = h
head t = t

-- the first clause of a function
abbrev pub first_clause : Term → Term
first_clause (two node.MoreClauses p a b) = first_clause a
first_clause t = t

-- the name that a head is for
abbrev pub name_of : Term → Term
name_of (two node.Head p v ps) = v
name_of (three node.InfixHead p a v b) = v
name_of (three node.ParenHead p a v b) = v
name_of (four node.ParenHeadArgs p a v b ps) = v
name_of t = t

-- how many patterns stand in a list
abbrev pub patterns_in : Term → ℕ
patterns_in (two node.MoreAtpats p a b) = patterns_in a + patterns_in b
patterns_in t = 1

-- how many arguments a head has
abbrev pub arguments_in : Term → ℕ
arguments_in (two node.Head p v ps) = patterns_in ps
arguments_in (four node.ParenHeadArgs p a v b ps) = 1 + patterns_in ps
arguments_in t = 1

-- `a vid b` has the one argument `(a, b)`
abbrev pub infix_argument : Scope → Term → Term → Makes Pattern
infix_argument s a b = do
  x ← patterns s a
  y ← patterns s b
  gives (under (tuple_pattern (place_at a)) (beside x y))

-- the arguments of a head
abbrev pub arguments : Scope → Term → Makes Pattern
arguments s (two node.Head p v ps) = patterns s ps
arguments s (three node.InfixHead p a v b) = infix_argument s a b
arguments s (three node.ParenHead p a v b) = infix_argument s a b
arguments s (four node.ParenHeadArgs p a v b ps) = do
  x ← infix_argument s a b
  y ← patterns s ps
  gives (beside x y)
arguments s t = gives (plain none)

-- all clauses are for one name, which isn't long, and have one number of arguments
abbrev pub name_refusals : Ident → Ident → List Refusal
name_refusals f i = if i.long then refusal.BadBinding i.place ∷ [] else (if nat_eq i.key f.key then [] else refusal.BadBinding i.place ∷ [])

abbrev pub clause_refusals : List (List ℕ) → Ident → ℕ → Term → List Refusal
clause_refusals names f n (two node.MoreClauses p a b) = clause_refusals names f n a ++ clause_refusals names f n b
clause_refusals names f n t =
    name_refusals f (ident names (name_of (head t)))
    ++ (if arguments_in (head t) == n then [] else refusal.BadBinding (place_at t) ∷ [])

-- the name of a function
abbrev pub function_name : List (List ℕ) → Term → Ident
function_name names t = ident names (name_of (head (first_clause t)))

-- the binding of a function's name
abbrev pub binds_function : List (List ℕ) → Term → Makes (List Bound)
binds_function names t = let f = function_name names t in do
  breaks (clause_refusals names f (arguments_in (head (first_clause t))) t)
  if f.long then gives [] else (do
    v ← binds names f
    gives (v ∷ []))

-- the bindings of the functions of a declaration
abbrev pub binds_functions : List (List ℕ) → Term → Makes (List Bound)
binds_functions names (two node.MoreFunBinds p a b) = do
  x ← binds_function names a
  y ← binds_functions names b
  gives (x ++ y)
binds_functions names t = binds_function names t

-- A function of its rules, with new variables for its arguments. More functions make these for themselves.
abbrev pub function : Term → Makes Forest → Makes Forest
function (two node.MoreFunBinds p a b) m = m
function t m = do
  vs ← new_names (codes "v") (arguments_in (head (first_clause t)))
  rules ← m
  gives (function_node (place_at t) vs rules)
