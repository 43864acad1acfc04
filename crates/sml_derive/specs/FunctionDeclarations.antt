-- Declarations of functions: what is made, and what is written before and behind the parts.
use Rattle.std.specs.Prelude.{ℕ, List, [], ◌∷◌, ◌++◌}
use Rattle.smlc_base.specs.declared.place.Place.{Place}
use Rattle.sml_tree.specs.declared.bare.Node.TheVariants as bare
use Rattle.sml_expansion.specs.declared.mark.Mark.{Mark}
use Rattle.sml_expansion.specs.declared.mark.Mark.TheVariants.{Open, Close}
use Rattle.sml_expansion.specs.declared.scope.Bound.{Bound}
use Rattle.sml_expansion.specs.Terms.{Term}
use Rattle.sml_expansion.specs.Forests.{Forest}
use Rattle.sml_expansion.specs.Marks.{marks}
use Rattle.sml_expansion.specs.Makings.{Makes, gives, ◌>>=◌, ◌>>◌}
use Rattle.sml_expansion.specs.Scopes.{Scope}
use Rattle.sml_expansion.specs.Patterns.{Pattern, under, whole, vars_once}
use Rattle.sml_expansion.specs.Clauses.{arguments, binds_functions, function}
use Rattle.sml_expansion.specs.Bare.{var_pattern, variable_nodes, tuple_unless_one, tuple_pattern_unless_one}
use Rattle.sml_expansion.specs.Expressions.{functions}
use Rattle.sml_derive.specs.Forms.{times, case_end}

-- the names of functions, of which none stands twice
abbrev pub names_of : List (List ℕ) → Term → Makes (List Bound)
names_of names b = do
  x ← binds_functions names b
  vars_once x
  gives x

-- functions, one behind the other
abbrev pub function_of : Scope → Term → Makes Forest
function_of s t = function t (functions s t)

-- the pattern of a clause
abbrev pub head_of : Scope → Place → Term → Makes Pattern
head_of s p h = do
  q ← whole (arguments s h)
  gives (under (tuple_pattern_unless_one p) q)

-- what is written before the rules of a function with these variables, and behind them
abbrev pub fns_begin : Place → List ℕ → List Mark
fns_begin p [] = []
fns_begin p (v ∷ vs) = Open ∷ (marks (var_pattern p v) ++ fns_begin p vs)

abbrev pub fn_end : Place → List Mark
fn_end p = Close (bare.Fn []) p ∷ []

abbrev pub function_begins : Place → List ℕ → List Mark
function_begins p vs = fns_begin p vs ++ Open ∷ marks (tuple_unless_one p (variable_nodes p vs))

abbrev pub function_ends : Place → ℕ → List Mark
function_ends p n = case_end p ++ times n (fn_end p)
