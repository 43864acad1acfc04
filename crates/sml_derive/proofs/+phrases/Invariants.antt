use Rattle.std.proofs.Common.{◌≡◌, IfOk, OnOk, Bool, ℕ, ◌+◌, ◌-◌, ◌*◌, ◌<◌, ◌≤◌, length}
use Rattle.sml_expansion.specs.Terms.{Term}
use Rattle.sml_expansion.specs.Sources.{IsAt, node_at}
use Rattle.sml_expansion.specs.Scopes.{scope_of}
use Rattle.sml_expansion.specs.Expressions.{expressions, rules, elsewhere, plain_bindings, functions}
use Rattle.sml_expansion.specs.Bare.{sequence_node, list_node}
use Rattle.sml_derive.specs.Forms.{case_end, cons_end}
use Rattle.sml_derive.proofs.Spines.{Left, LeftCounted}
use Rattle.sml_derive.proofs.Sequences.{LeftNest}
use Rattle.sml_derive.proofs.Binding.{LeftBinds}
use Rattle.sml_derive.proofs.Declaring.{LeftDecs}
use Rattle.sml_derive.proofs.Values.{LeftRights}
use Rattle.sml_derive.specs.FunctionDeclarations.{function_of}
use Rattle.sml_derive.proofs.+phrases.Given as goal

abbrev pub decreases-expressions::beside : goal.decreases-expressions::beside
decreases-expressions::beside l = l.at * 4 + 1

abbrev pub decreases-expressions::expression : goal.decreases-expressions::expression
decreases-expressions::expression l = l.at * 4 + 2

abbrev pub decreases-expressions::items : goal.decreases-expressions::items
decreases-expressions::items l = l.at * 4 + 3

abbrev pub decreases-expressions::matched : goal.decreases-expressions::matched
decreases-expressions::matched l = l.at * 4 + 1

abbrev pub decreases-expressions::pair : goal.decreases-expressions::pair
decreases-expressions::pair l = l.at * 4 + 1

abbrev pub decreases-expressions::rule : goal.decreases-expressions::rule
decreases-expressions::rule l = l.at * 4

abbrev pub decreases-expressions::rules : goal.decreases-expressions::rules
decreases-expressions::rules l = l.at * 4 + 3

abbrev pub invariant-expressions::items-loop-first : goal.invariant-expressions::items-loop-first
invariant-expressions::items-loop-first l = record {
  left : (t : Term) → IsAt l.parsed l.fn.at t → LeftCounted l.parsed (λ b. expressions elsewhere (scope_of l.parsed.names b)) t l.fn.walk l.walk l.next l.trees;
  below : l.next ≤ l.fn.at;
}

abbrev pub decreases-expressions::items-loop-first : goal.decreases-expressions::items-loop-first
decreases-expressions::items-loop-first l = l.next

abbrev pub invariant-expressions::rules-loop-first : goal.invariant-expressions::rules-loop-first
invariant-expressions::rules-loop-first l = record {
  left : (t : Term) → IsAt l.parsed l.fn.at t → Left l.parsed (λ b. rules (scope_of l.parsed.names b)) t l.fn.walk l.walk l.next;
  below : l.next ≤ l.fn.at;
}

abbrev pub decreases-expressions::rules-loop-first : goal.decreases-expressions::rules-loop-first
decreases-expressions::rules-loop-first l = l.next

abbrev pub decreases-expressions::alone : goal.decreases-expressions::alone
decreases-expressions::alone l = l.at * 4 + 3

abbrev pub decreases-expressions::sequence : goal.decreases-expressions::sequence
decreases-expressions::sequence l = l.at * 4 + 4

abbrev pub decreases-expressions::list : goal.decreases-expressions::list
decreases-expressions::list l = l.at * 4 + 4

abbrev pub invariant-expressions::sequence-loop-first : goal.invariant-expressions::sequence-loop-first
invariant-expressions::sequence-loop-first l = record {
  left : (t : Term) → IsAt l.parsed l.fn.at t → LeftNest l.parsed (sequence_node l.place) (case_end l.place) (λ b. expressions elsewhere (scope_of l.parsed.names b)) t l.fn.walk l.walk l.next l.cases;
  below : l.next ≤ l.fn.at;
}

abbrev pub decreases-expressions::sequence-loop-first : goal.decreases-expressions::sequence-loop-first
decreases-expressions::sequence-loop-first l = l.next

abbrev pub invariant-expressions::list-loop-first : goal.invariant-expressions::list-loop-first
invariant-expressions::list-loop-first l = record {
  left : (t : Term) → IsAt l.parsed l.fn.at t → LeftNest l.parsed (list_node l.place) (cons_end l.place) (λ b. expressions elsewhere (scope_of l.parsed.names b)) t l.fn.walk l.walk l.next l.conses;
  below : l.next ≤ l.fn.at;
}

abbrev pub decreases-expressions::list-loop-first : goal.decreases-expressions::list-loop-first
decreases-expressions::list-loop-first l = l.next

abbrev pub decreases-bindings::plain_bindings : goal.decreases-bindings::plain_bindings
decreases-bindings::plain_bindings l = l.at * 4 + 3

abbrev pub decreases-bindings::plain_binding : goal.decreases-bindings::plain_binding
decreases-bindings::plain_binding l = l.at * 4

abbrev pub invariant-bindings::plain_bindings-loop-first : goal.invariant-bindings::plain_bindings-loop-first
invariant-bindings::plain_bindings-loop-first l = record {
  left : (t : Term) → IsAt l.parsed l.fn.at t → LeftBinds l.parsed (λ b. plain_bindings (scope_of l.parsed.names b)) t l.fn.walk l.walk l.fn.vars.items l.vars.items l.next;
  below : l.next ≤ l.fn.at;
}

abbrev pub decreases-bindings::plain_bindings-loop-first : goal.decreases-bindings::plain_bindings-loop-first
decreases-bindings::plain_bindings-loop-first l = l.next

abbrev pub decreases-declarations::decs : goal.decreases-declarations::decs
decreases-declarations::decs l = l.at * 4 + 3

abbrev pub decreases-declarations::dec : goal.decreases-declarations::dec
decreases-declarations::dec l = l.at * 4 + 2

abbrev pub invariant-declarations::decs-loop-first : goal.invariant-declarations::decs-loop-first
invariant-declarations::decs-loop-first l = record {
  left : (t : Term) → IsAt l.parsed l.fn.at t → LeftDecs l.parsed t l.fn.walk l.walk l.next l.trees;
  below : l.next ≤ l.fn.at;
}

abbrev pub decreases-declarations::decs-loop-first : goal.decreases-declarations::decs-loop-first
decreases-declarations::decs-loop-first l = l.next

abbrev pub decreases-value_declarations::val_dec : goal.decreases-value_declarations::val_dec
decreases-value_declarations::val_dec l = l.at * 4 + 1

abbrev pub decreases-value_declarations::plain_part : goal.decreases-value_declarations::plain_part
decreases-value_declarations::plain_part l = l.at * 4 + 4

abbrev pub decreases-value_declarations::rec_part : goal.decreases-value_declarations::rec_part
decreases-value_declarations::rec_part l = l.at * 4 + 4

abbrev pub decreases-value_declarations::rec_rights : goal.decreases-value_declarations::rec_rights
decreases-value_declarations::rec_rights l = l.at * 4 + 3

abbrev pub decreases-value_declarations::rec_right : goal.decreases-value_declarations::rec_right
decreases-value_declarations::rec_right l = l.at * 4

abbrev pub invariant-value_declarations::rec_rights-loop-behind : goal.invariant-value_declarations::rec_rights-loop-behind
invariant-value_declarations::rec_rights-loop-behind l = record {
  left : (t : Term) → IsAt l.parsed l.fn.at t → LeftRights l.parsed l.fn.inside t l.fn.walk l.walk l.behind l.next;
  below : l.next ≤ l.fn.at;
}

abbrev pub decreases-value_declarations::rec_rights-loop-behind : goal.decreases-value_declarations::rec_rights-loop-behind
decreases-value_declarations::rec_rights-loop-behind l = l.next

abbrev pub decreases-function_declarations::functions : goal.decreases-function_declarations::functions
decreases-function_declarations::functions l = l.at * 4 + 3

abbrev pub decreases-function_declarations::function : goal.decreases-function_declarations::function
decreases-function_declarations::function l = l.at * 4 + 2

abbrev pub decreases-function_declarations::clauses : goal.decreases-function_declarations::clauses
decreases-function_declarations::clauses l = l.at * 4 + 1

abbrev pub decreases-function_declarations::clause : goal.decreases-function_declarations::clause
decreases-function_declarations::clause l = l.at * 4

abbrev pub invariant-function_declarations::functions-loop-first : goal.invariant-function_declarations::functions-loop-first
invariant-function_declarations::functions-loop-first l = record {
  left : (t : Term) → IsAt l.parsed l.fn.at t → Left l.parsed (λ b. function_of (scope_of l.parsed.names b)) t l.fn.walk l.walk l.next;
  below : l.next ≤ l.fn.at;
}

abbrev pub decreases-function_declarations::functions-loop-first : goal.decreases-function_declarations::functions-loop-first
decreases-function_declarations::functions-loop-first l = l.next

abbrev pub invariant-function_declarations::clauses-loop-first : goal.invariant-function_declarations::clauses-loop-first
invariant-function_declarations::clauses-loop-first l = record {
  left : (t : Term) → IsAt l.parsed l.fn.at t → Left l.parsed (λ b. functions (scope_of l.parsed.names b)) t l.fn.walk l.walk l.next;
  below : l.next ≤ l.fn.at;
}

abbrev pub decreases-function_declarations::clauses-loop-first : goal.decreases-function_declarations::clauses-loop-first
decreases-function_declarations::clauses-loop-first l = l.next

abbrev pub decreases-function_declarations::fun_dec : goal.decreases-function_declarations::fun_dec
decreases-function_declarations::fun_dec l = l.at * 4 + 1
