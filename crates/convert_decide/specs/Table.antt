-- What is known of each term, from the facts of its parts.
use Rattle.std.specs.Prelude.{◌≡◌, ℕ, ◌≤◌, false, List, length, slice_get, unwrap_or}
use Rattle.lambda_ir.specs.declared.term.Term.{Term}
use Rattle.convert_laws.specs.declared.head.Head.TheVariants as head
use Rattle.convert_laws.specs.Needs.{is_atom, is_atom_term, is_tuple, is_tuple_term, head_at, head_term, needs, needs_term}
use Rattle.convert_laws.specs.Convert.{size_at, size_term}
use Rattle.convert_decide.specs.declared.table.Fact.{Fact}

-- of what doesn't stand
abbrev pub nothing_known : Fact
nothing_known = record { is_atom = false; is_tuple = false; head = head.Computed; needs = false; size = 0 }

abbrev pub fact_in : List Fact → ℕ → Fact
fact_in facts i = unwrap_or (slice_get facts i) nothing_known

abbrev pub fact_by : (ℕ → Fact) → Term → Fact
fact_by known t = record {
  is_atom = is_atom_term (λ c. (known c).is_atom) t;
  is_tuple = is_tuple_term (λ c. (known c).is_tuple) t;
  head = head_term (λ c. (known c).head) t;
  needs = needs_term (λ c. (known c).head) (λ c. (known c).needs) t;
  size = size_term (λ c. (known c).size) t;
}

-- of a term of a program
abbrev pub fact_at : List Term → ℕ → Fact
fact_at terms i = record {
  is_atom = is_atom terms i;
  is_tuple = is_tuple terms i;
  head = head_at terms i;
  needs = needs terms i;
  size = size_at terms i;
}

-- the facts of the terms from i on
pub record AreFactsFrom (terms : List Term) (i : ℕ) (facts : List Fact) : Type 0 where
  pub many : length facts ≡ length terms
  pub at : (j : ℕ) → i ≤ j → fact_in facts j ≡ fact_at terms j

abbrev pub AreFacts : List Term → List Fact → Type 0
AreFacts terms facts = AreFactsFrom terms 0 facts
