-- Which frames must have a function of their own, and which can't.
use Rattle.std.specs.Prelude.{ℕ, Bool, true, false, not, ◌&&◌, List, [], ◌∷◌, nat_eq}
use Rattle.std.specs.List.{list_any}
use Rattle.smlc_base.specs.declared.match_tests.Test.{Test}
use Rattle.prim_meaning.specs.Meaning.{takes_one}
use Rattle.lambda_ir.specs.declared.term.Case.{Case}
use Rattle.lambda_ir.specs.declared.term.Term.{Term}
use Rattle.lambda_ir.specs.declared.term.Term.TheVariants as term
use Rattle.lambda_ir.specs.Free.{from_terms, is_comparison}
use Rattle.convert_laws.specs.declared.head.Head.{Head}
use Rattle.convert_laws.specs.declared.head.Head.TheVariants as head

-- the term is no more than a name or a constant, so nothing is done before its value is there
abbrev pub is_atom_term : (ℕ → Bool) → Term → Bool
is_atom_term part (term.Int z) = true
is_atom_term part (term.Char c) = true
is_atom_term part (term.Text t) = true
is_atom_term part (term.Var x) = true
is_atom_term part (term.Constructor c) = true
is_atom_term part (term.Builtin f) = true
is_atom_term part (term.Same e) = part e
is_atom_term part _ = false

abbrev pub is_atom : List Term → ℕ → Bool
is_atom terms = from_terms false (λ part i. is_atom_term part) terms

-- ---- Function parts: something computed, a primitive, or a constructor

abbrev pub head_term : (ℕ → Head) → Term → Head
head_term part (term.Builtin f) = head.Builtin f
head_term part (term.Constructor c) = head.Constructor c
head_term part (term.Same e) = part e
head_term part _ = head.Computed

abbrev pub head_at : List Term → ℕ → Head
head_at terms = from_terms head.Computed (λ part i. head_term part) terms

-- a call, or a comparison, which calls its continuation
abbrev pub calls : Head → Bool
calls head.Computed = true
calls (head.Builtin f) = is_comparison f
calls (head.Constructor c) = false

-- ---- Tuples that primitives take apart

abbrev pub is_tuple_term : (ℕ → Bool) → Term → Bool
is_tuple_term part (term.Tuple parts) = true
is_tuple_term part (term.Same e) = part e
is_tuple_term part _ = false

abbrev pub is_tuple : List Term → ℕ → Bool
is_tuple terms = from_terms false (λ part i. is_tuple_term part) terms

abbrev pub takes_several : Head → Bool
takes_several (head.Builtin f) = not (takes_one f)
takes_several _ = false

-- term j is the written tuple that a primitive is applied to
abbrev pub takes_apart : List Term → ℕ → Term → Bool
takes_apart terms j (term.App f a) = nat_eq a j && takes_several (head_at terms f) && is_tuple terms a
takes_apart terms j _ = false

abbrev pub is_taken_apart : List Term → ℕ → Bool
is_taken_apart terms j = list_any (takes_apart terms j) terms

-- ---- Terms that need their continuation as an atom

-- the rules that can be chosen: up to the first without tests
abbrev pub live_from : List Test → Case → List Case → List Case
live_from [] c later = c ∷ []
live_from (t ∷ tests) c later = c ∷ later

abbrev pub live : List Case → List Case
live [] = []
live (c ∷ cases) = live_from c.tests c (live cases)

abbrev pub in_two : (ℕ → Bool) → List Case → Bool
in_two needs [] = false
in_two needs (c ∷ []) = needs c.body
in_two needs (c ∷ d ∷ cases) = true

abbrev pub needs_term : (ℕ → Head) → (ℕ → Bool) → Term → Bool
needs_term head needs (term.App f a) = calls (head f)
needs_term head needs (term.Match e cases) = in_two needs (live cases)
needs_term head needs (term.Handle e cases) = true
needs_term head needs (term.Same e) = needs e
needs_term head needs (term.Let d body) = needs body
needs_term head needs _ = false

-- the continuation of a term is wanted as an atom: a tail position calls, or it goes on in two places
abbrev pub needs : List Term → ℕ → Bool
needs terms = from_terms false (λ part i. needs_term (head_at terms) part) terms
