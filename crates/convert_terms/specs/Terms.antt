-- Terms, by their forms.
use Rattle.std.specs.Prelude.{ℕ, Bool, List, Option}
use Rattle.lambda_ir.specs.declared.term.Term.{Term}
use Rattle.cps_ir.specs.Code.{Code}
use Rattle.convert_laws.specs.declared.head.Head.{Head}
use Rattle.convert_laws.specs.declared.head.Head.TheVariants as head
use Rattle.convert_laws.specs.Convert.{Scope, Kon, applied, declared, tuple_of, conv_term}
use Rattle.convert_steps.specs.declared.task.Awaits.{Awaits}
use Rattle.convert_steps.specs.declared.task.Awaits.TheVariants as awaits
use Rattle.convert_steps.specs.Codes.{conv, parts_at}

-- the part of an application that is evaluated first
abbrev pub first_part : Head → ℕ → ℕ → ℕ
first_part head.Computed f a = f
first_part (head.Builtin p) f a = a
first_part (head.Constructor c) f a = a

-- what is done with it
abbrev pub awaited : Head → ℕ → Awaits
awaited head.Computed a = awaits.Function a
awaited (head.Builtin p) a = awaits.Builtin p
awaited (head.Constructor c) a = awaits.Constructor c

module _ (own : ℕ → Bool) (terms : List Term) where
  abbrev pub applied_code : Head → ℕ → ℕ → ℕ → Scope → Kon → Code
  applied_code h f a n σ κ = applied own terms (conv own terms) h f a σ κ n

  abbrev pub declared_code : ℕ → ℕ → Option Term → ℕ → Scope → Kon → Code
  declared_code d body t n σ κ = declared own terms (conv own terms) d body t σ κ n

  abbrev pub tuple_code : ℕ → ℕ → Scope → Kon → Code
  tuple_code t n σ κ = tuple_of own terms (conv own terms) (parts_at terms t) σ κ n

  -- a term, by what is made of the terms in it
  abbrev pub term_code : ℕ → Term → ℕ → Scope → Kon → Code
  term_code i t n σ κ = conv_term own terms (conv own terms) i t σ κ n
