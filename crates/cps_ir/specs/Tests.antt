-- The tests of a program, as the machine has them. They look at values of their kind alone, along ways that lead somewhere, and else the machine has no
-- step: a function that stands in another's place is then never looked at.
use Rattle.std.specs.Prelude.{ℕ, Bool, true, false, cond, List, [], ◌∷◌, Option, Some, None, map, slice_get}
use Rattle.prim_meaning.specs.Meaning.{Seen}
use Rattle.prim_meaning.specs.Strict.{all_met}
use Rattle.prim_meaning.specs.Tests as mean
use Rattle.prim_meaning.specs.Tests.{Trial, bytes_wanted}
use Rattle.sml_def.specs.Builtin.{see, which}
use Rattle.sml_def.specs.Maybe.{◌>>=◌}
use Rattle.sml_def.specs.State.{Value, Library, At, Block, ExnName}
use Rattle.cps_ir.specs.declared.atom.Wanted.{Wanted}
use Rattle.cps_ir.specs.declared.atom.Wanted.TheVariants as want
use Rattle.cps_ir.specs.declared.atom.Test.{Test}
use Rattle.cps_ir.specs.Code.{Code, Rules, Otherwise, Rule}
use Rattle.cps_ir.specs.State.{Vars, value}

abbrev pub name_block : Option Block → Bool
name_block (Some (ExnName x)) = true
name_block _ = false

-- an exception name
abbrev pub is_name : List Block → Value → Bool
is_name store (Library e) = true
is_name store (At a) = name_block (slice_get store a)
is_name store v = false

module _ (texts : List (List ℕ)) (env : Vars) where
  -- what is wanted of a value, as the machine has it
  abbrev pub wanted : Wanted → mean.Wanted Value
  wanted (want.Num z) = mean.Num z
  wanted (want.Tag t) = mean.Tag t.number
  wanted (want.Text t) = bytes_wanted (slice_get texts t)
  wanted (want.Exn a applied) = mean.Exn (value env a) applied

  abbrev pub trial : Test → Trial Value
  trial t = record { path = t.path; want = wanted t.want }

  abbrev pub trials : List Test → List (Trial Value)
  trials tests = map trial tests

  module _ (store : List Block) where
    abbrev pub all_stand : Value → List Test → Option Bool
    all_stand v tests = all_met (see texts store) which (is_name store) v (trials tests)

    -- the body of the first rule whose tests all hold
    abbrev pub taken : Value → Rules → Option Code
    taken v (Otherwise c) = Some c
    taken v (Rule tests c rules) = all_stand v tests >>= (λ b. cond b (Some c) (taken v rules))
