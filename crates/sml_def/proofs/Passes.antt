-- The points that small programs pass, each with the words that are reached there, as an independent model computes them.
use Rattle.std.proofs.Common.{◌≡◌, ℕ, zero, suc, List, [], ◌∷◌, ◌++◌, Option, Some, None, refl}
use Rattle.smlc_base.specs.declared.point.Point.{Point}
use Rattle.smlc_base.specs.declared.point.PointKind.TheVariants as kind
use Rattle.sml_tree.specs.declared.bare.Bare.{Bare}
use Rattle.sml_tree.specs.Points.{point}
use Rattle.sml_tree.proofs.Programs.{handled, caught, local_exception, bind_first, lines, lists}
use Rattle.sml_def.specs.Run.{run}
use Rattle.sml_def.specs.Words.{words}

abbrev with_words : Bare → List ℕ → ℕ → Option Point → List (Point × ℕ)
with_words p input n None = []
with_words p input n (Some q) = (q, words ((run p input).memory n) ((run p input).roots n)) ∷ []

-- the passes before step n
abbrev story : Bare → List ℕ → ℕ → List (Point × ℕ)
story p input zero = []
story p input (suc n) = story p input n ++ with_words p input n ((run p input).pass n)

handled_passes : story handled ([]) 17 ≡ (point 7 kind.Ret, 10) ∷ (point 8 kind.Ret, 11) ∷ (point 5 kind.Popped, 8) ∷ (point 5 kind.Ret, 5) ∷ (point 17 kind.Ret, 6) ∷ []
handled_passes = refl

caught_passes : story caught ([]) 40 ≡ (point 8 kind.Ret, 11) ∷ (point 9 kind.Ret, 12) ∷ (point 7 kind.Ret, 12) ∷ (point 5 kind.Caught, 10) ∷ (point 18 kind.Ret, 5) ∷ (point 20 kind.Ret, 8) ∷ (point 22 kind.Ret, 11) ∷ (point 24 kind.Ret, 14) ∷ (point 26 kind.Ret, 16) ∷ (point 27 kind.Ret, 17) ∷ (point 25 kind.Ret, 17) ∷ (point 23 kind.Ret, 11) ∷ (point 21 kind.Ret, 8) ∷ (point 19 kind.Ret, 7) ∷ (point 5 kind.Ret, 2) ∷ []
caught_passes = refl

local_exception_passes : story local_exception ([]) 36 ≡ (point 36 kind.Ret, 11) ∷ (point 37 kind.Ret, 12) ∷ (point 16 kind.Fn, 9) ∷ (point 19 kind.Ret, 10) ∷ (point 23 kind.Ret, 11) ∷ (point 24 kind.Ret, 12) ∷ (point 2 kind.Fn, 9) ∷ (point 5 kind.Ret, 10) ∷ (point 8 kind.Ret, 10) ∷ (point 21 kind.Caught, 8) ∷ (point 29 kind.Ret, 10) ∷ (point 33 kind.Caught, 6) ∷ []
local_exception_passes = refl

bind_first_passes : story bind_first ([]) 4 ≡ (point 3 kind.Ret, 2) ∷ []
bind_first_passes = refl

lists_passes : story lists ([]) 146 ≡ (point 4 kind.Ret, 4) ∷ (point 7 kind.Ret, 9) ∷ (point 10 kind.Ret, 14) ∷ (point 12 kind.Ret, 17) ∷ (point 14 kind.Ret, 20) ∷ (point 16 kind.Ret, 23) ∷ (point 18 kind.Ret, 26) ∷ (point 20 kind.Ret, 29) ∷ (point 21 kind.Ret, 30) ∷ (point 19 kind.Ret, 30) ∷ (point 17 kind.Ret, 29) ∷ (point 15 kind.Ret, 29) ∷ (point 13 kind.Ret, 28) ∷ (point 11 kind.Ret, 28) ∷ (point 9 kind.Ret, 27) ∷ (point 23 kind.Ret, 30) ∷ (point 25 kind.Ret, 33) ∷ (point 27 kind.Ret, 36) ∷ (point 29 kind.Ret, 39) ∷ (point 31 kind.Ret, 42) ∷ (point 33 kind.Ret, 45) ∷ (point 34 kind.Ret, 46) ∷ (point 32 kind.Ret, 46) ∷ (point 30 kind.Ret, 45) ∷ (point 28 kind.Ret, 45) ∷ (point 26 kind.Ret, 44) ∷ (point 24 kind.Ret, 44) ∷ (point 22 kind.Ret, 43) ∷ (point 8 kind.Ret, 43) ∷ (point 4294967295 kind.Eq, 41) ∷ (point 4294967295 kind.Eq, 37) ∷ (point 4294967295 kind.Eq, 35) ∷ (point 4294967295 kind.Eq, 31) ∷ (point 4294967295 kind.Eq, 27) ∷ (point 4294967295 kind.Eq, 25) ∷ (point 4294967295 kind.Eq, 21) ∷ (point 4294967295 kind.Eq, 17) ∷ (point 4294967295 kind.Eq, 15) ∷ (point 6 kind.Ret, 7) ∷ (point 5 kind.Ret, 5) ∷ (point 3 kind.Ret, 2) ∷ (point 43 kind.Ret, 4) ∷ (point 46 kind.Ret, 9) ∷ (point 49 kind.Ret, 14) ∷ (point 50 kind.Ret, 15) ∷ (point 48 kind.Ret, 14) ∷ (point 52 kind.Ret, 17) ∷ (point 53 kind.Ret, 18) ∷ (point 51 kind.Ret, 17) ∷ (point 47 kind.Ret, 17) ∷ (point 45 kind.Ret, 7) ∷ (point 44 kind.Ret, 5) ∷ (point 42 kind.Ret, 2) ∷ (point 62 kind.Ret, 4) ∷ (point 65 kind.Ret, 9) ∷ (point 68 kind.Ret, 14) ∷ (point 69 kind.Ret, 15) ∷ (point 67 kind.Ret, 15) ∷ (point 71 kind.Ret, 18) ∷ (point 72 kind.Ret, 19) ∷ (point 70 kind.Ret, 19) ∷ (point 66 kind.Ret, 19) ∷ (point 4294967295 kind.Eq, 17) ∷ (point 4294967295 kind.Eq, 15) ∷ (point 4294967295 kind.Eq, 11) ∷ (point 64 kind.Ret, 7) ∷ (point 63 kind.Ret, 5) ∷ (point 61 kind.Ret, 2) ∷ []
lists_passes = refl

lines_passes : story lines (97 ∷ 10 ∷ 98 ∷ []) 114 ≡ (point 37 kind.Ret, 6) ∷ (point 38 kind.Ret, 7) ∷ (point 2 kind.Fn, 4) ∷ (point 5 kind.Ret, 7) ∷ (point 9 kind.Ret, 9) ∷ (point 10 kind.Ret, 10) ∷ (point 8 kind.Ret, 11) ∷ (point 19 kind.Ret, 12) ∷ (point 21 kind.Ret, 15) ∷ (point 24 kind.Ret, 20) ∷ (point 26 kind.Ret, 23) ∷ (point 27 kind.Ret, 23) ∷ (point 25 kind.Ret, 23) ∷ (point 23 kind.Ret, 17) ∷ (point 28 kind.Ret, 18) ∷ (point 22 kind.Ret, 18) ∷ (point 20 kind.Ret, 12) ∷ (point 18 kind.Ret, 7) ∷ (point 31 kind.Ret, 6) ∷ (point 32 kind.Ret, 7) ∷ (point 2 kind.Fn, 4) ∷ (point 5 kind.Ret, 7) ∷ (point 9 kind.Ret, 9) ∷ (point 10 kind.Ret, 10) ∷ (point 8 kind.Ret, 11) ∷ (point 19 kind.Ret, 12) ∷ (point 21 kind.Ret, 15) ∷ (point 24 kind.Ret, 20) ∷ (point 26 kind.Ret, 23) ∷ (point 27 kind.Ret, 23) ∷ (point 25 kind.Ret, 23) ∷ (point 23 kind.Ret, 17) ∷ (point 28 kind.Ret, 18) ∷ (point 22 kind.Ret, 18) ∷ (point 20 kind.Ret, 12) ∷ (point 18 kind.Ret, 7) ∷ (point 31 kind.Ret, 6) ∷ (point 32 kind.Ret, 7) ∷ (point 2 kind.Fn, 4) ∷ (point 5 kind.Ret, 7) ∷ (point 9 kind.Ret, 9) ∷ (point 10 kind.Ret, 10) ∷ (point 8 kind.Ret, 7) ∷ (point 13 kind.Ret, 4) ∷ (point 14 kind.Ret, 5) ∷ (point 36 kind.Ret, 2) ∷ []
lines_passes = refl
