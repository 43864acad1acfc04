-- Probes and what they are told.
use Rattle.std.specs.Prelude.{ℕ, Bool, List, [], ◌∷◌, ◌++◌, take, drop, Option, Some, None, if◌then◌else◌}
use Rattle.heap_probes.specs.declared.probe.Entry.{Entry}
use Rattle.heap_probes.specs.declared.probe.Next.{Next}
use Rattle.heap_probes.specs.declared.probe.Next.TheVariants.{More, Done}

-- How an entry changes what a probe has noted, which is a list of numbers, whether it wants more then, and the line that it has.
pub record Rule : Type 0 where
  pub after : List ℕ → Entry → List ℕ
  pub wants_more : List ℕ → Entry → Bool
  pub line : List ℕ → List ℕ

-- what a probe shows: its rule, and what it has noted
pub record Shown : Type 0 where
  pub rule : Rule
  pub noted : List ℕ

-- the probe once it is told an entry
abbrev pub told : Entry → Shown → Shown
told e p = record p { noted = p.rule.after p.noted e }

abbrev pub goes_on : Entry → Shown → Bool
goes_on e p = p.rule.wants_more p.noted e

abbrev pub answer_of : Entry → Shown → Next
answer_of e p = if goes_on e p then More else Done

abbrev pub line_of : Shown → List ℕ
line_of p = p.rule.line p.noted

-- A probe after these entries: its own note applied to them in order. It is gone where it answered Done.
abbrev pub folded : List Entry → Shown → Option Shown
folded [] p = Some p
folded (e ∷ es) p = if goes_on e p then folded es (told e p) else None

-- ---- several probes

abbrev pub put_first : Option Shown → List Shown → List Shown
put_first None ps = ps
put_first (Some p) ps = p ∷ ps

-- each of these after the entries, in their order, without those that are gone
abbrev pub all_folded : List Entry → List Shown → List Shown
all_folded es [] = []
all_folded es (p ∷ ps) = put_first (folded es p) (all_folded es ps)

-- the first n have been told the entry, and it is told to the others
abbrev pub told_each : Entry → List Shown → ℕ → List Shown
told_each e ps n = take n ps ++ all_folded (e ∷ []) (drop n ps)
