-- Words give at most one thing, and what they ask lies in its ranges.
use Rattle.std.proofs.Common.{ℕ, ◌≡◌, ◌≤◌, ◌-◌, List, [], ◌∷◌, length, get_or, take, drop, map, take_all, le_refl, arith, Some, None, Option, unwrap_or, codes, refl, sym, ap, ap₂, subst, ◌∙◌, IfSome, IfNone}
use Rattle.smlc_words.specs.declared.asked.Command.{Command}
use Rattle.smlc_words.specs.declared.flag.Flag.{Flag}
use Rattle.smlc_words.specs.declared.flag.Flag.TheVariants.{Out, Arena, Steps, Stride}
use Rattle.smlc_words.specs.Given.{IsBetween, IsArena, IsSteps, IsStride, Given, nothing, Takes, IsGiven, AtEnd, AnOperand, AnOption}
use Rattle.smlc_words.specs.Asks.{Asked, Compile, Run, Meter, Exec, Types, Plan, Gen, Bench, AreNumbers, IsFor, IsAnswer, Asks, asked}
use Rattle.smlc_words.specs.Laws.{AskOnce, AskInRange, IsInRange}
use Rattle.smlc_words.proofs.Reading.{apart, operand_next, option_next}

at_end : {whole g : Given} → IsGiven whole g [] → whole ≡ g
at_end AtEnd = refl

pub given_once : {whole whole' g : Given} {words : List (List ℕ)} → IsGiven whole g words → IsGiven whole' g words → whole ≡ whole'
given_once AtEnd d = sym (at_end d)
given_once (AnOperand g word words o next) d = given_once next (operand_next d o)
given_once (AnOption f value g then words t next) d = given_once next (option_next f d refl t)

numbers_once : (operands : List (List ℕ)) (n s n' s' : ℕ) → AreNumbers operands n s → AreNumbers operands n' s' → (n ≡ n') × (s ≡ s')
numbers_once (first ∷ second ∷ []) n s n' s' a b = (a.0.2 ∙ sym b.0.2, a.2.2 ∙ sym b.2.2)
numbers_once [] n s n' s' a b = absurd a
numbers_once (first ∷ []) n s n' s' a b = absurd a
numbers_once (first ∷ second ∷ third ∷ more) n s n' s' a b = absurd a

-- the command's name
abbrev name_of : Asked → List ℕ
name_of (Compile files out arena) = codes "compile"
name_of (Run files arena steps) = codes "run"
name_of (Meter files arena steps stride) = codes "meter"
name_of (Exec elf steps) = codes "exec"
name_of (Types files) = codes "types"
name_of (Plan files) = codes "plan"
name_of (Gen n size) = codes "gen"
name_of (Bench n size) = codes "bench"

named_so : (name : List ℕ) (g : Given) (a : Asked) → IsFor name g a → name ≡ name_of a
named_so name g (Compile files out arena) i = i.0
named_so name g (Run files arena steps) i = i.0
named_so name g (Meter files arena steps stride) i = i.0
named_so name g (Exec elf steps) i = i.0
named_so name g (Types files) i = i.0
named_so name g (Plan files) i = i.0
named_so name g (Gen n size) i = i.0
named_so name g (Bench n size) i = i.0

abbrev first_operand : Given → List ℕ
first_operand g = elim g.operands [ [] ↦ [] | word ∷ words ↦ word ]

for_once : (name : List ℕ) (g : Given) (a b : Asked) → IsFor name g a → IsFor name g b → a ≡ b
for_once name g (Compile files out arena) (Compile files' out' arena') i j = ap (λ h. Compile h.operands (unwrap_or h.out []) h.arena) (sym i.2 ∙ j.2)
for_once name g (Run files arena steps) (Run files' arena' steps') i j = ap (λ h. Run h.operands h.arena h.steps) (sym i.2 ∙ j.2)
for_once name g (Meter files arena steps stride) (Meter files' arena' steps' stride') i j = ap (λ h. Meter h.operands h.arena h.steps h.stride) (sym i.2 ∙ j.2)
for_once name g (Exec elf steps) (Exec elf' steps') i j = ap (λ h. Exec (first_operand h) h.steps) (sym i.1 ∙ j.1)
for_once name g (Types files) (Types files') i j = ap (λ h. Types h.operands) (sym i.2 ∙ j.2)
for_once name g (Plan files) (Plan files') i j = ap (λ h. Plan h.operands) (sym i.2 ∙ j.2)
for_once name g (Gen n size) (Gen n' size') i j = let e = numbers_once g.operands n size n' size' i.1 j.1 in ap₂ Gen e.0 e.1
for_once name g (Bench n size) (Bench n' size') i j = let e = numbers_once g.operands n size n' size' i.1 j.1 in ap₂ Bench e.0 e.1
for_once name g a b i j = apart (name_of a) (name_of b) refl (sym (named_so name g a i) ∙ named_so name g b j)

pub asks_once : AskOnce
asks_once = once
  where
    once : (words : List (List ℕ)) (a b : Asked) → Asks words a → Asks words b → a ≡ b
    once [] a b i j = absurd i
    once (program ∷ []) a b i j = absurd i
    once (program ∷ name ∷ words) a b (g, d, i) (g', d', j) = for_once name g a b i (subst (λ h. IsFor name h b) (given_once d' d) j)

-- the options' values lie in their ranges
abbrev AreInRange : Given → Type 0
AreInRange g = IfSome g.arena IsArena × IfSome g.steps IsSteps × IfSome g.stride IsStride

taken_in_range : (f : Flag) (word : List ℕ) (g then : Given) → Takes f word g then → AreInRange g → AreInRange then
taken_in_range Out word g then t r = subst AreInRange (sym t.2) r
taken_in_range Arena word g then (free, (n, number, range, is)) r = subst AreInRange (sym is) (range, r.1, r.2)
taken_in_range Steps word g then (free, (n, number, range, is)) r = subst AreInRange (sym is) (r.0, range, r.2)
taken_in_range Stride word g then (free, (n, number, range, is)) r = subst AreInRange (sym is) (r.0, r.1, range)

given_in_range : {whole g : Given} {words : List (List ℕ)} → IsGiven whole g words → AreInRange g → AreInRange whole
given_in_range AtEnd r = r
given_in_range (AnOperand g word words o next) r = given_in_range next r
given_in_range (AnOption f value g then words t next) r = given_in_range next (taken_in_range f value g then t r)

size_in_range : (operands : List (List ℕ)) (n size : ℕ) → AreNumbers operands n size → IsBetween 1 10000 size
size_in_range (first ∷ second ∷ []) n size a = a.3
size_in_range [] n size a = absurd a
size_in_range (first ∷ []) n size a = absurd a
size_in_range (first ∷ second ∷ third ∷ more) n size a = absurd a

for_in_range : (name : List ℕ) (g : Given) (a : Asked) → AreInRange g → IsFor name g a → IsInRange a
for_in_range name g (Compile files out arena) r i = (i.1, (subst AreInRange i.2 r).0)
for_in_range name g (Run files arena steps) r i = let s = subst AreInRange i.2 r in (i.1, s.0, s.1)
for_in_range name g (Meter files arena steps stride) r i = let s = subst AreInRange i.2 r in (i.1, s.0, s.1, s.2)
for_in_range name g (Exec elf steps) r i = (subst AreInRange i.1 r).1
for_in_range name g (Types files) r i = i.1
for_in_range name g (Plan files) r i = i.1
for_in_range name g (Gen n size) r i = size_in_range g.operands n size i.1
for_in_range name g (Bench n size) r i = size_in_range g.operands n size i.1

pub asks_in_range : AskInRange
asks_in_range = in_range
  where
    in_range : (words : List (List ℕ)) (a : Asked) → Asks words a → IsInRange a
    in_range [] a i = absurd i
    in_range (program ∷ []) a i = absurd i
    in_range (program ∷ name ∷ words) a (g, d, i) = for_in_range name g a (given_in_range d (tt, tt, tt)) i

-- where the words behind the second give `whole`, it is what is asked with
asked_with : {X : Type 0} (f : X → List ℕ) (xs : List X) (x : X) (name : List ℕ) (whole : Given) → 2 ≤ length xs → x ≡ get_or xs 1 x → name ≡ f x → IsGiven whole nothing (map f (take (length xs - 2) (drop 2 xs))) → (a : Asked) → Asks (map f xs) a → IsFor name whole a
asked_with f [] x name whole l e n d a i = absurd i
asked_with f (p ∷ []) x name whole l e n d a i = absurd i
asked_with f (p ∷ q ∷ ys) x name whole l e n d a (g, d', i) =
    let k : length (p ∷ q ∷ ys) - 2 ≡ length ys = omega arith in
    let rest : take (length (p ∷ q ∷ ys) - 2) ys ≡ ys = ap (λ m. take m ys) k ∙ take_all (length ys) ys (le_refl (length ys)) in
    let same : g ≡ whole = given_once d' (subst (λ zs. IsGiven whole nothing (map f zs)) rest d) in
    subst (λ m. IsFor m whole a) (ap f (sym e) ∙ sym n) (subst (λ h. IsFor (f q) h a) same i)

pub nothing_asked : {X : Type 0} (f : X → List ℕ) (xs : List X) (x : X) (name : List ℕ) (whole : Given) (answer : Option Command) → 2 ≤ length xs → x ≡ get_or xs 1 x → name ≡ f x → IsGiven whole nothing (map f (take (length xs - 2) (drop 2 xs))) → IsAnswer name whole answer → IfNone answer ((a : Asked) → Asks (map f xs) a → ⊥)
nothing_asked f xs x name whole None l e n d h = λ a i. h a (asked_with f xs x name whole l e n d a i)
nothing_asked f xs x name whole (Some c) l e n d h = tt

pub answer_in_range : (name : List ℕ) (words : List (List ℕ)) (whole : Given) (answer : Option Command) → IsGiven whole nothing words → IsAnswer name whole answer → IfSome answer (λ c. IsInRange (asked c))
answer_in_range name words whole None d h = tt
answer_in_range name words whole (Some c) d h = for_in_range name whole (asked c) (given_in_range d (tt, tt, tt)) h

pub held : {A : Type 0} (P : A → Type 0) (o : Option A) (x : A) → o ≡ Some x → IfSome o P → P x
held P o x e h = subst (λ p. IfSome p P) e h
