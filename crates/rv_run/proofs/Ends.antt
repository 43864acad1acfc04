-- What an end says.
use Rattle.std.proofs.Common.{◌≡◌, ◌≢◌, ℕ, zero, suc, ◌+◌, ◌-◌, ◌<◌, ◌≤◌, ◌==◌, ◌&&◌, List, [], ◌∷◌, ◌++◌, length, take, drop, Bool, true, false, if◌then◌else◌, refl, sym, ap, ◌∙◌, arith, eqb-true, length-append}
use Rattle.std.specs.Prelude.{nat_lt, bytes_eq}
use Rattle.std.proofs.lemmas.Bool.Decides.{nat_tests}
use Rattle.std.proofs.lemmas.Slice.Eq.{bytes_eq-Decides}
use Rattle.elf_static.specs.declared.image.Entries.{Entries}
use Rattle.rv_machine.specs.State.{State, reg}
use Rattle.rv_machine.specs.Run.{Mend, Runs, Exited, Trapped}
use Rattle.simulation.specs.Runs.{End, Going, Normal, Uncaught, Arena, Stuck}
use Rattle.rv_run.specs.Seen.{used}
use Rattle.rv_run.specs.Run.{Spot, risc, turned_from, line_of, name_in, uncaught_end, full_end, exit_end, mend_end}
use Rattle.rv_run.specs.Laws.{EndTells}

-- the name in a line of a name is this name
take_all_but_last : (name : List ℕ) (b : ℕ) → take (length name) (name ++ b ∷ []) ≡ name
take_all_but_last [] b = refl
take_all_but_last (x ∷ name) b = ap (λ l. x ∷ l) (take_all_but_last name b)

named_in : (name : List ℕ) → name_in (line_of name) ≡ name
named_in name =
    let l : length (line_of name) - 20 ≡ length name = let z = length-append name (10 ∷ []) in omega arith in
    ap (λ n. take n (drop 19 (line_of name))) l ∙ take_all_but_last name 10

-- ---- the ends of an exit

record FullEnd (table : Entries) (s : State) : Type 0 where
  has : reg s 11 ≡ used table s
  over : table.arena_words < used table s + reg s 12

full_tells : (table : Entries) (s : State) (b c : Bool) → (reg s 11 == used table s) ≡ b → nat_lt table.arena_words (used table s + reg s 12) ≡ c → (if b && c then Arena else Stuck) ≡ Arena → FullEnd table s
full_tells table s true true e f h = record { has = eqb-true (reg s 11) (used table s) e; over = grind (arith, nat_tests) }
full_tells table s true false e f h = absurd (cc)
full_tells table s false c e f h = absurd (cc)

uncaught_tells : (err name : List ℕ) (b : Bool) → bytes_eq err (line_of (name_in err)) ≡ b → (if b then Uncaught (name_in err) else Stuck) ≡ Uncaught name → err ≡ line_of name
uncaught_tells err name true e h =
    let q : name_in err ≡ name = cc in
    (bytes_eq-Decides err (line_of (name_in err))).0 e ∙ ap line_of q
uncaught_tells err name false e h = absurd (cc)

-- what each end of an exit says
record ExitTells (table : Entries) (s : State) (n : ℕ) (err : List ℕ) : Type 0 where
  going : exit_end table s n err ≢ Going
  normal : exit_end table s n err ≡ Normal → n ≡ 0
  uncaught : (name : List ℕ) → exit_end table s n err ≡ Uncaught name → (n ≡ 1) × (err ≡ line_of name)
  full : exit_end table s n err ≡ Arena → (n ≡ 3) × FullEnd table s

full_not : (table : Entries) (s : State) (e : End) → e ≢ Arena → e ≢ Stuck → full_end table s ≢ e
full_not table s e h k f = by ((reg s 11 == used table s) && nat_lt table.arena_words (used table s + reg s 12)) f
  where
    by : (b : Bool) → (if b then Arena else Stuck) ≡ e → ⊥
    by true f = h (sym f)
    by false f = k (sym f)

uncaught_not : (err : List ℕ) (e : End) → ((name : List ℕ) → e ≢ Uncaught name) → e ≢ Stuck → uncaught_end err ≢ e
uncaught_not err e h k f = by (bytes_eq err (line_of (name_in err))) f
  where
    by : (b : Bool) → (if b then Uncaught (name_in err) else Stuck) ≡ e → ⊥
    by true f = h (name_in err) (sym f)
    by false f = k (sym f)

exit_tells : (table : Entries) (s : State) (n : ℕ) (err : List ℕ) → ExitTells table s n err
exit_tells table s zero err = record { going = λ e. absurd (cc); normal = λ e. refl; uncaught = λ name e. absurd (cc); full = λ e. absurd (cc) }
exit_tells table s (suc zero) err = record {
  going = uncaught_not err Going (λ name e. absurd (cc)) (λ e. absurd (cc));
  normal = λ e. absurd (uncaught_not err Normal (λ name e. absurd (cc)) (λ e. absurd (cc)) e);
  uncaught = λ name e. (refl, uncaught_tells err name (bytes_eq err (line_of (name_in err))) refl e);
  full = λ e. absurd (uncaught_not err Arena (λ name e. absurd (cc)) (λ e. absurd (cc)) e);
}
exit_tells table s (suc (suc zero)) err = record { going = λ e. absurd (cc); normal = λ e. absurd (cc); uncaught = λ name e. absurd (cc); full = λ e. absurd (cc) }
exit_tells table s (suc (suc (suc zero))) err = record {
  going = full_not table s Going (λ e. absurd (cc)) (λ e. absurd (cc));
  normal = λ e. absurd (full_not table s Normal (λ e. absurd (cc)) (λ e. absurd (cc)) e);
  uncaught = λ name e. absurd (full_not table s (Uncaught name) (λ e. absurd (cc)) (λ e. absurd (cc)) e);
  full = λ e. (refl, full_tells table s (reg s 11 == used table s) (nat_lt table.arena_words (used table s + reg s 12)) refl refl e);
}
exit_tells table s (suc (suc (suc (suc n)))) err =
    let e : exit_end table s (suc (suc (suc (suc n)))) err ≡ Stuck = other (suc (suc (suc (suc n)))) (omega arith) in
    record {
      going = λ h. absurd (let q : Stuck ≡ Going = sym e ∙ h in cc);
      normal = λ h. absurd (let q : Stuck ≡ Normal = sym e ∙ h in cc);
      uncaught = λ name h. absurd (let q : Stuck ≡ Uncaught name = sym e ∙ h in cc);
      full = λ h. absurd (let q : Stuck ≡ Arena = sym e ∙ h in cc);
    }
  where
    other : (k : ℕ) → 4 ≤ k → exit_end table s k err ≡ Stuck
    other k l =
        let a : (k == 0) ≡ false = grind (arith, nat_tests) in
        let b : (k == 1) ≡ false = grind (arith, nat_tests) in
        let c : (k == 3) ≡ false = grind (arith, nat_tests) in
        rw (a, b, c) refl

pub uncaught_is : (err name : List ℕ) → err ≡ line_of name → uncaught_end err ≡ Uncaught name
uncaught_is err name e =
    let n : name_in err ≡ name = ap name_in e ∙ named_in name in
    let t : bytes_eq err (line_of (name_in err)) ≡ true = (bytes_eq-Decides err (line_of (name_in err))).1 (e ∙ ap line_of (sym n)) in
    ap (λ b. if b then Uncaught (name_in err) else Stuck) t ∙ ap Uncaught n

pub tells : (table : Entries) (s : Spot) → EndTells table s
tells table s = by (turned_from s).mend refl
  where
    by : (m : Mend) → (turned_from s).mend ≡ m → EndTells table s
    by Runs e =
        let g : (risc table).end s ≡ Going = ap (λ m. mend_end table s.world.state m s.world.err) e in
        record {
          going = λ h. e;
          normal = λ h. absurd (let q : Going ≡ Normal = sym g ∙ h in cc);
          uncaught = λ name h. absurd (let q : Going ≡ Uncaught name = sym g ∙ h in cc);
          named = λ name h k. absurd (let q : Runs ≡ Exited 1 = sym e ∙ h in cc);
          full = λ h. absurd (let q : Going ≡ Arena = sym g ∙ h in cc);
        }
    by (Exited n) e =
        let g : (risc table).end s ≡ exit_end table s.world.state n s.world.err = ap (λ m. mend_end table s.world.state m s.world.err) e in
        let x = exit_tells table s.world.state n s.world.err in
        record {
          going = λ h. absurd (x.going (sym g ∙ h));
          normal = λ h. e ∙ ap Exited (x.normal (sym g ∙ h));
          uncaught = λ name h. let r = x.uncaught name (sym g ∙ h) in (e ∙ ap Exited r.0, r.1);
          named = λ name h k. let q : n ≡ 1 = one n (sym e ∙ h) in g ∙ ap (λ n. exit_end table s.world.state n s.world.err) q ∙ uncaught_is s.world.err name k;
          full = λ h. let r = x.full (sym g ∙ h) in (e ∙ ap Exited r.0, r.1.has, r.1.over);
        }
      where
        one : (n : ℕ) → Exited n ≡ Exited 1 → n ≡ 1
        one n q = cc
    by (Trapped pc word) e =
        let g : (risc table).end s ≡ Stuck = ap (λ m. mend_end table s.world.state m s.world.err) e in
        record {
          going = λ h. absurd (let q : Stuck ≡ Going = sym g ∙ h in cc);
          normal = λ h. absurd (let q : Stuck ≡ Normal = sym g ∙ h in cc);
          uncaught = λ name h. absurd (let q : Stuck ≡ Uncaught name = sym g ∙ h in cc);
          named = λ name h k. absurd (let q : Trapped pc word ≡ Exited 1 = sym e ∙ h in cc);
          full = λ h. absurd (let q : Stuck ≡ Arena = sym g ∙ h in cc);
        }
