-- what a job came to, and what was said of it, as an answer
use Rattle.std.proofs.Common.{◌≡◌, ◌⊎◌, inl, inr, ℕ, ◌≤◌, List, [], ◌∷◌, ◌++◌, Option, arith, refl, sym, ap, subst, ◌∙◌}
use Rattle.std.proofs.lemmas.List.{append-nil}
use Rattle.smlc_edge.specs.Edge.{Rose, Fails, Files}
use Rattle.smlc_edge.proofs.Gained.{gains_none, gains_more}
use Rattle.smlc_jobs.specs.declared.outcome.Outcome.{Outcome}
use Rattle.smlc_jobs.specs.Job.{Job, CompileFiles, IsAsked, files_of, target_of}
use Rattle.smlc_jobs.specs.Outcome.{line_of, status_of}
use Rattle.smlc_jobs.specs.Texts.{name_at, memory_line, store_line, input_line, out_line}
use Rattle.smlc_jobs.specs.Held.{KeepsFiles}
use Rattle.smlc_jobs.specs.Write.{IsPrefix, Said}
use Rattle.smlc_top.specs.Clause.{Names, whole, part, Answers, answered, plain, not_loaded, not_saved, input_failed, out_failed, err_failed, untold, untold_plain, Comes, Plain, no_memory, Performed, fine, want, load_failed, save_failed, read_failed, write_failed, error_failed}
use Rattle.smlc_jobs.specs.Runs.{Tally, IsSame, Intake, TakesNothing, Came}

-- counts that stand still, and one that rises later
same_now : (before now : Tally) (err : ℕ) → IsSame before now → err ≡ now.err → IsSame before (record now { err = err })
same_now before now err s h = record { store = s.store; input = s.input; out = s.out; err = h ∙ s.err }

rose_last : (before now : Tally) (err : ℕ) → IsSame before now → Fails now.err err → Rose before.err err
rose_last before now err s h = let e = s.err in omega (arith, h.0, h.1, e)

rose_later : (a b c : ℕ) → Fails a b → b ≤ c → Rose a c
rose_later a b c h p = omega (arith, h.0, h.1, p)

abbrev How : ℕ → List ℕ → List ℕ → ℕ → ℕ → ℕ → Type 0
How status wrote line e e' r = ((r ≡ status) × (wrote ≡ line) × (e' ≡ e)) ⊎ ((r ≡ 5) × Fails e e')

-- what was said of what failed
named : (before now : Tally) (line wrote : List ℕ) (err r : ℕ) → before.err ≤ now.err → IsPrefix wrote line → How 5 wrote line now.err err r → Names before (record now { err = err }) line wrote
named before now line wrote err r l front (inl h) = subst (λ (x : List ℕ). Names before (record now { err = err }) line x) (sym h.1) whole
named before now line wrote err r l front (inr h) = let f = h.1 in part wrote (omega (arith, f.0, f.1, l)) front

-- so behind nothing
named_behind : (before after : Tally) (line err wrote : List ℕ) → err ≡ [] → Names before after line wrote → Names before after line (err ++ wrote)
named_behind before after line err wrote none n = subst (λ (x : List ℕ). Names before after line (x ++ wrote)) (sym none) n

-- a prefix behind nothing
front_of : (line err wrote : List ℕ) → err ≡ [] → IsPrefix wrote line → IsPrefix (err ++ wrote) line
front_of line err wrote none h = (h.0, h.1 ∙ ap (λ (x : List ℕ). (x ++ wrote) ++ h.0) (sym none))

behind : (line err wrote : List ℕ) → err ≡ [] → wrote ≡ line → err ++ wrote ≡ line
behind line err wrote none h = ap (λ (x : List ℕ). x ++ wrote) none ∙ h

nothing_behind : (err wrote : List ℕ) → IsPrefix wrote [] → err ++ wrote ≡ err
nothing_behind err [] h = append-nil err
nothing_behind err (x ∷ wrote) h = absurd (cc)

five : (wrote line : List ℕ) (e e' r : ℕ) → How 5 wrote line e e' r → r ≡ 5
five wrote line e e' r (inl h) = h.0
five wrote line e e' r (inr h) = h.0

grown : (status : ℕ) (wrote line : List ℕ) (e e' r : ℕ) → How status wrote line e e' r → e ≤ e'
grown status wrote line e e' r (inl h) = let k = h.2 in omega arith
grown status wrote line e e' r (inr h) = h.1.0

module _ (words : List (List ℕ)) (told files : Option Files) (before now : Tally) (input : Intake) (out merr wrote : List ℕ) (e' r : ℕ) where
  abbrev Says : ℕ → Type 0
  Says status = Answers words told files before (record now { err = e' }) input out (merr ++ wrote) status

  with_status : (status : ℕ) → r ≡ status → Says status → Says r
  with_status status h a = subst (λ (x : ℕ). Says x) (sym h) a

  -- a line of any job
  pub plainly : (line : List ℕ) (status : ℕ) → Plain words line status → out ≡ [] → merr ≡ [] → KeepsFiles told files → TakesNothing input → IsSame before now → IsPrefix wrote line → How status wrote line now.err e' r → Says r
  plainly line status p none no_err keeps nothing same front (inl h) =
      with_status status h.0 (plain line status p none keeps nothing (same_now before now e' same h.2) (behind line merr wrote no_err h.1))
  plainly line status p none no_err keeps nothing same front (inr h) =
      with_status 5 h.0 (untold_plain line status p (rose_last before now e' same h.1) none keeps nothing (front_of line merr wrote no_err front))

  module _ (job : Job) (asked : IsAsked words job) where
    finely : (line : List ℕ) (status : ℕ) → Comes told files input out merr job line status → IsSame before now → IsPrefix wrote line → How status wrote line now.err e' r → Says r
    finely line status c same front (inl h) =
        with_status status h.0 (answered job merr line status asked c (same_now before now e' same h.2) (ap (λ (x : List ℕ). merr ++ x) h.1))
    finely line status c same front (inr h) =
        with_status 5 h.0 (untold job merr line wrote status asked (rose_last before now e' same h.1) c front refl)

    pub performed : (o : Outcome) → Performed job told files before now input out merr o → IsPrefix wrote (line_of (files_of job) (target_of job) o) →
        How (status_of o) wrote (line_of (files_of job) (target_of job) o) now.err e' r → Says r
    performed _ (fine o c same) front how = finely (line_of (files_of job) (target_of job) o) (status_of o) c same front how
    performed _ (want none no_err keeps nothing same) front how = plainly memory_line 6 no_memory none no_err keeps nothing same front how
    performed _ (load_failed i upto f none no_err keeps nothing l) front how =
        let line = store_line (name_at (files_of job) i) in
        with_status 5 (five wrote line now.err e' r how) (not_loaded job i asked upto f.1 none keeps nothing (named_behind before (record now { err = e' }) line merr wrote no_err (named before now line wrote e' r l front how)))
    performed _ (save_failed names held_files target arena image is held compiled f none no_err changes nothing l) front how =
        let asked' : IsAsked words (CompileFiles names target arena) = subst (λ (j : Job). IsAsked words j) is asked in
        let same_target : target_of job ≡ target = ap target_of is in
        let said : Names before (record now { err = e' }) (store_line target) wrote =
        subst (λ (t : List ℕ). Names before (record now { err = e' }) (store_line t) wrote) same_target (named before now (store_line (target_of job)) wrote e' r l front how) in
        with_status 5 (five wrote (store_line (target_of job)) now.err e' r how)
        (not_saved names held_files target arena image asked' held compiled f.1 none changes nothing (named_behind before (record now { err = e' }) (store_line target) merr wrote no_err said))
    performed _ (read_failed f l midway keeps) front how =
        with_status 5 (five wrote input_line now.err e' r how) (input_failed job merr wrote asked f.1 midway keeps (named before now input_line wrote e' r l front how) refl)
    performed _ (write_failed f l midway keeps) front how =
        with_status 5 (five wrote out_line now.err e' r how) (out_failed job merr wrote asked f midway keeps (named before now out_line wrote e' r l front how) refl)
    performed _ (error_failed f midway keeps) front how =
        with_status 5 (five wrote [] now.err e' r how)
        (subst (λ (x : List ℕ). Answers words told files before (record now { err = e' }) input out x 5) (sym (nothing_behind merr wrote front))
        (err_failed job asked (rose_later before.err now.err e' f (grown 5 wrote [] now.err e' r how)) midway keeps))

-- what was performed, and the report of it
pub reported : (words : List (List ℕ)) (told files : Option Files) (job : Job) (before now : Tally) (input : Intake) (e' r : ℕ) (out out' err err' err'' : Option (List ℕ)) (o : Outcome) → IsAsked words job →
    Came out out' err err' (λ w e. Performed job told files before now input w e o) → Said (line_of (files_of job) (target_of job) o) (status_of o) r now.err e' err' err'' →
    Came out out' err err'' (λ w e. Answers words told files before (record now { err = e' }) input w e r)
reported words told files job before now input e' r out out' err err' err'' o asked h s = record {
  wrote = h.wrote;
  wrote_err = h.wrote_err ++ s.wrote;
  gains = h.gains;
  gains_err = gains_more err err' err'' h.wrote_err s.wrote h.gains_err s.gains;
  says = performed words told files before now input h.wrote h.wrote_err s.wrote e' r job asked o h.says s.front s.how;
}

-- a line alone
pub said_plain : (words : List (List ℕ)) (told : Option Files) (line : List ℕ) (status : ℕ) (before : Tally) (input : Intake) (e' r : ℕ) (out err err' : Option (List ℕ)) → Plain words line status → TakesNothing input →
    Said line status r before.err e' err err' → Came out out err err' (λ w e. Answers words told told before (record before { err = e' }) input w e r)
said_plain words told line status before input e' r out err err' p nothing s = record {
  wrote = [];
  wrote_err = s.wrote;
  gains = gains_none out;
  gains_err = s.gains;
  says = plainly words told told before before input [] [] s.wrote e' r line status p refl refl (λ files h. h) nothing (record { store = refl; input = refl; out = refl; err = refl }) s.front s.how;
}
