-- Tables of what bodies see, while scopes grow.
use Rattle.std.proofs.Common.{◌≡◌, ℕ, zero, suc, List, [], ◌∷◌, ◌++◌, Some, length, replicate, slice_set, refl, sym, ap, ◌∙◌, arith}
use Rattle.std.proofs.Common.{Option}
use Rattle.cps_ir.specs.declared.body.Function.{Function as Entry}
use Rattle.close_scopes.specs.declared.scopes.Bound.{Bound}
use Rattle.close_scopes.specs.declared.scopes.Link.{Link}
use Rattle.close_scopes.specs.Scopes.{Grows}
use Rattle.close_steps.specs.declared.environment.Environment.{Environment}
use Rattle.close_steps.specs.declared.decisions.Decision.{Decision}
use Rattle.close_steps.specs.declared.decisions.Decisions.{Decisions}
use Rattle.close_steps.specs.Visible.{Visible, visible}
use Rattle.close_entries.specs.Entries.{entered}
use Rattle.close_rows.specs.Rows.{begun}
use Rattle.cps_ir.specs.declared.body.Body.{Body}
use Rattle.close_seen.specs.Seen.{put_all, seen_in, enter_one, enter_all, first_table, functions_of}
use Rattle.close_all.specs.Begins.{nothing_seen, begin_in, Stands, AllStand, all_visible}

-- ---- Scopes grow

pub all_stand : (old new : List Link) (begins : List Environment) → Grows old new → AllStand old begins → AllStand new begins
all_stand old new [] g s = tt
all_stand old new (e ∷ begins) g s =
    let l = g.longer in
    let a = s.0.0 in
    let b = s.0.1 in
    ((omega (arith, l, a), omega (arith, l, b)), all_stand old new begins g s.1)

one_visible : (old new : List Link) (e : Environment) → Grows old new → Stands old e → visible new e ≡ visible old e
one_visible old new e g s =
    let outer : Visible → List Bound → Visible = λ v bs. record { is_main = v.is_main; variables = bs; records = v.records } in
    let beside : Visible → List Bound → Visible = λ v bs. record { is_main = v.is_main; variables = v.variables; records = bs } in
    ap (outer (visible new e)) (g.same e.variables.innermost s.0) ∙ ap (beside (visible old e)) (g.same e.records.innermost s.1)

pub same_visible : (old new : List Link) (begins : List Environment) → Grows old new → AllStand old begins → all_visible new begins ≡ all_visible old begins
same_visible old new [] g s = refl
same_visible old new (e ∷ begins) g s =
    ap (λ v. v ∷ all_visible new begins) (one_visible old new e g s.0) ∙ ap (λ vs. visible old e ∷ vs) (same_visible old new begins g s.1)

-- ---- Entries of tables

set_stand : (links : List Link) (begins : List Environment) (i : ℕ) (e : Environment) → AllStand links begins → Stands links e → AllStand links (slice_set begins i e)
set_stand links [] i e s h = tt
set_stand links (b ∷ begins) zero e s h = (h, s.1)
set_stand links (b ∷ begins) (suc i) e s h = (s.0, set_stand links begins i e s.1 h)

pub put_stand : (links : List Link) (begins : List Environment) (js : List ℕ) (e : Environment) → AllStand links begins → Stands links e → AllStand links (put_all begins js e)
put_stand links begins [] e s h = s
put_stand links begins (j ∷ js) e s h = put_stand links (slice_set begins j e) js e (set_stand links begins j e s h) h

set_visible : (links : List Link) (begins : List Environment) (i : ℕ) (e : Environment) → all_visible links (slice_set begins i e) ≡ slice_set (all_visible links begins) i (visible links e)
set_visible links [] i e = refl
set_visible links (b ∷ begins) zero e = refl
set_visible links (b ∷ begins) (suc i) e = ap (λ vs. visible links b ∷ vs) (set_visible links begins i e)

pub put_visible : (links : List Link) (begins : List Environment) (js : List ℕ) (e : Environment) → all_visible links (put_all begins js e) ≡ put_all (all_visible links begins) js (visible links e)
put_visible links begins [] e = refl
put_visible links begins (j ∷ js) e =
    put_visible links (slice_set begins j e) js e ∙ ap (λ vs. put_all vs js (visible links e)) (set_visible links begins j e)

pub put_last : (begins : List Environment) (js : List ℕ) (j : ℕ) (e : Environment) → put_all begins (js ++ j ∷ []) e ≡ slice_set (put_all begins js e) j e
put_last begins [] j e = refl
put_last begins (i ∷ js) j e = put_last (slice_set begins i e) js j e

pub begin_visible : (links : List Link) (begins : List Environment) (i : ℕ) → visible links (begin_in begins i) ≡ seen_in (all_visible links begins) i
begin_visible links [] i = refl
begin_visible links (b ∷ begins) zero = refl
begin_visible links (b ∷ begins) (suc i) = begin_visible links begins i

pub begin_stands : (links : List Link) (begins : List Environment) (i : ℕ) → AllStand links begins → Stands links (begin_in begins i)
begin_stands links [] i s = (omega arith, omega arith)
begin_stands links (b ∷ begins) zero s = s.0
begin_stands links (b ∷ begins) (suc i) s = begin_stands links begins i s.1

pub none_visible : (links : List Link) (n : ℕ) → all_visible links (replicate n nothing_seen) ≡ replicate n begun
none_visible links zero = refl
none_visible links (suc n) = ap (λ vs. begun ∷ vs) (none_visible links n)

-- a function is entered
pub entered_one : (d : Decisions) (f : Entry) (old new : List Link) (begins after : List Environment) (e : Environment) (k : Decision) (params : List ℕ) (o : Option Decision) → Grows old new → AllStand old begins → after ≡ slice_set begins f.body e → visible new e ≡ entered d f.name k params → params ≡ f.params → o ≡ Some k → all_visible new after ≡ enter_one d (all_visible old begins) f o
entered_one d f old new begins after e k params o g s put seen same is =
    ap (all_visible new) put ∙ set_visible new begins f.body e
    ∙ ap (λ vs. slice_set vs f.body (visible new e)) (same_visible old new begins g s)
    ∙ ap (slice_set (all_visible old begins) f.body) (seen ∙ ap (entered d f.name k) same)
    ∙ sym (ap (enter_one d (all_visible old begins) f) is)

-- all are entered
pub entered_all : (d : Decisions) (links : List Link) (begins : List Environment) (bodies : List Body) (fs : List Entry) (t : List Visible) → begins ≡ replicate (length bodies) nothing_seen → fs ≡ functions_of bodies → t ≡ enter_all d (all_visible links begins) fs → t ≡ first_table d bodies
entered_all d links begins bodies fs t e f h =
    h ∙ ap (λ vs. enter_all d vs fs) (ap (all_visible links) e ∙ none_visible links (length bodies)) ∙ ap (enter_all d (replicate (length bodies) begun)) f
