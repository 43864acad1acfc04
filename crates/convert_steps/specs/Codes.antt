-- The code that data about what is left to be written stands for.
use Rattle.std.specs.Prelude.{◌≡◌, ℕ, suc, ◌+◌, Bool, List, [], ◌∷◌, ◌++◌, Option, Some, None, length, drop, slice_get}
use Rattle.smlc_base.specs.declared.exception.LibraryExn.TheVariants as exn
use Rattle.smlc_base.specs.declared.point.PointKind.TheVariants as kind
use Rattle.sml_tree.specs.Points.{point}
use Rattle.lambda_ir.specs.declared.term.Bind.{Bind}
use Rattle.lambda_ir.specs.declared.term.Case.{Case}
use Rattle.lambda_ir.specs.declared.term.Part.{Part}
use Rattle.lambda_ir.specs.declared.term.Term.{Term}
use Rattle.lambda_ir.specs.declared.term.Term.TheVariants as term
use Rattle.cps_ir.specs.declared.atom.Atom.{Atom}
use Rattle.cps_ir.specs.Code.{Code, Fix, SetHandler, Call, Throw, Halt, NoFunction, Function, Otherwise}
use Rattle.convert_laws.specs.Convert.{Scope, Kon, Known, Text, Conv, variable, apply, atom_of, bind_names, tests_of, rule_of, match_of, raise_exn, builtin, constructor, part, parts_of, match_on, binds_of, conv_within, size_at}
use Rattle.convert_scopes.specs.declared.scopes.Bound.{Bound}
use Rattle.convert_scopes.specs.Scopes.{IsScope}
use Rattle.convert_steps.specs.declared.task.Awaits.{Awaits}
use Rattle.convert_steps.specs.declared.task.Awaits.TheVariants as awaits
use Rattle.convert_steps.specs.declared.task.Continuation.{Continuation}
use Rattle.convert_steps.specs.declared.task.Continuation.TheVariants as continuation
use Rattle.convert_steps.specs.declared.task.Frame.{Frame}
use Rattle.convert_steps.specs.declared.task.Work.{Work}
use Rattle.convert_steps.specs.declared.task.Work.TheVariants as work

-- ---- What a term has

abbrev pub cases_in : Option Term → List Case
cases_in (Some (term.Match e cases)) = cases
cases_in (Some (term.Fn cases)) = cases
cases_in (Some (term.Handle e cases)) = cases
cases_in _ = []

abbrev pub parts_in : Option Term → List Part
parts_in (Some (term.Tuple parts)) = parts
parts_in _ = []

abbrev pub binds_in : Option Term → List Bind
binds_in (Some (term.Binds binds)) = binds
binds_in _ = []

abbrev pub cases_at : List Term → ℕ → List Case
cases_at terms i = cases_in (slice_get terms i)

abbrev pub parts_at : List Term → ℕ → List Part
parts_at terms i = parts_in (slice_get terms i)

abbrev pub binds_at : List Term → ℕ → List Bind
binds_at terms i = binds_in (slice_get terms i)

module _ (own : ℕ → Bool) (terms : List Term) where
  abbrev pub conv : ℕ → Conv
  conv = conv_within own terms (length terms)

  -- ---- Frames

  -- what is behind binding `at` of a declaration, under its names
  abbrev pub bound_code : ℕ → ℕ → ℕ → Bind → Atom → Scope → Kon → ℕ → Code
  bound_code d at body b a σ κ n =
      bind_names b.names a σ (λ τ m. binds_of own terms conv (drop (suc at) (binds_at terms d)) body τ κ m) n

  abbrev pub right_code : ℕ → ℕ → ℕ → Option Bind → Scope → Kon → Atom → ℕ → Code
  right_code d at body None σ κ a n = Halt
  right_code d at body (Some b) σ κ a n =
      match_of a (rule_of (tests_of σ b.tests) (bound_code d at body b a σ κ n) (Otherwise (raise_exn exn.BindExn)))

  abbrev pub awaits_code : Awaits → Scope → Kon → Atom → ℕ → Code
  awaits_code awaits.End σ κ a n = Halt
  awaits_code (awaits.Part t before) σ κ a n =
      parts_of own terms conv (parts_at terms t) (before ++ a ∷ []) (drop (suc (length before)) (parts_at terms t)) σ κ n
  awaits_code (awaits.Function x) σ κ a n = part own terms conv x σ (λ b m. Call a (b ∷ atom_of κ ∷ [])) n
  awaits_code (awaits.Argument f) σ κ a n = Call f (a ∷ atom_of κ ∷ [])
  awaits_code (awaits.Builtin f) σ κ a n = builtin f κ a n
  awaits_code (awaits.Constructor c) σ κ a n = constructor σ c κ a n
  awaits_code (awaits.Subject t) σ κ a n = match_on own terms conv (cases_at terms t) σ κ (raise_exn exn.MatchExn) a n
  awaits_code awaits.Packet σ κ a n = Throw a
  awaits_code (awaits.Right d at body) σ κ a n = right_code d at body (slice_get (binds_at terms d) at) σ κ a n

  -- a part whose value comes to a function of its own
  abbrev pub owned_code : ℕ → ℕ → Scope → Kon → Code
  owned_code j n σ κ =
      Fix (Function n (point j kind.Ret) (suc n ∷ []) (apply κ (variable (suc n)) (2 + n + size_at terms j)) NoFunction) (conv j σ (Known (variable n)) (2 + n))

  -- a part under its frame
  abbrev pub part_code : ℕ → Awaits → ℕ → Scope → Kon → Code
  part_code j w n σ κ = part own terms conv j σ (awaits_code w σ κ) n

  -- the parts of a tuple that are left, behind those that are there
  abbrev pub parts_code : ℕ → List Atom → ℕ → Scope → Kon → Code
  parts_code t before n σ κ = parts_of own terms conv (parts_at terms t) before (drop (length before) (parts_at terms t)) σ κ n

  -- the continuation that a number stands for
  pub data IsKon (bounds : List Bound) (frames : List Frame) : Continuation → Kon → Type 0 where
    called : (a : Atom) → IsKon bounds frames (continuation.Known a) (Known a)
    text : (r : ℕ) (f : Frame) (σ : Scope) (κ : Kon) → slice_get frames r ≡ Some f → IsScope bounds f.scope σ → IsKon bounds frames f.continuation κ → IsKon bounds frames (continuation.Text r) (Text (awaits_code f.awaits σ κ))

  -- ---- Work

  abbrev pub rule_code : Option Case → Atom → Scope → Kon → ℕ → Code
  rule_code None a σ κ n = Halt
  rule_code (Some c) a σ κ n = bind_names c.names a σ (λ τ m. conv c.body τ κ m) n

  abbrev pub after_code : ℕ → ℕ → ℕ → Option Bind → Atom → Scope → Kon → ℕ → Code
  after_code d at body None a σ κ n = Halt
  after_code d at body (Some b) a σ κ n = bound_code d at body b a σ κ n

  abbrev pub work_code : Work → Scope → Kon → ℕ → Code
  work_code (work.Term i) σ κ n = conv i σ κ n
  work_code (work.Give a) σ κ n = apply κ a n
  work_code (work.Rule t at a) σ κ n = rule_code (slice_get (cases_at terms t) at) a σ κ n
  work_code (work.Rules t a thrown) σ κ n = match_on own terms conv (cases_at terms t) σ κ (Throw thrown) a n
  work_code (work.Caught t) σ κ n =
      SetHandler (variable n) (match_on own terms conv (cases_at terms t) σ κ (Throw (variable (3 + n))) (variable (3 + n)) (5 + n))
  work_code work.Popped σ κ n = SetHandler (variable n) (Call (atom_of κ) (variable (4 + n) ∷ []))
  work_code (work.Throw a) σ κ n = Throw a
  work_code (work.Bound d at body a) σ κ n = after_code d at body (slice_get (binds_at terms d) at) a σ κ n
  work_code (work.Bindings d at body) σ κ n = binds_of own terms conv (drop at (binds_at terms d)) body σ κ n

  -- the bindings of a declaration from one on, and the body
  abbrev pub bindings_code : ℕ → ℕ → ℕ → ℕ → Scope → Kon → Code
  bindings_code d at body n σ κ = binds_of own terms conv (drop at (binds_at terms d)) body σ κ n
