-- A body of the answer with one more binding in which no body stands.
use Rattle.std.proofs.Common.{◌≡◌, ◌≢◌, ℕ, List, [], ◌∷◌, ◌++◌, length, Option, Some, None, slice_get, refl, sym, ap, ◌∙◌, subst, length-set, append-nil}
use Rattle.std.specs.Prelude.{get_or, slice_set}
use Rattle.simulation.proofs.Lists.{get_set_same, get_set_other}
use Rattle.cps_ir.specs.declared.body.Bind.{Bind}
use Rattle.cps_ir.specs.declared.body.Body.{Body}
use Rattle.cps_ir.specs.Code.{Code}
use Rattle.cps_ir.specs.Kept.{bind_parts, body_parts}
use Rattle.cps_ir.specs.Program.{code_of_binds}
use Rattle.contract_rows.specs.Rows.{empty}
use Rattle.contract_binds.specs.Law.{in_front}
use Rattle.contract_group.specs.Bodies.{and_bind, with_bind}
use Rattle.contract_steps.specs.Steps.{put_left}
use Rattle.contract_holds.specs.Fits.{binds_of, AreOpen}
use Rattle.contract_holds.proofs.Filled.{or_here, binds_append, slot_here, old_end, with_bind_is, going, bind_parts_more}

abbrev pub HasNoPart : Option Bind → Type 0
HasNoPart None = Unit {0}
HasNoPart (Some b) = bind_parts b ≡ []

module _ (slot : ℕ) (slots : List ℕ) (bodies : List Body) (free : AreOpen (slot ∷ slots) bodies) where
  abbrev old : Body
  old = get_or bodies slot empty

  more_open : (b : Bind) → bind_parts b ≡ [] → AreOpen (slot ∷ slots) (with_bind slot b bodies)
  more_open b none =
      let parts : body_parts (and_bind b old) ≡ body_parts old ++ [] = bind_parts_more slot slots bodies free b ∙ ap (λ ps. body_parts old ++ ps) none in
      subst (λ t. AreOpen (slot ∷ slots) t) (ap (λ t. slice_set t slot (and_bind b old)) (append-nil bodies) ∙ sym (with_bind_is slot slots bodies free b))
      (subst (λ t. AreOpen (slot ∷ t) (slice_set (bodies ++ []) slot (and_bind b old))) (append-nil slots) (going slot slots bodies free 0 (and_bind b old) parts (old_end slot slots bodies free)))

  more_here : (b : Bind) → binds_of (with_bind slot b bodies) slot ≡ binds_of bodies slot ++ b ∷ []
  more_here b =
      ap (λ t. binds_of t slot) (with_bind_is slot slots bodies free b)
      ∙ ap (λ c. c.binds) (or_here (slice_set bodies slot (and_bind b old)) slot empty (and_bind b old) (get_set_same bodies slot (and_bind b old) old (slot_here slot slots bodies free)))

  more_other : (b : Bind) (i : ℕ) → i ≢ slot → slice_get (with_bind slot b bodies) i ≡ slice_get bodies i
  more_other b i n = ap (λ t. slice_get t i) (with_bind_is slot slots bodies free b) ∙ get_set_other bodies slot (and_bind b old) i n

  more_length : (b : Bind) → length (with_bind slot b bodies) ≡ length bodies
  more_length b = ap length (with_bind_is slot slots bodies free b) ∙ length-set bodies slot (and_bind b old)

  pub left_open : (o : Option Bind) → HasNoPart o → AreOpen (slot ∷ slots) (put_left slot o bodies)
  left_open None none = free
  left_open (Some b) none = more_open b none

  pub left_other : (o : Option Bind) (i : ℕ) → i ≢ slot → slice_get (put_left slot o bodies) i ≡ slice_get bodies i
  left_other None i n = refl
  left_other (Some b) i n = more_other b i n

  pub left_length : (o : Option Bind) → length (put_left slot o bodies) ≡ length bodies
  left_length None = refl
  left_length (Some b) = more_length b

  pub left_here : (P : ℕ → Code) (o : Option Bind) (c : Code) → code_of_binds P (binds_of (put_left slot o bodies) slot) c ≡ code_of_binds P (binds_of bodies slot) (in_front P o c)
  left_here P None c = refl
  left_here P (Some b) c = ap (λ bs. code_of_binds P bs c) (more_here b) ∙ binds_append P (binds_of bodies slot) (b ∷ []) c
