-- What tests say where they are answered by a failure.
use Rattle.std.proofs.Common.{◌≡◌, Bool, true, false, Result, Ok, Err}
use Rattle.std.specs.Prelude.{IfOk}
use Rattle.std.proofs.lemmas.Result.{IfOk-weaker, IfOk-at_ok}
use Rattle.smlc_base.specs.declared.memory.NoMemory.{NoMemory}
use Rattle.infer_state.specs.declared.failure.Failure.{Failure}
use Rattle.infer_state.specs.declared.failure.Failure.TheVariants as failure
use Rattle.infer_checks.specs.Checked.{IsRefused}

-- a refusal that shows one thing shows what follows from it
pub refused_weaker : {A : Type 0} (r : Result A Failure) (P Q : Type 0) → (P → Q) → IsRefused r P → IsRefused r Q
refused_weaker (Ok x) P Q f h = tt
refused_weaker (Err failure.Untypable) P Q f h = f h
refused_weaker (Err failure.NoMemory) P Q f h = tt

-- a test that is passed holds
pub passed_of : (tested : Result Bool NoMemory) (result : Result Unit Failure) (D : Bool → Type 0) (Q : Type 0) → IfOk tested D → (D true → Q) → IfOk result (λ _. tested ≡ Ok true) → IfOk result (λ _. Q)
passed_of tested result D Q h f p = IfOk-weaker result (λ _. tested ≡ Ok true) (λ _. Q) (λ x e. f (IfOk-at_ok D e h)) p

-- one that fails does not
pub refused_of : (tested : Result Bool NoMemory) (result : Result Unit Failure) (D : Bool → Type 0) (Q : Type 0) → IfOk tested D → (D false → Q) → IsRefused result (tested ≡ Ok false) → IsRefused result Q
refused_of tested result D Q h f p = refused_weaker result (tested ≡ Ok false) Q (λ e. f (IfOk-at_ok D e h)) p

-- two clauses of one result give a third
pub both_of : {A : Type 0} (P Q S : Type 0) (r : Result A Failure) → (P → Q → S) → IfOk r (λ _. P) → IfOk r (λ _. Q) → IfOk r (λ _. S)
both_of P Q S (Ok x) f h k = f h k
both_of P Q S (Err e) f h k = tt
