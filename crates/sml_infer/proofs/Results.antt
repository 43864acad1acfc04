-- Clauses of results.
use Rattle.std.proofs.Common.{Result, Ok, Err}
use Rattle.std.specs.Prelude.{IfOk}

pub if_ok_both : {A E : Type 0} (P Q S : A → Type 0) (r : Result A E) → IfOk r P → IfOk r Q → ((x : A) → P x → Q x → S x) → IfOk r S
if_ok_both P Q S (Ok x) h k f = f x h k
if_ok_both P Q S (Err e) h k f = tt

pub if_ok_pair : {A E : Type 0} (P Q : A → Type 0) (r : Result A E) → IfOk r P → IfOk r Q → IfOk r (λ x. P x × Q x)
if_ok_pair P Q (Ok x) h k = (h, k)
if_ok_pair P Q (Err e) h k = tt

pub if_ok : {A E : Type 0} (P Q : A → Type 0) (r : Result A E) → IfOk r P → ((x : A) → P x → Q x) → IfOk r Q
if_ok P Q (Ok x) h f = f x h
if_ok P Q (Err e) h f = tt
