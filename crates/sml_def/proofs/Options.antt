-- What holds of the outcome of one thing after another, where each may be missing.
use Rattle.std.proofs.Common.{◌≡◌, Bool, true, false, Option, Some, None, refl, subst}
use Rattle.std.specs.Prelude.{IfSome}
use Rattle.sml_def.specs.Maybe.{◌>>=◌, when, or_else}

pub bind_some : {A B : Type 0} (Q : B → Type 0) (o : Option A) (f : A → Option B) → ((x : A) → o ≡ Some x → IfSome (f x) Q) → IfSome (o >>= f) Q
bind_some Q None f g = tt
bind_some Q (Some x) f g = g x refl

pub or_some : {A B : Type 0} (Q : B → Type 0) (o : Option A) (f : A → B) (other : B) → ((x : A) → o ≡ Some x → Q (f x)) → Q other → Q (or_else o f other)
or_some Q None f other g e = e
or_some Q (Some x) f other g e = g x refl

pub when_some : {A : Type 0} (Q : A → Type 0) (t : Bool) (x : A) → (t ≡ true → Q x) → IfSome (when t x) Q
when_some Q true x h = h refl
when_some Q false x h = tt

pub if_some : {A : Type 0} (Q : A → Type 0) (o : Option A) (x : A) → o ≡ Some x → IfSome o Q → Q x
if_some Q None x e h = cc
if_some Q (Some y) x e h = let same : y ≡ x = cc in subst Q same h
