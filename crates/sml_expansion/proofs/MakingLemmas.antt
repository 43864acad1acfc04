-- Steps one behind the other.
use Rattle.std.proofs.Common.{ap, ◌∙◌}
use Rattle.sml_expansion.specs.declared.made.Made.{Made}
use Rattle.sml_expansion.specs.Makings.{Makes, Runs, ◌>>=◌, ◌>>◌}

pub runs_bind : {A B : Type 0} (f : Makes A) (g : A → Makes B) (k m n : Made) (a : A) (b : B) → Runs f k a m → Runs (g a) m b n → Runs (◌>>=◌ f g) k b n
runs_bind f g k m n a b h w = ap (λ r. g r.0 r.1) h ∙ w

pub runs_then : {A B : Type 0} (f : Makes A) (g : Makes B) (k m n : Made) (a : A) (b : B) → Runs f k a m → Runs g m b n → Runs (◌>>◌ f g) k b n
runs_then f g k m n a b h w = ap (λ r. g r.1) h ∙ w
