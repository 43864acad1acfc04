-- The machine on its way: the configurations that it comes to, and what it has read.
use Rattle.std.specs.Prelude.{◌≡◌, ℕ, ◌++◌, Bool, true, false, List, [], ◌∷◌}
use Rattle.sml_syntax.specs.declared.forms.Terminal.{Terminal}
use Rattle.sml_syntax.specs.declared.forms.Made.{Made}
use Rattle.sml_syntax.specs.declared.symbol.Symbol.{Symbol}
use Rattle.sml_syntax.specs.declared.symbol.Symbol.TheVariants as sy
use Rattle.sml_syntax.specs.declared.symbol.Push.{Push}
use Rattle.sml_syntax.specs.declared.symbol.Move.TheVariants.{Skip, Eat}
use Rattle.sml_syntax.specs.Fixity.{Fix}
use Rattle.sml_syntax.specs.Machine.{Accepts, after, has_infix, moves, pushed, start}
use Rattle.syntax_laws.specs.Traits.{needs, nothing, reached, stands, traits}

-- a stack, the first symbol on top, and the directives in force
pub record Config : Type 0 where
  pub stack : List Symbol
  pub fix : Fix

abbrev pub at : List Symbol → Fix → Config
at k f = record { stack = k; fix = f }

-- the configuration is of the kind that the machine comes to
abbrev pub Good : Config → Type 0
Good c = (stands c.stack nothing false ≡ true) × (needs c.stack ≡ true → has_infix c.fix ≡ true)

-- how far a stack can go without a terminal
abbrev pub lead : List Symbol → ℕ
lead [] = 0
lead (s ∷ k) = reached (traits s).reach (lead k)

-- The machine, started under f, has read the first terminals, and come to a stack under a fixity. What is left to read follows, and the nodes that it has made.
pub data Comes (v : Bool) (f : Fix) : List Terminal → List Symbol → Fix → List Terminal → List Made → Type 0 where
  begins : {a : List Terminal} → Comes v f [] start f a []
  emits : {m : Made} {r a : List Terminal} {k : List Symbol} {g : Fix} {o : List Made} → Comes v f r (sy.Emit m ∷ k) g a o → Comes v f r k g a (o ++ m ∷ [])
  skips : {s : Symbol} {p : Push} {r a : List Terminal} {k : List Symbol} {g : Fix} {t : Terminal} {o : List Made} → moves v s g t a ≡ Skip p → Comes v f r (s ∷ k) g (t ∷ a) o → Comes v f r (pushed p k) g (t ∷ a) o
  eats : {s : Symbol} {p : Push} {r a : List Terminal} {k : List Symbol} {g : Fix} {t : Terminal} {o : List Made} → moves v s g t a ≡ Eat p → Comes v f r (s ∷ k) g (t ∷ a) o → Comes v f (r ++ t ∷ []) (pushed p k) (after s t g) a o

-- some terminals behind these make a list that the machine accepts
abbrev pub Opens : Bool → Fix → List Terminal → Type 0
Opens v f r = (b : List Terminal) × (o : List Made) × Accepts v start f (r ++ b) o
