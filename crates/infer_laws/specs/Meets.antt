-- The law that a typing meets the rules.
use Rattle.std.specs.Prelude.{◌≡◌, ℕ, ◌<◌, Option, Some, List, slice_get}
use Rattle.sml_tree.specs.declared.bare.Bare.{Bare}
use Rattle.sml_tree.specs.declared.bare.Node.{Node}
use Rattle.sml_types.specs.declared.types.TyForm.{TyForm}
use Rattle.sml_types.specs.declared.tables.TypeName.{TypeName}
use Rattle.sml_types.specs.Poly.{Poly}
use Rattle.sml_types.specs.Library.{name_types}
use Rattle.sml_types.specs.Typing.{Typing, IsTypingBelow}
use Rattle.sml_unify.specs.Solved.{Substitution}
use Rattle.infer_state.specs.Rules.{IsRule}
use Rattle.infer_state.specs.Fits.{Fits, AllSuit}
use Rattle.infer_state.specs.Typings.{IsReady}
use Rattle.infer_laws.specs.Cited.{IsPlaced, LeavesWritten}
use Rattle.infer_laws.specs.Schemes.{KeepsMarks, EachSettled}

-- a substitution has the types of a typing, whose tables are the same, and the settled schemes suit it
pub record Follows (p : Bare) (forms : List TyForm) (names : List TypeName) (settled : ℕ → Option Poly) (f : Substitution) (t : Typing) : Type 0 where
  pub rows : name_types t.forms t.names ≡ name_types forms names
  pub fits : Fits p t f
  pub suit : AllSuit settled f t
  pub marks : EachSettled (λ s. KeepsMarks names f s.body) settled

-- a substitution that follows a typing meets the rule of each node that is ready
abbrev pub TypingsMeet : Bare → List TyForm → List TypeName → (ℕ → Option Poly) → Substitution → Typing → Type 0
TypingsMeet p forms names settled f t = (count i : ℕ) (n : Node) → IsTypingBelow p t count → i < count → slice_get p.nodes i ≡ Some n → IsPlaced p n → IsReady settled (t.contexts i) n → LeavesWritten p names t.abbreviations f n → IsRule p (name_types forms names) names t.abbreviations settled f i n
