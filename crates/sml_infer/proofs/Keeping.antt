-- What the steps of a turn keep.
use Rattle.std.proofs.Common.{◌≡◌, ℕ, Option, List, length, refl, ◌∙◌}
use Rattle.sml_tree.specs.declared.bare.Bare.{Bare}
use Rattle.sml_tree.specs.declared.bare.Node.{Node}
use Rattle.sml_unify.specs.Steps.{IsLonger}
use Rattle.infer_state.specs.declared.unknowns.Unknowns.{Unknowns}
use Rattle.infer_state.specs.declared.settled.Settled.{Settled}
use Rattle.infer_state.specs.declared.declared.Declared.{Declared}
use Rattle.infer_scopes.specs.Scopes.{Stored, contexts_of, HasEntered, HasEnteredBody}
use Rattle.infer_closing.specs.Closing.{AddsTypes}
use Rattle.sml_infer.specs.Going.{Now, IsSound, Keeps}
use Rattle.sml_infer.proofs.Naming.{longer_same, longer_then}
use Rattle.sml_infer.proofs.Turns.{with_unknowns, with_scopes, with_settled}
use Rattle.sml_infer.proofs.Going.{with_behind}

pub keeps_same : (a : Now) → Keeps a a
keeps_same a = record { longer = longer_same a.unknowns.types; contexts = λ i c e. e; settled = refl; behind = refl }

pub keeps_then : (a b c : Now) → Keeps a b → Keeps b c → Keeps a c
keeps_then a b c h k =
    record {
      longer = longer_then a.unknowns.types b.unknowns.types c.unknowns.types h.longer k.longer;
      contexts = λ i x e. k.contexts i x (h.contexts i x e);
      settled = k.settled ∙ h.settled;
      behind = k.behind ∙ h.behind;
    }

-- a node's parts get their contexts
pub keeps_entered : (nodes : List Node) (a : Now) (s : Stored) (node : ℕ) → HasEntered nodes node (contexts_of a.scopes) (contexts_of s) → Keeps a (with_scopes a s)
keeps_entered nodes a s node entered = record { longer = longer_same a.unknowns.types; contexts = entered.entered.kept; settled = refl; behind = refl }

-- the names of matches are settled
pub keeps_matched : (a : Now) (settled : List (Option Settled)) → length settled ≡ length a.settled → Keeps a (with_settled a settled a.unknowns)
keeps_matched a settled count = record { longer = longer_same a.unknowns.types; contexts = λ i c e. e; settled = count; behind = refl }

-- a declaration is closed, and what stands behind it gets its context
pub keeps_closed : (p : Bare) (d : Declared) (a : Now) (settled : List (Option Settled)) (u : Unknowns) (s : Stored) (i : ℕ) → IsSound p d a → AddsTypes a.unknowns u → length settled ≡ length a.settled → HasEnteredBody p.nodes i (contexts_of a.scopes) (contexts_of s) → Keeps a (with_scopes (with_settled a settled u) s)
keeps_closed p d a settled u s i sound adds count entered =
    record { longer = (adds d.tables.names sound.state).longer; contexts = entered.entered.kept; settled = count; behind = refl }

-- a rule is asked
pub keeps_asked : (a : Now) (u : Unknowns) → IsLonger a.unknowns.types u.types → Keeps a (with_unknowns a u)
keeps_asked a u longer = record { longer = longer; contexts = λ i c e. e; settled = refl; behind = refl }

-- a `let` is noted
pub keeps_noted : (a : Now) (behind : List (Option ℕ)) → length behind ≡ length a.behind → Keeps a (with_behind a behind)
keeps_noted a behind count = record { longer = longer_same a.unknowns.types; contexts = λ i c e. e; settled = refl; behind = count }
