-- What the tables of the rule of 16 words say.
use Rattle.std.specs.Prelude.{◌≡◌, ℕ, ◌||◌, Bool, false, List, [], Option, None, drop, length, slice_get, unwrap_or}
use Rattle.std.specs.List.{list_any}
use Rattle.smlc_base.specs.SiteWords.{find_site}
use Rattle.smlc_base.specs.declared.point.PointKind.TheVariants as kind
use Rattle.smlc_base.specs.declared.point.Site.{Site}
use Rattle.sml_tree.specs.Points.{point}
use Rattle.sml_tree.specs.Sets.{has}
use Rattle.lambda_ir.specs.declared.term.Term.{Term}
use Rattle.convert_laws.specs.Decide.{Decided, waiting, own_by_16}
use Rattle.convert_laws.specs.Needs.{needs, takes_apart}

abbrev pub item_in : {X : Type 0} → X → List X → ℕ → X
item_in none row i = unwrap_or (slice_get row i) none

-- the tuples that the terms from i on take apart
pub record AreTaken (terms : List Term) (i : ℕ) (taken : List Bool) : Type 0 where
  pub many : length taken ≡ length terms
  pub at : (j : ℕ) → item_in false taken j ≡ list_any (takes_apart terms j) (drop i terms)

-- the sites of the frames of nodes
abbrev pub AreRets : List Site → List (Option Site) → Type 0
AreRets sites rets = (j : ℕ) → item_in None rets j ≡ find_site sites (point j kind.Ret)

abbrev pub nothing_decided : Decided
nothing_decided = record { own = []; pending = [] }

-- what has been decided, and what waits
pub record IsDecided (terms : List Term) (d : Decided) (own : List Bool) (pending : List (Option ℕ)) : Type 0 where
  pub own_at : (j : ℕ) → item_in false own j ≡ (needs terms j || has d.own j)
  pub pending_at : (j : ℕ) → item_in None pending j ≡ waiting d.pending j

-- the decision of each node
abbrev pub IsOwn : List Term → List Site → List Bool → Type 0
IsOwn terms sites own = (j : ℕ) → item_in false own j ≡ own_by_16 terms sites j
