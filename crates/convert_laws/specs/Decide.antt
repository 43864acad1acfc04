-- The rule of 16: which frames have a function of their own, decided from the inside out, that is by the sites in descending order. What a frame does is
-- written into the functions inside it only where the source words of each are then at most 16.
use Rattle.std.specs.Prelude.{ℕ, ◌+◌, Bool, true, false, not, cond, ◌&&◌, ◌||◌, nat_eq, nat_lt, List, [], ◌∷◌, Option, Some, None}
use Rattle.smlc_base.specs.declared.point.Point.{Point}
use Rattle.smlc_base.specs.declared.point.PointKind.{PointKind}
use Rattle.smlc_base.specs.declared.point.PointKind.TheVariants as kind
use Rattle.smlc_base.specs.declared.point.Site.{Site}
use Rattle.smlc_base.specs.SiteWords.{find_site}
use Rattle.sml_tree.specs.Sets.{has}
use Rattle.lambda_ir.specs.declared.term.Term.{Term}
use Rattle.convert_laws.specs.declared.reach.Reach.{Reach}
use Rattle.convert_laws.specs.Needs.{is_atom, is_taken_apart, needs}

-- what waits for a frame, since the frames inside it have been decided: its node, and the most words from an own frame inside up to it
pub record Pending : Type 0 where
  pub node : ℕ
  pub words : ℕ

-- the nodes whose frames have functions of their own, and what waits for others
pub record Decided : Type 0 where
  pub own : List ℕ
  pub pending : List Pending

abbrev pub greater : ℕ → ℕ → ℕ
greater m n = cond (nat_lt m n) n m

abbrev pub most : Option ℕ → ℕ → ℕ
most None n = n
most (Some m) n = greater m n

-- the most words that wait for a frame
abbrev pub waiting : List Pending → ℕ → Option ℕ
waiting [] j = None
waiting (w ∷ ws) j = cond (nat_eq w.node j) (Some (most (waiting ws j) w.words)) (waiting ws j)

-- a function inside it would be too long with it
abbrev pub too_long : Option ℕ → ℕ → Bool
too_long None words = false
too_long (Some m) words = nat_lt 16 (m + words)

-- what then waits for the frame around it: where no function is inside and it has none itself, nothing
abbrev pub handed : Bool → Option ℕ → ℕ → Option ℕ
handed true m words = Some words
handed false None words = None
handed false (Some m) words = Some (m + words)

abbrev pub hand_on : Option ℕ → Option Point → List Pending → List Pending
hand_on (Some words) (Some o) pending = record { node = o.node; words = words } ∷ pending
hand_on words o pending = pending

abbrev pub is_ret : PointKind → Bool
is_ret kind.Ret = true
is_ret _ = false

abbrev pub is_caught : PointKind → Bool
is_caught kind.Caught = true
is_caught _ = false

abbrev pub through : ℕ → Option Site → Reach
through words None = record { words = words; outer = None }
through words (Some s) = record { words = words + s.words; outer = s.outer }

abbrev pub decide_frame : Bool → ℕ → Reach → Option ℕ → Decided → Decided
decide_frame own j r m d = record {
  own = cond own (j ∷ d.own) d.own;
  pending = hand_on (handed own m r.words) r.outer d.pending;
}

module _ (terms : List Term) (sites : List Site) where
  -- the frame that awaits a tuple which a primitive takes apart
  abbrev pub passes_on : Point → Bool
  passes_on p = is_ret p.kind && is_taken_apart terms p.node

  abbrev pub reach_from : ℕ → Option Point → Reach
  reach_from words None = record { words = words; outer = None }
  reach_from words (Some o) = cond (passes_on o) (through words (find_site sites o)) (record { words = words; outer = Some o })

  -- the words of a frame with those of such a frame around it, which is never decided itself
  abbrev pub reach : Site → Reach
  reach s = reach_from s.words s.outer

  abbrev pub has_own : Site → Option ℕ → Bool
  has_own s m = not (is_atom terms s.point.node) && (needs terms s.point.node || too_long m (reach s).words)

  abbrev pub decide_site : Site → Decided → Decided
  decide_site s d =
      cond (is_caught s.point.kind) (decide_frame true s.point.node (reach s) None d)
      (cond (is_ret s.point.kind && not (passes_on s.point)) (decide_frame (has_own s (waiting d.pending s.point.node)) s.point.node (reach s) (waiting d.pending s.point.node) d) d)

  abbrev pub decide_all : List Site → Decided
  decide_all [] = record { own = []; pending = [] }
  decide_all (s ∷ later) = decide_site s (decide_all later)

  -- the nodes whose values come to functions of their own
  abbrev pub own_by_16 : ℕ → Bool
  own_by_16 j = needs terms j || has (decide_all sites).own j
