-- What the theory of passes asks of its first program: each point stands once, and the records of a run are in order.
use Rattle.std.proofs.Common.{◌≡◌, ◌≢◌, ℕ, suc, ◌<◌, ◌≤◌, Bool, true, false, cond, List, [], ◌∷◌, refl, ap, ◌∙◌, arith}
use Rattle.smlc_base.specs.declared.point.Point.{Point}
use Rattle.smlc_base.specs.Points.{is_point}
use Rattle.sml_tree.specs.Order.{AscendFrom, rank}
use Rattle.simulation.specs.Blocks.{ClassRecord, SpillRecord}
use Rattle.simulation.specs.Runs.{times}
use Rattle.simulation.proofs.Nth.{point_eq}
use Rattle.simulation.proofs.Stores.{plain_run}
use Rattle.sml_def.specs.State.{Block, Tuple, Applied, Text, Cell, ExnName, Packet, Closure, Frame, Pending}
use Rattle.sml_def.specs.Run.{kind_of, points, source, start}
use Rattle.sml_def.specs.Laws.{PointsStandOnce, SourceIsTidy}
use Rattle.sml_def.proofs.Ascends.{points_ascend}
use Rattle.sml_def.proofs.OneSite.{not_point}

-- a point before all that follow isn't among them
none_behind : (q : Point) (n : ℕ) (ps : List Point) → AscendFrom n ps → rank q < n → times q ps ≡ 0
none_behind q n [] h lt = refl
none_behind q n (r ∷ ps) h lt =
    let low : n ≤ rank r = h.0 in
    let other : is_point r q ≡ false = not_point r q (λ e. let same : rank r ≡ rank q = ap rank e in omega arith) in
    ap (λ b. cond b (suc (times q ps)) (times q ps)) other ∙ none_behind q (suc (rank r)) ps h.1 (omega arith)

once : (q : Point) (n : ℕ) (ps : List Point) → AscendFrom n ps → times q ps ≤ 1
once q n [] h = omega arith
once q n (r ∷ ps) h = go (is_point r q) refl (once q (suc (rank r)) ps h.1)
  where
    go : (b : Bool) → is_point r q ≡ b → times q ps ≤ 1 → cond b (suc (times q ps)) (times q ps) ≤ 1
    go true e le =
        let same : rank r ≡ rank q = ap rank (point_eq r q e) in
        let none : times q ps ≡ 0 = none_behind q (suc (rank r)) ps h.1 (omega arith) in
        omega arith
    go false e le = le

pub points_stand_once : PointsStandOnce
points_stand_once p bare q = once q 0 (points p) (points_ascend p bare)

no_record : (b : Block) → (kind_of b ≢ ClassRecord) × (kind_of b ≢ SpillRecord)
no_record (Closure i rules env) = (λ e. cc, λ e. cc)
no_record (Frame w next) = (λ e. cc, λ e. cc)
no_record (Tuple vs) = (λ e. cc, λ e. cc)
no_record (Applied n v) = (λ e. cc, λ e. cc)
no_record (Text bytes) = (λ e. cc, λ e. cc)
no_record (Cell v) = (λ e. cc, λ e. cc)
no_record (ExnName x) = (λ e. cc, λ e. cc)
no_record (Packet x v) = (λ e. cc, λ e. cc)
no_record (Pending v w next) = (λ e. cc, λ e. cc)

pub source_is_tidy : SourceIsTidy
source_is_tidy full p input = plain_run full (source p) (points p) (start input) no_record
