-- When two points are one.
use Rattle.std.specs.Prelude.{Bool, true, false, ◌&&◌, ◌||◌, ◌==◌, List, [], ◌∷◌}
use Rattle.smlc_base.specs.declared.point.Point.{Point}
use Rattle.smlc_base.specs.declared.point.PointKind.{PointKind}
use Rattle.smlc_base.specs.declared.point.PointKind.TheVariants.{Fn, Ret, Caught, Popped, Eq}

abbrev pub is_same_kind : PointKind → PointKind → Bool
is_same_kind Fn Fn = true
is_same_kind Ret Ret = true
is_same_kind Caught Caught = true
is_same_kind Popped Popped = true
is_same_kind Eq Eq = true
is_same_kind _ _ = false

abbrev pub is_point : Point → Point → Bool
is_point p q = (p.node == q.node) && is_same_kind p.kind q.kind

-- whether the point is one of these
abbrev pub is_label : List Point → Point → Bool
is_label [] p = false
is_label (q ∷ qs) p = is_point q p || is_label qs p
