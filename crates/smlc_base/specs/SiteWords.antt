-- The words of a point, where some labels are left: those of its site and of the frames around it that no label of their own pays for.
use Rattle.std.specs.Prelude.{ℕ, zero, suc, ◌+◌, Bool, false, ◌||◌, cond, List, [], ◌∷◌, Option, Some, None, length}
use Rattle.smlc_base.specs.declared.point.Point.{Point}
use Rattle.smlc_base.specs.declared.point.Site.{Site}
use Rattle.smlc_base.specs.declared.point.PointKind.{PointKind}
use Rattle.smlc_base.specs.declared.point.PointKind.TheVariants as kind
use Rattle.smlc_base.specs.Points.{is_point, is_label}

-- the site of a point
abbrev pub find_site : List Site → Point → Option Site
find_site [] p = None
find_site (s ∷ ss) p = cond (is_point s.point p) (Some s) (find_site ss p)

-- The label of a frame is left. The frame of a `handle`, named by its Caught, has two, and one of them is enough.
abbrev pub handle_left : List Point → ℕ → PointKind → Bool
handle_left labels i kind.Caught = is_label labels (record { node = i; kind = kind.Popped })
handle_left labels i k = false

abbrev pub is_left : List Point → Point → Bool
is_left labels p = is_label labels p || handle_left labels p.node p.kind

-- a site's words, and those of the frames around it in the same function body, up to the first whose label is left; n frames at most
abbrev pub outward : (Option Point → ℕ) → Option Site → ℕ
outward further None = 0
outward further (Some s) = s.words + further s.outer

abbrev pub around : ℕ → List Point → List Site → Option Point → ℕ
around zero labels ss p = 0
around (suc n) labels ss None = 0
around (suc n) labels ss (Some p) = cond (is_left labels p) 0 (outward (around n labels ss) (find_site ss p))

-- The site words of a point where these labels are left. A closure and the comparison have nothing around them.
abbrev pub site_words : List Point → List Site → Point → ℕ
site_words labels ss p = outward (around (length ss) labels ss) (find_site ss p)
