-- The points of a program: where a closure is entered, a value comes back to a frame, and a packet is caught.
use Rattle.std.specs.Prelude.{ℕ, suc, ◌+◌, List, [], ◌∷◌, ◌++◌, Option, Some, None, length, map, flat_map}
use Rattle.smlc_base.specs.declared.point.Point.{Point}
use Rattle.smlc_base.specs.declared.point.PointKind.{PointKind}
use Rattle.smlc_base.specs.declared.point.PointKind.TheVariants as kind
use Rattle.sml_tree.specs.declared.bare.Node.{Node}
use Rattle.sml_tree.specs.declared.bare.Node.TheVariants as node
use Rattle.sml_tree.specs.declared.bare.Field.{Field}
use Rattle.sml_tree.specs.declared.bare.Rule.{Rule}
use Rattle.sml_tree.specs.declared.bare.Binding.{Binding}
use Rattle.sml_tree.specs.declared.bare.RecBinding.{RecBinding}
use Rattle.sml_tree.specs.declared.points.Spot.{Spot}
use Rattle.sml_tree.specs.declared.points.Context.{Context}
use Rattle.sml_tree.specs.declared.points.Context.TheVariants.{Awaited, Plain, Before}
use Rattle.sml_tree.specs.declared.points.Part.{Part}
use Rattle.sml_tree.specs.BareParts.{from_parts}
use Rattle.sml_tree.specs.Free.{binds, free, free_match, free_fields, free_rest}

abbrev pub point : ℕ → PointKind → Point
point i k = record { node = i; kind = k }

abbrev pub spot : ℕ → PointKind → ℕ → Option Point → Spot
spot i k held outer = record { point = point i k; held = held; outer = outer }

abbrev pub part : ℕ → Context → Part
part i c = record { node = i; context = c }

-- the frame that awaits a node, as the point of its Ret
abbrev pub awaited_spots : ℕ → Context → List Spot
awaited_spots i (Awaited held outer) = spot i kind.Ret held outer ∷ []
awaited_spots i _ = []

-- the nearest frame around the parts of node i
abbrev pub inside : ℕ → Context → Option Point
inside i (Awaited held outer) = Some (point i kind.Ret)
inside i (Plain outer) = outer
inside i (Before body outer) = outer

-- ---- What frames hold: a table of what awaits each part of a node

-- field n of a record and those behind it: the values of earlier fields, and the free variables of later ones
abbrev pub field_parts : (ℕ → List ℕ) → ℕ → List Field → Option Point → List Part
field_parts free n [] outer = []
field_parts free n (f ∷ fields) outer =
    part f.node (Awaited (n + length (free_fields free fields)) outer) ∷ field_parts free (suc n) fields outer

abbrev pub rule_parts : List Rule → Option Point → List Part
rule_parts rules outer = map (λ r. part r.body (Plain outer)) rules

abbrev pub function_parts : List RecBinding → List Part
function_parts bindings = map (λ b. part b.right (Plain None)) bindings

module _ (binds : ℕ → List ℕ) (free : ℕ → List ℕ) where
  -- the points of a node itself
  abbrev pub own_spots : ℕ → Node → Context → List Spot
  own_spots i (node.Fn rules) c = spot i kind.Fn (length (free_match binds free rules)) None ∷ awaited_spots i c
  own_spots i (node.Handle e rules) c =
      awaited_spots i c
      ++ spot i kind.Caught (length (free_match binds free rules)) (inside i c)
      ∷ spot i kind.Popped (length (free_match binds free rules)) (inside i c)
      ∷ []
  own_spots i _ c = awaited_spots i c

  -- right sides of a value declaration before its body
  abbrev pub right_parts : List Binding → ℕ → Option Point → List Part
  right_parts [] body outer = []
  right_parts (b ∷ later) body outer =
      part b.right (Awaited (length (free_rest binds free b later body)) outer) ∷ right_parts later body outer

  abbrev pub parts_in : ℕ → Node → Context → List Part
  parts_in i (node.Record fields) c = field_parts free 0 fields (inside i c)
  parts_in i (node.App f a) c = part f (Awaited (length (free a)) (inside i c)) ∷ part a (Awaited 1 (inside i c)) ∷ []
  parts_in i (node.Case e rules) c =
      part e (Awaited (length (free_match binds free rules)) (inside i c)) ∷ rule_parts rules (inside i c)
  parts_in i (node.Fn rules) c = rule_parts rules None
  parts_in i (node.Raise e) c = part e (Awaited 0 (inside i c)) ∷ []
  parts_in i (node.Handle e rules) c = part e (Plain (Some (point i kind.Caught))) ∷ rule_parts rules (inside i c)
  parts_in i (node.Typed e ty) c = part e (Plain (inside i c)) ∷ []
  parts_in i (node.Let d e) c = part d (Before e (inside i c)) ∷ part e (Plain (inside i c)) ∷ []
  parts_in i (node.Val tyvars bindings) (Before body outer) = right_parts bindings body outer
  parts_in i (node.ValRec tyvars bindings) c = function_parts bindings
  parts_in i _ c = []

  -- the points of a node and of its parts
  abbrev pub spots_of : (ℕ → Context → List Spot) → ℕ → Node → Context → List Spot
  spots_of spots i n c = own_spots i n c ++ flat_map (λ q. spots q.node q.context) (parts_in i n c)

abbrev pub spots_at : List Node → ℕ → Context → List Spot
spots_at nodes = from_parts (λ c. []) (spots_of (binds nodes) (free nodes)) nodes

-- the points of a program but that of the comparison, in ascending order
abbrev pub spots : List Node → List Spot
spots nodes = spots_at nodes 0 (Plain None)
