-- Points and widths of small programs, as an independent model computes them.
use Rattle.std.proofs.Common.{◌≡◌, ℕ, zero, suc, ◌<◌, Bool, true, List, [], ◌∷◌, Some, None, length, refl, subst, arith}
use Rattle.smlc_base.specs.declared.place.Place.{Place}
use Rattle.sml_tree.specs.declared.bare.Node.{Node}
use Rattle.sml_tree.specs.declared.bare.TypeExp.{TypeExp}
use Rattle.std.specs.Prelude.{map, flat_map}
use Rattle.smlc_base.specs.declared.point.PointKind.TheVariants as kind
use Rattle.sml_tree.specs.Points.{point, spot, spots}
use Rattle.sml_tree.specs.Width.{width}
use Rattle.sml_tree.specs.declared.bare.Bare.{Bare}
use Rattle.sml_tree.specs.BareParts.{IsNumbered}
use Rattle.sml_tree.specs.IsBare.{IsBare, names_at}
use Rattle.sml_tree.specs.Sets.{has}
use Rattle.sml_tree.proofs.EachNode.{numbered_by_list, preorder_by_list}
use Rattle.sml_tree.proofs.Programs.{user, hello, handled, caught, local_exception, written_order, bind_first, lists, packets, lines, ints, texts, refs, raising}

hello_spots : spots hello.nodes ≡ (spot 3 kind.Ret 0 None) ∷ (spot 4 kind.Ret 0 (Some (point 3 kind.Ret))) ∷ (spot 5 kind.Ret 1 (Some (point 3 kind.Ret))) ∷ []
hello_spots = refl

hello_width : width hello.nodes (map (λ n. user) hello.nodes) ≡ 8
hello_width = refl

handled_spots : spots handled.nodes ≡ (spot 5 kind.Ret 1 None) ∷ (spot 5 kind.Caught 1 (Some (point 5 kind.Ret))) ∷ (spot 5 kind.Popped 1 (Some (point 5 kind.Ret))) ∷ (spot 7 kind.Ret 0 (Some (point 5 kind.Caught))) ∷ (spot 8 kind.Ret 1 (Some (point 5 kind.Caught))) ∷ (spot 11 kind.Ret 0 (Some (point 5 kind.Ret))) ∷ (spot 12 kind.Ret 1 (Some (point 5 kind.Ret))) ∷ (spot 16 kind.Ret 0 None) ∷ (spot 17 kind.Ret 0 (Some (point 16 kind.Ret))) ∷ []
handled_spots = refl

handled_width : width handled.nodes (map (λ n. user) handled.nodes) ≡ 24
handled_width = refl

caught_spots : spots caught.nodes ≡ (spot 5 kind.Ret 0 None) ∷ (spot 5 kind.Caught 1 (Some (point 5 kind.Ret))) ∷ (spot 5 kind.Popped 1 (Some (point 5 kind.Ret))) ∷ (spot 7 kind.Ret 0 (Some (point 5 kind.Caught))) ∷ (spot 8 kind.Ret 0 (Some (point 7 kind.Ret))) ∷ (spot 9 kind.Ret 1 (Some (point 7 kind.Ret))) ∷ (spot 13 kind.Ret 0 (Some (point 5 kind.Ret))) ∷ (spot 14 kind.Ret 1 (Some (point 5 kind.Ret))) ∷ (spot 18 kind.Ret 1 (Some (point 5 kind.Ret))) ∷ (spot 19 kind.Ret 1 (Some (point 5 kind.Ret))) ∷ (spot 20 kind.Ret 1 (Some (point 19 kind.Ret))) ∷ (spot 21 kind.Ret 1 (Some (point 19 kind.Ret))) ∷ (spot 22 kind.Ret 1 (Some (point 21 kind.Ret))) ∷ (spot 23 kind.Ret 1 (Some (point 21 kind.Ret))) ∷ (spot 24 kind.Ret 1 (Some (point 23 kind.Ret))) ∷ (spot 25 kind.Ret 1 (Some (point 23 kind.Ret))) ∷ (spot 26 kind.Ret 0 (Some (point 25 kind.Ret))) ∷ (spot 27 kind.Ret 1 (Some (point 25 kind.Ret))) ∷ []
caught_spots = refl

caught_width : width caught.nodes (map (λ n. user) caught.nodes) ≡ 42
caught_width = refl

local_exception_spots : spots local_exception.nodes ≡ (spot 2 kind.Fn 0 None) ∷ (spot 5 kind.Ret 0 None) ∷ (spot 8 kind.Ret 0 None) ∷ (spot 16 kind.Fn 1 None) ∷ (spot 19 kind.Ret 1 None) ∷ (spot 21 kind.Caught 0 None) ∷ (spot 21 kind.Popped 0 None) ∷ (spot 23 kind.Ret 0 (Some (point 21 kind.Caught))) ∷ (spot 24 kind.Ret 1 (Some (point 21 kind.Caught))) ∷ (spot 29 kind.Ret 0 None) ∷ (spot 33 kind.Ret 0 None) ∷ (spot 33 kind.Caught 0 (Some (point 33 kind.Ret))) ∷ (spot 33 kind.Popped 0 (Some (point 33 kind.Ret))) ∷ (spot 35 kind.Ret 0 (Some (point 33 kind.Caught))) ∷ (spot 36 kind.Ret 0 (Some (point 35 kind.Ret))) ∷ (spot 37 kind.Ret 1 (Some (point 35 kind.Ret))) ∷ (spot 42 kind.Ret 0 (Some (point 33 kind.Ret))) ∷ (spot 43 kind.Ret 1 (Some (point 33 kind.Ret))) ∷ []
local_exception_spots = refl

local_exception_width : width local_exception.nodes (map (λ n. user) local_exception.nodes) ≡ 50
local_exception_width = refl

written_order_spots : spots written_order.nodes ≡ (spot 5 kind.Ret 0 None) ∷ (spot 6 kind.Ret 0 (Some (point 5 kind.Ret))) ∷ (spot 7 kind.Ret 0 (Some (point 6 kind.Ret))) ∷ (spot 8 kind.Ret 0 (Some (point 7 kind.Ret))) ∷ (spot 9 kind.Ret 1 (Some (point 7 kind.Ret))) ∷ (spot 12 kind.Ret 1 (Some (point 5 kind.Ret))) ∷ (spot 13 kind.Ret 0 (Some (point 12 kind.Ret))) ∷ (spot 14 kind.Ret 0 (Some (point 13 kind.Ret))) ∷ (spot 15 kind.Ret 1 (Some (point 13 kind.Ret))) ∷ (spot 21 kind.Ret 0 None) ∷ (spot 22 kind.Ret 1 (Some (point 21 kind.Ret))) ∷ (spot 23 kind.Ret 1 (Some (point 21 kind.Ret))) ∷ (spot 24 kind.Ret 0 (Some (point 23 kind.Ret))) ∷ (spot 25 kind.Ret 1 (Some (point 24 kind.Ret))) ∷ (spot 26 kind.Ret 1 (Some (point 24 kind.Ret))) ∷ (spot 27 kind.Ret 0 (Some (point 26 kind.Ret))) ∷ (spot 28 kind.Ret 1 (Some (point 26 kind.Ret))) ∷ (spot 36 kind.Ret 0 None) ∷ (spot 37 kind.Ret 0 (Some (point 36 kind.Ret))) ∷ (spot 38 kind.Ret 0 (Some (point 37 kind.Ret))) ∷ (spot 39 kind.Ret 1 (Some (point 37 kind.Ret))) ∷ (spot 44 kind.Ret 1 (Some (point 36 kind.Ret))) ∷ (spot 45 kind.Ret 1 (Some (point 36 kind.Ret))) ∷ (spot 46 kind.Ret 1 (Some (point 45 kind.Ret))) ∷ (spot 47 kind.Ret 1 (Some (point 45 kind.Ret))) ∷ (spot 48 kind.Ret 1 (Some (point 47 kind.Ret))) ∷ (spot 49 kind.Ret 1 (Some (point 47 kind.Ret))) ∷ (spot 50 kind.Ret 1 (Some (point 49 kind.Ret))) ∷ (spot 51 kind.Ret 1 (Some (point 49 kind.Ret))) ∷ (spot 52 kind.Ret 0 (Some (point 51 kind.Ret))) ∷ (spot 53 kind.Ret 1 (Some (point 51 kind.Ret))) ∷ []
written_order_spots = refl

written_order_width : width written_order.nodes (map (λ n. user) written_order.nodes) ≡ 73
written_order_width = refl

bind_first_spots : spots bind_first.nodes ≡ (spot 3 kind.Ret 0 None) ∷ (spot 5 kind.Ret 0 None) ∷ (spot 6 kind.Ret 0 (Some (point 5 kind.Ret))) ∷ (spot 7 kind.Ret 1 (Some (point 5 kind.Ret))) ∷ []
bind_first_spots = refl

bind_first_width : width bind_first.nodes (map (λ n. user) bind_first.nodes) ≡ 10
bind_first_width = refl

lists_spots : spots lists.nodes ≡ (spot 3 kind.Ret 0 None) ∷ (spot 4 kind.Ret 0 (Some (point 3 kind.Ret))) ∷ (spot 5 kind.Ret 1 (Some (point 3 kind.Ret))) ∷ (spot 6 kind.Ret 0 (Some (point 5 kind.Ret))) ∷ (spot 7 kind.Ret 0 (Some (point 6 kind.Ret))) ∷ (spot 8 kind.Ret 1 (Some (point 6 kind.Ret))) ∷ (spot 9 kind.Ret 0 (Some (point 8 kind.Ret))) ∷ (spot 10 kind.Ret 0 (Some (point 9 kind.Ret))) ∷ (spot 11 kind.Ret 1 (Some (point 9 kind.Ret))) ∷ (spot 12 kind.Ret 0 (Some (point 11 kind.Ret))) ∷ (spot 13 kind.Ret 1 (Some (point 11 kind.Ret))) ∷ (spot 14 kind.Ret 0 (Some (point 13 kind.Ret))) ∷ (spot 15 kind.Ret 1 (Some (point 13 kind.Ret))) ∷ (spot 16 kind.Ret 0 (Some (point 15 kind.Ret))) ∷ (spot 17 kind.Ret 1 (Some (point 15 kind.Ret))) ∷ (spot 18 kind.Ret 0 (Some (point 17 kind.Ret))) ∷ (spot 19 kind.Ret 1 (Some (point 17 kind.Ret))) ∷ (spot 20 kind.Ret 0 (Some (point 19 kind.Ret))) ∷ (spot 21 kind.Ret 1 (Some (point 19 kind.Ret))) ∷ (spot 22 kind.Ret 1 (Some (point 8 kind.Ret))) ∷ (spot 23 kind.Ret 0 (Some (point 22 kind.Ret))) ∷ (spot 24 kind.Ret 1 (Some (point 22 kind.Ret))) ∷ (spot 25 kind.Ret 0 (Some (point 24 kind.Ret))) ∷ (spot 26 kind.Ret 1 (Some (point 24 kind.Ret))) ∷ (spot 27 kind.Ret 0 (Some (point 26 kind.Ret))) ∷ (spot 28 kind.Ret 1 (Some (point 26 kind.Ret))) ∷ (spot 29 kind.Ret 0 (Some (point 28 kind.Ret))) ∷ (spot 30 kind.Ret 1 (Some (point 28 kind.Ret))) ∷ (spot 31 kind.Ret 0 (Some (point 30 kind.Ret))) ∷ (spot 32 kind.Ret 1 (Some (point 30 kind.Ret))) ∷ (spot 33 kind.Ret 0 (Some (point 32 kind.Ret))) ∷ (spot 34 kind.Ret 1 (Some (point 32 kind.Ret))) ∷ (spot 42 kind.Ret 0 None) ∷ (spot 43 kind.Ret 0 (Some (point 42 kind.Ret))) ∷ (spot 44 kind.Ret 1 (Some (point 42 kind.Ret))) ∷ (spot 45 kind.Ret 0 (Some (point 44 kind.Ret))) ∷ (spot 46 kind.Ret 0 (Some (point 45 kind.Ret))) ∷ (spot 47 kind.Ret 1 (Some (point 45 kind.Ret))) ∷ (spot 48 kind.Ret 0 (Some (point 47 kind.Ret))) ∷ (spot 49 kind.Ret 0 (Some (point 48 kind.Ret))) ∷ (spot 50 kind.Ret 1 (Some (point 48 kind.Ret))) ∷ (spot 51 kind.Ret 1 (Some (point 47 kind.Ret))) ∷ (spot 52 kind.Ret 0 (Some (point 51 kind.Ret))) ∷ (spot 53 kind.Ret 1 (Some (point 51 kind.Ret))) ∷ (spot 61 kind.Ret 0 None) ∷ (spot 62 kind.Ret 0 (Some (point 61 kind.Ret))) ∷ (spot 63 kind.Ret 1 (Some (point 61 kind.Ret))) ∷ (spot 64 kind.Ret 0 (Some (point 63 kind.Ret))) ∷ (spot 65 kind.Ret 0 (Some (point 64 kind.Ret))) ∷ (spot 66 kind.Ret 1 (Some (point 64 kind.Ret))) ∷ (spot 67 kind.Ret 0 (Some (point 66 kind.Ret))) ∷ (spot 68 kind.Ret 0 (Some (point 67 kind.Ret))) ∷ (spot 69 kind.Ret 1 (Some (point 67 kind.Ret))) ∷ (spot 70 kind.Ret 1 (Some (point 66 kind.Ret))) ∷ (spot 71 kind.Ret 0 (Some (point 70 kind.Ret))) ∷ (spot 72 kind.Ret 1 (Some (point 70 kind.Ret))) ∷ []
lists_spots = refl

lists_width : width lists.nodes (map (λ n. user) lists.nodes) ≡ 103
lists_width = refl

packets_spots : spots packets.nodes ≡ (spot 4 kind.Fn 0 None) ∷ (spot 7 kind.Ret 0 None) ∷ (spot 11 kind.Fn 2 None) ∷ (spot 14 kind.Ret 2 None) ∷ (spot 22 kind.Ret 4 None) ∷ (spot 23 kind.Ret 1 None) ∷ (spot 24 kind.Ret 2 (Some (point 23 kind.Ret))) ∷ (spot 25 kind.Ret 1 (Some (point 24 kind.Ret))) ∷ (spot 26 kind.Ret 1 (Some (point 24 kind.Ret))) ∷ (spot 27 kind.Ret 1 (Some (point 23 kind.Ret))) ∷ (spot 28 kind.Ret 1 (Some (point 27 kind.Ret))) ∷ (spot 29 kind.Ret 1 (Some (point 27 kind.Ret))) ∷ (spot 34 kind.Ret 1 None) ∷ (spot 35 kind.Ret 0 (Some (point 34 kind.Ret))) ∷ (spot 36 kind.Ret 1 (Some (point 35 kind.Ret))) ∷ (spot 37 kind.Fn 1 None) ∷ (spot 37 kind.Ret 1 (Some (point 35 kind.Ret))) ∷ (spot 40 kind.Ret 1 None) ∷ (spot 41 kind.Ret 1 None) ∷ (spot 42 kind.Ret 1 (Some (point 34 kind.Ret))) ∷ (spot 43 kind.Ret 0 (Some (point 42 kind.Ret))) ∷ (spot 44 kind.Ret 1 (Some (point 42 kind.Ret))) ∷ (spot 45 kind.Ret 0 (Some (point 44 kind.Ret))) ∷ (spot 46 kind.Ret 1 (Some (point 44 kind.Ret))) ∷ (spot 50 kind.Ret 0 None) ∷ (spot 51 kind.Ret 1 (Some (point 50 kind.Ret))) ∷ (spot 58 kind.Ret 1 (Some (point 50 kind.Ret))) ∷ (spot 59 kind.Ret 1 (Some (point 50 kind.Ret))) ∷ (spot 60 kind.Ret 1 (Some (point 59 kind.Ret))) ∷ (spot 61 kind.Ret 1 (Some (point 59 kind.Ret))) ∷ (spot 62 kind.Ret 1 (Some (point 61 kind.Ret))) ∷ (spot 63 kind.Ret 1 (Some (point 61 kind.Ret))) ∷ (spot 64 kind.Ret 1 (Some (point 63 kind.Ret))) ∷ (spot 65 kind.Ret 1 (Some (point 63 kind.Ret))) ∷ (spot 66 kind.Ret 0 (Some (point 65 kind.Ret))) ∷ (spot 67 kind.Ret 1 (Some (point 65 kind.Ret))) ∷ (spot 70 kind.Ret 0 (Some (point 50 kind.Ret))) ∷ (spot 71 kind.Ret 1 (Some (point 50 kind.Ret))) ∷ []
packets_spots = refl

packets_width : width packets.nodes (map (λ n. user) packets.nodes) ≡ 109
packets_width = refl

lines_spots : spots lines.nodes ≡ (spot 2 kind.Fn 1 None) ∷ (spot 5 kind.Ret 1 None) ∷ (spot 8 kind.Ret 1 None) ∷ (spot 9 kind.Ret 0 (Some (point 8 kind.Ret))) ∷ (spot 10 kind.Ret 1 (Some (point 8 kind.Ret))) ∷ (spot 13 kind.Ret 0 None) ∷ (spot 14 kind.Ret 1 None) ∷ (spot 18 kind.Ret 1 None) ∷ (spot 19 kind.Ret 1 (Some (point 18 kind.Ret))) ∷ (spot 20 kind.Ret 1 (Some (point 18 kind.Ret))) ∷ (spot 21 kind.Ret 1 (Some (point 20 kind.Ret))) ∷ (spot 22 kind.Ret 1 (Some (point 20 kind.Ret))) ∷ (spot 23 kind.Ret 0 (Some (point 22 kind.Ret))) ∷ (spot 24 kind.Ret 1 (Some (point 23 kind.Ret))) ∷ (spot 25 kind.Ret 1 (Some (point 23 kind.Ret))) ∷ (spot 26 kind.Ret 1 (Some (point 25 kind.Ret))) ∷ (spot 27 kind.Ret 1 (Some (point 25 kind.Ret))) ∷ (spot 28 kind.Ret 1 (Some (point 22 kind.Ret))) ∷ (spot 31 kind.Ret 0 None) ∷ (spot 32 kind.Ret 1 None) ∷ (spot 36 kind.Ret 0 None) ∷ (spot 37 kind.Ret 0 (Some (point 36 kind.Ret))) ∷ (spot 38 kind.Ret 1 (Some (point 36 kind.Ret))) ∷ []
lines_spots = refl

lines_width : width lines.nodes (map (λ n. user) lines.nodes) ≡ 57
lines_width = refl

ints_spots : spots ints.nodes ≡ (spot 3 kind.Ret 0 None) ∷ (spot 3 kind.Caught 0 (Some (point 3 kind.Ret))) ∷ (spot 3 kind.Popped 0 (Some (point 3 kind.Ret))) ∷ (spot 5 kind.Ret 0 (Some (point 3 kind.Caught))) ∷ (spot 6 kind.Ret 1 (Some (point 3 kind.Caught))) ∷ (spot 7 kind.Ret 0 (Some (point 6 kind.Ret))) ∷ (spot 8 kind.Ret 1 (Some (point 6 kind.Ret))) ∷ (spot 11 kind.Ret 0 (Some (point 3 kind.Ret))) ∷ (spot 12 kind.Ret 0 (Some (point 11 kind.Ret))) ∷ (spot 13 kind.Ret 1 (Some (point 11 kind.Ret))) ∷ (spot 19 kind.Ret 0 None) ∷ (spot 19 kind.Caught 0 (Some (point 19 kind.Ret))) ∷ (spot 19 kind.Popped 0 (Some (point 19 kind.Ret))) ∷ (spot 21 kind.Ret 0 (Some (point 19 kind.Caught))) ∷ (spot 22 kind.Ret 1 (Some (point 19 kind.Caught))) ∷ (spot 23 kind.Ret 0 (Some (point 22 kind.Ret))) ∷ (spot 24 kind.Ret 1 (Some (point 22 kind.Ret))) ∷ (spot 27 kind.Ret 0 (Some (point 19 kind.Ret))) ∷ (spot 28 kind.Ret 0 (Some (point 27 kind.Ret))) ∷ (spot 29 kind.Ret 1 (Some (point 27 kind.Ret))) ∷ (spot 35 kind.Ret 0 None) ∷ (spot 36 kind.Ret 0 (Some (point 35 kind.Ret))) ∷ (spot 37 kind.Ret 1 (Some (point 35 kind.Ret))) ∷ (spot 38 kind.Ret 0 (Some (point 37 kind.Ret))) ∷ (spot 39 kind.Ret 0 (Some (point 38 kind.Ret))) ∷ (spot 40 kind.Ret 0 (Some (point 39 kind.Ret))) ∷ (spot 41 kind.Ret 0 (Some (point 40 kind.Ret))) ∷ (spot 42 kind.Ret 1 (Some (point 40 kind.Ret))) ∷ (spot 43 kind.Ret 0 (Some (point 42 kind.Ret))) ∷ (spot 44 kind.Ret 0 (Some (point 43 kind.Ret))) ∷ (spot 45 kind.Ret 1 (Some (point 43 kind.Ret))) ∷ (spot 46 kind.Ret 0 (Some (point 45 kind.Ret))) ∷ (spot 47 kind.Ret 1 (Some (point 45 kind.Ret))) ∷ (spot 48 kind.Ret 1 (Some (point 42 kind.Ret))) ∷ (spot 51 kind.Ret 0 (Some (point 39 kind.Ret))) ∷ (spot 52 kind.Ret 1 (Some (point 39 kind.Ret))) ∷ (spot 53 kind.Ret 0 (Some (point 52 kind.Ret))) ∷ (spot 54 kind.Ret 0 (Some (point 53 kind.Ret))) ∷ (spot 55 kind.Ret 1 (Some (point 53 kind.Ret))) ∷ (spot 56 kind.Ret 0 (Some (point 55 kind.Ret))) ∷ (spot 57 kind.Ret 1 (Some (point 55 kind.Ret))) ∷ (spot 58 kind.Ret 1 (Some (point 52 kind.Ret))) ∷ (spot 63 kind.Ret 0 (Some (point 38 kind.Ret))) ∷ (spot 64 kind.Ret 1 (Some (point 38 kind.Ret))) ∷ (spot 65 kind.Ret 0 (Some (point 64 kind.Ret))) ∷ (spot 66 kind.Ret 0 (Some (point 65 kind.Ret))) ∷ (spot 67 kind.Ret 1 (Some (point 65 kind.Ret))) ∷ (spot 68 kind.Ret 0 (Some (point 67 kind.Ret))) ∷ (spot 69 kind.Ret 1 (Some (point 67 kind.Ret))) ∷ (spot 70 kind.Ret 1 (Some (point 64 kind.Ret))) ∷ (spot 80 kind.Ret 0 None) ∷ (spot 81 kind.Ret 0 (Some (point 80 kind.Ret))) ∷ (spot 82 kind.Ret 1 (Some (point 80 kind.Ret))) ∷ []
ints_spots = refl

ints_width : width ints.nodes (map (λ n. user) ints.nodes) ≡ 104
ints_width = refl

texts_spots : spots texts.nodes ≡ (spot 3 kind.Ret 0 None) ∷ (spot 4 kind.Ret 0 (Some (point 3 kind.Ret))) ∷ (spot 5 kind.Ret 1 (Some (point 3 kind.Ret))) ∷ (spot 6 kind.Ret 0 (Some (point 5 kind.Ret))) ∷ (spot 7 kind.Ret 1 (Some (point 5 kind.Ret))) ∷ (spot 8 kind.Ret 0 (Some (point 7 kind.Ret))) ∷ (spot 9 kind.Ret 0 (Some (point 8 kind.Ret))) ∷ (spot 10 kind.Ret 1 (Some (point 8 kind.Ret))) ∷ (spot 11 kind.Ret 0 (Some (point 10 kind.Ret))) ∷ (spot 12 kind.Ret 0 (Some (point 11 kind.Ret))) ∷ (spot 13 kind.Ret 1 (Some (point 11 kind.Ret))) ∷ (spot 14 kind.Ret 0 (Some (point 13 kind.Ret))) ∷ (spot 15 kind.Ret 1 (Some (point 13 kind.Ret))) ∷ (spot 16 kind.Ret 0 (Some (point 15 kind.Ret))) ∷ (spot 17 kind.Ret 1 (Some (point 15 kind.Ret))) ∷ (spot 18 kind.Ret 0 (Some (point 17 kind.Ret))) ∷ (spot 19 kind.Ret 1 (Some (point 17 kind.Ret))) ∷ (spot 20 kind.Ret 0 (Some (point 19 kind.Ret))) ∷ (spot 21 kind.Ret 1 (Some (point 19 kind.Ret))) ∷ (spot 22 kind.Ret 1 (Some (point 10 kind.Ret))) ∷ (spot 23 kind.Ret 0 (Some (point 22 kind.Ret))) ∷ (spot 24 kind.Ret 1 (Some (point 22 kind.Ret))) ∷ (spot 25 kind.Ret 0 (Some (point 24 kind.Ret))) ∷ (spot 26 kind.Ret 1 (Some (point 24 kind.Ret))) ∷ (spot 27 kind.Ret 2 (Some (point 24 kind.Ret))) ∷ (spot 28 kind.Ret 1 (Some (point 7 kind.Ret))) ∷ (spot 29 kind.Ret 0 (Some (point 28 kind.Ret))) ∷ (spot 30 kind.Ret 1 (Some (point 28 kind.Ret))) ∷ (spot 31 kind.Ret 0 (Some (point 30 kind.Ret))) ∷ (spot 32 kind.Ret 1 (Some (point 30 kind.Ret))) ∷ (spot 33 kind.Ret 0 (Some (point 32 kind.Ret))) ∷ (spot 34 kind.Ret 1 (Some (point 32 kind.Ret))) ∷ (spot 38 kind.Ret 0 None) ∷ (spot 39 kind.Ret 0 (Some (point 38 kind.Ret))) ∷ (spot 40 kind.Ret 1 (Some (point 38 kind.Ret))) ∷ (spot 41 kind.Ret 0 (Some (point 40 kind.Ret))) ∷ (spot 42 kind.Ret 0 (Some (point 41 kind.Ret))) ∷ (spot 43 kind.Ret 1 (Some (point 41 kind.Ret))) ∷ (spot 44 kind.Ret 0 (Some (point 43 kind.Ret))) ∷ (spot 45 kind.Ret 1 (Some (point 43 kind.Ret))) ∷ (spot 55 kind.Ret 0 None) ∷ (spot 56 kind.Ret 0 (Some (point 55 kind.Ret))) ∷ (spot 57 kind.Ret 1 (Some (point 55 kind.Ret))) ∷ (spot 58 kind.Ret 0 (Some (point 57 kind.Ret))) ∷ (spot 59 kind.Ret 1 (Some (point 57 kind.Ret))) ∷ (spot 60 kind.Ret 2 (Some (point 57 kind.Ret))) ∷ []
texts_spots = refl

texts_width : width texts.nodes (map (λ n. user) texts.nodes) ≡ 86
texts_width = refl

refs_spots : spots refs.nodes ≡ (spot 3 kind.Ret 0 None) ∷ (spot 4 kind.Ret 0 (Some (point 3 kind.Ret))) ∷ (spot 5 kind.Ret 1 (Some (point 3 kind.Ret))) ∷ (spot 9 kind.Ret 1 None) ∷ (spot 10 kind.Ret 1 (Some (point 9 kind.Ret))) ∷ (spot 11 kind.Ret 1 (Some (point 9 kind.Ret))) ∷ (spot 12 kind.Ret 1 (Some (point 11 kind.Ret))) ∷ (spot 13 kind.Ret 1 (Some (point 11 kind.Ret))) ∷ (spot 14 kind.Ret 1 (Some (point 13 kind.Ret))) ∷ (spot 15 kind.Ret 1 (Some (point 13 kind.Ret))) ∷ (spot 16 kind.Ret 0 (Some (point 15 kind.Ret))) ∷ (spot 17 kind.Ret 1 (Some (point 16 kind.Ret))) ∷ (spot 18 kind.Ret 1 (Some (point 16 kind.Ret))) ∷ (spot 19 kind.Ret 1 (Some (point 15 kind.Ret))) ∷ (spot 23 kind.Ret 0 None) ∷ (spot 24 kind.Ret 1 (Some (point 23 kind.Ret))) ∷ (spot 25 kind.Ret 1 (Some (point 23 kind.Ret))) ∷ (spot 26 kind.Ret 0 (Some (point 25 kind.Ret))) ∷ (spot 27 kind.Ret 1 (Some (point 26 kind.Ret))) ∷ (spot 28 kind.Ret 1 (Some (point 26 kind.Ret))) ∷ (spot 29 kind.Ret 0 (Some (point 28 kind.Ret))) ∷ (spot 30 kind.Ret 1 (Some (point 29 kind.Ret))) ∷ (spot 31 kind.Ret 1 (Some (point 29 kind.Ret))) ∷ (spot 32 kind.Ret 1 (Some (point 28 kind.Ret))) ∷ (spot 39 kind.Fn 1 None) ∷ (spot 44 kind.Ret 1 None) ∷ (spot 45 kind.Ret 1 None) ∷ (spot 46 kind.Ret 1 (Some (point 45 kind.Ret))) ∷ (spot 47 kind.Ret 1 (Some (point 45 kind.Ret))) ∷ (spot 48 kind.Ret 0 (Some (point 47 kind.Ret))) ∷ (spot 49 kind.Ret 1 (Some (point 47 kind.Ret))) ∷ (spot 50 kind.Fn 1 None) ∷ (spot 55 kind.Ret 1 None) ∷ (spot 56 kind.Ret 1 None) ∷ (spot 57 kind.Ret 1 (Some (point 56 kind.Ret))) ∷ (spot 58 kind.Ret 1 (Some (point 56 kind.Ret))) ∷ (spot 59 kind.Ret 0 (Some (point 58 kind.Ret))) ∷ (spot 60 kind.Ret 1 (Some (point 58 kind.Ret))) ∷ (spot 64 kind.Ret 0 None) ∷ (spot 65 kind.Ret 1 (Some (point 64 kind.Ret))) ∷ (spot 66 kind.Ret 1 (Some (point 64 kind.Ret))) ∷ (spot 67 kind.Ret 0 (Some (point 66 kind.Ret))) ∷ (spot 68 kind.Ret 0 (Some (point 67 kind.Ret))) ∷ (spot 69 kind.Ret 1 (Some (point 67 kind.Ret))) ∷ []
refs_spots = refl

refs_width : width refs.nodes (map (λ n. user) refs.nodes) ≡ 108
refs_width = refl

raising_spots : spots raising.nodes ≡ (spot 5 kind.Fn 1 None) ∷ (spot 5 kind.Ret 0 None) ∷ (spot 7 kind.Caught 2 None) ∷ (spot 7 kind.Popped 2 None) ∷ (spot 9 kind.Ret 0 (Some (point 7 kind.Caught))) ∷ []
raising_spots = refl

raising_width : width raising.nodes (map (λ n. user) raising.nodes) ≡ 18
raising_width = refl

-- ---- Two of them with what a bare tree has beside its nodes

abbrev hello_tree : Bare
hello_tree = record hello { decs = 0 ∷ []; shown = 1 ∷ []; width = 8 }

hello_is_bare : IsBare hello_tree
hello_is_bare = record {
  few = omega arith;
  numbered = numbered_by_list hello_tree.nodes (((omega arith, omega arith), ((omega arith, omega arith), tt)), (((omega arith, omega arith), ((omega arith, omega arith), tt)), (tt, (((omega arith, omega arith), ((omega arith, omega arith), tt)), (tt, (tt, (tt, tt)))))));
  preorder = preorder_by_list hello_tree.nodes ((refl, (refl, tt)), ((refl, (refl, tt)), (tt, ((refl, (refl, tt)), (tt, (tt, (tt, tt))))))) refl;
  places = refl;
  sorts = ((refl, refl), (((refl, refl), tt), (tt, ((refl, refl), (tt, (tt, (tt, tt)))))));
  stands = (tt, (tt, (tt, (tt, (tt, (omega arith, (tt, tt)))))));
  types = λ i t e. cc;
  bound = refl;
  once = tt;
  somewhere = λ x l. absurd (omega (arith, l));
  declared = tt;
  nest = refl;
  end = refl;
  decs = ((omega arith, tt), (refl, tt));
  first_dec = refl;
  shown = ((omega arith, tt), (refl, tt));
  width = refl;
  narrow = omega arith;
}

raising_numbered : IsNumbered raising.nodes
raising_numbered =
    numbered_by_list raising.nodes (((omega arith, omega arith), ((omega arith, omega arith), tt)), (tt, (((omega arith, omega arith), ((omega arith, omega arith), tt)), (((omega arith, omega arith), ((omega arith, omega arith), tt)), (tt, (((omega arith, omega arith), ((omega arith, omega arith), tt)), (tt, (((omega arith, omega arith), ((omega arith, omega arith), ((omega arith, omega arith), tt))), (((omega arith, omega arith), tt), (tt, (tt, (tt, (tt, tt)))))))))))))

three_bound : (x : ℕ) → x < 3 → has (flat_map names_at raising.nodes) x ≡ true
three_bound zero l = refl
three_bound (suc zero) l = refl
three_bound (suc (suc zero)) l = refl
three_bound (suc (suc (suc x))) l = absurd (omega (arith, l))

-- with any three names
abbrev raising_tree : List (List ℕ) → Bare
raising_tree names = record raising { decs = 0 ∷ 2 ∷ []; shown = 3 ∷ []; names = names; width = 18 }

raising_is_bare : (names : List (List ℕ)) → length names ≡ 3 → IsBare (raising_tree names)
raising_is_bare names e = record {
  few = omega arith;
  numbered = raising_numbered;
  preorder = preorder_by_list raising.nodes ((refl, (refl, tt)), (tt, ((refl, (refl, tt)), ((refl, (refl, tt)), (tt, ((refl, (refl, tt)), (tt, ((refl, (refl, (refl, tt))), ((refl, tt), (tt, (tt, (tt, (tt, tt))))))))))))) refl;
  places = refl;
  sorts = ((refl, refl), (tt, ((refl, refl), (((refl, refl), tt), (tt, (((refl, refl), tt), (tt, ((refl, ((refl, refl), tt)), (refl, (tt, (tt, (tt, (tt, tt)))))))))))));
  stands = (tt, ((omega arith, tt), (tt, (tt, (omega arith, (tt, (omega arith, (tt, (tt, (omega arith, (omega arith, (omega arith, (tt, tt)))))))))))));
  types = λ i t e. cc;
  bound = refl;
  once = (refl, (refl, (refl, tt)));
  somewhere = λ x l. three_bound x (omega (arith, l, e));
  declared = tt;
  nest = refl;
  end = refl;
  decs = ((omega arith, (omega arith, tt)), (refl, (refl, tt)));
  first_dec = refl;
  shown = ((omega arith, tt), (refl, tt));
  width = refl;
  narrow = omega arith;
}

-- built from its parts
pub raising_built : (nodes : List Node) (places : List Place) (decs shown : List ℕ) (types : List TypeExp) (tyvars : List Bool) (names texts : List (List ℕ)) → nodes ≡ raising.nodes → places ≡ raising.places → decs ≡ 0 ∷ 2 ∷ [] → shown ≡ 3 ∷ [] → types ≡ [] → tyvars ≡ [] → length names ≡ 3 → texts ≡ [] → IsBare (record { nodes = nodes; places = places; decs = decs; shown = shown; types = types; tyvars = tyvars; names = names; texts = texts; width = 18 })
raising_built nodes places decs shown types tyvars names texts en ep ed es et ev e ex =
    let made : Bare = record { nodes = nodes; places = places; decs = decs; shown = shown; types = types; tyvars = tyvars; names = names; texts = texts; width = 18 } in
    let same : raising_tree names ≡ made = rw (en, ep, ed, es, et, ev, ex) refl in
    subst IsBare same (raising_is_bare names e)
