-- What a tree becomes is slim.
use Rattle.std.proofs.Common.{◌≡◌, ℕ, ◌≤◌, List, [], ◌∷◌, length, refl, sym, ◌∙◌, subst, arith, inl, inr}
use Rattle.std.proofs.lemmas.List.Sums.{length-filter, count_by-le-length}
use Rattle.std.specs.Prelude.{not}
use Rattle.std.specs.List.{AllByRecursion}
use Rattle.smlc_base.specs.SiteWords.{site_words}
use Rattle.sml_tree.specs.declared.bare.Bare.{Bare}
use Rattle.sml_tree.specs.IsBare.{IsBare}
use Rattle.sml_tree.specs.Sets.{has}
use Rattle.sml_tree.proofs.Members.{IsWithin}
use Rattle.sml_types.specs.declared.tables.TypeName.{TypeName}
use Rattle.simulation.specs.Blocks.{IsAmong}
use Rattle.sml_def.specs.Sites.{sites}
use Rattle.lambda_laws.specs.Make.{lambda_of}
use Rattle.lambda_laws.proofs.Programs.{is_program}
use Rattle.cps_ir.specs.Code.{Code}
use Rattle.cps_ir.specs.Free.{labels}
use Rattle.cps_ir.specs.Slim.{Layout, layouts, IsClosedSet, holds_of, most_held}
use Rattle.convert_laws.specs.Program.{cps_of}
use Rattle.convert_held.proofs.Fits.{AreFine}
use Rattle.convert_held.proofs.Owned.{free_covers, group_present}
use Rattle.convert_held.proofs.Terms.{whole_fits}
use Rattle.convert_points.proofs.Points.{sites_of_a_tree_fit, converted_points_stand_once, converted_is_whole}
use Rattle.contract_laws.proofs.Free.{among_in, in_among}
use Rattle.contract_laws.proofs.Pigeon.{Distinct, pigeon}
use Rattle.contract_slim.proofs.Slim.{ascending_distinct, free_ascends, contracted_slim}
use Rattle.convert_slim.specs.Law.{ConvertedIsSlim, MiddleIsSlim}
use Rattle.convert_slim.proofs.Allowed.{terms, own, free, May, Allowed, allows, begun}

-- a set within a list is no longer than that
few_within : (xs ys : List ℕ) → Distinct xs → IsWithin xs ys → length xs ≤ length ys
few_within xs ys d f =
    pigeon (λ x y. x ≡ y) (λ x y z e g. sym e ∙ g) xs ys d (λ y m. (y, in_among y ys (f y (among_in y xs m)), refl))

all_among : {A : Type 0} (P : A → Type 0) (xs : List A) (x : A) → AllByRecursion P xs → IsAmong x xs → P x
all_among P [] x h m = absurd m
all_among P (y ∷ xs) x h (inl e) = subst P (sym e) h.0
all_among P (y ∷ xs) x h (inr m) = all_among P xs x h.1 m

module _ (ts : List TypeName) (p : Bare) (bare : IsBare p) where
  abbrev code : Code
  code = (cps_of (lambda_of ts p)).code

  fine : AreFine (May ts p bare) (layouts code)
  fine =
      (whole_fits (May ts p bare) (λ q m n le h. omega (arith, le, h)) (Allowed ts p bare) (own ts p bare) (terms ts p bare) (free ts p bare) (free_covers (lambda_of ts p) (is_program ts p bare)) (group_present (lambda_of ts p) (is_program ts p bare)) (allows ts p bare) (begun ts p bare)).fine

  -- closed functions only make less be held
  held : (closed : List ℕ) → IsClosedSet code closed → (l : Layout) → IsAmong l (layouts code) → holds_of closed l ≤ most_held l.point.kind (site_words (labels code) (sites p) l.point)
  held closed g l m =
      let here = all_among _ (layouts code) l fine m in
      let all = few_within l.free here.0 (ascending_distinct 0 l.free (free_ascends code l m)) here.1 in
      let may = here.2 in
      let less = length-filter (λ x. not (has (l.name ∷ closed) x)) l.free in
      let few = count_by-le-length (λ x. not (has (l.name ∷ closed) x)) l.free in
      omega (arith, all, may, less, few)

pub converted_is_slim : ConvertedIsSlim
converted_is_slim ts p bare =
    let points = converted_points_stand_once ts p bare in
    record {
      fit = sites_of_a_tree_fit p bare;
      once = points.once;
      functions = points.functions;
      stand = points.stand;
      held = held ts p bare;
    }

pub middle_is_slim : MiddleIsSlim
middle_is_slim ts p bare = contracted_slim (cps_of (lambda_of ts p)) (converted_is_whole ts p bare) (converted_is_slim ts p bare)
