-- a walk over the nest of declarations
use Rattle.std.proofs.Common.{◌≡◌, ℕ, ◌<◌, List, [], ◌++◌, Some, true, length, arith, refl, sym, subst, append_assoc}
use Rattle.std.specs.Prelude.{slice_get}
use Rattle.std.proofs.lemmas.List.{append-nil}
use Rattle.std.proofs.lemmas.List.Elements.{All-nil}
use Rattle.smlc_base.specs.declared.place.Place.{Place}
use Rattle.sml_tree.specs.declared.bare.Bare.{Bare}
use Rattle.sml_tree.specs.declared.bare.Binding.{Binding}
use Rattle.sml_tree.specs.declared.bare.Node.{Node}
use Rattle.sml_tree.specs.declared.bare.Node.TheVariants as node
use Rattle.sml_tree.specs.IsBare.{IsBare}
use Rattle.print_code.specs.declared.plain.Parts.{Parts}
use Rattle.print_code.specs.Code.{IsPositive, IsStraight}
use Rattle.print_code.specs.Plain.{IsPrint, IsUser, IsLibrary, Says, ends, goes_on, passes, StopsAt, here, behind, later}
use Rattle.print_code.specs.Reading.{only_binding, is_wild, is_print, applied, declared_in, text_number, IsNest, IsPrintAt, IsLibraryAt}
use Rattle.print_code.proofs.Nests.{only_binding-is, is_wild-is, is_print-is, applied-is, declared_in-is, text_number-is, nest_behind, parts_of_let}

pub print_of : (p : Bare) (nodes : List Node) (d : ℕ) (b : Binding) (x : Parts) (n : ℕ) (text : List ℕ) → nodes ≡ p.nodes → only_binding (slice_get nodes d) ≡ Some b → applied (slice_get nodes b.right) ≡ Some x →
    text_number (slice_get nodes x.second) ≡ Some n → is_wild (slice_get nodes b.pat) ≡ true → is_print (slice_get nodes x.first) ≡ true → slice_get p.texts n ≡ Some text → IsPrint p d text
print_of p nodes d b x n text same binds applies constant ignores prints spelled = record {
  binding = b;
  function = x.first;
  argument = x.second;
  number = n;
  binds = only_binding-is (slice_get p.nodes d) b (rw same at binds);
  ignores = is_wild-is (slice_get p.nodes b.pat) (rw same at ignores);
  applies = applied-is (slice_get p.nodes b.right) x (rw same at applies);
  prints = is_print-is (slice_get p.nodes x.first) (rw same at prints);
  constant = text_number-is (slice_get p.nodes x.second) n (rw same at constant);
  spelled = spelled;
}

module _ (p : Bare) (is : IsBare p) (i : ℕ) (nest : IsNest p i) (x : Parts) (declares : declared_in (slice_get p.nodes i) ≡ Some x) where
  let_is : slice_get p.nodes i ≡ Some (node.Let x.first x.second)
  let_is = declared_in-is (slice_get p.nodes i) x declares

  pub declared_within : x.first < length p.nodes
  declared_within = (parts_of_let p is i nest x.first x.second let_is).0

  pub print_stands : (text : List ℕ) → IsUser p x.first → IsPrint p x.first text → IsPrintAt p i text x.second
  print_stands text u h = let q = parts_of_let p is i nest x.first x.second let_is in record {
    declaration = x.first;
    declares = let_is;
    user = u;
    is_print = h;
    further = q.1;
    within = q.2;
    nest = nest_behind p is i nest x.first x.second let_is;
  }

  pub library_stands : IsLibrary p x.first → IsLibraryAt p i x.second
  library_stands l = let q = parts_of_let p is i nest x.first x.second let_is in record {
    declaration = x.first;
    declares = let_is;
    library = l;
    further = q.1;
    within = q.2;
    nest = nest_behind p is i nest x.first x.second let_is;
  }

  pub other_stands : (place : Place) → IsUser p x.first → ((text : List ℕ) → IsPrint p x.first text → ⊥) → slice_get p.places x.first ≡ Some place → StopsAt p i place
  other_stands place u never at = here i x.first x.second place let_is u never at

-- ---- the loop

pub straight_none : IsStraight [] []
straight_none = record { sums = refl; positive = All-nil IsPositive; bounded = omega arith }

pub says_all : (p : Bare) (at : ℕ) (text : List ℕ) → ((more : List ℕ) → Says p at more → Says p 0 (text ++ more)) → slice_get p.nodes at ≡ Some node.Finish → Says p 0 text
says_all p at text mean e = subst (λ (t : List ℕ). Says p 0 t) (append-nil text) (mean [] (ends at e))

module _ (p : Bare) (at rest : ℕ) (text first text' : List ℕ) (print : IsPrintAt p at first rest) where
  pub says_further : text' ≡ text ++ first → ((more : List ℕ) → Says p at more → Says p 0 (text ++ more)) → (more : List ℕ) → Says p rest more → Says p 0 (text' ++ more)
  says_further e mean = λ more h. subst (λ (t : List ℕ). Says p 0 (t ++ more)) (sym e) (subst (λ (t : List ℕ). Says p 0 t) (sym (append_assoc text first more)) (mean (first ++ more) (goes_on at print.declaration rest first more (first ++ more) print.declares print.user print.is_print h refl)))

  pub stops_further : ((place : Place) → StopsAt p at place → StopsAt p 0 place) → (place : Place) → StopsAt p rest place → StopsAt p 0 place
  stops_further stop = λ place h. stop place (behind at print.declaration rest first place print.declares print.user print.is_print h)

module _ (p : Bare) (at rest : ℕ) (text : List ℕ) (library : IsLibraryAt p at rest) where
  pub says_passed : ((more : List ℕ) → Says p at more → Says p 0 (text ++ more)) → (more : List ℕ) → Says p rest more → Says p 0 (text ++ more)
  says_passed mean = λ more h. mean more (passes at library.declaration rest more library.declares library.library h)

  pub stops_passed : ((place : Place) → StopsAt p at place → StopsAt p 0 place) → (place : Place) → StopsAt p rest place → StopsAt p 0 place
  stops_passed stop = λ place h. stop place (later at library.declaration rest place library.declares library.library h)
