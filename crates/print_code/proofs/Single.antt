-- a bare tree has one meaning
use Rattle.std.proofs.Common.{◌≡◌, ℕ, true, false, List, ◌++◌, Some, refl, sym, ap, subst, ◌∙◌}
use Rattle.std.specs.Prelude.{slice_get}
use Rattle.smlc_base.specs.declared.place.Place.{Place}
use Rattle.sml_tree.specs.declared.bare.Bare.{Bare}
use Rattle.sml_tree.specs.declared.bare.Node.TheVariants as node
use Rattle.sml_tree.specs.Width.{is_user_at}
use Rattle.print_code.specs.Plain.{IsPrint, IsUser, IsLibrary, Says, ends, goes_on, passes, StopsAt, here, behind, later}
use Rattle.print_code.specs.Laws.{OneMeaning}

module _ (p : Bare) where
  one_print : (d : ℕ) (text text' : List ℕ) → IsPrint p d text → IsPrint p d text' → text ≡ text'
  one_print d text text' x y =
      let b : x.binding ≡ y.binding = cc (x.binds, y.binds) in
      let right : slice_get p.nodes x.binding.right ≡ slice_get p.nodes y.binding.right = ap (λ z. slice_get p.nodes z.right) b in
      let argument : x.argument ≡ y.argument = cc (x.applies, y.applies, right) in
      let constant : slice_get p.nodes x.argument ≡ slice_get p.nodes y.argument = ap (λ z. slice_get p.nodes z) argument in
      let number : x.number ≡ y.number = cc (x.constant, y.constant, constant) in
      let spelled : slice_get p.texts x.number ≡ slice_get p.texts y.number = ap (λ z. slice_get p.texts z) number in
      cc (x.spelled, y.spelled, spelled)

  one_let : (i d d' rest rest' : ℕ) → slice_get p.nodes i ≡ Some (node.Let d rest) → slice_get p.nodes i ≡ Some (node.Let d' rest') → (d ≡ d') × (rest ≡ rest')
  one_let i d d' rest rest' x y = (cc, cc)

  -- a declaration is the user's or the library's
  not_mixed : (d d' : ℕ) → d ≡ d' → IsUser p d → IsLibrary p d' → ⊥
  not_mixed d d' e u l = cc (ap (λ k. is_user_at (slice_get p.places k)) e, u, l)

  one_text : (i : ℕ) (text text' : List ℕ) → Says p i text → Says p i text' → text ≡ text'
  one_text i _ _ (ends _ x) (ends _ y) = refl
  one_text i _ text' (ends _ x) (goes_on _ d rest first more _ y u print says e) = absurd (cc)
  one_text i text _ (goes_on _ d rest first more _ x u print says e) (ends _ y) = absurd (cc)
  one_text i text text' (goes_on _ d rest first more _ x u print says e) (goes_on _ d' rest' first' more' _ y u' print' says' e') =
      let same = one_let i d d' rest rest' x y in
      let print'' : IsPrint p d first' = subst (λ (k : ℕ). IsPrint p k first') (sym same.0) print' in
      let says'' : Says p rest more' = subst (λ (k : ℕ). Says p k more') (sym same.1) says' in
      e ∙ ap (λ (x : List ℕ). x ++ more) (one_print d first first' print print'') ∙ ap (λ (x : List ℕ). first' ++ x) (one_text rest more more' says says'') ∙ sym e'
  one_text i _ text' (ends _ x) (passes _ d rest _ y l says) = absurd (cc)
  one_text i text _ (passes _ d rest _ x l says) (ends _ y) = absurd (cc)
  one_text i text text' (goes_on _ d rest first more _ x u print says e) (passes _ d' rest' _ y l says') = absurd (not_mixed d d' (one_let i d d' rest rest' x y).0 u l)
  one_text i text text' (passes _ d rest _ x l says) (goes_on _ d' rest' first more _ y u print says' e) = absurd (not_mixed d' d (sym (one_let i d d' rest rest' x y).0) u l)
  one_text i text text' (passes _ d rest _ x l says) (passes _ d' rest' _ y l' says') = one_text rest text text' says (subst (λ (k : ℕ). Says p k text') (sym (one_let i d d' rest rest' x y).1) says')

  one_place : (i : ℕ) (place place' : Place) → StopsAt p i place → StopsAt p i place' → place ≡ place'
  one_place i place place' (here _ d rest _ x u never at) (here _ d' rest' _ y u' never' at') =
      let same = one_let i d d' rest rest' x y in
      let at'' : slice_get p.places d ≡ Some place' = subst (λ (k : ℕ). slice_get p.places k ≡ Some place') (sym same.0) at' in
      cc
  one_place i place place' (here _ d rest _ x u never at) (behind _ d' rest' first _ y u' print stops) =
      let same = one_let i d d' rest rest' x y in
      absurd (never first (subst (λ (k : ℕ). IsPrint p k first) (sym same.0) print))
  one_place i place place' (behind _ d rest first _ x u print stops) (here _ d' rest' _ y u' never at) =
      let same = one_let i d d' rest rest' x y in
      absurd (never first (subst (λ (k : ℕ). IsPrint p k first) same.0 print))
  one_place i place place' (behind _ d rest first _ x u print stops) (behind _ d' rest' first' _ y u' print' stops') =
      let same = one_let i d d' rest rest' x y in
      one_place rest place place' stops (subst (λ (k : ℕ). StopsAt p k place') (sym same.1) stops')
  one_place i place place' (here _ d rest _ x u never at) (later _ d' rest' _ y l stops) = absurd (not_mixed d d' (one_let i d d' rest rest' x y).0 u l)
  one_place i place place' (behind _ d rest first _ x u print stops) (later _ d' rest' _ y l stops') = absurd (not_mixed d d' (one_let i d d' rest rest' x y).0 u l)
  one_place i place place' (later _ d rest _ x l stops) (here _ d' rest' _ y u never at) = absurd (not_mixed d' d (sym (one_let i d d' rest rest' x y).0) u l)
  one_place i place place' (later _ d rest _ x l stops) (behind _ d' rest' first _ y u print stops') = absurd (not_mixed d' d (sym (one_let i d d' rest rest' x y).0) u l)
  one_place i place place' (later _ d rest _ x l stops) (later _ d' rest' _ y l' stops') = one_place rest place place' stops (subst (λ (k : ℕ). StopsAt p k place') (sym (one_let i d d' rest rest' x y).1) stops')

  not_both : (i : ℕ) (text : List ℕ) (place : Place) → Says p i text → StopsAt p i place → ⊥
  not_both i _ place (ends _ x) (here _ d rest _ y u never at) = absurd (cc)
  not_both i _ place (ends _ x) (behind _ d rest first _ y u print stops) = absurd (cc)
  not_both i text place (goes_on _ d rest first more _ x u print says e) (here _ d' rest' _ y u' never at) =
      let same = one_let i d d' rest rest' x y in
      never first (subst (λ (k : ℕ). IsPrint p k first) same.0 print)
  not_both i text place (goes_on _ d rest first more _ x u print says e) (behind _ d' rest' first' _ y u' print' stops) =
      let same = one_let i d d' rest rest' x y in
      not_both rest more place says (subst (λ (k : ℕ). StopsAt p k place) (sym same.1) stops)
  not_both i _ place (ends _ x) (later _ d rest _ y l stops) = absurd (cc)
  not_both i text place (goes_on _ d rest first more _ x u print says e) (later _ d' rest' _ y l stops) = not_mixed d d' (one_let i d d' rest rest' x y).0 u l
  not_both i text place (passes _ d rest _ x l says) (here _ d' rest' _ y u never at) = not_mixed d' d (sym (one_let i d d' rest rest' x y).0) u l
  not_both i text place (passes _ d rest _ x l says) (behind _ d' rest' first _ y u print stops) = not_mixed d' d (sym (one_let i d d' rest rest' x y).0) u l
  not_both i text place (passes _ d rest _ x l says) (later _ d' rest' _ y l' stops) = not_both rest text place says (subst (λ (k : ℕ). StopsAt p k place) (sym (one_let i d d' rest rest' x y).1) stops)

pub one_meaning : OneMeaning
one_meaning = record {
  texts = λ p text text' x y. one_text p 0 text text' x y;
  places = λ p place place' x y. one_place p 0 place place' x y;
  either = λ p text place x y. not_both p 0 text place x y;
}
