-- The text that inference's answer shows is that of a principal typing.
use Rattle.std.proofs.Common.{◌≡◌, ◌⊎◌, inl, inr, ℕ, zero, suc, ◌<◌, ◌≤◌, List, [], ◌∷◌, Option, Some, None, length, map, get_or, refl, sym, ap, subst, ◌∙◌, arith}
use Rattle.std.specs.Prelude.{slice_get, All}
use Rattle.std.proofs.lemmas.Option.{slice_get_cases}
use Rattle.smlc_base.specs.declared.names.Name.{Name}
use Rattle.sml_tree.specs.declared.bare.Bare.{Bare}
use Rattle.sml_tree.specs.IsBare.{IsBare}
use Rattle.sml_types.specs.declared.scheme.NameScheme.{NameScheme}
use Rattle.sml_types.specs.declared.typed.Typed.{Typed}
use Rattle.sml_types.specs.Tree.{AllVars}
use Rattle.sml_types.specs.Forms.{AreForms}
use Rattle.sml_types.specs.Poly.{Poly}
use Rattle.sml_types.specs.Typing.{IsTypable}
use Rattle.sml_infer.specs.Typing.{IsInferred}
use Rattle.type_text.specs.Entries.{poly_of, entry_of}
use Rattle.type_text.specs.Text.{Entry, lines}
use Rattle.smlc_top.specs.declared.types.Shown.{Shown}
use Rattle.smlc_top.specs.declared.types.Shown.TheVariants.{Text, Refused, NoMemory}
use Rattle.smlc_base.specs.declared.refusal.Refusal.{Refusal}
use Rattle.smlc_top.specs.Front.{HasTree, IsUntyped}
use Rattle.text_laws.specs.Tells.{shown_names, entry, AreMarked, Tells}
use Rattle.smlc_top.specs.Types.{IsShown, IsTold, IsRefusal}
use Rattle.text_laws.proofs.Spellings.{same_spellings, lines_same}
use Rattle.smlc_top.proofs.Named.{AreNames, names_stand}
use Rattle.smlc_top.proofs.Marks.{mark, tree_marked}

-- what was inferred is a typing
pub typable : (p : Bare) (typed : Typed) → IsInferred p typed → IsTypable p
typable p typed i = (i.typing, i.principal.typing)

-- ---- The names

one_more : (count : ℕ) (name : Name) (names : List Name) → name.0 < count → All (λ (n : Name). n.0 < count) names → All (λ (n : Name). n.0 < count) (name ∷ names)
one_more count name names h rest zero d l = h
one_more count name names h rest (suc i) d l = rest i d (omega (arith, l))

pub all_there : (p : Bare) (count : ℕ) (numbers : List ℕ) → count ≡ length p.names → AreNames p numbers → All (λ (name : Name). name.0 < count) (map (λ x. record { 0 = x }) numbers)
all_there p count [] same h = λ i d l. absurd (omega (arith, l))
all_there p count (x ∷ numbers) same h = one_more count (record { 0 = x }) (map (λ x. record { 0 = x }) numbers) (subst (λ (n : ℕ). x < n) (sym same) h.0) (all_there p count numbers same h.1)

-- ---- The lines

module _ (typed : Typed) (i : IsInferred typed.bare typed) (complete : length typed.schemes ≡ length typed.bare.names) where
  poly_is : (x : ℕ) → x < length typed.bare.names → poly_of typed.types (slice_get typed.schemes x) ≡ i.typing.schemes x
  poly_is x l = go (slice_get_cases typed.schemes x).1
    where
      go : ((s : NameScheme) × (x < length typed.schemes) × (slice_get typed.schemes x ≡ Some s) × (get_or typed.schemes x s ≡ s)) ⊎ ((length typed.schemes ≤ x) × (slice_get typed.schemes x ≡ None)) → poly_of typed.types (slice_get typed.schemes x) ≡ i.typing.schemes x
      go (inl h) = ap (poly_of typed.types) h.2 ∙ i.schemes x h.0 h.2
      go (inr h) = absurd (omega (arith, l, h.0, complete))

  entry_is : (x : ℕ) → x < length typed.bare.names → entry_of typed (record { 0 = x }) ≡ entry typed.bare i.typing x
  entry_is x l =
      ap (λ (q : Poly). record { spelling = get_or typed.bare.names x []; scheme = q }) (poly_is x l)

  entries_are : (xs : List ℕ) → AreNames typed.bare xs → map (entry_of typed) (map (λ x. record { 0 = x }) xs) ≡ map (entry typed.bare i.typing) xs
  entries_are [] h = refl
  entries_are (x ∷ xs) h =
      ap (λ (e : Entry). e ∷ map (entry_of typed) (map (λ x. record { 0 = x }) xs)) (entry_is x h.0)
      ∙ ap (λ (es : List Entry). entry typed.bare i.typing x ∷ es) (entries_are xs h.1)

  -- the variables in the type of a name have the marks of their numbers
  poly_marked : (o : Option NameScheme) → AreForms typed.types → AllVars (λ v. v.eq ≡ mark typed.types v.num) (poly_of typed.types o).body
  poly_marked None fs = tt
  poly_marked (Some s) fs = tree_marked typed.types s.scheme.body.0 fs

  are_marked : AreForms typed.types → (xs : List ℕ) → AreNames typed.bare xs → AreMarked i.typing (mark typed.types) xs
  are_marked fs [] h = tt
  are_marked fs (x ∷ xs) h = (
    subst (λ (q : Poly). AllVars (λ v. v.eq ≡ mark typed.types v.num) q.body) (poly_is x h.0) (poly_marked (slice_get typed.schemes x) fs),
    are_marked fs xs h.1,
  )

  pub tells : (bare : IsBare typed.bare) (fs : AreForms typed.types) (names : List Name) (text : List ℕ) → names ≡ map (λ x. record { 0 = x }) (shown_names typed.bare) → text ≡ lines typed.tables.names (map (entry_of typed) names) → Tells typed.bare text
  tells bare fs names text named is = record {
    typing = i.typing;
    principal = i.principal;
    marks = mark typed.types;
    marked = are_marked fs (shown_names typed.bare) (names_stand typed.bare bare);
    is =
        is
        ∙ ap (λ (ns : List Name). lines typed.tables.names (map (entry_of typed) ns)) named
        ∙ ap (λ (es : List Entry). lines typed.tables.names es) (entries_are (shown_names typed.bare) (names_stand typed.bare bare))
        ∙ lines_same typed.tables.names i.typing.names (same_spellings typed.types i.typing.forms typed.tables.names i.typing.names i.rows) (map (entry typed.bare i.typing) (shown_names typed.bare));
  }

-- ---- What became of files

pub refused_shown : (names files : List (List ℕ)) (refusal : Refusal) (s : Shown) → IsUntyped files refusal → IsRefusal names refusal s → IsShown names files s
refused_shown names files refusal (Refused line) is h = (refusal, is, h)
refused_shown names files refusal NoMemory is h = tt
refused_shown names files refusal (Text text) is h = absurd h

pub told_shown : (names files : List (List ℕ)) (p : Bare) (s : Shown) → HasTree files p → IsTold p s → IsShown names files s
told_shown names files p (Text text) tree h = record { bare = p; tree = tree; tells = h }
told_shown names files p NoMemory tree h = tt
told_shown names files p (Refused line) tree h = absurd h
