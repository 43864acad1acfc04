-- The type names that stand in the types of shown names are spelled alike in each typing.
use Rattle.std.proofs.Common.{◌≡◌, ◌⊎◌, inl, inr, ℕ, zero, suc, ◌<◌, true, List, [], ◌∷◌, ◌++◌, length, Option, Some, None, refl, sym, ap, ◌∙◌, subst, arith}
use Rattle.std.specs.Prelude.{slice_get, nat_eq, flat_map, take}
use Rattle.std.specs.List.{AllByRecursion}
use Rattle.std.proofs.lemmas.Bool.{eqb-true}
use Rattle.std.proofs.lemmas.Option.{slice_get_within}
use Rattle.sml_tree.specs.declared.bare.Bare.{Bare}
use Rattle.sml_tree.specs.declared.bare.DatBinding.{DatBinding}
use Rattle.sml_tree.specs.declared.bare.Node.{Node}
use Rattle.sml_tree.specs.declared.bare.Node.TheVariants as node
use Rattle.sml_tree.specs.BareParts.{at_node, within}
use Rattle.sml_tree.specs.IsBare.{IsBare, lets_of, lets, is_value, dec_at, values}
use Rattle.sml_types.specs.declared.types.TyVar.{TyVar}
use Rattle.sml_types.specs.declared.types.TyForm.{TyForm}
use Rattle.sml_types.specs.declared.tables.TypeName.{TypeName}
use Rattle.sml_types.specs.Poly.{Context, is_in}
use Rattle.sml_types.specs.Escape.{mentions, AreKnown}
use Rattle.sml_types.specs.Library.{NameType, name_types, library, library_names}
use Rattle.sml_types.specs.Typing.{Typing, type_numbers, made_by, IsDatBinding, IsTypingBelow}
use Rattle.sml_types.proofs.TreeFacts.{either}
use Rattle.infer_state.specs.Names.{names_bound}
use Rattle.infer_scopes.proofs.Laws.{binds_are}
use Rattle.type_text.specs.Text.{spelling}
use Rattle.text_laws.proofs.Spellings.{row_spelling, spelling_is}
use Rattle.text_laws.proofs.Members.{never, of_member, in_either, of_kept}
use Rattle.text_laws.proofs.Whole.{whole}

-- ---- Type names of the library

first_rows : (k n : ℕ) (rows : List NameType) → n < k → slice_get (take k rows) n ≡ slice_get rows n
first_rows zero n rows l = absurd (omega (arith, l))
first_rows (suc k) n [] l = refl
first_rows (suc k) zero (row ∷ rows) l = refl
first_rows (suc k) (suc n) (row ∷ rows) l = first_rows k n rows (omega (arith, l))

library_spelling : (forms : List TyForm) (names : List TypeName) (a : TyVar) (n : ℕ) → take 10 (name_types forms names) ≡ library a → n < 10 → spelling (slice_get names n) ≡ row_spelling (slice_get (library a) n)
library_spelling forms names a n e l =
    spelling_is forms names n
    ∙ ap row_spelling (sym (first_rows 10 n (name_types forms names) l))
    ∙ ap (λ (rows : List NameType). row_spelling (slice_get rows n)) e

in_library : (n : ℕ) → is_in library_names n ≡ true → n < 10
in_library n e = of_member (λ x. x < 10) library_names n (omega arith, (omega arith, (omega arith, (omega arith, (omega arith, (omega arith, (omega arith, (omega arith, (omega arith, (omega arith, tt)))))))))) e

-- ---- Type names that datatype declarations make

module _ (p : Bare) where
  -- a type name of the library, or of a datatype declaration
  abbrev pub IsMade : ℕ → Type 0
  IsMade n = (is_in library_names n ≡ true) ⊎ ((i : ℕ) × (bindings : List DatBinding) × (slice_get p.nodes i ≡ Some (node.Datatype bindings)) × (is_in (type_numbers bindings) n ≡ true))

  abbrev pub AreMade : List ℕ → Type 0
  AreMade ns = (n : ℕ) → is_in ns n ≡ true → IsMade n

  some_text : (names : List TypeName) (n : ℕ) (row : TypeName) → slice_get names n ≡ Some row → spelling (slice_get names n) ≡ row.text
  some_text names n row e = ap spelling e

  binding_spelled : (t u : Typing) (b : DatBinding) → IsDatBinding p t b → IsDatBinding p u b → spelling (slice_get t.names b.type_name) ≡ spelling (slice_get u.names b.type_name)
  binding_spelled t u b h k =
      some_text t.names b.type_name h.row h.named ∙ h.text ∙ sym k.text ∙ sym (some_text u.names b.type_name k.row k.named)

  bindings_spelled : (t u : Typing) (n : ℕ) (bindings : List DatBinding) → AllByRecursion (IsDatBinding p t) bindings → AllByRecursion (IsDatBinding p u) bindings → is_in (type_numbers bindings) n ≡ true → spelling (slice_get t.names n) ≡ spelling (slice_get u.names n)
  bindings_spelled t u n [] h k e = absurd (never e)
  bindings_spelled t u n (b ∷ bindings) h k e =
      either (nat_eq n b.type_name) (is_in (type_numbers bindings) n) (spelling (slice_get t.names n) ≡ spelling (slice_get u.names n)) e
      (λ q. subst (λ (m : ℕ). spelling (slice_get t.names m) ≡ spelling (slice_get u.names m)) (sym (eqb-true n b.type_name q)) (binding_spelled t u b h.0 k.0))
      (λ q. bindings_spelled t u n bindings h.1 k.1 q)

  -- two typings spell it alike
  pub made_spelled : (t u : Typing) → IsTypingBelow p t (length p.nodes) → IsTypingBelow p u (length p.nodes) → (n : ℕ) → IsMade n → spelling (slice_get t.names n) ≡ spelling (slice_get u.names n)
  made_spelled t u h k n (inl e) =
      library_spelling t.forms t.names h.library.param n h.library.rows (in_library n e)
      ∙ ap (λ (a : TyVar). row_spelling (slice_get (library a) n)) (h.parameter ∙ sym k.parameter)
      ∙ sym (library_spelling u.forms u.names k.library.param n k.library.rows (in_library n e))
  made_spelled t u h k n (inr m) =
      let l = slice_get_within p.nodes m.0 (node.Datatype m.1) m.2 in
      bindings_spelled t u n m.1 (h.rules m.0 (node.Datatype m.1) l m.2).0 (k.rules m.0 (node.Datatype m.1) l m.2).0 m.3

  -- ---- The contexts of the program's declarations

  there_is : (d : ℕ) (o : Option Node) → slice_get p.nodes d ≡ o → is_value o ≡ true → d < length p.nodes
  there_is d None q e = absurd (never e)
  there_is d (Some n) q e = slice_get_within p.nodes d n q

  -- a value declaration of the program is a node
  pub value_there : (d : ℕ) → is_in (values p.nodes) d ≡ true → d < length p.nodes
  value_there d e =
      of_kept (d < length p.nodes) (λ d. is_value (slice_get p.nodes d)) (flat_map (λ i. dec_at (slice_get p.nodes i)) (lets p.nodes)) d e (λ there value. there_is d (slice_get p.nodes d) refl value)

  made_there : (d : ℕ) (o : Option Node) → slice_get p.nodes d ≡ o → AreMade (made_by o)
  made_there d None e n h = absurd (never h)
  made_there d (Some (node.Datatype bindings)) e n h = inr (d, bindings, e, h)
  made_there d (Some _) e n h = absurd (never h)

  module _ (t : Typing) (typing : IsTypingBelow p t (length p.nodes)) where
    abbrev KnowsMade : ℕ → Type 0
    KnowsMade i = AreMade (t.contexts i).type_names

    abbrev decs : List ℕ → List ℕ
    decs is = flat_map (λ i. dec_at (slice_get p.nodes i)) is

    knows_same : (i j : ℕ) → t.contexts j ≡ t.contexts i → KnowsMade i → KnowsMade j
    knows_same i j e h = subst (λ (c : Context). AreMade c.type_names) (sym e) h

    knows_behind : (i d e : ℕ) → slice_get p.nodes i ≡ Some (node.Let d e) → KnowsMade i → KnowsMade e
    knows_behind i d e q h =
        let rule = typing.rules i (node.Let d e) (slice_get_within p.nodes i (node.Let d e) q) q in
        subst (λ (c : Context). AreMade c.type_names) (sym rule.1.0)
        (λ n k. in_either (IsMade n) (made_by (slice_get p.nodes d)) (t.contexts i).type_names n k (made_there d (slice_get p.nodes d) refl n) (h n))

    -- a step of the nest
    step : (i d e j : ℕ) (inner : List ℕ) → slice_get p.nodes i ≡ Some (node.Let d e) → KnowsMade i → (KnowsMade e → is_in (decs inner) j ≡ true → KnowsMade j) → is_in (decs (i ∷ inner)) j ≡ true → KnowsMade j
    step i d e j inner q h later k =
        let rule = typing.rules i (node.Let d e) (slice_get_within p.nodes i (node.Let d e) q) q in
        either (nat_eq j d) (is_in (decs inner) j) (KnowsMade j)
        (ap (λ (o : Option Node). is_in (dec_at o ++ decs inner) j) (sym q) ∙ k)
        (λ r. subst KnowsMade (sym (eqb-true j d r)) (knows_same i d rule.0 h))
        (λ r. later (knows_behind i d e q h) r)

    at_let : (inner : ℕ → List ℕ) (i j : ℕ) (o : Option Node) → slice_get p.nodes i ≡ o → KnowsMade i → ((e : ℕ) → KnowsMade e → is_in (decs (inner e)) j ≡ true → KnowsMade j) → is_in (decs (at_node [] lets_of inner i o)) j ≡ true → KnowsMade j
    at_let inner i j None q h later k = absurd (never k)
    at_let inner i j (Some (node.Let d e)) q h later k = step i d e j (inner e) q h (later e) k
    at_let inner i j (Some _) q h later k = absurd (never k)

    nest_knows : (k i j : ℕ) → KnowsMade i → is_in (decs (within [] lets_of k p.nodes i)) j ≡ true → KnowsMade j
    nest_knows zero i j h e = absurd (never e)
    nest_knows (suc k) i j h e =
        at_let (within [] lets_of k p.nodes) i j (slice_get p.nodes i) refl h (λ e2 h2 k2. nest_knows k e2 j h2 k2) e

    root_knows : KnowsMade 0
    root_knows = subst (λ (c : Context). AreMade c.type_names) (sym typing.root) (λ n e. inl e)

    -- ---- The types of shown names

    module _ (bare : IsBare p) where
      value_knows : (d : ℕ) (o : Option Node) → slice_get p.nodes d ≡ o → is_value o ≡ true → AreKnown t.schemes (t.contexts d).type_names (names_bound p.nodes d)
      value_knows d (Some (node.Val us bindings)) q e =
          let l = slice_get_within p.nodes d (node.Val us bindings) q in
          subst (AreKnown t.schemes (t.contexts d).type_names) (binds_are p t (length p.nodes) typing bare.numbered (whole p bare) d (node.Val us bindings) l q refl) (typing.rules d (node.Val us bindings) l q).3
      value_knows d (Some (node.ValRec us bindings)) q e =
          let l = slice_get_within p.nodes d (node.ValRec us bindings) q in
          subst (AreKnown t.schemes (t.contexts d).type_names) (binds_are p t (length p.nodes) typing bare.numbered (whole p bare) d (node.ValRec us bindings) l q refl) (typing.rules d (node.ValRec us bindings) l q).3
      value_knows d _ q e = absurd (never e)

      -- a name of a value declaration of the program has a type of type names that are made
      pub value_made : (d x : ℕ) → is_in (values p.nodes) d ≡ true → is_in (names_bound p.nodes d) x ≡ true → (ns : List ℕ) × AreMade ns × (mentions ns (t.schemes x).body ≡ true)
      value_made d x e h =
          of_kept ((ns : List ℕ) × AreMade ns × (mentions ns (t.schemes x).body ≡ true)) (λ d. is_value (slice_get p.nodes d)) (decs (lets p.nodes)) d e
          (λ there value. (
            (t.contexts d).type_names,
            nest_knows (length p.nodes) 0 d root_knows there,
            of_member (λ y. mentions (t.contexts d).type_names (t.schemes y).body ≡ true) (names_bound p.nodes d) x (value_knows d (slice_get p.nodes d) refl value) h,
          ))
