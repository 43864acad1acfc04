-- The constructors of the tables.
use Rattle.sml_sound.proofs.Lists.{some_eq}
use Rattle.std.proofs.Common.{◌≡◌, ℕ, zero, suc, true, false, List, [], ◌∷◌, Option, Some, None, refl, sym, ap, ◌∙◌, subst}
use Rattle.std.specs.Prelude.{slice_get, take}
use Rattle.sml_tree.specs.declared.bare.Bare.{Bare}
use Rattle.sml_types.specs.declared.types.Ty.{Ty}
use Rattle.sml_types.specs.declared.types.TyVar.{TyVar}
use Rattle.sml_types.specs.declared.types.TyForm.{TyForm}
use Rattle.sml_types.specs.declared.tables.ConRow.{ConRow}
use Rattle.sml_types.specs.declared.tables.TypeName.{TypeName}
use Rattle.sml_types.specs.Tree.{Tree, inst}
use Rattle.sml_types.specs.Poly.{Poly, poly}
use Rattle.sml_types.specs.Forms.{tree}
use Rattle.sml_types.specs.Library.{parts, name_ty, arrow, arg_of, ConType, NameType, cons_of, name_type, name_types, library, BeginsWithLibrary}
use Rattle.sml_types.specs.Typing.{Typing, variables, con_ty, TakesAs, IsDataPoly}
use Rattle.sml_sound.specs.TypedStates.{IsCon, data_ty, IsApplied, HasTy, Entry}
use Rattle.sml_sound.proofs.Families.{covered}
use Rattle.sml_def.specs.State.{Value}

get_take : {A : Type 0} (k : ℕ) (xs : List A) (n : ℕ) (r : A) → slice_get (take k xs) n ≡ Some r → slice_get xs n ≡ Some r
get_take zero xs n r e = cc
get_take (suc k) [] n r e = cc
get_take (suc k) (x ∷ xs) zero r e = e
get_take (suc k) (x ∷ xs) (suc n) r e = get_take k xs n r e

row_of : (forms : List TyForm) (names : List TypeName) (n : ℕ) (r : NameType) → slice_get (name_types forms names) n ≡ Some r → (row : TypeName) × (slice_get names n ≡ Some row) × (name_type forms row ≡ r)
row_of forms [] n r e = cc
row_of forms (x ∷ names) zero r e = (x, refl, some_eq (name_type forms x) r e)
row_of forms (x ∷ names) (suc n) r e = row_of forms names n r e

con_of : (forms : List TyForm) (cons : List ConRow) (k : ℕ) (c : ConType) → slice_get (cons_of forms cons) k ≡ Some c → (con : ConRow) × (slice_get cons k ≡ Some con) × (arg_of forms con.arg ≡ c.arg)
con_of forms [] k c e = cc
con_of forms (x ∷ cons) zero c e = (x, refl, ap (λ c. c.arg) (some_eq (record { text = x.text; arg = arg_of forms x.arg }) c e))
con_of forms (x ∷ cons) (suc k) c e = con_of forms cons k c e

con_back : (forms : List TyForm) (cons : List ConRow) (k : ℕ) (con : ConRow) → slice_get cons k ≡ Some con → slice_get (cons_of forms cons) k ≡ Some (record { text = con.text; arg = arg_of forms con.arg })
con_back forms [] k con e = cc
con_back forms (x ∷ cons) zero con e =
    ap (λ x. Some (record { text = x.text; arg = arg_of forms x.arg })) (some_eq x con e)
con_back forms (x ∷ cons) (suc k) con e = con_back forms cons k con e

module _ (p : Bare) (t : Typing) where
  -- a constructor has one row
  pub con_same : (n k : ℕ) (ps qs : List TyVar) (a b : Option Tree) → IsCon p t n k ps a → IsCon p t n k qs b → (ps ≡ qs) × (a ≡ b)
  con_same n k ps qs a b h j =
      let r : h.row ≡ j.row = some_eq h.row j.row (sym h.named ∙ j.named) in
      let c : h.con ≡ j.con = some_eq h.con j.con (sym h.numbered ∙ ap (λ r. slice_get r.cons k) r ∙ j.numbered) in
      (sym h.params ∙ ap (λ r. r.params) r ∙ j.params, sym h.is ∙ ap (λ c. arg_of t.forms c.arg) c ∙ j.is)

  pub same_data : (k n m : ℕ) (ps qs : List TyVar) (a b : Option Tree) (f g : TyVar → Tree) → IsCon p t n k ps a → IsCon p t m k qs b → inst f (data_ty p t n ps) ≡ inst g (data_ty p t m qs) → (a ≡ b) × (inst f (parts (variables ps)) ≡ inst g (parts (variables ps)))
  same_data k n m ps qs a b f g h j e =
      let same : n ≡ m = cc in
      let r = con_same n k ps qs a b h (subst (λ z. IsCon p t z k qs b) (sym same) j) in
      let inner : inst f (parts (variables ps)) ≡ inst g (parts (variables qs)) = cc in
      (r.1, inner ∙ ap (λ xs. inst g (parts (variables xs))) (sym r.0))

  -- what a constructor is applied to has the type of its argument
  pub applied_arg : (sig : List Entry) (k n : ℕ) (ps : List TyVar) (a u : Tree) (g : TyVar → Tree) (v : Value) → IsApplied p t sig k v u → IsCon p t n k ps (Some a) → u ≡ inst g (data_ty p t n ps) → HasTy p t sig v (inst g a)
  applied_arg sig k n ps a u g v h c e =
      let m = h.0 in
      let r = same_data k m.name n m.params ps (Some m.arg) (Some a) h.1 g h.2.is_con c (sym h.3 ∙ e) in
      let same : m.arg ≡ a = some_eq m.arg a r.0 in
      subst (HasTy p t sig v) (covered h.1 g m.params r.1 m.arg h.2.covers ∙ ap (inst g) same) h.4

  -- the scheme of a constructor with an argument
  pub data_takes : (n k : ℕ) (s : Poly) → IsDataPoly p t n k true s → (ps : List TyVar) × (a : Tree) × IsCon p t n k ps (Some a) × (s ≡ poly ps (arrow a (data_ty p t n ps)))
  data_takes n k s d = go d.con.arg refl d.takes_as
    where
      go : (o : Option Ty) → d.con.arg ≡ o → TakesAs o true → (ps : List TyVar) × (a : Tree) × IsCon p t n k ps (Some a) × (s ≡ poly ps (arrow a (data_ty p t n ps)))
      go None e h = cc
      go (Some a) e h = (
        d.row.params,
        tree t.forms a.0,
        record { row = d.row; con = d.con; named = d.named; numbered = d.numbered; params = refl; is = ap (arg_of t.forms) e },
        d.is ∙ ap (λ o. poly d.row.params (con_ty (arg_of t.forms o) (name_ty n (variables d.row.params)))) e,
      )

  pub data_plain : (n k : ℕ) (s : Poly) → IsDataPoly p t n k false s → (ps : List TyVar) × IsCon p t n k ps None × (s ≡ poly ps (data_ty p t n ps))
  data_plain n k s d = go d.con.arg refl d.takes_as
    where
      go : (o : Option Ty) → d.con.arg ≡ o → TakesAs o false → (ps : List TyVar) × IsCon p t n k ps None × (s ≡ poly ps (data_ty p t n ps))
      go (Some a) e h = cc
      go None e h = (
        d.row.params,
        record { row = d.row; con = d.con; named = d.named; numbered = d.numbered; params = refl; is = ap (arg_of t.forms) e },
        d.is ∙ ap (λ o. poly d.row.params (con_ty (arg_of t.forms o) (name_ty n (variables d.row.params)))) e,
      )

  module _ (lib : BeginsWithLibrary t.forms t.names) where
    pub row_at : (n : ℕ) (r : NameType) → slice_get (library lib.param) n ≡ Some r → (row : TypeName) × (slice_get t.names n ≡ Some row) × (name_type t.forms row ≡ r)
    row_at n r e =
        row_of t.forms t.names n r (get_take 10 (name_types t.forms t.names) n r (ap (λ xs. slice_get xs n) lib.rows ∙ e))

    -- the library's constructors
    pub library_con : (n k : ℕ) (r : NameType) (c : ConType) → slice_get (library lib.param) n ≡ Some r → slice_get r.cons k ≡ Some c → IsCon p t n k r.params c.arg
    library_con n k r c e d =
        let row = row_at n r e in
        let con = con_of t.forms row.0.cons k c (ap (λ r. slice_get r.cons k) row.2 ∙ d) in
        record { row = row.0; con = con.0; named = row.1; numbered = con.1; params = ap (λ r. r.params) row.2; is = con.2 }

    -- and no others
    pub library_has : (n k : ℕ) (r : NameType) (ps : List TyVar) (a : Option Tree) → slice_get (library lib.param) n ≡ Some r → IsCon p t n k ps a → (c : ConType) × (slice_get r.cons k ≡ Some c) × (c.arg ≡ a)
    library_has n k r ps a e h =
        let row = row_at n r e in
        let same : h.row ≡ row.0 = some_eq h.row row.0 (sym h.named ∙ row.1) in
        (record { text = h.con.text; arg = arg_of t.forms h.con.arg }, ap (λ r. slice_get r.cons k) (sym row.2) ∙ con_back t.forms row.0.cons k h.con (ap (λ r. slice_get r.cons k) (sym same) ∙ h.numbered), h.is)
