-- The rows of one more group of datatypes.
use Rattle.std.proofs.Common.{◌≡◌, ℕ, zero, suc, ◌+◌, ◌<◌, Bool, true, false, cond, List, [], ◌∷◌, ◌++◌, length, map, Option, Some, None, refl, sym, ap, ◌∙◌, arith, subst, ◌⊎◌, inl, inr, nat_eq, length-append}
use Rattle.std.specs.Prelude.{slice_get, ◌||◌}
use Rattle.std.specs.List.{AllByRecursion}
use Rattle.std.proofs.lemmas.Bool.{eq-eqb, eqb-true}
use Rattle.sml_tree.specs.declared.bare.Bare.{Bare}
use Rattle.sml_tree.specs.declared.bare.ConBinding.{ConBinding}
use Rattle.sml_tree.specs.declared.bare.DatBinding.{DatBinding}
use Rattle.sml_tree.specs.IsBare.{IsDistinct}
use Rattle.sml_types.specs.declared.types.Ty.{Ty}
use Rattle.sml_types.specs.declared.types.TyVar.{TyVar}
use Rattle.sml_types.specs.declared.types.TyForm.{TyForm}
use Rattle.sml_types.specs.declared.tables.Equality.{Equality}
use Rattle.sml_types.specs.declared.tables.Equality.TheVariants.{Never, Parts}
use Rattle.sml_types.specs.declared.tables.ConRow.{ConRow}
use Rattle.sml_types.specs.declared.tables.TypeName.{TypeName}
use Rattle.sml_types.specs.Forms.{tree}
use Rattle.sml_types.specs.Poly.{is_in}
use Rattle.sml_types.specs.Library.{name_type, cons_of, arg_of}
use Rattle.sml_types.specs.TypeExps.{all_explicit}
use Rattle.sml_types.specs.Equality.{choose}
use Rattle.sml_types.specs.Typing.{Typing, Covers, Written, type_numbers, IsArgument, CoversArgument, AreConstructors}
use Rattle.sml_unify.specs.Steps.{IsLonger}
use Rattle.infer_state.specs.Typings.{AreApart}
use Rattle.infer_tables.specs.declared.known.Known.{Known}
use Rattle.infer_tables.specs.Declare.{IsClosedArgument, IsClosedRow}
use Rattle.infer_tables.specs.Known.{IsMade, IsScope, Allows}
use Rattle.infer_tables.specs.Group.{header, headers, AreNext, IsArgumentRow, AreConRows, IsDatRow, AreDatRows}
use Rattle.infer_tables.proofs.Lists.{some_eq, all_both}
use Rattle.infer_tables.proofs.Meanings.{made_more}

-- ---- Lists

pub get_behind : {A : Type 0} (xs ys : List A) (i : ℕ) → slice_get (xs ++ ys) (length xs + i) ≡ slice_get ys i
get_behind [] ys i = ap (slice_get ys) (let z : 0 + i ≡ i = omega arith in z)
get_behind (x ∷ xs) ys i = ap (slice_get (x ∷ (xs ++ ys))) (let z : suc (length xs) + i ≡ suc (length xs + i) = omega arith in z) ∙ get_behind xs ys i

pub get_split : {A : Type 0} (xs ys : List A) (n : ℕ) (x : A) → slice_get (xs ++ ys) n ≡ Some x → (slice_get xs n ≡ Some x) ⊎ ((i : ℕ) × (n ≡ length xs + i) × (slice_get ys i ≡ Some x))
get_split [] ys n x e = inr (n, (let z : n ≡ 0 + n = omega arith in z), e)
get_split (y ∷ xs) ys zero x e = inl e
get_split {A = A} (y ∷ xs) ys (suc n) x e = later (get_split xs ys n x e)
  where
    later : (slice_get xs n ≡ Some x) ⊎ ((i : ℕ) × (n ≡ length xs + i) × (slice_get ys i ≡ Some x)) → (slice_get xs n ≡ Some x) ⊎ ((i : ℕ) × (suc n ≡ suc (length xs) + i) × (slice_get ys i ≡ Some x))
    later (inl q) = inl q
    later (inr q) = inr (q.0, (let z = q.1 in omega arith), q.2)

pub from_get : {A : Type 0} (P : A → Type 0) (xs : List A) → ((i : ℕ) (x : A) → slice_get xs i ≡ Some x → P x) → AllByRecursion P xs
from_get P [] h = tt
from_get P (x ∷ xs) h = (h 0 x refl, from_get P xs (λ i y e. h (suc i) y e))

-- ---- Numbers

pub numbers_count : (bs : List DatBinding) → length (type_numbers bs) ≡ length bs
numbers_count [] = refl
numbers_count (b ∷ bs) = ap suc (numbers_count bs)

pub next_at : (next : ℕ) (bs : List DatBinding) (i : ℕ) (b : DatBinding) → AreNext next bs → slice_get bs i ≡ Some b → b.type_name ≡ next + i
next_at next [] i b h e = cc
next_at next (c ∷ bs) zero b h e = ap (λ (x : DatBinding). x.type_name) (sym (some_eq c b e)) ∙ h.0 ∙ (let z : next ≡ next + 0 = omega arith in z)
next_at next (c ∷ bs) (suc i) b h e = next_at (suc next) bs i b h.2 e ∙ (let z : suc next + i ≡ next + suc i = omega arith in z)

other_first : (a n : ℕ) (bs : List ℕ) → n < a → is_in bs n ≡ false → (nat_eq n a || is_in bs n) ≡ false
other_first a n bs l h = by (nat_eq n a) refl
  where
    by : (w : Bool) → nat_eq n a ≡ w → (nat_eq n a || is_in bs n) ≡ false
    by true e = let s : n ≡ a = eqb-true n a e in absurd (omega arith)
    by false e = ap (λ x. x || is_in bs n) e ∙ h

pub no_member : (next n : ℕ) (bs : List DatBinding) → AreNext next bs → n < next → is_in (type_numbers bs) n ≡ false
no_member next n [] h l = refl
no_member next n (b ∷ bs) h l = other_first b.type_name n (type_numbers bs) (let e = h.0 in omega arith) (no_member (suc next) n bs h.2 (omega arith))

or_true : (a b : Bool) → b ≡ true → (a || b) ≡ true
or_true true b h = refl
or_true false b h = h

pub member : (bs : List DatBinding) (i : ℕ) (b : DatBinding) → slice_get bs i ≡ Some b → is_in (type_numbers bs) b.type_name ≡ true
member [] i b e = cc
member (c ∷ bs) zero b e = ap (λ w. w || is_in (type_numbers bs) b.type_name) (eq-eqb b.type_name c.type_name (ap (λ (x : DatBinding). x.type_name) (sym (some_eq c b e))))
member (c ∷ bs) (suc i) b e = or_true (nat_eq b.type_name c.type_name) (is_in (type_numbers bs) b.type_name) (member bs i b e)

pub over_numbers : (Q : ℕ → Type 0) (bs : List DatBinding) → ((i : ℕ) (b : DatBinding) → slice_get bs i ≡ Some b → Q b.type_name) → AllByRecursion Q (type_numbers bs)
over_numbers Q [] h = tt
over_numbers Q (b ∷ bs) h = (h 0 b refl, over_numbers Q bs (λ i c e. h (suc i) c e))

-- ---- Parameters

nums_are : (marks : List Bool) (us : List ℕ) → map (λ v. v.num) (all_explicit marks us) ≡ us
nums_are marks [] = refl
nums_are marks (u ∷ us) = ap (λ vs. u ∷ vs) (nums_are marks us)

apart : (us : List ℕ) → IsDistinct us → AreApart us
apart [] h = tt
apart (u ∷ us) h = (h.0, apart us h.1)

apart_vars : (marks : List Bool) (us : List ℕ) (vs : List TyVar) → vs ≡ all_explicit marks us → IsDistinct us → AreApart (map (λ v. v.num) vs)
apart_vars marks us vs e h = subst (λ ws. AreApart (map (λ v. v.num) ws)) (sym e) (subst AreApart (sym (nums_are marks us)) (apart us h))

-- ---- Headers

abbrev pub headed : Bare → List DatBinding → Known → Known
headed p bs k = record { tables = record { names = k.tables.names ++ headers p.tyvars bs }; abbreviations = k.abbreviations; stands = k.stands }

pub known_is : (a b : Known) → a.tables.names ≡ b.tables.names → a.abbreviations ≡ b.abbreviations → a.stands ≡ b.stands → a ≡ b
known_is a b e q r =
    ap (λ ns. record { tables = record { names = ns }; abbreviations = a.abbreviations; stands = a.stands }) e
    ∙ ap (λ ss. record { tables = record { names = b.tables.names }; abbreviations = ss; stands = a.stands }) q
    ∙ ap (λ ss. record { tables = record { names = b.tables.names }; abbreviations = b.abbreviations; stands = ss }) r

headers_closed : (forms : List TyForm) (marks : List Bool) (next : ℕ) (bs : List DatBinding) → AreNext next bs → AllByRecursion (IsClosedRow forms) (headers marks bs)
headers_closed forms marks next [] h = tt
headers_closed forms marks next (b ∷ bs) h = (record { apart = apart_vars marks b.params (all_explicit marks b.params) refl h.1; arguments = tt }, headers_closed forms marks (suc next) bs h.2)

pub header_at : (marks : List Bool) (bs : List DatBinding) (i : ℕ) (row : TypeName) → slice_get (headers marks bs) i ≡ Some row → (b : DatBinding) × (slice_get bs i ≡ Some b) × (row.params ≡ all_explicit marks b.params)
header_at marks [] i row e = cc
header_at marks (b ∷ bs) zero row e = (b, refl, ap (λ (r : TypeName). r.params) (sym (some_eq (header marks b) row e)))
header_at marks (b ∷ bs) (suc i) row e = header_at marks bs i row e

pub headers_count : (marks : List Bool) (bs : List DatBinding) → length (headers marks bs) ≡ length bs
headers_count marks [] = refl
headers_count marks (b ∷ bs) = ap suc (headers_count marks bs)

pub scope_headed : (p : Bare) (forms : List TyForm) (k : Known) (bs : List DatBinding) → IsScope p forms k → AreNext (length k.tables.names) bs → IsScope p forms (headed p bs k)
scope_headed p forms k bs h next =
    record {
      types = h.types;
      stands = h.stands;
      there = h.there;
      explicit_ones = h.explicit_ones;
      closed = h.closed;
      made = λ i s e. made_more p.tyvars (length k.tables.names) (length (k.tables.names ++ headers p.tyvars bs)) (tree forms s.body.0) (omega (arith, length-append k.tables.names (headers p.tyvars bs))) (h.made i s e);
      rows = all_both (IsClosedRow forms) k.tables.names (headers p.tyvars bs) h.rows (headers_closed forms p.tyvars (length k.tables.names) bs next);
    }

-- ---- Constructors

module _ (p : Bare) (new : List TyForm) (k : Known) where
  con_closed : (vars : List TyVar) (j : Option ℕ) (a : Option Ty) → IsArgumentRow p new k vars j a → IsClosedArgument new vars a
  con_closed vars None None h = tt
  con_closed vars None (Some a) h = absurd h
  con_closed vars (Some j) None h = absurd h
  con_closed vars (Some j) (Some a) h = (h.meaning.there, h.covers)

  cons_closed : (vars : List TyVar) (bs : List ConBinding) (cs : List ConRow) → AreConRows p new k vars bs cs → AllByRecursion (λ c. IsClosedArgument new vars c.arg) cs
  cons_closed vars [] [] h = tt
  cons_closed vars [] (c ∷ cs) h = absurd h
  cons_closed vars (b ∷ bs) [] h = absurd h
  cons_closed vars (b ∷ bs) (c ∷ cs) h = (con_closed vars b.arg c.arg h.0.arg, cons_closed vars bs cs h.1)

  made_one : (vars : List TyVar) (j : Option ℕ) (a : Option Ty) (x : Ty) → IsArgumentRow p new k vars j a → a ≡ Some x → IsMade p.tyvars (length k.tables.names) (tree new x.0)
  made_one vars None None x h e = cc
  made_one vars None (Some a) x h e = absurd h
  made_one vars (Some j) None x h e = absurd h
  made_one vars (Some j) (Some a) x h e = subst (λ (y : Ty). IsMade p.tyvars (length k.tables.names) (tree new y.0)) (some_eq a x e) h.meaning.made

  pub made_at : (vars : List TyVar) (bs : List ConBinding) (cs : List ConRow) (i : ℕ) (c : ConRow) (x : Ty) → AreConRows p new k vars bs cs → slice_get cs i ≡ Some c → c.arg ≡ Some x → IsMade p.tyvars (length k.tables.names) (tree new x.0)
  made_at vars [] [] i c x h e q = cc
  made_at vars [] (d ∷ cs) i c x h e q = absurd h
  made_at vars (b ∷ bs) [] i c x h e q = absurd h
  made_at vars (b ∷ bs) (d ∷ cs) zero c x h e q = made_one vars b.arg d.arg x h.0.arg (ap (λ (y : ConRow). y.arg) (some_eq d c e) ∙ q)
  made_at vars (b ∷ bs) (d ∷ cs) (suc i) c x h e q = made_at vars bs cs i c x h.1 e q

  module _ (t : Typing) (allows : Allows new k t) where
    arg_has : (vars : List TyVar) (j : Option ℕ) (a : Option Ty) → IsLonger new t.forms → IsArgumentRow p new k vars j a → IsArgument p t j a × CoversArgument p t vars a
    arg_has vars None None l h = (tt, tt)
    arg_has vars None (Some a) l h = absurd h
    arg_has vars (Some j) None l h = absurd h
    arg_has vars (Some j) (Some a) l h =
        let e = sym (l.trees a.0 h.meaning.there) in
        (subst (Written p t j) e (h.meaning.means t allows), subst (Covers vars) e h.covers)

    pub cons_have : (vars : List TyVar) (bs : List ConBinding) (cs : List ConRow) → IsLonger new t.forms → AreConRows p new k vars bs cs → AreConstructors p t bs cs × AllByRecursion (λ c. CoversArgument p t vars c.arg) cs
    cons_have vars [] [] l h = (tt, tt)
    cons_have vars [] (c ∷ cs) l h = absurd h
    cons_have vars (b ∷ bs) [] l h = absurd h
    cons_have vars (b ∷ bs) (c ∷ cs) l h =
        let a = arg_has vars b.arg c.arg l h.0.arg in
        let r = cons_have vars bs cs l h.1 in
        ((h.0.text, a.0, r.0), (a.1, r.1))

    arg_agrees : (vars : List TyVar) (j : Option ℕ) (a b : Option Ty) → IsArgumentRow p new k vars j a → IsArgument p t j b → arg_of t.forms b ≡ arg_of new a
    arg_agrees vars None None None h q = refl
    arg_agrees vars None None (Some b) h q = absurd q
    arg_agrees vars None (Some a) b h q = absurd h
    arg_agrees vars (Some j) None b h q = absurd h
    arg_agrees vars (Some j) (Some a) None h q = absurd q
    arg_agrees vars (Some j) (Some a) (Some b) h q = ap Some (h.meaning.only t allows (tree t.forms b.0) q)

    pub cons_agree : (vars : List TyVar) (bs : List ConBinding) (cs ds : List ConRow) → AreConRows p new k vars bs cs → AreConstructors p t bs ds → cons_of t.forms ds ≡ cons_of new cs
    cons_agree vars [] [] [] h q = refl
    cons_agree vars [] [] (d ∷ ds) h q = absurd q
    cons_agree vars [] (c ∷ cs) ds h q = absurd h
    cons_agree vars (b ∷ bs) [] ds h q = absurd h
    cons_agree vars (b ∷ bs) (c ∷ cs) [] h q = absurd q
    cons_agree vars (b ∷ bs) (c ∷ cs) (d ∷ ds) h q =
        let a = arg_agrees vars b.arg c.arg d.arg h.0.arg q.1 in
        let x = q.0 ∙ sym h.0.text in
        let r = cons_agree vars bs cs ds h.1 q.2 in
        ap (λ y. record { text = y; arg = arg_of t.forms d.arg } ∷ cons_of t.forms ds) x ∙ ap (λ y. record { text = c.text; arg = y } ∷ cons_of t.forms ds) a ∙ ap (λ ys. record { text = c.text; arg = arg_of new c.arg } ∷ ys) r

  pub row_at : (bs : List DatBinding) (rows : List TypeName) (i : ℕ) (b : DatBinding) → AreDatRows p new k bs rows → slice_get bs i ≡ Some b → (row : TypeName) × (slice_get rows i ≡ Some row) × IsDatRow p new k b row
  row_at [] rows i b h e = cc
  row_at (c ∷ bs) [] i b h e = absurd h
  row_at (c ∷ bs) (row ∷ rows) zero b h e = (row, refl, subst (λ x. IsDatRow p new k x row) (some_eq c b e) h.0)
  row_at (c ∷ bs) (row ∷ rows) (suc i) b h e = row_at bs rows i b h.1 e

  pub rows_count : (bs : List DatBinding) (rows : List TypeName) → AreDatRows p new k bs rows → length rows ≡ length bs
  rows_count [] [] h = refl
  rows_count [] (row ∷ rows) h = absurd h
  rows_count (b ∷ bs) [] h = absurd h
  rows_count (b ∷ bs) (row ∷ rows) h = ap suc (rows_count bs rows h.1)

  pub rows_closed : (bs : List DatBinding) (rows : List TypeName) → AreDatRows p new k bs rows → AllByRecursion (IsClosedRow new) rows
  rows_closed [] [] h = tt
  rows_closed [] (row ∷ rows) h = absurd h
  rows_closed (b ∷ bs) [] h = absurd h
  rows_closed (b ∷ bs) (row ∷ rows) h = (record { apart = apart_vars p.tyvars b.params row.params h.0.params h.0.apart; arguments = cons_closed row.params b.cons row.cons h.0.cons }, rows_closed bs rows h.1)

-- ---- Choices

pub choose_count : (group : List ℕ) (c : ℕ → Bool) (j : ℕ) (names : List TypeName) → length (choose group c j names) ≡ length names
choose_count group c j [] = refl
choose_count group c j (n ∷ names) = ap suc (choose_count group c (suc j) names)

closed_if : (forms : List TyForm) (b : Bool) (q : Equality) (row : TypeName) → IsClosedRow forms row → IsClosedRow forms (cond b (record { text = row.text; params = row.params; eq = q; cons = row.cons }) row)
closed_if forms true q row h = record { apart = h.apart; arguments = h.arguments }
closed_if forms false q row h = h

pub choose_closed : (forms : List TyForm) (group : List ℕ) (c : ℕ → Bool) (j : ℕ) (names : List TypeName) → AllByRecursion (IsClosedRow forms) names → AllByRecursion (IsClosedRow forms) (choose group c j names)
choose_closed forms group c j [] h = tt
choose_closed forms group c j (n ∷ names) h = (closed_if forms (is_in group j) (cond (c j) Parts Never) n h.0, choose_closed forms group c (suc j) names h.1)

pub row_eq : (forms fb : List TyForm) (a b : TypeName) → b.text ≡ a.text → b.params ≡ a.params → b.eq ≡ a.eq → cons_of fb b.cons ≡ cons_of forms a.cons → name_type fb b ≡ name_type forms a
row_eq forms fb a b e q r s =
    ap (λ x. record { text = x; params = b.params; eq = b.eq; cons = cons_of fb b.cons }) e
    ∙ ap (λ x. record { text = a.text; params = x; eq = b.eq; cons = cons_of fb b.cons }) q
    ∙ ap (λ x. record { text = a.text; params = a.params; eq = x; cons = cons_of fb b.cons }) r
    ∙ ap (λ x. record { text = a.text; params = a.params; eq = a.eq; cons = x }) s
