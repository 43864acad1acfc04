-- One more constructor, and one more datatype.
use Rattle.std.proofs.Common.{◌≡◌, ℕ, zero, suc, ◌+◌, ◌≤◌, List, [], ◌∷◌, ◌++◌, length, take, Option, Some, None, refl, sym, ap, ◌∙◌, arith, subst, Bool, length-append}
use Rattle.std.specs.Prelude.{slice_get}
use Rattle.std.specs.List.{AllByRecursion}
use Rattle.sml_tree.specs.declared.bare.Bare.{Bare}
use Rattle.sml_tree.specs.declared.bare.ConBinding.{ConBinding}
use Rattle.sml_tree.specs.declared.bare.DatBinding.{DatBinding}
use Rattle.sml_tree.specs.IsBare.{IsDistinct}
use Rattle.sml_types.specs.declared.types.Ty.{Ty}
use Rattle.sml_types.specs.declared.types.TyVar.{TyVar}
use Rattle.sml_types.specs.declared.types.TyForm.{TyForm}
use Rattle.sml_types.specs.declared.tables.Equality.TheVariants.{Never}
use Rattle.sml_types.specs.declared.tables.ConRow.{ConRow}
use Rattle.sml_types.specs.declared.tables.TypeName.{TypeName}
use Rattle.sml_types.specs.TypeExps.{all_explicit}
use Rattle.sml_types.specs.Typing.{Typing, IsArgument, CoversArgument, AreConstructors, IsDatBinding}
use Rattle.sml_unify.specs.Steps.{IsLonger}
use Rattle.infer_tables.specs.declared.known.Known.{Known}
use Rattle.infer_tables.specs.Known.{IsScope}
use Rattle.infer_tables.specs.Group.{header, headers, AreNext, IsArgumentRow, IsConRow, AreConRows, IsDatRow, AreDatRows, IsConRowOrNone, AreConRowsOrNone, IsDatRowOrNone, AreDatRowsOrNone}
use Rattle.infer_tables.proofs.Lists.{some_eq, at_all}
use Rattle.infer_tables.proofs.MeaningFacts.{covered_longer}

pub take_one : {A : Type 0} (xs : List A) (i : ℕ) (x : A) → slice_get xs i ≡ Some x → take (i + 1) xs ≡ take i xs ++ x ∷ []
take_one [] i x e = cc
take_one (y ∷ xs) zero x e = ap (λ z. z ∷ []) (some_eq y x e)
take_one (y ∷ xs) (suc i) x e = let n : suc i + 1 ≡ suc (i + 1) = omega arith in ap (λ k. take k (y ∷ xs)) n ∙ ap (λ zs. y ∷ zs) (take_one xs i x e)

pub take_end : {A : Type 0} (xs : List A) (i : ℕ) → length xs ≤ i → take i xs ≡ xs
take_end [] zero l = refl
take_end [] (suc i) l = refl
take_end (x ∷ xs) zero l = absurd (omega arith)
take_end (x ∷ xs) (suc i) l = ap (λ ys. x ∷ ys) (take_end xs i (omega arith))

-- ---- Later forms

module _ (p : Bare) (old new : List TyForm) (k : Known) (l : IsLonger old new) (scope : IsScope p old k) where
  argument_longer : (vars : List TyVar) (j : Option ℕ) (a : Option Ty) → IsArgumentRow p old k vars j a → IsArgumentRow p new k vars j a
  argument_longer vars None None h = tt
  argument_longer vars None (Some a) h = absurd h
  argument_longer vars (Some j) None h = absurd h
  argument_longer vars (Some j) (Some a) h = covered_longer p old new k vars j a l scope h

  pub cons_longer : (vars : List TyVar) (bs : List ConBinding) (cs : List ConRow) → AreConRows p old k vars bs cs → AreConRows p new k vars bs cs
  cons_longer vars [] [] h = tt
  cons_longer vars [] (c ∷ cs) h = absurd h
  cons_longer vars (b ∷ bs) [] h = absurd h
  cons_longer vars (b ∷ bs) (c ∷ cs) h = (record { text = h.0.text; arg = argument_longer vars b.arg c.arg h.0.arg }, cons_longer vars bs cs h.1)

  pub rows_longer : (bs : List DatBinding) (rows : List TypeName) → AreDatRows p old k bs rows → AreDatRows p new k bs rows
  rows_longer [] [] h = tt
  rows_longer [] (r ∷ rows) h = absurd h
  rows_longer (b ∷ bs) [] h = absurd h
  rows_longer (b ∷ bs) (r ∷ rows) h = (record { text = h.0.text; params = h.0.params; apart = h.0.apart; cons = cons_longer r.params b.cons r.cons h.0.cons }, rows_longer bs rows h.1)

-- ---- One more

module _ (p : Bare) (forms : List TyForm) (k : Known) where
  cons_snoc : (vars : List TyVar) (bs : List ConBinding) (cs : List ConRow) (b : ConBinding) (c : ConRow) → AreConRows p forms k vars bs cs → IsConRow p forms k vars b c → AreConRows p forms k vars (bs ++ b ∷ []) (cs ++ c ∷ [])
  cons_snoc vars [] [] b c h q = (q, tt)
  cons_snoc vars [] (d ∷ cs) b c h q = absurd h
  cons_snoc vars (a ∷ bs) [] b c h q = absurd h
  cons_snoc vars (a ∷ bs) (d ∷ cs) b c h q = (h.0, cons_snoc vars bs cs b c h.1 q)

  rows_snoc : (bs : List DatBinding) (rows : List TypeName) (b : DatBinding) (r : TypeName) → AreDatRows p forms k bs rows → IsDatRow p forms k b r → AreDatRows p forms k (bs ++ b ∷ []) (rows ++ r ∷ [])
  rows_snoc [] [] b r h q = (q, tt)
  rows_snoc [] (d ∷ rows) b r h q = absurd h
  rows_snoc (a ∷ bs) [] b r h q = absurd h
  rows_snoc (a ∷ bs) (d ∷ rows) b r h q = (h.0, rows_snoc bs rows b r h.1 q)

  pub con_added : (vars : List TyVar) (bs : List ConBinding) (i : ℕ) (b : ConBinding) (cs cs2 : List ConRow) (o : Option ConRow) (c : ConRow) → slice_get bs i ≡ Some b → AreConRows p forms k vars (take i bs) cs → IsConRowOrNone p forms k vars b o → o ≡ Some c → cs2 ≡ cs ++ c ∷ [] → AreConRows p forms k vars (take (i + 1) bs) cs2
  con_added vars bs i b cs cs2 o c e h q w x =
      subst (λ xs. AreConRows p forms k vars xs cs2) (sym (take_one bs i b e)) (subst (AreConRows p forms k vars (take i bs ++ b ∷ [])) (sym x) (cons_snoc vars (take i bs) cs b c h (subst (IsConRowOrNone p forms k vars b) w q)))

  pub row_added : (bs : List DatBinding) (i : ℕ) (b : DatBinding) (rows rows2 : List TypeName) (o : Option TypeName) (r : TypeName) → slice_get bs i ≡ Some b → AreDatRows p forms k (take i bs) rows → IsDatRowOrNone p forms k b o → o ≡ Some r → rows2 ≡ rows ++ r ∷ [] → AreDatRows p forms k (take (i + 1) bs) rows2
  row_added bs i b rows rows2 o r e h q w x =
      subst (λ xs. AreDatRows p forms k xs rows2) (sym (take_one bs i b e)) (subst (AreDatRows p forms k (take i bs ++ b ∷ [])) (sym x) (rows_snoc (take i bs) rows b r h (subst (IsDatRowOrNone p forms k b) w q)))

  pub cons_done : (vars : List TyVar) (bs : List ConBinding) (i : ℕ) (cs : List ConRow) → length bs ≤ i → AreConRows p forms k vars (take i bs) cs → AreConRows p forms k vars bs cs
  cons_done vars bs i cs l h = subst (λ xs. AreConRows p forms k vars xs cs) (take_end bs i l) h

  pub rows_done : (bs : List DatBinding) (i : ℕ) (rows : List TypeName) → length bs ≤ i → AreDatRows p forms k (take i bs) rows → AreDatRows p forms k bs rows
  rows_done bs i rows l h = subst (λ xs. AreDatRows p forms k xs rows) (take_end bs i l) h

  -- ---- None

  con_pick : (t : Typing) (bs : List ConBinding) (cs : List ConRow) (i : ℕ) (b : ConBinding) → AreConstructors p t bs cs → slice_get bs i ≡ Some b → (c : ConRow) × (slice_get cs i ≡ Some c) × IsArgument p t b.arg c.arg
  con_pick t [] cs i b h e = cc
  con_pick t (a ∷ bs) [] i b h e = absurd h
  con_pick t (a ∷ bs) (c ∷ cs) zero b h e = (c, refl, subst (λ (x : ConBinding). IsArgument p t x.arg c.arg) (some_eq a b e) h.1)
  con_pick t (a ∷ bs) (c ∷ cs) (suc i) b h e = con_pick t bs cs i b h.2 e

  pub con_refused : (vars : List TyVar) (bs : List ConBinding) (i : ℕ) (b : ConBinding) (o : Option ConRow) → slice_get bs i ≡ Some b → IsConRowOrNone p forms k vars b o → o ≡ None → AreConRowsOrNone p forms k vars bs None
  con_refused vars bs i b o e q w = λ t a cs h v.
      let c = con_pick t bs cs i b h e in
      subst (IsConRowOrNone p forms k vars b) w q t a c.0 c.2 (at_all (λ (d : ConRow). CoversArgument p t vars d.arg) cs i c.0 v c.1)

  pub row_refused : (bs : List DatBinding) (i : ℕ) (b : DatBinding) (o : Option TypeName) → slice_get bs i ≡ Some b → IsDatRowOrNone p forms k b o → o ≡ None → AreDatRowsOrNone p forms k bs None
  row_refused bs i b o e q w = λ t a h. subst (IsDatRowOrNone p forms k b) w q t a (at_all (IsDatBinding p t) bs i b h e)

  -- the constructors that no typing has are none of a datatype
  pub dat_refused : (b : DatBinding) (vars : List TyVar) → vars ≡ all_explicit p.tyvars b.params → AreConRowsOrNone p forms k vars b.cons None → IsDatRowOrNone p forms k b None
  dat_refused b vars e n = λ t a d. n t a d.row.cons d.cons (subst (λ vs. AllByRecursion (λ (c : ConRow). CoversArgument p t vs c.arg) d.row.cons) (d.params ∙ sym e) d.covers)

-- ---- Headers

headers_snoc : (marks : List Bool) (bs : List DatBinding) (b : DatBinding) → headers marks (bs ++ b ∷ []) ≡ headers marks bs ++ header marks b ∷ []
headers_snoc marks [] b = refl
headers_snoc marks (a ∷ bs) b = ap (λ hs. header marks a ∷ hs) (headers_snoc marks bs b)

append_assoc : {A : Type 0} (xs ys zs : List A) → (xs ++ ys) ++ zs ≡ xs ++ (ys ++ zs)
append_assoc [] ys zs = refl
append_assoc (x ∷ xs) ys zs = ap (λ ws. x ∷ ws) (append_assoc xs ys zs)

pub header_added : (marks : List Bool) (before names names2 : List TypeName) (bs : List DatBinding) (i : ℕ) (b : DatBinding) (row : TypeName) → slice_get bs i ≡ Some b → names ≡ before ++ headers marks (take i bs) → row ≡ header marks b → names2 ≡ names ++ row ∷ [] → names2 ≡ before ++ headers marks (take (i + 1) bs)
header_added marks before names names2 bs i b row e h r q =
    q ∙ ap (λ ns. ns ++ row ∷ []) h ∙ ap (λ x. (before ++ headers marks (take i bs)) ++ x ∷ []) r ∙ append_assoc before (headers marks (take i bs)) (header marks b ∷ [])
    ∙ ap (λ hs. before ++ hs) (sym (headers_snoc marks (take i bs) b)) ∙ ap (λ xs. before ++ headers marks xs) (sym (take_one bs i b e))

next_snoc : (next : ℕ) (bs : List DatBinding) (b : DatBinding) → AreNext next bs → b.type_name ≡ next + length bs → IsDistinct b.params → AreNext next (bs ++ b ∷ [])
next_snoc next [] b h e d = (e ∙ (let z : next + 0 ≡ next = omega arith in z), d, tt)
next_snoc next (a ∷ bs) b h e d = (h.0, h.1, next_snoc (suc next) bs b h.2 (e ∙ (let z : next + suc (length bs) ≡ suc next + length bs = omega arith in z)) d)

headers_count : (marks : List Bool) (bs : List DatBinding) → length (headers marks bs) ≡ length bs
headers_count marks [] = refl
headers_count marks (b ∷ bs) = ap suc (headers_count marks bs)

pub next_added : (marks : List Bool) (before names : List TypeName) (bs : List DatBinding) (i : ℕ) (b : DatBinding) → slice_get bs i ≡ Some b → names ≡ before ++ headers marks (take i bs) → b.type_name ≡ length names → IsDistinct b.params → AreNext (length before) (take i bs) → AreNext (length before) (take (i + 1) bs)
next_added marks before names bs i b e h n d w =
    let c = ap length h in
    subst (AreNext (length before)) (sym (take_one bs i b e)) (next_snoc (length before) (take i bs) b w (omega (arith, n, length-append before (headers marks (take i bs)), headers_count marks (take i bs))) d)

pub append_none : {A : Type 0} (xs : List A) → xs ≡ xs ++ []
append_none [] = refl
append_none (x ∷ xs) = ap (λ ys. x ∷ ys) (append_none xs)

pub header_is : (marks : List Bool) (b : DatBinding) (text : List ℕ) (params : List TyVar) (cons : List ConRow) → text ≡ [] → params ≡ all_explicit marks b.params → cons ≡ [] → record { text = text; params = params; eq = Never; cons = cons } ≡ header marks b
header_is marks b text params cons e q r =
    ap (λ x. record { text = x; params = params; eq = Never; cons = cons }) e ∙ ap (λ x. record { text = []; params = x; eq = Never; cons = cons }) q ∙ ap (λ x. record { text = []; params = all_explicit marks b.params; eq = Never; cons = x }) r

taken_front : {A : Type 0} (xs ys : List A) → take (length xs) (xs ++ ys) ≡ xs
taken_front [] [] = refl
taken_front [] (y ∷ ys) = refl
taken_front (x ∷ xs) ys = ap (λ zs. x ∷ zs) (taken_front xs ys)

-- headers make room for rows
pub rows_behind : (first : ℕ) (xs hs all rows names : List TypeName) → first ≡ length xs → all ≡ xs ++ hs → names ≡ take first all ++ rows → names ≡ xs ++ rows
rows_behind first xs hs all rows names e q r =
    r ∙ ap (λ n. take n all ++ rows) e ∙ ap (λ ys. take (length xs) ys ++ rows) q ∙ ap (λ ys. ys ++ rows) (taken_front xs hs)
