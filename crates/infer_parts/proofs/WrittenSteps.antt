-- The written types from one number up to another, made one after another.
use Rattle.std.proofs.Common.{◌≡◌, ℕ, zero, suc, ◌+◌, ◌-◌, ◌<◌, ◌≤◌, Bool, true, false, List, [], ◌∷◌, ◌++◌, length, Option, Some, None, refl, sym, ap, ◌∙◌, arith, subst, map, nat_eq, length-append}
use Rattle.std.specs.Prelude.{slice_get}
use Rattle.std.specs.List.{AllByRecursion}
use Rattle.std.proofs.lemmas.Bool.{eq-eqb, eqb-true, ltb-true}
use Rattle.sml_tree.specs.declared.bare.Bare.{Bare}
use Rattle.sml_tree.specs.declared.bare.TypeField.{TypeField}
use Rattle.sml_tree.specs.declared.bare.TypeExp.{TypeExp}
use Rattle.sml_tree.specs.declared.bare.TypeExp.TheVariants as exp
use Rattle.sml_tree.specs.IsBare.{TypeStands}
use Rattle.sml_types.specs.declared.types.Ty.{Ty}
use Rattle.sml_types.specs.declared.types.TyVar.{TyVar}
use Rattle.sml_types.specs.declared.types.TyForm.{TyForm}
use Rattle.sml_types.specs.declared.tables.TypeName.{TypeName}
use Rattle.sml_types.specs.declared.scheme.Scheme.{Scheme}
use Rattle.sml_types.specs.Tree.{Tree, inst}
use Rattle.sml_types.specs.Poly.{Poly, poly}
use Rattle.sml_types.specs.TypeExps.{AreMeant, means_none, means_var, means_record, means_arrow, means_named, means_abbreviation, Means}
use Rattle.sml_types.proofs.TreeFacts.{inst_same}
use Rattle.sml_unify.specs.Steps.{IsLonger}
use Rattle.sml_unify.specs.Solved.{joined}
use Rattle.infer_parts.specs.Segments.{exp_parts}
use Rattle.infer_parts.specs.Written.{stood, standing, AreThere, AreAbbreviations, IsClosedScheme, AreTypeRows, is_cited, IsFitting, IsTypeOf, IsWritten, IsOneMeant, IsMadeTy, IsNext, IsThere, AreMadeThere, AreTrees, all_taken, entry_at, both_taken}
use Rattle.infer_parts.proofs.CopySteps.{longer_then, some_eq}
use Rattle.infer_parts.proofs.Forms.{both_some, closed_at, at_all}
use Rattle.infer_parts.proofs.Meanings.{opened, closed, only}

-- ---- Lists of written types

module _ (exps : List TypeExp) (marks : List Bool) (names : List TypeName) (abbreviations : ℕ → Poly) where
  abbrev All : List ℕ → List Tree → Type 0
  All js ts = AreMeant exps marks names abbreviations js ts

  added : (j : ℕ) (js : List ℕ) (t : Tree) (ts : List Tree) → All (j ∷ []) (t ∷ []) → All js ts → All (j ∷ js) (t ∷ ts)
  added _ js _ ts (means_var j u p rest) more = means_var j u p more
  added _ js _ ts (means_record j fields us t p mean is rest) more = means_record j fields us t p mean is more
  added _ js _ ts (means_arrow j a b t u p mean rest) more = means_arrow j a b t u p mean more
  added _ js _ ts (means_named j n args us row p r c mean rest) more = means_named j n args us row p r c mean more
  added _ js _ ts (means_abbreviation j k args us p c mean rest) more = means_abbreviation j k args us p c mean more

  -- the first, and the others
  pub record IsSplit (j : ℕ) (js : List ℕ) (vs : List Tree) : Type 0 where
    pub type : Tree
    pub others : List Tree
    pub first : All (j ∷ []) (type ∷ [])
    pub rest : All js others

  split : (j : ℕ) (js : List ℕ) (vs : List Tree) → All (j ∷ js) vs → IsSplit j js vs
  split _ _ vs (means_var {ts = ts} j u p rest) = record { type = _; others = ts; first = means_var j u p means_none; rest = rest }
  split _ _ vs (means_record {ts = ts} j fields us t p mean is rest) = record { type = t; others = ts; first = means_record j fields us t p mean is means_none; rest = rest }
  split _ _ vs (means_arrow {ts = ts} j a b t u p mean rest) = record { type = _; others = ts; first = means_arrow j a b t u p mean means_none; rest = rest }
  split _ _ vs (means_named {ts = ts} j n args us row p r c mean rest) = record { type = _; others = ts; first = means_named j n args us row p r c mean means_none; rest = rest }
  split _ _ vs (means_abbreviation {ts = ts} j k args us p c mean rest) = record { type = _; others = ts; first = means_abbreviation j k args us p c mean means_none; rest = rest }

  module _ (at : TyVar → Tree) (forms : List TyForm) where
    abbrev Is : ℕ → Option Ty → Type 0
    Is j o = IsWritten exps marks names abbreviations at forms j o

    module _ (first : ℕ) (made : List (Option Ty)) where
      abbrev AreParts : List ℕ → Type 0
      AreParts cs = AllByRecursion (λ c. Is c (entry_at first made c)) cs

      one_none : (c : ℕ) (o : Option Ty) (p : Option (List Ty)) (t : Tree) → Is c o → both_taken o p ≡ None → All (c ∷ []) (t ∷ []) → p ≡ None
      one_none c None p t h e m = absurd (h t m)
      one_none c (Some u) None t h e m = refl
      one_none c (Some u) (Some us) t h e m = cc

      -- if a part has no type, the parts mean none
      none_taken : (cs : List ℕ) (ts : List Tree) → AreParts cs → all_taken first made cs ≡ None → All cs ts → ⊥
      none_taken [] ts h e m = cc
      none_taken (c ∷ cs) ts h e m =
          let s = split c cs ts m in
          none_taken cs s.others h.1 (one_none c (entry_at first made c) (all_taken first made cs) s.type h.0 e s.first) s.rest

      pub record AreTaken (cs : List ℕ) (tys : List Ty) : Type 0 where
        pub types : List Tree
        pub mean : All cs types
        pub are : AreTrees forms at tys types

      some_taken : (cs : List ℕ) (tys : List Ty) → AreParts cs → all_taken first made cs ≡ Some tys → AreTaken cs tys
      some_taken [] tys h e = let same : [] ≡ tys = cc in subst (AreTaken []) same (record { types = []; mean = means_none; are = refl })
      some_taken (c ∷ cs) tys h e =
          let b = both_some (entry_at first made c) (all_taken first made cs) tys e in
          let one : IsTypeOf exps marks names abbreviations at forms c b.0 = subst (Is c) b.2 h.0 in
          let rest = some_taken cs b.1 h.1 b.3 in
          subst
          (AreTaken (c ∷ cs))
          (sym b.4)
          (record {
            types = one.type ∷ rest.types;
            mean = added c cs one.type rest.types one.means rest.mean;
            are = let l = one.is in let r = rest.are in cc;
          })

later : (exps : List TypeExp) (marks : List Bool) (names : List TypeName) (abbreviations : ℕ → Poly) (at : TyVar → Tree) (forms forms2 : List TyForm) (j : ℕ) (o : Option Ty) → IsLonger forms forms2 → IsWritten exps marks names abbreviations at forms j o → IsWritten exps marks names abbreviations at forms2 j o
later exps marks names abbreviations at forms forms2 j None l h = h
later exps marks names abbreviations at forms forms2 j (Some ty) l h =
    record {
      there = let a = h.there in let b = l.count in omega arith;
      type = h.type;
      means = h.means;
      only = h.only;
      is = l.trees ty.0 h.there ∙ h.is;
    }

there_later : (forms forms2 : List TyForm) (made : List (Option Ty)) → length forms ≤ length forms2 → AreMadeThere forms made → AreMadeThere forms2 made
there_later forms forms2 [] l h = tt
there_later forms forms2 (None ∷ made) l h = (tt, there_later forms forms2 made l h.1)
there_later forms forms2 (Some t ∷ made) l h = (let a = h.0 in omega arith, there_later forms forms2 made l h.1)

there_more : (forms : List TyForm) (made : List (Option Ty)) (o : Option Ty) → AreMadeThere forms made → IsThere forms o → AreMadeThere forms (made ++ o ∷ [])
there_more forms [] o h k = (k, tt)
there_more forms (p ∷ made) o h k = (h.0, there_more forms made o h.1 k)

stood_later : (old forms : List TyForm) (stands : List Ty) (v : TyVar) (o : Option Ty) → IsLonger old forms → AreThere old stands → slice_get stands v.num ≡ o → stood forms v o ≡ stood old v o
stood_later old forms stands v None l h e = refl
stood_later old forms stands v (Some t) l h e = l.trees t.0 (at_all (λ (w : Ty). w.0 < length old) stands v.num t h e)

get_in : {A : Type 0} (xs : List A) (i : ℕ) → i < length xs → (x : A) × (slice_get xs i ≡ Some x)
get_in [] i l = absurd (omega arith)
get_in (x ∷ xs) zero l = (x, refl)
get_in (x ∷ xs) (suc i) l = get_in xs i (omega arith)

get_front : {A : Type 0} (xs : List A) (y : A) (i : ℕ) → i < length xs → slice_get (xs ++ y ∷ []) i ≡ slice_get xs i
get_front [] y i l = absurd (omega arith)
get_front (x ∷ xs) y zero l = refl
get_front (x ∷ xs) y (suc i) l = get_front xs y i (omega arith)

get_last : {A : Type 0} (xs : List A) (y : A) → slice_get (xs ++ y ∷ []) (length xs) ≡ Some y
get_last [] y = refl
get_last (x ∷ xs) y = get_last xs y

both_hold : (P Q R : ℕ → Type 0) (is : List ℕ) → ((i : ℕ) → P i → Q i → R i) → AllByRecursion P is → AllByRecursion Q is → AllByRecursion R is
both_hold P Q R [] f p q = tt
both_hold P Q R (i ∷ is) f p q = (f i p.0 q.0, both_hold P Q R is f p.1 q.1)

module _ (exps : List TypeExp) (marks : List Bool) (names : List TypeName) (schemes : List Scheme) (stands : List Ty) (old : List TyForm) (first : ℕ) where
  -- what was made of the written types from the first up to a number
  pub record AreWritten (i : ℕ) (forms : List TyForm) (made : List (Option Ty)) : Type 0 where
    pub longer : IsLonger old forms
    pub count : first + length made ≡ i
    pub there : AreMadeThere forms made
    pub each : (k : ℕ) (o : Option Ty) → first ≤ k → k < i → slice_get made (k - first) ≡ Some o → (abbreviations : ℕ → Poly) → AreAbbreviations old schemes abbreviations → IsWritten exps marks names abbreviations (standing old stands) forms k o

  pub none_written : AreWritten first old []
  none_written =
      record {
        longer = record { count = omega arith; keeps = λ i f e. e; trees = λ i l. refl };
        count = omega arith;
        there = tt;
        each = λ k o lo hi e. absurd (omega arith);
      }

  module _ (rows : AreTypeRows exps) (bodies : AllByRecursion (IsClosedScheme old) schemes) (stand : AreThere old stands) (i : ℕ) (forms forms2 : List TyForm) (made : List (Option Ty)) (h : AreWritten i forms made) (l : IsLonger forms forms2) (e : TypeExp) (here : slice_get exps i ≡ Some e) (above : AllByRecursion (λ c. first ≤ c) (exp_parts e)) (before : AllByRecursion (λ c. c < i) (exp_parts e)) where
    abbrev at : TyVar → Tree
    at = standing old stands

    same_at : (t : Tree) → inst (standing forms stands) t ≡ inst at t
    same_at t = inst_same (standing forms stands) at t (λ v o. stood_later old forms stands v (slice_get stands v.num) h.longer stand refl)

    module _ (abbreviations : ℕ → Poly) (agree : AreAbbreviations old schemes abbreviations) where
      agree_later : AreAbbreviations forms schemes abbreviations
      agree_later k s q = agree k s q ∙ ap (poly s.vars) (sym (h.longer.trees s.body.0 (closed_at old schemes k s bodies q).0))

      part_written : (c : ℕ) → first ≤ c → c < i → IsWritten exps marks names abbreviations at forms c (entry_at first made c)
      part_written c lo hi =
          let o = get_in made (c - first) (let n = h.count in omega arith) in
          subst (IsWritten exps marks names abbreviations at forms c) (sym (ap joined o.1)) (h.each c o.0 lo hi o.1 abbreviations agree)

      parts_written : AllByRecursion (λ c. IsWritten exps marks names abbreviations at forms c (entry_at first made c)) (exp_parts e)
      parts_written = both_hold (λ c. first ≤ c) (λ c. c < i) (λ c. IsWritten exps marks names abbreviations at forms c (entry_at first made c)) (exp_parts e) part_written above before

      settled : (ts : List Tree) (o : Option Ty) → AreMeant exps marks names abbreviations (exp_parts e) ts → IsMadeTy (IsOneMeant marks names abbreviations e ts) (standing forms stands) forms2 o → IsWritten exps marks names abbreviations at forms2 i o
      settled ts None mean m = λ t is.
          let o = opened exps marks names abbreviations i [] (t ∷ []) e here is in
          let same = only exps marks names abbreviations rows (exp_parts e) o.inner ts o.parts_mean mean in
          m o.type (subst (λ us. IsOneMeant marks names abbreviations e us o.type) same o.one)
      settled ts (Some ty) mean m =
          let is : Means exps marks names abbreviations i m.1 = closed exps marks names abbreviations i [] e ts m.1 [] here mean m.2 means_none in
          record {
            there = m.0;
            type = m.1;
            means = is;
            only = λ u k. let w : u ∷ [] ≡ m.1 ∷ [] = only exps marks names abbreviations rows (i ∷ []) (u ∷ []) (m.1 ∷ []) k is in cc;
            is = m.3 ∙ same_at m.1;
          }

      this_written : (taken : Option (List Ty)) (o : Option Ty) → all_taken first made (exp_parts e) ≡ taken → IsNext names schemes stands forms e taken forms2 o → IsWritten exps marks names abbreviations at forms2 i o
      this_written None o q n =
          subst (IsWritten exps marks names abbreviations at forms2 i) (sym n) (λ t is.
          let w = opened exps marks names abbreviations i [] (t ∷ []) e here is in
          none_taken exps marks names abbreviations at forms first made (exp_parts e) w.inner parts_written q w.parts_mean)
      this_written (Some tys) o q n =
          let s = some_taken exps marks names abbreviations at forms first made (exp_parts e) tys parts_written q in
          settled s.types o s.mean (n marks abbreviations s.types agree_later (s.are ∙ same_trees s.types))
        where
          same_trees : (ts : List Tree) → map (inst at) ts ≡ map (inst (standing forms stands)) ts
          same_trees [] = refl
          same_trees (t ∷ ts) = let a = same_at t in let b = same_trees ts in cc

    -- one more
    pub more_written : (o : Option Ty) → IsThere forms2 o → IsNext names schemes stands forms e (all_taken first made (exp_parts e)) forms2 o → AreWritten (i + 1) forms2 (made ++ o ∷ [])
    more_written o there n =
        record {
          longer = longer_then old forms forms2 h.longer l;
          count = let c = h.count in omega (arith, length-append made (o ∷ []));
          there = there_more forms2 made o (there_later forms forms2 made l.count h.there) there;
          each = λ k p lo hi q abbreviations agree. one k p lo hi q abbreviations agree (nat_eq k i) refl;
        }
      where
        one : (k : ℕ) (p : Option Ty) → first ≤ k → k < i + 1 → slice_get (made ++ o ∷ []) (k - first) ≡ Some p → (abbreviations : ℕ → Poly) → AreAbbreviations old schemes abbreviations → (b : Bool) → nat_eq k i ≡ b → IsWritten exps marks names abbreviations at forms2 k p
        one k p lo hi q abbreviations agree true w =
            let same : k ≡ i = eqb-true k i w in
            let c = h.count in
            let place : length made ≡ k - first = omega arith in
            let is : Some o ≡ Some p = sym (get_last made o) ∙ ap (slice_get (made ++ o ∷ [])) place ∙ q in
            let one_is : o ≡ p = cc in
            subst (λ j. IsWritten exps marks names abbreviations at forms2 j p) (sym same) (subst (IsWritten exps marks names abbreviations at forms2 i) one_is (this_written abbreviations agree (all_taken first made (exp_parts e)) o refl n))
        one k p lo hi q abbreviations agree false w =
            let other : k ≡ i → ⊥ = λ s. let z : true ≡ false = sym (eq-eqb k i s) ∙ w in cc in
            let c = h.count in
            later exps marks names abbreviations at forms forms2 k p l (h.each k p lo (omega (arith, other)) (sym (get_front made o (k - first) (omega (arith, other))) ∙ q) abbreviations agree)

-- ---- What a bare tree's types cite

all_types : (i : ℕ) (fields : List TypeField) → AllByRecursion (λ f. f.ty < i) fields → AllByRecursion (λ c. c < i) (map (λ f. f.ty) fields)
all_types i [] h = tt
all_types i (f ∷ fields) h = (h.0, all_types i fields h.1)

pub parts_before : (p : Bare) (i : ℕ) (e : TypeExp) → TypeStands p i e → AllByRecursion (λ c. c < i) (exp_parts e)
parts_before p i (exp.Var u) h = tt
parts_before p i (exp.Record fields) h = all_types i fields h
parts_before p i (exp.Arrow a b) h = (h.0, (h.1, tt))
parts_before p i (exp.Named n args) h = h
parts_before p i (exp.Abbreviation k args) h = h
parts_before p i (exp.UnitOf args) h = h

pub fitting : (p : Bare) (vars count i : ℕ) (e : TypeExp) → vars ≡ length p.tyvars → AreTypeRows p.types → is_cited count e ≡ true → slice_get p.types i ≡ Some e → TypeStands p i e → IsFitting vars count e
fitting p vars count i (exp.Var u) v rows cited q h = subst (λ n. u < n) (sym v) h
fitting p vars count i (exp.Record fields) v rows cited q h = rows i fields q
fitting p vars count i (exp.Arrow a b) v rows cited q h = tt
fitting p vars count i (exp.Named n args) v rows cited q h = tt
fitting p vars count i (exp.Abbreviation k args) v rows cited q h = ltb-true k count cited
fitting p vars count i (exp.UnitOf args) v rows cited q h = tt

-- one more cites what is there
pub one_cited : (exps : List TypeExp) (count first at : ℕ) (e : TypeExp) → slice_get exps at ≡ Some e → is_cited count e ≡ true → ((i : ℕ) (f : TypeExp) → first ≤ i → i < at → slice_get exps i ≡ Some f → is_cited count f ≡ true) → (i : ℕ) (f : TypeExp) → first ≤ i → i < at + 1 → slice_get exps i ≡ Some f → is_cited count f ≡ true
one_cited exps count first at e p h before i f lo hi q = go (nat_eq i at) refl
  where
    go : (b : Bool) → nat_eq i at ≡ b → is_cited count f ≡ true
    go true w =
        let same = eqb-true i at w in
        let one : e ≡ f = some_eq e f (sym p ∙ sym (ap (slice_get exps) same) ∙ q) in
        ap (is_cited count) (sym one) ∙ h
    go false w = before i f lo (let apart : (i ≡ at → ⊥) = (λ (s : i ≡ at). let t = eq-eqb i at s in cc) in omega arith) q
