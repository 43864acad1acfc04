-- A written type means one type at most, and what it means follows from what its parts mean.
use Rattle.std.proofs.Common.{◌≡◌, ℕ, suc, Bool, List, [], ◌∷◌, length, Some, refl, sym, ap, ◌∙◌, subst, map}
use Rattle.std.specs.Prelude.{slice_get}
use Rattle.sml_tree.specs.declared.bare.TypeField.{TypeField}
use Rattle.sml_tree.specs.declared.bare.TypeExp.{TypeExp}
use Rattle.sml_tree.specs.declared.bare.TypeExp.TheVariants as exp
use Rattle.sml_types.specs.declared.tables.TypeName.{TypeName}
use Rattle.sml_types.specs.Tree.{Tree, Variable, inst}
use Rattle.sml_types.specs.Poly.{Poly}
use Rattle.sml_types.specs.Library.{name_ty, arrow}
use Rattle.sml_types.specs.TypeExps.{IsRecord, labelled, field_types, given, explicit, AreMeant, means_none, means_var, means_record, means_arrow, means_named, means_abbreviation}
use Rattle.infer_parts.specs.Segments.{exp_parts}
use Rattle.infer_parts.specs.Written.{AreTypeRows, IsOneMeant}
use Rattle.infer_parts.proofs.Slots.{one_record}

pub field_types_are : (fields : List TypeField) → field_types fields ≡ map (λ f. f.ty) fields
field_types_are [] = refl
field_types_are (f ∷ fields) = ap (λ is. f.ty ∷ is) (field_types_are fields)

pub field_count : (fields : List TypeField) → length (field_types fields) ≡ length fields
field_count [] = refl
field_count (f ∷ fields) = ap suc (field_count fields)

some_eq : {A : Type 0} (x y : A) → Some x ≡ Some y → x ≡ y
some_eq x y e = cc

module _ (exps : List TypeExp) (marks : List Bool) (names : List TypeName) (abbreviations : ℕ → Poly) where
  abbrev All : List ℕ → List Tree → Type 0
  All js ts = AreMeant exps marks names abbreviations js ts

  abbrev One : TypeExp → List Tree → Tree → Type 0
  One e ts t = IsOneMeant marks names abbreviations e ts t

  -- the first of several written types, taken apart
  pub record IsOpened (e : TypeExp) (js : List ℕ) (vs : List Tree) : Type 0 where
    pub type : Tree
    pub others : List Tree
    pub inner : List Tree
    pub are : vs ≡ type ∷ others
    pub parts_mean : All (exp_parts e) inner
    pub one : One e inner type
    pub others_mean : All js others

  pub opened : (j : ℕ) (js : List ℕ) (vs : List Tree) (e : TypeExp) → slice_get exps j ≡ Some e → All (j ∷ js) vs → IsOpened e js vs
  opened _ _ vs e q (means_var {js = js} {ts = ts} j u p rest) =
      subst (λ x. IsOpened x js vs) (some_eq (exp.Var u) e (sym p ∙ q)) (record { type = Variable (explicit marks u); others = ts; inner = []; are = refl; parts_mean = means_none; one = refl; others_mean = rest })
  opened _ _ vs e q (means_record {js = js} {ts = ts} j fields us t p mean is rest) =
      subst (λ x. IsOpened x js vs) (some_eq (exp.Record fields) e (sym p ∙ q)) (record { type = t; others = ts; inner = us; are = refl; parts_mean = subst (λ is. All is us) (field_types_are fields) mean; one = is; others_mean = rest })
  opened _ _ vs e q (means_arrow {js = js} {ts = ts} j a b t u p mean rest) =
      subst (λ x. IsOpened x js vs) (some_eq (exp.Arrow a b) e (sym p ∙ q)) (record { type = arrow t u; others = ts; inner = t ∷ u ∷ []; are = refl; parts_mean = mean; one = (t, u, refl, refl); others_mean = rest })
  opened _ _ vs e q (means_named {js = js} {ts = ts} j n args us row p r c mean rest) =
      subst (λ x. IsOpened x js vs) (some_eq (exp.Named n args) e (sym p ∙ q)) (record { type = name_ty n us; others = ts; inner = us; are = refl; parts_mean = mean; one = (row, r, c, refl); others_mean = rest })
  opened _ _ vs e q (means_abbreviation {js = js} {ts = ts} j k args us p c mean rest) =
      subst (λ x. IsOpened x js vs) (some_eq (exp.Abbreviation k args) e (sym p ∙ q)) (record { type = inst (given (abbreviations k).vars us) (abbreviations k).body; others = ts; inner = us; are = refl; parts_mean = mean; one = (c, refl); others_mean = rest })

  -- the other way round
  pub closed : (j : ℕ) (js : List ℕ) (e : TypeExp) (us : List Tree) (t : Tree) (ts : List Tree) → slice_get exps j ≡ Some e → All (exp_parts e) us → One e us t → All js ts → All (j ∷ js) (t ∷ ts)
  closed j js (exp.Var u) us t ts q mean one rest = subst (λ v. All (j ∷ js) (v ∷ ts)) (sym one) (means_var j u q rest)
  closed j js (exp.Record fields) us t ts q mean one rest = means_record j fields us t q (subst (λ is. All is us) (sym (field_types_are fields)) mean) one rest
  closed j js (exp.Arrow a b) us t ts q mean one rest =
      subst (λ v. All (j ∷ js) (v ∷ ts)) (sym one.3) (means_arrow j a b one.0 one.1 q (subst (λ vs. All (a ∷ b ∷ []) vs) one.2 mean) rest)
  closed j js (exp.Named n args) us t ts q mean one rest =
      subst (λ v. All (j ∷ js) (v ∷ ts)) (sym one.3) (means_named j n args us one.0 q one.1 one.2 mean rest)
  closed j js (exp.Abbreviation k args) us t ts q mean one rest =
      subst (λ v. All (j ∷ js) (v ∷ ts)) (sym one.1) (means_abbreviation j k args us q one.0 mean rest)
  closed j js (exp.UnitOf args) us t ts q mean one rest = absurd one

  -- as many types as written types
  pub as_many : (js : List ℕ) (ts : List Tree) → All js ts → length ts ≡ length js
  as_many js ts means_none = refl
  as_many js ts (means_var {js = ks} {ts = us} j u p rest) = ap suc (as_many ks us rest)
  as_many js ts (means_record {js = ks} {ts = us} j fields vs t p mean is rest) = ap suc (as_many ks us rest)
  as_many js ts (means_arrow {js = ks} {ts = us} j a b t u p mean rest) = ap suc (as_many ks us rest)
  as_many js ts (means_named {js = ks} {ts = us} j n args vs row p r c mean rest) = ap suc (as_many ks us rest)
  as_many js ts (means_abbreviation {js = ks} {ts = us} j k args vs p c mean rest) = ap suc (as_many ks us rest)

  both : (t u : Tree) (ts us vs : List Tree) → vs ≡ u ∷ us → t ≡ u → ts ≡ us → t ∷ ts ≡ vs
  both t u ts us vs e p q = cc

  module _ (rows : AreTypeRows exps) where
    -- written types mean one list of types at most
    pub only : (js : List ℕ) (ts vs : List Tree) → All js ts → All js vs → ts ≡ vs
    only js ts vs means_none means_none = refl
    only js ts vs (means_var {js = ks} {ts = us} j u p rest) h =
        let o = opened j ks vs (exp.Var u) p h in both (Variable (explicit marks u)) o.type us o.others vs o.are (sym o.one) (only ks us o.others rest o.others_mean)
    only js ts vs (means_record {js = ks} {ts = us} j fields ws t p mean is rest) h =
        let o = opened j ks vs (exp.Record fields) p h in
        let inner : ws ≡ o.inner = only (field_types fields) ws o.inner mean (subst (λ is. All is o.inner) (sym (field_types_are fields)) o.parts_mean) in
        let count = as_many (field_types fields) ws mean in
        both t o.type us o.others vs o.are (one_record fields ws t o.type (rows j fields p) (count ∙ field_count fields) is (subst (λ xs. IsRecord (labelled fields xs) o.type) (sym inner) o.one)) (only ks us o.others rest o.others_mean)
    only js ts vs (means_arrow {js = ks} {ts = us} j a b t u p mean rest) h =
        let o = opened j ks vs (exp.Arrow a b) p h in
        let inner = only (a ∷ b ∷ []) (t ∷ u ∷ []) o.inner mean o.parts_mean in
        let same : t ∷ u ∷ [] ≡ o.one.0 ∷ o.one.1 ∷ [] = inner ∙ o.one.2 in
        let first : t ≡ o.one.0 = cc in
        let second : u ≡ o.one.1 = cc in
        both (arrow t u) o.type us o.others vs o.are (ap (λ x. arrow x u) first ∙ ap (λ x. arrow o.one.0 x) second ∙ sym o.one.3) (only ks us o.others rest o.others_mean)
    only js ts vs (means_named {js = ks} {ts = us} j n args ws row p r c mean rest) h =
        let o = opened j ks vs (exp.Named n args) p h in
        let inner = only args ws o.inner mean o.parts_mean in
        both (name_ty n ws) o.type us o.others vs o.are (ap (name_ty n) inner ∙ sym o.one.3) (only ks us o.others rest o.others_mean)
    only js ts vs (means_abbreviation {js = ks} {ts = us} j k args ws p c mean rest) h =
        let o = opened j ks vs (exp.Abbreviation k args) p h in
        let inner = only args ws o.inner mean o.parts_mean in
        both (inst (given (abbreviations k).vars ws) (abbreviations k).body) o.type us o.others vs o.are (ap (λ xs. inst (given (abbreviations k).vars xs) (abbreviations k).body) inner ∙ sym o.one.1) (only ks us o.others rest o.others_mean)
