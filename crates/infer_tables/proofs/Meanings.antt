-- What a written type means depends on what it cites alone, and is made of explicit type variables and known type names.
use Rattle.std.proofs.Common.{◌≡◌, ℕ, suc, ◌<◌, ◌≤◌, Bool, true, false, cond, List, [], ◌∷◌, length, Some, refl, sym, ap, ◌∙◌, arith, subst, nat_eq, map}
use Rattle.std.specs.Prelude.{slice_get}
use Rattle.std.specs.List.{AllByRecursion}
use Rattle.std.proofs.lemmas.Bool.{eqb-true}
use Rattle.sml_tree.specs.declared.bare.Bare.{Bare}
use Rattle.sml_tree.specs.declared.bare.Lab.{Lab}
use Rattle.sml_tree.specs.Sets.{has}
use Rattle.sml_tree.specs.declared.bare.TypeField.{TypeField}
use Rattle.sml_tree.specs.declared.bare.TypeExp.TheVariants as exp
use Rattle.sml_types.specs.declared.types.TyVar.{TyVar}
use Rattle.sml_types.specs.declared.tables.TypeName.{TypeName}
use Rattle.sml_types.specs.Tree.{Head, ArrowHead, FieldsHead, NameHead, Tree, Variable, App, NoParts, Part, inst}
use Rattle.sml_types.specs.Poly.{Poly}
use Rattle.sml_types.specs.Library.{parts}
use Rattle.sml_types.specs.TypeExps.{IsRecord, Labelled, labelled, field_types, given, explicit, AreMeant, means_none, means_var, means_record, means_arrow, means_named, means_abbreviation}
use Rattle.sml_types.proofs.TreeFacts.{either}
use Rattle.infer_parts.specs.Written.{IsTypeRow}
use Rattle.infer_parts.proofs.Slots.{all_there, labelled_slots, labelled_count, slots_all, length-slots}
use Rattle.infer_tables.specs.Checks.{AreBareTypes, AllCiteBelow}
use Rattle.infer_tables.specs.Known.{IsMadeHead, IsMade}
use Rattle.infer_tables.proofs.Lists.{some_eq, within}

-- ---- Parts

below_is : (last j : ℕ) (js : List ℕ) → j ≤ last → AllByRecursion (λ c. c < j) js → AllByRecursion (λ c. c ≤ last) js
below_is last j [] l h = tt
below_is last j (c ∷ js) l h = ((let k = h.0 in omega arith), below_is last j js l h.1)

fields_below : (last j : ℕ) (fields : List TypeField) → j ≤ last → AllByRecursion (λ f. f.ty < j) fields → AllByRecursion (λ c. c ≤ last) (field_types fields)
fields_below last j [] l h = tt
fields_below last j (f ∷ fields) l h = ((let k = h.0 in omega arith), fields_below last j fields l h.1)

field_count : (fields : List TypeField) → length (field_types fields) ≡ length fields
field_count [] = refl
field_count (f ∷ fields) = ap suc (field_count fields)

-- ---- Made types

pub made_more : (marks : List Bool) (a b : ℕ) (t : Tree) → a ≤ b → IsMade marks a t → IsMade marks b t
made_more marks a b (Variable v) l h = h
made_more marks a b (App c ts) l h = (head c h.0, made_more marks a b ts l h.1)
  where
    head : (c : Head) → IsMadeHead a c → IsMadeHead b c
    head ArrowHead k = k
    head (FieldsHead labs) k = k
    head (NameHead n) k = omega arith
made_more marks a b NoParts l h = tt
made_more marks a b (Part t ts) l h = (made_more marks a b t l h.0, made_more marks a b ts l h.1)

-- what is made is the same where each explicit type variable stands for itself
pub made_same : (marks : List Bool) (count : ℕ) (f : TyVar → Tree) (t : Tree) → ((u : ℕ) → f (explicit marks u) ≡ Variable (explicit marks u)) → IsMade marks count t → inst f t ≡ t
made_same marks count f (Variable v) h m = ap f m ∙ h v.num ∙ ap Variable (sym m)
made_same marks count f (App c ts) h m = ap (App c) (made_same marks count f ts h m.1)
made_same marks count f NoParts h m = refl
made_same marks count f (Part t ts) h m = let l = made_same marks count f t h m.0 in let r = made_same marks count f ts h m.1 in cc

made_inst : (marks : List Bool) (count : ℕ) (f : TyVar → Tree) (t : Tree) → ((v : TyVar) → v ≡ explicit marks v.num → IsMade marks count (f v)) → IsMade marks count t → IsMade marks count (inst f t)
made_inst marks count f (Variable v) h m = h v m
made_inst marks count f (App c ts) h m = (m.0, made_inst marks count f ts h m.1)
made_inst marks count f NoParts h m = tt
made_inst marks count f (Part t ts) h m = (made_inst marks count f t h m.0, made_inst marks count f ts h m.1)

made_parts : (marks : List Bool) (count : ℕ) (ts : List Tree) → AllByRecursion (IsMade marks count) ts → IsMade marks count (parts ts)
made_parts marks count [] h = tt
made_parts marks count (t ∷ ts) h = (h.0, made_parts marks count ts h.1)

made_if : (marks : List Bool) (count : ℕ) (b : Bool) (t u : Tree) → IsMade marks count t → IsMade marks count u → IsMade marks count (cond b t u)
made_if marks count true t u h k = h
made_if marks count false t u h k = k

made_given : (marks : List Bool) (count : ℕ) (vs : List TyVar) (ts : List Tree) (v : TyVar) → AllByRecursion (IsMade marks count) ts → v ≡ explicit marks v.num → IsMade marks count (given vs ts v)
made_given marks count [] ts v h e = e
made_given marks count (w ∷ vs) [] v h e = e
made_given marks count (w ∷ vs) (t ∷ ts) v h e = made_if marks count (nat_eq v.num w.num) t (given vs ts v) h.0 (made_given marks count vs ts v h.1 e)

-- the types of a record are those of its fields, each at a place: what holds of all fields' types holds of all of them
from_get : (P : Tree → Type 0) (ts : List Tree) → ((i : ℕ) (t : Tree) → slice_get ts i ≡ Some t → P t) → AllByRecursion P ts
from_get P [] h = tt
from_get P (t ∷ ts) h = (h 0 t refl, from_get P ts (λ i u e. h (suc i) u e))

labelled_all : (P : Tree → Type 0) (fields : List TypeField) (ts : List Tree) → AllByRecursion P ts → AllByRecursion (λ f. P f.ty) (labelled fields ts)
labelled_all P [] ts h = tt
labelled_all P (f ∷ fields) [] h = tt
labelled_all P (f ∷ fields) (t ∷ ts) h = (h.0, labelled_all P fields ts h.1)

at_place : (P : Tree → Type 0) (fs : List Labelled) (labs : List Lab) (types : List Tree) (s : ℕ) (t : Tree) → AllByRecursion (λ f. (slice_get labs f.slot ≡ Some f.lab) × (slice_get types f.slot ≡ Some f.ty)) fs → AllByRecursion (λ f. P f.ty) fs → has (map (λ f. f.slot) fs) s ≡ true → slice_get types s ≡ Some t → P t
at_place P [] labs types s t placed h e q = cc
at_place P (f ∷ fs) labs types s t placed h e q =
    either
    (nat_eq s f.slot)
    (has (map (λ g. g.slot) fs) s)
    (P t)
    e
    (λ k. subst P (some_eq f.ty t (sym placed.0.1 ∙ ap (slice_get types) (sym (eqb-true s f.slot k)) ∙ q)) h.0)
    (λ k. at_place P fs labs types s t placed.1 h.1 k q)

record_made : (marks : List Bool) (count : ℕ) (fields : List TypeField) (ts : List Tree) (t : Tree) → IsTypeRow fields → length ts ≡ length fields → AllByRecursion (IsMade marks count) ts → IsRecord (labelled fields ts) t → IsMade marks count t
record_made marks count fields ts t row c h r =
    let n = labelled_count fields ts c in
    let everywhere : (s : ℕ) → s < length fields → has (map (λ f. f.slot) (labelled fields ts)) s ≡ true =
    λ s l. ap (λ is. has is s) (labelled_slots fields ts c) ∙ all_there (length fields) (map (λ f. f.slot) fields) s row.0 (slots_all (λ x. x < length fields) fields row.1) (length-slots fields) l in
    subst (IsMade marks count) (sym r.is) (tt, made_parts marks count r.types (from_get (IsMade marks count) r.types (λ s u e. at_place (IsMade marks count) (labelled fields ts) r.labs r.types s u r.placed (labelled_all (IsMade marks count) fields ts h) (everywhere s (let l = within r.types s u e in let z = r.types_count in omega arith)) e)))

-- ---- Walks

module _ (p : Bare) (last : ℕ) (types : AreBareTypes p) (count bindings : ℕ) (cited : AllCiteBelow count bindings p.types last) (names : List TypeName) (meanings : ℕ → Poly) where
  abbrev Meant : List ℕ → List Tree → Type 0
  Meant js ts = AreMeant p.types p.tyvars names meanings js ts

  abbrev Below : List ℕ → Type 0
  Below js = AllByRecursion (λ c. c ≤ last) js

  as_many : (js : List ℕ) (ts : List Tree) → Meant js ts → length ts ≡ length js
  as_many js ts means_none = refl
  as_many js ts (means_var {js = ks} {ts = us} j u q rest) = ap suc (as_many ks us rest)
  as_many js ts (means_record {js = ks} {ts = us} j fields vs t q mean is rest) = ap suc (as_many ks us rest)
  as_many js ts (means_arrow {js = ks} {ts = us} j a b t u q mean rest) = ap suc (as_many ks us rest)
  as_many js ts (means_named {js = ks} {ts = us} j n args vs row q r c mean rest) = ap suc (as_many ks us rest)
  as_many js ts (means_abbreviation {js = ks} {ts = us} j k args vs q c mean rest) = ap suc (as_many ks us rest)

  -- the meaning is the same by other tables that have what is cited
  pub moved : (others : List TypeName) (meanings2 : ℕ → Poly) → ((n : ℕ) (row : TypeName) → n < count → slice_get names n ≡ Some row → (other : TypeName) × (slice_get others n ≡ Some other) × (other.params ≡ row.params)) → ((k : ℕ) → k < bindings → meanings k ≡ meanings2 k) → (js : List ℕ) (ts : List Tree) → Below js → Meant js ts → AreMeant p.types p.tyvars others meanings2 js ts
  moved others meanings2 rows same js ts b means_none = means_none
  moved others meanings2 rows same js ts b (means_var {js = ks} {ts = us} j u q rest) = means_var j u q (moved others meanings2 rows same ks us b.1 rest)
  moved others meanings2 rows same js ts b (means_record {js = ks} {ts = us} j fields vs t q mean is rest) =
      means_record j fields vs t q (moved others meanings2 rows same (field_types fields) vs (fields_below last j fields b.0 (types.stand j (exp.Record fields) q)) mean) is (moved others meanings2 rows same ks us b.1 rest)
  moved others meanings2 rows same js ts b (means_arrow {js = ks} {ts = us} j x y t u q mean rest) =
      let s = types.stand j (exp.Arrow x y) q in
      means_arrow j x y t u q (moved others meanings2 rows same (x ∷ y ∷ []) (t ∷ u ∷ []) (below_is last j (x ∷ y ∷ []) b.0 (s.0, (s.1, tt))) mean) (moved others meanings2 rows same ks us b.1 rest)
  moved others meanings2 rows same js ts b (means_named {js = ks} {ts = us} j n args vs row q r c mean rest) =
      let o = rows n row (cited j (exp.Named n args) b.0 q) r in
      means_named j n args vs o.0 q o.1 (c ∙ ap length (sym o.2)) (moved others meanings2 rows same args vs (below_is last j args b.0 (types.stand j (exp.Named n args) q)) mean) (moved others meanings2 rows same ks us b.1 rest)
  moved others meanings2 rows same js ts b (means_abbreviation {js = ks} {ts = us} j k args vs q c mean rest) =
      let e = same k (cited j (exp.Abbreviation k args) b.0 q) in
      subst
      (λ (m : Poly). AreMeant p.types p.tyvars others meanings2 (j ∷ ks) (inst (given m.vars vs) m.body ∷ us))
      (sym e)
      (means_abbreviation j k args vs q (c ∙ ap (λ m. length m.vars) e) (moved others meanings2 rows same args vs (below_is last j args b.0 (types.stand j (exp.Abbreviation k args) q)) mean) (moved others meanings2 rows same ks us b.1 rest))

  -- the types that are meant are made
  pub all_made : ((k : ℕ) → k < bindings → IsMade p.tyvars count (meanings k).body) → (js : List ℕ) (ts : List Tree) → Below js → Meant js ts → AllByRecursion (IsMade p.tyvars count) ts
  all_made bodies js ts b means_none = tt
  all_made bodies js ts b (means_var {js = ks} {ts = us} j u q rest) = (refl, all_made bodies ks us b.1 rest)
  all_made bodies js ts b (means_record {js = ks} {ts = us} j fields vs t q mean is rest) = (
    record_made p.tyvars count fields vs t (types.rows j fields q) (as_many (field_types fields) vs mean ∙ field_count fields) (all_made bodies (field_types fields) vs (fields_below last j fields b.0 (types.stand j (exp.Record fields) q)) mean) is,
    all_made bodies ks us b.1 rest,
  )
  all_made bodies js ts b (means_arrow {js = ks} {ts = us} j x y t u q mean rest) =
      let s = types.stand j (exp.Arrow x y) q in
      let both = all_made bodies (x ∷ y ∷ []) (t ∷ u ∷ []) (below_is last j (x ∷ y ∷ []) b.0 (s.0, (s.1, tt))) mean in
      ((tt, (both.0, (both.1.0, tt))), all_made bodies ks us b.1 rest)
  all_made bodies js ts b (means_named {js = ks} {ts = us} j n args vs row q r c mean rest) = (
    (cited j (exp.Named n args) b.0 q, made_parts p.tyvars count vs (all_made bodies args vs (below_is last j args b.0 (types.stand j (exp.Named n args) q)) mean)),
    all_made bodies ks us b.1 rest,
  )
  all_made bodies js ts b (means_abbreviation {js = ks} {ts = us} j k args vs q c mean rest) =
      let inner = all_made bodies args vs (below_is last j args b.0 (types.stand j (exp.Abbreviation k args) q)) mean in (
        made_inst p.tyvars count (given (meanings k).vars vs) (meanings k).body (λ v e. made_given p.tyvars count (meanings k).vars vs v inner e) (bodies k (cited j (exp.Abbreviation k args) b.0 q)),
        all_made bodies ks us b.1 rest,
      )
