-- What a written type means has no variables but explicit ones, so a substitution that leaves these leaves it.
use Rattle.std.proofs.Common.{◌≡◌, ℕ, zero, suc, ◌<◌, ◌≤◌, Bool, true, false, cond, List, [], ◌∷◌, length, Some, refl, sym, ap, ◌∙◌, subst, arith, nat_eq, map, inl, inr, ◌⊎◌}
use Rattle.std.specs.Prelude.{slice_get}
use Rattle.std.specs.List.{AllByRecursion}
use Rattle.std.proofs.lemmas.Bool.{eq-eqb}
use Rattle.sml_tree.specs.declared.bare.Bare.{Bare}
use Rattle.sml_tree.specs.declared.bare.Node.{Node}
use Rattle.sml_tree.specs.IsBare.{TypeStands}
use Rattle.sml_tree.specs.declared.bare.TypeField.{TypeField}
use Rattle.sml_tree.specs.declared.bare.TypeExp.{TypeExp}
use Rattle.sml_tree.specs.declared.bare.TypeExp.TheVariants as exp
use Rattle.sml_types.specs.declared.types.TyVar.{TyVar}
use Rattle.sml_types.specs.declared.types.TyForm.{TyForm}
use Rattle.sml_types.specs.declared.scheme.Scheme.{Scheme}
use Rattle.sml_types.specs.declared.tables.TypeName.{TypeName}
use Rattle.sml_types.specs.Tree.{FieldsHead, NameHead, ArrowHead, Tree, Variable, App, NoParts, Part, inst}
use Rattle.sml_types.specs.Poly.{Poly}
use Rattle.sml_types.specs.Library.{parts}
use Rattle.sml_types.specs.TypeExps.{Labelled, IsRecord, labelled, field_types, given, AreMeant, Means, means_none, means_var, means_record, means_arrow, means_named, means_abbreviation}
use Rattle.sml_types.specs.Typing.{IsAmong, Covers}
use Rattle.sml_unify.specs.Solved.{Substitution}
use Rattle.infer_parts.specs.Written.{AreTypeRows, AreAbbreviations, IsClosedScheme}
use Rattle.infer_parts.proofs.Meanings.{as_many, field_count}
use Rattle.infer_parts.proofs.Slots.{one_record}
use Rattle.infer_laws.specs.Cited.{node_types, LeavesExplicit, LeavesWritten, AreClosedUpTo, AreCitedUpTo}

-- a substitution leaves these types
abbrev AreLeft : Substitution → List Tree → Type 0
AreLeft f ts = AllByRecursion (λ t. inst f t ≡ t) ts

parts_left : (f : Substitution) (ts : List Tree) → AreLeft f ts → inst f (parts ts) ≡ parts ts
parts_left f [] h = refl
parts_left f (t ∷ ts) h = let a = h.0 in let b = parts_left f ts h.1 in cc

parts_map : (f : Substitution) (ts : List Tree) → inst f (parts ts) ≡ parts (map (inst f) ts)
parts_map f [] = refl
parts_map f (t ∷ ts) = let b = parts_map f ts in cc

-- ---- Records

map_count : (f : Substitution) (ts : List Tree) → length (map (inst f) ts) ≡ length ts
map_count f [] = refl
map_count f (t ∷ ts) = ap suc (map_count f ts)

map_at : (f : Substitution) (ts : List Tree) (i : ℕ) (t : Tree) → slice_get ts i ≡ Some t → slice_get (map (inst f) ts) i ≡ Some (inst f t)
map_at f [] i t e = cc
map_at f (u ∷ ts) zero t e = ap (λ (w : Tree). Some (inst f w)) (same u t e)
  where
    same : (x y : Tree) → Some x ≡ Some y → x ≡ y
    same x y q = cc
map_at f (u ∷ ts) (suc i) t e = map_at f ts i t e

abbrev Placed : List Tree → Labelled → Type 0
Placed types l = slice_get types l.slot ≡ Some l.ty

placed_left : (f : Substitution) (labs : Labelled → Type 0) (types : List Tree) (fields : List TypeField) (ts : List Tree) → AreLeft f ts → AllByRecursion (λ l. labs l × Placed types l) (labelled fields ts) → AllByRecursion (λ l. labs l × Placed (map (inst f) types) l) (labelled fields ts)
placed_left f labs types [] ts h p = tt
placed_left f labs types (x ∷ fields) [] h p = tt
placed_left f labs types (x ∷ fields) (t ∷ ts) h p =
    ((p.0.0, map_at f types x.slot t p.0.1 ∙ ap Some h.0), placed_left f labs types fields ts h.1 p.1)

record_left : (f : Substitution) (fields : List TypeField) (ts : List Tree) (t : Tree) → AreLeft f ts → IsRecord (labelled fields ts) t → IsRecord (labelled fields ts) (inst f t)
record_left f fields ts t h r =
    record {
      labs = r.labs;
      types = map (inst f) r.types;
      labs_count = r.labs_count;
      types_count = map_count f r.types ∙ r.types_count;
      placed = placed_left f (λ l. slice_get r.labs l.slot ≡ Some l.lab) r.types fields ts h r.placed;
      is = ap (inst f) r.is ∙ ap (App (FieldsHead r.labs)) (parts_map f r.types);
    }

-- ---- Type bindings

given_left : (f : Substitution) (vs : List TyVar) (ts : List Tree) (v : TyVar) → length ts ≡ length vs → AreLeft f ts → IsAmong v vs → inst f (given vs ts v) ≡ given vs ts v
given_left f [] ts v c h a = absurd a
given_left f (w ∷ vs) [] v c h a = absurd (omega arith)
given_left f (w ∷ vs) (t ∷ ts) v c h a = by (nat_eq v.num w.num) refl a (λ x. given_left f vs ts v (omega arith) h.1 x)
  where
    by : (b : Bool) → nat_eq v.num w.num ≡ b → (v ≡ w) ⊎ IsAmong v vs → (IsAmong v vs → inst f (given vs ts v) ≡ given vs ts v) → inst f (cond b t (given vs ts v)) ≡ cond b t (given vs ts v)
    by true q x r = h.0
    by false q (inl e) r = let both : true ≡ false = sym (eq-eqb v.num w.num (ap (λ (u : TyVar). u.num) e)) ∙ q in cc
    by false q (inr x) r = r x

body_left : (f : Substitution) (vs : List TyVar) (ts : List Tree) (t : Tree) → length ts ≡ length vs → AreLeft f ts → Covers vs t → inst f (inst (given vs ts) t) ≡ inst (given vs ts) t
body_left f vs ts (Variable v) c h k = given_left f vs ts v c h k
body_left f vs ts (App d us) c h k = ap (App d) (body_left f vs ts us c h k)
body_left f vs ts NoParts c h k = refl
body_left f vs ts (Part t us) c h k =
    let a = body_left f vs ts t c h k.0 in let b = body_left f vs ts us c h k.1 in cc

-- ---- All written types

abbrev AreUpTo : ℕ → List ℕ → Type 0
AreUpTo m js = AllByRecursion (λ j. j ≤ m) js

below_up_to : (m j : ℕ) (js : List ℕ) → j ≤ m → AllByRecursion (λ i. i < j) js → AreUpTo m js
below_up_to m j [] l h = tt
below_up_to m j (i ∷ js) l h = (let k = h.0 in omega arith, below_up_to m j js l h.1)

fields_up_to : (m j : ℕ) (fields : List TypeField) → j ≤ m → AllByRecursion (λ f. f.ty < j) fields → AreUpTo m (field_types fields)
fields_up_to m j [] l h = tt
fields_up_to m j (f ∷ fields) l h = (let k = h.0 in omega arith, fields_up_to m j fields l h.1)

module _ (p : Bare) (names : List TypeName) (abbreviations : ℕ → Poly) (f : Substitution) (explicit_ones : LeavesExplicit p f) (rows : AreTypeRows p.types) (m : ℕ) (closed : AreClosedUpTo p abbreviations m) where
  abbrev All : List ℕ → List Tree → Type 0
  All js ts = AreMeant p.types p.tyvars names abbreviations js ts

  all_left : (js : List ℕ) (ts : List Tree) → All js ts → AreUpTo m js → AreLeft f ts
  all_left _ _ means_none l = tt
  all_left _ _ (means_var {js = js} {ts = ts} j u q rest) l =
      (explicit_ones u (closed.standing j (exp.Var u) l.0 q), all_left js ts rest l.1)
  all_left _ _ (means_record {js = js} {ts = ts} j fields us t q mean is rest) l =
      let inner : AreLeft f us = all_left (field_types fields) us mean (fields_up_to m j fields l.0 (closed.standing j (exp.Record fields) l.0 q)) in
      let count : length us ≡ length fields = as_many p.types p.tyvars names abbreviations (field_types fields) us mean ∙ field_count fields in
      (one_record fields us (inst f t) t (rows j fields q) count (record_left f fields us t inner is) is, all_left js ts rest l.1)
  all_left _ _ (means_arrow {js = js} {ts = ts} j a b t u q mean rest) l =
      let below = closed.standing j (exp.Arrow a b) l.0 q in
      let inner : AreLeft f (t ∷ u ∷ []) = all_left (a ∷ b ∷ []) (t ∷ u ∷ []) mean (below_up_to m j (a ∷ b ∷ []) l.0 (below.0, (below.1, tt))) in
      (ap (App ArrowHead) (parts_left f (t ∷ u ∷ []) inner), all_left js ts rest l.1)
  all_left _ _ (means_named {js = js} {ts = ts} j n args us row q r c mean rest) l =
      let inner : AreLeft f us = all_left args us mean (below_up_to m j args l.0 (closed.standing j (exp.Named n args) l.0 q)) in
      (ap (App (NameHead n)) (parts_left f us inner), all_left js ts rest l.1)
  all_left _ _ (means_abbreviation {js = js} {ts = ts} j k args us q c mean rest) l =
      let inner : AreLeft f us = all_left args us mean (below_up_to m j args l.0 (closed.standing j (exp.Abbreviation k args) l.0 q)) in
      let count : length us ≡ length (abbreviations k).vars = as_many p.types p.tyvars names abbreviations args us mean ∙ c in
      (body_left f (abbreviations k).vars us (abbreviations k).body count inner (closed.closed j k args l.0 q), all_left js ts rest l.1)

  -- what a written type means is left
  pub meant_left : (t : Tree) → Means p.types p.tyvars names abbreviations m t → inst f t ≡ t
  meant_left t h = (all_left (m ∷ []) (t ∷ []) h (omega arith, tt)).0

-- what the written types of a node mean is left
pub node_left : (p : Bare) (names : List TypeName) (abbreviations : ℕ → Poly) (f : Substitution) (n : Node) → LeavesExplicit p f → AreTypeRows p.types → AllByRecursion (AreClosedUpTo p abbreviations) (node_types n) → LeavesWritten p names abbreviations f n
node_left p names abbreviations f n explicit_ones rows closed = each (node_types n) closed
  where
    each : (js : List ℕ) → AllByRecursion (AreClosedUpTo p abbreviations) js → AllByRecursion (λ j. (t : Tree) → Means p.types p.tyvars names abbreviations j t → inst f t ≡ t) js
    each [] h = tt
    each (j ∷ js) h = (meant_left p names abbreviations f explicit_ones rows j h.0, each js h.1)

-- a type binding that is cited has no variables but its parameters
closed_scheme : (forms : List TyForm) (schemes : List Scheme) (k : ℕ) → AllByRecursion (IsClosedScheme forms) schemes → k < length schemes → (s : Scheme) × (slice_get schemes k ≡ Some s) × IsClosedScheme forms s
closed_scheme forms [] k h l = absurd (omega arith)
closed_scheme forms (s ∷ schemes) zero h l = (s, refl, h.0)
closed_scheme forms (s ∷ schemes) (suc k) h l = closed_scheme forms schemes k h.1 (omega arith)

-- written types that cite only the type bindings of a list
pub closed_up_to : (p : Bare) (forms : List TyForm) (schemes : List Scheme) (abbreviations : ℕ → Poly) (j : ℕ) → ((i : ℕ) (e : TypeExp) → slice_get p.types i ≡ Some e → TypeStands p i e) → AreCitedUpTo p.types (length schemes) j → AllByRecursion (IsClosedScheme forms) schemes → AreAbbreviations forms schemes abbreviations → AreClosedUpTo p abbreviations j
closed_up_to p forms schemes abbreviations j standing cited closed are =
    record {
      standing = λ i e l q. standing i e q;
      closed = λ i k args l q. let s = closed_scheme forms schemes k closed (cited i k args l q) in subst (λ (r : Poly). Covers r.vars r.body) (sym (are k s.0 s.1)) s.2.1;
    }
