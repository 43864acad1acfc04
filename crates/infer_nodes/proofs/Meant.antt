-- What a written type means has no variables but explicit ones, so a substitution that leaves these leaves it.
use Rattle.std.proofs.Common.{◌≡◌, ℕ, zero, suc, ◌<◌, ◌≤◌, Bool, true, false, cond, List, [], ◌∷◌, length, Some, refl, sym, ap, ◌∙◌, subst, arith, nat_eq, map, inl, inr, ◌⊎◌}
use Rattle.std.specs.Prelude.{slice_get, nat_lt}
use Rattle.std.specs.List.{AllByRecursion}
use Rattle.std.proofs.lemmas.Bool.{eq-eqb}
use Rattle.std.proofs.lemmas.Bool.Decides.{nat_tests}
use Rattle.sml_tree.specs.declared.bare.Bare.{Bare}
use Rattle.sml_tree.specs.declared.bare.TypeField.{TypeField}
use Rattle.sml_tree.specs.declared.bare.TypeExp.TheVariants as exp
use Rattle.sml_types.specs.declared.types.TyVar.{TyVar}
use Rattle.sml_types.specs.declared.types.TyForm.{TyForm}
use Rattle.sml_types.specs.declared.scheme.Scheme.{Scheme}
use Rattle.sml_types.specs.declared.tables.TypeName.{TypeName}
use Rattle.sml_types.specs.Tree.{NameHead, ArrowHead, Tree, Variable, App, NoParts, Part, inst}
use Rattle.sml_types.specs.Poly.{Poly}
use Rattle.sml_types.specs.Library.{parts}
use Rattle.sml_types.specs.TypeExps.{IsRecord, labelled, field_types, given, explicit, AreMeant, Means, means_none, means_var, means_record, means_arrow, means_named, means_abbreviation}
use Rattle.sml_types.specs.Typing.{IsAmong, Covers}
use Rattle.sml_unify.specs.Solved.{Substitution}
use Rattle.infer_parts.specs.Written.{AreAbbreviations, IsClosedScheme, AreCited}
use Rattle.infer_parts.proofs.Meanings.{as_many, field_count}
use Rattle.infer_parts.proofs.Placed.{inst_parts}
use Rattle.infer_parts.proofs.Slots.{one_record}
use Rattle.infer_nodes.specs.Good.{AreTypesGood}
use Rattle.infer_nodes.proofs.Rows.{record_under}

-- a substitution leaves these types
abbrev AreLeft : Substitution → List Tree → Type 0
AreLeft f ts = AllByRecursion (λ t. inst f t ≡ t) ts

map_left : (f : Substitution) (ts : List Tree) → AreLeft f ts → map (inst f) ts ≡ ts
map_left f [] h = refl
map_left f (t ∷ ts) h = let a = h.0 in let b = map_left f ts h.1 in cc

parts_left : (f : Substitution) (ts : List Tree) → AreLeft f ts → inst f (parts ts) ≡ parts ts
parts_left f ts h = inst_parts f ts ∙ ap parts (map_left f ts h)

-- ---- Type bindings

given_left : (f : Substitution) (vs : List TyVar) (ts : List Tree) (v : TyVar) → length ts ≡ length vs → AreLeft f ts → IsAmong v vs → inst f (given vs ts v) ≡ given vs ts v
given_left f [] ts v c h a = absurd a
given_left f (w ∷ vs) [] v c h a = absurd (omega arith)
given_left f (w ∷ vs) (t ∷ ts) v c h a = by (nat_eq v.num w.num) refl a (λ x. given_left f vs ts v (omega arith) h.1 x)
  where
    by : (b : Bool) → nat_eq v.num w.num ≡ b → (v ≡ w) ⊎ IsAmong v vs → (IsAmong v vs → inst f (given vs ts v) ≡ given vs ts v) → inst f (cond b t (given vs ts v)) ≡ cond b t (given vs ts v)
    by true q x r = h.0
    by false q (inl e) r = let both : true ≡ false = sym (eq-eqb v.num w.num (ap (λ (u : TyVar). u.num) e)) ∙ q in cc
    by false q (inr x) r = r x

body_left : (f : Substitution) (vs : List TyVar) (ts : List Tree) (t : Tree) → length ts ≡ length vs → AreLeft f ts → Covers vs t → inst f (inst (given vs ts) t) ≡ inst (given vs ts) t
body_left f vs ts (Variable v) c h k = given_left f vs ts v c h k
body_left f vs ts (App d us) c h k = ap (App d) (body_left f vs ts us c h k)
body_left f vs ts NoParts c h k = refl
body_left f vs ts (Part t us) c h k =
    let a = body_left f vs ts t c h k.0 in let b = body_left f vs ts us c h k.1 in cc

-- ---- The parts of written types stand in one segment

abbrev AreWithin : ℕ → ℕ → List ℕ → Type 0
AreWithin first m js = AllByRecursion (λ j. (first ≤ j) × (j ≤ m)) js

within : (first m j : ℕ) (js : List ℕ) → j ≤ m → AllByRecursion (λ i. first ≤ i) js → AllByRecursion (λ i. i < j) js → AreWithin first m js
within first m j [] l low h = tt
within first m j (i ∷ js) l low h = ((low.0, let k = h.0 in omega arith), within first m j js l low.1 h.1)

fields_within : (first m j : ℕ) (fields : List TypeField) → j ≤ m → AllByRecursion (λ i. first ≤ i) (map (λ f. f.ty) fields) → AllByRecursion (λ f. f.ty < j) fields → AreWithin first m (field_types fields)
fields_within first m j [] l low h = tt
fields_within first m j (f ∷ fields) l low h = ((low.0, let k = h.0 in omega arith), fields_within first m j fields l low.1 h.1)

-- a type binding that is cited has no variables but its parameters
closed_scheme : (forms : List TyForm) (schemes : List Scheme) (k : ℕ) → AllByRecursion (IsClosedScheme forms) schemes → k < length schemes → (s : Scheme) × (slice_get schemes k ≡ Some s) × IsClosedScheme forms s
closed_scheme forms [] k h l = absurd (omega arith)
closed_scheme forms (s ∷ schemes) zero h l = (s, refl, h.0)
closed_scheme forms (s ∷ schemes) (suc k) h l = closed_scheme forms schemes k h.1 (omega arith)

module _ (p : Bare) (good : AreTypesGood p) (names : List TypeName) (abbreviations : ℕ → Poly) (f : Substitution) (explicit_ones : (u : ℕ) → f (explicit p.tyvars u) ≡ Variable (explicit p.tyvars u)) (forms : List TyForm) (schemes : List Scheme) (bodies : AllByRecursion (IsClosedScheme forms) schemes) (agree : AreAbbreviations forms schemes abbreviations) (m : ℕ) (cited : AreCited p.types (length schemes) m) where
  abbrev All : List ℕ → List Tree → Type 0
  All js ts = AreMeant p.types p.tyvars names abbreviations js ts

  covered : (j k : ℕ) (args : List ℕ) → cited.first ≤ j → j ≤ m → slice_get p.types j ≡ Some (exp.Abbreviation k args) → Covers (abbreviations k).vars (abbreviations k).body
  covered j k args lo hi q =
      let there : nat_lt k (length schemes) ≡ true = cited.each j (exp.Abbreviation k args) lo hi q in
      let low : k < length schemes = grind (arith, nat_tests) in
      let s = closed_scheme forms schemes k bodies low in subst (λ (r : Poly). Covers r.vars r.body) (sym (agree k s.0 s.1)) s.2.1

  all_left : (js : List ℕ) (ts : List Tree) → All js ts → AreWithin cited.first m js → AreLeft f ts
  all_left _ _ means_none l = tt
  all_left _ _ (means_var {js = js} {ts = ts} j u q rest) l = (explicit_ones u, all_left js ts rest l.1)
  all_left _ _ (means_record {js = js} {ts = ts} j fields us t q mean is rest) l =
      let inner : AreLeft f us = all_left (field_types fields) us mean (fields_within cited.first m j fields l.0.1 (cited.segment j (exp.Record fields) l.0.0 l.0.1 q) (good.stand j (exp.Record fields) q)) in
      let count : length us ≡ length fields = as_many p.types p.tyvars names abbreviations (field_types fields) us mean ∙ field_count fields in (
        one_record fields us (inst f t) t (good.rows j fields q) count (subst (λ vs. IsRecord (labelled fields vs) (inst f t)) (map_left f us inner) (record_under f fields us t is)) is,
        all_left js ts rest l.1,
      )
  all_left _ _ (means_arrow {js = js} {ts = ts} j a b t u q mean rest) l =
      let below = good.stand j (exp.Arrow a b) q in
      let inner : AreLeft f (t ∷ u ∷ []) = all_left (a ∷ b ∷ []) (t ∷ u ∷ []) mean (within cited.first m j (a ∷ b ∷ []) l.0.1 (cited.segment j (exp.Arrow a b) l.0.0 l.0.1 q) (below.0, (below.1, tt))) in
      (ap (App ArrowHead) (parts_left f (t ∷ u ∷ []) inner), all_left js ts rest l.1)
  all_left _ _ (means_named {js = js} {ts = ts} j n args us row q r c mean rest) l =
      let inner : AreLeft f us = all_left args us mean (within cited.first m j args l.0.1 (cited.segment j (exp.Named n args) l.0.0 l.0.1 q) (good.stand j (exp.Named n args) q)) in
      (ap (App (NameHead n)) (parts_left f us inner), all_left js ts rest l.1)
  all_left _ _ (means_abbreviation {js = js} {ts = ts} j k args us q c mean rest) l =
      let inner : AreLeft f us = all_left args us mean (within cited.first m j args l.0.1 (cited.segment j (exp.Abbreviation k args) l.0.0 l.0.1 q) (good.stand j (exp.Abbreviation k args) q)) in
      let count : length us ≡ length (abbreviations k).vars = as_many p.types p.tyvars names abbreviations args us mean ∙ c in
      (body_left f (abbreviations k).vars us (abbreviations k).body count inner (covered j k args l.0.0 l.0.1 q), all_left js ts rest l.1)

  -- what a written type means is left
  pub meant_left : (t : Tree) → Means p.types p.tyvars names abbreviations m t → inst f t ≡ t
  meant_left t h = (all_left (m ∷ []) (t ∷ []) h ((cited.order, omega arith), tt)).0
