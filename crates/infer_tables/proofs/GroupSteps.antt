-- A group of datatypes is a step.
use Rattle.std.proofs.Common.{◌≡◌, ℕ, ◌+◌, ◌-◌, ◌<◌, ◌≤◌, Bool, true, false, List, ◌++◌, length, Option, Some, None, refl, sym, ap, ◌∙◌, arith, subst, ◌⊎◌, inl, inr, length-append}
use Rattle.std.specs.Prelude.{slice_get}
use Rattle.std.specs.List.{AllByRecursion}
use Rattle.std.proofs.lemmas.Bool.{cases_lt}
use Rattle.sml_tree.specs.declared.bare.Bare.{Bare}
use Rattle.sml_tree.specs.declared.bare.DatBinding.{DatBinding}
use Rattle.sml_types.specs.declared.types.Ty.{Ty}
use Rattle.sml_types.specs.declared.types.TyVar.{TyVar}
use Rattle.sml_types.specs.declared.types.TyForm.{TyForm}
use Rattle.sml_types.specs.declared.tables.ConRow.{ConRow}
use Rattle.sml_types.specs.declared.tables.TypeName.{TypeName}
use Rattle.sml_types.specs.Forms.{tree}
use Rattle.sml_types.specs.Poly.{is_in}
use Rattle.sml_types.specs.Library.{NameType, name_type, cons_of}
use Rattle.sml_types.specs.TypeExps.{all_explicit}
use Rattle.sml_types.specs.Equality.{choose, IsGreatest}
use Rattle.sml_types.specs.Typing.{Typing, type_numbers, CoversArgument, AreConstructors, IsDatBinding}
use Rattle.sml_unify.specs.Steps.{IsLonger}
use Rattle.infer_parts.specs.Copies.{AreOldVars}
use Rattle.infer_parts.specs.Rounds.{AreArgumentsThere}
use Rattle.infer_tables.specs.declared.known.Known.{Known}
use Rattle.infer_tables.specs.Declare.{IsClosedArgument, IsClosedRow}
use Rattle.infer_tables.specs.Known.{IsMade, IsScope, HasSoFar, GoesOn, Allows, Extends, IsStep, IsAnswer}
use Rattle.infer_tables.specs.Group.{headers, AreNext, IsDatRow, AreDatRows, AreDatRowsOrNone}
use Rattle.infer_tables.proofs.Lists.{some_eq, at_all, all_both, get_more, within, longer_same}
use Rattle.infer_tables.proofs.Meanings.{made_more}
use Rattle.infer_tables.proofs.MeaningFacts.{there_is}
use Rattle.infer_tables.proofs.StepFacts.{goes_before, goes_allows, has_allows}
use Rattle.infer_tables.proofs.BindingFacts.{cons_same, scope_longer, has_longer}
use Rattle.infer_tables.proofs.Greatest.{chosen, get_chosen, chosen_cons, chosen_params, chosen_text, chosen_other, AgreesOn, greatest_there, greatest_same}
use Rattle.infer_tables.proofs.GroupFacts.{get_behind, get_split, from_get, numbers_count, next_at, no_member, member, over_numbers, headed, known_is, header_at, headers_count, made_at, cons_have, cons_agree, row_at, rows_count, rows_closed, choose_count, choose_closed, row_eq}

arguments_at : (forms : List TyForm) (vars : List TyVar) (a : Option Ty) (x : Ty) → IsClosedArgument forms vars a → a ≡ Some x → x.0 < length forms
arguments_at forms vars None x h e = cc
arguments_at forms vars (Some a) x h e = subst (λ (y : Ty). y.0 < length forms) (some_eq a x e) h.0

pub arguments_there : (forms : List TyForm) (names : List TypeName) → AllByRecursion (IsClosedRow forms) names → AreArgumentsThere forms names
arguments_there forms names h n k row c a e q w =
    let closed = at_all (IsClosedRow forms) names n row h e in
    arguments_at forms row.params c.arg a (at_all (λ (d : ConRow). IsClosedArgument forms row.params d.arg) row.cons k c closed.arguments q) w

module _ (p : Bare) (old new : List TyForm) (k : Known) (scope : IsScope p old k) (longer : IsLonger old new) (bs : List DatBinding) (next : AreNext (length k.tables.names) bs) where
  abbrev group : List ℕ
  group = type_numbers bs

  abbrev Asked : Typing → Type 0
  Asked t = AllByRecursion (IsDatBinding p t) bs × IsGreatest t.forms t.names group

  later : IsScope p new k
  later = scope_longer p old new k longer scope

  -- a typing whose datatypes have these parameters allows the headers
  allows_headed : (t : Typing) → Allows new k t → ((i : ℕ) (b : DatBinding) → slice_get bs i ≡ Some b → (other : TypeName) × (slice_get t.names b.type_name ≡ Some other) × (other.params ≡ all_explicit p.tyvars b.params)) → Allows new (headed p bs k) t
  allows_headed t a h = record { params = λ n row q. by n row (get_split k.tables.names (headers p.tyvars bs) n row q); abbreviations = a.abbreviations }
    where
      by : (n : ℕ) (row : TypeName) → (slice_get k.tables.names n ≡ Some row) ⊎ ((i : ℕ) × (n ≡ length k.tables.names + i) × (slice_get (headers p.tyvars bs) i ≡ Some row)) → (other : TypeName) × (slice_get t.names n ≡ Some other) × (other.params ≡ row.params)
      by n row (inl q) = a.params n row q
      by n row (inr q) =
          let b = header_at p.tyvars bs q.0 row q.2 in
          let o = h q.0 b.0 b.1 in
          let place : n ≡ b.0.type_name = q.1 ∙ sym (next_at (length k.tables.names) bs q.0 b.0 next b.1) in
          (o.0, ap (slice_get t.names) place ∙ o.1, o.2 ∙ sym b.2)

  asked_headed : (t : Typing) → Allows new k t → AllByRecursion (IsDatBinding p t) bs → Allows new (headed p bs k) t
  asked_headed t a h = allows_headed t a (λ i b q. let d = at_all (IsDatBinding p t) bs i b h q in (d.row, d.named, d.params))

  pub group_refused : AreDatRowsOrNone p new (headed p bs k) bs None → IsAnswer p Asked (length group) old k new None
  group_refused n = λ t h w. n t (asked_headed t (has_allows new k t (has_longer p old new k t longer scope h)) w.0) w.0

  pub group_below : (rows : List TypeName) → AreDatRows p new (headed p bs k) bs rows → AllByRecursion (λ n. n < length (k.tables.names ++ rows)) group
  group_below rows are =
      over_numbers (λ n. n < length (k.tables.names ++ rows)) bs (λ i b q. let l = within bs i b q in let e = next_at (length k.tables.names) bs i b next q in let c = rows_count p new (headed p bs k) bs rows are in omega (arith, length-append k.tables.names rows))

  all_closed : (rows : List TypeName) → AreDatRows p new (headed p bs k) bs rows → AllByRecursion (IsClosedRow new) (k.tables.names ++ rows)
  all_closed rows are = all_both (IsClosedRow new) k.tables.names rows later.rows (rows_closed p new (headed p bs k) bs rows are)

  pub group_arguments : (rows : List TypeName) → AreDatRows p new (headed p bs k) bs rows → AreArgumentsThere new (k.tables.names ++ rows)
  group_arguments rows are = arguments_there new (k.tables.names ++ rows) (all_closed rows are)

  module _ (rows : List TypeName) (are : AreDatRows p new (headed p bs k) bs rows) (c : ℕ → Bool) where
    abbrev names : List TypeName
    names = choose group c 0 (k.tables.names ++ rows)

    abbrev after : Known
    after = record { tables = record { names = names }; abbreviations = k.abbreviations; stands = k.stands }

    count : length names ≡ length k.tables.names + length bs
    count = choose_count group c 0 (k.tables.names ++ rows) ∙ length-append k.tables.names rows ∙ ap (λ n. length k.tables.names + n) (rows_count p new (headed p bs k) bs rows are)

    at_zero : (n : ℕ) (row : TypeName) → slice_get (k.tables.names ++ rows) n ≡ Some row → slice_get names n ≡ Some (chosen group c n row)
    at_zero n row q = get_chosen group c 0 (k.tables.names ++ rows) n row q ∙ ap (λ i. Some (chosen group c i row)) (let z : 0 + n ≡ n = omega arith in z)

    old_at : (n : ℕ) (row : TypeName) → slice_get k.tables.names n ≡ Some row → slice_get names n ≡ Some row
    old_at n row q =
        at_zero n row (get_more k.tables.names rows n row q) ∙ ap Some (chosen_other group c n row (no_member (length k.tables.names) n bs next (within k.tables.names n row q)))

    new_at : (i : ℕ) (b : DatBinding) (row : TypeName) → slice_get bs i ≡ Some b → slice_get rows i ≡ Some row → slice_get names b.type_name ≡ Some (chosen group c b.type_name row)
    new_at i b row q r =
        at_zero b.type_name row (ap (slice_get (k.tables.names ++ rows)) (next_at (length k.tables.names) bs i b next q) ∙ get_behind k.tables.names rows i ∙ r)

    -- a row of the group
    record IsNewRow (n : ℕ) (row : TypeName) : Type 0 where
      at : ℕ
      binding : DatBinding
      made : TypeName
      there : slice_get bs at ≡ Some binding
      number : n ≡ binding.type_name
      is_row : IsDatRow p new (headed p bs k) binding made
      is : row ≡ chosen group c n made

    either_row : (n : ℕ) (row : TypeName) → slice_get names n ≡ Some row → (slice_get k.tables.names n ≡ Some row) ⊎ IsNewRow n row
    either_row n row q = by (cases_lt n (length k.tables.names))
      where
        by : (n < length k.tables.names) ⊎ (length k.tables.names ≤ n) → (slice_get k.tables.names n ≡ Some row) ⊎ IsNewRow n row
        by (inl l) = let o = there_is k.tables.names n l in inl (o.1 ∙ sym (old_at n o.0 o.1) ∙ q)
        by (inr l) =
            let m = within names n row q in
            let e = count in
            let b = there_is bs (n - length k.tables.names) (omega arith) in
            let r = row_at p new (headed p bs k) bs rows (n - length k.tables.names) b.0 are b.1 in
            let t = next_at (length k.tables.names) bs (n - length k.tables.names) b.0 next b.1 in
            let place : n ≡ b.0.type_name = omega arith in
            inr
            (record {
              at = n - length k.tables.names;
              binding = b.0;
              made = r.0;
              there = b.1;
              number = place;
              is_row = r.2;
              is = sym (some_eq (chosen group c b.0.type_name r.0) row (sym (new_at (n - length k.tables.names) b.0 r.0 b.1 r.1) ∙ ap (slice_get names) (sym place) ∙ q)) ∙ ap (λ i. chosen group c i r.0) (sym place);
            })

    extends : Extends k after
    extends = record { names = old_at; schemes = λ i s q. q }

    scope_after : IsScope p new after
    scope_after =
        record {
          types = later.types;
          stands = later.stands;
          there = later.there;
          explicit_ones = later.explicit_ones;
          closed = later.closed;
          made = λ i s e. made_more p.tyvars (length k.tables.names) (length names) (tree new s.body.0) (let n = count in omega arith) (later.made i s e);
          rows = choose_closed new group c 0 (k.tables.names ++ rows) (all_closed rows are);
        }

    are_group : AllByRecursion (λ n. (n < length names) × ((a : TypeName) (l : ℕ) (con : ConRow) (x : Ty) → slice_get names n ≡ Some a → slice_get a.cons l ≡ Some con → con.arg ≡ Some x → IsMade p.tyvars (length names) (tree new x.0))) group
    are_group = over_numbers (λ n. (n < length names) × ((a : TypeName) (l : ℕ) (con : ConRow) (x : Ty) → slice_get names n ≡ Some a → slice_get a.cons l ≡ Some con → con.arg ≡ Some x → IsMade p.tyvars (length names) (tree new x.0))) bs one
      where
        one : (i : ℕ) (b : DatBinding) → slice_get bs i ≡ Some b → (b.type_name < length names) × ((a : TypeName) (l : ℕ) (con : ConRow) (x : Ty) → slice_get names b.type_name ≡ Some a → slice_get a.cons l ≡ Some con → con.arg ≡ Some x → IsMade p.tyvars (length names) (tree new x.0))
        one i b q =
            let r = row_at p new (headed p bs k) bs rows i b are q in
            let here = new_at i b r.0 q r.1 in (
              within names b.type_name (chosen group c b.type_name r.0) here,
              λ a l con x e f w.
                  let is : chosen group c b.type_name r.0 ≡ a = some_eq (chosen group c b.type_name r.0) a (sym here ∙ e) in
                  let cons : a.cons ≡ r.0.cons = ap (λ (y : TypeName). y.cons) (sym is) ∙ chosen_cons group c b.type_name r.0 in
                  let made = made_at p new (headed p bs k) r.0.params b.cons r.0.cons l con x r.2.cons (ap (λ cs. slice_get cs l) (sym cons) ∙ f) w in
                  made_more p.tyvars (length (k.tables.names ++ headers p.tyvars bs)) (length names) (tree new x.0) (let n = count in omega (arith, length-append k.tables.names (headers p.tyvars bs), headers_count p.tyvars bs)) made,
            )

    -- ---- A typing that goes on

    goes_headed : (t : Typing) → GoesOn new after t → Allows new (headed p bs k) t
    goes_headed t g =
        allows_headed t (goes_allows p new k t later (goes_before p new new k after t later (longer_same new) extends g)) one
      where
        one : (i : ℕ) (b : DatBinding) → slice_get bs i ≡ Some b → (other : TypeName) × (slice_get t.names b.type_name ≡ Some other) × (other.params ≡ all_explicit p.tyvars b.params)
        one i b q =
            let r = row_at p new (headed p bs k) bs rows i b are q in
            (chosen group c b.type_name r.0, g.rows b.type_name (chosen group c b.type_name r.0) (new_at i b r.0 q r.1), chosen_params group c b.type_name r.0 ∙ r.2.params)

    one_sound : (t : Typing) → GoesOn new after t → (i : ℕ) (b : DatBinding) → slice_get bs i ≡ Some b → IsDatBinding p t b
    one_sound t g i b q =
        let r = row_at p new (headed p bs k) bs rows i b are q in
        let R : TypeName = chosen group c b.type_name r.0 in
        let h = cons_have p new (headed p bs k) t (goes_headed t g) r.0.params b.cons r.0.cons g.longer r.2.cons in
        record {
          row = R;
          named = g.rows b.type_name R (new_at i b r.0 q r.1);
          text = chosen_text group c b.type_name r.0 ∙ r.2.text;
          params = chosen_params group c b.type_name r.0 ∙ r.2.params;
          cons = subst (AreConstructors p t b.cons) (sym (chosen_cons group c b.type_name r.0)) h.0;
          covers = subst (λ cs. AllByRecursion (λ (d : ConRow). CoversArgument p t R.params d.arg) cs) (sym (chosen_cons group c b.type_name r.0)) (subst (λ vs. AllByRecursion (λ (d : ConRow). CoversArgument p t vs d.arg) r.0.cons) (sym (chosen_params group c b.type_name r.0)) h.1);
        }

    agrees_sound : (t : Typing) → GoesOn new after t → AgreesOn new names t.forms t.names group
    agrees_sound t g n a q =
        (a, g.rows n a q, sym (cons_same new t.forms a.params a.cons g.longer (at_all (IsClosedRow new) names n a scope_after.rows q).arguments), λ m. refl)

    -- ---- A typing that has what is asked

    one_complete : (t : Typing) → Allows new (headed p bs k) t → AllByRecursion (IsDatBinding p t) bs → (n : ℕ) (a : TypeName) → IsNewRow n a → (other : TypeName) × (slice_get t.names n ≡ Some other) × (other.text ≡ a.text) × (other.params ≡ a.params) × (cons_of t.forms other.cons ≡ cons_of new a.cons)
    one_complete t allows h n a w =
        let d = at_all (IsDatBinding p t) bs w.at w.binding h w.there in
        let r = w.is_row in
        let same = w.is in (
          d.row,
          ap (slice_get t.names) w.number ∙ d.named,
          d.text ∙ sym r.text ∙ sym (chosen_text group c n w.made) ∙ ap (λ (x : TypeName). x.text) (sym same),
          d.params ∙ sym r.params ∙ sym (chosen_params group c n w.made) ∙ ap (λ (x : TypeName). x.params) (sym same),
          cons_agree p new (headed p bs k) t allows w.made.params w.binding.cons w.made.cons d.row.cons r.cons d.cons ∙ ap (cons_of new) (sym (chosen_cons group c n w.made) ∙ ap (λ (x : TypeName). x.cons) (sym same)),
        )

    agrees_complete : (t : Typing) → HasSoFar new k t → Allows new (headed p bs k) t → AllByRecursion (IsDatBinding p t) bs → AgreesOn new names t.forms t.names group
    agrees_complete t now allows h n a q = by (either_row n a q)
      where
        by : (slice_get k.tables.names n ≡ Some a) ⊎ IsNewRow n a → (b : TypeName) × (slice_get t.names n ≡ Some b) × (cons_of new a.cons ≡ cons_of t.forms b.cons) × (is_in group n ≡ false → a.eq ≡ b.eq)
        by (inl r) =
            let o = now.rows n a r in
            (o.0, o.1, ap (λ (x : NameType). x.cons) (sym o.2), λ m. ap (λ (x : NameType). x.eq) (sym o.2))
        by (inr w) =
            let o = one_complete t allows h n a w in
            (o.0, o.1, sym o.4, λ m. let z : true ≡ false = sym (ap (is_in group) w.number ∙ member bs w.at w.binding w.there) ∙ m in cc)

    has_after : (t : Typing) → IsGreatest new names group → HasSoFar old k t → Asked t → HasSoFar new after t
    has_after t greatest h asked =
        record { rows = λ n a q. by n a q (either_row n a q); abbreviations = now.abbreviations }
      where
        now : HasSoFar new k t
        now = has_longer p old new k t longer scope h

        allows : Allows new (headed p bs k) t
        allows = asked_headed t (has_allows new k t (has_longer p old new k t longer scope h)) asked.0

        by : (n : ℕ) (a : TypeName) → slice_get names n ≡ Some a → (slice_get k.tables.names n ≡ Some a) ⊎ IsNewRow n a → (other : TypeName) × (slice_get t.names n ≡ Some other) × (name_type t.forms other ≡ name_type new a)
        by n a q (inl r) = (has_longer p old new k t longer scope h).rows n a r
        by n a q (inr w) =
            let has_k = has_longer p old new k t longer scope h in
            let ok = asked_headed t (has_allows new k t has_k) asked.0 in
            let o = one_complete t ok asked.0 n a w in
            let m : is_in group n ≡ true = ap (is_in group) w.number ∙ member bs w.at w.binding w.there in
            let eq = greatest_same p.tyvars new names t.forms t.names group (agrees_complete t has_k ok asked.0) are_group greatest asked.1 n a o.0 m q o.1 in
            (o.0, o.1, row_eq new t.forms a o.0 o.2 o.3 (sym eq) o.4)

    pub group_added : AreOldVars old new → IsGreatest new names group → IsStep p Asked (length group) old k new after
    group_added vars greatest =
        record {
          longer = longer;
          vars = λ i v e. (i, vars i v e);
          extends = extends;
          count = count ∙ ap (λ n. length k.tables.names + n) (sym (numbers_count bs));
          scope = scope_after;
          sound = λ t g. (
            from_get (IsDatBinding p t) bs (one_sound t g),
            greatest_there p.tyvars new names t.forms t.names group (agrees_sound t g) are_group g.rows greatest,
          );
          complete = λ t h w. has_after t greatest h w;
        }

  pub group_added_as : (rows : List TypeName) (c : ℕ → Bool) (names2 : List TypeName) (k2 : Known) → k2.tables.names ≡ names2 → k2.abbreviations ≡ k.abbreviations → k2.stands ≡ k.stands → names2 ≡ choose group c 0 (k.tables.names ++ rows) → AreDatRows p new (headed p bs k) bs rows → AreOldVars old new → IsGreatest new names2 group → IsStep p Asked (length group) old k new k2
  group_added_as rows c names2 k2 e q r s are vars greatest =
      subst (IsStep p Asked (length group) old k new) (sym (known_is k2 (record { tables = record { names = choose group c 0 (k.tables.names ++ rows) }; abbreviations = k.abbreviations; stands = k.stands }) (e ∙ s) q r)) (group_added rows are c vars (subst (λ ns. IsGreatest new ns group) s greatest))
