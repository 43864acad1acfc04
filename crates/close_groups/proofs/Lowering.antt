-- What a group by number makes is what the definition makes of it.
use Rattle.std.proofs.Common.{◌≡◌, ℕ, suc, ◌+◌, Bool, true, false, cond, List, [], ◌∷◌, ◌++◌, Option, Some, None, map, length, refl, sym, ap, ◌∙◌}
use Rattle.std.specs.Prelude.{is_some}
use Rattle.cps_ir.specs.Code as cps
use Rattle.cps_ir.specs.Program as opening
use Rattle.cps_ir.specs.declared.body.Function.{Function as Entry}
use Rattle.closure_ir.specs.declared.operand.Operand.{Operand}
use Rattle.closure_ir.specs.declared.operand.Operand.TheVariants as operand
use Rattle.closure_ir.specs.declared.operand.Shape.TheVariants as shape
use Rattle.closure_ir.specs.declared.body.Maker.{Maker}
use Rattle.close_laws.specs.Lower as laws
use Rattle.close_laws.specs.Lower.{Design, Member, Places, Hand, placed, placed_all, itself, here_all, fresh_from, members_of, names_of, lower}
use Rattle.close_scopes.specs.declared.scopes.Bound.{Bound}
use Rattle.close_scopes.specs.Scopes.{over, places_of, hand_of}
use Rattle.close_laws.specs.Close.{none_at_hand}
use Rattle.close_steps.specs.declared.decisions.Decisions.{Decisions}
use Rattle.close_steps.specs.Visible.{Have, Visible, decided, decision_of, unbound, places_in, hand_in}
use Rattle.close_groups.specs.Group.{statics_in, static_bound, kept_in, kept_name, needs_in, classes_by, missing, pointed, news_from, themselves, records_at, record_in, closure_by, closures_in, group_news, within, behind, makers_in, AreBound, GroupsAreLowered}

length_map : {A B : Type 0} (f : A → B) (xs : List A) → length (map f xs) ≡ length xs
length_map f [] = refl
length_map f (x ∷ xs) = ap suc (length_map f xs)

-- ---- Bindings one within the other

fresh_places : (at : Places) (xs : List ℕ) (n : ℕ) (bs : List Bound) → placed_all (places_of at bs) xs (fresh_from n (length xs)) ≡ places_of at (over (news_from n xs) bs)
fresh_places at [] n bs = refl
fresh_places at (x ∷ xs) n bs = fresh_places at xs (suc n) _

fresh_hand : (hand : Hand) (ks : List ℕ) (n : ℕ) (bs : List Bound) → placed_all (hand_of hand bs) ks (map Some (fresh_from n (length ks))) ≡ hand_of hand (over (news_from n ks) bs)
fresh_hand hand [] n bs = refl
fresh_hand hand (k ∷ ks) n bs = fresh_hand hand ks (suc n) _

here_places : (at : Places) (xs : List ℕ) (bs : List Bound) → placed_all (places_of at bs) xs (map itself xs) ≡ places_of at (over (themselves xs) bs)
here_places at [] bs = refl
here_places at (x ∷ xs) bs = here_places at xs _

module _ (S : Design) where
  lacks : (hand : Hand) (ks : List ℕ) → laws.lacking S hand ks ≡ missing hand ks
  lacks hand [] = refl
  lacks hand (k ∷ ks) = by (is_some (hand k)) (lacks hand ks) (lacks (placed hand k (Some (operand.New 0))) ks)
    where
      by : (b : Bool) → laws.lacking S hand ks ≡ missing hand ks → laws.lacking S (placed hand k (Some (operand.New 0))) ks ≡ missing (placed hand k (Some (operand.New 0))) ks → cond b (laws.lacking S hand ks) (k ∷ laws.lacking S (placed hand k (Some (operand.New 0))) ks) ≡ cond b (missing hand ks) (k ∷ missing (placed hand k (Some (operand.New 0))) ks)
      by true e f = e
      by false e f = ap (λ js. k ∷ js) f

  points_there : (o : Option Operand) → laws.pointer S o ≡ pointed o
  points_there None = refl
  points_there (Some o) = refl

  pointers : (hand : Hand) (ks : List ℕ) → map (λ k. laws.pointer S (hand k)) ks ≡ map (λ k. pointed (hand k)) ks
  pointers hand [] = refl
  pointers hand (k ∷ ks) =
      ap (λ o. o ∷ map (λ j. laws.pointer S (hand j)) ks) (points_there (hand k)) ∙ ap (λ os. pointed (hand k) ∷ os) (pointers hand ks)

  made_hand : (first : ℕ) → ((k : ℕ) → S.record_name k ≡ first + k) → (hand : Hand) (ks : List ℕ) (bs : List Bound) → placed_all (hand_of hand bs) ks (map (λ k. Some (itself (S.record_name k))) ks) ≡ hand_of hand (over (records_at first ks) bs)
  made_hand first names hand [] bs = refl
  made_hand first names hand (k ∷ ks) bs =
      ap (λ r. placed_all (placed (hand_of hand bs) k (Some (itself r))) ks (map (λ j. Some (itself (S.record_name j))) ks)) (names k)
      ∙ made_hand first names hand ks _

-- ---- A group's functions

abbrev group_of : (ℕ → cps.Code) → List Entry → List Member
group_of part fs = members_of (opening.functions_of part fs)

module _ (S : Design) (d : Decisions) (have : Have S d) (part : ℕ → cps.Code) where
  found : (f : Entry) → S.known f.name ≡ Some f.point → decided d f.name ≡ decision_of S (Some f.point)
  found f e = have.functions f.name ∙ ap (decision_of S) e

  names_kept : (fs : List Entry) → AreBound S fs → names_of (laws.kept S (group_of part fs)) ≡ kept_in d fs
  names_kept [] h = refl
  names_kept (f ∷ fs) h = by (S.static f.point) (names_kept fs h.1) ∙ sym (ap (λ o. kept_name f.name o ++ kept_in d fs) (found f h.0))
    where
      by : (b : Bool) → names_of (laws.kept S (group_of part fs)) ≡ kept_in d fs → names_of (cond b (laws.kept S (group_of part fs)) (record { name = f.name; point = f.point } ∷ laws.kept S (group_of part fs))) ≡ cond b [] (f.name ∷ []) ++ kept_in d fs
      by true e = e
      by false e = ap (λ xs. f.name ∷ xs) e

  statics_places : (at : Places) (fs : List Entry) (bs : List Bound) → AreBound S fs → laws.statics S (places_of at bs) (group_of part fs) ≡ places_of at (over (statics_in d fs) bs)
  statics_places at [] bs h = refl
  statics_places at (f ∷ fs) bs h = by (S.static f.point) (λ cs. statics_places at fs cs h.1) ∙ sym (ap (λ o. places_of at (over (static_bound f.name o ++ statics_in d fs) bs)) (found f h.0))
    where
      by : (b : Bool) → ((cs : List Bound) → laws.statics S (places_of at cs) (group_of part fs) ≡ places_of at (over (statics_in d fs) cs)) → placed_all (places_of at bs) (names_of (cond b (record { name = f.name; point = f.point } ∷ laws.unkept S (group_of part fs)) (laws.unkept S (group_of part fs)))) (map (laws.static_of S) (cond b (record { name = f.name; point = f.point } ∷ laws.unkept S (group_of part fs)) (laws.unkept S (group_of part fs)))) ≡ places_of at (over (static_bound f.name (Some (record { label = record { 0 = S.label f.point }; is_static = b; has_code = S.code f.point; classes = S.classes f.point; own = S.own f.point })) ++ statics_in d fs) bs)
      by true e = e _
      by false e = e bs

  needs_same : (fs : List Entry) → AreBound S fs → laws.needs S (laws.kept S (group_of part fs)) ≡ needs_in d (kept_in d fs)
  needs_same [] h = refl
  needs_same (f ∷ fs) h = by (S.static f.point) (needs_same fs h.1) ∙ sym (ap (λ o. needs_in d (kept_name f.name o ++ kept_in d fs)) (found f h.0))
    where
      by : (b : Bool) → laws.needs S (laws.kept S (group_of part fs)) ≡ needs_in d (kept_in d fs) → laws.needs S (cond b (laws.kept S (group_of part fs)) (record { name = f.name; point = f.point } ∷ laws.kept S (group_of part fs))) ≡ needs_in d (cond b [] (f.name ∷ []) ++ kept_in d fs)
      by true e = e
      by false e = ap (λ ks. S.classes f.point ++ ks) e ∙ sym (ap (λ o. classes_by o ++ needs_in d (kept_in d fs)) (found f h.0))

  closure_same : (at : Places) (hand : Hand) (f : Entry) → laws.closure_maker S at hand (record { name = f.name; point = f.point }) ∷ [] ≡ closure_by at hand f.name (decision_of S (Some f.point))
  closure_same at hand f =
      ap (λ os. record { var = f.name; shape = shape.Closure (record { 0 = S.label f.point }); fields = laws.code_field S f.point ++ (os ++ map at (S.own f.point)) } ∷ []) (pointers S hand (S.classes f.point))

  closures_same : (at : Places) (hand : Hand) (fs : List Entry) → AreBound S fs → map (laws.closure_maker S at hand) (laws.kept S (group_of part fs)) ≡ closures_in d at hand (kept_in d fs)
  closures_same at hand [] h = refl
  closures_same at hand (f ∷ fs) h = by (S.static f.point) (closures_same at hand fs h.1) ∙ sym (ap (λ o. closures_in d at hand (kept_name f.name o ++ kept_in d fs)) (found f h.0))
    where
      by : (b : Bool) → map (laws.closure_maker S at hand) (laws.kept S (group_of part fs)) ≡ closures_in d at hand (kept_in d fs) → map (laws.closure_maker S at hand) (cond b (laws.kept S (group_of part fs)) (record { name = f.name; point = f.point } ∷ laws.kept S (group_of part fs))) ≡ closures_in d at hand (cond b [] (f.name ∷ []) ++ kept_in d fs)
      by true e = e
      by false e =
          ap (λ ms. laws.closure_maker S at hand (record { name = f.name; point = f.point }) ∷ ms) e
          ∙ ap (λ (ms : List Maker). ms ++ closures_in d at hand (kept_in d fs)) (closure_same at hand f ∙ sym (ap (closure_by at hand f.name) (found f h.0)))

  records_same : (at : Places) (ks : List ℕ) → map (laws.record_maker S at) ks ≡ map (record_in d at) ks
  records_same at [] = refl
  records_same at (k ∷ ks) =
      ap (λ x. record { var = x; shape = shape.ClassRecord k; fields = map at (S.members k) } ∷ map (laws.record_maker S at) ks) (have.records k)
      ∙ ap (λ xs. record { var = d.first_record + k; shape = shape.ClassRecord k; fields = map at xs } ∷ map (laws.record_maker S at) ks) (sym (have.members k))
      ∙ ap (λ ms. record_in d at k ∷ ms) (records_same at ks)

  module _ (v : Visible) (fs : List Entry) (bound : AreBound S fs) where
    news_same : laws.news S (hand_in v) (group_of part fs) ≡ group_news d v fs
    news_same =
        lacks S (hand_in v) (laws.needs S (laws.kept S (group_of part fs)))
        ∙ ap (missing (hand_in v)) (needs_same fs bound)

    statics_same : laws.statics S (places_in d v) (group_of part fs) ≡ places_of (unbound d v.is_main) (over (statics_in d fs) v.variables)
    statics_same = statics_places (unbound d v.is_main) fs v.variables bound

    group_same : laws.at_group S (places_in d v) (hand_in v) (group_of part fs) ≡ places_in d (within d v fs)
    group_same =
        ap (λ at. placed_all at (names_of (laws.kept S (group_of part fs))) (fresh_from (length (laws.news S (hand_in v) (group_of part fs))) (length (laws.kept S (group_of part fs))))) statics_same
        ∙ ap (λ n. placed_all (places_of (unbound d v.is_main) (over (statics_in d fs) v.variables)) (names_of (laws.kept S (group_of part fs))) (fresh_from (length (laws.news S (hand_in v) (group_of part fs))) n)) (sym (length_map (λ (m : Member). m.name) (laws.kept S (group_of part fs))))
        ∙ ap (λ xs. placed_all (places_of (unbound d v.is_main) (over (statics_in d fs) v.variables)) xs (fresh_from (length (laws.news S (hand_in v) (group_of part fs))) (length xs))) (names_kept fs bound)
        ∙ ap (λ ks. placed_all (places_of (unbound d v.is_main) (over (statics_in d fs) v.variables)) (kept_in d fs) (fresh_from (length ks) (length (kept_in d fs)))) news_same
        ∙ fresh_places (unbound d v.is_main) (kept_in d fs) (length (group_news d v fs)) (over (statics_in d fs) v.variables)

    hand_same : laws.hand_new S (hand_in v) (laws.news S (hand_in v) (group_of part fs)) ≡ hand_in (within d v fs)
    hand_same = ap (laws.hand_new S (hand_in v)) news_same ∙ fresh_hand none_at_hand (group_news d v fs) 0 v.records

    makers_same : laws.makers S (places_in d v) (hand_in v) (group_of part fs) ≡ makers_in d v fs
    makers_same =
        ap (λ ks. map (laws.record_maker S (places_in d v)) ks ++ map (laws.closure_maker S (laws.at_group S (places_in d v) (hand_in v) (group_of part fs)) (laws.hand_new S (hand_in v) (laws.news S (hand_in v) (group_of part fs)))) (laws.kept S (group_of part fs))) news_same
        ∙ ap (λ ms. ms ++ map (laws.closure_maker S (laws.at_group S (places_in d v) (hand_in v) (group_of part fs)) (laws.hand_new S (hand_in v) (laws.news S (hand_in v) (group_of part fs)))) (laws.kept S (group_of part fs))) (records_same (places_in d v) (group_news d v fs))
        ∙ ap (λ at. map (record_in d (places_in d v)) (group_news d v fs) ++ map (laws.closure_maker S at (laws.hand_new S (hand_in v) (laws.news S (hand_in v) (group_of part fs)))) (laws.kept S (group_of part fs))) group_same
        ∙ ap (λ hand. map (record_in d (places_in d v)) (group_news d v fs) ++ map (laws.closure_maker S (places_in d (within d v fs)) hand) (laws.kept S (group_of part fs))) hand_same
        ∙ ap (λ ms. map (record_in d (places_in d v)) (group_news d v fs) ++ ms) (closures_same (places_in d (within d v fs)) (hand_in (within d v fs)) fs bound)

    after_same : laws.at_after S (places_in d v) (group_of part fs) ≡ places_in d (behind d v fs)
    after_same =
        ap (λ at. here_all (names_of (laws.kept S (group_of part fs))) at) statics_same
        ∙ ap (λ xs. here_all xs (places_of (unbound d v.is_main) (over (statics_in d fs) v.variables))) (names_kept fs bound)
        ∙ here_places (unbound d v.is_main) (kept_in d fs) (over (statics_in d fs) v.variables)

    hand_after : laws.hand_made S (hand_in v) (laws.news S (hand_in v) (group_of part fs)) ≡ hand_in (behind d v fs)
    hand_after = ap (laws.hand_made S (hand_in v)) news_same ∙ made_hand S d.first_record have.records none_at_hand (group_news d v fs) v.records

pub groups_lower : GroupsAreLowered
groups_lower S d have v part fs c bound =
    ap (λ ms. laws.made S ms (lower S (laws.at_after S (places_in d v) (group_of part fs)) (laws.hand_made S (hand_in v) (laws.news S (hand_in v) (group_of part fs))) c)) (makers_same S d have part v fs bound)
    ∙ ap (λ at. laws.made S (makers_in d v fs) (lower S at (laws.hand_made S (hand_in v) (laws.news S (hand_in v) (group_of part fs))) c)) (after_same S d have part v fs bound)
    ∙ ap (λ hand. laws.made S (makers_in d v fs) (lower S (places_in d (behind d v fs)) hand c)) (hand_after S d have part v fs bound)
