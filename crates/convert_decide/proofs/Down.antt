-- The table of facts is filled from the last term down.
use Rattle.std.proofs.Common.{◌≡◌, ℕ, suc, ◌<◌, ◌≤◌, Bool, List, [], ◌∷◌, Some, length, refl, sym, ap, ◌∙◌, arith, length-set, ⊎_elim, subst}
use Rattle.std.proofs.lemmas.Bool.{cases_lt}
use Rattle.std.proofs.lemmas.List.{get_or-set_same, get_or-set_other}
use Rattle.std.proofs.lemmas.Option.{slice_get_past, slice_get_within, unwrap_or-slice_get}
use Rattle.std.specs.List.{AllByRecursion}
use Rattle.std.specs.Prelude.{slice_get, slice_set, unwrap_or}
use Rattle.lambda_ir.specs.declared.term.Term.{Term}
use Rattle.lambda_ir.specs.Kept.{term_parts}
use Rattle.convert_laws.specs.declared.head.Head.{Head}
use Rattle.convert_laws.specs.Facts.{AreNumbered}
use Rattle.convert_laws.specs.Needs.{is_atom_term, is_tuple_term, head_at, head_term, needs_term}
use Rattle.convert_laws.specs.Convert.{size_term}
use Rattle.convert_laws.proofs.Unfold.{all_map, past_none}
use Rattle.convert_laws.proofs.ByParts.{atom_by_parts, tuple_by_parts, head_by_parts, needs_by_all, size_by_parts, atom_here, tuple_here, head_here, needs_here, size_here}
use Rattle.convert_decide.specs.declared.table.Fact.{Fact}
use Rattle.convert_decide.specs.Table.{nothing_known, fact_in, fact_by, fact_at, AreFactsFrom}

-- ---- A fact is its fields

abbrev fact : Bool → Bool → Head → Bool → ℕ → Fact
fact a t h n s = record { is_atom = a; is_tuple = t; head = h; needs = n; size = s }

fields : (a a' t t' : Bool) (h h' : Head) (n n' : Bool) (s s' : ℕ) → a ≡ a' → t ≡ t' → h ≡ h' → n ≡ n' → s ≡ s' → fact a t h n s ≡ fact a' t' h' n' s'
fields a a' t t' h h' n n' s s' ea et eh en es =
    ap (λ x. fact x t h n s) ea ∙ ap (λ x. fact a' x h n s) et ∙ ap (λ x. fact a' t' x n s) eh ∙ ap (λ x. fact a' t' h' x s) en ∙ ap (fact a' t' h' n') es

-- ---- By the parts

pub fact_by_parts : (f g : ℕ → Fact) (t : Term) → AllByRecursion (λ c. f c ≡ g c) (term_parts t) → fact_by f t ≡ fact_by g t
fact_by_parts f g t h =
    let heads = all_map (λ c e. ap (λ (x : Fact). x.head) e) (term_parts t) h in
    fields _ _ _ _ _ _ _ _ _ _
    (atom_by_parts (λ c. (f c).is_atom) (λ c. (g c).is_atom) t (all_map (λ c e. ap (λ (x : Fact). x.is_atom) e) (term_parts t) h))
    (tuple_by_parts (λ c. (f c).is_tuple) (λ c. (g c).is_tuple) t (all_map (λ c e. ap (λ (x : Fact). x.is_tuple) e) (term_parts t) h))
    (head_by_parts (λ c. (f c).head) (λ c. (g c).head) t heads)
    (needs_by_all (λ c. (f c).head) (λ c. (g c).head) (λ c. (f c).needs) (λ c. (g c).needs) t heads (all_map (λ c e. ap (λ (x : Fact). x.needs) e) (term_parts t) h))
    (size_by_parts (λ c. (f c).size) (λ c. (g c).size) t (all_map (λ c e. ap (λ (x : Fact). x.size) e) (term_parts t) h))

pub fact_here : (terms : List Term) → AreNumbered terms → (i : ℕ) (t : Term) → slice_get terms i ≡ Some t → fact_at terms i ≡ fact_by (fact_at terms) t
fact_here terms numbered i t here =
    fields _ _ _ _ _ _ _ _ _ _ (atom_here terms numbered i t here) (tuple_here terms numbered i t here) (head_here terms numbered i t here) (needs_here terms numbered i t here) (size_here terms numbered i t here)

-- ---- Past the last term

fact_past : (terms : List Term) → AreNumbered terms → (i : ℕ) → length terms ≤ i → fact_at terms i ≡ nothing_known
fact_past terms numbered i h =
    fields _ _ _ _ _ _ _ _ _ _
    (past_none _ is_atom_term atom_by_parts terms numbered i h)
    (past_none _ is_tuple_term tuple_by_parts terms numbered i h)
    (past_none _ head_term head_by_parts terms numbered i h)
    (past_none _ (needs_term (head_at terms)) (λ f g t e. needs_by_all (head_at terms) (head_at terms) f g t (all_same (term_parts t)) e) terms numbered i h)
    (past_none _ size_term size_by_parts terms numbered i h)
  where
    all_same : (cs : List ℕ) → AllByRecursion (λ c. head_at terms c ≡ head_at terms c) cs
    all_same [] = tt
    all_same (c ∷ cs) = (refl, all_same cs)

pub facts_last : (terms : List Term) → AreNumbered terms → (facts : List Fact) → length facts ≡ length terms → AreFactsFrom terms (length terms) facts
facts_last terms numbered facts e = record {
  many = e;
  at = λ j h. ap (λ o. unwrap_or o nothing_known) (slice_get_past facts j (omega (arith, e))) ∙ sym (fact_past terms numbered j h);
}

-- ---- One more

in-set_same : (facts : List Fact) (i : ℕ) (x : Fact) → i < length facts → fact_in (slice_set facts i x) i ≡ x
in-set_same facts i x h = unwrap_or-slice_get (slice_set facts i x) i nothing_known ∙ get_or-set_same facts i x nothing_known h

in-set_other : (facts : List Fact) (i j : ℕ) (x : Fact) → i < j → fact_in (slice_set facts i x) j ≡ fact_in facts j
in-set_other facts i j x h =
    unwrap_or-slice_get (slice_set facts i x) j nothing_known ∙ get_or-set_other facts i j x nothing_known (omega arith) ∙ sym (unwrap_or-slice_get facts j nothing_known)

pub facts_down : (terms : List Term) → AreNumbered terms → (i : ℕ) (t : Term) → slice_get terms i ≡ Some t → (facts : List Fact) → AreFactsFrom terms (suc i) facts → (x : Fact) → x ≡ fact_by (fact_in facts) t → AreFactsFrom terms i (slice_set facts i x)
facts_down terms numbered i t here facts done x e = record {
  many = length-set facts i x ∙ done.many;
  at = λ j h. ⊎_elim (above j) (λ le. at_it j (omega arith)) (cases_lt i j);
}
  where
    within : i < length terms
    within = slice_get_within terms i t here

    here_now : fact_in (slice_set facts i x) i ≡ fact_at terms i
    here_now =
        in-set_same facts i x (omega (arith, within, done.many))
        ∙ e
        ∙ fact_by_parts (fact_in facts) (fact_at terms) t (all_map (λ c h. done.at c h.0) (term_parts t) (numbered i t here))
        ∙ sym (fact_here terms numbered i t here)

    at_it : (j : ℕ) → i ≡ j → fact_in (slice_set facts i x) j ≡ fact_at terms j
    at_it j same = subst (λ k. fact_in (slice_set facts i x) k ≡ fact_at terms k) same here_now

    above : (j : ℕ) → i < j → fact_in (slice_set facts i x) j ≡ fact_at terms j
    above j h = in-set_other facts i j x h ∙ done.at j h
