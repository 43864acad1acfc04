-- Calls, raises and comparisons go on alike.
use Rattle.std.specs.Prelude.{pos, not}
use Rattle.std.proofs.Common.{◌≡◌, ℕ, suc, ◌+◌, ◌<◌, ◌≤◌, ◌&&◌, List, [], ◌∷◌, ◌++◌, map, length, Option, Some, None, slice_get, cond, Bool, true, false, refl, sym, ap, ap₂, ◌∙◌, subst, arith, length-append}
use Rattle.simulation.specs.Stores.{Act, acted}
use Rattle.simulation.proofs.Lists.{some_eq}
use Rattle.prim_meaning.specs.Meaning as mean
use Rattle.prim_meaning.specs.Meaning.{compared, is_deep, decided, turn}
use Rattle.prim_meaning.specs.Strict.{is_seen}
use Rattle.prim_meaning.specs.Alike.{AllAlike, PairAlike, SameVerdict, both_equal, both_unequal, both_pairs}
use Rattle.sml_def.specs.Maybe.{◌>>=◌}
use Rattle.closure_ir.specs.Words.{Word, Num, At, Fixed, Code, Sort, Made, Text, Pair, LastPair, Cell, label_through}
use Rattle.closure_ir.specs.Answers.{see, Part, Old, Own, Growing, grown}
use Rattle.closure_ir.specs.Code as closed
use Rattle.closure_ir.specs.Step as near
use Rattle.closure_ir.specs.Step.{truth_word, olds, behind, pair_of, chain, by_sort, pair_in}
use Rattle.closure_ir.specs.Run.{ClosedState, view_cell}
use Rattle.placed_ir.specs.Arena.{Slot, cell_in, held_at, view_slot}
use Rattle.placed_ir.specs.Step as far
use Rattle.placed_ir.specs.Step.{group_at, laid}
use Rattle.placed_ir.specs.Run.{PlacedState}
use Rattle.place_laws.specs.Place.{place_program}
use Rattle.place_laws.specs.Lies.{Same, same_num, same_at, same_fixed, same_code, SameAll, none_same, more_same, Heap}
use Rattle.place_laws.proofs.Values.{same_more, all_more}
use Rattle.place_laws.proofs.Heap.{label_same, SameParts, no_parts, old_part, own_part, SameGrowing, no_growing, more_growing, starts, wider, heap_built, last_same, is_at}
use Rattle.place_laws.proofs.Sees.{Home, word_alike, both_seen_same, both_deep_same, turn_same, decided_same}
use Rattle.place_laws.proofs.Relation.{near_at, far_at, Related, arriving, comparing, failed}
use Rattle.placed_ir.specs.Step.{growing_length}

-- ---- Pending pairs

olds_same : (homes : List ℕ) (n : ℕ) (us vs : List Word) → SameAll homes us vs → SameParts homes n (olds us) (olds vs)
olds_same homes n us vs none_same = no_parts
olds_same homes n us vs (more_same u v us' vs' s r) = old_part u v (olds us') (olds vs') s (olds_same homes n us' vs' r)

growing_count : (homes : List ℕ) (n : ℕ) (gs hs : List Growing) → SameGrowing homes n gs hs → length hs ≡ length gs
growing_count homes n gs hs no_growing = refl
growing_count homes n gs hs (more_growing g h gs' hs' e p r) = ap suc (growing_count homes n gs' hs' r)

growing_join : (homes : List ℕ) (n : ℕ) (gs hs gs' hs' : List Growing) → SameGrowing homes n gs hs → SameGrowing homes n gs' hs' → SameGrowing homes n (gs ++ gs') (hs ++ hs')
growing_join homes n gs hs gs' hs' no_growing q = q
growing_join homes n gs hs gs' hs' (more_growing g h is js e p r) q = more_growing g h (is ++ gs') (js ++ hs') e p (growing_join homes n is js gs' hs' r q)

behind_same : (homes : List ℕ) (n : ℕ) (gs hs : List Growing) (us vs : List Word) → length gs ≤ n → SameGrowing homes n gs hs → SameAll homes us vs → SameParts homes n (behind gs us) (behind hs vs)
behind_same homes n gs hs us vs l no_growing s = olds_same homes n us vs s
behind_same homes n gs hs us vs l (more_growing g h is js e p r) s =
    subst (λ k. SameParts homes n (Own (length is) ∷ []) (Own k ∷ [])) (sym (growing_count homes n is js r)) (own_part (length is) [] [] (omega arith) no_parts)

pair_same : (homes : List ℕ) (n : ℕ) (p q : Word × Word) (ps qs : List Part) → PairAlike (Same homes) p q → SameParts homes n ps qs → SameGrowing homes n (pair_of p ps ∷ []) (pair_of q qs ∷ [])
pair_same homes n p q ps qs s no_parts =
    more_growing (pair_of p []) (pair_of q []) [] [] refl (old_part p.0 q.0 (Old p.1 ∷ []) (Old q.1 ∷ []) s.0 (old_part p.1 q.1 [] [] s.1 no_parts)) no_growing
pair_same homes n p q ps qs s (old_part u v ps' qs' t r) =
    more_growing (pair_of p (Old u ∷ ps')) (pair_of q (Old v ∷ qs')) [] [] refl
    (old_part p.0 q.0 (Old p.1 ∷ Old u ∷ []) (Old q.1 ∷ Old v ∷ []) s.0 (old_part p.1 q.1 (Old u ∷ []) (Old v ∷ []) s.1 (old_part u v [] [] t no_parts))) no_growing
pair_same homes n p q ps qs s (own_part k ps' qs' l r) =
    more_growing (pair_of p (Own k ∷ ps')) (pair_of q (Own k ∷ qs')) [] [] refl
    (old_part p.0 q.0 (Old p.1 ∷ Own k ∷ []) (Old q.1 ∷ Own k ∷ []) s.0 (old_part p.1 q.1 (Own k ∷ []) (Own k ∷ []) s.1 (own_part k [] [] l no_parts))) no_growing

pub chain_same : (homes : List ℕ) (n : ℕ) (ps qs : List (Word × Word)) (us vs : List Word) → length (chain ps us) ≤ n → AllAlike (PairAlike (Same homes)) ps qs → SameAll homes us vs → SameGrowing homes n (chain ps us) (chain qs vs)
chain_same homes n [] [] us vs l a s = no_growing
chain_same homes n [] (q ∷ qs) us vs l a s = absurd a
chain_same homes n (p ∷ ps) [] us vs l a s = absurd a
chain_same homes n (p ∷ ps) (q ∷ qs) us vs l a s =
    let later = chain ps us in
    let few : length later ≤ n = omega (arith, length-append later (pair_of p (behind later us) ∷ [])) in
    let rest = chain_same homes n ps qs us vs few a.1 s in
    growing_join homes n later (chain qs vs) (pair_of p (behind later us) ∷ []) (pair_of q (behind (chain qs vs) vs) ∷ []) rest
    (pair_same homes n p q (behind later us) (behind (chain qs vs) vs) a.0 (behind_same homes n later (chain qs vs) us vs few rest s))

-- a pending pair, and what is pending behind it
pub record PairsSame (homes : List ℕ) (p q : (Word × Word) × List Word) : Type 0 where
  pub left : Same homes p.0.0 q.0.0
  pub right : Same homes p.0.1 q.0.1
  pub rest : SameAll homes p.1 q.1

sort_same : (homes : List ℕ) (s : Sort) (us vs : List Word) (p : (Word × Word) × List Word) → SameAll homes us vs → by_sort s us ≡ Some p → (q : (Word × Word) × List Word) × (by_sort s vs ≡ Some q) × PairsSame homes p q
sort_same homes (Made sh) us vs p s e = absurd (cc)
sort_same homes (Text bytes) us vs p s e = absurd (cc)
sort_same homes Pair us vs p none_same e = absurd (cc)
sort_same homes Pair us vs p (more_same u v _ _ s none_same) e = absurd (cc)
sort_same homes Pair us vs p (more_same u v _ _ s (more_same x y _ _ t none_same)) e = absurd (cc)
sort_same homes Pair us vs p (more_same u v _ _ s (more_same x y _ _ t (more_same a b _ _ r none_same))) e =
    some_eq (λ z. (q : (Word × Word) × List Word) × (Some ((v, y), b ∷ []) ≡ Some q) × PairsSame homes z q) ((u, x), a ∷ []) p e
    (((v, y), b ∷ []), refl, record { left = s; right = t; rest = more_same a b [] [] r none_same })
sort_same homes Pair us vs p (more_same u v _ _ s (more_same x y _ _ t (more_same a b _ _ r (more_same c d us' vs' k o)))) e = absurd (cc)
sort_same homes LastPair us vs p none_same e = absurd (cc)
sort_same homes LastPair us vs p (more_same u v _ _ s none_same) e = absurd (cc)
sort_same homes LastPair us vs p (more_same u v _ _ s (more_same x y _ _ t none_same)) e =
    some_eq (λ z. (q : (Word × Word) × List Word) × (Some ((v, y), []) ≡ Some q) × PairsSame homes z q) ((u, x), []) p e
    (((v, y), []), refl, record { left = s; right = t; rest = none_same })
sort_same homes LastPair us vs p (more_same u v _ _ s (more_same x y _ _ t (more_same a b us' vs' r o))) e = absurd (cc)

pair_in_same : (homes : List ℕ) (cells : List Cell) (slots : List Slot) → Heap homes cells slots → (a w : ℕ) → slice_get homes a ≡ Some w → (p : (Word × Word) × List Word) → pair_in (slice_get cells a) ≡ Some p → (q : (Word × Word) × List Word) × (pair_in (held_at slots w) ≡ Some q) × PairsSame homes p q
pair_in_same homes cells slots h a w e p f =
    let i = is_at homes cells slots a w h e in
    let r = sort_same homes i.cell.sort i.cell.fields i.fields p i.same (sym (ap pair_in i.there) ∙ f) in
    (r.0, ap (λ (o : Option Slot). pair_in (cell_in o)) i.stands ∙ r.1, r.2)

-- ---- Steps

some_is : {X : Type 0} (x y : X) → Some x ≡ Some y → x ≡ y
some_is x y e = let k : x ≡ y = cc in k

module _ (p : closed.Tree) (input out homes : List ℕ) (cells : List Cell) (slots : List Slot) (hp : Heap homes cells slots) (s' : ClosedState) where
  abbrev nm : near.Store
  nm = record { cells = cells; input = input }

  abbrev fm : far.Store
  fm = record { slots = slots; input = input }

  -- the placed machine comes to a state that is related to s'
  pub record Both (act : far.Goes) : Type 0 where
    pub next : PlacedState
    pub done : acted (view_slot p.points) out slots act ≡ Some next
    pub then : Related 0 s' next

  abbrev pub GoesOn : near.Goes → Type 0
  GoesOn act = acted (view_cell p.points) out cells act ≡ Some s'

  pub calls_both : (o q : Option ℕ) (f g : Word) (us vs : List Word) (h k : Word) → ((l : ℕ) → o ≡ Some l → q ≡ Some l) → Same homes f g → SameAll homes us vs → Same homes h k → GoesOn (near.calls p nm o f us h) → Both (far.calls (place_program p) fm q g vs k)
  calls_both None q f g us vs h k fit sf s sh e = absurd (cc)
  calls_both (Some l) q f g us vs h k fit sf s sh e = record {
    next = far_at (far.Arriving l (g ∷ vs) k) input out slots;
    done = ap (λ (o : Option ℕ). acted (view_slot p.points) out slots (o >>= (λ i. far.on fm (far.Arriving i (g ∷ vs) k)))) (fit l refl);
    then =
        subst (λ z. Related 0 z (far_at (far.Arriving l (g ∷ vs) k) input out slots)) (some_is (near_at (near.Arriving l (f ∷ us) h) input out cells) s' e)
        (arriving l (f ∷ us) (g ∷ vs) h k input out homes cells slots hp (more_same f g us vs sf s) sh);
  }

  pub enters_both : (f g : Word) (us vs : List Word) (h k : Word) → Same homes f g → SameAll homes us vs → Same homes h k → GoesOn (near.enters p nm f us h) → Both (far.enters (place_program p) fm g vs k)
  enters_both f g us vs h k sf s sh e =
      calls_both (label_through (slice_get cells) f) (label_through (held_at slots) g) f g us vs h k (λ l q. label_same homes cells slots hp f g l sf q) sf s sh e

  -- a packet goes to the handler, if there is one
  pub throws_both : (u v h k : Word) → Same homes u v → Same homes h k → GoesOn (near.throws p nm u h) → Both (far.throws (place_program p) fm v k)
  throws_both u v h k s (same_num n) e = record {
    next = far_at (far.Failed v) input out slots;
    done = refl;
    then = subst (λ z. Related 0 z (far_at (far.Failed v) input out slots)) (some_is (near_at (near.Failed u) input out cells) s' e) (failed u v input out homes cells slots hp s);
  }
  throws_both u v h k s (same_at a w q) e = enters_both (At a) (At w) (u ∷ []) (v ∷ []) (At a) (At w) (same_at a w q) (more_same u v [] [] s none_same) (same_at a w q) e
  throws_both u v h k s (same_fixed f) e = enters_both (Fixed f) (Fixed f) (u ∷ []) (v ∷ []) (Fixed f) (Fixed f) (same_fixed f) (more_same u v [] [] s none_same) (same_fixed f) e
  throws_both u v h k s (same_code l) e = enters_both (Code l) (Code l) (u ∷ []) (v ∷ []) (Code l) (Code l) (same_code l) (more_same u v [] [] s none_same) (same_code l) e

  truth_both : (b c : Bool) (h g k l : Word) → c ≡ b → Same homes h g → Same homes k l → GoesOn (near.tells_truth p nm b k h) → Both (far.tells_truth (place_program p) fm c l g)
  truth_both b c h g k l q sh sk e =
      subst (λ t. Both (far.tells_truth (place_program p) fm t l g)) (sym q)
      (enters_both k l (truth_word b ∷ []) (truth_word b ∷ []) h g sk (more_same (truth_word b) (truth_word b) [] [] (same_num (pos (cond b 1 0))) none_same) sh e)

  compares_on : (t : Bool) (us vs : List Word) (h g k l : Word) → Same homes h g → Same homes k l → SameAll homes us vs → GoesOn (near.on nm (near.Comparing t us k h)) → Both (far.on fm (far.Comparing t vs l g))
  compares_on t us vs h g k l sh sk s e = record {
    next = far_at (far.Comparing t vs l g) input out slots;
    done = refl;
    then = subst (λ z. Related 0 z (far_at (far.Comparing t vs l g) input out slots)) (some_is (near_at (near.Comparing t us k h) input out cells) s' e) (comparing t us vs k l h g input out homes cells slots hp s sk sh);
  }

  pends_more : (t : Bool) (h g k l : Word) (a b : Growing) (gs hs : List Growing) → Same homes h g → Same homes k l → SameGrowing homes (suc (length gs)) (a ∷ gs) (b ∷ hs) → GoesOn (near.pends p nm t [] k h (a ∷ gs)) → Both (far.pends (place_program p) fm t [] l g (b ∷ hs))
  pends_more t h g k l a b gs hs sh sk z e =
      let wide = wider homes (length slots) (a ∷ gs) in
      let widen = λ (u v : Word) (s : Same homes u v). same_more homes (starts (length slots) (map growing_length (a ∷ gs))) u v s in
      let new = map (grown (λ j. length cells + j)) (a ∷ gs) in
      let left = At (length cells + length gs) in
      let right = At (group_at (length slots) (b ∷ hs) (length hs)) in
      let next = far_at (far.Comparing t (right ∷ []) l g) input out (slots ++ laid (length slots) (b ∷ hs)) in
      record {
        next = next;
        done = refl;
        then = subst (λ y. Related 0 y next) (some_is (near_at (near.Comparing t (left ∷ []) k h) input out (cells ++ new)) s' e)
            (comparing t (left ∷ []) (right ∷ []) k l h g input out wide (cells ++ new) (slots ++ laid (length slots) (b ∷ hs)) (heap_built homes cells slots hp (a ∷ gs) (b ∷ hs) z)
            (more_same left right [] [] (last_same homes cells slots hp a b gs hs z) none_same) (widen k l sk) (widen h g sh));
      }

  pends_both : (t : Bool) (us vs : List Word) (h g k l : Word) (gs hs : List Growing) {n : ℕ} → Same homes h g → Same homes k l → SameAll homes us vs → SameGrowing homes n gs hs → SameGrowing homes (length gs) gs hs → GoesOn (near.pends p nm t us k h gs) → Both (far.pends (place_program p) fm t vs l g hs)
  pends_both t us vs h g k l gs hs sh sk s no_growing z e = compares_on t us vs h g k l sh sk s e
  pends_both t us vs h g k l gs hs sh sk s (more_growing a b gs' hs' q r rest) z e = pends_more t h g k l a b gs' hs' sh sk z e

  chains_both : (t : Bool) (us vs : List Word) (h g k l : Word) (ps qs : List (Word × Word)) → Same homes h g → Same homes k l → SameAll homes us vs → AllAlike (PairAlike (Same homes)) ps qs → GoesOn (near.pends p nm t us k h (chain ps us)) → Both (far.pends (place_program p) fm t vs l g (chain qs vs))
  chains_both t us vs h g k l ps qs sh sk s a e =
      let c = chain_same homes (length (chain ps us)) ps qs us vs (omega arith) a s in
      pends_both t us vs h g k l (chain ps us) (chain qs vs) sh sk s c c e

  cond_both : (b c : Bool) (x y : near.Goes) (u v : far.Goes) → c ≡ b → (GoesOn x → Both u) → (GoesOn y → Both v) → GoesOn (cond b x y) → Both (cond c u v)
  cond_both true true x y u v q f g e = f e
  cond_both false false x y u v q f g e = g e
  cond_both true false x y u v q f g e = absurd (cc)
  cond_both false true x y u v q f g e = absurd (cc)

  none_both : GoesOn None → Both None
  none_both e = absurd (cc)

  -- both values have equality in one machine where they have it in the other
  seen_both : (u v u' v' : Word) → Same homes u u' → Same homes v v' → far.both_seen (place_program p) fm u' v' ≡ near.both_seen p nm u v
  seen_both u v u' v' su sv = ap₂ (λ a b. a && b) (both_seen_same homes cells slots hp p.texts u u' su) (both_seen_same homes cells slots hp p.texts v v' sv)

  -- a comparison begins
  pub equals_both : (u v u' v' : Word) (t : Bool) (k l h g : Word) → Same homes u u' → Same homes v v' → Same homes k l → Same homes h g → GoesOn (near.equals p nm u v t k h) → Both (far.equals (place_program p) fm u' v' t l g)
  equals_both u v u' v' t k l h g su sv sk sh e =
      let left = see p.texts (slice_get cells) in
      let right = see p.texts (held_at slots) in
      cond_both (near.both_seen p nm u v) (far.both_seen (place_program p) fm u' v') (near.begins p nm u v t k h) None (far.begins (place_program p) fm u' v' t l g) None (seen_both u v u' v' su sv)
      (cond_both (is_deep (left u) (left v)) (is_deep (right u') (right v')) (near.pends p nm t [] k h (chain ((u, v) ∷ []) [])) (near.tells_truth p nm (decided (compared (left u) (left v)) t) k h) (far.pends (place_program p) fm t [] l g (chain ((u', v') ∷ []) [])) (far.tells_truth (place_program p) fm (decided (compared (right u') (right v')) t) l g)
      (both_deep_same homes cells slots hp p.texts u u' v v' su sv)
      (chains_both t [] [] h g k l ((u, v) ∷ []) ((u', v') ∷ []) sh sk none_same ((su, sv), tt))
      (truth_both (decided (compared (left u) (left v)) t) (decided (compared (right u') (right v')) t) h g k l
      (decided_same (Home homes cells slots hp) (Same homes) (compared (left u) (left v)) (compared (right u') (right v')) t (turn_same homes cells slots hp p.texts u u' v v' su sv)) sh sk))
      none_both e

  verdict_both : (d c : mean.Verdict Word) (us vs : List Word) (t : Bool) (k l h g : Word) → SameVerdict (Same homes) d c → SameAll homes us vs → Same homes k l → Same homes h g → GoesOn (near.by_verdict p nm d us t k h) → Both (far.by_verdict (place_program p) fm c vs t l g)
  verdict_both d c us vs t k l h g both_equal s sk sh e = compares_on t us vs h g k l sh sk s e
  verdict_both d c us vs t k l h g both_unequal s sk sh e = truth_both (not t) (not t) h g k l refl sh sk e
  verdict_both d c us vs t k l h g (both_pairs ps qs a) s sk sh e = chains_both t us vs h g k l ps qs sh sk s a e

  takes_both : (q r : (Word × Word) × List Word) (t : Bool) (k l h g : Word) → PairsSame homes q r → Same homes k l → Same homes h g → GoesOn (near.takes_pair p nm q t k h) → Both (far.takes_pair (place_program p) fm r t l g)
  takes_both q r t k l h g s sk sh e =
      let left = turn (see p.texts (slice_get cells)) q.0.0 q.0.1 in
      let right = turn (see p.texts (held_at slots)) r.0.0 r.0.1 in
      cond_both (near.both_seen p nm q.0.0 q.0.1) (far.both_seen (place_program p) fm r.0.0 r.0.1) (near.by_verdict p nm left q.1 t k h) None (far.by_verdict (place_program p) fm right r.1 t l g) None
      (seen_both q.0.0 q.0.1 r.0.0 r.0.1 s.left s.right)
      (verdict_both left right q.1 r.1 t k l h g (turn_same homes cells slots hp p.texts q.0.0 r.0.0 q.0.1 r.0.1 s.left s.right) s.rest sk sh)
      none_both e

  first_both : (a w : ℕ) (t : Bool) (k l h g : Word) → slice_get homes a ≡ Some w → Same homes k l → Same homes h g → (o : Option ((Word × Word) × List Word)) → pair_in (slice_get cells a) ≡ o → GoesOn (o >>= (λ q. near.takes_pair p nm q t k h)) → Both (pair_in (held_at slots w) >>= (λ q. far.takes_pair (place_program p) fm q t l g))
  first_both a w t k l h g i sk sh None j e = absurd (cc)
  first_both a w t k l h g i sk sh (Some q) j e =
      let r = pair_in_same homes cells slots hp a w i q j in
      subst (λ o. Both (o >>= (λ q. far.takes_pair (place_program p) fm q t l g))) (sym r.1) (takes_both q r.0 t k l h g r.2 sk sh e)

  -- a turn
  pub compares_both : (us vs : List Word) (t : Bool) (k l h g : Word) → SameAll homes us vs → Same homes k l → Same homes h g → GoesOn (near.compares p nm us t k h) → Both (far.compares (place_program p) fm vs t l g)
  compares_both us vs t k l h g none_same sk sh e = truth_both t t h g k l refl sh sk e
  compares_both us vs t k l h g (more_same u v us' vs' (same_at a w q) r) sk sh e = first_both a w t k l h g q sk sh (pair_in (slice_get cells a)) refl e
  compares_both us vs t k l h g (more_same u v us' vs' (same_num n) r) sk sh e = absurd (cc)
  compares_both us vs t k l h g (more_same u v us' vs' (same_fixed f) r) sk sh e = absurd (cc)
  compares_both us vs t k l h g (more_same u v us' vs' (same_code c) r) sk sh e = absurd (cc)
