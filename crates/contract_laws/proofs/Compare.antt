-- Comparisons go the same way in both.
use Rattle.std.proofs.Common.{◌≡◌, ◌≢◌, ℕ, zero, suc, ◌<◌, ◌≤◌, ◌+◌, List, [], ◌∷◌, ◌++◌, map, length, Option, Some, None, slice_get, Bool, true, false, not, cond, ◌&&◌, refl, sym, ap, ◌∙◌, subst, subst₂, arith, length-append}
use Rattle.smlc_base.specs.declared.point.Point.{Point}
use Rattle.simulation.specs.Blocks.{IsAmong}
use Rattle.simulation.specs.Machines.{Machine}
use Rattle.simulation.specs.Stores.{machine_of, acted}
use Rattle.simulation.proofs.Lists.{some_eq, get_below, both_true}
use Rattle.simulation.proofs.Machines.{stay, Unseen}
use Rattle.simulation.proofs.Forward.{Answer, Enters, silent, goes_one, together}
use Rattle.simulation.proofs.Stores.{store_steady, plain_tidy}
use Rattle.prim_meaning.specs.Meaning.{Seen, Verdict, compared, is_deep, decided}
use Rattle.prim_meaning.specs.Strict.{is_seen}
use Rattle.prim_meaning.specs.Alike.{AllAlike, PairAlike, SameVerdict, both_equal, both_unequal, both_pairs}
use Rattle.sml_def.specs.State.{Value, At, Address, Block, Pending, truth}
use Rattle.sml_def.specs.Builtin.{see, pend}
use Rattle.sml_def.specs.Run.{of_value, of_next}
use Rattle.cps_ir.specs.declared.atom.Atom.{Atom}
use Rattle.cps_ir.specs.Code.{Code, Equal, Tree}
use Rattle.cps_ir.specs.State.{Vars, value, Piece, Plain, data_of, Doing, Run, Enter, Compare}
use Rattle.cps_ir.specs.Step.{Store, Goes, on, making, begins, by_verdict, compares}
use Rattle.cps_ir.specs.Run.{view_piece, cps_machine, CpsState}
use Rattle.contract_laws.specs.Contract.{Scope, AtomAt}
use Rattle.contract_laws.proofs.Relation.{World, world, Val, same, depth, ValOption, some, IsDatum, tuple, applied, text, cell, exn_name, packet, pending, Env, IsPiece, closure, plain, Heap, More, val_later, option_later, grown, shift_new, more_both, AreNew, heap_both}
use Rattle.contract_laws.proofs.Relation as rel
use Rattle.contract_laws.proofs.Sees.{SeesAs, SeesMore, Compares, still_seen, turn_sees}
use Rattle.contract_laws.proofs.Seeing.{IsCells, views}
use Rattle.contract_laws.proofs.States.{conf, Related, entering, comparing, EqualsKeep}
use Rattle.contract_laws.proofs.Steps.{at_holds, one_new}
use Rattle.contract_laws.proofs.Reaches.{Into, value_leads, option_leads, both_lead, reached, no_record}

-- pairs of related values
data Pairs (L : List Point) (f : ℕ → ℕ) (st : List Piece) (len : ℕ) : List (Value × Value) → List (Value × Value) → Type 0 where
  no_pairs : Pairs L f st len [] []
  a_pair : (x y : Value × Value) (xs ys : List (Value × Value)) → Val L f st len x.0 y.0 → Val L f st len x.1 y.1 → Pairs L f st len xs ys → Pairs L f st len (x ∷ xs) (y ∷ ys)

pairs_of : (L : List Point) (f : ℕ → ℕ) (st : List Piece) (len : ℕ) (xs ys : List (Value × Value)) → AllAlike (PairAlike (Val L f st len)) xs ys → Pairs L f st len xs ys
pairs_of L f st len [] [] h = no_pairs
pairs_of L f st len [] (y ∷ ys) h = absurd h
pairs_of L f st len (x ∷ xs) [] h = absurd h
pairs_of L f st len (x ∷ xs) (y ∷ ys) h = a_pair x y xs ys h.0.0 h.0.1 (pairs_of L f st len xs ys h.1)

decided_same : {V W : Type 0} (R : V → W → Type 0) (x : Verdict V) (y : Verdict W) (t : Bool) → SameVerdict R x y → decided y t ≡ decided x t
decided_same R x y t both_equal = refl
decided_same R x y t both_unequal = refl
decided_same R x y t (both_pairs ps qs h) = refl

acted_if : (out : List ℕ) (st : List Piece) (b : Bool) (o : Goes) (s : CpsState) → acted view_piece out st (cond b o None) ≡ Some s → (b ≡ true) × (acted view_piece out st o ≡ Some s)
acted_if out st true o s e = (refl, e)
acted_if out st false o s e = absurd (cc)

both : (a b : Bool) → a ≡ true → b ≡ true → (a && b) ≡ true
both true true e g = refl
both true false e g = g
both false b e g = absurd (cc)

-- ---- Pairs that are pending

pub data Data (L : List Point) (f : ℕ → ℕ) (st : List Piece) (len : ℕ) : List Block → List Block → Type 0 where
  no_data : Data L f st len [] []
  more_data : (b d : Block) (bs ds : List Block) → IsDatum L f st len b d → Data L f st len bs ds → Data L f st len (b ∷ bs) (d ∷ ds)

data_after : (L : List Point) (f : ℕ → ℕ) (st : List Piece) (len : ℕ) (bs ds : List Block) (b d : Block) → Data L f st len bs ds → IsDatum L f st len b d → Data L f st len (bs ++ b ∷ []) (ds ++ d ∷ [])
data_after L f st len bs ds b d no_data k = more_data b d [] [] k no_data
data_after L f st len bs ds b d (more_data x y xs ys r q) k = more_data x y (xs ++ b ∷ []) (ys ++ d ∷ []) r (data_after L f st len xs ys b d q k)

data_get : (T : List (List ℕ)) (L : List Point) (f : ℕ → ℕ) (st ps : List Piece) (bs ds : List Block) → Data L f st (length ps) bs ds → (c : ℕ) (x : Piece) → slice_get (map Plain ds) c ≡ Some x → (i : Piece) × (slice_get (map Plain bs) c ≡ Some i) × IsPiece T L f st ps i x
data_get T L f st ps bs ds no_data c x e = absurd (cc)
data_get T L f st ps bs ds (more_data b d xs ys r q) zero x e = (Plain b, refl, some_eq (λ t. IsPiece T L f st ps (Plain b) t) (Plain d) x e (plain b d r))
data_get T L f st ps bs ds (more_data b d xs ys r q) (suc c) x e = data_get T L f st ps xs ys q c x e

-- the blocks of pairs and the first of them
pub record Pends (L : List Point) (f : ℕ → ℕ) (st : List Piece) (len : ℕ) (xs : List (Value × Value)) (r s : List Block × Option Address) : Type 0 where
  pub blocks : Data L f st len r.0 s.0
  pub first : ValOption f len r.1 s.1
  pub many : (length r.0 ≡ length xs) × (length s.0 ≡ length xs)

pends : (L : List Point) (f : ℕ → ℕ) (st : List Piece) (len : ℕ) (xs ys : List (Value × Value)) (m n : Option Address) (a b : ℕ) → Pairs L f st len xs ys → ValOption f len m n → ((c : ℕ) → c < length xs → (b + c < len) × (f (b + c) ≡ a + c)) → Pends L f st len xs (pend xs m a) (pend ys n b)
pends L f st len xs ys m n a b no_pairs o at = record { blocks = no_data; first = o; many = (refl, refl) }
pends L f st len xs ys m n a b (a_pair x y zs ws k l r) o at =
    let q = pends L f st len zs ws m n a b r o (λ c i. at c (omega arith)) in
    let e = at (length zs) (omega arith) in
    record {
      blocks = data_after L f st len (pend zs m a).0 (pend ws n b).0 (Pending x.0 x.1 (pend zs m a).1) (Pending y.0 y.1 (pend ws n b).1) q.blocks (pending x.0 y.0 x.1 y.1 (pend zs m a).1 (pend ws n b).1 k l q.first);
      first = some (a + length (pend zs m a).0) (b + length (pend ws n b).0)
          (let i = q.many.1 in let j = e.0 in omega arith)
          (ap (λ c. f (b + c)) q.many.1 ∙ e.1 ∙ ap (λ c. a + c) (sym q.many.0));
      many = (let i = q.many.0 in omega (arith, length-append (pend zs m a).0 (Pending x.0 x.1 (pend zs m a).1 ∷ [])), let i = q.many.1 in omega (arith, length-append (pend ws n b).0 (Pending y.0 y.1 (pend ws n b).1 ∷ [])));
    }

pairs_later : (L : List Point) (f g : ℕ → ℕ) (st st' ps ps' : List Piece) → More f g st st' ps ps' → (xs ys : List (Value × Value)) → Pairs L f st (length ps) xs ys → Pairs L g st' (length ps') xs ys
pairs_later L f g st st' ps ps' m xs ys no_pairs = no_pairs
pairs_later L f g st st' ps ps' m xs ys (a_pair x y zs ws k l r) =
    a_pair x y zs ws (val_later L f g st st' ps ps' m x.0 y.0 k) (val_later L f g st st' ps ps' m x.1 y.1 l) (pairs_later L f g st st' ps ps' m zs ws r)

map_long : (bs : List Block) → length (map Plain bs) ≡ length bs
map_long [] = refl
map_long (b ∷ bs) = ap suc (map_long bs)

pend_long : (ys : List (Value × Value)) (n : Option Address) (b : ℕ) → length (pend ys n b).0 ≡ length ys
pend_long [] n b = refl
pend_long (y ∷ ys) n b = let e = pend_long ys n b in omega (arith, length-append (pend ys n b).0 (Pending y.0 y.1 (pend ys n b).1 ∷ []))

pairs_long : (L : List Point) (f : ℕ → ℕ) (st : List Piece) (len : ℕ) (xs ys : List (Value × Value)) → Pairs L f st len xs ys → length xs ≡ length ys
pairs_long L f st len xs ys no_pairs = refl
pairs_long L f st len xs ys (a_pair x y zs ws k l r) = ap suc (pairs_long L f st len zs ws r)

module _ (q : Tree) (L : List Point) where
  abbrev M : Machine CpsState
  M = machine_of (cps_machine q)

  abbrev R : ℕ → CpsState → CpsState → Type 0
  R = Related q.texts L

  abbrev Ans : ℕ → CpsState → CpsState → CpsState → Type 0
  Ans w s s' t = Answer false M M L (Unseen M L) (λ v u. R v s' u) w s t

  abbrev at_store : List Piece → List ℕ → Store
  at_store st input = record { pieces = st; input = input }

  -- how b answers a step after which both call or compare
  record Next (ps : List Piece) (input out : List ℕ) (s' : CpsState) (o : Goes) : Type 0 where
    wait : ℕ
    to : CpsState
    goes : acted view_piece out ps o ≡ Some to
    onward : R wait s' to

  plus_zero : (n : ℕ) → n + 0 ≡ n
  plus_zero n = omega arith

  -- a first pending pair in both, or both are decided at once
  begun : (d y : Bool) (f : ℕ → ℕ) (st ps : List Piece) (input out : List ℕ) (x x' z z' : Value) (t : Bool) (k k' h h' : Value) (s' : CpsState) → Heap q.texts L f st ps → Val L f st (length ps) x x' → Val L f st (length ps) z z' → Val L f st (length ps) k k' → Val L f st (length ps) h h' → acted view_piece out st (cond d (making (at_store st input) (Plain (Pending x z None)) (λ a. Compare (Some a) t k h)) (on (at_store st input) (Enter k (truth y ∷ []) h))) ≡ Some s' → Next ps input out s' (cond d (making (at_store ps input) (Plain (Pending x' z' None)) (λ a. Compare (Some a) t k' h')) (on (at_store ps input) (Enter k' (truth y ∷ []) h')))
  begun false y f st ps input out x x' z z' t k k' h h' s' hp i j kk hh e =
      let v = truth y in
      let u = conf (Enter k' (v ∷ []) h') input out ps in
      record { wait = depth kk; to = u; goes = refl; onward = some_eq (λ z. R (depth kk) z u) _ s' e (entering (depth kk) k k' (v ∷ []) (v ∷ []) h h' input out st ps f hp kk (rel.next v v [] [] (same v refl) rel.none) hh (omega arith)) }
  begun true y f st ps input out x x' z z' t k k' h h' s' hp i j kk hh e =
      let zs : List Piece = Plain (Pending x z None) ∷ [] in
      let ys : List Piece = Plain (Pending x' z' None) ∷ [] in
      let g = grown f st ps in
      let m = more_both f st ps zs ys in
      let u = conf (Compare (Some (length ps)) t k' h') input out (ps ++ ys) in
      let long : length ps < length (ps ++ ys) = omega (arith, length-append ps ys) in
      let image : grown f st ps (length ps) ≡ length st = subst₂ (λ a b. grown f st ps a ≡ b) (plus_zero (length ps)) (plus_zero (length st)) (shift_new f (length ps) (length st) 0) in
      record {
        wait = 0;
        to = u;
        goes = refl;
        onward = some_eq (λ z. R 0 z u) _ s' e
            (comparing (Some (length st)) (Some (length ps)) t k k' h h' input out (st ++ zs) (ps ++ ys) g
            (heap_both q.texts L f st ps zs ys (one_new q.texts L f st ps (Pending x z None) (Pending x' z' None) (pending x x' z z' None None i j rel.none)) hp)
            (some (length st) (length ps) long image)
            (val_later L f g st (st ++ zs) ps (ps ++ ys) m k k' kk) (val_later L f g st (st ++ zs) ps (ps ++ ys) m h h' hh));
      }

  goes_by : (f : ℕ → ℕ) (st ps : List Piece) (input out : List ℕ) (m n : Option Address) (t : Bool) (k k' h h' : Value) (s' : CpsState) (x y : Verdict Value) → Heap q.texts L f st ps → ValOption f (length ps) m n → Val L f st (length ps) k k' → Val L f st (length ps) h h' → SameVerdict (Val L f st (length ps)) x y → acted view_piece out st (by_verdict q (at_store st input) x m t k h) ≡ Some s' → Next ps input out s' (by_verdict q (at_store ps input) y n t k' h')
  goes_by f st ps input out m n t k k' h h' s' x y hp o kk hh both_equal e =
      let u = conf (Compare n t k' h') input out ps in
      record { wait = 0; to = u; goes = refl; onward = some_eq (λ z. R 0 z u) _ s' e (comparing m n t k k' h h' input out st ps f hp o kk hh) }
  goes_by f st ps input out m n t k k' h h' s' x y hp o kk hh both_unequal e =
      let v = truth (not t) in
      let u = conf (Enter k' (v ∷ []) h') input out ps in
      record { wait = depth kk; to = u; goes = refl; onward = some_eq (λ z. R (depth kk) z u) _ s' e (entering (depth kk) k k' (v ∷ []) (v ∷ []) h h' input out st ps f hp kk (rel.next v v [] [] (same v refl) rel.none) hh (omega arith)) }
  goes_by f st ps input out m n t k k' h h' s' x y hp o kk hh (both_pairs xs ys alike) e =
      let r = pairs_of L f st (length ps) xs ys alike in
      let P = pend xs m (length st) in
      let Q = pend ys n (length ps) in
      let zs : List Piece = map Plain P.0 in
      let ws : List Piece = map Plain Q.0 in
      let g = grown f st ps in
      let w = more_both f st ps zs ws in
      let long = pairs_long L f st (length ps) xs ys r in
      let many = pend_long ys n (length ps) in
      let many' = map_long Q.0 in
      let p = pends L g (st ++ zs) (length (ps ++ ws)) xs ys m n (length st) (length ps) (pairs_later L f g st (st ++ zs) ps (ps ++ ws) w xs ys r) (option_later L f g st (st ++ zs) ps (ps ++ ws) w m n o)
      (λ c i. (omega (arith, length-append ps ws), shift_new f (length ps) (length st) c)) in
      let u = conf (Compare Q.1 t k' h') input out (ps ++ ws) in
      record {
        wait = 0;
        to = u;
        goes = refl;
        onward = some_eq (λ z. R 0 z u) _ s' e
            (comparing P.1 Q.1 t k k' h h' input out (st ++ zs) (ps ++ ws) g
            (heap_both q.texts L f st ps zs ws (λ c z i. data_get q.texts L g (st ++ zs) (ps ++ ws) P.0 Q.0 p.blocks c z i) hp)
            p.first (val_later L f g st (st ++ zs) ps (ps ++ ws) w k k' kk) (val_later L f g st (st ++ zs) ps (ps ++ ws) w h h' hh));
      }

  -- the answer does one step, and nothing is passed
  one_step : (w : ℕ) (s s' t : CpsState) (n : ℕ) (u : CpsState) → Unseen M L s → Unseen M L t → M.step t ≡ Some u → R n s' u → Ans w s s' t
  one_step w s s' t n u a b e r = silent a (goes_one M (Unseen M L) (λ v z. R v s' z) w n t u e b r)

  begins_step : (w : ℕ) (S : Scope) (a a' b b' k k' : Atom) (t : Bool) (env env' : Vars) (h h' : Value) (input out : List ℕ) (st ps : List Piece) (f : ℕ → ℕ) (s' : CpsState) → Heap q.texts L f st ps → Env L (world f st ps env' S.ns) S env → Val L f st (length ps) h h' → AtomAt S.σ a a' → AtomAt S.σ b b' → AtomAt S.σ k k' → M.step (conf (Run (Equal a b t k) env h) input out st) ≡ Some s' → Ans w (conf (Run (Equal a b t k) env h) input out st) s' (conf (Run (Equal a' b' t k') env' h') input out ps)
  begins_step w S a a' b b' k k' t env env' h h' input out st ps f s' hp en hh ia ib ik e =
      let W = world f st ps env' S.ns in
      let A = see q.texts (data_of st) in
      let B = see q.texts (data_of ps) in
      let u = value env a in
      let v = value env b in
      let u' = value env' a' in
      let v' = value env' b' in
      let ha = (at_holds L W S env en a a' ia).val in
      let hb = (at_holds L W S env en b b' ib).val in
      let hk = (at_holds L W S env en k k' ik).val in
      let c = acted_if out st (is_seen (A u) && is_seen (A v)) (begins q (at_store st input) u v t (value env k) h) s' e in
      let d = both_true (is_seen (A u)) (is_seen (A v)) c.0 in
      let see_too = views q.texts L f st ps hp in
      let x = turn_sees (IsCells f st ps) (Val L f st (length ps)) A B see_too u v u' v' ha hb d.0 d.1 in
      let y = decided_same (Val L f st (length ps)) (compared (A u) (A v)) (compared (B u') (B v')) t x.0 in
      let n : Next ps input out s' (begins q (at_store ps input) u' v' t (value env' k') h') =
      subst₂ (λ p r. Next ps input out s' (cond p (making (at_store ps input) (Plain (Pending u' v' None)) (λ a. Compare (Some a) t (value env' k') h')) (on (at_store ps input) (Enter (value env' k') (truth r ∷ []) h')))) (sym x.1) (sym y)
      (begun (is_deep (A u) (A v)) (decided (compared (A u) (A v)) t) f st ps input out u u' v v' t (value env k) (value env' k') h h' s' hp ha hb hk hh c.1) in
      let seen : (is_seen (B u') && is_seen (B v')) ≡ true =
      both (is_seen (B u')) (is_seen (B v')) (still_seen (IsCells f st ps) (Val L f st (length ps)) (A u) (B u') (see_too.alike u u' ha) d.0) (still_seen (IsCells f st ps) (Val L f st (length ps)) (A v) (B v') (see_too.alike v v' hb) d.1) in
      one_step w _ s' _ n.wait n.to refl refl (ap (λ z. acted view_piece out ps (cond z (begins q (at_store ps input) u' v' t (value env' k') h') None)) seen ∙ n.goes) n.onward

  -- what is reached where a comparison goes on
  roots : (f : ℕ → ℕ) (st ps : List Piece) (m n : Option Address) (k k' h h' : Value) → ValOption f (length ps) m n → Val L f st (length ps) k k' → Val L f st (length ps) h h' → (i : ℕ) → IsAmong i (of_value h' ++ of_next n ++ of_value k') → Into q.texts L f st ps (of_value h ++ of_next m ++ of_value k) i
  roots f st ps m n k k' h h' o kk hh i j =
      both_lead q.texts L f st ps (of_value h ++ of_next m) (of_value k) (of_value h' ++ of_next n) (of_value k') i
      (λ c l. both_lead q.texts L f st ps (of_value h) (of_next m) (of_value h') (of_next n) c (value_leads q.texts L f st ps h h' hh) (option_leads q.texts L f st ps m n o) l)
      (value_leads q.texts L f st ps k k' kk) j

  meets : (w : ℕ) (m n : Option Address) (t : Bool) (k k' h h' : Value) (input out : List ℕ) (st ps : List Piece) (f : ℕ → ℕ) (s' : CpsState) (i : ℕ) (u : CpsState) → Heap q.texts L f st ps → ValOption f (length ps) m n → Val L f st (length ps) k k' → Val L f st (length ps) h h' → M.step (conf (Compare n t k' h') input out ps) ≡ Some u → R i s' u → Ans w (conf (Compare m t k h) input out st) s' (conf (Compare n t k' h') input out ps)
  meets w m n t k k' h h' input out st ps f s' i u hp o kk hh e r = together (record {
    next = u;
    passes = refl;
    step = e;
    steady = store_steady (cps_machine q) (conf (Compare n t k' h') input out ps);
    enters = λ p j. record {
      reaches = (f, reached q.texts L f st ps hp (of_value h' ++ of_next n ++ of_value k') (of_value h ++ of_next m ++ of_value k) (roots f st ps m n k k' h h' o kk hh));
      tidy = plain_tidy view_piece no_record ps (of_value h' ++ of_next n ++ of_value k');
    };
    on = record { steps = 0; wait = i; to = u; walk = stay u; then = r };
  })

  pair_step : (f : ℕ → ℕ) (st ps : List Piece) (input out : List ℕ) (t : Bool) (k k' h h' : Value) (s' : CpsState) (i x : Piece) → Heap q.texts L f st ps → IsPiece q.texts L f st ps i x → Val L f st (length ps) k k' → Val L f st (length ps) h h' → acted view_piece out st (compares q (at_store st input) (Some i) t k h) ≡ Some s' → Next ps input out s' (compares q (at_store ps input) (Some x) t k' h')
  pair_step f st ps input out t k k' h h' s' i x hp (closure w S p xs b d env env' fr n c) kk hh e = absurd (cc)
  pair_step f st ps input out t k k' h h' s' i x hp (plain b d (pending y z u v m n r s o)) kk hh e =
      let A = see q.texts (data_of st) in
      let B = see q.texts (data_of ps) in
      let c = acted_if out st (is_seen (A y) && is_seen (A u)) (by_verdict q (at_store st input) (compared (A y) (A u)) m t k h) s' e in
      let g = both_true (is_seen (A y)) (is_seen (A u)) c.0 in
      let see_too = views q.texts L f st ps hp in
      let a = turn_sees (IsCells f st ps) (Val L f st (length ps)) A B see_too y u z v r s g.0 g.1 in
      let l = goes_by f st ps input out m n t k k' h h' s' (compared (A y) (A u)) (compared (B z) (B v)) hp o kk hh a.0 c.1 in
      let seen : (is_seen (B z) && is_seen (B v)) ≡ true =
      both (is_seen (B z)) (is_seen (B v)) (still_seen (IsCells f st ps) (Val L f st (length ps)) (A y) (B z) (see_too.alike y z r) g.0) (still_seen (IsCells f st ps) (Val L f st (length ps)) (A u) (B v) (see_too.alike u v s) g.1) in
      record { wait = l.wait; to = l.to; goes = ap (λ p. acted view_piece out ps (cond p (by_verdict q (at_store ps input) (compared (B z) (B v)) n t k' h') None)) seen ∙ l.goes; onward = l.onward }
  pair_step f st ps input out t k k' h h' s' i x hp (plain b d (tuple us vs r)) kk hh e = absurd (cc)
  pair_step f st ps input out t k k' h h' s' i x hp (plain b d (applied n u v r)) kk hh e = absurd (cc)
  pair_step f st ps input out t k k' h h' s' i x hp (plain b d (text bytes)) kk hh e = absurd (cc)
  pair_step f st ps input out t k k' h h' s' i x hp (plain b d (cell u v r)) kk hh e = absurd (cc)
  pair_step f st ps input out t k k' h h' s' i x hp (plain b d (exn_name n)) kk hh e = absurd (cc)
  pair_step f st ps input out t k k' h h' s' i x hp (plain b d (packet y z u v r s)) kk hh e = absurd (cc)

  goes_on_step : (w : ℕ) (m n : Option Address) (t : Bool) (k k' h h' : Value) (input out : List ℕ) (st ps : List Piece) (f : ℕ → ℕ) (s' : CpsState) → Heap q.texts L f st ps → ValOption f (length ps) m n → Val L f st (length ps) k k' → Val L f st (length ps) h h' → M.step (conf (Compare m t k h) input out st) ≡ Some s' → Ans w (conf (Compare m t k h) input out st) s' (conf (Compare n t k' h') input out ps)
  goes_on_step w m n t k k' h h' input out st ps f s' hp rel.none kk hh e =
      let v = truth t in
      let u = conf (Enter k' (v ∷ []) h') input out ps in
      meets w None None t k k' h h' input out st ps f s' (depth kk) u hp rel.none kk hh refl
      (some_eq (λ z. R (depth kk) z u) _ s' e (entering (depth kk) k k' (v ∷ []) (v ∷ []) h h' input out st ps f hp kk (rel.next v v [] [] (same v refl) rel.none) hh (omega arith)))
  goes_on_step w m n t k k' h h' input out st ps f s' hp (some a b l g) kk hh e =
      let z = get_below ps b l in
      let r = hp.piece b z.0 z.1 in
      let at : slice_get st a ≡ Some r.item = ap (slice_get st) (sym g) ∙ r.at in
      let x = pair_step f st ps input out t k k' h h' s' r.item z.0 hp r.is kk hh (ap (λ o. acted view_piece out st (compares q (at_store st input) o t k h)) (sym at) ∙ e) in
      meets w (Some a) (Some b) t k k' h h' input out st ps f s' x.wait x.to hp (some a b l g) kk hh
      (ap (λ o. acted view_piece out ps (compares q (at_store ps input) o t k' h')) z.1 ∙ x.goes) x.onward

pub equals_keep : (q : Tree) (L : List Point) → EqualsKeep q L
equals_keep q L = record {
  begins = begins_step q L;
  goes_on = goes_on_step q L;
}
