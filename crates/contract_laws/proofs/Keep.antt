-- The answer keeps its argument.
use Rattle.std.proofs.Common.{map, slice_get, ◌≡◌, ◌≢◌, ℕ, zero, suc, ◌<◌, ◌≤◌, ◌+◌, List, [], ◌∷◌, ◌++◌, length, Option, Some, None, Bool, true, false, cond, ◌⊎◌, inl, inr, refl, sym, ap, ap₂, ◌∙◌, subst, subst₂, arith, ⊎_elim}
use Rattle.smlc_base.specs.declared.point.Point.{Point}
use Rattle.smlc_base.specs.declared.point.PointKind.TheVariants.{Eq}
use Rattle.simulation.specs.Blocks.{IsAmong, Embeds}
use Rattle.smlc_base.specs.Points.{is_label}
use Rattle.simulation.specs.Runs.{Going, times, visible}
use Rattle.simulation.specs.Keeps.{Keeps, IsSound}
use Rattle.simulation.specs.Machines.{Machine, IsLive, end_of}
use Rattle.simulation.specs.Stores.{Act, machine_of, acted}
use Rattle.simulation.proofs.Lists.{some_eq, get_below, get_last, among_left, among_right, among_append, label_times, times_label}
use Rattle.simulation.proofs.Machines.{stay, Unseen}
use Rattle.simulation.proofs.Forward.{Ends, now, Shows, Enters, Answer, silent, together, stays_on, Together, IsForward, live_known, forward_keeps}
use Rattle.simulation.proofs.Stores.{store_steady, plain_named, plain_tidy}
use Rattle.sml_def.specs.Maybe.{◌>>=◌, or_else}
use Rattle.sml_def.specs.State.{Value, Nothing, Library, At, Address, Block, Tuple, ExnName, Packet, Closure, Ending, Normal, Uncaught}
use Rattle.sml_def.specs.Match.{block_of, packet_block}
use Rattle.sml_def.specs.Step.{exn_name, name_of}
use Rattle.sml_def.specs.Run.{of_value, of_values, of_next}
use Rattle.cps_ir.specs.declared.atom.Atom.{Atom}
use Rattle.cps_ir.specs.declared.atom.Atom.TheVariants as atom
use Rattle.cps_ir.specs.Code.{Code, Call, Tree}
use Rattle.cps_ir.specs.Free.{labels}
use Rattle.cps_ir.specs.State.{Vars, bind, value, values, given, Piece, Plain, Fun, data_of, Doing, Run, Enter, Raising, Compare, Ended, Facing}
use Rattle.cps_ir.specs.Step.{Store, Goes, as_bare, on, goes_in, enters as enters_in, raises as raises_in, uncaught}
use Rattle.cps_ir.specs.Run.{view_piece, entered_piece, cps_machine, CpsState, start_cps, cps_run}
use Rattle.contract_laws.specs.Law.{with_code}
use Rattle.contract_laws.specs.Contract.{Made, Body, Scope, scope, nothing, start, Fresh, AllFresh, params_kept, with_params, inner, given_atoms, called, Contracts}
use Rattle.contract_laws.proofs.Relation.{is_blockless, bind_same, bind_other, World, world, Val, same, address, eta, depth, Vals, none, next, ValOption, AllHold, Holds, Names, IsMade, IsBody, Env, IsPiece, closure, plain, Heap, Later, made_later, names_later, bound_fact, more_refl, later_bound, holds_new}
use Rattle.contract_laws.proofs.Relation as rel
use Rattle.contract_laws.proofs.Seeing.{bind_some, thrown_kept}
use Rattle.contract_laws.proofs.States.{conf, Related, running, entering, passing, inlining, raising, late, late_passing, comparing, ended, PrimsKeep, TestsKeep, EqualsKeep}
use Rattle.contract_laws.proofs.Steps.{acted_bind, steps}
use Rattle.contract_laws.proofs.Reaches.{Into, wide, value_leads, values_lead, option_leads, both_lead, heap_map, reached, no_record}

-- ---- Parameters

pub record Given (L : List Point) (W : World) (σ : ℕ → Option Atom) (xs : List ℕ) (vs : List Value) (e : Vars) : Type 0 where
  pub env : Vars
  pub is : given W.env xs vs ≡ Some env
  pub names : Names L (world W.f W.st W.ps env (with_params xs W.ns)) (params_kept σ xs) e

-- both take their parameters
take : (L : List Point) (f : ℕ → ℕ) (st ps : List Piece) (xs ns : List ℕ) (σ : ℕ → Option Atom) (vs vs' : List Value) (env env' e : Vars) → AllFresh xs ns → Names L (world f st ps env' ns) σ env → Vals L f st (length ps) vs vs' → given env xs vs ≡ Some e → Given L (world f st ps env' ns) σ xs vs' e
take L f st ps [] ns σ vs vs' env env' e fr h none g = record { env = env'; is = refl; names = some_eq (λ t. Names L (world f st ps env' ns) σ t) env e g h }
take L f st ps [] ns σ vs vs' env env' e fr h (next u v us ws r q) g = absurd (cc)
take L f st ps (x ∷ xs) ns σ vs vs' env env' e fr h none g = absurd (cc)
take L f st ps (x ∷ xs) ns σ vs vs' env env' e fr h (next u v us ws r q) g =
    let W = world f st ps env' ns in
    let X = world f st ps (bind env' x v) (x ∷ ns) in
    let l : Later W X = later_bound f f st st ps ps (more_refl f st ps) env' ns x v fr.0 in
    let n : Names L X (bind σ x (Some (atom.Var x))) (bind env x u) = bound_fact (Holds L X) σ env x (Some (atom.Var x)) u (names_later L W X l σ env h)
    (λ a j. some_eq (λ t. Holds L X u t) (atom.Var x) a j (holds_new L f st ps env' ns x u v r)) in
    let k = take L f st ps xs (x ∷ ns) (bind σ x (Some (atom.Var x))) us ws (bind env x u) (bind env' x v) e fr.1 n q g in
    record { env = k.env; is = k.is; names = k.names }

-- the argument alone takes parameters, and atoms stand for them
put_for : (L : List Point) (W : World) (xs : List ℕ) (σ : ℕ → Option Atom) (vs : List Value) (bs : List Atom) (env e : Vars) → Names L W σ env → AllHold L W vs bs → given env xs vs ≡ Some e → Names L W (given_atoms σ xs bs) e
put_for L W [] σ vs bs env e h rel.none g = some_eq (λ t. Names L W σ t) env e g h
put_for L W [] σ vs bs env e h (rel.next u b us as' r q) g = absurd (cc)
put_for L W (x ∷ xs) σ vs bs env e h rel.none g = absurd (cc)
put_for L W (x ∷ xs) σ vs bs env e h (rel.next u b us as' r q) g =
    put_for L W xs (bind σ x (Some b)) us as' (bind env x u) e
    (bound_fact (Holds L W) σ env x (Some b) u h (λ a j. some_eq (λ t. Holds L W u t) b a j r)) q g

-- the parameters have the values that are given, and the other names theirs
given_other : (xs : List ℕ) (vs : List Value) (env e : Vars) (x : ℕ) → (IsAmong x xs → ⊥) → given env xs vs ≡ Some e → e x ≡ env x
given_other [] [] env e x n g = some_eq (λ t. t x ≡ env x) env e g refl
given_other [] (v ∷ vs) env e x n g = absurd (cc)
given_other (z ∷ zs) [] env e x n g = absurd (cc)
given_other (z ∷ zs) (v ∷ vs) env e x n g = given_other zs vs (bind env z v) e x (λ i. n (inr i)) g ∙ bind_other env z v x (λ q. n (inl q))

fresh_not : (xs ns : List ℕ) (x : ℕ) → AllFresh xs ns → IsAmong x ns → IsAmong x xs → ⊥
fresh_not [] ns x h i j = j
fresh_not (z ∷ zs) ns x h i (inl e) = h.0 (subst (λ t. IsAmong t ns) e i)
fresh_not (z ∷ zs) ns x h i (inr j) = fresh_not zs (z ∷ ns) x h.1 (inr i) j

given_values : (xs ns : List ℕ) (vs : List Value) (env e : Vars) → AllFresh xs ns → given env xs vs ≡ Some e → values e (map atom.Var xs) ≡ vs
given_values [] ns [] env e h g = refl
given_values [] ns (v ∷ vs) env e h g = absurd (cc)
given_values (z ∷ zs) ns [] env e h g = absurd (cc)
given_values (z ∷ zs) ns (v ∷ vs) env e h g =
    let p : e z ≡ v = given_other zs vs (bind env z v) e z (fresh_not zs (z ∷ ns) z h.1 (inl refl)) g ∙ bind_same env z v in
    let q : values e (map atom.Var zs) ≡ vs = given_values zs (z ∷ ns) vs (bind env z v) e h.1 g in
    ap₂ (λ t r. t ∷ r) p q

module _ (q : Tree) (L : List Point) (prims : PrimsKeep q L) (tests : TestsKeep q L) (equals : EqualsKeep q L) where
  abbrev M : Machine CpsState
  M = machine_of (cps_machine q)

  abbrev R : ℕ → CpsState → CpsState → Type 0
  R = Related q.texts L

  abbrev Ans : ℕ → CpsState → CpsState → CpsState → Type 0
  Ans w s s' t = Answer false M M L (Unseen M L) (λ v u. R v s' u) w s t

  abbrev store_of : List Piece → List ℕ → Store
  store_of st input = record { pieces = st; input = input }

  -- ---- Going in

  -- how the answer goes in, where the argument does
  record Inside (ps : List Piece) (input out : List ℕ) (s' : CpsState) (x : Piece) (vs' : List Value) (h' : Value) : Type 0 where
    wait : ℕ
    to : CpsState
    goes : acted view_piece out ps (goes_in q (store_of ps input) (Some x) vs' h') ≡ Some to
    then : R wait s' to

  inside : (f : ℕ → ℕ) (st ps : List Piece) (input out : List ℕ) (vs vs' : List Value) (h h' : Value) (s' : CpsState) (i x : Piece) → Heap q.texts L f st ps → IsPiece q.texts L f st ps i x → Vals L f st (length ps) vs vs' → Val L f st (length ps) h h' → acted view_piece out st (goes_in q (store_of st input) (Some i) vs h) ≡ Some s' → Inside ps input out s' x vs' h'
  inside f st ps input out vs vs' h h' s' i x hp (closure w S p xs b d env env' fr n c) k hh e =
      let r = acted_bind out st (given env xs vs) _ s' e in
      let t = take L f st ps xs S.ns S.σ vs vs' env env' r.0 fr n k r.1 in
      let u = conf (Run d t.env h') input out ps in
      record {
        wait = w;
        to = u;
        goes = ap (λ o. acted view_piece out ps (o >>= (λ y. on (store_of ps input) (Run d y h')))) t.is;
        then = some_eq (λ z. R w z u) _ s' r.2 (running w (inner S xs) b d r.0 t.env h h' input out st ps f hp (record { names = t.names; blocks = λ z m j. absurd (cc); bodies = λ y a j. absurd (cc) }) hh c);
      }
  inside f st ps input out vs vs' h h' s' i x hp (plain b d r) k hh e = absurd (cc)

  same_entry : (f : ℕ → ℕ) (st ps : List Piece) (i x : Piece) → IsPiece q.texts L f st ps i x → entered_piece (Some x) ≡ entered_piece (Some i)
  same_entry f st ps i x (closure w S p xs b d env env' fr n c) = refl
  same_entry f st ps i x (plain b d r) = refl

  -- both go in at an address and its image
  record Way (f : ℕ → ℕ) (st ps : List Piece) (input out : List ℕ) (s' : CpsState) (a b : ℕ) (vs' : List Value) (h' : Value) : Type 0 where
    wait : ℕ
    to : CpsState
    goes : acted view_piece out ps (goes_in q (store_of ps input) (slice_get ps b) vs' h') ≡ Some to
    point : entered_piece (slice_get ps b) ≡ entered_piece (slice_get st a)
    then : R wait s' to

  way : (f : ℕ → ℕ) (st ps : List Piece) (input out : List ℕ) (a b : ℕ) (vs vs' : List Value) (h h' : Value) (s' : CpsState) → Heap q.texts L f st ps → b < length ps → f b ≡ a → Vals L f st (length ps) vs vs' → Val L f st (length ps) h h' → acted view_piece out st (goes_in q (store_of st input) (slice_get st a) vs h) ≡ Some s' → Way f st ps input out s' a b vs' h'
  way f st ps input out a b vs vs' h h' s' hp l e k hh g =
      let z = get_below ps b l in
      let s = hp.piece b z.0 z.1 in
      let at : slice_get st a ≡ Some s.item = ap (slice_get st) (sym e) ∙ s.at in
      let r = inside f st ps input out vs vs' h h' s' s.item z.0 hp s.is k hh (ap (λ o. acted view_piece out st (goes_in q (store_of st input) o vs h)) (sym at) ∙ g) in
      record {
        wait = r.wait;
        to = r.to;
        goes = ap (λ o. acted view_piece out ps (goes_in q (store_of ps input) o vs' h')) z.1 ∙ r.goes;
        point = ap entered_piece z.1 ∙ same_entry f st ps s.item z.0 s.is ∙ ap entered_piece (sym at);
        then = r.then;
      }

  -- into a function that only calls another
  record Through (st : List Piece) (input out : List ℕ) (s' : CpsState) (xs : List ℕ) (x : ℕ) (env : Vars) (vs : List Value) (h : Value) : Type 0 where
    e : Vars
    is : s' ≡ conf (Run (Call (atom.Var x) (map atom.Var xs)) e h) input out st
    fun : e x ≡ env x
    args : values e (map atom.Var xs) ≡ vs

  through : (st : List Piece) (input out : List ℕ) (s' : CpsState) (a : ℕ) (p : Point) (xs : List ℕ) (x : ℕ) (env : Vars) (vs : List Value) (h : Value) → slice_get st a ≡ Some (Fun p xs (Call (atom.Var x) (map atom.Var xs)) env) → (IsAmong x xs → ⊥) → AllFresh xs [] → acted view_piece out st (goes_in q (store_of st input) (slice_get st a) vs h) ≡ Some s' → Through st input out s' xs x env vs h
  through st input out s' a p xs x env vs h at n d g =
      let r = acted_bind out st (given env xs vs) (λ y. on (store_of st input) (Run (Call (atom.Var x) (map atom.Var xs)) y h)) s' (ap (λ o. acted view_piece out st (goes_in q (store_of st input) o vs h)) (sym at) ∙ g) in
      record {
        e = r.0;
        is = some_eq (λ z. z ≡ conf (Run (Call (atom.Var x) (map atom.Var xs)) r.0 h) input out st) _ s' r.2 refl;
        fun = given_other xs vs env r.0 x n r.1;
        args = given_values xs [] vs env r.0 d r.1;
      }

  unseen_by : (p : Point) (b : Bool) → is_label L p ≡ b → b ≡ false → visible L (Some p) ≡ None
  unseen_by p true e d = absurd (cc)
  unseen_by p false e d = ap (λ t. cond t (Some p) None) e

  hidden : (st : List Piece) (a : ℕ) (p : Point) (xs : List ℕ) (c : Code) (env : Vars) → slice_get st a ≡ Some (Fun p xs c env) → is_label L p ≡ false → visible L (entered_piece (slice_get st a)) ≡ None
  hidden st a p xs c env at hid = ap (λ o. visible L (entered_piece o)) at ∙ unseen_by p (is_label L p) refl hid

  none_enters : (m : Store) (out : List ℕ) (v : Value) (vs : List Value) (h : Value) (s' : CpsState) → is_blockless v ≡ true → acted view_piece out m.pieces (enters_in q m v vs h) ≡ Some s' → ⊥
  none_enters m out (At a) vs h s' b e = cc
  none_enters m out _ vs h s' b e = cc

  raises_none : (m : Store) (x v : Value) → is_blockless v ≡ true → raises_in q m x v ≡ uncaught q m x
  raises_none m x (At a) b = absurd (cc)
  raises_none m x _ b = refl

  -- ---- What is reached

  enter_roots : (f : ℕ → ℕ) (st ps : List Piece) (u u' : Value) (vs vs' : List Value) (h h' : Value) → Val L f st (length ps) u u' → Vals L f st (length ps) vs vs' → Val L f st (length ps) h h' → (i : ℕ) → IsAmong i (of_value h' ++ of_value u' ++ of_values vs') → Into q.texts L f st ps (of_value h ++ of_value u ++ of_values vs) i
  enter_roots f st ps u u' vs vs' h h' r k hh i m =
      both_lead q.texts L f st ps (of_value h ++ of_value u) (of_values vs) (of_value h' ++ of_value u') (of_values vs') i
      (λ c j. both_lead q.texts L f st ps (of_value h) (of_value u) (of_value h') (of_value u') c (value_leads q.texts L f st ps h h' hh) (value_leads q.texts L f st ps u u' r) j)
      (values_lead q.texts L f st ps vs vs' k) m

  raise_roots : (f : ℕ → ℕ) (st ps : List Piece) (x x' h h' : Value) → Val L f st (length ps) x x' → Val L f st (length ps) h h' → (i : ℕ) → IsAmong i (of_value h' ++ of_value x') → Into q.texts L f st ps (of_value h ++ of_value x) i
  raise_roots f st ps x x' h h' r hh i m = both_lead q.texts L f st ps (of_value h) (of_value x) (of_value h') (of_value x') i (value_leads q.texts L f st ps h h' hh) (value_leads q.texts L f st ps x x' r) m

  late_roots : (f : ℕ → ℕ) (st ps : List Piece) (u x x' h h' : Value) → Val L f st (length ps) x x' → Val L f st (length ps) h h' → (i : ℕ) → IsAmong i (of_value h' ++ of_value x') → Into q.texts L f st ps (of_value h ++ of_value u ++ of_values (x ∷ [])) i
  late_roots f st ps u x x' h h' r hh i m =
      wide q.texts L f st ps (of_value h ++ of_value x) (of_value h ++ of_value u ++ of_values (x ∷ [])) i
      (λ a j. more (of_value h) (of_value u) (of_value x) a j) (raise_roots f st ps x x' h h' r hh i m)
    where
      more : (as' bs cs : List ℕ) (a : ℕ) → IsAmong a (as' ++ cs) → IsAmong a (as' ++ bs ++ (cs ++ []))
      more as' bs cs a j = ⊎_elim
          (λ (k : IsAmong a as'). among_left a (as' ++ bs) (cs ++ []) (among_left a as' bs k))
          (λ (k : IsAmong a cs). among_right a (as' ++ bs) (cs ++ []) (among_left a cs [] k))
          (among_append a as' cs j)

  -- ---- The states

  show : (d d' : Doing) (input input' out : List ℕ) (st ps : List Piece) (f : ℕ → ℕ) → Heap q.texts L f st ps → Shows M M (conf d input out st) (conf d' input' out ps)
  show d d' input input' out st ps f hp = record { out = refl; made = (f, (heap_map q.texts L f st ps hp).embeds); named = plain_named view_piece no_record ps }

  shows : (w : ℕ) (s t : CpsState) → IsLive M s → R w s t → Shows M M s t
  shows w s t v (running w' S c d env env' h h' input out st ps f hp en hh k) = show _ _ _ _ out st ps f hp
  shows w s t v (entering w' u u' vs vs' h h' input out st ps f hp p r hh l) = show _ _ _ _ out st ps f hp
  shows w s t v (passing w' x us e u u' vs vs' h h' input out st ps f hp p r hh i j l) = show _ _ _ _ out st ps f hp
  shows w s t v (inlining w' S b u vs bs d env env' h h' input out st ps f hp en bd r hh k) = show _ _ _ _ out st ps f hp
  shows w s t v (raising w' x x' h h' input out st ps f hp r p l) = show _ _ _ _ out st ps f hp
  shows w s t v (late w' u x x' h h' input out st ps f hp r p hh l) = show _ _ _ _ out st ps f hp
  shows w s t v (late_passing w' y us e u x x' h h' input out st ps f hp r p hh i j l) = show _ _ _ _ out st ps f hp
  shows w s t v (comparing m n b k k' h h' input out st ps f hp o r hh) = show _ _ _ _ out st ps f hp
  shows w s t v (ended e input out st ps f hp) = show _ _ _ _ out st ps f hp

  stuck : (s : CpsState) → IsLive M s → M.step s ≡ None → M.end s ≡ Going → ⊥
  stuck s v e d = v 0 (ap (λ o. end_of o (M.end s)) e ∙ ap (λ x. end_of {S = CpsState} None x) d)

  ends : (w : ℕ) (s t : CpsState) → IsLive M s → R w s t → M.step s ≡ None → Ends M M (Unseen M L) s t
  ends w s t v (running w' S c d env env' h h' input out st ps f hp en hh k) e = absurd (stuck _ v e refl)
  ends w s t v (entering w' u u' vs vs' h h' input out st ps f hp p r hh l) e = absurd (stuck _ v e refl)
  ends w s t v (passing w' x us y u u' vs vs' h h' input out st ps f hp p r hh i j l) e = absurd (cc)
  ends w s t v (inlining w' S b u vs bs d env env' h h' input out st ps f hp en bd r hh k) e = absurd (stuck _ v e refl)
  ends w s t v (raising w' x x' h h' input out st ps f hp r p l) e = absurd (stuck _ v e refl)
  ends w s t v (late w' u x x' h h' input out st ps f hp r p hh l) e = absurd (stuck _ v e refl)
  ends w s t v (late_passing w' y us g u x x' h h' input out st ps f hp r p hh i j l) e = absurd (cc)
  ends w s t v (comparing m n b k k' h h' input out st ps f hp o r hh) e = absurd (stuck _ v e refl)
  ends w s t v (ended y input out st ps f hp) e = now refl refl

  -- both go in
  meets : (w : ℕ) (d d' : Doing) (input out : List ℕ) (st ps : List Piece) (f : ℕ → ℕ) (s' : CpsState) (a b : ℕ) (vs' : List Value) (h' : Value) → Heap q.texts L f st ps → (r : Way f st ps input out s' a b vs' h') → M.pass (conf d input out st) ≡ entered_piece (slice_get st a) → M.pass (conf d' input out ps) ≡ entered_piece (slice_get ps b) → M.step (conf d' input out ps) ≡ acted view_piece out ps (goes_in q (store_of ps input) (slice_get ps b) vs' h') → ((i : ℕ) → IsAmong i (M.roots (conf d' input out ps)) → Into q.texts L f st ps (M.roots (conf d input out st)) i) → Ans w (conf d input out st) s' (conf d' input out ps)
  meets w d d' input out st ps f s' a b vs' h' hp r pa pb g roots = together (record {
    next = r.to;
    passes = ap (visible L) (pb ∙ r.point ∙ sym pa);
    step = g ∙ r.goes;
    steady = store_steady (cps_machine q) (conf d' input out ps);
    enters = λ p j. record {
      reaches = (f, reached q.texts L f st ps hp (M.roots (conf d' input out ps)) (M.roots (conf d input out st)) roots);
      tidy = plain_tidy view_piece no_record ps (M.roots (conf d' input out ps));
    };
    on = record { steps = 0; wait = r.wait; to = r.to; walk = stay r.to; then = r.then };
  })

  enter_step : (w : ℕ) (u u' : Value) (vs vs' : List Value) (h h' : Value) (input out : List ℕ) (st ps : List Piece) (f : ℕ → ℕ) (s' : CpsState) → Heap q.texts L f st ps → (p : Val L f st (length ps) u u') → Vals L f st (length ps) vs vs' → Val L f st (length ps) h h' → depth p ≤ w → M.step (conf (Enter u vs h) input out st) ≡ Some s' → Ans w (conf (Enter u vs h) input out st) s' (conf (Enter u' vs' h') input out ps)
  enter_step w u u' vs vs' h h' input out st ps f s' hp (same v b) r hh l e = absurd (none_enters (store_of st input) out v vs h s' b e)
  enter_step w u u' vs vs' h h' input out st ps f s' hp (address a b k i) r hh l e =
      meets w (Enter (At a) vs h) (Enter (At b) vs' h') input out st ps f s' a b vs' h' hp (way f st ps input out a b vs vs' h h' s' hp k i r hh e) refl refl refl
      (enter_roots f st ps (At a) (At b) vs vs' h h' (address a b k i) r hh)
  enter_step w u u' vs vs' h h' input out st ps f s' hp (eta a p xs x env z at hid n d i) r hh l e =
      let t = through st input out s' a p xs x env vs h at n d e in
      let b = conf (Enter u' vs' h') input out ps in
      silent (hidden st a p xs (Call (atom.Var x) (map atom.Var xs)) env at hid)
      (stays_on M (Unseen M L) (λ v y. R v s' y) w (suc (depth i)) b (omega arith)
      (subst (λ y. R (suc (depth i)) y b) (sym t.is) (passing (depth i) x (map atom.Var xs) t.e (env x) u' vs vs' h h' input out st ps f hp i r hh t.fun t.args (omega arith))))

  late_step : (w : ℕ) (u x x' h h' : Value) (input out : List ℕ) (st ps : List Piece) (f : ℕ → ℕ) (s' : CpsState) → Heap q.texts L f st ps → Val L f st (length ps) x x' → (p : Val L f st (length ps) u h') → Val L f st (length ps) h h' → depth p ≤ w → M.step (conf (Enter u (x ∷ []) h) input out st) ≡ Some s' → Ans w (conf (Enter u (x ∷ []) h) input out st) s' (conf (Raising x' h') input out ps)
  late_step w u x x' h h' input out st ps f s' hp r (same v b) hh l e = absurd (none_enters (store_of st input) out v (x ∷ []) h s' b e)
  late_step w u x x' h h' input out st ps f s' hp r (address a b k i) hh l e =
      meets w (Enter (At a) (x ∷ []) h) (Raising x' (At b)) input out st ps f s' a b (x' ∷ []) (At b) hp (way f st ps input out a b (x ∷ []) (x' ∷ []) h (At b) s' hp k i (next x x' [] [] r none) hh e) refl refl refl
      (late_roots f st ps (At a) x x' h (At b) r hh)
  late_step w u x x' h h' input out st ps f s' hp r (eta a p xs y env z at hid n d i) hh l e =
      let t = through st input out s' a p xs y env (x ∷ []) h at n d e in
      let b = conf (Raising x' h') input out ps in
      silent (hidden st a p xs (Call (atom.Var y) (map atom.Var xs)) env at hid)
      (stays_on M (Unseen M L) (λ v o. R v s' o) w (suc (depth i)) b (omega arith)
      (subst (λ o. R (suc (depth i)) o b) (sym t.is) (late_passing (depth i) y (map atom.Var xs) t.e (env y) x x' h h' input out st ps f hp r i hh t.fun t.args (omega arith))))

  raise_step : (w : ℕ) (x x' h h' : Value) (input out : List ℕ) (st ps : List Piece) (f : ℕ → ℕ) (s' : CpsState) → Heap q.texts L f st ps → Val L f st (length ps) x x' → (p : Val L f st (length ps) h h') → depth p ≤ w → M.step (conf (Raising x h) input out st) ≡ Some s' → Ans w (conf (Raising x h) input out st) s' (conf (Raising x' h') input out ps)
  raise_step w x x' h h' input out st ps f s' hp r (same v b) l e =
      let g : acted view_piece out st (uncaught q (store_of st input) x) ≡ Some s' = sym (ap (acted view_piece out st) (raises_none (store_of st input) x v b)) ∙ e in
      let n = acted_bind out st (exn_name (as_bare q) (data_of st) (name_of (as_bare q) (data_of st) x)) (λ name. on (store_of st input) (Ended (Uncaught name))) s' g in
      let k = thrown_kept q.texts L f st ps hp (as_bare q) x x' r n.0 n.1 in
      let t = conf (Ended (Uncaught n.0)) input out ps in
      together (record {
        next = t;
        passes = no_pass v b;
        step = ap (acted view_piece out ps) (raises_none (store_of ps input) x' v b) ∙ ap (λ o. acted view_piece out ps (o >>= (λ name. on (store_of ps input) (Ended (Uncaught name))))) k;
        steady = store_steady (cps_machine q) (conf (Raising x' v) input out ps);
        enters = λ p j. absurd (none_seen v b p j);
        on = record { steps = 0; wait = 0; to = t; walk = stay t; then = some_eq (λ y. R 0 y t) _ s' n.2 (ended (Uncaught n.0) input out st ps f hp) };
      })
    where
      none_pass : (z : Value) (a : List Piece) (v : Value) → is_blockless v ≡ true → M.pass (conf (Raising z v) input out a) ≡ None
      none_pass z a (At c) b = absurd (cc)
      none_pass z a _ b = refl

      no_pass : (v : Value) → is_blockless v ≡ true → visible L (M.pass (conf (Raising x' v) input out ps)) ≡ visible L (M.pass (conf (Raising x v) input out st))
      no_pass v b = ap (visible L) (none_pass x' ps v b ∙ sym (none_pass x st v b))

      none_seen : (v : Value) → is_blockless v ≡ true → (p : Point) → visible L (M.pass (conf (Raising x v) input out st)) ≡ Some p → ⊥
      none_seen v b p j = let g : None ≡ Some p = sym (ap (visible L) (none_pass x st v b)) ∙ j in cc
  raise_step w x x' h h' input out st ps f s' hp r (address a b k i) l e =
      meets w (Raising x (At a)) (Raising x' (At b)) input out st ps f s' a b (x' ∷ []) (At b) hp (way f st ps input out a b (x ∷ []) (x' ∷ []) (At a) (At b) s' hp k i (next x x' [] [] r none) (address a b k i) e) refl refl refl
      (raise_roots f st ps x x' (At a) (At b) r (address a b k i))
  raise_step w x x' h h' input out st ps f s' hp r (eta a p xs y env z at hid n d i) l e =
      let t = through st input out s' a p xs y env (x ∷ []) (At a) at n d e in
      let b = conf (Raising x' h') input out ps in
      silent (hidden st a p xs (Call (atom.Var y) (map atom.Var xs)) env at hid)
      (stays_on M (Unseen M L) (λ v o. R v s' o) w (suc (depth i)) b (omega arith)
      (subst (λ o. R (suc (depth i)) o b) (sym t.is) (late_passing (depth i) y (map atom.Var xs) t.e (env y) x x' (At a) h' input out st ps f hp r i (eta a p xs y env h' at hid n d i) t.fun t.args (omega arith))))

  step : (w : ℕ) (s s' t : CpsState) → IsLive M s → R w s t → M.step s ≡ Some s' → Ans w s s' t
  step w s s' t v (running w' S c d env env' h h' input out st ps f hp en hh k) e = steps q L prims tests equals w S c d env env' h h' input out st ps f s' hp en hh k e
  step w s s' t v (entering w' u u' vs vs' h h' input out st ps f hp p r hh l) e = enter_step w u u' vs vs' h h' input out st ps f s' hp p r hh l e
  step w s s' t v (passing w' x us y u u' vs vs' h h' input out st ps f hp p r hh i j l) e =
      let b = conf (Enter u' vs' h') input out ps in
      silent refl (stays_on M (Unseen M L) (λ v o. R v s' o) w w' b (omega arith)
      (some_eq (λ z. R w' z b) _ s' e (subst₂ (λ n m. R w' (conf (Enter n m h) input out st) b) (sym i) (sym j) (entering w' u u' vs vs' h h' input out st ps f hp p r hh l))))
  step w s s' t v (inlining w' S b u vs bs d env env' h h' input out st ps f hp en bd r hh k) e =
      let g : acted view_piece out st (goes_in q (store_of st input) (Some (Fun bd.point b.params b.code bd.env)) vs h) ≡ Some s' = sym (ap (λ o. acted view_piece out st (goes_in q (store_of st input) o vs h)) bd.stands) ∙ sym (ap (λ z. acted view_piece out st (enters_in q (store_of st input) z vs h)) bd.is) ∙ e in
      let n = acted_bind out st (given bd.env b.params vs) _ s' g in
      let names = put_for L (world f st ps env' S.ns) b.params b.σ vs bs bd.env n.0 bd.names r n.1 in
      let t' = conf (Run d env' h') input out ps in
      silent (ap (λ z. visible L (M.pass (conf (Enter z vs h) input out st))) bd.is ∙ hidden st bd.at bd.point b.params b.code bd.env bd.stands bd.hidden)
      (stays_on M (Unseen M L) (λ v o. R v s' o) w w' t' (omega arith)
      (some_eq (λ z. R w' z t') _ s' n.2 (running w' (called S b bs) b.code d n.0 env' h h' input out st ps f hp (record { names = names; blocks = en.blocks; bodies = λ y a j. absurd (cc) }) hh k)))
  step w s s' t v (raising w' x x' h h' input out st ps f hp r p l) e = raise_step w x x' h h' input out st ps f s' hp r p l e
  step w s s' t v (late w' u x x' h h' input out st ps f hp r p hh l) e = late_step w u x x' h h' input out st ps f s' hp r p hh l e
  step w s s' t v (late_passing w' y us g u x x' h h' input out st ps f hp r p hh i j l) e =
      let b = conf (Raising x' h') input out ps in
      silent refl (stays_on M (Unseen M L) (λ v o. R v s' o) w w' b (omega arith)
      (some_eq (λ z. R w' z b) _ s' e (subst₂ (λ n m. R w' (conf (Enter n m h) input out st) b) (sym i) (sym j) (late w' u x x' h h' input out st ps f hp r p hh l))))
  step w s s' t v (comparing m n b k k' h h' input out st ps f hp o r hh) e = equals.goes_on w m n b k k' h h' input out st ps f s' hp o r hh e
  step w s s' t v (ended y input out st ps f hp) e = absurd (cc)

  pub forward : IsForward false M M L (IsLive M) (Unseen M L) R
  forward = record { calm = λ t u. (u, store_steady (cps_machine q) t); shows = shows; ended = ends; step = step }

-- One round keeps the program.
pub contracted_keeps : (q : Tree) (w : ℕ) (d : Code) → PrimsKeep q (labels d) → TestsKeep q (labels d) → EqualsKeep q (labels d) → Contracts q.texts (labels d) w start q.code d → ((p : Point) → times p (labels d) ≤ times p (labels q.code)) → (input : List ℕ) → Keeps (cps_run q input) (cps_run (with_code q d) input)
contracted_keeps q w d prims tests equals k few input sound =
    let L = labels d in
    let M = machine_of (cps_machine q) in
    let fewer : (p : Point) → is_label L p ≡ true → is_label (labels q.code) p ≡ true = λ p i. let a = label_times p L i in let b = few p in times_label p (labels q.code) (omega arith) in
    let once : (p : Point) → p.kind ≢ Eq → times p L ≤ 1 = λ p r. let a = sound.once p r in let b = few p in omega arith in
    forward_keeps false M M (labels q.code) L (start_cps q.code input) (start_cps d input) (IsLive M) (Unseen M L) (Related q.texts L)
    (live_known M (labels q.code) (start_cps q.code input)) (forward q L prims tests equals) (store_steady (cps_machine q)) fewer once w
    (running w start q.code d (λ x. Nothing) (λ x. Nothing) Nothing Nothing input [] [] [] (λ a. a) (record { piece = λ b x s. absurd (cc); apart = λ a b x y s t e. e })
    (record { names = λ x a e. absurd (cc); blocks = λ x a e. absurd (cc); bodies = λ x a e. absurd (cc) }) (same Nothing refl) k) sound
