-- Each step of the argument in a body is answered.
use Rattle.std.proofs.Common.{◌≡◌, ◌≢◌, ℕ, zero, suc, ◌<◌, ◌≤◌, ◌+◌, List, [], ◌∷◌, ◌++◌, map, set, length, Option, Some, None, slice_get, Bool, true, false, cond, ◌&&◌, ◌⊎◌, inl, inr, refl, sym, ap, ap₂, ◌∙◌, subst, subst₂, arith, ⊎_elim, eqb-true, nat_eq, length-append}
use Rattle.smlc_base.specs.declared.point.Point.{Point}
use Rattle.smlc_base.specs.declared.primitive.Primitive.{Primitive}
use Rattle.simulation.specs.Blocks.{IsAmong}
use Rattle.smlc_base.specs.Points.{is_label}
use Rattle.simulation.specs.Machines.{Machine}
use Rattle.simulation.specs.Stores.{Act, machine_of, acted, wrote, puts}
use Rattle.simulation.proofs.Lists.{some_eq, get_append, get_last, get_past}
use Rattle.simulation.proofs.Machines.{Unseen}
use Rattle.simulation.proofs.Forward.{Answer, silent, stays_on, goes_one}
use Rattle.simulation.proofs.Stores.{puts_done}
use Rattle.sml_def.specs.Maybe.{◌>>=◌}
use Rattle.sml_def.specs.State.{Value, Number, Letter, Nothing, Tag, Library, At, Address, Block, Tuple, Applied, Text, Cell, ExnName, Packet, Pending, Normal}
use Rattle.prim_meaning.specs.Meaning.{Outcome, meaning}
use Rattle.prim_meaning.specs.Data as dat
use Rattle.prim_meaning.specs.Data.{Failure}
use Rattle.prim_meaning.specs.Tests.{fields_in}
use Rattle.prim_meaning.specs.Alike.{SameOutcome, same_comes, same_gives, same_assigns, same_compares}
use Rattle.sml_def.specs.Builtin.{see, see_block, exn_of}
use Rattle.lambda_ir.specs.Free.{is_comparison}
use Rattle.cps_ir.specs.declared.atom.Atom.{Atom}
use Rattle.cps_ir.specs.declared.atom.Shape.{Shape}
use Rattle.cps_ir.specs.declared.atom.Atom.TheVariants as atom
use Rattle.cps_ir.specs.declared.atom.Shape.TheVariants as form
use Rattle.cps_ir.specs.Code.{Code, Make, Pick, Prim, Equal, Fix, Call, Match, Handler, SetHandler, Throw, Halt, Functions, NoFunction, Function, Rules, Otherwise, names_of, Tree}
use Rattle.cps_ir.specs.declared.atom.Constant.{Constant}
use Rattle.cps_ir.specs.declared.atom.Constant.TheVariants as constant
use Rattle.cps_ir.specs.State.{Vars, bind, value, values, value_of, Piece, Plain, Fun, datum_of, data_of, Doing, Run, Enter, Raising, Compare, Ended, Facing}
use Rattle.cps_ir.specs.Step.{Store, Goes, facing, on, making, block_made, bind_functions, pieces_of, carry}
use Rattle.cps_ir.specs.Tests.{taken}
use Rattle.cps_ir.specs.Run.{view_piece, cps_machine, CpsState}
use Rattle.contract_laws.specs.Contract.{Made, Body, Scope, scope, nothing, AtomAt, AtomsAt, Fresh, AllFresh, kept, lost, known_as, inner, AsMany, called, is_pure, Contracts, make, pick, does, equal, call, match, handler, set_handler, throw, halt, no_make, no_pick, no_prim, inline, known_pick, chosen, group, group_gone, RulesContract}
use Rattle.contract_laws.proofs.Relation.{is_blockless, bind_same, bind_other, World, world, Val, same, address, eta, depth, Vals, AllHold, Holds, InNames, AllInNames, Names, is_cell, is_still, IsMade, IsBody, Env, IsDatum, text, cell, applied, IsPiece, closure, plain, Heap, More, Later, val_later, vals_later, datum_later, values_later, holds_later, names_later, made_later, body_later, env_later, env_kept, env_lost, more_refl, more_left, grown, shift_new, more_both, later_same, later_bound, piece_later, heap_left, AreNew, heap_both, holds_new, val_new, more_set, heap_set}
use Rattle.contract_laws.proofs.Relation as rel
use Rattle.contract_laws.proofs.Group.{count, place, place_apart, AreAt, placed, placed_new, more_placed, heap_placed, env_some, some_new, env_aliases, env_bodies, aliases_ns, bodies_ns}
use Rattle.contract_laws.proofs.Sees.{field_sees}
use Rattle.contract_laws.proofs.Seeing.{get_map, bind_some, made_kept, IsCells, views}
use Rattle.contract_laws.proofs.States.{conf, Related, running, entering, raising, inlining, IsQuiet, quiet_number, quiet_letter, quiet_tag, quiet_text, quiet_old, PrimsKeep, TestsKeep, EqualsKeep}
use Rattle.contract_laws.proofs.States as state

-- ---- Atoms

constant_blockless : (k : Constant) → is_blockless (value_of k) ≡ true
constant_blockless (constant.Int z) = refl
constant_blockless (constant.Char c) = refl
constant_blockless constant.Nothing = refl
constant_blockless (constant.Tag n) = refl
constant_blockless (constant.Text t) = refl
constant_blockless (constant.Library e) = refl
constant_blockless constant.StdIn = refl

pub at_holds : (L : List Point) (W : World) (S : Scope) (env : Vars) → Env L W S env → (a b : Atom) → AtomAt S.σ a b → Holds L W (value env a) b
at_holds L W S env h (atom.Var x) b e = h.names x b e
at_holds L W S env h (atom.Constant k) b e = subst (λ t. Holds L W (value_of k) t) (sym e) (record { known = tt; val = same (value_of k) (constant_blockless k) })

pub all_hold : (L : List Point) (W : World) (S : Scope) (env : Vars) → Env L W S env → (us bs : List Atom) → AtomsAt S.σ us bs → AllHold L W (values env us) bs
all_hold L W S env h [] [] e = rel.none
all_hold L W S env h [] (b ∷ bs) e = absurd e
all_hold L W S env h (a ∷ us) [] e = absurd e
all_hold L W S env h (a ∷ us) (b ∷ bs) e = rel.next (value env a) b (values env us) bs (at_holds L W S env h a b e.0) (all_hold L W S env h us bs e.1)

pub all_vals : (L : List Point) (W : World) (vs : List Value) (bs : List Atom) → AllHold L W vs bs → Vals L W.f W.st (length W.ps) vs (values W.env bs)
all_vals L W vs bs rel.none = rel.none
all_vals L W vs bs (rel.next v a ws as' h r) = rel.next v (value W.env a) ws (values W.env as') h.val (all_vals L W ws as' r)

pub all_known : (L : List Point) (W : World) (vs : List Value) (bs : List Atom) → AllHold L W vs bs → AllInNames W.ns bs
all_known L W vs bs rel.none = tt
all_known L W vs bs (rel.next v a ws as' h r) = (h.known, all_known L W ws as' r)

none_is : {X : Type 0} (P : X → Type 0) (a : X) → None ≡ Some a → P a
none_is P a e = absurd (cc)

-- ---- What an act comes to

pub acted_bind : {X : Type 0} (out : List ℕ) (st : List Piece) (o : Option X) (f : X → Goes) (s : CpsState) → acted view_piece out st (o >>= f) ≡ Some s → (x : X) × (o ≡ Some x) × (acted view_piece out st (f x) ≡ Some s)
acted_bind out st None f s e = absurd (cc)
acted_bind out st (Some x) f s e = (x, refl, e)

pub acted_unless : (out : List ℕ) (st : List Piece) (b : Bool) (o : Goes) (s : CpsState) → acted view_piece out st (cond b None o) ≡ Some s → (b ≡ false) × (acted view_piece out st o ≡ Some s)
acted_unless out st true o s e = absurd (cc)
acted_unless out st false o s e = (refl, e)

-- ---- One new block in both

pub one_new : (T : List (List ℕ)) (L : List Point) (f : ℕ → ℕ) (st ps : List Piece) (b d : Block) → IsDatum L f st (length ps) b d → AreNew T L f st ps (Plain b ∷ []) (Plain d ∷ [])
one_new T L f st ps b d h zero x e = (
  Plain b,
  refl,
  some_eq (λ t. IsPiece T L (grown f st ps) (st ++ Plain b ∷ []) (ps ++ Plain d ∷ []) (Plain b) t) (Plain d) x e
      (plain b d (datum_later L f (grown f st ps) st (st ++ Plain b ∷ []) ps (ps ++ Plain d ∷ []) (more_both f st ps (Plain b ∷ []) (Plain d ∷ [])) b d h)),
)
one_new T L f st ps b d h (suc c) x e = absurd (cc)

plus_zero : (n : ℕ) → n + 0 ≡ n
plus_zero n = omega arith

pub val_first : (L : List Point) (f : ℕ → ℕ) (st ps zs : List Piece) (y : Piece) (ys : List Piece) → Val L (grown f st ps) (st ++ zs) (length (ps ++ y ∷ ys)) (At (length st)) (At (length ps))
val_first L f st ps zs y ys =
    subst₂ (λ a b. Val L (grown f st ps) (st ++ zs) (length (ps ++ y ∷ ys)) (At a) (At b)) (plus_zero (length st)) (plus_zero (length ps)) (val_new L f st ps zs (y ∷ ys) 0 (let e : 0 < length (y ∷ ys) = omega arith in e))

-- a block of known shape is no cell
known_block : (shape : Shape) (bs : List Atom) (vs : List Value) (d : Block) (m : Made) → known_as shape bs ≡ Some m → block_made shape vs ≡ Some d → (is_cell (Plain d) ≡ false) × (m ≡ record { shape = shape; atoms = bs }) × (is_still shape ≡ true)
known_block form.Tuple bs vs d m e g = (some_eq (λ t. is_cell (Plain t) ≡ false) (Tuple vs) d g refl, some_eq (λ t. t ≡ record { shape = form.Tuple; atoms = bs }) (record { shape = form.Tuple; atoms = bs }) m e refl, refl)
known_block (form.Applied n) bs [] d m e g = absurd (cc)
known_block (form.Applied n) bs (v ∷ []) d m e g = (some_eq (λ t. is_cell (Plain t) ≡ false) (Applied n v) d g refl, some_eq (λ t. t ≡ record { shape = form.Applied n; atoms = bs }) (record { shape = form.Applied n; atoms = bs }) m e refl, refl)
known_block (form.Applied n) bs (v ∷ w ∷ vs) d m e g = absurd (cc)
known_block form.Cell bs vs d m e g = absurd (cc)
known_block (form.ExnName x) bs vs d m e g = absurd (cc)
known_block form.Packet bs vs d m e g = absurd (cc)

-- ---- Functions that are bound together

pub count_pieces : (fs : Functions) (env : Vars) → length (pieces_of fs env) ≡ count fs
count_pieces NoFunction env = refl
count_pieces (Function f p xs b fs) env = ap suc (count_pieces fs env)

-- ---- Known parts

module _ (T : List (List ℕ)) (L : List Point) where
  -- the field of a block whose parts are known
  values_at : (W : World) (atoms : List Atom) (i : ℕ) (b : Atom) (v : Value) → slice_get atoms i ≡ Some b → slice_get (values W.env atoms) i ≡ Some v → AllInNames W.ns atoms → (v ≡ value W.env b) × InNames W.ns b
  values_at W [] i b v e g h = absurd (cc)
  values_at W (a ∷ atoms) zero b v e g h =
      some_eq (λ t. (v ≡ value W.env t) × InNames W.ns t) a b e (some_eq (λ t. t ≡ value W.env a) (value W.env a) v g refl, h.0)
  values_at W (a ∷ atoms) (suc i) b v e g h = values_at W atoms i b v e g h.1

  made_field : (shape : Shape) (vs : List Value) (d : Block) (a i : ℕ) (v : Value) → is_still shape ≡ true → block_made shape vs ≡ Some d → slice_get (fields_in (see_block a (Some d))) i ≡ Some v → slice_get vs i ≡ Some v
  made_field form.Tuple vs d a i v st e g = let k = some_eq (λ t. t ≡ Tuple vs) (Tuple vs) d e refl in sym (ap (λ t. slice_get (fields_in (see_block a (Some t))) i) k) ∙ g
  made_field (form.Applied n) [] d a i v st e g = absurd (cc)
  made_field (form.Applied n) (u ∷ []) d a i v st e g = let k = some_eq (λ t. t ≡ Applied n u) (Applied n u) d e refl in sym (ap (λ t. slice_get (fields_in (see_block a (Some t))) i) k) ∙ g
  made_field (form.Applied n) (u ∷ w ∷ vs) d a i v st e g = absurd (cc)
  made_field form.Cell vs d a i v st e g = absurd (cc)
  made_field (form.ExnName x) vs d a i v st e g = absurd (cc)
  made_field form.Packet vs d a i v st e g = absurd (cc)

  pub known_part : (W : World) (z : ℕ) (m : Made) (i : ℕ) (b : Atom) → IsMade W z m → slice_get m.atoms i ≡ Some b → (u v : Value) → slice_get (fields_in (see T (data_of W.ps) (W.env z))) i ≡ Some v → Val L W.f W.st (length W.ps) u v → Holds L W u b
  known_part W z m i b h get u v e r =
      let o : slice_get (fields_in (see_block h.at (Some h.block))) i ≡ Some v =
      sym (ap (λ t. slice_get (fields_in (see T (data_of W.ps) t)) i) h.is ∙ ap (λ o. slice_get (fields_in (see_block h.at o)) i) (get_map datum_of W.ps h.at (Plain h.block) h.stands)) ∙ e in
      let s = values_at W m.atoms i b v get (made_field m.shape (values W.env m.atoms) h.block h.at i v h.still h.made o) h.parts in
      record { known = s.1; val = subst (λ t. Val L W.f W.st (length W.ps) u t) s.0 r }

-- ---- The steps

module _ (q : Tree) (L : List Point) (prims : PrimsKeep q L) (tests : TestsKeep q L) (equals : EqualsKeep q L) where
  abbrev T : List (List ℕ)
  T = q.texts

  abbrev M : Machine CpsState
  M = machine_of (cps_machine q)

  abbrev Ans : ℕ → CpsState → CpsState → CpsState → Type 0
  Ans w s s' t = Answer false M M L (Unseen M L) (λ v u. Related q.texts L v s' u) w s t

  -- the answer doesn't go
  pub stays : (w v : ℕ) (s s' t : CpsState) → Unseen M L s → v < w → Related q.texts L v s' t → Ans w s s' t
  stays w v s s' t n l r = silent n (stays_on M (Unseen M L) (λ v u. Related q.texts L v s' u) w v t l r)

  -- or goes one step
  pub goes : (w v : ℕ) (s s' t u : CpsState) → Unseen M L s → M.step t ≡ Some u → Unseen M L t → Related q.texts L v s' u → Ans w s s' t
  goes w v s s' t u n e m r = silent n (goes_one M (Unseen M L) (λ v u. Related q.texts L v s' u) w v t u e m r)

  -- both bind x
  run_kept : (w : ℕ) (S : Scope) (c d : Code) (env env' : Vars) (h h' : Value) (input out : List ℕ) (st ps st' ps' : List Piece) (f g : ℕ → ℕ) (x : ℕ) (v v' : Value) (t : Option Made) → More f g st st' ps ps' → Heap q.texts L g st' ps' → Env L (world f st ps env' S.ns) S env → Val L f st (length ps) h h' → Fresh x S.ns → Val L g st' (length ps') v v' → ((m : Made) → t ≡ Some m → IsMade (world g st' ps' (bind env' x v') (x ∷ S.ns)) x m) → Contracts q.texts L w (kept S x t) c d → Related q.texts L w (conf (Run c (bind env x v) h) input out st') (conf (Run d (bind env' x v') h') input out ps')
  run_kept w S c d env env' h h' input out st ps st' ps' f g x v v' t m hp en hh fr hv made k =
      let l = later_bound f g st st' ps ps' m env' S.ns x v' fr in
      running w (kept S x t) c d (bind env x v) (bind env' x v') h h' input out st' ps' g hp
      (env_kept L (world f st ps env' S.ns) (world g st' ps' (bind env' x v') (x ∷ S.ns)) l S env x v t en (holds_new L g st' ps' env' S.ns x v v' hv) made)
      (val_later L f g st st' ps ps' m h h' hh) k

  -- the argument alone binds x
  run_lost : (w : ℕ) (S : Scope) (c d : Code) (env env' : Vars) (h h' : Value) (input out : List ℕ) (st ps st' : List Piece) (f : ℕ → ℕ) (x : ℕ) (v : Value) (o : Option Atom) (i : Option Body) → More f f st st' ps ps → Heap q.texts L f st' ps → Env L (world f st ps env' S.ns) S env → Val L f st (length ps) h h' → ((a : Atom) → o ≡ Some a → Holds L (world f st' ps env' S.ns) v a) → ((b : Body) → i ≡ Some b → IsBody L (world f st' ps env' S.ns) v b) → Contracts q.texts L w (lost S x o i) c d → Related q.texts L w (conf (Run c (bind env x v) h) input out st') (conf (Run d env' h') input out ps)
  run_lost w S c d env env' h h' input out st ps st' f x v o i m hp en hh held body k =
      let l = later_same f f st st' ps ps m env' S.ns in
      running w (lost S x o i) c d (bind env x v) env' h h' input out st' ps f hp
      (env_lost L (world f st' ps env' S.ns) S env x v o i (env_later L (world f st ps env' S.ns) (world f st' ps env' S.ns) l S env en) held body)
      (val_later L f f st st' ps ps m h h' hh) k

  none_made : (W : World) (x : ℕ) (m : Made) → None ≡ Some m → IsMade W x m
  none_made W x m e = absurd (cc)

  none_holds : (W : World) (v : Value) (a : Atom) → None ≡ Some a → Holds L W v a
  none_holds W v a e = absurd (cc)

  none_body : (W : World) (v : Value) (b : Body) → None ≡ Some b → IsBody L W v b
  none_body W v b e = absurd (cc)

  plus_one : (n : ℕ) → n + 1 ≡ suc n
  plus_one n = omega arith

  known_on : (W X : World) → Later W X → (atoms : List Atom) → AllInNames W.ns atoms → AllInNames X.ns atoms
  known_on W X l [] h = tt
  known_on W X l (atom.Var x ∷ atoms) h = (l.on x h.0, known_on W X l atoms h.1)
  known_on W X l (atom.Constant v ∷ atoms) h = (tt, known_on W X l atoms h.1)

  -- the two blocks of a line
  line_new : (f : ℕ → ℕ) (st ps : List Piece) (line : List ℕ) → AreNew q.texts L f st ps (Plain (Text line) ∷ Plain (Applied 1 (At (length st))) ∷ []) (Plain (Text line) ∷ Plain (Applied 1 (At (length ps))) ∷ [])
  line_new f st ps line zero x e = (Plain (Text line), refl, some_eq (λ t. IsPiece q.texts L (grown f st ps) (st ++ Plain (Text line) ∷ Plain (Applied 1 (At (length st))) ∷ []) (ps ++ Plain (Text line) ∷ Plain (Applied 1 (At (length ps))) ∷ []) (Plain (Text line)) t) (Plain (Text line)) x e (plain (Text line) (Text line) (text line)))
  line_new f st ps line (suc zero) x e = (
    Plain (Applied 1 (At (length st))),
    refl,
    some_eq (λ t. IsPiece q.texts L (grown f st ps) (st ++ Plain (Text line) ∷ Plain (Applied 1 (At (length st))) ∷ []) (ps ++ Plain (Text line) ∷ Plain (Applied 1 (At (length ps))) ∷ []) (Plain (Applied 1 (At (length st)))) t) (Plain (Applied 1 (At (length ps)))) x e
        (plain (Applied 1 (At (length st))) (Applied 1 (At (length ps))) (applied 1 (At (length st)) (At (length ps)) (val_first L f st ps (Plain (Text line) ∷ Plain (Applied 1 (At (length st))) ∷ []) (Plain (Text line)) (Plain (Applied 1 (At (length ps))) ∷ [])))),
  )
  line_new f st ps line (suc (suc c)) x e = absurd (cc)

  -- a primitive's result that the argument alone binds
  quietly : (w : ℕ) (S : Scope) (x : ℕ) (c d : Code) (env env' : Vars) (h h' : Value) (input out : List ℕ) (st ps : List Piece) (f : ℕ → ℕ) (s' : CpsState) (v : Value) → Heap q.texts L f st ps → Env L (world f st ps env' S.ns) S env → Val L f st (length ps) h h' → Contracts q.texts L w (lost S x None None) c d → (g : Primitive) (us : List Atom) → acted view_piece out st (on (record { pieces = st; input = input }) (Run c (bind env x v) h)) ≡ Some s' → Ans (suc w) (conf (Run (Prim x g us c) env h) input out st) s' (conf (Run d env' h') input out ps)
  quietly w S x c d env env' h h' input out st ps f s' v hp en hh kk g us e =
      let t = conf (Run d env' h') input out ps in
      stays (suc w) w _ s' _ refl (omega arith) (some_eq (λ z. Related q.texts L w z t) _ s' e
      (run_lost w S c d env env' h h' input out st ps st f x v None None (more_refl f st ps) hp en hh (λ a i. none_holds (world f st ps env' S.ns) v a i) (λ a i. none_body (world f st ps env' S.ns) v a i) kk))

  quiets : (w : ℕ) (S : Scope) (x : ℕ) (c d : Code) (env env' : Vars) (h h' : Value) (input out : List ℕ) (st ps : List Piece) (f : ℕ → ℕ) (s' : CpsState) (o : Outcome Value) → IsQuiet o → Heap q.texts L f st ps → Env L (world f st ps env' S.ns) S env → Val L f st (length ps) h h' → Contracts q.texts L w (lost S x None None) c d → (g : Primitive) (us : List Atom) → acted view_piece out st (carry q (record { pieces = st; input = input }) x c env h o) ≡ Some s' → Ans (suc w) (conf (Run (Prim x g us c) env h) input out st) s' (conf (Run d env' h') input out ps)
  quiets w S x c d env env' h h' input out st ps f s' o (quiet_number z) hp en hh kk g us e =
      quietly w S x c d env env' h h' input out st ps f s' (Number z) hp en hh kk g us e
  quiets w S x c d env env' h h' input out st ps f s' o (quiet_letter k) hp en hh kk g us e =
      quietly w S x c d env env' h h' input out st ps f s' (Letter k) hp en hh kk g us e
  quiets w S x c d env env' h h' input out st ps f s' o (quiet_tag n) hp en hh kk g us e =
      quietly w S x c d env env' h h' input out st ps f s' (Tag n) hp en hh kk g us e
  quiets w S x c d env env' h h' input out st ps f s' o (quiet_old v) hp en hh kk g us e =
      quietly w S x c d env env' h h' input out st ps f s' v hp en hh kk g us e
  quiets w S x c d env env' h h' input out st ps f s' o (quiet_text bytes) hp en hh kk g us e =
      let zs : List Piece = Plain (Text bytes) ∷ [] in
      let t = conf (Run d env' h') input out ps in
      stays (suc w) w _ s' _ refl (omega arith) (some_eq (λ z. Related q.texts L w z t) _ s' e
      (run_lost w S c d env env' h h' input out st ps (st ++ zs) f x (At (length st)) None None (more_left f st ps zs) (heap_left q.texts L f st ps zs hp) en hh (λ a i. none_holds (world f (st ++ zs) ps env' S.ns) (At (length st)) a i) (λ a i. none_body (world f (st ++ zs) ps env' S.ns) (At (length st)) a i) kk))

  -- a value that both bind
  carries : (w : ℕ) (S : Scope) (x : ℕ) (c d : Code) (env env' : Vars) (h h' : Value) (input out : List ℕ) (st ps : List Piece) (f : ℕ → ℕ) (s s' t : CpsState) (u v : Value) → Val L f st (length ps) u v → Unseen M L s → Unseen M L t → Heap q.texts L f st ps → Env L (world f st ps env' S.ns) S env → Val L f st (length ps) h h' → Fresh x S.ns → Contracts q.texts L w (kept S x None) c d → acted view_piece out st (on (record { pieces = st; input = input }) (Run c (bind env x u) h)) ≡ Some s' → M.step t ≡ acted view_piece out ps (on (record { pieces = ps; input = input }) (Run d (bind env' x v) h')) → Ans (suc w) s s' t
  carries w S x c d env env' h h' input out st ps f s s' t u v y n m hp en hh fr kk e g =
      goes (suc w) w s s' t (conf (Run d (bind env' x v) h') input out ps) n g m (some_eq (λ z. Related q.texts L w z (conf (Run d (bind env' x v) h') input out ps)) _ s' e
      (run_kept w S c d env env' h h' input out st ps st ps f f x u v None (more_refl f st ps) hp en hh fr y (λ i j. none_made (world f st ps (bind env' x v) (x ∷ S.ns)) x i j) kk))

  assigned : (w : ℕ) (S : Scope) (x : ℕ) (c d : Code) (env env' : Vars) (h h' : Value) (input out : List ℕ) (st ps : List Piece) (f : ℕ → ℕ) (s s' t : CpsState) (a b : ℕ) (u u' v v' : Value) → slice_get st a ≡ Some (Plain (Cell u)) → slice_get ps b ≡ Some (Plain (Cell u')) → f b ≡ a → Val L f st (length ps) v v' → Unseen M L s → Unseen M L t → Heap q.texts L f st ps → Env L (world f st ps env' S.ns) S env → Val L f st (length ps) h h' → Fresh x S.ns → Contracts q.texts L w (kept S x None) c d → acted view_piece out st (puts (facing (record { pieces = st; input = input }) (Run c (bind env x Nothing) h)) a (Plain (Cell v))) ≡ Some s' → M.step t ≡ acted view_piece out ps (puts (facing (record { pieces = ps; input = input }) (Run d (bind env' x Nothing) h')) b (Plain (Cell v'))) → Ans (suc w) s s' t
  assigned w S x c d env env' h h' input out st ps f s s' t a b u u' v v' at j q' y n m hp en hh fr kk e₀ g =
      let i : slice_get st (f b) ≡ Some (Plain (Cell u)) = ap (slice_get st) q' ∙ at in
      let e = ap (λ p. acted view_piece out st (puts (facing (record { pieces = st; input = input }) (Run c (bind env x Nothing) h)) p (Plain (Cell v)))) q' ∙ e₀ in
      let st' = set st (f b) (Plain (Cell v)) in
      let ps' = set ps b (Plain (Cell v')) in
      let z = conf (Run d (bind env' x Nothing) h') input out ps' in
      let e' = sym (puts_done view_piece _ out st (f b) (Plain (Cell u)) (Plain (Cell v)) i refl) ∙ e in
      let g' : M.step t ≡ Some z = g ∙ puts_done view_piece _ out ps b (Plain (Cell u')) (Plain (Cell v')) j refl in
      goes (suc w) w s s' t z n g' m (some_eq (λ o. Related q.texts L w o z) _ s' e'
      (run_kept w S c d env env' h h' input out st ps st' ps' f f x Nothing Nothing None (more_set f st ps (f b) b u u' v v' i j) (heap_set q.texts L f st ps b u u' v v' i j y hp) en hh fr (same Nothing refl) (λ i j. none_made (world f st' ps' (bind env' x Nothing) (x ∷ S.ns)) x i j) kk))

  -- a primitive's result, which both bind
  carried : (w : ℕ) (S : Scope) (x : ℕ) (c d : Code) (env env' : Vars) (h h' : Value) (input out : List ℕ) (st ps : List Piece) (f : ℕ → ℕ) (s s' t : CpsState) (o r : Outcome Value) → SameOutcome (IsCells f st ps) (Val L f st (length ps)) o r → Unseen M L s → Unseen M L t → Heap q.texts L f st ps → Env L (world f st ps env' S.ns) S env → Val L f st (length ps) h h' → Fresh x S.ns → Contracts q.texts L w (kept S x None) c d → acted view_piece out st (carry q (record { pieces = st; input = input }) x c env h o) ≡ Some s' → M.step t ≡ acted view_piece out ps (carry q (record { pieces = ps; input = input }) x d env' h' r) → Ans (suc w) s s' t
  carried w S x c d env env' h h' input out st ps f s s' t o r (same_comes (dat.ANumber z)) n m hp en hh fr kk e g =
      carries w S x c d env env' h h' input out st ps f s s' t (Number z) (Number z) (same (Number z) refl) n m hp en hh fr kk e g
  carried w S x c d env env' h h' input out st ps f s s' t o r (same_comes (dat.ALetter k)) n m hp en hh fr kk e g =
      carries w S x c d env env' h h' input out st ps f s s' t (Letter k) (Letter k) (same (Letter k) refl) n m hp en hh fr kk e g
  carried w S x c d env env' h h' input out st ps f s s' t o r (same_comes (dat.ATag k)) n m hp en hh fr kk e g =
      carries w S x c d env env' h h' input out st ps f s s' t (Tag k) (Tag k) (same (Tag k) refl) n m hp en hh fr kk e g
  carried w S x c d env env' h h' input out st ps f s s' t o r (same_gives u v y) n m hp en hh fr kk e g =
      carries w S x c d env env' h h' input out st ps f s s' t u v y n m hp en hh fr kk e g
  carried w S x c d env env' h h' input out st ps f s s' t o r (same_comes (dat.AString bytes)) n m hp en hh fr kk e g =
      let zs : List Piece = Plain (Text bytes) ∷ [] in
      let u = conf (Run d (bind env' x (At (length ps))) h') input out (ps ++ zs) in
      goes (suc w) w s s' t u n g m (some_eq (λ z. Related q.texts L w z u) _ s' e
      (run_kept w S c d env env' h h' input out st ps (st ++ zs) (ps ++ zs) f (grown f st ps) x (At (length st)) (At (length ps)) None (more_both f st ps zs zs) (heap_both q.texts L f st ps zs zs (one_new q.texts L f st ps (Text bytes) (Text bytes) (text bytes)) hp) en hh fr (val_first L f st ps zs (Plain (Text bytes)) []) (λ i j. none_made (world (grown f st ps) (st ++ zs) (ps ++ zs) (bind env' x (At (length ps))) (x ∷ S.ns)) x i j) kk))
  carried w S x c d env env' h h' input out st ps f s s' t o r (same_comes (dat.Fails y)) n m hp en hh fr kk e g =
      let u = conf (Raising (Library (exn_of y)) h') input out ps in
      goes (suc w) (depth hh) s s' t u n g m (some_eq (λ z. Related q.texts L (depth hh) z u) _ s' e
      (raising (depth hh) (Library (exn_of y)) (Library (exn_of y)) h h' input out st ps f hp (same (Library (exn_of y)) refl) hh (omega arith)))
  carried w S x c d env env' h h' input out st ps f s s' t o r (same_comes (dat.Writes bytes)) n m hp en hh fr kk e g =
      let u = conf (Run d (bind env' x Nothing) h') input (wrote out bytes) ps in
      goes (suc w) w s s' t u n g m (some_eq (λ z. Related q.texts L w z u) _ s' e
      (run_kept w S c d env env' h h' input (wrote out bytes) st ps st ps f f x Nothing Nothing None (more_refl f st ps) hp en hh fr (same Nothing refl) (λ i j. none_made (world f st ps (bind env' x Nothing) (x ∷ S.ns)) x i j) kk))
  carried w S x c d env env' h h' input out st ps f s s' t o r (same_assigns a b v v' cells y) n m hp en hh fr kk e g =
      assigned w S x c d env env' h h' input out st ps f s s' t a b cells.left cells.right v v' cells.at cells.there cells.is y n m hp en hh fr kk e g
  carried w S x c d env env' h h' input out st ps f s s' t o r (same_compares i j k l p z y) n m hp en hh fr kk e g = absurd (cc)
  carried w S x c d env env' h h' input out st ps f s s' t o r (same_comes (dat.ALine line left)) n m hp en hh fr kk e g =
      let zs : List Piece = Plain (Text line) ∷ Plain (Applied 1 (At (length st))) ∷ [] in
      let ys : List Piece = Plain (Text line) ∷ Plain (Applied 1 (At (length ps))) ∷ [] in
      let u = conf (Run d (bind env' x (At (suc (length ps)))) h') left out (ps ++ ys) in
      goes (suc w) w s s' t u n g m (some_eq (λ z. Related q.texts L w z u) _ s' e
      (run_kept w S c d env env' h h' left out st ps (st ++ zs) (ps ++ ys) f (grown f st ps) x (At (suc (length st))) (At (suc (length ps))) None (more_both f st ps zs ys) (heap_both q.texts L f st ps zs ys (line_new f st ps line) hp) en hh fr
      (subst₂ (λ a b. Val L (grown f st ps) (st ++ zs) (length (ps ++ ys)) (At a) (At b)) (plus_one (length st)) (plus_one (length ps)) (val_new L f st ps zs ys 1 (let e : 1 < 2 = omega arith in e)))
      (λ i j. none_made (world (grown f st ps) (st ++ zs) (ps ++ ys) (bind env' x (At (suc (length ps)))) (x ∷ S.ns)) x i j) kk))

  -- what the code does where the first takes a step in a body
  pub steps : (w : ℕ) (S : Scope) (c d : Code) (env env' : Vars) (h h' : Value) (input out : List ℕ) (st ps : List Piece) (f : ℕ → ℕ) (s' : CpsState) → Heap q.texts L f st ps → Env L (world f st ps env' S.ns) S env → Val L f st (length ps) h h' → Contracts q.texts L w S c d → M.step (conf (Run c env h) input out st) ≡ Some s' → Ans w (conf (Run c env h) input out st) s' (conf (Run d env' h') input out ps)
  steps w₀ c₀ S₀ d₀ env env' h h' input out st ps f s' hp en hh (make w S x shape us bs c d as' fr k) e =
      let W = world f st ps env' S.ns in
      let b = acted_bind out st (block_made shape (values env us)) _ s' e in
      let ah = all_hold L W S env en us bs as' in
      let r = made_kept q.texts L f st ps hp shape (values env us) (values env' bs) (all_vals L W (values env us) bs ah) b.0 b.1 in
      let zs : List Piece = Plain b.0 ∷ [] in
      let ys : List Piece = Plain r.0 ∷ [] in
      let g = grown f st ps in
      let u = conf (Run d (bind env' x (At (length ps))) h') input out (ps ++ ys) in
      let X = world g (st ++ zs) (ps ++ ys) (bind env' x (At (length ps))) (x ∷ S.ns) in
      let l : Later W X = later_bound f g st (st ++ zs) ps (ps ++ ys) (more_both f st ps zs ys) env' S.ns x (At (length ps)) fr in
      goes (suc w) w _ s' _ u refl (ap (λ o. acted view_piece out ps (o >>= (λ y. making (record { pieces = ps; input = input }) (Plain y) (λ a. Run d (bind env' x (At a)) h')))) r.1) refl
      (some_eq (λ z. Related q.texts L w z u) _ s' b.2
      (run_kept w S c d env env' h h' input out st ps (st ++ zs) (ps ++ ys) f g x (At (length st)) (At (length ps)) (known_as shape bs) (more_both f st ps zs ys) (heap_both q.texts L f st ps zs ys (one_new q.texts L f st ps b.0 r.0 r.2) hp) en hh fr (val_first L f st ps zs (Plain r.0) [])
      (λ m i. let kb = known_block shape bs (values env' bs) r.0 m i r.1 in
      subst (IsMade X x) (sym kb.1) (record {
        at = length ps;
        block = r.0;
        is = bind_same env' x (At (length ps));
        stands = get_last ps (Plain r.0);
        stays = kb.0;
        still = kb.2;
        made = ap (block_made shape) (values_later W X l bs (all_known L W (values env us) bs ah)) ∙ r.1;
        known = inl refl;
        parts = known_on W X l bs (all_known L W (values env us) bs ah);
      })) k))
  steps w₀ c₀ S₀ d₀ env env' h h' input out st ps f s' hp en hh (pick w S x i a b c d at' fr k) e =
      let W = world f st ps env' S.ns in
      let v = acted_bind out st (slice_get (fields_in (see q.texts (data_of st) (value env a))) i) _ s' e in
      let r = field_sees (IsCells f st ps) (Val L f st (length ps)) (see q.texts (data_of st) (value env a)) (see q.texts (data_of ps) (value env' b)) ((views q.texts L f st ps hp).alike (value env a) (value env' b) (at_holds L W S env en a b at').val) i v.0 v.1 in
      let u = conf (Run d (bind env' x r.0) h') input out ps in
      goes (suc w) w _ s' _ u refl (ap (λ o. acted view_piece out ps (o >>= (λ y. on (record { pieces = ps; input = input }) (Run d (bind env' x y) h')))) r.1) refl
      (some_eq (λ z. Related q.texts L w z u) _ s' v.2
      (run_kept w S c d env env' h h' input out st ps st ps f f x v.0 r.0 None (more_refl f st ps) hp en hh fr r.2 (λ m j. none_made (world f st ps (bind env' x r.0) (x ∷ S.ns)) x m j) k))
  steps w₀ c₀ S₀ d₀ env env' h h' input out st ps f s' hp en hh (does w S x g us bs c d as' fr k) e =
      let W = world f st ps env' S.ns in
      let n = acted_unless out st (is_comparison g) _ s' e in
      let v = acted_bind out st (meaning (see q.texts (data_of st)) (length st) input g (values env us)) _ s' n.1 in
      let r = prims.kept f st ps hp input g (values env us) (values env' bs) (all_vals L W (values env us) bs (all_hold L W S env en us bs as')) n.0 v.0 v.1 in
      carried w S x c d env env' h h' input out st ps f _ s' _ v.0 r.0 r.2 refl refl hp en hh fr k v.2
      (ap (λ z. acted view_piece out ps (cond z None (meaning (see q.texts (data_of ps)) (length ps) input g (values env' bs) >>= carry q (record { pieces = ps; input = input }) x d env' h'))) n.0
      ∙ ap (λ o. acted view_piece out ps (o >>= carry q (record { pieces = ps; input = input }) x d env' h')) r.1)
  steps w₀ c₀ S₀ d₀ env env' h h' input out st ps f s' hp en hh (equal w S a a' b b' k k' t p o l) e =
      equals.begins w S a a' b b' k k' t env env' h h' input out st ps f s' hp en hh p o l e
  steps w₀ c₀ S₀ d₀ env env' h h' input out st ps f s' hp en hh (call w S a b us bs p o) e =
      let W = world f st ps env' S.ns in
      let hv = at_holds L W S env en a b p in
      let u = conf (Enter (value env' b) (values env' bs) h') input out ps in
      goes w (depth hv.val) _ s' _ u refl refl refl (some_eq (λ z. Related q.texts L (depth hv.val) z u) _ s' e
      (entering (depth hv.val) (value env a) (value env' b) (values env us) (values env' bs) h h' input out st ps f hp hv.val (all_vals L W (values env us) bs (all_hold L W S env en us bs o)) hh (omega arith)))
  steps w₀ c₀ S₀ d₀ env env' h h' input out st ps f s' hp en hh (match w S a b rs ss p k) e =
      let v = acted_bind out st (taken q.texts env (data_of st) (value env a) rs) _ s' e in
      let r = tests.taken f st ps hp S env env' en w a b rs ss p k v.0 v.1 in
      let u = conf (Run r.0 env' h') input out ps in
      goes (suc w) w _ s' _ u refl (ap (λ o. acted view_piece out ps (o >>= (λ y. on (record { pieces = ps; input = input }) (Run y env' h')))) r.1) refl
      (some_eq (λ z. Related q.texts L w z u) _ s' v.2 (running w S v.0 r.0 env env' h h' input out st ps f hp en hh r.2))
  steps w₀ c₀ S₀ d₀ env env' h h' input out st ps f s' hp en hh (handler w S x c d fr k) e =
      let u = conf (Run d (bind env' x h') h') input out ps in
      goes (suc w) w _ s' _ u refl refl refl
      (some_eq (λ z. Related q.texts L w z u) _ s' e
      (run_kept w S c d env env' h h' input out st ps st ps f f x h h' None (more_refl f st ps) hp en hh fr hh (λ m j. none_made (world f st ps (bind env' x h') (x ∷ S.ns)) x m j) k))
  steps w₀ c₀ S₀ d₀ env env' h h' input out st ps f s' hp en hh (set_handler w S a b c d p k) e =
      let u = conf (Run d env' (value env' b)) input out ps in
      goes (suc w) w _ s' _ u refl refl refl
      (some_eq (λ z. Related q.texts L w z u) _ s' e
      (running w S c d env env' (value env a) (value env' b) input out st ps f hp en (at_holds L (world f st ps env' S.ns) S env en a b p).val k))
  steps w₀ c₀ S₀ d₀ env env' h h' input out st ps f s' hp en hh (throw w S a b p) e =
      let u = conf (Raising (value env' b) h') input out ps in
      goes w (depth hh) _ s' _ u refl refl refl
      (some_eq (λ z. Related q.texts L (depth hh) z u) _ s' e
      (raising (depth hh) (value env a) (value env' b) h h' input out st ps f hp (at_holds L (world f st ps env' S.ns) S env en a b p).val hh (omega arith)))
  steps w₀ c₀ S₀ d₀ env env' h h' input out st ps f s' hp en hh (halt w S) e =
      let u = conf (Ended Normal) input out ps in
      goes w 0 _ s' _ u refl refl refl (some_eq (λ z. Related q.texts L 0 z u) _ s' e (state.ended Normal input out st ps f hp))
  steps w₀ c₀ S₀ d₀ env env' h h' input out st ps f s' hp en hh (no_make w S x shape us c d k) e =
      let b = acted_bind out st (block_made shape (values env us)) _ s' e in
      let zs : List Piece = Plain b.0 ∷ [] in
      let t = conf (Run d env' h') input out ps in
      stays (suc w) w _ s' _ refl (omega arith) (some_eq (λ z. Related q.texts L w z t) _ s' b.2
      (run_lost w S c d env env' h h' input out st ps (st ++ zs) f x (At (length st)) None None (more_left f st ps zs) (heap_left q.texts L f st ps zs hp) en hh (λ a i. none_holds (world f (st ++ zs) ps env' S.ns) (At (length st)) a i) (λ a i. none_body (world f (st ++ zs) ps env' S.ns) (At (length st)) a i) k))
  steps w₀ c₀ S₀ d₀ env env' h h' input out st ps f s' hp en hh (no_pick w S x i a c d k) e =
      let v = acted_bind out st (slice_get (fields_in (see q.texts (data_of st) (value env a))) i) _ s' e in
      let t = conf (Run d env' h') input out ps in
      stays (suc w) w _ s' _ refl (omega arith) (some_eq (λ z. Related q.texts L w z t) _ s' v.2
      (run_lost w S c d env env' h h' input out st ps st f x v.0 None None (more_refl f st ps) hp en hh (λ a i. none_holds (world f st ps env' S.ns) v.0 a i) (λ a i. none_body (world f st ps env' S.ns) v.0 a i) k))
  steps w₀ c₀ S₀ d₀ env env' h h' input out st ps f s' hp en hh (no_prim w S x g us c d pure k) e =
      let n = acted_unless out st (is_comparison g) _ s' e in
      let v = acted_bind out st (meaning (see q.texts (data_of st)) (length st) input g (values env us)) _ s' n.1 in
      quiets w S x c d env env' h h' input out st ps f s' v.0 (prims.quiet st input g (values env us) pure v.0 v.1) hp en hh k g us v.2
  steps w₀ c₀ S₀ d₀ env env' h h' input out st ps f s' hp en hh (inline w S j b us bs d is o many k) e =
      let W = world f st ps env' S.ns in
      let t = conf (Run d env' h') input out ps in
      stays (suc (suc w)) (suc w) _ s' _ refl (omega arith) (some_eq (λ z. Related q.texts L (suc w) z t) _ s' e
      (inlining w S b (env j) (values env us) bs d env env' h h' input out st ps f hp en (en.bodies j b is) (all_hold L W S env en us bs o) hh k))
  steps w₀ c₀ S₀ d₀ env env' h h' input out st ps f s' hp en hh (known_pick w S x i z a b m c d p known get k) e =
      let W = world f st ps env' S.ns in
      let t = conf (Run d env' h') input out ps in
      let v = acted_bind out st (slice_get (fields_in (see q.texts (data_of st) (value env a))) i) _ s' e in
      let r = field_sees (IsCells f st ps) (Val L f st (length ps)) (see q.texts (data_of st) (value env a)) (see q.texts (data_of ps) (env' z)) ((views q.texts L f st ps hp).alike (value env a) (env' z) (at_holds L W S env en a (atom.Var z) p).val) i v.0 v.1 in
      let hx : Holds L W v.0 b = known_part q.texts L W z m i b (en.blocks z m known) get v.0 r.0 r.1 r.2 in
      stays (suc w) w _ s' _ refl (omega arith) (some_eq (λ y. Related q.texts L w y t) _ s' v.2
      (run_lost w S c d env env' h h' input out st ps st f x v.0 (Some b) None (more_refl f st ps) hp en hh (λ o i. some_eq (λ y. Holds L W v.0 y) b o i hx) (λ o i. none_body W v.0 o i) k))
  steps w₀ c₀ S₀ d₀ env env' h h' input out st ps f s' hp en hh (chosen w S a b rs d p k) e =
      let t = conf (Run d env' h') input out ps in
      let v = acted_bind out st (taken q.texts env (data_of st) (value env a) rs) _ s' e in
      let r = tests.taken f st ps hp S env env' en w a b rs (Otherwise d) p k v.0 v.1 in
      stays (suc w) w _ s' _ refl (omega arith) (some_eq (λ y. Related q.texts L w y t) _ s' v.2
      (running w S v.0 d env env' h h' input out st ps f hp en hh (some_eq (λ y. Contracts q.texts L w S v.0 y) r.0 d (sym r.1) r.2)))
  steps w₀ c₀ S₀ d₀ env env' h h' input out st ps f s' hp en hh (group w S U Y Z fs gs c d dis ev al bo k) e =
      let g = placed f (place ev) st ps in
      let all = bind_functions fs (length st) env in
      let all' = bind_functions gs (length ps) env' in
      let zs = pieces_of fs all in
      let ys = pieces_of gs all' in
      let m = more_placed f (place ev) st ps zs ys in
      let l = later_same f g st (st ++ zs) ps (ps ++ ys) m env' S.ns in
      let X = world g (st ++ zs) (ps ++ ys) all' U.ns in
      let many = count_pieces gs all' in
      let at : AreAt (st ++ zs) (length st) zs = λ n x i. get_past st zs n ∙ i in
      let en_u : Env L X U all = env_some q.texts L g (st ++ zs) (ps ++ ys) Z S U fs gs (length st) (length ps) env env' ev
      (env_later L (world f st ps env' S.ns) (world g (st ++ zs) (ps ++ ys) env' S.ns) l S env en)
      (λ j i. address (length st + place ev j) (length ps + j) (omega (arith, length-append ps ys)) (placed_new f (place ev) st ps j)) in
      let en_y : Env L X Y all = env_aliases L X all U Y fs (length st) env [] al dis refl at en_u in
      let en_z : Env L X Z all = env_bodies L X all Y.σ Y Z fs (length st) env [] bo dis refl at en_y.names en_y in
      let ns : Z.ns ≡ U.ns = bodies_ns L Y.σ Y Z fs bo ∙ aliases_ns L U Y fs al in
      let en' : Env L (world g (st ++ zs) (ps ++ ys) all' Z.ns) Z all = subst (λ n. Env L (world g (st ++ zs) (ps ++ ys) all' n) Z all) (sym ns) en_z in
      let u = conf (Run d all' h') input out (ps ++ ys) in
      goes (suc w) w _ s' _ u refl refl refl
      (some_eq (λ z. Related q.texts L w z u) _ s' e
      (running w Z c d all all' h h' input out (st ++ zs) (ps ++ ys) g
      (heap_placed q.texts L f (place ev) st ps zs ys (place_apart q.texts L Z S U fs gs ev) (some_new q.texts L g (st ++ zs) (ps ++ ys) Z S U fs gs all all' en'.names ev) hp) en' (val_later L f g st (st ++ zs) ps (ps ++ ys) m h h' hh) k))
  steps w₀ c₀ S₀ d₀ env env' h h' input out st ps f s' hp en hh (group_gone w S U Y Z fs c d dis ev al bo k) e =
      let all = bind_functions fs (length st) env in
      let zs = pieces_of fs all in
      let m = more_left f st ps zs in
      let l = later_same f f st (st ++ zs) ps ps m env' S.ns in
      let X = world f (st ++ zs) ps env' U.ns in
      let at : AreAt (st ++ zs) (length st) zs = λ n x i. get_past st zs n ∙ i in
      let en_u : Env L X U all = env_some q.texts L f (st ++ zs) ps Z S U fs NoFunction (length st) (length ps) env env' ev
      (env_later L (world f st ps env' S.ns) (world f (st ++ zs) ps env' S.ns) l S env en) (λ j i. absurd (omega arith)) in
      let en_y : Env L X Y all = env_aliases L X all U Y fs (length st) env [] al dis refl at en_u in
      let en_z : Env L X Z all = env_bodies L X all Y.σ Y Z fs (length st) env [] bo dis refl at en_y.names en_y in
      let ns : Z.ns ≡ U.ns = bodies_ns L Y.σ Y Z fs bo ∙ aliases_ns L U Y fs al in
      let en' : Env L (world f (st ++ zs) ps env' Z.ns) Z all = subst (λ n. Env L (world f (st ++ zs) ps env' n) Z all) (sym ns) en_z in
      let t = conf (Run d env' h') input out ps in
      stays (suc w) w _ s' _ refl (omega arith) (some_eq (λ z. Related q.texts L w z t) _ s' e
      (running w Z c d all env' h h' input out (st ++ zs) ps f (heap_left q.texts L f st ps zs hp) en' (val_later L f f st (st ++ zs) ps ps m h h' hh) k))
