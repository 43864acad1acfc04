-- How the answer's store lies in the argument's.
use Rattle.std.proofs.Common.{◌≡◌, ◌≢◌, ℕ, zero, suc, ◌+◌, ◌<◌, List, [], ◌∷◌, ◌++◌, map, length, Option, Some, None, slice_get, flat_map, Bool, true, false, ◌⊎◌, inl, inr, refl, sym, ap, ◌∙◌, subst, subst₂, ⊎_elim}
use Rattle.smlc_base.specs.declared.point.Point.{Point}
use Rattle.simulation.specs.Blocks.{Kind, ClassRecord, SpillRecord, Datum, Block, IsAmong, StandsAt, Reach, AreOfOneSort, IsCounted, IsLike, Embeds}
use Rattle.simulation.proofs.Lists.{some_eq, among_left, among_right, among_append, get_below}
use Rattle.simulation.proofs.Heaps.{IsUncounted, LeadsFrom, straight, by_code, IsHeapMap, from_more, stands_map, stands_of}
use Rattle.simulation.proofs.Items.{Led, led, roots_reach, StandsFor, AreStoodFor, heap_of_items}
use Rattle.simulation.proofs.Stores.{HasNoRecord}
use Rattle.sml_tree.specs.Sets.{without, union}
use Rattle.sml_def.specs.State as def
use Rattle.sml_def.specs.State.{Value, At, Address, Tuple, Applied, Text, Cell, ExnName, Packet, Pending}
use Rattle.sml_def.specs.Run.{of_value, of_values, of_next, of_block, view}
use Rattle.cps_ir.specs.declared.atom.Atom.{Atom}
use Rattle.cps_ir.specs.declared.atom.Atom.TheVariants as atom
use Rattle.cps_ir.specs.Code.{Code, Call}
use Rattle.cps_ir.specs.Free.{vars_all, free_code}
use Rattle.cps_ir.specs.State.{Vars, Piece, Plain, Fun}
use Rattle.cps_ir.specs.Run.{of_vars, view_piece}
use Rattle.contract_laws.specs.Contract.{Scope, inner, Contracts}
use Rattle.contract_laws.proofs.Relation.{is_blockless, World, world, Val, same, address, eta, Vals, none, next, ValOption, some, IsDatum, tuple, applied, text, cell, exn_name, packet, pending, Names, IsPiece, closure, plain, Heap}
use Rattle.contract_laws.proofs.Relation as rel
use Rattle.contract_laws.proofs.Free.{In, in_left, in_without, without_in, in_one, one_in, among_in, in_among, Or, closed_inner, out_of, free_of}

-- ---- What values name

of_value_at : (v : Value) (a : ℕ) → IsAmong a (of_value v) → v ≡ At a
of_value_at (At b) a (inl e) = ap At (sym e)
of_value_at (At b) a (inr h) = absurd h
of_value_at _ a h = absurd h

at_of_value : (v : Value) (a : ℕ) → v ≡ At a → IsAmong a (of_value v)
at_of_value v a e = subst (λ t. IsAmong a (of_value t)) (sym e) (inl refl)

in_of_vars : (env : Vars) (xs : List ℕ) (x a : ℕ) → IsAmong x xs → env x ≡ At a → IsAmong a (of_vars env xs)
in_of_vars env [] x a h e = absurd h
in_of_vars env (y ∷ ys) x a (inl h) e = among_left a (of_value (env y)) (of_vars env ys) (at_of_value (env y) a (ap env (sym h) ∙ e))
in_of_vars env (y ∷ ys) x a (inr h) e = among_right a (of_value (env y)) (of_vars env ys) (in_of_vars env ys x a h e)

pub out_of_vars : (env : Vars) (xs : List ℕ) (a : ℕ) → IsAmong a (of_vars env xs) → (x : ℕ) × In x xs × (env x ≡ At a)
out_of_vars env xs a h = let r = go xs h in (r.0, rel_in r.0 xs r.1, r.2)
  where
    go : (ys : List ℕ) → IsAmong a (of_vars env ys) → (x : ℕ) × IsAmong x ys × (env x ≡ At a)
    go [] h = absurd h
    go (y ∷ ys) h = ⊎_elim
        (λ (u : IsAmong a (of_value (env y))). (y, inl refl, of_value_at (env y) a u))
        (λ (u : IsAmong a (of_vars env ys)). let r = go ys u in (r.0, inr r.1, r.2))
        (among_append a (of_value (env y)) (of_vars env ys) h)

    rel_in : (x : ℕ) (ys : List ℕ) → IsAmong x ys → In x ys
    rel_in x ys h = among_in x ys h

module _ (T : List (List ℕ)) (L : List Point) (f : ℕ → ℕ) (st ps : List Piece) where
  abbrev pub Into : List ℕ → ℕ → Type 0
  Into fields b = (b < length ps) × LeadsFrom (map view_piece st) fields (f b)

  pub wide : (few more : List ℕ) (b : ℕ) → ((a : ℕ) → IsAmong a few → IsAmong a more) → Into few b → Into more b
  wide few more b h r = (r.0, from_more (map view_piece st) few more (f b) h r.1)

  -- a value that is named leads to its image
  pub val_leads : (v u : Value) (b : ℕ) (fields : List ℕ) → Val L f st (length ps) v u → u ≡ At b → ((a : ℕ) → v ≡ At a → IsAmong a fields) → Into fields b
  val_leads v u b fields (same w k) e n = absurd (let g : is_at v ≡ true = ap is_at e in none_at v k g)
    where
      is_at : Value → Bool
      is_at (At a) = true
      is_at _ = false

      none_at : (v : Value) → is_blockless v ≡ true → is_at v ≡ true → ⊥
      none_at (At a) k g = cc
      none_at _ k g = cc
  val_leads v u b fields (address a c l h) e n =
      let g : c ≡ b = cc in
      (subst (λ t. t < length ps) g l, straight fields (f b) (subst (λ t. IsAmong t fields) (sym h ∙ ap f g) (n a refl)))
  val_leads v u b fields (eta a p xs x env w at hid out d r) e n =
      let all = union (x ∷ []) (vars_all (map atom.Var xs)) in
      let wb = without all xs in
      let on = val_leads (env x) u b (of_vars env wb) r e (λ t g. in_of_vars env wb x t (in_among x wb (in_without x all xs (λ i. out (in_among x xs i)) (in_left x (x ∷ []) (vars_all (map atom.Var xs)) (one_in x x refl)))) g) in
      (on.0, by_code fields a (f b) (view_piece (Fun p xs (Call (atom.Var x) (map atom.Var xs)) env)) (n a refl) (stands_of view_piece st a (Fun p xs (Call (atom.Var x) (map atom.Var xs)) env) at) (λ k. cc) on.1)

  pub value_leads : (v u : Value) → Val L f st (length ps) v u → (b : ℕ) → IsAmong b (of_value u) → Into (of_value v) b
  value_leads v u r b i = val_leads v u b (of_value v) r (of_value_at u b i) (λ a e. at_of_value v a e)

  pub values_lead : (vs us : List Value) → Vals L f st (length ps) vs us → (b : ℕ) → IsAmong b (of_values us) → Into (of_values vs) b
  values_lead vs us none b i = absurd i
  values_lead vs us (next v u ws xs r q) b i = ⊎_elim
      (λ (h : IsAmong b (of_value u)). wide (of_value v) (of_value v ++ of_values ws) b (λ a j. among_left a (of_value v) (of_values ws) j) (value_leads v u r b h))
      (λ (h : IsAmong b (of_values xs)). wide (of_values ws) (of_value v ++ of_values ws) b (λ a j. among_right a (of_value v) (of_values ws) j) (values_lead ws xs q b h))
      (among_append b (of_value u) (of_values xs) i)

  pub option_leads : (m n : Option Address) → ValOption f (length ps) m n → (b : ℕ) → IsAmong b (of_next n) → Into (of_next m) b
  option_leads m n none b i = absurd i
  option_leads m n (some a c l e) b (inl g) = (subst (λ t. t < length ps) (sym g) l, straight (a ∷ []) (f b) (inl (ap f g ∙ e)))
  option_leads m n (some a c l e) b (inr h) = absurd h

  -- one list of fields and then another
  pub both_lead : (xs ys us vs : List ℕ) (b : ℕ) → ((c : ℕ) → IsAmong c us → Into xs c) → ((c : ℕ) → IsAmong c vs → Into ys c) → IsAmong b (us ++ vs) → Into (xs ++ ys) b
  both_lead xs ys us vs b h k i = ⊎_elim
      (λ (j : IsAmong b us). wide xs (xs ++ ys) b (λ a l. among_left a xs ys l) (h b j))
      (λ (j : IsAmong b vs). wide ys (xs ++ ys) b (λ a l. among_right a xs ys l) (k b j))
      (among_append b us vs i)

  datum_leads : (i x : def.Block) → IsDatum L f st (length ps) i x → (b : ℕ) → IsAmong b (of_block x) → Into (of_block i) b
  datum_leads i x (tuple us vs r) b m = values_lead us vs r b m
  datum_leads i x (applied n u v r) b m = value_leads u v r b m
  datum_leads i x (text bytes) b m = absurd m
  datum_leads i x (cell u v r) b m = value_leads u v r b m
  datum_leads i x (exn_name n) b m = absurd m
  datum_leads i x (packet y z u v r q) b m = both_lead (of_value y) (of_value u) (of_value z) (of_value v) b (value_leads y z r) (value_leads u v q) m
  datum_leads i x (pending y z u v k n r q o) b m =
      both_lead (of_value y ++ of_value u) (of_next k) (of_value z ++ of_value v) (of_next n) b
      (λ c j. both_lead (of_value y) (of_value u) (of_value z) (of_value v) c (value_leads y z r) (value_leads u v q) j) (option_leads k n o) m

  piece_leads : (i x : Piece) → IsPiece T L f st ps i x → (a : ℕ) → IsAmong a ((view_piece x).fields) → Into ((view_piece i).fields) a
  piece_leads i x (closure w S p xs b d env env' fr n c) a h =
      let fb = free_code b in
      let o = out_of_vars env' (without (free_code d) xs) a h in
      let y = without_in o.0 (free_code d) xs o.1 in
      let r = out_of (λ z. (t : ℕ) × In t (without fb xs) × (S.σ t ≡ Some (atom.Var z))) xs o.0 y.0
      (free_of T L w (inner S xs) b d c (Or (λ z. (t : ℕ) × In t (without fb xs) × (S.σ t ≡ Some (atom.Var z))) xs) (closed_inner (λ z. (t : ℕ) × In t (without fb xs) × (S.σ t ≡ Some (atom.Var z))) S xs fb (λ t z j e. (t, j, e))) o.0 y.1) in
      val_leads (env r.0) (env' o.0) a (of_vars env (without fb xs)) (n r.0 (atom.Var o.0) r.2).val o.2 (λ t g. in_of_vars env (without fb xs) r.0 t (in_among r.0 (without fb xs) r.1) g)
  piece_leads i x (plain b d r) a h = datum_leads b d r a h

  datum_like : (b d : def.Block) → IsDatum L f st (length ps) b d → IsLike (view d) (view b)
  datum_like b d (tuple us vs r) = record { datum = λ k. (refl, ap (λ n. 1 + n) (as_long us vs r)); points = λ q h. h }
    where
      as_long : (us vs : List Value) → Vals L f st (length ps) us vs → length us ≡ length vs
      as_long us vs none = refl
      as_long us vs (next u v ws xs r q) = ap suc (as_long ws xs q)
  datum_like b d (applied n u v r) = record { datum = λ k. (refl, refl); points = λ q h. h }
  datum_like b d (text bytes) = record { datum = λ k. (refl, refl); points = λ q h. h }
  datum_like b d (cell u v r) = record { datum = λ k. (refl, refl); points = λ q h. h }
  datum_like b d (exn_name n) = record { datum = λ k. (refl, refl); points = λ q h. h }
  datum_like b d (packet y z u v r q) = record { datum = λ k. (refl, refl); points = λ q h. h }
  datum_like b d (pending y z u v k n r q o) = record { datum = λ k. (refl, refl); points = λ q h. h }

  piece_like : (i x : Piece) → IsPiece T L f st ps i x → IsLike (view_piece x) (view_piece i)
  piece_like i x (closure w S p xs b d env env' fr n c) = record { datum = λ k. absurd (cc); points = λ q h. h }
  piece_like i x (plain b d r) = datum_like b d r

  datum_counted : (b d : def.Block) → IsDatum L f st (length ps) b d → IsCounted (view d)
  datum_counted b d (tuple us vs r) = inl (refl, refl)
  datum_counted b d (applied n u v r) = inl (refl, refl)
  datum_counted b d (text bytes) = inl (refl, refl)
  datum_counted b d (cell u v r) = inl (refl, refl)
  datum_counted b d (exn_name n) = inl (refl, refl)
  datum_counted b d (packet y z u v r q) = inl (refl, refl)
  datum_counted b d (pending y z u v k n r q o) = inl (refl, refl)

  piece_counted : (i x : Piece) → IsPiece T L f st ps i x → IsCounted (view_piece x)
  piece_counted i x (closure w S p xs b d env env' fr n c) = inr (p, inl refl, inl refl)
  piece_counted i x (plain b d r) = datum_counted b d r

  module _ (h : Heap T L f st ps) where
    all_counted : (i : ℕ) (x : Block) → StandsAt (map view_piece ps) i x → IsCounted x
    all_counted i x s =
        let p = stands_map view_piece ps i x s in
        let r = h.piece i p.0 p.1 in
        subst IsCounted p.2 (piece_counted r.item p.0 r.is)

    pub to_led : (fields : List ℕ) (i : ℕ) → Into fields i → Led (map view_piece ps) (map view_piece st) f fields i
    to_led fields i r = led i (λ x s. all_counted i x s) r.1

    pub heap_map : IsHeapMap (map view_piece ps) (map view_piece st) f
    heap_map = heap_of_items view_piece view_piece f ps st (record {
      item = λ a x s c.
          let r = h.piece a x s in (
            r.item,
            r.at,
            record {
              like = piece_like r.item x r.is;
              leads = λ i m. let k = piece_leads r.item x r.is i m in (k.0, to_led ((view_piece r.item).fields) i k);
            },
          );
      apart = λ a b x y s t c e. h.apart a b x y s t e;
      outside = λ a i x s u m. let r = h.piece a x s in absurd (u (piece_counted r.item x r.is));
    })

    pub reached : (rs rl : List ℕ) → ((i : ℕ) → IsAmong i rs → Into rl i) → Embeds (map view_piece ps) (Reach (map view_piece ps) rs) (map view_piece st) (Reach (map view_piece st) rl) f
    reached rs rl r = roots_reach (map view_piece ps) (map view_piece st) f rs rl heap_map (λ i m. to_led rl i (r i m))

block_no_record : (b : def.Block) → ((view b).kind ≢ ClassRecord) × ((view b).kind ≢ SpillRecord)
block_no_record (def.Closure i rules env) = (λ e. cc, λ e. cc)
block_no_record (def.Frame w outer) = (λ e. cc, λ e. cc)
block_no_record _ = (λ e. cc, λ e. cc)

pub no_record : HasNoRecord view_piece
no_record (Plain b) = block_no_record b
no_record (Fun p xs b env) = (λ e. cc, λ e. cc)
