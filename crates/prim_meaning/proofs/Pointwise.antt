-- Two views that are equal at each value mean the same: for a machine that keeps the values and addresses of another.
use Rattle.std.proofs.Common.{◌≡◌, ℕ, zero, suc, Bool, List, [], ◌∷◌, map, Option, Some, None, refl, ap, ◌∙◌}
use Rattle.std.specs.Prelude.{cond, ◌&&◌, slice_get}
use Rattle.smlc_base.specs.declared.primitive.Primitive.{Primitive}
use Rattle.smlc_base.specs.declared.match_tests.Named.{Named}
use Rattle.prim_meaning.specs.Data.{plain, truth}
use Rattle.prim_meaning.specs.Meaning.{Seen, Comes, Compares, compared, is_deep, decided, datum, Kind, OfData, Derefs, AssignsTo, Implodes, IsEqual, kind_of, plainly, deref, assign, pair_in, cons_in, letter_in, consed, on_pair, on_cons, letters_from, letters, imploded, equals, by_kind, meaning, turn, Scalar, Text, Tuple, Applied, Cell, Packet, Opaque}
use Rattle.prim_meaning.specs.Tests.{Which, same_names, is_scalar, has_number, has_bytes, Wanted, Num, Tag, Bytes, Exn, Never, Trial, Case, fields_in, along, is_packet_of, is_wanted, holds_at, all_hold, read_one, read, chosen, chosen_or, first_case}

module _ {V : Type 0} (see look : V → Seen V) (same : (v : V) → look v ≡ see v) where
  pub turn_same : (v w : V) → turn look v w ≡ turn see v w
  turn_same v w = ap (λ s. compared s (look w)) (same v) ∙ ap (compared (see v)) (same w)

  equals_same : (v w : V) (t : Bool) → equals look v w t ≡ equals see v w t
  equals_same v w t =
      ap (λ s. cond (is_deep s (look w)) (Compares v w t) (Comes (truth (decided (compared s (look w)) t)))) (same v)
      ∙ ap (λ s. cond (is_deep (see v) s) (Compares v w t) (Comes (truth (decided (compared (see v) s) t)))) (same w)

  data_same : (vs : List V) → map (λ v. datum (look v)) vs ≡ map (λ v. datum (see v)) vs
  data_same [] = refl
  data_same (v ∷ vs) = ap (λ s. datum s ∷ map (λ v. datum (look v)) vs) (same v) ∙ ap (λ ds. datum (see v) ∷ ds) (data_same vs)

  pair_same : (f g : V → Option (List ℕ)) → ((v : V) → g v ≡ f v) → (o : Option (V × V)) → on_pair look g o ≡ on_pair see f o
  pair_same f g h None = refl
  pair_same f g h (Some p) = ap (λ s. consed (letter_in s) (g p.1)) (same p.0) ∙ ap (consed (letter_in (see p.0))) (h p.1)

  cons_same : (f g : V → Option (List ℕ)) → ((v : V) → g v ≡ f v) → (o : Option V) → on_cons look g o ≡ on_cons see f o
  cons_same f g h None = refl
  cons_same f g h (Some c) = ap (λ s. on_pair look g (pair_in s)) (same c) ∙ pair_same f g h (pair_in (see c))

  from_same : (f g : V → Option (List ℕ)) → ((v : V) → g v ≡ f v) → (s : Seen V) → letters_from look g s ≡ letters_from see f s
  from_same f g h (Scalar z) = refl
  from_same f g h (Applied a n v) = cons_same f g h (cons_in (Applied a n v))
  from_same f g h (Text bs) = refl
  from_same f g h (Tuple vs) = refl
  from_same f g h (Cell a v) = refl
  from_same f g h (Packet x v) = refl
  from_same f g h Opaque = refl

  letters_same : (n : ℕ) (v : V) → letters look n v ≡ letters see n v
  letters_same zero v = refl
  letters_same (suc n) v = ap (letters_from look (letters look n)) (same v) ∙ from_same (letters see n) (letters look n) (λ w. letters_same n w) (see v)

  imploded_same : (o : Option (List ℕ)) → imploded look o ≡ imploded see o
  imploded_same None = refl
  imploded_same (Some bs) = refl

  kind_same : (most : ℕ) (input : List ℕ) (f : Primitive) (k : Kind) (vs : List V) → by_kind look most input f k vs ≡ by_kind see most input f k vs
  kind_same most input f OfData vs = ap (λ ds. plainly (plain input f ds)) (data_same vs)
  kind_same most input f Derefs [] = refl
  kind_same most input f Derefs (v ∷ []) = ap deref (same v)
  kind_same most input f Derefs (v ∷ w ∷ vs) = refl
  kind_same most input f AssignsTo [] = refl
  kind_same most input f AssignsTo (v ∷ []) = refl
  kind_same most input f AssignsTo (v ∷ w ∷ []) = ap (λ s. assign s w) (same v)
  kind_same most input f AssignsTo (v ∷ w ∷ u ∷ vs) = refl
  kind_same most input f Implodes [] = refl
  kind_same most input f Implodes (v ∷ []) = ap (imploded look) (letters_same (suc most) v) ∙ imploded_same (letters see (suc most) v)
  kind_same most input f Implodes (v ∷ w ∷ vs) = refl
  kind_same most input f (IsEqual t) [] = refl
  kind_same most input f (IsEqual t) (v ∷ []) = refl
  kind_same most input f (IsEqual t) (v ∷ w ∷ []) = ap Some (equals_same v w t)
  kind_same most input f (IsEqual t) (v ∷ w ∷ u ∷ vs) = refl

  pub meaning_same : (most : ℕ) (input : List ℕ) (f : Primitive) (vs : List V) → meaning look most input f vs ≡ meaning see most input f vs
  meaning_same most input f vs = kind_same most input f (kind_of f) vs

  -- ---- Tests

  pub along_same : (steps : List ℕ) (o : Option V) → along look steps o ≡ along see steps o
  along_same [] o = refl
  along_same (i ∷ steps) None = along_same steps None
  along_same (i ∷ steps) (Some v) = ap (λ s. along look steps (slice_get (fields_in s) i)) (same v) ∙ along_same steps (slice_get (fields_in (see v)) i)

  one_same : (x : ℕ) (o : Option V) (env : List (ℕ × V)) → read_one look x o env ≡ read_one see x o env
  one_same x None env = refl
  one_same x (Some w) env = refl

  read_same : (v : V) (ns : List Named) → read look v ns ≡ read see v ns
  read_same v [] = refl
  read_same v (n ∷ ns) =
      ap (λ o. read_one look n.name.0 o (read look v ns)) (along_same n.path (Some v)) ∙ one_same n.name.0 (along see n.path (Some v)) (read look v ns) ∙ ap (read_one see n.name.0 (along see n.path (Some v))) (read_same v ns)

  module _ (which : V → Option Which) where
    pub wanted_same : (want : Wanted V) (w : V) → is_wanted look which want w ≡ is_wanted see which want w
    wanted_same (Num z) w = ap (is_scalar z) (same w)
    wanted_same (Tag n) w = ap (has_number n) (same w)
    wanted_same (Bytes bs) w = ap (has_bytes bs) (same w)
    wanted_same Never w = refl
    wanted_same (Exn x applied) w = ap (λ s. cond applied (is_packet_of look which (which x) s) (same_names (which x) (which w))) (same w) ∙ ap (λ b. cond applied b (same_names (which x) (which w))) (packet_same (which x) (see w))
      where
        packet_same : (y : Option Which) (s : Seen V) → is_packet_of look which y s ≡ is_packet_of see which y s
        packet_same y (Packet z v) = refl
        packet_same y (Scalar z) = refl
        packet_same y (Text bs) = refl
        packet_same y (Tuple vs) = refl
        packet_same y (Applied a n v) = refl
        packet_same y (Cell a v) = refl
        packet_same y Opaque = refl

    holds_same : (want : Wanted V) (o : Option V) → holds_at look which want o ≡ holds_at see which want o
    holds_same want None = refl
    holds_same want (Some w) = wanted_same want w

    tests_same : (v : V) (ts : List (Trial V)) → all_hold look which v ts ≡ all_hold see which v ts
    tests_same v [] = refl
    tests_same v (t ∷ ts) =
        ap (λ o. holds_at look which t.want o && all_hold look which v ts) (along_same t.path (Some v))
        ∙ ap (λ b. b && all_hold look which v ts) (holds_same t.want (along see t.path (Some v)))
        ∙ ap (λ b. holds_at see which t.want (along see t.path (Some v)) && b) (tests_same v ts)

    pub chosen_same : (ts : List (Trial V)) (ns : List Named) (v : V) → chosen look which ts ns v ≡ chosen see which ts ns v
    chosen_same ts ns v = ap (λ b. cond b (Some (read look v ns)) None) (tests_same v ts) ∙ ap (λ e. cond (all_hold see which v ts) (Some e) None) (read_same v ns)

    pub first_case_same : (cases : List (Case V)) (v : V) → first_case look which cases v ≡ first_case see which cases v
    first_case_same [] v = refl
    first_case_same (c ∷ cases) v =
        ap (λ o. chosen_or o c.body (first_case look which cases v)) (chosen_same c.tests c.names v) ∙ ap (chosen_or (chosen see which c.tests c.names v) c.body) (first_case_same cases v)
