-- A map between the memories of two machines, carried along as both make blocks.
use Rattle.std.proofs.Common.{map, slice_get, ◌≡◌, ◌≢◌, ℕ, zero, suc, ◌<◌, ◌≤◌, List, [], ◌∷◌, ◌++◌, length, Some, Bool, true, false, cond, ◌==◌, ◌⊎◌, inl, inr, refl, sym, ap, ◌∙◌, subst, subst₂, arith, ⊎_elim, length-append, eqb-true, eq-eqb, lt_irrefl}
use Rattle.std.proofs.lemmas.Bool.{cases_lt}
use Rattle.std.proofs.lemmas.Option.{slice_get_within}
use Rattle.smlc_base.specs.declared.point.Point.{Point}
use Rattle.simulation.specs.Blocks.{Kind, Closure, Frame, Datum, ClassRecord, SpillRecord, Inside, Block, IsAmong, points_of, StandsAt, Reach, root, field, AreOfOneSort, IsCounted, IsLike, Embeds}
use Rattle.simulation.proofs.Lists.{get_append, get_last, get_below}
use Rattle.simulation.proofs.Blocks.{reach_least, like_same, sort_same}

-- it stands outside the maps: a class record, a spill record, or no block at all
abbrev pub IsUncounted : Block → Type 0
IsUncounted x = IsCounted x → ⊥

kind_cases : (k : Kind) (w : ℕ) (fields : List ℕ) → let x : Block = record { kind = k; words = w; fields = fields } in IsCounted x ⊎ IsUncounted x
kind_cases (Closure p) w fields = inl (inr (p, inl refl, inl refl))
kind_cases (Frame []) w fields = inr (λ h. ⊎_elim (λ (e : (Frame [] ≡ Datum) × (Frame [] ≡ Datum)). let f = e.0 in cc) (λ (e : (p : Point) × IsAmong p [] × IsAmong p []). e.1) h)
kind_cases (Frame (p ∷ ps)) w fields = inl (inr (p, inl refl, inl refl))
kind_cases Datum w fields = inl (inl (refl, refl))
kind_cases ClassRecord w fields = inr (λ h. ⊎_elim (λ (e : (ClassRecord ≡ Datum) × (ClassRecord ≡ Datum)). let f = e.0 in cc) (λ (e : (p : Point) × IsAmong p [] × IsAmong p []). e.1) h)
kind_cases SpillRecord w fields = inr (λ h. ⊎_elim (λ (e : (SpillRecord ≡ Datum) × (SpillRecord ≡ Datum)). let f = e.0 in cc) (λ (e : (p : Point) × IsAmong p [] × IsAmong p []). e.1) h)
kind_cases Inside w fields = inr (λ h. ⊎_elim (λ (e : (Inside ≡ Datum) × (Inside ≡ Datum)). let f = e.0 in cc) (λ (e : (p : Point) × IsAmong p [] × IsAmong p []). e.1) h)

pub counted_cases : (x : Block) → IsCounted x ⊎ IsUncounted x
counted_cases x = kind_cases x.kind x.words x.fields

abbrev pub All : ℕ → Type 0
All a = Unit {0}

pub eq_cases : (a b : ℕ) → (a ≡ b) ⊎ (a ≢ b)
eq_cases a b =
    ⊎_elim (λ (h : a < b). inr (λ e. lt_irrefl b (subst (λ t. t < b) e h))) (λ (h : b ≤ a).
    ⊎_elim (λ (k : b < a). inr (λ e. lt_irrefl b (subst (λ t. b < t) e k))) (λ (k : a ≤ b). inl (omega arith)) (cases_lt b a)) (cases_lt a b)

-- every block stands where it stood, as it was
abbrev pub Extends : List Block → List Block → Type 0
Extends old new = (a : ℕ) (x : Block) → StandsAt old a x → StandsAt new a x

-- from a to b through what isn't counted alone
pub data Through (memory : List Block) : ℕ → ℕ → Type 0 where
  here : (a : ℕ) → Through memory a a
  on : (a r b : ℕ) (x : Block) → StandsAt memory a x → IsUncounted x → IsAmong r x.fields → Through memory r b → Through memory a b

-- such a way is none, or its first step
pub through_cases : (memory : List Block) (a b : ℕ) → Through memory a b → (a ≡ b) ⊎ ((x : Block) × (r : ℕ) × StandsAt memory a x × IsUncounted x × IsAmong r x.fields × Through memory r b)
through_cases memory a b (here c) = inl refl
through_cases memory a b (on c r d x s k mem t) = inr (x, r, s, k, mem, t)

-- From these fields to b, through closures and frames alone. No field of these ever changes.
pub data LeadsFrom (memory : List Block) : List ℕ → ℕ → Type 0 where
  straight : (fields : List ℕ) (b : ℕ) → IsAmong b fields → LeadsFrom memory fields b
  by_code : (fields : List ℕ) (c b : ℕ) (x : Block) → IsAmong c fields → StandsAt memory c x → x.kind ≢ Datum → LeadsFrom memory x.fields b → LeadsFrom memory fields b

-- from a to b, in no step or along the fields of a
abbrev pub Leads : List Block → ℕ → ℕ → Type 0
Leads memory a b = (a ≡ b) ⊎ ((x : Block) × StandsAt memory a x × LeadsFrom memory x.fields b)

pub from_reach : (m : List Block) (rs fields : List ℕ) (b : ℕ) → LeadsFrom m fields b → ((a : ℕ) → IsAmong a fields → Reach m rs a) → Reach m rs b
from_reach m rs fs b (straight fs' b' i) h = h b' i
from_reach m rs fs b (by_code fs' c b' x i s k l) h =
    from_reach m rs x.fields b' l (λ a j. field c a x (h c i) s j)

pub leads_reach : (m : List Block) (rs : List ℕ) (a b : ℕ) → Leads m a b → Reach m rs a → Reach m rs b
leads_reach m rs a b (inl e) r = subst (Reach m rs) e r
leads_reach m rs a b (inr h) r = from_reach m rs h.0.fields b h.2 (λ c j. field a c h.0 r h.1 j)

-- what is led to stays so while closures and frames stay
pub from_kept : (m m' : List Block) (fields : List ℕ) (b : ℕ) → ((a : ℕ) (x : Block) → StandsAt m a x → x.kind ≢ Datum → StandsAt m' a x) → LeadsFrom m fields b → LeadsFrom m' fields b
from_kept m m' fs b h (straight fs' b' i) = straight fs' b' i
from_kept m m' fs b h (by_code fs' c b' x i s k l) = by_code fs' c b' x i (h c x s k) k (from_kept m m' x.fields b' h l)

pub leads_extends : (m m' : List Block) (a b : ℕ) → Extends m m' → Leads m a b → Leads m' a b
leads_extends m m' a b h (inl e) = inl e
leads_extends m m' a b h (inr l) = inr (l.0, h a l.0 l.1, from_kept m m' l.0.fields b (λ c x s k. h c x s) l.2)

-- f carries one memory into another: its blocks one to one, and its fields along fields
pub record IsHeapMap (small large : List Block) (f : ℕ → ℕ) : Type 0 where
  pub embeds : Embeds small All large All f
  pub within : (a i : ℕ) (x : Block) → StandsAt small a x → IsAmong i x.fields → i < length small
  pub leads : (a i b : ℕ) (x y : Block) → StandsAt small a x → IsCounted x → IsAmong i x.fields → Through small i b → StandsAt small b y → IsCounted y → Leads large (f a) (f b)

-- what the roots of the smaller name leads along the roots of the larger
abbrev pub RootsLead : List Block → List ℕ → List Block → List ℕ → (ℕ → ℕ) → Type 0
RootsLead small rs large rl f =
    (i b : ℕ) (y : Block) → IsAmong i rs → Through small i b → StandsAt small b y → IsCounted y → LeadsFrom large rl (f b)

-- What a machine reaches is carried to what the other reaches, if that is so of its roots.
pub heap_reaches : (small large : List Block) (f : ℕ → ℕ) (rs rl : List ℕ) → IsHeapMap small large f → RootsLead small rs large rl f → Embeds small (Reach small rs) large (Reach large rl) f
heap_reaches small large f rs rl h start =
    let Q : ℕ → Type 0 = λ a. (b : ℕ) (y : Block) → Through small a b → StandsAt small b y → IsCounted y → Reach large rl (f b) in
    let all = reach_least small rs Q (λ a i b y t s c. from_reach large rl rl (f b) (start a b y i t s c) (λ r j. root r j)) (λ a i x q s mem b y t u c.
    ⊎_elim (λ (k : IsCounted x). leads_reach large rl (f a) (f b) (h.leads a i b x y s k mem t u c) (q a x (here a) s k))
    (λ (k : IsUncounted x). q b y (on a i b x s k mem t) u c) (counted_cases x)) in
    record {
      image = λ a x r s c.
          let i = h.embeds.image a x tt s c in
          (i.0, i.1, all a r a x (here a) s c, i.3);
      apart = λ a b x y p q s t c e. h.embeds.apart a b x y tt tt s t c e;
    }

-- ---- Making blocks

-- a block of the old memory stands there with all that it had
pub stands_old : (old new : List Block) → Extends old new → (a : ℕ) (x : Block) → a < length old → StandsAt new a x → StandsAt old a x
stands_old old new e a x l s =
    let i = get_below old a l in
    let f : Some i.0 ≡ Some x = sym (e a i.0 i.1) ∙ s in
    i.1 ∙ f

sort_sym : (x y : Block) → AreOfOneSort x y → AreOfOneSort y x
sort_sym x y (inl h) = inl (h.1, h.0)
sort_sym x y (inr h) = inr (h.0, h.2, h.1)

sort_first : (x y : Block) → AreOfOneSort x y → IsCounted x
sort_first x y (inl h) = inl (h.0, h.0)
sort_first x y (inr h) = inr (h.0, h.1, h.1)

-- what both have made in between, and what is so of the blocks that the smaller has made
pub record IsMore (small small' large large' : List Block) (f f' : ℕ → ℕ) : Type 0 where
  pub small_extends : Extends small small'
  pub large_extends : Extends large large'
  pub agrees : (a : ℕ) → a < length small → f' a ≡ f a
  pub longer : length small ≤ length small'
  pub image : (a : ℕ) (x : Block) → length small ≤ a → StandsAt small' a x → IsCounted x → (y : Block) × StandsAt large' (f' a) y × IsLike x y
  pub apart : (a b : ℕ) (x y : Block) → length small ≤ a → StandsAt small' a x → StandsAt small' b y → AreOfOneSort x y → f' a ≡ f' b → a ≡ b
  pub within : (a i : ℕ) (x : Block) → length small ≤ a → StandsAt small' a x → IsAmong i x.fields → i < length small'
  pub leads : (a i b : ℕ) (x y : Block) → length small ≤ a → StandsAt small' a x → IsCounted x → IsAmong i x.fields → Through small' i b → StandsAt small' b y → IsCounted y → Leads large' (f' a) (f' b)

-- from an old address only old ones are come to through records
pub through_old : (old new : List Block) → Extends old new → ((a i : ℕ) (x : Block) → StandsAt old a x → IsAmong i x.fields → i < length old) → (i b : ℕ) → Through new i b → i < length old → Through old i b × (b < length old)
through_old old new e w i b (here c) l = (here c, l)
through_old old new e w i b (on c r d x s k mem t) l =
    let s' = stands_old old new e c x l s in
    let u = through_old old new e w r d t (w c r x s' mem) in
    (on c r d x s' k mem u.0, u.1)

module _ (small small' large large' : List Block) (f f' : ℕ → ℕ) (h : IsHeapMap small large f) (m : IsMore small small' large large' f f') where
  old : (a : ℕ) (x : Block) → a < length small → StandsAt small' a x → StandsAt small a x
  old = stands_old small small' m.small_extends

  more_image : (a : ℕ) (x : Block) → StandsAt small' a x → IsCounted x → (y : Block) × StandsAt large' (f' a) y × Unit {0} × IsLike x y
  more_image a x s c =
      ⊎_elim
      (λ (l : a < length small).
      let i = h.embeds.image a x tt (old a x l s) c in
      (i.0, subst (λ t. StandsAt large' t i.0) (sym (m.agrees a l)) (m.large_extends (f a) i.0 i.1), tt, i.3))
      (λ (l : length small ≤ a). let i = m.image a x l s c in (i.0, i.1, tt, i.2))
      (cases_lt a (length small))

  more_apart : (a b : ℕ) (x y : Block) → StandsAt small' a x → StandsAt small' b y → AreOfOneSort x y → f' a ≡ f' b → a ≡ b
  more_apart a b x y s t c e =
      ⊎_elim
      (λ (l : a < length small). ⊎_elim
      (λ (k : b < length small). h.embeds.apart a b x y tt tt (old a x l s) (old b y k t) c (sym (m.agrees a l) ∙ e ∙ m.agrees b k))
      (λ (k : length small ≤ b). sym (m.apart b a y x k t s (sort_sym x y c) (sym e)))
      (cases_lt b (length small)))
      (λ (l : length small ≤ a). m.apart a b x y l s t c e)
      (cases_lt a (length small))

  more_leads : (a i b : ℕ) (x y : Block) → StandsAt small' a x → IsCounted x → IsAmong i x.fields → Through small' i b → StandsAt small' b y → IsCounted y → Leads large' (f' a) (f' b)
  more_leads a i b x y s k mem t u c =
      ⊎_elim
      (λ (l : a < length small).
      let s' = old a x l s in
      let t' = through_old small small' m.small_extends h.within i b t (h.within a i x s' mem) in
      let p = leads_extends large large' (f a) (f b) m.large_extends (h.leads a i b x y s' k mem t'.0 (old b y t'.1 u) c) in
      subst₂ (Leads large') (sym (m.agrees a l)) (sym (m.agrees b t'.1)) p)
      (λ (l : length small ≤ a). m.leads a i b x y l s k mem t u c)
      (cases_lt a (length small))

  -- The map goes on as both make blocks.
  pub heap_more : IsHeapMap small' large' f'
  heap_more = record {
    embeds = record { image = λ a x _ s c. more_image a x s c; apart = λ a b x y _ _ s t c e. more_apart a b x y s t c e };
    within = λ a i x s mem.
        ⊎_elim (λ (l : a < length small). let w = h.within a i x (old a x l s) mem in let g = m.longer in omega arith)
        (λ (l : length small ≤ a). m.within a i x l s mem) (cases_lt a (length small));
    leads = more_leads;
  }

pub extends_refl : (m : List Block) → Extends m m
extends_refl m a x s = s

pub extends_append : (m n : List Block) → Extends m (m ++ n)
extends_append m n a x s = get_append m n a x s

pub stands_past : (m : List Block) (x y : Block) (a : ℕ) → length m ≤ a → StandsAt (m ++ x ∷ []) a y → (a ≡ length m) × (y ≡ x)
stands_past m x y a l s =
    let w : a < length (m ++ x ∷ []) = slice_get_within (m ++ x ∷ []) a y s in
    let e : a ≡ length m = omega (arith, length-append m (x ∷ [])) in
    let f : Some y ≡ Some x = sym (subst (λ t. StandsAt (m ++ x ∷ []) t y) e s) ∙ get_last m x in
    (e, cc)

-- only the larger makes blocks
pub heap_large : (small large large' : List Block) (f : ℕ → ℕ) → Extends large large' → IsHeapMap small large f → IsHeapMap small large' f
heap_large small large large' f e h = record {
  embeds = record {
    image = λ a x u s c. let i = h.embeds.image a x u s c in (i.0, e (f a) i.0 i.1, i.2, i.3);
    apart = h.embeds.apart;
  };
  within = h.within;
  leads = λ a i b x y s k mem t u c. leads_extends large large' (f a) (f b) e (h.leads a i b x y s k mem t u c);
}

-- the smaller makes a block that stands outside the map
pub heap_record : (small large : List Block) (f : ℕ → ℕ) (x : Block) → IsUncounted x → ((i : ℕ) → IsAmong i x.fields → i < suc (length small)) → IsHeapMap small large f → IsHeapMap (small ++ x ∷ []) large f
heap_record small large f x r w h =
    heap_more small (small ++ x ∷ []) large large f f h (record {
      small_extends = extends_append small (x ∷ []);
      large_extends = extends_refl large;
      agrees = λ a l. refl;
      longer = omega (arith, length-append small (x ∷ []));
      image = λ a y l s c. absurd (is_one a y l s c);
      apart = λ a b y z l s t c e. absurd (is_one a y l s (sort_first y z c));
      within = λ a i y l s mem.
          let v = w i (subst (λ t. IsAmong i t.fields) (stands_past small x y a l s).1 mem) in
          omega (arith, length-append small (x ∷ []));
      leads = λ a i b y z l s k mem t u c. absurd (is_one a y l s k);
    })
  where
    is_one : (a : ℕ) (y : Block) → length small ≤ a → StandsAt (small ++ x ∷ []) a y → IsUncounted y
    is_one a y l s = subst IsUncounted (sym (stands_past small x y a l s).1) r

-- f, and c for the number a
abbrev pub with_image : {X : Type 0} → (ℕ → X) → ℕ → X → ℕ → X
with_image f a c b = cond (b == a) c (f b)

pub with_same : {X : Type 0} (f : ℕ → X) (a : ℕ) (c : X) → with_image f a c a ≡ c
with_same f a c = ap (λ t. cond t c (f a)) (eq-eqb a a refl)

cond_off : {X : Type 0} (t : Bool) (a b : ℕ) (c d : X) → (t ≡ true → b ≡ a) → b ≢ a → cond t c d ≡ d
cond_off true a b c d h n = absurd (n (h refl))
cond_off false a b c d h n = refl

pub with_other : {X : Type 0} (f : ℕ → X) (a : ℕ) (c : X) (b : ℕ) → b ≢ a → with_image f a c b ≡ f b
with_other f a c b n = cond_off (b == a) a b c (f b) (eqb-true b a) n

-- The smaller makes one block x, for which the larger's block at c stands.
pub heap_block : (small large : List Block) (f : ℕ → ℕ) (x y : Block) (c : ℕ) → StandsAt large c y → IsLike x y → IsCounted x → ((a : ℕ) (z : Block) → StandsAt small a z → AreOfOneSort x z → f a ≢ c) → ((i : ℕ) → IsAmong i x.fields → i < suc (length small)) → ((i b : ℕ) (z : Block) → IsAmong i x.fields → Through (small ++ x ∷ []) i b → StandsAt (small ++ x ∷ []) b z → IsCounted z → Leads large c (with_image f (length small) c b)) → IsHeapMap small large f → IsHeapMap (small ++ x ∷ []) large (with_image f (length small) c)
heap_block small large f x y c st like counted fresh w on_fields h =
    let n = length small in
    let g = with_image f n c in
    heap_more small (small ++ x ∷ []) large large f g h (record {
      small_extends = extends_append small (x ∷ []);
      large_extends = extends_refl large;
      agrees = λ a l. with_other f n c a (λ e. lt_irrefl n (subst (λ t. t < n) e l));
      longer = omega (arith, length-append small (x ∷ []));
      image = λ a z l s k.
          let p = stands_past small x z a l s in
          let v = subst (λ t. StandsAt large (g t) y) (sym p.0) (subst (λ t. StandsAt large t y) (sym (with_same f n c)) st) in
          (y, v, subst (λ t. IsLike t y) (sym p.1) like);
      apart = λ a b z z' l s t k e.
          let p = stands_past small x z a l s in
          let e' : c ≡ g b = sym (with_same f n c) ∙ ap g (sym p.0) ∙ e in
          ⊎_elim
          (λ (v : b < n). absurd (fresh b z' (stands_old small (small ++ x ∷ []) (extends_append small (x ∷ [])) b z' v t) (subst (λ t. AreOfOneSort t z') p.1 k) (sym (e' ∙ with_other f n c b (λ q. lt_irrefl n (subst (λ t. t < n) q v))))))
          (λ (v : n ≤ b). p.0 ∙ sym (stands_past small x z' b v t).0)
          (cases_lt b n);
      within = λ a i z l s mem.
          let v = w i (subst (λ t. IsAmong i t.fields) (stands_past small x z a l s).1 mem) in
          omega (arith, length-append small (x ∷ []));
      leads = λ a i b z z' l s k mem t u q.
          let p = stands_past small x z a l s in
          let v = on_fields i b z' (subst (λ t. IsAmong i t.fields) p.1 mem) t u q in
          subst (λ t. Leads large t (g b)) (sym (ap g p.0 ∙ with_same f n c)) v;
    })

-- an address of the larger past its end is the image of none
pub fresh_past : (small large : List Block) (f : ℕ → ℕ) (c : ℕ) → IsHeapMap small large f → length large ≤ c → (a : ℕ) (z : Block) → StandsAt small a z → IsCounted z → f a ≢ c
fresh_past small large f c h l a z s k e =
    let i = h.embeds.image a z tt s k in
    let w : f a < length large = slice_get_within large (f a) i.0 i.1 in
    absurd (omega arith)

-- ---- Changing a block

-- The datum at r gets other fields, and nothing else changes.
pub record IsSet (old new : List Block) (r : ℕ) (x y : Block) : Type 0 where
  pub was : StandsAt old r x
  pub is : StandsAt new r y
  pub datum : x.kind ≡ Datum
  pub kind : y.kind ≡ Datum
  pub words : y.words ≡ x.words
  pub others : (a : ℕ) (z : Block) → a ≢ r → StandsAt old a z → StandsAt new a z
  pub only : (a : ℕ) (z : Block) → a ≢ r → StandsAt new a z → StandsAt old a z
  pub as_long : length new ≡ length old

set_kept : (old new : List Block) (r : ℕ) (x y : Block) → IsSet old new r x y → (a : ℕ) (z : Block) → StandsAt old a z → z.kind ≢ Datum → StandsAt new a z
set_kept old new r x y h a z s k =
    h.others a z (λ e.
    let f : Some x ≡ Some z = sym h.was ∙ subst (λ t. StandsAt old t z) e s in
    let g : x ≡ z = cc in
    k (subst (λ t. t.kind ≡ Datum) g h.datum)) s

module _ (small small' large large' : List Block) (f : ℕ → ℕ) (r : ℕ) (x y x' y' : Block) (h : IsHeapMap small large f) (p : IsSet small small' r x y) (q : IsSet large large' (f r) x' y') where
  -- a block of the new memory is one of the old at the same address, of the same kind and length
  before : (a : ℕ) (z : Block) → StandsAt small' a z → (o : Block) × StandsAt small a o × (o.kind ≡ z.kind) × (o.words ≡ z.words) × ((a ≢ r) → o ≡ z)
  before a z s =
      ⊎_elim
      (λ (e : a ≡ r).
      let g : Some y ≡ Some z = sym p.is ∙ subst (λ t. StandsAt small' t z) e s in
      let i : y ≡ z = cc in
      (x, subst (λ t. StandsAt small t x) (sym e) p.was, p.datum ∙ sym p.kind ∙ ap (λ t. t.kind) i, sym p.words ∙ ap (λ t. t.words) i, λ n. absurd (n e)))
      (λ (n : a ≢ r). (z, p.only a z n s, refl, refl, λ _. refl))
      (eq_cases a r)

  set_through : (i b : ℕ) → Through small' i b → Through small i b
  set_through i b (here c) = here c
  set_through i b (on c d e z s k mem t) =
      let n : c ≢ r = λ g.
      let u : Some y ≡ Some z = sym p.is ∙ subst (λ t. StandsAt small' t z) g s in
      let v : y ≡ z = cc in
      let d : z.kind ≡ Datum = ap (λ t. t.kind) (sym v) ∙ p.kind in k (inl (d, d)) in
      on c d e z (p.only c z n s) k mem (set_through d e t)

  set_stands : (a : ℕ) (z : Block) → StandsAt large (f a) z → (f a ≢ f r) → StandsAt large' (f a) z
  set_stands a z s n = q.others (f a) z n s

  -- The map stays as both change a datum, if the new fields of the one lead along the new fields of the other.
  pub heap_set : ((i b : ℕ) (z : Block) → IsAmong i y.fields → Through small' i b → StandsAt small' b z → IsCounted z → Leads large' (f r) (f b)) → ((i : ℕ) → IsAmong i y.fields → i < length small) → IsHeapMap small' large' f
  heap_set on_fields w = record {
    embeds = record {
      image = λ a z _ s c.
          let o = before a z s in
          let i = h.embeds.image a o.0 tt o.1 (sort_same z o.0 z o.0 o.2 o.2 c) in
          ⊎_elim
          (λ (e : f a ≡ f r).
          let g : Some i.0 ≡ Some x' = sym i.1 ∙ subst (λ t. StandsAt large t x') (sym e) q.was in
          let u : i.0 ≡ x' = cc in
          (y', subst (λ t. StandsAt large' t y') (sym e) q.is, tt, like_new z o.0 i.0 o.2 o.3 u i.3))
          (λ (n : f a ≢ f r). (i.0, set_stands a i.0 i.1 n, tt, like_same z o.0 i.0 o.2 o.3 i.3))
          (eq_cases (f a) (f r));
      apart = λ a b z z' _ _ s t c e.
          let o = before a z s in
          let o' = before b z' t in
          h.embeds.apart a b o.0 o'.0 tt tt o.1 o'.1 (sort_same z o.0 z' o'.0 o.2 o'.2 c) e;
    };
    within = λ a i z s mem.
        ⊎_elim
        (λ (e : a ≡ r).
        let g : Some y ≡ Some z = sym p.is ∙ subst (λ t. StandsAt small' t z) e s in
        let u : y ≡ z = cc in
        let v = w i (subst (λ t. IsAmong i t.fields) (sym u) mem) in
        let l = p.as_long in omega arith)
        (λ (n : a ≢ r). let v = h.within a i z (p.only a z n s) mem in let l = p.as_long in omega arith)
        (eq_cases a r);
    leads = λ a i b z z' s k mem t u c.
        ⊎_elim
        (λ (e : a ≡ r).
        let g : Some y ≡ Some z = sym p.is ∙ subst (λ t. StandsAt small' t z) e s in
        let v : y ≡ z = cc in
        subst (λ t. Leads large' (f t) (f b)) (sym e) (on_fields i b z' (subst (λ t. IsAmong i t.fields) (sym v) mem) t u c))
        (λ (n : a ≢ r).
        let o = before b z' u in
        let l = h.leads a i b z o.0 (p.only a z n s) k mem (set_through i b t) o.1 (sort_same z' o.0 z' o.0 o.2 o.2 c) in
        leads_set a b z n s k l)
        (eq_cases a r);
  }
    where
      like_new : (z o i : Block) → o.kind ≡ z.kind → o.words ≡ z.words → i ≡ x' → IsLike o i → IsLike z y'
      like_new z o i k v u l = record {
        datum = λ e. (q.kind, q.words ∙ ap (λ t. t.words) (sym u) ∙ (l.datum (k ∙ e)).1 ∙ v);
        points = λ t m.
            let m' = l.points t (subst (λ s. IsAmong t (points_of s)) (sym k) m) in
            absurd (subst (λ s. IsAmong t (points_of s)) (ap (λ s. s.kind) u ∙ q.datum) m');
      }

      leads_set : (a b : ℕ) (z : Block) → a ≢ r → StandsAt small' a z → IsCounted z → Leads large (f a) (f b) → Leads large' (f a) (f b)
      leads_set a b z n s k (inl e) = inl e
      leads_set a b z n s k (inr l) =
          let off : f a ≢ f r = λ e.
          let i = h.embeds.image a z tt (p.only a z n s) k in
          let g : Some i.0 ≡ Some x' = sym i.1 ∙ subst (λ t. StandsAt large t x') (sym e) q.was in
          let u : i.0 ≡ x' = cc in
          let d : i.0.kind ≡ Datum = ap (λ t. t.kind) u ∙ q.datum in
          n (h.embeds.apart a r z x tt tt (p.only a z n s) p.was (one_sort z i.0 i.3 d k) e) in
          inr (l.0, set_stands a l.0 l.1 off, from_kept large large' l.0.fields (f b) (set_kept large large' (f r) x' y' q) l.2)
        where
          one_sort : (z i : Block) → IsLike z i → i.kind ≡ Datum → IsCounted z → AreOfOneSort z x
          one_sort z i v d (inl e) = inl (e.0, p.datum)
          one_sort z i v d (inr e) = absurd (subst (λ t. IsAmong e.0 (points_of t)) d (v.points e.0 e.1))

-- ---- Roots

-- more fields lead no less far
pub from_more : (m : List Block) (few more : List ℕ) (b : ℕ) → ((a : ℕ) → IsAmong a few → IsAmong a more) → LeadsFrom m few b → LeadsFrom m more b
from_more m few more b h (straight fs b' i) = straight more b' (h b' i)
from_more m few more b h (by_code fs c b' x i s k l) = by_code more c b' x (h c i) s k l

-- a block of code that names these fields leads as far as they do
pub from_code : (m : List Block) (c b : ℕ) (x : Block) (fields : List ℕ) → IsAmong c fields → StandsAt m c x → x.kind ≢ Datum → LeadsFrom m x.fields b → LeadsFrom m fields b
from_code m c b x fields i s k l = by_code fields c b x i s k l

-- the roots stay in order as both make blocks
pub roots_more : (small small' large large' : List Block) (rs rl : List ℕ) (f f' : ℕ → ℕ) → IsHeapMap small large f → IsMore small small' large large' f f' → ((i : ℕ) → IsAmong i rs → i < length small) → RootsLead small rs large rl f → RootsLead small' rs large' rl f'
roots_more small small' large large' rs rl f f' h m w lead i b y j t s c =
    let o = through_old small small' m.small_extends h.within i b t (w i j) in
    let l = lead i b y j o.0 (stands_old small small' m.small_extends b y o.1 s) c in
    subst (LeadsFrom large' rl) (sym (m.agrees b o.1)) (from_kept large large' rl (f b) (λ a x u _. m.large_extends a x u) l)

-- one more root, that stands for one of the larger's roots
pub roots_cons : (small large : List Block) (rs rl : List ℕ) (f : ℕ → ℕ) (i c : ℕ) → ((b : ℕ) (y : Block) → Through small i b → StandsAt small b y → IsCounted y → LeadsFrom large (c ∷ rl) (f b)) → RootsLead small rs large rl f → RootsLead small (i ∷ rs) large (c ∷ rl) f
roots_cons small large rs rl f i c one lead j b y (inl e) t s k = one b y (subst (λ x. Through small x b) e t) s k
roots_cons small large rs rl f i c one lead j b y (inr h) t s k =
    from_more large rl (c ∷ rl) (f b) (λ a q. inr q) (lead j b y h t s k)

-- fewer roots on the smaller's side
pub roots_fewer : (small large : List Block) (rs rs' rl : List ℕ) (f : ℕ → ℕ) → ((a : ℕ) → IsAmong a rs' → IsAmong a rs) → RootsLead small rs large rl f → RootsLead small rs' large rl f
roots_fewer small large rs rs' rl f h lead i b y j t s c = lead i b y (h i j) t s c

-- more roots on the larger's
pub roots_larger : (small large : List Block) (rs rl rl' : List ℕ) (f : ℕ → ℕ) → ((a : ℕ) → IsAmong a rl → IsAmong a rl') → RootsLead small rs large rl f → RootsLead small rs large rl' f
roots_larger small large rs rl rl' f h lead i b y j t s c = from_more large rl rl' (f b) h (lead i b y j t s c)

-- ---- Blocks of the larger that wait for theirs

-- no block of the smaller goes to c
abbrev pub IsUnused : List Block → (ℕ → ℕ) → ℕ → Type 0
IsUnused small f c = (a : ℕ) (z : Block) → StandsAt small a z → IsCounted z → f a ≢ c

-- what the larger has just made is unused
pub unused_past : (small large : List Block) (f : ℕ → ℕ) (c : ℕ) → IsHeapMap small large f → length large ≤ c → IsUnused small f c
unused_past small large f c h l = fresh_past small large f c h l

-- it stays so while the smaller makes blocks for others
pub unused_block : (small : List Block) (f : ℕ → ℕ) (x : Block) (c d : ℕ) → c ≢ d → IsUnused small f d → IsUnused (small ++ x ∷ []) (with_image f (length small) c) d
unused_block small f x c d n h a z s k e =
    ⊎_elim
    (λ (l : a < length small).
    h a z (stands_old small (small ++ x ∷ []) (extends_append small (x ∷ [])) a z l s) k (sym (with_other f (length small) c a (λ q. lt_irrefl (length small) (subst (λ t. t < length small) q l))) ∙ e))
    (λ (l : length small ≤ a). n (sym (with_same f (length small) c) ∙ ap (with_image f (length small) c) (sym (stands_past small x z a l s).0) ∙ e))
    (cases_lt a (length small))

-- and records
pub unused_record : (small : List Block) (f : ℕ → ℕ) (x : Block) (d : ℕ) → (IsCounted x → ⊥) → IsUnused small f d → IsUnused (small ++ x ∷ []) f d
unused_record small f x d r h a z s k e =
    ⊎_elim
    (λ (l : a < length small). h a z (stands_old small (small ++ x ∷ []) (extends_append small (x ∷ [])) a z l s) k e)
    (λ (l : length small ≤ a). r (subst IsCounted (stands_past small x z a l s).1 k))
    (cases_lt a (length small))

-- the freshness that a new block wants, of what is unused
pub fresh_unused : (small : List Block) (f : ℕ → ℕ) (x : Block) (c : ℕ) → IsUnused small f c → (a : ℕ) (z : Block) → StandsAt small a z → AreOfOneSort x z → f a ≢ c
fresh_unused small f x c h a z s o = h a z s (sort_first z x (sort_sym x z o))

-- ---- A memory that shows a store of another type

pub stands_map : {X : Type 0} (view : X → Block) (xs : List X) (a : ℕ) (x : Block) → StandsAt (map view xs) a x → (y : X) × (slice_get xs a ≡ Some y) × (view y ≡ x)
stands_map view [] a x s = absurd (cc)
stands_map view (y ∷ xs) zero x s = (y, refl, let f : Some (view y) ≡ Some x = s in cc)
stands_map view (y ∷ xs) (suc a) x s = stands_map view xs a x s

pub stands_of : {X : Type 0} (view : X → Block) (xs : List X) (a : ℕ) (y : X) → slice_get xs a ≡ Some y → StandsAt (map view xs) a (view y)
stands_of view [] a y s = absurd (cc)
stands_of view (z ∷ xs) zero y s = let f : Some z ≡ Some y = s in let g : z ≡ y = cc in ap (λ t. Some (view t)) g
stands_of view (z ∷ xs) (suc a) y s = stands_of view xs a y s
