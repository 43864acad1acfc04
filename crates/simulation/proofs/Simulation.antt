-- From a simulation of two runs, step by step, to what a pass keeps. The relation R k m n stands between step m of a and
-- step n of b; k says how often one side may yet wait for the other. E m n is a fact that the simulation has where both pass a point.
use Rattle.std.proofs.Common.{◌≡◌, ◌≢◌, ℕ, zero, suc, ◌<◌, ◌≤◌, List, [], ◌∷◌, ◌++◌, Some, None, Bool, true, IsTrue, ◌⊎◌, inl, inr, refl, sym, ap, ◌∙◌, subst, arith, append-nil, le_refl, ⊎_elim}
use Rattle.std.proofs.lemmas.Bool.{cases_lt}
use Rattle.smlc_base.specs.declared.point.Point.{Point}
use Rattle.smlc_base.specs.declared.point.PointKind.TheVariants.{Eq}
use Rattle.simulation.specs.Blocks.{Block, ClassRecord, IsPrefix, Embeds, Grows, StandsAt}
use Rattle.simulation.specs.Runs.{Run, Going, Arena, Stuck, times, visible, listed, seen, IsLawful, IsGrowing}
use Rattle.smlc_base.specs.Points.{is_label}
use Rattle.simulation.specs.Keeps.{ReachesNoMore, MakesNoMore, EndsFull, Follows, IsSound, IsNamedBy, AllNamed, HasTidyReach, IsKept}
use Rattle.simulation.proofs.Blocks.{prefix_refl, prefix_trans, prefix_of_eq, grows_refl, grows_trans, embeds_grown}

-- ---- Stretches of a run

-- from step i up to step j the run goes on, and passes none of these points
pub record IsQuiet (labels : List Point) (r : Run) (i j : ℕ) : Type 0 where
  pub unseen : (k : ℕ) → i ≤ k → k < j → visible labels (r.pass k) ≡ None
  pub going : (k : ℕ) → i ≤ k → k < j → r.end k ≡ Going

-- and writes nothing before the last step
abbrev pub IsSilent : Run → ℕ → ℕ → Type 0
IsSilent r i j = (k : ℕ) → i ≤ k → k < j → r.out k ≡ r.out i

pub from_on : (P : ℕ → Type 0) (i : ℕ) → P i → ((j : ℕ) → i ≤ j → P j → P (suc j)) → (j : ℕ) → i ≤ j → P j
from_on P i base on zero h = let e : i ≡ zero = omega arith in subst P e base
from_on P i base on (suc j) h =
    ⊎_elim (λ (l : j < i). let e : i ≡ suc j = omega arith in subst P e base) (λ (l : i ≤ j). on j l (from_on P i base on j l)) (cases_lt j i)

pub seen_none : (labels : List Point) (r : Run) (n : ℕ) → visible labels (r.pass n) ≡ None → seen labels r (suc n) ≡ seen labels r n
seen_none labels r n e = ap (λ o. seen labels r n ++ listed o) e ∙ append-nil (seen labels r n)

pub seen_quiet : (labels : List Point) (r : Run) (i j : ℕ) → IsQuiet labels r i j → (k : ℕ) → i ≤ k → k ≤ j → seen labels r k ≡ seen labels r i
seen_quiet labels r i j q =
    from_on (λ k. k ≤ j → seen labels r k ≡ seen labels r i) i (λ _. refl) (λ k l h u. seen_none labels r k (q.unseen k l u) ∙ h (omega arith))

pub out_grows : (r : Run) (i j : ℕ) → IsGrowing r i j → (k l : ℕ) → i ≤ k → k ≤ l → l ≤ j → IsPrefix (r.out k) (r.out l)
out_grows r i j g k l u v =
    from_on (λ l. l ≤ j → IsPrefix (r.out k) (r.out l)) k (λ _. prefix_refl (r.out k)) (λ l w h b. prefix_trans (r.out k) (r.out l) (r.out (suc l)) (h (omega arith)) (g.tells l (omega arith) b)) l v

pub memory_grows : (r : Run) (i j : ℕ) → IsGrowing r i j → (k l : ℕ) → i ≤ k → k ≤ l → l ≤ j → Grows (r.memory k) (r.memory l)
memory_grows r i j g k l u v =
    from_on (λ l. l ≤ j → Grows (r.memory k) (r.memory l)) k (λ _. grows_refl (r.memory k)) (λ l w h b. grows_trans (r.memory k) (r.memory l) (r.memory (suc l)) (h (omega arith)) (g.makes l (omega arith) b)) l v

-- after its end a run stays as it is
pub record IsAsAt (labels : List Point) (r : Run) (i j : ℕ) : Type 0 where
  pub end : r.end j ≡ r.end i
  pub out : r.out j ≡ r.out i
  pub memory : r.memory j ≡ r.memory i
  pub seen : seen labels r j ≡ seen labels r i

pub stays : (labels : List Point) (r : Run) → IsLawful r → (i : ℕ) → r.end i ≢ Going → (j : ℕ) → i ≤ j → IsAsAt labels r i j
stays labels r w i e =
    from_on (IsAsAt labels r i) i (record { end = refl; out = refl; memory = refl; seen = refl }) (λ j l h.
    let e' : r.end j ≢ Going = λ g. e (sym h.end ∙ g) in
    record {
      end = w.end_stays j e' ∙ h.end;
      out = w.end_tells j e' ∙ h.out;
      memory = w.end_makes j e' ∙ h.memory;
      seen = seen_none labels r j (ap (visible labels) (w.end_passes j e')) ∙ h.seen;
    })

-- what was made before lies where the later lies
pub makes_before : (a : Run) (m : ℕ) (b : Run) (n n' : ℕ) → Grows (b.memory n) (b.memory n') → MakesNoMore a m b n' → MakesNoMore a m b n
makes_before a m b n n' g h =
    (h.0, embeds_grown (b.memory n) (b.memory n') (a.memory m) (λ _. Unit {0}) (λ _. Unit {0}) h.0 g h.1)

-- ---- What a step of a simulation does

-- both go on to related steps, pass nothing on the way, and both have moved or the wait is shorter
pub record Goes (a b : Run) (R : ℕ → ℕ → ℕ → Type 0) (k m n : ℕ) : Type 0 where
  pub wait : ℕ
  pub to_a : ℕ
  pub to_b : ℕ
  pub on_a : m ≤ to_a
  pub on_b : n ≤ to_b
  pub quiet_a : IsQuiet b.labels a m to_a
  pub silent : IsSilent a m to_a
  pub quiet_b : IsQuiet b.labels b n to_b
  pub grows_b : IsGrowing b n to_b
  pub moves : ((m < to_a) × (n < to_b)) ⊎ (wait < k)
  pub then : R wait to_a to_b

-- both pass one point here, where b can reach no more, and then go on as above
pub record Passes (a b : Run) (E : ℕ → ℕ → Type 0) (R : ℕ → ℕ → ℕ → Type 0) (m n : ℕ) : Type 0 where
  pub point : Point
  pub passes_a : visible b.labels (a.pass m) ≡ Some point
  pub passes_b : visible b.labels (b.pass n) ≡ Some point
  pub going_a : a.end m ≡ Going
  pub going_b : b.end n ≡ Going
  pub reaches : ReachesNoMore a m b n
  pub tidy : HasTidyReach (b.memory n) (b.roots n)
  pub fact : E m n
  pub wait : ℕ
  pub to_a : ℕ
  pub to_b : ℕ
  pub on_a : m < to_a
  pub on_b : n < to_b
  pub quiet_a : IsQuiet b.labels a (suc m) to_a
  pub silent : IsSilent a m to_a
  pub quiet_b : IsQuiet b.labels b (suc n) to_b
  pub grows_b : IsGrowing b n to_b
  pub then : R wait to_a to_b

-- b ends for want of arena, having made and written no more than a will have
pub record Fills (full : Bool) (a b : Run) (m n : ℕ) : Type 0 where
  pub may : IsTrue full
  pub to_a : ℕ
  pub to_b : ℕ
  pub on_a : m ≤ to_a
  pub on_b : n ≤ to_b
  pub quiet_a : IsQuiet b.labels a m to_a
  pub silent : IsSilent a m to_a
  pub quiet_b : IsQuiet b.labels b n to_b
  pub grows_b : IsGrowing b n to_b
  pub is_full : b.end to_b ≡ Arena
  pub wrote : IsPrefix (b.out to_b) (a.out to_a)
  pub made : MakesNoMore a to_a b to_b

pub data Move (full : Bool) (a b : Run) (E : ℕ → ℕ → Type 0) (R : ℕ → ℕ → ℕ → Type 0) (k m n : ℕ) : Type 0 where
  ends : a.end m ≢ Going → b.end n ≡ a.end m → Move full a b E R k m n
  goes : Goes a b R k m n → Move full a b E R k m n
  passes : Passes a b E R m n → Move full a b E R k m n
  fills : Fills full a b m n → Move full a b E R k m n

-- R is a simulation: the starts are related, and related steps show the same and have moves
pub record IsSimulation (full : Bool) (a b : Run) (E : ℕ → ℕ → Type 0) (R : ℕ → ℕ → ℕ → Type 0) : Type 0 where
  pub start : (k : ℕ) × R k 0 0
  pub out : (k m n : ℕ) → R k m n → b.out n ≡ a.out m
  pub made : (k m n : ℕ) → R k m n → MakesNoMore a m b n
  pub named : (k m n : ℕ) → R k m n → AllNamed (b.memory n)
  pub move : (k m n : ℕ) → R k m n → Move full a b E R k m n

-- ---- What holds of all that lies before related steps

pub record PastA (a b : Run) (m : ℕ) : Type 0 where
  going : a.end m ≡ Going
  told : (n : ℕ) × (b.out n ≡ a.out m)
  passed : (p : Point) → visible b.labels (a.pass m) ≡ Some p → (n : ℕ) × (visible b.labels (b.pass n) ≡ Some p) × (seen b.labels b n ≡ seen b.labels a m)

-- each class record of step n is named by a step with the same entries before it
abbrev NamedSoon : Run → ℕ → Type 0
NamedSoon r n = (a : ℕ) (x : Block) → StandsAt (r.memory n) a x → x.kind ≡ ClassRecord → (k c : ℕ) × (a < c) × IsNamedBy (r.memory k) a c × IsPrefix (seen r.labels r k) (seen r.labels r n)

-- the run ends for want of arena, with the same entries before it
abbrev FullSoon : Run → ℕ → Type 0
FullSoon r n = (k : ℕ) × (r.end k ≡ Arena) × IsPrefix (seen r.labels r k) (seen r.labels r n)

pub record PastB (a b : Run) (E : ℕ → ℕ → Type 0) (n : ℕ) : Type 0 where
  going : b.end n ≡ Going
  tidy : (p : Point) → visible b.labels (b.pass n) ≡ Some p → HasTidyReach (b.memory n) (b.roots n)
  named : NamedSoon b n
  told : (m : ℕ) × IsPrefix (b.out n) (a.out m)
  entered : (p : Point) → visible b.labels (b.pass n) ≡ Some p → (m : ℕ) × (visible b.labels (a.pass m) ≡ Some p) × (seen b.labels a m ≡ seen b.labels b n) × ReachesNoMore a m b n × E m n
  made : (m : ℕ) × IsPrefix (seen b.labels a m) (seen b.labels b n) × MakesNoMore a m b n

pub record Met (a b : Run) (E : ℕ → ℕ → Type 0) (R : ℕ → ℕ → ℕ → Type 0) (k m n : ℕ) : Type 0 where
  related : R k m n
  same : seen b.labels b n ≡ seen b.labels a m
  past_a : (i : ℕ) → i < m → PastA a b i
  past_b : (j : ℕ) → j < n → PastB a b E j

-- a quiet step of a, whose output b has
quiet_past_a : (a b : Run) (i n : ℕ) → a.end i ≡ Going → visible b.labels (a.pass i) ≡ None → b.out n ≡ a.out i → PastA a b i
quiet_past_a a b i n g u t = record { going = g; told = (n, t); passed = λ p e. let f : Some p ≡ None = sym e ∙ u in absurd (cc) }

named_by : (b : Run) (j n : ℕ) → Grows (b.memory j) (b.memory n) → IsPrefix (seen b.labels b n) (seen b.labels b j) → AllNamed (b.memory n) → NamedSoon b j
named_by b j n g s h a x t e =
    let i = g a x t in
    let c = h a i.0 i.1 (i.2 ∙ e) in
    (n, c.0, c.1, c.2, s)

-- a quiet step of b, before which nothing was passed that a hasn't passed by a later related step
quiet_past_b : (a b : Run) (E : ℕ → ℕ → Type 0) (j m n : ℕ) → IsPrefix (b.out j) (b.out n) → Grows (b.memory j) (b.memory n) → b.end j ≡ Going → visible b.labels (b.pass j) ≡ None → b.out n ≡ a.out m → seen b.labels a m ≡ seen b.labels b j → MakesNoMore a m b n → NamedSoon b j → PastB a b E j
quiet_past_b a b E j m n o w g u t s h d = record {
  going = g;
  tidy = λ p e. let f : Some p ≡ None = sym e ∙ u in absurd (cc);
  named = d;
  told = (m, subst (IsPrefix (b.out j)) t o);
  entered = λ p e. let f : Some p ≡ None = sym e ∙ u in absurd (cc);
  made = (m, prefix_of_eq (seen b.labels a m) (seen b.labels b j) s, makes_before a m b j n w h);
}

module _ (full : Bool) (a b : Run) (la : IsLawful a) (tells : (i j : ℕ) → i ≤ j → IsPrefix (a.out i) (a.out j)) (lb : IsLawful b) (E : ℕ → ℕ → Type 0) (R : ℕ → ℕ → ℕ → Type 0) (sim : IsSimulation full a b E R) where
  met_goes : (k m n : ℕ) → Met a b E R k m n → (g : Goes a b R k m n) → Met a b E R g.wait g.to_a g.to_b
  met_goes k m n h g =
      let same_a = seen_quiet b.labels a m g.to_a g.quiet_a g.to_a g.on_a (le_refl g.to_a) in
      let same_b = seen_quiet b.labels b n g.to_b g.quiet_b g.to_b g.on_b (le_refl g.to_b) in
      record {
        related = g.then;
        same = same_b ∙ h.same ∙ sym same_a;
        past_a = λ i l. ⊎_elim (h.past_a i) (λ (u : m ≤ i). quiet_past_a a b i n (g.quiet_a.going i u l) (g.quiet_a.unseen i u l) (sim.out k m n h.related ∙ sym (g.silent i u l))) (cases_lt i m);
        past_b = λ j l. ⊎_elim (h.past_b j) (λ (u : n ≤ j).
            quiet_past_b a b E j g.to_a g.to_b (out_grows b n g.to_b g.grows_b j g.to_b u (omega arith) (le_refl g.to_b)) (memory_grows b n g.to_b g.grows_b j g.to_b u (omega arith) (le_refl g.to_b)) (g.quiet_b.going j u l) (g.quiet_b.unseen j u l) (sim.out g.wait g.to_a g.to_b g.then)
            (same_a ∙ sym h.same ∙ sym (seen_quiet b.labels b n g.to_b g.quiet_b j u (omega arith)))
            (sim.made g.wait g.to_a g.to_b g.then)
            (named_by b j g.to_b (memory_grows b n g.to_b g.grows_b j g.to_b u (omega arith) (le_refl g.to_b)) (prefix_of_eq (seen b.labels b g.to_b) (seen b.labels b j) (same_b ∙ sym (seen_quiet b.labels b n g.to_b g.quiet_b j u (omega arith)))) (sim.named g.wait g.to_a g.to_b g.then))) (cases_lt j n);
      }

  met_passes : (k m n : ℕ) → Met a b E R k m n → (g : Passes a b E R m n) → Met a b E R g.wait g.to_a g.to_b
  met_passes k m n h g =
      let same_a = seen_quiet b.labels a (suc m) g.to_a g.quiet_a g.to_a g.on_a (le_refl g.to_a) in
      let same_b = seen_quiet b.labels b (suc n) g.to_b g.quiet_b g.to_b g.on_b (le_refl g.to_b) in
      let e_a : seen b.labels a (suc m) ≡ seen b.labels a m ++ (g.point ∷ []) = ap (λ o. seen b.labels a m ++ listed o) g.passes_a in
      let e_b : seen b.labels b (suc n) ≡ seen b.labels b n ++ (g.point ∷ []) = ap (λ o. seen b.labels b n ++ listed o) g.passes_b in
      let one : seen b.labels b (suc n) ≡ seen b.labels a (suc m) = e_b ∙ ap (λ l. l ++ (g.point ∷ [])) h.same ∙ sym e_a in
      let at_a : PastA a b m = record {
        going = g.going_a;
        told = (n, sim.out k m n h.related);
        passed = λ p e. (n, g.passes_b ∙ sym g.passes_a ∙ e, h.same);
      } in
      let at_b : PastB a b E n = record {
        going = g.going_b;
        tidy = λ p e. g.tidy;
        named = named_by b n n (grows_refl (b.memory n)) (prefix_refl (seen b.labels b n)) (sim.named k m n h.related);
        told = (m, prefix_of_eq (b.out n) (a.out m) (sim.out k m n h.related));
        entered = λ p e. (m, g.passes_a ∙ sym g.passes_b ∙ e, sym h.same, g.reaches, g.fact);
        made = (m, prefix_of_eq (seen b.labels a m) (seen b.labels b n) (sym h.same), sim.made k m n h.related);
      } in
      record {
        related = g.then;
        same = same_b ∙ one ∙ sym same_a;
        past_a = λ i l. ⊎_elim (h.past_a i) (λ (u : m ≤ i).
            ⊎_elim (λ (v : m < i). quiet_past_a a b i n (g.quiet_a.going i v l) (g.quiet_a.unseen i v l) (sim.out k m n h.related ∙ sym (g.silent i u l)))
            (λ (v : i ≤ m). let e : m ≡ i = omega arith in subst (PastA a b) e at_a) (cases_lt m i)) (cases_lt i m);
        past_b = λ j l. ⊎_elim (h.past_b j) (λ (u : n ≤ j).
            ⊎_elim (λ (v : n < j).
            quiet_past_b a b E j g.to_a g.to_b (out_grows b n g.to_b g.grows_b j g.to_b u (omega arith) (le_refl g.to_b)) (memory_grows b n g.to_b g.grows_b j g.to_b u (omega arith) (le_refl g.to_b)) (g.quiet_b.going j v l) (g.quiet_b.unseen j v l) (sim.out g.wait g.to_a g.to_b g.then)
            (same_a ∙ sym one ∙ sym (seen_quiet b.labels b (suc n) g.to_b g.quiet_b j v (omega arith)))
            (sim.made g.wait g.to_a g.to_b g.then)
            (named_by b j g.to_b (memory_grows b n g.to_b g.grows_b j g.to_b u (omega arith) (le_refl g.to_b)) (prefix_of_eq (seen b.labels b g.to_b) (seen b.labels b j) (same_b ∙ sym (seen_quiet b.labels b (suc n) g.to_b g.quiet_b j v (omega arith)))) (sim.named g.wait g.to_a g.to_b g.then)))
            (λ (v : j ≤ n). let e : n ≡ j = omega arith in subst (PastB a b E) e at_b) (cases_lt n j)) (cases_lt j n);
      }

  -- where the runs have come to: an end of both, an end for want of arena, or at least this far
  data Come (i j : ℕ) : Type 0 where
    over : (k m n : ℕ) → Met a b E R k m n → a.end m ≢ Going → b.end n ≡ a.end m → Come i j
    full_at : (k m n : ℕ) → Met a b E R k m n → Fills full a b m n → Come i j
    far : (k m n : ℕ) → Met a b E R k m n → i ≤ m → j ≤ n → Come i j

  -- the moves go on until both runs have moved
  further : (bound k m n i j : ℕ) → k < bound → Met a b E R k m n → i ≤ m → j ≤ n → Come (suc i) (suc j)
  further zero k m n i j l h u v = absurd (omega arith)
  further (suc bound) k m n i j l h u v =
      elim (sim.move k m n h.related) [
        | ends e f ↦ over k m n h e f
        | goes g ↦
            ⊎_elim
            (λ (s : (m < g.to_a) × (n < g.to_b)). far g.wait g.to_a g.to_b (met_goes k m n h g) (omega (arith, s.0)) (omega (arith, s.1)))
            (λ (s : g.wait < k).
            further bound g.wait g.to_a g.to_b i j (omega arith) (met_goes k m n h g) (omega (arith, g.on_a)) (omega (arith, g.on_b)))
            g.moves
        | passes g ↦ far g.wait g.to_a g.to_b (met_passes k m n h g) (omega (arith, g.on_a)) (omega (arith, g.on_b))
        | fills g ↦ full_at k m n h g
      ]

  come : (i : ℕ) → Come i i
  come zero = far sim.start.0 0 0 (record { related = sim.start.1; same = refl; past_a = λ i l. absurd (omega arith); past_b = λ j l. absurd (omega arith) }) (le_refl 0) (le_refl 0)
  come (suc i) = on (come i)
    where
      on : Come i i → Come (suc i) (suc i)
      on (over k m n h e f) = over k m n h e f
      on (full_at k m n h g) = full_at k m n h g
      on (far k m n h u v) = further (suc k) k m n i i (omega arith) h u v

  -- what `Follows` says at a step of a
  record AtA (m : ℕ) : Type 0 where
    told : ((n : ℕ) × (b.out n ≡ a.out m)) ⊎ EndsFull full b (a.out m)
    ends : a.end m ≢ Going → ((n : ℕ) × (b.end n ≡ a.end m) × (b.out n ≡ a.out m)) ⊎ EndsFull full b (a.out m)
    passed : (p : Point) → visible b.labels (a.pass m) ≡ Some p → ((n : ℕ) × (visible b.labels (b.pass n) ≡ Some p) × (seen b.labels b n ≡ seen b.labels a m)) ⊎ (IsTrue full × ((n : ℕ) × (b.end n ≡ Arena)))

  -- and at a step of b
  record AtB (n : ℕ) : Type 0 where
    tidy : (p : Point) → visible b.labels (b.pass n) ≡ Some p → HasTidyReach (b.memory n) (b.roots n)
    named : NamedSoon b n ⊎ (IsTrue full × FullSoon b n)
    told : (m : ℕ) × IsPrefix (b.out n) (a.out m)
    ends : b.end n ≢ Going → ((m : ℕ) × (a.end m ≡ b.end n) × (a.out m ≡ b.out n)) ⊎ (IsTrue full × (b.end n ≡ Arena))
    entered : (p : Point) → visible b.labels (b.pass n) ≡ Some p → (m : ℕ) × (visible b.labels (a.pass m) ≡ Some p) × (seen b.labels a m ≡ seen b.labels b n) × ReachesNoMore a m b n × E m n
    made : (m : ℕ) × IsPrefix (seen b.labels a m) (seen b.labels b n) × MakesNoMore a m b n

  at_a_past : (m : ℕ) → PastA a b m → AtA m
  at_a_past m h = record { told = inl h.told; ends = λ e. absurd (e h.going); passed = λ p e. inl (h.passed p e) }

  at_b_past : (n : ℕ) → PastB a b E n → AtB n
  at_b_past n h = record { tidy = h.tidy; named = inl h.named; told = h.told; ends = λ e. absurd (e h.going); entered = h.entered; made = h.made }

  no_pass : (labels : List Point) (r : Run) → IsLawful r → (i : ℕ) → r.end i ≢ Going → (p : Point) → visible labels (r.pass i) ≡ Some p → ⊥
  no_pass labels r l i e p h = let f : None ≡ Some p = sym (ap (visible labels) (l.end_passes i e)) ∙ h in cc

  at_a_over : (k m n : ℕ) → Met a b E R k m n → a.end m ≢ Going → b.end n ≡ a.end m → (i : ℕ) → m ≤ i → AtA i
  at_a_over k m n h e f i l =
      let s = stays b.labels a la m e i l in
      let o = sim.out k m n h.related in
      record {
        told = inl (n, o ∙ sym s.out);
        ends = λ _. inl (n, f ∙ sym s.end, o ∙ sym s.out);
        passed = λ p v. absurd (no_pass b.labels a la i (λ g. e (sym s.end ∙ g)) p v);
      }

  at_b_over : (k m n : ℕ) → Met a b E R k m n → a.end m ≢ Going → b.end n ≡ a.end m → (j : ℕ) → n ≤ j → AtB j
  at_b_over k m n h e f j l =
      let e' : b.end n ≢ Going = λ g. e (sym f ∙ g) in
      let s = stays b.labels b lb n e' j l in
      let o = sim.out k m n h.related in
      let none = no_pass b.labels b lb j (λ g. e' (sym s.end ∙ g)) in
      record {
        tidy = λ p v. absurd (none p v);
        named = inl (named_by b j n (subst (Grows (b.memory j)) s.memory (grows_refl (b.memory j))) (prefix_of_eq (seen b.labels b n) (seen b.labels b j) (sym s.seen)) (sim.named k m n h.related));
        told = (m, prefix_of_eq (b.out j) (a.out m) (s.out ∙ o));
        ends = λ _. inl (m, sym f ∙ sym s.end, sym o ∙ sym s.out);
        entered = λ p v. absurd (no_pass b.labels b lb j (λ g. e' (sym s.end ∙ g)) p v);
        made = (m, prefix_of_eq (seen b.labels a m) (seen b.labels b j) (sym h.same ∙ sym s.seen), subst (λ t. (f : ℕ → ℕ) × Embeds t (λ _. Unit {0}) (a.memory m) (λ _. Unit {0}) f) (sym s.memory) (sim.made k m n h.related));
      }

  at_a_full : (k m n : ℕ) → Met a b E R k m n → Fills full a b m n → (i : ℕ) → m ≤ i → AtA i
  at_a_full k m n h g i l =
      ⊎_elim
      (λ (u : i < g.to_a). at_a_past i (quiet_past_a a b i n (g.quiet_a.going i l u) (g.quiet_a.unseen i l u) (sim.out k m n h.related ∙ sym (g.silent i l u))))
      (λ (u : g.to_a ≤ i).
      let w = prefix_trans (b.out g.to_b) (a.out g.to_a) (a.out i) g.wrote (tells g.to_a i u) in
      record {
        told = inr (g.may, (g.to_b, g.is_full, w));
        ends = λ _. inr (g.may, (g.to_b, g.is_full, w));
        passed = λ p v. inr (g.may, (g.to_b, g.is_full));
      })
      (cases_lt i g.to_a)

  at_b_full : (k m n : ℕ) → Met a b E R k m n → Fills full a b m n → (j : ℕ) → n ≤ j → AtB j
  at_b_full k m n h g j l =
      let same_a = seen_quiet b.labels a m g.to_a g.quiet_a g.to_a g.on_a (le_refl g.to_a) in
      let same_b = seen_quiet b.labels b n g.to_b g.quiet_b g.to_b g.on_b (le_refl g.to_b) in
      ⊎_elim
      (λ (u : j < g.to_b).
      let le : j ≤ g.to_b = omega arith in
      record {
        tidy = λ p e. let f : Some p ≡ None = sym e ∙ g.quiet_b.unseen j l u in absurd (cc);
        named = inr (g.may, (g.to_b, g.is_full, prefix_of_eq (seen b.labels b g.to_b) (seen b.labels b j) (same_b ∙ sym (seen_quiet b.labels b n g.to_b g.quiet_b j l le))));
        ends = λ e. absurd (e (g.quiet_b.going j l u));
        told = (g.to_a, prefix_trans (b.out j) (b.out g.to_b) (a.out g.to_a) (out_grows b n g.to_b g.grows_b j g.to_b l le (le_refl g.to_b)) g.wrote);
        entered = λ p e. let f : Some p ≡ None = sym e ∙ g.quiet_b.unseen j l u in absurd (cc);
        made = (g.to_a, prefix_of_eq (seen b.labels a g.to_a) (seen b.labels b j) (same_a ∙ sym h.same ∙ sym (seen_quiet b.labels b n g.to_b g.quiet_b j l le)), makes_before a g.to_a b j g.to_b (memory_grows b n g.to_b g.grows_b j g.to_b l le (le_refl g.to_b)) g.made);
      })
      (λ (u : g.to_b ≤ j).
      let e : b.end g.to_b ≢ Going = λ w. let f : Arena ≡ Going = sym g.is_full ∙ w in cc in
      let s = stays b.labels b lb g.to_b e j u in
      record {
        tidy = λ p v. absurd (no_pass b.labels b lb j (λ w. e (sym s.end ∙ w)) p v);
        named = inr (g.may, (g.to_b, g.is_full, prefix_of_eq (seen b.labels b g.to_b) (seen b.labels b j) (sym s.seen)));
        told = (g.to_a, subst (λ t. IsPrefix t (a.out g.to_a)) (sym s.out) g.wrote);
        ends = λ _. inr (g.may, s.end ∙ g.is_full);
        entered = λ p v. absurd (no_pass b.labels b lb j (λ w. e (sym s.end ∙ w)) p v);
        made = (g.to_a, prefix_of_eq (seen b.labels a g.to_a) (seen b.labels b j) (same_a ∙ sym h.same ∙ sym (seen_quiet b.labels b n g.to_b g.quiet_b g.to_b g.on_b (le_refl g.to_b)) ∙ sym s.seen), subst (λ t. (f : ℕ → ℕ) × Embeds t (λ _. Unit {0}) (a.memory g.to_a) (λ _. Unit {0}) f) (sym s.memory) g.made);
      })
      (cases_lt j g.to_b)

  at_a : (m : ℕ) → AtA m
  at_a m = on (come (suc m))
    where
      on : Come (suc m) (suc m) → AtA m
      on (over k i j h e f) = ⊎_elim (λ (u : m < i). at_a_past m (h.past_a m u)) (λ (u : i ≤ m). at_a_over k i j h e f m u) (cases_lt m i)
      on (full_at k i j h g) = ⊎_elim (λ (u : m < i). at_a_past m (h.past_a m u)) (λ (u : i ≤ m). at_a_full k i j h g m u) (cases_lt m i)
      on (far k i j h u v) = at_a_past m (h.past_a m u)

  at_b : (n : ℕ) → AtB n
  at_b n = on (come (suc n))
    where
      on : Come (suc n) (suc n) → AtB n
      on (over k i j h e f) = ⊎_elim (λ (u : n < j). at_b_past n (h.past_b n u)) (λ (u : j ≤ n). at_b_over k i j h e f n u) (cases_lt n j)
      on (full_at k i j h g) = ⊎_elim (λ (u : n < j). at_b_past n (h.past_b n u)) (λ (u : j ≤ n). at_b_full k i j h g n u) (cases_lt n j)
      on (far k i j h u v) = at_b_past n (h.past_b n v)

  -- The lever: a simulation gives all that `Follows` says.
  pub simulation_follows : ((p : Point) → is_label b.labels p ≡ true → is_label a.labels p ≡ true) → Follows full a b
  simulation_follows fewer = record {
    fewer = fewer;
    told = λ m. (at_a m).told;
    told_only = λ n. (at_b n).told;
    ends = λ m. (at_a m).ends;
    ends_only = λ n. (at_b n).ends;
    entered = λ n p v. let h = (at_b n).entered p v in (h.0, h.1, h.2, h.3);
    passed = λ m. (at_a m).passed;
    made = λ n. (at_b n).made;
  }

  -- at each entry the fact holds of the pass that it stands for
  pub simulation_meets : (n : ℕ) (p : Point) → visible b.labels (b.pass n) ≡ Some p → (m : ℕ) × (visible b.labels (a.pass m) ≡ Some p) × (seen b.labels a m ≡ seen b.labels b n) × E m n
  simulation_meets n p v = let h = (at_b n).entered p v in (h.0, h.1, h.2, h.4)

  -- and all that a pass keeps
  pub simulation_keeps : ((p : Point) → is_label b.labels p ≡ true → is_label a.labels p ≡ true) → ((p : Point) → p.kind ≢ Eq → times p b.labels ≤ 1) → IsSound a → IsKept full a b
  simulation_keeps fewer once s = record {
    sound = record {
      never_stuck = λ n e.
          ⊎_elim (λ (h : (m : ℕ) × (a.end m ≡ b.end n) × (a.out m ≡ b.out n)). s.never_stuck h.0 (h.1 ∙ e))
          (λ (h : IsTrue full × (b.end n ≡ Arena)). let f : Arena ≡ Stuck = sym h.1 ∙ e in cc)
          ((at_b n).ends (λ g. let f : Stuck ≡ Going = sym e ∙ g in cc));
      once = once;
    };
    tidy = record {
      reach = λ n. (at_b n).tidy;
      named = λ n a' x t e. ⊎_elim (λ (h : NamedSoon b n). inl (h a' x t e)) (λ (h : IsTrue full × FullSoon b n). inr h) (at_b n).named;
    };
    follows = simulation_follows fewer;
  }
