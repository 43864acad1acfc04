-- Class records of an orderly program are named at each moment.
use Rattle.std.proofs.Common.{map, ◌≡◌, ℕ, zero, suc, ◌+◌, ◌==◌, List, [], ◌∷◌, ◌++◌, length, Option, Some, None, slice_get, cond, Bool, true, false, inl, inr, refl, sym, ap, ◌∙◌, subst, arith, ⊎_elim}
use Rattle.std.specs.Prelude.{IfSome, not}
use Rattle.std.specs.List.{AllByRecursion}
use Rattle.smlc_base.specs.declared.point.Point.{Point}
use Rattle.smlc_base.specs.declared.primitive.Primitive.{Primitive}
use Rattle.simulation.specs.Blocks.{ClassRecord, IsAmong}
use Rattle.simulation.specs.Keeps.{AllNamed}
use Rattle.simulation.specs.Stores.{Act, Append}
use Rattle.simulation.proofs.Lists.{some_eq, among_right}
use Rattle.simulation.proofs.Stores.{NamesItsOwn, AllNameTheirs, store_named_by}
use Rattle.prim_meaning.specs.Data as dat
use Rattle.prim_meaning.specs.Meaning as mean
use Rattle.sml_def.specs.Maybe.{◌>>=◌}
use Rattle.sml_def.proofs.Options.{bind_some, if_some}
use Rattle.closure_ir.specs.declared.operand.Shape.{Shape}
use Rattle.closure_ir.specs.declared.operand.Shape.TheVariants as shape
use Rattle.closure_ir.specs.declared.operand.Operand.{Operand}
use Rattle.closure_ir.specs.declared.operand.Operand.TheVariants as operand
use Rattle.closure_ir.specs.declared.body.Maker.{Maker}
use Rattle.closure_ir.specs.Words.{Word, Num, At, Fixed, Code as CodeOf, Sort, Made, Cell, Cells, Vars, look, consed, all_looked, label_through}
use Rattle.closure_ir.specs.Code.{Code, Make, Let, Prim, Handler, SetHandler, When, Equal, Call, Throw, Halt, Routine, Tree}
use Rattle.closure_ir.specs.Answers.{see, all_stand, Part, Growing, Result, Gives, Builds, Sets, Raises, Answer, carry_plain, carry, unless_equal, answer, grown}
use Rattle.closure_ir.specs.Step.{Doing, Running, Arriving, Comparing, Failed, Facing, Store, Goes, numbered, made, all_made, truth_word, behind, pair_of, chain, pair_in, looked, all_read, label_for, calls, enters, throws, arrives, carries, pends, begins, equals, both_seen, by_verdict, takes_pair, compares, seen, runs, step}
use Rattle.closure_ir.specs.Run.{pointed, all_pointed, closure_kind, sort_kind, view_cell, closed_machine, start_closed, closed_run}
use Rattle.closure_ir.specs.Order.{NamesRecords, IsOrderlyCode, IsOrderly}

-- ---- Blocks and their makers

consed_some : {X : Type 0} (o : Option X) (p : Option (List X)) (zs : List X) → consed o p ≡ Some zs → (x : X) × (xs : List X) × (o ≡ Some x) × (p ≡ Some xs) × (zs ≡ x ∷ xs)
consed_some None p zs e = absurd (cc)
consed_some (Some x) None zs e = absurd (cc)
consed_some (Some x) (Some xs) zs e = (x, xs, refl, refl, let g : Some (x ∷ xs) ≡ Some zs = e in let k : x ∷ xs ≡ zs = cc in sym k)

made_some : (sh : Shape) (o : Option (List Word)) (c : Cell) → (o >>= (λ ws. Some (record { sort = Made sh; fields = ws }))) ≡ Some c → (ws : List Word) × (o ≡ Some ws) × (c ≡ record { sort = Made sh; fields = ws })
made_some sh None c e = absurd (cc)
made_some sh (Some ws) c e = (ws, refl, let g : Some (record { sort = Made sh; fields = ws }) ≡ Some c = e in let k : record { sort = Made sh; fields = ws } ≡ c = cc in sym k)

-- what one operand is among what all are
looked_among : (cells : Cells) (env : Vars) (fresh : List Word) (os : List Operand) (ws : List Word) (o : Operand) → all_looked cells env fresh os ≡ Some ws → IsAmong o os → (w : Word) × (look cells env fresh o ≡ Some w) × IsAmong w ws
looked_among cells env fresh [] ws o e m = absurd m
looked_among cells env fresh (q ∷ os) ws o e m =
    let c = consed_some (look cells env fresh q) (all_looked cells env fresh os) ws e in
    ⊎_elim
    (λ (h : o ≡ q). (c.0, ap (look cells env fresh) h ∙ c.2, subst (IsAmong c.0) (sym c.4) (inl refl)))
    (λ (h : IsAmong o os). let t = looked_among cells env fresh os c.1 o c.3 h in (t.0, t.1, subst (IsAmong t.0) (sym c.4) (inr t.2)))
    m

among_pointed : (a : ℕ) (ws : List Word) → IsAmong (At a) ws → IsAmong a (all_pointed ws)
among_pointed a [] m = absurd m
among_pointed a (w ∷ ws) (inl e) = subst (λ t. IsAmong a (pointed t ++ all_pointed ws)) e (inl refl)
among_pointed a (w ∷ ws) (inr h) = among_right a (pointed w) (all_pointed ws) (among_pointed a ws h)

-- the block of a maker
made_get : (cells : Cells) (env : Vars) (fresh : List Word) (ms : List Maker) (cs : List Cell) (j : ℕ) (m : Maker) → all_made cells env fresh ms ≡ Some cs → slice_get ms j ≡ Some m → (ws : List Word) × (slice_get cs j ≡ Some (record { sort = Made m.shape; fields = ws })) × (all_looked cells env fresh m.fields ≡ Some ws)
made_get cells env fresh [] cs j m e f = absurd (cc)
made_get cells env fresh (n ∷ ms) cs zero m e f =
    let c = consed_some (made cells env fresh n) (all_made cells env fresh ms) cs e in
    let d = made_some n.shape (all_looked cells env fresh n.fields) c.0 c.2 in
    some_eq (λ t. (ws : List Word) × (slice_get cs 0 ≡ Some (record { sort = Made t.shape; fields = ws })) × (all_looked cells env fresh t.fields ≡ Some ws)) n m f
    (d.0, ap (λ zs. slice_get zs 0) c.4 ∙ ap Some d.2, d.1)
made_get cells env fresh (n ∷ ms) cs (suc j) m e f =
    let c = consed_some (made cells env fresh n) (all_made cells env fresh ms) cs e in
    let p = made_get cells env fresh ms c.1 j m c.3 f in
    (p.0, ap (λ zs. slice_get zs (suc j)) c.4 ∙ p.1, p.2)

-- the maker of a block
maker_of : (cells : Cells) (env : Vars) (fresh : List Word) (ms : List Maker) (cs : List Cell) (i : ℕ) (c : Cell) → all_made cells env fresh ms ≡ Some cs → slice_get cs i ≡ Some c → (m : Maker) × (slice_get ms i ≡ Some m) × (c.sort ≡ Made m.shape)
maker_of cells env fresh [] cs i c e f =
    let g : Some [] ≡ Some cs = e in
    let k : [] ≡ cs = cc in
    absurd (let t : None ≡ Some c = ap (λ zs. slice_get zs i) k ∙ f in cc)
maker_of cells env fresh (n ∷ ms) cs zero c e f =
    let t = consed_some (made cells env fresh n) (all_made cells env fresh ms) cs e in
    let d = made_some n.shape (all_looked cells env fresh n.fields) t.0 t.2 in
    let g : Some t.0 ≡ Some c = sym (ap (λ zs. slice_get zs 0) t.4) ∙ f in
    let k : t.0 ≡ c = cc in
    (n, refl, ap (λ z. z.sort) (sym k ∙ d.2))
maker_of cells env fresh (n ∷ ms) cs (suc i) c e f =
    let t = consed_some (made cells env fresh n) (all_made cells env fresh ms) cs e in
    maker_of cells env fresh ms t.1 i c t.3 (sym (ap (λ zs. slice_get zs (suc i)) t.4) ∙ f)

closure_no_record : (o : Option Point) → closure_kind o ≡ ClassRecord → ⊥
closure_no_record None e = cc
closure_no_record (Some p) e = cc

record_shape : (points : List Point) (sh : Shape) → sort_kind points (Made sh) ≡ ClassRecord → (k : ℕ) × (sh ≡ shape.ClassRecord k)
record_shape points (shape.ClassRecord k) e = (k, refl)
record_shape points (shape.Closure l) e = absurd (closure_no_record (slice_get points l.0) e)
record_shape points _ e = absurd (cc)

numbered_at : (a : ℕ) (ms : List Maker) (i : ℕ) (w : Word) → slice_get (numbered a ms) i ≡ Some w → w ≡ At (a + i)
numbered_at a [] i w e = absurd (cc)
numbered_at a (m ∷ ms) zero w e = let g : Some (At a) ≡ Some w = e in let q : At a ≡ w = cc in sym q ∙ ap At (omega arith)
numbered_at a (m ∷ ms) (suc i) w e = numbered_at (suc a) ms i w e ∙ ap At (omega arith)

-- what is made names its own class records
made_names : (points : List Point) (cells : List Cell) (env : Vars) (ms : List Maker) (cs : List Cell) → NamesRecords points ms → all_made (slice_get cells) env (numbered (length cells) ms) ms ≡ Some cs → NamesItsOwn (view_cell points) cells cs
made_names points cells env ms cs n e i c f k =
    let fresh = numbered (length cells) ms in
    let m = maker_of (slice_get cells) env fresh ms cs i c e f in
    let s = record_shape points m.0.shape (ap (sort_kind points) (sym m.2) ∙ k) in
    let r = n i s.0 m.0 m.1 s.1 in
    let d = made_get (slice_get cells) env fresh ms cs r.place r.maker e r.stands in
    let w = looked_among (slice_get cells) env fresh r.maker.fields d.0 (operand.New i) d.2 r.names in
    let at = numbered_at (length cells) ms i w.0 w.1 in (
      r.place,
      record { sort = Made r.maker.shape; fields = d.0 },
      r.point,
      r.behind,
      d.1,
      ap (λ sh. sort_kind points (Made sh)) r.closure ∙ ap closure_kind r.labelled,
      among_pointed (length cells + i) d.0 (subst (λ t. IsAmong t d.0) {x = w.0} at w.2),
    )

-- ---- What primitives and comparisons make

-- no class record
abbrev IsPlain : Sort → Type 0
IsPlain (Made (shape.ClassRecord k)) = ⊥
IsPlain _ = Unit {0}

plain_kind : (points : List Point) (s : Sort) → IsPlain s → sort_kind points s ≡ ClassRecord → ⊥
plain_kind points (Made (shape.ClassRecord k)) h e = h
plain_kind points (Made (shape.Closure l)) h e = closure_no_record (slice_get points l.0) e
plain_kind points _ h e = cc

abbrev ArePlain : List Growing → Type 0
ArePlain gs = AllByRecursion (λ g. IsPlain g.sort) gs

grown_kind : (points : List Point) (place : ℕ → ℕ) (gs : List Growing) (i : ℕ) (c : Cell) → ArePlain gs → slice_get (map (grown place) gs) i ≡ Some c → (view_cell points c).kind ≡ ClassRecord → ⊥
grown_kind points place [] i c h e k = cc
grown_kind points place (g ∷ gs) zero c h e k = some_eq (λ z. (view_cell points z).kind ≡ ClassRecord → ⊥) (grown place g) c e (plain_kind points g.sort h.0) k
grown_kind points place (g ∷ gs) (suc i) c h e k = grown_kind points place gs i c h.1 e k

plain_join : (gs hs : List Growing) → ArePlain gs → ArePlain hs → ArePlain (gs ++ hs)
plain_join [] hs p q = q
plain_join (g ∷ gs) hs p q = (p.0, plain_join gs hs p.1 q)

pair_plain : (pair : Word × Word) (parts : List Part) → IsPlain (pair_of pair parts).sort
pair_plain pair [] = tt
pair_plain pair (q ∷ parts) = tt

chain_plain : (pairs : List (Word × Word)) (next : List Word) → ArePlain (chain pairs next)
chain_plain [] next = tt
chain_plain (pair ∷ pairs) next =
    plain_join (chain pairs next) (pair_of pair (behind (chain pairs next) next) ∷ []) (chain_plain pairs next) (pair_plain pair (behind (chain pairs next) next), tt)

abbrev MakesPlain : Result → Type 0
MakesPlain (Builds gs) = ArePlain gs
MakesPlain _ = Unit {0}

plain_carried : (input : List ℕ) (r : dat.Plain) → MakesPlain (carry_plain input r).result
plain_carried input (dat.ANumber z) = tt
plain_carried input (dat.ALetter c) = tt
plain_carried input (dat.ATag n) = tt
plain_carried input (dat.AString bytes) = (tt, tt)
plain_carried input (dat.Fails f) = tt
plain_carried input (dat.Writes bytes) = tt
plain_carried input (dat.ALine line left) = (tt, (tt, tt))

outcome_plain : (input : List ℕ) (o : mean.Outcome Word) → IfSome (carry input o) (λ a. MakesPlain a.result)
outcome_plain input (mean.Comes r) = plain_carried input r
outcome_plain input (mean.Gives v) = tt
outcome_plain input (mean.Assigns a v) = tt
outcome_plain input (mean.Compares v w t) = tt

by_kind_plain : (Q : Answer → Type 0) (kind : mean.Kind) (o : Option Answer) → IfSome o Q → IfSome (unless_equal kind o) Q
by_kind_plain Q mean.OfData o h = h
by_kind_plain Q mean.Derefs o h = h
by_kind_plain Q mean.AssignsTo o h = h
by_kind_plain Q mean.Implodes o h = h
by_kind_plain Q (mean.IsEqual t) o h = tt

-- a primitive makes data alone
pub answer_plain : (texts : List (List ℕ)) (cells : Cells) (most : ℕ) (input : List ℕ) (f : Primitive) (ws : List Word) → IfSome (answer texts cells most input f ws) (λ a. MakesPlain a.result)
answer_plain texts cells most input f ws =
    let meant = mean.meaning (see texts cells) most input f ws in
    by_kind_plain (λ a. MakesPlain a.result) (mean.kind_of f) (meant >>= carry input)
    (bind_some (λ (a : Answer). MakesPlain a.result) meant (carry input) (λ o e. outcome_plain input o))

-- ---- Steps

module _ (p : Tree) (o : IsOrderly p) where
  abbrev Fit : Doing → Type 0
  Fit (Running c env h) = IsOrderlyCode p.points c
  Fit (Arriving l ws h) = Unit {0}
  Fit (Comparing t ws k h) = Unit {0}
  Fit (Failed w) = Unit {0}

  abbrev Good : List Cell → Act Facing Cell → Type 0
  Good cells a = Fit a.next.doing × AllNameTheirs (view_cell p.points) (Some cells) a.effects

  chosen : (b : Bool) (same other : Code) → IsOrderlyCode p.points same → IsOrderlyCode p.points other → IsOrderlyCode p.points (cond b same other)
  chosen true same other s t = s
  chosen false same other s t = t

  module _ (cells : List Cell) (input : List ℕ) where
    abbrev m : Store
    m = record { cells = cells; input = input }

    abbrev IsGood : Goes → Type 0
    IsGood g = IfSome g (Good cells)

    called : (l : Option ℕ) (f : Word) (ws : List Word) (h : Word) → IsGood (calls p m l f ws h)
    called None f ws h = tt
    called (Some l) f ws h = (tt, tt)

    entered : (f : Word) (ws : List Word) (h : Word) → IsGood (enters p m f ws h)
    entered f ws h = called (label_through (slice_get cells) f) f ws h

    thrown : (x h : Word) → IsGood (throws p m x h)
    thrown x (Num n) = (tt, tt)
    thrown x (At a) = entered (At a) (x ∷ []) (At a)
    thrown x (Fixed s) = entered (Fixed s) (x ∷ []) (Fixed s)
    thrown x (CodeOf l) = entered (CodeOf l) (x ∷ []) (CodeOf l)

    names_none : (gs : List Growing) → ArePlain gs → NamesItsOwn (view_cell p.points) cells (map (grown (λ k. length cells + k)) gs)
    names_none gs h i c e k = absurd (grown_kind p.points (λ j. length cells + j) gs i c h e k)

    grown_good : (gs : List Growing) → ArePlain gs → AllNameTheirs (view_cell p.points) (Some cells) (Append (map (grown (λ k. length cells + k)) gs) ∷ [])
    grown_good gs h = (λ ys e. some_eq (λ (zs : List Cell). NamesItsOwn (view_cell p.points) zs (map (grown (λ k. length cells + k)) gs)) cells ys e (names_none gs h), tt)

    carried : (x : ℕ) (c : Code) (env : Vars) (h : Word) (told left : List ℕ) (r : Result) → IsOrderlyCode p.points c → MakesPlain r → IsGood (carries p m x c env h told left r)
    carried x c env h told left (Gives w) f q = (f, tt)
    carried x c env h told left (Builds []) f q = tt
    carried x c env h told left (Builds (g ∷ gs)) f q = (f, grown_good (g ∷ gs) q)
    carried x c env h told left (Sets a w) f q = (f, ((λ ys e. tt), tt))
    carried x c env h told left (Raises w) f q = thrown w h

    pended : (t : Bool) (next : List Word) (k h : Word) (gs : List Growing) → ArePlain gs → IsGood (pends p m t next k h gs)
    pended t next k h [] q = (tt, tt)
    pended t next k h (g ∷ gs) q = (tt, grown_good (g ∷ gs) q)

    either : (b : Bool) (x y : Goes) → IsGood x → IsGood y → IsGood (cond b x y)
    either true x y f g = f
    either false x y f g = g

    equal_good : (u v : Word) (t : Bool) (k h : Word) → IsGood (equals p m u v t k h)
    equal_good u v t k h =
        either (both_seen p m u v) (begins p m u v t k h) None
        (either (mean.is_deep (seen p m u) (seen p m v)) (pends p m t [] k h (chain ((u, v) ∷ []) [])) (enters p m k (truth_word (mean.decided (mean.compared (seen p m u) (seen p m v)) t) ∷ []) h) (pended t [] k h (chain ((u, v) ∷ []) []) (chain_plain ((u, v) ∷ []) [])) (entered k (truth_word (mean.decided (mean.compared (seen p m u) (seen p m v)) t) ∷ []) h))
        tt

    verdict_good : (d : mean.Verdict Word) (next : List Word) (t : Bool) (k h : Word) → IsGood (by_verdict p m d next t k h)
    verdict_good mean.Equal next t k h = (tt, tt)
    verdict_good mean.Unequal next t k h = entered k (truth_word (not t) ∷ []) h
    verdict_good (mean.AsPairs pairs) next t k h = pended t next k h (chain pairs next) (chain_plain pairs next)

    compared_good : (ws : List Word) (t : Bool) (k h : Word) → IsGood (compares p m ws t k h)
    compared_good [] t k h = entered k (truth_word t ∷ []) h
    compared_good (At a ∷ ws) t k h =
        bind_some (Good cells) (pair_in (slice_get cells a)) (λ q. takes_pair p m q t k h)
        (λ q e. either (both_seen p m q.0.0 q.0.1) (by_verdict p m (mean.turn (seen p m) q.0.0 q.0.1) q.1 t k h) None (verdict_good (mean.turn (seen p m) q.0.0 q.0.1) q.1 t k h) tt)
    compared_good (Num n ∷ ws) t k h = tt
    compared_good (Fixed s ∷ ws) t k h = tt
    compared_good (CodeOf l ∷ ws) t k h = tt

    run_good : (c : Code) (env : Vars) (h : Word) → IsOrderlyCode p.points c → IsGood (runs p m c env h)
    run_good (Make makers c) env h f =
        bind_some (Good cells) (all_made (slice_get cells) env (numbered (length cells) makers) makers) _
        (λ cs e. (f.1, ((λ ys g. some_eq (λ (zs : List Cell). NamesItsOwn (view_cell p.points) zs cs) cells ys g (made_names p.points cells env makers cs f.0 e)), tt)))
    run_good (Let x q c) env h f = bind_some (Good cells) (looked p m env q) _ (λ w e. (f, tt))
    run_good (Prim x g os c) env h f =
        bind_some (Good cells) (all_read p m env os) _
        (λ ws e. bind_some (Good cells) (answer p.texts (slice_get cells) (length cells) input g ws) _ (λ a i. carried x c env h a.told a.input a.result f (if_some (λ (z : Answer). MakesPlain z.result) (answer p.texts (slice_get cells) (length cells) input g ws) a i (answer_plain p.texts (slice_get cells) (length cells) input g ws))))
    run_good (Handler x c) env h f = (f, tt)
    run_good (SetHandler q c) env h f = bind_some (Good cells) (looked p m env q) _ (λ w e. (f, tt))
    run_good (When q tests same other) env h f =
        bind_some (Good cells) (looked p m env q) _
        (λ w e. bind_some (Good cells) (all_stand p.texts (slice_get cells) env w tests) _ (λ b i. (chosen b same other f.0 f.1, tt)))
    run_good (Equal a b t k) env h f =
        bind_some (Good cells) (looked p m env a) _
        (λ u e. bind_some (Good cells) (looked p m env b) _ (λ v i. bind_some (Good cells) (looked p m env k) _ (λ w j. equal_good u v t w h)))
    run_good (Call t q os) env h f =
        bind_some (Good cells) (looked p m env q) _
        (λ w e. bind_some (Good cells) (all_read p m env os) _ (λ ws i. called (label_for p m t w) w ws h))
    run_good (Throw q) env h f = bind_some (Good cells) (looked p m env q) _ (λ w e. thrown w h)
    run_good Halt env h f = tt

    arrive_good : (l : ℕ) (f : Option Routine) (ws : List Word) (h : Word) → slice_get p.functions l ≡ f → IsGood (arrives p m f ws h)
    arrive_good l None ws h e = tt
    arrive_good l (Some f) ws h e = either (length f.params == length ws) _ None (o.functions l f e, tt) tt

    step_good : (d : Doing) → Fit d → IsGood (step p m d)
    step_good (Running c env h) f = run_good c env h f
    step_good (Arriving l ws h) f = arrive_good l (slice_get p.functions l) ws h refl
    step_good (Comparing t ws k h) f = compared_good ws t k h
    step_good (Failed w) f = tt

  pub orderly_named : (input : List ℕ) (n : ℕ) → AllNamed ((closed_run p input).memory n)
  orderly_named input n =
      store_named_by (closed_machine p) (λ f. Fit f.doing) (λ f cells a fit e. if_some (Good cells) (step p (record { cells = cells; input = f.input }) f.doing) a e (step_good cells f.input f.doing fit)) (start_closed p input) o.main (λ a x s k. absurd (cc)) n
