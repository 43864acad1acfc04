-- Functions with their spill records.
use Rattle.std.proofs.Common.{◌≡◌, ℕ, zero, suc, ◌-◌, ◌<◌, ◌≤◌, Bool, true, false, List, [], ◌∷◌, ◌++◌, length, drop, map, cond, refl, sym, ap, ◌∙◌, subst, arith}
use Rattle.std.specs.Prelude.{slice_index_or, flat_map, nat_lt}
use Rattle.std.specs.List.{AllByRecursion}
use Rattle.std.proofs.Math.Seq.{drop-cons}
use Rattle.std.proofs.lemmas.Bool.{ltb-true, ltb-false}
use Rattle.smlc_base.specs.declared.point.Point.{Point}
use Rattle.smlc_base.specs.declared.point.Site.{Site}
use Rattle.sml_tree.specs.IsBare.{IsDistinct}
use Rattle.sml_tree.specs.Order.{AscendFrom}
use Rattle.closure_ir.specs.declared.body.Function.{Function}
use Rattle.closure_ir.specs.Program as closing
use Rattle.closure_ir.specs.Program.{Closed}
use Rattle.closure_ir.specs.Kept as kept
use Rattle.placed_ir.specs.declared.body.Body.{Body}
use Rattle.placed_ir.specs.declared.body.Function.{Function as FunctionThere}
use Rattle.placed_ir.specs.Code as placed
use Rattle.placed_ir.specs.Program as placing
use Rattle.placed_ir.specs.Program.{Placed}
use Rattle.placed_ir.specs.Kept as there
use Rattle.place_laws.specs.Place.{nowhere, place_code, place_plain, place_routine, place_program, greater, greatest_frame, frame_size, spills}
use Rattle.place_bodies.proofs.Unfold.{AreNumbered}
use Rattle.reg_spill.specs.Frames.{with_frame, most_words}
use Rattle.reg_spill.specs.Leads.{AreKept}

-- one more in front
pub most_back : (fs : List FunctionThere) (i old new : ℕ) (d : FunctionThere) → 0 < i → i ≤ length fs → old ≡ most_words (drop i fs) → new ≡ greater (frame_size (slice_index_or fs (i - 1) d).frame) old → new ≡ most_words (drop (i - 1) fs)
most_back fs i old new d pos le h e =
    let next : suc (i - 1) ≡ i = omega arith in
    let f = slice_index_or fs (i - 1) d in
    let front : drop (i - 1) fs ≡ f ∷ drop i fs = drop-cons fs (i - 1) d (omega arith) ∙ ap (λ k. f ∷ drop k fs) next in
    e ∙ ap (greater (frame_size f.frame)) h ∙ sym (ap most_words front)

-- ---- The tree

abbrev IsPlaced : Closed → List Body → Function → Type 0
IsPlaced p bodies f = placing.code_at bodies f.body ≡ place_plain (closing.routine_of p.bodies f)

module _ (p : Closed) (bodies : List Body) (frames : ℕ → ℕ) (words : (i : ℕ) → frames i ≡ spills (placing.code_at bodies i)) where
  -- what has its words in front is what spills as much
  framed_whole : (i : ℕ) (c : placed.Code) → placing.code_at bodies i ≡ c → placing.framed (frames i) (placing.code_at bodies i) ≡ placing.framed (spills c) c
  framed_whole i c e = ap (λ n. placing.framed n (placing.code_at bodies i)) (words i) ∙ ap (λ d. placing.framed (spills d) d) e

  functions_whole : (fs : List Function) → AllByRecursion (IsPlaced p bodies) fs → map (placing.function_code bodies) (map (with_frame frames) fs) ≡ map place_routine (map (closing.routine_of p.bodies) fs)
  functions_whole [] h = refl
  functions_whole (f ∷ fs) h =
      let rest = map (placing.function_code bodies) (map (with_frame frames) fs) in
      let r = place_routine (closing.routine_of p.bodies f) in
      ap (λ c. c ∷ rest) (framed_whole f.body (place_plain (closing.routine_of p.bodies f)) h.0) ∙ ap (λ cs. r ∷ cs) (functions_whole fs h.1)

  most_greatest : (fs : List Function) → AllByRecursion (IsPlaced p bodies) fs → most_words (map (with_frame frames) fs) ≡ greatest_frame (map (closing.routine_of p.bodies) fs)
  most_greatest [] h = refl
  most_greatest (f ∷ fs) h =
      ap (λ n. greater (frame_size n) (most_words (map (with_frame frames) fs))) (words f.body ∙ ap spills h.0) ∙ ap (greater (frame_size (spills (place_plain (closing.routine_of p.bodies f))))) (most_greatest fs h.1)

  spill_whole : (frame : ℕ) (functions : List FunctionThere) (main : placed.Code) → frame ≡ frames 0 → functions ≡ map (with_frame frames) p.functions → placing.code_at bodies 0 ≡ main → AllByRecursion (IsPlaced p bodies) p.functions → greater (frame_size frame) (most_words functions) ≡ greater (frame_size (spills main)) (greatest_frame (map (closing.routine_of p.bodies) p.functions))
  spill_whole frame functions main e f g h =
      ap (λ n. greater (frame_size n) (most_words functions)) (e ∙ words 0 ∙ ap spills g) ∙ ap (λ fs. greater (frame_size (spills main)) (most_words fs)) f ∙ ap (greater (frame_size (spills main))) (most_greatest p.functions h)

abbrev tree_with : placed.Code → List placed.Code → List Point → List Site → List (List ℕ) → List (List ℕ) → ℕ → placed.Tree
tree_with main functions points sites texts exns spill = record { main = main; functions = functions; points = points; sites = sites; texts = texts; exns = exns; spill = spill }

-- a program is placed that has the argument's tables, and the words of its bodies beside functions
pub tree_placed : (p : Closed) (q : Placed) (frames : ℕ → ℕ) → ((i : ℕ) → frames i ≡ spills (placing.code_at q.bodies i)) → q.frame ≡ frames 0 → q.functions ≡ map (with_frame frames) p.functions → q.spill ≡ greater (frame_size q.frame) (most_words q.functions) → q.points ≡ p.points → q.sites ≡ p.sites → q.texts ≡ p.texts → q.exns ≡ p.exns →
    placing.code_at q.bodies 0 ≡ place_code nowhere (closing.code_at p.bodies 0) → AllByRecursion (IsPlaced p q.bodies) p.functions → placing.tree_of q ≡ place_program (closing.tree_of p)
tree_placed p q frames words frame functions spill points sites texts exns main all =
    let t = place_program (closing.tree_of p) in
    let here = placing.tree_of q in
    ap (λ c. tree_with c here.functions q.points q.sites q.texts q.exns q.spill) (ap (λ n. placing.framed n (placing.code_at q.bodies 0)) frame ∙ framed_whole p q.bodies frames words 0 (place_code nowhere (closing.code_at p.bodies 0)) main)
    ∙ ap (λ cs. tree_with t.main cs q.points q.sites q.texts q.exns q.spill) (ap (map (placing.function_code q.bodies)) functions ∙ functions_whole p q.bodies frames words p.functions all)
    ∙ ap (λ x. tree_with t.main t.functions x q.sites q.texts q.exns q.spill) points
    ∙ ap (λ x. tree_with t.main t.functions p.points x q.texts q.exns q.spill) sites
    ∙ ap (λ x. tree_with t.main t.functions p.points p.sites x q.exns q.spill) texts
    ∙ ap (λ x. tree_with t.main t.functions p.points p.sites p.texts x q.spill) exns
    ∙ ap (tree_with t.main t.functions p.points p.sites p.texts p.exns) (spill ∙ spill_whole p q.bodies frames words q.frame q.functions (place_code nowhere (closing.code_at p.bodies 0)) frame functions main all)

-- ---- What the program keeps

greater_left : (m n : ℕ) → m ≤ greater m n
greater_left m n = by (nat_lt m n) refl
  where
    by : (b : Bool) → nat_lt m n ≡ b → m ≤ cond b n m
    by true e = let l : m < n = ltb-true m n e in omega arith
    by false e = omega arith

greater_right : (m n : ℕ) → n ≤ greater m n
greater_right m n = by (nat_lt m n) refl
  where
    by : (b : Bool) → nat_lt m n ≡ b → n ≤ cond b n m
    by true e = omega arith
    by false e = ltb-false m n e

-- a record that isn't greater than the program's number is in it
frame_kept : (q : Placed) (n : ℕ) → frame_size n ≤ q.spill → there.FrameKept q n
frame_kept q zero h = tt
frame_kept q (suc n) h = h

functions_kept : (p : Closed) (q : Placed) (frames : ℕ → ℕ) → length p.bodies ≡ length q.bodies → (fs : List Function) → AllByRecursion (kept.FunctionKept p) fs → most_words (map (with_frame frames) fs) ≤ q.spill → AllByRecursion (there.FunctionKept q) (map (with_frame frames) fs)
functions_kept p q frames e [] h le = tt
functions_kept p q frames e (f ∷ fs) h le =
    let a = greater_left (frame_size (frames f.body)) (most_words (map (with_frame frames) fs)) in
    let b = greater_right (frame_size (frames f.body)) (most_words (map (with_frame frames) fs)) in
    ((subst (λ n. f.body < n) e h.0.0, frame_kept q (frames f.body) (omega arith)), functions_kept p q frames e fs h.1 (omega arith))

same_bodies : (frames : ℕ → ℕ) (fs : List Function) → map (λ (f : FunctionThere). f.body) (map (with_frame frames) fs) ≡ map (λ (f : Function). f.body) fs
same_bodies frames [] = refl
same_bodies frames (f ∷ fs) = ap (λ ns. f.body ∷ ns) (same_bodies frames fs)

pub program_kept : (p : Closed) (q : Placed) (frames : ℕ → ℕ) → kept.IsProgram p → AreKept p q.bodies → AreNumbered q.bodies → length q.bodies ≡ length p.bodies → flat_map there.body_parts q.bodies ≡ flat_map kept.body_parts p.bodies → q.functions ≡ map (with_frame frames) p.functions → q.spill ≡ greater (frame_size q.frame) (most_words q.functions) → q.points ≡ p.points → q.texts ≡ p.texts → q.exns ≡ p.exns → there.IsProgram q
program_kept p q frames h bodies numbered len parts functions spill points texts exns =
    let places : there.places q ≡ kept.places p =
    ap (λ ns. 0 ∷ (ns ++ flat_map there.body_parts q.bodies)) (ap (map (λ (f : FunctionThere). f.body)) functions ∙ same_bodies frames p.functions) ∙ ap (λ ns. 0 ∷ (map (λ (f : Function). f.body) p.functions ++ ns)) parts in
    let many : length q.functions ≡ length p.functions = ap length functions ∙ long p.functions in
    let first = greater_left (frame_size q.frame) (most_words q.functions) in
    let others = greater_right (frame_size q.frame) (most_words q.functions) in
    record {
      numbered = numbered;
      apart = subst IsDistinct (sym places) h.apart;
      all = ap length places ∙ h.all ∙ sym len;
      points = subst (AscendFrom 0) (sym points) h.points;
      fewer = let a = h.fewer in let b : length q.points ≡ length p.points = ap length points in omega arith;
      one_more = let a = h.one_more in let b : length q.points ≡ length p.points = ap length points in omega arith;
      functions = subst (AllByRecursion (there.FunctionKept q)) (sym functions) (functions_kept p q frames (sym len) p.functions h.functions (subst (λ fs. most_words fs ≤ q.spill) functions (omega arith)));
      frame = frame_kept q q.frame (omega arith);
      kept = bodies q (sym many) (sym (ap length texts)) (sym (ap length exns));
    }
  where
    long : (fs : List Function) → length (map (with_frame frames) fs) ≡ length fs
    long [] = refl
    long (f ∷ fs) = ap suc (long fs)
