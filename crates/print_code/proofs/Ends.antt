-- what the straight code prints, and how a run of an image that prints a text ends
use Rattle.std.proofs.Common.{◌≡◌, ℕ, suc, ◌+◌, ◌-◌, ◌*◌, ◌^◌, ◌<◌, ◌≤◌, List, [], ◌∷◌, ◌++◌, length, Option, arith, refl, sym, ap, subst, ◌∙◌}
use Rattle.std.specs.Prelude.{All, replicate}
use Rattle.std.proofs.lemmas.List.{append-nil, take_all}
use Rattle.rv_isa.specs.declared.word.Ins.{Ins}
use Rattle.rv_machine.specs.Run.{World, Cut, Mend, Runs, Exited, Trapped, Turn, behaviour}
use Rattle.print_code.specs.Code.{bytes_of, pieces_code, whole_code, data_at, image_of, IsStraight}
use Rattle.elf_static.specs.declared.image.Image.{Image}
use Rattle.elf_static.specs.Layout.{round_up, writable_segment}
use Rattle.rv_machine.specs.Memory.{memory_of, areas_of}
use Rattle.print_code.specs.Prints.{Prints}
use Rattle.smlc_jobs.specs.Runs.{begun}
use Rattle.print_code.specs.Code.{IsPositive, total}
use Rattle.smlc_jobs.specs.Write.{IsPrefix}
use Rattle.print_code.proofs.Reach.{reaches_end, Wrote, behaviour-more, behaviour-ended}
use Rattle.print_code.proofs.Fetch.{At, memory_areas}
use Rattle.print_code.proofs.Straight.{run_code, Finishes}

-- ---- sizes

length-bytes_of : (is : List Ins) → length (bytes_of is) ≡ 4 * length is
length-bytes_of [] = refl
length-bytes_of (i ∷ is) = let again = length-bytes_of is in omega (arith, again)

length-pieces_code : (ns : List ℕ) → length (pieces_code ns) ≡ 8 * length ns + 3
length-pieces_code [] = refl
length-pieces_code (n ∷ ns) = let again = length-pieces_code ns in omega (arith, again)

pub length-code : (ns : List ℕ) → length (bytes_of (whole_code ns)) ≡ 32 * length ns + 16
length-code ns = omega (arith, length-bytes_of (whole_code ns), length-pieces_code ns)

pub pieces-total : (ns : List ℕ) → All IsPositive ns → length ns ≤ total ns
pieces-total [] h = omega arith
pieces-total (n ∷ ns) h =
    let some : 0 < n = h 0 n (omega arith) in
    let again : length ns ≤ total ns = pieces-total ns (λ k d p. h (suc k) d (omega arith)) in
    omega arith

front_nothing : (front rest : List ℕ) → front ++ rest ≡ [] → front ≡ []
front_nothing [] rest h = refl
front_nothing (x ∷ front) rest h = absurd (cc)

-- ---- two behaviours that have ended

is_ended : (m : Mend) → (m ≡ Runs → ⊥) → Type 0
is_ended m h = Unit {0}

same_end : (n m : ℕ) (w : World) (c : List Cut) → ((behaviour n w c).mend ≡ Runs → ⊥) → ((behaviour m w c).mend ≡ Runs → ⊥) → behaviour n w c ≡ behaviour m w c
same_end n m w c p q =
    let a = behaviour-ended n m w c p in
    let b = behaviour-ended m n w c q in
    let k : a.0 ≡ b.0 = omega (arith, a.1, b.1) in
    sym a.2 ∙ ap (λ (k : ℕ). behaviour k w c) k ∙ b.2

-- what comes of a run that is to print a text
abbrev pub Concludes : Mend → List ℕ → List ℕ → List ℕ → Type 0
Concludes (Exited n) text out err = (n ≡ 0) × (out ≡ text) × (err ≡ [])
Concludes (Trapped pc word) text out err = ⊥
Concludes Runs text out err = IsPrefix out text × (err ≡ [])

module _ (text : List ℕ) (w : World) (c : List Cut) (last : ℕ)
    (exits : (behaviour last w c).mend ≡ Exited 0) (out_is : (behaviour last w c).world.out ≡ text) (err_is : (behaviour last w c).world.err ≡ []) where
  done_ends : (behaviour last w c).mend ≡ Runs → ⊥
  done_ends h = absurd (cc)

  prefix : (n : ℕ) (v : World) → (behaviour n w c).world ≡ v → IsPrefix v.out text × (v.err ≡ [])
  prefix n v h =
      let a = behaviour-more n last w c in
      let b = behaviour-ended last n w c done_ends in
      let k : a.0 ≡ b.0 = omega (arith, a.1, b.1) in
      let same : (behaviour a.0 w c).world ≡ (behaviour last w c).world = ap (λ (k : ℕ). (behaviour k w c).world) k ∙ ap (λ (t : Turn). t.world) b.2 in
      let m : Wrote (behaviour n w c).world (behaviour last w c).world = subst (λ (u : World). Wrote (behaviour n w c).world u) same a.2 in
      let m' : Wrote v (behaviour last w c).world = subst (λ (u : World). Wrote u (behaviour last w c).world) h m in
      ((m'.more, sym out_is ∙ m'.out), front_nothing v.err m'.more_err (sym m'.err ∙ err_is))

  pub concludes : (m : Mend) (n : ℕ) (out err : List ℕ) → (behaviour n w c).mend ≡ m → (behaviour n w c).world.out ≡ out → (behaviour n w c).world.err ≡ err → Concludes m text out err
  concludes (Exited x) n out err h o e =
      let stops : (behaviour n w c).mend ≡ Runs → ⊥ = λ r. absurd (cc) in
      let same = same_end n last w c stops done_ends in
      let m : Exited x ≡ Exited 0 = sym h ∙ ap (λ (t : Turn). t.mend) same ∙ exits in
      (cc, sym o ∙ ap (λ (t : Turn). t.world.out) same ∙ out_is, sym e ∙ ap (λ (t : Turn). t.world.err) same ∙ err_is)
  concludes (Trapped pc word) n out err h o e =
      let stops : (behaviour n w c).mend ≡ Runs → ⊥ = λ r. absurd (cc) in
      let same = same_end n last w c stops done_ends in
      let m : Trapped pc word ≡ Exited 0 = sym h ∙ ap (λ (t : Turn). t.mend) same ∙ exits in
      absurd (cc)
  concludes Runs n out err h o e =
      let p = prefix n (behaviour n w c).world refl in
      ((p.0.0, p.0.1 ∙ ap (λ (x : List ℕ). x ++ p.0.0) o), sym e ∙ p.1)

-- ---- the image

-- where the read-only data begin
pub data-round_up : (lengths : List ℕ) → round_up 4096 (65536 + length (bytes_of (whole_code lengths))) ≡ data_at lengths
data-round_up lengths = let size = length-code lengths in omega arith

memory_is : (code text spare : List ℕ) → (code ++ replicate (length code - length code) 0) ++ ((text ++ replicate (length text - length text) 0) ++ spare) ≡ code ++ (text ++ spare)
memory_is code text spare =
    let none : length code - length code ≡ 0 = omega arith in
    let none' : length text - length text ≡ 0 = omega arith in
    rw (none, none', append-nil code, append-nil text) refl

-- the image of pieces prints their text
pub straight_prints : (lengths text : List ℕ) → IsStraight lengths text → Prints (image_of lengths text) text (64 * (1 + length text))
straight_prints lengths text s = λ input cuts.
    let code = bytes_of (whole_code lengths) in
    let d = data_at lengths in
    let few : length lengths ≤ 1048576 = omega (arith, pieces-total lengths s.positive, s.sums, s.bounded) in
    let size = length-code lengths in
    let apart : 65536 + length code ≤ d = omega (arith, size) in
    let bounded : d + length text < 2 ^ 40 = omega (arith, s.bounded) in
    let w : World = begun (image_of lengths text) input in
    let spare = memory_of (writable_segment code text 0 0 ∷ []) in
    let behind = areas_of (writable_segment code text 0 0 ∷ []) in
    let areas : w.state.areas ≡ memory_areas code text d behind = ap (λ (a : ℕ). memory_areas code text a behind) (data-round_up lengths) in
    let at : At code text d 65536 w.state = record { pc_is = refl; spare = spare; more = behind; bytes_is = memory_is code text spare; areas_is = areas; regs_are = refl } in
    let f : Finishes code text d apart bounded (8 * total lengths + 3) (length text) w cuts = run_code code text d apart bounded lengths w cuts refl at refl refl s.positive s.sums s.bounded (omega arith) (omega arith) in
    let comes = reaches_end f.leads.count w f.world cuts f.cuts (Exited 0) f.leads.reaches f.exits in
    record {
      count = suc f.leads.count;
      within = omega (arith, f.leads.within, s.sums);
      exits = ap (λ (t : Turn). t.mend) comes;
      out = ap (λ (t : Turn). t.world.out) comes ∙ f.out ∙ take_all (length text) text (omega arith);
      err = ap (λ (t : Turn). t.world.err) comes ∙ f.err;
    }

-- more instructions may be done
pub prints-more : (image : Image) (text : List ℕ) (few most : ℕ) → few ≤ most → Prints image text few → Prints image text most
prints-more image text few most p h = λ input cuts.
    let k = h input cuts in
    record { count = k.count; within = omega (arith, k.within); exits = k.exits; out = k.out; err = k.err }

-- what comes of a run of an image that prints a text
pub prints_concludes : (image : Image) (text : List ℕ) (most : ℕ) (input : Option (List ℕ)) (m : Mend) (n : ℕ) (cuts : List Cut) (out err : List ℕ) → Prints image text most →
    (behaviour n (begun image input) cuts).mend ≡ m → (behaviour n (begun image input) cuts).world.out ≡ out → (behaviour n (begun image input) cuts).world.err ≡ err → Concludes m text out err
prints_concludes image text most input m n cuts out err prints h o e =
    let k = prints input cuts in
    concludes text (begun image input) cuts k.count k.exits k.out k.err m n out err h o e
