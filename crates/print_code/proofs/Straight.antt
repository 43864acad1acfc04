-- what the straight code does
use Rattle.std.proofs.Common.{◌≡◌, ◌≢◌, ℕ, zero, suc, pos, negsuc, ◌+◌, ◌-◌, ◌*◌, ◌/◌, ◌%◌, ◌^◌, ◌<◌, ◌≤◌, List, [], ◌∷◌, ◌++◌, length, take, drop, Some, false, ◌==◌, arith, refl, sym, ap, ◌∙◌}
use Rattle.std.specs.Prelude.{slice_range, All}
use Rattle.std.proofs.Math.Seq.{take-add}
use Rattle.std.proofs.lemmas.List.{append-nil, drop-append-le, take-append-le, length-drop}
use Rattle.std.proofs.Math.Seq.{drop-append-add}
use Rattle.std.proofs.lemmas.Bool.Decides.{nat_tests}
use Rattle.rv_isa.specs.declared.table.Op.TheVariants.{Lui, Bne}
use Rattle.rv_isa.specs.declared.word.Ins.{Ins}
use Rattle.rv_isa.specs.Word.{ins, Fits}
use Rattle.rv_machine.specs.declared.hart.Next.TheVariants.{Going, Exit, Write}
use Rattle.rv_machine.specs.declared.hart.Area.{Area}
use Rattle.rv_machine.specs.State.{State, reg, located, next}
use Rattle.rv_machine.specs.Step.{step_of, executed, writes}
use Rattle.rv_machine.specs.Run.{World, Cut, Runs, Exited, turn, moved, later, after_write}
use Rattle.print_code.specs.Code.{loop_code, piece_code, exit_code, pieces_code, bytes_of}
use Rattle.print_code.specs.Code.{IsPositive, total}
use Rattle.print_code.proofs.Reach.{Leads, leads_on, leads_one, leads_none}
use Rattle.print_code.proofs.Exec.{ex_li, ex_lui, ex_low, ex_add, ex_sub, ex_bne_off, ex_bne_on, ex_write, ex_exit}
use Rattle.print_code.proofs.FitsCode.{fits_addi, fits_lui, fits_ecall, fits_add, fits_sub, fits_bne, fits_low, fits_high}
use Rattle.print_code.proofs.Fetch.{Stands, At, wr, memory_areas, stands_next, code_room, fetched_here, at_wr, reg_same, reg_other}

differ : (a b : ℕ) → (a == b) ≡ false → a ≢ b
differ a b h = grind (arith, nat_tests)

module _ (code text : List ℕ) (data_address : ℕ) (apart : 65536 + length code ≤ data_address) (bounded : data_address + length text < 2 ^ 40) where
  -- one instruction that writes a register
  step_wr : (w : World) (c : List Cut) (pc : ℕ) (i : Ins) (is : List Ins) (n v : ℕ) → Stands code text data_address pc (i ∷ is) → Fits i → At code text data_address pc w.state →
      executed i w.state ≡ writes n v w.state → Leads 1 w c (record w { state = wr code text data_address n v w.state }) c
  step_wr w c pc i is n v h f a e =
      let s : step_of w.state ≡ writes n v w.state = fetched_here code text data_address pc i is w.state h f a ∙ e in
      leads_one w (record w { state = wr code text data_address n v w.state }) c c (rw s refl)

  -- x10, x11 and x12 at the head of the loop
  pub record Head (pc r off : ℕ) (w : World) : Type 0 where
    pub at : At code text data_address pc w.state
    pub x11 : reg w.state 11 ≡ data_address + off
    pub x12 : reg w.state 12 ≡ r
    pub out : w.out ≡ take off text
    pub err : w.err ≡ []

  -- a write of the range
  range_found : (r off : ℕ) (s : State) (more : List Area) → 0 < r → off + r ≤ length text → s.areas ≡ memory_areas code text data_address more → located s 4 (data_address + off) r ≡ Some (length code + off)
  range_found r off s more p q e = rw e (grind (arith, nat_tests))

  range_bytes : (c off : ℕ) (spare : List ℕ) → off + c ≤ length text → slice_range (code ++ (text ++ spare)) (length code + off) (length code + off + c) ≡ take c (drop off text)
  range_bytes c off spare p =
      let n : length code + off + c - (length code + off) ≡ c = omega arith in
      rw (n, drop-append-add code (text ++ spare) off, drop-append-le off text spare (omega arith)) (take-append-le c (drop off text) spare (simp length-drop (omega arith)))

  -- one turn of the loop
  pub record Turned (pc r off : ℕ) (w : World) (c : List Cut) : Type 0 where
    pub count : ℕ
    pub some : 0 < count
    pub most : count ≤ r
    pub world : World
    pub leads : Leads 6 w c world (later c)
    pub ended : count ≡ r → Head (pc + 24) 0 (off + r) world
    pub again : count < r → Head pc (r - count) (off + count) world

  moved-some : (c : List Cut) (r : ℕ) → 0 < r → (0 < moved c r) × (moved c r ≤ r)
  moved-some [] r p = (p, omega arith)
  moved-some (x ∷ c) r p = (grind arith, grind arith)

  turn_write : (w : World) (c : List Cut) (k r : ℕ) → step_of w.state ≡ (Write 1 k r, w.state) → turn w c ≡ record { mend = Runs; world = after_write 1 k (moved c r) w; cuts = later c }
  turn_write w c k r h = rw h refl

  -- the same, before its branch
  record Before (pc r off : ℕ) (rest : List Ins) (w : World) (c : List Cut) : Type 0 where
    count : ℕ
    some : 0 < count
    most : count ≤ r
    world : World
    leads : Leads 5 w c world (later c)
    stands : Stands code text data_address (pc + 20) (ins Bne 0 12 0 (negsuc 19) ∷ rest)
    here : Head (pc + 20) (r - count) (off + count) world

  before_branch : (pc r off : ℕ) (rest : List Ins) (w : World) (c : List Cut) → Stands code text data_address pc (loop_code ++ rest) → Head pc r off w → 0 < r → off + r ≤ length text → Before pc r off rest w c
  before_branch pc r off rest w c h d p q =
      let s0 = w.state in
      let h1 = stands_next code text data_address pc _ _ h in
      let h2 = stands_next code text data_address (pc + 4) _ _ h1 in
      let h3 = stands_next code text data_address (pc + 4 + 4) _ _ h2 in
      let h4 = stands_next code text data_address (pc + 4 + 4 + 4) _ _ h3 in
      let h5 = stands_next code text data_address (pc + 4 + 4 + 4 + 4) _ _ h4 in
      let room : pc + 24 < 2 ^ 50 = omega (arith, code_room code text data_address (pc + 4 + 4 + 4 + 4 + 4) _ _ h5) in
      let s1 = wr code text data_address 10 1 s0 in
      let a1 : At code text data_address (pc + 4) s1 = at_wr code text data_address pc 10 1 s0 refl (omega arith) d.at in
      let s2 = wr code text data_address 17 64 s1 in
      let a2 : At code text data_address (pc + 4 + 4) s2 = at_wr code text data_address (pc + 4) 17 64 s1 refl (omega arith) a1 in
      let m = moved c r in
      let ms = moved-some c r p in
      let s3 = wr code text data_address 10 m s2 in
      let a3 : At code text data_address (pc + 4 + 4 + 4) s3 = at_wr code text data_address (pc + 4 + 4) 10 m s2 refl (omega arith) a2 in
      let s4 = wr code text data_address 11 (data_address + off + m) s3 in
      let a4 : At code text data_address (pc + 4 + 4 + 4 + 4) s4 = at_wr code text data_address (pc + 4 + 4 + 4) 11 (data_address + off + m) s3 refl (omega arith) a3 in
      let s5 = wr code text data_address 12 (r - m) s4 in
      let a5 : At code text data_address (pc + 4 + 4 + 4 + 4 + 4) s5 = at_wr code text data_address (pc + 4 + 4 + 4 + 4) 12 (r - m) s4 refl (omega arith) a4 in
      let n17_10 = differ 10 17 refl in
      let n17_11 = differ 11 17 refl in
      let n17_12 = differ 12 17 refl in
      let n10_11 = differ 11 10 refl in
      let n10_12 = differ 12 10 refl in
      let n11_12 = differ 12 11 refl in
      let n11_10 = differ 10 11 refl in
      let n12_11 = differ 11 12 refl in
      let x17_2 : reg s2 17 ≡ 64 = reg_same code text data_address (pc + 4) 17 64 s1 refl (omega arith) a1 in
      let x10_2 : reg s2 10 ≡ 1 = reg_other code text data_address 17 10 64 s1 refl refl n17_10 ∙ reg_same code text data_address pc 10 1 s0 refl (omega arith) d.at in
      let x11_2 : reg s2 11 ≡ data_address + off = reg_other code text data_address 17 11 64 s1 refl refl n17_11 ∙ reg_other code text data_address 10 11 1 s0 refl refl n10_11 ∙ d.x11 in
      let x12_2 : reg s2 12 ≡ r = reg_other code text data_address 17 12 64 s1 refl refl n17_12 ∙ reg_other code text data_address 10 12 1 s0 refl refl n10_12 ∙ d.x12 in
      let k = length code + off in
      let found : located s2 4 (reg s2 11) r ≡ Some k = rw x11_2 (range_found r off s2 a2.more p q a2.areas_is) in
      let wrote : step_of s2 ≡ (Write 1 k r, s2) = fetched_here code text data_address (pc + 4 + 4) _ _ s2 h2 fits_ecall a2 ∙ ex_write s2 r k x17_2 x10_2 x12_2 p found in
      let x10_3 : reg s3 10 ≡ m = reg_same code text data_address (pc + 4 + 4) 10 m s2 refl (omega arith) a2 in
      let x11_3 : reg s3 11 ≡ data_address + off = reg_other code text data_address 10 11 m s2 refl refl n10_11 ∙ x11_2 in
      let x12_3 : reg s3 12 ≡ r = reg_other code text data_address 10 12 m s2 refl refl n10_12 ∙ x12_2 in
      let x12_4 : reg s4 12 ≡ r = reg_other code text data_address 11 12 (data_address + off + m) s3 refl refl n11_12 ∙ x12_3 in
      let x10_4 : reg s4 10 ≡ m = reg_other code text data_address 11 10 (data_address + off + m) s3 refl refl n11_10 ∙ x10_3 in
      let x11_4 : reg s4 11 ≡ data_address + off + m = reg_same code text data_address (pc + 4 + 4 + 4) 11 (data_address + off + m) s3 refl (omega arith) a3 in
      let x11_5 : reg s5 11 ≡ data_address + off + m = reg_other code text data_address 12 11 (r - m) s4 refl refl n12_11 ∙ x11_4 in
      let x12_5 : reg s5 12 ≡ r - m = reg_same code text data_address (pc + 4 + 4 + 4 + 4) 12 (r - m) s4 refl (omega arith) a4 in
      let w1 : World = record w { state = s1 } in
      let w2 : World = record w { state = s2 } in
      let w3 : World = after_write 1 k m w2 in
      let w4 : World = record w3 { state = s4 } in
      let w5 : World = record w3 { state = s5 } in
      let l1 : Leads 1 w c w1 c = step_wr w c pc _ _ 10 1 h (fits_addi 10 0 (pos 1) (omega arith) (omega arith) (omega arith)) d.at (ex_li s0 10 (pos 1) 1 refl (omega arith)) in
      let l2 : Leads 1 w1 c w2 c = step_wr w1 c (pc + 4) _ _ 17 64 h1 (fits_addi 17 0 (pos 64) (omega arith) (omega arith) (omega arith)) a1 (ex_li s1 17 (pos 64) 64 refl (omega arith)) in
      let l3 : Leads 1 w2 c w3 (later c) = leads_one w2 w3 c (later c) (turn_write w2 c k r wrote) in
      let l4 : Leads 1 w3 (later c) w4 (later c) = step_wr w3 (later c) (pc + 4 + 4 + 4) _ _ 11 (data_address + off + m) h3 fits_add a3 (ex_add s3 (data_address + off) m x11_3 x10_3 (omega arith)) in
      let l5 : Leads 1 w4 (later c) w5 (later c) = step_wr w4 (later c) (pc + 4 + 4 + 4 + 4) _ _ 12 (r - m) h4 fits_sub a4 (ex_sub s4 r m x12_4 x10_4 ms.1 (omega arith)) in
      let l12 : Leads 2 w c w2 c = leads_on 1 1 2 w w1 w2 c c c l1 l2 (omega arith) in
      let l13 : Leads 3 w c w3 (later c) = leads_on 2 1 3 w w2 w3 c c (later c) l12 l3 (omega arith) in
      let l14 : Leads 4 w c w4 (later c) = leads_on 3 1 4 w w3 w4 c (later c) (later c) l13 l4 (omega arith) in
      let l15 : Leads 5 w c w5 (later c) = leads_on 4 1 5 w w4 w5 c (later c) (later c) l14 l5 (omega arith) in
      let twenty : pc + 4 + 4 + 4 + 4 + 4 ≡ pc + 20 = omega arith in
      let piece : slice_range s2.bytes k (k + m) ≡ take m (drop off text) = rw a2.bytes_is (range_bytes m off a2.spare (omega arith)) in
      let grown : w5.out ≡ take (off + m) text = ap (λ (z : List ℕ). z ++ slice_range s2.bytes k (k + m)) d.out ∙ ap (λ (z : List ℕ). take off text ++ z) piece ∙ sym (take-add off m text) in
      let sums : data_address + off + m ≡ data_address + (off + m) = omega arith in
      record {
        count = m;
        some = ms.0;
        most = ms.1;
        world = w5;
        leads = l15;
        stands = rw twenty at h5;
        here = record { at = rw twenty at a5; x11 = x11_5 ∙ sums; x12 = x12_5; out = grown; err = d.err };
      }

  pub turn_loop : (pc r off : ℕ) (rest : List Ins) (w : World) (c : List Cut) → Stands code text data_address pc (loop_code ++ rest) → Head pc r off w → 0 < r → off + r ≤ length text → Turned pc r off w c
  turn_loop pc r off rest w c h d p q = let b = before_branch pc r off rest w c h d p q in finish b (r - b.count) refl
    where
      finish : (b : Before pc r off rest w c) (n : ℕ) → r - b.count ≡ n → Turned pc r off w c
      finish b zero e =
          let s = b.world.state in
          let t = next s in
          let w6 : World = record b.world { state = t } in
          let x12 : reg s 12 ≡ 0 = b.here.x12 ∙ e in
          let stepped : step_of s ≡ (Going, t) = fetched_here code text data_address (pc + 20) _ rest s b.stands fits_bne b.here.at ∙ ex_bne_off s x12 in
          let room = code_room code text data_address (pc + 20) _ rest b.stands in
          let l : Leads 1 b.world (later c) w6 (later c) = leads_one b.world w6 (later c) (later c) (rw stepped refl) in
          let all : b.count ≡ r = omega (arith, b.most) in
          record {
            count = b.count;
            some = b.some;
            most = b.most;
            world = w6;
            leads = leads_on 5 1 6 w b.world w6 c (later c) (later c) b.leads l (omega arith);
            ended = λ k. record {
              at = record { pc_is = rw b.here.at.pc_is (omega arith); spare = b.here.at.spare; more = b.here.at.more; bytes_is = b.here.at.bytes_is; areas_is = b.here.at.areas_is; regs_are = b.here.at.regs_are };
              x11 = b.here.x11 ∙ ap (λ (z : ℕ). data_address + (off + z)) all;
              x12 = x12;
              out = b.here.out ∙ ap (λ (z : ℕ). take (off + z) text) all;
              err = b.here.err;
            };
            again = λ k. absurd (omega arith);
          }
      finish b (suc n) e =
          let s = b.world.state in
          let t : State = record s { pc = pc } in
          let w6 : World = record b.world { state = t } in
          let room = code_room code text data_address (pc + 20) _ rest b.stands in
          let stepped : step_of s ≡ (Going, t) = fetched_here code text data_address (pc + 20) _ rest s b.stands fits_bne b.here.at ∙ ex_bne_on s pc (r - b.count) b.here.x12 (omega arith) b.here.at.pc_is (omega arith) h.aligned in
          let l : Leads 1 b.world (later c) w6 (later c) = leads_one b.world w6 (later c) (later c) (rw stepped refl) in
          record {
            count = b.count;
            some = b.some;
            most = b.most;
            world = w6;
            leads = leads_on 5 1 6 w b.world w6 c (later c) (later c) b.leads l (omega arith);
            ended = λ k. absurd (omega arith);
            again = λ k. record {
              at = record { pc_is = refl; spare = b.here.at.spare; more = b.here.at.more; bytes_is = b.here.at.bytes_is; areas_is = b.here.at.areas_is; regs_are = b.here.at.regs_are };
              x11 = b.here.x11;
              x12 = b.here.x12;
              out = b.here.out;
              err = b.here.err;
            };
          }

  -- the whole loop
  pub record Looped (pc r off : ℕ) (w : World) (c : List Cut) : Type 0 where
    pub world : World
    pub cuts : List Cut
    pub leads : Leads (6 * r) w c world cuts
    pub done : Head (pc + 24) 0 (off + r) world

  pub whole_loop : (fuel pc r off : ℕ) (rest : List Ins) (w : World) (c : List Cut) → Stands code text data_address pc (loop_code ++ rest) → Head pc r off w → 0 < r → off + r ≤ length text → r ≤ fuel → Looped pc r off w c
  whole_loop zero pc r off rest w c h d p q f = absurd (omega arith)
  whole_loop (suc fuel) pc r off rest w c h d p q f =
      let t = turn_loop pc r off rest w c h d p q in
      finish t (λ k. whole_loop fuel pc (r - t.count) (off + t.count) rest t.world (later c) h (t.again k) (omega arith) (omega (arith, t.most)) (omega (arith, t.some))) (r - t.count) refl
    where
      finish : (t : Turned pc r off w c) → (t.count < r → Looped pc (r - t.count) (off + t.count) t.world (later c)) → (n : ℕ) → r - t.count ≡ n → Looped pc r off w c
      finish t next_turns zero e =
          let all : t.count ≡ r = omega (arith, t.most) in
          record { world = t.world; cuts = later c; leads = leads_on 6 0 (6 * r) w t.world t.world c (later c) (later c) t.leads (leads_none t.world (later c)) (omega arith); done = t.ended all }
      finish t next_turns (suc n) e =
          let less : t.count < r = omega arith in
          let l = next_turns less in
          let sum : off + t.count + (r - t.count) ≡ off + r = omega arith in
          record { world = l.world; cuts = l.cuts; leads = leads_on 6 (6 * (r - t.count)) (6 * r) w t.world l.world c (later c) l.cuts t.leads l.leads (omega (arith, t.some, t.most)); done = rw sum at l.done }

  -- ---- all pieces, and the exit

  -- at the start of a piece, or of the exit
  pub record Begins (pc off : ℕ) (w : World) : Type 0 where
    pub at : At code text data_address pc w.state
    pub x11 : reg w.state 11 ≡ data_address + off
    pub out : w.out ≡ take off text
    pub err : w.err ≡ []

  -- a run that comes to the exit with the whole text written
  pub record Finishes (bound off : ℕ) (w : World) (c : List Cut) : Type 0 where
    pub world : World
    pub cuts : List Cut
    pub leads : Leads bound w c world cuts
    pub exits : turn world cuts ≡ record { mend = Exited 0; world = world; cuts = cuts }
    pub out : world.out ≡ take off text
    pub err : world.err ≡ []

  exit_run : (pc off : ℕ) (w : World) (c : List Cut) → Stands code text data_address pc exit_code → Begins pc off w → Finishes 2 off w c
  exit_run pc off w c h d =
      let s0 = w.state in
      let h1 = stands_next code text data_address pc _ _ h in
      let h2 = stands_next code text data_address (pc + 4) _ _ h1 in
      let room : pc + 12 < 2 ^ 50 = omega (arith, code_room code text data_address (pc + 4 + 4) _ _ h2) in
      let s1 = wr code text data_address 17 93 s0 in
      let a1 : At code text data_address (pc + 4) s1 = at_wr code text data_address pc 17 93 s0 refl (omega arith) d.at in
      let s2 = wr code text data_address 10 0 s1 in
      let a2 : At code text data_address (pc + 4 + 4) s2 = at_wr code text data_address (pc + 4) 10 0 s1 refl (omega arith) a1 in
      let x17 : reg s2 17 ≡ 93 = reg_other code text data_address 10 17 0 s1 refl refl (differ 17 10 refl) ∙ reg_same code text data_address pc 17 93 s0 refl (omega arith) d.at in
      let x10 : reg s2 10 ≡ 0 = reg_same code text data_address (pc + 4) 10 0 s1 refl (omega arith) a1 in
      let w1 : World = record w { state = s1 } in
      let w2 : World = record w { state = s2 } in
      let l1 : Leads 1 w c w1 c = step_wr w c pc _ _ 17 93 h (fits_addi 17 0 (pos 93) (omega arith) (omega arith) (omega arith)) d.at (ex_li s0 17 (pos 93) 93 refl (omega arith)) in
      let l2 : Leads 1 w1 c w2 c = step_wr w1 c (pc + 4) _ _ 10 0 h1 (fits_addi 10 0 (pos 0) (omega arith) (omega arith) (omega arith)) a1 (ex_li s1 10 (pos 0) 0 refl (omega arith)) in
      let stepped : step_of s2 ≡ (Exit 0, s2) = fetched_here code text data_address (pc + 4 + 4) _ _ s2 h2 fits_ecall a2 ∙ ex_exit s2 x17 x10 in
      record { world = w2; cuts = c; leads = leads_on 1 1 2 w w1 w2 c c c l1 l2 (omega arith); exits = rw stepped refl; out = d.out; err = d.err }

  -- the length of a piece comes into x12
  piece_start : (n pc off : ℕ) (rest : List Ins) (w : World) (c : List Cut) → n < 2 ^ 30 → Stands code text data_address pc (piece_code n ++ rest) → Begins pc off w →
      (w' : World) × Leads 2 w c w' c × Head (pc + 8) n off w'
  piece_start n pc off rest w c small h d =
      let s0 = w.state in
      let up = (n + 2048) / 4096 * 4096 in
      let h1 = stands_next code text data_address pc _ _ h in
      let room : pc + 8 < 2 ^ 50 = omega (arith, code_room code text data_address (pc + 4) _ _ h1) in
      let s1 = wr code text data_address 12 up s0 in
      let a1 : At code text data_address (pc + 4) s1 = at_wr code text data_address pc 12 up s0 refl (omega arith) d.at in
      let s2 = wr code text data_address 12 n s1 in
      let a2 : At code text data_address (pc + 4 + 4) s2 = at_wr code text data_address (pc + 4) 12 n s1 refl (omega arith) a1 in
      let x12_1 : reg s1 12 ≡ up = reg_same code text data_address pc 12 up s0 refl (omega arith) d.at in
      let x12_2 : reg s2 12 ≡ n = reg_same code text data_address (pc + 4) 12 n s1 refl (omega arith) a1 in
      let x11_2 : reg s2 11 ≡ data_address + off = reg_other code text data_address 12 11 n s1 refl refl (differ 11 12 refl) ∙ reg_other code text data_address 12 11 up s0 refl refl (differ 11 12 refl) ∙ d.x11 in
      let w1 : World = record w { state = s1 } in
      let w2 : World = record w { state = s2 } in
      let l1 : Leads 1 w c w1 c = step_wr w c pc _ _ 12 up h (fits_high 12 n (omega arith) small) d.at (ex_lui s0 12 up (omega arith)) in
      let l2 : Leads 1 w1 c w2 c = step_wr w1 c (pc + 4) _ _ 12 n h1 (fits_low n) a1 (ex_low s1 n small x12_1) in
      let eight : pc + 4 + 4 ≡ pc + 8 = omega arith in
      (w2, leads_on 1 1 2 w w1 w2 c c c l1 l2 (omega arith), record { at = rw eight at a2; x11 = x11_2; x12 = x12_2; out = d.out; err = d.err })

  pub run_pieces : (ns : List ℕ) (pc off : ℕ) (w : World) (c : List Cut) → Stands code text data_address pc (pieces_code ns) → Begins pc off w → All IsPositive ns → off + total ns ≤ length text →
      total ns < 2 ^ 30 → Finishes (8 * total ns + 2) (off + total ns) w c
  run_pieces [] pc off w c h d positive p small =
      let zero_more : off ≡ off + 0 = omega arith in
      let f : Finishes 2 off w c = exit_run pc off w c h d in
      record { world = f.world; cuts = f.cuts; leads = leads_on 2 0 2 w f.world f.world c f.cuts f.cuts f.leads (leads_none f.world f.cuts) (omega arith); exits = f.exits; out = rw (← zero_more) f.out; err = f.err }
  run_pieces (n ∷ ns) pc off w c h d positive p small =
      let some : 0 < n = positive 0 n (omega arith) in
      let p' : off + (n + total ns) ≤ length text = p in
      let small' : n + total ns < 2 ^ 30 = small in
      let h0 : Stands code text data_address pc (piece_code n ++ pieces_code ns) = h in
      let s = piece_start n pc off (pieces_code ns) w c (omega arith) h0 d in
      let h1 = stands_next code text data_address pc _ _ h0 in
      let h2 = stands_next code text data_address (pc + 4) _ _ h1 in
      let eight : pc + 4 + 4 ≡ pc + 8 = omega arith in
      let h8 : Stands code text data_address (pc + 8) (loop_code ++ pieces_code ns) = rw eight at h2 in
      let l = whole_loop n (pc + 8) n off (pieces_code ns) s.0 c h8 s.2 some (omega arith) (omega arith) in
      let h3 = stands_next code text data_address (pc + 8) _ _ h8 in
      let h4 = stands_next code text data_address (pc + 8 + 4) _ _ h3 in
      let h5 = stands_next code text data_address (pc + 8 + 4 + 4) _ _ h4 in
      let h6 = stands_next code text data_address (pc + 8 + 4 + 4 + 4) _ _ h5 in
      let h7 = stands_next code text data_address (pc + 8 + 4 + 4 + 4 + 4) _ _ h6 in
      let h9 = stands_next code text data_address (pc + 8 + 4 + 4 + 4 + 4 + 4) _ _ h7 in
      let all : pc + 8 + 4 + 4 + 4 + 4 + 4 + 4 ≡ pc + 8 + 24 = omega arith in
      let hn : Stands code text data_address (pc + 8 + 24) (pieces_code ns) = rw all at h9 in
      let b : Begins (pc + 8 + 24) (off + n) l.world = record { at = l.done.at; x11 = l.done.x11; out = l.done.out; err = l.done.err } in
      let rest = run_pieces ns (pc + 8 + 24) (off + n) l.world l.cuts hn b (λ k e q. positive (suc k) e (omega arith)) (omega arith) (omega arith) in
      let sums : off + n + total ns ≡ off + (n + total ns) = omega arith in
      let l2 = leads_on 2 (6 * n) (2 + 6 * n) w s.0 l.world c c l.cuts s.1 l.leads (omega arith) in
      record {
        world = rest.world;
        cuts = rest.cuts;
        leads = leads_on (2 + 6 * n) (8 * total ns + 2) (8 * (n + total ns) + 2) w l.world rest.world c l.cuts rest.cuts l2 rest.leads (omega arith);
        exits = rest.exits;
        out = rw (← sums) rest.out;
        err = rest.err;
      }

  -- the code from its first instruction on
  pub run_code : (ns : List ℕ) (w : World) (c : List Cut) → code ≡ bytes_of (ins Lui 11 0 0 (pos data_address) ∷ pieces_code ns) → At code text data_address 65536 w.state → w.out ≡ [] → w.err ≡ [] →
      All IsPositive ns → total ns ≡ length text → length text ≤ 1048576 → data_address % 4096 ≡ 0 → data_address < 2 ^ 31 → Finishes (8 * total ns + 3) (length text) w c
  run_code ns w c e a o r positive sums bound lined near =
      let h : Stands code text data_address 65536 (ins Lui 11 0 0 (pos data_address) ∷ pieces_code ns) = record { before = []; after = []; split = e ∙ sym (append-nil (bytes_of (ins Lui 11 0 0 (pos data_address) ∷ pieces_code ns))); place = refl; aligned = refl } in
      let h1 = stands_next code text data_address 65536 _ _ h in
      let s1 = wr code text data_address 11 data_address w.state in
      let a1 : At code text data_address (65536 + 4) s1 = at_wr code text data_address 65536 11 data_address w.state refl (omega arith) a in
      let x11 : reg s1 11 ≡ data_address = reg_same code text data_address 65536 11 data_address w.state refl (omega arith) a in
      let w1 : World = record w { state = s1 } in
      let l1 : Leads 1 w c w1 c = step_wr w c 65536 _ _ 11 data_address h (fits_lui 11 data_address (omega arith) (omega arith) lined) a (ex_lui w.state 11 data_address near) in
      let b : Begins (65536 + 4) 0 w1 = record { at = a1; x11 = x11 ∙ omega arith; out = o; err = r } in
      let f = run_pieces ns (65536 + 4) 0 w1 c h1 b positive (omega arith) (omega arith) in
      let all : 0 + total ns ≡ length text = omega arith in
      record { world = f.world; cuts = f.cuts; leads = leads_on 1 (8 * total ns + 2) (8 * total ns + 3) w w1 f.world c c f.cuts l1 f.leads (omega arith); exits = f.exits; out = rw all at f.out; err = f.err }
