-- the code in memory
use Rattle.std.proofs.Common.{◌≡◌, ◌≢◌, ℕ, ◌+◌, ◌-◌, ◌%◌, ◌^◌, ◌<◌, ◌≤◌, List, ◌∷◌, ◌++◌, length, Some, false, ◌==◌, arith, refl, sym, ap, ◌∙◌, append_assoc, length-append}
use Rattle.std.specs.Prelude.{slice_range}
use Rattle.std.specs.Int.{w32, to_le_bytes}
use Rattle.std.proofs.lemmas.List.{take_at, drop_at, get_or-set_same, get_or-set_other}
use Rattle.std.proofs.Math.ListN.{length-set}
use Rattle.std.proofs.lemmas.Nat.{from_le_bytes-to_le_bytes_4}
use Rattle.std.proofs.lemmas.Bool.Decides.{nat_tests}
use Rattle.rv_isa.specs.declared.word.Ins.{Ins}
use Rattle.rv_isa.specs.Word.{Fits, word_of, laid}
use Rattle.rv_isa.specs.Table.{shape_of}
use Rattle.rv_isa.proofs.Exact.{laid-bounded}
use Rattle.rv_isa.proofs.Numbers.{joined-Below}
use Rattle.rv_machine.specs.declared.hart.Area.{Area}
use Rattle.rv_machine.specs.State.{State, reg, located}
use Rattle.rv_machine.specs.Step.{step_of, executed, writes}
use Rattle.rv_machine.specs.Laws.{StandsAt}
use Rattle.rv_machine.proofs.Text.{step_of-standing}
use Rattle.print_code.specs.Code.{bytes_of}

module _ (code text : List ℕ) (data_address : ℕ) where
  -- the code, the text, and more areas behind them
  abbrev pub memory_areas : List Area → List Area
  memory_areas more = record { address = 65536; size = length code; flags = 5 } ∷ record { address = data_address; size = length text; flags = 4 } ∷ more

  -- the code goes on with these instructions
  pub record Stands (pc : ℕ) (is : List Ins) : Type 0 where
    pub before : List ℕ
    pub after : List ℕ
    pub split : code ≡ before ++ (bytes_of is ++ after)
    pub place : pc ≡ 65536 + length before
    pub aligned : pc % 4 ≡ 0

  -- the machine is there
  pub record At (pc : ℕ) (s : State) : Type 0 where
    pub pc_is : s.pc ≡ pc
    pub spare : List ℕ
    pub more : List Area
    pub bytes_is : s.bytes ≡ code ++ (text ++ spare)
    pub areas_is : s.areas ≡ memory_areas more
    pub regs_are : length s.regs ≡ 32

  pub stands_next : (pc : ℕ) (i : Ins) (is : List Ins) → Stands pc (i ∷ is) → Stands (pc + 4) is
  stands_next pc i is h =
      let word = to_le_bytes w32 (word_of i) in
      record {
        before = h.before ++ word;
        after = h.after;
        split = h.split ∙ ap (λ (z : List ℕ). h.before ++ z) (append_assoc word (bytes_of is) h.after) ∙ sym (append_assoc h.before word (bytes_of is ++ h.after));
        place = simp length-append (omega (arith, h.place));
        aligned = omega (arith, h.aligned);
      }

  pub code_room : (pc : ℕ) (i : Ins) (is : List Ins) → Stands pc (i ∷ is) → pc + 4 ≤ 65536 + length code
  code_room pc i is h = omega (arith, h.place, simp length-append at (ap length h.split))

  pub fetched_here : (pc : ℕ) (i : Ins) (is : List Ins) (s : State) → Stands pc (i ∷ is) → Fits i → At pc s → step_of s ≡ executed i s
  fetched_here pc i is s h f a =
      let word = to_le_bytes w32 (word_of i) in
      let k = length h.before in
      let room = code_room pc i is h in
      let small : word_of i < 2 ^ 32 = joined-Below (laid (shape_of i.op).format (shape_of i.op).key i) (laid-bounded i f) in
      let rest = bytes_of is ++ h.after in
      let behind : List ℕ = text ++ a.spare in
      let whole : s.bytes ≡ h.before ++ (word ++ (rest ++ behind)) =
      a.bytes_is ∙ ap (λ (z : List ℕ). z ++ behind) h.split ∙ append_assoc h.before (bytes_of (i ∷ is) ++ h.after) behind ∙ ap (λ (z : List ℕ). h.before ++ z) (append_assoc (bytes_of (i ∷ is)) h.after behind ∙ append_assoc word (bytes_of is) (h.after ++ behind) ∙ ap (λ (z : List ℕ). word ++ z) (sym (append_assoc (bytes_of is) h.after behind))) in
      let four : k + 4 - k ≡ 4 = omega arith in
      let piece : slice_range s.bytes k (k + 4) ≡ word = rw (whole, drop_at h.before (word ++ (rest ++ behind)) k refl, four) (take_at word (rest ++ behind) 4 refl) in
      let found : located s 1 s.pc 4 ≡ Some k = rw (a.areas_is, a.pc_is) (let e : pc ≡ 65536 + k = h.place in grind (arith, nat_tests)) in
      let al : s.pc % 4 ≡ 0 = rw a.pc_is h.aligned in
      let standing : StandsAt s i = record { aligned = al; place = k; placed = found; word = rw piece (from_le_bytes-to_le_bytes_4 (word_of i) small) } in
      step_of-standing s i f standing

  -- ---- a register that is written

  abbrev pub wr : ℕ → ℕ → State → State
  wr n v s = (writes n v s).1

  pub at_wr : (pc n v : ℕ) (s : State) → (n == 0) ≡ false → pc + 4 < 2 ^ 64 → At pc s → At (pc + 4) (wr n v s)
  at_wr pc n v s z room a = rw z (record {
    pc_is = rw a.pc_is (omega arith);
    spare = a.spare;
    more = a.more;
    bytes_is = a.bytes_is;
    areas_is = a.areas_is;
    regs_are = length-set s.regs n v ∙ a.regs_are;
  })

  pub reg_same : (pc n v : ℕ) (s : State) → (n == 0) ≡ false → n < 32 → At pc s → reg (wr n v s) n ≡ v
  reg_same pc n v s z small a = rw z (get_or-set_same s.regs n v 0 (omega (arith, a.regs_are)))

  pub reg_other : (n m v : ℕ) (s : State) → (n == 0) ≡ false → (m == 0) ≡ false → m ≢ n → reg (wr n v s) m ≡ reg s m
  reg_other n m v s z y d = rw (z, y) (get_or-set_other s.regs n m v 0 d)
