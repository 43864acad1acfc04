-- An image that is laid out, as a program in memory, and what is known of it when it is loaded.
use Rattle.std.specs.Prelude.{◌≡◌, ℕ, ◌+◌, ◌-◌, ◌&&◌, nat_le, nat_lt, if◌then◌else◌, List, [], length, get_or, Option, Some, slice_get}
use Rattle.rv_isa.specs.declared.word.Ins.{Ins}
use Rattle.rv_isa.specs.Word.{Fits}
use Rattle.rv_asm.specs.Layout.{bytes_of}
use Rattle.elf_static.specs.declared.image.Image.{Image}
use Rattle.elf_static.specs.Layout.{round_up, IsLaidOut}
use Rattle.rv_machine.specs.Run.{Cut}
use Rattle.rv_machine.specs.Load.{loaded}
use Rattle.rv_run.specs.Run.{Spot}
use Rattle.rv_acts.specs.Emitted.{Emitted, IsLaid, base}
use Rattle.rv_acts.specs.Fine.{Fine, Shown}

-- its text are the bytes of these instructions, and its arena begins 8,192 bytes behind the segment that may be written
pub record HoldsCode (image : Image) (laid : IsLaidOut image) (code : List Ins) : Type 0 where
  pub text : laid.text ≡ bytes_of code
  pub fits : (n : ℕ) (i : Ins) → slice_get code n ≡ Some i → Fits i
  pub slots : laid.slots ≡ 0
  pub arena : image.entries.arena ≡ round_up 4096 (round_up 4096 (base + length laid.text) + length laid.read_only) + 8192

abbrev pub emitted_of : (image : Image) → IsLaidOut image → List Ins → Emitted
emitted_of image laid code = record { code = code; place = round_up 4096 (base + length laid.text); literals = laid.read_only; entries = image.entries }

-- every register is 0, and every byte but those of the data
abbrev pub begun : Emitted → Option (List ℕ) → List Cut → Fine
begun I input cuts = record {
  regs = λ n. 0;
  at = 0;
  byte = λ x. if nat_le I.place x && nat_lt x (I.place + length I.literals) then get_or I.literals (x - I.place) 0 else 0;
  input = input;
  out = [];
  err = [];
  cuts = cuts;
}

abbrev pub spot_loaded : Image → Option (List ℕ) → List Cut → Spot
spot_loaded image input cuts = record { world = record { state = loaded image; input = input; out = []; err = [] }; cuts = cuts }

pub record Starts (I : Emitted) (a : Fine) (s : Spot) : Type 0 where
  pub laid : IsLaid I
  pub shown : Shown I a s
