-- Images that print a text.
use Rattle.std.specs.Prelude.{ℕ, ◌≡◌, ◌≤◌, List, [], Option}
use Rattle.elf_static.specs.declared.image.Image.{Image}
use Rattle.rv_machine.specs.Run.{Cut, Exited, behaviour}
use Rattle.smlc_jobs.specs.Runs.{begun}

-- after at most so many instructions it has exited with 0, and has written the text on out and nothing on err
pub record Printed (image : Image) (text : List ℕ) (most : ℕ) (input : Option (List ℕ)) (cuts : List Cut) : Type 0 where
  pub count : ℕ
  pub within : count ≤ most
  pub exits : (behaviour count (begun image input) cuts).mend ≡ Exited 0
  pub out : (behaviour count (begun image input) cuts).world.out ≡ text
  pub err : (behaviour count (begun image input) cuts).world.err ≡ []

-- so it does for every input, and however the writes are cut
abbrev pub Prints : Image → List ℕ → ℕ → Type 0
Prints image text most = (input : Option (List ℕ)) (cuts : List Cut) → Printed image text most input cuts
