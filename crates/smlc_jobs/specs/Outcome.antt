-- What a job came to, with the line and the status that tell it.
use Rattle.std.specs.Prelude.{ℕ, ◌==◌, List, [], Bool, true, false, if◌then◌else◌}
use Rattle.smlc_jobs.specs.declared.outcome.Outcome.{Outcome}
use Rattle.smlc_jobs.specs.declared.outcome.Outcome.TheVariants.{Done, Exited, Uncaught, ArenaFull, Refused, Steps, Trapped, NotElf, NoMemory, LoadFault, SaveFault, InputFault, OutFault, ErrFault}
use Rattle.smlc_jobs.specs.Texts.{name_at, memory_line, store_line, input_line, out_line, steps_line, exit_line, full_line, elf_line, trap_line}

-- the line, where these files were to be loaded and this name to be saved
abbrev pub line_of : List (List ℕ) → List ℕ → Outcome → List ℕ
line_of files target Done = []
line_of files target (Exited status x11 x12) = exit_line status
line_of files target Uncaught = []
line_of files target (ArenaFull used next arena) = full_line used next arena
line_of files target (Refused line) = line.items
line_of files target (Steps n) = steps_line n
line_of files target (Trapped pc word) = trap_line pc word
line_of files target (NotElf kind at) = elf_line kind at
line_of files target NoMemory = memory_line
line_of files target (LoadFault i) = store_line (name_at files i)
line_of files target SaveFault = store_line target
line_of files target InputFault = input_line
line_of files target OutFault = out_line
line_of files target ErrFault = []

abbrev pub status_of : Outcome → ℕ
status_of Done = 0
status_of (Exited status x11 x12) = 0
status_of Uncaught = 1
status_of (ArenaFull used next arena) = 3
status_of (Refused line) = 2
status_of (Steps n) = 4
status_of (Trapped pc word) = 9
status_of (NotElf kind at) = 8
status_of NoMemory = 6
status_of (LoadFault i) = 5
status_of SaveFault = 5
status_of InputFault = 5
status_of OutFault = 5
status_of ErrFault = 5

abbrev pub is_fault : Outcome → Bool
is_fault (LoadFault i) = true
is_fault SaveFault = true
is_fault InputFault = true
is_fault OutFault = true
is_fault ErrFault = true
is_fault _ = false

-- What a program that was compiled comes to by its exit: it has ended, it has ended by an exception that it has told, or its arena was full.
-- It has no other exit.
abbrev pub exit_outcome : ℕ → ℕ → ℕ → ℕ → Outcome
exit_outcome arena status x11 x12 = if status == 0 then Done else if status == 1 then Uncaught else if status == 3 then ArenaFull x11 x12 arena else Exited status x11 x12

abbrev pub ended_outcome : ℕ → Outcome → Outcome
ended_outcome arena (Exited status x11 x12) = exit_outcome arena status x11 x12
ended_outcome arena o = o
