-- The image of a placed program.
use Rattle.std.specs.Prelude.{ℕ, ◌+◌, ◌*◌, ◌^◌, cond, nat_lt, List, [], ◌∷◌, length, get_or}
use Rattle.smlc_base.specs.declared.point.Point.{Point}
use Rattle.smlc_base.specs.declared.point.PointKind.{PointKind}
use Rattle.smlc_base.specs.declared.point.PointKind.TheVariants.{Fn, Ret, Caught, Popped, Eq}
use Rattle.rv_asm.specs.Layout.{code_of, bytes_of, addresses}
use Rattle.rt_prims.specs.declared.line.Routine.TheVariants.{Turn}
use Rattle.rt_prims.specs.Lines.{number}
use Rattle.placed_ir.specs.Program.{Placed}
use Rattle.close_laws.specs.declared.plan.Plan.{Plan}
use Rattle.close_laws.specs.Text.{plan_text}
use Rattle.elf_static.specs.declared.image.EntryRow.{EntryRow}
use Rattle.elf_static.specs.declared.image.Image.{Image}
use Rattle.elf_static.specs.Layout.{text_segment, read_only_segment, writable_segment}
use Rattle.emit_text.specs.Labels.{routines_label}
use Rattle.emit_data.specs.Blocks.{read_only}
use Rattle.emit_data.specs.Places.{arena_place}
use Rattle.emit_data.specs.Program.{program_of}

-- where the text begins, and all begins
abbrev pub base : ℕ
base = 0x10000

-- The registers that hold values at an entry: the handler in x18, the closure in x10, the argument in x11, and in x12 the continuation where there is
-- one. A comparison has its truth value, its pending pairs and its continuation there.
abbrev pub roots_of : PointKind → ℕ
roots_of Fn = 2 ^ 18 + 2 ^ 12 + 2 ^ 11 + 2 ^ 10
roots_of Ret = 2 ^ 18 + 2 ^ 11 + 2 ^ 10
roots_of Caught = 2 ^ 18 + 2 ^ 11 + 2 ^ 10
roots_of Popped = 2 ^ 18 + 2 ^ 11 + 2 ^ 10
roots_of Eq = 2 ^ 18 + 2 ^ 12 + 2 ^ 11 + 2 ^ 10

-- the label at which a point is entered: its function's, or behind all functions that of a turn of comparisons
abbrev pub entry_label : Placed → ℕ → ℕ
entry_label p label = cond (nat_lt label (length p.functions)) label (routines_label p + number Turn)

module _ (p : Placed) (at : ℕ → ℕ) where
  -- the rows of points from a label on, where the addresses of labels are known
  abbrev pub rows_from : ℕ → List Point → List EntryRow
  rows_from label [] = []
  rows_from label (point ∷ points) =
      record { address = at (entry_label p label); label = record { 0 = label }; point = point; roots = roots_of point.kind } ∷ rows_from (label + 1) points

module _ (p : Placed) (arena_words : ℕ) where
  abbrev pub text_bytes : List ℕ
  text_bytes = bytes_of (code_of (program_of p arena_words))

  abbrev pub address_of : ℕ → ℕ
  address_of label = get_or (addresses base (program_of p arena_words).places) label 0

  abbrev pub data_bytes : List ℕ
  data_bytes = read_only p address_of

  -- the text, the read-only data, and the writable memory with no slots; the table of entries; and the plan's text
  abbrev pub image_of : Plan → Image
  image_of plan = record {
    entry = base;
    segments = text_segment text_bytes ∷ read_only_segment text_bytes data_bytes ∷ writable_segment text_bytes data_bytes 0 arena_words ∷ [];
    entries = record {
      rows = rows_from p address_of 0 p.points;
      factor = plan.factor;
      spill = p.spill;
      arena = base + 4 * arena_place p;
      arena_words = arena_words;
    };
    plan = plan_text plan;
  }
