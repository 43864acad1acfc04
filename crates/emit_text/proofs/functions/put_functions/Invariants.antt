use Rattle.std.proofs.Common.{◌≡◌, ◌++◌, length, map, take}
use Rattle.std.specs.List.{flat_map}
use Rattle.rv_asm.specs.Item.{words}
use Rattle.placed_ir.specs.Program.{function_code}
use Rattle.emit_items.specs.Body as whole
use Rattle.emit_text.specs.Text.{starts}
use Rattle.emit_text.specs.Bound.{bound_from}
use Rattle.emit_text.proofs.functions.put_functions.Given as goal

abbrev pub invariant-loop-function : goal.invariant-loop-function
invariant-loop-function l = record {
  numbered : l.label ≡ l.function-index;
  counted : l.words ≡ words (flat_map (λ f. whole.items l.labels 0 (function_code l.bodies f)) (take l.function-index l.functions));
  put : l.asm.items ≡ l.fn.asm.items ++ flat_map (λ f. whole.items l.labels 0 (function_code l.bodies f)) (take l.function-index l.functions);
  bound : l.asm.places ≡ bound_from 0 (starts (words l.fn.asm.items) (map (λ f. words (whole.items l.labels 0 (function_code l.bodies f))) (take l.function-index l.functions))) l.fn.asm.places;
  many : length l.asm.places ≡ length l.fn.asm.places;
}
