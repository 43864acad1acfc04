use Rattle.std.proofs.Common.{◌≡◌, ℕ, List, [], ◌∷◌, refl, sym, subst, arith, inl, inr, rules}
use Rattle.std.specs.Prelude.{AllPairs}
use Rattle.std.proofs.lemmas.List.Elements.{All-from_recursion}
use Rattle.std.proofs.lemmas.List.Kept.{AllPairs-cons}
use Rattle.smlc_base.specs.declared.point.PointKind.TheVariants as kinds
use Rattle.elf_static.specs.declared.image.EntryRow.{EntryRow}
use Rattle.elf_static.specs.declared.image.Entries.{Entries}
use Rattle.elf_static.specs.declared.image.Segment.{Segment}
use Rattle.elf_static.specs.Layout.{text_segment, read_only_segment, writable_segment, IsLaidOut}
use Rattle.elf_static.specs.Load.{IsFilled, EndsInRange, IsApart}
use Rattle.elf_static.proofs.Rights.{labels-from_test, addresses-from_test, arena-from_test}
use Rattle.machine_tests.proofs.files.small.Goals as goal

abbrev text : List ℕ
text = 0x13 ∷ 0 ∷ 0 ∷ 0 ∷ 0x73 ∷ 0 ∷ 0 ∷ 0 ∷ []

abbrev greeting : List ℕ
greeting = 104 ∷ 101 ∷ 108 ∷ 108 ∷ 111 ∷ 10 ∷ []

abbrev segments : List Segment
segments = text_segment text ∷ read_only_segment text greeting ∷ writable_segment text greeting 0 4 ∷ []

abbrev rows : List EntryRow
rows =
    record { address = 0x10000; label = record { 0 = 0 }; point = record { node = 3; kind = kinds.Fn }; roots = 1024 }
    ∷ record { address = 0x10004; label = record { 0 = 1 }; point = record { node = 5; kind = kinds.Eq }; roots = 7 }
    ∷ []

none_after : (s : Segment) → AllPairs IsApart (s ∷ [])
none_after s = AllPairs-cons IsApart s [] (All-from_recursion (IsApart s) [] tt) (λ i j d lt le. absurd (omega arith))

laid_out : (factor spill : ℕ) (plan : List ℕ) → IsLaidOut (record { entry = 0x10000; segments = segments; entries = record { rows = rows; factor = factor; spill = spill; arena = 0x14000; arena_words = 4 }; plan = plan })
laid_out factor spill plan = record {
  loadable = record {
    count = omega arith;
    room = record { filled = All-from_recursion IsFilled segments (omega arith, (omega arith, (omega arith, tt))); sizes = omega arith };
    range = All-from_recursion EndsInRange segments (omega arith, (omega arith, (omega arith, tt)));
    apart = AllPairs-cons IsApart (text_segment text) (read_only_segment text greeting ∷ writable_segment text greeting 0 4 ∷ [])
        (All-from_recursion (IsApart (text_segment text)) (read_only_segment text greeting ∷ writable_segment text greeting 0 4 ∷ []) (inr (inr (inl (omega arith))), (inr (inr (inl (omega arith))), tt)))
        (AllPairs-cons IsApart (read_only_segment text greeting) (writable_segment text greeting 0 4 ∷ [])
        (All-from_recursion (IsApart (read_only_segment text greeting)) (writable_segment text greeting 0 4 ∷ []) (inr (inr (inl (omega arith))), tt))
        (none_after (writable_segment text greeting 0 4)));
    aligned = refl;
    entry = (0, text_segment text, omega arith, refl, (refl, omega arith, omega arith));
  };
  entry = refl;
  text = text;
  read_only = greeting;
  slots = 0;
  segments = refl;
  table = record {
    count = omega arith;
    labels = labels-from_test rows refl;
    addresses = addresses-from_test rows refl;
    arena = arena-from_test segments (record { rows = rows; factor = factor; spill = spill; arena = 0x14000; arena_words = 4 }) refl;
  };
}

is_laid_out : (ss : List Segment) (e : Entries) (plan : List ℕ) → ss ≡ segments → e.rows ≡ rows → e.arena ≡ 0x14000 → e.arena_words ≡ 4 → IsLaidOut (record { entry = 0x10000; segments = ss; entries = e; plan = plan })
is_laid_out ss e plan s r a w =
    let made : Entries = record { rows = rows; factor = e.factor; spill = e.spill; arena = 0x14000; arena_words = 4 } in
    let same : made ≡ e = rw (r, a, w) refl in
    subst (λ (x : Entries). IsLaidOut (record { entry = 0x10000; segments = ss; entries = x; plan = plan })) same
    (subst (λ (xs : List Segment). IsLaidOut (record { entry = 0x10000; segments = xs; entries = made; plan = plan })) (sym s) (laid_out e.factor e.spill plan))

pub returns : goal.returns
returns c =
    let made : c.segments-2.inside.items.items ≡ segments = search rules in
    is_laid_out c.segments-2.inside.items.items c.in_ok-entries.field-0 c.from_vec.result made c.in_ok-entries.ensures.rows c.in_ok-entries.ensures.arena.0 c.in_ok-entries.ensures.arena.1
