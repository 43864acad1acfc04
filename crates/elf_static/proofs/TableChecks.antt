-- The checks of the tables of entries, one behind the other.
use Rattle.std.proofs.Common.{◌≡◌, ℕ, ◌+◌, ◌<◌, Bool, true, false, List, [], ◌∷◌, ◌++◌, Some, None, Err, length, get_or, drop, refl, sym, ap, subst, ◌∙◌, arith, drop-cons, add-one}
use Rattle.std.specs.Prelude.{filter, if◌then◌else◌}
use Rattle.std.specs.List.{list_any}
use Rattle.std.proofs.lemmas.Bool.{or_parts, or_from}
use Rattle.elf_static.specs.declared.error.ElfError.{ElfError}
use Rattle.elf_static.specs.declared.error.ElfError.TheVariants.{NotElf}
use Rattle.elf_static.specs.declared.error.ElfKind.TheVariants as kinds
use Rattle.elf_static.specs.declared.headers.SectionHeader.{SectionHeader}
use Rattle.elf_static.specs.declared.image.Segment.{Segment}
use Rattle.elf_static.specs.Checks.{first_failed, Passes}
use Rattle.elf_static.specs.declared.headers.FileHeader.{FileHeader}
use Rattle.elf_static.specs.Sections.{names_of, is_named, sections_named, section_headers, table_check, right_checks, single_checks, passes_end}
use Rattle.elf_static.proofs.Passing.{passes_in_front, passes_same, first_behind}

opened : (tables : List SectionHeader) (i : ℕ) (d : SectionHeader) → i < length tables → drop i tables ≡ get_or tables i d ∷ drop (i + 1) tables
opened tables i d inside = rw add-one (drop-cons tables i d inside)

module _ (file : List ℕ) (segments : List Segment) (tables : List SectionHeader) (i : ℕ) (d : SectionHeader) (inside : i < length tables) (so_far : first_failed (right_checks file segments (drop i tables)) ≡ first_failed (right_checks file segments tables)) where
  first_left : first_failed ((table_check file segments (get_or tables i d) ∷ []) ++ right_checks file segments (drop (i + 1) tables)) ≡ first_failed (right_checks file segments tables)
  first_left = sym (ap (λ ts. first_failed (right_checks file segments ts)) (opened tables i d inside)) ∙ so_far

  -- a table that isn't right is the answer
  pub stops : (X Y : Type 0) (e : ElfError) → Passes {X = Y} (Err e) (table_check file segments (get_or tables i d) ∷ []) → Passes {X = X} (Err e) (right_checks file segments tables)
  stops X Y e p = passes_same {X = X} _ _ (Err e) first_left (passes_in_front X Y (table_check file segments (get_or tables i d) ∷ []) (right_checks file segments (drop (i + 1) tables)) e p)

  -- behind one that is right the answer is that of the others
  pub goes_on : first_failed (table_check file segments (get_or tables i d) ∷ []) ≡ None → first_failed (right_checks file segments (drop (i + 1) tables)) ≡ first_failed (right_checks file segments tables)
  goes_on p = sym (first_behind (table_check file segments (get_or tables i d) ∷ []) (right_checks file segments (drop (i + 1) tables)) p) ∙ first_left

-- the others have bytes in the file too
pub others_in_file : (file : List ℕ) (tables : List SectionHeader) (i : ℕ) (d : SectionHeader) → i < length tables → list_any (passes_end file) (drop i tables) ≡ false → list_any (passes_end file) (drop (i + 1) tables) ≡ false
others_in_file file tables i d inside h = (or_parts (passes_end file (get_or tables i d)) (list_any (passes_end file) (drop (i + 1) tables)) (subst (λ ts. list_any (passes_end file) ts ≡ false) (opened tables i d inside) h)).1

-- a second table is the answer
pub second_fails : (s : SectionHeader) (others : List SectionHeader) (d : SectionHeader) → 0 < length others → first_failed (single_checks (s ∷ others)) ≡ Some (NotElf kinds.Table (get_or others 0 d).offset)
second_fails s [] d h = absurd (omega arith)
second_fails s (t ∷ ts) d h = refl

-- so have those of a name
pub filter_in_file : (file : List ℕ) (test : SectionHeader → Bool) (sections : List SectionHeader) → list_any (passes_end file) sections ≡ false → list_any (passes_end file) (filter test sections) ≡ false
filter_in_file file test [] h = refl
filter_in_file file test (s ∷ ss) h =
    let parts = or_parts (passes_end file s) (list_any (passes_end file) ss) h in
    let rest = filter_in_file file test ss parts.1 in
    go (test s) parts.0 rest
  where
    go : (b : Bool) → passes_end file s ≡ false → list_any (passes_end file) (filter test ss) ≡ false → list_any (passes_end file) (if b then s ∷ filter test ss else filter test ss) ≡ false
    go true here rest = or_from (passes_end file s) (list_any (passes_end file) (filter test ss)) here rest
    go false here rest = rest

-- the sections that were found are those of the name
pub found_named : (name file names : List ℕ) (h : FileHeader) (sections found : List SectionHeader) → names ≡ names_of file h sections → sections ≡ section_headers file h → found ≡ filter (is_named name names) sections → found ≡ sections_named name file h (section_headers file h)
found_named name file names h sections found e f g = g ∙ ap (λ ns. filter (is_named name ns) sections) e ∙ ap (λ ss. sections_named name file h ss) f
