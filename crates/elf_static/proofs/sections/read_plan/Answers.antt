use Rattle.std.proofs.Common.{◌≡◌, ◌∙◌, false, subst, sym}
use Rattle.std.specs.Prelude.{codes}
use Rattle.std.specs.List.{list_any}
use Rattle.elf_static.specs.Sections.{is_named, passes_end}
use Rattle.elf_static.proofs.TableChecks.{filter_in_file}
use Rattle.elf_static.proofs.sections.read_plan.Goals as goal

pub first_of-requires : goal.first_of-requires
first_of-requires c =
    let kept = filter_in_file c.args.bytes.now (is_named (codes ".sml.plan") c.name_table-names.result.now) c.args.sections.now c.requires.in_file in
    subst (λ ss. list_any (passes_end c.args.bytes.now) ss ≡ false) (sym (c.deref.ensures.value ∙ c.in_ok-plans.ensures)) kept
