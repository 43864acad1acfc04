use Rattle.std.proofs.Common.{◌≡◌, ap, ◌∙◌, rules}
use Rattle.std.specs.Prelude.{map}
use Rattle.std.proofs.lemmas.List.Sorted.{IsNonDecreasingBy-from_sort}
use Rattle.elf_static.specs.Table.{are_distinct, address_of}
use Rattle.elf_static.proofs.Distinct.{are_distinct-from_sort}
use Rattle.elf_static.proofs.table.is_distinct.Goals as goal

pub returns : goal.returns
returns c =
    let made : c.in_ok-addresses.addresses.items ≡ map address_of c.args.rows.now = search rules in
    let sorted = IsNonDecreasingBy-from_sort (λ x. x) c.sort.new.self.items c.in_ok-sort.ensures.sorted in
    are_distinct-from_sort c.in_ok-addresses.addresses.items c.sort.new.self.items c.is_increasing.result c.in_ok-sort.ensures.permutation sorted (rw (← c.deref.ensures.value) c.is_increasing.ensures) ∙ ap are_distinct made
