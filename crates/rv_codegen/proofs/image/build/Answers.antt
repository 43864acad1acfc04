use Rattle.std.proofs.Common.{◌+◌, ◌*◌, length, get_or, ap, ◌∙◌}
use Rattle.rv_codegen.proofs.Lengths.{addresses_count, all_low}
use Rattle.emit_data.specs.Blocks.{read_only}
use Rattle.rv_codegen.specs.Image.{rows_from, image_of}
use Rattle.rv_codegen.proofs.Images.{replaced, image_is}
use Rattle.rv_codegen.proofs.image.build.Goals as goal

pub read_only-requires-clause-all : goal.read_only-requires-clause-all
read_only-requires-clause-all c = addresses_count c.args.placed.now c.args.arena_words c.items.result.now (c.items.ensures ∙ c.requires.at)

pub read_only-requires-clause-low : goal.read_only-requires-clause-low
read_only-requires-clause-low c = all_low c.args.placed.now c.args.arena_words c.items.result.now c.requires.near (c.items.ensures ∙ c.requires.at)

pub rows_of-requires-clause-all : goal.rows_of-requires-clause-all
rows_of-requires-clause-all c = addresses_count c.args.placed.now c.args.arena_words c.items-2.result.now (c.items-2.ensures ∙ c.requires.at)

pub returns-clause-image : goal.returns-clause-image
returns-clause-image c =
    let p = c.args.placed.now in
    let aw = c.args.arena_words in
    let plan = c.args.plan.now in
    let at = c.args.laid.code.at in
    let ro = c.address-2.ensures ∙ ap (λ n. 65536 + 4 * n) c.requires.read_only in
    let wr = c.address-3.ensures ∙ ap (λ n. 65536 + 4 * n) c.requires.writable in
    let ar = c.address-4.ensures ∙ ap (λ n. 65536 + 4 * n) c.requires.arena_at in
    let data_is = c.from_vec.ensures ∙ c.in_ok-data.ensures ∙ ap (λ xs. read_only p (λ l. get_or xs l 0)) c.items.ensures in
    let rows_is = c.in_ok-rows.ensures.rows ∙ ap (λ xs. rows_from p (λ l. get_or xs l 0) 0 p.points) c.items-2.ensures in
    let start = c.segment-text.ensures ∙ ap (λ n. record { address = n; flags = 5; bytes = c.args.laid.code.bytes; size = length c.args.laid.code.bytes }) c.address.ensures in
    let all = image_is p aw plan c.segment-text.result c.segment-constants.result c.writable-memory.result _ c.args.laid.code.bytes at c.from_vec.result c.in_ok-plan_text.plan_text.items c.in_ok-rows.rows c.address-2.result c.address-3.result c.address-4.result
    c.requires.bytes c.requires.at data_is rows_is c.in_ok-plan_text.ensures ro wr ar start c.segment-constants.ensures c.writable-memory.ensures
    (ap (λ n. record { rows = c.in_ok-rows.rows; factor = plan.factor; spill = n; arena = c.address-4.result; arena_words = aw }) c.spill.ensures) in
    replaced c.image_with.result _ (image_of p aw plan) all c.image_with.ensures
