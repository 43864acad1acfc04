use Rattle.std.proofs.Common.{◌≡◌, ◌+◌, ◌-◌, length, sym, subst, ap, ◌∙◌, arith}
use Rattle.rv_asm.specs.Item.{IsNear}
use Rattle.emit_data.specs.Places.{block_places, datum_places, end_place}
use Rattle.emit_data.proofs.Bindings.{places_count, blocks_is, blocks_free, known_free, all_bound, known_is, blocks_near, known_near}
use Rattle.emit_data.proofs.binding.bind_data.Goals as goal

pub datum_places-known-requires-clause-names : goal.datum_places-known-requires-clause-names
datum_places-known-requires-clause-names c =
    let p = c.args.placed.now in
    let blocks : c.as_slice-3.result.now ≡ block_places p =
    blocks_is p c.as_slice-3.result.now c.in_ok-blocks.blocks.items c.as_slice-2.result.now c.in_ok-sizes.sizes.items c.in_ok-places.places.read_only c.as_slice-3.ensures.value c.in_ok-blocks.ensures c.in_ok-places.ensures.read_only c.as_slice-2.ensures.value c.in_ok-sizes.ensures in
    omega (arith, ap length blocks, places_count p, ap (λ x. x.names) c.requires.labels, ap (λ x. x.texts) c.requires.labels)

pub bind_both-requires-clause-blocks_free : goal.bind_both-requires-clause-blocks_free
bind_both-requires-clause-blocks_free c j l =
    let p = c.args.placed.now in
    let blocks : c.as_slice-4.result.now ≡ block_places p =
    blocks_is p c.as_slice-4.result.now c.in_ok-blocks.blocks.items c.as_slice-2.result.now c.in_ok-sizes.sizes.items c.in_ok-places.places.read_only c.as_slice-4.ensures.value c.in_ok-blocks.ensures c.in_ok-places.ensures.read_only c.as_slice-2.ensures.value c.in_ok-sizes.ensures in
    blocks_free p c.args.asm.now c.args.labels.now.texts j c.as_slice-4.result.now c.requires.program (ap (λ x. x.texts) c.requires.labels) blocks l

pub bind_both-requires-clause-blocks_near : goal.bind_both-requires-clause-blocks_near
bind_both-requires-clause-blocks_near c =
    let p = c.args.placed.now in
    let blocks : c.as_slice-4.result.now ≡ block_places p =
    blocks_is p c.as_slice-4.result.now c.in_ok-blocks.blocks.items c.as_slice-2.result.now c.in_ok-sizes.sizes.items c.in_ok-places.places.read_only c.as_slice-4.ensures.value c.in_ok-blocks.ensures c.in_ok-places.ensures.read_only c.as_slice-2.ensures.value c.in_ok-sizes.ensures in
    let s = c.in_ok-places.ensures in
    let near : IsNear (end_place p c.args.arena_words) = subst IsNear s.end s.near in
    blocks_near p c.args.arena_words c.as_slice-4.result.now near blocks

pub bind_both-requires-clause-apart : goal.bind_both-requires-clause-apart
bind_both-requires-clause-apart c =
    let p = c.args.placed.now in
    let blocks : c.as_slice-4.result.now ≡ block_places p =
    blocks_is p c.as_slice-4.result.now c.in_ok-blocks.blocks.items c.as_slice-2.result.now c.in_ok-sizes.sizes.items c.in_ok-places.places.read_only c.as_slice-4.ensures.value c.in_ok-blocks.ensures c.in_ok-places.ensures.read_only c.as_slice-2.ensures.value c.in_ok-sizes.ensures in
    omega (arith, ap length blocks, places_count p, ap (λ x. x.routines) c.requires.labels, ap (λ x. x.texts) c.requires.labels)

pub bind_both-requires-clause-known_free : goal.bind_both-requires-clause-known_free
bind_both-requires-clause-known_free c j l =
    let p = c.args.placed.now in
    let blocks : c.as_slice-3.result.now ≡ block_places p =
    blocks_is p c.as_slice-3.result.now c.in_ok-blocks.blocks.items c.as_slice-2.result.now c.in_ok-sizes.sizes.items c.in_ok-places.places.read_only c.as_slice-3.ensures.value c.in_ok-blocks.ensures c.in_ok-places.ensures.read_only c.as_slice-2.ensures.value c.in_ok-sizes.ensures in
    let names : c.args.labels.now.names - c.args.labels.now.texts ≡ length p.texts + length p.exns = omega (arith, ap (λ x. x.names) c.requires.labels, ap (λ x. x.texts) c.requires.labels) in
    let s = c.in_ok-places.ensures in
    let known : c.datum_places-known.result ≡ datum_places p c.args.arena_words =
    c.datum_places-known.ensures ∙ known_is p c.in_ok-places.places c.as_slice-3.result.now (c.args.labels.now.names - c.args.labels.now.texts) c.args.arena_words s.read_only s.line s.writable s.arena s.end blocks names in
    let near : IsNear (end_place p c.args.arena_words) = subst IsNear s.end s.near in
    known_free p c.args.asm.now c.args.labels.now.routines j c.requires.program (ap (λ x. x.routines) c.requires.labels) (omega (arith, l, ap length known))

pub bind_both-requires-clause-known_near : goal.bind_both-requires-clause-known_near
bind_both-requires-clause-known_near c =
    let p = c.args.placed.now in
    let blocks : c.as_slice-3.result.now ≡ block_places p =
    blocks_is p c.as_slice-3.result.now c.in_ok-blocks.blocks.items c.as_slice-2.result.now c.in_ok-sizes.sizes.items c.in_ok-places.places.read_only c.as_slice-3.ensures.value c.in_ok-blocks.ensures c.in_ok-places.ensures.read_only c.as_slice-2.ensures.value c.in_ok-sizes.ensures in
    let names : c.args.labels.now.names - c.args.labels.now.texts ≡ length p.texts + length p.exns = omega (arith, ap (λ x. x.names) c.requires.labels, ap (λ x. x.texts) c.requires.labels) in
    let s = c.in_ok-places.ensures in
    let known : c.datum_places-known.result ≡ datum_places p c.args.arena_words =
    c.datum_places-known.ensures ∙ known_is p c.in_ok-places.places c.as_slice-3.result.now (c.args.labels.now.names - c.args.labels.now.texts) c.args.arena_words s.read_only s.line s.writable s.arena s.end blocks names in
    let near : IsNear (end_place p c.args.arena_words) = subst IsNear s.end s.near in
    known_near p c.args.arena_words c.datum_places-known.result near known

pub returns-clause-program : goal.returns-clause-program
returns-clause-program c =
    let p = c.args.placed.now in
    let blocks : c.as_slice-3.result.now ≡ block_places p =
    blocks_is p c.as_slice-3.result.now c.in_ok-blocks.blocks.items c.as_slice-2.result.now c.in_ok-sizes.sizes.items c.in_ok-places.places.read_only c.as_slice-3.ensures.value c.in_ok-blocks.ensures c.in_ok-places.ensures.read_only c.as_slice-2.ensures.value c.in_ok-sizes.ensures in
    let names : c.args.labels.now.names - c.args.labels.now.texts ≡ length p.texts + length p.exns = omega (arith, ap (λ x. x.names) c.requires.labels, ap (λ x. x.texts) c.requires.labels) in
    let s = c.in_ok-places.ensures in
    let known : c.datum_places-known.result ≡ datum_places p c.args.arena_words =
    c.datum_places-known.ensures ∙ known_is p c.in_ok-places.places c.as_slice-3.result.now (c.args.labels.now.names - c.args.labels.now.texts) c.args.arena_words s.read_only s.line s.writable s.arena s.end blocks names in
    let near : IsNear (end_place p c.args.arena_words) = subst IsNear s.end s.near in
    let again : c.as_slice-4.result.now ≡ block_places p = c.as_slice-4.ensures.value ∙ sym c.as_slice-3.ensures.value ∙ blocks in
    all_bound p c.args.asm.now c.bind_both.new.asm c.args.labels.now.texts c.args.labels.now.routines c.args.arena_words c.as_slice-4.result.now c.datum_places-known.result
    c.requires.program (ap (λ x. x.texts) c.requires.labels) (ap (λ x. x.routines) c.requires.labels) again known c.in_ok-bind_both.ensures
