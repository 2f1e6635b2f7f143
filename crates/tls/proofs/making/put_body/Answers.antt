-- The fields, and the block to the part after them. Assumes nothing.
use Rattle.wire.proofs.Writing.{place-within}
use Rattle.profiles.specs.Code.{profile_of}
use Rattle.tls.proofs.Extents.{extensions-rise}
use Rattle.tls.proofs.HelloLaws.{block-rises, fields-room, fields-stand, block_room, body-put}
use native.Mathlib.Omega.{arith}
use Rattle.tls.proofs.making.put_body.Goals as goal

pub put_fields-a-requires : goal.put_fields-a-requires
put_fields-a-requires c =
    let start = c in
    let args = start.args in
    let rises = block-rises args.profile.now args.name.now args.scid.now args.tape.now (extensions-rise (profile_of args.profile.now) args.name.now args.scid.now args.tape.now) in
    fields-room args.profile.now args.name.now args.scid.now args.tape.now start.requires rises

pub slice_bounds-put_block-count : goal.slice_bounds-put_block-count
slice_bounds-put_block-count c =
    let put-fields = c.put_fields-a in
    let start = c in
    let args = start.args in
    place-within (fields-stand args.profile.now args.name.now args.scid.now args.tape.now start.requires put-fields.ensures)

pub slice_bounds-put_block-start : goal.slice_bounds-put_block-start
slice_bounds-put_block-start c =
    let put-fields = c.put_fields-a in
    let start = c in
    let args = start.args in
    place-within (fields-stand args.profile.now args.name.now args.scid.now args.tape.now start.requires put-fields.ensures)

pub put_block-w-requires : goal.put_block-w-requires
put_block-w-requires c =
    let put-fields = c.put_fields-a in
    let start = c in
    let args = start.args in
    block_room args.profile.now args.name.now args.scid.now args.tape.now start.requires put-fields.ensures

pub overflow_add-result : goal.overflow_add-result
overflow_add-result c =
    let put-fields = c.put_fields-a in
    let put-block = c.put_block-w in
    let start = c in
    let args = start.args in
    let all = body-put args.profile.now args.name.now args.scid.now args.tape.now start.requires put-fields.ensures put-block.ensures in
    omega (arith, all.put.count, start.requires.has.small)

pub returns : goal.returns
returns c =
    let put-fields = c.put_fields-a in
    let put-block = c.put_block-w in
    let start = c in
    let args = start.args in
    body-put args.profile.now args.name.now args.scid.now args.tape.now start.requires put-fields.ensures put-block.ensures
