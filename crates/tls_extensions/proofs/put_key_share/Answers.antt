-- Two numbers make the head, and the key follows it. Assumes nothing.
use mathlib.Core.Path.{◌≡◌}
use mathlib.Core.List.{◌++◌, append_assoc}
use lib.ListN.{length}
use Rattle.wire.specs.Numbers.{digits}
use Rattle.wire.proofs.NumberLaws.{length_digits}
use Rattle.wire.proofs.Writing.{filled, joined, put_as}
use Rattle.profiles.specs.Sizes.{key_share_size}
use Rattle.tls_extensions.specs.Extensions.{key_of, key_share}
use Rattle.tls_extensions.proofs.LengthLaws.{length-key-of}
use Rattle.tls_extensions.proofs.put_key_share.Goals as goal

pub returns : goal.returns
unfolding key_share
returns c =
    let key-share-size = c.key_share_size-size in
    let args = c.args in
    let g = args.group.0 in
    let tape = args.tape.now in
    let size = key-share-size.result in
    let is : size ≡ key_share_size g = key-share-size.ensures.0 in
    let w16 = c.w16 in
    let w162 = c.w16-2 in
    let put-key = c.put_key-drawn in
    let key = key_of g tape args.at in
    let whole : (digits 256 2 g ++ digits 256 2 size) ++ key ≡ digits 256 2 g ++ (digits 256 2 (key_share_size g) ++ key) = rw (is, append_assoc) in
    let long : length key ≡ size = rw is (length-key-of g tape args.at) in
    let head = joined (filled (length_digits 256 2 g) w16.ensures) (filled (length_digits 256 2 size) w162.ensures) in
    record { put = put_as whole (joined head (filled long put-key.ensures.1)); next = rw put-key.ensures.0 }
