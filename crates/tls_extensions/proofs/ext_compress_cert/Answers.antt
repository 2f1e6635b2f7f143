-- Each constant is the body that the definition computes to. Assumes nothing.
use Rattle.wire.specs.Numbers.{digits}
use Rattle.wire.specs.Vectors.{vector, words}
use Rattle.tls_extensions.specs.Extensions.{ext_compress_cert}
use Rattle.tls_extensions.proofs.LengthLaws.{length-compress-cert}
use borrow.Author.Rules.{rules}
use Rattle.tls_extensions.proofs.ext_compress_cert.Goals as goal

pub put_extension-requires : goal.put_extension-requires
put_extension-requires c =
    let room = rw (length-compress-cert c.args.firefox, c.if-firefox.true) at c.requires in
    search rules

pub returns-then-firefox : goal.returns-then-firefox
unfolding ext_compress_cert vector words digits
returns-then-firefox c = rw c.if-firefox.true c.put_extension.ensures

pub put_extension-requires-2 : goal.put_extension-requires-2
put_extension-requires-2 c =
    let room = rw (length-compress-cert c.args.firefox, c.if-firefox.false) at c.requires in
    search rules

pub returns : goal.returns
unfolding ext_compress_cert vector words digits
returns c = rw c.if-firefox.false c.put_extension-2.ensures
