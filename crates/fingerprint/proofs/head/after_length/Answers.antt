-- `after_length` goes on from the fields to the suites: the session id is there, of at most 32 bytes. Assumes nothing.
use mathlib.Core.Path.{sym, ap, ◌∙◌}
use mathlib.Core.Option.{Option}
use lib.ListN.{take, drop}
use Rattle.wire.specs.Answer.{result}
use Rattle.fingerprint.specs.Reader.{Fields, in_form, fields}
use Rattle.fingerprint.proofs.HeadLaws.{fields-short, session-long, session-cut, session-there, session-length}
use Rattle.fingerprint.proofs.HeadAnswers.{not-in-form}
use native.Mathlib.Omega.{arith}
use Rattle.fingerprint.proofs.head.after_length.Goals as goal

pub returns-then-n-lt39 : goal.returns-then-n-lt39
returns-then-n-lt39 c = not-in-form c.args.hello.now (fields (drop 4 c.args.hello.now)) c.requires.is (fields-short c.args.hello.now c.if-n-lt39.true)

pub returns-then-session-gt32 : goal.returns-then-session-gt32
returns-then-session-gt32 c =
    not-in-form c.args.hello.now (fields (drop 4 c.args.hello.now)) c.requires.is (session-long c.args.hello.now c.if-n-lt39.false c.from-session.result (sym c.from-session.ensures) c.if-session-gt32.true)

pub returns-then-n-session : goal.returns-then-n-session
returns-then-n-session c =
    not-in-form c.args.hello.now (fields (drop 4 c.args.hello.now)) c.requires.is (session-cut c.args.hello.now c.if-n-lt39.false c.from-session.result (sym c.from-session.ensures) c.if-n-session.true)

pub after_session-requires : goal.after_session-requires
after_session-requires c =
    let h = c.args.hello.now in
    let p = c.requires in
    let n = c.from-session.result in
    record {
      version = take 2 (drop 4 h);
      random = take 32 (drop 6 h);
      id = take n (drop 39 h);
      is = p.is ∙ ap (λ (x : Option Fields). in_form x 19 result) (session-there h c.if-n-lt39.false n (sym c.from-session.ensures) c.if-session-gt32.false c.if-n-session.false);
      session-is = session-length h c.if-n-lt39.false n (sym c.from-session.ensures) c.if-n-session.false;
      inside = omega (arith, c.if-n-lt39.false, c.if-n-session.false);
      short = p.short;
    }
