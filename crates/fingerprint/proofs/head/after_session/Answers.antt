-- `after_session` goes on from the suites: each test is one of the definition's. Assumes nothing.
use mathlib.Core.Path.{◌≡◌, sym, ◌∙◌, subst}
use Prim.Native.Nat.{ℕ, ◌+◌}
use lib.ListN.{take, drop}
use Rattle.wire.specs.Numbers.{number}
use Rattle.wire.proofs.ListLaws.{part_to_end}
use Rattle.fingerprint.specs.Reader.{after_session}
use Rattle.fingerprint.specs.Code.{BlockAs, BlockFound}
use Rattle.std.specs.Prelude as std
use Rattle.fingerprint.proofs.HeadLaws.{suites-short, suites-few, suites-odd, suites-cut}
use Rattle.fingerprint.proofs.HeadAnswers.{not-in-form, block-not-there, fields-there}
use Rattle.fingerprint.proofs.head.after_session.Goals as goal
use Rattle.fingerprint.proofs.head.after_session.Goals.{After-from-length, In_ok-block}

count : (c : After-from-length) → number 256 (take 2 (drop (39 + c.args.session) c.args.hello.now)) ≡ c.from-length.result
count c = sym (c.from-length.ensures ∙ rw (part_to_end c.args.hello.now (39 + c.args.session)) at c.be16.ensures)

block : (c : In_ok-block) → BlockFound c.args.hello.now (39 + c.args.session + 2 + c.from-length.result) c.in_ok-block.block
block c = subst (λ (x : std.Option ℕ). BlockAs x c.args.hello.now (39 + c.args.session + 2 + c.from-length.result)) c.in_ok-block.was c.after_suites.ensures

pub returns-then-n-at-lt2 : goal.returns-then-n-at-lt2
returns-then-n-at-lt2 c =
    let p = c.requires in
    not-in-form c.args.hello.now (after_session p.version p.random p.id (drop (39 + c.args.session) c.args.hello.now)) p.is
    (suites-short p.version p.random p.id c.args.hello.now (39 + c.args.session) p.inside c.if-n-at-lt2.true)

pub returns-then-length-lt2 : goal.returns-then-length-lt2
returns-then-length-lt2 c =
    let p = c.requires in
    not-in-form c.args.hello.now (after_session p.version p.random p.id (drop (39 + c.args.session) c.args.hello.now)) p.is
    (suites-few p.version p.random p.id c.args.hello.now (39 + c.args.session) p.inside c.if-n-at-lt2.false c.from-length.result (count (goal.at.returns-then-length-lt2 c).After-from-length) c.if-length-lt2.true)

pub returns-then-length-ne0 : goal.returns-then-length-ne0
returns-then-length-ne0 c =
    let p = c.requires in
    not-in-form c.args.hello.now (after_session p.version p.random p.id (drop (39 + c.args.session) c.args.hello.now)) p.is
    (suites-odd p.version p.random p.id c.args.hello.now (39 + c.args.session) p.inside c.if-n-at-lt2.false c.from-length.result (count (goal.at.returns-then-length-ne0 c).After-from-length) c.if-length-lt2.false c.if-length-ne0.true)

pub returns-then-n-start : goal.returns-then-n-start
returns-then-n-start c =
    let p = c.requires in
    not-in-form c.args.hello.now (after_session p.version p.random p.id (drop (39 + c.args.session) c.args.hello.now)) p.is
    (suites-cut p.version p.random p.id c.args.hello.now (39 + c.args.session) p.inside c.if-n-at-lt2.false c.from-length.result (count (goal.at.returns-then-n-start c).After-from-length) c.if-n-start.true)

pub returns-in_err-block : goal.returns-in_err-block
returns-in_err-block c =
    let cut = subst (λ (x : std.Option ℕ). BlockAs x c.args.hello.now (39 + c.args.session + 2 + c.from-length.result)) c.in_err-block.was c.after_suites.ensures in
    rw c.from_residual.ensures (block-not-there c.args.hello.now c.args.session c.from-length.result c.requires c.if-n-at-lt2.false (count (goal.at.returns-in_err-block c).After-from-length) c.if-length-lt2.false c.if-length-ne0.false c.if-n-start.false cut)

pub returns : goal.returns
returns c =
    fields-there c.args.hello.now c.args.session c.from-length.result c.requires c.if-n-at-lt2.false (count (goal.at.returns c).After-from-length) c.if-length-lt2.false c.if-length-ne0.false c.if-n-start.false c.in_ok-block.block (block (goal.at.returns c).In_ok-block)
