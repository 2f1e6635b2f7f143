-- The profile of a browser below 3 is the one that `for_browser` gives. Assumes nothing.
use Rattle.std.proofs.lemmas.Result.{err_from_is_err_and}
use Rattle.profiles.specs.Code.{profile_of}
use Rattle.profiles.proofs.TableLaws.{named-below}
use Rattle.tls.proofs.MakeLaws.{refuses-browser, makes-browser}
use Rattle.tls.proofs.making.generate_client_hello.Goals as goal

pub returns-in_err-browser : goal.returns-in_err-browser
returns-in_err-browser c =
    let args = c.args in
    let p = err_from_is_err_and c.from_residual.result c.from_residual.ensures.1 in
    let unknown = c.in_err-browser.ensures in
    rw (p.1, p.2, unknown.0) (refuses-browser args.browser args.name.now args.scid.now args.tape.now args.out.now unknown.1)

pub returns : goal.returns
returns c =
    let args = c.args in
    let number = c.in_ok-browser.ensures in
    let chosen = c.for_browser-profile in
    makes-browser args.browser args.name.now args.scid.now args.tape.now args.out.now (profile_of chosen.result)
    (rw number at (named-below c.in_ok-browser.browser)) (rw number at chosen.ensures.is) c.make_with.ensures
