-- `ask_body` asks what the reader of that kind asks. Assumes nothing.
use mathlib.Core.Path.{refl, sym, ◌∙◌}
use mathlib.Core.Logic.{⊎_elim}
use Rattle.std.proofs.lemmas.Result.{err_from_is_err_and}
use Rattle.fingerprint_bodies.specs.Body.{name, groups, algorithms, protocols, versions, shares, other}
use Rattle.fingerprint_bodies.proofs.AskLaws.{asked-name, asked-groups, asked-algorithms, asked-protocols, asked-versions, asked-shares, asked-other}
use Rattle.fingerprint.proofs.IdLaws.{body-without, body-refused, body-parameters}
use Rattle.fingerprint.proofs.walk.ask_body.Goals as goal

pub returns-in_err-ask_name-in-Name : goal.returns-in_err-ask_name-in-Name
returns-in_err-ask_name-in-Name c =
    let body = c.args.body.now in
    let p = err_from_is_err_and c.from_residual.result c.from_residual.ensures.1 in
    rw (c.in-Name.is, p.1) (body-refused name body _ _ p.0 (rw p.2 (c.in_err-ask_name-in-Name.ensures ∙ sym (asked-name body))))

pub returns-in_ok-ask_name-in-Name : goal.returns-in_ok-ask_name-in-Name
returns-in_ok-ask_name-in-Name c =
    let body = c.args.body.now in
    rw c.in-Name.is (body-without name body c.args.ids.now refl c.told-ids (asked-name body ∙ sym c.in_ok-ask_name-in-Name.ensures))

pub returns-in_err-ask_words-in-Groups : goal.returns-in_err-ask_words-in-Groups
returns-in_err-ask_words-in-Groups c =
    let body = c.args.body.now in
    let p = err_from_is_err_and c.from_residual-in_err-ask_words-in-Groups.result c.from_residual-in_err-ask_words-in-Groups.ensures.1 in
    rw p.1
    (⊎_elim
    (λ e. rw e (body-refused groups body _ _ p.0 (rw p.2 (c.in_err-ask_words-in-Groups.ensures ∙ sym (asked-groups body)))))
    (λ e. rw e (body-refused algorithms body _ _ p.0 (rw p.2 (c.in_err-ask_words-in-Groups.ensures ∙ sym (asked-algorithms body)))))
    c.in-Groups.is)

pub returns-in_ok-ask_words-in-Groups : goal.returns-in_ok-ask_words-in-Groups
returns-in_ok-ask_words-in-Groups c =
    let body = c.args.body.now in
    ⊎_elim
    (λ e. rw e (body-without groups body c.args.ids.now refl c.told-ids (asked-groups body ∙ sym c.in_ok-ask_words-in-Groups.ensures)))
    (λ e. rw e (body-without algorithms body c.args.ids.now refl c.told-ids (asked-algorithms body ∙ sym c.in_ok-ask_words-in-Groups.ensures)))
    c.in-Groups.is

pub returns-in_err-ask_protocols-in-Protocols : goal.returns-in_err-ask_protocols-in-Protocols
returns-in_err-ask_protocols-in-Protocols c =
    let body = c.args.body.now in
    let p = err_from_is_err_and c.from_residual-in_err-ask_protocols-in-Protocols.result c.from_residual-in_err-ask_protocols-in-Protocols.ensures.1 in
    rw (c.in-Protocols.is, p.1) (body-refused protocols body _ _ p.0 (rw p.2 (c.in_err-ask_protocols-in-Protocols.ensures ∙ sym (asked-protocols body))))

pub returns-in_ok-ask_protocols-in-Protocols : goal.returns-in_ok-ask_protocols-in-Protocols
returns-in_ok-ask_protocols-in-Protocols c =
    let body = c.args.body.now in
    rw c.in-Protocols.is (body-without protocols body c.args.ids.now refl c.told-ids (asked-protocols body ∙ sym c.in_ok-ask_protocols-in-Protocols.ensures))

pub returns-in_err-ask_words-in-Versions : goal.returns-in_err-ask_words-in-Versions
returns-in_err-ask_words-in-Versions c =
    let body = c.args.body.now in
    let p = err_from_is_err_and c.from_residual-in_err-ask_words-in-Versions.result c.from_residual-in_err-ask_words-in-Versions.ensures.1 in
    rw (c.in-Versions.is, p.1) (body-refused versions body _ _ p.0 (rw p.2 (c.in_err-ask_words-in-Versions.ensures ∙ sym (asked-versions body))))

pub returns-in_ok-ask_words-in-Versions : goal.returns-in_ok-ask_words-in-Versions
returns-in_ok-ask_words-in-Versions c =
    let body = c.args.body.now in
    rw c.in-Versions.is (body-without versions body c.args.ids.now refl c.told-ids (asked-versions body ∙ sym c.in_ok-ask_words-in-Versions.ensures))

pub returns-in_err-ask_shares-in-Shares : goal.returns-in_err-ask_shares-in-Shares
returns-in_err-ask_shares-in-Shares c =
    let body = c.args.body.now in
    let p = err_from_is_err_and c.from_residual-in_err-ask_shares-in-Shares.result c.from_residual-in_err-ask_shares-in-Shares.ensures.1 in
    rw (c.in-Shares.is, p.1) (body-refused shares body _ _ p.0 (rw p.2 (c.in_err-ask_shares-in-Shares.ensures ∙ sym (asked-shares body))))

pub returns-in_ok-ask_shares-in-Shares : goal.returns-in_ok-ask_shares-in-Shares
returns-in_ok-ask_shares-in-Shares c =
    let body = c.args.body.now in
    rw c.in-Shares.is (body-without shares body c.args.ids.now refl c.told-ids (asked-shares body ∙ sym c.in_ok-ask_shares-in-Shares.ensures))

pub returns-in-Parameters : goal.returns-in-Parameters
returns-in-Parameters c = rw c.in-Parameters.is (body-parameters c.args.body.now _ _ _ c.ask_parameters.ensures)

pub returns-in-Other : goal.returns-in-Other
returns-in-Other c = rw c.in-Other.is (body-without other c.args.body.now c.args.ids.now refl c.told-ids (asked-other c.args.body.now))
