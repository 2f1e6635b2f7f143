-- Each kind of entry has its own reader. Assumes nothing.
use Prim.Native.Nat.{ℕ, ◌+◌}
use mathlib.Core.Path.{refl, ap, subst}
use mathlib.Core.Logic.{⊎_elim}
use native.Mathlib.Omega.{arith}
use Rattle.std.specs.Prelude.{Option, Some, None}
use Rattle.fingerprint_bodies.specs.declared.Entry.{Entry}
use Rattle.fingerprint_bodies.specs.Body.{name, groups, algorithms, protocols, versions, shares, parameters, other}
use Rattle.fingerprint_bodies.specs.Code.{NameFound, NameAs, ShareFound, ShareAs}
use Rattle.fingerprint_parameters.specs.Code.{ParameterFound, ParameterAs}
use Rattle.fingerprint.specs.Code.{meant}
use Rattle.fingerprint_stops.specs.Stops.{word_size}
use Rattle.fingerprint_stops.proofs.EntryLaws.{name-size, name-none, share-size, share-none, parameter-size, parameter-none, groups-size, algorithms-size, versions-size, server-name-size, other-size, size-as}
use Rattle.fingerprint_stops.proofs.body.entry_size.Goals as goal

pub returns-in-Groups : goal.returns-in-Groups
returns-in-Groups c =
    let bs = c.args.rest.now in
    let r = c.word_size.result in
    let is = c.word_size.ensures in
    ⊎_elim (λ e. size-as bs c.args.kind r groups (word_size bs) (ap meant e) (groups-size bs) is)
    (⊎_elim (λ e. size-as bs c.args.kind r algorithms (word_size bs) (ap meant e) (algorithms-size bs) is)
    (λ e. size-as bs c.args.kind r versions (word_size bs) (ap meant e) (versions-size bs) is))
    c.in-Groups.is

pub returns-in_ok-one_name-in-Protocols : goal.returns-in_ok-one_name-in-Protocols
returns-in_ok-one_name-in-Protocols c =
    let bs = c.args.rest.now in
    let n = c.in_ok-one_name-in-Protocols.field-0 in
    let found : NameFound bs n = subst (λ (x : Option ℕ). NameAs x bs) c.in_ok-one_name-in-Protocols.was c.one_name.ensures in
    size-as bs c.args.kind (Some (1 + n)) protocols (1 + n) (ap meant c.in-Protocols.is) (name-size bs n found) (refl, omega arith)

pub returns-in_ok-one_share-in-Shares : goal.returns-in_ok-one_share-in-Shares
returns-in_ok-one_share-in-Shares c =
    let bs = c.args.rest.now in
    let e = c.in_ok-one_share-in-Shares.field-0 in
    let found : ShareFound bs e.value e.used = subst (λ (x : Option (Entry ℕ)). ShareAs x bs) c.in_ok-one_share-in-Shares.was c.one_share.ensures in
    size-as bs c.args.kind (Some e.used) shares e.used (ap meant c.in-Shares.is) (share-size bs e.value e.used found) (refl, found.some)

pub returns-in_ok-one_parameter-in-Parameters : goal.returns-in_ok-one_parameter-in-Parameters
returns-in_ok-one_parameter-in-Parameters c =
    let bs = c.args.rest.now in
    let e = c.in_ok-one_parameter-in-Parameters.field-0 in
    let found : ParameterFound bs e.value e.used = subst (λ (x : Option (Entry ℕ)). ParameterAs x bs) c.in_ok-one_parameter-in-Parameters.was c.one_parameter.ensures in
    size-as bs c.args.kind (Some e.used) parameters e.used (ap meant c.in-Parameters.is) (parameter-size bs e.value e.used found) (refl, found.some)

pub returns-in_err-one_name-in-Protocols : goal.returns-in_err-one_name-in-Protocols
returns-in_err-one_name-in-Protocols c =
    let bs = c.args.rest.now in
    let cut = subst (λ (x : Option ℕ). NameAs x bs) c.in_err-one_name-in-Protocols.was c.one_name.ensures in
    rw c.from_residual.ensures (size-as bs c.args.kind None protocols 0 (ap meant c.in-Protocols.is) (name-none bs cut) refl)

pub returns-in_err-one_share-in-Shares : goal.returns-in_err-one_share-in-Shares
returns-in_err-one_share-in-Shares c =
    let bs = c.args.rest.now in
    let cut = subst (λ (x : Option (Entry ℕ)). ShareAs x bs) c.in_err-one_share-in-Shares.was c.one_share.ensures in
    rw c.from_residual-in_err-one_share-in-Shares.ensures (size-as bs c.args.kind None shares 0 (ap meant c.in-Shares.is) (share-none bs cut) refl)

pub returns-in_err-one_parameter-in-Parameters : goal.returns-in_err-one_parameter-in-Parameters
returns-in_err-one_parameter-in-Parameters c =
    let bs = c.args.rest.now in
    let cut = subst (λ (x : Option (Entry ℕ)). ParameterAs x bs) c.in_err-one_parameter-in-Parameters.was c.one_parameter.ensures in
    rw c.from_residual-in_err-one_parameter-in-Parameters.ensures (size-as bs c.args.kind None parameters 0 (ap meant c.in-Parameters.is) (parameter-none bs cut) refl)

pub returns-in-Name : goal.returns-in-Name
returns-in-Name c =
    let bs = c.args.rest.now in
    ⊎_elim (λ e. size-as bs c.args.kind None name 0 (ap meant e) (server-name-size bs) refl)
    (λ e. size-as bs c.args.kind None other 0 (ap meant e) (other-size bs) refl)
    c.in-Name.is
