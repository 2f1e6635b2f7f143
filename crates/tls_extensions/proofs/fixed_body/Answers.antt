-- Each body is the one that the definition computes to. Assumes nothing.
use mathlib.Core.Path.{◌≡◌}
use mathlib.Core.Logic.{◌≢◌}
use native.Mathlib.Omega.{arith}
use Rattle.wire.specs.Numbers.{digits}
use Rattle.wire.specs.Vectors.{vector, words}
use Rattle.tls_extensions.specs.Extensions.{ext_psk_ke_modes, ext_record_size_limit, ext_reneg_info, ext_status_request, ext_extended_master_secret, ext_delegated_credentials, ext_application_settings, ext_u16_list, fixed_extension}
use Rattle.tls_extensions.proofs.fixed_body.Goals as goal

pub returns-in-PSK_KEY_EXCHANGE_MODES : goal.returns-in-PSK_KEY_EXCHANGE_MODES
unfolding fixed_extension ext_psk_ke_modes vector digits
returns-in-PSK_KEY_EXCHANGE_MODES c =
    let e : c.args.t.0 ≡ 45 = omega arith in
    (rw e, omega arith)

pub returns-in-RECORD_SIZE_LIMIT : goal.returns-in-RECORD_SIZE_LIMIT
unfolding fixed_extension ext_record_size_limit vector digits
returns-in-RECORD_SIZE_LIMIT c =
    let e : c.args.t.0 ≡ 28 = omega arith in
    (rw e, omega arith)

pub returns-in-RENEGOTIATION_INFO : goal.returns-in-RENEGOTIATION_INFO
unfolding fixed_extension ext_reneg_info vector digits
returns-in-RENEGOTIATION_INFO c =
    let e : c.args.t.0 ≡ 65281 = omega arith in
    (rw e, omega arith)

pub returns-in-STATUS_REQUEST : goal.returns-in-STATUS_REQUEST
unfolding fixed_extension ext_status_request vector digits
returns-in-STATUS_REQUEST c =
    let e : c.args.t.0 ≡ 5 = omega arith in
    (rw e, omega arith)

pub returns-in-EXTENDED_MASTER_SECRET : goal.returns-in-EXTENDED_MASTER_SECRET
unfolding fixed_extension ext_extended_master_secret vector digits
returns-in-EXTENDED_MASTER_SECRET c =
    let e : c.args.t.0 ≡ 23 = omega arith in
    (rw e, omega arith)

pub returns-in-DELEGATED_CREDENTIALS : goal.returns-in-DELEGATED_CREDENTIALS
unfolding fixed_extension ext_delegated_credentials vector digits ext_u16_list words
returns-in-DELEGATED_CREDENTIALS c =
    let e : c.args.t.0 ≡ 34 = omega arith in
    (rw e, omega arith)

pub returns-in-APPLICATION_SETTINGS : goal.returns-in-APPLICATION_SETTINGS
unfolding fixed_extension ext_application_settings vector digits
returns-in-APPLICATION_SETTINGS c =
    let e : c.args.t.0 ≡ 17613 = omega arith in
    (rw e, omega arith)

pub returns-in_default : goal.returns-in_default
unfolding fixed_extension
returns-in_default c =
    let no0 : c.args.t.0 ≢ 45 = omega arith in
    let no1 : c.args.t.0 ≢ 28 = omega arith in
    let no2 : c.args.t.0 ≢ 65281 = omega arith in
    let no3 : c.args.t.0 ≢ 5 = omega arith in
    let no4 : c.args.t.0 ≢ 23 = omega arith in
    let no5 : c.args.t.0 ≢ 34 = omega arith in
    let no6 : c.args.t.0 ≢ 17613 = omega arith in
    grind (arith, no0, no1, no2, no3, no4, no5, no6)
