-- Document 01's table (specs/Table.antt): the hello's length and its draws, for each of the three profiles, are the sums over the profile.
-- Assumes nothing.
use Prim.Native.Nat.{ℕ, zero, suc, ◌+◌, ◌<◌}
use mathlib.Core.Path.{◌≡◌}
use native.Mathlib.Omega.{arith}
use borrow.Author.Tests.{lt-ltb}
use Rattle.wire.specs.Sums.{total}
use Rattle.varint.specs.Varint.{first_above, class}
use Rattle.profiles.specs.Profile.{chrome_profile, firefox_profile, curl_profile, for_browser}
use Rattle.profiles.specs.Sizes.{key_share_size, key_draws, parameter_draws, parameter_length, fixed_length, extension_extent, hello_length, hello_drawn, tape_needed}
use Rattle.profiles.specs.Table.{row_of}

-- a rule of a table of three, from its three rows
pub at-three : (P : ℕ → Type 0) → P 0 → P 1 → P 2 → (b : ℕ) → b < 3 → P b
at-three P x y z zero h = x
at-three P x y z (suc zero) h = y
at-three P x y z (suc (suc zero)) h = z
at-three P x y z (suc (suc (suc b))) h = absurd (omega arith)

-- ---- each profile

pub chrome-length : (n s pay : ℕ) → hello_length chrome_profile n s pay ≡ 1534 + n + pay
unfolding chrome_profile hello_length extension_extent fixed_length total key_share_size parameter_length class first_above
chrome-length n s pay = omega arith

pub chrome-drawn : (pay : ℕ) → hello_drawn chrome_profile pay ≡ 1526 + pay
unfolding chrome_profile hello_drawn extension_extent fixed_length total key_share_size key_draws parameter_draws
chrome-drawn pay = omega arith

-- the connection id's length is itself written in one byte
pub firefox-length : (n s pay : ℕ) → s < 64 → hello_length firefox_profile n s pay ≡ 1633 + n + s + pay
unfolding firefox_profile hello_length extension_extent fixed_length total key_share_size parameter_length class first_above
firefox-length n s pay h = simp (lt-ltb s 64 h) (omega arith)

pub firefox-drawn : (pay : ℕ) → hello_drawn firefox_profile pay ≡ 1608 + pay
unfolding firefox_profile hello_drawn extension_extent fixed_length total key_share_size key_draws parameter_draws
firefox-drawn pay = omega arith

pub curl-length : (n s pay : ℕ) → hello_length curl_profile n s pay ≡ 290 + n + pay
unfolding curl_profile hello_length extension_extent fixed_length total key_share_size parameter_length class first_above
curl-length n s pay = omega arith

pub curl-drawn : (pay : ℕ) → hello_drawn curl_profile pay ≡ 216 + pay
unfolding curl_profile hello_drawn extension_extent fixed_length total key_share_size key_draws parameter_draws
curl-drawn pay = omega arith

pub chrome-tape : tape_needed chrome_profile ≡ 1726
chrome-tape = chrome-drawn 200

pub firefox-tape : tape_needed firefox_profile ≡ 1808
firefox-tape = firefox-drawn 200

pub curl-tape : tape_needed curl_profile ≡ 416
curl-tape = curl-drawn 200

-- ---- the rows

-- "hello length"; a connection id of 64 bytes or more would have a length of two bytes
pub table-length : (b : ℕ) → b < 3 → (n s pay : ℕ) → s < 64 → hello_length (for_browser b) n s pay ≡ (row_of b).hello_length n s pay
unfolding for_browser
table-length =
    at-three (λ b. (n s pay : ℕ) → s < 64 → hello_length (for_browser b) n s pay ≡ (row_of b).hello_length n s pay)
    (λ n s pay h. chrome-length n s pay)
    firefox-length
    (λ n s pay h. curl-length n s pay)

-- "drawn", and "tape needed"
pub table-drawn : (b : ℕ) → b < 3 → (pay : ℕ) → hello_drawn (for_browser b) pay ≡ (row_of b).drawn pay
unfolding for_browser
table-drawn = at-three (λ b. (pay : ℕ) → hello_drawn (for_browser b) pay ≡ (row_of b).drawn pay) chrome-drawn firefox-drawn curl-drawn

pub table-tape : (b : ℕ) → b < 3 → tape_needed (for_browser b) ≡ (row_of b).tape_needed
unfolding for_browser
table-tape = at-three (λ b. tape_needed (for_browser b) ≡ (row_of b).tape_needed) chrome-tape firefox-tape curl-tape
