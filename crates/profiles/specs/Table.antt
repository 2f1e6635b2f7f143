-- Document 01's table, to which questions 8 and 9 refer. n is the name's length, s the connection id's, pay the ECH payload's ("P").
use Rattle.std.specs.Prelude.{ℕ, zero, suc, ◌+◌}

pub record Row : Type 0 where
  pub hello_length : ℕ → ℕ → ℕ → ℕ
  pub tape_needed : ℕ
  pub drawn : ℕ → ℕ

abbrev pub chrome_row : Row
chrome_row = record { hello_length = λ n s pay. 1534 + n + pay; tape_needed = 1726; drawn = λ pay. 1526 + pay }

abbrev pub firefox_row : Row
firefox_row = record { hello_length = λ n s pay. 1633 + n + s + pay; tape_needed = 1808; drawn = λ pay. 1608 + pay }

abbrev pub curl_row : Row
curl_row = record { hello_length = λ n s pay. 290 + n + pay; tape_needed = 416; drawn = λ pay. 216 + pay }

-- the row of a profile: 0 is Chrome, 1 Firefox, 2 curl
abbrev pub row_of : ℕ → Row
row_of zero = chrome_row
row_of (suc zero) = firefox_row
row_of (suc (suc n)) = curl_row
