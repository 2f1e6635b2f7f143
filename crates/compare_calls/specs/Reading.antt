-- What compare/ asks of the reader, as single 64-bit numbers.
use Rattle.std.specs.Prelude.{◌≡◌, ℕ, ◌+◌, ◌*◌, ◌%◌, ◌^◌, cond, List, length, nat_le, slice_index, slice_index_or}
use Rattle.std.proofs.Math.Option.{Option, none, some}
use Rattle.wire.specs.Answer.{Answer, result, refused}
use Rattle.wire.specs.Front.{front}
use Rattle.wire.specs.Stops.{Stopped}
use Rattle.script_writing.specs.Answers.{fitted_all}
use Rattle.fingerprint_lists.specs.Arrays.{ext_type, group, span}
use Rattle.fingerprint.specs.ClientHello.{ClientHello}
use Rattle.fingerprint.specs.declared.Fingerprint.{Fingerprint}
use Rattle.answers_reader.specs.Answers.{report_answer}

-- the length of a text that was written, or 2^32 plus the number
abbrev pub coded_length : Answer ClientHello → ℕ → ℕ
coded_length (result v) n = n
coded_length (refused k) n = 2 ^ 32 + k

pub record ReportCoded (answer : Answer ClientHello) (old : List ℕ) (r : ℕ) (new : List ℕ) : Type 0 where
  pub is : r ≡ coded_length answer (length (fitted_all (report_answer answer) (length old)))
  pub output : new ≡ front (fitted_all (report_answer answer) (length old)) old

pub record TextCoded (parts : List (List ℕ)) (old : List ℕ) (r : ℕ) (new : List ℕ) : Type 0 where
  pub is : r ≡ length (fitted_all parts (length old))
  pub output : new ≡ front (fitted_all parts (length old)) old

-- 2^32 times the number at which the reader stops, plus the place; 0 where it accepts
abbrev pub coded_stop : Option Stopped → ℕ
coded_stop none = 0
coded_stop (some s) = 2 ^ 32 * s.number + s.place

-- modulo 2^64
abbrev pub added : ℕ → ℕ → ℕ
added a b = (a + b) % 2 ^ 64

-- one place of each list of a report
unfoldable pub sum_at : Fingerprint → ℕ → ℕ
sum_at p k =
    added (added (added (added (added (added (added (slice_index p.cipher_suites k)
    (slice_index_or p.extensions k (ext_type 0)).0)
    (slice_index_or p.supported_groups k (group 0)).0)
    (slice_index_or p.key_share_groups k (group 0)).0)
    (slice_index p.signature_algorithms k))
    (slice_index p.supported_versions k))
    (slice_index_or p.alpn k (span 0 0)).start)
    (slice_index p.transport_param_ids k)

-- the same, or the number where there is no report; 0 for places from 16 on
unfoldable pub picked_of : Answer Fingerprint → ℕ → ℕ
picked_of (result p) k = cond (nat_le 16 k) 0 (sum_at p k)
picked_of (refused n) k = cond (nat_le 16 k) 0 n
