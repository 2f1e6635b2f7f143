-- What compare/ asks of records and the maker, as single 64-bit numbers.
use Rattle.std.specs.Prelude.{◌≡◌, ℕ, ◌+◌, ◌^◌, List, length, nat_le}
use Rattle.wire.specs.Answer.{Answer, result, refused, ask, unless_refused, coded}
use Rattle.wire.specs.Front.{front}
use Rattle.tls.specs.declared.Hello.{Hello}
use Rattle.records.specs.Records.{Found, record-to, end, record_of}

-- the part of the maker's answer that the C library leaves out
abbrev pub drawn_of : Hello → ℕ
drawn_of h = h.drawn

-- the place after a record, 2^33 for the end, or 2^32 plus the number
abbrev pub coded_next : Answer Found → ℕ
coded_next (result (record-to after)) = after
coded_next (result end) = 2 ^ 33
coded_next (refused n) = 2 ^ 32 + n

-- the length of a record's part, where there is room for it; no question of document 01, so its number is 0
unfoldable pub part_of : List ℕ → ℕ → ℕ → Answer ℕ
part_of blob at room = ask (nat_le (length (record_of blob at)) room) 0 (result (length (record_of blob at)))

-- what a copy of the part gives and leaves
pub record PartCoded (blob : List ℕ) (at : ℕ) (old : List ℕ) (r : ℕ) (new : List ℕ) : Type 0 where
  pub is : r ≡ coded (part_of blob at (length old))
  pub output : new ≡ unless_refused (part_of blob at (length old)) (λ n. front (record_of blob at) old) old
