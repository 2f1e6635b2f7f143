-- Every sample marked T holds of the definitions. Assumes nothing.
use mathlib.Core.Path.{◌≡◌, refl}
use mathlib.Core.List.{map}
use Rattle.wire.specs.Numbers.{digits, number_on, number}
use Rattle.wire.specs.Sums.{swapped}
use Rattle.varint.specs.Varint.{first_above, class, form, shortest, class_at, size_of, read_of}
use Rattle.frames.specs.Read.{read_crypto, read_frame}
use Rattle.frames.specs.Stream.{has, byte_at, filled, held, end_of, each, values, agrees, gapless, stream}
use Rattle.frames.specs.Join.{place, place_all, close, join}
use Rattle.tape.specs.Tape.{rand_bytes, lowest_first, next_u64, remainders, swaps, shuffle, raised, grease_id, payload_length}
use Rattle.laws_samples.specs.Questions.{answer, questions, answers}

pub samples : map answer questions ≡ answers
unfolding
    first_above class form shortest class_at size_of read_of digits number_on number swapped read_crypto read_frame has byte_at filled held end_of each values agrees gapless stream place place_all close join rand_bytes lowest_first next_u64 remainders swaps shuffle raised grease_id payload_length
samples = refl
