-- Closed inputs of the calls for C, beside those of a report (fingerprint_layout): what the definitions that the contracts cite say of
-- them. Each rules out the program that its comment names. Assumes nothing.
use Prim.Native.Nat.{ℕ, ◌+◌, ◌^◌}
use mathlib.Core.Path.{◌≡◌, refl}
use mathlib.Core.Bool.{cond}
use mathlib.Core.List.{List, [], ◌∷◌}
use lib.ListN.{replicate}
use Rattle.wire.specs.Answer.{result, and_then, coded}
use Rattle.wire.specs.Front.{front}
use Rattle.wire.specs.Numbers.{digits}
use Rattle.varint.specs.Varint.{first_above, class, form}
use Rattle.frames.specs.Frame.{encode, encode_all}
use Rattle.frames.specs.Join.{roomy, join_of, out_after, marks_after}
use Rattle.frames.specs.Cut.{cut_from, cut, frames_of, cut_of, after_cut}
use Rattle.tls.specs.Make.{ask_name, make_with, make_of}
use Rattle.fingerprint.specs.Reader.{read_fields, read}
use Rattle.fingerprint.proofs.Samples.{hello_of}
use Rattle.alike.specs.Alike.{alike}
use Rattle.alike.proofs.Samples.{suites-compared}
use Rattle.crustdelta_c.specs.Calls.{length_of, read_answer}

-- ---- crustdelta_make

-- what it answers for an empty name
unfoldable pub made : ℕ → ℕ
made profile = coded (and_then (make_of profile [] [] [] 0) (λ h. result (length_of h)))

-- takes_the_profile_in_8_bits: 256 is then profile 0, and question 5 is the first "no"
pub profile-256 : made 256 ≡ 2 ^ 32 + 4
unfolding made make_of
profile-256 = refl

pub profile-0 : made 0 ≡ 2 ^ 32 + 5
unfolding made make_of make_with ask_name
profile-0 = refl

-- ---- crustdelta_read

-- answers_the_number_alone: 17
pub nothing_read : read_answer (read []) ≡ 2 ^ 32 + 17
unfolding read_answer read read_fields
nothing_read = refl

-- ---- crustdelta_join

-- asks_for_the_room_of_the_marks_alone: the output has one byte, the marks have room. Both stay.
pub short-output : coded (join_of [] (7 ∷ []) (replicate 16384 0)) ≡ 2 ^ 32 + 10
unfolding join_of roomy
short-output = refl

pub short-output-stays : out_after [] (7 ∷ []) (replicate 16384 0) ≡ 7 ∷ []
unfolding out_after roomy
short-output-stays = refl

pub marks_stay : marks_after [] (7 ∷ []) (replicate 16384 0) ≡ replicate 16384 0
unfolding marks_after roomy
marks_stay = refl

-- ---- crustdelta_frames

-- cuts_by_1200: one frame of 6 bytes
pub cut-by-2 : after_cut 2 (1 ∷ 2 ∷ 3 ∷ []) (replicate 10 0) ≡ 6 ∷ 0 ∷ 2 ∷ 1 ∷ 2 ∷ 6 ∷ 2 ∷ 1 ∷ 3 ∷ 0 ∷ []
unfolding after_cut cut_of frames_of cut cut_from encode_all encode class first_above form digits front
cut-by-2 = refl

pub cut-by-1200 : coded (cut_of 1200 (1 ∷ 2 ∷ 3 ∷ []) 10) ≡ 6
unfolding cut_of frames_of cut cut_from encode_all encode class first_above form digits
cut-by-1200 = refl

-- takes_c_in_32_bits: 2^32 + 1 is then 1
pub cut-by-too-many : coded (cut_of (2 ^ 32 + 1) (1 ∷ []) 10) ≡ 2 ^ 32 + 24
unfolding cut_of
cut-by-too-many = refl

-- ---- crustdelta_alike

unfoldable pub compared : List ℕ → List ℕ → ℕ
compared a b = cond (alike (read a) (read b)) 1 0

-- compares_a_hello_with_itself: two hellos that are accepted, the suites of one in another order
pub other-suites : compared (hello_of [] (0x13 ∷ 0x01 ∷ 0x13 ∷ 0x02 ∷ []) []) (hello_of [] (0x13 ∷ 0x02 ∷ 0x13 ∷ 0x01 ∷ []) []) ≡ 0
unfolding compared
other-suites = rw suites-compared

-- compares_answers: two hellos that are refused with the same number
pub both-refused : compared [] [] ≡ 0
unfolding compared alike read read_fields
both-refused = refl
