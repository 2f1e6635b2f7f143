-- Closed inputs that tell the joiner and the frame writer from wrong ones, each with its answer. Assumes nothing.
use Prim.Native.Nat.{ℕ, ◌+◌, ◌^◌}
use mathlib.Core.Path.{◌≡◌, refl}
use mathlib.Core.List.{List, [], ◌∷◌, map}
use mathlib.Core.Option.{Option, none, some}
use Rattle.wire.specs.Answer.{Answer, result, refused, Told, told}
use Rattle.wire.specs.Numbers.{digits, number_on, number}
use Rattle.wire.specs.Stops.{Stopped, stopped}
use Rattle.varint.specs.Varint.{first_above, class, form, class_at, read_of}
use Rattle.frames.specs.Frame.{encode, encode_all}
use Rattle.frames.specs.Read.{read_crypto, read_frame}
use Rattle.frames.specs.Stream.{has, byte_at, filled, held, end_of, each, values, agrees, gapless, stream}
use Rattle.frames.specs.Join.{place, place_all, close, join, roomy, ended, join_of}
use Rattle.frames.specs.Stops.{place_stops, join_stops}
use Rattle.frames.specs.Cut.{cut_from, cut, frames_of, cut_of}

abbrev pub questions : List (List ℕ)
questions =
    -- empty frames: one at 0; one past the bytes, and alone, which leaves places empty. A joiner that forgets the end of an empty frame
    -- takes all three.
    (0x06 ∷ 0x00 ∷ 0x00 ∷ [])
    ∷ (0x06 ∷ 0x00 ∷ 0x01 ∷ 0xaa ∷ 0x06 ∷ 0x05 ∷ 0x00 ∷ [])
    ∷ (0x06 ∷ 0x05 ∷ 0x00 ∷ [])
    -- a zero byte is placed like any other. A joiner that takes the later byte on conflict joins them to 01.
    ∷ (0x06 ∷ 0x00 ∷ 0x01 ∷ 0x00 ∷ 0x06 ∷ 0x00 ∷ 0x01 ∷ 0x01 ∷ [])
    -- a type has one byte: CRYPTO in a longer form is unknown
    ∷ (0x40 ∷ 0x06 ∷ 0x00 ∷ 0x01 ∷ 0xaa ∷ [])
    -- a byte is missing. A joiner that takes a cut frame joins it to aa.
    ∷ (0x06 ∷ 0x00 ∷ 0x02 ∷ 0xaa ∷ [])
    -- 12 before 13: a byte is missing, and the frame would end past 16,384
    ∷ (0x06 ∷ 0x80 ∷ 0x00 ∷ 0x40 ∷ 0x00 ∷ 0x02 ∷ 0xaa ∷ [])
    -- 13 for the largest offset, with no data too
    ∷ (0x06 ∷ 0xff ∷ 0xff ∷ 0xff ∷ 0xff ∷ 0xff ∷ 0xff ∷ 0xff ∷ 0xff ∷ 0x00 ∷ [])
    -- 13 before 14: the second frame ends past 16,384, and its first byte conflicts
    ∷ (0x06 ∷ 0x7f ∷ 0xff ∷ 0x01 ∷ 0x61 ∷ 0x06 ∷ 0x7f ∷ 0xff ∷ 0x02 ∷ 0x62 ∷ 0x62 ∷ [])
    -- 15 after all frames. A joiner that reads type 04 as PADDING says 15.
    ∷ (0x06 ∷ 0x01 ∷ 0x01 ∷ 0xbb ∷ 0x04 ∷ [])
    -- longer varints, with PING and PADDING between
    ∷ (0x01 ∷ 0x06 ∷ 0xc0 ∷ 0x00 ∷ 0x00 ∷ 0x00 ∷ 0x00 ∷ 0x00 ∷ 0x00 ∷ 0x00 ∷ 0x40 ∷ 0x01 ∷ 0xaa ∷ 0x00 ∷ [])
    ∷ []

abbrev pub answers : List (Answer (List ℕ))
answers =
    result []
    ∷ refused 15
    ∷ refused 15
    ∷ refused 14
    ∷ refused 11
    ∷ refused 12
    ∷ refused 12
    ∷ refused 13
    ∷ refused 13
    ∷ refused 11
    ∷ result (0xaa ∷ [])
    ∷ []

pub samples : map join questions ≡ answers
unfolding number_on number class_at read_of read_crypto read_frame has byte_at filled held end_of each values agrees gapless stream place place_all close join
samples = refl

-- ---- Where it stops

abbrev pub lists : List (List ℕ)
lists =
    -- at the second frame, whose type is unknown, of which a byte is missing, which ends past 16,384, or whose byte conflicts. A joiner that
    -- stops at a place of the stream, and not of the frames, says 1.
    (0x06 ∷ 0x00 ∷ 0x01 ∷ 0xaa ∷ 0x04 ∷ [])
    ∷ (0x06 ∷ 0x00 ∷ 0x01 ∷ 0xaa ∷ 0x06 ∷ 0x01 ∷ 0x01 ∷ [])
    ∷ (0x06 ∷ 0x00 ∷ 0x01 ∷ 0xaa ∷ 0x06 ∷ 0x7f ∷ 0xff ∷ 0x02 ∷ 0x62 ∷ 0x62 ∷ [])
    ∷ (0x06 ∷ 0x00 ∷ 0x01 ∷ 0xaa ∷ 0x06 ∷ 0x00 ∷ 0x01 ∷ 0xab ∷ [])
    -- PING and PADDING are frames of one byte each
    ∷ (0x01 ∷ 0x00 ∷ 0x00 ∷ 0x04 ∷ 0x00 ∷ [])
    -- after all frames: place 0 is empty
    ∷ (0x06 ∷ 0x01 ∷ 0x01 ∷ 0xbb ∷ [])
    -- frames that join, and no frames
    ∷ (0x06 ∷ 0x00 ∷ 0x01 ∷ 0xaa ∷ 0x00 ∷ [])
    ∷ []
    ∷ []

abbrev pub stops : List (Option Stopped)
stops =
    some (stopped 11 4)
    ∷ some (stopped 12 4)
    ∷ some (stopped 13 4)
    ∷ some (stopped 14 4)
    ∷ some (stopped 11 3)
    ∷ some (stopped 15 4)
    ∷ none
    ∷ none
    ∷ []

pub stop-samples : map join_stops lists ≡ stops
unfolding number_on number class_at read_of read_crypto read_frame has byte_at filled held end_of each values agrees gapless stream place place_all close join place_stops join_stops
stop-samples = refl

-- ---- The frame writer

-- a writer that writes the end of the data as its offset writes 01 and 02 there
pub cut-offsets : frames_of 1 (0xaa ∷ 0xbb ∷ []) ≡ 0x06 ∷ 0x00 ∷ 0x01 ∷ 0xaa ∷ 0x06 ∷ 0x01 ∷ 0x01 ∷ 0xbb ∷ []
unfolding digits first_above class form encode encode_all cut_from cut frames_of
cut-offsets = refl

abbrev pub cuts : List (Answer ℕ)
cuts =
    -- an output of just the length, which a writer that wants a byte more refuses; and a byte less
    cut_of 1 (0xaa ∷ 0xbb ∷ []) 8
    ∷ cut_of 1 (0xaa ∷ 0xbb ∷ []) 7
    -- c of 2^32 + 1: a writer that cuts it to 32 bits writes frames of one byte
    ∷ cut_of (2 ^ 32 + 1) (0xaa ∷ 0xbb ∷ []) 8
    -- 24 for a c of 0, though an empty hello gives no bytes
    ∷ cut_of 0 [] 0
    ∷ cut_of 16384 [] 0
    ∷ []

pub cut-samples : cuts ≡ result 8 ∷ refused 26 ∷ refused 24 ∷ refused 24 ∷ result 0 ∷ []
unfolding digits first_above class form encode encode_all cut_from cut frames_of cut_of
cut-samples = refl

-- ---- Refusals in numbers: zeros beside the number

abbrev pub refusals : List (Told ℕ)
refusals =
    -- no room
    told 0 (join_of (0x06 ∷ 0x00 ∷ 0x01 ∷ 0xaa ∷ []) [] [])
    -- 0, and not the end of what was placed before the gap was found
    ∷ told 0 (ended (join (0x06 ∷ 0x01 ∷ 0x01 ∷ 0xbb ∷ [])))
    -- 0, and not the length that there is no room for
    ∷ told 0 (cut_of 1 (0xaa ∷ 0xbb ∷ []) 7)
    ∷ []

pub refusals-told : refusals ≡ record { number = 10; values = 0 } ∷ record { number = 15; values = 0 } ∷ record { number = 26; values = 0 } ∷ []
unfolding number_on number class_at read_of read_crypto read_frame has byte_at filled held end_of each values agrees gapless stream place place_all close join roomy join_of digits first_above class form encode encode_all cut_from cut frames_of cut_of
refusals-told = refl
