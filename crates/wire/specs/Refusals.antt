-- The numbers of the refusals in document 01, and what a `Result` of the code answers in its terms.
use Rattle.std.specs.Prelude.{ℕ, Result, Ok, Err}
use Rattle.wire.specs.Answer.{Answer, result, refused, Told}
use Rattle.wire.specs.declared.refusals.Refusal.{Refusal}
use Rattle.wire.specs.declared.refusals.Refusal.TheVariants as no

-- the number of the question that was answered "no"
abbrev pub question : Refusal → ℕ
question no.ValueTooLarge = 1
question no.NoRoomForVarint = 2
question no.VarintCut = 3
question no.UnknownProfile = 4
question no.NameLength = 5
question no.NameByte = 6
question no.ConnectionIdTooLong = 7
question no.TapeTooShort = 8
question no.NoRoomForHello = 9
question no.BuffersTooShort = 10
question no.UnknownFrame = 11
question no.FrameCut = 12
question no.FramePastLimit = 13
question no.FramesDisagree = 14
question no.StreamGap = 15
question no.HelloTooLong = 16
question no.NoClientHello = 17
question no.WrongLength = 18
question no.FieldMalformed = 19
question no.ExtensionCut = 20
question no.ExtensionMalformed = 21
question no.ParameterTwice = 22
question no.ListTooLong = 23
question no.FrameSize = 24
question no.HelloTooLongToCut = 25
question no.NoRoomForFrames = 26
question no.RecordCut = 27

-- the answer: its result, or the number of its refusal
abbrev pub answer_of : {A : Type 0} → Result A Refusal → Answer A
answer_of (Ok a) = result a
answer_of (Err e) = refused (question e)

-- and in numbers, for each case: "A refusal carries its number, zero counts"
abbrev pub told_of : {A : Type 0} → A → Result A Refusal → Told A
told_of zeros (Ok a) = record { number = 0; values = a }
told_of zeros (Err e) = record { number = question e; values = zeros }

-- the number alone: 0 where there is a result
abbrev pub told_number : {A : Type 0} → Result A Refusal → ℕ
told_number (Ok a) = 0
told_number (Err e) = question e
