-- The commands: the word of each, and its operands.
use Rattle.std.specs.Prelude.{ℕ, suc, Option, List, [], ◌∷◌}
use Rattle.std.specs.Map.{lookup}
use Rattle.std.specs.Str.{bytes_eq}
use Rattle.script.specs.Scan.{text}
use Rattle.operands.specs.declared.kinds.Command.{Command}
use Rattle.operands.specs.declared.kinds.Command.TheVariants as a

-- ---- Their words

abbrev pub words : List (List ℕ × Command)
words =
    (text "size", a.Size) ∷
    (text "write", a.Write) ∷
    (text "read", a.Read) ∷
    (text "make", a.Make) ∷
    (text "join", a.Join) ∷
    (text "frames", a.Frames) ∷
    (text "split", a.Split) ∷
    (text "show-frames", a.ShowFrames) ∷
    (text "report", a.Report) ∷
    (text "show", a.Show) ∷
    (text "name", a.Name) ∷
    (text "set", a.Set) ∷
    (text "alike", a.Alike) ∷
    []

-- the command whose word this is
abbrev pub command_of : List ℕ → Option Command
command_of word = lookup (bytes_eq word) words

-- ---- Their operands

-- a number (or for `make` a profile), bytes that are read, and a buffer that is filled
pub data Kind : Type 0 where
  number : Kind
  bytes : Kind
  buffer : Kind

-- in the order of a line
abbrev pub kinds_of : Command → List Kind
kinds_of a.Size = number ∷ []
kinds_of a.Write = number ∷ buffer ∷ []
kinds_of a.Read = bytes ∷ []
kinds_of a.Make = number ∷ bytes ∷ bytes ∷ bytes ∷ buffer ∷ []
kinds_of a.Join = bytes ∷ buffer ∷ buffer ∷ []
kinds_of a.Frames = number ∷ bytes ∷ buffer ∷ []
kinds_of a.Split = number ∷ bytes ∷ []
kinds_of a.ShowFrames = bytes ∷ []
kinds_of a.Report = bytes ∷ []
kinds_of a.Show = bytes ∷ []
kinds_of a.Name = bytes ∷ bytes ∷ []
kinds_of a.Set = bytes ∷ []
kinds_of a.Alike = bytes ∷ bytes ∷ []

-- how many of them are of each kind
abbrev pub numbers_in : List Kind → ℕ
numbers_in [] = 0
numbers_in (number ∷ ks) = suc (numbers_in ks)
numbers_in (bytes ∷ ks) = numbers_in ks
numbers_in (buffer ∷ ks) = numbers_in ks

abbrev pub inputs_in : List Kind → ℕ
inputs_in [] = 0
inputs_in (number ∷ ks) = inputs_in ks
inputs_in (bytes ∷ ks) = suc (inputs_in ks)
inputs_in (buffer ∷ ks) = inputs_in ks

abbrev pub buffers_in : List Kind → ℕ
buffers_in [] = 0
buffers_in (number ∷ ks) = buffers_in ks
buffers_in (bytes ∷ ks) = buffers_in ks
buffers_in (buffer ∷ ks) = suc (buffers_in ks)
