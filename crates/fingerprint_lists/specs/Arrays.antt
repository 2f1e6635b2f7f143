-- Lists as arrays with counts: "places past a list's count hold zeros". Names as parts of the hello.
use Rattle.std.specs.Prelude.{ℕ, ◌+◌, ◌-◌, List, [], ◌∷◌, ◌++◌, map, length, replicate}
use Rattle.profiles.specs.declared.ExtType.{ExtType}
use Rattle.profiles.specs.declared.Group.{Group}
use Rattle.fingerprint_lists.specs.declared.Span.{Span}
use Rattle.fingerprint_lists.specs.declared.List as code

abbrev pub ext_type : ℕ → ExtType
ext_type t = record { 0 = t }

abbrev pub group : ℕ → Group
group g = record { 0 = g }

abbrev pub span : ℕ → ℕ → Span
span a n = record { start = a; length = n }

-- an array with a count, of each type
abbrev pub Words : Type 0
Words = code.List ℕ 64

abbrev pub Groups : Type 0
Groups = code.List Group 64

abbrev pub Types : Type 0
Types = code.List ExtType 64

abbrev pub Spans : Type 0
Spans = code.List Span 16

-- a list in an array of m places; the places past it hold z
unfoldable pub padded : {A : Type 0} → ℕ → A → List A → List A
padded m z l = l ++ replicate (m - length l) z

unfoldable pub words_of : List ℕ → Words
words_of l = record { items = padded 64 0 l; count = length l }

unfoldable pub groups_of : List ℕ → Groups
groups_of l = record { items = padded 64 (group 0) (map group l); count = length l }

unfoldable pub types_of : List ℕ → Types
types_of l = record { items = padded 64 (ext_type 0) (map ext_type l); count = length l }

-- ---- Parts of the hello

-- where it starts, and its bytes
pub record Part : Type 0 where
  pub start : ℕ
  pub bytes : List ℕ

abbrev pub part : ℕ → List ℕ → Part
part at bs = record { start = at; bytes = bs }

abbrev pub span_of : Part → Span
span_of p = span p.start (length p.bytes)

unfoldable pub spans_of : List Part → Spans
spans_of l = record { items = padded 16 (span 0 0) (map span_of l); count = length l }

-- names that stand one after the other from a place on, each after its 1-byte length
unfoldable pub placed : ℕ → List (List ℕ) → List Part
placed at [] = []
placed at (n ∷ ns) = part (at + 1) n ∷ placed (at + 1 + length n) ns
