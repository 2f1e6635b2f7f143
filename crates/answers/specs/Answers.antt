-- The answer to each command of the varints, the maker, the joiner, the cutter and the splitter, part by part, in the words of the script language.
use Rattle.std.specs.Prelude.{ℕ, List, [], ◌∷◌, ◌++◌}
use Rattle.wire.specs.Answer.{Answer, result, refused}
use Rattle.varint.specs.declared.Varint.{Varint}
use Rattle.tls.specs.declared.Hello.{Hello}
use Rattle.records.specs.Records.{Found, record-to, end}
use Rattle.script.specs.Scan.{space}
use Rattle.script_writing.specs.Decimal.{decimal_text}
use Rattle.script_writing.specs.Shown.{shown_text}
use Rattle.answers.specs.Said.{Outcome, plain, hands, number}

-- ---- The words

-- "width "
abbrev pub width_word : List ℕ
width_word = 119 ∷ 105 ∷ 100 ∷ 116 ∷ 104 ∷ space ∷ []

-- "value "
abbrev pub value_word : List ℕ
value_word = 118 ∷ 97 ∷ 108 ∷ 117 ∷ 101 ∷ space ∷ []

-- "length "
abbrev pub length_word : List ℕ
length_word = 108 ∷ 101 ∷ 110 ∷ 103 ∷ 116 ∷ 104 ∷ space ∷ []

-- "drawn "
abbrev pub drawn_word : List ℕ
drawn_word = 100 ∷ 114 ∷ 97 ∷ 119 ∷ 110 ∷ space ∷ []

-- "record "
abbrev pub record_word : List ℕ
record_word = 114 ∷ 101 ∷ 99 ∷ 111 ∷ 114 ∷ 100 ∷ space ∷ []

-- "next "
abbrev pub next_word : List ℕ
next_word = 110 ∷ 101 ∷ 120 ∷ 116 ∷ space ∷ []

-- "end"
abbrev pub end_word : List ℕ
end_word = 101 ∷ 110 ∷ 100 ∷ []

-- "refused "
abbrev pub refused_word : List ℕ
refused_word = 114 ∷ 101 ∷ 102 ∷ 117 ∷ 115 ∷ 101 ∷ 100 ∷ space ∷ []

-- ---- The answers

-- the word and the number of a refusal
abbrev pub refused_parts : ℕ → List (List ℕ)
refused_parts n = refused_word ∷ decimal_text n ∷ []

-- a word and the number that is the result; or the refusal's number
abbrev pub number_parts : List ℕ → Answer ℕ → List (List ℕ)
number_parts word (result n) = word ∷ decimal_text n ∷ []
number_parts word (refused n) = refused_word ∷ decimal_text n ∷ []

-- a buffer, as it is at exit
abbrev pub buffer_parts : List ℕ → List (List ℕ)
buffer_parts buffer = (space ∷ []) ∷ shown_text buffer ∷ []

-- `size VALUE`: `width W`, or `refused 1`
abbrev pub size_parts : Answer ℕ → List (List ℕ)
size_parts answer = number_parts width_word answer

-- `write VALUE OUT`: `width W OUT'`, or `refused N OUT'`
abbrev pub write_parts : Answer ℕ → List ℕ → List (List ℕ)
write_parts answer out = number_parts width_word answer ++ buffer_parts out

-- `read BYTES`: `value V width W`, or `refused 3`
abbrev pub read_parts : Answer Varint → List (List ℕ)
read_parts (result x) = value_word ∷ decimal_text x.value ∷ (space ∷ width_word) ∷ decimal_text x.width ∷ []
read_parts (refused n) = refused_word ∷ decimal_text n ∷ []

-- `make PROFILE NAME SCID TAPE OUT`: `length L drawn D OUT'`, or `refused N OUT'`
abbrev pub lengths_parts : Answer Hello → List (List ℕ)
lengths_parts (result h) = length_word ∷ decimal_text h.length ∷ (space ∷ drawn_word) ∷ decimal_text h.drawn ∷ []
lengths_parts (refused n) = refused_word ∷ decimal_text n ∷ []

abbrev pub make_parts : Answer Hello → List ℕ → List (List ℕ)
make_parts answer out = lengths_parts answer ++ buffer_parts out

-- `join FRAMES OUT MARKS`: `end E OUT' MARKS'`, or `refused N OUT' MARKS'`
abbrev pub join_parts : Answer ℕ → List ℕ → List ℕ → List (List ℕ)
join_parts answer out marks = number_parts (end_word ++ (space ∷ [])) answer ++ (buffer_parts out ++ buffer_parts marks)

-- `frames C HELLO OUT`: `length L OUT'`, or `refused N OUT'`
abbrev pub frames_parts : Answer ℕ → List ℕ → List (List ℕ)
frames_parts answer out = number_parts length_word answer ++ buffer_parts out

-- `split PLACE BLOB`: `record BYTES next K`, `end`, or `refused 27`
abbrev pub split_parts : Answer Found → List ℕ → List (List ℕ)
split_parts (result (record-to after)) part = record_word ∷ shown_text part ∷ (space ∷ next_word) ∷ decimal_text after ∷ []
split_parts (result end) part = end_word ∷ []
split_parts (refused n) part = refused_word ∷ decimal_text n ∷ []

-- it hands back the record, where there is one
abbrev pub splitting : Answer Found → List ℕ → Outcome
splitting (result (record-to after)) part = hands part
splitting (result end) part = plain
splitting (refused n) part = number n
