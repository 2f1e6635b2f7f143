-- What the code's inner functions write. No call of include/crustdelta.h cites this file.
use Rattle.std.specs.Prelude.{ℕ, ◌+◌, ◌≡◌, List, [], ◌∷◌, ◌++◌, map, length, replicate}
use Rattle.wire.specs.Front.{front, Put}
use Rattle.fingerprint_bodies.specs.Entries.{or_empty}
use Rattle.fingerprint_bodies.specs.Body as kind
use Rattle.fingerprint_bodies.specs.Forms.{words_in, word_list, protocol_names, key_shares, group_of}
use Rattle.fingerprint_lists.specs.Arrays.{span, padded, Part, span_of, placed}
use Rattle.fingerprint.specs.ClientHello.{ClientHello}
use Rattle.fingerprint.specs.Report.{report, shown}
use Rattle.fingerprint.specs.Code.{part_of, note_of, FoundOf}
use Rattle.fingerprint.specs.declared.head.Head.{Head}
use Rattle.fingerprint.specs.declared.walk.Survey.{Survey}
use Rattle.fingerprint_layout.specs.Layout.{littles, ranges, layout}

-- n zeros
unfoldable pub zeros : ℕ → List ℕ
zeros n = replicate n 0

-- ---- The lists, as the hello holds them

abbrev pub suites_in : List ℕ → Head → List ℕ
suites_in h head = words_in (part_of h head.suites)

abbrev pub groups_in : List ℕ → Survey → List ℕ
groups_in h found = or_empty (word_list 2 (part_of h (note_of found kind.groups)))

abbrev pub shares_in : List ℕ → Survey → List ℕ
shares_in h found = map group_of (or_empty (key_shares (part_of h (note_of found kind.shares))))

abbrev pub algorithms_in : List ℕ → Survey → List ℕ
algorithms_in h found = or_empty (word_list 2 (part_of h (note_of found kind.algorithms)))

abbrev pub versions_in : List ℕ → Survey → List ℕ
versions_in h found = or_empty (word_list 1 (part_of h (note_of found kind.versions)))

abbrev pub protocols_in : List ℕ → Survey → List Part
protocols_in h found = placed ((note_of found kind.protocols).start + 2) (or_empty (protocol_names (part_of h (note_of found kind.protocols))))

-- ---- Their bytes, in the two parts that the code writes

-- suites, types, groups and the groups of key shares: 512 bytes
unfoldable pub first_bytes : List ℕ → List ℕ → List ℕ → List ℕ → List ℕ
first_bytes suites types groups shares =
    littles 2 (padded 64 0 suites) ++ (littles 2 types ++ (littles 2 (padded 64 0 groups) ++ littles 2 (padded 64 0 shares)))

-- algorithms, versions, protocols and parameter ids: 832 bytes
unfoldable pub last_bytes : List ℕ → List ℕ → List Part → List ℕ → List ℕ
last_bytes algorithms versions protocols ids =
    littles 2 (padded 64 0 algorithms) ++ (littles 2 (padded 64 0 versions) ++ (littles 2 (ranges (padded 16 (span 0 0) (map span_of protocols))) ++ littles 8 ids))

pub record FirstPut (h : List ℕ) (head : Head) (found : Survey) (types r : List ℕ) (old new : List ℕ) : Type 0 where
  pub counts : r ≡ length (suites_in h head) ∷ length (groups_in h found) ∷ length (shares_in h found) ∷ []
  pub put : Put (first_bytes (suites_in h head) types (groups_in h found) (shares_in h found)) 512 old new

pub record LastPut (h : List ℕ) (found : Survey) (ids r : List ℕ) (old new : List ℕ) : Type 0 where
  pub counts : r ≡ length (algorithms_in h found) ∷ length (versions_in h found) ∷ length (protocols_in h found) ∷ []
  pub put : Put (last_bytes (algorithms_in h found) (versions_in h found) (protocols_in h found) ids) 832 old new

-- the report of the ClientHello that was found
pub record ReportPut (h : List ℕ) (head : Head) (found : Survey) (types ids : List ℕ) (old new : List ℕ) : Type 0 where
  pub is : (v : ClientHello) → FoundOf h head found types ids v → new ≡ front (layout (shown (report v))) old
