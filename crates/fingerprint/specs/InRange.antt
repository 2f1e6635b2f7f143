-- The report as the code hands it out: each count is within its array, and the names lie inside the hello.
use Rattle.std.specs.Prelude.{ℕ, ◌+◌, ◌≤◌, ◌<◌, ◌≡◌, List, map, length, take, get_or, Some, None}
use Rattle.std.specs.Prelude as std
use Rattle.std.proofs.Math.Option.{Option, none, some}
use Rattle.profiles.specs.declared.ExtType.{ExtType}
use Rattle.profiles.specs.declared.Group.{Group}
use Rattle.fingerprint_bodies.specs.Conditions.{All}
use Rattle.fingerprint_lists.specs.Arrays.{span, Part}
use Rattle.fingerprint_lists.specs.declared.Span.{Span}
use Rattle.fingerprint.specs.Code.{type_number}
use Rattle.fingerprint.specs.Report.{Report, Lies}
use Rattle.fingerprint.specs.declared.Fingerprint.{Fingerprint}

-- the numbers of the first `count` types, or groups
abbrev pub type_numbers : List ExtType → ℕ → List ℕ
type_numbers items count = map type_number (take count items)

abbrev pub group_number : Group → ℕ
group_number g = g.0

abbrev pub group_numbers : List Group → ℕ → List ℕ
group_numbers items count = map group_number (take count items)

-- an array of m places, with its count
pub record Filled {A : Type 0} (m : ℕ) (items : List A) (count : ℕ) : Type 0 where
  pub long : length items ≡ m
  pub few : count ≤ m

-- a part lies inside the hello
abbrev pub Inside : List ℕ → Span → Type 0
Inside h s = s.start + s.length ≤ length h

abbrev pub SniInside : List ℕ → std.Option Span → Type 0
SniInside h (Some s) = Inside h s
SniInside h None = Unit {0}

abbrev pub SpansInside : List ℕ → List Span → ℕ → Type 0
SpansInside h items count = (i : ℕ) → i < count → Inside h (get_or items i (span 0 0))

-- the counts of a report are within its arrays
pub record Counts (f : Fingerprint) : Type 0 where
  pub suites : Filled 64 f.cipher_suites f.suite_count
  pub types : Filled 64 f.extensions f.extension_count
  pub groups : Filled 64 f.supported_groups f.group_count
  pub shares : Filled 64 f.key_share_groups f.share_count
  pub algorithms : Filled 64 f.signature_algorithms f.algorithm_count
  pub versions : Filled 64 f.supported_versions f.version_count
  pub protocols : Filled 16 f.alpn f.alpn_count
  pub ids : Filled 64 f.transport_param_ids f.id_count

-- and its names lie inside the hello
pub record Sane (h : List ℕ) (f : Fingerprint) : Type 0 where
  pub counts : Counts f
  pub protocols-inside : SpansInside h f.alpn f.alpn_count
  pub sni-inside : SniInside h f.sni

-- ---- The same of the report that the code's one shows

-- each list has its place in its array
pub record WithinCounts (r : Report) : Type 0 where
  pub suites : length r.cipher_suites ≤ 64
  pub types : length r.extensions ≤ 64
  pub groups : length r.supported_groups ≤ 64
  pub shares : length r.key_share_groups ≤ 64
  pub algorithms : length r.signature_algorithms ≤ 64
  pub versions : length r.supported_versions ≤ 64
  pub protocols : length r.alpn ≤ 16
  pub ids : length r.transport_param_ids ≤ 64

abbrev pub SniLies : List ℕ → Option Part → Type 0
SniLies h none = Unit {0}
SniLies h (some p) = Lies h p

pub record InRange (h : List ℕ) (r : Report) : Type 0 where
  pub counts : WithinCounts r
  pub protocols-lie : All (Lies h) r.alpn
  pub sni-lies : SniLies h r.sni
