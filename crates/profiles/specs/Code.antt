-- What the code's browsers, profiles and parameters stand for, and what `for_browser` promises.
use Rattle.std.specs.Prelude.{ℕ, ◌+◌, ◌*◌, ◌≤◌, ◌<◌, ◌≡◌, true, List, [], ◌∷◌, map, take, Result, MatchResult}
use Rattle.profiles.specs.Profile as value
use Rattle.profiles.specs.Profile.{for_browser}
use Rattle.profiles.specs.Sizes.{longest, tape_needed}
use Rattle.profiles.specs.Test.{passes}
use Rattle.wire.specs.declared.refusals.Refusal.{Refusal}
use Rattle.wire.specs.declared.refusals.Refusal.TheVariants as no
use Rattle.profiles.specs.declared.Browser.{Browser}
use Rattle.profiles.specs.declared.Browser.TheVariants as named
use Rattle.profiles.specs.declared.ExtType.{ExtType}
use Rattle.profiles.specs.declared.Group.{Group}
use Rattle.profiles.specs.declared.Profile.{Profile}
use Rattle.profiles.specs.declared.TpEntry.{TpEntry}
use Rattle.profiles.specs.declared.TpEntry.TheVariants as entry

-- "Profile 0 is Chrome, 1 Firefox, 2 curl"
abbrev pub browser_number : Browser → ℕ
browser_number named.Chrome = 0
browser_number named.Firefox = 1
browser_number named.Curl = 2

-- the browser that has a number, or the refusal where none has
abbrev pub Chooses : ℕ → Result Browser Refusal → Type 0
Chooses n r = MatchResult r (λ b. browser_number b ≡ n) (λ e. (e ≡ no.UnknownProfile) × (3 ≤ n))

-- the numbers of types and of groups
abbrev pub type_number : ExtType → ℕ
type_number t = t.0

abbrev pub group_number : Group → ℕ
group_number g = g.0

abbrev pub parameter_of : TpEntry → value.Parameter
parameter_of (entry.Varint i v) = value.varint i v
parameter_of (entry.Bytes i b) = value.bytes i b.now
parameter_of (entry.VersionInfo i) = value.version_info i
parameter_of (entry.ScidSource i) = value.scid_source i
parameter_of entry.Grease = value.grease

-- the first so many places of an array, as numbers and as parameters
abbrev pub types_in : ℕ → List ExtType → List ℕ
types_in count types = map type_number (take count types)

abbrev pub groups_in : ℕ → List Group → List ℕ
groups_in count groups = map group_number (take count groups)

abbrev pub parameters_in : ℕ → List TpEntry → List value.Parameter
parameters_in count parameters = map parameter_of (take count parameters)

abbrev pub profile_of : Profile → value.Profile
profile_of p = record {
  cipher_suites = take p.suite_count p.cipher_suites;
  extensions_order = types_in p.extension_count p.extensions_order;
  supported_groups = groups_in p.group_count p.supported_groups;
  signature_algorithms = take p.algorithm_count p.signature_algorithms;
  supported_versions = take p.version_count p.supported_versions;
  key_share_groups = groups_in p.share_count p.key_share_groups;
  alpn = p.alpn ∷ [];
  quic_tp = parameters_in p.parameter_count p.quic_tp;
  firefox_compression = p.firefox_compression;
  use_empty_session_id = p.use_empty_session_id;
  randomize_extensions_order = p.randomize_extensions_order;
}

-- counts within their arrays, the sums as they are, and the test passed
pub record Sound (p : Profile) : Type 0 where
  pub suites : p.suite_count ≤ 16
  pub extensions : p.extension_count ≤ 16
  pub groups : p.group_count ≤ 8
  pub algorithms : p.algorithm_count ≤ 16
  pub versions : p.version_count ≤ 4
  pub shares : p.share_count ≤ 4
  pub parameters : p.parameter_count ≤ 16
  pub tape : p.tape_needed ≡ tape_needed (profile_of p)
  pub longest-is : (n s : ℕ) → s ≤ 20 → p.longest + n + p.scid_sources * s ≡ longest (profile_of p) n s
  pub short : p.longest < 16384
  pub few : p.scid_sources ≤ 16
  pub test : passes (profile_of p) ≡ true

pub record Chosen (browser : ℕ) (r : Profile) : Type 0 where
  pub is : profile_of r ≡ for_browser browser
  pub sound : Sound r
