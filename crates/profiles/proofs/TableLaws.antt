-- The three profiles that the code's tables give: each is its value, and sound. Assumes nothing.
use Prim.Native.Nat.{ℕ, ◌+◌, ◌*◌, ◌≤◌, ◌<◌}
use mathlib.Core.Path.{◌≡◌, refl}
use mathlib.Core.List.{List, [], ◌∷◌, map}
use mathlib.Core.Bool.{true, false}
use native.Mathlib.Omega.{arith}
use lib.ListN.{length, get_or}
use lib.Dec.{lit<}
use Rattle.wire.specs.Sums.{total, any, member, distinct}
use Rattle.varint.specs.Varint.{first_above, class}
use Rattle.wire.proofs.ListLaws.{map-take}
use Rattle.profiles.specs.Profile as value
use Rattle.profiles.specs.Profile.{chrome_profile, firefox_profile, curl_profile, for_browser}
use Rattle.profiles.specs.Sizes.{key_share_size, key_draws, parameter_draws, parameter_length, fixed_length, extension_extent, hello_length, hello_drawn, longest, tape_needed}
use Rattle.profiles.specs.Test.{all, word_list, id_ok, parameter_ok, known, passes}
use Rattle.profiles.specs.Rows.{padded, type_row, group_row, share_row, parameter_row}
use Rattle.profiles.specs.Code.{browser_number, parameter_of, profile_of, Chosen}
use Rattle.profiles.specs.declared.Browser.{Browser}
use Rattle.profiles.specs.declared.Browser.TheVariants as named
use Rattle.profiles.specs.declared.Profile.{Profile}
use Rattle.profiles.specs.declared.TpEntry.{TpEntry}
use Rattle.profiles.proofs.Table.{at-three, chrome-length, firefox-length, curl-length, chrome-tape, firefox-tape, curl-tape}

-- a browser's number is one of the three
pub named-below : (b : Browser) → browser_number b < 3
named-below named.Chrome = lit< tt
named-below named.Firefox = lit< tt
named-below named.Curl = lit< tt

-- what a table of three rows holds at a place
abbrev pub of_three : {A : Type 0} → (ℕ → A) → A → ℕ → A
of_three f d b = get_or (f 0 ∷ f 1 ∷ f 2 ∷ []) b d

-- at the number of a profile, the row of that profile
pub row_of_lem : {A : Type 0} (f : ℕ → A) (d : A) (b : ℕ) → b < 3 → of_three f d b ≡ f b
row_of_lem f d = at-three (λ b. of_three f d b ≡ f b) refl refl refl

-- the profile that the tables give, with these parameters; the last three are document 01's numbers
abbrev pub stored : ℕ → List TpEntry → Profile
stored b parameters = record {
  cipher_suites = of_three (λ k. padded 16 0 (for_browser k).cipher_suites) [] b;
  suite_count = of_three (λ k. length (for_browser k).cipher_suites) 0 b;
  extensions_order = of_three type_row [] b;
  extension_count = of_three (λ k. length (for_browser k).extensions_order) 0 b;
  supported_groups = of_three group_row [] b;
  group_count = of_three (λ k. length (for_browser k).supported_groups) 0 b;
  signature_algorithms = of_three (λ k. padded 16 0 (for_browser k).signature_algorithms) [] b;
  algorithm_count = of_three (λ k. length (for_browser k).signature_algorithms) 0 b;
  supported_versions = of_three (λ k. padded 4 0 (for_browser k).supported_versions) [] b;
  version_count = of_three (λ k. length (for_browser k).supported_versions) 0 b;
  key_share_groups = of_three share_row [] b;
  share_count = of_three (λ k. length (for_browser k).key_share_groups) 0 b;
  alpn = of_three (λ k. value.h3) [] b;
  quic_tp = parameters;
  parameter_count = of_three (λ k. length (for_browser k).quic_tp) 0 b;
  firefox_compression = of_three (λ k. (for_browser k).firefox_compression) false b;
  use_empty_session_id = of_three (λ k. (for_browser k).use_empty_session_id) false b;
  randomize_extensions_order = of_three (λ k. (for_browser k).randomize_extensions_order) false b;
  tape_needed = get_or (1726 ∷ 1808 ∷ 416 ∷ []) b 0;
  longest = get_or (1734 ∷ 1833 ∷ 490 ∷ []) b 0;
  scid_sources = get_or (0 ∷ 1 ∷ 0 ∷ []) b 0;
}

-- what its numbers say
abbrev Numbers : List TpEntry → ℕ → Type 0
Numbers entries b =
    ((stored b entries).suite_count ≤ 16)
    × ((stored b entries).extension_count ≤ 16)
    × ((stored b entries).group_count ≤ 8)
    × ((stored b entries).algorithm_count ≤ 16)
    × ((stored b entries).version_count ≤ 4)
    × ((stored b entries).share_count ≤ 4)
    × ((stored b entries).parameter_count ≤ 16)
    × ((stored b entries).tape_needed ≡ tape_needed (for_browser b))
    × ((stored b entries).longest < 16384)
    × ((stored b entries).scid_sources ≤ 16)

-- parameters that stand for the profile's, filled up
abbrev Stands : List TpEntry → ℕ → Type 0
Stands entries b = map parameter_of entries ≡ parameter_row b

-- the code's profile is the value
stored_is : (b : ℕ) → b < 3 → (entries : List TpEntry) → Stands entries b → profile_of (stored b entries) ≡ for_browser b
unfolding for_browser chrome_profile firefox_profile curl_profile
stored_is =
    at-three (λ b. (entries : List TpEntry) → Stands entries b → profile_of (stored b entries) ≡ for_browser b)
    (λ l e. rw (map-take parameter_of 13 l, e) refl)
    (λ l e. rw (map-take parameter_of 13 l, e) refl)
    (λ l e. rw (map-take parameter_of 10 l, e) refl)

-- each of the three passes the test
pub passing : (b : ℕ) → b < 3 → passes (for_browser b) ≡ true
unfolding
    for_browser chrome_profile firefox_profile curl_profile hello_length hello_drawn extension_extent fixed_length total key_share_size key_draws
    parameter_draws parameter_length class first_above all word_list id_ok parameter_ok known passes any member distinct
passing = at-three (λ b. passes (for_browser b) ≡ true) refl refl refl

numbers : (entries : List TpEntry) (b : ℕ) → b < 3 → Numbers entries b
unfolding for_browser chrome_profile firefox_profile curl_profile
numbers entries = at-three (Numbers entries) (omega (arith, chrome-tape)) (omega (arith, firefox-tape)) (omega (arith, curl-tape))

longest-is : (entries : List TpEntry) (b : ℕ) → b < 3 → (n s : ℕ) → s ≤ 20 → (stored b entries).longest + n + (stored b entries).scid_sources * s ≡ longest (for_browser b) n s
unfolding for_browser
longest-is entries =
    at-three (λ b. (n s : ℕ) → s ≤ 20 → (stored b entries).longest + n + (stored b entries).scid_sources * s ≡ longest (for_browser b) n s)
    (λ n s h. omega (arith, chrome-length n s 200))
    (λ n s h. omega (arith, firefox-length n s 200 (omega arith)))
    (λ n s h. omega (arith, curl-length n s 200))

-- what `for_browser` promises
pub chosen_of : (b : ℕ) → b < 3 → {entries : List TpEntry} → Stands entries b → Chosen b (stored b entries)
chosen_of b h {entries} p =
    let is = stored_is b h entries p in
    let counts = numbers entries b h in
    record {
      is = is;
      sound = record {
        suites = counts.0;
        extensions = counts.1;
        groups = counts.2;
        algorithms = counts.3;
        versions = counts.4;
        shares = counts.5;
        parameters = counts.6;
        tape = rw is counts.7;
        longest-is = rw is (longest-is entries b h);
        short = counts.8;
        few = counts.9;
        test = rw is (passing b h);
      };
    }
