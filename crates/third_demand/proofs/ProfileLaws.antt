-- What the three profiles are known by: each sends the extensions that its lists stand in, and no two have the same groups. Assumes nothing.
use Prim.Native.Nat.{ℕ, ◌<◌}
use mathlib.Core.Path.{◌≡◌, refl, sym, ap, ◌∙◌}
use mathlib.Core.Bool.{Bool, true, cond}
use mathlib.Core.List.{List, [], ◌∷◌, map}
use lib.ListN.{length, get_or}
use lib.Dec.{eqb, lit<}
use Rattle.wire.specs.Sums.{count, any, member}
use Rattle.wire.proofs.SumLaws.{count-permutes}
use Rattle.profiles.specs.Profile.{Profile, chrome_profile, firefox_profile, curl_profile, for_browser}
use Rattle.profiles.specs.Test.{all}
use Rattle.profiles.proofs.Table.{at-three}
use Rattle.profiles.proofs.TestLaws.{all-at}
use Rattle.fingerprint.specs.Report.{Report}
use Rattle.alike.specs.Alike.{alike_id, likeness}
use Rattle.laws_read_back.specs.Shown.{profile_ids, carried, Shows}
use Rattle.third_demand.specs.Demand.{profile_likeness, Reported}

-- ---- Every list is sent

-- the types in whose extensions the lists stand
abbrev list_types : List ℕ
list_types = 0x000a ∷ 0x0033 ∷ 0x000d ∷ 0x002b ∷ 0x0010 ∷ 0x0039 ∷ []

abbrev sends_all : Profile → Bool
sends_all p = all (λ t. member t p.extensions_order) list_types

all-sent : (b : ℕ) → b < 3 → sends_all (for_browser b) ≡ true
unfolding all member any for_browser chrome_profile firefox_profile curl_profile
all-sent b h = at-three (λ k. sends_all (for_browser k) ≡ true) refl refl refl b h

module _ (p : Profile) (sent : sends_all p ≡ true) where
  -- so each list is carried, whole
  carried-whole : {A : Type 0} (i : ℕ) (l : List A) → i < 6 → carried p (get_or list_types i 0) l ≡ l
  unfolding carried
  carried-whole i l h = rw (all-at (λ t. member t p.extensions_order) list_types 0 sent i h)

  shows-reported : (name tape : List ℕ) (r : Report) → Shows p name tape r → Reported p name r
  unfolding profile_likeness likeness
  shows-reported name tape r s =
      record {
        session = sym s.session;
        name = sym s.server-name;
        suites = sym s.suites;
        groups = sym (s.groups ∙ carried-whole 0 p.supported_groups (lit< tt));
        shares = sym (s.shares ∙ carried-whole 1 p.key_share_groups (lit< tt));
        algorithms = sym (s.algorithms ∙ carried-whole 2 p.signature_algorithms (lit< tt));
        versions = sym (s.versions ∙ carried-whole 3 p.supported_versions (lit< tt));
        protocols = sym (s.protocols ∙ carried-whole 4 p.alpn (lit< tt));
        types = λ x. count-permutes x p.extensions_order r.extensions s.types;
        ids = λ x. ap (count x) (sym (carried-whole 5 (profile_ids p) (lit< tt))) ∙ count-permutes x (carried p 0x0039 (profile_ids p)) (map alike_id r.transport_param_ids) s.ids;
      }

pub reported : (b : ℕ) → b < 3 → (name tape : List ℕ) (r : Report) → Shows (for_browser b) name tape r → Reported (for_browser b) name r
reported b h = shows-reported (for_browser b) (all-sent b h)

-- ---- No two have the same groups

unfoldable group_count : ℕ → ℕ
group_count b = length (for_browser b).supported_groups

-- the profile that has so many groups
unfoldable browser_by : ℕ → ℕ
browser_by n = cond (eqb n 4) 0 (cond (eqb n 5) 1 2)

told : (b : ℕ) → b < 3 → browser_by (group_count b) ≡ b
unfolding for_browser chrome_profile firefox_profile curl_profile browser_by group_count
told = at-three (λ b. browser_by (group_count b) ≡ b) refl refl refl

pub groups-tell : (b c : ℕ) → b < 3 → c < 3 → (for_browser b).supported_groups ≡ (for_browser c).supported_groups → b ≡ c
unfolding group_count
groups-tell b c h k e = sym (told b h) ∙ ap (λ (l : List ℕ). browser_by (length l)) e ∙ told c k
