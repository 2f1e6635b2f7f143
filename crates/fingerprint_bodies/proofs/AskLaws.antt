-- The questions of a body, kind by kind. Assumes nothing.
use Prim.Native.Nat.{ℕ}
use mathlib.Core.Path.{◌≡◌, refl}
use mathlib.Core.Bool.{true, cond}
use mathlib.Core.List.{List, map}
use mathlib.Core.Option.{Option, none, some}
use lib.ListN.{length}
use lib.Dec.{leb}
use Rattle.wire.specs.Sums.{distinct}
use Rattle.fingerprint_bodies.specs.Entries.{mapped}
use Rattle.fingerprint_bodies.specs.Body.{Parameter, Body, server-name, supported-groups, signature-algorithms, application-protocols, supported-versions, key-shares, transport-parameters, name, groups, algorithms, protocols, versions, shares, parameters, other}
use Rattle.fingerprint_bodies.specs.Forms.{word_list, server_name, protocol_names, key_shares, transport_parameters, id_of, body_of, ids_new, within_counts}
use Rattle.fingerprint_bodies.specs.Code.{formed, within, asked_of, asked}

-- a body without a list, and one with a list of at most m entries
asked-form : {A : Type 0} (make : A → Body) → ((a : A) → ids_new (make a) ≡ true) → ((a : A) → within_counts (make a) ≡ true)
    → (x : Option A) → asked_of (mapped make x) ≡ formed x
unfolding mapped formed
asked-form make new few none = refl
asked-form make new few (some a) = rw (new a, few a)

asked-list : {A : Type 0} (m : ℕ) (make : List A → Body) → ((l : List A) → ids_new (make l) ≡ true)
    → ((l : List A) → within_counts (make l) ≡ leb (length l) m) → (x : Option (List A)) → asked_of (mapped make x) ≡ within m x
unfolding mapped within
asked-list m make new few none = refl
asked-list m make new few (some l) = rw (new l, few l)

module _ (bs : List ℕ) where
  pub asked-name : asked name bs ≡ formed (server_name bs)
  unfolding asked body_of ids_new within_counts
  asked-name = asked-form server-name (λ n. refl) (λ n. refl) (server_name bs)

  pub asked-groups : asked groups bs ≡ within 64 (word_list 2 bs)
  unfolding asked body_of ids_new within_counts
  asked-groups = asked-list 64 supported-groups (λ l. refl) (λ l. refl) (word_list 2 bs)

  pub asked-algorithms : asked algorithms bs ≡ within 64 (word_list 2 bs)
  unfolding asked body_of ids_new within_counts
  asked-algorithms = asked-list 64 signature-algorithms (λ l. refl) (λ l. refl) (word_list 2 bs)

  pub asked-protocols : asked protocols bs ≡ within 16 (protocol_names bs)
  unfolding asked body_of ids_new within_counts
  asked-protocols = asked-list 16 application-protocols (λ l. refl) (λ l. refl) (protocol_names bs)

  pub asked-versions : asked versions bs ≡ within 64 (word_list 1 bs)
  unfolding asked body_of ids_new within_counts
  asked-versions = asked-list 64 supported-versions (λ l. refl) (λ l. refl) (word_list 1 bs)

  pub asked-shares : asked shares bs ≡ within 64 (key_shares bs)
  unfolding asked body_of ids_new within_counts
  asked-shares = asked-list 64 key-shares (λ l. refl) (λ l. refl) (key_shares bs)

  pub asked-other : asked other bs ≡ 0
  unfolding asked body_of ids_new within_counts
  asked-other = refl

-- ---- transport parameters: "22" before "23"

-- the questions over the list that was found
abbrev pub ids_asked : Option (List Parameter) → ℕ
ids_asked none = 21
ids_asked (some l) = cond (distinct (map id_of l)) (cond (leb (length l) 64) 0 23) 22

parameters-asked : (x : Option (List Parameter)) → asked_of (mapped transport-parameters x) ≡ ids_asked x
unfolding mapped ids_new within_counts
parameters-asked none = refl
parameters-asked (some l) = refl

pub asked-parameters : (bs : List ℕ) → asked parameters bs ≡ ids_asked (transport_parameters bs)
unfolding asked body_of
asked-parameters bs = parameters-asked (transport_parameters bs)
