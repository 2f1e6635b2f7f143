-- The notes of the walk: at its start, and after one more extension. Assumes nothing.
use Prim.Native.Nat.{ℕ, ◌+◌, ◌≤◌}
use mathlib.Core.Path.{◌≡◌, refl, sym, ap, ◌∙◌, subst}
use mathlib.Core.Bool.{false}
use mathlib.Core.List.{List, [], ◌∷◌, ◌++◌, map}
use mathlib.Core.Option.{Option, some}
use native.Mathlib.Decide.{ℕ_discrete}
use native.Mathlib.Omega.{arith}
use lib.ListN.{length, take, drop, set, get_or}
use lib.Seq.{get_or-set_same, get_or-set_other}
use Rattle.wire.specs.Sums.{member}
use Rattle.fingerprint_bodies.specs.Entries.{or_empty, bind, whole, vector_at, number_at, entries, all_entries}
use Rattle.fingerprint_bodies.specs.Body.{Body, server-name, supported-groups, signature-algorithms, application-protocols, supported-versions, key-shares, transport-parameters, Share, Parameter, Kind, name, groups, algorithms, protocols, versions, shares, parameters, other, kind}
use Rattle.fingerprint_bodies.specs.Forms.{word_list, server_name, protocol_names, key_shares, transport_parameters, group_of, id_of, body_of}
use Rattle.fingerprint_bodies.specs.Code.{asked}
use Rattle.fingerprint_lists.specs.Arrays.{span, placed}
use Rattle.fingerprint_lists.specs.declared.Span.{Span}
use Rattle.fingerprint.specs.ClientHello.{Extension, type_of, encode_extensions}
use Rattle.fingerprint.specs.Report.{numbers_in, names_in, gathered}
use Rattle.fingerprint.specs.Code.{part_of, slot, name_at, KindShows, Noted}
use Rattle.fingerprint.proofs.KindLaws.{kind-same, other-type, slot_small, slot_same}
use Rattle.fingerprint.proofs.GatherLaws.{gathered-other, gathered-new, held}

-- ---- nothing yet

shows-none : (k : Kind) (block : ℕ) → KindShows k block [] 0 []
unfolding gathered server_name word_list protocol_names key_shares transport_parameters or_empty bind whole vector_at number_at placed all_entries entries
shows-none name block = refl
shows-none groups block = refl
shows-none algorithms block = refl
shows-none protocols block = refl
shows-none versions block = refl
shows-none shares block = refl
shows-none parameters block = refl
shows-none other block = tt

-- ---- an extension of another kind

shows-other : (k : Kind) (block : ℕ) (es : List Extension) (e : Extension) (at : ℕ) (bs : List ℕ) → (kind e.type ≡ k → ⊥)
    → KindShows k block es at bs → KindShows k block (es ++ (e ∷ [])) at bs
unfolding kind
shows-other name block es e at bs n s = gathered-other names_in 0x0000 es block e (other-type 0x0000 e.type n) ∙ s
shows-other groups block es e at bs n s = gathered-other numbers_in 0x000a es block e (other-type 0x000a e.type n) ∙ s
shows-other algorithms block es e at bs n s = gathered-other numbers_in 0x000d es block e (other-type 0x000d e.type n) ∙ s
shows-other protocols block es e at bs n s = gathered-other names_in 0x0010 es block e (other-type 0x0010 e.type n) ∙ s
shows-other versions block es e at bs n s = gathered-other numbers_in 0x002b es block e (other-type 0x002b e.type n) ∙ s
shows-other shares block es e at bs n s = gathered-other numbers_in 0x0033 es block e (other-type 0x0033 e.type n) ∙ s
shows-other parameters block es e at bs n s = gathered-other numbers_in 0x0039 es block e (other-type 0x0039 e.type n) ∙ s
shows-other other block es e at bs n s = tt

-- ---- an extension of this kind, the first of its type

module _ (block : ℕ) (es : List Extension) (e : Extension) (at : ℕ) (bs : List ℕ) (m : member e.type (map type_of es) ≡ false) (p : at ≡ block + length (encode_extensions es) + 4) where
  -- a kind that is read has one type
  only : {A : Type 0} (f : ℕ → Body → List A) (t : ℕ) → (kind t ≡ other → ⊥) → kind e.type ≡ kind t
      → gathered f t block (es ++ (e ∷ [])) ≡ f at e.body
  only f t read q =
      let is : e.type ≡ t = kind-same e.type t q read in
      gathered-new f t es block at e is (subst (λ (u : ℕ). member u (map type_of es) ≡ false) is m) p

  shows-new : (k : Kind) → kind e.type ≡ k → body_of k bs ≡ some e.body → KindShows k block (es ++ (e ∷ [])) at bs
  unfolding body_of or_empty names_in numbers_in kind
  shows-new name q b =
      only names_in 0x0000 (λ o. omega (arith, ap slot o)) q
      ∙ held server-name names_in at (λ (x : Option (List ℕ)). name_at (at + 5) x) (λ l. refl) (server_name bs) e.body b
  shows-new groups q b =
      only numbers_in 0x000a (λ o. omega (arith, ap slot o)) q
      ∙ held supported-groups numbers_in at (λ (x : Option (List ℕ)). or_empty x) (λ l. refl) (word_list 2 bs) e.body b
  shows-new algorithms q b =
      only numbers_in 0x000d (λ o. omega (arith, ap slot o)) q
      ∙ held signature-algorithms numbers_in at (λ (x : Option (List ℕ)). or_empty x) (λ l. refl) (word_list 2 bs) e.body b
  shows-new protocols q b =
      only names_in 0x0010 (λ o. omega (arith, ap slot o)) q
      ∙ held application-protocols names_in at (λ (x : Option (List (List ℕ))). placed (at + 2) (or_empty x)) (λ l. refl) (protocol_names bs) e.body b
  shows-new versions q b =
      only numbers_in 0x002b (λ o. omega (arith, ap slot o)) q
      ∙ held supported-versions numbers_in at (λ (x : Option (List ℕ)). or_empty x) (λ l. refl) (word_list 1 bs) e.body b
  shows-new shares q b =
      only numbers_in 0x0033 (λ o. omega (arith, ap slot o)) q
      ∙ held key-shares numbers_in at (λ (x : Option (List Share)). map group_of (or_empty x)) (λ l. refl) (key_shares bs) e.body b
  shows-new parameters q b =
      only numbers_in 0x0039 (λ o. omega (arith, ap slot o)) q
      ∙ held transport-parameters numbers_in at (λ (x : Option (List Parameter)). map id_of (or_empty x)) (λ l. refl) (transport_parameters bs) e.body b
  shows-new other q b = tt

-- ---- the notes

pub notes-none : (h : List ℕ) (block : ℕ) (k : Kind) → Noted h block [] k (span 0 0)
notes-none h block k = record { inside = omega arith; good = λ l. absurd (omega arith); shows = shows-none k block }

-- an extension was noted at the place of its kind
module _ (h : List ℕ) (block start size : ℕ) (es : List Extension) (e : Extension) (bodies : List Span) where
  abbrev place : ℕ
  place = slot (kind e.type)

  abbrev noted : List Span
  noted = set bodies place (span start size)

  pub notes-next :
      8 ≤ length bodies → member e.type (map type_of es) ≡ false → start ≡ block + length (encode_extensions es) + 4 → start + size ≤ length h
      → body_of (kind e.type) (take size (drop start h)) ≡ some e.body → asked (kind e.type) (take size (drop start h)) ≡ 0
      → ((k : Kind) → Noted h block es k (get_or bodies (slot k) (span 0 0)))
      → (k : Kind) → Noted h block (es ++ (e ∷ [])) k (get_or noted (slot k) (span 0 0))
  notes-next long m p fits b q old k = go (ℕ_discrete (slot k) place)
    where
      here : Noted h block (es ++ (e ∷ [])) (kind e.type) (span start size)
      here = record { inside = fits; good = λ l. q; shows = shows-new block es e start (take size (drop start h)) m p (kind e.type) refl b }

      there : (slot k ≡ place → ⊥) → Noted h block (es ++ (e ∷ [])) k (get_or bodies (slot k) (span 0 0))
      there n =
          let o = old k in
          let s : Span = get_or bodies (slot k) (span 0 0) in
          record {
            inside = o.inside;
            good = o.good;
            shows = shows-other k block es e s.start (part_of h s) (λ z. n (ap slot (sym z))) o.shows;
          }

      go : Dec (slot k ≡ place) → Noted h block (es ++ (e ∷ [])) k (get_or noted (slot k) (span 0 0))
      go (yes z) =
          let same : kind e.type ≡ k = sym (slot_same k (kind e.type) z) in
          let note : get_or noted place (span 0 0) ≡ span start size =
          get_or-set_same bodies place (span start size) (span 0 0) (omega (arith, slot_small (kind e.type), long)) in
          subst (λ (l : Kind). Noted h block (es ++ (e ∷ [])) l (get_or noted (slot l) (span 0 0))) same
          (subst (λ (s : Span). Noted h block (es ++ (e ∷ [])) (kind e.type) s) (sym note) here)
      go (no n) =
          subst (λ (s : Span). Noted h block (es ++ (e ∷ [])) k s) (sym (get_or-set_other bodies place (slot k) (span start size) (span 0 0) n)) (there n)
