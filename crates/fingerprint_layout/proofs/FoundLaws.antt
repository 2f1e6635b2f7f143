-- The lists that were found: what the bytes after their counts hold. Assumes nothing.
use Prim.Native.Nat.{ℕ, ◌+◌, ◌*◌, ◌≤◌}
use mathlib.Core.Path.{◌≡◌, ap, ◌∙◌}
use mathlib.Core.List.{List}
use native.Mathlib.Omega.{arith}
use lib.ListN.{length, drop, length-drop}
use Rattle.wire.specs.Numbers.{Bytes}
use Rattle.wire.specs.Answer.{result}
use Rattle.fingerprint_bodies.specs.Entries.{number_at, all_entries, front_entries}
use Rattle.fingerprint_bodies.specs.Code.{Found}
use Rattle.fingerprint_bodies.proofs.YieldLaws.{front-words}
use Rattle.fingerprint_lists.proofs.WalkLaws.{share_form, share_groups, front-groups, groups-few}
use Rattle.wire.specs.Front.{front}
use Rattle.fingerprint_layout.specs.Layout.{littles}
use Rattle.fingerprint_bodies.specs.Body as kind
use Rattle.fingerprint_bodies.specs.Forms.{words_in, word_list, one_name, protocol_names, one_share, key_shares}
use Rattle.fingerprint_lists.proofs.GoodLaws.{length-words_in, HoldsWords, words-after, FoundAfter, shares-after, names-after}
use Rattle.fingerprint.specs.ClientHello.{ClientHello}
use Rattle.fingerprint.specs.Reader.{read}
use Rattle.fingerprint.specs.Report.{report}
use Rattle.fingerprint.specs.Code.{part_of, note_of, Readable, FoundOf}
use Rattle.fingerprint.specs.declared.head.Head.{Head}
use Rattle.fingerprint.specs.declared.walk.Survey.{Survey}
use Rattle.fingerprint.proofs.ReportLaws.{length-note, good-groups, good-algorithms, good-protocols, good-versions, good-shares}
use Rattle.fingerprint.proofs.ShownLaws.{in-range}
use Rattle.fingerprint_layout.proofs.PadLaws.{length-padded}

pub few_words : (l : List ℕ) → length l ≤ 128 → length (words_in l) ≤ 64
few_words l h = omega (arith, length-words_in l)

-- the body b was cut out of the hello, and the list l out of the body
module _ {h : List ℕ} {head : Head} {found : Survey} (p : Readable h head found) {b l : List ℕ} where
  pub groups-held : b ≡ part_of h (note_of found kind.groups) → l ≡ drop 2 b → HoldsWords l (word_list 2 (part_of h (note_of found kind.groups)))
  groups-held e q = rw (q, e) (words-after 2 (part_of h (note_of found kind.groups)) (omega arith) (good-groups p))

  pub algorithms-held : b ≡ part_of h (note_of found kind.algorithms) → l ≡ drop 2 b → HoldsWords l (word_list 2 (part_of h (note_of found kind.algorithms)))
  algorithms-held e q = rw (q, e) (words-after 2 (part_of h (note_of found kind.algorithms)) (omega arith) (good-algorithms p))

  pub versions-held : b ≡ part_of h (note_of found kind.versions) → l ≡ drop 1 b → HoldsWords l (word_list 1 (part_of h (note_of found kind.versions)))
  versions-held e q = rw (q, e) (words-after 1 (part_of h (note_of found kind.versions)) (omega arith) (good-versions p))

  pub shares-held : b ≡ part_of h (note_of found kind.shares) → l ≡ drop 2 b → FoundAfter 64 (all_entries one_share l) (key_shares (part_of h (note_of found kind.shares)))
  shares-held e q = rw (q, e) (shares-after (part_of h (note_of found kind.shares)) (good-shares p))

  pub protocols-held : b ≡ part_of h (note_of found kind.protocols) → l ≡ drop 2 b → FoundAfter 16 (all_entries one_name l) (protocol_names (part_of h (note_of found kind.protocols)))
  protocols-held e q = rw (q, e) (names-after (part_of h (note_of found kind.protocols)) (good-protocols p))

  -- its places are numbers of two bytes
  pub protocols-low : b ≡ part_of h (note_of found kind.protocols) → l ≡ drop 2 b → (note_of found kind.protocols).start + 2 + length l ≤ 65535
  protocols-low e q =
      let note = note_of found kind.protocols in
      omega (arith, ap length q, length-drop 2 b, ap length e, length-note p kind.protocols, p.inside kind.protocols, p.short)

-- the ids of an accepted hello fill their array
pub length_ids : {h : List ℕ} {head : Head} {found : Survey} {types ids : List ℕ} {v : ClientHello}
    → Bytes h → read h ≡ result v → FoundOf h head found types ids v → length ids ≡ 64
unfolding report
length_ids {h} {v = v} b e f = ap length f.ids-are.are ∙ length-padded 64 0 (report v).transport_param_ids (in-range h b v e).counts.ids

-- ---- what `put_list` wrote: words, and the groups of key shares

module _ (l : List ℕ) where
  pub words-fit : length l ≤ 128 → 2 * length (front_entries (number_at 2) l) ≤ 128
  words-fit h = rw (front-words l) (omega (arith, few_words l h))

  -- k of them, and their bytes
  pub record Listed (all : List ℕ) (k : ℕ) (old new : List ℕ) : Type 0 where
    pub count : k ≡ length all
    pub put : new ≡ front (littles 2 all) old

  module _ {k : ℕ} {old new : List ℕ} where
    pub words-put : (k ≡ length (front_entries (number_at 2) l)) × (new ≡ front (littles 2 (front_entries (number_at 2) l)) old) → Listed (words_in l) k old new
    words-put p = record { count = rw (front-words l) at p.0; put = rw (front-words l) at p.1 }

    pub groups-put : Found 64 (all_entries one_share l) → (k ≡ length (front_entries share_form l)) × (new ≡ front (littles 2 (front_entries share_form l)) old)
        → Listed (share_groups l) k old new
    groups-put f p = record { count = rw (front-groups l f) at p.0; put = rw (front-groups l f) at p.1 }

  pub groups-fit : Found 64 (all_entries one_share l) → 2 * length (front_entries share_form l) ≤ 128
  groups-fit f = rw (front-groups l f) (omega (arith, groups-few l f))
