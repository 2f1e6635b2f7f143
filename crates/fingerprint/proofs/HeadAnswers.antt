-- The answers of the code that reads the head, from what it found. Assumes nothing.
use Prim.Native.Nat.{ℕ, ◌+◌, ◌-◌, ◌%◌, ◌≤◌, ◌<◌}
use mathlib.Core.Path.{◌≡◌, refl, sym, ap, ◌∙◌}
use mathlib.Core.List.{List, []}
use mathlib.Core.Option.{Option, none}
use native.Mathlib.Omega.{arith}
use borrow.Author.Tests.{le-leb, lt-leb}
use lib.ListN.{length, take, drop, get_or}
use Rattle.std.specs.Prelude as std
use Rattle.std.specs.Prelude.{Some, None}
use Rattle.wire.specs.Answer.{result, refused}
use Rattle.wire.specs.Numbers.{number}
use Rattle.fingerprint_bodies.specs.Forms.{words_in}
use Rattle.fingerprint_bodies.proofs.FormLaws.{length-words-in}
use Rattle.fingerprint_lists.specs.Arrays.{span}
use Rattle.fingerprint.specs.declared.head.Head.{Head}
use Rattle.fingerprint.specs.Reader.{Fields, in_form, after_suites, read_fields, read_extensions, read}
use Rattle.fingerprint.specs.Code.{FieldsFound, HeadFound, BeforeSuites, BlockFound, BlockAs, EndAs}
use Rattle.fingerprint.proofs.HeadLaws.{suites-length, suites-there, compression-length, block-cut, block-there}

-- fields that are not in their form
pub not-in-form : (h : List ℕ) (x : Option Fields) → read_fields h ≡ in_form x 19 result → x ≡ none → read_fields h ≡ refused 19
not-in-form h x is e = is ∙ rw e

-- what the block's place says, after compression of n bytes
module _ (h : List ℕ) (at : ℕ) (room : 1 ≤ length h - at) (n : ℕ) (is : get_or h at 0 ≡ n) (some-there : 1 ≤ n) (within : n ≤ length h - at - 1) where
  pub block-as : (r : std.Option ℕ) → EndAs r h (at + 1 + n) → BlockAs r h at
  block-as (Some b) (e, at-is, inside) =
      record {
        compression = take n (drop (at + 1) h);
        is = λ version random id suites. block-there version random id suites h at room n is some-there within b e;
        place = omega (arith, at-is, compression-length [] [] [] [] h at room n is some-there within);
        inside = inside;
      }
  block-as None e = λ version random id suites. block-cut version random id suites h at room n is some-there within e

-- the suites' bytes are there, n of them
module _
    (h : List ℕ)
    (session n : ℕ)
    (before : BeforeSuites h session)
    (room : 2 ≤ length h - (39 + session))
    (is : number 256 (take 2 (drop (39 + session) h)) ≡ n)
    (some-there : 2 ≤ n)
    (even : n % 2 ≡ 0)
    (within : n ≤ length h - (39 + session + 2))
  where
    abbrev part : List ℕ
    part = take n (drop (39 + session + 2) h)

    on-suites : read_fields h ≡ in_form (after_suites before.version before.random before.id (words_in part) (drop (39 + session + 2 + n) h)) 19 result
    on-suites =
        before.is
        ∙ ap (λ (x : Option Fields). in_form x 19 result)
        (suites-there before.version before.random before.id h (39 + session) before.inside room n is some-there even within)

    pub block-not-there : ((version random id suites : List ℕ) → after_suites version random id suites (drop (39 + session + 2 + n) h) ≡ none) → read_fields h ≡ refused 19
    block-not-there none-there =
        not-in-form h (after_suites before.version before.random before.id (words_in part) (drop (39 + session + 2 + n) h)) on-suites
        (none-there before.version before.random before.id (words_in part))

    module _ (b : ℕ) (block : BlockFound h (39 + session + 2 + n) b) where
      abbrev found-fields : Fields
      found-fields = record {
        version = before.version;
        random = before.random;
        session_id = before.id;
        cipher_suites = words_in part;
        compression = block.compression;
        block = drop b h;
      }

      part_length : length part ≡ n
      part_length = suites-length before.version before.random before.id h (39 + session) before.inside room n is within

      pub fields-there : FieldsFound h (record { session = session; suites = span (39 + session + 2) n; block = b })
      fields-there =
          record {
            found = found-fields;
            is =
                on-suites
                ∙ ap (λ (x : Option Fields). in_form x 19 result) (block.is before.version before.random before.id (words_in part));
            block-is = refl;
            session-is = before.session-is;
            suites-are = refl;
            suites-even = sym part_length ∙ length-words-in part (rw part_length even);
            place = omega (arith, block.place);
            suites-inside = omega (arith, before.inside);
            inside = block.inside;
            short = before.short;
          }

-- the reader goes on from the fields: more than 64 suites are refused
module _ {h : List ℕ} {head : Head} (fields : FieldsFound h head) where
  on-extensions : read h ≡ read_extensions fields.found
  unfolding read
  on-extensions = rw fields.is

  pub many-suites : 128 < head.suites.length → read h ≡ refused 23
  unfolding read_extensions
  many-suites k = on-extensions ∙ rw (lt-leb (length fields.found.cipher_suites) 64 (omega (arith, fields.suites-even)))

  pub head-there : head.suites.length ≤ 128 → HeadFound h head
  unfolding read_extensions
  head-there k =
      record {
        found = fields.found;
        is = on-extensions ∙ rw (le-leb (length fields.found.cipher_suites) 64 (omega (arith, fields.suites-even)), fields.block-is);
        session-is = fields.session-is;
        suites-are = fields.suites-are;
        suites-even = fields.suites-even;
        place = fields.place;
        suites-inside = fields.suites-inside;
        suites-few = k;
        inside = fields.inside;
        short = fields.short;
      }

-- a refusal of the fields is the reader's
pub fields-refused : (h : List ℕ) (n : ℕ) → read_fields h ≡ refused n → read h ≡ refused n
unfolding read
fields-refused h n e = rw e
