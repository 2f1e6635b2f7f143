-- A whole frame is read back from its bytes, whatever follows; and what is read from bytes is a whole frame that they encode. Assumes nothing.
use Prim.Native.Nat.{ℕ, ◌+◌, ◌-◌, ◌≤◌}
use mathlib.Core.Path.{◌≡◌, refl, sym, ap, subst, ◌∙◌}
use mathlib.Core.Bool.{Bool, true, false, cond}
use mathlib.Core.List.{List, [], ◌∷◌, ◌++◌, append_assoc}
use native.Mathlib.Omega.{arith}
use lib.ListN.{length, take, drop, length-append, take-append-drop}
use lib.Seq.{take_at, drop_at, drop-drop}
use lib.Dec.{eqb, leb}
use borrow.Author.Tests.{le-leb, leb-true, eqb-true}
use Rattle.wire.specs.Answer.{Answer, result, refused, and_then}
use Rattle.wire.specs.Numbers.{Bytes}
use Rattle.wire.proofs.NumberLaws.{bytes_drop}
use Rattle.wire.proofs.ListLaws.{length_part}
use Rattle.wire.proofs.AnswerLaws.{apart, same-result, ask-yes, ask_for-result, and_then-result}
use Rattle.varint.specs.Varint.{width, form, class_at, read_of, Holds}
use Rattle.varint.specs.declared.Varint.{Varint}
use Rattle.varint.proofs.RoundTrip.{length-form, form-read, Formed, read-formed}
use Rattle.frames.specs.Frame.{Piece, Frame, padding, ping, crypto, encode, Whole}
use Rattle.frames.specs.Read.{read_crypto, read_frame, extent, piece_in}
use Rattle.frames.specs.declared.reading.Frame.{Frame as Shape}
use Rattle.frames.specs.declared.reading.Frame.TheVariants as shape
use Rattle.frames.specs.Join.{place, place_frame}
use Rattle.frames.specs.declared.reading.CryptoFrame.{CryptoFrame}

-- what a frame has is placed; PADDING and PING have nothing
abbrev pub place_value : Frame → List Piece → Answer (List Piece)
place_value padding placed = result placed
place_value ping placed = result placed
place_value (crypto o l p) placed = place p placed

-- ---- forward

pub record ReadAs (bs : List ℕ) (f : Frame) : Type 0 where
  pub shape : Shape
  pub read : read_frame bs ≡ result shape
  pub taken : extent shape ≡ length (encode f)
  pub places : (placed : List Piece) → place_frame bs shape placed ≡ place_value f placed

-- a CRYPTO frame as it lies in bytes, by its offset and its count of data bytes, as varints
abbrev lying : Varint → Varint → CryptoFrame
lying x y = record { offset = x.value; start = 1 + x.width + y.width; end = 1 + x.width + y.width + y.value }

module _ (o l at : ℕ) (bytes rest : List ℕ) (ho : Holds o at) (hl : Holds l (length bytes)) where
  abbrev n : ℕ
  n = length bytes

  abbrev laid : CryptoFrame
  laid = lying (record { value = at; width = width o }) (record { value = n; width = width l })

  abbrev bs : List ℕ
  bs = 6 ∷ (form o at ++ (form l n ++ (bytes ++ rest)))

  after-offset : drop (1 + width o) bs ≡ form l n ++ (bytes ++ rest)
  after-offset = sym (drop-drop (width o) 1 bs) ∙ drop_at (form o at) (form l n ++ (bytes ++ rest)) (width o) (length-form o at)

  after-length : drop (1 + width o + width l) bs ≡ bytes ++ rest
  after-length = sym (drop-drop (width l) (1 + width o) bs) ∙ rw after-offset (drop_at (form l n) (bytes ++ rest) (width l) (length-form l n))

  read-crypto : read_crypto bs ≡ result laid
  unfolding read_crypto
  read-crypto =
      let long : 1 + width o + width l + n ≤ length bs =
      omega (
        arith,
        length-append (form o at) (form l n ++ (bytes ++ rest)),
        length-append (form l n) (bytes ++ rest),
        length-append bytes rest,
        length-form o at,
        length-form l n,
      ) in
      rw (
        form-read o at (form l n ++ (bytes ++ rest)) ho.known ho.below,
        after-offset,
        form-read l n (bytes ++ rest) hl.known hl.below,
        le-leb (1 + width o + width l + n) (length bs) long,
      )

  piece-read : piece_in bs laid ≡ record { offset = at; bytes = bytes }
  piece-read =
      let z : 1 + width o + width l + n - (1 + width o + width l) ≡ n = omega arith in
      rw (z, after-length, take_at bytes rest n refl)

  crypto-read : ReadAs bs (crypto o l (record { offset = at; bytes = bytes }))
  unfolding read_frame encode
  crypto-read =
      record {
        shape = shape.Crypto laid;
        read = rw read-crypto;
        taken = omega (arith, length-append (form o at) (form l n ++ bytes), length-append (form l n) bytes, length-form o at, length-form l n);
        places = λ placed. ap (λ (p : Piece). place p placed) piece-read;
      }

pub read-encode : (f : Frame) (rest : List ℕ) → Whole f → ReadAs (encode f ++ rest) f
unfolding read_frame encode
read-encode padding rest h = record { shape = shape.Padding; read = refl; taken = refl; places = λ placed. refl }
read-encode ping rest h = record { shape = shape.Ping; read = refl; taken = refl; places = λ placed. refl }
read-encode (crypto o l p) rest h = rw (append_assoc, append_assoc) (crypto-read o l p.offset p.bytes rest h.0 h.1)

-- ---- back

-- what it says that a CRYPTO frame was read
record CryptoRead (bs : List ℕ) (c : CryptoFrame) : Type 0 where
  offset : Varint
  count : Varint
  first : read_of (drop 1 bs) ≡ result offset
  second : read_of (drop (1 + offset.width) bs) ≡ result count
  fits : 1 + offset.width + count.width + count.value ≤ length bs
  is : c ≡ lying offset count

crypto-back : (bs : List ℕ) (c : CryptoFrame) → read_crypto bs ≡ result c → CryptoRead bs c
unfolding read_crypto
crypto-back bs c e =
    let x = ask_for-result (read_of (drop 1 bs)) 12 _ c e in
    let y = ask_for-result (read_of (drop (1 + x.value.width) bs)) 12 _ c x.after in
    let start = 1 + x.value.width + y.value.width in
    let z = ask-yes (leb (start + y.value.value) (length bs)) 12 _ c y.after in
    record {
      offset = x.value;
      count = y.value;
      first = x.is;
      second = y.is;
      fits = leb-true (start + y.value.value) (length bs) z.0;
      is = sym (same-result _ c z.1);
    }

-- the type byte that a shape was read by, and what else
abbrev Lies : List ℕ → Shape → Type 0
Lies bs shape.Padding = bs ≡ 0 ∷ drop 1 bs
Lies bs shape.Ping = bs ≡ 1 ∷ drop 1 bs
Lies bs (shape.Crypto c) = (bs ≡ 6 ∷ drop 1 bs) × CryptoRead bs c

lies : (bs : List ℕ) (s : Shape) → read_frame bs ≡ result s → Lies bs s
unfolding read_frame
lies [] s e = absurd (apart e)
lies (t ∷ rest) s e = by-type (eqb t 0) (eqb t 1) (eqb t 6) (eqb-true t 0) (eqb-true t 1) (eqb-true t 6) e
  where
    to : (x : Shape) → result x ≡ result s → Lies (t ∷ rest) x → Lies (t ∷ rest) s
    to x e l = subst (λ (y : Shape). Lies (t ∷ rest) y) (same-result x s e) l

    by-type : (a b c : Bool) → (a ≡ true → t ≡ 0) → (b ≡ true → t ≡ 1) → (c ≡ true → t ≡ 6)
        → cond a (result shape.Padding) (cond b (result shape.Ping) (cond c (and_then (read_crypto (t ∷ rest)) (λ c. result (shape.Crypto c))) (refused 11))) ≡ result s
        → Lies (t ∷ rest) s
    by-type true b c p q r e = to shape.Padding e (ap (λ (k : ℕ). k ∷ rest) (p refl))
    by-type false true c p q r e = to shape.Ping e (ap (λ (k : ℕ). k ∷ rest) (q refl))
    by-type false false true p q r e =
        let x = and_then-result (read_crypto (t ∷ rest)) (λ c. result (shape.Crypto c)) s e in
        to (shape.Crypto x.value) x.after (ap (λ (k : ℕ). k ∷ rest) (r refl), crypto-back (t ∷ rest) x.value x.is)
    by-type false false false p q r e = absurd (apart e)

-- a frame takes a byte at least, and no more than there are
extents : (bs : List ℕ) (s : Shape) → Lies bs s → (1 ≤ extent s) × (extent s ≤ length bs)
extents bs shape.Padding h = (omega arith, omega (arith, ap length h))
extents bs shape.Ping h = (omega arith, omega (arith, ap length h))
extents bs (shape.Crypto c) h =
    let e = ap (λ (x : CryptoFrame). x.end) h.1.is in
    (omega (arith, e), omega (arith, e, h.1.fits))

pub extent-bounds : (bs : List ℕ) (s : Shape) → read_frame bs ≡ result s → (1 ≤ extent s) × (extent s ≤ length bs)
extent-bounds bs s e = extents bs s (lies bs s e)

-- the bytes begin with a whole frame, which has what is placed
pub record Encodes (bs : List ℕ) (s : Shape) : Type 0 where
  pub frame : Frame
  pub whole : Whole frame
  pub bytes : bs ≡ encode frame ++ drop (extent s) bs
  pub places : (placed : List Piece) → place_frame bs s placed ≡ place_value frame placed

-- the next n bytes from a place on
cut : (at n : ℕ) (s : List ℕ) → drop at s ≡ take n (drop at s) ++ drop (at + n) s
cut at n s = rw (← drop-drop) (sym (take-append-drop n (drop at s)))

module _ (bs : List ℕ) (b : Bytes bs) (x y : Varint) (t : bs ≡ 6 ∷ drop 1 bs) (p : read_of (drop 1 bs) ≡ result x)
    (q : read_of (drop (1 + x.width) bs) ≡ result y) (fits : 1 + x.width + y.width + y.value ≤ length bs) where
  abbrev found : CryptoFrame
  found = lying x y

  abbrev o : ℕ
  o = class_at (drop 1 bs)

  abbrev l : ℕ
  l = class_at (drop (1 + x.width) bs)

  for-offset : Formed (drop 1 bs) x
  for-offset = read-formed (drop 1 bs) x (bytes_drop 1 bs b) p

  for-length : Formed (drop (1 + x.width) bs) y
  for-length = read-formed (drop (1 + x.width) bs) y (bytes_drop (1 + x.width) bs b) q

  long : length (piece_in bs found).bytes ≡ y.value
  long = length_part bs found.start found.end (omega arith) fits ∙ omega arith

  offset-part : drop 1 bs ≡ form o x.value ++ drop (1 + x.width) bs
  offset-part = cut 1 x.width bs ∙ rw for-offset.bytes

  count-part : drop (1 + x.width) bs ≡ form l y.value ++ drop found.start bs
  count-part = cut (1 + x.width) y.width bs ∙ rw for-length.bytes

  data-part : drop found.start bs ≡ (piece_in bs found).bytes ++ drop found.end bs
  data-part =
      let e : found.start + (found.end - found.start) ≡ found.end = omega arith in
      cut found.start (found.end - found.start) bs ∙ rw e

  crypto-encodes : Encodes bs (shape.Crypto found)
  unfolding encode
  crypto-encodes =
      let piece = (piece_in bs found).bytes in
      let rest = drop found.end bs in
      let count = form l y.value in
      record {
        frame = crypto o l (piece_in bs found);
        whole =
            (record { known = for-offset.known; below = for-offset.below }, record { known = for-length.known; below = rw long for-length.below });
        bytes = rw (long, append_assoc (form o x.value) (count ++ piece) rest, append_assoc count piece rest, ← data-part, ← count-part, ← offset-part) t;
        places = λ placed. refl;
      }

encodes : (bs : List ℕ) (s : Shape) → Bytes bs → Lies bs s → Encodes bs s
unfolding encode
encodes bs shape.Padding b h = record { frame = padding; whole = tt; bytes = h; places = λ placed. refl }
encodes bs shape.Ping b h = record { frame = ping; whole = tt; bytes = h; places = λ placed. refl }
encodes bs (shape.Crypto c) b h =
    let r = h.1 in
    subst (λ (c : CryptoFrame). Encodes bs (shape.Crypto c)) (sym r.is)
    (crypto-encodes bs b r.offset r.count h.0 r.first r.second r.fits)

pub encode-read : (bs : List ℕ) (s : Shape) → Bytes bs → read_frame bs ≡ result s → Encodes bs s
encode-read bs s b e = encodes bs s b (lies bs s e)
