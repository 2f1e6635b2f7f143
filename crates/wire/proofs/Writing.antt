-- A whole that is written piece by piece over the front of a buffer, each piece to the part after the last. Assumes nothing.
use Prim.Native.Nat.{ℕ, zero-le, ◌+◌, ◌-◌, ◌≤◌}
use mathlib.Core.Path.{◌≡◌, refl, sym, ap, ◌∙◌}
use mathlib.Core.List.{List, [], ◌∷◌, ◌++◌, append_assoc, append-nil}
use native.Mathlib.Omega.{arith}
use lib.ListN.{length, take, drop, set, length-append, length-drop}
use lib.Seq.{take_all, take_at, drop_at, drop-drop, length-take-le}
use borrow.Rule.Slice.PartMut.{mid_of, put_mid}
use Rattle.wire.specs.Front.{front, front_at, Put}
use Rattle.wire.proofs.ListLaws.{length-part-to-end}
use Rattle.wire.proofs.FrontLaws.{front-none, length_front, given_back, stores, lent-front, lent-front-at, piece-drop, piece-length, piece-written}

-- the part `&mut out[n..]` as it is lent, and the buffer when it is back
abbrev pub lent_from : ℕ → List ℕ → List ℕ
lent_from n out = mid_of n (length out - n) out

abbrev pub back_from : ℕ → List ℕ → List ℕ → List ℕ
back_from n out part = put_mid n (length out - n) out part

-- n elements of the whole stand, and the rest is still to be written
pub record Writing (whole rest old out : List ℕ) (n : ℕ) : Type 0 where
  pub fits : length whole ≤ length old
  pub within : n ≤ length whole
  pub left : drop n whole ≡ rest
  pub is : out ≡ front (take n whole) old

pub begins : (whole old : List ℕ) → length whole ≤ length old → Writing whole whole old old 0
begins whole old h = record { fits = h; within = zero-le; left = refl; is = front-none old }

-- the first element, by a store
pub stored : (x : ℕ) (rest old : List ℕ) → length (x ∷ rest) ≤ length old → Writing (x ∷ rest) rest old (set old 0 x) 1
stored x rest old h = record { fits = h; within = omega arith; left = refl; is = stores (x ∷ []) old (omega arith) }

-- a writer that gives no count
pub filled : {ys old new : List ℕ} {n : ℕ} → length ys ≡ n → new ≡ front ys old → Put ys n old new
filled h e = record { count = sym h; output = e }

module _ {whole rest old out : List ℕ} {n : ℕ} (w : Writing whole rest old out n) where
  -- the rest, written in another way
  pub restated : {other : List ℕ} → drop n whole ≡ other → Writing whole other old out n
  restated e = record { fits = w.fits; within = w.within; left = e; is = w.is }

  pub rest-is : {other : List ℕ} → rest ≡ other → Writing whole other old out n
  rest-is e = restated (w.left ∙ e)

  pub same_length : length out ≡ length old
  same_length =
      let count : length (take n whole) ≡ n = length-take-le n whole w.within in
      ap length w.is ∙ length_front (take n whole) old (omega (arith, w.fits, w.within))

  pub place-within : n ≤ length out
  place-within = omega (arith, same_length, w.fits, w.within)

module _ {whole old out : List ℕ} {n : ℕ} (a r : List ℕ) (w : Writing whole (a ++ r) old out n) where
  pub next-room : {m : ℕ} → length a ≡ m → m ≤ length (lent_from n out)
  next-room e =
      let all : n + length a + length r ≡ length whole = piece-length whole a r n w.within w.left in
      rw (length-part-to-end out n) (omega (arith, w.fits, same_length w))

  -- the next piece was written to the part that starts where n elements stand
  pub writes : {part : List ℕ} {m : ℕ} → Put a m (lent_from n out) part → Writing whole r old (back_from n out part) (n + m)
  writes {part} p =
      let all : n + length a + length r ≡ length whole = piece-length whole a r n w.within w.left in
      rw p.count
      record {
        fits = w.fits;
        within = omega arith;
        left = piece-drop whole a r n w.within w.left;
        is = piece-written whole a r n w.within w.left old out part (length out - n) w.is refl p.output;
      }

pub finished : {whole old out : List ℕ} {n : ℕ} → Writing whole [] old out n → Put whole n old out
finished {whole} {old} {n = n} w =
    let count : n ≡ length whole = omega (arith, w.within, length-drop n whole, ap length w.left) in
    record { count = count; output = w.is ∙ ap (λ (l : List ℕ). front l old) (take_all n whole (omega arith)) }

-- the first piece of a whole was written to the output itself
pub first-written : (a r : List ℕ) {old new : List ℕ} {m : ℕ} → length (a ++ r) ≤ length old → Put a m old new → Writing (a ++ r) r old new m
first-written a r {old} h p =
    rw p.count
    record {
      fits = h;
      within = omega (arith, length-append a r);
      left = drop_at a r (length a) refl;
      is = p.output ∙ ap (λ (l : List ℕ). front l old) (sym (take_at a r (length a) refl));
    }

-- the last piece was written to the part after n elements
pub last_written : {whole old out part : List ℕ} {n m : ℕ} (a : List ℕ) → Writing whole a old out n → Put a m (lent_from n out) part
    → Put whole (n + m) old (back_from n out part)
last_written a w p = finished (writes a [] (rest-is w (sym (append-nil a))) p)

pub last-room : {whole old out : List ℕ} {n m : ℕ} (a : List ℕ) → Writing whole a old out n → length a ≡ m → m ≤ length (lent_from n out)
last-room a w e = next-room a [] (rest-is w (sym (append-nil a))) e

-- ---- two writes, one after the other

-- n elements were written, and then others to the part after them
pub joined : {a b old out part : List ℕ} {n m : ℕ}
    → Put a n old out → Put b m (lent_from n out) part → Put (a ++ b) (n + m) old (back_from n out part)
joined {a} {b} {old} {out} {part} {n} p q =
    record {
      count = omega (arith, p.count, q.count, length-append a b);
      output = lent-front a b old out part n (length out - n) (sym p.count) p.output refl q.output;
    }

-- what was written, said in another way
pub put_as : {ys zs old new : List ℕ} {n : ℕ} → ys ≡ zs → Put ys n old new → Put zs n old new
put_as e p = rw e at p

-- a part that was lent and written to comes back as long as it was
pub length_back : (n : ℕ) (ys old : List ℕ) {part : List ℕ} → n + length ys ≤ length old → part ≡ front ys (lent_from n old)
    → length (back_from n old part) ≡ length old
length_back n ys old {part} h e =
    let lent : length (lent_from n old) ≡ length old - n = length-part-to-end old n in
    let same : length part ≡ length old - n = ap length e ∙ length_front ys (lent_from n old) (omega (arith, lent)) ∙ lent in
    ap length (given_back n (length old - n) old part refl)
    ∙ omega (arith, length-append (take n old) part, length-take-le n old (omega arith))

-- the body was written to the part after the head's place, and then the head over the front
pub headed : (head body old part : List ℕ) {n : ℕ} → length head ≡ n → n + length body ≤ length old → part ≡ front body (lent_from n old)
    → front head (back_from n old part) ≡ front (head ++ body) old
unfolding front front_at
headed head body old part {n} e h p =
    let before : length (take n old) ≡ n = length-take-le n old (omega arith) in
    rw (lent-front-at n (length old - n) body old part refl p, e, drop_at (take n old) (body ++ drop (length body) (drop n old)) n before)
    (simp (length-append, append_assoc, drop-drop, e))
