-- One extension, by what code tests. Assumes nothing.
use Prim.Native.Nat.{ℕ, ◌+◌, ◌-◌, ◌≤◌, ◌<◌}
use mathlib.Core.Path.{◌≡◌, refl, sym, ap, ◌∙◌}
use mathlib.Core.Bool.{Bool, true, false, cond, ◌&&◌}
use mathlib.Core.Logic.{⊎_elim}
use mathlib.Core.List.{List, map}
use mathlib.Core.Option.{Option, none, some}
use native.Mathlib.Omega.{arith}
use borrow.Author.Tests.{lt-ltb, le-ltb}
use lib.ListN.{length, take, drop, length-drop, length-map}
use lib.Seq.{drop-drop}
use lib.Dec.{ltb}
use Rattle.wire.specs.Answer.{Answer, result, refused, ask}
use Rattle.wire.specs.Refusals.{question}
use Rattle.wire.specs.declared.refusals.Refusal.{Refusal}
use Rattle.wire.specs.Numbers.{number}
use Rattle.wire.specs.Sums.{member}
use Rattle.wire.proofs.ListLaws.{lt-or-le}
use Rattle.fingerprint_bodies.specs.Entries.{entry, bind}
use Rattle.fingerprint_bodies.specs.Body.{Body, Kind, kind}
use Rattle.fingerprint_bodies.specs.Forms.{body_of, ids_new, within_counts}
use Rattle.fingerprint_bodies.specs.Code.{asked_of, asked}
use Rattle.fingerprint_bodies.proofs.PieceLaws.{number-there, number_cut, vector-short, vector-there, vector-cut}
use Rattle.fingerprint.specs.ClientHello.{Extension, type_of}
use Rattle.fingerprint.specs.Reader.{in_form, one_extension, ask_body, extension}
use Rattle.fingerprint.specs.Code.{HeaderFound, StepFound}

-- ---- the header

module _ (h : List ℕ) (at : ℕ) where
  room-is : length (drop at h) ≡ length h - at
  room-is = length-drop at h

  after-type : length (drop 2 (drop at h)) ≡ length h - at - 2
  after-type = omega (arith, length-drop 2 (drop at h), room-is)

  pub head-short : length h - at < 4 → one_extension (drop at h) ≡ none
  unfolding one_extension bind
  head-short l = ⊎_elim none_at_all no_length (lt-or-le (length (drop at h)) 2)
    where
      none_at_all : length (drop at h) < 2 → one_extension (drop at h) ≡ none
      none_at_all k = rw (number_cut 2 (drop at h) k)

      no_length : 2 ≤ length (drop at h) → one_extension (drop at h) ≡ none
      no_length k = rw (number-there 2 (drop at h) k, vector-short 2 (drop 2 (drop at h)) (omega (arith, after-type)))

  -- n is the length that the header has
  module _ (n : ℕ) (l : 4 ≤ length h - at) (is : n ≡ number 256 (take 2 (drop (at + 2) h))) where
    length-is : number 256 (take 2 (drop 2 (drop at h))) ≡ n
    length-is = ap (λ (s : List ℕ). number 256 (take 2 s)) (drop-drop 2 at h) ∙ sym is

    pub head-long : length h - (at + 4) < n → one_extension (drop at h) ≡ none
    unfolding one_extension bind
    head-long o =
        rw (number-there 2 (drop at h) (omega (arith, room-is)), vector-cut 2 (drop 2 (drop at h)) n length-is (omega (arith, after-type)) (omega (arith, after-type)))

    pub head-found : (t : ℕ) → t ≡ number 256 (take 2 (drop at h)) → n ≤ length h - (at + 4) → HeaderFound h at t (at + 4) (at + 4 + n)
    unfolding one_extension bind
    head-found t e o =
        let start : drop 2 (drop 2 (drop at h)) ≡ drop (at + 4) h = drop-drop 2 2 (drop at h) ∙ drop-drop 4 at h in
        let size : at + 4 + n - (at + 4) ≡ n = omega arith in
        let end : drop n (drop (at + 4) h) ≡ drop (at + 4 + n) h = drop-drop n (at + 4) h in
        record {
          is = rw (number-there 2 (drop at h) (omega (arith, room-is)), vector-there 2 (drop 2 (drop at h)) n length-is (omega (arith, after-type)) (omega (arith, after-type)), start, size, end, e);
          after-header = refl;
          forward = omega arith;
          inside = omega arith;
        }

-- the place is four bytes before the body
pub own-place : {h : List ℕ} {at t start end : ℕ} → HeaderFound h at t start end → start - 4 ≡ at
own-place f = omega (arith, f.after-header)

-- ---- the questions of a body, with room for one more extension or none

module _ (t : ℕ) where
  abbrev typed : Body → Extension
  typed body = record { type = t; body = body }

  abbrev answer : Option Body → Bool → Answer Extension
  answer x room = in_form x 21 (λ body. ask (ids_new body) 22 (ask (within_counts body && room) 23 (result (typed body))))

  bad : (x : Option Body) (room : Bool) (n : ℕ) → n ≡ asked_of x → (n ≡ 0 → ⊥) → answer x room ≡ refused n
  bad none room n e z = ap (λ (k : ℕ). refused k) (sym e)
  bad (some body) room n e z = go (ids_new body) (within_counts body) e
    where
      go : (a b : Bool) → n ≡ cond a (cond b 0 23) 22 → ask a 22 (ask (b && room) 23 (result (typed body))) ≡ refused n
      go true true e = absurd (z e)
      go true false e = ap (λ (k : ℕ). refused k) (sym e)
      go false b e = ap (λ (k : ℕ). refused k) (sym e)

  full : (x : Option Body) → asked_of x ≡ 0 → answer x false ≡ refused 23
  full none e = absurd (let z : ◌≡◌ {A = ℕ} 21 0 = e in omega (arith, z))
  full (some body) e = go (ids_new body) (within_counts body) e
    where
      go : (a b : Bool) → ◌≡◌ {A = ℕ} (cond a (cond b 0 23) 22) 0 → ask a 22 (ask (b && false) 23 (result (typed body))) ≡ refused 23
      go true true e = refl
      go true false e = refl
      go false b e = absurd (let z : ◌≡◌ {A = ℕ} 22 0 = e in omega (arith, z))

  record Good (x : Option Body) : Type 0 where
    found : Body
    there : x ≡ some found
    is : answer x true ≡ result (typed found)

  good : (x : Option Body) → asked_of x ≡ 0 → Good x
  good none e = absurd (let z : ◌≡◌ {A = ℕ} 21 0 = e in omega (arith, z))
  good (some body) e = record { found = body; there = refl; is = go (ids_new body) (within_counts body) e }
    where
      go : (a b : Bool) → ◌≡◌ {A = ℕ} (cond a (cond b 0 23) 22) 0
          → ask a 22 (ask (b && true) 23 (result (typed body))) ≡ result (typed body)
      go true true e = refl
      go true false e = absurd (let z : ◌≡◌ {A = ℕ} 23 0 = e in omega (arith, z))
      go false b e = absurd (let z : ◌≡◌ {A = ℕ} 22 0 = e in omega (arith, z))

-- a refusal's number is one of document 01
pub asked-small : (k : Kind) (bs : List ℕ) → asked k bs ≤ 27
unfolding asked
asked-small k bs = go (body_of k bs)
  where
    numbers : (a b : Bool) → cond a (cond b 0 23) 22 ≤ 27
    numbers true true = omega arith
    numbers true false = omega arith
    numbers false b = omega arith

    go : (x : Option Body) → asked_of x ≤ 27
    go none = omega arith
    go (some body) = numbers (ids_new body) (within_counts body)

-- a refusal has a number
pub question-some : (e : Refusal) → question e ≡ 0 → ⊥
question-some e z = grind (arith, z)

-- ---- the whole of an extension, after those done

pub step_cut : (done : List Extension) (bs : List ℕ) → one_extension bs ≡ none → extension done bs ≡ refused 20
unfolding extension
step_cut done bs e = rw e

module _ {h : List ℕ} {at t start end : ℕ} (f : HeaderFound h at t start end) (known : List ℕ) where
  abbrev bytes : List ℕ
  bytes = take (end - start) (drop start h)

  sized : (done : List Extension) → map type_of done ≡ known → length done ≡ length known
  sized done e = sym (length-map done type_of) ∙ ap length e

  pub step-known : member t known ≡ true → (done : List Extension) → map type_of done ≡ known → extension done (drop at h) ≡ refused 21
  unfolding extension ask_body
  step-known m done e = rw (f.is, e, m)

  module _ (m : member t known ≡ false) where
    pub step-bad : (n : ℕ) → n ≡ asked (kind t) bytes → (n ≡ 0 → ⊥) → (done : List Extension) → map type_of done ≡ known → extension done (drop at h) ≡ refused n
    unfolding extension ask_body asked
    step-bad n q z done e = rw (f.is, e, m, bad t (body_of (kind t) bytes) (ltb (length done) 64) n q z)

    module _ (q : asked (kind t) bytes ≡ 0) where
      pub step-full : 64 ≤ length known → (done : List Extension) → map type_of done ≡ known → extension done (drop at h) ≡ refused 23
      unfolding extension ask_body asked
      step-full l done e = rw (f.is, e, m, le-ltb (length done) 64 (omega (arith, l, sized done e)), full t (body_of (kind t) bytes) q)

      pub step-found : {k : Kind} → k ≡ kind t → length known < 64 → StepFound h at t k start end known
      unfolding extension ask_body asked
      step-found p l =
          let g : Good t (body_of (kind t) bytes) = good t (body_of (kind t) bytes) q in
          record {
            found = g.found;
            body_is = g.there;
            is = next g l;
            good = q;
            new = m;
            kind-is = p;
            room = l;
            after-header = f.after-header;
            forward = f.forward;
            inside = f.inside;
          }
        where
          next : (g : Good t (body_of (kind t) bytes)) → length known < 64 → (done : List Extension) → map type_of done ≡ known
              → extension done (drop at h) ≡ result (entry (typed t g.found) (drop end h))
          next g l done e = rw (f.is, e, m, lt-ltb (length done) 64 (omega (arith, l, sized done e)), g.is)
