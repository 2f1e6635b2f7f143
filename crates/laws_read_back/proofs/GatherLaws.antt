-- What the extensions of a type hold in a made hello: it comes from the one extension of that type, and is empty where there is none.
-- Assumes nothing.
use Prim.Native.Nat.{ℕ, ◌+◌, ◌≤◌, ◌<◌}
use mathlib.Core.Path.{◌≡◌, refl, sym, ap, ◌∙◌}
use mathlib.Core.Bool.{Bool, true, false, cond, true≢false}
use mathlib.Core.List.{List, [], ◌∷◌, ◌++◌, append-nil}
use native.Mathlib.Decide.{dec_lt}
use native.Mathlib.Omega.{arith}
use lib.ListN.{length}
use lib.Dec.{eqb}
use borrow.Author.Tests.{eqb-true}
use Rattle.wire.specs.Sums.{indicator, count, member, distinct}
use Rattle.wire.proofs.SumLaws.{count-cons, count-permutes, distinct-once, member-nil, member-none, member-some}
use Rattle.profiles.specs.Profile.{Profile}
use Rattle.profiles.specs.Sizes.{after_order}
use Rattle.tls.specs.Hello.{build_extension, order}
use Rattle.tls.proofs.Sent.{order-permutes}
use Rattle.fingerprint_bodies.specs.Body.{Body, kind, encode_body}
use Rattle.fingerprint.specs.Report.{gathered}
use Rattle.laws_read_back.specs.Shown.{carried}
use Rattle.laws_read_back.proofs.Value.{made_body, made_extension, made_extensions}

member-positive : (x : ℕ) (l : List ℕ) → member x l ≡ true → 1 ≤ count x l
member-positive x l m = go (dec_lt 0 (count x l))
  where
    go : Dec (0 < count x l) → 1 ≤ count x l
    go (yes h) = h
    go (no h) = absurd (true≢false (sym m ∙ member-none x l (omega (arith, h))))

-- ---- one type

module _ (p : Profile) (host scid tape : List ℕ) where
  -- the body of the extension of type t, which draws from a place on
  abbrev pub body_at : ℕ → ℕ → Body
  body_at t q = made_body p host scid tape (kind t) t q

  -- what the extensions of type n hold
  module _ {A : Type 0} (f : ℕ → Body → List A) (n : ℕ) where
    other-type : (t : ℕ) (ts : List ℕ) → count n (t ∷ ts) ≡ 0 → eqb n t ≡ false
    other-type t ts h = go (eqb n t) refl
      where
        go : (b : Bool) → eqb n t ≡ b → eqb n t ≡ false
        go true e = absurd (omega (arith, h, count-cons n t ts, ap indicator e))
        go false e = e

    -- of those after the first
    abbrev later : ℕ → List ℕ → ℕ → ℕ → List A
    later t ts at q =
        gathered f n (at + 4 + length (encode_body (body_at t q))) (made_extensions p host scid tape ts (build_extension p host scid tape t q).next)

    gathered_none : (ts : List ℕ) (at q : ℕ) → count n ts ≡ 0 → gathered f n at (made_extensions p host scid tape ts q) ≡ []
    unfolding gathered made_extensions made_extension
    gathered_none [] at q h = refl
    gathered_none (t ∷ ts) at q h =
        rw (other-type t ts h)
        (gathered_none ts (at + 4 + length (encode_body (body_at t q))) (build_extension p host scid tape t q).next (omega (arith, h, count-cons n t ts)))

    -- what is true of what the body of type n holds is true of the whole list
    gathered-once : (P : List A → Type 0) → ((at q : ℕ) → P (f at (body_at n q))) → (ts : List ℕ) (at q : ℕ) → count n ts ≡ 1
        → P (gathered f n at (made_extensions p host scid tape ts q))
    unfolding gathered made_extensions made_extension
    gathered-once P here [] at q h = absurd (omega (arith, h, member-some n [] (member-nil n)))
    gathered-once P here (t ∷ ts) at q h =
        let next : ℕ = at + 4 + length (encode_body (body_at t q)) in
        let drawn : ℕ = (build_extension p host scid tape t q).next in
        go (λ k. gathered_none ts next drawn k) (λ k. gathered-once P here ts next drawn k) (eqb n t) refl
      where
        go : (count n ts ≡ 0 → later t ts at q ≡ []) → (count n ts ≡ 1 → P (later t ts at q)) → (b : Bool) → eqb n t ≡ b
            → P (cond b (f (at + 4) (body_at t q)) [] ++ later t ts at q)
        go none once true e =
            let z : n ≡ t = eqb-true n t e in
            rw (none (omega (arith, h, count-cons n t ts, ap indicator e)), append-nil (f (at + 4) (body_at t q)), ← z) (here (at + 4) q)
        go none once false e = once (omega (arith, h, count-cons n t ts, ap indicator e))

    -- ---- in the order drawn: types stand once each there, as in the profile

    abbrev pub shown : ℕ → List A
    shown at = gathered f n at (made_extensions p host scid tape (order p tape) (after_order p))

    module _ (once : distinct p.extensions_order ≡ true) where
      pub present : (P : List A → Type 0) → ((at q : ℕ) → P (f at (body_at n q))) → (at : ℕ) → member n p.extensions_order ≡ true → P (shown at)
      present P here at m =
          gathered-once P here (order p tape) at (after_order p)
          (omega (
            arith,
            count-permutes n p.extensions_order (order p tape) (order-permutes p tape),
            distinct-once p.extensions_order once n,
            member-positive n p.extensions_order m,
          ))

      -- a relation to what the profile has: it is true of the whole list where it is true of what the body holds, and of empty lists
      pub carries : {B : Type 0} (R : List A → List B → Type 0) (l : List B) → ((at q : ℕ) → R (f at (body_at n q)) l) → R [] [] → (at : ℕ)
          → R (shown at) (carried p n l)
      unfolding carried
      carries R l here empty at = go (member n p.extensions_order) refl
        where
          go : (b : Bool) → member n p.extensions_order ≡ b → R (shown at) (cond b l [])
          go true m = present (λ x. R x l) here at m
          go false m =
              let none : count n (order p tape) ≡ 0 =
              sym (count-permutes n p.extensions_order (order p tape) (order-permutes p tape)) ∙ member-some n p.extensions_order m in
              rw (gathered_none (order p tape) at (after_order p) none) empty
